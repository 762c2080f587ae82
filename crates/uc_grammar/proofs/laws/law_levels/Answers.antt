use Rattle.uc_grammar.proofs.Told.{levels_stand}
use Rattle.uc_grammar.proofs.laws.law_levels.Goals as goal

pub returns : goal.returns
returns c l n ts from to e = levels_stand n ts from to e l

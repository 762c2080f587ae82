use Rattle.uc_grammar.specs.Text.{IsExpr}
use Rattle.uc_grammar.proofs.Told.{name_ends, name_begins}
use Rattle.uc_grammar.proofs.laws.law_name_begins.Goals as goal

pub returns : goal.returns
unfolding IsExpr
returns c n ts from to name e is = (name_ends n ts from to e name is, name_begins n ts from to e name is)

use Rattle.uc_life_laws.proofs.Ending.{law_left}
use Rattle.uc_life_laws.proofs.unmarked.law_left.Goals as goal

pub returns : goal.returns
returns c = law_left

use Rattle.uc_apart_laws.proofs.Clear.{law_clear}
use Rattle.uc_apart_laws.proofs.laws.law_clear.Goals as goal

pub returns : goal.returns
returns c = law_clear

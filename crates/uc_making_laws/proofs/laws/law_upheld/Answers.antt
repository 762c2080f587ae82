use Rattle.uc_making_laws.proofs.Upheld.{law_upheld}
use Rattle.uc_making_laws.proofs.laws.law_upheld.Goals as goal

pub returns : goal.returns
returns c = law_upheld

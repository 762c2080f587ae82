use Rattle.uc_tasked_laws.proofs.SeatsKept.{law_seated}
use Rattle.uc_tasked_laws.proofs.laws.law_seated.Goals as goal

pub returns : goal.returns
returns c = law_seated

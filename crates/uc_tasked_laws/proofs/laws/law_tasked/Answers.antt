use Rattle.uc_tasked_laws.proofs.SeatsKept.{law_tasked}
use Rattle.uc_tasked_laws.proofs.laws.law_tasked.Goals as goal

pub returns : goal.returns
returns c = law_tasked

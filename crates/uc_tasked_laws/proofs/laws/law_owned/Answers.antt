use Rattle.uc_tasked_laws.proofs.SeatsKept.{law_owned}
use Rattle.uc_tasked_laws.proofs.laws.law_owned.Goals as goal

pub returns : goal.returns
returns c = law_owned

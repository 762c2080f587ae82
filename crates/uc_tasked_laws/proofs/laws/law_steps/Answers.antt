use Rattle.uc_tasked_laws.proofs.SeatsKept.{law_steps}
use Rattle.uc_tasked_laws.proofs.laws.law_steps.Goals as goal

pub returns : goal.returns
returns c = law_steps

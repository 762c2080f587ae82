use Rattle.uc_state_laws.proofs.EventWalk.{law_steps}
use Rattle.uc_state_laws.proofs.event.law_steps.Goals as goal

pub returns : goal.returns
returns c = law_steps

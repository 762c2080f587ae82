use Rattle.uc_state_laws.proofs.ValueWalk.{law_steps}
use Rattle.uc_state_laws.proofs.value.law_steps.Goals as goal

pub returns : goal.returns
returns c = law_steps

use Rattle.uc_state_laws.proofs.HandWalk.{law_deep_steps}
use Rattle.uc_state_laws.proofs.hand.law_deep_steps.Goals as goal

pub returns : goal.returns
returns c = law_deep_steps

use Rattle.uc_state_laws.proofs.DeepWorlds.{law_calls}
use Rattle.uc_state_laws.proofs.hand.law_calls.Goals as goal

pub returns : goal.returns
returns c = law_calls

use Rattle.uc_state_laws.proofs.DeepWorlds.{law_deep}
use Rattle.uc_state_laws.proofs.hand.law_deep.Goals as goal

pub returns : goal.returns
returns c = law_deep

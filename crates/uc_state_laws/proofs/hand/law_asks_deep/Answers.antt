use Rattle.uc_state_laws.proofs.DeepWorlds.{law_asks_deep}
use Rattle.uc_state_laws.proofs.hand.law_asks_deep.Goals as goal

pub returns : goal.returns
returns c = law_asks_deep

use Rattle.uc_state_laws.proofs.Others.{law_hand}
use Rattle.uc_state_laws.proofs.program.law_hand.Goals as goal

pub returns : goal.returns
returns c = law_hand

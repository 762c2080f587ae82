use Rattle.uc_state_laws.proofs.ByHandLemmas.{law_by_hand}
use Rattle.uc_state_laws.proofs.program.law_by_hand.Goals as goal

pub returns : goal.returns
returns c = law_by_hand

use Rattle.uc_letting_laws.proofs.LettingWorlds.{law_in_hand}
use Rattle.uc_letting_laws.proofs.laws.law_in_hand.Goals as goal

pub returns : goal.returns
returns c = law_in_hand

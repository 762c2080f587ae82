use Rattle.uc_lent_laws.proofs.LentWorlds.{law_lent}
use Rattle.uc_lent_laws.proofs.laws.law_lent.Goals as goal

pub returns : goal.returns
returns c = law_lent

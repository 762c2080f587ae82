use Rattle.uc_life_laws.proofs.KindsLemmas.{law_known}
use Rattle.uc_life_laws.proofs.life.law_known.Goals as goal

pub returns : goal.returns
returns c = law_known

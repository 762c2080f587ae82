use Rattle.uc_building_laws.proofs.Kept.{law_kept}
use Rattle.uc_building_laws.proofs.laws.law_kept.Goals as goal

pub returns : goal.returns
returns c = law_kept

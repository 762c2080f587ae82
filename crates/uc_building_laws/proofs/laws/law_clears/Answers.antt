use Rattle.uc_building_laws.proofs.Laid.{law_clears}
use Rattle.uc_building_laws.proofs.laws.law_clears.Goals as goal

pub returns : goal.returns
returns c = law_clears

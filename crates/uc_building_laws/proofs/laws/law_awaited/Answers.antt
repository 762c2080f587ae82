use Rattle.uc_building_laws.proofs.Constructors.{law_awaited}
use Rattle.uc_building_laws.proofs.laws.law_awaited.Goals as goal

pub returns : goal.returns
returns c = law_awaited

use Rattle.uc_building_laws.proofs.Worlds.{law_built}
use Rattle.uc_building_laws.proofs.laws.law_built.Goals as goal

pub returns : goal.returns
returns c = law_built

use Rattle.uc_building_laws.proofs.BuiltEndings.{law_built_endings}
use Rattle.uc_building_laws.proofs.laws.law_built_endings.Goals as goal

pub returns : goal.returns
returns c = law_built_endings

use Rattle.uc_building_laws.proofs.BuiltLasting.{law_built_lasting}
use Rattle.uc_building_laws.proofs.laws.law_built_lasting.Goals as goal

pub returns : goal.returns
returns c = law_built_lasting

use Rattle.uc_building_laws.proofs.Constructors.{law_heads}
use Rattle.uc_building_laws.proofs.laws.law_heads.Goals as goal

pub returns : goal.returns
returns c = law_heads

use Rattle.uc_life_laws.proofs.Fewer.{law_fewer}
use Rattle.uc_life_laws.proofs.world.law_fewer.Goals as goal

pub returns : goal.returns
returns c = law_fewer

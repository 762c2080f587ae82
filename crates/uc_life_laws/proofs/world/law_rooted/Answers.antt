use Rattle.uc_life_laws.proofs.Rooted.{law_rooted}
use Rattle.uc_life_laws.proofs.world.law_rooted.Goals as goal

pub returns : goal.returns
returns c = law_rooted

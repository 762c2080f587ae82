use Rattle.uc_life_laws.proofs.KnownWorlds.{law_named}
use Rattle.uc_life_laws.proofs.life.law_named.Goals as goal

pub returns : goal.returns
returns c = law_named

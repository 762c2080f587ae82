use Rattle.uc_life_laws.proofs.KnownWorlds.{law_named}
use Rattle.uc_life_laws.proofs.NamedAsks.{asked_by}
use Rattle.uc_life_laws.proofs.life.law_asked.Goals as goal

pub returns : goal.returns
returns c = asked_by law_named

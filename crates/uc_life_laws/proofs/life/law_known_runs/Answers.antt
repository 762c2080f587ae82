use Rattle.uc_life_laws.proofs.KnownWorlds.{law_known_runs}
use Rattle.uc_life_laws.proofs.life.law_known_runs.Goals as goal

pub returns : goal.returns
returns c = law_known_runs

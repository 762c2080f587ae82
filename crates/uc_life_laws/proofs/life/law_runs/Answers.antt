use Rattle.uc_life_laws.proofs.LifeWorlds.{law_runs}
use Rattle.uc_life_laws.proofs.life.law_runs.Goals as goal

pub returns : goal.returns
returns c = law_runs

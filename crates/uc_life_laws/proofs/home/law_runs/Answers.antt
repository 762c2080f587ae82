use Rattle.uc_life_laws.proofs.HomedWorlds.{law_runs}
use Rattle.uc_life_laws.proofs.home.law_runs.Goals as goal

pub returns : goal.returns
returns c = law_runs

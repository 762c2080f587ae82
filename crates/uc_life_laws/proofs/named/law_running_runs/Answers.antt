use Rattle.uc_life_laws.proofs.RunningWorlds.{law_running_runs}
use Rattle.uc_life_laws.proofs.named.law_running_runs.Goals as goal

pub returns : goal.returns
returns c = law_running_runs

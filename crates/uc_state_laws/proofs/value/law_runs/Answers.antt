use Rattle.uc_state_laws.proofs.ValueWorlds.{law_runs}
use Rattle.uc_state_laws.proofs.value.law_runs.Goals as goal

pub returns : goal.returns
returns c = law_runs

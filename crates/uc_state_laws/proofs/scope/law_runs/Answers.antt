use Rattle.uc_state_laws.proofs.RoomWorlds.{law_runs}
use Rattle.uc_state_laws.proofs.scope.law_runs.Goals as goal

pub returns : goal.returns
returns c = law_runs

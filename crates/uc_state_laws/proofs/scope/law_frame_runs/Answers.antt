use Rattle.uc_state_laws.proofs.StackWorlds.{law_frame_runs}
use Rattle.uc_state_laws.proofs.scope.law_frame_runs.Goals as goal

pub returns : goal.returns
returns c = law_frame_runs

use Rattle.uc_state_laws.proofs.StackWorlds.{law_frames}
use Rattle.uc_state_laws.proofs.scope.law_frames.Goals as goal

pub returns : goal.returns
returns c = law_frames

use Rattle.uc_parts_laws.proofs.ClearedFrames.{law_cleared_frames}
use Rattle.uc_parts_laws.proofs.laws.law_cleared_frames.Goals as goal

pub returns : goal.returns
returns c = law_cleared_frames

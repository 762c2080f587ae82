use Rattle.uc_parts_laws.proofs.FramesStay.{law_frames_stay}
use Rattle.uc_parts_laws.proofs.laws.law_frames_stay.Goals as goal

pub returns : goal.returns
returns c = law_frames_stay

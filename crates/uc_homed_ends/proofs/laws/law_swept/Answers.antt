use Rattle.uc_homed_ends.proofs.Ended.{law_swept}
use Rattle.uc_homed_ends.proofs.laws.law_swept.Goals as goal

pub returns : goal.returns
returns c = law_swept

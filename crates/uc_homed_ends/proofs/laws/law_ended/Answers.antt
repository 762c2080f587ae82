use Rattle.uc_homed_ends.proofs.Ended.{law_ended}
use Rattle.uc_homed_ends.proofs.laws.law_ended.Goals as goal

pub returns : goal.returns
returns c = law_ended

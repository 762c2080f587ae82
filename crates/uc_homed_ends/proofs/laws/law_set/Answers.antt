use Rattle.uc_homed_ends.proofs.BoundRuns.{law_set}
use Rattle.uc_homed_ends.proofs.laws.law_set.Goals as goal

pub returns : goal.returns
returns c = law_set

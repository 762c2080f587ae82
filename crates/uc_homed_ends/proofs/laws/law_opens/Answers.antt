use Rattle.uc_homed_ends.proofs.BoundRuns.{law_opens_all}
use Rattle.uc_homed_ends.proofs.laws.law_opens.Goals as goal

pub returns : goal.returns
returns c = law_opens_all

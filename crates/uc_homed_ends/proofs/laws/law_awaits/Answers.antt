use Rattle.uc_homed_ends.proofs.BoundRuns.{law_awaits}
use Rattle.uc_homed_ends.proofs.laws.law_awaits.Goals as goal

pub returns : goal.returns
returns c = law_awaits

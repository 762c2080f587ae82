use Rattle.uc_meaning.proofs.LateSampled.{late_run}
use Rattle.uc_meaning.proofs.samples.late_run.Goals as goal

pub returns : goal.returns
returns c = late_run

use Rattle.uc_meaning.proofs.MonitorsSampled.{told_run}
use Rattle.uc_meaning.proofs.samples.told_run.Goals as goal

pub returns : goal.returns
returns c = told_run

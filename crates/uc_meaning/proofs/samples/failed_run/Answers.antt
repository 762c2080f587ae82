use Rattle.uc_meaning.proofs.MonitorsSampled.{failed_run}
use Rattle.uc_meaning.proofs.samples.failed_run.Goals as goal

pub returns : goal.returns
returns c = failed_run

use Rattle.uc_meaning.proofs.MonitorsSampled.{migrated_run}
use Rattle.uc_meaning.proofs.samples.migrated_run.Goals as goal

pub returns : goal.returns
returns c = migrated_run

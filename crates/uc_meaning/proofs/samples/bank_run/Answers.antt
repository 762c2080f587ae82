use Rattle.uc_meaning.proofs.MonitorsSampled.{bank_run}
use Rattle.uc_meaning.proofs.samples.bank_run.Goals as goal

pub returns : goal.returns
returns c = bank_run

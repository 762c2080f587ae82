use Rattle.uc_meaning.proofs.SignalledSampled.{signalled_run}
use Rattle.uc_meaning.proofs.samples.signalled_run.Goals as goal

pub returns : goal.returns
returns c = signalled_run

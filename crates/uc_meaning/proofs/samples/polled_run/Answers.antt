use Rattle.uc_meaning.proofs.PolledSampled.{polled_run}
use Rattle.uc_meaning.proofs.samples.polled_run.Goals as goal

pub returns : goal.returns
returns c = polled_run

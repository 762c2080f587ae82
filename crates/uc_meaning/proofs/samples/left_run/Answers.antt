use Rattle.uc_meaning.proofs.CoroutinesSampled.{left_run}
use Rattle.uc_meaning.proofs.samples.left_run.Goals as goal

pub returns : goal.returns
returns c = left_run

use Rattle.uc_meaning.proofs.CoroutinesSampled.{switched_run}
use Rattle.uc_meaning.proofs.samples.switched_run.Goals as goal

pub returns : goal.returns
returns c = switched_run

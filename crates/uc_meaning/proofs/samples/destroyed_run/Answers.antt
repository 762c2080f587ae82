use Rattle.uc_meaning.proofs.CoroutinesSampled.{destroyed_run}
use Rattle.uc_meaning.proofs.samples.destroyed_run.Goals as goal

pub returns : goal.returns
returns c = destroyed_run

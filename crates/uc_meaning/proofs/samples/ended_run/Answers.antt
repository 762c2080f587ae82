use Rattle.uc_meaning.proofs.CoroutinesSampled.{ended_run}
use Rattle.uc_meaning.proofs.samples.ended_run.Goals as goal

pub returns : goal.returns
returns c = ended_run

use Rattle.uc_meaning.proofs.GuardedSampled.{guarded_run}
use Rattle.uc_meaning.proofs.samples.guarded_run.Goals as goal

pub returns : goal.returns
returns c = guarded_run

use Rattle.uc_meaning.proofs.ObjectsSampled.{array_run}
use Rattle.uc_meaning.proofs.samples.array_run.Goals as goal

pub returns : goal.returns
returns c = array_run

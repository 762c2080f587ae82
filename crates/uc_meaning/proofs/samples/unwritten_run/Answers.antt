use Rattle.uc_meaning.proofs.ObjectsSampled.{unwritten_run}
use Rattle.uc_meaning.proofs.samples.unwritten_run.Goals as goal

pub returns : goal.returns
returns c = unwritten_run

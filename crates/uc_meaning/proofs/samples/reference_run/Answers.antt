use Rattle.uc_meaning.proofs.ObjectsSampled.{reference_run}
use Rattle.uc_meaning.proofs.samples.reference_run.Goals as goal

pub returns : goal.returns
returns c = reference_run

use Rattle.uc_meaning.proofs.ObjectsSampled.{nested_run}
use Rattle.uc_meaning.proofs.samples.nested_run.Goals as goal

pub returns : goal.returns
returns c = nested_run

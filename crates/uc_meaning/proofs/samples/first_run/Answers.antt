use Rattle.uc_meaning.proofs.RunsSampled.{first_run}
use Rattle.uc_meaning.proofs.samples.first_run.Goals as goal

pub returns : goal.returns
returns c = first_run

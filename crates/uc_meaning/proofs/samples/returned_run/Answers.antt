use Rattle.uc_meaning.proofs.RaisingSampled.{returned_run}
use Rattle.uc_meaning.proofs.samples.returned_run.Goals as goal

pub returns : goal.returns
returns c = returned_run

use Rattle.uc_meaning.proofs.RaisingSampled.{resumed_run}
use Rattle.uc_meaning.proofs.samples.resumed_run.Goals as goal

pub returns : goal.returns
returns c = resumed_run

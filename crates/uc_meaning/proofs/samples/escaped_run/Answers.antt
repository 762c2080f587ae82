use Rattle.uc_meaning.proofs.RaisingSampled.{escaped_run}
use Rattle.uc_meaning.proofs.samples.escaped_run.Goals as goal

pub returns : goal.returns
returns c = escaped_run

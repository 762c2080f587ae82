use Rattle.uc_meaning.proofs.RaisingSampled.{thrown_run}
use Rattle.uc_meaning.proofs.samples.thrown_run.Goals as goal

pub returns : goal.returns
returns c = thrown_run

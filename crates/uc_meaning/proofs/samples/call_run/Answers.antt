use Rattle.uc_meaning.proofs.RunsSampled.{call_run}
use Rattle.uc_meaning.proofs.samples.call_run.Goals as goal

pub returns : goal.returns
returns c = call_run

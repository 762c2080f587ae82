use Rattle.uc_meaning.proofs.RunsSampled.{loop_run}
use Rattle.uc_meaning.proofs.samples.loop_run.Goals as goal

pub returns : goal.returns
returns c = loop_run

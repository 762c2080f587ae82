use Rattle.uc_meaning.proofs.TwoStepsSampled.{two_steps_run}
use Rattle.uc_meaning.proofs.samples.two_steps_run.Goals as goal

pub returns : goal.returns
returns c = two_steps_run

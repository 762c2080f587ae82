use Rattle.uc_acts.proofs.Sampled.{accept_samples}
use Rattle.uc_acts.proofs.samples.accepts.Goals as goal

pub returns : goal.returns
returns c = accept_samples

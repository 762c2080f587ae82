use Rattle.uc_acts.proofs.Sampled.{bound_samples}
use Rattle.uc_acts.proofs.samples.bounds.Goals as goal

pub returns : goal.returns
returns c = bound_samples

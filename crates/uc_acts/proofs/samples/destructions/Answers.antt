use Rattle.uc_acts.proofs.Sampled.{busy_samples}
use Rattle.uc_acts.proofs.samples.destructions.Goals as goal

pub returns : goal.returns
returns c = busy_samples

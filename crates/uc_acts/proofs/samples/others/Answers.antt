use Rattle.uc_acts.proofs.Sampled.{other_samples}
use Rattle.uc_acts.proofs.samples.others.Goals as goal

pub returns : goal.returns
returns c = other_samples

use Rattle.uc_acts.proofs.Sampled.{condition_samples}
use Rattle.uc_acts.proofs.samples.conditions.Goals as goal

pub returns : goal.returns
returns c = condition_samples

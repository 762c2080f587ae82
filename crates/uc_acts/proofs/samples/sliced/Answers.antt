use Rattle.uc_acts.proofs.Sampled.{sliced}
use Rattle.uc_acts.proofs.samples.sliced.Goals as goal

pub returns : goal.returns
returns c = sliced

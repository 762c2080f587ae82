use Rattle.uc_acts.proofs.Sampled.{unserved}
use Rattle.uc_acts.proofs.samples.unserved.Goals as goal

pub returns : goal.returns
returns c = unserved

use Rattle.uc_judge.proofs.Sampled.{unlined}
use Rattle.uc_judge.proofs.samples.unlined.Goals as goal

pub returns : goal.returns
returns c = unlined

use Rattle.uc_judge.proofs.Sampled.{changed}
use Rattle.uc_judge.proofs.samples.changed.Goals as goal

pub returns : goal.returns
returns c = changed

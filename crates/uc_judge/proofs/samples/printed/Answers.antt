use Rattle.uc_judge.proofs.Sampled.{printed}
use Rattle.uc_judge.proofs.samples.printed.Goals as goal

pub returns : goal.returns
returns c = printed

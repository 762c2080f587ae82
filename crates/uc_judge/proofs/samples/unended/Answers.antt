use Rattle.uc_judge.proofs.Sampled.{unended_both}
use Rattle.uc_judge.proofs.samples.unended.Goals as goal

pub returns : goal.returns
returns c = unended_both

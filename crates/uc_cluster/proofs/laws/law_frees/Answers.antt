use Rattle.uc_cluster.proofs.Mirrors.{frees}
use Rattle.uc_cluster.proofs.laws.law_frees.Goals as goal

pub returns : goal.returns
returns c = frees

use Rattle.uc_cluster.proofs.Mirrors.{unready}
use Rattle.uc_cluster.proofs.laws.law_unready.Goals as goal

pub returns : goal.returns
returns c = unready

use Rattle.uc_cluster.proofs.Desks.{cluster_more}
use Rattle.uc_cluster.proofs.laws.law_cluster.Goals as goal

pub returns : goal.returns
returns c = cluster_more

use Rattle.uc_cluster.proofs.Desks.{clusters_stay}
use Rattle.uc_cluster.proofs.laws.law_clusters.Goals as goal

pub returns : goal.returns
returns c = clusters_stay

use Rattle.uc_cluster.proofs.Places.{spawned}
use Rattle.uc_cluster.proofs.laws.law_spawned.Goals as goal

pub returns : goal.returns
returns c = spawned

use Rattle.uc_cluster.proofs.Places.{ended}
use Rattle.uc_cluster.proofs.laws.law_ended.Goals as goal

pub returns : goal.returns
returns c = ended

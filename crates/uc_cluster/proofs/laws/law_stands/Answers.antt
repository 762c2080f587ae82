use Rattle.uc_cluster.proofs.Places.{stands}
use Rattle.uc_cluster.proofs.laws.law_stands.Goals as goal

pub returns : goal.returns
returns c = stands

use Rattle.uc_cluster.proofs.Asked.{in_use}
use Rattle.uc_cluster.proofs.laws.law_in_use.Goals as goal

pub returns : goal.returns
returns c = in_use

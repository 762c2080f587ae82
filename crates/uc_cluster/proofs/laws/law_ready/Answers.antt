use Rattle.uc_cluster.proofs.Mirrors.{ready_one}
use Rattle.uc_cluster.proofs.laws.law_ready.Goals as goal

pub returns : goal.returns
returns c = ready_one

use Rattle.uc_cluster.proofs.Asked.{stalled}
use Rattle.uc_cluster.proofs.laws.law_stalled.Goals as goal

pub returns : goal.returns
returns c = stalled

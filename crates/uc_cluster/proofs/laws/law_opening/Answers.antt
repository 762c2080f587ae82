use Rattle.uc_cluster.proofs.Asked.{opens_so}
use Rattle.uc_cluster.proofs.laws.law_opening.Goals as goal

pub returns : goal.returns
returns c = opens_so

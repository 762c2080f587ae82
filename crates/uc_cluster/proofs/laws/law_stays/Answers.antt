use Rattle.uc_cluster.proofs.Mirrors.{stays}
use Rattle.uc_cluster.proofs.laws.law_stays.Goals as goal

pub returns : goal.returns
returns c = stays

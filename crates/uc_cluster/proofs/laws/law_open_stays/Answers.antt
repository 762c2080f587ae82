use Rattle.uc_cluster.proofs.Desks.{open_stays}
use Rattle.uc_cluster.proofs.laws.law_open_stays.Goals as goal

pub returns : goal.returns
returns c = open_stays

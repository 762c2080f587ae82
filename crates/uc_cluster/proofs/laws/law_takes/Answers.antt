use Rattle.uc_cluster.proofs.Mirrors.{takes}
use Rattle.uc_cluster.proofs.laws.law_takes.Goals as goal

pub returns : goal.returns
returns c = takes

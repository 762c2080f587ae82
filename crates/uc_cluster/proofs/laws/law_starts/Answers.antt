use Rattle.uc_cluster.proofs.Mirrors.{starts}
use Rattle.uc_cluster.proofs.laws.law_starts.Goals as goal

pub returns : goal.returns
returns c = starts

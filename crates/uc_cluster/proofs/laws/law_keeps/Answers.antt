use Rattle.uc_cluster.proofs.Mirrors.{keeps}
use Rattle.uc_cluster.proofs.laws.law_keeps.Goals as goal

pub returns : goal.returns
returns c = keeps

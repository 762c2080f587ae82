use Rattle.uc_cluster.proofs.Desks.{closes_one}
use Rattle.uc_cluster.proofs.laws.law_closes.Goals as goal

pub returns : goal.returns
returns c = closes_one

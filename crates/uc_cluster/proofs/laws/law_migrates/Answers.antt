use Rattle.uc_cluster.proofs.Places.{migrates}
use Rattle.uc_cluster.proofs.laws.law_migrates.Goals as goal

pub returns : goal.returns
returns c = migrates

use Rattle.uc_rooted_runs.proofs.Births.{law_births}
use Rattle.uc_rooted_runs.proofs.laws.law_births.Goals as goal

pub returns : goal.returns
returns c = law_births

use Rattle.uc_rooted_runs.proofs.Binds.{law_binds}
use Rattle.uc_rooted_runs.proofs.laws.law_binds.Goals as goal

pub returns : goal.returns
returns c = law_binds

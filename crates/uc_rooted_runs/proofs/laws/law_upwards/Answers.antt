use Rattle.uc_rooted_runs.proofs.Upwards.{law_upwards}
use Rattle.uc_rooted_runs.proofs.laws.law_upwards.Goals as goal

pub returns : goal.returns
returns c = law_upwards

use Rattle.uc_rooted_runs.proofs.Outlasting.{law_outlasting}
use Rattle.uc_rooted_runs.proofs.laws.law_outlasting.Goals as goal

pub returns : goal.returns
returns c = law_outlasting

use Rattle.uc_rooted_runs.proofs.OutlastNames.{law_outlast_names}
use Rattle.uc_rooted_runs.proofs.laws.law_outlast_names.Goals as goal

pub returns : goal.returns
returns c = law_outlast_names

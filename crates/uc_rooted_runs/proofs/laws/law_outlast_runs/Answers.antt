use Rattle.uc_rooted_runs.proofs.OutlastRuns.{law_outlast_runs}
use Rattle.uc_rooted_runs.proofs.laws.law_outlast_runs.Goals as goal

pub returns : goal.returns
returns c = law_outlast_runs

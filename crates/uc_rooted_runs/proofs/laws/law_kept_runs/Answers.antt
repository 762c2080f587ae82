use Rattle.uc_rooted_runs.proofs.KeptRuns.{law_kept_runs}
use Rattle.uc_rooted_runs.proofs.laws.law_kept_runs.Goals as goal

pub returns : goal.returns
returns c = law_kept_runs

use Rattle.uc_rooted_runs.proofs.MadeRuns.{law_made_runs}
use Rattle.uc_rooted_runs.proofs.laws.law_made_runs.Goals as goal

pub returns : goal.returns
returns c = law_made_runs

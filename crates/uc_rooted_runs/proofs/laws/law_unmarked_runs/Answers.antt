use Rattle.uc_rooted_runs.proofs.UnmarkedRuns.{law_unmarked_runs}
use Rattle.uc_rooted_runs.proofs.laws.law_unmarked_runs.Goals as goal

pub returns : goal.returns
returns c = law_unmarked_runs

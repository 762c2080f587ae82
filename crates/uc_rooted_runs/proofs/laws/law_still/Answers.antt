use Rattle.uc_rooted_runs.proofs.StillRuns.{law_still}
use Rattle.uc_rooted_runs.proofs.laws.law_still.Goals as goal

pub returns : goal.returns
returns c = law_still

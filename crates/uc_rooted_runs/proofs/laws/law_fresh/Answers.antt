use Rattle.uc_rooted_runs.proofs.FreshRuns.{law_fresh}
use Rattle.uc_rooted_runs.proofs.laws.law_fresh.Goals as goal

pub returns : goal.returns
returns c = law_fresh

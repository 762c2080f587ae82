use Rattle.uc_rooted_runs.proofs.MainRuns.{law_mains}
use Rattle.uc_rooted_runs.proofs.laws.law_mains.Goals as goal

pub returns : goal.returns
returns c = law_mains

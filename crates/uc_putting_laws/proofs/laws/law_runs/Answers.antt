use Rattle.uc_putting_laws.proofs.PuttingRuns.{law_runs}
use Rattle.uc_putting_laws.proofs.laws.law_runs.Goals as goal

pub returns : goal.returns
returns c = law_runs

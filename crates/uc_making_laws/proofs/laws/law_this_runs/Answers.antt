use Rattle.uc_making_laws.proofs.ThisRuns.{law_this_runs}
use Rattle.uc_making_laws.proofs.laws.law_this_runs.Goals as goal

pub returns : goal.returns
returns c = law_this_runs

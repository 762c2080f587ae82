use Rattle.uc_making_laws.proofs.LettingRuns.{law_letting_runs}
use Rattle.uc_making_laws.proofs.laws.law_letting_runs.Goals as goal

pub returns : goal.returns
returns c = law_letting_runs

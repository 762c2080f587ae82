use Rattle.uc_place_laws.proofs.PutsRuns.{law_runs}
use Rattle.uc_place_laws.proofs.aside.law_runs.Goals as goal

pub returns : goal.returns
returns c = law_runs

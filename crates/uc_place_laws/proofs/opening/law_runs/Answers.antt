use Rattle.uc_place_laws.proofs.OpeningRuns.{law_runs}
use Rattle.uc_place_laws.proofs.opening.law_runs.Goals as goal

pub returns : goal.returns
returns c = law_runs

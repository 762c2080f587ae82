use Rattle.uc_parts_laws.proofs.PartsRuns.{law_parts_runs}
use Rattle.uc_parts_laws.proofs.laws.law_parts_runs.Goals as goal

pub returns : goal.returns
returns c = law_parts_runs

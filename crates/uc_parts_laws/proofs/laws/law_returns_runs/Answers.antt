use Rattle.uc_parts_laws.proofs.ReturnRuns.{law_returns_runs}
use Rattle.uc_parts_laws.proofs.laws.law_returns_runs.Goals as goal

pub returns : goal.returns
returns c = law_returns_runs

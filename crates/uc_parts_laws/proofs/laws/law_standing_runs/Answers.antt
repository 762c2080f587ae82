use Rattle.uc_parts_laws.proofs.StandingRuns.{law_standing_runs}
use Rattle.uc_parts_laws.proofs.laws.law_standing_runs.Goals as goal

pub returns : goal.returns
returns c = law_standing_runs

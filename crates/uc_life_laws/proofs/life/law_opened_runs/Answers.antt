use Rattle.uc_life_laws.proofs.OpenedRuns.{law_opened_runs}
use Rattle.uc_life_laws.proofs.life.law_opened_runs.Goals as goal

pub returns : goal.returns
returns c = law_opened_runs

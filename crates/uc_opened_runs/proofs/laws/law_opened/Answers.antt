use Rattle.uc_opened_runs.proofs.OpenedRuns.{law_opened}
use Rattle.uc_opened_runs.proofs.laws.law_opened.Goals as goal

pub returns : goal.returns
returns c = law_opened

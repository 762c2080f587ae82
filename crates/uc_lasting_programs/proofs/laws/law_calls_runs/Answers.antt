use Rattle.uc_lasting_programs.proofs.CallsRuns.{law_calls_runs}
use Rattle.uc_lasting_programs.proofs.laws.law_calls_runs.Goals as goal

pub returns : goal.returns
returns c = law_calls_runs

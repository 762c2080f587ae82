use Rattle.uc_place_laws.proofs.Taking.{law_taken_runs}
use Rattle.uc_place_laws.proofs.binding.law_taken_runs.Goals as goal

pub returns : goal.returns
returns c = law_taken_runs

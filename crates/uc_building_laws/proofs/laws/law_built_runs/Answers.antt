use Rattle.uc_building_laws.proofs.BuiltRuns.{law_built_runs}
use Rattle.uc_building_laws.proofs.laws.law_built_runs.Goals as goal

pub returns : goal.returns
returns c = law_built_runs

use Rattle.uc_making_laws.proofs.BuilderRuns.{law_builder_runs}
use Rattle.uc_making_laws.proofs.laws.law_builder_runs.Goals as goal

pub returns : goal.returns
returns c = law_builder_runs

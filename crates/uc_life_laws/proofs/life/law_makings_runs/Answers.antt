use Rattle.uc_life_laws.proofs.MakingsRuns.{law_makings_runs}
use Rattle.uc_life_laws.proofs.life.law_makings_runs.Goals as goal

pub returns : goal.returns
returns c = law_makings_runs

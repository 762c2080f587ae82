use Rattle.uc_life_laws.proofs.UnmarkedWorlds.{law_runs}
use Rattle.uc_life_laws.proofs.unmarked.law_runs.Goals as goal

pub returns : goal.returns
returns c = law_runs

use Rattle.uc_place_laws.proofs.BindingWorlds.{law_runs}
use Rattle.uc_place_laws.proofs.binding.law_runs.Goals as goal

pub returns : goal.returns
returns c = law_runs

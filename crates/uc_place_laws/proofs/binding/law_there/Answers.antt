use Rattle.uc_place_laws.proofs.OpenRuns.{law_there}
use Rattle.uc_place_laws.proofs.binding.law_there.Goals as goal

pub returns : goal.returns
returns c = law_there

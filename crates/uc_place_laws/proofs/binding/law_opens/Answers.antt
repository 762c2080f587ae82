use Rattle.uc_place_laws.proofs.OpenRuns.{law_opens}
use Rattle.uc_place_laws.proofs.binding.law_opens.Goals as goal

pub returns : goal.returns
returns c = law_opens

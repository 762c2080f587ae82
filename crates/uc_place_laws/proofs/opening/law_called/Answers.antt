use Rattle.uc_place_laws.proofs.OpeningLawSteps.{law_called}
use Rattle.uc_place_laws.proofs.opening.law_called.Goals as goal

pub returns : goal.returns
returns c = law_called

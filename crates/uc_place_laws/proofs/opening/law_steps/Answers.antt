use Rattle.uc_place_laws.proofs.OpeningLawSteps.{law_steps}
use Rattle.uc_place_laws.proofs.opening.law_steps.Goals as goal

pub returns : goal.returns
returns c = law_steps

use Rattle.uc_place_laws.proofs.AsideLawSteps.{law_steps}
use Rattle.uc_place_laws.proofs.aside.law_steps.Goals as goal

pub returns : goal.returns
returns c = law_steps

use Rattle.uc_putting_laws.proofs.LawSteps.{law_steps}
use Rattle.uc_putting_laws.proofs.laws.law_steps.Goals as goal

pub returns : goal.returns
returns c = law_steps

use Rattle.uc_name_laws.proofs.Walk.{law_steps}
use Rattle.uc_name_laws.proofs.laws.law_steps.Goals as goal

pub returns : goal.returns
returns c = law_steps

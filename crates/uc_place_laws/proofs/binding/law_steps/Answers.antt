use Rattle.uc_place_laws.proofs.BindingWalk.{law_steps}
use Rattle.uc_place_laws.proofs.binding.law_steps.Goals as goal

pub returns : goal.returns
returns c = law_steps

use Rattle.uc_homed_ends.proofs.BoundWalk.{law_bound_steps}
use Rattle.uc_homed_ends.proofs.laws.law_bound_steps.Goals as goal

pub returns : goal.returns
returns c = law_bound_steps

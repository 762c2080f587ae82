use Rattle.uc_homed_ends.proofs.ArrayWalk.{law_array_steps}
use Rattle.uc_homed_ends.proofs.laws.law_array_steps.Goals as goal

pub returns : goal.returns
returns c = law_array_steps

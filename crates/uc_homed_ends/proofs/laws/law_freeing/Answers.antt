use Rattle.uc_homed_ends.proofs.FreeingWalk.{law_freeing}
use Rattle.uc_homed_ends.proofs.laws.law_freeing.Goals as goal

pub returns : goal.returns
returns c = law_freeing

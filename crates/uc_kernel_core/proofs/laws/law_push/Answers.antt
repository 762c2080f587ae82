use Rattle.uc_kernel_core.proofs.DoorLemmas.{push_one}
use Rattle.uc_kernel_core.proofs.laws.law_push.Goals as goal

pub returns : goal.returns
returns c = push_one

use Rattle.uc_kernel_core.proofs.DoorLemmas.{call}
use Rattle.uc_kernel_core.proofs.laws.law_call.Goals as goal

pub returns : goal.returns
returns c = call

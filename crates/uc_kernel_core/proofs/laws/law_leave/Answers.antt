use Rattle.uc_kernel_core.proofs.DoorLemmas.{leaves}
use Rattle.uc_kernel_core.proofs.laws.law_leave.Goals as goal

pub returns : goal.returns
returns c = leaves

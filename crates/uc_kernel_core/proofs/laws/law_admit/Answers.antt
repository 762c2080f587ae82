use Rattle.uc_kernel_core.proofs.DoorLemmas.{admit_one}
use Rattle.uc_kernel_core.proofs.laws.law_admit.Goals as goal

pub returns : goal.returns
returns c = admit_one

use Rattle.uc_kernel_core.proofs.DoorLemmas.{meets}
use Rattle.uc_kernel_core.proofs.laws.law_meets.Goals as goal

pub returns : goal.returns
returns c = meets

use Rattle.uc_kernel_core.proofs.DoorLemmas.{still}
use Rattle.uc_kernel_core.proofs.laws.law_still.Goals as goal

pub returns : goal.returns
returns c = still

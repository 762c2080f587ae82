use Rattle.uc_kernel_core.proofs.DoorLemmas.{opens}
use Rattle.uc_kernel_core.proofs.laws.law_opens.Goals as goal

pub returns : goal.returns
returns c = opens

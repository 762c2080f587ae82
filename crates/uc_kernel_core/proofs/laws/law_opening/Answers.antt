use Rattle.uc_kernel_core.proofs.DoorLemmas.{opening}
use Rattle.uc_kernel_core.proofs.laws.law_opening.Goals as goal

pub returns : goal.returns
returns c = opening

use Rattle.uc_kernel_core.proofs.DoorLemmas.{elsewhere}
use Rattle.uc_kernel_core.proofs.laws.law_elsewhere.Goals as goal

pub returns : goal.returns
returns c = elsewhere

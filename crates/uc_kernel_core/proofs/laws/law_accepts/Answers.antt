use Rattle.uc_kernel_core.proofs.DoorLemmas.{accepts}
use Rattle.uc_kernel_core.proofs.laws.law_accepts.Goals as goal

pub returns : goal.returns
returns c = accepts

use Rattle.uc_kernel_core.proofs.DoorLemmas.{out}
use Rattle.uc_kernel_core.proofs.laws.law_out.Goals as goal

pub returns : goal.returns
returns c = out

use Rattle.uc_kernel_core.proofs.DoorLemmas.{make_one}
use Rattle.uc_kernel_core.proofs.laws.law_make.Goals as goal

pub returns : goal.returns
returns c = make_one

use Rattle.uc_kernel_core.proofs.Agreements.{law_of_call}
use Rattle.uc_kernel_core.proofs.laws.law_called.Goals as goal

pub returns : goal.returns
returns c = law_of_call

use Rattle.uc_kernel_core.proofs.Agreements.{law_of_accept}
use Rattle.uc_kernel_core.proofs.laws.law_accepted.Goals as goal

pub returns : goal.returns
returns c = law_of_accept

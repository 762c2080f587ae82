use Rattle.uc_kernel_core.proofs.Agreements.{law_of_next}
use Rattle.uc_kernel_core.proofs.laws.law_next.Goals as goal

pub returns : goal.returns
returns c = law_of_next

use Rattle.uc_putting_laws.proofs.Routines.{law_calling}
use Rattle.uc_putting_laws.proofs.laws.law_calling.Goals as goal

pub returns : goal.returns
returns c = law_calling

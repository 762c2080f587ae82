use Rattle.uc_putting_laws.proofs.Puts.{law_puts}
use Rattle.uc_putting_laws.proofs.laws.law_puts.Goals as goal

pub returns : goal.returns
returns c = law_puts

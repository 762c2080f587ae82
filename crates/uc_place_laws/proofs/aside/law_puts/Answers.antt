use Rattle.uc_place_laws.proofs.Puts.{law_puts}
use Rattle.uc_place_laws.proofs.aside.law_puts.Goals as goal

pub returns : goal.returns
returns c = law_puts

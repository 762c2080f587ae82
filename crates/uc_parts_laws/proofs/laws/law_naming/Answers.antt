use Rattle.uc_parts_laws.proofs.Naming.{law_naming}
use Rattle.uc_parts_laws.proofs.laws.law_naming.Goals as goal

pub returns : goal.returns
returns c = law_naming

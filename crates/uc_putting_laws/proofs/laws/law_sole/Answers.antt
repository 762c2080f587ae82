use Rattle.uc_putting_laws.proofs.Fields.{law_sole}
use Rattle.uc_putting_laws.proofs.laws.law_sole.Goals as goal

pub returns : goal.returns
returns c = law_sole

use Rattle.uc_parts_laws.proofs.Lodgers.{law_lodgers}
use Rattle.uc_parts_laws.proofs.laws.law_lodgers.Goals as goal

pub returns : goal.returns
returns c = law_lodgers

use Rattle.uc_parts_laws.proofs.Lodging.{law_lodging}
use Rattle.uc_parts_laws.proofs.laws.law_lodging.Goals as goal

pub returns : goal.returns
returns c = law_lodging

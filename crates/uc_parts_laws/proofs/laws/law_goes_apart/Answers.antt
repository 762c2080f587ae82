use Rattle.uc_parts_laws.proofs.GoingApart.{law_goes_apart}
use Rattle.uc_parts_laws.proofs.laws.law_goes_apart.Goals as goal

pub returns : goal.returns
returns c = law_goes_apart

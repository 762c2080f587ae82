use Rattle.uc_putting_laws.proofs.ApartElements.{law_apart_elements}
use Rattle.uc_putting_laws.proofs.laws.law_apart_elements.Goals as goal

pub returns : goal.returns
returns c = law_apart_elements

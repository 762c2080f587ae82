use Rattle.uc_parts_laws.proofs.BoundAside.{law_bound_aside}
use Rattle.uc_parts_laws.proofs.laws.law_bound_aside.Goals as goal

pub returns : goal.returns
returns c = law_bound_aside

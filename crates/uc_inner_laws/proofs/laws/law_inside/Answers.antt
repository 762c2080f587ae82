use Rattle.uc_inner_laws.proofs.Walk.{law_is_inside}
use Rattle.uc_inner_laws.proofs.laws.law_inside.Goals as goal

pub returns : goal.returns
returns c = law_is_inside

use Rattle.uc_depth_laws.proofs.Standing.{law_inside}
use Rattle.uc_depth_laws.proofs.laws.law_inside.Goals as goal

pub returns : goal.returns
returns c = law_inside

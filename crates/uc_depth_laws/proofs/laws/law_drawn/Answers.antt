use Rattle.uc_depth_laws.proofs.Standing.{law_drawn}
use Rattle.uc_depth_laws.proofs.laws.law_drawn.Goals as goal

pub returns : goal.returns
returns c = law_drawn

use Rattle.uc_depth_laws.proofs.Standing.{law_free}
use Rattle.uc_depth_laws.proofs.laws.law_free.Goals as goal

pub returns : goal.returns
returns c = law_free

use Rattle.uc_depth_laws.proofs.Renewed.{law_renewed}
use Rattle.uc_depth_laws.proofs.laws.law_renewed.Goals as goal

pub returns : goal.returns
returns c = law_renewed

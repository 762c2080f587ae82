use Rattle.uc_depth_laws.proofs.Alone.{law_alone}
use Rattle.uc_depth_laws.proofs.laws.law_alone.Goals as goal

pub returns : goal.returns
returns c = law_alone

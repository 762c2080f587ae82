use Rattle.uc_making_laws.proofs.ThisWalk.{law_this}
use Rattle.uc_making_laws.proofs.laws.law_this.Goals as goal

pub returns : goal.returns
returns c = law_this

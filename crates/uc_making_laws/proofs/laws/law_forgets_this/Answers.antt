use Rattle.uc_making_laws.proofs.ForgetsThis.{law_forgets_this}
use Rattle.uc_making_laws.proofs.laws.law_forgets_this.Goals as goal

pub returns : goal.returns
returns c = law_forgets_this

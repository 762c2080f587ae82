use Rattle.uc_acts.proofs.Given.{law_dispatch}
use Rattle.uc_acts.proofs.laws.law_dispatch.Goals as goal

pub returns : goal.returns
returns c = law_dispatch

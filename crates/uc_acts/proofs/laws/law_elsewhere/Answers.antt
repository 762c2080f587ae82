use Rattle.uc_acts.proofs.Others.{law_elsewhere}
use Rattle.uc_acts.proofs.laws.law_elsewhere.Goals as goal

pub returns : goal.returns
returns c = law_elsewhere

use Rattle.uc_acts.proofs.Making.{law_new}
use Rattle.uc_acts.proofs.laws.law_new.Goals as goal

pub returns : goal.returns
returns c = law_new

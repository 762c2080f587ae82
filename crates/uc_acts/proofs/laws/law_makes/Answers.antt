use Rattle.uc_acts.proofs.Making.{law_makes}
use Rattle.uc_acts.proofs.laws.law_makes.Goals as goal

pub returns : goal.returns
returns c = law_makes

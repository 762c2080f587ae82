use Rattle.uc_acts.proofs.Goes.{law_going}
use Rattle.uc_acts.proofs.laws.law_going.Goals as goal

pub returns : goal.returns
returns c = law_going

use Rattle.uc_acts.proofs.Law.{law_place}
use Rattle.uc_acts.proofs.laws.law_place.Goals as goal

pub returns : goal.returns
returns c = law_place

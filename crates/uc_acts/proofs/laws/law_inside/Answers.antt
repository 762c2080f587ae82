use Rattle.uc_acts.proofs.Rest.{law_inside}
use Rattle.uc_acts.proofs.laws.law_inside.Goals as goal

pub returns : goal.returns
returns c = law_inside

use Rattle.uc_acts.proofs.Held.{law_held}
use Rattle.uc_acts.proofs.laws.law_held.Goals as goal

pub returns : goal.returns
returns c = law_held

use Rattle.uc_acts.proofs.Counted.{law_made}
use Rattle.uc_acts.proofs.laws.law_made.Goals as goal

pub returns : goal.returns
returns c = law_made

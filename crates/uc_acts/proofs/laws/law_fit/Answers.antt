use Rattle.uc_acts.proofs.FitRows.{law_fit}
use Rattle.uc_acts.proofs.laws.law_fit.Goals as goal

pub returns : goal.returns
returns c = law_fit

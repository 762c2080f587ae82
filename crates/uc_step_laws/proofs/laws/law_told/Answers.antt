use Rattle.uc_step_laws.proofs.Told.{law_told}
use Rattle.uc_step_laws.proofs.laws.law_told.Goals as goal

pub returns : goal.returns
returns c = law_told

use Rattle.uc_name_laws.proofs.Telling.{law_told}
use Rattle.uc_name_laws.proofs.laws.law_told.Goals as goal

pub returns : goal.returns
returns c = law_told

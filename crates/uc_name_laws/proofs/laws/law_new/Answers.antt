use Rattle.uc_name_laws.proofs.Births.{law_new}
use Rattle.uc_name_laws.proofs.laws.law_new.Goals as goal

pub returns : goal.returns
returns c = law_new

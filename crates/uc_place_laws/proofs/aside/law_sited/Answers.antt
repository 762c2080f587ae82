use Rattle.uc_place_laws.proofs.Routines.{law_sited}
use Rattle.uc_place_laws.proofs.aside.law_sited.Goals as goal

pub returns : goal.returns
returns c = law_sited

use Rattle.uc_place_laws.proofs.Sparing.{law_spares}
use Rattle.uc_place_laws.proofs.aside.law_spares.Goals as goal

pub returns : goal.returns
returns c = law_spares

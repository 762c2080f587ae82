use Rattle.uc_cell_laws.proofs.Offsets.{law_places}
use Rattle.uc_cell_laws.proofs.laws.law_places.Goals as goal

pub returns : goal.returns
returns c = law_places

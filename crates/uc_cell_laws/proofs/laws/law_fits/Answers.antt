use Rattle.uc_cell_laws.proofs.OwnCells.{law_fits}
use Rattle.uc_cell_laws.proofs.laws.law_fits.Goals as goal

pub returns : goal.returns
returns c = law_fits

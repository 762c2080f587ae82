use Rattle.uc_cell_laws.proofs.OwnCells.{law_cells}
use Rattle.uc_cell_laws.proofs.laws.law_cells.Goals as goal

pub returns : goal.returns
returns c = law_cells

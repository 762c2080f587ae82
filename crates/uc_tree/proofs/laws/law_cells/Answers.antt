use Rattle.uc_tree.proofs.Shapes.{law_cells}
use Rattle.uc_tree.proofs.laws.law_cells.Goals as goal

pub returns : goal.returns
returns c = law_cells

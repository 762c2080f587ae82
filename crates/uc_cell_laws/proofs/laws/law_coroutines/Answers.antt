use Rattle.uc_cell_laws.proofs.OwnCells.{law_coroutines}
use Rattle.uc_cell_laws.proofs.laws.law_coroutines.Goals as goal

pub returns : goal.returns
returns c = law_coroutines

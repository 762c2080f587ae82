use Rattle.std.proofs.Common.{◌≡◌, ◌<◌, ◌+◌, ◌^◌, drop}
use Rattle.uc_tree.specs.Capped.{capped}
use Rattle.uc_tree.specs.Rows.{row_cells, all_held_cells}
use Rattle.uc_layout.specs.CellTables.{cell_at}
use Rattle.uc_layout.proofs.cells.row_cells.Given as goal

abbrev pub invariant-loop-held : goal.invariant-loop-held
invariant-loop-held l = (l.sum < 2 ^ 64) × (capped (l.sum + all_held_cells (cell_at l.cells) (drop l.held-index l.held-items)) ≡ capped (row_cells (cell_at l.cells) l.fn.row))

use Rattle.std.proofs.Common.{◌≡◌, length}
use Rattle.uc_layout.specs.CellTables.{Follows}
use Rattle.uc_layout.proofs.cells.next_cells.Given as goal

abbrev pub invariant-loop-place : goal.invariant-loop-place
invariant-loop-place l = (length l.next.items ≡ l.place) × Follows l.rows l.circles l.cells l.next.items l.place

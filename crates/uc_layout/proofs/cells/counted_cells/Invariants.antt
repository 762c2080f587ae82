use Rattle.uc_layout.specs.CellTables.{Counted}
use Rattle.uc_layout.proofs.cells.counted_cells.Given as goal

abbrev pub invariant-loop-depth : goal.invariant-loop-depth
invariant-loop-depth l = Counted l._depth l.rows l.cells.items

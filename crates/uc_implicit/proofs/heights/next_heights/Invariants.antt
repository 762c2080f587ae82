use Rattle.std.proofs.Common.{◌≡◌, length}
use Rattle.uc_tree.specs.Cells.{rows_of}
use Rattle.uc_implicit.specs.Heights.{AreNext}
use Rattle.uc_implicit.proofs.heights.next_heights.Given as goal

abbrev pub invariant-loop-place : goal.invariant-loop-place
invariant-loop-place l = (length l.next.items ≡ l.place) × AreNext (rows_of l.sizes) l.heights l.next.items l.place

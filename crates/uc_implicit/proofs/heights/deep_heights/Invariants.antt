use Rattle.std.proofs.Common.{◌≡◌, length}
use Rattle.uc_tree.specs.Cells.{rows_of}
use Rattle.uc_implicit.specs.Heights.{AreDeep}
use Rattle.uc_implicit.proofs.heights.deep_heights.Given as goal

abbrev pub invariant-loop-depth : goal.invariant-loop-depth
invariant-loop-depth l = (length l.heights.items ≡ l.count) × AreDeep l._depth (rows_of l.sizes) l.heights.items

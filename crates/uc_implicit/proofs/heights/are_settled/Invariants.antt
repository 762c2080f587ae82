use Rattle.uc_tree.specs.Cells.{rows_of}
use Rattle.uc_implicit.specs.Heights.{AreNext}
use Rattle.uc_implicit.proofs.heights.are_settled.Given as goal

abbrev pub invariant-loop-place : goal.invariant-loop-place
invariant-loop-place l = AreNext (rows_of l.sizes) l.heights l.heights l.place

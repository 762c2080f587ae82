use Rattle.std.proofs.Common.{◌≤◌, ◌-◌, length, drop}
use Rattle.uc_lower_expr.specs.DraftGrowth.{Adds}
use Rattle.uc_lower_stmt.specs.Pieces.{PiecesCode}
use Rattle.uc_lower_stmt.proofs.print.put_pieces.Given as goal

abbrev pub invariant-loop-left : goal.invariant-loop-left
invariant-loop-left l = record {
  inside : l.left ≤ length l.pieces;
  code : Adds (length l.pieces - l.left) (PiecesCode l.line (drop l.left l.pieces)) l.initial.out l.out;
}

abbrev pub decreases-loop-left : goal.decreases-loop-left
decreases-loop-left l = l.left

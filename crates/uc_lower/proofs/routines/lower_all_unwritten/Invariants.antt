use Rattle.std.proofs.Common.{◌≡◌, ◌+◌, length}
use Rattle.uc_tree.specs.Numbering.{routines_of}
use Rattle.uc_tree.specs.Objects.{unwritten_of}
use Rattle.uc_lower.specs.RoutineLayout.{LaysAll}
use Rattle.uc_lower.proofs.routines.lower_all_unwritten.Given as goal

abbrev pub invariant-loop-place : goal.invariant-loop-place
invariant-loop-place l = (l.number ≡ l.count + l.place) × LaysAll l.names (routines_of l.names) (unwritten_of l.names) (l.count + length l.unwritten) l.place l.out

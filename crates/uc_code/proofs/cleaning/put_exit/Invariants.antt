use Rattle.std.proofs.Common.{◌≤◌, length}
use Rattle.uc_code.specs.Exits.{way_of}
use Rattle.uc_code.specs.Emits.{Leaves, outermost}
use Rattle.uc_code.proofs.Exiting.{Passing}
use Rattle.uc_code.proofs.cleaning.put_exit.Given as goal

abbrev pub invariant-loop-i : goal.invariant-loop-i
invariant-loop-i l = (l.i ≤ length l.fn.out.marks) × Passing l.fn.out.marks (outermost l.i l.fn.out.marks) × Leaves (way_of l.way) l.fn.out l.out (outermost l.i l.fn.out.marks)

abbrev pub decreases-loop-i : goal.decreases-loop-i
decreases-loop-i l = l.i

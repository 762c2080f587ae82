use Rattle.std.proofs.Common.{◌≡◌, ◌≤◌, length, reverse, take}
use Rattle.uc_code.specs.Layout.{under, handlers}
use Rattle.uc_code.specs.OpenRows.{first_in}
use Rattle.uc_code.proofs.marks.row_below.Given as goal

abbrev pub invariant-loop-i : goal.invariant-loop-i
invariant-loop-i l = (l.i ≤ length l.marks) × (first_in (under l.below (handlers (reverse l.marks))) ≡ first_in (under l.bound (handlers (reverse (take l.i l.marks)))))

abbrev pub decreases-loop-i : goal.decreases-loop-i
decreases-loop-i l = l.i

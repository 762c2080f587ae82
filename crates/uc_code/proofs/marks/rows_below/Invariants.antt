use Rattle.std.proofs.Common.{◌≡◌, ◌+◌, ◌≤◌, length, reverse, take}
use Rattle.uc_code.specs.Layout.{under, handlers}
use Rattle.uc_code.proofs.marks.rows_below.Given as goal

abbrev pub invariant-loop-i : goal.invariant-loop-i
invariant-loop-i l = (l.i ≤ length l.marks) × (l.count + l.i ≤ length l.marks) × (length (under l.below (handlers (reverse l.marks))) ≡ l.count + length (under l.bound (handlers (reverse (take l.i l.marks)))))

abbrev pub decreases-loop-i : goal.decreases-loop-i
decreases-loop-i l = l.i

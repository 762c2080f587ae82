use Rattle.std.proofs.Common.{◌≤◌, length}
use Rattle.uc_code.proofs.Names.{NoneFrom}
use Rattle.uc_code.proofs.draft.innermost_of.Given as goal

abbrev pub invariant-loop-i : goal.invariant-loop-i
invariant-loop-i l = (l.i ≤ length l.names) × NoneFrom l.names l.name l.i

abbrev pub decreases-loop-i : goal.decreases-loop-i
decreases-loop-i l = l.i

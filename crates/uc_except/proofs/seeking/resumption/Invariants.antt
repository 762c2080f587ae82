use Rattle.std.proofs.Common.{◌≡◌, ◌≤◌, ◌∷◌, None, length}
use Rattle.uc_except.specs.RowSearch.{resumed, resumed_from}
use Rattle.uc_except.proofs.Levels.{oldest}
use Rattle.uc_except.proofs.seeking.resumption.Given as goal

abbrev pub invariant-loop-left : goal.invariant-loop-left
invariant-loop-left l = (l.left ≤ length (l.work.run ∷ l.work.callers)) × (resumed_from l.code.rows l.rest l.event (oldest l.left (l.work.run ∷ l.work.callers)) ≡ resumed l.code.rows None l.event (l.work.run ∷ l.work.callers))

abbrev pub decreases-loop-left : goal.decreases-loop-left
decreases-loop-left l = l.left

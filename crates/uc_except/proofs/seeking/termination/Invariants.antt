use Rattle.std.proofs.Common.{◌≡◌, ◌≤◌, ◌∷◌, length}
use Rattle.uc_except.specs.RowSearch.{caught}
use Rattle.uc_except.proofs.Levels.{oldest}
use Rattle.uc_except.proofs.seeking.termination.Given as goal

abbrev pub invariant-loop-left : goal.invariant-loop-left
invariant-loop-left l = (l.left ≤ length (l.work.run ∷ l.work.callers)) × (caught l.code.rows l.event (oldest l.left (l.work.run ∷ l.work.callers)) ≡ caught l.code.rows l.event (l.work.run ∷ l.work.callers))

abbrev pub decreases-loop-left : goal.decreases-loop-left
decreases-loop-left l = l.left

use Rattle.std.proofs.Common.{◌≡◌, length}
use Rattle.uc_layout.specs.ContainmentProgress.{Led}
use Rattle.uc_layout.proofs.circles.mark_holders.Given as goal

abbrev pub invariant-loop-holder : goal.invariant-loop-holder
invariant-loop-holder l = (length l.flags ≡ length l.rows) × Led l.rows l.to l.flags

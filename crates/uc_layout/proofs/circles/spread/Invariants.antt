use Rattle.std.proofs.Common.{◌≡◌, length}
use Rattle.uc_layout.specs.ContainmentProgress.{Led}
use Rattle.uc_layout.proofs.circles.spread.Given as goal

abbrev pub invariant-loop-step : goal.invariant-loop-step
invariant-loop-step l = (length l.flags ≡ length l.rows) × Led l.rows l.to l.flags

use Rattle.std.proofs.Common.{◌≡◌, ◌-◌, length}
use Rattle.uc_layout.specs.ContainmentProgress.{Led, flagged}
use Rattle.uc_layout.proofs.circles.flags_to.Given as goal

abbrev pub invariant-sweeps : goal.invariant-sweeps
invariant-sweeps l = (length l.flags.items ≡ length l.rows) × Led l.rows l.class l.flags.items

abbrev pub decreases-sweeps : goal.decreases-sweeps
decreases-sweeps l = length l.rows - flagged l.flags.items

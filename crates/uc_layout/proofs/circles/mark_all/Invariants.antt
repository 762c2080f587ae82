use Rattle.std.proofs.Common.{◌≡◌, ◌≤◌, ◌<◌, length, true, false}
use Rattle.uc_layout.specs.ContainmentProgress.{Led, Told, flagged}
use Rattle.uc_layout.proofs.circles.mark_all.Given as goal

abbrev pub invariant-loop-place : goal.invariant-loop-place
invariant-loop-place l = (length l.flags ≡ length l.rows) × Led l.rows l.to l.flags × (flagged l.initial.flags ≤ flagged l.flags) × (l.changed ≡ true → flagged l.initial.flags < flagged l.flags) × (l.changed ≡ false → Told l.rows l.to l.flags l.place)

use Rattle.std.proofs.Common.{◌≡◌, length}
use Rattle.uc_layout.specs.SettledClasses.{Settled}
use Rattle.uc_layout.proofs.settle.settle_all.Given as goal

abbrev pub invariant-loop-step : goal.invariant-loop-step
invariant-loop-step l = (length l.flags ≡ length l.rows) × (length l.cells ≡ length l.rows) × Settled l.rows l.flags l.cells

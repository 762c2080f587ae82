use Rattle.std.proofs.Common.{◌≡◌, ◌-◌, length, map}
use Rattle.uc_layout.specs.ValueProgress.{Sound, known}
use Rattle.uc_layout.proofs.tables.values_of.Given as goal

abbrev pub invariant-sweeps : goal.invariant-sweeps
invariant-sweeps l = (length l.values.items ≡ length l.constants) × Sound (map (λ c. c.now) l.constants) l.values.items

abbrev pub decreases-sweeps : goal.decreases-sweeps
decreases-sweeps l = length l.constants - known l.values.items

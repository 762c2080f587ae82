use Rattle.std.proofs.Common.{◌≡◌, ◌≤◌, ◌<◌, length, map, true, false}
use Rattle.uc_layout.specs.ValueProgress.{Sound, Reckoned, known}
use Rattle.uc_layout.proofs.tables.sweep.Given as goal

abbrev pub invariant-loop-place : goal.invariant-loop-place
invariant-loop-place l = (length l.values ≡ length l.constants) × Sound (map (λ c. c.now) l.constants) l.values × (known l.initial.values ≤ known l.values) × (l.changed ≡ true → known l.initial.values < known l.values) × (l.changed ≡ false → Reckoned (map (λ c. c.now) l.constants) l.values l.place)

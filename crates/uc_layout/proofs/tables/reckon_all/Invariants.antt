use Rattle.std.proofs.Common.{◌≡◌, length, map}
use Rattle.uc_layout.specs.ValueProgress.{Sound}
use Rattle.uc_layout.proofs.tables.reckon_all.Given as goal

abbrev pub invariant-loop-place : goal.invariant-loop-place
invariant-loop-place l = (length l.values ≡ length l.constants) × Sound (map (λ c. c.now) l.constants) l.values

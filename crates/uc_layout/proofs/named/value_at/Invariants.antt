use Rattle.std.proofs.Common.{◌≡◌, drop, map}
use Rattle.uc_layout.specs.Values.{value_from}
use Rattle.uc_layout.proofs.named.value_at.Given as goal

abbrev pub invariant-loop-place : goal.invariant-loop-place
invariant-loop-place l = value_from (map (λ c. c.now) (drop l.place l.constants)) l.place l.values l.name ≡ value_from (map (λ c. c.now) l.constants) 0 l.values l.name

use Rattle.std.proofs.Common.{◌≡◌, ◌<◌, length}
use Rattle.uc_implicit.specs.Heights.{AreBelow}
use Rattle.uc_implicit.proofs.heights.first_heights.Given as goal

abbrev pub invariant-loop-place : goal.invariant-loop-place
invariant-loop-place l = (length l.heights.items ≡ l.count) × (0 < l.count → AreBelow l.count l.heights.items)

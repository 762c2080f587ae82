use Rattle.std.proofs.Common.{◌≡◌, ℕ, ◌<◌, Some}
use Rattle.std.specs.Prelude.{slice_get}
use Rattle.uc_kernel.proofs.hand.position.Given as goal

abbrev pub invariant-loop-at : goal.invariant-loop-at
invariant-loop-at g l = (j : ℕ) → j < l.at → (q : _) → slice_get l.hand.items j ≡ Some q → q.0 ≡ l.object → ⊥

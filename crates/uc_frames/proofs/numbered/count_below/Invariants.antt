use Rattle.std.proofs.Common.{◌≡◌, ℕ, ◌-◌, ◌<◌, ◌≤◌, length, Some}
use Rattle.std.specs.Prelude.{slice_get}
use Rattle.uc_frames.proofs.numbered.count_below.Given as goal

-- what stands before is below, and what stands from there on is not
abbrev pub invariant-loop-from : goal.invariant-loop-from
invariant-loop-from g l = (l.from ≤ l.to) × (l.to ≤ length l.list.items) × ((j : ℕ) (q : _) → j < l.from → slice_get l.list.items j ≡ Some q → q.0 < l.key) × ((j : ℕ) (q : _) → l.to ≤ j → slice_get l.list.items j ≡ Some q → l.key ≤ q.0)

abbrev pub decreases-loop-from : goal.decreases-loop-from
decreases-loop-from g l = l.to - l.from

use Rattle.std.proofs.Common.{◌≡◌, ◌<◌, ℕ, true}
use Rattle.uc_layout.specs.ContainmentProgress.{flag_at}
use Rattle.uc_layout.proofs.cells.are_all.Given as goal

abbrev pub invariant-loop-flag : goal.invariant-loop-flag
invariant-loop-flag l = (i : ℕ) → i < l.flag-index → flag_at l.flags i ≡ true

use Rattle.std.proofs.Common.{◌≡◌, ◌+◌, drop}
use Rattle.std.specs.Prelude.{nat_lt}
use Rattle.std.specs.List.{prefix_len}
use Rattle.uc_explain.proofs.lists.first_at.Given as goal

-- all of those that were passed have a lesser number
abbrev pub invariant-loop-i : goal.invariant-loop-i
invariant-loop-i l = prefix_len (λ c. nat_lt c l.cond) l.conds ≡ l.i + prefix_len (λ c. nat_lt c l.cond) (drop l.i l.conds)

use Rattle.std.proofs.Common.{◌≡◌, ◌+◌, drop, not}
use Rattle.std.specs.Prelude.{nat_lt}
use Rattle.std.specs.List.{prefix_len}
use Rattle.uc_explain.proofs.lists.wait_place.Given as goal

-- none of those that were passed has a greater number
abbrev pub invariant-loop-i : goal.invariant-loop-i
invariant-loop-i l = prefix_len (λ c. not (nat_lt l.cond c)) l.conds ≡ l.i + prefix_len (λ c. not (nat_lt l.cond c)) (drop l.i l.conds)

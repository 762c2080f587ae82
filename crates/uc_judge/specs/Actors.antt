-- Who acts.
use Rattle.std.specs.Prelude.{ℕ, zero, suc, ℤ, pos, negsuc, ◌+◌, ◌≤◌}
use Rattle.uc_acts.specs.Journal.{Cost, cost, no_cost}
use Rattle.uc_judge.specs.declared.actor.Actor.{Actor}

-- what the first entry of its act carries
abbrev pub cost_of : Actor → Cost
cost_of a = cost a.ticks a.line

-- what the entry of an item carries
abbrev pub cost_at : Cost → ℕ → Cost
cost_at k zero = k
cost_at k (suc i) = no_cost

-- bytes that were used, behind which so many are taken, are a number of an entry
abbrev pub IsRead : ℤ → ℕ → Type 0
IsRead (pos used) taken = used + taken ≤ 9223372036854775807
IsRead (negsuc n) taken = ⊥

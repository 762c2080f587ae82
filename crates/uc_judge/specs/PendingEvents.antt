-- The events that are pending, as a judge keeps them.
use Rattle.std.specs.Prelude.{◌≡◌, ℕ, ℤ, List, [], Option, Some, None}
use Rattle.std.specs.Ordering.{nat_cmp}
use Rattle.std.specs.BTreeMap.{get}
use Rattle.std.specs.declared.vec.Vec.{Vec}
use Rattle.std.specs.declared.alloc.Global.{Global}
use Rattle.uc_acts.specs.Journal.{Journal}
use Rattle.uc_acts.specs.Pending.{pending}
use Rattle.uc_judge.specs.declared.pending.Pending.{Pending}

abbrev pub events_of : Option (Vec (ℕ × ℤ × ℤ) Global) → List (ℕ × ℤ × ℤ)
events_of None = []
events_of (Some events) = events.items

-- the events that are told to be pending at task t
abbrev pub events_told : Pending → ℕ → List (ℕ × ℤ × ℤ)
events_told s t = events_of (get nat_cmp s.tasks t)

-- the events are those of a journal
pub record ArePending (s : Pending) (j : Journal) : Type 0 where
  pub pending : (t : ℕ) → events_told s t ≡ pending t j

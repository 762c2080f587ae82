-- Where a task may be.
use Rattle.std.specs.Prelude.{◌≡◌, ℕ, suc, ◌==◌, ◌&&◌, Bool, true, false, List, [], ◌∷◌, map, if◌then◌else◌}
use Rattle.uc_acts.specs.Journal.{Journal}
use Rattle.uc_acts.specs.Queues.{waiting, stacked, ready, running}
use Rattle.uc_acts.specs.Doors.{blocked}

-- ready on a cluster, running on a processor, waiting at an object, on its stack, or blocked on one of its conditions
pub data Station : Type 0 where
  Ready : (k : ℕ) → Station
  Running : (p : ℕ) → Station
  Waits : (o : ℕ) → Station
  Stacked : (o : ℕ) → Station
  Blocked : (o c : ℕ) → Station

-- the tasks at a station
abbrev pub tasks_at : Station → Journal → List ℕ
tasks_at (Ready k) j = ready k j
tasks_at (Running p) j = running p j
tasks_at (Waits o) j = map (λ w. w.0) (waiting o j)
tasks_at (Stacked o) j = stacked o j
tasks_at (Blocked o c) j = map (λ b. b.0) (blocked o c j)

abbrev pub one_if : Bool → ℕ
one_if true = 1
one_if false = 0

-- whether two stations are the same
abbrev pub is_same : Station → Station → Bool
is_same (Ready k) (Ready l) = k == l
is_same (Running p) (Running q) = p == q
is_same (Waits o) (Waits u) = o == u
is_same (Stacked o) (Stacked u) = o == u
is_same (Blocked o c) (Blocked u d) = (o == u) && (c == d)
is_same _ _ = false

-- how often a task stands in a list
abbrev pub times : ℕ → List ℕ → ℕ
times t [] = 0
times t (x ∷ xs) = if t == x then suc (times t xs) else times t xs

-- task t is on top of a stack
pub record IsTop (t : ℕ) (stack : List ℕ) : Type 0 where
  pub below : List ℕ
  pub top : stack ≡ t ∷ below

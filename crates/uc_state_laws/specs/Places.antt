-- Tasks at mutex objects: inside, or on the way in.
use Rattle.std.specs.Prelude.{◌≡◌, ℕ, ◌==◌, ◌+◌, ◌≤◌, ◌&&◌, ◌||◌, Bool, false, not, map}
use Rattle.uc_entry.specs.declared.request.Request.{Request}
use Rattle.uc_entry.specs.declared.request.Request.TheVariants as ask
use Rattle.uc_acts.specs.Journal.{Journal, inside, own_object}
use Rattle.uc_acts.specs.Queues.{waiting, stacked}
use Rattle.uc_acts.specs.Doors.{blocked_at}
use Rattle.uc_acts.specs.Known.{has, object_count, task_count}

-- whether task u is inside object o, waits for a call of it, is on its stack, or is blocked on one of its conditions
abbrev pub is_at : ℕ → ℕ → Journal → Bool
is_at u o j = has (inside o j) u || (has (map (λ w. w.0) (waiting o j)) u || (has (stacked o j) u || has (map (λ b. b.0) (blocked_at o j)) u))

-- what entries make of that: nothing; task t comes to object o; it goes from there; it goes from there and the new task u comes. Only then
-- there is another task

pub record SamePlaces (j k : Journal) : Type 0 where
  pub at : (v q : ℕ) → is_at v q k ≡ is_at v q j
  pub tasks : task_count k ≡ task_count j

pub record Arrives (t o : ℕ) (j k : Journal) : Type 0 where
  pub at : (v q : ℕ) → is_at v q k ≡ (is_at v q j || ((v == t) && (q == o)))
  pub tasks : task_count k ≡ task_count j

pub record Departs (t o : ℕ) (j k : Journal) : Type 0 where
  pub at : (v q : ℕ) → is_at v q k ≡ (is_at v q j && not ((v == t) && (q == o)))
  pub tasks : task_count k ≡ task_count j

pub record Spawns (t u o : ℕ) (j k : Journal) : Type 0 where
  pub at : (v q : ℕ) → is_at v q k ≡ ((is_at v q j && not ((v == t) && (q == o))) || ((v == u) && (q == o)))
  pub tasks : task_count k ≡ task_count j + 1

-- what task t asks, by the journals before and behind
abbrev pub PlacesBehind : ℕ → Journal → Request → Journal → Type 0
PlacesBehind t j (ask.Make class) k = Arrives t (object_count j) j k
PlacesBehind t j (ask.Call o m) k = Arrives t o j k
PlacesBehind t j (ask.Made o) k = Departs t o j k
PlacesBehind t j (ask.Leave o failed) k = Departs t o j k
PlacesBehind t j (ask.Gone o) k = Departs t o j k
PlacesBehind t j ask.End k = Departs t (own_object t j) j k
PlacesBehind t j (ask.Spawn o) k = Spawns t (task_count j) o j k
PlacesBehind t j r k = SamePlaces j k

-- who is made no task yet is nowhere
abbrev pub LatePlaces : Journal → Type 0
LatePlaces j = (u q : ℕ) → task_count j ≤ u → is_at u q j ≡ false

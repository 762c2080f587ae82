-- The tasks that wait on conditions, as one queue for each condition of each object.
use Rattle.std.specs.Prelude.{◌≡◌, ◌≢◌, ℕ, ℤ, pos, ◌<◌, ◌+◌, ◌*◌, ◌%◌, take, slice_index_or, ◌==◌, ◌&&◌, Bool, true, false, List, [], ◌∷◌, map, length, Option, Some, None, if◌then◌else◌}
use Rattle.std.specs.List.{AllByRecursion, filter}
use Rattle.uc_condition.specs.declared.buckets.TheConstants.{BUCKETS, SPREAD}

-- A task that waits on a condition of an object, with the number that it gave.
pub record Wait : Type 0 where
  pub object : ℕ
  pub cond : ℕ
  pub task : ℕ
  pub n : ℤ

-- How many tasks and objects are known, and the waits by bucket, oldest first.
pub record Waiting : Type 0 where
  pub tasks : ℕ
  pub objects : ℕ
  pub buckets : List (List Wait)

-- the bucket of a condition of an object
unfoldable pub place : ℕ → ℕ → ℕ
place o c = (o * SPREAD + c) % BUCKETS

abbrev pub no_wait : Wait
no_wait = record { object = 0; cond = 0; task = 0; n = pos 0 }

abbrev pub is_at : ℕ → ℕ → Wait → Bool
is_at o c w = (w.object == o) && (w.cond == c)

abbrev pub with_number : Wait → ℕ × ℤ
with_number w = (w.task, w.n)

abbrev pub queue_of : List Wait → ℕ → ℕ → List (ℕ × ℤ)
queue_of ws o c = map with_number (filter (is_at o c) ws)

-- the queue of a condition of an object: the tasks that wait, each with the number that it gave, oldest first
abbrev pub queue_at : Waiting → ℕ → ℕ → List (ℕ × ℤ)
queue_at v o c = queue_of (slice_index_or v.buckets (place o c) []) o c

-- the task waits on no condition
abbrev pub IsFree : ℕ → Waiting → Type 0
IsFree t v = (o c : ℕ) → AllByRecursion (λ w. w.0 ≢ t) (queue_at v o c)

-- the queues, with this one in place of that of one condition
abbrev pub put : ℕ → ℕ → List (ℕ × ℤ) → (ℕ → ℕ → List (ℕ × ℤ)) → ℕ → ℕ → List (ℕ × ℤ)
put o c q queue p d = if (o == p) && (c == d) then q else queue p d

-- what is known stays, and only the queue of this condition changed, to q
pub record Became (old new : Waiting) (o c : ℕ) (q : List (ℕ × ℤ)) : Type 0 where
  pub tasks : new.tasks ≡ old.tasks
  pub objects : new.objects ≡ old.objects
  pub queue : (p d : ℕ) → queue_at new p d ≡ put o c q (queue_at old) p d

-- the queues stay
abbrev pub SameQueues : Waiting → Waiting → Type 0
SameQueues old new = (o c : ℕ) → queue_at new o c ≡ queue_at old o c

abbrev pub first_task : List (ℕ × ℤ) → Option ℕ
first_task [] = None
first_task (w ∷ ws) = Some w.0

abbrev pub first_number : List (ℕ × ℤ) → Option ℤ
first_number [] = None
first_number (w ∷ ws) = Some w.1

abbrev pub rest_of : List (ℕ × ℤ) → List (ℕ × ℤ)
rest_of [] = []
rest_of (w ∷ ws) = ws

abbrev pub is_nobody : List (ℕ × ℤ) → Bool
is_nobody [] = true
is_nobody (w ∷ ws) = false

-- somebody waits on a condition of the object
abbrev pub IsBusy : ℕ → Waiting → Type 0
IsBusy o v = (c : ℕ) × (is_nobody (queue_at v o c) ≡ false)

-- no task stands twice in a list
abbrev pub IsApart : List ℕ → Type 0
IsApart [] = Unit {0}
IsApart (t ∷ ts) = AllByRecursion (λ u. u ≢ t) ts × IsApart ts

-- how many waits are on conditions of an object
abbrev pub waits_at : ℕ → List Wait → ℕ
waits_at o [] = 0
waits_at o (w ∷ ws) = (if w.object == o then 1 else 0) + waits_at o ws

abbrev pub all_at : ℕ → List (List Wait) → ℕ
all_at o [] = 0
all_at o (ws ∷ bs) = waits_at o ws + all_at o bs

-- the first wait on this condition stands at this place
pub record IsFirstAt (o c : ℕ) (ws : List Wait) (n : ℕ) : Type 0 where
  pub within : n < length ws
  pub here : is_at o c (slice_index_or ws n no_wait) ≡ true
  pub before : filter (is_at o c) (take n ws) ≡ []

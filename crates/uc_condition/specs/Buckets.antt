-- The waits of a bucket, linked from each to the next younger one.
use Rattle.std.specs.Prelude.{◌≡◌, ℕ, zero, suc, pos, ◌<◌, ◌≤◌, ◌+◌, ◌-◌, ◌==◌, ◌&&◌, Bool, true, List, [], ◌∷◌, map, length, take, slice_index_or, slice_set, if◌then◌else◌}
use Rattle.std.specs.List.{AllByRecursion, filter}
use Rattle.uc_condition.specs.declared.buckets.WaitRow.{WaitRow}
use Rattle.uc_condition.specs.declared.buckets.Bucket.{Bucket}
use Rattle.uc_condition.specs.declared.buckets.Found.{Found}
use Rattle.uc_condition.specs.declared.buckets.TheConstants.{BUCKETS}
use Rattle.uc_condition.specs.Waiting.{Wait, IsApart, place, is_at, all_at}

abbrev pub no_row : WaitRow
no_row = record { object = 0; cond = 0; n = pos 0; next = 0 }

abbrev pub no_bucket : Bucket
no_bucket = record { count = 0; first = 0; last = 0 }

abbrev pub row_at : List WaitRow → ℕ → WaitRow
row_at rows t = slice_index_or rows t no_row

abbrev pub bucket_at : List Bucket → ℕ → Bucket
bucket_at bs i = slice_index_or bs i no_bucket

abbrev pub is_row_at : ℕ → ℕ → WaitRow → Bool
is_row_at o c r = (r.object == o) && (r.cond == c)

-- so many tasks, from this one on, each followed by the next of its row
abbrev pub tasks_from : List WaitRow → ℕ → ℕ → List ℕ
tasks_from rows zero t = []
tasks_from rows (suc k) t = t ∷ tasks_from rows k (row_at rows t).next

-- the task that stands so many behind this one
abbrev pub task_behind : List WaitRow → ℕ → ℕ → ℕ
task_behind rows zero t = t
task_behind rows (suc k) t = task_behind rows k (row_at rows t).next

abbrev pub tasks_in : List WaitRow → Bucket → List ℕ
tasks_in rows b = tasks_from rows b.count b.first

-- the wait of a task
abbrev pub wait_of : List WaitRow → ℕ → Wait
wait_of rows t = record { object = (row_at rows t).object; cond = (row_at rows t).cond; task = t; n = (row_at rows t).n }

-- the waits of a bucket, oldest first
abbrev pub waits_in : List WaitRow → Bucket → List Wait
waits_in rows b = map (wait_of rows) (tasks_in rows b)

-- a task has a row, and its wait belongs into bucket i
abbrev pub IsPlaced : List WaitRow → ℕ → ℕ → Type 0
IsPlaced rows i t = (t < length rows) × (place (row_at rows t).object (row_at rows t).cond ≡ i)

-- the last of a list, or x
abbrev pub last_or : ℕ → List ℕ → ℕ
last_or x [] = x
last_or x (y ∷ ys) = last_or y ys

-- bucket i: no task is twice in it, each belongs there, and the youngest is the last
pub record IsBucket (rows : List WaitRow) (i : ℕ) (b : Bucket) : Type 0 where
  pub apart : IsApart (tasks_in rows b)
  pub placed : AllByRecursion (IsPlaced rows i) (tasks_in rows b)
  pub ends : last_or b.last (tasks_in rows b) ≡ b.last

abbrev pub AreBuckets : List WaitRow → List Bucket → Type 0
AreBuckets rows bs = (i : ℕ) → i < length bs → IsBucket rows i (bucket_at bs i)

-- the waits of all buckets
abbrev pub all_waits : List WaitRow → List Bucket → List (List Wait)
all_waits rows bs = map (waits_in rows) bs

-- a table for so many tasks and objects: each of its buckets is one, and the counts are how many wait at each object
pub record IsTable (tasks objects : ℕ) (rows : List WaitRow) (bs : List Bucket) (counts : List ℕ) : Type 0 where
  pub has_rows : tasks ≤ length rows
  pub few_rows : length rows < 4294967296
  pub has_counts : objects ≤ length counts
  pub few_buckets : length bs ≤ BUCKETS
  pub has_buckets : 0 < tasks → BUCKETS ≤ length bs
  pub each : AreBuckets rows bs
  pub counted : (o : ℕ) → slice_index_or counts o 0 ≡ all_at o (all_waits rows bs)

-- ---- the oldest wait on a condition
pub record IsFound (rows : List WaitRow) (b : Bucket) (o c : ℕ) (f : Found) : Type 0 where
  pub within : f.at < b.count
  pub task : f.task ≡ task_behind rows f.at b.first
  pub before : (k : ℕ) → f.at ≡ suc k → f.before ≡ task_behind rows k b.first
  pub here : is_row_at o c (row_at rows f.task) ≡ true
  pub older : filter (is_at o c) (take f.at (waits_in rows b)) ≡ []

-- ---- one more, and one less
abbrev pub with_next : List WaitRow → ℕ → ℕ → List WaitRow
with_next rows t u = slice_set rows t (record (row_at rows t) { next = u })

abbrev pub linked : List WaitRow → Bucket → ℕ → WaitRow → List WaitRow
linked rows b t row = if b.count == 0 then slice_set rows t row else with_next (slice_set rows t row) b.last t

abbrev pub linked_bucket : Bucket → ℕ → Bucket
linked_bucket b t = if b.count == 0 then record { count = 1; first = t; last = t } else record { count = b.count + 1; first = b.first; last = t }

abbrev pub last_after : Bucket → Found → ℕ
last_after b f = if (f.at + 1) == b.count then f.before else b.last

abbrev pub unlinked : List WaitRow → Found → List WaitRow
unlinked rows f = if f.at == 0 then rows else with_next rows f.before (row_at rows f.task).next

abbrev pub unlinked_bucket : List WaitRow → Bucket → Found → Bucket
unlinked_bucket rows b f =
    if f.at == 0 then record { count = b.count - 1; first = (row_at rows f.task).next; last = b.last } else record { count = b.count - 1; first = b.first; last = last_after b f }

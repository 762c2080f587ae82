-- The ready queues of the clusters, the processors, and the clusters on which the tasks stand, and what each call does to them.
use Rattle.std.specs.Prelude.{◌≡◌, ◌≢◌, ℕ, ◌<◌, ◌==◌, ◌+◌, ◌&&◌, ◌||◌, Bool, true, false, not, List, [], ◌∷◌, ◌++◌, length, replicate, Option, Some, None, slice_index_or, slice_set, if◌then◌else◌, nat_lt}
use Rattle.std.specs.Option.{is_none, is_some}
use Rattle.std.specs.List.{AllByRecursion, list_any, list_all}
use Rattle.uc_cluster.specs.declared.clusters.Processor.{Processor}
use Rattle.uc_cluster.specs.declared.clusters.Stalled.{Stalled}
use Rattle.uc_cluster.specs.declared.clusters.Stalled.TheVariants as stalled

-- The ready tasks of each cluster, oldest first; each processor's cluster, whether it is open, and the task that runs on it; and
-- the cluster of each task that was made and has not ended.
pub record Standing : Type 0 where
  pub queues : List (List ℕ)
  pub processors : List Processor
  pub places : List (Option ℕ)

abbrev pub no_processor : Processor
no_processor = record { cluster = 0; is_open = false; task = None }

-- the ready tasks of a cluster; none where it is not known
abbrev pub queue_at : List (List ℕ) → ℕ → List ℕ
queue_at qs k = slice_index_or qs k []

abbrev pub processor_at : Standing → ℕ → Processor
processor_at v p = slice_index_or v.processors p no_processor

-- the cluster on which a task stands
abbrev pub place_of : Standing → ℕ → Option ℕ
place_of v t = slice_index_or v.places t None

abbrev pub or_0 : Option ℕ → ℕ
or_0 None = 0
or_0 (Some k) = k

-- a task stands on a known cluster
abbrev pub IsPlaced : ℕ → Standing → Type 0
IsPlaced t v = (is_some (place_of v t) ≡ true) × (or_0 (place_of v t) < length v.queues)

-- a task is in no queue
abbrev pub IsUnready : ℕ → Standing → Type 0
IsUnready t v = (k : ℕ) → k < length v.queues → AllByRecursion (λ u. u ≢ t) (queue_at v.queues k)

abbrev pub with_queue : Standing → ℕ → List ℕ → Standing
with_queue v k q = record { queues = slice_set v.queues k q; processors = v.processors; places = v.places }

abbrev pub with_processor : Standing → ℕ → Processor → Standing
with_processor v p x = record { queues = v.queues; processors = slice_set v.processors p x; places = v.places }

abbrev pub with_place : Standing → ℕ → Option ℕ → Standing
with_place v t place = record { queues = v.queues; processors = v.processors; places = slice_set v.places t place }

abbrev pub running : Option ℕ → Processor → Processor
running t x = record { cluster = x.cluster; is_open = x.is_open; task = t }

abbrev pub closed : Processor → Processor
closed x = record { cluster = x.cluster; is_open = false; task = x.task }

abbrev pub new_processor : ℕ → Processor
new_processor k = record { cluster = k; is_open = true; task = None }

-- as a run opens: one cluster with the processors, and task 0 stands on it
abbrev pub opening : ℕ → ℕ → Standing
opening n tasks = record { queues = [] ∷ []; processors = replicate n (new_processor 0); places = slice_set (replicate tasks None) 0 (Some 0) }

-- a task goes to the back of its cluster's queue
abbrev pub made_ready : ℕ → Standing → Standing
made_ready t v =
    let k = or_0 (place_of v t) in
    with_queue v k (queue_at v.queues k ++ t ∷ [])

abbrev pub with_cluster : Standing → Standing
with_cluster v = record { queues = v.queues ++ [] ∷ []; processors = v.processors; places = v.places }

abbrev pub one_more_processor : ℕ → Standing → Standing
one_more_processor k v = record { queues = v.queues; processors = v.processors ++ new_processor k ∷ []; places = v.places }

-- the number of one more, where there are fewer than may be
abbrev pub new_number : ℕ → ℕ → Option ℕ
new_number limit n = if nat_lt n limit then Some n else None

-- ---- a dispatch
abbrev pub is_nobody : {X : Type 0} → List X → Bool
is_nobody [] = true
is_nobody (x ∷ xs) = false

-- whether a processor is open and free, and its cluster has a ready task
abbrev pub may_take : List (List ℕ) → Processor → Bool
may_take qs x = x.is_open && (is_none x.task && not (is_nobody (queue_at qs x.cluster)))

-- the number of the first that passes a test, where the first of the list has this number
abbrev pub first_from : (Processor → Bool) → ℕ → List Processor → Option ℕ
first_from test n [] = None
first_from test n (x ∷ xs) = if test x then Some n else first_from test (n + 1) xs

-- the least processor that may take a task
abbrev pub taking : Standing → Option ℕ
taking v = first_from (may_take v.queues) 0 v.processors

abbrev pub front_or_0 : List ℕ → ℕ
front_or_0 [] = 0
front_or_0 (t ∷ ts) = t

abbrev pub rest_of : List ℕ → List ℕ
rest_of [] = []
rest_of (t ∷ ts) = ts

-- the task that it takes
abbrev pub front_at : Standing → ℕ → ℕ
front_at v p = front_or_0 (queue_at v.queues (processor_at v p).cluster)

abbrev pub dispatch_by : Standing → Option ℕ → Option (ℕ × ℕ)
dispatch_by v None = None
dispatch_by v (Some p) = Some (p, front_at v p)

abbrev pub dispatched : Standing → Option (ℕ × ℕ)
dispatched v = dispatch_by v (taking v)

-- it then runs there
abbrev pub started : Standing → ℕ → Standing
started v p =
    let x = processor_at v p in
    record {
      queues = slice_set v.queues x.cluster (rest_of (queue_at v.queues x.cluster));
      processors = slice_set v.processors p (running (Some (front_at v p)) x);
      places = v.places;
    }

abbrev pub after_by : Standing → Option ℕ → Standing
after_by v None = v
after_by v (Some p) = started v p

abbrev pub after_dispatch : Standing → Standing
after_dispatch v = after_by v (taking v)

-- ---- what stands on a cluster
abbrev pub is_on : ℕ → Option ℕ → Bool
is_on k None = false
is_on k (Some j) = j == k

-- whether a task or an open processor stands on it
abbrev pub is_in_use : ℕ → Standing → Bool
is_in_use k v = list_any (is_on k) v.places || list_any (λ x. x.is_open && (x.cluster == k)) v.processors

-- ---- no task can go on
abbrev pub none_runs : Standing → Bool
none_runs v = list_all (λ x. is_none x.task) v.processors

abbrev pub none_ready : Standing → Bool
none_ready v = list_all is_nobody v.queues

abbrev pub none_served : Standing → Bool
none_served v = list_all (λ x. not x.is_open || is_nobody (queue_at v.queues x.cluster)) v.processors

abbrev pub stalled_by : Bool → Bool → Bool → Stalled
stalled_by false ready served = stalled.No
stalled_by true true served = stalled.Deadlock
stalled_by true false true = stalled.NoProcessor
stalled_by true false false = stalled.No

abbrev pub stall_of : Standing → Stalled
stall_of v = stalled_by (none_runs v) (none_ready v) (none_served v)

-- ---- what the queues keep: no task is twice in one, and each is the number of a task
abbrev pub IsApart : List ℕ → Type 0
IsApart [] = Unit {0}
IsApart (t ∷ ts) = AllByRecursion (λ u. u ≢ t) ts × IsApart ts

pub record IsKept (tasks : ℕ) (q : List ℕ) : Type 0 where
  pub apart : IsApart q
  pub below : AllByRecursion (λ t. t < tasks) q

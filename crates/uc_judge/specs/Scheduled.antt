-- Who is ready and who runs, told by lists that a judge keeps.
use Rattle.std.specs.Prelude.{◌≡◌, ℕ, ◌==◌, ◌&&◌, List, [], ◌∷◌, Option, Some, None, map, unwrap_or, Bool, false}
use Rattle.std.specs.List.{filter}
use Rattle.std.specs.Ordering.{nat_cmp}
use Rattle.std.specs.BTreeMap.{get}
use Rattle.uc_acts.specs.Open.{still_open}
use Rattle.uc_acts.specs.Journal.{Journal}
use Rattle.uc_acts.specs.Queues.{noted, last_actor, cluster_of, readies, dispatches, puts_on, takes_off, comes_to_stand, leaves_cluster}
use Rattle.uc_judge.specs.declared.schedule.Schedule.{Schedule}

-- a task, with its cluster
abbrev pub placed : (ℕ → ℕ) → Option ℕ → Option (ℕ × ℕ)
placed on None = None
placed on (Some t) = Some (t, on t)

-- the tasks made ready with no later dispatch, each with its cluster, oldest first
abbrev pub all_ready : Journal → List (ℕ × ℕ)
all_ready j =
    still_open (λ x. placed x.cluster (readies x.entry.kind x.entry x.actor)) (λ x r. dispatches x.entry.kind x.entry r.0) (noted j)

-- the tasks last dispatched to a processor that nothing took off since, each with the processor
abbrev pub all_running : Journal → List (ℕ × ℕ)
all_running j =
    still_open (λ x. placed (λ t. x.entry.proc) (puts_on x.entry.kind x.entry x.actor)) (λ x r. (x.entry.proc == r.1) && takes_off x.entry.kind x.entry r.0) (noted j)

-- the tasks that have not ended, each with its cluster
abbrev pub all_standing : Journal → List (ℕ × ℕ)
all_standing j =
    still_open (λ x. placed x.cluster (comes_to_stand x.entry.kind x.entry)) (λ x r. leaves_cluster x.entry.kind x.entry r.0) (noted j)

-- those of one number
abbrev pub of_number : ℕ → List (ℕ × ℕ) → List ℕ
of_number k rs = map (λ r. r.0) (filter (λ r. r.1 == k) rs)

-- the only one of a list
abbrev pub only_of : {A : Type 0} → List A → Option A
only_of (x ∷ []) = Some x
only_of _ = None

-- whether task t is the first of a list
abbrev pub is_first : ℕ → List ℕ → Bool
is_first t [] = false
is_first t (x ∷ xs) = x == t

-- the cluster that a task is told to be on
abbrev pub cluster_told : Schedule → ℕ → ℕ
cluster_told s t = unwrap_or (get nat_cmp s.clusters t) 0

-- the schedule is that of a journal
pub record IsSchedule (s : Schedule) (j : Journal) : Type 0 where
  pub actor : s.actor ≡ last_actor 0 j
  pub clusters : (t : ℕ) → cluster_told s t ≡ cluster_of t j
  pub ready : s.ready.items ≡ all_ready j
  pub running : s.running.items ≡ all_running j
  pub standing : s.standing.items ≡ all_standing j

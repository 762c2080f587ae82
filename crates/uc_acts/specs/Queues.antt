-- The queues of the kernel, as filters of the whole journal.
use Rattle.std.specs.Prelude.{ℕ, ◌==◌, ◌&&◌, ◌||◌, ◌+◌, Bool, true, false, not, List, [], ◌∷◌, ◌++◌, Option, Some, None, reverse, map, if◌then◌else◌}
use Rattle.std.specs.List.{filter, list_any, list_all, count_by, sum_by, range_with_len}
use Rattle.uc_entry.specs.declared.entry.Entry.{Entry}
use Rattle.uc_entry.specs.declared.entry.EntryKind.{EntryKind}
use Rattle.uc_entry.specs.declared.entry.EntryKind.TheVariants as kind
use Rattle.uc_entry.specs.declared.entry.Options.{Options}
use Rattle.uc_acts.specs.Open.{still_open}
use Rattle.uc_acts.specs.Journal.{Journal, number, holds, where_true, entries_at, stacks_acceptor}

-- the task and the member of a call
abbrev pub calls : EntryKind → Entry → Option (ℕ × ℕ)
calls kind.Call e = Some (e.task, number e.a)
calls _ e = None

-- whether an entry admits or pushes task t
abbrev pub takes : EntryKind → Entry → ℕ → Bool
takes kind.Admit e t = t == e.task
takes kind.Push e t = t == e.task
takes _ e t = false

-- the calls of o with no later admit or push of that task at o, oldest first
unfoldable pub waiting : ℕ → Journal → List (ℕ × ℕ)
waiting o j = still_open (λ e. calls e.kind e) (λ e p. takes e.kind e p.0) (entries_at o j)

-- the task that an entry puts on the stack of its object
abbrev pub stacks : EntryKind → Entry → Option ℕ
stacks kind.Accept e = where_true (stacks_acceptor e) e.task
stacks kind.SignalBlock e = where_true (holds 1 e.b) e.task
stacks kind.Push e = Some e.task
stacks _ e = None

-- whether an entry admits task t
abbrev pub admits : EntryKind → Entry → ℕ → Bool
admits kind.Admit e t = t == e.task
admits _ e t = false

-- the tasks put on the stack of o with no later admit at o, newest first
unfoldable pub stacked : ℕ → Journal → List ℕ
stacked o j = reverse (still_open (λ e. stacks e.kind e) (λ e. admits e.kind e) (entries_at o j))

-- who is let in next at an object, and the way: the top of its stack, or else the front of its queue
abbrev pub successor : List ℕ → List (ℕ × ℕ) → Option (ℕ × ℕ)
successor (t ∷ ts) ws = Some (t, 3)
successor [] (w ∷ ws) = Some (w.0, 2)
successor [] [] = None

abbrev pub next : ℕ → Journal → Option (ℕ × ℕ)
next o j = successor (stacked o j) (waiting o j)

-- an entry, the task that acts in it, and the cluster of each task as it stands
pub record Noted : Type 0 where
  pub entry : Entry
  pub actor : ℕ
  pub cluster : ℕ → ℕ

-- the acting task once an entry stands, where it was t before: consequences of an act keep it
abbrev pub actor : ℕ → EntryKind → Entry → ℕ
actor t kind.Admit e = t
actor t kind.Push e = t
actor t _ e = e.task

-- the clusters once an entry stands: a new task is on its creator's, and a task may migrate
abbrev pub clusters : (ℕ → ℕ) → EntryKind → Entry → ℕ → ℕ
clusters on kind.Spawn e t = if t == number e.a then on e.task else on t
clusters on kind.Migrate e t = if t == e.task then number e.a else on t
clusters on _ e t = on t

abbrev pub note : ℕ → (ℕ → ℕ) → Entry → Noted
note t on e = record { entry = e; actor = actor t e.kind e; cluster = clusters on e.kind e }

-- each entry, noted; before the first, task 0 acts and all are on cluster 0
abbrev pub noted_from : ℕ → (ℕ → ℕ) → Journal → List Noted
noted_from t on [] = []
noted_from t on (e ∷ j) = note t on e ∷ noted_from (actor t e.kind e) (clusters on e.kind e) j

abbrev pub noted : Journal → List Noted
noted j = noted_from 0 (λ t. 0) j

-- who acts at the end
abbrev pub last_actor : ℕ → Journal → ℕ
last_actor t [] = t
last_actor t (e ∷ j) = last_actor (actor t e.kind e) j

-- the clusters at the end
abbrev pub last_clusters : (ℕ → ℕ) → Journal → ℕ → ℕ
last_clusters on [] = on
last_clusters on (e ∷ j) = last_clusters (clusters on e.kind e) j

-- the cluster that task t is on
abbrev pub cluster_of : ℕ → Journal → ℕ
cluster_of t j = last_clusters (λ u. 0) j t

-- the task that an entry makes ready, where the task t acts
abbrev pub readies : EntryKind → Entry → ℕ → Option ℕ
readies kind.Begin e t = Some 0
readies kind.Spawn e t = Some (number e.a)
readies kind.Slice e t = Some e.task
readies kind.Yield e t = Some e.task
readies kind.Migrate e t = Some e.task
readies kind.Admit e t = where_true (not (e.task == t)) e.task
readies _ e t = None

-- a task that stands on this cluster
abbrev pub on_cluster : ℕ → (ℕ → ℕ) → Option ℕ → Option ℕ
on_cluster k on None = None
on_cluster k on (Some t) = where_true (on t == k) t

-- whether an entry gives task t a processor
abbrev pub dispatches : EntryKind → Entry → ℕ → Bool
dispatches kind.Dispatch e t = t == e.task
dispatches _ e t = false

-- the tasks made ready on cluster k with no later dispatch, oldest first
unfoldable pub ready : ℕ → Journal → List ℕ
ready k j =
    still_open (λ x. on_cluster k x.cluster (readies x.entry.kind x.entry x.actor)) (λ x. dispatches x.entry.kind x.entry) (noted j)

-- the task that an entry puts on its processor: by a dispatch, or by its own admission
abbrev pub puts_on : EntryKind → Entry → ℕ → Option ℕ
puts_on kind.Dispatch e t = Some e.task
puts_on kind.Admit e t = where_true (e.task == t) e.task
puts_on _ e t = None

-- whether an entry takes task t off its processor, or puts it or another there anew
abbrev pub takes_off : EntryKind → Entry → ℕ → Bool
takes_off kind.Dispatch e t = true
takes_off kind.Admit e t = t == e.task
takes_off kind.Call e t = t == e.task
takes_off kind.Slice e t = t == e.task
takes_off kind.Yield e t = t == e.task
takes_off kind.Migrate e t = t == e.task
takes_off kind.Wait e t = t == e.task
takes_off kind.SignalBlock e t = (t == e.task) && holds 1 e.b
takes_off kind.Accept e t = (t == e.task) && stacks_acceptor e
takes_off kind.End e t = t == e.task
takes_off _ e t = false

-- the task last dispatched to processor p, if nothing took it off since
unfoldable pub running : ℕ → Journal → List ℕ
running p j =
    still_open (λ x. puts_on x.entry.kind x.entry x.actor) (λ x. takes_off x.entry.kind x.entry) (filter (λ x. x.entry.proc == p) (noted j))

-- the ticks of an entry of task t
abbrev pub spent : ℕ → Entry → Option ℕ
spent t e = where_true (e.task == t) e.ticks

-- the ticks of task t since its last dispatch
unfoldable pub used : ℕ → Journal → ℕ
used t j = sum_by (λ k. k) (still_open (spent t) (λ e x. dispatches e.kind e t) j)

abbrev pub is_cluster : EntryKind → Bool
is_cluster kind.Cluster = true
is_cluster _ = false

abbrev pub is_processor : EntryKind → Bool
is_processor kind.Processor = true
is_processor _ = false

-- how many clusters, and processors, were made so far, the opening ones included
unfoldable pub cluster_count : Journal → ℕ
cluster_count j = count_by (λ e. is_cluster e.kind) j + 1

unfoldable pub processor_count : Options → Journal → ℕ
processor_count opts j = count_by (λ e. is_processor e.kind) j + opts.processors

abbrev pub is_nobody : {A : Type 0} → List A → Bool
is_nobody [] = true
is_nobody (x ∷ xs) = false

-- a processor that an entry makes, with its cluster
abbrev pub makes_processor : EntryKind → Entry → Option (ℕ × ℕ)
makes_processor kind.Processor e = Some (number e.a, number e.b)
makes_processor _ e = None

-- whether an entry closes processor p
abbrev pub closes : ℕ → EntryKind → Entry → Bool
closes p kind.ProcessorEnd e = holds p e.a
closes p _ e = false

-- all processors, each with its cluster
unfoldable pub processors : Options → Journal → List (ℕ × ℕ)
processors opts j =
    map (λ p. (p, 0)) (range_with_len 0 opts.processors) ++ still_open (λ e. makes_processor e.kind e) (λ e x. false) j

-- those that are not closed
unfoldable pub open_processors : Options → Journal → List (ℕ × ℕ)
open_processors opts j = filter (λ x. not (list_any (λ e. closes x.0 e.kind e) j)) (processors opts j)

-- the cluster of a processor
abbrev pub cluster_in : ℕ → List (ℕ × ℕ) → ℕ
cluster_in p [] = 0
cluster_in p (x ∷ xs) = if x.0 == p then x.1 else cluster_in p xs

-- the task that comes to stand on its cluster by an entry
abbrev pub comes_to_stand : EntryKind → Entry → Option ℕ
comes_to_stand kind.Begin e = Some 0
comes_to_stand kind.Spawn e = Some (number e.a)
comes_to_stand kind.Migrate e = Some e.task
comes_to_stand _ e = None

-- whether an entry takes task t from its cluster
abbrev pub leaves_cluster : EntryKind → Entry → ℕ → Bool
leaves_cluster kind.Migrate e t = t == e.task
leaves_cluster kind.End e t = t == e.task
leaves_cluster _ e t = false

-- the tasks on cluster k that have not ended
unfoldable pub tasks_on : ℕ → Journal → List ℕ
tasks_on k j =
    still_open (λ x. on_cluster k x.cluster (comes_to_stand x.entry.kind x.entry)) (λ x. leaves_cluster x.entry.kind x.entry) (noted j)

-- whether a task that has not ended, or an open processor, stands on cluster k
abbrev pub is_in_use : Options → ℕ → Journal → Bool
is_in_use opts k j = not (is_nobody (tasks_on k j)) || list_any (λ x. x.1 == k) (open_processors opts j)

-- whether no task runs
unfoldable pub none_running : Options → Journal → Bool
none_running opts j = list_all (λ p. is_nobody (running p j)) (range_with_len 0 (processor_count opts j))

-- whether no task is ready
unfoldable pub none_ready : Journal → Bool
none_ready j = list_all (λ k. is_nobody (ready k j)) (range_with_len 0 (cluster_count j))

-- whether no task is ready on a cluster with an open processor
unfoldable pub none_served : Options → Journal → Bool
none_served opts j = list_all (λ x. is_nobody (ready x.1 j)) (open_processors opts j)

-- whether task 0 has ended
abbrev pub ends_first : EntryKind → Entry → Bool
ends_first kind.End e = e.task == 0
ends_first _ e = false

unfoldable pub first_ended : Journal → Bool
first_ended j = list_any (λ e. ends_first e.kind e) j

-- the ticks of all tasks
unfoldable pub all_ticks : Journal → ℕ
all_ticks j = sum_by (λ e. e.ticks) j

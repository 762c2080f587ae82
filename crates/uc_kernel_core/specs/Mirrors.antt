-- What contracts see of a kernel's core, and how its parts mirror the journal.
use Rattle.std.specs.Prelude.{◌≡◌, ◌⊎◌, ℕ, pos, ◌==◌, ◌+◌, ◌<◌, ◌≤◌, Bool, true, false, List, [], ◌∷◌, ◌++◌, Option, Some, None, length, slice_index_or}
use Rattle.std.specs.Option.{option_to_list}
use Rattle.std.specs.List.{AllByRecursion, list_any}
use Rattle.uc_tree.specs.Programs.{Site}
use Rattle.uc_tree.specs.declared.limits.TheConstants.{TASKS}
use Rattle.uc_entry.specs.declared.entry.Entry.{Entry}
use Rattle.uc_entry.specs.declared.entry.EntryKind.{EntryKind}
use Rattle.uc_entry.specs.declared.entry.EntryKind.TheVariants as kind
use Rattle.uc_entry.specs.declared.entry.Options.{Options}
use Rattle.uc_entry.specs.declared.request.Request.{Request}
use Rattle.uc_acts.specs.Journal.{Journal, inside, own_object, owns, entries_at, is_over, holds}
use Rattle.uc_acts.specs.Queues.{running, cluster_of, next, last_actor, tasks_on}
use Rattle.uc_acts.specs.Doors.{calls_destructor, last_call}
use Rattle.uc_acts.specs.Known.{object_count, task_count, owner}
use Rattle.uc_acts.specs.Open.{still_open}
use Rattle.uc_acts.specs.Pending.{pending as pending_at_task}
use Rattle.uc_acts.specs.Stations.{Waits, Stacked, Blocked}
use Rattle.uc_acts.specs.Sound.{Spot, At, spot, here, Sound, Stood}
use Rattle.uc_acts.specs.Acts.{entries_of, clause_by_way, failed_by_way}
use Rattle.uc_acts.specs.Legal.{Legal}
use Rattle.uc_mutex.specs.Doors.{Doors, door_at}
use Rattle.uc_mutex.specs.declared.called.Passed.{Passed}
use Rattle.uc_kernel_core.specs.DoorLaws.{IsDoor}
use Rattle.uc_mutex.specs.Offers.{IsKnownSite}
use Rattle.uc_condition.specs.Waiting.{Waiting}
use Rattle.uc_condition.specs.Laws.{AreBlocked}
use Rattle.uc_events.specs.Pending.{Event}
use Rattle.uc_events.specs.Laws.{ArePending}
use Rattle.uc_cluster.specs.Standing.{Standing, place_of}
use Rattle.uc_cluster.specs.Laws.{AreReady, AreRunning, AreCounted, AreOpen, ArePlaced}
use Rattle.uc_kernel_journal.specs.JournalSums.{Told}

-- whether a task at a spot is in a queue of object o
abbrev pub queued_at : ℕ → Spot → Bool
queued_at o (At (Waits u)) = u == o
queued_at o (At (Stacked u)) = u == o
queued_at o (At (Blocked u c)) = u == o
queued_at o _ = false

-- whether a task is at a station
abbrev pub is_at : Spot → Bool
is_at (At q) = true
is_at _ = false

-- accept statements that the kernel may be asked for
abbrev pub AreKnownSites : List Site → Type 0
AreKnownSites sites = AllByRecursion IsKnownSite sites

-- ---- each part mirrors the journal
pub record DoorsAre (sites : List Site) (j : Journal) (v : Doors) : Type 0 where
  pub made : length v.doors ≡ object_count j
  pub pool : task_count j ≤ v.tasks
  pub each : (o : ℕ) → o < length v.doors → IsDoor sites o j (door_at v o)

pub record WaitsAre (j : Journal) (v : Waiting) : Type 0 where
  pub blocked : AreBlocked v j
  pub pool : task_count j ≤ v.tasks
  pub known : object_count j ≤ v.objects

pub record EventsAre (j : Journal) (all : List (List Event)) : Type 0 where
  pub pending : ArePending all j
  pub known : length all ≡ task_count j
  pub fresh : (t : ℕ) → length all ≤ t → pending_at_task t j ≡ []

pub record ClustersAre (opts : Options) (j : Journal) (v : Standing) : Type 0 where
  pub ready_are : AreReady v j
  pub runs : AreRunning v j
  pub counted : AreCounted v j
  pub desks : AreOpen opts v.processors j
  pub stands : ArePlaced v j
  pub pool : length v.places ≡ TASKS
  pub placed : (t : ℕ) → is_at (spot t j) ≡ true → place_of v t ≡ Some (cluster_of t j)
  pub known : (t : ℕ) → cluster_of t j < length v.queues

-- whether a task in a queue of an object called its destructor last, and so the task inside an object
pub record MarksAre (j : Journal) (marks inside_marks : List Bool) : Type 0 where
  pub marked : (t o : ℕ) (d : Bool) → t < length marks → queued_at o (spot t j) ≡ true → slice_index_or marks t d ≡ calls_destructor o t j
  pub entered : (o t : ℕ) (d : Bool) → o < length inside_marks → inside o j ≡ t ∷ [] → slice_index_or inside_marks o d ≡ calls_destructor o t j
  pub tasks : length marks ≡ TASKS
  pub objects : length inside_marks ≡ object_count j

-- the own object of each task, and the task whose own object it is
pub record OwnersAre (j : Journal) (owners : List (Option ℕ)) (own : List ℕ) : Type 0 where
  pub owner_is : (o : ℕ) (d : Option ℕ) → o < length owners → option_to_list (slice_index_or owners o d) ≡ owner o j
  pub own_is : (t d : ℕ) → t < length own → slice_index_or own t d ≡ own_object t j
  pub objects : length owners ≡ object_count j
  pub tasks : length own ≡ TASKS

-- the objects whose task is t
abbrev pub own_objects : ℕ → Journal → List ℕ
own_objects t j = still_open (λ e. owns t e.kind e) (λ e o. false) j

-- of objects and tasks that are not made yet the journal tells nothing
pub record Fresh (j : Journal) : Type 0 where
  pub at : (o : ℕ) → object_count j ≤ o → entries_at o j ≡ []
  pub uncalled : (o t : ℕ) → task_count j ≤ t → last_call o j t ≡ None
  pub unowned : (t : ℕ) → task_count j ≤ t → own_objects t j ≡ []
  pub unplaced : (k t : ℕ) → task_count j ≤ t → list_any (λ u. u == t) (tasks_on k j) ≡ false

pub record Mirrors (opts : Options) (sites : List Site) (j : Journal) (doors : Doors) (waits : Waiting) (events : List (List Event)) (standing : Standing) (marks inside_marks : List Bool) (owners : List (Option ℕ)) (own : List ℕ) : Type 0 where
  pub doors_are : DoorsAre sites j doors
  pub waits_are : WaitsAre j waits
  pub events_are : EventsAre j events
  pub clusters_are : ClustersAre opts j standing
  pub marks_are : MarksAre j marks inside_marks
  pub owners_are : OwnersAre j owners own
  pub few : task_count j ≤ TASKS
  pub sound : Sound j
  pub stood : Stood sites j
  pub known_sites : AreKnownSites sites
  -- whoever owns an object is a task
  pub owned : (o t : ℕ) → owner o j ≡ t ∷ [] → t < task_count j
  pub fresh : Fresh j

-- ---- what contracts see
pub record Seen : Type 0 where
  pub journal : List Entry
  pub sites : List Site
  pub opts : Options
  pub input : List ℕ

abbrev pub seen : Told → Options → List ℕ → Seen
seen v opts input = record { journal = v.journal; sites = v.sites; opts = opts; input = input }

-- the entries behind the bound for which memory was taken: the longest act and the limit
abbrev pub ACT_ENTRIES : ℕ
ACT_ENTRIES = 40

-- while the run goes on, the parts are the journal's
pub record IsBook (told : Told) (doors : Doors) (waits : Waiting) (events : List (List Event)) (standing : Standing) (marks inside_marks : List Bool) (owners : List (Option ℕ)) (own : List ℕ) (opts : Options) : Type 0 where
  pub mirrors : is_over told.journal ≡ false → Mirrors opts told.sites told.journal doors waits events standing marks inside_marks owners own
  pub space : told.room ≡ opts.entries + ACT_ENTRIES
  pub tasks : told.tasks ≡ TASKS

-- some entries were appended, and nothing else changed that contracts see
pub record Appended (old new : Seen) (a : List Entry) : Type 0 where
  pub journal : new.journal ≡ old.journal ++ a
  pub sites : new.sites ≡ old.sites
  pub opts : new.opts ≡ old.opts
  pub input : new.input ≡ old.input

-- an entry may be appended
pub record CanPut (s : Seen) (e : Entry) : Type 0 where
  pub going : is_over s.journal ≡ false
  pub legal : Legal e s.journal
  pub room : length s.journal < s.opts.entries + ACT_ENTRIES
  pub task : e.task < TASKS

-- the entries of a request of task t on p after k ticks, in a line
abbrev pub rows : Seen → ℕ → ℕ → ℕ → ℕ → Request → List Entry
rows s p t k line r = entries_of s.opts s.sites s.input s.journal p t k (record { request = r; line = line })

-- task t runs on p, there is room for its act, and the journal is one of a kernel
pub record MayAct (s : Seen) (p t : ℕ) : Type 0 where
  pub going : is_over s.journal ≡ false
  pub runs : running p s.journal ≡ t ∷ []
  pub room : length s.journal ≤ s.opts.entries
  pub known : t < TASKS
  pub few : task_count s.journal ≤ TASKS
  pub sound : Sound s.journal
  pub stood : Stood s.sites s.journal

-- the kinds of entries that touch no queue
abbrev pub is_quiet : EntryKind → Bool
is_quiet kind.Signal = true
is_quiet kind.Empty = true
is_quiet kind.Front = true
is_quiet kind.Print = true
is_quiet kind.Read = true
is_quiet kind.Fail = true
is_quiet kind.ClusterEnd = true
is_quiet _ = false

-- those that touch none, or pending events alone
abbrev pub is_still : EntryKind → Bool
is_still kind.Raise = true
is_still kind.Poll = true
is_still k = is_quiet k

-- those by which whoever is inside an object goes out, and goes on to run, without the end of a call
abbrev pub is_exit : EntryKind → Bool
is_exit kind.Made = true
is_exit kind.Gone = true
is_exit _ = false

-- those that touch doors or pending events at most
abbrev pub is_calm : EntryKind → Bool
is_calm kind.Made = true
is_calm kind.Leave = true
is_calm kind.Gone = true
is_calm k = is_still k

-- the kinds of entries by which their task goes to the back of the ready queue of its cluster
abbrev pub is_back : EntryKind → Bool
is_back kind.Slice = true
is_back kind.Yield = true
is_back _ = false

-- who is next at object o, the way, the clause, and whether the call that met its accept has failed
pub record IsNextOf (sites : List Site) (o : ℕ) (j : Journal) (n : Passed) : Type 0 where
  pub next : next o j ≡ Some (n.task, n.way)
  pub clause : clause_by_way sites o j (n.task, n.way) ≡ n.clause
  pub failed : failed_by_way sites o j (n.task, n.way) ≡ n.failed
  pub waits : queued_at o (spot n.task j) ≡ true
  pub place : (spot n.task j ≡ At (Waits o)) ⊎ (spot n.task j ≡ At (Stacked o))
  pub way : holds 1 (pos n.way) ≡ false

-- the acting task t is in no queue from which the next of o is taken
pub record IsAside (t o : ℕ) (j : Journal) : Type 0 where
  pub acts : last_actor 0 j ≡ t
  pub waits : here (Waits o) (spot t j) ≡ 0
  pub stacked : here (Stacked o) (spot t j) ≡ 0

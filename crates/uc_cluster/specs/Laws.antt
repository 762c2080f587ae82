-- What the clusters hold is what a journal tells, entry by entry.
use Rattle.std.specs.Prelude.{◌≡◌, ℕ, pos, ◌<◌, ◌≤◌, ◌+◌, ◌==◌, Bool, true, false, List, [], ◌∷◌, ◌++◌, length, Option, Some, None, if◌then◌else◌}
use Rattle.std.specs.Option.{option_to_list}
use Rattle.std.specs.List.{list_any}
use Rattle.uc_entry.specs.declared.entry.Entry.{Entry}
use Rattle.uc_entry.specs.declared.entry.EntryKind.{EntryKind}
use Rattle.uc_entry.specs.declared.entry.EntryKind.TheVariants as kind
use Rattle.uc_entry.specs.declared.entry.Options.{Options}
use Rattle.uc_acts.specs.Journal.{Journal, Cost, begin, asking}
use Rattle.uc_acts.specs.Queues.{ready, running, readies, puts_on, takes_off, cluster_of, last_actor, actor, cluster_count, processor_count, processors, open_processors, closes, tasks_on}
use Rattle.uc_acts.specs.Queues.{is_in_use as uses, none_running, none_ready as nobody_ready, none_served as nobody_served}
use Rattle.uc_acts.specs.Acts.{dispatch}
use Rattle.uc_cluster.specs.declared.clusters.Processor.{Processor}
use Rattle.uc_cluster.specs.Standing.{Standing, IsUnready, queue_at, processor_at, place_of, or_0, opening, made_ready, with_processor, with_place, with_cluster, one_more_processor, started, closed, is_on, is_in_use, stall_of, stalled_by}
use Rattle.uc_cluster.specs.Standing.{running as runs}

-- each cluster's queue is what the journal tells is ready there
abbrev pub AreReady : Standing → Journal → Type 0
AreReady v j = (k : ℕ) → queue_at v.queues k ≡ ready k j

-- on each processor runs what the journal tells
abbrev pub AreRunning : Standing → Journal → Type 0
AreRunning v j = (p : ℕ) → option_to_list (processor_at v p).task ≡ running p j

-- there are as many clusters as the journal tells
abbrev pub AreCounted : Standing → Journal → Type 0
AreCounted v j = length v.queues ≡ cluster_count j

-- all processors of a list, and the open ones, each with its number and its cluster; the first has this number
abbrev pub numbered : ℕ → List Processor → List (ℕ × ℕ)
numbered n [] = []
numbered n (x ∷ xs) = (n, x.cluster) ∷ numbered (n + 1) xs

abbrev pub opened : ℕ → List Processor → List (ℕ × ℕ)
opened n [] = []
opened n (x ∷ xs) = if x.is_open then (n, x.cluster) ∷ opened (n + 1) xs else opened (n + 1) xs

-- the processors, and those that are open, are those that the journal tells; none that is to come was closed
pub record AreOpen (opts : Options) (ps : List Processor) (j : Journal) : Type 0 where
  pub counted : length ps ≡ processor_count opts j
  pub all : processors opts j ≡ numbered 0 ps
  pub opened_are : open_processors opts j ≡ opened 0 ps
  pub unclosed : (p : ℕ) → length ps ≤ p → list_any (λ e. closes p e.kind e) j ≡ false

-- on each cluster stand the tasks that the journal tells stand there, and a task is on the cluster where it stands
pub record ArePlaced (v : Standing) (j : Journal) : Type 0 where
  pub on : (k t : ℕ) → list_any (λ u. u == t) (tasks_on k j) ≡ is_on k (place_of v t)
  pub cluster : (k t : ℕ) → place_of v t ≡ Some k → cluster_of t j ≡ k

abbrev pub is_dispatch : EntryKind → Bool
is_dispatch kind.Dispatch = true
is_dispatch _ = false

-- the entries that make or close a processor
abbrev pub tells_processor : EntryKind → Bool
tells_processor kind.Processor = true
tells_processor kind.ProcessorEnd = true
tells_processor _ = false

abbrev pub tells_cluster : EntryKind → Bool
tells_cluster kind.Cluster = true
tells_cluster _ = false

-- the entries by which a task comes to stand somewhere else
abbrev pub tells_place : EntryKind → Bool
tells_place kind.Begin = true
tells_place kind.Spawn = true
tells_place kind.Migrate = true
tells_place kind.End = true
tells_place _ = false

-- who acts once the entry stands
abbrev pub actor_at : Journal → Entry → ℕ
actor_at j e = actor (last_actor 0 j) e.kind e

-- ---- the opening
abbrev pub LawOpening : Type 0
LawOpening = (opts : Options) (tasks : ℕ) → 0 < tasks → let v = opening opts.processors tasks in let j = begin opts ∷ [] in
    AreReady (made_ready 0 v) j × AreRunning v j × AreCounted v j × AreOpen opts v.processors j × ArePlaced v j

-- ---- ready queues
-- an entry makes a task ready, on the cluster where it stands
abbrev pub LawReady : Type 0
LawReady = (v : Standing) (j : Journal) (e : Entry) (t : ℕ) → is_dispatch e.kind ≡ false → readies e.kind e (actor_at j e) ≡ Some t → cluster_of t (j ++ e ∷ []) ≡ or_0 (place_of v t) → or_0 (place_of v t) < length v.queues → AreReady v j → AreReady (made_ready t v) (j ++ e ∷ [])

-- an entry makes no task ready
abbrev pub LawUnready : Type 0
LawUnready = (v : Standing) (j : Journal) (e : Entry) → is_dispatch e.kind ≡ false → readies e.kind e (actor_at j e) ≡ None → AreReady v j → AreReady v (j ++ e ∷ [])

-- a dispatch takes the front of its cluster's queue; the task is in no other place of the queues
abbrev pub LawTakes : Type 0
LawTakes = (v : Standing) (j : Journal) (p t : ℕ) (rest : List ℕ) → queue_at v.queues (processor_at v p).cluster ≡ t ∷ rest → (processor_at v p).cluster < length v.queues → IsUnready t (started v p) → AreReady v j → AreReady (started v p) (j ++ dispatch p t ∷ [])

-- ---- what runs
-- the task of a dispatch then runs there
abbrev pub LawStarts : Type 0
LawStarts = (v : Standing) (j : Journal) (p t : ℕ) (rest : List ℕ) → queue_at v.queues (processor_at v p).cluster ≡ t ∷ rest → p < length v.processors → AreRunning v j → AreRunning (started v p) (j ++ dispatch p t ∷ [])

-- an entry takes the task of its processor off, and puts none there
abbrev pub LawFrees : Type 0
LawFrees = (v : Standing) (j : Journal) (e : Entry) (t : ℕ) → e.proc < length v.processors → running e.proc j ≡ t ∷ [] → takes_off e.kind e t ≡ true → puts_on e.kind e (actor_at j e) ≡ None → AreRunning v j
    → AreRunning (with_processor v e.proc (runs None (processor_at v e.proc))) (j ++ e ∷ [])

-- an entry does not take the task of its processor off, and puts nobody on
abbrev pub LawStays : Type 0
LawStays = (v : Standing) (j : Journal) (e : Entry) → ((t : ℕ) → (processor_at v e.proc).task ≡ Some t → takes_off e.kind e t ≡ false) → puts_on e.kind e (actor_at j e) ≡ None → AreRunning v j → AreRunning v (j ++ e ∷ [])

-- an entry takes the task of its processor off, and the next puts it there again, as a call and then the caller's own admission do
abbrev pub LawKeeps : Type 0
LawKeeps = (v : Standing) (j : Journal) (e f : Entry) (t : ℕ) → e.proc ≡ f.proc → (processor_at v f.proc).task ≡ Some t → takes_off e.kind e t ≡ true → puts_on e.kind e (actor_at j e) ≡ None → puts_on f.kind f (actor_at (j ++ e ∷ []) f) ≡ Some t
    → AreRunning v j → AreRunning v ((j ++ e ∷ []) ++ f ∷ [])

-- ---- clusters
-- one cluster more, where nobody is ready
abbrev pub LawCluster : Type 0
LawCluster = (v : Standing) (j : Journal) (p t : ℕ) (k : Cost) (n : ℕ) → let e = asking kind.Cluster p t k 0 (pos n) (pos 0) in AreReady v j → AreCounted v j → AreReady (with_cluster v) (j ++ e ∷ []) × AreCounted (with_cluster v) (j ++ e ∷ [])

abbrev pub LawClusters : Type 0
LawClusters = (v : Standing) (j : Journal) (e : Entry) → tells_cluster e.kind ≡ false → AreCounted v j → AreCounted v (j ++ e ∷ [])

-- ---- processors
-- one processor more, with the next number, where nobody runs
abbrev pub LawProcessor : Type 0
LawProcessor = (opts : Options) (v : Standing) (j : Journal) (p t : ℕ) (k : Cost) (c : ℕ) → let e = asking kind.Processor p t k 0 (pos (length v.processors)) (pos c) in
    AreOpen opts v.processors j → AreRunning v j → AreOpen opts (one_more_processor c v).processors (j ++ e ∷ []) × AreRunning (one_more_processor c v) (j ++ e ∷ [])

-- a known processor is closed; its task goes on
abbrev pub LawCloses : Type 0
LawCloses = (opts : Options) (v : Standing) (j : Journal) (p t : ℕ) (k : Cost) (q c : ℕ) → let e = asking kind.ProcessorEnd p t k 0 (pos q) (pos c) in
    let w = with_processor v q (closed (processor_at v q)) in
    q < length v.processors → AreOpen opts v.processors j → AreRunning v j → AreOpen opts w.processors (j ++ e ∷ []) × AreRunning w (j ++ e ∷ [])

-- any other entry, whatever runs then on a processor
abbrev pub LawOpenStays : Type 0
LawOpenStays = (opts : Options) (v : Standing) (j : Journal) (e : Entry) → tells_processor e.kind ≡ false → AreOpen opts v.processors j
    → AreOpen opts v.processors (j ++ e ∷ []) × ((p : ℕ) (task : Option ℕ) → AreOpen opts (with_processor v p (runs task (processor_at v p))).processors (j ++ e ∷ []))

-- ---- places
-- a new task stands where its creator does
abbrev pub LawSpawned : Type 0
LawSpawned = (v : Standing) (j : Journal) (p t : ℕ) (k : Cost) (o u c : ℕ) → let e = asking kind.Spawn p t k o (pos u) (pos 0) in
    u < length v.places → place_of v u ≡ None → place_of v t ≡ Some c → ArePlaced v j → ArePlaced (with_place v u (place_of v t)) (j ++ e ∷ [])

-- a task stands on the cluster to which it migrates
abbrev pub LawMigrates : Type 0
LawMigrates = (v : Standing) (j : Journal) (p t : ℕ) (k : Cost) (c : ℕ) → let e = asking kind.Migrate p t k 0 (pos c) (pos 0) in
    t < length v.places → ArePlaced v j → ArePlaced (with_place v t (Some c)) (j ++ e ∷ [])

-- a task that ends stands nowhere
abbrev pub LawEnded : Type 0
LawEnded = (v : Standing) (j : Journal) (e : Entry) → e.kind ≡ kind.End → e.task < length v.places → ArePlaced v j → ArePlaced (with_place v e.task None) (j ++ e ∷ [])

-- by any other entry nobody comes to stand somewhere else
abbrev pub LawStands : Type 0
LawStands = (v : Standing) (j : Journal) (e : Entry) → tells_place e.kind ≡ false → ArePlaced v j → ArePlaced v (j ++ e ∷ [])

-- ---- what is asked of them
-- whether a cluster is in use is what the journal tells
abbrev pub LawInUse : Type 0
LawInUse = (opts : Options) (v : Standing) (j : Journal) (k : ℕ) → AreOpen opts v.processors j → ArePlaced v j → is_in_use k v ≡ uses opts k j

-- whether no task can go on, and why, is what the journal tells
abbrev pub LawStalled : Type 0
LawStalled = (opts : Options) (v : Standing) (j : Journal) → AreReady v j → AreRunning v j → AreCounted v j → AreOpen opts v.processors j
    → stall_of v ≡ stalled_by (none_running opts j) (nobody_ready j) (nobody_served opts j)

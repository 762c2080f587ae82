-- All parts with one entry more.
use Rattle.std.proofs.Common.{◌≡◌, ℕ, ℤ, ◌==◌, ◌<◌, ◌≤◌, cond, Bool, true, false, List, [], ◌∷◌, ◌++◌, Option, Some, None, refl, sym, ap, ◌∙◌, subst, arith, length, length-set}
use Rattle.std.specs.Option.{is_some}
use Rattle.std.proofs.lemmas.Bool.{eqb-true, eq-eqb}
use Rattle.uc_tree.specs.declared.limits.TheConstants.{TASKS}
use Rattle.uc_tree.specs.Programs.{Site}
use Rattle.uc_entry.specs.declared.entry.Entry.{Entry}
use Rattle.uc_entry.specs.declared.entry.Options.{Options}
use Rattle.uc_entry.specs.declared.entry.EntryKind.{EntryKind}
use Rattle.uc_entry.specs.declared.entry.EntryKind.TheVariants as kind
use Rattle.uc_acts.specs.Journal.{Journal, Cost, asking, inside, owns, holds}
use Rattle.uc_acts.specs.Queues.{Noted, readies, dispatches, puts_on, takes_off, clusters, is_cluster, running, cluster_of}
use Rattle.uc_acts.specs.Doors.{last_called}
use Rattle.uc_acts.specs.Known.{is_make, is_spawn, object_count, owned}
use Rattle.uc_acts.specs.Sound.{At, mover, target, spot, here}
use Rattle.uc_acts.specs.Stations.{Ready, Running}
use Rattle.uc_acts.specs.Legal.{Legal}
use Rattle.uc_acts.proofs.Hush.{is_silent, door_silent}
use Rattle.uc_acts.proofs.Noted.{noted_at}
use Rattle.uc_acts.proofs.SoundLemmas.{sound_step, self_test}
use Rattle.uc_acts.proofs.Stood.{stood_step}
use Rattle.uc_acts.proofs.Moves.{spot_stays, spot_moves, first_at, known_at}
use Rattle.uc_mutex.specs.Doors.{Doors, no_door, door_at, with_door, inside_is, call_over}
use Rattle.uc_kernel_core.specs.DoorLaws.{goes_out}
use Rattle.uc_kernel_core.proofs.DoorLemmas.{out, leaves}
use Rattle.uc_condition.specs.Waiting.{Waiting}
use Rattle.uc_condition.specs.Laws.{is_silent as tells_no_wait}
use Rattle.uc_events.specs.Pending.{Event}
use Rattle.uc_events.specs.Laws.{tells, ArePending}
use Rattle.uc_events.specs.Pending.{pending_at, with_pending, without_oldest}
use Rattle.uc_events.proofs.Mirrors.{poll}
use Rattle.uc_acts.specs.Pending.{pending, pending_by, oldest_in}
use Rattle.uc_acts.specs.Acts.{poll_entry, truth}
use Rattle.uc_cluster.specs.Standing.{Standing, IsPlaced, IsUnready, queue_at, processor_at, place_of, with_processor, with_place, made_ready, or_0}
use Rattle.uc_cluster.proofs.Places.{ended}
use Rattle.uc_acts.proofs.Noted.{last_clusters_push}
use Rattle.uc_acts.specs.Queues.{last_clusters}
use Rattle.uc_kernel_core.specs.DoorLaws.{IsDoor}
use Rattle.uc_kernel_core.proofs.Clusters.{same_clusters}
use Rattle.std.proofs.Common.{get_or-set_other, get_or-set_same, pos}
use Rattle.std.proofs.lemmas.List.{set-set}
use Rattle.uc_cluster.specs.Standing.{running as runs_on}
use Rattle.uc_cluster.specs.Laws.{tells_processor, tells_place}
use Rattle.uc_cluster.proofs.Desks.{open_stays}
use Rattle.uc_kernel_core.specs.Mirrors.{Mirrors, DoorsAre, WaitsAre, EventsAre, ClustersAre, MarksAre, OwnersAre, queued_at, is_at, is_quiet, is_still, is_calm, is_exit, is_back}
use Rattle.uc_kernel_core.proofs.Doors.{same_tasks, doors_silent, doors_set, waits_silent, events_silent, owners_silent}
use Rattle.uc_kernel_core.proofs.Clusters.{Keeps, cluster_stays, clusters_by, ready_stays, ready_back, run_stays, run_set, off_now, known_processor, unready_by}
use Rattle.uc_kernel_core.proofs.Owners.{owner_made}
use Rattle.uc_kernel_core.proofs.Fresh.{fresh_step, pending_push}
use Rattle.uc_kernel_core.proofs.Marks.{last_all, marks_by, marked_same, entered_same}

-- what an entry leaves alone: all but doors and pending events
pub record Calm (k : EntryKind) (e : Entry) : Type 0 where
  pub make : is_make k ≡ false
  pub spawn : is_spawn k ≡ false
  pub wait : tells_no_wait k ≡ true
  pub readies : (t : ℕ) → readies k e t ≡ None
  pub dispatches : (t : ℕ) → dispatches k e t ≡ false
  pub takes_off : (t : ℕ) → takes_off k e t ≡ false
  pub puts_on : (t : ℕ) → puts_on k e t ≡ None
  pub clusters : (on : ℕ → ℕ) (t : ℕ) → clusters on k e t ≡ on t
  pub cluster : is_cluster k ≡ false
  pub mover : (t : ℕ) → mover k e t ≡ false
  pub desk : tells_processor k ≡ false
  pub stand : tells_place k ≡ false
  pub owned : owned k e ≡ None
  pub owns : (t : ℕ) → owns t k e ≡ None
  pub last : (on : ℕ → Option ℕ) (t : ℕ) → last_called on k e t ≡ on t

pub calm_now : (k : EntryKind) (e : Entry) → is_calm k ≡ true → Calm k e
calm_now kind.Begin e h = cc
calm_now kind.Dispatch e h = cc
calm_now kind.Slice e h = cc
calm_now kind.Yield e h = cc
calm_now kind.Make e h = cc
calm_now kind.Spawn e h = cc
calm_now kind.Call e h = cc
calm_now kind.Admit e h = cc
calm_now kind.Push e h = cc
calm_now kind.Accept e h = cc
calm_now kind.Wait e h = cc
calm_now kind.SignalBlock e h = cc
calm_now kind.Cluster e h = cc
calm_now kind.Processor e h = cc
calm_now kind.ProcessorEnd e h = cc
calm_now kind.Migrate e h = cc
calm_now kind.End e h = cc
calm_now kind.Fault e h = cc
calm_now kind.Done e h = cc
calm_now kind.Deadlock e h = cc
calm_now kind.NoProcessor e h = cc
calm_now kind.Limit e h = cc
calm_now k e h = record {
  make = refl;
  spawn = refl;
  wait = refl;
  readies = λ t. refl;
  dispatches = λ t. refl;
  takes_off = λ t. refl;
  puts_on = λ t. refl;
  clusters = λ on t. refl;
  cluster = refl;
  mover = λ t. refl;
  desk = refl;
  stand = refl;
  owned = refl;
  owns = λ t. refl;
  last = λ on t. refl;
}

module _ (opts : Options) (sites : List Site) (j : Journal) (doors : Doors) (waits : Waiting) (events : List (List Event)) (standing : Standing) (marks ins : List Bool) (owners : List (Option ℕ)) (own : List ℕ) (h : Mirrors opts sites j doors waits events standing marks ins owners own) (e : Entry) (l : Legal e j) (sp : is_spawn e.kind ≡ false) where
  -- with the parts that it has then
  pub with_parts : (doors' : Doors) (waits' : Waiting) (events' : List (List Event)) (standing' : Standing) (marks' ins' : List Bool) → DoorsAre sites (j ++ e ∷ []) doors' → WaitsAre (j ++ e ∷ []) waits' → EventsAre (j ++ e ∷ []) events' → ClustersAre opts (j ++ e ∷ []) standing' → MarksAre (j ++ e ∷ []) marks' ins' → OwnersAre (j ++ e ∷ []) owners own → Mirrors opts sites (j ++ e ∷ []) doors' waits' events' standing' marks' ins' owners own
  with_parts doors' waits' events' standing' marks' ins' a b c d m ow = record {
    doors_are = a;
    waits_are = b;
    events_are = c;
    clusters_are = d;
    marks_are = m;
    owners_are = ow;
    few = rw (same_tasks j e sp) h.few;
    sound = sound_step e j h.sound l;
    stood = stood_step sites e j h.sound l h.stood;
    known_sites = h.known_sites;
    owned = owner_made j e sp h.owned;
    fresh = fresh_step e j l h.fresh;
  }

still_door : (k : EntryKind) → is_still k ≡ true → is_silent k ≡ true
still_door kind.Begin h = cc
still_door kind.Make h = cc
still_door kind.Made h = cc
still_door kind.Spawn h = cc
still_door kind.Call h = cc
still_door kind.Leave h = cc
still_door kind.Admit h = cc
still_door kind.Push h = cc
still_door kind.Accept h = cc
still_door kind.Wait h = cc
still_door kind.SignalBlock h = cc
still_door kind.End h = cc
still_door kind.Gone h = cc
still_door k h = refl

still_calm : (k : EntryKind) → is_still k ≡ true → is_calm k ≡ true
still_calm kind.Made h = refl
still_calm kind.Leave h = refl
still_calm kind.Gone h = refl
still_calm k h = h

pub m_calm : (opts : Options) (sites : List Site) (j : Journal) (doors : Doors) (waits : Waiting) (events : List (List Event)) (standing : Standing) (marks ins : List Bool) (owners : List (Option ℕ)) (own : List ℕ) → Mirrors opts sites j doors waits events standing marks ins owners own → (e : Entry) → Legal e j → Calm e.kind e → (doors' : Doors) (events' : List (List Event)) → DoorsAre sites (j ++ e ∷ []) doors' → EventsAre (j ++ e ∷ []) events' → ((t : ℕ) → inside e.object (j ++ e ∷ []) ≡ t ∷ [] → inside e.object j ≡ t ∷ []) → Mirrors opts sites (j ++ e ∷ []) doors' waits events' standing marks ins owners own
m_calm opts sites j doors waits events standing marks ins owners own h e l q doors' events' ds ev stay =
    let keeps : Keeps j e = record { clusters = q.clusters; no_cluster = q.cluster; no_processor = q.desk; no_place = q.stand; was = λ t m. absurd (no_mover t m (q.mover t)) } in
    with_parts opts sites j doors waits events standing marks ins owners own h e l q.spawn doors' waits events' standing marks ins ds (waits_silent j waits e h.waits_are q.make q.spawn q.wait) ev
    (clusters_by j e keeps opts standing standing h.clusters_are (λ c. h.clusters_are.ready_are c ∙ sym (ready_stays j e (q.readies _) q.dispatches c)) (λ p. h.clusters_are.runs p ∙ sym (run_stays j e (q.puts_on _) q.takes_off p)) (open_stays opts standing j e q.desk h.clusters_are.desks).0 refl refl)
    (marks_by j marks ins h.marks_are e q.make marks ins refl refl (marked_same j marks ins h.marks_are e q.make q.last (λ t o g. ap (queued_at o) (sym (spot_stays j e t (q.mover t))) ∙ g)) (entered_same j marks ins h.marks_are e q.make (λ t g. (stay t g, last_all e.object j e q.last t))))
    (owners_silent j owners own h.owners_are e q.make q.owned q.owns)
  where
    no_mover : (t : ℕ) → mover e.kind e t ≡ true → mover e.kind e t ≡ false → ⊥
    no_mover t a b = clash (sym a ∙ b)
      where
        clash : true ≡ false → ⊥
        clash e = cc

pub m_still : (opts : Options) (sites : List Site) (j : Journal) (doors : Doors) (waits : Waiting) (events : List (List Event)) (standing : Standing) (marks ins : List Bool) (owners : List (Option ℕ)) (own : List ℕ) → Mirrors opts sites j doors waits events standing marks ins owners own → (e : Entry) → Legal e j → is_still e.kind ≡ true → (events' : List (List Event)) → EventsAre (j ++ e ∷ []) events' → Mirrors opts sites (j ++ e ∷ []) doors waits events' standing marks ins owners own
m_still opts sites j doors waits events standing marks ins owners own h e l k events' ev =
    let q = calm_now e.kind e (still_calm e.kind k) in
    let d = still_door e.kind k in
    m_calm opts sites j doors waits events standing marks ins owners own h e l q doors events' (doors_silent sites j doors h.doors_are e q.make d) ev (λ t g. sym (door_silent e.object j e d).inside ∙ g)

-- whoever is inside goes out, and goes on to run, without the end of a call
pub m_out : (opts : Options) (sites : List Site) (j : Journal) (doors : Doors) (waits : Waiting) (events : List (List Event)) (standing : Standing) (marks ins : List Bool) (owners : List (Option ℕ)) (own : List ℕ) → Mirrors opts sites j doors waits events standing marks ins owners own → (e : Entry) → Legal e j → is_exit e.kind ≡ true → inside e.object j ≡ e.task ∷ [] → e.object < object_count j → Mirrors opts sites (j ++ e ∷ []) (with_door doors e.object (inside_is None (door_at doors e.object))) waits events standing marks ins owners own
m_out opts sites j doors waits events standing marks ins owners own h e l k one known =
    let q = calm_now e.kind e (exit_calm e.kind k) in
    let lt : e.object < length doors.doors = rw h.doors_are.made known in
    let at = out sites j (door_at doors e.object) e (exit_out e.kind k) one (h.doors_are.each e.object lt) in
    m_calm opts sites j doors waits events standing marks ins owners own h e l q (with_door doors e.object (inside_is None (door_at doors e.object))) events (doors_set sites j doors h.doors_are e q.make q.spawn (inside_is None (door_at doors e.object)) at) (events_silent j events e h.events_are q.spawn (exit_events e.kind k)) (λ t g. absurd (nobody t (at.within ∙ g)))
  where
    nobody : (t : ℕ) → [] ≡ t ∷ [] → ⊥
    nobody t e = cc

    exit_calm : (k : EntryKind) → is_exit k ≡ true → is_calm k ≡ true
    exit_calm kind.Made h = refl
    exit_calm kind.Gone h = refl
    exit_calm k h = cc

    exit_out : (k : EntryKind) → is_exit k ≡ true → goes_out k ≡ true
    exit_out kind.Made h = refl
    exit_out kind.Gone h = refl
    exit_out k h = cc

    exit_events : (k : EntryKind) → is_exit k ≡ true → tells k ≡ false
    exit_events kind.Made h = refl
    exit_events kind.Gone h = refl
    exit_events k h = cc

-- by a leave, which ends a call as well
pub m_leave : (opts : Options) (sites : List Site) (j : Journal) (doors : Doors) (waits : Waiting) (events : List (List Event)) (standing : Standing) (marks ins : List Bool) (owners : List (Option ℕ)) (own : List ℕ) → Mirrors opts sites j doors waits events standing marks ins owners own → (p t : ℕ) (k : Cost) (o : ℕ) (failed : Bool) → let e = asking kind.Leave p t k o (truth failed) (pos 0) in Legal e j → inside o j ≡ t ∷ [] → o < object_count j → (v w : Doors) → v ≡ with_door doors o (call_over t failed (door_at doors o)) → w ≡ with_door v o (inside_is None (door_at v o)) → Mirrors opts sites (j ++ e ∷ []) w waits events standing marks ins owners own
m_leave opts sites j doors waits events standing marks ins owners own h p t k o failed l one known v w over gone =
    let e = asking kind.Leave p t k o (truth failed) (pos 0) in
    let d = call_over t failed (door_at doors o) in
    let lt : o < length doors.doors = rw h.doors_are.made known in
    let there : door_at v o ≡ d = ap (λ (x : Doors). door_at x o) over ∙ get_or-set_same doors.doors o d no_door lt in
    let same : with_door doors o (inside_is None d) ≡ w = sym (gone ∙ ap (λ y. with_door v o (inside_is None y)) there ∙ ap (λ (x : Doors). with_door x o (inside_is None d)) over ∙ ap (λ l. let x : Doors = record { tasks = doors.tasks; doors = l; pulled = None } in x) (set-set doors.doors o d (inside_is None d))) in
    let at : IsDoor sites o (j ++ e ∷ []) (inside_is None d) = ap_told failed (leaves sites j (door_at doors o) e refl one (h.doors_are.each o lt)) in
    let q = calm_now kind.Leave e refl in
    subst (λ x. Mirrors opts sites (j ++ e ∷ []) x waits events standing marks ins owners own) same (m_calm opts sites j doors waits events standing marks ins owners own h e l q (with_door doors o (inside_is None d)) events (doors_set sites j doors h.doors_are e refl refl (inside_is None d) at) (events_silent j events e h.events_are refl refl) (λ u g. absurd (nobody u (at.within ∙ g))))
  where
    nobody : (u : ℕ) → [] ≡ u ∷ [] → ⊥
    nobody u e = cc

    told : (b : Bool) → holds 1 (truth b) ≡ b
    told true = refl
    told false = refl

    ap_told : (b : Bool) → IsDoor sites o (j ++ asking kind.Leave p t k o (truth failed) (pos 0) ∷ []) (inside_is None (call_over t (holds 1 (truth b)) (door_at doors o))) → IsDoor sites o (j ++ asking kind.Leave p t k o (truth failed) (pos 0) ∷ []) (inside_is None (call_over t b (door_at doors o)))
    ap_told b g = subst (λ x. IsDoor sites o (j ++ asking kind.Leave p t k o (truth failed) (pos 0) ∷ []) (inside_is None (call_over t x (door_at doors o)))) (told b) g

quiet_still : (k : EntryKind) → is_quiet k ≡ true → is_still k ≡ true
quiet_still kind.Raise h = refl
quiet_still kind.Poll h = refl
quiet_still k h = h

quiet_events : (k : EntryKind) → is_quiet k ≡ true → tells k ≡ false
quiet_events kind.Raise h = cc
quiet_events kind.Poll h = cc
quiet_events k h = refl

pub m_quiet : (opts : Options) (sites : List Site) (j : Journal) (doors : Doors) (waits : Waiting) (events : List (List Event)) (standing : Standing) (marks ins : List Bool) (owners : List (Option ℕ)) (own : List ℕ) → Mirrors opts sites j doors waits events standing marks ins owners own → (e : Entry) → Legal e j → is_quiet e.kind ≡ true → Mirrors opts sites (j ++ e ∷ []) doors waits events standing marks ins owners own
m_quiet opts sites j doors waits events standing marks ins owners own h e l k =
    let q = calm_now e.kind e (still_calm e.kind (quiet_still e.kind k)) in
    m_still opts sites j doors waits events standing marks ins owners own h e l (quiet_still e.kind k) events (events_silent j events e h.events_are q.spawn (quiet_events e.kind k))

-- a poll finds nothing where nothing is pending
poll_none : (p t : ℕ) (k : Cost) (mask u : ℕ) (x : Option (ℕ × ℤ × ℤ)) → pending_by u [] (poll_entry p t k mask x).kind (poll_entry p t k mask x) ≡ []
poll_none p t k mask u None = by (t == u)
  where
    by : (b : Bool) → cond {A = List (ℕ × ℤ × ℤ)} b [] [] ≡ []
    by true = refl
    by false = refl
poll_none p t k mask u (Some r) = by (t == u)
  where
    by : (b : Bool) → cond {A = List (ℕ × ℤ × ℤ)} b [] [] ≡ []
    by true = refl
    by false = refl

-- what an entry of a kind that sends its task to the back does
pub record Back (k : EntryKind) (e : Entry) : Type 0 where
  pub make : is_make k ≡ false
  pub spawn : is_spawn k ≡ false
  pub door : is_silent k ≡ true
  pub wait : tells_no_wait k ≡ true
  pub event : tells k ≡ false
  pub readies : (t : ℕ) → readies k e t ≡ Some e.task
  pub dispatches : (t : ℕ) → dispatches k e t ≡ false
  pub takes_off : takes_off k e e.task ≡ true
  pub puts_on : (t : ℕ) → puts_on k e t ≡ None
  pub clusters : (on : ℕ → ℕ) (t : ℕ) → clusters on k e t ≡ on t
  pub cluster : is_cluster k ≡ false
  pub mover : (t : ℕ) → mover k e t ≡ (t == e.task)
  pub target : (x : Noted) (t : ℕ) → target k x t ≡ At (Ready (x.cluster t))
  pub desk : tells_processor k ≡ false
  pub stand : tells_place k ≡ false
  pub owned : owned k e ≡ None
  pub owns : (t : ℕ) → owns t k e ≡ None
  pub last : (on : ℕ → Option ℕ) (t : ℕ) → last_called on k e t ≡ on t

pub back_now : (k : EntryKind) (e : Entry) → is_back k ≡ true → Back k e
back_now kind.Begin e h = cc
back_now kind.Dispatch e h = cc
back_now kind.Make e h = cc
back_now kind.Made e h = cc
back_now kind.Spawn e h = cc
back_now kind.Call e h = cc
back_now kind.Leave e h = cc
back_now kind.Admit e h = cc
back_now kind.Push e h = cc
back_now kind.Accept e h = cc
back_now kind.Wait e h = cc
back_now kind.Signal e h = cc
back_now kind.SignalBlock e h = cc
back_now kind.Empty e h = cc
back_now kind.Front e h = cc
back_now kind.Raise e h = cc
back_now kind.Poll e h = cc
back_now kind.Print e h = cc
back_now kind.Read e h = cc
back_now kind.Fail e h = cc
back_now kind.Cluster e h = cc
back_now kind.ClusterEnd e h = cc
back_now kind.Processor e h = cc
back_now kind.ProcessorEnd e h = cc
back_now kind.Migrate e h = cc
back_now kind.End e h = cc
back_now kind.Gone e h = cc
back_now kind.Fault e h = cc
back_now kind.Done e h = cc
back_now kind.Deadlock e h = cc
back_now kind.NoProcessor e h = cc
back_now kind.Limit e h = cc
back_now k e h = record {
  make = refl;
  spawn = refl;
  door = refl;
  wait = refl;
  event = refl;
  readies = λ t. refl;
  dispatches = λ t. refl;
  takes_off = self_test e.task;
  puts_on = λ t. refl;
  clusters = λ on t. refl;
  cluster = refl;
  mover = λ t. refl;
  target = λ x t. refl;
  desk = refl;
  stand = refl;
  owned = refl;
  owns = λ t. refl;
  last = λ on t. refl;
}

abbrev pub freed : Standing → ℕ → Standing
freed v p = with_processor v p (runs_on None (processor_at v p))

-- a task at a station, once it moved from one to another
module _ (opts : Options) (sites : List Site) (j : Journal) (doors : Doors) (waits : Waiting) (events : List (List Event)) (standing : Standing) (marks ins : List Bool) (owners : List (Option ℕ)) (own : List ℕ) (h : Mirrors opts sites j doors waits events standing marks ins owners own) where
  pub run_at : (p t : ℕ) → running p j ≡ t ∷ [] → spot t j ≡ At (Running p)
  run_at p t r = first_at j h.sound (Running p) t [] r

  pub run_known : (p t : ℕ) → running p j ≡ t ∷ [] → t < TASKS
  run_known p t r =
      let k = known_at j h.sound t (Running p) (run_at p t r) in
      let few = h.few in
      omega arith

  pub run_seated : (p t : ℕ) → running p j ≡ t ∷ [] → t < doors.tasks
  run_seated p t r =
      let k = known_at j h.sound t (Running p) (run_at p t r) in
      let room = h.doors_are.pool in
      omega arith

  pub run_waitable : (p t : ℕ) → running p j ≡ t ∷ [] → t < waits.tasks
  run_waitable p t r =
      let k = known_at j h.sound t (Running p) (run_at p t r) in
      let room = h.waits_are.pool in
      omega arith

  pub run_place : (p t : ℕ) → running p j ≡ t ∷ [] → place_of standing t ≡ Some (cluster_of t j)
  run_place p t r = h.clusters_are.placed t (ap is_at (run_at p t r))

  pub run_processor : (p t : ℕ) → running p j ≡ t ∷ [] → p < length standing.processors
  run_processor p t r = known_processor j opts standing h.clusters_are p t r

  pub run_pool : (p t : ℕ) → running p j ≡ t ∷ [] → t < length standing.places
  run_pool p t r = rw h.clusters_are.pool (run_known p t r)

  pub run_placed : (p t : ℕ) → running p j ≡ t ∷ [] → IsPlaced t (freed standing p)
  run_placed p t r =
      let at = run_place p t r in
      (ap is_some at, rw (ap or_0 at) (h.clusters_are.known t))

  pub run_unready : (p t : ℕ) → running p j ≡ t ∷ [] → IsUnready t (freed standing p)
  run_unready p t r = unready_by j opts standing h.clusters_are h.sound t (λ c. ap (here (Ready c)) (run_at p t r))

  pub m_back : (e : Entry) → Legal e j → is_back e.kind ≡ true → running e.proc j ≡ e.task ∷ [] → Mirrors opts sites (j ++ e ∷ []) doors waits events (made_ready e.task (freed standing e.proc)) marks ins owners own
  m_back e l k r =
      let b = back_now e.kind e k in
      let self = self_test e.task in
      let v = freed standing e.proc in
      let keeps : Keeps j e = record { clusters = b.clusters; no_cluster = b.cluster; no_processor = b.desk; no_place = b.stand; was = λ t m. ap (λ u. is_at (spot u j)) (eqb-true t e.task (sym (b.mover t) ∙ m)) ∙ ap is_at (run_at e.proc e.task r) } in
      let place : place_of v e.task ≡ Some (cluster_of e.task (j ++ e ∷ [])) = run_place e.proc e.task r ∙ ap Some (sym (cluster_stays j e keeps e.task)) in
      let known : cluster_of e.task (j ++ e ∷ []) < length v.queues = rw (cluster_stays j e keeps e.task) (h.clusters_are.known e.task) in
      with_parts opts sites j doors waits events standing marks ins owners own h e l b.spawn doors waits events (made_ready e.task v) marks ins (doors_silent sites j doors h.doors_are e b.make b.door) (waits_silent j waits e h.waits_are b.make b.spawn b.wait) (events_silent j events e h.events_are b.spawn b.event)
      (clusters_by j e keeps opts standing (made_ready e.task v) h.clusters_are (ready_back j v e e.task h.clusters_are.ready_are (b.readies _) b.dispatches place known) (run_set j standing e None h.clusters_are.runs (run_processor e.proc e.task r) (off_now j e e.task r b.takes_off (b.puts_on _))) ((open_stays opts standing j e b.desk h.clusters_are.desks).1 e.proc None) (length-set standing.queues (or_0 (place_of v e.task)) (queue_at v.queues (or_0 (place_of v e.task)) ++ e.task ∷ [])) refl)
      (marks_by j marks ins h.marks_are e b.make marks ins refl refl (marked_same j marks ins h.marks_are e b.make b.last (λ t o g. not_queued t o (t == e.task) refl g)) (entered_same j marks ins h.marks_are e b.make (λ t g. (sym (door_silent e.object j e b.door).inside ∙ g, last_all e.object j e b.last t))))
      (owners_silent j owners own h.owners_are e b.make b.owned b.owns)
    where
      clash : (a : Bool) → a ≡ true → a ≡ false → ⊥
      clash a t f = cc

      not_queued : (t o : ℕ) (c : Bool) → (t == e.task) ≡ c → queued_at o (spot t (j ++ e ∷ [])) ≡ true → queued_at o (spot t j) ≡ true
      not_queued t o false n g = ap (queued_at o) (sym (spot_stays j e t ((back_now e.kind e k).mover t ∙ n))) ∙ g
      not_queued t o true n g = absurd (clash (queued_at o (spot t (j ++ e ∷ []))) g (ap (queued_at o) (spot_moves j e t ((back_now e.kind e k).mover t ∙ n) ∙ (back_now e.kind e k).target (noted_at j e) t)))

  -- the main of a task ends
  pub m_end : (e : Entry) → Legal e j → e.kind ≡ kind.End → running e.proc j ≡ e.task ∷ [] → inside e.object j ≡ e.task ∷ [] → e.object < object_count j → Mirrors opts sites (j ++ e ∷ []) (with_door doors e.object (inside_is None (door_at doors e.object))) waits events (with_place (freed standing e.proc) e.task None) marks ins owners own
  m_end e l is r one known_o = ending_step
    where
      lt : e.object < length doors.doors
      lt = rw h.doors_are.made known_o

      at : IsDoor sites e.object (j ++ e ∷ []) (inside_is None (door_at doors e.object))
      at = out sites j (door_at doors e.object) e (ap goes_out is) one (h.doors_are.each e.object lt)

      make : is_make e.kind ≡ false
      make = ap is_make is

      spawn : is_spawn e.kind ≡ false
      spawn = ap is_spawn is

      gone : (t o : ℕ) → queued_at o (spot t (j ++ e ∷ [])) ≡ true → queued_at o (spot t j) ≡ true
      gone t o g = cases (t == e.task) refl
        where
          clash : false ≡ true → ⊥
          clash e = cc

          cases : (b : Bool) → (t == e.task) ≡ b → queued_at o (spot t j) ≡ true
          cases false n = ap (queued_at o) (sym (spot_stays j e t (ap (λ x. mover x e t) is ∙ n))) ∙ g
          cases true n = absurd (clash (sym (ap (queued_at o) (spot_moves j e t (ap (λ x. mover x e t) is ∙ n) ∙ ap (λ x. target x (noted_at j e) t) is)) ∙ g))

      cluster_same : (t : ℕ) → cluster_of t (j ++ e ∷ []) ≡ cluster_of t j
      cluster_same t = ap (λ f. f t) (last_clusters_push (λ u. 0) j e) ∙ ap (λ x. clusters (last_clusters (λ u. 0) j) x e t) is

      pool : e.task < length standing.places
      pool = run_pool e.proc e.task r

      standing_now : ClustersAre opts (j ++ e ∷ []) (with_place (freed standing e.proc) e.task None)
      standing_now =
          let gone = ended standing j e is pool h.clusters_are.stands in
          record {
            ready_are = λ c. h.clusters_are.ready_are c ∙ sym (ready_stays j e (ap (λ x. readies x e (noted_at j e).actor) is) (λ t. ap (λ x. dispatches x e t) is) c);
            runs = run_set j standing e None h.clusters_are.runs (run_processor e.proc e.task r) (off_now j e e.task r (ap (λ x. takes_off x e e.task) is ∙ self_test e.task) (ap (λ x. puts_on x e (noted_at j e).actor) is));
            counted = h.clusters_are.counted ∙ sym (same_clusters j e (ap is_cluster is));
            desks = (open_stays opts standing j e (ap tells_processor is) h.clusters_are.desks).1 e.proc None;
            stands = record { on = gone.on; cluster = gone.cluster };
            pool = length-set standing.places e.task None ∙ h.clusters_are.pool;
            placed = λ t a. place_by t (t == e.task) refl a;
            known = λ t. rw (cluster_same t) (h.clusters_are.known t);
          }
        where
          clash : false ≡ true → ⊥
          clash e = cc

          no_both : (b : Bool) → b ≡ true → b ≡ false → ⊥
          no_both b t f = cc

          place_by : (t : ℕ) (b : Bool) → (t == e.task) ≡ b → is_at (spot t (j ++ e ∷ [])) ≡ true → place_of (with_place (freed standing e.proc) e.task None) t ≡ Some (cluster_of t (j ++ e ∷ []))
          place_by t true n a = absurd (clash (sym (ap is_at (spot_moves j e t (ap (λ x. mover x e t) is ∙ n) ∙ ap (λ x. target x (noted_at j e) t) is)) ∙ a))
          place_by t false n a =
              get_or-set_other standing.places e.task t None None (λ s. no_both (t == e.task) (eq-eqb t e.task s) n) ∙ h.clusters_are.placed t (ap is_at (sym (spot_stays j e t (ap (λ x. mover x e t) is ∙ n))) ∙ a) ∙ ap Some (sym (cluster_same t))

      ending_step : Mirrors opts sites (j ++ e ∷ []) (with_door doors e.object (inside_is None (door_at doors e.object))) waits events (with_place (freed standing e.proc) e.task None) marks ins owners own
      ending_step =
          with_parts opts sites j doors waits events standing marks ins owners own h e l spawn (with_door doors e.object (inside_is None (door_at doors e.object))) waits events (with_place (freed standing e.proc) e.task None) marks ins (doors_set sites j doors h.doors_are e make spawn (inside_is None (door_at doors e.object)) at) (waits_silent j waits e h.waits_are make spawn (ap tells_no_wait is)) (events_silent j events e h.events_are spawn (ap tells is)) standing_now
          (marks_by j marks ins h.marks_are e make marks ins refl refl (marked_same j marks ins h.marks_are e make (λ on t. ap (λ x. last_called on x e t) is) gone) (entered_same j marks ins h.marks_are e make (λ t g. absurd (nobody t (at.within ∙ g)))))
          (owners_silent j owners own h.owners_are e make (ap (λ x. owned x e) is) (λ t. ap (λ x. owns t x e) is))
        where
          nobody : (t : ℕ) → [] ≡ t ∷ [] → ⊥
          nobody t e = cc

  -- a poll
  pub m_poll : (p t : ℕ) (k : Cost) (mask : ℕ) → running p j ≡ t ∷ [] → (e : Entry) → e ≡ poll_entry p t k mask (oldest_in mask (pending_at events t)) → Legal e j → is_still e.kind ≡ true → Mirrors opts sites (j ++ e ∷ []) doors waits (with_pending events t (without_oldest mask (pending_at events t))) standing marks ins owners own
  m_poll p t k mask r e is l still =
      let lt : t < length events = let n = known_at j h.sound t (Running p) (run_at p t r) in let m = h.events_are.known in omega arith in
      let spawn : is_spawn e.kind ≡ false = (calm_now e.kind e (still_calm e.kind still)).spawn in
      m_still opts sites j doors waits events standing marks ins owners own h e l still (with_pending events t (without_oldest mask (pending_at events t))) (record {
        pending = subst (λ (x : Entry). ArePending (with_pending events t (without_oldest mask (pending_at events t))) (j ++ x ∷ [])) (sym is) (poll events j p t k mask lt h.events_are.pending);
        known = length-set events t (without_oldest mask (pending_at events t)) ∙ h.events_are.known ∙ sym (same_tasks j e spawn);
        fresh = λ u g. poll_fresh u (subst (λ n. n ≤ u) (length-set events t (without_oldest mask (pending_at events t))) g);
      })
    where
      poll_fresh : (u : ℕ) → length events ≤ u → pending u (j ++ e ∷ []) ≡ []
      poll_fresh u g = subst (λ (x : Entry). pending u (j ++ x ∷ []) ≡ []) (sym is) (pending_push u j (poll_entry p t k mask (oldest_in mask (pending_at events t))) ∙ ap (λ ps. pending_by u ps (poll_entry p t k mask (oldest_in mask (pending_at events t))).kind (poll_entry p t k mask (oldest_in mask (pending_at events t)))) (h.events_are.fresh u g) ∙ poll_none p t k mask u (oldest_in mask (pending_at events t)))

  pub poll_found : (p t mask : ℕ) → running p j ≡ t ∷ [] → oldest_in mask (pending_at events t) ≡ oldest_in mask (pending t j)
  poll_found p t mask r =
      let lt : t < length events = let n = known_at j h.sound t (Running p) (run_at p t r) in let m = h.events_are.known in omega arith in
      ap (oldest_in mask) (h.events_are.pending t lt)

  pub event_known : (p t : ℕ) → running p j ≡ t ∷ [] → t < length events
  event_known p t r =
      let n = known_at j h.sound t (Running p) (run_at p t r) in
      let m = h.events_are.known in
      omega arith

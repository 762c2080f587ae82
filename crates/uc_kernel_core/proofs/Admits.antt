-- All parts with one entry more by which a task comes into an object, or into a queue of it.
use Rattle.std.proofs.Common.{◌≡◌, ℕ, suc, ◌==◌, ◌<◌, ◌||◌, Bool, true, false, not, List, [], ◌∷◌, ◌++◌, Option, Some, None, refl, sym, ap, ◌∙◌, length, length-set, set, append-nil}
use Rattle.std.specs.Prelude.{pos}
use Rattle.std.specs.Option.{option_to_list, is_some}
use Rattle.std.specs.List.{filter, list_any}
use Rattle.std.proofs.lemmas.Bool.{eqb-true}
use Rattle.uc_tree.specs.Programs.{Site}
use Rattle.uc_entry.specs.declared.entry.Entry.{Entry}
use Rattle.uc_entry.specs.declared.entry.Options.{Options}
use Rattle.uc_entry.specs.declared.entry.EntryKind.{EntryKind}
use Rattle.uc_entry.specs.declared.entry.EntryKind.TheVariants as kind
use Rattle.uc_acts.specs.Journal.{Journal, inside, where_true, asking, Cost}
use Rattle.uc_acts.specs.Queues.{running, cluster_of, last_actor}
use Rattle.uc_acts.specs.Doors.{last_call, last_called, calls_destructor, is_member}
use Rattle.uc_acts.specs.Known.{object_count, is_make, is_spawn}
use Rattle.uc_acts.specs.Acts.{admit_failed}
use Rattle.uc_acts.specs.Stations.{Ready, Running, Waits, Stacked, Blocked, times}
use Rattle.uc_acts.specs.Sound.{Spot, Unborn, Ended, At, spot, here, own_or_ready}
use Rattle.uc_acts.specs.Legal.{Legal}
use Rattle.uc_acts.proofs.Noted.{noted_at}
use Rattle.uc_acts.proofs.Seats.{running_other, running_same}
use Rattle.uc_acts.proofs.SoundLemmas.{self_test, all_kept_nil}
use Rattle.uc_acts.proofs.Moves.{inside_now, spot_stays, spot_moves, first_at}
use Rattle.uc_acts.proofs.Stood.{last_same, last_stays, flip}
use Rattle.uc_mutex.specs.Doors.{Door, Doors, door_at, with_door, behind}
use Rattle.uc_kernel_core.specs.DoorLaws.{IsDoor}
use Rattle.uc_kernel_core.proofs.DoorLemmas.{call}
use Rattle.uc_condition.specs.Waiting.{Waiting}
use Rattle.uc_condition.specs.Laws.{takes_out}
use Rattle.uc_condition.proofs.Mirrors.{elsewhere as waits_elsewhere}
use Rattle.uc_events.specs.Pending.{Event}
use Rattle.uc_cluster.specs.Standing.{Standing, IsPlaced, IsUnready, queue_at, processor_at, place_of, with_processor, made_ready, or_0 as place_or_0}
use Rattle.uc_cluster.specs.Standing.{running as runs_on}
use Rattle.uc_cluster.proofs.Desks.{open_stays}
use Rattle.uc_kernel_core.specs.Mirrors.{Mirrors, WaitsAre, MarksAre, queued_at, is_at}
use Rattle.uc_kernel_core.proofs.Doors.{no_both, doors_set, waits_silent, events_silent, owners_silent, idle_by, same_objects, same_room}
use Rattle.uc_kernel_core.proofs.Clusters.{Keeps, clusters_by, cluster_stays, ready_stays, ready_back, run_set, off_now, unready_by}
use Rattle.uc_kernel_core.proofs.Marks.{last_all, marks_by, marked_same, marked_set, entered_same, entered_set}
use Rattle.uc_kernel_core.proofs.Steps.{with_parts, freed, run_processor}

-- a task in a queue of an object
pub queued_spot : (o : ℕ) (P : Spot) → queued_at o P ≡ true → is_at P ≡ true
queued_spot o (At q) h = refl
queued_spot o Unborn h = cc
queued_spot o Ended h = cc

queued_from : (o : ℕ) (P : Spot) → queued_at o P ≡ true → (k : ℕ) → here (Ready k) P ≡ 0
queued_from o (At (Waits u)) q k = refl
queued_from o (At (Stacked u)) q k = refl
queued_from o (At (Blocked u c)) q k = refl
queued_from o P q k = cc

queued_on : (o : ℕ) (P : Spot) → queued_at o P ≡ true → (p : ℕ) → here (Running p) P ≡ 0
queued_on o (At (Waits u)) q p = refl
queued_on o (At (Stacked u)) q p = refl
queued_on o (At (Blocked u c)) q p = refl
queued_on o P q p = cc

keep_off : (u : ℕ) (xs : List ℕ) → times u xs ≡ 0 → filter (λ t. not (t == u)) xs ≡ xs
keep_off u [] h = refl
keep_off u (x ∷ xs) h = by (keep_off u xs) (u == x) refl h
  where
    by : (times u xs ≡ 0 → filter (λ t. not (t == u)) xs ≡ xs) → (b : Bool) → (u == x) ≡ b → times u (x ∷ xs) ≡ 0 → filter (λ t. not (t == u)) (x ∷ xs) ≡ x ∷ xs
    by ih true e k = absurd (not_zero (simp e at k))
      where
        not_zero : suc (times u xs) ≡ 0 → ⊥
        not_zero e = cc
    by ih false e k =
        let f = flip u x false e in
        simp f (ap (λ l. x ∷ l) (ih (simp e at k)))

module _ (opts : Options) (sites : List Site) (j : Journal) (doors : Doors) (waits : Waiting) (events : List (List Event)) (standing : Standing) (marks ins : List Bool) (owners : List (Option ℕ)) (own : List ℕ) (h : Mirrors opts sites j doors waits events standing marks ins owners own) where
  -- a task in a queue of an object comes in
  module _ (p u o way clause : ℕ) (failed : Bool) (l : Legal (admit_failed p u o way clause failed) j) (queued : queued_at o (spot u j) ≡ true) (empty : inside o j ≡ []) (b : Bool) (mark : b ≡ calls_destructor o u j) (d : Door) (at : IsDoor sites o (j ++ admit_failed p u o way clause failed ∷ []) d) (waits' : Waiting) (ws : WaitsAre (j ++ admit_failed p u o way clause failed ∷ []) waits') where
    gone_from : (t v : ℕ) → queued_at v (spot t (j ++ admit_failed p u o way clause failed ∷ [])) ≡ true → queued_at v (spot t j) ≡ true
    gone_from t v q = by (t == u) refl
      where
        by : (c : Bool) → (t == u) ≡ c → queued_at v (spot t j) ≡ true
        by false n = ap (queued_at v) (sym (spot_stays j (admit_failed p u o way clause failed) t n)) ∙ q
        by true n =
            absurd (not_queued (u == last_actor 0 j) (sym (ap (queued_at v) (spot_moves j (admit_failed p u o way clause failed) t n)) ∙ q))
          where
            not_queued : (c : Bool) → queued_at v (own_or_ready c p ((noted_at j (admit_failed p u o way clause failed)).cluster t)) ≡ true → ⊥
            not_queued true g = cc
            not_queued false g = cc

    now_in : (t : ℕ) → inside o (j ++ admit_failed p u o way clause failed ∷ []) ≡ t ∷ [] → b ≡ calls_destructor o t (j ++ admit_failed p u o way clause failed ∷ [])
    now_in t g =
        let e = admit_failed p u o way clause failed in
        let same : u ≡ t = first u t (sym (inside_now j e ∙ ap (λ l. filter (λ x. not (x == u)) l ++ u ∷ []) empty) ∙ g) in
        mark ∙ ap (λ v. calls_destructor o v j) same ∙ ap (is_member 0) (sym (last_all o j e (λ on t. refl) t))
      where
        first : (a c : ℕ) → a ∷ [] ≡ c ∷ [] → a ≡ c
        first a c e = cc

    admit_keeps : Keeps j (admit_failed p u o way clause failed)
    admit_keeps = record {
      clusters = λ on t. refl;
      no_cluster = refl;
      no_processor = refl;
      no_place = refl;
      was = λ t m. ap (λ v. is_at (spot v j)) (eqb-true t u m) ∙ queued_spot o (spot u j) queued;
    }

    admit_marks : MarksAre (j ++ admit_failed p u o way clause failed ∷ []) marks (set ins o b)
    admit_marks = marks_by j marks ins h.marks_are (admit_failed p u o way clause failed) refl marks (set ins o b) refl (length-set ins o b) (marked_same j marks ins h.marks_are (admit_failed p u o way clause failed) refl (λ on t. refl) gone_from) (entered_set j marks ins h.marks_are (admit_failed p u o way clause failed) refl b now_in)

    admit_place : place_of standing u ≡ Some (cluster_of u (j ++ admit_failed p u o way clause failed ∷ []))
    admit_place = h.clusters_are.placed u (queued_spot o (spot u j) queued) ∙ ap Some (sym (cluster_stays j (admit_failed p u o way clause failed) admit_keeps u))

    admit_known : cluster_of u (j ++ admit_failed p u o way clause failed ∷ []) < length standing.queues
    admit_known = rw (cluster_stays j (admit_failed p u o way clause failed) admit_keeps u) (h.clusters_are.known u)

    -- by another task's act: it is ready
    pub m_admit : (u == last_actor 0 j) ≡ false → Mirrors opts sites (j ++ admit_failed p u o way clause failed ∷ []) (with_door doors o d) waits' events (made_ready u standing) marks (set ins o b) owners own
    m_admit other =
        let e = admit_failed p u o way clause failed in
        let readied : where_true (not (u == last_actor 0 j)) u ≡ Some u = ap (λ c. where_true (not c) u) other in
        with_parts opts sites j doors waits events standing marks ins owners own h e l refl (with_door doors o d) waits' events (made_ready u standing) marks (set ins o b) (doors_set sites j doors h.doors_are e refl refl d at) ws (events_silent j events e h.events_are refl refl)
        (clusters_by j e admit_keeps opts standing (made_ready u standing) h.clusters_are (ready_back j standing e u h.clusters_are.ready_are readied (λ t. refl) admit_place admit_known) runs_kept (open_stays opts standing j e refl h.clusters_are.desks).0 (length-set standing.queues (place_or_0 (place_of standing u)) (queue_at standing.queues (place_or_0 (place_of standing u)) ++ u ∷ [])) refl)
        admit_marks (owners_silent j owners own h.owners_are e refl refl (λ t. refl))
      where
        runs_kept : (v : ℕ) → option_to_list (processor_at standing v).task ≡ running v (j ++ admit_failed p u o way clause failed ∷ [])
        runs_kept v = h.clusters_are.runs v ∙ by (p == v) refl
          where
            by : (c : Bool) → (p == v) ≡ c → running v j ≡ running v (j ++ admit_failed p u o way clause failed ∷ [])
            by false g = sym (running_other v j (admit_failed p u o way clause failed) g)
            by true g =
                let none : times u (running v j) ≡ 0 = h.sound.seats u (Running v) ∙ queued_on o (spot u j) queued v in
                sym (running_same v j (admit_failed p u o way clause failed) g ∙ ap (λ c. filter (λ t. not (t == u)) (running v j) ++ option_to_list (where_true c u)) other ∙ append-nil _ ∙ keep_off u (running v j) none)

    -- by its own: it runs again
    pub m_own : (u == last_actor 0 j) ≡ true → running p j ≡ [] → p < length standing.processors → Mirrors opts sites (j ++ admit_failed p u o way clause failed ∷ []) (with_door doors o d) waits' events (with_processor standing p (runs_on (Some u) (processor_at standing p))) marks (set ins o b) owners own
    m_own mine free lt =
        let e = admit_failed p u o way clause failed in
        let none : where_true (not (u == last_actor 0 j)) u ≡ None = ap (λ c. where_true (not c) u) mine in
        let some : where_true (u == last_actor 0 j) u ≡ Some u = ap (λ c. where_true c u) mine in
        let now : running p (j ++ e ∷ []) ≡ u ∷ [] = running_same p j e (self_test p) ∙ ap (λ x. filter (λ t. not (t == u)) (running p j) ++ option_to_list x) some ∙ ap (λ l. filter (λ t. not (t == u)) l ++ u ∷ []) free in
        with_parts opts sites j doors waits events standing marks ins owners own h e l refl (with_door doors o d) waits' events (with_processor standing p (runs_on (Some u) (processor_at standing p))) marks (set ins o b) (doors_set sites j doors h.doors_are e refl refl d at) ws (events_silent j events e h.events_are refl refl)
        (clusters_by j e admit_keeps opts standing (with_processor standing p (runs_on (Some u) (processor_at standing p))) h.clusters_are (λ c. h.clusters_are.ready_are c ∙ sym (ready_stays j e none (λ t. refl) c)) (run_set j standing e (Some u) h.clusters_are.runs lt now) ((open_stays opts standing j e refl h.clusters_are.desks).1 p (Some u)) refl refl)
        admit_marks (owners_silent j owners own h.owners_are e refl refl (λ t. refl))

    pub admit_placed : IsPlaced u standing
    admit_placed =
        let at = h.clusters_are.placed u (queued_spot o (spot u j) queued) in
        (ap is_some at, rw (ap place_or_0 at) (h.clusters_are.known u))

    pub admit_unready : IsUnready u standing
    admit_unready = unready_by j opts standing h.clusters_are h.sound u (queued_from o (spot u j) queued)

  taken_spawn : (k : EntryKind) → takes_out k ≡ true → is_spawn k ≡ false
  taken_spawn kind.Spawn h = cc
  taken_spawn k h = refl

  -- a task that waits on no condition
  pub waits_stay : (e : Entry) → is_make e.kind ≡ false → takes_out e.kind ≡ true → ((o c : ℕ) → here (Blocked o c) (spot e.task j) ≡ 0) → WaitsAre (j ++ e ∷ []) waits
  waits_stay e n k b = record {
    blocked = waits_elsewhere waits j e k h.waits_are.blocked (idle_by j waits h.waits_are h.sound e.task b);
    pool = same_room j e waits.tasks (taken_spawn e.kind k) h.waits_are.pool;
    known = rw (same_objects j e n) h.waits_are.known;
  }

  -- a call
  pub m_call : (p t : ℕ) (k : Cost) (o m : ℕ) → Legal (asking kind.Call p t k o (pos m) (pos 0)) j → running p j ≡ t ∷ [] → list_any (λ x. x == t) (inside o j) ≡ false → o < object_count j → Mirrors opts sites (j ++ asking kind.Call p t k o (pos m) (pos 0) ∷ []) (with_door doors o (behind t m (door_at doors o))) waits events (freed standing p) (set marks t (m == 0)) ins owners own
  m_call p t k o m l runs out known =
      let e = asking kind.Call p t k o (pos m) (pos 0) in
      let self = self_test t in
      let lt : o < length doors.doors = rw h.doors_are.made known in
      let keeps : Keeps j e = record { clusters = λ on u. refl; no_cluster = refl; no_processor = refl; no_place = refl; was = λ u g. ap (λ v. is_at (spot v j)) (eqb-true u t g) ∙ ap is_at (first_at j h.sound (Running p) t [] runs) } in
      with_parts opts sites j doors waits events standing marks ins owners own h e l refl (with_door doors o (behind t m (door_at doors o))) waits events (freed standing p) (set marks t (m == 0)) ins (doors_set sites j doors h.doors_are e refl refl (behind t m (door_at doors o)) (call sites o j (door_at doors o) p t k m (h.doors_are.each o lt))) (waits_silent j waits e h.waits_are refl refl refl) (events_silent j events e h.events_are refl refl)
      (clusters_by j e keeps opts standing (freed standing p) h.clusters_are (λ c. h.clusters_are.ready_are c ∙ sym (ready_stays j e refl (λ u. refl) c)) (run_set j standing e None h.clusters_are.runs (run_processor opts sites j doors waits events standing marks ins owners own h p t runs) (off_now j e t runs self refl)) ((open_stays opts standing j e refl h.clusters_are.desks).1 p None) refl refl)
      (marks_by j marks ins h.marks_are e refl (set marks t (m == 0)) ins (length-set marks t (m == 0)) refl (marked_set j marks ins h.marks_are e refl t (m == 0) (λ u n. flip t u false n) (λ v u n. last_stays v j e u (flip t u false n)) (λ v q. caller v (o == v) refl q)) (entered_same j marks ins h.marks_are e refl (λ u g. stayed u g)))
      (owners_silent j owners own h.owners_are e refl refl (λ u. refl))
    where
      caller : (v : ℕ) (b : Bool) → (o == v) ≡ b → queued_at v (spot t (j ++ asking kind.Call p t k o (pos m) (pos 0) ∷ [])) ≡ true → (m == 0) ≡ calls_destructor v t (j ++ asking kind.Call p t k o (pos m) (pos 0) ∷ [])
      caller v true s q =
          let e = asking kind.Call p t k o (pos m) (pos 0) in
          let self = self_test t in
          let now : last_called (last_call v j) kind.Call e t ≡ Some m = simp self in
          sym (ap (is_member 0) (last_same v j e t s ∙ now))
      caller v false s q =
          let e = asking kind.Call p t k o (pos m) (pos 0) in
          absurd (no_both (o == v) (sym (ap (queued_at v) (spot_moves j e t (self_test t))) ∙ q) s)

      stayed : (u : ℕ) → inside o (j ++ asking kind.Call p t k o (pos m) (pos 0) ∷ []) ≡ u ∷ [] → (inside o j ≡ u ∷ []) × (last_call o (j ++ asking kind.Call p t k o (pos m) (pos 0) ∷ []) u ≡ last_call o j u)
      stayed u g =
          let e = asking kind.Call p t k o (pos m) (pos 0) in
          let was : inside o j ≡ u ∷ [] = sym (inside_now j e ∙ all_kept_nil (inside o j)) ∙ g in
          (was, last_stays o j e u (apart (u == t) refl was))
        where
          apart : (b : Bool) → (u == t) ≡ b → inside o j ≡ u ∷ [] → (u == t) ≡ false
          apart false s i = s
          apart true s i = absurd (no_both ((u == t) || false) (ap (λ b. b || false) s) (ap (list_any (λ x. x == t)) (sym i) ∙ out))

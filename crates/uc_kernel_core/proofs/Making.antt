-- All parts with one entry more that makes an object or a task.
use Rattle.std.proofs.Common.{◌≡◌, ℕ, pos, ◌==◌, ◌+◌, ◌-◌, ◌<◌, ◌≤◌, Bool, true, false, cond, List, [], ◌∷◌, ◌++◌, Option, Some, None, inl, inr, refl, sym, ap, ◌∙◌, subst, arith, length, length-append, length-set, set, get_or, get_or-set_same, get_or-set_other}
use Rattle.std.specs.Prelude.{replicate}
use Rattle.std.specs.Option.{is_some, option_to_list}
use Rattle.std.proofs.lemmas.Bool.{eqb-true, eq-eqb, cases_lt}
use Rattle.std.proofs.lemmas.List.{get_or_append_left, get_or_push}
use Rattle.uc_tree.specs.declared.limits.TheConstants.{TASKS}
use Rattle.uc_tree.specs.Programs.{Site}
use Rattle.uc_entry.specs.declared.entry.Entry.{Entry}
use Rattle.uc_entry.specs.declared.entry.Options.{Options}
use Rattle.uc_entry.specs.declared.entry.EntryKind.TheVariants as kind
use Rattle.uc_acts.specs.Journal.{Journal, inside, owns, own_object, first_or_0, where_true, asking, Cost}
use Rattle.uc_acts.specs.Queues.{running, cluster_of}
use Rattle.uc_acts.specs.Doors.{last_call, is_member, calls_destructor}
use Rattle.uc_acts.specs.Known.{object_count, task_count, owner, owned}
use Rattle.uc_acts.specs.Open.{still_open}
use Rattle.uc_acts.specs.Pending.{pending}
use Rattle.uc_acts.specs.Sound.{spot, here}
use Rattle.uc_acts.specs.Stations.{Ready}
use Rattle.uc_acts.specs.Legal.{Legal}
use Rattle.uc_acts.proofs.Noted.{last_clusters_push}
use Rattle.uc_acts.proofs.OpenLemmas.{still_open_begins}
use Rattle.uc_acts.proofs.Seats.{inside_other, at_other}
use Rattle.uc_acts.proofs.SoundLemmas.{sound_step, objects_push, tasks_push, self_test}
use Rattle.uc_acts.proofs.Stood.{stood_step}
use Rattle.uc_acts.proofs.Moves.{spot_stays, spot_moves, more_tasks}
use Rattle.uc_mutex.specs.Doors.{Doors, door_at, no_door, with_door, with_new, with_room, inside_is}
use Rattle.uc_kernel_core.specs.DoorLaws.{IsDoor}
use Rattle.uc_kernel_core.proofs.DoorLemmas.{elsewhere, make_one, spawn_one}
use Rattle.uc_condition.specs.Waiting.{Waiting, SameQueues}
use Rattle.uc_condition.proofs.Mirrors.{others as other_waits}
use Rattle.uc_events.specs.Pending.{Event, pending_at}
use Rattle.uc_cluster.specs.Standing.{Standing, IsPlaced, IsUnready, queue_at, place_of, with_place, made_ready, or_0, is_on}
use Rattle.uc_cluster.proofs.Desks.{open_stays}
use Rattle.uc_cluster.proofs.Places.{spawned}
use Rattle.uc_kernel_core.specs.Mirrors.{Mirrors, DoorsAre, EventsAre, ClustersAre, MarksAre, OwnersAre, queued_at, is_at, own_objects}
use Rattle.uc_kernel_core.proofs.Doors.{no_both, same_objects, same_tasks, same_room, doors_put, events_silent, owner_other, own_other}
use Rattle.uc_kernel_core.proofs.Clusters.{Keeps, same_clusters, clusters_by, ready_stays, ready_back, run_stays, unready_by}
use Rattle.uc_kernel_core.proofs.Marks.{last_all, marks_by, marked_same, entered_set}
use Rattle.uc_kernel_core.proofs.Fresh.{fresh_step, new_door, new_call, new_owner, pending_other}
use Rattle.uc_kernel_core.proofs.Owners.{owner_made, owner_more}
use Rattle.uc_kernel_core.proofs.Steps.{run_place}

apart : (n o : ℕ) → o < n → (n == o) ≡ false
apart n o lt = by (n == o) refl
  where
    by : (b : Bool) → (n == o) ≡ b → b ≡ false
    by true g = let s = eqb-true n o g in absurd (omega arith)
    by false g = refl

-- no cluster is its place
no_place : (x : Option ℕ) → ((k : ℕ) → is_on k x ≡ false) → x ≡ None
no_place None h = refl
no_place (Some m) h = absurd (no_both (m == m) (self_test m) (h m))

owner_there : (o : ℕ) (j : Journal) (e : Entry) → (e.object == o) ≡ false → owner o (j ++ e ∷ []) ≡ owner o j
unfolding owner
owner_there o j e g = ap (still_open (λ e. owned e.kind e) (λ e t. false)) (at_other o j e g)

-- the first object of which a task is told is its own
own_first : (t o : ℕ) (j : Journal) (e : Entry) → own_objects t j ≡ [] → owns t e.kind e ≡ Some o → own_object t (j ++ e ∷ []) ≡ o
unfolding own_object
own_first t o j e n s =
    ap first_or_0 (still_open_begins (λ e. owns t e.kind e) (λ e o. false) j e o s (λ a. refl) ∙ ap (λ l. l ++ o ∷ []) n)

module _ (opts : Options) (sites : List Site) (j : Journal) (doors : Doors) (waits : Waiting) (events : List (List Event)) (standing : Standing) (marks ins : List Bool) (owners : List (Option ℕ)) (own : List ℕ) (h : Mirrors opts sites j doors waits events standing marks ins owners own) where
  -- memory was taken for more waits
  pub m_reserved : (w : Waiting) → task_count j ≤ w.tasks → object_count j ≤ w.objects → SameQueues waits w → Mirrors opts sites j doors w events standing marks ins owners own
  m_reserved w tasks known same = record {
    doors_are = h.doors_are;
    waits_are = record { blocked = λ o c. same o c ∙ h.waits_are.blocked o c; pool = tasks; known = known };
    events_are = h.events_are;
    clusters_are = h.clusters_are;
    marks_are = h.marks_are;
    owners_are = h.owners_are;
    few = h.few;
    sound = h.sound;
    stood = h.stood;
    known_sites = h.known_sites;
    owned = h.owned;
    fresh = h.fresh;
  }

  -- memory was taken for more tasks
  pub m_roomed : (w : Waiting) → task_count j ≤ w.tasks → object_count j ≤ w.objects → SameQueues waits w → (v : Doors) → v ≡ with_room doors v.tasks → task_count j ≤ v.tasks → Mirrors opts sites j v w events standing marks ins owners own
  m_roomed w tasks known same v is room = subst (λ (x : Doors). Mirrors opts sites j x w events standing marks ins owners own) (sym is) (record {
    doors_are = record { made = h.doors_are.made; pool = room; each = h.doors_are.each };
    waits_are = record { blocked = λ o c. same o c ∙ h.waits_are.blocked o c; pool = tasks; known = known };
    events_are = h.events_are;
    clusters_are = h.clusters_are;
    marks_are = h.marks_are;
    owners_are = h.owners_are;
    few = h.few;
    sound = h.sound;
    stood = h.stood;
    known_sites = h.known_sites;
    owned = h.owned;
    fresh = h.fresh;
  })

  -- ---- an object
  module _ (p t : ℕ) (k : Cost) (n class : ℕ) (is : n ≡ object_count j) (l : Legal (asking kind.Make p t k n (pos class) (pos 0)) j) where
    abbrev make : Entry
    make = asking kind.Make p t k n (pos class) (pos 0)

    more : object_count (j ++ make ∷ []) ≡ object_count j + 1
    more = objects_push j make

    made_doors : DoorsAre sites (j ++ make ∷ []) (with_new doors t)
    made_doors = record {
      made = length-append doors.doors (record { inside = Some t; waiting = []; stacked = []; opened = None } ∷ []) ∙ ap (λ m. m + 1) h.doors_are.made ∙ sym more;
      pool = same_room j make doors.tasks refl h.doors_are.pool;
      each = each_door;
    }
      where
        at_new : IsDoor sites n (j ++ make ∷ []) (inside_is (Some t) no_door)
        at_new = make_one sites j make refl (new_door sites n j (h.fresh.at n (omega arith)))

        each_door : (o : ℕ) → o < length (doors.doors ++ record { inside = Some t; waiting = []; stacked = []; opened = None } ∷ []) → IsDoor sites o (j ++ make ∷ []) (door_at (with_new doors t) o)
        each_door o lt = elim (cases_lt o (length doors.doors)) [
          | inl less ↦
              let made = h.doors_are.made in
              subst (IsDoor sites o (j ++ make ∷ [])) (sym (get_or_append_left doors.doors (record { inside = Some t; waiting = []; stacked = []; opened = None } ∷ []) no_door o less)) (elsewhere sites o j make (door_at doors o) (apart n o (omega arith)) (h.doors_are.each o less))
          | inr ge ↦
              let made = h.doors_are.made in
              let size = length-append doors.doors (record { inside = Some t; waiting = []; stacked = []; opened = None } ∷ []) in
              let last : length doors.doors ≡ o = omega arith in
              let same : n ≡ o = is ∙ sym made ∙ last in
              subst (IsDoor sites o (j ++ make ∷ [])) (sym (get_or_push doors.doors (record { inside = Some t; waiting = []; stacked = []; opened = None }) no_door o last)) (subst (λ (v : ℕ). IsDoor sites v (j ++ make ∷ []) (inside_is (Some t) no_door)) same at_new)
        ]

    made_marks : MarksAre (j ++ make ∷ []) marks (ins ++ false ∷ [])
    made_marks = record {
      marked = λ u o d lt g. h.marks_are.marked u o d lt (ap (queued_at o) (sym (spot_stays j make u refl)) ∙ g) ∙ ap (is_member 0) (sym (last_all o j make (λ on v. refl) u));
      entered = entered_now;
      tasks = h.marks_are.tasks;
      objects = length-append ins (false ∷ []) ∙ ap (λ m. m + 1) h.marks_are.objects ∙ sym more;
    }
      where
        entered_now : (o u : ℕ) (d : Bool) → o < length (ins ++ false ∷ []) → inside o (j ++ make ∷ []) ≡ u ∷ [] → get_or (ins ++ false ∷ []) o d ≡ calls_destructor o u (j ++ make ∷ [])
        entered_now o u d lt g = elim (cases_lt o (length ins)) [
          | inl less ↦
              let size = h.marks_are.objects in
              get_or_append_left ins (false ∷ []) d o less ∙ h.marks_are.entered o u d less (sym (inside_other o j make (apart n o (omega arith))) ∙ g) ∙ ap (is_member 0) (sym (last_all o j make (λ on v. refl) u))
          | inr ge ↦
              let size = h.marks_are.objects in
              let more = length-append ins (false ∷ []) in
              let last : length ins ≡ o = omega arith in
              get_or_push ins false d o last ∙ sym (ap (is_member 0) (last_all o j make (λ on v. refl) u ∙ new_call sites o j (h.fresh.at o (omega arith)) u))
        ]

    made_owners : OwnersAre (j ++ make ∷ []) (owners ++ None ∷ []) own
    made_owners = record {
      owner_is = owner_now;
      own_is = λ u d lt. h.owners_are.own_is u d lt ∙ sym (own_other u j make refl);
      objects = length-append owners (None ∷ []) ∙ ap (λ m. m + 1) h.owners_are.objects ∙ sym more;
      tasks = h.owners_are.tasks;
    }
      where
        owner_now : (o : ℕ) (d : Option ℕ) → o < length (owners ++ None ∷ []) → option_to_list (get_or (owners ++ None ∷ []) o d) ≡ owner o (j ++ make ∷ [])
        owner_now o d lt = elim (cases_lt o (length owners)) [
          | inl less ↦ ap option_to_list (get_or_append_left owners (None ∷ []) d o less) ∙ h.owners_are.owner_is o d less ∙ sym (owner_other o j make refl)
          | inr ge ↦
              let size = h.owners_are.objects in
              let more = length-append owners (None ∷ []) in
              let last : length owners ≡ o = omega arith in
              ap option_to_list (get_or_push owners None d o last) ∙ sym (owner_other o j make refl ∙ new_owner sites o j (h.fresh.at o (omega arith)))
        ]

    made_clusters : ClustersAre opts (j ++ make ∷ []) standing
    made_clusters =
        let keeps : Keeps j make = record { clusters = λ on u. refl; no_cluster = refl; no_processor = refl; no_place = refl; was = λ u m. absurd (clash m) } in
        let a = h.clusters_are in
        clusters_by j make keeps opts standing standing a (λ c. a.ready_are c ∙ sym (ready_stays j make refl (λ u. refl) c)) (λ q. a.runs q ∙ sym (run_stays j make refl (λ u. refl) q)) (open_stays opts standing j make refl a.desks).0 refl refl
      where
        clash : false ≡ true → ⊥
        clash e = cc

    pub m_make : object_count j + 1 ≤ waits.objects → Mirrors opts sites (j ++ make ∷ []) (with_new doors t) waits events standing marks (ins ++ false ∷ []) (owners ++ None ∷ []) own
    m_make room = record {
      doors_are = made_doors;
      waits_are = record { blocked = other_waits waits j make refl h.waits_are.blocked; pool = same_room j make waits.tasks refl h.waits_are.pool; known = rw more room };
      events_are = events_silent j events make h.events_are refl refl;
      clusters_are = made_clusters;
      marks_are = made_marks;
      owners_are = made_owners;
      few = rw (same_tasks j make refl) h.few;
      sound = sound_step make j h.sound l;
      stood = stood_step sites make j h.sound l h.stood;
      known_sites = h.known_sites;
      owned = owner_made j make refl h.owned;
      fresh = fresh_step make j l h.fresh;
    }

  -- ---- a task
  module _ (p t : ℕ) (k : Cost) (o u : ℕ) (is : u ≡ task_count j) (few : u < TASKS) (runs : running p j ≡ t ∷ []) (one : inside o j ≡ t ∷ []) (known : o < object_count j) (alone : owner o j ≡ []) (l : Legal (asking kind.Spawn p t k o (pos u) (pos 0)) j) where
    abbrev spawn : Entry
    spawn = asking kind.Spawn p t k o (pos u) (pos 0)

    abbrev with_child : Standing
    with_child = with_place standing u (place_of standing t)

    tasks_more : task_count (j ++ spawn ∷ []) ≡ task_count j + 1
    tasks_more = tasks_push j spawn

    unborn : task_count j ≤ u
    unborn = omega arith

    place : place_of standing t ≡ Some (cluster_of t j)
    place = run_place opts sites j doors waits events standing marks ins owners own h p t runs

    pool : u < length standing.places
    pool = rw h.clusters_are.pool few

    pub creator_placed : IsPlaced t standing
    creator_placed = (ap is_some place, rw (ap or_0 place) (h.clusters_are.known t))

    child_place : place_of with_child u ≡ Some (cluster_of t j)
    child_place = get_or-set_same standing.places u (place_of standing t) None pool ∙ place

    pub child_placed : IsPlaced u (with_place standing u (place_of standing t))
    child_placed = (ap is_some child_place, rw (ap or_0 child_place) (h.clusters_are.known t))

    pub child_unready : IsUnready u (with_place standing u (place_of standing t))
    child_unready c lt = unready_by j opts standing h.clusters_are h.sound u (λ c. ap (here (Ready c)) (h.sound.few u unborn)) c lt

    pub child_pool : u < length (with_place standing u (place_of standing t)).places
    child_pool = rw (length-set standing.places u (place_of standing t)) pool

    door_known : o < length doors.doors
    door_known = rw h.doors_are.made known

    door_now : IsDoor sites o (j ++ spawn ∷ []) (inside_is (Some u) (door_at doors o))
    door_now = spawn_one sites j (door_at doors o) spawn refl one (h.doors_are.each o door_known)

    spawned_events : EventsAre (j ++ spawn ∷ []) (events ++ [] ∷ [])
    spawned_events = record {
      pending = pending_is;
      known = length-append events ([] ∷ []) ∙ ap (λ m. m + 1) h.events_are.known ∙ sym tasks_more;
      fresh = λ x le. let size = length-append events ([] ∷ []) in pending_other x j spawn (λ ps. refl) ∙ h.events_are.fresh x (omega arith);
    }
      where
        pending_is : (x : ℕ) → x < length (events ++ [] ∷ []) → pending_at (events ++ [] ∷ []) x ≡ pending x (j ++ spawn ∷ [])
        pending_is x lt = elim (cases_lt x (length events)) [
          | inl less ↦ get_or_append_left events ([] ∷ []) [] x less ∙ h.events_are.pending x less ∙ sym (pending_other x j spawn (λ ps. refl))
          | inr ge ↦
              let size = length-append events ([] ∷ []) in
              let last : length events ≡ x = omega arith in
              get_or_push events [] [] x last ∙ sym (pending_other x j spawn (λ ps. refl) ∙ h.events_are.fresh x ge)
        ]

    now : (x : ℕ) → cluster_of x (j ++ spawn ∷ []) ≡ cond (x == u) (cluster_of t j) (cluster_of x j)
    now x = ap (λ f. f x) (last_clusters_push (λ y. 0) j spawn)

    mine : cluster_of u (j ++ spawn ∷ []) ≡ cluster_of t j
    mine = now u ∙ ap (λ b. cond b (cluster_of t j) (cluster_of u j)) (self_test u)

    no_child : place_of standing u ≡ None
    no_child = no_place (place_of standing u) (λ c. sym (h.clusters_are.stands.on c u) ∙ h.fresh.unplaced c u unborn)

    spawned_clusters : ClustersAre opts (j ++ spawn ∷ []) (made_ready u with_child)
    spawned_clusters =
        let a = h.clusters_are in
        let on = spawned standing j p t k o u (cluster_of t j) pool no_child place a.stands in
        let size = length-set standing.queues (or_0 (place_of with_child u)) (queue_at standing.queues (or_0 (place_of with_child u)) ++ u ∷ []) in
        record {
          ready_are = ready_back j with_child spawn u a.ready_are refl (λ x. refl) (child_place ∙ ap Some (sym mine)) (rw mine (a.known t));
          runs = λ q. a.runs q ∙ sym (run_stays j spawn refl (λ x. refl) q);
          counted = size ∙ a.counted ∙ sym (same_clusters j spawn refl);
          desks = (open_stays opts standing j spawn refl a.desks).0;
          stands = record { on = on.on; cluster = on.cluster };
          pool = length-set standing.places u (place_of standing t) ∙ a.pool;
          placed = λ x g. place_by x (x == u) refl g;
          known = λ x. rw size (known_by x (x == u) refl);
        }
      where
        known_by : (x : ℕ) (b : Bool) → (x == u) ≡ b → cluster_of x (j ++ spawn ∷ []) < length standing.queues
        known_by x true s = rw (now x ∙ ap (λ b. cond b (cluster_of t j) (cluster_of x j)) s) (h.clusters_are.known t)
        known_by x false s = rw (now x ∙ ap (λ b. cond b (cluster_of t j) (cluster_of x j)) s) (h.clusters_are.known x)

        place_by : (x : ℕ) (b : Bool) → (x == u) ≡ b → is_at (spot x (j ++ spawn ∷ [])) ≡ true → place_of with_child x ≡ Some (cluster_of x (j ++ spawn ∷ []))
        place_by x true s g =
            ap (λ y. place_of with_child y) (eqb-true x u s) ∙ child_place ∙ ap Some (sym (now x ∙ ap (λ b. cond b (cluster_of t j) (cluster_of x j)) s))
        place_by x false s g =
            get_or-set_other standing.places u x (place_of standing t) None (λ y. no_both (x == u) (eq-eqb x u y) s) ∙ h.clusters_are.placed x (ap is_at (sym (spot_stays j spawn x s)) ∙ g) ∙ ap Some (sym (now x ∙ ap (λ b. cond b (cluster_of t j) (cluster_of x j)) s))

    spawned_marks : MarksAre (j ++ spawn ∷ []) marks (set ins o false)
    spawned_marks =
        marks_by j marks ins h.marks_are spawn refl marks (set ins o false) refl (length-set ins o false) (marked_same j marks ins h.marks_are spawn refl (λ on x. refl) (λ x v g. queued x v (x == u) refl g)) (entered_set j marks ins h.marks_are spawn refl false entered)
      where
        clash : false ≡ true → ⊥
        clash e = cc

        queued : (x v : ℕ) (b : Bool) → (x == u) ≡ b → queued_at v (spot x (j ++ spawn ∷ [])) ≡ true → queued_at v (spot x j) ≡ true
        queued x v false s g = ap (queued_at v) (sym (spot_stays j spawn x s)) ∙ g
        queued x v true s g = absurd (clash (sym (ap (queued_at v) (spot_moves j spawn x s)) ∙ g))

        first : (a b : ℕ) → a ∷ [] ≡ b ∷ [] → a ≡ b
        first a b e = cc

        entered : (x : ℕ) → inside o (j ++ spawn ∷ []) ≡ x ∷ [] → false ≡ calls_destructor o x (j ++ spawn ∷ [])
        entered x g =
            let same : u ≡ x = first u x (door_now.within ∙ g) in
            sym (ap (is_member 0) (last_all o j spawn (λ on y. refl) x ∙ ap (last_call o j) (sym same) ∙ h.fresh.uncalled o u unborn))

    child_owner : owner o (j ++ spawn ∷ []) ≡ u ∷ []
    child_owner = owner_more o j spawn u (self_test o) refl ∙ ap (λ xs. xs ++ u ∷ []) alone

    spawned_owners : OwnersAre (j ++ spawn ∷ []) (set owners o (Some u)) (set own u o)
    spawned_owners = record {
      owner_is = λ x d lt. owner_is x d (subst (λ m. x < m) (length-set owners o (Some u)) lt) (o == x) refl;
      own_is = λ x d lt. own_is x d (subst (λ m. x < m) (length-set own u o) lt) (x == u) refl;
      objects = length-set owners o (Some u) ∙ h.owners_are.objects ∙ sym (same_objects j spawn refl);
      tasks = length-set own u o ∙ h.owners_are.tasks;
    }
      where
        owner_is : (x : ℕ) (d : Option ℕ) → x < length owners → (b : Bool) → (o == x) ≡ b → option_to_list (get_or (set owners o (Some u)) x d) ≡ owner x (j ++ spawn ∷ [])
        owner_is x d lt true s =
            let same = eqb-true o x s in
            let size = h.owners_are.objects in
            ap (λ v. option_to_list (get_or (set owners o (Some u)) v d)) (sym same) ∙ ap option_to_list (get_or-set_same owners o (Some u) d (omega arith)) ∙ sym child_owner ∙ ap (λ v. owner v (j ++ spawn ∷ [])) same
        owner_is x d lt false s =
            ap option_to_list (get_or-set_other owners o x (Some u) d (λ y. no_both (o == x) (eq-eqb o x (sym y)) s)) ∙ h.owners_are.owner_is x d lt ∙ sym (owner_there x j spawn s)

        own_is : (x d : ℕ) → x < length own → (b : Bool) → (x == u) ≡ b → get_or (set own u o) x d ≡ own_object x (j ++ spawn ∷ [])
        own_is x d lt true s =
            let same = eqb-true x u s in
            let size = h.owners_are.tasks in
            ap (λ v. get_or (set own u o) v d) same ∙ get_or-set_same own u o d (omega arith) ∙ sym (own_first u o j spawn (h.fresh.unowned u unborn) (ap (λ b. where_true b o) (self_test u))) ∙ ap (λ v. own_object v (j ++ spawn ∷ [])) (sym same)
        own_is x d lt false s =
            get_or-set_other own u x o d (λ y. no_both (x == u) (eq-eqb x u y) s) ∙ h.owners_are.own_is x d lt ∙ sym (own_other x j spawn (ap (λ b. where_true b o) s))

    spawned_owned : (x y : ℕ) → owner x (j ++ spawn ∷ []) ≡ y ∷ [] → y < task_count (j ++ spawn ∷ [])
    spawned_owned x y g = by (o == x) refl
      where
        first : (a b : ℕ) → a ∷ [] ≡ b ∷ [] → a ≡ b
        first a b e = cc

        by : (b : Bool) → (o == x) ≡ b → y < task_count (j ++ spawn ∷ [])
        by true s =
            let same : u ≡ y = first u y (sym child_owner ∙ ap (λ v. owner v (j ++ spawn ∷ [])) (eqb-true o x s) ∙ g) in
            let more = tasks_more in
            omega arith
        by false s = more_tasks j spawn y (h.owned x y (sym (owner_there x j spawn s) ∙ g))

    pub m_spawn : u + 1 ≤ doors.tasks → u + 1 ≤ waits.tasks → Mirrors opts sites (j ++ spawn ∷ []) (with_door doors o (inside_is (Some u) (door_at doors o))) waits (events ++ [] ∷ []) (made_ready u (with_place standing u (place_of standing t))) marks (set ins o false) (set owners o (Some u)) (set own u o)
    m_spawn doors_room waits_room = record {
      doors_are = doors_put sites j doors h.doors_are spawn refl (let more = tasks_more in omega arith) (inside_is (Some u) (door_at doors o)) door_now;
      waits_are = record { blocked = other_waits waits j spawn refl h.waits_are.blocked; pool = let more = tasks_more in omega arith; known = rw (same_objects j spawn refl) h.waits_are.known };
      events_are = spawned_events;
      clusters_are = spawned_clusters;
      marks_are = spawned_marks;
      owners_are = spawned_owners;
      few = let more = tasks_more in omega arith;
      sound = sound_step spawn j h.sound l;
      stood = stood_step sites spawn j h.sound l h.stood;
      known_sites = h.known_sites;
      owned = spawned_owned;
      fresh = fresh_step spawn j l h.fresh;
    }

-- room for one task more
pub one_longer : (events : List (List Event)) (u : ℕ) → u ≡ length events → (l : List (List Event)) → l ≡ events ++ replicate (u + 1 - length events) [] → l ≡ events ++ [] ∷ []
one_longer events u is l h =
    let d : u + 1 - length events ≡ 1 = omega arith in
    h ∙ ap (λ n. events ++ replicate n []) d

-- Whoever is next at an object is let in.
use Rattle.std.proofs.Common.{◌≡◌, ℕ, ◌==◌, ◌<◌, Bool, true, false, not, map, suc, List, [], ◌∷◌, ◌++◌, Option, Some, None, refl, sym, ap, ◌∙◌, subst, arith, length, set, get_or, get_or-set_same, ⊎_elim, inl, inr}
use Rattle.std.specs.Prelude.{◌⊎◌}
use Rattle.std.specs.Option.{option_to_list}
use Rattle.uc_tree.specs.Programs.{Site}
use Rattle.uc_tree.specs.declared.limits.TheConstants.{TASKS}
use Rattle.uc_entry.specs.declared.entry.Entry.{Entry}
use Rattle.uc_entry.specs.declared.entry.Options.{Options}
use Rattle.uc_acts.specs.Journal.{Journal, inside}
use Rattle.uc_acts.specs.Queues.{next}
use Rattle.uc_acts.specs.Doors.{calls_destructor, has_others, blocked_at}
use Rattle.std.specs.List.{list_any}
use Rattle.uc_acts.specs.Queues.{running, waiting, stacked, is_nobody}
use Rattle.uc_acts.specs.Stations.{Running, Waits, Stacked, times}
use Rattle.uc_acts.specs.Sound.{here}
use Rattle.uc_acts.proofs.Moves.{first_at}
use Rattle.uc_acts.proofs.Stood.{flip}
use Rattle.uc_acts.proofs.Room.{not_blocked}
use Rattle.uc_acts.proofs.Busy.{is_busy}
use Rattle.uc_acts.specs.Known.{object_count, task_count}
use Rattle.uc_acts.specs.Legal.{Legal}
use Rattle.std.proofs.lemmas.List.{set-get_or}
use Rattle.uc_acts.specs.Acts.{admit_failed, admission, settled}
use Rattle.uc_mutex.specs.declared.called.Passed.{Passed}
use Rattle.uc_mutex.specs.Doors.{Door, Doors, no_door, door_at, with_door, next_of, after_next, has_tasks}
use Rattle.uc_kernel_core.specs.DoorLaws.{IsDoor}
use Rattle.uc_kernel_core.proofs.DoorLemmas.{admit_one}
use Rattle.uc_condition.specs.Waiting.{Waiting, IsBusy, queue_at}
use Rattle.uc_events.specs.Pending.{Event}
use Rattle.uc_cluster.specs.Standing.{Standing, IsPlaced, IsUnready, made_ready}
use Rattle.uc_kernel_core.specs.Mirrors.{Mirrors, DoorsAre, WaitsAre, IsAside, IsNextOf}
use Rattle.uc_kernel_core.proofs.Nexts.{next_facts, none_facts, next_task, next_legal, next_unblocked, next_other, next_row, idle_is, busy_is, destroys_not, destroys_it, settled_kept, settled_cut}
use Rattle.uc_kernel_core.proofs.Admits.{m_admit, admit_placed, admit_unready, waits_stay}

-- nobody inside, in the words of a door
pub none_inside : (i : Option ℕ) → option_to_list i ≡ [] → i ≡ None
none_inside None h = refl
none_inside (Some t) h = cc

-- a door that was set
pub door_set : (v : Doors) (o : ℕ) (d : Door) → o < length v.doors → door_at (with_door v o d) o ≡ d
door_set v o d lt = get_or-set_same v.doors o d _ lt

doors_as : (sites : List Site) (j : Journal) (v : Doors) (l : List Door) → l ≡ v.doors → DoorsAre sites j v → DoorsAre sites j (record { tasks = v.tasks; doors = l; pulled = None })
doors_as sites j v l e h = record {
  made = ap length e ∙ h.made;
  pool = h.pool;
  each = λ o lt. subst (IsDoor sites o j) (sym (ap (λ (xs : List Door). get_or xs o no_door) e)) (h.each o (subst (λ (xs : List Door). o < length xs) e lt));
}

-- a door that was set to what it was
pub still_there : (opts : Options) (sites : List Site) (j : Journal) (doors : Doors) (waits : Waiting) (events : List (List Event)) (standing : Standing) (marks ins : List Bool) (owners : List (Option ℕ)) (own : List ℕ) → Mirrors opts sites j doors waits events standing marks ins owners own → (o : ℕ) (d : Door) → d ≡ door_at doors o → Mirrors opts sites j (with_door doors o d) waits events standing marks ins owners own
still_there opts sites j doors waits events standing marks ins owners own h o d e = record {
  doors_are = doors_as sites j doors (set doors.doors o d) (ap (set doors.doors o) e ∙ set-get_or doors.doors o no_door) h.doors_are;
  waits_are = h.waits_are;
  events_are = h.events_are;
  clusters_are = h.clusters_are;
  marks_are = h.marks_are;
  owners_are = h.owners_are;
  few = h.few;
  sound = h.sound;
  stood = h.stood;
  known_sites = h.known_sites;
  owned = h.owned;
  fresh = h.fresh;
}

module _ (opts : Options) (sites : List Site) (j : Journal) (doors : Doors) (waits : Waiting) (events : List (List Event)) (standing : Standing) (marks ins : List Bool) (owners : List (Option ℕ)) (own : List ℕ) (h : Mirrors opts sites j doors waits events standing marks ins owners own) (o : ℕ) (known : o < object_count j) where
  pub known_door : o < length doors.doors
  known_door = rw h.doors_are.made known

  pub the_door : IsDoor sites o j (door_at doors o)
  the_door = h.doors_are.each o known_door

  pub known_mark : o < length ins
  known_mark = rw h.marks_are.objects known

  pub task_mark : (t : ℕ) → t < task_count j → t < length marks
  task_mark t lt =
      let few = h.few in
      let n = h.marks_are.tasks in
      omega arith

  pub task_known : (t : ℕ) → t < task_count j → t < TASKS
  task_known t lt =
      let few = h.few in
      omega arith

  pub task_seated : (t : ℕ) → t < task_count j → t < doors.tasks
  task_seated t lt =
      let room = h.doors_are.pool in
      omega arith

  pub task_placed : (t : ℕ) → t < task_count j → t < length standing.places
  task_placed t lt = rw h.clusters_are.pool (task_known t lt)

  module _ (empty : inside o j ≡ []) where
    pub nobody : None ≡ next_of (door_at doors o) → (next o j ≡ None) × (after_next (door_at doors o) ≡ door_at doors o)
    nobody e =
        let n = none_facts sites o j (door_at doors o) the_door h.sound h.stood e in
        (n.0, n.1 (none_inside (door_at doors o).inside (the_door.within ∙ empty)))

    module _ (n : Passed) (e : Some n ≡ next_of (door_at doors o)) where
      pub is_next : IsNextOf sites o j n
      is_next = (next_facts sites o j (door_at doors o) the_door h.sound h.stood n e).0

      pub task_of : n.task < task_count j
      task_of = next_task sites o j h.sound n is_next

      pub mark_of : (b x : Bool) → b ≡ get_or marks n.task x → b ≡ calls_destructor o n.task j
      mark_of b x was = was ∙ h.marks_are.marked n.task o x (task_mark n.task task_of) is_next.waits

      door_now : (p : ℕ) → IsDoor sites o (j ++ admit_failed p n.task o n.way n.clause n.failed ∷ []) (after_next (door_at doors o))
      door_now p = subst (IsDoor sites o (j ++ admit_failed p n.task o n.way n.clause n.failed ∷ [])) (sym (next_facts sites o j (door_at doors o) the_door h.sound h.stood n e).1) (admit_one sites o j (door_at doors o) p n.task n.way n.clause n.failed is_next.way empty the_door)

      legal_now : (p : ℕ) → Legal (admit_failed p n.task o n.way n.clause n.failed) j
      legal_now p = next_legal sites o j h.sound n is_next p empty known

      waits_now : (p : ℕ) → WaitsAre (j ++ admit_failed p n.task o n.way n.clause n.failed ∷ []) waits
      waits_now p = waits_stay opts sites j doors waits events standing marks ins owners own h (admit_failed p n.task o n.way n.clause n.failed) refl refl (next_unblocked sites o j h.sound n is_next)

      pub let_next : (t p : ℕ) (b : Bool) → IsAside t o j → b ≡ calls_destructor o n.task j → Mirrors opts sites (j ++ admit_failed p n.task o n.way n.clause n.failed ∷ []) (with_door doors o (after_next (door_at doors o))) waits events (made_ready n.task standing) marks (set ins o b) owners own
      let_next t p b aside mark =
          m_admit opts sites j doors waits events standing marks ins owners own h p n.task o n.way n.clause n.failed (legal_now p) is_next.waits empty b mark (after_next (door_at doors o)) (door_now p) waits (waits_now p) (next_other sites o j h.sound n is_next t aside)

      pub next_placed : IsPlaced n.task standing
      next_placed = admit_placed opts sites j doors waits events standing marks ins owners own h 0 n.task o n.way n.clause n.failed (legal_now 0) is_next.waits empty (calls_destructor o n.task j) refl (after_next (door_at doors o)) (door_now 0) waits (waits_now 0)

      pub next_unready : IsUnready n.task standing
      next_unready = admit_unready opts sites j doors waits events standing marks ins owners own h 0 n.task o n.way n.clause n.failed (legal_now 0) is_next.waits empty (calls_destructor o n.task j) refl (after_next (door_at doors o)) (door_now 0) waits (waits_now 0)

      module _ (t p : ℕ) (b : Bool) (aside : IsAside t o j) (mark : b ≡ calls_destructor o n.task j) (f : Entry) where
        after : Mirrors opts sites (j ++ admit_failed p n.task o n.way n.clause n.failed ∷ []) (with_door doors o (after_next (door_at doors o))) waits events (made_ready n.task standing) marks (set ins o b) owners own
        after = let_next t p b aside mark

        pub row_kept : (v : Doors) → v ≡ with_door doors o (after_next (door_at doors o)) → (b ≡ false) ⊎ ((has_tasks (door_at v o) ≡ false) × ((c : ℕ) → queue_at waits o c ≡ [])) → settled f j (admission sites p o j (next o j)) ≡ admit_failed p n.task o n.way n.clause n.failed ∷ []
        row_kept v was x =
            let there : door_at v o ≡ after_next (door_at doors o) = ap (λ (w : Doors). door_at w o) was ∙ door_set doors o (after_next (door_at doors o)) known_door in
            ap (settled f j) (next_row sites o j h.sound n is_next p) ∙ settled_kept f j (admit_failed p n.task o n.way n.clause n.failed) (destroys_not j p n.task o n.way n.clause n.failed b mark (⊎_elim (λ y. inl y) (λ y. inr (idle_is sites o (j ++ admit_failed p n.task o n.way n.clause n.failed ∷ []) (after_next (door_at doors o)) (door_now p) after.sound after.stood waits after.waits_are.blocked (ap has_tasks (sym there) ∙ y.0) y.1)) x))

        pub row_cut : (v : Doors) → v ≡ with_door doors o (after_next (door_at doors o)) → (b ≡ true) × ((has_tasks (door_at v o) ≡ true) ⊎ IsBusy o waits) → settled f j (admission sites p o j (next o j)) ≡ record f { ticks = 0; line = 0 } ∷ []
        row_cut v was x =
            let there : door_at v o ≡ after_next (door_at doors o) = ap (λ (w : Doors). door_at w o) was ∙ door_set doors o (after_next (door_at doors o)) known_door in
            ap (settled f j) (next_row sites o j h.sound n is_next p) ∙ settled_cut f j (admit_failed p n.task o n.way n.clause n.failed) [] (destroys_it j p n.task o n.way n.clause n.failed b mark x.0 (busy_is sites o (j ++ admit_failed p n.task o n.way n.clause n.failed ∷ []) (after_next (door_at doors o)) (door_now p) after.sound after.stood waits after.waits_are.blocked (⊎_elim (λ y. inl (ap has_tasks (sym there) ∙ y)) (λ y. inr y) x.1)))

-- ---- whether others are in the queues of an object
any_key : {A : Type 0} (key : A → ℕ) (t : ℕ) (xs : List A) → times t (map key xs) ≡ 0 → list_any (λ x. not (key x == t)) xs ≡ not (is_nobody xs)
any_key key t [] h = refl
any_key key t (x ∷ xs) h = by (t == key x) refl h
  where
    by : (b : Bool) → (t == key x) ≡ b → times t (map key (x ∷ xs)) ≡ 0 → list_any (λ x. not (key x == t)) (x ∷ xs) ≡ true
    by true e k = absurd (clash (simp e at k))
      where
        clash : suc (times t (map key xs)) ≡ 0 → ⊥
        clash e = cc
    by false e k = let f = flip t (key x) false e in simp f

same_list : (xs : List ℕ) → map (λ x. x) xs ≡ xs
same_list [] = refl
same_list (x ∷ xs) = ap (λ l. x ∷ l) (same_list xs)

module _ (opts : Options) (sites : List Site) (j : Journal) (doors : Doors) (waits : Waiting) (events : List (List Event)) (standing : Standing) (marks ins : List Bool) (owners : List (Option ℕ)) (own : List ℕ) (h : Mirrors opts sites j doors waits events standing marks ins owners own) (o : ℕ) (known : o < object_count j) (p t : ℕ) (runs : running p j ≡ t ∷ []) where
  others_are : has_others o t j ≡ is_busy o j
  others_are =
      let s = h.sound in
      let at = first_at j s (Running p) t [] runs in
      let a = any_key (λ w. w.0) t (waiting o j) (s.seats t (Waits o) ∙ ap (here (Waits o)) at) in
      let b = any_key (λ s. s) t (stacked o j) (ap (times t) (same_list (stacked o j)) ∙ s.seats t (Stacked o) ∙ ap (here (Stacked o)) at) in
      let c = any_key (λ w. w.0) t (blocked_at o j) (not_blocked j s o p t at) in
      rw (a, b, c) refl

  pub others_told : (b : Bool) → (b ≡ true → (true ≡ true) × ((has_tasks (door_at doors o) ≡ true) ⊎ IsBusy o waits)) → (b ≡ false → (true ≡ false) ⊎ ((has_tasks (door_at doors o) ≡ false) × ((c : ℕ) → queue_at waits o c ≡ []))) → b ≡ has_others o t j
  others_told true f g =
      sym (others_are ∙ busy_is sites o j (door_at doors o) (h.doors_are.each o (rw h.doors_are.made known)) h.sound h.stood waits h.waits_are.blocked (f refl).1)
  others_told false f g =
      sym (others_are ∙ ⊎_elim (λ x. absurd (clash x)) (λ x. idle_is sites o j (door_at doors o) (h.doors_are.each o (rw h.doors_are.made known)) h.sound h.stood waits h.waits_are.blocked x.0 x.1) (g refl))
    where
      clash : true ≡ false → ⊥
      clash e = cc

-- The doors, the waits and the pending events with one entry more.
use Rattle.std.proofs.Common.{◌≡◌, ◌≢◌, ℕ, ℤ, ◌==◌, ◌+◌, ◌<◌, ◌≤◌, Bool, true, false, List, [], ◌∷◌, ◌++◌, Option, None, map, refl, sym, ap, ◌∙◌, subst, arith, length, get_or-set_same, get_or-set_other, length-set}
use Rattle.std.specs.List.{AllByRecursion}
use Rattle.std.proofs.lemmas.Bool.{eqb-true, eq-eqb}
use Rattle.uc_tree.specs.Programs.{Site}
use Rattle.uc_entry.specs.declared.entry.Entry.{Entry}
use Rattle.uc_entry.specs.declared.entry.EntryKind.{EntryKind}
use Rattle.uc_entry.specs.declared.entry.EntryKind.TheVariants as kind
use Rattle.uc_acts.specs.Journal.{Journal, entries_at, owns, own_object, first_or_0}
use Rattle.uc_acts.specs.Queues.{waiting}
use Rattle.uc_acts.specs.Doors.{OnStack, stack_at, stack_after, offered, last_call, blocked}
use Rattle.uc_acts.specs.Known.{object_count, task_count, is_make, is_spawn, owner, owned}
use Rattle.uc_acts.specs.Stations.{Waits, Stacked, Blocked, times}
use Rattle.uc_acts.specs.Sound.{spot, here, Sound, Stood}
use Rattle.uc_acts.proofs.SoundLemmas.{objects_push, tasks_push}
use Rattle.uc_acts.proofs.Hush.{is_silent, door_silent}
use Rattle.uc_acts.proofs.Stood.{stands_other, stands_same}
use Rattle.uc_acts.proofs.Seats.{at_push, at_other}
use Rattle.uc_acts.proofs.OpenLemmas.{still_open_silent}
use Rattle.uc_acts.specs.Open.{still_open}
use Rattle.uc_acts.proofs.Room.{in_none}
use Rattle.uc_mutex.specs.declared.called.Mark.{Mark}
use Rattle.uc_mutex.specs.Doors.{Door, Doors, IsFree, door_at, with_door}
use Rattle.uc_mutex.specs.Offers.{clauses_of}
use Rattle.uc_kernel_core.specs.DoorLaws.{IsDoor, pair}
use Rattle.uc_kernel_core.proofs.DoorLemmas.{elsewhere}
use Rattle.uc_condition.specs.Waiting.{Waiting}
use Rattle.uc_condition.specs.Waiting.{IsFree as IsIdle}
use Rattle.uc_condition.specs.Laws.{is_silent as tells_no_wait}
use Rattle.uc_condition.proofs.Mirrors.{others as other_waits}
use Rattle.uc_events.specs.Pending.{Event}
use Rattle.uc_events.specs.Laws.{tells}
use Rattle.uc_events.proofs.Mirrors.{others as other_events}
use Rattle.uc_acts.specs.Pending.{pending_by}
use Rattle.uc_kernel_core.specs.Mirrors.{DoorsAre, WaitsAre, EventsAre, OwnersAre}
use Rattle.uc_kernel_core.proofs.Fresh.{pending_other}

pub no_both : (b : Bool) → b ≡ true → b ≡ false → ⊥
no_both b t f = cc

pub same_objects : (j : Journal) (e : Entry) → is_make e.kind ≡ false → object_count (j ++ e ∷ []) ≡ object_count j
same_objects j e h =
    let c : object_count (j ++ e ∷ []) ≡ object_count j + 0 = objects_push j e ∙ rw h refl in
    omega (arith, c)

pub same_tasks : (j : Journal) (e : Entry) → is_spawn e.kind ≡ false → task_count (j ++ e ∷ []) ≡ task_count j
same_tasks j e h =
    let c : task_count (j ++ e ∷ []) ≡ task_count j + 0 = tasks_push j e ∙ rw h refl in
    omega (arith, c)

-- room for the tasks that there are
pub same_room : (j : Journal) (e : Entry) (n : ℕ) → is_spawn e.kind ≡ false → task_count j ≤ n → task_count (j ++ e ∷ []) ≤ n
same_room j e n s h = subst (λ m. m ≤ n) (sym (same_tasks j e s)) h

-- ---- doors
silent_spawn : (k : EntryKind) → is_silent k ≡ true → is_spawn k ≡ false
silent_spawn kind.Spawn h = cc
silent_spawn k h = refl

silent_stack : (sites : List Site) (k : EntryKind) (e : Entry) (m : Option ℕ) (ss : List OnStack) → is_silent k ≡ true → stack_after sites k e m ss ≡ ss
silent_stack sites kind.Accept e m ss h = cc
silent_stack sites kind.SignalBlock e m ss h = cc
silent_stack sites kind.Push e m ss h = cc
silent_stack sites kind.Admit e m ss h = cc
silent_stack sites kind.Leave e m ss h = cc
silent_stack sites k e m ss h = refl

pub silent_door : (sites : List Site) (o : ℕ) (j : Journal) (e : Entry) (d : Door) → is_silent e.kind ≡ true → IsDoor sites o j d → IsDoor sites o (j ++ e ∷ []) d
silent_door sites o j e d h g =
    let s = door_silent o j e h in
    record {
      within = g.within ∙ sym s.inside;
      waiting = g.waiting ∙ sym s.waiting;
      stacked = g.stacked ∙ ap (map pair) (sym (by (e.object == o) refl));
      opened = g.opened ∙ ap (map (λ a. clauses_of (offered sites a))) (sym s.opened);
    }
  where
    by : (b : Bool) → (e.object == o) ≡ b → stack_at sites o (j ++ e ∷ []) ≡ stack_at sites o j
    by false t = stands_other sites o j e t
    by true t = stands_same sites o j e t ∙ silent_stack sites e.kind e (last_call o j e.task) (stack_at sites o j) h

module _ (sites : List Site) (j : Journal) (v : Doors) (h : DoorsAre sites j v) (e : Entry) (n : is_make e.kind ≡ false) where
  pub doors_silent : is_silent e.kind ≡ true → DoorsAre sites (j ++ e ∷ []) v
  doors_silent s = record {
    made = h.made ∙ sym (same_objects j e n);
    pool = same_room j e v.tasks (silent_spawn e.kind s) h.pool;
    each = λ o lt. silent_door sites o j e (door_at v o) s (h.each o lt);
  }

  pub doors_same : is_spawn e.kind ≡ false → IsDoor sites e.object (j ++ e ∷ []) (door_at v e.object) → DoorsAre sites (j ++ e ∷ []) v
  doors_same s at = record {
    made = h.made ∙ sym (same_objects j e n);
    pool = same_room j e v.tasks s h.pool;
    each = λ o lt. by o lt (e.object == o) refl;
  }
    where
      by : (o : ℕ) → o < length v.doors → (b : Bool) → (e.object == o) ≡ b → IsDoor sites o (j ++ e ∷ []) (door_at v o)
      by o lt false t = elsewhere sites o j e (door_at v o) t (h.each o lt)
      by o lt true t = subst (λ u. IsDoor sites u (j ++ e ∷ []) (door_at v u)) (eqb-true e.object o t) at

  pub doors_put : task_count (j ++ e ∷ []) ≤ v.tasks → (d : Door) → IsDoor sites e.object (j ++ e ∷ []) d → DoorsAre sites (j ++ e ∷ []) (with_door v e.object d)
  doors_put room d at = record {
    made = length-set v.doors e.object d ∙ h.made ∙ sym (same_objects j e n);
    pool = room;
    each = λ o lt. by o (subst (λ m. o < m) (length-set v.doors e.object d) lt) (e.object == o) refl;
  }
    where
      by : (o : ℕ) → o < length v.doors → (b : Bool) → (e.object == o) ≡ b → IsDoor sites o (j ++ e ∷ []) (door_at (with_door v e.object d) o)
      by o lt false t =
          rw (get_or-set_other v.doors e.object o d _ (λ s. no_both (e.object == o) (eq-eqb e.object o (sym s)) t)) (elsewhere sites o j e (door_at v o) t (h.each o lt))
      by o lt true t =
          let same = eqb-true e.object o t in
          let lt' : e.object < length v.doors = subst (λ u. u < length v.doors) (sym same) lt in
          subst (λ u. IsDoor sites u (j ++ e ∷ []) (door_at (with_door v e.object d) u)) same (rw (get_or-set_same v.doors e.object d _ lt') at)

  pub doors_set : is_spawn e.kind ≡ false → (d : Door) → IsDoor sites e.object (j ++ e ∷ []) d → DoorsAre sites (j ++ e ∷ []) (with_door v e.object d)
  doors_set s d at = doors_put (same_room j e v.tasks s h.pool) d at

-- a task that waits at no object and is on no stack
pub stacks_apart : (t : ℕ) (ss : List OnStack) (xs : List (ℕ × Mark)) → xs ≡ map pair ss → times t (map (λ s. s.task) ss) ≡ 0 → AllByRecursion (λ s. s.0 ≢ t) xs
stacks_apart t ss xs is h = subst (AllByRecursion (λ s. s.0 ≢ t)) (sym is) (in_none (λ s. s.0) t (map pair ss) (ap (times t) (firsts ss) ∙ h))
  where
    firsts : (ss : List OnStack) → map (λ s. s.0) (map pair ss) ≡ map (λ s. s.task) ss
    firsts [] = refl
    firsts (s ∷ ss) = ap (λ l. s.task ∷ l) (firsts ss)

pub free_by : (sites : List Site) (j : Journal) (v : Doors) → DoorsAre sites j v → Sound j → Stood sites j → (t : ℕ) → ((o : ℕ) → here (Waits o) (spot t j) ≡ 0) → ((o : ℕ) → here (Stacked o) (spot t j) ≡ 0) → IsFree t v
free_by sites j v h s st t w q o lt =
    let d = h.each o lt in (
      subst (AllByRecursion (λ w. w.0 ≢ t)) (sym d.waiting) (in_none (λ w. w.0) t (waiting o j) (s.seats t (Waits o) ∙ w o)),
      stacks_apart t (stack_at sites o j) (door_at v o).stacked d.stacked (ap (times t) (st.tasks o) ∙ s.seats t (Stacked o) ∙ q o),
    )

-- ---- waits
pub waits_silent : (j : Journal) (v : Waiting) (e : Entry) → WaitsAre j v → is_make e.kind ≡ false → is_spawn e.kind ≡ false → tells_no_wait e.kind ≡ true → WaitsAre (j ++ e ∷ []) v
waits_silent j v e h n t s = record {
  blocked = other_waits v j e s h.blocked;
  pool = same_room j e v.tasks t h.pool;
  known = rw (same_objects j e n) h.known;
}

pub idle_by : (j : Journal) (v : Waiting) → WaitsAre j v → Sound j → (t : ℕ) → ((o c : ℕ) → here (Blocked o c) (spot t j) ≡ 0) → IsIdle t v
idle_by j v h s t b o c =
    subst (AllByRecursion (λ w. w.0 ≢ t)) (sym (h.blocked o c)) (in_none (λ w. w.0) t (blocked o c j) (s.seats t (Blocked o c) ∙ b o c))

-- ---- pending events
pub no_event : (k : EntryKind) (e : Entry) (t : ℕ) (ps : List (ℕ × ℤ × ℤ)) → tells k ≡ false → pending_by t ps k e ≡ ps
no_event kind.Raise e t ps h = cc
no_event kind.Poll e t ps h = cc
no_event k e t ps h = refl

pub events_silent : (j : Journal) (all : List (List Event)) (e : Entry) → EventsAre j all → is_spawn e.kind ≡ false → tells e.kind ≡ false → EventsAre (j ++ e ∷ []) all
events_silent j all e h n s = record {
  pending = other_events all j e s h.pending;
  known = h.known ∙ sym (same_tasks j e n);
  fresh = λ t le. pending_other t j e (λ ps. no_event e.kind e t ps s) ∙ h.fresh t le;
}

-- ---- own objects
pub owner_other : (o : ℕ) (j : Journal) (e : Entry) → owned e.kind e ≡ None → owner o (j ++ e ∷ []) ≡ owner o j
unfolding owner
owner_other o j e n = by (e.object == o) refl
  where
    by : (b : Bool) → (e.object == o) ≡ b → still_open (λ e. owned e.kind e) (λ e t. false) (entries_at o (j ++ e ∷ [])) ≡ still_open (λ e. owned e.kind e) (λ e t. false) (entries_at o j)
    by false g = ap (still_open (λ e. owned e.kind e) (λ e t. false)) (at_other o j e g)
    by true g = ap (still_open (λ e. owned e.kind e) (λ e t. false)) (at_push o j e true g) ∙ still_open_silent (λ e. owned e.kind e) (λ e t. false) (entries_at o j) e n (λ a. refl)

pub own_other : (t : ℕ) (j : Journal) (e : Entry) → owns t e.kind e ≡ None → own_object t (j ++ e ∷ []) ≡ own_object t j
unfolding own_object
own_other t j e n = ap first_or_0 (still_open_silent (λ e. owns t e.kind e) (λ e o. false) j e n (λ a. refl))

pub owners_silent : (j : Journal) (owners : List (Option ℕ)) (own : List ℕ) → OwnersAre j owners own → (e : Entry) → is_make e.kind ≡ false → owned e.kind e ≡ None → ((t : ℕ) → owns t e.kind e ≡ None) → OwnersAre (j ++ e ∷ []) owners own
owners_silent j owners own h e n a b = record {
  owner_is = λ o d lt. h.owner_is o d lt ∙ sym (owner_other o j e a);
  own_is = λ t d lt. h.own_is t d lt ∙ sym (own_other t j e (b t));
  objects = h.objects ∙ sym (same_objects j e n);
  tasks = h.tasks;
}

-- The act of a task that makes a task for an object, in what lies where.
use Rattle.std.proofs.Common.{◌≡◌, ◌≢◌, ℕ, zero, suc, ◌==◌, ◌+◌, ◌<◌, ◌≤◌, ◌&&◌, ◌||◌, Bool, true, false, cond, not, List, [], ◌∷◌, ◌++◌, Option, Some, None, refl, sym, ap, ◌∙◌, subst, get_or, length, arith, length-append, length-set, get_or-set_same, get_or-set_other, append-nil, append_assoc, inr}
use Rattle.std.specs.Prelude.{pos, nat_lt, nat_le, slice_index_or, slice_set, slice_get, if◌then◌else◌, IsSome}
use Rattle.std.specs.List.{filter}
use Rattle.std.proofs.lemmas.Bool.{eqb-true, eq-eqb, ne_eqb}
use Rattle.std.proofs.lemmas.List.{get_or_append_left}
use Rattle.std.proofs.Math.Seq.{get_or-append_seam}
use Rattle.uc_tree.specs.Programs.{Site}
use Rattle.uc_tree.specs.declared.limits.TheConstants.{TASKS}
use Rattle.uc_entry.specs.declared.entry.Entry.{Entry}
use Rattle.uc_entry.specs.declared.entry.EntryKind.{EntryKind}
use Rattle.uc_entry.specs.declared.entry.EntryKind.TheVariants as kind
use Rattle.uc_entry.specs.declared.entry.Options.{Options}
use Rattle.uc_entry.specs.declared.request.Asked.{Asked}
use Rattle.uc_entry.specs.declared.request.Request.{Request}
use Rattle.uc_entry.specs.declared.request.Request.TheVariants as ask
use Rattle.uc_entry.specs.Listed.{Listed}
use Rattle.uc_entry.specs.Keyed.{find}
use Rattle.uc_acts.specs.Journal.{Journal, begin, number, held, inside, entry, is_over, asking, Cost, cost, no_cost}
use Rattle.uc_acts.specs.Known.{has, is_spawn, takes_object, takes_out, spawns_task, spawns, task_count}
use Rattle.uc_acts.specs.Queues.{running}
use Rattle.uc_acts.specs.Stations.{Running}
use Rattle.uc_acts.specs.Sound.{At, Sound, spot, mover}
use Rattle.uc_acts.specs.KernelRuns.{KernelRuns, Fits, begun, gives, no_room, acts, more}
use Rattle.uc_acts.specs.Acts.{act, entries_of, ending, row, or_fault, settled, fault, dispatch, lone_limit}
use Rattle.uc_acts.proofs.Held.{law_held}
use Rattle.uc_acts.proofs.Counted.{has_filter}
use Rattle.uc_acts.proofs.Living.{gone_still, going_row}
use Rattle.uc_acts.proofs.SoundLemmas.{tasks_push, objects_push, self_test, some_task}
use Rattle.uc_acts.proofs.Moves.{spot_stays, spot_moves, first_at, known_at, one_inside}
use Rattle.uc_acts.proofs.Others.{flip, Foreign, held_foreign, running_apart}
use Rattle.uc_acts.proofs.Rows.{Lawful}
use Rattle.uc_acts.proofs.Acting.{is_own, AllBy, by_act, object_of, destroys}
use Rattle.uc_acts.proofs.Given.{held_given}
use Rattle.uc_acts.proofs.Law.{good_whole, lawful_act}
use Rattle.uc_kernel_core.specs.Mirrors.{Seen}
use Rattle.uc_kernel.specs.declared.rests.TaskAtRest.{TaskAtRest}
use Rattle.uc_kernel.specs.Numbered.{keys, or_else, without}
use Rattle.uc_kernel.specs.KernelState.{Brought, Kept, kept, stored, put_back, task_in, member_in, member_among}
use Rattle.uc_kernel.specs.Calls.{Ends}
use Rattle.uc_kernel.specs.AtRest.{Lies, AreApart, FromAct, HasChild, IsSpawn, earlier, is_ready}
use Rattle.uc_kernel.proofs.Hands.{no_both, some-same, find_none, find_some}
use Rattle.uc_kernel.proofs.Places.{get_past, among_only, among_same}
use Rattle.uc_kernel.proofs.Lying.{not_true, apart_of, one_holder, loose_none, others_none, nowhere_else}
use Rattle.uc_kernel.proofs.Moving.{held_push, held_trail, filter_absent, running_silent}
use Rattle.uc_kernel.proofs.Stages.{Mid, all_members, differ, find_out, find_kept, keys_after, has_kept, has_append_other, has_last, in_one}
use Rattle.uc_kernel.proofs.Following.{Done, or_both, or_front, get_behind}
use Rattle.uc_kernel.proofs.Shapes.{is_spawning, Shaped, SecondFits, shaped_spawn}
use Rattle.uc_kernel.proofs.Making.{over_fault, nothing_gone, second_takes, second_spawn}
use Rattle.uc_kernel.proofs.Endings.{ended}

-- ---- one more at the end

or_nothing : {A : Type 0} (x : Option A) → or_else x None ≡ x
or_nothing None = refl
or_nothing (Some x) = refl

or_both_else : {A : Type 0} (x y z : Option A) → or_else x (or_else y z) ≡ or_else (or_else x y) z
or_both_else None y z = refl
or_both_else (Some x) y z = refl

pub among_more : {T M : Type 0} (o : ℕ) (x : Option (TaskAtRest T M)) (rs : List (Option (TaskAtRest T M))) → member_among o (rs ++ x ∷ []) ≡ or_else (member_among o rs) (member_in o x)
among_more o x [] = or_nothing (member_in o x)
among_more o x (r ∷ rs) =
    ap (or_else (member_in o r)) (among_more o x rs) ∙ or_both_else (member_in o r) (member_among o rs) (member_in o x)

slot_before : {A : Type 0} (xs : List (Option A)) (x : Option A) (i : ℕ) → i < length xs → get_or (xs ++ x ∷ []) i None ≡ get_or xs i None
slot_before xs x i lt = get_or_append_left xs (x ∷ []) None i lt

slot_at : {A : Type 0} (xs : List (Option A)) (x : Option A) → get_or (xs ++ x ∷ []) (length xs) None ≡ x
slot_at xs x = get_or-append_seam xs x [] None

-- the new task's entry
module _ {T M : Type 0} (t p : ℕ) (k : Cost) (o : ℕ) (j : Journal) (sound : Sound j) (runs : running p j ≡ t ∷ []) (inside_it : inside o j ≡ t ∷ []) (items : List (ℕ × M)) (hand_is : keys items ≡ held t j) (child : T) (tasks : List (Option (TaskAtRest T M))) (loose : List (Option M)) (lies : Lies j tasks loose) (r : TaskAtRest T M) (r_task : r.task ≡ child) (m : M) (found : find o items ≡ Some m) (r_items : r.members.items ≡ (o, m) ∷ []) where
  abbrev e : Entry
  e = asking kind.Spawn p t k o (pos (task_count j)) (pos 0)

  abbrev i : Journal
  i = j ++ asking kind.Spawn p t k o (pos (task_count j)) (pos 0) ∷ []

  abbrev new : ℕ
  new = task_count j

  at_run : spot t j ≡ At (Running p)
  at_run = first_at j sound (Running p) t [] runs

  known : t < task_count j
  known = known_at j sound t (Running p) at_run

  not_new : (t == task_count j) ≡ false
  not_new = not_true (t == task_count j) (λ g. let s = eqb-true t (task_count j) g in let l = known in absurd (omega (arith, s, l)))

  mine : slice_index_or tasks t None ≡ None
  mine = lies.out p t runs

  holds_it : has (held t j) o ≡ true
  holds_it = (law_held j).inside t o ∙ ap (λ xs. has xs t) inside_it ∙ in_one t

  others_free : (u : ℕ) → (u == t) ≡ false → has (held u j) o ≡ false
  others_free u n = one_holder j sound t u o holds_it (differ u t n)

  held_own : held t i ≡ filter (λ x. not ((o == x) && true)) (held t j)
  held_own =
      let self = self_test t in
      let n = flip t (task_count j) not_new in
      held_push t j e ∙ rw (self, n) (append-nil _)

  held_new : held (task_count j) i ≡ held (task_count j) j ++ o ∷ []
  held_new =
      let self = self_test (task_count j) in
      let n : (task_count j == t) ≡ false = flip t (task_count j) not_new in
      held_push (task_count j) j e ∙ rw (self, n) (ap (λ xs. xs ++ o ∷ []) (filter_absent o (held (task_count j) j) true (others_free (task_count j) n)))

  held_other : (u : ℕ) → (u == t) ≡ false → (u == task_count j) ≡ false → held u i ≡ held u j
  held_other u n q =
      let f = flip u (task_count j) q in
      held_push u j e ∙ rw (n, q, f) (append-nil _ ∙ filter_absent o (held u j) false (others_free u n))

  running_same : (q : ℕ) → running q i ≡ running q j
  running_same q = running_silent q j e (λ u. refl) (λ u. refl)

  slot_other : {A : Type 0} (xs : List (Option A)) (x : Option A) (u : ℕ) → u ≢ length xs → get_or (xs ++ x ∷ []) u None ≡ get_or xs u None
  slot_other [] x zero n = absurd (n refl)
  slot_other [] x (suc u) n = refl
  slot_other (y ∷ xs) x zero n = refl
  slot_other (y ∷ xs) x (suc u) n = slot_other xs x u (λ q. n (ap suc q))

  abbrev tasks2 : List (Option (TaskAtRest T M))
  tasks2 = tasks ++ Some r ∷ []

  at_new : slice_index_or tasks2 (task_count j) None ≡ Some r
  at_new = ap (λ n. slice_index_or tasks2 n None) (sym lies.tasks_are) ∙ slot_at tasks (Some r)

  at_other : (u : ℕ) → (u == task_count j) ≡ false → slice_index_or tasks2 u None ≡ slice_index_or tasks u None
  at_other u n = slot_other tasks (Some r) u (λ q. no_both (u == task_count j) (eq-eqb u (task_count j) (q ∙ lies.tasks_are)) n)

  none_some : {A : Type 0} {x : A} → None ≡ Some x → ⊥
  none_some f = cc

  past_new : slice_index_or tasks (task_count j) None ≡ None
  past_new = get_past tasks (task_count j) None (let a = lies.tasks_are in omega (arith, a))

  -- what nobody held before, but for the object of the new task
  free_then : (k : ℕ) → (k == o) ≡ false → ((u : ℕ) → has (held u j) k ≡ false) → (u : ℕ) → has (held u i) k ≡ false
  free_then k n h u = by (u == t) (u == task_count j) refl refl
    where
      by : (a b : Bool) → (u == t) ≡ a → (u == task_count j) ≡ b → has (held u i) k ≡ false
      by true b g f = ap (λ v. has (held v i) k) (eqb-true u t g) ∙ ap (λ xs. has xs k) held_own ∙ has_kept _ k (held t j) (h t)
      by false true g f = ap (λ v. has (held v i) k) (eqb-true u (task_count j) f) ∙ ap (λ xs. has xs k) held_new ∙ has_append_other (held (task_count j) j) o k (h (task_count j)) (flip k o n)
      by false false g f = ap (λ xs. has xs k) (held_other u g f) ∙ h u

  free_before : (k : ℕ) → (k == o) ≡ false → ((u : ℕ) → has (held u i) k ≡ false) → (u : ℕ) → has (held u j) k ≡ false
  free_before k n h u = by (u == t) (u == task_count j) refl refl
    where
      strip : (x : Bool) → (x && true) ≡ false → x ≡ false
      strip true h = h
      strip false h = refl

      front : (xs : List ℕ) → has (xs ++ o ∷ []) k ≡ false → has xs k ≡ false
      front [] f = refl
      front (x ∷ xs) f = or_left_false (x == k) (has (xs ++ o ∷ []) k) (has xs k) f (front xs)
        where
          or_left_false : (a b c : Bool) → (a || b) ≡ false → (b ≡ false → c ≡ false) → (a || c) ≡ false
          or_left_false true b c f g = cc
          or_left_false false b c f g = g f

      by : (a b : Bool) → (u == t) ≡ a → (u == task_count j) ≡ b → has (held u j) k ≡ false
      by true b g f =
          let same = eqb-true u t g in
          let q = flip k o n in
          let after : (has (held t j) k && not ((o == k) && true)) ≡ false = sym (ap (λ xs. has xs k) held_own ∙ has_filter (λ x. (o == x) && true) (held t j) k) ∙ h t in
          ap (λ v. has (held v j) k) same ∙ strip (has (held t j) k) (ap (λ c. has (held t j) k && not (c && true)) (sym q) ∙ after)
      by false true g f =
          let same = eqb-true u (task_count j) f in
          ap (λ v. has (held v j) k) same ∙ front (held (task_count j) j) (sym (ap (λ xs. has xs k) held_new) ∙ h (task_count j))
      by false false g f = ap (λ xs. has xs k) (sym (held_other u g f)) ∙ h u

  module _ (born_empty : held (task_count j) j ≡ []) (hand2 : Listed (ℕ × M)) (hand2_is : hand2.items ≡ without o items) (spare : 1 ≤ hand2.spare) where
    mid : Mid t i hand2.items tasks2 loose
    mid = record {
      hand_is = ap keys hand2_is ∙ keys_after o true items ∙ ap (filter (λ x. not ((o == x) && true))) hand_is ∙ sym held_own;
      hands = λ u q h. hands u q (u == task_count j) refl h;
      loose_are = λ k y h u. free_then k (not_o k y h) (lies.loose_are k y h) u;
      present = λ k lt gone free h. lies.present k (let a = objects_push j e in omega (arith, a, lt)) (sym (gone_still k j e refl) ∙ gone) (free_before k (o_held k free) free) h;
      mine = at_other t not_new ∙ mine;
      tasks_are = (let a = tasks_push j e in let b = length-append tasks (Some r ∷ []) in let c = lies.tasks_are in omega (arith, a, b, c));
      objects_are = lies.objects_are ∙ (let a = objects_push j e in omega (arith, a));
    }
      where
        not_o : (k : ℕ) (y : M) → slice_index_or loose k None ≡ Some y → (k == o) ≡ false
        not_o k y h = not_true (k == o) (λ g. no_both (has (held t j) o) holds_it (ap (has (held t j)) (sym (eqb-true k o g)) ∙ lies.loose_are k y h t))

        o_held : (k : ℕ) → ((u : ℕ) → has (held u i) k ≡ false) → (k == o) ≡ false
        o_held k free = not_true (k == o) (λ g. no_both (has (held (task_count j) i) k) (ap (λ xs. has xs k) held_new ∙ ap (has (held (task_count j) j ++ o ∷ [])) (eqb-true k o g) ∙ has_last (held (task_count j) j) o) (free (task_count j)))

        hands : (u : ℕ) (q : TaskAtRest T M) (b : Bool) → (u == task_count j) ≡ b → slice_index_or tasks2 u None ≡ Some q → keys q.members.items ≡ held u i
        hands u q true g h =
            let same = eqb-true u (task_count j) g in
            let is : r ≡ q = some-same (sym at_new ∙ ap (λ v. slice_index_or tasks2 v None) (sym same) ∙ h) in
            ap (λ x. keys x.members.items) (sym is) ∙ ap keys r_items ∙ ap (λ xs. xs ++ o ∷ []) (sym born_empty) ∙ sym held_new ∙ ap (λ v. held v i) (sym same)
        hands u q false g h =
            let h' = sym (at_other u g) ∙ h in
            let n = not_true (u == t) (λ f. none_some (sym mine ∙ ap (λ v. slice_index_or tasks v None) (sym (eqb-true u t f)) ∙ h')) in
            lies.hands u q h' ∙ sym (held_other u n g)

    child_member : (k : ℕ) → (k == o) ≡ false → find k r.members.items ≡ None
    child_member k n = let q = flip k o n in ap (find k) r_items ∙ rw q refl

    child_own : find o r.members.items ≡ Some m
    child_own = let q = self_test o in ap (find o) r_items ∙ rw q refl

    view : (k : ℕ) (b : Bool) → (k == o) ≡ b → all_members hand2.items tasks2 loose k ≡ all_members items tasks loose k
    view k true g =
        let same = eqb-true k o g in
        ap (all_members hand2.items tasks2 loose) same ∙ ap (λ x. or_else x (or_else (slice_index_or loose o None) (member_among o tasks2))) (ap (find o) hand2_is ∙ find_out o items) ∙ ap (λ x. or_else x (member_among o tasks2)) (loose_none j tasks loose lies.loose_are t o holds_it) ∙ among_more o (Some r) tasks ∙ ap (λ x. or_else x (find o r.members.items)) (nowhere_else j tasks loose sound lies.hands t o holds_it mine) ∙ child_own ∙ ap (λ x. or_else x (or_else (slice_index_or loose o None) (member_among o tasks))) (sym found) ∙ ap (all_members items tasks loose) (sym same)
    view k false g =
        ap (λ x. or_else x (or_else (slice_index_or loose k None) (member_among k tasks2))) (ap (find k) hand2_is ∙ find_kept o k items g) ∙ ap (λ x. or_else (find k items) (or_else (slice_index_or loose k None) x)) (among_more k (Some r) tasks ∙ ap (or_else (member_among k tasks)) (child_member k g) ∙ or_nothing (member_among k tasks))

    pub done_spawn : Done t p j i (asking kind.Spawn p t k o (pos (task_count j)) (pos 0) ∷ []) items (Some child) tasks loose hand2 (tasks ++ Some r ∷ []) loose
    done_spawn = record {
      mid = mid;
      view = λ k. view k (k == o) refl;
      most = inr (running_same p ∙ runs);
      values = λ u n. values u (u == task_count j) refl;
      room = λ u q h f. room u q (u == task_count j) refl h f;
      own_room = λ f. spare;
      was_none = λ u h. was u (u == task_count j) refl h;
      still_none = λ u lt h. slot_before tasks (Some r) u lt ∙ h;
      less = λ u lt h. less u (u == task_count j) refl lt h;
      longer = let b = length-append tasks (Some r ∷ []) in omega (arith, b);
    }
      where
        values : (u : ℕ) (b : Bool) → (u == task_count j) ≡ b → task_in (slice_index_or tasks2 u None) ≡ (if (u == task_count j) || false then Some child else task_in (slice_index_or tasks u None))
        values u true g = rw g (ap (λ v. task_in (slice_index_or tasks2 v None)) (eqb-true u (task_count j) g) ∙ ap task_in at_new ∙ ap (λ x. Some x) r_task)
        values u false g = rw g (ap task_in (at_other u g))

        room : (u : ℕ) (q : TaskAtRest T M) (b : Bool) → (u == task_count j) ≡ b → slice_index_or tasks2 u None ≡ Some q → is_ready (spot u i) ≡ false → 1 ≤ q.members.spare
        room u q true g h f = absurd (no_both (is_ready (spot u i)) (ap is_ready (spot_moves j e u g)) f)
        room u q false g h f = lies.room u q (sym (at_other u g) ∙ h) (ap is_ready (sym (spot_stays j e u g)) ∙ f)

        was : (u : ℕ) (b : Bool) → (u == task_count j) ≡ b → slice_index_or tasks2 u None ≡ None → slice_index_or tasks u None ≡ None
        was u true g h = absurd (none_some (sym h ∙ ap (λ v. slice_index_or tasks2 v None) (eqb-true u (task_count j) g) ∙ at_new))
        was u false g h = sym (at_other u g) ∙ h

        less : (u : ℕ) (b : Bool) → (u == task_count j) ≡ b → u < length tasks2 → slice_index_or tasks2 u None ≡ None → u < length tasks
        less u true g lt h = absurd (none_some (sym h ∙ ap (λ v. slice_index_or tasks2 v None) (eqb-true u (task_count j) g) ∙ at_new))
        less u false g lt h =
            let d = differ u (task_count j) g in
            let b = length-append tasks (Some r ∷ []) in
            let c = lies.tasks_are in
            below (length tasks) (length tasks2) (task_count j) d lt b c
          where
            below : (a n c : ℕ) → u ≢ c → u < n → n ≡ a + 1 → a ≡ c → u < a
            below a n c d lt b e = omega (arith, d, lt, b, e)

  -- ---- where the act ends the run
  module _ (s : Seen) (a : List Entry) (after : s.journal ≡ j ++ a) (over : is_over s.journal ≡ true) (takes : (k : ℕ) → takes_out a k ≡ false) (born : (u : ℕ) → spawns a u ≡ (u == task_count j)) (value : T) (hand2 : Listed (ℕ × M)) (hand2_is : hand2.items ≡ without o items) (wanted : Bool) where
    abbrev rest : TaskAtRest T M
    rest = record { task = value; members = hand2 }

    abbrev tasks3 : List (Option (TaskAtRest T M))
    tasks3 = slice_set (tasks ++ Some r ∷ []) t (Some (record { task = value; members = hand2 }))

    abbrev back : Kept T M
    back = put_back a t value items (Some child) (kept (stored (earlier j s) wanted tasks loose))

    long2 : t < length tasks2
    long2 = let a = known in let b = lies.tasks_are in let c = length-append tasks (Some r ∷ []) in omega (arith, a, b, c)

    at_t : slice_index_or tasks3 t None ≡ Some rest
    at_t = get_or-set_same tasks2 t (Some rest) None long2

    at_else : (u : ℕ) → (u == t) ≡ false → slice_index_or tasks3 u None ≡ slice_index_or tasks2 u None
    at_else u n = get_or-set_other tasks2 t u (Some rest) None (differ u t n)

    rest_values : (u : ℕ) (b c : Bool) → (u == t) ≡ b → (u == task_count j) ≡ c → task_in (slice_index_or tasks3 u None) ≡ back.values u
    rest_values u true c g f = rw g (ap (λ v. task_in (slice_index_or tasks3 v None)) (eqb-true u t g) ∙ ap task_in at_t)
    rest_values u false true g f =
        let q = born u in
        rw (g, q, f) (ap task_in (at_else u g) ∙ ap (λ v. task_in (slice_index_or tasks2 v None)) (eqb-true u (task_count j) f) ∙ ap task_in at_new ∙ ap (λ x. Some x) r_task)
    rest_values u false false g f =
        let q = born u in rw (g, q, f) (ap task_in (at_else u g) ∙ ap task_in (at_other u f))

    long3 : (n : ℕ) → n < length tasks2 → n < length tasks3
    long3 n lt = subst (λ l. n < l) (sym (length-set tasks2 t (Some rest))) lt

    new_there : task_count j < length tasks3
    new_there =
        long3 (task_count j) (let b = lies.tasks_are in let c = length-append tasks (Some r ∷ []) in omega (arith, b, c))

    child_there : (k : ℕ) → member_in k (slice_index_or tasks3 (task_count j) None) ≡ find k r.members.items
    child_there k = ap (member_in k) (at_else (task_count j) (flip t (task_count j) not_new) ∙ at_new)

    child_has : find o r.members.items ≡ Some m
    child_has = let q = self_test o in ap (find o) r_items ∙ rw q refl

    child_not : (k : ℕ) → (k == o) ≡ false → find k r.members.items ≡ None
    child_not k n = let q = flip k o n in ap (find k) r_items ∙ rw q refl

    -- a task other than t and the new one has none of what t holds
    others : (k : ℕ) → has (held t j) k ≡ true → (u : ℕ) → (u == t) ≡ false → (u == task_count j) ≡ false → member_in k (slice_index_or tasks3 u None) ≡ None
    others k h u n q = ap (member_in k) (at_else u n ∙ at_other u q) ∙ others_none j tasks loose sound lies.hands t k h u (differ u t n)

    rest_members : (k : ℕ) (b : Bool) → (k == o) ≡ b → or_else (slice_index_or loose k None) (member_among k tasks3) ≡ back.members k
    rest_members k true g =
        let same = eqb-true k o g in
        let out = takes k in
        ap (λ v. or_else (slice_index_or loose v None) (member_among v tasks3)) same ∙ ap (λ x. or_else x (member_among o tasks3)) (loose_none j tasks loose lies.loose_are t o holds_it) ∙ among_only o (task_count j) m tasks3 new_there (child_there o ∙ child_has) (λ u d. by u (u == t) refl d) ∙ sym found ∙ or_some (find o items) (or_else (slice_index_or loose o None) (member_among o tasks)) found ∙ ap (all_members items tasks loose) (sym same) ∙ ap (λ c. if c then None else all_members items tasks loose k) (sym out)
      where
        or_some : (x y : Option M) → x ≡ Some m → x ≡ or_else x y
        or_some x y h = h ∙ ap (λ z. or_else z y) (sym h)

        by : (u : ℕ) (b : Bool) → (u == t) ≡ b → u ≢ task_count j → member_in o (slice_index_or tasks3 u None) ≡ None
        by u true g d = ap (λ v. member_in o (slice_index_or tasks3 v None)) (eqb-true u t g) ∙ ap (member_in o) at_t ∙ ap (find o) hand2_is ∙ find_out o items
        by u false g d = others o holds_it u g (not_true (u == task_count j) (λ f. d (eqb-true u (task_count j) f)))
    rest_members k false g =
        let out = takes k in
        by (find k items) refl ∙ ap (λ c. if c then None else all_members items tasks loose k) (sym out)
      where
        mine_is : find k hand2.items ≡ find k items
        mine_is = ap (find k) hand2_is ∙ find_kept o k items g

        by : (y : Option M) → find k items ≡ y → or_else (slice_index_or loose k None) (member_among k tasks3) ≡ all_members items tasks loose k
        by (Some y) f =
            let h : has (held t j) k ≡ true = ap (λ ks. has ks k) (sym hand_is) ∙ find_some k y items f in
            ap (λ z. or_else z (member_among k tasks3)) (loose_none j tasks loose lies.loose_are t k h) ∙ among_only k t y tasks3 (long3 t long2) (ap (member_in k) at_t ∙ mine_is ∙ f) (λ u d. else_none h u (u == task_count j) refl d) ∙ ap (λ z. or_else z (or_else (slice_index_or loose k None) (member_among k tasks))) (sym f)
          where
            else_none : has (held t j) k ≡ true → (u : ℕ) (b : Bool) → (u == task_count j) ≡ b → u ≢ t → member_in k (slice_index_or tasks3 u None) ≡ None
            else_none h u true q d = ap (λ v. member_in k (slice_index_or tasks3 v None)) (eqb-true u (task_count j) q) ∙ child_there k ∙ child_not k g
            else_none h u false q d = others k h u (not_true (u == t) (λ f. d (eqb-true u t f))) q
        by None f =
            ap (or_else (slice_index_or loose k None)) (among_same k t (Some rest) tasks2 (mine_is ∙ f ∙ ap (member_in k) (sym (at_other t not_new ∙ mine))) ∙ among_more k (Some r) tasks ∙ ap (or_else (member_among k tasks)) (child_not k g) ∙ or_nothing (member_among k tasks)) ∙ ap (λ z. or_else z (or_else (slice_index_or loose k None) (member_among k tasks))) (sym f)

    pub ended_spawn : Ends (put_back a t value items (Some child) (kept (stored (earlier j s) wanted tasks loose))) (kept (stored s wanted (slice_set (tasks ++ Some r ∷ []) t (Some (record { task = value; members = hand2 }))) loose))
    ended_spawn = record {
      over = ap is_over (sym after) ∙ over;
      rest = record {
        journal = after;
        sites = refl;
        opts = refl;
        input = refl;
        abandoned = refl;
        values = λ u. rest_values u (u == t) (u == task_count j) refl refl;
        members = λ k. rest_members k (k == o) refl;
      };
    }

-- ---- a task that is not made yet holds nothing

grows : (j a : List Entry) → task_count j ≤ task_count (j ++ a)
grows j [] = let q = ap task_count (append-nil j) in omega (arith, q)
grows j (e ∷ a) =
    let h = grows (j ++ e ∷ []) a in
    let q = ap task_count (append_assoc j (e ∷ []) a) in
    let c = tasks_push j e in omega (arith, h, q, c)

moved_one : (k : EntryKind) (e : Entry) → is_own k ≡ false → mover k e e.task ≡ true
moved_one kind.Admit e h = self_test e.task
moved_one kind.Push e h = self_test e.task
moved_one k e h = cc

module _ (p t o : ℕ) (A : Type 0) (g : Bool) where
  unborn_all : (j a : List Entry) → Lawful j a → AllBy p t o A g a → t < task_count j → (u : ℕ) → task_count (j ++ a) ≤ u → held u (j ++ a) ≡ held u j
  unborn_all j [] l b lt u le = ap (held u) (append-nil j)
  unborn_all j (e ∷ a) l b lt u le =
      let q = append_assoc j (e ∷ []) a in
      let le' : task_count ((j ++ e ∷ []) ++ a) ≤ u = subst (λ x. task_count x ≤ u) (sym q) le in
      let m = grows (j ++ e ∷ []) a in
      let c = tasks_push j e in
      let few : task_count (j ++ e ∷ []) ≤ u = omega (arith, m, le') in
      ap (held u) (sym q) ∙ unborn_all (j ++ e ∷ []) a l.1 b.1 (omega (arith, lt, c)) u le' ∙ held_foreign u e (foreign few) j
    where
      task_not : task_count (j ++ e ∷ []) ≤ u → (c : Bool) → is_own e.kind ≡ c → (u == e.task) ≡ false
      task_not few true h = ne_eqb u e.task (λ same. let x = b.0.task h in let c = tasks_push j e in absurd (omega (arith, same, x, lt, few, c)))
      task_not few false h = ne_eqb u e.task (λ same. let x = l.0.born e.task (moved_one e.kind e h) in absurd (omega (arith, same, x, few)))

      child_not : task_count (j ++ e ∷ []) ≤ u → (k : EntryKind) → e.kind ≡ k → spawns_task u k e ≡ false
      child_not few kind.Spawn h =
          ne_eqb u (number e.a) (λ same. let x = l.0.born (number e.a) (ap (λ y. mover y e (number e.a)) h ∙ self_test (number e.a)) in absurd (omega (arith, same, x, few)))
      child_not few k h = refl

      foreign : task_count (j ++ e ∷ []) ≤ u → Foreign u e
      foreign few = record { task = task_not few (is_own e.kind) refl; child = child_not few e.kind refl; acts = b.0.acts }

first_holds : (opts : Options) (u : ℕ) → 1 ≤ u → held u (begin opts ∷ []) ≡ []
unfolding held
first_holds opts u le = let n : (0 == u) ≡ false = ne_eqb 0 u (λ e. absurd (omega (arith, e, le))) in rw n refl

pub unborn_run : (opts : Options) (sites : List Site) (input : List ℕ) {j : Journal} → KernelRuns opts sites input j → (u : ℕ) → task_count j ≤ u → held u j ≡ []
unborn_run opts sites input begun u le = let c = some_task (begin opts ∷ []) in first_holds opts u (omega (arith, c, le))
unborn_run opts sites input (more {j} r o (gives p t v room)) u le =
    let c = tasks_push j (dispatch p t) in held_given p t j u ∙ unborn_run opts sites input r u (omega (arith, c, le))
unborn_run opts sites input (more {j} r o (no_room p t v room)) u le =
    let c = tasks_push j lone_limit in held_trail u j lone_limit refl ∙ unborn_run opts sites input r u (omega (arith, c, le))
unborn_run opts sites input (more {j} r over (acts p t k asked m)) u le =
    let s = (good_whole opts sites input r).sound in
    let a = act opts sites input j p t k asked in
    let c = grows j a in
    let lt = known_at j s t (Running p) (first_at j s (Running p) t [] m.runs) in
    unborn_all p t (object_of t j asked.request) (Unit {0}) (destroys asked.request) j a (lawful_act opts sites input j p t k asked s m) (by_act opts sites input j p t k (Unit {0}) asked (λ h. tt)) lt u le ∙ unborn_run opts sites input r u (omega (arith, c, le))

-- ---- the act of a request that makes a task

abbrev object_in : Request → ℕ
object_in (ask.Spawn o) = o
object_in r = 0

spawn_is : (r : Request) → IsSpawn r → r ≡ ask.Spawn (object_in r)
spawn_is (ask.Spawn o) h = refl
spawn_is r h = absurd h

first_is : (x y : Entry) (a c : List Entry) → x ∷ a ≡ y ∷ c → x ≡ y
first_is x y a c h = cc

module _ (opts : Options) (sites : List Site) (input : List ℕ) (j : Journal) (p t k : ℕ) where
  abbrev new_entry : ℕ → ℕ → Entry
  new_entry o line = asking kind.Spawn p t (cost k line) o (pos (task_count j)) (pos 0)

  row_spawned : (o line : ℕ) → is_over (j ++ row opts sites input j p t (cost k line) line (ask.Spawn o)) ≡ false → row opts sites input j p t (cost k line) line (ask.Spawn o) ≡ new_entry o line ∷ []
  row_spawned o line h = by (nat_lt (task_count j) TASKS) h
    where
      by : (b : Bool) → is_over (j ++ or_fault b (new_entry o line) (fault p t (cost k line) 15 line)) ≡ false → or_fault b (new_entry o line) (fault p t (cost k line) 15 line) ≡ new_entry o line ∷ []
      by true h = refl
      by false h = absurd (no_both (is_over (j ++ fault p t (cost k line) 15 line ∷ [])) (over_fault j p t (cost k line) 15 line) h)

  act_spawned : (asked : Asked) → IsSpawn asked.request → is_over (j ++ act opts sites input j p t k asked) ≡ false → act opts sites input j p t k asked ≡ new_entry (object_in asked.request) asked.line ∷ []
  act_spawned asked m h =
      let g = (going_row opts sites input j p t k asked h).0 ∙ ap (row opts sites input j p t (cost k asked.line) asked.line) (spawn_is asked.request m) in
      g ∙ row_spawned (object_in asked.request) asked.line (ap (λ a. is_over (j ++ a)) (sym g) ∙ h)

  pub shaped_spawned : (asked : Asked) → IsSpawn asked.request → Shaped is_spawning (act opts sites input j p t k asked)
  shaped_spawned asked m =
      subst (λ r. Shaped is_spawning (act opts sites input j p t k (record { request = r; line = asked.line }))) (sym (spawn_is asked.request m)) (shaped_spawn opts sites input j p t k (object_in asked.request) asked.line)

  not_spawn : (e first : Entry) (a c : List Entry) → e ∷ a ≡ first ∷ c → is_spawn e.kind ≡ false → first.kind ≡ kind.Spawn → ⊥
  not_spawn e first a c h n s = no_both (is_spawn first.kind) (ap is_spawn s) (ap (λ x. is_spawn x.kind) (sym (first_is e first a c h)) ∙ n)

  head_of : (o line : ℕ) (first : Entry) (rest : List Entry) → act opts sites input j p t k (record { request = ask.Spawn o; line = line }) ≡ first ∷ rest → first.kind ≡ kind.Spawn → first ≡ new_entry o line
  head_of o line first rest h s = by (nat_le (length j + length (row0 ++ ending opts j p t row0) + 1) opts.entries) h
    where
      row0 : List Entry
      row0 = entries_of opts sites input j p t k (record { request = ask.Spawn o; line = line })

      settled_by : (b : Bool) (last : List Entry) → settled (fault p t no_cost 10 line) j (or_fault b (new_entry o line) (fault p t (cost k line) 15 line)) ++ last ≡ first ∷ rest → first ≡ new_entry o line
      settled_by true last h = sym (first_is (new_entry o line) first last rest h)
      settled_by false last h = absurd (not_spawn (fault p t (cost k line) 15 line) first last rest h refl s)

      by : (b : Bool) → cond b (row0 ++ ending opts j p t row0) (entry kind.Limit p t 0 0 (pos 0) (pos 0) ∷ []) ≡ first ∷ rest → first ≡ new_entry o line
      by true h = settled_by (nat_lt (task_count j) TASKS) (ending opts j p t row0) h
      by false h = absurd (not_spawn (entry kind.Limit p t 0 0 (pos 0) (pos 0)) first [] rest h refl s)

  spawn_head : (asked : Asked) → IsSpawn asked.request → (first : Entry) (rest : List Entry) → act opts sites input j p t k asked ≡ first ∷ rest → first.kind ≡ kind.Spawn → first ≡ new_entry (object_in asked.request) asked.line
  spawn_head asked m first rest h s =
      head_of (object_in asked.request) asked.line first rest (ap (λ r. act opts sites input j p t k (record { request = r; line = asked.line })) (sym (spawn_is asked.request m)) ∙ h) s

spawns_second : (e : Entry) (a : List Entry) (u : ℕ) → SecondFits a → spawns (e ∷ a) u ≡ spawns_task u e.kind e
spawns_second e a u h = or_front (spawns_task u e.kind e) (spawns a u) (second_spawn a u h)

no_spawn : (a : List Entry) (first : Entry) (rest : List Entry) → a ≡ first ∷ rest → Shaped is_spawning a → is_spawn first.kind ≡ false → (u : ℕ) → spawns a u ≡ false
no_spawn a first rest is h n u =
    let h' : Shaped is_spawning (first ∷ rest) = subst (Shaped is_spawning) is h in
    ap (λ l. spawns l u) is ∙ spawns_second first rest u h'.1 ∙ none first.kind n
  where
    none : (x : EntryKind) → is_spawn x ≡ false → spawns_task u x first ≡ false
    none kind.Spawn n = cc
    none x n = refl

no_taken : (a : List Entry) → Shaped is_spawning a → (k : ℕ) → takes_out a k ≡ false
no_taken [] h k = absurd h
no_taken (e ∷ a) h k = or_both (takes_object e.kind e k) (takes_out a k) (none e.kind h.0) (second_takes a k h.1)
  where
    none : (x : EntryKind) → is_spawning x ≡ true → takes_object x e k ≡ false
    none kind.Gone n = cc
    none x n = refl

record Head (a : List Entry) (first : Entry) : Type 0 where
  rest : List Entry
  is : a ≡ first ∷ rest

head_is : (j a : List Entry) (first : Entry) → Shaped is_spawning a → slice_get (j ++ a) (length j) ≡ Some first → Head a first
head_is j [] first h g = absurd h
head_is j (e ∷ a) first h g =
    let is : e ≡ first = some-same (sym (get_behind j (e ∷ a) 0 (length j) (omega arith)) ∙ g) in
    record { rest = a; is = ap (λ x. x ∷ a) is }

record Holds {M : Type 0} (o : ℕ) (items : List (ℕ × M)) : Type 0 where
  item : M
  found : find o items ≡ Some item

holds_some : {M : Type 0} (o : ℕ) (items : List (ℕ × M)) → has (keys items) o ≡ true → Holds o items
holds_some o items h = by (find o items) refl
  where
    by : (x : Option _) → find o items ≡ x → Holds o items
    by (Some y) f = record { item = y; found = f }
    by None f = absurd (no_both (has (keys items) o) h (find_none o items f))

kind_is : (k : EntryKind) → is_spawn k ≡ true → k ≡ kind.Spawn
kind_is kind.Spawn h = refl
kind_is k h = cc

module _ {T M : Type 0} (s : Seen) (t : ℕ) (b : Brought T M) (tasks : List (Option (TaskAtRest T M))) (loose : List (Option M)) (x : FromAct s t b tasks loose) (sp : IsSpawn b.asked.request) (first : Entry) (first_there : slice_get s.journal (length x.before) ≡ Some first) where
  abbrev act_of : List Entry
  act_of = act s.opts s.sites s.input x.before b.processor t b.ticks b.asked

  abbrev object : ℕ
  object = object_in b.asked.request

  pub sound_spawn : Sound x.before
  sound_spawn = (good_whole s.opts s.sites s.input x.runs).sound

  pub runs_spawn : KernelRuns s.opts s.sites s.input s.journal
  runs_spawn =
      subst (KernelRuns s.opts s.sites s.input) (sym x.after) (more x.runs x.going (acts b.processor t b.ticks b.asked x.asks))

  pub known_spawn : t < length tasks
  known_spawn =
      let m = known_at x.before sound_spawn t (Running b.processor) (first_at x.before sound_spawn (Running b.processor) t [] x.asks.runs) in
      let e = x.lies.tasks_are in omega (arith, m, e)

  pub apart_spawn : AreApart b.members.items
  apart_spawn = apart_of t x.before b.members.items x.hand

  pub elsewhere_spawn : (q : ℕ) → (q == b.processor) ≡ false → running q s.journal ≡ running q x.before
  elsewhere_spawn q n =
      ap (running q) x.after ∙ running_apart b.processor t (object_of t x.before b.asked.request) (Unit {0}) (destroys b.asked.request) q x.before act_of n (by_act s.opts s.sites s.input x.before b.processor t b.ticks (Unit {0}) b.asked (λ h. tt))

  within : inside object x.before ≡ t ∷ []
  within =
      let fits : Fits s.opts s.sites x.before t (ask.Spawn object) = subst (Fits s.opts s.sites x.before t) (spawn_is b.asked.request sp) x.asks.fits in
      one_inside x.before object t sound_spawn fits.0.inside

  held_object : Holds object b.members.items
  held_object =
      holds_some object b.members.items (ap (λ ks. has ks object) x.hand ∙ (law_held x.before).inside t object ∙ ap (λ xs. has xs t) within ∙ in_one t)

  shape : Shaped is_spawning act_of
  shape = shaped_spawned s.opts s.sites s.input x.before b.processor t b.ticks b.asked sp

  head : Head act_of first
  head = head_is x.before act_of first shape (ap (λ l. slice_get l (length x.before)) (sym x.after) ∙ first_there)

  abbrev made : Entry
  made = asking kind.Spawn b.processor t (cost b.ticks b.asked.line) (object_in b.asked.request) (pos (task_count x.before)) (pos 0)

  first_made : first.kind ≡ kind.Spawn → first ≡ made
  first_made h = spawn_head s.opts s.sites s.input x.before b.processor t b.ticks b.asked sp first head.rest head.is h

  going_made : is_over s.journal ≡ false → act_of ≡ made ∷ []
  going_made g = act_spawned s.opts s.sites s.input x.before b.processor t b.ticks b.asked sp (ap is_over (sym x.after) ∙ g)

  pub over_without : is_spawn first.kind ≡ false → is_over s.journal ≡ true
  over_without n = by (is_over s.journal) refl
    where
      by : (c : Bool) → is_over s.journal ≡ c → is_over s.journal ≡ true
      by true h = h
      by false h = absurd (no_both (is_spawn first.kind) (ap (λ e. is_spawn e.kind) (first_is first made head.rest [] (sym head.is ∙ going_made h))) n)

  pub ended_without : is_spawn first.kind ≡ false → (w : Bool) → Ends (put_back act_of t b.task b.members.items b.child (kept (stored (earlier x.before s) w tasks loose))) (kept (stored s w (slice_set tasks t (Some (record { task = b.task; members = b.members }))) loose))
  ended_without n w =
      ended s t x.before act_of x.after (over_without n) sound_spawn b.members.items x.hand tasks loose x.lies (x.lies.out b.processor t x.asks.runs) known_spawn (no_spawn act_of first head.rest head.is shape n) nothing_gone (no_taken act_of shape) (λ k h. cc) b.task b.members refl w b.child

  module _ (c : T) (c_is : b.child ≡ Some c) (spawned : is_spawn first.kind ≡ true) (hand2 : Listed (ℕ × M)) (hand2_is : hand2.items ≡ without first.object b.members.items) (spare : b.members.spare ≤ hand2.spare) (tasks2 : List (Option (TaskAtRest T M))) (settled_is : (y : T) (m : M) → b.child ≡ Some y → find first.object b.members.items ≡ Some m → HasChild tasks tasks2 y first.object m) where
    object_is : first.object ≡ object
    object_is = ap (λ e. e.object) (first_made (kind_is first.kind spawned))

    has_child : HasChild tasks tasks2 c object held_object.item
    has_child =
        subst (λ o. HasChild tasks tasks2 c o held_object.item) object_is (settled_is c held_object.item c_is (ap (λ o. find o b.members.items) object_is ∙ held_object.found))

    pub known_with : t < length tasks2
    known_with =
        let l = known_spawn in
        let q : length tasks2 ≡ length (tasks ++ Some has_child.rest ∷ []) = ap length has_child.last in
        let n = length-append tasks (Some has_child.rest ∷ []) in
        omega (arith, l, q, n)

    hand_without : hand2.items ≡ without object b.members.items
    hand_without = hand2_is ∙ ap (λ o. without o b.members.items) object_is

    takes_none : (k : ℕ) → takes_out act_of k ≡ false
    takes_none k = no_taken act_of shape k

    born_one : (u : ℕ) → spawns act_of u ≡ (u == task_count x.before)
    born_one u =
        let h' : Shaped is_spawning (first ∷ head.rest) = subst (Shaped is_spawning) head.is shape in
        ap (λ l. spawns l u) head.is ∙ spawns_second first head.rest u h'.1 ∙ ap (λ e. spawns_task u e.kind e) (first_made (kind_is first.kind spawned))

    pub ended_with : is_over s.journal ≡ true → (w : Bool) → Ends (put_back act_of t b.task b.members.items b.child (kept (stored (earlier x.before s) w tasks loose))) (kept (stored s w (slice_set tasks2 t (Some (record { task = b.task; members = hand2 }))) loose))
    ended_with over w =
        subst (λ y. Ends (put_back act_of t b.task b.members.items y (kept (stored (earlier x.before s) w tasks loose))) (kept (stored s w (slice_set tasks2 t (Some (record { task = b.task; members = hand2 }))) loose))) (sym c_is) (subst (λ l. Ends (put_back act_of t b.task b.members.items (Some c) (kept (stored (earlier x.before s) w tasks loose))) (kept (stored s w (slice_set l t (Some (record { task = b.task; members = hand2 }))) loose))) (sym has_child.last) (ended_spawn t b.processor (cost b.ticks b.asked.line) object x.before sound_spawn x.asks.runs within b.members.items x.hand c tasks loose x.lies has_child.rest has_child.task held_object.item held_object.found has_child.items s act_of x.after over takes_none born_one b.task hand2 hand_without w))

    pub done_with : is_over s.journal ≡ false → Done t b.processor x.before s.journal act_of b.members.items b.child tasks loose hand2 tasks2 loose
    done_with going =
        let empty = unborn_run s.opts s.sites s.input x.runs (task_count x.before) (omega arith) in
        let enough : 1 ≤ hand2.spare = (let r = x.room in omega (arith, r, spare)) in
        let d = done_spawn t b.processor (cost b.ticks b.asked.line) object x.before sound_spawn x.asks.runs within b.members.items x.hand c tasks loose x.lies has_child.rest has_child.task held_object.item held_object.found has_child.items empty hand2 hand_without enough in
        subst (λ y. Done t b.processor x.before s.journal act_of b.members.items y tasks loose hand2 tasks2 loose) (sym c_is) (subst (λ l. Done t b.processor x.before s.journal act_of b.members.items (Some c) tasks loose hand2 l loose) (sym has_child.last) (subst (λ l. Done t b.processor x.before s.journal l b.members.items (Some c) tasks loose hand2 (tasks ++ Some has_child.rest ∷ []) loose) (sym (going_made going)) (subst (λ i. Done t b.processor x.before i (made ∷ []) b.members.items (Some c) tasks loose hand2 (tasks ++ Some has_child.rest ∷ []) loose) (sym (x.after ∙ ap (λ l. x.before ++ l) (going_made going))) d)))

-- what was brought brings a child
pub record Brings {T : Type 0} (c : Option T) : Type 0 where
  pub child : T
  pub is : c ≡ Some child

pub brings_one : {T : Type 0} (c : Option T) → IsSome c → Brings c
brings_one None h = cc
brings_one (Some y) h = record { child = y; is = refl }

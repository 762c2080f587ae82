-- Who comes in next, by a door and by a journal.
use Rattle.std.proofs.Common.{◌≡◌, ◌≢◌, ℕ, ℤ, suc, append-nil, ◌==◌, ◌<◌, ◌||◌, ◌&&◌, Bool, true, false, not, cond, List, [], ◌∷◌, ◌++◌, Option, Some, None, map, refl, sym, ap, ◌∙◌, subst, arith, ⊎_elim, inl, inr}
use Rattle.std.specs.Prelude.{◌⊎◌}
use Rattle.std.specs.Option.{MatchOption}
use Rattle.std.specs.List.{AllByRecursion, filter, list_any}
use Rattle.std.proofs.lemmas.Bool.{eqb-true}
use Rattle.uc_tree.specs.Programs.{Site}
use Rattle.uc_links.specs.Lists.{without, is_nil}
use Rattle.uc_entry.specs.declared.entry.Entry.{Entry}
use Rattle.uc_entry.specs.declared.entry.EntryKind.TheVariants as kind
use Rattle.uc_acts.specs.Known.{object_count, task_count}
use Rattle.uc_acts.specs.Journal.{Journal, inside}
use Rattle.uc_acts.specs.Queues.{waiting, stacked, next, successor, is_nobody, last_actor}
use Rattle.uc_acts.specs.Doors.{OnStack, stack_at, clause_on, failed_on, blocked_at, calls_destructor, has_others, destroys_busy}
use Rattle.uc_acts.specs.Acts.{admit_failed, admission, failed_by_way, settled}
use Rattle.uc_acts.specs.Stations.{Station, Waits, Stacked, Blocked, times, one_if, is_same}
use Rattle.uc_acts.specs.Sound.{At, spot, here, Sound, Stood}
use Rattle.uc_acts.proofs.SoundLemmas.{self_test}
use Rattle.uc_acts.specs.Legal.{Legal}
use Rattle.uc_acts.proofs.Rows.{legal_admit}
use Rattle.uc_acts.proofs.Seats.{blocked_same}
use Rattle.uc_acts.proofs.Moves.{first_at, known_at, from_waits, from_stacked, waiting_now, stacked_now}
use Rattle.uc_acts.proofs.Busy.{is_busy}
use Rattle.uc_acts.proofs.Room.{in_none}
use Rattle.uc_mutex.specs.declared.called.Passed.{Passed}
use Rattle.uc_mutex.specs.declared.called.Mark.{Mark}
use Rattle.uc_mutex.specs.Doors.{Door, door_at, next_of, next_by, next_door, after_next, inside_is, let_in, passed, has_tasks}
use Rattle.uc_kernel_core.specs.DoorLaws.{IsDoor, admitted, pair}
use Rattle.uc_condition.specs.Waiting.{Waiting, IsBusy, queue_at}
use Rattle.uc_condition.specs.Waiting.{is_nobody as nobody_on}
use Rattle.uc_condition.specs.Laws.{AreBlocked}
use Rattle.uc_kernel_core.specs.Mirrors.{IsNextOf, IsAside, queued_at}

-- a door by its parts
pub door_parts : (i i' : Option ℕ) (w w' : List (ℕ × ℕ)) (s s' : List (ℕ × Mark)) (o o' : Option (List ℕ)) → i ≡ i' → w ≡ w' → s ≡ s' → o ≡ o' → (let d : Door = record { inside = i; waiting = w; stacked = s; opened = o } in d) ≡ (let d : Door = record { inside = i'; waiting = w'; stacked = s'; opened = o' } in d)
door_parts i i' w w' s s' o o' a b c d =
    ap (λ (x : Option ℕ). let d : Door = record { inside = x; waiting = w; stacked = s; opened = o } in d) a ∙ ap (λ (x : List (ℕ × ℕ)). let d : Door = record { inside = i'; waiting = x; stacked = s; opened = o } in d) b ∙ ap (λ (x : List (ℕ × Mark)). let d : Door = record { inside = i'; waiting = w'; stacked = x; opened = o } in d) c ∙ ap (λ (x : Option (List ℕ)). let d : Door = record { inside = i'; waiting = w'; stacked = s'; opened = x } in d) d

other_test : (b : Bool) → (b ≡ true → ⊥) → b ≡ false
other_test true h = absurd (h refl)
other_test false h = refl

-- who is not in a list is not taken out
pub nobody_out : {A : Type 0} (t : ℕ) (xs : List (ℕ × A)) → AllByRecursion (λ x. x.0 ≢ t) xs → filter (λ x. not (x.0 == t)) xs ≡ xs
nobody_out t [] h = refl
nobody_out t (x ∷ xs) h =
    ap (λ b. cond (not b) (x ∷ filter (λ y. not (y.0 == t)) xs) (filter (λ y. not (y.0 == t)) xs)) (other_test (x.0 == t) (λ g. h.0 (eqb-true x.0 t g))) ∙ ap (λ l. x ∷ l) (nobody_out t xs h.1)

pub first_out : {A : Type 0} (x : ℕ × A) (xs : List (ℕ × A)) → AllByRecursion (λ y. y.0 ≢ x.0) xs → filter (λ y. not (y.0 == x.0)) (x ∷ xs) ≡ xs
first_out x xs h =
    ap (λ b. cond (not b) (x ∷ filter (λ y. not (y.0 == x.0)) xs) (filter (λ y. not (y.0 == x.0)) xs)) (self_test x.0) ∙ nobody_out x.0 xs h

-- the top, or else the front, is let in
top_in : (d : Door) (s : ℕ × Mark) (ss : List (ℕ × Mark)) → d.stacked ≡ s ∷ ss → AllByRecursion (λ w. w.0 ≢ s.0) d.waiting → AllByRecursion (λ x. x.0 ≢ s.0) ss → after_next d ≡ admitted s.0 None d
top_in d s ss is w a =
    let out : filter (λ x. not (x.0 == s.0)) d.stacked ≡ ss = ap (filter (λ x. not (x.0 == s.0))) is ∙ first_out s ss a in
    ap (λ l. next_door l d.waiting d) is ∙ door_parts (Some s.0) (Some s.0) d.waiting (without s.0 d.waiting) _ (filter (λ x. not (x.0 == s.0)) d.stacked) None None refl (sym (nobody_out s.0 d.waiting w)) (ap Rattle.uc_mutex.specs.Doors.rest_of is ∙ sym out) refl

front_in : (d : Door) (w : ℕ × ℕ) (ws : List (ℕ × ℕ)) → d.stacked ≡ [] → d.waiting ≡ w ∷ ws → after_next d ≡ admitted w.0 None d
front_in d w ws none is =
    ap (λ l. next_door l d.waiting d) none ∙ ap (λ l. next_door [] l d) is ∙ door_parts (Some w.0) (Some w.0) (Rattle.uc_mutex.specs.Doors.without_front d.waiting) (without w.0 d.waiting) d.stacked (filter (λ x. not (x.0 == w.0)) d.stacked) None None refl (ap Rattle.uc_mutex.specs.Doors.without_front is ∙ sym (ap (without w.0) is)) (none ∙ sym (ap (filter (λ x. not (x.0 == w.0))) none)) refl

pub nobody_in : (d : Door) → d.inside ≡ None → d.stacked ≡ [] → d.waiting ≡ [] → after_next d ≡ d
nobody_in d out none empty = ap (λ l. next_door l d.waiting d) none ∙ ap (λ l. next_door [] l d) empty ∙ ap (λ i. inside_is i d) (sym out)

module _ (sites : List Site) (o : ℕ) (j : Journal) (d : Door) (at : IsDoor sites o j d) (s : Sound j) (st : Stood sites j) where
  firsts : (ss : List OnStack) → map (λ s. s.0) (map pair ss) ≡ map (λ s. s.task) ss
  firsts [] = refl
  firsts (s ∷ ss) = ap (λ l. s.task ∷ l) (firsts ss)

  stack_tasks : map (λ x. x.0) d.stacked ≡ stacked o j
  stack_tasks = ap (map (λ x. x.0)) at.stacked ∙ firsts (stack_at sites o j) ∙ st.tasks o

  -- a task stands once at its station
  pub once : (t : ℕ) (ts : List ℕ) (r : Station) → spot t j ≡ At r → times t (t ∷ ts) ≡ here r (spot t j) → times t ts ≡ 0
  once t ts r p h =
      let self = self_test t in
      let one : suc (times t ts) ≡ one_if (is_same r r) = simp self at (h ∙ ap (here r) p) in
      by (is_same r r) one
    where
      by : (b : Bool) → suc (times t ts) ≡ one_if b → times t ts ≡ 0
      by true e = omega arith
      by false e = absurd (omega arith)

  pub waits_none : (t : ℕ) → here (Waits o) (spot t j) ≡ 0 → AllByRecursion (λ w. w.0 ≢ t) d.waiting
  waits_none t h = subst (AllByRecursion (λ w. w.0 ≢ t)) (sym at.waiting) (in_none (λ w. w.0) t (waiting o j) (s.seats t (Waits o) ∙ h))

  -- what a door answers to who is next
  pub record Next (x : Option Passed) : Type 0 where
    pub is : MatchOption x ((next o j ≡ None) × (d.stacked ≡ []) × (d.waiting ≡ [])) (IsNextOf sites o j)
    pub door : MatchOption x (d.inside ≡ None → after_next d ≡ d) (λ n. after_next d ≡ admitted n.task None d)

  by_lists : (ss : List (ℕ × Mark)) (ws : List (ℕ × ℕ)) → d.stacked ≡ ss → d.waiting ≡ ws → Next (next_by ss ws)
  by_lists (x ∷ ss) ws a b =
      let tops : stacked o j ≡ x.0 ∷ map (λ x. x.0) ss = sym stack_tasks ∙ ap (map (λ x. x.0)) a in
      let p = first_at j s (Stacked o) x.0 (map (λ x. x.0) ss) tops in
      let self_o = self_test o in
      let below : times x.0 (map (λ x. x.0) ss) ≡ 0 = once x.0 (map (λ x. x.0) ss) (Stacked o) p (ap (times x.0) (sym tops) ∙ s.seats x.0 (Stacked o)) in
      record {
        is = record {
          next = ap (λ l. successor l (waiting o j)) tops;
          clause = (mark_top (stack_at sites o j) (sym at.stacked ∙ a)).0;
          failed = (mark_top (stack_at sites o j) (sym at.stacked ∙ a)).1;
          waits = ap (queued_at o) p ∙ self_o;
          place = inr p;
          way = refl;
        };
        door = top_in d x ss a (waits_none x.0 (ap (here (Waits o)) p)) (in_none (λ y. y.0) x.0 ss below);
      }
    where
      mark_top : (os : List OnStack) → map pair os ≡ x ∷ ss → (clause_on x.0 os ≡ x.1.clause) × (failed_on x.0 os ≡ x.1.failed)
      mark_top [] e = cc
      mark_top (y ∷ os) e =
          let f = heads (pair y) x (map pair os) ss e in
          let t : y.task ≡ x.0 = ap (λ q. q.0) f in
          let same : (y.task == x.0) ≡ true = ap (λ q. y.task == q) (sym t) ∙ self_test y.task in
          (ap (λ c. cond c y.clause (clause_on x.0 os)) same ∙ ap (λ q. q.1.clause) f, ap (λ c. cond c y.failed (failed_on x.0 os)) same ∙ ap (λ q. q.1.failed) f)
        where
          heads : (p q : ℕ × Mark) (ps qs : List (ℕ × Mark)) → p ∷ ps ≡ q ∷ qs → p ≡ q
          heads p q ps qs e = cc
  by_lists [] (w ∷ ws) a b =
      let none : stacked o j ≡ [] = sym stack_tasks ∙ ap (map (λ x. x.0)) a in
      let front : waiting o j ≡ w ∷ ws = sym at.waiting ∙ b in
      let p = first_at j s (Waits o) w.0 (map (λ x. x.0) ws) (ap (map (λ x. x.0)) front) in
      let self_o = self_test o in
      record {
        is = record {
          next = ap (λ l. successor l (waiting o j)) none ∙ ap (successor []) front;
          clause = refl;
          failed = refl;
          waits = ap (queued_at o) p ∙ self_o;
          place = inl p;
          way = refl;
        };
        door = front_in d w ws a b;
      }
  by_lists [] [] a b =
      let none : stacked o j ≡ [] = sym stack_tasks ∙ ap (map (λ x. x.0)) a in
      let nobody : waiting o j ≡ [] = sym at.waiting ∙ b in
      record {
        is = (ap (λ l. successor l (waiting o j)) none ∙ ap (successor []) nobody, a, b);
        door = λ out. nobody_in d out a b;
      }

  pub next_is : Next (next_of d)
  next_is = by_lists d.stacked d.waiting refl refl

  -- of who is next
  pub next_facts : (n : Passed) → Some n ≡ next_of d → (IsNextOf sites o j n) × (after_next d ≡ admitted n.task None d)
  next_facts n e =
      (subst (λ x. MatchOption x ((next o j ≡ None) × (d.stacked ≡ []) × (d.waiting ≡ [])) (IsNextOf sites o j)) (sym e) next_is.is, subst (λ x. MatchOption x (d.inside ≡ None → after_next d ≡ d) (λ n. after_next d ≡ admitted n.task None d)) (sym e) next_is.door)

  pub none_facts : None ≡ next_of d → (next o j ≡ None) × (d.inside ≡ None → after_next d ≡ d)
  none_facts e =
      let is = subst (λ x. MatchOption x ((next o j ≡ None) × (d.stacked ≡ []) × (d.waiting ≡ [])) (IsNextOf sites o j)) (sym e) next_is.is in
      (is.0, subst (λ x. MatchOption x (d.inside ≡ None → after_next d ≡ d) (λ n. after_next d ≡ admitted n.task None d)) (sym e) next_is.door)

-- ---- whether a task is in a queue of an object
abbrev shown : ℕ × ℕ × ℤ → ℕ × ℤ
shown b = (b.0, b.2)

abbrev numbers_on : ℕ → List (ℕ × ℕ × ℤ) → List (ℕ × ℤ)
numbers_on c bs = map shown (filter (λ b. b.1 == c) bs)

none_on : (bs : List (ℕ × ℕ × ℤ)) → ((c : ℕ) → numbers_on c bs ≡ []) → bs ≡ []
none_on [] h = refl
none_on (b ∷ bs) h = absurd (clash (filter (λ x. x.1 == b.1) bs) (sym (by (b.1 == b.1) (self_test b.1)) ∙ h b.1))
  where
    by : (k : Bool) → k ≡ true → map shown (cond k (b ∷ filter (λ x. x.1 == b.1) bs) (filter (λ x. x.1 == b.1) bs)) ≡ shown b ∷ map shown (filter (λ x. x.1 == b.1) bs)
    by true g = refl
    by false g = cc

    clash : (cs : List (ℕ × ℕ × ℤ)) → shown b ∷ map shown cs ≡ [] → ⊥
    clash cs e = cc

some_on : (bs : List (ℕ × ℕ × ℤ)) (c : ℕ) → nobody_on (map shown (filter (λ b. b.1 == c) bs)) ≡ false → is_nobody bs ≡ false
some_on [] c h = cc
some_on (b ∷ bs) c h = refl

nil_both : (ws : List (ℕ × ℕ)) (ss : List (ℕ × Mark)) → not (is_nil ws && is_nil ss) ≡ false → (ws ≡ []) × (ss ≡ [])
nil_both [] [] h = (refl, refl)
nil_both [] (s ∷ ss) h = cc
nil_both (w ∷ ws) ss h = cc

some_either : (ws : List (ℕ × ℕ)) (ss : List (ℕ × Mark)) (ts : List ℕ) (x : Bool) → ts ≡ map (λ s. s.0) ss → not (is_nil ws && is_nil ss) ≡ true → (not (is_nobody ws) || (not (is_nobody ts) || x)) ≡ true
some_either [] [] ts x e h = cc
some_either [] (s ∷ ss) ts x e h = ap (λ l. not (is_nobody l) || x) e
some_either (w ∷ ws) ss ts x e h = refl

last_true : (a b c : Bool) → c ≡ true → (a || (b || c)) ≡ true
last_true true b c h = refl
last_true false true c h = refl
last_true false false c h = h

module _ (sites : List Site) (o : ℕ) (j : Journal) (d : Door) (at : IsDoor sites o j d) (s : Sound j) (st : Stood sites j) (w : Waiting) (bl : AreBlocked w j) where
  pub idle_is : has_tasks d ≡ false → ((c : ℕ) → queue_at w o c ≡ []) → is_busy o j ≡ false
  idle_is h q =
      let n = nil_both d.waiting d.stacked h in
      let ws : waiting o j ≡ [] = sym at.waiting ∙ n.0 in
      let ss : stacked o j ≡ [] = sym (stack_tasks sites o j d at s st) ∙ ap (map (λ x. x.0)) n.1 in
      let bs : blocked_at o j ≡ [] = none_on (blocked_at o j) (λ c. sym (bl o c) ∙ q c) in
      rw (ws, ss, bs) refl

  pub busy_is : (has_tasks d ≡ true) ⊎ IsBusy o w → is_busy o j ≡ true
  busy_is = ⊎_elim
      (λ h. ap (λ l. not (is_nobody l) || (not (is_nobody (stacked o j)) || not (is_nobody (blocked_at o j)))) (sym at.waiting) ∙ some_either d.waiting d.stacked (stacked o j) (not (is_nobody (blocked_at o j))) (sym (stack_tasks sites o j d at s st)) h)
      (λ b. last_true (not (is_nobody (waiting o j))) (not (is_nobody (stacked o j))) (not (is_nobody (blocked_at o j))) (ap not (some_on (blocked_at o j) b.0 (ap nobody_on (sym (bl o b.0)) ∙ b.1))))

-- ---- whether an admission destroys what is in use
any_left : {A : Type 0} (p : A → Bool) (xs : List A) → list_any p xs ≡ not (is_nobody (filter p xs))
any_left p [] = refl
any_left p (x ∷ xs) = by (any_left p xs) (p x) refl
  where
    by : list_any p xs ≡ not (is_nobody (filter p xs)) → (b : Bool) → p x ≡ b → list_any p (x ∷ xs) ≡ not (is_nobody (filter p (x ∷ xs)))
    by ih true e = simp e
    by ih false e = simp (e, ih)

busy_after : (j : Journal) (p u o way clause : ℕ) (failed : Bool) → has_others o u j ≡ is_busy o (j ++ admit_failed p u o way clause failed ∷ [])
busy_after j p u o way clause failed =
    let e = admit_failed p u o way clause failed in
    let a = any_left (λ w. not (w.0 == u)) (waiting o j) ∙ ap (λ l. not (is_nobody l)) (sym (waiting_now j e ∙ append-nil _)) in
    let b = any_left (λ s. not (s == u)) (stacked o j) ∙ ap (λ l. not (is_nobody l)) (sym (stacked_now j e)) in
    let c = any_left (λ w. not (w.0 == u)) (blocked_at o j) ∙ ap (λ l. not (is_nobody l)) (sym (blocked_same o j e (self_test o) ∙ append-nil _)) in
    rw (a, b, c)

pub destroys_not : (j : Journal) (p u o way clause : ℕ) (failed m : Bool) → m ≡ calls_destructor o u j → (m ≡ false) ⊎ (is_busy o (j ++ admit_failed p u o way clause failed ∷ []) ≡ false) → destroys_busy j kind.Admit (admit_failed p u o way clause failed) ≡ false
destroys_not j p u o way clause failed m is = ⊎_elim (λ n. ap (λ b. b && has_others o u j) (sym is ∙ n)) (λ n. by (calls_destructor o u j) (has_others o u j) (busy_after j p u o way clause failed ∙ n))
  where
    by : (a b : Bool) → b ≡ false → (a && b) ≡ false
    by true b h = h
    by false b h = refl

pub destroys_it : (j : Journal) (p u o way clause : ℕ) (failed m : Bool) → m ≡ calls_destructor o u j → m ≡ true → is_busy o (j ++ admit_failed p u o way clause failed ∷ []) ≡ true → destroys_busy j kind.Admit (admit_failed p u o way clause failed) ≡ true
destroys_it j p u o way clause failed m is marked busy = ap (λ b. b && has_others o u j) (sym is ∙ marked) ∙ busy_after j p u o way clause failed ∙ busy

pub settled_kept : (f : Entry) (j : Journal) (e : Entry) → destroys_busy j e.kind e ≡ false → settled f j (e ∷ []) ≡ e ∷ []
settled_kept f j e h = simp h

pub settled_cut : (f : Entry) (j : Journal) (e : Entry) (a : List Entry) → destroys_busy j e.kind e ≡ true → settled f j (e ∷ a) ≡ record f { ticks = e.ticks; line = e.line } ∷ []
settled_cut f j e a h = simp h

-- ---- whoever is next may be let in
module _ (sites : List Site) (o : ℕ) (j : Journal) (s : Sound j) (n : Passed) (is : IsNextOf sites o j n) where
  pub next_task : n.task < task_count j
  next_task = ⊎_elim (λ at. known_at j s n.task (Waits o) at) (λ at. known_at j s n.task (Stacked o) at) is.place

  pub next_legal : (p : ℕ) → inside o j ≡ [] → o < object_count j → Legal (admit_failed p n.task o n.way n.clause n.failed) j
  next_legal p empty known =
      ⊎_elim (λ at. legal_admit j p n.task o n.way n.clause n.failed empty known next_task (from_waits (admit_failed p n.task o n.way n.clause n.failed) (spot n.task j) o (λ v. refl) at)) (λ at. legal_admit j p n.task o n.way n.clause n.failed empty known next_task (from_stacked (admit_failed p n.task o n.way n.clause n.failed) (spot n.task j) o (λ v. refl) at)) is.place

  pub next_unblocked : (v c : ℕ) → here (Blocked v c) (spot n.task j) ≡ 0
  next_unblocked v c = ⊎_elim (λ at. ap (here (Blocked v c)) at) (λ at. ap (here (Blocked v c)) at) is.place

  pub next_other : (t : ℕ) → IsAside t o j → (n.task == last_actor 0 j) ≡ false
  next_other t a = by (n.task == last_actor 0 j) refl
    where
      self_o : is_same (Waits o) (Waits o) ≡ true
      self_o = self_test o

      by : (b : Bool) → (n.task == last_actor 0 j) ≡ b → (n.task == last_actor 0 j) ≡ false
      by false e = e
      by true e =
          let same : n.task ≡ t = eqb-true n.task (last_actor 0 j) e ∙ a.acts in
          absurd (⊎_elim (λ at. one_zero (sym (ap one_if (self_test o)) ∙ sym (ap (here (Waits o)) at) ∙ ap (λ v. here (Waits o) (spot v j)) same ∙ a.waits)) (λ at. one_zero (sym (ap one_if (self_test o)) ∙ sym (ap (here (Stacked o)) at) ∙ ap (λ v. here (Stacked o) (spot v j)) same ∙ a.stacked)) is.place)
        where
          one_zero : suc 0 ≡ 0 → ⊥
          one_zero e = cc

  pub next_row : (p : ℕ) → admission sites p o j (next o j) ≡ admit_failed p n.task o n.way n.clause n.failed ∷ []
  next_row p = ap (admission sites p o j) is.next ∙ ap (λ c. admit_failed p n.task o n.way c (failed_by_way sites o j (n.task, n.way)) ∷ []) is.clause ∙ ap (λ f. admit_failed p n.task o n.way n.clause f ∷ []) is.failed

-- What every journal of a kernel keeps, entry by entry.
use Rattle.std.proofs.Common.{◌≡◌, ◌≢◌, ℕ, ◌==◌, ◌+◌, ◌<◌, ◌≤◌, ◌&&◌, ◌||◌, Bool, true, false, cond, not, List, [], ◌∷◌, ◌++◌, refl, sym, ap, ◌∙◌, subst, append-nil, arith, add-zero, length, ⊎_elim}
use Rattle.std.specs.List.{filter, count_by}
use Rattle.std.proofs.lemmas.Bool.{eqb-true, eq-eqb, cases_lt}
use Rattle.std.proofs.lemmas.List.Sums.{fold_push}
use Rattle.uc_entry.specs.declared.entry.Entry.{Entry}
use Rattle.uc_entry.specs.declared.entry.EntryKind.{EntryKind}
use Rattle.uc_entry.specs.declared.entry.EntryKind.TheVariants as kind
use Rattle.uc_acts.specs.Journal.{Journal, inside, number, holds, stacks_acceptor}
use Rattle.uc_acts.specs.Queues.{Noted, running, stacked}
use Rattle.uc_acts.specs.Doors.{open_at}
use Rattle.uc_acts.specs.Known.{object_count, task_count, is_make, is_spawn, has_ended, ends}
use Rattle.uc_acts.specs.Stations.{Station, Ready, Running, Waits, Stacked, Blocked, times, tasks_at}
use Rattle.uc_acts.specs.Sound.{Spot, Unborn, Ended, mover, own_or_ready, target, moved_if, spot, here, DoorOk, Sound}
use Rattle.uc_acts.specs.Legal.{removes, DoorFit, IsFree, IsNext, Legal}
use Rattle.uc_acts.proofs.OpenLemmas.{any_push}
use Rattle.uc_acts.proofs.Noted.{noted_at}
use Rattle.uc_acts.proofs.Spots.{spot_push, Counts, Free, waits_counts, stacks_counts, blocks_counts, ready_counts, runs_counts}
use Rattle.uc_acts.proofs.Seats.{times_waits, times_stacks, times_blocks, times_ready, times_runs, inside_after, open_after, stacked_after, inside_other, inside_same, open_other, open_same, stacked_other, stacked_same}

-- counts

abbrev pub plus : Bool → ℕ
plus true = 1
plus false = 0

count_push : (p : Entry → Bool) (j : Journal) (e : Entry) → count_by p (j ++ e ∷ []) ≡ count_by p j + plus (p e)
count_push p j e = by (p e) refl (fold_push (λ (n : ℕ) (x : Entry). n + cond (p x) 1 0) 0 j e)
  where
    by : (b : Bool) → p e ≡ b → count_by p (j ++ e ∷ []) ≡ count_by p j + cond (p e) 1 0 → count_by p (j ++ e ∷ []) ≡ count_by p j + plus (p e)
    by true h g = g ∙ ap (λ b. count_by p j + cond b 1 0) h ∙ ap (λ b. count_by p j + plus b) (sym h)
    by false h g = g ∙ ap (λ b. count_by p j + cond b 1 0) h ∙ ap (λ b. count_by p j + plus b) (sym h)

pub objects_push : (j : Journal) (e : Entry) → object_count (j ++ e ∷ []) ≡ object_count j + plus (is_make e.kind)
unfolding object_count
objects_push j e = let h = count_push (λ x. is_make x.kind) j e in omega (arith, h)

pub tasks_push : (j : Journal) (e : Entry) → task_count (j ++ e ∷ []) ≡ task_count j + plus (is_spawn e.kind)
unfolding task_count
tasks_push j e = let h = count_push (λ x. is_spawn x.kind) j e in omega (arith, h)

pub some_object : (j : Journal) → 1 ≤ object_count j
unfolding object_count
some_object j = omega arith

pub some_task : (j : Journal) → 1 ≤ task_count j
unfolding task_count
some_task j = omega arith

pub self_test : (t : ℕ) → (t == t) ≡ true
self_test t = eq-eqb t t refl

pub shut_door : (within : List ℕ) (opened : List Entry) (stack : List ℕ) → length within ≤ 1 → opened ≡ [] → DoorOk within opened stack
shut_door within opened stack one shut = record {
  one = one;
  top = λ a rest h. absurd (cc_no a rest (sym h ∙ shut));
  acceptor = λ a rest h. absurd (cc_no a rest (sym h ∙ shut));
}
  where
    cc_no : (a : Entry) (rest : List Entry) → a ∷ rest ≡ [] → ⊥
    cc_no a rest h = cc

-- where somebody is inside, nothing is open
pub nothing_open : (within : List ℕ) (opened : List Entry) (stack : List ℕ) (t : ℕ) → DoorOk within opened stack → within ≡ t ∷ [] → opened ≡ []
nothing_open within [] stack t d h = refl
nothing_open within (a ∷ rest) stack t d h = absurd (no_one (sym h ∙ d.top a rest refl))
  where
    no_one : t ∷ [] ≡ [] → ⊥
    no_one e = cc

kept_one : (p : ℕ → Bool) (t : ℕ) (b : Bool) → p t ≡ b → length (filter p (t ∷ []) ++ []) ≤ 1
kept_one p t true h = simp h (omega arith)
kept_one p t false h = simp h (omega arith)

-- one inside, and nobody is let in
out_one : (p : ℕ → Bool) (t : ℕ) (within : List ℕ) → within ≡ t ∷ [] → length (filter p within ++ []) ≤ 1
out_one p t within h = rw h (kept_one p t (p t) refl)

nobody : (p : ℕ → Bool) (u : ℕ) (within : List ℕ) → within ≡ [] → length (filter p within ++ u ∷ []) ≤ 1
nobody p u within h = rw h (omega arith)

still_none : (p : Entry → Bool) (opened : List Entry) → opened ≡ [] → filter p opened ++ [] ≡ []
still_none p opened h = ap (λ l. filter p l ++ []) h

pub none_kept : {A : Type 0} (xs : List A) → filter (λ a. false) xs ++ [] ≡ []
none_kept [] = refl
none_kept (x ∷ xs) = none_kept xs

pub all_kept : {A : Type 0} (xs : List A) → filter (λ a. true) xs ≡ xs
all_kept [] = refl
all_kept (x ∷ xs) = ap (λ l. x ∷ l) (all_kept xs)

pub all_kept_nil : {A : Type 0} (xs : List A) → filter (λ a. true) xs ++ [] ≡ xs
all_kept_nil xs = append-nil (filter (λ a. true) xs) ∙ all_kept xs

-- a door that an entry leaves alone
quiet_door : (within : List ℕ) (opened : List Entry) (stack : List ℕ) → DoorOk within opened stack → DoorOk (filter (λ t. true) within ++ []) (filter (λ a. true) opened ++ []) (filter (λ t. true) stack)
quiet_door within opened stack d = rw (all_kept_nil within, all_kept_nil opened, all_kept stack) d

module _ (e : Entry) (within : List ℕ) (opened : List Entry) (stack : List ℕ) (d : DoorOk within opened stack) where
  accept_door : (a b : Bool) → holds 0 e.d ≡ a → holds 1 e.d ≡ b → within ≡ e.task ∷ [] → opened ≡ [] → DoorOk (inside_after kind.Accept e within) (open_after kind.Accept e opened) (stacked_after kind.Accept e stack)
  accept_door true b h g i n =
      let self = self_test e.task in
      let gone : inside_after kind.Accept e within ≡ [] = ap (inside_after kind.Accept e) i ∙ simp (self, h) in
      let now : open_after kind.Accept e opened ≡ e ∷ [] = ap (open_after kind.Accept e) n ∙ simp h in
      let up : stacked_after kind.Accept e stack ≡ e.task ∷ filter (λ t. true) stack = simp h in
      record {
        one = rw gone (omega arith);
        top = λ a rest f. gone;
        acceptor = λ a rest f.
            let same : a ∷ rest ≡ e ∷ [] = sym f ∙ now in
            let first : a ≡ e = cc in
            record { below = filter (λ t. true) stack; top = up ∙ ap (λ x. x.task ∷ filter (λ t. true) stack) (sym first) };
      }
  accept_door false b h g i n =
      shut_door _ _ _ (out_one (λ t. not ((t == e.task) && stacks_acceptor e)) e.task within i) (ap (open_after kind.Accept e) n ∙ simp h)

  spawn_door : within ≡ e.task ∷ [] → opened ≡ [] → DoorOk (inside_after kind.Spawn e within) (open_after kind.Spawn e opened) (stacked_after kind.Spawn e stack)
  spawn_door i n =
      let self = self_test e.task in
      let now : inside_after kind.Spawn e within ≡ number e.a ∷ [] = ap (inside_after kind.Spawn e) i ∙ simp self in
      shut_door _ _ _ (rw now (omega arith)) (still_none (λ a. true) opened n)

  push_door : opened ≡ [] → DoorOk (inside_after kind.Push e within) (open_after kind.Push e opened) (stacked_after kind.Push e stack)
  push_door n =
      shut_door _ _ _ (rw (all_kept_nil within) d.one) (still_none (λ a. true) opened n)

door_step : (k : EntryKind) (e : Entry) (within : List ℕ) (opened : List Entry) (stack : List ℕ) → DoorOk within opened stack → DoorFit k e within opened → DoorOk (inside_after k e within) (open_after k e opened) (stacked_after k e stack)
door_step kind.Begin e within opened stack d f =
    shut_door _ _ _ (nobody (λ t. not (t == 0)) 0 within f.0) (still_none (λ a. true) opened f.1)
door_step kind.Make e within opened stack d f =
    shut_door _ _ _ (nobody (λ t. not (t == e.task)) e.task within f.0) (still_none (λ a. true) opened f.1)
door_step kind.Spawn e within opened stack d f =
    spawn_door e within opened stack d f (nothing_open within opened stack e.task d f)
door_step kind.Made e within opened stack d f =
    shut_door _ _ _ (out_one (λ t. not (t == e.task)) e.task within f) (still_none (λ a. true) opened (nothing_open within opened stack e.task d f))
door_step kind.Leave e within opened stack d f =
    shut_door _ _ _ (out_one (λ t. not (t == e.task)) e.task within f) (still_none (λ a. true) opened (nothing_open within opened stack e.task d f))
door_step kind.End e within opened stack d f =
    shut_door _ _ _ (out_one (λ t. not (t == e.task)) e.task within f) (still_none (λ a. true) opened (nothing_open within opened stack e.task d f))
door_step kind.Wait e within opened stack d f =
    shut_door _ _ _ (out_one (λ t. not (t == e.task)) e.task within f) (still_none (λ a. true) opened (nothing_open within opened stack e.task d f))
door_step kind.Gone e within opened stack d f =
    shut_door _ _ _ (out_one (λ t. not (t == e.task)) e.task within f) (still_none (λ a. true) opened (nothing_open within opened stack e.task d f))
door_step kind.SignalBlock e within opened stack d f =
    shut_door _ _ _ (out_one (λ t. not ((t == e.task) && holds 1 e.b)) e.task within f) (still_none (λ a. true) opened (nothing_open within opened stack e.task d f))
door_step kind.Accept e within opened stack d f =
    accept_door e within opened stack d (holds 0 e.d) (holds 1 e.d) refl refl f (nothing_open within opened stack e.task d f)
door_step kind.Admit e within opened stack d f =
    shut_door _ _ _ (nobody (λ t. not (t == e.task)) e.task within f) (none_kept opened)
door_step kind.Push e within opened stack d f = push_door e within opened stack d f
door_step k e within opened stack d f = quiet_door within opened stack d

-- one task, one place
seat_by : (r : Station) (k : EntryKind) (x : Noted) (t : ℕ) (P : Spot) (m b : Bool) → mover k x.entry t ≡ m → removes r k x.entry ≡ b → (m ≡ true → b ≡ false → here r P ≡ 0) → (after : ℕ) → after ≡ cond (mover k x.entry t && removes r k x.entry) 0 (here r P) + cond (mover k x.entry t) (here r (target k x t)) 0 → after ≡ here r (moved_if (mover k x.entry t) (target k x t) P)
seat_by r k x t P true true h g f after c = let e = simp (h, g) at c in rw h (e ∙ zero_add (here r (target k x t)))
  where
    zero_add : (n : ℕ) → 0 + n ≡ n
    zero_add n = omega arith
seat_by r k x t P true false h g f after c =
    let e = simp (h, g) at c in rw h (e ∙ ap (λ n. n + here r (target k x t)) (f refl refl) ∙ zero_add (here r (target k x t)))
  where
    zero_add : (n : ℕ) → 0 + n ≡ n
    zero_add n = omega arith
seat_by r k x t P false b h g f after c = let e = simp h at c in rw h (e ∙ add-zero (here r P))

module _ (e : Entry) (j : Journal) (s : Sound j) (l : Legal e j) where
  seat : (t : ℕ) (r : Station) → Counts r e.kind (noted_at j e) t (times t (tasks_at r j)) (times t (tasks_at r (j ++ e ∷ []))) → times t (tasks_at r (j ++ e ∷ [])) ≡ here r (spot t (j ++ e ∷ []))
  seat t r c =
      let c' = subst (λ n. Counts r e.kind (noted_at j e) t n (times t (tasks_at r (j ++ e ∷ [])))) (s.seats t r) c in
      seat_by r e.kind (noted_at j e) t (spot t j) (mover e.kind e t) (removes r e.kind e) refl refl (λ m b. l.from t m r b) (times t (tasks_at r (j ++ e ∷ []))) c' ∙ sym (ap (here r) (spot_push t j e))

  free_of : (k : EntryKind) (p t : ℕ) → IsFree k e j → Free k (e.proc == p) (times t (tasks_at (Running p) j))
  free_of kind.Dispatch p t f =
      λ b. ap (times t) (ap (λ q. running q j) (sym (eqb-true e.proc p b)) ∙ f)
  free_of k p t f = tt

  seats_after : (t : ℕ) (r : Station) → times t (tasks_at r (j ++ e ∷ [])) ≡ here r (spot t (j ++ e ∷ []))
  seats_after t (Waits o) =
      seat t (Waits o) (times_waits t o j e ∙ waits_counts e.kind (noted_at j e) o t (times t (tasks_at (Waits o) j)))
  seats_after t (Stacked o) =
      seat t (Stacked o) (times_stacks t o j e ∙ stacks_counts e.kind (noted_at j e) o t (times t (tasks_at (Stacked o) j)))
  seats_after t (Blocked o c) =
      seat t (Blocked o c) (times_blocks t o c j e ∙ blocks_counts e.kind (noted_at j e) o c t (times t (tasks_at (Blocked o c) j)))
  seats_after t (Ready c) =
      seat t (Ready c) (times_ready t c j e ∙ ready_counts e.kind (noted_at j e) c t (times t (tasks_at (Ready c) j)))
  seats_after t (Running p) =
      seat t (Running p) (times_runs t p j e ∙ runs_counts e.kind (noted_at j e) p t (times t (tasks_at (Running p) j)) (free_of e.kind p t l.free))

  door_by : (o : ℕ) (b : Bool) → (e.object == o) ≡ b → DoorOk (inside o (j ++ e ∷ [])) (open_at o (j ++ e ∷ [])) (stacked o (j ++ e ∷ []))
  door_by o false h = rw (inside_other o j e h, open_other o j e h, stacked_other o j e h) (s.doors o)
  door_by o true h =
      let same : e.object ≡ o = eqb-true e.object o h in
      let fit : DoorFit e.kind e (inside o j) (open_at o j) = subst (λ v. DoorFit e.kind e (inside v j) (open_at v j)) same l.door in
      rw (inside_same o j e h, open_same o j e h, stacked_same o j e h) (door_step e.kind e (inside o j) (open_at o j) (stacked o j) (s.doors o) fit)

  few_by : (t : ℕ) (b : Bool) → mover e.kind e t ≡ b → task_count (j ++ e ∷ []) ≤ t → spot t (j ++ e ∷ []) ≡ Unborn
  few_by t true h le = let lt = l.born t h in absurd (omega arith)
  few_by t false h le =
      let grows = tasks_push j e in
      spot_push t j e ∙ ap (λ m. moved_if m (target e.kind (noted_at j e) t) (spot t j)) h ∙ s.few t (omega arith)

  fresh_by : (o : ℕ) (b : Bool) → (e.object == o) ≡ b → object_count (j ++ e ∷ []) ≤ o → (inside o (j ++ e ∷ []) ≡ []) × (open_at o (j ++ e ∷ []) ≡ [])
  fresh_by o true h le =
      let same : e.object ≡ o = eqb-true e.object o h in
      let lt = l.made in
      absurd (omega arith)
  fresh_by o false h le =
      let grows = objects_push j e in
      (inside_other o j e h ∙ s.fresh_inside o (omega arith), open_other o j e h ∙ s.fresh_open o (omega arith))

  pub sound_step : Sound (j ++ e ∷ [])
  sound_step = record {
    seats = seats_after;
    doors = λ o. door_by o (e.object == o) refl;
    few = λ t le. few_by t (mover e.kind e t) refl le;
    fresh_inside = λ o le. (fresh_by o (e.object == o) refl le).0;
    fresh_open = λ o le. (fresh_by o (e.object == o) refl le).1;
  }

-- what a journal keeps from its first entry on
pub record Grown (j : Journal) : Type 0 where
  pub placed : (t : ℕ) → t < task_count j → spot t j ≢ Unborn
  pub over : (t : ℕ) → spot t j ≡ Ended → has_ended t j ≡ true

pub target_born : (k : EntryKind) (x : Noted) (t : ℕ) → mover k x.entry t ≡ true → target k x t ≢ Unborn
target_born kind.Admit x t h e = by (x.entry.task == x.actor) e
  where
    by : (b : Bool) → own_or_ready b x.entry.proc (x.cluster t) ≡ Unborn → ⊥
    by true e = cc
    by false e = cc
target_born k x t h e = cc

target_ended : (k : EntryKind) (x : Noted) (t : ℕ) → mover k x.entry t ≡ true → target k x t ≡ Ended → ends t k x.entry ≡ true
target_ended kind.End x t h e = h
target_ended kind.Admit x t h e = absurd (by (x.entry.task == x.actor) e)
  where
    by : (b : Bool) → own_or_ready b x.entry.proc (x.cluster t) ≡ Ended → ⊥
    by true e = cc
    by false e = cc
target_ended k x t h e = cc

or_left : (a b : Bool) → a ≡ true → (a || b) ≡ true
or_left a b h = rw h

or_right : (a b : Bool) → b ≡ true → (a || b) ≡ true
or_right true b h = refl
or_right false b h = h

pub ended_push : (t : ℕ) (j : Journal) (e : Entry) → has_ended t (j ++ e ∷ []) ≡ (has_ended t j || ends t e.kind e)
unfolding has_ended
ended_push t j e = any_push (λ x. ends t x.kind x) j e

module _ (e : Entry) (j : Journal) (l : Legal e j) (g : Grown j) where
  placed_by : (t : ℕ) (m : Bool) → mover e.kind e t ≡ m → t < task_count (j ++ e ∷ []) → spot t (j ++ e ∷ []) ≢ Unborn
  placed_by t true h lt f =
      target_born e.kind (noted_at j e) t h (sym (spot_push t j e ∙ ap (λ m. moved_if m (target e.kind (noted_at j e) t) (spot t j)) h) ∙ f)
  placed_by t false h lt f =
      let was : spot t j ≡ Unborn = sym (spot_push t j e ∙ ap (λ m. moved_if m (target e.kind (noted_at j e) t) (spot t j)) h) ∙ f in
      g.placed t (old e.kind l.next h (tasks_push j e)) was
    where
      old : (k : EntryKind) → IsNext k e j → mover k e t ≡ false → task_count (j ++ e ∷ []) ≡ task_count j + plus (is_spawn k) → t < task_count j
      old kind.Spawn n m c = ⊎_elim (λ lt. lt) (λ le. absurd (not_it le)) (cases_lt t (task_count j))
        where
          not_it : task_count j ≤ t → ⊥
          not_it le = no_both (t == number e.a) (eq-eqb t (number e.a) (omega arith)) m
            where
              no_both : (b : Bool) → b ≡ true → b ≡ false → ⊥
              no_both b t f = cc
      old k n m c = omega (arith, c)

  over_by : (t : ℕ) (m : Bool) → mover e.kind e t ≡ m → spot t (j ++ e ∷ []) ≡ Ended → has_ended t (j ++ e ∷ []) ≡ true
  over_by t true h f =
      ended_push t j e ∙ or_right (has_ended t j) (ends t e.kind e) (target_ended e.kind (noted_at j e) t h (sym (spot_push t j e ∙ ap (λ m. moved_if m (target e.kind (noted_at j e) t) (spot t j)) h) ∙ f))
  over_by t false h f =
      ended_push t j e ∙ or_left (has_ended t j) (ends t e.kind e) (g.over t (sym (spot_push t j e ∙ ap (λ m. moved_if m (target e.kind (noted_at j e) t) (spot t j)) h) ∙ f))

  pub grown_step : Grown (j ++ e ∷ [])
  grown_step = record {
    placed = λ t. placed_by t (mover e.kind e t) refl;
    over = λ t. over_by t (mover e.kind e t) refl;
  }

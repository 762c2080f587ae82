-- Of objects and tasks that are not made yet the journal tells nothing.
use Rattle.std.proofs.Common.{◌≡◌, ℕ, ℤ, ◌==◌, ◌≤◌, ◌||◌, Bool, true, false, not, cond, List, [], ◌∷◌, ◌++◌, Option, Some, None, map, refl, sym, ap, ◌∙◌, arith}
use Rattle.std.specs.Option.{option_to_list}
use Rattle.std.specs.List.{filter, list_any, fold}
use Rattle.std.proofs.lemmas.Bool.{eqb-true}
use Rattle.std.proofs.lemmas.List.Folds.{list_any-append}
use Rattle.std.proofs.lemmas.List.Sums.{fold_push}
use Rattle.uc_tree.specs.Programs.{Site}
use Rattle.uc_entry.specs.declared.entry.Entry.{Entry}
use Rattle.uc_entry.specs.declared.entry.EntryKind.{EntryKind}
use Rattle.uc_entry.specs.declared.entry.EntryKind.TheVariants as kind
use Rattle.uc_acts.specs.Journal.{Journal, number, where_true, entries_at, inside, lets_in, moves, owns}
use Rattle.uc_acts.specs.Queues.{waiting, calls, takes, tasks_on, on_cluster, comes_to_stand, leaves_cluster}
use Rattle.uc_acts.specs.Doors.{last_call, last_called, last_from, told_from, stack_at, stack_after, open_at, opens, shuts, offered}
use Rattle.uc_acts.specs.Known.{object_count, task_count, owner, owned}
use Rattle.uc_acts.specs.Pending.{pending, pending_by}
use Rattle.uc_acts.specs.Open.{still_open}
use Rattle.uc_acts.specs.Legal.{Legal}
use Rattle.uc_acts.specs.Sound.{mover}
use Rattle.uc_acts.proofs.Noted.{noted_at}
use Rattle.uc_acts.proofs.OpenLemmas.{still_open_silent}
use Rattle.uc_acts.proofs.Seats.{at_other}
use Rattle.uc_acts.proofs.SoundLemmas.{objects_push, tasks_push}
use Rattle.uc_acts.proofs.Stood.{last_same, last_other, flip}
use Rattle.uc_mutex.specs.Doors.{no_door}
use Rattle.uc_mutex.specs.Offers.{clauses_of}
use Rattle.uc_kernel_core.specs.DoorLaws.{IsDoor, pair}
use Rattle.uc_cluster.proofs.Places.{on_push}
use Rattle.uc_kernel_core.specs.Mirrors.{Fresh, own_objects}

fewer_objects : (j : Journal) (e : Entry) (o : ℕ) → object_count (j ++ e ∷ []) ≤ o → object_count j ≤ o
fewer_objects j e o le = let n = objects_push j e in omega arith

fewer_tasks : (j : Journal) (e : Entry) (t : ℕ) → task_count (j ++ e ∷ []) ≤ t → task_count j ≤ t
fewer_tasks j e t le = let n = tasks_push j e in omega arith

-- ---- what an entry tells of a task that it does not move
called_not : (k : EntryKind) (e : Entry) (on : ℕ → Option ℕ) (t : ℕ) → mover k e t ≡ false → last_called on k e t ≡ on t
called_not kind.Call e on t m = ap (λ b. cond b (Some (number e.a)) (on t)) m
called_not k e on t m = refl

owns_not : (k : EntryKind) (e : Entry) (t : ℕ) → mover k e t ≡ false → owns t k e ≡ None
owns_not kind.Begin e t m = ap (λ b. where_true b 0) m
owns_not kind.Spawn e t m = ap (λ b. where_true b e.object) m
owns_not k e t m = refl

one_not : (t : ℕ) (b : Bool) (u : ℕ) → (u == t) ≡ false → list_any (λ x. x == t) (option_to_list (where_true b u)) ≡ false
one_not t true u h = simp h
one_not t false u h = refl

stands_not : (k : EntryKind) (e : Entry) (t c : ℕ) (on : ℕ → ℕ) → mover k e t ≡ false → list_any (λ u. u == t) (option_to_list (on_cluster c on (comes_to_stand k e))) ≡ false
stands_not kind.Begin e t c on m = one_not t (on 0 == c) 0 (flip t 0 false m)
stands_not kind.Spawn e t c on m = one_not t (on (number e.a) == c) (number e.a) (flip t (number e.a) false m)
stands_not kind.Migrate e t c on m = one_not t (on e.task == c) e.task (flip t e.task false m)
stands_not k e t c on m = refl

any_kept : (p q : ℕ → Bool) (xs : List ℕ) → list_any q xs ≡ false → list_any q (filter p xs) ≡ false
any_kept p q [] h = refl
any_kept p q (x ∷ xs) h = by (p x) (q x) refl h (any_kept p q xs)
  where
    by : (a b : Bool) → q x ≡ b → (b || list_any q xs) ≡ false → (list_any q xs ≡ false → list_any q (filter p xs) ≡ false) → list_any q (cond a (x ∷ filter p xs) (filter p xs)) ≡ false
    by true false g f ih = ap (λ b. b || list_any q (filter p xs)) g ∙ ih f
    by false false g f ih = ih f
    by a true g f ih = cc

-- ---- one entry more
module _ (e : Entry) (j : Journal) (l : Legal e j) (h : Fresh j) where
  unmoved : (t : ℕ) → task_count (j ++ e ∷ []) ≤ t → mover e.kind e t ≡ false
  unmoved t le = by (mover e.kind e t) refl
    where
      by : (b : Bool) → mover e.kind e t ≡ b → b ≡ false
      by true m = let lt = l.born t m in absurd (omega arith)
      by false m = refl

  elsewhere : (o : ℕ) → object_count (j ++ e ∷ []) ≤ o → (e.object == o) ≡ false
  elsewhere o le = by (e.object == o) refl
    where
      by : (b : Bool) → (e.object == o) ≡ b → b ≡ false
      by true m =
          let lt = l.made in
          let s = eqb-true e.object o m in
          absurd (omega arith)
      by false m = refl

  pub fresh_step : Fresh (j ++ e ∷ [])
  fresh_step = record {
    at = λ o le. at_other o j e (elsewhere o le) ∙ h.at o (fewer_objects j e o le);
    uncalled = λ o t le. called o t le (e.object == o) refl;
    unowned = λ t le. none_owned t le;
    unplaced = λ k t le. placed k t le;
  }
    where
      called : (o t : ℕ) → task_count (j ++ e ∷ []) ≤ t → (b : Bool) → (e.object == o) ≡ b → last_call o (j ++ e ∷ []) t ≡ None
      called o t le true g = last_same o j e t g ∙ called_not e.kind e (last_call o j) t (unmoved t le) ∙ h.uncalled o t (fewer_tasks j e t le)
      called o t le false g = last_other o j e t g ∙ h.uncalled o t (fewer_tasks j e t le)

      none_owned : (t : ℕ) → task_count (j ++ e ∷ []) ≤ t → own_objects t (j ++ e ∷ []) ≡ []
      none_owned t le = still_open_silent (λ e. owns t e.kind e) (λ e o. false) j e (owns_not e.kind e t (unmoved t le)) (λ a. refl) ∙ h.unowned t (fewer_tasks j e t le)

      placed : (k t : ℕ) → task_count (j ++ e ∷ []) ≤ t → list_any (λ u. u == t) (tasks_on k (j ++ e ∷ [])) ≡ false
      placed k t le =
          let old = any_kept (λ u. not (leaves_cluster e.kind e u)) (λ u. u == t) (tasks_on k j) (h.unplaced k t (fewer_tasks j e t le)) in
          let new = stands_not e.kind e t k (noted_at j e).cluster (unmoved t le) in
          ap (list_any (λ u. u == t)) (on_push k j e) ∙ list_any-append (λ u. u == t) (filter (λ u. not (leaves_cluster e.kind e u)) (tasks_on k j)) (option_to_list (on_cluster k (noted_at j e).cluster (comes_to_stand e.kind e))) ∙ ap (λ b. b || list_any (λ u. u == t) (option_to_list (on_cluster k (noted_at j e).cluster (comes_to_stand e.kind e)))) old ∙ new

pub fresh_none : Fresh []
unfolding entries_at last_call tasks_on
fresh_none = record { at = λ o le. refl; uncalled = λ o t le. refl; unowned = λ t le. refl; unplaced = λ k t le. refl }

-- ---- an object to come
module _ (sites : List Site) (o : ℕ) (j : Journal) (n : entries_at o j ≡ []) where
  pub new_door : IsDoor sites o j no_door
  unfolding inside waiting stack_at open_at
  new_door = record {
    within = sym (ap (still_open (λ e. lets_in e.kind e) (λ e. moves e.kind e)) n);
    waiting = sym (ap (still_open (λ e. calls e.kind e) (λ e p. takes e.kind e p.0)) n);
    stacked = sym (ap (λ es. map pair (fold (λ ss x. stack_after sites x.0.kind x.0 x.1 ss) [] (told_from (λ t. None) es))) n);
    opened = sym (ap (λ es. map (λ a. clauses_of (offered sites a)) (still_open (λ e. opens e.kind e) (λ e a. shuts e.kind e) es)) n);
  }

  pub new_call : (t : ℕ) → last_call o j t ≡ None
  unfolding last_call
  new_call t = ap (λ es. last_from (λ u. None) es t) n

  pub new_owner : owner o j ≡ []
  unfolding owner
  new_owner = ap (still_open (λ e. owned e.kind e) (λ e t. false)) n

-- ---- pending events
pub pending_push : (t : ℕ) (j : Journal) (e : Entry) → pending t (j ++ e ∷ []) ≡ pending_by t (pending t j) e.kind e
unfolding pending
pending_push t j e = fold_push (λ ps e. pending_by t ps e.kind e) [] j e

-- by another kind of entry, or by a raise at another task
pub pending_other : (t : ℕ) (j : Journal) (e : Entry) → ((ps : List (ℕ × ℤ × ℤ)) → pending_by t ps e.kind e ≡ ps) → pending t (j ++ e ∷ []) ≡ pending t j
pending_other t j e h = pending_push t j e ∙ h (pending t j)

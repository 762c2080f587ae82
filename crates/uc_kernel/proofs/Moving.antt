-- What an entry of an act does to the objects that tasks hold, to who runs, and to where tasks are.
use Rattle.std.proofs.Common.{◌≡◌, ℕ, ◌==◌, ◌&&◌, ◌||◌, Bool, true, false, not, List, [], ◌∷◌, ◌++◌, None, refl, sym, ap, ◌∙◌, append-nil, ◌⊎◌, inl, inr}
use Rattle.std.specs.Option.{option_to_list}
use Rattle.std.specs.List.{filter}
use Rattle.std.proofs.lemmas.Bool.{eqb-true, eq-eqb}
use Rattle.uc_entry.specs.declared.entry.Entry.{Entry}
use Rattle.uc_entry.specs.declared.entry.EntryKind.{EntryKind}
use Rattle.uc_entry.specs.declared.entry.EntryKind.TheVariants as kind
use Rattle.uc_acts.specs.Journal.{Journal, where_true, lets_in, moves, is_task, held, holds, stacks_acceptor}
use Rattle.uc_acts.specs.Queues.{running, takes_off, puts_on, last_actor, actor}
use Rattle.uc_acts.specs.Known.{has, is_gone_by}
use Rattle.uc_acts.specs.Stations.{Ready, Running}
use Rattle.uc_acts.specs.Sound.{At, Spot, spot, mover, target, here, own_or_ready}
use Rattle.uc_acts.specs.Legal.{Legal, removes}
use Rattle.uc_acts.proofs.OpenLemmas.{still_open_push, filter_true}
use Rattle.uc_acts.proofs.Noted.{noted_at, last_actor_push}
use Rattle.uc_acts.proofs.Seats.{running_same, running_other}
use Rattle.uc_acts.proofs.SoundLemmas.{self_test}
use Rattle.uc_acts.proofs.Moves.{spot_stays, spot_moves}
use Rattle.uc_acts.proofs.Others.{flip}
use Rattle.uc_kernel.specs.AtRest.{goes_out, is_ready}
use Rattle.uc_kernel.proofs.Hands.{no_both}
use Rattle.uc_kernel.proofs.Lying.{not_true}
use Rattle.uc_kernel.proofs.Shapes.{trails, is_plain}

not_one : (n : ℕ) → n ≡ 1 → n ≡ 0 → ⊥
not_one n a b = cc

and_none : (b : Bool) → (b && false) ≡ false
and_none true = refl
and_none false = refl

and_true : (b : Bool) → b ≡ (b && true)
and_true true = refl
and_true false = refl

or_none : (b : Bool) → b ≡ (b || false)
or_none true = refl
or_none false = refl

pub held_push : (u : ℕ) (j : Journal) (e : Entry) → held u (j ++ e ∷ []) ≡ filter (λ o. not ((e.object == o) && moves e.kind e u)) (held u j) ++ option_to_list (where_true (is_task u (lets_in e.kind e)) e.object)
unfolding held
held_push u j e = still_open_push (λ e. where_true (is_task u (lets_in e.kind e)) e.object) (λ e o. (e.object == o) && moves e.kind e u) j e

-- an entry that does not move a task, nor let it in
held_same : (u : ℕ) (j : Journal) (e : Entry) → moves e.kind e u ≡ false → where_true (is_task u (lets_in e.kind e)) e.object ≡ None → held u (j ++ e ∷ []) ≡ held u j
held_same u j e m l =
    held_push u j e ∙ ap (λ x. filter (λ o. not ((e.object == o) && moves e.kind e u)) (held u j) ++ option_to_list x) l ∙ append-nil _ ∙ filter_true (λ o. not ((e.object == o) && moves e.kind e u)) (held u j) (λ o. ap (λ b. not ((e.object == o) && b)) m ∙ ap not (and_none (e.object == o)))

trails_move : (k : EntryKind) (e : Entry) (u : ℕ) → trails k ≡ true → moves k e u ≡ false
trails_move kind.Push e u h = refl
trails_move kind.Print e u h = refl
trails_move kind.Fault e u h = refl
trails_move kind.Done e u h = refl
trails_move kind.Deadlock e u h = refl
trails_move kind.NoProcessor e u h = refl
trails_move kind.Limit e u h = refl
trails_move k e u h = cc

trails_let : (k : EntryKind) (e : Entry) → trails k ≡ true → lets_in k e ≡ None
trails_let kind.Push e h = refl
trails_let kind.Print e h = refl
trails_let kind.Fault e h = refl
trails_let kind.Done e h = refl
trails_let kind.Deadlock e h = refl
trails_let kind.NoProcessor e h = refl
trails_let kind.Limit e h = refl
trails_let k e h = cc

pub held_trail : (u : ℕ) (j : Journal) (e : Entry) → trails e.kind ≡ true → held u (j ++ e ∷ []) ≡ held u j
held_trail u j e h =
    held_same u j e (trails_move e.kind e u h) (ap (λ x. where_true (is_task u x) e.object) (trails_let e.kind e h))

-- a first entry that makes nothing: its own task goes out of its object, or stays
plain_let : (k : EntryKind) (e : Entry) → is_plain k ≡ true → lets_in k e ≡ None
plain_let kind.Begin e h = cc
plain_let kind.Make e h = cc
plain_let kind.Spawn e h = cc
plain_let kind.Admit e h = cc
plain_let k e h = refl

plain_move : (k : EntryKind) (e : Entry) (u : ℕ) → is_plain k ≡ true → moves k e u ≡ ((u == e.task) && (goes_out k e || is_gone_by k))
plain_move kind.Begin e u h = cc
plain_move kind.Make e u h = cc
plain_move kind.Spawn e u h = cc
plain_move kind.Admit e u h = cc
plain_move kind.Made e u h = and_true (u == e.task)
plain_move kind.Leave e u h = and_true (u == e.task)
plain_move kind.End e u h = and_true (u == e.task)
plain_move kind.Wait e u h = and_true (u == e.task)
plain_move kind.Gone e u h = and_true (u == e.task)
plain_move kind.SignalBlock e u h = ap (λ b. (u == e.task) && b) (or_none (holds 1 e.b))
plain_move kind.Accept e u h = ap (λ b. (u == e.task) && b) (or_none (stacks_acceptor e))
plain_move k e u h = sym (and_none (u == e.task))

pub held_others : (u : ℕ) (j : Journal) (e : Entry) → is_plain e.kind ≡ true → (u == e.task) ≡ false → held u (j ++ e ∷ []) ≡ held u j
held_others u j e h n =
    held_same u j e (plain_move e.kind e u h ∙ ap (λ b. b && (goes_out e.kind e || is_gone_by e.kind)) n) (ap (λ x. where_true (is_task u x) e.object) (plain_let e.kind e h))

pub held_own : (j : Journal) (e : Entry) → is_plain e.kind ≡ true → held e.task (j ++ e ∷ []) ≡ filter (λ o. not ((e.object == o) && (goes_out e.kind e || is_gone_by e.kind))) (held e.task j)
held_own j e h =
    held_push e.task j e ∙ ap (λ x. filter (λ o. not ((e.object == o) && moves e.kind e e.task)) (held e.task j) ++ option_to_list (where_true (is_task e.task x) e.object)) (plain_let e.kind e h) ∙ append-nil _ ∙ ap (λ b. filter (λ o. not ((e.object == o) && b)) (held e.task j)) (plain_move e.kind e e.task h ∙ ap (λ b. b && (goes_out e.kind e || is_gone_by e.kind)) (self_test e.task))

-- an admission
pub filter_absent : (n : ℕ) (xs : List ℕ) (b : Bool) → has xs n ≡ false → filter (λ o. not ((n == o) && b)) xs ≡ xs
filter_absent n [] b h = refl
filter_absent n (x ∷ xs) b h = by (x == n) refl (filter_absent n xs b)
  where
    by : (c : Bool) → (x == n) ≡ c → (has xs n ≡ false → filter (λ o. not ((n == o) && b)) xs ≡ xs) → filter (λ o. not ((n == o) && b)) (x ∷ xs) ≡ x ∷ xs
    by true g ih = let f : has (x ∷ xs) n ≡ true = rw g refl in absurd (no_both (has (x ∷ xs) n) f h)
    by false g ih =
        let f : has (x ∷ xs) n ≡ has xs n = rw g refl in
        let other : (n == x) ≡ false = flip x n g in
        let r = ih (sym f ∙ h) in rw (other, r) refl

module _ (j : Journal) (e : Entry) (admits : e.kind ≡ kind.Admit) where
  pub held_admitted : has (held e.task j) e.object ≡ false → held e.task (j ++ e ∷ []) ≡ held e.task j ++ e.object ∷ []
  held_admitted n =
      held_push e.task j e ∙ ap (λ k. filter (λ o. not ((e.object == o) && moves k e e.task)) (held e.task j) ++ option_to_list (where_true (is_task e.task (lets_in k e)) e.object)) admits ∙ ap (λ b. filter (λ o. not ((e.object == o) && (e.task == e.task))) (held e.task j) ++ option_to_list (where_true b e.object)) (self_test e.task) ∙ ap (λ l. l ++ e.object ∷ []) (filter_absent e.object (held e.task j) (e.task == e.task) n)

  pub held_not_admitted : (u : ℕ) → (u == e.task) ≡ false → held u (j ++ e ∷ []) ≡ held u j
  held_not_admitted u n =
      held_same u j e (ap (λ k. moves k e u) admits ∙ n) (ap (λ k. where_true (is_task u (lets_in k e)) e.object) admits ∙ ap (λ b. where_true b e.object) (flip u e.task n))

-- who runs

trails_off : (k : EntryKind) (e : Entry) (u : ℕ) → trails k ≡ true → takes_off k e u ≡ false
trails_off kind.Push e u h = refl
trails_off kind.Print e u h = refl
trails_off kind.Fault e u h = refl
trails_off kind.Done e u h = refl
trails_off kind.Deadlock e u h = refl
trails_off kind.NoProcessor e u h = refl
trails_off kind.Limit e u h = refl
trails_off k e u h = cc

trails_on : (k : EntryKind) (e : Entry) (u : ℕ) → trails k ≡ true → puts_on k e u ≡ None
trails_on kind.Push e u h = refl
trails_on kind.Print e u h = refl
trails_on kind.Fault e u h = refl
trails_on kind.Done e u h = refl
trails_on kind.Deadlock e u h = refl
trails_on kind.NoProcessor e u h = refl
trails_on kind.Limit e u h = refl
trails_on k e u h = cc

pub running_trail : (q : ℕ) (j : Journal) (e : Entry) → trails e.kind ≡ true → running q (j ++ e ∷ []) ≡ running q j
running_trail q j e h = by (e.proc == q) refl
  where
    by : (b : Bool) → (e.proc == q) ≡ b → running q (j ++ e ∷ []) ≡ running q j
    by false n = running_other q j e n
    by true y =
        running_same q j e y ∙ ap (λ x. filter (λ t. not (takes_off e.kind e t)) (running q j) ++ option_to_list x) (trails_on e.kind e (noted_at j e).actor h) ∙ append-nil _ ∙ filter_true (λ t. not (takes_off e.kind e t)) (running q j) (λ t. ap not (trails_off e.kind e t h))

-- an entry that takes nobody off a processor, and puts nobody on one
pub running_silent : (q : ℕ) (j : Journal) (e : Entry) → ((u : ℕ) → takes_off e.kind e u ≡ false) → ((u : ℕ) → puts_on e.kind e u ≡ None) → running q (j ++ e ∷ []) ≡ running q j
running_silent q j e off on = by (e.proc == q) refl
  where
    by : (b : Bool) → (e.proc == q) ≡ b → running q (j ++ e ∷ []) ≡ running q j
    by false n = running_other q j e n
    by true y =
        running_same q j e y ∙ ap (λ x. filter (λ t. not (takes_off e.kind e t)) (running q j) ++ option_to_list x) (on (noted_at j e).actor) ∙ append-nil _ ∙ filter_true (λ t. not (takes_off e.kind e t)) (running q j) (λ t. ap not (off t))

-- nobody, or this task
abbrev pub AtMost : ℕ → List ℕ → Type 0
AtMost t xs = (xs ≡ []) ⊎ (xs ≡ t ∷ [])

plain_on : (k : EntryKind) (e : Entry) (u : ℕ) → is_plain k ≡ true → puts_on k e u ≡ None
plain_on kind.Begin e u h = cc
plain_on kind.Dispatch e u h = cc
plain_on kind.Make e u h = cc
plain_on kind.Spawn e u h = cc
plain_on kind.Admit e u h = cc
plain_on kind.Push e u h = cc
plain_on k e u h = refl

pub running_plain : (p t : ℕ) (j : Journal) (e : Entry) → is_plain e.kind ≡ true → e.proc ≡ p → running p j ≡ t ∷ [] → AtMost t (running p (j ++ e ∷ []))
running_plain p t j e h at runs =
    by (takes_off e.kind e t) refl (running_same p j e (ap (λ q. q == p) at ∙ self_test p) ∙ ap (λ x. filter (λ t. not (takes_off e.kind e t)) (running p j) ++ option_to_list x) (plain_on e.kind e (noted_at j e).actor h) ∙ append-nil _ ∙ ap (filter (λ t. not (takes_off e.kind e t))) runs)
  where
    by : (b : Bool) → takes_off e.kind e t ≡ b → running p (j ++ e ∷ []) ≡ filter (λ t. not (takes_off e.kind e t)) (t ∷ []) → AtMost t (running p (j ++ e ∷ []))
    by true g f = inl (f ∙ rw g refl)
    by false g f = inr (f ∙ rw g refl)

plain_actor : (k : EntryKind) (e : Entry) (u : ℕ) → is_plain k ≡ true → actor u k e ≡ e.task
plain_actor kind.Admit e u h = cc
plain_actor kind.Push e u h = cc
plain_actor k e u h = refl

pub actor_after : (j : Journal) (e : Entry) → is_plain e.kind ≡ true → last_actor 0 (j ++ e ∷ []) ≡ e.task
actor_after j e h = last_actor_push 0 j e ∙ plain_actor e.kind e (last_actor 0 j) h

-- an admission by the act of task t
module _ (p t : ℕ) (j : Journal) (e : Entry) (admits : e.kind ≡ kind.Admit) (at : e.proc ≡ p) (acts : last_actor 0 j ≡ t) where
  actor_is : (noted_at j e).actor ≡ t
  actor_is = ap (λ k. actor (last_actor 0 j) k e) admits ∙ acts

  after_admission : running p (j ++ e ∷ []) ≡ filter (λ x. not (x == e.task)) (running p j) ++ option_to_list (where_true (e.task == t) e.task)
  after_admission =
      running_same p j e (ap (λ q. q == p) at ∙ self_test p) ∙ ap (λ k. filter (λ x. not (takes_off k e x)) (running p j) ++ option_to_list (puts_on k e (noted_at j e).actor)) admits ∙ ap (λ a. filter (λ x. not (x == e.task)) (running p j) ++ option_to_list (where_true (e.task == a) e.task)) actor_is

  pub running_own : (e.task == t) ≡ true → AtMost t (running p j) → running p (j ++ e ∷ []) ≡ t ∷ []
  running_own same (inl none) =
      after_admission ∙ ap (λ l. filter (λ x. not (x == e.task)) l ++ option_to_list (where_true (e.task == t) e.task)) none ∙ rw same (ap (λ x. x ∷ []) (eqb-true e.task t same))
  running_own same (inr one) =
      let back : (t == e.task) ≡ true = eq-eqb t e.task (sym (eqb-true e.task t same)) in
      after_admission ∙ ap (λ l. filter (λ x. not (x == e.task)) l ++ option_to_list (where_true (e.task == t) e.task)) one ∙ rw (same, back) (ap (λ x. x ∷ []) (eqb-true e.task t same))

  pub running_another : (e.task == t) ≡ false → AtMost t (running p j) → AtMost t (running p (j ++ e ∷ []))
  running_another other (inl none) =
      inl (after_admission ∙ ap (λ l. filter (λ x. not (x == e.task)) l ++ option_to_list (where_true (e.task == t) e.task)) none ∙ rw other refl)
  running_another other (inr one) =
      let back : (t == e.task) ≡ false = flip e.task t other in
      inr (after_admission ∙ ap (λ l. filter (λ x. not (x == e.task)) l ++ option_to_list (where_true (e.task == t) e.task)) one ∙ rw (other, back) refl)

  -- another that is admitted is ready then
  pub ready_then : (e.task == t) ≡ false → is_ready (spot e.task (j ++ e ∷ [])) ≡ true
  ready_then other =
      ap is_ready (spot_moves j e e.task (ap (λ k. mover k e e.task) admits ∙ self_test e.task) ∙ ap (λ k. target k (noted_at j e) e.task) admits) ∙ ap (λ b. is_ready (own_or_ready b e.proc ((noted_at j e).cluster e.task))) (ap (λ a. e.task == a) actor_is ∙ other)

-- where tasks are

abbrev pub gives_none : EntryKind → Bool
gives_none kind.Dispatch = false
gives_none k = true

keeps_ready : (k : EntryKind) (e : Entry) (c : ℕ) → gives_none k ≡ true → removes (Ready c) k e ≡ false
keeps_ready kind.Dispatch e c h = cc
keeps_ready k e c h = refl

-- whoever is ready stays so, unless it is given a processor
pub ready_stays : (u : ℕ) (j : Journal) (e : Entry) → Legal e j → gives_none e.kind ≡ true → is_ready (spot u j) ≡ true → is_ready (spot u (j ++ e ∷ [])) ≡ true
ready_stays u j e l g h = by (mover e.kind e u) refl
  where
    not_ready : (P : Spot) → ((c : ℕ) → here (Ready c) P ≡ 0) → is_ready P ≡ true → ⊥
    not_ready (At (Ready c)) n r = let self = self_test c in not_one (here (Ready c) (At (Ready c))) (rw self refl) (n c)
    not_ready P n r = cc

    by : (b : Bool) → mover e.kind e u ≡ b → is_ready (spot u (j ++ e ∷ [])) ≡ true
    by false m = ap is_ready (spot_stays j e u m) ∙ h
    by true m = absurd (not_ready (spot u j) (λ c. l.from u m (Ready c) (keeps_ready e.kind e c g)) h)

-- nobody who is ready, or runs on another processor, is admitted
pub admits_none_ready : (j : Journal) (e : Entry) → Legal e j → e.kind ≡ kind.Admit → is_ready (spot e.task j) ≡ false
admits_none_ready j e l admits = not_true (is_ready (spot e.task j)) (λ h. ready (spot e.task j) (λ c. l.from e.task (ap (λ k. mover k e e.task) admits ∙ self_test e.task) (Ready c) (ap (λ k. removes (Ready c) k e) admits)) h)
  where
    ready : (P : Spot) → ((c : ℕ) → here (Ready c) P ≡ 0) → is_ready P ≡ true → ⊥
    ready (At (Ready c)) n r = let self = self_test c in not_one (here (Ready c) (At (Ready c))) (rw self refl) (n c)
    ready P n r = cc

pub admits_none_running : (j : Journal) (e : Entry) → Legal e j → e.kind ≡ kind.Admit → (q : ℕ) → (e.proc == q) ≡ false → spot e.task j ≡ At (Running q) → ⊥
admits_none_running j e l admits q n at =
    let self = self_test q in
    let none = l.from e.task (ap (λ k. mover k e e.task) admits ∙ self_test e.task) (Running q) (ap (λ k. removes (Running q) k e) admits ∙ n) in
    not_one (here (Running q) (spot e.task j)) (ap (here (Running q)) at ∙ rw self refl) none

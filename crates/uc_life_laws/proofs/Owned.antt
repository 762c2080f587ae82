-- Whose own object is which, behind an act: only one that spawns a task tells of another.
use Rattle.std.proofs.Common.{◌≡◌, ℕ, ◌==◌, ◌≤◌, Bool, true, false, List, [], ◌∷◌, ◌++◌, Some, None, refl, sym, ap, ◌∙◌, arith, append-nil, append_assoc}
use Rattle.std.proofs.lemmas.Bool.{eqb-true}
use Rattle.uc_entry.specs.declared.entry.Entry.{Entry}
use Rattle.uc_entry.specs.declared.entry.EntryKind.{EntryKind}
use Rattle.uc_entry.specs.declared.entry.EntryKind.TheVariants as kind
use Rattle.uc_entry.specs.declared.entry.Options.{Options}
use Rattle.uc_acts.specs.Open.{still_open}
use Rattle.uc_acts.specs.Journal.{Journal, begin, entries_at}
use Rattle.uc_acts.specs.Known.{task_count, object_count, is_spawn, owned, owner}
use Rattle.uc_acts.specs.Sound.{Each}
use Rattle.uc_acts.proofs.OpenLemmas.{still_open_silent, still_open_begins}
use Rattle.uc_acts.proofs.Seats.{at_push, at_other}
use Rattle.uc_acts.proofs.SoundLemmas.{plus, tasks_push, objects_push}
use Rattle.uc_state_laws.specs.Laws.{is_giving, IsOn}

pub tasks_grow : (j : Journal) (a : List Entry) → task_count j ≤ task_count (j ++ a)
tasks_grow j [] = let same = ap task_count (append-nil j) in omega (arith, same)
tasks_grow j (e ∷ a) =
    let more = tasks_push j e in
    let rest = tasks_grow (j ++ e ∷ []) a in
    let same = ap task_count (append_assoc j (e ∷ []) a) in
    omega (arith, more, rest, same)

pub objects_grow : (j : Journal) (a : List Entry) → object_count j ≤ object_count (j ++ a)
objects_grow j [] = let same = ap object_count (append-nil j) in omega (arith, same)
objects_grow j (e ∷ a) =
    let more = objects_push j e in
    let rest = objects_grow (j ++ e ∷ []) a in
    let same = ap object_count (append_assoc j (e ∷ []) a) in
    omega (arith, more, rest, same)

-- an entry that gives an object to nobody
pub owner_still : (q : ℕ) (j : Journal) (e : Entry) → owned e.kind e ≡ None → owner q (j ++ e ∷ []) ≡ owner q j
unfolding owner
owner_still q j e h = by (e.object == q) refl
  where
    by : (b : Bool) → (e.object == q) ≡ b → still_open (λ e. owned e.kind e) (λ e t. false) (entries_at q (j ++ e ∷ [])) ≡ still_open (λ e. owned e.kind e) (λ e t. false) (entries_at q j)
    by false g = ap (still_open (λ e. owned e.kind e) (λ e t. false)) (at_other q j e g)
    by true g =
        ap (still_open (λ e. owned e.kind e) (λ e t. false)) (at_push q j e true g) ∙ still_open_silent (λ e. owned e.kind e) (λ e t. false) (entries_at q j) e h (λ t. refl)

-- one at another object
pub owner_other : (q : ℕ) (j : Journal) (e : Entry) → (e.object == q) ≡ false → owner q (j ++ e ∷ []) ≡ owner q j
unfolding owner
owner_other q j e g = ap (still_open (λ e. owned e.kind e) (λ e t. false)) (at_other q j e g)

-- one that gives it to a task
pub owner_given : (q u : ℕ) (j : Journal) (e : Entry) → (e.object == q) ≡ true → owned e.kind e ≡ Some u → owner q (j ++ e ∷ []) ≡ owner q j ++ u ∷ []
unfolding owner
owner_given q u j e g h =
    ap (still_open (λ e. owned e.kind e) (λ e t. false)) (at_push q j e true g) ∙ still_open_begins (λ e. owned e.kind e) (λ e t. false) (entries_at q j) e u h (λ t. refl)

silent : (k : EntryKind) (e : Entry) → is_giving k ≡ false → plus (is_spawn k) ≡ 0 → owned k e ≡ None
silent kind.Begin e g n = cc
silent kind.Spawn e g n = cc
silent k e g n = refl

-- entries that make no task
pub owner_same : (p q : ℕ) (j : Journal) (a : List Entry) → Each (IsOn p) a → task_count (j ++ a) ≡ task_count j → owner q (j ++ a) ≡ owner q j
owner_same p q j [] h n = ap (owner q) (append-nil j)
owner_same p q j (e ∷ a) h n =
    let more = tasks_push j e in
    let rest = tasks_grow (j ++ e ∷ []) a in
    let same = ap task_count (append_assoc j (e ∷ []) a) in
    let none : plus (is_spawn e.kind) ≡ 0 = omega (arith, more, rest, same, n) in
    let later : task_count ((j ++ e ∷ []) ++ a) ≡ task_count (j ++ e ∷ []) = omega (arith, more, same, n, none) in
    ap (owner q) (sym (append_assoc j (e ∷ []) a)) ∙ (owner_same p q (j ++ e ∷ []) a h.1 later ∙ owner_still q j e (silent e.kind e h.0.gives none))

pub one_not_none : {A : Type 0} (u : ℕ) (l : List ℕ) → l ≡ u ∷ [] → l ≡ [] → A
one_not_none u [] h k = cc
one_not_none u (x ∷ l) h k = cc

nobody : (q : ℕ) → owner q [] ≡ []
unfolding owner entries_at
nobody q = refl

-- a run begins with object 0, task 0's own
pub owner_begin : (opts : Options) → owner 0 (begin opts ∷ []) ≡ 0 ∷ []
owner_begin opts = owner_given 0 0 [] (begin opts) refl refl ∙ ap (λ l. l ++ 0 ∷ []) (nobody 0)

pub owner_begun : (opts : Options) (q : ℕ) → owner q (begin opts ∷ []) ≡ [] → (q == 0) ≡ false
owner_begun opts q h = by (q == 0) refl
  where
    by : (b : Bool) → (q == 0) ≡ b → (q == 0) ≡ false
    by true e = one_not_none 0 (owner q (begin opts ∷ [])) (ap (λ n. owner n (begin opts ∷ [])) (eqb-true q 0 e) ∙ owner_begin opts) h
    by false e = e

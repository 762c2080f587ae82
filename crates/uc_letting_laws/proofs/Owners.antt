-- Which object is a task's own stays as it was told when the task was made.
use Rattle.std.proofs.Common.{◌≡◌, ℕ, ◌≤◌, ◌||◌, ◌+◌, Bool, true, false, List, [], ◌∷◌, ◌++◌, Some, None, refl, sym, ap, ◌∙◌, append-nil, append_assoc, arith}
use Rattle.std.proofs.lemmas.Bool.{ne_eqb}
use Rattle.std.specs.Option.{option_to_list}
use Rattle.std.specs.List.{filter}
use Rattle.uc_entry.specs.declared.entry.Entry.{Entry}
use Rattle.uc_entry.specs.declared.entry.EntryKind.{EntryKind}
use Rattle.uc_entry.specs.declared.entry.EntryKind.TheVariants as kind
use Rattle.uc_acts.specs.Open.{still_open}
use Rattle.uc_acts.specs.Journal.{Journal, owns, own_object, first_or_0, where_true, number}
use Rattle.uc_acts.specs.Known.{task_count, is_spawn, spawns, spawns_task}
use Rattle.uc_acts.specs.Legal.{IsNext}
use Rattle.uc_acts.proofs.OpenLemmas.{still_open_silent, still_open_begins}
use Rattle.uc_acts.proofs.Rows.{Lawful}
use Rattle.uc_acts.proofs.SoundLemmas.{plus, tasks_push}
use Rattle.uc_letting_laws.proofs.Insiders.{Kicks, is_begin}

-- the objects that a task is told of as its own
abbrev pub told_own : ℕ → Journal → List ℕ
told_own u j = still_open (λ e. owns u e.kind e) (λ e o. false) j

-- an entry that does not make a task tells it of none
none_told : (k : EntryKind) (e : Entry) (u : ℕ) → is_begin k ≡ false → spawns_task u k e ≡ false → owns u k e ≡ None
none_told kind.Begin e u n h = cc
none_told kind.Spawn e u n h = ap (λ b. where_true b e.object) h
none_told k e u n h = refl

or_first : (b c : Bool) → (b || c) ≡ false → b ≡ false
or_first true c h = cc
or_first false c h = refl

or_second : (b c : Bool) → (b || c) ≡ false → c ≡ false
or_second true c h = cc
or_second false c h = h

pub told_same : (t : ℕ) (P : ℕ → Type 0) (u : ℕ) (j : Journal) (a : List Entry) → Kicks t P a → spawns a u ≡ false → told_own u (j ++ a) ≡ told_own u j
told_same t P u j [] k h = ap (told_own u) (append-nil j)
told_same t P u j (e ∷ a) k h =
    ap (told_own u) (sym (append_assoc j (e ∷ []) a))
    ∙ (told_same t P u (j ++ e ∷ []) a k.1 (or_second (spawns_task u e.kind e) (spawns a u) h)
    ∙ still_open_silent (λ e. owns u e.kind e) (λ e o. false) j e (none_told e.kind e u k.0.0 (or_first (spawns_task u e.kind e) (spawns a u) h)) (λ o. refl))

pub own_same : (t : ℕ) (P : ℕ → Type 0) (u : ℕ) (j : Journal) (a : List Entry) → Kicks t P a → spawns a u ≡ false → own_object u (j ++ a) ≡ own_object u j
unfolding own_object
own_same t P u j a k h = ap first_or_0 (told_same t P u j a k h)

-- none is told of an object before it is made

spawned_late : (k : EntryKind) (e : Entry) (j : Journal) (u : ℕ) → IsNext k e j → task_count j + plus (is_spawn k) ≤ u → spawns_task u k e ≡ false
spawned_late kind.Spawn e j u n le = ne_eqb u (number e.a) (λ same. absurd (omega (arith, n, le, same)))
spawned_late k e j u n le = refl

pub unowned : (t : ℕ) (P : ℕ → Type 0) (u : ℕ) (j : Journal) (a : List Entry) → Kicks t P a → Lawful j a → task_count (j ++ a) ≤ u → (task_count j ≤ u → told_own u j ≡ []) → told_own u (j ++ a) ≡ []
unowned t P u j [] k l le h =
    let same : task_count (j ++ []) ≡ task_count j = ap task_count (append-nil j) in
    ap (told_own u) (append-nil j) ∙ h (omega (arith, le, same))
unowned t P u j (e ∷ a) k l le h =
    let joined : (j ++ e ∷ []) ++ a ≡ j ++ e ∷ a = append_assoc j (e ∷ []) a in
    let same : task_count ((j ++ e ∷ []) ++ a) ≡ task_count (j ++ e ∷ a) = ap task_count joined in
    ap (told_own u) (sym joined) ∙ unowned t P u (j ++ e ∷ []) a k.1 l.1 (omega (arith, le, same)) here
  where
    here : task_count (j ++ e ∷ []) ≤ u → told_own u (j ++ e ∷ []) ≡ []
    here g =
        let more = tasks_push j e in
        still_open_silent (λ e. owns u e.kind e) (λ e o. false) j e (none_told e.kind e u k.0.0 (spawned_late e.kind e j u l.0.next (omega (arith, g, more)))) (λ o. refl) ∙ h (omega (arith, g, more))

-- an entry that gives it a processor tells none of its own
pub own_given : (u : ℕ) (j : Journal) (e : Entry) → owns u e.kind e ≡ None → own_object u (j ++ e ∷ []) ≡ own_object u j
unfolding own_object
own_given u j e h = ap first_or_0 (still_open_silent (λ e. owns u e.kind e) (λ e o. false) j e h (λ o. refl))

-- the first of which it is told
pub own_new : (u o : ℕ) (j : Journal) (e : Entry) → told_own u j ≡ [] → owns u e.kind e ≡ Some o → own_object u (j ++ e ∷ []) ≡ o
unfolding own_object
own_new u o j e n s =
    ap first_or_0 (still_open_begins (λ e. owns u e.kind e) (λ e o. false) j e o s (λ a. refl) ∙ ap (λ l. l ++ o ∷ []) n)

-- so it is of the first task
pub own_begin : (e : Entry) → e.kind ≡ kind.Begin → own_object 0 (e ∷ []) ≡ 0
unfolding own_object
own_begin e h = ap (λ k. first_or_0 (filter (λ (x : ℕ). true) (option_to_list (owns 0 k e)) ++ [])) h

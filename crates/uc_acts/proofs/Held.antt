-- The objects that a task holds are those that it is inside.
use Rattle.std.proofs.Common.{◌≡◌, ℕ, ◌==◌, ◌+◌, ◌≤◌, ◌&&◌, ◌||◌, Bool, true, false, cond, List, [], ◌∷◌, ◌++◌, Option, Some, None, refl, sym, ap, ◌∙◌, arith}
use Rattle.std.specs.Prelude.{not}
use Rattle.std.specs.Option.{option_to_list}
use Rattle.std.specs.List.{filter, list_any}
use Rattle.std.proofs.lemmas.Bool.{eqb-true, eq-eqb}
use Rattle.std.proofs.lemmas.List.Folds.{list_any-append}
use Rattle.uc_entry.specs.declared.entry.Entry.{Entry}
use Rattle.uc_entry.specs.declared.entry.EntryKind.{EntryKind}
use Rattle.uc_entry.specs.declared.entry.EntryKind.TheVariants as kind
use Rattle.uc_acts.specs.Open.{still_open}
use Rattle.uc_acts.specs.Journal.{Journal, number, where_true, entries_at, lets_in, moves, is_task, inside, held}
use Rattle.uc_acts.specs.Known.{has}
use Rattle.uc_acts.specs.Stations.{times}
use Rattle.uc_acts.specs.Laws.{LawHeld}
use Rattle.uc_acts.proofs.Times.{times_append}
use Rattle.uc_acts.proofs.SoundLemmas.{self_test}

no_both : (b : Bool) → b ≡ true → b ≡ false → ⊥
no_both b t f = cc

-- whether entries move task t at object o
abbrev moved_at : ℕ → ℕ → List Entry → Bool
moved_at t o j = list_any (λ e. (e.object == o) && moves e.kind e t) j

any_at : (t o : ℕ) (j : Journal) → moved_at t o j ≡ list_any (λ e. moves e.kind e t) (entries_at o j)
unfolding entries_at
any_at t o [] = refl
any_at t o (e ∷ j) = by (e.object == o) refl (any_at t o j)
  where
    by : (b : Bool) → (e.object == o) ≡ b → moved_at t o j ≡ list_any (λ e. moves e.kind e t) (filter (λ x. x.object == o) j) → moved_at t o (e ∷ j) ≡ list_any (λ e. moves e.kind e t) (filter (λ x. x.object == o) (e ∷ j))
    by true h ih = simp (h, ih)
    by false h ih = simp (h, ih)

-- what one entry begins, as far as it stays
abbrev kept : {A : Type 0} → Option A → (A → Bool) → List A
kept x gone = filter (λ a. not (gone a)) (option_to_list x)

has_inside : (x : Option ℕ) (t : ℕ) (gone : ℕ → Bool) → has (kept x gone) t ≡ (is_task t x && not (gone t))
has_inside None t gone = refl
has_inside (Some u) t gone = by (gone u) (u == t) refl refl
  where
    by : (b c : Bool) → gone u ≡ b → (u == t) ≡ c → has (kept (Some u) gone) t ≡ ((u == t) && not (gone t))
    by true false g h = simp (g, h)
    by false false g h = simp (g, h)
    by true true g h = let same : gone t ≡ true = ap gone (sym (eqb-true u t h)) ∙ g in simp (g, h, same)
    by false true g h = let same : gone t ≡ false = ap gone (sym (eqb-true u t h)) ∙ g in simp (g, h, same)

has_held : (b : Bool) (n o : ℕ) (gone : ℕ → Bool) → has (kept (where_true b n) gone) o ≡ (b && ((n == o) && not (gone o)))
has_held false n o gone = refl
has_held true n o gone = has_inside (Some n) o gone

has_append : (xs ys : List ℕ) (n : ℕ) → has (xs ++ ys) n ≡ (has xs n || has ys n)
has_append xs ys n = list_any-append (λ x. x == n) xs ys

same_inside : (t o : ℕ) (j : Journal) → has (held t j) o ≡ has (inside o j) t
unfolding held inside entries_at
same_inside t o [] = refl
same_inside t o (e ∷ j) = by (e.object == o) refl (same_inside t o j)
  where
    by : (b : Bool) → (e.object == o) ≡ b → has (held t j) o ≡ has (inside o j) t → has (held t (e ∷ j)) o ≡ has (inside o (e ∷ j)) t
    by true h ih =
        let first : has (kept (where_true (is_task t (lets_in e.kind e)) e.object) (λ a. moved_at t a j)) o ≡ (is_task t (lets_in e.kind e) && ((e.object == o) && not (moved_at t o j))) = has_held (is_task t (lets_in e.kind e)) e.object o (λ a. moved_at t a j) in
        let other : has (kept (lets_in e.kind e) (λ u. list_any (λ x. moves x.kind x u) (entries_at o j))) t ≡ (is_task t (lets_in e.kind e) && not (list_any (λ x. moves x.kind x t) (entries_at o j))) = has_inside (lets_in e.kind e) t (λ u. list_any (λ x. moves x.kind x u) (entries_at o j)) in
        let m = any_at t o j in
        has_append _ (held t j) o ∙ ap (λ b. b || has (held t j) o) (first ∙ ap (λ b. is_task t (lets_in e.kind e) && (b && not (moved_at t o j))) h ∙ ap (λ b. is_task t (lets_in e.kind e) && not b) m ∙ sym other) ∙ ap (λ b. has (kept (lets_in e.kind e) (λ u. list_any (λ x. moves x.kind x u) (entries_at o j))) t || b) ih ∙ sym (ap (λ l. has (still_open (λ e. lets_in e.kind e) (λ e. moves e.kind e) l) t) (one_more h) ∙ has_append _ (inside o j) t)
      where
        one_more : (e.object == o) ≡ true → entries_at o (e ∷ j) ≡ e ∷ entries_at o j
        one_more h = simp h
    by false h ih =
        let first : has (kept (where_true (is_task t (lets_in e.kind e)) e.object) (λ a. moved_at t a j)) o ≡ (is_task t (lets_in e.kind e) && ((e.object == o) && not (moved_at t o j))) = has_held (is_task t (lets_in e.kind e)) e.object o (λ a. moved_at t a j) in
        has_append _ (held t j) o ∙ ap (λ b. b || has (held t j) o) (first ∙ ap (λ b. is_task t (lets_in e.kind e) && (b && not (moved_at t o j))) h ∙ none (is_task t (lets_in e.kind e))) ∙ ih ∙ sym (ap (λ l. has (still_open (λ e. lets_in e.kind e) (λ e. moves e.kind e) l) t) (no_more h))
      where
        none : (b : Bool) → (b && false) ≡ false
        none true = refl
        none false = refl

        no_more : (e.object == o) ≡ false → entries_at o (e ∷ j) ≡ entries_at o j
        no_more h = simp h

-- who is let in is moved
lets_moves : (k : EntryKind) (e : Entry) (t : ℕ) → is_task t (lets_in k e) ≡ true → moves k e t ≡ true
lets_moves kind.Begin e t h = ap (λ v. v == 0) (sym (eqb-true 0 t h))
lets_moves kind.Make e t h = ap (λ v. v == e.task) (sym (eqb-true e.task t h)) ∙ self_test e.task
lets_moves kind.Spawn e t h = or_last (t == e.task) (t == number e.a) (ap (λ v. v == number e.a) (sym (eqb-true (number e.a) t h)) ∙ self_test (number e.a))
  where
    or_last : (a b : Bool) → b ≡ true → (a || b) ≡ true
    or_last true b h = refl
    or_last false b h = h
lets_moves kind.Admit e t h = ap (λ v. v == e.task) (sym (eqb-true e.task t h)) ∙ self_test e.task
lets_moves k e t h = cc

times_kept : (b : Bool) (n o : ℕ) (gone : ℕ → Bool) → times o (kept (where_true b n) gone) ≡ cond (b && ((n == o) && not (gone o))) 1 0
times_kept false n o gone = refl
times_kept true n o gone = by (gone n) (n == o) refl refl
  where
    flip : (n == o) ≡ true → (o == n) ≡ true
    flip h = eq-eqb o n (sym (eqb-true n o h))

    not_flip : (b : Bool) → (o == n) ≡ b → (n == o) ≡ false → (o == n) ≡ false
    not_flip false g h = g
    not_flip true g h = absurd (no_both (n == o) (eq-eqb n o (sym (eqb-true o n g))) h)

    by : (b c : Bool) → gone n ≡ b → (n == o) ≡ c → times o (kept (Some n) gone) ≡ cond ((n == o) && not (gone o)) 1 0
    by true false g h = simp (g, h)
    by false false g h = let f = not_flip (o == n) refl h in simp (g, h, f)
    by true true g h = let same : gone o ≡ true = ap gone (sym (eqb-true n o h)) ∙ g in simp (g, h, same)
    by false true g h = let same : gone o ≡ false = ap gone (sym (eqb-true n o h)) ∙ g in let f = flip h in simp (g, h, same, f)

held_first : (t o : ℕ) (e : Entry) (j : Journal) → times o (held t (e ∷ j)) ≡ cond (is_task t (lets_in e.kind e) && ((e.object == o) && not (moved_at t o j))) 1 0 + times o (held t j)
unfolding held
held_first t o e j =
    times_append o (kept (where_true (is_task t (lets_in e.kind e)) e.object) (λ a. moved_at t a j)) (held t j) ∙ ap (λ n. n + times o (held t j)) (times_kept (is_task t (lets_in e.kind e)) e.object o (λ a. moved_at t a j))

-- who is not moved at an object is not let in there
not_moved : (t o : ℕ) (j : Journal) → moved_at t o j ≡ false → times o (held t j) ≡ 0
unfolding held
not_moved t o [] h = refl
not_moved t o (e ∷ j) h =
    let c = first (is_task t (lets_in e.kind e)) (e.object == o) refl refl in
    let rest = not_moved t o j (or_right ((e.object == o) && moves e.kind e t) (moved_at t o j) h) in
    let all = held_first t o e j ∙ ap (λ b. cond b 1 0 + times o (held t j)) c in
    omega (arith, all, rest)
  where
    or_left : (a b : Bool) → (a || b) ≡ false → a ≡ false
    or_left true b h = cc
    or_left false b h = refl

    or_right : (a b : Bool) → (a || b) ≡ false → b ≡ false
    or_right true b h = cc
    or_right false b h = h

    first : (a b : Bool) → is_task t (lets_in e.kind e) ≡ a → (e.object == o) ≡ b → (is_task t (lets_in e.kind e) && ((e.object == o) && not (moved_at t o j))) ≡ false
    first false b f g = ap (λ x. x && ((e.object == o) && not (moved_at t o j))) f
    first true false f g = simp (f, g)
    first true true f g =
        let m = lets_moves e.kind e t f in
        let l = or_left ((e.object == o) && moves e.kind e t) (moved_at t o j) h in
        absurd (no_both ((e.object == o) && moves e.kind e t) (simp (g, m)) l)

held_once : (t o : ℕ) (j : Journal) → times o (held t j) ≤ 1
unfolding held
held_once t o [] = omega arith
held_once t o (e ∷ j) = by (moved_at t o j) refl (held_once t o j)
  where
    at_most : (b : Bool) → cond b 1 0 ≤ 1
    at_most true = omega arith
    at_most false = omega arith

    none : (a b : Bool) → (a && (b && false)) ≡ false
    none true true = refl
    none true false = refl
    none false b = refl

    by : (m : Bool) → moved_at t o j ≡ m → times o (held t j) ≤ 1 → times o (held t (e ∷ j)) ≤ 1
    by false h ih =
        let z = not_moved t o j h in
        let f = held_first t o e j in
        let l = at_most (is_task t (lets_in e.kind e) && ((e.object == o) && not (moved_at t o j))) in
        omega (arith, z, f, l)
    by true h ih =
        let f = held_first t o e j ∙ ap (λ m. cond (is_task t (lets_in e.kind e) && ((e.object == o) && not m)) 1 0 + times o (held t j)) h ∙ ap (λ b. cond b 1 0 + times o (held t j)) (none (is_task t (lets_in e.kind e)) (e.object == o)) in
        omega (arith, f, ih)

pub law_held : LawHeld
law_held j = record { inside = λ t o. same_inside t o j; once = λ t o. held_once t o j }

-- Which task a processor may be given.
use Rattle.std.proofs.Common.{◌≡◌, ℕ, zero, suc, ◌+◌, ◌<◌, ◌==◌, ◌&&◌, ◌||◌, not, Bool, true, false, List, [], ◌∷◌, Option, Some, None, length, drop, get_or, refl, sym, ap, ◌∙◌, subst, arith}
use Rattle.std.specs.Prelude.{is_some, slice_index_or}
use Rattle.std.specs.List.{list_any, Contains}
use Rattle.std.proofs.lemmas.Bool.{eqb-true, eq-eqb}
use Rattle.std.proofs.lemmas.List.{at_drop_more}
use Rattle.uc_entry.specs.declared.entry.Options.{Options}
use Rattle.uc_acts.specs.Answers.{first_of}
use Rattle.uc_acts.specs.Journal.{Journal}
use Rattle.uc_acts.specs.Queues.{is_nobody, ready, running, open_processors}
use Rattle.uc_acts.specs.Serves.{Serves}
use Rattle.uc_acts.specs.Laws.{IsServed}
use Rattle.uc_judge.specs.Scheduled.{is_first}

clash : {A : Type 0} (b : Bool) → b ≡ true → b ≡ false → A
clash true h g = cc
clash false h g = cc

pub first_some : (t n : ℕ) (xs : List ℕ) → Some n ≡ first_of xs → (n == t) ≡ is_first t xs
first_some t n [] h = cc
first_some t n (x ∷ xs) h = let same : n ≡ x = cc in ap (λ m. m == t) same

pub first_none : (t : ℕ) (xs : List ℕ) → None ≡ first_of xs → false ≡ is_first t xs
first_none t [] h = refl
first_none t (x ∷ xs) h = cc

module _ {A : Type 0} (p : A → Bool) (xs : List A) (i : ℕ) (d : A) where
  step : i < length xs → list_any p (drop i xs) ≡ (p (get_or xs i d) || list_any p (drop (i + 1) xs))
  step lt = at_drop_more (list_any p) xs i d lt

  pub any_here : i < length xs → p (get_or xs i d) ≡ true → list_any p (drop i xs) ≡ true
  any_here lt h = step lt ∙ ap (λ b. b || list_any p (drop (i + 1) xs)) h

  pub any_past : i < length xs → p (get_or xs i d) ≡ false → list_any p (drop i xs) ≡ list_any p (drop (i + 1) xs)
  any_past lt h = step lt ∙ ap (λ b. b || list_any p (drop (i + 1) xs)) h

-- an item that passes stands in a list
record Passes {A : Type 0} (p : A → Bool) (xs : List A) : Type 0 where
  item : A
  there : Contains xs item
  passes : p item ≡ true

passing : {A : Type 0} (p : A → Bool) (xs : List A) → list_any p xs ≡ true → Passes p xs
passing p [] h = cc
passing {A} p (x ∷ xs) h = by (p x) refl h (λ g. passing p xs g)
  where
    by : (b : Bool) → p x ≡ b → (b || list_any p xs) ≡ true → (list_any p xs ≡ true → Passes p xs) → Passes p (x ∷ xs)
    by true e g later = record { item = x; there = (0, omega arith, refl); passes = e }
    by false e g later =
        let r = later g in
        record { item = r.item; there = (suc r.there.0, (let lt = r.there.1 in omega (arith, lt)), r.there.2); passes = r.passes }

passes_in : {A : Type 0} (p : A → Bool) (xs : List A) (x : A) → Contains xs x → p x ≡ true → list_any p xs ≡ true
passes_in p [] x c h = absurd (let lt = c.1 in omega (arith, lt))
passes_in {A} p (y ∷ xs) x (zero, lt, same) h = ap (λ b. b || list_any p xs) (ap p same ∙ h)
passes_in {A} p (y ∷ xs) x (suc k, lt, same) h = ap (λ b. p y || b) (passes_in p xs x (k, omega (arith, lt), same) h) ∙ by (p y)
  where
    by : (b : Bool) → (b || true) ≡ true
    by true = refl
    by false = refl

both : (a b : Bool) → (a && b) ≡ true → (a ≡ true) × (b ≡ true)
both true b h = (refl, h)
both false b h = cc

abbrev pub row_test : ℕ → ℕ → Journal → ℕ × ℕ → Bool
row_test p t j x = (x.0 == p) && is_first t (ready x.1 j)

none_of : {A : Type 0} (xs : List A) → false ≡ is_some (first_of xs) → xs ≡ []
none_of [] h = refl
none_of (x ∷ xs) h = cc

pub serves_so : (opts : Options) (j : Journal) (p t : ℕ) → is_some (first_of (running p j)) ≡ false → list_any (row_test p t j) (open_processors opts j) ≡ true → Serves opts j p t
serves_so opts j p t free h =
    let r = passing (row_test p t j) (open_processors opts j) h in
    let parts = both (r.item.0 == p) (is_first t (ready r.item.1 j)) r.passes in
    let same : r.item.0 ≡ p = eqb-true r.item.0 p parts.0 in
    let queue = split (ready r.item.1 j) parts.1 in
    record {
      cluster = r.item.1;
      later = queue.0;
      opened = subst (λ n. Contains (open_processors opts j) (n, r.item.1)) same r.there;
      free = none_of (running p j) (sym free);
      queued = queue.1;
    }
  where
    split : (xs : List ℕ) → is_first t xs ≡ true → (later : List ℕ) × (xs ≡ t ∷ later)
    split [] g = cc
    split (x ∷ xs) g = (xs, ap (λ y. y ∷ xs) (eqb-true x t g))

pub serves_not : (opts : Options) (j : Journal) (p t : ℕ) → list_any (row_test p t j) (open_processors opts j) ≡ false → Serves opts j p t → ⊥
serves_not opts j p t h s =
    let first : is_first t (ready s.cluster j) ≡ true = ap (is_first t) s.queued ∙ eq-eqb t t refl in
    let passes : row_test p t j (p, s.cluster) ≡ true = ap (λ b. b && is_first t (ready s.cluster j)) (eq-eqb p p refl) ∙ first in
    clash (list_any (row_test p t j) (open_processors opts j)) (passes_in (row_test p t j) (open_processors opts j) (p, s.cluster) s.opened passes) h

pub busy_not : (opts : Options) (j : Journal) (p t : ℕ) → is_some (first_of (running p j)) ≡ true → Serves opts j p t → ⊥
busy_not opts j p t h s = clash (is_some (first_of (running p j))) h (ap (λ l. is_some (first_of l)) s.free)

-- any processor, and any task

pub busy_waits : {A : Type 0} (o : Option A) (xs : List A) (b : Bool) → is_some o ≡ true → o ≡ first_of xs → false ≡ (is_nobody xs && b)
busy_waits o [] b h e = absurd (clash_some (sym h ∙ ap is_some e))
  where
    clash_some : true ≡ false → ⊥
    clash_some e = cc
busy_waits o (x ∷ xs) b h e = refl

some_waits : {A : Type 0} (o : Option A) (xs : List A) → o ≡ first_of xs → is_some o ≡ not (is_nobody xs)
some_waits o [] e = ap is_some e
some_waits o (x ∷ xs) e = ap is_some e

pub free_waits : {A : Type 0} (o n : Option A) (xs ys : List A) → is_some o ≡ false → o ≡ first_of xs → n ≡ first_of ys → is_some n ≡ (is_nobody xs && not (is_nobody ys))
free_waits o n [] ys h e f = some_waits n ys f
free_waits o n (x ∷ xs) ys h e f = absurd (clash_some (sym h ∙ ap is_some e))
  where
    clash_some : false ≡ true → ⊥
    clash_some e = cc

abbrev pub waits_test : Journal → ℕ × ℕ → Bool
waits_test j x = is_nobody (running x.0 j) && not (is_nobody (ready x.1 j))

empty : {A : Type 0} (xs : List A) → is_nobody xs ≡ true → xs ≡ []
empty [] h = refl
empty (x ∷ xs) h = cc

pub any_so : (opts : Options) (j : Journal) → list_any (waits_test j) (open_processors opts j) ≡ true → IsServed opts j
any_so opts j h =
    let r = passing (waits_test j) (open_processors opts j) h in
    let parts = both (is_nobody (running r.item.0 j)) (not (is_nobody (ready r.item.1 j))) r.passes in
    queued r.item r.there (empty (running r.item.0 j) parts.0) (ready r.item.1 j) refl parts.1
  where
    queued : (x : ℕ × ℕ) → Contains (open_processors opts j) x → running x.0 j ≡ [] → (ts : List ℕ) → ready x.1 j ≡ ts → not (is_nobody ts) ≡ true → IsServed opts j
    queued x there free [] e g = cc
    queued x there free (t ∷ ts) e g = record { processor = x.0; task = t; serves = record { cluster = x.1; later = ts; opened = there; free = free; queued = e } }

pub any_not : (opts : Options) (j : Journal) → list_any (waits_test j) (open_processors opts j) ≡ false → IsServed opts j → ⊥
any_not opts j h a =
    let s = a.serves in
    let passes : waits_test j (a.processor, s.cluster) ≡ true = ap (λ l. is_nobody l && not (is_nobody (ready s.cluster j))) s.free ∙ ap (λ l. not (is_nobody l)) s.queued in
    clash (list_any (waits_test j) (open_processors opts j)) (passes_in (waits_test j) (open_processors opts j) (a.processor, s.cluster) s.opened passes) h

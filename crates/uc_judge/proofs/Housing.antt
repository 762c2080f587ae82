-- The processors with one entry more.
use Rattle.std.proofs.Common.{◌≡◌, ℕ, zero, suc, ◌+◌, ◌==◌, ◌||◌, Bool, true, false, cond, not, List, [], ◌∷◌, ◌++◌, None, map, refl, sym, ap, ◌∙◌, subst, append-nil, append_assoc, arith}
use Rattle.std.specs.Option.{option_to_list}
use Rattle.std.specs.List.{filter, list_any, range_with_len}
use Rattle.std.proofs.lemmas.List.{map-append}
use Rattle.std.proofs.lemmas.List.Elements.{filter-append}
use Rattle.uc_entry.specs.declared.entry.Entry.{Entry}
use Rattle.uc_entry.specs.declared.entry.EntryKind.{EntryKind}
use Rattle.uc_entry.specs.declared.entry.EntryKind.TheVariants as kind
use Rattle.uc_entry.specs.declared.entry.Options.{Options}
use Rattle.uc_acts.specs.Fit.{AreOf, types_of, numbers_of}
use Rattle.uc_acts.specs.Open.{still_open}
use Rattle.uc_acts.specs.Journal.{Journal, number}
use Rattle.uc_acts.specs.Queues.{processors, open_processors, makes_processor, closes}
use Rattle.uc_acts.proofs.OpenLemmas.{still_open_push, filter_true, any_push}
use Rattle.uc_judge.proofs.Events.{holds_number}
use Rattle.uc_judge.proofs.Owned.{flip}

-- whether a journal closes processor p
abbrev pub closed_in : Journal → ℕ → Bool
closed_in j p = list_any (λ e. closes p e.kind e) j

alike : {A : Type 0} (p q : A → Bool) → ((x : A) → p x ≡ q x) → (xs : List A) → filter p xs ≡ filter q xs
alike p q h [] = refl
alike p q h (x ∷ xs) = ap (λ b. cond b (x ∷ filter p xs) (filter p xs)) (h x) ∙ ap (λ l. cond (q x) (x ∷ l) l) (alike p q h xs)

twice : {A : Type 0} (p q : A → Bool) (xs : List A) → filter (λ x. not (p x || q x)) xs ≡ filter (λ x. not (q x)) (filter (λ x. not (p x)) xs)
twice p q [] = refl
twice {A} p q (x ∷ xs) = by (p x) (q x) refl (twice p q xs)
  where
    by : (a b : Bool) → q x ≡ b → filter (λ x. not (p x || q x)) xs ≡ filter (λ x. not (q x)) (filter (λ x. not (p x)) xs) → cond (not (a || b)) (x ∷ filter (λ x. not (p x || q x)) xs) (filter (λ x. not (p x || q x)) xs) ≡ filter (λ x. not (q x)) (cond (not a) (x ∷ filter (λ x. not (p x)) xs) (filter (λ x. not (p x)) xs))
    by true b e h = h
    by false true e h =
        h ∙ sym (ap (λ b. cond (not b) (x ∷ filter (λ x. not (q x)) (filter (λ x. not (p x)) xs)) (filter (λ x. not (q x)) (filter (λ x. not (p x)) xs))) e)
    by false false e h =
        ap (λ l. x ∷ l) h ∙ sym (ap (λ b. cond (not b) (x ∷ filter (λ x. not (q x)) (filter (λ x. not (p x)) xs)) (filter (λ x. not (q x)) (filter (λ x. not (p x)) xs))) e)

processors_push : (opts : Options) (j : Journal) (e : Entry) → processors opts (j ++ e ∷ []) ≡ processors opts j ++ option_to_list (makes_processor e.kind e)
unfolding processors
processors_push opts j e =
    let first : List (ℕ × ℕ) = map (λ p. (p, 0)) (range_with_len 0 opts.processors) in
    let made : List (ℕ × ℕ) = still_open (λ x. makes_processor x.kind x) (λ x r. false) j in
    ap (λ l. first ++ l) (still_open_push (λ x. makes_processor x.kind x) (λ x r. false) j e ∙ ap (λ l. l ++ option_to_list (makes_processor e.kind e)) (filter_true (λ r. true) made (λ r. refl)))
    ∙ sym (append_assoc first made (option_to_list (makes_processor e.kind e)))

closed_push : (j : Journal) (e : Entry) (p : ℕ) → closed_in (j ++ e ∷ []) p ≡ (closed_in j p || closes p e.kind e)
closed_push j e p = any_push (λ x. closes p x.kind x) j e

open_push : (opts : Options) (j : Journal) (e : Entry) → open_processors opts (j ++ e ∷ []) ≡ filter (λ x. not (closed_in j x.0 || closes x.0 e.kind e)) (processors opts j ++ option_to_list (makes_processor e.kind e))
unfolding open_processors
open_push opts j e =
    alike (λ x. not (closed_in (j ++ e ∷ []) x.0)) (λ x. not (closed_in j x.0 || closes x.0 e.kind e)) (λ x. ap not (closed_push j e x.0)) (processors opts (j ++ e ∷ []))
    ∙ ap (filter (λ x. not (closed_in j x.0 || closes x.0 e.kind e))) (processors_push opts j e)

or_false : (b : Bool) → (b || false) ≡ b
or_false true = refl
or_false false = refl

opened_is : (opts : Options) (j : Journal) → filter (λ x. not (closed_in j x.0)) (processors opts j) ≡ open_processors opts j
unfolding open_processors
opened_is opts j = refl

-- an entry that makes one
pub all_made : (opts : Options) (j : Journal) (e : Entry) (new old : List (ℕ × ℕ)) (p k : ℕ) → e.kind ≡ kind.Processor → p ≡ number e.a → k ≡ number e.b → new ≡ old ++ (p, k) ∷ [] → old ≡ processors opts j → new ≡ processors opts (j ++ e ∷ [])
all_made opts j e new old p k h f g is was =
    is ∙ ap (λ n. old ++ (n, k) ∷ []) f ∙ ap (λ n. old ++ (number e.a, n) ∷ []) g ∙ ap (λ l. l ++ (number e.a, number e.b) ∷ []) was ∙ sym (processors_push opts j e ∙ ap (λ k. processors opts j ++ option_to_list (makes_processor k e)) h)

pub open_made : (opts : Options) (j : Journal) (e : Entry) (b : Bool) → e.kind ≡ kind.Processor → closed_in j (number e.a) ≡ b → open_processors opts (j ++ e ∷ []) ≡ open_processors opts j ++ cond {A = List (ℕ × ℕ)} b [] ((number e.a, number e.b) ∷ [])
open_made opts j e b h t =
    open_push opts j e
    ∙ ap (λ k. filter (λ (x : ℕ × ℕ). not (closed_in j x.0 || closes x.0 k e)) (processors opts j ++ option_to_list (makes_processor k e))) h
    ∙ alike (λ (x : ℕ × ℕ). not (closed_in j x.0 || false)) (λ x. not (closed_in j x.0)) (λ x. ap not (or_false (closed_in j x.0))) (processors opts j ++ (number e.a, number e.b) ∷ [])
    ∙ filter-append (λ (x : ℕ × ℕ). not (closed_in j x.0)) (processors opts j) ((number e.a, number e.b) ∷ [])
    ∙ ap (λ l. l ++ cond {A = List (ℕ × ℕ)} (not (closed_in j (number e.a))) ((number e.a, number e.b) ∷ []) []) (opened_is opts j)
    ∙ ap (λ b. open_processors opts j ++ cond {A = List (ℕ × ℕ)} (not b) ((number e.a, number e.b) ∷ []) []) t
    ∙ ap (λ l. open_processors opts j ++ l) (either b)
  where
    either : (b : Bool) → cond {A = List (ℕ × ℕ)} (not b) ((number e.a, number e.b) ∷ []) [] ≡ cond {A = List (ℕ × ℕ)} b [] ((number e.a, number e.b) ∷ [])
    either true = refl
    either false = refl

pub closed_made : (j : Journal) (e : Entry) (p : ℕ) (old : Bool) → e.kind ≡ kind.Processor → old ≡ closed_in j p → old ≡ closed_in (j ++ e ∷ []) p
closed_made j e p old h was = was ∙ sym (closed_push j e p ∙ ap (λ k. closed_in j p || closes p k e) h ∙ or_false (closed_in j p))

-- an entry that closes one

pub all_ended : (opts : Options) (j : Journal) (e : Entry) (old : List (ℕ × ℕ)) → e.kind ≡ kind.ProcessorEnd → old ≡ processors opts j → old ≡ processors opts (j ++ e ∷ [])
all_ended opts j e old h was =
    was ∙ sym (processors_push opts j e ∙ ap (λ k. processors opts j ++ option_to_list (makes_processor k e)) h ∙ append-nil (processors opts j))

closes_is : (e : Entry) (p x : ℕ) → e.kind ≡ kind.ProcessorEnd → AreOf (types_of e.kind) (numbers_of e) → p ≡ number e.a → closes x e.kind e ≡ (p == x)
closes_is e p x h fit at =
    let low = (subst (λ k. AreOf (types_of k) (numbers_of e)) h fit).1.1.1.1.0 in
    ap (λ k. closes x k e) h ∙ holds_number x e.a low.0 ∙ ap (λ n. n == x) (sym at)

pub open_ended : (opts : Options) (j : Journal) (e : Entry) (p : ℕ) → e.kind ≡ kind.ProcessorEnd → AreOf (types_of e.kind) (numbers_of e) → p ≡ number e.a → open_processors opts (j ++ e ∷ []) ≡ filter (λ x. not (x.0 == p)) (open_processors opts j)
open_ended opts j e p h fit at =
    open_push opts j e
    ∙ ap (λ l. filter (λ (x : ℕ × ℕ). not (closed_in j x.0 || closes x.0 e.kind e)) l) (ap (λ k. processors opts j ++ option_to_list (makes_processor k e)) h ∙ append-nil (processors opts j))
    ∙ alike (λ (x : ℕ × ℕ). not (closed_in j x.0 || closes x.0 e.kind e)) (λ x. not (closed_in j x.0 || (x.0 == p))) (λ x. ap (λ b. not (closed_in j x.0 || b)) (closes_is e p x.0 h fit at ∙ flip p x.0)) (processors opts j)
    ∙ twice (λ (x : ℕ × ℕ). closed_in j x.0) (λ x. x.0 == p) (processors opts j)
    ∙ ap (filter (λ (x : ℕ × ℕ). not (x.0 == p))) (opened_is opts j)

pub closed_ended : (j : Journal) (e : Entry) (p x : ℕ) (new old : List ℕ) → e.kind ≡ kind.ProcessorEnd → AreOf (types_of e.kind) (numbers_of e) → p ≡ number e.a → new ≡ old ++ p ∷ [] → list_any (λ y. y == x) old ≡ closed_in j x → list_any (λ y. y == x) new ≡ closed_in (j ++ e ∷ []) x
closed_ended j e p x new old h fit at is was =
    ap (list_any (λ y. y == x)) is ∙ any_push (λ y. y == x) old p ∙ ap (λ b. b || (p == x)) was ∙ sym (closed_push j e x ∙ ap (λ b. closed_in j x || b) (closes_is e p x h fit at))

-- any other

quiet : (k : EntryKind) (e : Entry) → (k ≡ kind.Processor → ⊥) → makes_processor k e ≡ None
quiet kind.Processor e h = absurd (h refl)
quiet k e h = refl

shut : (k : EntryKind) (e : Entry) (p : ℕ) → (k ≡ kind.ProcessorEnd → ⊥) → closes p k e ≡ false
shut kind.ProcessorEnd e p h = absurd (h refl)
shut k e p h = refl

pub all_other : (opts : Options) (j : Journal) (e : Entry) → (e.kind ≡ kind.Processor → ⊥) → processors opts j ≡ processors opts (j ++ e ∷ [])
all_other opts j e m =
    sym (processors_push opts j e ∙ ap (λ o. processors opts j ++ option_to_list o) (quiet e.kind e m) ∙ append-nil (processors opts j))

pub closed_other : (j : Journal) (e : Entry) (p : ℕ) → (e.kind ≡ kind.ProcessorEnd → ⊥) → closed_in j p ≡ closed_in (j ++ e ∷ []) p
closed_other j e p c = sym (closed_push j e p ∙ ap (λ b. closed_in j p || b) (shut e.kind e p c) ∙ or_false (closed_in j p))

pub open_other : (opts : Options) (j : Journal) (e : Entry) → (e.kind ≡ kind.Processor → ⊥) → (e.kind ≡ kind.ProcessorEnd → ⊥) → open_processors opts j ≡ open_processors opts (j ++ e ∷ [])
open_other opts j e m c =
    sym (open_push opts j e ∙ ap (λ o. filter (λ (x : ℕ × ℕ). not (closed_in j x.0 || closes x.0 e.kind e)) (processors opts j ++ option_to_list o)) (quiet e.kind e m) ∙ ap (filter (λ (x : ℕ × ℕ). not (closed_in j x.0 || closes x.0 e.kind e))) (append-nil (processors opts j)) ∙ alike (λ (x : ℕ × ℕ). not (closed_in j x.0 || closes x.0 e.kind e)) (λ x. not (closed_in j x.0)) (λ x. ap (λ b. not (closed_in j x.0 || b)) (shut e.kind e x.0 c) ∙ ap not (or_false (closed_in j x.0))) (processors opts j) ∙ opened_is opts j)

-- the opening ones

pub range_push : (a n : ℕ) → range_with_len a (n + 1) ≡ range_with_len a n ++ (a + n) ∷ []
range_push a zero = ap (λ k. k ∷ []) (nothing a)
  where
    nothing : (a : ℕ) → a ≡ a + 0
    nothing a = omega arith
range_push a (suc n) =
    ap (range_with_len a) (one n) ∙ ap (λ l. a ∷ l) (range_push (a + 1) n ∙ ap (λ k. range_with_len (a + 1) n ++ k ∷ []) (shift a n))
  where
    one : (n : ℕ) → suc n + 1 ≡ suc (n + 1)
    one n = omega arith

    shift : (a n : ℕ) → (a + 1) + n ≡ a + suc n
    shift a n = omega arith

pub one_more : (rows : List (ℕ × ℕ)) (n : ℕ) → rows ≡ map (λ p. (p, 0)) (range_with_len 0 n) → rows ++ (n, 0) ∷ [] ≡ map (λ p. (p, 0)) (range_with_len 0 (n + 1))
one_more rows n h =
    ap (λ l. l ++ (n, 0) ∷ []) h ∙ sym (ap (map (λ p. (p, 0))) (range_push 0 n) ∙ map-append (λ p. (p, 0)) (range_with_len 0 n) ((0 + n) ∷ []) ∙ ap (λ k. map (λ p. (p, 0)) (range_with_len 0 n) ++ (k, 0) ∷ []) (none_more n))
  where
    none_more : (n : ℕ) → 0 + n ≡ n
    none_more n = omega arith

pub none_made : (opts : Options) (rows : List (ℕ × ℕ)) → rows ≡ map (λ p. (p, 0)) (range_with_len 0 opts.processors) → rows ≡ processors opts []
unfolding processors
none_made opts rows h = h ∙ sym (append-nil (map (λ p. (p, 0)) (range_with_len 0 opts.processors)))

pub none_closed : (opts : Options) (rows : List (ℕ × ℕ)) → rows ≡ map (λ p. (p, 0)) (range_with_len 0 opts.processors) → rows ≡ open_processors opts []
unfolding open_processors
none_closed opts rows h = none_made opts rows h ∙ sym (filter_true (λ x. true) (processors opts []) (λ x. refl))

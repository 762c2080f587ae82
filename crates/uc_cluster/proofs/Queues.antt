-- What the queues keep.
use Rattle.std.proofs.Common.{◌≡◌, ◌≢◌, ℕ, zero, suc, ◌<◌, ◌≤◌, ◌+◌, ◌||◌, T, eqb→eq, Bool, true, false, List, [], ◌∷◌, ◌++◌, length, refl, sym, ap, ◌∙◌, subst, ◌⊎◌, inl, inr, arith, add-one, slice_index_or, slice_set}
use Rattle.std.specs.List.{AllByRecursion, IsDistinct, list_any}
use Rattle.std.proofs.lemmas.Map.Steps.{length-le_from_distinct_below}
use lib.Dec.{eqb}
use Rattle.uc_cluster.specs.Standing.{IsApart, IsKept, rest_of}

-- ---- lists whose elements all have a property
pub all_push : {X : Type 0} (P : X → Type 0) (xs : List X) (x : X) → AllByRecursion P xs → P x → AllByRecursion P (xs ++ x ∷ [])
all_push P [] x h p = (p, tt)
all_push P (y ∷ ys) x h p = (h.0, all_push P ys x h.1 p)

pub all_unpush : {X : Type 0} (P : X → Type 0) (xs : List X) (x : X) → AllByRecursion P (xs ++ x ∷ []) → AllByRecursion P xs × P x
all_unpush P [] x h = (tt, h.0)
all_unpush P (y ∷ ys) x h = let rest = all_unpush P ys x h.1 in ((h.0, rest.0), rest.1)

pub all_set : {X : Type 0} (P : X → Type 0) (xs : List X) (i : ℕ) (x : X) → AllByRecursion P xs → P x → AllByRecursion P (slice_set xs i x)
all_set P [] i x h p = tt
all_set P (y ∷ ys) zero x h p = (p, h.1)
all_set P (y ∷ ys) (suc i) x h p = (h.0, all_set P ys i x h.1 p)

pub all_at : {X : Type 0} (P : X → Type 0) (xs : List X) (i : ℕ) (d : X) → AllByRecursion P xs → i < length xs → P (slice_index_or xs i d)
all_at P [] i d h lt = absurd (omega arith)
all_at P (y ∷ ys) zero d h lt = h.0
all_at P (y ∷ ys) (suc i) d h lt = all_at P ys i d h.1 (omega arith)

-- ---- a queue has no more tasks than there are
other_test : (b : Bool) → (b ≡ true → ⊥) → b ≡ false
other_test true h = absurd (h refl)
other_test false h = refl

all_more : (P Q : ℕ → Type 0) → ((x : ℕ) → P x → Q x) → (xs : List ℕ) → AllByRecursion P xs → AllByRecursion Q xs
all_more P Q f [] h = tt
all_more P Q f (x ∷ xs) h = (f x h.0, all_more P Q f xs h.1)

distinct : (xs : List ℕ) → IsApart xs → IsDistinct eqb xs
unfolding IsDistinct
distinct [] h = tt
distinct (x ∷ xs) h = (all_more (λ j. j ≢ x) (λ y. eqb x y ≡ false) (λ j n. other_test (eqb x j) (λ t. n (sym (eqb→eq x j (subst T (sym t) tt))))) xs h.0, distinct xs h.1)

one_of : (b c : Bool) → (b || c) ≡ true → (b ≡ true) ⊎ (c ≡ true)
one_of true c e = inl refl
one_of false c e = inr e

any_below : (n : ℕ) (xs : List ℕ) → AllByRecursion (λ i. i < n) xs → (q : ℕ) → list_any (eqb q) xs ≡ true → q < n
any_below n [] h q e = cc
any_below n (x ∷ xs) h q e = elim (one_of (eqb q x) (list_any (eqb q) xs) e) [
  | inl t ↦ subst (λ (y : ℕ). y < n) (sym (eqb→eq q x (subst T (sym t) tt))) h.0
  | inr r ↦ any_below n xs h.1 q r
]

pub has_place : (n t : ℕ) (q : List ℕ) → IsKept n q → t < n → AllByRecursion (λ u. u ≢ t) q → length q + 1 ≤ n
has_place n t q k lt away = rw add-one (length-le_from_distinct_below (t ∷ q) n (distinct (t ∷ q) (away, k.apart)) (any_below n (t ∷ q) (lt, k.below)))

-- ---- what a queue keeps
apart_push : (q : List ℕ) (t : ℕ) → IsApart q → AllByRecursion (λ u. u ≢ t) q → IsApart (q ++ t ∷ [])
apart_push [] t a n = (tt, tt)
apart_push (x ∷ q) t a n = (all_push (λ u. u ≢ x) q t a.0 (λ e. n.0 (sym e)), apart_push q t a.1 n.1)

pub kept_push : (n t : ℕ) (q : List ℕ) → IsKept n q → t < n → AllByRecursion (λ u. u ≢ t) q → IsKept n (q ++ t ∷ [])
kept_push n t q k lt away = record { apart = apart_push q t k.apart away; below = all_push (λ u. u < n) q t k.below lt }

pub kept_rest : (n : ℕ) (q : List ℕ) → IsKept n q → IsKept n (rest_of q)
kept_rest n [] k = k
kept_rest n (t ∷ q) k = record { apart = k.apart.1; below = k.below.1 }

-- ---- whether one of them passes a test
pub any_at : {X : Type 0} (f : X → Bool) (xs : List X) (i : ℕ) (d : X) → i < length xs → f (slice_index_or xs i d) ≡ true → list_any f xs ≡ true
any_at f [] i d lt h = absurd (omega arith)
any_at f (x ∷ xs) zero d lt h = rw h refl
any_at f (x ∷ xs) (suc i) d lt h = ap (λ b. f x || b) (any_at f xs i d (omega arith) h) ∙ or_true (f x)
  where
    or_true : (b : Bool) → (b || true) ≡ true
    or_true true = refl
    or_true false = refl

pub none_at : {X : Type 0} (f : X → Bool) (xs : List X) (d : X) → ((i : ℕ) → i < length xs → f (slice_index_or xs i d) ≡ false) → list_any f xs ≡ false
none_at f [] d h = refl
none_at f (x ∷ xs) d h =
    ap (λ b. b || list_any f xs) (h 0 (omega arith)) ∙ none_at f xs d (λ i lt. h (suc i) (omega arith))

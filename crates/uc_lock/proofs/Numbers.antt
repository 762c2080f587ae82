-- Lists of numbers, no two equal.
use Rattle.std.proofs.Common.{◌≡◌, ◌≢◌, ℕ, zero, suc, ◌<◌, ◌≤◌, List, [], ◌∷◌, map, length, true, false, true≢false, eqb, refl, sym, ap, ◌∙◌, subst, ne_eqb}
use Rattle.std.specs.Prelude.{◌||◌}
use Rattle.std.specs.List.{IsDistinct, AllByRecursion, list_any}
use Rattle.std.proofs.lemmas.Map.Steps.{length-le_from_distinct_below}
use mathlib.Core.Logic.{dite}
use native.Mathlib.Decide.{ℕ_discrete}
use mathlib.Core.Option.{some, some-injective, some-ne-none}
use lib.ListN.{get_elem?}

all_differ : (x : ℕ) (xs : List ℕ) → ((j y : ℕ) → get_elem? xs j ≡ some y → y ≢ x) → AllByRecursion (λ y. eqb x y ≡ false) xs
all_differ x [] h = tt
all_differ x (y ∷ ys) h = (ne_eqb x y (λ e. h 0 y refl (sym e)), all_differ x ys (λ j. h (suc j)))

pub distinct_none : IsDistinct eqb []
unfolding IsDistinct
distinct_none = tt

pub distinct_cons : (x : ℕ) (xs : List ℕ) → ((j y : ℕ) → get_elem? xs j ≡ some y → y ≢ x) → IsDistinct eqb xs → IsDistinct eqb (x ∷ xs)
unfolding IsDistinct
distinct_cons x xs h d = (all_differ x xs h, d)

found_below : (q n : ℕ) (xs : List ℕ) → ((j y : ℕ) → get_elem? xs j ≡ some y → y < n) → list_any (eqb q) xs ≡ true → q < n
found_below q n [] h e = absurd (true≢false (sym e))
found_below q n (x ∷ xs) h e = dite (ℕ_discrete q x)
    (λ is. subst (λ z. z < n) (sym is) (h 0 x refl))
    (λ no. found_below q n xs (λ j. h (suc j)) (ap (λ b. b || list_any (eqb q) xs) (sym (ne_eqb q x no)) ∙ e))

-- numbers below n, no two equal, are at most n
pub crowd : (xs : List ℕ) (n : ℕ) → IsDistinct eqb xs → ((j y : ℕ) → get_elem? xs j ≡ some y → y < n) → length xs ≤ n
crowd xs n d h = length-le_from_distinct_below xs n d (λ q e. found_below q n xs h e)

pub at_unmapped : {A : Type 0} (f : A → ℕ) (xs : List A) (j y : ℕ) → get_elem? (map f xs) j ≡ some y → (a : A) × (get_elem? xs j ≡ some a) × (f a ≡ y)
at_unmapped f [] j y e = absurd (some-ne-none y (sym e))
at_unmapped f (x ∷ xs) zero y e = (x, refl, some-injective (f x) y e)
at_unmapped f (x ∷ xs) (suc j) y e = at_unmapped f xs j y e

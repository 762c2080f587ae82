-- All names of a list are noted.
use Rattle.std.proofs.Common.{◌≡◌, ℕ, zero, suc, ◌≤◌, List, [], ◌∷◌, Bool, true, false, ◌||◌, length, drop, refl, ap, sym, ◌∙◌, arith}
use Rattle.std.specs.List.{list_any}
use Rattle.uc_tree.specs.Names.{same_name}

or_false : (b : Bool) → b || false ≡ b
or_false true = refl
or_false false = refl

drop_all : {A : Type 0} (xs : List A) (i : ℕ) → length xs ≤ i → drop i xs ≡ []
drop_all [] zero h = refl
drop_all [] (suc i) h = refl
drop_all (x ∷ xs) zero h = absurd (omega (arith, h))
drop_all (x ∷ xs) (suc i) h = let k : length xs ≤ i = omega (arith, h) in drop_all xs i k

pub all_noted : {A : Type 0} (f : A → List ℕ) (xs : List A) (i : ℕ) (name : List ℕ) (b : Bool) → length xs ≤ i → (b || list_any (λ y. same_name (f y) name) (drop i xs)) ≡ list_any (λ y. same_name (f y) name) xs → b ≡ list_any (λ y. same_name (f y) name) xs
all_noted f xs i name b h inv =
    sym (or_false b) ∙ ap (λ l. b || list_any (λ y. same_name (f y) name) l) (sym (drop_all xs i h)) ∙ inv

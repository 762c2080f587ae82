-- Lists that were lent whole.
use Rattle.std.proofs.Common.{◌≡◌, ℕ, zero, suc, ◌≤◌, ◌<◌, List, [], ◌∷◌, ◌++◌, length, take, drop, map, get_or, refl, ap, arith}

none_left : {A : Type 0} (ys : List A) (n : ℕ) → length ys ≤ n → drop n ys ≡ []
none_left [] zero h = refl
none_left [] (suc n) h = refl
none_left (y ∷ ys) zero h = absurd (omega arith)
none_left (y ∷ ys) (suc n) h = none_left ys n (omega arith)

all_of : {A : Type 0} (xs ys : List A) (n : ℕ) → n ≡ length xs → ys ≡ [] → take n (xs ++ ys) ≡ xs
all_of [] ys zero h e = ap (λ l. take 0 l) e
all_of [] ys (suc n) h e = absurd (omega arith)
all_of (x ∷ xs) ys zero h e = absurd (omega arith)
all_of (x ∷ xs) ys (suc n) h e = ap (λ l. x ∷ l) (all_of xs ys n (omega arith) e)

pub whole_again : {A : Type 0} (xs ys : List A) (n : ℕ) → length xs ≡ length ys → n ≡ length ys → take n (xs ++ drop (length xs) ys) ≡ xs
whole_again xs ys n h e = all_of xs (drop (length xs) ys) n (omega arith) (none_left ys (length xs) (omega arith))

-- what an index inside a list gives, whatever stands beyond
pub at_any : {A : Type 0} (xs : List A) (i : ℕ) (d e : A) → i < length xs → get_or xs i d ≡ get_or xs i e
at_any [] i d e h = absurd (omega arith)
at_any (x ∷ xs) zero d e h = refl
at_any (x ∷ xs) (suc i) d e h = at_any xs i d e (omega arith)

pub map_length : {A B : Type 0} (f : A → B) (xs : List A) → length (map f xs) ≡ length xs
map_length f [] = refl
map_length f (x ∷ xs) = omega (arith, map_length f xs)

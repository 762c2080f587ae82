-- The value of digits grows with each of them.
use Rattle.std.proofs.Common.{◌≡◌, ℕ, suc, ◌<◌, ◌≤◌, List, [], ◌∷◌, length, get_or, drop, ap, arith, drop-cons}
use Rattle.std.specs.Prelude.{fold}
use Rattle.uc_tree.specs.Tokens.{with_digit}

pub fold-with_digit-grows : (value : ℕ) (digits : List ℕ) → value ≤ fold with_digit value digits
fold-with_digit-grows value [] = omega arith
fold-with_digit-grows value (digit ∷ digits) = omega (arith, fold-with_digit-grows (with_digit value digit) digits)

pub fold-drop : {A B : Type 0} (f : B → A → B) (a : B) (xs : List A) (i : ℕ) (d : A) → i < length xs → fold f a (drop i xs) ≡ fold f (f a (get_or xs i d)) (drop (suc i) xs)
fold-drop f a xs i d h = ap (fold f a) (drop-cons xs i d h)

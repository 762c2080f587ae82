-- Lists of what has numbers, and events by their numbers as bits.
use Rattle.std.specs.Prelude.{ℕ, ℤ, pos, neg_ℤ, ◌-◌, ◌^◌, Bool, List, [], ◌∷◌, Option, Some, None, nat_eq, nat_lt, if◌then◌else◌}

-- what stands under a number
abbrev pub find : {X : Type 0} → ℕ → List (ℕ × X) → Option X
find k [] = None
find k (p ∷ ps) = if nat_eq p.0 k then Some p.1 else find k ps

-- a 64-bit pattern as a number with a sign
abbrev pub signed_64 : ℕ → ℤ
signed_64 n = if nat_lt n (2 ^ 63) then pos n else neg_ℤ (pos (2 ^ 64 - n))

-- without the first that passes a test
abbrev pub drop_first : {A : Type 0} → (A → Bool) → List A → List A
drop_first p [] = []
drop_first p (x ∷ xs) = if p x then xs else x ∷ drop_first p xs

-- Things by their numbers.
use Rattle.std.specs.Prelude.{ℕ, ◌==◌, List, [], ◌∷◌, Option, Some, None, not}
use Rattle.std.specs.List.{filter}

-- the numbers, in their order
abbrev pub keys : {X : Type 0} → List (ℕ × X) → List ℕ
keys [] = []
keys (p ∷ ps) = p.0 ∷ keys ps

-- the first, or else the second
abbrev pub or_else : {X : Type 0} → Option X → Option X → Option X
or_else (Some x) y = Some x
or_else None y = y

-- a numbered thing in front of others, if it is there
abbrev pub added : {X : Type 0} → ℕ → Option X → List (ℕ × X) → List (ℕ × X)
added n None ps = ps
added n (Some x) ps = (n, x) ∷ ps

-- what is there under these numbers, in their order
abbrev pub gathered : {X : Type 0} → List ℕ → (ℕ → Option X) → List (ℕ × X)
gathered [] f = []
gathered (n ∷ ns) f = added n (f n) (gathered ns f)

-- the others
abbrev pub without : {X : Type 0} → ℕ → List (ℕ × X) → List (ℕ × X)
without n ps = filter (λ p. not (p.0 == n)) ps

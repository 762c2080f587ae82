-- What the clauses of an accept statement offer under a mask, and which of those who wait meets them.
use Rattle.std.specs.Prelude.{ℕ, ◌==◌, ◌+◌, ◌/◌, ◌%◌, ◌^◌, Bool, List, [], ◌∷◌, ◌++◌, Option, Some, None, map, if◌then◌else◌}

-- whether a mask has bit i
abbrev pub has_bit : ℕ → ℕ → Bool
has_bit i mask = ((mask / 2 ^ i) % 2) == 1

-- the members that the true clauses list, each behind its clause, in textual order; clauses count from 1, bits from 0
abbrev pub offers_from : ℕ → ℕ → List (List ℕ) → List (ℕ × ℕ)
offers_from i mask [] = []
offers_from i mask (c ∷ cs) =
    (if has_bit i mask then map (λ m. (i + 1, m)) c else []) ++ offers_from (i + 1) mask cs

-- the first clause that lists a member
abbrev pub clause_for : List (ℕ × ℕ) → ℕ → Option ℕ
clause_for [] m = None
clause_for (x ∷ xs) m = if x.1 == m then Some x.0 else clause_for xs m

abbrev pub or_0 : Option ℕ → ℕ
or_0 None = 0
or_0 (Some n) = n

-- the oldest caller of a member
abbrev pub oldest : ℕ → List (ℕ × ℕ) → Option ℕ
oldest m [] = None
oldest m (w ∷ ws) = if w.1 == m then Some w.0 else oldest m ws

-- a caller whom an accept takes, with the clause and the member
pub record Met : Type 0 where
  pub clause : ℕ
  pub member : ℕ
  pub task : ℕ

abbrev pub met_or : ℕ × ℕ → Option ℕ → Option Met → Option Met
met_or x None later = later
met_or x (Some t) later = Some (record { clause = x.0; member = x.1; task = t })

-- of the members offered, in their order, the first that has a caller, and its oldest
abbrev pub met : List (ℕ × ℕ) → List (ℕ × ℕ) → Option Met
met [] ws = None
met (x ∷ xs) ws = met_or x (oldest x.1 ws) (met xs ws)

-- What a loop that adds up sizes keeps.
use Rattle.std.proofs.Common.{◌≡◌, ℕ, ◌≤◌, ◌<◌, ◌+◌, ◌^◌}
use Rattle.uc_tree.specs.Capped.{capped}

-- `size` is counted so far of the whole, and the rest is still to count
abbrev pub Counting : (size rest whole : ℕ) → Type 0
Counting size rest whole = (rest ≤ whole) × (size < 2 ^ 64) × (capped (size + rest) ≡ capped whole)

-- the same where the declarators in scope grow: `inside` and what is still to count fit
abbrev pub Within : (inside rest whole : ℕ) → Type 0
Within inside rest whole = (rest ≤ whole) × (inside + rest < 2 ^ 64)

-- Counts of faults.
use Rattle.std.specs.Prelude.{ℕ, ◌+◌, ◌≤◌, min}

-- the largest number that a count of faults can tell, the largest `u64`
abbrev pub count_limit : ℕ
count_limit = 18446744073709551615

-- the count rose, or stands at the largest number, where it stays
abbrev pub CountRose : ℕ → ℕ → Type 0
CountRose before now = min (before + 1) count_limit ≤ now

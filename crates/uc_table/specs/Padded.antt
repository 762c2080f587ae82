-- A list with more of one value behind it.
use Rattle.std.specs.Prelude.{ℕ, ◌-◌, List, ◌++◌, length, replicate}

-- so many in all
abbrev pub padded : {A : Type 0} → ℕ → A → List A → List A
padded n blank xs = xs ++ replicate (n - length xs) blank

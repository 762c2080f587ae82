-- The commands that have a file alone.
use Rattle.std.specs.Prelude.{◌≡◌, ℕ, ◌⊎◌, List, codes}

abbrev pub IsFileCommand : List ℕ → Type 0
IsFileCommand command = (command ≡ codes "check") ⊎ (command ≡ codes "lower")

-- In code of programs what is built, destroyed and bound stands where its routine has it.
use Rattle.std.specs.Prelude.{◌≡◌, ℕ, Bool, [], Option}
use Rattle.uc_tree.specs.Programs.{Program}
use Rattle.uc_rules.specs.Breaks.{breaks_of}
use Rattle.uc_sound.specs.SoundFormed.{IsFormed}
use Rattle.uc_life_laws.specs.Things.{Few}
use Rattle.uc_cell_laws.specs.Sites.{SitedSource}
use Rattle.uc_cell_laws.specs.OwnCells.{telling_by}

-- so it is in the source of every program that breaks no rule
abbrev pub LawSited : Type 0
LawSited = (p : Program) → IsFormed p → breaks_of p ≡ [] → (few : Few) (class : ℕ → Option ℕ) (naming : Bool) → SitedSource (telling_by p few class naming)

-- Where homes are told, and all is known.
use Rattle.std.specs.Prelude.{ℕ}
use Rattle.uc_tree.specs.Programs.{Program}
use Rattle.uc_machine.specs.Pieces.{State}
use Rattle.uc_sound.specs.Tables.{table_of}
use Rattle.uc_life_laws.specs.Things.{Few}
use Rattle.uc_homed_ends.specs.HomesLeft.{KnowsReads, Told}

-- of the first so many objects it is told where they are at home, and all is known, also what the step reads
abbrev pub KnowsHomes : Program → Few → ℕ → State → Type 0
KnowsHomes p few many s = Told p few many s × KnowsReads (table_of p) few s

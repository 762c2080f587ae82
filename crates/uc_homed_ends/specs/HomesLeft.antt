-- What is told of homes, and what is known, from which all is found that is to be found of them.
use Rattle.std.specs.Prelude.{ℕ, []}
use Rattle.uc_tree.specs.Programs.{Program}
use Rattle.uc_machine.specs.Pieces.{State}
use Rattle.uc_resolve.specs.Resolve.{source_of}
use Rattle.uc_typing.specs.Typing.{Table}
use Rattle.uc_sound.specs.Tables.{table_of}
use Rattle.uc_life_laws.specs.Things.{Few}
use Rattle.uc_life_laws.specs.HomedStates.{Opens}
use Rattle.uc_life_laws.specs.Knowing.{KnowsState, Finds}
use Rattle.uc_life_laws.specs.MadeObjects.{Binds}
use Rattle.uc_homed_ends.specs.Elements.{no_fields}

-- all is known by some typing, by which the step finds what it reads
abbrev pub KnowsReads : Table → Few → State → Type 0
KnowsReads t few s = (x : KnowsState t few [] s) × Finds t few x.sigs x.run.sig x.run.scope s s.run.control x.run.own

-- a made object, one of the first so many, is bound at home, and scopes open where the mutex objects that they are of are at home
abbrev pub Told : Program → Few → ℕ → State → Type 0
Told p few many s = Binds (source_of p) few.home many s × Opens (table_of p) no_fields few s

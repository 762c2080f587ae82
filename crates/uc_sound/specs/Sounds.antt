-- The resolved tree of every accepted program is sound: each of its routines is in order under its signature.
use Rattle.std.specs.Prelude.{◌≡◌, ℕ, [], true, Some}
use Rattle.uc_tree.specs.Objects.{class_at}
use Rattle.uc_tree.specs.ProgramMain.{main_number}
use Rattle.uc_tree.specs.Programs.{Class, Program}
use Rattle.uc_resolve.specs.Resolve.{source_of, main_at}
use Rattle.uc_rules.specs.Sorts.{is_task}
use Rattle.uc_rules.specs.Breaks.{breaks_of}
use Rattle.uc_tree.specs.Source.{routine_of}
use Rattle.uc_machine.specs.Quiet.{State, first_state}
use Rattle.uc_typing.specs.States.{Sound, Typed, IsTask}
use Rattle.uc_typing.specs.Laws.{GoesOn, ReadsIn}
use Rattle.uc_sound.specs.SoundFormed.{IsFormed}
use Rattle.uc_sound.specs.Tables.{table_of}

abbrev pub LawSound : Type 0
LawSound = (p : Program) → IsFormed p → breaks_of p ≡ [] → Sound (table_of p) (source_of p)

-- All that a task of an accepted program reaches from the start of its main is in order, whatever it is answered, as far as what is
-- read of bindings is of its type.
abbrev pub LawRuns : Type 0
LawRuns = (p : Program) → IsFormed p → breaks_of p ≡ [] → (r o : ℕ) → IsTask (table_of p) r →
    ((u : State) → GoesOn (table_of p) (source_of p) (first_state (routine_of (source_of p) r) o) u → ReadsIn (table_of p) u) →
    (u : State) → GoesOn (table_of p) (source_of p) (first_state (routine_of (source_of p) r) o) u →
    Typed (table_of p) [] u

-- a task begins with the program's main, or with that of a task class
pub data BeginsTask (p : Program) (r : ℕ) : Type 0 where
  of_program : r ≡ main_number p → BeginsTask p r
  of_class : (i : ℕ) (c : Class) → class_at p i ≡ Some c → is_task c.kind ≡ true → r ≡ main_at p i →
      BeginsTask p r

-- These mains are there, have no parameters, and are at no object, or at one of a mutex class.
abbrev pub LawMains : Type 0
LawMains = (p : Program) → IsFormed p → breaks_of p ≡ [] → (r : ℕ) → BeginsTask p r → IsTask (table_of p) r

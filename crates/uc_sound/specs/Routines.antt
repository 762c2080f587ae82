-- The routines of a program that breaks no rule are in order under their signatures.
use Rattle.std.specs.Prelude.{◌≡◌, ℕ, ◌-◌, length, slice_get, Bool, false, Option, Some, None}
use Rattle.uc_tree.specs.Numbering.{Defined, routines_of}
use Rattle.uc_tree.specs.Objects.{is_constructor, Unwritten, unwritten_of}
use Rattle.uc_tree.specs.Programs.{Program}
use Rattle.uc_tree.specs.Source.{Routine}
use Rattle.uc_resolve.specs.Resolve.{source_of}
use Rattle.uc_rules.specs.ProgramVisits.{program_visits}
use Rattle.uc_typing.specs.States.{Routine_is}
use Rattle.uc_sound.specs.Unbroken.{Unbroken}
use Rattle.uc_sound.specs.SoundFormed.{IsFormed}
use Rattle.uc_sound.specs.Tables.{table_of}

-- whether the routine with a number is a constructor, written or not
abbrev pub unwritten_builds : Option Unwritten → Bool
unwritten_builds None = false
unwritten_builds (Some u) = is_constructor u.role

abbrev pub builds_by : Program → ℕ → Option Defined → Bool
builds_by p n (Some d) = is_constructor d.routine.sig.role
builds_by p n None = unwritten_builds (slice_get (unwritten_of p) (n - length (routines_of p)))

abbrev pub builds : Program → ℕ → Bool
builds p n = builds_by p n (slice_get (routines_of p) n)

-- the table tells how many routines there are, and each that is no constructor is in order
pub record AreInOrder (p : Program) : Type 0 where
  pub count : length (source_of p).routines ≡ (table_of p).count
  pub routines : (n : ℕ) (r : Routine) → slice_get (source_of p).routines n ≡ Some r → builds p n ≡ false → Routine_is (table_of p) ((table_of p).routine n) r

abbrev pub LawRoutines : Type 0
LawRoutines = (p : Program) → IsFormed p → Unbroken (program_visits p) → AreInOrder p

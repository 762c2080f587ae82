-- What is known of the names of a program.
use Rattle.std.specs.Prelude.{◌≡◌, ℕ, zero, suc, List, [], ◌∷◌, ◌++◌, Bool, Option, Some, None, length, slice_get, true, false}
use Rattle.uc_names.specs.Blocks.{Block, found}
use Rattle.uc_tree.specs.Programs.{Class, Program}
use Rattle.uc_tree.specs.Cells.{classes_of}
use Rattle.uc_layout.specs.Places.{IsPlaces}
use Rattle.uc_tree.specs.Numbering.{Defined, event_names, is_event, routines_of}
use Rattle.uc_tree.specs.Objects.{class_at, number_at}
use Rattle.uc_resolve.specs.Resolve.{routine_from}
use Rattle.uc_lower_expr.specs.Events.{AreBuilders}
use Rattle.uc_lower_expr.specs.Numbered.{AreAmong, IsNumbering}
use Rattle.uc_lower_expr.specs.Members.{AreByNumber, AreFields, AreRoutines, AreTables, FitClasses, object_places}
use Rattle.uc_lower_expr.specs.declared.fields.FieldTable.{FieldTable}
use Rattle.uc_lower_expr.specs.declared.numbering.ClassRoutine.{ClassRoutine}
use Rattle.uc_lower_expr.specs.declared.numbering.Numbering.{Numbering}
use Rattle.uc_lower_expr.specs.declared.routine_table.RoutineTable.{RoutineTable}

pub record AreKnown (p : Program) (n : Numbering) (alone : List Block) (objects : List ℕ) (fields : List FieldTable) (routines : List RoutineTable) (events builders : List Block) : Type 0 where
  pub fit : FitClasses p
  pub numbering : IsNumbering p n
  pub alone_are : (name : List ℕ) → found alone name ≡ routine_from (routines_of p) 0 name
  pub objects_are : objects ≡ object_places (classes_of p.items) 0
  pub fields_are : AreTables p fields
  pub routines_are : AreByNumber p routines
  pub events_are : IsPlaces (event_names (classes_of p.items)) events
  pub builders_are : AreBuilders (routines_of p) builders

-- what is known of these routines, where so many numbers of classes are told apart
pub record KnowsRoutines (ds : List Defined) (count : ℕ) (alone : List Block) (tables : List RoutineTable) (builders : List Block) : Type 0 where
  pub alone_are : AreAmong ds alone
  pub long : length tables ≡ count
  pub each : (number : ℕ) (t : RoutineTable) → slice_get tables number ≡ Some t → AreRoutines ds number t
  pub builders_are : AreBuilders ds builders

-- the fields of the class c with this place behind those of the classes before it
pub record NotesFields (p : Program) (place : ℕ) (c : Class) (old new : List FieldTable) : Type 0 where
  pub table : FieldTable
  pub is : new ≡ old ++ table ∷ []
  pub fields : AreFields p place c table

abbrev pub is_event_in : Option Class → Bool
is_event_in None = false
is_event_in (Some c) = is_event c.kind

-- a table of the routines of the class with the place i
pub record HasRoutines (p : Program) (i : ℕ) (t : RoutineTable) : Type 0 where
  pub class : Class
  pub there : class_at p i ≡ Some class
  pub routines : AreRoutines (routines_of p) (number_at p i) t

-- the place of the class of a number among those of the classes that are no events
abbrev pub place_among : List ℕ → ℕ → Option ℕ
place_among places zero = None
place_among places (suc n) = slice_get places n

abbrev pub routine_or : Option ℕ → ℕ → ClassRoutine
routine_or None unwritten = record { number = unwritten; written = false }
routine_or (Some r) unwritten = record { number = r; written = true }

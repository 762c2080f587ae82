-- The table of a program tells its routines, its classes and their members, and what builds and destroys their objects.
use Rattle.std.specs.Prelude.{◌≡◌, ℕ, List, [], true, false, map, Some, None}
use Rattle.uc_tree.specs.declared.kinds.Base.{Base}
use Rattle.uc_tree.specs.declared.kinds.Base.TheVariants as base
use Rattle.uc_tree.specs.declared.kinds.Param.{Param}
use Rattle.uc_tree.specs.declared.kinds.Role.{Role}
use Rattle.uc_tree.specs.declared.kinds.Role.TheVariants as role
use Rattle.uc_tree.specs.declared.kinds.Kind.TheVariants as kind
use Rattle.uc_tree.specs.Numbering.{is_event, is_given, is_plain, routines_of}
use Rattle.uc_rules.specs.declared.rules.Sort.{Sort}
use Rattle.uc_rules.specs.declared.rules.Sort.TheVariants as sort
use Rattle.uc_rules.specs.Sorts.{class_named, sort_of}
use Rattle.uc_tree.specs.Objects.{class_at, number_at, member_from, written_at, unwritten_number, event_place, base_shape}
use Rattle.uc_tree.specs.Programs.{Sig as Declared, Class, Program}
use Rattle.uc_resolve.specs.Standings.{params_of}
use Rattle.uc_resolve.specs.Resolve.{event_constructor}
use Rattle.uc_rules.specs.Names.{method_sig, constructor_params}
use Rattle.uc_rules.specs.ProgramVisits.{program_visits}
use Rattle.uc_typing.specs.Typing.{Obj, Apart, Table, IsBare, IsKept, IsRoutine}
use Rattle.uc_sound.specs.Agreement.{place_ty, param_ty, AreLike}
use Rattle.uc_sound.specs.Fields.{TellsClass}
use Rattle.uc_sound.specs.ItemNames.{TellsRoutines}
use Rattle.uc_sound.specs.Unbroken.{Unbroken}
use Rattle.uc_sound.specs.SoundFormed.{IsFormed}
use Rattle.uc_sound.specs.Tables.{role_inward, inward_at, table_of}

-- the routine with this number is at an object of the class i, whole or not, and has parameters like these
pub record IsOfClass (t : Table) (p : Program) (i : ℕ) (xs : List Param) (r : ℕ) : Type 0 where
  pub params : AreLike p xs (params_of p r)
  pub table : map (param_ty p) (params_of p r) ≡ (t.routine r).params
  pub this : (t.routine r).this ≡ Some i
  pub known : IsRoutine t r

-- a member of a class, by its place j: the number of the routine that its name finds
pub record TellsMember (t : Table) (p : Program) (i j : ℕ) (sig : Declared) : Type 0 where
  pub number : ℕ
  pub found : member_from (routines_of p) 0 (number_at p i) sig.name ≡ Some number
  pub routine : IsOfClass t p i sig.params number
  pub plain : (t.routine number).whole ≡ false
  pub inward : (t.routine number).inward ≡ inward_at p (Some i) sig.role sig.name

-- what a constructor or destructor takes, and nothing else does
abbrev pub role_params : Program → ℕ → Role → List Param
role_params p i role.Plain = []
role_params p i role.Constructor = constructor_params p i
role_params p i role.Destructor = []

-- what builds or destroys the objects of a class: the routine that is written, or the one that nobody wrote
pub record TellsMaker (t : Table) (p : Program) (i : ℕ) (wanted : Role) : Type 0 where
  pub written : (r : ℕ) → written_at p i wanted ≡ Some r → IsOfClass t p i (role_params p i wanted) r
  pub written_whole : (r : ℕ) → written_at p i wanted ≡ Some r → (t.routine r).whole ≡ true
  pub unwritten_this : written_at p i wanted ≡ None → (t.routine (unwritten_number p i wanted)).this ≡ Some i
  pub unwritten_params : written_at p i wanted ≡ None → [] ≡ (t.routine (unwritten_number p i wanted)).params
  pub unwritten_known : written_at p i wanted ≡ None → IsRoutine t (unwritten_number p i wanted)
  pub unwritten_whole : written_at p i wanted ≡ None → (t.routine (unwritten_number p i wanted)).whole ≡ true
  pub written_inward : (r : ℕ) → written_at p i wanted ≡ Some r →
      (t.routine r).inward ≡ role_inward wanted (t.mutex i)
  pub unwritten_inward : written_at p i wanted ≡ None →
      (t.routine (unwritten_number p i wanted)).inward ≡ role_inward wanted (t.mutex i)

pub record Told (t : Table) (p : Program) : Type 0 where
  pub numbers : (i : ℕ) → t.number i ≡ number_at p i
  -- an element is kept as its class is; an event has scalars alone
  pub shapes : (b : Base) (s : Sort) → sort_of p b ≡ Some s → IsKept t (base_shape p b) (place_ty s)
  pub bare : (i : ℕ) (c : Class) → class_at p i ≡ Some c → is_event c.kind ≡ true → IsBare t (Obj i)
  pub routines : TellsRoutines t p
  pub classes : (i : ℕ) (c : Class) → class_at p i ≡ Some c → TellsClass t p i c
  pub members : (i j : ℕ) (c : Class) (sig : Declared) → class_at p i ≡ Some c →
      method_sig p i j ≡ Some sig → is_plain sig.role ≡ true → TellsMember t p i j sig
  pub makers : (i : ℕ) (c : Class) (wanted : Role) → class_at p i ≡ Some c → is_event c.kind ≡ false →
      is_plain wanted ≡ false → TellsMaker t p i wanted
  -- what builds an event
  pub events : (i r : ℕ) (name : List ℕ) → event_place p (base.Named name) ≡ Some i →
      event_constructor p name ≡ Some r → IsOfClass t p i (constructor_params p i) r
  pub raised : (r : ℕ) (name : List ℕ) → event_constructor p name ≡ Some r →
      (i : ℕ) × (class_named p name ≡ Some (sort.Object i kind.Event)) × (is_given name ≡ false)
  pub events_whole : (i r : ℕ) (name : List ℕ) → event_place p (base.Named name) ≡ Some i →
      event_constructor p name ≡ Some r → (t.routine r).whole ≡ true
  pub events_apart : (i r : ℕ) (name : List ℕ) → event_place p (base.Named name) ≡ Some i →
      event_constructor p name ≡ Some r → (t.routine r).inward ≡ Apart

abbrev pub LawTold : Type 0
LawTold = (p : Program) → IsFormed p → Unbroken (program_visits p) → Told (table_of p) p

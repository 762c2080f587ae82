-- Members of classes: fields with the cells before them, and routines by the numbers of their classes.
use Rattle.std.specs.Prelude.{◌≡◌, ℕ, ℤ, zero, suc, ◌+◌, ◌≤◌, ◌<◌, List, [], ◌∷◌, Bool, true, false, Option, Some, None, option_map, length, map, slice_get, if◌then◌else◌}
use Rattle.uc_names.specs.Blocks.{found}
use Rattle.uc_layout.specs.Places.{IsPlaces}
use Rattle.uc_tree.specs.declared.limits.TheConstants.{CLASS_CELLS}
use Rattle.uc_tree.specs.declared.kinds.Role.{Role}
use Rattle.uc_tree.specs.declared.kinds.Role.TheVariants as role
use Rattle.uc_tree.specs.Programs.{Class, Program}
use Rattle.uc_tree.specs.Rows.{has_itself}
use Rattle.uc_tree.specs.Constants.{constants_of, elements}
use Rattle.uc_tree.specs.Cells.{classes_of, class_cells, rows_of, leading_cells, seen_in}
use Rattle.uc_tree.specs.Numbering.{Defined, is_event, routines_of}
use Rattle.uc_tree.specs.Source.{field_cells}
use Rattle.uc_tree.specs.Objects.{ClassField, making, class_at, fields_of, class_shape, number_at, member_from, role_from, written_at, unwritten_number}
use Rattle.uc_resolve.specs.Resolve.{Meant, Standing, AtPlace, AsNumber, NumberedField, Whose, condition_meant, field_by, field_found, field_named, field_type, has_number}
use Rattle.uc_lower_expr.specs.Meanings.{Tells, making_of}
use Rattle.uc_lower_expr.specs.FieldTables.{condition_by, conditions_by}
use Rattle.uc_lower_expr.specs.declared.making.Made.{Made}
use Rattle.uc_lower_expr.specs.declared.making.Made.TheVariants as made
use Rattle.uc_lower_expr.specs.declared.fields.Field.{Field}
use Rattle.uc_lower_expr.specs.declared.fields.FieldTable.{FieldTable}
use Rattle.uc_lower_expr.specs.declared.routine_table.RoutineTable.{RoutineTable}
use Rattle.uc_lower_expr.specs.declared.numbering.ClassRoutine.{ClassRoutine}

-- no class has itself in its fields, and none has more cells than a class may have
pub record FitClasses (p : Program) : Type 0 where
  pub apart : (i : ℕ) → has_itself (rows_of p) i ≡ false
  pub small : (i : ℕ) → class_cells p i ≤ CLASS_CELLS

-- fields

-- what stands where a field is held, by whether it is known by its number
abbrev pub held_standing : Bool → Standing
held_standing true = AsNumber
held_standing false = AtPlace

-- a field of the class c with the place i, and its number: what its declaration makes, what is told of it as it is held, and the cells
-- before it
pub record IsFieldAt (p : Program) (c : Class) (i number : ℕ) (f : ClassField) (v : Field) : Type 0 where
  pub made : making p f.base ≡ option_map (making_of p) v.made
  pub by_number : has_number p (field_type p c f) ≡ v.number
  pub found : v.condition ≡ None → (whose : Whose) → field_found p c i whose (record { number = number; field = f }) ≡ field_by v.number f.declarator.by_ref (class_shape p i) number whose (field_type p c f)
  pub by_ref : f.declarator.by_ref ≡ v.by_ref
  pub cell : field_cells (class_shape p i) number ≡ v.cell
  pub tells : (m : Meant) → m.ty ≡ field_type p c f → m.standing ≡ held_standing v.number → Tells p v.told m

-- the field of this name in the class with the place i
pub record IsField (p : Program) (i : ℕ) (name : List ℕ) (v : Field) : Type 0 where
  pub class : Class
  pub there : class_at p i ≡ Some class
  pub numbered : NumberedField
  pub is : field_named (leading_cells class.kind) (fields_of class.members) name ≡ Some numbered
  pub at : IsFieldAt p class i numbered.number numbered.field v
  pub condition : (k : ℕ) → v.condition ≡ Some k → (whose : Whose) → field_found p class i whose numbered ≡ condition_meant k (field_type p class numbered.field)

-- the class with the place i has no field of this name
abbrev pub no_field : Program → ℕ → List ℕ → Option Class → Type 0
no_field p i name None = Unit {0}
no_field p i name (Some c) = field_named (leading_cells c.kind) (fields_of c.members) name ≡ None

-- the field with this place among those of the class with the place i
pub record IsNthField (p : Program) (i place : ℕ) (v : Field) : Type 0 where
  pub class : Class
  pub there : class_at p i ≡ Some class
  pub field : ClassField
  pub is : slice_get (fields_of class.members) place ≡ Some field
  pub at : IsFieldAt p class i (leading_cells class.kind + place) field v

abbrev pub no_field_at : ℕ → Option Class → Type 0
no_field_at place None = Unit {0}
no_field_at place (Some c) = slice_get (fields_of c.members) place ≡ None

abbrev pub count_fields : Option Class → ℕ
count_fields None = 0
count_fields (Some c) = length (fields_of c.members)

-- how many conditions are declared before the field with this place
abbrev pub conditions_before : (List ℕ → Option ℤ) → List ClassField → ℕ → ℕ
conditions_before named [] k = 0
conditions_before named (f ∷ fs) zero = 0
conditions_before named (f ∷ fs) (suc k) = conditions_by f.base (elements named f.declarator) + conditions_before named fs k

-- a table of the fields of the class c with the place i
pub record AreFields (p : Program) (i : ℕ) (c : Class) (t : FieldTable) : Type 0 where
  pub named : IsPlaces (map (λ f. f.declarator.name) (fields_of c.members)) t.names
  pub long : length t.fields.items ≡ length (fields_of c.members)
  pub each : (k : ℕ) (f : ClassField) (v : Field) → slice_get (fields_of c.members) k ≡ Some f → slice_get t.fields.items k ≡ Some v → IsFieldAt p c i (leading_cells c.kind + k) f v
  pub counted : (k : ℕ) (f : ClassField) (v : Field) → slice_get (fields_of c.members) k ≡ Some f → slice_get t.fields.items k ≡ Some v → v.condition ≡ condition_by f.base (conditions_before (seen_in (constants_of p.items) c) (fields_of c.members) k)

-- tables by the places of classes
pub record AreTables (p : Program) (tables : List FieldTable) : Type 0 where
  pub long : length tables ≡ length (classes_of p.items)
  pub each : (i : ℕ) (c : Class) (t : FieldTable) → class_at p i ≡ Some c → slice_get tables i ≡ Some t → AreFields p i c t

-- routines of classes

-- those of these routines that are of the class of this number
pub record AreRoutines (ds : List Defined) (number : ℕ) (t : RoutineTable) : Type 0 where
  pub one : length t.members ≡ 1
  pub members : (name : List ℕ) → found t.members name ≡ member_from ds 0 number name
  pub builds : t.built_by ≡ role_from ds 0 number role.Constructor
  pub destroys : t.destroyed_by ≡ role_from ds 0 number role.Destructor

-- the member of this name of the class with the place i; an event has none but its fields
abbrev pub member_at : Program → ℕ → List ℕ → Option Class → Option ℕ
member_at p i name None = None
member_at p i name (Some c) = if is_event c.kind then None else member_from (routines_of p) 0 (number_at p i) name

-- by the numbers of classes, 0 included
pub record AreByNumber (p : Program) (tables : List RoutineTable) : Type 0 where
  pub long : length (classes_of p.items) < length tables
  pub each : (number : ℕ) (t : RoutineTable) → slice_get tables number ≡ Some t → AreRoutines (routines_of p) number t

-- the places of the classes that are no events; the first of the list has the place i
abbrev pub object_places : List Class → ℕ → List ℕ
object_places [] i = []
object_places (c ∷ cs) i = if is_event c.kind then object_places cs (i + 1) else i ∷ object_places cs (i + 1)

-- what builds or destroys the objects of the class with the place i
abbrev pub routine_by : Program → ℕ → Role → Option ℕ → ClassRoutine
routine_by p i wanted None = record { number = unwritten_number p i wanted; written = false }
routine_by p i wanted (Some r) = record { number = r; written = true }

abbrev pub routine_for : Program → ℕ → Role → ClassRoutine
routine_for p i wanted = routine_by p i wanted (written_at p i wanted)

-- what is made: an object has a class of the program; what builds or destroys it, which for a cluster and a processor is no routine

abbrev pub HasClass : Program → Made → Type 0
HasClass p (made.Object i) = i < length (classes_of p.items)
HasClass p made.Cluster = Unit {0}
HasClass p made.Processor = Unit {0}

abbrev pub no_routine : ClassRoutine
no_routine = record { number = 0; written = true }

abbrev pub made_routine : Program → Role → Made → ClassRoutine
made_routine p wanted (made.Object i) = routine_for p i wanted
made_routine p wanted made.Cluster = no_routine
made_routine p wanted made.Processor = no_routine

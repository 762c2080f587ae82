-- What noting the fields of a class does to their table.
use Rattle.std.specs.Prelude.{◌≡◌, ℕ, ◌+◌, List, [], ◌∷◌, ◌++◌, Bool, false, Option, Some, None, get_or, length, map, option_map, unwrap_or}
use Rattle.uc_layout.specs.Places.{IsPlaces}
use Rattle.uc_tree.specs.declared.limits.TheConstants.{LAST_CONDITION}
use Rattle.uc_tree.specs.declared.kinds.Base.{Base}
use Rattle.uc_tree.specs.declared.kinds.Base.TheVariants as base
use Rattle.uc_tree.specs.declared.rows.FieldLayout.{FieldLayout}
use Rattle.uc_tree.specs.Numbering.{at_most}
use Rattle.uc_tree.specs.Capped.{capped}
use Rattle.uc_tree.specs.Expressions.{Expr}
use Rattle.uc_tree.specs.Programs.{Program}
use Rattle.uc_tree.specs.Rows.{held_cells}
use Rattle.uc_tree.specs.Cells.{class_cells}
use Rattle.uc_tree.specs.Objects.{ClassField, making, class_made, is_numbered, shape_of, event_place}
use Rattle.uc_lower_expr.specs.Meanings.{held_as, making_of, shape_as}
use Rattle.uc_lower_expr.specs.declared.fields.Field.{Field}
use Rattle.uc_lower_expr.specs.declared.fields.FieldTable.{FieldTable}

abbrev pub one_scalar : FieldLayout
one_scalar = record { count = 1; object = None }

abbrev pub length_by : Option Expr → ℕ → Option ℕ
length_by None count = None
length_by (Some e) count = Some count

-- whether a field is known by its number, where what its base names is
abbrev pub is_number : Option Expr → Bool → Bool
is_number None numbered = numbered
is_number (Some e) numbered = false

-- the number of the condition behind so many
abbrev pub number_by : ℕ → ℕ
number_by count = unwrap_or (at_most LAST_CONDITION count) 0

-- the number of a field that is a condition, or of the first of its array, behind so many
abbrev pub condition_by : Base → ℕ → Option ℕ
condition_by base.Condition count = Some (number_by count)
condition_by base.Void count = None
condition_by base.Int count = None
condition_by base.Char count = None
condition_by base.Bool count = None
condition_by base.Cluster count = None
condition_by base.Processor count = None
condition_by (base.Named name) count = None

-- how many conditions so many elements of a base are
abbrev pub conditions_by : Base → ℕ → ℕ
conditions_by base.Condition elements = elements
conditions_by base.Void elements = 0
conditions_by base.Int elements = 0
conditions_by base.Char elements = 0
conditions_by base.Bool elements = 0
conditions_by base.Cluster elements = 0
conditions_by base.Processor elements = 0
conditions_by (base.Named name) elements = 0

-- a field behind so many cells, which holds this
pub record IsNoted (p : Program) (cells : ℕ) (h : FieldLayout) (f : ClassField) (v : Field) : Type 0 where
  pub cell : v.cell ≡ cells
  pub by_ref : f.declarator.by_ref ≡ v.by_ref
  pub shape : shape_of f.base ≡ shape_as v.told.scalar
  pub made : making p f.base ≡ option_map (making_of p) v.made
  pub class : class_made (making p f.base) ≡ v.told.class
  pub numbered : is_numbered (making p f.base) ≡ v.told.numbered
  pub event : event_place p f.base ≡ v.told.event
  pub len : v.told.elements ≡ length_by f.declarator.len h.count
  pub number : v.number ≡ is_number f.declarator.len v.told.numbered
  pub standing : v.told.standing ≡ held_as v.number

-- fields, of which the first has this place in its class, behind so many cells; what the fields of the class hold
pub data AreNoted (p : Program) (held : List FieldLayout) : ℕ → ℕ → List ClassField → List Field → ℕ → Type 0 where
  NoMore : (place cells : ℕ) → AreNoted p held place cells [] [] cells
  OneMore : (place cells last : ℕ) (f : ClassField) (v : Field) (fs : List ClassField) (vs : List Field) → IsNoted p cells (get_or held place one_scalar) f v → AreNoted p held (place + 1) (capped (cells + held_cells (class_cells p) (get_or held place one_scalar))) fs vs last → AreNoted p held place cells (f ∷ fs) (v ∷ vs) last

-- fields, of which the first has this place in its class, behind so many conditions
pub data AreCounted (held : List FieldLayout) : ℕ → ℕ → List ClassField → List Field → ℕ → Type 0 where
  NoneCounted : (place count : ℕ) → AreCounted held place count [] [] count
  OneCounted : (place count last : ℕ) (f : ClassField) (v : Field) (fs : List ClassField) (vs : List Field) → v.condition ≡ condition_by f.base count → AreCounted held (place + 1) (capped (count + conditions_by f.base (get_or held place one_scalar).count)) fs vs last → AreCounted held place count (f ∷ fs) (v ∷ vs) last

-- a table has the places of its fields by some names
pub record HasNames (t : FieldTable) : Type 0 where
  pub names : List (List ℕ)
  pub are : IsPlaces names t.names
  pub long : length names ≡ length t.fields.items

-- a table with these fields more
pub record Notes (p : Program) (held : List FieldLayout) (fs : List ClassField) (old new : FieldTable) : Type 0 where
  pub still : HasNames new
  pub named : (names : List (List ℕ)) → length names ≡ length old.fields.items → IsPlaces names old.names → IsPlaces (names ++ map (λ f. f.declarator.name) fs) new.names
  pub more : List Field
  pub fields : new.fields.items ≡ old.fields.items ++ more
  pub noted : AreNoted p held (length old.fields.items) old.cells fs more new.cells
  pub counted : AreCounted held (length old.fields.items) old.conditions fs more new.conditions

-- Fields of objects: where a table tells the classes of a program, both look-ups of a field find the same one, at its place.
use Rattle.std.specs.Prelude.{◌≡◌, ℕ, ◌+◌, List, Bool, true, false, Option, Some, None, slice_get}
use Rattle.uc_tree.specs.Cells.{leading_cells, seen_in}
use Rattle.uc_tree.specs.Constants.{constants_of, elements}
use Rattle.uc_tree.specs.Expressions as expr
use Rattle.uc_tree.specs.Objects.{ClassField, fields_of, class_at, class_shape}
use Rattle.uc_tree.specs.Programs.{Class, Program}
use Rattle.uc_tree.specs.Source.{Expr}
use Rattle.uc_resolve.specs.Standings as tree
use Rattle.uc_rules.specs.declared.rules.Sort.{Sort}
use Rattle.uc_rules.specs.declared.rules.NameMeaning.{NameMeaning}
use Rattle.uc_rules.specs.Sorts.{is_condition, sort_of}
use Rattle.uc_rules.specs.Names.{member_named}
use Rattle.uc_rules.specs.OwnerBreaks.{is_field_origin, names_condition}
use Rattle.uc_typing.specs.Typing.{Ty, Cell, Obj, Row, Name, Sig, Table, IsPlaced, IsInside, Yields}
use Rattle.uc_sound.specs.Agreement.{found_ty, place_ty, AgreesIf}

-- what stands at a field: a reference has a cell for what it is bound to
abbrev pub field_ty : Bool → Option expr.Expr → ℕ → Sort → Ty
field_ty true len n s = Cell (found_ty s)
field_ty false None n s = place_ty s
field_ty false (Some e) n s = Row n (place_ty s)

-- a table tells the class with this place: its shape, and what stands at each of its fields
pub record TellsClass (t : Table) (p : Program) (i : ℕ) (c : Class) : Type 0 where
  pub at : class_at p i ≡ Some c
  pub refers : t.refers ≡ true
  pub shape : t.shape i ≡ class_shape p i
  pub fields : (n : ℕ) (f : ClassField) (s : Sort) → slice_get (fields_of c.members) n ≡ Some f → sort_of p f.base ≡ Some s → t.fields i (leading_cells c.kind + n) ≡ field_ty f.declarator.by_ref f.declarator.len (elements (seen_in (constants_of p.items) c) f.declarator) s
  -- a field is a place, and a reference is no array
  pub placed : (n : ℕ) (f : ClassField) (s : Sort) → slice_get (fields_of c.members) n ≡ Some f → sort_of p f.base ≡ Some s → is_condition s ≡ false → IsPlaced t (place_ty s)
  pub single : (n : ℕ) (f : ClassField) → slice_get (fields_of c.members) n ≡ Some f → f.declarator.by_ref ≡ true → f.declarator.len ≡ None

module _ (t : Table) (g : Sig) (sc : List Name) where
  -- a field that both look-ups find, behind a path and in the class itself
  pub record FieldsAgree (p : Program) (i : ℕ) : Type 0 where
    pub path : (e : Expr) (name : List ℕ) (x : NameMeaning) → Yields t g sc e (Obj i) → t.mutex i ≡ false → member_named p i name ≡ Some x → is_field_origin x.origin ≡ true → names_condition (Some x) ≡ false → AgreesIf t g sc p x.entity (tree.member_meant p i (tree.Of e) name)
    pub own : (name : List ℕ) (x : NameMeaning) → g.this ≡ Some i → (names_condition (Some x) ≡ true → (t.mutex i ≡ true) × IsInside g.inward) → member_named p i name ≡ Some x → is_field_origin x.origin ≡ true → AgreesIf t g sc p x.entity (tree.member_meant p i tree.Own name)

  abbrev pub LawFields : Type 0
  LawFields = (p : Program) (i : ℕ) (c : Class) → TellsClass t p i c → FieldsAgree p i

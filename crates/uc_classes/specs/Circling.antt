-- What is known of a class that is walked: where it stands, which classes have it in their fields, and which fields its
-- constructors bind to fields of the same object.
use Rattle.std.specs.Prelude.{◌≡◌, ℕ, List, Bool, true, false, Some, slice_get}
use Rattle.uc_tree.specs.declared.pos.Pos.{Pos}
use Rattle.uc_tree.specs.declared.kinds.Base.{Base}
use Rattle.uc_tree.specs.Rows.{reaches}
use Rattle.uc_tree.specs.Cells.{rows_of}
use Rattle.uc_tree.specs.Statements.{Declarator}
use Rattle.uc_tree.specs.Programs.{Class, Member, FieldsMember, Program}
use Rattle.uc_rules.specs.declared.rules.OwnClass.{OwnClass}
use Rattle.uc_rules.specs.Sorts.{class_at}
use Rattle.uc_layout.specs.ContainmentProgress.{Reaching}
use Rattle.uc_names.specs.Blocks.{Block}
use Rattle.uc_owner.specs.Bound.{AreBound}

-- a class without circles, or one with the flags of the classes that have it in their fields
abbrev pub Circling : Program → ℕ → Bool → List Bool → Type 0
Circling p class false flags = (steps : ℕ) → reaches steps (rows_of p) class class ≡ false
Circling p class true flags = Reaching (rows_of p) class flags

pub record Walks (p : Program) (home : OwnClass) (class : Class) (circular : Bool) (holders : List Bool) (known : Bool) (bound : List Block) : Type 0 where
  pub at : class_at p home.class ≡ Some class
  pub circle : Circling p home.class circular holders
  pub bound_are : AreBound p class home.class known bound

-- a list of fields of a class, by the place of its member
pub record AreFields (class : Class) (place : ℕ) (b : Base) (ds : List Declarator) : Type 0 where
  pub member : Member
  pub there : slice_get class.members place ≡ Some member
  pub pos : Pos
  pub form : member.form ≡ FieldsMember pos b ds

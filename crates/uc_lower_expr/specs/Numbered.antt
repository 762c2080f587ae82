-- The routines of a program by their numbers, and what names stand for outside of routines.
use Rattle.std.specs.Prelude.{◌≡◌, ℕ, List, Bool, ◌&&◌, Some, length, map, take, unwrap_or, nat_eq, slice_get}
use Rattle.uc_names.specs.Blocks.{Block, found}
use Rattle.uc_layout.specs.Places.{IsPlaces}
use Rattle.uc_tree.specs.declared.limits.TheConstants.{MEMBERS}
use Rattle.uc_tree.specs.declared.kinds.Role.TheVariants as role
use Rattle.uc_tree.specs.Programs.{Sig, Constant, Class, Program}
use Rattle.uc_tree.specs.Constants.{constants_of, constant_named, value_of_name}
use Rattle.uc_tree.specs.Cells.{classes_of}
use Rattle.uc_tree.specs.Numbering.{Defined, is_plain, class_number, mutex_members, routines_of}
use Rattle.uc_tree.specs.Objects.{class_at, unwritten_number}
use Rattle.uc_tree.specs.Source.{Expr}
use Rattle.uc_resolve.specs.Resolve.{is_here, routine_from, scalar, value_meant, value_or_zero}
use Rattle.uc_lower_expr.specs.Meanings.{Tells}
use Rattle.uc_lower_expr.specs.declared.numbering.ConstantMeaning.{ConstantMeaning}
use Rattle.uc_lower_expr.specs.declared.numbering.Numbering.{Numbering}

-- a routine that is called by its name alone: the number of its class is 0
abbrev pub is_called_alone : ℕ → Sig → Bool
is_called_alone number s = nat_eq number 0 && (is_here s.owner && is_plain s.role)

-- a table of those of these routines that are called by their names alone
pub record AreAmong (ds : List Defined) (numbers : List Block) : Type 0 where
  pub one : length numbers ≡ 1
  pub at : (name : List ℕ) → found numbers name ≡ routine_from ds 0 name

-- the number of a class; an event has none, and counts as 0
abbrev pub number_of_class : Program → Class → ℕ
number_of_class p c = unwrap_or (class_number p c.name) 0

-- numbers by the places of classes, those of the constructors and of the destructors that nobody wrote among them
pub record AreUnwritten (p : Program) (constructors destructors : List ℕ) : Type 0 where
  pub builds : (i n : ℕ) → slice_get constructors i ≡ Some n → unwritten_number p i role.Constructor ≡ n
  pub destroys : (i n : ℕ) → slice_get destructors i ≡ Some n → unwritten_number p i role.Destructor ≡ n
  pub builders : length constructors ≡ length (classes_of p.items)
  pub destroyers : length destructors ≡ length (classes_of p.items)

-- the places of the mutex members of classes among those of their class, as far as they have numbers, by the places of the classes
pub record AreExclusive (p : Program) (members : List (List Block)) : Type 0 where
  pub long : length members ≡ length (classes_of p.items)
  pub each : (i : ℕ) (c : Class) (bs : List Block) → class_at p i ≡ Some c → slice_get members i ≡ Some bs → IsPlaces (take MEMBERS (mutex_members c)) bs

-- what is numbered in a program
pub record IsNumbering (p : Program) (n : Numbering) : Type 0 where
  pub routines : map (λ r. r.now) n.routines.items ≡ map (λ d. d.routine) (routines_of p)
  pub owners : n.owners.items ≡ map (λ d. d.number) (routines_of p)
  pub classes : n.classes.items ≡ map (number_of_class p) (classes_of p.items)
  pub unwritten : AreUnwritten p n.constructors.items n.destructors.items
  pub members : AreExclusive p n.members.items

-- the constant of a name, with its value, and what is told of it
pub record IsFixed (p : Program) (name : List ℕ) (v : ConstantMeaning) : Type 0 where
  pub constant : Constant
  pub is : constant_named (constants_of p.items) name ≡ Some constant
  pub value : v.value ≡ value_or_zero (value_of_name (constants_of p.items) name)
  pub tells : (e : Expr) → Tells p v.told (value_meant e (scalar constant.base))

-- What is known of the fields of a class that its constructors bind to fields of the same object.
use Rattle.std.specs.Prelude.{◌≡◌, ℕ, List, Bool, true, false, is_some}
use Rattle.uc_tree.specs.Programs.{Class, Program}
use Rattle.uc_names.specs.Blocks.{Block, found}
use Rattle.uc_rules.specs.OwnerBreaks.{is_bound_inside}

-- the names of these fields, where they are known
abbrev pub AreBound : Program → Class → ℕ → Bool → List Block → Type 0
AreBound p c place true names = (name : List ℕ) → is_some (found names name) ≡ is_bound_inside p c place name
AreBound p c place false names = Unit {0}

-- What is known of a program whose names are looked up.
use Rattle.std.specs.Prelude.{◌≡◌, ℕ, List, map}
use Rattle.uc_tree.specs.declared.kinds.Param.{Param}
use Rattle.uc_tree.specs.Programs.{Class, Item, Program}
use Rattle.uc_tree.specs.Cells.{classes_of}
use Rattle.uc_rules.specs.declared.rules.LocalName.{LocalName}
use Rattle.uc_types.specs.Listings.{classes_seen, items_seen}
use Rattle.uc_types.specs.Members.{built_with, numbered_in}

pub record IsTabled (p : Program) (classes : List Class) (sized : Program) : Type 0 where
  pub classes_are : classes ≡ classes_of p.items
  pub sized_is : sized ≡ p

pub record IsListed (p : Program) (members : List (List LocalName)) (outer : List LocalName) : Type 0 where
  pub members_are : members ≡ classes_seen p 0 (classes_of p.items)
  pub outer_is : outer ≡ items_seen p 0 p.items

-- what is looked up of the members of each class
pub record AreMembers (p : Program) (params : List (List Param)) (numbered : List (List (List ℕ))) (outside : List Item) : Type 0 where
  pub params_are : params ≡ map built_with (classes_of p.items)
  pub numbered_are : numbered ≡ map numbered_in (classes_of p.items)
  pub outside_is : outside ≡ p.items

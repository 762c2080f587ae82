-- The constructors that stand outside of their classes, by the name of the class.
use Rattle.std.specs.Prelude.{◌≡◌, ℕ, zero, suc, List, [], ◌∷◌, ◌++◌, ◌&&◌, map, if◌then◌else◌}
use Rattle.uc_tree.specs.Names.{same_name}
use Rattle.uc_tree.specs.Programs.{Routine, Item, ClassItem, RoutineItem, ConstItem, ProtoItem, ForwardItem, UsingItem}
use Rattle.uc_names.specs.Blocks.{Block}
use Rattle.uc_layout.specs.Places.{IsPlaces}
use Rattle.uc_rules.specs.ClassBreaks.{is_owner}
use Rattle.uc_rules.specs.Names.{is_constructor}

-- the constructor of a class of this name that an item is
abbrev pub routine_in : List ℕ → Routine → List Routine
routine_in name r = if is_owner name r.sig.owner && is_constructor r.sig.role then r ∷ [] else []

abbrev pub constructor_in : List ℕ → Item → List Routine
constructor_in name (RoutineItem r) = routine_in name r
constructor_in name (ClassItem c) = []
constructor_in name (ConstItem c) = []
constructor_in name (ProtoItem sig) = []
constructor_in name (ForwardItem f) = []
constructor_in name (UsingItem at) = []

-- those among some items, in order
abbrev pub constructors_in : List ℕ → List Item → List Routine
constructors_in name [] = []
constructors_in name (x ∷ xs) = constructor_in name x ++ constructors_in name xs

-- those of one class, with its name
pub record ClassConstructors : Type 0 where
  pub owner : List ℕ
  pub routines : List Routine

abbrev pub group_named : List ClassConstructors → List ℕ → List Routine
group_named [] name = []
group_named (g ∷ gs) name = if same_name g.owner name then g.routines else group_named gs name

-- with one more
abbrev pub grown : List ℕ → List ℕ → Routine → List Routine
grown owner name r = if same_name owner name then r ∷ [] else []

abbrev pub grown_at : List ClassConstructors → ℕ → Routine → List ClassConstructors
grown_at [] i r = []
grown_at (g ∷ gs) zero r = record { owner = g.owner; routines = g.routines ++ r ∷ [] } ∷ gs
grown_at (g ∷ gs) (suc i) r = g ∷ grown_at gs i r

pub record ArePlaced (groups : List ClassConstructors) (places : List Block) : Type 0 where
  pub places_are : IsPlaces (map (λ g. g.owner) groups) places

pub record AreGrouped (groups : List ClassConstructors) (items : List Item) : Type 0 where
  pub groups_are : (name : List ℕ) → group_named groups name ≡ constructors_in name items

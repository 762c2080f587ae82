-- The classes and events before an item.
use Rattle.std.specs.Prelude.{◌≡◌, ℕ, List, if◌then◌else◌, length, take, drop, Some}
use Rattle.uc_tree.specs.Cells.{classes_of}
use Rattle.uc_tree.specs.Numbering.{is_event, event_names}
use Rattle.uc_tree.specs.Programs.{Item, ClassItem, RoutineItem, ConstItem, ProtoItem, ForwardItem, UsingItem, Program}
use Rattle.uc_rules.specs.Sorts.{class_at}

abbrev pub events_in : Item → ℕ
events_in (ClassItem c) = if is_event c.kind then 1 else 0
events_in (RoutineItem r) = 0
events_in (ConstItem c) = 0
events_in (ProtoItem sig) = 0
events_in (ForwardItem f) = 0
events_in (UsingItem at) = 0

-- so many classes and events stand before the rest of the items
pub record StandBefore (items rest : List Item) (classes events : ℕ) : Type 0 where
  pub left : drop classes (classes_of items) ≡ classes_of rest
  pub counted : events ≡ length (event_names (take classes (classes_of items)))

-- a class item is that of the class with this place
abbrev pub ItemAt : Program → ℕ → Item → Type 0
ItemAt p k (ClassItem c) = class_at p k ≡ Some c
ItemAt p k (RoutineItem r) = Unit {0}
ItemAt p k (ConstItem c) = Unit {0}
ItemAt p k (ProtoItem sig) = Unit {0}
ItemAt p k (ForwardItem f) = Unit {0}
ItemAt p k (UsingItem at) = Unit {0}

use Rattle.std.proofs.Common.{◌≡◌, ◌++◌, ℕ, List, drop}
use Rattle.uc_types.specs.OuterConstructors.{ArePlaced, constructors_in, group_named}
use Rattle.uc_types.proofs.outside.push_items.Given as goal

abbrev pub invariant-loop-item : goal.invariant-loop-item
invariant-loop-item l = record {
  placed : ArePlaced l.groups.items l.places;
  grown : (name : List ℕ) → group_named l.groups.items name ++ constructors_in name (drop l.item-index l.items) ≡ group_named l.fn.groups.items name ++ constructors_in name l.items;
}

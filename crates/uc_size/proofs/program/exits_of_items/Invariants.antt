use Rattle.std.proofs.Common.{◌≡◌, ◌<◌, ◌+◌, ◌^◌, drop}
use Rattle.uc_tree.specs.Capped.{capped}
use Rattle.uc_tree.specs.Sizes.{items_size, items_exits}
use Rattle.uc_size.proofs.Counting.{Within}
use Rattle.uc_size.proofs.program.exits_of_items.Given as goal

abbrev pub invariant-loop-item : goal.invariant-loop-item
invariant-loop-item l = Within 0 (items_size (drop l.item-index l.items)) (items_size l.items) × (l.size < 2 ^ 64) × (capped (l.size + items_exits (drop l.item-index l.items)) ≡ capped (items_exits l.items))

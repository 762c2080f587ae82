use Rattle.std.proofs.Common.{drop}
use Rattle.uc_tree.specs.Sizes.{items_size}
use Rattle.uc_size.proofs.Counting.{Counting}
use Rattle.uc_size.proofs.program.size_of_items.Given as goal

abbrev pub invariant-loop-item : goal.invariant-loop-item
invariant-loop-item l = Counting l.size (items_size (drop l.item-index l.items)) (items_size l.items)

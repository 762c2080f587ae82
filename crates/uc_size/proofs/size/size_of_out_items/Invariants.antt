use Rattle.std.proofs.Common.{drop}
use Rattle.uc_tree.specs.StatementSizes.{out_items_size}
use Rattle.uc_size.proofs.Counting.{Counting}
use Rattle.uc_size.proofs.size.size_of_out_items.Given as goal

abbrev pub invariant-loop-item : goal.invariant-loop-item
invariant-loop-item l = Counting l.size (out_items_size (drop l.item-index l.items)) (out_items_size l.items)

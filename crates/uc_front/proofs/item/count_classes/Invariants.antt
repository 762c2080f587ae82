use Rattle.std.proofs.Common.{◌≡◌, ◌≤◌, ◌+◌, drop, length}
use Rattle.uc_tree.specs.Cells.{classes_of}
use Rattle.uc_front.proofs.item.count_classes.Given as goal

abbrev pub invariant-loop-item : goal.invariant-loop-item
invariant-loop-item l = record {
  few : l.count ≤ l.item-index;
  counted : l.count + length (classes_of (drop l.item-index l.items)) ≡ length (classes_of l.items);
}

use Rattle.std.proofs.Common.{◌≡◌, ◌++◌, drop}
use Rattle.uc_tree.specs.Cells.{classes_of}
use Rattle.uc_check_index.proofs.protos.protos_in.Given as goal

abbrev pub invariant-loop-item : goal.invariant-loop-item
invariant-loop-item l = l.protos.items ++ classes_of (drop l.item-index l.items) ≡ classes_of l.items

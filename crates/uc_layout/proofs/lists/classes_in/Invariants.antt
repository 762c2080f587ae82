use Rattle.std.proofs.Common.{◌≡◌, ◌++◌, drop, map}
use Rattle.uc_tree.specs.Cells.{classes_of}
use Rattle.uc_layout.proofs.lists.classes_in.Given as goal

abbrev pub invariant-loop-item : goal.invariant-loop-item
invariant-loop-item l = map (λ c. c.now) l.found.items ++ classes_of (drop l.item-index l.items) ≡ classes_of l.items

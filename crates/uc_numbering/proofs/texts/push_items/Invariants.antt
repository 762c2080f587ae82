use Rattle.std.proofs.Common.{◌≡◌, ◌++◌, drop}
use Rattle.uc_tree.specs.Numbering.{item_texts}
use Rattle.uc_numbering.proofs.texts.push_items.Given as goal

abbrev pub invariant-loop-item : goal.invariant-loop-item
invariant-loop-item l = l.found.items ++ item_texts (drop l.item-index l.items) ≡ l.initial.found.items ++ item_texts l.items

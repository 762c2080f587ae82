use Rattle.std.proofs.Common.{◌≡◌, ◌+◌, drop, length}
use Rattle.uc_tree.specs.Numbering.{items_defined}
use Rattle.uc_tree.specs.Programs.{Program}
use Rattle.uc_tree.specs.ProgramMain.{main_among}
use Rattle.uc_lower.proofs.program_main.number_of_main.Given as goal

abbrev pub invariant-loop-item : goal.invariant-loop-item
invariant-loop-item l = ((p : Program) → l.number + main_among p (drop l.item-index l.items) ≡ main_among p l.items) × ((p : Program) → l.number + length (items_defined p (drop l.item-index l.items)) ≡ length (items_defined p l.items))

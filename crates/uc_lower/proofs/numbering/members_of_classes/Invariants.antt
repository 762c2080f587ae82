use Rattle.uc_tree.specs.Cells.{classes_of}
use Rattle.uc_lower.proofs.Memberships.{AreFirst}
use Rattle.uc_lower.proofs.numbering.members_of_classes.Given as goal

abbrev pub invariant-loop-class : goal.invariant-loop-class
invariant-loop-class l = AreFirst (classes_of l.checked.items) l.class l.members.items

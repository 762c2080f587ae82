use Rattle.std.proofs.Common.{◌≡◌, ◌++◌, drop, map}
use Rattle.uc_tree.specs.Numbering.{texts_in}
use Rattle.uc_numbering.specs.Routines.{defined_at}
use Rattle.uc_numbering.proofs.texts.texts_in.Given as goal

abbrev pub invariant-loop-defined : goal.invariant-loop-defined
invariant-loop-defined l = l.found.items ++ texts_in (map defined_at (drop l.defined-index l.routines)) ≡ texts_in (map defined_at l.routines)

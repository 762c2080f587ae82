use Rattle.std.proofs.Common.{◌≡◌, ◌++◌, drop, map}
use Rattle.uc_tree.specs.Numbering.{sites_in}
use Rattle.uc_numbering.specs.Routines.{defined_at}
use Rattle.uc_numbering.proofs.sites.sites_in.Given as goal

abbrev pub invariant-loop-defined : goal.invariant-loop-defined
invariant-loop-defined l = l.found.items ++ sites_in (map defined_at (drop l.defined-index l.routines)) ≡ sites_in (map defined_at l.routines)

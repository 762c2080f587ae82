use Rattle.std.proofs.Common.{◌≡◌, ◌++◌, drop, map}
use Rattle.uc_numbering.specs.Routines.{defined_at}
use Rattle.uc_lower.proofs.numbering.owners_in.Given as goal

abbrev pub invariant-loop-d : goal.invariant-loop-d
invariant-loop-d l = l.owners.items ++ map (λ d. d.number) (map defined_at (drop l.d-index l.defined)) ≡ map (λ d. d.number) (map defined_at l.defined)

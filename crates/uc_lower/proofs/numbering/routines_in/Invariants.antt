use Rattle.std.proofs.Common.{◌≡◌, ◌++◌, drop, map}
use Rattle.uc_numbering.specs.Routines.{defined_at}
use Rattle.uc_lower.proofs.numbering.routines_in.Given as goal

abbrev pub invariant-loop-d : goal.invariant-loop-d
invariant-loop-d l = map (λ r. r.now) l.routines.items ++ map (λ d. d.routine) (map defined_at (drop l.d-index l.defined)) ≡ map (λ d. d.routine) (map defined_at l.defined)

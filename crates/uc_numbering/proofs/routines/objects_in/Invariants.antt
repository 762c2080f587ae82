use Rattle.std.proofs.Common.{◌≡◌, ◌++◌, drop, map}
use Rattle.uc_numbering.specs.Routines.{objects_of}
use Rattle.uc_numbering.proofs.routines.objects_in.Given as goal

abbrev pub invariant-loop-class : goal.invariant-loop-class
invariant-loop-class l = map (λ c. c.now) l.objects.items ++ objects_of (map (λ c. c.now) (drop l.class-index l.classes)) ≡ objects_of (map (λ c. c.now) l.classes)

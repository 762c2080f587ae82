use Rattle.std.proofs.Common.{◌≡◌, ◌++◌, drop, map}
use Rattle.uc_resolve.specs.Resolve.{all_classes, classes_meant}
use Rattle.uc_lower.proofs.numbering.cells_in.Given as goal

abbrev pub invariant-loop-place : goal.invariant-loop-place
invariant-loop-place l = l.cells.items ++ map (λ c. c.cells) (classes_meant l.names l.place (drop l.place (map (λ c. c.now) l.classes))) ≡ map (λ c. c.cells) (all_classes l.names)

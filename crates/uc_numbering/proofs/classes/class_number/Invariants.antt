use Rattle.std.proofs.Common.{◌≡◌, ◌≤◌, ◌+◌, drop, map}
use Rattle.uc_tree.specs.Numbering.{place_from, class_names}
use Rattle.uc_numbering.proofs.classes.class_number.Given as goal

abbrev pub invariant-loop-class : goal.invariant-loop-class
invariant-loop-class l = (l.number ≤ l.class-index + 1) × (place_from l.number (class_names (map (λ c. c.now) (drop l.class-index l.classes))) l.name ≡ place_from 1 (class_names (map (λ c. c.now) l.classes)) l.name)

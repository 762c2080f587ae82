use Rattle.std.proofs.Common.{◌≡◌, ◌≤◌, ◌+◌, drop, map}
use Rattle.uc_tree.specs.declared.limits.TheConstants.{FIRST_EVENT}
use Rattle.uc_tree.specs.Numbering.{place_from, event_names}
use Rattle.uc_numbering.proofs.classes.declared_event.Given as goal

abbrev pub invariant-loop-class : goal.invariant-loop-class
invariant-loop-class l = (l.number ≤ l.class-index + FIRST_EVENT) × (place_from l.number (event_names (map (λ c. c.now) (drop l.class-index l.classes))) l.name ≡ place_from FIRST_EVENT (event_names (map (λ c. c.now) l.classes)) l.name)

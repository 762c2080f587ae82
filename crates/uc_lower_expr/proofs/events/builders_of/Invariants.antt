use Rattle.std.proofs.Common.{◌≡◌, List, length, map, take}
use Rattle.uc_tree.specs.Numbering.{Defined}
use Rattle.uc_lower_expr.specs.Events.{AreBuilders}
use Rattle.uc_lower_expr.proofs.events.builders_of.Given as goal

abbrev pub invariant-loop-place : goal.invariant-loop-place
invariant-loop-place l = (length l.builders ≡ 1) × ((ds : List Defined) → map (λ d. d.routine) ds ≡ map (λ r. r.now) l.routines → map (λ d. d.number) ds ≡ l.owners → AreBuilders (take l.place ds) l.builders)

use Rattle.std.proofs.Common.{◌≡◌, ◌++◌, drop, map}
use Rattle.uc_numbering.specs.Routines.{defined_at, items_in}
use Rattle.uc_numbering.proofs.routines.routines_in.Given as goal

abbrev pub invariant-loop-item : goal.invariant-loop-item
invariant-loop-item l = map defined_at l.found.items ++ items_in (map (λ c. c.now) l.classes) (drop l.item-index l.items) ≡ items_in (map (λ c. c.now) l.classes) l.items

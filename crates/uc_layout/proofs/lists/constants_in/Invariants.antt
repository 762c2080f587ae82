use Rattle.std.proofs.Common.{◌≡◌, ◌++◌, drop, map}
use Rattle.uc_tree.specs.Constants.{constants_of}
use Rattle.uc_layout.proofs.lists.constants_in.Given as goal

abbrev pub invariant-loop-item : goal.invariant-loop-item
invariant-loop-item l = map (λ c. c.now) l.found.items ++ constants_of (drop l.item-index l.items) ≡ constants_of l.items

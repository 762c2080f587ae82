use Rattle.std.proofs.Common.{◌≡◌, ◌<◌, ◌+◌, ◌^◌, drop, map}
use Rattle.uc_tree.specs.Capped.{capped}
use Rattle.uc_tree.specs.Constants.{constants_of}
use Rattle.uc_tree.specs.Cells.{seen_in}
use Rattle.uc_tree.specs.Numbering.{elements_of}
use Rattle.uc_numbering.proofs.conditions.count_of.Given as goal

abbrev pub invariant-loop-declarator : goal.invariant-loop-declarator
invariant-loop-declarator l = (l.count < 2 ^ 64) × (capped (l.count + elements_of (seen_in (constants_of l.sizes.items) l.class) (map (λ d. d.now) (drop l.declarator-index l.conditions))) ≡ capped (elements_of (seen_in (constants_of l.sizes.items) l.class) (map (λ d. d.now) l.conditions)))

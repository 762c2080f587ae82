use Rattle.std.proofs.Common.{◌≡◌, ◌<◌, ◌^◌, drop, map}
use Rattle.std.specs.Prelude.{option_and_then}
use Rattle.uc_tree.specs.declared.limits.TheConstants.{LAST_CONDITION}
use Rattle.uc_tree.specs.Constants.{constants_of}
use Rattle.uc_tree.specs.Cells.{seen_in}
use Rattle.uc_tree.specs.Numbering.{at_most, condition_number_in}
use Rattle.uc_numbering.proofs.conditions.number_among.Given as goal

abbrev pub invariant-loop-declarator : goal.invariant-loop-declarator
invariant-loop-declarator l = (l.number < 2 ^ 33) × (option_and_then (at_most LAST_CONDITION) (condition_number_in (seen_in (constants_of l.sizes.items) l.class) l.number (map (λ d. d.now) (drop l.declarator-index l.conditions)) l.name) ≡ option_and_then (at_most LAST_CONDITION) (condition_number_in (seen_in (constants_of l.sizes.items) l.class) 0 (map (λ d. d.now) l.conditions) l.name))

use Rattle.std.proofs.Common.{map, drop, sym, ◌∙◌, arith}
use Rattle.uc_tree.specs.declared.limits.TheConstants.{LAST_CONDITION}
use Rattle.uc_tree.specs.Constants.{constants_of}
use Rattle.uc_tree.specs.Cells.{seen_in}
use Rattle.uc_numbering.proofs.Past.{past_conditions}
use Rattle.uc_numbering.proofs.conditions.number_among.Goals as goal

pub returns-then-number-from : goal.returns-then-number-from
returns-then-number-from c = sym (past_conditions (seen_in (constants_of c.args.sizes.now.items) c.args.class.now) LAST_CONDITION c.loop-declarator.number (map (λ d. d.now) (drop c.loop-declarator.declarator-index c.args.conditions.now)) c.args.name.now (omega arith)) ∙ c.loop-declarator.invariant.1

use Rattle.std.proofs.Common.{◌≡◌, ◌≤◌, ◌+◌, ◌*◌, drop}
use Rattle.uc_tree.specs.Expressions.{links_of}
use Rattle.uc_tree.specs.ExpressionSizes.{expr_size, link_size, links_size}
use Rattle.uc_tree.specs.Constants.{chain_value_in}
use Rattle.uc_layout.proofs.eval.+value.Given as goal

abbrev pub invariant-value_by_chain-loop-link : goal.invariant-value_by_chain-loop-link
invariant-value_by_chain-loop-link g l = (links_size (links_of (drop l.link-index l.rest)) ≤ links_size (links_of l.rest)) × (chain_value_in (links_of (drop l.link-index l.rest)) l.value (g.N.NameValues.value_named l.named) ≡ chain_value_in (links_of l.rest) l.fn.left (g.N.NameValues.value_named l.named))

abbrev pub decreases-value_by : goal.decreases-value_by
decreases-value_by g l = 2 * expr_size l.e.now

abbrev pub decreases-value_by_chain : goal.decreases-value_by_chain
decreases-value_by_chain g l = 2 * links_size (links_of l.rest.now) + 1

abbrev pub decreases-value_by_link : goal.decreases-value_by_link
decreases-value_by_link g l = 2 * link_size l.link.now

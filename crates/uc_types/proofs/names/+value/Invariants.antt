use Rattle.std.proofs.Common.{◌≡◌, ◌≤◌, ◌+◌, ◌*◌, drop}
use Rattle.uc_tree.specs.Expressions.{links_of}
use Rattle.uc_tree.specs.ExpressionSizes.{expr_size, link_size, links_size}
use Rattle.uc_tree.specs.Constants.{chain_value_in}
use Rattle.uc_rules.specs.Scopes.{value_named}
use Rattle.uc_types.proofs.names.+value.Given as goal

abbrev pub invariant-chain_value-loop-link : goal.invariant-chain_value-loop-link
invariant-chain_value-loop-link l = (links_size (links_of (drop l.link-index l.rest)) ≤ links_size (links_of l.rest)) × (chain_value_in (links_of (drop l.link-index l.rest)) l.value (value_named l.names) ≡ chain_value_in (links_of l.rest) l.fn.left (value_named l.names))

abbrev pub decreases-length_value : goal.decreases-length_value
decreases-length_value l = 2 * expr_size l.e.now

abbrev pub decreases-chain_value : goal.decreases-chain_value
decreases-chain_value l = 2 * links_size (links_of l.rest.now) + 1

abbrev pub decreases-link_value : goal.decreases-link_value
decreases-link_value l = 2 * link_size l.link.now

use Rattle.std.proofs.Common.{◌≤◌, ◌+◌, ◌*◌, drop}
use Rattle.uc_tree.specs.Expressions.{links_of}
use Rattle.uc_tree.specs.ExpressionSizes.{expr_size, links_size}
use Rattle.uc_layout.proofs.order.+uses.Given as goal

abbrev pub invariant-push_link_uses-loop-link : goal.invariant-push_link_uses-loop-link
invariant-push_link_uses-loop-link l = links_size (links_of (drop l.link-index l.links)) ≤ links_size (links_of l.links)

abbrev pub decreases-push_uses : goal.decreases-push_uses
decreases-push_uses l = 2 * expr_size l.e.now

abbrev pub decreases-push_link_uses : goal.decreases-push_link_uses
decreases-push_link_uses l = 2 * links_size (links_of l.links.now) + 1

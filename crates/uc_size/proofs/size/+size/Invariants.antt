use Rattle.std.proofs.Common.{◌+◌, ◌*◌, drop}
use Rattle.uc_tree.specs.Expressions.{exprs_of, parts_of, links_of}
use Rattle.uc_tree.specs.ExpressionSizes.{expr_size, exprs_size, part_size, parts_size, link_size, links_size}
use Rattle.uc_size.proofs.Counting.{Counting}
use Rattle.uc_size.proofs.size.+size.Given as goal

abbrev pub invariant-size_of_exprs-loop-e : goal.invariant-size_of_exprs-loop-e
invariant-size_of_exprs-loop-e l = Counting l.size (exprs_size (exprs_of (drop l.e-index l.exprs))) (exprs_size (exprs_of l.exprs))

abbrev pub invariant-size_of_links-loop-link : goal.invariant-size_of_links-loop-link
invariant-size_of_links-loop-link l = Counting l.size (links_size (links_of (drop l.link-index l.links))) (links_size (links_of l.links))

abbrev pub invariant-size_of_parts-loop-part : goal.invariant-size_of_parts-loop-part
invariant-size_of_parts-loop-part l = Counting l.size (parts_size (parts_of (drop l.part-index l.parts))) (parts_size (parts_of l.parts))

abbrev pub decreases-size_of_expr : goal.decreases-size_of_expr
decreases-size_of_expr l = 2 * expr_size l.e.now

abbrev pub decreases-size_of_exprs : goal.decreases-size_of_exprs
decreases-size_of_exprs l = 2 * exprs_size (exprs_of l.exprs.now) + 1

abbrev pub decreases-size_of_part : goal.decreases-size_of_part
decreases-size_of_part l = 2 * part_size l.part.now

abbrev pub decreases-size_of_parts : goal.decreases-size_of_parts
decreases-size_of_parts l = 2 * parts_size (parts_of l.parts.now) + 1

abbrev pub decreases-size_of_link : goal.decreases-size_of_link
decreases-size_of_link l = 2 * link_size l.link.now

abbrev pub decreases-size_of_links : goal.decreases-size_of_links
decreases-size_of_links l = 2 * links_size (links_of l.links.now) + 1

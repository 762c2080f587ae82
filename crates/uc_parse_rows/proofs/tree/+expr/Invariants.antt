use Rattle.std.proofs.Common.{◌+◌, ◌*◌, ◌≤◌, drop}
use Rattle.uc_tree.specs.Expressions.{exprs_of, parts_of, links_of}
use Rattle.uc_tree.specs.ExpressionSizes.{expr_size, exprs_size, parts_size, links_size}
use Rattle.uc_parse_rows.proofs.tree.+expr.Given as goal

abbrev pub invariant-write_parts-loop-part : goal.invariant-write_parts-loop-part
invariant-write_parts-loop-part l = parts_size (parts_of (drop l.part-index l.parts)) ≤ parts_size (parts_of l.parts)

abbrev pub invariant-write_args-loop-arg : goal.invariant-write_args-loop-arg
invariant-write_args-loop-arg l = exprs_size (exprs_of (drop l.arg-index l.args)) ≤ exprs_size (exprs_of l.args)

abbrev pub invariant-write_links-loop-link : goal.invariant-write_links-loop-link
invariant-write_links-loop-link l = links_size (links_of (drop l.link-index l.links)) ≤ links_size (links_of l.links)

abbrev pub decreases-write_expr : goal.decreases-write_expr
decreases-write_expr l = 2 * expr_size l.e.now

abbrev pub decreases-write_parts : goal.decreases-write_parts
decreases-write_parts l = 2 * parts_size (parts_of l.parts.now) + 1

abbrev pub decreases-write_args : goal.decreases-write_args
decreases-write_args l = 2 * exprs_size (exprs_of l.args.now) + 1

abbrev pub decreases-write_links : goal.decreases-write_links
decreases-write_links l = 2 * links_size (links_of l.links.now) + 1

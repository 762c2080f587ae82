use Rattle.std.proofs.Common.{◌+◌, ◌*◌, take}
use Rattle.uc_tree.specs.declared.limits.TheConstants.{OPS_FOR_SIZE}
use Rattle.uc_tree.specs.Expressions.{exprs_of, parts_of, links_of}
use Rattle.uc_tree.specs.ExpressionSizes.{expr_size, exprs_size, part_size, parts_size, link_size, links_size}
use Rattle.uc_resolve.specs.Resolve.{args_by, args_meant, parts_meant, chain_meant}
use Rattle.uc_lower_expr.specs.DraftGrowth.{Adds, ArgumentsCode, Grows}
use Rattle.uc_lower_expr.specs.Contexts.{context_in}
use Rattle.uc_lower_expr.proofs.expr.+lower.Given as goal

abbrev pub invariant-lower_links-loop-link : goal.invariant-lower_links-loop-link
invariant-lower_links-loop-link l = Grows l.names (OPS_FOR_SIZE * links_size (links_of (take l.link-index l.links))) l.line l.initial.out.marks l.start (chain_meant (context_in l.names l.initial.out) (links_of (take l.link-index l.links))) l.fn.first l.told l.initial.out l.out

abbrev pub invariant-lower_parts-loop-part : goal.invariant-lower_parts-loop-part
invariant-lower_parts-loop-part l = Grows l.names (OPS_FOR_SIZE * parts_size (parts_of (take l.part-index l.parts))) l.line l.initial.out.marks l.start (parts_meant (context_in l.names l.initial.out) (parts_of (take l.part-index l.parts))) l.fn.root l.told l.initial.out l.out

abbrev pub invariant-lower_args-loop-place : goal.invariant-lower_args-loop-place
invariant-lower_args-loop-place l = Adds (OPS_FOR_SIZE * exprs_size (exprs_of (take l.place l.args))) (ArgumentsCode l.line l.initial.out.marks (args_by l.params (args_meant (context_in l.names l.initial.out) (exprs_of (take l.place l.args))))) l.initial.out l.out

abbrev pub decreases-lower_expr : goal.decreases-lower_expr
decreases-lower_expr l = 5 * expr_size l.e.now

abbrev pub decreases-lower_value : goal.decreases-lower_value
decreases-lower_value l = 5 * expr_size l.e.now + 1

abbrev pub decreases-lower_unary : goal.decreases-lower_unary
decreases-lower_unary l = 5 * expr_size l.operand.now + 2

abbrev pub decreases-lower_assign : goal.decreases-lower_assign
decreases-lower_assign l = 5 * (expr_size l.place.now + expr_size l.value.now) + 2

abbrev pub decreases-lower_written : goal.decreases-lower_written
decreases-lower_written l = 5 * expr_size l.value.now + 4

abbrev pub decreases-lower_to_variable : goal.decreases-lower_to_variable
decreases-lower_to_variable l = 5 * expr_size l.value.now + 3

abbrev pub decreases-lower_to_place : goal.decreases-lower_to_place
decreases-lower_to_place l = 5 * expr_size l.value.now + 3

abbrev pub decreases-lower_links : goal.decreases-lower_links
decreases-lower_links l = 5 * links_size (links_of l.links.now) + 1

abbrev pub decreases-lower_link : goal.decreases-lower_link
decreases-lower_link l = 5 * link_size l.link.now

abbrev pub decreases-lower_right : goal.decreases-lower_right
decreases-lower_right l = 5 * expr_size l.right.now + 2

abbrev pub decreases-lower_parts : goal.decreases-lower_parts
decreases-lower_parts l = 5 * parts_size (parts_of l.parts.now) + 1

abbrev pub decreases-lower_part : goal.decreases-lower_part
decreases-lower_part l = 5 * part_size l.part.now

abbrev pub decreases-lower_index : goal.decreases-lower_index
decreases-lower_index l = 5 * expr_size l.index.now + 2

abbrev pub decreases-lower_call : goal.decreases-lower_call
decreases-lower_call l = 5 * exprs_size (exprs_of l.args.now) + 4

abbrev pub decreases-lower_args : goal.decreases-lower_args
decreases-lower_args l = 5 * exprs_size (exprs_of l.args.now) + 3

abbrev pub decreases-lower_arg : goal.decreases-lower_arg
decreases-lower_arg l = 5 * expr_size l.arg.now + 2

abbrev pub decreases-lower_condition_call : goal.decreases-lower_condition_call
decreases-lower_condition_call l = 5 * exprs_size (exprs_of l.args.now) + 3

abbrev pub decreases-lower_stored : goal.decreases-lower_stored
decreases-lower_stored l = 5 * exprs_size (exprs_of l.args.now) + 2

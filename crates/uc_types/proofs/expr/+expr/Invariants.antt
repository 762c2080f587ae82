use Rattle.std.proofs.Common.{◌≡◌, ◌≤◌, ◌+◌, ◌*◌, ◌&&◌, drop}
use Rattle.uc_tree.specs.Expressions.{exprs_of, parts_of, links_of}
use Rattle.uc_tree.specs.ExpressionSizes.{expr_size, exprs_size, part_size, parts_size, link_size, links_size}
use Rattle.uc_rules.specs.Entities.{parts_entity, chain_entity, are_sound}
use Rattle.uc_rules.specs.Visits.{parts_visits, chain_visits, args_visits}
use Rattle.uc_types.specs.FirstBreak.{with_visits}
use Rattle.uc_types.proofs.expr.+expr.Given as goal

abbrev pub invariant-check_args-loop-place : goal.invariant-check_args-loop-place
invariant-check_args-loop-place l = record {
  size : exprs_size (exprs_of (drop l.place l.args)) ≤ exprs_size (exprs_of l.args);
  sound : l.sound && are_sound l.names (exprs_of (drop l.place l.args)) l.target l.place ≡ are_sound l.names (exprs_of l.args) l.target 0;
  breaks : with_visits l.found (args_visits l.names (exprs_of (drop l.place l.args)) l.target l.place) ≡ with_visits l.fn.found (args_visits l.names (exprs_of l.args) l.target 0);
}

abbrev pub invariant-check_parts-loop-place : goal.invariant-check_parts-loop-place
invariant-check_parts-loop-place l = record {
  size : parts_size (parts_of (drop l.place l.parts)) ≤ parts_size (parts_of l.parts);
  entity : parts_entity l.names (parts_of (drop l.place l.parts)) l.entity ≡ parts_entity l.names (parts_of l.parts) l.fn.root;
  breaks : with_visits l.found (parts_visits l.names (parts_of (drop l.place l.parts)) l.entity) ≡ with_visits l.fn.found (parts_visits l.names (parts_of l.parts) l.fn.root);
}

abbrev pub invariant-check_chain-loop-link : goal.invariant-check_chain-loop-link
invariant-check_chain-loop-link l = record {
  size : links_size (links_of (drop l.link-index l.rest)) ≤ links_size (links_of l.rest);
  entity : chain_entity l.names (links_of (drop l.link-index l.rest)) l.left ≡ chain_entity l.names (links_of l.rest) l.fn.first;
  breaks : with_visits l.found (chain_visits l.names (links_of (drop l.link-index l.rest)) l.left) ≡ with_visits l.fn.found (chain_visits l.names (links_of l.rest) l.fn.first);
}

abbrev pub decreases-check_expr : goal.decreases-check_expr
decreases-check_expr l = 3 * expr_size l.e.now

abbrev pub decreases-check_root : goal.decreases-check_root
decreases-check_root l = 3 * expr_size l.root.now + 1

abbrev pub decreases-check_parts : goal.decreases-check_parts
decreases-check_parts l = 3 * parts_size (parts_of l.parts.now) + 1

abbrev pub decreases-check_part : goal.decreases-check_part
decreases-check_part l = 3 * part_size l.part.now

abbrev pub decreases-check_chain : goal.decreases-check_chain
decreases-check_chain l = 3 * links_size (links_of l.rest.now) + 1

abbrev pub decreases-check_link : goal.decreases-check_link
decreases-check_link l = 3 * link_size l.link.now

abbrev pub decreases-check_arg : goal.decreases-check_arg
decreases-check_arg l = 3 * expr_size l.arg.now + 1

abbrev pub decreases-check_args : goal.decreases-check_args
decreases-check_args l = 3 * exprs_size (exprs_of l.args.now) + 2

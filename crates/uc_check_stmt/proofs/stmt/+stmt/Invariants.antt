use Rattle.std.proofs.Common.{◌≡◌, ◌≤◌, ◌+◌, ◌*◌, drop}
use Rattle.uc_tree.specs.Statements.{stmts_of, handlers_of, clauses_of}
use Rattle.uc_tree.specs.StatementSizes.{stmt_size, stmts_size, maybe_stmt_size, handler_size, handlers_size, clause_size, clauses_size}
use Rattle.uc_tree.specs.StatementViews.{maybe_at}
use Rattle.uc_rules.specs.Scopes.{env_behind}
use Rattle.uc_rules.specs.Visits.{stmts_visits, handlers_visits, clauses_visits}
use Rattle.uc_types.specs.FirstBreak.{with_visits}
use Rattle.uc_check_stmt.proofs.stmt.+stmt.Given as goal

abbrev pub invariant-check_stmts-loop-s : goal.invariant-check_stmts-loop-s
invariant-check_stmts-loop-s l = record {
  size : stmts_size (stmts_of (drop l.s-index l.body)) ≤ stmts_size (stmts_of l.body);
  names : env_behind l.names (stmts_of (drop l.s-index l.body)) ≡ env_behind l.fn.names (stmts_of l.body);
  breaks : with_visits l.found (stmts_visits (stmts_of (drop l.s-index l.body)) l.names) ≡ with_visits l.fn.found (stmts_visits (stmts_of l.body) l.fn.names);
}

abbrev pub invariant-check_handlers-loop-handler : goal.invariant-check_handlers-loop-handler
invariant-check_handlers-loop-handler l = record {
  size : handlers_size (handlers_of (drop l.handler-index l.handlers)) ≤ handlers_size (handlers_of l.handlers);
  names : l.names ≡ l.fn.names;
  breaks : with_visits l.found (handlers_visits (handlers_of (drop l.handler-index l.handlers)) l.fn.names) ≡ with_visits l.fn.found (handlers_visits (handlers_of l.handlers) l.fn.names);
}

abbrev pub invariant-check_clauses-loop-clause : goal.invariant-check_clauses-loop-clause
invariant-check_clauses-loop-clause l = record {
  size : clauses_size (clauses_of (drop l.clause-index l.clauses)) ≤ clauses_size (clauses_of l.clauses);
  names : l.names ≡ l.fn.names;
  breaks : with_visits l.found (clauses_visits (clauses_of (drop l.clause-index l.clauses)) l.fn.names) ≡ with_visits l.fn.found (clauses_visits (clauses_of l.clauses) l.fn.names);
}

abbrev pub decreases-check_stmt : goal.decreases-check_stmt
decreases-check_stmt l = 4 * stmt_size l.s.now

abbrev pub decreases-check_stmts : goal.decreases-check_stmts
decreases-check_stmts l = 4 * stmts_size (stmts_of l.body.now) + 1

abbrev pub decreases-check_block : goal.decreases-check_block
decreases-check_block l = 4 * stmts_size (stmts_of l.body.now) + 2

abbrev pub decreases-check_guarded : goal.decreases-check_guarded
decreases-check_guarded l = 4 * stmts_size (stmts_of l.body.now) + 2

abbrev pub decreases-check_inner : goal.decreases-check_inner
decreases-check_inner l = 4 * stmt_size l.s.now + 1

abbrev pub decreases-check_maybe_inner : goal.decreases-check_maybe_inner
decreases-check_maybe_inner l = 4 * maybe_stmt_size (maybe_at l.s.now) + 2

abbrev pub decreases-check_for : goal.decreases-check_for
decreases-check_for l = 4 * stmt_size l.body.now + 1

abbrev pub decreases-check_handler : goal.decreases-check_handler
decreases-check_handler l = 4 * handler_size l.handler.now

abbrev pub decreases-check_handlers : goal.decreases-check_handlers
decreases-check_handlers l = 4 * handlers_size (handlers_of l.handlers.now) + 1

abbrev pub decreases-check_clause : goal.decreases-check_clause
decreases-check_clause l = 4 * clause_size l.clause.now

abbrev pub decreases-check_clauses : goal.decreases-check_clauses
decreases-check_clauses l = 4 * clauses_size (clauses_of l.clauses.now) + 1

abbrev pub decreases-check_if : goal.decreases-check_if
decreases-check_if l = 4 * (stmt_size l.chosen.now + maybe_stmt_size (maybe_at l.other.now)) + 3

abbrev pub decreases-check_while : goal.decreases-check_while
decreases-check_while l = 4 * stmt_size l.body.now + 3

abbrev pub decreases-check_do : goal.decreases-check_do
decreases-check_do l = 4 * stmt_size l.body.now + 3

abbrev pub decreases-check_try : goal.decreases-check_try
decreases-check_try l = 4 * (stmts_size (stmts_of l.body.now) + handlers_size (handlers_of l.handlers.now)) + 3

abbrev pub decreases-check_masked : goal.decreases-check_masked
decreases-check_masked l = 4 * stmt_size l.body.now + 3

abbrev pub decreases-check_accept : goal.decreases-check_accept
decreases-check_accept l = 4 * (clauses_size (clauses_of l.clauses.now) + maybe_stmt_size (maybe_at l.other.now)) + 3

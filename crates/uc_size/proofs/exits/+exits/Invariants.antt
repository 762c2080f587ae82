use Rattle.std.proofs.Common.{◌≡◌, ◌<◌, ◌+◌, ◌*◌, ◌^◌, drop}
use Rattle.uc_tree.specs.Capped.{capped}
use Rattle.uc_tree.specs.Statements.{stmts_of, handlers_of, clauses_of}
use Rattle.uc_tree.specs.StatementSizes.{stmt_size, stmts_size, maybe_stmt_size, handler_size, handlers_size, clause_size, clauses_size}
use Rattle.uc_tree.specs.StatementViews.{maybe_at}
use Rattle.uc_tree.specs.Exits.{exits_all, exits_handlers, exits_clauses}
use Rattle.uc_size.proofs.Counting.{Within}
use Rattle.uc_size.proofs.exits.+exits.Given as goal

abbrev pub invariant-exits_of_stmts-loop-s : goal.invariant-exits_of_stmts-loop-s
invariant-exits_of_stmts-loop-s l = Within l.inside (stmts_size (stmts_of (drop l.s-index l.stmts))) (stmts_size (stmts_of l.stmts)) × (l.size < 2 ^ 64) × (capped (l.size + exits_all (stmts_of (drop l.s-index l.stmts)) l.inside) ≡ capped (exits_all (stmts_of l.stmts) l.scope))

abbrev pub invariant-exits_of_handlers-loop-handler : goal.invariant-exits_of_handlers-loop-handler
invariant-exits_of_handlers-loop-handler l = Within l.scope (handlers_size (handlers_of (drop l.handler-index l.handlers))) (handlers_size (handlers_of l.handlers)) × (l.size < 2 ^ 64) × (capped (l.size + exits_handlers (handlers_of (drop l.handler-index l.handlers)) l.scope) ≡ capped (exits_handlers (handlers_of l.handlers) l.scope))

abbrev pub invariant-exits_of_clauses-loop-clause : goal.invariant-exits_of_clauses-loop-clause
invariant-exits_of_clauses-loop-clause l = Within l.scope (clauses_size (clauses_of (drop l.clause-index l.clauses))) (clauses_size (clauses_of l.clauses)) × (l.size < 2 ^ 64) × (capped (l.size + exits_clauses (clauses_of (drop l.clause-index l.clauses)) l.scope) ≡ capped (exits_clauses (clauses_of l.clauses) l.scope))

abbrev pub decreases-exits_of_stmt : goal.decreases-exits_of_stmt
decreases-exits_of_stmt l = 2 * stmt_size l.s.now

abbrev pub decreases-exits_of_stmts : goal.decreases-exits_of_stmts
decreases-exits_of_stmts l = 2 * stmts_size (stmts_of l.stmts.now) + 1

abbrev pub decreases-exits_of_maybe : goal.decreases-exits_of_maybe
decreases-exits_of_maybe l = 2 * maybe_stmt_size (maybe_at l.s.now) + 1

abbrev pub decreases-exits_of_handlers : goal.decreases-exits_of_handlers
decreases-exits_of_handlers l = 2 * handlers_size (handlers_of l.handlers.now) + 1

abbrev pub decreases-exits_of_handler : goal.decreases-exits_of_handler
decreases-exits_of_handler l = 2 * handler_size l.handler.now

abbrev pub decreases-exits_of_clauses : goal.decreases-exits_of_clauses
decreases-exits_of_clauses l = 2 * clauses_size (clauses_of l.clauses.now) + 1

abbrev pub decreases-exits_of_clause : goal.decreases-exits_of_clause
decreases-exits_of_clause l = 2 * clause_size l.clause.now

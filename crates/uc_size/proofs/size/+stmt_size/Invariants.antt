use Rattle.std.proofs.Common.{◌+◌, ◌*◌, drop}
use Rattle.uc_tree.specs.Statements.{stmts_of, handlers_of, clauses_of}
use Rattle.uc_tree.specs.StatementSizes.{stmt_size, stmts_size, maybe_stmt_size, handler_size, handlers_size, clause_size, clauses_size}
use Rattle.uc_tree.specs.StatementViews.{maybe_at}
use Rattle.uc_size.proofs.Counting.{Counting}
use Rattle.uc_size.proofs.size.+stmt_size.Given as goal

abbrev pub invariant-size_of_stmts-loop-s : goal.invariant-size_of_stmts-loop-s
invariant-size_of_stmts-loop-s l = Counting l.size (stmts_size (stmts_of (drop l.s-index l.stmts))) (stmts_size (stmts_of l.stmts))

abbrev pub invariant-size_of_handlers-loop-handler : goal.invariant-size_of_handlers-loop-handler
invariant-size_of_handlers-loop-handler l = Counting l.size (handlers_size (handlers_of (drop l.handler-index l.handlers))) (handlers_size (handlers_of l.handlers))

abbrev pub invariant-size_of_clauses-loop-clause : goal.invariant-size_of_clauses-loop-clause
invariant-size_of_clauses-loop-clause l = Counting l.size (clauses_size (clauses_of (drop l.clause-index l.clauses))) (clauses_size (clauses_of l.clauses))

abbrev pub decreases-size_of_stmt : goal.decreases-size_of_stmt
decreases-size_of_stmt l = 2 * stmt_size l.s.now

abbrev pub decreases-size_of_stmts : goal.decreases-size_of_stmts
decreases-size_of_stmts l = 2 * stmts_size (stmts_of l.stmts.now) + 1

abbrev pub decreases-size_of_maybe_stmt : goal.decreases-size_of_maybe_stmt
decreases-size_of_maybe_stmt l = 2 * maybe_stmt_size (maybe_at l.s.now) + 1

abbrev pub decreases-size_of_handlers : goal.decreases-size_of_handlers
decreases-size_of_handlers l = 2 * handlers_size (handlers_of l.handlers.now) + 1

abbrev pub decreases-size_of_handler : goal.decreases-size_of_handler
decreases-size_of_handler l = 2 * handler_size l.handler.now

abbrev pub decreases-size_of_clauses : goal.decreases-size_of_clauses
decreases-size_of_clauses l = 2 * clauses_size (clauses_of l.clauses.now) + 1

abbrev pub decreases-size_of_clause : goal.decreases-size_of_clause
decreases-size_of_clause l = 2 * clause_size l.clause.now

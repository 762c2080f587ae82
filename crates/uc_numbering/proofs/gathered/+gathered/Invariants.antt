use Rattle.std.proofs.Common.{◌≡◌, ◌≤◌, ◌+◌, ◌*◌, ◌++◌, drop, map}
use Rattle.uc_tree.specs.Statements.{stmts_of, handlers_of, clauses_of}
use Rattle.uc_tree.specs.StatementSizes.{stmt_size, stmts_size, maybe_stmt_size, handler_size, handlers_size, clause_size, clauses_size}
use Rattle.uc_tree.specs.StatementViews.{maybe_at}
use Rattle.uc_tree.specs.Gathered.{gathered_all, gathered_handlers, gathered_clauses}
use Rattle.uc_numbering.specs.Flat.{itself}
use Rattle.uc_numbering.proofs.gathered.+gathered.Given as goal

abbrev pub invariant-push_stmts-loop-s : goal.invariant-push_stmts-loop-s
invariant-push_stmts-loop-s l = (stmts_size (stmts_of (drop l.s-index l.stmts)) ≤ stmts_size (stmts_of l.stmts)) × (map (λ s. s.now) l.found.items ++ gathered_all itself (stmts_of (drop l.s-index l.stmts)) ≡ map (λ s. s.now) l.initial.found.items ++ gathered_all itself (stmts_of l.stmts))

abbrev pub invariant-push_handlers-loop-handler : goal.invariant-push_handlers-loop-handler
invariant-push_handlers-loop-handler l = (handlers_size (handlers_of (drop l.handler-index l.handlers)) ≤ handlers_size (handlers_of l.handlers)) × (map (λ s. s.now) l.found.items ++ gathered_handlers itself (handlers_of (drop l.handler-index l.handlers)) ≡ map (λ s. s.now) l.initial.found.items ++ gathered_handlers itself (handlers_of l.handlers))

abbrev pub invariant-push_clauses-loop-clause : goal.invariant-push_clauses-loop-clause
invariant-push_clauses-loop-clause l = (clauses_size (clauses_of (drop l.clause-index l.clauses)) ≤ clauses_size (clauses_of l.clauses)) × (map (λ s. s.now) l.found.items ++ gathered_clauses itself (clauses_of (drop l.clause-index l.clauses)) ≡ map (λ s. s.now) l.initial.found.items ++ gathered_clauses itself (clauses_of l.clauses))

abbrev pub decreases-push_stmt : goal.decreases-push_stmt
decreases-push_stmt l = 2 * stmt_size l.s.now

abbrev pub decreases-push_stmts : goal.decreases-push_stmts
decreases-push_stmts l = 2 * stmts_size (stmts_of l.stmts.now) + 1

abbrev pub decreases-push_maybe : goal.decreases-push_maybe
decreases-push_maybe l = 2 * maybe_stmt_size (maybe_at l.s.now) + 1

abbrev pub decreases-push_handlers : goal.decreases-push_handlers
decreases-push_handlers l = 2 * handlers_size (handlers_of l.handlers.now) + 1

abbrev pub decreases-push_handler : goal.decreases-push_handler
decreases-push_handler l = 2 * handler_size l.handler.now

abbrev pub decreases-push_clauses : goal.decreases-push_clauses
decreases-push_clauses l = 2 * clauses_size (clauses_of l.clauses.now) + 1

abbrev pub decreases-push_clause : goal.decreases-push_clause
decreases-push_clause l = 2 * clause_size l.clause.now

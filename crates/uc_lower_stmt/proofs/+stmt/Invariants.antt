use Rattle.std.proofs.Common.{◌+◌, ◌*◌, take}
use Rattle.uc_tree.specs.Statements.{clauses_of, handlers_of, stmts_of}
use Rattle.uc_tree.specs.StatementSizes.{clauses_size, handler_size, handlers_size, stmt_size, stmts_size, maybe_stmt_size}
use Rattle.uc_tree.specs.StatementViews.{maybe_at}
use Rattle.uc_lower_stmt.specs.Listed.{LaysStmts}
use Rattle.uc_lower_stmt.proofs.+stmt.Given as goal

abbrev pub invariant-stmt::lower_stmts-loop-s : goal.invariant-stmt::lower_stmts-loop-s
invariant-stmt::lower_stmts-loop-s l = LaysStmts l.names l.line (take l.s-index l.stmts) l.initial.out l.out

abbrev pub decreases-stmt::lower_stmt : goal.decreases-stmt::lower_stmt
decreases-stmt::lower_stmt l = 5 * stmt_size l.s.now

abbrev pub decreases-stmt::lower_stmts : goal.decreases-stmt::lower_stmts
decreases-stmt::lower_stmts l = 5 * stmts_size (stmts_of l.stmts.now) + 2

abbrev pub decreases-stmt::lower_next : goal.decreases-stmt::lower_next
decreases-stmt::lower_next l = 5 * stmt_size l.s.now + 1

abbrev pub decreases-stmt::lower_alone : goal.decreases-stmt::lower_alone
decreases-stmt::lower_alone l = 5 * stmt_size l.s.now + 1

abbrev pub decreases-stmt::lower_maybe : goal.decreases-stmt::lower_maybe
decreases-stmt::lower_maybe l = 5 * maybe_stmt_size (maybe_at l.other.now) + 2

abbrev pub decreases-stmt::lower_if : goal.decreases-stmt::lower_if
decreases-stmt::lower_if l = 5 * (stmt_size l.chosen.now + maybe_stmt_size (maybe_at l.other.now)) + 3

abbrev pub decreases-stmt::lower_loop : goal.decreases-stmt::lower_loop
decreases-stmt::lower_loop l = 5 * stmt_size l.body.now + 2

abbrev pub decreases-stmt::lower_for : goal.decreases-stmt::lower_for
decreases-stmt::lower_for l = 5 * stmt_size l.body.now + 3

abbrev pub decreases-guard::lower_try : goal.decreases-guard::lower_try
decreases-guard::lower_try l = 5 * (stmts_size (stmts_of l.body.now) + handlers_size (handlers_of l.handlers.now)) + 3

abbrev pub decreases-guard::lower_handlers : goal.decreases-guard::lower_handlers
decreases-guard::lower_handlers l = 5 * handlers_size (handlers_of l.handlers.now) + 2

abbrev pub decreases-guard::lower_handler : goal.decreases-guard::lower_handler
decreases-guard::lower_handler l = 5 * handler_size l.handler.now + 1

abbrev pub decreases-guard::lower_body : goal.decreases-guard::lower_body
decreases-guard::lower_body l = 5 * stmts_size (stmts_of l.body.now) + 3

abbrev pub decreases-accept::lower_accept : goal.decreases-accept::lower_accept
decreases-accept::lower_accept l = 5 * (clauses_size (clauses_of l.clauses.now) + maybe_stmt_size (maybe_at l.other.now)) + 4

abbrev pub decreases-accept::lower_branches : goal.decreases-accept::lower_branches
decreases-accept::lower_branches l = 5 * (clauses_size (clauses_of l.clauses.now) + maybe_stmt_size (maybe_at l.other.now)) + 3

abbrev pub decreases-enabling::lower_enabling : goal.decreases-enabling::lower_enabling
decreases-enabling::lower_enabling l = 5 * stmt_size l.body.now + 2

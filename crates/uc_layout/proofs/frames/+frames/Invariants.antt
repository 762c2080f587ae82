use Rattle.std.proofs.Common.{◌≡◌, ◌<◌, ◌≤◌, ◌+◌, ◌*◌, ◌^◌, drop}
use Rattle.uc_tree.specs.Capped.{capped}
use Rattle.uc_tree.specs.Statements.{stmts_of, handlers_of, clauses_of}
use Rattle.uc_tree.specs.StatementSizes.{stmt_size, stmts_size, maybe_stmt_size, handler_size, handlers_size, clause_size, clauses_size}
use Rattle.uc_tree.specs.StatementViews.{maybe_at}
use Rattle.uc_tree.specs.Cells.{declared_cells, stmts_cells, handlers_cells, clauses_cells}
use Rattle.uc_layout.proofs.frames.+frames.Given as goal

abbrev pub invariant-cells_of_stmts-loop-s : goal.invariant-cells_of_stmts-loop-s
invariant-cells_of_stmts-loop-s l = (stmts_size (stmts_of (drop l.s-index l.stmts)) ≤ stmts_size (stmts_of l.stmts)) × (l.cells < 2 ^ 64) × (capped (l.cells + stmts_cells (stmts_of (drop l.s-index l.stmts)) (declared_cells l.sizes)) ≡ capped (stmts_cells (stmts_of l.stmts) (declared_cells l.sizes)))

abbrev pub invariant-cells_of_handlers-loop-handler : goal.invariant-cells_of_handlers-loop-handler
invariant-cells_of_handlers-loop-handler l = (handlers_size (handlers_of (drop l.handler-index l.handlers)) ≤ handlers_size (handlers_of l.handlers)) × (l.cells < 2 ^ 64) × (capped (l.cells + handlers_cells (handlers_of (drop l.handler-index l.handlers)) (declared_cells l.sizes)) ≡ capped (handlers_cells (handlers_of l.handlers) (declared_cells l.sizes)))

abbrev pub invariant-cells_of_clauses-loop-clause : goal.invariant-cells_of_clauses-loop-clause
invariant-cells_of_clauses-loop-clause l = (clauses_size (clauses_of (drop l.clause-index l.clauses)) ≤ clauses_size (clauses_of l.clauses)) × (l.cells < 2 ^ 64) × (capped (l.cells + clauses_cells (clauses_of (drop l.clause-index l.clauses)) (declared_cells l.sizes)) ≡ capped (clauses_cells (clauses_of l.clauses) (declared_cells l.sizes)))

abbrev pub decreases-cells_of_stmt : goal.decreases-cells_of_stmt
decreases-cells_of_stmt l = 2 * stmt_size l.s.now

abbrev pub decreases-cells_of_stmts : goal.decreases-cells_of_stmts
decreases-cells_of_stmts l = 2 * stmts_size (stmts_of l.stmts.now) + 1

abbrev pub decreases-cells_of_maybe : goal.decreases-cells_of_maybe
decreases-cells_of_maybe l = 2 * maybe_stmt_size (maybe_at l.s.now) + 1

abbrev pub decreases-cells_of_handlers : goal.decreases-cells_of_handlers
decreases-cells_of_handlers l = 2 * handlers_size (handlers_of l.handlers.now) + 1

abbrev pub decreases-cells_of_handler : goal.decreases-cells_of_handler
decreases-cells_of_handler l = 2 * handler_size l.handler.now

abbrev pub decreases-cells_of_clauses : goal.decreases-cells_of_clauses
decreases-cells_of_clauses l = 2 * clauses_size (clauses_of l.clauses.now) + 1

abbrev pub decreases-cells_of_clause : goal.decreases-cells_of_clause
decreases-cells_of_clause l = 2 * clause_size l.clause.now

-- What lowering statements does to a draft.
use Rattle.std.specs.Prelude.{◌≡◌, ℕ, ◌+◌, ◌*◌, ◌≤◌, length}
use Rattle.uc_tree.specs.declared.limits.TheConstants.{OPS_FOR_SIZE}
use Rattle.uc_tree.specs.Statements.{Stmt, Stmts}
use Rattle.uc_tree.specs.StatementSizes.{stmt_size, stmts_size}
use Rattle.uc_tree.specs.Exits.{exits_all}
use Rattle.uc_tree.specs.Sizes.{size_at}
use Rattle.uc_tree.specs.Scopes.{stmt_scopes, stmts_scopes}
use Rattle.uc_tree.specs.Cells.{declared_cells, stmt_cells, stmts_cells}
use Rattle.uc_tree.specs.Programs.{Program}
use Rattle.uc_resolve.specs.Resolve.{Scope, stmt_meant, stmts_meant, scope_after, scope_behind}
use Rattle.uc_code.specs.Drafts.{Draft}
use Rattle.uc_code.specs.Layout.{Laid, laid_in}
use Rattle.uc_code.specs.CodeShapes.{Kept}
use Rattle.uc_code.specs.Lowered.{StmtAt, StmtsAt}
use Rattle.uc_lower_stmt.specs.Marked.{objects_in}
use Rattle.uc_lower_stmt.specs.RowFit.{RowsFit}
use Rattle.uc_lower_stmt.specs.SourceRows.{stmt_rows_under, stmts_rows_under}

-- where a draft stands: its class and routine, its names, the innermost handler's cells, and the cells, hidden cells, text literals
-- and accept statements so far
abbrev pub scope_of : Draft → Scope
scope_of d = record { class = d.place.class; routine = d.place.routine; names = d.names; handled = d.handled; cells = d.cells; hidden = d.hidden; texts = d.texts; sites = d.sites }

-- a draft with r rows more and at most n ops more, for which S holds, in this scope, and with o scopes more. No more than k text
-- literals and c cells came to it; its marks, routines and place are as they were.
pub record Lowers (r n k c o : ℕ) (S : Laid → ℕ → ℕ → Type 0) (after : Scope) (old new : Draft) : Type 0 where
  pub rest : new ≡ record old { ops = new.ops; rows = new.rows; settled = new.settled; scopes = new.scopes; names = new.names; cells = new.cells; hidden = new.hidden; texts = new.texts; sites = new.sites }
  pub scope : scope_of new ≡ after
  pub opened : new.scopes ≡ old.scopes + o
  pub kept : Kept (laid_in old) (laid_in new)
  pub rows : RowsFit 0 r old new
  pub room : length new.ops ≤ length old.ops + n
  pub texts : new.texts ≤ old.texts + k
  pub cells : new.cells ≤ old.cells + c
  pub code : S (laid_in new) (length old.ops) (length new.ops)

-- the size of statements with so many declarators in scope round them, those that leave their scopes counted
abbrev pub sizes_at : Stmts → ℕ → ℕ
sizes_at ss k = stmts_size ss + exits_all ss k

-- by a statement of a program, and by a list of them
abbrev pub LowersStmt : Program → Stmt → Draft → Draft → Type 0
LowersStmt p s old new = Lowers (stmt_rows_under old.marks (stmt_meant p s (scope_of old))) (OPS_FOR_SIZE * size_at s (objects_in old.marks)) (stmt_size s) (stmt_cells s (declared_cells p)) (stmt_scopes s) (λ code. StmtAt code old.marks (stmt_meant p s (scope_of old))) (scope_after p s (scope_of old)) old new

-- of a block of this line
abbrev pub LowersStmts : Program → ℕ → Stmts → Draft → Draft → Type 0
LowersStmts p line ss old new = Lowers (stmts_rows_under old.marks (stmts_meant p ss (scope_of old))) (OPS_FOR_SIZE * sizes_at ss (objects_in old.marks)) (stmts_size ss) (stmts_cells ss (declared_cells p)) (stmts_scopes ss) (λ code. StmtsAt code old.marks line (stmts_meant p ss (scope_of old))) (scope_behind p ss (scope_of old)) old new

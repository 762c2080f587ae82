-- What statements that enable or disable events do to a draft.
use Rattle.std.specs.Prelude.{ℕ, ◌+◌, ◌*◌, List}
use Rattle.uc_tree.specs.declared.kinds.EventName.{EventName}
use Rattle.uc_tree.specs.declared.limits.TheConstants.{OPS_FOR_SIZE}
use Rattle.uc_tree.specs.Cells.{declared_cells, stmt_cells}
use Rattle.uc_tree.specs.Programs.{Program}
use Rattle.uc_tree.specs.Scopes.{alone_scopes, stmt_scopes}
use Rattle.uc_tree.specs.Sizes.{size_at}
use Rattle.uc_tree.specs.Source as source
use Rattle.uc_tree.specs.Statements.{Stmt}
use Rattle.uc_tree.specs.StatementSizes.{stmt_size}
use Rattle.uc_resolve.specs.Resolve.{Scope, events_meant, scope_past, stmt_meant, within_events}
use Rattle.uc_code.specs.declared.op.Op.TheVariants as op
use Rattle.uc_code.specs.declared.rows.CodeMark.{CodeMark}
use Rattle.uc_code.specs.CodeShapes.{Both, One, PollAt}
use Rattle.uc_code.specs.Drafts.{Draft}
use Rattle.uc_code.specs.Layout.{Laid}
use Rattle.uc_code.specs.Lowered.{EventAt}
use Rattle.uc_lower_stmt.specs.declared.enabling.Enabling.{Enabling}
use Rattle.uc_lower_stmt.specs.declared.enabling.Enabling.TheVariants as enabling
use Rattle.uc_lower_stmt.specs.Marked.{objects_in}
use Rattle.uc_lower_stmt.specs.SourceRows.{event_rows_under}
use Rattle.uc_lower_stmt.specs.LowersStatement.{Lowers, scope_of}

-- the op that enables or disables events, of which a cell keeps which were enabled before, and what is delivered then
abbrev pub SwitchCode : Enabling → ℕ → ℕ → ℕ → List CodeMark → Laid → ℕ → ℕ → Type 0
SwitchCode enabling.Enable events cell line ms code = Both (One code (op.Enable events cell) line) (PollAt code ms line)
SwitchCode enabling.Disable events cell line ms code = One code (op.Disable events cell) line

-- what such a statement stands for, where a cell keeps the events and this is done with them enabled or disabled
abbrev pub enabling_as : Enabling → ℕ → ℕ → ℕ → source.Stmt → source.EventStmt
enabling_as enabling.Enable line events cell s = source.Enable line events cell s
enabling_as enabling.Disable line events cell s = source.Disable line events cell s

abbrev pub enabling_meant : Program → Enabling → ℕ → List EventName → Stmt → Scope → source.EventStmt
enabling_meant p how line events body s = enabling_as how line (events_meant p events) s.hidden (stmt_meant p body (within_events p s))

-- one in this line
abbrev pub LowersEnabling : Program → Enabling → ℕ → List EventName → Stmt → Draft → Draft → Type 0
LowersEnabling p how line events body old new =
    Lowers (event_rows_under old.marks (enabling_meant p how line events body (scope_of old))) (OPS_FOR_SIZE * (1 + size_at body (objects_in old.marks + 1))) (stmt_size body) (stmt_cells body (declared_cells p)) (alone_scopes body + stmt_scopes body)
    (λ code. EventAt code old.marks (enabling_meant p how line events body (scope_of old))) (scope_past p body (within_events p (scope_of old))) old new

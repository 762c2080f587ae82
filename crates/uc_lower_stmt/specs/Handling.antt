-- What the handlers of a guarded block do to a draft.
use Rattle.std.specs.Prelude.{◌≡◌, ℕ, ◌+◌, ◌*◌, ◌≤◌, Bool, List, Option, length}
use Rattle.uc_tree.specs.declared.limits.TheConstants.{OPS_FOR_SIZE}
use Rattle.uc_tree.specs.Cells.{declared_cells, handler_cells, handlers_cells, stmts_cells}
use Rattle.uc_tree.specs.Exits.{exits_handler, exits_handlers}
use Rattle.uc_tree.specs.Hidden.{KEPT_CELLS}
use Rattle.uc_tree.specs.Programs.{Program}
use Rattle.uc_resolve.specs.Resolve.{Scope, event_of_handler, handlers_meant, in_handler, scope_behind, scope_past_all, scope_past_handler, stmts_meant, takes_resumptions, with_event}
use Rattle.uc_tree.specs.Scopes.{handler_scopes, handlers_scopes, stmts_scopes}
use Rattle.uc_tree.specs.Source.{Block, EventStmt, Nil, Then, Try}
use Rattle.uc_tree.specs.Statements as tree
use Rattle.uc_tree.specs.StatementSizes.{handler_size, handlers_size, stmts_size}
use Rattle.uc_code.specs.declared.rows.CodeMark.{CodeMark}
use Rattle.uc_code.specs.Drafts.{Draft}
use Rattle.uc_code.specs.Layout.{Laid, handlers, laid_in}
use Rattle.uc_code.specs.Lowered.{EventAt, HandlerBy, HandlersAt, IsNamed, KeepsAt, NamedAt, StmtsAt, handler_of}
use Rattle.uc_code.specs.CodeShapes.{Both, HandledAt, HandlerAt}
use Rattle.uc_lower_stmt.specs.Guarding.{KeptUnder, LowersFrom}
use Rattle.uc_lower_stmt.specs.Marked.{objects_in}
use Rattle.uc_lower_stmt.specs.LowersStatement.{Lowers, scope_of, sizes_at}
use Rattle.uc_lower_stmt.specs.RowFit.{RowsFit}
use Rattle.uc_lower_stmt.specs.SourceRows.{event_rows_under, handled_rows_under, handlers_rows_under}

-- one handler

-- the code of a handler with this row, which goes on by this pad
abbrev pub HandlerCode : Program → ℕ → ℕ → List CodeMark → tree.Handler → Scope → Laid → ℕ → ℕ → Type 0
HandlerCode p row pad ms (tree.Handles pos kind event param brace body) s code =
    NamedAt code (event_of_handler p event) (HandledAt code row (handler_of (takes_resumptions kind) (event_of_handler p event) (length (handlers ms))) (Both (KeepsAt code brace.line s.hidden)
    (HandlerBy code (takes_resumptions kind) ms pad brace.line (λ ns. StmtsAt code ns brace.line (stmts_meant p body (in_handler p (tree.Handles pos kind event param brace body) s))))))

-- a draft in which a handler of this line begins: its row has it, its event is kept, and its parameter is in scope
pub record EntersHandler (p : Program) (row : ℕ) (resumes : Bool) (event param : Option (List ℕ)) (line : ℕ) (old new : Draft) : Type 0 where
  pub rest : new ≡ record old { place = new.place; ops = new.ops; rows = new.rows; settled = new.settled; scopes = new.scopes; names = new.names; handled = new.handled; hidden = new.hidden }
  pub place : new.place ≡ record old.place { scope = new.place.scope }
  pub scope : scope_of new ≡ record (with_event p param event (scope_of old)) { handled = old.hidden; hidden = old.hidden + KEPT_CELLS }
  pub opened : new.scopes ≡ old.scopes + 1
  pub kept : KeptUnder row (laid_in old) (laid_in new)
  pub rows : RowsFit 1 0 old new
  pub room : length new.ops ≤ length old.ops + 6
  pub named : IsNamed (event_of_handler p event)
  pub handler : HandlerAt (laid_in new) row (handler_of resumes (event_of_handler p event) (length (handlers old.marks)) (length old.ops))
  pub keeps : KeepsAt (laid_in new) line old.hidden (length old.ops) (length new.ops)

-- the statements of a handler and what is done behind them
abbrev pub LowersBody : Program → ℕ → Bool → ℕ → tree.Stmts → Draft → Draft → Type 0
LowersBody p pad resumes line body old new =
    Lowers (handled_rows_under old.marks resumes (stmts_meant p body (scope_of old))) (2 + OPS_FOR_SIZE * sizes_at body (objects_in old.marks)) (stmts_size body) (stmts_cells body (declared_cells p)) (stmts_scopes body)
    (λ code. HandlerBy code resumes old.marks pad line (λ ns. StmtsAt code ns line (stmts_meant p body (scope_of old)))) (scope_behind p body (scope_of old)) old new

-- how many rows its body has
abbrev pub handler_body_rows : Program → List CodeMark → tree.Handler → Scope → ℕ
handler_body_rows p ms (tree.Handles pos kind event param brace body) s = handled_rows_under ms (takes_resumptions kind) (stmts_meant p body (in_handler p (tree.Handles pos kind event param brace body) s))

abbrev pub LowersHandler : Program → ℕ → ℕ → tree.Handler → Draft → Draft → Type 0
LowersHandler p row pad h old new =
    LowersFrom 1 (handler_body_rows p old.marks h (scope_of old)) row (OPS_FOR_SIZE * (handler_size h + exits_handler h (objects_in old.marks))) (handler_size h) (handler_cells h (declared_cells p)) (handler_scopes h) (HandlerCode p row pad old.marks h (scope_of old)) (scope_past_handler p h (scope_of old)) old new

-- all handlers of a block

abbrev pub past_handlers : Program → tree.Handlers → Scope → Scope
past_handlers p tree.NoHandlers s = s
past_handlers p (tree.MoreHandlers h hs) s = past_handlers p hs (scope_past_handler p h s)

abbrev pub LowersHandlers : Program → ℕ → ℕ → tree.Handlers → Draft → Draft → Type 0
LowersHandlers p first pad hs old new =
    LowersFrom (length (tree.handler_list hs)) (handlers_rows_under old.marks (handlers_meant p hs (scope_of old))) first (OPS_FOR_SIZE * (handlers_size hs + exits_handlers hs (objects_in old.marks))) (handlers_size hs) (handlers_cells hs (declared_cells p)) (handlers_scopes hs)
    (λ code. HandlersAt code old.marks first pad (handlers_meant p hs (scope_of old))) (past_handlers p hs (scope_of old)) old new

-- a guarded block of this line, whose own block has that of its brace
abbrev pub try_meant : Program → ℕ → ℕ → tree.Stmts → tree.Handlers → Scope → EventStmt
try_meant p line brace body hs s = Try line (Then (Block brace (stmts_meant p body s)) Nil) (handlers_meant p hs (scope_past_all p body s))

abbrev pub LowersTry : Program → ℕ → ℕ → tree.Stmts → tree.Handlers → Draft → Draft → Type 0
LowersTry p line brace body hs old new =
    Lowers (event_rows_under old.marks (try_meant p line brace body hs (scope_of old))) (OPS_FOR_SIZE * (1 + sizes_at body (objects_in old.marks) + (handlers_size hs + exits_handlers hs (objects_in old.marks)))) (stmts_size body + handlers_size hs)
    (stmts_cells body (declared_cells p) + handlers_cells hs (declared_cells p)) (1 + stmts_scopes body + handlers_scopes hs)
    (λ code. EventAt code old.marks (try_meant p line brace body hs (scope_of old))) (past_handlers p hs (scope_past_all p body (scope_of old))) old new

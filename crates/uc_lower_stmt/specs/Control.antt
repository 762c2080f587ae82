-- What lowering control does to a draft.
use Rattle.std.specs.Prelude.{◌≡◌, ℕ, ◌+◌, ◌*◌, pos, List, Bool, true, false, Option, Some, None, length}
use Rattle.uc_tree.specs.declared.kinds.Base.{Base}
use Rattle.uc_tree.specs.declared.limits.TheConstants.{OPS_FOR_SIZE}
use Rattle.uc_tree.specs.Expressions as tree
use Rattle.uc_tree.specs.ExpressionSizes.{expr_size}
use Rattle.uc_tree.specs.Statements.{Declarator, ForStart, Stmt, Declare, MaybeStmt, NoStmt, OneStmt}
use Rattle.uc_tree.specs.StatementSizes.{declarators_size, for_start_size, maybe_expr_size, maybe_stmt_size, stmt_size}
use Rattle.uc_tree.specs.Exits.{declares, exits_maybe, for_declares}
use Rattle.uc_tree.specs.Objects.{making}
use Rattle.uc_tree.specs.Sizes.{size_at}
use Rattle.uc_tree.specs.Scopes.{alone_scopes, stmt_scopes, maybe_scopes}
use Rattle.uc_tree.specs.Cells.{declared_cells, declarators_cells, for_cells, stmt_cells, maybe_cells}
use Rattle.uc_tree.specs.Programs.{Program}
use Rattle.uc_tree.specs.Source as source
use Rattle.uc_tree.specs.Source.{Order, TestFirst, BodyFirst, NoTest, Expr, Literal}
use Rattle.uc_resolve.specs.Resolve.{Scope, context_at, value_in_scope, declared_alone, declared_then, start_then, stmt_then, stmt_meant, maybe_meant, scope_after, scope_past, with_all, return_meant, for_scope, order_of, test_of, step_of}
use Rattle.uc_code.specs.declared.op.Op.TheVariants as op
use Rattle.uc_code.specs.declared.rows.CodeMark.{CodeMark}
use Rattle.uc_code.specs.Drafts.{Draft, patched}
use Rattle.uc_code.specs.Layout.{Laid}
use Rattle.uc_code.specs.CodeShapes.{One, Both, begin_at, BackAt}
use Rattle.uc_code.specs.Lowered.{ExprAt, StepAt, StmtAt}
use Rattle.uc_lower_expr.specs.Meanings.{making_of}
use Rattle.uc_lower_stmt.specs.declared.stmt.Objects.{Objects}
use Rattle.uc_lower_stmt.specs.declared.turning.Turning.{Turning}
use Rattle.uc_lower_stmt.specs.declared.turning.Turning.TheVariants as turning
use Rattle.uc_lower_stmt.specs.Marked.{objects_in}
use Rattle.uc_lower_stmt.specs.OpenScopes.{Lays}
use Rattle.uc_lower_stmt.specs.SourceRows.{stmt_rows_under}
use Rattle.uc_lower_stmt.specs.LowersStatement.{Lowers, scope_of}

-- how a loop turns, by what, and how large that is

abbrev pub turning_order : Turning → Order
turning_order (turning.TestFirst e) = TestFirst
turning_order (turning.BodyFirst e) = BodyFirst
turning_order turning.NoTest = NoTest

abbrev pub turning_test : Program → Scope → Turning → Expr
turning_test p s (turning.TestFirst e) = value_in_scope (context_at p s) e.now
turning_test p s (turning.BodyFirst e) = value_in_scope (context_at p s) e.now
turning_test p s turning.NoTest = Literal (pos 1)

abbrev pub turning_size : Turning → ℕ
turning_size (turning.TestFirst e) = expr_size e.now
turning_size (turning.BodyFirst e) = expr_size e.now
turning_size turning.NoTest = 0

-- the code of parts of statements

abbrev pub BeginCode : ℕ → Laid → ℕ → ℕ → Type 0
BeginCode line code = Both (One code (op.Jump 0) line) (Both (One code (op.Jump 0) line) (Both (One code (op.Jump 0) line) (One code op.Tick line)))

abbrev pub StepCode : Program → ℕ → List CodeMark → Scope → Option tree.Expr → Laid → ℕ → ℕ → Type 0
StepCode p line ms s step code = StepAt code line ms (step_of p s step)

abbrev pub BackCode : Program → ℕ → List CodeMark → Scope → Turning → ℕ → Laid → ℕ → ℕ → Type 0
BackCode p line ms s t turn code = BackAt code (turning_order t) (ExprAt code line ms (turning_test p s t)) turn line

abbrev pub ReturnCode : Program → ℕ → List CodeMark → Scope → Option tree.Expr → Laid → ℕ → ℕ → Type 0
ReturnCode p line ms s value code = StmtAt code ms (source.Return line (return_meant p s value))

-- the jump and the pads of a loop that begins at start
abbrev pub EndsLoop : Order → ℕ → ℕ → ℕ → Draft → Draft → Type 0
EndsLoop order start step_at test_at old new = new ≡ record old { ops = patched (patched (patched old.ops start (op.Jump (begin_at order (start + 3) test_at))) (start + 1) (op.Jump (length old.ops))) (start + 2) (op.Jump step_at) }

abbrev pub is_declaration : Stmt → Bool
is_declaration (Declare place b ds) = true
is_declaration _ = false

-- a statement that is itself that of another, of which no name is left; one that may be missing

abbrev pub LowersAlone : Program → Stmt → Draft → Draft → Type 0
LowersAlone p s old new = Lowers (stmt_rows_under old.marks (stmt_meant p s (scope_of old))) (OPS_FOR_SIZE * size_at s (objects_in old.marks)) (stmt_size s) (stmt_cells s (declared_cells p)) (alone_scopes s + stmt_scopes s) (λ code. StmtAt code old.marks (stmt_meant p s (scope_of old))) (scope_past p s (scope_of old)) old new

abbrev pub maybe_past : Program → MaybeStmt → Scope → Scope
maybe_past p NoStmt s = s
maybe_past p (OneStmt body) s = scope_past p body s

abbrev pub maybe_at_size : MaybeStmt → ℕ → ℕ
maybe_at_size m k = maybe_stmt_size m + exits_maybe m k

abbrev pub LowersMaybe : Program → MaybeStmt → Draft → Draft → Type 0
LowersMaybe p m old new = Lowers (stmt_rows_under old.marks (maybe_meant p m (scope_of old))) (OPS_FOR_SIZE * maybe_at_size m (objects_in old.marks)) (maybe_stmt_size m) (maybe_cells m (declared_cells p)) (maybe_scopes m) (λ code. StmtAt code old.marks (maybe_meant p m (scope_of old))) (maybe_past p m (scope_of old)) old new

-- a choice, a loop, a `for`

abbrev pub if_meant : Program → ℕ → tree.Expr → Stmt → MaybeStmt → Scope → source.Stmt
if_meant p line test chosen other s = source.If line (value_in_scope (context_at p s) test) (stmt_meant p chosen s) (maybe_meant p other (scope_past p chosen s))

abbrev pub LowersIf : Program → ℕ → tree.Expr → Stmt → MaybeStmt → Draft → Draft → Type 0
LowersIf p line test chosen other old new =
    Lowers (stmt_rows_under old.marks (if_meant p line test chosen other (scope_of old))) (OPS_FOR_SIZE * (1 + expr_size test + size_at chosen (objects_in old.marks) + maybe_at_size other (objects_in old.marks))) (stmt_size chosen + maybe_stmt_size other) (stmt_cells chosen (declared_cells p) + maybe_cells other (declared_cells p)) (alone_scopes chosen + stmt_scopes chosen + maybe_scopes other)
    (λ code. StmtAt code old.marks (if_meant p line test chosen other (scope_of old)))
    (maybe_past p other (scope_past p chosen (scope_of old))) old new

abbrev pub loop_meant : Program → ℕ → Order → Expr → Option tree.Expr → Stmt → Scope → source.Stmt
loop_meant p line order test step body s = source.Loop line order test (step_of p s step) (stmt_meant p body s)

abbrev pub LowersLoop : Program → ℕ → Turning → Option tree.Expr → Stmt → Draft → Draft → Type 0
LowersLoop p line t step body old new =
    Lowers (stmt_rows_under old.marks (loop_meant p line (turning_order t) (turning_test p (scope_of old) t) step body (scope_of old))) (OPS_FOR_SIZE * (1 + turning_size t + maybe_expr_size step + size_at body (objects_in old.marks))) (stmt_size body) (stmt_cells body (declared_cells p)) (alone_scopes body + stmt_scopes body)
    (λ code. StmtAt code old.marks (loop_meant p line (turning_order t) (turning_test p (scope_of old) t) step body (scope_of old)))
    (scope_past p body (scope_of old)) old new

-- a declaration of objects

abbrev pub DeclaresObjects : Program → Stmt → Option Objects → Type 0
DeclaresObjects p (Declare place b ds) None = making p b ≡ None
DeclaresObjects p (Declare place b ds) (Some o) = (making p b ≡ Some (making_of p o.made)) × ((b ≡ o.base.now) × (ds ≡ o.declarators.now))
DeclaresObjects p s None = Unit {0}
DeclaresObjects p s (Some o) = ⊥

-- a declaration that is a statement of its own
abbrev pub LowersDeclaration : Program → ℕ → Base → List Declarator → Draft → Draft → Type 0
LowersDeclaration p line b ds old new =
    Lowers (stmt_rows_under old.marks (declared_alone p (making p b) line b ds (scope_of old))) (OPS_FOR_SIZE * declarators_size ds) 0 (declarators_cells (declared_cells p b) ds) 0 (λ code. StmtAt code old.marks (declared_alone p (making p b) line b ds (scope_of old))) (with_all p (scope_of old) b ds) old new

-- one in a block of a line, and any statement in it
abbrev pub LaysDeclaration : Program → ℕ → ℕ → Base → List Declarator → Draft → Draft → Type 0
LaysDeclaration p line block b ds old new =
    Lays (OPS_FOR_SIZE * declarators_size ds) 0 (declarators_cells (declared_cells p b) ds) (length ds) 0 block (declared_then p (making p b) line b ds (scope_of old)) (with_all p (scope_of old) b ds) old new

abbrev pub LaysStmt : Program → ℕ → Stmt → Draft → Draft → Type 0
LaysStmt p block s old new =
    Lays (OPS_FOR_SIZE * size_at s (objects_in old.marks)) (stmt_size s) (stmt_cells s (declared_cells p)) (declares s) (stmt_scopes s) block (stmt_then p s (scope_of old) (stmt_meant p s (scope_of old))) (scope_after p s (scope_of old)) old new

-- what a `for` of this line begins with
abbrev pub LaysStart : Program → ℕ → ForStart → Draft → Draft → Type 0
LaysStart p line start old new =
    Lays (OPS_FOR_SIZE * for_start_size start) 0 (for_cells start (declared_cells p)) (for_declares start) 0 line (start_then p line start (scope_of old)) (for_scope p start (scope_of old)) old new

abbrev pub for_past : Program → ForStart → Stmt → Scope → Scope
for_past p start body s = record (scope_past p body (for_scope p start s)) { names = s.names }

abbrev pub for_meant : Program → ℕ → ForStart → Option tree.Expr → Option tree.Expr → Stmt → Scope → source.Stmt
for_meant p line start test step body s = source.Block line (start_then p line start s (source.Then (loop_meant p line (order_of p test) (test_of p (for_scope p start s) test) step body (for_scope p start s)) source.Nil))

abbrev pub LowersFor : Program → ℕ → ForStart → Option tree.Expr → Option tree.Expr → Stmt → Draft → Draft → Type 0
LowersFor p line start test step body old new =
    Lowers (stmt_rows_under old.marks (for_meant p line start test step body (scope_of old))) (OPS_FOR_SIZE * (1 + for_start_size start + maybe_expr_size test + maybe_expr_size step + size_at body (objects_in old.marks + for_declares start))) (stmt_size body) (for_cells start (declared_cells p) + stmt_cells body (declared_cells p)) (1 + alone_scopes body + stmt_scopes body)
    (λ code. StmtAt code old.marks (for_meant p line start test step body (scope_of old)))
    (for_past p start body (scope_of old)) old new

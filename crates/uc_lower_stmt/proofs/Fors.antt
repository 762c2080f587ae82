-- A `for`: what it begins with, its loop, and the end of its scope.
use Rattle.std.proofs.Common.{◌≡◌, ℕ, ◌+◌, ◌*◌, ◌-◌, ◌≤◌, List, take, Option, length, refl, ap, sym, subst, ◌∙◌, arith}
use Rattle.uc_tree.specs.declared.limits.TheConstants.{OPS_FOR_SIZE}
use Rattle.uc_tree.specs.declared.pos.Pos.{Pos}
use Rattle.uc_tree.specs.declared.kinds.Base.{Base}
use Rattle.uc_tree.specs.declared.declare.ForForm.{ForForm}
use Rattle.uc_tree.specs.StatementViews.{for_at}
use Rattle.uc_tree.specs.Expressions as tree
use Rattle.uc_tree.specs.ExpressionSizes.{expr_size}
use Rattle.uc_tree.specs.Statements.{Declarator, ForStart, NoFor, ForDeclare, ForEvaluate, Stmt}
use Rattle.uc_tree.specs.StatementSizes.{maybe_expr_size, stmt_size}
use Rattle.uc_tree.specs.Exits.{for_declares}
use Rattle.uc_tree.specs.Sizes.{size_at}
use Rattle.uc_tree.specs.Scopes.{alone_scopes, stmt_scopes}
use Rattle.uc_tree.specs.Cells.{declared_cells, stmt_cells}
use Rattle.uc_tree.specs.Programs.{Program}
use Rattle.uc_tree.specs.Source as source
use Rattle.uc_tree.specs.Source.{Order, Expr}
use Rattle.uc_resolve.specs.Resolve.{Scope, meant, scope_past, for_scope, order_of, test_of}
use Rattle.uc_code.specs.declared.op.Op.TheVariants as op
use Rattle.uc_code.specs.declared.draft_parts.OuterScope.{OuterScope}
use Rattle.uc_code.specs.Drafts.{Draft}
use Rattle.uc_code.specs.Lowered.{StmtAt}
use Rattle.uc_lower_expr.specs.DraftGrowth.{Adds, ExprCode, OpCode}
use Rattle.uc_lower_expr.specs.Contexts.{context_in}
use Rattle.uc_lower_expr.proofs.Adding.{adds_both}
use Rattle.uc_lower_expr.proofs.Settled.{expr_stable}
use Rattle.uc_lower_stmt.specs.declared.turning.Turning.{Turning}
use Rattle.uc_lower_stmt.specs.Blocks.{EndsScopes}
use Rattle.uc_lower_stmt.specs.Control.{LaysDeclaration, LaysStart, LowersFor, LowersLoop, loop_meant, turning_order, turning_size, turning_test}
use Rattle.uc_lower_stmt.specs.Marked.{objects_in}
use Rattle.uc_lower_stmt.specs.LowersStatement.{Lowers, scope_of}
use Rattle.uc_lower_stmt.proofs.Growth.{exits_grow}
use Rattle.uc_lower_stmt.proofs.Joined.{lowers_adds, lowers_as, lowers_nothing}
use Rattle.uc_lower_stmt.proofs.Laying.{lays_as, lays_ended, lays_join, lays_one}
use Rattle.uc_lower_stmt.proofs.Scoping.{opened, lowers_scoped, for_added, taken}
use Rattle.uc_lower_stmt.specs.SourceRows.{stmt_rows_under}

-- what it begins with

start_as : (p : Program) (line : ℕ) (x y : ForStart) (old new : Draft) → x ≡ y → LaysStart p line x old new → LaysStart p line y old new
start_as p line x y old new e h = subst (λ z. LaysStart p line z old new) e h

pub arm_start_nothing : (p : Program) (line : ℕ) (y : ForStart) (old : Draft) → NoFor ≡ y → LaysStart p line y old old
arm_start_nothing p line y old e =
    let none : Lowers (stmt_rows_under old.marks (source.Skip line)) 0 0 0 0 (λ code. StmtAt code old.marks (source.Skip line)) (scope_of old) old old = lowers_nothing old in
    start_as p line NoFor y old old e (lays_one line none)

pub arm_start_declare : (p : Program) (line : ℕ) (y : ForStart) (place : Pos) (b : Base) (xs ys : List Declarator) (old new : Draft) → ForDeclare place b ys ≡ y → xs ≡ ys → LaysDeclaration p line line b xs old new → LaysStart p line y old new
arm_start_declare p line y place b xs ys old new e i a = start_as p line (ForDeclare place b xs) y old new (ap (λ (l : List Declarator). ForDeclare place b l) i ∙ e) a

pub arm_start_evaluate : (p : Program) (line : ℕ) (y : ForStart) (e : tree.Expr) (old mid new : Draft) → ForEvaluate e ≡ y → 1 ≤ expr_size e → Adds (OPS_FOR_SIZE * expr_size e - 2) (ExprCode line old.marks (meant (context_in p old) e).expr) old mid → Adds 1 (OpCode line op.Discard) mid new → LaysStart p line y old new
arm_start_evaluate p line y e old mid new is l a b =
    let one : Lowers (stmt_rows_under old.marks (source.Evaluate line (meant (context_in p old) e).expr)) (OPS_FOR_SIZE * expr_size e - 2 + 1) 0 0 0 (λ code. StmtAt code old.marks (source.Evaluate line (meant (context_in p old) e).expr)) (scope_of old) old new =
    lowers_adds 0 0 (adds_both (expr_stable line old.marks (meant (context_in p old) e).expr) a b) in
    start_as p line (ForEvaluate e) y old new is (lays_as (lays_one line one) refl (λ ss. refl) (omega (arith, l)) (omega arith) (omega arith) (omega arith) (omega arith))

pub for_is : (f g : ForForm) (s : ForStart) → f ≡ g → for_at f ≡ s → for_at g ≡ s
for_is f g s e h = ap for_at (sym e) ∙ h

-- the whole

loop_as : (p : Program) (line : ℕ) (t : Turning) (test step : Option tree.Expr) (body : Stmt) (s : Scope) (n : ℕ) (old new : Draft) → scope_of old ≡ s → turning_order t ≡ order_of p test → turning_test p s t ≡ test_of p s test
    → Lowers (stmt_rows_under old.marks (loop_meant p line (turning_order t) (turning_test p (scope_of old) t) step body (scope_of old))) n (stmt_size body) (stmt_cells body (declared_cells p)) (alone_scopes body + stmt_scopes body) (λ code. StmtAt code old.marks (loop_meant p line (turning_order t) (turning_test p (scope_of old) t) step body (scope_of old))) (scope_past p body (scope_of old)) old new
    → Lowers (stmt_rows_under old.marks (loop_meant p line (order_of p test) (test_of p s test) step body s)) n (stmt_size body) (stmt_cells body (declared_cells p)) (alone_scopes body + stmt_scopes body) (λ code. StmtAt code old.marks (loop_meant p line (order_of p test) (test_of p s test) step body s)) (scope_past p body s) old new
loop_as p line t test step body s n old new f o q h =
    subst (λ (x : Expr). Lowers (stmt_rows_under old.marks (loop_meant p line (order_of p test) x step body s)) n (stmt_size body) (stmt_cells body (declared_cells p)) (alone_scopes body + stmt_scopes body) (λ code. StmtAt code old.marks (loop_meant p line (order_of p test) x step body s)) (scope_past p body s) old new) q (
    subst (λ (x : Order). Lowers (stmt_rows_under old.marks (loop_meant p line x (turning_test p s t) step body s)) n (stmt_size body) (stmt_cells body (declared_cells p)) (alone_scopes body + stmt_scopes body) (λ code. StmtAt code old.marks (loop_meant p line x (turning_test p s t) step body s)) (scope_past p body s) old new) o (
    subst (λ (u : Scope). Lowers (stmt_rows_under old.marks (loop_meant p line (turning_order t) (turning_test p u t) step body u)) n (stmt_size body) (stmt_cells body (declared_cells p)) (alone_scopes body + stmt_scopes body) (λ code. StmtAt code old.marks (loop_meant p line (turning_order t) (turning_test p u t) step body u)) (scope_past p body u) old new) f h))

pub arm_for : (p : Program) (line count : ℕ) (start : ForStart) (test step : Option tree.Expr) (body : Stmt) (t : Turning) (out : OuterScope) (old d1 d2 d3 d4 new : Draft) → out ≡ record { names = length old.names; scope = old.place.scope } → d1 ≡ opened old
    → count ≡ length d1.marks → LaysStart p line start d1 d2 → turning_order t ≡ order_of p test → ((s : Scope) → turning_test p s t ≡ test_of p s test) → turning_size t ≡ maybe_expr_size test → LowersLoop p line t step body d2 d3 → EndsScopes count d3 d4
    → new ≡ record d4 { place = record d4.place { scope = out.scope }; names = take out.names d4.names } → LowersFor p line start test step body old new
arm_for p line count start test step body t out old d1 d2 d3 d4 new oe e1 ce h o q z k w e2 =
    let s : Scope = scope_of old in
    let fs : Scope = for_scope p start s in
    let h1 : LaysStart p line start (opened old) d2 = subst (λ (d : Draft). LaysStart p line start d d2) e1 h in
    let c1 : count ≡ length old.marks = ce ∙ ap (λ (d : Draft). length d.marks) e1 in
    let most = h1.objects in
    let grow = exits_grow body (objects_in d2.marks) (objects_in old.marks + for_declares start) most in
    let k1 = loop_as p line t test step body fs (OPS_FOR_SIZE * (1 + turning_size t + maybe_expr_size step + size_at body (objects_in d2.marks))) d2 d3 h1.scope o (q fs) k in
    let r = for_added p start s in
    let ended = lays_ended count c1 (lays_join h1 (lays_one line k1)) w in
    lowers_as (lowers_scoped out new oe (taken old.names fs.names r.0 r.1) ended e2) refl (λ code x y g. g) (omega (arith, z, grow)) (omega arith) (omega arith) (omega arith)

-- whether there is room for the loop behind it
pub loop_room : (p : Program) (line : ℕ) (start : ForStart) (body : Stmt) (old mid : Draft) → LaysStart p line start old mid → size_at body (objects_in mid.marks) ≤ size_at body (objects_in old.marks + for_declares start)
loop_room p line start body old mid h = let most = h.objects in let grow = exits_grow body (objects_in mid.marks) (objects_in old.marks + for_declares start) most in omega arith

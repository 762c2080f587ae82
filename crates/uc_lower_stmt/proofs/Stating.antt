-- One lemma for each form of statement that lowering writes.
use Rattle.std.proofs.Common.{◌≡◌, ℕ, zero, suc, ◌+◌, ◌*◌, ◌-◌, ◌≤◌, ◌<◌, Option, Some, None, Bor, List, [], ◌∷◌, ◌++◌, length, length-append, take, get_or, refl, ap, sym, subst, ◌∙◌, arith}
use Rattle.uc_tree.specs.declared.limits.TheConstants.{OPS_FOR_SIZE}
use Rattle.uc_tree.specs.declared.pos.Pos.{Pos}
use Rattle.uc_tree.specs.declared.kinds.Base.{Base}
use Rattle.uc_tree.specs.declared.stmt.StmtForm.{StmtForm}
use Rattle.uc_tree.specs.Expressions as tree
use Rattle.uc_tree.specs.Expressions.{exprs_of}
use Rattle.uc_tree.specs.ExpressionSizes.{expr_size, exprs_size}
use Rattle.uc_tree.specs.Statements.{Declarator, OutItem, ForStart, NoFor, ForDeclare, ForEvaluate, Stmt, Block, Empty, Evaluate, Declare, If, While, Do, For, Break, Continue, Return, Print, PrintTogether, Read, Migrate, Stmts, MaybeStmt, NoStmt, OneStmt, stmts_of}
use Rattle.uc_tree.specs.StatementForms.{stmt_at}
use Rattle.uc_tree.specs.StatementSizes.{out_items_size, maybe_expr_size, stmt_size, stmts_size}
use Rattle.uc_tree.specs.Cells.{declared_cells, declarators_cells, stmt_cells}
use Rattle.uc_tree.specs.Gathered.{gathered}
use Rattle.uc_tree.specs.Hidden.{hidden_in}
use Rattle.uc_tree.specs.Numbering.{own_texts, own_sites}
use Rattle.uc_tree.specs.Programs.{Program}
use Rattle.uc_tree.specs.Source.{Shape, Expr}
use Rattle.uc_tree.specs.Objects.{shape_of}
use Rattle.uc_code.specs.Layout.{Laid, laid_in}
use Rattle.uc_resolve.specs.Resolve.{Scope, context_at, meant, value_of, converted, result_of, targets_meant, scope_past, scope_after}
use Rattle.uc_code.specs.declared.op.Op.TheVariants as op
use Rattle.uc_code.specs.declared.rows.Cleaning.TheVariants as cleaning
use Rattle.uc_code.specs.declared.rows.CodeMark.{CodeMark}
use Rattle.uc_code.specs.declared.rows.CodeMark.TheVariants as mark
use Rattle.uc_code.specs.declared.rows.Way.TheVariants as way
use Rattle.uc_code.specs.declared.draft_parts.OuterScope.{OuterScope}
use Rattle.uc_code.specs.Drafts.{Draft}
use Rattle.uc_code.specs.Exits.{way_of}
use Rattle.uc_code.specs.Lowered.{ExitAt}
use Rattle.uc_code.specs.OpenRows.{exit_room}
use Rattle.uc_code.specs.Emits.{Puts}
use Rattle.uc_code.specs.RowCounts.{loop_rows, return_rows}
use Rattle.uc_code.proofs.Putting.{puts_rows}
use Rattle.uc_lower_expr.specs.declared.meaning.Scalar.{Scalar}
use Rattle.uc_lower_expr.specs.Contexts.{context_in}
use Rattle.uc_lower_expr.specs.Meanings.{shape_as}
use Rattle.uc_lower_expr.specs.DraftGrowth.{Adds, ExprCode, ConvertCode, OpCode}
use Rattle.uc_lower_expr.proofs.Adding.{adds_as, adds_both}
use Rattle.uc_lower_expr.proofs.Arms.{converted_at}
use Rattle.uc_lower_expr.proofs.Settled.{expr_stable}
use Rattle.uc_lower_stmt.specs.declared.turning.Turning.TheVariants as turning
use Rattle.uc_lower_stmt.specs.LowersStatement.{Lowers, LowersStmt, LowersStmts, scope_of}
use Rattle.uc_lower_stmt.specs.Marked.{calls_in, objects_in}
use Rattle.uc_lower_stmt.specs.Pieces.{ItemsCode, TogetherCode, TargetsCode}
use Rattle.uc_lower_stmt.specs.Control.{ReturnCode, LowersDeclaration, LowersIf, LowersLoop, LowersFor, maybe_past, for_past}
use Rattle.uc_lower_stmt.proofs.Joined.{lowers_adds, lowers_nothing, lowers_as, lowers_rows, puts_adds, puts_counted}
use Rattle.uc_lower_stmt.proofs.RowFitting.{break_long, continue_long, end_long, return_long}
use Rattle.uc_lower_stmt.proofs.Printing.{with_texts, texts_among, items_at}
use Rattle.uc_lower_stmt.proofs.Counted.{counted, counted_as, with_is, nothing_counted, texts_counted, declared_counted, behind_counted}
use Rattle.uc_lower_stmt.proofs.Scoping.{opened, lowers_scoped, back_out}

pub stmt_is : (p : Pos) (f g : StmtForm) (s : Stmt) → f ≡ g → stmt_at p f ≡ s → stmt_at p g ≡ s
stmt_is p f g s h k = ap (λ x. stmt_at p x) (sym h) ∙ k

pub as_stmt : (p : Program) (s t : Stmt) (old new : Draft) → t ≡ s → LowersStmt p t old new → LowersStmt p s old new
as_stmt p s t old new e h = subst (λ (x : Stmt). LowersStmt p x old new) e h

-- an empty statement
pub arm_empty : (p : Program) (s : Stmt) (place : Pos) (old : Draft) → Empty place ≡ s → LowersStmt p s old old
arm_empty p s place old e = as_stmt p s (Empty place) old old e (lowers_as (lowers_nothing old) (nothing_counted (scope_of old)) (λ code a z w. w) (omega arith) (omega arith) (omega arith) (omega arith))

pub arm_evaluate : (p : Program) (s : Stmt) (place : Pos) (e : tree.Expr) (old mid new : Draft) → Evaluate place e ≡ s → Adds (OPS_FOR_SIZE * expr_size e - 2) (ExprCode place.line old.marks (meant (context_in p old) e).expr) old mid → Adds 1 (OpCode place.line op.Discard) mid new → LowersStmt p s old new
arm_evaluate p s place e old mid new h a b =
    as_stmt p s (Evaluate place e) old new h (
    lowers_as (lowers_adds 0 0 (adds_both (expr_stable place.line old.marks (meant (context_in p old) e).expr) a b)) (nothing_counted (scope_of old)) (λ code x z w. w) (omega arith) (omega arith) (omega arith) (omega arith))

pub arm_migrate : (p : Program) (s : Stmt) (place : Pos) (e : tree.Expr) (old mid new : Draft) → Migrate place e ≡ s → Adds (OPS_FOR_SIZE * expr_size e - 2) (ExprCode place.line old.marks (meant (context_in p old) e).expr) old mid → Adds 1 (OpCode place.line op.Migrate) mid new → LowersStmt p s old new
arm_migrate p s place e old mid new h a b =
    as_stmt p s (Migrate place e) old new h (
    lowers_as (lowers_adds 0 0 (adds_both (expr_stable place.line old.marks (meant (context_in p old) e).expr) a b)) (nothing_counted (scope_of old)) (λ code x z w. w) (omega arith) (omega arith) (omega arith) (omega arith))

pub arm_declare : (p : Program) (s : Stmt) (place : Pos) (b : Base) (xs ys : List Declarator) (old new : Draft) → Declare place b ys ≡ s → xs ≡ ys → LowersDeclaration p place.line b xs old new → LowersStmt p s old new
arm_declare p s place b xs ys old new h i a =
    as_stmt p s (Declare place b xs) old new (ap (λ (l : List Declarator). Declare place b l) i ∙ h) (lowers_as a (declared_counted p place b xs (scope_of old)) (λ code x z w. w) (omega arith) (omega arith) (omega arith) (omega arith))

pub arm_print : (p : Program) (s : Stmt) (place : Pos) (xs ys : List OutItem) (old new : Draft) → Print place ys ≡ s → xs ≡ ys → Lowers 0 (OPS_FOR_SIZE * out_items_size xs) (out_items_size xs) 0 0 (ItemsCode place.line old.marks (items_at p (scope_of old) xs)) (with_texts (scope_of old) (texts_among xs)) old new → LowersStmt p s old new
arm_print p s place xs ys old new h i a =
    as_stmt p s (Print place xs) old new (ap (λ (l : List OutItem). Print place l) i ∙ h) (lowers_as a (texts_counted (scope_of old) (texts_among xs)) (λ code x z w. w) (omega arith) (omega arith) (omega arith) (omega arith))

pub arm_print_together : (p : Program) (s : Stmt) (place : Pos) (xs ys : List OutItem) (old new : Draft) → PrintTogether place ys ≡ s → xs ≡ ys → Lowers 0 (OPS_FOR_SIZE * (1 + out_items_size xs)) (out_items_size xs) 0 0 (TogetherCode place.line old.marks (items_at p (scope_of old) xs)) (with_texts (scope_of old) (texts_among xs)) old new → LowersStmt p s old new
arm_print_together p s place xs ys old new h i a =
    as_stmt p s (PrintTogether place xs) old new (ap (λ (l : List OutItem). PrintTogether place l) i ∙ h) (lowers_as a (texts_counted (scope_of old) (texts_among xs)) (λ code x z w. w) (omega arith) (omega arith) (omega arith) (omega arith))

pub arm_read : (p : Program) (s : Stmt) (place : Pos) (xs ys : List tree.Expr) (old new : Draft) → Read place (exprs_of ys) ≡ s → xs ≡ ys → Adds (OPS_FOR_SIZE * exprs_size (exprs_of xs)) (TargetsCode place.line old.marks (targets_meant (context_in p old) (exprs_of xs))) old new → LowersStmt p s old new
arm_read p s place xs ys old new h i a =
    as_stmt p s (Read place (exprs_of xs)) old new (ap (λ (l : List tree.Expr). Read place (exprs_of l)) i ∙ h) (lowers_as (lowers_adds 0 0 a) (nothing_counted (scope_of old)) (λ code x z w. w) (omega arith) (omega arith) (omega arith) (omega arith))

-- a block

pub arm_block : (p : Program) (s : Stmt) (place : Pos) (xs ys : List Stmt) (out : OuterScope) (old d1 d2 new : Draft) → Block place (stmts_of ys) ≡ s → xs ≡ ys
    → out ≡ record { names = length old.names; scope = old.place.scope } → d1 ≡ opened old
    → LowersStmts p place.line (stmts_of xs) d1 d2
    → new ≡ record d2 { place = record d2.place { scope = out.scope }; names = take out.names d2.names }
    → LowersStmt p s old new
arm_block p s place xs ys out old d1 d2 new h i oe e1 k e2 =
    let ts : Stmts = stmts_of xs in
    let k1 : LowersStmts p place.line ts (opened old) d2 = subst (λ (d : Draft). LowersStmts p place.line ts d d2) e1 k in
    as_stmt p s (Block place ts) old new (ap (λ (l : List Stmt). Block place (stmts_of l)) i ∙ h) (
    lowers_as (lowers_scoped out new oe (back_out p ts (scope_of old)) k1 e2)
    (ap (λ (x : Scope). let y : Scope = record x { names = old.names } in y) (behind_counted p ts (scope_of old))) (λ code x z w. w) (omega arith) (omega arith) (omega arith) (omega arith))

-- control

if_counted : (p : Program) (place : Pos) (test : tree.Expr) (chosen : Stmt) (other : MaybeStmt) (s : Scope) → maybe_past p other (scope_past p chosen s) ≡ scope_after p (If place test chosen other) s
if_counted p place test chosen NoStmt s =
    let c : s.cells + stmt_cells chosen (declared_cells p) ≡ s.cells + (stmt_cells chosen (declared_cells p) + 0) = omega arith in
    let h : s.hidden + hidden_in chosen ≡ s.hidden + (hidden_in chosen + 0) = omega arith in
    let t : s.texts + length (gathered own_texts chosen) ≡ s.texts + length (gathered own_texts chosen ++ []) = omega (arith, length-append (gathered own_texts chosen) []) in
    let x : s.sites + length (gathered (own_sites None 0) chosen) ≡ s.sites + length (gathered (own_sites None 0) chosen ++ []) = omega (arith, length-append (gathered (own_sites None 0) chosen) []) in
    counted_as s s.names _ _ _ _ _ _ _ _ c h t x
if_counted p place test chosen (OneStmt body) s =
    let c : s.cells + stmt_cells chosen (declared_cells p) + stmt_cells body (declared_cells p) ≡ s.cells + (stmt_cells chosen (declared_cells p) + stmt_cells body (declared_cells p)) = omega arith in
    let h : s.hidden + hidden_in chosen + hidden_in body ≡ s.hidden + (hidden_in chosen + hidden_in body) = omega arith in
    let t : s.texts + length (gathered own_texts chosen) + length (gathered own_texts body) ≡ s.texts + length (gathered own_texts chosen ++ gathered own_texts body) = omega (arith, length-append (gathered own_texts chosen) (gathered own_texts body)) in
    let x : s.sites + length (gathered (own_sites None 0) chosen) + length (gathered (own_sites None 0) body) ≡ s.sites + length (gathered (own_sites None 0) chosen ++ gathered (own_sites None 0) body) = omega (arith, length-append (gathered (own_sites None 0) chosen) (gathered (own_sites None 0) body)) in
    counted_as s s.names _ _ _ _ _ _ _ _ c h t x

pub arm_if : (p : Program) (s : Stmt) (place : Pos) (test : tree.Expr) (chosen chosen0 : Stmt) (other : MaybeStmt) (old new : Draft) → If place test chosen0 other ≡ s → chosen ≡ chosen0 → LowersIf p place.line test chosen other old new → LowersStmt p s old new
arm_if p s place test chosen chosen0 other old new h i a =
    as_stmt p s (If place test chosen other) old new (ap (λ (x : Stmt). If place test x other) i ∙ h) (lowers_as a (if_counted p place test chosen other (scope_of old)) (λ code x z w. w) (omega arith) (omega arith) (omega arith) (omega arith))

pub arm_while : (p : Program) (s : Stmt) (place : Pos) (test : Bor tree.Expr) (step : Option tree.Expr) (body body0 : Stmt) (old new : Draft) → While place test.now body0 ≡ s → body ≡ body0 → step ≡ None → LowersLoop p place.line (turning.TestFirst test) step body old new → LowersStmt p s old new
arm_while p s place test step body body0 old new h i n a =
    let a1 : LowersLoop p place.line (turning.TestFirst test) None body old new = subst (λ (o : Option tree.Expr). LowersLoop p place.line (turning.TestFirst test) o body old new) n a in
    as_stmt p s (While place test.now body) old new (ap (λ (x : Stmt). While place test.now x) i ∙ h) (lowers_as a1 refl (λ code x z w. w) (omega arith) (omega arith) (omega arith) (omega arith))

pub arm_do : (p : Program) (s : Stmt) (place : Pos) (test : Bor tree.Expr) (step : Option tree.Expr) (body body0 : Stmt) (old new : Draft) → Do place body0 test.now ≡ s → body ≡ body0 → step ≡ None → LowersLoop p place.line (turning.BodyFirst test) step body old new → LowersStmt p s old new
arm_do p s place test step body body0 old new h i n a =
    let a1 : LowersLoop p place.line (turning.BodyFirst test) None body old new = subst (λ (o : Option tree.Expr). LowersLoop p place.line (turning.BodyFirst test) o body old new) n a in
    as_stmt p s (Do place body test.now) old new (ap (λ (x : Stmt). Do place x test.now) i ∙ h) (lowers_as a1 refl (λ code x z w. w) (omega arith) (omega arith) (omega arith) (omega arith))

for_counted : (p : Program) (place : Pos) (start : ForStart) (test step : Option tree.Expr) (body : Stmt) (s : Scope) → for_past p start body s ≡ scope_after p (For place start test step body) s
for_counted p place NoFor test step body s =
    let c : s.cells + stmt_cells body (declared_cells p) ≡ s.cells + (0 + stmt_cells body (declared_cells p)) = omega arith in
    ap (λ (n : ℕ). counted s s.names n (s.hidden + hidden_in body) (s.texts + length (gathered own_texts body)) (s.sites + length (gathered (own_sites None 0) body))) c
for_counted p place (ForDeclare at b ds) test step body s =
    let c : s.cells + declarators_cells (declared_cells p b) ds + stmt_cells body (declared_cells p) ≡ s.cells + (declarators_cells (declared_cells p b) ds + stmt_cells body (declared_cells p)) = omega arith in
    ap (λ (x : Scope). counted x s.names (x.cells + stmt_cells body (declared_cells p)) (x.hidden + hidden_in body) (x.texts + length (gathered own_texts body)) (x.sites + length (gathered (own_sites None 0) body))) (with_is p b ds s)
    ∙ ap (λ (n : ℕ). counted s s.names n (s.hidden + hidden_in body) (s.texts + length (gathered own_texts body)) (s.sites + length (gathered (own_sites None 0) body))) c
for_counted p place (ForEvaluate e) test step body s =
    let c : s.cells + stmt_cells body (declared_cells p) ≡ s.cells + (0 + stmt_cells body (declared_cells p)) = omega arith in
    ap (λ (n : ℕ). counted s s.names n (s.hidden + hidden_in body) (s.texts + length (gathered own_texts body)) (s.sites + length (gathered (own_sites None 0) body))) c

pub arm_for_stmt : (p : Program) (s : Stmt) (place : Pos) (start : ForStart) (test step : Option tree.Expr) (body body0 : Stmt) (old new : Draft) → For place start test step body0 ≡ s → body ≡ body0 → LowersFor p place.line start test step body old new → LowersStmt p s old new
arm_for_stmt p s place start test step body body0 old new h i a =
    as_stmt p s (For place start test step body) old new (ap (λ (x : Stmt). For place start test step x) i ∙ h) (
    lowers_as a (for_counted p place start test step body (scope_of old)) (λ code x z w. w) (omega arith) (omega arith) (omega arith) (omega arith))

-- an exit cleans up each object in scope, and leaves a mutex call

calls_few : (ms : List CodeMark) → calls_in ms ≤ 1
calls_few [] = omega arith
calls_few (mark.Body routine ∷ ms) = calls_few ms
calls_few (mark.Finish main routine line row ∷ ms) = calls_few ms
calls_few (mark.Loop leave again ∷ ms) = calls_few ms
calls_few (mark.Whole leave row ∷ ms) = omega arith
calls_few (mark.Guard row ∷ ms) = calls_few ms
calls_few (mark.Clean (cleaning.Call what) line row ∷ ms) = calls_few ms
calls_few (mark.Clean cleaning.TakeDown line row ∷ ms) = calls_few ms
calls_few (mark.Clean cleaning.Forget line row ∷ ms) = calls_few ms
calls_few (mark.Clean cleaning.Leave line row ∷ ms) = omega arith
calls_few (mark.Clean cleaning.End line row ∷ ms) = calls_few ms
calls_few (mark.Clean (cleaning.Free main) line row ∷ ms) = calls_few ms
calls_few (mark.Clean (cleaning.Restore cell) line row ∷ ms) = calls_few ms
calls_few (mark.Part row ∷ ms) = calls_few ms
calls_few (mark.Elements row ∷ ms) = calls_few ms
calls_few (mark.Outward below row ∷ ms) = calls_few ms

exit_counted : (ms : List CodeMark) → exit_room ms ≤ 1 + 23 * calls_in ms + 23 * objects_in ms
exit_counted [] = omega arith
exit_counted (mark.Body routine ∷ ms) = omega arith
exit_counted (mark.Finish main routine line row ∷ ms) = omega arith
exit_counted (mark.Loop leave again ∷ ms) = exit_counted ms
exit_counted (mark.Whole leave row ∷ ms) = omega arith
exit_counted (mark.Guard row ∷ ms) = exit_counted ms
exit_counted (mark.Clean (cleaning.Call what) line row ∷ ms) = let h = exit_counted ms in omega arith
exit_counted (mark.Clean cleaning.TakeDown line row ∷ ms) = let h = exit_counted ms in omega arith
exit_counted (mark.Clean cleaning.Forget line row ∷ ms) = let h = exit_counted ms in omega arith
exit_counted (mark.Clean cleaning.Leave line row ∷ ms) = let h = exit_counted ms in omega arith
exit_counted (mark.Clean cleaning.End line row ∷ ms) = let h = exit_counted ms in omega arith
exit_counted (mark.Clean (cleaning.Free main) line row ∷ ms) = let h = exit_counted ms in omega arith
exit_counted (mark.Clean (cleaning.Restore cell) line row ∷ ms) = let h = exit_counted ms in omega arith
exit_counted (mark.Part row ∷ ms) = exit_counted ms
exit_counted (mark.Elements row ∷ ms) = exit_counted ms
exit_counted (mark.Outward below row ∷ ms) = omega arith

pub exit_few : (ms : List CodeMark) → exit_room ms ≤ 24 + 23 * objects_in ms
exit_few ms = let h = exit_counted ms in let k = calls_few ms in omega arith

pub arm_break : (p : Program) (s : Stmt) (place : Pos) (old new : Draft) → Break place ≡ s → Puts (loop_rows old.marks) (exit_room old.marks) (λ code. ExitAt code (way_of way.Break) old.marks) old new → LowersStmt p s old new
arm_break p s place old new h a =
    let few = exit_few old.marks in
    as_stmt p s (Break place) old new h (lowers_as (lowers_rows 0 0 (break_long (laid_in new) old.marks (length old.ops) (length new.ops) a.code) a) (nothing_counted (scope_of old)) (λ code x z w. w) (omega arith) (omega arith) (omega arith) (omega arith))

pub arm_continue : (p : Program) (s : Stmt) (place : Pos) (old new : Draft) → Continue place ≡ s → Puts (loop_rows old.marks) (exit_room old.marks) (λ code. ExitAt code (way_of way.Continue) old.marks) old new → LowersStmt p s old new
arm_continue p s place old new h a =
    let few = exit_few old.marks in
    as_stmt p s (Continue place) old new h (lowers_as (lowers_rows 0 0 (continue_long (laid_in new) old.marks (length old.ops) (length new.ops) a.code) a) (nothing_counted (scope_of old)) (λ code x z w. w) (omega arith) (omega arith) (omega arith) (omega arith))

value_long : (p : Program) (line : ℕ) (ms : List CodeMark) (s : Scope) (value : Option tree.Expr) (code : Laid) (a z : ℕ) → ReturnCode p line ms s value code a z → return_rows ms + a ≤ z
value_long p line ms s None code a z h = end_long code ms a z h
value_long p line ms s (Some e) code a z h =
    let m = (expr_stable line ms (converted (shape_of (result_of p s.routine)) (value_of (meant (context_at p s) e)))).rises code a h.middle h.first in
    let r = return_long code ms h.middle z h.second in
    omega arith

pub arm_return : (p : Program) (s : Stmt) (place : Pos) (value : Option tree.Expr) (old new : Draft) → Return place value ≡ s → Puts (return_rows old.marks) (OPS_FOR_SIZE * (1 + maybe_expr_size value + objects_in old.marks)) (ReturnCode p place.line old.marks (scope_of old) value) old new → LowersStmt p s old new
arm_return p s place value old new h a = as_stmt p s (Return place value) old new h (lowers_as (lowers_rows 0 0 (value_long p place.line old.marks (scope_of old) value (laid_in new) (length old.ops) (length new.ops) a.code) a) (nothing_counted (scope_of old)) (λ code x z w. w) (omega arith) (omega arith) (omega arith) (omega arith))

-- a return's value
pub arm_handed : (p : Program) (n line r : ℕ) (value : Option tree.Expr) (e : tree.Expr) (v : Scalar) (d0 d1 d2 d3 : Draft) → value ≡ Some e → r ≡ d1.place.routine → shape_of (result_of p r) ≡ shape_as v → Adds n (ExprCode line d0.marks (value_of (meant (context_in p d0) e))) d0 d1 → Adds 1 (ConvertCode line (shape_as v)) d1 d2
    → Puts (return_rows d2.marks) (exit_room d2.marks) (λ code. ExitAt code (way_of way.Value) d2.marks) d2 d3 → Puts (return_rows d0.marks) (n + 1 + exit_room d0.marks) (ReturnCode p line d0.marks (scope_of d0) value) d0 d3
arm_handed p n line r value e v d0 d1 d2 d3 is at shape a b c =
    let x : Expr = value_of (meant (context_in p d0) e) in
    let marks : d2.marks ≡ d0.marks = ap (λ (d : Draft). d.marks) b.rest ∙ ap (λ (d : Draft). d.marks) a.rest in
    let routine : d0.place.routine ≡ r = sym (ap (λ (d : Draft). d.place.routine) a.rest) ∙ sym at in
    let kept : shape_of (result_of p d0.place.routine) ≡ shape_as v = ap (λ (k : ℕ). shape_of (result_of p k)) routine ∙ shape in
    let b1 : Adds 1 (ConvertCode line (shape_of (result_of p d0.place.routine))) d1 d2 = subst (λ (y : Shape). Adds 1 (ConvertCode line y) d1 d2) (sym kept) b in
    let c1 : Puts (return_rows d0.marks) (exit_room d0.marks) (λ code. ExitAt code (way_of way.Value) d0.marks) d2 d3 = subst (λ (ms : List CodeMark). Puts (return_rows ms) (exit_room ms) (λ code. ExitAt code (way_of way.Value) ms) d2 d3) marks c in
    let y : Expr = converted (shape_of (result_of p d0.place.routine)) x in
    let whole : Adds (n + 1) (ExprCode line d0.marks y) d0 d2 = adds_as (adds_both (expr_stable line d0.marks x) a b1) (λ code u z w. converted_at d0.marks line (shape_of (result_of p d0.place.routine)) x code u z w) in
    subst (λ (o : Option tree.Expr). Puts (return_rows d0.marks) (n + 1 + exit_room d0.marks) (ReturnCode p line d0.marks (scope_of d0) o) d0 d3) (sym is) (puts_counted (omega arith) (puts_rows (expr_stable line d0.marks y) (puts_adds whole) c1))

pub arm_ended : (p : Program) (line : ℕ) (value : Option tree.Expr) (d0 d1 : Draft) → value ≡ None → Puts (return_rows d0.marks) (exit_room d0.marks) (λ code. ExitAt code (way_of way.End) d0.marks) d0 d1 → Puts (return_rows d0.marks) (exit_room d0.marks) (ReturnCode p line d0.marks (scope_of d0) value) d0 d1
arm_ended p line value d0 d1 is a = subst (λ (o : Option tree.Expr). Puts (return_rows d0.marks) (exit_room d0.marks) (ReturnCode p line d0.marks (scope_of d0) o) d0 d1) (sym is) a

-- lists of statements

pub sizes_at_item : (xs : List Stmt) (i : ℕ) (x : Stmt) → i < length xs → x ≡ get_or xs i x → stmt_size x ≤ stmts_size (stmts_of xs)
sizes_at_item [] i x h e = absurd (omega arith)
sizes_at_item (y ∷ ys) zero x h e = let a : stmt_size x ≡ stmt_size y = ap stmt_size e in omega arith
sizes_at_item (y ∷ ys) (suc i) x h e = let r = sizes_at_item ys i x (omega arith) e in omega arith

-- What lowering a loop does to a draft.
use Rattle.std.proofs.Common.{◌≡◌, ℕ, ◌+◌, ◌*◌, List, ◌∷◌, Option, Some, None, length, refl, ap, sym, subst, ◌∙◌, arith}
use Rattle.uc_tree.specs.declared.limits.TheConstants.{OPS_FOR_SIZE}
use Rattle.uc_tree.specs.Expressions as tree
use Rattle.uc_tree.specs.Statements.{Stmt}
use Rattle.uc_tree.specs.StatementSizes.{maybe_expr_size}
use Rattle.uc_tree.specs.Sizes.{size_at}
use Rattle.uc_tree.specs.Programs.{Program}
use Rattle.uc_tree.specs.Source.{Order, Expr}
use Rattle.uc_resolve.specs.Resolve.{Scope, stmt_meant, scope_past, step_of}
use Rattle.uc_code.specs.declared.op.Op.TheVariants as op
use Rattle.uc_code.specs.declared.rows.Instruction.{Instruction}
use Rattle.uc_code.specs.declared.rows.CodeMark.{CodeMark}
use Rattle.uc_code.specs.declared.rows.CodeMark.TheVariants as mark
use Rattle.uc_code.specs.Drafts.{Draft, patched}
use Rattle.uc_code.specs.Layout.{Laid, laid_in}
use Rattle.uc_code.specs.OpenRows.{left_marks}
use Rattle.uc_code.specs.CodeShapes.{Stable, pads_at, begin_at, BackAt, Turns}
use Rattle.uc_code.specs.Lowered.{ExprAt, StepAt, StmtAt}
use Rattle.uc_code.proofs.Stable.{one_stable}
use Rattle.uc_lower_expr.specs.DraftGrowth.{Adds}
use Rattle.uc_lower_expr.proofs.Settled.{both, expr_stable}
use Rattle.uc_lower_stmt.specs.declared.turning.Turning.{Turning}
use Rattle.uc_lower_stmt.specs.declared.turning.Turning.TheVariants as turning
use Rattle.uc_lower_stmt.specs.Marked.{objects_in}
use Rattle.uc_lower_stmt.specs.LowersStatement.{scope_of}
use Rattle.uc_lower_stmt.specs.Control.{BeginCode, StepCode, BackCode, EndsLoop, LowersAlone, LowersLoop, turning_order, turning_test, turning_size}
use Rattle.uc_lower_stmt.proofs.Joined.{lowers_adds, lowers_as, lowers_count, lowers_join, lowers_put}
use Rattle.uc_lower_stmt.proofs.Kept.{stmt_stable, step_stable}
use Rattle.uc_lower_stmt.proofs.Shaping.{Longer, adds_longer, lowers_longer, longer_turns, lowers_done, lowers_marked}
use Rattle.uc_lower_stmt.proofs.Choosing.{AloneIn, alone_as}
use Rattle.uc_code.proofs.Patches.{length-patched}

-- what a loop asks of the scope of its body is the same behind it

step_same : (p : Program) (body : Stmt) (s : Scope) (step : Option tree.Expr) → step_of p (scope_past p body s) step ≡ step_of p s step
step_same p body s None = refl
step_same p body s (Some e) = refl

test_same : (p : Program) (body : Stmt) (s : Scope) (t : Turning) → turning_test p (scope_past p body s) t ≡ turning_test p s t
test_same p body s (turning.TestFirst e) = refl
test_same p body s (turning.BodyFirst e) = refl
test_same p body s turning.NoTest = refl

begin_stable : (line : ℕ) → Stable (BeginCode line)
begin_stable line = both (one_stable (op.Jump 0) line) (both (one_stable (op.Jump 0) line) (both (one_stable (op.Jump 0) line) (one_stable op.Tick line)))

-- the ops of a loop with its jump and its pads
abbrev looped : Order → ℕ → ℕ → ℕ → List Instruction → List Instruction
looped order start step_at test_at ops = patched (patched (patched ops start (op.Jump (begin_at order (start + 3) test_at))) (start + 1) (op.Jump (length ops))) (start + 2) (op.Jump step_at)

length-looped : (order : Order) (start step_at test_at : ℕ) (ops : List Instruction) → length (looped order start step_at test_at ops) ≡ length ops
length-looped order start step_at test_at ops =
    let one : List Instruction = patched ops start (op.Jump (begin_at order (start + 3) test_at)) in
    let two : List Instruction = patched one (start + 1) (op.Jump (length ops)) in
    length-patched two (start + 2) (op.Jump step_at) ∙ length-patched one (start + 1) (op.Jump (length ops)) ∙ length-patched ops start (op.Jump (begin_at order (start + 3) test_at))

module _ (p : Program) (line : ℕ) (t : Turning) (step : Option tree.Expr) (body : Stmt) (old e1 m1 m2 e2 e3 e4 new : Draft) (start step_at test_at : ℕ)
    (g : Adds 4 (BeginCode line) old e1) (st : start ≡ length old.ops) (en : m1 ≡ record e1 { marks = mark.Loop (start + 1) (start + 2) ∷ e1.marks }) (h : LowersAlone p body m1 m2) (lv : e2 ≡ record m2 { marks = left_marks m2.marks })
    (sa : step_at ≡ length e2.ops) (k : Adds (OPS_FOR_SIZE * maybe_expr_size step) (StepCode p line e2.marks (scope_of e2) step) e2 e3) (ta : test_at ≡ length e3.ops)
    (j : Adds (OPS_FOR_SIZE * turning_size t + 1) (BackCode p line e3.marks (scope_of e3) t (start + 3)) e3 e4) (f : EndsLoop (turning_order t) start step_at test_at e4 new) where
  abbrev s : Scope
  s = scope_of old

  abbrev ms : List CodeMark
  ms = old.marks

  abbrev n : ℕ
  n = length old.ops

  enters : m1 ≡ record e1 { marks = pads_at n ∷ e1.marks }
  enters = en ∙ ap (λ (x : ℕ). let d : Draft = record e1 { marks = mark.Loop (x + 1) (x + 2) ∷ e1.marks } in d) st

  marks_in : m1.marks ≡ pads_at n ∷ ms
  marks_in = ap (λ (d : Draft). d.marks) enters ∙ ap (λ (ns : List CodeMark). pads_at n ∷ ns) (ap (λ (d : Draft). d.marks) g.rest)

  scope_in : scope_of m1 ≡ s
  scope_in = ap scope_of enters ∙ ap scope_of g.rest

  turn : AloneIn p body (pads_at n ∷ ms) s e1 e2
  turn = alone_as p body (pads_at n ∷ ms) s m1 e1 e2 marks_in scope_in (lowers_marked (pads_at n) e1 e2 refl enters lv h)

  marks_two : e2.marks ≡ ms
  marks_two = ap (λ (d : Draft). d.marks) turn.rest ∙ ap (λ (d : Draft). d.marks) g.rest

  steps : Adds (OPS_FOR_SIZE * maybe_expr_size step) (λ code. StepAt code line ms (step_of p s step)) e2 e3
  steps =
      subst (λ (x : Option Expr). Adds (OPS_FOR_SIZE * maybe_expr_size step) (λ code. StepAt code line ms x) e2 e3) (ap (λ (u : Scope). step_of p u step) turn.scope ∙ step_same p body s step) (
      subst (λ (ns : List CodeMark). Adds (OPS_FOR_SIZE * maybe_expr_size step) (λ code. StepAt code line ns (step_of p (scope_of e2) step)) e2 e3) marks_two k)

  marks_three : e3.marks ≡ ms
  marks_three = ap (λ (d : Draft). d.marks) k.rest ∙ marks_two

  tests : Adds (OPS_FOR_SIZE * turning_size t + 1) (λ code. BackAt code (turning_order t) (ExprAt code line ms (turning_test p s t)) (n + 3) line) e3 e4
  tests =
      subst (λ (x : ℕ). Adds (OPS_FOR_SIZE * turning_size t + 1) (λ code. BackAt code (turning_order t) (ExprAt code line ms (turning_test p s t)) (x + 3) line) e3 e4) st (
      subst (λ (x : Expr). Adds (OPS_FOR_SIZE * turning_size t + 1) (λ code. BackAt code (turning_order t) (ExprAt code line ms x) (start + 3) line) e3 e4) (ap (λ (u : Scope). turning_test p u t) (ap scope_of k.rest ∙ turn.scope) ∙ test_same p body s t) (
      subst (λ (ns : List CodeMark). Adds (OPS_FOR_SIZE * turning_size t + 1) (λ code. BackAt code (turning_order t) (ExprAt code line ns (turning_test p (scope_of e3) t)) (start + 3) line) e3 e4) marks_three j))

  is : new.ops ≡ looped (turning_order t) n (length e2.ops) (length e3.ops) e4.ops
  is = ap (λ (d : Draft). d.ops) f
      ∙ ap (λ (x : ℕ). looped (turning_order t) x step_at test_at e4.ops) st
      ∙ ap (λ (x : ℕ). looped (turning_order t) n x test_at e4.ops) sa
      ∙ ap (λ (x : ℕ). looped (turning_order t) n (length e2.ops) x e4.ops) ta

  abbrev LoopCode : Laid → ℕ → ℕ → Type 0
  LoopCode code = Turns code line (turning_order t) (ExprAt code line ms (turning_test p s t)) (StepAt code line ms (step_of p s step)) (λ m. StmtAt code (m ∷ ms) (stmt_meant p body s))

  abbrev inner : ℕ
  inner = OPS_FOR_SIZE * size_at body (objects_in ms)

  abbrev total : ℕ
  total = 4 + inner + OPS_FOR_SIZE * maybe_expr_size step + (OPS_FOR_SIZE * turning_size t + 1)

  turned : Longer total LoopCode (laid_in old) (record { ops = looped (turning_order t) n (length e2.ops) (length e3.ops) e4.ops; rows = e4.rows })
  turned =
      longer_turns line (turning_order t) inner (OPS_FOR_SIZE * maybe_expr_size step) (OPS_FOR_SIZE * turning_size t + 1)
      (λ code. ExprAt code line ms (turning_test p s t)) (λ code. StepAt code line ms (step_of p s step)) (λ code m. StmtAt code (m ∷ ms) (stmt_meant p body s))
      (expr_stable line ms (turning_test p s t)) (step_stable line ms (step_of p s step)) (λ m. stmt_stable (m ∷ ms) (stmt_meant p body s))
      (laid_in old) (laid_in e1) (laid_in e2) (laid_in e3) (laid_in e4) (adds_longer g) (lowers_longer turn) (adds_longer steps) (adds_longer tests)

  pub arm_turns : LowersLoop p line t step body old new
  arm_turns =
      let whole : Longer total LoopCode (laid_in old) (record { ops = new.ops; rows = e4.rows }) = subst (λ (l : List Instruction). Longer total LoopCode (laid_in old) (record { ops = l; rows = e4.rows })) (sym is) turned in
      let one = both (begin_stable line) (stmt_stable (pads_at n ∷ ms) (stmt_meant p body s)) in
      let two = both one (step_stable line ms (step_of p s step)) in
      let all = lowers_put two (lowers_put one (lowers_join (begin_stable line) (lowers_adds 0 0 g) turn) steps) tests in
      let ops_are : new ≡ record e4 { ops = new.ops } = f ∙ ap (λ (l : List Instruction). let d : Draft = record e4 { ops = l } in d) (sym (ap (λ (d : Draft). d.ops) f)) in
      lowers_count (omega arith) (lowers_as (lowers_done all ops_are (ap length is ∙ length-looped (turning_order t) n (length e2.ops) (length e3.ops) e4.ops) whole) refl (λ code x z w. w) (omega arith) (omega arith) (omega arith) (omega arith))

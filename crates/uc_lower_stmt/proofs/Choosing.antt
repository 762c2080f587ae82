-- What lowering a choice does to a draft.
use Rattle.std.proofs.Common.{◌≡◌, ℕ, ◌+◌, ◌*◌, List, length, refl, ap, sym, subst, ◌∙◌, arith}
use Rattle.uc_tree.specs.declared.limits.TheConstants.{OPS_FOR_SIZE}
use Rattle.uc_tree.specs.Expressions as tree
use Rattle.uc_tree.specs.ExpressionSizes.{expr_size}
use Rattle.uc_tree.specs.Statements.{Stmt, MaybeStmt}
use Rattle.uc_tree.specs.StatementSizes.{maybe_stmt_size, stmt_size}
use Rattle.uc_tree.specs.Sizes.{size_at}
use Rattle.uc_tree.specs.Scopes.{alone_scopes, stmt_scopes, maybe_scopes}
use Rattle.uc_tree.specs.Cells.{declared_cells, stmt_cells, maybe_cells}
use Rattle.uc_tree.specs.Programs.{Program}
use Rattle.uc_tree.specs.Source.{Expr}
use Rattle.uc_resolve.specs.Resolve.{Scope, meant, value_of, stmt_meant, maybe_meant, scope_past}
use Rattle.uc_code.specs.declared.op.Op.TheVariants as op
use Rattle.uc_code.specs.declared.rows.Instruction.{Instruction}
use Rattle.uc_code.specs.declared.rows.CodeMark.{CodeMark}
use Rattle.uc_code.specs.Drafts.{Draft, patched}
use Rattle.uc_code.specs.Layout.{Laid, laid_in}
use Rattle.uc_code.specs.CodeShapes.{Both, Fork}
use Rattle.uc_code.specs.Lowered.{ExprAt, StmtAt}
use Rattle.uc_code.proofs.Stable.{one_stable}
use Rattle.uc_lower_expr.specs.Contexts.{context_in}
use Rattle.uc_lower_expr.specs.DraftGrowth.{Adds, ExprCode, OpCode}
use Rattle.uc_lower_expr.proofs.Settled.{both, expr_stable}
use Rattle.uc_lower_stmt.specs.Marked.{objects_in}
use Rattle.uc_lower_stmt.specs.LowersStatement.{Lowers, scope_of}
use Rattle.uc_lower_stmt.specs.Control.{LowersAlone, LowersMaybe, LowersIf, maybe_past, maybe_at_size}
use Rattle.uc_lower_stmt.specs.SourceRows.{stmt_rows_under}
use Rattle.uc_lower_stmt.proofs.Joined.{lowers_adds, lowers_as, lowers_count, lowers_join, lowers_put}
use Rattle.uc_lower_stmt.proofs.Kept.{stmt_stable}
use Rattle.uc_lower_stmt.proofs.Shaping.{Longer, adds_longer, lowers_longer, longer_both, longer_fork, lowers_done}
use Rattle.uc_code.proofs.Patches.{length-patched}

-- a statement under these marks, in this scope
abbrev pub AloneIn : Program → Stmt → List CodeMark → Scope → Draft → Draft → Type 0
AloneIn p s ms t old new = Lowers (stmt_rows_under ms (stmt_meant p s t)) (OPS_FOR_SIZE * size_at s (objects_in ms)) (stmt_size s) (stmt_cells s (declared_cells p)) (alone_scopes s + stmt_scopes s) (λ code. StmtAt code ms (stmt_meant p s t)) (scope_past p s t) old new

-- the same code under other names of the same marks and scope
pub alone_as : (p : Program) (s : Stmt) (ms : List CodeMark) (t : Scope) (d old new : Draft) → d.marks ≡ ms → scope_of d ≡ t → AloneIn p s d.marks (scope_of d) old new → AloneIn p s ms t old new
alone_as p s ms t d old new e f h = subst (λ (u : Scope). AloneIn p s ms u old new) f (subst (λ (ns : List CodeMark). AloneIn p s ns (scope_of d) old new) e h)

abbrev pub MaybeIn : Program → MaybeStmt → List CodeMark → Scope → Draft → Draft → Type 0
MaybeIn p m ms t old new = Lowers (stmt_rows_under ms (maybe_meant p m t)) (OPS_FOR_SIZE * maybe_at_size m (objects_in ms)) (maybe_stmt_size m) (maybe_cells m (declared_cells p)) (maybe_scopes m) (λ code. StmtAt code ms (maybe_meant p m t)) (maybe_past p m t) old new

pub maybe_as : (p : Program) (m : MaybeStmt) (ms : List CodeMark) (t : Scope) (d old new : Draft) → d.marks ≡ ms → scope_of d ≡ t → MaybeIn p m d.marks (scope_of d) old new → MaybeIn p m ms t old new
maybe_as p m ms t d old new e f h = subst (λ (u : Scope). MaybeIn p m ms u old new) f (subst (λ (ns : List CodeMark). MaybeIn p m ns (scope_of d) old new) e h)

module _ (p : Program) (line : ℕ) (test : tree.Expr) (chosen : Stmt) (other : MaybeStmt) (old e1 e2 e3 e4 e5 new : Draft) (choose leave : ℕ)
    (a : Adds (OPS_FOR_SIZE * expr_size test) (ExprCode line old.marks (value_of (meant (context_in p old) test))) old e1) (ce : choose ≡ length e1.ops) (b : Adds 1 (OpCode line (op.IfZero 0)) e1 e2) (h : LowersAlone p chosen e2 e3)
    (le : leave ≡ length e3.ops) (c : Adds 1 (OpCode line (op.Jump 0)) e3 e4) (k : LowersMaybe p other e4 e5)
    (f : new ≡ record e5 { ops = patched (patched e5.ops choose (op.IfZero (leave + 1))) leave (op.Jump (length e5.ops)) }) where
  abbrev s : Scope
  s = scope_of old

  abbrev ms : List CodeMark
  ms = old.marks

  abbrev value : Expr
  value = value_of (meant (context_in p old) test)

  abbrev here : Stmt → ℕ
  here t = OPS_FOR_SIZE * size_at t (objects_in ms)

  abbrev there : ℕ
  there = OPS_FOR_SIZE * maybe_at_size other (objects_in ms)

  abbrev Chosen : Laid → ℕ → ℕ → Type 0
  Chosen code = StmtAt code ms (stmt_meant p chosen s)

  abbrev Other : Laid → ℕ → ℕ → Type 0
  Other code = StmtAt code ms (maybe_meant p other (scope_past p chosen s))

  marks_two : e2.marks ≡ ms
  marks_two = ap (λ (d : Draft). d.marks) b.rest ∙ ap (λ (d : Draft). d.marks) a.rest

  scope_two : scope_of e2 ≡ s
  scope_two = ap scope_of b.rest ∙ ap scope_of a.rest

  first : AloneIn p chosen ms s e2 e3
  first = alone_as p chosen ms s e2 e2 e3 marks_two scope_two h

  marks_four : e4.marks ≡ ms
  marks_four = ap (λ (d : Draft). d.marks) c.rest ∙ ap (λ (d : Draft). d.marks) h.rest ∙ marks_two

  scope_four : scope_of e4 ≡ scope_past p chosen s
  scope_four = ap scope_of c.rest ∙ first.scope

  second : MaybeIn p other ms (scope_past p chosen s) e4 e5
  second = maybe_as p other ms (scope_past p chosen s) e4 e4 e5 marks_four scope_four k

  abbrev made : ℕ → ℕ → List Instruction
  made x y = patched (patched e5.ops x (op.IfZero (y + 1))) y (op.Jump (length e5.ops))

  is : new.ops ≡ made (length e1.ops) (length e3.ops)
  is = ap (λ (d : Draft). d.ops) f ∙ ap (λ x. made x leave) ce ∙ ap (λ y. made (length e1.ops) y) le

  forked : Longer (here chosen + there + 2) (λ code. Fork code line (Chosen code) (Other code)) (laid_in e1) (record { ops = made (length e1.ops) (length e3.ops); rows = e5.rows })
  forked =
      longer_fork line (here chosen) there Chosen Other (stmt_stable ms (stmt_meant p chosen s)) (stmt_stable ms (maybe_meant p other (scope_past p chosen s)))
      (laid_in e1) (laid_in e2) (laid_in e3) (laid_in e4) (laid_in e5) (adds_longer b) (lowers_longer first) (adds_longer c) (lowers_longer second)

  abbrev Whole : Laid → ℕ → ℕ → Type 0
  Whole code = Both (ExprAt code line ms value) (Fork code line (Chosen code) (Other code))

  whole : Longer (OPS_FOR_SIZE * expr_size test + (here chosen + there + 2)) Whole (laid_in old) (record { ops = new.ops; rows = e5.rows })
  whole =
      subst (λ (l : List Instruction). Longer (OPS_FOR_SIZE * expr_size test + (here chosen + there + 2)) Whole (laid_in old) (record { ops = l; rows = e5.rows })) (sym is)
      (longer_both (expr_stable line ms value) (adds_longer a) forked)

  pub arm_choice : LowersIf p line test chosen other old new
  arm_choice =
      let one = both (expr_stable line ms value) (one_stable (op.IfZero 0) line) in
      let two = both one (stmt_stable ms (stmt_meant p chosen s)) in
      let three = both two (one_stable (op.Jump 0) line) in
      let all = lowers_join three (lowers_put two (lowers_join one (lowers_put (expr_stable line ms value) (lowers_adds 0 0 a) b) first) c) second in
      let ops_are : new ≡ record e5 { ops = new.ops } = f ∙ ap (λ (l : List Instruction). let d : Draft = record e5 { ops = l } in d) (sym (ap (λ (d : Draft). d.ops) f)) in
      lowers_count (omega arith) (lowers_as (lowers_done all ops_are (ap length is ∙ length-patched (patched e5.ops (length e1.ops) (op.IfZero (length e3.ops + 1))) (length e3.ops) (op.Jump (length e5.ops)) ∙ length-patched e5.ops (length e1.ops) (op.IfZero (length e3.ops + 1))) whole) refl (λ code x z w. w) (omega arith) (omega arith) (omega arith) (omega arith))

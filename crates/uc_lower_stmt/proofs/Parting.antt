-- The parts of loops.
use Rattle.std.proofs.Common.{◌≡◌, ℕ, ◌+◌, ◌*◌, ◌-◌, Option, None, Some, Bor, refl, sym, subst, arith}
use Rattle.uc_tree.specs.declared.limits.TheConstants.{OPS_FOR_SIZE}
use Rattle.uc_tree.specs.Expressions as tree
use Rattle.uc_tree.specs.ExpressionSizes.{expr_size}
use Rattle.uc_tree.specs.Programs.{Program}
use Rattle.uc_resolve.specs.Resolve.{meant, value_of}
use Rattle.uc_tree.specs.Statements.{MaybeStmt, NoStmt}
use Rattle.uc_tree.specs.StatementSizes.{maybe_expr_size}
use Rattle.uc_code.specs.declared.op.Op.TheVariants as op
use Rattle.uc_code.specs.Drafts.{Draft}
use Rattle.uc_lower_expr.specs.DraftGrowth.{Adds, ExprCode, OpCode}
use Rattle.uc_lower_expr.specs.Contexts.{context_in}
use Rattle.uc_lower_expr.proofs.Adding.{adds_nothing, adds_more, adds_both}
use Rattle.uc_lower_expr.proofs.Settled.{expr_stable}
use Rattle.uc_lower_expr.proofs.Walks.{some_size}
use Rattle.uc_lower_stmt.specs.declared.turning.Turning.{Turning}
use Rattle.uc_lower_stmt.specs.declared.turning.Turning.TheVariants as turning
use Rattle.uc_lower_stmt.specs.Control.{StepCode, BackCode, LowersMaybe, turning_size}
use Rattle.uc_lower_stmt.specs.LowersStatement.{scope_of}
use Rattle.uc_lower_stmt.proofs.Joined.{lowers_as, lowers_nothing}

-- the step

pub arm_no_step : (p : Program) (line : ℕ) (y : Option tree.Expr) (old : Draft) → y ≡ None → Adds (OPS_FOR_SIZE * maybe_expr_size y) (StepCode p line old.marks (scope_of old) y) old old
arm_no_step p line y old e = subst (λ (x : Option tree.Expr). Adds (OPS_FOR_SIZE * maybe_expr_size x) (StepCode p line old.marks (scope_of old) x) old old) (sym e) (adds_more (omega arith) (adds_nothing old))

pub arm_step : (p : Program) (line : ℕ) (y : Option tree.Expr) (e : tree.Expr) (old mid new : Draft) → y ≡ Some e → Adds (OPS_FOR_SIZE * expr_size e - 2) (ExprCode line old.marks (meant (context_in p old) e).expr) old mid → Adds 1 (OpCode line op.Discard) mid new
    → Adds (OPS_FOR_SIZE * maybe_expr_size y) (StepCode p line old.marks (scope_of old) y) old new
arm_step p line y e old mid new is a b =
    let s = some_size e in
    subst (λ (x : Option tree.Expr). Adds (OPS_FOR_SIZE * maybe_expr_size x) (StepCode p line old.marks (scope_of old) x) old new) (sym is) (
    adds_more (omega (arith, s)) (adds_both (expr_stable line old.marks (meant (context_in p old) e).expr) a b))

-- the test

pub arm_back : (p : Program) (line turn : ℕ) (t : Turning) (e : Bor tree.Expr) (old mid new : Draft) → t ≡ turning.TestFirst e → Adds (OPS_FOR_SIZE * expr_size e.now) (ExprCode line old.marks (value_of (meant (context_in p old) e.now))) old mid → Adds 1 (OpCode line (op.IfNonzero turn)) mid new
    → Adds (OPS_FOR_SIZE * turning_size t + 1) (BackCode p line old.marks (scope_of old) t turn) old new
arm_back p line turn t e old mid new is a b =
    subst (λ (x : Turning). Adds (OPS_FOR_SIZE * turning_size x + 1) (BackCode p line old.marks (scope_of old) x turn) old new) (sym is) (
    adds_both (expr_stable line old.marks (value_of (meant (context_in p old) e.now))) a b)

pub arm_back_behind : (p : Program) (line turn : ℕ) (t : Turning) (e : Bor tree.Expr) (old mid new : Draft) → t ≡ turning.BodyFirst e → Adds (OPS_FOR_SIZE * expr_size e.now) (ExprCode line old.marks (value_of (meant (context_in p old) e.now))) old mid → Adds 1 (OpCode line (op.IfNonzero turn)) mid new
    → Adds (OPS_FOR_SIZE * turning_size t + 1) (BackCode p line old.marks (scope_of old) t turn) old new
arm_back_behind p line turn t e old mid new is a b =
    subst (λ (x : Turning). Adds (OPS_FOR_SIZE * turning_size x + 1) (BackCode p line old.marks (scope_of old) x turn) old new) (sym is) (
    adds_both (expr_stable line old.marks (value_of (meant (context_in p old) e.now))) a b)

pub arm_back_alone : (p : Program) (line turn : ℕ) (t : Turning) (old new : Draft) → t ≡ turning.NoTest → Adds 1 (OpCode line (op.Jump turn)) old new → Adds (OPS_FOR_SIZE * turning_size t + 1) (BackCode p line old.marks (scope_of old) t turn) old new
arm_back_alone p line turn t old new is a =
    subst (λ (x : Turning). Adds (OPS_FOR_SIZE * turning_size x + 1) (BackCode p line old.marks (scope_of old) x turn) old new) (sym is) (adds_more (omega arith) a)

-- no `else`

pub arm_no_other : (p : Program) (m : MaybeStmt) (old : Draft) → m ≡ NoStmt → LowersMaybe p m old old
arm_no_other p m old e = subst (λ x. LowersMaybe p x old old) (sym e) (lowers_as (lowers_nothing old) refl (λ code a z w. w) (omega arith) (omega arith) (omega arith) (omega arith))

-- The code of an expression goes on standing where its own range does not change.
use Rattle.std.proofs.Common.{ℕ, List, true, false, pos}
use Rattle.uc_tree.specs.declared.limits.TheConstants.{DESTRUCTOR}
use Rattle.uc_tree.specs.Source.{Shape, Integer, Character, Truth, Binding, Last, Field, Array, shape_cells, field_cells, Expr, Literal, Variable, Element, Get, Load, Negated, Not, AsCharacter, AsTruth, Operate, And, Or, Set, Assign, First, Update, StepBehind, Fail, Call, OfObject, ObjectExpr, This, OwnField, GetOwn, FieldOf, Counted, CallOn, CallUnwritten, CallLive, EnterOn, EndOn, Bind, MakeOn, NewCluster, NewProcessor, EndCluster, EndProcessor, ConditionAt, Wait, Signal, SignalBlock, IsEmpty, FrontOf, Exprs, NoExprs, MoreExprs}
use Rattle.uc_code.specs.declared.op.Op.TheVariants as op
use Rattle.uc_code.specs.declared.rows.CodeMark.{CodeMark}
use Rattle.uc_code.specs.Layout.{Laid}
use Rattle.uc_code.specs.CodeShapes.{One, Both, Fork, Stable}
use Rattle.uc_code.specs.Lowered.{operator_op, ExprAt, ObjectAt}
use Rattle.uc_code.proofs.Stable.{nothing_stable, one_stable, poll_stable, risk_stable, calls_behind_stable, both_stable, fork_stable}
use Rattle.uc_lower_expr.specs.DraftGrowth.{ExprCode, ArgumentsCode, ConvertCode}
use Rattle.uc_lower_expr.specs.Parts.{BeginCode}

pub both : {B C : Laid → ℕ → ℕ → Type 0} → Stable B → Stable C → Stable (λ code. Both (B code) (C code))
both {B} {C} b c = both_stable B b C c

pub fork : {B C : Laid → ℕ → ℕ → Type 0} → (line : ℕ) → Stable B → Stable C → Stable (λ code. Fork code line (B code) (C code))
fork {B} {C} line b c = fork_stable B b C c line

pub convert_stable : (line : ℕ) (s : Shape) → Stable (ConvertCode line s)
convert_stable line Integer = nothing_stable
convert_stable line Character = one_stable op.ToChar line
convert_stable line Truth = one_stable op.ToBool line
convert_stable line Binding = nothing_stable
convert_stable line Last = nothing_stable
convert_stable line (Field s t) = nothing_stable
convert_stable line (Array n s) = nothing_stable

mutual
  pub expr_stable : (line : ℕ) (ms : List CodeMark) (e : Expr) → Stable (ExprCode line ms e)
  expr_stable line ms (Literal n) = one_stable (op.Push n) line
  expr_stable line ms (Variable k) = one_stable (op.Local k) line
  expr_stable line ms (Element n s a i) = both (expr_stable line ms a) (both (expr_stable line ms i) (one_stable (op.Index n (shape_cells s)) line))
  expr_stable line ms (Get k) = one_stable (op.Via k) line
  expr_stable line ms (Load a) = both (expr_stable line ms a) (one_stable op.Load line)
  expr_stable line ms (Negated a) = both (expr_stable line ms a) (one_stable op.Negate line)
  expr_stable line ms (Not a) = both (expr_stable line ms a) (one_stable op.Not line)
  expr_stable line ms (AsCharacter a) = both (expr_stable line ms a) (one_stable op.ToChar line)
  expr_stable line ms (AsTruth a) = both (expr_stable line ms a) (one_stable op.ToBool line)
  expr_stable line ms (Operate o a b) = both (expr_stable line ms a) (both (expr_stable line ms b) (one_stable (operator_op o) line))
  expr_stable line ms (And a b) = both (expr_stable line ms a) (fork line (both (expr_stable line ms b) (one_stable op.ToBool line)) (one_stable (op.Push (pos 0)) line))
  expr_stable line ms (Or a b) = both (expr_stable line ms a) (fork line (one_stable (op.Push (pos 1)) line) (both (expr_stable line ms b) (one_stable op.ToBool line)))
  expr_stable line ms (Set k a) = both (expr_stable line ms a) (one_stable (op.Set k) line)
  expr_stable line ms (Assign p a) = both (expr_stable line ms p) (both (expr_stable line ms a) (one_stable op.Keep line))
  expr_stable line ms (First a b) = both (expr_stable line ms a) (both (expr_stable line ms b) (one_stable op.Discard line))
  expr_stable line ms (Update o s p a) = both (expr_stable line ms p) (both (one_stable op.Duplicate line) (both (one_stable op.Load line) (both (expr_stable line ms a) (both (one_stable (operator_op o) line) (both (convert_stable line s) (one_stable op.Keep line))))))
  expr_stable line ms (StepBehind o s p) = both (expr_stable line ms p) (both (one_stable op.Duplicate line) (both (one_stable op.Load line) (both (one_stable op.CopyBelow line) (both (one_stable op.CopyBelow line) (both (one_stable (op.Push (pos 1)) line) (both (one_stable (operator_op o) line) (both (convert_stable line s) (both (one_stable op.Store line) (one_stable op.DiscardBelow line)))))))))
  expr_stable line ms Fail = one_stable op.Fail line
  expr_stable line ms (Call r es) = both (args_stable line ms es) (both (one_stable op.Tick line) (risk_stable ms (op.Call r) line))
  expr_stable line ms (OfObject o) = object_stable line ms o

  object_stable : (line : ℕ) (ms : List CodeMark) (o : ObjectExpr) → Stable (λ code. ObjectAt code line ms o)
  object_stable line ms This = one_stable op.Own line
  object_stable line ms (OwnField s i) = one_stable (op.This (field_cells s i)) line
  object_stable line ms (GetOwn s i) = one_stable (op.ViaThis (field_cells s i)) line
  object_stable line ms (FieldOf s i e) = both (expr_stable line ms e) (one_stable (op.Field (field_cells s i)) line)
  object_stable line ms Counted = one_stable op.Counted line
  object_stable line ms (CallOn r e es) = both (expr_stable line ms e) (both (args_stable line ms es) (both (one_stable op.Tick line) (risk_stable ms (op.CallOn r) line)))
  object_stable line ms (CallLive r e es) = both (expr_stable line ms e) (both (args_stable line ms es) (both (one_stable op.Tick line) (both (one_stable (op.Alive r) line) (risk_stable ms (op.CallOn r) line))))
  object_stable line ms (CallUnwritten r e) = both (expr_stable line ms e) (calls_behind_stable ms r line)
  object_stable line ms (Bind p e) = both (expr_stable line ms p) (both (expr_stable line ms e) (one_stable op.Bind line))
  object_stable line ms (EnterOn m r e es) = both (expr_stable line ms e) (both (args_stable line ms es) (both (one_stable op.Tick line) (both (one_stable (op.Enter m r) line) (risk_stable ms (op.CallOn r) line))))
  object_stable line ms (EndOn r false e) = both (expr_stable line ms e) (both (one_stable (op.Enter DESTRUCTOR r) line) (calls_behind_stable ms r line))
  object_stable line ms (EndOn r true e) = both (expr_stable line ms e) (both (one_stable op.Tick line) (both (one_stable (op.Enter DESTRUCTOR r) line) (risk_stable ms (op.CallOn r) line)))
  object_stable line ms (MakeOn c r false e es) = both (expr_stable line ms e) (both (args_stable line ms es) (both (one_stable (op.Make c r) line) (both (one_stable (op.BindMade c r) line) (calls_behind_stable ms r line))))
  object_stable line ms (MakeOn c r true e es) = both (expr_stable line ms e) (both (args_stable line ms es) (both (one_stable op.Tick line) (both (one_stable (op.Make c r) line) (both (one_stable (op.BindMade c r) line) (risk_stable ms (op.CallOn r) line)))))
  object_stable line ms NewCluster = one_stable op.Cluster line
  object_stable line ms (NewProcessor e) = both (expr_stable line ms e) (one_stable op.Processor line)
  object_stable line ms (EndCluster e) = both (expr_stable line ms e) (one_stable op.ClusterEnd line)
  object_stable line ms (EndProcessor e) = both (expr_stable line ms e) (one_stable op.ProcessorEnd line)
  object_stable line ms (ConditionAt k n e) = both (expr_stable line ms e) (one_stable (op.Condition k n) line)
  object_stable line ms (Wait c n) = both (expr_stable line ms c) (both (expr_stable line ms n) (both (one_stable op.Wait line) (poll_stable ms line)))
  object_stable line ms (Signal c) = both (expr_stable line ms c) (one_stable op.Signal line)
  object_stable line ms (SignalBlock c) = both (expr_stable line ms c) (one_stable op.SignalBlock line)
  object_stable line ms (IsEmpty c) = both (expr_stable line ms c) (one_stable op.Empty line)
  object_stable line ms (FrontOf c) = both (expr_stable line ms c) (one_stable op.Front line)

  pub args_stable : (line : ℕ) (ms : List CodeMark) (es : Exprs) → Stable (ArgumentsCode line ms es)
  args_stable line ms NoExprs = nothing_stable
  args_stable line ms (MoreExprs e es) = both (expr_stable line ms e) (args_stable line ms es)

pub begin_stable : (line : ℕ) → Stable (BeginCode line)
begin_stable line = both (one_stable op.Duplicate line) (one_stable op.Load line)

pub value_truth_stable : (line : ℕ) (ms : List CodeMark) (e : Expr) → Stable (λ code. Both (ExprAt code line ms e) (One code op.ToBool line))
value_truth_stable line ms e = both (expr_stable line ms e) (one_stable op.ToBool line)

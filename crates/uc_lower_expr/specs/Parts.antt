-- The code behind a left side, and in an update.
use Rattle.std.specs.Prelude.{◌≡◌, ℕ, ◌+◌, pos, List, Bool, true, false, ◌||◌, Option, Some, None, length, if◌then◌else◌}
use Rattle.uc_tree.specs.declared.kinds.LocalVariable.{LocalVariable}
use Rattle.uc_tree.specs.declared.ops.BinaryOp.{BinaryOp}
use Rattle.uc_tree.specs.declared.ops.BinaryOp.TheVariants as binary
use Rattle.uc_tree.specs.declared.ops.AssignOp.{AssignOp}
use Rattle.uc_tree.specs.declared.ops.AssignOp.TheVariants as assign
use Rattle.uc_tree.specs.declared.ops.StepOp.{StepOp}
use Rattle.uc_tree.specs.declared.ops.StepOp.TheVariants as step
use Rattle.uc_tree.specs.declared.kinds.Param.{Param}
use Rattle.uc_tree.specs.Source.{Shape, Add, Sub, Expr, Literal}
use Rattle.uc_tree.specs.Names.{same_name, fail_name}
use Rattle.uc_tree.specs.Programs.{Program}
use Rattle.uc_resolve.specs.Resolve.{ConditionCall, Waits, Signals, SignalsBlocking, AsksEmpty, AsksFront, Meant, has_number, known_named, known_meant, updated, arg_meant}
use Rattle.uc_code.specs.declared.op.Op.{Op}
use Rattle.uc_code.specs.declared.op.Op.TheVariants as op
use Rattle.uc_code.specs.declared.rows.CodeMark.{CodeMark}
use Rattle.uc_code.specs.Drafts.{Draft}
use Rattle.uc_code.specs.Layout.{Laid, laid_in}
use Rattle.uc_code.specs.CodeShapes.{Nothing, One, Both, Fork, PollAt, Same}
use Rattle.uc_code.specs.Lowered.{ExprAt, ConvertAt}
use Rattle.uc_lower_expr.specs.declared.meaning.Scalar.{Scalar}
use Rattle.uc_lower_expr.specs.declared.meaning.Scalar.TheVariants as scalar
use Rattle.uc_lower_expr.specs.declared.meaning.Standing.{Standing}
use Rattle.uc_lower_expr.specs.declared.meaning.Standing.TheVariants as standing
use Rattle.uc_lower_expr.specs.declared.meaning.ExprMeaning.{ExprMeaning}
use Rattle.uc_lower_expr.specs.declared.ops.BinaryCode.{BinaryCode}
use Rattle.uc_lower_expr.specs.declared.ops.BinaryCode.TheVariants as joining
use Rattle.uc_lower_expr.specs.declared.names.Variable.{Variable}
use Rattle.uc_lower_expr.specs.Meanings.{Tells}

-- how an operator joins two sides
abbrev pub joining_of : BinaryOp → BinaryCode
joining_of binary.Or = joining.Either
joining_of binary.And = joining.Each
joining_of binary.Equal = joining.By op.Equal scalar.Truth
joining_of binary.NotEqual = joining.By op.NotEqual scalar.Truth
joining_of binary.Less = joining.By op.Less scalar.Truth
joining_of binary.LessEqual = joining.By op.LessEqual scalar.Truth
joining_of binary.Greater = joining.By op.Greater scalar.Truth
joining_of binary.GreaterEqual = joining.By op.GreaterEqual scalar.Truth
joining_of binary.Add = joining.By op.Add scalar.Number
joining_of binary.Sub = joining.By op.Subtract scalar.Number
joining_of binary.Mul = joining.By op.Multiply scalar.Number
joining_of binary.Div = joining.By op.Divide scalar.Number
joining_of binary.Rem = joining.By op.Remainder scalar.Number

-- the op with which an assignment combines the old value, where it does
abbrev pub combining_of : AssignOp → Option Op
combining_of assign.Set = None
combining_of assign.Add = Some op.Add
combining_of assign.Sub = Some op.Subtract
combining_of assign.Mul = Some op.Multiply
combining_of assign.Div = Some op.Divide
combining_of assign.Rem = Some op.Remainder

abbrev pub step_op_of : StepOp → Op
step_op_of step.Increment = op.Add
step_op_of step.Decrement = op.Subtract

-- the code behind the value of a left side
abbrev pub RightCode : ℕ → List CodeMark → BinaryCode → Expr → Laid → ℕ → ℕ → Type 0
RightCode line ms joining.Either e code = Fork code line (One code (op.Push (pos 1)) line) (Both (ExprAt code line ms e) (One code op.ToBool line))
RightCode line ms joining.Each e code = Fork code line (Both (ExprAt code line ms e) (One code op.ToBool line)) (One code (op.Push (pos 0)) line)
RightCode line ms (joining.By o s) e code = Both (ExprAt code line ms e) (One code o line)

abbrev pub scalar_of : BinaryCode → Scalar
scalar_of joining.Either = scalar.Truth
scalar_of joining.Each = scalar.Truth
scalar_of (joining.By o s) = s

-- the code of an update, before and behind the value
abbrev pub BeginCode : ℕ → Laid → ℕ → ℕ → Type 0
BeginCode line code = Both (One code op.Duplicate line) (One code op.Load line)

abbrev pub EndCode : ℕ → Op → Shape → Laid → ℕ → ℕ → Type 0
EndCode line o s code = Both (One code o line) (Both (ConvertAt code line s) (One code op.Keep line))

abbrev pub UpdateCode : ℕ → List CodeMark → Op → Shape → Expr → Laid → ℕ → ℕ → Type 0
UpdateCode line ms o s e code =
    Both (One code op.Duplicate line) (Both (One code op.Load line) (Both (ExprAt code line ms e) (Both (One code o line) (Both (ConvertAt code line s) (One code op.Keep line)))))

-- the code that writes a value to a variable, and what combines the variable with a value
abbrev pub SetCode : ℕ → List CodeMark → ℕ → Shape → Expr → Laid → ℕ → ℕ → Type 0
SetCode line ms k s e code = Both (Both (ExprAt code line ms e) (ConvertAt code line s)) (One code (op.Set k) line)

abbrev pub SetByCode : ℕ → List CodeMark → ℕ → Op → Shape → Expr → Laid → ℕ → ℕ → Type 0
SetByCode line ms k o s e code =
    Both (Both (Both (One code (op.Via k) line) (Both (ExprAt code line ms e) (One code o line))) (ConvertAt code line s)) (One code (op.Set k) line)

-- the code that writes a value to a variable, or to the place before it, combined with the old value where there is an op
abbrev pub VariableCode : ℕ → List CodeMark → Option Op → ℕ → Shape → Expr → Laid → ℕ → ℕ → Type 0
VariableCode line ms None k s e = SetCode line ms k s e
VariableCode line ms (Some o) k s e = SetByCode line ms k o s e

abbrev pub PlaceCode : ℕ → List CodeMark → Option Op → Shape → Expr → Laid → ℕ → ℕ → Type 0
PlaceCode line ms None s e code = Both (ExprAt code line ms e) (Both (ConvertAt code line s) (One code op.Keep line))
PlaceCode line ms (Some o) s e code = UpdateCode line ms o s e code

-- the code of a step behind a variable: the old value, the new one is written and left
abbrev pub BehindCode : ℕ → List CodeMark → ℕ → Op → Shape → Laid → ℕ → ℕ → Type 0
BehindCode line ms k o s code = Both (One code (op.Via k) line) (Both (SetByCode line ms k o s (Literal (pos 1)) code) (One code op.Discard line))

-- the code of an argument
abbrev pub ArgumentCode : ℕ → List CodeMark → Param → Meant → Laid → ℕ → ℕ → Type 0
ArgumentCode line ms x m code = ExprAt code line ms (arg_meant x m)

-- the code of a step behind its place
abbrev pub StepCode : ℕ → Op → Shape → Laid → ℕ → ℕ → Type 0
StepCode line o s code =
    Both (One code op.Duplicate line) (Both (One code op.Load line) (Both (One code op.CopyBelow line) (Both (One code op.CopyBelow line) (Both (One code (op.Push (pos 1)) line) (Both (One code o line) (Both (ConvertAt code line s) (Both (One code op.Store line) (One code op.DiscardBelow line))))))))

-- the code of a wait, behind the number of its condition and what it stores
abbrev pub WaitCode : ℕ → List CodeMark → Laid → ℕ → ℕ → Type 0
WaitCode line ms code = Both (One code op.Wait line) (PollAt code ms line)

-- the code of a call of a condition, behind its number; what a wait stores
abbrev pub CalledCode : ℕ → List CodeMark → ConditionCall → Expr → Laid → ℕ → ℕ → Type 0
CalledCode line ms Waits e code = Both (ExprAt code line ms e) (WaitCode line ms code)
CalledCode line ms Signals e code = One code op.Signal line
CalledCode line ms SignalsBlocking e code = One code op.SignalBlock line
CalledCode line ms AsksEmpty e code = One code op.Empty line
CalledCode line ms AsksFront e code = One code op.Front line

-- in the place of all ops from a on stands one op
pub record Restarts (o : Op) (line a : ℕ) (old new : Draft) : Type 0 where
  pub rest : new ≡ record old { ops = new.ops }
  pub front : Same (laid_in old) (laid_in new) 0 a
  pub end : length new.ops ≡ a + 1
  pub code : One (laid_in new) o line a (length new.ops)

-- what is known by its number is the number that it holds, a reference is the place
abbrev pub standing_by : Bool → Bool → ℕ → Standing
standing_by number by_ref k = if number then standing.Number else if by_ref then standing.Place else standing.Variable k

-- the code behind the place of an element: of one that is known by its number, that
abbrev pub FoundCode : ℕ → Bool → Laid → ℕ → ℕ → Type 0
FoundCode line true code = One code op.Load line
FoundCode line false code = Nothing

-- the op that finds the place of a field of the object of the running call, or the number or the place that it holds
abbrev pub own_place_op : Bool → ℕ → Op
own_place_op held k = if held then op.ViaThis k else op.This k

-- a field of the object of the running call, by whether it is known by its number, and whether it is a reference
abbrev pub own_standing : Bool → Bool → ℕ → Standing
own_standing number by_ref k = if number then standing.Number else if by_ref then standing.Place else standing.Field k

-- the code behind the place of an object that finds a field of it, or the number or the place that it holds
abbrev pub FieldCode : ℕ → Bool → ℕ → Laid → ℕ → ℕ → Type 0
FieldCode line false k code = One code (op.Field k) line
FieldCode line true k code = Both (One code (op.Field k) line) (One code op.Load line)

-- the variable of a program that a name stands for
pub record IsVariable (p : Program) (names : List LocalVariable) (name : List ℕ) (v : Variable) : Type 0 where
  pub known : LocalVariable
  pub is : known_named names name ≡ Some known
  pub cell : known.cell ≡ v.cell
  pub held : (has_number p known.ty || known.ty.by_ref) ≡ v.held
  pub tells : Tells p v.told (known_meant p known)

-- the op that finds the place of a variable, or the number or the place that it holds
abbrev pub place_op_of : Bool → ℕ → Op
place_op_of held k = if held then op.Via k else op.Local k

-- one more or one less is written to what is meant
abbrev pub bumped : StepOp → Meant → Meant
bumped step.Increment m = updated Add m (Literal (pos 1))
bumped step.Decrement m = updated Sub m (Literal (pos 1))

-- what is told of a member of `cin`
abbrev pub input_told : List ℕ → ExprMeaning
input_told name = if same_name name fail_name then record { scalar = scalar.Truth; class = None; numbered = false; event = None; elements = None; standing = standing.Fail } else record { scalar = scalar.Number; class = None; numbered = false; event = None; elements = None; standing = standing.Nothing }

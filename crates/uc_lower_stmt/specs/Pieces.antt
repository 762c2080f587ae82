-- The code of parts of statements.
use Rattle.std.specs.Prelude.{ℕ, List, [], ◌∷◌, Option}
use Rattle.uc_tree.specs.declared.kinds.ValueForm.{ValueForm}
use Rattle.uc_tree.specs.declared.kinds.ValueForm.TheVariants as value_form
use Rattle.uc_tree.specs.Source.{Expr, Item, Target, Declared}
use Rattle.uc_code.specs.declared.op.Op.{Op}
use Rattle.uc_code.specs.declared.rows.CodeMark.{CodeMark}
use Rattle.uc_code.specs.Layout.{Laid}
use Rattle.uc_code.specs.CodeShapes.{Nothing, One, Both}
use Rattle.uc_code.specs.Lowered.{ItemsAt, ValuesAt, TogetherAt, TargetsAt, StartAt, VariablesAt}
use Rattle.uc_lower_expr.specs.declared.meaning.Scalar.{Scalar}
use Rattle.uc_lower_expr.specs.declared.meaning.Scalar.TheVariants as scalar

abbrev pub ItemsCode : ℕ → List CodeMark → List Item → Laid → ℕ → ℕ → Type 0
ItemsCode line ms is code = ItemsAt code line ms is

abbrev pub ValuesCode : ℕ → List CodeMark → List Item → Laid → ℕ → ℕ → Type 0
ValuesCode line ms is code = ValuesAt code line ms is

abbrev pub TargetsCode : ℕ → List CodeMark → List Target → Laid → ℕ → ℕ → Type 0
TargetsCode line ms ts code = TargetsAt code line ms ts

abbrev pub StartCode : ℕ → List CodeMark → ℕ → Option Expr → Laid → ℕ → ℕ → Type 0
StartCode line ms cell value code = StartAt code line ms cell value

abbrev pub VariablesCode : ℕ → List CodeMark → List Declared → Laid → ℕ → ℕ → Type 0
VariablesCode line ms ds code = VariablesAt code line ms ds

abbrev pub TogetherCode : ℕ → List CodeMark → List Item → Laid → ℕ → ℕ → Type 0
TogetherCode line ms is code = TogetherAt code line ms is

-- ops in a row, the last of the list first
abbrev pub PiecesCode : ℕ → List Op → Laid → ℕ → ℕ → Type 0
PiecesCode line [] code = Nothing
PiecesCode line (o ∷ os) code = Both (PiecesCode line os code) (One code o line)

-- the form of a scalar that is printed or read
abbrev pub form_as : Scalar → ValueForm
form_as scalar.Number = value_form.Number
form_as scalar.Character = value_form.Character
form_as scalar.Truth = value_form.Number
form_as scalar.Binding = value_form.Number

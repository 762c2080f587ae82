-- What lowering does to a draft.
use Rattle.std.specs.Prelude.{◌≡◌, ℕ, ◌+◌, ◌≤◌, List, length}
use Rattle.uc_tree.specs.Programs.{Program}
use Rattle.uc_tree.specs.Source.{Shape, Expr, Exprs}
use Rattle.uc_resolve.specs.Resolve.{Meant, value_meant, value_of}
use Rattle.uc_code.specs.declared.op.Op.{Op}
use Rattle.uc_code.specs.declared.op.Op.TheVariants as op
use Rattle.uc_code.specs.declared.rows.CodeMark.{CodeMark}
use Rattle.uc_code.specs.Drafts.{Draft}
use Rattle.uc_code.specs.Layout.{Laid, laid_in}
use Rattle.uc_code.specs.CodeShapes.{Both, One, Risk, Same, Kept}
use Rattle.uc_code.specs.Lowered.{ExprAt, ArgumentsAt, ConvertAt}
use Rattle.uc_lower_expr.specs.declared.meaning.ExprMeaning.{ExprMeaning}
use Rattle.uc_lower_expr.specs.Meanings.{Tells}

-- a draft with at most n ops more, for which S holds, and else as it was
pub record Adds (n : ℕ) (S : Laid → ℕ → ℕ → Type 0) (old new : Draft) : Type 0 where
  pub rest : new ≡ record old { ops = new.ops }
  pub kept : Kept (laid_in old) (laid_in new)
  pub room : length new.ops ≤ length old.ops + n
  pub code : S (laid_in new) (length old.ops) (length new.ops)

-- the code of an expression under marks, of arguments, of a conversion, and of one op
abbrev pub ExprCode : ℕ → List CodeMark → Expr → Laid → ℕ → ℕ → Type 0
ExprCode line ms e code = ExprAt code line ms e

abbrev pub ArgumentsCode : ℕ → List CodeMark → Exprs → Laid → ℕ → ℕ → Type 0
ArgumentsCode line ms es code = ArgumentsAt code line ms es

abbrev pub ConvertCode : ℕ → Shape → Laid → ℕ → ℕ → Type 0
ConvertCode line s code = ConvertAt code line s

abbrev pub OpCode : ℕ → Op → Laid → ℕ → ℕ → Type 0
OpCode line o code = One code o line

-- of one op from which an event may come
abbrev pub RiskCode : ℕ → List CodeMark → Op → Laid → ℕ → ℕ → Type 0
RiskCode line ms o code = Risk code ms o line

-- of a call of a coroutine's member behind its arguments
abbrev pub LiveCallCode : ℕ → List CodeMark → ℕ → Laid → ℕ → ℕ → Type 0
LiveCallCode line ms r code = Both (One code op.Tick line) (Both (One code (op.Alive r) line) (Risk code ms (op.CallOn r) line))

-- of a call of a mutex member behind its arguments
abbrev pub MutexCallCode : ℕ → List CodeMark → ℕ → ℕ → Laid → ℕ → ℕ → Type 0
MutexCallCode line ms m r code = Both (One code op.Tick line) (Both (One code (op.Enter m r) line) (Risk code ms (op.CallOn r) line))

-- a draft whose ops from a on are the code, under marks, of what is meant in a program, which is told
pub record Stood (p : Program) (line : ℕ) (ms : List CodeMark) (a : ℕ) (m : Meant) (told : ExprMeaning) (d : Draft) : Type 0 where
  pub tells : Tells p told m
  pub code : ExprAt (laid_in d) line ms m.expr a (length d.ops)

-- from the code of anything meant, at a, on to the code of what f makes of it, by at most n ops more. What stands
-- before a stays.
pub record Grows (p : Program) (n line : ℕ) (ms : List CodeMark) (a : ℕ) (f : Meant → Meant) (before after : ExprMeaning) (old new : Draft) : Type 0 where
  pub rest : new ≡ record old { ops = new.ops }
  pub front : Same (laid_in old) (laid_in new) 0 a
  pub past : a ≤ length new.ops
  pub room : length new.ops ≤ length old.ops + n
  pub code : (m : Meant) → Stood p line ms a m before old → Stood p line ms a (f m) after new

-- the ops from a on are gone
pub record Cuts (a : ℕ) (old new : Draft) : Type 0 where
  pub rest : new ≡ record old { ops = new.ops }
  pub front : Same (laid_in old) (laid_in new) 0 a
  pub end : length new.ops ≡ a

-- the value of what is meant
abbrev pub fetched : Meant → Meant
fetched m = value_meant (value_of m) m.ty

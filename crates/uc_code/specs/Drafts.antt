-- What contracts see of a draft of code.
use Rattle.std.specs.Prelude.{◌≡◌, ◌≢◌, ◌<◌, ℕ, zero, suc, List, [], ◌∷◌, ◌++◌, Some, slice_get}
use Rattle.uc_tree.specs.declared.kinds.Place.{Place}
use Rattle.uc_code.specs.declared.op.Op.{Op}
use Rattle.uc_tree.specs.declared.kinds.LocalVariable.{LocalVariable}
use Rattle.uc_code.specs.declared.rows.HandlerRow.{HandlerRow}
use Rattle.uc_code.specs.declared.rows.Instruction.{Instruction}
use Rattle.uc_code.specs.declared.rows.CodeMark.{CodeMark}
use Rattle.uc_code.specs.declared.rows.RoutineCode.{RoutineCode}

-- the ops so far, the rows so far, the op from which on they are those of the marks, the place at which lowering stands, what
-- stands around it in the routine, the innermost first, how many scopes the routine has had so far, the names in scope from the
-- outermost on, the first of the cells in which the innermost handler around this place keeps its event, the first cell of a variable
-- and the first hidden one that nothing so far has, how many text literals and accept statements of the program stand before this
-- place, and what is known of each routine
pub record Draft : Type 0 where
  pub ops : List Instruction
  pub rows : List HandlerRow
  pub settled : ℕ
  pub place : Place
  pub marks : List CodeMark
  pub scopes : ℕ
  pub names : List LocalVariable
  pub handled : ℕ
  pub cells : ℕ
  pub hidden : ℕ
  pub texts : ℕ
  pub sites : ℕ
  pub routines : List RoutineCode

-- one more op
abbrev pub ops_with : List Instruction → Op → ℕ → List Instruction
ops_with ops op line = ops ++ record { op = op; line = line } ∷ []

-- another op in the place of one, on the same line
abbrev pub patched : List Instruction → ℕ → Op → List Instruction
patched [] at op = []
patched (i ∷ is) zero op = record { op = op; line = i.line } ∷ is
patched (i ∷ is) (suc at) op = i ∷ patched is at op

-- a declaration of a name behind which no other declares it
pub record IsInnermost (names : List LocalVariable) (name : List ℕ) (known : LocalVariable) : Type 0 where
  pub number : ℕ
  pub there : slice_get names number ≡ Some known
  pub same : known.name ≡ name
  pub later : (i : ℕ) (other : LocalVariable) → number < i → slice_get names i ≡ Some other → other.name ≢ name

-- no declaration of a name
pub record IsUnknown (names : List LocalVariable) (name : List ℕ) : Type 0 where
  pub none : (i : ℕ) (other : LocalVariable) → slice_get names i ≡ Some other → other.name ≢ name

-- What opening and closing the rows of a guarded block does to a draft.
use Rattle.std.specs.Prelude.{◌≡◌, ℕ, ◌+◌, ◌<◌, List, length}
use Rattle.uc_code.specs.declared.rows.CodeMark.{CodeMark}
use Rattle.uc_code.specs.Drafts.{Draft}
use Rattle.uc_code.specs.Layout.{guards, laid_in}
use Rattle.uc_code.specs.CodeShapes.{IsBare, Kept}
use Rattle.uc_code.specs.RowGrowth.{AddsRows}

-- what comes next stands in a guarded block with so many handlers
pub record OpensGuards (count : ℕ) (old new : Draft) : Type 0 where
  pub rest : new ≡ record old { rows = new.rows; settled = new.settled; marks = guards (length old.rows) count old.marks }
  pub kept : Kept (laid_in old) (laid_in new)
  pub rows : AddsRows count (length old.ops) old new

-- what comes next stands behind it, under these marks, and its handlers are still to be laid out
pub record ClosesGuards (first count : ℕ) (ms : List CodeMark) (old new : Draft) : Type 0 where
  pub rest : new ≡ record old { rows = new.rows; settled = new.settled; marks = ms }
  pub kept : Kept (laid_in old) (laid_in new)
  pub rows : AddsRows 0 (length old.ops) old new
  pub bare : (k : ℕ) → k < count → IsBare (laid_in new) (first + k)

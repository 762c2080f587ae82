-- Rows that come with ops: how many, no more than these, and with handlers among them.
use Rattle.std.specs.Prelude.{◌≡◌, ℕ, suc, ◌+◌, ◌≤◌, List, [], ◌∷◌, length}
use Rattle.uc_code.specs.declared.rows.CodeMark.{CodeMark}
use Rattle.uc_code.specs.declared.rows.CodeMark.TheVariants as mark
use Rattle.uc_code.specs.Drafts.{Draft}
use Rattle.uc_code.specs.RowGrowth.{BeginBy}

-- how many of these marks have a row, which is still open
abbrev pub open_rows : List CodeMark → ℕ
open_rows [] = 0
open_rows (mark.Body routine ∷ ms) = open_rows ms
open_rows (mark.Finish main routine line row ∷ ms) = suc (open_rows ms)
open_rows (mark.Loop leave again ∷ ms) = open_rows ms
open_rows (mark.Whole leave row ∷ ms) = suc (open_rows ms)
open_rows (mark.Guard row ∷ ms) = suc (open_rows ms)
open_rows (mark.Clean what line row ∷ ms) = suc (open_rows ms)
open_rows (mark.Part row ∷ ms) = suc (open_rows ms)
open_rows (mark.Elements row ∷ ms) = suc (open_rows ms)
open_rows (mark.Outward below row ∷ ms) = suc (open_rows ms)

-- from one draft to another come so many rows: no more than ops, by so many less, but for those that are still open; and the
-- handlers that rows get begin by the end of the ops
pub record RowsFit (less count : ℕ) (old new : Draft) : Type 0 where
  pub more : length new.rows ≡ length old.rows + count
  pub few : length new.rows + length old.ops + open_rows old.marks + less ≤ length old.rows + length new.ops + open_rows new.marks
  pub begin : (k : ℕ) → length new.ops ≤ k → BeginBy k old.rows → BeginBy k new.rows

-- by a routine come no more rows than ops, and the handlers that they get begin before the end
pub record RoutineRows (old new : Draft) : Type 0 where
  pub few : length new.rows + length old.ops ≤ length old.rows + length new.ops
  pub begin : (k : ℕ) → length new.ops ≤ k + 1 → BeginBy k old.rows → BeginBy k new.rows

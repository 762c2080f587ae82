-- What calls that add code do to a draft.
use Rattle.std.specs.Prelude.{◌≡◌, ℕ, suc, ◌+◌, ◌*◌, ◌≤◌, length, reverse, take, List, Bool, true, false, Option, Some, None}
use Rattle.uc_code.specs.declared.op.Op.{Op}
use Rattle.uc_code.specs.declared.op.Op.TheVariants as op
use Rattle.uc_code.specs.declared.rows.Array.{Array}
use Rattle.uc_code.specs.declared.rows.CodeMark.{CodeMark}
use Rattle.uc_code.specs.declared.rows.CodeMark.TheVariants as mark
use Rattle.uc_code.specs.declared.rows.Resource.TheVariants as resource
use Rattle.uc_code.specs.declared.rows.Manner.{Manner}
use Rattle.uc_code.specs.declared.rows.Manner.TheVariants as manner
use Rattle.uc_code.specs.declared.rows.ObjectCall.{ObjectCall}
use Rattle.uc_code.specs.declared.rows.Cleaning.{Cleaning}
use Rattle.uc_code.specs.declared.rows.Cleaning.TheVariants as cleaning
use Rattle.uc_code.specs.declared.rows.Way.{Way}
use Rattle.uc_code.specs.declared.rows.Way.TheVariants as way
use Rattle.uc_code.specs.Drafts.{Draft}
use Rattle.uc_tree.specs.Source as source
use Rattle.uc_code.specs.Layout.{Laid, laid_in, handlers, under, routine_in}
use Rattle.uc_code.specs.CodeShapes.{Kept, main_end}
use Rattle.uc_code.specs.Lowered.{CleanAt, ExitAt}
use Rattle.uc_code.specs.OpenRows.{CleansBehind, clean_room, exit_room}
use Rattle.uc_code.specs.RowCounts.{cleaning_rows, exit_rows}
use Rattle.uc_code.specs.RowGrowth.{AddsRows, BeginBy}

-- a draft with r rows more, which are closed, and with at most n ops more, for which S holds; else it is as it was
pub record Puts (r n : ℕ) (S : Laid → ℕ → ℕ → Type 0) (old new : Draft) : Type 0 where
  pub rest : new ≡ record old { ops = new.ops; rows = new.rows; settled = new.settled }
  pub kept : Kept (laid_in old) (laid_in new)
  pub rows : AddsRows r (length new.ops) old new
  pub room : length new.ops ≤ length old.ops + n
  pub code : S (laid_in new) (length old.ops) (length new.ops)

-- how many ops a call without arguments takes that drops its value, and how many a clean-up

abbrev pub place_length : Option Array → ℕ
place_length None = 1
place_length (Some a) = 3

abbrev pub called_length : Bool → ℕ
called_length true = 2
called_length false = 1

-- a mutex object is made and bound, or found by its number and entered; clusters and processors are no calls
abbrev pub manner_length : Manner → Bool → ℕ
manner_length manner.Plain written = called_length written
manner_length (manner.Makes c) written = 2 + called_length written
manner_length manner.Ends written = 2 + called_length written
manner_length (manner.Opens resource.Cluster) written = 2
manner_length (manner.Opens resource.Processor) written = 3
manner_length (manner.Closes of) written = 2

abbrev pub done_length : ObjectCall → ℕ
done_length what = place_length what.array + manner_length what.manner what.written + 1

abbrev pub clean_by : Option Array → ObjectCall → ℕ
clean_by None what = done_length what
clean_by (Some a) what = 2 * done_length what + 5

abbrev pub call_length : ObjectCall → ℕ
call_length what = clean_by what.array what

abbrev pub clean_length : Cleaning → ℕ
clean_length (cleaning.Call what) = call_length what
clean_length cleaning.TakeDown = 1
clean_length cleaning.Forget = 1
clean_length cleaning.Leave = 5
clean_length cleaning.End = 1
clean_length (cleaning.Free main) = 1
clean_length (cleaning.Restore cell) = 1

-- how many ops stand between the end of a scope's clean-up and the pad's end, but for what a mutex call that is left by a return still
-- needs to end
abbrev pub pad_length : Cleaning → ℕ
pad_length (cleaning.Call what) = call_length what + 1
pad_length cleaning.TakeDown = 2
pad_length cleaning.Forget = 2
pad_length cleaning.Leave = 12
pad_length cleaning.End = 2
pad_length (cleaning.Free main) = 2
pad_length (cleaning.Restore cell) = 2

-- the last op of a way out

-- the end of a call
abbrev pub end_op : Way → Op
end_op way.Break = op.Return
end_op way.Continue = op.Return
end_op way.Value = op.ReturnValue
end_op way.End = op.ReturnNone

-- the op with which a mark ends a way, and its line, where it does
abbrev pub ends_at : Way → CodeMark → ℕ → Option (Op × ℕ)
ends_at w (mark.Body routine) line = Some (end_op w, 0)
ends_at w (mark.Finish main routine last row) line = Some (main_end main, last)
ends_at way.Break (mark.Loop leave again) line = Some (op.Jump leave, line)
ends_at way.Continue (mark.Loop leave again) line = Some (op.Jump again, line)
ends_at way.Value (mark.Loop leave again) line = None
ends_at way.End (mark.Loop leave again) line = None
ends_at w (mark.Whole leave row) line = Some (op.Jump leave, line)
ends_at w (mark.Guard row) line = None
ends_at w (mark.Clean what last row) line = None
ends_at w (mark.Part row) line = None
ends_at w (mark.Elements row) line = None
ends_at w (mark.Outward below row) line = Some (end_op w, 0)

-- a draft with the code of a clean-up under whatever marks have the rows below this one; its own row performs nothing, and names what
-- comes next
pub record PutsLeft (what : Cleaning) (row line : ℕ) (old new : Draft) : Type 0 where
  pub rest : new ≡ record old { ops = new.ops; rows = new.rows; settled = new.settled }
  pub kept : Kept (laid_in old) (laid_in new)
  pub rows : AddsRows (suc (cleaning_rows what)) (length new.ops + 1) old new
  pub room : length new.ops ≤ length old.ops + clean_room
  pub code : (ms : List CodeMark) → handlers ms ≡ under row (handlers old.marks) → routine_in ms ≡ routine_in old.marks → CleanAt (laid_in new) line what ms (length old.ops) (length new.ops)

-- what a mark needs that is left on the way: an object is cleaned up in whose scope the way stands

abbrev pub past_room : CodeMark → ℕ
past_room (mark.Clean what line row) = clean_room
past_room _ = 0

abbrev pub PastBehind : CodeMark → List CodeMark → Type 0
PastBehind (mark.Clean what line row) ms = CleansBehind ms what
PastBehind _ ms = Unit {0}

-- what leaving it does to a draft
abbrev pub PutsPast : CodeMark → Draft → Draft → Type 0
PutsPast (mark.Clean what line row) old new = PutsLeft what row line old new
PutsPast _ old new = new ≡ old

-- the marks that are left when all but the outermost ones are passed, so many
abbrev pub outermost : ℕ → List CodeMark → List CodeMark
outermost n ms = reverse (take n (reverse ms))

-- what is left of an exit: its ops so far lead to those of the marks that are left
pub record Leaves (w : source.Way) (old now : Draft) (rest : List CodeMark) : Type 0 where
  pub same : now ≡ record old { ops = now.ops; rows = now.rows; settled = now.settled }
  pub kept : Kept (laid_in old) (laid_in now)
  pub more : length now.rows + exit_rows w rest ≡ length old.rows + exit_rows w old.marks
  pub begin : (k : ℕ) → length now.ops + 1 ≤ k → BeginBy k old.rows → BeginBy k now.rows
  pub room : length now.ops + exit_room rest ≤ length old.ops + exit_room old.marks
  pub on : (code : Laid) (z : ℕ) → Kept (laid_in now) code → ExitAt code w rest (length now.ops) z → ExitAt code w old.marks (length old.ops) z

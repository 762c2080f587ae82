-- One step of unwinding on cells.
use Rattle.std.specs.Prelude.{◌≡◌, ℕ, List, [], ◌∷◌, length, Option, Some, None, Bool, true, false, nat_eq, if◌then◌else◌, slice_get}
use Rattle.uc_machine.specs.declared.exec.UnwindReason.{UnwindReason}
use Rattle.uc_machine.specs.declared.exec.UnwindReason.TheVariants as reason
use Rattle.uc_machine.specs.declared.exec.Visited.{Visited}
use Rattle.uc_machine.specs.Raising.{arrives, escapes, why_by}
use Rattle.uc_code.specs.declared.rows.HandlerRow.{HandlerRow}
use Rattle.uc_code.specs.Layout.{chain}
use Rattle.uc_frames.specs.declared.search.HandlerQuery.TheVariants.{Stop}
use Rattle.uc_frames.specs.declared.cell.Cell.{Cell}
use Rattle.uc_frames.specs.Machine.{Activation, Machine}
use Rattle.uc_frames.specs.Searches.{is_named, first_in}
use Rattle.uc_frames.specs.Unwinding.{cleaning, passed}
use Rattle.uc_frames.specs.Calls.{left}
use Rattle.uc_coroutine.specs.declared.leaving.Left.{Left}
use Rattle.uc_coroutine.specs.declared.leaving.Left.TheVariants.{Ended, Returned, Escaped, PassedOn}

-- the row at which it ends, in an activation with so many below it
abbrev pub point_in : ℕ → Option ℕ → ℕ → Option ℕ
point_in frame row level = if nat_eq level frame then row else None

-- the clean-up of a row begins
abbrev pub cleaned_by : Option HandlerRow → Machine → Machine
cleaned_by None m = m
cleaned_by (Some r) m = record m { run = cleaning r.entry m.run }

-- the running activation is left for the newest of these, which is unwound in its turn; where that is destroyed with its coroutine, that
-- goes on
abbrev pub passed_for : UnwindReason → List Activation → Machine → Machine
passed_for why [] m = m
passed_for why (c ∷ cs) m = passed (why_by why c.raised) m.run.result (c ∷ cs) m

-- so it is, where one of these waits
abbrev pub passed_on : Option UnwindReason → List Activation → Machine → Option Machine
passed_on None cs m = None
passed_on (Some why) [] m = None
passed_on (Some why) (c ∷ cs) m = Some (passed_for why (c ∷ cs) m)

module _ (rows : List HandlerRow) (frame : ℕ) (row : Option ℕ) where
  abbrev pub step_by : Option ℕ → Machine → Option Machine
  step_by None m = if nat_eq (length m.callers) frame then None else passed_on m.run.raised m.callers m
  step_by (Some n) m = if is_named (point_in frame row (length m.callers)) n then None else Some (cleaned_by (slice_get rows n) m)

  -- the step down to this frame and row, none where that is reached
  abbrev pub step_of : Machine → Option Machine
  step_of m = step_by (first_in (Stop (point_in frame row (length m.callers))) rows (chain rows m.run.control)) m

-- a step was made, or none
abbrev pub Made : Option Machine → Machine → Bool → Machine → Type 0
Made None old made new = (made ≡ false) × (new ≡ old)
Made (Some m) old made new = (made ≡ true) × (new ≡ m)

abbrev pub goes_by : Option UnwindReason → Left
goes_by None = Ended
goes_by (Some why) = PassedOn

-- what becomes of an activation of which nothing is left
abbrev pub ending_by : Option UnwindReason → List Activation → Left
ending_by r [] = Ended
ending_by r (c ∷ cs) = if arrives r (length (c ∷ cs)) then Returned else (if escapes r c.raised then Escaped else goes_by r)

abbrev pub passed_as : Option UnwindReason → Machine → Machine
passed_as None m = m
passed_as (Some why) m = passed_for why m.callers m

-- so it is afterwards
abbrev pub left_as : Left → Machine → Machine
left_as Ended m = m
left_as Escaped m = m
left_as Returned m = left m.run.result m.callers m
left_as PassedOn m = passed_as m.run.raised m

-- a return leaves the handler of a resumption
abbrev pub past_of : Option Visited → Cell → List Activation → Machine → Option Machine
past_of None given cs m = None
past_of (Some v) given [] m = None
past_of (Some v) given (c ∷ cs) m = Some (passed (reason.ReturnTo v.home) given (c ∷ cs) m)

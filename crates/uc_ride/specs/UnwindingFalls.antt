-- What becomes of a machine by what an event leads to.
use Rattle.std.specs.Prelude.{◌≡◌, ℕ, ◌^◌, ◌<◌, ◌∷◌, Option, Some, None}
use Rattle.uc_entry.specs.declared.fault.RunFault.{RunFault}
use Rattle.uc_entry.specs.declared.request.Asked.{Asked}
use Rattle.uc_entry.specs.declared.request.Request.{Request}
use Rattle.uc_entry.specs.declared.request.Request.TheVariants as ask
use Rattle.uc_entry.specs.Faults.{fault_number}
use Rattle.uc_code.specs.declared.op.Op.{Op}
use Rattle.uc_code.specs.declared.op.Op.TheVariants as op
use Rattle.uc_code.specs.Codes.{Code}
use Rattle.uc_code.specs.Layout.{laid_of, chain}
use Rattle.uc_frames.specs.PaceInvariant.{UnwoundBelow, Entry, EachOf, IdlesAt, Within}
use Rattle.uc_frames.specs.Machine.{Machine}
use Rattle.uc_frames.specs.Weight.{waits}
use Rattle.uc_step.specs.Effects.{Effect, Quiet, Ask, Unwind}
use Rattle.uc_step.specs.WeightFalls.{Keeps, FallsBelow}
use Rattle.uc_ride.specs.declared.events.Caught.{Caught}
use Rattle.uc_ride.specs.declared.events.OpEnd.{OpEnd}
use Rattle.uc_ride.specs.declared.events.OpEnd.TheVariants as settled
use Rattle.uc_ride.specs.declared.events.EndTest.{EndTest}
use Rattle.uc_ride.specs.declared.events.EndTest.TheVariants.{Block, Task, Coroutine, Call, Nothing}
use Rattle.uc_ride.specs.declared.events.UnwindEnd.{UnwindEnd}
use Rattle.uc_ride.specs.declared.events.UnwindEnd.TheVariants as unwound

-- the row of what is caught
abbrev pub row_of : Option Caught → Option ℕ
row_of None = None
row_of (Some c) = Some c.row

-- the test that an op makes
abbrev pub test_by : Op → EndTest
test_by op.Handled = Block
test_by op.Unhandled = Task
test_by op.Escape = Coroutine
test_by (op.Arrive arrived) = Call arrived
test_by _ = Nothing

-- how a switch ends, in this line where it is a fault
abbrev pub stop_by : ℕ → Option RunFault → Effect
stop_by line None = Quiet
stop_by line (Some f) = Ask (record { request = ask.Fault (fault_number f); line = line })

-- these ends as those of an op; this is asked, if anything is

abbrev pub how_settled : OpEnd → Asked → Effect
how_settled settled.On a = Quiet
how_settled settled.Asks a = Ask a

abbrev pub how_unwound : UnwindEnd → Asked → Effect
how_unwound unwound.On a = Quiet
how_unwound unwound.Still a = Unwind
how_unwound unwound.Asks a = Ask a

module _ (code : Code) where
  -- how much is left to a machine that unwinds
  abbrev pub left_in : Machine → ℕ
  left_in m = waits code.ops (m.run ∷ m.callers)

  -- a step of unwinding leaves less than w, and where it goes on less than before
  abbrev pub StepFalls : ℕ → ℕ → UnwindEnd → Asked → Machine → Type 0
  StepFalls w left unwound.On a m = FallsBelow code w Quiet m
  StepFalls w left unwound.Still a m = FallsBelow code w Unwind m × (left_in m < left)
  StepFalls w left unwound.Asks a m = FallsBelow code w (Ask a) m

  -- the entry of a row has begun in a machine that unwinds, to which so much was left
  pub record Entered (w left : ℕ) (m : Machine) : Type 0 where
    pub old : Machine
    pub below : UnwoundBelow (laid_of code) code.routines w old
    pub is : left_in old ≡ left
    pub row : ℕ
    pub entry : Entry (laid_of code) row (chain code.rows old.run.control)
    pub callers : m.callers ≡ old.callers
    pub control : m.run.control ≡ entry.row.entry
    pub elements : m.run.elements ≡ old.run.elements
    pub handles : m.run.handles ≡ old.run.handles
    pub counts : m.run.counts ≡ old.run.counts
    pub few : old.run.elements < 2 ^ 32

  abbrev pub EnteredBelow : ℕ → ℕ → Machine → Type 0
  EnteredBelow w left m = Within (laid_of code) code.routines (λ v n. Entered v left n) w m

  -- what is kept while a ride goes on, and where it asks something behind which the task goes on; at the end of the task all that does
  -- not run in the objects of its hand is left as whoever is let in next needs it

  abbrev pub KeepsAfter : Request → Machine → Type 0
  KeepsAfter ask.End m = EachOf (IdlesAt (laid_of code) code.routines) m.env.hand
  KeepsAfter (ask.Fault n) m = Unit {0}
  KeepsAfter _ m = Keeps code m

  -- so it is of a task that is made
  abbrev pub ChildKeeps : Option Machine → Type 0
  ChildKeeps None = Unit {0}
  ChildKeeps (Some m) = Keeps code m

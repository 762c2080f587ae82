-- The ends of blocks that are left as a whole, and of mains, where they are unwound.
use Rattle.std.specs.Prelude.{◌≡◌, ℕ, List, [], ◌∷◌, Option, Some, Bool, true, false}
use Rattle.uc_tree.specs.Source.{Source}
use Rattle.uc_machine.specs.declared.exec.UnwindReason.{UnwindReason}
use Rattle.uc_machine.specs.declared.exec.UnwindReason.TheVariants as reason
use Rattle.uc_entry.specs.declared.fault.RunFault.TheVariants as fault
use Rattle.uc_entry.specs.Faults.{fault_number}
use Rattle.uc_entry.specs.declared.request.Request.TheVariants as ask
use Rattle.uc_machine.specs.Executions.{calmed}
use Rattle.uc_machine.specs.Quiet.{State}
use Rattle.uc_code.specs.Layout.{Laid}
use Rattle.uc_frames.specs.Objects.{arrived_at}
use Rattle.uc_frames.specs.Machine.{Activation, Machine, nought}
use Rattle.uc_frames.specs.Calls.{left}
use Rattle.uc_frames.specs.Stands.{Stands}
use Rattle.uc_frames.specs.UnwindingStands.{Unwinds}
use Rattle.uc_coroutine.specs.declared.testing.TaskMainEnd.{TaskMainEnd}
use Rattle.uc_coroutine.specs.declared.testing.TaskMainEnd.TheVariants.{Ended, Returned, Unhandled, HeldUp}
use Rattle.uc_coroutine.specs.UnwindingSteps.{Leads, GoesTo}
use Rattle.uc_coroutine.specs.Switching.{AsksBehind}

-- an unwinding is over, or goes on at this op
abbrev pub block_over : Bool → ℕ → Machine → Machine
block_over true behind m = record m { run = calmed behind m.run }
block_over false behind m = record m { run = record m.run { control = behind } }

-- a mutex call that a return of a handler reaches goes on at the first of these ops, another is cleaned up from the second on
abbrev pub call_over : Bool → ℕ → ℕ → Machine → Machine
call_over true arrived behind m = record m { run = arrived_at arrived m.run }
call_over false arrived behind m = record m { run = record m.run { control = behind } }

abbrev pub is_return : Option UnwindReason → Bool
is_return (Some (reason.ReturnTo home)) = true
is_return _ = false

abbrev pub ended_by : List Activation → TaskMainEnd
ended_by [] = Ended
ended_by (c ∷ cs) = Returned

-- where the task is held up in its own object, or is not
abbrev pub returned_by : Bool → List Activation → TaskMainEnd
returned_by true cs = HeldUp
returned_by false cs = ended_by cs

abbrev pub main_by : Bool → Option UnwindReason → List Activation → TaskMainEnd
main_by held (Some (reason.ReturnTo home)) cs = returned_by held cs
main_by held _ cs = Unhandled

abbrev pub main_over : TaskMainEnd → Machine → Machine
main_over Ended m = m
main_over Returned m = left nought m.callers m
main_over Unhandled m = m
main_over HeldUp m = m

module _ (source : Source) (code : Laid) where
  abbrev pub BlockLeft : Bool → Machine → State → Type 0
  BlockLeft true m s = GoesTo source code (Stands code) m s
  BlockLeft false m s = GoesTo source code (Unwinds code) m s

  abbrev pub MainLeft : TaskMainEnd → Machine → State → Type 0
  MainLeft Ended m s = AsksBehind source code ask.End m s
  MainLeft Returned m s = Leads source code (Stands code) m s
  MainLeft Unhandled m s = AsksBehind source code (ask.Fault (fault_number fault.Unhandled)) m s
  MainLeft HeldUp m s = AsksBehind source code (ask.Fault (fault_number fault.BlockedInside)) m s

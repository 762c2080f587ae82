-- Switches on cells, as functions tell them, and what they are in the source.
use Rattle.std.specs.Prelude.{◌≡◌, Option, Some, None}
use Rattle.uc_tree.specs.Source.{Source}
use Rattle.uc_machine.specs.declared.exec.UnwindReason.{UnwindReason}
use Rattle.uc_machine.specs.declared.exec.UnwindReason.TheVariants as reason
use Rattle.uc_entry.specs.declared.fault.RunFault.{RunFault}
use Rattle.uc_entry.specs.Faults.{fault_number}
use Rattle.uc_entry.specs.declared.request.Request.{Request}
use Rattle.uc_entry.specs.declared.request.Request.TheVariants as ask
use Rattle.uc_machine.specs.Quiet.{State, Asks, quiet, Quietly, line_of}
use Rattle.uc_machine.specs.Executions as exec
use Rattle.uc_machine.specs.Switches.{Moved, To, Stops, finish, escape, taken_down}
use Rattle.uc_code.specs.Layout.{Laid}
use Rattle.uc_frames.specs.Machine.{Machine, cell_of}
use Rattle.uc_frames.specs.StandsByParts.{Numbered, MembersStand}
use Rattle.uc_frames.specs.Stands.{RunStands, CallerStands, Stands}
use Rattle.uc_coroutine.specs.UnwindingSteps.{Leads}

module _ {C V : Type 0} where
  -- the fault, if a switch is one
  abbrev pub fault_in : Moved C V → Option RunFault
  fault_in (To s) = None
  fault_in (Stops f) = Some f

  -- the state that it leads to, or else the old one
  abbrev pub state_in : exec.State C V → Moved C V → exec.State C V
  state_in old (To s) = s
  state_in old (Stops f) = old

  -- the main of a coroutine is left, which is unwound for this reason
  abbrev pub left_by : Option UnwindReason → exec.State C V → Moved C V
  left_by (Some (reason.ReturnTo home)) s = finish s
  left_by (Some reason.Destroyed) s = taken_down s
  left_by _ s = escape s

module _ (source : Source) (code : Laid) where
  -- it asks this, behind some quiet steps, in the same line, and what it has in hand stands
  pub record AsksBehind (r : Request) (m : Machine) (s : State) : Type 0 where
    pub before : State
    pub after : State
    pub by : Quietly source s before
    pub line : line_of before ≡ line_of s
    pub asks : quiet source before ≡ Asks r after
    pub hand : Numbered (MembersStand (RunStands code) (CallerStands code) cell_of) m.env.hand after.env.hand

  abbrev pub SwitchedAs : Option RunFault → Machine → State → Type 0
  SwitchedAs None m s = Leads source code (Stands code) m s
  SwitchedAs (Some f) m s = AsksBehind (ask.Fault (fault_number f)) m s

-- What a step of unwinding is in the source.
use Rattle.std.specs.Prelude.{◌≡◌, ℕ, length, ◌⊎◌, Option, Some, None, Bool, true, false}
use Rattle.uc_tree.specs.Source.{Source}
use Rattle.uc_entry.specs.declared.fault.RunFault.TheVariants.{EscapeInUnwind}
use Rattle.uc_entry.specs.Faults.{fault_number}
use Rattle.uc_entry.specs.declared.request.Request.TheVariants as ask
use Rattle.uc_machine.specs.Quiet.{Value, State, Goes, Asks, quiet, Quietly}
use Rattle.uc_machine.specs.Raising.{end_by}
use Rattle.uc_code.specs.declared.rows.MainOf.{MainOf}
use Rattle.uc_code.specs.Layout.{Laid, chain}
use Rattle.uc_frames.specs.Machine.{Machine}
use Rattle.uc_frames.specs.Searches.{catcher_in}
use Rattle.uc_frames.specs.Stands.{Stands}
use Rattle.uc_frames.specs.UnwindingStands.{Unwinds, TestsBlock, TestsCall, EndsMain, LeavesNow}
use Rattle.uc_frames.specs.UnwindingOutcomes.{event_by, Catches}
use Rattle.uc_coroutine.specs.declared.leaving.Left.{Left}
use Rattle.uc_coroutine.specs.declared.leaving.Left.TheVariants.{Ended, Returned, Escaped, PassedOn}

-- the running activation is that to which it is unwound, and the row the one that catches its event there, if one does
pub record IsOwn (code : Laid) (frame : ℕ) (row : Option ℕ) (m : Machine) : Type 0 where
  pub here : frame ≡ length m.callers
  pub catches : row ≡ catcher_in (event_by m.run.raised) code.rows (chain code.rows m.run.control)

-- the end of a handler by a return, which hands this over
pub record ReturnsPast (code : Laid) (given : Value) (m : Machine) (s : State) : Type 0 where
  pub after : State
  pub by : end_by s.run.handles given s ≡ Goes after
  pub stands : Unwinds code m after

module _ (source : Source) (code : Laid) where
  -- some quiet steps lead to a state for which the machine stands so
  pub record Leads (P : Machine → State → Type 0) (m : Machine) (s : State) : Type 0 where
    pub after : State
    pub by : Quietly source s after
    pub stands : P m after

  -- a main is left, of a task or of a coroutine
  abbrev pub LeavesMain : Machine → State → Type 0
  LeavesMain m s = (whose : MainOf) × Leads (EndsMain code whose) m s

  -- a clean-up begins, or the op comes that tests whether the unwinding of a block or of a mutex call is over, or that ends a main
  abbrev pub Begins : Machine → State → Type 0
  Begins m s = Leads (Stands code) m s ⊎ (Leads (TestsBlock code) m s ⊎ (Leads (TestsCall code) m s ⊎ LeavesMain m s))

  abbrev pub UnwoundTo : Bool → Option ℕ → Machine → State → Type 0
  UnwoundTo true row m s = Begins m s
  UnwoundTo false None m s = Leads (LeavesNow code) m s
  UnwoundTo false (Some n) m s = Catches source code s.run s.callers s.env s.run.raised n s

  -- one quiet step is the end of an activation that is unwound
  pub record GoesTo (P : Machine → State → Type 0) (m : Machine) (s : State) : Type 0 where
    pub after : State
    pub by : quiet source s ≡ Goes after
    pub stands : P m after

  abbrev pub LeftAs : Left → Machine → State → Type 0
  LeftAs Ended m s = quiet source s ≡ Asks ask.End s
  LeftAs Returned m s = GoesTo (Stands code) m s
  LeftAs Escaped m s = quiet source s ≡ Asks (ask.Fault (fault_number EscapeInUnwind)) s
  LeftAs PassedOn m s = GoesTo (Unwinds code) m s

-- What a machine is once the handler of an event has begun.
use Rattle.std.specs.Prelude.{◌≡◌, ℕ, List, ◌∷◌, Option, Some, None, slice_get}
use Rattle.uc_tree.specs.Source.{Source}
use Rattle.uc_machine.specs.declared.exec.UnwindReason.{UnwindReason}
use Rattle.uc_machine.specs.Executions.{at_depth}
use Rattle.uc_machine.specs.Quiet.{State, Goes, quiet, Quietly}
use Rattle.uc_machine.specs.Raising.{home_of}
use Rattle.uc_code.specs.declared.rows.HandlerRow.{HandlerRow}
use Rattle.uc_code.specs.declared.rows.RowKind.{RowKind}
use Rattle.uc_code.specs.declared.rows.RowKind.TheVariants as kind
use Rattle.uc_code.specs.Layout.{Laid}
use Rattle.uc_frames.specs.declared.event.Event.{Event}
use Rattle.uc_frames.specs.declared.event.HandlerStart.{HandlerStart}
use Rattle.uc_frames.specs.Machine.{Activation, Machine}
use Rattle.uc_frames.specs.Stands.{Stands}
use Rattle.uc_frames.specs.Unwinding.{unwound_by, catching, handled}
use Rattle.uc_frames.specs.UnwindingStands.{Unwinds}
use Rattle.uc_except.specs.declared.found.Found.{Found}
use Rattle.uc_except.specs.declared.found.Found.TheVariants.{Handler, None as Nowhere}

-- a handler of resumptions uses what the activation uses in which it stands
abbrev pub handling_of : HandlerRow → ℕ → Event → Activation → HandlerStart
handling_of r frame e a = record {
  entry = r.entry;
  this = a.this;
  frame = a.frame;
  visited = record { level = frame; rest = r.rest; home = home_of a.handles frame };
  event = e;
}

abbrev pub resumed_by : Option Activation → HandlerRow → ℕ → Event → Machine → Machine
resumed_by None r frame e m = m
resumed_by (Some a) r frame e m = handled (handling_of r frame e a) m

abbrev pub handled_by : RowKind → HandlerRow → ℕ → Event → Machine → Machine
handled_by kind.Catch r frame e m = record m { run = catching r.entry e m.run }
handled_by kind.CatchResume r frame e m = resumed_by (at_depth (m.run ∷ m.callers) frame) r frame e m
handled_by kind.CleanUp r frame e m = m

abbrev pub handled_at : Option HandlerRow → ℕ → Event → Machine → Machine
handled_at None frame e m = m
handled_at (Some r) frame e m = handled_by r.kind r frame e m

-- the handler that was found begins
abbrev pub handler_begun : List HandlerRow → Found → Event → Machine → Machine
handler_begun rows Nowhere e m = m
handler_begun rows (Handler frame row) e m = handled_at (slice_get rows row) frame e m

-- an event is thrown
abbrev pub thrown : UnwindReason → Machine → Machine
thrown why m = record m { run = unwound_by why m.run.result m.run }

abbrev pub IsFound : Found → Type 0
IsFound Nowhere = ⊥
IsFound (Handler frame row) = Unit {0}

-- the source goes on to what the machine stands for
pub record GoesOn (source : Source) (code : Laid) (m : Machine) (s : State) : Type 0 where
  pub after : State
  pub by : Quietly source s after
  pub stands : Stands code m after

-- one step of the source unwinds as the machine does
pub record UnwindsNow (source : Source) (code : Laid) (m : Machine) (s : State) : Type 0 where
  pub after : State
  pub by : quiet source s ≡ Goes after
  pub stands : Unwinds code m after

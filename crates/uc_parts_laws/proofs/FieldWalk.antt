-- Every quiet step, so.
use Rattle.std.proofs.Common.{ℕ, List, [], ◌∷◌}
use Rattle.std.specs.Prelude.{slice_get}
use Rattle.uc_tree.specs.Source as src
use Rattle.uc_tree.specs.Source.{Source}
use Rattle.uc_machine.specs.Executions.{frame_changed, values_cleared}
use Rattle.uc_machine.specs.Raising as raising
use Rattle.uc_machine.specs.Monitors as monitors
use Rattle.uc_machine.specs.Quiet as quiet
use Rattle.uc_machine.specs.Pieces as piece
use Rattle.uc_machine.specs.Pieces.{Todo, State, Members, at, top, number}
use Rattle.uc_parts_laws.proofs.FieldKeeping.{Still, with_frames_still, enlivened_still, forgotten_still, take_down_still, wake_still, suspend_still, finish_still}
use Rattle.uc_parts_laws.proofs.FieldSteps as steps
use Rattle.uc_parts_laws.proofs.FieldSteps.{StillStep}

module _ (old : List (ℕ × Members)) (source : Source) (s : State) (d : Still old s.env) where
  -- one piece, with what is to do behind it
  acts : (p : Todo) (todo : List Todo) → StillStep old (quiet.act source p todo s)
  acts (piece.Eval a) todo = steps.eval old s d a todo
  acts (piece.ElementNow n k) todo = steps.element old s d k _ todo _ _
  acts piece.NegateNow todo = steps.outcome old s d _ todo _
  acts (piece.OperateNow op) todo = steps.outcome old s d _ todo _
  acts piece.StoreNow todo = steps.write old s d _ _
  acts piece.KeepNow todo = steps.write old s d _ _
  acts (piece.SetNow k) todo = steps.write old s d (piece.variable_at k s) (piece.Number (number (top s.run.operands)))
  acts piece.BindNow todo = steps.write old s d _ _
  acts (piece.Arguments src.NoExprs) todo = d
  acts (piece.Arguments (src.MoreExprs e es)) todo = d
  acts (piece.CallNow r) todo = steps.call old s d (slice_get source.routines r) todo
  acts (piece.CallOnNow r) todo = steps.call_on old s d (slice_get source.routines r) todo
  acts (piece.CallUnwrittenNow r) todo = steps.call_unwritten old s d (slice_get source.routines r) todo
  acts (piece.PrintNow f) todo = steps.prints old s d s.env.gathered _ todo _
  acts (piece.TextNow k) todo = steps.prints old s d s.env.gathered _ todo _
  acts piece.FlushNow todo = steps.flushes old s d s.env.gathered todo _
  acts (piece.ClearNow k n) todo = with_frames_still old s.env.exec (frame_changed s.run.frame (values_cleared k n piece.nought)) s.env d
  acts (piece.Items []) todo = d
  acts (piece.Items (i ∷ is)) todo = d
  acts (piece.Values []) todo = d
  acts (piece.Values (i ∷ is)) todo = d
  acts (piece.Pieces []) todo = d
  acts (piece.Pieces (i ∷ is)) todo = d
  acts (piece.Targets []) todo = d
  acts (piece.Targets (t ∷ ts)) todo = d
  acts (piece.Variables []) todo = d
  acts (piece.Variables (v ∷ vs)) todo = d
  acts (piece.Do a) todo = steps.stmt old s d a todo
  acts (piece.Rest ss) todo = steps.rest old s d ss todo
  acts (piece.Exit w) todo = steps.exits old s d w todo
  acts (piece.Sweep e) todo = steps.swept old s d s.run.elements e todo
  acts piece.Unwind todo = steps.unwinds old s d todo
  acts piece.RaiseNow todo = steps.handles old s d _ (raising.event_in s.run.operands) todo
  acts (piece.SetUpNow r) todo = steps.set_up old s d (slice_get source.routines r) todo
  acts piece.EnlivenNow todo = enlivened_still old _ s.env d
  acts piece.TakeDownNow todo = steps.moved old s d _ todo _ (take_down_still old (piece.own_exec s) (at todo s.run.operands s) d)
  acts piece.ForgetNow todo = forgotten_still old _ s.env d
  acts (piece.LiveNow r) todo = steps.live old s d (slice_get source.routines r) todo
  acts piece.ResumeNow todo = steps.moved old s d _ (piece.Land ∷ todo) _ (wake_still old (quiet.resumed s) (at (piece.Land ∷ todo) s.run.operands s) d)
  acts piece.SuspendNow todo = steps.moved old s d _ (piece.Land ∷ todo) _ (suspend_still old (at (piece.Land ∷ todo) s.run.operands s) d)
  acts piece.Land todo = steps.land old s d s.run.raised todo
  acts (piece.EnterNow m r) todo = steps.enter old s d m (slice_get source.routines r) todo
  acts piece.LeaveNow todo = steps.leave old s d (monitors.this_object s) todo
  acts (piece.MakeNow c r) todo = steps.make old s d c r (slice_get source.routines r) todo
  acts (piece.BindMadeNow c r) todo = steps.bind old s d (slice_get source.routines r) todo
  acts piece.MadeNow todo = steps.unless old s d (monitors.this_object s) _ todo d
  acts (piece.SpawnNow r) todo = steps.unless old s d (monitors.this_object s) _ (piece.ChildNow r ∷ todo) d
  acts piece.GoneNow todo = d
  acts piece.GiveUpNow todo = d
  acts (piece.ConditionNow k n) todo = steps.condition old s d k _ todo
  acts piece.WaitNow todo = steps.unless old s d (monitors.this_object s) _ todo d
  acts piece.SignalBlockNow todo = steps.unless old s d (monitors.this_object s) _ todo d
  acts (piece.Guards src.NoClauses) todo = d
  acts (piece.Guards (src.Otherwise b)) todo = d
  acts (piece.Guards (src.MoreClauses guard b cs)) todo = d
  acts (piece.AcceptNow site n) todo = steps.accept old s d _ (monitors.this_object s) site todo _
  acts piece.FailedNow todo = steps.failed old s d _ todo _
  acts piece.RaiseAtNow todo = steps.raise_at old s d _ _ todo _
  acts (piece.EnableNow events cell) todo = steps.enables old s d cell
  acts (piece.DisableNow events cell) todo = steps.enables old s d cell
  acts piece.PollNow todo = steps.poll old s d todo
  acts piece.DeliverNow todo = steps.deliver old s d _ todo
  acts piece.Finish todo = steps.unless old s d s.env.own _ todo (steps.returned old s d _ s.callers)
  acts piece.FinishCoroutine todo = steps.moved old s d _ todo _ (finish_still old (at todo s.run.operands s) d)
  acts p todo = d

  pub walk : StillStep old (quiet.quiet source s)
  walk = by s.run.control
    where
      by : (l : List Todo) → StillStep old (quiet.act_todo source l s)
      by [] = steps.returned old s d _ s.callers
      by (p ∷ todo) = acts p todo

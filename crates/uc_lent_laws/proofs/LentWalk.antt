-- Every quiet step keeps what is told of cells of mutex objects, as long as what it binds may be there, and so does each answer.
use Rattle.std.proofs.Common.{ℕ, List, [], ◌∷◌, Option, Some, None}
use Rattle.std.specs.Prelude.{slice_get}
use Rattle.uc_tree.specs.Source as src
use Rattle.uc_tree.specs.Source.{Source, cells_of_class}
use Rattle.uc_entry.specs.declared.request.Answer.{Answer}
use Rattle.uc_entry.specs.declared.request.Answer.TheVariants as answer
use Rattle.uc_machine.specs.Executions.{values_cleared}
use Rattle.uc_machine.specs.Raising as raising
use Rattle.uc_machine.specs.Monitors as monitors
use Rattle.uc_machine.specs.Quiet as quiet
use Rattle.uc_machine.specs.Pieces as piece
use Rattle.uc_machine.specs.Pieces.{Value, Todo, State, Members, at, top, number}
use Rattle.uc_machine.specs.Answering.{answered, entered, new_members}
use Rattle.uc_lent_laws.specs.LentStates.{MembersTold, StateTold, StepTold, BindsAt, Binds}
use Rattle.uc_lent_laws.proofs.LentCells.{Told, anew_told, values_zero, more_told, enlivened_told, forgotten_told, take_down_told, wake_told, suspend_told, finish_told}
use Rattle.uc_lent_laws.proofs.LentSteps as steps

module _ (T : ℕ → ℕ → Value → Type 0) (source : Source) (s : State) (d : Told T s.env) where
  -- one piece, with what is to do behind it
  acts : (p : Todo) (todo : List Todo) → BindsAt T source (p ∷ todo) s → StepTold T (quiet.act source p todo s)
  acts (piece.Eval a) todo h = steps.eval T s d a todo
  acts (piece.ElementNow n k) todo h = steps.element T s d k _ todo _ _
  acts piece.NegateNow todo h = steps.outcome T s d _ todo _
  acts (piece.OperateNow op) todo h = steps.outcome T s d _ todo _
  acts piece.StoreNow todo h = steps.write_number T s d _ _
  acts piece.KeepNow todo h = steps.write_number T s d _ _
  acts (piece.SetNow k) todo h = steps.write_number T s d (piece.variable_at k s) (number (top s.run.operands))
  acts piece.BindNow todo h = steps.write T s d _ _ h
  acts (piece.Arguments src.NoExprs) todo h = d
  acts (piece.Arguments (src.MoreExprs e es)) todo h = d
  acts (piece.CallNow r) todo h = steps.call T s d (slice_get source.routines r) todo
  acts (piece.CallOnNow r) todo h = steps.call_on T s d (slice_get source.routines r) todo
  acts (piece.CallUnwrittenNow r) todo h = steps.call_unwritten T s d (slice_get source.routines r) todo
  acts (piece.PrintNow f) todo h = steps.prints T s d s.env.gathered _ todo _
  acts (piece.TextNow k) todo h = steps.prints T s d s.env.gathered _ todo _
  acts piece.FlushNow todo h = steps.flushes T s d s.env.gathered todo _
  acts (piece.ClearNow k n) todo h = anew_told T s.env.exec s.run.frame (values_cleared k n piece.nought) s.env d
  acts (piece.Items []) todo h = d
  acts (piece.Items (i ∷ is)) todo h = d
  acts (piece.Values []) todo h = d
  acts (piece.Values (i ∷ is)) todo h = d
  acts (piece.Pieces []) todo h = d
  acts (piece.Pieces (i ∷ is)) todo h = d
  acts (piece.Targets []) todo h = d
  acts (piece.Targets (t ∷ ts)) todo h = d
  acts (piece.Variables []) todo h = d
  acts (piece.Variables (v ∷ vs)) todo h = d
  acts (piece.Do a) todo h = steps.stmt T s d a todo
  acts (piece.Rest ss) todo h = steps.rest T s d ss todo
  acts (piece.Exit w) todo h = steps.exits T s d w todo
  acts (piece.Sweep e) todo h = steps.swept T s d s.run.elements e todo
  acts piece.Unwind todo h = steps.unwinds T s d todo
  acts piece.RaiseNow todo h = steps.handles T s d _ (raising.event_in s.run.operands) todo
  acts (piece.SetUpNow r) todo h = steps.set_up T s d (slice_get source.routines r) todo
  acts piece.EnlivenNow todo h = enlivened_told T _ s.env d
  acts piece.TakeDownNow todo h = steps.moved T s d _ todo _ (take_down_told T (piece.own_exec s) (at todo s.run.operands s) d)
  acts piece.ForgetNow todo h = forgotten_told T _ s.env d
  acts (piece.LiveNow r) todo h = steps.live T s d (slice_get source.routines r) todo
  acts piece.ResumeNow todo h = steps.moved T s d _ (piece.Land ∷ todo) _ (wake_told T (quiet.resumed s) (at (piece.Land ∷ todo) s.run.operands s) d)
  acts piece.SuspendNow todo h = steps.moved T s d _ (piece.Land ∷ todo) _ (suspend_told T (at (piece.Land ∷ todo) s.run.operands s) d)
  acts piece.Land todo h = steps.land T s d s.run.raised todo
  acts (piece.EnterNow m r) todo h = steps.enter T s d m (slice_get source.routines r) todo
  acts piece.LeaveNow todo h = steps.leave T s d (monitors.this_object s) todo
  acts (piece.MakeNow c r) todo h = steps.make T s d c r (slice_get source.routines r) todo
  acts (piece.BindMadeNow c r) todo h = steps.bind T s d (slice_get source.routines r) todo h
  acts piece.MadeNow todo h = steps.unless T s d (monitors.this_object s) _ todo d
  acts (piece.SpawnNow r) todo h = steps.unless T s d (monitors.this_object s) _ (piece.ChildNow r ∷ todo) d
  acts piece.GoneNow todo h = d
  acts piece.GiveUpNow todo h = d
  acts (piece.ConditionNow k n) todo h = steps.condition T s d k _ todo
  acts piece.WaitNow todo h = steps.unless T s d (monitors.this_object s) _ todo d
  acts piece.SignalBlockNow todo h = steps.unless T s d (monitors.this_object s) _ todo d
  acts (piece.Guards src.NoClauses) todo h = d
  acts (piece.Guards (src.Otherwise b)) todo h = d
  acts (piece.Guards (src.MoreClauses guard b cs)) todo h = d
  acts (piece.AcceptNow site n) todo h = steps.accept T s d _ (monitors.this_object s) site todo _
  acts piece.FailedNow todo h = steps.failed T s d _ todo _
  acts piece.RaiseAtNow todo h = steps.raise_at T s d _ _ todo _
  acts (piece.EnableNow events cell) todo h = steps.enables T s d cell
  acts (piece.DisableNow events cell) todo h = steps.enables T s d cell
  acts piece.PollNow todo h = steps.poll T s d todo
  acts piece.DeliverNow todo h = steps.deliver T s d _ todo
  acts piece.Finish todo h = steps.unless T s d s.env.own _ todo (steps.returned T s d _ s.callers)
  acts piece.FinishCoroutine todo h = steps.moved T s d _ todo _ (finish_told T (at todo s.run.operands s) d)
  acts p todo h = d

  pub walk : Binds T source s → StepTold T (quiet.quiet source s)
  walk h = by s.run.control h
    where
      by : (l : List Todo) → BindsAt T source l s → StepTold T (quiet.act_todo source l s)
      by [] b = steps.returned T s d _ s.callers
      by (p ∷ todo) b = acts p todo b

-- a new object holds numbers alone
module _ (T : ℕ → ℕ → Value → Type 0) (source : Source) where
  new_told : (o : ℕ) (todo : List Todo) → MembersTold T o (new_members source todo)
  new_told o [] = tt
  new_told o (piece.BindMadeNow c r ∷ todo) = values_zero T o (cells_of_class source c)
  new_told o (p ∷ todo) = tt

  entered_told : (m : Option Members) (o : ℕ) (s : State) → MembersTold T o m → StateTold T s → StateTold T (entered m o s)
  entered_told None o s i d = d
  entered_told (Some m) o s i d = more_told T s.env.hand o m i d

  pub answered_told : (given : Answer) (s : State) → StateTold T s → StateTold T (answered source given s)
  answered_told (answer.Object o) s d = entered_told (new_members source s.run.control) o s (new_told o s.run.control) d
  answered_told (answer.Number n) s d = d
  answered_told (answer.Value n failed) s d = d
  answered_told (answer.Clause k failed) s d = d
  answered_told (answer.Event n x y) s d = d
  answered_told answer.Nothing s d = d
  answered_told answer.Go s d = d

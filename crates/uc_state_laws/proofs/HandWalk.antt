-- Every quiet step, and rides of them.
use Rattle.std.proofs.Common.{◌≡◌, ℕ, true, List, [], ◌∷◌, Some, None, refl, ap, subst}
use Rattle.std.specs.Prelude.{slice_get}
use Rattle.uc_tree.specs.Source as src
use Rattle.uc_tree.specs.Source.{Source}
use Rattle.uc_entry.specs.declared.request.Answer.{Answer}
use Rattle.uc_entry.specs.declared.request.Answer.TheVariants as answer
use Rattle.uc_entry.specs.declared.request.Asked.{Asked}
use Rattle.uc_machine.specs.Executions.{values_cleared}
use Rattle.uc_machine.specs.Raising as raising
use Rattle.uc_machine.specs.Monitors as monitors
use Rattle.uc_machine.specs.Quiet as quiet
use Rattle.uc_machine.specs.Pieces as piece
use Rattle.uc_machine.specs.Pieces.{Todo, State, Members, at, top, number}
use Rattle.uc_machine.specs.Answering.{answered, entered, new_members, with_operand}
use Rattle.uc_machine.specs.Rides as rides
use Rattle.uc_machine.specs.Rides.{Rides}
use Rattle.uc_step_laws.specs.Holding.{plain, Binds}
use Rattle.uc_state_laws.specs.Deep.{deep_in, DeepBehind, DeepStep}
use Rattle.uc_state_laws.specs.DeepSteps.{LawDeepSteps}
use Rattle.uc_state_laws.proofs.Kept.{Deep, owned_deep, enlivened_deep, forgotten_deep, take_down_deep, wake_deep, suspend_deep, finish_deep}
use Rattle.uc_state_laws.proofs.HandSteps as steps

module _ (ks : List ℕ) (source : Source) (s : State) (d : Deep ks s.env) where
  -- one piece, with what is to do behind it
  acts : (p : Todo) (todo : List Todo) → DeepStep ks (quiet.act source p todo s)
  acts (piece.Eval a) todo = steps.eval ks s d a todo
  acts (piece.ElementNow n k) todo = steps.element ks s d k _ todo _ _
  acts piece.NegateNow todo = steps.outcome ks s d _ todo _
  acts (piece.OperateNow op) todo = steps.outcome ks s d _ todo _
  acts piece.StoreNow todo = steps.write ks s d _ _
  acts piece.KeepNow todo = steps.write ks s d _ _
  acts (piece.SetNow k) todo = steps.write ks s d (piece.variable_at k s) (piece.Number (number (top s.run.operands)))
  acts piece.BindNow todo = steps.write ks s d _ _
  acts (piece.Arguments src.NoExprs) todo = d
  acts (piece.Arguments (src.MoreExprs e es)) todo = d
  acts (piece.CallNow r) todo = steps.call ks s d (slice_get source.routines r) todo
  acts (piece.CallOnNow r) todo = steps.call_on ks s d (slice_get source.routines r) todo
  acts (piece.CallUnwrittenNow r) todo = steps.call_unwritten ks s d (slice_get source.routines r) todo
  acts (piece.PrintNow f) todo = steps.prints ks s d s.env.gathered _ todo _
  acts (piece.TextNow k) todo = steps.prints ks s d s.env.gathered _ todo _
  acts piece.FlushNow todo = steps.flushes ks s d s.env.gathered todo _
  acts (piece.ClearNow k n) todo = owned_deep ks (piece.this_frame s) (values_cleared k n piece.nought) s.env d
  acts (piece.Items []) todo = d
  acts (piece.Items (i ∷ is)) todo = d
  acts (piece.Values []) todo = d
  acts (piece.Values (i ∷ is)) todo = d
  acts (piece.Pieces []) todo = d
  acts (piece.Pieces (i ∷ is)) todo = d
  acts (piece.Targets []) todo = d
  acts (piece.Targets (t ∷ ts)) todo = d
  acts (piece.Variables []) todo = d
  acts (piece.Variables (v ∷ vs)) todo = d
  acts (piece.Do a) todo = steps.stmt ks s d a todo
  acts (piece.Rest ss) todo = steps.rest ks s d ss todo
  acts (piece.Exit w) todo = steps.exits ks s d w todo
  acts (piece.Sweep e) todo = steps.swept ks s d s.run.elements e todo
  acts piece.Unwind todo = steps.unwinds ks s d todo
  acts piece.RaiseNow todo = steps.handles ks s d _ (raising.event_in s.run.operands) todo
  acts (piece.SetUpNow r) todo = steps.set_up ks s d (slice_get source.routines r) todo
  acts piece.EnlivenNow todo = enlivened_deep ks _ s.env d
  acts piece.TakeDownNow todo = steps.moved ks s d _ todo _ (take_down_deep ks (piece.own_exec s) (at todo s.run.operands s) d)
  acts piece.ForgetNow todo = forgotten_deep ks _ s.env d
  acts (piece.LiveNow r) todo = steps.live ks s d (slice_get source.routines r) todo
  acts piece.ResumeNow todo = steps.moved ks s d _ (piece.Land ∷ todo) _ (wake_deep ks (quiet.resumed s) (at (piece.Land ∷ todo) s.run.operands s) d)
  acts piece.SuspendNow todo = steps.moved ks s d _ (piece.Land ∷ todo) _ (suspend_deep ks (at (piece.Land ∷ todo) s.run.operands s) d)
  acts piece.Land todo = steps.land ks s d s.run.raised todo
  acts (piece.EnterNow m r) todo = steps.enter ks s d m (slice_get source.routines r) todo
  acts piece.LeaveNow todo = steps.leave ks s d (monitors.this_object s) todo
  acts (piece.MakeNow c r) todo = steps.make ks s d c r (slice_get source.routines r) todo
  acts (piece.BindMadeNow c r) todo = steps.bind ks s d (slice_get source.routines r) todo
  acts piece.MadeNow todo = steps.unless ks s d (monitors.this_object s) _ todo (steps.left ks s d (monitors.this_object s))
  acts (piece.SpawnNow r) todo = steps.unless ks s d (monitors.this_object s) _ (piece.ChildNow r ∷ todo) (steps.left ks s d (monitors.this_object s))
  acts piece.GoneNow todo = steps.left ks s d (monitors.this_object s)
  acts piece.GiveUpNow todo = steps.left ks s d (monitors.this_object s)
  acts (piece.ConditionNow k n) todo = steps.condition ks s d k _ todo
  acts piece.WaitNow todo = steps.unless ks s d (monitors.this_object s) _ todo d
  acts piece.SignalBlockNow todo = steps.unless ks s d (monitors.this_object s) _ todo d
  acts (piece.Guards src.NoClauses) todo = d
  acts (piece.Guards (src.Otherwise b)) todo = d
  acts (piece.Guards (src.MoreClauses guard b cs)) todo = d
  acts (piece.AcceptNow site n) todo = steps.accept ks s d _ (monitors.this_object s) site todo _
  acts piece.FailedNow todo = steps.failed ks s d _ todo _
  acts piece.RaiseAtNow todo = steps.raise_at ks s d _ _ todo _
  acts (piece.EnableNow events cell) todo = steps.enables ks s d cell
  acts (piece.DisableNow events cell) todo = steps.enables ks s d cell
  acts piece.PollNow todo = steps.poll ks s d todo
  acts piece.DeliverNow todo = steps.deliver ks s d _ todo
  acts piece.Finish todo = steps.unless ks s d s.env.own _ todo (steps.returned ks s d _ s.callers)
  acts piece.FinishCoroutine todo = steps.moved ks s d _ todo _ (finish_deep ks (at todo s.run.operands s) d)
  acts p todo = d

  pub walk : DeepStep ks (quiet.quiet source s)
  walk = by s.run.control
    where
      by : (l : List Todo) → DeepStep ks (quiet.act_todo source l s)
      by [] = steps.returned ks s d _ s.callers
      by (p ∷ todo) = acts p todo

pub rides_deep : (source : Source) (ks : List ℕ) {s u : State} {q k : ℕ} {a : Asked} → Rides source s q u k a → deep_in s ≡ ks → DeepBehind a.request ks (deep_in u)
rides_deep source ks rides.slices d = d
rides_deep source ks (rides.goes_on {s} {t} e r) d = rides_deep source ks r (subst (DeepStep ks) e (walk ks source s d))
rides_deep source ks (rides.ticks {s} {t} e r) d = rides_deep source ks r (subst (DeepStep ks) e (walk ks source s d))
rides_deep source ks (rides.asks {s} {t} e) d = subst (DeepStep ks) e (walk ks source s d)

-- what is bound comes from the class that was asked for
record News (source : Source) (todo : List Todo) : Type 0 where
  members : Members
  is : new_members source todo ≡ Some members

binds_new : (source : Source) (todo : List Todo) → Binds todo → News source todo
binds_new source (piece.BindMadeNow c r ∷ todo) h = record { members = quiet.zeros _; is = refl }
binds_new source todo h = absurd h

plain_none : (source : Source) (todo : List Todo) → plain todo ≡ true → new_members source todo ≡ None
plain_none source [] h = refl
plain_none source (piece.BindMadeNow c r ∷ todo) h = cc
plain_none source (p ∷ todo) h = refl

-- an answer makes a task deep in a new object alone, where that is bound next
pub told_plain : (source : Source) (given : Answer) (s : State) → plain s.run.control ≡ true → deep_in (answered source given s) ≡ deep_in s
told_plain source (answer.Object o) s h = ap (λ x. deep_in (with_operand (piece.Object o) (entered x o s))) (plain_none source s.run.control h)
told_plain source (answer.Number n) s h = refl
told_plain source (answer.Value n failed) s h = refl
told_plain source (answer.Clause k failed) s h = refl
told_plain source (answer.Event n x y) s h = refl
told_plain source answer.Nothing s h = refl
told_plain source answer.Go s h = refl

pub told_bound : (source : Source) (o : ℕ) (s : State) → Binds s.run.control → deep_in (answered source (answer.Object o) s) ≡ o ∷ deep_in s
told_bound source o s h = ap (λ x. deep_in (with_operand (piece.Object o) (entered x o s))) (binds_new source s.run.control h).is

pub law_deep_steps : LawDeepSteps
law_deep_steps = record {
  steps = λ source s. walk (deep_in s) source s refl;
  rides = λ source s u q k a r. rides_deep source (deep_in s) r refl;
  settled = λ source given s h. told_plain source given s h;
  bound = λ source o s h. told_bound source o s h;
}

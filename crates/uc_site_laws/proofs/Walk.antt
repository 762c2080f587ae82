-- Every quiet step of a state of which all names are known, answers to it, and rides of it.
use Rattle.std.proofs.Common.{◌≡◌, ℕ, List, [], ◌∷◌, ◌++◌, Option, Some, None, refl, subst}
use Rattle.std.specs.Prelude.{nat_lt, slice_get}
use Rattle.uc_tree.specs.Programs.{Site}
use Rattle.uc_tree.specs.Source as src
use Rattle.uc_tree.specs.Source.{Source, Routine, routine_or_none, routine_of}
use Rattle.uc_entry.specs.declared.fault.RunFault.TheVariants.{NoReturn}
use Rattle.uc_entry.specs.declared.request.Answer.{Answer}
use Rattle.uc_entry.specs.declared.request.Answer.TheVariants as answer
use Rattle.uc_entry.specs.declared.request.Asked.{Asked}
use Rattle.uc_machine.specs.Executions.{values_cleared}
use Rattle.uc_machine.specs.Raising as raising
use Rattle.uc_machine.specs.Monitors as monitors
use Rattle.uc_machine.specs.Quiet as quiet
use Rattle.uc_machine.specs.Quiet.{first_state, zeros}
use Rattle.uc_machine.specs.Pieces as piece
use Rattle.uc_machine.specs.Pieces.{Value, Todo, State, Members, Step, Goes, Ticks, Asks, at, top, below, number}
use Rattle.uc_machine.specs.Answering.{answered, entered, new_members, with_operand}
use Rattle.uc_machine.specs.Rides as rides
use Rattle.uc_machine.specs.Rides.{Rides}
use Rattle.uc_site_laws.proofs.Kept.{either}
use Rattle.uc_site_laws.specs.Named.{NamedRoutine, NamedSource}
use Rattle.uc_site_laws.specs.SiteLaws.{LawSteps}
use Rattle.uc_site_laws.specs.Naming.{NamedPiece, Named, NamedActive, NamedMembers, NamedState, NamedAsk, NamedStep}
use Rattle.uc_site_laws.specs.Resting.{AllWait, RestsParked, RestsHand, RestsEnv}
use Rattle.uc_site_laws.proofs.Kept as kept
use Rattle.uc_site_laws.proofs.Steps as steps

module _ (sites : List Site) (source : Source) (known : NamedSource sites source) where
  module _ (s : State) (callers : AllWait (NamedActive sites) (NamedActive sites) s.callers) (env : RestsEnv (NamedActive sites) (NamedActive sites) s.env) where
    go : (todo : List Todo) (vs : List Value) → Named sites todo → NamedState sites (at todo vs s)
    go = steps.go sites s callers env

    -- one piece, with what is to do behind it
    acts : (p : Todo) (todo : List Todo) → NamedPiece sites p → Named sites todo → Named sites s.run.control → NamedStep sites (quiet.act source p todo s)
    acts (piece.Eval a) todo n h c = steps.eval sites s callers env a todo n h
    acts (piece.ElementNow m k) todo n h c = steps.element sites s callers env k _ todo _ _ h
    acts piece.NegateNow todo n h c = steps.outcome sites s callers env _ todo _ h
    acts (piece.OperateNow op) todo n h c = steps.outcome sites s callers env _ todo _ h
    acts piece.StoreNow todo n h c = steps.go_in sites s callers env _ _ _ h (steps.write sites s callers env _ _)
    acts piece.KeepNow todo n h c = steps.go_in sites s callers env _ _ _ h (steps.write sites s callers env _ _)
    acts (piece.SetNow k) todo n h c = steps.go_in sites s callers env _ _ _ h (steps.write sites s callers env (piece.variable_at k s) (piece.Number (number (top s.run.operands))))
    acts piece.BindNow todo n h c = steps.go_in sites s callers env _ _ _ h (steps.write sites s callers env _ _)
    acts (piece.Choose e f) todo n h c = go _ _ (either (λ (x : src.Expr). NamedPiece sites (piece.Eval x)) (piece.is_zero (number (top s.run.operands))) f e n.1 n.0, h)
    acts (piece.Branch a b) todo n h c = go _ _ (either (λ (x : src.Stmt). NamedPiece sites (piece.Do x)) (piece.is_zero (number (top s.run.operands))) b a n.1 n.0, h)
    acts (piece.TurnNow o t e b) todo n h c = go _ _ (n.2, (n, h))
    acts (piece.Arguments src.NoExprs) todo n h c = go _ _ h
    acts (piece.Arguments (src.MoreExprs e es)) todo n h c = go _ _ (n.0, (n.1, h))
    acts (piece.CallNow r) todo n h c = steps.call sites s callers env (slice_get source.routines r) todo (known r) h
    acts (piece.CallOnNow r) todo n h c = steps.call_on sites s callers env (slice_get source.routines r) todo (known r) h
    acts (piece.CallUnwrittenNow r) todo n h c = steps.call_unwritten sites s callers env (slice_get source.routines r) todo (known r) h
    acts (piece.CountNow m) todo n h c = record { run = h; callers = callers; env = env }
    acts piece.MoreNow todo n h c = record { run = h; callers = callers; env = env }
    acts (piece.FillNow m b d) todo n h c = go _ _ (steps.filled sites (nat_lt s.run.elements m) m b d todo n h)
    acts (piece.Again o t e b) todo n h c = go _ _ (either (Named sites) (piece.is_zero (number (top s.run.operands))) todo (piece.TurnNow o t e b ∷ todo) h (n, h))
    acts (piece.PrintNow f) todo n h c = steps.prints sites s callers env s.env.gathered _ todo _ h
    acts (piece.TextNow k) todo n h c = steps.prints sites s callers env s.env.gathered _ todo _ h
    acts piece.GatherNow todo n h c = steps.go_in sites s callers env _ _ _ h (steps.likes sites env refl refl)
    acts piece.FlushNow todo n h c = steps.flushes sites s callers env s.env.gathered todo _ h
    acts (piece.ReadNow f) todo n h c = steps.asked sites s callers env _ _ _ tt h
    acts (piece.ClearNow k m) todo n h c = steps.go_in sites s callers env _ _ _ h (kept.owned_rests (NamedActive sites) (NamedActive sites) (steps.calm sites) (piece.this_frame s) (values_cleared k m piece.nought) s.env env)
    acts (piece.Items []) todo n h c = go _ _ h
    acts (piece.Items (i ∷ is)) todo n h c = go _ _ (steps.item sites i _ n.0 (n.1, h))
    acts (piece.Values []) todo n h c = go _ _ h
    acts (piece.Values (i ∷ is)) todo n h c = go _ _ (steps.item_value sites i _ n.0 (n.1, h))
    acts (piece.Pieces []) todo n h c = go _ _ h
    acts (piece.Pieces (i ∷ is)) todo n h c = go _ _ (n.1, (steps.item_piece sites i, h))
    acts (piece.Targets []) todo n h c = go _ _ h
    acts (piece.Targets (t ∷ ts)) todo n h c = go _ _ (n.0, (tt, (tt, (n.1, h))))
    acts (piece.Variables []) todo n h c = go _ _ h
    acts (piece.Variables (d ∷ ds)) todo n h c = go _ _ (tt, steps.starts sites d.cell d.value (piece.Variables ds ∷ todo) n.0 (n.1, h))
    acts (piece.Do a) todo n h c = steps.stmt sites s callers env a todo n h
    acts (piece.Rest ss) todo n h c = steps.rest sites s callers env ss todo n h
    acts (piece.Exit w) todo n h c = steps.exits sites s callers env w todo h c
    acts piece.NoReturnNow todo n h c = steps.stop sites s callers env NoReturn todo _ h
    acts (piece.InLoop o t e b) todo n h c = go _ _ (steps.stepped sites e _ n.1 (steps.tested sites o t e b todo n.0 n.1 n.2 h))
    acts (piece.Clean x) todo n h c = go _ _ (steps.cleans sites x todo n h)
    acts (piece.Sweep e) todo n h c = steps.swept sites s callers env s.run.elements e todo n h
    acts piece.Unwind todo n h c = steps.unwinds sites s callers env todo h c
    acts piece.ThrowNow todo n h c = steps.throws sites s callers env (raising.event_in s.run.operands) todo h
    acts piece.RaiseNow todo n h c = steps.raises sites s callers env (raising.event_in s.run.operands) todo h
    acts (piece.SetUpNow r) todo n h c = steps.set_up sites s callers env (slice_get source.routines r) todo (known r) h
    acts piece.EnlivenNow todo n h c = steps.go_in sites s callers env _ _ _ h (kept.enlivened_rests (NamedActive sites) (NamedActive sites) (steps.calm sites) _ s.env env)
    acts piece.TakeDownNow todo n h c = steps.moved sites s callers env _ todo _ h (kept.take_down_rests (NamedActive sites) (NamedActive sites) (steps.calm sites) (piece.own_exec s) (at todo s.run.operands s) (go _ _ h))
    acts piece.ForgetNow todo n h c = steps.go_in sites s callers env _ _ _ h (kept.forgotten_rests (NamedActive sites) (NamedActive sites) (steps.calm sites) _ s.env env)
    acts (piece.LiveNow r) todo n h c = steps.live sites s callers env (slice_get source.routines r) todo h
    acts piece.ResumeNow todo n h c = steps.moved sites s callers env _ (piece.Land ∷ todo) _ (tt, h) (kept.wake_rests (NamedActive sites) (NamedActive sites) (steps.calm sites) (quiet.resumed s) (at (piece.Land ∷ todo) s.run.operands s) (go _ _ (tt, h)))
    acts piece.SuspendNow todo n h c = steps.moved sites s callers env _ (piece.Land ∷ todo) _ (tt, h) (kept.suspend_rests (NamedActive sites) (NamedActive sites) (steps.calm sites) (at (piece.Land ∷ todo) s.run.operands s) (go _ _ (tt, h)))
    acts piece.Land todo n h c = steps.land sites s callers env s.run.raised todo h
    acts (piece.EnterNow m r) todo n h c = steps.enter sites s callers env m (slice_get source.routines r) todo n h
    acts piece.LeaveNow todo n h c = steps.leave sites s callers env _ (monitors.this_object s) todo h
    acts (piece.MakeNow k r) todo n h c = steps.make sites s callers env k r (slice_get source.routines r) todo h
    acts (piece.BindMadeNow k r) todo n h c = steps.bind sites s callers env (slice_get source.routines r) todo h
    acts piece.MadeNow todo n h c = steps.unless sites s callers env (monitors.this_object s) _ todo h (steps.asked_in sites s callers env _ _ _ _ tt h (steps.likes sites env refl refl))
    acts (piece.SpawnNow r) todo n h c = steps.unless sites s callers env (monitors.this_object s) _ (piece.ChildNow r ∷ todo) (tt, h) (steps.asked_in sites s callers env _ _ _ _ tt (tt, h) (steps.likes sites env refl refl))
    acts piece.GoneNow todo n h c = steps.asked_in sites s callers env _ _ _ _ tt h (steps.likes sites env refl refl)
    acts piece.GiveUpNow todo n h c = steps.asked_in sites s callers env _ _ _ _ tt h (steps.likes sites env refl refl)
    acts piece.ClusterNow todo n h c = steps.asked sites s callers env _ _ _ tt h
    acts piece.ProcessorNow todo n h c = steps.asked sites s callers env _ _ _ tt h
    acts piece.ClusterEndNow todo n h c = steps.asked sites s callers env _ _ _ tt h
    acts piece.ProcessorEndNow todo n h c = steps.asked sites s callers env _ _ _ tt h
    acts (piece.ConditionNow k m) todo n h c = steps.condition sites s callers env k _ todo h
    acts piece.WaitNow todo n h c = steps.unless sites s callers env (monitors.this_object s) _ todo h (steps.asked sites s callers env _ _ _ tt h)
    acts piece.SignalNow todo n h c = steps.asked sites s callers env _ _ _ tt h
    acts piece.SignalBlockNow todo n h c = steps.unless sites s callers env (monitors.this_object s) _ todo h (steps.asked sites s callers env _ _ _ tt h)
    acts piece.EmptyNow todo n h c = steps.asked sites s callers env _ _ _ tt h
    acts piece.FrontNow todo n h c = steps.asked sites s callers env _ _ _ tt h
    acts piece.YieldNow todo n h c = steps.asked sites s callers env _ _ _ tt h
    acts piece.MigrateNow todo n h c = steps.asked sites s callers env _ _ _ tt h
    acts (piece.Guards src.NoClauses) todo n h c = go _ _ h
    acts (piece.Guards (src.Otherwise b)) todo n h c = go _ _ h
    acts (piece.Guards (src.MoreClauses guard b cs)) todo n h c = go _ _ (n.0, (n.2, h))
    acts (piece.AcceptNow site m) todo n h c = steps.accept sites s callers env (monitors.this_object s) site m todo n h
    acts piece.FailedNow todo n h c = steps.failed sites s callers env _ todo _ h
    acts (piece.ChooseNow cs) todo n h c = go _ _ (steps.branch sites _ cs todo n h)
    acts piece.RaiseAtNow todo n h c = steps.raise_at sites s callers env _ _ todo _ h
    acts (piece.EnableNow events cell) todo n h c = steps.enables sites s callers env _ cell todo h
    acts (piece.DisableNow events cell) todo n h c = steps.enables sites s callers env _ cell todo h
    acts (piece.RestoreNow cell) todo n h c = steps.go_in sites s callers env _ _ _ h (steps.likes sites env refl refl)
    acts piece.PollNow todo n h c = steps.poll sites s callers env todo h
    acts piece.DeliverNow todo n h c = steps.deliver sites s callers env _ todo h
    acts piece.Finish todo n h c = steps.unless sites s callers env s.env.own _ todo h (steps.returned sites s callers env _ s.callers callers c)
    acts piece.FinishCoroutine todo n h c = steps.moved sites s callers env _ todo _ h (kept.finish_rests (NamedActive sites) (NamedActive sites) (steps.calm sites) (at todo s.run.operands s) (go _ _ h))
    acts p todo n h c = go _ _ h

  pub walk : (s : State) → NamedState sites s → NamedStep sites (quiet.quiet source s)
  walk s h = by s.run.control refl
    where
      by : (l : List Todo) → s.run.control ≡ l → NamedStep sites (quiet.act_todo source l s)
      by [] e = steps.returned sites s h.callers h.env _ s.callers h.callers h.run
      by (p ∷ todo) e = let n : Named sites (p ∷ todo) = subst (Named sites) e h.run in acts s h.callers h.env p todo n.0 n.1 h.run

  pub rides_named : {s u : State} {q k : ℕ} {a : Asked} → Rides source s q u k a → NamedState sites s → NamedAsk sites a.request u
  rides_named rides.slices h = record { state = h; names = tt }
  rides_named (rides.goes_on {s} {t} e r) h = rides_named r (subst (NamedStep sites) e (walk s h))
  rides_named (rides.ticks {s} {t} e r) h = rides_named r (subst (NamedStep sites) e (walk s h))
  rides_named (rides.asks {s} {t} e) h = subst (NamedStep sites) e (walk s h)

  begins : (o : ℕ) (r : Option Routine) → NamedRoutine sites r → NamedState sites (first_state (routine_or_none r) o)
  begins o None h = record { run = (tt, (tt, tt)); callers = tt; env = record { house = (tt, tt); hand = tt } }
  begins o (Some r) h = record { run = steps.routine sites r h; callers = tt; env = record { house = (tt, tt); hand = tt } }

  -- a task begins so
  pub first_named : (r o : ℕ) → NamedState sites (first_state (routine_of source r) o)
  first_named r o = begins o (slice_get source.routines r) (known r)

-- answers bring operands, and at most an object in which nothing is to do

more_hand : (sites : List Site) (hand : List (ℕ × Members)) (o : ℕ) (m : Members) → RestsParked (NamedActive sites) (NamedActive sites) m.parked → RestsHand (NamedActive sites) (NamedActive sites) hand → RestsHand (NamedActive sites) (NamedActive sites) (hand ++ (o, m) ∷ [])
more_hand sites [] o m h k = (h, tt)
more_hand sites (p ∷ hand) o m h k = (k.0, more_hand sites hand o m h k.1)

new_named : (sites : List Site) (source : Source) (todo : List Todo) → NamedMembers sites (new_members source todo)
new_named sites source [] = tt
new_named sites source (piece.BindMadeNow c r ∷ todo) = tt
new_named sites source (p ∷ todo) = tt

entered_named : (sites : List Site) (m : Option Members) (o : ℕ) (s : State) → NamedMembers sites m → NamedState sites s → NamedState sites (with_operand (piece.Object o) (entered m o s))
entered_named sites None o s k h = record { run = h.run; callers = h.callers; env = h.env }
entered_named sites (Some m) o s k h = record { run = h.run; callers = h.callers; env = record { house = h.env.house; hand = more_hand sites s.env.hand o m k h.env.hand } }

pub answered_named : (sites : List Site) (source : Source) (given : Answer) (s : State) → NamedState sites s → NamedState sites (answered source given s)
answered_named sites source (answer.Object o) s h = entered_named sites (new_members source s.run.control) o s (new_named sites source s.run.control) h
answered_named sites source (answer.Number n) s h = record { run = h.run; callers = h.callers; env = h.env }
answered_named sites source (answer.Value n failed) s h = record { run = h.run; callers = h.callers; env = h.env }
answered_named sites source (answer.Clause k failed) s h = record { run = h.run; callers = h.callers; env = h.env }
answered_named sites source (answer.Event n x y) s h = record { run = h.run; callers = h.callers; env = h.env }
answered_named sites source answer.Nothing s h = record { run = h.run; callers = h.callers; env = h.env }
answered_named sites source answer.Go s h = h

pub law_steps : LawSteps
law_steps = record {
  begins = λ sites source known r o. first_named sites source known r o;
  steps = λ sites source known s h. walk sites source known s h;
  told = λ sites source given s h. answered_named sites source given s h;
  rides = λ sites source known s u q k a r h. rides_named sites source known r h;
}

-- Every quiet step of a state in order, answers to it, and rides of it.
use Rattle.std.proofs.Common.{◌≡◌, ℕ, List, [], ◌∷◌, ◌++◌, inl, drop, Option, Some, None, refl, subst}
use Rattle.std.specs.Prelude.{nat_lt, slice_get}
use Rattle.uc_tree.specs.Source as src
use Rattle.uc_tree.specs.Source.{Source, Routine, routine_or_none, routine_of}
use Rattle.uc_entry.specs.declared.fault.RunFault.TheVariants.{NoReturn}
use Rattle.uc_entry.specs.declared.request.Answer.{Answer}
use Rattle.uc_entry.specs.declared.request.Answer.TheVariants as answer
use Rattle.uc_entry.specs.declared.request.Asked.{Asked}
use Rattle.uc_machine.specs.Executions.{values_cleared}
use Rattle.uc_machine.specs.Raising as raising
use Rattle.uc_machine.specs.Monitors as monitors
use Rattle.uc_machine.specs.Quiet as quiet
use Rattle.uc_machine.specs.Quiet.{first_state, zeros}
use Rattle.uc_machine.specs.Pieces as piece
use Rattle.uc_machine.specs.Pieces.{Value, Todo, State, Env, Members, Active, Step, Goes, Ticks, Asks, at, top, below, number}
use Rattle.uc_machine.specs.Answering.{answered, entered, new_members, with_operand}
use Rattle.uc_machine.specs.Rides as rides
use Rattle.uc_machine.specs.Rides.{Rides}
use Rattle.uc_step_laws.proofs.Kept.{either}
use Rattle.uc_answer_laws.specs.Suiting.{Form, AnObject, AClause, ANumber, AValue, AnEvent, JustGo, IsForm}
use Rattle.uc_site_laws.specs.Resting.{AllWait, RestsParked, RestsHand, RestsEnv}
use Rattle.uc_site_laws.proofs.Kept as kept
use Rattle.uc_state_laws.specs.Counted.{CountedExpr, CountedStmt, CountedRoutine, CountedSource}
use Rattle.uc_state_laws.specs.Marked.{Mark, Any, Holds, rest, operands, Ok, Finds, Runs, Waits, MarkedMembers, MarkedState, MarkedAsk, MarkedStep}
use Rattle.uc_state_laws.specs.EventLaws.{LawSteps}
use Rattle.uc_state_laws.proofs.Marks.{holds_below}
use Rattle.uc_state_laws.proofs.EventSteps as steps

module _ (source : Source) (known : CountedSource source) where
  module _ (s : State) (callers : AllWait (Runs source) (Waits source) s.callers) (env : RestsEnv (Runs source) (Waits source) s.env) (ms : List Mark) (holds : Holds ms s.run.operands) where
    go : (ns : List Mark) (todo : List Todo) (vs : List Value) → Holds ns vs → Ok source ns todo → MarkedState source (at todo vs s)
    go = steps.go source s callers env

    anew : (todo : List Todo) (vs : List Value) → Ok source [] todo → MarkedState source (at todo vs s)
    anew = steps.anew source s callers env

    one : Holds (rest ms) (below s.run.operands)
    one = holds_below ms s.run.operands holds

    two : Holds (rest (rest ms)) (below (below s.run.operands))
    two = holds_below (rest ms) (below s.run.operands) one

    -- one piece, with what is to do behind it
    acts : (p : Todo) (todo : List Todo) → Ok source ms (p ∷ todo) → MarkedStep source (quiet.act source p todo s)
    acts (piece.Eval a) todo h = steps.evals source s callers env ms holds a todo h.0 h.1
    acts piece.LoadNow todo h = go (Any ∷ rest ms) _ _ (tt, one) h.1
    acts (piece.ElementNow m k) todo h = steps.element source s callers env (rest (rest ms)) k _ todo _ _ two h.1
    acts (piece.FieldNow k i) todo h = go (Any ∷ rest ms) _ _ (tt, one) h.1
    acts piece.NegateNow todo h = steps.outcome source s callers env (rest ms) _ todo _ one h.1
    acts piece.NotNow todo h = go (Any ∷ rest ms) _ _ (tt, one) h.1
    acts piece.CharacterNow todo h = go (Any ∷ rest ms) _ _ (tt, one) h.1
    acts piece.TruthNow todo h = go (Any ∷ rest ms) _ _ (tt, one) h.1
    acts (piece.OperateNow op) todo h = steps.outcome source s callers env (rest (rest ms)) _ todo _ two h.1
    acts piece.CopyNow todo h = go (Any ∷ ms) _ _ (tt, holds) h.1
    acts piece.CopyBelowNow todo h = go (Any ∷ ms) _ _ (tt, holds) h.1
    acts piece.DropNow todo h = go (rest ms) _ _ one h.1
    acts piece.DropBelowNow todo h = go (Any ∷ rest (rest ms)) _ _ (tt, two) h.1
    acts piece.StoreNow todo h = steps.go_in source s callers env (rest (rest ms)) _ _ _ two h.1 (steps.write source s callers env (top (below s.run.operands)) (piece.Number (number (top s.run.operands))))
    acts piece.KeepNow todo h = steps.go_in source s callers env (Any ∷ rest (rest ms)) _ _ _ (tt, two) h.1 (steps.write source s callers env (top (below s.run.operands)) (piece.Number (number (top s.run.operands))))
    acts (piece.SetNow k) todo h = steps.go_in source s callers env ms _ _ _ holds h.1 (steps.write source s callers env (piece.variable_at k s) (piece.Number (number (top s.run.operands))))
    acts piece.BindNow todo h = steps.go_in source s callers env (Any ∷ rest (rest ms)) _ _ _ (tt, two) h.1 (steps.write source s callers env (top (below s.run.operands)) (top s.run.operands))
    acts (piece.Choose e f) todo h = go (rest ms) _ _ one (either (CountedExpr source) (piece.is_zero (number (top s.run.operands))) f e h.0.1 h.0.0, inl h.1)
    acts (piece.Branch a b) todo h = anew _ _ (either (CountedStmt source) (piece.is_zero (number (top s.run.operands))) b a h.0.1 h.0.0, h.1)
    acts piece.TickNow todo h = go ms _ _ holds h.1
    acts (piece.TurnNow o t e b) todo h = anew _ _ (h.0.2, (h.0, h.1))
    acts (piece.Arguments src.NoExprs) todo h = go ms _ _ holds h.1
    acts (piece.Arguments (src.MoreExprs e es)) todo h = go ms _ _ holds (h.0.0, inl (h.0.1, h.1))
    acts (piece.CallNow r) todo h = steps.call source s callers env ms holds (slice_get source.routines r) todo (known r) h.1
    acts (piece.CallOnNow r) todo h = steps.call_on source s callers env ms holds (slice_get source.routines r) todo (known r) h.1
    acts (piece.CallUnwrittenNow r) todo h = steps.call_unwritten source s callers env ms holds (slice_get source.routines r) todo (known r) h.1
    acts (piece.CountNow m) todo h = record { run = record { marks = []; holds = tt; ok = h.1 }; callers = callers; env = env }
    acts piece.MoreNow todo h = record { run = record { marks = []; holds = tt; ok = h.1 }; callers = callers; env = env }
    acts (piece.FillNow m b d) todo h = anew _ _ (steps.filled source (nat_lt s.run.elements m) m b d todo h.0 h.1)
    acts (piece.Again o t e b) todo h = anew _ _ (either (Ok source []) (piece.is_zero (number (top s.run.operands))) todo (piece.TurnNow o t e b ∷ todo) h.1 (h.0, h.1))
    acts (piece.PrintNow f) todo h = steps.prints source s callers env s.env.gathered _ todo _ h.1
    acts (piece.TextNow k) todo h = steps.prints source s callers env s.env.gathered _ todo _ h.1
    acts piece.GatherNow todo h = steps.go_in source s callers env [] _ _ _ tt h.1 (steps.likes source env refl refl)
    acts piece.FlushNow todo h = steps.flushes source s callers env s.env.gathered todo _ h.1
    acts (piece.ReadNow f) todo h = record { run = record { marks = ms; holds = holds; ok = h.1 }; callers = callers; env = env; event = tt }
    acts (piece.ClearNow k m) todo h = steps.go_in source s callers env ms _ _ _ holds h.1 (kept.owned_rests (Runs source) (Waits source) (steps.calm source) (piece.this_frame s) (values_cleared k m piece.nought) s.env env)
    acts (piece.Items []) todo h = anew _ _ h.1
    acts (piece.Items (i ∷ is)) todo h = anew _ _ (steps.item source i _ h.0.0 (h.0.1, h.1))
    acts (piece.Values []) todo h = anew _ _ h.1
    acts (piece.Values (i ∷ is)) todo h = anew _ _ (steps.item_value source i _ h.0.0 (λ ns. (h.0.1, h.1)))
    acts (piece.Pieces []) todo h = anew _ _ h.1
    acts (piece.Pieces (i ∷ is)) todo h = anew _ _ (h.0.1, steps.item_piece source i todo h.1)
    acts (piece.Targets []) todo h = anew _ _ h.1
    acts (piece.Targets (t ∷ ts)) todo h = anew _ _ (h.0.0, inl (tt, (tt, (h.0.1, h.1))))
    acts (piece.Variables []) todo h = anew _ _ h.1
    acts (piece.Variables (d ∷ ds)) todo h = anew _ _ (tt, steps.starts source d.cell d.value (piece.Variables ds ∷ todo) h.0.0 (h.0.1, h.1))
    acts (piece.Do a) todo h = steps.stmt source s callers env a todo h.0 h.1
    acts (piece.Rest ss) todo h = steps.rest_of source s callers env ss todo h.0 h.1
    acts (piece.Within line) todo h = anew _ _ h.1
    acts (piece.Exit w) todo h = steps.exits source s callers env w todo h
    acts piece.NoReturnNow todo h = steps.stop source s callers env NoReturn todo _
    acts (piece.InLoop o t e b) todo h = anew _ _ (steps.stepped source e _ h.0.1 (steps.tested source o t e b todo h.0.0 h.0.1 h.0.2 h.1))
    acts piece.InWhole todo h = anew _ _ h.1
    acts (piece.Clean x) todo h = anew _ _ (steps.cleans source x todo h.0 h.1)
    acts (piece.Sweep e) todo h = steps.swept source s callers env s.run.elements e todo h.0 h.1
    acts (piece.Part x) todo h = anew _ _ h.1
    acts (piece.Guard hs) todo h = anew _ _ h.1
    acts piece.Unwind todo h = steps.unwinds source s callers env todo h
    acts piece.ThrowNow todo h = steps.thrown source s callers env (raising.event_in s.run.operands) todo h.1
    acts piece.RaiseNow todo h = steps.raises source s callers env ms (raising.event_in s.run.operands) todo holds h.1
    acts (piece.SetUpNow r) todo h = steps.set_up source s callers env ms holds (slice_get source.routines r) todo (known r) h.1
    acts piece.EnlivenNow todo h = steps.go_in source s callers env [] _ _ _ tt h.1 (kept.enlivened_rests (Runs source) (Waits source) (steps.calm source) (piece.own_exec s) s.env env)
    acts piece.TakeDownNow todo h = steps.moved source s callers env _ todo _ (kept.take_down_rests (Runs source) (Waits source) (steps.calm source) (piece.own_exec s) (at todo s.run.operands s) (anew _ _ h.1))
    acts piece.ForgetNow todo h = steps.go_in source s callers env [] _ _ _ tt h.1 (kept.forgotten_rests (Runs source) (Waits source) (steps.calm source) (piece.own_exec s) s.env env)
    acts (piece.LiveNow r) todo h = steps.live source s callers env ms holds (slice_get source.routines r) todo h.1
    acts piece.ResumeNow todo h = steps.moved source s callers env _ (piece.Land ∷ todo) _ (kept.wake_rests (Runs source) (Waits source) (steps.calm source) (quiet.resumed s) (at (piece.Land ∷ todo) s.run.operands s) (anew _ _ (tt, h.1)))
    acts piece.SuspendNow todo h = steps.moved source s callers env _ (piece.Land ∷ todo) _ (kept.suspend_rests (Runs source) (Waits source) (steps.calm source) (at (piece.Land ∷ todo) s.run.operands s) (anew _ _ (tt, h.1)))
    acts piece.Land todo h = steps.land source s callers env s.run.raised ms todo holds h.1
    acts (piece.EnterNow m r) todo h = steps.enter source s callers env ms holds m (slice_get source.routines r) todo h.1
    acts piece.LeaveNow todo h = steps.leave source s callers env ms holds _ (monitors.this_object s) todo h.1
    acts (piece.MakeNow k r) todo h = steps.make source s callers env ms holds k r (slice_get source.routines r) todo h.1
    acts (piece.BindMadeNow k r) todo h = steps.bind source s callers env ms holds (slice_get source.routines r) todo h.1
    acts piece.MadeNow todo h = steps.unless source s callers env ms holds (monitors.this_object s) _ todo (record { run = record { marks = []; holds = tt; ok = h.1 }; callers = callers; env = steps.likes source env refl refl; event = tt })
    acts (piece.SpawnNow r) todo h = steps.unless source s callers env ms holds (monitors.this_object s) _ (piece.ChildNow r ∷ todo) (record { run = record { marks = []; holds = tt; ok = (tt, h.1) }; callers = callers; env = steps.likes source env refl refl; event = tt })
    acts (piece.ChildNow r) todo h = anew _ _ h.1
    acts piece.GoneNow todo h = record { run = record { marks = []; holds = tt; ok = h.1 }; callers = callers; env = steps.likes source env refl refl; event = tt }
    acts piece.GiveUpNow todo h = record { run = record { marks = []; holds = tt; ok = h.1 }; callers = callers; env = steps.likes source env refl refl; event = tt }
    acts piece.ClusterNow todo h = record { run = record { marks = ms; holds = holds; ok = h.1 }; callers = callers; env = env; event = tt }
    acts piece.ProcessorNow todo h = record { run = record { marks = rest ms; holds = one; ok = h.1 }; callers = callers; env = env; event = tt }
    acts piece.ClusterEndNow todo h = record { run = record { marks = Any ∷ rest ms; holds = (tt, one); ok = h.1 }; callers = callers; env = env; event = tt }
    acts piece.ProcessorEndNow todo h = record { run = record { marks = Any ∷ rest ms; holds = (tt, one); ok = h.1 }; callers = callers; env = env; event = tt }
    acts (piece.ConditionNow k m) todo h = steps.condition source s callers env (rest ms) k _ todo one h.1
    acts piece.WaitNow todo h = steps.unless source s callers env ms holds (monitors.this_object s) _ todo (record { run = record { marks = Any ∷ rest (rest ms); holds = (tt, two); ok = h.1 }; callers = callers; env = env; event = tt })
    acts piece.SignalNow todo h = record { run = record { marks = Any ∷ rest ms; holds = (tt, one); ok = h.1 }; callers = callers; env = env; event = tt }
    acts piece.SignalBlockNow todo h = steps.unless source s callers env ms holds (monitors.this_object s) _ todo (record { run = record { marks = Any ∷ rest ms; holds = (tt, one); ok = h.1 }; callers = callers; env = env; event = tt })
    acts piece.EmptyNow todo h = record { run = record { marks = rest ms; holds = one; ok = h.1 }; callers = callers; env = env; event = tt }
    acts piece.FrontNow todo h = record { run = record { marks = rest ms; holds = one; ok = h.1 }; callers = callers; env = env; event = tt }
    acts piece.YieldNow todo h = record { run = record { marks = []; holds = tt; ok = h.1 }; callers = callers; env = env; event = tt }
    acts piece.MigrateNow todo h = record { run = record { marks = []; holds = tt; ok = h.1 }; callers = callers; env = env; event = tt }
    acts (piece.Guards src.NoClauses) todo h = anew _ _ h.1
    acts (piece.Guards (src.Otherwise b)) todo h = anew _ _ h.1
    acts (piece.Guards (src.MoreClauses guard b cs)) todo h = anew _ _ (h.0.0, inl (h.0.2, h.1))
    acts (piece.AcceptNow site m) todo h = steps.accept source s callers env ms holds _ (monitors.this_object s) site todo _ h.1
    acts piece.FailedNow todo h = steps.failed source s callers env ms holds _ todo _ h.1
    acts (piece.ChooseNow cs) todo h = anew _ _ (steps.branch source _ cs todo h.0 h.1)
    acts piece.RaiseAtNow todo h = steps.raise_at source s callers env ms holds (top s.run.operands) (raising.event_in (below s.run.operands)) todo (drop 4 s.run.operands) (steps.number_at source s callers env ms holds h.0) h.1
    acts (piece.EnableNow events cell) todo h = steps.enables source s callers env ms holds _ cell todo h.1
    acts (piece.DisableNow events cell) todo h = steps.enables source s callers env ms holds _ cell todo h.1
    acts (piece.RestoreNow cell) todo h = steps.go_in source s callers env [] _ _ _ tt h.1 (steps.likes source env refl refl)
    acts piece.PollNow todo h = steps.poll source s callers env ms holds todo h.1
    acts piece.DeliverNow todo h = steps.deliver source s callers env ms holds _ todo h.1
    acts piece.Finish todo h = steps.unless source s callers env ms holds s.env.own _ todo (steps.returned source s callers env _ s.callers callers)
    acts piece.FinishCoroutine todo h = steps.moved source s callers env _ todo _ (kept.finish_rests (Runs source) (Waits source) (steps.calm source) (at todo s.run.operands s) (anew _ _ h.1))

  pub walk : (s : State) → MarkedState source s → MarkedStep source (quiet.quiet source s)
  walk s h = by s.run.control refl
    where
      by : (l : List Todo) → s.run.control ≡ l → MarkedStep source (quiet.act_todo source l s)
      by [] e = steps.returned source s h.callers h.env _ s.callers h.callers
      by (p ∷ todo) e = acts s h.callers h.env h.run.marks h.run.holds p todo (subst (Ok source h.run.marks) e h.run.ok)

  pub rides_marked : {s u : State} {q k : ℕ} {a : Asked} → Rides source s q u k a → MarkedState source s → MarkedAsk source a.request u
  rides_marked rides.slices h = record { run = h.run; callers = h.callers; env = h.env; event = tt }
  rides_marked (rides.goes_on {s} {t} e r) h = rides_marked r (subst (MarkedStep source) e (walk s h))
  rides_marked (rides.ticks {s} {t} e r) h = rides_marked r (subst (MarkedStep source) e (walk s h))
  rides_marked (rides.asks {s} {t} e) h = subst (MarkedStep source) e (walk s h)

  begins : (o : ℕ) (r : Option Routine) → CountedRoutine source r → MarkedState source (first_state (routine_or_none r) o)
  begins o None h = record { run = record { marks = []; holds = tt; ok = (tt, (tt, tt)) }; callers = tt; env = record { house = (tt, tt); hand = tt } }
  begins o (Some r) h = record { run = record { marks = []; holds = tt; ok = steps.routine source r h }; callers = tt; env = record { house = (tt, tt); hand = tt } }

  -- a task begins so
  pub first_marked : (r o : ℕ) → MarkedState source (first_state (routine_of source r) o)
  first_marked r o = begins o (slice_get source.routines r) (known r)

-- an answer of its form brings the operands that a state is to find, and at most an object in which nothing is to do

module _ (source : Source) where
  more_hand : (hand : List (ℕ × Members)) (o : ℕ) (m : Members) → RestsParked (Runs source) (Waits source) m.parked → RestsHand (Runs source) (Waits source) hand → RestsHand (Runs source) (Waits source) (hand ++ (o, m) ∷ [])
  more_hand [] o m h k = (h, tt)
  more_hand (p ∷ hand) o m h k = (k.0, more_hand hand o m h k.1)

  new_marked : (todo : List Todo) → MarkedMembers source (new_members source todo)
  new_marked [] = tt
  new_marked (piece.BindMadeNow c r ∷ todo) = tt
  new_marked (p ∷ todo) = tt

  entered_marked : (m : Option Members) (o : ℕ) (s : State) → MarkedMembers source m → Finds source 1 s.run → AllWait (Runs source) (Waits source) s.callers → RestsEnv (Runs source) (Waits source) s.env → MarkedState source (with_operand (piece.Object o) (entered m o s))
  entered_marked None o s k f c e = record { run = record { marks = Any ∷ f.marks; holds = (tt, f.holds); ok = f.ok }; callers = c; env = e }
  entered_marked (Some m) o s k f c e = record {
    run = record { marks = Any ∷ f.marks; holds = (tt, f.holds); ok = f.ok };
    callers = c;
    env = record { house = e.house; hand = more_hand s.env.hand o m k e.hand };
  }

  pub answered_marked : (form : Form) (given : Answer) (s : State) → IsForm form given → Finds source (operands form) s.run → AllWait (Runs source) (Waits source) s.callers → RestsEnv (Runs source) (Waits source) s.env → MarkedState source (answered source given s)
  answered_marked AnObject (answer.Object o) s k f c e = entered_marked (new_members source s.run.control) o s (new_marked s.run.control) f c e
  answered_marked AClause (answer.Clause n failed) s k f c e = record { run = record { marks = Any ∷ (Any ∷ f.marks); holds = (tt, (tt, f.holds)); ok = f.ok }; callers = c; env = e }
  answered_marked ANumber (answer.Number n) s k f c e = record { run = record { marks = Any ∷ f.marks; holds = (tt, f.holds); ok = f.ok }; callers = c; env = e }
  answered_marked AValue (answer.Value n failed) s k f c e = record { run = record { marks = Any ∷ f.marks; holds = (tt, f.holds); ok = f.ok }; callers = c; env = e }
  answered_marked AnEvent (answer.Event n x y) s k f c e = record { run = record { marks = Any ∷ (Any ∷ (Any ∷ f.marks)); holds = (tt, (tt, (tt, f.holds))); ok = f.ok }; callers = c; env = e }
  answered_marked AnEvent answer.Nothing s k f c e = record { run = record { marks = Any ∷ (Any ∷ (Any ∷ f.marks)); holds = (tt, (tt, (tt, f.holds))); ok = f.ok }; callers = c; env = e }
  answered_marked JustGo answer.Go s k f c e = record { run = f; callers = c; env = e }
  answered_marked form given s k f c e = absurd k

pub law_steps : LawSteps
law_steps = record {
  begins = λ source known r o. first_marked source known r o;
  steps = λ source known s h. walk source known s h;
  told = λ source form given s k f c e. answered_marked source form given s k f c e;
  rides = λ source known s u q k a r h. rides_marked source known r h;
}

-- Every quiet step of a state in order, and answers to it.
use Rattle.std.proofs.Common.{◌≡◌, ℕ, ◌⊎◌, List, [], ◌∷◌, ◌++◌, inl, inr, drop, Option, Some, None, refl, subst}
use Rattle.std.specs.Prelude.{nat_lt, slice_get}
use Rattle.uc_tree.specs.Source as src
use Rattle.uc_tree.specs.Programs.{Program}
use Rattle.uc_tree.specs.Source.{Source, Routine, routine_or_none, routine_of}
use Rattle.uc_entry.specs.declared.fault.RunFault.TheVariants.{NoReturn}
use Rattle.uc_entry.specs.declared.request.Answer.{Answer}
use Rattle.uc_entry.specs.declared.request.Answer.TheVariants as answer
use Rattle.uc_machine.specs.declared.exec.Home.{Home}
use Rattle.uc_machine.specs.declared.exec.Home.TheVariants as home
use Rattle.uc_machine.specs.Executions.{others, values_cleared}
use Rattle.uc_machine.specs.Raising as raising
use Rattle.uc_machine.specs.Monitors as monitors
use Rattle.uc_machine.specs.Quiet as quiet
use Rattle.uc_machine.specs.Quiet.{first_state, zeros}
use Rattle.uc_machine.specs.Pieces as piece
use Rattle.uc_machine.specs.Pieces.{Value, Todo, State, Env, Members, Active, Step, Goes, Ticks, Asks, at, top, below, number, this_frame}
use Rattle.uc_machine.specs.Answering.{answered, entered, new_members, with_operand}
use Rattle.uc_answer_laws.specs.Suiting.{Form, AnObject, AClause, ANumber, AValue, AnEvent, JustGo, IsForm}
use Rattle.uc_state_laws.specs.Ordinary.{IsOwn}
use Rattle.uc_state_laws.specs.RoomStates.{SomeRoom}
use Rattle.uc_state_laws.specs.Opening.{OpenRoutine}
use Rattle.uc_state_laws.specs.Layout.{Sized as SizedOf}
use Rattle.uc_state_laws.specs.Counted.{params, CountedExpr, CountedRoutine, CountedSource}
use Rattle.uc_place_laws.specs.NamedResting.{AllWait, NamedParked, NamedHand, NamedEnv}
use Rattle.uc_place_laws.specs.Placed.{IsObject, Mark, Any, Named, Thing, Holds, OfNamed, IsThing, rest, rests, Opening, IsFor, CodeStmt, CodeRoutine, Ok, FindsObject, FindsFor, Runs, Waits, PlacedMembers, PlacedState, PlacedStep}
use Rattle.uc_place_laws.specs.BindingLaws.{OpenSource, IsNamedPlace, IsOwnPlace, LawSteps, LawBound}
use Rattle.uc_place_laws.proofs.BindingKeeping as kept
use Rattle.uc_place_laws.proofs.BindingKeeping.{either}
use Rattle.uc_place_laws.proofs.BindingMarks.{holds_below, holds_spread, holds_drop, holds_told, holds_thing, scope_more, behind_place, none_next, ordinary_opening, lies_closed}
use Rattle.uc_place_laws.proofs.BindingSteps as steps

module _ (Sized : ℕ → ℕ → Type 0) (source : Source) (known : (n : ℕ) → CodeRoutine source (slice_get source.routines n)) where
  module _ (s : State) (callers : AllWait (Runs Sized source) (Waits Sized source) s.env.exec s.callers) (env : NamedEnv (Runs Sized source) (Waits Sized source) s.env) (ms : List Mark) (holds : Holds (this_frame s) s.run.this ms s.run.operands) where
    abbrev H : List Mark → List Value → Type 0
    H ns vs = Holds (this_frame s) s.run.this ns vs

    go : (ns : List Mark) (todo : List Todo) (vs : List Value) → H ns vs → Ok Sized source ns todo → PlacedState Sized source (at todo vs s)
    go = steps.go Sized source s callers env

    anew : (todo : List Todo) (vs : List Value) → Ok Sized source [] todo → PlacedState Sized source (at todo vs s)
    anew = steps.anew Sized source s callers env

    one : H (rest ms) (below s.run.operands)
    one = holds_below (this_frame s) s.run.this ms s.run.operands holds

    two : H (rest (rest ms)) (below (below s.run.operands))
    two = holds_below (this_frame s) s.run.this (rest ms) (below s.run.operands) one

    -- one piece, with what is to do behind it
    acts : (p : Todo) (todo : List Todo) → SomeRoom Sized (p ∷ todo) → Ok Sized source ms (p ∷ todo) → PlacedStep Sized source (quiet.act source p todo s)
    acts (piece.Eval a) todo room h = steps.evals Sized source s callers env ms holds a todo room.0 room.1.0 h.1 room.1.1 h.0 h.2
    acts piece.LoadNow todo room h = go (Any ∷ rest ms) _ _ (tt, one) h.1
    acts (piece.ElementNow m k) todo room h = steps.element Sized source s callers env m (rest ms) k _ todo _ _ (steps.index_below Sized source m (number (top s.run.operands))) (holds_spread (this_frame s) s.run.this (rest ms) (below s.run.operands) one) h
    acts (piece.FieldNow k i) todo room h = go (Any ∷ rest ms) _ _ (tt, one) h.1
    acts piece.NegateNow todo room h = steps.outcome Sized source s callers env (rest ms) _ todo _ one h.1
    acts piece.NotNow todo room h = go (Any ∷ rest ms) _ _ (tt, one) h.1
    acts piece.CharacterNow todo room h = go (Any ∷ rest ms) _ _ (tt, one) h.1
    acts piece.TruthNow todo room h = go (Any ∷ rest ms) _ _ (tt, one) h.1
    acts (piece.OperateNow op) todo room h = steps.outcome Sized source s callers env (rest (rest ms)) _ todo _ two h.1
    acts piece.CopyNow todo room h = go (Any ∷ ms) _ _ (tt, holds) h.1
    acts piece.CopyBelowNow todo room h = go (Any ∷ ms) _ _ (tt, holds) h.1
    acts piece.DropNow todo room h = go (rest ms) _ _ one h.1
    acts piece.DropBelowNow todo room h = go (Any ∷ rest (rest ms)) _ _ (tt, two) h.1
    acts piece.StoreNow todo room h = steps.go_in Sized source s callers env (rest (rest ms)) _ _ _ two h.1 (steps.write Sized source s callers env (top (below s.run.operands)) (piece.Number (number (top s.run.operands))))
    acts piece.KeepNow todo room h = steps.go_in Sized source s callers env (Any ∷ rest (rest ms)) _ _ _ (tt, two) h.1 (steps.write Sized source s callers env (top (below s.run.operands)) (piece.Number (number (top s.run.operands))))
    acts (piece.SetNow k) todo room h = steps.go_in Sized source s callers env ms _ _ _ holds h.1 (steps.write Sized source s callers env (piece.variable_at k s) (piece.Number (number (top s.run.operands))))
    acts piece.BindNow todo room h = steps.go_in Sized source s callers env (Any ∷ rest (rest ms)) _ _ _ (tt, two) h.1 (steps.write Sized source s callers env (top (below s.run.operands)) (top s.run.operands))
    acts (piece.Choose e f) todo room h = go (rest ms) _ _ one (either (CountedExpr source) (piece.is_zero (number (top s.run.operands))) f e h.0.1 h.0.0, either (λ x. Opening x todo) (piece.is_zero (number (top s.run.operands))) f e (ordinary_opening f room.1.0.1 todo) (ordinary_opening e room.1.0.0 todo), inl h.1)
    acts (piece.Branch a b) todo room h = anew _ _ (either (CodeStmt source) (piece.is_zero (number (top s.run.operands))) b a h.0.1 h.0.0, none_next _ todo h.1, h.2)
    acts piece.TickNow todo room h = go ms _ _ holds h.1
    acts (piece.TurnNow o t e b) todo room h = anew _ _ (h.0.2, tt, (h.0, h.1))
    acts (piece.Arguments src.NoExprs) todo room h = go ms _ _ holds h.1
    acts (piece.Arguments (src.MoreExprs e es)) todo room h = go ms _ _ holds (h.0.0, tt, inl (h.0.1, h.1))
    acts (piece.CallNow r) todo room h = steps.call Sized source s callers env ms holds (slice_get source.routines r) todo (known r) h.1
    acts (piece.CallOnNow r) todo room h = steps.call_on Sized source s callers env ms holds (slice_get source.routines r) todo (known r) h.1
    acts (piece.CallUnwrittenNow r) todo room h = steps.call_unwritten Sized source s callers env ms holds (slice_get source.routines r) todo (known r) h.1
    acts (piece.CountNow m) todo room h = record { run = record { marks = []; holds = tt; ok = h.1 }; callers = callers; env = env }
    acts piece.MoreNow todo room h = record { run = record { marks = []; holds = tt; ok = h.1 }; callers = callers; env = env }
    acts (piece.FillNow m b d) todo room h = anew _ _ (steps.filled Sized source (nat_lt s.run.elements m) m b d todo h.0 h.1 h.2)
    acts (piece.Again o t e b) todo room h = anew _ _ (either (Ok Sized source []) (piece.is_zero (number (top s.run.operands))) todo (piece.TurnNow o t e b ∷ todo) h.1 (h.0, h.1))
    acts (piece.PrintNow f) todo room h = steps.prints Sized source s callers env s.env.gathered _ todo _ h.1
    acts (piece.TextNow k) todo room h = steps.prints Sized source s callers env s.env.gathered _ todo _ h.1
    acts piece.GatherNow todo room h = steps.go_in Sized source s callers env [] _ _ _ tt h.1 (steps.same Sized source s callers env refl refl refl refl)
    acts piece.FlushNow todo room h = steps.flushes Sized source s callers env s.env.gathered todo _ h.1
    acts (piece.ReadNow f) todo room h = record { run = record { marks = ms; holds = holds; ok = h.1 }; callers = callers; env = env }
    acts (piece.ClearNow k m) todo room h = steps.go_in Sized source s callers env ms _ _ _ holds h.1 (kept.owned_keeps (Runs Sized source) (Waits Sized source) (steps.calm Sized source) (piece.this_frame s) (values_cleared k m piece.nought) s.env env)
    acts (piece.Items []) todo room h = anew _ _ h.1
    acts (piece.Items (i ∷ is)) todo room h = anew _ _ (steps.item Sized source i _ h.0.0 (h.0.1, h.1))
    acts (piece.Values []) todo room h = anew _ _ h.1
    acts (piece.Values (i ∷ is)) todo room h = anew _ _ (steps.item_value Sized source i _ (λ e. tt) h.0.0 (λ ns. (h.0.1, h.1)))
    acts (piece.Pieces []) todo room h = anew _ _ h.1
    acts (piece.Pieces (i ∷ is)) todo room h = anew _ _ (h.0.1, steps.item_piece Sized source i todo h.1)
    acts (piece.Targets []) todo room h = anew _ _ h.1
    acts (piece.Targets (t ∷ ts)) todo room h = anew _ _ (h.0.0, tt, inl (tt, (tt, (h.0.1, h.1))))
    acts (piece.Variables []) todo room h = anew _ _ h.1
    acts (piece.Variables (d ∷ ds)) todo room h = anew _ _ (tt, steps.starts Sized source d.cell d.value (piece.Variables ds ∷ todo) h.0.0 (h.0.1, h.1))
    acts (piece.Do a) todo room h = steps.stmt Sized source s callers env a todo h.0.0 h.0.1 h.1 h.2
    acts (piece.Rest ss) todo room h = steps.rest_of Sized source s callers env ss todo h.0 h.1
    acts (piece.Within line) todo room h = anew _ _ h.1
    acts (piece.Exit w) todo room h = steps.exits Sized source s callers env w todo h
    acts piece.NoReturnNow todo room h = steps.stop Sized source s callers env NoReturn todo _
    acts (piece.InLoop o t e b) todo room h = anew _ _ (steps.stepped Sized source e _ room.1.0.1 h.0.1 (steps.tested Sized source o t e b todo h.0.0 h.0.1 h.0.2 h.1))
    acts piece.InWhole todo room h = anew _ _ h.1
    acts (piece.Clean x) todo room h = anew _ _ (steps.cleans Sized source x todo (lies_closed Sized room.1.0.low room.0.low x room.1.2.0) h.0 h.1)
    acts (piece.Sweep e) todo room h = steps.swept Sized source s callers env s.run.elements e todo h.0 h.1
    acts (piece.Part x) todo room h = anew _ _ h.1
    acts (piece.Guard hs) todo room h = anew _ _ h.1
    acts piece.Unwind todo room h = steps.unwinds Sized source s callers env todo (room.0, room.1.1) h
    acts piece.ThrowNow todo room h = steps.thrown Sized source s callers env (raising.event_in s.run.operands) todo h.1
    acts piece.RaiseNow todo room h = steps.raises Sized source s callers env ms (raising.event_in s.run.operands) todo holds h.1
    acts (piece.SetUpNow r) todo room h = steps.set_up Sized source s callers env ms holds (slice_get source.routines r) todo (known r) h.1
    acts piece.EnlivenNow todo room h = steps.go_in Sized source s callers env [] _ _ _ tt h.1 (kept.enlivened_keeps (Runs Sized source) (Waits Sized source) (steps.calm Sized source) (piece.own_exec s) s.env env)
    acts piece.TakeDownNow todo room h = steps.moved Sized source s callers env _ todo _ (kept.take_down_rests (Runs Sized source) (Waits Sized source) (steps.calm Sized source) (piece.own_exec s) (at todo s.run.operands s) (anew _ _ h.1))
    acts piece.ForgetNow todo room h = steps.go_in Sized source s callers env [] _ _ _ tt h.1 (kept.forgotten_keeps (Runs Sized source) (Waits Sized source) (steps.calm Sized source) (piece.own_exec s) s.env env)
    acts (piece.LiveNow r) todo room h = steps.live Sized source s callers env ms holds (slice_get source.routines r) todo h.1
    acts piece.ResumeNow todo room h = steps.moved Sized source s callers env _ (piece.Land ∷ todo) _ (kept.wake_rests (Runs Sized source) (Waits Sized source) (steps.calm Sized source) (quiet.resumed s) (at (piece.Land ∷ todo) s.run.operands s) (anew _ _ (tt, h.1)))
    acts piece.SuspendNow todo room h = steps.moved Sized source s callers env _ (piece.Land ∷ todo) _ (kept.suspend_rests (Runs Sized source) (Waits Sized source) (steps.calm Sized source) (at (piece.Land ∷ todo) s.run.operands s) (anew _ _ (tt, h.1)))
    acts piece.Land todo room h = steps.land Sized source s callers env s.run.raised ms todo holds h.1
    acts (piece.EnterNow m r) todo room h = steps.enter Sized source s callers env ms holds m (slice_get source.routines r) todo h.1
    acts piece.LeaveNow todo room h = steps.leave Sized source s callers env ms holds _ (monitors.this_object s) todo h.1
    acts (piece.MakeNow k r) todo room h = steps.make Sized source s callers env ms holds k r (slice_get source.routines r) todo h.0 h.1
    acts (piece.BindMadeNow k r) todo room h = steps.bind Sized source s callers env ms holds (slice_get source.routines r) todo h.1
    acts piece.MadeNow todo room h = steps.unless Sized source s callers env ms holds (monitors.this_object s) _ todo (record { run = record { marks = []; holds = tt; ok = h.1 }; callers = callers; env = steps.likes Sized source env refl refl refl })
    acts (piece.SpawnNow r) todo room h = steps.unless Sized source s callers env ms holds (monitors.this_object s) _ (piece.ChildNow r ∷ todo) (record { run = record { marks = []; holds = tt; ok = (tt, h.1) }; callers = callers; env = steps.likes Sized source env refl refl refl })
    acts (piece.ChildNow r) todo room h = anew _ _ h.1
    acts piece.GoneNow todo room h = record { run = record { marks = []; holds = tt; ok = h.1 }; callers = callers; env = steps.likes Sized source env refl refl refl }
    acts piece.GiveUpNow todo room h = record { run = record { marks = []; holds = tt; ok = h.1 }; callers = callers; env = steps.likes Sized source env refl refl refl }
    acts piece.ClusterNow todo room h = record { run = record { first = h.0; told = h.1; marks = ms; holds = holds; ok = h.2 }; callers = callers; env = env }
    acts piece.ProcessorNow todo room h = record { run = record { first = h.0; told = h.1; marks = rest ms; holds = one; ok = h.2 }; callers = callers; env = env }
    acts piece.ClusterEndNow todo room h = record { run = record { marks = Any ∷ rest ms; holds = (tt, one); ok = h.1 }; callers = callers; env = env }
    acts piece.ProcessorEndNow todo room h = record { run = record { marks = Any ∷ rest ms; holds = (tt, one); ok = h.1 }; callers = callers; env = env }
    acts (piece.ConditionNow k m) todo room h = steps.condition Sized source s callers env (rest ms) k _ todo one h.1
    acts piece.WaitNow todo room h = steps.unless Sized source s callers env ms holds (monitors.this_object s) _ todo (record { run = record { marks = Any ∷ rest (rest ms); holds = (tt, two); ok = h.1 }; callers = callers; env = env })
    acts piece.SignalNow todo room h = record { run = record { marks = Any ∷ rest ms; holds = (tt, one); ok = h.1 }; callers = callers; env = env }
    acts piece.SignalBlockNow todo room h = steps.unless Sized source s callers env ms holds (monitors.this_object s) _ todo (record { run = record { marks = Any ∷ rest ms; holds = (tt, one); ok = h.1 }; callers = callers; env = env })
    acts piece.EmptyNow todo room h = record { run = record { marks = rest ms; holds = one; ok = h.1 }; callers = callers; env = env }
    acts piece.FrontNow todo room h = record { run = record { marks = rest ms; holds = one; ok = h.1 }; callers = callers; env = env }
    acts piece.YieldNow todo room h = record { run = record { marks = []; holds = tt; ok = h.1 }; callers = callers; env = env }
    acts piece.MigrateNow todo room h = record { run = record { marks = []; holds = tt; ok = h.1 }; callers = callers; env = env }
    acts (piece.Guards src.NoClauses) todo room h = anew _ _ h.1
    acts (piece.Guards (src.Otherwise b)) todo room h = anew _ _ h.1
    acts (piece.Guards (src.MoreClauses guard b cs)) todo room h = anew _ _ (h.0.0, tt, inl (h.0.2, h.1))
    acts (piece.AcceptNow site m) todo room h = steps.accept Sized source s callers env ms holds _ (monitors.this_object s) site todo _ h.1
    acts piece.FailedNow todo room h = steps.failed Sized source s callers env ms holds _ todo _ h.1
    acts (piece.ChooseNow cs) todo room h = anew _ _ (steps.branch Sized source _ cs todo h.0 h.1 h.2)
    acts piece.RaiseAtNow todo room h = steps.raise_at Sized source s callers env ms holds (top s.run.operands) (raising.event_in (below s.run.operands)) todo (drop 4 s.run.operands) h.1
    acts (piece.EnableNow events cell) todo room h = steps.enables Sized source s callers env ms holds _ cell todo h.1
    acts (piece.DisableNow events cell) todo room h = steps.enables Sized source s callers env ms holds _ cell todo h.1
    acts (piece.RestoreNow cell) todo room h = steps.go_in Sized source s callers env [] _ _ _ tt h.1 (steps.same Sized source s callers env refl refl refl refl)
    acts piece.PollNow todo room h = steps.poll Sized source s callers env ms holds todo h.1
    acts piece.DeliverNow todo room h = steps.deliver Sized source s callers env ms holds _ todo h.1
    acts piece.Finish todo room h = steps.unless Sized source s callers env ms holds s.env.own _ todo (steps.returned Sized source s callers env _ s.callers callers)
    acts piece.FinishCoroutine todo room h = steps.moved Sized source s callers env _ todo _ (kept.finish_rests (Runs Sized source) (Waits Sized source) (steps.calm Sized source) (at todo s.run.operands s) (anew _ _ h.1))

  pub walk : (s : State) → PlacedState Sized source s → SomeRoom Sized s.run.control → PlacedStep Sized source (quiet.quiet source s)
  walk s h room = by s.run.control refl
    where
      by : (l : List Todo) → s.run.control ≡ l → PlacedStep Sized source (quiet.act_todo source l s)
      by [] e = steps.returned Sized source s h.callers h.env _ s.callers h.callers
      by (p ∷ todo) e = acts s h.callers h.env h.run.marks h.run.holds p todo (subst (SomeRoom Sized) e room) (subst (Ok Sized source h.run.marks) e h.run.ok)

  begins : (o : ℕ) (r : Option Routine) → CodeRoutine source r → PlacedState Sized source (first_state (routine_or_none r) o)
  begins o None h = record { run = record { marks = []; holds = tt; ok = ((tt, (None, tt)), (tt, tt)) }; callers = tt; env = record { house = (tt, tt); hand = tt } }
  begins o (Some r) h = record { run = record { marks = []; holds = tt; ok = steps.routine Sized source r h }; callers = tt; env = record { house = (tt, tt); hand = tt } }

  -- a task begins so
  pub first_placed : (r o : ℕ) → PlacedState Sized source (first_state (routine_of source r) o)
  first_placed r o = begins o (slice_get source.routines r) (known r)

-- an answer of its form brings the operands that a state is to find, and at most an object in which nothing is to do

module _ (Sized : ℕ → ℕ → Type 0) (source : Source) where
  more_hand : (hand : List (ℕ × Members)) (o : ℕ) (m : Members) → NamedParked (Runs Sized source) (Waits Sized source) (home.Object o) m.parked → NamedHand (Runs Sized source) (Waits Sized source) hand → NamedHand (Runs Sized source) (Waits Sized source) (hand ++ (o, m) ∷ [])
  more_hand [] o m h k = (h, tt)
  more_hand (p ∷ hand) o m h k = (k.0, more_hand hand o m h k.1)

  new_placed : (h : Home) (todo : List Todo) → PlacedMembers Sized source h (new_members source todo)
  new_placed h [] = tt
  new_placed h (piece.BindMadeNow c r ∷ todo) = tt
  new_placed h (p ∷ todo) = tt

  entered_placed : (m : Option Members) (o : ℕ) (s : State) → PlacedMembers Sized source (home.Object o) m → FindsObject Sized source s.env.exec s.run → AllWait (Runs Sized source) (Waits Sized source) s.env.exec s.callers → NamedEnv (Runs Sized source) (Waits Sized source) s.env → PlacedState Sized source (with_operand (piece.Object o) (entered m o s))
  entered_placed None o s k f c e = record { run = record { marks = f.first ∷ f.marks; holds = (holds_told (this_frame s) s.run.this f.first o f.told, f.holds); ok = f.ok }; callers = c; env = e }
  entered_placed (Some m) o s k f c e = record {
    run = record { marks = f.first ∷ f.marks; holds = (holds_told (this_frame s) s.run.this f.first o f.told, f.holds); ok = f.ok };
    callers = c;
    env = record { house = e.house; hand = more_hand s.env.hand o m k e.hand };
  }

  pub answered_placed : (form : Form) (given : Answer) (s : State) → IsForm form given → FindsFor Sized source form s.env.exec s.run → AllWait (Runs Sized source) (Waits Sized source) s.env.exec s.callers → NamedEnv (Runs Sized source) (Waits Sized source) s.env → PlacedState Sized source (answered source given s)
  answered_placed AnObject (answer.Object o) s k f c e = entered_placed (new_members source s.run.control) o s (new_placed (home.Object o) s.run.control) f c e
  answered_placed AClause (answer.Clause n failed) s k f c e = record { run = record { marks = Any ∷ (Any ∷ f.marks); holds = (tt, (tt, f.holds)); ok = f.ok }; callers = c; env = e }
  answered_placed ANumber (answer.Number n) s k f c e = record { run = record { marks = Any ∷ f.marks; holds = (tt, f.holds); ok = f.ok }; callers = c; env = e }
  answered_placed AValue (answer.Value n failed) s k f c e = record { run = record { marks = Any ∷ f.marks; holds = (tt, f.holds); ok = f.ok }; callers = c; env = e }
  answered_placed AnEvent (answer.Event n x y) s k f c e = record { run = record { marks = Any ∷ (Any ∷ (Any ∷ f.marks)); holds = (tt, (tt, (tt, f.holds))); ok = f.ok }; callers = c; env = e }
  answered_placed AnEvent answer.Nothing s k f c e = record { run = record { marks = Any ∷ (Any ∷ (Any ∷ f.marks)); holds = (tt, (tt, (tt, f.holds))); ok = f.ok }; callers = c; env = e }
  answered_placed JustGo answer.Go s k f c e = record { run = f; callers = c; env = e }
  answered_placed form given s k f c e = absurd k

-- both of the source

code_by : (source : Source) (r : Option Routine) → CountedRoutine source r → OpenRoutine r → CodeRoutine source r
code_by source None n q = tt
code_by source (Some r) n q = (n, (None, q))

pub code : (source : Source) → CountedSource source → OpenSource source → (n : ℕ) → CodeRoutine source (slice_get source.routines n)
code source known opened n = code_by source (slice_get source.routines n) (known n) (opened n)

-- what a piece that binds finds

module _ (p : Program) (s : State) (todo next : List Todo) where
  named_in : (Given : Type 0) → (Given → IsObject (top s.run.operands)) → (ms : List Mark) (vs : List Value) → Holds (this_frame s) s.run.this ms vs → OfNamed ms (IsFor (SizedOf p) Given todo next) → IsNamedPlace p s todo next (top vs)
  named_in Given f [] vs h n = absurd n
  named_in Given f (Any ∷ ms) vs h n = absurd n
  named_in Given f (Thing ∷ ms) vs h n = absurd n
  named_in Given f (Named e ∷ ms) vs h n = record {
    name = e;
    place = behind_place (SizedOf p) e todo n.0;
    behind = n.0;
    scope = scope_more Given (IsObject (top s.run.operands)) f e next n.1;
    denotes = h.0;
  }

own_in : (s : State) (ms : List Mark) (vs : List Value) → Holds (this_frame s) s.run.this ms vs → OfNamed ms IsOwn → IsOwnPlace s (top vs)
own_in s [] vs h o = absurd o
own_in s (Any ∷ ms) vs h o = absurd o
own_in s (Named e ∷ ms) vs h o = (e, o, h.0)
own_in s (Thing ∷ ms) vs h o = absurd o

given_in : (s : State) (ms : List Mark) → Holds (this_frame s) s.run.this ms s.run.operands → Holds (this_frame s) s.run.this (rest ms) (below s.run.operands) → OfNamed (rest ms) IsOwn ⊎ IsThing ms → IsOwnPlace s (top (below s.run.operands)) ⊎ IsObject (top s.run.operands)
given_in s ms h u (inl o) = inl (own_in s (rest ms) (below s.run.operands) u o)
given_in s ms h u (inr t) = inr (holds_thing (this_frame s) s.run.this ms s.run.operands h t)

pub law_bound : LawBound
law_bound = record {
  bound = λ source p s h todo e.
      let ms = h.run.marks in
      let ok = subst (Ok (SizedOf p) source ms) e h.run.ok in
      let under = holds_below (this_frame s) s.run.this ms s.run.operands h.run.holds in
      named_in p s todo todo (IsThing ms) (holds_thing (this_frame s) s.run.this ms s.run.operands h.run.holds) (rest ms) (below s.run.operands) under ok.0;
  made = λ source p s h c r todo e.
      let ms = h.run.marks in
      let n = params source r in
      let ok = subst (Ok (SizedOf p) source ms) e h.run.ok in
      let under = holds_below (this_frame s) s.run.this ms s.run.operands h.run.holds in
      named_in p s todo (others todo) (IsThing ms) (holds_thing (this_frame s) s.run.this ms s.run.operands h.run.holds) (rests n (rest ms)) (drop n (below s.run.operands)) (holds_drop (this_frame s) s.run.this n (rest ms) (below s.run.operands) under) ok.0;
  object = λ source p s h c r todo e.
      let ms = h.run.marks in
      let ok = subst (Ok (SizedOf p) source ms) e h.run.ok in
      holds_thing (this_frame s) s.run.this ms s.run.operands h.run.holds ok.2;
  given = λ source p s h todo e.
      let ms = h.run.marks in
      let ok = subst (Ok (SizedOf p) source ms) e h.run.ok in
      let under = holds_below (this_frame s) s.run.this ms s.run.operands h.run.holds in
      given_in s ms h.run.holds under ok.2;
}

pub law_steps : LawSteps
law_steps = record {
  begins = λ source p known opened r o. first_placed (SizedOf p) source (code source known opened) r o;
  steps = λ source p known opened s h room. walk (SizedOf p) source (code source known opened) s h room;
  told = λ source p form given s k f c e. answered_placed (SizedOf p) source form given s k f c e;
}

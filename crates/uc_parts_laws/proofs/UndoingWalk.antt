-- Every quiet step of a state in which constructors are called where their parts are taken over, and answers to it.
use Rattle.std.proofs.Common.{◌≡◌, ℕ, inl, List, [], ◌∷◌, ◌++◌, drop, Option, Some, None, refl, subst}
use Rattle.std.specs.Prelude.{nat_lt, slice_get, if◌then◌else◌}
use Rattle.uc_tree.specs.Source as src
use Rattle.uc_tree.specs.Source.{Routine, routine_or_none, routine_of}
use Rattle.uc_entry.specs.declared.fault.RunFault.TheVariants.{NoReturn}
use Rattle.uc_entry.specs.declared.request.Answer.{Answer}
use Rattle.uc_entry.specs.declared.request.Answer.TheVariants as answer
use Rattle.uc_machine.specs.declared.exec.Home.{Home}
use Rattle.uc_machine.specs.declared.exec.Home.TheVariants as home
use Rattle.uc_machine.specs.Executions.{values_cleared}
use Rattle.uc_machine.specs.Raising as raising
use Rattle.uc_machine.specs.Monitors as monitors
use Rattle.uc_machine.specs.Quiet as quiet
use Rattle.uc_machine.specs.Quiet.{first_state}
use Rattle.uc_machine.specs.Pieces as piece
use Rattle.uc_machine.specs.Pieces.{Value, Todo, State, Members, at, top, below, number}
use Rattle.uc_machine.specs.Answering.{answered, entered, new_members, with_operand}
use Rattle.uc_answer_laws.specs.Suiting.{Form, AnObject, AClause, ANumber, AValue, AnEvent, JustGo, IsForm}
use Rattle.uc_state_laws.specs.Counted.{CountedExpr}
use Rattle.uc_place_laws.specs.OlderResting.{AllWait, NamedParked, NamedHand, NamedEnv}
use Rattle.uc_place_laws.proofs.AsideKeeping as kept
use Rattle.uc_place_laws.proofs.AsideKeeping.{either}
use Rattle.uc_parts_laws.specs.PartStates.{Setting}
use Rattle.uc_parts_laws.specs.Undoing.{PlainExpr}
use Rattle.uc_parts_laws.specs.UndoingTodos.{Mark, Any, Holds, rest, left_next, CodeStmt, CodeRoutine, Ok}
use Rattle.uc_parts_laws.specs.UndoingStates.{Finds, FindsFor, Runs, Waits, UndoingMembers, UndoingState, UndoingStep, BindsHome}
use Rattle.uc_parts_laws.proofs.UndoingMarks as marks
use Rattle.uc_parts_laws.proofs.UndoingMarks.{holds_below}
use Rattle.uc_parts_laws.proofs.UndoingLists as todos
use Rattle.uc_parts_laws.proofs.UndoingSteps as steps
use Rattle.uc_parts_laws.proofs.UndoingSteps.{here}

module _ (g : Setting) (known : (n : ℕ) → CodeRoutine g (slice_get g.source.routines n)) where
  module _ (s : State) (homes : BindsHome g s.run.control s) (callers : AllWait (Runs g) (Waits g) s.env.exec s.callers) (env : NamedEnv (Runs g) (Waits g) s.env) (ms : List Mark) (holds : Holds g.home (here s) ms s.run.operands) where
    abbrev H : List Mark → List Value → Type 0
    H ns vs = Holds g.home (here s) ns vs

    abbrev O : List Mark → List Todo → Type 0
    O ns todo = Ok g ns todo

    go : (ns : List Mark) (todo : List Todo) (vs : List Value) → H ns vs → O ns todo → UndoingState g (at todo vs s)
    go = steps.go g s callers env

    anew : (todo : List Todo) (vs : List Value) → O [] todo → UndoingState g (at todo vs s)
    anew = steps.anew g s callers env

    one : H (rest ms) (below s.run.operands)
    one = holds_below g.home (here s) ms s.run.operands holds

    two : H (rest (rest ms)) (below (below s.run.operands))
    two = holds_below g.home (here s) (rest ms) (below s.run.operands) one

    -- one piece, with what is to do behind it
    acts : (p : Todo) (todo : List Todo) → s.run.control ≡ p ∷ todo → Ok g ms (p ∷ todo) → UndoingStep g (quiet.act g.source p todo s)
    acts (piece.Eval a) todo c h = steps.evals g s callers env ms holds a todo h
    acts piece.LoadNow todo c h = go (Any ∷ rest ms) _ _ (tt, one) h.1
    acts (piece.ElementNow m k) todo c h = steps.element g s callers env ms m k (top s.run.operands) (top (below s.run.operands)) (below (below s.run.operands)) todo (marks.holds_two g.home (here s) ms s.run.operands holds) h
    acts (piece.FieldNow k i) todo c h = go (Any ∷ rest ms) _ _ (tt, one) h.1
    acts piece.NegateNow todo c h = steps.outcome g s callers env (rest ms) _ todo _ one h.1
    acts piece.NotNow todo c h = go (Any ∷ rest ms) _ _ (tt, one) h.1
    acts piece.CharacterNow todo c h = go (Any ∷ rest ms) _ _ (tt, one) h.1
    acts piece.TruthNow todo c h = go (Any ∷ rest ms) _ _ (tt, one) h.1
    acts (piece.OperateNow op) todo c h = steps.outcome g s callers env (rest (rest ms)) _ todo _ two h.1
    acts piece.CopyNow todo c h = go (Any ∷ ms) _ _ (tt, holds) h.1
    acts piece.CopyBelowNow todo c h = go (Any ∷ ms) _ _ (tt, holds) h.1
    acts piece.DropNow todo c h = go (rest ms) _ _ one h.1
    acts piece.DropBelowNow todo c h = go (Any ∷ rest (rest ms)) _ _ (tt, two) h.1
    acts piece.StoreNow todo c h = steps.go_in g s callers env (rest (rest ms)) _ _ _ two h.1 (steps.write g s callers env (top (below s.run.operands)) (piece.Number (number (top s.run.operands))))
    acts piece.KeepNow todo c h = steps.go_in g s callers env (Any ∷ rest (rest ms)) _ _ _ (tt, two) h.1 (steps.write g s callers env (top (below s.run.operands)) (piece.Number (number (top s.run.operands))))
    acts (piece.SetNow k) todo c h = steps.go_in g s callers env ms _ _ _ holds h.1 (steps.write g s callers env (piece.variable_at k s) (piece.Number (number (top s.run.operands))))
    acts piece.BindNow todo c h = steps.go_in g s callers env (Any ∷ rest (rest ms)) _ _ _ (tt, two) h.1 (steps.write g s callers env (top (below s.run.operands)) (top s.run.operands))
    acts (piece.Choose e f) todo c h = go (rest ms) _ _ one (either (CountedExpr g.source) (piece.is_zero (number (top s.run.operands))) f e h.0.1.0 h.0.0.0, inl (either (PlainExpr g.source g.special) (piece.is_zero (number (top s.run.operands))) f e h.0.1.1 h.0.0.1, h.1))
    acts (piece.Branch a b) todo c h = anew _ _ (todos.inner g (left_next todo) (if piece.is_zero (number (top s.run.operands)) then b else a) (either (CodeStmt g src.Nil) (piece.is_zero (number (top s.run.operands))) b a h.0.1 h.0.0), h.1)
    acts piece.TickNow todo c h = go ms _ _ holds h.1
    acts (piece.TurnNow o t e b) todo c h = anew _ _ (todos.inner g src.Nil b h.0.2, (h.0, h.1))
    acts (piece.Arguments src.NoExprs) todo c h = go ms _ _ holds h.1
    acts (piece.Arguments (src.MoreExprs e es)) todo c h = go ms _ _ holds (h.0.0.0, inl (h.0.1.0, ((h.0.0.1, h.0.1.1), h.1)))
    acts (piece.CallNow r) todo c h = steps.call g s callers env ms holds (slice_get g.source.routines r) todo (known r) h.1
    acts (piece.CallOnNow r) todo c h = steps.call_on g s callers env ms holds (slice_get g.source.routines r) todo (known r) h.1
    acts (piece.CallUnwrittenNow r) todo c h = steps.call_unwritten g s callers env ms holds (slice_get g.source.routines r) todo (known r) h.1
    acts (piece.CountNow m) todo c h = record { run = record { marks = []; holds = tt; ok = h.1 }; callers = callers; env = env }
    acts piece.MoreNow todo c h = record { run = record { marks = []; holds = tt; ok = h.1 }; callers = callers; env = env }
    acts (piece.FillNow m b d) todo c h = anew _ _ (todos.filled g (nat_lt s.run.elements m) m b d todo h.0 h.1)
    acts (piece.Again o t e b) todo c h = anew _ _ (either (Ok g []) (piece.is_zero (number (top s.run.operands))) todo (piece.TurnNow o t e b ∷ todo) h.1 (h.0, h.1))
    acts (piece.PrintNow f) todo c h = steps.prints g s callers env s.env.gathered _ todo _ h.1
    acts (piece.TextNow k) todo c h = steps.prints g s callers env s.env.gathered _ todo _ h.1
    acts piece.GatherNow todo c h = steps.go_in g s callers env [] _ _ _ tt h.1 (steps.same g s callers env refl refl refl refl)
    acts piece.FlushNow todo c h = steps.flushes g s callers env s.env.gathered todo _ h.1
    acts (piece.ReadNow f) todo c h = record { run = record { marks = ms; holds = holds; ok = h.1 }; callers = callers; env = env }
    acts (piece.ClearNow k m) todo c h = steps.go_in g s callers env ms _ _ _ holds h.1 (kept.owned_keeps (Runs g) (Waits g) (todos.calm g) (piece.this_frame s) (values_cleared k m piece.nought) s.env env)
    acts (piece.Items []) todo c h = anew _ _ h.1
    acts (piece.Items (i ∷ is)) todo c h = anew _ _ (todos.item g i is _ h.0 ((h.0.0.1, h.0.1.1), h.1))
    acts (piece.Values []) todo c h = anew _ _ h.1
    acts (piece.Values (i ∷ is)) todo c h = anew _ _ (todos.item_value g i is _ h.0 (λ ns. ((h.0.0.1, h.0.1.1), h.1)))
    acts (piece.Pieces []) todo c h = anew _ _ h.1
    acts (piece.Pieces (i ∷ is)) todo c h = anew _ _ ((h.0.0.1, h.0.1.1), todos.item_piece g i todo h.1)
    acts (piece.Targets []) todo c h = anew _ _ h.1
    acts (piece.Targets (t ∷ ts)) todo c h = anew _ _ (h.0.0.0, inl (h.0.1.0, (tt, (tt, ((h.0.0.1, h.0.1.1), h.1)))))
    acts (piece.Variables []) todo c h = anew _ _ h.1
    acts (piece.Variables (d ∷ ds)) todo c h = anew _ _ (tt, todos.starts g d.cell d.value (piece.Variables ds ∷ todo) (h.0.0.0, h.0.1.0) ((h.0.0.1, h.0.1.1), h.1))
    acts (piece.Do a) todo c h = steps.stmt g s callers env a todo h.0 h.1
    acts (piece.Rest ss) todo c h = steps.rest_of g s callers env ss todo h.0 h.1
    acts (piece.Within line) todo c h = anew _ _ h.1
    acts (piece.Exit w) todo c h = steps.exits g s callers env w todo h
    acts piece.NoReturnNow todo c h = steps.stop g s callers env NoReturn todo _
    acts (piece.InLoop o t e b) todo c h = anew _ _ (todos.stepped g e _ h.0.1 (todos.tested g o t e b todo h.0 h.1))
    acts piece.InWhole todo c h = anew _ _ h.1
    acts (piece.Clean x) todo c h = anew _ _ (todos.cleans g x todo h.0 h.1)
    acts (piece.Sweep e) todo c h = steps.swept g s callers env s.run.elements e todo h.0 h.1
    acts (piece.Part x) todo c h = anew _ _ h.1
    acts (piece.Guard hs) todo c h = anew _ _ h.1
    acts piece.Unwind todo c h = steps.unwinds g s callers env todo h
    acts piece.ThrowNow todo c h = steps.thrown g s callers env (raising.event_in s.run.operands) todo h.1
    acts piece.RaiseNow todo c h = steps.raises g s callers env ms (raising.event_in s.run.operands) todo holds h.1
    acts (piece.SetUpNow r) todo c h = steps.set_up g s callers env ms holds (slice_get g.source.routines r) todo (known r) h.1
    acts piece.EnlivenNow todo c h = steps.go_in g s callers env [] _ _ _ tt h.1 (kept.enlivened_keeps (Runs g) (Waits g) (todos.calm g) (piece.own_exec s) s.env env)
    acts piece.TakeDownNow todo c h = steps.moved g s callers env _ todo _ (kept.take_down_rests (Runs g) (Waits g) (todos.calm g) (piece.own_exec s) (at todo s.run.operands s) (anew _ _ h.1))
    acts piece.ForgetNow todo c h = steps.go_in g s callers env [] _ _ _ tt h.1 (kept.forgotten_keeps (Runs g) (Waits g) (todos.calm g) (piece.own_exec s) s.env env)
    acts (piece.LiveNow r) todo c h = steps.live g s callers env ms holds (slice_get g.source.routines r) todo h.1
    acts piece.ResumeNow todo c h = steps.moved g s callers env _ (piece.Land ∷ todo) _ (kept.wake_rests (Runs g) (Waits g) (todos.calm g) (quiet.resumed s) (at (piece.Land ∷ todo) s.run.operands s) (anew _ _ (tt, h.1)))
    acts piece.SuspendNow todo c h = steps.moved g s callers env _ (piece.Land ∷ todo) _ (kept.suspend_rests (Runs g) (Waits g) (todos.calm g) (at (piece.Land ∷ todo) s.run.operands s) (anew _ _ (tt, h.1)))
    acts piece.Land todo c h = steps.land g s callers env s.run.raised ms todo holds h.1
    acts (piece.EnterNow m r) todo c h = steps.enter g s callers env ms holds m (slice_get g.source.routines r) todo h.1
    acts piece.LeaveNow todo c h = steps.leave g s callers env ms holds _ (monitors.this_object s) todo h.1
    acts (piece.MakeNow k r) todo c h = steps.make g s callers env ms holds k r (slice_get g.source.routines r) todo h
    acts (piece.BindMadeNow k r) todo c h = steps.bind g s callers env ms holds (slice_get g.source.routines r) todo (subst (λ l. BindsHome g l s) c homes) h
    acts piece.MadeNow todo c h = steps.unless g s callers env ms holds (monitors.this_object s) _ todo (record { run = record { marks = []; holds = tt; ok = h.1 }; callers = callers; env = todos.likes g env refl refl refl })
    acts (piece.SpawnNow r) todo c h = steps.unless g s callers env ms holds (monitors.this_object s) _ (piece.ChildNow r ∷ todo) (record { run = record { marks = []; holds = tt; ok = (tt, h.1) }; callers = callers; env = todos.likes g env refl refl refl })
    acts (piece.ChildNow r) todo c h = anew _ _ h.1
    acts piece.GoneNow todo c h = record { run = record { marks = []; holds = tt; ok = h.1 }; callers = callers; env = todos.likes g env refl refl refl }
    acts piece.GiveUpNow todo c h = record { run = record { marks = []; holds = tt; ok = h.1 }; callers = callers; env = todos.likes g env refl refl refl }
    acts piece.ClusterNow todo c h = record { run = record { marks = ms; holds = holds; ok = h.1 }; callers = callers; env = env }
    acts piece.ProcessorNow todo c h = record { run = record { marks = rest ms; holds = one; ok = h.1 }; callers = callers; env = env }
    acts piece.ClusterEndNow todo c h = record { run = record { marks = Any ∷ rest ms; holds = (tt, one); ok = h.1 }; callers = callers; env = env }
    acts piece.ProcessorEndNow todo c h = record { run = record { marks = Any ∷ rest ms; holds = (tt, one); ok = h.1 }; callers = callers; env = env }
    acts (piece.ConditionNow k m) todo c h = steps.condition g s callers env (rest ms) k _ todo one h.1
    acts piece.WaitNow todo c h = steps.unless g s callers env ms holds (monitors.this_object s) _ todo (record { run = record { marks = Any ∷ rest (rest ms); holds = (tt, two); ok = h.1 }; callers = callers; env = env })
    acts piece.SignalNow todo c h = record { run = record { marks = Any ∷ rest ms; holds = (tt, one); ok = h.1 }; callers = callers; env = env }
    acts piece.SignalBlockNow todo c h = steps.unless g s callers env ms holds (monitors.this_object s) _ todo (record { run = record { marks = Any ∷ rest ms; holds = (tt, one); ok = h.1 }; callers = callers; env = env })
    acts piece.EmptyNow todo c h = record { run = record { marks = rest ms; holds = one; ok = h.1 }; callers = callers; env = env }
    acts piece.FrontNow todo c h = record { run = record { marks = rest ms; holds = one; ok = h.1 }; callers = callers; env = env }
    acts piece.YieldNow todo c h = record { run = record { marks = []; holds = tt; ok = h.1 }; callers = callers; env = env }
    acts piece.MigrateNow todo c h = record { run = record { marks = []; holds = tt; ok = h.1 }; callers = callers; env = env }
    acts (piece.Guards src.NoClauses) todo c h = anew _ _ h.1
    acts (piece.Guards (src.Otherwise b)) todo c h = anew _ _ h.1
    acts (piece.Guards (src.MoreClauses guard b cs)) todo c h = anew _ _ (h.0.0.0, inl (h.0.1.0, ((h.0.0.2, h.0.1.2), h.1)))
    acts (piece.AcceptNow site m) todo c h = steps.accept g s callers env ms holds _ (monitors.this_object s) site todo _ h.1
    acts piece.FailedNow todo c h = steps.failed g s callers env ms holds _ todo _ h.1
    acts (piece.ChooseNow cs) todo c h = anew _ _ (todos.branch g _ cs todo h.0 h.1)
    acts piece.RaiseAtNow todo c h = steps.raise_at g s callers env ms holds (top s.run.operands) (raising.event_in (below s.run.operands)) todo (drop 4 s.run.operands) h.1
    acts (piece.EnableNow events cell) todo c h = steps.enables g s callers env ms holds _ cell todo h.1
    acts (piece.DisableNow events cell) todo c h = steps.enables g s callers env ms holds _ cell todo h.1
    acts (piece.RestoreNow cell) todo c h = steps.go_in g s callers env [] _ _ _ tt h.1 (steps.same g s callers env refl refl refl refl)
    acts piece.PollNow todo c h = steps.poll g s callers env ms holds todo h.1
    acts piece.DeliverNow todo c h = steps.deliver g s callers env ms holds _ todo h.1
    acts piece.Finish todo c h = steps.unless g s callers env ms holds s.env.own _ todo (steps.returned g s callers env _ s.callers callers)
    acts piece.FinishCoroutine todo c h = steps.moved g s callers env _ todo _ (kept.finish_rests (Runs g) (Waits g) (todos.calm g) (at todo s.run.operands s) (anew _ _ h.1))

  pub walk : (s : State) → UndoingState g s → BindsHome g s.run.control s → UndoingStep g (quiet.quiet g.source s)
  walk s h homes = by s.run.control refl
    where
      by : (l : List Todo) → s.run.control ≡ l → UndoingStep g (quiet.act_todo g.source l s)
      by [] e = steps.returned g s h.callers h.env _ s.callers h.callers
      by (p ∷ todo) e = acts s homes h.callers h.env h.run.marks h.run.holds p todo e (subst (Ok g h.run.marks) e h.run.ok)

  begins : (o : ℕ) (r : Option Routine) → CodeRoutine g r → UndoingState g (first_state (routine_or_none r) o)
  begins o None h = record { run = record { marks = []; holds = tt; ok = ((tt, tt), (tt, tt)) }; callers = tt; env = record { house = (tt, tt); hand = tt } }
  begins o (Some r) h = record { run = record { marks = []; holds = tt; ok = todos.routine g r h }; callers = tt; env = record { house = (tt, tt); hand = tt } }

  -- a task begins so
  pub first_undoing : (r o : ℕ) → UndoingState g (first_state (routine_of g.source r) o)
  first_undoing r o = begins o (slice_get g.source.routines r) (known r)

-- an answer of its form brings the operands that a state is to find, and at most an object in which nothing is to do

module _ (g : Setting) where
  more_hand : (hand : List (ℕ × Members)) (o : ℕ) (m : Members) → NamedParked (Runs g) (Waits g) (home.Object o) m.parked → NamedHand (Runs g) (Waits g) hand → NamedHand (Runs g) (Waits g) (hand ++ (o, m) ∷ [])
  more_hand [] o m h k = (h, tt)
  more_hand (p ∷ hand) o m h k = (k.0, more_hand hand o m h k.1)

  new_undoing : (h : Home) (todo : List Todo) → UndoingMembers g h (new_members g.source todo)
  new_undoing h [] = tt
  new_undoing h (piece.BindMadeNow c r ∷ todo) = tt
  new_undoing h (p ∷ todo) = tt

  -- with operands more it goes on
  found : (s : State) (many : ℕ) (ms : List Mark) (vs : List Value) → (f : Finds g many s.env.exec s.run) → Holds g.home (here s) ms vs → Ok g ms s.run.control → Runs g s.env.exec s.callers (record s.run { operands = vs })
  found s many ms vs f h k = record { marks = ms; holds = h; ok = k }

  entered_undoing : (m : Option Members) (o : ℕ) (s : State) → UndoingMembers g (home.Object o) m → Finds g 1 s.env.exec s.run → AllWait (Runs g) (Waits g) s.env.exec s.callers → NamedEnv (Runs g) (Waits g) s.env → UndoingState g (with_operand (piece.Object o) (entered m o s))
  entered_undoing None o s k f c e = record { run = found s 1 (Any ∷ f.marks) _ f (tt, f.holds) f.ok; callers = c; env = e }
  entered_undoing (Some m) o s k f c e = record { run = found s 1 (Any ∷ f.marks) _ f (tt, f.holds) f.ok; callers = c; env = record { house = e.house; hand = more_hand s.env.hand o m k e.hand } }

  pub answered_undoing : (form : Form) (given : Answer) (s : State) → IsForm form given → FindsFor g form s.env.exec s.run → AllWait (Runs g) (Waits g) s.env.exec s.callers → NamedEnv (Runs g) (Waits g) s.env → UndoingState g (answered g.source given s)
  answered_undoing AnObject (answer.Object o) s k f c e = entered_undoing (new_members g.source s.run.control) o s (new_undoing (home.Object o) s.run.control) f c e
  answered_undoing AClause (answer.Clause n failed) s k f c e = record { run = found s 2 (Any ∷ (Any ∷ f.marks)) _ f (tt, (tt, f.holds)) f.ok; callers = c; env = e }
  answered_undoing ANumber (answer.Number n) s k f c e = record { run = found s 1 (Any ∷ f.marks) _ f (tt, f.holds) f.ok; callers = c; env = e }
  answered_undoing AValue (answer.Value n failed) s k f c e = record { run = found s 1 (Any ∷ f.marks) _ f (tt, f.holds) f.ok; callers = c; env = e }
  answered_undoing AnEvent (answer.Event n x y) s k f c e = record { run = found s 3 (Any ∷ (Any ∷ (Any ∷ f.marks))) _ f (tt, (tt, (tt, f.holds))) f.ok; callers = c; env = e }
  answered_undoing AnEvent answer.Nothing s k f c e = record { run = found s 3 (Any ∷ (Any ∷ (Any ∷ f.marks))) _ f (tt, (tt, (tt, f.holds))) f.ok; callers = c; env = e }
  answered_undoing JustGo answer.Go s k f c e = record { run = f; callers = c; env = e }
  answered_undoing form given s k f c e = absurd k

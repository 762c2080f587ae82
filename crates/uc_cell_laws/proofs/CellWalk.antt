-- Every quiet step of a task in which the own cells of frames and of mutex objects hold no object, or what is at home there, and answers to it.
use Rattle.std.proofs.Common.{◌≡◌, ℕ, inl, List, [], ◌∷◌, drop, Option, Some, None, refl, arith, subst}
use Rattle.std.specs.Prelude.{nat_lt, slice_get}
use Rattle.uc_tree.specs.Source as src
use Rattle.uc_tree.specs.Source.{Routine, routine_or_none, routine_of, cells_of_class}
use Rattle.uc_entry.specs.declared.fault.RunFault.TheVariants.{NoReturn}
use Rattle.uc_entry.specs.declared.request.Answer.{Answer}
use Rattle.uc_entry.specs.declared.request.Answer.TheVariants as answer
use Rattle.uc_entry.specs.declared.request.Request.{Request}
use Rattle.uc_entry.specs.declared.request.Request.TheVariants as ask
use Rattle.uc_machine.specs.Raising as raising
use Rattle.uc_machine.specs.Monitors as monitors
use Rattle.uc_machine.specs.Quiet as quiet
use Rattle.uc_machine.specs.Quiet.{first_state}
use Rattle.uc_machine.specs.Pieces as piece
use Rattle.uc_machine.specs.Pieces.{Value, Todo, State, Members, at, top, below, number}
use Rattle.uc_machine.specs.Answering.{answered, entered, new_members, with_operand}
use Rattle.uc_answer_laws.specs.Suiting.{Form, AnObject, AClause, ANumber, AValue, AnEvent, JustGo, IsForm, form_of_request}
use Rattle.uc_state_laws.specs.Marked.{operands}
use Rattle.uc_life_laws.proofs.HomedCells.{either}
use Rattle.uc_life_laws.proofs.Parked as parked
use Rattle.uc_cell_laws.specs.Sites.{Telling, IsNoMaker}
use Rattle.uc_cell_laws.specs.CellTodos.{Around, around, Mark, Any, mark_of, asked_class, Meets, Holds, rest, anys, CodeExpr, CodeStmt, CodeRoutine, Ok}
use Rattle.uc_cell_laws.specs.CellStates.{CellEx, CellMembers, CellRest, CellState, CellAsk, CellStep, TellsClass, FindsAt, CellFinds}
use Rattle.uc_cell_laws.proofs.CellFrames.{cells_zero}
use Rattle.uc_cell_laws.proofs.CellFields.{fields_zero, more_fields}
use Rattle.uc_cell_laws.proofs.CellMarks.{holds_below}
use Rattle.uc_cell_laws.proofs.CellLists as todos
use Rattle.uc_cell_laws.proofs.CellPlaces.{MayWrite}
use Rattle.uc_cell_laws.proofs.CellKeeping as kept
use Rattle.uc_cell_laws.proofs.CellSteps as steps

-- each routine is code of its own
abbrev pub Known : Telling → Type 0
Known tg = (n : ℕ) → CodeRoutine tg n (slice_get tg.source.routines n)

module _ (tg : Telling) (known : Known tg) (may : MayWrite tg) where
  module _ (s : State) (st : CellState tg s) (finds : CellFinds tg s) where
    abbrev R : ℕ
    R = st.run.routine

    abbrev ms : List Mark
    ms = st.run.marks

    abbrev H : List Mark → List Value → Type 0
    H ns vs = Holds tg R (around s.env.exec s.run) ns vs

    abbrev O : List Mark → List Todo → Type 0
    O ns todo = Ok tg R ns todo

    abbrev holds : H ms s.run.operands
    holds = st.run.holds

    go : (ns : List Mark) (todo : List Todo) (vs : List Value) → H ns vs → O ns todo → CellState tg (at todo vs s)
    go = steps.go tg s st

    anew : (todo : List Todo) (vs : List Value) → O [] todo → CellState tg (at todo vs s)
    anew = steps.anew tg s st

    one : H (rest ms) (below s.run.operands)
    one = holds_below tg R (around s.env.exec s.run) ms s.run.operands holds

    two : H (rest (rest ms)) (below (below s.run.operands))
    two = holds_below tg R (around s.env.exec s.run) (rest ms) (below s.run.operands) one

    spread : (ns : List Mark) (vs : List Value) → H ns vs → H ns (top vs ∷ below vs)
    spread [] vs h = tt
    spread (m ∷ ns) vs h = h

    starts : (r : ℕ) (q : Option Routine) → slice_get tg.source.routines r ≡ q → steps.Starts tg s st ms holds r q
    starts r None e = tt
    starts r (Some q) e = (subst (CodeRoutine tg r) e (known r), λ d. (λ x c i l. may.behind r q e s.env.exec d x c i l, λ v c i l. may.first_behind r q e s.env.exec d v c i l))

    -- one piece, with what is to do behind it
    acts : (p : Todo) (todo : List Todo) → s.run.control ≡ p ∷ todo → Ok tg R ms (p ∷ todo) → CellStep tg (quiet.act tg.source p todo s)
    acts (piece.Eval a) todo c h = steps.evals tg s st ms holds a todo h
    acts piece.LoadNow todo c h = steps.load tg s st ms holds may todo h
    acts (piece.ElementNow m k) todo c h = steps.element tg s st ms m k (top s.run.operands) (top (below s.run.operands)) (below (below s.run.operands)) todo (spread (rest ms) (below s.run.operands) one) h
    acts (piece.FieldNow k i) todo c h = go (Any ∷ rest ms) _ _ (tt, one) h.1
    acts piece.NegateNow todo c h = steps.outcome tg s st (rest ms) _ todo _ one h.1
    acts piece.NotNow todo c h = go (Any ∷ rest ms) _ _ (tt, one) h.1
    acts piece.CharacterNow todo c h = go (Any ∷ rest ms) _ _ (tt, one) h.1
    acts piece.TruthNow todo c h = go (Any ∷ rest ms) _ _ (tt, one) h.1
    acts (piece.OperateNow op) todo c h = steps.outcome tg s st (rest (rest ms)) _ todo _ two h.1
    acts piece.CopyNow todo c h = go (Any ∷ ms) _ _ (tt, holds) h.1
    acts piece.CopyBelowNow todo c h = go (Any ∷ ms) _ _ (tt, holds) h.1
    acts piece.DropNow todo c h = go (rest ms) _ _ one h.1
    acts piece.DropBelowNow todo c h = go (Any ∷ rest (rest ms)) _ _ (tt, two) h.1
    acts piece.StoreNow todo c h = steps.go_in tg s st (rest (rest ms)) _ _ _ two h.1 (kept.written_number tg (top (below s.run.operands)) (number (top s.run.operands)) s.env st.env)
    acts piece.KeepNow todo c h = steps.go_in tg s st (Any ∷ rest (rest ms)) _ _ _ (tt, two) h.1 (kept.written_number tg (top (below s.run.operands)) (number (top s.run.operands)) s.env st.env)
    acts (piece.SetNow k) todo c h = steps.go_in tg s st ms _ _ _ holds h.1 (kept.written_number tg (piece.variable_at k s) (number (top s.run.operands)) s.env st.env)
    acts piece.BindNow todo c h = steps.binding tg s st ms holds may todo h.0 h.1
    acts (piece.Choose e f) todo c h = go (rest ms) _ _ one (either (CodeExpr tg R) (piece.is_zero (number (top s.run.operands))) f e h.0.1 h.0.0, inl h.1)
    acts (piece.Branch a b) todo c h = anew _ _ (either (CodeStmt tg R) (piece.is_zero (number (top s.run.operands))) b a h.0.1 h.0.0, h.1)
    acts piece.TickNow todo c h = go ms _ _ holds h.1
    acts (piece.TurnNow o t e b) todo c h = anew _ _ (h.0.2, (h.0, h.1))
    acts (piece.Arguments src.NoExprs) todo c h = go ms _ _ holds h.1
    acts (piece.Arguments (src.MoreExprs e es)) todo c h = go ms _ _ holds ((h.0.0.0, h.0.1.0), inl ((h.0.0.1, h.0.1.1), h.1))
    acts (piece.CallNow r) todo c h = steps.call tg s st ms holds r (slice_get tg.source.routines r) todo (starts r (slice_get tg.source.routines r) refl) (subst (λ l. FindsAt tg l s) c finds) h.1
    acts (piece.CallOnNow r) todo c h = steps.call_on tg s st ms holds r (slice_get tg.source.routines r) todo (starts r (slice_get tg.source.routines r) refl) (steps.rooted tg s st ms holds r h.0 (subst (λ l. FindsAt tg l s) c finds)) h.1
    acts (piece.CallUnwrittenNow r) todo c h = steps.call_unwritten tg s st ms holds r (slice_get tg.source.routines r) todo (starts r (slice_get tg.source.routines r) refl) (steps.rooted tg s st ms holds r h.0 (subst (λ l. FindsAt tg l s) c finds)) h.1
    acts (piece.CountNow m) todo c h = steps.told_anew tg s st _ refl refl h.1
    acts piece.MoreNow todo c h = steps.told_anew tg s st _ refl refl h.1
    acts (piece.FillNow m b d) todo c h = anew _ _ (todos.filled tg R (nat_lt s.run.elements m) m b d todo h.0.0 h.0.1 h.1)
    acts (piece.Again o t e b) todo c h = anew _ _ (either (Ok tg R []) (piece.is_zero (number (top s.run.operands))) todo (piece.TurnNow o t e b ∷ todo) h.1 (h.0, h.1))
    acts (piece.PrintNow f) todo c h = steps.prints tg s st s.env.gathered _ todo _ h.1
    acts (piece.TextNow k) todo c h = steps.prints tg s st s.env.gathered _ todo _ h.1
    acts piece.GatherNow todo c h = steps.go_in tg s st [] _ _ _ tt h.1 (steps.same tg s st refl refl refl refl refl)
    acts piece.FlushNow todo c h = steps.flushes tg s st s.env.gathered todo _ h.1
    acts (piece.ReadNow f) todo c h = steps.finds tg s st (Any ∷ []) ms todo _ holds h.1
    acts (piece.ClearNow k m) todo c h = steps.clears tg s st ms k m todo holds h.1
    acts (piece.Items []) todo c h = anew _ _ h.1
    acts (piece.Items (i ∷ is)) todo c h = anew _ _ (todos.item tg R i is _ h.0 ((h.0.0.1, h.0.1.1), h.1))
    acts (piece.Values []) todo c h = anew _ _ h.1
    acts (piece.Values (i ∷ is)) todo c h = anew _ _ (todos.item_value tg R i is _ h.0 (λ ns. ((h.0.0.1, h.0.1.1), h.1)))
    acts (piece.Pieces []) todo c h = anew _ _ h.1
    acts (piece.Pieces (i ∷ is)) todo c h = anew _ _ ((h.0.0.1, h.0.1.1), todos.item_piece tg R i todo h.1)
    acts (piece.Targets []) todo c h = anew _ _ h.1
    acts (piece.Targets (t ∷ ts)) todo c h = anew _ _ ((h.0.0.0, h.0.1.0), inl (tt, (tt, ((h.0.0.1, h.0.1.1), h.1))))
    acts (piece.Variables []) todo c h = anew _ _ h.1
    acts (piece.Variables (d ∷ ds)) todo c h = anew _ _ (tt, todos.starts tg R d.cell d.value (piece.Variables ds ∷ todo) (h.0.0.0, h.0.1.0) ((h.0.0.1, h.0.1.1), h.1))
    acts (piece.Do a) todo c h = steps.stmt tg s st a todo h.0 h.1
    acts (piece.Rest ss) todo c h = steps.rest_of tg s st ss todo h.0 h.1
    acts (piece.Within line) todo c h = anew _ _ h.1
    acts (piece.Exit w) todo c h = steps.exits tg s st w todo h
    acts piece.NoReturnNow todo c h = steps.stop tg s st NoReturn todo _
    acts (piece.InLoop o t e b) todo c h = anew _ _ (todos.stepped tg R e _ h.0.1 (todos.tested tg R o t e b todo h.0 h.1))
    acts piece.InWhole todo c h = anew _ _ h.1
    acts (piece.Clean x) todo c h = anew _ _ (todos.cleans tg R x todo h.0 h.1)
    acts (piece.Sweep e) todo c h = steps.swept tg s st s.run.elements e todo h.0 h.1
    acts (piece.Part x) todo c h = anew _ _ h.1
    acts (piece.Guard hs) todo c h = anew _ _ h.1
    acts piece.Unwind todo c h = steps.unwinds tg s st todo h
    acts piece.ThrowNow todo c h = steps.thrown tg s st (raising.event_in s.run.operands) todo h.1
    acts piece.RaiseNow todo c h = steps.raises tg s st ms (raising.event_in s.run.operands) todo holds h.1
    acts (piece.SetUpNow r) todo c h = steps.set_up tg s st ms holds r (slice_get tg.source.routines r) todo (starts r (slice_get tg.source.routines r) refl) h.0 (subst (λ l. FindsAt tg l s) c finds) h.1
    acts piece.EnlivenNow todo c h = steps.go_in tg s st [] _ _ _ tt h.1 (kept.enlivened_keeps tg (piece.own_exec s) s.env st.env)
    acts piece.TakeDownNow todo c h = steps.moved tg s st _ todo _ (kept.take_down_rests tg (piece.own_exec s) (at todo s.run.operands s) (anew _ _ h.1))
    acts piece.ForgetNow todo c h = steps.go_in tg s st [] _ _ _ tt h.1 (kept.forgotten_keeps tg (piece.own_exec s) s.env st.env)
    acts (piece.LiveNow r) todo c h = steps.live tg s st ms holds (slice_get tg.source.routines r) todo h.1
    acts piece.ResumeNow todo c h = steps.moved tg s st _ (piece.Land ∷ todo) _ (kept.wake_rests tg (quiet.resumed s) (at (piece.Land ∷ todo) s.run.operands s) (anew _ _ (tt, h.1)))
    acts piece.SuspendNow todo c h = steps.moved tg s st _ (piece.Land ∷ todo) _ (kept.suspend_rests tg (at (piece.Land ∷ todo) s.run.operands s) (anew _ _ (tt, h.1)))
    acts piece.Land todo c h = steps.land tg s st s.run.raised ms todo holds h.1
    acts (piece.EnterNow m r) todo c h = steps.enter tg s st ms holds m (slice_get tg.source.routines r) todo h.1
    acts piece.LeaveNow todo c h = steps.leave tg s st ms holds _ (monitors.this_object s) todo h.1
    acts (piece.MakeNow k r) todo c h = steps.make tg s st ms holds k r (slice_get tg.source.routines r) todo h
    acts (piece.BindMadeNow k r) todo c h = steps.bind tg s st ms holds may r (slice_get tg.source.routines r) todo refl h.0 (subst (λ l. FindsAt tg l s) c finds) h.1
    acts piece.MadeNow todo c h = steps.unless tg s st ms holds (monitors.this_object s) _ todo (steps.rest_in tg s st [] [] todo _ _ tt h.1 (steps.same tg s st refl refl refl refl refl))
    acts (piece.SpawnNow r) todo c h = steps.unless tg s st ms holds (monitors.this_object s) _ (piece.ChildNow r ∷ todo) (steps.rest_in tg s st [] [] (piece.ChildNow r ∷ todo) _ _ tt (h.0, h.1) (steps.same tg s st refl refl refl refl refl))
    acts (piece.ChildNow r) todo c h = anew _ _ h.1
    acts piece.GoneNow todo c h = steps.rest_in tg s st [] [] todo _ _ tt h.1 (steps.same tg s st refl refl refl refl refl)
    acts piece.GiveUpNow todo c h = steps.rest_in tg s st [] [] todo _ _ tt h.1 (steps.same tg s st refl refl refl refl refl)
    acts piece.ClusterNow todo c h = steps.finds tg s st (Any ∷ []) ms todo _ holds h.1
    acts piece.ProcessorNow todo c h = steps.finds tg s st (Any ∷ []) (rest ms) todo _ one h.1
    acts piece.ClusterEndNow todo c h = steps.finds tg s st [] (Any ∷ rest ms) todo _ (tt, one) h.1
    acts piece.ProcessorEndNow todo c h = steps.finds tg s st [] (Any ∷ rest ms) todo _ (tt, one) h.1
    acts (piece.ConditionNow k m) todo c h = steps.condition tg s st (rest ms) k _ todo one h.1
    acts piece.WaitNow todo c h = steps.unless tg s st ms holds (monitors.this_object s) _ todo (steps.finds tg s st [] (Any ∷ rest (rest ms)) todo _ (tt, two) h.1)
    acts piece.SignalNow todo c h = steps.finds tg s st [] (Any ∷ rest ms) todo _ (tt, one) h.1
    acts piece.SignalBlockNow todo c h = steps.unless tg s st ms holds (monitors.this_object s) _ todo (steps.finds tg s st [] (Any ∷ rest ms) todo _ (tt, one) h.1)
    acts piece.EmptyNow todo c h = steps.finds tg s st (Any ∷ []) (rest ms) todo _ one h.1
    acts piece.FrontNow todo c h = steps.finds tg s st (Any ∷ []) (rest ms) todo _ one h.1
    acts piece.YieldNow todo c h = anew _ _ h.1
    acts piece.MigrateNow todo c h = anew _ _ h.1
    acts (piece.Guards src.NoClauses) todo c h = anew _ _ h.1
    acts (piece.Guards (src.Otherwise b)) todo c h = anew _ _ h.1
    acts (piece.Guards (src.MoreClauses guard b cs)) todo c h = anew _ _ ((h.0.0.0, h.0.1.0), inl ((h.0.0.2, h.0.1.2), h.1))
    acts (piece.AcceptNow site m) todo c h = steps.accept tg s st ms holds _ (monitors.this_object s) site todo _ h.1
    acts piece.FailedNow todo c h = steps.failed tg s st ms holds _ todo _ h.1
    acts (piece.ChooseNow cs) todo c h = anew _ _ (todos.branch tg R _ cs todo h.0 h.1)
    acts piece.RaiseAtNow todo c h = steps.raise_at tg s st ms holds (top s.run.operands) (raising.event_in (below s.run.operands)) todo (drop 4 s.run.operands) h.1
    acts (piece.EnableNow events cell) todo c h = steps.enables tg s st ms holds _ cell todo h.1
    acts (piece.DisableNow events cell) todo c h = steps.enables tg s st ms holds _ cell todo h.1
    acts (piece.RestoreNow cell) todo c h = steps.go_in tg s st [] _ _ _ tt h.1 (steps.same tg s st refl refl refl refl refl)
    acts piece.PollNow todo c h = steps.poll tg s st ms holds todo h.1
    acts piece.DeliverNow todo c h = steps.deliver tg s st ms holds _ todo h.1
    acts piece.Finish todo c h = steps.unless tg s st ms holds s.env.own _ todo (steps.returned tg s st _ s.callers st.frames st.callers)
    acts piece.FinishCoroutine todo c h = steps.moved tg s st _ todo _ (kept.finish_rests tg (at todo s.run.operands s) (anew _ _ h.1))

    walk : (l : List Todo) → s.run.control ≡ l → O ms l → CellStep tg (quiet.act_todo tg.source l s)
    walk [] e h = steps.returned tg s st _ s.callers st.frames st.callers
    walk (p ∷ todo) e h = acts p todo e h

    pub stepped : CellStep tg (quiet.quiet tg.source s)
    stepped = walk s.run.control refl st.run.ok

  begins : (r o : ℕ) → IsNoMaker tg r → (q : Option Routine) → slice_get tg.source.routines r ≡ q → CellState tg (first_state (routine_or_none q) o)
  begins r o none None e = record { routines = r ∷ []; frames = refl; cells = (cells_zero tg _ r 0 0, tt); run = record { routine = r; frame = refl; low = omega arith; this = λ x. absurd (none x); marks = []; holds = tt; ok = ((tt, tt), (tt, tt)) }; callers = tt; env = record { rests = record { house = (tt, tt); hand = tt }; fields = tt } }
  begins r o none (Some q) e = record { routines = r ∷ []; frames = refl; cells = (cells_zero tg _ r 0 q.cells, tt); run = record { routine = r; frame = refl; low = omega arith; this = λ x. absurd (none x); marks = []; holds = tt; ok = todos.routine tg r q (subst (CodeRoutine tg r) e (known r)) }; callers = tt; env = record { rests = record { house = (tt, tt); hand = tt }; fields = tt } }

  -- a task begins so
  pub first : (r o : ℕ) → IsNoMaker tg r → CellState tg (first_state (routine_of tg.source r) o)
  first r o none = begins r o none (slice_get tg.source.routines r) refl

-- an answer of its form brings the operands that a state is to find, and at most an object in which nothing is to do

object_same : (n o : ℕ) → piece.Object n ≡ piece.Object o → n ≡ o
object_same n o e = cc

module _ (tg : Telling) where
  new_there : (o : ℕ) (todo : List Todo) → CellMembers tg o (new_members tg.source todo)
  new_there o [] = (tt, tt)
  new_there o (piece.BindMadeNow c r ∷ todo) = (tt, fields_zero tg o (cells_of_class tg.source c))
  new_there o (p ∷ todo) = (tt, tt)

  -- with operands more it goes on
  found : (given : List Mark) (s : State) (vs : List Value) (x : CellRest tg given s) (ms : List Mark) → Holds tg x.run.routine (around s.env.exec s.run) ms vs → Ok tg x.run.routine ms s.run.control → CellState tg (record s { run = record s.run { operands = vs } })
  found given s vs x ms h k = record { routines = x.routines; frames = x.frames; cells = x.cells; run = record { routine = x.run.routine; frame = x.run.frame; low = x.run.low; this = x.run.this; marks = ms; holds = h; ok = k }; callers = x.callers; env = x.env }

  -- an object that is given, of which this is known whatever the activation
  entered_there : (k : Mark) (m : Option Members) (o : ℕ) (s : State) → CellMembers tg o m → ((r : ℕ) (A : Around) → Meets tg r A k (piece.Object o)) → CellRest tg (k ∷ []) s → CellState tg (with_operand (piece.Object o) (entered m o s))
  entered_there k None o s i h x = found (k ∷ []) s _ x (k ∷ x.run.marks) (h x.run.routine (around s.env.exec s.run), x.run.holds) x.run.ok
  entered_there k (Some m) o s i h x = found (k ∷ []) (entered (Some m) o s) _ (record { routines = x.routines; frames = x.frames; cells = x.cells; run = x.run; callers = x.callers; env = record { rests = record { house = x.env.rests.house; hand = parked.more_hand (CellEx tg) s.env.hand o m i.0 x.env.rests.hand }; fields = more_fields tg s.env.hand o m i.1 x.env.fields } }) (k ∷ x.run.marks) (h x.run.routine (around s.env.exec s.run), x.run.holds) x.run.ok

  -- of the class that was asked for
  of_class : (c : Option ℕ) (o : ℕ) → tg.class o ≡ c → (r : ℕ) (A : Around) → Meets tg r A (mark_of c) (piece.Object o)
  of_class None o e r A = tt
  of_class (Some c) o e r A = λ n q. subst (λ k. tg.class k ≡ Some c) (object_same o n q) e

  by_form : (form : Form) (given : Answer) (s : State) → IsForm form given → CellRest tg (anys (operands form) []) s → CellState tg (answered tg.source given s)
  by_form AnObject (answer.Object o) s k x = entered_there Any (new_members tg.source s.run.control) o s (new_there o s.run.control) (λ r A. tt) x
  by_form AClause (answer.Clause n failed) s k x = found (Any ∷ (Any ∷ [])) s _ x (Any ∷ (Any ∷ x.run.marks)) (tt, (tt, x.run.holds)) x.run.ok
  by_form ANumber (answer.Number n) s k x = found (Any ∷ []) s _ x (Any ∷ x.run.marks) (tt, x.run.holds) x.run.ok
  by_form AValue (answer.Value n failed) s k x = found (Any ∷ []) s _ x (Any ∷ x.run.marks) (tt, x.run.holds) x.run.ok
  by_form AnEvent (answer.Event n u v) s k x = found (Any ∷ (Any ∷ (Any ∷ []))) s _ x (Any ∷ (Any ∷ (Any ∷ x.run.marks))) (tt, (tt, (tt, x.run.holds))) x.run.ok
  by_form AnEvent answer.Nothing s k x = found (Any ∷ (Any ∷ (Any ∷ []))) s _ x (Any ∷ (Any ∷ (Any ∷ x.run.marks))) (tt, (tt, (tt, x.run.holds))) x.run.ok
  by_form JustGo answer.Go s k x = x
  by_form form given s k x = absurd k

  pub answered_there : (r : Request) (given : Answer) (s : State) → IsForm (form_of_request r) given → TellsClass tg r given s → (r ≡ ask.End → ⊥) → ((n : ℕ) → r ≡ ask.Fault n → ⊥) → CellAsk tg r s → CellState tg (answered tg.source given s)
  answered_there (ask.Make m) (answer.Object o) s k told e f x = entered_there (mark_of (asked_class tg.table s.run.control)) (new_members tg.source s.run.control) o s (new_there o s.run.control) (of_class (asked_class tg.table s.run.control) o told) x
  answered_there (ask.Make m) given s k told e f x = absurd k
  answered_there ask.End given s k told e f x = absurd (e refl)
  answered_there (ask.Fault n) given s k told e f x = absurd (f n refl)
  answered_there r given s k told e f x = by_form (form_of_request r) given s k x

-- Every quiet step of a task of which all executions stay behind one another in their frames, and answers to it.
use Rattle.std.proofs.Common.{◌≡◌, ℕ, zero, suc, inl, List, [], ◌∷◌, ◌++◌, length, Option, Some, None, refl, sym, ap, ◌∙◌, subst, arith}
use Rattle.std.specs.Prelude.{nat_lt, slice_get, drop, map}
use Rattle.uc_tree.specs.Source as src
use Rattle.uc_tree.specs.Source.{Source, Routine, routine_or_none, routine_of}
use Rattle.uc_entry.specs.declared.request.Answer.{Answer}
use Rattle.uc_entry.specs.declared.request.Answer.TheVariants as answer
use Rattle.uc_machine.specs.Executions.{take_operands, values_cleared}
use Rattle.uc_machine.specs.Raising as raising
use Rattle.uc_machine.specs.Monitors as monitors
use Rattle.uc_machine.specs.Quiet as quiet
use Rattle.uc_machine.specs.Quiet.{first_state, zeros}
use Rattle.uc_machine.specs.Pieces as piece
use Rattle.uc_machine.specs.Pieces.{Value, Nothing, Todo, Active, State, Env, Members, Step, Goes, Ticks, Asks, at, top, below, number}
use Rattle.uc_machine.specs.Answering.{answered, entered, new_members, with_operand}
use Rattle.uc_site_laws.proofs.Kept.{either}
use Rattle.uc_state_laws.proofs.ScopeKeeping as kept
use Rattle.uc_state_laws.specs.Rooms.{MaybeRoutineIn, SourceIn}
use Rattle.uc_state_laws.specs.RoomStates.{PieceIn}
use Rattle.uc_state_laws.specs.RoomStacks.{UpTo, frame_cells, TodoTo, SomeTo, Stack, StackParked, StackHand, StackMembers, StackEnv, StackState, StackStep, FrameBefore, FrameBeneath}
use Rattle.uc_state_laws.proofs.Stacks.{some_up, stack_before, stack_beneath, stacked_by}
use Rattle.uc_state_laws.proofs.StackSteps as steps

module _ (Z : ℕ → ℕ → Type 0) (source : Source) (known : SourceIn Z source) where
  module _ (s : State) (st : StackState Z s) where
    go : (todo : List Todo) (vs : List Value) → steps.Keeps Z s st todo → StackState Z (at todo vs s)
    go = steps.go Z s st

    -- what is behind a piece
    rest : (p : Todo) (todo : List Todo) → steps.Keeps Z s st (p ∷ todo) → steps.Keeps Z s st todo
    rest p todo k = steps.next Z s st (piece.sort p) (λ o. PieceIn Z o p) todo k

    landing : (todo : List Todo) → steps.Keeps Z s st todo → steps.Keeps Z s st (piece.Land ∷ todo)
    landing todo k = λ end c. let now = k end c in (now.0, (tt, now.1))

    spawning : (r : ℕ) (todo : List Todo) → steps.Keeps Z s st todo → steps.Keeps Z s st (piece.ChildNow r ∷ todo)
    spawning r todo k = λ end c. let now = k end c in (now.0, (tt, now.1))

    -- one piece, with what is to do behind it
    acts : (p : Todo) (todo : List Todo) → steps.Keeps Z s st (p ∷ todo) → StackStep Z (quiet.act source p todo s)
    acts (piece.Eval a) todo keeps = steps.eval Z s st a todo keeps
    acts (piece.ElementNow m k) todo keeps = steps.element Z s st k _ todo _ _ (rest (piece.ElementNow m k) todo keeps)
    acts piece.NegateNow todo keeps = steps.outcome Z s st _ todo _ (rest piece.NegateNow todo keeps)
    acts (piece.OperateNow op) todo keeps = steps.outcome Z s st _ todo _ (rest (piece.OperateNow op) todo keeps)
    acts piece.StoreNow todo keeps = steps.go_in Z s st _ _ _ (kept.written_frames Z _ _ s.env) (rest piece.StoreNow todo keeps) (kept.written_rests Z _ _ s.env st.env)
    acts piece.KeepNow todo keeps = steps.go_in Z s st _ _ _ (kept.written_frames Z _ _ s.env) (rest piece.KeepNow todo keeps) (kept.written_rests Z _ _ s.env st.env)
    acts (piece.SetNow k) todo keeps = steps.go_in Z s st _ _ _ (kept.written_frames Z (piece.variable_at k s) (piece.Number (number (top s.run.operands))) s.env) (rest (piece.SetNow k) todo keeps) (kept.written_rests Z (piece.variable_at k s) (piece.Number (number (top s.run.operands))) s.env st.env)
    acts piece.BindNow todo keeps = steps.go_in Z s st _ _ _ (kept.written_frames Z _ _ s.env) (rest piece.BindNow todo keeps) (kept.written_rests Z _ _ s.env st.env)
    acts (piece.Choose e f) todo keeps = go _ _ (λ end c. let now = keeps end c in (now.0, (either (λ (x : src.Expr). PieceIn Z now.0 (piece.Eval x)) (piece.is_zero (number (top s.run.operands))) f e (steps.eva Z end now.0 f now.1.0.1) (steps.eva Z end now.0 e now.1.0.0), now.1.1)))
    acts (piece.Branch a b) todo keeps = go _ _ (λ end c. let now = keeps end c in (now.0, (either (λ (x : src.Stmt). PieceIn Z now.0 (piece.Do x)) (piece.is_zero (number (top s.run.operands))) b a now.1.0.1 now.1.0.0, now.1.1)))
    acts (piece.TurnNow order t e b) todo keeps = go _ _ (λ end c. let now = keeps end c in (now.0, (now.1.0.2, (now.1.0, now.1.1))))
    acts (piece.Arguments src.NoExprs) todo keeps = go _ _ (rest (piece.Arguments src.NoExprs) todo keeps)
    acts (piece.Arguments (src.MoreExprs e es)) todo keeps = go _ _ (λ end c. let now = keeps end c in (now.0, (steps.eva Z end now.0 e now.1.0.0, (now.1.0.1, now.1.1))))
    acts (piece.CallNow r) todo keeps = steps.call Z s st (slice_get source.routines r) todo (known r) (rest (piece.CallNow r) todo keeps)
    acts (piece.CallOnNow r) todo keeps = steps.call_on Z s st (slice_get source.routines r) todo (known r) (rest (piece.CallOnNow r) todo keeps)
    acts (piece.CallUnwrittenNow r) todo keeps = steps.call_unwritten Z s st (slice_get source.routines r) todo (known r) (rest (piece.CallUnwrittenNow r) todo keeps)
    acts (piece.CountNow m) todo keeps = record { frames = st.frames; stack = steps.put Z s st _ refl refl (rest (piece.CountNow m) todo keeps); env = st.env }
    acts piece.MoreNow todo keeps = record { frames = st.frames; stack = steps.put Z s st _ refl refl (rest piece.MoreNow todo keeps); env = st.env }
    acts (piece.FillNow m b d) todo keeps = go _ _ (λ end c. let now = keeps end c in (now.0, (steps.filled Z end now.0 (nat_lt s.run.elements m) m b d todo now.1.0 now.1.1)))
    acts (piece.Again order t e b) todo keeps = go _ _ (λ end c. let now = keeps end c in (now.0, (either (TodoTo Z end now.0) (piece.is_zero (number (top s.run.operands))) todo (piece.TurnNow order t e b ∷ todo) now.1.1 now.1)))
    acts (piece.PrintNow f) todo keeps = steps.prints Z s st s.env.gathered _ todo _ (rest (piece.PrintNow f) todo keeps)
    acts (piece.TextNow k) todo keeps = steps.prints Z s st s.env.gathered _ todo _ (rest (piece.TextNow k) todo keeps)
    acts piece.GatherNow todo keeps = steps.go_in Z s st _ _ _ refl (rest piece.GatherNow todo keeps) (kept.like Z st.env refl refl)
    acts piece.FlushNow todo keeps = steps.flushes Z s st s.env.gathered todo _ (rest piece.FlushNow todo keeps)
    acts (piece.ReadNow f) todo keeps = go _ _ (rest (piece.ReadNow f) todo keeps)
    acts (piece.ClearNow k m) todo keeps = steps.go_in Z s st _ _ _ (kept.owned_frames Z (piece.this_frame s) (values_cleared k m piece.nought) s.env (kept.cleared_cells k m)) (rest (piece.ClearNow k m) todo keeps) (kept.owned_rests Z (piece.this_frame s) (values_cleared k m piece.nought) s.env (kept.cleared_cells k m) st.env)
    acts (piece.Items []) todo keeps = go _ _ (rest (piece.Items []) todo keeps)
    acts (piece.Items (i ∷ is)) todo keeps = go _ _ (λ end c. let now = keeps end c in (now.0, (steps.item Z end now.0 i _ now.1.0.0 (now.1.0.1, now.1.1))))
    acts (piece.Values []) todo keeps = go _ _ (rest (piece.Values []) todo keeps)
    acts (piece.Values (i ∷ is)) todo keeps = go _ _ (λ end c. let now = keeps end c in (now.0, (steps.item_value Z end now.0 i _ now.1.0.0 (now.1.0.1, now.1.1))))
    acts (piece.Pieces []) todo keeps = go _ _ (rest (piece.Pieces []) todo keeps)
    acts (piece.Pieces (i ∷ is)) todo keeps = go _ _ (λ end c. let now = keeps end c in (now.0, (now.1.0.1, steps.item_piece Z end now.0 i todo now.1.1)))
    acts (piece.Targets []) todo keeps = go _ _ (rest (piece.Targets []) todo keeps)
    acts (piece.Targets (t ∷ ts)) todo keeps = go _ _ (λ end c. let now = keeps end c in (now.0, (steps.eva Z end now.0 t.place now.1.0.0, (tt, (tt, (now.1.0.1, now.1.1))))))
    acts (piece.Variables []) todo keeps = go _ _ (rest (piece.Variables []) todo keeps)
    acts (piece.Variables (d ∷ ds)) todo keeps = go _ _ (λ end c. let now = keeps end c in (now.0, (inl (now.1.0.0, now.1.0.1), steps.starts Z end now.0 d.cell d.value (piece.Variables ds ∷ todo) now.1.0.2 (now.1.0.3, now.1.1))))
    acts (piece.Do a) todo keeps = steps.stmt Z s st a todo keeps
    acts (piece.Rest ss) todo keeps = steps.rest Z s st ss todo keeps
    acts (piece.Exit w) todo keeps = steps.exits Z s st w todo (rest (piece.Exit w) todo keeps)
    acts piece.NoReturnNow todo keeps = go _ _ (rest piece.NoReturnNow todo keeps)
    acts (piece.InLoop order t e b) todo keeps = go _ _ (λ end c. let now = keeps end c in (now.0, (steps.stepped Z end now.0 e _ now.1.0.1 (steps.tested Z end now.0 order t e b todo now.1.0 now.1.1))))
    acts piece.InWhole todo keeps = go _ _ (rest piece.InWhole todo keeps)
    acts (piece.Clean x) todo keeps = go _ _ (λ end c. let now = keeps end c in (now.1.0, steps.cleans Z end now.1.0 now.0 x todo now.1.2 now.1.3))
    acts (piece.Sweep e) todo keeps = steps.swept Z s st s.run.elements e todo keeps
    acts (piece.Part x) todo keeps = go _ _ (rest (piece.Part x) todo keeps)
    acts (piece.Guard hs) todo keeps = go _ _ (rest (piece.Guard hs) todo keeps)
    acts piece.Unwind todo keeps = steps.unwinds Z s st todo (rest piece.Unwind todo keeps)
    acts piece.ThrowNow todo keeps = steps.throws Z s st (raising.event_in s.run.operands) todo (rest piece.ThrowNow todo keeps)
    acts piece.RaiseNow todo keeps = steps.raises Z s st (raising.event_in s.run.operands) todo (rest piece.RaiseNow todo keeps)
    acts (piece.SetUpNow r) todo keeps = steps.set_up Z s st (slice_get source.routines r) todo (known r) (rest (piece.SetUpNow r) todo keeps)
    acts piece.EnlivenNow todo keeps = steps.go_in Z s st _ _ _ (ap (map length) (kept.enlivened_frames Z (piece.own_exec s) s.env)) (rest piece.EnlivenNow todo keeps) (kept.enlivened_rests Z (piece.own_exec s) s.env st.env)
    acts piece.TakeDownNow todo keeps = steps.moved Z s st _ todo _ (rest piece.TakeDownNow todo keeps) (kept.take_down_rests Z (piece.own_exec s) (at todo s.run.operands s) (go _ _ (rest piece.TakeDownNow todo keeps)))
    acts piece.ForgetNow todo keeps = steps.go_in Z s st _ _ _ (ap (map length) (kept.forgotten_frames Z (piece.own_exec s) s.env)) (rest piece.ForgetNow todo keeps) (kept.forgotten_rests Z (piece.own_exec s) s.env st.env)
    acts (piece.LiveNow r) todo keeps = steps.live Z s st (slice_get source.routines r) todo (rest (piece.LiveNow r) todo keeps)
    acts piece.ResumeNow todo keeps = steps.moved Z s st _ (piece.Land ∷ todo) _ (landing todo (rest piece.ResumeNow todo keeps)) (kept.wake_rests Z (quiet.resumed s) (at (piece.Land ∷ todo) s.run.operands s) (go _ _ (landing todo (rest piece.ResumeNow todo keeps))))
    acts piece.SuspendNow todo keeps = steps.moved Z s st _ (piece.Land ∷ todo) _ (landing todo (rest piece.SuspendNow todo keeps)) (kept.suspend_rests Z (at (piece.Land ∷ todo) s.run.operands s) (go _ _ (landing todo (rest piece.SuspendNow todo keeps))))
    acts piece.Land todo keeps = steps.land Z s st s.run.raised todo (rest piece.Land todo keeps)
    acts (piece.EnterNow m r) todo keeps = steps.enter Z s st m (slice_get source.routines r) todo (rest (piece.EnterNow m r) todo keeps)
    acts piece.LeaveNow todo keeps = steps.leave Z s st _ (monitors.this_object s) todo (rest piece.LeaveNow todo keeps)
    acts (piece.MakeNow k r) todo keeps = steps.make Z s st k r (slice_get source.routines r) todo (rest (piece.MakeNow k r) todo keeps)
    acts (piece.BindMadeNow k r) todo keeps = steps.bind Z s st (slice_get source.routines r) todo (rest (piece.BindMadeNow k r) todo keeps)
    acts piece.MadeNow todo keeps = steps.unless Z s st (monitors.this_object s) _ todo (rest piece.MadeNow todo keeps) (steps.go_in Z s st _ _ _ refl (rest piece.MadeNow todo keeps) (kept.like Z st.env refl refl))
    acts (piece.SpawnNow r) todo keeps = steps.unless Z s st (monitors.this_object s) _ (piece.ChildNow r ∷ todo) (spawning r todo (rest (piece.SpawnNow r) todo keeps)) (steps.go_in Z s st _ _ _ refl (spawning r todo (rest (piece.SpawnNow r) todo keeps)) (kept.like Z st.env refl refl))
    acts piece.GoneNow todo keeps = steps.go_in Z s st _ _ _ refl (rest piece.GoneNow todo keeps) (kept.like Z st.env refl refl)
    acts piece.GiveUpNow todo keeps = steps.go_in Z s st _ _ _ refl (rest piece.GiveUpNow todo keeps) (kept.like Z st.env refl refl)
    acts piece.ClusterNow todo keeps = go _ _ (rest piece.ClusterNow todo keeps)
    acts piece.ProcessorNow todo keeps = go _ _ (rest piece.ProcessorNow todo keeps)
    acts piece.ClusterEndNow todo keeps = go _ _ (rest piece.ClusterEndNow todo keeps)
    acts piece.ProcessorEndNow todo keeps = go _ _ (rest piece.ProcessorEndNow todo keeps)
    acts (piece.ConditionNow k m) todo keeps = steps.condition Z s st k _ todo (rest (piece.ConditionNow k m) todo keeps)
    acts piece.WaitNow todo keeps = steps.unless Z s st (monitors.this_object s) _ todo (rest piece.WaitNow todo keeps) (go _ _ (rest piece.WaitNow todo keeps))
    acts piece.SignalNow todo keeps = go _ _ (rest piece.SignalNow todo keeps)
    acts piece.SignalBlockNow todo keeps = steps.unless Z s st (monitors.this_object s) _ todo (rest piece.SignalBlockNow todo keeps) (go _ _ (rest piece.SignalBlockNow todo keeps))
    acts piece.EmptyNow todo keeps = go _ _ (rest piece.EmptyNow todo keeps)
    acts piece.FrontNow todo keeps = go _ _ (rest piece.FrontNow todo keeps)
    acts piece.YieldNow todo keeps = go _ _ (rest piece.YieldNow todo keeps)
    acts piece.MigrateNow todo keeps = go _ _ (rest piece.MigrateNow todo keeps)
    acts (piece.Guards src.NoClauses) todo keeps = go _ _ (rest (piece.Guards src.NoClauses) todo keeps)
    acts (piece.Guards (src.Otherwise b)) todo keeps = go _ _ (rest (piece.Guards (src.Otherwise b)) todo keeps)
    acts (piece.Guards (src.MoreClauses guard b cs)) todo keeps = go _ _ (λ end c. let now = keeps end c in (now.0, (steps.eva Z end now.0 guard now.1.0.0, (now.1.0.2, now.1.1))))
    acts (piece.AcceptNow site m) todo keeps = steps.accept_by Z s st (monitors.mask_of (take_operands Nothing m s.run.operands [])) (monitors.this_object s) site todo (drop m s.run.operands) (rest (piece.AcceptNow site m) todo keeps)
    acts piece.FailedNow todo keeps = steps.failed Z s st _ todo _ (rest piece.FailedNow todo keeps)
    acts (piece.ChooseNow cs) todo keeps = go _ _ (λ end c. let now = keeps end c in (now.0, (steps.branch Z end now.0 _ cs todo now.1.0 now.1.1)))
    acts piece.RaiseAtNow todo keeps = steps.raise_at Z s st _ _ todo _ (rest piece.RaiseAtNow todo keeps)
    acts (piece.EnableNow events cell) todo keeps = steps.enables Z s st _ cell todo (rest (piece.EnableNow events cell) todo keeps)
    acts (piece.DisableNow events cell) todo keeps = steps.enables Z s st _ cell todo (rest (piece.DisableNow events cell) todo keeps)
    acts (piece.RestoreNow cell) todo keeps = steps.go_in Z s st _ _ _ refl (rest (piece.RestoreNow cell) todo keeps) (kept.like Z st.env refl refl)
    acts piece.PollNow todo keeps = steps.poll Z s st todo (rest piece.PollNow todo keeps)
    acts piece.DeliverNow todo keeps = steps.deliver Z s st _ todo (rest piece.DeliverNow todo keeps)
    acts piece.Finish todo keeps = steps.unless Z s st s.env.own _ todo (rest piece.Finish todo keeps) (steps.returned Z s st _ s.callers st.frames st.stack.1)
    acts piece.FinishCoroutine todo keeps = steps.moved Z s st _ todo _ (rest piece.FinishCoroutine todo keeps) (kept.finish_rests Z (at todo s.run.operands s) (go _ _ (rest piece.FinishCoroutine todo keeps)))
    acts p todo keeps = go _ _ (rest p todo keeps)

  pub walk : (s : State) → StackState Z s → StackStep Z (quiet.quiet source s)
  walk s h = by s.run.control refl
    where
      by : (l : List Todo) → s.run.control ≡ l → StackStep Z (quiet.act_todo source l s)
      by [] e = steps.returned Z s h _ s.callers h.frames h.stack.1
      by (p ∷ todo) e = acts s h p todo (λ end c. subst (SomeTo Z end) e c)

  begins : (o : ℕ) (r : Option Routine) → MaybeRoutineIn Z r → StackState Z (first_state (routine_or_none r) o)
  begins o None h = record {
    frames = refl;
    stack = (record { top = 0; fits = (record { low = 0; high = 0; hidden = 0; last = 0 }, (tt, (tt, (record { cells = omega arith; apart = omega arith }, omega arith)))); cells = omega arith; frame = omega arith; beyond = tt; over = tt }, tt);
    env = record { house = (tt, tt); hand = tt };
  }
  begins o (Some r) h =
      let high = h.variables in
      let cells = steps.replicated r.cells piece.nought in
      record {
        frames = refl;
        stack = (record { top = h.room.high; fits = steps.routine Z (UpTo h.room.high) r h (omega arith); cells = omega (arith, high, cells); frame = omega arith; beyond = tt; over = tt }, tt);
        env = record { house = (tt, tt); hand = tt };
      }

  -- a task begins so
  pub first : (r o : ℕ) → StackState Z (first_state (routine_of source r) o)
  first r o = begins o (slice_get source.routines r) (known r)

-- answers bring operands, and at most an object in which nothing is to do

module _ (Z : ℕ → ℕ → Type 0) where
  more_hand : (hand : List (ℕ × Members)) (o : ℕ) (m : Members) → StackParked Z m.parked → StackHand Z hand → StackHand Z (hand ++ (o, m) ∷ [])
  more_hand [] o m h k = (h, tt)
  more_hand (p ∷ hand) o m h k = (k.0, more_hand hand o m h k.1)

  new_rests : (source : Source) (todo : List Todo) → StackMembers Z (new_members source todo)
  new_rests source [] = tt
  new_rests source (piece.BindMadeNow c r ∷ todo) = tt
  new_rests source (p ∷ todo) = tt

  -- with other operands
  told : (s : State) (vs : List Value) (e : Env) → e.frames ≡ s.env.frames → StackEnv Z e → StackState Z s → StackState Z (record s { run = record s.run { operands = vs }; env = e })
  told s vs e l i h = record {
    frames = ap length l ∙ h.frames;
    stack = subst (λ fs. Stack Z fs (record s.run { operands = vs } ∷ s.callers)) (sym l) (stacked_by Z s.env.frames s.run (record s.run { operands = vs }) s.callers refl refl (λ end c. c) h.stack.0, h.stack.1);
    env = i;
  }

  entered_rests : (m : Option Members) (o : ℕ) (s : State) → StackMembers Z m → StackState Z s → StackState Z (with_operand (piece.Object o) (entered m o s))
  entered_rests None o s k h = told s _ s.env refl h.env h
  entered_rests (Some m) o s k h = told s _ _ refl (record { house = h.env.house; hand = more_hand s.env.hand o m k h.env.hand }) h

  pub answered_rests : (source : Source) (given : Answer) (s : State) → StackState Z s → StackState Z (answered source given s)
  answered_rests source (answer.Object o) s h = entered_rests (new_members source s.run.control) o s (new_rests source s.run.control) h
  answered_rests source (answer.Number n) s h = told s _ s.env refl h.env h
  answered_rests source (answer.Value n failed) s h = told s _ s.env refl h.env h
  answered_rests source (answer.Clause k failed) s h = told s _ s.env refl h.env h
  answered_rests source (answer.Event n x y) s h = told s _ s.env refl h.env h
  answered_rests source answer.Nothing s h = told s _ s.env refl h.env h
  answered_rests source answer.Go s h = h

  in_frame : (fs : List (List Value)) (cs : List Active) → Stack Z fs cs → (n : ℕ) (a : Active) → slice_get cs n ≡ Some a → SomeTo Z (UpTo (frame_cells fs a.frame)) a.control
  in_frame fs [] h n a e = absurd (cc)
  in_frame fs (c ∷ cs) h zero a e =
      let same : c ≡ a = cc in
      subst (λ (a : Active). SomeTo Z (UpTo (frame_cells fs a.frame)) a.control) same (some_up Z h.0.top (frame_cells fs c.frame) c.control h.0.cells h.0.fits)
  in_frame fs (c ∷ cs) h (suc n) a e = in_frame fs cs h.1 n a e

  -- rooms end within frames
  pub rooms : (s : State) → StackState Z s → (n : ℕ) (a : Active) → slice_get (s.run ∷ s.callers) n ≡ Some a → SomeTo Z (UpTo (frame_cells s.env.frames a.frame)) a.control
  rooms s h n a e = in_frame s.env.frames (s.run ∷ s.callers) h.stack n a e

  pub cleared : (s : State) → StackState Z s → (k n : ℕ) (todo : List Todo) → s.run.control ≡ piece.ClearNow k n ∷ todo → FrameBefore Z k s.run.frame (s.run ∷ s.callers)
  cleared s h k n todo e = stack_before Z s.env.frames s.run s.callers k n todo e h.stack.0

  pub beneath : (s : State) → StackState Z s → (k n : ℕ) (todo : List Todo) → s.run.control ≡ piece.ClearNow k n ∷ todo → FrameBeneath Z k s.run.frame s.callers
  beneath s h k n todo e = stack_beneath Z s.env.frames s.run s.callers k n todo e h.stack.0

-- Every quiet step of a task in which what is in scope holds what is known, and answers to it.
use Rattle.std.proofs.Common.{◌≡◌, ℕ, List, [], ◌∷◌, Option, Some, None, refl, subst, arith}
use Rattle.std.specs.Prelude.{nat_lt, slice_get, drop}
use Rattle.uc_tree.specs.Source as src
use Rattle.uc_tree.specs.Source.{Source, Stmts, routine_of}
use Rattle.uc_entry.specs.declared.request.Answer.{Answer}
use Rattle.uc_entry.specs.declared.request.Answer.TheVariants as answer
use Rattle.uc_machine.specs.declared.exec.Home.TheVariants as home
use Rattle.uc_machine.specs.Executions.{take_operands}
use Rattle.uc_machine.specs.Raising as raising
use Rattle.uc_machine.specs.Monitors as monitors
use Rattle.uc_machine.specs.Quiet as quiet
use Rattle.uc_machine.specs.Quiet.{first_state}
use Rattle.uc_machine.specs.Pieces as piece
use Rattle.uc_machine.specs.Pieces.{Value, Todo, State, Members, at, top, number}
use Rattle.uc_machine.specs.Answering.{answered, entered, new_members, with_operand}
use Rattle.uc_typing.specs.Typing.{Table}
use Rattle.uc_life_laws.specs.LifeStates.{ClearsAt, Clears}
use Rattle.uc_life_laws.specs.HomedStates.{Owns, HomedMembers, HomedEx, HomedState, HomedStep, OpensAt, Opens}
use Rattle.uc_life_laws.specs.HomedRuns.{LawSteps}
use Rattle.uc_life_laws.proofs.HomedCells.{either}
use Rattle.uc_life_laws.proofs.HomedKeeping as kept
use Rattle.uc_life_laws.proofs.Parked as parked
use Rattle.uc_life_laws.proofs.HomedSteps as steps
use Rattle.uc_life_laws.proofs.HomedSteps.{Holding}
use Rattle.uc_life_laws.specs.Things.{Few}

module _ (t : Table) (owns : Owns) (few : Few) where
  module _ (source : Source) (s : State) (st : HomedState t owns few s) where
    go : (todo : List Todo) (vs : List Value) → Holding t owns few s st todo → HomedState t owns few (at todo vs s)
    go = steps.go t owns few s st

    -- the statements that are left of a block
    rests : (ss : Stmts) (todo : List Todo) → OpensAt t owns few (piece.Rest ss ∷ todo) s → Holding t owns few s st todo → HomedStep t owns few (quiet.rest_step ss todo s)
    rests src.Nil todo f h = go _ _ h
    rests (src.Then a ss) todo f h = go _ _ h
    rests (src.Scoped c ss) todo f h = go _ _ (f, h)
    rests (src.Built c ss) todo f h = go _ _ h

    -- one piece, with what is to do behind it
    acts : (p : Todo) (todo : List Todo) → s.run.control ≡ p ∷ todo → OpensAt t owns few (p ∷ todo) s → ClearsAt t (p ∷ todo) s → Holding t owns few s st (p ∷ todo) → HomedStep t owns few (quiet.act source p todo s)
    acts (piece.Eval a) todo e o f h = steps.eval t owns few s st a todo h
    acts (piece.ElementNow m k) todo e o f h = steps.element t owns few s st k _ todo _ _ h
    acts piece.NegateNow todo e o f h = steps.outcome t owns few s st _ todo _ h
    acts (piece.OperateNow op) todo e o f h = steps.outcome t owns few s st _ todo _ h
    acts piece.StoreNow todo e o f h = steps.go_in t owns few s st _ _ _ (kept.written_keeps t owns few _ _ s.env st.env) h
    acts piece.KeepNow todo e o f h = steps.go_in t owns few s st _ _ _ (kept.written_keeps t owns few _ _ s.env st.env) h
    acts (piece.SetNow k) todo e o f h = steps.go_in t owns few s st _ _ _ (kept.written_keeps t owns few (piece.variable_at k s) (piece.Number (number (top s.run.operands))) s.env st.env) h
    acts piece.BindNow todo e o f h = steps.go_in t owns few s st _ _ _ (kept.written_keeps t owns few _ _ s.env st.env) h
    acts (piece.Arguments src.NoExprs) todo e o f h = go _ _ h
    acts (piece.Arguments (src.MoreExprs a es)) todo e o f h = go _ _ h
    acts (piece.CallNow r) todo e o f h = steps.call t owns few s st (slice_get source.routines r) todo h
    acts (piece.CallOnNow r) todo e o f h = steps.call_on t owns few s st (slice_get source.routines r) todo h
    acts (piece.CallUnwrittenNow r) todo e o f h = steps.call_unwritten t owns few s st (slice_get source.routines r) todo h
    acts (piece.CountNow m) todo e o f h = record { frames = st.frames; stack = (st.stack.0, h, st.stack.2); env = st.env }
    acts piece.MoreNow todo e o f h = record { frames = st.frames; stack = (st.stack.0, h, st.stack.2); env = st.env }
    acts (piece.FillNow m b d) todo e o f h = go _ _ (steps.filled t owns few s.env.exec _ s.run.frame s.run.this s.callers (nat_lt s.run.elements m) m b d todo h)
    acts (piece.Again order c step b) todo e o f h = go _ _ (either (Holding t owns few s st) (piece.is_zero (number (top s.run.operands))) todo (piece.TurnNow order c step b ∷ todo) h h)
    acts (piece.PrintNow form) todo e o f h = steps.prints t owns few s st s.env.gathered _ todo _ h
    acts (piece.TextNow k) todo e o f h = steps.prints t owns few s st s.env.gathered _ todo _ h
    acts piece.GatherNow todo e o f h = steps.go_in t owns few s st _ _ _ (steps.same t owns few s st refl refl refl refl refl) h
    acts piece.FlushNow todo e o f h = steps.flushes t owns few s st s.env.gathered todo _ h
    acts (piece.ClearNow k m) todo e o f h = steps.clears t owns few s st k m todo e f h
    acts (piece.Items []) todo e o f h = go _ _ h
    acts (piece.Items (i ∷ is)) todo e o f h = go _ _ (steps.item t owns few s.env.exec _ s.run.frame s.run.this s.callers i (piece.Items is ∷ todo) h)
    acts (piece.Values []) todo e o f h = go _ _ h
    acts (piece.Values (i ∷ is)) todo e o f h = go _ _ (steps.item_value t owns few s.env.exec _ s.run.frame s.run.this s.callers i (piece.Values is ∷ todo) h)
    acts (piece.Pieces []) todo e o f h = go _ _ h
    acts (piece.Pieces (i ∷ is)) todo e o f h = go _ _ (steps.item_piece t owns few s.env.exec _ s.run.frame s.run.this s.callers i todo h)
    acts (piece.Targets []) todo e o f h = go _ _ h
    acts (piece.Targets (x ∷ xs)) todo e o f h = go _ _ h
    acts (piece.Variables []) todo e o f h = go _ _ h
    acts (piece.Variables (d ∷ ds)) todo e o f h = go _ _ (steps.starts t owns few s.env.exec _ s.run.frame s.run.this s.callers d.cell d.value (piece.Variables ds ∷ todo) h)
    acts (piece.Do a) todo e o f h = steps.stmt t owns few s st a todo h
    acts (piece.Rest ss) todo e o f h = rests ss todo o h
    acts (piece.Exit w) todo e o f h = steps.exits t owns few s st w todo h
    acts (piece.InLoop order c step b) todo e o f h = go _ _ (steps.stepped t owns few s.env.exec _ s.run.frame s.run.this s.callers step _ (steps.tested t owns few s.env.exec _ s.run.frame s.run.this s.callers order c step b todo h))
    acts (piece.Clean x) todo e o f h = go _ _ (steps.cleans t owns few s.env.exec _ s.run.frame s.run.this s.callers x todo h.1)
    acts (piece.Sweep a) todo e o f h = steps.swept t owns few s st s.run.elements a todo h
    acts piece.Unwind todo e o f h = steps.unwinds t owns few s st todo h
    acts piece.ThrowNow todo e o f h = steps.throws t owns few s st (raising.event_in s.run.operands) todo h
    acts piece.RaiseNow todo e o f h = steps.raises t owns few s st (raising.event_in s.run.operands) todo h
    acts (piece.SetUpNow r) todo e o f h = steps.set_up t owns few s st (slice_get source.routines r) todo h
    acts piece.EnlivenNow todo e o f h = steps.go_in t owns few s st _ _ _ (kept.enlivened_keeps t owns few (piece.own_exec s) s.env st.env) h
    acts piece.TakeDownNow todo e o f h = steps.moved t owns few s st _ todo _ h (kept.take_down_rests t owns few (piece.own_exec s) (at todo s.run.operands s) (go _ _ h))
    acts piece.ForgetNow todo e o f h = steps.go_in t owns few s st _ _ _ (kept.forgotten_keeps t owns few (piece.own_exec s) s.env st.env) h
    acts (piece.LiveNow r) todo e o f h = steps.live t owns few s st (slice_get source.routines r) todo h
    acts piece.ResumeNow todo e o f h = steps.moved t owns few s st _ (piece.Land ∷ todo) _ h (kept.wake_rests t owns few (quiet.resumed s) (at (piece.Land ∷ todo) s.run.operands s) (go _ _ h))
    acts piece.SuspendNow todo e o f h = steps.moved t owns few s st _ (piece.Land ∷ todo) _ h (kept.suspend_rests t owns few (at (piece.Land ∷ todo) s.run.operands s) (go _ _ h))
    acts piece.Land todo e o f h = steps.land t owns few s st s.run.raised todo h
    acts (piece.EnterNow m r) todo e o f h = steps.enter t owns few s st m (slice_get source.routines r) todo h
    acts piece.LeaveNow todo e o f h = steps.leave t owns few s st _ (monitors.this_object s) todo h
    acts (piece.MakeNow k r) todo e o f h = steps.make t owns few s st k r (slice_get source.routines r) todo h
    acts (piece.BindMadeNow k r) todo e o f h = steps.bind t owns few s st (slice_get source.routines r) todo h
    acts piece.MadeNow todo e o f h = steps.unless t owns few s st (monitors.this_object s) _ todo h (steps.go_in t owns few s st _ _ _ (steps.same t owns few s st refl refl refl refl refl) h)
    acts (piece.SpawnNow r) todo e o f h = steps.unless t owns few s st (monitors.this_object s) _ (piece.ChildNow r ∷ todo) h (steps.go_in t owns few s st _ _ _ (steps.same t owns few s st refl refl refl refl refl) h)
    acts piece.GoneNow todo e o f h = steps.go_in t owns few s st _ _ _ (steps.same t owns few s st refl refl refl refl refl) h
    acts piece.GiveUpNow todo e o f h = steps.go_in t owns few s st _ _ _ (steps.same t owns few s st refl refl refl refl refl) h
    acts (piece.ConditionNow k m) todo e o f h = steps.condition t owns few s st k _ todo h
    acts piece.WaitNow todo e o f h = steps.unless t owns few s st (monitors.this_object s) _ todo h (go _ _ h)
    acts piece.SignalBlockNow todo e o f h = steps.unless t owns few s st (monitors.this_object s) _ todo h (go _ _ h)
    acts (piece.Guards src.NoClauses) todo e o f h = go _ _ h
    acts (piece.Guards (src.Otherwise b)) todo e o f h = go _ _ h
    acts (piece.Guards (src.MoreClauses guard b cs)) todo e o f h = go _ _ h
    acts (piece.AcceptNow site m) todo e o f h = steps.accept_by t owns few s st (monitors.mask_of (take_operands piece.Nothing m s.run.operands [])) (monitors.this_object s) site todo (drop m s.run.operands) h
    acts piece.FailedNow todo e o f h = steps.failed t owns few s st _ todo _ h
    acts (piece.ChooseNow cs) todo e o f h = go _ _ (steps.branch t owns few s.env.exec _ s.run.frame s.run.this s.callers _ cs todo h)
    acts piece.RaiseAtNow todo e o f h = steps.raise_at t owns few s st _ _ todo _ h
    acts (piece.EnableNow events cell) todo e o f h = steps.enables t owns few s st _ cell todo h
    acts (piece.DisableNow events cell) todo e o f h = steps.enables t owns few s st _ cell todo h
    acts (piece.RestoreNow cell) todo e o f h = steps.go_in t owns few s st _ _ _ (steps.same t owns few s st refl refl refl refl refl) h
    acts piece.PollNow todo e o f h = steps.poll t owns few s st todo h
    acts piece.DeliverNow todo e o f h = steps.deliver t owns few s st _ todo h
    acts piece.Finish todo e o f h = steps.unless t owns few s st s.env.own _ todo h (steps.returned t owns few s st _ s.callers st.frames st.stack.2)
    acts piece.FinishCoroutine todo e o f h = steps.moved t owns few s st _ todo _ h (kept.finish_rests t owns few (at todo s.run.operands s) (go _ _ h))
    acts p todo e o f h = go _ _ h

    walk : Opens t owns few s → Clears t s → HomedStep t owns few (quiet.quiet source s)
    walk o f = by s.run.control refl
      where
        by : (l : List Todo) → s.run.control ≡ l → HomedStep t owns few (quiet.act_todo source l s)
        by [] e = steps.returned t owns few s st _ s.callers st.frames st.stack.2
        by (p ∷ todo) e = acts p todo e (subst (λ l. OpensAt t owns few l s) e o) (subst (λ l. ClearsAt t l s) e f) (subst (Holding t owns few s st) e st.stack.1)

  begins : (source : Source) (r o : ℕ) → HomedState t owns few (first_state (routine_of source r) o)
  begins source r o = record {
    frames = refl;
    stack = (omega arith, steps.routine t owns few (record { home = home.Task o; serial = 0 }) _ 0 (piece.Object o) [] (routine_of source r), tt);
    env = record { house = (tt, tt); hand = tt };
  }

  new_there : (source : Source) (h : ℕ) (todo : List Todo) → HomedMembers t owns few (home.Object h) (new_members source todo)
  new_there source h [] = tt
  new_there source h (piece.BindMadeNow c r ∷ todo) = tt
  new_there source h (p ∷ todo) = tt

  -- with other operands
  with_operands : (s : State) (vs : List Value) → HomedState t owns few s → HomedState t owns few (record s { run = record s.run { operands = vs } })
  with_operands s vs h = record { frames = h.frames; stack = (h.stack.0, h.stack.1, h.stack.2); env = h.env }

  entered_there : (m : Option Members) (o : ℕ) (s : State) → HomedMembers t owns few (home.Object o) m → HomedState t owns few s → HomedState t owns few (with_operand (piece.Object o) (entered m o s))
  entered_there None o s k h = with_operands s _ h
  entered_there (Some m) o s k h = record { frames = h.frames; stack = (h.stack.0, h.stack.1, h.stack.2); env = record { house = h.env.house; hand = parked.more_hand (HomedEx t owns few) s.env.hand o m k h.env.hand } }

  pub answered_there : (source : Source) (given : Answer) (s : State) → HomedState t owns few s → HomedState t owns few (answered source given s)
  answered_there source (answer.Object o) s h = entered_there (new_members source s.run.control) o s (new_there source o s.run.control) h
  answered_there source (answer.Number n) s h = with_operands s _ h
  answered_there source (answer.Value n failed) s h = with_operands s _ h
  answered_there source (answer.Clause k failed) s h = with_operands s _ h
  answered_there source (answer.Event n x y) s h = with_operands s _ h
  answered_there source answer.Nothing s h = with_operands s _ h
  answered_there source answer.Go s h = h

pub law_steps : LawSteps
law_steps = record {
  begins = λ t owns few source r o. begins t owns few source r o;
  steps = λ t owns few source s h o c. walk t owns few source s h o c;
  told = λ t owns few source given s h. answered_there t owns few source given s h;
}

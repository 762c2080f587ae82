-- Every quiet step of a task whose activations have their objects, and answers to it.
use Rattle.std.proofs.Common.{◌≡◌, ℕ, List, [], ◌∷◌, Option, Some, None, refl, subst}
use Rattle.std.specs.Prelude.{slice_get, drop}
use Rattle.uc_tree.specs.Source as src
use Rattle.uc_tree.specs.Source.{Source, Stmts, Routine, routine_of}
use Rattle.uc_entry.specs.declared.request.Answer.{Answer}
use Rattle.uc_entry.specs.declared.request.Answer.TheVariants as answer
use Rattle.uc_machine.specs.declared.exec.Home.TheVariants as home
use Rattle.uc_machine.specs.Executions.{take_operands}
use Rattle.uc_machine.specs.Raising as raising
use Rattle.uc_machine.specs.Monitors as monitors
use Rattle.uc_machine.specs.Quiet as quiet
use Rattle.uc_machine.specs.Quiet.{first_state}
use Rattle.uc_machine.specs.Pieces as piece
use Rattle.uc_machine.specs.Pieces.{Value, Todo, State, Members, at, top, number}
use Rattle.uc_machine.specs.Answering.{answered, entered, new_members, with_operand}
use Rattle.uc_typing.specs.Typing.{Table}
use Rattle.uc_life_laws.specs.Things.{Few}
use Rattle.uc_life_laws.specs.Knowing.{main_of}
use Rattle.uc_making_laws.specs.OwnThis.{HasHome, ThisMembers, ThisEx, ThisState, ThisStep, CallsAt, Calls, LawThis}
use Rattle.uc_life_laws.proofs.Cells.{either}
use Rattle.uc_making_laws.proofs.ThisKeeping as kept
use Rattle.uc_life_laws.proofs.Parked as parked
use Rattle.uc_making_laws.proofs.ThisSteps as steps
use Rattle.uc_making_laws.proofs.ThisSteps.{Holding}

module _ (t : Table) (few : Few) where
  module _ (source : Source) (s : State) (st : ThisState t few s) where
    go : (todo : List Todo) (vs : List Value) → Holding t few s st todo → ThisState t few (at todo vs s)
    go = steps.go t few s st

    -- the statements that are left of a block
    rests : (ss : Stmts) (todo : List Todo) → Holding t few s st todo → ThisStep t few (quiet.rest_step ss todo s)
    rests src.Nil todo h = go _ _ h
    rests (src.Then a ss) todo h = go _ _ h
    rests (src.Scoped c ss) todo h = go _ _ h
    rests (src.Built c ss) todo h = go _ _ h

    -- one piece, with what is to do behind it
    acts : (p : Todo) (todo : List Todo) → s.run.control ≡ p ∷ todo → CallsAt t few source (p ∷ todo) s → Holding t few s st (p ∷ todo) → ThisStep t few (quiet.act source p todo s)
    acts (piece.Eval a) todo e o h = steps.eval t few s st a todo h
    acts (piece.ElementNow m k) todo e o h = steps.element t few s st k _ todo _ _ h
    acts piece.NegateNow todo e o h = steps.outcome t few s st _ todo _ h
    acts (piece.OperateNow op) todo e o h = steps.outcome t few s st _ todo _ h
    acts piece.StoreNow todo e o h = steps.go_in t few s st _ _ _ (kept.written_keeps t few _ _ s.env st.env) h
    acts piece.KeepNow todo e o h = steps.go_in t few s st _ _ _ (kept.written_keeps t few _ _ s.env st.env) h
    acts (piece.SetNow k) todo e o h = steps.go_in t few s st _ _ _ (kept.written_keeps t few (piece.variable_at k s) (piece.Number (number (top s.run.operands))) s.env st.env) h
    acts piece.BindNow todo e o h = steps.go_in t few s st _ _ _ (kept.written_keeps t few _ _ s.env st.env) h
    acts (piece.Arguments src.NoExprs) todo e o h = go _ _ h
    acts (piece.Arguments (src.MoreExprs a es)) todo e o h = go _ _ h
    acts (piece.CallNow r) todo e o h = steps.call t few s st (slice_get source.routines r) todo h
    acts (piece.CallOnNow r) todo e o h = steps.call_on t few s st (slice_get source.routines r) todo o h
    acts (piece.CallUnwrittenNow r) todo e o h = steps.call_unwritten t few s st (slice_get source.routines r) todo o h
    acts (piece.CountNow m) todo e o h = record { stack = (h, st.stack.1); env = st.env }
    acts piece.MoreNow todo e o h = record { stack = (h, st.stack.1); env = st.env }
    acts (piece.FillNow m b d) todo e o h = go _ _ h
    acts (piece.Again order c step b) todo e o h = go _ _ (either (Holding t few s st) (piece.is_zero (number (top s.run.operands))) todo (piece.TurnNow order c step b ∷ todo) h h)
    acts (piece.PrintNow form) todo e o h = steps.prints t few s st s.env.gathered _ todo _ h
    acts (piece.TextNow k) todo e o h = steps.prints t few s st s.env.gathered _ todo _ h
    acts piece.GatherNow todo e o h = steps.go_in t few s st _ _ _ (steps.same t few s st refl refl refl refl) h
    acts piece.FlushNow todo e o h = steps.flushes t few s st s.env.gathered todo _ h
    acts (piece.ClearNow k m) todo e o h = steps.clears t few s st k m todo h
    acts (piece.Items []) todo e o h = go _ _ h
    acts (piece.Items (i ∷ is)) todo e o h = go _ _ h
    acts (piece.Values []) todo e o h = go _ _ h
    acts (piece.Values (i ∷ is)) todo e o h = go _ _ h
    acts (piece.Pieces []) todo e o h = go _ _ h
    acts (piece.Pieces (i ∷ is)) todo e o h = go _ _ h
    acts (piece.Targets []) todo e o h = go _ _ h
    acts (piece.Targets (x ∷ xs)) todo e o h = go _ _ h
    acts (piece.Variables []) todo e o h = go _ _ h
    acts (piece.Variables (d ∷ ds)) todo e o h = go _ _ h
    acts (piece.Do a) todo e o h = steps.stmt t few s st a todo h
    acts (piece.Rest ss) todo e o h = rests ss todo h
    acts (piece.Exit w) todo e o h = steps.exits t few s st w todo h
    acts (piece.InLoop order c step b) todo e o h = go _ _ h
    acts (piece.Clean x) todo e o h = go _ _ h
    acts (piece.Part x) todo e o h = go _ _ h
    acts (piece.Sweep a) todo e o h = steps.swept t few s st s.run.elements a todo h
    acts piece.Unwind todo e o h = steps.unwinds t few s st todo h
    acts piece.ThrowNow todo e o h = steps.throws t few s st (raising.event_in s.run.operands) todo h
    acts piece.RaiseNow todo e o h = steps.raises t few s st (raising.event_in s.run.operands) todo h
    acts (piece.SetUpNow r) todo e o h = steps.set_up t few s st (slice_get source.routines r) todo o h
    acts piece.EnlivenNow todo e o h = steps.go_in t few s st _ _ _ (kept.enlivened_keeps t few (piece.own_exec s) s.env st.env) h
    acts piece.TakeDownNow todo e o h = steps.moved t few s st _ todo _ h (kept.take_down_rests t few (piece.own_exec s) (at todo s.run.operands s) (go _ _ h))
    acts piece.ForgetNow todo e o h = steps.go_in t few s st _ _ _ (kept.forgotten_keeps t few (piece.own_exec s) s.env st.env) h
    acts (piece.LiveNow r) todo e o h = steps.live t few s st (slice_get source.routines r) todo h
    acts piece.ResumeNow todo e o h = steps.moved t few s st _ (piece.Land ∷ todo) _ h (kept.wake_rests t few (quiet.resumed s) (at (piece.Land ∷ todo) s.run.operands s) (go _ _ h))
    acts piece.SuspendNow todo e o h = steps.moved t few s st _ (piece.Land ∷ todo) _ h (kept.suspend_rests t few (at (piece.Land ∷ todo) s.run.operands s) (go _ _ h))
    acts piece.Land todo e o h = steps.land t few s st s.run.raised todo h
    acts (piece.EnterNow m r) todo e o h = steps.enter t few s st m (slice_get source.routines r) todo h
    acts piece.LeaveNow todo e o h = steps.leave t few s st _ (monitors.this_object s) todo h
    acts (piece.MakeNow k r) todo e o h = steps.make t few s st k r (slice_get source.routines r) todo h
    acts (piece.BindMadeNow k r) todo e o h = steps.bind t few s st (slice_get source.routines r) todo h
    acts piece.MadeNow todo e o h = steps.unless t few s st (monitors.this_object s) _ todo h (steps.go_in t few s st _ _ _ (steps.same t few s st refl refl refl refl) h, tt)
    acts (piece.SpawnNow r) todo e o h = steps.unless t few s st (monitors.this_object s) _ (piece.ChildNow r ∷ todo) h (steps.go_in t few s st _ _ _ (steps.same t few s st refl refl refl refl) h, o)
    acts piece.GoneNow todo e o h = (steps.go_in t few s st _ _ _ (steps.same t few s st refl refl refl refl) h, tt)
    acts piece.GiveUpNow todo e o h = (steps.go_in t few s st _ _ _ (steps.same t few s st refl refl refl refl) h, tt)
    acts (piece.ConditionNow k m) todo e o h = steps.condition t few s st k _ todo h
    acts piece.WaitNow todo e o h = steps.unless t few s st (monitors.this_object s) _ todo h (go _ _ h, tt)
    acts piece.SignalBlockNow todo e o h = steps.unless t few s st (monitors.this_object s) _ todo h (go _ _ h, tt)
    acts (piece.Guards src.NoClauses) todo e o h = go _ _ h
    acts (piece.Guards (src.Otherwise b)) todo e o h = go _ _ h
    acts (piece.Guards (src.MoreClauses guard b cs)) todo e o h = go _ _ h
    acts (piece.AcceptNow site m) todo e o h = steps.accept_by t few s st (monitors.mask_of (take_operands piece.Nothing m s.run.operands [])) (monitors.this_object s) site todo (drop m s.run.operands) h
    acts piece.FailedNow todo e o h = steps.failed t few s st _ todo _ h
    acts (piece.ChooseNow cs) todo e o h = go _ _ h
    acts piece.RaiseAtNow todo e o h = steps.raise_at t few s st _ _ todo _ h
    acts (piece.EnableNow events cell) todo e o h = steps.enables t few s st _ cell todo h
    acts (piece.DisableNow events cell) todo e o h = steps.enables t few s st _ cell todo h
    acts (piece.RestoreNow cell) todo e o h = steps.go_in t few s st _ _ _ (steps.same t few s st refl refl refl refl) h
    acts piece.PollNow todo e o h = steps.poll t few s st todo h
    acts piece.DeliverNow todo e o h = steps.deliver t few s st _ todo h
    acts piece.Finish todo e o h = steps.unless t few s st s.env.own _ todo h (steps.returned t few s st _ s.callers st.stack.1)
    acts piece.FinishCoroutine todo e o h = steps.moved t few s st _ todo _ h (kept.finish_rests t few (at todo s.run.operands s) (go _ _ h))
    acts (piece.ReadNow form) todo e o h = (go _ _ h, tt)
    acts piece.NoReturnNow todo e o h = (go _ _ h, tt)
    acts piece.ClusterNow todo e o h = (go _ _ h, tt)
    acts piece.ProcessorNow todo e o h = (go _ _ h, tt)
    acts piece.ClusterEndNow todo e o h = (go _ _ h, tt)
    acts piece.ProcessorEndNow todo e o h = (go _ _ h, tt)
    acts piece.SignalNow todo e o h = (go _ _ h, tt)
    acts piece.EmptyNow todo e o h = (go _ _ h, tt)
    acts piece.FrontNow todo e o h = (go _ _ h, tt)
    acts piece.YieldNow todo e o h = (go _ _ h, tt)
    acts piece.MigrateNow todo e o h = (go _ _ h, tt)
    acts p todo e o h = go _ _ h

    pub walk : Calls t few source s → ThisStep t few (quiet.quiet source s)
    walk o = by s.run.control refl
      where
        by : (l : List Todo) → s.run.control ≡ l → ThisStep t few (quiet.act_todo source l s)
        by [] e = steps.returned t few s st _ s.callers st.stack.1
        by (p ∷ todo) e = acts p todo e (subst (λ l. CallsAt t few source l s) e o) st.stack.0

  pub begins : (source : Source) (r o : ℕ) → HasHome t few (main_of o) [] o → ThisState t few (first_state (routine_of source r) o)
  begins source r o h = record { stack = (h, tt); env = record { house = (tt, tt); hand = tt } }

  new_there : (source : Source) (h : ℕ) (todo : List Todo) → ThisMembers t few (home.Object h) (new_members source todo)
  new_there source h [] = tt
  new_there source h (piece.BindMadeNow c r ∷ todo) = tt
  new_there source h (p ∷ todo) = tt

  -- with other operands
  with_operands : (s : State) (vs : List Value) → ThisState t few s → ThisState t few (record s { run = record s.run { operands = vs } })
  with_operands s vs h = record { stack = (h.stack.0, h.stack.1); env = h.env }

  entered_there : (m : Option Members) (o : ℕ) (s : State) → ThisMembers t few (home.Object o) m → ThisState t few s → ThisState t few (with_operand (piece.Object o) (entered m o s))
  entered_there None o s k h = with_operands s _ h
  entered_there (Some m) o s k h = record { stack = (h.stack.0, h.stack.1); env = record { house = h.env.house; hand = parked.more_hand (ThisEx t few) s.env.hand o m k h.env.hand } }

  pub answered_there : (source : Source) (given : Answer) (s : State) → ThisState t few s → ThisState t few (answered source given s)
  answered_there source (answer.Object o) s h = entered_there (new_members source s.run.control) o s (new_there source o s.run.control) h
  answered_there source (answer.Number n) s h = with_operands s _ h
  answered_there source (answer.Value n failed) s h = with_operands s _ h
  answered_there source (answer.Clause k failed) s h = with_operands s _ h
  answered_there source (answer.Event n x y) s h = with_operands s _ h
  answered_there source answer.Nothing s h = with_operands s _ h
  answered_there source answer.Go s h = h

pub law_this : LawThis
law_this = record {
  begins = λ t few source r o h. begins t few source r o h;
  steps = λ t few source s h m. walk t few source s h m;
  told = λ t few source given s h. answered_there t few source given s h;
}

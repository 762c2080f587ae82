-- Every quiet step of a task in which elements that stand are not gone, and answers to it.
use Rattle.std.proofs.Common.{◌≡◌, ℕ, ◌+◌, List, [], ◌∷◌, Option, Some, None, refl, subst, arith}
use Rattle.std.specs.Prelude.{nat_lt, min, slice_get, drop}
use Rattle.uc_tree.specs.Source as src
use Rattle.uc_tree.specs.Source.{Source, CleanUp, Stmts, routine_of}
use Rattle.uc_entry.specs.declared.request.Answer.{Answer}
use Rattle.uc_entry.specs.declared.request.Answer.TheVariants as answer
use Rattle.uc_machine.specs.declared.exec.Home.TheVariants as home
use Rattle.uc_machine.specs.Executions.{take_operands}
use Rattle.uc_machine.specs.Raising as raising
use Rattle.uc_machine.specs.Monitors as monitors
use Rattle.uc_machine.specs.Quiet as quiet
use Rattle.uc_machine.specs.Quiet.{first_state}
use Rattle.uc_machine.specs.Pieces as piece
use Rattle.uc_machine.specs.Pieces.{Value, Todo, State, Members, at, top, number}
use Rattle.uc_machine.specs.Answering.{answered, entered, new_members, with_operand}
use Rattle.uc_life_laws.specs.LifeStates.{frame_at}
use Rattle.uc_life_laws.proofs.Cells.{either}
use Rattle.uc_parts_laws.specs.Standing.{Going, Standing, StandingFirst, StandingMembers, StandingEx, StandingState, StandingStep, CleansStill, FindsStandingAt, FindsStanding, LawStanding}
use Rattle.uc_parts_laws.proofs.StandingKeeping as kept
use Rattle.uc_life_laws.proofs.Parked as parked
use Rattle.uc_parts_laws.proofs.StandingSteps as steps
use Rattle.uc_parts_laws.proofs.StandingSteps.{Holding}

module _ (going : Going) where
  -- what is told of the list of the running activation
  abbrev First : State → List Todo → Type 0
  First s todo = StandingFirst going s.env.exec (frame_at s.run.frame s.env.frames) s.run.frame s.run.elements todo

  module _ (source : Source) (s : State) (st : StandingState going s) where
    go : (todo : List Todo) (vs : List Value) → Holding going s st todo → StandingState going (at todo vs s)
    go = steps.go going s st

    -- the statements that are left of a block
    rests : (ss : Stmts) (todo : List Todo) → Holding going s st todo → StandingStep going (quiet.rest_step ss todo s)
    rests src.Nil todo h = go _ _ h
    rests (src.Then a ss) todo h = go _ _ h
    rests (src.Scoped c ss) todo h = go _ _ h
    rests (src.Built c ss) todo h = go _ _ h

    -- another element stands
    counted : (todo : List Todo) → FindsStandingAt going (piece.MoreNow ∷ todo) s → Holding going s st todo → Standing going s.env.exec (frame_at s.run.frame s.env.frames) s.run.frame (min (s.run.elements + 1) quiet.MOST_ELEMENTS) todo
    counted (piece.FillNow m b d ∷ todo) n h = steps.free going s.env.exec (frame_at s.run.frame s.env.frames) s.run.frame s.run.elements (min (s.run.elements + 1) quiet.MOST_ELEMENTS) todo n h
    counted todo n h = steps.free going s.env.exec (frame_at s.run.frame s.env.frames) s.run.frame s.run.elements (min (s.run.elements + 1) quiet.MOST_ELEMENTS) todo n h

    clean_found : (x : CleanUp) (todo : List Todo) → CleansStill going x todo s → steps.Cleans going s.env.exec (frame_at s.run.frame s.env.frames) s.run.frame s.run.elements x todo
    clean_found (src.DestroysAll k e) todo n = n
    clean_found x todo n = tt

    -- one piece, with what is to do behind it
    acts : (p : Todo) (todo : List Todo) → s.run.control ≡ p ∷ todo → FindsStandingAt going (p ∷ todo) s → First s (p ∷ todo) → StandingStep going (quiet.act source p todo s)
    acts (piece.Eval a) todo e n h = steps.eval going s st a todo h
    acts (piece.ElementNow m k) todo e n h = steps.element going s st k _ todo _ _ h
    acts piece.NegateNow todo e n h = steps.outcome going s st _ todo _ h
    acts (piece.OperateNow op) todo e n h = steps.outcome going s st _ todo _ h
    acts piece.StoreNow todo e n h = steps.go_in going s st _ _ _ (kept.written_keeps going _ _ s.env (λ o e. absurd (cc)) st.env) h
    acts piece.KeepNow todo e n h = steps.go_in going s st _ _ _ (kept.written_keeps going _ _ s.env (λ o e. absurd (cc)) st.env) h
    acts (piece.SetNow k) todo e n h = steps.go_in going s st _ _ _ (kept.written_keeps going (piece.variable_at k s) (piece.Number (number (top s.run.operands))) s.env (λ o e. absurd (cc)) st.env) h
    acts piece.BindNow todo e n h = steps.binds going s st _ _ todo _ n h
    acts (piece.Arguments src.NoExprs) todo e n h = go _ _ h
    acts (piece.Arguments (src.MoreExprs a es)) todo e n h = go _ _ h
    acts (piece.CallNow r) todo e n h = steps.call going s st (slice_get source.routines r) todo h
    acts (piece.CallOnNow r) todo e n h = steps.call_on going s st (slice_get source.routines r) todo h
    acts (piece.CallUnwrittenNow r) todo e n h = steps.call_unwritten going s st (slice_get source.routines r) todo h
    acts (piece.CountNow m) todo e n h = record { frames = st.frames; stack = (st.stack.0, steps.first going s.env.exec _ s.run.frame m todo h, st.stack.2); env = st.env }
    acts piece.MoreNow todo e n h = record { frames = st.frames; stack = (st.stack.0, steps.first going s.env.exec _ s.run.frame (min (s.run.elements + 1) quiet.MOST_ELEMENTS) todo (counted todo n h), st.stack.2); env = st.env }
    acts (piece.FillNow m b d) todo e n h = go _ _ (steps.filled going s.env.exec _ s.run.frame s.run.elements (nat_lt s.run.elements m) m b d todo h)
    acts (piece.Again order c step b) todo e n h = go _ _ (either (Holding going s st) (piece.is_zero (number (top s.run.operands))) todo (piece.TurnNow order c step b ∷ todo) h h)
    acts (piece.PrintNow form) todo e n h = steps.prints going s st s.env.gathered _ todo _ h
    acts (piece.TextNow k) todo e n h = steps.prints going s st s.env.gathered _ todo _ h
    acts piece.GatherNow todo e n h = steps.go_in going s st _ _ _ (steps.same going s st refl refl refl refl refl) h
    acts piece.FlushNow todo e n h = steps.flushes going s st s.env.gathered todo _ h
    acts (piece.ClearNow k m) todo e n h = steps.clears going s st k m todo h
    acts (piece.Items []) todo e n h = go _ _ h
    acts (piece.Items (i ∷ is)) todo e n h = go _ _ (steps.item going s.env.exec _ s.run.frame s.run.elements i (piece.Items is ∷ todo) h)
    acts (piece.Values []) todo e n h = go _ _ h
    acts (piece.Values (i ∷ is)) todo e n h = go _ _ (steps.item_value going s.env.exec _ s.run.frame s.run.elements i (piece.Values is ∷ todo) h)
    acts (piece.Pieces []) todo e n h = go _ _ h
    acts (piece.Pieces (i ∷ is)) todo e n h = go _ _ (steps.item_piece going s.env.exec _ s.run.frame s.run.elements i todo h)
    acts (piece.Targets []) todo e n h = go _ _ h
    acts (piece.Targets (x ∷ xs)) todo e n h = go _ _ h
    acts (piece.Variables []) todo e n h = go _ _ h
    acts (piece.Variables (d ∷ ds)) todo e n h = go _ _ (steps.starts going s.env.exec _ s.run.frame s.run.elements d.cell d.value (piece.Variables ds ∷ todo) h)
    acts (piece.Do a) todo e n h = steps.stmt going s st a todo h
    acts (piece.Rest ss) todo e n h = rests ss todo h
    acts (piece.Exit w) todo e n h = steps.exits going s st w todo n h
    acts (piece.InLoop order c step b) todo e n h = go _ _ (steps.stepped going s.env.exec _ s.run.frame s.run.elements step _ (steps.tested going s.env.exec _ s.run.frame s.run.elements order c step b todo h))
    acts (piece.Clean x) todo e n h = steps.go_first going s st _ _ (steps.cleans going s.env.exec _ s.run.frame s.run.elements x todo (clean_found x todo n) h)
    acts (piece.Sweep a) todo e n h = steps.swept going s st s.run.elements a todo refl h
    acts piece.Unwind todo e n h = steps.unwinds going s st todo n h
    acts piece.ThrowNow todo e n h = steps.throws going s st (raising.event_in s.run.operands) todo h
    acts piece.RaiseNow todo e n h = steps.raises going s st (raising.event_in s.run.operands) todo h
    acts (piece.SetUpNow r) todo e n h = steps.set_up going s st (slice_get source.routines r) todo h
    acts piece.EnlivenNow todo e n h = steps.go_in going s st _ _ _ (kept.enlivened_keeps going (piece.own_exec s) s.env st.env) h
    acts piece.TakeDownNow todo e n h = steps.moved going s st _ todo _ h (kept.take_down_rests going (piece.own_exec s) (at todo s.run.operands s) (go _ _ h))
    acts piece.ForgetNow todo e n h = steps.go_in going s st _ _ _ (kept.forgotten_keeps going (piece.own_exec s) s.env st.env) h
    acts (piece.LiveNow r) todo e n h = steps.live going s st (slice_get source.routines r) todo h
    acts piece.ResumeNow todo e n h = steps.moved going s st _ (piece.Land ∷ todo) _ h (kept.wake_rests going (quiet.resumed s) (at (piece.Land ∷ todo) s.run.operands s) (go _ _ h))
    acts piece.SuspendNow todo e n h = steps.moved going s st _ (piece.Land ∷ todo) _ h (kept.suspend_rests going (at (piece.Land ∷ todo) s.run.operands s) (go _ _ h))
    acts piece.Land todo e n h = steps.land going s st s.run.raised todo h
    acts (piece.EnterNow m r) todo e n h = steps.enter going s st m (slice_get source.routines r) todo h
    acts piece.LeaveNow todo e n h = steps.leave going s st _ (monitors.this_object s) todo h
    acts (piece.MakeNow k r) todo e n h = steps.make going s st k r (slice_get source.routines r) todo h
    acts (piece.BindMadeNow k r) todo e n h = steps.bind going s st (slice_get source.routines r) todo n h
    acts piece.MadeNow todo e n h = steps.unless going s st (monitors.this_object s) _ todo h (steps.go_in going s st _ _ _ (steps.same going s st refl refl refl refl refl) h)
    acts (piece.SpawnNow r) todo e n h = steps.unless going s st (monitors.this_object s) _ (piece.ChildNow r ∷ todo) h (steps.go_in going s st _ _ _ (steps.same going s st refl refl refl refl refl) h)
    acts piece.GoneNow todo e n h = steps.go_in going s st _ _ _ (steps.same going s st refl refl refl refl refl) h
    acts piece.GiveUpNow todo e n h = steps.go_in going s st _ _ _ (steps.same going s st refl refl refl refl refl) h
    acts (piece.ConditionNow k m) todo e n h = steps.condition going s st k _ todo h
    acts piece.WaitNow todo e n h = steps.unless going s st (monitors.this_object s) _ todo h (go _ _ h)
    acts piece.SignalBlockNow todo e n h = steps.unless going s st (monitors.this_object s) _ todo h (go _ _ h)
    acts (piece.Guards src.NoClauses) todo e n h = go _ _ h
    acts (piece.Guards (src.Otherwise b)) todo e n h = go _ _ h
    acts (piece.Guards (src.MoreClauses guard b cs)) todo e n h = go _ _ h
    acts (piece.AcceptNow site m) todo e n h = steps.accept_by going s st (monitors.mask_of (take_operands piece.Nothing m s.run.operands [])) (monitors.this_object s) site todo (drop m s.run.operands) h
    acts piece.FailedNow todo e n h = steps.failed going s st _ todo _ h
    acts (piece.ChooseNow cs) todo e n h = go _ _ (steps.branch going s.env.exec _ s.run.frame s.run.elements _ cs todo h)
    acts piece.RaiseAtNow todo e n h = steps.raise_at going s st _ _ todo _ h
    acts (piece.EnableNow events cell) todo e n h = steps.enables going s st _ cell todo h
    acts (piece.DisableNow events cell) todo e n h = steps.enables going s st _ cell todo h
    acts (piece.RestoreNow cell) todo e n h = steps.go_in going s st _ _ _ (steps.same going s st refl refl refl refl refl) h
    acts piece.PollNow todo e n h = steps.poll going s st todo h
    acts piece.DeliverNow todo e n h = steps.deliver going s st _ todo h
    acts piece.Finish todo e n h = steps.unless going s st s.env.own _ todo h (steps.returned going s st _ s.callers st.frames st.stack.2)
    acts piece.FinishCoroutine todo e n h = steps.moved going s st _ todo _ h (kept.finish_rests going (at todo s.run.operands s) (go _ _ h))
    acts p todo e n h = go _ _ h

    walk : FindsStanding going s → StandingStep going (quiet.quiet source s)
    walk f = by s.run.control refl
      where
        by : (l : List Todo) → s.run.control ≡ l → StandingStep going (quiet.act_todo source l s)
        by [] e = steps.returned going s st _ s.callers st.frames st.stack.2
        by (p ∷ todo) e = acts p todo e (subst (λ l. FindsStandingAt going l s) e f) (subst (First s) e st.stack.1)

  begins : (source : Source) (r o : ℕ) → StandingState going (first_state (routine_of source r) o)
  begins source r o = record {
    frames = refl;
    stack = (omega arith, steps.routine going (record { home = home.Task o; serial = 0 }) _ 0 0 (routine_of source r), tt);
    env = record { house = (tt, tt); hand = tt };
  }

  new_there : (source : Source) (h : ℕ) (todo : List Todo) → StandingMembers going (home.Object h) (new_members source todo)
  new_there source h [] = tt
  new_there source h (piece.BindMadeNow c r ∷ todo) = tt
  new_there source h (p ∷ todo) = tt

  -- with other operands
  with_operands : (s : State) (vs : List Value) → StandingState going s → StandingState going (record s { run = record s.run { operands = vs } })
  with_operands s vs h = record { frames = h.frames; stack = (h.stack.0, h.stack.1, h.stack.2); env = h.env }

  entered_there : (m : Option Members) (o : ℕ) (s : State) → StandingMembers going (home.Object o) m → StandingState going s → StandingState going (with_operand (piece.Object o) (entered m o s))
  entered_there None o s k h = with_operands s _ h
  entered_there (Some m) o s k h = record { frames = h.frames; stack = (h.stack.0, h.stack.1, h.stack.2); env = record { house = h.env.house; hand = parked.more_hand (StandingEx going) s.env.hand o m k h.env.hand } }

  pub answered_there : (source : Source) (given : Answer) (s : State) → StandingState going s → StandingState going (answered source given s)
  answered_there source (answer.Object o) s h = entered_there (new_members source s.run.control) o s (new_there source o s.run.control) h
  answered_there source (answer.Number n) s h = with_operands s _ h
  answered_there source (answer.Value n failed) s h = with_operands s _ h
  answered_there source (answer.Clause k failed) s h = with_operands s _ h
  answered_there source (answer.Event n x y) s h = with_operands s _ h
  answered_there source answer.Nothing s h = with_operands s _ h
  answered_there source answer.Go s h = h

pub law_standing : LawStanding
law_standing = record {
  begins = λ going source r o. begins going source r o;
  steps = λ going source s h f. walk going source s h f;
  told = λ going source given s h. answered_there going source given s h;
}

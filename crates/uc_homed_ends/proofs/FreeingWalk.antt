-- Every quiet step of a task in which the buildings that are awaited come last, and answers to it.
use Rattle.std.proofs.Common.{◌≡◌, ℕ, ◌⊎◌, inl, inr, List, [], ◌∷◌, Option, Some, None, refl, sym, subst}
use Rattle.std.specs.Prelude.{slice_get, drop, nat_lt}
use Rattle.uc_tree.specs.Source as src
use Rattle.uc_tree.specs.Source.{Source, routine_of}
use Rattle.uc_entry.specs.declared.request.Answer.{Answer}
use Rattle.uc_entry.specs.declared.request.Answer.TheVariants as answer
use Rattle.uc_machine.specs.declared.exec.Home.TheVariants as home
use Rattle.uc_machine.specs.Executions.{take_operands}
use Rattle.uc_machine.specs.Raising as raising
use Rattle.uc_machine.specs.Monitors as monitors
use Rattle.uc_machine.specs.Quiet as quiet
use Rattle.uc_machine.specs.Quiet.{first_state}
use Rattle.uc_machine.specs.Pieces as piece
use Rattle.uc_machine.specs.Pieces.{Value, Todo, State, Members, at, top, number}
use Rattle.uc_machine.specs.Answering.{answered, entered, new_members, with_operand}
use Rattle.uc_homed_ends.specs.Freeing.{FreesLast, IsFreed, CallsFit, FreesMembers, FreesEx, FreesState, FreesStep, FreeingAt, LawFreeing}
use Rattle.uc_homed_ends.proofs.FreeingLists as lists
use Rattle.uc_life_laws.proofs.Cells.{either}
use Rattle.uc_homed_ends.proofs.FreeingKeeping as kept
use Rattle.uc_life_laws.proofs.Parked as parked
use Rattle.uc_homed_ends.proofs.FreeingSteps as steps
use Rattle.uc_homed_ends.proofs.FreeingSteps.{A, C, Ends, Holding}

module _ (source : Source) where
  module _ (s : State) (st : FreesState source s) where
    go : (todo : List Todo) (vs : List Value) → Holding source s st todo → FreesState source (at todo vs s)
    go = steps.go source s st

    go_on : (todo : List Todo) (vs : List Value) → Ends source s st todo → FreesState source (at todo vs s)
    go_on = steps.go_on source s st

    -- what comes next is more than the end of the activation
    busy : (todo : List Todo) → CallsFit source todo × (C source s st ⊎ (FreesLast todo ⊎ ⊥)) → Holding source s st todo
    busy = lists.busy source (C source s st)

    -- behind what frees the object
    freed : (todo : List Todo) → CallsFit source todo × (C source s st ⊎ (FreesLast todo ⊎ (todo ≡ []))) → Ends source s st todo
    freed todo h = (h.0, by h.1)
      where
        by : C source s st ⊎ (FreesLast todo ⊎ (todo ≡ [])) → C source s st ⊎ (FreesLast todo ⊎ IsFreed (A source s st) todo)
        by (inl c) = inl c
        by (inr (inl m)) = inr (inl m)
        by (inr (inr e)) = inr (inr (subst (IsFreed (A source s st)) (sym e) tt))

    -- and what gives it up
    given_up : (todo : List Todo) → CallsFit source todo × (C source s st ⊎ (FreesLast todo ⊎ (A source s st × (todo ≡ piece.Unwind ∷ [])))) → Ends source s st todo
    given_up todo h = (h.0, by h.1)
      where
        by : C source s st ⊎ (FreesLast todo ⊎ (A source s st × (todo ≡ piece.Unwind ∷ []))) → C source s st ⊎ (FreesLast todo ⊎ IsFreed (A source s st) todo)
        by (inl c) = inl c
        by (inr (inl m)) = inr (inl m)
        by (inr (inr e)) = inr (inr (subst (IsFreed (A source s st)) (sym e.1) (e.0, refl)))

    -- who lets go of it is not awaited, or gave it up
    asked : (todo : List Todo) → (FreesLast todo → ⊥) → C source s st ⊎ (FreesLast todo ⊎ (A source s st × (todo ≡ piece.Unwind ∷ []))) → C source s st ⊎ (A source s st × (todo ≡ piece.Unwind ∷ []))
    asked todo n (inl c) = inl c
    asked todo n (inr (inl m)) = absurd (n m)
    asked todo n (inr (inr e)) = inr e

    unawaited : (todo : List Todo) → (FreesLast todo → ⊥) → C source s st ⊎ (FreesLast todo ⊎ ⊥) → C source s st ⊎ (A source s st × (todo ≡ piece.Unwind ∷ []))
    unawaited todo n (inl c) = inl c
    unawaited todo n (inr (inl m)) = absurd (n m)
    unawaited todo n (inr (inr e)) = absurd e

    -- one piece, with what is to do behind it
    acts : (p : Todo) (todo : List Todo) → s.run.control ≡ p ∷ todo → FreeingAt source (p ∷ todo) s → Ends source s st (p ∷ todo) → FreesStep source (quiet.act source p todo s)
    acts (piece.Eval a) todo e o h = steps.eval source s st a todo o (busy todo h)
    acts (piece.ElementNow m k) todo e o h = steps.element source s st k _ todo _ _ (busy todo h)
    acts piece.NegateNow todo e o h = steps.outcome source s st _ todo _ (busy todo h)
    acts (piece.OperateNow op) todo e o h = steps.outcome source s st _ todo _ (busy todo h)
    acts piece.StoreNow todo e o h = steps.go_in source s st _ _ _ (kept.written_keeps source _ _ s.env st.env) (busy todo h)
    acts piece.KeepNow todo e o h = steps.go_in source s st _ _ _ (kept.written_keeps source _ _ s.env st.env) (busy todo h)
    acts (piece.SetNow k) todo e o h = steps.go_in source s st _ _ _ (kept.written_keeps source (piece.variable_at k s) (piece.Number (number (top s.run.operands))) s.env st.env) (busy todo h)
    acts piece.BindNow todo e o h = steps.go_in source s st _ _ _ (kept.written_keeps source _ _ s.env st.env) (busy todo h)
    acts (piece.Arguments src.NoExprs) todo e o h = go _ _ (busy todo h)
    acts (piece.Arguments (src.MoreExprs a es)) todo e o h = go _ _ (busy todo h)
    acts (piece.CallNow r) todo e o h = steps.call source s st (slice_get source.routines r) todo o (busy todo h)
    acts (piece.CallOnNow r) todo e o h = steps.call_on source s st (slice_get source.routines r) todo h.0.0 (busy todo (h.0.1, h.1))
    acts (piece.CallUnwrittenNow r) todo e o h = steps.call_unwritten source s st (slice_get source.routines r) todo h.0.0 (busy todo (h.0.1, h.1))
    acts (piece.CountNow m) todo e o h = record { stack = (lists.runs source (C source s st) _ todo (busy todo h), st.stack.1); env = st.env }
    acts piece.MoreNow todo e o h = record { stack = (lists.runs source (C source s st) _ todo (busy todo h), st.stack.1); env = st.env }
    acts (piece.FillNow m b d) todo e o h = go _ _ (lists.filled source (C source s st) (nat_lt s.run.elements m) m b d todo (busy todo h))
    acts (piece.Again order c step b) todo e o h = go _ _ (either (Holding source s st) (piece.is_zero (number (top s.run.operands))) todo (piece.TurnNow order c step b ∷ todo) (busy todo h) (busy todo h))
    acts (piece.PrintNow form) todo e o h = steps.prints source s st s.env.gathered _ todo _ (busy todo h)
    acts (piece.TextNow k) todo e o h = steps.prints source s st s.env.gathered _ todo _ (busy todo h)
    acts piece.GatherNow todo e o h = steps.go_in source s st _ _ _ (steps.same source s st refl refl refl refl) (busy todo h)
    acts piece.FlushNow todo e o h = steps.flushes source s st s.env.gathered todo _ (busy todo h)
    acts (piece.ClearNow k m) todo e o h = steps.clears source s st k m todo (busy todo h)
    acts (piece.Items []) todo e o h = go _ _ (busy todo h)
    acts (piece.Items (i ∷ is)) todo e o h = go _ _ (lists.item source (C source s st) i (piece.Items is ∷ todo) (busy todo h))
    acts (piece.Values []) todo e o h = go _ _ (busy todo h)
    acts (piece.Values (i ∷ is)) todo e o h = go _ _ (lists.item_value source (C source s st) i (piece.Values is ∷ todo) (busy todo h))
    acts (piece.Pieces []) todo e o h = go _ _ (busy todo h)
    acts (piece.Pieces (i ∷ is)) todo e o h = go _ _ (lists.item_piece source (C source s st) i todo (busy todo h))
    acts (piece.Targets []) todo e o h = go _ _ (busy todo h)
    acts (piece.Targets (x ∷ xs)) todo e o h = go _ _ (busy todo h)
    acts (piece.Variables []) todo e o h = go _ _ (busy todo h)
    acts (piece.Variables (d ∷ ds)) todo e o h = go _ _ (lists.starts source (C source s st) d.cell d.value (piece.Variables ds ∷ todo) (busy todo h))
    acts (piece.Do a) todo e o h = steps.stmt source s st a todo (busy todo h)
    acts (piece.Rest ss) todo e o h = steps.rests source s st ss todo h
    acts (piece.Exit w) todo e o h = steps.exits source s st w todo o (busy todo h)
    acts (piece.InLoop order c step b) todo e o h = go _ _ (lists.stepped source (C source s st) step (quiet.test_todo order c step b todo) (lists.tested source (C source s st) order c step b todo (busy todo h)))
    acts (piece.Clean x) todo e o h = go_on _ _ (lists.cleans source (C source s st) _ x todo h)
    acts (piece.Part x) todo e o h = go _ _ (busy todo h)
    acts (piece.Sweep a) todo e o h = steps.swept source s st s.run.elements a todo (busy todo h)
    acts piece.Unwind todo e o h = steps.unwinds source s st todo o h
    acts piece.ThrowNow todo e o h = steps.throws source s st (raising.event_in s.run.operands) todo (busy todo h)
    acts piece.RaiseNow todo e o h = steps.raises source s st (raising.event_in s.run.operands) todo o (busy todo h)
    acts (piece.SetUpNow r) todo e o h = steps.set_up source s st (slice_get source.routines r) todo (busy todo h)
    acts piece.EnlivenNow todo e o h = steps.go_in source s st _ _ _ (kept.enlivened_keeps source (piece.own_exec s) s.env st.env) (busy todo h)
    acts piece.TakeDownNow todo e o h = steps.moved source s st _ todo _ (busy todo h) (kept.take_down_rests source (piece.own_exec s) (at todo s.run.operands s) (busy todo h, st.stack.1) (go _ _ (busy todo h)))
    acts piece.ForgetNow todo e o h = steps.go_in source s st _ _ _ (kept.forgotten_keeps source (piece.own_exec s) s.env st.env) (busy todo h)
    acts (piece.LiveNow r) todo e o h = steps.live source s st (slice_get source.routines r) todo (busy todo h)
    acts piece.ResumeNow todo e o h = steps.moved source s st _ (piece.Land ∷ todo) _ (busy todo h) (kept.wake_rests source (quiet.resumed s) (at (piece.Land ∷ todo) s.run.operands s) (busy todo h, st.stack.1) (go _ _ (busy todo h)))
    acts piece.SuspendNow todo e o h = steps.moved source s st _ (piece.Land ∷ todo) _ (busy todo h) (kept.suspend_rests source (at (piece.Land ∷ todo) s.run.operands s) (busy todo h, st.stack.1) (go _ _ (busy todo h)))
    acts piece.Land todo e o h = steps.land source s st s.run.raised todo (busy todo h)
    acts (piece.EnterNow m r) todo e o h = steps.enter source s st m (slice_get source.routines r) todo (busy todo h)
    acts piece.LeaveNow todo e o h = steps.leave source s st _ (monitors.this_object s) todo (busy todo h)
    acts (piece.MakeNow k r) todo e o h = steps.make source s st k r (slice_get source.routines r) todo (busy todo h)
    acts (piece.BindMadeNow k r) todo e o h = steps.bind source s st (slice_get source.routines r) todo (busy todo h)
    acts piece.MadeNow todo e o h = steps.unless source s st (monitors.this_object s) _ todo (freed todo h) (steps.go_on_in source s st _ _ _ (steps.same source s st refl refl refl refl) (freed todo h), tt)
    acts (piece.SpawnNow r) todo e o h = steps.unless source s st (monitors.this_object s) _ (piece.ChildNow r ∷ todo) h (steps.go_on_in source s st _ _ _ (steps.same source s st refl refl refl refl) h, tt)
    acts piece.GoneNow todo e o h = (steps.go_in source s st _ _ _ (steps.same source s st refl refl refl refl) (busy todo h), unawaited todo o h.1)
    acts piece.GiveUpNow todo e o h = (steps.go_on_in source s st _ _ _ (steps.same source s st refl refl refl refl) (given_up todo h), asked todo o h.1)
    acts (piece.ConditionNow k m) todo e o h = steps.condition source s st k _ todo (busy todo h)
    acts piece.WaitNow todo e o h = steps.unless source s st (monitors.this_object s) _ todo (lists.runs source (C source s st) _ todo (busy todo h)) (go _ _ (busy todo h), tt)
    acts piece.SignalBlockNow todo e o h = steps.unless source s st (monitors.this_object s) _ todo (lists.runs source (C source s st) _ todo (busy todo h)) (go _ _ (busy todo h), tt)
    acts (piece.Guards src.NoClauses) todo e o h = go _ _ (busy todo h)
    acts (piece.Guards (src.Otherwise b)) todo e o h = go _ _ (busy todo h)
    acts (piece.Guards (src.MoreClauses guard b cs)) todo e o h = go _ _ (busy todo h)
    acts (piece.AcceptNow site m) todo e o h = steps.accept_by source s st (monitors.mask_of (take_operands piece.Nothing m s.run.operands [])) (monitors.this_object s) site todo (drop m s.run.operands) (busy todo h)
    acts piece.FailedNow todo e o h = steps.failed source s st _ todo _ (busy todo h)
    acts (piece.ChooseNow cs) todo e o h = go _ _ (lists.branch source (C source s st) _ cs todo (busy todo h))
    acts piece.RaiseAtNow todo e o h = steps.raise_at source s st _ _ todo _ (busy todo h)
    acts (piece.EnableNow events cell) todo e o h = steps.enables source s st _ cell todo (busy todo h)
    acts (piece.DisableNow events cell) todo e o h = steps.enables source s st _ cell todo (busy todo h)
    acts (piece.RestoreNow cell) todo e o h = steps.go_in source s st _ _ _ (steps.same source s st refl refl refl refl) (busy todo h)
    acts piece.PollNow todo e o h = steps.poll source s st todo (busy todo h)
    acts piece.DeliverNow todo e o h = steps.deliver source s st _ todo (busy todo h)
    acts (piece.ChildNow r) todo e o h = go_on _ _ (freed todo h)
    acts piece.Finish todo e o h = steps.unless source s st s.env.own _ todo (lists.runs source (C source s st) _ todo (busy todo h)) (steps.returned source s st _ s.callers st.stack.1)
    acts piece.FinishCoroutine todo e o h = steps.moved source s st _ todo _ (busy todo h) (kept.finish_rests source (at todo s.run.operands s) (busy todo h, st.stack.1) (go _ _ (busy todo h)))
    acts (piece.ReadNow form) todo e o h = (go _ _ (busy todo h), tt)
    acts piece.NoReturnNow todo e o h = (go _ _ (busy todo h), tt)
    acts piece.ClusterNow todo e o h = (go _ _ (busy todo h), tt)
    acts piece.ProcessorNow todo e o h = (go _ _ (busy todo h), tt)
    acts piece.ClusterEndNow todo e o h = (go _ _ (busy todo h), tt)
    acts piece.ProcessorEndNow todo e o h = (go _ _ (busy todo h), tt)
    acts piece.SignalNow todo e o h = (go _ _ (busy todo h), tt)
    acts piece.EmptyNow todo e o h = (go _ _ (busy todo h), tt)
    acts piece.FrontNow todo e o h = (go _ _ (busy todo h), tt)
    acts piece.YieldNow todo e o h = (go _ _ (busy todo h), tt)
    acts piece.MigrateNow todo e o h = (go _ _ (busy todo h), tt)
    acts p todo e o h = go _ _ (busy todo h)

    pub walk : FreeingAt source s.run.control s → FreesStep source (quiet.quiet source s)
    walk o = by s.run.control refl
      where
        by : (l : List Todo) → s.run.control ≡ l → FreesStep source (quiet.act_todo source l s)
        by [] e = steps.returned source s st _ s.callers st.stack.1
        by (p ∷ todo) e = acts p todo e (subst (λ l. FreeingAt source l s) e o) (subst (Ends source s st) e st.stack.0)

  begins : (r o : ℕ) → FreesState source (first_state (routine_of source r) o)
  begins r o = record { stack = ((lists.routine_calls source (routine_of source r), inl tt), tt); env = record { house = (tt, tt); hand = tt } }

  new_there : (h : ℕ) (todo : List Todo) → FreesMembers source (home.Object h) (new_members source todo)
  new_there h [] = tt
  new_there h (piece.BindMadeNow c r ∷ todo) = tt
  new_there h (p ∷ todo) = tt

  -- with other operands
  with_operands : (s : State) (vs : List Value) → FreesState source s → FreesState source (record s { run = record s.run { operands = vs } })
  with_operands s vs h = record { stack = (h.stack.0, h.stack.1); env = h.env }

  entered_there : (m : Option Members) (o : ℕ) (s : State) → FreesMembers source (home.Object o) m → FreesState source s → FreesState source (with_operand (piece.Object o) (entered m o s))
  entered_there None o s k h = with_operands s _ h
  entered_there (Some m) o s k h = record { stack = (h.stack.0, h.stack.1); env = record { house = h.env.house; hand = parked.more_hand (FreesEx source) s.env.hand o m k h.env.hand } }

  pub answered_there : (given : Answer) (s : State) → FreesState source s → FreesState source (answered source given s)
  answered_there (answer.Object o) s h = entered_there (new_members source s.run.control) o s (new_there o s.run.control) h
  answered_there (answer.Number n) s h = with_operands s _ h
  answered_there (answer.Value n failed) s h = with_operands s _ h
  answered_there (answer.Clause k failed) s h = with_operands s _ h
  answered_there (answer.Event n x y) s h = with_operands s _ h
  answered_there answer.Nothing s h = with_operands s _ h
  answered_there answer.Go s h = h

pub law_freeing : LawFreeing
law_freeing = record {
  begins = λ source r o. begins source r o;
  steps = λ source s h f. walk source s h f;
  told = λ source given s h. answered_there source given s h;
}

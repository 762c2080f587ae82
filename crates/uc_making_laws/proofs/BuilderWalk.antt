-- Every quiet step of a task in which an execution is to let go of an object, and answers to it.
use Rattle.std.proofs.Common.{◌≡◌, ℕ, ◌⊎◌, inl, inr, ◌∙◌, Bool, true, false, List, [], ◌∷◌, Option, Some, None, refl, sym, ap, subst}
use Rattle.std.specs.Prelude.{slice_get, drop, nat_lt}
use Rattle.uc_tree.specs.Source as src
use Rattle.uc_tree.specs.Source.{Routine, Source}
use Rattle.uc_tree.specs.declared.limits.TheConstants.{CALLS}
use Rattle.uc_entry.specs.declared.fault.RunFault.TheVariants.{Depth}
use Rattle.uc_entry.specs.declared.request.Answer.{Answer}
use Rattle.uc_entry.specs.declared.request.Answer.TheVariants as answer
use Rattle.uc_machine.specs.declared.exec.Exec.{Exec}
use Rattle.uc_machine.specs.declared.exec.Home.TheVariants as home
use Rattle.uc_machine.specs.Executions.{take_operands}
use Rattle.uc_machine.specs.Raising as raising
use Rattle.uc_machine.specs.Monitors as monitors
use Rattle.uc_machine.specs.Quiet as quiet
use Rattle.uc_machine.specs.Pieces as piece
use Rattle.uc_machine.specs.Pieces.{Value, Object, Todo, Active, State, Members, at, top, number, object_in}
use Rattle.uc_machine.specs.Answering.{answered, entered, new_members, with_operand}
use Rattle.uc_life_laws.specs.LifeStates.{EnvBy}
use Rattle.uc_life_laws.proofs.Cells.{either}
use Rattle.uc_life_laws.proofs.Parked as parked
use Rattle.uc_making_laws.specs.NoOthers.{NoThis}
use Rattle.uc_making_laws.specs.Builders.{Building, lets_built, opens_built, Lets, BuildsEx, BuildsMembers, BuildsState, BuildsStep, BuildingAt, LawBuilders}
use Rattle.uc_making_laws.proofs.BuilderLists as lists
use Rattle.uc_making_laws.proofs.BuilderKeeping as kept
use Rattle.uc_making_laws.proofs.BuilderSteps as steps
use Rattle.uc_making_laws.proofs.BuilderSteps.{N, C, O, Ends, Holding}

module _ (every : Bool) (thing : ℕ) (name : Exec) where
  module _ (source : Source) (s : State) (st : BuildsState every thing name s) where
    go : (todo : List Todo) (vs : List Value) → Holding every thing name s st todo → BuildsState every thing name (at todo vs s)
    go = steps.go every thing name s st

    go_on : (todo : List Todo) (vs : List Value) → Ends every thing name s st todo → BuildsState every thing name (at todo vs s)
    go_on = steps.go_on every thing name s st

    -- what comes first does not let go of the object
    busy : (todo : List Todo) → (N every thing name s st → C every thing name s st ⊎ (O every thing name s st × ((lets_built every todo ≡ true) ⊎ (false ≡ true)))) → Holding every thing name s st todo
    busy = lists.busy every (N every thing name s st) (C every thing name s st) (O every thing name s st)

    -- it lets go of another object than this
    others : (monitors.this_object s ≡ thing → ⊥) → (todo b : List Todo) → Ends every thing name s st b → Holding every thing name s st todo
    others f todo b h = lists.others every (N every thing name s st) (C every thing name s st) (O every thing name s st) (monitors.this_object s ≡ thing) (λ o. ap object_in o) f todo b h

    no_made : ((monitors.this_object s ≡ thing) × (every ≡ true) → ⊥) → (todo : List Todo) → Ends every thing name s st (piece.MadeNow ∷ todo) → Holding every thing name s st todo
    no_made f todo h = lists.no_made every (N every thing name s st) (C every thing name s st) (O every thing name s st) (monitors.this_object s ≡ thing) (λ o. ap object_in o) f todo h

    -- at the end of a main nothing does
    ended : (todo : List Todo) → lets_built every todo ≡ false → Holding every thing name s st todo → N every thing name s st → C every thing name s st
    ended todo e h = λ n. by (h n)
      where
        by : C every thing name s st ⊎ (O every thing name s st × (lets_built every todo ≡ true)) → C every thing name s st
        by (inl c) = c
        by (inr m) = let x = sym e ∙ m.1 in absurd (cc)

    -- one piece, with what is to do behind it
    acts : (p : Todo) (todo : List Todo) → s.run.control ≡ p ∷ todo → BuildingAt every thing name (p ∷ todo) s → Ends every thing name s st (p ∷ todo) → BuildsStep every thing name (quiet.act source p todo s)
    acts (piece.Eval a) todo e o h = steps.eval every thing name s st a todo (busy todo h)
    acts (piece.ElementNow m k) todo e o h = steps.element every thing name s st k _ todo _ _ (busy todo h)
    acts piece.NegateNow todo e o h = steps.outcome every thing name s st _ todo _ (busy todo h)
    acts (piece.OperateNow op) todo e o h = steps.outcome every thing name s st _ todo _ (busy todo h)
    acts piece.StoreNow todo e o h = steps.go_in every thing name s st _ _ _ (kept.written_keeps every thing name _ _ s.env st.env) (busy todo h)
    acts piece.KeepNow todo e o h = steps.go_in every thing name s st _ _ _ (kept.written_keeps every thing name _ _ s.env st.env) (busy todo h)
    acts (piece.SetNow k) todo e o h = steps.go_in every thing name s st _ _ _ (kept.written_keeps every thing name (piece.variable_at k s) (piece.Number (number (top s.run.operands))) s.env st.env) (busy todo h)
    acts piece.BindNow todo e o h = steps.go_in every thing name s st _ _ _ (kept.written_keeps every thing name _ _ s.env st.env) (busy todo h)
    acts (piece.Arguments src.NoExprs) todo e o h = go _ _ (busy todo h)
    acts (piece.Arguments (src.MoreExprs a es)) todo e o h = go _ _ (busy todo h)
    acts (piece.CallNow r) todo e o h = steps.call every thing name s st (slice_get source.routines r) todo (busy todo h)
    acts (piece.CallOnNow r) todo e o h = steps.call_on every thing name s st (slice_get source.routines r) todo (busy todo h)
    acts (piece.CallUnwrittenNow r) todo e o h = steps.call_unwritten every thing name s st (slice_get source.routines r) todo (busy todo h)
    acts (piece.CountNow m) todo e o h = record { stack = lists.runs every (N every thing name s st) (C every thing name s st) (O every thing name s st) todo (busy todo h); env = st.env }
    acts piece.MoreNow todo e o h = record { stack = lists.runs every (N every thing name s st) (C every thing name s st) (O every thing name s st) todo (busy todo h); env = st.env }
    acts (piece.FillNow m b d) todo e o h = go _ _ (lists.filled every (N every thing name s st) (C every thing name s st) (O every thing name s st) (nat_lt s.run.elements m) m b d todo (busy todo h))
    acts (piece.Again order c step b) todo e o h = go _ _ (either (Holding every thing name s st) (piece.is_zero (number (top s.run.operands))) todo (piece.TurnNow order c step b ∷ todo) (busy todo h) (busy todo h))
    acts (piece.PrintNow form) todo e o h = steps.prints every thing name s st s.env.gathered _ todo _ (busy todo h)
    acts (piece.TextNow k) todo e o h = steps.prints every thing name s st s.env.gathered _ todo _ (busy todo h)
    acts piece.GatherNow todo e o h = steps.go_in every thing name s st _ _ _ (steps.same every thing name s st refl refl refl refl) (busy todo h)
    acts piece.FlushNow todo e o h = steps.flushes every thing name s st s.env.gathered todo _ (busy todo h)
    acts (piece.ClearNow k m) todo e o h = steps.clears every thing name s st k m todo (busy todo h)
    acts (piece.Items []) todo e o h = go _ _ (busy todo h)
    acts (piece.Items (i ∷ is)) todo e o h = go _ _ (lists.item every (N every thing name s st) (C every thing name s st) (O every thing name s st) i (piece.Items is ∷ todo) (busy todo h))
    acts (piece.Values []) todo e o h = go _ _ (busy todo h)
    acts (piece.Values (i ∷ is)) todo e o h = go _ _ (lists.item_value every (N every thing name s st) (C every thing name s st) (O every thing name s st) i (piece.Values is ∷ todo) (busy todo h))
    acts (piece.Pieces []) todo e o h = go _ _ (busy todo h)
    acts (piece.Pieces (i ∷ is)) todo e o h = go _ _ (lists.item_piece every (N every thing name s st) (C every thing name s st) (O every thing name s st) i todo (busy todo h))
    acts (piece.Targets []) todo e o h = go _ _ (busy todo h)
    acts (piece.Targets (x ∷ xs)) todo e o h = go _ _ (busy todo h)
    acts (piece.Variables []) todo e o h = go _ _ (busy todo h)
    acts (piece.Variables (d ∷ ds)) todo e o h = go _ _ (lists.starts every (N every thing name s st) (C every thing name s st) (O every thing name s st) d.cell d.value (piece.Variables ds ∷ todo) (busy todo h))
    acts (piece.Do a) todo e o h = steps.stmt every thing name s st a todo (busy todo h)
    acts (piece.Rest ss) todo e o h = steps.rests every thing name s st ss todo h
    acts (piece.Exit w) todo e o h = steps.exits every thing name s st w todo (busy todo h)
    acts (piece.InLoop order c step b) todo e o h = go _ _ (lists.stepped every (N every thing name s st) (C every thing name s st) (O every thing name s st) step (quiet.test_todo order c step b todo) (lists.tested every (N every thing name s st) (C every thing name s st) (O every thing name s st) order c step b todo (busy todo h)))
    acts (piece.Clean x) todo e o h = go_on _ _ (lists.cleans every (N every thing name s st) (C every thing name s st) (O every thing name s st) x todo (busy (piece.Clean x ∷ todo) h))
    acts (piece.Part x) todo e o h = go _ _ (busy todo h)
    acts (piece.Sweep a) todo e o h = steps.swept every thing name s st s.run.elements a todo (busy todo h)
    acts piece.Unwind todo e o h = steps.unwinds every thing name s st todo (busy todo h)
    acts piece.ThrowNow todo e o h = steps.throws every thing name s st (raising.event_in s.run.operands) todo (busy todo h)
    acts piece.RaiseNow todo e o h = steps.raises every thing name s st (raising.event_in s.run.operands) todo (busy todo h)
    acts (piece.SetUpNow r) todo e o h = steps.set_up every thing name s st (slice_get source.routines r) todo o (busy todo h)
    acts piece.EnlivenNow todo e o h = steps.go_in every thing name s st _ _ _ (kept.enlivened_keeps every thing name (piece.own_exec s) s.env st.env) (busy todo h)
    acts piece.TakeDownNow todo e o h = steps.moved every thing name s st _ todo _ (lists.runs every (N every thing name s st) (C every thing name s st) (O every thing name s st) todo (busy todo h)) (kept.take_down_rests every thing name (piece.own_exec s) (at todo s.run.operands s) (go _ _ (busy todo h)))
    acts piece.ForgetNow todo e o h = steps.go_in every thing name s st _ _ _ (kept.forgotten_keeps every thing name (piece.own_exec s) s.env st.env) (busy todo h)
    acts (piece.LiveNow r) todo e o h = steps.live every thing name s st (slice_get source.routines r) todo (busy todo h)
    acts piece.ResumeNow todo e o h = steps.moved every thing name s st _ (piece.Land ∷ todo) _ (lists.runs every (N every thing name s st) (C every thing name s st) (O every thing name s st) (piece.Land ∷ todo) (busy todo h)) (kept.wake_rests every thing name (quiet.resumed s) (at (piece.Land ∷ todo) s.run.operands s) (go _ _ (busy todo h)))
    acts piece.SuspendNow todo e o h = steps.moved every thing name s st _ (piece.Land ∷ todo) _ (lists.runs every (N every thing name s st) (C every thing name s st) (O every thing name s st) (piece.Land ∷ todo) (busy todo h)) (kept.suspend_rests every thing name (at (piece.Land ∷ todo) s.run.operands s) (go _ _ (busy todo h)))
    acts piece.Land todo e o h = steps.land every thing name s st s.run.raised todo (busy todo h)
    acts (piece.EnterNow m r) todo e o h = steps.enter every thing name s st m (slice_get source.routines r) todo (busy todo h)
    acts piece.LeaveNow todo e o h = steps.leave every thing name s st _ (monitors.this_object s) todo (busy todo h)
    acts (piece.MakeNow k r) todo e o h = steps.make every thing name s st k r (slice_get source.routines r) todo (busy todo h)
    acts (piece.BindMadeNow k r) todo e o h = steps.bind every thing name s st (slice_get source.routines r) todo (busy todo h)
    acts piece.MadeNow todo e o h = steps.unless every thing name s st (monitors.this_object s) _ todo (λ x. steps.go_in every thing name s st _ _ _ (steps.same every thing name s st refl refl refl refl) (no_made x todo h))
    acts (piece.SpawnNow r) todo e o h = steps.unless every thing name s st (monitors.this_object s) _ (piece.ChildNow r ∷ todo) (λ x. steps.go_in every thing name s st _ _ _ (steps.same every thing name s st refl refl refl refl) (others x (piece.ChildNow r ∷ todo) (piece.SpawnNow r ∷ todo) h))
    acts piece.GoneNow todo e o h = λ x. steps.go_in every thing name s st _ _ _ (steps.same every thing name s st refl refl refl refl) (others x todo (piece.GoneNow ∷ todo) h)
    acts piece.GiveUpNow todo e o h = λ x. steps.go_in every thing name s st _ _ _ (steps.same every thing name s st refl refl refl refl) (others x todo (piece.GiveUpNow ∷ todo) h)
    acts (piece.ConditionNow k m) todo e o h = steps.condition every thing name s st k _ todo (busy todo h)
    acts piece.WaitNow todo e o h = steps.unless every thing name s st (monitors.this_object s) _ todo (λ x. go _ _ (busy todo h))
    acts piece.SignalBlockNow todo e o h = steps.unless every thing name s st (monitors.this_object s) _ todo (λ x. go _ _ (busy todo h))
    acts (piece.Guards src.NoClauses) todo e o h = go _ _ (busy todo h)
    acts (piece.Guards (src.Otherwise b)) todo e o h = go _ _ (busy todo h)
    acts (piece.Guards (src.MoreClauses guard b cs)) todo e o h = go _ _ (busy todo h)
    acts (piece.AcceptNow site m) todo e o h = steps.accept_by every thing name s st (monitors.mask_of (take_operands piece.Nothing m s.run.operands [])) (monitors.this_object s) site todo (drop m s.run.operands) (busy todo h)
    acts piece.FailedNow todo e o h = steps.failed every thing name s st _ todo _ (busy todo h)
    acts (piece.ChooseNow cs) todo e o h = go _ _ (lists.branch every (N every thing name s st) (C every thing name s st) (O every thing name s st) _ cs todo (busy todo h))
    acts piece.RaiseAtNow todo e o h = steps.raise_at every thing name s st _ _ todo _ (busy todo h)
    acts (piece.EnableNow events cell) todo e o h = steps.enables every thing name s st _ cell todo (busy todo h)
    acts (piece.DisableNow events cell) todo e o h = steps.enables every thing name s st _ cell todo (busy todo h)
    acts (piece.RestoreNow cell) todo e o h = steps.go_in every thing name s st _ _ _ (steps.same every thing name s st refl refl refl refl) (busy todo h)
    acts piece.PollNow todo e o h = steps.poll every thing name s st todo (busy todo h)
    acts piece.DeliverNow todo e o h = steps.deliver every thing name s st _ todo (busy todo h)
    acts (piece.Within line) todo e o h = go _ _ (busy todo h)
    acts (piece.ChildNow r) todo e o h = go _ _ (busy todo h)
    acts piece.Finish todo e o h = steps.unless every thing name s st s.env.own _ todo (steps.returned every thing name s st _ s.callers (ended todo o (busy todo h)))
    acts piece.FinishCoroutine todo e o h = steps.moved every thing name s st _ todo _ (lists.runs every (N every thing name s st) (C every thing name s st) (O every thing name s st) todo (busy todo h)) (kept.finish_rests every thing name (at todo s.run.operands s) (go _ _ (busy todo h)))
    acts (piece.ReadNow form) todo e o h = λ x. go _ _ (busy todo h)
    acts piece.NoReturnNow todo e o h = λ x. go _ _ (busy todo h)
    acts piece.ClusterNow todo e o h = λ x. go _ _ (busy todo h)
    acts piece.ProcessorNow todo e o h = λ x. go _ _ (busy todo h)
    acts piece.ClusterEndNow todo e o h = λ x. go _ _ (busy todo h)
    acts piece.ProcessorEndNow todo e o h = λ x. go _ _ (busy todo h)
    acts piece.SignalNow todo e o h = λ x. go _ _ (busy todo h)
    acts piece.EmptyNow todo e o h = λ x. go _ _ (busy todo h)
    acts piece.FrontNow todo e o h = λ x. go _ _ (busy todo h)
    acts piece.YieldNow todo e o h = λ x. go _ _ (busy todo h)
    acts piece.MigrateNow todo e o h = λ x. go _ _ (busy todo h)
    acts p todo e o h = go _ _ (busy todo h)

    pub walk : BuildingAt every thing name s.run.control s → BuildsStep every thing name (quiet.quiet source s)
    walk o = by s.run.control refl
      where
        by : (l : List Todo) → s.run.control ≡ l → BuildsStep every thing name (quiet.act_todo source l s)
        by [] e = steps.returned every thing name s st _ s.callers (steps.none_left every thing name s st (subst (Ends every thing name s st) e st.stack))
        by (p ∷ todo) e = acts p todo e (subst (λ l. BuildingAt every thing name l s) e o) (subst (Ends every thing name s st) e st.stack)

  -- it begins with the call
  called : (source : Source) (s : State) (k : ℕ) (todo : List Todo) (x : Routine) → slice_get source.routines k ≡ Some x → opens_built every x.body ≡ true → top (drop x.params s.run.operands) ≡ Object thing → EnvBy (BuildsEx every thing name) s.env → BuildsStep every thing name (quiet.act source (piece.CallOnNow k) todo s)
  called source s k todo x e b v h =
      subst (λ r. BuildsStep every thing name (quiet.call_on_step r todo s)) (sym e) (either (BuildsStep every thing name) (nat_lt s.env.links.calls CALLS) _ (quiet.fault Depth todo s.run.operands s) (record { stack = λ n. inr (v, inr b); env = kept.like every thing name h refl refl refl }) (λ y. absurd (y tt)))

  pub begins : (source : Source) (s : State) (k : ℕ) (todo : List Todo) (x : Routine) → s.run.control ≡ piece.CallOnNow k ∷ todo → slice_get source.routines k ≡ Some x → opens_built every x.body ≡ true → top (drop x.params s.run.operands) ≡ Object thing → EnvBy (BuildsEx every thing name) s.env → BuildsStep every thing name (quiet.quiet source s)
  begins source s k todo x z e b v h = subst (λ l. BuildsStep every thing name (quiet.act_todo source l s)) (sym z) (called source s k todo x e b v h)

  new_there : (source : Source) (h : ℕ) (todo : List Todo) → BuildsMembers every thing name (home.Object h) (new_members source todo)
  new_there source h [] = tt
  new_there source h (piece.BindMadeNow c r ∷ todo) = tt
  new_there source h (p ∷ todo) = tt

  -- with other operands
  with_operands : (s : State) (vs : List Value) → BuildsState every thing name s → BuildsState every thing name (record s { run = record s.run { operands = vs } })
  with_operands s vs h = record { stack = h.stack; env = h.env }

  entered_there : (m : Option Members) (o : ℕ) (s : State) → BuildsMembers every thing name (home.Object o) m → BuildsState every thing name s → BuildsState every thing name (with_operand (piece.Object o) (entered m o s))
  entered_there None o s k h = with_operands s _ h
  entered_there (Some m) o s k h = record { stack = h.stack; env = record { house = h.env.house; hand = parked.more_hand (BuildsEx every thing name) s.env.hand o m k h.env.hand } }

  pub answered_there : (source : Source) (given : Answer) (s : State) → BuildsState every thing name s → BuildsState every thing name (answered source given s)
  answered_there source (answer.Object o) s h = entered_there (new_members source s.run.control) o s (new_there source o s.run.control) h
  answered_there source (answer.Number n) s h = with_operands s _ h
  answered_there source (answer.Value n failed) s h = with_operands s _ h
  answered_there source (answer.Clause k failed) s h = with_operands s _ h
  answered_there source (answer.Event n x y) s h = with_operands s _ h
  answered_there source answer.Nothing s h = with_operands s _ h
  answered_there source answer.Go s h = h

  -- an activation of it is of the object
  is_of : (cs : List Active) → Building every cs thing → NoThis thing cs → ⊥
  is_of [] b h = b
  is_of (a ∷ cs) (inl b) h = h.0 b.0
  is_of (a ∷ cs) (inr b) h = is_of cs b h.1

  pub someone : (s : State) → BuildsState every thing name s → s.env.exec ≡ name → NoThis thing (s.run ∷ s.callers) → ⊥
  someone s st e h = by (st.stack e)
    where
      by : Building every s.callers thing ⊎ ((s.run.this ≡ Object thing) × Lets every s.run.control) → ⊥
      by (inl b) = is_of s.callers b h.1
      by (inr b) = h.0 b.0

pub law_builders : LawBuilders
law_builders = record {
  steps = λ every o m source s h f. walk every o m source s h f;
  begins = λ every o m source s k todo x z e b v h. begins every o m source s k todo x z e b v h;
  told = λ every o m source given s h. answered_there every o m source given s h;
  some = λ every o m s h e f. someone every o m s h e f;
}

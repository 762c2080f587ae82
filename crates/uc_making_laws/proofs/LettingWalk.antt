-- Every quiet step of a task whose activations are told of their objects, and answers to it.
use Rattle.std.proofs.Common.{◌≡◌, ℕ, ◌⊎◌, inl, inr, true, List, [], ◌∷◌, Option, Some, None, refl, subst, arith}
use Rattle.std.specs.Prelude.{slice_get, drop, nat_lt}
use Rattle.uc_tree.specs.Source as src
use Rattle.uc_tree.specs.Source.{Source, Stmts, Routine, routine_of}
use Rattle.uc_entry.specs.declared.request.Answer.{Answer}
use Rattle.uc_entry.specs.declared.request.Answer.TheVariants as answer
use Rattle.uc_machine.specs.declared.exec.Home.TheVariants as home
use Rattle.uc_machine.specs.Executions.{take_operands}
use Rattle.uc_machine.specs.Raising as raising
use Rattle.uc_machine.specs.Monitors as monitors
use Rattle.uc_machine.specs.Quiet as quiet
use Rattle.uc_machine.specs.Quiet.{first_state}
use Rattle.uc_machine.specs.Pieces as piece
use Rattle.uc_machine.specs.Pieces.{Value, Todo, State, Members, at, top, number}
use Rattle.uc_machine.specs.Answering.{answered, entered, new_members, with_operand}
use Rattle.uc_typing.specs.Typing.{Table}
use Rattle.uc_life_laws.specs.Things.{Few}
use Rattle.uc_life_laws.specs.Knowing.{main_of}
use Rattle.uc_depth_laws.specs.Owing.{owed_waiting}
use Rattle.uc_apart_laws.specs.Clear.{IsNoHome}
use Rattle.uc_life_laws.specs.Things.{Things}
use Rattle.uc_machine.specs.Pieces.{Active}
use Rattle.uc_making_laws.specs.NoOthers.{NoThis}
use Rattle.uc_making_laws.specs.LettingGo.{is_letting, SilentBehind, IsTold, Told, LetsMembers, LetsEx, LetsStack, LetsState, LetsStep, LettingAt, LawLetting}
use Rattle.uc_making_laws.proofs.LettingLists as lists
use Rattle.uc_life_laws.proofs.Cells.{either}
use Rattle.uc_making_laws.proofs.LettingKeeping as kept
use Rattle.uc_machine.specs.declared.exec.Exec.{Exec}
use Rattle.uc_life_laws.proofs.Parked as parked
use Rattle.uc_apart_laws.proofs.Clear.{home_more}
use Rattle.uc_making_laws.proofs.LettingSteps as steps
use Rattle.uc_making_laws.proofs.LettingSteps.{C, Ends, Holding}

module _ (t : Table) (few : Few) where
  module _ (source : Source) (s : State) (st : LetsState t few s) where
    go : (todo : List Todo) (vs : List Value) → Holding t few s st todo → LetsState t few (at todo vs s)
    go = steps.go t few s st

    go_on : (todo : List Todo) (vs : List Value) → Ends t few s st todo → LetsState t few (at todo vs s)
    go_on = steps.go_on t few s st

    -- what comes next is more than the end of the activation
    busy : (todo : List Todo) → SilentBehind todo × (C t few s st ⊎ ((is_letting todo ≡ true) ⊎ ⊥)) → Holding t few s st todo
    busy = lists.busy (C t few s st)

    -- one piece less
    past : (p : Todo) (todo : List Todo) → Ends t few s st (p ∷ todo) → Ends t few s st todo
    past = lists.past (C t few s st)

    -- one piece, with what is to do behind it
    acts : (p : Todo) (todo : List Todo) → s.run.control ≡ p ∷ todo → LettingAt t few source (p ∷ todo) s → Ends t few s st (p ∷ todo) → LetsStep t few (quiet.act source p todo s)
    acts (piece.Eval a) todo e o h = steps.eval t few s st a todo (busy todo h)
    acts (piece.ElementNow m k) todo e o h = steps.element t few s st k _ todo _ _ (busy todo h)
    acts piece.NegateNow todo e o h = steps.outcome t few s st _ todo _ (busy todo h)
    acts (piece.OperateNow op) todo e o h = steps.outcome t few s st _ todo _ (busy todo h)
    acts piece.StoreNow todo e o h = steps.go_in t few s st _ _ _ (kept.written_keeps t few _ _ s.env st.env) (busy todo h)
    acts piece.KeepNow todo e o h = steps.go_in t few s st _ _ _ (kept.written_keeps t few _ _ s.env st.env) (busy todo h)
    acts (piece.SetNow k) todo e o h = steps.go_in t few s st _ _ _ (kept.written_keeps t few (piece.variable_at k s) (piece.Number (number (top s.run.operands))) s.env st.env) (busy todo h)
    acts piece.BindNow todo e o h = steps.go_in t few s st _ _ _ (kept.written_keeps t few _ _ s.env st.env) (busy todo h)
    acts (piece.Arguments src.NoExprs) todo e o h = go _ _ (busy todo h)
    acts (piece.Arguments (src.MoreExprs a es)) todo e o h = go _ _ (busy todo h)
    acts (piece.CallNow r) todo e o h = steps.call t few s st (slice_get source.routines r) todo (busy todo h)
    acts (piece.CallOnNow r) todo e o h = steps.call_on t few s st (slice_get source.routines r) todo o (busy todo h)
    acts (piece.CallUnwrittenNow r) todo e o h = steps.call_unwritten t few s st (slice_get source.routines r) todo o (busy todo h)
    acts (piece.CountNow m) todo e o h = record { stack = (lists.runs (C t few s st) todo (busy todo h), st.stack.1); env = st.env }
    acts piece.MoreNow todo e o h = record { stack = (lists.runs (C t few s st) todo (busy todo h), st.stack.1); env = st.env }
    acts (piece.FillNow m b d) todo e o h = go _ _ (lists.filled (C t few s st) (nat_lt s.run.elements m) m b d todo (busy todo h))
    acts (piece.Again order c step b) todo e o h = go _ _ (either (Holding t few s st) (piece.is_zero (number (top s.run.operands))) todo (piece.TurnNow order c step b ∷ todo) (busy todo h) (busy todo h))
    acts (piece.PrintNow form) todo e o h = steps.prints t few s st s.env.gathered _ todo _ (busy todo h)
    acts (piece.TextNow k) todo e o h = steps.prints t few s st s.env.gathered _ todo _ (busy todo h)
    acts piece.GatherNow todo e o h = steps.go_in t few s st _ _ _ (steps.same t few s st refl refl refl refl) (busy todo h)
    acts piece.FlushNow todo e o h = steps.flushes t few s st s.env.gathered todo _ (busy todo h)
    acts (piece.ClearNow k m) todo e o h = steps.clears t few s st k m todo (busy todo h)
    acts (piece.Items []) todo e o h = go _ _ (busy todo h)
    acts (piece.Items (i ∷ is)) todo e o h = go _ _ (lists.item (C t few s st) i (piece.Items is ∷ todo) (busy todo h))
    acts (piece.Values []) todo e o h = go _ _ (busy todo h)
    acts (piece.Values (i ∷ is)) todo e o h = go _ _ (lists.item_value (C t few s st) i (piece.Values is ∷ todo) (busy todo h))
    acts (piece.Pieces []) todo e o h = go _ _ (busy todo h)
    acts (piece.Pieces (i ∷ is)) todo e o h = go _ _ (lists.item_piece (C t few s st) i todo (busy todo h))
    acts (piece.Targets []) todo e o h = go _ _ (busy todo h)
    acts (piece.Targets (x ∷ xs)) todo e o h = go _ _ (busy todo h)
    acts (piece.Variables []) todo e o h = go _ _ (busy todo h)
    acts (piece.Variables (d ∷ ds)) todo e o h = go _ _ (lists.starts (C t few s st) d.cell d.value (piece.Variables ds ∷ todo) (busy todo h))
    acts (piece.Do a) todo e o h = steps.stmt t few s st a todo o (busy todo h)
    acts (piece.Rest ss) todo e o h = steps.rests t few s st ss todo o h
    acts (piece.Exit w) todo e o h = steps.exits t few s st w todo h
    acts (piece.InLoop order c step b) todo e o h = go _ _ (lists.stepped (C t few s st) step (quiet.test_todo order c step b todo) (lists.tested (C t few s st) order c step b todo (busy todo h)))
    acts (piece.Clean x) todo e o h = go_on _ _ (lists.cleans (C t few s st) x todo h)
    acts (piece.Part x) todo e o h = go _ _ (busy todo h)
    acts (piece.Sweep a) todo e o h = steps.swept t few s st s.run.elements a todo (busy todo h)
    acts piece.Unwind todo e o h = steps.unwinds t few s st todo o h
    acts piece.ThrowNow todo e o h = steps.throws t few s st (raising.event_in s.run.operands) todo (busy todo h)
    acts piece.RaiseNow todo e o h = steps.raises t few s st (raising.event_in s.run.operands) todo o (busy todo h)
    acts (piece.SetUpNow r) todo e o h = steps.set_up t few s st (slice_get source.routines r) todo o (busy todo h)
    acts piece.EnlivenNow todo e o h = steps.go_in t few s st _ _ _ (kept.enlivened_keeps t few (piece.own_exec s) s.env st.env) (busy todo h)
    acts piece.TakeDownNow todo e o h = steps.moved t few s st _ todo _ (lists.runs (C t few s st) todo (busy todo h)) (kept.take_down_rests t few (piece.own_exec s) (at todo s.run.operands s) (go _ _ (busy todo h)))
    acts piece.ForgetNow todo e o h = steps.go_in t few s st _ _ _ (kept.forgotten_keeps t few (piece.own_exec s) s.env st.env) (busy todo h)
    acts (piece.LiveNow r) todo e o h = steps.live t few s st (slice_get source.routines r) todo (busy todo h)
    acts piece.ResumeNow todo e o h = steps.moved t few s st _ (piece.Land ∷ todo) _ (lists.runs (C t few s st) (piece.Land ∷ todo) (busy todo h)) (kept.wake_rests t few (quiet.resumed s) (at (piece.Land ∷ todo) s.run.operands s) (go _ _ (busy todo h)))
    acts piece.SuspendNow todo e o h = steps.moved t few s st _ (piece.Land ∷ todo) _ (lists.runs (C t few s st) (piece.Land ∷ todo) (busy todo h)) (kept.suspend_rests t few (at (piece.Land ∷ todo) s.run.operands s) (go _ _ (busy todo h)))
    acts piece.Land todo e o h = steps.land t few s st s.run.raised todo (busy todo h)
    acts (piece.EnterNow m r) todo e o h = steps.enter t few s st m (slice_get source.routines r) todo (busy todo h)
    acts piece.LeaveNow todo e o h = steps.leave t few s st _ (monitors.this_object s) todo (busy todo h)
    acts (piece.MakeNow k r) todo e o h = steps.make t few s st k r (slice_get source.routines r) todo (busy todo h)
    acts (piece.BindMadeNow k r) todo e o h = steps.bind t few s st (slice_get source.routines r) todo (busy todo h)
    acts piece.MadeNow todo e o h = steps.unless t few s st (monitors.this_object s) _ todo (past piece.MadeNow todo h) (steps.go_on_in t few s st _ _ _ (steps.same t few s st refl refl refl refl) (past piece.MadeNow todo h), tt)
    acts (piece.SpawnNow r) todo e o h = steps.unless t few s st (monitors.this_object s) _ (piece.ChildNow r ∷ todo) (past (piece.SpawnNow r) todo h) (steps.go_on_in t few s st _ _ _ (steps.same t few s st refl refl refl refl) (past (piece.SpawnNow r) todo h), o)
    acts piece.GoneNow todo e o h = (steps.go_on_in t few s st _ _ _ (steps.same t few s st refl refl refl refl) (past piece.GoneNow todo h), h.0)
    acts piece.GiveUpNow todo e o h = (steps.go_on_in t few s st _ _ _ (steps.same t few s st refl refl refl refl) (past piece.GiveUpNow todo h), h.0)
    acts (piece.ConditionNow k m) todo e o h = steps.condition t few s st k _ todo (busy todo h)
    acts piece.WaitNow todo e o h = steps.unless t few s st (monitors.this_object s) _ todo (lists.runs (C t few s st) todo (busy todo h)) (go _ _ (busy todo h), tt)
    acts piece.SignalBlockNow todo e o h = steps.unless t few s st (monitors.this_object s) _ todo (lists.runs (C t few s st) todo (busy todo h)) (go _ _ (busy todo h), tt)
    acts (piece.Guards src.NoClauses) todo e o h = go _ _ (busy todo h)
    acts (piece.Guards (src.Otherwise b)) todo e o h = go _ _ (busy todo h)
    acts (piece.Guards (src.MoreClauses guard b cs)) todo e o h = go _ _ (busy todo h)
    acts (piece.AcceptNow site m) todo e o h = steps.accept_by t few s st (monitors.mask_of (take_operands piece.Nothing m s.run.operands [])) (monitors.this_object s) site todo (drop m s.run.operands) (busy todo h)
    acts piece.FailedNow todo e o h = steps.failed t few s st _ todo _ (busy todo h)
    acts (piece.ChooseNow cs) todo e o h = go _ _ (lists.branch (C t few s st) _ cs todo (busy todo h))
    acts piece.RaiseAtNow todo e o h = steps.raise_at t few s st _ _ todo _ (busy todo h)
    acts (piece.EnableNow events cell) todo e o h = steps.enables t few s st _ cell todo (busy todo h)
    acts (piece.DisableNow events cell) todo e o h = steps.enables t few s st _ cell todo (busy todo h)
    acts (piece.RestoreNow cell) todo e o h = steps.go_in t few s st _ _ _ (steps.same t few s st refl refl refl refl) (busy todo h)
    acts piece.PollNow todo e o h = steps.poll t few s st todo (busy todo h)
    acts piece.DeliverNow todo e o h = steps.deliver t few s st _ todo (busy todo h)
    acts (piece.Within line) todo e o h = go_on _ _ h
    acts (piece.ChildNow r) todo e o h = go_on _ _ h
    acts piece.Finish todo e o h = steps.unless t few s st s.env.own _ todo h (steps.returned t few s st _ s.callers st.stack.1)
    acts piece.FinishCoroutine todo e o h = steps.moved t few s st _ todo _ h (kept.finish_rests t few (at todo s.run.operands s) (go_on _ _ h))
    acts (piece.ReadNow form) todo e o h = (go _ _ (busy todo h), tt)
    acts piece.NoReturnNow todo e o h = (go_on _ _ h, tt)
    acts piece.ClusterNow todo e o h = (go _ _ (busy todo h), tt)
    acts piece.ProcessorNow todo e o h = (go _ _ (busy todo h), tt)
    acts piece.ClusterEndNow todo e o h = (go _ _ (busy todo h), tt)
    acts piece.ProcessorEndNow todo e o h = (go _ _ (busy todo h), tt)
    acts piece.SignalNow todo e o h = (go _ _ (busy todo h), tt)
    acts piece.EmptyNow todo e o h = (go _ _ (busy todo h), tt)
    acts piece.FrontNow todo e o h = (go _ _ (busy todo h), tt)
    acts piece.YieldNow todo e o h = (go _ _ (busy todo h), tt)
    acts piece.MigrateNow todo e o h = (go _ _ (busy todo h), tt)
    acts p todo e o h = go _ _ (busy todo h)

    pub walk : LettingAt t few source s.run.control s → LetsStep t few (quiet.quiet source s)
    walk o = by s.run.control refl
      where
        by : (l : List Todo) → s.run.control ≡ l → LetsStep t few (quiet.act_todo source l s)
        by [] e = steps.returned t few s st _ s.callers st.stack.1
        by (p ∷ todo) e = acts p todo e (subst (λ l. LettingAt t few source l s) e o) (subst (Ends t few s st) e st.stack.0)

  pub begins : (source : Source) (r o : ℕ) → IsTold t few (main_of o) [] o → LetsState t few (first_state (routine_of source r) o)
  begins source r o h = record { stack = ((lists.routine_behind (routine_of source r), inl h), tt); env = record { house = (tt, tt); hand = tt } }

  new_there : (source : Source) (h : ℕ) (todo : List Todo) → LetsMembers t few (home.Object h) (new_members source todo)
  new_there source h [] = tt
  new_there source h (piece.BindMadeNow c r ∷ todo) = tt
  new_there source h (p ∷ todo) = tt

  -- with other operands
  with_operands : (s : State) (vs : List Value) → LetsState t few s → LetsState t few (record s { run = record s.run { operands = vs } })
  with_operands s vs h = record { stack = (h.stack.0, h.stack.1); env = h.env }

  entered_there : (m : Option Members) (o : ℕ) (s : State) → LetsMembers t few (home.Object o) m → LetsState t few s → LetsState t few (with_operand (piece.Object o) (entered m o s))
  entered_there None o s k h = with_operands s _ h
  entered_there (Some m) o s k h = record { stack = (h.stack.0, h.stack.1); env = record { house = h.env.house; hand = parked.more_hand (LetsEx t few) s.env.hand o m k h.env.hand } }

  pub answered_there : (source : Source) (given : Answer) (s : State) → LetsState t few s → LetsState t few (answered source given s)
  answered_there source (answer.Object o) s h = entered_there (new_members source s.run.control) o s (new_there source o s.run.control) h
  answered_there source (answer.Number n) s h = with_operands s _ h
  answered_there source (answer.Value n failed) s h = with_operands s _ h
  answered_there source (answer.Clause k failed) s h = with_operands s _ h
  answered_there source (answer.Event n x y) s h = with_operands s _ h
  answered_there source answer.Nothing s h = with_operands s _ h
  answered_there source answer.Go s h = h

  -- where nobody else is told of the object, and none that waits is to let go of it
  module _ (o : ℕ) (n : Exec) (zero : o ≡ 0 → ⊥) where
    none_one : (a : Active) (older : List Active) → Told t few n (a ∷ older) a.this → IsNoHome t few o (Things t few n (a ∷ older)) → owed_waiting o (a ∷ older) ≡ 0 → a.this ≡ piece.Object o → ⊥
    none_one a older h f k e = by (subst (Told t few n (a ∷ older)) e h)
      where
        by : IsTold t few n (a ∷ older) o → ⊥
        by (inl z) = zero z.0
        by (inr (inl x)) = f x.0 x.1
        by (inr (inr l)) = omega (arith, k, l)

    none : (cs : List Active) → LetsStack t few n cs → IsNoHome t few o (Things t few n cs) → owed_waiting o cs ≡ 0 → NoThis o cs
    none [] h f k = tt
    none (a ∷ older) h f k =
        let g : IsNoHome t few o (Things t few n older) = λ c x. f c (home_more t few o (Things t few n older) (Things t few n (a ∷ older)) (λ w d y. inr y) c x) in
        (none_one a older (steps.here t few n a older h.0) f k, none older h.1 g (omega (arith, k)))

pub law_letting : LawLetting
law_letting = record {
  begins = λ t few source r o h. begins t few source r o h;
  steps = λ t few source s h m. walk t few source s h m;
  told = λ t few source given s h. answered_there t few source given s h;
  none = λ t few o n cs h zero f k. none t few o n zero cs h f k;
}

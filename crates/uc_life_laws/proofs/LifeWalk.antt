-- Every quiet step of a task in which what is in scope holds what is known, and answers to it.
use Rattle.std.proofs.Common.{◌≡◌, ℕ, ◌⊎◌, inl, inr, List, [], ◌∷◌, Option, Some, None, refl, subst, arith}
use Rattle.std.specs.Prelude.{nat_lt, slice_get, drop}
use Rattle.uc_tree.specs.Source as src
use Rattle.uc_tree.specs.Source.{Source, Stmts, Routine, routine_of}
use Rattle.uc_entry.specs.declared.request.Answer.{Answer}
use Rattle.uc_entry.specs.declared.request.Answer.TheVariants as answer
use Rattle.uc_machine.specs.declared.exec.Home.TheVariants as home
use Rattle.uc_machine.specs.Executions.{take_operands}
use Rattle.uc_machine.specs.Raising as raising
use Rattle.uc_machine.specs.Monitors as monitors
use Rattle.uc_machine.specs.Quiet as quiet
use Rattle.uc_machine.specs.Quiet.{first_state}
use Rattle.uc_machine.specs.Pieces as piece
use Rattle.uc_machine.specs.Pieces.{Value, Todo, State, Members, at, top, number}
use Rattle.uc_machine.specs.Answering.{answered, entered, new_members, with_operand}
use Rattle.uc_typing.specs.Typing.{Table}
use Rattle.uc_life_laws.specs.LifeStates.{BehindMark, OutwardsOnly, LifeStateBy, LifeStepBy, LifeMembers, LifeEx, LifeState, LifeStep, OpensAtBy, OpensBy, ClearsAt, Opens, Clears}
use Rattle.uc_life_laws.specs.Kinds.{GoesOn}
use Rattle.uc_life_laws.specs.LifeLaws.{LawSteps}
use Rattle.uc_life_laws.proofs.Cells.{either}
use Rattle.uc_life_laws.proofs.LifeKeeping as kept
use Rattle.uc_life_laws.proofs.Parked as parked
use Rattle.uc_life_laws.proofs.LifeSteps as steps
use Rattle.uc_life_laws.proofs.LifeSteps.{Holding}
use Rattle.uc_life_laws.proofs.LifeKeeping.{IsParkedKept}
use Rattle.uc_life_laws.proofs.Parked.{Ex}
use Rattle.uc_life_laws.proofs.GoingOn.{goes_or}
use Rattle.uc_machine.specs.declared.exec.Exec.{Exec}
use Rattle.uc_life_laws.specs.Things.{Few}

module _ (t : Table) (few : Few) (K : BehindMark) (P : Exec → Ex → Type 0) (rests : IsParkedKept P) (source : Source) (s : State) (st : LifeStateBy t few K P s) where
  go : (todo : List Todo) (vs : List Value) → Holding t few K P rests s st todo → LifeStateBy t few K P (at todo vs s)
  go = steps.go t few K P rests s st

  -- the statements that are left of a block
  block : (ss : Stmts) (todo : List Todo) → OpensAtBy t few K (piece.Rest ss ∷ todo) s → Holding t few K P rests s st todo → LifeStepBy t few K P (quiet.rest_step ss todo s)
  block src.Nil todo f h = go _ _ h
  block (src.Then a ss) todo f h = go _ _ h
  block (src.Scoped c ss) todo f h = go _ _ (f, h)
  block (src.Built c ss) todo f h = go _ _ h

  -- one piece, with what is to do behind it
  acts : (p : Todo) (todo : List Todo) → s.run.control ≡ p ∷ todo → OpensAtBy t few K (p ∷ todo) s → ClearsAt t (p ∷ todo) s → GoesOn (p ∷ todo) s.run.raised → Holding t few K P rests s st (p ∷ todo) → LifeStepBy t few K P (quiet.act source p todo s)
  acts (piece.Eval a) todo e o f calm h = steps.eval t few K P rests s st a todo h
  acts (piece.ElementNow m k) todo e o f calm h = steps.element t few K P rests s st k _ todo _ _ h
  acts piece.NegateNow todo e o f calm h = steps.outcome t few K P rests s st _ todo _ h
  acts (piece.OperateNow op) todo e o f calm h = steps.outcome t few K P rests s st _ todo _ h
  acts piece.StoreNow todo e o f calm h = steps.go_in t few K P rests s st _ _ _ (kept.written_keeps t few K P rests _ _ s.env st.env) h
  acts piece.KeepNow todo e o f calm h = steps.go_in t few K P rests s st _ _ _ (kept.written_keeps t few K P rests _ _ s.env st.env) h
  acts (piece.SetNow k) todo e o f calm h = steps.go_in t few K P rests s st _ _ _ (kept.written_keeps t few K P rests (piece.variable_at k s) (piece.Number (number (top s.run.operands))) s.env st.env) h
  acts piece.BindNow todo e o f calm h = steps.go_in t few K P rests s st _ _ _ (kept.written_keeps t few K P rests _ _ s.env st.env) h
  acts (piece.Arguments src.NoExprs) todo e o f calm h = go _ _ h
  acts (piece.Arguments (src.MoreExprs a es)) todo e o f calm h = go _ _ h
  acts (piece.CallNow r) todo e o f calm h = steps.call t few K P rests s st (slice_get source.routines r) todo h
  acts (piece.CallOnNow r) todo e o f calm h = steps.call_on t few K P rests s st (slice_get source.routines r) todo h
  acts (piece.CallUnwrittenNow r) todo e o f calm h = steps.call_unwritten t few K P rests s st (slice_get source.routines r) todo h
  acts (piece.CountNow m) todo e o f calm h = record { frames = st.frames; stack = (st.stack.0, h, st.stack.2); env = st.env }
  acts piece.MoreNow todo e o f calm h = record { frames = st.frames; stack = (st.stack.0, h, st.stack.2); env = st.env }
  acts (piece.FillNow m b d) todo e o f calm h = go _ _ (steps.filled t few K s.env.exec _ s.run.frame s.run.this s.callers (nat_lt s.run.elements m) m b d todo h)
  acts (piece.Again order c step b) todo e o f calm h = go _ _ (either (Holding t few K P rests s st) (piece.is_zero (number (top s.run.operands))) todo (piece.TurnNow order c step b ∷ todo) h h)
  acts (piece.PrintNow form) todo e o f calm h = steps.prints t few K P rests s st s.env.gathered _ todo _ h
  acts (piece.TextNow k) todo e o f calm h = steps.prints t few K P rests s st s.env.gathered _ todo _ h
  acts piece.GatherNow todo e o f calm h = steps.go_in t few K P rests s st _ _ _ (steps.same t few K P rests s st refl refl refl refl refl) h
  acts piece.FlushNow todo e o f calm h = steps.flushes t few K P rests s st s.env.gathered todo _ h
  acts (piece.ClearNow k m) todo e o f calm h = steps.clears t few K P rests s st k m todo e f h
  acts (piece.Items []) todo e o f calm h = go _ _ h
  acts (piece.Items (i ∷ is)) todo e o f calm h = go _ _ (steps.item t few K s.env.exec _ s.run.frame s.run.this s.callers i (piece.Items is ∷ todo) h)
  acts (piece.Values []) todo e o f calm h = go _ _ h
  acts (piece.Values (i ∷ is)) todo e o f calm h = go _ _ (steps.item_value t few K s.env.exec _ s.run.frame s.run.this s.callers i (piece.Values is ∷ todo) h)
  acts (piece.Pieces []) todo e o f calm h = go _ _ h
  acts (piece.Pieces (i ∷ is)) todo e o f calm h = go _ _ (steps.item_piece t few K s.env.exec _ s.run.frame s.run.this s.callers i todo h)
  acts (piece.Targets []) todo e o f calm h = go _ _ h
  acts (piece.Targets (x ∷ xs)) todo e o f calm h = go _ _ h
  acts (piece.Variables []) todo e o f calm h = go _ _ h
  acts (piece.Variables (d ∷ ds)) todo e o f calm h = go _ _ (steps.starts t few K s.env.exec _ s.run.frame s.run.this s.callers d.cell d.value (piece.Variables ds ∷ todo) h)
  acts (piece.Do a) todo e o f calm h = steps.stmt t few K P rests s st a todo h
  acts (piece.Rest ss) todo e o f calm h = block ss todo o h
  acts (piece.Exit w) todo e o f calm h = steps.exits t few K P rests s st w todo h
  acts (piece.InLoop order c step b) todo e o f calm h = go _ _ (steps.stepped t few K s.env.exec _ s.run.frame s.run.this s.callers step _ (steps.tested t few K s.env.exec _ s.run.frame s.run.this s.callers order c step b todo h))
  acts (piece.Clean x) todo e o f calm h = go _ _ (steps.cleans t few K s.env.exec _ s.run.frame s.run.this s.callers x todo h.1)
  acts (piece.Sweep a) todo e o f calm h = steps.swept t few K P rests s st s.run.elements a todo h
  acts piece.Unwind todo e o f calm h = steps.unwinds t few K P rests s st todo calm h
  acts piece.ThrowNow todo e o f calm h = steps.throws t few K P rests s st (raising.event_in s.run.operands) todo h
  acts piece.RaiseNow todo e o f calm h = steps.raises t few K P rests s st (raising.event_in s.run.operands) todo h
  acts (piece.SetUpNow r) todo e o f calm h = steps.set_up t few K P rests s st (slice_get source.routines r) todo h
  acts piece.EnlivenNow todo e o f calm h = steps.go_in t few K P rests s st _ _ _ (kept.enlivened_keeps t few K P rests (piece.own_exec s) s.env st.env) h
  acts piece.TakeDownNow todo e o f calm h = absurd calm
  acts piece.ForgetNow todo e o f calm h = steps.go_in t few K P rests s st _ _ _ (kept.forgotten_keeps t few K P rests (piece.own_exec s) s.env st.env) h
  acts (piece.LiveNow r) todo e o f calm h = steps.live t few K P rests s st (slice_get source.routines r) todo h
  acts piece.ResumeNow todo e o f calm h = absurd calm
  acts piece.SuspendNow todo e o f calm h = absurd calm
  acts piece.Land todo e o f calm h = steps.land t few K P rests s st s.run.raised todo h
  acts (piece.EnterNow m r) todo e o f calm h = steps.enter t few K P rests s st m (slice_get source.routines r) todo h
  acts piece.LeaveNow todo e o f calm h = steps.leave t few K P rests s st _ (monitors.this_object s) todo h
  acts (piece.MakeNow k r) todo e o f calm h = steps.make t few K P rests s st k r (slice_get source.routines r) todo h
  acts (piece.BindMadeNow k r) todo e o f calm h = steps.bind t few K P rests s st (slice_get source.routines r) todo h
  acts piece.MadeNow todo e o f calm h = steps.unless t few K P rests s st (monitors.this_object s) _ todo h (steps.go_in t few K P rests s st _ _ _ (steps.same t few K P rests s st refl refl refl refl refl) h)
  acts (piece.SpawnNow r) todo e o f calm h = steps.unless t few K P rests s st (monitors.this_object s) _ (piece.ChildNow r ∷ todo) h (steps.go_in t few K P rests s st _ _ _ (steps.same t few K P rests s st refl refl refl refl refl) h)
  acts piece.GoneNow todo e o f calm h = steps.go_in t few K P rests s st _ _ _ (steps.same t few K P rests s st refl refl refl refl refl) h
  acts piece.GiveUpNow todo e o f calm h = steps.go_in t few K P rests s st _ _ _ (steps.same t few K P rests s st refl refl refl refl refl) h
  acts (piece.ConditionNow k m) todo e o f calm h = steps.condition t few K P rests s st k _ todo h
  acts piece.WaitNow todo e o f calm h = steps.unless t few K P rests s st (monitors.this_object s) _ todo h (go _ _ h)
  acts piece.SignalBlockNow todo e o f calm h = steps.unless t few K P rests s st (monitors.this_object s) _ todo h (go _ _ h)
  acts (piece.Guards src.NoClauses) todo e o f calm h = go _ _ h
  acts (piece.Guards (src.Otherwise b)) todo e o f calm h = go _ _ h
  acts (piece.Guards (src.MoreClauses guard b cs)) todo e o f calm h = go _ _ h
  acts (piece.AcceptNow site m) todo e o f calm h = steps.accept_by t few K P rests s st (monitors.mask_of (take_operands piece.Nothing m s.run.operands [])) (monitors.this_object s) site todo (drop m s.run.operands) h
  acts piece.FailedNow todo e o f calm h = steps.failed t few K P rests s st _ todo _ h
  acts (piece.ChooseNow cs) todo e o f calm h = go _ _ (steps.branch t few K s.env.exec _ s.run.frame s.run.this s.callers _ cs todo h)
  acts piece.RaiseAtNow todo e o f calm h = steps.raise_at t few K P rests s st _ _ todo _ h
  acts (piece.EnableNow events cell) todo e o f calm h = steps.enables t few K P rests s st _ cell todo h
  acts (piece.DisableNow events cell) todo e o f calm h = steps.enables t few K P rests s st _ cell todo h
  acts (piece.RestoreNow cell) todo e o f calm h = steps.go_in t few K P rests s st _ _ _ (steps.same t few K P rests s st refl refl refl refl refl) h
  acts piece.PollNow todo e o f calm h = steps.poll t few K P rests s st todo h
  acts piece.DeliverNow todo e o f calm h = steps.deliver t few K P rests s st _ todo h
  acts piece.Finish todo e o f calm h = steps.unless t few K P rests s st s.env.own _ todo h (steps.returned t few K P rests s st _ s.callers st.frames st.stack.2)
  acts piece.FinishCoroutine todo e o f calm h = absurd calm
  acts p todo e o f calm h = go _ _ h

  pub walk : OpensBy t few K s → Clears t s → GoesOn s.run.control s.run.raised → LifeStepBy t few K P (quiet.quiet source s)
  walk o f calm = by s.run.control refl
    where
      by : (l : List Todo) → s.run.control ≡ l → LifeStepBy t few K P (quiet.act_todo source l s)
      by [] e = steps.returned t few K P rests s st _ s.callers st.frames st.stack.2
      by (p ∷ todo) e =
          acts p todo e (subst (λ l. OpensAtBy t few K l s) e o) (subst (λ l. ClearsAt t l s) e f) (subst (λ l. GoesOn l s.run.raised) e calm) (subst (Holding t few K P rests s st) e st.stack.1)

module _ (t : Table) (few : Few) where
  steps_on : (source : Source) (s : State) → LifeState t few s → Opens t few s → Clears t s → LifeStep t few (quiet.quiet source s)
  steps_on source s st o f = by (goes_or s.run.control s.run.raised)
    where
      by : GoesOn s.run.control s.run.raised ⊎ (GoesOn s.run.control s.run.raised → ⊥) → LifeStep t few (quiet.quiet source s)
      by (inl calm) = walk t few OutwardsOnly (LifeEx t few) (steps.life_kept t few OutwardsOnly) source s st o f calm
      by (inr other) = steps.stops t few s st source s.run.control other st.stack.1

  begins : (source : Source) (r o : ℕ) → LifeState t few (first_state (routine_of source r) o)
  begins source r o = record {
    frames = refl;
    stack = (omega arith, steps.routine t few OutwardsOnly (record { home = home.Task o; serial = 0 }) _ 0 (piece.Object o) [] (routine_of source r), tt);
    env = record { house = (tt, tt); hand = tt };
  }

  new_there : (source : Source) (h : ℕ) (todo : List Todo) → LifeMembers t few (home.Object h) (new_members source todo)
  new_there source h [] = tt
  new_there source h (piece.BindMadeNow c r ∷ todo) = tt
  new_there source h (p ∷ todo) = tt

  -- with other operands
  with_operands : (s : State) (vs : List Value) → LifeState t few s → LifeState t few (record s { run = record s.run { operands = vs } })
  with_operands s vs h = record { frames = h.frames; stack = (h.stack.0, h.stack.1, h.stack.2); env = h.env }

  entered_there : (m : Option Members) (o : ℕ) (s : State) → LifeMembers t few (home.Object o) m → LifeState t few s → LifeState t few (with_operand (piece.Object o) (entered m o s))
  entered_there None o s k h = with_operands s _ h
  entered_there (Some m) o s k h = record { frames = h.frames; stack = (h.stack.0, h.stack.1, h.stack.2); env = record { house = h.env.house; hand = parked.more_hand (LifeEx t few) s.env.hand o m k h.env.hand } }

  pub answered_there : (source : Source) (given : Answer) (s : State) → LifeState t few s → LifeState t few (answered source given s)
  answered_there source (answer.Object o) s h = entered_there (new_members source s.run.control) o s (new_there source o s.run.control) h
  answered_there source (answer.Number n) s h = with_operands s _ h
  answered_there source (answer.Value n failed) s h = with_operands s _ h
  answered_there source (answer.Clause k failed) s h = with_operands s _ h
  answered_there source (answer.Event n x y) s h = with_operands s _ h
  answered_there source answer.Nothing s h = with_operands s _ h
  answered_there source answer.Go s h = h

pub law_steps : LawSteps
law_steps = record {
  begins = λ t few source r o. begins t few source r o;
  steps = λ t few source s h o c. steps_on t few source s h o c;
  told = λ t few source given s h. answered_there t few source given s h;
}

-- Every quiet step of a task in which returns of handlers are over where they are to be leads to one, and so does each answer; so nothing that is built is
-- left by such a return.
use Rattle.std.proofs.Common.{◌≡◌, ℕ, Bool, true, false, List, [], ◌∷◌, length, drop, Option, Some, None, refl, subst, ap}
use Rattle.std.specs.Prelude.{nat_lt, slice_get}
use Rattle.std.proofs.lemmas.Bool.{eqb-true}
use Rattle.uc_tree.specs.Source as src
use Rattle.uc_tree.specs.Source.{CleanUp, Source, routine_of}
use Rattle.uc_entry.specs.declared.request.Answer.{Answer}
use Rattle.uc_entry.specs.declared.request.Answer.TheVariants as answer
use Rattle.uc_machine.specs.declared.exec.Home.TheVariants as home
use Rattle.uc_machine.specs.declared.exec.UnwindReason.{UnwindReason}
use Rattle.uc_machine.specs.declared.exec.UnwindReason.TheVariants as reason
use Rattle.uc_machine.specs.Executions.{take_operands, values_cleared}
use Rattle.uc_machine.specs.Raising as raising
use Rattle.uc_machine.specs.Monitors as monitors
use Rattle.uc_machine.specs.Quiet as quiet
use Rattle.uc_machine.specs.Quiet.{first_state}
use Rattle.uc_machine.specs.Pieces as piece
use Rattle.uc_machine.specs.Pieces.{Value, Todo, State, Members, at, top, number}
use Rattle.uc_machine.specs.Answering.{answered, entered, new_members, with_operand}
use Rattle.uc_life_laws.proofs.Cells.{either}
use Rattle.uc_life_laws.proofs.Parked as parked
use Rattle.uc_parts_laws.specs.Parts.{IsOrderly}
use Rattle.uc_parts_laws.specs.PartStates.{Setting, IsTaken, PartsState}
use Rattle.uc_parts_laws.specs.Returning.{HasBegun, HasBegunBehind, Unwinds, ReturnsEx, ReturnsMembers, ReturnsState, ReturnsStep, PassesAt, Passes, LawReturns}
use Rattle.uc_parts_laws.proofs.ReturnKeeping as kept
use Rattle.uc_parts_laws.proofs.ReturnLists as lists
use Rattle.uc_parts_laws.proofs.ReturnSteps as steps
use Rattle.uc_parts_laws.proofs.ReturnSteps.{Over, Holding}

module _ (g : Setting) (s : State) (st : ReturnsState s) (parts : PartsState g s) where
  go : (todo : List Todo) (vs : List Value) → Holding s st todo → ReturnsState (at todo vs s)
  go = steps.go s st

  abbrev Ok : List Todo → Type 0
  Ok todo = IsOrderly g.special (IsTaken g s.env.exec s.callers s.run.frame s.run.this) s.run.elements todo

  -- what is told of what is to do, the first piece of which may still be to open what it builds
  abbrev Has : List Todo → Type 0
  Has todo = HasBegunBehind todo × (Over s st → Unwinds todo)

  -- what is done while no return to the activation unwinds it
  quietly : (todo : List Todo) (vs : List Value) → HasBegun todo → (Over s st → ⊥) → ReturnsState (at todo vs s)
  quietly todo vs b n = go todo vs (steps.calm (Over s st) todo b n)

  -- one piece, with what is to do behind it
  acts : (p : Todo) (todo : List Todo) → s.run.control ≡ p ∷ todo → Ok (p ∷ todo) → Has (p ∷ todo) → ReturnsStep (quiet.act g.source p todo s)
  acts (piece.Eval a) todo e o h = steps.eval s st a todo h
  acts (piece.ElementNow m k) todo e o h = steps.element s st k _ todo _ _ h
  acts piece.NegateNow todo e o h = steps.outcome s st _ todo _ h
  acts (piece.OperateNow op) todo e o h = steps.outcome s st _ todo _ h
  acts piece.StoreNow todo e o h = steps.go_in s st _ _ _ (kept.written_rests _ _ s.env st.env) h
  acts piece.KeepNow todo e o h = steps.go_in s st _ _ _ (kept.written_rests _ _ s.env st.env) h
  acts (piece.SetNow k) todo e o h = steps.go_in s st _ _ _ (kept.written_rests (piece.variable_at k s) (piece.Number (number (top s.run.operands))) s.env st.env) h
  acts piece.BindNow todo e o h = steps.go_in s st _ _ _ (kept.written_rests _ _ s.env st.env) h
  acts (piece.Branch a b) todo e o h = quietly _ _ h.0 h.1
  acts (piece.TurnNow order c step b) todo e o h = quietly _ _ h.0 h.1
  acts (piece.Arguments src.NoExprs) todo e o h = go _ _ h
  acts (piece.Arguments (src.MoreExprs a es)) todo e o h = go _ _ h
  acts (piece.CallNow r) todo e o h = steps.call s st (slice_get g.source.routines r) todo h
  acts (piece.CallOnNow r) todo e o h = steps.call_on s st (slice_get g.source.routines r) todo h
  acts (piece.CallUnwrittenNow r) todo e o h = steps.call_unwritten s st (slice_get g.source.routines r) todo h
  acts (piece.CountNow m) todo e o h = record { begun = lists.begun_behind todo h.0; run = record { handles = st.run.handles; passes = st.run.passes; own = h.1 }; callers = st.callers; env = st.env }
  acts piece.MoreNow todo e o h = record { begun = lists.begun_behind todo h.0; run = record { handles = st.run.handles; passes = st.run.passes; own = h.1 }; callers = st.callers; env = st.env }
  acts (piece.FillNow m b d) todo e o h = quietly _ _ (steps.filled (nat_lt s.run.elements m) m b d todo h.0) h.1
  acts (piece.Again order c step b) todo e o h = quietly _ _ (either HasBegun (piece.is_zero (number (top s.run.operands))) todo (piece.TurnNow order c step b ∷ todo) h.0 h.0) h.1
  acts (piece.PrintNow form) todo e o h = steps.prints s st s.env.gathered _ todo _ h
  acts (piece.TextNow k) todo e o h = steps.prints s st s.env.gathered _ todo _ h
  acts piece.GatherNow todo e o h = steps.go_in s st _ _ _ (steps.same s st refl refl refl) h
  acts piece.FlushNow todo e o h = steps.flushes s st s.env.gathered todo _ h
  acts (piece.ClearNow k m) todo e o h = steps.go_in s st _ _ _ (kept.owned_rests (piece.this_frame s) (values_cleared k m piece.nought) s.env st.env) h
  acts (piece.Items []) todo e o h = go _ _ h
  acts (piece.Items (i ∷ is)) todo e o h = go _ _ (steps.item (Over s st) i (piece.Items is ∷ todo) h)
  acts (piece.Values []) todo e o h = go _ _ h
  acts (piece.Values (i ∷ is)) todo e o h = go _ _ (steps.item_value (Over s st) i (piece.Values is ∷ todo) h)
  acts (piece.Pieces []) todo e o h = go _ _ h
  acts (piece.Pieces (i ∷ is)) todo e o h = go _ _ (steps.item_piece (Over s st) i todo h)
  acts (piece.Targets []) todo e o h = go _ _ h
  acts (piece.Targets (x ∷ xs)) todo e o h = go _ _ h
  acts (piece.Variables []) todo e o h = go _ _ h
  acts (piece.Variables (d ∷ ds)) todo e o h = go _ _ (steps.starts (Over s st) d.cell d.value (piece.Variables ds ∷ todo) h)
  acts (piece.Do a) todo e o h = steps.stmt s st h.1 a todo (lists.body_of g.special (IsTaken g s.env.exec s.callers s.run.frame s.run.this) s.run.elements a todo o) h.0
  acts (piece.Rest ss) todo e o h = steps.rest_of s st h.1 g.special (IsTaken g s.env.exec s.callers s.run.frame s.run.this) s.run.elements ss todo o h.0
  acts (piece.Exit w) todo e o h = steps.exits s st h.1 w todo h.0
  acts (piece.InLoop order c step b) todo e o h = quietly _ _ (steps.turned order c step b todo h.0) h.1
  acts piece.InWhole todo e o h = quietly _ _ h.0 h.1
  acts (piece.Clean x) todo e o h = go _ _ (steps.cleans (Over s st) x todo (steps.calm (Over s st) todo h.0 h.1))
  acts (piece.Sweep a) todo e o h = steps.swept s st s.run.elements a todo h
  acts (piece.Part c) todo e o h = quietly _ _ h.0 h.1
  acts (piece.Guard hs) todo e o h = quietly _ _ h.0 h.1
  acts piece.Unwind todo e o h = steps.unwinds s st g.special (IsTaken g s.env.exec s.callers s.run.frame s.run.this) s.run.elements todo o h.0 h.1
  acts piece.ThrowNow todo e o h = steps.throws s st (raising.event_in s.run.operands) todo h.0
  acts piece.RaiseNow todo e o h = steps.raises s st g (raising.event_in s.run.operands) todo (o, parts.callers) h
  acts (piece.SetUpNow r) todo e o h = steps.set_up s st (slice_get g.source.routines r) todo h
  acts piece.EnlivenNow todo e o h = steps.go_in s st _ _ _ (kept.enlivened_rests (piece.own_exec s) s.env st.env) h
  acts piece.TakeDownNow todo e o h = steps.moved s st _ todo _ h (kept.take_down_rests (piece.own_exec s) (at todo s.run.operands s) (go _ _ h))
  acts piece.ForgetNow todo e o h = steps.go_in s st _ _ _ (kept.forgotten_rests (piece.own_exec s) s.env st.env) h
  acts (piece.LiveNow r) todo e o h = steps.live s st (slice_get g.source.routines r) todo h
  acts piece.ResumeNow todo e o h = steps.moved s st _ (piece.Land ∷ todo) _ h (kept.wake_rests (quiet.resumed s) (at (piece.Land ∷ todo) s.run.operands s) (go _ _ h))
  acts piece.SuspendNow todo e o h = steps.moved s st _ (piece.Land ∷ todo) _ h (kept.suspend_rests (at (piece.Land ∷ todo) s.run.operands s) (go _ _ h))
  acts piece.Land todo e o h = steps.land s st s.run.raised todo h
  acts (piece.EnterNow m r) todo e o h = steps.enter s st m (slice_get g.source.routines r) todo h
  acts piece.LeaveNow todo e o h = steps.leave s st _ (monitors.this_object s) todo h
  acts (piece.MakeNow k r) todo e o h = steps.make s st k r (slice_get g.source.routines r) todo h
  acts (piece.BindMadeNow k r) todo e o h = steps.bind s st (slice_get g.source.routines r) todo h
  acts piece.MadeNow todo e o h = steps.unless s st (monitors.this_object s) _ todo h (steps.go_in s st _ _ _ (steps.same s st refl refl refl) h)
  acts (piece.SpawnNow r) todo e o h = steps.unless s st (monitors.this_object s) _ (piece.ChildNow r ∷ todo) h (steps.go_in s st _ _ _ (steps.same s st refl refl refl) h)
  acts piece.GoneNow todo e o h = steps.go_in s st _ _ _ (steps.same s st refl refl refl) h
  acts piece.GiveUpNow todo e o h = steps.go_in s st _ _ _ (steps.same s st refl refl refl) h
  acts (piece.ConditionNow k m) todo e o h = steps.condition s st k _ todo h
  acts piece.WaitNow todo e o h = steps.unless s st (monitors.this_object s) _ todo h (go _ _ h)
  acts piece.SignalBlockNow todo e o h = steps.unless s st (monitors.this_object s) _ todo h (go _ _ h)
  acts (piece.Guards src.NoClauses) todo e o h = go _ _ h
  acts (piece.Guards (src.Otherwise b)) todo e o h = go _ _ h
  acts (piece.Guards (src.MoreClauses guard b cs)) todo e o h = go _ _ h
  acts (piece.AcceptNow site m) todo e o h = steps.accept_by s st (monitors.mask_of (take_operands piece.Nothing m s.run.operands [])) (monitors.this_object s) site todo (drop m s.run.operands) h
  acts piece.FailedNow todo e o h = steps.failed s st _ todo _ h
  acts (piece.ChooseNow cs) todo e o h = quietly _ _ (steps.branch _ cs todo h.0) h.1
  acts piece.RaiseAtNow todo e o h = steps.raise_at s st _ _ todo _ h
  acts (piece.EnableNow events cell) todo e o h = steps.enables s st _ cell todo h
  acts (piece.DisableNow events cell) todo e o h = steps.enables s st _ cell todo h
  acts (piece.RestoreNow cell) todo e o h = steps.go_in s st _ _ _ (steps.same s st refl refl refl) h
  acts piece.PollNow todo e o h = steps.poll s st todo h
  acts piece.DeliverNow todo e o h = steps.deliver s st _ todo h
  acts piece.Finish todo e o h = steps.finished s st s.env.own todo h.0 h.1
  acts piece.FinishCoroutine todo e o h =
      steps.moved s st _ todo _ (steps.calm (Over s st) todo h.0 h.1) (kept.finish_rests (at todo s.run.operands s) (quietly _ _ h.0 h.1))
  acts p todo e o h = go _ _ h

  walk : ReturnsStep (quiet.quiet g.source s)
  walk = by s.run.control refl
    where
      by : (l : List Todo) → s.run.control ≡ l → ReturnsStep (quiet.act_todo g.source l s)
      by [] e = steps.returned s st _ s.callers st.callers
      by (p ∷ todo) e = acts p todo e (subst Ok e parts.run) (subst HasBegunBehind e st.begun, λ a. subst Unwinds e (st.run.own a))

begins : (source : Source) (r o : ℕ) → ReturnsState (first_state (routine_of source r) o)
begins source r o = record {
  begun = steps.behind (routine_of source r).purpose (routine_of source r).line;
  run = steps.begins_well _ _ refl refl;
  callers = tt;
  env = record { house = (tt, tt); hand = tt };
}

new_there : (source : Source) (h : ℕ) (todo : List Todo) → ReturnsMembers (home.Object h) (new_members source todo)
new_there source h [] = tt
new_there source h (piece.BindMadeNow c r ∷ todo) = tt
new_there source h (p ∷ todo) = tt

-- with other operands
with_operands : (s : State) (vs : List Value) → ReturnsState s → ReturnsState (record s { run = record s.run { operands = vs } })
with_operands s vs h = record { begun = h.begun; run = record { handles = h.run.handles; passes = h.run.passes; own = h.run.own }; callers = h.callers; env = h.env }

entered_there : (m : Option Members) (o : ℕ) (s : State) → ReturnsMembers (home.Object o) m → ReturnsState s → ReturnsState (with_operand (piece.Object o) (entered m o s))
entered_there None o s k h = with_operands s _ h
entered_there (Some m) o s k h = record {
  begun = h.begun;
  run = record { handles = h.run.handles; passes = h.run.passes; own = h.run.own };
  callers = h.callers;
  env = record { house = h.env.house; hand = parked.more_hand ReturnsEx s.env.hand o m k h.env.hand };
}

answered_there : (source : Source) (given : Answer) (s : State) → ReturnsState s → ReturnsState (answered source given s)
answered_there source (answer.Object o) s h = entered_there (new_members source s.run.control) o s (new_there source o s.run.control) h
answered_there source (answer.Number n) s h = with_operands s _ h
answered_there source (answer.Value n failed) s h = with_operands s _ h
answered_there source (answer.Clause k failed) s h = with_operands s _ h
answered_there source (answer.Event n x y) s h = with_operands s _ h
answered_there source answer.Nothing s h = with_operands s _ h
answered_there source answer.Go s h = h

-- what arrives is a return to it

is_return : (w : Option UnwindReason) (n : ℕ) → raising.arrives w n ≡ true → w ≡ Some (reason.ReturnTo n)
is_return (Some (reason.ReturnTo k)) n e = ap (λ x. Some (reason.ReturnTo x)) (eqb-true k n e)
is_return (Some (reason.Event k x y)) n e = absurd (cc)
is_return (Some reason.Destroyed) n e = absurd (cc)
is_return None n e = absurd (cc)

module _ (s : State) (st : ReturnsState s) where
  passes_by : (r : Option ℕ) (todo : List Todo) → s.run.control ≡ piece.Unwind ∷ (piece.Clean (src.Frees r) ∷ todo) → (b : Bool) → raising.arrives s.run.raised (length s.callers) ≡ b → raising.arrives s.run.raised (length s.callers) ≡ false
  passes_by r todo e false q = q
  passes_by r todo e true q =
      let u : Unwinds (piece.Unwind ∷ (piece.Clean (src.Frees r) ∷ todo)) = subst Unwinds e (st.run.own (is_return s.run.raised (length s.callers) q)) in absurd u

  passes_clean : (c : CleanUp) (todo : List Todo) → s.run.control ≡ piece.Unwind ∷ (piece.Clean c ∷ todo) → PassesAt (piece.Unwind ∷ (piece.Clean c ∷ todo)) s
  passes_clean (src.Frees r) todo e = passes_by r todo e (raising.arrives s.run.raised (length s.callers)) refl
  passes_clean c todo e = tt

  passes_at : (l : List Todo) → s.run.control ≡ l → PassesAt l s
  passes_at (piece.Unwind ∷ (piece.Clean c ∷ todo)) e = passes_clean c todo e
  passes_at l e = tt

pub passes : (s : State) → ReturnsState s → Passes s
passes s st = passes_at s st s.run.control refl

pub law_returns : LawReturns
law_returns = record {
  begins = λ source r o. begins source r o;
  steps = λ g s st parts. walk g s st parts;
  told = λ source given s h. answered_there source given s h;
  passes = λ s h. passes s h;
}

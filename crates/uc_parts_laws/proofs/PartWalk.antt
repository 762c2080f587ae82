-- Every quiet step of a state in which parts are taken over leads to one, as far as those are that routines which are called are to build; and so does each answer.
use Rattle.std.proofs.Common.{◌≡◌, ℕ, ◌+◌, Bool, true, false, List, [], ◌∷◌, inl, drop, Option, Some, None, refl, subst}
use Rattle.std.specs.Prelude.{nat_lt, min, slice_get}
use Rattle.uc_tree.specs.Source as src
use Rattle.uc_tree.specs.Source.{Source, Routine, routine_or_none, routine_of}
use Rattle.uc_entry.specs.declared.request.Answer.{Answer}
use Rattle.uc_entry.specs.declared.request.Answer.TheVariants as answer
use Rattle.uc_machine.specs.declared.exec.Home.{Home}
use Rattle.uc_machine.specs.declared.exec.Home.TheVariants as home
use Rattle.uc_machine.specs.Executions.{take_operands}
use Rattle.uc_machine.specs.Raising as raising
use Rattle.uc_machine.specs.Monitors as monitors
use Rattle.uc_machine.specs.Quiet as quiet
use Rattle.uc_machine.specs.Quiet.{first_state}
use Rattle.uc_machine.specs.Pieces as piece
use Rattle.uc_machine.specs.Pieces.{Value, Todo, State, Members, at, top, number}
use Rattle.uc_machine.specs.Answering.{answered, entered, new_members, with_operand}
use Rattle.std.proofs.Common.{◌++◌}
use Rattle.uc_place_laws.specs.OlderResting.{NamedParked, NamedHand}
use Rattle.uc_place_laws.proofs.AsideKeeping as kept
use Rattle.uc_place_laws.proofs.AsideKeeping.{either}
use Rattle.uc_parts_laws.specs.Parts.{PartsRoutine, PartsSource, InnerStmt, OpensRest}
use Rattle.uc_parts_laws.specs.PartStates.{Setting, IsTaken, InParts, PartsMembers, PartsState, PartsStep, CallsTakenBy, CallsTaken}
use Rattle.uc_parts_laws.specs.PartsLaws.{LawParts}
use Rattle.uc_parts_laws.proofs.PartTodos as todos
use Rattle.uc_parts_laws.proofs.PartTodos.{inner_any}
use Rattle.uc_parts_laws.proofs.PartSteps as steps
use Rattle.uc_parts_laws.proofs.PartSteps.{H, Q}

module _ (g : Setting) (known : PartsSource g.special g.source) where
  module _ (s : State) (st : PartsState g s) where
    go : (todo : List Todo) (vs : List Value) → H g s st.callers st.env todo → PartsState g (at todo vs s)
    go = steps.go g s st.callers st.env

    abbrev Has : List Todo → Type 0
    Has todo = H g s st.callers st.env todo

    -- one piece, with what is to do behind it
    acts : (p : Todo) (todo : List Todo) → s.run.control ≡ p ∷ todo → CallsTakenBy g (p ∷ todo) s → Has (p ∷ todo) → PartsStep g (quiet.act g.source p todo s)
    acts (piece.Eval a) todo e o h = steps.eval g s st.callers st.env a todo h
    acts (piece.ElementNow m k) todo e o h = steps.element g s st.callers st.env k _ todo _ _ h
    acts piece.NegateNow todo e o h = steps.outcome g s st.callers st.env _ todo _ h
    acts (piece.OperateNow op) todo e o h = steps.outcome g s st.callers st.env _ todo _ h
    acts piece.StoreNow todo e o h = steps.go_in g s st.callers st.env _ _ _ h (steps.write g s st.callers st.env _ _)
    acts piece.KeepNow todo e o h = steps.go_in g s st.callers st.env _ _ _ h (steps.write g s st.callers st.env _ _)
    acts (piece.SetNow k) todo e o h = steps.go_in g s st.callers st.env _ _ _ h (steps.write g s st.callers st.env (piece.variable_at k s) (piece.Number (number (top s.run.operands))))
    acts piece.BindNow todo e o h = steps.go_in g s st.callers st.env _ _ _ h (steps.write g s st.callers st.env _ _)
    acts (piece.Branch a b) todo e o h = go _ _ (inl (either (InnerStmt (OpensRest todo)) (piece.is_zero (number (top s.run.operands))) b a (inner_any (OpensRest todo) b h.0.1) (inner_any (OpensRest todo) a h.0.0), h.1, h.2))
    acts (piece.TurnNow order c step b) todo e o h = go _ _ (inl (inner_any (OpensRest (piece.InLoop order c step b ∷ todo)) b h.0, h.1, h))
    acts (piece.Arguments src.NoExprs) todo e o h = go _ _ h
    acts (piece.Arguments (src.MoreExprs a es)) todo e o h = go _ _ h
    acts (piece.CallNow r) todo e o h = steps.call g s st.callers st.env (g.special r) (slice_get g.source.routines r) todo (known.routines r) o h
    acts (piece.CallOnNow r) todo e o h = steps.call_on g s st.callers st.env (g.special r) (slice_get g.source.routines r) todo (known.routines r) o h
    acts (piece.CallUnwrittenNow r) todo e o h = steps.call_unwritten g s st.callers st.env (g.special r) (slice_get g.source.routines r) todo (known.routines r) o h
    acts (piece.CountNow m) todo e o h = record { run = todos.counts_next g.special (Q g s st.callers st.env) s.run.elements m m todo h.0 h.1; callers = st.callers; env = st.env }
    acts piece.MoreNow todo e o h = record { run = todos.counts_more g.special (Q g s st.callers st.env) s.run.elements (min (s.run.elements + 1) quiet.MOST_ELEMENTS) todo h.0.0 h.1; callers = st.callers; env = st.env }
    acts (piece.FillNow m b d) todo e o h = go _ _ (steps.filled g.special (Q g s st.callers st.env) s.run.elements (nat_lt s.run.elements m) m b d todo refl h)
    acts (piece.Again order c step b) todo e o h = go _ _ (either Has (piece.is_zero (number (top s.run.operands))) todo (piece.TurnNow order c step b ∷ todo) h.2 h)
    acts (piece.PrintNow form) todo e o h = steps.prints g s st.callers st.env s.env.gathered _ todo _ h
    acts (piece.TextNow k) todo e o h = steps.prints g s st.callers st.env s.env.gathered _ todo _ h
    acts piece.GatherNow todo e o h = steps.go_in g s st.callers st.env _ _ _ h (steps.same g s st.callers st.env refl refl refl refl)
    acts piece.FlushNow todo e o h = steps.flushes g s st.callers st.env s.env.gathered todo _ h
    acts (piece.ClearNow k m) todo e o h = steps.clears g s st.callers st.env k m todo h.1
    acts (piece.Items []) todo e o h = go _ _ h
    acts (piece.Items (i ∷ is)) todo e o h = go _ _ (steps.item g.special (Q g s st.callers st.env) s.run.elements i (piece.Items is ∷ todo) h)
    acts (piece.Values []) todo e o h = go _ _ h
    acts (piece.Values (i ∷ is)) todo e o h = go _ _ (steps.item_value g.special (Q g s st.callers st.env) s.run.elements i (piece.Values is ∷ todo) h)
    acts (piece.Pieces []) todo e o h = go _ _ h
    acts (piece.Pieces (i ∷ is)) todo e o h = go _ _ (steps.item_piece g.special (Q g s st.callers st.env) s.run.elements i todo h)
    acts (piece.Targets []) todo e o h = go _ _ h
    acts (piece.Targets (x ∷ xs)) todo e o h = go _ _ h
    acts (piece.Variables []) todo e o h = go _ _ h.1
    acts (piece.Variables (d ∷ ds)) todo e o h = go _ _ (steps.starts g.special (Q g s st.callers st.env) s.run.elements d.cell d.value (piece.Variables ds ∷ todo) h.0 h)
    acts (piece.Do a) todo e o h = steps.stmt g s st.callers st.env a todo h
    acts (piece.Rest ss) todo e o h = steps.rest_of g s st.callers st.env ss todo h
    acts (piece.Exit w) todo e o h = steps.exits g s st.callers st.env st w todo h.0 h.1
    acts (piece.InLoop order c step b) todo e o h = go _ _ (steps.stepped g.special (Q g s st.callers st.env) s.run.elements step _ (steps.turned g.special (Q g s st.callers st.env) s.run.elements order c step b todo h.0 h.1 h.2))
    acts (piece.Clean x) todo e o h = go _ _ (steps.cleans g.special (Q g s st.callers st.env) s.run.elements x todo h.0.0 (todos.begins_behind g.special (Q g s st.callers st.env) x todo h.0.1) h.1 h.2)
    acts (piece.Sweep a) todo e o h = steps.swept g s st.callers st.env s.run.elements a todo h
    acts (piece.Part c) todo e o h = go _ _ (todos.parted_ok g.special (Q g s st.callers st.env) s.run.elements todo h.1)
    acts (piece.Guard hs) todo e o h = go _ _ h.2
    acts piece.Unwind todo e o h = steps.unwinds g s st.callers st.env st todo h
    acts piece.ThrowNow todo e o h = steps.throws g s st.callers st.env (raising.event_in s.run.operands) todo h
    acts piece.RaiseNow todo e o h = steps.raises g s st.callers st.env (raising.event_in s.run.operands) todo h
    acts (piece.SetUpNow r) todo e o h = steps.set_up g s st.callers st.env (g.special r) (slice_get g.source.routines r) todo h.0.1 (known.routines r) h.1
    acts piece.EnlivenNow todo e o h = steps.go_in g s st.callers st.env _ _ _ h (kept.enlivened_keeps (InParts g) (InParts g) (steps.calm g) (piece.own_exec s) s.env st.env)
    acts piece.TakeDownNow todo e o h = steps.moved g s st.callers st.env _ todo _ h (kept.take_down_rests (InParts g) (InParts g) (steps.calm g) (piece.own_exec s) (at todo s.run.operands s) (go _ _ h))
    acts piece.ForgetNow todo e o h = steps.go_in g s st.callers st.env _ _ _ h (kept.forgotten_keeps (InParts g) (InParts g) (steps.calm g) (piece.own_exec s) s.env st.env)
    acts (piece.LiveNow r) todo e o h = steps.live g s st.callers st.env (slice_get g.source.routines r) todo h
    acts piece.ResumeNow todo e o h = steps.moved g s st.callers st.env _ (piece.Land ∷ todo) _ h (kept.wake_rests (InParts g) (InParts g) (steps.calm g) (quiet.resumed s) (at (piece.Land ∷ todo) s.run.operands s) (go _ _ h))
    acts piece.SuspendNow todo e o h = steps.moved g s st.callers st.env _ (piece.Land ∷ todo) _ h (kept.suspend_rests (InParts g) (InParts g) (steps.calm g) (at (piece.Land ∷ todo) s.run.operands s) (go _ _ h))
    acts piece.Land todo e o h = steps.land g s st.callers st.env s.run.raised todo h
    acts (piece.EnterNow m r) todo e o h = steps.enter g s st.callers st.env m (slice_get g.source.routines r) todo h
    acts piece.LeaveNow todo e o h = steps.leave g s st.callers st.env _ (monitors.this_object s) todo h
    acts (piece.MakeNow k r) todo e o h = steps.make g s st.callers st.env k r (slice_get g.source.routines r) todo h
    acts (piece.BindMadeNow k r) todo e o h = steps.bind g s st.callers st.env (slice_get g.source.routines r) todo h
    acts piece.MadeNow todo e o h = steps.unless g s st.callers st.env (monitors.this_object s) _ todo h.1 (record { run = h.1; callers = st.callers; env = steps.likes g st.env refl refl refl })
    acts (piece.SpawnNow r) todo e o h = steps.unless g s st.callers st.env (monitors.this_object s) _ (piece.ChildNow r ∷ todo) (h.0.0, h.1) (record { run = (h.0.0, h.1); callers = st.callers; env = steps.likes g st.env refl refl refl })
    acts (piece.ChildNow r) todo e o h = go _ _ h.1
    acts piece.GoneNow todo e o h = record { run = h; callers = st.callers; env = steps.likes g st.env refl refl refl }
    acts piece.GiveUpNow todo e o h = record { run = h; callers = st.callers; env = steps.likes g st.env refl refl refl }
    acts (piece.ConditionNow k m) todo e o h = steps.condition g s st.callers st.env k _ todo h
    acts piece.WaitNow todo e o h = steps.unless g s st.callers st.env (monitors.this_object s) _ todo h (go _ _ h)
    acts piece.SignalBlockNow todo e o h = steps.unless g s st.callers st.env (monitors.this_object s) _ todo h (go _ _ h)
    acts (piece.Guards src.NoClauses) todo e o h = go _ _ h
    acts (piece.Guards (src.Otherwise b)) todo e o h = go _ _ h
    acts (piece.Guards (src.MoreClauses guard b cs)) todo e o h = go _ _ h
    acts (piece.AcceptNow site m) todo e o h = steps.accept g s st.callers st.env (monitors.mask_of (take_operands piece.Nothing m s.run.operands [])) (monitors.this_object s) site todo (drop m s.run.operands) h
    acts piece.FailedNow todo e o h = steps.failed g s st.callers st.env _ todo _ h
    acts (piece.ChooseNow cs) todo e o h = go _ _ (steps.branch g.special (Q g s st.callers st.env) s.run.elements _ cs todo h.0 h.1 h.2)
    acts piece.RaiseAtNow todo e o h = steps.raise_at g s st.callers st.env _ _ todo _ h
    acts (piece.EnableNow events cell) todo e o h = steps.enables g s st.callers st.env _ cell todo h
    acts (piece.DisableNow events cell) todo e o h = steps.enables g s st.callers st.env _ cell todo h
    acts (piece.RestoreNow cell) todo e o h = steps.go_in g s st.callers st.env _ _ _ h (steps.same g s st.callers st.env refl refl refl refl)
    acts piece.PollNow todo e o h = steps.poll g s st.callers st.env todo h
    acts piece.DeliverNow todo e o h = steps.deliver g s st.callers st.env _ todo h
    acts piece.Finish todo e o h = steps.unless g s st.callers st.env s.env.own _ todo h (steps.returned g s st.callers st.env st _ s.callers st.callers)
    acts piece.FinishCoroutine todo e o h = steps.moved g s st.callers st.env _ todo _ h (kept.finish_rests (InParts g) (InParts g) (steps.calm g) (at todo s.run.operands s) (go _ _ h))
    acts p todo e o h = go _ _ h

    pub walk : CallsTaken g s → PartsStep g (quiet.quiet g.source s)
    walk o = by s.run.control refl
      where
        by : (l : List Todo) → s.run.control ≡ l → PartsStep g (quiet.act_todo g.source l s)
        by [] e = steps.returned g s st.callers st.env st _ s.callers st.callers
        by (p ∷ todo) e = acts p todo e (subst (λ l. CallsTakenBy g l s) e o) (subst Has e st.run)

  -- a task begins so with a routine that is no constructor

  begun : (b : Bool) (o : ℕ) (r : Option Routine) → b ≡ false → PartsRoutine g.special b r → PartsState g (first_state (routine_or_none r) o)
  begun b o None e h = record { run = inl (tt, tt, tt); callers = tt; env = record { house = (tt, tt); hand = tt } }
  begun false o (Some r) e h = record { run = todos.inner_routine g.special (IsTaken g (record { home = home.Task o; serial = 0 }) [] 0 (piece.Object o)) 0 r h; callers = tt; env = record { house = (tt, tt); hand = tt } }
  begun true o (Some r) e h = absurd (cc)

  pub begins : (r o : ℕ) → g.special r ≡ false → PartsState g (first_state (routine_of g.source r) o)
  begins r o e = begun (g.special r) o (slice_get g.source.routines r) e (known.routines r)

module _ (g : Setting) where
  new_there : (h : Home) (todo : List Todo) → PartsMembers g h (new_members g.source todo)
  new_there h [] = tt
  new_there h (piece.BindMadeNow c r ∷ todo) = tt
  new_there h (p ∷ todo) = tt

  with_operands : (s : State) (vs : List Value) → PartsState g s → PartsState g (record s { run = record s.run { operands = vs } })
  with_operands s vs h = record { run = h.run; callers = h.callers; env = h.env }

  more_hand : (hand : List (ℕ × Members)) (o : ℕ) (m : Members) → NamedParked (InParts g) (InParts g) (home.Object o) m.parked → NamedHand (InParts g) (InParts g) hand → NamedHand (InParts g) (InParts g) (hand ++ (o, m) ∷ [])
  more_hand [] o m h k = (h, tt)
  more_hand (x ∷ hand) o m h k = (k.0, more_hand hand o m h k.1)

  entered_there : (m : Option Members) (o : ℕ) (s : State) → PartsMembers g (home.Object o) m → PartsState g s → PartsState g (with_operand (piece.Object o) (entered m o s))
  entered_there None o s k h = with_operands s _ h
  entered_there (Some m) o s k h = record { run = h.run; callers = h.callers; env = record { house = h.env.house; hand = more_hand s.env.hand o m k h.env.hand } }

  pub answered_there : (given : Answer) (s : State) → PartsState g s → PartsState g (answered g.source given s)
  answered_there (answer.Object o) s h = entered_there (new_members g.source s.run.control) o s (new_there (home.Object o) s.run.control) h
  answered_there (answer.Number n) s h = with_operands s _ h
  answered_there (answer.Value n failed) s h = with_operands s _ h
  answered_there (answer.Clause k failed) s h = with_operands s _ h
  answered_there (answer.Event n x y) s h = with_operands s _ h
  answered_there answer.Nothing s h = with_operands s _ h
  answered_there answer.Go s h = h

pub law_parts : LawParts
law_parts = record {
  begins = λ g known r o e. begins g known r o e;
  steps = λ g known s st o. walk g known s st o;
  told = λ g given s st. answered_there g given s st;
}

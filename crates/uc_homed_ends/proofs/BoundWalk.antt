-- Every quiet step of a task in which variables that are mutex objects hold numbers until they are bound, and then what is at home there, and answers
-- to it.
use Rattle.std.proofs.Common.{◌≡◌, ℕ, Bool, true, false, List, [], ◌∷◌, Option, Some, None, ◌⊎◌, inl, inr, refl, subst, arith}
use Rattle.std.specs.Prelude.{nat_lt, slice_get, drop}
use Rattle.uc_tree.specs.Source as src
use Rattle.uc_tree.specs.Source.{Source, Stmt, Stmts, Routine, routine_or_none, routine_of}
use Rattle.uc_entry.specs.declared.request.Answer.{Answer}
use Rattle.uc_entry.specs.declared.request.Answer.TheVariants as answer
use Rattle.uc_machine.specs.declared.exec.Home.TheVariants as home
use Rattle.uc_machine.specs.Executions.{take_operands}
use Rattle.uc_machine.specs.Raising as raising
use Rattle.uc_machine.specs.Monitors as monitors
use Rattle.uc_machine.specs.Quiet as quiet
use Rattle.uc_machine.specs.Quiet.{first_state}
use Rattle.uc_machine.specs.Pieces as piece
use Rattle.uc_machine.specs.Pieces.{Value, Nothing, Todo, State, Members, Step, Goes, Ticks, Asks, at, top, below, number}
use Rattle.uc_machine.specs.Answering.{answered, entered, new_members, with_operand}
use Rattle.uc_state_laws.specs.Clusters.{Joined}
use Rattle.uc_state_laws.specs.Counted.{params}
use Rattle.uc_state_laws.specs.ThereStates.{RoutineBegins, SourceBegins, FairAt}
use Rattle.uc_life_laws.proofs.HomedCells.{either}
use Rattle.uc_life_laws.proofs.Parked as parked
use Rattle.uc_life_laws.specs.Things.{Few}
use Rattle.uc_place_laws.specs.AsideLaws.{PutsAt}
use Rattle.uc_homed_ends.specs.BoundHomes.{OpensMutex, MakesBy, AllUnbound, AtRest, AtNow, IsUnset, IsSet, IsThat, BoundEx, BoundMembers, BoundState, BoundStep, GoodStep}
use Rattle.uc_homed_ends.specs.BoundLaws.{SetsAt, Finds, LawBoundSteps}
use Rattle.uc_homed_ends.proofs.BoundCells.{begins_none}
use Rattle.uc_homed_ends.proofs.BoundKeeping as kept
use Rattle.uc_homed_ends.proofs.BoundSteps as steps
use Rattle.uc_homed_ends.proofs.BoundSteps.{here}

-- a piece that tells of no statements that are left of a block, and that binds nothing
abbrev IsOther : Todo → Type 0
IsOther (piece.Rest ss) = ⊥
IsOther piece.BindNow = ⊥
IsOther (piece.MakeNow c r) = ⊥
IsOther (piece.BindMadeNow c r) = ⊥
IsOther p = Unit {0}

-- a scope opens behind the statement that makes its object, or none does
thens : (Q : ℕ → Type 0) (a : Stmt) (ss : Stmts) (todo : List Todo) → OpensMutex (λ k. MakesBy a × Q k) ss → AllUnbound Q todo → AllUnbound Q (piece.Do a ∷ (piece.Rest ss ∷ todo))
thens Q a (src.Scoped (src.Destroys (src.OfObject (src.EndOn r written (src.Load (src.Variable k))))) rest) todo d h = inr (d.0, (d.1, h))
thens Q a ss todo d h = inl (tt, h)

rest_now : (Q P : ℕ → Type 0) (C : ℕ → ℕ → Type 0) (todo : List Todo) → AtRest Q P todo → AtNow Q P C todo
rest_now Q P C (piece.Rest ss ∷ todo) h = h
rest_now Q P C todo h = absurd h

module _ (few : Few) (source : Source) where
  lift : (x : Step) → BoundStep few source x → GoodStep few source x
  lift (Goes s) h = h
  lift (Ticks s) h = h
  lift (Asks r s) h = inl h

  module _ (known : SourceBegins source) where
    module _ (s : State) (st : BoundState few source true s) where
      go : {b : Bool} (todo : List Todo) (vs : List Value) → AllUnbound (IsUnset (here s)) todo → BoundState few source b (at todo vs s)
      go todo vs h = steps.go few source s st todo vs h

      -- one piece, with what is to do behind it

      acts : (p : Todo) (todo : List Todo) → s.run.control ≡ p ∷ todo → IsOther p → FairAt source (p ∷ todo) s → AllUnbound (IsUnset (here s)) (p ∷ todo) → BoundStep few source (quiet.act source p todo s)
      acts (piece.Eval a) todo e n f h = steps.evals few source s st a todo h
      acts (piece.ElementNow m k) todo e n f h = steps.element few source s st k _ todo _ _ h.1
      acts piece.NegateNow todo e n f h = steps.outcome few source s st _ todo _ h.1
      acts (piece.OperateNow op) todo e n f h = steps.outcome few source s st _ todo _ h.1
      acts piece.StoreNow todo e n f h = steps.go_in few source s st _ _ _ (kept.written_number few (top (below s.run.operands)) (number (top s.run.operands)) s.env st.env) h.1
      acts piece.KeepNow todo e n f h = steps.go_in few source s st _ _ _ (kept.written_number few (top (below s.run.operands)) (number (top s.run.operands)) s.env st.env) h.1
      acts (piece.SetNow k) todo e n f h = steps.go_in few source s st _ _ _ (kept.written_number few (piece.variable_at k s) (number (top s.run.operands)) s.env st.env) h.1
      acts piece.BindNow todo e n f h = absurd n
      acts (piece.Choose a b) todo e n f h = go _ _ (inl h.1)
      acts (piece.Branch a b) todo e n f h = go _ _ (inl h.1)
      acts (piece.TurnNow o t step b) todo e n f h = go _ _ (inl (tt, h.1))
      acts (piece.Arguments src.NoExprs) todo e n f h = go _ _ h.1
      acts (piece.Arguments (src.MoreExprs a es)) todo e n f h = go _ _ (inl (tt, h.1))
      acts (piece.CallNow r) todo e n f h = steps.call few source s st (slice_get source.routines r) todo (known r) h.1
      acts (piece.CallOnNow r) todo e n f h = steps.call_on few source s st (slice_get source.routines r) todo (known r) (inl h.1)
      acts (piece.CallUnwrittenNow r) todo e n f h = steps.call_unwritten few source s st (slice_get source.routines r) todo (known r) (inl h.1)
      acts (piece.CountNow m) todo e n f h = record { frames = st.frames; frame = st.frame; run = inl h.1; callers = st.callers; env = st.env }
      acts piece.MoreNow todo e n f h = record { frames = st.frames; frame = st.frame; run = inl h.1; callers = st.callers; env = st.env }
      acts (piece.FillNow m b d) todo e n f h = go _ _ (steps.filled (IsUnset (here s)) (nat_lt s.run.elements m) m b d todo h.1)
      acts (piece.Again o t step b) todo e n f h = go _ _ (either (AllUnbound (IsUnset (here s))) (piece.is_zero (number (top s.run.operands))) todo (piece.TurnNow o t step b ∷ todo) h.1 (tt, h.1))
      acts (piece.PrintNow form) todo e n f h = steps.prints few source s st s.env.gathered _ todo _ h.1
      acts (piece.TextNow k) todo e n f h = steps.prints few source s st s.env.gathered _ todo _ h.1
      acts piece.GatherNow todo e n f h = steps.go_in few source s st _ _ _ (steps.same few source s st refl refl refl refl refl) h.1
      acts piece.FlushNow todo e n f h = steps.flushes few source s st s.env.gathered todo _ h.1
      acts (piece.ReadNow form) todo e n f h = go _ _ h.1
      acts (piece.ClearNow k m) todo e n f h = steps.clears few source s st k m todo f.1 h.1
      acts (piece.Items []) todo e n f h = go _ _ h.1
      acts (piece.Items (i ∷ is)) todo e n f h = go _ _ (steps.item (IsUnset (here s)) i _ (tt, h.1))
      acts (piece.Values []) todo e n f h = go _ _ h.1
      acts (piece.Values (i ∷ is)) todo e n f h = go _ _ (steps.item_value (IsUnset (here s)) i _ (tt, h.1))
      acts (piece.Pieces []) todo e n f h = go _ _ h.1
      acts (piece.Pieces (i ∷ is)) todo e n f h = go _ _ (tt, steps.item_piece (IsUnset (here s)) i todo h.1)
      acts (piece.Targets []) todo e n f h = go _ _ h.1
      acts (piece.Targets (t ∷ ts)) todo e n f h = go _ _ (inl (tt, (tt, (tt, h.1))))
      acts (piece.Variables []) todo e n f h = go _ _ h.1
      acts (piece.Variables (d ∷ ds)) todo e n f h = go _ _ (tt, steps.starts (IsUnset (here s)) d.cell d.value (piece.Variables ds ∷ todo) (tt, h.1))
      acts (piece.Do a) todo e n f h = steps.stmts few source s st a todo f h
      acts (piece.Rest ss) todo e n f h = absurd n
      acts (piece.Exit w) todo e n f h = steps.exits few source s st w todo h
      acts (piece.InLoop o t step b) todo e n f h = go _ _ (steps.stepped (IsUnset (here s)) step _ (steps.tested (IsUnset (here s)) o t step b todo h.1))
      acts (piece.Clean x) todo e n f h = go _ _ (steps.cleans (IsUnset (here s)) x todo h.1)
      acts (piece.Sweep a) todo e n f h = steps.swept few source s st s.run.elements a todo h.1
      acts piece.Unwind todo e n f h = steps.unwinds few source s st todo h
      acts piece.ThrowNow todo e n f h = steps.throws few source s st (raising.event_in s.run.operands) todo h.1
      acts piece.RaiseNow todo e n f h = steps.raises few source s st (raising.event_in s.run.operands) todo h.1
      acts (piece.SetUpNow r) todo e n f h = steps.set_up few source s st (slice_get source.routines r) todo (known r) f h.1
      acts piece.EnlivenNow todo e n f h = steps.go_in few source s st _ _ _ (kept.enlivened_keeps few (piece.own_exec s) s.env st.env) h.1
      acts piece.TakeDownNow todo e n f h = steps.moved few source s st _ todo _ h.1 (kept.take_down_rests few source (piece.own_exec s) (at todo s.run.operands s) (go _ _ h.1))
      acts piece.ForgetNow todo e n f h = steps.go_in few source s st _ _ _ (kept.forgotten_keeps few (piece.own_exec s) s.env st.env) h.1
      acts (piece.LiveNow r) todo e n f h = steps.live few source s st (slice_get source.routines r) todo h.1
      acts piece.ResumeNow todo e n f h = steps.moved few source s st _ (piece.Land ∷ todo) _ (tt, h.1) (kept.wake_rests few source (quiet.resumed s) (at (piece.Land ∷ todo) s.run.operands s) (go _ _ (tt, h.1)))
      acts piece.SuspendNow todo e n f h = steps.moved few source s st _ (piece.Land ∷ todo) _ (tt, h.1) (kept.suspend_rests few source (at (piece.Land ∷ todo) s.run.operands s) (go _ _ (tt, h.1)))
      acts piece.Land todo e n f h = steps.land few source s st s.run.raised todo h.1
      acts (piece.EnterNow m r) todo e n f h = steps.enter few source s st m (slice_get source.routines r) todo h.1
      acts piece.LeaveNow todo e n f h = steps.leave few source s st _ (monitors.this_object s) todo h.1
      acts (piece.MakeNow k r) todo e n f h = absurd n
      acts (piece.BindMadeNow k r) todo e n f h = absurd n
      acts piece.MadeNow todo e n f h = steps.unless few source s st (monitors.this_object s) _ todo h.1 (steps.go_in few source s st _ _ _ (steps.same few source s st refl refl refl refl refl) h.1)
      acts (piece.SpawnNow r) todo e n f h = steps.unless few source s st (monitors.this_object s) _ (piece.ChildNow r ∷ todo) (tt, h.1) (steps.go_in few source s st _ _ _ (steps.same few source s st refl refl refl refl refl) (tt, h.1))
      acts piece.GoneNow todo e n f h = steps.go_in few source s st _ _ _ (steps.same few source s st refl refl refl refl refl) h.1
      acts piece.GiveUpNow todo e n f h = steps.go_in few source s st _ _ _ (steps.same few source s st refl refl refl refl refl) h.1
      acts (piece.ConditionNow k m) todo e n f h = steps.condition few source s st k _ todo h.1
      acts piece.WaitNow todo e n f h = steps.unless few source s st (monitors.this_object s) _ todo h.1 (go _ _ h.1)
      acts piece.SignalBlockNow todo e n f h = steps.unless few source s st (monitors.this_object s) _ todo h.1 (go _ _ h.1)
      acts (piece.Guards src.NoClauses) todo e n f h = go _ _ h.1
      acts (piece.Guards (src.Otherwise b)) todo e n f h = go _ _ h.1
      acts (piece.Guards (src.MoreClauses guard b cs)) todo e n f h = go _ _ (inl (tt, h.1))
      acts (piece.AcceptNow site m) todo e n f h = steps.accept_by few source s st (monitors.mask_of (take_operands Nothing m s.run.operands [])) (monitors.this_object s) site todo (drop m s.run.operands) h.1
      acts piece.FailedNow todo e n f h = steps.failed few source s st _ todo _ h.1
      acts (piece.ChooseNow cs) todo e n f h = go _ _ (steps.branch (IsUnset (here s)) _ cs todo h.1)
      acts piece.RaiseAtNow todo e n f h = steps.raise_at few source s st (top s.run.operands) (raising.event_in (below s.run.operands)) todo (drop 4 s.run.operands) h.1
      acts (piece.EnableNow events cell) todo e n f h = steps.enables few source s st _ cell todo h.1
      acts (piece.DisableNow events cell) todo e n f h = steps.enables few source s st _ cell todo h.1
      acts (piece.RestoreNow cell) todo e n f h = steps.go_in few source s st _ _ _ (steps.same few source s st refl refl refl refl refl) h.1
      acts piece.PollNow todo e n f h = steps.poll few source s st todo h.1
      acts piece.DeliverNow todo e n f h = steps.deliver few source s st _ todo h.1
      acts piece.Finish todo e n f h = steps.unless few source s st s.env.own _ todo h.1 (steps.returned few source s st _ s.callers st.frames st.callers)
      acts piece.FinishCoroutine todo e n f h = steps.moved few source s st _ todo _ h.1 (kept.finish_rests few source (at todo s.run.operands s) (go _ _ h.1))
      acts p todo e n f h = go _ _ h.1

      -- the statements that are left of a block

      rests : (ss : Stmts) (todo : List Todo) → Joined ss → SetsAt few source (piece.Rest ss ∷ todo) s → AllUnbound (IsUnset (here s)) todo → BoundStep few source (quiet.rest_step ss todo s)
      rests src.Nil todo f d h = go _ _ h
      rests (src.Then a ss) todo f d h = go _ _ (thens (IsUnset (here s)) a ss todo d h)
      rests (src.Scoped c ss) todo f d h = go _ _ (begins_none ss f.0, (tt, h))
      rests (src.Built c ss) todo f d h = go _ _ (begins_none ss f.0, (tt, h))

      -- the constructor of what is bound is called next, or its scope comes next

      abbrev Set : ℕ → Type 0
      Set = IsSet few s.env.exec (here s) s.run.frame

      abbrev Called : List Value → ℕ → ℕ → Type 0
      Called vs r = IsThat few s.env.exec (top (drop (params source r) vs)) (here s) s.run.frame

      bounds : (l : List Todo) → FairAt source l s → SetsAt few source l s → AtNow (IsUnset (here s)) Set (Called s.run.operands) l → BoundStep few source (quiet.act_todo source l s)
      bounds (piece.Rest ss ∷ todo) f d h = rests ss todo f.0 d h.1
      bounds (piece.Within line ∷ todo) f d h = steps.go_held few source s st _ _ (inr (rest_now (IsUnset (here s)) Set (Called s.run.operands) todo h))
      bounds (piece.DropNow ∷ (piece.Within line ∷ todo)) f d h = steps.go_held few source s st _ _ (inr h)
      bounds (piece.CallOnNow r ∷ todo) f d h = steps.call_on few source s st (slice_get source.routines r) todo (known r) (inr h)
      bounds (piece.CallUnwrittenNow r ∷ todo) f d h = steps.call_unwritten few source s st (slice_get source.routines r) todo (known r) (inr h)
      bounds l f d h = absurd h

      makes : (k r : ℕ) (todo : List Todo) → AllUnbound (IsUnset (here s)) (piece.MakeNow k r ∷ todo) → GoodStep few source (quiet.act source (piece.MakeNow k r) todo s)
      makes k r todo (inl h) = lift (quiet.act source (piece.MakeNow k r) todo s) (steps.make few source s st k r (slice_get source.routines r) todo h)
      makes k r todo (inr h) = steps.makes few source s st k r (slice_get source.routines r) todo h

      made : (k r : ℕ) (todo : List Todo) → FairAt source (piece.BindMadeNow k r ∷ todo) s → PutsAt source (piece.BindMadeNow k r ∷ todo) s → SetsAt few source (piece.BindMadeNow k r ∷ todo) s → AllUnbound (IsUnset (here s)) (piece.BindMadeNow k r ∷ todo) → GoodStep few source (quiet.act source (piece.BindMadeNow k r) todo s)
      made k r todo f a d (inl h) = lift (quiet.act source (piece.BindMadeNow k r) todo s) (steps.bind few source s st (slice_get source.routines r) todo a h)
      made k r todo f a d (inr h) = steps.made few source s st r (slice_get source.routines r) refl todo a f.0 d h

      counts : (l : List Todo) → s.run.control ≡ l → FairAt source l s → PutsAt source l s → SetsAt few source l s → AllUnbound (IsUnset (here s)) l → GoodStep few source (quiet.act_todo source l s)
      counts [] e f a d h = lift (quiet.act_todo source [] s) (steps.returned few source s st _ s.callers st.frames st.callers)
      counts (piece.Rest ss ∷ todo) e f a d h = lift (quiet.rest_step ss todo s) (rests ss todo f.0 d h.1)
      counts (piece.BindNow ∷ todo) e f a d h = steps.binding few source s st todo a h.1
      counts (piece.MakeNow k r ∷ todo) e f a d h = makes k r todo h
      counts (piece.BindMadeNow k r ∷ todo) e f a d h = made k r todo f a d h
      counts (p ∷ todo) e f a d h = lift (quiet.act source p todo s) (acts p todo e tt f h)

      walk : Finds few source s → GoodStep few source (quiet.quiet source s)
      walk x = by s.run.control refl x.fair x.puts x.sets st.run
        where
          by : (l : List Todo) → s.run.control ≡ l → FairAt source s.run.control s → PutsAt source s.run.control s → SetsAt few source s.run.control s → AllUnbound (IsUnset (here s)) s.run.control ⊎ AtNow (IsUnset (here s)) Set (Called s.run.operands) s.run.control → GoodStep few source (quiet.act_todo source l s)
          by l e f a d (inl h) = counts l e (subst (λ l. FairAt source l s) e f) (subst (λ l. PutsAt source l s) e a) (subst (λ l. SetsAt few source l s) e d) (subst (AllUnbound (IsUnset (here s))) e h)
          by l e f a d (inr h) = lift (quiet.act_todo source l s) (bounds l (subst (λ l. FairAt source l s) e f) (subst (λ l. SetsAt few source l s) e d) (subst (AtNow (IsUnset (here s)) Set (Called s.run.operands)) e h))

    begins : (o : ℕ) (r : Option Routine) → RoutineBegins r → BoundState few source false (first_state (routine_or_none r) o)
    begins o None b = record { frames = refl; frame = omega arith; run = (tt, (tt, tt)); callers = tt; env = record { house = (tt, tt); hand = tt } }
    begins o (Some r) b = record { frames = refl; frame = omega arith; run = steps.routine _ r b; callers = tt; env = record { house = (tt, tt); hand = tt } }

    -- a task begins so
    pub first : (r o : ℕ) → BoundState few source false (first_state (routine_of source r) o)
    first r o = begins o (slice_get source.routines r) (known r)

  -- answers bring operands, and at most an object in which nothing is to do

  new_there : (h : ℕ) (todo : List Todo) → BoundMembers few (home.Object h) (new_members source todo)
  new_there h [] = tt
  new_there h (piece.BindMadeNow c r ∷ todo) = tt
  new_there h (p ∷ todo) = tt

  -- with other operands
  with_operands : (s : State) (vs : List Value) → BoundState few source false s → BoundState few source false (record s { run = record s.run { operands = vs } })
  with_operands s vs h = record { frames = h.frames; frame = h.frame; run = h.run; callers = h.callers; env = h.env }

  entered_there : (m : Option Members) (o : ℕ) (s : State) → BoundMembers few (home.Object o) m → BoundState few source false s → BoundState few source false (with_operand (piece.Object o) (entered m o s))
  entered_there None o s k h = with_operands s _ h
  entered_there (Some m) o s k h = record { frames = h.frames; frame = h.frame; run = h.run; callers = h.callers; env = record { house = h.env.house; hand = parked.more_hand (BoundEx few) s.env.hand o m k h.env.hand } }

  pub answered_there : (given : Answer) (s : State) → BoundState few source false s → BoundState few source false (answered source given s)
  answered_there (answer.Object o) s h = entered_there (new_members source s.run.control) o s (new_there o s.run.control) h
  answered_there (answer.Number n) s h = with_operands s _ h
  answered_there (answer.Value n failed) s h = with_operands s _ h
  answered_there (answer.Clause k failed) s h = with_operands s _ h
  answered_there (answer.Event n x y) s h = with_operands s _ h
  answered_there answer.Nothing s h = with_operands s _ h
  answered_there answer.Go s h = h

pub law_bound_steps : LawBoundSteps
law_bound_steps = record {
  begins = λ few source known r o. first few source known r o;
  steps = λ few source known s h f. walk few source known s h f;
  told = λ few source given s h. answered_there few source given s h;
  goes_on = λ few source s h. steps.rested few source s h;
}

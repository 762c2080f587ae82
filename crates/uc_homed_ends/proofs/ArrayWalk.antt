-- Every quiet step of a task in which elements of arrays of mutex objects hold numbers, or what is at home there, and answers to it.
use Rattle.std.proofs.Common.{◌≡◌, ℕ, List, [], ◌∷◌, Option, Some, None, refl, arith}
use Rattle.std.specs.Prelude.{nat_lt, slice_get, drop, if◌then◌else◌}
use Rattle.uc_tree.specs.Source as src
use Rattle.uc_tree.specs.Source.{Source, Stmt, Stmts, Routine, routine_or_none, routine_of}
use Rattle.uc_entry.specs.declared.request.Answer.{Answer}
use Rattle.uc_entry.specs.declared.request.Answer.TheVariants as answer
use Rattle.uc_machine.specs.declared.exec.Home.TheVariants as home
use Rattle.uc_machine.specs.declared.exec.Owner.TheVariants.{Frame, Fields}
use Rattle.uc_machine.specs.Executions.{take_operands}
use Rattle.uc_machine.specs.Raising as raising
use Rattle.uc_machine.specs.Monitors as monitors
use Rattle.uc_machine.specs.Quiet as quiet
use Rattle.uc_machine.specs.Quiet.{first_state}
use Rattle.uc_machine.specs.Pieces as piece
use Rattle.uc_machine.specs.Pieces.{Value, Place, Nothing, Todo, State, Members, address, Step, Goes, Ticks, Asks, at, top, below, number}
use Rattle.uc_machine.specs.Answering.{answered, entered, new_members, with_operand}
use Rattle.uc_state_laws.specs.Clusters.{Joined}
use Rattle.uc_state_laws.specs.ThereStates.{RoutineBegins, SourceBegins, FairAt}
use Rattle.uc_life_laws.proofs.HomedCells.{either}
use Rattle.uc_life_laws.proofs.Parked as parked
use Rattle.uc_life_laws.specs.Things.{Few}
use Rattle.uc_homed_ends.specs.ArrayHomes.{FillsBy, Arrays, Each, EachOrBinds, ArrayEx, ArrayMembers, ArrayState, ArrayStep, Spares, ValueSpares}
use Rattle.uc_homed_ends.specs.ArrayLaws.{SparesAt, ArrayFinds, LawArraySteps}
use Rattle.uc_homed_ends.proofs.ArrayCells.{begins_none, opens_more, own_each}
use Rattle.uc_homed_ends.proofs.ArrayKeeping as kept
use Rattle.uc_homed_ends.proofs.ArraySteps as steps
use Rattle.uc_homed_ends.proofs.ArraySteps.{Now}

-- a piece that tells of no statements that are left of a block, and that binds nothing but what spares all
abbrev IsOther : Todo → Type 0
IsOther (piece.Rest ss) = ⊥
IsOther piece.BindNow = ⊥
IsOther (piece.BindMadeNow c r) = ⊥
IsOther (piece.SetUpNow r) = ⊥
IsOther p = Unit {0}

module _ (few : Few) where
  module _ (source : Source) (known : SourceBegins source) where
    module _ (s : State) (st : ArrayState few s) where
      go : (todo : List Todo) (vs : List Value) → Arrays (Now few s) todo → ArrayState few (at todo vs s)
      go = steps.go few s st

      -- one piece, with what is to do behind it

      acts : (p : Todo) (todo : List Todo) → s.run.control ≡ p ∷ todo → IsOther p → FairAt source (p ∷ todo) s → Arrays (Now few s) (p ∷ todo) → ArrayStep few (quiet.act source p todo s)
      acts (piece.Eval a) todo e n f h = steps.eval few s st a todo h.1
      acts (piece.ElementNow m k) todo e n f h = steps.element few s st k _ todo _ _ h.1
      acts piece.NegateNow todo e n f h = steps.outcome few s st _ todo _ h.1
      acts (piece.OperateNow op) todo e n f h = steps.outcome few s st _ todo _ h.1
      acts piece.StoreNow todo e n f h = steps.go_in few s st _ _ _ (kept.written_number few (top (below s.run.operands)) (number (top s.run.operands)) s.env st.env) h.1
      acts piece.KeepNow todo e n f h = steps.go_in few s st _ _ _ (kept.written_number few (top (below s.run.operands)) (number (top s.run.operands)) s.env st.env) h.1
      acts (piece.SetNow k) todo e n f h = steps.go_in few s st _ _ _ (kept.written_number few (piece.variable_at k s) (number (top s.run.operands)) s.env st.env) h.1
      acts piece.BindNow todo e n f h = absurd n
      acts (piece.Choose a b) todo e n f h = go _ _ (tt, h.1)
      acts (piece.Branch a b) todo e n f h = go _ _ (steps.chosen (Now few s) (if piece.is_zero (number (top s.run.operands)) then b else a) todo h.0 h.1)
      acts (piece.TurnNow o t step b) todo e n f h = go _ _ (tt, (tt, h.1))
      acts (piece.Arguments src.NoExprs) todo e n f h = go _ _ h.1
      acts (piece.Arguments (src.MoreExprs a es)) todo e n f h = go _ _ (tt, (tt, h.1))
      acts (piece.CallNow r) todo e n f h = steps.call few s st (slice_get source.routines r) todo (known r) h.1
      acts (piece.CallOnNow r) todo e n f h = steps.call_on few s st (slice_get source.routines r) todo (known r) h.1
      acts (piece.CallUnwrittenNow r) todo e n f h = steps.call_unwritten few s st (slice_get source.routines r) todo (known r) h.1
      acts (piece.CountNow m) todo e n f h = record { frames = st.frames; stack = (st.stack.0, h.1, st.stack.2); env = st.env }
      acts piece.MoreNow todo e n f h = record { frames = st.frames; stack = (st.stack.0, h.1, st.stack.2); env = st.env }
      acts (piece.FillNow m b d) todo e n f h = go _ _ (steps.filled (Now few s) (nat_lt s.run.elements m) m b d todo h.0 h.1)
      acts (piece.Again o t step b) todo e n f h = go _ _ (either (Arrays (Now few s)) (piece.is_zero (number (top s.run.operands))) todo (piece.TurnNow o t step b ∷ todo) h.1 (tt, h.1))
      acts (piece.PrintNow form) todo e n f h = steps.prints few s st s.env.gathered _ todo _ h.1
      acts (piece.TextNow k) todo e n f h = steps.prints few s st s.env.gathered _ todo _ h.1
      acts piece.GatherNow todo e n f h = steps.go_in few s st _ _ _ (steps.same few s st refl refl refl refl refl) h.1
      acts piece.FlushNow todo e n f h = steps.flushes few s st s.env.gathered todo _ h.1
      acts (piece.ReadNow form) todo e n f h = go _ _ h.1
      acts (piece.ClearNow k m) todo e n f h = steps.clears few s st k m todo h.1
      acts (piece.Items []) todo e n f h = go _ _ h.1
      acts (piece.Items (i ∷ is)) todo e n f h = go _ _ (steps.item (Now few s) i _ (tt, h.1))
      acts (piece.Values []) todo e n f h = go _ _ h.1
      acts (piece.Values (i ∷ is)) todo e n f h = go _ _ (steps.item_value (Now few s) i _ (tt, h.1))
      acts (piece.Pieces []) todo e n f h = go _ _ h.1
      acts (piece.Pieces (i ∷ is)) todo e n f h = go _ _ (tt, steps.item_piece (Now few s) i todo h.1)
      acts (piece.Targets []) todo e n f h = go _ _ h.1
      acts (piece.Targets (t ∷ ts)) todo e n f h = go _ _ ((tt, (tt, (tt, (tt, h.1)))))
      acts (piece.Variables []) todo e n f h = go _ _ h.1
      acts (piece.Variables (d ∷ ds)) todo e n f h = go _ _ (tt, steps.starts (Now few s) d.cell d.value (piece.Variables ds ∷ todo) (tt, h.1))
      acts (piece.Do a) todo e n f h = steps.stmts few s st a todo f h
      acts (piece.Rest ss) todo e n f h = absurd n
      acts (piece.Exit w) todo e n f h = steps.exits few s st w todo h
      acts (piece.InLoop o t step b) todo e n f h = go _ _ (steps.stepped (Now few s) step _ (steps.tested (Now few s) o t step b todo h.1))
      acts (piece.Clean x) todo e n f h = go _ _ (steps.cleans (Now few s) x todo h.1)
      acts (piece.Sweep a) todo e n f h = steps.swept few s st s.run.elements a todo h.1
      acts piece.Unwind todo e n f h = steps.unwinds few s st todo h
      acts piece.ThrowNow todo e n f h = steps.throws few s st (raising.event_in s.run.operands) todo h.1
      acts piece.RaiseNow todo e n f h = steps.raises few s st (raising.event_in s.run.operands) todo h.1
      acts (piece.SetUpNow r) todo e n f h = absurd n
      acts piece.EnlivenNow todo e n f h = steps.go_in few s st _ _ _ (kept.enlivened_keeps few (piece.own_exec s) s.env st.env) h.1
      acts piece.TakeDownNow todo e n f h = steps.moved few s st _ todo _ h.1 (kept.take_down_rests few (piece.own_exec s) (at todo s.run.operands s) (go _ _ h.1))
      acts piece.ForgetNow todo e n f h = steps.go_in few s st _ _ _ (kept.forgotten_keeps few (piece.own_exec s) s.env st.env) h.1
      acts (piece.LiveNow r) todo e n f h = steps.live few s st (slice_get source.routines r) todo h.1
      acts piece.ResumeNow todo e n f h = steps.moved few s st _ (piece.Land ∷ todo) _ (tt, h.1) (kept.wake_rests few (quiet.resumed s) (at (piece.Land ∷ todo) s.run.operands s) (go _ _ (tt, h.1)))
      acts piece.SuspendNow todo e n f h = steps.moved few s st _ (piece.Land ∷ todo) _ (tt, h.1) (kept.suspend_rests few (at (piece.Land ∷ todo) s.run.operands s) (go _ _ (tt, h.1)))
      acts piece.Land todo e n f h = steps.land few s st s.run.raised todo h.1
      acts (piece.EnterNow m r) todo e n f h = steps.enter few s st m (slice_get source.routines r) todo h.1
      acts piece.LeaveNow todo e n f h = steps.leave few s st _ (monitors.this_object s) todo h.1
      acts (piece.MakeNow k r) todo e n f h = steps.make few s st k r (slice_get source.routines r) todo h.1
      acts (piece.BindMadeNow k r) todo e n f h = absurd n
      acts piece.MadeNow todo e n f h = steps.unless few s st (monitors.this_object s) _ todo h.1 (steps.go_in few s st _ _ _ (steps.same few s st refl refl refl refl refl) h.1)
      acts (piece.SpawnNow r) todo e n f h = steps.unless few s st (monitors.this_object s) _ (piece.ChildNow r ∷ todo) (tt, h.1) (steps.go_in few s st _ _ _ (steps.same few s st refl refl refl refl refl) (tt, h.1))
      acts piece.GoneNow todo e n f h = steps.go_in few s st _ _ _ (steps.same few s st refl refl refl refl refl) h.1
      acts piece.GiveUpNow todo e n f h = steps.go_in few s st _ _ _ (steps.same few s st refl refl refl refl refl) h.1
      acts (piece.ConditionNow k m) todo e n f h = steps.condition few s st k _ todo h.1
      acts piece.WaitNow todo e n f h = steps.unless few s st (monitors.this_object s) _ todo h.1 (go _ _ h.1)
      acts piece.SignalBlockNow todo e n f h = steps.unless few s st (monitors.this_object s) _ todo h.1 (go _ _ h.1)
      acts (piece.Guards src.NoClauses) todo e n f h = go _ _ h.1
      acts (piece.Guards (src.Otherwise b)) todo e n f h = go _ _ h.1
      acts (piece.Guards (src.MoreClauses guard b cs)) todo e n f h = go _ _ (tt, (tt, h.1))
      acts (piece.AcceptNow site m) todo e n f h = steps.accept_by few s st (monitors.mask_of (take_operands Nothing m s.run.operands [])) (monitors.this_object s) site todo (drop m s.run.operands) h.1
      acts piece.FailedNow todo e n f h = steps.failed few s st _ todo _ h.1
      acts (piece.ChooseNow cs) todo e n f h = go _ _ (steps.branch (Now few s) _ cs todo h.0 h.1)
      acts piece.RaiseAtNow todo e n f h = steps.raise_at few s st (top s.run.operands) (raising.event_in (below s.run.operands)) todo (drop 4 s.run.operands) h.1
      acts (piece.EnableNow events cell) todo e n f h = steps.enables few s st _ cell todo h.1
      acts (piece.DisableNow events cell) todo e n f h = steps.enables few s st _ cell todo h.1
      acts (piece.RestoreNow cell) todo e n f h = steps.go_in few s st _ _ _ (steps.same few s st refl refl refl refl refl) h.1
      acts piece.PollNow todo e n f h = steps.poll few s st todo h.1
      acts piece.DeliverNow todo e n f h = steps.deliver few s st _ todo h.1
      acts piece.Finish todo e n f h = steps.unless few s st s.env.own _ todo h.1 (steps.returned few s st _ s.callers st.frames st.stack.2)
      acts piece.FinishCoroutine todo e n f h = steps.moved few s st _ todo _ h.1 (kept.finish_rests few (at todo s.run.operands s) (go _ _ h.1))
      acts p todo e n f h = go _ _ h.1

      -- the statements that are left of a block

      rests : (ss : Stmts) (todo : List Todo) → Joined ss → SparesAt few source (piece.Rest ss ∷ todo) s → Arrays (Now few s) todo → ArrayStep few (quiet.rest_step ss todo s)
      rests src.Nil todo f d h = go _ _ h
      rests (src.Then a ss) todo f d h =
          go _ _ (opens_more (λ k n. FillsBy a × Now few s k n) (λ k n. FillsBy a) (λ k n x. x.0) ss d, (opens_more (λ k n. FillsBy a × Now few s k n) (Now few s) (λ k n x. x.1) ss d, h))
      rests (src.Scoped c ss) todo f d h = go _ _ (begins_none (Now few s) ss f.0, (tt, h))
      rests (src.Built c ss) todo f d h = go _ _ (begins_none (Now few s) ss f.0, (tt, h))

      -- what is bound by an own to-do list that may bind elements to what is no mutex object
      own_spares : (v w : Value) (todo : List Todo) → Arrays (Now few s) todo → ValueSpares few EachOrBinds w v s.run.frame todo s.callers s.env → ValueSpares few Each w v s.run.frame todo s.callers s.env
      own_spares (Place (Frame m d) p) w todo h a = (a.0, (λ e. own_each (Now few s) (Spares few s.env.exec w (address p) s.run.frame) todo h (a.1 e)), a.2)
      own_spares (Place (Fields o) p) w todo h a = tt
      own_spares v w todo h a = tt

      walk : (l : List Todo) → s.run.control ≡ l → FairAt source l s → SparesAt few source l s → Arrays (Now few s) l → ArrayStep few (quiet.act_todo source l s)
      walk [] e f a h = steps.returned few s st _ s.callers st.frames st.stack.2
      walk (piece.Rest ss ∷ todo) e f a h = rests ss todo f.0 a h.1
      walk (piece.BindNow ∷ todo) e f a h = steps.binding few s st todo (own_spares (top (below s.run.operands)) (top s.run.operands) todo h.1 a) h.1
      walk (piece.BindMadeNow k r ∷ todo) e f a h = steps.bind few s st (slice_get source.routines r) todo a h.1
      walk (piece.SetUpNow r ∷ todo) e f a h = steps.set_up few s st (slice_get source.routines r) todo (known r) a h.1
      walk (p ∷ todo) e f a h = acts p todo e tt f h

      pub stepped : ArrayFinds few source s → ArrayStep few (quiet.quiet source s)
      stepped x = walk s.run.control refl x.fair x.spares st.stack.1

    begins : (o : ℕ) (r : Option Routine) → RoutineBegins r → ArrayState few (first_state (routine_or_none r) o)
    begins o None b = record { frames = refl; stack = (omega arith, (tt, (tt, tt)), tt); env = record { house = (tt, tt); hand = tt } }
    begins o (Some r) b = record { frames = refl; stack = (omega arith, steps.routine _ r b, tt); env = record { house = (tt, tt); hand = tt } }

    -- a task begins so
    pub first : (r o : ℕ) → ArrayState few (first_state (routine_of source r) o)
    first r o = begins o (slice_get source.routines r) (known r)

  -- answers bring operands, and at most an object in which nothing is to do

  new_there : (source : Source) (h : ℕ) (todo : List Todo) → ArrayMembers few (home.Object h) (new_members source todo)
  new_there source h [] = tt
  new_there source h (piece.BindMadeNow c r ∷ todo) = tt
  new_there source h (p ∷ todo) = tt

  -- with other operands
  with_operands : (s : State) (vs : List Value) → ArrayState few s → ArrayState few (record s { run = record s.run { operands = vs } })
  with_operands s vs h = record { frames = h.frames; stack = (h.stack.0, h.stack.1, h.stack.2); env = h.env }

  entered_there : (m : Option Members) (o : ℕ) (s : State) → ArrayMembers few (home.Object o) m → ArrayState few s → ArrayState few (with_operand (piece.Object o) (entered m o s))
  entered_there None o s k h = with_operands s _ h
  entered_there (Some m) o s k h = record { frames = h.frames; stack = (h.stack.0, h.stack.1, h.stack.2); env = record { house = h.env.house; hand = parked.more_hand (ArrayEx few) s.env.hand o m k h.env.hand } }

  pub answered_there : (source : Source) (given : Answer) (s : State) → ArrayState few s → ArrayState few (answered source given s)
  answered_there source (answer.Object o) s h = entered_there (new_members source s.run.control) o s (new_there source o s.run.control) h
  answered_there source (answer.Number n) s h = with_operands s _ h
  answered_there source (answer.Value n failed) s h = with_operands s _ h
  answered_there source (answer.Clause k failed) s h = with_operands s _ h
  answered_there source (answer.Event n x y) s h = with_operands s _ h
  answered_there source answer.Nothing s h = with_operands s _ h
  answered_there source answer.Go s h = h

pub law_array_steps : LawArraySteps
law_array_steps = record {
  begins = λ few source known r o. first few source known r o;
  steps = λ few source known s h f. stepped few source known s h f;
  told = λ few source given s h. answered_there few source given s h;
}

-- Every quiet step of a state in which what is called is the execution's own, and answers to it.
use Rattle.std.proofs.Common.{◌≡◌, ℕ, true, false, inl, List, [], ◌∷◌, ◌++◌, drop, Option, Some, None, refl, sym, subst}
use Rattle.std.specs.Prelude.{nat_lt, slice_get, if◌then◌else◌}
use Rattle.uc_tree.specs.Source as src
use Rattle.uc_tree.specs.Source.{Routine, routine_or_none, routine_of}
use Rattle.uc_tree.specs.Programs.{Program}
use Rattle.uc_entry.specs.declared.fault.RunFault.TheVariants.{NoReturn}
use Rattle.uc_entry.specs.declared.request.Answer.{Answer}
use Rattle.uc_entry.specs.declared.request.Answer.TheVariants as answer
use Rattle.uc_machine.specs.declared.exec.Home.{Home}
use Rattle.uc_machine.specs.declared.exec.Home.TheVariants as home
use Rattle.uc_machine.specs.Executions.{values_cleared}
use Rattle.uc_machine.specs.Raising as raising
use Rattle.uc_machine.specs.Raising.{Found}
use Rattle.uc_machine.specs.Monitors as monitors
use Rattle.uc_machine.specs.Quiet as quiet
use Rattle.uc_machine.specs.Quiet.{first_state}
use Rattle.uc_machine.specs.Pieces as piece
use Rattle.uc_machine.specs.Pieces.{Value, Todo, State, Members, at, top, below, number}
use Rattle.uc_machine.specs.Answering.{answered, child_main, entered, new_members, with_operand}
use Rattle.uc_answer_laws.specs.Suiting.{Form, AnObject, AClause, ANumber, AValue, AnEvent, JustGo, IsForm}
use Rattle.uc_state_laws.specs.Layout.{Sized}
use Rattle.uc_state_laws.specs.RoomStacks.{StackState}
use Rattle.uc_life_laws.specs.LifeRuns.{IsLaidOut}
use Rattle.uc_place_laws.specs.OlderResting.{AllWait, NamedParked, NamedHand, NamedEnv}
use Rattle.uc_place_laws.proofs.AsideKeeping as kept
use Rattle.uc_place_laws.proofs.AsideKeeping.{either}
use Rattle.uc_putting_laws.specs.CleanedSpots.{NoSite, Reach, reach_of, from_variable, apart}
use Rattle.uc_putting_laws.specs.Seats.{Searched, IsSeated}
use Rattle.uc_putting_laws.specs.Calling.{CallingStmts}
use Rattle.uc_putting_laws.specs.Putting.{Setting, Around, Mark, Any, FirstCounter, Holds, rest, rests, OpensRest, Counts, Plain, CodeStmt, CodeRoutine, Ok, Left, Finds, FindsFor, Runs, Waits, PutMembers, PutState, PutStep}
use Rattle.uc_putting_laws.specs.PuttingLaws.{FairAt, Fair}
use Rattle.uc_putting_laws.proofs.Marks.{holds_below, holds_spread, IsIndex, index_below, index_is, counter_of, left}
use Rattle.uc_putting_laws.proofs.OwnMarks.{frames_within, first_seat}
use Rattle.uc_putting_laws.proofs.PuttingTodos as todos
use Rattle.uc_putting_laws.proofs.Searches.{FoundCode, found_code}
use Rattle.uc_putting_laws.proofs.Seats.{RoundIn, round_in}
use Rattle.uc_putting_laws.proofs.Steps as steps
use Rattle.uc_putting_laws.proofs.Steps.{here}
use Rattle.uc_putting_laws.proofs.MonitorSteps as monitor_steps
use Rattle.uc_putting_laws.proofs.Lone.{scope_lone, part_lone, lone_behind, lone_stmt}

module _ (program : Program) (g : Setting) (laid : IsLaidOut (Sized program) g.table) (known : (n : ℕ) → CodeRoutine g (g.special n) (g.table.routine n).this (slice_get g.source.routines n)) where
  module _ (s : State) (st : StackState (Sized program) s) (fair : Fair g s) (callers : AllWait (Runs g) (Waits g) s.env.exec s.callers) (env : NamedEnv (Runs g) (Waits g) s.env) (made : Reach) (this : IsSeated g.table g.source g.special g.few made s.env.exec s.callers s.run.frame s.run.handles s.run.this) (ms : List Mark) (holds : Holds g.few (here s) s.run.elements ms s.run.operands) where
    abbrev H : List Mark → List Value → Type 0
    H ns vs = Holds g.few (here s) s.run.elements ns vs

    abbrev O : List Mark → List Todo → Type 0
    O ns todo = Ok g (here s) made ns todo

    go : (ns : List Mark) (todo : List Todo) (vs : List Value) → H ns vs → O ns todo → PutState g (at todo vs s)
    go = steps.go g s callers env made this

    anew : (todo : List Todo) (vs : List Value) → O [] todo → PutState g (at todo vs s)
    anew = steps.anew g s callers env made this

    one : H (rest ms) (below s.run.operands)
    one = holds_below g.few (here s) s.run.elements ms s.run.operands holds

    two : H (rest (rest ms)) (below (below s.run.operands))
    two = holds_below g.few (here s) s.run.elements (rest ms) (below s.run.operands) one

    -- the same with an unwinding before it
    unwound : (c : src.CleanUp) (ps : List Todo) → todos.LoneFor g (here s) made c ps → todos.LoneFor g (here s) made c (piece.Unwind ∷ ps)
    unwound (src.Destroys e) ps h = h
    unwound (src.DestroysAll m e) ps h = h
    unwound c ps h = tt

    fair_at : (l : List Todo) → s.run.control ≡ l → FairAt g l s
    fair_at l e = subst (λ l. FairAt g l s) e fair

    frames : steps.InFrames g s callers env made this ms holds
    frames = record { count = st.frames; low = st.stack.0.frame; within = frames_within (Sized program) s.env.frames s.callers st.stack.1 }

    past : (p : Todo) (ps : List Todo) → s.run.control ≡ piece.Unwind ∷ (p ∷ ps) → Left g (here s) made (p ∷ ps) → steps.LonePast g s callers env made this (piece.sort p) ps
    past (piece.Clean x) ps e h = unwound x ps (scope_lone (Sized program) g laid s st callers env made this true x ps e h.0 (left g (here s) made [] ps h.1))
    past (piece.Part x) ps e h = unwound x ps (part_lone (Sized program) g laid s st callers env made this x ps e h.0 (left g (here s) made [] ps h.1))
    past p ps e h = tt

    -- one piece, with what is to do behind it
    acts : (p : Todo) (todo : List Todo) → s.run.control ≡ p ∷ todo → Ok g (here s) made ms (p ∷ todo) → PutStep g (quiet.act g.source p todo s)
    acts (piece.Eval a) todo c h = steps.evals g s callers env made this ms holds a todo h
    acts piece.LoadNow todo c h = steps.load g s callers env made this ms holds todo (fair_at (piece.LoadNow ∷ todo) c) h
    acts (piece.ElementNow m k) todo c h = steps.element g s callers env made this (FirstCounter ms) (rest ms) m k _ todo _ _ (holds_spread g.few (here s) s.run.elements (rest ms) (below s.run.operands) one) (index_below m (number (top s.run.operands))) (λ c. subst (λ v. IsIndex s.run.elements (piece.index_in m (number v))) (sym (counter_of g.few (here s) s.run.elements ms s.run.operands holds c)) (index_is m s.run.elements)) h
    acts (piece.FieldNow k i) todo c h = go (Any ∷ rest ms) _ _ (tt, one) h.1
    acts piece.NegateNow todo c h = steps.outcome g s callers env made this (rest ms) _ todo _ one h.1
    acts piece.NotNow todo c h = go (Any ∷ rest ms) _ _ (tt, one) h.1
    acts piece.CharacterNow todo c h = go (Any ∷ rest ms) _ _ (tt, one) h.1
    acts piece.TruthNow todo c h = go (Any ∷ rest ms) _ _ (tt, one) h.1
    acts (piece.OperateNow op) todo c h = steps.outcome g s callers env made this (rest (rest ms)) _ todo _ two h.1
    acts piece.CopyNow todo c h = go (Any ∷ ms) _ _ (tt, holds) h.1
    acts piece.CopyBelowNow todo c h = go (Any ∷ ms) _ _ (tt, holds) h.1
    acts piece.DropNow todo c h = go (rest ms) _ _ one h.1
    acts piece.DropBelowNow todo c h = go (Any ∷ rest (rest ms)) _ _ (tt, two) h.1
    acts piece.StoreNow todo c h = steps.go_in g s callers env made this (rest (rest ms)) _ _ _ two h.1 (steps.write g s callers env made this (top (below s.run.operands)) (piece.Number (number (top s.run.operands))))
    acts piece.KeepNow todo c h = steps.go_in g s callers env made this (Any ∷ rest (rest ms)) _ _ _ (tt, two) h.1 (steps.write g s callers env made this (top (below s.run.operands)) (piece.Number (number (top s.run.operands))))
    acts (piece.SetNow k) todo c h = steps.go_in g s callers env made this ms _ _ _ holds h.1 (steps.write g s callers env made this (piece.variable_at k s) (piece.Number (number (top s.run.operands))))
    acts piece.BindNow todo c h = steps.go_in g s callers env made this (Any ∷ rest (rest ms)) _ _ _ (tt, two) h.1 (steps.write g s callers env made this (top (below s.run.operands)) (top s.run.operands))
    acts (piece.Choose e f) todo c h = go (rest ms) _ _ one (either (Counts g) (piece.is_zero (number (top s.run.operands))) f e h.0.1.0 h.0.0.0, inl (either (Plain g) (piece.is_zero (number (top s.run.operands))) f e h.0.1.1 h.0.0.1, h.1))
    acts (piece.Branch a b) todo c h = anew _ _ (todos.inner g (here s) made (OpensRest g.table todo) (if piece.is_zero (number (top s.run.operands)) then b else a) (either (CodeStmt g NoSite (apart made)) (piece.is_zero (number (top s.run.operands))) b a h.0.1 h.0.0), h.1)
    acts piece.TickNow todo c h = go ms _ _ holds h.1
    acts (piece.TurnNow o t e b) todo c h = anew _ _ (todos.inner g (here s) made (OpensRest g.table (piece.InLoop o t e b ∷ todo)) b h.0.2, (h.0, h.1))
    acts (piece.Arguments src.NoExprs) todo c h = go ms _ _ holds h.1
    acts (piece.Arguments (src.MoreExprs e es)) todo c h = go ms _ _ holds (h.0.0.0, inl (h.0.1.0, ((h.0.0.1, h.0.1.1), h.1)))
    acts (piece.CallNow r) todo c h = steps.call g s callers env made this ms holds frames (g.special r) (g.table.routine r).this (slice_get g.source.routines r) todo h.0 (known r) h.1
    acts (piece.CallOnNow r) todo c h = steps.call_on g s callers env made this ms holds frames (g.special r) (g.table.routine r).this (slice_get g.source.routines r) todo (known r) h.0 h.1
    acts (piece.CallUnwrittenNow r) todo c h = steps.call_unwritten g s callers env made this ms holds frames (g.special r) (g.table.routine r).this (slice_get g.source.routines r) todo (known r) h.0 h.1
    acts (piece.CountNow m) todo c h = record { run = record { made = made; this = this; marks = []; holds = tt; ok = h.1 }; callers = callers; env = env }
    acts piece.MoreNow todo c h = record { run = record { made = made; this = this; marks = []; holds = tt; ok = h.1 }; callers = callers; env = env }
    acts (piece.FillNow m b d) todo c h = anew _ _ (todos.filled g (here s) made (nat_lt s.run.elements m) m b d todo h.0.0 h.0.1 h.1)
    acts (piece.Again o t e b) todo c h = anew _ _ (either (Ok g (here s) made []) (piece.is_zero (number (top s.run.operands))) todo (piece.TurnNow o t e b ∷ todo) h.1 (h.0, h.1))
    acts (piece.PrintNow f) todo c h = steps.prints g s callers env made this s.env.gathered _ todo _ h.1
    acts (piece.TextNow k) todo c h = steps.prints g s callers env made this s.env.gathered _ todo _ h.1
    acts piece.GatherNow todo c h = steps.go_in g s callers env made this [] _ _ _ tt h.1 (steps.same g s callers env made this refl refl refl refl)
    acts piece.FlushNow todo c h = steps.flushes g s callers env made this s.env.gathered todo _ h.1
    acts (piece.ReadNow f) todo c h = record { run = record { made = made; this = this; marks = ms; holds = holds; ok = h.1 }; callers = callers; env = env }
    acts (piece.ClearNow k m) todo c h = steps.go_in g s callers env made this ms _ _ _ holds h.1 (kept.owned_keeps (Runs g) (Waits g) (todos.calm g) (piece.this_frame s) (values_cleared k m piece.nought) s.env env)
    acts (piece.Items []) todo c h = anew _ _ h.1
    acts (piece.Items (i ∷ is)) todo c h = anew _ _ (todos.item g (here s) made i is _ h.0 ((h.0.0.1, h.0.1.1), h.1))
    acts (piece.Values []) todo c h = anew _ _ h.1
    acts (piece.Values (i ∷ is)) todo c h = anew _ _ (todos.item_value g (here s) made i is _ h.0 (λ ns. ((h.0.0.1, h.0.1.1), h.1)))
    acts (piece.Pieces []) todo c h = anew _ _ h.1
    acts (piece.Pieces (i ∷ is)) todo c h = anew _ _ ((h.0.0.1, h.0.1.1), todos.item_piece g (here s) made i todo h.1)
    acts (piece.Targets []) todo c h = anew _ _ h.1
    acts (piece.Targets (t ∷ ts)) todo c h = anew _ _ (h.0.0.0, inl (h.0.1.0, (tt, (tt, ((h.0.0.1, h.0.1.1), h.1)))))
    acts (piece.Variables []) todo c h = anew _ _ h.1
    acts (piece.Variables (d ∷ ds)) todo c h = anew _ _ (tt, todos.starts g (here s) made d.cell d.value (piece.Variables ds ∷ todo) (h.0.0.0, h.0.1.0) ((h.0.0.1, h.0.1.1), h.1))
    acts (piece.Do a) todo c h = steps.stmt g s callers env made this a todo h.0 (lone_behind (Sized program) g laid s st callers env made this a todo c h.1) (lone_stmt (Sized program) g laid s st callers env made this (OpensRest g.table todo) a todo c h.0 (left g (here s) made [] todo h.1)) h.1
    acts (piece.Rest ss) todo c h = steps.rest_of g s callers env made this ss todo h.0 h.1
    acts (piece.Within line) todo c h = anew _ _ h.1
    acts (piece.Exit w) todo c h = steps.exits g s callers env made this w todo h
    acts piece.NoReturnNow todo c h = steps.stop g s callers env made this NoReturn todo _
    acts (piece.InLoop o t e b) todo c h = anew _ _ (todos.stepped g (here s) made e _ h.0.1 (todos.tested g (here s) made o t e b todo h.0 h.1))
    acts piece.InWhole todo c h = anew _ _ h.1
    acts (piece.Clean x) todo c h = anew _ _ (todos.cleans g (here s) made x todo todo (λ k. k) h.0 (scope_lone (Sized program) g laid s st callers env made this false x todo c h.0 (left g (here s) made [] todo h.1)) h.1)
    acts (piece.Sweep e) todo c h = steps.swept g s callers env made this s.run.elements e todo h.0 h.1
    acts (piece.Part x) todo c h = anew _ _ h.1
    acts (piece.Guard hs) todo c h = anew _ _ h.1
    acts piece.Unwind todo c h = steps.unwinds g s callers env made this todo h (λ p ps e. past p ps (subst (λ l. s.run.control ≡ piece.Unwind ∷ l) e c) (subst (Left g (here s) made) e h))
    acts piece.ThrowNow todo c h = steps.thrown g s callers env made this (raising.event_in s.run.operands) todo h.1
    acts piece.RaiseNow todo c h = steps.raises g s callers env made this ms (raising.event_in s.run.operands) todo holds h.1
    acts (piece.SetUpNow r) todo c h = steps.set_up g s callers env made this ms holds (g.special r) (g.table.routine r).this (slice_get g.source.routines r) todo h.0.1 (known r) h.1
    acts piece.EnlivenNow todo c h = steps.go_in g s callers env made this [] _ _ _ tt h.1 (kept.enlivened_keeps (Runs g) (Waits g) (todos.calm g) (piece.own_exec s) s.env env)
    acts piece.TakeDownNow todo c h = steps.moved g s callers env made this _ todo _ (kept.take_down_rests (Runs g) (Waits g) (todos.calm g) (piece.own_exec s) (at todo s.run.operands s) (anew _ _ h.1))
    acts piece.ForgetNow todo c h = steps.go_in g s callers env made this [] _ _ _ tt h.1 (kept.forgotten_keeps (Runs g) (Waits g) (todos.calm g) (piece.own_exec s) s.env env)
    acts (piece.LiveNow r) todo c h = steps.live g s callers env made this ms holds (slice_get g.source.routines r) todo h.1
    acts piece.ResumeNow todo c h = steps.moved g s callers env made this _ (piece.Land ∷ todo) _ (kept.wake_rests (Runs g) (Waits g) (todos.calm g) (quiet.resumed s) (at (piece.Land ∷ todo) s.run.operands s) (anew _ _ (tt, h.1)))
    acts piece.SuspendNow todo c h = steps.moved g s callers env made this _ (piece.Land ∷ todo) _ (kept.suspend_rests (Runs g) (Waits g) (todos.calm g) (at (piece.Land ∷ todo) s.run.operands s) (anew _ _ (tt, h.1)))
    acts piece.Land todo c h = steps.land g s callers env made this s.run.raised ms todo holds h.1
    acts (piece.EnterNow m r) todo c h = monitor_steps.enter g s callers env made this ms holds m (slice_get g.source.routines r) todo h.1
    acts piece.LeaveNow todo c h = monitor_steps.leave g s callers env made this ms holds _ (monitors.this_object s) todo h.1
    acts (piece.MakeNow k r) todo c h = monitor_steps.make g s callers env made this ms holds k r (slice_get g.source.routines r) todo h
    acts (piece.BindMadeNow k r) todo c h = monitor_steps.bind g s callers env made this ms holds (slice_get g.source.routines r) todo (fair_at (piece.BindMadeNow k r ∷ todo) c) h
    acts piece.MadeNow todo c h = monitor_steps.unless g s callers env made this ms holds (monitors.this_object s) _ todo (record { run = record { made = made; this = this; marks = []; holds = tt; ok = h.1 }; callers = callers; env = todos.likes g env refl refl refl })
    acts (piece.SpawnNow r) todo c h = monitor_steps.unless g s callers env made this ms holds (monitors.this_object s) _ (piece.ChildNow r ∷ todo) (record { run = record { made = made; this = this; marks = []; holds = tt; ok = (h.0.0, h.1) }; callers = callers; env = todos.likes g env refl refl refl })
    acts (piece.ChildNow r) todo c h = anew _ _ h.1
    acts piece.GoneNow todo c h = record { run = record { made = made; this = this; marks = []; holds = tt; ok = h.1 }; callers = callers; env = todos.likes g env refl refl refl }
    acts piece.GiveUpNow todo c h = record { run = record { made = made; this = this; marks = []; holds = tt; ok = h.1 }; callers = callers; env = todos.likes g env refl refl refl }
    acts piece.ClusterNow todo c h = record { run = record { made = made; this = this; marks = ms; holds = holds; ok = h.1 }; callers = callers; env = env }
    acts piece.ProcessorNow todo c h = record { run = record { made = made; this = this; marks = rest ms; holds = one; ok = h.1 }; callers = callers; env = env }
    acts piece.ClusterEndNow todo c h = record { run = record { made = made; this = this; marks = Any ∷ rest ms; holds = (tt, one); ok = h.1 }; callers = callers; env = env }
    acts piece.ProcessorEndNow todo c h = record { run = record { made = made; this = this; marks = Any ∷ rest ms; holds = (tt, one); ok = h.1 }; callers = callers; env = env }
    acts (piece.ConditionNow k m) todo c h = steps.condition g s callers env made this (rest ms) k _ todo one h.1
    acts piece.WaitNow todo c h = monitor_steps.unless g s callers env made this ms holds (monitors.this_object s) _ todo (record { run = record { made = made; this = this; marks = Any ∷ rest (rest ms); holds = (tt, two); ok = h.1 }; callers = callers; env = env })
    acts piece.SignalNow todo c h = record { run = record { made = made; this = this; marks = Any ∷ rest ms; holds = (tt, one); ok = h.1 }; callers = callers; env = env }
    acts piece.SignalBlockNow todo c h = monitor_steps.unless g s callers env made this ms holds (monitors.this_object s) _ todo (record { run = record { made = made; this = this; marks = Any ∷ rest ms; holds = (tt, one); ok = h.1 }; callers = callers; env = env })
    acts piece.EmptyNow todo c h = record { run = record { made = made; this = this; marks = rest ms; holds = one; ok = h.1 }; callers = callers; env = env }
    acts piece.FrontNow todo c h = record { run = record { made = made; this = this; marks = rest ms; holds = one; ok = h.1 }; callers = callers; env = env }
    acts piece.YieldNow todo c h = record { run = record { made = made; this = this; marks = []; holds = tt; ok = h.1 }; callers = callers; env = env }
    acts piece.MigrateNow todo c h = record { run = record { made = made; this = this; marks = []; holds = tt; ok = h.1 }; callers = callers; env = env }
    acts (piece.Guards src.NoClauses) todo c h = anew _ _ h.1
    acts (piece.Guards (src.Otherwise b)) todo c h = anew _ _ h.1
    acts (piece.Guards (src.MoreClauses guard b cs)) todo c h = anew _ _ (h.0.0.0, inl (h.0.1.0, ((h.0.0.2, h.0.1.2), h.1)))
    acts (piece.AcceptNow site m) todo c h = monitor_steps.accept g s callers env made this ms holds _ (monitors.this_object s) site todo _ h.1
    acts piece.FailedNow todo c h = monitor_steps.failed g s callers env made this ms holds _ todo _ h.1
    acts (piece.ChooseNow cs) todo c h = anew _ _ (todos.branch g (here s) made _ cs todo h.0 h.1)
    acts piece.RaiseAtNow todo c h = monitor_steps.raise_at g s callers env made this ms holds (top s.run.operands) (raising.event_in (below s.run.operands)) todo (drop 4 s.run.operands) h.1
    acts (piece.EnableNow events cell) todo c h = monitor_steps.enables g s callers env made this ms holds _ cell todo h.1
    acts (piece.DisableNow events cell) todo c h = monitor_steps.enables g s callers env made this ms holds _ cell todo h.1
    acts (piece.RestoreNow cell) todo c h = steps.go_in g s callers env made this [] _ _ _ tt h.1 (steps.same g s callers env made this refl refl refl refl)
    acts piece.PollNow todo c h = monitor_steps.poll g s callers env made this ms holds todo h.1
    acts piece.DeliverNow todo c h = monitor_steps.deliver g s callers env made this ms holds _ todo h.1
    acts piece.Finish todo c h = monitor_steps.unless g s callers env made this ms holds s.env.own _ todo (steps.returned g s callers env made this _ s.callers callers)
    acts piece.FinishCoroutine todo c h = steps.moved g s callers env made this _ todo _ (kept.finish_rests (Runs g) (Waits g) (todos.calm g) (at todo s.run.operands s) (anew _ _ h.1))

  pub walk : (s : State) → PutState g s → StackState (Sized program) s → Fair g s → PutStep g (quiet.quiet g.source s)
  walk s h st fair = by s.run.control refl
    where
      by : (l : List Todo) → s.run.control ≡ l → PutStep g (quiet.act_todo g.source l s)
      by [] e = steps.returned g s h.callers h.env h.run.made h.run.this _ s.callers h.callers
      by (p ∷ todo) e = acts s st fair h.callers h.env h.run.made h.run.this h.run.marks h.run.holds p todo e (subst (Ok g (here s) h.run.made h.run.marks) e h.run.ok)

-- a handler that is found where an event is resumed names variables alone, from one on
abbrev pub HandlerFound : Setting → Option Found → Type 0
HandlerFound g None = Unit {0}
HandlerFound g (Some y) = (x : ℕ) × CallingStmts g.table g.source g.special (from_variable x) y.handler.body

module _ (g : Setting) (s : State) (put : PutState g s) where
  -- its code is known by what is known of its frame
  found_by : (todo : List Todo) → Left g (here s) put.run.made todo → (o : Option Found) → ((x f : ℕ) → Searched g.table g.source g.special x None f (record s.run { control = todo } ∷ s.callers) → FoundCode g.table g.source g.special x f o) → HandlerFound g o
  found_by todo l None c = tt
  found_by todo l (Some y) c =
      let r : RoundIn g s.env.exec (record s.run { control = todo }) s.callers put.run.made put.run.this l y.frame = round_in g s.env.exec (record s.run { control = todo }) s.callers put.run.made put.run.this l y.frame in
      (r.cell, c r.cell y.frame r.code refl)

  pub handler_found : (e : raising.Event) (todo : List Todo) → s.run.control ≡ piece.RaiseNow ∷ todo → HandlerFound g (raising.seek None e (record s.run { control = todo } ∷ s.callers))
  handler_found e todo q =
      let ok : Ok g (here s) put.run.made put.run.marks (piece.RaiseNow ∷ todo) = subst (Ok g (here s) put.run.made put.run.marks) q put.run.ok in
      found_by todo (left g (here s) put.run.made (rests 3 put.run.marks) todo ok.1) (raising.seek None e (record s.run { control = todo } ∷ s.callers)) (λ x f c. found_code g.table g.source g.special x f None e (record s.run { control = todo } ∷ s.callers) c)

module _ (g : Setting) (known : (n : ℕ) → CodeRoutine g (g.special n) (g.table.routine n).this (slice_get g.source.routines n)) where
  begins : (o : ℕ) (c : Option ℕ) (r : Option Routine) → CodeRoutine g false c r → PutState g (first_state (routine_or_none r) o)
  begins o c None h = record { run = record { made = reach_of false c; this = first_seat g _ 0 _ c; marks = []; holds = tt; ok = (inl (tt, tt), (tt, tt)) }; callers = tt; env = record { house = (tt, tt); hand = tt } }
  begins o c (Some r) h = record { run = record { made = reach_of false c; this = first_seat g _ 0 _ c; marks = []; holds = tt; ok = todos.routine g (here (first_state r o)) (reach_of false c) r (h.0, h.1) }; callers = tt; env = record { house = (tt, tt); hand = tt } }

  -- a task begins so
  pub first_put : (r o : ℕ) → g.special r ≡ false → PutState g (first_state (routine_of g.source r) o)
  first_put r o e = begins o (g.table.routine r).this (slice_get g.source.routines r) (subst (λ b. CodeRoutine g b (g.table.routine r).this (slice_get g.source.routines r)) e (known r))

module _ (g : Setting) where
  -- what is spawned begins with a main
  pub child_plain : (A : Around) (made : Reach) (ms : List Mark) (todo : List Todo) → g.special g.source.main ≡ false → Ok g A made ms todo → g.special (child_main g.source todo) ≡ false
  child_plain A made ms [] m h = m
  child_plain A made ms (piece.ChildNow r ∷ todo) m h = h.0
  child_plain A made ms (p ∷ todo) m h = m

-- an answer of its form brings the operands that a state is to find, and at most an object in which nothing is to do

module _ (g : Setting) where
  more_hand : (hand : List (ℕ × Members)) (o : ℕ) (m : Members) → NamedParked (Runs g) (Waits g) (home.Object o) m.parked → NamedHand (Runs g) (Waits g) hand → NamedHand (Runs g) (Waits g) (hand ++ (o, m) ∷ [])
  more_hand [] o m h k = (h, tt)
  more_hand (p ∷ hand) o m h k = (k.0, more_hand hand o m h k.1)

  new_put : (h : Home) (todo : List Todo) → PutMembers g h (new_members g.source todo)
  new_put h [] = tt
  new_put h (piece.BindMadeNow c r ∷ todo) = tt
  new_put h (p ∷ todo) = tt

  -- with operands more it goes on
  found : (s : State) (many : ℕ) (ms : List Mark) (vs : List Value) → (f : Finds g many s.env.exec s.callers s.run) → Holds g.few (here s) s.run.elements ms vs → Ok g (here s) f.made ms s.run.control → Runs g s.env.exec s.callers (record s.run { operands = vs })
  found s many ms vs f h k = record { made = f.made; this = f.this; marks = ms; holds = h; ok = k }

  entered_put : (m : Option Members) (o : ℕ) (s : State) → PutMembers g (home.Object o) m → Finds g 1 s.env.exec s.callers s.run → AllWait (Runs g) (Waits g) s.env.exec s.callers → NamedEnv (Runs g) (Waits g) s.env → PutState g (with_operand (piece.Object o) (entered m o s))
  entered_put None o s k f c e = record { run = found s 1 (Any ∷ f.marks) _ f (tt, f.holds) f.ok; callers = c; env = e }
  entered_put (Some m) o s k f c e = record { run = found s 1 (Any ∷ f.marks) _ f (tt, f.holds) f.ok; callers = c; env = record { house = e.house; hand = more_hand s.env.hand o m k e.hand } }

  pub answered_put : (form : Form) (given : Answer) (s : State) → IsForm form given → FindsFor g form s.env.exec s.callers s.run → AllWait (Runs g) (Waits g) s.env.exec s.callers → NamedEnv (Runs g) (Waits g) s.env → PutState g (answered g.source given s)
  answered_put AnObject (answer.Object o) s k f c e = entered_put (new_members g.source s.run.control) o s (new_put (home.Object o) s.run.control) f c e
  answered_put AClause (answer.Clause n failed) s k f c e = record { run = found s 2 (Any ∷ (Any ∷ f.marks)) _ f (tt, (tt, f.holds)) f.ok; callers = c; env = e }
  answered_put ANumber (answer.Number n) s k f c e = record { run = found s 1 (Any ∷ f.marks) _ f (tt, f.holds) f.ok; callers = c; env = e }
  answered_put AValue (answer.Value n failed) s k f c e = record { run = found s 1 (Any ∷ f.marks) _ f (tt, f.holds) f.ok; callers = c; env = e }
  answered_put AnEvent (answer.Event n x y) s k f c e = record { run = found s 3 (Any ∷ (Any ∷ (Any ∷ f.marks))) _ f (tt, (tt, (tt, f.holds))) f.ok; callers = c; env = e }
  answered_put AnEvent answer.Nothing s k f c e = record { run = found s 3 (Any ∷ (Any ∷ (Any ∷ f.marks))) _ f (tt, (tt, (tt, f.holds))) f.ok; callers = c; env = e }
  answered_put JustGo answer.Go s k f c e = record { run = f; callers = c; env = e }
  answered_put form given s k f c e = absurd k

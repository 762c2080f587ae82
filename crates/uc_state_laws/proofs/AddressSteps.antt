-- A quiet step keeps frames as small as they are, or makes one for a routine.
use Rattle.std.proofs.Common.{◌≡◌, ◌≤◌, ◌+◌, ◌-◌, ◌++◌, ℕ, zero, suc, Bool, true, false, List, [], ◌∷◌, length, drop, Option, Some, None, refl, arith, ap}
use Rattle.std.specs.Prelude.{nat_eq, nat_lt, replicate, slice_get}
use Rattle.uc_tree.specs.declared.limits.TheConstants.{CALLS, PENDING_EVENTS}
use Rattle.uc_tree.specs.Source as src
use Rattle.uc_tree.specs.Source.{Shape, Expr, ObjectExpr, Stmt, Stmts, EventStmt, TaskStmt, Routine, Source, Way, CleanUp, Handlers, routine_or_none, routine_of}
use Rattle.uc_entry.specs.declared.request.Answer.{Answer}
use Rattle.uc_entry.specs.declared.request.Answer.TheVariants as answer
use Rattle.uc_entry.specs.declared.request.Piece.{Piece}
use Rattle.uc_entry.specs.Keyed.{find, signed_64}
use Rattle.uc_machine.specs.declared.exec.Exec.{Exec}
use Rattle.uc_machine.specs.declared.exec.Pending.{Pending}
use Rattle.uc_machine.specs.declared.exec.UnwindReason.{UnwindReason}
use Rattle.uc_machine.specs.declared.exec.UnwindReason.TheVariants as reason
use Rattle.uc_machine.specs.declared.exec.Visited.{Visited}
use Rattle.uc_machine.specs.Executions.{others, take_operands, first_or, values_cleared}
use Rattle.uc_machine.specs.Switches as sw
use Rattle.uc_machine.specs.Switches.{Moved, To, Stops}
use Rattle.uc_machine.specs.Insides as inside
use Rattle.uc_machine.specs.Raising as raising
use Rattle.uc_machine.specs.Raising.{Event, Handler, Found}
use Rattle.uc_machine.specs.Monitors as monitors
use Rattle.uc_machine.specs.Polls as polls
use Rattle.uc_machine.specs.Quiet as quiet
use Rattle.uc_machine.specs.Quiet.{first_state}
use Rattle.uc_machine.specs.Pieces as piece
use Rattle.uc_machine.specs.Pieces.{Value, Number, Object, Nothing, Todo, Sort, Active, State, Members, Step, Outcome, Gives, Faults, at, top, below, nought, number}
use Rattle.uc_machine.specs.Answering.{answered, entered, new_members, with_operand}
use Rattle.uc_site_laws.proofs.Kept.{either}
use Rattle.uc_state_laws.specs.FrameSizes.{ParkedFit, HandFits, MembersFit, StateFits, StepFits, RoutineFits, MaybeRoutineFits, SourceFits}
use Rattle.uc_state_laws.proofs.AddressKeeping as kept
use Rattle.uc_state_laws.proofs.AddressKeeping.{MovedFits}

operands_taken : (n : ℕ) (xs ys : List Value) → length (take_operands Nothing n xs ys) ≡ n + length ys
operands_taken zero xs ys = let h : length ys ≡ 0 + length ys = omega arith in h
operands_taken (suc n) xs ys =
    let h = operands_taken n (others xs) (first_or Nothing xs ∷ ys) in
    omega (arith, h)

replicated : (n : ℕ) (v : Value) → length (replicate n v) ≡ n
replicated zero v = refl
replicated (suc n) v = ap suc (replicated n v)

module _ (most : ℕ) where
  call_fits : (r : Routine) (vs : List Value) → RoutineFits most r → length (quiet.call_frame r vs) ≤ most
  call_fits r vs n =
      let h = operands_taken r.params vs (replicate (r.cells - r.params) nought) in
      let k = replicated (r.cells - r.params) nought in
      let cells = n.cells in
      let params = n.params in
      omega (arith, h, k, cells, params)

  new_fits : (r : Routine) → RoutineFits most r → length (replicate r.cells nought) ≤ most
  new_fits r n =
      let k = replicated r.cells nought in
      let cells = n.cells in
      omega (arith, k, cells)

  module _ (s : State) (h : StateFits most s) where
    moved : (m : Moved (List Todo) Value) (todo : List Todo) (vs : List Value) → MovedFits most m → StepFits most (piece.moves m (at todo vs s))
    moved (To t) todo vs k = k
    moved (Stops f) todo vs k = h

    outcome : (x : Outcome) (todo : List Todo) (vs : List Value) → StepFits most (piece.outcome_step x todo vs s)
    outcome (Gives n) todo vs = h
    outcome (Faults f) todo vs = h

    element : (k : Shape) (i : Option ℕ) (todo : List Todo) (v : Value) (vs : List Value) → StepFits most (piece.element_step k i todo v vs s)
    element k None todo v vs = h
    element k (Some n) todo v vs = h

    -- expressions

    object : (o : ObjectExpr) (todo : List Todo) → StepFits most (quiet.object_step o todo s)
    object (src.EndOn r false a) todo = h
    object (src.EndOn r true a) todo = h
    object (src.MakeOn c r false a args) todo = h
    object (src.MakeOn c r true a args) todo = h
    object o todo = h

    eval : (a : Expr) (todo : List Todo) → StepFits most (quiet.eval_step a todo s)
    eval (src.OfObject o) todo = object o todo
    eval a todo = h

    -- the end of an activation

    returned : (given : Value) (cs : List Active) → StepFits most (piece.return_step given cs s)
    returned given [] = h
    returned given (c ∷ cs) = (kept.others_fit most s.env.frames h.0, h.1, h.2)

    past : (v : Visited) (given : Value) (cs : List Active) → StepFits most (raising.return_past v given cs s)
    past v given [] = h
    past v given (c ∷ cs) = (kept.others_fit most s.env.frames h.0, h.1, h.2)

    end_by : (v : Option Visited) (given : Value) → StepFits most (raising.end_by v given s)
    end_by None given = returned given s.callers
    end_by (Some v) given = past v given s.callers

    end_step : (w : Way) → StepFits most (quiet.end_step w s)
    end_step src.ToReturn = end_by s.run.handles _
    end_step src.ToEnd = end_by s.run.handles _
    end_step src.ToBreak = returned _ s.callers
    end_step src.ToContinue = returned _ s.callers

    exits : (w : Way) (todo : List Todo) → StepFits most (quiet.exit_step w todo s)
    exits w [] = end_step w
    exits w (p ∷ ps) = h

    -- statements

    swept : (n : ℕ) (e : Expr) (todo : List Todo) → StepFits most (quiet.sweep_step n e todo s)
    swept zero e todo = h
    swept (suc n) e todo = h

    event : (a : EventStmt) (todo : List Todo) → StepFits most (quiet.event_step a todo s)
    event (src.Throw line r) todo = h
    event a todo = h

    task : (a : TaskStmt) (todo : List Todo) → StepFits most (quiet.task_step a todo s)
    task (src.Resume line) todo = h
    task a todo = h

    stmt : (a : Stmt) (todo : List Todo) → StepFits most (quiet.stmt_step a todo s)
    stmt (src.Return line None) todo = h
    stmt (src.Return line (Some e)) todo = h
    stmt (src.OfEvents a) todo = event a todo
    stmt (src.OfTasks a) todo = task a todo
    stmt a todo = h

    rest : (ss : Stmts) (todo : List Todo) → StepFits most (quiet.rest_step ss todo s)
    rest src.Nil todo = h
    rest ss todo = h

    -- calls

    begun : (r : Routine) (v : Value) (counts : Bool) (todo : List Todo) (vs : List Value) → RoutineFits most r → StepFits most (quiet.begun_step r v counts todo vs s)
    begun r v counts todo vs n = ((call_fits r s.run.operands n, h.0), h.1, h.2)

    call : (r : Option Routine) (todo : List Todo) → MaybeRoutineFits most r → StepFits most (quiet.call_step r todo s)
    call None todo n = h
    call (Some r) todo n = either (StepFits most) (nat_lt s.env.links.calls CALLS) _ _ (begun r Nothing true todo [] n) h

    call_on : (r : Option Routine) (todo : List Todo) → MaybeRoutineFits most r → StepFits most (quiet.call_on_step r todo s)
    call_on None todo n = h
    call_on (Some r) todo n = either (StepFits most) (nat_lt s.env.links.calls CALLS) _ _ (begun r Nothing true todo [] n) h

    call_unwritten : (r : Option Routine) (todo : List Todo) → MaybeRoutineFits most r → StepFits most (quiet.call_unwritten_step r todo s)
    call_unwritten None todo n = h
    call_unwritten (Some r) todo n = begun r Nothing false todo [] n

    -- coroutines

    set_up : (r : Option Routine) (todo : List Todo) → MaybeRoutineFits most r → StepFits most (quiet.set_up_step r todo s)
    set_up None todo n = h
    set_up (Some r) todo n =
        let to = quiet.home_at s.run.this s.env in
        let x = quiet.fresh r s.run.this in
        kept.written_fits most s.run.this _ (sw.born to x s.env) (kept.born_fits most to x s.env (new_fits r n, tt) h)

    live : (r : Option Routine) (todo : List Todo) → StepFits most (quiet.live_step r todo s)
    live None todo = h
    live (Some r) todo = either (StepFits most) (sw.is_live (piece.exec_at (top (drop r.params s.run.operands)) s.env) s.env) _ _ h h

    land : (w : Option UnwindReason) (todo : List Todo) → StepFits most (quiet.land_step w todo s)
    land None todo = h
    land (Some why) todo = h

    -- mutex objects

    unless : (q : ℕ) (step : Step) (todo : List Todo) → StepFits most step → StepFits most (monitors.unless_held_up q step todo s)
    unless q step todo k = either (StepFits most) (inside.is_held_up q s.env) _ step h k

    enter_at : (d : Option ℕ) (q m : ℕ) (todo : List Todo) → StepFits most (monitors.enter_at d q m todo s)
    enter_at (Some d) q m todo = h
    enter_at None q m todo = h

    enter : (m : ℕ) (r : Option Routine) (todo : List Todo) → StepFits most (monitors.enter_step m r todo s)
    enter m None todo = h
    enter m (Some r) todo =
        let q = piece.object_in (top (drop r.params s.run.operands)) in
        either (StepFits most) (monitors.may_call r.written s) _ _ (enter_at (find q s.env.depths) q m todo) h

    leave : (b : Bool) (q : ℕ) (todo : List Todo) → StepFits most (monitors.leave_at b q todo s)
    leave false q todo = h
    leave true q todo = unless q _ todo h

    make : (c n : ℕ) (r : Option Routine) (todo : List Todo) → StepFits most (monitors.make_step c n r todo s)
    make c n None todo = h
    make c n (Some r) todo = either (StepFits most) (monitors.may_call r.written s) _ _ h h

    bind : (r : Option Routine) (todo : List Todo) → StepFits most (monitors.bind_step r todo s)
    bind None todo = h
    bind (Some r) todo = kept.written_fits most _ _ s.env h

    condition : (n : ℕ) (i : Option ℕ) (todo : List Todo) → StepFits most (monitors.condition_step n i todo s)
    condition n None todo = h
    condition n (Some i) todo = h

    accept_by : (mask q site : ℕ) (todo : List Todo) (vs : List Value) → StepFits most (monitors.accept_by mask q site todo vs s)
    accept_by zero q site todo vs = h
    accept_by (suc mask) q site todo vs = unless q _ todo h

    failed : (b : Bool) (todo : List Todo) (vs : List Value) → StepFits most (monitors.failed_step b todo vs s)
    failed true todo vs = h
    failed false todo vs = h

    -- events

    pend : (n : Exec) (e : Event) (todo : List Todo) (vs : List Value) → StepFits most (polls.pend_step n e todo vs s)
    pend n e todo vs =
        either (StepFits most) (nat_lt (length (inside.pending_at n s.env)) PENDING_EVENTS) _ _ (kept.with_links_fits most (λ l. record l { pending = l.pending ++ (record { event = e.number; x = e.x; y = e.y }) ∷ [] }) n s.env h) h

    pend_at : (x : Option Exec) (e : Event) (todo : List Todo) (vs : List Value) → StepFits most (polls.pend_at x e todo vs s)
    pend_at None e todo vs = h
    pend_at (Some n) e todo vs = either (StepFits most) (sw.is_live (Some n) s.env) _ _ (pend n e todo vs) h

    raise_at : (v : Value) (e : Event) (todo : List Todo) (vs : List Value) → StepFits most (polls.raise_at_step v e todo vs s)
    raise_at (Object q) e todo vs = h
    raise_at v e todo vs = pend_at (piece.exec_at v s.env) e todo vs

    enables : (events cell : ℕ) (todo : List Todo) → StepFits most (polls.enable_step events cell todo s)
    enables events cell todo = kept.written_fits most (piece.variable_at cell s) (Number (signed_64 s.env.links.enabled)) s.env h

    quiet_poll : (x : Option Pending) (todo : List Todo) → StepFits most (polls.quiet_poll x todo s)
    quiet_poll None todo = h
    quiet_poll (Some p) todo = h

    poll_by : (b : Bool) (todo : List Todo) → StepFits most (polls.poll_by b todo s)
    poll_by true todo = h
    poll_by false todo = quiet_poll (inside.oldest_enabled s.env.links) todo

    poll : (todo : List Todo) → StepFits most (polls.poll_step todo s)
    poll todo = either (StepFits most) (nat_eq s.env.links.enabled 0) _ _ h (poll_by (inside.is_own s.env) todo)

    deliver : (v : Value) (todo : List Todo) → StepFits most (polls.deliver_step v todo s)
    deliver Nothing todo = h
    deliver v todo = h

    -- the handler of a resumption begins with a frame of no cells
    handled : (o : Option Found) (e : Event) (todo : List Todo) → StepFits most (raising.handle_step o e todo s)
    handled None e todo = h
    handled (Some f) e todo = ((omega arith, h.0), h.1, h.2)

    -- unwinding

    pass_on : (w : Option UnwindReason) (c : Active) (cs : List Active) → StepFits most (raising.pass_on w c cs s)
    pass_on None c cs = h
    pass_on (Some why) c cs = (kept.others_fit most s.env.frames h.0, h.1, h.2)

    leave_for : (b : Bool) (c : Active) (cs : List Active) → StepFits most (raising.leave_for b c cs s)
    leave_for true c cs = h
    leave_for false c cs = pass_on s.run.raised c cs

    leaves : (cs : List Active) → StepFits most (raising.leave_step cs s)
    leaves [] = h
    leaves (c ∷ cs) =
        either (StepFits most) (raising.arrives s.run.raised (length (c ∷ cs))) _ _ (returned s.run.result (c ∷ cs)) (leave_for _ c cs)

    catches : (o : Option Handler) (e : Event) (todo : List Todo) → StepFits most (raising.catch_step o e todo s)
    catches None e todo = h
    catches (Some x) e todo = h

    guarded : (hs : Handlers) (w : Option UnwindReason) (todo : List Todo) → StepFits most (raising.guard_left hs w todo s)
    guarded hs (Some (reason.Event n x y)) todo = catches (raising.handler_for false (record { number = n; x = x; y = y }) hs) _ todo
    guarded hs w todo = h

    whole : (b : Bool) (todo : List Todo) → StepFits most (raising.whole_left b todo s)
    whole true todo = h
    whole false todo = h

    scope : (c : CleanUp) (b : Bool) (todo : List Todo) → StepFits most (raising.scope_left c b todo s)
    scope src.Leaves true todo = h
    scope c b todo = h

    main_left : (w : Option UnwindReason) (todo : List Todo) → StepFits most (raising.main_left w todo s)
    main_left (Some (reason.ReturnTo n)) todo = h
    main_left w todo = h

    coroutine_left : (w : Option UnwindReason) (todo : List Todo) → StepFits most (raising.coroutine_left w todo s)
    coroutine_left (Some (reason.ReturnTo n)) todo = h
    coroutine_left (Some reason.Destroyed) todo = moved _ todo [] (kept.taken_down_fits most (at todo [] s) h)
    coroutine_left w todo = moved _ todo [] (kept.escape_fits most (at todo [] s) h)

    unwind_past : (k : Sort) (todo : List Todo) → StepFits most (raising.unwind_past k todo s)
    unwind_past piece.IsWhole todo = whole _ todo
    unwind_past (piece.IsClean c) todo = scope c _ todo
    unwind_past (piece.IsGuard hs) todo = guarded hs s.run.raised todo
    unwind_past piece.IsFinish todo = main_left s.run.raised todo
    unwind_past piece.IsFinishCoroutine todo = coroutine_left s.run.raised todo
    unwind_past k todo = h

    unwinds : (todo : List Todo) → StepFits most (raising.unwind_step todo s)
    unwinds [] = leaves s.callers
    unwinds (p ∷ ps) = unwind_past (piece.sort p) ps

    -- printing

    prints : (x : Option (List Piece)) (p : Piece) (todo : List Todo) (vs : List Value) → StepFits most (piece.print_step x p todo vs s)
    prints None p todo vs = h
    prints (Some ps) p todo vs = h

    flushes : (x : Option (List Piece)) (todo : List Todo) (vs : List Value) → StepFits most (piece.flush_step x todo vs s)
    flushes None todo vs = h
    flushes (Some []) todo vs = h
    flushes (Some (p ∷ ps)) todo vs = h

    -- one piece, with what is to do behind it
    acts : (source : Source) → SourceFits most source → (p : Todo) (todo : List Todo) → StepFits most (quiet.act source p todo s)
    acts source known (piece.Eval a) todo = eval a todo
    acts source known (piece.ElementNow m k) todo = element k _ todo _ _
    acts source known piece.NegateNow todo = outcome _ todo _
    acts source known (piece.OperateNow op) todo = outcome _ todo _
    acts source known piece.StoreNow todo = kept.written_fits most _ _ s.env h
    acts source known piece.KeepNow todo = kept.written_fits most _ _ s.env h
    acts source known (piece.SetNow k) todo = kept.written_fits most (piece.variable_at k s) (Number (number (top s.run.operands))) s.env h
    acts source known piece.BindNow todo = kept.written_fits most _ _ s.env h
    acts source known (piece.Arguments src.NoExprs) todo = h
    acts source known (piece.Arguments (src.MoreExprs e es)) todo = h
    acts source known (piece.CallNow r) todo = call (slice_get source.routines r) todo (known r)
    acts source known (piece.CallOnNow r) todo = call_on (slice_get source.routines r) todo (known r)
    acts source known (piece.CallUnwrittenNow r) todo = call_unwritten (slice_get source.routines r) todo (known r)
    acts source known (piece.PrintNow f) todo = prints s.env.gathered _ todo _
    acts source known (piece.TextNow k) todo = prints s.env.gathered _ todo _
    acts source known piece.FlushNow todo = flushes s.env.gathered todo _
    acts source known (piece.ClearNow k m) todo = kept.owned_fits most (piece.this_frame s) (values_cleared k m nought) s.env (kept.cleared_cells k m) h
    acts source known (piece.Items []) todo = h
    acts source known (piece.Items (i ∷ is)) todo = h
    acts source known (piece.Values []) todo = h
    acts source known (piece.Values (i ∷ is)) todo = h
    acts source known (piece.Pieces []) todo = h
    acts source known (piece.Pieces (i ∷ is)) todo = h
    acts source known (piece.Targets []) todo = h
    acts source known (piece.Targets (t ∷ ts)) todo = h
    acts source known (piece.Variables []) todo = h
    acts source known (piece.Variables (d ∷ ds)) todo = h
    acts source known (piece.Do a) todo = stmt a todo
    acts source known (piece.Rest ss) todo = rest ss todo
    acts source known (piece.Exit w) todo = exits w todo
    acts source known (piece.Sweep e) todo = swept s.run.elements e todo
    acts source known piece.Unwind todo = unwinds todo
    acts source known piece.RaiseNow todo = handled (raising.seek None (raising.event_in s.run.operands) (record s.run { control = todo } ∷ s.callers)) _ todo
    acts source known (piece.SetUpNow r) todo = set_up (slice_get source.routines r) todo (known r)
    acts source known piece.EnlivenNow todo = kept.enlivened_fits most (piece.own_exec s) s.env h
    acts source known piece.TakeDownNow todo = moved _ todo _ (kept.take_down_fits most (piece.own_exec s) (at todo s.run.operands s) h)
    acts source known piece.ForgetNow todo = kept.forgotten_fits most (piece.own_exec s) s.env h
    acts source known (piece.LiveNow r) todo = live (slice_get source.routines r) todo
    acts source known piece.ResumeNow todo = moved _ (piece.Land ∷ todo) _ (kept.wake_fits most (quiet.resumed s) (at (piece.Land ∷ todo) s.run.operands s) h)
    acts source known piece.SuspendNow todo = moved _ (piece.Land ∷ todo) _ (kept.suspend_fits most (at (piece.Land ∷ todo) s.run.operands s) h)
    acts source known piece.Land todo = land s.run.raised todo
    acts source known (piece.EnterNow m r) todo = enter m (slice_get source.routines r) todo
    acts source known piece.LeaveNow todo = leave _ (monitors.this_object s) todo
    acts source known (piece.MakeNow k r) todo = make k r (slice_get source.routines r) todo
    acts source known (piece.BindMadeNow k r) todo = bind (slice_get source.routines r) todo
    acts source known piece.MadeNow todo = unless (monitors.this_object s) _ todo h
    acts source known (piece.SpawnNow r) todo = unless (monitors.this_object s) _ (piece.ChildNow r ∷ todo) h
    acts source known (piece.ConditionNow k m) todo = condition k _ todo
    acts source known piece.WaitNow todo = unless (monitors.this_object s) _ todo h
    acts source known piece.SignalBlockNow todo = unless (monitors.this_object s) _ todo h
    acts source known (piece.Guards src.NoClauses) todo = h
    acts source known (piece.Guards (src.Otherwise b)) todo = h
    acts source known (piece.Guards (src.MoreClauses guard b cs)) todo = h
    acts source known (piece.AcceptNow site m) todo = accept_by (monitors.mask_of (take_operands Nothing m s.run.operands [])) (monitors.this_object s) site todo (drop m s.run.operands)
    acts source known piece.FailedNow todo = failed _ todo _
    acts source known piece.RaiseAtNow todo = raise_at _ _ todo _
    acts source known (piece.EnableNow events cell) todo = enables (inside.enabled_more s.env.links.enabled events) cell todo
    acts source known (piece.DisableNow events cell) todo = enables (inside.enabled_less s.env.links.enabled events) cell todo
    acts source known piece.PollNow todo = poll todo
    acts source known piece.DeliverNow todo = deliver _ todo
    acts source known piece.Finish todo = unless s.env.own _ todo (returned _ s.callers)
    acts source known piece.FinishCoroutine todo = moved _ todo _ (kept.finish_fits most (at todo s.run.operands s) h)
    acts source known p todo = h

  pub walk : (source : Source) → SourceFits most source → (s : State) → StateFits most s → StepFits most (quiet.quiet source s)
  walk source known s h = by s.run.control
    where
      by : (l : List Todo) → StepFits most (quiet.act_todo source l s)
      by [] = returned s h _ s.callers
      by (p ∷ todo) = acts s h source known p todo

  begins : (o : ℕ) (r : Option Routine) → MaybeRoutineFits most r → StateFits most (first_state (routine_or_none r) o)
  begins o None n = ((omega arith, tt), (tt, tt), tt)
  begins o (Some r) n = ((new_fits r n, tt), (tt, tt), tt)

  -- a task begins so
  pub first : (source : Source) → SourceFits most source → (r o : ℕ) → StateFits most (first_state (routine_of source r) o)
  first source known r o = begins o (slice_get source.routines r) (known r)

  -- answers bring operands, and at most an object in which nothing is to do

  more_hand : (hand : List (ℕ × Members)) (o : ℕ) (m : Members) → ParkedFit most m.parked → HandFits most hand → HandFits most (hand ++ (o, m) ∷ [])
  more_hand [] o m h k = (h, tt)
  more_hand (p ∷ hand) o m h k = (k.0, more_hand hand o m h k.1)

  new_members_fit : (source : Source) (todo : List Todo) → MembersFit most (new_members source todo)
  new_members_fit source [] = tt
  new_members_fit source (piece.BindMadeNow c r ∷ todo) = tt
  new_members_fit source (p ∷ todo) = tt

  entered_fits : (m : Option Members) (o : ℕ) (s : State) → MembersFit most m → StateFits most s → StateFits most (with_operand (Object o) (entered m o s))
  entered_fits None o s k h = h
  entered_fits (Some m) o s k h = (h.0, h.1, more_hand s.env.hand o m k h.2)

  pub answered_fits : (source : Source) (given : Answer) (s : State) → StateFits most s → StateFits most (answered source given s)
  answered_fits source (answer.Object o) s h = entered_fits (new_members source s.run.control) o s (new_members_fit source s.run.control) h
  answered_fits source given s h = h

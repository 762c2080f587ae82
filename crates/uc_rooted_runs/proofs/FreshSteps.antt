-- A quiet step leaves executions that have not begun as they were made, and so does an answer.
use Rattle.std.proofs.Common.{◌≡◌, ℕ, zero, suc, ◌++◌, Bool, true, false, List, [], ◌∷◌, length, drop, Option, Some, None, refl}
use Rattle.std.specs.Prelude.{nat_eq, nat_lt, slice_get}
use Rattle.uc_tree.specs.declared.limits.TheConstants.{CALLS, PENDING_EVENTS}
use Rattle.uc_tree.specs.Source as src
use Rattle.uc_tree.specs.Source.{Source, Shape, Expr, ObjectExpr, Stmt, Stmts, EventStmt, TaskStmt, Routine, Way, CleanUp, Handlers}
use Rattle.uc_entry.specs.declared.request.Answer.{Answer}
use Rattle.uc_entry.specs.declared.request.Answer.TheVariants as answer
use Rattle.uc_entry.specs.declared.request.Piece.{Piece}
use Rattle.uc_entry.specs.Keyed.{find, signed_64}
use Rattle.uc_machine.specs.declared.exec.Exec.{Exec}
use Rattle.uc_machine.specs.declared.exec.Home.TheVariants as home
use Rattle.uc_machine.specs.declared.exec.Pending.{Pending}
use Rattle.uc_machine.specs.declared.exec.UnwindReason.{UnwindReason}
use Rattle.uc_machine.specs.declared.exec.UnwindReason.TheVariants as reason
use Rattle.uc_machine.specs.declared.exec.Visited.{Visited}
use Rattle.uc_machine.specs.Executions.{take_operands, values_cleared}
use Rattle.uc_machine.specs.Switches as sw
use Rattle.uc_machine.specs.Switches.{Moved, To, Stops}
use Rattle.uc_machine.specs.Insides as inside
use Rattle.uc_machine.specs.Raising as raising
use Rattle.uc_machine.specs.Raising.{Event, Handler, Found}
use Rattle.uc_machine.specs.Monitors as monitors
use Rattle.uc_machine.specs.Polls as polls
use Rattle.uc_machine.specs.Quiet as quiet
use Rattle.uc_machine.specs.Pieces as piece
use Rattle.uc_machine.specs.Pieces.{Value, Number, Place, Running, Object, Nothing, Todo, Sort, Active, State, Env, Members, Step, Goes, Ticks, Asks, Outcome, Gives, Faults, at, top, below, number, nought, written}
use Rattle.uc_machine.specs.Answering.{answered, entered, new_members, with_operand}
use Rattle.uc_life_laws.specs.LifeStates.{MembersBy}
use Rattle.uc_life_laws.proofs.Cells.{either}
use Rattle.uc_life_laws.proofs.Parked as parked
use Rattle.uc_rooted_runs.specs.FreshStates.{FreshEx, FreshEnv, FreshStep, IsBegun, BindsBegunBy, NoneBehind, LeavesNone, MainsBareBy, TakesOthersBy, KeepsFresh}
use Rattle.uc_rooted_runs.proofs.FreshKeeping as kept
use Rattle.uc_rooted_runs.proofs.FreshKeeping.{FreshMoved}

module _ (s : State) (st : FreshEnv s.env) where
  -- the end of an activation

  returned : (given : Value) (cs : List Active) → FreshStep (piece.return_step given cs s)
  returned given [] = st
  returned given (a ∷ cs) = kept.returned_keeps s.run.counts s.env st

  past : (v : Visited) (given : Value) (cs : List Active) → FreshStep (raising.return_past v given cs s)
  past v given [] = st
  past v given (a ∷ cs) = kept.returned_keeps s.run.counts s.env st

  end_by : (v : Option Visited) (given : Value) → FreshStep (raising.end_by v given s)
  end_by None given = returned given s.callers
  end_by (Some v) given = past v given s.callers

  end_step : (w : Way) → FreshStep (quiet.end_step w s)
  end_step src.ToReturn = end_by s.run.handles _
  end_step src.ToEnd = end_by s.run.handles _
  end_step src.ToBreak = returned _ s.callers
  end_step src.ToContinue = returned _ s.callers

  pass_on : (w : Option UnwindReason) (c : Active) (cs : List Active) → FreshStep (raising.pass_on w c cs s)
  pass_on None c cs = st
  pass_on (Some why) c cs = kept.returned_keeps s.run.counts s.env st

  leave_for : (b : Bool) (c : Active) (cs : List Active) → FreshStep (raising.leave_for b c cs s)
  leave_for true c cs = st
  leave_for false c cs = pass_on s.run.raised c cs

  leaves : (cs : List Active) → FreshStep (raising.leave_step cs s)
  leaves [] = st
  leaves (c ∷ cs) =
      either FreshStep (raising.arrives s.run.raised (length (c ∷ cs))) _ _ (returned s.run.result (c ∷ cs)) (leave_for _ c cs)

  moved : (m : Moved (List Todo) Value) (todo : List Todo) (vs : List Value) → FreshMoved m → FreshStep (piece.moves m (at todo vs s))
  moved (To u) todo vs m = m
  moved (Stops f) todo vs m = st

  outcome : (x : Outcome) (todo : List Todo) (vs : List Value) → FreshStep (piece.outcome_step x todo vs s)
  outcome (Gives n) todo vs = st
  outcome (Faults f) todo vs = st

  element : (n : Shape) (i : Option ℕ) (todo : List Todo) (v : Value) (vs : List Value) → FreshStep (piece.element_step n i todo v vs s)
  element n None todo v vs = st
  element n (Some i) todo v vs = st

  -- expressions

  object : (x : ObjectExpr) (todo : List Todo) → FreshStep (quiet.object_step x todo s)
  object (src.EndOn r false a) todo = st
  object (src.EndOn r true a) todo = st
  object (src.MakeOn c r false a args) todo = st
  object (src.MakeOn c r true a args) todo = st
  object x todo = st

  eval : (a : Expr) (todo : List Todo) → FreshStep (quiet.eval_step a todo s)
  eval (src.OfObject x) todo = object x todo
  eval a todo = st

  -- statements

  swept : (n : ℕ) (e : Expr) (todo : List Todo) → FreshStep (quiet.sweep_step n e todo s)
  swept zero e todo = st
  swept (suc m) e todo = st

  event_step : (a : EventStmt) (todo : List Todo) → FreshStep (quiet.event_step a todo s)
  event_step (src.Throw line r) todo = st
  event_step (src.Raise line r) todo = st
  event_step (src.RaiseAt line r a) todo = st
  event_step (src.Try line body hs) todo = st
  event_step (src.Enable line events cell a) todo = st
  event_step (src.Disable line events cell a) todo = st

  task_step : (a : TaskStmt) (todo : List Todo) → FreshStep (quiet.task_step a todo s)
  task_step (src.Resume line) todo = st
  task_step a todo = st

  stmt : (a : Stmt) (todo : List Todo) → FreshStep (quiet.stmt_step a todo s)
  stmt (src.Return line None) todo = st
  stmt (src.Return line (Some e)) todo = st
  stmt (src.OfEvents a) todo = event_step a todo
  stmt (src.OfTasks a) todo = task_step a todo
  stmt a todo = st

  rests : (ss : Stmts) (todo : List Todo) → FreshStep (quiet.rest_step ss todo s)
  rests src.Nil todo = st
  rests (src.Then a ss) todo = st
  rests (src.Scoped c ss) todo = st
  rests (src.Built c ss) todo = st

  -- calls

  begun : (r : Routine) (this : Value) (counts : Bool) (todo : List Todo) (vs : List Value) → FreshStep (quiet.begun_step r this counts todo vs s)
  begun r this counts todo vs = kept.called_keeps counts s.env st

  call : (r : Option Routine) (todo : List Todo) → FreshStep (quiet.call_step r todo s)
  call None todo = st
  call (Some r) todo = either FreshStep (nat_lt s.env.links.calls CALLS) _ _ (begun r Nothing true todo (drop r.params s.run.operands)) st

  call_on : (r : Option Routine) (todo : List Todo) → FreshStep (quiet.call_on_step r todo s)
  call_on None todo = st
  call_on (Some r) todo =
      either FreshStep (nat_lt s.env.links.calls CALLS) _ _ (begun r (top (drop r.params s.run.operands)) true todo (below (drop r.params s.run.operands))) st

  call_unwritten : (r : Option Routine) (todo : List Todo) → FreshStep (quiet.call_unwritten_step r todo s)
  call_unwritten None todo = st
  call_unwritten (Some r) todo = begun r (top (drop r.params s.run.operands)) false todo (below (drop r.params s.run.operands))

  -- coroutines

  set_up : (r : Option Routine) (todo : List Todo) → ((x : Routine) → r ≡ Some x → IsBegun s.run.this (sw.born (quiet.home_at s.run.this s.env) (quiet.fresh x s.run.this) s.env)) → FreshStep (quiet.set_up_step r todo s)
  set_up None todo f = st
  set_up (Some r) todo f =
      let q = quiet.home_at s.run.this s.env in
      let x = quiet.fresh r s.run.this in
      kept.written_begun s.run.this _ (sw.born q x s.env) (f r refl) (kept.born_keeps q x s.env (λ k. kept.fresh_made r s.run.this s.env k) st)

  live : (r : Option Routine) (todo : List Todo) → FreshStep (quiet.live_step r todo s)
  live None todo = st
  live (Some r) todo = either FreshStep (sw.is_live (piece.exec_at (top (drop r.params s.run.operands)) s.env) s.env) _ _ st st

  land : (w : Option UnwindReason) (todo : List Todo) → FreshStep (quiet.land_step w todo s)
  land None todo = st
  land (Some why) todo = st

  -- mutex objects

  unless : (q : ℕ) (step : Step) (todo : List Todo) → FreshStep step → FreshStep (monitors.unless_held_up q step todo s)
  unless q step todo k = either FreshStep (inside.is_held_up q s.env) _ step st k

  enter_at : (d : Option ℕ) (q m : ℕ) (todo : List Todo) → FreshStep (monitors.enter_at d q m todo s)
  enter_at (Some d) q m todo = kept.like st refl refl refl refl
  enter_at None q m todo = kept.like st refl refl refl refl

  enter : (m : ℕ) (r : Option Routine) (todo : List Todo) → FreshStep (monitors.enter_step m r todo s)
  enter m None todo = st
  enter m (Some r) todo =
      let q = piece.object_in (top (drop r.params s.run.operands)) in
      either FreshStep (monitors.may_call r.written s) _ _ (enter_at (find q s.env.depths) q m todo) st

  leave : (b : Bool) (q : ℕ) (todo : List Todo) → FreshStep (monitors.leave_at b q todo s)
  leave false q todo = kept.like st refl refl refl refl
  leave true q todo = unless q _ todo (kept.counted_keeps s.run.counts (inside.call_ended q s.env) (kept.like st refl refl refl refl))

  make : (c n : ℕ) (r : Option Routine) (todo : List Todo) → FreshStep (monitors.make_step c n r todo s)
  make c n None todo = st
  make c n (Some r) todo = either FreshStep (monitors.may_call r.written s) _ _ (kept.like st refl refl refl refl) st

  bind : (r : Option Routine) (todo : List Todo) → ((x : Routine) → r ≡ Some x → IsBegun (top (drop x.params (below s.run.operands))) s.env) → FreshStep (monitors.bind_step r todo s)
  bind None todo f = st
  bind (Some r) todo f = kept.written_begun _ _ s.env (f r refl) st

  condition : (n : ℕ) (i : Option ℕ) (todo : List Todo) → FreshStep (monitors.condition_step n i todo s)
  condition n None todo = st
  condition n (Some i) todo = st

  accept_by : (mask q site : ℕ) (todo : List Todo) (vs : List Value) → FreshStep (monitors.accept_by mask q site todo vs s)
  accept_by zero q site todo vs = st
  accept_by (suc mask) q site todo vs = unless q _ todo st

  failed : (b : Bool) (todo : List Todo) (vs : List Value) → FreshStep (monitors.failed_step b todo vs s)
  failed true todo vs = st
  failed false todo vs = st

  -- events

  pend : (n : Exec) (e : Event) (todo : List Todo) (vs : List Value) → FreshStep (polls.pend_step n e todo vs s)
  pend n e todo vs =
      either FreshStep (nat_lt (length (inside.pending_at n s.env)) PENDING_EVENTS) _ _ (kept.links_stay (λ l. record l { pending = l.pending ++ (record { event = e.number; x = e.x; y = e.y }) ∷ [] }) (λ l. refl) n s.env st) st

  pend_at : (x : Option Exec) (e : Event) (todo : List Todo) (vs : List Value) → FreshStep (polls.pend_at x e todo vs s)
  pend_at None e todo vs = st
  pend_at (Some n) e todo vs = either FreshStep (sw.is_live (Some n) s.env) _ _ (pend n e todo vs) st

  raise_at : (v : Value) (e : Event) (todo : List Todo) (vs : List Value) → FreshStep (polls.raise_at_step v e todo vs s)
  raise_at (Object q) e todo vs = st
  raise_at v e todo vs = pend_at (piece.exec_at v s.env) e todo vs

  enables : (events cell : ℕ) (todo : List Todo) → FreshStep (polls.enable_step events cell todo s)
  enables events cell todo =
      kept.like (kept.written_number (piece.variable_at cell s) (signed_64 s.env.links.enabled) s.env st) refl refl refl refl

  quiet_poll : (x : Option Pending) (todo : List Todo) → FreshStep (polls.quiet_poll x todo s)
  quiet_poll None todo = st
  quiet_poll (Some p) todo = kept.like st refl refl refl refl

  poll_by : (b : Bool) (todo : List Todo) → FreshStep (polls.poll_by b todo s)
  poll_by true todo = st
  poll_by false todo = quiet_poll (inside.oldest_enabled s.env.links) todo

  poll : (todo : List Todo) → FreshStep (polls.poll_step todo s)
  poll todo = either FreshStep (nat_eq s.env.links.enabled 0) _ _ st (poll_by (inside.is_own s.env) todo)

  deliver : (v : Value) (todo : List Todo) → FreshStep (polls.deliver_step v todo s)
  deliver Nothing todo = st
  deliver v todo = st

  handles : (o : Option Found) (e : Event) (todo : List Todo) → FreshStep (raising.handle_step o e todo s)
  handles None e todo = st
  handles (Some x) e todo = kept.like st refl refl refl refl

  raises : (e : Event) (todo : List Todo) → FreshStep (raising.raise_step e todo s)
  raises e todo = handles (raising.seek None e (record s.run { control = todo } ∷ s.callers)) e todo

  -- unwinding

  catches : (x : Option Handler) (e : Event) (todo : List Todo) → FreshStep (raising.catch_step x e todo s)
  catches None e todo = st
  catches (Some x) e todo = st

  guarded : (hs : Handlers) (w : Option UnwindReason) (todo : List Todo) → FreshStep (raising.guard_left hs w todo s)
  guarded hs (Some (reason.Event n y z)) todo = catches (raising.handler_for false (record { number = n; x = y; y = z }) hs) (record { number = n; x = y; y = z }) todo
  guarded hs w todo = st

  whole : (b : Bool) (todo : List Todo) → FreshStep (raising.whole_left b todo s)
  whole true todo = st
  whole false todo = st

  scope : (c : CleanUp) (b : Bool) (todo : List Todo) → FreshStep (raising.scope_left c b todo s)
  scope src.Leaves true todo = st
  scope c b todo = st

  main_left : (w : Option UnwindReason) (todo : List Todo) → FreshStep (raising.main_left w todo s)
  main_left (Some (reason.ReturnTo n)) todo = st
  main_left w todo = st

  coroutine_left : (w : Option UnwindReason) (todo : List Todo) → NoneBehind todo s → FreshStep (raising.coroutine_left w todo s)
  coroutine_left (Some (reason.ReturnTo n)) todo b = st
  coroutine_left (Some reason.Destroyed) todo b = moved _ todo _ (kept.taken_down_keeps (at todo [] s) b st)
  coroutine_left w todo b = moved _ todo _ (kept.escape_keeps (at todo [] s) b st)

  unwind_past : (k : Sort) (todo : List Todo) → LeavesNone k todo s → FreshStep (raising.unwind_past k todo s)
  unwind_past piece.Simple todo g = st
  unwind_past (piece.IsLoop order c e b) todo g = st
  unwind_past piece.IsWhole todo g = whole _ todo
  unwind_past (piece.IsClean x) todo g = scope x _ todo
  unwind_past (piece.IsFill m b d) todo g = st
  unwind_past (piece.IsSweep e) todo g = st
  unwind_past (piece.IsPart x) todo g = st
  unwind_past (piece.IsGuard hs) todo g = guarded hs s.run.raised todo
  unwind_past piece.IsFinish todo g = main_left s.run.raised todo
  unwind_past piece.IsFinishCoroutine todo g = coroutine_left s.run.raised todo g

  unwinds : (todo : List Todo) → MainsBareBy (piece.Unwind ∷ todo) s → FreshStep (raising.unwind_step todo s)
  unwinds [] b = leaves s.callers
  unwinds (p ∷ ps) b = unwind_past (piece.sort p) ps b

  exits : (w : Way) (todo : List Todo) → FreshStep (quiet.exit_step w todo s)
  exits w [] = end_step w
  exits w (p ∷ ps) = st

  -- printing

  prints : (x : Option (List Piece)) (p : Piece) (todo : List Todo) (vs : List Value) → FreshStep (piece.print_step x p todo vs s)
  prints None p todo vs = st
  prints (Some ps) p todo vs = kept.like st refl refl refl refl

  flushes : (x : Option (List Piece)) (todo : List Todo) (vs : List Value) → FreshStep (piece.flush_step x todo vs s)
  flushes None todo vs = st
  flushes (Some []) todo vs = kept.like st refl refl refl refl
  flushes (Some (p ∷ ps)) todo vs = kept.like st refl refl refl refl

  module _ (source : Source) where
    -- one piece, with what is to do behind it
    acts : (p : Todo) (todo : List Todo) → BindsBegunBy source (p ∷ todo) s → MainsBareBy (p ∷ todo) s → TakesOthersBy (p ∷ todo) s → FreshStep (quiet.act source p todo s)
    acts (piece.Eval a) todo o g y = eval a todo
    acts (piece.ElementNow m k) todo o g y = element k _ todo _ _
    acts piece.NegateNow todo o g y = outcome _ todo _
    acts (piece.OperateNow op) todo o g y = outcome _ todo _
    acts piece.StoreNow todo o g y = kept.written_number _ _ s.env st
    acts piece.KeepNow todo o g y = kept.written_number _ _ s.env st
    acts (piece.SetNow k) todo o g y = kept.written_number (piece.variable_at k s) _ s.env st
    acts piece.BindNow todo o g y = kept.written_begun (top (below s.run.operands)) _ s.env o st
    acts (piece.Arguments src.NoExprs) todo o g y = st
    acts (piece.Arguments (src.MoreExprs a es)) todo o g y = st
    acts (piece.CallNow r) todo o g y = call (slice_get source.routines r) todo
    acts (piece.CallOnNow r) todo o g y = call_on (slice_get source.routines r) todo
    acts (piece.CallUnwrittenNow r) todo o g y = call_unwritten (slice_get source.routines r) todo
    acts (piece.PrintNow form) todo o g y = prints s.env.gathered _ todo _
    acts (piece.TextNow k) todo o g y = prints s.env.gathered _ todo _
    acts piece.GatherNow todo o g y = kept.like st refl refl refl refl
    acts piece.FlushNow todo o g y = flushes s.env.gathered todo _
    acts (piece.ClearNow k m) todo o g y = kept.owned_numbers (piece.this_frame s) (values_cleared k m nought) s.env (λ vs h. kept.numbers_cleared k m vs h) st
    acts (piece.Items []) todo o g y = st
    acts (piece.Items (i ∷ is)) todo o g y = st
    acts (piece.Values []) todo o g y = st
    acts (piece.Values (i ∷ is)) todo o g y = st
    acts (piece.Pieces []) todo o g y = st
    acts (piece.Pieces (i ∷ is)) todo o g y = st
    acts (piece.Targets []) todo o g y = st
    acts (piece.Targets (x ∷ xs)) todo o g y = st
    acts (piece.Variables []) todo o g y = st
    acts (piece.Variables (d ∷ ds)) todo o g y = st
    acts (piece.Do a) todo o g y = stmt a todo
    acts (piece.Rest ss) todo o g y = rests ss todo
    acts (piece.Exit w) todo o g y = exits w todo
    acts (piece.Sweep a) todo o g y = swept s.run.elements a todo
    acts piece.Unwind todo o g y = unwinds todo g
    acts piece.ThrowNow todo o g y = st
    acts piece.RaiseNow todo o g y = raises (raising.event_in s.run.operands) todo
    acts (piece.SetUpNow r) todo o g y = set_up (slice_get source.routines r) todo o
    acts piece.EnlivenNow todo o g y = kept.enlivened_keeps (piece.own_exec s) s.env st
    acts piece.TakeDownNow todo o g y = moved _ todo _ (kept.take_down_keeps (piece.own_exec s) (at todo s.run.operands s) y st)
    acts piece.ForgetNow todo o g y = kept.forgotten_keeps (piece.own_exec s) s.env st
    acts (piece.LiveNow r) todo o g y = live (slice_get source.routines r) todo
    acts piece.ResumeNow todo o g y = moved _ (piece.Land ∷ todo) _ (kept.wake_keeps (quiet.resumed s) (at (piece.Land ∷ todo) s.run.operands s) st)
    acts piece.SuspendNow todo o g y = moved _ (piece.Land ∷ todo) _ (kept.suspend_keeps (at (piece.Land ∷ todo) s.run.operands s) st)
    acts piece.Land todo o g y = land s.run.raised todo
    acts (piece.EnterNow m r) todo o g y = enter m (slice_get source.routines r) todo
    acts piece.LeaveNow todo o g y = leave _ (monitors.this_object s) todo
    acts (piece.MakeNow k r) todo o g y = make k r (slice_get source.routines r) todo
    acts (piece.BindMadeNow k r) todo o g y = bind (slice_get source.routines r) todo o
    acts piece.MadeNow todo o g y = unless (monitors.this_object s) _ todo (kept.like st refl refl refl refl)
    acts (piece.SpawnNow r) todo o g y = unless (monitors.this_object s) _ (piece.ChildNow r ∷ todo) (kept.like st refl refl refl refl)
    acts piece.GoneNow todo o g y = kept.like st refl refl refl refl
    acts piece.GiveUpNow todo o g y = kept.like st refl refl refl refl
    acts (piece.ConditionNow k m) todo o g y = condition k _ todo
    acts piece.WaitNow todo o g y = unless (monitors.this_object s) _ todo st
    acts piece.SignalBlockNow todo o g y = unless (monitors.this_object s) _ todo st
    acts (piece.Guards src.NoClauses) todo o g y = st
    acts (piece.Guards (src.Otherwise b)) todo o g y = st
    acts (piece.Guards (src.MoreClauses guard b cs)) todo o g y = st
    acts (piece.AcceptNow site m) todo o g y = accept_by (monitors.mask_of (take_operands piece.Nothing m s.run.operands [])) (monitors.this_object s) site todo (drop m s.run.operands)
    acts piece.FailedNow todo o g y = failed _ todo _
    acts piece.RaiseAtNow todo o g y = raise_at _ _ todo _
    acts (piece.EnableNow events cell) todo o g y = enables _ cell todo
    acts (piece.DisableNow events cell) todo o g y = enables _ cell todo
    acts (piece.RestoreNow cell) todo o g y = kept.like st refl refl refl refl
    acts piece.PollNow todo o g y = poll todo
    acts piece.DeliverNow todo o g y = deliver _ todo
    acts piece.Finish todo o g y = unless s.env.own _ todo (returned _ s.callers)
    acts piece.FinishCoroutine todo o g y = moved _ todo _ (kept.finish_keeps (at todo s.run.operands s) g st)
    acts p todo o g y = st

    pub walk : KeepsFresh source s → FreshStep (quiet.quiet source s)
    walk o = by s.run.control o.binds o.ends.mains o.ends.takes
      where
        by : (l : List Todo) → BindsBegunBy source l s → MainsBareBy l s → TakesOthersBy l s → FreshStep (quiet.act_todo source l s)
        by [] o b d = returned _ s.callers
        by (p ∷ todo) o b d = acts p todo o b d

-- answers

new_there : (source : Source) (h : ℕ) (todo : List Todo) → MembersBy FreshEx (home.Object h) (new_members source todo)
new_there source h [] = tt
new_there source h (piece.BindMadeNow c r ∷ todo) = tt
new_there source h (p ∷ todo) = tt

entered_there : (m : Option Members) (o : ℕ) (s : State) → MembersBy FreshEx (home.Object o) m → FreshEnv s.env → FreshEnv (with_operand (Object o) (entered m o s)).env
entered_there None o s k h = h
entered_there (Some m) o s k h = record {
  running = h.running;
  slots = record { house = h.slots.house; hand = parked.more_hand FreshEx s.env.hand o m k h.slots.hand };
}

pub told : (source : Source) (given : Answer) (s : State) → FreshEnv s.env → FreshEnv (answered source given s).env
told source (answer.Object o) s h = entered_there (new_members source s.run.control) o s (new_there source o s.run.control) h
told source (answer.Number n) s h = h
told source (answer.Value n failed) s h = h
told source (answer.Clause k failed) s h = h
told source (answer.Event n x y) s h = h
told source answer.Nothing s h = h
told source answer.Go s h = h

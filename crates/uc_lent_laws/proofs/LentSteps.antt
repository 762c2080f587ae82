-- A quiet step leaves in the cells of mutex objects what they hold, but where something is bound.
use Rattle.std.proofs.Common.{◌≡◌, ℕ, ℤ, zero, suc, ◌++◌, Bool, true, false, List, [], ◌∷◌, length, drop, Option, Some, None, refl}
use Rattle.std.specs.Prelude.{nat_eq, nat_lt}
use Rattle.uc_tree.specs.declared.limits.TheConstants.{CALLS, PENDING_EVENTS}
use Rattle.uc_tree.specs.Source as src
use Rattle.uc_tree.specs.Source.{Shape, Expr, ObjectExpr, Stmt, Stmts, EventStmt, TaskStmt, Routine, Way, CleanUp, Handlers}
use Rattle.uc_entry.specs.declared.request.Piece.{Piece}
use Rattle.uc_entry.specs.Keyed.{find, signed_64}
use Rattle.uc_machine.specs.declared.exec.Exec.{Exec}
use Rattle.uc_machine.specs.declared.exec.Pending.{Pending}
use Rattle.uc_machine.specs.declared.exec.UnwindReason.{UnwindReason}
use Rattle.uc_machine.specs.declared.exec.UnwindReason.TheVariants as reason
use Rattle.uc_machine.specs.declared.exec.Visited.{Visited}
use Rattle.uc_machine.specs.Switches as sw
use Rattle.uc_machine.specs.Switches.{Moved, To, Stops}
use Rattle.uc_machine.specs.Insides as inside
use Rattle.uc_machine.specs.Raising as raising
use Rattle.uc_machine.specs.Raising.{Event, Handler, Found}
use Rattle.uc_machine.specs.Monitors as monitors
use Rattle.uc_machine.specs.Polls as polls
use Rattle.uc_machine.specs.Quiet as quiet
use Rattle.uc_machine.specs.Pieces as piece
use Rattle.uc_machine.specs.Pieces.{Value, Number, Object, Nothing, Todo, Sort, Active, State, Step, Asks, Outcome, Gives, Faults, at, fault, top, below, written}
use Rattle.uc_state_laws.proofs.Cells.{either}
use Rattle.uc_lent_laws.specs.LentStates.{MayBind, StepTold}
use Rattle.uc_lent_laws.proofs.LentCells.{Told, MovedTold, written_told, number_bound, running_bound, born_told, with_links_told, taken_down_told, escape_told}

module _ (T : ℕ → ℕ → Value → Type 0) (s : State) (d : Told T s.env) where
  pub moved : (m : Moved (List Todo) Value) (todo : List Todo) (vs : List Value) → MovedTold T m → StepTold T (piece.moves m (at todo vs s))
  moved (To t) todo vs m = m
  moved (Stops f) todo vs m = d

  pub write : (p v : Value) → MayBind T p v → Told T (written p v s.env)
  write p v b = written_told T p v s.env b d

  pub write_number : (p : Value) (n : ℤ) → Told T (written p (Number n) s.env)
  write_number p n = write p (Number n) (number_bound T p n)

  pub outcome : (o : Outcome) (todo : List Todo) (vs : List Value) → StepTold T (piece.outcome_step o todo vs s)
  outcome (Gives n) todo vs = d
  outcome (Faults f) todo vs = d

  pub element : (k : Shape) (i : Option ℕ) (todo : List Todo) (v : Value) (vs : List Value) → StepTold T (piece.element_step k i todo v vs s)
  element k None todo v vs = d
  element k (Some i) todo v vs = d

  -- expressions

  object : (o : ObjectExpr) (todo : List Todo) → StepTold T (quiet.object_step o todo s)
  object (src.EndOn r false a) todo = d
  object (src.EndOn r true a) todo = d
  object (src.MakeOn c r false a args) todo = d
  object (src.MakeOn c r true a args) todo = d
  object o todo = d

  pub eval : (a : Expr) (todo : List Todo) → StepTold T (quiet.eval_step a todo s)
  eval (src.OfObject o) todo = object o todo
  eval a todo = d

  -- the end of an activation

  pub returned : (given : Value) (cs : List Active) → StepTold T (piece.return_step given cs s)
  returned given [] = d
  returned given (a ∷ cs) = d

  past : (v : Visited) (given : Value) (cs : List Active) → StepTold T (raising.return_past v given cs s)
  past v given [] = d
  past v given (a ∷ cs) = d

  end_by : (v : Option Visited) (given : Value) → StepTold T (raising.end_by v given s)
  end_by None given = returned given s.callers
  end_by (Some v) given = past v given s.callers

  end_step : (w : Way) → StepTold T (quiet.end_step w s)
  end_step src.ToReturn = end_by s.run.handles _
  end_step src.ToEnd = end_by s.run.handles _
  end_step src.ToBreak = returned _ s.callers
  end_step src.ToContinue = returned _ s.callers

  pub exits : (w : Way) (todo : List Todo) → StepTold T (quiet.exit_step w todo s)
  exits w [] = end_step w
  exits w (p ∷ ps) = d

  -- statements

  pub swept : (n : ℕ) (e : Expr) (todo : List Todo) → StepTold T (quiet.sweep_step n e todo s)
  swept zero e todo = d
  swept (suc n) e todo = d

  event_step : (a : EventStmt) (todo : List Todo) → StepTold T (quiet.event_step a todo s)
  event_step (src.Throw line r) todo = d
  event_step (src.Raise line r) todo = d
  event_step (src.Try line body hs) todo = d
  event_step (src.RaiseAt line r a) todo = d
  event_step (src.Enable line events cell a) todo = d
  event_step (src.Disable line events cell a) todo = d

  task_step : (a : TaskStmt) (todo : List Todo) → StepTold T (quiet.task_step a todo s)
  task_step (src.Resume line) todo = d
  task_step (src.Suspend line) todo = d
  task_step (src.SetUp r) todo = d
  task_step src.Enliven todo = d
  task_step src.TakeDown todo = d
  task_step (src.Yield line) todo = d
  task_step (src.Migrate line a) todo = d
  task_step (src.Accept line site cs) todo = d

  pub stmt : (a : Stmt) (todo : List Todo) → StepTold T (quiet.stmt_step a todo s)
  stmt (src.Return line None) todo = d
  stmt (src.Return line (Some e)) todo = d
  stmt (src.OfEvents a) todo = event_step a todo
  stmt (src.OfTasks a) todo = task_step a todo
  stmt a todo = d

  pub rest : (ss : Stmts) (todo : List Todo) → StepTold T (quiet.rest_step ss todo s)
  rest src.Nil todo = d
  rest (src.Then a ss) todo = d
  rest (src.Scoped c ss) todo = d
  rest (src.Built c ss) todo = d

  -- calls

  pub call : (r : Option Routine) (todo : List Todo) → StepTold T (quiet.call_step r todo s)
  call None todo = d
  call (Some r) todo = either (StepTold T) (nat_lt s.env.links.calls CALLS) _ _ d d

  pub call_on : (r : Option Routine) (todo : List Todo) → StepTold T (quiet.call_on_step r todo s)
  call_on None todo = d
  call_on (Some r) todo = either (StepTold T) (nat_lt s.env.links.calls CALLS) _ _ d d

  pub call_unwritten : (r : Option Routine) (todo : List Todo) → StepTold T (quiet.call_unwritten_step r todo s)
  call_unwritten None todo = d
  call_unwritten (Some r) todo = d

  -- coroutines

  pub set_up : (r : Option Routine) (todo : List Todo) → StepTold T (quiet.set_up_step r todo s)
  set_up None todo = d
  set_up (Some r) todo = written_told T s.run.this _ _ (running_bound T s.run.this _) (born_told T _ (quiet.fresh r s.run.this) s.env d)

  pub live : (r : Option Routine) (todo : List Todo) → StepTold T (quiet.live_step r todo s)
  live None todo = d
  live (Some r) todo = either (StepTold T) (sw.is_live (piece.exec_at (top (drop r.params s.run.operands)) s.env) s.env) _ _ d d

  pub land : (o : Option UnwindReason) (todo : List Todo) → StepTold T (quiet.land_step o todo s)
  land None todo = d
  land (Some why) todo = d

  -- mutex objects

  pub unless : (o : ℕ) (step : Step) (todo : List Todo) → StepTold T step → StepTold T (monitors.unless_held_up o step todo s)
  unless o step todo k = either (StepTold T) (inside.is_held_up o s.env) _ step d k

  enter_at : (x : Option ℕ) (o m : ℕ) (todo : List Todo) → StepTold T (monitors.enter_at x o m todo s)
  enter_at (Some n) o m todo = d
  enter_at None o m todo = d

  pub enter : (m : ℕ) (r : Option Routine) (todo : List Todo) → StepTold T (monitors.enter_step m r todo s)
  enter m None todo = d
  enter m (Some r) todo =
      let o = piece.object_in (top (drop r.params s.run.operands)) in
      either (StepTold T) (monitors.may_call r.written s) _ _ (enter_at (find o s.env.depths) o m todo) d

  leave_at : (b : Bool) (o : ℕ) (todo : List Todo) → StepTold T (monitors.leave_at b o todo s)
  leave_at false o todo = d
  leave_at true o todo = unless o _ todo d

  pub leave : (o : ℕ) (todo : List Todo) → StepTold T (monitors.leave_on o todo s)
  leave o todo = leave_at (inside.is_last (find o s.env.depths)) o todo

  pub make : (c k : ℕ) (r : Option Routine) (todo : List Todo) → StepTold T (monitors.make_step c k r todo s)
  make c k None todo = d
  make c k (Some r) todo = either (StepTold T) (monitors.may_call r.written s) _ _ d d

  pub bind : (r : Option Routine) (todo : List Todo) → ((x : Routine) → r ≡ Some x → MayBind T (top (drop x.params (below s.run.operands))) (top s.run.operands)) → StepTold T (monitors.bind_step r todo s)
  bind None todo b = d
  bind (Some r) todo b = write _ _ (b r refl)

  pub condition : (k : ℕ) (i : Option ℕ) (todo : List Todo) → StepTold T (monitors.condition_step k i todo s)
  condition k None todo = d
  condition k (Some i) todo = d

  pub accept : (mask o site : ℕ) (todo : List Todo) (vs : List Value) → StepTold T (monitors.accept_by mask o site todo vs s)
  accept zero o site todo vs = d
  accept (suc mask) o site todo vs = unless o _ todo d

  pub failed : (b : Bool) (todo : List Todo) (vs : List Value) → StepTold T (monitors.failed_step b todo vs s)
  failed true todo vs = d
  failed false todo vs = d

  -- events

  pend : (n : Exec) (e : Event) (todo : List Todo) (vs : List Value) → StepTold T (polls.pend_step n e todo vs s)
  pend n e todo vs =
      either (StepTold T) (nat_lt (length (inside.pending_at n s.env)) PENDING_EVENTS) _ _ (with_links_told T (λ l. record l { pending = l.pending ++ (record { event = e.number; x = e.x; y = e.y }) ∷ [] }) n s.env d) d

  pend_at : (o : Option Exec) (e : Event) (todo : List Todo) (vs : List Value) → StepTold T (polls.pend_at o e todo vs s)
  pend_at None e todo vs = d
  pend_at (Some n) e todo vs = either (StepTold T) (sw.is_live (Some n) s.env) _ _ (pend n e todo vs) d

  pub raise_at : (v : Value) (e : Event) (todo : List Todo) (vs : List Value) → StepTold T (polls.raise_at_step v e todo vs s)
  raise_at (Object o) e todo vs = d
  raise_at v e todo vs = pend_at (piece.exec_at v s.env) e todo vs

  pub enables : (cell : ℕ) → Told T (written (piece.variable_at cell s) (Number (signed_64 s.env.links.enabled)) s.env)
  enables cell = write_number (piece.variable_at cell s) (signed_64 s.env.links.enabled)

  quiet_poll : (o : Option Pending) (todo : List Todo) → StepTold T (polls.quiet_poll o todo s)
  quiet_poll None todo = d
  quiet_poll (Some p) todo = d

  poll_by : (b : Bool) (todo : List Todo) → StepTold T (polls.poll_by b todo s)
  poll_by true todo = d
  poll_by false todo = quiet_poll (inside.oldest_enabled s.env.links) todo

  pub poll : (todo : List Todo) → StepTold T (polls.poll_step todo s)
  poll todo = either (StepTold T) (nat_eq s.env.links.enabled 0) _ _ d (poll_by (inside.is_own s.env) todo)

  pub deliver : (v : Value) (todo : List Todo) → StepTold T (polls.deliver_step v todo s)
  deliver Nothing todo = d
  deliver v todo = d

  pub handles : (f : Option Found) (e : Event) (todo : List Todo) → StepTold T (raising.handle_step f e todo s)
  handles None e todo = d
  handles (Some f) e todo = d

  -- unwinding

  catches : (o : Option Handler) (e : Event) (todo : List Todo) → StepTold T (raising.catch_step o e todo s)
  catches None e todo = d
  catches (Some x) e todo = d

  guarded : (hs : Handlers) (o : Option UnwindReason) (todo : List Todo) → StepTold T (raising.guard_left hs o todo s)
  guarded hs (Some (reason.Event n x y)) todo = catches _ _ todo
  guarded hs o todo = d

  whole : (b : Bool) (todo : List Todo) → StepTold T (raising.whole_left b todo s)
  whole true todo = d
  whole false todo = d

  scope : (c : CleanUp) (b : Bool) (todo : List Todo) → StepTold T (raising.scope_left c b todo s)
  scope src.Leaves true todo = d
  scope c b todo = d

  main_left : (o : Option UnwindReason) (todo : List Todo) → StepTold T (raising.main_left o todo s)
  main_left (Some (reason.ReturnTo n)) todo = d
  main_left o todo = d

  coroutine_left : (o : Option UnwindReason) (todo : List Todo) → StepTold T (raising.coroutine_left o todo s)
  coroutine_left (Some (reason.ReturnTo n)) todo = d
  coroutine_left (Some reason.Destroyed) todo = moved _ todo _ (taken_down_told T (at todo [] s) d)
  coroutine_left o todo = moved _ todo _ (escape_told T (at todo [] s) d)

  unwind_past : (k : Sort) (todo : List Todo) → StepTold T (raising.unwind_past k todo s)
  unwind_past piece.IsWhole todo = whole _ todo
  unwind_past (piece.IsClean c) todo = scope c _ todo
  unwind_past (piece.IsGuard hs) todo = guarded hs s.run.raised todo
  unwind_past piece.IsFinish todo = main_left s.run.raised todo
  unwind_past piece.IsFinishCoroutine todo = coroutine_left s.run.raised todo
  unwind_past k todo = d

  pass_on : (o : Option UnwindReason) (c : Active) (cs : List Active) → StepTold T (raising.pass_on o c cs s)
  pass_on None c cs = d
  pass_on (Some why) c cs = d

  leave_for : (b : Bool) (c : Active) (cs : List Active) → StepTold T (raising.leave_for b c cs s)
  leave_for true c cs = d
  leave_for false c cs = pass_on s.run.raised c cs

  leaves : (cs : List Active) → StepTold T (raising.leave_step cs s)
  leaves [] = d
  leaves (c ∷ cs) =
      either (StepTold T) (raising.arrives s.run.raised (length (c ∷ cs))) _ _ (returned s.run.result (c ∷ cs)) (leave_for _ c cs)

  pub unwinds : (todo : List Todo) → StepTold T (raising.unwind_step todo s)
  unwinds [] = leaves s.callers
  unwinds (p ∷ ps) = unwind_past (piece.sort p) ps

  -- printing

  pub prints : (o : Option (List Piece)) (p : Piece) (todo : List Todo) (vs : List Value) → StepTold T (piece.print_step o p todo vs s)
  prints None p todo vs = d
  prints (Some ps) p todo vs = d

  pub flushes : (o : Option (List Piece)) (todo : List Todo) (vs : List Value) → StepTold T (piece.flush_step o todo vs s)
  flushes None todo vs = d
  flushes (Some []) todo vs = d
  flushes (Some (p ∷ ps)) todo vs = d

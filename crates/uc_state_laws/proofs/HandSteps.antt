-- A quiet step asks what changes the objects in which its task is deep, or leaves them.
use Rattle.std.proofs.Common.{◌≡◌, ℕ, zero, suc, ◌+◌, ◌||◌, ◌++◌, Bool, true, false, List, [], ◌∷◌, length, drop, Option, Some, None, refl, sym, ap, ◌∙◌}
use Rattle.std.specs.Prelude.{nat_eq, nat_lt, if◌then◌else◌}
use Rattle.uc_tree.specs.declared.limits.TheConstants.{CALLS, PENDING_EVENTS}
use Rattle.uc_tree.specs.Source as src
use Rattle.uc_tree.specs.Source.{Shape, Expr, ObjectExpr, Stmt, Stmts, EventStmt, TaskStmt, Routine, Way, CleanUp, Handlers}
use Rattle.uc_entry.specs.declared.request.Piece.{Piece}
use Rattle.uc_entry.specs.Keyed.{find, signed_64}
use Rattle.uc_acts.specs.Known.{has}
use Rattle.uc_machine.specs.declared.exec.Exec.{Exec}
use Rattle.uc_machine.specs.declared.exec.Pending.{Pending}
use Rattle.uc_machine.specs.declared.exec.UnwindReason.{UnwindReason}
use Rattle.uc_machine.specs.declared.exec.UnwindReason.TheVariants as reason
use Rattle.uc_machine.specs.declared.exec.Visited.{Visited}
use Rattle.uc_machine.specs.Switches as sw
use Rattle.uc_machine.specs.Switches.{Moved, To, Stops}
use Rattle.uc_machine.specs.Insides as inside
use Rattle.uc_machine.specs.Raising as raising
use Rattle.uc_machine.specs.Raising.{Event, Handler, Found}
use Rattle.uc_machine.specs.Monitors as monitors
use Rattle.uc_machine.specs.Polls as polls
use Rattle.uc_machine.specs.Quiet as quiet
use Rattle.uc_machine.specs.Pieces as piece
use Rattle.uc_machine.specs.Pieces.{Value, Number, Object, Nothing, Todo, Sort, Active, State, Step, Asks, Outcome, Gives, Faults, at, fault, top, written}
use Rattle.uc_step_laws.specs.Hands.{keys}
use Rattle.uc_step_laws.proofs.Kept.{either, update_keys}
use Rattle.uc_state_laws.specs.Deep.{dropped, DeepStep}
use Rattle.uc_state_laws.proofs.Kept.{Deep, MovedDeep, written_deep, born_deep, with_links_deep, taken_down_deep, escape_deep}

-- what is found under no number is none of them
pub not_found : (o : ℕ) (ps : List (ℕ × ℕ)) → find o ps ≡ None → has (keys ps) o ≡ false
not_found o [] h = refl
not_found o (p ∷ ps) h = by (nat_eq p.0 o) (not_found o ps) h
  where
    by : (b : Bool) → (find o ps ≡ None → has (keys ps) o ≡ false) → (if b then Some p.1 else find o ps) ≡ None → (b || has (keys ps) o) ≡ false
    by true ih h = cc
    by false ih h = ih h

without_keys : (o : ℕ) (ps : List (ℕ × ℕ)) → keys (sw.without o ps) ≡ dropped o (keys ps)
without_keys o [] = refl
without_keys o (p ∷ ps) = by (nat_eq p.0 o) (without_keys o ps)
  where
    by : (b : Bool) → keys (sw.without o ps) ≡ dropped o (keys ps) → keys (if b then ps else p ∷ sw.without o ps) ≡ (if b then keys ps else p.0 ∷ dropped o (keys ps))
    by true ih = refl
    by false ih = ap (λ l. p.0 ∷ l) ih

stays_deep : (x : Option ℕ) (o : ℕ) (ps : List (ℕ × ℕ)) → inside.is_last x ≡ false → keys (inside.shallower x o ps) ≡ keys ps
stays_deep None o ps h = cc
stays_deep (Some zero) o ps h = cc
stays_deep (Some (suc zero)) o ps h = cc
stays_deep (Some (suc (suc d))) o ps h = update_keys o (suc d) ps

leaves_deep : (x : Option ℕ) (o : ℕ) (ps : List (ℕ × ℕ)) → inside.is_last x ≡ true → keys (inside.shallower x o ps) ≡ dropped o (keys ps)
leaves_deep None o ps h = without_keys o ps
leaves_deep (Some zero) o ps h = without_keys o ps
leaves_deep (Some (suc zero)) o ps h = without_keys o ps
leaves_deep (Some (suc (suc d))) o ps h = cc

module _ (ks : List ℕ) (s : State) (d : Deep ks s.env) where
  pub moved : (m : Moved (List Todo) Value) (todo : List Todo) (vs : List Value) → MovedDeep ks m → DeepStep ks (piece.moves m (at todo vs s))
  moved (To t) todo vs m = m
  moved (Stops f) todo vs m = d

  pub write : (p v : Value) → Deep ks (written p v s.env)
  write p v = written_deep ks p v s.env d

  pub outcome : (o : Outcome) (todo : List Todo) (vs : List Value) → DeepStep ks (piece.outcome_step o todo vs s)
  outcome (Gives n) todo vs = d
  outcome (Faults f) todo vs = d

  pub element : (k : Shape) (i : Option ℕ) (todo : List Todo) (v : Value) (vs : List Value) → DeepStep ks (piece.element_step k i todo v vs s)
  element k None todo v vs = d
  element k (Some i) todo v vs = d

  -- expressions

  object : (o : ObjectExpr) (todo : List Todo) → DeepStep ks (quiet.object_step o todo s)
  object (src.EndOn r false a) todo = d
  object (src.EndOn r true a) todo = d
  object (src.MakeOn c r false a args) todo = d
  object (src.MakeOn c r true a args) todo = d
  object o todo = d

  pub eval : (a : Expr) (todo : List Todo) → DeepStep ks (quiet.eval_step a todo s)
  eval (src.OfObject o) todo = object o todo
  eval a todo = d

  -- the end of an activation

  pub returned : (given : Value) (cs : List Active) → DeepStep ks (piece.return_step given cs s)
  returned given [] = d
  returned given (a ∷ cs) = d

  past : (v : Visited) (given : Value) (cs : List Active) → DeepStep ks (raising.return_past v given cs s)
  past v given [] = d
  past v given (a ∷ cs) = d

  end_by : (v : Option Visited) (given : Value) → DeepStep ks (raising.end_by v given s)
  end_by None given = returned given s.callers
  end_by (Some v) given = past v given s.callers

  end_step : (w : Way) → DeepStep ks (quiet.end_step w s)
  end_step src.ToReturn = end_by s.run.handles _
  end_step src.ToEnd = end_by s.run.handles _
  end_step src.ToBreak = returned _ s.callers
  end_step src.ToContinue = returned _ s.callers

  pub exits : (w : Way) (todo : List Todo) → DeepStep ks (quiet.exit_step w todo s)
  exits w [] = end_step w
  exits w (p ∷ ps) = d

  -- statements

  pub swept : (n : ℕ) (e : Expr) (todo : List Todo) → DeepStep ks (quiet.sweep_step n e todo s)
  swept zero e todo = d
  swept (suc n) e todo = d

  event_step : (a : EventStmt) (todo : List Todo) → DeepStep ks (quiet.event_step a todo s)
  event_step (src.Throw line r) todo = d
  event_step (src.Raise line r) todo = d
  event_step (src.Try line body hs) todo = d
  event_step (src.RaiseAt line r a) todo = d
  event_step (src.Enable line events cell a) todo = d
  event_step (src.Disable line events cell a) todo = d

  task_step : (a : TaskStmt) (todo : List Todo) → DeepStep ks (quiet.task_step a todo s)
  task_step (src.Resume line) todo = d
  task_step (src.Suspend line) todo = d
  task_step (src.SetUp r) todo = d
  task_step src.Enliven todo = d
  task_step src.TakeDown todo = d
  task_step (src.Yield line) todo = d
  task_step (src.Migrate line a) todo = d
  task_step (src.Accept line site cs) todo = d

  pub stmt : (a : Stmt) (todo : List Todo) → DeepStep ks (quiet.stmt_step a todo s)
  stmt (src.Return line None) todo = d
  stmt (src.Return line (Some e)) todo = d
  stmt (src.OfEvents a) todo = event_step a todo
  stmt (src.OfTasks a) todo = task_step a todo
  stmt a todo = d

  pub rest : (ss : Stmts) (todo : List Todo) → DeepStep ks (quiet.rest_step ss todo s)
  rest src.Nil todo = d
  rest (src.Then a ss) todo = d
  rest (src.Scoped c ss) todo = d
  rest (src.Built c ss) todo = d

  -- calls

  pub call : (r : Option Routine) (todo : List Todo) → DeepStep ks (quiet.call_step r todo s)
  call None todo = d
  call (Some r) todo = either (DeepStep ks) (nat_lt s.env.links.calls CALLS) _ _ d d

  pub call_on : (r : Option Routine) (todo : List Todo) → DeepStep ks (quiet.call_on_step r todo s)
  call_on None todo = d
  call_on (Some r) todo = either (DeepStep ks) (nat_lt s.env.links.calls CALLS) _ _ d d

  pub call_unwritten : (r : Option Routine) (todo : List Todo) → DeepStep ks (quiet.call_unwritten_step r todo s)
  call_unwritten None todo = d
  call_unwritten (Some r) todo = d

  -- coroutines

  pub set_up : (r : Option Routine) (todo : List Todo) → DeepStep ks (quiet.set_up_step r todo s)
  set_up None todo = d
  set_up (Some r) todo = written_deep ks s.run.this _ _ (born_deep ks _ (quiet.fresh r s.run.this) s.env d)

  pub live : (r : Option Routine) (todo : List Todo) → DeepStep ks (quiet.live_step r todo s)
  live None todo = d
  live (Some r) todo = either (DeepStep ks) (sw.is_live (piece.exec_at (top (drop r.params s.run.operands)) s.env) s.env) _ _ d d

  pub land : (o : Option UnwindReason) (todo : List Todo) → DeepStep ks (quiet.land_step o todo s)
  land None todo = d
  land (Some why) todo = d

  -- mutex objects

  pub unless : (o : ℕ) (step : Step) (todo : List Todo) → DeepStep ks step → DeepStep ks (monitors.unless_held_up o step todo s)
  unless o step todo k = either (DeepStep ks) (inside.is_held_up o s.env) _ step d k

  enter_at : (x : Option ℕ) (o m : ℕ) (todo : List Todo) → find o s.env.depths ≡ x → DeepStep ks (monitors.enter_at x o m todo s)
  enter_at (Some n) o m todo e = ap (λ y. keys (inside.deeper y o s.env.depths)) e ∙ update_keys o (n + 1) s.env.depths ∙ d
  enter_at None o m todo e =
      (ap (λ l. has l o) (sym d) ∙ not_found o s.env.depths e, ap (λ y. keys (inside.deeper y o s.env.depths)) e ∙ ap (λ l. o ∷ l) d)

  pub enter : (m : ℕ) (r : Option Routine) (todo : List Todo) → DeepStep ks (monitors.enter_step m r todo s)
  enter m None todo = d
  enter m (Some r) todo =
      let o = piece.object_in (top (drop r.params s.run.operands)) in
      either (DeepStep ks) (monitors.may_call r.written s) _ _ (enter_at (find o s.env.depths) o m todo refl) d

  leave_at : (b : Bool) (o : ℕ) (todo : List Todo) → inside.is_last (find o s.env.depths) ≡ b → DeepStep ks (monitors.leave_at b o todo s)
  leave_at false o todo e = stays_deep (find o s.env.depths) o s.env.depths e ∙ d
  leave_at true o todo e = unless o _ todo (leaves_deep (find o s.env.depths) o s.env.depths e ∙ ap (dropped o) d)

  pub leave : (o : ℕ) (todo : List Todo) → DeepStep ks (monitors.leave_on o todo s)
  leave o todo = leave_at (inside.is_last (find o s.env.depths)) o todo refl

  pub make : (c k : ℕ) (r : Option Routine) (todo : List Todo) → DeepStep ks (monitors.make_step c k r todo s)
  make c k None todo = d
  make c k (Some r) todo = either (DeepStep ks) (monitors.may_call r.written s) _ _ d d

  pub bind : (r : Option Routine) (todo : List Todo) → DeepStep ks (monitors.bind_step r todo s)
  bind None todo = d
  bind (Some r) todo = write _ _

  -- an object is left for good
  pub left : (o : ℕ) → keys (sw.without o s.env.depths) ≡ dropped o ks
  left o = without_keys o s.env.depths ∙ ap (dropped o) d

  pub condition : (k : ℕ) (i : Option ℕ) (todo : List Todo) → DeepStep ks (monitors.condition_step k i todo s)
  condition k None todo = d
  condition k (Some i) todo = d

  pub accept : (mask o site : ℕ) (todo : List Todo) (vs : List Value) → DeepStep ks (monitors.accept_by mask o site todo vs s)
  accept zero o site todo vs = d
  accept (suc mask) o site todo vs = unless o _ todo d

  pub failed : (b : Bool) (todo : List Todo) (vs : List Value) → DeepStep ks (monitors.failed_step b todo vs s)
  failed true todo vs = d
  failed false todo vs = d

  -- events

  pend : (n : Exec) (e : Event) (todo : List Todo) (vs : List Value) → DeepStep ks (polls.pend_step n e todo vs s)
  pend n e todo vs =
      either (DeepStep ks) (nat_lt (length (inside.pending_at n s.env)) PENDING_EVENTS) _ _ (with_links_deep ks (λ l. record l { pending = l.pending ++ (record { event = e.number; x = e.x; y = e.y }) ∷ [] }) n s.env d) d

  pend_at : (o : Option Exec) (e : Event) (todo : List Todo) (vs : List Value) → DeepStep ks (polls.pend_at o e todo vs s)
  pend_at None e todo vs = d
  pend_at (Some n) e todo vs = either (DeepStep ks) (sw.is_live (Some n) s.env) _ _ (pend n e todo vs) d

  pub raise_at : (v : Value) (e : Event) (todo : List Todo) (vs : List Value) → DeepStep ks (polls.raise_at_step v e todo vs s)
  raise_at (Object o) e todo vs = d
  raise_at v e todo vs = pend_at (piece.exec_at v s.env) e todo vs

  pub enables : (cell : ℕ) → Deep ks (written (piece.variable_at cell s) (Number (signed_64 s.env.links.enabled)) s.env)
  enables cell = write (piece.variable_at cell s) (Number (signed_64 s.env.links.enabled))

  quiet_poll : (o : Option Pending) (todo : List Todo) → DeepStep ks (polls.quiet_poll o todo s)
  quiet_poll None todo = d
  quiet_poll (Some p) todo = d

  poll_by : (b : Bool) (todo : List Todo) → DeepStep ks (polls.poll_by b todo s)
  poll_by true todo = d
  poll_by false todo = quiet_poll (inside.oldest_enabled s.env.links) todo

  pub poll : (todo : List Todo) → DeepStep ks (polls.poll_step todo s)
  poll todo = either (DeepStep ks) (nat_eq s.env.links.enabled 0) _ _ d (poll_by (inside.is_own s.env) todo)

  pub deliver : (v : Value) (todo : List Todo) → DeepStep ks (polls.deliver_step v todo s)
  deliver Nothing todo = d
  deliver v todo = d

  pub handles : (f : Option Found) (e : Event) (todo : List Todo) → DeepStep ks (raising.handle_step f e todo s)
  handles None e todo = d
  handles (Some f) e todo = d

  -- unwinding

  catches : (o : Option Handler) (e : Event) (todo : List Todo) → DeepStep ks (raising.catch_step o e todo s)
  catches None e todo = d
  catches (Some x) e todo = d

  guarded : (hs : Handlers) (o : Option UnwindReason) (todo : List Todo) → DeepStep ks (raising.guard_left hs o todo s)
  guarded hs (Some (reason.Event n x y)) todo = catches _ _ todo
  guarded hs o todo = d

  whole : (b : Bool) (todo : List Todo) → DeepStep ks (raising.whole_left b todo s)
  whole true todo = d
  whole false todo = d

  scope : (c : CleanUp) (b : Bool) (todo : List Todo) → DeepStep ks (raising.scope_left c b todo s)
  scope src.Leaves true todo = d
  scope c b todo = d

  main_left : (o : Option UnwindReason) (todo : List Todo) → DeepStep ks (raising.main_left o todo s)
  main_left (Some (reason.ReturnTo n)) todo = d
  main_left o todo = d

  coroutine_left : (o : Option UnwindReason) (todo : List Todo) → DeepStep ks (raising.coroutine_left o todo s)
  coroutine_left (Some (reason.ReturnTo n)) todo = d
  coroutine_left (Some reason.Destroyed) todo = moved _ todo _ (taken_down_deep ks (at todo [] s) d)
  coroutine_left o todo = moved _ todo _ (escape_deep ks (at todo [] s) d)

  unwind_past : (k : Sort) (todo : List Todo) → DeepStep ks (raising.unwind_past k todo s)
  unwind_past piece.IsWhole todo = whole _ todo
  unwind_past (piece.IsClean c) todo = scope c _ todo
  unwind_past (piece.IsGuard hs) todo = guarded hs s.run.raised todo
  unwind_past piece.IsFinish todo = main_left s.run.raised todo
  unwind_past piece.IsFinishCoroutine todo = coroutine_left s.run.raised todo
  unwind_past k todo = d

  pass_on : (o : Option UnwindReason) (c : Active) (cs : List Active) → DeepStep ks (raising.pass_on o c cs s)
  pass_on None c cs = d
  pass_on (Some why) c cs = d

  leave_for : (b : Bool) (c : Active) (cs : List Active) → DeepStep ks (raising.leave_for b c cs s)
  leave_for true c cs = d
  leave_for false c cs = pass_on s.run.raised c cs

  leaves : (cs : List Active) → DeepStep ks (raising.leave_step cs s)
  leaves [] = d
  leaves (c ∷ cs) =
      either (DeepStep ks) (raising.arrives s.run.raised (length (c ∷ cs))) _ _ (returned s.run.result (c ∷ cs)) (leave_for _ c cs)

  pub unwinds : (todo : List Todo) → DeepStep ks (raising.unwind_step todo s)
  unwinds [] = leaves s.callers
  unwinds (p ∷ ps) = unwind_past (piece.sort p) ps

  -- printing

  pub prints : (o : Option (List Piece)) (p : Piece) (todo : List Todo) (vs : List Value) → DeepStep ks (piece.print_step o p todo vs s)
  prints None p todo vs = d
  prints (Some ps) p todo vs = d

  pub flushes : (o : Option (List Piece)) (todo : List Todo) (vs : List Value) → DeepStep ks (piece.flush_step o todo vs s)
  flushes None todo vs = d
  flushes (Some []) todo vs = d
  flushes (Some (p ∷ ps)) todo vs = d

-- A quiet step of a task in which mains of tasks alone end tasks leads to one.
use Rattle.std.proofs.Common.{◌≡◌, ℕ, zero, suc, ◌++◌, Bool, true, false, List, [], ◌∷◌, length, drop, Option, Some, None, refl}
use Rattle.std.specs.Prelude.{nat_eq, nat_lt}
use Rattle.uc_tree.specs.declared.limits.TheConstants.{CALLS, PENDING_EVENTS}
use Rattle.uc_tree.specs.Source as src
use Rattle.uc_tree.specs.Source.{Shape, Expr, ObjectExpr, Stmt, Stmts, EventStmt, TaskStmt, Routine, Purpose, Order, Way, CleanUp, Handlers, Clauses, Raised, Item, Declared}
use Rattle.uc_entry.specs.declared.request.Piece.{Piece}
use Rattle.uc_entry.specs.Keyed.{find, signed_64}
use Rattle.uc_machine.specs.declared.exec.Exec.{Exec}
use Rattle.uc_machine.specs.declared.exec.Pending.{Pending}
use Rattle.uc_machine.specs.declared.exec.UnwindReason.{UnwindReason}
use Rattle.uc_machine.specs.declared.exec.UnwindReason.TheVariants as reason
use Rattle.uc_machine.specs.declared.exec.Visited.{Visited}
use Rattle.uc_machine.specs.Executions.{values_cleared}
use Rattle.uc_machine.specs.Switches as sw
use Rattle.uc_machine.specs.Switches.{Moved, To, Stops}
use Rattle.uc_machine.specs.Insides as inside
use Rattle.uc_machine.specs.Raising as raising
use Rattle.uc_machine.specs.Raising.{Event, Handler, Found, Hit}
use Rattle.uc_machine.specs.Monitors as monitors
use Rattle.uc_machine.specs.Polls as polls
use Rattle.uc_machine.specs.Quiet as quiet
use Rattle.uc_machine.specs.Pieces as piece
use Rattle.uc_machine.specs.Pieces.{Value, Number, Place, Running, Object, Nothing, Todo, Sort, Active, State, Env, Members, Step, Goes, Ticks, Asks, Outcome, Gives, Faults, at, in_env, top, below, number, nought, written}
use Rattle.uc_rooted_runs.specs.TaskMains.{is_task_main, AtEnd, EndsIn, EndsStack, EndsEx, EndsState, EndsStep, IsNoTaskMain, AreNoTaskMains}
use Rattle.uc_life_laws.proofs.Cells.{either}
use Rattle.uc_rooted_runs.proofs.TaskMainKeeping as kept
use Rattle.uc_rooted_runs.proofs.TaskMainKeeping.{Keeps}

-- to-do lists of an execution that is the main of a task, or of one that is not
module _ (main : Bool) where
  abbrev There : List Todo → Type 0
  There todo = EndsIn main todo

  -- a routine that is called
  behind_called : (p : Purpose) (line : ℕ) → IsNoTaskMain p → There (quiet.behind_body p line)
  behind_called src.TaskMain line f = absurd f
  behind_called src.CoroutineMain line f = tt
  behind_called src.Procedure line f = tt
  behind_called src.Function line f = tt
  behind_called src.Builder line f = tt

  pub called : (r : Routine) → IsNoTaskMain r.purpose → There (quiet.routine_todo r)
  called r f = behind_called r.purpose r.line f

  -- one with which a task begins
  behind_begun : main ≡ true → (p : Purpose) (line : ℕ) → There (quiet.behind_body p line)
  behind_begun e src.TaskMain line = (e, tt)
  behind_begun e src.CoroutineMain line = tt
  behind_begun e src.Procedure line = tt
  behind_begun e src.Function line = tt
  behind_begun e src.Builder line = tt

  pub begins : main ≡ true → (r : Routine) → There (quiet.routine_todo r)
  begins e r = behind_begun e r.purpose r.line

  pub starts : (cell : ℕ) (v : Option Expr) (todo : List Todo) → There todo → There (quiet.starting cell v todo)
  starts cell None todo h = h
  starts cell (Some e) todo h = h

  pub converts : (k : Shape) (todo : List Todo) → There todo → There (quiet.converting k todo)
  converts src.Character todo h = h
  converts src.Truth todo h = h
  converts k todo h = h

  pub stepped : (e : Option Expr) (todo : List Todo) → There todo → There (quiet.step_todo e todo)
  stepped None todo h = h
  stepped (Some e) todo h = h

  pub tested : (order : Order) (c : Expr) (e : Option Expr) (b : Stmt) (todo : List Todo) → There todo → There (quiet.test_todo order c e b todo)
  tested src.TestFirst c e b todo h = h
  tested src.BodyFirst c e b todo h = h
  tested src.NoTest c e b todo h = h

  pub looped : (order : Order) (c : Expr) (e : Option Expr) (b : Stmt) (todo : List Todo) → There todo → There (quiet.loop_todo order c e b todo)
  looped src.TestFirst c e b todo h = h
  looped src.BodyFirst c e b todo h = h
  looped src.NoTest c e b todo h = h

  loop_left : (w : Way) (order : Order) (c : Expr) (e : Option Expr) (b : Stmt) (todo : List Todo) → There todo → There (quiet.loop_left w order c e b todo)
  loop_left src.ToBreak order c e b todo h = h
  loop_left src.ToContinue order c e b todo h = h
  loop_left src.ToReturn order c e b todo h = h
  loop_left src.ToEnd order c e b todo h = h

  -- a piece of a sort is left; what holds of it holds of what is outwards of it
  pub left_behind : (w : Way) (k : Sort) (todo : List Todo) → AtEnd main k (There todo) → There (quiet.left_behind w k todo)
  left_behind w piece.Simple todo h = h
  left_behind w (piece.IsLoop order c e b) todo h = loop_left w order c e b todo h
  left_behind w piece.IsWhole todo h = h
  left_behind w (piece.IsClean x) todo h = h
  left_behind w (piece.IsFill n b d) todo h = h
  left_behind w (piece.IsSweep e) todo h = h
  left_behind w (piece.IsPart x) todo h = h
  left_behind w (piece.IsGuard hs) todo h = h
  left_behind w piece.IsFinish todo h = h
  left_behind w piece.IsFinishCoroutine todo h = h

  pub filled : (b : Bool) (n : ℕ) (e d : Expr) (todo : List Todo) → There todo → There (quiet.fill_todo b n e d todo)
  filled false n e d todo h = h
  filled true n e d todo h = h

  pub raised : (r : Raised) (todo : List Todo) → There todo → There (raising.raised_todo r todo)
  raised (src.Plainly n) todo h = h
  raised (src.BuiltAt n c e) todo h = h
  raised (src.AgainFrom c) todo h = h

  pub cleans : (c : CleanUp) (todo : List Todo) → There todo → There (piece.clean_todo c todo)
  cleans (src.Destroys e) todo h = h
  cleans (src.DestroysAll k e) todo h = h
  cleans src.Unwinds todo h = h
  cleans src.Forgets todo h = h
  cleans src.Leaves todo h = h
  cleans src.Ends todo h = h
  cleans (src.Frees None) todo h = h
  cleans (src.Frees (Some r)) todo h = h
  cleans (src.Restores k) todo h = h

  pub left_cleans : (c : CleanUp) (todo : List Todo) → There todo → There (raising.left_todo c todo)
  left_cleans (src.Frees r) todo h = h
  left_cleans c todo h = cleans c todo h

  pub branch : (k : ℕ) (cs : Clauses) (todo : List Todo) → There todo → There (monitors.branch_todo k cs todo)
  branch k src.NoClauses todo h = h
  branch k (src.Otherwise b) todo h = either There (nat_eq k 0) (piece.Do b ∷ todo) todo h h
  branch zero (src.MoreClauses guard b cs) todo h = branch zero cs todo h
  branch (suc zero) (src.MoreClauses guard b cs) todo h = h
  branch (suc (suc k)) (src.MoreClauses guard b cs) todo h = branch (suc k) cs todo h

  pub item : (i : Item) (todo : List Todo) → There todo → There (quiet.item_todo i todo)
  item (src.Show g e) todo h = h
  item (src.ShowText k) todo h = h

  pub item_value : (i : Item) (todo : List Todo) → There todo → There (quiet.item_value i todo)
  item_value (src.Show g e) todo h = h
  item_value (src.ShowText k) todo h = h

  pub item_piece : (i : Item) (todo : List Todo) → There todo → There (quiet.item_piece i ∷ todo)
  item_piece (src.Show g e) todo h = h
  item_piece (src.ShowText k) todo h = h

  pub polled : (w : Option UnwindReason) (todo : List Todo) → There todo → There (monitors.leave_todo w todo)
  polled None todo h = h
  polled (Some why) todo h = h

module _ (s : State) (st : EndsState s) where
  abbrev pub Holding : List Todo → Type 0
  Holding todo = EndsIn (is_task_main s.env.exec) todo

  -- with something else to do, and other operands
  pub go : (todo : List Todo) (vs : List Value) → Holding todo → EndsState (at todo vs s)
  go todo vs h = record { stack = (h, st.stack.1); env = st.env }

  -- and with another rest of the task
  pub go_in : (todo : List Todo) (vs : List Value) (e : Env) → Keeps s.env e → Holding todo → EndsState (at todo vs (in_env e s))
  go_in todo vs e k h = kept.with_env (at todo vs s) (go todo vs h) k

  -- nothing that is told of changes
  pub same : {e : Env} → e.exec ≡ s.env.exec → e.hand ≡ s.env.hand → e.house ≡ s.env.house → e.own ≡ s.env.own → Keeps s.env e
  same x h g o = kept.keeps_like st.env x h g o

  -- the end of an activation

  pub returned : (given : Value) (cs : List Active) → EndsStack (is_task_main s.env.exec) cs → EndsStep (piece.return_step given cs s)
  returned given [] h = st
  returned given (a ∷ cs) h = record { stack = (h.0, h.1); env = kept.like st.env refl refl refl }

  past : (v : Visited) (given : Value) (cs : List Active) → EndsStack (is_task_main s.env.exec) cs → EndsStep (raising.return_past v given cs s)
  past v given [] h = st
  past v given (a ∷ cs) h = record { stack = (h.0, h.1); env = kept.like st.env refl refl refl }

  end_by : (v : Option Visited) (given : Value) → EndsStep (raising.end_by v given s)
  end_by None given = returned given s.callers st.stack.1
  end_by (Some v) given = past v given s.callers st.stack.1

  end_step : (w : Way) → EndsStep (quiet.end_step w s)
  end_step src.ToReturn = end_by s.run.handles _
  end_step src.ToEnd = end_by s.run.handles _
  end_step src.ToBreak = returned _ s.callers st.stack.1
  end_step src.ToContinue = returned _ s.callers st.stack.1

  pass_on : (w : Option UnwindReason) (c : Active) (cs : List Active) → EndsStack (is_task_main s.env.exec) (c ∷ cs) → EndsStep (raising.pass_on w c cs s)
  pass_on None c cs h = st
  pass_on (Some why) c cs h = record { stack = (h.0, h.1); env = kept.like st.env refl refl refl }

  leave_for : (b : Bool) (c : Active) (cs : List Active) → EndsStack (is_task_main s.env.exec) (c ∷ cs) → EndsStep (raising.leave_for b c cs s)
  leave_for true c cs h = st
  leave_for false c cs h = pass_on s.run.raised c cs h

  leaves : (cs : List Active) → EndsStack (is_task_main s.env.exec) cs → EndsStep (raising.leave_step cs s)
  leaves [] h = st
  leaves (c ∷ cs) h =
      either EndsStep (raising.arrives s.run.raised (length (c ∷ cs))) _ _ (returned s.run.result (c ∷ cs) h) (leave_for _ c cs h)

  pub moved : (m : Moved (List Todo) Value) (todo : List Todo) (vs : List Value) → Holding todo → kept.EndsMoved m → EndsStep (piece.moves m (at todo vs s))
  moved (To u) todo vs h m = m
  moved (Stops f) todo vs h m = go todo vs h

  pub outcome : (x : Outcome) (todo : List Todo) (vs : List Value) → Holding todo → EndsStep (piece.outcome_step x todo vs s)
  outcome (Gives n) todo vs h = go todo _ h
  outcome (Faults f) todo vs h = go todo _ h

  pub element : (n : Shape) (i : Option ℕ) (todo : List Todo) (v : Value) (vs : List Value) → Holding todo → EndsStep (piece.element_step n i todo v vs s)
  element n None todo v vs h = go todo _ h
  element n (Some i) todo v vs h = go todo _ h

  -- expressions

  object : (x : ObjectExpr) (todo : List Todo) → Holding todo → EndsStep (quiet.object_step x todo s)
  object (src.EndOn r false a) todo h = go _ _ h
  object (src.EndOn r true a) todo h = go _ _ h
  object (src.MakeOn c r false a args) todo h = go _ _ h
  object (src.MakeOn c r true a args) todo h = go _ _ h
  object x todo h = go _ _ h

  pub eval : (a : Expr) (todo : List Todo) → Holding todo → EndsStep (quiet.eval_step a todo s)
  eval (src.Update op k p a) todo h = go _ _ (converts (is_task_main s.env.exec) k (piece.KeepNow ∷ todo) h)
  eval (src.StepBehind op k p) todo h = go _ _ (converts (is_task_main s.env.exec) k (piece.StoreNow ∷ (piece.DropBelowNow ∷ todo)) h)
  eval (src.OfObject x) todo h = object x todo h
  eval a todo h = go _ _ h

  -- statements

  pub swept : (n : ℕ) (e : Expr) (todo : List Todo) → Holding todo → EndsStep (quiet.sweep_step n e todo s)
  swept zero e todo h = go _ _ h
  swept (suc m) e todo h = record { stack = (h, st.stack.1); env = st.env }

  event_step : (a : EventStmt) (todo : List Todo) → Holding todo → EndsStep (quiet.event_step a todo s)
  event_step (src.Throw line r) todo h = go _ _ (raised (is_task_main s.env.exec) r _ h)
  event_step (src.Raise line r) todo h = go _ _ (raised (is_task_main s.env.exec) r _ h)
  event_step (src.RaiseAt line r a) todo h = go _ _ (raised (is_task_main s.env.exec) r _ h)
  event_step (src.Try line body hs) todo h = go _ _ h
  event_step (src.Enable line events cell a) todo h = go _ _ h
  event_step (src.Disable line events cell a) todo h = go _ _ h

  task_step : (a : TaskStmt) (todo : List Todo) → Holding todo → EndsStep (quiet.task_step a todo s)
  task_step (src.Resume line) todo h = go _ _ h
  task_step a todo h = go _ _ h

  pub stmt : (a : Stmt) (todo : List Todo) → Holding todo → EndsStep (quiet.stmt_step a todo s)
  stmt (src.Loop line order c e b) todo h = go _ _ (looped (is_task_main s.env.exec) order c e b _ h)
  stmt (src.Return line None) todo h = go _ _ h
  stmt (src.Return line (Some e)) todo h = go _ _ h
  stmt (src.OfEvents a) todo h = event_step a todo h
  stmt (src.OfTasks a) todo h = task_step a todo h
  stmt a todo h = go _ _ h

  -- cells start anew
  pub clears : (k m : ℕ) (todo : List Todo) → Holding todo → EndsStep (quiet.turns todo (in_env (piece.cleared k m s) s))
  clears k m todo h = go_in todo s.run.operands (piece.cleared k m s) (kept.owned_keeps (piece.this_frame s) (values_cleared k m nought) s.env st.env) h

  -- calls

  begun : (r : Routine) → IsNoTaskMain r.purpose → (this : Value) (counts : Bool) (todo : List Todo) (vs : List Value) → Holding todo → EndsStep (quiet.begun_step r this counts todo vs s)
  begun r f this counts todo vs h =
      record { stack = (called (is_task_main s.env.exec) r f, (h, st.stack.1)); env = kept.like st.env refl refl refl }

  pub call : (r : Option Routine) → AreNoTaskMains r → (todo : List Todo) → Holding todo → EndsStep (quiet.call_step r todo s)
  call None f todo h = go _ _ h
  call (Some r) f todo h = either EndsStep (nat_lt s.env.links.calls CALLS) _ _ (begun r (f r refl) _ true todo _ h) (go todo _ h)

  pub call_on : (r : Option Routine) → AreNoTaskMains r → (todo : List Todo) → Holding todo → EndsStep (quiet.call_on_step r todo s)
  call_on None f todo h = go _ _ h
  call_on (Some r) f todo h = either EndsStep (nat_lt s.env.links.calls CALLS) _ _ (begun r (f r refl) _ true todo _ h) (go todo _ h)

  pub call_unwritten : (r : Option Routine) → AreNoTaskMains r → (todo : List Todo) → Holding todo → EndsStep (quiet.call_unwritten_step r todo s)
  call_unwritten None f todo h = go _ _ h
  call_unwritten (Some r) f todo h = begun r (f r refl) _ false todo _ h

  -- coroutines

  fresh : (n : Exec) (r : Routine) (this : Value) → IsNoTaskMain r.purpose → EndsEx n (quiet.fresh r this)
  fresh n r this f = (called (is_task_main n) r f, tt)

  pub set_up : (r : Option Routine) → AreNoTaskMains r → (todo : List Todo) → Holding todo → EndsStep (quiet.set_up_step r todo s)
  set_up None f todo h = go _ _ h
  set_up (Some r) f todo h =
      let q = quiet.home_at s.run.this s.env in
      let x = quiet.fresh r s.run.this in
      let k : Keeps s.env (sw.born q x s.env) = kept.born_keeps q x s.env (λ n. fresh n r s.run.this (f r refl)) st.env in
      go_in _ _ _ (kept.keeps_both k (kept.written_keeps s.run.this _ (sw.born q x s.env) k.env)) h

  pub live : (r : Option Routine) (todo : List Todo) → Holding todo → EndsStep (quiet.live_step r todo s)
  live None todo h = go _ _ h
  live (Some r) todo h = either EndsStep (sw.is_live (piece.exec_at (top (drop r.params s.run.operands)) s.env) s.env) _ _ (go todo _ h) (go todo _ h)

  pub land : (w : Option UnwindReason) (todo : List Todo) → Holding todo → EndsStep (quiet.land_step w todo s)
  land None todo h = go _ _ h
  land (Some why) todo h = go _ _ h

  -- mutex objects

  pub unless : (q : ℕ) (step : Step) (todo : List Todo) → Holding todo → EndsStep step → EndsStep (monitors.unless_held_up q step todo s)
  unless q step todo h k = either EndsStep (inside.is_held_up q s.env) _ step (go todo _ h) k

  enter_at : (d : Option ℕ) (q m : ℕ) (todo : List Todo) → Holding todo → EndsStep (monitors.enter_at d q m todo s)
  enter_at (Some d) q m todo h = go_in _ _ _ (same refl refl refl refl) h
  enter_at None q m todo h = go_in _ _ _ (same refl refl refl refl) h

  pub enter : (m : ℕ) (r : Option Routine) (todo : List Todo) → Holding todo → EndsStep (monitors.enter_step m r todo s)
  enter m None todo h = go _ _ h
  enter m (Some r) todo h =
      let q = piece.object_in (top (drop r.params s.run.operands)) in
      either EndsStep (monitors.may_call r.written s) _ _ (enter_at (find q s.env.depths) q m todo h) (go todo _ h)

  pub leave : (b : Bool) (q : ℕ) (todo : List Todo) → Holding todo → EndsStep (monitors.leave_at b q todo s)
  leave false q todo h = go_in _ _ _ (same refl refl refl refl) h
  leave true q todo h =
      unless q _ todo h (record { stack = (polled (is_task_main s.env.exec) s.run.raised todo h, st.stack.1); env = kept.like st.env refl refl refl })

  pub make : (c n : ℕ) (r : Option Routine) (todo : List Todo) → Holding todo → EndsStep (monitors.make_step c n r todo s)
  make c n None todo h = go _ _ h
  make c n (Some r) todo h =
      either EndsStep (monitors.may_call r.written s) _ _ (go_in _ _ _ (same refl refl refl refl) h) (go todo _ h)

  pub bind : (r : Option Routine) (todo : List Todo) → Holding todo → EndsStep (monitors.bind_step r todo s)
  bind None todo h = go _ _ h
  bind (Some r) todo h = go_in _ _ _ (kept.written_keeps _ _ s.env st.env) h

  pub condition : (n : ℕ) (i : Option ℕ) (todo : List Todo) → Holding todo → EndsStep (monitors.condition_step n i todo s)
  condition n None todo h = go todo _ h
  condition n (Some i) todo h = go todo _ h

  pub accept_by : (mask q site : ℕ) (todo : List Todo) (vs : List Value) → Holding todo → EndsStep (monitors.accept_by mask q site todo vs s)
  accept_by zero q site todo vs h = go _ _ h
  accept_by (suc mask) q site todo vs h = unless q _ todo h (go _ _ h)

  pub failed : (b : Bool) (todo : List Todo) (vs : List Value) → Holding todo → EndsStep (monitors.failed_step b todo vs s)
  failed true todo vs h = go _ _ h
  failed false todo vs h = go _ _ h

  -- events

  pend : (n : Exec) (e : Event) (todo : List Todo) (vs : List Value) → Holding todo → EndsStep (polls.pend_step n e todo vs s)
  pend n e todo vs h =
      either EndsStep (nat_lt (length (inside.pending_at n s.env)) PENDING_EVENTS) _ _ (go_in _ _ _ (kept.links_keeps (λ l. record l { pending = l.pending ++ (record { event = e.number; x = e.x; y = e.y }) ∷ [] }) n s.env st.env) h) (go todo vs h)

  pend_at : (x : Option Exec) (e : Event) (todo : List Todo) (vs : List Value) → Holding todo → EndsStep (polls.pend_at x e todo vs s)
  pend_at None e todo vs h = go todo vs h
  pend_at (Some n) e todo vs h = either EndsStep (sw.is_live (Some n) s.env) _ _ (pend n e todo vs h) (go todo vs h)

  pub raise_at : (v : Value) (e : Event) (todo : List Todo) (vs : List Value) → Holding todo → EndsStep (polls.raise_at_step v e todo vs s)
  raise_at (Object q) e todo vs h = go todo vs h
  raise_at v e todo vs h = pend_at (piece.exec_at v s.env) e todo vs h

  pub enables : (events cell : ℕ) (todo : List Todo) → Holding todo → EndsStep (polls.enable_step events cell todo s)
  enables events cell todo h =
      let k : Keeps s.env (written (piece.variable_at cell s) (Number (signed_64 s.env.links.enabled)) s.env) = kept.written_keeps (piece.variable_at cell s) (Number (signed_64 s.env.links.enabled)) s.env st.env in
      go_in _ _ _ (kept.keeps_both k (kept.keeps_like k.env refl refl refl refl)) h

  quiet_poll : (x : Option Pending) (todo : List Todo) → Holding todo → EndsStep (polls.quiet_poll x todo s)
  quiet_poll None todo h = go _ _ h
  quiet_poll (Some p) todo h = go_in _ _ _ (same refl refl refl refl) h

  poll_by : (b : Bool) (todo : List Todo) → Holding todo → EndsStep (polls.poll_by b todo s)
  poll_by true todo h = go _ _ h
  poll_by false todo h = quiet_poll (inside.oldest_enabled s.env.links) todo h

  pub poll : (todo : List Todo) → Holding todo → EndsStep (polls.poll_step todo s)
  poll todo h = either EndsStep (nat_eq s.env.links.enabled 0) _ _ (go todo _ h) (poll_by (inside.is_own s.env) todo h)

  pub deliver : (v : Value) (todo : List Todo) → Holding todo → EndsStep (polls.deliver_step v todo s)
  deliver Nothing todo h = go _ _ h
  deliver v todo h = go _ _ h

  -- the running activation is told anew
  told : (b : Active) → Holding b.control → EndsState (record s { run = b })
  told b h = record { stack = (h, st.stack.1); env = st.env }

  pub throws : (e : Event) (todo : List Todo) → Holding todo → EndsStep (raising.throw_step e todo s)
  throws e todo h = told _ h

  -- the handler of a resumption begins
  handles : (o : Option Found) (e : Event) (todo : List Todo) → Holding todo → EndsStep (raising.handle_step o e todo s)
  handles None e todo h = throws e todo h
  handles (Some x) e todo h = record { stack = (tt, (h, st.stack.1)); env = kept.like st.env refl refl refl }

  pub raises : (e : Event) (todo : List Todo) → Holding todo → EndsStep (raising.raise_step e todo s)
  raises e todo h = handles (raising.seek None e (record s.run { control = todo } ∷ s.callers)) e todo h

  -- unwinding

  catches : (x : Option Handler) (e : Event) (todo : List Todo) → Holding todo → EndsStep (raising.catch_step x e todo s)
  catches None e todo h = go _ _ h
  catches (Some x) e todo h = told _ h

  guarded : (hs : Handlers) (w : Option UnwindReason) (todo : List Todo) → Holding todo → EndsStep (raising.guard_left hs w todo s)
  guarded hs (Some (reason.Event n y z)) todo h = catches (raising.handler_for false (record { number = n; x = y; y = z }) hs) (record { number = n; x = y; y = z }) todo h
  guarded hs w todo h = go _ _ h

  whole : (b : Bool) (todo : List Todo) → Holding todo → EndsStep (raising.whole_left b todo s)
  whole true todo h = told _ h
  whole false todo h = go _ _ h

  scope : (c : CleanUp) (b : Bool) (todo : List Todo) → Holding todo → EndsStep (raising.scope_left c b todo s)
  scope src.Leaves true todo h = told _ h
  scope c b todo h = go (raising.left_todo c (piece.Unwind ∷ todo)) [] (left_cleans (is_task_main s.env.exec) c (piece.Unwind ∷ todo) h)

  main_left : (w : Option UnwindReason) (todo : List Todo) → (is_task_main s.env.exec ≡ true) × Holding todo → EndsStep (raising.main_left w todo s)
  main_left (Some (reason.ReturnTo n)) todo h = told _ h
  main_left w todo h = go todo [] h.1

  coroutine_left : (w : Option UnwindReason) (todo : List Todo) → Holding todo → EndsStep (raising.coroutine_left w todo s)
  coroutine_left (Some (reason.ReturnTo n)) todo h = told _ h
  coroutine_left (Some reason.Destroyed) todo h = moved _ todo _ h (kept.taken_down_rests (at todo [] s) (go todo [] h))
  coroutine_left w todo h = moved _ todo _ h (kept.escape_rests (at todo [] s) (go todo [] h))

  unwind_past : (k : Sort) (todo : List Todo) → AtEnd (is_task_main s.env.exec) k (Holding todo) → EndsStep (raising.unwind_past k todo s)
  unwind_past piece.Simple todo h = go _ _ h
  unwind_past (piece.IsLoop order c e b) todo h = go _ _ h
  unwind_past piece.IsWhole todo h = whole _ todo h
  unwind_past (piece.IsClean x) todo h = scope x _ todo h
  unwind_past (piece.IsFill m b d) todo h = go _ _ h
  unwind_past (piece.IsSweep e) todo h = go _ _ h
  unwind_past (piece.IsPart x) todo h = go _ _ (cleans (is_task_main s.env.exec) x (piece.Unwind ∷ todo) h)
  unwind_past (piece.IsGuard hs) todo h = guarded hs s.run.raised todo h
  unwind_past piece.IsFinish todo h = main_left s.run.raised todo h
  unwind_past piece.IsFinishCoroutine todo h = coroutine_left s.run.raised todo h

  pub unwinds : (todo : List Todo) → Holding todo → EndsStep (raising.unwind_step todo s)
  unwinds [] h = leaves s.callers st.stack.1
  unwinds (p ∷ ps) h = unwind_past (piece.sort p) ps h

  pub exits : (w : Way) (todo : List Todo) → Holding todo → EndsStep (quiet.exit_step w todo s)
  exits w [] h = end_step w
  exits w (p ∷ ps) h = go _ _ (left_behind (is_task_main s.env.exec) w (piece.sort p) ps h)

  -- printing

  pub prints : (x : Option (List Piece)) (p : Piece) (todo : List Todo) (vs : List Value) → Holding todo → EndsStep (piece.print_step x p todo vs s)
  prints None p todo vs h = go _ _ h
  prints (Some ps) p todo vs h = go_in _ _ _ (same refl refl refl refl) h

  pub flushes : (x : Option (List Piece)) (todo : List Todo) (vs : List Value) → Holding todo → EndsStep (piece.flush_step x todo vs s)
  flushes None todo vs h = go _ _ h
  flushes (Some []) todo vs h = go_in _ _ _ (same refl refl refl refl) h
  flushes (Some (p ∷ ps)) todo vs h = go_in _ _ _ (same refl refl refl refl) h

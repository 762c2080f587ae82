-- A quiet step of a task in which nothing that is to do binds a made object leads to one, or asks for an object that is bound next.
use Rattle.std.proofs.Common.{◌≡◌, ℕ, zero, suc, ◌++◌, Bool, true, false, List, [], ◌∷◌, length, drop, Option, Some, None, refl}
use Rattle.std.specs.Prelude.{nat_eq, nat_lt}
use Rattle.uc_tree.specs.declared.limits.TheConstants.{CALLS, PENDING_EVENTS}
use Rattle.uc_tree.specs.Source as src
use Rattle.uc_tree.specs.Source.{Shape, Expr, ObjectExpr, Stmt, EventStmt, TaskStmt, Routine, Purpose, Order, Way, CleanUp, Handlers, Clauses, Raised, Item}
use Rattle.uc_entry.specs.declared.request.Piece.{Piece}
use Rattle.uc_entry.specs.Keyed.{find, signed_64}
use Rattle.uc_machine.specs.declared.exec.Exec.{Exec}
use Rattle.uc_machine.specs.declared.exec.Pending.{Pending}
use Rattle.uc_machine.specs.declared.exec.UnwindReason.{UnwindReason}
use Rattle.uc_machine.specs.declared.exec.UnwindReason.TheVariants as reason
use Rattle.uc_machine.specs.declared.exec.Visited.{Visited}
use Rattle.uc_machine.specs.Switches as sw
use Rattle.uc_machine.specs.Switches.{Moved, To, Stops}
use Rattle.uc_machine.specs.Insides as inside
use Rattle.uc_machine.specs.Raising as raising
use Rattle.uc_machine.specs.Raising.{Event, Handler, Found}
use Rattle.uc_machine.specs.Monitors as monitors
use Rattle.uc_machine.specs.Polls as polls
use Rattle.uc_machine.specs.Quiet as quiet
use Rattle.uc_machine.specs.Pieces as piece
use Rattle.uc_machine.specs.Pieces.{Value, Number, Object, Nothing, Todo, Sort, Active, State, Env, Step, Outcome, Gives, Faults, at, in_env, top, written}
use Rattle.uc_site_laws.specs.Resting.{AllWait, RestsEnv}
use Rattle.uc_site_laws.proofs.Kept as kept
use Rattle.uc_site_laws.proofs.Kept.{either}
use Rattle.uc_life_laws.specs.MadeObjects.{BindsNone, NoneActive, NoneState, NoneStep}

pub calm : (a : Active) (w : Option UnwindReason) → NoneActive a → NoneActive (record a { raised = w })
calm a w h = h

abbrev pub Moves : Moved (List Todo) Value → Type 0
Moves m = kept.RestsMoved NoneActive NoneActive calm m

-- so it is outwards of a piece
pub behind : (p : Todo) (todo : List Todo) → BindsNone (p ∷ todo) → BindsNone todo
behind (piece.BindMadeNow c r) todo h = absurd h
behind p todo h = h

-- what is to do

behind_body : (p : Purpose) (line : ℕ) → BindsNone (quiet.behind_body p line)
behind_body src.TaskMain line = tt
behind_body src.CoroutineMain line = tt
behind_body src.Procedure line = tt
behind_body src.Function line = tt
behind_body src.Builder line = tt

pub routine : (r : Routine) → BindsNone (quiet.routine_todo r)
routine r = behind_body r.purpose r.line

pub starts : (cell : ℕ) (v : Option Expr) (todo : List Todo) → BindsNone todo → BindsNone (quiet.starting cell v todo)
starts cell None todo h = h
starts cell (Some e) todo h = h

pub converts : (k : Shape) (todo : List Todo) → BindsNone todo → BindsNone (quiet.converting k todo)
converts src.Character todo h = h
converts src.Truth todo h = h
converts k todo h = h

pub stepped : (e : Option Expr) (todo : List Todo) → BindsNone todo → BindsNone (quiet.step_todo e todo)
stepped None todo h = h
stepped (Some e) todo h = h

pub tested : (order : Order) (c : Expr) (e : Option Expr) (b : Stmt) (todo : List Todo) → BindsNone todo → BindsNone (quiet.test_todo order c e b todo)
tested src.TestFirst c e b todo h = h
tested src.BodyFirst c e b todo h = h
tested src.NoTest c e b todo h = h

pub looped : (order : Order) (c : Expr) (e : Option Expr) (b : Stmt) (todo : List Todo) → BindsNone todo → BindsNone (quiet.loop_todo order c e b todo)
looped src.TestFirst c e b todo h = h
looped src.BodyFirst c e b todo h = h
looped src.NoTest c e b todo h = h

loop_left : (w : Way) (order : Order) (c : Expr) (e : Option Expr) (b : Stmt) (todo : List Todo) → BindsNone todo → BindsNone (quiet.loop_left w order c e b todo)
loop_left src.ToBreak order c e b todo h = h
loop_left src.ToContinue order c e b todo h = h
loop_left src.ToReturn order c e b todo h = h
loop_left src.ToEnd order c e b todo h = h

-- a piece of a sort is left; what holds of it holds of what is outwards of it
pub left_behind : (w : Way) (k : Sort) (todo : List Todo) → BindsNone todo → BindsNone (quiet.left_behind w k todo)
left_behind w piece.Simple todo h = h
left_behind w (piece.IsLoop order c e b) todo h = loop_left w order c e b todo h
left_behind w piece.IsWhole todo h = h
left_behind w (piece.IsClean x) todo h = h
left_behind w (piece.IsFill n b d) todo h = h
left_behind w (piece.IsSweep e) todo h = h
left_behind w (piece.IsPart x) todo h = h
left_behind w (piece.IsGuard hs) todo h = h
left_behind w piece.IsFinish todo h = h
left_behind w piece.IsFinishCoroutine todo h = h

pub filled : (b : Bool) (n : ℕ) (e d : Expr) (todo : List Todo) → BindsNone todo → BindsNone (quiet.fill_todo b n e d todo)
filled false n e d todo h = h
filled true n e d todo h = h

pub raised : (r : Raised) (todo : List Todo) → BindsNone todo → BindsNone (raising.raised_todo r todo)
raised (src.Plainly n) todo h = h
raised (src.BuiltAt n c e) todo h = h
raised (src.AgainFrom c) todo h = h

pub cleans : (c : CleanUp) (todo : List Todo) → BindsNone todo → BindsNone (piece.clean_todo c todo)
cleans (src.Destroys e) todo h = h
cleans (src.DestroysAll k e) todo h = h
cleans src.Unwinds todo h = h
cleans src.Forgets todo h = h
cleans src.Leaves todo h = h
cleans src.Ends todo h = h
cleans (src.Frees None) todo h = h
cleans (src.Frees (Some r)) todo h = h
cleans (src.Restores k) todo h = h

pub left_cleans : (c : CleanUp) (todo : List Todo) → BindsNone todo → BindsNone (raising.left_todo c todo)
left_cleans (src.Frees r) todo h = h
left_cleans c todo h = cleans c todo h

pub branch : (k : ℕ) (cs : Clauses) (todo : List Todo) → BindsNone todo → BindsNone (monitors.branch_todo k cs todo)
branch k src.NoClauses todo h = h
branch k (src.Otherwise b) todo h = either BindsNone (nat_eq k 0) (piece.Do b ∷ todo) todo h h
branch zero (src.MoreClauses guard b cs) todo h = branch zero cs todo h
branch (suc zero) (src.MoreClauses guard b cs) todo h = h
branch (suc (suc k)) (src.MoreClauses guard b cs) todo h = branch (suc k) cs todo h

pub item : (i : Item) (todo : List Todo) → BindsNone todo → BindsNone (quiet.item_todo i todo)
item (src.Show g e) todo h = h
item (src.ShowText k) todo h = h

pub item_value : (i : Item) (todo : List Todo) → BindsNone todo → BindsNone (quiet.item_value i todo)
item_value (src.Show g e) todo h = h
item_value (src.ShowText k) todo h = h

pub item_piece : (i : Item) (todo : List Todo) → BindsNone todo → BindsNone (quiet.item_piece i ∷ todo)
item_piece (src.Show g e) todo h = h
item_piece (src.ShowText k) todo h = h

pub polled : (w : Option UnwindReason) (todo : List Todo) → BindsNone todo → BindsNone (monitors.leave_todo w todo)
polled None todo h = h
polled (Some why) todo h = h

module _ (s : State) (callers : AllWait NoneActive NoneActive s.callers) (env : RestsEnv NoneActive NoneActive s.env) where
  -- with something else to do, and other operands
  pub go : (todo : List Todo) (vs : List Value) → BindsNone todo → NoneState (at todo vs s)
  go todo vs h = record { run = h; callers = callers; env = env }

  -- and with another rest of the task
  pub go_in : (todo : List Todo) (vs : List Value) (e : Env) → RestsEnv NoneActive NoneActive e → BindsNone todo → NoneState (at todo vs (in_env e s))
  go_in todo vs e k h = record { run = h; callers = callers; env = k }

  -- nothing that is told of changes
  pub same : {e : Env} → e.hand ≡ s.env.hand → e.house ≡ s.env.house → RestsEnv NoneActive NoneActive e
  same h g = kept.like NoneActive NoneActive calm env h g

  pub write : (p v : Value) → RestsEnv NoneActive NoneActive (written p v s.env)
  write p v = kept.written_rests NoneActive NoneActive calm p v s.env env

  -- the end of an activation

  pub returned : (given : Value) (cs : List Active) → AllWait NoneActive NoneActive cs → BindsNone s.run.control → NoneStep (piece.return_step given cs s)
  returned given [] w c = record { run = c; callers = callers; env = env }
  returned given (a ∷ cs) w c = record { run = w.0; callers = w.1; env = same refl refl }

  past : (v : Visited) (given : Value) (cs : List Active) → AllWait NoneActive NoneActive cs → BindsNone s.run.control → NoneStep (raising.return_past v given cs s)
  past v given [] w c = record { run = c; callers = callers; env = env }
  past v given (a ∷ cs) w c = record { run = w.0; callers = w.1; env = same refl refl }

  end_by : (v : Option Visited) (given : Value) → BindsNone s.run.control → NoneStep (raising.end_by v given s)
  end_by None given c = returned given s.callers callers c
  end_by (Some v) given c = past v given s.callers callers c

  end_step : (w : Way) → BindsNone s.run.control → NoneStep (quiet.end_step w s)
  end_step src.ToReturn c = end_by s.run.handles _ c
  end_step src.ToEnd c = end_by s.run.handles _ c
  end_step src.ToBreak c = returned _ s.callers callers c
  end_step src.ToContinue c = returned _ s.callers callers c

  pass_on : (o : Option UnwindReason) (a : Active) (cs : List Active) → NoneActive a → AllWait NoneActive NoneActive cs → BindsNone s.run.control → NoneStep (raising.pass_on o a cs s)
  pass_on None a cs h w c = record { run = c; callers = callers; env = env }
  pass_on (Some why) a cs h w c = record { run = h; callers = w; env = same refl refl }

  leave_for : (b : Bool) (a : Active) (cs : List Active) → NoneActive a → AllWait NoneActive NoneActive cs → BindsNone s.run.control → NoneStep (raising.leave_for b a cs s)
  leave_for true a cs h w c = record { run = c; callers = callers; env = env }
  leave_for false a cs h w c = pass_on s.run.raised a cs h w c

  leaves : (cs : List Active) → AllWait NoneActive NoneActive cs → BindsNone s.run.control → NoneStep (raising.leave_step cs s)
  leaves [] w c = record { run = c; callers = callers; env = env }
  leaves (a ∷ cs) w c =
      either NoneStep (raising.arrives s.run.raised (length (a ∷ cs))) _ _ (returned s.run.result (a ∷ cs) w c) (leave_for _ a cs w.0 w.1 c)

  pub moved : (m : Moved (List Todo) Value) (todo : List Todo) (vs : List Value) → BindsNone todo → Moves m → NoneStep (piece.moves m (at todo vs s))
  moved (To u) todo vs h m = m
  moved (Stops f) todo vs h m = go todo vs h

  pub outcome : (x : Outcome) (todo : List Todo) (vs : List Value) → BindsNone todo → NoneStep (piece.outcome_step x todo vs s)
  outcome (Gives n) todo vs h = go todo _ h
  outcome (Faults f) todo vs h = go todo _ h

  pub element : (n : Shape) (i : Option ℕ) (todo : List Todo) (v : Value) (vs : List Value) → BindsNone todo → NoneStep (piece.element_step n i todo v vs s)
  element n None todo v vs h = go todo _ h
  element n (Some i) todo v vs h = go todo _ h

  -- expressions

  object : (x : ObjectExpr) (todo : List Todo) → BindsNone todo → NoneStep (quiet.object_step x todo s)
  object (src.EndOn r false a) todo h = go _ _ h
  object (src.EndOn r true a) todo h = go _ _ h
  object (src.MakeOn c r false a args) todo h = go _ _ h
  object (src.MakeOn c r true a args) todo h = go _ _ h
  object x todo h = go _ _ h

  pub eval : (a : Expr) (todo : List Todo) → BindsNone todo → NoneStep (quiet.eval_step a todo s)
  eval (src.Update op k p a) todo h = go _ _ (converts k (piece.KeepNow ∷ todo) h)
  eval (src.StepBehind op k p) todo h = go _ _ (converts k (piece.StoreNow ∷ (piece.DropBelowNow ∷ todo)) h)
  eval (src.OfObject x) todo h = object x todo h
  eval a todo h = go _ _ h

  -- statements

  pub swept : (n : ℕ) (e : Expr) (todo : List Todo) → BindsNone todo → NoneStep (quiet.sweep_step n e todo s)
  swept zero e todo h = go _ _ h
  swept (suc m) e todo h = record { run = h; callers = callers; env = env }

  event_step : (a : EventStmt) (todo : List Todo) → BindsNone todo → NoneStep (quiet.event_step a todo s)
  event_step (src.Throw line r) todo h = go _ _ (raised r _ h)
  event_step (src.Raise line r) todo h = go _ _ (raised r _ h)
  event_step (src.Try line body hs) todo h = go _ _ h
  event_step (src.RaiseAt line r a) todo h = go _ _ (raised r _ h)
  event_step (src.Enable line events cell a) todo h = go _ _ h
  event_step (src.Disable line events cell a) todo h = go _ _ h

  task_step : (a : TaskStmt) (todo : List Todo) → BindsNone todo → NoneStep (quiet.task_step a todo s)
  task_step (src.Resume line) todo h = go _ _ h
  task_step a todo h = go _ _ h

  pub stmt : (a : Stmt) (todo : List Todo) → BindsNone todo → NoneStep (quiet.stmt_step a todo s)
  stmt (src.Loop line order c e b) todo h = go _ _ (looped order c e b _ h)
  stmt (src.Return line None) todo h = go _ _ h
  stmt (src.Return line (Some e)) todo h = go _ _ h
  stmt (src.OfEvents a) todo h = event_step a todo h
  stmt (src.OfTasks a) todo h = task_step a todo h
  stmt a todo h = go _ _ h

  -- calls

  begun : (r : Routine) (this : Value) (counts : Bool) (todo : List Todo) (vs : List Value) → BindsNone todo → NoneStep (quiet.begun_step r this counts todo vs s)
  begun r this counts todo vs h = record { run = routine r; callers = (h, callers); env = same refl refl }

  pub call : (r : Option Routine) (todo : List Todo) → BindsNone todo → NoneStep (quiet.call_step r todo s)
  call None todo h = go _ _ h
  call (Some r) todo h = either NoneStep (nat_lt s.env.links.calls CALLS) _ _ (begun r _ true todo _ h) (go todo _ h)

  pub call_on : (r : Option Routine) (todo : List Todo) → BindsNone todo → NoneStep (quiet.call_on_step r todo s)
  call_on None todo h = go _ _ h
  call_on (Some r) todo h = either NoneStep (nat_lt s.env.links.calls CALLS) _ _ (begun r _ true todo _ h) (go todo _ h)

  pub call_unwritten : (r : Option Routine) (todo : List Todo) → BindsNone todo → NoneStep (quiet.call_unwritten_step r todo s)
  call_unwritten None todo h = go _ _ h
  call_unwritten (Some r) todo h = begun r _ false todo _ h

  -- coroutines

  pub set_up : (r : Option Routine) (todo : List Todo) → BindsNone todo → NoneStep (quiet.set_up_step r todo s)
  set_up None todo h = go _ _ h
  set_up (Some r) todo h = go_in _ _ _ (kept.written_rests NoneActive NoneActive calm s.run.this _ _ (kept.born_rests NoneActive NoneActive calm _ (quiet.fresh r s.run.this) s.env (record { run = routine r; callers = tt }) env)) h

  pub live : (r : Option Routine) (todo : List Todo) → BindsNone todo → NoneStep (quiet.live_step r todo s)
  live None todo h = go _ _ h
  live (Some r) todo h = either NoneStep (sw.is_live (piece.exec_at (top (drop r.params s.run.operands)) s.env) s.env) _ _ (go todo _ h) (go todo _ h)

  pub land : (w : Option UnwindReason) (todo : List Todo) → BindsNone todo → NoneStep (quiet.land_step w todo s)
  land None todo h = go _ _ h
  land (Some why) todo h = go _ _ h

  -- mutex objects

  pub unless : (q : ℕ) (step : Step) (todo : List Todo) → BindsNone todo → NoneStep step → NoneStep (monitors.unless_held_up q step todo s)
  unless q step todo h k = either NoneStep (inside.is_held_up q s.env) _ step (go todo _ h) k

  enter_at : (d : Option ℕ) (q m : ℕ) (todo : List Todo) → BindsNone todo → NoneStep (monitors.enter_at d q m todo s)
  enter_at (Some d) q m todo h = go_in _ _ _ (same refl refl) h
  enter_at None q m todo h = go_in _ _ _ (same refl refl) h

  pub enter : (m : ℕ) (r : Option Routine) (todo : List Todo) → BindsNone todo → NoneStep (monitors.enter_step m r todo s)
  enter m None todo h = go _ _ h
  enter m (Some r) todo h =
      let q = piece.object_in (top (drop r.params s.run.operands)) in
      either NoneStep (monitors.may_call r.written s) _ _ (enter_at (find q s.env.depths) q m todo h) (go todo _ h)

  pub leave : (b : Bool) (q : ℕ) (todo : List Todo) → BindsNone todo → NoneStep (monitors.leave_at b q todo s)
  leave false q todo h = go_in _ _ _ (same refl refl) h
  leave true q todo h =
      unless q _ todo h (record { run = polled s.run.raised todo h; callers = callers; env = same refl refl })

  pub make : (c n : ℕ) (r : Option Routine) (todo : List Todo) → BindsNone todo → NoneStep (monitors.make_step c n r todo s)
  make c n None todo h = go _ _ h
  make c n (Some r) todo h =
      either NoneStep (monitors.may_call r.written s) _ _ (record { run = h; callers = callers; env = same refl refl }) (go todo _ h)

  pub bind : (r : Option Routine) (todo : List Todo) → BindsNone todo → NoneStep (monitors.bind_step r todo s)
  bind None todo h = go _ _ h
  bind (Some r) todo h = go_in _ _ _ (write _ _) h

  pub condition : (n : ℕ) (i : Option ℕ) (todo : List Todo) → BindsNone todo → NoneStep (monitors.condition_step n i todo s)
  condition n None todo h = go todo _ h
  condition n (Some i) todo h = go todo _ h

  pub accept_by : (mask q site : ℕ) (todo : List Todo) (vs : List Value) → BindsNone todo → NoneStep (monitors.accept_by mask q site todo vs s)
  accept_by zero q site todo vs h = go _ _ h
  accept_by (suc mask) q site todo vs h = unless q _ todo h (go _ _ h)

  pub failed : (b : Bool) (todo : List Todo) (vs : List Value) → BindsNone todo → NoneStep (monitors.failed_step b todo vs s)
  failed true todo vs h = go _ _ h
  failed false todo vs h = go _ _ h

  -- events

  pend : (n : Exec) (e : Event) (todo : List Todo) (vs : List Value) → BindsNone todo → NoneStep (polls.pend_step n e todo vs s)
  pend n e todo vs h =
      either NoneStep (nat_lt (length (inside.pending_at n s.env)) PENDING_EVENTS) _ _ (go_in _ _ _ (kept.with_links_rests NoneActive NoneActive calm (λ l. record l { pending = l.pending ++ (record { event = e.number; x = e.x; y = e.y }) ∷ [] }) n s.env env) h) (go todo vs h)

  pend_at : (x : Option Exec) (e : Event) (todo : List Todo) (vs : List Value) → BindsNone todo → NoneStep (polls.pend_at x e todo vs s)
  pend_at None e todo vs h = go todo vs h
  pend_at (Some n) e todo vs h = either NoneStep (sw.is_live (Some n) s.env) _ _ (pend n e todo vs h) (go todo vs h)

  pub raise_at : (v : Value) (e : Event) (todo : List Todo) (vs : List Value) → BindsNone todo → NoneStep (polls.raise_at_step v e todo vs s)
  raise_at (Object q) e todo vs h = go todo vs h
  raise_at v e todo vs h = pend_at (piece.exec_at v s.env) e todo vs h

  pub enables : (events cell : ℕ) (todo : List Todo) → BindsNone todo → NoneStep (polls.enable_step events cell todo s)
  enables events cell todo h = go_in _ _ _ (kept.like NoneActive NoneActive calm (write (piece.variable_at cell s) (Number (signed_64 s.env.links.enabled))) refl refl) h

  quiet_poll : (x : Option Pending) (todo : List Todo) → BindsNone todo → NoneStep (polls.quiet_poll x todo s)
  quiet_poll None todo h = go _ _ h
  quiet_poll (Some p) todo h = go_in _ _ _ (same refl refl) h

  poll_by : (b : Bool) (todo : List Todo) → BindsNone todo → NoneStep (polls.poll_by b todo s)
  poll_by true todo h = go _ _ h
  poll_by false todo h = quiet_poll (inside.oldest_enabled s.env.links) todo h

  pub poll : (todo : List Todo) → BindsNone todo → NoneStep (polls.poll_step todo s)
  poll todo h = either NoneStep (nat_eq s.env.links.enabled 0) _ _ (go todo _ h) (poll_by (inside.is_own s.env) todo h)

  pub deliver : (v : Value) (todo : List Todo) → BindsNone todo → NoneStep (polls.deliver_step v todo s)
  deliver Nothing todo h = go _ _ h
  deliver v todo h = go _ _ h

  pub throws : (e : Event) (todo : List Todo) → BindsNone todo → NoneStep (raising.throw_step e todo s)
  throws e todo h = record { run = h; callers = callers; env = env }

  -- the handler of a resumption begins
  handles : (o : Option Found) (e : Event) (todo : List Todo) → BindsNone todo → NoneStep (raising.handle_step o e todo s)
  handles None e todo h = throws e todo h
  handles (Some x) e todo h = record { run = tt; callers = (h, callers); env = same refl refl }

  pub raises : (e : Event) (todo : List Todo) → BindsNone todo → NoneStep (raising.raise_step e todo s)
  raises e todo h = handles (raising.seek None e (record s.run { control = todo } ∷ s.callers)) e todo h

  -- unwinding

  catches : (x : Option Handler) (e : Event) (todo : List Todo) → BindsNone todo → NoneStep (raising.catch_step x e todo s)
  catches None e todo h = go _ _ h
  catches (Some x) e todo h = record { run = h; callers = callers; env = env }

  guarded : (hs : Handlers) (w : Option UnwindReason) (todo : List Todo) → BindsNone todo → NoneStep (raising.guard_left hs w todo s)
  guarded hs (Some (reason.Event n y z)) todo h = catches (raising.handler_for false (record { number = n; x = y; y = z }) hs) (record { number = n; x = y; y = z }) todo h
  guarded hs w todo h = go _ _ h

  whole : (b : Bool) (todo : List Todo) → BindsNone todo → NoneStep (raising.whole_left b todo s)
  whole true todo h = record { run = h; callers = callers; env = env }
  whole false todo h = go _ _ h

  scope : (c : CleanUp) (b : Bool) (todo : List Todo) → BindsNone todo → NoneStep (raising.scope_left c b todo s)
  scope src.Leaves true todo h = record { run = h; callers = callers; env = env }
  scope c b todo h = go (raising.left_todo c (piece.Unwind ∷ todo)) [] (left_cleans c (piece.Unwind ∷ todo) h)

  main_left : (w : Option UnwindReason) (todo : List Todo) → BindsNone todo → NoneStep (raising.main_left w todo s)
  main_left (Some (reason.ReturnTo n)) todo h = record { run = h; callers = callers; env = env }
  main_left w todo h = go todo [] h

  coroutine_left : (w : Option UnwindReason) (todo : List Todo) → BindsNone todo → NoneStep (raising.coroutine_left w todo s)
  coroutine_left (Some (reason.ReturnTo n)) todo h = record { run = h; callers = callers; env = env }
  coroutine_left (Some reason.Destroyed) todo h = moved _ todo _ h (kept.taken_down_rests NoneActive NoneActive calm (at todo [] s) (go todo [] h))
  coroutine_left w todo h = moved _ todo _ h (kept.escape_rests NoneActive NoneActive calm (at todo [] s) (go todo [] h))

  unwind_past : (k : Sort) (todo : List Todo) → BindsNone todo → NoneStep (raising.unwind_past k todo s)
  unwind_past piece.Simple todo h = go _ _ h
  unwind_past (piece.IsLoop order c e b) todo h = go _ _ h
  unwind_past piece.IsWhole todo h = whole _ todo h
  unwind_past (piece.IsClean x) todo h = scope x _ todo h
  unwind_past (piece.IsFill m b d) todo h = go _ _ h
  unwind_past (piece.IsSweep e) todo h = go _ _ h
  unwind_past (piece.IsPart x) todo h = go _ _ (cleans x _ h)
  unwind_past (piece.IsGuard hs) todo h = guarded hs s.run.raised todo h
  unwind_past piece.IsFinish todo h = main_left s.run.raised todo h
  unwind_past piece.IsFinishCoroutine todo h = coroutine_left s.run.raised todo h

  pub unwinds : (todo : List Todo) → BindsNone todo → BindsNone s.run.control → NoneStep (raising.unwind_step todo s)
  unwinds [] h c = leaves s.callers callers c
  unwinds (p ∷ ps) h c = unwind_past (piece.sort p) ps (behind p ps h)

  pub exits : (w : Way) (todo : List Todo) → BindsNone todo → BindsNone s.run.control → NoneStep (quiet.exit_step w todo s)
  exits w [] h c = end_step w c
  exits w (p ∷ ps) h c = go _ _ (left_behind w (piece.sort p) ps (behind p ps h))

  -- printing

  pub prints : (x : Option (List Piece)) (p : Piece) (todo : List Todo) (vs : List Value) → BindsNone todo → NoneStep (piece.print_step x p todo vs s)
  prints None p todo vs h = go _ _ h
  prints (Some ps) p todo vs h = go_in _ _ _ (same refl refl) h

  pub flushes : (x : Option (List Piece)) (todo : List Todo) (vs : List Value) → BindsNone todo → NoneStep (piece.flush_step x todo vs s)
  flushes None todo vs h = go _ _ h
  flushes (Some []) todo vs h = go_in _ _ _ (same refl refl) h
  flushes (Some (p ∷ ps)) todo vs h = go_in _ _ _ (same refl refl) h

-- A step that asks for a task, or lets others into an object, is the one behind the building of that.
use Rattle.std.proofs.Common.{◌≡◌, ℕ, zero, suc, Bool, true, false, List, [], ◌∷◌, length, drop, Option, Some, None, refl}
use Rattle.std.specs.Prelude.{nat_eq, nat_lt, slice_get}
use Rattle.uc_tree.specs.declared.limits.TheConstants.{CALLS, PENDING_EVENTS}
use Rattle.uc_tree.specs.Source as src
use Rattle.uc_tree.specs.Source.{Source, Shape, Expr, ObjectExpr, Stmt, Stmts, EventStmt, TaskStmt, Routine, Way, CleanUp, Handlers}
use Rattle.uc_entry.specs.declared.request.Piece.{Piece}
use Rattle.uc_entry.specs.declared.request.Request.{Request}
use Rattle.uc_entry.specs.declared.request.Request.TheVariants as ask
use Rattle.uc_entry.specs.Keyed.{find}
use Rattle.uc_machine.specs.declared.exec.Exec.{Exec}
use Rattle.uc_machine.specs.declared.exec.Pending.{Pending}
use Rattle.uc_machine.specs.declared.exec.UnwindReason.{UnwindReason}
use Rattle.uc_machine.specs.declared.exec.UnwindReason.TheVariants as reason
use Rattle.uc_machine.specs.declared.exec.Visited.{Visited}
use Rattle.uc_machine.specs.Executions.{take_operands}
use Rattle.uc_machine.specs.Switches as sw
use Rattle.uc_machine.specs.Switches.{Moved, To, Stops}
use Rattle.uc_machine.specs.Insides as inside
use Rattle.uc_machine.specs.Raising as raising
use Rattle.uc_machine.specs.Raising.{Event, Handler, Found}
use Rattle.uc_machine.specs.Monitors as monitors
use Rattle.uc_machine.specs.Polls as polls
use Rattle.uc_machine.specs.Quiet as quiet
use Rattle.uc_machine.specs.Pieces as piece
use Rattle.uc_machine.specs.Pieces.{Value, Number, Place, Running, Object, Nothing, Todo, Sort, Active, State, Env, Members, Step, Goes, Ticks, Asks, Outcome, Gives, Faults, at, top, below, number, nought, written}
use Rattle.uc_life_laws.proofs.Cells.{either}

-- the object at hand is spawned as a task with a main, which a piece that does nothing else tells
pub record IsSpawning (s : State) (o : ℕ) (u : State) : Type 0 where
  pub main : ℕ
  pub todo : List Todo
  pub control : s.run.control ≡ piece.SpawnNow main ∷ todo
  pub object : o ≡ piece.object_in s.run.this
  pub run : u.run ≡ record s.run { control = piece.ChildNow main ∷ todo }
  pub callers : u.callers ≡ s.callers
  pub exec : u.env.exec ≡ s.env.exec

-- others are let into the object at hand, which a piece that does nothing else tells
pub record IsFreeing (s : State) (o : ℕ) (u : State) : Type 0 where
  pub todo : List Todo
  pub control : s.run.control ≡ piece.MadeNow ∷ todo
  pub object : o ≡ piece.object_in s.run.this
  pub run : u.run ≡ record s.run { control = todo }
  pub callers : u.callers ≡ s.callers
  pub exec : u.env.exec ≡ s.env.exec

abbrev pub SpawnAsk : State → Request → State → Type 0
SpawnAsk s (ask.Spawn o) u = IsSpawning s o u
SpawnAsk s (ask.Made o) u = IsFreeing s o u
SpawnAsk s r u = Unit {0}

abbrev pub SpawnStep : State → Step → Type 0
SpawnStep s (Goes u) = Unit {0}
SpawnStep s (Ticks u) = Unit {0}
SpawnStep s (Asks r u) = SpawnAsk s r u

module _ (source : Source) (s : State) where
  -- the end of an activation

  returned : (given : Value) (cs : List Active) → Unit {0} → SpawnStep s (piece.return_step given cs s)
  returned given [] f = tt
  returned given (a ∷ cs) f = tt

  past : (v : Visited) (given : Value) (cs : List Active) → Unit {0} → SpawnStep s (raising.return_past v given cs s)
  past v given [] f = tt
  past v given (a ∷ cs) f = tt

  end_by : (v : Option Visited) (given : Value) → Unit {0} → SpawnStep s (raising.end_by v given s)
  end_by None given f = returned given s.callers f
  end_by (Some v) given f = past v given s.callers f

  end_step : (w : Way) → Unit {0} → SpawnStep s (quiet.end_step w s)
  end_step src.ToReturn f = end_by s.run.handles _ f
  end_step src.ToEnd f = end_by s.run.handles _ f
  end_step src.ToBreak f = returned _ s.callers f
  end_step src.ToContinue f = returned _ s.callers f

  pass_on : (w : Option UnwindReason) (c : Active) (cs : List Active) → SpawnStep s (raising.pass_on w c cs s)
  pass_on None c cs = tt
  pass_on (Some why) c cs = tt

  leave_for : (b : Bool) (c : Active) (cs : List Active) → SpawnStep s (raising.leave_for b c cs s)
  leave_for true c cs = tt
  leave_for false c cs = pass_on s.run.raised c cs

  leaves : (cs : List Active) → SpawnStep s (raising.leave_step cs s)
  leaves [] = tt
  leaves (c ∷ cs) =
      either (SpawnStep s) (raising.arrives s.run.raised (length (c ∷ cs))) _ _ (returned s.run.result (c ∷ cs) tt) (leave_for _ c cs)

  moved : (m : Moved (List Todo) Value) (todo : List Todo) (vs : List Value) → SpawnStep s (piece.moves m (at todo vs s))
  moved (To u) todo vs = tt
  moved (Stops f) todo vs = tt

  outcome : (x : Outcome) (todo : List Todo) (vs : List Value) → SpawnStep s (piece.outcome_step x todo vs s)
  outcome (Gives n) todo vs = tt
  outcome (Faults f) todo vs = tt

  element : (n : Shape) (i : Option ℕ) (todo : List Todo) (v : Value) (vs : List Value) → SpawnStep s (piece.element_step n i todo v vs s)
  element n None todo v vs = tt
  element n (Some i) todo v vs = tt

  -- expressions

  object : (x : ObjectExpr) (todo : List Todo) → SpawnStep s (quiet.object_step x todo s)
  object (src.EndOn r false a) todo = tt
  object (src.EndOn r true a) todo = tt
  object (src.MakeOn c r false a args) todo = tt
  object (src.MakeOn c r true a args) todo = tt
  object x todo = tt

  eval : (a : Expr) (todo : List Todo) → SpawnStep s (quiet.eval_step a todo s)
  eval (src.OfObject x) todo = object x todo
  eval a todo = tt

  -- statements

  swept : (n : ℕ) (e : Expr) (todo : List Todo) → SpawnStep s (quiet.sweep_step n e todo s)
  swept zero e todo = tt
  swept (suc m) e todo = tt

  event_step : (a : EventStmt) (todo : List Todo) → SpawnStep s (quiet.event_step a todo s)
  event_step (src.Throw line r) todo = tt
  event_step (src.Raise line r) todo = tt
  event_step (src.RaiseAt line r a) todo = tt
  event_step (src.Try line body hs) todo = tt
  event_step (src.Enable line events cell a) todo = tt
  event_step (src.Disable line events cell a) todo = tt

  task_step : (a : TaskStmt) (todo : List Todo) → SpawnStep s (quiet.task_step a todo s)
  task_step (src.Resume line) todo = tt
  task_step a todo = tt

  stmt : (a : Stmt) (todo : List Todo) → SpawnStep s (quiet.stmt_step a todo s)
  stmt (src.Return line None) todo = tt
  stmt (src.Return line (Some e)) todo = tt
  stmt (src.OfEvents a) todo = event_step a todo
  stmt (src.OfTasks a) todo = task_step a todo
  stmt a todo = tt

  rests : (ss : Stmts) (todo : List Todo) → SpawnStep s (quiet.rest_step ss todo s)
  rests src.Nil todo = tt
  rests (src.Then a ss) todo = tt
  rests (src.Scoped c ss) todo = tt
  rests (src.Built c ss) todo = tt

  -- calls

  begun : (r : Routine) (this : Value) (counts : Bool) (todo : List Todo) (vs : List Value) → SpawnStep s (quiet.begun_step r this counts todo vs s)
  begun r this counts todo vs = tt

  call : (r : Option Routine) (todo : List Todo) → SpawnStep s (quiet.call_step r todo s)
  call None todo = tt
  call (Some r) todo = either (SpawnStep s) (nat_lt s.env.links.calls CALLS) _ _ (begun r Nothing true todo (drop r.params s.run.operands)) tt

  call_on : (r : Option Routine) (todo : List Todo) → SpawnStep s (quiet.call_on_step r todo s)
  call_on None todo = tt
  call_on (Some r) todo =
      either (SpawnStep s) (nat_lt s.env.links.calls CALLS) _ _ (begun r (top (drop r.params s.run.operands)) true todo (below (drop r.params s.run.operands))) tt

  call_unwritten : (r : Option Routine) (todo : List Todo) → SpawnStep s (quiet.call_unwritten_step r todo s)
  call_unwritten None todo = tt
  call_unwritten (Some r) todo = begun r (top (drop r.params s.run.operands)) false todo (below (drop r.params s.run.operands))

  -- coroutines

  set_up : (r : Option Routine) (todo : List Todo) → SpawnStep s (quiet.set_up_step r todo s)
  set_up None todo = tt
  set_up (Some r) todo = tt

  live : (r : Option Routine) (todo : List Todo) → SpawnStep s (quiet.live_step r todo s)
  live None todo = tt
  live (Some r) todo = either (SpawnStep s) (sw.is_live (piece.exec_at (top (drop r.params s.run.operands)) s.env) s.env) _ _ tt tt

  land : (w : Option UnwindReason) (todo : List Todo) → SpawnStep s (quiet.land_step w todo s)
  land None todo = tt
  land (Some why) todo = tt

  -- mutex objects

  unless : (q : ℕ) (step : Step) (todo : List Todo) → SpawnStep s step → SpawnStep s (monitors.unless_held_up q step todo s)
  unless q step todo k = either (SpawnStep s) (inside.is_held_up q s.env) _ step tt k

  enter_at : (d : Option ℕ) (q m : ℕ) (todo : List Todo) → SpawnStep s (monitors.enter_at d q m todo s)
  enter_at (Some d) q m todo = tt
  enter_at None q m todo = tt

  enter : (m : ℕ) (r : Option Routine) (todo : List Todo) → SpawnStep s (monitors.enter_step m r todo s)
  enter m None todo = tt
  enter m (Some r) todo =
      let q = piece.object_in (top (drop r.params s.run.operands)) in
      either (SpawnStep s) (monitors.may_call r.written s) _ _ (enter_at (find q s.env.depths) q m todo) tt

  leave : (b : Bool) (q : ℕ) (todo : List Todo) → SpawnStep s (monitors.leave_at b q todo s)
  leave false q todo = tt
  leave true q todo = unless q _ todo tt

  make : (c n : ℕ) (r : Option Routine) (todo : List Todo) → SpawnStep s (monitors.make_step c n r todo s)
  make c n None todo = tt
  make c n (Some r) todo = either (SpawnStep s) (monitors.may_call r.written s) _ _ tt tt

  bind : (r : Option Routine) (todo : List Todo) → SpawnStep s (monitors.bind_step r todo s)
  bind None todo = tt
  bind (Some r) todo = tt

  condition : (n : ℕ) (i : Option ℕ) (todo : List Todo) → SpawnStep s (monitors.condition_step n i todo s)
  condition n None todo = tt
  condition n (Some i) todo = tt

  accept_by : (mask q site : ℕ) (todo : List Todo) (vs : List Value) → SpawnStep s (monitors.accept_by mask q site todo vs s)
  accept_by zero q site todo vs = tt
  accept_by (suc mask) q site todo vs = unless q _ todo tt

  failed : (b : Bool) (todo : List Todo) (vs : List Value) → SpawnStep s (monitors.failed_step b todo vs s)
  failed true todo vs = tt
  failed false todo vs = tt

  -- events

  pend : (n : Exec) (e : Event) (todo : List Todo) (vs : List Value) → SpawnStep s (polls.pend_step n e todo vs s)
  pend n e todo vs =
      either (SpawnStep s) (nat_lt (length (inside.pending_at n s.env)) PENDING_EVENTS) _ _ tt tt

  pend_at : (x : Option Exec) (e : Event) (todo : List Todo) (vs : List Value) → SpawnStep s (polls.pend_at x e todo vs s)
  pend_at None e todo vs = tt
  pend_at (Some n) e todo vs = either (SpawnStep s) (sw.is_live (Some n) s.env) _ _ (pend n e todo vs) tt

  raise_at : (v : Value) (e : Event) (todo : List Todo) (vs : List Value) → SpawnStep s (polls.raise_at_step v e todo vs s)
  raise_at (Object q) e todo vs = tt
  raise_at v e todo vs = pend_at (piece.exec_at v s.env) e todo vs

  quiet_poll : (x : Option Pending) (todo : List Todo) → SpawnStep s (polls.quiet_poll x todo s)
  quiet_poll None todo = tt
  quiet_poll (Some p) todo = tt

  poll_by : (b : Bool) (todo : List Todo) → SpawnStep s (polls.poll_by b todo s)
  poll_by true todo = tt
  poll_by false todo = quiet_poll (inside.oldest_enabled s.env.links) todo

  poll : (todo : List Todo) → SpawnStep s (polls.poll_step todo s)
  poll todo = either (SpawnStep s) (nat_eq s.env.links.enabled 0) _ _ tt (poll_by (inside.is_own s.env) todo)

  deliver : (v : Value) (todo : List Todo) → SpawnStep s (polls.deliver_step v todo s)
  deliver Nothing todo = tt
  deliver v todo = tt

  handles : (o : Option Found) (e : Event) (todo : List Todo) → SpawnStep s (raising.handle_step o e todo s)
  handles None e todo = tt
  handles (Some x) e todo = tt

  raises : (e : Event) (todo : List Todo) → SpawnStep s (raising.raise_step e todo s)
  raises e todo = handles (raising.seek None e (record s.run { control = todo } ∷ s.callers)) e todo

  -- unwinding

  catches : (x : Option Handler) (e : Event) (todo : List Todo) → SpawnStep s (raising.catch_step x e todo s)
  catches None e todo = tt
  catches (Some x) e todo = tt

  guarded : (hs : Handlers) (w : Option UnwindReason) (todo : List Todo) → SpawnStep s (raising.guard_left hs w todo s)
  guarded hs (Some (reason.Event n y z)) todo = catches (raising.handler_for false (record { number = n; x = y; y = z }) hs) (record { number = n; x = y; y = z }) todo
  guarded hs w todo = tt

  whole : (b : Bool) (todo : List Todo) → SpawnStep s (raising.whole_left b todo s)
  whole true todo = tt
  whole false todo = tt

  scope : (c : CleanUp) (b : Bool) (todo : List Todo) → SpawnStep s (raising.scope_left c b todo s)
  scope src.Leaves true todo = tt
  scope c b todo = tt

  main_left : (w : Option UnwindReason) (todo : List Todo) → SpawnStep s (raising.main_left w todo s)
  main_left (Some (reason.ReturnTo n)) todo = tt
  main_left w todo = tt

  coroutine_left : (w : Option UnwindReason) (todo : List Todo) → SpawnStep s (raising.coroutine_left w todo s)
  coroutine_left (Some (reason.ReturnTo n)) todo = tt
  coroutine_left (Some reason.Destroyed) todo = moved _ todo _
  coroutine_left w todo = moved _ todo _

  unwind_past : (k : Sort) (todo : List Todo) → SpawnStep s (raising.unwind_past k todo s)
  unwind_past piece.Simple todo = tt
  unwind_past (piece.IsLoop order c e b) todo = tt
  unwind_past piece.IsWhole todo = whole _ todo
  unwind_past (piece.IsClean x) todo = scope x _ todo
  unwind_past (piece.IsFill m b d) todo = tt
  unwind_past (piece.IsSweep e) todo = tt
  unwind_past (piece.IsPart x) todo = tt
  unwind_past (piece.IsGuard hs) todo = guarded hs s.run.raised todo
  unwind_past piece.IsFinish todo = main_left s.run.raised todo
  unwind_past piece.IsFinishCoroutine todo = coroutine_left s.run.raised todo

  unwinds : (todo : List Todo) → SpawnStep s (raising.unwind_step todo s)
  unwinds [] = leaves s.callers
  unwinds (p ∷ ps) = unwind_past (piece.sort p) ps

  exits : (w : Way) (todo : List Todo) → SpawnStep s (quiet.exit_step w todo s)
  exits w [] = end_step w tt
  exits w (p ∷ ps) = tt

  -- printing

  prints : (x : Option (List Piece)) (p : Piece) (todo : List Todo) (vs : List Value) → SpawnStep s (piece.print_step x p todo vs s)
  prints None p todo vs = tt
  prints (Some ps) p todo vs = tt

  flushes : (x : Option (List Piece)) (todo : List Todo) (vs : List Value) → SpawnStep s (piece.flush_step x todo vs s)
  flushes None todo vs = tt
  flushes (Some []) todo vs = tt
  flushes (Some (p ∷ ps)) todo vs = tt

  acts : (p : Todo) (todo : List Todo) → s.run.control ≡ p ∷ todo → SpawnStep s (quiet.act source p todo s)
  acts (piece.Eval a) todo z = eval a todo
  acts (piece.ElementNow m k) todo z = element k _ todo _ _
  acts piece.NegateNow todo z = outcome _ todo _
  acts (piece.OperateNow op) todo z = outcome _ todo _
  acts piece.StoreNow todo z = tt
  acts piece.KeepNow todo z = tt
  acts (piece.SetNow k) todo z = tt
  acts piece.BindNow todo z = tt
  acts (piece.Arguments src.NoExprs) todo z = tt
  acts (piece.Arguments (src.MoreExprs a es)) todo z = tt
  acts (piece.CallNow r) todo z = call (slice_get source.routines r) todo
  acts (piece.CallOnNow r) todo z = call_on (slice_get source.routines r) todo
  acts (piece.CallUnwrittenNow r) todo z = call_unwritten (slice_get source.routines r) todo
  acts (piece.PrintNow form) todo z = prints s.env.gathered _ todo _
  acts (piece.TextNow k) todo z = prints s.env.gathered _ todo _
  acts piece.GatherNow todo z = tt
  acts piece.FlushNow todo z = flushes s.env.gathered todo _
  acts (piece.ClearNow k m) todo z = tt
  acts (piece.Items []) todo z = tt
  acts (piece.Items (i ∷ is)) todo z = tt
  acts (piece.Values []) todo z = tt
  acts (piece.Values (i ∷ is)) todo z = tt
  acts (piece.Pieces []) todo z = tt
  acts (piece.Pieces (i ∷ is)) todo z = tt
  acts (piece.Targets []) todo z = tt
  acts (piece.Targets (x ∷ xs)) todo z = tt
  acts (piece.Variables []) todo z = tt
  acts (piece.Variables (d ∷ ds)) todo z = tt
  acts (piece.Do a) todo z = stmt a todo
  acts (piece.Rest ss) todo z = rests ss todo
  acts (piece.Exit w) todo z = exits w todo
  acts (piece.Sweep a) todo z = swept s.run.elements a todo
  acts piece.Unwind todo z = unwinds todo
  acts piece.ThrowNow todo z = tt
  acts piece.RaiseNow todo z = raises (raising.event_in s.run.operands) todo
  acts (piece.SetUpNow r) todo z = set_up (slice_get source.routines r) todo
  acts piece.EnlivenNow todo z = tt
  acts piece.TakeDownNow todo z = moved _ todo _
  acts piece.ForgetNow todo z = tt
  acts (piece.LiveNow r) todo z = live (slice_get source.routines r) todo
  acts piece.ResumeNow todo z = moved _ (piece.Land ∷ todo) _
  acts piece.SuspendNow todo z = moved _ (piece.Land ∷ todo) _
  acts piece.Land todo z = land s.run.raised todo
  acts (piece.EnterNow m r) todo z = enter m (slice_get source.routines r) todo
  acts piece.LeaveNow todo z = leave _ (monitors.this_object s) todo
  acts (piece.MakeNow k r) todo z = make k r (slice_get source.routines r) todo
  acts (piece.BindMadeNow k r) todo z = bind (slice_get source.routines r) todo
  acts piece.MadeNow todo z = unless (monitors.this_object s) _ todo (record { todo = todo; control = z; object = refl; run = refl; callers = refl; exec = refl })
  acts (piece.SpawnNow r) todo z = unless (monitors.this_object s) _ (piece.ChildNow r ∷ todo) (record { main = r; todo = todo; control = z; object = refl; run = refl; callers = refl; exec = refl })
  acts piece.GoneNow todo z = tt
  acts piece.GiveUpNow todo z = tt
  acts (piece.ConditionNow k m) todo z = condition k _ todo
  acts piece.WaitNow todo z = unless (monitors.this_object s) _ todo tt
  acts piece.SignalBlockNow todo z = unless (monitors.this_object s) _ todo tt
  acts (piece.Guards src.NoClauses) todo z = tt
  acts (piece.Guards (src.Otherwise b)) todo z = tt
  acts (piece.Guards (src.MoreClauses guard b cs)) todo z = tt
  acts (piece.AcceptNow site m) todo z = accept_by (monitors.mask_of (take_operands piece.Nothing m s.run.operands [])) (monitors.this_object s) site todo (drop m s.run.operands)
  acts piece.FailedNow todo z = failed _ todo _
  acts piece.RaiseAtNow todo z = raise_at _ _ todo _
  acts (piece.EnableNow events cell) todo z = tt
  acts (piece.DisableNow events cell) todo z = tt
  acts (piece.RestoreNow cell) todo z = tt
  acts piece.PollNow todo z = poll todo
  acts piece.DeliverNow todo z = deliver _ todo
  acts piece.Finish todo z = unless s.env.own _ todo (returned _ s.callers tt)
  acts piece.FinishCoroutine todo z = moved _ todo _
  acts p todo z = tt

  pub walk : SpawnStep s (quiet.quiet source s)
  walk = by s.run.control refl
    where
      by : (l : List Todo) → s.run.control ≡ l → SpawnStep s (quiet.act_todo source l s)
      by [] e = returned _ s.callers tt
      by (p ∷ todo) e = acts p todo e

-- A task in which nobody waits for a main asks its end where no marks are left.
use Rattle.std.proofs.Common.{◌≡◌, ℕ, zero, suc, Bool, true, false, List, [], ◌∷◌, length, drop, Option, Some, None, refl, sym, subst}
use Rattle.std.specs.Prelude.{nat_eq, nat_lt, slice_get}
use Rattle.uc_tree.specs.declared.limits.TheConstants.{CALLS, PENDING_EVENTS}
use Rattle.uc_tree.specs.Source as src
use Rattle.uc_tree.specs.Source.{Source, Shape, Expr, ObjectExpr, Stmt, Stmts, EventStmt, TaskStmt, Routine, Way, CleanUp, Handlers}
use Rattle.uc_entry.specs.declared.request.Piece.{Piece}
use Rattle.uc_entry.specs.declared.request.Request.{Request}
use Rattle.uc_entry.specs.declared.request.Request.TheVariants as ask
use Rattle.uc_entry.specs.Keyed.{find}
use Rattle.uc_machine.specs.declared.exec.Exec.{Exec}
use Rattle.uc_machine.specs.declared.exec.Pending.{Pending}
use Rattle.uc_machine.specs.declared.exec.UnwindReason.{UnwindReason}
use Rattle.uc_machine.specs.declared.exec.UnwindReason.TheVariants as reason
use Rattle.uc_machine.specs.declared.exec.Visited.{Visited}
use Rattle.uc_machine.specs.Executions.{take_operands}
use Rattle.uc_machine.specs.Switches as sw
use Rattle.uc_machine.specs.Switches.{Moved, To, Stops}
use Rattle.uc_machine.specs.Insides as inside
use Rattle.uc_machine.specs.Raising as raising
use Rattle.uc_machine.specs.Raising.{Event, Handler, Found}
use Rattle.uc_machine.specs.Monitors as monitors
use Rattle.uc_machine.specs.Polls as polls
use Rattle.uc_machine.specs.Quiet as quiet
use Rattle.uc_machine.specs.Pieces as piece
use Rattle.uc_machine.specs.Pieces.{Value, Number, Place, Running, Object, Nothing, Todo, Sort, Active, State, Env, Members, Step, Goes, Ticks, Asks, Outcome, Gives, Faults, at, top, below, number, nought, written}
use Rattle.uc_life_laws.proofs.Cells.{either}
use Rattle.uc_life_laws.specs.Placed.{placed}
use Rattle.uc_life_laws.specs.Held.{AreLines}
use Rattle.uc_rooted_runs.specs.Mains.{FindsBy, FindsAll}

-- lines alone have no marks
pub bare_none : (f : ℕ) (this : Value) (todo : List Todo) → AreLines todo → placed f this todo [] ≡ []
bare_none f this [] h = refl
bare_none f this (piece.Within line ∷ todo) h = bare_none f this todo h
bare_none f this (p ∷ todo) h = absurd h

-- what holds of the state where an end is asked
abbrev EndAsk : (State → Type 0) → Request → State → Type 0
EndAsk Q ask.End s = Q s
EndAsk Q r s = Unit {0}

abbrev pub EndStep : (State → Type 0) → Step → Type 0
EndStep Q (Goes s) = Unit {0}
EndStep Q (Ticks s) = Unit {0}
EndStep Q (Asks r s) = EndAsk Q r s

-- nothing is left to do in an activation, but for what leaves it, or for the end of a main
abbrev pub IsOver : List Todo → Type 0
IsOver [] = Unit {0}
IsOver (piece.Exit w ∷ []) = Unit {0}
IsOver (piece.Unwind ∷ []) = Unit {0}
IsOver (piece.Finish ∷ todo) = Unit {0}
IsOver todo = ⊥

module _ (Q : State → Type 0) (source : Source) (s : State) where
  abbrev EStep : Step → Type 0
  EStep step = EndStep Q step

  -- the end of an activation

  -- so it is where nobody waits
  abbrev pub IsLast : List Active → Type 0
  IsLast cs = cs ≡ [] → Q s

  returned : (given : Value) (cs : List Active) → IsLast cs → EStep (piece.return_step given cs s)
  returned given [] f = f refl
  returned given (a ∷ cs) f = tt

  past : (v : Visited) (given : Value) (cs : List Active) → IsLast cs → EStep (raising.return_past v given cs s)
  past v given [] f = f refl
  past v given (a ∷ cs) f = tt

  end_by : (v : Option Visited) (given : Value) → IsLast s.callers → EStep (raising.end_by v given s)
  end_by None given f = returned given s.callers f
  end_by (Some v) given f = past v given s.callers f

  end_step : (w : Way) → IsLast s.callers → EStep (quiet.end_step w s)
  end_step src.ToReturn f = end_by s.run.handles _ f
  end_step src.ToEnd f = end_by s.run.handles _ f
  end_step src.ToBreak f = returned _ s.callers f
  end_step src.ToContinue f = returned _ s.callers f

  pass_on : (w : Option UnwindReason) (c : Active) (cs : List Active) → (w ≡ None → ⊥) → EStep (raising.pass_on w c cs s)
  pass_on None c cs g = absurd (g refl)
  pass_on (Some why) c cs g = tt

  leave_for : (b : Bool) (c : Active) (cs : List Active) → (s.run.raised ≡ None → ⊥) → EStep (raising.leave_for b c cs s)
  leave_for true c cs g = tt
  leave_for false c cs g = pass_on s.run.raised c cs g

  leaves : (cs : List Active) → IsLast cs → (s.run.raised ≡ None → ⊥) → EStep (raising.leave_step cs s)
  leaves [] f g = f refl
  leaves (c ∷ cs) f g =
      either EStep (raising.arrives s.run.raised (length (c ∷ cs))) _ _ (returned s.run.result (c ∷ cs) f) (leave_for _ c cs g)

  moved : (m : Moved (List Todo) Value) (todo : List Todo) (vs : List Value) → EStep (piece.moves m (at todo vs s))
  moved (To u) todo vs = tt
  moved (Stops f) todo vs = tt

  outcome : (x : Outcome) (todo : List Todo) (vs : List Value) → EStep (piece.outcome_step x todo vs s)
  outcome (Gives n) todo vs = tt
  outcome (Faults f) todo vs = tt

  element : (n : Shape) (i : Option ℕ) (todo : List Todo) (v : Value) (vs : List Value) → EStep (piece.element_step n i todo v vs s)
  element n None todo v vs = tt
  element n (Some i) todo v vs = tt

  -- expressions

  object : (x : ObjectExpr) (todo : List Todo) → EStep (quiet.object_step x todo s)
  object (src.EndOn r false a) todo = tt
  object (src.EndOn r true a) todo = tt
  object (src.MakeOn c r false a args) todo = tt
  object (src.MakeOn c r true a args) todo = tt
  object x todo = tt

  eval : (a : Expr) (todo : List Todo) → EStep (quiet.eval_step a todo s)
  eval (src.OfObject x) todo = object x todo
  eval a todo = tt

  -- statements

  swept : (n : ℕ) (e : Expr) (todo : List Todo) → EStep (quiet.sweep_step n e todo s)
  swept zero e todo = tt
  swept (suc m) e todo = tt

  event_step : (a : EventStmt) (todo : List Todo) → EStep (quiet.event_step a todo s)
  event_step (src.Throw line r) todo = tt
  event_step (src.Raise line r) todo = tt
  event_step (src.RaiseAt line r a) todo = tt
  event_step (src.Try line body hs) todo = tt
  event_step (src.Enable line events cell a) todo = tt
  event_step (src.Disable line events cell a) todo = tt

  task_step : (a : TaskStmt) (todo : List Todo) → EStep (quiet.task_step a todo s)
  task_step (src.Resume line) todo = tt
  task_step a todo = tt

  stmt : (a : Stmt) (todo : List Todo) → EStep (quiet.stmt_step a todo s)
  stmt (src.Return line None) todo = tt
  stmt (src.Return line (Some e)) todo = tt
  stmt (src.OfEvents a) todo = event_step a todo
  stmt (src.OfTasks a) todo = task_step a todo
  stmt a todo = tt

  rests : (ss : Stmts) (todo : List Todo) → EStep (quiet.rest_step ss todo s)
  rests src.Nil todo = tt
  rests (src.Then a ss) todo = tt
  rests (src.Scoped c ss) todo = tt
  rests (src.Built c ss) todo = tt

  -- calls

  begun : (r : Routine) (this : Value) (counts : Bool) (todo : List Todo) (vs : List Value) → EStep (quiet.begun_step r this counts todo vs s)
  begun r this counts todo vs = tt

  call : (r : Option Routine) → (r ≡ None → ⊥) → (todo : List Todo) → EStep (quiet.call_step r todo s)
  call None g todo = absurd (g refl)
  call (Some r) g todo = either EStep (nat_lt s.env.links.calls CALLS) _ _ (begun r Nothing true todo (drop r.params s.run.operands)) tt

  call_on : (r : Option Routine) → (r ≡ None → ⊥) → (todo : List Todo) → EStep (quiet.call_on_step r todo s)
  call_on None g todo = absurd (g refl)
  call_on (Some r) g todo =
      either EStep (nat_lt s.env.links.calls CALLS) _ _ (begun r (top (drop r.params s.run.operands)) true todo (below (drop r.params s.run.operands))) tt

  call_unwritten : (r : Option Routine) → (r ≡ None → ⊥) → (todo : List Todo) → EStep (quiet.call_unwritten_step r todo s)
  call_unwritten None g todo = absurd (g refl)
  call_unwritten (Some r) g todo = begun r (top (drop r.params s.run.operands)) false todo (below (drop r.params s.run.operands))

  -- coroutines

  set_up : (r : Option Routine) (todo : List Todo) → EStep (quiet.set_up_step r todo s)
  set_up None todo = tt
  set_up (Some r) todo = tt

  live : (r : Option Routine) → (r ≡ None → ⊥) → (todo : List Todo) → EStep (quiet.live_step r todo s)
  live None g todo = absurd (g refl)
  live (Some r) g todo = either EStep (sw.is_live (piece.exec_at (top (drop r.params s.run.operands)) s.env) s.env) _ _ tt tt

  land : (w : Option UnwindReason) (todo : List Todo) → EStep (quiet.land_step w todo s)
  land None todo = tt
  land (Some why) todo = tt

  -- mutex objects

  unless : (q : ℕ) (step : Step) (todo : List Todo) → EStep step → EStep (monitors.unless_held_up q step todo s)
  unless q step todo k = either EStep (inside.is_held_up q s.env) _ step tt k

  enter_at : (d : Option ℕ) (q m : ℕ) (todo : List Todo) → EStep (monitors.enter_at d q m todo s)
  enter_at (Some d) q m todo = tt
  enter_at None q m todo = tt

  enter : (m : ℕ) (r : Option Routine) → (r ≡ None → ⊥) → (todo : List Todo) → EStep (monitors.enter_step m r todo s)
  enter m None g todo = absurd (g refl)
  enter m (Some r) g todo =
      let q = piece.object_in (top (drop r.params s.run.operands)) in
      either EStep (monitors.may_call r.written s) _ _ (enter_at (find q s.env.depths) q m todo) tt

  leave : (b : Bool) (q : ℕ) (todo : List Todo) → EStep (monitors.leave_at b q todo s)
  leave false q todo = tt
  leave true q todo = unless q _ todo tt

  make : (c n : ℕ) (r : Option Routine) → (r ≡ None → ⊥) → (todo : List Todo) → EStep (monitors.make_step c n r todo s)
  make c n None g todo = absurd (g refl)
  make c n (Some r) g todo = either EStep (monitors.may_call r.written s) _ _ tt tt

  bind : (r : Option Routine) → (r ≡ None → ⊥) → (todo : List Todo) → EStep (monitors.bind_step r todo s)
  bind None g todo = absurd (g refl)
  bind (Some r) g todo = tt

  condition : (n : ℕ) (i : Option ℕ) (todo : List Todo) → EStep (monitors.condition_step n i todo s)
  condition n None todo = tt
  condition n (Some i) todo = tt

  accept_by : (mask q site : ℕ) (todo : List Todo) (vs : List Value) → EStep (monitors.accept_by mask q site todo vs s)
  accept_by zero q site todo vs = tt
  accept_by (suc mask) q site todo vs = unless q _ todo tt

  failed : (b : Bool) (todo : List Todo) (vs : List Value) → EStep (monitors.failed_step b todo vs s)
  failed true todo vs = tt
  failed false todo vs = tt

  -- events

  pend : (n : Exec) (e : Event) (todo : List Todo) (vs : List Value) → EStep (polls.pend_step n e todo vs s)
  pend n e todo vs =
      either EStep (nat_lt (length (inside.pending_at n s.env)) PENDING_EVENTS) _ _ tt tt

  pend_at : (x : Option Exec) (e : Event) (todo : List Todo) (vs : List Value) → EStep (polls.pend_at x e todo vs s)
  pend_at None e todo vs = tt
  pend_at (Some n) e todo vs = either EStep (sw.is_live (Some n) s.env) _ _ (pend n e todo vs) tt

  raise_at : (v : Value) (e : Event) (todo : List Todo) (vs : List Value) → EStep (polls.raise_at_step v e todo vs s)
  raise_at (Object q) e todo vs = tt
  raise_at v e todo vs = pend_at (piece.exec_at v s.env) e todo vs

  quiet_poll : (x : Option Pending) (todo : List Todo) → EStep (polls.quiet_poll x todo s)
  quiet_poll None todo = tt
  quiet_poll (Some p) todo = tt

  poll_by : (b : Bool) (todo : List Todo) → EStep (polls.poll_by b todo s)
  poll_by true todo = tt
  poll_by false todo = quiet_poll (inside.oldest_enabled s.env.links) todo

  poll : (todo : List Todo) → EStep (polls.poll_step todo s)
  poll todo = either EStep (nat_eq s.env.links.enabled 0) _ _ tt (poll_by (inside.is_own s.env) todo)

  deliver : (v : Value) (todo : List Todo) → EStep (polls.deliver_step v todo s)
  deliver Nothing todo = tt
  deliver v todo = tt

  handles : (o : Option Found) (e : Event) (todo : List Todo) → EStep (raising.handle_step o e todo s)
  handles None e todo = tt
  handles (Some x) e todo = tt

  raises : (e : Event) (todo : List Todo) → EStep (raising.raise_step e todo s)
  raises e todo = handles (raising.seek None e (record s.run { control = todo } ∷ s.callers)) e todo

  -- unwinding

  catches : (x : Option Handler) (e : Event) (todo : List Todo) → EStep (raising.catch_step x e todo s)
  catches None e todo = tt
  catches (Some x) e todo = tt

  guarded : (hs : Handlers) (w : Option UnwindReason) (todo : List Todo) → EStep (raising.guard_left hs w todo s)
  guarded hs (Some (reason.Event n y z)) todo = catches (raising.handler_for false (record { number = n; x = y; y = z }) hs) (record { number = n; x = y; y = z }) todo
  guarded hs w todo = tt

  whole : (b : Bool) (todo : List Todo) → EStep (raising.whole_left b todo s)
  whole true todo = tt
  whole false todo = tt

  scope : (c : CleanUp) (b : Bool) (todo : List Todo) → EStep (raising.scope_left c b todo s)
  scope src.Leaves true todo = tt
  scope c b todo = tt

  main_left : (w : Option UnwindReason) (todo : List Todo) → EStep (raising.main_left w todo s)
  main_left (Some (reason.ReturnTo n)) todo = tt
  main_left w todo = tt

  coroutine_left : (w : Option UnwindReason) (todo : List Todo) → EStep (raising.coroutine_left w todo s)
  coroutine_left (Some (reason.ReturnTo n)) todo = tt
  coroutine_left (Some reason.Destroyed) todo = moved _ todo _
  coroutine_left w todo = moved _ todo _

  unwind_past : (k : Sort) (todo : List Todo) → EStep (raising.unwind_past k todo s)
  unwind_past piece.Simple todo = tt
  unwind_past (piece.IsLoop order c e b) todo = tt
  unwind_past piece.IsWhole todo = whole _ todo
  unwind_past (piece.IsClean x) todo = scope x _ todo
  unwind_past (piece.IsFill m b d) todo = tt
  unwind_past (piece.IsSweep e) todo = tt
  unwind_past (piece.IsPart x) todo = tt
  unwind_past (piece.IsGuard hs) todo = guarded hs s.run.raised todo
  unwind_past piece.IsFinish todo = main_left s.run.raised todo
  unwind_past piece.IsFinishCoroutine todo = coroutine_left s.run.raised todo

  unwinds : (todo : List Todo) → (todo ≡ [] → IsLast s.callers) → FindsBy source (piece.Unwind ∷ todo) s → EStep (raising.unwind_step todo s)
  unwinds [] f g = leaves s.callers (f refl) g
  unwinds (p ∷ ps) f g = unwind_past (piece.sort p) ps

  exits : (w : Way) (todo : List Todo) → (todo ≡ [] → IsLast s.callers) → EStep (quiet.exit_step w todo s)
  exits w [] f = end_step w (f refl)
  exits w (p ∷ ps) f = tt

  -- printing

  prints : (x : Option (List Piece)) (p : Piece) (todo : List Todo) (vs : List Value) → EStep (piece.print_step x p todo vs s)
  prints None p todo vs = tt
  prints (Some ps) p todo vs = tt

  flushes : (x : Option (List Piece)) (todo : List Todo) (vs : List Value) → EStep (piece.flush_step x todo vs s)
  flushes None todo vs = tt
  flushes (Some []) todo vs = tt
  flushes (Some (p ∷ ps)) todo vs = tt

  acts : (p : Todo) (todo : List Todo) → (IsOver (p ∷ todo) → IsLast s.callers) → FindsBy source (p ∷ todo) s → EStep (quiet.act source p todo s)
  acts (piece.Eval a) todo y o = eval a todo
  acts (piece.ElementNow m k) todo y o = element k _ todo _ _
  acts piece.NegateNow todo y o = outcome _ todo _
  acts (piece.OperateNow op) todo y o = outcome _ todo _
  acts piece.StoreNow todo y o = tt
  acts piece.KeepNow todo y o = tt
  acts (piece.SetNow k) todo y o = tt
  acts piece.BindNow todo y o = tt
  acts (piece.Arguments src.NoExprs) todo y o = tt
  acts (piece.Arguments (src.MoreExprs a es)) todo y o = tt
  acts (piece.CallNow r) todo y o = call (slice_get source.routines r) o todo
  acts (piece.CallOnNow r) todo y o = call_on (slice_get source.routines r) o todo
  acts (piece.CallUnwrittenNow r) todo y o = call_unwritten (slice_get source.routines r) o todo
  acts (piece.PrintNow form) todo y o = prints s.env.gathered _ todo _
  acts (piece.TextNow k) todo y o = prints s.env.gathered _ todo _
  acts piece.GatherNow todo y o = tt
  acts piece.FlushNow todo y o = flushes s.env.gathered todo _
  acts (piece.ClearNow k m) todo y o = tt
  acts (piece.Items []) todo y o = tt
  acts (piece.Items (i ∷ is)) todo y o = tt
  acts (piece.Values []) todo y o = tt
  acts (piece.Values (i ∷ is)) todo y o = tt
  acts (piece.Pieces []) todo y o = tt
  acts (piece.Pieces (i ∷ is)) todo y o = tt
  acts (piece.Targets []) todo y o = tt
  acts (piece.Targets (x ∷ xs)) todo y o = tt
  acts (piece.Variables []) todo y o = tt
  acts (piece.Variables (d ∷ ds)) todo y o = tt
  acts (piece.Do a) todo y o = stmt a todo
  acts (piece.Rest ss) todo y o = rests ss todo
  acts (piece.Exit w) todo y o = exits w todo (λ q. y (subst (λ l. IsOver (piece.Exit w ∷ l)) (sym q) tt))
  acts (piece.Sweep a) todo y o = swept s.run.elements a todo
  acts piece.Unwind todo y o = unwinds todo (λ q. y (subst (λ l. IsOver (piece.Unwind ∷ l)) (sym q) tt)) o
  acts piece.ThrowNow todo y o = tt
  acts piece.RaiseNow todo y o = raises (raising.event_in s.run.operands) todo
  acts (piece.SetUpNow r) todo y o = set_up (slice_get source.routines r) todo
  acts piece.EnlivenNow todo y o = tt
  acts piece.TakeDownNow todo y o = moved _ todo _
  acts piece.ForgetNow todo y o = tt
  acts (piece.LiveNow r) todo y o = live (slice_get source.routines r) o todo
  acts piece.ResumeNow todo y o = moved _ (piece.Land ∷ todo) _
  acts piece.SuspendNow todo y o = moved _ (piece.Land ∷ todo) _
  acts piece.Land todo y o = land s.run.raised todo
  acts (piece.EnterNow m r) todo y o = enter m (slice_get source.routines r) o todo
  acts piece.LeaveNow todo y o = leave _ (monitors.this_object s) todo
  acts (piece.MakeNow k r) todo y o = make k r (slice_get source.routines r) o todo
  acts (piece.BindMadeNow k r) todo y o = bind (slice_get source.routines r) o todo
  acts piece.MadeNow todo y o = unless (monitors.this_object s) _ todo tt
  acts (piece.SpawnNow r) todo y o = unless (monitors.this_object s) _ (piece.ChildNow r ∷ todo) tt
  acts piece.GoneNow todo y o = tt
  acts piece.GiveUpNow todo y o = tt
  acts (piece.ConditionNow k m) todo y o = condition k _ todo
  acts piece.WaitNow todo y o = unless (monitors.this_object s) _ todo tt
  acts piece.SignalBlockNow todo y o = unless (monitors.this_object s) _ todo tt
  acts (piece.Guards src.NoClauses) todo y o = tt
  acts (piece.Guards (src.Otherwise b)) todo y o = tt
  acts (piece.Guards (src.MoreClauses guard b cs)) todo y o = tt
  acts (piece.AcceptNow site m) todo y o = accept_by (monitors.mask_of (take_operands piece.Nothing m s.run.operands [])) (monitors.this_object s) site todo (drop m s.run.operands)
  acts piece.FailedNow todo y o = failed _ todo _
  acts piece.RaiseAtNow todo y o = raise_at _ _ todo _
  acts (piece.EnableNow events cell) todo y o = tt
  acts (piece.DisableNow events cell) todo y o = tt
  acts (piece.RestoreNow cell) todo y o = tt
  acts piece.PollNow todo y o = poll todo
  acts piece.DeliverNow todo y o = deliver _ todo
  acts piece.Finish todo y o = unless s.env.own _ todo (returned _ s.callers (y tt))
  acts piece.FinishCoroutine todo y o = moved _ todo _
  acts p todo y o = tt

  pub walk : (IsOver s.run.control → IsLast s.callers) → FindsAll source s → EStep (quiet.quiet source s)
  walk m o = by s.run.control m o
    where
      by : (l : List Todo) → (IsOver l → IsLast s.callers) → FindsBy source l s → EStep (quiet.act_todo source l s)
      by [] m o = returned _ s.callers (m tt)
      by (p ∷ todo) m o = acts p todo m o

-- A quiet step of a task whose activations have their objects leads to one.
use Rattle.std.proofs.Common.{inl, inr, ◌≡◌, ℕ, zero, suc, ◌++◌, Bool, true, false, List, [], ◌∷◌, length, drop, Option, Some, None, refl, subst, sym}
use Rattle.std.specs.Prelude.{nat_eq, nat_lt}
use Rattle.uc_tree.specs.declared.limits.TheConstants.{CALLS, PENDING_EVENTS}
use Rattle.uc_tree.specs.Source as src
use Rattle.uc_tree.specs.Source.{Shape, Expr, ObjectExpr, Stmt, Stmts, EventStmt, TaskStmt, Routine, Purpose, Order, Way, CleanUp, Handlers, Clauses, Raised, Item, Declared}
use Rattle.uc_entry.specs.declared.request.Piece.{Piece}
use Rattle.uc_entry.specs.Keyed.{find, signed_64}
use Rattle.uc_machine.specs.declared.exec.Exec.{Exec}
use Rattle.uc_machine.specs.declared.exec.Pending.{Pending}
use Rattle.uc_machine.specs.declared.exec.UnwindReason.{UnwindReason}
use Rattle.uc_machine.specs.declared.exec.UnwindReason.TheVariants as reason
use Rattle.uc_machine.specs.declared.exec.Visited.{Visited}
use Rattle.uc_machine.specs.Executions.{values_cleared, members_at}
use Rattle.uc_machine.specs.Switches as sw
use Rattle.uc_machine.specs.Switches.{Moved, To, Stops}
use Rattle.uc_machine.specs.Insides as inside
use Rattle.uc_machine.specs.Raising as raising
use Rattle.uc_machine.specs.Raising.{Event, Handler, Found, Hit}
use Rattle.uc_machine.specs.Monitors as monitors
use Rattle.uc_machine.specs.Polls as polls
use Rattle.uc_machine.specs.Quiet as quiet
use Rattle.uc_machine.specs.Pieces as piece
use Rattle.uc_machine.specs.Pieces.{Value, Number, Place, Running, Object, Nothing, Todo, Sort, Active, State, Env, Members, Step, Goes, Ticks, Asks, Outcome, Gives, Faults, at, in_env, top, below, number, nought, written}
use Rattle.uc_typing.specs.Typing.{Ty, Table}
use Rattle.uc_life_laws.specs.Things.{Few, Things}
use Rattle.uc_making_laws.specs.OwnThis.{HasHome, Has, ThisStack, ThisState, ThisStep}
use Rattle.uc_life_laws.proofs.Cells.{either}
use Rattle.uc_apart_laws.proofs.Clear.{home_more}
use Rattle.uc_making_laws.proofs.ThisKeeping as kept
use Rattle.uc_making_laws.proofs.ThisKeeping.{Keeps}

module _ (t : Table) (few : Few) (n : Exec) where
  -- what is had stays so where more is at hand
  more_object : (ds es : List Active) → ((w : Value) (a : Ty) → Things t few n ds w a → Things t few n es w a) → (o : ℕ) → HasHome t few n ds o → HasHome t few n es o
  more_object ds es f o (inl e) = inl e
  more_object ds es f o (inr (inl b)) = inr (inl b)
  more_object ds es f o (inr (inr h)) =
      inr (inr (h.0, home_more t few o (Things t few n ds) (Things t few n es) f h.0 h.1))

  pub more : (v : Value) (ds es : List Active) → ((w : Value) (a : Ty) → Things t few n ds w a → Things t few n es w a) → Has t few n ds v → Has t few n es v
  more (Number z) ds es f h = tt
  more (Place o p) ds es f h = tt
  more (Running x) ds es f h = tt
  more (Object o) ds es f h = more_object ds es f o h
  more Nothing ds es f h = tt

  -- with another newest activation that has the same things
  pub again : (v : Value) (a b : Active) (older : List Active) → ((w : Value) (d : Ty) → Things t few n (a ∷ older) w d → Things t few n (b ∷ older) w d) → Has t few n (a ∷ older) v → Has t few n (b ∷ older) v
  again v a b older f h = more v (a ∷ older) (b ∷ older) f h

  -- the object of an activation is had by all that there are
  here : (a : Active) (older : List Active) → Has t few n older a.this → Has t few n (a ∷ older) a.this
  here a older h = more a.this older (a ∷ older) (λ w d k. inr k) h

  -- so is that of one whose handler is found
  abbrev pub OfFound : List Active → Option Found → Type 0
  OfFound cs None = Unit {0}
  OfFound cs (Some x) = Has t few n cs x.this

  found_or : (x : Option Hit) (a : Active) (cs : List Active) (other : Option Found) → Has t few n cs a.this → OfFound cs other → OfFound (a ∷ cs) (raising.found_or x a cs other)
  found_or None a cs None h k = tt
  found_or None a cs (Some y) h k = more y.this cs (a ∷ cs) (λ w d k. inr k) k
  found_or (Some x) a cs other h k = here a cs h

  further : (a : Active) (cs : List Active) (o : Option Found) → OfFound cs o → OfFound (a ∷ cs) o
  further a cs None k = tt
  further a cs (Some y) k = more y.this cs (a ∷ cs) (λ w d k. inr k) k

  pub seek : (v : Option Visited) (e : Event) (cs : List Active) → ThisStack t few n cs → OfFound cs (raising.seek v e cs)
  seek None e [] h = tt
  seek (Some v) e [] h = tt
  seek None e (a ∷ cs) h = found_or (raising.hit_in e a.control) a cs (raising.seek a.handles e cs) h.0 (seek a.handles e cs h.1)
  seek (Some v) e (a ∷ cs) h =
      either (OfFound (a ∷ cs)) (nat_eq (length cs) v.level) (raising.found_or (raising.hit_in e (raising.within v.rest a.control)) a cs (raising.seek a.handles e cs)) (raising.seek (Some v) e cs) (found_or (raising.hit_in e (raising.within v.rest a.control)) a cs (raising.seek a.handles e cs) h.0 (seek a.handles e cs h.1)) (further a cs (raising.seek (Some v) e cs) (seek (Some v) e cs h.1))

module _ (t : Table) (few : Few) where
  module _ (s : State) (st : ThisState t few s) where
    abbrev pub Holding : List Todo → Type 0
    Holding todo = Has t few s.env.exec s.callers s.run.this

    -- with something else to do, and other operands
    pub go : (todo : List Todo) (vs : List Value) → Holding todo → ThisState t few (at todo vs s)
    go todo vs h = record { stack = (h, st.stack.1); env = st.env }

    -- and with another rest of the task
    pub go_in : (todo : List Todo) (vs : List Value) (e : Env) → Keeps t few s.env e → Holding todo → ThisState t few (at todo vs (in_env e s))
    go_in todo vs e k h = kept.with_env t few (at todo vs s) (go todo vs h) k

    -- nothing that is told of changes
    pub same : {e : Env} → e.exec ≡ s.env.exec → e.hand ≡ s.env.hand → e.house ≡ s.env.house → e.own ≡ s.env.own → Keeps t few s.env e
    same x h g o = kept.keeps_like t few st.env x h g o

    -- the end of an activation

    pub returned : (given : Value) (cs : List Active) → ThisStack t few s.env.exec cs → ThisStep t few (piece.return_step given cs s)
    returned given [] h = (st, tt)
    returned given (a ∷ cs) h = record { stack = (h.0, h.1); env = kept.like t few st.env refl refl refl }

    past : (v : Visited) (given : Value) (cs : List Active) → ThisStack t few s.env.exec cs → ThisStep t few (raising.return_past v given cs s)
    past v given [] h = (st, tt)
    past v given (a ∷ cs) h = record { stack = (h.0, h.1); env = kept.like t few st.env refl refl refl }

    end_by : (v : Option Visited) (given : Value) → ThisStep t few (raising.end_by v given s)
    end_by None given = returned given s.callers st.stack.1
    end_by (Some v) given = past v given s.callers st.stack.1

    end_step : (w : Way) → ThisStep t few (quiet.end_step w s)
    end_step src.ToReturn = end_by s.run.handles _
    end_step src.ToEnd = end_by s.run.handles _
    end_step src.ToBreak = returned _ s.callers st.stack.1
    end_step src.ToContinue = returned _ s.callers st.stack.1

    pass_on : (w : Option UnwindReason) (c : Active) (cs : List Active) → ThisStack t few s.env.exec (c ∷ cs) → ThisStep t few (raising.pass_on w c cs s)
    pass_on None c cs h = (st, tt)
    pass_on (Some why) c cs h = record { stack = (h.0, h.1); env = kept.like t few st.env refl refl refl }

    leave_for : (b : Bool) (c : Active) (cs : List Active) → ThisStack t few s.env.exec (c ∷ cs) → ThisStep t few (raising.leave_for b c cs s)
    leave_for true c cs h = (st, tt)
    leave_for false c cs h = pass_on s.run.raised c cs h

    leaves : (cs : List Active) → ThisStack t few s.env.exec cs → ThisStep t few (raising.leave_step cs s)
    leaves [] h = (st, tt)
    leaves (c ∷ cs) h =
        either (ThisStep t few) (raising.arrives s.run.raised (length (c ∷ cs))) _ _ (returned s.run.result (c ∷ cs) h) (leave_for _ c cs h)

    pub moved : (m : Moved (List Todo) Value) (todo : List Todo) (vs : List Value) → Holding todo → kept.ThisMoved t few m → ThisStep t few (piece.moves m (at todo vs s))
    moved (To u) todo vs h m = m
    moved (Stops f) todo vs h m = (go todo vs h, tt)

    pub outcome : (x : Outcome) (todo : List Todo) (vs : List Value) → Holding todo → ThisStep t few (piece.outcome_step x todo vs s)
    outcome (Gives n) todo vs h = go todo _ h
    outcome (Faults f) todo vs h = (go todo _ h, tt)

    pub element : (n : Shape) (i : Option ℕ) (todo : List Todo) (v : Value) (vs : List Value) → Holding todo → ThisStep t few (piece.element_step n i todo v vs s)
    element n None todo v vs h = (go todo _ h, tt)
    element n (Some i) todo v vs h = go todo _ h

    -- expressions

    object : (x : ObjectExpr) (todo : List Todo) → Holding todo → ThisStep t few (quiet.object_step x todo s)
    object (src.EndOn r false a) todo h = go _ _ h
    object (src.EndOn r true a) todo h = go _ _ h
    object (src.MakeOn c r false a args) todo h = go _ _ h
    object (src.MakeOn c r true a args) todo h = go _ _ h
    object x todo h = go _ _ h

    pub eval : (a : Expr) (todo : List Todo) → Holding todo → ThisStep t few (quiet.eval_step a todo s)
    eval (src.Update op k p a) todo h = go _ _ h
    eval (src.StepBehind op k p) todo h = go _ _ h
    eval src.Fail todo h = (go _ _ h, tt)
    eval (src.OfObject x) todo h = object x todo h
    eval a todo h = go _ _ h

    -- statements

    pub swept : (n : ℕ) (e : Expr) (todo : List Todo) → Holding todo → ThisStep t few (quiet.sweep_step n e todo s)
    swept zero e todo h = go _ _ h
    swept (suc m) e todo h = record { stack = (h, st.stack.1); env = st.env }

    event_step : (a : EventStmt) (todo : List Todo) → Holding todo → ThisStep t few (quiet.event_step a todo s)
    event_step (src.Throw line r) todo h = go _ _ h
    event_step a todo h = go _ _ h

    task_step : (a : TaskStmt) (todo : List Todo) → Holding todo → ThisStep t few (quiet.task_step a todo s)
    task_step (src.Resume line) todo h = go _ _ h
    task_step a todo h = go _ _ h

    pub stmt : (a : Stmt) (todo : List Todo) → Holding todo → ThisStep t few (quiet.stmt_step a todo s)
    stmt (src.Return line None) todo h = go _ _ h
    stmt (src.Return line (Some e)) todo h = go _ _ h
    stmt (src.OfEvents a) todo h = event_step a todo h
    stmt (src.OfTasks a) todo h = task_step a todo h
    stmt a todo h = go _ _ h

    -- cells start anew
    pub clears : (k m : ℕ) (todo : List Todo) → Holding todo → ThisStep t few (quiet.turns todo (in_env (piece.cleared k m s) s))
    clears k m todo h = go_in todo s.run.operands (piece.cleared k m s) (kept.owned_keeps t few (piece.this_frame s) (values_cleared k m nought) s.env st.env) h

    -- calls

    begun : (r : Routine) (this : Value) (counts : Bool) (todo : List Todo) (vs : List Value) → Has t few s.env.exec (record s.run { control = todo; operands = vs } ∷ s.callers) this → Holding todo → ThisStep t few (quiet.begun_step r this counts todo vs s)
    begun r this counts todo vs f h = record { stack = (f, (h, st.stack.1)); env = kept.like t few st.env refl refl refl }

    pub call : (r : Option Routine) (todo : List Todo) → Holding todo → ThisStep t few (quiet.call_step r todo s)
    call None todo h = (go _ _ h, tt)
    call (Some r) todo h = either (ThisStep t few) (nat_lt s.env.links.calls CALLS) _ _ (begun r Nothing true todo _ tt h) (go todo _ h, tt)

    -- what is called has its object
    abbrev pub Called : Option Routine → List Todo → Type 0
    Called r todo = (x : Routine) → r ≡ Some x →
        Has t few s.env.exec (record s.run { control = todo; operands = below (drop x.params s.run.operands) } ∷ s.callers) (top (drop x.params s.run.operands))

    pub call_on : (r : Option Routine) (todo : List Todo) → Called r todo → Holding todo → ThisStep t few (quiet.call_on_step r todo s)
    call_on None todo f h = (go _ _ h, tt)
    call_on (Some r) todo f h = either (ThisStep t few) (nat_lt s.env.links.calls CALLS) _ _ (begun r _ true todo _ (f r refl) h) (go todo _ h, tt)

    pub call_unwritten : (r : Option Routine) (todo : List Todo) → Called r todo → Holding todo → ThisStep t few (quiet.call_unwritten_step r todo s)
    call_unwritten None todo f h = (go _ _ h, tt)
    call_unwritten (Some r) todo f h = begun r _ false todo _ (f r refl) h

    -- coroutines

    pub set_up : (r : Option Routine) (todo : List Todo) → ((m : Members) → members_at (quiet.home_at s.run.this s.env) s.env ≡ Some m → Has t few (sw.new_exec (quiet.home_at s.run.this s.env) s.env) [] s.run.this) → Holding todo → ThisStep t few (quiet.set_up_step r todo s)
    set_up None todo f h = go _ _ h
    set_up (Some r) todo f h =
        let q = quiet.home_at s.run.this s.env in
        let x = quiet.fresh r s.run.this in
        let k : Keeps t few s.env (sw.born q x s.env) = kept.born_keeps t few q x s.env (λ m e. (f m e, tt)) st.env in
        go_in _ _ _ (kept.keeps_both t few k (kept.written_keeps t few s.run.this _ (sw.born q x s.env) k.env)) h

    pub live : (r : Option Routine) (todo : List Todo) → Holding todo → ThisStep t few (quiet.live_step r todo s)
    live None todo h = (go _ _ h, tt)
    live (Some r) todo h = either (ThisStep t few) (sw.is_live (piece.exec_at (top (drop r.params s.run.operands)) s.env) s.env) _ _ (go todo _ h) (go todo _ h, tt)

    pub land : (w : Option UnwindReason) (todo : List Todo) → Holding todo → ThisStep t few (quiet.land_step w todo s)
    land None todo h = go _ _ h
    land (Some why) todo h = go _ _ h

    -- mutex objects

    pub unless : (q : ℕ) (step : Step) (todo : List Todo) → Holding todo → ThisStep t few step → ThisStep t few (monitors.unless_held_up q step todo s)
    unless q step todo h k = either (ThisStep t few) (inside.is_held_up q s.env) _ step (go todo _ h, tt) k

    enter_at : (d : Option ℕ) (q m : ℕ) (todo : List Todo) → Holding todo → ThisStep t few (monitors.enter_at d q m todo s)
    enter_at (Some d) q m todo h = go_in _ _ _ (same refl refl refl refl) h
    enter_at None q m todo h = (go_in _ _ _ (same refl refl refl refl) h, tt)

    pub enter : (m : ℕ) (r : Option Routine) (todo : List Todo) → Holding todo → ThisStep t few (monitors.enter_step m r todo s)
    enter m None todo h = (go _ _ h, tt)
    enter m (Some r) todo h =
        let q = piece.object_in (top (drop r.params s.run.operands)) in
        either (ThisStep t few) (monitors.may_call r.written s) _ _ (enter_at (find q s.env.depths) q m todo h) (go todo _ h, tt)

    pub leave : (b : Bool) (q : ℕ) (todo : List Todo) → Holding todo → ThisStep t few (monitors.leave_at b q todo s)
    leave false q todo h = go_in _ _ _ (same refl refl refl refl) h
    leave true q todo h =
        unless q _ todo h (record { stack = (h, st.stack.1); env = kept.like t few st.env refl refl refl }, tt)

    pub make : (c n : ℕ) (r : Option Routine) (todo : List Todo) → Holding todo → ThisStep t few (monitors.make_step c n r todo s)
    make c n None todo h = (go _ _ h, tt)
    make c n (Some r) todo h =
        either (ThisStep t few) (monitors.may_call r.written s) _ _ (go_in _ _ _ (same refl refl refl refl) h, tt) (go todo _ h, tt)

    pub bind : (r : Option Routine) (todo : List Todo) → Holding todo → ThisStep t few (monitors.bind_step r todo s)
    bind None todo h = (go _ _ h, tt)
    bind (Some r) todo h = go_in _ _ _ (kept.written_keeps t few _ _ s.env st.env) h

    pub condition : (n : ℕ) (i : Option ℕ) (todo : List Todo) → Holding todo → ThisStep t few (monitors.condition_step n i todo s)
    condition n None todo h = (go todo _ h, tt)
    condition n (Some i) todo h = go todo _ h

    pub accept_by : (mask q site : ℕ) (todo : List Todo) (vs : List Value) → Holding todo → ThisStep t few (monitors.accept_by mask q site todo vs s)
    accept_by zero q site todo vs h = go _ _ h
    accept_by (suc mask) q site todo vs h = unless q _ todo h (go _ _ h, tt)

    pub failed : (b : Bool) (todo : List Todo) (vs : List Value) → Holding todo → ThisStep t few (monitors.failed_step b todo vs s)
    failed true todo vs h = go _ _ h
    failed false todo vs h = go _ _ h

    -- events

    pend : (n : Exec) (e : Event) (todo : List Todo) (vs : List Value) → Holding todo → ThisStep t few (polls.pend_step n e todo vs s)
    pend n e todo vs h =
        either (ThisStep t few) (nat_lt (length (inside.pending_at n s.env)) PENDING_EVENTS) _ _ (go_in _ _ _ (kept.links_keeps t few (λ l. record l { pending = l.pending ++ (record { event = e.number; x = e.x; y = e.y }) ∷ [] }) n s.env st.env) h) (go todo vs h, tt)

    pend_at : (x : Option Exec) (e : Event) (todo : List Todo) (vs : List Value) → Holding todo → ThisStep t few (polls.pend_at x e todo vs s)
    pend_at None e todo vs h = (go todo vs h, tt)
    pend_at (Some n) e todo vs h = either (ThisStep t few) (sw.is_live (Some n) s.env) _ _ (pend n e todo vs h) (go todo vs h, tt)

    pub raise_at : (v : Value) (e : Event) (todo : List Todo) (vs : List Value) → Holding todo → ThisStep t few (polls.raise_at_step v e todo vs s)
    raise_at (Object q) e todo vs h = (go todo vs h, tt)
    raise_at v e todo vs h = pend_at (piece.exec_at v s.env) e todo vs h

    pub enables : (events cell : ℕ) (todo : List Todo) → Holding todo → ThisStep t few (polls.enable_step events cell todo s)
    enables events cell todo h =
        let k : Keeps t few s.env (written (piece.variable_at cell s) (Number (signed_64 s.env.links.enabled)) s.env) = kept.written_keeps t few (piece.variable_at cell s) (Number (signed_64 s.env.links.enabled)) s.env st.env in
        go_in _ _ _ (kept.keeps_both t few k (kept.keeps_like t few k.env refl refl refl refl)) h

    quiet_poll : (x : Option Pending) (todo : List Todo) → Holding todo → ThisStep t few (polls.quiet_poll x todo s)
    quiet_poll None todo h = go _ _ h
    quiet_poll (Some p) todo h = go_in _ _ _ (same refl refl refl refl) h

    poll_by : (b : Bool) (todo : List Todo) → Holding todo → ThisStep t few (polls.poll_by b todo s)
    poll_by true todo h = (go _ _ h, tt)
    poll_by false todo h = quiet_poll (inside.oldest_enabled s.env.links) todo h

    pub poll : (todo : List Todo) → Holding todo → ThisStep t few (polls.poll_step todo s)
    poll todo h = either (ThisStep t few) (nat_eq s.env.links.enabled 0) _ _ (go todo _ h) (poll_by (inside.is_own s.env) todo h)

    pub deliver : (v : Value) (todo : List Todo) → Holding todo → ThisStep t few (polls.deliver_step v todo s)
    deliver Nothing todo h = go _ _ h
    deliver v todo h = go _ _ h

    -- the running activation is told anew
    told : (b : Active) → b.this ≡ s.run.this → ThisState t few (record s { run = b })
    told b e = record { stack = (subst (Has t few s.env.exec s.callers) (sym e) st.stack.0, st.stack.1); env = st.env }

    pub throws : (e : Event) (todo : List Todo) → Holding todo → ThisStep t few (raising.throw_step e todo s)
    throws e todo h = told _ refl

    -- the handler of a resumption begins, for the object of an activation that is there
    handles : (o : Option Found) (e : Event) (todo : List Todo) → OfFound t few s.env.exec (record s.run { control = todo } ∷ s.callers) o → Holding todo → ThisStep t few (raising.handle_step o e todo s)
    handles None e todo f h = throws e todo h
    handles (Some x) e todo f h = record {
      stack = (again t few s.env.exec x.this (record s.run { control = todo }) (record s.run { control = piece.DropNow ∷ todo; operands = below (below (below s.run.operands)) }) s.callers (λ w a k. k) f, (h, st.stack.1));
      env = kept.like t few st.env refl refl refl;
    }

    pub raises : (e : Event) (todo : List Todo) → Holding todo → ThisStep t few (raising.raise_step e todo s)
    raises e todo h =
        handles (raising.seek None e (record s.run { control = todo } ∷ s.callers)) e todo (seek t few s.env.exec None e (record s.run { control = todo } ∷ s.callers) (h, st.stack.1)) h

    -- unwinding

    catches : (x : Option Handler) (e : Event) (todo : List Todo) → Holding todo → ThisStep t few (raising.catch_step x e todo s)
    catches None e todo h = go _ _ h
    catches (Some x) e todo h = told _ refl

    guarded : (hs : Handlers) (w : Option UnwindReason) (todo : List Todo) → Holding todo → ThisStep t few (raising.guard_left hs w todo s)
    guarded hs (Some (reason.Event n y z)) todo h = catches (raising.handler_for false (record { number = n; x = y; y = z }) hs) (record { number = n; x = y; y = z }) todo h
    guarded hs w todo h = go _ _ h

    whole : (b : Bool) (todo : List Todo) → Holding todo → ThisStep t few (raising.whole_left b todo s)
    whole true todo h = told _ refl
    whole false todo h = go _ _ h

    scope : (c : CleanUp) (b : Bool) (todo : List Todo) → Holding todo → ThisStep t few (raising.scope_left c b todo s)
    scope src.Leaves true todo h = told _ refl
    scope c b todo h = go (raising.left_todo c (piece.Unwind ∷ todo)) [] h

    main_left : (w : Option UnwindReason) (todo : List Todo) → Holding todo → ThisStep t few (raising.main_left w todo s)
    main_left (Some (reason.ReturnTo n)) todo h = told _ refl
    main_left w todo h = (go todo [] h, tt)

    coroutine_left : (w : Option UnwindReason) (todo : List Todo) → Holding todo → ThisStep t few (raising.coroutine_left w todo s)
    coroutine_left (Some (reason.ReturnTo n)) todo h = told _ refl
    coroutine_left (Some reason.Destroyed) todo h = moved _ todo _ h (kept.taken_down_rests t few (at todo [] s) (go todo [] h))
    coroutine_left w todo h = moved _ todo _ h (kept.escape_rests t few (at todo [] s) (go todo [] h))

    unwind_past : (k : Sort) (todo : List Todo) → Holding todo → ThisStep t few (raising.unwind_past k todo s)
    unwind_past piece.Simple todo h = go _ _ h
    unwind_past (piece.IsLoop order c e b) todo h = go _ _ h
    unwind_past piece.IsWhole todo h = whole _ todo h
    unwind_past (piece.IsClean x) todo h = scope x _ todo h
    unwind_past (piece.IsFill m b d) todo h = go _ _ h
    unwind_past (piece.IsSweep e) todo h = go _ _ h
    unwind_past (piece.IsPart x) todo h = go _ _ h
    unwind_past (piece.IsGuard hs) todo h = guarded hs s.run.raised todo h
    unwind_past piece.IsFinish todo h = main_left s.run.raised todo h
    unwind_past piece.IsFinishCoroutine todo h = coroutine_left s.run.raised todo h

    pub unwinds : (todo : List Todo) → Holding todo → ThisStep t few (raising.unwind_step todo s)
    unwinds [] h = leaves s.callers st.stack.1
    unwinds (p ∷ ps) h = unwind_past (piece.sort p) ps h

    pub exits : (w : Way) (todo : List Todo) → Holding todo → ThisStep t few (quiet.exit_step w todo s)
    exits w [] h = end_step w
    exits w (p ∷ ps) h = go _ _ h

    -- printing

    pub prints : (x : Option (List Piece)) (p : Piece) (todo : List Todo) (vs : List Value) → Holding todo → ThisStep t few (piece.print_step x p todo vs s)
    prints None p todo vs h = (go _ _ h, tt)
    prints (Some ps) p todo vs h = go_in _ _ _ (same refl refl refl refl) h

    pub flushes : (x : Option (List Piece)) (todo : List Todo) (vs : List Value) → Holding todo → ThisStep t few (piece.flush_step x todo vs s)
    flushes None todo vs h = go _ _ h
    flushes (Some []) todo vs h = go_in _ _ _ (same refl refl refl refl) h
    flushes (Some (p ∷ ps)) todo vs h = (go_in _ _ _ (same refl refl refl refl) h, tt)

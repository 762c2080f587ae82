-- A quiet step of a task in which the buildings that are awaited come last leads to one.
use Rattle.std.proofs.Common.{inl, inr, ◌≡◌, ◌⊎◌, ℕ, zero, suc, ◌++◌, Bool, true, false, List, [], ◌∷◌, length, drop, Option, Some, None, refl}
use Rattle.std.specs.Prelude.{nat_eq, nat_lt}
use Rattle.uc_tree.specs.declared.limits.TheConstants.{CALLS, PENDING_EVENTS}
use Rattle.uc_tree.specs.Source as src
use Rattle.uc_tree.specs.Source.{Source, Shape, Expr, ObjectExpr, Stmt, Stmts, EventStmt, TaskStmt, Routine, Way, CleanUp, Handlers}
use Rattle.uc_entry.specs.declared.request.Piece.{Piece}
use Rattle.uc_entry.specs.Keyed.{find, signed_64}
use Rattle.uc_machine.specs.declared.exec.Exec.{Exec}
use Rattle.uc_machine.specs.declared.exec.Pending.{Pending}
use Rattle.uc_machine.specs.declared.exec.UnwindReason.{UnwindReason}
use Rattle.uc_machine.specs.declared.exec.UnwindReason.TheVariants as reason
use Rattle.uc_machine.specs.declared.exec.Visited.{Visited}
use Rattle.uc_machine.specs.Executions.{values_cleared}
use Rattle.uc_machine.specs.Switches as sw
use Rattle.uc_machine.specs.Switches.{Moved, To, Stops}
use Rattle.uc_machine.specs.Insides as inside
use Rattle.uc_machine.specs.Raising as raising
use Rattle.uc_machine.specs.Raising.{Event, Handler, Found}
use Rattle.uc_machine.specs.Monitors as monitors
use Rattle.uc_machine.specs.Polls as polls
use Rattle.uc_machine.specs.Quiet as quiet
use Rattle.uc_machine.specs.Pieces as piece
use Rattle.uc_machine.specs.Pieces.{Value, Number, Object, Nothing, Todo, Active, State, Env, Step, Outcome, Gives, Faults, at, in_env, top, below, number, nought, written}
use Rattle.uc_homed_ends.specs.Freeing.{IsCalm, IsFreeing, FreesLast, BuildsBy, WaitsBy, RunsBy, IsUnawaited, PassesOn, FreesStack, FreesState, FreesStep, ExitsFrom, UnwindsFrom}
use Rattle.uc_homed_ends.proofs.FreeingLists as lists
use Rattle.uc_life_laws.proofs.Cells.{either}
use Rattle.uc_homed_ends.proofs.FreeingKeeping as kept
use Rattle.uc_homed_ends.proofs.FreeingKeeping.{Keeps}

module _ (source : Source) where
  module _ (s : State) (st : FreesState source s) where
    -- nobody awaits what the activation that runs may build
    abbrev pub C : Type 0
    C = IsUnawaited s.callers

    abbrev pub A : Type 0
    A = PassesOn s.run s.callers

    abbrev pub Ends : List Todo → Type 0
    Ends todo = RunsBy source C A todo

    abbrev pub Holding : List Todo → Type 0
    Holding todo = WaitsBy source C todo

    -- with something else to do, and other operands
    pub go_on : (todo : List Todo) (vs : List Value) → Ends todo → FreesState source (at todo vs s)
    go_on todo vs h = record { stack = (h, st.stack.1); env = st.env }

    pub go : (todo : List Todo) (vs : List Value) → Holding todo → FreesState source (at todo vs s)
    go todo vs h = go_on todo vs (lists.runs source C A todo h)

    -- and with another rest of the task
    pub go_on_in : (todo : List Todo) (vs : List Value) (e : Env) → Keeps source s.env e → Ends todo → FreesState source (at todo vs (in_env e s))
    go_on_in todo vs e k h = kept.with_env source (at todo vs s) (go_on todo vs h) k

    pub go_in : (todo : List Todo) (vs : List Value) (e : Env) → Keeps source s.env e → Holding todo → FreesState source (at todo vs (in_env e s))
    go_in todo vs e k h = kept.with_env source (at todo vs s) (go todo vs h) k

    -- nothing that is told of changes
    pub same : {e : Env} → e.exec ≡ s.env.exec → e.hand ≡ s.env.hand → e.house ≡ s.env.house → e.own ≡ s.env.own → Keeps source s.env e
    same x h g o = kept.keeps_like source st.env x h g o

    -- the end of an activation

    pub returned : (given : Value) (cs : List Active) → FreesStack source cs → FreesStep source (piece.return_step given cs s)
    returned given [] h = (st, tt)
    returned given (a ∷ cs) h = record { stack = (lists.runs source (IsUnawaited cs) _ a.control h.0, h.1); env = kept.like source st.env refl refl refl }

    past : (v : Visited) (given : Value) (cs : List Active) → FreesStack source cs → FreesStep source (raising.return_past v given cs s)
    past v given [] h = (st, tt)
    past v given (a ∷ cs) h = record { stack = (lists.runs source (IsUnawaited cs) (raising.arrives (Some (reason.ReturnTo v.home)) (length cs) ≡ false) (piece.Unwind ∷ a.control) h.0, h.1); env = kept.like source st.env refl refl refl }

    end_by : (v : Option Visited) (given : Value) → FreesStep source (raising.end_by v given s)
    end_by None given = returned given s.callers st.stack.1
    end_by (Some v) given = past v given s.callers st.stack.1

    end_step : (w : Way) → FreesStep source (quiet.end_step w s)
    end_step src.ToReturn = end_by s.run.handles _
    end_step src.ToEnd = end_by s.run.handles _
    end_step src.ToBreak = returned _ s.callers st.stack.1
    end_step src.ToContinue = returned _ s.callers st.stack.1

    pass_on : (w : Option UnwindReason) (c : Active) (cs : List Active) → FreesStack source (c ∷ cs) → FreesStep source (raising.pass_on w c cs s)
    pass_on None c cs h = (st, tt)
    pass_on (Some why) c cs h = record { stack = (lists.runs source (IsUnawaited cs) (raising.arrives (Some (raising.why_by why c.raised)) (length cs) ≡ false) (piece.Unwind ∷ c.control) h.0, h.1); env = kept.like source st.env refl refl refl }

    leave_for : (b : Bool) (c : Active) (cs : List Active) → FreesStack source (c ∷ cs) → FreesStep source (raising.leave_for b c cs s)
    leave_for true c cs h = (st, tt)
    leave_for false c cs h = pass_on s.run.raised c cs h

    leaves : (cs : List Active) → FreesStack source cs → FreesStep source (raising.leave_step cs s)
    leaves [] h = (st, tt)
    leaves (c ∷ cs) h =
        either (FreesStep source) (raising.arrives s.run.raised (length (c ∷ cs))) _ _ (returned s.run.result (c ∷ cs) h) (leave_for _ c cs h)

    pub moved : (m : Moved (List Todo) Value) (todo : List Todo) (vs : List Value) → Holding todo → kept.FreesMoved source m → FreesStep source (piece.moves m (at todo vs s))
    moved (To u) todo vs h m = m
    moved (Stops f) todo vs h m = (go todo vs h, tt)

    pub outcome : (x : Outcome) (todo : List Todo) (vs : List Value) → Holding todo → FreesStep source (piece.outcome_step x todo vs s)
    outcome (Gives n) todo vs h = go todo _ h
    outcome (Faults f) todo vs h = (go todo _ h, tt)

    pub element : (n : Shape) (i : Option ℕ) (todo : List Todo) (v : Value) (vs : List Value) → Holding todo → FreesStep source (piece.element_step n i todo v vs s)
    element n None todo v vs h = (go todo _ h, tt)
    element n (Some i) todo v vs h = go todo _ h

    -- expressions

    -- where a call is to do behind what it is of
    calls : (e : Expr) (r : ℕ) (todo : List Todo) → (BuildsBy source e → ⊥) → IsCalm todo ⊎ BuildsBy source e → Holding todo → Holding (piece.CallOnNow r ∷ todo)
    calls e r todo n f h = ((lists.called source C e r todo n f, h.0), h.1)

    object : (x : ObjectExpr) (todo : List Todo) → IsCalm todo ⊎ BuildsBy source (src.OfObject x) → Holding todo → FreesStep source (quiet.object_step x todo s)
    object (src.CallOn r a args) todo f h = go _ _ (calls (src.OfObject (src.CallOn r a args)) r todo (λ x. x) f h)
    object (src.CallLive r a args) todo f h = go _ _ (calls (src.OfObject (src.CallLive r a args)) r todo (λ x. x) f h)
    object (src.CallUnwritten r a) todo f h = go _ _ (calls (src.OfObject (src.CallUnwritten r a)) r todo (λ x. x) f h)
    object (src.EnterOn m r a args) todo f h = go _ _ (calls (src.OfObject (src.EnterOn m r a args)) r todo (λ x. x) f h)
    object (src.EndOn r false a) todo f h = go _ _ (calls (src.OfObject (src.EndOn r false a)) r todo (λ x. x) f h)
    object (src.EndOn r true a) todo f h = go _ _ (calls (src.OfObject (src.EndOn r true a)) r todo (λ x. x) f h)
    object (src.MakeOn c r false a args) todo f h = go _ _ ((f, h.0), h.1)
    object (src.MakeOn c r true a args) todo f h = go _ _ ((f, h.0), h.1)
    object x todo f h = go _ _ h

    pub eval : (a : Expr) (todo : List Todo) → IsCalm todo ⊎ BuildsBy source a → Holding todo → FreesStep source (quiet.eval_step a todo s)
    eval (src.Update op k p a) todo f h = go _ _ (lists.converts source C k (piece.KeepNow ∷ todo) h)
    eval (src.StepBehind op k p) todo f h = go _ _ (lists.converts source C k (piece.StoreNow ∷ (piece.DropBelowNow ∷ todo)) h)
    eval src.Fail todo f h = (go _ _ h, tt)
    eval (src.OfObject x) todo f h = object x todo f h
    eval a todo f h = go _ _ h

    -- statements

    pub swept : (n : ℕ) (e : Expr) (todo : List Todo) → Holding todo → FreesStep source (quiet.sweep_step n e todo s)
    swept zero e todo h = go _ _ h
    swept (suc m) e todo h = record { stack = (lists.runs source C A (piece.Eval e ∷ (piece.DropNow ∷ (piece.Sweep e ∷ todo))) h, st.stack.1); env = st.env }

    event_step : (a : EventStmt) (todo : List Todo) → Holding todo → FreesStep source (quiet.event_step a todo s)
    event_step (src.Throw line r) todo h = go _ _ (lists.raised source C r (piece.ThrowNow ∷ (piece.Within line ∷ todo)) h)
    event_step (src.Raise line r) todo h = go _ _ (lists.raised source C r (piece.RaiseNow ∷ (piece.Within line ∷ todo)) h)
    event_step (src.Try line body hs) todo h = go _ _ (lists.rested source C body (piece.Guard hs ∷ (piece.Within line ∷ todo)) h)
    event_step (src.RaiseAt line r a) todo h = go _ _ (lists.raised source C r (piece.Eval a ∷ (piece.RaiseAtNow ∷ (piece.Within line ∷ todo))) h)
    event_step (src.Enable line events cell a) todo h = go _ _ (lists.cleaned source C (src.Restores cell) (piece.Within line ∷ todo) h)
    event_step (src.Disable line events cell a) todo h = go _ _ (lists.cleaned source C (src.Restores cell) (piece.Within line ∷ todo) h)

    task_step : (a : TaskStmt) (todo : List Todo) → Holding todo → FreesStep source (quiet.task_step a todo s)
    task_step (src.Resume line) todo h = go _ _ h
    task_step a todo h = go _ _ h

    pub stmt : (a : Stmt) (todo : List Todo) → Holding todo → FreesStep source (quiet.stmt_step a todo s)
    stmt (src.Block line body) todo h = go _ _ (lists.rested source C body (piece.Within line ∷ todo) h)
    stmt (src.Whole line body) todo h = go _ _ (lists.rested source C body (piece.InWhole ∷ (piece.Within line ∷ todo)) h)
    stmt (src.Loop line k c e b) todo h = go _ _ (lists.looped source C k c e b (piece.Within line ∷ todo) h)
    stmt (src.Return line None) todo h = go _ _ h
    stmt (src.Return line (Some e)) todo h = go _ _ h
    stmt (src.OfEvents a) todo h = event_step a todo h
    stmt (src.OfTasks a) todo h = task_step a todo h
    stmt a todo h = go _ _ h

    -- the statements that are left of a block
    pub rests : (ss : Stmts) (todo : List Todo) → lists.Left source C ss todo → FreesStep source (quiet.rest_step ss todo s)
    rests src.Nil todo h = go _ _ (lists.plain source C src.Nil todo (λ x. x) h)
    rests (src.Then a ss) todo h = go _ _ (lists.rested source C ss todo (lists.plain source C (src.Then a ss) todo (λ x. x) h))
    rests (src.Scoped c ss) todo h = go _ _ (lists.scoped source C c ss todo h)
    rests (src.Built c ss) todo h = go _ _ (lists.rested source C ss (piece.Part c ∷ todo) (lists.plain source C (src.Built c ss) todo (λ x. x) h))

    -- cells start anew
    pub clears : (k m : ℕ) (todo : List Todo) → Holding todo → FreesStep source (quiet.turns todo (in_env (piece.cleared k m s) s))
    clears k m todo h = go_in todo s.run.operands (piece.cleared k m s) (kept.owned_keeps source (piece.this_frame s) (values_cleared k m nought) s.env st.env) h

    -- calls

    -- where such a scope opens behind the call, what is called builds the object
    abbrev Begins : Routine → List Todo → Type 0
    Begins r todo = IsCalm todo ⊎ FreesLast (quiet.routine_todo r)

    begins_so : (r : Routine) (todo : List Todo) (A : Type 0) → Begins r todo → RunsBy source (IsCalm todo) A (quiet.routine_todo r)
    begins_so r todo A (inl c) = (lists.routine_calls source r, inl c)
    begins_so r todo A (inr m) = (lists.routine_calls source r, inr (inl m))

    begun : (r : Routine) (this : Value) (counts : Bool) (todo : List Todo) (vs : List Value) → Begins r todo → Holding todo → FreesStep source (quiet.begun_step r this counts todo vs s)
    begun r this counts todo vs f h = record { stack = (begins_so r todo (raising.arrives None (length (record s.run { control = todo; operands = vs } ∷ s.callers)) ≡ false) f, (h, st.stack.1)); env = kept.like source st.env refl refl refl }

    pub call : (r : Option Routine) (todo : List Todo) → IsCalm todo → Holding todo → FreesStep source (quiet.call_step r todo s)
    call None todo f h = (go _ _ h, tt)
    call (Some r) todo f h = either (FreesStep source) (nat_lt s.env.links.calls CALLS) _ _ (begun r Nothing true todo _ (inl f) h) (go todo _ h, tt)

    abbrev pub Called : Option Routine → List Todo → Type 0
    Called r todo = IsCalm todo ⊎ ((x : Routine) → r ≡ Some x → FreesLast (quiet.routine_todo x))

    called : (r : Routine) (todo : List Todo) → Called (Some r) todo → Begins r todo
    called r todo (inl c) = inl c
    called r todo (inr f) = inr (f r refl)

    pub call_on : (r : Option Routine) (todo : List Todo) → Called r todo → Holding todo → FreesStep source (quiet.call_on_step r todo s)
    call_on None todo f h = (go _ _ h, tt)
    call_on (Some r) todo f h = either (FreesStep source) (nat_lt s.env.links.calls CALLS) _ _ (begun r _ true todo _ (called r todo f) h) (go todo _ h, tt)

    pub call_unwritten : (r : Option Routine) (todo : List Todo) → Called r todo → Holding todo → FreesStep source (quiet.call_unwritten_step r todo s)
    call_unwritten None todo f h = (go _ _ h, tt)
    call_unwritten (Some r) todo f h = begun r _ false todo _ (called r todo f) h

    -- coroutines

    pub set_up : (r : Option Routine) (todo : List Todo) → Holding todo → FreesStep source (quiet.set_up_step r todo s)
    set_up None todo h = go _ _ h
    set_up (Some r) todo h =
        let q = quiet.home_at s.run.this s.env in
        let x = quiet.fresh r s.run.this in
        let k : Keeps source s.env (sw.born q x s.env) = kept.born_keeps source q x s.env (λ m e. ((lists.routine_calls source r, inl tt), tt)) st.env in
        go_in _ _ _ (kept.keeps_both source k (kept.written_keeps source s.run.this _ (sw.born q x s.env) k.env)) h

    pub live : (r : Option Routine) (todo : List Todo) → Holding todo → FreesStep source (quiet.live_step r todo s)
    live None todo h = (go _ _ h, tt)
    live (Some r) todo h = either (FreesStep source) (sw.is_live (piece.exec_at (top (drop r.params s.run.operands)) s.env) s.env) _ _ (go todo _ h) (go todo _ h, tt)

    pub land : (w : Option UnwindReason) (todo : List Todo) → Holding todo → FreesStep source (quiet.land_step w todo s)
    land None todo h = go _ _ h
    land (Some why) todo h = go _ _ h

    -- mutex objects

    pub unless : (q : ℕ) (step : Step) (todo : List Todo) → Ends todo → FreesStep source step → FreesStep source (monitors.unless_held_up q step todo s)
    unless q step todo h k = either (FreesStep source) (inside.is_held_up q s.env) _ step (go_on todo _ h, tt) k

    enter_at : (d : Option ℕ) (q m : ℕ) (todo : List Todo) → Holding todo → FreesStep source (monitors.enter_at d q m todo s)
    enter_at (Some d) q m todo h = go_in _ _ _ (same refl refl refl refl) h
    enter_at None q m todo h = (go_in _ _ _ (same refl refl refl refl) h, tt)

    pub enter : (m : ℕ) (r : Option Routine) (todo : List Todo) → Holding todo → FreesStep source (monitors.enter_step m r todo s)
    enter m None todo h = (go _ _ h, tt)
    enter m (Some r) todo h =
        let q = piece.object_in (top (drop r.params s.run.operands)) in
        either (FreesStep source) (monitors.may_call r.written s) _ _ (enter_at (find q s.env.depths) q m todo h) (go todo _ h, tt)

    pub leave : (b : Bool) (q : ℕ) (todo : List Todo) → Holding todo → FreesStep source (monitors.leave_at b q todo s)
    leave false q todo h = go_in _ _ _ (same refl refl refl refl) h
    leave true q todo h =
        unless q _ todo (lists.runs source C A todo h) (record { stack = (lists.runs source C _ (monitors.leave_todo s.run.raised todo) (lists.polled source C s.run.raised todo h), st.stack.1); env = kept.like source st.env refl refl refl }, tt)

    pub make : (c n : ℕ) (r : Option Routine) (todo : List Todo) → Holding todo → FreesStep source (monitors.make_step c n r todo s)
    make c n None todo h = (go _ _ h, tt)
    make c n (Some r) todo h =
        either (FreesStep source) (monitors.may_call r.written s) _ _ (go_in _ _ _ (same refl refl refl refl) h, tt) (go todo _ h, tt)

    pub bind : (r : Option Routine) (todo : List Todo) → Holding todo → FreesStep source (monitors.bind_step r todo s)
    bind None todo h = (go _ _ h, tt)
    bind (Some r) todo h = go_in _ _ _ (kept.written_keeps source _ _ s.env st.env) h

    pub condition : (n : ℕ) (i : Option ℕ) (todo : List Todo) → Holding todo → FreesStep source (monitors.condition_step n i todo s)
    condition n None todo h = (go todo _ h, tt)
    condition n (Some i) todo h = go todo _ h

    pub accept_by : (mask q site : ℕ) (todo : List Todo) (vs : List Value) → Holding todo → FreesStep source (monitors.accept_by mask q site todo vs s)
    accept_by zero q site todo vs h = go _ _ h
    accept_by (suc mask) q site todo vs h = unless q _ todo (lists.runs source C A todo h) (go _ _ h, tt)

    pub failed : (b : Bool) (todo : List Todo) (vs : List Value) → Holding todo → FreesStep source (monitors.failed_step b todo vs s)
    failed true todo vs h = go _ _ h
    failed false todo vs h = go _ _ h

    -- events

    pend : (n : Exec) (e : Event) (todo : List Todo) (vs : List Value) → Holding todo → FreesStep source (polls.pend_step n e todo vs s)
    pend n e todo vs h =
        either (FreesStep source) (nat_lt (length (inside.pending_at n s.env)) PENDING_EVENTS) _ _ (go_in _ _ _ (kept.links_keeps source (λ l. record l { pending = l.pending ++ (record { event = e.number; x = e.x; y = e.y }) ∷ [] }) (λ l n a older h. h) n s.env st.env) h) (go todo vs h, tt)

    pend_at : (x : Option Exec) (e : Event) (todo : List Todo) (vs : List Value) → Holding todo → FreesStep source (polls.pend_at x e todo vs s)
    pend_at None e todo vs h = (go todo vs h, tt)
    pend_at (Some n) e todo vs h = either (FreesStep source) (sw.is_live (Some n) s.env) _ _ (pend n e todo vs h) (go todo vs h, tt)

    pub raise_at : (v : Value) (e : Event) (todo : List Todo) (vs : List Value) → Holding todo → FreesStep source (polls.raise_at_step v e todo vs s)
    raise_at (Object q) e todo vs h = (go todo vs h, tt)
    raise_at v e todo vs h = pend_at (piece.exec_at v s.env) e todo vs h

    pub enables : (events cell : ℕ) (todo : List Todo) → Holding todo → FreesStep source (polls.enable_step events cell todo s)
    enables events cell todo h =
        let k : Keeps source s.env (written (piece.variable_at cell s) (Number (signed_64 s.env.links.enabled)) s.env) = kept.written_keeps source (piece.variable_at cell s) (Number (signed_64 s.env.links.enabled)) s.env st.env in
        go_in _ _ _ (kept.keeps_both source k (kept.keeps_like source k.env refl refl refl refl)) h

    quiet_poll : (x : Option Pending) (todo : List Todo) → Holding todo → FreesStep source (polls.quiet_poll x todo s)
    quiet_poll None todo h = go _ _ h
    quiet_poll (Some p) todo h = go_in _ _ _ (same refl refl refl refl) h

    poll_by : (b : Bool) (todo : List Todo) → Holding todo → FreesStep source (polls.poll_by b todo s)
    poll_by true todo h = (go _ _ h, tt)
    poll_by false todo h = quiet_poll (inside.oldest_enabled s.env.links) todo h

    pub poll : (todo : List Todo) → Holding todo → FreesStep source (polls.poll_step todo s)
    poll todo h = either (FreesStep source) (nat_eq s.env.links.enabled 0) _ _ (go todo _ h) (poll_by (inside.is_own s.env) todo h)

    pub deliver : (v : Value) (todo : List Todo) → Holding todo → FreesStep source (polls.deliver_step v todo s)
    deliver Nothing todo h = go _ _ h
    deliver v todo h = go _ _ h

    -- the running activation goes on as another
    as_other : (b : Active) → Holding b.control → FreesState source (record s { run = b })
    as_other b h = record { stack = (lists.runs source C _ b.control h, st.stack.1); env = st.env }

    pub throws : (e : Event) (todo : List Todo) → Holding todo → FreesStep source (raising.throw_step e todo s)
    throws e todo h = as_other _ h

    -- the handler of a resumption begins
    handles : (o : Option Found) (e : Event) (todo : List Todo) → IsCalm (piece.DropNow ∷ todo) → Holding todo → FreesStep source (raising.handle_step o e todo s)
    handles None e todo f h = throws e todo h
    handles (Some x) e todo f h =
        let b : Active = record s.run { control = piece.DropNow ∷ todo; operands = below (below (below s.run.operands)) } in
        record {
          stack = (lists.runs source (IsUnawaited (b ∷ s.callers)) (raising.arrives None (length (b ∷ s.callers)) ≡ false) (raising.handler_todo x.handler []) (lists.handled source (IsUnawaited (b ∷ s.callers)) x.handler [] (tt, inl f)), (h, st.stack.1));
          env = kept.like source st.env refl refl refl;
        }

    pub raises : (e : Event) (todo : List Todo) → IsCalm (piece.DropNow ∷ todo) → Holding todo → FreesStep source (raising.raise_step e todo s)
    raises e todo f h = handles (raising.seek None e (record s.run { control = todo } ∷ s.callers)) e todo f h

    -- unwinding

    catches : (x : Option Handler) (e : Event) (todo : List Todo) → Holding todo → FreesStep source (raising.catch_step x e todo s)
    catches None e todo h = go _ _ h
    catches (Some x) e todo h = as_other _ (lists.handled source C x todo h)

    guarded : (hs : Handlers) (w : Option UnwindReason) (todo : List Todo) → Holding todo → FreesStep source (raising.guard_left hs w todo s)
    guarded hs (Some (reason.Event n y z)) todo h = catches (raising.handler_for false (record { number = n; x = y; y = z }) hs) (record { number = n; x = y; y = z }) todo h
    guarded hs w todo h = go _ _ h

    whole : (b : Bool) (todo : List Todo) → Holding todo → FreesStep source (raising.whole_left b todo s)
    whole true todo h = as_other _ h
    whole false todo h = go _ _ h

    scope : (c : CleanUp) (b : Bool) (todo : List Todo) → (IsFreeing c → A) → Holding (piece.Clean c ∷ todo) → FreesStep source (raising.scope_left c b todo s)
    scope src.Leaves true todo a h = as_other _ (lists.past source C (piece.Clean src.Leaves) todo (λ x. x) h)
    scope c b todo a h = go_on (raising.left_todo c (piece.Unwind ∷ todo)) [] (lists.scope_left source C A c todo a h)

    main_left : (w : Option UnwindReason) (todo : List Todo) → Holding todo → FreesStep source (raising.main_left w todo s)
    main_left (Some (reason.ReturnTo n)) todo h = as_other _ h
    main_left w todo h = (go todo [] h, tt)

    coroutine_left : (w : Option UnwindReason) (todo : List Todo) → Holding todo → FreesStep source (raising.coroutine_left w todo s)
    coroutine_left (Some (reason.ReturnTo n)) todo h = as_other _ h
    coroutine_left (Some reason.Destroyed) todo h = moved _ todo _ h (kept.taken_down_rests source (at todo [] s) (h, st.stack.1) (go todo [] h))
    coroutine_left w todo h = moved _ todo _ h (kept.escape_rests source (at todo [] s) (h, st.stack.1) (go todo [] h))

    unwind_past : (p : Todo) (todo : List Todo) → UnwindsFrom s (p ∷ todo) → Holding (p ∷ todo) → FreesStep source (raising.unwind_past (piece.sort p) todo s)
    unwind_past (piece.InLoop order c e b) todo u h = go _ _ h
    unwind_past piece.InWhole todo u h = whole _ todo h
    unwind_past (piece.Clean x) todo u h = scope x _ todo u h
    unwind_past (piece.FillNow m b d) todo u h = go _ _ h
    unwind_past (piece.Sweep e) todo u h = go _ _ h
    unwind_past (piece.Part x) todo u h = go _ _ (lists.part_cleans source C x (piece.Unwind ∷ todo) h)
    unwind_past (piece.Guard hs) todo u h = guarded hs s.run.raised todo h
    unwind_past piece.Finish todo u h = main_left s.run.raised todo h
    unwind_past piece.FinishCoroutine todo u h = coroutine_left s.run.raised todo h
    unwind_past (piece.Rest ss) todo u h = go _ _ (lists.past source C (piece.Rest ss) todo u h)
    unwind_past (piece.CallOnNow r) todo u h = go _ _ (lists.past source C (piece.CallOnNow r) todo tt h)
    unwind_past (piece.CallUnwrittenNow r) todo u h = go _ _ (lists.past source C (piece.CallUnwrittenNow r) todo tt h)
    unwind_past p todo u h = go _ _ h

    pub unwinds : (todo : List Todo) → UnwindsFrom s todo → Ends (piece.Unwind ∷ todo) → FreesStep source (raising.unwind_step todo s)
    unwinds [] u h = leaves s.callers st.stack.1
    unwinds (p ∷ ps) u h = unwind_past p ps u (lists.unwinding source C A p ps h)

    pub exits : (w : Way) (todo : List Todo) → ExitsFrom todo → Holding todo → FreesStep source (quiet.exit_step w todo s)
    exits w [] u h = end_step w
    exits w (p ∷ ps) u h = go _ _ (lists.left_behind source C w p ps (lists.past source C p ps u h))

    -- printing

    pub prints : (x : Option (List Piece)) (p : Piece) (todo : List Todo) (vs : List Value) → Holding todo → FreesStep source (piece.print_step x p todo vs s)
    prints None p todo vs h = (go _ _ h, tt)
    prints (Some ps) p todo vs h = go_in _ _ _ (same refl refl refl refl) h

    pub flushes : (x : Option (List Piece)) (todo : List Todo) (vs : List Value) → Holding todo → FreesStep source (piece.flush_step x todo vs s)
    flushes None todo vs h = go _ _ h
    flushes (Some []) todo vs h = go_in _ _ _ (same refl refl refl refl) h
    flushes (Some (p ∷ ps)) todo vs h = (go_in _ _ _ (same refl refl refl refl) h, tt)

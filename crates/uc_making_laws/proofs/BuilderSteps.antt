-- A quiet step of a task leads to one in which an execution that was to let go of an object is still to do so, until that is asked.
use Rattle.std.proofs.Common.{inl, inr, ◌≡◌, ◌⊎◌, ℕ, zero, suc, ◌++◌, ◌∙◌, Bool, true, false, List, [], ◌∷◌, length, drop, Option, Some, None, refl}
use Rattle.std.specs.Prelude.{nat_eq, nat_lt}
use Rattle.uc_tree.specs.declared.limits.TheConstants.{CALLS, PENDING_EVENTS}
use Rattle.uc_tree.specs.Source as src
use Rattle.uc_tree.specs.Source.{Shape, Expr, ObjectExpr, Stmt, Stmts, EventStmt, TaskStmt, Routine, Way, CleanUp, Handlers}
use Rattle.uc_entry.specs.declared.request.Piece.{Piece}
use Rattle.uc_entry.specs.Keyed.{find, signed_64}
use Rattle.uc_machine.specs.declared.exec.Exec.{Exec}
use Rattle.uc_machine.specs.declared.exec.Pending.{Pending}
use Rattle.uc_machine.specs.declared.exec.UnwindReason.{UnwindReason}
use Rattle.uc_machine.specs.declared.exec.UnwindReason.TheVariants as reason
use Rattle.uc_machine.specs.declared.exec.Visited.{Visited}
use Rattle.uc_machine.specs.Executions.{values_cleared, members_at}
use Rattle.uc_machine.specs.Switches as sw
use Rattle.uc_machine.specs.Switches.{Moved, To, Stops}
use Rattle.uc_machine.specs.Insides as inside
use Rattle.uc_machine.specs.Raising as raising
use Rattle.uc_machine.specs.Raising.{Event, Handler, Found}
use Rattle.uc_machine.specs.Monitors as monitors
use Rattle.uc_machine.specs.Polls as polls
use Rattle.uc_machine.specs.Quiet as quiet
use Rattle.uc_machine.specs.Pieces as piece
use Rattle.uc_machine.specs.Pieces.{Value, Number, Place, Running, Object, Nothing, Todo, Sort, Active, State, Env, Members, Step, Goes, Ticks, Asks, Outcome, Gives, Faults, at, in_env, top, below, nought, written}
use Rattle.uc_life_laws.proofs.Cells.{either}
use Rattle.uc_making_laws.specs.Builders.{Building, lets_built, Lets, BuildsState, BuildsStep}
use Rattle.uc_making_laws.proofs.BuilderLists as lists
use Rattle.uc_making_laws.proofs.BuilderKeeping as kept
use Rattle.uc_making_laws.proofs.BuilderKeeping.{Keeps}

module _ (every : Bool) (thing : ℕ) (name : Exec) where
  module _ (s : State) (st : BuildsState every thing name s) where
    abbrev pub N : Type 0
    N = s.env.exec ≡ name

    abbrev pub C : Type 0
    C = Building every s.callers thing

    abbrev pub O : Type 0
    O = s.run.this ≡ Object thing

    abbrev pub Ends : List Todo → Type 0
    Ends todo = lists.Running every N C O todo

    abbrev pub Holding : List Todo → Type 0
    Holding todo = lists.Waiting every N C O todo

    -- with something else to do, and other operands
    pub go_on : (todo : List Todo) (vs : List Value) → Ends todo → BuildsState every thing name (at todo vs s)
    go_on todo vs h = record { stack = h; env = st.env }

    pub go : (todo : List Todo) (vs : List Value) → Holding todo → BuildsState every thing name (at todo vs s)
    go todo vs h = go_on todo vs (lists.runs every N C O todo h)

    -- and with another rest of the task
    pub go_on_in : (todo : List Todo) (vs : List Value) (e : Env) → Keeps every thing name s.env e → Ends todo → BuildsState every thing name (at todo vs (in_env e s))
    go_on_in todo vs e k h = kept.with_env every thing name (at todo vs s) (go_on todo vs h) k

    pub go_in : (todo : List Todo) (vs : List Value) (e : Env) → Keeps every thing name s.env e → Holding todo → BuildsState every thing name (at todo vs (in_env e s))
    go_in todo vs e k h = kept.with_env every thing name (at todo vs s) (go todo vs h) k

    -- nothing that is told of changes
    pub same : {e : Env} → e.exec ≡ s.env.exec → e.hand ≡ s.env.hand → e.house ≡ s.env.house → e.own ≡ s.env.own → Keeps every thing name s.env e
    same x h g o = kept.keeps_like every thing name st.env x h g o

    -- the end of an activation

    -- of an older one that goes on
    goes_on : (a : Active) (cs : List Active) (todo : List Todo) → (N → Building every (a ∷ cs) thing) → ((lets_built every a.control ≡ true) → Lets every todo) → N → Building every cs thing ⊎ ((a.this ≡ Object thing) × Lets every todo)
    goes_on a cs todo h f = λ n. by (h n)
      where
        by : Building every (a ∷ cs) thing → Building every cs thing ⊎ ((a.this ≡ Object thing) × Lets every todo)
        by (inl m) = inr (m.0, f m.1)
        by (inr c) = inl c

    pub returned : (given : Value) (cs : List Active) → (N → Building every cs thing) → BuildsStep every thing name (piece.return_step given cs s)
    returned given [] h = λ x. st
    returned given (a ∷ cs) h = record { stack = goes_on a cs a.control h (λ m. inl m); env = kept.like every thing name st.env refl refl refl }

    past : (v : Visited) (given : Value) (cs : List Active) → (N → Building every cs thing) → BuildsStep every thing name (raising.return_past v given cs s)
    past v given [] h = λ x. st
    past v given (a ∷ cs) h = record { stack = goes_on a cs (piece.Unwind ∷ a.control) h (λ m. inl m); env = kept.like every thing name st.env refl refl refl }

    end_by : (v : Option Visited) (given : Value) → (N → C) → BuildsStep every thing name (raising.end_by v given s)
    end_by None given h = returned given s.callers h
    end_by (Some v) given h = past v given s.callers h

    end_step : (w : Way) → (N → C) → BuildsStep every thing name (quiet.end_step w s)
    end_step src.ToReturn h = end_by s.run.handles _ h
    end_step src.ToEnd h = end_by s.run.handles _ h
    end_step src.ToBreak h = returned _ s.callers h
    end_step src.ToContinue h = returned _ s.callers h

    pass_on : (w : Option UnwindReason) (c : Active) (cs : List Active) → (N → Building every (c ∷ cs) thing) → BuildsStep every thing name (raising.pass_on w c cs s)
    pass_on None c cs h = λ x. st
    pass_on (Some why) c cs h = record { stack = goes_on c cs (piece.Unwind ∷ c.control) h (λ m. inl m); env = kept.like every thing name st.env refl refl refl }

    leave_for : (b : Bool) (c : Active) (cs : List Active) → (N → Building every (c ∷ cs) thing) → BuildsStep every thing name (raising.leave_for b c cs s)
    leave_for true c cs h = λ x. st
    leave_for false c cs h = pass_on s.run.raised c cs h

    leaves : (cs : List Active) → (N → Building every cs thing) → BuildsStep every thing name (raising.leave_step cs s)
    leaves [] h = λ x. st
    leaves (c ∷ cs) h =
        either (BuildsStep every thing name) (raising.arrives s.run.raised (length (c ∷ cs))) _ _ (returned s.run.result (c ∷ cs) h) (leave_for _ c cs h)

    -- with nothing left to do it is one that waits
    pub none_left : (N → C ⊎ (O × ((false ≡ true) ⊎ (false ≡ true)))) → N → C
    none_left h = λ n. by (h n)
      where
        by : C ⊎ (O × ((false ≡ true) ⊎ (false ≡ true))) → C
        by (inl c) = c
        by (inr (o, inl e)) = absurd (cc)
        by (inr (o, inr e)) = absurd (cc)

    pub none_waits : (N → C ⊎ (O × (false ≡ true))) → N → C
    none_waits h = λ n. by (h n)
      where
        by : C ⊎ (O × (false ≡ true)) → C
        by (inl c) = c
        by (inr (o, e)) = absurd (cc)

    pub moved : (m : Moved (List Todo) Value) (todo : List Todo) (vs : List Value) → Ends todo → kept.BuildsMoved every thing name m → BuildsStep every thing name (piece.moves m (at todo vs s))
    moved (To u) todo vs h m = m
    moved (Stops f) todo vs h m = λ x. go_on todo vs h

    pub outcome : (x : Outcome) (todo : List Todo) (vs : List Value) → Holding todo → BuildsStep every thing name (piece.outcome_step x todo vs s)
    outcome (Gives n) todo vs h = go todo _ h
    outcome (Faults f) todo vs h = (λ x. go todo _ h)

    pub element : (n : Shape) (i : Option ℕ) (todo : List Todo) (v : Value) (vs : List Value) → Holding todo → BuildsStep every thing name (piece.element_step n i todo v vs s)
    element n None todo v vs h = (λ x. go todo _ h)
    element n (Some i) todo v vs h = go todo _ h

    -- expressions

    object : (x : ObjectExpr) (todo : List Todo) → Holding todo → BuildsStep every thing name (quiet.object_step x todo s)
    object (src.EndOn r false a) todo h = go _ _ h
    object (src.EndOn r true a) todo h = go _ _ h
    object (src.MakeOn c r false a args) todo h = go _ _ h
    object (src.MakeOn c r true a args) todo h = go _ _ h
    object x todo h = go _ _ h

    pub eval : (a : Expr) (todo : List Todo) → Holding todo → BuildsStep every thing name (quiet.eval_step a todo s)
    eval (src.Update op k p a) todo h = go _ _ (lists.converts every N C O k (piece.KeepNow ∷ todo) h)
    eval (src.StepBehind op k p) todo h = go _ _ (lists.converts every N C O k (piece.StoreNow ∷ (piece.DropBelowNow ∷ todo)) h)
    eval src.Fail todo h = (λ x. go _ _ h)
    eval (src.OfObject x) todo h = object x todo h
    eval a todo h = go _ _ h

    -- statements

    pub swept : (n : ℕ) (e : Expr) (todo : List Todo) → Holding todo → BuildsStep every thing name (quiet.sweep_step n e todo s)
    swept zero e todo h = go _ _ h
    swept (suc m) e todo h = record { stack = lists.runs every N C O (piece.Eval e ∷ (piece.DropNow ∷ (piece.Sweep e ∷ todo))) h; env = st.env }

    event_step : (a : EventStmt) (todo : List Todo) → Holding todo → BuildsStep every thing name (quiet.event_step a todo s)
    event_step (src.Throw line r) todo h = go _ _ (lists.raised every N C O r (piece.ThrowNow ∷ (piece.Within line ∷ todo)) h)
    event_step (src.Raise line r) todo h = go _ _ (lists.raised every N C O r (piece.RaiseNow ∷ (piece.Within line ∷ todo)) h)
    event_step (src.Try line body hs) todo h = go _ _ (h)
    event_step (src.RaiseAt line r a) todo h = go _ _ (lists.raised every N C O r (piece.Eval a ∷ (piece.RaiseAtNow ∷ (piece.Within line ∷ todo))) h)
    event_step (src.Enable line events cell a) todo h = go _ _ h
    event_step (src.Disable line events cell a) todo h = go _ _ h

    task_step : (a : TaskStmt) (todo : List Todo) → Holding todo → BuildsStep every thing name (quiet.task_step a todo s)
    task_step (src.Resume line) todo h = go _ _ h
    task_step a todo h = go _ _ h

    pub stmt : (a : Stmt) (todo : List Todo) → Holding todo → BuildsStep every thing name (quiet.stmt_step a todo s)
    stmt (src.Block line body) todo h = go _ _ (h)
    stmt (src.Whole line body) todo h = go _ _ (h)
    stmt (src.Loop line k c e b) todo h = go _ _ (lists.looped every N C O k c e b (piece.Within line ∷ todo) h)
    stmt (src.Return line None) todo h = go _ _ h
    stmt (src.Return line (Some e)) todo h = go _ _ h
    stmt (src.OfEvents a) todo h = event_step a todo h
    stmt (src.OfTasks a) todo h = task_step a todo h
    stmt a todo h = go _ _ h

    -- the statements that are left of a block
    pub rests : (ss : Stmts) (todo : List Todo) → Ends (piece.Rest ss ∷ todo) → BuildsStep every thing name (quiet.rest_step ss todo s)
    rests src.Nil todo h = go _ _ (lists.busy every N C O todo h)
    rests (src.Then a ss) todo h = go _ _ (lists.busy every N C O todo h)
    rests (src.Scoped c ss) todo h = go _ _ (lists.opens every N C O c ss todo h)
    rests (src.Built c ss) todo h = go _ _ (lists.busy every N C O todo h)

    -- cells start anew
    pub clears : (k m : ℕ) (todo : List Todo) → Holding todo → BuildsStep every thing name (quiet.turns todo (in_env (piece.cleared k m s) s))
    clears k m todo h = go_in todo s.run.operands (piece.cleared k m s) (kept.owned_keeps every thing name (piece.this_frame s) (values_cleared k m nought) s.env st.env) h

    -- calls

    -- what is called runs before the activation that calls
    waits : (todo : List Todo) (vs : List Value) → Holding todo → N → Building every (record s.run { control = todo; operands = vs } ∷ s.callers) thing
    waits todo vs h = λ n. by (h n)
      where
        by : C ⊎ (O × (lets_built every todo ≡ true)) → Building every (record s.run { control = todo; operands = vs } ∷ s.callers) thing
        by (inl c) = inr c
        by (inr m) = inl m

    begun : (r : Routine) (this : Value) (counts : Bool) (todo : List Todo) (vs : List Value) → Holding todo → BuildsStep every thing name (quiet.begun_step r this counts todo vs s)
    begun r this counts todo vs h = record { stack = λ n. inl (waits todo vs h n); env = kept.like every thing name st.env refl refl refl }

    pub call : (r : Option Routine) (todo : List Todo) → Holding todo → BuildsStep every thing name (quiet.call_step r todo s)
    call None todo h = λ x. go _ _ h
    call (Some r) todo h = either (BuildsStep every thing name) (nat_lt s.env.links.calls CALLS) _ _ (begun r Nothing true todo _ h) (λ x. go todo _ h)

    pub call_on : (r : Option Routine) (todo : List Todo) → Holding todo → BuildsStep every thing name (quiet.call_on_step r todo s)
    call_on None todo h = λ x. go _ _ h
    call_on (Some r) todo h = either (BuildsStep every thing name) (nat_lt s.env.links.calls CALLS) _ _ (begun r _ true todo _ h) (λ x. go todo _ h)

    pub call_unwritten : (r : Option Routine) (todo : List Todo) → Holding todo → BuildsStep every thing name (quiet.call_unwritten_step r todo s)
    call_unwritten None todo h = λ x. go _ _ h
    call_unwritten (Some r) todo h = begun r _ false todo _ h

    -- coroutines

    -- one that is made has another name
    pub set_up : (r : Option Routine) (todo : List Todo) → ((m : Members) → members_at (quiet.home_at s.run.this s.env) s.env ≡ Some m → sw.new_exec (quiet.home_at s.run.this s.env) s.env ≡ name → ⊥) → Holding todo → BuildsStep every thing name (quiet.set_up_step r todo s)
    set_up None todo f h = go _ _ h
    set_up (Some r) todo f h =
        let q = quiet.home_at s.run.this s.env in
        let x = quiet.fresh r s.run.this in
        let k : Keeps every thing name s.env (sw.born q x s.env) = kept.born_keeps every thing name q x s.env (λ m e n. absurd (f m e n)) st.env in
        go_in _ _ _ (kept.keeps_both every thing name k (kept.written_keeps every thing name s.run.this _ (sw.born q x s.env) k.env)) h

    pub live : (r : Option Routine) (todo : List Todo) → Holding todo → BuildsStep every thing name (quiet.live_step r todo s)
    live None todo h = (λ x. go _ _ h)
    live (Some r) todo h = either (BuildsStep every thing name) (sw.is_live (piece.exec_at (top (drop r.params s.run.operands)) s.env) s.env) _ _ (go todo _ h) (λ x. go todo _ h)

    pub land : (w : Option UnwindReason) (todo : List Todo) → Holding todo → BuildsStep every thing name (quiet.land_step w todo s)
    land None todo h = go _ _ h
    land (Some why) todo h = go _ _ h

    -- mutex objects

    pub unless : (q : ℕ) (step : Step) (todo : List Todo) → BuildsStep every thing name step → BuildsStep every thing name (monitors.unless_held_up q step todo s)
    unless q step todo k = either (BuildsStep every thing name) (inside.is_held_up q s.env) _ step (λ x. absurd (x tt)) k

    enter_at : (d : Option ℕ) (q m : ℕ) (todo : List Todo) → Holding todo → BuildsStep every thing name (monitors.enter_at d q m todo s)
    enter_at (Some d) q m todo h = go_in _ _ _ (same refl refl refl refl) h
    enter_at None q m todo h = λ x. go_in _ _ _ (same refl refl refl refl) h

    pub enter : (m : ℕ) (r : Option Routine) (todo : List Todo) → Holding todo → BuildsStep every thing name (monitors.enter_step m r todo s)
    enter m None todo h = (λ x. go _ _ h)
    enter m (Some r) todo h =
        let q = piece.object_in (top (drop r.params s.run.operands)) in
        either (BuildsStep every thing name) (monitors.may_call r.written s) _ _ (enter_at (find q s.env.depths) q m todo h) (λ x. go todo _ h)

    pub leave : (b : Bool) (q : ℕ) (todo : List Todo) → Holding todo → BuildsStep every thing name (monitors.leave_at b q todo s)
    leave false q todo h = go_in _ _ _ (same refl refl refl refl) h
    leave true q todo h =
        unless q _ todo (λ x. record { stack = lists.runs every N C O (monitors.leave_todo s.run.raised todo) (lists.polled every N C O s.run.raised todo h); env = kept.like every thing name st.env refl refl refl })

    pub make : (c n : ℕ) (r : Option Routine) (todo : List Todo) → Holding todo → BuildsStep every thing name (monitors.make_step c n r todo s)
    make c n None todo h = (λ x. go _ _ h)
    make c n (Some r) todo h =
        either (BuildsStep every thing name) (monitors.may_call r.written s) _ _ (λ x. go_in _ _ _ (same refl refl refl refl) h) (λ x. go todo _ h)

    pub bind : (r : Option Routine) (todo : List Todo) → Holding todo → BuildsStep every thing name (monitors.bind_step r todo s)
    bind None todo h = (λ x. go _ _ h)
    bind (Some r) todo h = go_in _ _ _ (kept.written_keeps every thing name _ _ s.env st.env) h

    pub condition : (n : ℕ) (i : Option ℕ) (todo : List Todo) → Holding todo → BuildsStep every thing name (monitors.condition_step n i todo s)
    condition n None todo h = (λ x. go todo _ h)
    condition n (Some i) todo h = go todo _ h

    pub accept_by : (mask q site : ℕ) (todo : List Todo) (vs : List Value) → Holding todo → BuildsStep every thing name (monitors.accept_by mask q site todo vs s)
    accept_by zero q site todo vs h = go _ _ h
    accept_by (suc mask) q site todo vs h = unless q _ todo (λ x. go _ _ h)

    pub failed : (b : Bool) (todo : List Todo) (vs : List Value) → Holding todo → BuildsStep every thing name (monitors.failed_step b todo vs s)
    failed true todo vs h = go _ _ h
    failed false todo vs h = go _ _ h

    -- events

    pend : (n : Exec) (e : Event) (todo : List Todo) (vs : List Value) → Holding todo → BuildsStep every thing name (polls.pend_step n e todo vs s)
    pend n e todo vs h =
        either (BuildsStep every thing name) (nat_lt (length (inside.pending_at n s.env)) PENDING_EVENTS) _ _ (go_in _ _ _ (kept.links_keeps every thing name (λ l. record l { pending = l.pending ++ (record { event = e.number; x = e.x; y = e.y }) ∷ [] }) (λ l n a older h. h) n s.env st.env) h) (λ x. go todo vs h)

    pend_at : (x : Option Exec) (e : Event) (todo : List Todo) (vs : List Value) → Holding todo → BuildsStep every thing name (polls.pend_at x e todo vs s)
    pend_at None e todo vs h = (λ x. go todo vs h)
    pend_at (Some n) e todo vs h = either (BuildsStep every thing name) (sw.is_live (Some n) s.env) _ _ (pend n e todo vs h) (λ x. go todo vs h)

    pub raise_at : (v : Value) (e : Event) (todo : List Todo) (vs : List Value) → Holding todo → BuildsStep every thing name (polls.raise_at_step v e todo vs s)
    raise_at (Object q) e todo vs h = (λ x. go todo vs h)
    raise_at v e todo vs h = pend_at (piece.exec_at v s.env) e todo vs h

    pub enables : (events cell : ℕ) (todo : List Todo) → Holding todo → BuildsStep every thing name (polls.enable_step events cell todo s)
    enables events cell todo h =
        let k : Keeps every thing name s.env (written (piece.variable_at cell s) (Number (signed_64 s.env.links.enabled)) s.env) = kept.written_keeps every thing name (piece.variable_at cell s) (Number (signed_64 s.env.links.enabled)) s.env st.env in
        go_in _ _ _ (kept.keeps_both every thing name k (kept.keeps_like every thing name k.env refl refl refl refl)) h

    quiet_poll : (x : Option Pending) (todo : List Todo) → Holding todo → BuildsStep every thing name (polls.quiet_poll x todo s)
    quiet_poll None todo h = go _ _ h
    quiet_poll (Some p) todo h = go_in _ _ _ (same refl refl refl refl) h

    poll_by : (b : Bool) (todo : List Todo) → Holding todo → BuildsStep every thing name (polls.poll_by b todo s)
    poll_by true todo h = (λ x. go _ _ h)
    poll_by false todo h = quiet_poll (inside.oldest_enabled s.env.links) todo h

    pub poll : (todo : List Todo) → Holding todo → BuildsStep every thing name (polls.poll_step todo s)
    poll todo h = either (BuildsStep every thing name) (nat_eq s.env.links.enabled 0) _ _ (go todo _ h) (poll_by (inside.is_own s.env) todo h)

    pub deliver : (v : Value) (todo : List Todo) → Holding todo → BuildsStep every thing name (polls.deliver_step v todo s)
    deliver Nothing todo h = go _ _ h
    deliver v todo h = go _ _ h

    -- the running activation is told anew
    told : (b : Active) → b.this ≡ s.run.this → Ends b.control → BuildsState every thing name (record s { run = b })
    told b e h = record { stack = λ n. by (h n); env = st.env }
      where
        by : C ⊎ (O × Lets every b.control) → C ⊎ ((b.this ≡ Object thing) × Lets every b.control)
        by (inl c) = inl c
        by (inr m) = inr (e ∙ m.0, m.1)

    pub throws : (e : Event) (todo : List Todo) → Holding todo → BuildsStep every thing name (raising.throw_step e todo s)
    throws e todo h = told _ refl (lists.runs every N C O (piece.Unwind ∷ todo) h)

    -- the handler of a resumption begins
    handles : (o : Option Found) (e : Event) (todo : List Todo) → Holding todo → BuildsStep every thing name (raising.handle_step o e todo s)
    handles None e todo h = throws e todo h
    handles (Some x) e todo h = record { stack = λ n. inl (waits (piece.DropNow ∷ todo) (below (below (below s.run.operands))) h n); env = kept.like every thing name st.env refl refl refl }

    pub raises : (e : Event) (todo : List Todo) → Holding todo → BuildsStep every thing name (raising.raise_step e todo s)
    raises e todo h = handles (raising.seek None e (record s.run { control = todo } ∷ s.callers)) e todo h

    -- unwinding

    catches : (x : Option Handler) (e : Event) (todo : List Todo) → Holding todo → BuildsStep every thing name (raising.catch_step x e todo s)
    catches None e todo h = go _ _ h
    catches (Some x) e todo h = told _ refl (lists.runs every N C O (raising.handler_todo x todo) h)

    guarded : (hs : Handlers) (w : Option UnwindReason) (todo : List Todo) → Holding todo → BuildsStep every thing name (raising.guard_left hs w todo s)
    guarded hs (Some (reason.Event n y z)) todo h = catches (raising.handler_for false (record { number = n; x = y; y = z }) hs) (record { number = n; x = y; y = z }) todo h
    guarded hs w todo h = go _ _ h

    whole : (b : Bool) (todo : List Todo) → Holding todo → BuildsStep every thing name (raising.whole_left b todo s)
    whole true todo h = told _ refl (lists.runs every N C O todo h)
    whole false todo h = go _ _ h

    scope : (c : CleanUp) (b : Bool) (todo : List Todo) → Holding (piece.Clean c ∷ todo) → BuildsStep every thing name (raising.scope_left c b todo s)
    scope src.Leaves true todo h = told _ refl (lists.runs every N C O (piece.LeaveNow ∷ (piece.Exit src.ToReturn ∷ todo)) h)
    scope c b todo h = go_on (raising.left_todo c (piece.Unwind ∷ todo)) [] (lists.left_cleans every N C O c todo h)

    main_left : (w : Option UnwindReason) (todo : List Todo) → Holding todo → BuildsStep every thing name (raising.main_left w todo s)
    main_left (Some (reason.ReturnTo n)) todo h = told _ refl (lists.runs every N C O (piece.Finish ∷ todo) h)
    main_left w todo h = λ x. go todo [] h

    coroutine_left : (w : Option UnwindReason) (todo : List Todo) → Holding todo → BuildsStep every thing name (raising.coroutine_left w todo s)
    coroutine_left (Some (reason.ReturnTo n)) todo h = told _ refl (lists.runs every N C O (piece.FinishCoroutine ∷ todo) h)
    coroutine_left (Some reason.Destroyed) todo h = moved _ todo _ (lists.runs every N C O todo h) (kept.taken_down_rests every thing name (at todo [] s) (go todo [] h))
    coroutine_left w todo h = moved _ todo _ (lists.runs every N C O todo h) (kept.escape_rests every thing name (at todo [] s) (go todo [] h))

    unwind_past : (k : Sort) (todo : List Todo) → lists.OfSort every N C O k todo → BuildsStep every thing name (raising.unwind_past k todo s)
    unwind_past piece.Simple todo h = go _ _ h
    unwind_past (piece.IsLoop order c e b) todo h = go _ _ h
    unwind_past piece.IsWhole todo h = whole _ todo h
    unwind_past (piece.IsClean x) todo h = scope x _ todo h
    unwind_past (piece.IsFill m b d) todo h = go _ _ h
    unwind_past (piece.IsSweep e) todo h = go _ _ h
    unwind_past (piece.IsPart x) todo h = go _ _ (lists.part_cleans every N C O x (piece.Unwind ∷ todo) h)
    unwind_past (piece.IsGuard hs) todo h = guarded hs s.run.raised todo h
    unwind_past piece.IsFinish todo h = main_left s.run.raised todo h
    unwind_past piece.IsFinishCoroutine todo h = coroutine_left s.run.raised todo h

    pub unwinds : (todo : List Todo) → Holding todo → BuildsStep every thing name (raising.unwind_step todo s)
    unwinds [] h = leaves s.callers (none_waits h)
    unwinds (p ∷ ps) h = unwind_past (piece.sort p) ps (lists.sorted every N C O p ps h)

    pub exits : (w : Way) (todo : List Todo) → Holding todo → BuildsStep every thing name (quiet.exit_step w todo s)
    exits w [] h = end_step w (none_waits h)
    exits w (p ∷ ps) h = go _ _ (lists.left_behind every N C O w (piece.sort p) ps (lists.sorted every N C O p ps h))

    -- printing

    pub prints : (x : Option (List Piece)) (p : Piece) (todo : List Todo) (vs : List Value) → Holding todo → BuildsStep every thing name (piece.print_step x p todo vs s)
    prints None p todo vs h = (λ x. go _ _ h)
    prints (Some ps) p todo vs h = go_in _ _ _ (same refl refl refl refl) h

    pub flushes : (x : Option (List Piece)) (todo : List Todo) (vs : List Value) → Holding todo → BuildsStep every thing name (piece.flush_step x todo vs s)
    flushes None todo vs h = go _ _ h
    flushes (Some []) todo vs h = go_in _ _ _ (same refl refl refl refl) h
    flushes (Some (p ∷ ps)) todo vs h = λ x. go_in _ _ _ (same refl refl refl refl) h

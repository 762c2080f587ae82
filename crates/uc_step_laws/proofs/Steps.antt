-- A quiet step of a settled state leads to one, or asks what has a form.
use Rattle.std.proofs.Common.{◌≡◌, ℕ, zero, suc, ◌+◌, ◌-◌, ◌≤◌, ◌++◌, Bool, true, false, List, [], ◌∷◌, length, replicate, drop, Option, Some, None, refl, sym, ap, ◌∙◌, subst, arith, length-append}
use Rattle.std.specs.Prelude.{ℤ, pos, nat_eq, nat_lt, slice_get, slice_set, if◌then◌else◌}
use Rattle.std.proofs.lemmas.Bool.{ltb-true}
use Rattle.std.proofs.lemmas.List.{length-replicate}
use Rattle.uc_tree.specs.declared.limits.TheConstants.{CALLS, PENDING_EVENTS, DESTRUCTOR}
use Rattle.uc_tree.specs.declared.kinds.ValueForm.{ValueForm}
use Rattle.uc_tree.specs.declared.kinds.ValueForm.TheVariants as form
use Rattle.uc_tree.specs.ValueForms.{form_number}
use Rattle.uc_tree.specs.Source as src
use Rattle.uc_tree.specs.Source.{Source, Shape, Expr, ObjectExpr, Stmt, Stmts, EventStmt, TaskStmt, Routine, Purpose, Order, Way, CleanUp, Handlers, Clauses, Raised, Item}
use Rattle.uc_entry.specs.declared.fault.RunFault.{RunFault}
use Rattle.uc_entry.specs.declared.fault.RunFault.TheVariants.{Index, Depth, NoReturn, BlockedInside, TooManyPending, NotLive, Unhandled}
use Rattle.uc_entry.specs.declared.request.TheConstants.{PRINT_ITEMS}
use Rattle.uc_entry.specs.declared.request.Piece.{Piece}
use Rattle.uc_entry.specs.declared.request.Request.{Request}
use Rattle.uc_entry.specs.declared.request.Request.TheVariants as ask
use Rattle.uc_entry.specs.Keyed.{find, signed_64}
use Rattle.uc_machine.specs.declared.exec.Exec.{Exec}
use Rattle.uc_machine.specs.declared.exec.Pending.{Pending}
use Rattle.uc_machine.specs.declared.exec.UnwindReason.{UnwindReason}
use Rattle.uc_machine.specs.declared.exec.UnwindReason.TheVariants as reason
use Rattle.uc_machine.specs.declared.exec.Visited.{Visited}
use Rattle.uc_machine.specs.Switches as sw
use Rattle.uc_machine.specs.Switches.{Moved, To, Stops}
use Rattle.uc_machine.specs.Insides as inside
use Rattle.uc_machine.specs.Raising as raising
use Rattle.uc_machine.specs.Raising.{Event, Handler, Found}
use Rattle.uc_machine.specs.Monitors as monitors
use Rattle.uc_machine.specs.Polls as polls
use Rattle.uc_machine.specs.Quiet as quiet
use Rattle.uc_machine.specs.Pieces as piece
use Rattle.uc_machine.specs.Pieces.{Value, Number, Place, Running, Object, Nothing, Todo, Sort, Active, State, Env, Members, Step, Goes, Ticks, Asks, Outcome, Gives, Faults, at, in_env, goes, fault, asks, turns, top, below, number, written}
use Rattle.uc_step_laws.specs.Hands.{keys, HasForm}
use Rattle.uc_step_laws.specs.Holding.{plain, PlainRuns, PlainEx, Few, HoldingEnv, Holding, ToDoBehind, HasAsked, StepHolding}
use Rattle.uc_step_laws.proofs.Kept.{either, plain_tail, MovedHolding, like, owned_holding, written_holding, born_holding, forgotten_holding, with_links_holding, enlivened_holding, wake_holding, suspend_holding, finish_holding, escape_holding, taken_down_holding, take_down_holding}

-- a fault is asked where nothing is bound

print_form : (ps : List Piece) → 1 ≤ length ps → length ps ≤ PRINT_ITEMS → HasForm (piece.print_of ps)
print_form ps some few =
    (some, few, length-append ps (replicate (PRINT_ITEMS - length ps) piece.blank) ∙ ap (λ n. length ps + n) (length-replicate (PRINT_ITEMS - length ps) piece.blank) ∙ omega (arith, few))

pub form_small : (f : ValueForm) → form_number f ≤ 1
form_small form.Number = omega arith
form_small form.Character = omega arith

with_piece_few : (p : Piece) (ps : List Piece) → length ps ≤ PRINT_ITEMS → length (piece.with_piece p ps) ≤ PRINT_ITEMS
with_piece_few p ps h = by (nat_lt (length ps) PRINT_ITEMS) refl
  where
    by : (b : Bool) → nat_lt (length ps) PRINT_ITEMS ≡ b → length (if b then p ∷ ps else ps) ≤ PRINT_ITEMS
    by true e = let lt = ltb-true (length ps) PRINT_ITEMS e in omega (arith, lt)
    by false e = h

-- what is to do behind the statements of a routine
pub plain_behind : (p : Purpose) (line : ℕ) → plain (quiet.behind_body p line) ≡ true
plain_behind src.TaskMain line = refl
plain_behind src.CoroutineMain line = refl
plain_behind src.Procedure line = refl
plain_behind src.Function line = refl
plain_behind src.Builder line = refl

module _ (ks : List ℕ) where
  -- the running activation goes on otherwise, and all else stays
  on : {s : State} {t : State} → Holding ks s → plain t.run.control ≡ true → t.callers ≡ s.callers → HoldingEnv ks t.env → Holding ks t
  on h p c e = record { control = p; callers = subst PlainRuns (sym c) h.callers; env = e }

  module _ (s : State) (callers : PlainRuns s.callers) (env : HoldingEnv ks s.env) where
    -- with other operands and something else to do
    pub go : (todo : List Todo) (vs : List Value) → plain todo ≡ true → Holding ks (at todo vs s)
    go todo vs h = record { control = h; callers = callers; env = env }

    -- and with something written
    pub go_in : (todo : List Todo) (vs : List Value) (e : Env) → plain todo ≡ true → HoldingEnv ks e → Holding ks (at todo vs (in_env e s))
    go_in todo vs e h i = record { control = h; callers = callers; env = i }

    pub stop : (f : RunFault) (todo : List Todo) (vs : List Value) → plain todo ≡ true → StepHolding ks (fault f todo vs s)
    stop f todo vs h = record { control = h; callers = callers; env = env; form = tt }

    pub moved : (m : Moved (List Todo) Value) (todo : List Todo) (vs : List Value) → plain todo ≡ true → MovedHolding ks m → StepHolding ks (piece.moves m (at todo vs s))
    moved (To t) todo vs h m = m
    moved (Stops f) todo vs h m = record { control = h; callers = callers; env = env; form = tt }

    pub write : (p v : Value) → HoldingEnv ks (written p v s.env)
    write p v = written_holding ks p v s.env env

    pub outcome : (o : Outcome) (todo : List Todo) (vs : List Value) → plain todo ≡ true → StepHolding ks (piece.outcome_step o todo vs s)
    outcome (Gives n) todo vs h = go todo _ h
    outcome (Faults f) todo vs h = stop f todo vs h

    pub element : (k : Shape) (i : Option ℕ) (todo : List Todo) (v : Value) (vs : List Value) → plain todo ≡ true → StepHolding ks (piece.element_step k i todo v vs s)
    element k None todo v vs h = stop Index todo vs h
    element k (Some i) todo v vs h = go todo _ h

    -- expressions

    pub starts : (cell : ℕ) (v : Option Expr) (todo : List Todo) → plain todo ≡ true → plain (quiet.starting cell v todo) ≡ true
    starts cell None todo h = h
    starts cell (Some e) todo h = h

    pub converts : (k : Shape) (todo : List Todo) → plain todo ≡ true → plain (quiet.converting k todo) ≡ true
    converts src.Character todo h = h
    converts src.Truth todo h = h
    converts k todo h = h

    pub object : (o : ObjectExpr) (todo : List Todo) → plain todo ≡ true → StepHolding ks (quiet.object_step o todo s)
    object (src.EndOn r false a) todo h = go _ _ h
    object (src.EndOn r true a) todo h = go _ _ h
    object (src.MakeOn c r false a args) todo h = go _ _ h
    object (src.MakeOn c r true a args) todo h = go _ _ h
    object o todo h = go _ _ h

    pub eval : (a : Expr) (todo : List Todo) → plain todo ≡ true → StepHolding ks (quiet.eval_step a todo s)
    eval src.Fail todo h = record { control = h; callers = callers; env = env; form = tt }
    eval (src.Update op k p a) todo h = go _ _ (converts k _ h)
    eval (src.StepBehind op k p) todo h = go _ _ (converts k _ h)
    eval (src.OfObject o) todo h = object o todo h
    eval a todo h = go _ _ h

    -- loops and exits

    pub stepped : (e : Option Expr) (todo : List Todo) → plain todo ≡ true → plain (quiet.step_todo e todo) ≡ true
    stepped None todo h = h
    stepped (Some e) todo h = h

    pub tested : (o : Order) (t : Expr) (e : Option Expr) (b : Stmt) (todo : List Todo) → plain todo ≡ true → plain (quiet.test_todo o t e b todo) ≡ true
    tested src.TestFirst t e b todo h = h
    tested src.BodyFirst t e b todo h = h
    tested src.NoTest t e b todo h = h

    pub looped : (o : Order) (t : Expr) (e : Option Expr) (b : Stmt) (todo : List Todo) → plain todo ≡ true → plain (quiet.loop_todo o t e b todo) ≡ true
    looped src.TestFirst t e b todo h = h
    looped src.BodyFirst t e b todo h = h
    looped src.NoTest t e b todo h = h

    -- the end of an activation
    pub returned : (given : Value) (cs : List Active) → PlainRuns cs → plain s.run.control ≡ true → StepHolding ks (piece.return_step given cs s)
    returned given [] c h = record { control = h; callers = callers; env = env; form = tt }
    returned given (a ∷ cs) c h = record { control = c.0; callers = c.1; env = like ks env refl refl refl }

    pub past : (v : Visited) (given : Value) (cs : List Active) → PlainRuns cs → plain s.run.control ≡ true → StepHolding ks (raising.return_past v given cs s)
    past v given [] c h = record { control = h; callers = callers; env = env; form = tt }
    past v given (a ∷ cs) c h = record { control = c.0; callers = c.1; env = like ks env refl refl refl }

    pub end_by : (v : Option Visited) (given : Value) → plain s.run.control ≡ true → StepHolding ks (raising.end_by v given s)
    end_by None given h = returned given s.callers callers h
    end_by (Some v) given h = past v given s.callers callers h

    pub end_step : (w : Way) → plain s.run.control ≡ true → StepHolding ks (quiet.end_step w s)
    end_step src.ToReturn h = end_by s.run.handles _ h
    end_step src.ToEnd h = end_by s.run.handles _ h
    end_step src.ToBreak h = returned _ s.callers callers h
    end_step src.ToContinue h = returned _ s.callers callers h

    pub loop_left : (w : Way) (o : Order) (t : Expr) (e : Option Expr) (b : Stmt) (todo : List Todo) → plain todo ≡ true → plain (quiet.loop_left w o t e b todo) ≡ true
    loop_left src.ToBreak o t e b todo h = h
    loop_left src.ToContinue o t e b todo h = h
    loop_left src.ToReturn o t e b todo h = h
    loop_left src.ToEnd o t e b todo h = h

    pub left_behind : (w : Way) (k : Sort) (todo : List Todo) → plain todo ≡ true → plain (quiet.left_behind w k todo) ≡ true
    left_behind w (piece.IsLoop o t e b) todo h = loop_left w o t e b todo h
    left_behind w k todo h = h

    pub exits : (w : Way) (todo : List Todo) → plain todo ≡ true → plain s.run.control ≡ true → StepHolding ks (quiet.exit_step w todo s)
    exits w [] h c = end_step w c
    exits w (p ∷ ps) h c = go _ _ (left_behind w (piece.sort p) ps (plain_tail p ps h))

    -- statements

    pub filled : (b : Bool) (n : ℕ) (e d : Expr) (todo : List Todo) → plain todo ≡ true → plain (quiet.fill_todo b n e d todo) ≡ true
    filled false n e d todo h = h
    filled true n e d todo h = h

    pub swept : (n : ℕ) (e : Expr) (todo : List Todo) → plain todo ≡ true → StepHolding ks (quiet.sweep_step n e todo s)
    swept zero e todo h = go _ _ h
    swept (suc n) e todo h = record { control = h; callers = callers; env = env }

    pub raised : (r : Raised) (todo : List Todo) → plain todo ≡ true → plain (raising.raised_todo r todo) ≡ true
    raised (src.Plainly n) todo h = h
    raised (src.BuiltAt n k e) todo h = h
    raised (src.AgainFrom k) todo h = h

    pub event_step : (a : EventStmt) (todo : List Todo) → plain todo ≡ true → StepHolding ks (quiet.event_step a todo s)
    event_step (src.Throw line r) todo h = go _ _ (raised r _ h)
    event_step (src.Raise line r) todo h = go _ _ (raised r _ h)
    event_step (src.RaiseAt line r a) todo h = go _ _ (raised r _ h)
    event_step a todo h = go _ _ h

    pub task_step : (a : TaskStmt) (todo : List Todo) → plain todo ≡ true → StepHolding ks (quiet.task_step a todo s)
    task_step (src.Resume line) todo h = go _ _ h
    task_step a todo h = go _ _ h

    pub stmt : (a : Stmt) (todo : List Todo) → plain todo ≡ true → StepHolding ks (quiet.stmt_step a todo s)
    stmt (src.Loop line o t e b) todo h = go _ _ (looped o t e b _ h)
    stmt (src.Return line None) todo h = go _ _ h
    stmt (src.Return line (Some e)) todo h = go _ _ h
    stmt (src.OfEvents a) todo h = event_step a todo h
    stmt (src.OfTasks a) todo h = task_step a todo h
    stmt a todo h = go _ _ h

    pub rest : (ss : Stmts) (todo : List Todo) → plain todo ≡ true → StepHolding ks (quiet.rest_step ss todo s)
    rest src.Nil todo h = go _ _ h
    rest (src.Then a ss) todo h = go _ _ h
    rest (src.Scoped c ss) todo h = go _ _ h
    rest (src.Built c ss) todo h = go _ _ h

    -- calls

    pub begun : (r : Routine) (this : Value) (counts : Bool) (todo : List Todo) (vs : List Value) → plain todo ≡ true → StepHolding ks (quiet.begun_step r this counts todo vs s)
    begun r this counts todo vs h = record { control = plain_behind r.purpose r.line; callers = (h, callers); env = like ks env refl refl refl }

    pub ends : (todo : List Todo) (vs : List Value) → plain todo ≡ true → StepHolding ks (Asks ask.End (at todo vs s))
    ends todo vs h = record { control = h; callers = callers; env = env; form = tt }

    pub call : (r : Option Routine) (todo : List Todo) → plain todo ≡ true → StepHolding ks (quiet.call_step r todo s)
    call None todo h = ends _ _ h
    call (Some r) todo h = either (StepHolding ks) (nat_lt s.env.links.calls CALLS) _ _ (begun r _ true todo _ h) (stop Depth todo _ h)

    pub call_on : (r : Option Routine) (todo : List Todo) → plain todo ≡ true → StepHolding ks (quiet.call_on_step r todo s)
    call_on None todo h = ends _ _ h
    call_on (Some r) todo h = either (StepHolding ks) (nat_lt s.env.links.calls CALLS) _ _ (begun r _ true todo _ h) (stop Depth todo _ h)

    pub call_unwritten : (r : Option Routine) (todo : List Todo) → plain todo ≡ true → StepHolding ks (quiet.call_unwritten_step r todo s)
    call_unwritten None todo h = ends _ _ h
    call_unwritten (Some r) todo h = begun r _ false todo _ h

    -- coroutines

    pub set_up : (r : Option Routine) (todo : List Todo) → plain todo ≡ true → StepHolding ks (quiet.set_up_step r todo s)
    set_up None todo h = go _ _ h
    set_up (Some r) todo h = go_in _ _ _ h (written_holding ks s.run.this _ _ (born_holding ks _ (quiet.fresh r s.run.this) s.env (record { run = plain_behind r.purpose r.line; callers = tt }) env))

    pub live : (r : Option Routine) (todo : List Todo) → plain todo ≡ true → StepHolding ks (quiet.live_step r todo s)
    live None todo h = ends _ _ h
    live (Some r) todo h = either (StepHolding ks) (sw.is_live (piece.exec_at (top (drop r.params s.run.operands)) s.env) s.env) _ _ (go _ _ h) (stop NotLive todo _ h)

    pub land : (o : Option UnwindReason) (todo : List Todo) → plain todo ≡ true → StepHolding ks (quiet.land_step o todo s)
    land None todo h = go _ _ h
    land (Some why) todo h = go _ _ h

    -- mutex objects

    pub unless : (o : ℕ) (step : Step) (todo : List Todo) → plain todo ≡ true → StepHolding ks step → StepHolding ks (monitors.unless_held_up o step todo s)
    unless o step todo h k = either (StepHolding ks) (inside.is_held_up o s.env) _ step (stop BlockedInside todo _ h) k

    pub enter_at : (d : Option ℕ) (o m : ℕ) (todo : List Todo) → plain todo ≡ true → StepHolding ks (monitors.enter_at d o m todo s)
    enter_at (Some d) o m todo h = go_in _ _ _ h (like ks env refl refl refl)
    enter_at None o m todo h = record { control = h; callers = callers; env = like ks env refl refl refl; form = tt }

    pub enter : (m : ℕ) (r : Option Routine) (todo : List Todo) → plain todo ≡ true → StepHolding ks (monitors.enter_step m r todo s)
    enter m None todo h = ends _ _ h
    enter m (Some r) todo h =
        let o = piece.object_in (top (drop r.params s.run.operands)) in
        either (StepHolding ks) (monitors.may_call r.written s) _ _ (enter_at (find o s.env.depths) o m todo h) (stop Depth todo _ h)

    pub polled : (o : Option UnwindReason) (todo : List Todo) → plain todo ≡ true → plain (monitors.leave_todo o todo) ≡ true
    polled None todo h = h
    polled (Some why) todo h = h

    pub leave : (b : Bool) (o : ℕ) (todo : List Todo) → plain todo ≡ true → StepHolding ks (monitors.leave_at b o todo s)
    leave false o todo h = go_in _ _ _ h (like ks env refl refl refl)
    leave true o todo h =
        unless o _ todo h (record { control = polled s.run.raised todo h; callers = callers; env = like ks env refl refl refl; form = tt })

    pub make : (c k : ℕ) (r : Option Routine) (todo : List Todo) → plain todo ≡ true → StepHolding ks (monitors.make_step c k r todo s)
    make c k None todo h = ends _ _ h
    make c k (Some r) todo h =
        either (StepHolding ks) (monitors.may_call r.written s) _ _ (record { control = h; callers = callers; env = like ks env refl refl refl; form = tt }) (stop Depth todo _ h)

    pub bind : (r : Option Routine) (todo : List Todo) → plain todo ≡ true → StepHolding ks (monitors.bind_step r todo s)
    bind None todo h = ends _ _ h
    bind (Some r) todo h = go_in _ _ _ h (write _ _)

    pub gone : (o : ℕ) (todo : List Todo) (e : Env) → plain todo ≡ true → HoldingEnv ks e → StepHolding ks (monitors.gone_step o todo e s)
    gone o todo e h i = record { control = h; callers = callers; env = i; form = tt }

    pub condition : (k : ℕ) (i : Option ℕ) (todo : List Todo) → plain todo ≡ true → StepHolding ks (monitors.condition_step k i todo s)
    condition k None todo h = stop Index todo _ h
    condition k (Some i) todo h = go _ _ h

    pub accept : (mask o site : ℕ) (todo : List Todo) (vs : List Value) → plain todo ≡ true → StepHolding ks (monitors.accept_by mask o site todo vs s)
    accept zero o site todo vs h = go _ _ h
    accept (suc mask) o site todo vs h = unless o _ todo h (record { control = h; callers = callers; env = env; form = tt })

    pub failed : (b : Bool) (todo : List Todo) (vs : List Value) → plain todo ≡ true → StepHolding ks (monitors.failed_step b todo vs s)
    failed true todo vs h = go _ _ h
    failed false todo vs h = go _ _ h

    pub branch : (k : ℕ) (cs : Clauses) (todo : List Todo) → plain todo ≡ true → plain (monitors.branch_todo k cs todo) ≡ true
    branch k src.NoClauses todo h = h
    branch k (src.Otherwise b) todo h = either (λ l. plain l ≡ true) (nat_eq k 0) _ todo h h
    branch zero (src.MoreClauses guard b cs) todo h = branch zero cs todo h
    branch (suc zero) (src.MoreClauses guard b cs) todo h = h
    branch (suc (suc k)) (src.MoreClauses guard b cs) todo h = branch (suc k) cs todo h

    -- events

    pub pend : (n : Exec) (e : Event) (todo : List Todo) (vs : List Value) → plain todo ≡ true → StepHolding ks (polls.pend_step n e todo vs s)
    pend n e todo vs h =
        either (StepHolding ks) (nat_lt (length (inside.pending_at n s.env)) PENDING_EVENTS) _ _ (go_in _ _ _ h (with_links_holding ks (λ l. record l { pending = l.pending ++ (record { event = e.number; x = e.x; y = e.y }) ∷ [] }) n s.env env)) (stop TooManyPending todo vs h)

    pub pend_at : (o : Option Exec) (e : Event) (todo : List Todo) (vs : List Value) → plain todo ≡ true → StepHolding ks (polls.pend_at o e todo vs s)
    pend_at None e todo vs h = stop NotLive todo vs h
    pend_at (Some n) e todo vs h = either (StepHolding ks) (sw.is_live (Some n) s.env) _ _ (pend n e todo vs h) (stop NotLive todo vs h)

    pub raise_at : (v : Value) (e : Event) (todo : List Todo) (vs : List Value) → plain todo ≡ true → StepHolding ks (polls.raise_at_step v e todo vs s)
    raise_at (Object o) e todo vs h = record { control = h; callers = callers; env = env; form = tt }
    raise_at v e todo vs h = pend_at (piece.exec_at v s.env) e todo vs h

    pub enables : (events cell : ℕ) (todo : List Todo) → plain todo ≡ true → StepHolding ks (polls.enable_step events cell todo s)
    enables events cell todo h = go_in _ _ _ h (like ks (write (piece.variable_at cell s) (Number (signed_64 s.env.links.enabled))) refl refl refl)

    pub quiet_poll : (o : Option Pending) (todo : List Todo) → plain todo ≡ true → StepHolding ks (polls.quiet_poll o todo s)
    quiet_poll None todo h = go _ _ h
    quiet_poll (Some p) todo h = go_in _ _ _ h (like ks env refl refl refl)

    pub poll_by : (b : Bool) (todo : List Todo) → plain todo ≡ true → StepHolding ks (polls.poll_by b todo s)
    poll_by true todo h = record { control = h; callers = callers; env = env; form = tt }
    poll_by false todo h = quiet_poll (inside.oldest_enabled s.env.links) todo h

    pub poll : (todo : List Todo) → plain todo ≡ true → StepHolding ks (polls.poll_step todo s)
    poll todo h = either (StepHolding ks) (nat_eq s.env.links.enabled 0) _ _ (go _ _ h) (poll_by (inside.is_own s.env) todo h)

    pub deliver : (v : Value) (todo : List Todo) → plain todo ≡ true → StepHolding ks (polls.deliver_step v todo s)
    deliver Nothing todo h = go _ _ h
    deliver v todo h = go _ _ h

    pub throws : (e : Event) (todo : List Todo) → plain todo ≡ true → StepHolding ks (raising.throw_step e todo s)
    throws e todo h = record { control = h; callers = callers; env = env }

    pub handles : (f : Option Found) (e : Event) (todo : List Todo) → plain todo ≡ true → StepHolding ks (raising.handle_step f e todo s)
    handles None e todo h = throws e todo h
    handles (Some f) e todo h = record { control = refl; callers = (h, callers); env = like ks env refl refl refl }

    -- unwinding

    pub catches : (o : Option Handler) (e : Event) (todo : List Todo) → plain todo ≡ true → StepHolding ks (raising.catch_step o e todo s)
    catches None e todo h = go _ _ h
    catches (Some x) e todo h = record { control = h; callers = callers; env = env }

    pub guarded : (hs : Handlers) (o : Option UnwindReason) (todo : List Todo) → plain todo ≡ true → StepHolding ks (raising.guard_left hs o todo s)
    guarded hs (Some (reason.Event n x y)) todo h = catches _ _ todo h
    guarded hs o todo h = go _ _ h

    pub whole : (b : Bool) (todo : List Todo) → plain todo ≡ true → StepHolding ks (raising.whole_left b todo s)
    whole true todo h = record { control = h; callers = callers; env = env }
    whole false todo h = go _ _ h

    pub cleans : (c : CleanUp) (todo : List Todo) → plain todo ≡ true → plain (piece.clean_todo c todo) ≡ true
    cleans (src.Frees None) todo h = h
    cleans (src.Frees (Some r)) todo h = h
    cleans c todo h = h

    pub left_cleans : (c : CleanUp) (todo : List Todo) → plain todo ≡ true → plain (raising.left_todo c todo) ≡ true
    left_cleans (src.Frees r) todo h = h
    left_cleans c todo h = cleans c todo h

    pub scope : (c : CleanUp) (b : Bool) (todo : List Todo) → plain todo ≡ true → StepHolding ks (raising.scope_left c b todo s)
    scope src.Leaves true todo h = record { control = h; callers = callers; env = env }
    scope c b todo h = go (raising.left_todo c (piece.Unwind ∷ todo)) [] (left_cleans c (piece.Unwind ∷ todo) h)

    pub main_left : (o : Option UnwindReason) (todo : List Todo) → plain todo ≡ true → StepHolding ks (raising.main_left o todo s)
    main_left (Some (reason.ReturnTo n)) todo h = record { control = h; callers = callers; env = env }
    main_left o todo h = stop Unhandled todo [] h

    pub coroutine_left : (o : Option UnwindReason) (todo : List Todo) → plain todo ≡ true → StepHolding ks (raising.coroutine_left o todo s)
    coroutine_left (Some (reason.ReturnTo n)) todo h = record { control = h; callers = callers; env = env }
    coroutine_left (Some reason.Destroyed) todo h = moved _ todo _ h (taken_down_holding ks (at todo [] s) (go todo [] h))
    coroutine_left o todo h = moved _ todo _ h (escape_holding ks (at todo [] s) (go todo [] h))

    pub unwind_past : (k : Sort) (todo : List Todo) → plain todo ≡ true → StepHolding ks (raising.unwind_past k todo s)
    unwind_past piece.IsWhole todo h = whole _ todo h
    unwind_past (piece.IsClean c) todo h = scope c _ todo h
    unwind_past (piece.IsPart c) todo h = go _ _ (cleans c _ h)
    unwind_past (piece.IsGuard hs) todo h = guarded hs s.run.raised todo h
    unwind_past piece.IsFinish todo h = main_left s.run.raised todo h
    unwind_past piece.IsFinishCoroutine todo h = coroutine_left s.run.raised todo h
    unwind_past k todo h = go _ _ h

    pub pass_on : (o : Option UnwindReason) (c : Active) (cs : List Active) → plain c.control ≡ true → PlainRuns cs → plain s.run.control ≡ true → StepHolding ks (raising.pass_on o c cs s)
    pass_on None c cs a b h = record { control = h; callers = callers; env = env; form = tt }
    pass_on (Some why) c cs a b h = record { control = a; callers = b; env = like ks env refl refl refl }

    pub leave_for : (b : Bool) (c : Active) (cs : List Active) → plain c.control ≡ true → PlainRuns cs → plain s.run.control ≡ true → StepHolding ks (raising.leave_for b c cs s)
    leave_for true c cs a b h = record { control = h; callers = callers; env = env; form = tt }
    leave_for false c cs a b h = pass_on s.run.raised c cs a b h

    pub leaves : (cs : List Active) → PlainRuns cs → plain s.run.control ≡ true → StepHolding ks (raising.leave_step cs s)
    leaves [] c h = record { control = h; callers = callers; env = env; form = tt }
    leaves (c ∷ cs) p h =
        either (StepHolding ks) (raising.arrives s.run.raised (length (c ∷ cs))) _ _ (returned s.run.result (c ∷ cs) p h) (leave_for _ c cs p.0 p.1 h)

    pub unwinds : (todo : List Todo) → plain todo ≡ true → plain s.run.control ≡ true → StepHolding ks (raising.unwind_step todo s)
    unwinds [] h c = leaves s.callers callers c
    unwinds (p ∷ ps) h c = unwind_past (piece.sort p) ps (plain_tail p ps h)

    -- printing

    pub prints : (o : Option (List Piece)) (p : Piece) (todo : List Todo) (vs : List Value) → s.env.gathered ≡ o → plain todo ≡ true → StepHolding ks (piece.print_step o p todo vs s)
    prints None p todo vs e h = record { control = h; callers = callers; env = env; form = print_form (p ∷ []) (omega arith) (omega arith) }
    prints (Some ps) p todo vs e h =
        go_in _ _ _ h (record { keys_are = env.keys_are; house = env.house; hand = env.hand; few = with_piece_few p ps (subst Few e env.few) })

    pub flushes : (o : Option (List Piece)) (todo : List Todo) (vs : List Value) → s.env.gathered ≡ o → plain todo ≡ true → StepHolding ks (piece.flush_step o todo vs s)
    flushes None todo vs e h = go _ _ h
    flushes (Some []) todo vs e h = go_in _ _ _ h (record { keys_are = env.keys_are; house = env.house; hand = env.hand; few = tt })
    flushes (Some (p ∷ ps)) todo vs e h =
        let few : length (p ∷ ps) ≤ PRINT_ITEMS = subst Few e env.few in
        record { control = h; callers = callers; env = record { keys_are = env.keys_are; house = env.house; hand = env.hand; few = tt }; form = print_form (p ∷ ps) (omega arith) few }

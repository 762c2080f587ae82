-- A quiet step of a task whose activations are told of their objects leads to one.
use Rattle.std.proofs.Common.{inl, inr, ◌≡◌, ◌<◌, ◌≤◌, ◌⊎◌, ℕ, zero, suc, ◌++◌, Bool, true, false, List, [], ◌∷◌, length, drop, Option, Some, None, refl, subst, sym, arith}
use Rattle.std.specs.Prelude.{nat_eq, nat_lt, if◌then◌else◌}
use Rattle.std.proofs.lemmas.Bool.{eq-eqb}
use Rattle.uc_tree.specs.declared.limits.TheConstants.{CALLS, PENDING_EVENTS}
use Rattle.uc_tree.specs.Source as src
use Rattle.uc_tree.specs.Source.{Shape, Expr, ObjectExpr, Stmt, Stmts, EventStmt, TaskStmt, Routine, Purpose, Order, Way, CleanUp, Handlers, Clauses, Raised, Item, Declared}
use Rattle.uc_entry.specs.declared.request.Piece.{Piece}
use Rattle.uc_entry.specs.Keyed.{find, signed_64}
use Rattle.uc_machine.specs.declared.exec.Exec.{Exec}
use Rattle.uc_machine.specs.declared.exec.Pending.{Pending}
use Rattle.uc_machine.specs.declared.exec.UnwindReason.{UnwindReason}
use Rattle.uc_machine.specs.declared.exec.UnwindReason.TheVariants as reason
use Rattle.uc_machine.specs.declared.exec.Visited.{Visited}
use Rattle.uc_machine.specs.Executions.{values_cleared, members_at}
use Rattle.uc_machine.specs.Switches as sw
use Rattle.uc_machine.specs.Switches.{Moved, To, Stops}
use Rattle.uc_machine.specs.Insides as inside
use Rattle.uc_machine.specs.Raising as raising
use Rattle.uc_machine.specs.Raising.{Event, Handler, Found, Hit}
use Rattle.uc_machine.specs.Monitors as monitors
use Rattle.uc_machine.specs.Polls as polls
use Rattle.uc_machine.specs.Quiet as quiet
use Rattle.uc_machine.specs.Pieces as piece
use Rattle.uc_machine.specs.Pieces.{Value, Number, Place, Running, Object, Nothing, Todo, Sort, Active, State, Env, Members, Step, Goes, Ticks, Asks, Outcome, Gives, Faults, at, in_env, top, below, number, nought, written}
use Rattle.uc_typing.specs.Typing.{Ty, Table}
use Rattle.uc_life_laws.specs.Things.{Few, Things}
use Rattle.uc_depth_laws.specs.Owing.{marks, owed_by, owed_waiting}
use Rattle.uc_making_laws.specs.LettingGo.{is_letting, WaitsBy, RunsBy, AllClosed, FoundClosed, IsTold, Told, LetsStack, LetsState, LetsStep, OpensStmt, OpensStmts, LeavesAt}
use Rattle.uc_making_laws.proofs.LettingLists as lists
use Rattle.uc_life_laws.proofs.Cells.{either}
use Rattle.uc_apart_laws.proofs.Clear.{home_more}
use Rattle.uc_making_laws.proofs.LettingKeeping as kept
use Rattle.uc_making_laws.proofs.LettingKeeping.{Keeps}

module _ (t : Table) (few : Few) (n : Exec) where
  -- what is told stays so where more is at hand, and as much is owed
  more_object : (ds es : List Active) → ((w : Value) (a : Ty) → Things t few n ds w a → Things t few n es w a) → ((q : ℕ) → owed_waiting q ds ≤ owed_waiting q es) → (o : ℕ) → IsTold t few n ds o → IsTold t few n es o
  more_object ds es f g o (inl e) = inl e
  more_object ds es f g o (inr (inl h)) =
      inr (inl (h.0, home_more t few o (Things t few n ds) (Things t few n es) f h.0 h.1))
  more_object ds es f g o (inr (inr k)) = let le = g o in inr (inr (omega (arith, k, le)))

  pub more : (v : Value) (ds es : List Active) → ((w : Value) (a : Ty) → Things t few n ds w a → Things t few n es w a) → ((q : ℕ) → owed_waiting q ds ≤ owed_waiting q es) → Told t few n ds v → Told t few n es v
  more (Number z) ds es f g h = tt
  more (Place o p) ds es f g h = tt
  more (Running x) ds es f g h = tt
  more (Object o) ds es f g h = more_object ds es f g o h
  more Nothing ds es f g h = tt

  -- where one more waits
  pub further : (v : Value) (a : Active) (cs : List Active) → Told t few n cs v → Told t few n (a ∷ cs) v
  further v a cs h = more v cs (a ∷ cs) (λ w d k. inr k) (λ q. omega (arith)) h

  -- who is to let go of its object owes that
  owes_own : (a : Active) (older : List Active) (v : Value) → a.this ≡ v → 0 < marks a.control → Told t few n (a ∷ older) v
  owes_own a older (Number z) e k = tt
  owes_own a older (Place o p) e k = tt
  owes_own a older (Running x) e k = tt
  owes_own a older (Object o) e k =
      let own : 0 < owed_by o a = subst (λ v. 0 < (if nat_eq (piece.object_in v) o then marks a.control else 0)) (sym e) (subst (λ b. 0 < (if b then marks a.control else 0)) (sym (eq-eqb o o refl)) k) in
      inr (inr (omega (arith, own)))
  owes_own a older Nothing e k = tt

  -- the object of an activation that waits is told of by all that there are
  pub here : (a : Active) (older : List Active) → WaitsBy (Told t few n older a.this) a.control → Told t few n (a ∷ older) a.this
  here a older h = by h.1
    where
      by : Told t few n older a.this ⊎ (is_letting a.control ≡ true) → Told t few n (a ∷ older) a.this
      by (inl c) = further a.this a older c
      by (inr m) = owes_own a older a.this refl (lists.letting_marks a.control m)

  -- so is that of one whose handler is found
  abbrev pub OfFound : List Active → Option Found → Type 0
  OfFound cs None = Unit {0}
  OfFound cs (Some x) = Told t few n cs x.this

  found_or : (x : Option Hit) (a : Active) (cs : List Active) (other : Option Found) → Told t few n (a ∷ cs) a.this → OfFound cs other → OfFound (a ∷ cs) (raising.found_or x a cs other)
  found_or None a cs None h k = tt
  found_or None a cs (Some y) h k = further y.this a cs k
  found_or (Some x) a cs other h k = h

  less : (a : Active) (cs : List Active) (o : Option Found) → OfFound cs o → OfFound (a ∷ cs) o
  less a cs None k = tt
  less a cs (Some y) k = further y.this a cs k

  pub seek : (v : Option Visited) (e : Event) (cs : List Active) → LetsStack t few n cs → OfFound cs (raising.seek v e cs)
  seek None e [] h = tt
  seek (Some v) e [] h = tt
  seek None e (a ∷ cs) h = found_or (raising.hit_in e a.control) a cs (raising.seek a.handles e cs) (here a cs h.0) (seek a.handles e cs h.1)
  seek (Some v) e (a ∷ cs) h =
      either (OfFound (a ∷ cs)) (nat_eq (length cs) v.level) (raising.found_or (raising.hit_in e (raising.within v.rest a.control)) a cs (raising.seek a.handles e cs)) (raising.seek (Some v) e cs) (found_or (raising.hit_in e (raising.within v.rest a.control)) a cs (raising.seek a.handles e cs) (here a cs h.0) (seek a.handles e cs h.1)) (less a cs (raising.seek (Some v) e cs) (seek (Some v) e cs h.1))

module _ (t : Table) (few : Few) where
  module _ (s : State) (st : LetsState t few s) where
    -- what older ones tell the activation that runs
    abbrev pub C : Type 0
    C = Told t few s.env.exec s.callers s.run.this

    abbrev pub Ends : List Todo → Type 0
    Ends todo = RunsBy C todo

    abbrev pub Holding : List Todo → Type 0
    Holding todo = WaitsBy C todo

    -- with something else to do, and other operands
    pub go_on : (todo : List Todo) (vs : List Value) → Ends todo → LetsState t few (at todo vs s)
    go_on todo vs h = record { stack = (h, st.stack.1); env = st.env }

    pub go : (todo : List Todo) (vs : List Value) → Holding todo → LetsState t few (at todo vs s)
    go todo vs h = go_on todo vs (lists.runs C todo h)

    -- and with another rest of the task
    pub go_on_in : (todo : List Todo) (vs : List Value) (e : Env) → Keeps t few s.env e → Ends todo → LetsState t few (at todo vs (in_env e s))
    go_on_in todo vs e k h = kept.with_env t few (at todo vs s) (go_on todo vs h) k

    pub go_in : (todo : List Todo) (vs : List Value) (e : Env) → Keeps t few s.env e → Holding todo → LetsState t few (at todo vs (in_env e s))
    go_in todo vs e k h = kept.with_env t few (at todo vs s) (go todo vs h) k

    -- nothing that is told of changes
    pub same : {e : Env} → e.exec ≡ s.env.exec → e.hand ≡ s.env.hand → e.house ≡ s.env.house → e.own ≡ s.env.own → Keeps t few s.env e
    same x h g o = kept.keeps_like t few st.env x h g o

    -- the end of an activation

    pub returned : (given : Value) (cs : List Active) → LetsStack t few s.env.exec cs → LetsStep t few (piece.return_step given cs s)
    returned given [] h = (st, tt)
    returned given (a ∷ cs) h = record { stack = (lists.runs (Told t few s.env.exec cs a.this) a.control h.0, h.1); env = kept.like t few st.env refl refl refl }

    past : (v : Visited) (given : Value) (cs : List Active) → LetsStack t few s.env.exec cs → LetsStep t few (raising.return_past v given cs s)
    past v given [] h = (st, tt)
    past v given (a ∷ cs) h = record { stack = (lists.runs (Told t few s.env.exec cs a.this) a.control h.0, h.1); env = kept.like t few st.env refl refl refl }

    end_by : (v : Option Visited) (given : Value) → LetsStep t few (raising.end_by v given s)
    end_by None given = returned given s.callers st.stack.1
    end_by (Some v) given = past v given s.callers st.stack.1

    end_step : (w : Way) → LetsStep t few (quiet.end_step w s)
    end_step src.ToReturn = end_by s.run.handles _
    end_step src.ToEnd = end_by s.run.handles _
    end_step src.ToBreak = returned _ s.callers st.stack.1
    end_step src.ToContinue = returned _ s.callers st.stack.1

    pass_on : (w : Option UnwindReason) (c : Active) (cs : List Active) → LetsStack t few s.env.exec (c ∷ cs) → LetsStep t few (raising.pass_on w c cs s)
    pass_on None c cs h = (st, tt)
    pass_on (Some why) c cs h = record { stack = (lists.runs (Told t few s.env.exec cs c.this) c.control h.0, h.1); env = kept.like t few st.env refl refl refl }

    leave_for : (b : Bool) (c : Active) (cs : List Active) → LetsStack t few s.env.exec (c ∷ cs) → LetsStep t few (raising.leave_for b c cs s)
    leave_for true c cs h = (st, tt)
    leave_for false c cs h = pass_on s.run.raised c cs h

    leaves : (cs : List Active) → LetsStack t few s.env.exec cs → LetsStep t few (raising.leave_step cs s)
    leaves [] h = (st, tt)
    leaves (c ∷ cs) h =
        either (LetsStep t few) (raising.arrives s.run.raised (length (c ∷ cs))) _ _ (returned s.run.result (c ∷ cs) h) (leave_for _ c cs h)

    pub moved : (m : Moved (List Todo) Value) (todo : List Todo) (vs : List Value) → Ends todo → kept.LetsMoved t few m → LetsStep t few (piece.moves m (at todo vs s))
    moved (To u) todo vs h m = m
    moved (Stops f) todo vs h m = (go_on todo vs h, tt)

    pub outcome : (x : Outcome) (todo : List Todo) (vs : List Value) → Holding todo → LetsStep t few (piece.outcome_step x todo vs s)
    outcome (Gives n) todo vs h = go todo _ h
    outcome (Faults f) todo vs h = (go todo _ h, tt)

    pub element : (n : Shape) (i : Option ℕ) (todo : List Todo) (v : Value) (vs : List Value) → Holding todo → LetsStep t few (piece.element_step n i todo v vs s)
    element n None todo v vs h = (go todo _ h, tt)
    element n (Some i) todo v vs h = go todo _ h

    -- expressions

    object : (x : ObjectExpr) (todo : List Todo) → Holding todo → LetsStep t few (quiet.object_step x todo s)
    object (src.EndOn r false a) todo h = go _ _ h
    object (src.EndOn r true a) todo h = go _ _ h
    object (src.MakeOn c r false a args) todo h = go _ _ h
    object (src.MakeOn c r true a args) todo h = go _ _ h
    object x todo h = go _ _ h

    pub eval : (a : Expr) (todo : List Todo) → Holding todo → LetsStep t few (quiet.eval_step a todo s)
    eval (src.Update op k p a) todo h = go _ _ (lists.converts C k (piece.KeepNow ∷ todo) h)
    eval (src.StepBehind op k p) todo h = go _ _ (lists.converts C k (piece.StoreNow ∷ (piece.DropBelowNow ∷ todo)) h)
    eval src.Fail todo h = (go _ _ h, tt)
    eval (src.OfObject x) todo h = object x todo h
    eval a todo h = go _ _ h

    -- statements

    pub swept : (n : ℕ) (e : Expr) (todo : List Todo) → Holding todo → LetsStep t few (quiet.sweep_step n e todo s)
    swept zero e todo h = go _ _ h
    swept (suc m) e todo h = record { stack = (lists.runs C (piece.Eval e ∷ (piece.DropNow ∷ (piece.Sweep e ∷ todo))) h, st.stack.1); env = st.env }

    event_step : (a : EventStmt) (todo : List Todo) → OpensStmt (src.OfEvents a) → Holding todo → LetsStep t few (quiet.event_step a todo s)
    event_step (src.Throw line r) todo o h = go _ _ (lists.raised C r (piece.ThrowNow ∷ (piece.Within line ∷ todo)) h)
    event_step (src.Raise line r) todo o h = go _ _ (lists.raised C r (piece.RaiseNow ∷ (piece.Within line ∷ todo)) h)
    event_step (src.Try line body hs) todo o h = go _ _ (lists.closed C body (piece.Guard hs ∷ (piece.Within line ∷ todo)) o h)
    event_step (src.RaiseAt line r a) todo o h = go _ _ (lists.raised C r (piece.Eval a ∷ (piece.RaiseAtNow ∷ (piece.Within line ∷ todo))) h)
    event_step (src.Enable line events cell a) todo o h = go _ _ h
    event_step (src.Disable line events cell a) todo o h = go _ _ h

    task_step : (a : TaskStmt) (todo : List Todo) → Holding todo → LetsStep t few (quiet.task_step a todo s)
    task_step (src.Resume line) todo h = go _ _ h
    task_step a todo h = go _ _ h

    pub stmt : (a : Stmt) (todo : List Todo) → OpensStmt a → Holding todo → LetsStep t few (quiet.stmt_step a todo s)
    stmt (src.Block line body) todo o h = go _ _ (lists.closed C body (piece.Within line ∷ todo) o h)
    stmt (src.Whole line body) todo o h = go _ _ (lists.closed C body (piece.InWhole ∷ (piece.Within line ∷ todo)) o h)
    stmt (src.Loop line k c e b) todo o h = go _ _ (lists.looped C k c e b (piece.Within line ∷ todo) h)
    stmt (src.Return line None) todo o h = go _ _ h
    stmt (src.Return line (Some e)) todo o h = go _ _ h
    stmt (src.OfEvents a) todo o h = event_step a todo o h
    stmt (src.OfTasks a) todo o h = task_step a todo h
    stmt a todo o h = go _ _ h

    -- the statements that are left of a block
    pub rests : (ss : Stmts) (todo : List Todo) → OpensStmts ss → Ends (piece.Rest ss ∷ todo) → LetsStep t few (quiet.rest_step ss todo s)
    rests src.Nil todo o h = go _ _ (lists.busy C todo h)
    rests (src.Then a ss) todo o h = go _ _ (lists.closed C ss todo o (lists.busy C todo h))
    rests (src.Scoped c ss) todo o h = go _ _ (lists.closed C ss (piece.Clean c ∷ todo) o (lists.busy C (piece.Clean c ∷ todo) h))
    rests (src.Built c ss) todo o h = go _ _ (lists.closed C ss (piece.Part c ∷ todo) o (lists.busy C todo h))

    -- cells start anew
    pub clears : (k m : ℕ) (todo : List Todo) → Holding todo → LetsStep t few (quiet.turns todo (in_env (piece.cleared k m s) s))
    clears k m todo h = go_in todo s.run.operands (piece.cleared k m s) (kept.owned_keeps t few (piece.this_frame s) (values_cleared k m nought) s.env st.env) h

    -- calls

    -- what is called is told of its object, or lets go of it
    abbrev Begins : Routine → Value → List Todo → List Value → Type 0
    Begins r this todo vs = Told t few s.env.exec (record s.run { control = todo; operands = vs } ∷ s.callers) this ⊎
        (is_letting (quiet.routine_todo r) ≡ true)

    begins_so : (r : Routine) (this : Value) (todo : List Todo) (vs : List Value) → Begins r this todo vs → RunsBy (Told t few s.env.exec (record s.run { control = todo; operands = vs } ∷ s.callers) this) (quiet.routine_todo r)
    begins_so r this todo vs (inl c) = (lists.routine_behind r, inl c)
    begins_so r this todo vs (inr m) = (lists.routine_behind r, inr (inl m))

    begun : (r : Routine) (this : Value) (counts : Bool) (todo : List Todo) (vs : List Value) → Begins r this todo vs → Holding todo → LetsStep t few (quiet.begun_step r this counts todo vs s)
    begun r this counts todo vs f h = record { stack = (begins_so r this todo vs f, (h, st.stack.1)); env = kept.like t few st.env refl refl refl }

    pub call : (r : Option Routine) (todo : List Todo) → Holding todo → LetsStep t few (quiet.call_step r todo s)
    call None todo h = (go _ _ h, tt)
    call (Some r) todo h = either (LetsStep t few) (nat_lt s.env.links.calls CALLS) _ _ (begun r Nothing true todo _ (inl tt) h) (go todo _ h, tt)

    abbrev pub Called : Option Routine → List Todo → Type 0
    Called r todo = (x : Routine) → r ≡ Some x →
        Begins x (top (drop x.params s.run.operands)) todo (below (drop x.params s.run.operands))

    pub call_on : (r : Option Routine) (todo : List Todo) → Called r todo → Holding todo → LetsStep t few (quiet.call_on_step r todo s)
    call_on None todo f h = (go _ _ h, tt)
    call_on (Some r) todo f h = either (LetsStep t few) (nat_lt s.env.links.calls CALLS) _ _ (begun r _ true todo _ (f r refl) h) (go todo _ h, tt)

    pub call_unwritten : (r : Option Routine) (todo : List Todo) → Called r todo → Holding todo → LetsStep t few (quiet.call_unwritten_step r todo s)
    call_unwritten None todo f h = (go _ _ h, tt)
    call_unwritten (Some r) todo f h = begun r _ false todo _ (f r refl) h

    -- coroutines

    pub set_up : (r : Option Routine) (todo : List Todo) → ((m : Members) → members_at (quiet.home_at s.run.this s.env) s.env ≡ Some m → Told t few (sw.new_exec (quiet.home_at s.run.this s.env) s.env) [] s.run.this) → Holding todo → LetsStep t few (quiet.set_up_step r todo s)
    set_up None todo f h = go _ _ h
    set_up (Some r) todo f h =
        let q = quiet.home_at s.run.this s.env in
        let x = quiet.fresh r s.run.this in
        let k : Keeps t few s.env (sw.born q x s.env) = kept.born_keeps t few q x s.env (λ m e. ((lists.routine_behind r, inl (f m e)), tt)) st.env in
        go_in _ _ _ (kept.keeps_both t few k (kept.written_keeps t few s.run.this _ (sw.born q x s.env) k.env)) h

    pub live : (r : Option Routine) (todo : List Todo) → Holding todo → LetsStep t few (quiet.live_step r todo s)
    live None todo h = (go _ _ h, tt)
    live (Some r) todo h = either (LetsStep t few) (sw.is_live (piece.exec_at (top (drop r.params s.run.operands)) s.env) s.env) _ _ (go todo _ h) (go todo _ h, tt)

    pub land : (w : Option UnwindReason) (todo : List Todo) → Holding todo → LetsStep t few (quiet.land_step w todo s)
    land None todo h = go _ _ h
    land (Some why) todo h = go _ _ h

    -- mutex objects

    pub unless : (q : ℕ) (step : Step) (todo : List Todo) → Ends todo → LetsStep t few step → LetsStep t few (monitors.unless_held_up q step todo s)
    unless q step todo h k = either (LetsStep t few) (inside.is_held_up q s.env) _ step (go_on todo _ h, tt) k

    enter_at : (d : Option ℕ) (q m : ℕ) (todo : List Todo) → Holding todo → LetsStep t few (monitors.enter_at d q m todo s)
    enter_at (Some d) q m todo h = go_in _ _ _ (same refl refl refl refl) h
    enter_at None q m todo h = (go_in _ _ _ (same refl refl refl refl) h, tt)

    pub enter : (m : ℕ) (r : Option Routine) (todo : List Todo) → Holding todo → LetsStep t few (monitors.enter_step m r todo s)
    enter m None todo h = (go _ _ h, tt)
    enter m (Some r) todo h =
        let q = piece.object_in (top (drop r.params s.run.operands)) in
        either (LetsStep t few) (monitors.may_call r.written s) _ _ (enter_at (find q s.env.depths) q m todo h) (go todo _ h, tt)

    pub leave : (b : Bool) (q : ℕ) (todo : List Todo) → Holding todo → LetsStep t few (monitors.leave_at b q todo s)
    leave false q todo h = go_in _ _ _ (same refl refl refl refl) h
    leave true q todo h =
        unless q _ todo (lists.runs C todo h) (record { stack = (lists.runs C (monitors.leave_todo s.run.raised todo) (lists.polled C s.run.raised todo h), st.stack.1); env = kept.like t few st.env refl refl refl }, tt)

    pub make : (c n : ℕ) (r : Option Routine) (todo : List Todo) → Holding todo → LetsStep t few (monitors.make_step c n r todo s)
    make c n None todo h = (go _ _ h, tt)
    make c n (Some r) todo h =
        either (LetsStep t few) (monitors.may_call r.written s) _ _ (go_in _ _ _ (same refl refl refl refl) h, tt) (go todo _ h, tt)

    pub bind : (r : Option Routine) (todo : List Todo) → Holding todo → LetsStep t few (monitors.bind_step r todo s)
    bind None todo h = (go _ _ h, tt)
    bind (Some r) todo h = go_in _ _ _ (kept.written_keeps t few _ _ s.env st.env) h

    pub condition : (n : ℕ) (i : Option ℕ) (todo : List Todo) → Holding todo → LetsStep t few (monitors.condition_step n i todo s)
    condition n None todo h = (go todo _ h, tt)
    condition n (Some i) todo h = go todo _ h

    pub accept_by : (mask q site : ℕ) (todo : List Todo) (vs : List Value) → Holding todo → LetsStep t few (monitors.accept_by mask q site todo vs s)
    accept_by zero q site todo vs h = go _ _ h
    accept_by (suc mask) q site todo vs h = unless q _ todo (lists.runs C todo h) (go _ _ h, tt)

    pub failed : (b : Bool) (todo : List Todo) (vs : List Value) → Holding todo → LetsStep t few (monitors.failed_step b todo vs s)
    failed true todo vs h = go _ _ h
    failed false todo vs h = go _ _ h

    -- events

    pend : (n : Exec) (e : Event) (todo : List Todo) (vs : List Value) → Holding todo → LetsStep t few (polls.pend_step n e todo vs s)
    pend n e todo vs h =
        either (LetsStep t few) (nat_lt (length (inside.pending_at n s.env)) PENDING_EVENTS) _ _ (go_in _ _ _ (kept.links_keeps t few (λ l. record l { pending = l.pending ++ (record { event = e.number; x = e.x; y = e.y }) ∷ [] }) (λ l n a older h. h) n s.env st.env) h) (go todo vs h, tt)

    pend_at : (x : Option Exec) (e : Event) (todo : List Todo) (vs : List Value) → Holding todo → LetsStep t few (polls.pend_at x e todo vs s)
    pend_at None e todo vs h = (go todo vs h, tt)
    pend_at (Some n) e todo vs h = either (LetsStep t few) (sw.is_live (Some n) s.env) _ _ (pend n e todo vs h) (go todo vs h, tt)

    pub raise_at : (v : Value) (e : Event) (todo : List Todo) (vs : List Value) → Holding todo → LetsStep t few (polls.raise_at_step v e todo vs s)
    raise_at (Object q) e todo vs h = (go todo vs h, tt)
    raise_at v e todo vs h = pend_at (piece.exec_at v s.env) e todo vs h

    pub enables : (events cell : ℕ) (todo : List Todo) → Holding todo → LetsStep t few (polls.enable_step events cell todo s)
    enables events cell todo h =
        let k : Keeps t few s.env (written (piece.variable_at cell s) (Number (signed_64 s.env.links.enabled)) s.env) = kept.written_keeps t few (piece.variable_at cell s) (Number (signed_64 s.env.links.enabled)) s.env st.env in
        go_in _ _ _ (kept.keeps_both t few k (kept.keeps_like t few k.env refl refl refl refl)) h

    quiet_poll : (x : Option Pending) (todo : List Todo) → Holding todo → LetsStep t few (polls.quiet_poll x todo s)
    quiet_poll None todo h = go _ _ h
    quiet_poll (Some p) todo h = go_in _ _ _ (same refl refl refl refl) h

    poll_by : (b : Bool) (todo : List Todo) → Holding todo → LetsStep t few (polls.poll_by b todo s)
    poll_by true todo h = (go _ _ h, tt)
    poll_by false todo h = quiet_poll (inside.oldest_enabled s.env.links) todo h

    pub poll : (todo : List Todo) → Holding todo → LetsStep t few (polls.poll_step todo s)
    poll todo h = either (LetsStep t few) (nat_eq s.env.links.enabled 0) _ _ (go todo _ h) (poll_by (inside.is_own s.env) todo h)

    pub deliver : (v : Value) (todo : List Todo) → Holding todo → LetsStep t few (polls.deliver_step v todo s)
    deliver Nothing todo h = go _ _ h
    deliver v todo h = go _ _ h

    -- the running activation is told anew
    told : (b : Active) → b.this ≡ s.run.this → Ends b.control → LetsState t few (record s { run = b })
    told b e h = record { stack = (subst (λ v. RunsBy (Told t few s.env.exec s.callers v) b.control) (sym e) h, st.stack.1); env = st.env }

    pub throws : (e : Event) (todo : List Todo) → Holding todo → LetsStep t few (raising.throw_step e todo s)
    throws e todo h = told _ refl (lists.runs C todo h)

    -- the handler of a resumption begins, for the object of an activation that is there
    handles : (o : Option Found) (e : Event) (todo : List Todo) → OfFound t few s.env.exec (record s.run { control = todo } ∷ s.callers) o → FoundClosed o → Holding todo → LetsStep t few (raising.handle_step o e todo s)
    handles None e todo f k h = throws e todo h
    handles (Some x) e todo f k h =
        let a = record s.run { control = todo } in
        let b = record s.run { control = piece.DropNow ∷ todo; operands = below (below (below s.run.operands)) } in
        let c : Told t few s.env.exec (b ∷ s.callers) x.this = more t few s.env.exec x.this (a ∷ s.callers) (b ∷ s.callers) (λ w d k. k) (λ q. omega (arith)) f in
        record {
          stack = (lists.runs (Told t few s.env.exec (b ∷ s.callers) x.this) (raising.handler_todo x.handler []) (lists.handled (Told t few s.env.exec (b ∷ s.callers) x.this) x.handler [] k (tt, inl c)), (h, st.stack.1));
          env = kept.like t few st.env refl refl refl;
        }

    pub raises : (e : Event) (todo : List Todo) → FoundClosed (raising.seek None e (record s.run { control = todo } ∷ s.callers)) → Holding todo → LetsStep t few (raising.raise_step e todo s)
    raises e todo k h =
        handles (raising.seek None e (record s.run { control = todo } ∷ s.callers)) e todo (seek t few s.env.exec None e (record s.run { control = todo } ∷ s.callers) (h, st.stack.1)) k h

    -- unwinding

    catches : (x : Option Handler) (e : Event) (todo : List Todo) → lists.OfHandler x → Holding todo → LetsStep t few (raising.catch_step x e todo s)
    catches None e todo k h = go _ _ h
    catches (Some x) e todo k h = told _ refl (lists.runs C (raising.handler_todo x todo) (lists.handled C x todo k h))

    guarded : (hs : Handlers) (w : Option UnwindReason) (todo : List Todo) → AllClosed hs → Holding todo → LetsStep t few (raising.guard_left hs w todo s)
    guarded hs (Some (reason.Event n y z)) todo k h = catches (raising.handler_for false (record { number = n; x = y; y = z }) hs) (record { number = n; x = y; y = z }) todo (lists.handler_for false (record { number = n; x = y; y = z }) hs k) h
    guarded hs w todo k h = go _ _ h

    whole : (b : Bool) (todo : List Todo) → Holding todo → LetsStep t few (raising.whole_left b todo s)
    whole true todo h = told _ refl (lists.runs C todo h)
    whole false todo h = go _ _ h

    scope : (c : CleanUp) (b : Bool) (todo : List Todo) → Ends (piece.Clean c ∷ todo) → LetsStep t few (raising.scope_left c b todo s)
    scope src.Leaves true todo h = told _ refl h
    scope c b todo h = go_on (raising.left_todo c (piece.Unwind ∷ todo)) [] (lists.left_cleans C c todo h)

    main_left : (w : Option UnwindReason) (todo : List Todo) → Ends todo → LetsStep t few (raising.main_left w todo s)
    main_left (Some (reason.ReturnTo n)) todo h = told _ refl h
    main_left w todo h = (go_on todo [] h, tt)

    coroutine_left : (w : Option UnwindReason) (todo : List Todo) → Ends todo → LetsStep t few (raising.coroutine_left w todo s)
    coroutine_left (Some (reason.ReturnTo n)) todo h = told _ refl h
    coroutine_left (Some reason.Destroyed) todo h = moved _ todo _ h (kept.taken_down_rests t few (at todo [] s) (go_on todo [] h))
    coroutine_left w todo h = moved _ todo _ h (kept.escape_rests t few (at todo [] s) (go_on todo [] h))

    unwind_past : (k : Sort) (todo : List Todo) → lists.Unwound k → lists.OfSort C k todo → LetsStep t few (raising.unwind_past k todo s)
    unwind_past piece.Simple todo u h = go_on _ _ h
    unwind_past (piece.IsLoop order c e b) todo u h = go _ _ h
    unwind_past piece.IsWhole todo u h = whole _ todo h
    unwind_past (piece.IsClean x) todo u h = scope x _ todo h
    unwind_past (piece.IsFill m b d) todo u h = go _ _ h
    unwind_past (piece.IsSweep e) todo u h = go _ _ h
    unwind_past (piece.IsPart x) todo u h = go _ _ (lists.part_cleans C x (piece.Unwind ∷ todo) u h)
    unwind_past (piece.IsGuard hs) todo u h = guarded hs s.run.raised todo u h
    unwind_past piece.IsFinish todo u h = main_left s.run.raised todo h
    unwind_past piece.IsFinishCoroutine todo u h = coroutine_left s.run.raised todo h

    pub unwinds : (todo : List Todo) → LeavesAt todo → Ends todo → LetsStep t few (raising.unwind_step todo s)
    unwinds [] u h = leaves s.callers st.stack.1
    unwinds (p ∷ ps) u h = unwind_past (piece.sort p) ps (lists.unwound p ps u) (lists.sorted C p ps h)

    pub exits : (w : Way) (todo : List Todo) → Ends todo → LetsStep t few (quiet.exit_step w todo s)
    exits w [] h = end_step w
    exits w (p ∷ ps) h = go_on _ _ (lists.left_behind C w (piece.sort p) ps (lists.sorted C p ps h))

    -- printing

    pub prints : (x : Option (List Piece)) (p : Piece) (todo : List Todo) (vs : List Value) → Holding todo → LetsStep t few (piece.print_step x p todo vs s)
    prints None p todo vs h = (go _ _ h, tt)
    prints (Some ps) p todo vs h = go_in _ _ _ (same refl refl refl refl) h

    pub flushes : (x : Option (List Piece)) (todo : List Todo) (vs : List Value) → Holding todo → LetsStep t few (piece.flush_step x todo vs s)
    flushes None todo vs h = go _ _ h
    flushes (Some []) todo vs h = go_in _ _ _ (same refl refl refl refl) h
    flushes (Some (p ∷ ps)) todo vs h = (go_in _ _ _ (same refl refl refl refl) h, tt)

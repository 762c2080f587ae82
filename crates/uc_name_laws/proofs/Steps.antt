-- The cases of a quiet step: what it leads to has names of executions that were made.
use Rattle.std.proofs.Common.{◌≡◌, ℕ, zero, suc, ◌-◌, ◌||◌, ◌++◌, Bool, true, false, List, [], ◌∷◌, length, drop, Option, Some, None, refl, sym, subst}
use Rattle.std.specs.Prelude.{nat_eq, nat_lt, if◌then◌else◌}
use Rattle.uc_tree.specs.declared.limits.TheConstants.{CALLS, PENDING_EVENTS}
use Rattle.uc_tree.specs.Source as src
use Rattle.uc_tree.specs.Source.{Shape, Expr, ObjectExpr, Stmt, Stmts, EventStmt, TaskStmt, Routine, Way, CleanUp, Handlers}
use Rattle.uc_entry.specs.declared.fault.RunFault.{RunFault}
use Rattle.uc_entry.specs.declared.fault.RunFault.TheVariants.{Index, Depth, BlockedInside, TooManyPending, NotLive, Unhandled}
use Rattle.uc_entry.specs.declared.request.Piece.{Piece}
use Rattle.uc_entry.specs.declared.request.Request.{Request}
use Rattle.uc_entry.specs.declared.request.Request.TheVariants as ask
use Rattle.uc_entry.specs.Keyed.{find, signed_64}
use Rattle.uc_machine.specs.declared.exec.Exec.{Exec}
use Rattle.uc_machine.specs.declared.exec.Home.{Home}
use Rattle.uc_machine.specs.declared.exec.Home.TheVariants as home
use Rattle.uc_machine.specs.declared.exec.Pending.{Pending}
use Rattle.uc_machine.specs.declared.exec.UnwindReason.{UnwindReason}
use Rattle.uc_machine.specs.declared.exec.UnwindReason.TheVariants as reason
use Rattle.uc_machine.specs.declared.exec.Visited.{Visited}
use Rattle.uc_machine.specs.Executions as exec
use Rattle.uc_machine.specs.Executions.{Links, home_eq, one_call_more, one_call_less}
use Rattle.uc_machine.specs.Switches as sw
use Rattle.uc_machine.specs.Switches.{Moved, To, Stops}
use Rattle.uc_machine.specs.Insides as inside
use Rattle.uc_machine.specs.Raising as raising
use Rattle.uc_machine.specs.Raising.{Event, Handler, Found, Hit}
use Rattle.uc_machine.specs.Monitors as monitors
use Rattle.uc_machine.specs.Polls as polls
use Rattle.uc_machine.specs.Quiet as quiet
use Rattle.uc_machine.specs.Pieces as piece
use Rattle.uc_machine.specs.Pieces.{Value, Number, Place, Running, Object, Nothing, Todo, Sort, Active, State, Env, Members, Step, Goes, Ticks, Asks, Outcome, Gives, Faults, at, in_env, goes, fault, asks, turns, top, below, number, written}
use Rattle.uc_name_laws.specs.Below.{IsNamed, AreNamed, FramesNamed, LinksNamed, ActiveNamed, AllNamed}
use Rattle.uc_name_laws.specs.NameSteps.{Named, Outside, StepNamed}
use Rattle.uc_name_laws.proofs.Homes.{either}
use Rattle.uc_name_laws.proofs.Values.{named_top, named_below, named_drop, named_noughts, named_set, named_taken, named_further, frames_others}
use Rattle.uc_name_laws.proofs.Keeping.{loaded_named, same_names}
use Rattle.uc_name_laws.proofs.Switching.{MovedNamed, escape_named, taken_down_named}
use Rattle.uc_name_laws.proofs.Goods.{Good, good, good_links, good_frames, good_written, good_with_links}

module _ (serials : Home → ℕ) where
  less_named : (counts : Bool) (l : Links) → LinksNamed serials l → LinksNamed serials (one_call_less counts l)
  less_named true l h = record { starter_below = h.starter_below; resumer_below = h.resumer_below; destroyer_below = h.destroyer_below }
  less_named false l h = h

  more_named : (counts : Bool) (l : Links) → LinksNamed serials l → LinksNamed serials (one_call_more counts l)
  more_named true l h = record { starter_below = h.starter_below; resumer_below = h.resumer_below; destroyer_below = h.destroyer_below }
  more_named false l h = h

  -- the search for a handler finds an activation that is there
  abbrev pub FoundNamed : Option Found → Type 0
  FoundNamed None = Unit {0}
  FoundNamed (Some f) = IsNamed serials f.this

  or_found : (o : Option Hit) (a : Active) (older : List Active) (other : Option Found) → ActiveNamed serials a → FoundNamed other → FoundNamed (raising.found_or o a older other)
  or_found None a older other i h = h
  or_found (Some x) a older other i h = i.this_named

  pub seek_named : (v : Option Visited) (e : Event) (active : List Active) → AllNamed serials active → FoundNamed (raising.seek v e active)
  seek_named v e [] h = tt
  seek_named None e (a ∷ older) h = or_found (raising.hit_in e a.control) a older _ h.0 (seek_named a.handles e older h.1)
  seek_named (Some v) e (a ∷ older) h =
      either FoundNamed (nat_eq (length older) v.level) _ _ (or_found (raising.hit_in e (raising.within v.rest a.control)) a older _ h.0 (seek_named a.handles e older h.1)) (seek_named (Some v) e older h.1)

module _ (here : Home → Bool) (sure : Bool) (serials : Home → ℕ) where
  -- a task by its parts
  pub task : (t : State) → ActiveNamed serials t.run → AllNamed serials t.callers → Good here sure serials t.env → Named here sure serials t
  task t a c g = record { names = record { run_named = a; callers_named = c; env_named = g.env_named }; runs = g.runs }

  module _ (s : State) (h : Named here sure serials s) where
    pub ops : AreNamed serials s.run.operands
    ops = h.names.run_named.operands_named

    pub this : IsNamed serials s.run.this
    this = h.names.run_named.this_named

    result : IsNamed serials s.run.result
    result = h.names.run_named.result_named

    callers : AllNamed serials s.callers
    callers = h.names.callers_named

    links : LinksNamed serials s.env.links
    links = h.names.env_named.links_named

    frames : FramesNamed serials s.env.frames
    frames = h.names.env_named.frames_named

    pub env : Good here sure serials s.env
    env = good here sure serials s h

    loaded : (v : Value) → IsNamed serials (piece.loaded v s.env)
    loaded v = loaded_named serials here v s.env h.names.env_named

    pub variable : (k : ℕ) → IsNamed serials (piece.variable_at k s)
    variable k = h.names.env_named.exec_below

    -- the running activation with other operands
    run_of : (vs : List Value) → AreNamed serials vs → (a : Active) → a.operands ≡ vs → a.this ≡ s.run.this → a.result ≡ s.run.result → ActiveNamed serials a
    run_of vs v a o t r = record {
      operands_named = subst (AreNamed serials) (sym o) v;
      this_named = subst (IsNamed serials) (sym t) this;
      result_named = subst (IsNamed serials) (sym r) result;
    }

    -- with other operands and something else to do
    pub go : (todo : List Todo) (vs : List Value) → AreNamed serials vs → Named here sure serials (at todo vs s)
    go todo vs v = task _ (run_of vs v _ refl refl refl) callers env

    -- and with something written
    pub go_in : (todo : List Todo) (vs : List Value) (e : Env) → AreNamed serials vs → Good here sure serials e → Named here sure serials (at todo vs (in_env e s))
    go_in todo vs e v g = task _ (run_of vs v _ refl refl refl) callers g

    pub turn : (todo : List Todo) → StepNamed here sure serials (turns todo s)
    turn todo = go todo _ ops

    pub stop : (f : RunFault) (todo : List Todo) (vs : List Value) → AreNamed serials vs → StepNamed here sure serials (fault f todo vs s)
    stop f todo vs v = (go todo vs v, tt)

    -- links that name the same
    pub with_links : (l : Links) → l.starter ≡ s.env.links.starter → l.resumer ≡ s.env.links.resumer → l.destroyer ≡ s.env.links.destroyer → LinksNamed serials l
    with_links l a b c = same_names serials here s.env.links l a b c links

    pub moved : (m : Moved (List Todo) Value) (todo : List Todo) (vs : List Value) → AreNamed serials vs → MovedNamed here sure serials m → StepNamed here sure serials (piece.moves m (at todo vs s))
    moved (To t) todo vs v m = m
    moved (Stops f) todo vs v m = (go todo vs v, tt)

    pub write : (p v : Value) → IsNamed serials v → Good here sure serials (written p v s.env)
    write p v i = good_written here sure serials p v s.env i env

    pub outcome : (o : Outcome) (todo : List Todo) (vs : List Value) → AreNamed serials vs → StepNamed here sure serials (piece.outcome_step o todo vs s)
    outcome (Gives n) todo vs v = go todo _ (tt, v)
    outcome (Faults f) todo vs v = stop f todo vs v

    pub element : (k : Shape) (i : Option ℕ) (todo : List Todo) (v : Value) (vs : List Value) → IsNamed serials v → AreNamed serials vs → StepNamed here sure serials (piece.element_step k i todo v vs s)
    element k None todo v vs i h = stop Index todo vs h
    element k (Some n) todo v vs i h = go todo _ (named_further serials (piece.At k n) v i, h)

    -- expressions

    pub object : (o : ObjectExpr) (todo : List Todo) → StepNamed here sure serials (quiet.object_step o todo s)
    object src.This todo = go _ _ (this, ops)
    object (src.OwnField k i) todo = go _ _ (named_further serials (piece.FieldAt k i) s.run.this this, ops)
    object (src.GetOwn k i) todo = go _ _ (loaded _, ops)
    object src.Counted todo = go _ _ (tt, ops)
    object (src.EndOn r false a) todo = turn _
    object (src.EndOn r true a) todo = turn _
    object (src.MakeOn c r false a args) todo = turn _
    object (src.MakeOn c r true a args) todo = turn _
    object o todo = turn _

    pub eval : (a : Expr) (todo : List Todo) → StepNamed here sure serials (quiet.eval_step a todo s)
    eval (src.Literal n) todo = go _ _ (tt, ops)
    eval (src.Variable k) todo = go _ _ (variable k, ops)
    eval src.Fail todo = (go _ _ ops, tt)
    eval (src.Get k) todo = go _ _ (loaded (piece.variable_at k s), ops)
    eval (src.OfObject o) todo = object o todo
    eval a todo = turn _

    -- the end of an activation

    pub returned : (given : Value) (cs : List Active) → IsNamed serials given → AllNamed serials cs → StepNamed here sure serials (piece.return_step given cs s)
    returned given [] i c = (h, tt)
    returned given (a ∷ cs) i c =
        task _ (record { operands_named = (i, c.0.operands_named); this_named = c.0.this_named; result_named = c.0.result_named }) c.1 (good_frames here sure serials env (frames_others serials s.env.frames frames) (less_named serials s.run.counts s.env.links links) refl refl refl refl)

    -- the activation that waits goes on, to be unwound
    left_for : (given : Value) (c : Active) (cs : List Active) (a : Active) → a.operands ≡ [] → a.this ≡ c.this → a.result ≡ given → IsNamed serials given → ActiveNamed serials c → AllNamed serials cs → Named here sure serials (exec.left_for s.run.counts a cs s.env)
    left_for given c cs a o t r i x y =
        task _ (record { operands_named = subst (AreNamed serials) (sym o) tt; this_named = subst (IsNamed serials) (sym t) x.this_named; result_named = subst (IsNamed serials) (sym r) i }) y (good_frames here sure serials env (frames_others serials s.env.frames frames) (less_named serials s.run.counts s.env.links links) refl refl refl refl)

    past : (v : Visited) (given : Value) (cs : List Active) → IsNamed serials given → AllNamed serials cs → StepNamed here sure serials (raising.return_past v given cs s)
    past v given [] i c = (h, tt)
    past v given (a ∷ cs) i c = left_for given a cs _ refl refl refl i c.0 c.1

    end_by : (v : Option Visited) (given : Value) → IsNamed serials given → StepNamed here sure serials (raising.end_by v given s)
    end_by None given i = returned given s.callers i callers
    end_by (Some v) given i = past v given s.callers i callers

    end_step : (w : Way) → StepNamed here sure serials (quiet.end_step w s)
    end_step src.ToReturn = end_by s.run.handles _ (named_top serials s.run.operands ops)
    end_step src.ToEnd = end_by s.run.handles _ tt
    end_step src.ToBreak = returned _ s.callers tt callers
    end_step src.ToContinue = returned _ s.callers tt callers

    pub exits : (w : Way) (todo : List Todo) → StepNamed here sure serials (quiet.exit_step w todo s)
    exits w [] = end_step w
    exits w (p ∷ ps) = turn _

    -- statements

    pub swept : (n : ℕ) (e : Expr) (todo : List Todo) → StepNamed here sure serials (quiet.sweep_step n e todo s)
    swept zero e todo = turn _
    swept (suc n) e todo = task _ (run_of s.run.operands ops _ refl refl refl) callers env

    event_step : (a : EventStmt) (todo : List Todo) → StepNamed here sure serials (quiet.event_step a todo s)
    event_step (src.Throw line r) todo = turn _
    event_step a todo = turn _

    task_step : (a : TaskStmt) (todo : List Todo) → StepNamed here sure serials (quiet.task_step a todo s)
    task_step (src.Resume line) todo = turn _
    task_step a todo = turn _

    pub stmt : (a : Stmt) (todo : List Todo) → StepNamed here sure serials (quiet.stmt_step a todo s)
    stmt (src.Return line None) todo = turn _
    stmt (src.Return line (Some e)) todo = turn _
    stmt (src.OfEvents a) todo = event_step a todo
    stmt (src.OfTasks a) todo = task_step a todo
    stmt a todo = turn _

    pub rest : (ss : Stmts) (todo : List Todo) → StepNamed here sure serials (quiet.rest_step ss todo s)
    rest src.Nil todo = turn _
    rest ss todo = turn _

    -- calls

    begun : (r : Routine) (v : Value) (counts : Bool) (todo : List Todo) (vs : List Value) → IsNamed serials v → AreNamed serials vs → StepNamed here sure serials (quiet.begun_step r v counts todo vs s)
    begun r v counts todo vs i k =
        task _ (record { operands_named = tt; this_named = i; result_named = tt }) (run_of vs k _ refl refl refl, callers) (good_frames here sure serials env (named_taken serials r.params s.run.operands _ ops (named_noughts serials (r.cells - r.params)), frames) (more_named serials counts s.env.links links) refl refl refl refl)

    ends : (todo : List Todo) (vs : List Value) → AreNamed serials vs → StepNamed here sure serials (Asks ask.End (at todo vs s))
    ends todo vs v = (go todo vs v, tt)

    pub call : (r : Option Routine) (todo : List Todo) → StepNamed here sure serials (quiet.call_step r todo s)
    call None todo = ends _ _ ops
    call (Some r) todo = either (StepNamed here sure serials) (nat_lt s.env.links.calls CALLS) _ _ (begun r Nothing true todo _ tt (named_drop serials r.params s.run.operands ops)) (stop Depth todo _ ops)

    object_below : (n : ℕ) → IsNamed serials (top (drop n s.run.operands))
    object_below n = named_top serials (drop n s.run.operands) (named_drop serials n s.run.operands ops)

    left_below : (n : ℕ) → AreNamed serials (below (drop n s.run.operands))
    left_below n = named_below serials (drop n s.run.operands) (named_drop serials n s.run.operands ops)

    pub call_on : (r : Option Routine) (todo : List Todo) → StepNamed here sure serials (quiet.call_on_step r todo s)
    call_on None todo = ends _ _ ops
    call_on (Some r) todo = either (StepNamed here sure serials) (nat_lt s.env.links.calls CALLS) _ _ (begun r _ true todo _ (object_below r.params) (left_below r.params)) (stop Depth todo _ ops)

    pub call_unwritten : (r : Option Routine) (todo : List Todo) → StepNamed here sure serials (quiet.call_unwritten_step r todo s)
    call_unwritten None todo = ends _ _ ops
    call_unwritten (Some r) todo = begun r _ false todo _ (object_below r.params) (left_below r.params)

    pub live : (r : Option Routine) (todo : List Todo) → StepNamed here sure serials (quiet.live_step r todo s)
    live None todo = ends _ _ ops
    live (Some r) todo = either (StepNamed here sure serials) (sw.is_live (piece.exec_at (top (drop r.params s.run.operands)) s.env) s.env) _ _ (turn _) (stop NotLive todo _ ops)

    pub land : (o : Option UnwindReason) (todo : List Todo) → StepNamed here sure serials (quiet.land_step o todo s)
    land None todo = turn _
    land (Some why) todo = go _ _ tt

    -- mutex objects

    pub unless : (o : ℕ) (step : Step) (todo : List Todo) → (home_eq s.env.exec.home (home.Object o) ≡ false → StepNamed here sure serials step) → StepNamed here sure serials (monitors.unless_held_up o step todo s)
    unless o step todo k = by (inside.is_held_up o s.env) refl
      where
        first : (a b : Bool) → (a || b) ≡ false → a ≡ false
        first true b f = cc
        first false b f = refl

        by : (b : Bool) → inside.is_held_up o s.env ≡ b → StepNamed here sure serials (if b then fault BlockedInside todo s.run.operands s else step)
        by true f = stop BlockedInside todo _ ops
        by false f = k (first (home_eq s.env.exec.home (home.Object o)) _ f)

    entries : {e : Env} → e.frames ≡ s.env.frames → LinksNamed serials e.links → e.exec ≡ s.env.exec → e.own ≡ s.env.own → e.house ≡ s.env.house → e.hand ≡ s.env.hand → Good here sure serials e
    entries f l x a b c = good_links here sure serials env f l x a b c

    enter_at : (d : Option ℕ) (o m : ℕ) (todo : List Todo) → StepNamed here sure serials (monitors.enter_at d o m todo s)
    enter_at (Some d) o m todo = go_in _ _ _ ops (entries refl (with_links _ refl refl refl) refl refl refl refl)
    enter_at None o m todo = (go_in _ _ _ ops (entries refl (with_links _ refl refl refl) refl refl refl refl), tt)

    pub enter : (m : ℕ) (r : Option Routine) (todo : List Todo) → StepNamed here sure serials (monitors.enter_step m r todo s)
    enter m None todo = ends _ _ ops
    enter m (Some r) todo =
        let o = piece.object_in (top (drop r.params s.run.operands)) in
        either (StepNamed here sure serials) (monitors.may_call r.written s) _ _ (enter_at (find o s.env.depths) o m todo) (stop Depth todo _ ops)

    pub leave : (b : Bool) (o : ℕ) (todo : List Todo) → StepNamed here sure serials (monitors.leave_at b o todo s)
    leave false o todo = go_in _ _ _ ops (entries refl (with_links _ refl refl refl) refl refl refl refl)
    leave true o todo =
        unless o _ todo (λ f. (task _ (run_of s.run.operands ops _ refl refl refl) callers (entries refl (less_named serials s.run.counts _ (with_links _ refl refl refl)) refl refl refl refl), f))

    pub make : (c k : ℕ) (r : Option Routine) (todo : List Todo) → StepNamed here sure serials (monitors.make_step c k r todo s)
    make c k None todo = ends _ _ ops
    make c k (Some r) todo =
        either (StepNamed here sure serials) (monitors.may_call r.written s) _ _ (go_in _ _ _ ops (entries refl (with_links _ refl refl refl) refl refl refl refl), tt) (stop Depth todo _ ops)

    pub bind : (r : Option Routine) (todo : List Todo) → StepNamed here sure serials (monitors.bind_step r todo s)
    bind None todo = ends _ _ ops
    bind (Some r) todo =
        go_in _ _ _ (named_set serials (below s.run.operands) r.params _ (named_below serials s.run.operands ops) (named_top serials s.run.operands ops)) (write _ _ (named_top serials s.run.operands ops))

    pub built : (o : ℕ) (r : Request) (todo : List Todo) → (home_eq s.env.exec.home (home.Object o) ≡ false → Outside r (inside.build_ended o s.env)) → StepNamed here sure serials (monitors.built_step o r todo s)
    built o r todo k = unless o _ todo (λ f. (go_in _ _ _ ops (entries refl (with_links _ refl refl refl) refl refl refl refl), k f))

    pub gone : (o : ℕ) (todo : List Todo) (e : Env) → Good here sure serials e → StepNamed here sure serials (monitors.gone_step o todo e s)
    gone o todo e g = (go_in _ _ _ ops g, tt)

    pub condition : (k : ℕ) (i : Option ℕ) (todo : List Todo) → StepNamed here sure serials (monitors.condition_step k i todo s)
    condition k None todo = stop Index todo _ (named_below serials s.run.operands ops)
    condition k (Some i) todo = go _ _ (tt, named_below serials s.run.operands ops)

    pub accept : (mask o site : ℕ) (todo : List Todo) (vs : List Value) → AreNamed serials vs → StepNamed here sure serials (monitors.accept_by mask o site todo vs s)
    accept zero o site todo vs v = go _ _ (tt, v)
    accept (suc mask) o site todo vs v = unless o _ todo (λ f. (go _ _ v, f))

    pub failed : (b : Bool) (todo : List Todo) (vs : List Value) → AreNamed serials vs → StepNamed here sure serials (monitors.failed_step b todo vs s)
    failed true todo vs v = go _ _ v
    failed false todo vs v = go _ _ (tt, (tt, (tt, v)))

    -- events

    pend : (n : Exec) (e : Event) (todo : List Todo) (vs : List Value) → AreNamed serials vs → StepNamed here sure serials (polls.pend_step n e todo vs s)
    pend n e todo vs v =
        either (StepNamed here sure serials) (nat_lt (length (inside.pending_at n s.env)) PENDING_EVENTS) _ _ (go_in _ _ _ v (good_with_links here sure serials (λ l. record l { pending = l.pending ++ (record { event = e.number; x = e.x; y = e.y }) ∷ [] }) n s.env (λ l k. record { starter_below = k.starter_below; resumer_below = k.resumer_below; destroyer_below = k.destroyer_below }) env)) (stop TooManyPending todo vs v)

    pend_at : (o : Option Exec) (e : Event) (todo : List Todo) (vs : List Value) → AreNamed serials vs → StepNamed here sure serials (polls.pend_at o e todo vs s)
    pend_at None e todo vs v = stop NotLive todo vs v
    pend_at (Some n) e todo vs v = either (StepNamed here sure serials) (sw.is_live (Some n) s.env) _ _ (pend n e todo vs v) (stop NotLive todo vs v)

    pub raise_at : (p : Value) (e : Event) (todo : List Todo) (vs : List Value) → AreNamed serials vs → StepNamed here sure serials (polls.raise_at_step p e todo vs s)
    raise_at (Object o) e todo vs v = (go _ _ v, tt)
    raise_at p e todo vs v = pend_at (piece.exec_at p s.env) e todo vs v

    pub enables : (events cell : ℕ) (todo : List Todo) → StepNamed here sure serials (polls.enable_step events cell todo s)
    enables events cell todo =
        let w = write (piece.variable_at cell s) (Number (signed_64 s.env.links.enabled)) tt in
        go_in _ _ _ ops (good_links here sure serials w refl (record { starter_below = w.env_named.links_named.starter_below; resumer_below = w.env_named.links_named.resumer_below; destroyer_below = w.env_named.links_named.destroyer_below }) refl refl refl refl)

    quiet_poll : (o : Option Pending) (todo : List Todo) → StepNamed here sure serials (polls.quiet_poll o todo s)
    quiet_poll None todo = turn _
    quiet_poll (Some p) todo = go_in _ _ _ (tt, (tt, (tt, ops))) (entries refl (with_links _ refl refl refl) refl refl refl refl)

    poll_by : (b : Bool) (todo : List Todo) → StepNamed here sure serials (polls.poll_by b todo s)
    poll_by true todo = (go _ _ ops, tt)
    poll_by false todo = quiet_poll (inside.oldest_enabled s.env.links) todo

    pub poll : (todo : List Todo) → StepNamed here sure serials (polls.poll_step todo s)
    poll todo = either (StepNamed here sure serials) (nat_eq s.env.links.enabled 0) _ _ (turn _) (poll_by (inside.is_own s.env) todo)

    pub deliver : (v : Value) (todo : List Todo) → StepNamed here sure serials (polls.deliver_step v todo s)
    deliver Nothing todo = go _ _ (named_drop serials 3 s.run.operands ops)
    deliver v todo = turn _

    pub throws : (e : Event) (todo : List Todo) → StepNamed here sure serials (raising.throw_step e todo s)
    throws e todo = task _ (run_of [] tt _ refl refl refl) callers env

    handles : (f : Option Found) (e : Event) (todo : List Todo) → FoundNamed serials f → StepNamed here sure serials (raising.handle_step f e todo s)
    handles None e todo i = throws e todo
    handles (Some f) e todo i =
        task _ (record { operands_named = (tt, (tt, (tt, tt))); this_named = i; result_named = tt }) (run_of _ (named_below serials _ (named_below serials _ (named_below serials s.run.operands ops))) _ refl refl refl, callers) (good_frames here sure serials env (tt, frames) links refl refl refl refl)

    pub raises : (e : Event) (todo : List Todo) → StepNamed here sure serials (raising.raise_step e todo s)
    raises e todo = handles _ e todo (seek_named serials None e (record s.run { control = todo } ∷ s.callers) (run_of s.run.operands ops _ refl refl refl, callers))

    -- unwinding

    catches : (o : Option Handler) (e : Event) (todo : List Todo) → StepNamed here sure serials (raising.catch_step o e todo s)
    catches None e todo = go _ _ tt
    catches (Some x) e todo = task _ (run_of _ (tt, (tt, (tt, tt))) _ refl refl refl) callers env

    guarded : (hs : Handlers) (o : Option UnwindReason) (todo : List Todo) → StepNamed here sure serials (raising.guard_left hs o todo s)
    guarded hs (Some (reason.Event n x y)) todo = catches _ _ todo
    guarded hs o todo = go _ _ tt

    whole : (b : Bool) (todo : List Todo) → StepNamed here sure serials (raising.whole_left b todo s)
    whole true todo = task _ (run_of [] tt _ refl refl refl) callers env
    whole false todo = go _ _ tt

    scope : (c : CleanUp) (b : Bool) (todo : List Todo) → StepNamed here sure serials (raising.scope_left c b todo s)
    scope src.Leaves true todo = task _ (run_of _ (result, tt) _ refl refl refl) callers env
    scope c b todo = go _ _ tt

    main_left : (o : Option UnwindReason) (todo : List Todo) → StepNamed here sure serials (raising.main_left o todo s)
    main_left (Some (reason.ReturnTo n)) todo = task _ (run_of [] tt _ refl refl refl) callers env
    main_left o todo = stop Unhandled todo [] tt

    coroutine_left : (o : Option UnwindReason) (todo : List Todo) → StepNamed here sure serials (raising.coroutine_left o todo s)
    coroutine_left (Some (reason.ReturnTo n)) todo = task _ (run_of [] tt _ refl refl refl) callers env
    coroutine_left (Some reason.Destroyed) todo = moved _ todo _ tt (taken_down_named here sure serials (at todo [] s) (go todo [] tt))
    coroutine_left o todo = moved _ todo _ tt (escape_named here sure serials (at todo [] s) (go todo [] tt))

    unwind_past : (k : Sort) (todo : List Todo) → StepNamed here sure serials (raising.unwind_past k todo s)
    unwind_past piece.IsWhole todo = whole _ todo
    unwind_past (piece.IsClean c) todo = scope c _ todo
    unwind_past (piece.IsGuard hs) todo = guarded hs s.run.raised todo
    unwind_past piece.IsFinish todo = main_left s.run.raised todo
    unwind_past piece.IsFinishCoroutine todo = coroutine_left s.run.raised todo
    unwind_past k todo = go _ _ tt

    pass_on : (o : Option UnwindReason) (c : Active) (cs : List Active) → ActiveNamed serials c → AllNamed serials cs → StepNamed here sure serials (raising.pass_on o c cs s)
    pass_on None c cs x y = (h, tt)
    pass_on (Some why) c cs x y = left_for s.run.result c cs _ refl refl refl result x y

    leave_for : (b : Bool) (c : Active) (cs : List Active) → ActiveNamed serials c → AllNamed serials cs → StepNamed here sure serials (raising.leave_for b c cs s)
    leave_for true c cs x y = (h, tt)
    leave_for false c cs x y = pass_on s.run.raised c cs x y

    leaves : (cs : List Active) → AllNamed serials cs → StepNamed here sure serials (raising.leave_step cs s)
    leaves [] y = (h, tt)
    leaves (c ∷ cs) y =
        either (StepNamed here sure serials) (raising.arrives s.run.raised (length (c ∷ cs))) _ _ (returned s.run.result (c ∷ cs) result y) (leave_for _ c cs y.0 y.1)

    pub unwinds : (todo : List Todo) → StepNamed here sure serials (raising.unwind_step todo s)
    unwinds [] = leaves s.callers callers
    unwinds (p ∷ ps) = unwind_past (piece.sort p) ps

    -- printing

    pub prints : (o : Option (List Piece)) (p : Piece) (todo : List Todo) (vs : List Value) → AreNamed serials vs → StepNamed here sure serials (piece.print_step o p todo vs s)
    prints None p todo vs v = (go todo vs v, tt)
    prints (Some ps) p todo vs v = go_in _ _ _ v (entries refl links refl refl refl refl)

    pub flushes : (o : Option (List Piece)) (todo : List Todo) (vs : List Value) → AreNamed serials vs → StepNamed here sure serials (piece.flush_step o todo vs s)
    flushes None todo vs v = go _ _ v
    flushes (Some []) todo vs v = go_in _ _ _ v (entries refl links refl refl refl refl)
    flushes (Some (p ∷ ps)) todo vs v = (go_in _ _ _ v (entries refl links refl refl refl refl), tt)

    -- the rest of a task

    pub counts : (n : ℕ) (todo : List Todo) → StepNamed here sure serials (turns todo (quiet.with_elements n s))
    counts n todo = task _ (run_of s.run.operands ops _ refl refl refl) callers env

    pub gathers : (o : Option (List Piece)) → Good here sure serials (record s.env { gathered = o })
    gathers o = entries refl links refl refl refl refl

    pub calls_gone : (o : ℕ) → Good here sure serials (inside.call_gone o s.env)
    calls_gone o = entries refl (with_links _ refl refl refl) refl refl refl refl

    pub builds_gone : (o : ℕ) → Good here sure serials (inside.build_ended o s.env)
    builds_gone o = entries refl (with_links _ refl refl refl) refl refl refl refl

    pub enabled : (events : ℕ) → Good here sure serials (inside.with_enabled events s.env)
    enabled events = entries refl (with_links _ refl refl refl) refl refl refl refl

-- A quiet step of a state in order leads to one, or asks what raises an event by a number that there may be.
use Rattle.std.proofs.Common.{◌≡◌, ℕ, zero, suc, ◌<◌, ◌⊎◌, inl, inr, ◌++◌, Bool, true, false, ◌&&◌, List, [], ◌∷◌, length, drop, Option, Some, None, refl, sym, ap, ◌∙◌, subst, arith}
use Rattle.std.specs.Prelude.{pos, nat_eq, nat_lt, slice_set}
use Rattle.uc_tree.specs.declared.limits.TheConstants.{CALLS, PENDING_EVENTS, EVENTS}
use Rattle.uc_tree.specs.Source as src
use Rattle.uc_tree.specs.Source.{Shape, Expr, ObjectExpr, Stmt, Stmts, EventStmt, TaskStmt, Routine, Purpose, Order, Way, CleanUp, Handlers, Clauses, Raised, Item, Source}
use Rattle.uc_entry.specs.declared.fault.RunFault.{RunFault}
use Rattle.uc_entry.specs.declared.fault.RunFault.TheVariants.{Index, Depth, BlockedInside, TooManyPending, NotLive, Unhandled}
use Rattle.uc_entry.specs.declared.request.Piece.{Piece}
use Rattle.uc_entry.specs.declared.request.Request.TheVariants as ask
use Rattle.uc_entry.specs.Keyed.{find, signed_64}
use Rattle.uc_machine.specs.declared.exec.Exec.{Exec}
use Rattle.uc_machine.specs.declared.exec.Pending.{Pending}
use Rattle.uc_machine.specs.declared.exec.UnwindReason.{UnwindReason}
use Rattle.uc_machine.specs.declared.exec.UnwindReason.TheVariants as reason
use Rattle.uc_machine.specs.declared.exec.Visited.{Visited}
use Rattle.uc_machine.specs.Switches as sw
use Rattle.uc_machine.specs.Switches.{Moved, To, Stops}
use Rattle.uc_machine.specs.Insides as inside
use Rattle.uc_machine.specs.Raising as raising
use Rattle.uc_machine.specs.Raising.{Handler, Found, Hit}
use Rattle.uc_machine.specs.Monitors as monitors
use Rattle.uc_machine.specs.Polls as polls
use Rattle.uc_machine.specs.Quiet as quiet
use Rattle.uc_machine.specs.Pieces as piece
use Rattle.uc_machine.specs.Pieces.{Value, Number, Place, Running, Object, Nothing, Todo, Sort, Active, State, Env, Members, Step, Goes, Ticks, Asks, Outcome, Gives, Faults, at, in_env, goes, fault, asks, turns, top, below, number, written}
use Rattle.uc_step_laws.proofs.Kept.{either}
use Rattle.uc_site_laws.specs.Resting.{AllWait, RestsEnv}
use Rattle.uc_site_laws.proofs.Kept as kept
use Rattle.uc_state_laws.specs.Counted.{params_at, params, count, CountedExpr, CountedObject, CountedMaybe, CountedItem, CountedClean, CountedRaised, CountedAt, CountedStmt, CountedStmts, CountedEvent, CountedTask, CountedHandlers, CountedClauses, CountedRoutine}
use Rattle.uc_state_laws.specs.Marked.{Mark, Any, Event, Holds, rest, rests, anys, IsEvent, Known, LeftBy, Ok, Left, Runs, Waits, MarkedState, MarkedStep}
use Rattle.uc_state_laws.proofs.Marks as marks
use Rattle.uc_state_laws.proofs.Marks.{holds_below, holds_drop, holds_anys, rests_anys, drop_set}

-- the number of an event stays one as a byte
small_event : (k : ℕ) → k < EVENTS → raising.as_event (pos k) < EVENTS
small_event k h = either (λ n. n < EVENTS) (nat_lt k 256) k 0 h (omega arith)

module _ (source : Source) where
  abbrev E : Env → Type 0
  E e = RestsEnv (Runs source) (Waits source) e

  abbrev W : List Active → Type 0
  W cs = AllWait (Runs source) (Waits source) cs

  pub calm : (a : Active) (w : Option UnwindReason) → Runs source a → Runs source (record a { raised = w })
  calm a w h = record { marks = h.marks; holds = h.holds; ok = h.ok }

  abbrev M : Moved (List Todo) Value → Type 0
  M m = kept.RestsMoved (Runs source) (Waits source) calm m

  pub likes : {e f : Env} → E e → f.hand ≡ e.hand → f.house ≡ e.house → E f
  likes h g i = kept.like (Runs source) (Waits source) calm h g i

  -- what is to do in a routine

  behind : (p : Purpose) (line : ℕ) → Ok source [] (quiet.behind_body p line)
  behind src.TaskMain line = (tt, (tt, tt))
  behind src.CoroutineMain line = (tt, (tt, tt))
  behind src.Procedure line = (tt, tt)
  behind src.Function line = (tt, (tt, tt))
  behind src.Builder line = tt

  pub routine : (r : Routine) → CountedStmts source r.body → Ok source [] (quiet.routine_todo r)
  routine r h = (h, behind r.purpose r.line)

  -- handlers

  abbrev OfHandler : Option Handler → Type 0
  OfHandler None = Unit {0}
  OfHandler (Some x) = CountedStmts source x.body

  abbrev OfHit : Option Hit → Type 0
  OfHit None = Unit {0}
  OfHit (Some x) = CountedStmts source x.handler.body

  abbrev OfFound : Option Found → Type 0
  OfFound None = Unit {0}
  OfFound (Some x) = CountedStmts source x.handler.body

  handler_for : (kind : Bool) (e : raising.Event) (hs : Handlers) → CountedHandlers source hs → OfHandler (raising.handler_for kind e hs)
  handler_for kind e src.NoHandlers h = tt
  handler_for kind e (src.MoreHandlers resumes event cell line body others) h =
      either OfHandler (raising.same_kind kind resumes && raising.takes event e) (Some (record { cell = cell; line = line; body = body })) (raising.handler_for kind e others) h.0 (handler_for kind e others h.1)

  hit_or : (x : Option Handler) (n : ℕ) (other : Option Hit) → OfHandler x → OfHit other → OfHit (raising.hit_or x n other)
  hit_or None n other h k = k
  hit_or (Some x) n other h k = h

  -- what is known of a mark that is left
  hit_by : (k : Sort) (n : ℕ) (e : raising.Event) (other : Option Hit) (l o : Type 0) → LeftBy source k l o → OfHit other → OfHit (raising.hit_by k n e other)
  hit_by (piece.IsGuard hs) n e other l o h k = hit_or (raising.handler_for true e hs) n other (handler_for true e hs h.0) k
  hit_by s n e other l o h k = k

  hit_in : (e : raising.Event) (todo : List Todo) → Left source todo → OfHit (raising.hit_in e todo)
  hit_in e [] h = tt
  hit_in e (p ∷ ps) h =
      hit_by (piece.sort p) (raising.count_round ps) e (raising.hit_in e ps) (Left source ps) (Ok source [] ps) h (hit_in e ps (marks.left_tail source p ps h))

  within : (n : ℕ) (todo : List Todo) → Left source todo → Left source (raising.within n todo)
  within n [] h = tt
  within n (p ∷ ps) h =
      either (Left source) (nat_eq (raising.count_round (p ∷ ps)) n) (p ∷ ps) (raising.within n ps) h (within n ps (marks.left_tail source p ps h))

  found_or : (x : Option Hit) (a : Active) (cs : List Active) (other : Option Found) → OfHit x → OfFound other → OfFound (raising.found_or x a cs other)
  found_or None a cs other h k = k
  found_or (Some x) a cs other h k = h

  seek : (v : Option Visited) (e : raising.Event) (cs : List Active) → marks.AllLeft source cs → OfFound (raising.seek v e cs)
  seek None e [] h = tt
  seek (Some v) e [] h = tt
  seek None e (a ∷ cs) h = found_or (raising.hit_in e a.control) a cs (raising.seek a.handles e cs) (hit_in e a.control h.0) (seek a.handles e cs h.1)
  seek (Some v) e (a ∷ cs) h =
      either OfFound (nat_eq (length cs) v.level) (raising.found_or (raising.hit_in e (raising.within v.rest a.control)) a cs (raising.seek a.handles e cs)) (raising.seek (Some v) e cs) (found_or (raising.hit_in e (raising.within v.rest a.control)) a cs (raising.seek a.handles e cs) (hit_in e (raising.within v.rest a.control) (within v.rest a.control h.0)) (seek a.handles e cs h.1)) (seek (Some v) e cs h.1)

  -- to-do lists

  pub starts : (cell : ℕ) (v : Option Expr) (todo : List Todo) → CountedMaybe source v → Ok source [] todo → Ok source [] (quiet.starting cell v todo)
  starts cell None todo n h = h
  starts cell (Some e) todo n h = (tt, inl (n, inl (tt, h)))

  converts : (k : Shape) (ms : List Mark) (todo : List Todo) → Ok source (Any ∷ ms) todo → Ok source (Any ∷ ms) (quiet.converting k todo)
  converts src.Character ms todo h = (tt, h)
  converts src.Truth ms todo h = (tt, h)
  converts k ms todo h = h

  pub stepped : (e : Option Expr) (todo : List Todo) → CountedMaybe source e → Ok source [] todo → Ok source [] (quiet.step_todo e todo)
  stepped None todo n h = h
  stepped (Some e) todo n h = (n, inl (tt, h))

  pub tested : (o : Order) (t : Expr) (e : Option Expr) (b : Stmt) (todo : List Todo) → CountedExpr source t → CountedMaybe source e → CountedStmt source b → Ok source [] todo → Ok source [] (quiet.test_todo o t e b todo)
  tested src.TestFirst t e b todo k l m h = (k, inl ((k, l, m), h))
  tested src.BodyFirst t e b todo k l m h = (k, inl ((k, l, m), h))
  tested src.NoTest t e b todo k l m h = ((k, l, m), h)

  looped : (o : Order) (t : Expr) (e : Option Expr) (b : Stmt) (todo : List Todo) → CountedExpr source t → CountedMaybe source e → CountedStmt source b → Ok source [] todo → Ok source [] (quiet.loop_todo o t e b todo)
  looped src.TestFirst t e b todo k l m h = (k, inl ((k, l, m), h))
  looped src.BodyFirst t e b todo k l m h = ((k, l, m), h)
  looped src.NoTest t e b todo k l m h = ((k, l, m), h)

  loop_left : (w : Way) (o : Order) (t : Expr) (e : Option Expr) (b : Stmt) (todo : List Todo) → CountedExpr source t × CountedMaybe source e × CountedStmt source b → Ok source [] todo → Ok source [] (quiet.loop_left w o t e b todo)
  loop_left src.ToBreak o t e b todo n h = h
  loop_left src.ToContinue o t e b todo n h = (n, h)
  loop_left src.ToReturn o t e b todo n h = marks.left source [] todo h
  loop_left src.ToEnd o t e b todo n h = marks.left source [] todo h

  left_behind : (w : Way) (k : Sort) (todo : List Todo) → LeftBy source k (Left source todo) (Ok source [] todo) → Ok source [] (quiet.left_behind w k todo)
  left_behind w piece.Simple todo h = h
  left_behind w (piece.IsLoop o t e b) todo h = loop_left w o t e b todo h.0 h.1
  left_behind w piece.IsWhole todo h = h
  left_behind w (piece.IsClean c) todo h = (h.0, marks.left source [] todo h.1)
  left_behind w (piece.IsFill m b d) todo h = marks.left source [] todo h.1
  left_behind w (piece.IsSweep e) todo h = marks.left source [] todo h.1
  left_behind w (piece.IsPart c) todo h = marks.left source [] todo h.1
  left_behind w (piece.IsGuard hs) todo h = marks.left source [] todo h.1
  left_behind w piece.IsFinish todo h = (tt, h)
  left_behind w piece.IsFinishCoroutine todo h = (tt, h)

  pub filled : (b : Bool) (n : ℕ) (e d : Expr) (todo : List Todo) → CountedExpr source e × CountedExpr source d → Ok source [] todo → Ok source [] (quiet.fill_todo b n e d todo)
  filled false n e d todo k h = h
  filled true n e d todo k h = (k.0, inl (tt, (tt, (k, h))))

  -- an event is found before it is raised here
  raised : (r : Raised) (todo : List Todo) → CountedRaised source r → Ok source (Any ∷ (Any ∷ (Any ∷ []))) todo → Ok source [] (raising.raised_todo r todo)
  raised (src.Plainly n) todo k h = (tt, inl (tt, inl (tt, inl h)))
  raised (src.BuiltAt n c e) todo k h = (tt, (k, inl (tt, (tt, inl (tt, inl (tt, inl h))))))
  raised (src.AgainFrom c) todo k h = (tt, inl (tt, inl (tt, inl h)))

  -- and elsewhere
  raised_at : (r : Raised) (line : ℕ) (a : Expr) (todo : List Todo) → CountedAt source r → CountedExpr source a → Ok source [] todo → Ok source [] (raising.raised_todo r (piece.Eval a ∷ (piece.RaiseAtNow ∷ (piece.Within line ∷ todo))))
  raised_at (src.Plainly n) line a todo k l h = (tt, inr (tt, inl (tt, inl (l, inl (k, (tt, h))))))
  raised_at (src.BuiltAt n c e) line a todo k l h = (tt, (k.1, inl (tt, (tt, inr (tt, inl (tt, inl (l, inl (k.0, (tt, h)))))))))
  raised_at (src.AgainFrom c) line a todo k l h = absurd k

  handled : (x : Handler) (todo : List Todo) → CountedStmts source x.body → Ok source [] todo → Ok source [] (raising.handler_todo x todo)
  handled x todo k h = (tt, (tt, (tt, (tt, (tt, (tt, (k, (tt, h))))))))

  pub cleans : (c : CleanUp) (todo : List Todo) → CountedClean source c → Ok source [] todo → Ok source [] (piece.clean_todo c todo)
  cleans (src.Destroys e) todo n h = (n, inl (tt, h))
  cleans (src.DestroysAll m e) todo n h = (tt, (n, h))
  cleans src.Unwinds todo n h = (tt, h)
  cleans src.Forgets todo n h = (tt, h)
  cleans src.Leaves todo n h = (tt, h)
  cleans src.Ends todo n h = (tt, h)
  cleans (src.Frees None) todo n h = (tt, h)
  cleans (src.Frees (Some r)) todo n h = (tt, h)
  cleans (src.Restores k) todo n h = (tt, h)

  left_cleans : (c : CleanUp) (todo : List Todo) → CountedClean source c → Ok source [] todo → Ok source [] (raising.left_todo c todo)
  left_cleans (src.Frees r) todo n h = (tt, h)
  left_cleans c todo n h = cleans c todo n h

  pub branch : (k : ℕ) (cs : Clauses) (todo : List Todo) → CountedClauses source cs → Ok source [] todo → Ok source [] (monitors.branch_todo k cs todo)
  branch k src.NoClauses todo n h = h
  branch k (src.Otherwise b) todo n h = either (Ok source []) (nat_eq k 0) (piece.Do b ∷ todo) todo (n, h) h
  branch zero (src.MoreClauses guard b cs) todo n h = branch zero cs todo n.2 h
  branch (suc zero) (src.MoreClauses guard b cs) todo n h = (n.1, h)
  branch (suc (suc k)) (src.MoreClauses guard b cs) todo n h = branch (suc k) cs todo n.2 h

  pub item : (i : Item) (todo : List Todo) → CountedItem source i → Ok source [] todo → Ok source [] (quiet.item_todo i todo)
  item (src.Show f e) todo n h = (n, inl (tt, h))
  item (src.ShowText k) todo n h = (tt, h)

  pub item_value : (i : Item) (todo : List Todo) → CountedItem source i → ((ms : List Mark) → Ok source ms todo) → Ok source [] (quiet.item_value i todo)
  item_value (src.Show f e) todo n h = (n, inl (h (Any ∷ [])))
  item_value (src.ShowText k) todo n h = h []

  pub item_piece : (i : Item) (todo : List Todo) → Ok source [] todo → Ok source [] (quiet.item_piece i ∷ todo)
  item_piece (src.Show f e) todo h = (tt, h)
  item_piece (src.ShowText k) todo h = (tt, h)

  polled : (o : Option UnwindReason) (ms : List Mark) (todo : List Todo) → Ok source ms todo → Ok source ms (monitors.leave_todo o todo)
  polled None ms todo h = (tt, h)
  polled (Some why) ms todo h = h

  -- calls take as many operands as there are arguments

  called : (args : src.Exprs) (r : ℕ) (ms : List Mark) (todo : List Todo) → count args ≡ params source r → Ok source (Any ∷ ms) todo → Ok source (Any ∷ rests (params source r) (anys (count args) ms)) todo
  called args r ms todo e h =
      subst (λ n. Ok source (Any ∷ rests n (anys (count args) ms)) todo) e (subst (λ ns. Ok source (Any ∷ ns) todo) (sym (rests_anys (count args) ms)) h)

  called_on : (n r : ℕ) (ms : List Mark) (todo : List Todo) → n ≡ params source r → Ok source (Any ∷ ms) todo → Ok source (Any ∷ rests (suc (params source r)) (anys n (Any ∷ ms))) todo
  called_on n r ms todo e h =
      subst (λ k. Ok source (Any ∷ rest (rests k (anys n (Any ∷ ms)))) todo) e (subst (λ ns. Ok source (Any ∷ rest ns) todo) (sym (rests_anys n (Any ∷ ms))) h)

  -- a made object takes the place of its place below the arguments
  made_on : (n r : ℕ) (ms : List Mark) (todo : List Todo) → n ≡ params source r → Ok source (Any ∷ ms) todo → Ok source (Any ∷ rests (suc (params source r)) (anys (suc (params source r)) (rests (suc (params source r)) (anys n (Any ∷ ms))))) todo
  made_on n r ms todo e h =
      let k = params source r in
      let below_it : rests (suc k) (anys n (Any ∷ ms)) ≡ ms = subst (λ m. rest (rests m (anys n (Any ∷ ms))) ≡ ms) e (ap rest (rests_anys n (Any ∷ ms))) in
      subst (λ ns. Ok source (Any ∷ ns) todo) (sym (rests_anys (suc k) (rests (suc k) (anys n (Any ∷ ms))) ∙ below_it)) h

  module _ (s : State) (callers : W s.callers) (env : E s.env) where
    -- with other operands and something else to do
    pub go : (ns : List Mark) (todo : List Todo) (vs : List Value) → Holds ns vs → Ok source ns todo → MarkedState source (at todo vs s)
    go ns todo vs k h = record { run = record { marks = ns; holds = k; ok = h }; callers = callers; env = env }

    -- with something to do before which nothing need be known
    pub anew : (todo : List Todo) (vs : List Value) → Ok source [] todo → MarkedState source (at todo vs s)
    anew todo vs h = go [] todo vs tt h

    -- and with something written
    pub go_in : (ns : List Mark) (todo : List Todo) (vs : List Value) (e : Env) → Holds ns vs → Ok source ns todo → E e → MarkedState source (at todo vs (in_env e s))
    go_in ns todo vs e k h i = record { run = record { marks = ns; holds = k; ok = h }; callers = callers; env = i }

    pub stop : (f : RunFault) (todo : List Todo) (vs : List Value) → MarkedStep source (fault f todo vs s)
    stop f todo vs = record { run = tt; callers = callers; env = env; event = tt }

    ends : (todo : List Todo) (vs : List Value) → MarkedStep source (Asks ask.End (at todo vs s))
    ends todo vs = record { run = tt; callers = callers; env = env; event = tt }

    pub moved : (m : Moved (List Todo) Value) (todo : List Todo) (vs : List Value) → M m → MarkedStep source (piece.moves m (at todo vs s))
    moved (To t) todo vs m = m
    moved (Stops f) todo vs m = stop f todo vs

    pub write : (p v : Value) → E (written p v s.env)
    write p v = kept.written_rests (Runs source) (Waits source) calm p v s.env env

    pub outcome : (ms : List Mark) (o : Outcome) (todo : List Todo) (vs : List Value) → Holds ms vs → Ok source (Any ∷ ms) todo → MarkedStep source (piece.outcome_step o todo vs s)
    outcome ms (Gives n) todo vs k h = go (Any ∷ ms) todo _ (tt, k) h
    outcome ms (Faults f) todo vs k h = stop f todo vs

    pub element : (ms : List Mark) (k : Shape) (i : Option ℕ) (todo : List Todo) (v : Value) (vs : List Value) → Holds ms vs → Ok source (Any ∷ ms) todo → MarkedStep source (piece.element_step k i todo v vs s)
    element ms k None todo v vs l h = stop Index todo vs
    element ms k (Some i) todo v vs l h = go (Any ∷ ms) todo _ (tt, l) h

    pub condition : (ms : List Mark) (k : ℕ) (i : Option ℕ) (todo : List Todo) → Holds ms (below s.run.operands) → Ok source (Any ∷ ms) todo → MarkedStep source (monitors.condition_step k i todo s)
    condition ms k None todo l h = stop Index todo _
    condition ms k (Some i) todo l h = go (Any ∷ ms) todo _ (tt, l) h

    -- the end of an activation
    pub returned : (given : Value) (cs : List Active) → W cs → MarkedStep source (piece.return_step given cs s)
    returned given [] c = record { run = tt; callers = callers; env = env; event = tt }
    returned given (a ∷ cs) c = record { run = record { marks = Any ∷ c.0.marks; holds = (tt, c.0.holds); ok = c.0.ok }; callers = c.1; env = likes env refl refl }

    past : (v : Visited) (given : Value) (cs : List Active) → W cs → MarkedStep source (raising.return_past v given cs s)
    past v given [] c = record { run = tt; callers = callers; env = env; event = tt }
    past v given (a ∷ cs) c = record { run = record { marks = []; holds = tt; ok = marks.left source (Any ∷ c.0.marks) a.control c.0.ok }; callers = c.1; env = likes env refl refl }

    end_by : (v : Option Visited) (given : Value) → MarkedStep source (raising.end_by v given s)
    end_by None given = returned given s.callers callers
    end_by (Some v) given = past v given s.callers callers

    end_step : (w : Way) → MarkedStep source (quiet.end_step w s)
    end_step src.ToReturn = end_by s.run.handles _
    end_step src.ToEnd = end_by s.run.handles _
    end_step src.ToBreak = returned _ s.callers callers
    end_step src.ToContinue = returned _ s.callers callers

    pub exits : (w : Way) (todo : List Todo) → Left source todo → MarkedStep source (quiet.exit_step w todo s)
    exits w [] h = end_step w
    exits w (p ∷ ps) h = anew _ _ (left_behind w (piece.sort p) ps h)

    -- statements

    pub swept : (n : ℕ) (e : Expr) (todo : List Todo) → CountedExpr source e → Ok source [] todo → MarkedStep source (quiet.sweep_step n e todo s)
    swept zero e todo n h = anew _ _ h
    swept (suc m) e todo n h = record { run = record { marks = []; holds = tt; ok = (n, inl (tt, (n, h))) }; callers = callers; env = env }

    event_step : (a : EventStmt) (todo : List Todo) → CountedEvent source a → Ok source [] todo → MarkedStep source (quiet.event_step a todo s)
    event_step (src.Throw line r) todo n h = anew _ _ (raised r _ n (tt, (tt, h)))
    event_step (src.Raise line r) todo n h = anew _ _ (raised r _ n (tt, (tt, h)))
    event_step (src.Try line body hs) todo n h = anew _ _ (n.0, (n.1, (tt, h)))
    event_step (src.RaiseAt line r a) todo n h = anew _ _ (raised_at r line a todo n.0 n.1 h)
    event_step (src.Enable line events cell a) todo n h = anew _ _ (tt, (tt, (n, (tt, (tt, h)))))
    event_step (src.Disable line events cell a) todo n h = anew _ _ (tt, (n, (tt, (tt, h))))

    task_step : (a : TaskStmt) (todo : List Todo) → CountedTask source a → Ok source [] todo → MarkedStep source (quiet.task_step a todo s)
    task_step (src.Resume line) todo n h = anew _ _ (tt, (tt, (tt, h)))
    task_step (src.Suspend line) todo n h = anew _ _ (tt, (tt, (tt, h)))
    task_step (src.SetUp r) todo n h = anew _ _ (tt, h)
    task_step src.Enliven todo n h = anew _ _ (tt, h)
    task_step src.TakeDown todo n h = anew _ _ (tt, h)
    task_step (src.Yield line) todo n h = anew _ _ (tt, (tt, (tt, h)))
    task_step (src.Migrate line a) todo n h = anew _ _ (n, inl (tt, (tt, h)))
    task_step (src.Accept line site cs) todo n h = anew _ _ (n, (tt, (n, (tt, h))))

    pub stmt : (a : Stmt) (todo : List Todo) → CountedStmt source a → Ok source [] todo → MarkedStep source (quiet.stmt_step a todo s)
    stmt (src.Skip line) todo n h = anew _ _ h
    stmt (src.Block line body) todo n h = anew _ _ (n, (tt, h))
    stmt (src.Whole line body) todo n h = anew _ _ (n, (tt, (tt, h)))
    stmt (src.Evaluate line a) todo n h = anew _ _ (n, inl (tt, (tt, h)))
    stmt (src.Declare line ds) todo n h = anew _ _ (n, (tt, h))
    stmt (src.Print line items) todo n h = anew _ _ (n, (tt, h))
    stmt (src.PrintTogether line items) todo n h = anew _ _ (n, (tt, (n, (tt, (tt, h)))))
    stmt (src.Read line ts) todo n h = anew _ _ (n, (tt, h))
    stmt (src.If line t a b) todo n h = anew _ _ (n.0, inl ((n.1, n.2), (tt, h)))
    stmt (src.Loop line o t e b) todo n h = anew _ _ (looped o t e b _ n.0 n.1 n.2 (tt, h))
    stmt (src.Break line) todo n h = anew _ _ (marks.left source [] todo h)
    stmt (src.Continue line) todo n h = anew _ _ (marks.left source [] todo h)
    stmt (src.Return line None) todo n h = anew _ _ (marks.left source [] todo h)
    stmt (src.Return line (Some e)) todo n h = anew _ _ (n, inl (marks.left source [] todo h))
    stmt (src.Owes line) todo n h = anew _ _ (tt, (tt, h))
    stmt (src.Fill line m b d) todo n h = anew _ _ (tt, (n, (tt, h)))
    stmt (src.OfEvents a) todo n h = event_step a todo n h
    stmt (src.OfTasks a) todo n h = task_step a todo n h

    pub rest_of : (ss : Stmts) (todo : List Todo) → CountedStmts source ss → Ok source [] todo → MarkedStep source (quiet.rest_step ss todo s)
    rest_of src.Nil todo n h = anew _ _ h
    rest_of (src.Then a ss) todo n h = anew _ _ (n.0, (n.1, h))
    rest_of (src.Scoped c ss) todo n h = anew _ _ (n.1, (n.0, h))
    rest_of (src.Built c ss) todo n h = anew _ _ (n.1, (n.0, h))

    pub land : (o : Option UnwindReason) (ms : List Mark) (todo : List Todo) → Holds ms s.run.operands → Ok source ms todo → MarkedStep source (quiet.land_step o todo s)
    land None ms todo k h = go ms _ _ k h
    land (Some why) ms todo k h = anew _ _ (marks.left source ms todo h)

    -- events

    throws : (e : raising.Event) (todo : List Todo) → Left source todo → MarkedStep source (raising.throw_step e todo s)
    throws e todo h = record { run = record { marks = []; holds = tt; ok = h }; callers = callers; env = env }

    pub thrown : (e : raising.Event) (todo : List Todo) → Ok source [] todo → MarkedStep source (raising.throw_step e todo s)
    thrown e todo h = throws e todo (marks.left source [] todo h)

    -- the activation that raised goes on without the event
    handles : (ms : List Mark) (f : Option Found) (e : raising.Event) (todo : List Todo) → Holds ms s.run.operands → OfFound f → Ok source (rests 3 ms) todo → MarkedStep source (raising.handle_step f e todo s)
    handles ms None e todo k n h = throws e todo (marks.left source (rests 3 ms) todo h)
    handles ms (Some f) e todo k n h = record {
      run = record { marks = []; holds = tt; ok = handled f.handler [] n tt };
      callers = (record { marks = rests 3 ms; holds = holds_below (rests 2 ms) _ (holds_below (rests 1 ms) _ (holds_below ms _ k)); ok = (tt, h) }, callers);
      env = likes env refl refl;
    }

    pub raises : (ms : List Mark) (e : raising.Event) (todo : List Todo) → Holds ms s.run.operands → Ok source (rests 3 ms) todo → MarkedStep source (raising.raise_step e todo s)
    raises ms e todo k h =
        let round : List Active = (record s.run { control = todo }) ∷ s.callers in
        handles ms (raising.seek None e round) e todo k (seek None e round (marks.left source (rests 3 ms) todo h, marks.waits_left source s.callers callers)) h

    -- unwinding

    catches : (o : Option Handler) (e : raising.Event) (todo : List Todo) → OfHandler o → Ok source [] todo → MarkedStep source (raising.catch_step o e todo s)
    catches None e todo n h = anew _ _ (marks.left source [] todo h)
    catches (Some x) e todo n h = record { run = record { marks = []; holds = tt; ok = handled x todo n h }; callers = callers; env = env }

    guarded : (hs : Handlers) (o : Option UnwindReason) (todo : List Todo) → CountedHandlers source hs → Ok source [] todo → MarkedStep source (raising.guard_left hs o todo s)
    guarded hs (Some (reason.Event n x y)) todo k h =
        catches _ _ todo (handler_for false (record { number = n; x = x; y = y }) hs k) h
    guarded hs o todo k h = anew _ _ (marks.left source [] todo h)

    whole : (b : Bool) (todo : List Todo) → Ok source [] todo → MarkedStep source (raising.whole_left b todo s)
    whole true todo h = record { run = record { marks = []; holds = tt; ok = h }; callers = callers; env = env }
    whole false todo h = anew _ _ (marks.left source [] todo h)

    scope : (c : CleanUp) (b : Bool) (todo : List Todo) → CountedClean source c → Ok source [] todo → MarkedStep source (raising.scope_left c b todo s)
    scope src.Leaves true todo n h = record { run = record { marks = []; holds = tt; ok = (tt, marks.left source [] todo h) }; callers = callers; env = env }
    scope c b todo n h = anew (raising.left_todo c (piece.Unwind ∷ todo)) [] (left_cleans c (piece.Unwind ∷ todo) n (marks.left source [] todo h))

    main_left : (o : Option UnwindReason) (todo : List Todo) → Ok source [] todo → MarkedStep source (raising.main_left o todo s)
    main_left (Some (reason.ReturnTo n)) todo h = record { run = record { marks = []; holds = tt; ok = (tt, h) }; callers = callers; env = env }
    main_left o todo h = stop Unhandled todo []

    coroutine_left : (o : Option UnwindReason) (todo : List Todo) → Ok source [] todo → MarkedStep source (raising.coroutine_left o todo s)
    coroutine_left (Some (reason.ReturnTo n)) todo h = record { run = record { marks = []; holds = tt; ok = (tt, h) }; callers = callers; env = env }
    coroutine_left (Some reason.Destroyed) todo h = moved _ todo _ (kept.taken_down_rests (Runs source) (Waits source) calm (at todo [] s) (anew todo [] h))
    coroutine_left o todo h = moved _ todo _ (kept.escape_rests (Runs source) (Waits source) calm (at todo [] s) (anew todo [] h))

    unwind_past : (k : Sort) (todo : List Todo) → LeftBy source k (Left source todo) (Ok source [] todo) → MarkedStep source (raising.unwind_past k todo s)
    unwind_past piece.Simple todo h = anew _ _ h
    unwind_past (piece.IsLoop o t e b) todo h = anew _ _ (marks.left source [] todo h.1)
    unwind_past piece.IsWhole todo h = whole _ todo h
    unwind_past (piece.IsClean c) todo h = scope c _ todo h.0 h.1
    unwind_past (piece.IsFill m b d) todo h = anew _ _ (h.0.1, marks.left source [] todo h.1)
    unwind_past (piece.IsSweep e) todo h = anew _ _ (h.0, marks.left source [] todo h.1)
    unwind_past (piece.IsPart c) todo h = anew _ _ (cleans c _ h.0 (marks.left source [] todo h.1))
    unwind_past (piece.IsGuard hs) todo h = guarded hs s.run.raised todo h.0 h.1
    unwind_past piece.IsFinish todo h = main_left s.run.raised todo h
    unwind_past piece.IsFinishCoroutine todo h = coroutine_left s.run.raised todo h

    pass_on : (o : Option UnwindReason) (c : Active) (cs : List Active) → Left source c.control → W cs → MarkedStep source (raising.pass_on o c cs s)
    pass_on None c cs a b = record { run = tt; callers = callers; env = env; event = tt }
    pass_on (Some why) c cs a b = record { run = record { marks = []; holds = tt; ok = a }; callers = b; env = likes env refl refl }

    leave_for : (b : Bool) (c : Active) (cs : List Active) → Left source c.control → W cs → MarkedStep source (raising.leave_for b c cs s)
    leave_for true c cs a b = record { run = tt; callers = callers; env = env; event = tt }
    leave_for false c cs a b = pass_on s.run.raised c cs a b

    leaves : (cs : List Active) → W cs → MarkedStep source (raising.leave_step cs s)
    leaves [] c = record { run = tt; callers = callers; env = env; event = tt }
    leaves (c ∷ cs) p =
        either (MarkedStep source) (raising.arrives s.run.raised (length (c ∷ cs))) _ _ (returned s.run.result (c ∷ cs) p) (leave_for _ c cs (marks.left source (Any ∷ p.0.marks) c.control p.0.ok) p.1)

    pub unwinds : (todo : List Todo) → Left source todo → MarkedStep source (raising.unwind_step todo s)
    unwinds [] h = leaves s.callers callers
    unwinds (p ∷ ps) h = unwind_past (piece.sort p) ps h

    -- printing

    pub prints : (o : Option (List Piece)) (p : Piece) (todo : List Todo) (vs : List Value) → Ok source [] todo → MarkedStep source (piece.print_step o p todo vs s)
    prints None p todo vs h = record { run = record { marks = []; holds = tt; ok = h }; callers = callers; env = env; event = tt }
    prints (Some ps) p todo vs h = go_in [] _ _ _ tt h (likes env refl refl)

    pub flushes : (o : Option (List Piece)) (todo : List Todo) (vs : List Value) → Ok source [] todo → MarkedStep source (piece.flush_step o todo vs s)
    flushes None todo vs h = anew _ _ h
    flushes (Some []) todo vs h = go_in [] _ _ _ tt h (likes env refl refl)
    flushes (Some (p ∷ ps)) todo vs h = record { run = record { marks = []; holds = tt; ok = h }; callers = callers; env = likes env refl refl; event = tt }

    -- with what is known of the operands
    module _ (ms : List Mark) (holds : Holds ms s.run.operands) where
      pub one : Holds (rest ms) (below s.run.operands)
      one = holds_below ms s.run.operands holds

      pub two : Holds (rest (rest ms)) (below (below s.run.operands))
      two = holds_below (rest ms) (below s.run.operands) one

      -- expressions

      object : (o : ObjectExpr) (todo : List Todo) → CountedObject source o → Ok source (Any ∷ ms) todo → MarkedStep source (quiet.object_step o todo s)
      object src.This todo n h = go (Any ∷ ms) _ _ (tt, holds) h
      object (src.OwnField k i) todo n h = go (Any ∷ ms) _ _ (tt, holds) h
      object (src.GetOwn k i) todo n h = go (Any ∷ ms) _ _ (tt, holds) h
      object (src.FieldOf k i a) todo n h = go ms _ _ holds (n, inl (tt, h))
      object src.Counted todo n h = go (Any ∷ ms) _ _ (tt, holds) h
      object (src.CallOn r a args) todo n h = go ms _ _ holds (n.0, inl (n.1, (tt, (tt, called_on (count args) r ms todo n.2 h))))
      object (src.CallLive r a args) todo n h = go ms _ _ holds (n.0, inl (n.1, (tt, (tt, (tt, called_on (count args) r ms todo n.2 h)))))
      object (src.CallUnwritten r a) todo n h = go ms _ _ holds (n.0, inl (tt, called_on 0 r ms todo n.1 h))
      object (src.EnterOn m r a args) todo n h = go ms _ _ holds (n.0, inl (n.1, (tt, (tt, (tt, called_on (count args) r ms todo n.2 h)))))
      object (src.EndOn r false a) todo n h = go ms _ _ holds (n.0, inl (tt, (tt, called_on 0 r ms todo n.1 h)))
      object (src.EndOn r true a) todo n h = go ms _ _ holds (n.0, inl (tt, (tt, (tt, called_on 0 r ms todo n.1 h))))
      object (src.Bind a b) todo n h = go ms _ _ holds (n.0, inl (n.1, inl (tt, h)))
      object (src.MakeOn c r false a args) todo n h = go ms _ _ holds (n.0, inl (n.1, (tt, (tt, made_on (count args) r ms todo n.2 h))))
      object (src.MakeOn c r true a args) todo n h = go ms _ _ holds (n.0, inl (n.1, (tt, (tt, (tt, made_on (count args) r ms todo n.2 h)))))
      object src.NewCluster todo n h = go ms _ _ holds (tt, h)
      object (src.NewProcessor a) todo n h = go ms _ _ holds (n, inl (tt, h))
      object (src.EndCluster a) todo n h = go ms _ _ holds (n, inl (tt, h))
      object (src.EndProcessor a) todo n h = go ms _ _ holds (n, inl (tt, h))
      object (src.ConditionAt k m a) todo n h = go ms _ _ holds (n, inl (tt, h))
      object (src.Wait a b) todo n h = go ms _ _ holds (n.0, inl (n.1, inl (tt, (tt, h))))
      object (src.Signal a) todo n h = go ms _ _ holds (n, inl (tt, h))
      object (src.SignalBlock a) todo n h = go ms _ _ holds (n, inl (tt, h))
      object (src.IsEmpty a) todo n h = go ms _ _ holds (n, inl (tt, h))
      object (src.FrontOf a) todo n h = go ms _ _ holds (n, inl (tt, h))

      eval : (a : Expr) (todo : List Todo) → CountedExpr source a → Ok source (Any ∷ ms) todo → MarkedStep source (quiet.eval_step a todo s)
      eval (src.Literal k) todo n h = go (Any ∷ ms) _ _ (tt, holds) h
      eval (src.Variable k) todo n h = go (Any ∷ ms) _ _ (tt, holds) h
      eval (src.Element m k a i) todo n h = go ms _ _ holds (n.0, inl (n.1, inl (tt, h)))
      eval (src.Get k) todo n h = go (Any ∷ ms) _ _ (tt, holds) h
      eval (src.Load a) todo n h = go ms _ _ holds (n, inl (tt, h))
      eval (src.Negated a) todo n h = go ms _ _ holds (n, inl (tt, h))
      eval (src.Not a) todo n h = go ms _ _ holds (n, inl (tt, h))
      eval (src.AsCharacter a) todo n h = go ms _ _ holds (n, inl (tt, h))
      eval (src.AsTruth a) todo n h = go ms _ _ holds (n, inl (tt, h))
      eval (src.Operate op a b) todo n h = go ms _ _ holds (n.0, inl (n.1, inl (tt, h)))
      eval (src.And a b) todo n h = go ms _ _ holds (n.0, inl ((n.1, tt), h))
      eval (src.Or a b) todo n h = go ms _ _ holds (n.0, inl ((tt, n.1), h))
      eval (src.Set k a) todo n h = go ms _ _ holds (n, inl (tt, h))
      eval (src.Assign p a) todo n h = go ms _ _ holds (n.0, inl (n.1, inl (tt, h)))
      eval (src.First a b) todo n h = go ms _ _ holds (n.0, inl (n.1, inl (tt, h)))
      eval (src.Update op k p a) todo n h = go ms _ _ holds (n.0, inl (tt, (tt, (n.1, inl (tt, converts k (Any ∷ ms) _ (tt, h))))))
      eval (src.StepBehind op k p) todo n h =
          go ms _ _ holds (n, inl (tt, (tt, (tt, (tt, (tt, inl (tt, converts k (Any ∷ (Any ∷ (Any ∷ ms))) _ (tt, (tt, h)))))))))
      eval src.Fail todo n h = record { run = record { marks = ms; holds = holds; ok = h }; callers = callers; env = env; event = tt }
      eval (src.Call r args) todo n h = go ms _ _ holds (n.0, (tt, (tt, called args r ms todo n.1 h)))
      eval (src.OfObject o) todo n h = object o todo n h

      known : (e : Expr) (todo : List Todo) → Known e (λ k. Ok source (Event k ∷ ms) todo) → MarkedStep source (quiet.eval_step e todo s)
      known (src.Literal (pos k)) todo h = go (Event k ∷ ms) _ _ (refl, holds) h
      known e todo h = absurd h

      pub evals : (e : Expr) (todo : List Todo) → CountedExpr source e → Ok source (Any ∷ ms) todo ⊎ Known e (λ k. Ok source (Event k ∷ ms) todo) → MarkedStep source (quiet.eval_step e todo s)
      evals e todo n (inl h) = eval e todo n h
      evals e todo n (inr h) = known e todo h

      -- calls

      begun : (r : Routine) (this : Value) (counts : Bool) (ns : List Mark) (todo : List Todo) (vs : List Value) → CountedStmts source r.body → Holds ns vs → Ok source (Any ∷ ns) todo → MarkedStep source (quiet.begun_step r this counts todo vs s)
      begun r this counts ns todo vs n k h = record { run = record { marks = []; holds = tt; ok = routine r n }; callers = (record { marks = ns; holds = k; ok = h }, callers); env = likes env refl refl }

      dropped : (n : ℕ) → Holds (rests n ms) (drop n s.run.operands)
      dropped n = holds_drop n ms s.run.operands holds

      dropped_one : (n : ℕ) → Holds (rests (suc n) ms) (below (drop n s.run.operands))
      dropped_one n = holds_below (rests n ms) (drop n s.run.operands) (dropped n)

      pub call : (r : Option Routine) (todo : List Todo) → CountedRoutine source r → Ok source (Any ∷ rests (params_at r) ms) todo → MarkedStep source (quiet.call_step r todo s)
      call None todo n h = ends _ _
      call (Some r) todo n h = either (MarkedStep source) (nat_lt s.env.links.calls CALLS) _ _ (begun r _ true (rests r.params ms) todo _ n (dropped r.params) h) (stop Depth todo _)

      pub call_on : (r : Option Routine) (todo : List Todo) → CountedRoutine source r → Ok source (Any ∷ rests (suc (params_at r)) ms) todo → MarkedStep source (quiet.call_on_step r todo s)
      call_on None todo n h = ends _ _
      call_on (Some r) todo n h = either (MarkedStep source) (nat_lt s.env.links.calls CALLS) _ _ (begun r _ true (rests (suc r.params) ms) todo _ n (dropped_one r.params) h) (stop Depth todo _)

      pub call_unwritten : (r : Option Routine) (todo : List Todo) → CountedRoutine source r → Ok source (Any ∷ rests (suc (params_at r)) ms) todo → MarkedStep source (quiet.call_unwritten_step r todo s)
      call_unwritten None todo n h = ends _ _
      call_unwritten (Some r) todo n h = begun r _ false (rests (suc r.params) ms) todo _ n (dropped_one r.params) h

      pub live : (r : Option Routine) (todo : List Todo) → Ok source ms todo → MarkedStep source (quiet.live_step r todo s)
      live None todo h = ends _ _
      live (Some r) todo h = either (MarkedStep source) (sw.is_live (piece.exec_at (top (drop r.params s.run.operands)) s.env) s.env) _ _ (go ms _ _ holds h) (stop NotLive todo _)

      pub set_up : (r : Option Routine) (todo : List Todo) → CountedRoutine source r → Ok source [] todo → MarkedStep source (quiet.set_up_step r todo s)
      set_up None todo n h = anew _ _ h
      set_up (Some r) todo n h =
          go_in [] _ _ _ tt h (kept.written_rests (Runs source) (Waits source) calm s.run.this _ _ (kept.born_rests (Runs source) (Waits source) calm _ (quiet.fresh r s.run.this) s.env (record { run = record { marks = []; holds = tt; ok = routine r n }; callers = tt }) env))

      -- mutex objects

      pub unless : (o : ℕ) (step : Step) (todo : List Todo) → MarkedStep source step → MarkedStep source (monitors.unless_held_up o step todo s)
      unless o step todo k = either (MarkedStep source) (inside.is_held_up o s.env) _ step (stop BlockedInside todo _) k

      enter_at : (d : Option ℕ) (o m : ℕ) (todo : List Todo) → Ok source ms todo → MarkedStep source (monitors.enter_at d o m todo s)
      enter_at (Some d) o m todo h = go_in ms _ _ _ holds h (likes env refl refl)
      enter_at None o m todo h = record { run = record { marks = ms; holds = holds; ok = h }; callers = callers; env = likes env refl refl; event = tt }

      pub enter : (m : ℕ) (r : Option Routine) (todo : List Todo) → Ok source ms todo → MarkedStep source (monitors.enter_step m r todo s)
      enter m None todo h = ends _ _
      enter m (Some r) todo h =
          let o = piece.object_in (top (drop r.params s.run.operands)) in
          either (MarkedStep source) (monitors.may_call r.written s) _ _ (enter_at (find o s.env.depths) o m todo h) (stop Depth todo _)

      pub leave : (b : Bool) (o : ℕ) (todo : List Todo) → Ok source ms todo → MarkedStep source (monitors.leave_at b o todo s)
      leave false o todo h = go_in ms _ _ _ holds h (likes env refl refl)
      leave true o todo h =
          unless o _ todo (record { run = record { marks = ms; holds = holds; ok = polled s.run.raised ms todo h }; callers = callers; env = likes env refl refl; event = tt })

      pub make : (c k : ℕ) (r : Option Routine) (todo : List Todo) → Ok source (anys (suc (params source k)) (rests (suc (params source k)) ms)) todo → MarkedStep source (monitors.make_step c k r todo s)
      make c k None todo h = ends _ _
      make c k (Some r) todo h =
          either (MarkedStep source) (monitors.may_call r.written s) _ _ (record { run = record { marks = ms; holds = holds; ok = (tt, h) }; callers = callers; env = likes env refl refl; event = tt }) (stop Depth todo _)

      pub bind : (r : Option Routine) (todo : List Todo) → Ok source (anys (suc (params_at r)) (rests (suc (params_at r)) (rest ms))) todo → MarkedStep source (monitors.bind_step r todo s)
      bind None todo h = ends _ _
      bind (Some r) todo h =
          let n = r.params in
          let vs = below s.run.operands in
          let v = top s.run.operands in
          let under : Holds (rests (suc n) (rest ms)) (drop (suc n) (slice_set vs n v)) = subst (Holds (rests (suc n) (rest ms))) (sym (drop_set n v vs)) (holds_drop (suc n) (rest ms) vs one) in
          go_in (anys (suc n) (rests (suc n) (rest ms))) todo _ _ (holds_anys (suc n) (rests (suc n) (rest ms)) (slice_set vs n v) under) h (write _ _)

      pub accept : (mask o site : ℕ) (todo : List Todo) (vs : List Value) → Ok source [] todo → MarkedStep source (monitors.accept_by mask o site todo vs s)
      accept zero o site todo vs h = anew _ _ h
      accept (suc mask) o site todo vs h = unless o _ todo (record { run = record { marks = []; holds = tt; ok = (tt, (tt, h)) }; callers = callers; env = env; event = tt })

      pub failed : (b : Bool) (todo : List Todo) (vs : List Value) → Ok source [] todo → MarkedStep source (monitors.failed_step b todo vs s)
      failed true todo vs h = anew _ _ h
      failed false todo vs h = anew _ _ (tt, h)

      -- events elsewhere

      pend : (n : Exec) (e : raising.Event) (todo : List Todo) (vs : List Value) → Ok source [] todo → MarkedStep source (polls.pend_step n e todo vs s)
      pend n e todo vs h =
          either (MarkedStep source) (nat_lt (length (inside.pending_at n s.env)) PENDING_EVENTS) _ _ (go_in [] _ _ _ tt h (kept.with_links_rests (Runs source) (Waits source) calm (λ l. record l { pending = l.pending ++ (record { event = e.number; x = e.x; y = e.y }) ∷ [] }) n s.env env)) (stop TooManyPending todo vs)

      pend_at : (o : Option Exec) (e : raising.Event) (todo : List Todo) (vs : List Value) → Ok source [] todo → MarkedStep source (polls.pend_at o e todo vs s)
      pend_at None e todo vs h = stop NotLive todo vs
      pend_at (Some n) e todo vs h = either (MarkedStep source) (sw.is_live (Some n) s.env) _ _ (pend n e todo vs h) (stop NotLive todo vs)

      -- the number lies below the fields and the target
      number_small : (ns : List Mark) (vs : List Value) → IsEvent ns → Holds ns vs → raising.as_event (number (top vs)) < EVENTS
      number_small [] vs k h = absurd k
      number_small (Any ∷ ns) vs k h = absurd k
      number_small (Event n ∷ ns) vs k h = subst (λ w. raising.as_event (number w) < EVENTS) (sym h.0) (small_event n k)

      pub number_at : IsEvent (rests 3 ms) → (raising.event_in (below s.run.operands)).number < EVENTS
      number_at k = number_small (rests 3 ms) (below (below (below s.run.operands))) k (holds_below (rest (rest ms)) (below (below s.run.operands)) two)

      pub raise_at : (v : Value) (e : raising.Event) (todo : List Todo) (vs : List Value) → e.number < EVENTS → Ok source [] todo → MarkedStep source (polls.raise_at_step v e todo vs s)
      raise_at (Object o) e todo vs k h = record { run = record { marks = []; holds = tt; ok = h }; callers = callers; env = env; event = k }
      raise_at v e todo vs k h = pend_at (piece.exec_at v s.env) e todo vs h

      pub enables : (events cell : ℕ) (todo : List Todo) → Ok source [] todo → MarkedStep source (polls.enable_step events cell todo s)
      enables events cell todo h = go_in [] _ _ _ tt h (likes (write (piece.variable_at cell s) (Number (signed_64 s.env.links.enabled))) refl refl)

      quiet_poll : (o : Option Pending) (todo : List Todo) → Ok source ms todo → MarkedStep source (polls.quiet_poll o todo s)
      quiet_poll None todo h = go ms _ _ holds h
      quiet_poll (Some p) todo h = go_in (Any ∷ (Any ∷ (Any ∷ ms))) _ _ _ (tt, (tt, (tt, holds))) (tt, h) (likes env refl refl)

      poll_by : (b : Bool) (todo : List Todo) → Ok source ms todo → MarkedStep source (polls.poll_by b todo s)
      poll_by true todo h = record { run = record { marks = ms; holds = holds; ok = (tt, h) }; callers = callers; env = env; event = tt }
      poll_by false todo h = quiet_poll (inside.oldest_enabled s.env.links) todo h

      pub poll : (todo : List Todo) → Ok source ms todo → MarkedStep source (polls.poll_step todo s)
      poll todo h = either (MarkedStep source) (nat_eq s.env.links.enabled 0) _ _ (go ms _ _ holds h) (poll_by (inside.is_own s.env) todo h)

      pub deliver : (v : Value) (todo : List Todo) → Ok source (rests 3 ms) todo → MarkedStep source (polls.deliver_step v todo s)
      deliver Nothing todo h = go (rests 3 ms) _ _ (dropped 3) h
      deliver v todo h = go ms _ _ holds (tt, (tt, h))

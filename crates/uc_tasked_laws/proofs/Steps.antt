-- A quiet step of a state in which nobody who is pending is at home where a task is in scope leads to one.
use Rattle.std.proofs.Common.{◌≡◌, ℕ, zero, suc, ◌⊎◌, inl, inr, ◌++◌, Bool, true, false, List, [], ◌∷◌, length, drop, Option, Some, None, refl, sym, subst}
use Rattle.std.specs.Prelude.{nat_eq, nat_lt, slice_set, pos}
use Rattle.uc_tree.specs.declared.limits.TheConstants.{CALLS, PENDING_EVENTS}
use Rattle.uc_tree.specs.Programs.{Program}
use Rattle.uc_tree.specs.Source as src
use Rattle.uc_tree.specs.Source.{Shape, Expr, Exprs, ObjectExpr, Stmt, Stmts, EventStmt, TaskStmt, Routine, Purpose, Order, Way, CleanUp, Handlers, Clauses, Raised, Item, Source}
use Rattle.uc_entry.specs.declared.fault.RunFault.{RunFault}
use Rattle.uc_entry.specs.declared.fault.RunFault.TheVariants.{Index, Depth, BlockedInside, TooManyPending, NotLive, Unhandled}
use Rattle.uc_entry.specs.declared.request.Piece.{Piece}
use Rattle.uc_entry.specs.declared.request.Request.TheVariants as ask
use Rattle.uc_entry.specs.Keyed.{find, signed_64}
use Rattle.uc_machine.specs.declared.exec.Exec.{Exec}
use Rattle.uc_machine.specs.declared.exec.Pending.{Pending}
use Rattle.uc_machine.specs.declared.exec.UnwindReason.{UnwindReason}
use Rattle.uc_machine.specs.declared.exec.UnwindReason.TheVariants as reason
use Rattle.uc_machine.specs.declared.exec.Visited.{Visited}
use Rattle.uc_machine.specs.Switches as sw
use Rattle.uc_machine.specs.Switches.{Moved, To, Stops}
use Rattle.uc_machine.specs.Insides as inside
use Rattle.uc_machine.specs.Raising as raising
use Rattle.uc_machine.specs.Raising.{Handler, Found, Hit}
use Rattle.uc_machine.specs.Monitors as monitors
use Rattle.uc_machine.specs.Polls as polls
use Rattle.uc_machine.specs.Quiet as quiet
use Rattle.uc_machine.specs.Pieces as piece
use Rattle.uc_machine.specs.Pieces.{Value, Number, Place, Running, Object, Nothing, Todo, Sort, Active, State, Env, Members, Step, Goes, Ticks, Asks, Outcome, Gives, Faults, at, in_env, goes, fault, asks, turns, top, below, number, written}
use Rattle.uc_state_laws.specs.Counted.{params_at, params, count, CountedExpr, CountedExprs, CountedObject, CountedClean}
use Rattle.uc_place_laws.specs.OlderResting.{AllWait, NamedEnv, NamedState}
use Rattle.uc_place_laws.proofs.AsideKeeping as kept
use Rattle.uc_place_laws.proofs.AsideKeeping.{either, tested}
use Rattle.uc_tasked_laws.specs.Seated.{IsSpawning, IsTame, AreTame, Begins, OpensOf, Makes, Before}
use Rattle.uc_tasked_laws.specs.Seats.{Mark, Any, At, Holds, rest, rests, anys, Placed, Every, AtEnd, CalledAt, CodeStmt, CodeStmts, CodeBlock, CodeHandlers, CodeRoutine, Quits, QuitsAt, LeftBy, Ok, AtRest, AtDrop, Left, Stands}
use Rattle.uc_tasked_laws.specs.SeatedStates.{Told, Awaited, Kept, Done, Begun, Runs, Waits, Starting, Standing, Calling, SeatedAsk, FairAt}
use Rattle.uc_tasked_laws.proofs.Lists as lists
use Rattle.uc_tasked_laws.proofs.Marks as marks
use Rattle.uc_tasked_laws.proofs.Marks.{holds_below, holds_drop, holds_anys, drop_set}

module _ (g : Program) (source : Source) (told : Told) where
  abbrev E : Env → Type 0
  E e = NamedEnv (Runs g source told) (Waits g source told) e

  abbrev W : Exec → List Active → Type 0
  W n cs = AllWait (Runs g source told) (Waits g source told) n cs

  pub calm : (n : Exec) (older : List Active) (a : Active) (w : Option UnwindReason) → Runs g source told n older a → Runs g source told n older (record a { raised = w })
  calm n older a w h = record { marks = h.marks; holds = h.holds; ok = h.ok }

  abbrev K : Env → Env → Type 0
  K e f = kept.Keeps (Runs g source told) (Waits g source told) calm e f

  abbrev M : Moved (List Todo) Value → Type 0
  M m = kept.NamedMoved (Runs g source told) (Waits g source told) calm m

  pub likes : {e f : Env} → E e → f.hand ≡ e.hand → f.house ≡ e.house → f.own ≡ e.own → E f
  likes h k i o = kept.like (Runs g source told) (Waits g source told) calm h k i o

  abbrev N : State → Type 0
  N s = NamedState (Runs g source told) (Waits g source told) s

  -- who runs is at the start or at the end of the building of its object, stands before a scope, or before the call of a constructor
  pub record Comes (u : State) : Type 0 where
    pub now : Starting g source told u.env.exec u.callers u.run ⊎ (Standing g source told u.env.exec u.callers u.run ⊎ Calling g source told u.env.exec u.callers u.run u.run.control)
    pub callers : W u.env.exec u.callers
    pub env : E u.env

  -- what a step leads to
  abbrev pub T : Step → Type 0
  T (Goes u) = N u ⊎ Comes u
  T (Ticks u) = N u
  T (Asks r u) = SeatedAsk g source told r u

  -- activations that wait are left

  abbrev WaitLeft : Exec → List Active → Active → Type 0
  WaitLeft n cs a = Left g source (Done g told n cs) (Begun g told n a.this cs) (Kept g told n a.frame a.this) a.control

  abbrev AllLeft : Exec → List Active → Type 0
  AllLeft n [] = Unit {0}
  AllLeft n (a ∷ cs) = WaitLeft n cs a × AllLeft n cs

  wait_left : (n : Exec) (cs : List Active) (a : Active) → Waits g source told n cs a → WaitLeft n cs a
  wait_left n cs a (inl h) = marks.left g source (Done g told n cs) (Begun g told n a.this cs) (Kept g told n a.frame a.this) (Any ∷ h.marks) a.control h.ok
  wait_left n cs a (inr h) = marks.left_drop g source (Done g told n cs) (Begun g told n a.this cs) (Kept g told n a.frame a.this) a.control h

  waits_left : (n : Exec) (cs : List Active) → W n cs → AllLeft n cs
  waits_left n [] h = tt
  waits_left n (a ∷ cs) h = (wait_left n cs a h.0, waits_left n cs h.1)

  found_or : (x : Option Hit) (a : Active) (cs : List Active) (other : Option Found) → lists.OfHit g source x → lists.OfFound g source other → lists.OfFound g source (raising.found_or x a cs other)
  found_or None a cs other h k = k
  found_or (Some x) a cs other h k = h

  seek : (n : Exec) (v : Option Visited) (e : raising.Event) (cs : List Active) → AllLeft n cs → lists.OfFound g source (raising.seek v e cs)
  seek n None e [] h = tt
  seek n (Some v) e [] h = tt
  seek n None e (a ∷ cs) h = found_or (raising.hit_in e a.control) a cs (raising.seek a.handles e cs) (lists.hit_in g source (Done g told n cs) (Begun g told n a.this cs) (Kept g told n a.frame a.this) e a.control h.0) (seek n a.handles e cs h.1)
  seek n (Some v) e (a ∷ cs) h =
      either (lists.OfFound g source) (nat_eq (length cs) v.level) (raising.found_or (raising.hit_in e (raising.within v.rest a.control)) a cs (raising.seek a.handles e cs)) (raising.seek (Some v) e cs) (found_or (raising.hit_in e (raising.within v.rest a.control)) a cs (raising.seek a.handles e cs) (lists.hit_in g source (Done g told n cs) (Begun g told n a.this cs) (Kept g told n a.frame a.this) e (raising.within v.rest a.control) (lists.within g source (Done g told n cs) (Begun g told n a.this cs) (Kept g told n a.frame a.this) v.rest a.control h.0)) (seek n a.handles e cs h.1)) (seek n (Some v) e cs h.1)

  -- in a list that is in order no scope opens next, so whatever opens next is so
  module _ (D B : Type 0) (S P : ℕ → Expr → Type 0) where
    pub none_awaited : (ms : List Mark) (todo : List Todo) → Ok g source D B S ms todo → Awaited P todo
    none_awaited ms (piece.DropNow ∷ (piece.Within line ∷ (piece.Rest ss ∷ todo))) h = marks.opens_any P ss h.1.1.0.0
    none_awaited ms todo h = tt

    pub none_behind : (ms : List Mark) (todo : List Todo) → Ok g source D B S ms todo → Awaited P (piece.DropNow ∷ todo)
    none_behind ms (piece.Within line ∷ (piece.Rest ss ∷ todo)) h = marks.opens_any P ss h.1.0.0
    none_behind ms todo h = tt

  -- a scope opens next, behind the end of what has built its object
  stands_at : (D B : Type 0) (S : ℕ → Expr → Type 0) (todo : List Todo) → AtDrop g source D B S Every todo → Awaited S todo → Stands g source D B S S todo
  stands_at D B S (piece.DropNow ∷ (piece.Within line ∷ (piece.Rest ss ∷ todo))) h e = ((e, h.0.1), h.1, h.2)
  stands_at D B S todo h e = absurd h

  module _ (s : State) (callers : W s.env.exec s.callers) (env : E s.env) where
    abbrev pub D : Type 0
    D = Done g told s.env.exec s.callers

    abbrev pub B : Type 0
    B = Begun g told s.env.exec s.run.this s.callers

    abbrev pub S : ℕ → Expr → Type 0
    S d e = Kept g told s.env.exec s.run.frame s.run.this d e

    abbrev pub H : List Mark → List Value → Type 0
    H ms vs = Holds s.env.exec s.run.frame s.run.this ms vs

    -- with other operands and something else to do
    pub here : (ns : List Mark) (todo : List Todo) (vs : List Value) → H ns vs → Ok g source D B S ns todo → N (at todo vs s)
    here ns todo vs k h = record { run = record { marks = ns; holds = k; ok = h }; callers = callers; env = env }

    pub go : (ns : List Mark) (todo : List Todo) (vs : List Value) → H ns vs → Ok g source D B S ns todo → T (Goes (at todo vs s))
    go ns todo vs k h = inl (here ns todo vs k h)

    -- with something to do before which nothing need be known
    pub afresh : (todo : List Todo) (vs : List Value) → Ok g source D B S [] todo → N (at todo vs s)
    afresh todo vs h = here [] todo vs tt h

    pub anew : (todo : List Todo) (vs : List Value) → Ok g source D B S [] todo → T (Goes (at todo vs s))
    anew todo vs h = inl (afresh todo vs h)

    -- and with something written
    pub go_in : (ns : List Mark) (todo : List Todo) (vs : List Value) (e : Env) → H ns vs → Ok g source D B S ns todo → K s.env e → T (Goes (at todo vs (in_env e s)))
    go_in ns todo vs e k h i = inl (kept.with_env (Runs g source told) (Waits g source told) calm (at todo vs s) (here ns todo vs k h) i)

    pub same : {f : Env} → f.exec ≡ s.env.exec → f.hand ≡ s.env.hand → f.house ≡ s.env.house → f.own ≡ s.env.own → K s.env f
    same x h k o = kept.keeps_like (Runs g source told) (Waits g source told) calm env x h k o

    pub stop : (f : RunFault) (todo : List Todo) (vs : List Value) → T (fault f todo vs s)
    stop f todo vs = record { run = tt; callers = callers; env = env }

    ends : (todo : List Todo) (vs : List Value) → T (Asks ask.End (at todo vs s))
    ends todo vs = record { run = tt; callers = callers; env = env }

    pub moved : (m : Moved (List Todo) Value) (todo : List Todo) (vs : List Value) → M m → T (piece.moves m (at todo vs s))
    moved (To t) todo vs m = inl m
    moved (Stops f) todo vs m = stop f todo vs

    pub write : (v w : Value) → K s.env (written v w s.env)
    write v w = kept.written_keeps (Runs g source told) (Waits g source told) calm v w s.env env

    pub outcome : (ms : List Mark) (o : Outcome) (todo : List Todo) (vs : List Value) → H ms vs → Ok g source D B S (Any ∷ ms) todo → T (piece.outcome_step o todo vs s)
    outcome ms (Gives n) todo vs k h = go (Any ∷ ms) todo _ (tt, k) h
    outcome ms (Faults f) todo vs k h = stop f todo vs

    pub element : (ms : List Mark) (k : Shape) (i : Option ℕ) (todo : List Todo) (v : Value) (vs : List Value) → H ms vs → Ok g source D B S (Any ∷ ms) todo → T (piece.element_step k i todo v vs s)
    element ms k None todo v vs l h = stop Index todo vs
    element ms k (Some i) todo v vs l h = go (Any ∷ ms) todo _ (tt, l) h

    pub condition : (ms : List Mark) (k : ℕ) (i : Option ℕ) (todo : List Todo) → H ms (below s.run.operands) → Ok g source D B S (Any ∷ ms) todo → T (monitors.condition_step k i todo s)
    condition ms k None todo l h = stop Index todo _
    condition ms k (Some i) todo l h = go (Any ∷ ms) todo _ (tt, l) h

    -- the end of an activation

    pub returned : (given : Value) (cs : List Active) → W s.env.exec cs → Done g told s.env.exec cs → T (piece.return_step given cs s)
    returned given [] c e = record { run = tt; callers = callers; env = env }
    returned given (a ∷ cs) (inl f, c) e = inl (record { run = record { marks = Any ∷ f.marks; holds = (tt, f.holds); ok = f.ok }; callers = c; env = likes env refl refl refl })
    returned given (a ∷ cs) (inr f, c) e = inr (record { now = inr (inl (stands_at (Done g told s.env.exec cs) (Begun g told s.env.exec a.this cs) (Kept g told s.env.exec a.frame a.this) a.control f e)); callers = c; env = likes env refl refl refl })

    past : (v : Visited) (given : Value) (cs : List Active) → W s.env.exec cs → T (raising.return_past v given cs s)
    past v given [] c = record { run = tt; callers = callers; env = env }
    past v given (a ∷ cs) c = inl (record { run = record { marks = []; holds = tt; ok = wait_left s.env.exec cs a c.0 }; callers = c.1; env = likes env refl refl refl })

    end_by : (v : Option Visited) (given : Value) → D → T (raising.end_by v given s)
    end_by None given e = returned given s.callers callers e
    end_by (Some v) given e = past v given s.callers callers

    end_step : (w : Way) → D → T (quiet.end_step w s)
    end_step src.ToReturn e = end_by s.run.handles _ e
    end_step src.ToEnd e = end_by s.run.handles _ e
    end_step src.ToBreak e = returned _ s.callers callers e
    end_step src.ToContinue e = returned _ s.callers callers e

    pub exits : (w : Way) (todo : List Todo) → Left g source D B S todo → Quits g source D B S todo → T (quiet.exit_step w todo s)
    exits w [] h q = end_step w q
    exits w (x ∷ xs) h q = anew _ _ (lists.left_behind g source D B S w (piece.sort x) xs h q)

    -- statements

    must : {X : Type 0} → ⊥ ⊎ X → X
    must (inl h) = absurd h
    must (inr h) = h

    pub swept : (n : ℕ) (e : Expr) (todo : List Todo) → CountedExpr source e → Ok g source D B S [] todo → T (quiet.sweep_step n e todo s)
    swept zero e todo n h = anew _ _ h
    swept (suc m) e todo n h = inl (record { run = record { marks = []; holds = tt; ok = (n, inl (tt, (n, h))) }; callers = callers; env = env })

    event_step : (a : EventStmt) (todo : List Todo) → CodeStmt g source (src.OfEvents a) → Ok g source D B S [] todo → Quits g source D B S todo → T (quiet.event_step a todo s)
    event_step (src.Throw line r) todo n h q = anew _ _ (lists.raised g source D B S r _ n.0 (tt, (tt, h)))
    event_step (src.Raise line r) todo n h q = anew _ _ (lists.raised g source D B S r _ n.0 (tt, (tt, h)))
    event_step (src.Try line body hs) todo n h q = anew _ _ ((n.1.0.0, (n.0.0, n.1.0.1)), ((n.0.1, n.1.1), (tt, h), q), inr q)
    event_step (src.RaiseAt line r a) todo n h q = anew _ _ (lists.raised g source D B S r _ (lists.counted_at g source D B S r n.0.0) (n.0.1, inl (tt, (tt, h))))
    event_step (src.Enable line events cell a) todo n h q = anew _ _ (tt, (tt, (n, inl ((tt, tt), inl (tt, h), tt), inr q)))
    event_step (src.Disable line events cell a) todo n h q = anew _ _ (tt, (n, inl ((tt, tt), inl (tt, h), tt), inr q))

    task_step : (a : TaskStmt) (todo : List Todo) → CodeStmt g source (src.OfTasks a) → Ok g source D B S [] todo → IsTame (src.OfTasks a) ⊎ Quits g source D B S todo → T (quiet.task_step a todo s)
    task_step (src.Resume line) todo n h q = anew _ _ (tt, (tt, (tt, h)))
    task_step (src.Suspend line) todo n h q = anew _ _ (tt, (tt, (tt, h)))
    task_step (src.SetUp r) todo n h q = anew _ _ (tt, h)
    task_step src.Enliven todo n h q = anew _ _ (tt, h)
    task_step src.TakeDown todo n h q = anew _ _ (tt, h)
    task_step (src.Yield line) todo n h q = anew _ _ (tt, (tt, (tt, h)))
    task_step (src.Migrate line a) todo n h q = anew _ _ (n.0, inl (tt, (tt, h)))
    task_step (src.Accept line site cs) todo n h q = anew _ _ (n, (tt, (n, (tt, h), must q)))

    -- the value of an expression that is evaluated by itself is dropped
    evaluates : (line : ℕ) (a : Expr) (todo : List Todo) → CountedExpr source a → Ok g source D B S [] todo ⊎ AtRest g source D B S (Makes g a) todo → Ok g source D B S [] (piece.Eval a ∷ (piece.DropNow ∷ (piece.Within line ∷ todo)))
    evaluates line a todo n (inl h) = (n, inl (tt, (tt, h)))
    evaluates line a todo n (inr h) = (n, inr (inl h))

    -- behind a statement that builds no such object
    plainly : (todo : List Todo) → Ok g source D B S [] todo ⊎ AtRest g source D B S (λ d k. ⊥) todo → Ok g source D B S [] todo
    plainly todo (inl h) = h
    plainly todo (inr h) = marks.rest_none g source D B S todo h

    pub stmt : (a : Stmt) (todo : List Todo) → CodeStmt g source a → Ok g source D B S [] todo ⊎ AtRest g source D B S (Before g a) todo → IsTame a ⊎ Quits g source D B S todo → T (quiet.stmt_step a todo s)
    stmt (src.Skip line) todo n h q = anew _ _ (plainly todo h)
    stmt (src.Block line body) todo n h q = anew _ _ ((n.1.0, (n.0, n.1.1)), (tt, plainly todo h), inr (must q))
    stmt (src.Whole line body) todo n h q = anew _ _ ((n.1.0, (n.0, n.1.1)), (tt, (tt, plainly todo h)), inr tt)
    stmt (src.Evaluate line a) todo n h q = anew _ _ (evaluates line a todo n.0 h)
    stmt (src.Declare line ds) todo n h q = anew _ _ (n.0, (tt, plainly todo h))
    stmt (src.Print line items) todo n h q = anew _ _ (n.0, (tt, plainly todo h))
    stmt (src.PrintTogether line items) todo n h q = anew _ _ (n.0, (tt, (n.0, (tt, (tt, plainly todo h)))))
    stmt (src.Read line ts) todo n h q = anew _ _ (n.0, (tt, plainly todo h))
    stmt (src.If line t a b) todo n h q = anew _ _ (n.0.0, inl (((n.0.1, n.1.0), (n.0.2, n.1.1)), (tt, plainly todo h), must q))
    stmt (src.Loop line o t e b) todo n h q = anew _ _ (lists.looped g source D B S o t e b _ n.0.0 n.0.1 (n.0.2, n.1) (tt, plainly todo h) (must q))
    stmt (src.Break line) todo n h q = anew _ _ (marks.left g source D B S [] todo (plainly todo h), must q)
    stmt (src.Continue line) todo n h q = anew _ _ (marks.left g source D B S [] todo (plainly todo h), must q)
    stmt (src.Return line None) todo n h q = anew _ _ (marks.left g source D B S [] todo (plainly todo h), must q)
    stmt (src.Return line (Some e)) todo n h q = anew _ _ (n.0, inl (marks.left g source D B S [] todo (plainly todo h), must q))
    stmt (src.Owes line) todo n h q = anew _ _ (tt, (tt, plainly todo h))
    stmt (src.Fill line m b d) todo n h q = anew _ _ (tt, (n.0, (tt, plainly todo h)))
    stmt (src.OfEvents a) todo n h q = event_step a todo n (plainly todo h) (must q)
    stmt (src.OfTasks a) todo n h q = task_step a todo n (plainly todo h) q

    -- where the scope of an object opens next, that is built
    behind_stmt : (a : Stmt) (ss : Stmts) (todo : List Todo) → CodeStmts g source (src.Then a ss) → Ok g source D B S [] todo → AreTame (src.Then a ss) ⊎ Quits g source D B S todo → Ok g source D B S [] (piece.Do a ∷ (piece.Rest ss ∷ todo))
    behind_stmt a ss todo n h (inl t) = ((n.0.0, n.1.0), inr ((n.1.1, (n.0.1, n.1.2)), h, inl t.1), inl t.0)
    behind_stmt a ss todo n h (inr q) = ((n.0.0, n.1.0), inr ((n.1.1, (n.0.1, n.1.2)), h, inr q), inr q)

    pub rest_of : (ss : Stmts) (todo : List Todo) → OpensOf S ss → CodeStmts g source ss → Ok g source D B S [] todo → AreTame ss ⊎ Quits g source D B S todo → T (quiet.rest_step ss todo s)
    rest_of src.Nil todo k n h q = anew _ _ h
    rest_of (src.Then a ss) todo k n h q = anew _ _ (behind_stmt a ss todo n h q)
    rest_of (src.Scoped c ss) todo k n h q = anew _ _ ((n.1.0, (n.0.1, n.1.1)), ((n.0.0, k), inl h, lists.quits_at g source D B S c todo (must q)), inr (must q))
    rest_of (src.Built c ss) todo k n h q = anew _ _ ((n.1.0, (n.0.1, n.1.1)), ((n.0.0, k), h), q)

    -- the building of an object begins that lets its task begin at its end
    spawning_at : (c : CleanUp) (todo : List Todo) → IsSpawning c → QuitsAt g source D B S c todo
    spawning_at src.Leaves todo h = absurd h
    spawning_at c todo h = tt

    pub start_of : (ss : Stmts) (todo : List Todo) → CodeBlock g source ss → B → Begins ss → AtEnd todo → T (quiet.rest_step ss todo s)
    start_of src.Nil todo n b h e = absurd h
    start_of (src.Then a ss) todo n b h e = absurd h
    start_of (src.Scoped c ss) todo n b h e =
        anew _ _ ((n.1.1.0, (n.1.0.1, n.1.1.1)), ((n.1.0.0, marks.scope_more (λ d e. ⊥) S (λ d e x. absurd x) c n.0), inr (b, h.0, e), spawning_at c todo h.0), inl h.1)
    start_of (src.Built c ss) todo n b h e = absurd h

    -- and that is now
    pub spawns : (r : ℕ) (todo : List Todo) → B → AtEnd todo → T (quiet.act source (piece.SpawnNow r) todo s)
    spawns r todo b e =
        either T (inside.is_held_up (monitors.this_object s) s.env) _ _ (stop BlockedInside (piece.ChildNow r ∷ todo) _) (record {
          run = (record { marks = []; holds = tt; ok = (tt, marks.end_ok g source (D ⊎ B) B S [] todo e (inr b)) }, refl);
          callers = callers;
          env = likes env refl refl refl;
        })

    -- the scope of such an object
    pub cleans_up : (c : CleanUp) (todo : List Todo) → CountedClean source c → Ok g source D B S [] todo ⊎ (B × IsSpawning c × AtEnd todo) → T (Goes (at (piece.clean_todo c todo) s.run.operands s))
    cleans_up c todo n (inl h) = anew _ _ (lists.cleans g source D B S c todo n h)
    cleans_up (src.Frees (Some r)) todo n (inr h) = inr (record { now = inl (h.0, h.2); callers = callers; env = env })
    cleans_up (src.Frees None) todo n (inr h) = absurd h.1
    cleans_up (src.Destroys e) todo n (inr h) = absurd h.1
    cleans_up (src.DestroysAll m e) todo n (inr h) = absurd h.1
    cleans_up src.Unwinds todo n (inr h) = absurd h.1
    cleans_up src.Forgets todo n (inr h) = absurd h.1
    cleans_up src.Leaves todo n (inr h) = absurd h.1
    cleans_up src.Ends todo n (inr h) = absurd h.1
    cleans_up (src.Restores k) todo n (inr h) = absurd h.1

    pub land : (o : Option UnwindReason) (ms : List Mark) (todo : List Todo) → H ms s.run.operands → Ok g source D B S ms todo → T (quiet.land_step o todo s)
    land None ms todo k h = go ms _ _ k h
    land (Some why) ms todo k h = anew _ _ (marks.left g source D B S ms todo h)

    -- events

    throws : (e : raising.Event) (todo : List Todo) → Left g source D B S todo → T (raising.throw_step e todo s)
    throws e todo h = inl (record { run = record { marks = []; holds = tt; ok = h }; callers = callers; env = env })

    pub thrown : (e : raising.Event) (todo : List Todo) → Ok g source D B S [] todo → T (raising.throw_step e todo s)
    thrown e todo h = throws e todo (marks.left g source D B S [] todo h)

    -- the activation that raised goes on without the event
    handles : (ms : List Mark) (f : Option Found) (e : raising.Event) (todo : List Todo) → H ms s.run.operands → lists.OfFound g source f → Ok g source D B S (rests 3 ms) todo → T (raising.handle_step f e todo s)
    handles ms None e todo k n h = throws e todo (marks.left g source D B S (rests 3 ms) todo h)
    handles ms (Some f) e todo k n h =
        let below_it : List Value = below (below (below s.run.operands)) in
        let b : Active = record s.run { control = piece.DropNow ∷ todo; operands = below_it } in
        inl (record {
          run = record { marks = []; holds = tt; ok = lists.handled g source (Done g told s.env.exec (b ∷ s.callers)) (Begun g told s.env.exec f.this (b ∷ s.callers)) (Kept g told s.env.exec f.frame f.this) f.handler [] n (none_behind D B S (λ d e. Kept g told s.env.exec b.frame b.this d e) (rests 3 ms) todo h) (none_behind D B S (λ d e. Kept g told s.env.exec b.frame b.this d e) (rests 3 ms) todo h) };
          callers = (inl (record { marks = rests 3 ms; holds = holds_below s.env.exec s.run.frame s.run.this (rests 2 ms) _ (holds_below s.env.exec s.run.frame s.run.this (rests 1 ms) _ (holds_below s.env.exec s.run.frame s.run.this ms _ k)); ok = (tt, h) }), callers);
          env = likes env refl refl refl;
        })

    pub raises : (ms : List Mark) (e : raising.Event) (todo : List Todo) → H ms s.run.operands → Ok g source D B S (rests 3 ms) todo → T (raising.raise_step e todo s)
    raises ms e todo k h =
        let round : List Active = (record s.run { control = todo }) ∷ s.callers in
        handles ms (raising.seek None e round) e todo k (seek s.env.exec None e round (marks.left g source D B S (rests 3 ms) todo h, waits_left s.env.exec s.callers callers)) h

    -- unwinding

    catches : (o : Option Handler) (e : raising.Event) (todo : List Todo) → lists.OfHandler g source o → Ok g source D B S [] todo → Quits g source D B S todo → T (raising.catch_step o e todo s)
    catches None e todo n h q = anew _ _ (marks.left g source D B S [] todo h)
    catches (Some x) e todo n h q = inl (record { run = record { marks = []; holds = tt; ok = lists.handled g source D B S x todo n h q }; callers = callers; env = env })

    guarded : (hs : Handlers) (o : Option UnwindReason) (todo : List Todo) → CodeHandlers g source hs → Ok g source D B S [] todo → Quits g source D B S todo → T (raising.guard_left hs o todo s)
    guarded hs (Some (reason.Event n x y)) todo k h q =
        catches _ _ todo (lists.handler_for g source false (record { number = n; x = x; y = y }) hs k) h q
    guarded hs o todo k h q = anew _ _ (marks.left g source D B S [] todo h)

    whole : (b : Bool) (todo : List Todo) → Ok g source D B S [] todo → T (raising.whole_left b todo s)
    whole true todo h = inl (record { run = record { marks = []; holds = tt; ok = h }; callers = callers; env = env })
    whole false todo h = anew _ _ (marks.left g source D B S [] todo h)

    scope : (c : CleanUp) (b : Bool) (todo : List Todo) → CountedClean source c → Ok g source D B S [] todo ⊎ (B × IsSpawning c × AtEnd todo) → QuitsAt g source D B S c todo → T (raising.scope_left c b todo s)
    scope src.Leaves true todo n (inl h) q = inl (record { run = record { marks = []; holds = tt; ok = (tt, (marks.left g source D B S [] todo h, q)) }; callers = callers; env = env })
    scope src.Leaves true todo n (inr h) q = absurd h.1
    scope c b todo n h q = anew (raising.left_todo c (piece.Unwind ∷ todo)) [] (lists.left_cleans g source D B S c (piece.Unwind ∷ todo) n (marks.clean_tail g source D B S c todo h))

    main_left : (o : Option UnwindReason) (todo : List Todo) → D × Ok g source D B S [] todo → T (raising.main_left o todo s)
    main_left (Some (reason.ReturnTo n)) todo h = inl (record { run = record { marks = []; holds = tt; ok = h }; callers = callers; env = env })
    main_left o todo h = stop Unhandled todo []

    coroutine_left : (o : Option UnwindReason) (todo : List Todo) → Ok g source D B S [] todo → T (raising.coroutine_left o todo s)
    coroutine_left (Some (reason.ReturnTo n)) todo h = inl (record { run = record { marks = []; holds = tt; ok = (tt, h) }; callers = callers; env = env })
    coroutine_left (Some reason.Destroyed) todo h = moved _ todo _ (kept.taken_down_rests (Runs g source told) (Waits g source told) calm (at todo [] s) (afresh todo [] h))
    coroutine_left o todo h = moved _ todo _ (kept.escape_rests (Runs g source told) (Waits g source told) calm (at todo [] s) (afresh todo [] h))

    unwind_past : (k : Sort) (todo : List Todo) → LeftBy g source D B S k todo (Left g source D B S todo) (Ok g source D B S [] todo) → T (raising.unwind_past k todo s)
    unwind_past piece.Simple todo h = anew _ _ h
    unwind_past (piece.IsLoop o t e b) todo h = anew _ _ (marks.left g source D B S [] todo h.1)
    unwind_past piece.IsWhole todo h = whole _ todo h
    unwind_past (piece.IsClean c) todo h = scope c _ todo h.0.0 h.1 h.2
    unwind_past (piece.IsFill m b d) todo h = anew _ _ (h.0.1, marks.left g source D B S [] todo h.1)
    unwind_past (piece.IsSweep e) todo h = anew _ _ (h.0, marks.left g source D B S [] todo h.1)
    unwind_past (piece.IsPart c) todo h = anew _ _ (lists.cleans g source D B S c _ h.0.0 (marks.left g source D B S [] todo h.1))
    unwind_past (piece.IsGuard hs) todo h = guarded hs s.run.raised todo h.0 h.1 h.2
    unwind_past piece.IsFinish todo h = main_left s.run.raised todo h
    unwind_past piece.IsFinishCoroutine todo h = coroutine_left s.run.raised todo h

    pass_on : (o : Option UnwindReason) (c : Active) (cs : List Active) → WaitLeft s.env.exec cs c → W s.env.exec cs → T (raising.pass_on o c cs s)
    pass_on None c cs a b = record { run = tt; callers = callers; env = env }
    pass_on (Some why) c cs a b = inl (record { run = record { marks = []; holds = tt; ok = a }; callers = b; env = likes env refl refl refl })

    leave_for : (b : Bool) (c : Active) (cs : List Active) → WaitLeft s.env.exec cs c → W s.env.exec cs → T (raising.leave_for b c cs s)
    leave_for true c cs a b = record { run = tt; callers = callers; env = env }
    leave_for false c cs a b = pass_on s.run.raised c cs a b

    leaves : (cs : List Active) → W s.env.exec cs → (raising.arrives s.run.raised (length cs) ≡ true → Done g told s.env.exec cs) → T (raising.leave_step cs s)
    leaves [] c f = record { run = tt; callers = callers; env = env }
    leaves (c ∷ cs) w f =
        tested T (raising.arrives s.run.raised (length (c ∷ cs))) _ _ (λ e. returned s.run.result (c ∷ cs) w (f e)) (leave_for _ c cs (wait_left s.env.exec cs c w.0) w.1)

    pub unwinds : (todo : List Todo) → FairAt g source told (piece.Unwind ∷ todo) s → Left g source D B S todo → T (raising.unwind_step todo s)
    unwinds [] e h = leaves s.callers callers e
    unwinds (x ∷ xs) e h = unwind_past (piece.sort x) xs h

    -- printing

    pub prints : (o : Option (List Piece)) (p : Piece) (todo : List Todo) (vs : List Value) → Ok g source D B S [] todo → T (piece.print_step o p todo vs s)
    prints None p todo vs h = record { run = record { marks = []; holds = tt; ok = h }; callers = callers; env = env }
    prints (Some ps) p todo vs h = go_in [] _ _ _ tt h (same refl refl refl refl)

    pub flushes : (o : Option (List Piece)) (todo : List Todo) (vs : List Value) → Ok g source D B S [] todo → T (piece.flush_step o todo vs s)
    flushes None todo vs h = anew _ _ h
    flushes (Some []) todo vs h = go_in [] _ _ _ tt h (same refl refl refl refl)
    flushes (Some (p ∷ ps)) todo vs h = record { run = record { marks = []; holds = tt; ok = h }; callers = callers; env = likes env refl refl refl }

    -- with what is known of the operands
    module _ (ms : List Mark) (holds : H ms s.run.operands) where
      pub one : H (rest ms) (below s.run.operands)
      one = holds_below s.env.exec s.run.frame s.run.this ms s.run.operands holds

      pub two : H (rest (rest ms)) (below (below s.run.operands))
      two = holds_below s.env.exec s.run.frame s.run.this (rest ms) (below s.run.operands) one

      -- expressions

      object : (o : ObjectExpr) (todo : List Todo) → CountedObject source o → Ok g source D B S (Any ∷ ms) todo → T (quiet.object_step o todo s)
      object src.This todo n h = go (Any ∷ ms) _ _ (tt, holds) h
      object (src.OwnField k i) todo n h = go (Any ∷ ms) _ _ (tt, holds) h
      object (src.GetOwn k i) todo n h = go (Any ∷ ms) _ _ (tt, holds) h
      object (src.FieldOf k i a) todo n h = go ms _ _ holds (n, inl (tt, h))
      object src.Counted todo n h = go (Any ∷ ms) _ _ (tt, holds) h
      object (src.CallOn r a args) todo n h = go ms _ _ holds (n.0, inl (n.1, (tt, (tt, lists.called_on g source D B S (count args) r Any ms todo n.2 h))))
      object (src.CallLive r a args) todo n h = go ms _ _ holds (n.0, inl (n.1, (tt, (tt, (tt, lists.called_on g source D B S (count args) r Any ms todo n.2 h)))))
      object (src.CallUnwritten r a) todo n h = go ms _ _ holds (n.0, inl (tt, lists.called_on g source D B S 0 r Any ms todo n.1 h))
      object (src.EnterOn m r a args) todo n h = go ms _ _ holds (n.0, inl (n.1, (tt, (tt, (tt, lists.called_on g source D B S (count args) r Any ms todo n.2 h)))))
      object (src.EndOn r false a) todo n h = go ms _ _ holds (n.0, inl (tt, (tt, lists.called_on g source D B S 0 r Any ms todo n.1 h)))
      object (src.EndOn r true a) todo n h = go ms _ _ holds (n.0, inl (tt, (tt, (tt, lists.called_on g source D B S 0 r Any ms todo n.1 h))))
      object (src.Bind a b) todo n h = go ms _ _ holds (n.0, inl (n.1, inl (tt, h)))
      object (src.MakeOn c r false a args) todo n h = go ms _ _ holds (n.0, inl (n.1, inl (tt, lists.made_on g source D B S (count args) r ms todo n.2 h)))
      object (src.MakeOn c r true a args) todo n h = go ms _ _ holds (n.0, inl (n.1, (tt, inl (tt, lists.made_on g source D B S (count args) r ms todo n.2 h))))
      object src.NewCluster todo n h = go ms _ _ holds (tt, h)
      object (src.NewProcessor a) todo n h = go ms _ _ holds (n, inl (tt, h))
      object (src.EndCluster a) todo n h = go ms _ _ holds (n, inl (tt, h))
      object (src.EndProcessor a) todo n h = go ms _ _ holds (n, inl (tt, h))
      object (src.ConditionAt k m a) todo n h = go ms _ _ holds (n, inl (tt, h))
      object (src.Wait a b) todo n h = go ms _ _ holds (n.0, inl (n.1, inl (tt, (tt, h))))
      object (src.Signal a) todo n h = go ms _ _ holds (n, inl (tt, h))
      object (src.SignalBlock a) todo n h = go ms _ _ holds (n, inl (tt, h))
      object (src.IsEmpty a) todo n h = go ms _ _ holds (n, inl (tt, h))
      object (src.FrontOf a) todo n h = go ms _ _ holds (n, inl (tt, h))

      eval : (a : Expr) (todo : List Todo) → CountedExpr source a → Ok g source D B S (Any ∷ ms) todo → T (quiet.eval_step a todo s)
      eval (src.Literal k) todo n h = go (Any ∷ ms) _ _ (tt, holds) h
      eval (src.Variable k) todo n h = go (Any ∷ ms) _ _ (tt, holds) h
      eval (src.Element m k a i) todo n h = go ms _ _ holds (n.0, inl (n.1, inl (tt, h)))
      eval (src.Get k) todo n h = go (Any ∷ ms) _ _ (tt, holds) h
      eval (src.Load a) todo n h = go ms _ _ holds (n, inl (tt, h))
      eval (src.Negated a) todo n h = go ms _ _ holds (n, inl (tt, h))
      eval (src.Not a) todo n h = go ms _ _ holds (n, inl (tt, h))
      eval (src.AsCharacter a) todo n h = go ms _ _ holds (n, inl (tt, h))
      eval (src.AsTruth a) todo n h = go ms _ _ holds (n, inl (tt, h))
      eval (src.Operate op a b) todo n h = go ms _ _ holds (n.0, inl (n.1, inl (tt, h)))
      eval (src.And a b) todo n h = go ms _ _ holds (n.0, inl ((n.1, tt), h))
      eval (src.Or a b) todo n h = go ms _ _ holds (n.0, inl ((tt, n.1), h))
      eval (src.Set k a) todo n h = go ms _ _ holds (n, inl (tt, h))
      eval (src.Assign p a) todo n h = go ms _ _ holds (n.0, inl (n.1, inl (tt, h)))
      eval (src.First a b) todo n h = go ms _ _ holds (n.0, inl (n.1, inl (tt, h)))
      eval (src.Update op k p a) todo n h = go ms _ _ holds (n.0, inl (tt, (tt, (n.1, inl (tt, lists.converts g source D B S k (Any ∷ ms) _ (tt, h))))))
      eval (src.StepBehind op k p) todo n h =
          go ms _ _ holds (n, inl (tt, (tt, (tt, (tt, (tt, inl (tt, lists.converts g source D B S k (Any ∷ (Any ∷ (Any ∷ ms))) _ (tt, (tt, h)))))))))
      eval src.Fail todo n h = record { run = record { marks = ms; holds = holds; ok = h }; callers = callers; env = env }
      eval (src.Call r args) todo n h = go ms _ _ holds (n.0, (tt, (tt, lists.called g source D B S args r ms todo n.1 h)))
      eval (src.OfObject o) todo n h = object o todo n h

      placed : (e : Expr) (todo : List Todo) → Placed e (λ q. Ok g source D B S (At q ∷ ms) todo) → T (quiet.eval_step e todo s)
      placed (src.Variable k) todo h = go (At (src.Variable k) ∷ ms) _ _ (refl, holds) h
      placed (src.OfObject (src.OwnField k i)) todo h = go (At (src.OfObject (src.OwnField k i)) ∷ ms) _ _ (refl, holds) h
      placed e todo h = absurd h

      -- a mutex object is made at a place of a seat
      made_at : (c r : ℕ) (written : Bool) (q : Expr) (args : Exprs) (todo : List Todo) → ((l : List Todo) → Ok g source D B S (At q ∷ ms) l → Ok g source D B S ms (piece.Eval q ∷ l)) → CountedExpr source q × CountedExprs source args × (count args ≡ params source r) → AtDrop g source D B S (CalledAt g r q) todo → T (quiet.object_step (src.MakeOn c r written q args) todo s)
      made_at c r false q args todo f n h =
          go ms _ _ holds (f (piece.Arguments args ∷ (piece.MakeNow c r ∷ (piece.CallUnwrittenNow r ∷ todo))) (n.1, inr (refl, lists.called_at g source D B S (count args) r q ms todo n.2 h)))
      made_at c r true q args todo f n h =
          go ms _ _ holds (f (piece.Arguments args ∷ (piece.TickNow ∷ (piece.MakeNow c r ∷ (piece.CallOnNow r ∷ todo)))) (n.1, (tt, inr (refl, lists.called_at g source D B S (count args) r q ms todo n.2 h))))

      builds : (e : Expr) (todo : List Todo) → CountedExpr source e → AtDrop g source D B S (Makes g e) todo → T (quiet.eval_step e todo s)
      builds (src.OfObject (src.MakeOn c r written (src.Variable k) args)) todo n h =
          made_at c r written (src.Variable k) args todo (λ l x. (tt, inr (inr x))) n h
      builds (src.OfObject (src.MakeOn c r written (src.OfObject (src.OwnField k i)) args)) todo n h =
          made_at c r written (src.OfObject (src.OwnField k i)) args todo (λ l x. (tt, inr (inr x))) n h
      builds e todo n h = eval e todo n (marks.drop_none g source D B S (Any ∷ ms) todo h)

      pub evals : (e : Expr) (todo : List Todo) → CountedExpr source e → Ok g source D B S (Any ∷ ms) todo ⊎ (AtDrop g source D B S (Makes g e) todo ⊎ Placed e (λ q. Ok g source D B S (At q ∷ ms) todo)) → T (quiet.eval_step e todo s)
      evals e todo n (inl h) = eval e todo n h
      evals e todo n (inr (inl h)) = builds e todo n h
      evals e todo n (inr (inr h)) = placed e todo h

      -- calls

      begun : (r : Routine) (this : Value) (counts : Bool) (todo : List Todo) (vs : List Value) → CodeBlock g source r.body → Waits g source told s.env.exec s.callers (record s.run { control = todo; operands = vs }) → Awaited S todo → T (quiet.begun_step r this counts todo vs s)
      begun r this counts todo vs n w d =
          let b : Active = record s.run { control = todo; operands = vs } in
          inl (record {
            run = record { marks = []; holds = tt; ok = lists.routine g source (Done g told s.env.exec (b ∷ s.callers)) (Begun g told s.env.exec this (b ∷ s.callers)) (Kept g told s.env.exec (length s.env.frames) this) r d n };
            callers = (w, callers);
            env = likes env refl refl refl;
          })

      waits : (ns : List Mark) (todo : List Todo) (vs : List Value) → H ns vs → Ok g source D B S (Any ∷ ns) todo → Waits g source told s.env.exec s.callers (record s.run { control = todo; operands = vs })
      waits ns todo vs k h = inl (record { marks = ns; holds = k; ok = h })

      dropped : (n : ℕ) → H (rests n ms) (drop n s.run.operands)
      dropped n = holds_drop s.env.exec s.run.frame s.run.this n ms s.run.operands holds

      dropped_one : (n : ℕ) → H (rests (suc n) ms) (below (drop n s.run.operands))
      dropped_one n = holds_below s.env.exec s.run.frame s.run.this (rests n ms) (drop n s.run.operands) (dropped n)

      pub call : (r : Option Routine) (todo : List Todo) → CodeRoutine g source r → Ok g source D B S (Any ∷ rests (params_at r) ms) todo → T (quiet.call_step r todo s)
      call None todo n h = ends _ _
      call (Some r) todo n h = either T (nat_lt s.env.links.calls CALLS) _ _ (begun r _ true todo _ n (waits (rests r.params ms) todo _ (dropped r.params) h) (none_awaited D B S S (Any ∷ rests r.params ms) todo h)) (stop Depth todo _)

      pub call_on : (r : Option Routine) (todo : List Todo) → CodeRoutine g source r → Ok g source D B S (Any ∷ rests (suc (params_at r)) ms) todo → T (quiet.call_on_step r todo s)
      call_on None todo n h = ends _ _
      call_on (Some r) todo n h = either T (nat_lt s.env.links.calls CALLS) _ _ (begun r _ true todo _ n (waits (rests (suc r.params) ms) todo _ (dropped_one r.params) h) (none_awaited D B S S (Any ∷ rests (suc r.params) ms) todo h)) (stop Depth todo _)

      pub call_unwritten : (r : Option Routine) (todo : List Todo) → CodeRoutine g source r → Ok g source D B S (Any ∷ rests (suc (params_at r)) ms) todo → T (quiet.call_unwritten_step r todo s)
      call_unwritten None todo n h = ends _ _
      call_unwritten (Some r) todo n h = begun r _ false todo _ n (waits (rests (suc r.params) ms) todo _ (dropped_one r.params) h) (none_awaited D B S S (Any ∷ rests (suc r.params) ms) todo h)

      pub live : (r : Option Routine) (todo : List Todo) → Ok g source D B S ms todo → T (quiet.live_step r todo s)
      live None todo h = ends _ _
      live (Some r) todo h = either (T) (sw.is_live (piece.exec_at (top (drop r.params s.run.operands)) s.env) s.env) _ _ (go ms _ _ holds h) (stop NotLive todo _)

      pub set_up : (r : Option Routine) (todo : List Todo) → CodeRoutine g source r → Ok g source D B S [] todo → T (quiet.set_up_step r todo s)
      set_up None todo n h = anew _ _ h
      set_up (Some r) todo n h =
          let at_home = quiet.home_at s.run.this s.env in
          let b : K s.env (sw.born at_home (quiet.fresh r s.run.this) s.env) = kept.born_keeps (Runs g source told) (Waits g source told) calm at_home (quiet.fresh r s.run.this) s.env (λ k. record { run = record { marks = []; holds = tt; ok = lists.routine g source (Unit {0}) (Unit {0}) (Kept g told (kept.at_home at_home k) 0 s.run.this) r tt n }; callers = tt }) env in
          go_in [] _ _ _ tt h (kept.keeps_both (Runs g source told) (Waits g source told) calm b (kept.written_keeps (Runs g source told) (Waits g source told) calm s.run.this _ _ b.env))

      -- mutex objects

      pub unless : (o : ℕ) (step : Step) (todo : List Todo) → T step → T (monitors.unless_held_up o step todo s)
      unless o step todo k = either (T) (inside.is_held_up o s.env) _ step (stop BlockedInside todo _) k

      enter_at : (d : Option ℕ) (o m : ℕ) (todo : List Todo) → Ok g source D B S ms todo → T (monitors.enter_at d o m todo s)
      enter_at (Some d) o m todo h = go_in ms _ _ _ holds h (same refl refl refl refl)
      enter_at None o m todo h = record { run = record { marks = ms; holds = holds; ok = h }; callers = callers; env = likes env refl refl refl }

      pub enter : (m : ℕ) (r : Option Routine) (todo : List Todo) → Ok g source D B S ms todo → T (monitors.enter_step m r todo s)
      enter m None todo h = ends _ _
      enter m (Some r) todo h =
          let o = piece.object_in (top (drop r.params s.run.operands)) in
          either (T) (monitors.may_call r.written s) _ _ (enter_at (find o s.env.depths) o m todo h) (stop Depth todo _)

      pub leave : (b : Bool) (o : ℕ) (todo : List Todo) → Ok g source D B S ms todo → T (monitors.leave_at b o todo s)
      leave false o todo h = go_in ms _ _ _ holds h (same refl refl refl refl)
      leave true o todo h =
          unless o _ todo (record { run = record { marks = ms; holds = holds; ok = lists.polled g source D B S s.run.raised ms todo h }; callers = callers; env = likes env refl refl refl })

      pub make : (c k : ℕ) (r : Option Routine) (todo : List Todo) → Ok g source D B S ms (piece.MakeNow c k ∷ todo) → T (monitors.make_step c k r todo s)
      make c k None todo h = ends _ _
      make c k (Some r) todo h =
          either T (monitors.may_call r.written s) _ _ (record { run = record { marks = ms; holds = holds; ok = h }; callers = callers; env = likes env refl refl refl }) (stop Depth todo _)

      pub bind_any : (r : Routine) (todo : List Todo) → Ok g source D B S (anys (suc r.params) (rests (suc r.params) (rest ms))) todo → T (monitors.bind_step (Some r) todo s)
      bind_any r todo h =
          let n = r.params in
          let vs = below s.run.operands in
          let v = top s.run.operands in
          let under : H (rests (suc n) (rest ms)) (drop (suc n) (slice_set vs n v)) = subst (H (rests (suc n) (rest ms))) (sym (drop_set n v vs)) (holds_drop s.env.exec s.run.frame s.run.this (suc n) (rest ms) vs one) in
          go_in (anys (suc n) (rests (suc n) (rest ms))) todo _ _ (holds_anys s.env.exec s.run.frame s.run.this (suc n) (rests (suc n) (rest ms)) (slice_set vs n v) under) h (write _ _)

      pub accept : (mask o site : ℕ) (todo : List Todo) (vs : List Value) → Ok g source D B S [] todo → T (monitors.accept_by mask o site todo vs s)
      accept zero o site todo vs h = anew _ _ h
      accept (suc mask) o site todo vs h = unless o _ todo (record { run = record { marks = []; holds = tt; ok = (tt, (tt, h)) }; callers = callers; env = env })

      pub failed : (b : Bool) (todo : List Todo) (vs : List Value) → Ok g source D B S [] todo → T (monitors.failed_step b todo vs s)
      failed true todo vs h = anew _ _ h
      failed false todo vs h = anew _ _ (tt, h)

      -- events elsewhere

      pend : (n : Exec) (e : raising.Event) (todo : List Todo) (vs : List Value) → Ok g source D B S [] todo → T (polls.pend_step n e todo vs s)
      pend n e todo vs h =
          either (T) (nat_lt (length (inside.pending_at n s.env)) PENDING_EVENTS) _ _ (go_in [] _ _ _ tt h (kept.links_keeps (Runs g source told) (Waits g source told) calm (λ l. record l { pending = l.pending ++ (record { event = e.number; x = e.x; y = e.y }) ∷ [] }) n s.env env)) (stop TooManyPending todo vs)

      pend_at : (o : Option Exec) (e : raising.Event) (todo : List Todo) (vs : List Value) → Ok g source D B S [] todo → T (polls.pend_at o e todo vs s)
      pend_at None e todo vs h = stop NotLive todo vs
      pend_at (Some n) e todo vs h = either (T) (sw.is_live (Some n) s.env) _ _ (pend n e todo vs h) (stop NotLive todo vs)

      pub raise_at : (v : Value) (e : raising.Event) (todo : List Todo) (vs : List Value) → Ok g source D B S [] todo → T (polls.raise_at_step v e todo vs s)
      raise_at (Object o) e todo vs h = record { run = record { marks = []; holds = tt; ok = h }; callers = callers; env = env }
      raise_at v e todo vs h = pend_at (piece.exec_at v s.env) e todo vs h

      enabled_in : {e f : Env} → K s.env e → f.exec ≡ e.exec → f.hand ≡ e.hand → f.house ≡ e.house → f.own ≡ e.own → K s.env f
      enabled_in k x h g o = kept.keeps_both _ _ calm k (kept.keeps_like _ _ calm k.env x h g o)

      pub enables : (events cell : ℕ) (todo : List Todo) → Ok g source D B S [] todo → T (polls.enable_step events cell todo s)
      enables events cell todo h = go_in [] _ _ _ tt h (enabled_in (write (piece.variable_at cell s) (Number (signed_64 s.env.links.enabled))) refl refl refl refl)

      quiet_poll : (o : Option Pending) (todo : List Todo) → Ok g source D B S ms todo → T (polls.quiet_poll o todo s)
      quiet_poll None todo h = go ms _ _ holds h
      quiet_poll (Some p) todo h =
          let vs : List Value = Number p.y ∷ (Number p.x ∷ (Number (pos p.event) ∷ s.run.operands)) in
          kept.with_env (Runs g source told) (Waits g source told) calm (at (piece.DeliverNow ∷ todo) vs s) (here (Any ∷ (Any ∷ (Any ∷ ms))) (piece.DeliverNow ∷ todo) vs (tt, (tt, (tt, holds))) (tt, h)) (same refl refl refl refl)

      poll_by : (b : Bool) (todo : List Todo) → Ok g source D B S ms todo → T (polls.poll_by b todo s)
      poll_by true todo h = record { run = record { marks = ms; holds = holds; ok = (tt, h) }; callers = callers; env = env }
      poll_by false todo h = quiet_poll (inside.oldest_enabled s.env.links) todo h

      pub poll : (todo : List Todo) → Ok g source D B S ms todo → T (polls.poll_step todo s)
      poll todo h = either (T) (nat_eq s.env.links.enabled 0) _ _ (go ms _ _ holds h) (poll_by (inside.is_own s.env) todo h)

      pub deliver : (v : Value) (todo : List Todo) → Ok g source D B S (rests 3 ms) todo → T (polls.deliver_step v todo s)
      deliver Nothing todo h = go (rests 3 ms) _ _ (dropped 3) h
      deliver v todo h = go ms _ _ holds (tt, (tt, h))

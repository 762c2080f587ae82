-- A quiet step of a task in order leads to one, or asks as one does.
use Rattle.std.proofs.Common.{◌≡◌, ℕ, zero, suc, ◌⊎◌, inl, inr, ◌++◌, Bool, true, false, List, [], ◌∷◌, length, drop, Option, Some, None, refl, sym, ap, ◌∙◌, subst}
use Rattle.std.specs.Prelude.{nat_eq, nat_lt, is_some, if◌then◌else◌}
use Rattle.uc_tree.specs.declared.limits.TheConstants.{CALLS, PENDING_EVENTS}
use Rattle.uc_tree.specs.Source as src
use Rattle.uc_tree.specs.Source.{Shape, Expr, ObjectExpr, Stmt, Stmts, EventStmt, TaskStmt, Routine, Way, CleanUp, Handlers, Source}
use Rattle.uc_entry.specs.declared.fault.RunFault.{RunFault}
use Rattle.uc_entry.specs.declared.fault.RunFault.TheVariants.{Index, Depth, BlockedInside, TooManyPending, NotLive, Unhandled}
use Rattle.uc_entry.specs.declared.request.Piece.{Piece}
use Rattle.uc_entry.specs.declared.request.Request.{Request}
use Rattle.uc_entry.specs.declared.request.Request.TheVariants as ask
use Rattle.uc_entry.specs.Keyed.{find, signed_64}
use Rattle.uc_machine.specs.declared.exec.Exec.{Exec}
use Rattle.uc_machine.specs.declared.exec.Home.TheVariants as home
use Rattle.uc_machine.specs.declared.exec.Pending.{Pending}
use Rattle.uc_machine.specs.declared.exec.UnwindReason.{UnwindReason}
use Rattle.uc_machine.specs.declared.exec.UnwindReason.TheVariants as reason
use Rattle.uc_machine.specs.declared.exec.Visited.{Visited}
use Rattle.uc_machine.specs.Switches as sw
use Rattle.uc_machine.specs.Switches.{Moved, To, Stops}
use Rattle.uc_machine.specs.Insides as inside
use Rattle.uc_machine.specs.Raising as raising
use Rattle.uc_machine.specs.Raising.{Handler, Found}
use Rattle.uc_machine.specs.Monitors as monitors
use Rattle.uc_machine.specs.Polls as polls
use Rattle.uc_machine.specs.Quiet as quiet
use Rattle.uc_machine.specs.Pieces as piece
use Rattle.uc_machine.specs.Pieces.{Value, Number, Object, Nothing, Todo, Sort, Active, State, Env, Members, Step, Asks, Outcome, Gives, Faults, at, in_env, fault, top, below, number, written, object_in}
use Rattle.uc_depth_laws.proofs.Kept.{either}
use Rattle.uc_inner_laws.specs.Inner.{Part, Plain, Helper, Maker, Uncalled, Begun, Ground, ground_of, count, params_at, params, Exists, IsPlain, CalledOn, SetsUp, InnerExpr, InnerObject, InnerClean, InnerStmts, InnerStmt, InnerEvent, InnerTask, InnerHandlers, InnerRoutine}
use Rattle.uc_inner_laws.specs.Standing.{Mark, Any, Own, IsThing, IsNew, GivesUp, Holds, rest, rests, anys, bound, IsThere, IsObject, Known, ground, Base, calm, over, Ready, Ok, Left, LeftAt, IsHome, Backs, IsOlder, IsHere, Stands, Waits, StandsEnv, StandsWith, StandsState, brings, StandsAsk, StandsIn, StandsStep}
use Rattle.uc_inner_laws.proofs.Keeping as kept
use Rattle.uc_inner_laws.proofs.Keeping.{Kept}
use Rattle.uc_inner_laws.proofs.Marking as marks
use Rattle.uc_inner_laws.proofs.Marking.{holds_below, holds_drop, holds_bound, rests_anys, rests_bound, object_bound, object_top, ready_inside, ready_thing, Inside, inside_more, ground_inside, ground_made, stirred, called, alone, LeftStands}
use Rattle.uc_inner_laws.proofs.TodoLists as lists
use Rattle.uc_depth_laws.specs.Entering.{IsMainRoutine}

module _ (part : ℕ → Part) (source : Source) (mine : ℕ) where
  -- a task but for what its running activation has to do, with what is known behind that
  pub record Round (base : Base) (s : State) : Type 0 where
    pub callers : Waits part source s.env.exec.home s.callers
    pub env : StandsEnv part source s.env
    pub own : s.env.own ≡ mine
    pub here : IsHere s.env.own s.env.hand s.env.exec.home
    pub backed : base.ground.inside ≡ true → Backs s.env.exec.home (object_in s.run.this) s.callers
    pub thing : base.ground.made ≡ true → IsNew s.env.exec.home s.run.this
    pub waited : base.waited ≡ true → IsOlder s.callers
    pub reason : base.unwound ≡ true → is_some s.run.raised ≡ true

  module _ (s : State) (base : Base) (x : Round base s) where
    -- with this to do, and with something written
    pub go_in : (ns : List Mark) (todo : List Todo) (vs : List Value) (e : Env) → Holds s.env.exec.home s.run.this ns vs → Ok part source base ns todo → Kept part source mine s.env e → StandsState part source mine (at todo vs (in_env e s))
    go_in ns todo vs e k h i =
        kept.in_kept part source mine (at todo vs s) e i (record {
          run = record { base = base; marks = ns; holds = k; ok = h; backed = x.backed; thing = x.thing; waited = x.waited; reason = x.reason };
          callers = x.callers;
          env = x.env;
          own = x.own;
          here = x.here;
        })

    -- the environment changed in nothing that is kept
    pub likes : {e : Env} → e.hand ≡ s.env.hand → e.house ≡ s.env.house → e.own ≡ s.env.own → e.exec ≡ s.env.exec → Kept part source mine s.env e
    likes a b c d = record { env = kept.same part source mine x.env a b c; exec = d; own = c; hand = λ q i. subst (λ (l : List (ℕ × Members)). is_some (find q l) ≡ true) (sym a) i }

    -- with other operands and something else to do
    pub go : (ns : List Mark) (todo : List Todo) (vs : List Value) → Holds s.env.exec.home s.run.this ns vs → Ok part source base ns todo → StandsState part source mine (at todo vs s)
    go ns todo vs k h = record { run = record { base = base; marks = ns; holds = k; ok = h; backed = x.backed; thing = x.thing; waited = x.waited; reason = x.reason }; callers = x.callers; env = x.env; own = x.own; here = x.here }

    -- with something to do before which nothing need be known
    pub anew : (todo : List Todo) (vs : List Value) → Ok part source base [] todo → StandsState part source mine (at todo vs s)
    anew todo vs h = go [] todo vs tt h

    -- an activation like the running one, with this to do, which is unwound or not
    pub changed_in : (u : Bool) (a : Active) → a.this ≡ s.run.this → (u ≡ true → is_some a.raised ≡ true) → Ok part source (record base { unwound = u }) [] a.control → StandsState part source mine (record s { run = a })
    changed_in u a e why h = record {
      run = record {
        base = record base { unwound = u };
        marks = [];
        holds = tt;
        ok = h;
        backed = λ i. subst (λ v. Backs s.env.exec.home (object_in v) s.callers) (sym e) (x.backed i);
        thing = λ i. subst (IsNew s.env.exec.home) (sym e) (x.thing i);
        waited = x.waited;
        reason = why;
      };
      callers = x.callers;
      env = x.env;
      own = x.own;
      here = x.here;
    }

    -- as it is
    pub changed : (a : Active) → a.this ≡ s.run.this → a.raised ≡ s.run.raised → Ok part source base [] a.control → StandsState part source mine (record s { run = a })
    changed a e w h = changed_in base.unwound a e (λ i. ap is_some w ∙ x.reason i) h

    -- for a reason
    stirs : (a : Active) → a.this ≡ s.run.this → is_some a.raised ≡ true → (todo : List Todo) → a.control ≡ piece.Unwind ∷ todo → Left part source base todo → StandsState part source mine (record s { run = a })
    stirs a e w todo c h =
        changed_in true a e (λ i. w) (subst (Ok part source (stirred base) []) (sym c) (refl, marks.stir part source base todo h))

    -- no more
    calms : (a : Active) → a.this ≡ s.run.this → Ok part source (calm base) [] a.control → StandsState part source mine (record s { run = a })
    calms a e h = changed_in false a e (λ i. absurd (cc)) h

    -- where nothing is unwound there may be more
    pub lift : (todo : List Todo) → Ok part source (calm base) [] todo → Ok part source base [] todo
    lift todo h = marks.lift part source base [] todo h

    left_quiet : (todo : List Todo) → Ok part source (calm base) [] todo → Left part source base todo
    left_quiet todo h = marks.left_calm part source base todo h

    -- with a request
    pub asked_in : (r : Request) (ns : List Mark) (todo : List Todo) (vs : List Value) (e : Env) → (StandsWith part source mine (brings r) (at todo vs (in_env e s)) → StandsAsk part source mine r (at todo vs (in_env e s))) → StandsIn r s → Holds s.env.exec.home s.run.this ns vs → Ok part source base (brings r ++ ns) todo → Kept part source mine s.env e → StandsStep part source mine s (Asks r (at todo vs (in_env e s)))
    asked_in r ns todo vs e f i k h c = record {
      state = f (record {
        run = subst (λ (n : Exec). Stands part source n.home (brings r) (at todo vs s).run s.callers) (sym c.exec) (record { base = base; marks = ns; holds = k; ok = h; backed = x.backed; thing = x.thing; waited = x.waited; reason = x.reason });
        callers = subst (λ (n : Exec). Waits part source n.home s.callers) (sym c.exec) x.callers;
        env = c.env;
        own = c.own ∙ x.own;
        here = subst (λ (n : Exec). IsHere e.own e.hand n.home) (sym c.exec) (kept.here_kept part source mine c s.env.exec.home x.here);
      });
      inside = i;
      exec = c.exec;
      hand = λ q j. c.hand q j;
    }

    pub asked : (r : Request) (ns : List Mark) (todo : List Todo) (vs : List Value) → (StandsWith part source mine (brings r) (at todo vs s) → StandsAsk part source mine r (at todo vs s)) → StandsIn r s → Holds s.env.exec.home s.run.this ns vs → Ok part source base (brings r ++ ns) todo → StandsStep part source mine s (Asks r (at todo vs s))
    asked r ns todo vs f i k h = record {
      state = f (record { run = record { base = base; marks = ns; holds = k; ok = h; backed = x.backed; thing = x.thing; waited = x.waited; reason = x.reason }; callers = x.callers; env = x.env; own = x.own; here = x.here });
      inside = i;
      exec = refl;
      hand = λ q j. j;
    }

    -- whoever gives up the building of an object is not at home there
    pub gives_up : (todo : List Todo) → (ground base.ground todo).made ≡ true → GivesUp s.run.control → s.env.exec.home ≡ home.Object (monitors.this_object s) → ⊥
    gives_up todo m g e = (x.thing (sym (ground_made base.ground todo) ∙ m)).1 e

    pub takes_out : (todo : List Todo) (o : ℕ) → s.run.control ≡ piece.GoneNow ∷ todo → GivesUp s.run.control → s.env.exec.home ≡ home.Object o → ⊥
    takes_out todo o c g e = subst GivesUp c g

    pub unchanged : Kept part source mine s.env s.env
    unchanged = likes refl refl refl refl

    pub stop : (f : RunFault) (todo : List Todo) (vs : List Value) → StandsStep part source mine s (fault f todo vs s)
    stop f todo vs = record { state = x.env; inside = tt; exec = refl; hand = λ q j. j }

    pub moved : (m : Moved (List Todo) Value) (todo : List Todo) (vs : List Value) → kept.StandsMoved part source mine m → StandsStep part source mine s (piece.moves m (at todo vs s))
    moved (To t) todo vs m = m
    moved (Stops f) todo vs m = stop f todo vs

    pub write : (p v : Value) → Kept part source mine s.env (written p v s.env)
    write p v = kept.written_stands part source mine p v s.env x.env

    pub outcome : (ms : List Mark) (o : Outcome) (todo : List Todo) (vs : List Value) → Holds s.env.exec.home s.run.this ms vs → Ok part source base (Any ∷ ms) todo → StandsStep part source mine s (piece.outcome_step o todo vs s)
    outcome ms (Gives n) todo vs k h = go (Any ∷ ms) todo _ (tt, k) h
    outcome ms (Faults f) todo vs k h = stop f todo vs

    pub element : (ms : List Mark) (k : Shape) (i : Option ℕ) (todo : List Todo) (v : Value) (vs : List Value) → Holds s.env.exec.home s.run.this ms vs → Ok part source base (Any ∷ ms) todo → StandsStep part source mine s (piece.element_step k i todo v vs s)
    element ms k None todo v vs l h = stop Index todo vs
    element ms k (Some i) todo v vs l h = go (Any ∷ ms) todo _ (tt, l) h

    pub condition : (ms : List Mark) (k : ℕ) (i : Option ℕ) (todo : List Todo) → Holds s.env.exec.home s.run.this ms (below s.run.operands) → Ok part source base (Any ∷ ms) todo → StandsStep part source mine s (monitors.condition_step k i todo s)
    condition ms k None todo l h = stop Index todo _
    condition ms k (Some i) todo l h = go (Any ∷ ms) todo _ (tt, l) h

    -- whoever may wait here is inside by a mark of this activation or of an older one, or is at home in the object
    pub stands_in : (p : Todo) (todo : List Todo) → s.run.control ≡ p ∷ todo → (ground base.ground todo).inside ≡ true → Backs s.env.exec.home (object_in s.run.this) (s.run ∷ s.callers)
    stands_in p todo e i =
        marks.backs_first part source s.env.exec.home s.run s.callers base.ground (object_in s.run.this) refl x.backed (subst (Inside base.ground) (sym e) (inside_more base.ground p todo (ground_inside base.ground todo i)))

    back : (given : Value) (a : Active) (cs : List Active) → Waits part source s.env.exec.home (a ∷ cs) → StandsStep part source mine s (piece.return_step given (a ∷ cs) s)
    back given a cs c = record {
      run = record { base = c.0.base; marks = Any ∷ c.0.marks; holds = (tt, c.0.holds); ok = c.0.ok; backed = c.0.backed; thing = c.0.thing; waited = c.0.waited; reason = c.0.reason };
      callers = c.1;
      env = kept.same part source mine x.env refl refl refl;
      own = x.own;
      here = x.here;
    }

    -- the end of an activation for which another one waits
    pub returned : (given : Value) (cs : List Active) → IsOlder cs → Waits part source s.env.exec.home cs → StandsStep part source mine s (piece.return_step given cs s)
    returned given [] o c = absurd o
    returned given (a ∷ cs) o c = back given a cs c

    -- the end of a main, where nothing holds the task up
    pub finished : (given : Value) (cs : List Active) → inside.is_held_up s.env.own s.env ≡ false → Waits part source s.env.exec.home cs → StandsStep part source mine s (piece.return_step given cs s)
    finished given [] u c = record { state = (x.env, subst (λ o. inside.is_held_up o s.env ≡ false) x.own u); inside = tt; exec = refl; hand = λ q j. j }
    finished given (a ∷ cs) u c = back given a cs c

    -- an activation is left for one that waits, which is to be unwound
    left_for : (a : Active) (cs : List Active) (t : State) → Waits part source s.env.exec.home (a ∷ cs) → t.run.control ≡ piece.Unwind ∷ a.control → is_some t.run.raised ≡ true → t.run.this ≡ a.this → t.callers ≡ cs → t.env.hand ≡ s.env.hand → t.env.house ≡ s.env.house → t.env.own ≡ s.env.own → t.env.exec ≡ s.env.exec → StandsState part source mine t
    left_for a cs t w ec er et ecs eh ei eo ee =
        let l : LeftStands part source s.env.exec.home a cs = marks.stands_left part source s.env.exec.home (Any ∷ []) a cs w.0 in
        record {
          run = record {
            base = stirred l.base;
            marks = [];
            holds = tt;
            ok = subst (Ok part source (stirred l.base) []) (sym ec) (refl, marks.stir part source l.base a.control l.left);
            backed = λ i. subst (λ (n : Exec). Backs n.home (object_in t.run.this) t.callers) (sym ee) (subst (Backs s.env.exec.home (object_in t.run.this)) (sym ecs) (subst (λ v. Backs s.env.exec.home (object_in v) cs) (sym et) (l.backed i)));
            thing = λ i. subst (λ (n : Exec). IsNew n.home t.run.this) (sym ee) (subst (IsNew s.env.exec.home) (sym et) (l.thing i));
            waited = λ i. subst IsOlder (sym ecs) (l.waited i);
            reason = λ i. er;
          };
          callers = subst (λ (n : Exec). Waits part source n.home t.callers) (sym ee) (subst (Waits part source s.env.exec.home) (sym ecs) w.1);
          env = kept.same part source mine x.env eh ei eo;
          own = eo ∙ x.own;
          here = subst (λ (n : Exec). IsHere t.env.own t.env.hand n.home) (sym ee) (kept.here_kept part source mine (likes {e = t.env} eh ei eo ee) s.env.exec.home x.here);
        }

    past : (v : Visited) (given : Value) (cs : List Active) → IsOlder cs → Waits part source s.env.exec.home cs → StandsStep part source mine s (raising.return_past v given cs s)
    past v given [] o c = absurd o
    past v given (a ∷ cs) o c = left_for a cs _ c refl refl refl refl refl refl refl refl

    end_by : (v : Option Visited) (given : Value) → IsOlder s.callers → StandsStep part source mine s (raising.end_by v given s)
    end_by None given o = returned given s.callers o x.callers
    end_by (Some v) given o = past v given s.callers o x.callers

    end_step : (w : Way) → IsOlder s.callers → StandsStep part source mine s (quiet.end_step w s)
    end_step src.ToReturn o = end_by s.run.handles _ o
    end_step src.ToEnd o = end_by s.run.handles _ o
    end_step src.ToBreak o = returned _ s.callers o x.callers
    end_step src.ToContinue o = returned _ s.callers o x.callers

    pub exits : (w : Way) (todo : List Todo) → Left part source base todo → StandsStep part source mine s (quiet.exit_step w todo s)
    exits w [] h = end_step w (x.waited h)
    exits w (p ∷ ps) h = anew _ _ (lists.left_behind part source base w (piece.sort p) ps h)

    -- statements

    pub swept : (n : ℕ) (e : Expr) (todo : List Todo) → InnerExpr part source (ground base.ground todo) e → Ok part source base [] todo → StandsStep part source mine s (quiet.sweep_step n e todo s)
    swept zero e todo n h = anew _ _ h
    swept (suc m) e todo n h = changed _ refl refl (n, inl (tt, (n, h)))

    event_step : (a : EventStmt) (todo : List Todo) → InnerEvent part source (ground base.ground todo) a → Ok part source (calm base) [] todo → StandsStep part source mine s (quiet.event_step a todo s)
    event_step (src.Throw line r) todo n h = anew _ _ (lists.raised part source base r _ n (tt, (tt, h)))
    event_step (src.Raise line r) todo n h = anew _ _ (lists.raised part source base r _ n (tt, (tt, h)))
    event_step (src.Try line body hs) todo n h = anew _ _ (n.0, (n.1, (tt, h)))
    event_step (src.RaiseAt line r a) todo n h = anew _ _ (lists.raised part source base r _ n.0 (n.1, inl (tt, (tt, h))))
    event_step (src.Enable line events cell a) todo n h = anew _ _ (tt, (tt, (n, (tt, (tt, h)))))
    event_step (src.Disable line events cell a) todo n h = anew _ _ (tt, (n, (tt, (tt, h))))

    task_step : (a : TaskStmt) (todo : List Todo) → InnerTask part source (ground base.ground todo) a → Ok part source (calm base) [] todo → StandsStep part source mine s (quiet.task_step a todo s)
    task_step (src.Resume line) todo n h = anew _ _ (tt, (tt, (tt, h)))
    task_step (src.Suspend line) todo n h = anew _ _ (tt, (tt, (tt, h)))
    task_step (src.SetUp r) todo n h = anew _ _ (n.0, lift todo h)
    task_step src.Enliven todo n h = anew _ _ (tt, lift todo h)
    task_step src.TakeDown todo n h = anew _ _ (tt, lift todo h)
    task_step (src.Yield line) todo n h = anew _ _ (tt, (tt, (tt, h)))
    task_step (src.Migrate line a) todo n h = anew _ _ (n.1, inl (tt, (tt, h)))
    task_step (src.Accept line site cs) todo n h = anew _ _ (n.1, (n.0, (n.1, (tt, h))))

    pub stmt : (a : Stmt) (todo : List Todo) → InnerStmt part source (ground base.ground todo) a → Ok part source (calm base) [] todo → StandsStep part source mine s (quiet.stmt_step a todo s)
    stmt (src.Skip line) todo n h = anew _ _ (lift todo h)
    stmt (src.Block line body) todo n h = anew _ _ (n, (tt, h))
    stmt (src.Whole line body) todo n h = anew _ _ (n, (tt, (tt, h)))
    stmt (src.Evaluate line a) todo n h = anew _ _ (n, inl (tt, (tt, h)))
    stmt (src.Declare line ds) todo n h = anew _ _ (n, (tt, h))
    stmt (src.Print line items) todo n h = anew _ _ (n, (tt, h))
    stmt (src.PrintTogether line items) todo n h = anew _ _ (n, (tt, (n, (tt, (tt, h)))))
    stmt (src.Read line ts) todo n h = anew _ _ (n, (tt, h))
    stmt (src.If line t a b) todo n h = anew _ _ (n.0, inl ((n.1, n.2), (tt, h)))
    stmt (src.Loop line o t e b) todo n h = anew _ _ (lists.looped part source base o t e b _ n.0 n.1 n.2 (tt, h))
    stmt (src.Break line) todo n h = anew _ _ (left_quiet todo h)
    stmt (src.Continue line) todo n h = anew _ _ (left_quiet todo h)
    stmt (src.Return line None) todo n h = anew _ _ (left_quiet todo h)
    stmt (src.Return line (Some e)) todo n h = anew _ _ (n, inl (left_quiet todo h))
    stmt (src.Owes line) todo n h = anew _ _ (tt, (tt, h))
    stmt (src.Fill line m b d) todo n h = anew _ _ (tt, (n, (tt, h)))
    stmt (src.OfEvents a) todo n h = event_step a todo n h
    stmt (src.OfTasks a) todo n h = task_step a todo n h

    pub rest_of : (ss : Stmts) (todo : List Todo) → InnerStmts part source (ground base.ground todo) ss → Ok part source (calm base) [] todo → StandsStep part source mine s (quiet.rest_step ss todo s)
    rest_of src.Nil todo n h = anew _ _ (lift todo h)
    rest_of (src.Then a ss) todo n h = anew _ _ (n.0, (n.1, h))
    rest_of (src.Scoped c ss) todo n h = anew _ _ (n.1, (n.0, h))
    rest_of (src.Built c ss) todo n h = anew _ _ (n.1, (n.0, h))

    pub land : (o : Option UnwindReason) → s.run.raised ≡ o → (ms : List Mark) (todo : List Todo) → Holds s.env.exec.home s.run.this ms s.run.operands → Ok part source base ms todo → StandsStep part source mine s (quiet.land_step o todo s)
    land None e ms todo k h = go ms _ _ k h
    land (Some why) e ms todo k h = stirs _ refl (ap is_some e) todo refl (marks.left part source base ms todo h)

    -- events

    throws : (e : raising.Event) (todo : List Todo) → Left part source base todo → StandsStep part source mine s (raising.throw_step e todo s)
    throws e todo h = stirs _ refl refl todo refl h

    pub thrown : (e : raising.Event) (todo : List Todo) → Ok part source base [] todo → StandsStep part source mine s (raising.throw_step e todo s)
    thrown e todo h = throws e todo (marks.left part source base [] todo h)

    -- the activation that raised goes on without the event
    handles : (ms : List Mark) (f : Option Found) (e : raising.Event) (todo : List Todo) → Holds s.env.exec.home s.run.this ms s.run.operands → lists.OfFound part source s.env.exec.home ((record s.run { control = todo }) ∷ s.callers) f → Ok part source base (rests 3 ms) todo → StandsStep part source mine s (raising.handle_step f e todo s)
    handles ms None e todo k n h = throws e todo (marks.left part source base (rests 3 ms) todo h)
    handles ms (Some f) e todo k n h = record {
      run = record { base = called n.place; marks = []; holds = tt; ok = lists.handled part source (called n.place) f.handler [] n.inner refl; backed = n.backed; thing = n.thing; waited = λ i. tt; reason = λ i. absurd (cc) };
      callers = (
        record {
          base = base;
          marks = rests 3 ms;
          holds = holds_below s.env.exec.home s.run.this (rests 2 ms) _ (holds_below s.env.exec.home s.run.this (rests 1 ms) _ (holds_below s.env.exec.home s.run.this ms _ k));
          ok = (tt, h);
          backed = x.backed;
          thing = x.thing;
          waited = x.waited;
          reason = x.reason;
        },
        x.callers,
      );
      env = kept.same part source mine x.env refl refl refl;
      own = x.own;
      here = x.here;
    }

    pub raises : (ms : List Mark) (e : raising.Event) (todo : List Todo) → Holds s.env.exec.home s.run.this ms s.run.operands → Ok part source base (rests 3 ms) todo → StandsStep part source mine s (raising.raise_step e todo s)
    raises ms e todo k h =
        let round : List Active = (record s.run { control = todo }) ∷ s.callers in
        let here : LeftStands part source s.env.exec.home (record s.run { control = todo }) s.callers = record { base = base; left = marks.left part source base (rests 3 ms) todo h; backed = x.backed; thing = x.thing; waited = x.waited } in
        handles ms (raising.seek None e round) e todo k (lists.seek part source s.env.exec.home None e round (here, marks.waits_left part source s.env.exec.home s.callers x.callers)) h

    -- unwinding

    -- what is left is unwound for the same reason
    unwinding : (todo : List Todo) → base.unwound ≡ true → Left part source base todo → StandsStep part source mine s (raising.unwinds todo s)
    unwinding todo u h = anew (piece.Unwind ∷ todo) [] (u, h)

    catches : (o : Option Handler) (e : raising.Event) (todo : List Todo) → base.unwound ≡ true → lists.OfHandler part source (ground base.ground todo) o → Ok part source (calm base) [] todo → StandsStep part source mine s (raising.catch_step o e todo s)
    catches None e todo u n h = unwinding todo u (left_quiet todo h)
    catches (Some y) e todo u n h = calms _ refl (lists.handled part source (calm base) y todo n h)

    guarded : (hs : Handlers) (o : Option UnwindReason) (todo : List Todo) → base.unwound ≡ true → InnerHandlers part source (ground base.ground todo) hs → Ok part source (calm base) [] todo → StandsStep part source mine s (raising.guard_left hs o todo s)
    guarded hs (Some (reason.Event n x y)) todo u k h =
        catches _ _ todo u (lists.handler_for part source (ground base.ground todo) false (record { number = n; x = x; y = y }) hs k) h
    guarded hs o todo u k h = unwinding todo u (left_quiet todo h)

    whole : (b : Bool) (todo : List Todo) → base.unwound ≡ true → Ok part source (calm base) [] todo → StandsStep part source mine s (raising.whole_left b todo s)
    whole true todo u h = calms _ refl h
    whole false todo u h = unwinding todo u (left_quiet todo h)

    scope : (c : CleanUp) (b : Bool) (todo : List Todo) → base.unwound ≡ true → InnerClean part source (ground base.ground todo) c → Ok part source (calm base) [] todo → StandsStep part source mine s (raising.scope_left c b todo s)
    scope src.Leaves true todo u n h = calms _ refl (tt, marks.left part source (calm base) [] todo h)
    scope c b todo u n h = anew (raising.left_todo c (piece.Unwind ∷ todo)) [] (lists.left_cleans part source base c (piece.Unwind ∷ todo) n (u, left_quiet todo h))

    main_left : (o : Option UnwindReason) (todo : List Todo) → Ok part source (over base) [] todo → StandsStep part source mine s (raising.main_left o todo s)
    main_left (Some (reason.ReturnTo n)) todo h = calms _ refl (tt, h)
    main_left o todo h = stop Unhandled todo []

    coroutine_left : (o : Option UnwindReason) (todo : List Todo) → Ok part source (over base) [] todo → StandsStep part source mine s (raising.coroutine_left o todo s)
    coroutine_left (Some (reason.ReturnTo n)) todo h = calms _ refl (tt, h)
    coroutine_left (Some reason.Destroyed) todo h = moved _ todo _ (kept.taken_down_stands part source mine (at todo [] s) x.own x.env)
    coroutine_left o todo h = moved _ todo _ (kept.escape_stands part source mine (at todo [] s) x.own x.env)

    unwind_past : (k : Sort) (todo : List Todo) → base.unwound ≡ true → LeftAt part source base k todo → StandsStep part source mine s (raising.unwind_past k todo s)
    unwind_past piece.Simple todo u h = unwinding todo u h
    unwind_past (piece.IsLoop o t e b) todo u h = unwinding todo u (left_quiet todo h.1)
    unwind_past piece.IsWhole todo u h = whole _ todo u h
    unwind_past (piece.IsClean c) todo u h = scope c _ todo u h.0 h.1
    unwind_past (piece.IsFill m b d) todo u h = anew _ _ (h.0.1, (u, left_quiet todo h.1))
    unwind_past (piece.IsSweep e) todo u h = anew _ _ (h.0, (u, marks.left part source base [] todo h.1))
    unwind_past (piece.IsPart c) todo u h = anew _ _ (lists.cleans part source base c _ h.0 (u, left_quiet todo h.1))
    unwind_past (piece.IsGuard hs) todo u h = guarded hs s.run.raised todo u h.0 h.1
    unwind_past piece.IsFinish todo u h = main_left s.run.raised todo h
    unwind_past piece.IsFinishCoroutine todo u h = coroutine_left s.run.raised todo h

    pass_on : (o : Option UnwindReason) (c : Active) (cs : List Active) → is_some o ≡ true → Waits part source s.env.exec.home (c ∷ cs) → StandsStep part source mine s (raising.pass_on o c cs s)
    pass_on None c cs i w = absurd (cc)
    pass_on (Some why) c cs i w = left_for c cs _ w refl refl refl refl refl refl refl refl

    leave_for : (b : Bool) (c : Active) (cs : List Active) → is_some s.run.raised ≡ true → Waits part source s.env.exec.home (c ∷ cs) → StandsStep part source mine s (raising.leave_for b c cs s)
    leave_for true c cs i w = record { state = x.env; inside = tt; exec = refl; hand = λ q j. j }
    leave_for false c cs i w = pass_on s.run.raised c cs i w

    leaves : (cs : List Active) → IsOlder cs → is_some s.run.raised ≡ true → Waits part source s.env.exec.home cs → StandsStep part source mine s (raising.leave_step cs s)
    leaves [] o i c = absurd o
    leaves (c ∷ cs) o i p =
        either (StandsStep part source mine s) (raising.arrives s.run.raised (length (c ∷ cs))) _ _ (returned s.run.result (c ∷ cs) tt p) (leave_for _ c cs i p)

    pub unwinds : (todo : List Todo) → base.unwound ≡ true → Left part source base todo → StandsStep part source mine s (raising.unwind_step todo s)
    unwinds [] u h = leaves s.callers (x.waited h) (x.reason u) x.callers
    unwinds (p ∷ ps) u h = unwind_past (piece.sort p) ps u h

    -- printing

    pub prints : (o : Option (List Piece)) (p : Piece) (todo : List Todo) (vs : List Value) → Ok part source base [] todo → StandsStep part source mine s (piece.print_step o p todo vs s)
    prints None p todo vs h = asked _ [] todo vs (λ z. z) tt tt h
    prints (Some ps) p todo vs h = go_in [] _ _ _ tt h (likes refl refl refl refl)

    pub flushes : (o : Option (List Piece)) (todo : List Todo) (vs : List Value) → Ok part source base [] todo → StandsStep part source mine s (piece.flush_step o todo vs s)
    flushes None todo vs h = anew _ _ h
    flushes (Some []) todo vs h = go_in [] _ _ _ tt h (likes refl refl refl refl)
    flushes (Some (p ∷ ps)) todo vs h = asked_in _ [] todo vs _ (λ z. z) tt tt h (likes refl refl refl refl)

    -- with what is known of the operands
    module _ (ms : List Mark) (holds : Holds s.env.exec.home s.run.this ms s.run.operands) where
      pub one : Holds s.env.exec.home s.run.this (rest ms) (below s.run.operands)
      one = holds_below s.env.exec.home s.run.this ms s.run.operands holds

      pub two : Holds s.env.exec.home s.run.this (rest (rest ms)) (below (below s.run.operands))
      two = holds_below s.env.exec.home s.run.this (rest ms) (below s.run.operands) one

      -- calls take as many operands as there are arguments

      called_with : (n r : ℕ) (ns : List Mark) (todo : List Todo) → n ≡ params part source r → Ok part source base (Any ∷ ns) todo → Ok part source base (Any ∷ rests (params part source r) (anys n ns)) todo
      called_with n r ns todo e h =
          subst (λ k. Ok part source base (Any ∷ rests k (anys n ns)) todo) e (subst (λ ks. Ok part source base (Any ∷ ks) todo) (sym (rests_anys n ns)) h)

      called_on : (n r : ℕ) (m : Mark) (todo : List Todo) → n ≡ params part source r → Exists part source r → Ready (ground base.ground todo) (part r) (m ∷ ms) → Ok part source base (Any ∷ ms) todo → (Ready (ground base.ground todo) (part r) (rests (params part source r) (anys n (m ∷ ms))) × Exists part source r) × Ok part source base (Any ∷ rests (suc (params part source r)) (anys n (m ∷ ms))) todo
      called_on n r m todo e i k h =
          let below_it : rests (params part source r) (anys n (m ∷ ms)) ≡ m ∷ ms = subst (λ j. rests j (anys n (m ∷ ms)) ≡ m ∷ ms) e (rests_anys n (m ∷ ms)) in
          ((subst (Ready (ground base.ground todo) (part r)) (sym below_it) k, i), subst (λ ks. Ok part source base (Any ∷ rest ks) todo) (sym below_it) h)

      called_plain : (n r : ℕ) (todo : List Todo) → IsPlain part source r n → Ok part source base (Any ∷ ms) todo → (Ready (ground base.ground todo) (part r) (rests (params part source r) (anys n (Any ∷ ms))) × Exists part source r) × Ok part source base (Any ∷ rests (suc (params part source r)) (anys n (Any ∷ ms))) todo
      called_plain n r todo k h = called_on n r Any todo k.1 k.2 (subst (λ p. Ready (ground base.ground todo) p (Any ∷ ms)) (sym k.0) tt) h

      -- a made object takes the place of its place below the arguments
      made_on : (c r n : ℕ) (todo : List Todo) (X : Type 0) → X → (part r ≡ Maker) × (n ≡ params part source r) × Exists part source r → Ok part source base (Any ∷ ms) todo → (IsThere (rests (params part source r) (anys n (Any ∷ ms))) × Exists part source r × (part r ≡ Maker) × X) × ((Ready (ground base.ground todo) (part r) (rests (params part source r) (bound (params part source r) (anys n (Any ∷ ms)))) × Exists part source r) × Ok part source base (Any ∷ rests (suc (params part source r)) (bound (params part source r) (anys n (Any ∷ ms)))) todo)
      made_on c r n todo X next k h =
          let j : ℕ = params part source r in
          let below_it : rests (params part source r) (anys n (Any ∷ ms)) ≡ Any ∷ ms = subst (λ i. rests i (anys n (Any ∷ ms)) ≡ Any ∷ ms) k.1 (rests_anys n (Any ∷ ms)) in
          let there : IsThere (rests (params part source r) (anys n (Any ∷ ms))) = subst IsThere (sym below_it) tt in (
            (there, k.2, k.0, next),
            (
              (subst (λ p. Ready (ground base.ground todo) p (rests j (bound j (anys n (Any ∷ ms))))) (sym k.0) (object_bound j (anys n (Any ∷ ms)) there), k.2),
              subst (λ ks. Ok part source base (Any ∷ ks) todo) (sym (rests_bound j (anys n (Any ∷ ms)) ∙ ap rest below_it)) h,
            ),
          )

      own : (a : Expr) {P : Type 0} → a ≡ src.OfObject src.This → P → Known a P
      own a {P} e k = subst (λ q. Known q P) (sym e) k

      -- expressions

      object : (o : ObjectExpr) (todo : List Todo) → InnerObject part source (ground base.ground todo) o → Ok part source base (Any ∷ ms) todo → StandsStep part source mine s (quiet.object_step o todo s)
      object src.This todo n h = go (Any ∷ ms) _ _ (tt, holds) h
      object (src.OwnField k i) todo n h = go (Any ∷ ms) _ _ (tt, holds) h
      object (src.GetOwn k i) todo n h = go (Any ∷ ms) _ _ (tt, holds) h
      object (src.FieldOf k i a) todo n h = go ms _ _ holds (n.1, inl (tt, h))
      object src.Counted todo n h = go (Any ∷ ms) _ _ (tt, holds) h
      object (src.CallOn r a args) todo n h = go ms _ _ holds (on (part r) refl n.0.0)
        where
          on : (p : Part) → part r ≡ p → CalledOn part source (ground base.ground todo) p a → Ok part source base ms (piece.Eval a ∷ (piece.Arguments args ∷ (piece.TickNow ∷ (piece.CallOnNow r ∷ todo))))
          on Plain e k = (n.1.0, inl (n.1.1, (tt, called_on (count args) r Any todo n.0.1 n.0.2 (subst (λ q. Ready (ground base.ground todo) q (Any ∷ ms)) (sym e) tt) h)))
          on Helper e k = (n.1.0, inr (own a k.1 (n.1.1, (tt, called_on (count args) r Own todo n.0.1 n.0.2 (subst (λ q. Ready (ground base.ground todo) q (Own ∷ ms)) (sym e) (k.0, tt)) h))))
          on Maker e k = absurd k
          on Uncalled e k = absurd k
          on Begun e k = absurd k
      object (src.CallLive r a args) todo n h = go ms _ _ holds (n.1.0, inl (n.1.1, (tt, (n.0.2, called_plain (count args) r todo n.0 h))))
      object (src.CallUnwritten r a) todo n h = go ms _ _ holds (n.1, inl (called_plain 0 r todo n.0 h))
      object (src.EnterOn m r a args) todo n h = go ms _ _ holds (n.1.0, inl (n.1.1, (tt, (n.0.2, called_plain (count args) r todo n.0 h))))
      object (src.EndOn r false a) todo n h = go ms _ _ holds (n.1, inl (n.0.2, called_plain 0 r todo n.0 h))
      object (src.EndOn r true a) todo n h = go ms _ _ holds (n.1, inl (tt, (n.0.2, called_plain 0 r todo n.0 h)))
      object (src.Bind a b) todo n h = go ms _ _ holds (n.1.0, inl (n.1.1, inl (tt, h)))
      object (src.MakeOn c r false a args) todo n h = go ms _ _ holds (n.1.0, inl (n.1.1, made_on c r (count args) todo (r ≡ r) refl n.0 h))
      object (src.MakeOn c r true a args) todo n h = go ms _ _ holds (n.1.0, inl (n.1.1, (tt, made_on c r (count args) todo (r ≡ r) refl n.0 h)))
      object src.NewCluster todo n h = go ms _ _ holds (tt, h)
      object (src.NewProcessor a) todo n h = go ms _ _ holds (n.1, inl (tt, h))
      object (src.EndCluster a) todo n h = go ms _ _ holds (n.1, inl (tt, h))
      object (src.EndProcessor a) todo n h = go ms _ _ holds (n.1, inl (tt, h))
      object (src.ConditionAt k m a) todo n h = go ms _ _ holds (n.1, inl (tt, h))
      object (src.Wait a b) todo n h = go ms _ _ holds (n.1.0, inl (n.1.1, inl (n.0, (tt, h))))
      object (src.Signal a) todo n h = go ms _ _ holds (n.1, inl (n.0, h))
      object (src.SignalBlock a) todo n h = go ms _ _ holds (n.1, inl (n.0, h))
      object (src.IsEmpty a) todo n h = go ms _ _ holds (n.1, inl (n.0, h))
      object (src.FrontOf a) todo n h = go ms _ _ holds (n.1, inl (n.0, h))

      eval : (a : Expr) (todo : List Todo) → InnerExpr part source (ground base.ground todo) a → Ok part source base (Any ∷ ms) todo → StandsStep part source mine s (quiet.eval_step a todo s)
      eval (src.Literal k) todo n h = go (Any ∷ ms) _ _ (tt, holds) h
      eval (src.Variable k) todo n h = go (Any ∷ ms) _ _ (tt, holds) h
      eval (src.Element m k a i) todo n h = go ms _ _ holds (n.0, inl (n.1, inl (tt, h)))
      eval (src.Get k) todo n h = go (Any ∷ ms) _ _ (tt, holds) h
      eval (src.Load a) todo n h = go ms _ _ holds (n, inl (tt, h))
      eval (src.Negated a) todo n h = go ms _ _ holds (n, inl (tt, h))
      eval (src.Not a) todo n h = go ms _ _ holds (n, inl (tt, h))
      eval (src.AsCharacter a) todo n h = go ms _ _ holds (n, inl (tt, h))
      eval (src.AsTruth a) todo n h = go ms _ _ holds (n, inl (tt, h))
      eval (src.Operate op a b) todo n h = go ms _ _ holds (n.0, inl (n.1, inl (tt, h)))
      eval (src.And a b) todo n h = go ms _ _ holds (n.0, inl ((n.1, tt), h))
      eval (src.Or a b) todo n h = go ms _ _ holds (n.0, inl ((tt, n.1), h))
      eval (src.Set k a) todo n h = go ms _ _ holds (n, inl (tt, h))
      eval (src.Assign p a) todo n h = go ms _ _ holds (n.0, inl (n.1, inl (tt, h)))
      eval (src.First a b) todo n h = go ms _ _ holds (n.0, inl (n.1, inl (tt, h)))
      eval (src.Update op k p a) todo n h =
          let same : ground base.ground (quiet.converting k (piece.KeepNow ∷ todo)) ≡ ground base.ground todo = lists.converts_ground part source base k (piece.KeepNow ∷ todo) in
          go ms _ _ holds (subst (λ g. InnerExpr part source g p) (sym same) n.0, inl (tt, (tt, (subst (λ g. InnerExpr part source g a) (sym same) n.1, inl (tt, lists.converts part source base k (Any ∷ ms) _ (tt, h))))))
      eval (src.StepBehind op k p) todo n h =
          let same : ground base.ground (quiet.converting k (piece.StoreNow ∷ (piece.DropBelowNow ∷ todo))) ≡ ground base.ground todo = lists.converts_ground part source base k (piece.StoreNow ∷ (piece.DropBelowNow ∷ todo)) in
          go ms _ _ holds (subst (λ g. InnerExpr part source g p) (sym same) n, inl (tt, (tt, (tt, (tt, (tt, inl (tt, lists.converts part source base k (Any ∷ (Any ∷ (Any ∷ ms))) _ (tt, (tt, h)))))))))
      eval src.Fail todo n h = asked _ ms todo _ (λ z. z) tt holds h
      eval (src.Call r args) todo n h = go ms _ _ holds (n.1, (tt, ((n.0.0, n.0.2), called_with (count args) r ms todo n.0.1 h)))
      eval (src.OfObject o) todo n h = object o todo n h

      known : (e : Expr) (todo : List Todo) → Known e (Ok part source base (Own ∷ ms) todo) → StandsStep part source mine s (quiet.eval_step e todo s)
      known (src.OfObject src.This) todo h = go (Own ∷ ms) _ _ (refl, holds) h
      known e todo h = absurd h

      pub evals : (e : Expr) (todo : List Todo) → InnerExpr part source (ground base.ground todo) e → Ok part source base (Any ∷ ms) todo ⊎ Known e (Ok part source base (Own ∷ ms) todo) → StandsStep part source mine s (quiet.eval_step e todo s)
      evals e todo n (inl h) = eval e todo n h
      evals e todo n (inr h) = known e todo h

      -- calls

      -- whoever is inside by what is known of the caller, is so by a mark of that or of an older activation
      behind : (ns : List Mark) (todo : List Todo) (vs : List Value) (o : ℕ) → o ≡ object_in s.run.this → (ground base.ground todo).inside ≡ true → Backs s.env.exec.home o ((record s.run { control = todo; operands = vs }) ∷ s.callers)
      behind ns todo vs o e i =
          marks.backs_first part source s.env.exec.home (record s.run { control = todo; operands = vs }) s.callers base.ground o (sym e) (λ j. subst (λ k. Backs s.env.exec.home k s.callers) (sym e) (x.backed j)) (ground_inside base.ground todo i)

      begun : (p : Part) (r : Routine) (this : Value) (counts : Bool) (ns : List Mark) (todo : List Todo) (vs : List Value) → InnerStmts part source (ground_of p) r.body → ((ground_of p).inside ≡ true → Backs s.env.exec.home (object_in this) ((record s.run { control = todo; operands = vs }) ∷ s.callers)) → ((ground_of p).made ≡ true → IsNew s.env.exec.home this) → Holds s.env.exec.home s.run.this ns vs → Ok part source base (Any ∷ ns) todo → StandsStep part source mine s (quiet.begun_step r this counts todo vs s)
      begun p r this counts ns todo vs n b t k h = record {
        run = record { base = called (ground_of p); marks = []; holds = tt; ok = lists.routine part source (called (ground_of p)) r (inl refl) n; backed = b; thing = t; waited = λ i. tt; reason = λ i. absurd (cc) };
        callers = (record { base = base; marks = ns; holds = k; ok = h; backed = x.backed; thing = x.thing; waited = x.waited; reason = x.reason }, x.callers);
        env = kept.same part source mine x.env refl refl refl;
        own = x.own;
        here = x.here;
      }

      dropped : (n : ℕ) → Holds s.env.exec.home s.run.this (rests n ms) (drop n s.run.operands)
      dropped n = holds_drop s.env.exec.home s.run.this n ms s.run.operands holds

      dropped_one : (n : ℕ) → Holds s.env.exec.home s.run.this (rests (suc n) ms) (below (drop n s.run.operands))
      dropped_one n = holds_below s.env.exec.home s.run.this (rests n ms) (drop n s.run.operands) (dropped n)

      pub call : (p : Part) (r : Option Routine) (todo : List Todo) → p ≡ Plain → is_some r ≡ true → InnerRoutine part source p r → Ok part source base (Any ∷ rests (params_at r) ms) todo → StandsStep part source mine s (quiet.call_step r todo s)
      call p None todo e f n h = absurd (cc)
      call p (Some r) todo e f n h =
          either (StandsStep part source mine s) (nat_lt s.env.links.calls CALLS) _ _ (begun p r _ true (rests r.params ms) todo _ n (λ i. plain_not (λ (g : Ground). g.inside) refl i) (λ i. plain_not (λ (g : Ground). g.made) refl i) (dropped r.params) h) (stop Depth todo _)
        where
          plain_not : {A : Type 0} (f : Ground → Bool) → f (ground_of Plain) ≡ false → f (ground_of p) ≡ true → A
          plain_not f a i = let b : f (ground_of Plain) ≡ true = subst (λ q. f (ground_of q) ≡ true) e i in absurd (cc)

      -- the same with what is known of the object below the arguments
      on : (p : Part) (r : Routine) (counts : Bool) (todo : List Todo) → InnerStmts part source (ground_of p) r.body → Ready (ground base.ground todo) p (rests r.params ms) → Ok part source base (Any ∷ rests (suc r.params) ms) todo → StandsStep part source mine s (quiet.begun_step r (top (drop r.params s.run.operands)) counts todo (below (drop r.params s.run.operands)) s)
      on p r counts todo n k h =
          begun p r (top (drop r.params s.run.operands)) counts (rests (suc r.params) ms) todo (below (drop r.params s.run.operands)) n inner (λ i. ready_thing s.env.exec.home (ground base.ground todo) p s.run.this (rests r.params ms) (drop r.params s.run.operands) k (dropped r.params) i) (dropped_one r.params) h
        where
          inner : (ground_of p).inside ≡ true → Backs s.env.exec.home (object_in (top (drop r.params s.run.operands))) ((record s.run { control = todo; operands = below (drop r.params s.run.operands) }) ∷ s.callers)
          inner i =
              let y = ready_inside s.env.exec.home (ground base.ground todo) p s.run.this (rests r.params ms) (drop r.params s.run.operands) k (dropped r.params) i in
              behind ms todo (below (drop r.params s.run.operands)) (object_in (top (drop r.params s.run.operands))) (ap object_in y.1) y.0

      pub call_on : (p : Part) (r : Option Routine) (todo : List Todo) → is_some r ≡ true → InnerRoutine part source p r → Ready (ground base.ground todo) p (rests (params_at r) ms) → Ok part source base (Any ∷ rests (suc (params_at r)) ms) todo → StandsStep part source mine s (quiet.call_on_step r todo s)
      call_on p None todo f n k h = absurd (cc)
      call_on p (Some r) todo f n k h = either (StandsStep part source mine s) (nat_lt s.env.links.calls CALLS) _ _ (on p r true todo n k h) (stop Depth todo _)

      pub call_unwritten : (p : Part) (r : Option Routine) (todo : List Todo) → is_some r ≡ true → InnerRoutine part source p r → Ready (ground base.ground todo) p (rests (params_at r) ms) → Ok part source base (Any ∷ rests (suc (params_at r)) ms) todo → StandsStep part source mine s (quiet.call_unwritten_step r todo s)
      call_unwritten p None todo f n k h = absurd (cc)
      call_unwritten p (Some r) todo f n k h = on p r false todo n k h

      pub live : (r : Option Routine) (todo : List Todo) → is_some r ≡ true → Ok part source base ms todo → StandsStep part source mine s (quiet.live_step r todo s)
      live None todo f h = absurd (cc)
      live (Some r) todo f h = either (StandsStep part source mine s) (sw.is_live (piece.exec_at (top (drop r.params s.run.operands)) s.env) s.env) _ _ (go ms _ _ holds h) (stop NotLive todo _)

      -- the main of a coroutine is at home with that
      pub set_up : (p : Part) (r : Option Routine) (todo : List Todo) → SetsUp part source (ground base.ground todo) p → IsMainRoutine r → InnerRoutine part source p r → Ok part source base [] todo → StandsStep part source mine s (quiet.set_up_step r todo s)
      set_up p None todo k m n h = absurd m
      set_up p (Some r) todo k m n h =
          let b = kept.born_stands part source mine (quiet.home_at s.run.this s.env) (quiet.fresh r s.run.this) s.env (record { base = alone (ground_of p); marks = []; holds = tt; ok = lists.routine part source (alone (ground_of p)) r (inr m) n; backed = at_home p k; thing = no_maker p k; waited = λ i. absurd (cc); reason = λ i. absurd (cc) }, tt) x.env in
          go_in [] _ _ _ tt h (kept.behind part source mine b (kept.written_stands part source mine s.run.this _ _ b.env))
        where
          at_home : (q : Part) → SetsUp part source (ground base.ground todo) q → (ground_of q).inside ≡ true → IsHome (quiet.home_at s.run.this s.env) (object_in s.run.this)
          at_home Plain k i = absurd (cc)
          at_home Helper k i = absurd k
          at_home Maker k i = absurd k
          at_home Begun k i = absurd (cc)
          at_home Uncalled k i =
              let t : IsThing s.run.this = (x.thing (sym (ground_made base.ground todo) ∙ k)).0 in
              subst (λ v. IsHome (quiet.home_at v s.env) (object_in s.run.this)) (sym t) refl

          no_maker : (q : Part) → SetsUp part source (ground base.ground todo) q → (ground_of q).made ≡ true → IsNew (quiet.home_at s.run.this s.env) s.run.this
          no_maker Plain k i = absurd (cc)
          no_maker Helper k i = absurd k
          no_maker Maker k i = absurd k
          no_maker Uncalled k i = absurd (cc)
          no_maker Begun k i = absurd (cc)

      -- mutex objects

      pub unless : (o : ℕ) (step : Step) (todo : List Todo) → (inside.is_held_up o s.env ≡ false → StandsStep part source mine s step) → StandsStep part source mine s (monitors.unless_held_up o step todo s)
      unless o step todo k = by (inside.is_held_up o s.env) refl
        where
          by : (b : Bool) → inside.is_held_up o s.env ≡ b → StandsStep part source mine s (if b then fault BlockedInside todo s.run.operands s else step)
          by true e = stop BlockedInside todo _
          by false e = k e

      enter_at : (d : Option ℕ) (o m : ℕ) (todo : List Todo) → Ok part source base ms todo → StandsStep part source mine s (monitors.enter_at d o m todo s)
      enter_at (Some d) o m todo h = go_in ms _ _ _ holds h (likes refl refl refl refl)
      enter_at None o m todo h = asked_in _ ms todo _ _ (λ z. z) tt holds h (likes refl refl refl refl)

      pub enter : (m : ℕ) (r : Option Routine) (todo : List Todo) → is_some r ≡ true → Ok part source base ms todo → StandsStep part source mine s (monitors.enter_step m r todo s)
      enter m None todo f h = absurd (cc)
      enter m (Some r) todo f h =
          let o = piece.object_in (top (drop r.params s.run.operands)) in
          either (StandsStep part source mine s) (monitors.may_call r.written s) _ _ (enter_at (find o s.env.depths) o m todo h) (stop Depth todo _)

      -- an activation that has left its object is no active call any more
      left_calm : (todo : List Todo) → Ok part source base ms todo → StandsStep part source mine s (Asks (ask.Leave (monitors.this_object s) (monitors.by_event s.run.raised)) (at (monitors.leave_todo s.run.raised todo) s.run.operands (inside.counted_no_more (in_env (inside.call_ended (monitors.this_object s) s.env) s))))
      left_calm todo h = record {
        state = record {
          run = record { base = base; marks = ms; holds = holds; ok = lists.polled part source base s.run.raised ms todo h; backed = x.backed; thing = x.thing; waited = x.waited; reason = x.reason };
          callers = x.callers;
          env = kept.same part source mine x.env refl refl refl;
          own = x.own;
          here = x.here;
        };
        inside = tt;
        exec = refl;
        hand = λ q j. j;
      }

      pub leave : (b : Bool) (todo : List Todo) → Ok part source base ms todo → StandsStep part source mine s (monitors.leave_at b (monitors.this_object s) todo s)
      leave false todo h = go_in ms _ _ _ holds h (likes refl refl refl refl)
      leave true todo h = unless (monitors.this_object s) _ todo (λ u. left_calm todo h)

      pub make : (c k : ℕ) (r : Option Routine) (todo : List Todo) → is_some r ≡ true → Exists part source k → IsThere (rests (params part source k) ms) → Ok part source base (bound (params part source k) ms) todo → StandsStep part source mine s (monitors.make_step c k r todo s)
      make c k None todo f i t h = absurd (cc)
      make c k (Some r) todo f i t h =
          either (StandsStep part source mine s) (monitors.may_call r.written s) _ _ (asked_in _ ms _ _ _ (λ z. z) tt holds ((tt, t, i), h) (likes refl refl refl refl)) (stop Depth todo _)

      pub bind : (r : Option Routine) (todo : List Todo) → is_some r ≡ true → IsObject ms → Ok part source base (bound (params_at r) (rest ms)) todo → StandsStep part source mine s (monitors.bind_step r todo s)
      bind None todo f k h = absurd (cc)
      bind (Some r) todo f k h =
          go_in (bound r.params (rest ms)) todo _ _ (holds_bound s.env.exec.home s.run.this (top s.run.operands) r.params (rest ms) (below s.run.operands) (object_top s.env.exec.home s.run.this ms s.run.operands k holds) one) h (write _ _)

      pub accept : (mask o site : ℕ) (todo : List Todo) (vs : List Value) → Backs s.env.exec.home o (s.run ∷ s.callers) → Ok part source base [] todo → StandsStep part source mine s (monitors.accept_by mask o site todo vs s)
      accept zero o site todo vs i h = anew _ _ h
      accept (suc mask) o site todo vs i h = unless o _ todo (λ u. asked (ask.Accept o site (suc mask)) [] _ vs (λ z. z) (i, u) tt (tt, (tt, h)))

      pub failed : (b : Bool) (todo : List Todo) (vs : List Value) → Ok part source base [] todo → StandsStep part source mine s (monitors.failed_step b todo vs s)
      failed true todo vs h = anew _ _ h
      failed false todo vs h = anew _ _ (tt, h)

      -- events elsewhere

      pend : (n : Exec) (e : raising.Event) (todo : List Todo) (vs : List Value) → Ok part source base [] todo → StandsStep part source mine s (polls.pend_step n e todo vs s)
      pend n e todo vs h =
          either (StandsStep part source mine s) (nat_lt (length (inside.pending_at n s.env)) PENDING_EVENTS) _ _ (go_in [] _ _ _ tt h (kept.with_links_stand part source mine (λ l. record l { pending = l.pending ++ (record { event = e.number; x = e.x; y = e.y }) ∷ [] }) (λ l i a older k. k) n s.env x.env)) (stop TooManyPending todo vs)

      pend_at : (o : Option Exec) (e : raising.Event) (todo : List Todo) (vs : List Value) → Ok part source base [] todo → StandsStep part source mine s (polls.pend_at o e todo vs s)
      pend_at None e todo vs h = stop NotLive todo vs
      pend_at (Some n) e todo vs h = either (StandsStep part source mine s) (sw.is_live (Some n) s.env) _ _ (pend n e todo vs h) (stop NotLive todo vs)

      pub raise_at : (v : Value) (e : raising.Event) (todo : List Todo) (vs : List Value) → Ok part source base [] todo → StandsStep part source mine s (polls.raise_at_step v e todo vs s)
      raise_at (Object o) e todo vs h = asked (ask.Raise o e.number e.x e.y) [] todo vs (λ z. z) tt tt h
      raise_at v e todo vs h = pend_at (piece.exec_at v s.env) e todo vs h

      pub enables : (events cell : ℕ) (todo : List Todo) → Ok part source base [] todo → StandsStep part source mine s (polls.enable_step events cell todo s)
      enables events cell todo h =
          let w = write (piece.variable_at cell s) (Number (signed_64 s.env.links.enabled)) in
          go_in [] _ _ _ tt h (record { env = kept.same part source mine w.env refl refl refl; exec = w.exec; own = w.own; hand = w.hand })

      quiet_poll : (o : Option Pending) (todo : List Todo) → Ok part source base ms todo → StandsStep part source mine s (polls.quiet_poll o todo s)
      quiet_poll None todo h = go ms _ _ holds h
      quiet_poll (Some p) todo h = go_in (Any ∷ (Any ∷ (Any ∷ ms))) _ _ _ (tt, (tt, (tt, holds))) (tt, h) (likes refl refl refl refl)

      poll_by : (b : Bool) (todo : List Todo) → Ok part source base ms todo → StandsStep part source mine s (polls.poll_by b todo s)
      poll_by true todo h = asked _ ms _ _ (λ z. z) tt holds (tt, h)
      poll_by false todo h = quiet_poll (inside.oldest_enabled s.env.links) todo h

      pub poll : (todo : List Todo) → Ok part source base ms todo → StandsStep part source mine s (polls.poll_step todo s)
      poll todo h = either (StandsStep part source mine s) (nat_eq s.env.links.enabled 0) _ _ (go ms _ _ holds h) (poll_by (inside.is_own s.env) todo h)

      pub deliver : (v : Value) (todo : List Todo) → Ok part source base (rests 3 ms) todo → StandsStep part source mine s (polls.deliver_step v todo s)
      deliver Nothing todo h = go (rests 3 ms) _ _ (dropped 3) h
      deliver v todo h = go ms _ _ holds (tt, (tt, h))

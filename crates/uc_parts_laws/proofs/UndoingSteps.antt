-- A quiet step of a state in which constructors are called where their parts are taken over leads to one.
use Rattle.std.proofs.Common.{◌≡◌, ℕ, pos, zero, suc, ◌<◌, ◌⊎◌, inl, inr, ◌++◌, Bool, true, false, List, [], ◌∷◌, length, drop, Option, Some, None, refl, sym, ◌∙◌, subst}
use Rattle.std.specs.Prelude.{nat_eq, nat_lt, slice_set}
use Rattle.std.proofs.lemmas.Bool.{ltb-true}
use Rattle.uc_tree.specs.declared.limits.TheConstants.{CALLS, PENDING_EVENTS}
use Rattle.uc_tree.specs.Source as src
use Rattle.uc_tree.specs.Source.{Shape, Expr, ObjectExpr, Stmt, Stmts, EventStmt, TaskStmt, Routine, Way, CleanUp, Handlers}
use Rattle.uc_entry.specs.declared.fault.RunFault.{RunFault}
use Rattle.uc_entry.specs.declared.fault.RunFault.TheVariants.{Index, Depth, BlockedInside, TooManyPending, NotLive, Unhandled}
use Rattle.uc_entry.specs.declared.request.Piece.{Piece}
use Rattle.uc_entry.specs.declared.request.Request.TheVariants as ask
use Rattle.uc_entry.specs.Keyed.{find, signed_64}
use Rattle.uc_machine.specs.declared.exec.Exec.{Exec}
use Rattle.uc_machine.specs.declared.exec.Pending.{Pending}
use Rattle.uc_machine.specs.declared.exec.UnwindReason.{UnwindReason}
use Rattle.uc_machine.specs.declared.exec.UnwindReason.TheVariants as reason
use Rattle.uc_machine.specs.declared.exec.Visited.{Visited}
use Rattle.uc_machine.specs.Switches as sw
use Rattle.uc_machine.specs.Switches.{Moved, To, Stops}
use Rattle.uc_machine.specs.Insides as inside
use Rattle.uc_machine.specs.Raising as raising
use Rattle.uc_machine.specs.Raising.{Handler, Found}
use Rattle.uc_machine.specs.Monitors as monitors
use Rattle.uc_machine.specs.Polls as polls
use Rattle.uc_machine.specs.Quiet as quiet
use Rattle.uc_machine.specs.Pieces as piece
use Rattle.uc_machine.specs.Pieces.{Value, Number, Object, Nothing, Todo, Sort, Active, State, Env, Step, Asks, Outcome, Gives, Faults, at, in_env, fault, top, below, number, written}
use Rattle.uc_state_laws.specs.Counted.{params_at, params, count, CountedExpr}
use Rattle.uc_place_laws.proofs.AsideKeeping as kept
use Rattle.uc_place_laws.proofs.AsideKeeping.{either, tested}
use Rattle.uc_parts_laws.specs.PartStates.{Setting}
use Rattle.uc_parts_laws.specs.Undoing.{PlainExpr, IsUndoneAt, IsEndedAt, IsLocus, IsCounted}
use Rattle.uc_parts_laws.specs.UndoingTodos.{Around, around, Mark, Any, Counts, At, Homed, rest, rests, anys, FirstAt, Finding, Entering, left_next, StandsAt, IsHomeAt, Holds, CodeExpr, CodeClean, CodeStmt, CodeStmts, CodeHandlers, CodeRoutine, IsTakenBy, BuildsNow, CalledAt, CallFits, made_marks, LeftBy, Ok, Left}
use Rattle.uc_parts_laws.specs.UndoingStates.{Finds, Runs, Waits, UndoingState, UndoingStep}
use Rattle.uc_parts_laws.proofs.UndoingMarks as marks
use Rattle.uc_parts_laws.proofs.UndoingMarks.{holds_below, holds_drop, holds_anys, rests_anys, drop_set, set_top, waits_left}
use Rattle.uc_parts_laws.proofs.UndoingLists as todos

-- the running activation of a state
abbrev pub here : State → Around
here s = around s.env.exec s.run

module _ (g : Setting) where
  module _ (s : State) (callers : todos.W g s.env.exec s.callers) (env : todos.E g s.env) where
    abbrev pub O : List Mark → List Todo → Type 0
    O ms todo = Ok g ms todo

    abbrev pub L : List Todo → Type 0
    L todo = Left g todo

    abbrev pub H : List Mark → List Value → Type 0
    H ms vs = Holds g.home (here s) ms vs

    gone : (ms : List Mark) (todo : List Todo) → O ms todo → L todo
    gone ms todo h = marks.left g ms todo h

    -- the running activation, with other operands and something else to do, where so many operands come in front of these
    pub finds : (many : ℕ) (ns : List Mark) (todo : List Todo) (vs : List Value) → H ns vs → O (anys many ns) todo → Finds g many s.env.exec (record s.run { control = todo; operands = vs })
    finds many ns todo vs k h = record { marks = ns; holds = k; ok = h }

    -- it is unwound
    pub unwound : (todo : List Todo) (vs : List Value) → L todo → UndoingState g (at (piece.Unwind ∷ todo) vs s)
    unwound todo vs h = record { run = record { marks = []; holds = tt; ok = h }; callers = callers; env = env }

    pub go : (ns : List Mark) (todo : List Todo) (vs : List Value) → H ns vs → O ns todo → UndoingState g (at todo vs s)
    go ns todo vs k h = record { run = finds 0 ns todo vs k h; callers = callers; env = env }

    -- with something to do before which nothing need be known
    pub anew : (todo : List Todo) (vs : List Value) → O [] todo → UndoingState g (at todo vs s)
    anew todo vs h = go [] todo vs tt h

    -- and with something written
    pub go_in : (ns : List Mark) (todo : List Todo) (vs : List Value) (e : Env) → H ns vs → O ns todo → todos.K g s.env e → UndoingState g (at todo vs (in_env e s))
    go_in ns todo vs e k h i = kept.with_env (Runs g) (Waits g) (todos.calm g) (at todo vs s) (go ns todo vs k h) i

    pub same : {f : Env} → f.exec ≡ s.env.exec → f.hand ≡ s.env.hand → f.house ≡ s.env.house → f.own ≡ s.env.own → todos.K g s.env f
    same x h k o = kept.keeps_like (Runs g) (Waits g) (todos.calm g) env x h k o

    pub stop : (f : RunFault) (todo : List Todo) (vs : List Value) → UndoingStep g (fault f todo vs s)
    stop f todo vs = record { run = tt; callers = callers; env = env }

    ends : (todo : List Todo) (vs : List Value) → UndoingStep g (Asks ask.End (at todo vs s))
    ends todo vs = record { run = tt; callers = callers; env = env }

    pub moved : (m : Moved (List Todo) Value) (todo : List Todo) (vs : List Value) → todos.M g m → UndoingStep g (piece.moves m (at todo vs s))
    moved (To t) todo vs m = m
    moved (Stops f) todo vs m = stop f todo vs

    pub write : (p v : Value) → todos.K g s.env (written p v s.env)
    write p v = kept.written_keeps (Runs g) (Waits g) (todos.calm g) p v s.env env

    pub outcome : (ms : List Mark) (o : Outcome) (todo : List Todo) (vs : List Value) → H ms vs → O (Any ∷ ms) todo → UndoingStep g (piece.outcome_step o todo vs s)
    outcome ms (Gives n) todo vs k h = go (Any ∷ ms) todo _ (tt, k) h
    outcome ms (Faults f) todo vs k h = stop f todo vs

    two_below : (ms : List Mark) (vs : List Value) → H ms vs → H (rest (rest ms)) (below (below vs))
    two_below ms vs h = holds_below g.home (here s) (rest ms) (below vs) (holds_below g.home (here s) ms vs h)

    -- the element that is counted, where there is one
    counted : (n : ℕ) (k : Shape) (v : Value) (vs : List Value) (todo : List Todo) (p : Expr) (i : Value) → i ≡ Number (pos s.run.elements) → StandsAt g.home (here s) p v → ((s.run.elements < n) × ((u : Value) × StandsAt g.home (here s) p u × (piece.further (piece.At k s.run.elements) v ≡ piece.further (piece.At k s.run.elements) u)) → UndoingState g (at todo (piece.further (piece.At k s.run.elements) v ∷ vs) s)) → UndoingStep g (piece.element_step k (piece.index_in n (number i)) todo v vs s)
    counted n k v vs todo p i e h f = subst (λ j. UndoingStep g (piece.element_step k (piece.index_in n (number j)) todo v vs s)) (sym e) (tested (λ o. UndoingStep g (piece.element_step k o todo v vs s)) (nat_lt s.run.elements n) (Some s.run.elements) None (λ q. f (ltb-true s.run.elements n q, (v, h, refl))) (stop Index todo vs))

    -- something is known of an element or not
    pub element : (ms : List Mark) (n : ℕ) (k : Shape) (i v : Value) (vs : List Value) (todo : List Todo) → H ms (i ∷ (v ∷ vs)) → O (Any ∷ rest (rest ms)) todo ⊎ Entering n k ms (λ m. O (m ∷ rest (rest ms)) todo) → UndoingStep g (piece.element_step k (piece.index_in n (number i)) todo v vs s)
    element ms n k i v vs todo l (inl h) = by (piece.index_in n (number i))
      where
        by : (o : Option ℕ) → UndoingStep g (piece.element_step k o todo v vs s)
        by None = stop Index todo vs
        by (Some j) = go (Any ∷ rest (rest ms)) todo _ (tt, two_below ms (i ∷ (v ∷ vs)) l) h
    element (Counts ∷ (At (src.Variable c) ∷ ms)) n k i v vs todo l (inr h) = counted n k v vs todo (src.Variable c) i l.0 l.1.0 (λ x. go (At (src.Element n k (src.Variable c) (src.OfObject src.Counted)) ∷ ms) todo _ (x, l.1.1) h)
    element (Counts ∷ (At (src.OfObject (src.OwnField z c)) ∷ ms)) n k i v vs todo l (inr h) = counted n k v vs todo (src.OfObject (src.OwnField z c)) i l.0 l.1.0 (λ x. go (At (src.Element n k (src.OfObject (src.OwnField z c)) (src.OfObject src.Counted)) ∷ ms) todo _ (x, l.1.1) h)
    element ms n k i v vs todo l (inr h) = absurd h

    pub condition : (ms : List Mark) (k : ℕ) (i : Option ℕ) (todo : List Todo) → H ms (below s.run.operands) → O (Any ∷ ms) todo → UndoingStep g (monitors.condition_step k i todo s)
    condition ms k None todo l h = stop Index todo _
    condition ms k (Some i) todo l h = go (Any ∷ ms) todo _ (tt, l) h

    -- the end of an activation
    pub returned : (given : Value) (cs : List Active) → todos.W g s.env.exec cs → UndoingStep g (piece.return_step given cs s)
    returned given [] c = record { run = tt; callers = callers; env = env }
    returned given (a ∷ cs) c = record { run = record { marks = Any ∷ c.0.marks; holds = (tt, c.0.holds); ok = c.0.ok }; callers = c.1; env = todos.likes g env refl refl refl }

    past : (v : Visited) (given : Value) (cs : List Active) → todos.W g s.env.exec cs → UndoingStep g (raising.return_past v given cs s)
    past v given [] c = record { run = tt; callers = callers; env = env }
    past v given (a ∷ cs) c = record { run = record { marks = []; holds = tt; ok = marks.left g (Any ∷ c.0.marks) a.control c.0.ok }; callers = c.1; env = todos.likes g env refl refl refl }

    end_by : (v : Option Visited) (given : Value) → UndoingStep g (raising.end_by v given s)
    end_by None given = returned given s.callers callers
    end_by (Some v) given = past v given s.callers callers

    end_step : (w : Way) → UndoingStep g (quiet.end_step w s)
    end_step src.ToReturn = end_by s.run.handles _
    end_step src.ToEnd = end_by s.run.handles _
    end_step src.ToBreak = returned _ s.callers callers
    end_step src.ToContinue = returned _ s.callers callers

    pub exits : (w : Way) (todo : List Todo) → L todo → UndoingStep g (quiet.exit_step w todo s)
    exits w [] h = end_step w
    exits w (p ∷ ps) h = anew _ _ (todos.left_behind g w (piece.sort p) ps h)

    -- statements

    pub swept : (n : ℕ) (e : Expr) (todo : List Todo) → CodeExpr g e → O [] todo → UndoingStep g (quiet.sweep_step n e todo s)
    swept zero e todo n h = anew _ _ h
    swept (suc m) e todo n h = record { run = record { marks = []; holds = tt; ok = (n.0, inl (n.1, (tt, (n, h)))) }; callers = callers; env = env }

    event_step : (ss : Stmts) (a : EventStmt) (todo : List Todo) → CodeStmt g ss (src.OfEvents a) → O [] todo → UndoingStep g (quiet.event_step a todo s)
    event_step ss (src.Throw line r) todo n h = anew _ _ (todos.raised g r (piece.ThrowNow ∷ (piece.Within line ∷ todo)) n.0 n.1 (tt, (tt, h)))
    event_step ss (src.Raise line r) todo n h = anew _ _ (todos.raised g r (piece.RaiseNow ∷ (piece.Within line ∷ todo)) n.0 n.1 (tt, (tt, h)))
    event_step ss (src.Try line body hs) todo n h = anew _ _ ((n.0.0, n.1.0), ((n.0.1, n.1.1), (tt, h)))
    event_step ss (src.RaiseAt line r a) todo n h =
        anew _ _ (todos.raised g r (piece.Eval a ∷ (piece.RaiseAtNow ∷ (piece.Within line ∷ todo))) (todos.counted_at g r n.0.0) n.1.0 (n.0.1, inl (n.1.1, (tt, (tt, h)))))
    event_step ss (src.Enable line events cell a) todo n h = anew _ _ (tt, (tt, (todos.inner g src.Nil a n, ((tt, tt), (tt, h)))))
    event_step ss (src.Disable line events cell a) todo n h = anew _ _ (tt, (todos.inner g src.Nil a n, ((tt, tt), (tt, h))))

    task_step : (ss : Stmts) (a : TaskStmt) (todo : List Todo) → CodeStmt g ss (src.OfTasks a) → O [] todo → UndoingStep g (quiet.task_step a todo s)
    task_step ss (src.Resume line) todo n h = anew _ _ (tt, (tt, (tt, h)))
    task_step ss (src.Suspend line) todo n h = anew _ _ (tt, (tt, (tt, h)))
    task_step ss (src.SetUp r) todo n h = anew _ _ (tt, h)
    task_step ss src.Enliven todo n h = anew _ _ (tt, h)
    task_step ss src.TakeDown todo n h = anew _ _ (tt, h)
    task_step ss (src.Yield line) todo n h = anew _ _ (tt, (tt, (tt, h)))
    task_step ss (src.Migrate line a) todo n h = anew _ _ (n.0, inl (n.1, (tt, (tt, h))))
    task_step ss (src.Accept line site cs) todo n h = anew _ _ (n, (tt, (n, (tt, h))))

    pub stmt : (a : Stmt) (todo : List Todo) → CodeStmt g (left_next todo) a → O [] todo → UndoingStep g (quiet.stmt_step a todo s)
    stmt (src.Skip line) todo n h = anew _ _ h
    stmt (src.Block line body) todo n h = anew _ _ (n, (tt, h))
    stmt (src.Whole line body) todo n h = anew _ _ (n, (tt, (tt, h)))
    stmt (src.Evaluate line a) todo n h = anew _ _ (todos.single g line a todo n.0 n.1 h)
    stmt (src.Declare line ds) todo n h = anew _ _ (n, (tt, h))
    stmt (src.Print line items) todo n h = anew _ _ (n, (tt, h))
    stmt (src.PrintTogether line items) todo n h = anew _ _ (n, (tt, (n, (tt, (tt, h)))))
    stmt (src.Read line ts) todo n h = anew _ _ (n, (tt, h))
    stmt (src.If line t x y) todo n h = anew _ _ (n.0.0, inl (n.1.0, (((n.0.1, n.1.1), (n.0.2, n.1.2)), (tt, h))))
    stmt (src.Loop line o t e x) todo n h = anew _ _ (todos.looped g o t e x _ ((n.0.0, n.1.0), (n.0.1, n.1.1), (n.0.2, n.1.2)) (tt, h))
    stmt (src.Break line) todo n h = anew _ _ (gone [] todo h)
    stmt (src.Continue line) todo n h = anew _ _ (gone [] todo h)
    stmt (src.Return line None) todo n h = anew _ _ (gone [] todo h)
    stmt (src.Return line (Some e)) todo n h = anew _ _ (n.0, inl (n.1, gone [] todo h))
    stmt (src.Owes line) todo n h = anew _ _ (tt, (tt, h))
    stmt (src.Fill line m x e) todo n h = anew _ _ (tt, (((n.0.0, n.1.0), (n.0.1, n.1.1)), (tt, h)))
    stmt (src.OfEvents a) todo n h = event_step (left_next todo) a todo n h
    stmt (src.OfTasks a) todo n h = task_step (left_next todo) a todo n h

    pub rest_of : (ss : Stmts) (todo : List Todo) → CodeStmts g ss → O [] todo → UndoingStep g (quiet.rest_step ss todo s)
    rest_of src.Nil todo n h = anew _ _ h
    rest_of (src.Then a ss) todo n h = anew _ _ ((n.0.0, n.1.0), ((n.0.1, n.1.1), h))
    rest_of (src.Scoped c ss) todo n h = anew _ _ ((n.0.1, n.1.1), ((n.0.0, n.1.0), h))
    rest_of (src.Built c ss) todo n h = anew _ _ ((n.0.1, n.1.1), ((n.0.0, n.1.0), h))

    pub land : (o : Option UnwindReason) (ms : List Mark) (todo : List Todo) → H ms s.run.operands → O ms todo → UndoingStep g (quiet.land_step o todo s)
    land None ms todo k h = go ms _ _ k h
    land (Some why) ms todo k h = unwound _ _ (gone ms todo h)

    -- events

    throws : (e : raising.Event) (todo : List Todo) → L todo → UndoingStep g (raising.throw_step e todo s)
    throws e todo h = record { run = record { marks = []; holds = tt; ok = h }; callers = callers; env = env }

    pub thrown : (e : raising.Event) (todo : List Todo) → O [] todo → UndoingStep g (raising.throw_step e todo s)
    thrown e todo h = throws e todo (gone [] todo h)

    -- the activation that raised goes on without the event
    handles : (ms : List Mark) (f : Option Found) (e : raising.Event) (todo : List Todo) → H ms s.run.operands → todos.OfFound g f → O (rests 3 ms) todo → UndoingStep g (raising.handle_step f e todo s)
    handles ms None e todo k n h = throws e todo (gone (rests 3 ms) todo h)
    handles ms (Some f) e todo k n h = record {
      run = record { marks = []; holds = tt; ok = todos.handled g f.handler [] n tt };
      callers = (finds 1 (rests 3 ms) (piece.DropNow ∷ todo) _ (holds_below g.home (here s) (rests 2 ms) _ (holds_below g.home (here s) (rests 1 ms) _ (holds_below g.home (here s) ms _ k))) (tt, h), callers);
      env = todos.likes g env refl refl refl;
    }

    pub raises : (ms : List Mark) (e : raising.Event) (todo : List Todo) → H ms s.run.operands → O (rests 3 ms) todo → UndoingStep g (raising.raise_step e todo s)
    raises ms e todo k h =
        let round : List Active = (record s.run { control = todo }) ∷ s.callers in
        handles ms (raising.seek None e round) e todo k (todos.seek g None e round (gone (rests 3 ms) todo h, waits_left g s.env.exec s.callers callers)) h

    -- unwinding

    catches : (o : Option Handler) (e : raising.Event) (todo : List Todo) → todos.OfHandler g o → O [] todo → UndoingStep g (raising.catch_step o e todo s)
    catches None e todo n h = unwound _ _ (gone [] todo h)
    catches (Some x) e todo n h = record { run = record { marks = []; holds = tt; ok = todos.handled g x todo n h }; callers = callers; env = env }

    guarded : (hs : Handlers) (o : Option UnwindReason) (todo : List Todo) → CodeHandlers g hs → O [] todo → UndoingStep g (raising.guard_left hs o todo s)
    guarded hs (Some (reason.Event n x y)) todo k h =
        catches _ _ todo (todos.handler_for g false (record { number = n; x = x; y = y }) hs k) h
    guarded hs o todo k h = unwound _ _ (gone [] todo h)

    whole : (b : Bool) (todo : List Todo) → O [] todo → UndoingStep g (raising.whole_left b todo s)
    whole true todo h = record { run = record { marks = []; holds = tt; ok = h }; callers = callers; env = env }
    whole false todo h = unwound _ _ (gone [] todo h)

    scope : (x : CleanUp) (b : Bool) (todo : List Todo) → CodeClean g x → O [] todo → UndoingStep g (raising.scope_left x b todo s)
    scope src.Leaves true todo n h = record { run = record { marks = []; holds = tt; ok = (tt, gone [] todo h) }; callers = callers; env = env }
    scope x b todo n h = anew (raising.left_todo x (piece.Unwind ∷ todo)) [] (todos.left_cleans g x (piece.Unwind ∷ todo) n (gone [] todo h))

    main_left : (o : Option UnwindReason) (todo : List Todo) → O [] todo → UndoingStep g (raising.main_left o todo s)
    main_left (Some (reason.ReturnTo n)) todo h = record { run = record { marks = []; holds = tt; ok = (tt, h) }; callers = callers; env = env }
    main_left o todo h = stop Unhandled todo []

    coroutine_left : (o : Option UnwindReason) (todo : List Todo) → O [] todo → UndoingStep g (raising.coroutine_left o todo s)
    coroutine_left (Some (reason.ReturnTo n)) todo h = record { run = record { marks = []; holds = tt; ok = (tt, h) }; callers = callers; env = env }
    coroutine_left (Some reason.Destroyed) todo h = moved _ todo _ (kept.taken_down_rests (Runs g) (Waits g) (todos.calm g) (at todo [] s) (anew todo [] h))
    coroutine_left o todo h = moved _ todo _ (kept.escape_rests (Runs g) (Waits g) (todos.calm g) (at todo [] s) (anew todo [] h))

    unwind_past : (k : Sort) (todo : List Todo) → LeftBy g k (L todo) (O [] todo) → UndoingStep g (raising.unwind_past k todo s)
    unwind_past piece.Simple todo h = unwound _ _ h
    unwind_past (piece.IsLoop o t e b) todo h = unwound _ _ (gone [] todo h.1)
    unwind_past piece.IsWhole todo h = whole _ todo h
    unwind_past (piece.IsClean c) todo h = scope c _ todo h.0 h.1
    unwind_past (piece.IsFill m b d) todo h = anew _ _ (h.0.1, gone [] todo h.1)
    unwind_past (piece.IsSweep e) todo h = anew _ _ (h.0, gone [] todo h.1)
    unwind_past (piece.IsPart c) todo h = anew _ _ (todos.cleans g c _ h.0 (gone [] todo h.1))
    unwind_past (piece.IsGuard hs) todo h = guarded hs s.run.raised todo h.0 h.1
    unwind_past piece.IsFinish todo h = main_left s.run.raised todo h
    unwind_past piece.IsFinishCoroutine todo h = coroutine_left s.run.raised todo h

    pass_on : (o : Option UnwindReason) (c : Active) (cs : List Active) → Waits g s.env.exec cs c → todos.W g s.env.exec cs → UndoingStep g (raising.pass_on o c cs s)
    pass_on None c cs a b = record { run = tt; callers = callers; env = env }
    pass_on (Some why) c cs a b = record { run = record { marks = []; holds = tt; ok = marks.left g (Any ∷ a.marks) c.control a.ok }; callers = b; env = todos.likes g env refl refl refl }

    leave_for : (b : Bool) (c : Active) (cs : List Active) → Waits g s.env.exec cs c → todos.W g s.env.exec cs → UndoingStep g (raising.leave_for b c cs s)
    leave_for true c cs a b = record { run = tt; callers = callers; env = env }
    leave_for false c cs a b = pass_on s.run.raised c cs a b

    leaves : (cs : List Active) → todos.W g s.env.exec cs → UndoingStep g (raising.leave_step cs s)
    leaves [] c = record { run = tt; callers = callers; env = env }
    leaves (c ∷ cs) p =
        either (UndoingStep g) (raising.arrives s.run.raised (length (c ∷ cs))) _ _ (returned s.run.result (c ∷ cs) p) (leave_for _ c cs p.0 p.1)

    pub unwinds : (todo : List Todo) → L todo → UndoingStep g (raising.unwind_step todo s)
    unwinds [] h = leaves s.callers callers
    unwinds (p ∷ ps) h = unwind_past (piece.sort p) ps h

    -- printing

    pub prints : (o : Option (List Piece)) (p : Piece) (todo : List Todo) (vs : List Value) → O [] todo → UndoingStep g (piece.print_step o p todo vs s)
    prints None p todo vs h = record { run = finds 0 [] todo vs tt h; callers = callers; env = env }
    prints (Some ps) p todo vs h = go_in [] _ _ _ tt h (same refl refl refl refl)

    pub flushes : (o : Option (List Piece)) (todo : List Todo) (vs : List Value) → O [] todo → UndoingStep g (piece.flush_step o todo vs s)
    flushes None todo vs h = anew _ _ h
    flushes (Some []) todo vs h = go_in [] _ _ _ tt h (same refl refl refl refl)
    flushes (Some (p ∷ ps)) todo vs h = record { run = finds 0 [] todo vs tt h; callers = callers; env = todos.likes g env refl refl refl }

    -- with what is known of the operands
    module _ (ms : List Mark) (holds : H ms s.run.operands) where
      pub one : H (rest ms) (below s.run.operands)
      one = holds_below g.home (here s) ms s.run.operands holds

      pub two : H (rest (rest ms)) (below (below s.run.operands))
      two = holds_below g.home (here s) (rest ms) (below s.run.operands) one

      -- expressions

      on : (n r : ℕ) (m : Mark) (todo : List Todo) → n ≡ params g.source r → O (Any ∷ ms) todo → O (Any ∷ rests (suc (params g.source r)) (anys n (m ∷ ms))) todo
      on n r m todo e h = todos.called_on g n r m ms todo e h

      object : (x : ObjectExpr) (todo : List Todo) → CountedExpr g.source (src.OfObject x) → PlainExpr g.source g.special (src.OfObject x) → O (Any ∷ ms) todo → UndoingStep g (quiet.object_step x todo s)
      object src.This todo n q h = go (Any ∷ ms) _ _ (tt, holds) h
      object (src.OwnField k i) todo n q h = go (Any ∷ ms) _ _ (tt, holds) h
      object (src.GetOwn k i) todo n q h = go (Any ∷ ms) _ _ (tt, holds) h
      object (src.FieldOf k i a) todo n q h = go ms _ _ holds (n, inl (q.1, (tt, h)))
      object src.Counted todo n q h = go (Any ∷ ms) _ _ (tt, holds) h
      object (src.CallOn r a args) todo n q h = go ms _ _ holds (n.0, inl (q.1.0, ((n.1, q.1.1), (tt, (inl q.0, on (count args) r Any todo n.2 h)))))
      object (src.CallLive r a args) todo n q h = go ms _ _ holds (n.0, inl (q.1.0, ((n.1, q.1.1), (tt, (tt, (inl q.0, on (count args) r Any todo n.2 h))))))
      object (src.CallUnwritten r a) todo n q h = go ms _ _ holds (n.0, inl (q.1, (inl q.0, on 0 r Any todo n.1 h)))
      object (src.EnterOn m r a args) todo n q h = go ms _ _ holds (n.0, inl (q.1.0, ((n.1, q.1.1), (tt, (tt, (inl q.0, on (count args) r Any todo n.2 h))))))
      object (src.EndOn r false a) todo n q h = go ms _ _ holds (n.0, inl (q.1, (tt, (inl q.0, on 0 r Any todo n.1 h))))
      object (src.EndOn r true a) todo n q h = go ms _ _ holds (n.0, inl (q.1, (tt, (tt, (inl q.0, on 0 r Any todo n.1 h)))))
      object (src.Bind a b) todo n q h = go ms _ _ holds (n.0, inl (q.1.0, (n.1, inl (q.1.1, (tt, h)))))
      object (src.MakeOn c r written a args) todo n q h = absurd q.0
      object src.NewCluster todo n q h = go ms _ _ holds (tt, h)
      object (src.NewProcessor a) todo n q h = go ms _ _ holds (n, inl (q.1, (tt, h)))
      object (src.EndCluster a) todo n q h = go ms _ _ holds (n, inl (q.1, (tt, h)))
      object (src.EndProcessor a) todo n q h = go ms _ _ holds (n, inl (q.1, (tt, h)))
      object (src.ConditionAt k m a) todo n q h = go ms _ _ holds (n, inl (q.1, (tt, h)))
      object (src.Wait a b) todo n q h = go ms _ _ holds (n.0, inl (q.1.0, (n.1, inl (q.1.1, (tt, (tt, h))))))
      object (src.Signal a) todo n q h = go ms _ _ holds (n, inl (q.1, (tt, h)))
      object (src.SignalBlock a) todo n q h = go ms _ _ holds (n, inl (q.1, (tt, h)))
      object (src.IsEmpty a) todo n q h = go ms _ _ holds (n, inl (q.1, (tt, h)))
      object (src.FrontOf a) todo n q h = go ms _ _ holds (n, inl (q.1, (tt, h)))

      eval : (a : Expr) (todo : List Todo) → CountedExpr g.source a → PlainExpr g.source g.special a → O (Any ∷ ms) todo → UndoingStep g (quiet.eval_step a todo s)
      eval (src.Literal k) todo n q h = go (Any ∷ ms) _ _ (tt, holds) h
      eval (src.Variable k) todo n q h = go (Any ∷ ms) _ _ (tt, holds) h
      eval (src.Element m k a i) todo n q h = go ms _ _ holds (n.0, inl (q.0, (n.1, inl (q.1, inl h))))
      eval (src.Get k) todo n q h = go (Any ∷ ms) _ _ (tt, holds) h
      eval (src.Load a) todo n q h = go ms _ _ holds (n, inl (q, (tt, h)))
      eval (src.Negated a) todo n q h = go ms _ _ holds (n, inl (q, (tt, h)))
      eval (src.Not a) todo n q h = go ms _ _ holds (n, inl (q, (tt, h)))
      eval (src.AsCharacter a) todo n q h = go ms _ _ holds (n, inl (q, (tt, h)))
      eval (src.AsTruth a) todo n q h = go ms _ _ holds (n, inl (q, (tt, h)))
      eval (src.Operate op a b) todo n q h = go ms _ _ holds (n.0, inl (q.0, (n.1, inl (q.1, (tt, h)))))
      eval (src.And a b) todo n q h = go ms _ _ holds (n.0, inl (q.0, (((n.1, q.1), (tt, tt)), h)))
      eval (src.Or a b) todo n q h = go ms _ _ holds (n.0, inl (q.0, (((tt, tt), (n.1, q.1)), h)))
      eval (src.Set k a) todo n q h = go ms _ _ holds (n, inl (q, (tt, h)))
      eval (src.Assign p a) todo n q h = go ms _ _ holds (n.0, inl (q.0, (n.1, inl (q.1, (tt, h)))))
      eval (src.First a b) todo n q h = go ms _ _ holds (n.0, inl (q.0, (n.1, inl (q.1, (tt, h)))))
      eval (src.Update op k p a) todo n q h = go ms _ _ holds (n.0, inl (q.0, (tt, (tt, (n.1, inl (q.1, (tt, todos.converts g k (Any ∷ ms) _ (tt, h))))))))
      eval (src.StepBehind op k p) todo n q h =
          go ms _ _ holds (n, inl (q, (tt, (tt, (tt, (tt, (tt, inl (tt, (tt, todos.converts g k (Any ∷ (Any ∷ (Any ∷ ms))) _ (tt, (tt, h)))))))))))
      eval src.Fail todo n q h = record { run = finds 1 ms todo _ holds h; callers = callers; env = env }
      eval (src.Call r args) todo n q h = go ms _ _ holds ((n.0, q.1), (tt, (q.0, todos.called g args r ms todo n.1 h)))
      eval (src.OfObject x) todo n q h = object x todo n q h

      -- a place is found, or the elements are counted
      finding : (e : Expr) (todo : List Todo) → CountedExpr g.source e → Finding e (λ m. O (m ∷ ms) todo) → UndoingStep g (quiet.eval_step e todo s)
      finding (src.Variable k) todo n h = go (At (src.Variable k) ∷ ms) _ _ (refl, holds) h
      finding (src.OfObject (src.OwnField k i)) todo n h = go (At (src.OfObject (src.OwnField k i)) ∷ ms) _ _ (refl, holds) h
      finding (src.OfObject src.Counted) todo n h = go (Counts ∷ ms) _ _ (refl, holds) h
      finding (src.Element m k (src.Variable j) (src.OfObject src.Counted)) todo n h = go ms _ _ holds (n.0, inr (inr (n.1, inr (inr (inr h)))))
      finding (src.Element m k (src.OfObject (src.OwnField z i)) (src.OfObject src.Counted)) todo n h = go ms _ _ holds (n.0, inr (inr (n.1, inr (inr (inr h)))))
      finding e todo n h = absurd h

      find_in : (p : Expr) → IsLocus p ⊎ IsCounted p → (F : Mark → Type 0) → F (At p) → Finding p F
      find_in (src.Variable k) x F h = h
      find_in (src.OfObject (src.OwnField z i)) x F h = h
      find_in (src.Element m k (src.Variable j) (src.OfObject src.Counted)) x F h = h
      find_in (src.Element m k (src.OfObject (src.OwnField z i)) (src.OfObject src.Counted)) x F h = h
      find_in p (inl x) F h = absurd x
      find_in p (inr x) F h = absurd x

      taken_place : (U : Expr → Type 0) (p : Expr) (todo : List Todo) → IsTakenBy g U p todo → IsLocus p ⊎ IsCounted p
      taken_place U p (piece.DropNow ∷ (piece.Within line ∷ (piece.Rest ss ∷ todo))) t = inl t.0
      taken_place U p (piece.DropNow ∷ (piece.MoreNow ∷ (piece.FillNow m x d ∷ todo))) t = inr t.0
      taken_place U p todo t = absurd t

      -- the place of a mutex object lies below the arguments of what makes one there
      made_at : (p : Expr) (n r : ℕ) (todo : List Todo) → n ≡ params g.source r → IsTakenBy g (IsEndedAt g.source g.special r p) p todo → O (Any ∷ ms) todo → FirstAt (rests (params g.source r) (anys n (At p ∷ ms))) (λ q. CallFits g r (made_marks g r (Homed q) (anys n (At p ∷ ms))) todo × O (Any ∷ rests (suc (params g.source r)) (made_marks g r (Homed q) (anys n (At p ∷ ms)))) todo)
      made_at p n r todo e t h =
          let fits : CallFits g r (anys (params g.source r) (Homed p ∷ ms)) todo = inr (subst (λ ns. CalledAt g r ns todo) (sym (rests_anys (params g.source r) (Homed p ∷ ms))) t) in
          todos.under g (λ ns. FirstAt ns (λ q. CallFits g r (made_marks g r (Homed q) (anys n (At p ∷ ms))) todo × O (Any ∷ rests (suc (params g.source r)) (made_marks g r (Homed q) (anys n (At p ∷ ms)))) todo)) n r (At p ∷ ms) e (todos.made_on g n r (At p) (Homed p) ms todo e fits h)

      -- what builds an object finds its place first
      builds : (e : Expr) (todo : List Todo) → CountedExpr g.source e → BuildsNow g todo e → O (Any ∷ ms) todo → UndoingStep g (quiet.eval_step e todo s)
      builds (src.OfObject (src.CallOn r p args)) todo n b h =
          go ms _ _ holds (n.0, inr (inr (find_in p (taken_place (IsUndoneAt g.source g.special r p) p todo b.1) (λ m. O (m ∷ ms) (piece.Arguments args ∷ (piece.TickNow ∷ (piece.CallOnNow r ∷ todo)))) ((n.1, b.0), (tt, (inr (todos.under g (λ ns. CalledAt g r ns todo) (count args) r (At p ∷ ms) n.2 b.1), on (count args) r (At p) todo n.2 h))))))
      builds (src.OfObject (src.CallUnwritten r p)) todo n b h =
          go ms _ _ holds (n.0, inr (inr (find_in p (taken_place (IsUndoneAt g.source g.special r p) p todo b) (λ m. O (m ∷ ms) (piece.CallUnwrittenNow r ∷ todo)) (inr (todos.under g (λ ns. CalledAt g r ns todo) 0 r (At p ∷ ms) n.1 b), on 0 r (At p) todo n.1 h))))
      builds (src.OfObject (src.MakeOn c r true p args)) todo n b h =
          go ms _ _ holds (n.0, inr (inr (find_in p (taken_place (IsEndedAt g.source g.special r p) p todo b.1) (λ m. O (m ∷ ms) (piece.Arguments args ∷ (piece.TickNow ∷ (piece.MakeNow c r ∷ (piece.CallOnNow r ∷ todo))))) ((n.1, b.0), (tt, made_at p (count args) r todo n.2 b.1 h)))))
      builds (src.OfObject (src.MakeOn c r false p args)) todo n b h =
          go ms _ _ holds (n.0, inr (inr (find_in p (taken_place (IsEndedAt g.source g.special r p) p todo b.1) (λ m. O (m ∷ ms) (piece.Arguments args ∷ (piece.MakeNow c r ∷ (piece.CallUnwrittenNow r ∷ todo)))) ((n.1, b.0), made_at p (count args) r todo n.2 b.1 h))))
      builds e todo n b h = absurd b

      pub evals : (e : Expr) (todo : List Todo) → O ms (piece.Eval e ∷ todo) → UndoingStep g (quiet.eval_step e todo s)
      evals e todo (n, inl h) = eval e todo n h.0 h.1
      evals e todo (n, inr (inl h)) = builds e todo n h.0 h.1
      evals e todo (n, inr (inr h)) = finding e todo n h

      -- calls

      dropped : (n : ℕ) → H (rests n ms) (drop n s.run.operands)
      dropped n = holds_drop g.home (here s) n ms s.run.operands holds

      dropped_one : (n : ℕ) → H (rests (suc n) ms) (below (drop n s.run.operands))
      dropped_one n = holds_below g.home (here s) (rests n ms) (drop n s.run.operands) (dropped n)

      begun : (x : Routine) (v : Value) (counts : Bool) (ns : List Mark) (todo : List Todo) (vs : List Value) → CodeStmts g x.body → H ns vs → O (Any ∷ ns) todo → UndoingStep g (quiet.begun_step x v counts todo vs s)
      begun x v counts ns todo vs n k h = record { run = record { marks = []; holds = tt; ok = todos.routine g x n }; callers = (finds 1 ns todo vs k h, callers); env = todos.likes g env refl refl refl }

      pub call : (x : Option Routine) (todo : List Todo) → CodeRoutine g x → O (Any ∷ rests (params_at x) ms) todo → UndoingStep g (quiet.call_step x todo s)
      call None todo n h = ends _ _
      call (Some x) todo n h = either (UndoingStep g) (nat_lt s.env.links.calls CALLS) _ _ (begun x _ true (rests x.params ms) todo _ n (dropped x.params) h) (stop Depth todo _)

      pub call_on : (x : Option Routine) (todo : List Todo) → CodeRoutine g x → O (Any ∷ rests (suc (params_at x)) ms) todo → UndoingStep g (quiet.call_on_step x todo s)
      call_on None todo n h = ends _ _
      call_on (Some x) todo n h = either (UndoingStep g) (nat_lt s.env.links.calls CALLS) _ _ (begun x _ true (rests (suc x.params) ms) todo _ n (dropped_one x.params) h) (stop Depth todo _)

      pub call_unwritten : (x : Option Routine) (todo : List Todo) → CodeRoutine g x → O (Any ∷ rests (suc (params_at x)) ms) todo → UndoingStep g (quiet.call_unwritten_step x todo s)
      call_unwritten None todo n h = ends _ _
      call_unwritten (Some x) todo n h = begun x _ false (rests (suc x.params) ms) todo _ n (dropped_one x.params) h

      pub live : (r : Option Routine) (todo : List Todo) → O ms todo → UndoingStep g (quiet.live_step r todo s)
      live None todo h = ends _ _
      live (Some r) todo h = either (UndoingStep g) (sw.is_live (piece.exec_at (top (drop r.params s.run.operands)) s.env) s.env) _ _ (go ms _ _ holds h) (stop NotLive todo _)

      pub set_up : (r : Option Routine) (todo : List Todo) → CodeRoutine g r → O [] todo → UndoingStep g (quiet.set_up_step r todo s)
      set_up None todo n h = anew _ _ h
      set_up (Some r) todo n h =
          let at_home = quiet.home_at s.run.this s.env in
          let b : todos.K g s.env (sw.born at_home (quiet.fresh r s.run.this) s.env) = kept.born_keeps (Runs g) (Waits g) (todos.calm g) at_home (quiet.fresh r s.run.this) s.env (λ k. record { run = record { marks = []; holds = tt; ok = todos.routine g r n }; callers = tt }) env in
          go_in [] _ _ _ tt h (kept.keeps_both (Runs g) (Waits g) (todos.calm g) b (kept.written_keeps (Runs g) (Waits g) (todos.calm g) s.run.this _ _ b.env))

      -- mutex objects

      pub unless : (o : ℕ) (step : Step) (todo : List Todo) → UndoingStep g step → UndoingStep g (monitors.unless_held_up o step todo s)
      unless o step todo k = either (UndoingStep g) (inside.is_held_up o s.env) _ step (stop BlockedInside todo _) k

      enter_at : (d : Option ℕ) (o m : ℕ) (todo : List Todo) → O ms todo → UndoingStep g (monitors.enter_at d o m todo s)
      enter_at (Some d) o m todo h = go_in ms _ _ _ holds h (same refl refl refl refl)
      enter_at None o m todo h = record { run = finds 0 ms todo _ holds h; callers = callers; env = todos.likes g env refl refl refl }

      pub enter : (m : ℕ) (r : Option Routine) (todo : List Todo) → O ms todo → UndoingStep g (monitors.enter_step m r todo s)
      enter m None todo h = ends _ _
      enter m (Some r) todo h =
          let o = piece.object_in (top (drop r.params s.run.operands)) in
          either (UndoingStep g) (monitors.may_call r.written s) _ _ (enter_at (find o s.env.depths) o m todo h) (stop Depth todo _)

      pub leave : (b : Bool) (o : ℕ) (todo : List Todo) → O ms todo → UndoingStep g (monitors.leave_at b o todo s)
      leave false o todo h = go_in ms _ _ _ holds h (same refl refl refl refl)
      leave true o todo h =
          unless o _ todo (record { run = record { marks = ms; holds = holds; ok = todos.polled g s.run.raised ms todo h }; callers = callers; env = todos.likes g env refl refl refl })

      pub make : (c k : ℕ) (r : Option Routine) (todo : List Todo) → O ms (piece.MakeNow c k ∷ todo) → UndoingStep g (monitors.make_step c k r todo s)
      make c k None todo h = ends _ _
      make c k (Some r) todo h =
          either (UndoingStep g) (monitors.may_call r.written s) _ _ (record { run = finds 1 ms (piece.BindMadeNow c k ∷ todo) _ holds h; callers = callers; env = todos.likes g env refl refl refl }) (stop Depth todo _)

      -- the operands behind a binding
      bound_under : (n : ℕ) (v : Value) → H (rests (suc n) (rest ms)) (below (drop n (slice_set (below s.run.operands) n v)))
      bound_under n v =
          let vs = below s.run.operands in
          subst (H (rests (suc n) (rest ms))) (sym (marks.drop_one n (slice_set vs n v) ∙ drop_set n v vs)) (holds_drop g.home (here s) (suc n) (rest ms) vs one)

      pub bind : (x : Option Routine) (todo : List Todo) → (o : ℕ) × (top s.run.operands ≡ Object o) × (g.home o ≡ top (drop (params_at x) (below s.run.operands))) → FirstAt (rests (params_at x) (rest ms)) (λ p. O (anys (params_at x) (Homed p ∷ rests (suc (params_at x)) (rest ms))) todo) → UndoingStep g (monitors.bind_step x todo s)
      bind None todo f h = ends _ _
      bind (Some x) todo f h =
          let n = x.params in
          let vs = below s.run.operands in
          let v = top s.run.operands in
          let k = marks.at_of g.home (here s) (rests n (rest ms)) (drop n vs) (holds_drop g.home (here s) n (rest ms) vs one) (λ p. O (anys n (Homed p ∷ rests (suc n) (rest ms))) todo) h in
          let there : top (drop n (slice_set vs n v)) ≡ v = set_top n v vs (marks.at_there g.home (here s) k.0 (drop n vs) k.1) in
          let homed : IsHomeAt g.home (here s) k.0 (top (drop n (slice_set vs n v))) = (top (drop n vs), marks.at_top g.home (here s) k.0 (drop n vs) k.1, (f.0, there ∙ f.1, f.2)) in
          go_in (anys n (Homed k.0 ∷ rests (suc n) (rest ms))) todo _ _ (holds_anys g.home (here s) n (Homed k.0 ∷ rests (suc n) (rest ms)) (slice_set vs n v) (homed, bound_under n v)) k.2 (write _ _)

      pub accept : (mask o site : ℕ) (todo : List Todo) (vs : List Value) → O [] todo → UndoingStep g (monitors.accept_by mask o site todo vs s)
      accept zero o site todo vs h = anew _ _ h
      accept (suc mask) o site todo vs h = unless o _ todo (record { run = record { marks = []; holds = tt; ok = (tt, (tt, h)) }; callers = callers; env = env })

      pub failed : (b : Bool) (todo : List Todo) (vs : List Value) → O [] todo → UndoingStep g (monitors.failed_step b todo vs s)
      failed true todo vs h = anew _ _ h
      failed false todo vs h = anew _ _ (tt, h)

      -- events elsewhere

      pend : (n : Exec) (e : raising.Event) (todo : List Todo) (vs : List Value) → O [] todo → UndoingStep g (polls.pend_step n e todo vs s)
      pend n e todo vs h =
          either (UndoingStep g) (nat_lt (length (inside.pending_at n s.env)) PENDING_EVENTS) _ _ (go_in [] _ _ _ tt h (kept.links_keeps (Runs g) (Waits g) (todos.calm g) (λ l. record l { pending = l.pending ++ (record { event = e.number; x = e.x; y = e.y }) ∷ [] }) n s.env env)) (stop TooManyPending todo vs)

      pend_at : (o : Option Exec) (e : raising.Event) (todo : List Todo) (vs : List Value) → O [] todo → UndoingStep g (polls.pend_at o e todo vs s)
      pend_at None e todo vs h = stop NotLive todo vs
      pend_at (Some n) e todo vs h = either (UndoingStep g) (sw.is_live (Some n) s.env) _ _ (pend n e todo vs h) (stop NotLive todo vs)

      pub raise_at : (v : Value) (e : raising.Event) (todo : List Todo) (vs : List Value) → O [] todo → UndoingStep g (polls.raise_at_step v e todo vs s)
      raise_at (Object o) e todo vs h = record { run = finds 0 [] todo vs tt h; callers = callers; env = env }
      raise_at v e todo vs h = pend_at (piece.exec_at v s.env) e todo vs h

      enabled_in : {e f : Env} (k : todos.K g s.env e) → f.exec ≡ e.exec → f.hand ≡ e.hand → f.house ≡ e.house → f.own ≡ e.own → todos.K g s.env f
      enabled_in k x h i o = kept.keeps_both (Runs g) (Waits g) (todos.calm g) k (kept.keeps_like (Runs g) (Waits g) (todos.calm g) k.env x h i o)

      pub enables : (events cell : ℕ) (todo : List Todo) → O [] todo → UndoingStep g (polls.enable_step events cell todo s)
      enables events cell todo h = go_in [] _ _ _ tt h (enabled_in (write (piece.variable_at cell s) (Number (signed_64 s.env.links.enabled))) refl refl refl refl)

      quiet_poll : (o : Option Pending) (todo : List Todo) → O ms todo → UndoingStep g (polls.quiet_poll o todo s)
      quiet_poll None todo h = go ms _ _ holds h
      quiet_poll (Some p) todo h = go_in (Any ∷ (Any ∷ (Any ∷ ms))) _ _ _ (tt, (tt, (tt, holds))) (tt, h) (same refl refl refl refl)

      poll_by : (b : Bool) (todo : List Todo) → O ms todo → UndoingStep g (polls.poll_by b todo s)
      poll_by true todo h = record { run = finds 3 ms (piece.DeliverNow ∷ todo) _ holds (tt, h); callers = callers; env = env }
      poll_by false todo h = quiet_poll (inside.oldest_enabled s.env.links) todo h

      pub poll : (todo : List Todo) → O ms todo → UndoingStep g (polls.poll_step todo s)
      poll todo h = either (UndoingStep g) (nat_eq s.env.links.enabled 0) _ _ (go ms _ _ holds h) (poll_by (inside.is_own s.env) todo h)

      pub deliver : (v : Value) (todo : List Todo) → O (rests 3 ms) todo → UndoingStep g (polls.deliver_step v todo s)
      deliver Nothing todo h = go (rests 3 ms) _ _ (dropped 3) h
      deliver v todo h = go ms _ _ holds (tt, (tt, h))

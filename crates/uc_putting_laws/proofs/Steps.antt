-- A quiet step of a state in which what is called is the execution's own leads to one.
use Rattle.std.proofs.Common.{◌≡◌, ℕ, zero, suc, ◌<◌, ◌≤◌, ◌⊎◌, inl, inr, Bool, true, false, List, [], ◌∷◌, length, drop, Option, Some, None, refl, sym, ap, ◌∙◌, subst, arith}
use Rattle.std.specs.Prelude.{nat_eq, nat_lt}
use Rattle.std.proofs.lemmas.Bool.{eqb-true, eq-eqb, cases_lt}
use Rattle.uc_tree.specs.declared.limits.TheConstants.{CALLS}
use Rattle.uc_tree.specs.Source as src
use Rattle.uc_tree.specs.Source.{Shape, Expr, ObjectExpr, Stmt, Stmts, EventStmt, TaskStmt, Routine, Way, CleanUp, Handlers, Purpose}
use Rattle.uc_entry.specs.declared.fault.RunFault.{RunFault}
use Rattle.uc_entry.specs.declared.fault.RunFault.TheVariants.{Index, Depth, NotLive, Unhandled}
use Rattle.uc_entry.specs.declared.request.Piece.{Piece}
use Rattle.uc_entry.specs.declared.request.Request.TheVariants as ask
use Rattle.uc_machine.specs.declared.exec.Owner.TheVariants.{Frame}
use Rattle.uc_machine.specs.declared.exec.UnwindReason.{UnwindReason}
use Rattle.uc_machine.specs.declared.exec.UnwindReason.TheVariants as reason
use Rattle.uc_machine.specs.declared.exec.Visited.{Visited}
use Rattle.uc_machine.specs.Switches as sw
use Rattle.uc_machine.specs.Switches.{Moved, To, Stops}
use Rattle.uc_machine.specs.Raising as raising
use Rattle.uc_machine.specs.Raising.{Handler, Found}
use Rattle.uc_machine.specs.Monitors as monitors
use Rattle.uc_machine.specs.Quiet as quiet
use Rattle.uc_machine.specs.Pieces as piece
use Rattle.uc_machine.specs.Pieces.{Link, Value, Number, Place, Object, Nothing, Todo, Sort, Active, State, Env, Step, Asks, Outcome, Gives, Faults, at, in_env, goes, fault, top, below, number, loaded, written}
use Rattle.uc_typing.specs.Typing.{Ty}
use Rattle.uc_state_laws.specs.Counted.{params_at, params, count, CountedClean}
use Rattle.uc_life_laws.specs.Belonging.{Belongs}
use Rattle.uc_life_laws.specs.Marks.{Outward, Free}
use Rattle.uc_life_laws.specs.Ending.{Spot, OfVariable, OfField}
use Rattle.uc_place_laws.proofs.AsideKeeping as kept
use Rattle.uc_place_laws.proofs.AsideKeeping.{either}
use Rattle.uc_putting_laws.specs.CleanedSpots.{Site, One, Each, Under, site_spot, AnySite, AnyPlace, HasSome, spot_of, HoldsObjects, MayHold, LiesInClass, Reach, reach_of, from_variable, apart, IsOf, IsIn, AllBelow, IsOutermost, Ascends}
use Rattle.uc_putting_laws.specs.ObjectsAtHand.{LiesUnder, same_place, further_on, LiesIn, there, BelongsBelow, in_object, OwnMarked, NoneWithin, IsBuilt}
use Rattle.uc_putting_laws.specs.Seats.{AtArray, NotStanding, GuardsCode, Searched, Beyond, IsSeated}
use Rattle.uc_putting_laws.specs.Calling.{opens_object, opens_at, is_opening, PlainNew, Binds, PlaceAt, CallsAt, MakesAt, MakesEach, EndsAt, EndsEach, EndsNumber, CleansBy}
use Rattle.uc_putting_laws.specs.Putting.{Setting, Around, around, IsHome, Mark, Any, At, Homed, Counter, rest, rests, anys, FirstUnder, FirstAt, FirstHome, IsCounter, IsEnding, OfObjects, OpensRest, Located, Enters, Loads, spot_at, StandsAt, HomedAt, Holds, BehindBy, SeatAt, Counts, Plain, CodeStmt, CodeStmts, CodeHandlers, CodeSweep, CodeSpine, CodeRest, CodeScope, CodeRoutine, made_marks, LeftBy, Ok, Left, Finds, Runs, Waits, PutState, PutStep}
use Rattle.uc_putting_laws.proofs.CleanedSpots.{apart_outermost, apart_class, next_mark}
use Rattle.uc_putting_laws.proofs.ObjectsWithin.{in_under, in_object_home, below_own, below_more, not_below, not_standing}
use Rattle.uc_putting_laws.proofs.VariableMarks.{variable_one}
use Rattle.uc_putting_laws.proofs.Searches as searches
use Rattle.uc_putting_laws.proofs.Searches.{FoundCode, PathOf}
use Rattle.uc_putting_laws.proofs.Seats as seats
use Rattle.uc_putting_laws.proofs.Seats.{RoundIn}
use Rattle.uc_putting_laws.proofs.Marks as marks
use Rattle.uc_putting_laws.proofs.Marks.{place_plain, holds_below, holds_drop, holds_anys, rests_anys, drop_set, set_top, stands_under, under_spot, stands_some, site_there, OfIndex, IsIndex, waits_left}
use Rattle.uc_putting_laws.proofs.Arrays.{PastArray, before_more, before_fresh, own_apart, older_apart}
use Rattle.uc_putting_laws.proofs.OwnMarks.{FramesWithin, frames_below, own_below, built_below, first_seat}
use Rattle.uc_putting_laws.proofs.PuttingTodos as todos

no_both : {A : Type 0} (b : Bool) → b ≡ true → b ≡ false → A
no_both b h k = absurd (cc)

-- the running activation of a state
abbrev pub here : State → Around
here s = around s.env.exec s.run s.callers

module _ (g : Setting) where
  module _ (s : State) (callers : todos.W g s.env.exec s.callers) (env : todos.E g s.env) (made : Reach) (this : IsSeated g.table g.source g.special g.few made s.env.exec s.callers s.run.frame s.run.handles s.run.this) where
    abbrev pub O : List Mark → List Todo → Type 0
    O ms todo = Ok g (here s) made ms todo

    abbrev pub L : List Todo → Type 0
    L todo = Left g (here s) made todo

    abbrev pub H : List Mark → List Value → Type 0
    H ms vs = Holds g.few (here s) s.run.elements ms vs

    gone : (ms : List Mark) (todo : List Todo) → O ms todo → L todo
    gone ms todo h = todos.left g (here s) made ms todo h

    -- the running activation, with other operands and something else to do, where so many operands come in front of these
    pub finds : (many : ℕ) (ns : List Mark) (todo : List Todo) (vs : List Value) → H ns vs → O (anys many ns) todo → Finds g many s.env.exec s.callers (record s.run { control = todo; operands = vs })
    finds many ns todo vs k h = record { made = made; this = this; marks = ns; holds = k; ok = h }

    -- it is unwound
    pub unwound : (todo : List Todo) (vs : List Value) → L todo → PutState g (at (piece.Unwind ∷ todo) vs s)
    unwound todo vs h = record { run = record { made = made; this = this; marks = []; holds = tt; ok = h }; callers = callers; env = env }

    pub go : (ns : List Mark) (todo : List Todo) (vs : List Value) → H ns vs → O ns todo → PutState g (at todo vs s)
    go ns todo vs k h = record { run = finds 0 ns todo vs k h; callers = callers; env = env }

    -- with something to do before which nothing need be known
    pub anew : (todo : List Todo) (vs : List Value) → O [] todo → PutState g (at todo vs s)
    anew todo vs h = go [] todo vs tt h

    -- and with something written
    pub go_in : (ns : List Mark) (todo : List Todo) (vs : List Value) (e : Env) → H ns vs → O ns todo → todos.K g s.env e → PutState g (at todo vs (in_env e s))
    go_in ns todo vs e k h i = kept.with_env (Runs g) (Waits g) (todos.calm g) (at todo vs s) (go ns todo vs k h) i

    pub same : {f : Env} → f.exec ≡ s.env.exec → f.hand ≡ s.env.hand → f.house ≡ s.env.house → f.own ≡ s.env.own → todos.K g s.env f
    same x h k o = kept.keeps_like (Runs g) (Waits g) (todos.calm g) env x h k o

    pub stop : (f : RunFault) (todo : List Todo) (vs : List Value) → PutStep g (fault f todo vs s)
    stop f todo vs = record { run = tt; callers = callers; env = env }

    pub ends : (todo : List Todo) (vs : List Value) → PutStep g (Asks ask.End (at todo vs s))
    ends todo vs = record { run = tt; callers = callers; env = env }

    pub moved : (m : Moved (List Todo) Value) (todo : List Todo) (vs : List Value) → todos.M g m → PutStep g (piece.moves m (at todo vs s))
    moved (To t) todo vs m = m
    moved (Stops f) todo vs m = stop f todo vs

    pub write : (p v : Value) → todos.K g s.env (written p v s.env)
    write p v = kept.written_keeps (Runs g) (Waits g) (todos.calm g) p v s.env env

    pub outcome : (ms : List Mark) (o : Outcome) (todo : List Todo) (vs : List Value) → H ms vs → O (Any ∷ ms) todo → PutStep g (piece.outcome_step o todo vs s)
    outcome ms (Gives n) todo vs k h = go (Any ∷ ms) todo _ (tt, k) h
    outcome ms (Faults f) todo vs k h = stop f todo vs

    -- something is known of an element or not
    pub element : (C : Type 0) (ms : List Mark) (n : ℕ) (k : Shape) (i : Option ℕ) (todo : List Todo) (v : Value) (vs : List Value) → H ms (v ∷ vs) → OfIndex n i → (C → IsIndex s.run.elements i) → O (Any ∷ rest ms) todo ⊎ FirstAt ms (λ x. Enters C n k x (λ y. O (At y ∷ rest ms) todo)) → PutStep g (piece.element_step k i todo v vs s)
    element C ms n k None todo v vs l b is h = stop Index todo vs
    element C ms n k (Some i) todo v vs l b is (inl h) = go (Any ∷ rest ms) todo _ (tt, holds_below g.few (here s) s.run.elements ms (v ∷ vs) l) h
    element C ms n k (Some i) todo v vs l b is (inr h) =
        let f = marks.at_of g.few (here s) s.run.elements ms (v ∷ vs) l (λ x. Enters C n k x (λ y. O (At y ∷ rest ms) todo)) h in
        entered n k i todo v vs l b is f.0 f.1 f.2
      where
        entered : (n : ℕ) (k : Shape) (i : ℕ) (todo : List Todo) (v : Value) (vs : List Value) → H ms (v ∷ vs) → i < n → (C → i ≡ s.run.elements) → (x : Site) → StandsAt g.few (here s) s.run.elements x v → Enters C n k x (λ y. O (At y ∷ rest ms) todo) → PutStep g (piece.element_step k (Some i) todo v vs s)
        entered n k i todo v vs l b is (Under o m p) e h = go (At (Under o n p) ∷ rest ms) todo _ ((omega (arith, b), further_on (piece.At k i) e.1), holds_below g.few (here s) s.run.elements ms (v ∷ vs) l) h
        entered n src.Binding i todo v vs l b is (One p) e h =
            let same : i ≡ s.run.elements = is h.0 in
            go (At (Each n p) ∷ rest ms) todo _ ((subst (λ (j : ℕ). j < n) same b, ap (λ (j : ℕ). piece.further (piece.At src.Binding j) v) same ∙ ap (piece.further (piece.At src.Binding s.run.elements)) e), holds_below g.few (here s) s.run.elements ms (v ∷ vs) l) h.1
        entered n k i todo v vs l b is x e h = absurd h

    pub condition : (ms : List Mark) (k : ℕ) (i : Option ℕ) (todo : List Todo) → H ms (below s.run.operands) → O (Any ∷ ms) todo → PutStep g (monitors.condition_step k i todo s)
    condition ms k None todo l h = stop Index todo _
    condition ms k (Some i) todo l h = go (Any ∷ ms) todo _ (tt, l) h

    -- the end of an activation
    pub returned : (given : Value) (cs : List Active) → todos.W g s.env.exec cs → PutStep g (piece.return_step given cs s)
    returned given [] c = record { run = tt; callers = callers; env = env }
    returned given (a ∷ cs) c = record { run = record { made = c.0.made; this = c.0.this; marks = Any ∷ c.0.marks; holds = (tt, c.0.holds); ok = c.0.ok }; callers = c.1; env = todos.likes g env refl refl refl }

    past : (v : Visited) (given : Value) (cs : List Active) → todos.W g s.env.exec cs → PutStep g (raising.return_past v given cs s)
    past v given [] c = record { run = tt; callers = callers; env = env }
    past v given (a ∷ cs) c = record { run = record { made = c.0.made; this = c.0.this; marks = []; holds = tt; ok = todos.left g (around s.env.exec a cs) c.0.made (Any ∷ c.0.marks) a.control c.0.ok }; callers = c.1; env = todos.likes g env refl refl refl }

    end_by : (v : Option Visited) (given : Value) → PutStep g (raising.end_by v given s)
    end_by None given = returned given s.callers callers
    end_by (Some v) given = past v given s.callers callers

    end_step : (w : Way) → PutStep g (quiet.end_step w s)
    end_step src.ToReturn = end_by s.run.handles _
    end_step src.ToEnd = end_by s.run.handles _
    end_step src.ToBreak = returned _ s.callers callers
    end_step src.ToContinue = returned _ s.callers callers

    pub exits : (w : Way) (todo : List Todo) → L todo → PutStep g (quiet.exit_step w todo s)
    exits w [] h = end_step w
    exits w (p ∷ ps) h = anew _ _ (todos.left_behind g (here s) made w (piece.sort p) ps h)

    -- statements

    pub swept : (n : ℕ) (e : Expr) (todo : List Todo) → CodeSweep g made (todos.Lones g (here s) made todo) e → O [] todo → PutStep g (quiet.sweep_step n e todo s)
    swept zero e todo n h = anew _ _ h
    swept (suc m) e todo n h = record { run = record { made = made; this = this; marks = []; holds = tt; ok = todos.sweeps g (here s) made e todo n h }; callers = callers; env = env }

    -- nothing stands around where an event is built
    abbrev pub LoneEvent : EventStmt → List Todo → Type 0
    LoneEvent (src.Throw line r) todo = todos.BuildsAt g (here s) made r (todos.Lones g (here s) made todo)
    LoneEvent (src.Raise line r) todo = todos.BuildsAt g (here s) made r (todos.Lones g (here s) made todo)
    LoneEvent (src.RaiseAt line r a) todo = todos.BuildsAt g (here s) made r (todos.Lones g (here s) made todo)
    LoneEvent a todo = Unit {0}

    event_step : (P : Site → Type 0) (a : EventStmt) (todo : List Todo) → CodeStmt g P made (src.OfEvents a) → LoneEvent a todo → O [] todo → PutStep g (quiet.event_step a todo s)
    event_step P (src.Throw line r) todo n l h = anew _ _ (todos.raised g (here s) made r (piece.ThrowNow ∷ (piece.Within line ∷ todo)) n.0 l (tt, (tt, h)))
    event_step P (src.Raise line r) todo n l h = anew _ _ (todos.raised g (here s) made r (piece.RaiseNow ∷ (piece.Within line ∷ todo)) n.0 l (tt, (tt, h)))
    event_step P (src.Try line body hs) todo n l h = anew _ _ (inl (n.0.0, n.1.0), ((n.0.1, n.1.1), (tt, h)))
    event_step P (src.RaiseAt line r a) todo n l h =
        anew _ _ (todos.raised g (here s) made r (piece.Eval a ∷ (piece.RaiseAtNow ∷ (piece.Within line ∷ todo))) (todos.counted_at g (here s) made r n.0.0) l (n.0.1, inl (n.1.1, (tt, (tt, h)))))
    event_step P (src.Enable line events cell a) todo n l h = anew _ _ (tt, (tt, (todos.inner g (here s) made (OpensRest g.table (piece.Clean (src.Restores cell) ∷ (piece.Within line ∷ todo))) a n, ((tt, tt, tt, (λ h i a this v e d w. absurd d)), (tt, h)))))
    event_step P (src.Disable line events cell a) todo n l h = anew _ _ (tt, (todos.inner g (here s) made (OpensRest g.table (piece.Clean (src.Restores cell) ∷ (piece.Within line ∷ todo))) a n, ((tt, tt, tt, (λ h i a this v e d w. absurd d)), (tt, h))))

    task_step : (P : Site → Type 0) (a : TaskStmt) (todo : List Todo) → CodeStmt g P made (src.OfTasks a) → O [] todo → PutStep g (quiet.task_step a todo s)
    task_step P (src.Resume line) todo n h = anew _ _ (tt, (tt, (tt, h)))
    task_step P (src.Suspend line) todo n h = anew _ _ (tt, (tt, (tt, h)))
    task_step P (src.SetUp r) todo n h = anew _ _ (n.1, h)
    task_step P src.Enliven todo n h = anew _ _ (tt, h)
    task_step P src.TakeDown todo n h = anew _ _ (tt, h)
    task_step P (src.Yield line) todo n h = anew _ _ (tt, (tt, (tt, h)))
    task_step P (src.Migrate line a) todo n h = anew _ _ (n.0, inl (n.1, (tt, (tt, h))))
    task_step P (src.Accept line site cs) todo n h = anew _ _ (n, (tt, (n, (tt, h))))

    -- so it is behind a statement, of what opens there, and where it builds an event
    abbrev pub LoneBehind : List Todo → Type 0
    LoneBehind todo = (x : Site) → IsIn made x → OpensRest g.table todo x → SeatAt g (here s) made todo x

    abbrev pub LoneStmt : Stmt → List Todo → Type 0
    LoneStmt (src.OfEvents a) todo = LoneEvent a todo
    LoneStmt a todo = Unit {0}

    wide : (p : Spot) → IsOf made p → IsOf made p
    wide p i = i

    pub stmt : (a : Stmt) (todo : List Todo) → CodeStmt g (OpensRest g.table todo) made a → LoneBehind todo → LoneStmt a todo → O [] todo → PutStep g (quiet.stmt_step a todo s)
    stmt (src.Skip line) todo n b l h = anew _ _ h
    stmt (src.Block line body) todo n b l h = anew _ _ (inl n, (tt, h))
    stmt (src.Whole line body) todo n b l h = anew _ _ (inl n, (tt, (tt, h)))
    stmt (src.Evaluate line a) todo n b l h = anew _ _ (todos.single g (here s) made a (piece.DropNow ∷ (piece.Within line ∷ todo)) n.0 (marks.evaluates_more g.table g.source g.special made made wide (OpensRest g.table todo) (todos.Lones g (here s) made todo) b a n.1) (tt, (tt, h)))
    stmt (src.Declare line ds) todo n b l h = anew _ _ (n, (tt, h))
    stmt (src.Print line items) todo n b l h = anew _ _ (n, (tt, h))
    stmt (src.PrintTogether line items) todo n b l h = anew _ _ (n, (tt, (n, (tt, (tt, h)))))
    stmt (src.Read line ts) todo n b l h = anew _ _ (n, (tt, h))
    stmt (src.If line t x y) todo n b l h = anew _ _ (n.0.0, inl (n.1.0, (((n.0.1, n.1.1), (n.0.2, n.1.2)), (tt, h))))
    stmt (src.Loop line o t e x) todo n b l h = anew _ _ (todos.looped g (here s) made o t e x _ ((n.0.0, n.1.0), (n.0.1, n.1.1), (n.0.2, n.1.2)) (tt, h))
    stmt (src.Break line) todo n b l h = anew _ _ (gone [] todo h)
    stmt (src.Continue line) todo n b l h = anew _ _ (gone [] todo h)
    stmt (src.Return line None) todo n b l h = anew _ _ (gone [] todo h)
    stmt (src.Return line (Some e)) todo n b l h = anew _ _ (n.0, inl (n.1, gone [] todo h))
    stmt (src.Owes line) todo n b l h = anew _ _ (tt, (tt, h))
    stmt (src.Fill line m x e) todo n b l h = anew _ _ (tt, (((n.0.0, marks.fills_more g.table g.source g.special made made wide (OpensRest g.table todo) (todos.Lones g (here s) made todo) b x n.1.0), (n.0.1, marks.sweeps_more g.table g.source g.special made made wide (OpensRest g.table todo) (todos.Lones g (here s) made todo) b e n.1.1)), (tt, h)))
    stmt (src.OfEvents a) todo n b l h = event_step (OpensRest g.table todo) a todo n l h
    stmt (src.OfTasks a) todo n b l h = task_step (OpensRest g.table todo) a todo n h

    -- statements within others open a scope
    scoped : (c : CleanUp) (ss : Stmts) (todo : List Todo) → CodeStmts g (apart made) (src.Scoped c ss) → O [] todo → PutStep g (piece.turns (piece.Rest ss ∷ (piece.Clean c ∷ todo)) s)
    scoped c ss todo n h = anew _ _ (inl (n.0.1, n.1.1), (todos.scope_more g (here s) made c todo n.0.0 n.1.0, h))

    built : (c : CleanUp) (ss : Stmts) (todo : List Todo) → CodeStmts g (apart made) (src.Built c ss) → O [] todo → PutStep g (piece.turns (piece.Rest ss ∷ (piece.Part c ∷ todo)) s)
    built c ss todo n h =
        anew _ _ (inl (n.0.1, n.1.1), ((n.0.0, marks.cleans_more g.table g.source g.special (apart made) made (marks.apart_wide made) c n.1.0, apart_outermost g.table g.source g.special made c todo n.1.0, apart_class g.table g.source g.special made made.class c n.1.0), h))

    -- those of a constructor or a destructor, which puts marks for fields in order
    own_scope : (c : CleanUp) (todo : List Todo) → CountedClean g.source c → CleansBy g.table g.source g.special made c → IsOutermost (spot_of c) todo → LiesInClass g.table made.class c → CodeScope g (here s) made c todo
    own_scope src.Ends todo n k o l = absurd k
    own_scope (src.Frees r) todo n k o l = absurd k
    own_scope c todo n k o l = (n, k, o, l)

    own_scoped : (c : CleanUp) (ss : Stmts) (todo : List Todo) → CodeSpine g made (src.Scoped c ss) todo → O [] todo → PutStep g (piece.turns (piece.Rest ss ∷ (piece.Clean c ∷ todo)) s)
    own_scoped c ss todo n h =
        let x = next_mark (spot_of c) n.1.0 todo (λ m. Ascends m ss) n.1.2 n.1.1 in
        anew _ _ (inr (inl ((n.0.0.1, n.0.1.1), (x.number, (x.mark, x.below), x.behind), n.2.1)), (own_scope c todo n.0.0.0 n.0.1.0 x.outermost n.2.0, h))

    own_built : (c : CleanUp) (ss : Stmts) (todo : List Todo) → CodeSpine g made (src.Built c ss) todo → O [] todo → PutStep g (piece.turns (piece.Rest ss ∷ (piece.Part c ∷ todo)) s)
    own_built c ss todo n h =
        let x = next_mark (spot_of c) n.1.0 todo (λ m. Ascends m ss) n.1.2 n.1.1 in
        anew _ _ (inr (inl ((n.0.0.1, n.0.1.1), (x.number, (x.mark, x.below), x.behind), n.2.1)), ((n.0.0.0, n.0.1.0, x.outermost, n.2.0), h))

    pub rest_of : (ss : Stmts) (todo : List Todo) → CodeRest g (here s) made ss todo → O [] todo → PutStep g (quiet.rest_step ss todo s)
    rest_of src.Nil todo n h = anew _ _ h
    rest_of (src.Then a ss) todo (inl n) h =
        anew _ _ ((n.0.0, marks.stmt_more g.table g.source g.special made (OpensRest g.table (piece.Rest ss ∷ todo)) (OpensRest g.table (piece.Rest ss ∷ todo)) (λ x i y. y) a n.1.0), (inl (n.0.1, n.1.1), h))
    rest_of (src.Scoped c ss) todo (inl n) h = scoped c ss todo n h
    rest_of (src.Built c ss) todo (inl n) h = built c ss todo n h
    rest_of (src.Then a ss) todo (inr (inl n)) h = anew _ _ ((n.0.0.0, n.0.1.0), (inr (inl ((n.0.0.1, n.0.1.1), n.1, n.2)), h))
    rest_of (src.Scoped c ss) todo (inr (inl n)) h = own_scoped c ss todo n h
    rest_of (src.Built c ss) todo (inr (inl n)) h = own_built c ss todo n h
    rest_of (src.Scoped src.Ends ss) todo (inr (inr n)) h = anew _ _ (inr (inl ((n.1.1, n.2.0), (0, (tt, n.3), n.2.1), n.5.1)), (n.0, h))
    rest_of (src.Scoped (src.Frees r) ss) todo (inr (inr n)) h = anew _ _ (inr (inl ((n.1.1, n.2.1), (0, (tt, n.3), n.2.2), n.5.1)), ((n.2.0, n.4, n.0), h))
    rest_of ss todo (inr (inr n)) h = absurd n.2

    pub land : (o : Option UnwindReason) (ms : List Mark) (todo : List Todo) → H ms s.run.operands → O ms todo → PutStep g (quiet.land_step o todo s)
    land None ms todo k h = go ms _ _ k h
    land (Some why) ms todo k h = unwound _ _ (gone ms todo h)

    -- events

    throws : (e : raising.Event) (todo : List Todo) → L todo → PutStep g (raising.throw_step e todo s)
    throws e todo h = record { run = record { made = made; this = this; marks = []; holds = tt; ok = h }; callers = callers; env = env }

    pub thrown : (e : raising.Event) (todo : List Todo) → O [] todo → PutStep g (raising.throw_step e todo s)
    thrown e todo h = throws e todo (gone [] todo h)

    -- the activation that raised goes on without the event
    abbrev Raising : List Todo → List Value → Active
    Raising todo vs = record s.run { control = piece.DropNow ∷ todo; operands = vs }

    -- what is known of a handler that is found from there on
    record Handling (round : List Active) (f : Option Found) : Type 0 where
      code : (x e : ℕ) → Searched g.table g.source g.special x None e round → FoundCode g.table g.source g.special x e f
      path : (x e : ℕ) → Searched g.table g.source g.special x None e round → PathOf g.table g.source g.special x e round f

    handles : (ms : List Mark) (f : Option Found) (e : raising.Event) (todo : List Todo) → H ms s.run.operands → todos.OfFound g f → Handling (Raising todo (below (below (below s.run.operands))) ∷ s.callers) f → O (rests 3 ms) todo → PutStep g (raising.handle_step f e todo s)
    handles ms None e todo k n y h = throws e todo (gone (rests 3 ms) todo h)
    handles ms (Some f) e todo k n y h = record {
      run = record {
        made = from_variable (rounds f.frame).cell;
        this = record {
          own = λ q. absurd (cc);
          alone = λ q. absurd (cc);
          free = λ q. absurd (cc);
          spare = (rounds f.frame).spare;
          built = (rounds f.frame).built;
          arrays = (rounds f.frame).arrays;
          apart = λ q. absurd (cc);
          after = y.path (rounds f.frame).cell f.frame (rounds f.frame).code;
          beyond = λ d q. record {
            cell = (rounds d).cell;
            spare = (rounds d).spare;
            past = λ h. absurd h;
            held = λ q. absurd (cc);
            built = (rounds d).built;
            arrays = (rounds d).arrays;
            code = y.path (rounds d).cell d (rounds d).code;
          };
        };
        marks = [];
        holds = tt;
        ok = todos.handled g (record { exec = s.env.exec; frame = f.frame; handles = Some f.visited; this = f.this; older = round }) (from_variable (rounds f.frame).cell) f.handler [] (n, y.code (rounds f.frame).cell f.frame (rounds f.frame).code refl) tt;
      };
      callers = (finds 1 (rests 3 ms) (piece.DropNow ∷ todo) _ (holds_below g.few (here s) s.run.elements (rests 2 ms) _ (holds_below g.few (here s) s.run.elements (rests 1 ms) _ (holds_below g.few (here s) s.run.elements ms _ k))) (tt, h), callers);
      env = todos.likes g env refl refl refl;
    }
      where
        round : List Active
        round = Raising todo (below (below (below s.run.operands))) ∷ s.callers

        rounds : (d : ℕ) → RoundIn g s.env.exec (Raising todo (below (below (below s.run.operands)))) s.callers made this (gone (rests 3 ms) todo h) d
        rounds d = seats.round_in g s.env.exec (Raising todo (below (below (below s.run.operands)))) s.callers made this (gone (rests 3 ms) todo h) d

    pub raises : (ms : List Mark) (e : raising.Event) (todo : List Todo) → H ms s.run.operands → O (rests 3 ms) todo → PutStep g (raising.raise_step e todo s)
    raises ms e todo k h =
        let raised : Active = record s.run { control = todo } in
        let behind : Active = Raising todo (below (below (below s.run.operands))) in
        let same : raising.seek None e (behind ∷ s.callers) ≡ raising.seek None e (raised ∷ s.callers) = searches.seek_like e raised behind s.callers refl refl refl refl in
        let found : Option Found = raising.seek None e (raised ∷ s.callers) in
        handles ms found e todo k (todos.seek g s.env.exec None e (raised ∷ s.callers) (record { made = made; rest = gone (rests 3 ms) todo h; seat = this }, waits_left g s.env.exec s.callers callers)) (record {
          code = λ x d c. subst (FoundCode g.table g.source g.special x d) same (searches.found_code g.table g.source g.special x d None e (behind ∷ s.callers) c);
          path = λ x d c. subst (PathOf g.table g.source g.special x d (behind ∷ s.callers)) same (searches.path g.table g.source g.special x d None e (behind ∷ s.callers) c);
        }) h

    -- unwinding

    catches : (o : Option Handler) (e : raising.Event) (todo : List Todo) → todos.OfHandler g (apart made) o → O [] todo → PutStep g (raising.catch_step o e todo s)
    catches None e todo n h = unwound _ _ (gone [] todo h)
    catches (Some x) e todo n h = record { run = record { made = made; this = this; marks = []; holds = tt; ok = todos.handled g (here s) made x todo n h }; callers = callers; env = env }

    guarded : (hs : Handlers) (o : Option UnwindReason) (todo : List Todo) → CodeHandlers g (apart made) hs → O [] todo → PutStep g (raising.guard_left hs o todo s)
    guarded hs (Some (reason.Event n x y)) todo k h =
        catches _ _ todo (todos.handler_for g (apart made) false (record { number = n; x = x; y = y }) hs k) h
    guarded hs o todo k h = unwound _ _ (gone [] todo h)

    whole : (b : Bool) (todo : List Todo) → O [] todo → PutStep g (raising.whole_left b todo s)
    whole true todo h = record { run = record { made = made; this = this; marks = []; holds = tt; ok = h }; callers = callers; env = env }
    whole false todo h = unwound _ _ (gone [] todo h)

    scope : (x : CleanUp) (b : Bool) (todo : List Todo) → CodeScope g (here s) made x todo → todos.LoneFor g (here s) made x (piece.Unwind ∷ todo) → O [] todo → PutStep g (raising.scope_left x b todo s)
    scope src.Leaves true todo n l h = record { run = record { made = made; this = this; marks = []; holds = tt; ok = (tt, gone [] todo h) }; callers = callers; env = env }
    scope x b todo n l h = anew (raising.left_todo x (piece.Unwind ∷ todo)) [] (todos.left_cleans g (here s) made x todo (piece.Unwind ∷ todo) (λ k. k) n l (gone [] todo h))

    main_left : (o : Option UnwindReason) (todo : List Todo) → O [] todo → PutStep g (raising.main_left o todo s)
    main_left (Some (reason.ReturnTo n)) todo h = record { run = record { made = made; this = this; marks = []; holds = tt; ok = (tt, h) }; callers = callers; env = env }
    main_left o todo h = stop Unhandled todo []

    coroutine_left : (o : Option UnwindReason) (todo : List Todo) → O [] todo → PutStep g (raising.coroutine_left o todo s)
    coroutine_left (Some (reason.ReturnTo n)) todo h = record { run = record { made = made; this = this; marks = []; holds = tt; ok = (tt, h) }; callers = callers; env = env }
    coroutine_left (Some reason.Destroyed) todo h = moved _ todo _ (kept.taken_down_rests (Runs g) (Waits g) (todos.calm g) (at todo [] s) (anew todo [] h))
    coroutine_left o todo h = moved _ todo _ (kept.escape_rests (Runs g) (Waits g) (todos.calm g) (at todo [] s) (anew todo [] h))

    -- nothing stands around what is left next
    abbrev pub LonePast : Sort → List Todo → Type 0
    LonePast (piece.IsClean c) todo = todos.LoneFor g (here s) made c (piece.Unwind ∷ todo)
    LonePast (piece.IsPart c) todo = todos.LoneFor g (here s) made c (piece.Unwind ∷ todo)
    LonePast k todo = Unit {0}

    unwind_past : (k : Sort) (todo : List Todo) → LeftBy g (here s) made k todo (L todo) (O [] todo) → LonePast k todo → PutStep g (raising.unwind_past k todo s)
    unwind_past piece.Simple todo h l = unwound _ _ h
    unwind_past (piece.IsLoop o t e b) todo h l = unwound _ _ (gone [] todo h.1)
    unwind_past piece.IsWhole todo h l = whole _ todo h
    unwind_past (piece.IsClean c) todo h l = scope c _ todo h.0 l h.1
    unwind_past (piece.IsFill m b d) todo h l = anew _ _ (h.0.1, gone [] todo h.1)
    unwind_past (piece.IsSweep e) todo h l = anew _ _ (h.0, gone [] todo h.1)
    unwind_past (piece.IsPart c) todo h l = anew _ _ (todos.cleans g (here s) made c todo (piece.Unwind ∷ todo) (λ k. k) (todos.part_scope g (here s) made c todo h.0) l (gone [] todo h.1))
    unwind_past (piece.IsGuard hs) todo h l = guarded hs s.run.raised todo h.0 h.1
    unwind_past piece.IsFinish todo h l = main_left s.run.raised todo h
    unwind_past piece.IsFinishCoroutine todo h l = coroutine_left s.run.raised todo h

    pass_on : (o : Option UnwindReason) (c : Active) (cs : List Active) → Waits g s.env.exec cs c → todos.W g s.env.exec cs → PutStep g (raising.pass_on o c cs s)
    pass_on None c cs a b = record { run = tt; callers = callers; env = env }
    pass_on (Some why) c cs a b = record { run = record { made = a.made; this = a.this; marks = []; holds = tt; ok = todos.left g (around s.env.exec c cs) a.made (Any ∷ a.marks) c.control a.ok }; callers = b; env = todos.likes g env refl refl refl }

    leave_for : (b : Bool) (c : Active) (cs : List Active) → Waits g s.env.exec cs c → todos.W g s.env.exec cs → PutStep g (raising.leave_for b c cs s)
    leave_for true c cs a b = record { run = tt; callers = callers; env = env }
    leave_for false c cs a b = pass_on s.run.raised c cs a b

    leaves : (cs : List Active) → todos.W g s.env.exec cs → PutStep g (raising.leave_step cs s)
    leaves [] c = record { run = tt; callers = callers; env = env }
    leaves (c ∷ cs) p =
        either (PutStep g) (raising.arrives s.run.raised (length (c ∷ cs))) _ _ (returned s.run.result (c ∷ cs) p) (leave_for _ c cs p.0 p.1)

    pub unwinds : (todo : List Todo) → L todo → ((p : Todo) (ps : List Todo) → todo ≡ p ∷ ps → LonePast (piece.sort p) ps) → PutStep g (raising.unwind_step todo s)
    unwinds [] h f = leaves s.callers callers
    unwinds (p ∷ ps) h f = unwind_past (piece.sort p) ps h (f p ps refl)

    -- printing

    pub prints : (o : Option (List Piece)) (p : Piece) (todo : List Todo) (vs : List Value) → O [] todo → PutStep g (piece.print_step o p todo vs s)
    prints None p todo vs h = record { run = finds 0 [] todo vs tt h; callers = callers; env = env }
    prints (Some ps) p todo vs h = go_in [] _ _ _ tt h (same refl refl refl refl)

    pub flushes : (o : Option (List Piece)) (todo : List Todo) (vs : List Value) → O [] todo → PutStep g (piece.flush_step o todo vs s)
    flushes None todo vs h = anew _ _ h
    flushes (Some []) todo vs h = go_in [] _ _ _ tt h (same refl refl refl refl)
    flushes (Some (p ∷ ps)) todo vs h = record { run = finds 0 [] todo vs tt h; callers = callers; env = todos.likes g env refl refl refl }

    -- with what is known of the operands
    module _ (ms : List Mark) (holds : H ms s.run.operands) where
      pub one : H (rest ms) (below s.run.operands)
      one = holds_below g.few (here s) s.run.elements ms s.run.operands holds

      pub two : H (rest (rest ms)) (below (below s.run.operands))
      two = holds_below g.few (here s) s.run.elements (rest ms) (below s.run.operands) one

      -- expressions

      on : (n r : ℕ) (m : Mark) (todo : List Todo) → n ≡ params g.source r → O (Any ∷ ms) todo → O (Any ∷ rests (suc (params g.source r)) (anys n (m ∷ ms))) todo
      on n r m todo e h = todos.called_on g (here s) made n r m ms todo e h

      object : (x : ObjectExpr) (todo : List Todo) → Counts g (src.OfObject x) → Plain g (src.OfObject x) → O (Any ∷ ms) todo → PutStep g (quiet.object_step x todo s)
      object src.This todo n q h = go (Any ∷ ms) _ _ (tt, holds) h
      object (src.OwnField k i) todo n q h = go (Any ∷ ms) _ _ (tt, holds) h
      object (src.GetOwn k i) todo n q h = go (Any ∷ ms) _ _ (tt, holds) h
      object (src.FieldOf k i a) todo n q h = go ms _ _ holds (n, inl (q.1, (tt, h)))
      object src.Counted todo n q h = go (Any ∷ ms) _ _ (tt, holds) h
      object (src.CallOn r a args) todo n q h = go ms _ _ holds (n.0, inl (q.1.0, ((n.1, q.1.1), (tt, (inl q.0, on (count args) r Any todo n.2 h)))))
      object (src.CallLive r a args) todo n q h = go ms _ _ holds (n.0, inl (q.1.0, ((n.1, q.1.1), (tt, (tt, (inl q.0, on (count args) r Any todo n.2 h))))))
      object (src.CallUnwritten r a) todo n q h = go ms _ _ holds (n.0, inl (q.1, (inl q.0, on 0 r Any todo n.1 h)))
      object (src.EnterOn m r a args) todo n q h = go ms _ _ holds (n.0, inl (q.1.0, ((n.1, q.1.1), (tt, (refl, (inl q.0, on (count args) r Any todo n.2 h))))))
      object (src.ConditionAt k m a) todo n q h = go ms _ _ holds (n, inl (q.1, (tt, h)))
      object (src.Wait a b) todo n q h = go ms _ _ holds (n.0, inl (q.1.0, (n.1, inl (q.1.1, (tt, (tt, h))))))
      object (src.Signal a) todo n q h = go ms _ _ holds (n, inl (q.1, (tt, h)))
      object (src.SignalBlock a) todo n q h = go ms _ _ holds (n, inl (q.1, (tt, h)))
      object (src.IsEmpty a) todo n q h = go ms _ _ holds (n, inl (q.1, (tt, h)))
      object (src.FrontOf a) todo n q h = go ms _ _ holds (n, inl (q.1, (tt, h)))
      object x todo n q h = absurd q.0

      eval : (a : Expr) (todo : List Todo) → Counts g a → Plain g a → O (Any ∷ ms) todo → PutStep g (quiet.eval_step a todo s)
      eval (src.Literal k) todo n q h = go (Any ∷ ms) _ _ (tt, holds) h
      eval (src.Variable k) todo n q h = go (Any ∷ ms) _ _ (tt, holds) h
      eval (src.Element m k a i) todo n q h = go ms _ _ holds (n.0, inl (q.0, (n.1, inl (q.1, inl h))))
      eval (src.Get k) todo n q h = go (Any ∷ ms) _ _ (tt, holds) h
      eval (src.Load a) todo n q h = go ms _ _ holds (n, inl (q, inl h))
      eval (src.Negated a) todo n q h = go ms _ _ holds (n, inl (q, (tt, h)))
      eval (src.Not a) todo n q h = go ms _ _ holds (n, inl (q, (tt, h)))
      eval (src.AsCharacter a) todo n q h = go ms _ _ holds (n, inl (q, (tt, h)))
      eval (src.AsTruth a) todo n q h = go ms _ _ holds (n, inl (q, (tt, h)))
      eval (src.Operate op a b) todo n q h = go ms _ _ holds (n.0, inl (q.0, (n.1, inl (q.1, (tt, h)))))
      eval (src.And a b) todo n q h = go ms _ _ holds (n.0, inl (q.0, (((n.1, q.1), (tt, tt)), h)))
      eval (src.Or a b) todo n q h = go ms _ _ holds (n.0, inl (q.0, (((tt, tt), (n.1, q.1)), h)))
      eval (src.Set k a) todo n q h = go ms _ _ holds (n, inl (q, (tt, h)))
      eval (src.Assign p a) todo n q h = go ms _ _ holds (n.0, inl (q.0, (n.1, inl (q.1, (tt, h)))))
      eval (src.First a b) todo n q h = go ms _ _ holds (n.0, inl (q.0, (n.1, inl (q.1, (tt, h)))))
      eval (src.Update op k p a) todo n q h = go ms _ _ holds (n.0, inl (q.0, (tt, inl (n.1, inl (q.1, (tt, todos.converts g (here s) made k (Any ∷ ms) _ (tt, h)))))))
      eval (src.StepBehind op k p) todo n q h =
          go ms _ _ holds (n, inl (q, (tt, inl (tt, (tt, (tt, inl (tt, (tt, todos.converts g (here s) made k (Any ∷ (Any ∷ (Any ∷ ms))) _ (tt, (tt, h))))))))))
      eval src.Fail todo n q h = record { run = finds 1 ms todo _ holds h; callers = callers; env = env }
      eval (src.Call r args) todo n q h = go ms _ _ holds ((n.0, q.1), (tt, (q.0, todos.called g (here s) made args r ms todo n.1 h)))
      eval (src.OfObject x) todo n q h = object x todo n q h

      making : (e : Expr) (todo : List Todo) → Counts g e → PlainNew g.table g.source g.special e → O (Any ∷ ms) todo → PutStep g (quiet.eval_step e todo s)
      making (src.OfObject src.NewCluster) todo n p h = go ms _ _ holds (tt, h)
      making (src.OfObject (src.NewProcessor a)) todo n p h = go ms _ _ holds (n, inl (p, (tt, h)))
      making e todo n p h = absurd p

      same_spot : (p : Spot) → IsOf made p → IsOf made p
      same_spot p i = i

      -- a place is bound
      binds : (a : Expr) (todo : List Todo) → Counts g a → Binds g.table g.source g.special made a → O (Any ∷ ms) todo → PutStep g (quiet.eval_step a todo s)
      binds (src.OfObject (src.Bind a e)) todo n (b, inl q) h =
          go ms _ _ holds (n.0, inr (inr (inr (inr (inl (marks.place_more g.table g.source g.special made made same_spot AnyPlace (λ m p. O (At (Under None m p) ∷ ms) (piece.Eval e ∷ (piece.BindNow ∷ todo))) (λ m p i y. (n.1, inl (q, (i, h)))) a b))))))
      binds (src.OfObject (src.Bind a e)) todo n (b, inr q) h =
          go ms _ _ holds (n.0, inr (inr (inr (inr (inl (marks.place_more g.table g.source g.special made made same_spot AnyPlace (λ m p. O (At (Under None m p) ∷ ms) (piece.Eval e ∷ (piece.BindNow ∷ todo))) (λ m p i y. (n.1, inr (inr (inl (q, (i, h)))))) a b))))))
      binds a todo n b h = absurd b

      -- what is no mutex object is called where it is under a spot
      called_fits : (m : ℕ) (p : Spot) (n r : ℕ) (todo : List Todo) → n ≡ params g.source r → is_opening g.source r ≡ false → IsOf made p → todos.Lones g (here s) made todo (Under (g.table.routine r).this m p) → todos.CallsFit g (here s) made r (anys n (At (Under None m p) ∷ ms)) todo
      called_fits m p n r todo e o i l = inr (inl (o, todos.under g (λ ns. FirstUnder ns (λ j q. IsOf made q × SeatAt g (here s) made todo (Under (g.table.routine r).this j q))) n r (At (Under None m p) ∷ ms) e (i, l)))

      calls : (a : Expr) (todo : List Todo) → Counts g a → CallsAt g.table g.source g.special made (todos.Lones g (here s) made todo) a → O (Any ∷ ms) todo → PutStep g (quiet.eval_step a todo s)
      calls (src.OfObject (src.CallOn r a args)) todo n b h =
          go ms _ _ holds (n.0, inr (inr (inr (inr (inl (marks.place_more g.table g.source g.special made made same_spot (λ m p. todos.Lones g (here s) made todo (Under (g.table.routine r).this m p)) (λ m p. O (At (Under None m p) ∷ ms) (piece.Arguments args ∷ (piece.TickNow ∷ (piece.CallOnNow r ∷ todo)))) called_at a b.1))))))
        where
          called_at : (m : ℕ) (p : Spot) → IsOf made p → todos.Lones g (here s) made todo (Under (g.table.routine r).this m p) → O (At (Under None m p) ∷ ms) (piece.Arguments args ∷ (piece.TickNow ∷ (piece.CallOnNow r ∷ todo)))
          called_at m p i l = ((n.1, b.2), (tt, (called_fits m p (count args) r todo n.2 b.0 i l, on (count args) r (At (Under None m p)) todo n.2 h)))
      calls (src.OfObject (src.CallUnwritten r a)) todo n b h =
          go ms _ _ holds (n.0, inr (inr (inr (inr (inl (marks.place_more g.table g.source g.special made made same_spot (λ m p. todos.Lones g (here s) made todo (Under (g.table.routine r).this m p)) (λ m p. O (At (Under None m p) ∷ ms) (piece.CallUnwrittenNow r ∷ todo)) called_at a b.1))))))
        where
          called_at : (m : ℕ) (p : Spot) → IsOf made p → todos.Lones g (here s) made todo (Under (g.table.routine r).this m p) → O (At (Under None m p) ∷ ms) (piece.CallUnwrittenNow r ∷ todo)
          called_at m p i l = (called_fits m p 0 r todo n.1 b.0 i l, on 0 r (At (Under None m p)) todo n.1 h)
      calls a todo n b h = absurd b

      place : (e : Expr) (todo : List Todo) → Counts g e → PlaceAt g.table g.source g.special made (λ m p. O (At (Under None m p) ∷ ms) todo) e → PutStep g (quiet.eval_step e todo s)
      place (src.Variable k) todo n p = go (At (Under None 1 (OfVariable k)) ∷ ms) _ _ ((omega arith, same_place), holds) p.1
      place (src.OfObject (src.OwnField k i)) todo n p = go (At (Under None 1 (OfField k i)) ∷ ms) _ _ ((omega arith, same_place), holds) p.1
      place (src.Element m k a i) todo n p =
          go ms _ _ holds (n.0, inr (inr (inr (inr (inl (marks.place_more g.table g.source g.special made made same_spot (λ j q. O (At (Under None m q) ∷ ms) todo) (λ j q. O (At (Under None j q) ∷ ms) (piece.Eval i ∷ (piece.ElementNow m k ∷ todo))) (λ j q y h. (n.1, inl (p.1, inr h))) a p.0))))))
      place e todo n p = absurd p

      -- a place at a site
      locates : (e : Expr) (todo : List Todo) → Counts g e → Located e (λ x. O (At x ∷ ms) todo) → PutStep g (quiet.eval_step e todo s)
      locates (src.Variable k) todo n h = go (At (One (OfVariable k)) ∷ ms) _ _ (refl, holds) h
      locates (src.OfObject (src.OwnField k i)) todo n h = go (At (One (OfField k i)) ∷ ms) _ _ (refl, holds) h
      locates (src.Element m src.Binding (src.Variable k) (src.OfObject src.Counted)) todo n h = go ms _ _ holds (n.0, inr (inr (inr (inr (inr (inl (n.1, inr (inr (inr (inr (inr (inr (inr (inr (inr (inr (tt, inr (tt, h))))))))))))))))))
      locates (src.Element m src.Binding (src.OfObject (src.OwnField k i)) (src.OfObject src.Counted)) todo n h = go ms _ _ holds (n.0, inr (inr (inr (inr (inr (inl (n.1, inr (inr (inr (inr (inr (inr (inr (inr (inr (inr (tt, inr (tt, h))))))))))))))))))
      locates e todo n h = absurd h

      -- the number of the elements that stand
      counts : (e : Expr) (todo : List Todo) → IsCounter e → O (Counter ∷ ms) todo → PutStep g (quiet.eval_step e todo s)
      counts (src.OfObject src.Counted) todo i h = go (Counter ∷ ms) _ _ (refl, holds) h
      counts e todo i h = absurd i

      loads : (e : Expr) (todo : List Todo) → Counts g e → IsEnding todo → Loads e (λ x. O (Homed x ∷ ms) todo) → PutStep g (quiet.eval_step e todo s)
      loads (src.Load (src.Variable k)) todo n i h = go ms _ _ holds (n, inr (inr (inr (inr (inr (inl (inr (i, h))))))))
      loads (src.Load (src.OfObject (src.OwnField k j))) todo n i h = go ms _ _ holds (n, inr (inr (inr (inr (inr (inl (inr (i, h))))))))
      loads (src.Load (src.Element m src.Binding (src.Variable k) (src.OfObject src.Counted))) todo n i h = go ms _ _ holds (n, inr (inr (inr (inr (inr (inl (inr (i, h))))))))
      loads (src.Load (src.Element m src.Binding (src.OfObject (src.OwnField k j)) (src.OfObject src.Counted))) todo n i h = go ms _ _ holds (n, inr (inr (inr (inr (inr (inl (inr (i, h))))))))
      loads e todo n i h = absurd h

      -- what is known of the site of an object that is made or ended
      abbrev pub LoneNamed : List Todo → Site → Type 0
      LoneNamed todo x = IsIn made x × SeatAt g (here s) made todo x × OfObjects x

      -- its place lies below the arguments of what makes an object there
      made_site : (x : Site) → OfObjects x → IsIn made x → (n r : ℕ) (todo : List Todo) → n ≡ params g.source r → SeatAt g (here s) made todo x → O (Any ∷ ms) todo → FirstAt (rests (params g.source r) (anys n (At x ∷ ms))) (λ y. IsIn made y × (todos.CallsFit g (here s) made r (made_marks g r (Homed y) (anys n (At x ∷ ms))) todo × O (Any ∷ rests (suc (params g.source r)) (made_marks g r (Homed y) (anys n (At x ∷ ms)))) todo))
      made_site x z i n r todo e o h =
          let fits : todos.CallsFit g (here s) made r (anys (params g.source r) (Homed x ∷ ms)) todo = inr (inr (subst (λ ns. FirstHome ns (LoneNamed todo)) (sym (rests_anys (params g.source r) (Homed x ∷ ms))) (i, o, z))) in
          todos.under g (λ ns. FirstAt ns (λ y. IsIn made y × (todos.CallsFit g (here s) made r (made_marks g r (Homed y) (anys n (At x ∷ ms))) todo × O (Any ∷ rests (suc (params g.source r)) (made_marks g r (Homed y) (anys n (At x ∷ ms)))) todo))) n r (At x ∷ ms) e (i, todos.made_on g (here s) made n r (At x) (Homed x) ms todo e fits h)

      -- what ends an object there finds it without arguments
      ends_site : (x : Site) → OfObjects x → IsIn made x → (r : ℕ) (todo : List Todo) → 0 ≡ params g.source r → SeatAt g (here s) made todo x → todos.CallsFit g (here s) made r (Homed x ∷ ms) todo
      ends_site x z i r todo e l = inr (inr (todos.under g (λ ns. FirstHome ns (LoneNamed todo)) 0 r (Homed x ∷ ms) e (i, l, z)))

      -- what makes a mutex object at a spot, and at an element
      makes : (a : Expr) (todo : List Todo) → Counts g a → MakesAt g.table g.source g.special made (todos.Lones g (here s) made todo) a → O (Any ∷ ms) todo → PutStep g (quiet.eval_step a todo s)
      makes (src.OfObject (src.MakeOn c r true (src.Variable k) args)) todo n b h = go ms _ _ holds (n.0, inr (inr (inr (inr (inr (inl ((n.1, b.2), (tt, made_site (One (OfVariable k)) tt b.1 (count args) r todo n.2 b.0 h))))))))
      makes (src.OfObject (src.MakeOn c r true (src.OfObject (src.OwnField k i)) args)) todo n b h = go ms _ _ holds (n.0, inr (inr (inr (inr (inr (inl ((n.1, b.2), (tt, made_site (One (OfField k i)) tt b.1 (count args) r todo n.2 b.0 h))))))))
      makes (src.OfObject (src.MakeOn c r false (src.Variable k) args)) todo n b h = go ms _ _ holds (n.0, inr (inr (inr (inr (inr (inl ((n.1, b.2), made_site (One (OfVariable k)) tt b.1 (count args) r todo n.2 b.0 h)))))))
      makes (src.OfObject (src.MakeOn c r false (src.OfObject (src.OwnField k i)) args)) todo n b h = go ms _ _ holds (n.0, inr (inr (inr (inr (inr (inl ((n.1, b.2), made_site (One (OfField k i)) tt b.1 (count args) r todo n.2 b.0 h)))))))
      makes a todo n b h = absurd b

      makes_each : (a : Expr) (todo : List Todo) → Counts g a → MakesEach g.table g.source g.special made (todos.Lones g (here s) made todo) a → O (Any ∷ ms) todo → PutStep g (quiet.eval_step a todo s)
      makes_each (src.OfObject (src.MakeOn c r true (src.Element m src.Binding (src.Variable k) (src.OfObject src.Counted)) args)) todo n b h = go ms _ _ holds (n.0, inr (inr (inr (inr (inr (inl ((n.1, b.2), (tt, made_site (Each m (OfVariable k)) tt b.1 (count args) r todo n.2 b.0 h))))))))
      makes_each (src.OfObject (src.MakeOn c r true (src.Element m src.Binding (src.OfObject (src.OwnField k i)) (src.OfObject src.Counted)) args)) todo n b h = go ms _ _ holds (n.0, inr (inr (inr (inr (inr (inl ((n.1, b.2), (tt, made_site (Each m (OfField k i)) tt b.1 (count args) r todo n.2 b.0 h))))))))
      makes_each (src.OfObject (src.MakeOn c r false (src.Element m src.Binding (src.Variable k) (src.OfObject src.Counted)) args)) todo n b h = go ms _ _ holds (n.0, inr (inr (inr (inr (inr (inl ((n.1, b.2), made_site (Each m (OfVariable k)) tt b.1 (count args) r todo n.2 b.0 h)))))))
      makes_each (src.OfObject (src.MakeOn c r false (src.Element m src.Binding (src.OfObject (src.OwnField k i)) (src.OfObject src.Counted)) args)) todo n b h = go ms _ _ holds (n.0, inr (inr (inr (inr (inr (inl ((n.1, b.2), made_site (Each m (OfField k i)) tt b.1 (count args) r todo n.2 b.0 h)))))))
      makes_each a todo n b h = absurd b

      -- what ends one there
      ends_at_spot : (a : Expr) (todo : List Todo) → Counts g a → EndsAt g.table g.source g.special made (todos.Lones g (here s) made todo) a → O (Any ∷ ms) todo → PutStep g (quiet.eval_step a todo s)
      ends_at_spot (src.OfObject (src.EndOn r true (src.Load (src.Variable k)))) todo n b h = go ms _ _ holds (n.0, inr (inr (inr (inr (inr (inr (inl (refl, (tt, (refl, (ends_site (One (OfVariable k)) tt b.1 r todo n.1 b.0, on 0 r (Homed (One (OfVariable k))) todo n.1 h)))))))))))
      ends_at_spot (src.OfObject (src.EndOn r true (src.Load (src.OfObject (src.OwnField k i))))) todo n b h = go ms _ _ holds (n.0, inr (inr (inr (inr (inr (inr (inl (refl, (tt, (refl, (ends_site (One (OfField k i)) tt b.1 r todo n.1 b.0, on 0 r (Homed (One (OfField k i))) todo n.1 h)))))))))))
      ends_at_spot (src.OfObject (src.EndOn r false (src.Load (src.Variable k)))) todo n b h = go ms _ _ holds (n.0, inr (inr (inr (inr (inr (inr (inl (refl, (refl, (ends_site (One (OfVariable k)) tt b.1 r todo n.1 b.0, on 0 r (Homed (One (OfVariable k))) todo n.1 h))))))))))
      ends_at_spot (src.OfObject (src.EndOn r false (src.Load (src.OfObject (src.OwnField k i))))) todo n b h = go ms _ _ holds (n.0, inr (inr (inr (inr (inr (inr (inl (refl, (refl, (ends_site (One (OfField k i)) tt b.1 r todo n.1 b.0, on 0 r (Homed (One (OfField k i))) todo n.1 h))))))))))
      ends_at_spot a todo n b h = absurd b

      ends_each : (a : Expr) (todo : List Todo) → Counts g a → EndsEach g.table g.source g.special made (todos.Lones g (here s) made todo) a → O (Any ∷ ms) todo → PutStep g (quiet.eval_step a todo s)
      ends_each (src.OfObject (src.EndOn r true (src.Load (src.Element m src.Binding (src.Variable k) (src.OfObject src.Counted))))) todo n b h = go ms _ _ holds (n.0, inr (inr (inr (inr (inr (inr (inl (refl, (tt, (refl, (ends_site (Each m (OfVariable k)) tt b.1 r todo n.1 b.0, on 0 r (Homed (Each m (OfVariable k))) todo n.1 h)))))))))))
      ends_each (src.OfObject (src.EndOn r true (src.Load (src.Element m src.Binding (src.OfObject (src.OwnField k i)) (src.OfObject src.Counted))))) todo n b h = go ms _ _ holds (n.0, inr (inr (inr (inr (inr (inr (inl (refl, (tt, (refl, (ends_site (Each m (OfField k i)) tt b.1 r todo n.1 b.0, on 0 r (Homed (Each m (OfField k i))) todo n.1 h)))))))))))
      ends_each (src.OfObject (src.EndOn r false (src.Load (src.Element m src.Binding (src.Variable k) (src.OfObject src.Counted))))) todo n b h = go ms _ _ holds (n.0, inr (inr (inr (inr (inr (inr (inl (refl, (refl, (ends_site (Each m (OfVariable k)) tt b.1 r todo n.1 b.0, on 0 r (Homed (Each m (OfVariable k))) todo n.1 h))))))))))
      ends_each (src.OfObject (src.EndOn r false (src.Load (src.Element m src.Binding (src.OfObject (src.OwnField k i)) (src.OfObject src.Counted))))) todo n b h = go ms _ _ holds (n.0, inr (inr (inr (inr (inr (inr (inl (refl, (refl, (ends_site (Each m (OfField k i)) tt b.1 r todo n.1 b.0, on 0 r (Homed (Each m (OfField k i))) todo n.1 h))))))))))
      ends_each a todo n b h = absurd b

      ends_number : (a : Expr) (todo : List Todo) → Counts g a → EndsNumber g.table g.source g.special made AnySite a → O (Any ∷ ms) todo → PutStep g (quiet.eval_step a todo s)
      ends_number (src.OfObject (src.EndCluster (src.Load p))) todo n b h = go ms _ _ holds (n, inl (place_plain g made AnyPlace p b, (tt, h)))
      ends_number (src.OfObject (src.EndProcessor (src.Load p))) todo n b h = go ms _ _ holds (n, inl (place_plain g made AnyPlace p b, (tt, h)))
      ends_number a todo n b h = absurd b

      pub evals : (e : Expr) (todo : List Todo) → O ms (piece.Eval e ∷ todo) → PutStep g (quiet.eval_step e todo s)
      evals e todo (n, inl h) = eval e todo n h.0 h.1
      evals e todo (n, inr (inl h)) = binds e todo n h.0 h.1
      evals e todo (n, inr (inr (inl h))) = making e todo n h.0 h.1
      evals e todo (n, inr (inr (inr (inl h)))) = calls e todo n h.0 h.1
      evals e todo (n, inr (inr (inr (inr (inl h))))) = place e todo n h
      evals e todo (n, inr (inr (inr (inr (inr (inl h)))))) = locates e todo n h
      evals e todo (n, inr (inr (inr (inr (inr (inr (inl h))))))) = loads e todo n h.0 h.1
      evals e todo (n, inr (inr (inr (inr (inr (inr (inr (inl (inl b, h))))))))) = makes e todo n b h
      evals e todo (n, inr (inr (inr (inr (inr (inr (inr (inl (inr b, h))))))))) = makes_each e todo n b h
      evals e todo (n, inr (inr (inr (inr (inr (inr (inr (inr (inl (inl b, h)))))))))) = ends_at_spot e todo n b h
      evals e todo (n, inr (inr (inr (inr (inr (inr (inr (inr (inl (inr b, h)))))))))) = ends_each e todo n b h
      evals e todo (n, inr (inr (inr (inr (inr (inr (inr (inr (inr (inl h)))))))))) = ends_number e todo n h.0 h.1
      evals e todo (n, inr (inr (inr (inr (inr (inr (inr (inr (inr (inr h)))))))))) = counts e todo h.0 h.1

      -- what an object is bound to, and what is loaded to be destroyed, is at home there
      pub load : (todo : List Todo) → (IsEnding todo → IsHome g.few (loaded (top s.run.operands) s.env) (top s.run.operands)) → O ms (piece.LoadNow ∷ todo) → PutStep g (quiet.act g.source piece.LoadNow todo s)
      load todo f (inl h) = go (Any ∷ rest ms) _ _ (tt, one) h
      load todo f (inr h) =
          let k = marks.at_of g.few (here s) s.run.elements ms s.run.operands holds (λ x. O (Homed x ∷ rest ms) todo) h.1 in
          go (Homed k.0 ∷ rest ms) _ _ ((top s.run.operands, k.1, f h.0), one) k.2

      -- calls

      pub dropped : (n : ℕ) → H (rests n ms) (drop n s.run.operands)
      dropped n = holds_drop g.few (here s) s.run.elements n ms s.run.operands holds

      dropped_one : (n : ℕ) → H (rests (suc n) ms) (below (drop n s.run.operands))
      dropped_one n = holds_below g.few (here s) s.run.elements (rests n ms) (drop n s.run.operands) (dropped n)

      -- what is known where the routine x is called, of special ones if b, at an object of the class o
      abbrev pub FitsFor : Bool → Option ℕ → Option Routine → List Todo → Type 0
      FitsFor b o x todo = (b ≡ false) ⊎ (((opens_at x ≡ false) × FirstUnder (rests (params_at x) ms) (λ n p. IsOf made p × SeatAt g (here s) made todo (Under o n p))) ⊎ FirstHome (rests (params_at x) ms) (LoneNamed todo))

      -- an object is at home in what is the own of this execution, where nothing is cleaned up by what is to do and by activations that wait
      abbrev LoneIn : ℕ → List Todo → Type 0
      LoneIn o todo = Belongs g.few s.env.exec (g.few.home o) × Free g.table g.few o (Outward g.table s.env.exec s.run.frame s.run.this s.callers todo)

      -- the activation, as it waits for what is called
      abbrev Waiting : List Todo → List Value → Active
      Waiting todo vs = record s.run { control = todo; operands = vs }

      abbrev SeatBeyond : Bool → Option ℕ → Value → List Todo → List Value → ℕ → Type 0
      SeatBeyond b o v todo vs f = Beyond g.table g.source g.special g.few (reach_of b o) s.env.exec (Waiting todo vs ∷ s.callers) None v f

      -- it finds its object the execution's own, nothing around that, nor around mutex objects in it, and handlers behind it
      record Finding (b : Bool) (o : Option ℕ) (x : Routine) (v : Value) (todo : List Todo) : Type 0 where
        own : b ≡ true → BelongsBelow g.few s.env.exec (length s.env.frames) v
        alone : b ≡ true → NoneWithin g.table g.few (Outward g.table s.env.exec s.run.frame s.run.this s.callers todo) v
        lone : b ≡ true → opens_object x.body ≡ true → LoneIn (piece.object_in v) todo
        free : b ≡ true → L todo → (vs : List Value) (q : ℕ) → IsBuilt (Waiting todo vs ∷ s.callers) q → (k : Link) → LiesIn g.few (piece.further k v) (g.few.home q) → ⊥
        apart : b ≡ true → (vs : List Value) (q : ℕ) → v ≡ Object q → NotStanding s.env.exec (g.few.home q) (Waiting todo vs ∷ s.callers)
        beyond : L todo → (vs : List Value) (f : ℕ) → SeatBeyond b o v todo vs f

      -- the frame is one of those of the execution
      pub record InFrames : Type 0 where
        pub count : length s.env.frames ≡ suc (length s.callers)
        pub low : s.run.frame ≤ length s.callers
        pub within : FramesWithin s.callers

      below_next : InFrames → s.run.frame < length s.env.frames
      below_next z = let c = z.count in let l = z.low in omega (arith, c, l)

      -- in frames

      rounds : (todo : List Todo) (vs : List Value) (l : L todo) (f : ℕ) → RoundIn g s.env.exec (Waiting todo vs) s.callers made this l f
      rounds todo vs l f = seats.round_in g s.env.exec (Waiting todo vs) s.callers made this l f

      rounds_past : (todo : List Todo) (vs : List Value) (l : L todo) → PastArray g (here s) made this.after todo
      rounds_past todo vs l = seats.past g s.env.exec (Waiting todo vs) s.callers made this l

      -- what holds no objects has none in its fields
      class_of : (b : Bool) (o : Option ℕ) → HoldsObjects g.table (reach_of b o).class → HoldsObjects g.table o
      class_of true o h = h
      class_of false o h = absurd h

      plain_beyond : (b : Bool) (o : Option ℕ) (v : Value) (todo : List Todo) → b ≡ false → L todo → (vs : List Value) (f : ℕ) → SeatBeyond b o v todo vs f
      plain_beyond true o v todo e l vs f = no_both true refl e
      plain_beyond false o v todo e l vs f = record {
        cell = (rounds todo vs l f).cell;
        spare = (rounds todo vs l f).spare;
        past = λ h. absurd h;
        held = λ q. absurd (cc);
        built = (rounds todo vs l f).built;
        arrays = (rounds todo vs l f).arrays;
        code = (rounds todo vs l f).code;
      }

      -- a variable behind two, of which from each on handlers name variables that a search finds
      record BehindBoth (x : ℕ) (todo : List Todo) (vs : List Value) (l : L todo) : Type 0 where
        cell : ℕ
        first : x ≤ cell
        second : (rounds_past todo vs l).cell ≤ cell
        guards : GuardsCode g.table g.source g.special cell todo
        searched : Searched g.table g.source g.special cell s.run.handles s.run.frame s.callers

      behind_both : (x : ℕ) (todo : List Todo) (vs : List Value) (l : L todo) → GuardsCode g.table g.source g.special x todo → Searched g.table g.source g.special x s.run.handles s.run.frame s.callers → BehindBoth x todo vs l
      behind_both x todo vs l c k = by (cases_lt x (rounds_past todo vs l).cell)
        where
          by : (x < (rounds_past todo vs l).cell) ⊎ ((rounds_past todo vs l).cell ≤ x) → BehindBoth x todo vs l
          by (inl le) = record { cell = (rounds_past todo vs l).cell; first = omega (arith, le); second = omega arith; guards = (rounds_past todo vs l).guards; searched = (rounds_past todo vs l).searched }
          by (inr le) = record { cell = x; first = omega arith; second = le; guards = c; searched = k }

      -- what lies in the object that is found lies at the spot
      abbrev LiesAt : Spot → Value → Type 0
      LiesAt p v = (k : Link) (w : Value) → LiesIn g.few (piece.further k v) w → LiesIn g.few (spot_at g.few (here s) p) w

      -- and so does the home of a mutex object
      abbrev HomeAt : Site → Spot → Value → Type 0
      HomeAt x p v = (q : ℕ) → v ≡ Object q → MayHold g.table x × LiesIn g.few (spot_at g.few (here s) p) (g.few.home q)

      beyond_at : (b : Bool) (o : Option ℕ) (x : Site) (p : Spot) (v : Value) (todo : List Todo) → BehindBy g (here s) made todo p x → IsOf made p → (HoldsObjects g.table o → MayHold g.table x) → HasSome x → LiesAt p v → HomeAt x p v → L todo → (vs : List Value) (f : ℕ) → SeatBeyond b o v todo vs f
      beyond_at b o x (OfVariable j) v todo y i may some lies at l vs f = by (nat_eq f s.run.frame) refl
        where
          both : BehindBoth y.0 todo vs l
          both = behind_both y.0 todo vs l y.2 y.3

          own_frame : SeatBeyond b o v todo vs s.run.frame
          own_frame = record {
            cell = both.cell;
            spare = λ k w e q st. let a : k < made.low = seats.frame_spare g s.env.exec (Waiting todo vs) s.callers made this l k w e q st in let c : made.low ≤ y.0 = y.1 in let d : y.0 ≤ both.cell = both.first in omega (arith, a, c, d);
            past = λ h k m w q u. let a : k ≡ j = (variable_one g.few s.env.exec s.run.frame k s.run.frame j w q (lies m w u)).1 in let c : j < y.0 = y.4 (may (class_of b o h)) some in let d : y.0 ≤ both.cell = both.first in omega (arith, a, c, d);
            held = λ h q e k w. let z = at q e in let a : k ≡ j = (variable_one g.few s.env.exec s.run.frame k s.run.frame j (g.few.home q) w z.1).1 in let c : j < y.0 = y.4 z.0 some in let d : y.0 ≤ both.cell = both.first in omega (arith, a, c, d);
            built = λ q m k w. let a : k < made.low = seats.frame_built g s.env.exec (Waiting todo vs) s.callers made this l q m k w in let c : made.low ≤ y.0 = y.1 in let d : y.0 ≤ both.cell = both.first in omega (arith, a, c, d);
            arrays = before_more (rounds_past todo vs l).cell both.cell s.run.frame (Waiting todo vs ∷ s.callers) both.second (λ e. (rounds_past todo vs l).array, before_more made.low (rounds_past todo vs l).cell s.run.frame s.callers (rounds_past todo vs l).low this.arrays);
            code = (λ e. both.guards, both.searched);
          }

          other : (f ≡ s.run.frame → ⊥) → SeatBeyond b o v todo vs f
          other ne = record {
            cell = (rounds todo vs l f).cell;
            spare = (rounds todo vs l f).spare;
            past = λ h k m w q u. absurd (ne (variable_one g.few s.env.exec f k s.run.frame j w q (lies m w u)).0);
            held = λ h q e k w. absurd (ne (variable_one g.few s.env.exec f k s.run.frame j (g.few.home q) w (at q e).1).0);
            built = (rounds todo vs l f).built;
            arrays = (rounds todo vs l f).arrays;
            code = (rounds todo vs l f).code;
          }

          by : (c : Bool) → nat_eq f s.run.frame ≡ c → SeatBeyond b o v todo vs f
          by true e = subst (SeatBeyond b o v todo vs) (sym (eqb-true f s.run.frame e)) own_frame
          by false e = other (λ q. no_both (nat_eq f s.run.frame) (eq-eqb f s.run.frame q) e)
      beyond_at b o x (OfField h j) v todo y i may some lies at l vs f = record {
        cell = (rounds todo vs l f).cell;
        spare = (rounds todo vs l f).spare;
        past = λ c k m w q u. (rounds todo vs l f).past i (y (may (class_of b o c)) some) k (piece.FieldAt h j) w q (lies m w u);
        held = λ c q e k w. let z = at q e in (rounds todo vs l f).past i (y z.0 some) k (piece.FieldAt h j) (g.few.home q) w z.1;
        built = (rounds todo vs l f).built;
        arrays = (rounds todo vs l f).arrays;
        code = (rounds todo vs l f).code;
      }

      plain_finding : (z : InFrames) (b : Bool) (o : Option ℕ) (x : Routine) (v : Value) (todo : List Todo) → opens_at (Some x) ≡ false → (n : ℕ) (p : Spot) → (0 < n) × LiesUnder (spot_at g.few (here s) p) v → IsOf made p → SeatAt g (here s) made todo (Under o n p) → Finding b o x v todo
      plain_finding z b o x v todo e n p u i l = record {
        own = λ q. under_spot g.few (here s) made this.own (length s.env.frames) (below_next z) p i v u.1;
        alone = λ q k w c h. l.0 w c (in_under g.few (spot_at g.few (here s) p) (piece.further k v) (further_on k u.1) w h);
        lone = λ q o. no_both (opens_object x.body) o e;
        free = λ q c vs d m k w. seats.spot_free g s.env.exec (Waiting todo vs) s.callers made this c p i d m (in_under g.few (spot_at g.few (here s) p) (piece.further k v) (further_on k u.1) (g.few.home d) w);
        apart = λ q vs d e. absurd (seats.no_object g.few (here s) p v d u.1 e);
        beyond = beyond_at b o (Under o n p) p v todo l.1 i (λ h. h) u.0 (λ k w h. in_under g.few (spot_at g.few (here s) p) (piece.further k v) (further_on k u.1) w h) (λ d q. absurd (seats.no_object g.few (here s) p v d u.1 q));
      }

      holds_some : (y : Site) → OfObjects y → MayHold g.table y
      holds_some (One p) z = tt
      holds_some (Each n p) z = tt
      holds_some (Under o n p) z = absurd z

      homed_finding : (z : InFrames) (b : Bool) (c : Option ℕ) (x : Routine) (v : Value) (todo : List Todo) (y : Site) → HomedAt g.few (here s) s.run.elements y v → IsIn made y → SeatAt g (here s) made todo y → OfObjects y → Finding b c x v todo
      homed_finding z b c x v todo y h i l m =
          let p : Spot = site_spot y in
          let o : ℕ = h.2.number in
          let u : LiesUnder (spot_at g.few (here s) p) (g.few.home o) = subst (LiesUnder (spot_at g.few (here s) p)) (sym h.2.home) (stands_under g.few (here s) s.run.elements y h.0 h.1) in
          let below : BelongsBelow g.few s.env.exec (length s.env.frames) (g.few.home o) = under_spot g.few (here s) made this.own (length s.env.frames) (below_next z) p i (g.few.home o) u in
          let none : NoneWithin g.table g.few (Outward g.table s.env.exec s.run.frame s.run.this s.callers todo) (Object o) = λ k w c j. l.0 w c (in_object_home g.few (spot_at g.few (here s) p) o (there u) k w j) in
          let lone : LoneIn o todo = (below_own g.few s.env.exec (length s.env.frames) (g.few.home o) below, (λ c m. l.0 (g.few.home o) c (there u) m)) in
          let lies : LiesAt p v = subst (LiesAt p) (sym h.2.object) (λ k w j. in_object_home g.few (spot_at g.few (here s) p) o (there u) k w j) in
          record {
            own = λ q. subst (BelongsBelow g.few s.env.exec (length s.env.frames)) (sym h.2.object) (in_object below);
            alone = λ q. subst (NoneWithin g.table g.few (Outward g.table s.env.exec s.run.frame s.run.this s.callers todo)) (sym h.2.object) none;
            lone = λ q e. subst (λ w. LoneIn (piece.object_in w) todo) (sym h.2.object) lone;
            free = λ q n vs d t k w. seats.spot_free g s.env.exec (Waiting todo vs) s.callers made this n p i d t (lies k (g.few.home d) w);
            apart = λ q vs d e.
                let same : o ≡ d = seats.same_object o d (sym h.2.object ∙ e) in
                let home : h.0 ≡ g.few.home d = sym h.2.home ∙ ap g.few.home same in
                (subst (λ x. AtArray (λ m k. (d : Shape) (j : ℕ) → j < m → j < s.run.elements → x ≡ Place (Frame s.env.exec s.run.frame) (piece.At d j ∷ (piece.Slot k ∷ [])) → ⊥) todo) home (own_apart g.few (here s) s.run.elements made y h.0 m h.1 i s.env.exec todo), subst (λ x. NotStanding s.env.exec x s.callers) home (older_apart g.few (here s) s.run.elements made y h.0 m h.1 i s.env.exec s.callers this.arrays));
            beyond = beyond_at b c y p v todo l.1 i (λ h. holds_some y m) (stands_some g.few (here s) s.run.elements y h.0 h.1) lies (λ d q. (holds_some y m, subst (λ (x : ℕ). LiesIn g.few (spot_at g.few (here s) p) (g.few.home x)) (seats.same_object o d (sym h.2.object ∙ q)) (there u)));
          }

      no_finding : (b : Bool) (o : Option ℕ) (x : Routine) (v : Value) (todo : List Todo) → b ≡ false → Finding b o x v todo
      no_finding b o x v todo e =
          record { own = λ q. no_both b q e; alone = λ q. no_both b q e; lone = λ q o. no_both b q e; free = λ q. no_both b q e; apart = λ q. no_both b q e; beyond = plain_beyond b o v todo e }

      finding : (z : InFrames) (b : Bool) (o : Option ℕ) (x : Routine) (todo : List Todo) → FitsFor b o (Some x) todo → Finding b o x (top (drop x.params s.run.operands)) todo
      finding z b o x todo (inl e) = no_finding b o x (top (drop x.params s.run.operands)) todo e
      finding z b o x todo (inr (inl k)) =
          let h = marks.under_of g.few (here s) s.run.elements (rests x.params ms) (drop x.params s.run.operands) (dropped x.params) (λ n p. IsOf made p × SeatAt g (here s) made todo (Under o n p)) k.1 in
          plain_finding z b o x (top (drop x.params s.run.operands)) todo k.0 h.0 h.1 h.2 h.3.0 h.3.1
      finding z b o x todo (inr (inr k)) =
          let h = marks.home_of g.few (here s) s.run.elements (rests x.params ms) (drop x.params s.run.operands) (dropped x.params) (LoneNamed todo) k in
          homed_finding z b o x (top (drop x.params s.run.operands)) todo h.0 h.1 h.2.0 h.2.1 h.2.2

      -- a routine begins in a frame of its own, in which no field stands that is to be cleaned up
      next_seat : (z : InFrames) (b : Bool) (o : Option ℕ) (x : Routine) (v : Value) (ns : List Mark) (todo : List Todo) (vs : List Value) → O (Any ∷ ns) todo → Finding b o x v todo → IsSeated g.table g.source g.special g.few (reach_of b o) s.env.exec ((record s.run { control = todo; operands = vs }) ∷ s.callers) (length s.env.frames) None v
      next_seat z b o x v ns todo vs h f = record {
        own = f.own;
        alone = f.alone;
        free = λ q. f.free q (gone (Any ∷ ns) todo h) vs;
        apart = λ q d e. f.apart q vs d e;
        arrays = before_fresh 0 (length s.env.frames) round (frames_below (length s.env.frames) round (let c = z.count in omega (arith, c)) (z.low, z.within));
        spare = λ k w e i st. absurd (not_standing g.few s.env.exec g.table (length s.env.frames) (piece.Slot k ∷ []) (OwnMarked g.table s.env.exec round) below _ w i st);
        built = λ q m k w. absurd (not_below g.few s.env.exec (length s.env.frames) (length s.env.frames) (piece.Slot k ∷ []) (omega arith) (g.few.home q) w (let c = z.count in below_more g.few s.env.exec (length round) (length s.env.frames) (omega (arith, c)) (g.few.home q) (built_below g s.env.exec round (record { made = made; rest = gone (Any ∷ ns) todo h; seat = this }, waits_left g s.env.exec s.callers callers) (z.low, z.within) q m)));
        after = searches.fresh g.table g.source g.special 0 None (length s.env.frames) round (frames_below (length s.env.frames) round (let c = z.count in omega (arith, c)) (z.low, z.within));
        beyond = λ d q. f.beyond (gone (Any ∷ ns) todo h) vs d;
      }
        where
          round : List Active
          round = (record s.run { control = todo; operands = vs }) ∷ s.callers

          below : (w : Value) (a : Ty) → OwnMarked g.table s.env.exec round w a → BelongsBelow g.few s.env.exec (length s.env.frames) w
          below w a m =
              let c = z.count in
              below_more g.few s.env.exec (length round) (length s.env.frames) (omega (arith, c)) w (own_below g s.env.exec round (record { made = made; rest = gone (Any ∷ ns) todo h; seat = this }, waits_left g s.env.exec s.callers callers) (z.low, z.within) w a m)

      begun : (z : InFrames) (b : Bool) (o : Option ℕ) (x : Routine) (v : Value) (counts : Bool) (ns : List Mark) (todo : List Todo) (vs : List Value) → CodeRoutine g b o (Some x) → Finding b o x v todo → H ns vs → O (Any ∷ ns) todo → PutStep g (quiet.begun_step x v counts todo vs s)
      begun z b o x v counts ns todo vs n f k h = record {
        run = record { made = reach_of b o; this = next_seat z b o x v ns todo vs h f; marks = []; holds = tt; ok = (body b n f.lone, todos.behind g A (reach_of b o) x.purpose x.line) };
        callers = (finds 1 ns todo vs k h, callers);
        env = todos.likes g env refl refl refl;
      }
        where
          A : Around
          A = record { exec = s.env.exec; frame = length s.env.frames; handles = None; this = v; older = (record s.run { control = todo; operands = vs }) ∷ s.callers }

          none_behind : (p : Purpose) (line : ℕ) → AllBelow 0 (quiet.behind_body p line)
          none_behind src.TaskMain line = (tt, (tt, tt))
          none_behind src.CoroutineMain line = (tt, (tt, tt))
          none_behind src.Procedure line = (tt, tt)
          none_behind src.Function line = (tt, (tt, tt))
          none_behind src.Builder line = tt

          body : (b : Bool) → CodeRoutine g b o (Some x) → (b ≡ true → opens_object x.body ≡ true → LoneIn (piece.object_in v) todo) → CodeRest g A (reach_of b o) x.body (quiet.behind_body x.purpose x.line)
          body false n lone = inl (n.0, n.1)
          body true (c, inl k, q) lone = inr (inl ((c, k.0), (0, none_behind x.purpose x.line, k.1), q))
          body true (c, inr k, q) lone =
              let l = lone refl (marks.opening_opens g (reach_of true o) x.body k) in
              inr (inr (refl, c, k, none_behind x.purpose x.line, (l.0, marks.free_begun g.table g.few s.env.exec s.run s.callers todo vs v (length s.env.frames) x.purpose x.line (piece.object_in v) l.1), q))

      pub call : (z : InFrames) (b : Bool) (o : Option ℕ) (x : Option Routine) (todo : List Todo) → b ≡ false → CodeRoutine g b o x → O (Any ∷ rests (params_at x) ms) todo → PutStep g (quiet.call_step x todo s)
      call z b o None todo e n h = ends _ _
      call z b o (Some x) todo e n h = either (PutStep g) (nat_lt s.env.links.calls CALLS) _ _ (begun z b o x _ true (rests x.params ms) todo _ n (no_finding b o x _ todo e) (dropped x.params) h) (stop Depth todo _)

      pub call_on : (z : InFrames) (b : Bool) (o : Option ℕ) (x : Option Routine) (todo : List Todo) → CodeRoutine g b o x → FitsFor b o x todo → O (Any ∷ rests (suc (params_at x)) ms) todo → PutStep g (quiet.call_on_step x todo s)
      call_on z b o None todo n k h = ends _ _
      call_on z b o (Some x) todo n k h =
          either (PutStep g) (nat_lt s.env.links.calls CALLS) _ _ (begun z b o x _ true (rests (suc x.params) ms) todo _ n (finding z b o x todo k) (dropped_one x.params) h) (stop Depth todo _)

      pub call_unwritten : (z : InFrames) (b : Bool) (o : Option ℕ) (x : Option Routine) (todo : List Todo) → CodeRoutine g b o x → FitsFor b o x todo → O (Any ∷ rests (suc (params_at x)) ms) todo → PutStep g (quiet.call_unwritten_step x todo s)
      call_unwritten z b o None todo n k h = ends _ _
      call_unwritten z b o (Some x) todo n k h = begun z b o x _ false (rests (suc x.params) ms) todo _ n (finding z b o x todo k) (dropped_one x.params) h

      pub live : (r : Option Routine) (todo : List Todo) → O ms todo → PutStep g (quiet.live_step r todo s)
      live None todo h = ends _ _
      live (Some r) todo h = either (PutStep g) (sw.is_live (piece.exec_at (top (drop r.params s.run.operands)) s.env) s.env) _ _ (go ms _ _ holds h) (stop NotLive todo _)

      pub set_up : (b : Bool) (o : Option ℕ) (r : Option Routine) (todo : List Todo) → b ≡ false → CodeRoutine g b o r → O [] todo → PutStep g (quiet.set_up_step r todo s)
      set_up b o None todo e n h = anew _ _ h
      set_up true o (Some r) todo e n h = no_both true refl e
      set_up false o (Some r) todo e n h =
          let at_home = quiet.home_at s.run.this s.env in
          let b : todos.K g s.env (sw.born at_home (quiet.fresh r s.run.this) s.env) = kept.born_keeps (Runs g) (Waits g) (todos.calm g) at_home (quiet.fresh r s.run.this) s.env (λ k. record { run = record { made = reach_of false o; this = first_seat g (record { home = at_home; serial = k }) 0 s.run.this o; marks = []; holds = tt; ok = todos.routine g (record { exec = record { home = at_home; serial = k }; frame = 0; handles = None; this = s.run.this; older = [] }) (reach_of false o) r (n.0, n.1) }; callers = tt }) env in
          go_in [] _ _ _ tt h (kept.keeps_both (Runs g) (Waits g) (todos.calm g) b (kept.written_keeps (Runs g) (Waits g) (todos.calm g) s.run.this _ _ b.env))

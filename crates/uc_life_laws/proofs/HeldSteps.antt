-- A quiet step of a task keeps what holds those executions that are held otherwise than by what it takes away.
use Rattle.std.proofs.Common.{◌≡◌, ℕ, zero, suc, ◌++◌, ◌⊎◌, inl, inr, Bool, true, false, List, [], ◌∷◌, length, drop, Option, Some, None, refl, sym, subst}
use Rattle.std.specs.Prelude.{nat_eq, nat_lt, if◌then◌else◌}
use Rattle.uc_tree.specs.declared.limits.TheConstants.{CALLS, PENDING_EVENTS}
use Rattle.uc_tree.specs.Source as src
use Rattle.uc_tree.specs.Source.{Source, Shape, Expr, ObjectExpr, Stmt, Stmts, EventStmt, TaskStmt, Routine, Purpose, Order, Way, CleanUp, Handlers, Clauses, Raised, Item, Declared}
use Rattle.uc_entry.specs.declared.request.Piece.{Piece}
use Rattle.uc_entry.specs.Keyed.{find, signed_64}
use Rattle.uc_machine.specs.declared.exec.Exec.{Exec}
use Rattle.uc_machine.specs.declared.exec.Pending.{Pending}
use Rattle.uc_machine.specs.declared.exec.UnwindReason.{UnwindReason}
use Rattle.uc_machine.specs.declared.exec.UnwindReason.TheVariants as reason
use Rattle.uc_machine.specs.declared.exec.Visited.{Visited}
use Rattle.uc_machine.specs.Executions.{others, frame_changed, frames_changed, values_cleared, change}
use Rattle.uc_machine.specs.Switches as sw
use Rattle.uc_machine.specs.Switches.{Moved, To, Stops}
use Rattle.uc_machine.specs.Insides as inside
use Rattle.uc_machine.specs.Raising as raising
use Rattle.uc_machine.specs.Raising.{Event, Handler, Found, Hit}
use Rattle.uc_machine.specs.Monitors as monitors
use Rattle.uc_machine.specs.Polls as polls
use Rattle.uc_machine.specs.Quiet as quiet
use Rattle.uc_machine.specs.Pieces as piece
use Rattle.uc_machine.specs.Pieces.{Value, Number, Place, Running, Object, Nothing, Todo, Sort, Active, State, Env, Members, Step, Goes, Ticks, Asks, Outcome, Gives, Faults, at, in_env, top, below, number, nought, written}
use Rattle.uc_life_laws.specs.LifeStates.{EnvBy}
use Rattle.uc_life_laws.specs.Held.{Seating, AreLines, NoMain, HeldBy, HeldIn, Held, AllNamed, HeldEx, TakesAt}
use Rattle.uc_life_laws.proofs.Cells.{either}
use Rattle.uc_life_laws.proofs.LifeSteps.{exec_same}
use Rattle.uc_life_laws.proofs.FirstCells.{named_map, in_newer}
use Rattle.uc_life_laws.proofs.HeldKeeping as kept
use Rattle.uc_life_laws.proofs.HeldKeeping.{Keeps, FullState}

module _ (source : Source) (seats : Seating) (up : Exec → Bool) (H : Exec → Type 0) where
  -- to-do lists of an activation of this frame and object, with so many elements, before older ones with these marks, of which this is told
  module _ (m : Exec) (f : ℕ) (this : Value) (stand : ℕ) (older : List Active) (rest : Exec → Type 0) where
    abbrev pub In : Exec → List Todo → Type 0
    In x todo = HeldIn source (seats.seat x) (seats.before x) m f this stand older (rest x) todo

    abbrev pub There : List Todo → Type 0
    There todo = (x : Exec) → up x ≡ true → seats.parent x ≡ m → H x → In x todo

    ends_in : (p : Purpose) (line : ℕ) → ((x : Exec) → up x ≡ true → seats.parent x ≡ m → H x → rest x) → There (quiet.behind_body p line)
    ends_in src.TaskMain line h = h
    ends_in src.CoroutineMain line h = h
    ends_in src.Procedure line h = h
    ends_in src.Function line h = h
    ends_in src.Builder line h = h

    pub routine : (r : Routine) → ((x : Exec) → up x ≡ true → seats.parent x ≡ m → H x → rest x) → There (quiet.routine_todo r)
    routine r h = ends_in r.purpose r.line h

    -- what is held behind a piece is held, and what is held outwards of all of them
    more_by : (x : Exec) (k : Sort) (todo : List Todo) (R : Type 0) → R → HeldBy source (seats.seat x) (seats.before x) m f this stand k todo older R
    more_by x (piece.IsClean c) todo R h = inr h
    more_by x (piece.IsPart c) todo R h = inr h
    more_by x piece.Simple todo R h = h
    more_by x (piece.IsLoop o t y q) todo R h = h
    more_by x piece.IsWhole todo R h = h
    more_by x (piece.IsFill k y z) todo R h = inr h
    more_by x (piece.IsSweep y) todo R h = inr h
    more_by x (piece.IsGuard y) todo R h = h
    more_by x piece.IsFinish todo R h = h
    more_by x piece.IsFinishCoroutine todo R h = h

    pub further_in : (x : Exec) (todo : List Todo) → rest x → In x todo
    further_in x [] h = h
    further_in x (piece.CountNow k ∷ (piece.FillNow i b d ∷ todo)) h = further_in x todo h
    further_in x (p ∷ todo) h = more_by x (piece.sort p) todo (In x todo) (further_in x todo h)

    -- nothing behind the end of a main holds any
    pub lines : (todo : List Todo) → AreLines todo → There todo → (x : Exec) → up x ≡ true → seats.parent x ≡ m → H x → rest x
    lines [] e h = h
    lines (piece.Within line ∷ todo) e h = lines todo e h
    lines (p ∷ todo) e h = absurd e

    pub starts : (cell : ℕ) (v : Option Expr) (todo : List Todo) → There todo → There (quiet.starting cell v todo)
    starts cell None todo h = h
    starts cell (Some e) todo h = h

    pub converts : (k : Shape) (todo : List Todo) → There todo → There (quiet.converting k todo)
    converts src.Character todo h = h
    converts src.Truth todo h = h
    converts k todo h = h

    pub stepped : (e : Option Expr) (todo : List Todo) → There todo → There (quiet.step_todo e todo)
    stepped None todo h = h
    stepped (Some e) todo h = h

    pub tested : (order : Order) (c : Expr) (e : Option Expr) (b : Stmt) (todo : List Todo) → There todo → There (quiet.test_todo order c e b todo)
    tested src.TestFirst c e b todo h = h
    tested src.BodyFirst c e b todo h = h
    tested src.NoTest c e b todo h = h

    pub looped : (order : Order) (c : Expr) (e : Option Expr) (b : Stmt) (todo : List Todo) → There todo → There (quiet.loop_todo order c e b todo)
    looped src.TestFirst c e b todo h = h
    looped src.BodyFirst c e b todo h = h
    looped src.NoTest c e b todo h = h

    loop_left : (w : Way) (order : Order) (c : Expr) (e : Option Expr) (b : Stmt) (todo : List Todo) → There todo → There (quiet.loop_left w order c e b todo)
    loop_left src.ToBreak order c e b todo h = h
    loop_left src.ToContinue order c e b todo h = h
    loop_left src.ToReturn order c e b todo h = h
    loop_left src.ToEnd order c e b todo h = h

    pub filled : (b : Bool) (n : ℕ) (e d : Expr) (todo : List Todo) → There todo → There (quiet.fill_todo b n e d todo)
    filled false n e d todo h = h
    filled true n e d todo h = λ x u p q. inr (h x u p q)

    pub raised : (r : Raised) (todo : List Todo) → There todo → There (raising.raised_todo r todo)
    raised (src.Plainly n) todo h = h
    raised (src.BuiltAt n c e) todo h = h
    raised (src.AgainFrom c) todo h = h

    pub cleans : (c : CleanUp) (todo : List Todo) → There todo → There (piece.clean_todo c todo)
    cleans (src.Destroys e) todo h = h
    cleans (src.DestroysAll k e) todo h = λ x u p q. inr (h x u p q)
    cleans src.Unwinds todo h = h
    cleans src.Forgets todo h = h
    cleans src.Leaves todo h = h
    cleans src.Ends todo h = h
    cleans (src.Frees None) todo h = h
    cleans (src.Frees (Some r)) todo h = h
    cleans (src.Restores k) todo h = h

    pub left_cleans : (c : CleanUp) (todo : List Todo) → There todo → There (raising.left_todo c todo)
    left_cleans (src.Frees r) todo h = h
    left_cleans c todo h = cleans c todo h

    pub handled : (x : Handler) (todo : List Todo) → There todo → There (raising.handler_todo x todo)
    handled x todo h = h

    pub branch : (k : ℕ) (cs : Clauses) (todo : List Todo) → There todo → There (monitors.branch_todo k cs todo)
    branch k src.NoClauses todo h = h
    branch k (src.Otherwise b) todo h = either There (nat_eq k 0) (piece.Do b ∷ todo) todo h h
    branch zero (src.MoreClauses guard b cs) todo h = branch zero cs todo h
    branch (suc zero) (src.MoreClauses guard b cs) todo h = h
    branch (suc (suc k)) (src.MoreClauses guard b cs) todo h = branch (suc k) cs todo h

    pub item : (i : Item) (todo : List Todo) → There todo → There (quiet.item_todo i todo)
    item (src.Show g e) todo h = h
    item (src.ShowText k) todo h = h

    pub item_value : (i : Item) (todo : List Todo) → There todo → There (quiet.item_value i todo)
    item_value (src.Show g e) todo h = h
    item_value (src.ShowText k) todo h = h

    pub item_piece : (i : Item) (todo : List Todo) → There todo → There (quiet.item_piece i ∷ todo)
    item_piece (src.Show g e) todo h = h
    item_piece (src.ShowText k) todo h = h

    pub polled : (w : Option UnwindReason) (todo : List Todo) → There todo → There (monitors.leave_todo w todo)
    polled None todo h = h
    polled (Some why) todo h = h

  -- a task behind a step, of whose running execution it is told what it holds
  pub record Walked (m : Exec) (u : State) : Type 0 where
    pub exec : u.env.exec ≡ m
    pub stack : (x : Exec) → up x ≡ true → seats.parent x ≡ m → H x → Held source (seats.seat x) (seats.before x) m (u.run ∷ u.callers)
    pub named : AllNamed source seats up m u.callers u.env.frames
    pub env : EnvBy (HeldEx source seats up) u.env

  module _ (s : State) (env : EnvBy (HeldEx source seats up) s.env) (named : AllNamed source seats up s.env.exec s.callers s.env.frames) (old : (x : Exec) → up x ≡ true → seats.parent x ≡ s.env.exec → H x → Held source (seats.seat x) (seats.before x) s.env.exec (s.run ∷ s.callers)) where
    abbrev pub Outer : List Active → Type 0
    Outer cs = (x : Exec) → up x ≡ true → seats.parent x ≡ s.env.exec → H x → Held source (seats.seat x) (seats.before x) s.env.exec cs

    abbrev pub Holding : List Todo → Type 0
    Holding todo = There s.env.exec s.run.frame s.run.this s.run.elements s.callers (λ x. Held source (seats.seat x) (seats.before x) s.env.exec s.callers) todo

    -- or another execution runs
    abbrev pub Done : State → Type 0
    Done u = Walked s.env.exec u ⊎ FullState source seats up u

    abbrev pub WStep : Step → Type 0
    WStep (Goes u) = Done u
    WStep (Ticks u) = Done u
    WStep (Asks r u) = Done u

    -- nothing has changed
    stays : Done s
    stays = inl (record { exec = refl; stack = old; named = named; env = env })

    -- with something else to do, and other operands
    pub go : (todo : List Todo) (vs : List Value) → Holding todo → Done (at todo vs s)
    go todo vs h = inl (record { exec = refl; stack = h; named = named; env = env })

    -- and with another rest of the task
    pub go_in : (todo : List Todo) (vs : List Value) (e : Env) → Keeps source seats up s.env e → Holding todo → Done (at todo vs (in_env e s))
    go_in todo vs e k h = inl (record { exec = k.exec; stack = h; named = k.named s.env.exec s.callers named; env = k.env })

    -- nothing that is told of changes
    pub same : {e : Env} → e.exec ≡ s.env.exec → e.frames ≡ s.env.frames → e.hand ≡ s.env.hand → e.house ≡ s.env.house → e.own ≡ s.env.own → Keeps source seats up s.env e
    same x r h g o = kept.keeps_like source seats up env x r h g o

    -- the end of an activation: its frame goes, and what the others name is named

    abbrev pub Popped : List Active → Type 0
    Popped [] = Unit {0}
    Popped (a ∷ cs) = AllNamed source seats up s.env.exec cs (others s.env.frames)

    pub returned : (given : Value) (cs : List Active) → Popped cs → Outer cs → WStep (piece.return_step given cs s)
    returned given [] q h = stays
    returned given (a ∷ cs) q h = inl (record { exec = refl; stack = h; named = q; env = kept.like source seats up env refl refl refl })

    past : (v : Visited) (given : Value) (cs : List Active) → Popped cs → Outer cs → WStep (raising.return_past v given cs s)
    past v given [] q h = stays
    past v given (a ∷ cs) q h = inl (record { exec = refl; stack = h; named = q; env = kept.like source seats up env refl refl refl })

    end_by : (v : Option Visited) (given : Value) → Popped s.callers → Holding [] → WStep (raising.end_by v given s)
    end_by None given q h = returned given s.callers q h
    end_by (Some v) given q h = past v given s.callers q h

    pub end_step : (w : Way) → Popped s.callers → Holding [] → WStep (quiet.end_step w s)
    end_step src.ToReturn q h = end_by s.run.handles _ q h
    end_step src.ToEnd q h = end_by s.run.handles _ q h
    end_step src.ToBreak q h = returned _ s.callers q h
    end_step src.ToContinue q h = returned _ s.callers q h

    pass_on : (w : Option UnwindReason) (c : Active) (cs : List Active) → Popped (c ∷ cs) → Outer (c ∷ cs) → WStep (raising.pass_on w c cs s)
    pass_on None c cs q h = stays
    pass_on (Some why) c cs q h = inl (record { exec = refl; stack = h; named = q; env = kept.like source seats up env refl refl refl })

    leave_for : (b : Bool) (c : Active) (cs : List Active) → Popped (c ∷ cs) → Outer (c ∷ cs) → WStep (raising.leave_for b c cs s)
    leave_for true c cs q h = stays
    leave_for false c cs q h = pass_on s.run.raised c cs q h

    pub leaves : (cs : List Active) → Popped cs → Outer cs → WStep (raising.leave_step cs s)
    leaves [] q h = stays
    leaves (c ∷ cs) q h =
        either WStep (raising.arrives s.run.raised (length (c ∷ cs))) _ _ (returned s.run.result (c ∷ cs) q h) (leave_for _ c cs q h)

    -- an activation begins
    newer : (f : List Value) (c : Active) → AllNamed source seats up s.env.exec (c ∷ s.callers) (f ∷ s.env.frames)
    newer f c x u p t =
        named_map s.env.exec s.callers (c ∷ s.callers) s.env.frames (f ∷ s.env.frames) x (λ m d q i. in_newer s.env.exec s.callers s.env.frames x m d q i f c) (seats.seat x).place (named x u p t)

    -- another execution runs, where it is told of all that this one holds
    pub moved : (m : Moved (List Todo) Value) (todo : List Todo) (vs : List Value) → Holding todo → kept.FullMoved source seats up m → WStep (piece.moves m (at todo vs s))
    moved (To u) todo vs h m = inr m
    moved (Stops f) todo vs h m = go todo vs h

    pub outcome : (x : Outcome) (todo : List Todo) (vs : List Value) → Holding todo → WStep (piece.outcome_step x todo vs s)
    outcome (Gives n) todo vs h = go todo _ h
    outcome (Faults f) todo vs h = go todo _ h

    pub element : (n : Shape) (i : Option ℕ) (todo : List Todo) (v : Value) (vs : List Value) → Holding todo → WStep (piece.element_step n i todo v vs s)
    element n None todo v vs h = go todo _ h
    element n (Some i) todo v vs h = go todo _ h

    -- expressions

    object : (x : ObjectExpr) (todo : List Todo) → Holding todo → WStep (quiet.object_step x todo s)
    object (src.EndOn r false a) todo h = go _ _ h
    object (src.EndOn r true a) todo h = go _ _ h
    object (src.MakeOn c r false a args) todo h = go _ _ h
    object (src.MakeOn c r true a args) todo h = go _ _ h
    object x todo h = go _ _ h

    pub eval : (a : Expr) (todo : List Todo) → Holding todo → WStep (quiet.eval_step a todo s)
    eval (src.Update op k p a) todo h = go _ _ (converts s.env.exec s.run.frame s.run.this s.run.elements s.callers (λ x. Held source (seats.seat x) (seats.before x) s.env.exec s.callers) k (piece.KeepNow ∷ todo) h)
    eval (src.StepBehind op k p) todo h = go _ _ (converts s.env.exec s.run.frame s.run.this s.run.elements s.callers (λ x. Held source (seats.seat x) (seats.before x) s.env.exec s.callers) k (piece.StoreNow ∷ (piece.DropBelowNow ∷ todo)) h)
    eval (src.OfObject x) todo h = object x todo h
    eval (src.First a b) todo h = go _ _ h
    eval a todo h = go _ _ h

    -- statements

    event_step : (a : EventStmt) (todo : List Todo) → Holding todo → WStep (quiet.event_step a todo s)
    event_step (src.Throw line r) todo h = go _ _ (raised s.env.exec s.run.frame s.run.this s.run.elements s.callers (λ x. Held source (seats.seat x) (seats.before x) s.env.exec s.callers) r _ h)
    event_step (src.Raise line r) todo h = go _ _ (raised s.env.exec s.run.frame s.run.this s.run.elements s.callers (λ x. Held source (seats.seat x) (seats.before x) s.env.exec s.callers) r _ h)
    event_step (src.RaiseAt line r a) todo h = go _ _ (raised s.env.exec s.run.frame s.run.this s.run.elements s.callers (λ x. Held source (seats.seat x) (seats.before x) s.env.exec s.callers) r _ h)
    event_step (src.Try line body hs) todo h = go _ _ h
    event_step (src.Enable line events cell a) todo h = go _ _ (λ x u p q. inr (h x u p q))
    event_step (src.Disable line events cell a) todo h = go _ _ (λ x u p q. inr (h x u p q))

    task_step : (a : TaskStmt) (todo : List Todo) → Holding todo → WStep (quiet.task_step a todo s)
    task_step (src.Resume line) todo h = go _ _ h
    task_step a todo h = go _ _ h

    pub stmt : (a : Stmt) (todo : List Todo) → Holding todo → WStep (quiet.stmt_step a todo s)
    stmt (src.Loop line order c e b) todo h = go _ _ (looped s.env.exec s.run.frame s.run.this s.run.elements s.callers (λ x. Held source (seats.seat x) (seats.before x) s.env.exec s.callers) order c e b _ h)
    stmt (src.Block line body) todo h = go _ _ h
    stmt (src.Whole line body) todo h = go _ _ h
    stmt (src.Evaluate line e) todo h = go _ _ (h)
    stmt (src.Fill line m b d) todo h = go _ _ h
    stmt (src.Return line None) todo h = go _ _ h
    stmt (src.Return line (Some e)) todo h = go _ _ h
    stmt (src.OfEvents a) todo h = event_step a todo h
    stmt (src.OfTasks a) todo h = task_step a todo h
    stmt a todo h = go _ _ h

    -- cells start anew
    pub clears : (k m : ℕ) (todo : List Todo) → AllNamed source seats up s.env.exec s.callers (frame_changed s.run.frame (values_cleared k m nought) s.env.frames) → Holding todo → WStep (quiet.turns todo (in_env (piece.cleared k m s) s))
    clears k m todo q h =
        subst (λ (b : Bool). Done (at todo s.run.operands (in_env (if b then record s.env { frames = frame_changed s.run.frame (values_cleared k m nought) s.env.frames } else change s.env.exec.home (frames_changed s.env.exec.serial (frame_changed s.run.frame (values_cleared k m nought))) s.env) s))) (sym (exec_same s.env.exec)) (inl (record { exec = refl; stack = h; named = q; env = kept.like source seats up env refl refl refl }))

    -- calls

    begun : (r : Routine) (this : Value) (counts : Bool) (todo : List Todo) (vs : List Value) → Holding todo → WStep (quiet.begun_step r this counts todo vs s)
    begun r this counts todo vs h =
        inl (record { exec = refl; stack = routine s.env.exec _ this 0 ((record s.run { control = todo; operands = vs }) ∷ s.callers) (λ x. In s.env.exec s.run.frame s.run.this s.run.elements s.callers (λ x. Held source (seats.seat x) (seats.before x) s.env.exec s.callers) x todo) r h; named = newer _ _; env = kept.like source seats up env refl refl refl })

    pub call : (r : Option Routine) (todo : List Todo) → Holding todo → WStep (quiet.call_step r todo s)
    call None todo h = go _ _ h
    call (Some r) todo h = either (WStep) (nat_lt s.env.links.calls CALLS) _ _ (begun r _ true todo _ h) (go todo _ h)

    pub call_on : (r : Option Routine) (todo : List Todo) → Holding todo → WStep (quiet.call_on_step r todo s)
    call_on None todo h = go _ _ h
    call_on (Some r) todo h = either (WStep) (nat_lt s.env.links.calls CALLS) _ _ (begun r _ true todo _ h) (go todo _ h)

    pub call_unwritten : (r : Option Routine) (todo : List Todo) → Holding todo → WStep (quiet.call_unwritten_step r todo s)
    call_unwritten None todo h = go _ _ h
    call_unwritten (Some r) todo h = begun r _ false todo _ h

    -- coroutines

    pub set_up : (r : Option Routine) (todo : List Todo) → TakesAt source seats up (piece.SetUpNow 0 ∷ todo) s → Holding todo → WStep (quiet.set_up_step r todo s)
    set_up None todo o h = go _ _ h
    set_up (Some r) todo o h =
        let q = quiet.home_at s.run.this s.env in
        let x = quiet.fresh r s.run.this in
        let k : Keeps source seats up s.env (sw.born q x s.env) = kept.born_keeps source seats up q x s.env (λ m e. (λ y u p. absurd (o m e y u p), λ y u p t. absurd (o m e y u p))) env in
        go_in _ _ _ (kept.keeps_both source seats up k (kept.written_keeps source seats up s.run.this _ (sw.born q x s.env) k.env)) h

    pub live : (r : Option Routine) (todo : List Todo) → Holding todo → WStep (quiet.live_step r todo s)
    live None todo h = go _ _ h
    live (Some r) todo h = either (WStep) (sw.is_live (piece.exec_at (top (drop r.params s.run.operands)) s.env) s.env) _ _ (go todo _ h) (go todo _ h)

    pub land : (w : Option UnwindReason) (todo : List Todo) → Holding todo → WStep (quiet.land_step w todo s)
    land None todo h = go _ _ h
    land (Some why) todo h = go _ _ h

    -- mutex objects

    pub unless : (q : ℕ) (step : Step) (todo : List Todo) → Holding todo → WStep step → WStep (monitors.unless_held_up q step todo s)
    unless q step todo h k = either (WStep) (inside.is_held_up q s.env) _ step (go todo _ h) k

    enter_at : (d : Option ℕ) (q m : ℕ) (todo : List Todo) → Holding todo → WStep (monitors.enter_at d q m todo s)
    enter_at (Some d) q m todo h = go_in _ _ _ (same refl refl refl refl refl) h
    enter_at None q m todo h = go_in _ _ _ (same refl refl refl refl refl) h

    pub enter : (m : ℕ) (r : Option Routine) (todo : List Todo) → Holding todo → WStep (monitors.enter_step m r todo s)
    enter m None todo h = go _ _ h
    enter m (Some r) todo h =
        let q = piece.object_in (top (drop r.params s.run.operands)) in
        either (WStep) (monitors.may_call r.written s) _ _ (enter_at (find q s.env.depths) q m todo h) (go todo _ h)

    pub leave : (b : Bool) (q : ℕ) (todo : List Todo) → Holding todo → WStep (monitors.leave_at b q todo s)
    leave false q todo h = go_in _ _ _ (same refl refl refl refl refl) h
    leave true q todo h =
        unless q _ todo h (inl (record { exec = refl; stack = polled s.env.exec s.run.frame s.run.this s.run.elements s.callers (λ x. Held source (seats.seat x) (seats.before x) s.env.exec s.callers) s.run.raised todo h; named = named; env = kept.like source seats up env refl refl refl }))

    pub make : (c n : ℕ) (r : Option Routine) (todo : List Todo) → Holding todo → WStep (monitors.make_step c n r todo s)
    make c n None todo h = go _ _ h
    make c n (Some r) todo h =
        either (WStep) (monitors.may_call r.written s) _ _ (go_in _ _ _ (same refl refl refl refl refl) h) (go todo _ h)

    pub bind : (r : Option Routine) (todo : List Todo) → Holding todo → WStep (monitors.bind_step r todo s)
    bind None todo h = go _ _ h
    bind (Some r) todo h = go_in _ _ _ (kept.written_keeps source seats up _ _ s.env env) h

    pub condition : (n : ℕ) (i : Option ℕ) (todo : List Todo) → Holding todo → WStep (monitors.condition_step n i todo s)
    condition n None todo h = go todo _ h
    condition n (Some i) todo h = go todo _ h

    pub accept_by : (mask q site : ℕ) (todo : List Todo) (vs : List Value) → Holding todo → WStep (monitors.accept_by mask q site todo vs s)
    accept_by zero q site todo vs h = go _ _ h
    accept_by (suc mask) q site todo vs h = unless q _ todo h (go _ _ h)

    pub failed : (b : Bool) (todo : List Todo) (vs : List Value) → Holding todo → WStep (monitors.failed_step b todo vs s)
    failed true todo vs h = go _ _ h
    failed false todo vs h = go _ _ h

    -- events

    pend : (n : Exec) (e : Event) (todo : List Todo) (vs : List Value) → Holding todo → WStep (polls.pend_step n e todo vs s)
    pend n e todo vs h =
        either (WStep) (nat_lt (length (inside.pending_at n s.env)) PENDING_EVENTS) _ _ (go_in _ _ _ (kept.links_keeps source seats up (λ l. record l { pending = l.pending ++ (record { event = e.number; x = e.x; y = e.y }) ∷ [] }) n s.env env) h) (go todo vs h)

    pend_at : (x : Option Exec) (e : Event) (todo : List Todo) (vs : List Value) → Holding todo → WStep (polls.pend_at x e todo vs s)
    pend_at None e todo vs h = go todo vs h
    pend_at (Some n) e todo vs h = either (WStep) (sw.is_live (Some n) s.env) _ _ (pend n e todo vs h) (go todo vs h)

    pub raise_at : (v : Value) (e : Event) (todo : List Todo) (vs : List Value) → Holding todo → WStep (polls.raise_at_step v e todo vs s)
    raise_at (Object q) e todo vs h = go todo vs h
    raise_at v e todo vs h = pend_at (piece.exec_at v s.env) e todo vs h

    pub enables : (events cell : ℕ) (todo : List Todo) → Holding todo → WStep (polls.enable_step events cell todo s)
    enables events cell todo h =
        let k : Keeps source seats up s.env (written (piece.variable_at cell s) (Number (signed_64 s.env.links.enabled)) s.env) = kept.written_keeps source seats up (piece.variable_at cell s) (Number (signed_64 s.env.links.enabled)) s.env env in
        go_in _ _ _ (kept.keeps_both source seats up k (kept.keeps_like source seats up k.env refl refl refl refl refl)) h

    quiet_poll : (x : Option Pending) (todo : List Todo) → Holding todo → WStep (polls.quiet_poll x todo s)
    quiet_poll None todo h = go _ _ h
    quiet_poll (Some p) todo h = go_in _ _ _ (same refl refl refl refl refl) h

    poll_by : (b : Bool) (todo : List Todo) → Holding todo → WStep (polls.poll_by b todo s)
    poll_by true todo h = go _ _ h
    poll_by false todo h = quiet_poll (inside.oldest_enabled s.env.links) todo h

    pub poll : (todo : List Todo) → Holding todo → WStep (polls.poll_step todo s)
    poll todo h = either (WStep) (nat_eq s.env.links.enabled 0) _ _ (go todo _ h) (poll_by (inside.is_own s.env) todo h)

    pub deliver : (v : Value) (todo : List Todo) → Holding todo → WStep (polls.deliver_step v todo s)
    deliver Nothing todo h = go _ _ h
    deliver v todo h = go _ _ h

    -- the running activation is told anew
    told : (b : Active) → Outer (b ∷ s.callers) → Done (record s { run = b })
    told b h = inl (record { exec = refl; stack = h; named = named; env = env })

    pub throws : (e : Event) (todo : List Todo) → Holding todo → WStep (raising.throw_step e todo s)
    throws e todo h = told _ h

    -- the handler of a resumption begins
    handles : (o : Option Found) (e : Event) (todo : List Todo) → Holding todo → WStep (raising.handle_step o e todo s)
    handles None e todo h = throws e todo h
    handles (Some x) e todo h = inl (record { exec = refl; stack = h; named = newer [] _; env = kept.like source seats up env refl refl refl })

    pub raises : (e : Event) (todo : List Todo) → Holding todo → WStep (raising.raise_step e todo s)
    raises e todo h = handles (raising.seek None e (record s.run { control = todo } ∷ s.callers)) e todo h

    -- unwinding

    catches : (x : Option Handler) (e : Event) (todo : List Todo) → Holding todo → WStep (raising.catch_step x e todo s)
    catches None e todo h = go _ _ h
    catches (Some x) e todo h = told _ h

    guarded : (hs : Handlers) (w : Option UnwindReason) (todo : List Todo) → Holding todo → WStep (raising.guard_left hs w todo s)
    guarded hs (Some (reason.Event n y z)) todo h = catches (raising.handler_for false (record { number = n; x = y; y = z }) hs) (record { number = n; x = y; y = z }) todo h
    guarded hs w todo h = go _ _ h

    whole : (b : Bool) (todo : List Todo) → Holding todo → WStep (raising.whole_left b todo s)
    whole true todo h = told _ h
    whole false todo h = go _ _ h

    scope : (c : CleanUp) (b : Bool) (todo : List Todo) → Holding todo → WStep (raising.scope_left c b todo s)
    scope src.Leaves true todo h = told _ h
    scope c b todo h = go (raising.left_todo c (piece.Unwind ∷ todo)) [] (left_cleans s.env.exec s.run.frame s.run.this s.run.elements s.callers (λ x. Held source (seats.seat x) (seats.before x) s.env.exec s.callers) c (piece.Unwind ∷ todo) h)

    main_left : (w : Option UnwindReason) (todo : List Todo) → Holding todo → WStep (raising.main_left w todo s)
    main_left (Some (reason.ReturnTo n)) todo h = told _ h
    main_left w todo h = go todo [] h

    coroutine_left : (w : Option UnwindReason) (todo : List Todo) → FullState source seats up (at todo [] s) → Holding todo → WStep (raising.coroutine_left w todo s)
    coroutine_left (Some (reason.ReturnTo n)) todo a h = told _ h
    coroutine_left (Some reason.Destroyed) todo a h = moved _ todo _ h (kept.taken_down_rests source seats up (at todo [] s) a)
    coroutine_left w todo a h = moved _ todo _ h (kept.escape_rests source seats up (at todo [] s) a)

    -- a piece of this sort is left, and what stands behind it holds
    unwind_past : (k : Sort) (todo : List Todo) → ((NoMain k → ⊥) → FullState source seats up (at todo [] s)) → Holding todo → WStep (raising.unwind_past k todo s)
    unwind_past piece.Simple todo a h = go _ _ h
    unwind_past (piece.IsLoop order c e d) todo a h = go _ _ h
    unwind_past piece.IsWhole todo a h = whole _ todo h
    unwind_past (piece.IsClean x) todo a h = scope x _ todo h
    unwind_past (piece.IsFill m c d) todo a h = go _ _ (λ x u p q. inr (h x u p q))
    unwind_past (piece.IsSweep e) todo a h = go _ _ (λ x u p q. inr (h x u p q))
    unwind_past (piece.IsPart c) todo a h = go _ _ (cleans s.env.exec s.run.frame s.run.this s.run.elements s.callers (λ x. Held source (seats.seat x) (seats.before x) s.env.exec s.callers) c (piece.Unwind ∷ todo) h)
    unwind_past (piece.IsGuard hs) todo a h = guarded hs s.run.raised todo h
    unwind_past piece.IsFinish todo a h = main_left s.run.raised todo h
    unwind_past piece.IsFinishCoroutine todo a h = coroutine_left s.run.raised todo (a (λ z. z)) h

    pub unwinds : (p : Todo) (todo : List Todo) → ((NoMain (piece.sort p) → ⊥) → FullState source seats up (at todo [] s)) → Holding todo → WStep (raising.unwind_step (p ∷ todo) s)
    unwinds p ps a h = unwind_past (piece.sort p) ps a h

    exits_past : (w : Way) (k : Sort) (todo : List Todo) → Holding todo → Holding (quiet.left_behind w k todo)
    exits_past w piece.Simple todo h = h
    exits_past w (piece.IsLoop order c e d) todo h = loop_left s.env.exec s.run.frame s.run.this s.run.elements s.callers (λ x. Held source (seats.seat x) (seats.before x) s.env.exec s.callers) w order c e d todo h
    exits_past w piece.IsWhole todo h = h
    exits_past w (piece.IsClean x) todo h = λ x u p q. inr (h x u p q)
    exits_past w (piece.IsFill n c d) todo h = h
    exits_past w (piece.IsSweep e) todo h = h
    exits_past w (piece.IsPart c) todo h = h
    exits_past w (piece.IsGuard hs) todo h = h
    exits_past w piece.IsFinish todo h = h
    exits_past w piece.IsFinishCoroutine todo h = h

    pub exits : (w : Way) (p : Todo) (todo : List Todo) → Holding todo → WStep (quiet.exit_step w (p ∷ todo) s)
    exits w p ps h = go _ _ (exits_past w (piece.sort p) ps h)

    -- printing

    pub prints : (x : Option (List Piece)) (p : Piece) (todo : List Todo) (vs : List Value) → Holding todo → WStep (piece.print_step x p todo vs s)
    prints None p todo vs h = go _ _ h
    prints (Some ps) p todo vs h = go_in _ _ _ (same refl refl refl refl refl) h

    pub flushes : (x : Option (List Piece)) (todo : List Todo) (vs : List Value) → Holding todo → WStep (piece.flush_step x todo vs s)
    flushes None todo vs h = go _ _ h
    flushes (Some []) todo vs h = go_in _ _ _ (same refl refl refl refl refl) h
    flushes (Some (p ∷ ps)) todo vs h = go_in _ _ _ (same refl refl refl refl refl) h

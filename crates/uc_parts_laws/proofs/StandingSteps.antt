-- A quiet step of a task in which elements that stand are not gone leads to one.
use Rattle.std.proofs.Common.{◌≡◌, ℕ, zero, suc, ◌≤◌, ◌⊎◌, inl, inr, ◌++◌, Bool, true, false, List, [], ◌∷◌, length, drop, Option, Some, None, refl, arith, ap, ◌∙◌, subst, sym}
use Rattle.std.specs.Prelude.{nat_eq, nat_lt, if◌then◌else◌}
use Rattle.std.proofs.lemmas.Bool.{eq-eqb}
use Rattle.uc_tree.specs.declared.limits.TheConstants.{CALLS, PENDING_EVENTS}
use Rattle.uc_tree.specs.Source as src
use Rattle.uc_tree.specs.Source.{Shape, Expr, ObjectExpr, Stmt, EventStmt, TaskStmt, Routine, Purpose, Order, Way, CleanUp, Handlers, Clauses, Raised, Item}
use Rattle.uc_entry.specs.declared.request.Piece.{Piece}
use Rattle.uc_entry.specs.Keyed.{find, signed_64}
use Rattle.uc_machine.specs.declared.exec.Exec.{Exec}
use Rattle.uc_machine.specs.declared.exec.Home.{Home}
use Rattle.uc_machine.specs.declared.exec.Home.TheVariants as home
use Rattle.uc_machine.specs.declared.exec.Pending.{Pending}
use Rattle.uc_machine.specs.declared.exec.UnwindReason.{UnwindReason}
use Rattle.uc_machine.specs.declared.exec.UnwindReason.TheVariants as reason
use Rattle.uc_machine.specs.declared.exec.Visited.{Visited}
use Rattle.uc_machine.specs.declared.exec.Owner.TheVariants.{Frame, Fields}
use Rattle.uc_machine.specs.Executions.{others, home_eq, exec_eq, frame_changed, value_changed, values_cleared, change, frames_changed}
use Rattle.uc_machine.specs.Switches as sw
use Rattle.uc_machine.specs.Switches.{Moved, To, Stops}
use Rattle.uc_machine.specs.Insides as inside
use Rattle.uc_machine.specs.Raising as raising
use Rattle.uc_machine.specs.Raising.{Event, Handler, Found, Hit}
use Rattle.uc_machine.specs.Monitors as monitors
use Rattle.uc_machine.specs.Polls as polls
use Rattle.uc_machine.specs.Quiet as quiet
use Rattle.uc_machine.specs.Pieces as piece
use Rattle.uc_machine.specs.Pieces.{Value, Number, Place, Running, Object, Nothing, Todo, Sort, Active, State, Env, Step, Outcome, Gives, Faults, at, in_env, top, below, number, nought, address, stored, written}
use Rattle.uc_life_laws.specs.LifeStates.{frame_at}
use Rattle.uc_life_laws.proofs.Cells.{either}
use Rattle.uc_parts_laws.specs.Parts.{IsFree}
use Rattle.uc_putting_laws.specs.Filling.{is_filling}
use Rattle.uc_parts_laws.specs.Standing.{Going, IsLasting, IsAside, array_of, Unless, AllStill, Standing, StandingFirst, StandingStack, StandingFrom, StandingEx, StandingState, StandingStep, CleansStill, FindsStandingAt}
use Rattle.uc_parts_laws.proofs.StandingCells.{unless_map, unless_any, set_length, from_cleared, from_aside, stack_newer, stack_older, others_length}
use Rattle.uc_parts_laws.proofs.StandingKeeping as kept
use Rattle.uc_parts_laws.proofs.StandingKeeping.{Keeps}

home_same : (h : Home) → home_eq h h ≡ true
home_same (home.Task n) = eq-eqb n n refl
home_same (home.Object o) = eq-eqb o o refl

pub exec_same : (n : Exec) → exec_eq n n ≡ true
exec_same n =
    let h : home_eq n.home n.home ≡ true = home_same n.home in
    let s : nat_eq n.serial n.serial ≡ true = eq-eqb n.serial n.serial refl in
    rw h s

-- a handler that is found uses the frame of one of these activations

abbrev pub FoundTo : ℕ → Option Found → Type 0
FoundTo n None = Unit {0}
FoundTo n (Some f) = f.frame ≤ n

found_or : (n : ℕ) (h : Option Hit) (a : Active) (cs : List Active) (other : Option Found) → a.frame ≤ n → FoundTo n other → FoundTo n (raising.found_or h a cs other)
found_or n None a cs other l k = k
found_or n (Some h) a cs other l k = l

module _ (going : Going) where
  seek_to : (m : Exec) (fs : List (List Value)) (n : ℕ) (v : Option Visited) (e : Event) (cs : List Active) → length cs ≤ n → StandingStack going m fs cs → FoundTo n (raising.seek v e cs)
  seek_to m fs n None e [] l h = tt
  seek_to m fs n (Some v) e [] l h = tt
  seek_to m fs n None e (a ∷ cs) l h =
      let d = h.0 in
      found_or n (raising.hit_in e a.control) a cs (raising.seek a.handles e cs) (omega (arith, d, l)) (seek_to m fs n a.handles e cs (omega (arith, l)) h.2)
  seek_to m fs n (Some v) e (a ∷ cs) l h =
      let d = h.0 in
      either (FoundTo n) (nat_eq (length cs) v.level) (raising.found_or (raising.hit_in e (raising.within v.rest a.control)) a cs (raising.seek a.handles e cs)) (raising.seek (Some v) e cs) (found_or n (raising.hit_in e (raising.within v.rest a.control)) a cs (raising.seek a.handles e cs) (omega (arith, d, l)) (seek_to m fs n a.handles e cs (omega (arith, l)) h.2)) (seek_to m fs n (Some v) e cs (omega (arith, l)) h.2)

  -- to-do lists of an activation of this frame and object, before older ones
  module _ (m : Exec) (vs : List Value) (f count : ℕ) where
    abbrev There : List Todo → Type 0
    There todo = Standing going m vs f count todo

    abbrev First : List Todo → Type 0
    First todo = StandingFirst going m vs f count todo

    pub first : (todo : List Todo) → There todo → First todo
    first (piece.CountNow n ∷ todo) h = absurd h
    first todo h = h

    -- where fewer stand
    all_fewer : (c : ℕ) (a : Option (Shape × ℕ × ℕ)) → c ≤ count → AllStill going m vs f count a → AllStill going m vs f c a
    all_fewer c None l h = tt
    all_fewer c (Some a) l h = λ j k m. h j (omega (arith, k, l)) m

    behind : (p : Purpose) (line : ℕ) → There (quiet.behind_body p line)
    behind src.TaskMain line = tt
    behind src.CoroutineMain line = tt
    behind src.Procedure line = tt
    behind src.Function line = tt
    behind src.Builder line = tt

    pub routine : (r : Routine) → There (quiet.routine_todo r)
    routine r = behind r.purpose r.line

    pub starts : (cell : ℕ) (v : Option Expr) (todo : List Todo) → There todo → There (quiet.starting cell v todo)
    starts cell None todo h = h
    starts cell (Some e) todo h = h

    pub converts : (k : Shape) (todo : List Todo) → There todo → There (quiet.converting k todo)
    converts src.Character todo h = h
    converts src.Truth todo h = h
    converts k todo h = h

    pub stepped : (e : Option Expr) (todo : List Todo) → There todo → There (quiet.step_todo e todo)
    stepped None todo h = h
    stepped (Some e) todo h = h

    pub tested : (order : Order) (c : Expr) (e : Option Expr) (b : Stmt) (todo : List Todo) → There todo → There (quiet.test_todo order c e b todo)
    tested src.TestFirst c e b todo h = h
    tested src.BodyFirst c e b todo h = h
    tested src.NoTest c e b todo h = h

    pub looped : (order : Order) (c : Expr) (e : Option Expr) (b : Stmt) (todo : List Todo) → There todo → There (quiet.loop_todo order c e b todo)
    looped src.TestFirst c e b todo h = h
    looped src.BodyFirst c e b todo h = h
    looped src.NoTest c e b todo h = h

    loop_left : (w : Way) (order : Order) (c : Expr) (e : Option Expr) (b : Stmt) (todo : List Todo) → There todo → There (quiet.loop_left w order c e b todo)
    loop_left src.ToBreak order c e b todo h = h
    loop_left src.ToContinue order c e b todo h = h
    loop_left src.ToReturn order c e b todo h = h
    loop_left src.ToEnd order c e b todo h = h

    -- a piece of a sort is left; what holds of it holds of what is outwards of it
    pub left_behind : (w : Way) (k : Sort) (todo : List Todo) → There todo → There (quiet.left_behind w k todo)
    left_behind w piece.Simple todo h = h
    left_behind w (piece.IsLoop order c e b) todo h = loop_left w order c e b todo h
    left_behind w piece.IsWhole todo h = h
    left_behind w (piece.IsClean x) todo h = h
    left_behind w (piece.IsFill n b d) todo h = h
    left_behind w (piece.IsSweep e) todo h = h
    left_behind w (piece.IsPart x) todo h = h
    left_behind w (piece.IsGuard hs) todo h = h
    left_behind w piece.IsFinish todo h = h
    left_behind w piece.IsFinishCoroutine todo h = h

    pub filled : (b : Bool) (n : ℕ) (e d : Expr) (todo : List Todo) → There (piece.FillNow n e d ∷ todo) → There (quiet.fill_todo b n e d todo)
    filled false n e d todo h = h
    filled true n e d todo h = h

    pub raised : (r : Raised) (todo : List Todo) → There todo → There (raising.raised_todo r todo)
    raised (src.Plainly n) todo h = h
    raised (src.BuiltAt n c e) todo h = h
    raised (src.AgainFrom c) todo h = h

    -- what a clean-up of an array is to find
    abbrev pub Cleans : CleanUp → List Todo → Type 0
    Cleans (src.DestroysAll k e) todo = AllStill going m vs f k (array_of e) × IsFree todo
    Cleans c todo = Unit {0}

    -- where no array is being built or destroyed it is so whatever is counted
    pub free : (c : ℕ) (todo : List Todo) → IsFree todo → There todo → Standing going m vs f c todo
    free c [] k h = tt
    free c (piece.CountNow n ∷ todo) k h = absurd h
    free c (piece.FillNow n b d ∷ todo) k h = absurd k
    free c (piece.Sweep e ∷ todo) k h = absurd k
    free c (p ∷ todo) k h = free c todo k h

    pub cleans : (c : CleanUp) (todo : List Todo) → Cleans c todo → There todo → First (piece.clean_todo c todo)
    cleans (src.Destroys e) todo n h = h
    cleans (src.DestroysAll k e) todo n h = (unless_any (is_filling todo) _ n.0, free k todo n.1 h)
    cleans src.Unwinds todo n h = h
    cleans src.Forgets todo n h = h
    cleans src.Leaves todo n h = h
    cleans src.Ends todo n h = h
    cleans (src.Frees None) todo n h = h
    cleans (src.Frees (Some r)) todo n h = h
    cleans (src.Restores k) todo n h = h

    pub left_cleans : (c : CleanUp) (todo : List Todo) → Cleans c todo → There todo → First (raising.left_todo c todo)
    left_cleans (src.Frees r) todo n h = h
    left_cleans c todo n h = cleans c todo n h

    pub branch : (k : ℕ) (cs : Clauses) (todo : List Todo) → There todo → There (monitors.branch_todo k cs todo)
    branch k src.NoClauses todo h = h
    branch k (src.Otherwise b) todo h = either There (nat_eq k 0) (piece.Do b ∷ todo) todo h h
    branch zero (src.MoreClauses guard b cs) todo h = branch zero cs todo h
    branch (suc zero) (src.MoreClauses guard b cs) todo h = h
    branch (suc (suc k)) (src.MoreClauses guard b cs) todo h = branch (suc k) cs todo h

    pub item : (i : Item) (todo : List Todo) → There todo → There (quiet.item_todo i todo)
    item (src.Show g e) todo h = h
    item (src.ShowText k) todo h = h

    pub item_value : (i : Item) (todo : List Todo) → There todo → There (quiet.item_value i todo)
    item_value (src.Show g e) todo h = h
    item_value (src.ShowText k) todo h = h

    pub item_piece : (i : Item) (todo : List Todo) → There todo → There (quiet.item_piece i ∷ todo)
    item_piece (src.Show g e) todo h = h
    item_piece (src.ShowText k) todo h = h

    pub polled : (w : Option UnwindReason) (todo : List Todo) → There todo → First (monitors.leave_todo w todo)
    polled None todo h = h
    polled (Some why) todo h = first todo h

  module _ (m : Exec) (vs : List Value) (f : ℕ) where
    pub fewer : (c count : ℕ) (todo : List Todo) → c ≤ count → Standing going m vs f count todo → Standing going m vs f c todo
    fewer c count [] l h = tt
    fewer c count (piece.CountNow n ∷ todo) l h = absurd h
    fewer c count (piece.Sweep e ∷ todo) l h = (unless_map (is_filling todo) _ _ (all_fewer m vs f count c (array_of e) l) h.0, fewer c count todo l h.1)
    fewer c count (p ∷ todo) l h = fewer c count todo l h

  module _ (s : State) (st : StandingState going s) where
    abbrev pub Holding : List Todo → Type 0
    Holding todo = Standing going s.env.exec (frame_at s.run.frame s.env.frames) s.run.frame s.run.elements todo

    -- with something else to do, and other operands
    pub go : (todo : List Todo) (vs : List Value) → Holding todo → StandingState going (at todo vs s)
    go todo vs h = record { frames = st.frames; stack = (st.stack.0, first s.env.exec _ s.run.frame s.run.elements todo h, st.stack.2); env = st.env }

    -- where elements may be counted first
    pub go_first : (todo : List Todo) (vs : List Value) → StandingFirst going s.env.exec (frame_at s.run.frame s.env.frames) s.run.frame s.run.elements todo → StandingState going (at todo vs s)
    go_first todo vs h = record { frames = st.frames; stack = (st.stack.0, h, st.stack.2); env = st.env }

    -- and with another rest of the task
    pub go_in : (todo : List Todo) (vs : List Value) (e : Env) → Keeps going s.env e → Holding todo → StandingState going (at todo vs (in_env e s))
    go_in todo vs e k h = kept.with_env going (at todo vs s) (go todo vs h) k

    -- nothing that is told of changes
    pub same : {e : Env} → e.exec ≡ s.env.exec → e.frames ≡ s.env.frames → e.hand ≡ s.env.hand → e.house ≡ s.env.house → e.own ≡ s.env.own → Keeps going s.env e
    same x q h g o = kept.keeps_like going st.env x q h g o

    -- the end of an activation

    -- those that wait, with a frame less
    less : (a : Active) (cs : List Active) → length s.env.frames ≡ suc (length (a ∷ cs)) → StandingStack going s.env.exec s.env.frames (a ∷ cs) → StandingStack going s.env.exec (others s.env.frames) (a ∷ cs)
    less a cs l h =
        let n : length (others s.env.frames) ≡ suc (length cs) = others_length s.env.frames (length cs) l in
        stack_older going s.env.exec s.env.frames (a ∷ cs) (omega (arith, n)) h

    pub returned : (given : Value) (cs : List Active) → length s.env.frames ≡ suc (length cs) → StandingStack going s.env.exec s.env.frames cs → StandingStep going (piece.return_step given cs s)
    returned given [] l h = st
    returned given (a ∷ cs) l h =
        let k = less a cs l h in
        record { frames = others_length s.env.frames (length cs) l; stack = (k.0, first s.env.exec _ a.frame a.elements a.control k.1, k.2); env = kept.like going st.env refl refl refl }

    past : (v : Visited) (given : Value) (cs : List Active) → length s.env.frames ≡ suc (length cs) → StandingStack going s.env.exec s.env.frames cs → StandingStep going (raising.return_past v given cs s)
    past v given [] l h = st
    past v given (a ∷ cs) l h =
        let k = less a cs l h in
        record { frames = others_length s.env.frames (length cs) l; stack = (k.0, k.1, k.2); env = kept.like going st.env refl refl refl }

    end_by : (v : Option Visited) (given : Value) → StandingStep going (raising.end_by v given s)
    end_by None given = returned given s.callers st.frames st.stack.2
    end_by (Some v) given = past v given s.callers st.frames st.stack.2

    end_step : (w : Way) → StandingStep going (quiet.end_step w s)
    end_step src.ToReturn = end_by s.run.handles _
    end_step src.ToEnd = end_by s.run.handles _
    end_step src.ToBreak = returned _ s.callers st.frames st.stack.2
    end_step src.ToContinue = returned _ s.callers st.frames st.stack.2

    pass_on : (w : Option UnwindReason) (c : Active) (cs : List Active) → length s.env.frames ≡ suc (length (c ∷ cs)) → StandingStack going s.env.exec s.env.frames (c ∷ cs) → StandingStep going (raising.pass_on w c cs s)
    pass_on None c cs l h = st
    pass_on (Some why) c cs l h =
        let k = less c cs l h in
        record { frames = others_length s.env.frames (length cs) l; stack = (k.0, k.1, k.2); env = kept.like going st.env refl refl refl }

    leave_for : (b : Bool) (c : Active) (cs : List Active) → length s.env.frames ≡ suc (length (c ∷ cs)) → StandingStack going s.env.exec s.env.frames (c ∷ cs) → StandingStep going (raising.leave_for b c cs s)
    leave_for true c cs l h = st
    leave_for false c cs l h = pass_on s.run.raised c cs l h

    leaves : (cs : List Active) → length s.env.frames ≡ suc (length cs) → StandingStack going s.env.exec s.env.frames cs → StandingStep going (raising.leave_step cs s)
    leaves [] l h = st
    leaves (c ∷ cs) l h =
        either (StandingStep going) (raising.arrives s.run.raised (length (c ∷ cs))) _ _ (returned s.run.result (c ∷ cs) l h) (leave_for _ c cs l h)

    pub moved : (m : Moved (List Todo) Value) (todo : List Todo) (vs : List Value) → Holding todo → kept.LifeMoved going m → StandingStep going (piece.moves m (at todo vs s))
    moved (To u) todo vs h m = m
    moved (Stops f) todo vs h m = go todo vs h

    pub outcome : (x : Outcome) (todo : List Todo) (vs : List Value) → Holding todo → StandingStep going (piece.outcome_step x todo vs s)
    outcome (Gives n) todo vs h = go todo _ h
    outcome (Faults f) todo vs h = go todo _ h

    pub element : (n : Shape) (i : Option ℕ) (todo : List Todo) (v : Value) (vs : List Value) → Holding todo → StandingStep going (piece.element_step n i todo v vs s)
    element n None todo v vs h = go todo _ h
    element n (Some i) todo v vs h = go todo _ h

    -- expressions

    object : (x : ObjectExpr) (todo : List Todo) → Holding todo → StandingStep going (quiet.object_step x todo s)
    object (src.EndOn r false a) todo h = go _ _ h
    object (src.EndOn r true a) todo h = go _ _ h
    object (src.MakeOn c r false a args) todo h = go _ _ h
    object (src.MakeOn c r true a args) todo h = go _ _ h
    object x todo h = go _ _ h

    pub eval : (a : Expr) (todo : List Todo) → Holding todo → StandingStep going (quiet.eval_step a todo s)
    eval (src.Update op k p a) todo h = go _ _ (converts s.env.exec _ s.run.frame s.run.elements k (piece.KeepNow ∷ todo) h)
    eval (src.StepBehind op k p) todo h = go _ _ (converts s.env.exec _ s.run.frame s.run.elements k (piece.StoreNow ∷ (piece.DropBelowNow ∷ todo)) h)
    eval (src.OfObject x) todo h = object x todo h
    eval a todo h = go _ _ h

    -- statements

    pub swept : (n : ℕ) (e : Expr) (todo : List Todo) → s.run.elements ≡ n → Holding (piece.Sweep e ∷ todo) → StandingStep going (quiet.sweep_step n e todo s)
    swept zero e todo q h = go _ _ h.1
    swept (suc m) e todo q h =
        record { frames = st.frames; stack = (st.stack.0, fewer s.env.exec _ s.run.frame m s.run.elements (piece.Sweep e ∷ todo) (omega (arith, q)) h, st.stack.2); env = st.env }

    event_step : (a : EventStmt) (todo : List Todo) → Holding todo → StandingStep going (quiet.event_step a todo s)
    event_step (src.Throw line r) todo h = go _ _ (raised s.env.exec _ s.run.frame s.run.elements r _ h)
    event_step (src.Raise line r) todo h = go _ _ (raised s.env.exec _ s.run.frame s.run.elements r _ h)
    event_step (src.Try line body hs) todo h = go _ _ h
    event_step (src.RaiseAt line r a) todo h = go _ _ (raised s.env.exec _ s.run.frame s.run.elements r _ h)
    event_step (src.Enable line events cell a) todo h = go _ _ h
    event_step (src.Disable line events cell a) todo h = go _ _ h

    task_step : (a : TaskStmt) (todo : List Todo) → Holding todo → StandingStep going (quiet.task_step a todo s)
    task_step (src.Resume line) todo h = go _ _ h
    task_step a todo h = go _ _ h

    pub stmt : (a : Stmt) (todo : List Todo) → Holding todo → StandingStep going (quiet.stmt_step a todo s)
    stmt (src.Fill line n b d) todo h = go_first _ _ (fewer s.env.exec _ s.run.frame 0 s.run.elements todo (omega arith) h)
    stmt (src.Loop line order c e b) todo h = go _ _ (looped s.env.exec _ s.run.frame s.run.elements order c e b _ h)
    stmt (src.Return line None) todo h = go _ _ h
    stmt (src.Return line (Some e)) todo h = go _ _ h
    stmt (src.OfEvents a) todo h = event_step a todo h
    stmt (src.OfTasks a) todo h = task_step a todo h
    stmt a todo h = go _ _ h

    -- cells start anew
    pub clears : (k m : ℕ) (todo : List Todo) → Holding todo → StandingStep going (quiet.turns todo (in_env (piece.cleared k m s) s))
    clears k m todo h =
        let there : StandingFrom going s.env.exec s.env.frames (record s.run { control = todo }) s.callers = (st.stack.0, first s.env.exec _ s.run.frame s.run.elements todo h, st.stack.2) in
        subst (λ (b : Bool). StandingState going (at todo s.run.operands (in_env (if b then record s.env { frames = frame_changed s.run.frame (values_cleared k m nought) s.env.frames } else change s.env.exec.home (frames_changed s.env.exec.serial (frame_changed s.run.frame (values_cleared k m nought))) s.env) s))) (sym (exec_same s.env.exec)) (record {
          frames = set_length s.env.frames s.run.frame (values_cleared k m nought (frame_at s.run.frame s.env.frames)) ∙ st.frames;
          stack = from_cleared going s.env.exec s.run.frame k m s.env.frames (record s.run { control = todo }) s.callers there;
          env = kept.like going st.env refl refl refl;
        })

    -- what is bound is not gone, or a cell aside is written
    pub binds : (v w : Value) (todo : List Todo) (vs : List Value) → IsLasting going w ⊎ IsAside (at todo vs s) v → Holding todo → StandingState going (at todo vs (in_env (written v w s.env) s))
    binds v w todo vs (inl l) h = go_in todo vs _ (kept.written_keeps going v w s.env l st.env) h
    binds (Place (Frame n d) p) w todo vs (inr b) h = subst (λ m. StandingState going (at todo vs (in_env (written (Place (Frame m d) p) w s.env) s))) (sym b.0) own
      where
        there : StandingFrom going s.env.exec s.env.frames (record s.run { control = todo; operands = vs }) s.callers
        there = (st.stack.0, first s.env.exec _ s.run.frame s.run.elements todo h, st.stack.2)

        own : StandingState going (at todo vs (in_env (written (Place (Frame s.env.exec d) p) w s.env) s))
        own =
            subst (λ (b : Bool). StandingState going (at todo vs (in_env (if b then record s.env { frames = frame_changed d (value_changed (address p) (stored w) nought) s.env.frames } else change s.env.exec.home (frames_changed s.env.exec.serial (frame_changed d (value_changed (address p) (stored w) nought))) s.env) s))) (sym (exec_same s.env.exec)) (record {
              frames = set_length s.env.frames d (value_changed (address p) (stored w) nought (frame_at d s.env.frames)) ∙ st.frames;
              stack = from_aside going s.env.exec d (address p) (stored w) s.env.frames (record s.run { control = todo; operands = vs }) s.callers b.1 there;
              env = kept.like going st.env refl refl refl;
            })
    binds (Place (Fields o) p) w todo vs (inr b) h = go_in todo vs _ (kept.fields_keeps going o (address p) w s.env st.env) h
    binds (Number n) w todo vs (inr b) h = go_in todo vs _ (same refl refl refl refl refl) h
    binds (Running n) w todo vs (inr b) h = go_in todo vs _ (same refl refl refl refl refl) h
    binds (Object o) w todo vs (inr b) h = go_in todo vs _ (kept.fields_keeps going o 0 w s.env st.env) h
    binds Nothing w todo vs (inr b) h = go_in todo vs _ (same refl refl refl refl refl) h

    -- calls

    begun : (r : Routine) (this : Value) (counts : Bool) (todo : List Todo) (vs : List Value) → Holding todo → StandingStep going (quiet.begun_step r this counts todo vs s)
    begun r this counts todo vs h =
        let n = st.frames in
        record {
          frames = ap suc st.frames;
          stack = (omega (arith, n), routine s.env.exec _ _ 0 r, stack_newer going s.env.exec _ s.env.frames (record s.run { control = todo; operands = vs } ∷ s.callers) (omega (arith, n)) (st.stack.0, h, st.stack.2));
          env = kept.like going st.env refl refl refl;
        }

    pub call : (r : Option Routine) (todo : List Todo) → Holding todo → StandingStep going (quiet.call_step r todo s)
    call None todo h = go _ _ h
    call (Some r) todo h = either (StandingStep going) (nat_lt s.env.links.calls CALLS) _ _ (begun r _ true todo _ h) (go todo _ h)

    pub call_on : (r : Option Routine) (todo : List Todo) → Holding todo → StandingStep going (quiet.call_on_step r todo s)
    call_on None todo h = go _ _ h
    call_on (Some r) todo h = either (StandingStep going) (nat_lt s.env.links.calls CALLS) _ _ (begun r _ true todo _ h) (go todo _ h)

    pub call_unwritten : (r : Option Routine) (todo : List Todo) → Holding todo → StandingStep going (quiet.call_unwritten_step r todo s)
    call_unwritten None todo h = go _ _ h
    call_unwritten (Some r) todo h = begun r _ false todo _ h

    -- coroutines

    fresh : (n : Exec) (r : Routine) (this : Value) → StandingEx going n (quiet.fresh r this)
    fresh n r this = record { frames = refl; stack = (omega arith, routine n _ _ 0 r, tt) }

    pub set_up : (r : Option Routine) (todo : List Todo) → Holding todo → StandingStep going (quiet.set_up_step r todo s)
    set_up None todo h = go _ _ h
    set_up (Some r) todo h =
        let q = quiet.home_at s.run.this s.env in
        let x = quiet.fresh r s.run.this in
        let k : Keeps going s.env (sw.born q x s.env) = kept.born_keeps going q x s.env (λ n. fresh n r s.run.this) st.env in
        go_in _ _ _ (kept.keeps_both going k (kept.written_keeps going s.run.this _ (sw.born q x s.env) (λ o e. absurd (cc)) k.env)) h

    pub live : (r : Option Routine) (todo : List Todo) → Holding todo → StandingStep going (quiet.live_step r todo s)
    live None todo h = go _ _ h
    live (Some r) todo h = either (StandingStep going) (sw.is_live (piece.exec_at (top (drop r.params s.run.operands)) s.env) s.env) _ _ (go todo _ h) (go todo _ h)

    pub land : (w : Option UnwindReason) (todo : List Todo) → Holding todo → StandingStep going (quiet.land_step w todo s)
    land None todo h = go _ _ h
    land (Some why) todo h = go _ _ h

    -- mutex objects

    pub unless : (q : ℕ) (step : Step) (todo : List Todo) → Holding todo → StandingStep going step → StandingStep going (monitors.unless_held_up q step todo s)
    unless q step todo h k = either (StandingStep going) (inside.is_held_up q s.env) _ step (go todo _ h) k

    enter_at : (d : Option ℕ) (q m : ℕ) (todo : List Todo) → Holding todo → StandingStep going (monitors.enter_at d q m todo s)
    enter_at (Some d) q m todo h = go_in _ _ _ (same refl refl refl refl refl) h
    enter_at None q m todo h = go_in _ _ _ (same refl refl refl refl refl) h

    pub enter : (m : ℕ) (r : Option Routine) (todo : List Todo) → Holding todo → StandingStep going (monitors.enter_step m r todo s)
    enter m None todo h = go _ _ h
    enter m (Some r) todo h =
        let q = piece.object_in (top (drop r.params s.run.operands)) in
        either (StandingStep going) (monitors.may_call r.written s) _ _ (enter_at (find q s.env.depths) q m todo h) (go todo _ h)

    pub leave : (b : Bool) (q : ℕ) (todo : List Todo) → Holding todo → StandingStep going (monitors.leave_at b q todo s)
    leave false q todo h = go_in _ _ _ (same refl refl refl refl refl) h
    leave true q todo h =
        unless q _ todo h (record { frames = st.frames; stack = (st.stack.0, polled s.env.exec _ s.run.frame s.run.elements s.run.raised todo h, st.stack.2); env = kept.like going st.env refl refl refl })

    pub make : (c n : ℕ) (r : Option Routine) (todo : List Todo) → Holding todo → StandingStep going (monitors.make_step c n r todo s)
    make c n None todo h = go _ _ h
    make c n (Some r) todo h =
        either (StandingStep going) (monitors.may_call r.written s) _ _ (go_in _ _ _ (same refl refl refl refl refl) h) (go todo _ h)

    pub bind : (r : Option Routine) (todo : List Todo) → IsLasting going (top s.run.operands) → Holding todo → StandingStep going (monitors.bind_step r todo s)
    bind None todo l h = go _ _ h
    bind (Some r) todo l h = go_in _ _ _ (kept.written_keeps going _ _ s.env l st.env) h

    pub condition : (n : ℕ) (i : Option ℕ) (todo : List Todo) → Holding todo → StandingStep going (monitors.condition_step n i todo s)
    condition n None todo h = go todo _ h
    condition n (Some i) todo h = go todo _ h

    pub accept_by : (mask q site : ℕ) (todo : List Todo) (vs : List Value) → Holding todo → StandingStep going (monitors.accept_by mask q site todo vs s)
    accept_by zero q site todo vs h = go _ _ h
    accept_by (suc mask) q site todo vs h = unless q _ todo h (go _ _ h)

    pub failed : (b : Bool) (todo : List Todo) (vs : List Value) → Holding todo → StandingStep going (monitors.failed_step b todo vs s)
    failed true todo vs h = go _ _ h
    failed false todo vs h = go _ _ h

    -- events

    pend : (n : Exec) (e : Event) (todo : List Todo) (vs : List Value) → Holding todo → StandingStep going (polls.pend_step n e todo vs s)
    pend n e todo vs h =
        either (StandingStep going) (nat_lt (length (inside.pending_at n s.env)) PENDING_EVENTS) _ _ (go_in _ _ _ (kept.links_keeps going (λ l. record l { pending = l.pending ++ (record { event = e.number; x = e.x; y = e.y }) ∷ [] }) n s.env st.env) h) (go todo vs h)

    pend_at : (x : Option Exec) (e : Event) (todo : List Todo) (vs : List Value) → Holding todo → StandingStep going (polls.pend_at x e todo vs s)
    pend_at None e todo vs h = go todo vs h
    pend_at (Some n) e todo vs h = either (StandingStep going) (sw.is_live (Some n) s.env) _ _ (pend n e todo vs h) (go todo vs h)

    pub raise_at : (v : Value) (e : Event) (todo : List Todo) (vs : List Value) → Holding todo → StandingStep going (polls.raise_at_step v e todo vs s)
    raise_at (Object q) e todo vs h = go todo vs h
    raise_at v e todo vs h = pend_at (piece.exec_at v s.env) e todo vs h

    pub enables : (events cell : ℕ) (todo : List Todo) → Holding todo → StandingStep going (polls.enable_step events cell todo s)
    enables events cell todo h =
        let k : Keeps going s.env (written (piece.variable_at cell s) (Number (signed_64 s.env.links.enabled)) s.env) = kept.written_keeps going (piece.variable_at cell s) (Number (signed_64 s.env.links.enabled)) s.env (λ o e. absurd (cc)) st.env in
        go_in _ _ _ (kept.keeps_both going k (kept.keeps_like going k.env refl refl refl refl refl)) h

    quiet_poll : (x : Option Pending) (todo : List Todo) → Holding todo → StandingStep going (polls.quiet_poll x todo s)
    quiet_poll None todo h = go _ _ h
    quiet_poll (Some p) todo h = go_in _ _ _ (same refl refl refl refl refl) h

    poll_by : (b : Bool) (todo : List Todo) → Holding todo → StandingStep going (polls.poll_by b todo s)
    poll_by true todo h = go _ _ h
    poll_by false todo h = quiet_poll (inside.oldest_enabled s.env.links) todo h

    pub poll : (todo : List Todo) → Holding todo → StandingStep going (polls.poll_step todo s)
    poll todo h = either (StandingStep going) (nat_eq s.env.links.enabled 0) _ _ (go todo _ h) (poll_by (inside.is_own s.env) todo h)

    pub deliver : (v : Value) (todo : List Todo) → Holding todo → StandingStep going (polls.deliver_step v todo s)
    deliver Nothing todo h = go _ _ h
    deliver v todo h = go _ _ h

    -- the running activation is told anew
    told : (b : Active) → b.frame ≡ s.run.frame → b.elements ≡ s.run.elements → Holding b.control → StandingState going (record s { run = b })
    told b e q h = record {
      frames = st.frames;
      stack = (subst (λ f. f ≤ length s.callers) (sym e) st.stack.0, subst (λ v. StandingFirst going s.env.exec (frame_at b.frame s.env.frames) b.frame v b.control) (sym q) (subst (λ f. StandingFirst going s.env.exec (frame_at f s.env.frames) f s.run.elements b.control) (sym e) (first s.env.exec _ s.run.frame s.run.elements b.control h)), st.stack.2);
      env = st.env;
    }

    pub throws : (e : Event) (todo : List Todo) → Holding todo → StandingStep going (raising.throw_step e todo s)
    throws e todo h = told _ refl refl h

    -- the handler of a resumption begins
    handles : (o : Option Found) (e : Event) (todo : List Todo) → FoundTo (suc (length s.callers)) o → Holding todo → StandingStep going (raising.handle_step o e todo s)
    handles None e todo f h = throws e todo h
    handles (Some x) e todo f h =
        let n = st.frames in
        record {
          frames = ap suc st.frames;
          stack = (f, tt, stack_newer going s.env.exec [] s.env.frames (record s.run { control = piece.DropNow ∷ todo; operands = below (below (below s.run.operands)) } ∷ s.callers) (omega (arith, n)) (st.stack.0, h, st.stack.2));
          env = kept.like going st.env refl refl refl;
        }

    pub raises : (e : Event) (todo : List Todo) → Holding todo → StandingStep going (raising.raise_step e todo s)
    raises e todo h =
        handles (raising.seek None e (record s.run { control = todo } ∷ s.callers)) e todo (seek_to s.env.exec s.env.frames (suc (length s.callers)) None e (record s.run { control = todo } ∷ s.callers) (omega arith) (st.stack.0, h, st.stack.2)) h

    -- unwinding

    catches : (x : Option Handler) (e : Event) (todo : List Todo) → Holding todo → StandingStep going (raising.catch_step x e todo s)
    catches None e todo h = go _ _ h
    catches (Some x) e todo h = told _ refl refl h

    guarded : (hs : Handlers) (w : Option UnwindReason) (todo : List Todo) → Holding todo → StandingStep going (raising.guard_left hs w todo s)
    guarded hs (Some (reason.Event n y z)) todo h = catches (raising.handler_for false (record { number = n; x = y; y = z }) hs) (record { number = n; x = y; y = z }) todo h
    guarded hs w todo h = go _ _ h

    whole : (b : Bool) (todo : List Todo) → Holding todo → StandingStep going (raising.whole_left b todo s)
    whole true todo h = told _ refl refl h
    whole false todo h = go _ _ h

    abbrev ToFind : CleanUp → List Todo → Type 0
    ToFind c todo = Cleans s.env.exec (frame_at s.run.frame s.env.frames) s.run.frame s.run.elements c todo

    scope : (c : CleanUp) (b : Bool) (todo : List Todo) → ToFind c (piece.Unwind ∷ todo) → Holding todo → StandingStep going (raising.scope_left c b todo s)
    scope src.Leaves true todo n h = told _ refl refl h
    scope c b todo n h = go_first (raising.left_todo c (piece.Unwind ∷ todo)) [] (left_cleans s.env.exec _ s.run.frame s.run.elements c (piece.Unwind ∷ todo) n h)

    main_left : (w : Option UnwindReason) (todo : List Todo) → Holding todo → StandingStep going (raising.main_left w todo s)
    main_left (Some (reason.ReturnTo n)) todo h = told _ refl refl h
    main_left w todo h = go todo [] h

    coroutine_left : (w : Option UnwindReason) (todo : List Todo) → Holding todo → StandingStep going (raising.coroutine_left w todo s)
    coroutine_left (Some (reason.ReturnTo n)) todo h = told _ refl refl h
    coroutine_left (Some reason.Destroyed) todo h = moved _ todo _ h (kept.taken_down_rests going (at todo [] s) (go todo [] h))
    coroutine_left w todo h = moved _ todo _ h (kept.escape_rests going (at todo [] s) (go todo [] h))

    found_behind : (x : CleanUp) (todo : List Todo) → CleansStill going x todo s → ToFind x (piece.Unwind ∷ todo)
    found_behind (src.DestroysAll k e) todo n = n
    found_behind x todo n = tt

    -- the sweeping goes on as it is unwound
    still_unwound : (todo : List Todo) (A : Type 0) → Unless (is_filling todo) A → Unless (is_filling (piece.Unwind ∷ todo)) A
    still_unwound (piece.Unwind ∷ todo) A h = h
    still_unwound todo A h = unless_any (is_filling (piece.Unwind ∷ todo)) A h

    unwind_past : (p : Todo) (todo : List Todo) → FindsStandingAt going (piece.Unwind ∷ (p ∷ todo)) s → Holding (p ∷ todo) → StandingStep going (raising.unwind_past (piece.sort p) todo s)
    unwind_past piece.InWhole todo n h = whole _ todo h
    unwind_past (piece.Clean x) todo n h = scope x _ todo (found_behind x todo n) h
    unwind_past (piece.FillNow m b d) todo n h = go _ _ (subst (λ x. Unless x (AllStill going s.env.exec (frame_at s.run.frame s.env.frames) s.run.frame s.run.elements (array_of d))) (sym n) tt, h)
    unwind_past (piece.Sweep e) todo n h = go _ _ (still_unwound todo _ h.0, h.1)
    unwind_past (piece.Part x) todo n h = go_first _ _ (cleans s.env.exec _ s.run.frame s.run.elements x (piece.Unwind ∷ todo) (found_behind x todo n) h)
    unwind_past (piece.Guard hs) todo n h = guarded hs s.run.raised todo h
    unwind_past piece.Finish todo n h = main_left s.run.raised todo h
    unwind_past piece.FinishCoroutine todo n h = coroutine_left s.run.raised todo h
    unwind_past (piece.CountNow m) todo n h = absurd h
    unwind_past p todo n h = go _ _ h

    pub unwinds : (todo : List Todo) → FindsStandingAt going (piece.Unwind ∷ todo) s → Holding todo → StandingStep going (raising.unwind_step todo s)
    unwinds [] n h = leaves s.callers st.frames st.stack.2
    unwinds (p ∷ ps) n h = unwind_past p ps n h

    pub exits : (w : Way) (todo : List Todo) → FindsStandingAt going (piece.Exit w ∷ todo) s → Holding todo → StandingStep going (quiet.exit_step w todo s)
    exits w [] n h = end_step w
    exits w (piece.CountNow m ∷ ps) n h = absurd h
    exits w (piece.Sweep e ∷ ps) n h = go _ _ (left_behind s.env.exec _ s.run.frame s.run.elements w (piece.sort (piece.Sweep e)) ps h.1)
    exits w (p ∷ ps) n h = go _ _ (left_behind s.env.exec _ s.run.frame s.run.elements w (piece.sort p) ps h)

    -- printing

    pub prints : (x : Option (List Piece)) (p : Piece) (todo : List Todo) (vs : List Value) → Holding todo → StandingStep going (piece.print_step x p todo vs s)
    prints None p todo vs h = go _ _ h
    prints (Some ps) p todo vs h = go_in _ _ _ (same refl refl refl refl refl) h

    pub flushes : (x : Option (List Piece)) (todo : List Todo) (vs : List Value) → Holding todo → StandingStep going (piece.flush_step x todo vs s)
    flushes None todo vs h = go _ _ h
    flushes (Some []) todo vs h = go_in _ _ _ (same refl refl refl refl refl) h
    flushes (Some (p ∷ ps)) todo vs h = go_in _ _ _ (same refl refl refl refl refl) h

-- A quiet step of a task of which all executions stay behind one another in their frames leads to one.
use Rattle.std.proofs.Common.{◌≡◌, ◌≤◌, ◌+◌, ◌-◌, ℕ, zero, suc, inr, ◌++◌, Bool, true, false, ◌&&◌, List, [], ◌∷◌, length, drop, Option, Some, None, refl, arith, ap, ◌∙◌, subst, sym}
use Rattle.std.specs.Prelude.{nat_eq, nat_lt, map, replicate}
use Rattle.uc_tree.specs.declared.limits.TheConstants.{CALLS, PENDING_EVENTS}
use Rattle.uc_tree.specs.Source as src
use Rattle.uc_tree.specs.Source.{Shape, Expr, ObjectExpr, Stmt, Stmts, EventStmt, TaskStmt, Routine, Purpose, Order, Way, CleanUp, Handlers, Clauses, Raised, Item, Declared}
use Rattle.uc_entry.specs.declared.request.Piece.{Piece}
use Rattle.uc_entry.specs.Keyed.{find, signed_64}
use Rattle.uc_machine.specs.declared.exec.Exec.{Exec}
use Rattle.uc_machine.specs.declared.exec.Pending.{Pending}
use Rattle.uc_machine.specs.declared.exec.UnwindReason.{UnwindReason}
use Rattle.uc_machine.specs.declared.exec.UnwindReason.TheVariants as reason
use Rattle.uc_machine.specs.declared.exec.Visited.{Visited}
use Rattle.uc_machine.specs.Executions.{others, take_operands, first_or}
use Rattle.uc_machine.specs.Switches as sw
use Rattle.uc_machine.specs.Switches.{Moved, To, Stops}
use Rattle.uc_machine.specs.Insides as inside
use Rattle.uc_machine.specs.Raising as raising
use Rattle.uc_machine.specs.Raising.{Event, Handler, Found, Hit}
use Rattle.uc_machine.specs.Monitors as monitors
use Rattle.uc_machine.specs.Polls as polls
use Rattle.uc_machine.specs.Quiet as quiet
use Rattle.uc_machine.specs.Pieces as piece
use Rattle.uc_machine.specs.Pieces.{Value, Number, Place, Running, Object, Nothing, Todo, Sort, Active, State, Env, Members, Step, Goes, Ticks, Asks, Outcome, Gives, Faults, at, in_env, goes, fault, asks, turns, top, below, number, nought, is_zero, written}
use Rattle.uc_site_laws.proofs.Kept.{either}
use Rattle.uc_state_laws.specs.Ordinary.{Ordinary, OrdinaryMaybe, OrdinaryItem, Evaluated}
use Rattle.uc_state_laws.specs.Rooms.{Room, IsRoom, IsWithin, Holds, OwnPart, RaisedIn, StmtIn, StmtsIn, HandlersIn, ClausesIn, RoutineIn, MaybeRoutineIn}
use Rattle.uc_state_laws.specs.RoomStates.{PieceIn, Reached}
use Rattle.uc_state_laws.specs.RoomStacks.{TodoTo, SomeTo, UpTo, Stack, StackEx, StackEnv, StackState, StackStep}
use Rattle.uc_state_laws.proofs.RoomLemmas.{new_ordinary, ordinary_evaluated, given_evaluated, within_both, single_evaluated, counted_evaluated, own_evaluated, all_own_evaluated, stmts_wider}
use Rattle.uc_state_laws.proofs.Stacks.{as_many, stacked_by, stack_older, stack_same, stack_call, stack_handler, next_by}
use Rattle.uc_state_laws.proofs.ScopeKeeping as kept

-- a frame less
others_length : {X : Type 0} (xs : List X) (n : ℕ) → length xs ≡ suc (suc n) → length (others xs) ≡ suc n
others_length [] n h = absurd (cc)
others_length (x ∷ xs) n h = omega (arith, h)

-- a frame has at least the cells of its routine

operands_taken : (n : ℕ) (xs ys : List Value) → length (take_operands Nothing n xs ys) ≡ n + length ys
operands_taken zero xs ys = let h : length ys ≡ 0 + length ys = omega arith in h
operands_taken (suc n) xs ys =
    let h = operands_taken n (others xs) (first_or Nothing xs ∷ ys) in
    omega (arith, h)

pub replicated : (n : ℕ) (v : Value) → length (replicate n v) ≡ n
replicated zero v = refl
replicated (suc n) v = ap suc (replicated n v)

call_cells : (r : Routine) (vs : List Value) → r.cells ≤ length (quiet.call_frame r vs)
call_cells r vs =
    let h = operands_taken r.params vs (replicate (r.cells - r.params) nought) in
    let k = replicated (r.cells - r.params) nought in
    omega (arith, h, k)

-- where the newest activation is told in another way, the search is the same
found_same : (o : Option Hit) (a b : Active) (cs : List Active) (other : Option Found) → a.handles ≡ b.handles → a.this ≡ b.this → a.frame ≡ b.frame → raising.found_or o a cs other ≡ raising.found_or o b cs other
found_same None a b cs other e f g = refl
found_same (Some y) a b cs other e f g =
    ap (λ v. Some (record { handler = y.handler; visited = record { level = length cs; rest = y.rest; home = raising.home_of v (length cs) }; this = a.this; frame = a.frame })) e
    ∙ (ap (λ v. Some (record { handler = y.handler; visited = record { level = length cs; rest = y.rest; home = raising.home_of b.handles (length cs) }; this = v; frame = a.frame })) f
    ∙ ap (λ v. Some (record { handler = y.handler; visited = record { level = length cs; rest = y.rest; home = raising.home_of b.handles (length cs) }; this = b.this; frame = v })) g)

module _ (Sized : ℕ → ℕ → Type 0) where
  abbrev pub Moves : Moved (List Todo) Value → Type 0
  Moves m = kept.StackMoved Sized m

  module _ (End : Room → Type 0) where
    behind : (o : Room) (p : Purpose) (line : ℕ) → IsRoom o → End o → TodoTo Sized End o (quiet.behind_body p line)
    behind o src.TaskMain line h e = (tt, (h, e))
    behind o src.CoroutineMain line h e = (tt, (h, e))
    behind o src.Procedure line h e = (tt, (h, e))
    behind o src.Function line h e = (tt, (tt, (h, e)))
    behind o src.Builder line h e = (h, e)

    pub routine : (r : Routine) (h : RoutineIn Sized r) → End h.room → SomeTo Sized End (quiet.routine_todo r)
    routine r h e = (h.room, (h.body, behind h.room r.purpose r.line h.sound e))

    -- to-do lists

    pub eva : (o : Room) (e : Expr) → Ordinary e → Evaluated o.low e
    eva o e h = ordinary_evaluated o.low e h

    pub starts : (o : Room) (cell : ℕ) (v : Option Expr) (todo : List Todo) → OrdinaryMaybe v → TodoTo Sized End o todo → TodoTo Sized End o (quiet.starting cell v todo)
    starts o cell None todo n h = h
    starts o cell (Some e) todo n h = (tt, (eva o e n, (tt, h)))

    pub converts : (o : Room) (k : Shape) (todo : List Todo) → TodoTo Sized End o todo → TodoTo Sized End o (quiet.converting k todo)
    converts o src.Character todo h = (tt, h)
    converts o src.Truth todo h = (tt, h)
    converts o k todo h = h

    pub stepped : (o : Room) (e : Option Expr) (todo : List Todo) → OrdinaryMaybe e → TodoTo Sized End o todo → TodoTo Sized End o (quiet.step_todo e todo)
    stepped o None todo n h = h
    stepped o (Some e) todo n h = (eva o e n, (tt, h))

    abbrev pub LoopIn : Room → Expr → Option Expr → Stmt → Type 0
    LoopIn o t e b = Ordinary t × OrdinaryMaybe e × StmtIn Sized o b

    pub tested : (o : Room) (order : Order) (t : Expr) (e : Option Expr) (b : Stmt) (todo : List Todo) → LoopIn o t e b → TodoTo Sized End o todo → TodoTo Sized End o (quiet.test_todo order t e b todo)
    tested o src.TestFirst t e b todo n h = (eva o t n.0, (n, h))
    tested o src.BodyFirst t e b todo n h = (eva o t n.0, (n, h))
    tested o src.NoTest t e b todo n h = (n, h)

    pub looped : (o : Room) (order : Order) (t : Expr) (e : Option Expr) (b : Stmt) (todo : List Todo) → LoopIn o t e b → TodoTo Sized End o todo → TodoTo Sized End o (quiet.loop_todo order t e b todo)
    looped o src.TestFirst t e b todo n h = (eva o t n.0, (n, h))
    looped o src.BodyFirst t e b todo n h = (n, h)
    looped o src.NoTest t e b todo n h = (n, h)

    pub loop_left : (w : Way) (o : Room) (order : Order) (t : Expr) (e : Option Expr) (b : Stmt) (todo : List Todo) → LoopIn o t e b → TodoTo Sized End o todo → TodoTo Sized End o (quiet.loop_left w order t e b todo)
    loop_left src.ToBreak o order t e b todo n h = h
    loop_left src.ToContinue o order t e b todo n h = (n, h)
    loop_left src.ToReturn o order t e b todo n h = (tt, h)
    loop_left src.ToEnd o order t e b todo n h = (tt, h)

    pub left_behind : (w : Way) (k : Sort) (x : Type 0) (o : Room) (todo : List Todo) → Reached Sized o k x (λ m. TodoTo Sized End m todo) → SomeTo Sized End (quiet.left_behind w k todo)
    left_behind w piece.Simple x o todo h = (o, (tt, h.1))
    left_behind w (piece.IsLoop order t e b) x o todo h = (o, loop_left w o order t e b todo h.0 h.1)
    left_behind w piece.IsWhole x o todo h = (o, h)
    left_behind w (piece.IsClean c) x o todo h = (o, (h.0, h.1, h.2, (tt, h.3)))
    left_behind w (piece.IsFill m b d) x o todo h = (o, (tt, h.1))
    left_behind w (piece.IsSweep e) x o todo h = (o, (tt, h.1))
    left_behind w (piece.IsPart c) x o todo h = (o, (tt, h.1))
    left_behind w (piece.IsGuard hs) x o todo h = (h.0, (tt, h.6))
    left_behind w piece.IsFinish x o todo h = (o, h)
    left_behind w piece.IsFinishCoroutine x o todo h = (o, h)

    pub filled : (o : Room) (b : Bool) (n : ℕ) (e d : Expr) (todo : List Todo) → Evaluated o.low e × Evaluated o.low d → TodoTo Sized End o todo → TodoTo Sized End o (quiet.fill_todo b n e d todo)
    filled o false n e d todo k h = h
    filled o true n e d todo k h = (k.0, (tt, (tt, (k, h))))

    pub raised : (o : Room) (r : Raised) (todo : List Todo) → RaisedIn Sized o r → TodoTo Sized End o todo → TodoTo Sized End o (raising.raised_todo r todo)
    raised o (src.Plainly n) todo k h = (tt, (tt, (tt, h)))
    raised o (src.BuiltAt n c e) todo k h = (inr (k.0, k.1), (eva o e k.2, (tt, (tt, (tt, (tt, h))))))
    raised o (src.AgainFrom c) todo k h = (tt, (tt, (tt, h)))

    pub raise_at_step : (o : Room) (r : Raised) (a : Expr) (line : ℕ) (todo : List Todo) → RaisedIn Sized o r → Ordinary a → TodoTo Sized End o todo → TodoTo Sized End o (raising.raised_todo r (piece.Eval a ∷ (piece.RaiseAtNow ∷ (piece.Within line ∷ todo))))
    raise_at_step o r a line todo n k h = raised o r _ n (eva o a k, (tt, (tt, h)))

    pub handled : (o : Room) (x : Handler) (todo : List Todo) → StmtsIn Sized o x.body → TodoTo Sized End o todo → TodoTo Sized End o (raising.handler_todo x todo)
    handled o x todo k h = (tt, (tt, (tt, (tt, (tt, (tt, (k, (tt, h))))))))

    pub cleans : (m o : Room) (c : CleanUp) (todo : List Todo) → Holds Sized m o c → TodoTo Sized End m todo → TodoTo Sized End m (piece.clean_todo c todo)
    cleans m o (src.Destroys e) todo n h = (single_evaluated Sized m.low o.low m.low e n.0, (tt, h))
    cleans m o (src.DestroysAll k e) todo n h = (tt, (counted_evaluated Sized m.low o.low k m.low e n.0, h))
    cleans m o src.Unwinds todo n h = (tt, h)
    cleans m o src.Forgets todo n h = (tt, h)
    cleans m o src.Leaves todo n h = (tt, h)
    cleans m o src.Ends todo n h = (tt, h)
    cleans m o (src.Frees None) todo n h = (tt, h)
    cleans m o (src.Frees (Some r)) todo n h = (tt, h)
    cleans m o (src.Restores k) todo n h = (tt, h)

    pub parts : (o : Room) (c : CleanUp) (todo : List Todo) → OwnPart Sized c → TodoTo Sized End o todo → TodoTo Sized End o (piece.clean_todo c todo)
    parts o (src.Destroys e) todo n h = (own_evaluated Sized o.low e n, (tt, h))
    parts o (src.DestroysAll k e) todo n h = (tt, (all_own_evaluated Sized k o.low e n, h))
    parts o src.Unwinds todo n h = (tt, h)
    parts o src.Forgets todo n h = (tt, h)
    parts o src.Leaves todo n h = (tt, h)
    parts o src.Ends todo n h = (tt, h)
    parts o (src.Frees None) todo n h = (tt, h)
    parts o (src.Frees (Some r)) todo n h = (tt, h)
    parts o (src.Restores k) todo n h = (tt, h)

    pub left_cleans : (m o : Room) (c : CleanUp) (todo : List Todo) → Holds Sized m o c → TodoTo Sized End m todo → TodoTo Sized End m (raising.left_todo c todo)
    left_cleans m o (src.Frees r) todo n h = (tt, h)
    left_cleans m o c todo n h = cleans m o c todo n h

    pub branch : (o : Room) (k : ℕ) (cs : Clauses) (todo : List Todo) → ClausesIn Sized o cs → TodoTo Sized End o todo → TodoTo Sized End o (monitors.branch_todo k cs todo)
    branch o k src.NoClauses todo n h = h
    branch o k (src.Otherwise b) todo n h = either (TodoTo Sized End o) (nat_eq k 0) (piece.Do b ∷ todo) todo (n, h) h
    branch o zero (src.MoreClauses guard b cs) todo n h = branch o zero cs todo n.2 h
    branch o (suc zero) (src.MoreClauses guard b cs) todo n h = (n.1, h)
    branch o (suc (suc k)) (src.MoreClauses guard b cs) todo n h = branch o (suc k) cs todo n.2 h

    pub item : (o : Room) (i : Item) (todo : List Todo) → OrdinaryItem i → TodoTo Sized End o todo → TodoTo Sized End o (quiet.item_todo i todo)
    item o (src.Show f e) todo n h = (eva o e n, (tt, h))
    item o (src.ShowText k) todo n h = (tt, h)

    pub item_value : (o : Room) (i : Item) (todo : List Todo) → OrdinaryItem i → TodoTo Sized End o todo → TodoTo Sized End o (quiet.item_value i todo)
    item_value o (src.Show f e) todo n h = (eva o e n, h)
    item_value o (src.ShowText k) todo n h = h

    pub item_piece : (o : Room) (i : Item) (todo : List Todo) → TodoTo Sized End o todo → TodoTo Sized End o (quiet.item_piece i ∷ todo)
    item_piece o (src.Show f e) todo h = (tt, h)
    item_piece o (src.ShowText k) todo h = (tt, h)

    pub polled : (o : Room) (w : Option UnwindReason) (todo : List Todo) → TodoTo Sized End o todo → TodoTo Sized End o (monitors.leave_todo w todo)
    polled o None todo h = (tt, h)
    polled o (Some why) todo h = h

  -- one handler of some, within their room
  abbrev HandlerIn : Room → Option Handler → Type 0
  HandlerIn o None = Unit {0}
  HandlerIn o (Some x) = (m : Room) × IsWithin o m × StmtsIn Sized m x.body

  handler_in : (o : Room) (kind : Bool) (e : Event) (hs : Handlers) → HandlersIn Sized o hs → HandlerIn o (raising.handler_for kind e hs)
  handler_in o kind e src.NoHandlers h = tt
  handler_in o kind e (src.MoreHandlers resumes event cell line body rest) h =
      either (HandlerIn o) (raising.same_kind kind resumes && raising.takes event e) (Some (record { cell = cell; line = line; body = body })) (raising.handler_for kind e rest) (h.0, h.1, h.4) (handler_in o kind e rest h.5)

  module _ (s : State) (st : StackState Sized s) where
    -- whatever the outermost room ends with, this keeps to rooms that end so
    abbrev pub Keeps : List Todo → Type 1
    Keeps todo = (End : Room → Type 0) → SomeTo Sized End s.run.control → SomeTo Sized End todo

    -- the running activation, with something else to do
    pub put : (b : Active) → b.frame ≡ s.run.frame → b.handles ≡ s.run.handles → Keeps b.control → Stack Sized s.env.frames (b ∷ s.callers)
    put b e f k = (stacked_by Sized s.env.frames s.run b s.callers e f k st.stack.0, st.stack.1)

    pub go : (todo : List Todo) (vs : List Value) → Keeps todo → StackState Sized (at todo vs s)
    go todo vs k = record { frames = st.frames; stack = put (record s.run { control = todo; operands = vs }) refl refl k; env = st.env }

    -- and with something written
    pub go_in : (todo : List Todo) (vs : List Value) (e : Env) → map length e.frames ≡ map length s.env.frames → Keeps todo → StackEnv Sized e → StackState Sized (at todo vs (in_env e s))
    go_in todo vs e l k i =
        let b : Active = record s.run { control = todo; operands = vs } in
        record { frames = as_many e.frames s.env.frames l ∙ st.frames; stack = stack_same Sized s.env.frames e.frames (b ∷ s.callers) l (put b refl refl k); env = i }

    -- nothing else that is kept changes
    pub likes : {e f : Env} → StackEnv Sized e → f.hand ≡ e.hand → f.house ≡ e.house → StackEnv Sized f
    likes h g i = kept.like Sized h g i

    -- one more piece before it
    before : (p : Todo) (todo : List Todo) → ((End : Room → Type 0) (o : Room) → TodoTo Sized End o todo → TodoTo Sized End o (p ∷ todo)) → Keeps todo → Keeps (p ∷ todo)
    before p todo f k = λ end c. let t = k end c in (t.0, f end t.0 t.1)

    pub unwinding : (todo : List Todo) → Keeps todo → Keeps (piece.Unwind ∷ todo)
    unwinding todo k = before piece.Unwind todo (λ end o h. (tt, h)) k

    -- the end of an activation

    -- those that wait, with a frame less
    less : (a : Active) (cs : List Active) → length s.env.frames ≡ suc (length (a ∷ cs)) → Stack Sized s.env.frames (a ∷ cs) → Stack Sized (others s.env.frames) (a ∷ cs)
    less a cs l h =
        let n : length (others s.env.frames) ≡ suc (length cs) = others_length s.env.frames (length cs) l in
        stack_older Sized s.env.frames (a ∷ cs) (omega (arith, n)) h

    pub returned : (given : Value) (cs : List Active) → length s.env.frames ≡ suc (length cs) → Stack Sized s.env.frames cs → StackStep Sized (piece.return_step given cs s)
    returned given [] l h = st
    returned given (a ∷ cs) l h =
        let k = less a cs l h in
        record { frames = others_length s.env.frames (length cs) l; stack = (stacked_by Sized (others s.env.frames) a (record a { operands = given ∷ a.operands }) cs refl refl (λ end t. t) k.0, k.1); env = likes st.env refl refl }

    -- unwinding begins in one that waits
    waits : (a b : Active) (cs : List Active) → b.control ≡ piece.Unwind ∷ a.control → b.frame ≡ a.frame → b.handles ≡ a.handles → length s.env.frames ≡ suc (length (a ∷ cs)) → Stack Sized s.env.frames (a ∷ cs) → Stack Sized (others s.env.frames) (b ∷ cs)
    waits a b cs e f g l h =
        let k = less a cs l h in
        (stacked_by Sized (others s.env.frames) a b cs f g (λ end t. subst (SomeTo Sized end) (sym e) (t.0, (tt, t.1))) k.0, k.1)

    past : (v : Visited) (given : Value) (cs : List Active) → length s.env.frames ≡ suc (length cs) → Stack Sized s.env.frames cs → StackStep Sized (raising.return_past v given cs s)
    past v given [] l h = st
    past v given (a ∷ cs) l h =
        record { frames = others_length s.env.frames (length cs) l; stack = waits a _ cs refl refl refl l h; env = likes st.env refl refl }

    end_by : (v : Option Visited) (given : Value) → StackStep Sized (raising.end_by v given s)
    end_by None given = returned given s.callers st.frames st.stack.1
    end_by (Some v) given = past v given s.callers st.frames st.stack.1

    end_step : (w : Way) → StackStep Sized (quiet.end_step w s)
    end_step src.ToReturn = end_by s.run.handles _
    end_step src.ToEnd = end_by s.run.handles _
    end_step src.ToBreak = returned _ s.callers st.frames st.stack.1
    end_step src.ToContinue = returned _ s.callers st.frames st.stack.1

    pass_on : (w : Option UnwindReason) (c : Active) (cs : List Active) → length s.env.frames ≡ suc (length (c ∷ cs)) → Stack Sized s.env.frames (c ∷ cs) → StackStep Sized (raising.pass_on w c cs s)
    pass_on None c cs l h = st
    pass_on (Some why) c cs l h =
        record { frames = others_length s.env.frames (length cs) l; stack = waits c _ cs refl refl refl l h; env = likes st.env refl refl }

    leave_for : (b : Bool) (c : Active) (cs : List Active) → length s.env.frames ≡ suc (length (c ∷ cs)) → Stack Sized s.env.frames (c ∷ cs) → StackStep Sized (raising.leave_for b c cs s)
    leave_for true c cs l h = st
    leave_for false c cs l h = pass_on s.run.raised c cs l h

    leaves : (cs : List Active) → length s.env.frames ≡ suc (length cs) → Stack Sized s.env.frames cs → StackStep Sized (raising.leave_step cs s)
    leaves [] l h = st
    leaves (c ∷ cs) l h =
        either (StackStep Sized) (raising.arrives s.run.raised (length (c ∷ cs))) _ _ (returned s.run.result (c ∷ cs) l h) (leave_for _ c cs l h)

    pub moved : (m : Moved (List Todo) Value) (todo : List Todo) (vs : List Value) → Keeps todo → Moves m → StackStep Sized (piece.moves m (at todo vs s))
    moved (To t) todo vs k m = m
    moved (Stops f) todo vs k m = go todo vs k

    pub outcome : (x : Outcome) (todo : List Todo) (vs : List Value) → Keeps todo → StackStep Sized (piece.outcome_step x todo vs s)
    outcome (Gives n) todo vs k = go todo _ k
    outcome (Faults f) todo vs k = go todo _ k

    pub element : (n : Shape) (i : Option ℕ) (todo : List Todo) (v : Value) (vs : List Value) → Keeps todo → StackStep Sized (piece.element_step n i todo v vs s)
    element n None todo v vs k = go todo _ k
    element n (Some i) todo v vs k = go todo _ k

    -- expressions

    object : (x : ObjectExpr) (todo : List Todo) → Keeps (piece.Eval (src.OfObject x) ∷ todo) → StackStep Sized (quiet.object_step x todo s)
    object src.This todo keeps = go _ _ (λ end c. let now = keeps end c in (now.0, now.1.1))
    object (src.OwnField k i) todo keeps = go _ _ (λ end c. let now = keeps end c in (now.0, now.1.1))
    object (src.GetOwn k i) todo keeps = go _ _ (λ end c. let now = keeps end c in (now.0, now.1.1))
    object (src.FieldOf k i a) todo keeps = go _ _ (λ end c. let now = keeps end c in (now.0, (eva end now.0 a now.1.0, (tt, now.1.1))))
    object src.Counted todo keeps = go _ _ (λ end c. let now = keeps end c in (now.0, now.1.1))
    object (src.CallOn r a args) todo keeps = go _ _ (λ end c. let now = keeps end c in (now.0, (eva end now.0 a now.1.0.0, (now.1.0.1, (tt, (tt, now.1.1))))))
    object (src.CallLive r a args) todo keeps = go _ _ (λ end c. let now = keeps end c in (now.0, (eva end now.0 a now.1.0.0, (now.1.0.1, (tt, (tt, (tt, now.1.1)))))))
    object (src.CallUnwritten r a) todo keeps = go _ _ (λ end c. let now = keeps end c in (now.0, (eva end now.0 a now.1.0, (tt, now.1.1))))
    object (src.EnterOn m r a args) todo keeps = go _ _ (λ end c. let now = keeps end c in (now.0, (eva end now.0 a now.1.0.0, (now.1.0.1, (tt, (tt, (tt, now.1.1)))))))
    object (src.EndOn r false a) todo keeps = go _ _ (λ end c. let now = keeps end c in (now.0, (eva end now.0 a now.1.0, (tt, (tt, now.1.1)))))
    object (src.EndOn r true a) todo keeps = go _ _ (λ end c. let now = keeps end c in (now.0, (eva end now.0 a now.1.0, (tt, (tt, (tt, now.1.1))))))
    object (src.Bind a b) todo keeps = go _ _ (λ end c. let now = keeps end c in (now.0, (eva end now.0 a (new_ordinary now.0.low a now.1.0.0), (given_evaluated now.0.low a b now.1.0.1, (tt, now.1.1)))))
    object (src.MakeOn c r false a args) todo keeps = go _ _ (λ end c. let now = keeps end c in (now.0, (eva end now.0 a (new_ordinary now.0.low a now.1.0.0), (now.1.0.1, (tt, (tt, now.1.1))))))
    object (src.MakeOn c r true a args) todo keeps = go _ _ (λ end c. let now = keeps end c in (now.0, (eva end now.0 a (new_ordinary now.0.low a now.1.0.0), (now.1.0.1, (tt, (tt, (tt, now.1.1)))))))
    object src.NewCluster todo keeps = go _ _ (λ end c. let now = keeps end c in (now.0, (tt, now.1.1)))
    object (src.NewProcessor a) todo keeps = go _ _ (λ end c. let now = keeps end c in (now.0, (eva end now.0 a now.1.0, (tt, now.1.1))))
    object (src.EndCluster a) todo keeps = go _ _ (λ end c. let now = keeps end c in (now.0, (eva end now.0 a now.1.0, (tt, now.1.1))))
    object (src.EndProcessor a) todo keeps = go _ _ (λ end c. let now = keeps end c in (now.0, (eva end now.0 a now.1.0, (tt, now.1.1))))
    object (src.ConditionAt k m a) todo keeps = go _ _ (λ end c. let now = keeps end c in (now.0, (eva end now.0 a now.1.0, (tt, now.1.1))))
    object (src.Wait a b) todo keeps = go _ _ (λ end c. let now = keeps end c in (now.0, (eva end now.0 a now.1.0.0, (eva end now.0 b now.1.0.1, (tt, (tt, now.1.1))))))
    object (src.Signal a) todo keeps = go _ _ (λ end c. let now = keeps end c in (now.0, (eva end now.0 a now.1.0, (tt, now.1.1))))
    object (src.SignalBlock a) todo keeps = go _ _ (λ end c. let now = keeps end c in (now.0, (eva end now.0 a now.1.0, (tt, now.1.1))))
    object (src.IsEmpty a) todo keeps = go _ _ (λ end c. let now = keeps end c in (now.0, (eva end now.0 a now.1.0, (tt, now.1.1))))
    object (src.FrontOf a) todo keeps = go _ _ (λ end c. let now = keeps end c in (now.0, (eva end now.0 a now.1.0, (tt, now.1.1))))

    pub eval : (a : Expr) (todo : List Todo) → Keeps (piece.Eval a ∷ todo) → StackStep Sized (quiet.eval_step a todo s)
    eval (src.Literal k) todo keeps = go _ _ (λ end c. let now = keeps end c in (now.0, now.1.1))
    eval (src.Variable k) todo keeps = go _ _ (λ end c. let now = keeps end c in (now.0, now.1.1))
    eval (src.Element m k a i) todo keeps = go _ _ (λ end c. let now = keeps end c in (now.0, (eva end now.0 a now.1.0.0, (eva end now.0 i now.1.0.1, (tt, now.1.1)))))
    eval (src.Get k) todo keeps = go _ _ (λ end c. let now = keeps end c in (now.0, now.1.1))
    eval (src.Load a) todo keeps = go _ _ (λ end c. let now = keeps end c in (now.0, (eva end now.0 a now.1.0, (tt, now.1.1))))
    eval (src.Negated a) todo keeps = go _ _ (λ end c. let now = keeps end c in (now.0, (eva end now.0 a now.1.0, (tt, now.1.1))))
    eval (src.Not a) todo keeps = go _ _ (λ end c. let now = keeps end c in (now.0, (eva end now.0 a now.1.0, (tt, now.1.1))))
    eval (src.AsCharacter a) todo keeps = go _ _ (λ end c. let now = keeps end c in (now.0, (eva end now.0 a now.1.0, (tt, now.1.1))))
    eval (src.AsTruth a) todo keeps = go _ _ (λ end c. let now = keeps end c in (now.0, (eva end now.0 a now.1.0, (tt, now.1.1))))
    eval (src.Operate op a b) todo keeps = go _ _ (λ end c. let now = keeps end c in (now.0, (eva end now.0 a now.1.0.0, (eva end now.0 b now.1.0.1, (tt, now.1.1)))))
    eval (src.And a b) todo keeps = go _ _ (λ end c. let now = keeps end c in (now.0, (eva end now.0 a now.1.0.0, ((now.1.0.1, tt), now.1.1))))
    eval (src.Or a b) todo keeps = go _ _ (λ end c. let now = keeps end c in (now.0, (eva end now.0 a now.1.0.0, ((tt, now.1.0.1), now.1.1))))
    eval (src.Set k a) todo keeps = go _ _ (λ end c. let now = keeps end c in (now.0, (eva end now.0 a now.1.0, (tt, now.1.1))))
    eval (src.Assign p a) todo keeps = go _ _ (λ end c. let now = keeps end c in (now.0, (eva end now.0 p now.1.0.0, (eva end now.0 a now.1.0.1, (tt, now.1.1)))))
    eval (src.First a b) todo keeps = go _ _ (λ end c. let now = keeps end c in (now.0, (eva end now.0 a now.1.0.0, (eva end now.0 b now.1.0.1, (tt, now.1.1)))))
    eval (src.Update op k p a) todo keeps = go _ _ (λ end c. let now = keeps end c in (now.0, (eva end now.0 p now.1.0.0, (tt, (tt, (eva end now.0 a now.1.0.1, (tt, converts end now.0 k _ (tt, now.1.1))))))))
    eval (src.StepBehind op k p) todo keeps = go _ _ (λ end c. let now = keeps end c in (now.0, (eva end now.0 p now.1.0, (tt, (tt, (tt, (tt, (tt, (tt, converts end now.0 k _ (tt, (tt, now.1.1)))))))))))
    eval src.Fail todo keeps = go _ _ (λ end c. let now = keeps end c in (now.0, now.1.1))
    eval (src.Call r args) todo keeps = go _ _ (λ end c. let now = keeps end c in (now.0, (now.1.0, (tt, (tt, now.1.1)))))
    eval (src.OfObject x) todo keeps = object x todo keeps

    -- statements

    pub swept : (n : ℕ) (e : Expr) (todo : List Todo) → Keeps (piece.Sweep e ∷ todo) → StackStep Sized (quiet.sweep_step n e todo s)
    swept zero e todo k = go _ _ (λ end c. let t = k end c in (t.0, t.1.1))
    swept (suc m) e todo k =
        record { frames = st.frames; stack = put (record s.run { elements = m; control = piece.Eval e ∷ (piece.DropNow ∷ (piece.Sweep e ∷ todo)) }) refl refl (λ end c. let t = k end c in (t.0, (t.1.0, (tt, (t.1.0, t.1.1))))); env = st.env }

    event_step : (a : EventStmt) (todo : List Todo) → Keeps (piece.Do (src.OfEvents a) ∷ todo) → StackStep Sized (quiet.event_step a todo s)
    event_step (src.Throw line r) todo keeps = go _ _ (λ end c. let now = keeps end c in (now.0, (raised end now.0 r _ now.1.0 (tt, (tt, now.1.1)))))
    event_step (src.Raise line r) todo keeps = go _ _ (λ end c. let now = keeps end c in (now.0, (raised end now.0 r _ now.1.0 (tt, (tt, now.1.1)))))
    event_step (src.Try line body hs) todo keeps = go _ _ (λ end c. let now = keeps end c in (now.1.0.0, (now.1.0.5, (now.0, now.1.0.1, now.1.0.2, now.1.0.3, now.1.0.4, now.1.0.6, (tt, now.1.1)))))
    event_step (src.RaiseAt line r a) todo keeps = go _ _ (λ end c. let now = keeps end c in (now.0, (raise_at_step end now.0 r a line todo now.1.0.0 now.1.0.1 now.1.1)))
    event_step (src.Enable line events cell a) todo keeps = go _ _ (λ end c. let now = keeps end c in (now.1.0.0, (tt, (tt, (now.1.0.3, (now.0, now.1.0.1, (tt, now.1.0.2), (tt, now.1.1)))))))
    event_step (src.Disable line events cell a) todo keeps = go _ _ (λ end c. let now = keeps end c in (now.1.0.0, (tt, (now.1.0.3, (now.0, now.1.0.1, (tt, now.1.0.2), (tt, now.1.1))))))

    task_step : (a : TaskStmt) (todo : List Todo) → Keeps (piece.Do (src.OfTasks a) ∷ todo) → StackStep Sized (quiet.task_step a todo s)
    task_step (src.Resume line) todo keeps = go _ _ (λ end c. let now = keeps end c in (now.0, (tt, (tt, (tt, now.1.1)))))
    task_step (src.Suspend line) todo keeps = go _ _ (λ end c. let now = keeps end c in (now.0, (tt, (tt, (tt, now.1.1)))))
    task_step (src.SetUp r) todo keeps = go _ _ (λ end c. let now = keeps end c in (now.0, (tt, now.1.1)))
    task_step src.Enliven todo keeps = go _ _ (λ end c. let now = keeps end c in (now.0, (tt, now.1.1)))
    task_step src.TakeDown todo keeps = go _ _ (λ end c. let now = keeps end c in (now.0, (tt, now.1.1)))
    task_step (src.Yield line) todo keeps = go _ _ (λ end c. let now = keeps end c in (now.0, (tt, (tt, (tt, now.1.1)))))
    task_step (src.Migrate line a) todo keeps = go _ _ (λ end c. let now = keeps end c in (now.0, (eva end now.0 a now.1.0, (tt, (tt, now.1.1)))))
    task_step (src.Accept line site cs) todo keeps = go _ _ (λ end c. let now = keeps end c in (now.0, (now.1.0, (tt, (now.1.0, (tt, now.1.1))))))

    pub stmt : (a : Stmt) (todo : List Todo) → Keeps (piece.Do a ∷ todo) → StackStep Sized (quiet.stmt_step a todo s)
    stmt (src.Skip line) todo keeps = go _ _ (λ end c. let now = keeps end c in (now.0, now.1.1))
    stmt (src.Block line body) todo keeps = go _ _ (λ end c. let now = keeps end c in (now.0, (now.1.0.0, (tt, now.1.1))))
    stmt (src.Whole line body) todo keeps = go _ _ (λ end c. let now = keeps end c in (now.0, (now.1.0.0, (tt, now.1.1))))
    stmt (src.Evaluate line a) todo keeps = go _ _ (λ end c. let now = keeps end c in (now.0, (now.1.0, (tt, (tt, now.1.1)))))
    stmt (src.Declare line ds) todo keeps = go _ _ (λ end c. let now = keeps end c in (now.0, (now.1.0, (tt, now.1.1))))
    stmt (src.Print line items) todo keeps = go _ _ (λ end c. let now = keeps end c in (now.0, (now.1.0, (tt, now.1.1))))
    stmt (src.PrintTogether line items) todo keeps = go _ _ (λ end c. let now = keeps end c in (now.0, (now.1.0, (tt, (now.1.0, (tt, (tt, now.1.1)))))))
    stmt (src.Read line ts) todo keeps = go _ _ (λ end c. let now = keeps end c in (now.0, (now.1.0, (tt, now.1.1))))
    stmt (src.If line t a b) todo keeps = go _ _ (λ end c. let now = keeps end c in (now.0, (eva end now.0 t now.1.0.0, ((now.1.0.1, now.1.0.2), (tt, now.1.1)))))
    stmt (src.Loop line order t e b) todo keeps = go _ _ (λ end c. let now = keeps end c in (now.0, (looped end now.0 order t e b _ now.1.0 (tt, now.1.1))))
    stmt (src.Break line) todo keeps = go _ _ (λ end c. let now = keeps end c in (now.0, (tt, now.1.1)))
    stmt (src.Continue line) todo keeps = go _ _ (λ end c. let now = keeps end c in (now.0, (tt, now.1.1)))
    stmt (src.Return line None) todo keeps = go _ _ (λ end c. let now = keeps end c in (now.0, (tt, now.1.1)))
    stmt (src.Return line (Some e)) todo keeps = go _ _ (λ end c. let now = keeps end c in (now.0, (eva end now.0 e now.1.0, (tt, (tt, now.1.1)))))
    stmt (src.Owes line) todo keeps = go _ _ (λ end c. let now = keeps end c in (now.0, (tt, (tt, now.1.1))))
    stmt (src.Fill line m b d) todo keeps = go _ _ (λ end c. let now = keeps end c in (now.0, (tt, (now.1.0, (tt, now.1.1)))))
    stmt (src.OfEvents a) todo keeps = event_step a todo keeps
    stmt (src.OfTasks a) todo keeps = task_step a todo keeps

    pub rest : (ss : Stmts) (todo : List Todo) → Keeps (piece.Rest ss ∷ todo) → StackStep Sized (quiet.rest_step ss todo s)
    rest src.Nil todo keeps = go _ _ (λ end c. let now = keeps end c in (now.0, now.1.1))
    rest (src.Then a ss) todo keeps = go _ _ (λ end c. let now = keeps end c in (now.0, (now.1.0.0, (now.1.0.1, now.1.1))))
    rest (src.Scoped c ss) todo keeps = go _ _ (λ end c. let now = keeps end c in (now.1.0.0, (now.1.0.3, (now.0, now.1.0.1, now.1.0.2, now.1.1))))
    rest (src.Built c ss) todo keeps = go _ _ (λ end c. let now = keeps end c in (now.0, (now.1.0.1, (now.1.0.0, now.1.1))))

    -- calls

    begun : (r : Routine) (this : Value) (counts : Bool) (todo : List Todo) (vs : List Value) → RoutineIn Sized r → Keeps todo → StackStep Sized (quiet.begun_step r this counts todo vs s)
    begun r this counts todo vs n k =
        let a : Active = record s.run { control = todo; operands = vs } in
        let high = n.variables in
        let cells = call_cells r s.run.operands in
        record {
          frames = ap suc st.frames;
          stack = stack_call Sized (quiet.call_frame r s.run.operands) s.env.frames _ a s.callers n.room.high refl st.frames st.frames (omega (arith, high, cells)) (routine (UpTo n.room.high) r n (omega arith)) (put a refl refl k);
          env = likes st.env refl refl;
        }

    pub call : (r : Option Routine) (todo : List Todo) → MaybeRoutineIn Sized r → Keeps todo → StackStep Sized (quiet.call_step r todo s)
    call None todo n k = go _ _ k
    call (Some r) todo n k = either (StackStep Sized) (nat_lt s.env.links.calls CALLS) _ _ (begun r _ true todo _ n k) (go todo _ k)

    pub call_on : (r : Option Routine) (todo : List Todo) → MaybeRoutineIn Sized r → Keeps todo → StackStep Sized (quiet.call_on_step r todo s)
    call_on None todo n k = go _ _ k
    call_on (Some r) todo n k = either (StackStep Sized) (nat_lt s.env.links.calls CALLS) _ _ (begun r _ true todo _ n k) (go todo _ k)

    pub call_unwritten : (r : Option Routine) (todo : List Todo) → MaybeRoutineIn Sized r → Keeps todo → StackStep Sized (quiet.call_unwritten_step r todo s)
    call_unwritten None todo n k = go _ _ k
    call_unwritten (Some r) todo n k = begun r _ false todo _ n k

    -- coroutines

    fresh : (r : Routine) (this : Value) → RoutineIn Sized r → StackEx Sized (quiet.fresh r this)
    fresh r this n =
        let high = n.variables in
        let cells = replicated r.cells nought in
        record { frames = refl; stack = (record { top = n.room.high; fits = routine (UpTo n.room.high) r n (omega arith); cells = omega (arith, high, cells); frame = omega arith; beyond = tt; over = tt }, tt) }

    pub set_up : (r : Option Routine) (todo : List Todo) → MaybeRoutineIn Sized r → Keeps todo → StackStep Sized (quiet.set_up_step r todo s)
    set_up None todo n k = go _ _ k
    set_up (Some r) todo n k =
        let h = quiet.home_at s.run.this s.env in
        let x = quiet.fresh r s.run.this in
        go_in _ _ _ (kept.written_frames Sized s.run.this _ (sw.born h x s.env) ∙ ap (map length) (kept.change_frames Sized h (sw.one_more x) s.env)) k (kept.written_rests Sized s.run.this _ _ (kept.born_rests Sized h x s.env (fresh r s.run.this n) st.env))

    pub live : (r : Option Routine) (todo : List Todo) → Keeps todo → StackStep Sized (quiet.live_step r todo s)
    live None todo k = go _ _ k
    live (Some r) todo k = either (StackStep Sized) (sw.is_live (piece.exec_at (top (drop r.params s.run.operands)) s.env) s.env) _ _ (go todo _ k) (go todo _ k)

    pub land : (w : Option UnwindReason) (todo : List Todo) → Keeps todo → StackStep Sized (quiet.land_step w todo s)
    land None todo k = go _ _ k
    land (Some why) todo k = go _ _ (unwinding todo k)

    -- mutex objects

    pub unless : (q : ℕ) (step : Step) (todo : List Todo) → Keeps todo → StackStep Sized step → StackStep Sized (monitors.unless_held_up q step todo s)
    unless q step todo k h = either (StackStep Sized) (inside.is_held_up q s.env) _ step (go todo _ k) h

    enter_at : (d : Option ℕ) (q m : ℕ) (todo : List Todo) → Keeps todo → StackStep Sized (monitors.enter_at d q m todo s)
    enter_at (Some d) q m todo k = go_in _ _ _ refl k (likes st.env refl refl)
    enter_at None q m todo k = go_in _ _ _ refl k (likes st.env refl refl)

    pub enter : (m : ℕ) (r : Option Routine) (todo : List Todo) → Keeps todo → StackStep Sized (monitors.enter_step m r todo s)
    enter m None todo k = go _ _ k
    enter m (Some r) todo k =
        let q = piece.object_in (top (drop r.params s.run.operands)) in
        either (StackStep Sized) (monitors.may_call r.written s) _ _ (enter_at (find q s.env.depths) q m todo k) (go todo _ k)

    polls_behind : (w : Option UnwindReason) (todo : List Todo) → Keeps todo → Keeps (monitors.leave_todo w todo)
    polls_behind None todo k = before piece.PollNow todo (λ end o h. (tt, h)) k
    polls_behind (Some why) todo k = k

    pub leave : (b : Bool) (q : ℕ) (todo : List Todo) → Keeps todo → StackStep Sized (monitors.leave_at b q todo s)
    leave false q todo k = go_in _ _ _ refl k (likes st.env refl refl)
    leave true q todo k =
        unless q _ todo k (record { frames = st.frames; stack = put _ refl refl (polls_behind s.run.raised todo k); env = likes st.env refl refl })

    pub make : (c n : ℕ) (r : Option Routine) (todo : List Todo) → Keeps todo → StackStep Sized (monitors.make_step c n r todo s)
    make c n None todo k = go _ _ k
    make c n (Some r) todo k =
        either (StackStep Sized) (monitors.may_call r.written s) _ _ (go_in _ _ _ refl (before (piece.BindMadeNow c n) todo (λ end o h. (tt, h)) k) (likes st.env refl refl)) (go todo _ k)

    pub bind : (r : Option Routine) (todo : List Todo) → Keeps todo → StackStep Sized (monitors.bind_step r todo s)
    bind None todo k = go _ _ k
    bind (Some r) todo k = go_in _ _ _ (kept.written_frames Sized _ _ s.env) k (kept.written_rests Sized _ _ s.env st.env)

    pub condition : (n : ℕ) (i : Option ℕ) (todo : List Todo) → Keeps todo → StackStep Sized (monitors.condition_step n i todo s)
    condition n None todo k = go todo _ k
    condition n (Some i) todo k = go todo _ k

    pub accept_by : (mask q site : ℕ) (todo : List Todo) (vs : List Value) → Keeps todo → StackStep Sized (monitors.accept_by mask q site todo vs s)
    accept_by zero q site todo vs k = go _ _ k
    accept_by (suc mask) q site todo vs k =
        unless q _ todo k (go _ _ (λ end c. let t = k end c in (t.0, (tt, (tt, t.1)))))

    pub failed : (b : Bool) (todo : List Todo) (vs : List Value) → Keeps todo → StackStep Sized (monitors.failed_step b todo vs s)
    failed true todo vs k = go _ _ k
    failed false todo vs k = go _ _ (before piece.RaiseNow todo (λ end o h. (tt, h)) k)

    -- events

    pend : (n : Exec) (e : Event) (todo : List Todo) (vs : List Value) → Keeps todo → StackStep Sized (polls.pend_step n e todo vs s)
    pend n e todo vs k =
        either (StackStep Sized) (nat_lt (length (inside.pending_at n s.env)) PENDING_EVENTS) _ _ (go_in _ _ _ (ap (map length) (kept.with_links_frames Sized (λ l. record l { pending = l.pending ++ (record { event = e.number; x = e.x; y = e.y }) ∷ [] }) n s.env)) k (kept.with_links_rests Sized (λ l. record l { pending = l.pending ++ (record { event = e.number; x = e.x; y = e.y }) ∷ [] }) n s.env st.env)) (go todo vs k)

    pend_at : (x : Option Exec) (e : Event) (todo : List Todo) (vs : List Value) → Keeps todo → StackStep Sized (polls.pend_at x e todo vs s)
    pend_at None e todo vs k = go todo vs k
    pend_at (Some n) e todo vs k = either (StackStep Sized) (sw.is_live (Some n) s.env) _ _ (pend n e todo vs k) (go todo vs k)

    pub raise_at : (v : Value) (e : Event) (todo : List Todo) (vs : List Value) → Keeps todo → StackStep Sized (polls.raise_at_step v e todo vs s)
    raise_at (Object q) e todo vs k = go todo vs k
    raise_at v e todo vs k = pend_at (piece.exec_at v s.env) e todo vs k

    pub enables : (events cell : ℕ) (todo : List Todo) → Keeps todo → StackStep Sized (polls.enable_step events cell todo s)
    enables events cell todo k =
        go_in _ _ _ (kept.written_frames Sized (piece.variable_at cell s) (Number (signed_64 s.env.links.enabled)) s.env) k (likes (kept.written_rests Sized (piece.variable_at cell s) (Number (signed_64 s.env.links.enabled)) s.env st.env) refl refl)

    quiet_poll : (x : Option Pending) (todo : List Todo) → Keeps todo → StackStep Sized (polls.quiet_poll x todo s)
    quiet_poll None todo k = go _ _ k
    quiet_poll (Some p) todo k = go_in _ _ _ refl (before piece.DeliverNow todo (λ end o h. (tt, h)) k) (likes st.env refl refl)

    poll_by : (b : Bool) (todo : List Todo) → Keeps todo → StackStep Sized (polls.poll_by b todo s)
    poll_by true todo k = go _ _ (before piece.DeliverNow todo (λ end o h. (tt, h)) k)
    poll_by false todo k = quiet_poll (inside.oldest_enabled s.env.links) todo k

    pub poll : (todo : List Todo) → Keeps todo → StackStep Sized (polls.poll_step todo s)
    poll todo k = either (StackStep Sized) (nat_eq s.env.links.enabled 0) _ _ (go todo _ k) (poll_by (inside.is_own s.env) todo k)

    pub deliver : (v : Value) (todo : List Todo) → Keeps todo → StackStep Sized (polls.deliver_step v todo s)
    deliver Nothing todo k = go _ _ k
    deliver v todo k = go _ _ (λ end c. let t = k end c in (t.0, (tt, (tt, t.1))))

    pub throws : (e : Event) (todo : List Todo) → Keeps todo → StackStep Sized (raising.throw_step e todo s)
    throws e todo k = record { frames = st.frames; stack = put _ refl refl (unwinding todo k); env = st.env }

    -- the handler of a resumption begins
    pub raises : (e : Event) (todo : List Todo) → Keeps todo → StackStep Sized (raising.raise_step e todo s)
    raises e todo k = by (raising.seek None e (a ∷ s.callers)) refl
      where
        a : Active
        a = record s.run { control = todo }

        b : Active
        b = record s.run { control = piece.DropNow ∷ todo; operands = below (below (below s.run.operands)) }

        by : (o : Option Found) → raising.seek None e ((record s.run { control = todo }) ∷ s.callers) ≡ o → StackStep Sized (raising.handle_step o e todo s)
        by None q = throws e todo k
        by (Some f) q =
            let c : Active = record s.run { control = piece.DropNow ∷ todo; operands = below (below (below s.run.operands)) } in
            let same : raising.seek None e (c ∷ s.callers) ≡ Some f = found_same (raising.hit_in e todo) c (record s.run { control = todo }) s.callers (raising.seek s.run.handles e s.callers) refl refl refl ∙ q in
            record {
              frames = ap suc st.frames;
              stack = stack_handler Sized [] s.env.frames _ c s.callers e f st.frames same refl refl refl (put c refl refl (before piece.DropNow todo (λ end o h. (tt, h)) k));
              env = likes st.env refl refl;
            }

    -- unwinding

    -- what is left of a to-do list, by the sort of the piece that is left
    abbrev pub KeepsBy : Sort → (Room → Type 0) → List Todo → Type 1
    KeepsBy k x todo = (End : Room → Type 0) → SomeTo Sized End s.run.control → (o : Room) × Reached Sized o k (x o) (λ m. TodoTo Sized End m todo)

    pub next : (k : Sort) (x : Room → Type 0) (todo : List Todo) → KeepsBy k x todo → Keeps todo
    next k x todo f = λ end c. let t = f end c in next_by Sized k (x t.0) t.0 (λ m. TodoTo Sized end m todo) t.1

    catches : (hs : Handlers) (x : Room → Type 0) (e : Event) (todo : List Todo) → KeepsBy (piece.IsGuard hs) x todo → StackStep Sized (raising.catch_step (raising.handler_for false e hs) e todo s)
    catches hs x e todo k = by (raising.handler_for false e hs) refl
      where
        by : (o : Option Handler) → raising.handler_for false e hs ≡ o → StackStep Sized (raising.catch_step o e todo s)
        by None q = go _ _ (unwinding todo (next (piece.IsGuard hs) x todo k))
        by (Some y) q =
            record {
              frames = st.frames;
              stack = put _ refl refl (λ end c. let t = k end c in let m : Room = t.1.0 in let g : Room = t.1.1 in let z : HandlerIn g (Some y) = subst (HandlerIn g) q (handler_in g false e hs t.1.5) in (m, handled end m y todo (stmts_wider Sized m z.0 y.body (within_both m g z.0 t.1.3 z.1) z.2) t.1.6));
              env = st.env;
            }

    guarded : (hs : Handlers) (x : Room → Type 0) (w : Option UnwindReason) (todo : List Todo) → KeepsBy (piece.IsGuard hs) x todo → StackStep Sized (raising.guard_left hs w todo s)
    guarded hs x (Some (reason.Event n y z)) todo k = catches hs x (record { number = n; x = y; y = z }) todo k
    guarded hs x w todo k = go _ _ (unwinding todo (next (piece.IsGuard hs) x todo k))

    whole : (b : Bool) (todo : List Todo) → Keeps todo → StackStep Sized (raising.whole_left b todo s)
    whole true todo k = record { frames = st.frames; stack = put _ refl refl k; env = st.env }
    whole false todo k = go _ _ (unwinding todo k)

    scope : (c : CleanUp) (x : Room → Type 0) (b : Bool) (todo : List Todo) → KeepsBy (piece.IsClean c) x todo → StackStep Sized (raising.scope_left c b todo s)
    scope src.Leaves x true todo k = record { frames = st.frames; stack = put _ refl refl (λ end c. let t = k end c in (t.1.0, (tt, (tt, t.1.3)))); env = st.env }
    scope c x b todo k =
        go (raising.left_todo c (piece.Unwind ∷ todo)) [] (λ end d. let t = k end d in (t.1.0, left_cleans end t.1.0 t.0 c (piece.Unwind ∷ todo) t.1.2 (tt, t.1.3)))

    main_left : (w : Option UnwindReason) (todo : List Todo) → Keeps todo → StackStep Sized (raising.main_left w todo s)
    main_left (Some (reason.ReturnTo n)) todo k = record { frames = st.frames; stack = put _ refl refl k; env = st.env }
    main_left w todo k = go todo [] k

    coroutine_left : (w : Option UnwindReason) (todo : List Todo) → Keeps todo → StackStep Sized (raising.coroutine_left w todo s)
    coroutine_left (Some (reason.ReturnTo n)) todo k = record { frames = st.frames; stack = put _ refl refl k; env = st.env }
    coroutine_left (Some reason.Destroyed) todo k = moved _ todo _ k (kept.taken_down_rests Sized (at todo [] s) (go todo [] k))
    coroutine_left w todo k = moved _ todo _ k (kept.escape_rests Sized (at todo [] s) (go todo [] k))

    unwind_past : (k : Sort) (x : Room → Type 0) (todo : List Todo) → KeepsBy k x todo → StackStep Sized (raising.unwind_past k todo s)
    unwind_past piece.Simple x todo f = go _ _ (unwinding todo (next piece.Simple x todo f))
    unwind_past (piece.IsLoop order t e b) x todo f = go _ _ (unwinding todo (next (piece.IsLoop order t e b) x todo f))
    unwind_past piece.IsWhole x todo f = whole _ todo (next piece.IsWhole x todo f)
    unwind_past (piece.IsClean c) x todo f = scope c x _ todo f
    unwind_past (piece.IsFill m b d) x todo f = go _ _ (λ end c. let t = f end c in (t.0, (t.1.0.1, (tt, t.1.1))))
    unwind_past (piece.IsSweep e) x todo f = go _ _ (λ end c. let t = f end c in (t.0, (t.1.0, (tt, t.1.1))))
    unwind_past (piece.IsPart c) x todo f = go _ _ (λ end d. let t = f end d in (t.0, parts end t.0 c _ t.1.0 (tt, t.1.1)))
    unwind_past (piece.IsGuard hs) x todo f = guarded hs x s.run.raised todo f
    unwind_past piece.IsFinish x todo f = main_left s.run.raised todo (next piece.IsFinish x todo f)
    unwind_past piece.IsFinishCoroutine x todo f = coroutine_left s.run.raised todo (next piece.IsFinishCoroutine x todo f)

    pub unwinds : (todo : List Todo) → Keeps todo → StackStep Sized (raising.unwind_step todo s)
    unwinds [] k = leaves s.callers st.frames st.stack.1
    unwinds (p ∷ ps) k = unwind_past (piece.sort p) (λ o. PieceIn Sized o p) ps k

    pub exits : (w : Way) (todo : List Todo) → Keeps todo → StackStep Sized (quiet.exit_step w todo s)
    exits w [] k = end_step w
    exits w (p ∷ ps) k = go _ _ (λ end c. let t = k end c in left_behind end w (piece.sort p) (PieceIn Sized t.0 p) t.0 ps t.1)

    -- printing

    pub prints : (x : Option (List Piece)) (p : Piece) (todo : List Todo) (vs : List Value) → Keeps todo → StackStep Sized (piece.print_step x p todo vs s)
    prints None p todo vs k = go _ _ k
    prints (Some ps) p todo vs k = go_in _ _ _ refl k (likes st.env refl refl)

    pub flushes : (x : Option (List Piece)) (todo : List Todo) (vs : List Value) → Keeps todo → StackStep Sized (piece.flush_step x todo vs s)
    flushes None todo vs k = go _ _ k
    flushes (Some []) todo vs k = go_in _ _ _ refl k (likes st.env refl refl)
    flushes (Some (p ∷ ps)) todo vs k = go_in _ _ _ refl k (likes st.env refl refl)

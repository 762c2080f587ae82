-- A quiet step of a task in which all is there that is in scope and known by its number leads to one.
use Rattle.std.proofs.Common.{◌≡◌, ℕ, zero, suc, ◌≤◌, inl, inr, ◌++◌, ◌&&◌, Bool, true, false, List, [], ◌∷◌, length, drop, Option, Some, None, refl, arith, ap, ◌∙◌, subst, sym}
use Rattle.std.specs.Prelude.{nat_eq, nat_lt, if◌then◌else◌}
use Rattle.std.proofs.lemmas.Bool.{eq-eqb}
use Rattle.uc_tree.specs.declared.limits.TheConstants.{CALLS, PENDING_EVENTS}
use Rattle.uc_tree.specs.Source as src
use Rattle.uc_tree.specs.Source.{Shape, Expr, ObjectExpr, Stmt, Stmts, EventStmt, TaskStmt, Routine, Purpose, Order, Way, CleanUp, Handlers, Clauses, Raised, Item, Declared}
use Rattle.uc_entry.specs.declared.request.Piece.{Piece}
use Rattle.uc_entry.specs.Keyed.{find, signed_64}
use Rattle.uc_machine.specs.declared.exec.Exec.{Exec}
use Rattle.uc_machine.specs.declared.exec.Home.{Home}
use Rattle.uc_machine.specs.declared.exec.Home.TheVariants as home
use Rattle.uc_machine.specs.declared.exec.Owner.TheVariants.{Frame, Fields}
use Rattle.uc_machine.specs.declared.exec.Pending.{Pending}
use Rattle.uc_machine.specs.declared.exec.UnwindReason.{UnwindReason}
use Rattle.uc_machine.specs.declared.exec.UnwindReason.TheVariants as reason
use Rattle.uc_machine.specs.declared.exec.Visited.{Visited}
use Rattle.uc_machine.specs.Executions.{others, home_eq, exec_eq, frame_changed, values_cleared, change, frames_changed}
use Rattle.uc_machine.specs.Switches as sw
use Rattle.uc_machine.specs.Switches.{Moved, To, Stops}
use Rattle.uc_machine.specs.Insides as inside
use Rattle.uc_machine.specs.Raising as raising
use Rattle.uc_machine.specs.Raising.{Event, Handler, Found, Hit}
use Rattle.uc_machine.specs.Monitors as monitors
use Rattle.uc_machine.specs.Polls as polls
use Rattle.uc_machine.specs.Quiet as quiet
use Rattle.uc_machine.specs.Pieces as piece
use Rattle.uc_machine.specs.Pieces.{Value, Number, Place, Running, Object, Nothing, Todo, Sort, Active, State, Env, Members, Step, Goes, Ticks, Asks, Outcome, Gives, Faults, at, in_env, goes, fault, asks, turns, top, below, number, nought, is_zero, written}
use Rattle.uc_state_laws.specs.Clusters.{Begins, HandlersBegin}
use Rattle.uc_state_laws.specs.There.{IsLoose, HoldsLoose, HoldsObject, NextBound, NextRest, NextDrop, NextCall, IsBinder, BindsBy, LeftBy, AllCounted, AtRest, AtDrop, AtCall, AllLeft, AtBound, Held, AllBefore, FrameBefore, frame_at}
use Rattle.uc_state_laws.specs.ThereStates.{CountedStack, CountedEx, CountedState, CountedStep, RoutineBegins, BodiesBegin, Aside, IsAside, PutsAside, BoundBehind}
use Rattle.uc_state_laws.specs.NewClusters.{GoodStepBy}
use Rattle.uc_state_laws.proofs.Cells.{either, set_length, all_left, held_left, left_on, next_drop, next_call, drop_bound, call_bound, call_kept, drop_next, call_next, list_cleared, stack_cleared, stack_newer, stack_older, others_length}
use Rattle.uc_state_laws.proofs.ValueKeeping as kept
use Rattle.uc_state_laws.proofs.ValueKeeping.{Keeps, KeepsAt}

home_same : (h : Home) → home_eq h h ≡ true
home_same (home.Task n) = eq-eqb n n refl
home_same (home.Object o) = eq-eqb o o refl

pub exec_same : (n : Exec) → exec_eq n n ≡ true
exec_same n =
    let h : home_eq n.home n.home ≡ true = home_same n.home in
    let s : nat_eq n.serial n.serial ≡ true = eq-eqb n.serial n.serial refl in
    rw h s

-- the frame of the running activation
abbrev pub here : State → List Value
here s = frame_at s.run.frame s.env.frames

module _ (Few : ℕ → Bool) where
  -- a handler that is found uses the frame of one of these activations, and its statements may stand behind any other

  abbrev HandlerBegins : Option Handler → Type 0
  HandlerBegins None = Unit {0}
  HandlerBegins (Some x) = Begins x.body

  handler_begins : (kind : Bool) (e : Event) (hs : Handlers) → HandlersBegin hs → HandlerBegins (raising.handler_for kind e hs)
  handler_begins kind e src.NoHandlers h = tt
  handler_begins kind e (src.MoreHandlers resumes event cell line body rest) h =
      either HandlerBegins (raising.same_kind kind resumes && raising.takes event e) (Some (record { cell = cell; line = line; body = body })) (raising.handler_for kind e rest) h.0 (handler_begins kind e rest h.1)

  abbrev HitBegins : Option Hit → Type 0
  HitBegins None = Unit {0}
  HitBegins (Some y) = Begins y.handler.body

  hit_or : (o : Option Handler) (n : ℕ) (other : Option Hit) → HandlerBegins o → HitBegins other → HitBegins (raising.hit_or o n other)
  hit_or None n other h k = k
  hit_or (Some y) n other h k = h

  hit_left : (vs : List Value) (k : Sort) (n : ℕ) (e : Event) (ps : List Todo) → LeftBy Few vs k (AllLeft Few vs ps) (AllCounted Few vs ps) → HitBegins (raising.hit_in e ps) → HitBegins (raising.hit_by k n e (raising.hit_in e ps))
  hit_left vs (piece.IsGuard hs) n e ps h k = hit_or (raising.handler_for true e hs) n (raising.hit_in e ps) (handler_begins true e hs h.0) k
  hit_left vs s n e ps h k = k

  hit_in : (vs : List Value) (e : Event) (todo : List Todo) → AllLeft Few vs todo → HitBegins (raising.hit_in e todo)
  hit_in vs e [] h = tt
  hit_in vs e (p ∷ ps) h = hit_left vs (piece.sort p) (raising.count_round ps) e ps h (hit_in vs e ps (left_on Few vs (piece.sort p) ps h))

  all_within : (vs : List Value) (n : ℕ) (todo : List Todo) → AllLeft Few vs todo → AllLeft Few vs (raising.within n todo)
  all_within vs n [] h = tt
  all_within vs n (p ∷ ps) h = either (AllLeft Few vs) (nat_eq (raising.count_round (p ∷ ps)) n) (p ∷ ps) (raising.within n ps) h (all_within vs n ps (left_on Few vs (piece.sort p) ps h))

  abbrev pub FoundTo : ℕ → Option Found → Type 0
  FoundTo n None = Unit {0}
  FoundTo n (Some f) = (f.frame ≤ n) × Begins f.handler.body

  found_or : (n : ℕ) (h : Option Hit) (a : Active) (cs : List Active) (other : Option Found) → a.frame ≤ n → HitBegins h → FoundTo n other → FoundTo n (raising.found_or h a cs other)
  found_or n None a cs other l b k = k
  found_or n (Some h) a cs other l b k = (l, b)

  seek_to : (fs : List (List Value)) (n : ℕ) (v : Option Visited) (e : Event) (cs : List Active) → length cs ≤ n → CountedStack Few fs cs → FoundTo n (raising.seek v e cs)
  seek_to fs n None e [] l h = tt
  seek_to fs n (Some v) e [] l h = tt
  seek_to fs n None e (a ∷ cs) l h =
      let d = h.0 in
      found_or n (raising.hit_in e a.control) a cs (raising.seek a.handles e cs) (omega (arith, d, l)) (hit_in (frame_at a.frame fs) e a.control (held_left Few (frame_at a.frame fs) a.elements a.control h.1)) (seek_to fs n a.handles e cs (omega (arith, l)) h.2)
  seek_to fs n (Some v) e (a ∷ cs) l h =
      let d = h.0 in
      either (FoundTo n) (nat_eq (length cs) v.level) (raising.found_or (raising.hit_in e (raising.within v.rest a.control)) a cs (raising.seek a.handles e cs)) (raising.seek (Some v) e cs) (found_or n (raising.hit_in e (raising.within v.rest a.control)) a cs (raising.seek a.handles e cs) (omega (arith, d, l)) (hit_in (frame_at a.frame fs) e (raising.within v.rest a.control) (all_within (frame_at a.frame fs) v.rest a.control (held_left Few (frame_at a.frame fs) a.elements a.control h.1))) (seek_to fs n a.handles e cs (omega (arith, l)) h.2)) (seek_to fs n (Some v) e cs (omega (arith, l)) h.2)

  -- to-do lists, in a frame of these values

  module _ (vs : List Value) where
    behind : (p : Purpose) (line : ℕ) → AllCounted Few vs (quiet.behind_body p line)
    behind src.TaskMain line = (tt, (tt, tt))
    behind src.CoroutineMain line = (tt, (tt, tt))
    behind src.Procedure line = (tt, tt)
    behind src.Function line = (tt, (tt, tt))
    behind src.Builder line = tt

    pub routine : (r : Routine) → Begins r.body → AllCounted Few vs (quiet.routine_todo r)
    routine r b = (b, behind r.purpose r.line)

    pub starts : (cell : ℕ) (v : Option Expr) (todo : List Todo) → AllCounted Few vs todo → AllCounted Few vs (quiet.starting cell v todo)
    starts cell None todo h = h
    starts cell (Some e) todo h = inl (inl (tt, h))

    converts : (k : Shape) (todo : List Todo) → AllCounted Few vs todo → AllCounted Few vs (quiet.converting k todo)
    converts src.Character todo h = (tt, h)
    converts src.Truth todo h = (tt, h)
    converts k todo h = h

    pub stepped : (e : Option Expr) (todo : List Todo) → AllCounted Few vs todo → AllCounted Few vs (quiet.step_todo e todo)
    stepped None todo h = h
    stepped (Some e) todo h = inl (tt, h)

    pub tested : (order : Order) (t : Expr) (e : Option Expr) (b : Stmt) (todo : List Todo) → AllCounted Few vs todo → AllCounted Few vs (quiet.test_todo order t e b todo)
    tested src.TestFirst t e b todo h = inl (tt, h)
    tested src.BodyFirst t e b todo h = inl (tt, h)
    tested src.NoTest t e b todo h = (tt, h)

    looped : (order : Order) (t : Expr) (e : Option Expr) (b : Stmt) (todo : List Todo) → AllCounted Few vs todo → AllCounted Few vs (quiet.loop_todo order t e b todo)
    looped src.TestFirst t e b todo h = inl (tt, h)
    looped src.BodyFirst t e b todo h = (tt, h)
    looped src.NoTest t e b todo h = (tt, h)

    loop_left : (w : Way) (order : Order) (t : Expr) (e : Option Expr) (b : Stmt) (todo : List Todo) → AllCounted Few vs todo → AllCounted Few vs (quiet.loop_left w order t e b todo)
    loop_left src.ToBreak order t e b todo h = h
    loop_left src.ToContinue order t e b todo h = (tt, h)
    loop_left src.ToReturn order t e b todo h = all_left Few vs todo h
    loop_left src.ToEnd order t e b todo h = all_left Few vs todo h

    left_behind : (w : Way) (k : Sort) (todo : List Todo) → LeftBy Few vs k (AllLeft Few vs todo) (AllCounted Few vs todo) → AllCounted Few vs (quiet.left_behind w k todo)
    left_behind w piece.Simple todo h = h
    left_behind w (piece.IsLoop order t e b) todo h = loop_left w order t e b todo h.1
    left_behind w piece.IsWhole todo h = h.1
    left_behind w (piece.IsClean x) todo h = (h.0, all_left Few vs todo h.1)
    left_behind w (piece.IsFill m b d) todo h = h
    left_behind w (piece.IsSweep e) todo h = all_left Few vs todo h.1
    left_behind w (piece.IsPart x) todo h = all_left Few vs todo h.1
    left_behind w (piece.IsGuard hs) todo h = all_left Few vs todo h.1
    left_behind w piece.IsFinish todo h = (tt, h.1)
    left_behind w piece.IsFinishCoroutine todo h = (tt, h.1)

    pub filled : (b : Bool) (n : ℕ) (e d : Expr) (todo : List Todo) → AllCounted Few vs todo → AllCounted Few vs (quiet.fill_todo b n e d todo)
    filled false n e d todo h = h
    filled true n e d todo h = inl (tt, (tt, (tt, h)))

    raised : (r : Raised) (todo : List Todo) → AllCounted Few vs todo → AllCounted Few vs (raising.raised_todo r todo)
    raised (src.Plainly n) todo h = inl (inl (inl h))
    raised (src.BuiltAt n c e) todo h = (tt, inl (tt, inl (inl (inl h))))
    raised (src.AgainFrom c) todo h = inl (inl (inl h))

    handled : (x : Handler) (todo : List Todo) → Begins x.body → AllCounted Few vs todo → AllCounted Few vs (raising.handler_todo x todo)
    handled x todo b h = (tt, (tt, (tt, (tt, (tt, (tt, (b, (tt, h))))))))

    pub cleans : (c : CleanUp) (todo : List Todo) → AllCounted Few vs todo → AllCounted Few vs (piece.clean_todo c todo)
    cleans (src.Destroys e) todo h = inl (tt, h)
    cleans (src.DestroysAll k e) todo h = (tt, (tt, h))
    cleans src.Unwinds todo h = (tt, h)
    cleans src.Forgets todo h = (tt, h)
    cleans src.Leaves todo h = (tt, h)
    cleans src.Ends todo h = (tt, h)
    cleans (src.Frees None) todo h = (tt, h)
    cleans (src.Frees (Some r)) todo h = (tt, h)
    cleans (src.Restores k) todo h = (tt, h)

    left_cleans : (c : CleanUp) (todo : List Todo) → AllCounted Few vs todo → AllCounted Few vs (raising.left_todo c todo)
    left_cleans (src.Frees r) todo h = (tt, h)
    left_cleans c todo h = cleans c todo h

    pub branch : (k : ℕ) (cs : Clauses) (todo : List Todo) → AllCounted Few vs todo → AllCounted Few vs (monitors.branch_todo k cs todo)
    branch k src.NoClauses todo h = h
    branch k (src.Otherwise b) todo h = either (AllCounted Few vs) (nat_eq k 0) (piece.Do b ∷ todo) todo (inl h) h
    branch zero (src.MoreClauses guard b cs) todo h = branch zero cs todo h
    branch (suc zero) (src.MoreClauses guard b cs) todo h = inl h
    branch (suc (suc k)) (src.MoreClauses guard b cs) todo h = branch (suc k) cs todo h

    pub item : (i : Item) (todo : List Todo) → AllCounted Few vs todo → AllCounted Few vs (quiet.item_todo i todo)
    item (src.Show f e) todo h = inl (tt, h)
    item (src.ShowText k) todo h = (tt, h)

    pub item_value : (i : Item) (todo : List Todo) → AllCounted Few vs todo → AllCounted Few vs (quiet.item_value i todo)
    item_value (src.Show f e) todo h = inl h
    item_value (src.ShowText k) todo h = h

    pub item_piece : (i : Item) (todo : List Todo) → AllCounted Few vs todo → AllCounted Few vs (quiet.item_piece i ∷ todo)
    item_piece (src.Show f e) todo h = (tt, h)
    item_piece (src.ShowText k) todo h = (tt, h)

    polled : (w : Option UnwindReason) (todo : List Todo) → AllCounted Few vs todo → AllCounted Few vs (monitors.leave_todo w todo)
    polled None todo h = (tt, h)
    polled (Some why) todo h = h

  module _ (s : State) (st : CountedState Few s) where
    abbrev There : List Todo → Type 0
    There todo = AllCounted Few (here s) todo

    -- with something else to do, and other operands
    pub go : (todo : List Todo) (vs : List Value) → There todo → CountedState Few (at todo vs s)
    go todo vs h = record { frames = st.frames; stack = (st.stack.0, inl h, st.stack.2); env = st.env }

    pub go_held : (todo : List Todo) (vs : List Value) → Held Few (here s) s.run.elements todo → CountedState Few (at todo vs s)
    go_held todo vs h = record { frames = st.frames; stack = (st.stack.0, h, st.stack.2); env = st.env }

    -- and with another rest of the task
    pub go_in : (todo : List Todo) (vs : List Value) (e : Env) → Keeps Few s.env e → There todo → CountedState Few (at todo vs (in_env e s))
    go_in todo vs e k h =
        record { frames = k.frames ∙ st.frames; stack = (st.stack.0, inl (k.lists s.run.frame todo h), k.stack s.callers st.stack.2); env = k.env }

    pub go_at : (todo : List Todo) (vs : List Value) (e : Env) → KeepsAt Few s.run.frame todo s.callers s.env e → There todo → CountedState Few (at todo vs (in_env e s))
    go_at todo vs e k h = record { frames = k.frames ∙ st.frames; stack = (st.stack.0, inl (k.list h), k.stack st.stack.2); env = k.env }

    -- what opens next is bound
    pub bound_in : (todo : List Todo) (vs : List Value) (e : Env) → KeepsAt Few s.run.frame todo s.callers s.env e → AtBound Few (frame_at s.run.frame e.frames) todo → NextBound (HoldsObject (frame_at s.run.frame e.frames)) todo → CountedState Few (at todo vs (in_env e s))
    bound_in todo vs e k h b =
        record { frames = k.frames ∙ st.frames; stack = (st.stack.0, inr (inl (h, b)), k.stack st.stack.2); env = k.env }

    -- nothing that is told of changes
    pub like : {e : Env} → e.frames ≡ s.env.frames → e.hand ≡ s.env.hand → e.house ≡ s.env.house → Keeps Few s.env e
    like q h g = kept.keeps_like Few st.env q h g

    -- the end of an activation

    -- those that wait, with a frame less
    less : (a : Active) (cs : List Active) → length s.env.frames ≡ suc (length (a ∷ cs)) → CountedStack Few s.env.frames (a ∷ cs) → CountedStack Few (others s.env.frames) (a ∷ cs)
    less a cs l h =
        let n : length (others s.env.frames) ≡ suc (length cs) = others_length s.env.frames (length cs) l in
        stack_older Few s.env.frames (a ∷ cs) (omega (arith, n)) h

    pub returned : (given : Value) (cs : List Active) → length s.env.frames ≡ suc (length cs) → CountedStack Few s.env.frames cs → CountedStep Few (piece.return_step given cs s)
    returned given [] l h = st
    returned given (a ∷ cs) l h =
        let k = less a cs l h in
        record { frames = others_length s.env.frames (length cs) l; stack = (k.0, k.1, k.2); env = kept.like Few st.env refl refl }

    past : (v : Visited) (given : Value) (cs : List Active) → length s.env.frames ≡ suc (length cs) → CountedStack Few s.env.frames cs → CountedStep Few (raising.return_past v given cs s)
    past v given [] l h = st
    past v given (a ∷ cs) l h =
        let k = less a cs l h in
        record { frames = others_length s.env.frames (length cs) l; stack = (k.0, inl (held_left Few _ _ _ k.1), k.2); env = kept.like Few st.env refl refl }

    end_by : (v : Option Visited) (given : Value) → CountedStep Few (raising.end_by v given s)
    end_by None given = returned given s.callers st.frames st.stack.2
    end_by (Some v) given = past v given s.callers st.frames st.stack.2

    end_step : (w : Way) → CountedStep Few (quiet.end_step w s)
    end_step src.ToReturn = end_by s.run.handles _
    end_step src.ToEnd = end_by s.run.handles _
    end_step src.ToBreak = returned _ s.callers st.frames st.stack.2
    end_step src.ToContinue = returned _ s.callers st.frames st.stack.2

    pass_on : (w : Option UnwindReason) (c : Active) (cs : List Active) → length s.env.frames ≡ suc (length (c ∷ cs)) → CountedStack Few s.env.frames (c ∷ cs) → CountedStep Few (raising.pass_on w c cs s)
    pass_on None c cs l h = st
    pass_on (Some why) c cs l h =
        let k = less c cs l h in
        record { frames = others_length s.env.frames (length cs) l; stack = (k.0, inl (held_left Few _ _ _ k.1), k.2); env = kept.like Few st.env refl refl }

    leave_for : (b : Bool) (c : Active) (cs : List Active) → length s.env.frames ≡ suc (length (c ∷ cs)) → CountedStack Few s.env.frames (c ∷ cs) → CountedStep Few (raising.leave_for b c cs s)
    leave_for true c cs l h = st
    leave_for false c cs l h = pass_on s.run.raised c cs l h

    leaves : (cs : List Active) → length s.env.frames ≡ suc (length cs) → CountedStack Few s.env.frames cs → CountedStep Few (raising.leave_step cs s)
    leaves [] l h = st
    leaves (c ∷ cs) l h =
        either (CountedStep Few) (raising.arrives s.run.raised (length (c ∷ cs))) _ _ (returned s.run.result (c ∷ cs) l h) (leave_for _ c cs l h)

    pub moved : (m : Moved (List Todo) Value) (todo : List Todo) (vs : List Value) → There todo → kept.CountedMoved Few m → CountedStep Few (piece.moves m (at todo vs s))
    moved (To t) todo vs h m = m
    moved (Stops f) todo vs h m = go todo vs h

    pub outcome : (x : Outcome) (todo : List Todo) (vs : List Value) → There todo → CountedStep Few (piece.outcome_step x todo vs s)
    outcome (Gives n) todo vs h = go todo _ h
    outcome (Faults f) todo vs h = go todo _ h

    pub element : (n : Shape) (i : Option ℕ) (todo : List Todo) (v : Value) (vs : List Value) → There todo → CountedStep Few (piece.element_step n i todo v vs s)
    element n None todo v vs h = go todo _ h
    element n (Some i) todo v vs h = go todo _ h

    -- expressions

    object : (x : ObjectExpr) (todo : List Todo) → There todo → CountedStep Few (quiet.object_step x todo s)
    object src.This todo h = go _ _ h
    object (src.OwnField k i) todo h = go _ _ h
    object (src.GetOwn k i) todo h = go _ _ h
    object (src.FieldOf k i a) todo h = go _ _ (inl (tt, h))
    object src.Counted todo h = go _ _ h
    object (src.CallOn r a args) todo h = go _ _ (inl (tt, (tt, (tt, h))))
    object (src.CallLive r a args) todo h = go _ _ (inl (tt, (tt, (tt, (tt, h)))))
    object (src.CallUnwritten r a) todo h = go _ _ (inl (tt, h))
    object (src.EnterOn m r a args) todo h = go _ _ (inl (tt, (tt, (tt, (tt, h)))))
    object (src.EndOn r false a) todo h = go _ _ (inl (tt, (tt, h)))
    object (src.EndOn r true a) todo h = go _ _ (inl (tt, (tt, (tt, h))))
    object (src.Bind a b) todo h = go _ _ (inl (inl (inl h)))
    object (src.MakeOn c r false a args) todo h = go _ _ (inl (tt, inl (tt, h)))
    object (src.MakeOn c r true a args) todo h = go _ _ (inl (tt, (tt, inl (tt, h))))
    object src.NewCluster todo h = go _ _ (tt, h)
    object (src.NewProcessor a) todo h = go _ _ (inl (tt, h))
    object (src.EndCluster a) todo h = go _ _ (inl (tt, h))
    object (src.EndProcessor a) todo h = go _ _ (inl (tt, h))
    object (src.ConditionAt k m a) todo h = go _ _ (inl (tt, h))
    object (src.Wait a b) todo h = go _ _ (inl (inl (tt, (tt, h))))
    object (src.Signal a) todo h = go _ _ (inl (tt, h))
    object (src.SignalBlock a) todo h = go _ _ (inl (tt, h))
    object (src.IsEmpty a) todo h = go _ _ (inl (tt, h))
    object (src.FrontOf a) todo h = go _ _ (inl (tt, h))

    pub eval : (a : Expr) (todo : List Todo) → There todo → CountedStep Few (quiet.eval_step a todo s)
    eval (src.Literal k) todo h = go _ _ h
    eval (src.Variable k) todo h = go _ _ h
    eval (src.Element m k a i) todo h = go _ _ (inl (inl (tt, h)))
    eval (src.Get k) todo h = go _ _ h
    eval (src.Load a) todo h = go _ _ (inl (tt, h))
    eval (src.Negated a) todo h = go _ _ (inl (tt, h))
    eval (src.Not a) todo h = go _ _ (inl (tt, h))
    eval (src.AsCharacter a) todo h = go _ _ (inl (tt, h))
    eval (src.AsTruth a) todo h = go _ _ (inl (tt, h))
    eval (src.Operate op a b) todo h = go _ _ (inl (inl (tt, h)))
    eval (src.And a b) todo h = go _ _ (inl (tt, h))
    eval (src.Or a b) todo h = go _ _ (inl (tt, h))
    eval (src.Set k a) todo h = go _ _ (inl (tt, h))
    eval (src.Assign p a) todo h = go _ _ (inl (inl (tt, h)))
    eval (src.First a b) todo h = go _ _ (inl (inl (tt, h)))
    eval (src.Update op k p a) todo h = go _ _ (inl (tt, (tt, inl (tt, converts (here s) k _ (tt, h)))))
    eval (src.StepBehind op k p) todo h = go _ _ (inl (tt, (tt, (tt, (tt, inl (tt, converts (here s) k _ (tt, (tt, h))))))))
    eval src.Fail todo h = go _ _ h
    eval (src.Call r args) todo h = go _ _ (tt, (tt, (tt, h)))
    eval (src.OfObject x) todo h = object x todo h

    binds : (a : Expr) (todo : List Todo) → IsBinder a → AtDrop Few (here s) todo → NextDrop (HoldsLoose (here s)) todo → CountedStep Few (quiet.eval_step a todo s)
    binds (src.OfObject (src.Bind a b)) todo i h l = go _ _ (inl (inl (inr (h, l))))
    binds (src.OfObject (src.MakeOn c r false a args)) todo i h l = go _ _ (inl (tt, inr (h, l)))
    binds (src.OfObject (src.MakeOn c r true a args)) todo i h l = go _ _ (inl (tt, (tt, inr (h, l))))
    binds a todo i h l = absurd i

    pub evals : (a : Expr) (todo : List Todo) → There (piece.Eval a ∷ todo) → CountedStep Few (quiet.eval_step a todo s)
    evals a todo (inl h) = eval a todo h
    evals a todo (inr h) = binds a todo h.0 h.1 h.2

    -- statements

    pub swept : (n : ℕ) (e : Expr) (todo : List Todo) → There todo → CountedStep Few (quiet.sweep_step n e todo s)
    swept zero e todo h = go _ _ h
    swept (suc m) e todo h = record { frames = st.frames; stack = (st.stack.0, inl (inl (tt, (tt, h))), st.stack.2); env = st.env }

    event_step : (a : EventStmt) (todo : List Todo) → BodiesBegin (src.OfEvents a) → There todo → CountedStep Few (quiet.event_step a todo s)
    event_step (src.Throw line r) todo b h = go _ _ (raised (here s) r _ (tt, (tt, h)))
    event_step (src.Raise line r) todo b h = go _ _ (raised (here s) r _ (tt, (tt, h)))
    event_step (src.Try line body hs) todo b h = go _ _ (b.0, (b.1, (tt, h)))
    event_step (src.RaiseAt line r a) todo b h = go _ _ (raised (here s) r _ (inl (tt, (tt, h))))
    event_step (src.Enable line events cell a) todo b h = go _ _ (tt, (tt, inl ((tt, tt), (tt, h))))
    event_step (src.Disable line events cell a) todo b h = go _ _ (tt, inl ((tt, tt), (tt, h)))

    task_step : (a : TaskStmt) (todo : List Todo) → There todo → CountedStep Few (quiet.task_step a todo s)
    task_step (src.Resume line) todo h = go _ _ (tt, (tt, (tt, h)))
    task_step (src.Suspend line) todo h = go _ _ (tt, (tt, (tt, h)))
    task_step (src.SetUp r) todo h = go _ _ (tt, h)
    task_step src.Enliven todo h = go _ _ (tt, h)
    task_step src.TakeDown todo h = go _ _ (tt, h)
    task_step (src.Yield line) todo h = go _ _ (tt, (tt, (tt, h)))
    task_step (src.Migrate line a) todo h = go _ _ (inl (tt, (tt, h)))
    task_step (src.Accept line site cs) todo h = go _ _ (tt, (tt, (tt, (tt, h))))

    stmt : (a : Stmt) (todo : List Todo) → BodiesBegin a → There todo → CountedStep Few (quiet.stmt_step a todo s)
    stmt (src.Skip line) todo f h = go _ _ h
    stmt (src.Block line body) todo f h = go _ _ (f, (tt, h))
    stmt (src.Whole line body) todo f h = go _ _ (f, (tt, (tt, h)))
    stmt (src.Evaluate line a) todo f h = go _ _ (inl (tt, (tt, h)))
    stmt (src.Declare line ds) todo f h = go _ _ (tt, (tt, h))
    stmt (src.Print line items) todo f h = go _ _ (tt, (tt, h))
    stmt (src.PrintTogether line items) todo f h = go _ _ (tt, (tt, (tt, (tt, (tt, h)))))
    stmt (src.Read line ts) todo f h = go _ _ (tt, (tt, h))
    stmt (src.If line t a b) todo f h = go _ _ (inl (tt, (tt, h)))
    stmt (src.Loop line order t e b) todo f h = go _ _ (looped (here s) order t e b _ (tt, h))
    stmt (src.Break line) todo f h = go _ _ (all_left Few (here s) todo h)
    stmt (src.Continue line) todo f h = go _ _ (all_left Few (here s) todo h)
    stmt (src.Return line None) todo f h = go _ _ (all_left Few (here s) todo h)
    stmt (src.Return line (Some e)) todo f h = go _ _ (inl (all_left Few (here s) (piece.Within line ∷ todo) (tt, h)))
    stmt (src.Owes line) todo f h = go _ _ (tt, (tt, h))
    stmt (src.Fill line m b d) todo f h = go _ _ (tt, (tt, (tt, h)))
    stmt (src.OfEvents a) todo f h = event_step a todo f h
    stmt (src.OfTasks a) todo f h = task_step a todo h

    stmt_binds : (a : Stmt) (todo : List Todo) → BindsBy a → AtRest Few (here s) todo → NextRest (HoldsLoose (here s)) todo → CountedStep Few (quiet.stmt_step a todo s)
    stmt_binds (src.Evaluate line a) (piece.Rest ss ∷ todo) i h l = go _ _ (inr (i, h, l))
    stmt_binds (src.Evaluate line a) todo i h l = absurd h
    stmt_binds a todo i h l = absurd i

    pub stmts : (a : Stmt) (todo : List Todo) → BodiesBegin a → There (piece.Do a ∷ todo) → CountedStep Few (quiet.stmt_step a todo s)
    stmts a todo f (inl h) = stmt a todo f h
    stmts a todo f (inr h) = stmt_binds a todo h.0 h.1 h.2

    -- statements that are left of a block, of which the first one is taken
    pub rest_with : (a : Stmt) (ss : Stmts) (todo : List Todo) → Begins ss → There todo → CountedStep Few (quiet.rest_step (src.Then a ss) todo s)
    rest_with a ss todo b h = go _ _ (inl (b, h))

    -- cells start anew
    pub clears : (k m : ℕ) (todo : List Todo) → AllBefore k todo × FrameBefore k s.run.frame s.callers → There todo → CountedStep Few (quiet.turns todo (in_env (piece.cleared k m s) s))
    clears k m todo f h =
        subst (λ (b : Bool). CountedState Few (at todo s.run.operands (in_env (if b then record s.env { frames = frame_changed s.run.frame (values_cleared k m nought) s.env.frames } else change s.env.exec.home (frames_changed s.env.exec.serial (frame_changed s.run.frame (values_cleared k m nought))) s.env) s))) (sym (exec_same s.env.exec)) (record {
          frames = set_length s.env.frames s.run.frame (values_cleared k m nought (here s)) ∙ st.frames;
          stack = (st.stack.0, inl (list_cleared Few s.run.frame k m s.env.frames todo f.0 h), stack_cleared Few s.run.frame k m s.env.frames s.callers f.1 st.stack.2);
          env = kept.like Few st.env refl refl;
        })

    -- calls

    begun : (r : Routine) (this : Value) (counts : Bool) (todo : List Todo) (vs : List Value) → Begins r.body → Held Few (here s) s.run.elements todo → CountedStep Few (quiet.begun_step r this counts todo vs s)
    begun r this counts todo vs b h =
        let n = st.frames in
        record {
          frames = ap suc st.frames;
          stack = (omega (arith, n), inl (routine _ r b), stack_newer Few _ s.env.frames (record s.run { control = todo; operands = vs } ∷ s.callers) (omega (arith, n)) (st.stack.0, h, st.stack.2));
          env = kept.like Few st.env refl refl;
        }

    pub call : (r : Option Routine) (todo : List Todo) → RoutineBegins r → There todo → CountedStep Few (quiet.call_step r todo s)
    call None todo b h = go _ _ h
    call (Some r) todo b h = either (CountedStep Few) (nat_lt s.env.links.calls CALLS) _ _ (begun r _ true todo _ b (inl h)) (go todo _ h)

    pub call_on : (r : Option Routine) (todo : List Todo) → RoutineBegins r → Held Few (here s) s.run.elements todo → CountedStep Few (quiet.call_on_step r todo s)
    call_on None todo b h = go_held _ _ h
    call_on (Some r) todo b h = either (CountedStep Few) (nat_lt s.env.links.calls CALLS) _ _ (begun r _ true todo _ b h) (go_held todo _ h)

    pub call_unwritten : (r : Option Routine) (todo : List Todo) → RoutineBegins r → Held Few (here s) s.run.elements todo → CountedStep Few (quiet.call_unwritten_step r todo s)
    call_unwritten None todo b h = go_held _ _ h
    call_unwritten (Some r) todo b h = begun r _ false todo _ b h

    -- coroutines

    fresh : (r : Routine) (this : Value) → Begins r.body → CountedEx Few (quiet.fresh r this)
    fresh r this b = record { frames = refl; stack = (omega arith, inl (routine _ r b), tt) }

    aside_by : (v : Value) (todo : List Todo) (e : Env) → e.exec ≡ s.env.exec → IsAside v todo s → Aside v s.run.frame todo s.callers e
    aside_by (Number n) todo e q a = tt
    aside_by (Place (Frame n d) p) todo e q a = (subst (λ x. exec_eq n x ≡ true) (sym q) a.0, a.1, a.2)
    aside_by (Place (Fields o) p) todo e q a = tt
    aside_by (Running n) todo e q a = tt
    aside_by (Object o) todo e q a = tt
    aside_by Nothing todo e q a = tt

    pub set_up : (r : Option Routine) (todo : List Todo) → RoutineBegins r → IsAside s.run.this todo s → There todo → CountedStep Few (quiet.set_up_step r todo s)
    set_up None todo b a h = go _ _ h
    set_up (Some r) todo b a h =
        let q = quiet.home_at s.run.this s.env in
        let x = quiet.fresh r s.run.this in
        let k : Keeps Few s.env (sw.born q x s.env) = kept.born_keeps Few q x s.env (fresh r s.run.this b) st.env in
        go_at _ _ _ (kept.keeps_then Few s.run.frame todo s.callers k (kept.written_aside Few s.run.this _ s.run.frame todo s.callers (sw.born q x s.env) (aside_by s.run.this todo (sw.born q x s.env) (kept.change_exec Few q (sw.one_more x) s.env) a) k.env)) h

    pub live : (r : Option Routine) (todo : List Todo) → There todo → CountedStep Few (quiet.live_step r todo s)
    live None todo h = go _ _ h
    live (Some r) todo h = either (CountedStep Few) (sw.is_live (piece.exec_at (top (drop r.params s.run.operands)) s.env) s.env) _ _ (go todo _ h) (go todo _ h)

    pub land : (w : Option UnwindReason) (todo : List Todo) → There todo → CountedStep Few (quiet.land_step w todo s)
    land None todo h = go _ _ h
    land (Some why) todo h = go _ _ (all_left Few (here s) todo h)

    -- mutex objects

    pub unless : (q : ℕ) (step : Step) (todo : List Todo) → There todo → CountedStep Few step → CountedStep Few (monitors.unless_held_up q step todo s)
    unless q step todo h k = either (CountedStep Few) (inside.is_held_up q s.env) _ step (go todo _ h) k

    enter_at : (d : Option ℕ) (q m : ℕ) (todo : List Todo) → There todo → CountedStep Few (monitors.enter_at d q m todo s)
    enter_at (Some d) q m todo h = go_in _ _ _ (like refl refl refl) h
    enter_at None q m todo h = go_in _ _ _ (like refl refl refl) h

    pub enter : (m : ℕ) (r : Option Routine) (todo : List Todo) → There todo → CountedStep Few (monitors.enter_step m r todo s)
    enter m None todo h = go _ _ h
    enter m (Some r) todo h =
        let q = piece.object_in (top (drop r.params s.run.operands)) in
        either (CountedStep Few) (monitors.may_call r.written s) _ _ (enter_at (find q s.env.depths) q m todo h) (go todo _ h)

    pub leave : (b : Bool) (q : ℕ) (todo : List Todo) → There todo → CountedStep Few (monitors.leave_at b q todo s)
    leave false q todo h = go_in _ _ _ (like refl refl refl) h
    leave true q todo h =
        unless q _ todo h (record { frames = st.frames; stack = (st.stack.0, inl (polled (here s) s.run.raised todo h), st.stack.2); env = kept.like Few st.env refl refl })

    pub make : (c n : ℕ) (r : Option Routine) (todo : List Todo) → There todo → CountedStep Few (monitors.make_step c n r todo s)
    make c n None todo h = go _ _ h
    make c n (Some r) todo h =
        either (CountedStep Few) (monitors.may_call r.written s) _ _ (go_in _ _ _ (like refl refl refl) (inl h)) (go todo _ h)

    pub bind : (r : Option Routine) (todo : List Todo) → IsLoose (top s.run.operands) → There todo → CountedStep Few (monitors.bind_step r todo s)
    bind None todo l h = go _ _ h
    bind (Some r) todo l h = go_in _ _ _ (kept.written_keeps Few _ _ l s.env st.env) h

    -- for a variable whose scope opens behind the call
    pub makes : (c n : ℕ) (r : Option Routine) (todo : List Todo) → AtCall Few (here s) todo → NextCall (HoldsLoose (here s)) todo → GoodStepBy Few (monitors.make_step c n r todo s)
    makes c n None todo h l = inr (inr (inr (tt, st.env)))
    makes c n (Some r) todo h l =
        either (GoodStepBy Few) (monitors.may_call r.written s) _ _ (inl (go_in _ _ _ (like refl refl refl) (inr (h, l)))) (inr (inr (inr (tt, st.env))))

    pub made : (r : Option Routine) (todo : List Todo) → BoundBehind (λ P. NextCall P todo) (here s) (monitors.bind_step r todo s) → IsLoose (top s.run.operands) → AtCall Few (here s) todo → NextCall (HoldsLoose (here s)) todo → GoodStepBy Few (monitors.bind_step r todo s)
    made None todo f o h l = inr (inr (inr (tt, st.env)))
    made (Some r) todo f o h l =
        let e : Env = written (top (drop r.params (below s.run.operands))) (top s.run.operands) s.env in
        let k : Keeps Few s.env e = kept.written_keeps Few (top (drop r.params (below s.run.operands))) (top s.run.operands) o s.env st.env in
        let b : NextCall (HoldsObject (frame_at s.run.frame e.frames)) todo = next_call (HoldsLoose (here s)) (λ p. HoldsLoose (here s) p → HoldsObject (frame_at s.run.frame e.frames) p) (HoldsObject (frame_at s.run.frame e.frames)) (λ p x y. y x) todo l f in
        inl (bound_in todo _ e (kept.keeps_at Few s.run.frame todo s.callers k) (call_bound Few (frame_at s.run.frame e.frames) todo (call_kept Few (here s) (frame_at s.run.frame e.frames) (k.lists s.run.frame) todo h)) (call_next Few (HoldsObject (frame_at s.run.frame e.frames)) (here s) todo h b))

    -- a place is bound, by an object or aside
    pub binding : (todo : List Todo) → PutsAside todo s → KeepsAt Few s.run.frame todo s.callers s.env (written (top (below s.run.operands)) (top s.run.operands) s.env)
    binding todo (inl l) = kept.keeps_at Few s.run.frame todo s.callers (kept.written_keeps Few (top (below s.run.operands)) (top s.run.operands) l s.env st.env)
    binding todo (inr a) = kept.written_aside Few (top (below s.run.operands)) (top s.run.operands) s.run.frame todo s.callers s.env a st.env

    pub bound : (todo : List Todo) → NextDrop (λ p. HoldsLoose (here s) p → HoldsObject (frame_at s.run.frame (written (top (below s.run.operands)) (top s.run.operands) s.env).frames) p) todo → KeepsAt Few s.run.frame todo s.callers s.env (written (top (below s.run.operands)) (top s.run.operands) s.env) → AtDrop Few (here s) todo → NextDrop (HoldsLoose (here s)) todo → CountedStep Few (piece.goes todo (top s.run.operands ∷ below (below s.run.operands)) (in_env (written (top (below s.run.operands)) (top s.run.operands) s.env) s))
    bound todo f k h l =
        let e : Env = written (top (below s.run.operands)) (top s.run.operands) s.env in
        let b : NextDrop (HoldsObject (frame_at s.run.frame e.frames)) todo = next_drop (HoldsLoose (here s)) (λ p. HoldsLoose (here s) p → HoldsObject (frame_at s.run.frame e.frames) p) (HoldsObject (frame_at s.run.frame e.frames)) (λ p x y. y x) todo l f in
        bound_in todo _ e k (drop_bound Few (frame_at s.run.frame e.frames) todo (k.drop h)) (drop_next Few (HoldsObject (frame_at s.run.frame e.frames)) (here s) todo h b)

    pub condition : (n : ℕ) (i : Option ℕ) (todo : List Todo) → There todo → CountedStep Few (monitors.condition_step n i todo s)
    condition n None todo h = go todo _ h
    condition n (Some i) todo h = go todo _ h

    pub accept_by : (mask q site : ℕ) (todo : List Todo) (vs : List Value) → There todo → CountedStep Few (monitors.accept_by mask q site todo vs s)
    accept_by zero q site todo vs h = go _ _ h
    accept_by (suc mask) q site todo vs h = unless q _ todo h (go _ _ (tt, (tt, h)))

    pub failed : (b : Bool) (todo : List Todo) (vs : List Value) → There todo → CountedStep Few (monitors.failed_step b todo vs s)
    failed true todo vs h = go _ _ h
    failed false todo vs h = go _ _ (tt, h)

    -- events

    pend : (n : Exec) (e : Event) (todo : List Todo) (vs : List Value) → There todo → CountedStep Few (polls.pend_step n e todo vs s)
    pend n e todo vs h =
        either (CountedStep Few) (nat_lt (length (inside.pending_at n s.env)) PENDING_EVENTS) _ _ (go_in _ _ _ (kept.links_keeps Few (λ l. record l { pending = l.pending ++ (record { event = e.number; x = e.x; y = e.y }) ∷ [] }) n s.env st.env) h) (go todo vs h)

    pend_at : (x : Option Exec) (e : Event) (todo : List Todo) (vs : List Value) → There todo → CountedStep Few (polls.pend_at x e todo vs s)
    pend_at None e todo vs h = go todo vs h
    pend_at (Some n) e todo vs h = either (CountedStep Few) (sw.is_live (Some n) s.env) _ _ (pend n e todo vs h) (go todo vs h)

    pub raise_at : (v : Value) (e : Event) (todo : List Todo) (vs : List Value) → There todo → CountedStep Few (polls.raise_at_step v e todo vs s)
    raise_at (Object q) e todo vs h = go todo vs h
    raise_at v e todo vs h = pend_at (piece.exec_at v s.env) e todo vs h

    pub enables : (events cell : ℕ) (todo : List Todo) → There todo → CountedStep Few (polls.enable_step events cell todo s)
    enables events cell todo h =
        let k : Keeps Few s.env (written (piece.variable_at cell s) (Number (signed_64 s.env.links.enabled)) s.env) = kept.written_keeps Few (piece.variable_at cell s) (Number (signed_64 s.env.links.enabled)) tt s.env st.env in
        go_in _ _ _ (kept.keeps_both Few k (kept.keeps_like Few k.env refl refl refl)) h

    quiet_poll : (x : Option Pending) (todo : List Todo) → There todo → CountedStep Few (polls.quiet_poll x todo s)
    quiet_poll None todo h = go _ _ h
    quiet_poll (Some p) todo h = go_in _ _ _ (like refl refl refl) (tt, h)

    poll_by : (b : Bool) (todo : List Todo) → There todo → CountedStep Few (polls.poll_by b todo s)
    poll_by true todo h = go _ _ (tt, h)
    poll_by false todo h = quiet_poll (inside.oldest_enabled s.env.links) todo h

    pub poll : (todo : List Todo) → There todo → CountedStep Few (polls.poll_step todo s)
    poll todo h = either (CountedStep Few) (nat_eq s.env.links.enabled 0) _ _ (go todo _ h) (poll_by (inside.is_own s.env) todo h)

    pub deliver : (v : Value) (todo : List Todo) → There todo → CountedStep Few (polls.deliver_step v todo s)
    deliver Nothing todo h = go _ _ h
    deliver v todo h = go _ _ (tt, (tt, h))

    -- the running activation is told anew
    told : (b : Active) → b.frame ≡ s.run.frame → There b.control → CountedState Few (record s { run = b })
    told b e h = record {
      frames = st.frames;
      stack = (subst (λ f. f ≤ length s.callers) (sym e) st.stack.0, inl (subst (λ f. AllCounted Few (frame_at f s.env.frames) b.control) (sym e) h), st.stack.2);
      env = st.env;
    }

    pub throws : (e : Event) (todo : List Todo) → There todo → CountedStep Few (raising.throw_step e todo s)
    throws e todo h = told _ refl (all_left Few (here s) todo h)

    -- the handler of a resumption begins
    handles : (o : Option Found) (e : Event) (todo : List Todo) → FoundTo (suc (length s.callers)) o → There todo → CountedStep Few (raising.handle_step o e todo s)
    handles None e todo f h = throws e todo h
    handles (Some x) e todo f h =
        let n = st.frames in
        record {
          frames = ap suc st.frames;
          stack = (f.0, inl (handled (frame_at x.frame ([] ∷ s.env.frames)) x.handler [] f.1 tt), stack_newer Few [] s.env.frames (record s.run { control = piece.DropNow ∷ todo; operands = below (below (below s.run.operands)) } ∷ s.callers) (omega (arith, n)) (st.stack.0, inl (tt, h), st.stack.2));
          env = kept.like Few st.env refl refl;
        }

    pub raises : (e : Event) (todo : List Todo) → There todo → CountedStep Few (raising.raise_step e todo s)
    raises e todo h =
        handles (raising.seek None e (record s.run { control = todo } ∷ s.callers)) e todo (seek_to s.env.frames (suc (length s.callers)) None e (record s.run { control = todo } ∷ s.callers) (omega arith) (st.stack.0, inl h, st.stack.2)) h

    -- unwinding

    catches : (x : Option Handler) (e : Event) (todo : List Todo) → HandlerBegins x → There todo → CountedStep Few (raising.catch_step x e todo s)
    catches None e todo b h = go _ _ (all_left Few (here s) todo h)
    catches (Some x) e todo b h = told _ refl (handled (here s) x todo b h)

    guarded : (hs : Handlers) (w : Option UnwindReason) (todo : List Todo) → HandlersBegin hs → There todo → CountedStep Few (raising.guard_left hs w todo s)
    guarded hs (Some (reason.Event n y z)) todo b h = catches (raising.handler_for false (record { number = n; x = y; y = z }) hs) (record { number = n; x = y; y = z }) todo (handler_begins false (record { number = n; x = y; y = z }) hs b) h
    guarded hs w todo b h = go _ _ (all_left Few (here s) todo h)

    whole : (b : Bool) (todo : List Todo) → There todo → CountedStep Few (raising.whole_left b todo s)
    whole true todo h = told _ refl h
    whole false todo h = go _ _ (all_left Few (here s) todo h)

    scope : (c : CleanUp) (b : Bool) (todo : List Todo) → There todo → CountedStep Few (raising.scope_left c b todo s)
    scope src.Leaves true todo h = told _ refl (tt, all_left Few (here s) todo h)
    scope c b todo h = go (raising.left_todo c (piece.Unwind ∷ todo)) [] (left_cleans (here s) c (piece.Unwind ∷ todo) (all_left Few (here s) todo h))

    main_left : (w : Option UnwindReason) (todo : List Todo) → There todo → CountedStep Few (raising.main_left w todo s)
    main_left (Some (reason.ReturnTo n)) todo h = told _ refl (tt, h)
    main_left w todo h = go todo [] h

    coroutine_left : (w : Option UnwindReason) (todo : List Todo) → There todo → CountedStep Few (raising.coroutine_left w todo s)
    coroutine_left (Some (reason.ReturnTo n)) todo h = told _ refl (tt, h)
    coroutine_left (Some reason.Destroyed) todo h = moved _ todo _ h (kept.taken_down_rests Few (at todo [] s) (go todo [] h))
    coroutine_left w todo h = moved _ todo _ h (kept.escape_rests Few (at todo [] s) (go todo [] h))

    unwind_past : (k : Sort) (todo : List Todo) → LeftBy Few (here s) k (AllLeft Few (here s) todo) (There todo) → CountedStep Few (raising.unwind_past k todo s)
    unwind_past piece.Simple todo h = go _ _ h
    unwind_past (piece.IsLoop order t e b) todo h = go _ _ (all_left Few (here s) todo h.1)
    unwind_past piece.IsWhole todo h = whole _ todo h.1
    unwind_past (piece.IsClean x) todo h = scope x _ todo h.1
    unwind_past (piece.IsFill m b d) todo h = go _ _ (tt, h)
    unwind_past (piece.IsSweep e) todo h = go _ _ (tt, all_left Few (here s) todo h.1)
    unwind_past (piece.IsPart x) todo h = go _ _ (cleans (here s) x _ (all_left Few (here s) todo h.1))
    unwind_past (piece.IsGuard hs) todo h = guarded hs s.run.raised todo h.0 h.1
    unwind_past piece.IsFinish todo h = main_left s.run.raised todo h.1
    unwind_past piece.IsFinishCoroutine todo h = coroutine_left s.run.raised todo h.1

    pub unwinds : (todo : List Todo) → AllLeft Few (here s) todo → CountedStep Few (raising.unwind_step todo s)
    unwinds [] h = leaves s.callers st.frames st.stack.2
    unwinds (p ∷ ps) h = unwind_past (piece.sort p) ps h

    pub exits : (w : Way) (todo : List Todo) → AllLeft Few (here s) todo → CountedStep Few (quiet.exit_step w todo s)
    exits w [] h = end_step w
    exits w (p ∷ ps) h = go _ _ (left_behind (here s) w (piece.sort p) ps h)

    -- printing

    pub prints : (x : Option (List Piece)) (p : Piece) (todo : List Todo) (vs : List Value) → There todo → CountedStep Few (piece.print_step x p todo vs s)
    prints None p todo vs h = go _ _ h
    prints (Some ps) p todo vs h = go_in _ _ _ (like refl refl refl) h

    pub flushes : (x : Option (List Piece)) (todo : List Todo) (vs : List Value) → There todo → CountedStep Few (piece.flush_step x todo vs s)
    flushes None todo vs h = go _ _ h
    flushes (Some []) todo vs h = go_in _ _ _ (like refl refl refl) h
    flushes (Some (p ∷ ps)) todo vs h = go_in _ _ _ (like refl refl refl) h

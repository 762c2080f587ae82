-- A quiet step of a task in which elements of arrays of mutex objects hold numbers, or what is at home there, leads to one.
use Rattle.std.proofs.Common.{◌≡◌, ℕ, zero, suc, ◌≤◌, ◌++◌, Bool, true, false, List, [], ◌∷◌, length, drop, Option, Some, None, refl, arith, ap, ◌∙◌, subst, sym}
use Rattle.std.specs.Prelude.{nat_eq, nat_lt, if◌then◌else◌}
use Rattle.uc_tree.specs.declared.limits.TheConstants.{CALLS, PENDING_EVENTS}
use Rattle.uc_tree.specs.Source as src
use Rattle.uc_tree.specs.Source.{Shape, Expr, ObjectExpr, Stmt, Stmts, EventStmt, TaskStmt, Routine, Purpose, Order, Way, CleanUp, Handlers, Clauses, Raised, Item}
use Rattle.uc_entry.specs.declared.request.Piece.{Piece}
use Rattle.uc_entry.specs.Keyed.{find, signed_64}
use Rattle.uc_machine.specs.declared.exec.Exec.{Exec}
use Rattle.uc_machine.specs.declared.exec.Owner.TheVariants.{Frame, Fields}
use Rattle.uc_machine.specs.declared.exec.Pending.{Pending}
use Rattle.uc_machine.specs.declared.exec.UnwindReason.{UnwindReason}
use Rattle.uc_machine.specs.declared.exec.UnwindReason.TheVariants as reason
use Rattle.uc_machine.specs.declared.exec.Visited.{Visited}
use Rattle.uc_machine.specs.Executions.{others, exec_eq, frame_changed, values_cleared, change, frames_changed}
use Rattle.uc_machine.specs.Switches as sw
use Rattle.uc_machine.specs.Switches.{Moved, To, Stops}
use Rattle.uc_machine.specs.Insides as inside
use Rattle.uc_machine.specs.Raising as raising
use Rattle.uc_machine.specs.Raising.{Event, Handler, Found, Hit}
use Rattle.uc_machine.specs.Monitors as monitors
use Rattle.uc_machine.specs.Polls as polls
use Rattle.uc_machine.specs.Quiet as quiet
use Rattle.uc_machine.specs.Pieces as piece
use Rattle.uc_machine.specs.Pieces.{Link, Slot, Value, Number, Place, Running, Object, Nothing, LAST_ADDRESS, Todo, Sort, Active, State, Env, Step, Outcome, Gives, Faults, at, in_env, turns, top, below, nought, address, written}
use Rattle.uc_state_laws.specs.Clusters.{Begins, HandlersBegin}
use Rattle.uc_state_laws.specs.Counted.{params_at}
use Rattle.uc_state_laws.specs.ThereStates.{RoutineBegins, BodiesBegin}
use Rattle.uc_state_laws.proofs.ValueSteps.{exec_same}
use Rattle.uc_life_laws.specs.Things.{Few}
use Rattle.uc_life_laws.specs.LifeStates.{frame_at}
use Rattle.uc_life_laws.proofs.HomedCells.{either, set_length, others_length}
use Rattle.uc_life_laws.proofs.Parked as parked
use Rattle.uc_place_laws.specs.Siting.{MakesMutex}
use Rattle.uc_homed_ends.specs.BoundHomes.{LeftBy}
use Rattle.uc_homed_ends.specs.ArrayHomes.{NextArray, PassArray, NoArray, FillsBy, Arrays, ArraysLeft, Each, AreFree, ArrayStack, ArrayEx, ArrayState, ArrayStep, Spares, StackSpares, ValueSpares}
use Rattle.uc_homed_ends.proofs.BoundSteps.{here, HandlerBegins, handler_begins, HitBegins, hit_or, FoundTo, found_or}
use Rattle.uc_homed_ends.proofs.ArrayCells.{begins_none, next_more, all_left, left_on, stack_cleared, list_cleared, stack_newer, stack_older}
use Rattle.uc_homed_ends.proofs.ArrayKeeping as kept
use Rattle.uc_homed_ends.proofs.ArrayKeeping.{Keeps, KeepsAt}

-- to-do lists

module _ (P : ℕ → ℕ → Type 0) where
  hit_left : (k : Sort) (n : ℕ) (e : Event) (ps : List Todo) → LeftBy k (ArraysLeft P ps) (Arrays P ps) → HitBegins (raising.hit_in e ps) → HitBegins (raising.hit_by k n e (raising.hit_in e ps))
  hit_left (piece.IsGuard hs) n e ps h k = hit_or (raising.handler_for true e hs) n (raising.hit_in e ps) (handler_begins true e hs h.0) k
  hit_left s n e ps h k = k

  pub hit_in : (e : Event) (todo : List Todo) → ArraysLeft P todo → HitBegins (raising.hit_in e todo)
  hit_in e [] h = tt
  hit_in e (p ∷ ps) h = hit_left (piece.sort p) (raising.count_round ps) e ps h (hit_in e ps (left_on P (piece.sort p) ps h))

  pub all_within : (n : ℕ) (todo : List Todo) → ArraysLeft P todo → ArraysLeft P (raising.within n todo)
  all_within n [] h = tt
  all_within n (p ∷ ps) h = either (ArraysLeft P) (nat_eq (raising.count_round (p ∷ ps)) n) (p ∷ ps) (raising.within n ps) h (all_within n ps (left_on P (piece.sort p) ps h))

  pub behind : (p : Purpose) (line : ℕ) → Arrays P (quiet.behind_body p line)
  behind src.TaskMain line = (tt, (tt, tt))
  behind src.CoroutineMain line = (tt, (tt, tt))
  behind src.Procedure line = (tt, tt)
  behind src.Function line = (tt, (tt, tt))
  behind src.Builder line = tt

  pub routine : (r : Routine) → Begins r.body → Arrays P (quiet.routine_todo r)
  routine r b = (begins_none P r.body b, behind r.purpose r.line)

  pub starts : (cell : ℕ) (v : Option Expr) (todo : List Todo) → Arrays P todo → Arrays P (quiet.starting cell v todo)
  starts cell None todo h = h
  starts cell (Some e) todo h = (tt, ((tt, (tt, h))))

  pub converts : (k : Shape) (todo : List Todo) → Arrays P todo → Arrays P (quiet.converting k todo)
  converts src.Character todo h = (tt, h)
  converts src.Truth todo h = (tt, h)
  converts k todo h = h

  pub stepped : (e : Option Expr) (todo : List Todo) → Arrays P todo → Arrays P (quiet.step_todo e todo)
  stepped None todo h = h
  stepped (Some e) todo h = (tt, (tt, h))

  pub tested : (order : Order) (t : Expr) (e : Option Expr) (b : Stmt) (todo : List Todo) → Arrays P todo → Arrays P (quiet.test_todo order t e b todo)
  tested src.TestFirst t e b todo h = (tt, (tt, h))
  tested src.BodyFirst t e b todo h = (tt, (tt, h))
  tested src.NoTest t e b todo h = (tt, h)

  pub looped : (order : Order) (t : Expr) (e : Option Expr) (b : Stmt) (todo : List Todo) → Arrays P todo → Arrays P (quiet.loop_todo order t e b todo)
  looped src.TestFirst t e b todo h = (tt, (tt, h))
  looped src.BodyFirst t e b todo h = (tt, h)
  looped src.NoTest t e b todo h = (tt, h)

  pub loop_left : (w : Way) (order : Order) (t : Expr) (e : Option Expr) (b : Stmt) (todo : List Todo) → Arrays P todo → Arrays P (quiet.loop_left w order t e b todo)
  loop_left src.ToBreak order t e b todo h = h
  loop_left src.ToContinue order t e b todo h = (tt, h)
  loop_left src.ToReturn order t e b todo h = all_left P todo h
  loop_left src.ToEnd order t e b todo h = all_left P todo h

  pub left_behind : (w : Way) (k : Sort) (todo : List Todo) → LeftBy k (ArraysLeft P todo) (Arrays P todo) → Arrays P (quiet.left_behind w k todo)
  left_behind w piece.Simple todo h = h
  left_behind w (piece.IsLoop order t e b) todo h = loop_left w order t e b todo h.1
  left_behind w piece.IsWhole todo h = h.1
  left_behind w (piece.IsClean x) todo h = (tt, all_left P todo h.1)
  left_behind w (piece.IsFill m b d) todo h = h
  left_behind w (piece.IsSweep e) todo h = all_left P todo h.1
  left_behind w (piece.IsPart x) todo h = all_left P todo h.1
  left_behind w (piece.IsGuard hs) todo h = all_left P todo h.1
  left_behind w piece.IsFinish todo h = (tt, h.1)
  left_behind w piece.IsFinishCoroutine todo h = (tt, h.1)

  pub filled : (b : Bool) (n : ℕ) (e d : Expr) (todo : List Todo) → PassArray (λ k m. MakesMutex e) todo → Arrays P todo → Arrays P (quiet.fill_todo b n e d todo)
  filled false n e d todo m h = h
  filled true n e d todo m h = (tt, (tt, (tt, (m, h))))

  pub raised : (r : Raised) (todo : List Todo) → Arrays P todo → Arrays P (raising.raised_todo r todo)
  raised (src.Plainly n) todo h = (tt, ((tt, ((tt, h)))))
  raised (src.BuiltAt n c e) todo h = (tt, (tt, (tt, (tt, ((tt, ((tt, h))))))))
  raised (src.AgainFrom c) todo h = (tt, ((tt, ((tt, h)))))

  pub handled : (x : Handler) (todo : List Todo) → Begins x.body → Arrays P todo → Arrays P (raising.handler_todo x todo)
  handled x todo b h = (tt, (tt, (tt, (tt, (tt, (tt, (begins_none P x.body b, (tt, h))))))))

  pub cleans : (c : CleanUp) (todo : List Todo) → Arrays P todo → Arrays P (piece.clean_todo c todo)
  cleans (src.Destroys e) todo h = (tt, (tt, h))
  cleans (src.DestroysAll k e) todo h = (tt, (tt, h))
  cleans src.Unwinds todo h = (tt, h)
  cleans src.Forgets todo h = (tt, h)
  cleans src.Leaves todo h = (tt, h)
  cleans src.Ends todo h = (tt, h)
  cleans (src.Frees None) todo h = (tt, h)
  cleans (src.Frees (Some r)) todo h = (tt, h)
  cleans (src.Restores k) todo h = (tt, h)

  pub left_cleans : (c : CleanUp) (todo : List Todo) → Arrays P todo → Arrays P (raising.left_todo c todo)
  left_cleans (src.Frees r) todo h = (tt, h)
  left_cleans c todo h = cleans c todo h

  -- a statement before which no such scope is known to stand
  pub chosen : (a : Stmt) (todo : List Todo) → NextArray NoArray todo → Arrays P todo → Arrays P (piece.Do a ∷ todo)
  chosen a todo n h = (next_more NoArray (λ k m. FillsBy a) (λ k m x. absurd x) todo n, h)

  pub branch : (k : ℕ) (cs : Clauses) (todo : List Todo) → NextArray NoArray todo → Arrays P todo → Arrays P (monitors.branch_todo k cs todo)
  branch k src.NoClauses todo n h = h
  branch k (src.Otherwise b) todo n h = either (Arrays P) (nat_eq k 0) (piece.Do b ∷ todo) todo (chosen b todo n h) h
  branch zero (src.MoreClauses guard b cs) todo n h = branch zero cs todo n h
  branch (suc zero) (src.MoreClauses guard b cs) todo n h = chosen b todo n h
  branch (suc (suc k)) (src.MoreClauses guard b cs) todo n h = branch (suc k) cs todo n h

  pub item : (i : Item) (todo : List Todo) → Arrays P todo → Arrays P (quiet.item_todo i todo)
  item (src.Show f e) todo h = (tt, (tt, h))
  item (src.ShowText k) todo h = (tt, h)

  pub item_value : (i : Item) (todo : List Todo) → Arrays P todo → Arrays P (quiet.item_value i todo)
  item_value (src.Show f e) todo h = (tt, h)
  item_value (src.ShowText k) todo h = h

  pub item_piece : (i : Item) (todo : List Todo) → Arrays P todo → Arrays P (quiet.item_piece i ∷ todo)
  item_piece (src.Show f e) todo h = (tt, h)
  item_piece (src.ShowText k) todo h = (tt, h)

  pub polled : (w : Option UnwindReason) (todo : List Todo) → Arrays P todo → Arrays P (monitors.leave_todo w todo)
  polled None todo h = (tt, h)
  polled (Some why) todo h = h

module _ (few : Few) where
  -- elements of an array in the frame of the running activation
  abbrev pub Now : State → ℕ → ℕ → Type 0
  Now s = AreFree few s.env.exec (here s) s.run.frame

  seek_to : (m : Exec) (fs : List (List Value)) (n : ℕ) (v : Option Visited) (e : Event) (cs : List Active) → length cs ≤ n → ArrayStack few m fs cs → FoundTo n (raising.seek v e cs)
  seek_to m fs n None e [] l h = tt
  seek_to m fs n (Some v) e [] l h = tt
  seek_to m fs n None e (a ∷ cs) l h =
      let d = h.0 in
      found_or n (raising.hit_in e a.control) a cs (raising.seek a.handles e cs) (omega (arith, d, l)) (hit_in (AreFree few m (frame_at a.frame fs) a.frame) e a.control (all_left (AreFree few m (frame_at a.frame fs) a.frame) a.control h.1)) (seek_to m fs n a.handles e cs (omega (arith, l)) h.2)
  seek_to m fs n (Some v) e (a ∷ cs) l h =
      let d = h.0 in
      either (FoundTo n) (nat_eq (length cs) v.level) (raising.found_or (raising.hit_in e (raising.within v.rest a.control)) a cs (raising.seek a.handles e cs)) (raising.seek (Some v) e cs) (found_or n (raising.hit_in e (raising.within v.rest a.control)) a cs (raising.seek a.handles e cs) (omega (arith, d, l)) (hit_in (AreFree few m (frame_at a.frame fs) a.frame) e (raising.within v.rest a.control) (all_within (AreFree few m (frame_at a.frame fs) a.frame) v.rest a.control (all_left (AreFree few m (frame_at a.frame fs) a.frame) a.control h.1))) (seek_to m fs n a.handles e cs (omega (arith, l)) h.2)) (seek_to m fs n (Some v) e cs (omega (arith, l)) h.2)

  module _ (s : State) (st : ArrayState few s) where
    abbrev There : List Todo → Type 0
    There todo = Arrays (Now s) todo

    -- with something else to do, and other operands
    pub go : (todo : List Todo) (vs : List Value) → There todo → ArrayState few (at todo vs s)
    go todo vs h = record { frames = st.frames; stack = (st.stack.0, h, st.stack.2); env = st.env }

    -- and with another rest of the task
    pub go_in : (todo : List Todo) (vs : List Value) (e : Env) → Keeps few s.env e → There todo → ArrayState few (at todo vs (in_env e s))
    go_in todo vs e k h = kept.with_env few (at todo vs s) (go todo vs h) k

    -- where something is written that spares all elements
    pub go_at : (todo : List Todo) (vs : List Value) (e : Env) → KeepsAt few s.run.frame todo s.callers s.env e → There todo → ArrayState few (at todo vs (in_env e s))
    go_at todo vs e k h = record {
      frames = k.frames ∙ st.frames;
      stack = (st.stack.0, subst (λ n. Arrays (AreFree few n (frame_at s.run.frame e.frames) s.run.frame) todo) (sym k.exec) (k.list h), subst (λ n. ArrayStack few n e.frames s.callers) (sym k.exec) (k.stack st.stack.2));
      env = k.env;
    }

    -- nothing that is told of changes
    pub same : {e : Env} → e.exec ≡ s.env.exec → e.frames ≡ s.env.frames → e.hand ≡ s.env.hand → e.house ≡ s.env.house → e.own ≡ s.env.own → Keeps few s.env e
    same x q h g o = kept.keeps_like few st.env x q h g o

    -- the end of an activation

    -- those that wait, with a frame less
    less : (a : Active) (cs : List Active) → length s.env.frames ≡ suc (length (a ∷ cs)) → ArrayStack few s.env.exec s.env.frames (a ∷ cs) → ArrayStack few s.env.exec (others s.env.frames) (a ∷ cs)
    less a cs l h =
        let n : length (others s.env.frames) ≡ suc (length cs) = others_length s.env.frames (length cs) l in
        stack_older few s.env.exec s.env.frames (a ∷ cs) (omega (arith, n)) h

    pub returned : (given : Value) (cs : List Active) → length s.env.frames ≡ suc (length cs) → ArrayStack few s.env.exec s.env.frames cs → ArrayStep few (piece.return_step given cs s)
    returned given [] l h = st
    returned given (a ∷ cs) l h =
        let k = less a cs l h in
        record { frames = others_length s.env.frames (length cs) l; stack = (k.0, k.1, k.2); env = kept.like few st.env refl refl refl }

    past : (v : Visited) (given : Value) (cs : List Active) → length s.env.frames ≡ suc (length cs) → ArrayStack few s.env.exec s.env.frames cs → ArrayStep few (raising.return_past v given cs s)
    past v given [] l h = st
    past v given (a ∷ cs) l h =
        let k = less a cs l h in
        record { frames = others_length s.env.frames (length cs) l; stack = (k.0, all_left (AreFree few s.env.exec (frame_at a.frame (others s.env.frames)) a.frame) a.control k.1, k.2); env = kept.like few st.env refl refl refl }

    end_by : (v : Option Visited) (given : Value) → ArrayStep few (raising.end_by v given s)
    end_by None given = returned given s.callers st.frames st.stack.2
    end_by (Some v) given = past v given s.callers st.frames st.stack.2

    end_step : (w : Way) → ArrayStep few (quiet.end_step w s)
    end_step src.ToReturn = end_by s.run.handles _
    end_step src.ToEnd = end_by s.run.handles _
    end_step src.ToBreak = returned _ s.callers st.frames st.stack.2
    end_step src.ToContinue = returned _ s.callers st.frames st.stack.2

    pass_on : (w : Option UnwindReason) (c : Active) (cs : List Active) → length s.env.frames ≡ suc (length (c ∷ cs)) → ArrayStack few s.env.exec s.env.frames (c ∷ cs) → ArrayStep few (raising.pass_on w c cs s)
    pass_on None c cs l h = st
    pass_on (Some why) c cs l h =
        let k = less c cs l h in
        record { frames = others_length s.env.frames (length cs) l; stack = (k.0, all_left (AreFree few s.env.exec (frame_at c.frame (others s.env.frames)) c.frame) c.control k.1, k.2); env = kept.like few st.env refl refl refl }

    leave_for : (b : Bool) (c : Active) (cs : List Active) → length s.env.frames ≡ suc (length (c ∷ cs)) → ArrayStack few s.env.exec s.env.frames (c ∷ cs) → ArrayStep few (raising.leave_for b c cs s)
    leave_for true c cs l h = st
    leave_for false c cs l h = pass_on s.run.raised c cs l h

    leaves : (cs : List Active) → length s.env.frames ≡ suc (length cs) → ArrayStack few s.env.exec s.env.frames cs → ArrayStep few (raising.leave_step cs s)
    leaves [] l h = st
    leaves (c ∷ cs) l h =
        either (ArrayStep few) (raising.arrives s.run.raised (length (c ∷ cs))) _ _ (returned s.run.result (c ∷ cs) l h) (leave_for _ c cs l h)

    pub moved : (m : Moved (List Todo) Value) (todo : List Todo) (vs : List Value) → There todo → kept.LifeMoved few m → ArrayStep few (piece.moves m (at todo vs s))
    moved (To t) todo vs h m = m
    moved (Stops f) todo vs h m = go todo vs h

    pub outcome : (x : Outcome) (todo : List Todo) (vs : List Value) → There todo → ArrayStep few (piece.outcome_step x todo vs s)
    outcome (Gives n) todo vs h = go todo _ h
    outcome (Faults f) todo vs h = go todo _ h

    pub element : (n : Shape) (i : Option ℕ) (todo : List Todo) (v : Value) (vs : List Value) → There todo → ArrayStep few (piece.element_step n i todo v vs s)
    element n None todo v vs h = go todo _ h
    element n (Some i) todo v vs h = go todo _ h

    -- expressions

    object : (x : ObjectExpr) (todo : List Todo) → There todo → ArrayStep few (quiet.object_step x todo s)
    object src.This todo h = go _ _ h
    object (src.OwnField k i) todo h = go _ _ h
    object (src.GetOwn k i) todo h = go _ _ h
    object (src.FieldOf k i a) todo h = go _ _ (tt, (tt, h))
    object src.Counted todo h = go _ _ h
    object (src.CallOn r a args) todo h = go _ _ (tt, (tt, (tt, (tt, h))))
    object (src.CallLive r a args) todo h = go _ _ (tt, (tt, (tt, (tt, (tt, h)))))
    object (src.CallUnwritten r a) todo h = go _ _ (tt, (tt, h))
    object (src.EnterOn m r a args) todo h = go _ _ (tt, (tt, (tt, (tt, (tt, h)))))
    object (src.EndOn r false a) todo h = go _ _ (tt, (tt, (tt, h)))
    object (src.EndOn r true a) todo h = go _ _ (tt, (tt, (tt, (tt, h))))
    object (src.Bind a b) todo h = go _ _ (tt, (tt, (tt, h)))
    object (src.MakeOn c r false a args) todo h = go _ _ (tt, (tt, (tt, (tt, h))))
    object (src.MakeOn c r true a args) todo h = go _ _ (tt, (tt, (tt, (tt, (tt, h)))))
    object src.NewCluster todo h = go _ _ (tt, h)
    object (src.NewProcessor a) todo h = go _ _ (tt, (tt, h))
    object (src.EndCluster a) todo h = go _ _ (tt, (tt, h))
    object (src.EndProcessor a) todo h = go _ _ (tt, (tt, h))
    object (src.ConditionAt k m a) todo h = go _ _ (tt, (tt, h))
    object (src.Wait a b) todo h = go _ _ (tt, ((tt, (tt, (tt, h)))))
    object (src.Signal a) todo h = go _ _ (tt, (tt, h))
    object (src.SignalBlock a) todo h = go _ _ (tt, (tt, h))
    object (src.IsEmpty a) todo h = go _ _ (tt, (tt, h))
    object (src.FrontOf a) todo h = go _ _ (tt, (tt, h))

    pub eval : (a : Expr) (todo : List Todo) → There todo → ArrayStep few (quiet.eval_step a todo s)
    eval (src.Literal k) todo h = go _ _ h
    eval (src.Variable k) todo h = go _ _ h
    eval (src.Element m k a i) todo h = go _ _ (tt, (tt, (tt, h)))
    eval (src.Get k) todo h = go _ _ h
    eval (src.Load a) todo h = go _ _ (tt, (tt, h))
    eval (src.Negated a) todo h = go _ _ (tt, (tt, h))
    eval (src.Not a) todo h = go _ _ (tt, (tt, h))
    eval (src.AsCharacter a) todo h = go _ _ (tt, (tt, h))
    eval (src.AsTruth a) todo h = go _ _ (tt, (tt, h))
    eval (src.Operate op a b) todo h = go _ _ (tt, (tt, (tt, h)))
    eval (src.And a b) todo h = go _ _ (tt, (tt, h))
    eval (src.Or a b) todo h = go _ _ (tt, (tt, h))
    eval (src.Set k a) todo h = go _ _ (tt, (tt, h))
    eval (src.Assign p a) todo h = go _ _ (tt, (tt, (tt, h)))
    eval (src.First a b) todo h = go _ _ (tt, (tt, (tt, h)))
    eval (src.Update op k p a) todo h = go _ _ (tt, (tt, (tt, (tt, (tt, converts (Now s) k _ (tt, h))))))
    eval (src.StepBehind op k p) todo h = go _ _ (tt, (tt, (tt, (tt, (tt, (tt, (tt, converts (Now s) k _ (tt, (tt, h)))))))))
    eval src.Fail todo h = go _ _ h
    eval (src.Call r args) todo h = go _ _ (tt, (tt, (tt, h)))
    eval (src.OfObject x) todo h = object x todo h

    -- statements

    pub swept : (n : ℕ) (e : Expr) (todo : List Todo) → There todo → ArrayStep few (quiet.sweep_step n e todo s)
    swept zero e todo h = go _ _ h
    swept (suc m) e todo h = record { frames = st.frames; stack = (st.stack.0, ((tt, (tt, (tt, h)))), st.stack.2); env = st.env }

    event_step : (a : EventStmt) (todo : List Todo) → BodiesBegin (src.OfEvents a) → There todo → ArrayStep few (quiet.event_step a todo s)
    event_step (src.Throw line r) todo b h = go _ _ (raised (Now s) r _ (tt, (tt, h)))
    event_step (src.Raise line r) todo b h = go _ _ (raised (Now s) r _ (tt, (tt, h)))
    event_step (src.Try line body hs) todo b h = go _ _ (begins_none (Now s) body b.0, (b.1, (tt, h)))
    event_step (src.RaiseAt line r a) todo b h = go _ _ (raised (Now s) r _ ((tt, (tt, (tt, h)))))
    event_step (src.Enable line events cell a) todo b h = go _ _ (tt, (tt, (tt, (tt, (tt, h)))))
    event_step (src.Disable line events cell a) todo b h = go _ _ (tt, (tt, (tt, (tt, h))))

    task_step : (a : TaskStmt) (todo : List Todo) → There todo → ArrayStep few (quiet.task_step a todo s)
    task_step (src.Resume line) todo h = go _ _ (tt, (tt, (tt, h)))
    task_step (src.Suspend line) todo h = go _ _ (tt, (tt, (tt, h)))
    task_step (src.SetUp r) todo h = go _ _ (tt, h)
    task_step src.Enliven todo h = go _ _ (tt, h)
    task_step src.TakeDown todo h = go _ _ (tt, h)
    task_step (src.Yield line) todo h = go _ _ (tt, (tt, (tt, h)))
    task_step (src.Migrate line a) todo h = go _ _ (tt, (tt, (tt, h)))
    task_step (src.Accept line site cs) todo h = go _ _ (tt, (tt, (tt, (tt, h))))

    pub stmts : (a : Stmt) (todo : List Todo) → BodiesBegin a → There (piece.Do a ∷ todo) → ArrayStep few (quiet.stmt_step a todo s)
    stmts (src.Skip line) todo f h = go _ _ h.1
    stmts (src.Block line body) todo f h = go _ _ (begins_none (Now s) body f, (tt, h.1))
    stmts (src.Whole line body) todo f h = go _ _ (begins_none (Now s) body f, (tt, (tt, h.1)))
    stmts (src.Evaluate line a) todo f h = go _ _ (tt, (tt, (tt, h.1)))
    stmts (src.Declare line ds) todo f h = go _ _ (tt, (tt, h.1))
    stmts (src.Print line items) todo f h = go _ _ (tt, (tt, h.1))
    stmts (src.PrintTogether line items) todo f h = go _ _ (tt, (tt, (tt, (tt, (tt, h.1)))))
    stmts (src.Read line ts) todo f h = go _ _ (tt, (tt, h.1))
    stmts (src.If line t a b) todo f h = go _ _ (tt, (tt, (tt, h.1)))
    stmts (src.Loop line order t e b) todo f h = go _ _ (looped (Now s) order t e b _ (tt, h.1))
    stmts (src.Break line) todo f h = go _ _ (all_left (Now s) todo h.1)
    stmts (src.Continue line) todo f h = go _ _ (all_left (Now s) todo h.1)
    stmts (src.Return line None) todo f h = go _ _ (all_left (Now s) todo h.1)
    stmts (src.Return line (Some e)) todo f h = go _ _ (tt, (all_left (Now s) (piece.Within line ∷ todo) (tt, h.1)))
    stmts (src.Owes line) todo f h = go _ _ (tt, (tt, h.1))
    stmts (src.Fill line m b d) todo f h = go _ _ (tt, (h.0, (tt, h.1)))
    stmts (src.OfEvents a) todo f h = event_step a todo f h.1
    stmts (src.OfTasks a) todo f h = task_step a todo h.1

    -- cells start anew
    pub clears : (k m : ℕ) (todo : List Todo) → There todo → ArrayStep few (quiet.turns todo (in_env (piece.cleared k m s) s))
    clears k m todo h =
        subst (λ (b : Bool). ArrayState few (at todo s.run.operands (in_env (if b then record s.env { frames = frame_changed s.run.frame (values_cleared k m nought) s.env.frames } else change s.env.exec.home (frames_changed s.env.exec.serial (frame_changed s.run.frame (values_cleared k m nought))) s.env) s))) (sym (exec_same s.env.exec)) (record {
          frames = set_length s.env.frames s.run.frame (values_cleared k m nought (here s)) ∙ st.frames;
          stack = (st.stack.0, (list_cleared few s.env.exec s.run.frame k m s.env.frames s.run.frame todo h), stack_cleared few s.env.exec s.run.frame k m s.env.frames s.callers st.stack.2);
          env = kept.like few st.env refl refl refl;
        })

    -- calls

    begun : (r : Routine) (this : Value) (counts : Bool) (todo : List Todo) (vs : List Value) → Begins r.body → There todo → ArrayStep few (quiet.begun_step r this counts todo vs s)
    begun r this counts todo vs b h =
        let n = st.frames in
        record {
          frames = ap suc st.frames;
          stack = (omega (arith, n), (routine _ r b), stack_newer few s.env.exec _ s.env.frames (record s.run { control = todo; operands = vs } ∷ s.callers) (omega (arith, n)) (st.stack.0, h, st.stack.2));
          env = kept.like few st.env refl refl refl;
        }

    pub call : (r : Option Routine) (todo : List Todo) → RoutineBegins r → There todo → ArrayStep few (quiet.call_step r todo s)
    call None todo b h = go _ _ h
    call (Some r) todo b h = either (ArrayStep few) (nat_lt s.env.links.calls CALLS) _ _ (begun r _ true todo _ b h) (go todo _ h)

    pub call_on : (r : Option Routine) (todo : List Todo) → RoutineBegins r → There todo → ArrayStep few (quiet.call_on_step r todo s)
    call_on None todo b h = go _ _ h
    call_on (Some r) todo b h = either (ArrayStep few) (nat_lt s.env.links.calls CALLS) _ _ (begun r _ true todo _ b h) (go todo _ h)

    pub call_unwritten : (r : Option Routine) (todo : List Todo) → RoutineBegins r → There todo → ArrayStep few (quiet.call_unwritten_step r todo s)
    call_unwritten None todo b h = go _ _ h
    call_unwritten (Some r) todo b h = begun r _ false todo _ b h

    -- coroutines

    fresh : (n : Exec) (r : Routine) (this : Value) → Begins r.body → ArrayEx few n (quiet.fresh r this)
    fresh n r this b = record { frames = refl; stack = (omega arith, (routine _ r b), tt) }

    pub live : (r : Option Routine) (todo : List Todo) → There todo → ArrayStep few (quiet.live_step r todo s)
    live None todo h = go _ _ h
    live (Some r) todo h = either (ArrayStep few) (sw.is_live (piece.exec_at (top (drop r.params s.run.operands)) s.env) s.env) _ _ (go todo _ h) (go todo _ h)

    pub land : (w : Option UnwindReason) (todo : List Todo) → There todo → ArrayStep few (quiet.land_step w todo s)
    land None todo h = go _ _ h
    land (Some why) todo h = go _ _ (all_left (Now s) todo h)

    -- mutex objects

    pub unless : (q : ℕ) (step : Step) (todo : List Todo) → There todo → ArrayStep few step → ArrayStep few (monitors.unless_held_up q step todo s)
    unless q step todo h k = either (ArrayStep few) (inside.is_held_up q s.env) _ step (go todo _ h) k

    enter_at : (d : Option ℕ) (q m : ℕ) (todo : List Todo) → There todo → ArrayStep few (monitors.enter_at d q m todo s)
    enter_at (Some d) q m todo h = go_in _ _ _ (same refl refl refl refl refl) h
    enter_at None q m todo h = go_in _ _ _ (same refl refl refl refl refl) h

    pub enter : (m : ℕ) (r : Option Routine) (todo : List Todo) → There todo → ArrayStep few (monitors.enter_step m r todo s)
    enter m None todo h = go _ _ h
    enter m (Some r) todo h =
        let q = piece.object_in (top (drop r.params s.run.operands)) in
        either (ArrayStep few) (monitors.may_call r.written s) _ _ (enter_at (find q s.env.depths) q m todo h) (go todo _ h)

    pub leave : (b : Bool) (q : ℕ) (todo : List Todo) → There todo → ArrayStep few (monitors.leave_at b q todo s)
    leave false q todo h = go_in _ _ _ (same refl refl refl refl refl) h
    leave true q todo h =
        unless q _ todo h (record { frames = st.frames; stack = (st.stack.0, (polled (Now s) s.run.raised todo h), st.stack.2); env = kept.like few st.env refl refl refl })

    pub make : (c n : ℕ) (r : Option Routine) (todo : List Todo) → There todo → ArrayStep few (monitors.make_step c n r todo s)
    make c n None todo h = go _ _ h
    make c n (Some r) todo h =
        either (ArrayStep few) (monitors.may_call r.written s) _ _ (go_in _ _ _ (same refl refl refl refl refl) ((tt, h))) (go todo _ h)

    pub bind : (r : Option Routine) (todo : List Todo) → ValueSpares few Each (top s.run.operands) (top (drop (params_at r) (below s.run.operands))) s.run.frame todo s.callers s.env → There todo → ArrayStep few (monitors.bind_step r todo s)
    bind None todo a h = go _ _ h
    bind (Some r) todo a h = go_at _ _ _ (kept.written_spared few (top (drop r.params (below s.run.operands))) (top s.run.operands) s.run.frame todo s.callers s.env a st.env) h

    -- a place is bound, and spares all elements
    pub binding : (todo : List Todo) → ValueSpares few Each (top s.run.operands) (top (below s.run.operands)) s.run.frame todo s.callers s.env → There todo → ArrayStep few (piece.goes todo (top s.run.operands ∷ below (below s.run.operands)) (in_env (written (top (below s.run.operands)) (top s.run.operands) s.env) s))
    binding todo a h = go_at _ _ _ (kept.written_spared few (top (below s.run.operands)) (top s.run.operands) s.run.frame todo s.callers s.env a st.env) h

    pub condition : (n : ℕ) (i : Option ℕ) (todo : List Todo) → There todo → ArrayStep few (monitors.condition_step n i todo s)
    condition n None todo h = go todo _ h
    condition n (Some i) todo h = go todo _ h

    pub accept_by : (mask q site : ℕ) (todo : List Todo) (vs : List Value) → There todo → ArrayStep few (monitors.accept_by mask q site todo vs s)
    accept_by zero q site todo vs h = go _ _ h
    accept_by (suc mask) q site todo vs h = unless q _ todo h (go _ _ (tt, (tt, h)))

    pub failed : (b : Bool) (todo : List Todo) (vs : List Value) → There todo → ArrayStep few (monitors.failed_step b todo vs s)
    failed true todo vs h = go _ _ h
    failed false todo vs h = go _ _ (tt, h)

    -- events

    pend : (n : Exec) (e : Event) (todo : List Todo) (vs : List Value) → There todo → ArrayStep few (polls.pend_step n e todo vs s)
    pend n e todo vs h =
        either (ArrayStep few) (nat_lt (length (inside.pending_at n s.env)) PENDING_EVENTS) _ _ (go_in _ _ _ (kept.links_keeps few (λ l. record l { pending = l.pending ++ (record { event = e.number; x = e.x; y = e.y }) ∷ [] }) n s.env st.env) h) (go todo vs h)

    pend_at : (x : Option Exec) (e : Event) (todo : List Todo) (vs : List Value) → There todo → ArrayStep few (polls.pend_at x e todo vs s)
    pend_at None e todo vs h = go todo vs h
    pend_at (Some n) e todo vs h = either (ArrayStep few) (sw.is_live (Some n) s.env) _ _ (pend n e todo vs h) (go todo vs h)

    pub raise_at : (v : Value) (e : Event) (todo : List Todo) (vs : List Value) → There todo → ArrayStep few (polls.raise_at_step v e todo vs s)
    raise_at (Object q) e todo vs h = go todo vs h
    raise_at v e todo vs h = pend_at (piece.exec_at v s.env) e todo vs h

    pub enables : (events cell : ℕ) (todo : List Todo) → There todo → ArrayStep few (polls.enable_step events cell todo s)
    enables events cell todo h =
        let k : Keeps few s.env (written (piece.variable_at cell s) (Number (signed_64 s.env.links.enabled)) s.env) = kept.written_number few (piece.variable_at cell s) (signed_64 s.env.links.enabled) s.env st.env in
        go_in _ _ _ (kept.keeps_both few k (kept.keeps_like few k.env refl refl refl refl refl)) h

    quiet_poll : (x : Option Pending) (todo : List Todo) → There todo → ArrayStep few (polls.quiet_poll x todo s)
    quiet_poll None todo h = go _ _ h
    quiet_poll (Some p) todo h = go_in _ _ _ (same refl refl refl refl refl) (tt, h)

    poll_by : (b : Bool) (todo : List Todo) → There todo → ArrayStep few (polls.poll_by b todo s)
    poll_by true todo h = go _ _ (tt, h)
    poll_by false todo h = quiet_poll (inside.oldest_enabled s.env.links) todo h

    pub poll : (todo : List Todo) → There todo → ArrayStep few (polls.poll_step todo s)
    poll todo h = either (ArrayStep few) (nat_eq s.env.links.enabled 0) _ _ (go todo _ h) (poll_by (inside.is_own s.env) todo h)

    pub deliver : (v : Value) (todo : List Todo) → There todo → ArrayStep few (polls.deliver_step v todo s)
    deliver Nothing todo h = go _ _ h
    deliver v todo h = go _ _ (tt, (tt, h))

    -- the running activation is told anew
    told : (b : Active) → b.frame ≡ s.run.frame → There b.control → ArrayState few (record s { run = b })
    told b e h = record {
      frames = st.frames;
      stack = (subst (λ f. f ≤ length s.callers) (sym e) st.stack.0, subst (λ f. Arrays (AreFree few s.env.exec (frame_at f s.env.frames) f) b.control) (sym e) h, st.stack.2);
      env = st.env;
    }

    pub throws : (e : Event) (todo : List Todo) → There todo → ArrayStep few (raising.throw_step e todo s)
    throws e todo h = told _ refl (all_left (Now s) todo h)

    -- the handler of a resumption begins
    handles : (o : Option Found) (e : Event) (todo : List Todo) → FoundTo (suc (length s.callers)) o → There todo → ArrayStep few (raising.handle_step o e todo s)
    handles None e todo f h = throws e todo h
    handles (Some x) e todo f h =
        let n = st.frames in
        record {
          frames = ap suc st.frames;
          stack = (f.0, handled (AreFree few s.env.exec (frame_at x.frame ([] ∷ s.env.frames)) x.frame) x.handler [] f.1 tt, stack_newer few s.env.exec [] s.env.frames (record s.run { control = piece.DropNow ∷ todo; operands = below (below (below s.run.operands)) } ∷ s.callers) (omega (arith, n)) (st.stack.0, (tt, h), st.stack.2));
          env = kept.like few st.env refl refl refl;
        }

    pub raises : (e : Event) (todo : List Todo) → There todo → ArrayStep few (raising.raise_step e todo s)
    raises e todo h =
        handles (raising.seek None e (record s.run { control = todo } ∷ s.callers)) e todo (seek_to s.env.exec s.env.frames (suc (length s.callers)) None e (record s.run { control = todo } ∷ s.callers) (omega arith) (st.stack.0, h, st.stack.2)) h

    -- unwinding

    catches : (x : Option Handler) (e : Event) (todo : List Todo) → HandlerBegins x → There todo → ArrayStep few (raising.catch_step x e todo s)
    catches None e todo b h = go _ _ (all_left (Now s) todo h)
    catches (Some x) e todo b h = told _ refl (handled (Now s) x todo b h)

    guarded : (hs : Handlers) (w : Option UnwindReason) (todo : List Todo) → HandlersBegin hs → There todo → ArrayStep few (raising.guard_left hs w todo s)
    guarded hs (Some (reason.Event n y z)) todo b h = catches (raising.handler_for false (record { number = n; x = y; y = z }) hs) (record { number = n; x = y; y = z }) todo (handler_begins false (record { number = n; x = y; y = z }) hs b) h
    guarded hs w todo b h = go _ _ (all_left (Now s) todo h)

    whole : (b : Bool) (todo : List Todo) → There todo → ArrayStep few (raising.whole_left b todo s)
    whole true todo h = told _ refl h
    whole false todo h = go _ _ (all_left (Now s) todo h)

    scope : (c : CleanUp) (b : Bool) (todo : List Todo) → There todo → ArrayStep few (raising.scope_left c b todo s)
    scope src.Leaves true todo h = told _ refl (tt, all_left (Now s) todo h)
    scope c b todo h = go (raising.left_todo c (piece.Unwind ∷ todo)) [] (left_cleans (Now s) c (piece.Unwind ∷ todo) (all_left (Now s) todo h))

    main_left : (w : Option UnwindReason) (todo : List Todo) → There todo → ArrayStep few (raising.main_left w todo s)
    main_left (Some (reason.ReturnTo n)) todo h = told _ refl (tt, h)
    main_left w todo h = go todo [] h

    coroutine_left : (w : Option UnwindReason) (todo : List Todo) → There todo → ArrayStep few (raising.coroutine_left w todo s)
    coroutine_left (Some (reason.ReturnTo n)) todo h = told _ refl (tt, h)
    coroutine_left (Some reason.Destroyed) todo h = moved _ todo _ h (kept.taken_down_rests few (at todo [] s) (go todo [] h))
    coroutine_left w todo h = moved _ todo _ h (kept.escape_rests few (at todo [] s) (go todo [] h))

    unwind_past : (k : Sort) (todo : List Todo) → LeftBy k (ArraysLeft (Now s) todo) (There todo) → ArrayStep few (raising.unwind_past k todo s)
    unwind_past piece.Simple todo h = go _ _ h
    unwind_past (piece.IsLoop order t e b) todo h = go _ _ (all_left (Now s) todo h.1)
    unwind_past piece.IsWhole todo h = whole _ todo h.1
    unwind_past (piece.IsClean x) todo h = scope x _ todo h.1
    unwind_past (piece.IsFill m b d) todo h = go _ _ (tt, h)
    unwind_past (piece.IsSweep e) todo h = go _ _ (tt, all_left (Now s) todo h.1)
    unwind_past (piece.IsPart x) todo h = go _ _ (cleans (Now s) x _ (all_left (Now s) todo h.1))
    unwind_past (piece.IsGuard hs) todo h = guarded hs s.run.raised todo h.0 h.1
    unwind_past piece.IsFinish todo h = main_left s.run.raised todo h.1
    unwind_past piece.IsFinishCoroutine todo h = coroutine_left s.run.raised todo h.1

    pub unwinds : (todo : List Todo) → ArraysLeft (Now s) todo → ArrayStep few (raising.unwind_step todo s)
    unwinds [] h = leaves s.callers st.frames st.stack.2
    unwinds (p ∷ ps) h = unwind_past (piece.sort p) ps h

    pub exits : (w : Way) (todo : List Todo) → ArraysLeft (Now s) todo → ArrayStep few (quiet.exit_step w todo s)
    exits w [] h = end_step w
    exits w (p ∷ ps) h = go _ _ (left_behind (Now s) w (piece.sort p) ps h)

    -- printing

    pub prints : (x : Option (List Piece)) (p : Piece) (todo : List Todo) (vs : List Value) → There todo → ArrayStep few (piece.print_step x p todo vs s)
    prints None p todo vs h = go _ _ h
    prints (Some ps) p todo vs h = go_in _ _ _ (same refl refl refl refl refl) h

    pub flushes : (x : Option (List Piece)) (todo : List Todo) (vs : List Value) → There todo → ArrayStep few (piece.flush_step x todo vs s)
    flushes None todo vs h = go _ _ h
    flushes (Some []) todo vs h = go_in _ _ _ (same refl refl refl refl refl) h
    flushes (Some (p ∷ ps)) todo vs h = go_in _ _ _ (same refl refl refl refl refl) h

  -- what spares all elements in a task does in another one of the same execution
  spares_by : (v w : Value) (frame : ℕ) (todo : List Todo) (cs : List Active) (e f : Env) → f.exec ≡ e.exec → ValueSpares few Each w v frame todo cs e → ValueSpares few Each w v frame todo cs f
  spares_by (Place (Frame m d) p) w frame todo cs e f q a =
      subst (λ x. (exec_eq m x ≡ true) × (frame ≡ d → Each (Spares few x w (address p) frame) todo) × StackSpares few x w (address p) d cs) (sym q) a
  spares_by (Place (Fields o) p) w frame todo cs e f q a = tt
  spares_by v w frame todo cs e f q a = tt

  -- the object at hand gets an execution
  pub set_up : (s : State) (st : ArrayState few s) (r : Option Routine) (todo : List Todo) → RoutineBegins r → ((w : Value) → ValueSpares few Each w s.run.this s.run.frame todo s.callers s.env) → Arrays (Now s) todo → ArrayStep few (quiet.set_up_step r todo s)
  set_up s st None todo b a h = go s st _ _ h
  set_up s st (Some r) todo b a h =
      let q = quiet.home_at s.run.this s.env in
      let x = quiet.fresh r s.run.this in
      let e : Env = sw.born q x s.env in
      let k : Keeps few s.env e = kept.born_keeps few q x s.env (λ n. fresh s st n r s.run.this b) st.env in
      let before : State = at todo s.run.operands (in_env e s) in
      let mid : ArrayState few before = go_in s st todo s.run.operands e k h in
      let same_exec : e.exec ≡ s.env.exec = parked.change_exec q (sw.one_more x) s.env in
      go_at before mid _ _ _ (kept.written_spared few s.run.this _ s.run.frame todo s.callers e (spares_by s.run.this _ s.run.frame todo s.callers s.env e same_exec (a _)) k.env) mid.stack.1

-- A quiet step of a task in which variables that are mutex objects hold numbers until they are bound, and then what is at home there, leads to one.
use Rattle.std.proofs.Common.{◌≡◌, ℕ, zero, suc, ◌≤◌, ◌<◌, ◌⊎◌, inl, inr, ◌++◌, ◌&&◌, Bool, true, false, List, [], ◌∷◌, length, drop, Option, Some, None, refl, arith, ap, ◌∙◌, subst, sym}
use Rattle.std.specs.Prelude.{nat_eq, nat_lt, slice_get, slice_set, slice_index_or, if◌then◌else◌}
use Rattle.uc_tree.specs.declared.limits.TheConstants.{CALLS, PENDING_EVENTS}
use Rattle.uc_tree.specs.Source as src
use Rattle.uc_tree.specs.Source.{Source, Shape, Expr, ObjectExpr, Stmt, Stmts, EventStmt, TaskStmt, Routine, Purpose, Order, Way, CleanUp, Handlers, Clauses, Raised, Item}
use Rattle.uc_entry.specs.declared.request.Piece.{Piece}
use Rattle.uc_entry.specs.Keyed.{find, signed_64}
use Rattle.uc_machine.specs.declared.exec.Exec.{Exec}
use Rattle.uc_machine.specs.declared.exec.Owner.TheVariants.{Frame, Fields}
use Rattle.uc_machine.specs.declared.exec.Pending.{Pending}
use Rattle.uc_machine.specs.declared.exec.UnwindReason.{UnwindReason}
use Rattle.uc_machine.specs.declared.exec.UnwindReason.TheVariants as reason
use Rattle.uc_machine.specs.declared.exec.Visited.{Visited}
use Rattle.uc_machine.specs.Executions.{others, exec_eq, frame_changed, values_cleared, change, frames_changed}
use Rattle.uc_machine.specs.Switches as sw
use Rattle.uc_machine.specs.Switches.{Moved, To, Stops}
use Rattle.uc_machine.specs.Insides as inside
use Rattle.uc_machine.specs.Raising as raising
use Rattle.uc_machine.specs.Raising.{Event, Handler, Found, Hit}
use Rattle.uc_machine.specs.Monitors as monitors
use Rattle.uc_machine.specs.Polls as polls
use Rattle.uc_machine.specs.Quiet as quiet
use Rattle.uc_machine.specs.Pieces as piece
use Rattle.uc_machine.specs.Pieces.{Link, Slot, Value, Number, Place, Running, Object, Nothing, LAST_ADDRESS, Todo, Sort, Active, State, Env, Step, Outcome, Gives, Faults, at, address, in_env, turns, top, below, nought, written}
use Rattle.uc_state_laws.specs.Clusters.{Begins, HandlersBegin}
use Rattle.uc_state_laws.specs.Declaring.{IsCount}
use Rattle.uc_state_laws.specs.Counted.{params, params_at}
use Rattle.uc_typing.specs.States.{IsNumbered}
use Rattle.uc_state_laws.specs.There.{IsLoose, HoldsLoose, HoldsObject, OfBound, OpensBound, NextDrop, NextCall, FrameBefore}
use Rattle.uc_state_laws.specs.ThereStates.{RoutineBegins, BodiesBegin, Aside, IsAside, BoundBehind}
use Rattle.uc_state_laws.proofs.ValueSteps.{exec_same}
use Rattle.uc_life_laws.specs.Things.{Few}
use Rattle.uc_life_laws.specs.LifeStates.{frame_at}
use Rattle.uc_life_laws.proofs.HomedCells.{either, set_length, others_length}
use Rattle.uc_life_laws.proofs.Parked as parked
use Rattle.uc_putting_laws.specs.Putting.{IsHome}
use Rattle.uc_homed_ends.specs.BoundHomes.{OfMutex, OpensMutex, DropMutex, CallMutex, IsMaking, MakesBy, LeftBy, AllUnbound, AtRest, AtDrop, AtCall, AllLeft, IsUnset, IsSet, IsThat, WaitsFor, RunsWith, BoundStack, BoundEx, BoundState, BoundStep, GoodStep}
use Rattle.uc_homed_ends.proofs.BoundCells.{begins_none, all_left, held_left, left_on, told_call, call_now, drop_now, stack_cleared, list_cleared, stack_newer, stack_older}
use Rattle.uc_homed_ends.proofs.BoundKeeping as kept
use Rattle.uc_homed_ends.proofs.BoundKeeping.{Keeps, KeepsAt}

-- the frame of the running activation
abbrev pub here : State → List Value
here s = frame_at s.run.frame s.env.frames

-- a handler that is found uses the frame of one of these activations, and its statements may stand behind any other

abbrev pub HandlerBegins : Option Handler → Type 0
HandlerBegins None = Unit {0}
HandlerBegins (Some x) = Begins x.body

pub handler_begins : (kind : Bool) (e : Event) (hs : Handlers) → HandlersBegin hs → HandlerBegins (raising.handler_for kind e hs)
handler_begins kind e src.NoHandlers h = tt
handler_begins kind e (src.MoreHandlers resumes event cell line body rest) h =
    either HandlerBegins (raising.same_kind kind resumes && raising.takes event e) (Some (record { cell = cell; line = line; body = body })) (raising.handler_for kind e rest) h.0 (handler_begins kind e rest h.1)

abbrev pub HitBegins : Option Hit → Type 0
HitBegins None = Unit {0}
HitBegins (Some y) = Begins y.handler.body

pub hit_or : (o : Option Handler) (n : ℕ) (other : Option Hit) → HandlerBegins o → HitBegins other → HitBegins (raising.hit_or o n other)
hit_or None n other h k = k
hit_or (Some y) n other h k = h

-- to-do lists

module _ (Q : ℕ → Type 0) where
  hit_left : (k : Sort) (n : ℕ) (e : Event) (ps : List Todo) → LeftBy k (AllLeft Q ps) (AllUnbound Q ps) → HitBegins (raising.hit_in e ps) → HitBegins (raising.hit_by k n e (raising.hit_in e ps))
  hit_left (piece.IsGuard hs) n e ps h k = hit_or (raising.handler_for true e hs) n (raising.hit_in e ps) (handler_begins true e hs h.0) k
  hit_left s n e ps h k = k

  pub hit_in : (e : Event) (todo : List Todo) → AllLeft Q todo → HitBegins (raising.hit_in e todo)
  hit_in e [] h = tt
  hit_in e (p ∷ ps) h = hit_left (piece.sort p) (raising.count_round ps) e ps h (hit_in e ps (left_on Q (piece.sort p) ps h))

  pub all_within : (n : ℕ) (todo : List Todo) → AllLeft Q todo → AllLeft Q (raising.within n todo)
  all_within n [] h = tt
  all_within n (p ∷ ps) h = either (AllLeft Q) (nat_eq (raising.count_round (p ∷ ps)) n) (p ∷ ps) (raising.within n ps) h (all_within n ps (left_on Q (piece.sort p) ps h))

  pub behind : (p : Purpose) (line : ℕ) → AllUnbound Q (quiet.behind_body p line)
  behind src.TaskMain line = (tt, (tt, tt))
  behind src.CoroutineMain line = (tt, (tt, tt))
  behind src.Procedure line = (tt, tt)
  behind src.Function line = (tt, (tt, tt))
  behind src.Builder line = tt

  pub routine : (r : Routine) → Begins r.body → AllUnbound Q (quiet.routine_todo r)
  routine r b = (begins_none r.body b, behind r.purpose r.line)

  pub starts : (cell : ℕ) (v : Option Expr) (todo : List Todo) → AllUnbound Q todo → AllUnbound Q (quiet.starting cell v todo)
  starts cell None todo h = h
  starts cell (Some e) todo h = inl (inl (tt, h))

  pub converts : (k : Shape) (todo : List Todo) → AllUnbound Q todo → AllUnbound Q (quiet.converting k todo)
  converts src.Character todo h = (tt, h)
  converts src.Truth todo h = (tt, h)
  converts k todo h = h

  pub stepped : (e : Option Expr) (todo : List Todo) → AllUnbound Q todo → AllUnbound Q (quiet.step_todo e todo)
  stepped None todo h = h
  stepped (Some e) todo h = inl (tt, h)

  pub tested : (order : Order) (t : Expr) (e : Option Expr) (b : Stmt) (todo : List Todo) → AllUnbound Q todo → AllUnbound Q (quiet.test_todo order t e b todo)
  tested src.TestFirst t e b todo h = inl (tt, h)
  tested src.BodyFirst t e b todo h = inl (tt, h)
  tested src.NoTest t e b todo h = (tt, h)

  pub looped : (order : Order) (t : Expr) (e : Option Expr) (b : Stmt) (todo : List Todo) → AllUnbound Q todo → AllUnbound Q (quiet.loop_todo order t e b todo)
  looped src.TestFirst t e b todo h = inl (tt, h)
  looped src.BodyFirst t e b todo h = (tt, h)
  looped src.NoTest t e b todo h = (tt, h)

  pub loop_left : (w : Way) (order : Order) (t : Expr) (e : Option Expr) (b : Stmt) (todo : List Todo) → AllUnbound Q todo → AllUnbound Q (quiet.loop_left w order t e b todo)
  loop_left src.ToBreak order t e b todo h = h
  loop_left src.ToContinue order t e b todo h = (tt, h)
  loop_left src.ToReturn order t e b todo h = all_left Q todo h
  loop_left src.ToEnd order t e b todo h = all_left Q todo h

  pub left_behind : (w : Way) (k : Sort) (todo : List Todo) → LeftBy k (AllLeft Q todo) (AllUnbound Q todo) → AllUnbound Q (quiet.left_behind w k todo)
  left_behind w piece.Simple todo h = h
  left_behind w (piece.IsLoop order t e b) todo h = loop_left w order t e b todo h.1
  left_behind w piece.IsWhole todo h = h.1
  left_behind w (piece.IsClean x) todo h = (tt, all_left Q todo h.1)
  left_behind w (piece.IsFill m b d) todo h = h
  left_behind w (piece.IsSweep e) todo h = all_left Q todo h.1
  left_behind w (piece.IsPart x) todo h = all_left Q todo h.1
  left_behind w (piece.IsGuard hs) todo h = all_left Q todo h.1
  left_behind w piece.IsFinish todo h = (tt, h.1)
  left_behind w piece.IsFinishCoroutine todo h = (tt, h.1)

  pub filled : (b : Bool) (n : ℕ) (e d : Expr) (todo : List Todo) → AllUnbound Q todo → AllUnbound Q (quiet.fill_todo b n e d todo)
  filled false n e d todo h = h
  filled true n e d todo h = inl (tt, (tt, (tt, h)))

  pub raised : (r : Raised) (todo : List Todo) → AllUnbound Q todo → AllUnbound Q (raising.raised_todo r todo)
  raised (src.Plainly n) todo h = inl (inl (inl h))
  raised (src.BuiltAt n c e) todo h = (tt, inl (tt, inl (inl (inl h))))
  raised (src.AgainFrom c) todo h = inl (inl (inl h))

  pub handled : (x : Handler) (todo : List Todo) → Begins x.body → AllUnbound Q todo → AllUnbound Q (raising.handler_todo x todo)
  handled x todo b h = (tt, (tt, (tt, (tt, (tt, (tt, (begins_none x.body b, (tt, h))))))))

  pub cleans : (c : CleanUp) (todo : List Todo) → AllUnbound Q todo → AllUnbound Q (piece.clean_todo c todo)
  cleans (src.Destroys e) todo h = inl (tt, h)
  cleans (src.DestroysAll k e) todo h = (tt, (tt, h))
  cleans src.Unwinds todo h = (tt, h)
  cleans src.Forgets todo h = (tt, h)
  cleans src.Leaves todo h = (tt, h)
  cleans src.Ends todo h = (tt, h)
  cleans (src.Frees None) todo h = (tt, h)
  cleans (src.Frees (Some r)) todo h = (tt, h)
  cleans (src.Restores k) todo h = (tt, h)

  pub left_cleans : (c : CleanUp) (todo : List Todo) → AllUnbound Q todo → AllUnbound Q (raising.left_todo c todo)
  left_cleans (src.Frees r) todo h = (tt, h)
  left_cleans c todo h = cleans c todo h

  pub branch : (k : ℕ) (cs : Clauses) (todo : List Todo) → AllUnbound Q todo → AllUnbound Q (monitors.branch_todo k cs todo)
  branch k src.NoClauses todo h = h
  branch k (src.Otherwise b) todo h = either (AllUnbound Q) (nat_eq k 0) (piece.Do b ∷ todo) todo (inl h) h
  branch zero (src.MoreClauses guard b cs) todo h = branch zero cs todo h
  branch (suc zero) (src.MoreClauses guard b cs) todo h = inl h
  branch (suc (suc k)) (src.MoreClauses guard b cs) todo h = branch (suc k) cs todo h

  pub item : (i : Item) (todo : List Todo) → AllUnbound Q todo → AllUnbound Q (quiet.item_todo i todo)
  item (src.Show f e) todo h = inl (tt, h)
  item (src.ShowText k) todo h = (tt, h)

  pub item_value : (i : Item) (todo : List Todo) → AllUnbound Q todo → AllUnbound Q (quiet.item_value i todo)
  item_value (src.Show f e) todo h = inl h
  item_value (src.ShowText k) todo h = h

  pub item_piece : (i : Item) (todo : List Todo) → AllUnbound Q todo → AllUnbound Q (quiet.item_piece i ∷ todo)
  item_piece (src.Show f e) todo h = (tt, h)
  item_piece (src.ShowText k) todo h = (tt, h)

  pub polled : (w : Option UnwindReason) (todo : List Todo) → AllUnbound Q todo → AllUnbound Q (monitors.leave_todo w todo)
  polled None todo h = (tt, h)
  polled (Some why) todo h = h

abbrev pub FoundTo : ℕ → Option Found → Type 0
FoundTo n None = Unit {0}
FoundTo n (Some f) = (f.frame ≤ n) × Begins f.handler.body

pub found_or : (n : ℕ) (h : Option Hit) (a : Active) (cs : List Active) (other : Option Found) → a.frame ≤ n → HitBegins h → FoundTo n other → FoundTo n (raising.found_or h a cs other)
found_or n None a cs other l b k = k
found_or n (Some h) a cs other l b k = (l, b)

-- of each variable of a scope that opens behind a call
module _ (P : List Link → Type 0) where
  of_bound : (c : CleanUp) → OfBound P c → OfMutex (λ k. k < LAST_ADDRESS → P (Slot k ∷ [])) c
  of_bound (src.Destroys (src.OfObject (src.EndOn r written (src.Load (src.Variable k))))) h = h
  of_bound c h = tt

  opens_of : (ss : Stmts) → OpensBound P ss → OpensMutex (λ k. k < LAST_ADDRESS → P (Slot k ∷ [])) ss
  opens_of (src.Scoped c rest) h = of_bound c h
  opens_of ss h = tt

  drop_of : (todo : List Todo) → NextDrop P todo → DropMutex (λ k. k < LAST_ADDRESS → P (Slot k ∷ [])) todo
  drop_of (piece.DropNow ∷ (piece.Within line ∷ (piece.Rest ss ∷ todo))) h = opens_of ss h
  drop_of todo h = tt

  call_of : (todo : List Todo) → NextCall P todo → CallMutex (λ k. k < LAST_ADDRESS → P (Slot k ∷ [])) todo
  call_of (piece.CallOnNow r ∷ todo) h = drop_of todo h
  call_of (piece.CallUnwrittenNow r ∷ todo) h = drop_of todo h
  call_of todo h = tt

-- an operand takes the place of another one, if there is one
set_top : (n : ℕ) (vs : List Value) (v : Value) → (top (drop n (slice_set vs n v)) ≡ v) ⊎ (top (drop n vs) ≡ Nothing)
set_top zero [] v = inr refl
set_top zero (x ∷ vs) v = inl refl
set_top (suc n) [] v = inr refl
set_top (suc n) (x ∷ vs) v = set_top n vs v

no_count : (x : Value) → IsCount x → IsNumbered x → ⊥
no_count (Number n) h g = g
no_count (Place o p) h g = h
no_count (Running e) h g = h
no_count (Object o) h g = h
no_count Nothing h g = h

loose : (x : Value) → IsCount x → IsLoose x
loose (Number n) h = tt
loose (Place o p) h = absurd h
loose (Running e) h = absurd h
loose (Object o) h = absurd h
loose Nothing h = absurd h

module _ (few : Few) (source : Source) where
  seek_to : (m : Exec) (fs : List (List Value)) (n : ℕ) (u : Option Visited) (e : Event) (v : Value) (cs : List Active) → length cs ≤ n → BoundStack few m fs v cs → FoundTo n (raising.seek u e cs)
  seek_to m fs n None e v [] l h = tt
  seek_to m fs n (Some u) e v [] l h = tt
  seek_to m fs n None e v (a ∷ cs) l h =
      let d = h.0 in
      found_or n (raising.hit_in e a.control) a cs (raising.seek a.handles e cs) (omega (arith, d, l)) (hit_in (IsUnset (frame_at a.frame fs)) e a.control (held_left (IsUnset (frame_at a.frame fs)) (IsThat few m v (frame_at a.frame fs) a.frame) a.control h.1)) (seek_to m fs n a.handles e a.this cs (omega (arith, l)) h.2)
  seek_to m fs n (Some u) e v (a ∷ cs) l h =
      let d = h.0 in
      either (FoundTo n) (nat_eq (length cs) u.level) (raising.found_or (raising.hit_in e (raising.within u.rest a.control)) a cs (raising.seek a.handles e cs)) (raising.seek (Some u) e cs) (found_or n (raising.hit_in e (raising.within u.rest a.control)) a cs (raising.seek a.handles e cs) (omega (arith, d, l)) (hit_in (IsUnset (frame_at a.frame fs)) e (raising.within u.rest a.control) (all_within (IsUnset (frame_at a.frame fs)) u.rest a.control (held_left (IsUnset (frame_at a.frame fs)) (IsThat few m v (frame_at a.frame fs) a.frame) a.control h.1))) (seek_to m fs n a.handles e a.this cs (omega (arith, l)) h.2)) (seek_to m fs n (Some u) e a.this cs (omega (arith, l)) h.2)

  either_way : (b : Bool) (n : Exec) (operands vs : List Value) (f : ℕ) (todo : List Todo) → AllUnbound (IsUnset vs) todo → RunsWith few n b source operands vs f todo
  either_way false n operands vs f todo h = h
  either_way true n operands vs f todo h = inl h

  -- what is at rest may go on
  pub rested : (s : State) → BoundState few source false s → BoundState few source true s
  rested s h = record { frames = h.frames; frame = h.frame; run = inl h.run; callers = h.callers; env = h.env }

  module _ (s : State) (st : BoundState few source true s) where
    abbrev There : List Todo → Type 0
    There todo = AllUnbound (IsUnset (here s)) todo

    -- with something else to do, and other operands, on its way or at rest
    pub go : {b : Bool} (todo : List Todo) (vs : List Value) → There todo → BoundState few source b (at todo vs s)
    go {b} todo vs h = record { frames = st.frames; frame = st.frame; run = either_way b s.env.exec vs (here s) s.run.frame todo h; callers = st.callers; env = st.env }

    pub go_held : (todo : List Todo) (vs : List Value) → RunsWith few s.env.exec true source vs (here s) s.run.frame todo → BoundState few source true (at todo vs s)
    go_held todo vs h = record { frames = st.frames; frame = st.frame; run = h; callers = st.callers; env = st.env }

    -- and with another rest of the task
    pub go_in : {b : Bool} (todo : List Todo) (vs : List Value) (e : Env) → Keeps few s.env e → There todo → BoundState few source b (at todo vs (in_env e s))
    go_in {b} todo vs e k h = record {
      frames = k.frames ∙ st.frames;
      frame = st.frame;
      run = either_way b e.exec vs (frame_at s.run.frame e.frames) s.run.frame todo (k.list s.run.frame todo h);
      callers = subst (λ n. BoundStack few n e.frames s.run.this s.callers) (sym k.exec) (k.stack s.run.this s.callers st.callers);
      env = k.env;
    }

    -- where something is written aside
    go_by : (todo : List Todo) (vs : List Value) (w : Value) (e : Env) → KeepsAt few w s.run.frame todo s.callers s.env e → RunsWith few s.env.exec true source vs (frame_at s.run.frame e.frames) s.run.frame todo → BoundState few source true (at todo vs (in_env e s))
    go_by todo vs w e k h = record {
      frames = k.frames ∙ st.frames;
      frame = st.frame;
      run = subst (λ n. RunsWith few n true source vs (frame_at s.run.frame e.frames) s.run.frame todo) (sym k.exec) h;
      callers = subst (λ n. BoundStack few n e.frames s.run.this s.callers) (sym k.exec) (k.stack s.run.this st.callers);
      env = k.env;
    }

    pub go_at : (todo : List Todo) (vs : List Value) (w : Value) (e : Env) → KeepsAt few w s.run.frame todo s.callers s.env e → There todo → BoundState few source true (at todo vs (in_env e s))
    go_at todo vs w e k h = go_by todo vs w e k (inl (k.list h))

    -- nothing that is told of changes
    pub same : {e : Env} → e.exec ≡ s.env.exec → e.frames ≡ s.env.frames → e.hand ≡ s.env.hand → e.house ≡ s.env.house → e.own ≡ s.env.own → Keeps few s.env e
    same x q h g o = kept.keeps_like few st.env x q h g o

    -- the end of an activation

    -- those that wait, with a frame less
    less : (a : Active) (cs : List Active) → length s.env.frames ≡ suc (length (a ∷ cs)) → BoundStack few s.env.exec s.env.frames s.run.this (a ∷ cs) → BoundStack few s.env.exec (others s.env.frames) s.run.this (a ∷ cs)
    less a cs l h =
        let n : length (others s.env.frames) ≡ suc (length cs) = others_length s.env.frames (length cs) l in
        stack_older few s.env.exec s.env.frames s.run.this (a ∷ cs) (omega (arith, n)) h

    -- who waited goes on
    runs_on : (vs fs : List Value) (f : ℕ) (v : Value) (todo : List Todo) → WaitsFor few s.env.exec v fs f todo → RunsWith few s.env.exec true source vs fs f todo
    runs_on vs fs f v todo (inl h) = inl h
    runs_on vs fs f v todo (inr h) = inr (drop_now (IsUnset fs) (IsThat few s.env.exec v fs f) (IsSet few s.env.exec fs f) (λ r. IsThat few s.env.exec (top (drop (params source r) vs)) fs f) (λ k x l. (x l).0) todo h)

    pub returned : (given : Value) (cs : List Active) → length s.env.frames ≡ suc (length cs) → BoundStack few s.env.exec s.env.frames s.run.this cs → BoundStep few source (piece.return_step given cs s)
    returned given [] l h = st
    returned given (a ∷ cs) l h =
        let k = less a cs l h in
        record { frames = others_length s.env.frames (length cs) l; frame = k.0; run = runs_on _ (frame_at a.frame (others s.env.frames)) a.frame s.run.this a.control k.1; callers = k.2; env = kept.like few st.env refl refl refl }

    past : (v : Visited) (given : Value) (cs : List Active) → length s.env.frames ≡ suc (length cs) → BoundStack few s.env.exec s.env.frames s.run.this cs → BoundStep few source (raising.return_past v given cs s)
    past v given [] l h = st
    past v given (a ∷ cs) l h =
        let k = less a cs l h in
        record { frames = others_length s.env.frames (length cs) l; frame = k.0; run = inl (held_left (IsUnset (frame_at a.frame (others s.env.frames))) (IsThat few s.env.exec s.run.this (frame_at a.frame (others s.env.frames)) a.frame) a.control k.1); callers = k.2; env = kept.like few st.env refl refl refl }

    end_by : (v : Option Visited) (given : Value) → BoundStep few source (raising.end_by v given s)
    end_by None given = returned given s.callers st.frames st.callers
    end_by (Some v) given = past v given s.callers st.frames st.callers

    end_step : (w : Way) → BoundStep few source (quiet.end_step w s)
    end_step src.ToReturn = end_by s.run.handles _
    end_step src.ToEnd = end_by s.run.handles _
    end_step src.ToBreak = returned _ s.callers st.frames st.callers
    end_step src.ToContinue = returned _ s.callers st.frames st.callers

    pass_on : (w : Option UnwindReason) (c : Active) (cs : List Active) → length s.env.frames ≡ suc (length (c ∷ cs)) → BoundStack few s.env.exec s.env.frames s.run.this (c ∷ cs) → BoundStep few source (raising.pass_on w c cs s)
    pass_on None c cs l h = st
    pass_on (Some why) c cs l h =
        let k = less c cs l h in
        record { frames = others_length s.env.frames (length cs) l; frame = k.0; run = inl (held_left (IsUnset (frame_at c.frame (others s.env.frames))) (IsThat few s.env.exec s.run.this (frame_at c.frame (others s.env.frames)) c.frame) c.control k.1); callers = k.2; env = kept.like few st.env refl refl refl }

    leave_for : (b : Bool) (c : Active) (cs : List Active) → length s.env.frames ≡ suc (length (c ∷ cs)) → BoundStack few s.env.exec s.env.frames s.run.this (c ∷ cs) → BoundStep few source (raising.leave_for b c cs s)
    leave_for true c cs l h = st
    leave_for false c cs l h = pass_on s.run.raised c cs l h

    leaves : (cs : List Active) → length s.env.frames ≡ suc (length cs) → BoundStack few s.env.exec s.env.frames s.run.this cs → BoundStep few source (raising.leave_step cs s)
    leaves [] l h = st
    leaves (c ∷ cs) l h =
        either (BoundStep few source) (raising.arrives s.run.raised (length (c ∷ cs))) _ _ (returned s.run.result (c ∷ cs) l h) (leave_for _ c cs l h)

    pub moved : (m : Moved (List Todo) Value) (todo : List Todo) (vs : List Value) → There todo → kept.LifeMoved few source m → BoundStep few source (piece.moves m (at todo vs s))
    moved (To t) todo vs h m = rested t m
    moved (Stops f) todo vs h m = go todo vs h

    pub outcome : (x : Outcome) (todo : List Todo) (vs : List Value) → There todo → BoundStep few source (piece.outcome_step x todo vs s)
    outcome (Gives n) todo vs h = go todo _ h
    outcome (Faults f) todo vs h = go todo _ h

    pub element : (n : Shape) (i : Option ℕ) (todo : List Todo) (v : Value) (vs : List Value) → There todo → BoundStep few source (piece.element_step n i todo v vs s)
    element n None todo v vs h = go todo _ h
    element n (Some i) todo v vs h = go todo _ h

    -- expressions

    object : (x : ObjectExpr) (todo : List Todo) → There todo → BoundStep few source (quiet.object_step x todo s)
    object src.This todo h = go _ _ h
    object (src.OwnField k i) todo h = go _ _ h
    object (src.GetOwn k i) todo h = go _ _ h
    object (src.FieldOf k i a) todo h = go _ _ (inl (tt, h))
    object src.Counted todo h = go _ _ h
    object (src.CallOn r a args) todo h = go _ _ (inl (tt, (tt, (tt, h))))
    object (src.CallLive r a args) todo h = go _ _ (inl (tt, (tt, (tt, (tt, h)))))
    object (src.CallUnwritten r a) todo h = go _ _ (inl (tt, h))
    object (src.EnterOn m r a args) todo h = go _ _ (inl (tt, (tt, (tt, (tt, h)))))
    object (src.EndOn r false a) todo h = go _ _ (inl (tt, (tt, h)))
    object (src.EndOn r true a) todo h = go _ _ (inl (tt, (tt, (tt, h))))
    object (src.Bind a b) todo h = go _ _ (inl (inl (tt, h)))
    object (src.MakeOn c r false a args) todo h = go _ _ (inl (tt, inl (tt, h)))
    object (src.MakeOn c r true a args) todo h = go _ _ (inl (tt, (tt, inl (tt, h))))
    object src.NewCluster todo h = go _ _ (tt, h)
    object (src.NewProcessor a) todo h = go _ _ (inl (tt, h))
    object (src.EndCluster a) todo h = go _ _ (inl (tt, h))
    object (src.EndProcessor a) todo h = go _ _ (inl (tt, h))
    object (src.ConditionAt k m a) todo h = go _ _ (inl (tt, h))
    object (src.Wait a b) todo h = go _ _ (inl (inl (tt, (tt, h))))
    object (src.Signal a) todo h = go _ _ (inl (tt, h))
    object (src.SignalBlock a) todo h = go _ _ (inl (tt, h))
    object (src.IsEmpty a) todo h = go _ _ (inl (tt, h))
    object (src.FrontOf a) todo h = go _ _ (inl (tt, h))

    pub eval : (a : Expr) (todo : List Todo) → There todo → BoundStep few source (quiet.eval_step a todo s)
    eval (src.Literal k) todo h = go _ _ h
    eval (src.Variable k) todo h = go _ _ h
    eval (src.Element m k a i) todo h = go _ _ (inl (inl (tt, h)))
    eval (src.Get k) todo h = go _ _ h
    eval (src.Load a) todo h = go _ _ (inl (tt, h))
    eval (src.Negated a) todo h = go _ _ (inl (tt, h))
    eval (src.Not a) todo h = go _ _ (inl (tt, h))
    eval (src.AsCharacter a) todo h = go _ _ (inl (tt, h))
    eval (src.AsTruth a) todo h = go _ _ (inl (tt, h))
    eval (src.Operate op a b) todo h = go _ _ (inl (inl (tt, h)))
    eval (src.And a b) todo h = go _ _ (inl (tt, h))
    eval (src.Or a b) todo h = go _ _ (inl (tt, h))
    eval (src.Set k a) todo h = go _ _ (inl (tt, h))
    eval (src.Assign p a) todo h = go _ _ (inl (inl (tt, h)))
    eval (src.First a b) todo h = go _ _ (inl (inl (tt, h)))
    eval (src.Update op k p a) todo h = go _ _ (inl (tt, (tt, inl (tt, converts (IsUnset (here s)) k _ (tt, h)))))
    eval (src.StepBehind op k p) todo h = go _ _ (inl (tt, (tt, (tt, (tt, inl (tt, converts (IsUnset (here s)) k _ (tt, (tt, h))))))))
    eval src.Fail todo h = go _ _ h
    eval (src.Call r args) todo h = go _ _ (tt, (tt, (tt, h)))
    eval (src.OfObject x) todo h = object x todo h

    binds : (a : Expr) (todo : List Todo) → IsMaking a → AtDrop (IsUnset (here s)) (IsUnset (here s)) todo → BoundStep few source (quiet.eval_step a todo s)
    binds (src.OfObject (src.MakeOn c r false a args)) todo i h = go _ _ (inl (tt, inr (refl, h)))
    binds (src.OfObject (src.MakeOn c r true a args)) todo i h = go _ _ (inl (tt, (tt, inr (refl, h))))
    binds a todo i h = absurd i

    pub evals : (a : Expr) (todo : List Todo) → There (piece.Eval a ∷ todo) → BoundStep few source (quiet.eval_step a todo s)
    evals a todo (inl h) = eval a todo h
    evals a todo (inr h) = binds a todo h.0 h.1

    -- statements

    pub swept : (n : ℕ) (e : Expr) (todo : List Todo) → There todo → BoundStep few source (quiet.sweep_step n e todo s)
    swept zero e todo h = go _ _ h
    swept (suc m) e todo h = record { frames = st.frames; frame = st.frame; run = inl (inl (tt, (tt, h))); callers = st.callers; env = st.env }

    event_step : (a : EventStmt) (todo : List Todo) → BodiesBegin (src.OfEvents a) → There todo → BoundStep few source (quiet.event_step a todo s)
    event_step (src.Throw line r) todo b h = go _ _ (raised (IsUnset (here s)) r _ (tt, (tt, h)))
    event_step (src.Raise line r) todo b h = go _ _ (raised (IsUnset (here s)) r _ (tt, (tt, h)))
    event_step (src.Try line body hs) todo b h = go _ _ (begins_none body b.0, (b.1, (tt, h)))
    event_step (src.RaiseAt line r a) todo b h = go _ _ (raised (IsUnset (here s)) r _ (inl (tt, (tt, h))))
    event_step (src.Enable line events cell a) todo b h = go _ _ (tt, (tt, inl (tt, (tt, h))))
    event_step (src.Disable line events cell a) todo b h = go _ _ (tt, inl (tt, (tt, h)))

    task_step : (a : TaskStmt) (todo : List Todo) → There todo → BoundStep few source (quiet.task_step a todo s)
    task_step (src.Resume line) todo h = go _ _ (tt, (tt, (tt, h)))
    task_step (src.Suspend line) todo h = go _ _ (tt, (tt, (tt, h)))
    task_step (src.SetUp r) todo h = go _ _ (tt, h)
    task_step src.Enliven todo h = go _ _ (tt, h)
    task_step src.TakeDown todo h = go _ _ (tt, h)
    task_step (src.Yield line) todo h = go _ _ (tt, (tt, (tt, h)))
    task_step (src.Migrate line a) todo h = go _ _ (inl (tt, (tt, h)))
    task_step (src.Accept line site cs) todo h = go _ _ (tt, (tt, (tt, (tt, h))))

    stmt : (a : Stmt) (todo : List Todo) → BodiesBegin a → There todo → BoundStep few source (quiet.stmt_step a todo s)
    stmt (src.Skip line) todo f h = go _ _ h
    stmt (src.Block line body) todo f h = go _ _ (begins_none body f, (tt, h))
    stmt (src.Whole line body) todo f h = go _ _ (begins_none body f, (tt, (tt, h)))
    stmt (src.Evaluate line a) todo f h = go _ _ (inl (tt, (tt, h)))
    stmt (src.Declare line ds) todo f h = go _ _ (tt, (tt, h))
    stmt (src.Print line items) todo f h = go _ _ (tt, (tt, h))
    stmt (src.PrintTogether line items) todo f h = go _ _ (tt, (tt, (tt, (tt, (tt, h)))))
    stmt (src.Read line ts) todo f h = go _ _ (tt, (tt, h))
    stmt (src.If line t a b) todo f h = go _ _ (inl (tt, (tt, h)))
    stmt (src.Loop line order t e b) todo f h = go _ _ (looped (IsUnset (here s)) order t e b _ (tt, h))
    stmt (src.Break line) todo f h = go _ _ (all_left (IsUnset (here s)) todo h)
    stmt (src.Continue line) todo f h = go _ _ (all_left (IsUnset (here s)) todo h)
    stmt (src.Return line None) todo f h = go _ _ (all_left (IsUnset (here s)) todo h)
    stmt (src.Return line (Some e)) todo f h = go _ _ (inl (all_left (IsUnset (here s)) (piece.Within line ∷ todo) (tt, h)))
    stmt (src.Owes line) todo f h = go _ _ (tt, (tt, h))
    stmt (src.Fill line m b d) todo f h = go _ _ (tt, (tt, (tt, h)))
    stmt (src.OfEvents a) todo f h = event_step a todo f h
    stmt (src.OfTasks a) todo f h = task_step a todo h

    stmt_binds : (a : Stmt) (todo : List Todo) → MakesBy a → AtRest (IsUnset (here s)) (IsUnset (here s)) todo → BoundStep few source (quiet.stmt_step a todo s)
    stmt_binds (src.Evaluate line a) todo i h = go _ _ (inr (i, h))
    stmt_binds a todo i h = absurd i

    pub stmts : (a : Stmt) (todo : List Todo) → BodiesBegin a → There (piece.Do a ∷ todo) → BoundStep few source (quiet.stmt_step a todo s)
    stmts a todo f (inl h) = stmt a todo f h
    stmts a todo f (inr h) = stmt_binds a todo h.0 h.1

    -- cells start anew
    pub clears : (k m : ℕ) (todo : List Todo) → FrameBefore k s.run.frame s.callers → There todo → BoundStep few source (quiet.turns todo (in_env (piece.cleared k m s) s))
    clears k m todo f h =
        subst (λ (b : Bool). BoundState few source true (at todo s.run.operands (in_env (if b then record s.env { frames = frame_changed s.run.frame (values_cleared k m nought) s.env.frames } else change s.env.exec.home (frames_changed s.env.exec.serial (frame_changed s.run.frame (values_cleared k m nought))) s.env) s))) (sym (exec_same s.env.exec)) (record {
          frames = set_length s.env.frames s.run.frame (values_cleared k m nought (here s)) ∙ st.frames;
          frame = st.frame;
          run = inl (list_cleared few s.env.exec s.run.frame k m s.env.frames s.run.frame todo h);
          callers = stack_cleared few s.env.exec s.run.frame k m s.env.frames s.run.this s.callers f st.callers;
          env = kept.like few st.env refl refl refl;
        })

    -- calls

    begun : (r : Routine) (this : Value) (counts : Bool) (todo : List Todo) (vs : List Value) → Begins r.body → WaitsFor few s.env.exec this (here s) s.run.frame todo → BoundStep few source (quiet.begun_step r this counts todo vs s)
    begun r this counts todo vs b h =
        let n = st.frames in
        record {
          frames = ap suc st.frames;
          frame = omega (arith, n);
          run = inl (routine _ r b);
          callers = stack_newer few s.env.exec _ s.env.frames this (record s.run { control = todo; operands = vs } ∷ s.callers) (omega (arith, n)) (st.frame, h, st.callers);
          env = kept.like few st.env refl refl refl;
        }

    pub call : (r : Option Routine) (todo : List Todo) → RoutineBegins r → There todo → BoundStep few source (quiet.call_step r todo s)
    call None todo b h = go _ _ h
    call (Some r) todo b h = either (BoundStep few source) (nat_lt s.env.links.calls CALLS) _ _ (begun r _ true todo _ b (inl h)) (go todo _ h)

    pub call_on : (r : Option Routine) (todo : List Todo) → RoutineBegins r → WaitsFor few s.env.exec (top (drop (params_at r) s.run.operands)) (here s) s.run.frame todo → BoundStep few source (quiet.call_on_step r todo s)
    call_on None todo b h = go_held _ _ (runs_on _ (here s) s.run.frame _ todo h)
    call_on (Some r) todo b h = either (BoundStep few source) (nat_lt s.env.links.calls CALLS) _ _ (begun r _ true todo _ b h) (go_held todo _ (runs_on _ (here s) s.run.frame _ todo h))

    pub call_unwritten : (r : Option Routine) (todo : List Todo) → RoutineBegins r → WaitsFor few s.env.exec (top (drop (params_at r) s.run.operands)) (here s) s.run.frame todo → BoundStep few source (quiet.call_unwritten_step r todo s)
    call_unwritten None todo b h = go_held _ _ (runs_on _ (here s) s.run.frame _ todo h)
    call_unwritten (Some r) todo b h = begun r _ false todo _ b h

    -- coroutines

    fresh : (n : Exec) (r : Routine) (this : Value) → Begins r.body → BoundEx few n (quiet.fresh r this)
    fresh n r this b = record { frames = refl; frame = omega arith; run = routine _ r b; callers = tt }

    pub aside_by : (v : Value) (todo : List Todo) (e : Env) → e.exec ≡ s.env.exec → IsAside v todo s → Aside v s.run.frame todo s.callers e
    aside_by (Number n) todo e q a = tt
    aside_by (Place (Frame n d) p) todo e q a = (subst (λ x. exec_eq n x ≡ true) (sym q) a.0, a.1, a.2)
    aside_by (Place (Fields o) p) todo e q a = tt
    aside_by (Running n) todo e q a = tt
    aside_by (Object o) todo e q a = tt
    aside_by Nothing todo e q a = tt

    pub live : (r : Option Routine) (todo : List Todo) → There todo → BoundStep few source (quiet.live_step r todo s)
    live None todo h = go _ _ h
    live (Some r) todo h = either (BoundStep few source) (sw.is_live (piece.exec_at (top (drop r.params s.run.operands)) s.env) s.env) _ _ (go todo _ h) (go todo _ h)

    pub land : (w : Option UnwindReason) (todo : List Todo) → There todo → BoundStep few source (quiet.land_step w todo s)
    land None todo h = go _ _ h
    land (Some why) todo h = go _ _ (all_left (IsUnset (here s)) todo h)

    -- mutex objects

    pub unless : (q : ℕ) (step : Step) (todo : List Todo) → There todo → BoundStep few source step → BoundStep few source (monitors.unless_held_up q step todo s)
    unless q step todo h k = either (BoundStep few source) (inside.is_held_up q s.env) _ step (go todo _ h) k

    enter_at : (d : Option ℕ) (q m : ℕ) (todo : List Todo) → There todo → BoundStep few source (monitors.enter_at d q m todo s)
    enter_at (Some d) q m todo h = go_in _ _ _ (same refl refl refl refl refl) h
    enter_at None q m todo h = go_in _ _ _ (same refl refl refl refl refl) h

    pub enter : (m : ℕ) (r : Option Routine) (todo : List Todo) → There todo → BoundStep few source (monitors.enter_step m r todo s)
    enter m None todo h = go _ _ h
    enter m (Some r) todo h =
        let q = piece.object_in (top (drop r.params s.run.operands)) in
        either (BoundStep few source) (monitors.may_call r.written s) _ _ (enter_at (find q s.env.depths) q m todo h) (go todo _ h)

    pub leave : (b : Bool) (q : ℕ) (todo : List Todo) → There todo → BoundStep few source (monitors.leave_at b q todo s)
    leave false q todo h = go_in _ _ _ (same refl refl refl refl refl) h
    leave true q todo h =
        unless q _ todo h (record { frames = st.frames; frame = st.frame; run = polled (IsUnset (here s)) s.run.raised todo h; callers = st.callers; env = kept.like few st.env refl refl refl })

    pub make : (c n : ℕ) (r : Option Routine) (todo : List Todo) → There todo → BoundStep few source (monitors.make_step c n r todo s)
    make c n None todo h = go _ _ h
    make c n (Some r) todo h =
        either (BoundStep few source) (monitors.may_call r.written s) _ _ (go_in _ _ _ (same refl refl refl refl refl) (inl h)) (go todo _ h)

    pub bind : (r : Option Routine) (todo : List Todo) → IsAside (top (drop (params_at r) (below s.run.operands))) todo s → There todo → BoundStep few source (monitors.bind_step r todo s)
    bind None todo a h = go _ _ h
    bind (Some r) todo a h = go_at _ _ _ _ (kept.written_aside few (top (drop r.params (below s.run.operands))) (top s.run.operands) s.run.frame todo s.callers s.env a st.env) h

    -- for a variable whose scope opens behind the call
    pub makes : (c n : ℕ) (r : Option Routine) (todo : List Todo) → AtCall (IsUnset (here s)) n (IsUnset (here s)) todo → GoodStep few source (monitors.make_step c n r todo s)
    makes c n None todo h = inr (tt, st.env)
    makes c n (Some r) todo h =
        either (GoodStep few source) (monitors.may_call r.written s) _ _ (inl (go_in _ _ _ (same refl refl refl refl refl) (inr h))) (inr (tt, st.env))

    module _ (r : Routine) where
      -- what is bound, the task behind that, and the operands, among which it takes the place to which it is bound
      abbrev new : Value
      new = top s.run.operands

      abbrev behind_it : Env
      behind_it = written (top (drop r.params (below s.run.operands))) new s.env

      abbrev now : List Value
      now = frame_at s.run.frame behind_it.frames

      abbrev bound : List Value
      bound = slice_set (below s.run.operands) r.params new

      abbrev Called : ℕ → ℕ → Type 0
      Called n i = IsThat few s.env.exec (top (drop (params source n) bound)) now s.run.frame i

      called : (x : ℕ) → slice_get source.routines x ≡ Some r → (i : ℕ) → IsCount (slice_index_or (here s) (address (Slot i ∷ [])) nought) → HoldsObject now (Slot i ∷ []) → top (drop (params source x) bound) ≡ new
      called x q i c o = by (set_top r.params (below s.run.operands) new)
        where
          by : (top (drop r.params bound) ≡ new) ⊎ (top (drop r.params (below s.run.operands)) ≡ Nothing) → top (drop (params source x) bound) ≡ new
          by (inl same) = ap (λ o. top (drop (params_at o) bound)) q ∙ same
          by (inr none) = absurd (no_count (slice_index_or (here s) (address (Slot i ∷ [])) nought) c (subst (λ v. HoldsObject (frame_at s.run.frame (written v new s.env).frames) (Slot i ∷ [])) none o))

      made_at : (x : ℕ) → slice_get source.routines x ≡ Some r → (todo : List Todo) → IsAside (top (drop r.params (below s.run.operands))) todo s → BoundBehind (λ P. NextCall P todo) (here s) (monitors.bind_step (Some r) todo s) → CallMutex (λ k. IsHome few new (piece.variable_at k s)) todo → AtCall (IsUnset (here s)) x (IsUnset (here s)) todo → BoundState few source true (at todo bound (in_env behind_it s))
      made_at x q todo a f g h =
          let k : KeepsAt few new s.run.frame todo s.callers s.env behind_it = kept.written_aside few (top (drop r.params (below s.run.operands))) new s.run.frame todo s.callers s.env a st.env in
          let known : AtCall (IsUnset now) x (λ i. IsUnset (here s) i × IsHome few new (piece.variable_at i s)) todo = told_call (IsUnset now) (IsUnset (here s)) (λ i. IsHome few new (piece.variable_at i s)) (λ i. IsUnset (here s) i × IsHome few new (piece.variable_at i s)) (λ i x y. (x, y)) x todo g (k.call x h) in
          let set : AtCall (IsUnset now) x (Called x) todo = told_call (IsUnset now) (λ i. IsUnset (here s) i × IsHome few new (piece.variable_at i s)) (λ i. i < LAST_ADDRESS → HoldsLoose (here s) (Slot i ∷ []) → HoldsObject now (Slot i ∷ [])) (Called x) (λ i y z. λ l. let t = k.told i y.0 y.1 l (z l (loose _ (y.0 l))) in (t.0, t.1 ∙ sym (called x q i (y.0 l) (z l (loose _ (y.0 l)))))) x todo (call_of (λ p. HoldsLoose (here s) p → HoldsObject now p) todo f) known in
          go_by todo bound new behind_it k (inr (call_now (IsUnset now) (IsSet few s.env.exec now s.run.frame) Called x todo set))

    pub made : (x : ℕ) (o : Option Routine) → slice_get source.routines x ≡ o → (todo : List Todo) → IsAside (top (drop (params_at o) (below s.run.operands))) todo s → BoundBehind (λ P. NextCall P todo) (here s) (monitors.bind_step o todo s) → CallMutex (λ k. IsHome few (top s.run.operands) (piece.variable_at k s)) todo → AtCall (IsUnset (here s)) x (IsUnset (here s)) todo → GoodStep few source (monitors.bind_step o todo s)
    made x None q todo a f g h = inr (tt, st.env)
    made x (Some r) q todo a f g h = made_at r x q todo a f g h

    -- a place is bound, aside of what is still to be bound
    pub binding : (todo : List Todo) → IsAside (top (below s.run.operands)) todo s → There todo → BoundStep few source (piece.goes todo (top s.run.operands ∷ below (below s.run.operands)) (in_env (written (top (below s.run.operands)) (top s.run.operands) s.env) s))
    binding todo a h = go_at _ _ _ _ (kept.written_aside few (top (below s.run.operands)) (top s.run.operands) s.run.frame todo s.callers s.env a st.env) h

    pub condition : (n : ℕ) (i : Option ℕ) (todo : List Todo) → There todo → BoundStep few source (monitors.condition_step n i todo s)
    condition n None todo h = go todo _ h
    condition n (Some i) todo h = go todo _ h

    pub accept_by : (mask q site : ℕ) (todo : List Todo) (vs : List Value) → There todo → BoundStep few source (monitors.accept_by mask q site todo vs s)
    accept_by zero q site todo vs h = go _ _ h
    accept_by (suc mask) q site todo vs h = unless q _ todo h (go _ _ (tt, (tt, h)))

    pub failed : (b : Bool) (todo : List Todo) (vs : List Value) → There todo → BoundStep few source (monitors.failed_step b todo vs s)
    failed true todo vs h = go _ _ h
    failed false todo vs h = go _ _ (tt, h)

    -- events

    pend : (n : Exec) (e : Event) (todo : List Todo) (vs : List Value) → There todo → BoundStep few source (polls.pend_step n e todo vs s)
    pend n e todo vs h =
        either (BoundStep few source) (nat_lt (length (inside.pending_at n s.env)) PENDING_EVENTS) _ _ (go_in _ _ _ (kept.links_keeps few (λ l. record l { pending = l.pending ++ (record { event = e.number; x = e.x; y = e.y }) ∷ [] }) (λ l n x h. h) n s.env st.env) h) (go todo vs h)

    pend_at : (x : Option Exec) (e : Event) (todo : List Todo) (vs : List Value) → There todo → BoundStep few source (polls.pend_at x e todo vs s)
    pend_at None e todo vs h = go todo vs h
    pend_at (Some n) e todo vs h = either (BoundStep few source) (sw.is_live (Some n) s.env) _ _ (pend n e todo vs h) (go todo vs h)

    pub raise_at : (v : Value) (e : Event) (todo : List Todo) (vs : List Value) → There todo → BoundStep few source (polls.raise_at_step v e todo vs s)
    raise_at (Object q) e todo vs h = go todo vs h
    raise_at v e todo vs h = pend_at (piece.exec_at v s.env) e todo vs h

    pub enables : (events cell : ℕ) (todo : List Todo) → There todo → BoundStep few source (polls.enable_step events cell todo s)
    enables events cell todo h =
        let k : Keeps few s.env (written (piece.variable_at cell s) (Number (signed_64 s.env.links.enabled)) s.env) = kept.written_number few (piece.variable_at cell s) (signed_64 s.env.links.enabled) s.env st.env in
        go_in _ _ _ (kept.keeps_both few k (kept.keeps_like few k.env refl refl refl refl refl)) h

    quiet_poll : (x : Option Pending) (todo : List Todo) → There todo → BoundStep few source (polls.quiet_poll x todo s)
    quiet_poll None todo h = go _ _ h
    quiet_poll (Some p) todo h = go_in _ _ _ (same refl refl refl refl refl) (tt, h)

    poll_by : (b : Bool) (todo : List Todo) → There todo → BoundStep few source (polls.poll_by b todo s)
    poll_by true todo h = go _ _ (tt, h)
    poll_by false todo h = quiet_poll (inside.oldest_enabled s.env.links) todo h

    pub poll : (todo : List Todo) → There todo → BoundStep few source (polls.poll_step todo s)
    poll todo h = either (BoundStep few source) (nat_eq s.env.links.enabled 0) _ _ (go todo _ h) (poll_by (inside.is_own s.env) todo h)

    pub deliver : (v : Value) (todo : List Todo) → There todo → BoundStep few source (polls.deliver_step v todo s)
    deliver Nothing todo h = go _ _ h
    deliver v todo h = go _ _ (tt, (tt, h))

    -- the running activation is told anew
    told : (b : Active) → b.frame ≡ s.run.frame → b.this ≡ s.run.this → There b.control → BoundState few source true (record s { run = b })
    told b e q h = record {
      frames = st.frames;
      frame = subst (λ f. f ≤ length s.callers) (sym e) st.frame;
      run = inl (subst (λ f. AllUnbound (IsUnset (frame_at f s.env.frames)) b.control) (sym e) h);
      callers = subst (λ v. BoundStack few s.env.exec s.env.frames v s.callers) (sym q) st.callers;
      env = st.env;
    }

    pub throws : (e : Event) (todo : List Todo) → There todo → BoundStep few source (raising.throw_step e todo s)
    throws e todo h = told _ refl refl (all_left (IsUnset (here s)) todo h)

    -- the handler of a resumption begins
    handles : (o : Option Found) (e : Event) (todo : List Todo) → FoundTo (suc (length s.callers)) o → There todo → BoundStep few source (raising.handle_step o e todo s)
    handles None e todo f h = throws e todo h
    handles (Some x) e todo f h =
        let n = st.frames in
        record {
          frames = ap suc st.frames;
          frame = f.0;
          run = inl (handled (IsUnset (frame_at x.frame ([] ∷ s.env.frames))) x.handler [] f.1 tt);
          callers = stack_newer few s.env.exec [] s.env.frames x.this (record s.run { control = piece.DropNow ∷ todo; operands = below (below (below s.run.operands)) } ∷ s.callers) (omega (arith, n)) (st.frame, inl (tt, h), st.callers);
          env = kept.like few st.env refl refl refl;
        }

    pub raises : (e : Event) (todo : List Todo) → There todo → BoundStep few source (raising.raise_step e todo s)
    raises e todo h =
        handles (raising.seek None e (record s.run { control = todo } ∷ s.callers)) e todo (seek_to s.env.exec s.env.frames (suc (length s.callers)) None e Nothing (record s.run { control = todo } ∷ s.callers) (omega arith) (st.frame, inl h, st.callers)) h

    -- unwinding

    catches : (x : Option Handler) (e : Event) (todo : List Todo) → HandlerBegins x → There todo → BoundStep few source (raising.catch_step x e todo s)
    catches None e todo b h = go _ _ (all_left (IsUnset (here s)) todo h)
    catches (Some x) e todo b h = told _ refl refl (handled (IsUnset (here s)) x todo b h)

    guarded : (hs : Handlers) (w : Option UnwindReason) (todo : List Todo) → HandlersBegin hs → There todo → BoundStep few source (raising.guard_left hs w todo s)
    guarded hs (Some (reason.Event n y z)) todo b h = catches (raising.handler_for false (record { number = n; x = y; y = z }) hs) (record { number = n; x = y; y = z }) todo (handler_begins false (record { number = n; x = y; y = z }) hs b) h
    guarded hs w todo b h = go _ _ (all_left (IsUnset (here s)) todo h)

    whole : (b : Bool) (todo : List Todo) → There todo → BoundStep few source (raising.whole_left b todo s)
    whole true todo h = told _ refl refl h
    whole false todo h = go _ _ (all_left (IsUnset (here s)) todo h)

    scope : (c : CleanUp) (b : Bool) (todo : List Todo) → There todo → BoundStep few source (raising.scope_left c b todo s)
    scope src.Leaves true todo h = told _ refl refl (tt, all_left (IsUnset (here s)) todo h)
    scope c b todo h = go (raising.left_todo c (piece.Unwind ∷ todo)) [] (left_cleans (IsUnset (here s)) c (piece.Unwind ∷ todo) (all_left (IsUnset (here s)) todo h))

    main_left : (w : Option UnwindReason) (todo : List Todo) → There todo → BoundStep few source (raising.main_left w todo s)
    main_left (Some (reason.ReturnTo n)) todo h = told _ refl refl (tt, h)
    main_left w todo h = go todo [] h

    coroutine_left : (w : Option UnwindReason) (todo : List Todo) → There todo → BoundStep few source (raising.coroutine_left w todo s)
    coroutine_left (Some (reason.ReturnTo n)) todo h = told _ refl refl (tt, h)
    coroutine_left (Some reason.Destroyed) todo h = moved _ todo _ h (kept.taken_down_rests few source (at todo [] s) (go todo [] h))
    coroutine_left w todo h = moved _ todo _ h (kept.escape_rests few source (at todo [] s) (go todo [] h))

    unwind_past : (k : Sort) (todo : List Todo) → LeftBy k (AllLeft (IsUnset (here s)) todo) (There todo) → BoundStep few source (raising.unwind_past k todo s)
    unwind_past piece.Simple todo h = go _ _ h
    unwind_past (piece.IsLoop order t e b) todo h = go _ _ (all_left (IsUnset (here s)) todo h.1)
    unwind_past piece.IsWhole todo h = whole _ todo h.1
    unwind_past (piece.IsClean x) todo h = scope x _ todo h.1
    unwind_past (piece.IsFill m b d) todo h = go _ _ (tt, h)
    unwind_past (piece.IsSweep e) todo h = go _ _ (tt, all_left (IsUnset (here s)) todo h.1)
    unwind_past (piece.IsPart x) todo h = go _ _ (cleans (IsUnset (here s)) x _ (all_left (IsUnset (here s)) todo h.1))
    unwind_past (piece.IsGuard hs) todo h = guarded hs s.run.raised todo h.0 h.1
    unwind_past piece.IsFinish todo h = main_left s.run.raised todo h.1
    unwind_past piece.IsFinishCoroutine todo h = coroutine_left s.run.raised todo h.1

    pub unwinds : (todo : List Todo) → AllLeft (IsUnset (here s)) todo → BoundStep few source (raising.unwind_step todo s)
    unwinds [] h = leaves s.callers st.frames st.callers
    unwinds (p ∷ ps) h = unwind_past (piece.sort p) ps h

    pub exits : (w : Way) (todo : List Todo) → AllLeft (IsUnset (here s)) todo → BoundStep few source (quiet.exit_step w todo s)
    exits w [] h = end_step w
    exits w (p ∷ ps) h = go _ _ (left_behind (IsUnset (here s)) w (piece.sort p) ps h)

    -- printing

    pub prints : (x : Option (List Piece)) (p : Piece) (todo : List Todo) (vs : List Value) → There todo → BoundStep few source (piece.print_step x p todo vs s)
    prints None p todo vs h = go _ _ h
    prints (Some ps) p todo vs h = go_in _ _ _ (same refl refl refl refl refl) h

    pub flushes : (x : Option (List Piece)) (todo : List Todo) (vs : List Value) → There todo → BoundStep few source (piece.flush_step x todo vs s)
    flushes None todo vs h = go _ _ h
    flushes (Some []) todo vs h = go_in _ _ _ (same refl refl refl refl refl) h
    flushes (Some (p ∷ ps)) todo vs h = go_in _ _ _ (same refl refl refl refl refl) h

  -- the object at hand gets an execution
  pub set_up : (s : State) (st : BoundState few source true s) (r : Option Routine) (todo : List Todo) → RoutineBegins r → IsAside s.run.this todo s → AllUnbound (IsUnset (here s)) todo → BoundStep few source (quiet.set_up_step r todo s)
  set_up s st None todo b a h = go s st _ _ h
  set_up s st (Some r) todo b a h =
      let q = quiet.home_at s.run.this s.env in
      let x = quiet.fresh r s.run.this in
      let e : Env = sw.born q x s.env in
      let k : Keeps few s.env e = kept.born_keeps few q x s.env (λ n. fresh s st n r s.run.this b) st.env in
      let before : State = at todo s.run.operands (in_env e s) in
      let mid : BoundState few source true before = go_in s st todo s.run.operands e k h in
      go_at before mid _ _ _ _ (kept.written_aside few s.run.this _ s.run.frame todo s.callers e (aside_by s st s.run.this todo e (parked.change_exec q (sw.one_more x) s.env) a) k.env) (subst (λ fs. AllUnbound (IsUnset (frame_at s.run.frame fs)) todo) (sym (parked.change_frames q (sw.one_more x) s.env)) h)

-- A quiet step of a task in which what is in scope holds what is known leads to one.
use Rattle.std.proofs.Common.{◌≡◌, ℕ, zero, suc, ◌≤◌, ◌++◌, Bool, true, false, List, [], ◌∷◌, length, drop, Option, Some, None, refl, arith, ap, ◌∙◌, subst, sym}
use Rattle.std.specs.Prelude.{nat_eq, nat_lt, if◌then◌else◌}
use Rattle.std.proofs.lemmas.Bool.{eq-eqb}
use Rattle.uc_tree.specs.declared.limits.TheConstants.{CALLS, PENDING_EVENTS}
use Rattle.uc_tree.specs.Source as src
use Rattle.uc_tree.specs.Source.{Shape, Expr, ObjectExpr, Stmt, Stmts, EventStmt, TaskStmt, Routine, Purpose, Order, Way, CleanUp, Handlers, Clauses, Raised, Item, Declared, Source}
use Rattle.uc_entry.specs.declared.request.Piece.{Piece}
use Rattle.uc_entry.specs.Keyed.{find, signed_64}
use Rattle.uc_machine.specs.declared.exec.Exec.{Exec}
use Rattle.uc_machine.specs.declared.exec.Home.{Home}
use Rattle.uc_machine.specs.declared.exec.Home.TheVariants as home
use Rattle.uc_machine.specs.declared.exec.Pending.{Pending}
use Rattle.uc_machine.specs.declared.exec.UnwindReason.{UnwindReason}
use Rattle.uc_machine.specs.declared.exec.UnwindReason.TheVariants as reason
use Rattle.uc_machine.specs.declared.exec.Visited.{Visited}
use Rattle.uc_machine.specs.Executions.{others, home_eq, exec_eq, at_depth, list_in, frame_changed, value_changed, values_cleared, change, frames_changed}
use Rattle.uc_machine.specs.Switches as sw
use Rattle.uc_machine.specs.Switches.{Moved, To, Stops}
use Rattle.uc_machine.specs.Insides as inside
use Rattle.uc_machine.specs.Raising as raising
use Rattle.uc_machine.specs.Raising.{Event, Handler, Found, Hit}
use Rattle.uc_machine.specs.Monitors as monitors
use Rattle.uc_machine.specs.Polls as polls
use Rattle.uc_machine.specs.Quiet as quiet
use Rattle.uc_machine.specs.Pieces as piece
use Rattle.uc_machine.specs.Pieces.{stored, Value, Number, Place, Running, Object, Nothing, Todo, Sort, Active, State, Env, Members, Step, Goes, Ticks, Asks, Outcome, Gives, Faults, at, in_env, top, below, number, nought, written}
use Rattle.uc_typing.specs.Typing.{Table}
use Rattle.uc_life_laws.specs.LifeStates.{BehindMark, frame_at, MarkHoldsBy, AllHoldBy, LifeStackBy, LifeExBy, LifeStateBy, LifeStepBy, AllBefore, FrameBefore, LifeEx, LifeState, LifeStep, OutwardsOnly}
use Rattle.uc_life_laws.proofs.Cells.{either, set_length, stack_stored, stack_cleared, stack_newer, stack_older, others_length}
use Rattle.uc_life_laws.proofs.LifeKeeping as kept
use Rattle.uc_life_laws.proofs.LifeKeeping.{Keeps, IsParkedKept}
use Rattle.uc_life_laws.proofs.Parked as parked
use Rattle.uc_life_laws.proofs.Parked.{Ex}
use Rattle.uc_life_laws.specs.Kinds.{Returns, GoesPast, GoesOn}
use Rattle.uc_life_laws.specs.Things.{Few}

home_same : (h : Home) → home_eq h h ≡ true
home_same (home.Task n) = eq-eqb n n refl
home_same (home.Object o) = eq-eqb o o refl

pub exec_same : (n : Exec) → exec_eq n n ≡ true
exec_same n =
    let h : home_eq n.home n.home ≡ true = home_same n.home in
    let s : nat_eq n.serial n.serial ≡ true = eq-eqb n.serial n.serial refl in
    rw h s

-- a handler that is found uses the frame of one of these activations

abbrev pub FoundTo : ℕ → Option Found → Type 0
FoundTo n None = Unit {0}
FoundTo n (Some f) = f.frame ≤ n

found_or : (n : ℕ) (h : Option Hit) (a : Active) (cs : List Active) (other : Option Found) → a.frame ≤ n → FoundTo n other → FoundTo n (raising.found_or h a cs other)
found_or n None a cs other l k = k
found_or n (Some h) a cs other l k = l

module _ (t : Table) (few : Few) (K : BehindMark) where
  pub seek_to : (m : Exec) (fs : List (List Value)) (n : ℕ) (v : Option Visited) (e : Event) (cs : List Active) → length cs ≤ n → LifeStackBy t few K m fs cs → FoundTo n (raising.seek v e cs)
  seek_to m fs n None e [] l h = tt
  seek_to m fs n (Some v) e [] l h = tt
  seek_to m fs n None e (a ∷ cs) l h =
      let d = h.0 in
      found_or n (raising.hit_in e a.control) a cs (raising.seek a.handles e cs) (omega (arith, d, l)) (seek_to m fs n a.handles e cs (omega (arith, l)) h.2)
  seek_to m fs n (Some v) e (a ∷ cs) l h =
      let d = h.0 in
      either (FoundTo n) (nat_eq (length cs) v.level) (raising.found_or (raising.hit_in e (raising.within v.rest a.control)) a cs (raising.seek a.handles e cs)) (raising.seek (Some v) e cs) (found_or n (raising.hit_in e (raising.within v.rest a.control)) a cs (raising.seek a.handles e cs) (omega (arith, d, l)) (seek_to m fs n a.handles e cs (omega (arith, l)) h.2)) (seek_to m fs n (Some v) e cs (omega (arith, l)) h.2)

  -- to-do lists of an activation of this frame and object, before older ones
  module _ (m : Exec) (vs : List Value) (f : ℕ) (this : Value) (older : List Active) where
    abbrev There : List Todo → Type 0
    There todo = AllHoldBy t few K m vs f this older todo

    behind : (p : Purpose) (line : ℕ) → There (quiet.behind_body p line)
    behind src.TaskMain line = tt
    behind src.CoroutineMain line = tt
    behind src.Procedure line = tt
    behind src.Function line = tt
    behind src.Builder line = tt

    pub routine : (r : Routine) → There (quiet.routine_todo r)
    routine r = behind r.purpose r.line

    pub starts : (cell : ℕ) (v : Option Expr) (todo : List Todo) → There todo → There (quiet.starting cell v todo)
    starts cell None todo h = h
    starts cell (Some e) todo h = h

    pub converts : (k : Shape) (todo : List Todo) → There todo → There (quiet.converting k todo)
    converts src.Character todo h = h
    converts src.Truth todo h = h
    converts k todo h = h

    pub stepped : (e : Option Expr) (todo : List Todo) → There todo → There (quiet.step_todo e todo)
    stepped None todo h = h
    stepped (Some e) todo h = h

    pub tested : (order : Order) (c : Expr) (e : Option Expr) (b : Stmt) (todo : List Todo) → There todo → There (quiet.test_todo order c e b todo)
    tested src.TestFirst c e b todo h = h
    tested src.BodyFirst c e b todo h = h
    tested src.NoTest c e b todo h = h

    pub looped : (order : Order) (c : Expr) (e : Option Expr) (b : Stmt) (todo : List Todo) → There todo → There (quiet.loop_todo order c e b todo)
    looped src.TestFirst c e b todo h = h
    looped src.BodyFirst c e b todo h = h
    looped src.NoTest c e b todo h = h

    loop_left : (w : Way) (order : Order) (c : Expr) (e : Option Expr) (b : Stmt) (todo : List Todo) → There todo → There (quiet.loop_left w order c e b todo)
    loop_left src.ToBreak order c e b todo h = h
    loop_left src.ToContinue order c e b todo h = h
    loop_left src.ToReturn order c e b todo h = h
    loop_left src.ToEnd order c e b todo h = h

    -- a piece of a sort is left; what holds of it holds of what is outwards of it
    pub left_behind : (w : Way) (k : Sort) (todo : List Todo) → MarkHoldsBy t few K m vs f this older k todo (There todo) → There (quiet.left_behind w k todo)
    left_behind w piece.Simple todo h = h
    left_behind w (piece.IsLoop order c e b) todo h = loop_left w order c e b todo h
    left_behind w piece.IsWhole todo h = h
    left_behind w (piece.IsClean x) todo h = h
    left_behind w (piece.IsFill n b d) todo h = h
    left_behind w (piece.IsSweep e) todo h = h
    left_behind w (piece.IsPart x) todo h = h
    left_behind w (piece.IsGuard hs) todo h = h
    left_behind w piece.IsFinish todo h = h
    left_behind w piece.IsFinishCoroutine todo h = h

    pub filled : (b : Bool) (n : ℕ) (e d : Expr) (todo : List Todo) → There todo → There (quiet.fill_todo b n e d todo)
    filled false n e d todo h = h
    filled true n e d todo h = h

    pub raised : (r : Raised) (todo : List Todo) → There todo → There (raising.raised_todo r todo)
    raised (src.Plainly n) todo h = h
    raised (src.BuiltAt n c e) todo h = h
    raised (src.AgainFrom c) todo h = h

    pub cleans : (c : CleanUp) (todo : List Todo) → There todo → There (piece.clean_todo c todo)
    cleans (src.Destroys e) todo h = h
    cleans (src.DestroysAll k e) todo h = h
    cleans src.Unwinds todo h = h
    cleans src.Forgets todo h = h
    cleans src.Leaves todo h = h
    cleans src.Ends todo h = h
    cleans (src.Frees None) todo h = h
    cleans (src.Frees (Some r)) todo h = h
    cleans (src.Restores k) todo h = h

    pub left_cleans : (c : CleanUp) (todo : List Todo) → There todo → There (raising.left_todo c todo)
    left_cleans (src.Frees r) todo h = h
    left_cleans c todo h = cleans c todo h

    pub branch : (k : ℕ) (cs : Clauses) (todo : List Todo) → There todo → There (monitors.branch_todo k cs todo)
    branch k src.NoClauses todo h = h
    branch k (src.Otherwise b) todo h = either There (nat_eq k 0) (piece.Do b ∷ todo) todo h h
    branch zero (src.MoreClauses guard b cs) todo h = branch zero cs todo h
    branch (suc zero) (src.MoreClauses guard b cs) todo h = h
    branch (suc (suc k)) (src.MoreClauses guard b cs) todo h = branch (suc k) cs todo h

    pub item : (i : Item) (todo : List Todo) → There todo → There (quiet.item_todo i todo)
    item (src.Show g e) todo h = h
    item (src.ShowText k) todo h = h

    pub item_value : (i : Item) (todo : List Todo) → There todo → There (quiet.item_value i todo)
    item_value (src.Show g e) todo h = h
    item_value (src.ShowText k) todo h = h

    pub item_piece : (i : Item) (todo : List Todo) → There todo → There (quiet.item_piece i ∷ todo)
    item_piece (src.Show g e) todo h = h
    item_piece (src.ShowText k) todo h = h

    pub polled : (w : Option UnwindReason) (todo : List Todo) → There todo → There (monitors.leave_todo w todo)
    polled None todo h = h
    polled (Some why) todo h = h

-- an execution in which what is in scope holds what is known
module _ (t : Table) (few : Few) (K : BehindMark) where
  fresh_life : (n : Exec) (r : Routine) (this : Value) → LifeExBy t few K n (quiet.fresh r this)
  fresh_life n r this = record { frames = refl; stack = (omega arith, routine t few K n _ _ this [] r, tt) }

  pub life_kept : IsParkedKept (LifeExBy t few K)
  life_kept = record {
    written = λ n x d k v h. record { frames = set_length x.frames d (value_changed k (stored v) nought (list_in (at_depth x.frames d))) ∙ h.frames; stack = stack_stored t few K n d k v x.frames (x.run ∷ x.callers) h.stack };
    linked = λ n x l h. record { frames = h.frames; stack = h.stack };
    begins = fresh_life;
  }

module _ (t : Table) (few : Few) (K : BehindMark) (P : Exec → Ex → Type 0) (rests : IsParkedKept P) (s : State) (st : LifeStateBy t few K P s) where
  abbrev pub Holding : List Todo → Type 0
  Holding todo = AllHoldBy t few K s.env.exec (frame_at s.run.frame s.env.frames) s.run.frame s.run.this s.callers todo

  -- with something else to do, and other operands
  pub go : (todo : List Todo) (vs : List Value) → Holding todo → LifeStateBy t few K P (at todo vs s)
  go todo vs h = record { frames = st.frames; stack = (st.stack.0, h, st.stack.2); env = st.env }

  -- and with another rest of the task
  pub go_in : (todo : List Todo) (vs : List Value) (e : Env) → Keeps t few K P rests s.env e → Holding todo → LifeStateBy t few K P (at todo vs (in_env e s))
  go_in todo vs e k h = kept.with_env t few K P rests (at todo vs s) (go todo vs h) k

  -- nothing that is told of changes
  pub same : {e : Env} → e.exec ≡ s.env.exec → e.frames ≡ s.env.frames → e.hand ≡ s.env.hand → e.house ≡ s.env.house → e.own ≡ s.env.own → Keeps t few K P rests s.env e
  same x q h g o = kept.keeps_like t few K P rests st.env x q h g o

  -- the end of an activation

  -- those that wait, with a frame less
  less : (a : Active) (cs : List Active) → length s.env.frames ≡ suc (length (a ∷ cs)) → LifeStackBy t few K s.env.exec s.env.frames (a ∷ cs) → LifeStackBy t few K s.env.exec (others s.env.frames) (a ∷ cs)
  less a cs l h =
      let n : length (others s.env.frames) ≡ suc (length cs) = others_length s.env.frames (length cs) l in
      stack_older t few K s.env.exec s.env.frames (a ∷ cs) (omega (arith, n)) h

  pub returned : (given : Value) (cs : List Active) → length s.env.frames ≡ suc (length cs) → LifeStackBy t few K s.env.exec s.env.frames cs → LifeStepBy t few K P (piece.return_step given cs s)
  returned given [] l h = st
  returned given (a ∷ cs) l h =
      let k = less a cs l h in
      record { frames = others_length s.env.frames (length cs) l; stack = (k.0, k.1, k.2); env = parked.like P st.env refl refl refl }

  past : (v : Visited) (given : Value) (cs : List Active) → length s.env.frames ≡ suc (length cs) → LifeStackBy t few K s.env.exec s.env.frames cs → LifeStepBy t few K P (raising.return_past v given cs s)
  past v given [] l h = st
  past v given (a ∷ cs) l h =
      let k = less a cs l h in
      record { frames = others_length s.env.frames (length cs) l; stack = (k.0, k.1, k.2); env = parked.like P st.env refl refl refl }

  end_by : (v : Option Visited) (given : Value) → LifeStepBy t few K P (raising.end_by v given s)
  end_by None given = returned given s.callers st.frames st.stack.2
  end_by (Some v) given = past v given s.callers st.frames st.stack.2

  end_step : (w : Way) → LifeStepBy t few K P (quiet.end_step w s)
  end_step src.ToReturn = end_by s.run.handles _
  end_step src.ToEnd = end_by s.run.handles _
  end_step src.ToBreak = returned _ s.callers st.frames st.stack.2
  end_step src.ToContinue = returned _ s.callers st.frames st.stack.2

  pass_on : (w : Option UnwindReason) (c : Active) (cs : List Active) → length s.env.frames ≡ suc (length (c ∷ cs)) → LifeStackBy t few K s.env.exec s.env.frames (c ∷ cs) → LifeStepBy t few K P (raising.pass_on w c cs s)
  pass_on None c cs l h = st
  pass_on (Some why) c cs l h =
      let k = less c cs l h in
      record { frames = others_length s.env.frames (length cs) l; stack = (k.0, k.1, k.2); env = parked.like P st.env refl refl refl }

  leave_for : (b : Bool) (c : Active) (cs : List Active) → length s.env.frames ≡ suc (length (c ∷ cs)) → LifeStackBy t few K s.env.exec s.env.frames (c ∷ cs) → LifeStepBy t few K P (raising.leave_for b c cs s)
  leave_for true c cs l h = st
  leave_for false c cs l h = pass_on s.run.raised c cs l h

  leaves : (cs : List Active) → length s.env.frames ≡ suc (length cs) → LifeStackBy t few K s.env.exec s.env.frames cs → LifeStepBy t few K P (raising.leave_step cs s)
  leaves [] l h = st
  leaves (c ∷ cs) l h =
      either (LifeStepBy t few K P) (raising.arrives s.run.raised (length (c ∷ cs))) _ _ (returned s.run.result (c ∷ cs) l h) (leave_for _ c cs l h)

  pub outcome : (x : Outcome) (todo : List Todo) (vs : List Value) → Holding todo → LifeStepBy t few K P (piece.outcome_step x todo vs s)
  outcome (Gives n) todo vs h = go todo _ h
  outcome (Faults f) todo vs h = go todo _ h

  pub element : (n : Shape) (i : Option ℕ) (todo : List Todo) (v : Value) (vs : List Value) → Holding todo → LifeStepBy t few K P (piece.element_step n i todo v vs s)
  element n None todo v vs h = go todo _ h
  element n (Some i) todo v vs h = go todo _ h

  -- expressions

  object : (x : ObjectExpr) (todo : List Todo) → Holding todo → LifeStepBy t few K P (quiet.object_step x todo s)
  object (src.EndOn r false a) todo h = go _ _ h
  object (src.EndOn r true a) todo h = go _ _ h
  object (src.MakeOn c r false a args) todo h = go _ _ h
  object (src.MakeOn c r true a args) todo h = go _ _ h
  object x todo h = go _ _ h

  pub eval : (a : Expr) (todo : List Todo) → Holding todo → LifeStepBy t few K P (quiet.eval_step a todo s)
  eval (src.Update op k p a) todo h = go _ _ (converts t few K s.env.exec _ s.run.frame s.run.this s.callers k (piece.KeepNow ∷ todo) h)
  eval (src.StepBehind op k p) todo h = go _ _ (converts t few K s.env.exec _ s.run.frame s.run.this s.callers k (piece.StoreNow ∷ (piece.DropBelowNow ∷ todo)) h)
  eval (src.OfObject x) todo h = object x todo h
  eval a todo h = go _ _ h

  -- statements

  pub swept : (n : ℕ) (e : Expr) (todo : List Todo) → Holding todo → LifeStepBy t few K P (quiet.sweep_step n e todo s)
  swept zero e todo h = go _ _ h
  swept (suc m) e todo h = record { frames = st.frames; stack = (st.stack.0, h, st.stack.2); env = st.env }

  event_step : (a : EventStmt) (todo : List Todo) → Holding todo → LifeStepBy t few K P (quiet.event_step a todo s)
  event_step (src.Throw line r) todo h = go _ _ (raised t few K s.env.exec _ s.run.frame s.run.this s.callers r _ h)
  event_step (src.Raise line r) todo h = go _ _ (raised t few K s.env.exec _ s.run.frame s.run.this s.callers r _ h)
  event_step (src.Try line body hs) todo h = go _ _ h
  event_step (src.RaiseAt line r a) todo h = go _ _ (raised t few K s.env.exec _ s.run.frame s.run.this s.callers r _ h)
  event_step (src.Enable line events cell a) todo h = go _ _ ((λ k b x. absurd x), h)
  event_step (src.Disable line events cell a) todo h = go _ _ ((λ k b x. absurd x), h)

  task_step : (a : TaskStmt) (todo : List Todo) → Holding todo → LifeStepBy t few K P (quiet.task_step a todo s)
  task_step (src.Resume line) todo h = go _ _ h
  task_step a todo h = go _ _ h

  pub stmt : (a : Stmt) (todo : List Todo) → Holding todo → LifeStepBy t few K P (quiet.stmt_step a todo s)
  stmt (src.Loop line order c e b) todo h = go _ _ (looped t few K s.env.exec _ s.run.frame s.run.this s.callers order c e b _ h)
  stmt (src.Return line None) todo h = go _ _ h
  stmt (src.Return line (Some e)) todo h = go _ _ h
  stmt (src.OfEvents a) todo h = event_step a todo h
  stmt (src.OfTasks a) todo h = task_step a todo h
  stmt a todo h = go _ _ h

  -- cells start anew
  pub clears : (k m : ℕ) (todo : List Todo) → s.run.control ≡ piece.ClearNow k m ∷ todo → FrameBefore t s.env.exec k s.run.frame (s.run ∷ s.callers) → Holding todo → LifeStepBy t few K P (quiet.turns todo (in_env (piece.cleared k m s) s))
  clears k m todo e f h =
      let lies : AllBefore t s.env.exec k s.run.frame (piece.ClearNow k m ∷ todo) = subst (AllBefore t s.env.exec k s.run.frame) e (f.0 refl) in
      let there : LifeStackBy t few K s.env.exec s.env.frames (record s.run { control = todo } ∷ s.callers) = (st.stack.0, h, st.stack.2) in
      subst (λ (b : Bool). LifeStateBy t few K P (at todo s.run.operands (in_env (if b then record s.env { frames = frame_changed s.run.frame (values_cleared k m nought) s.env.frames } else change s.env.exec.home (frames_changed s.env.exec.serial (frame_changed s.run.frame (values_cleared k m nought))) s.env) s))) (sym (exec_same s.env.exec)) (record {
        frames = set_length s.env.frames s.run.frame (values_cleared k m nought (frame_at s.run.frame s.env.frames)) ∙ st.frames;
        stack = stack_cleared t few K s.env.exec s.run.frame k m s.env.frames (record s.run { control = todo } ∷ s.callers) ((λ q. lies), f.1) there;
        env = parked.like P st.env refl refl refl;
      })

  -- calls

  begun : (r : Routine) (this : Value) (counts : Bool) (todo : List Todo) (vs : List Value) → Holding todo → LifeStepBy t few K P (quiet.begun_step r this counts todo vs s)
  begun r this counts todo vs h =
      let n = st.frames in
      record {
        frames = ap suc st.frames;
        stack = (omega (arith, n), routine t few K s.env.exec _ _ this (record s.run { control = todo; operands = vs } ∷ s.callers) r, stack_newer t few K s.env.exec _ s.env.frames (record s.run { control = todo; operands = vs } ∷ s.callers) (omega (arith, n)) (st.stack.0, h, st.stack.2));
        env = parked.like P st.env refl refl refl;
      }

  pub call : (r : Option Routine) (todo : List Todo) → Holding todo → LifeStepBy t few K P (quiet.call_step r todo s)
  call None todo h = go _ _ h
  call (Some r) todo h = either (LifeStepBy t few K P) (nat_lt s.env.links.calls CALLS) _ _ (begun r _ true todo _ h) (go todo _ h)

  pub call_on : (r : Option Routine) (todo : List Todo) → Holding todo → LifeStepBy t few K P (quiet.call_on_step r todo s)
  call_on None todo h = go _ _ h
  call_on (Some r) todo h = either (LifeStepBy t few K P) (nat_lt s.env.links.calls CALLS) _ _ (begun r _ true todo _ h) (go todo _ h)

  pub call_unwritten : (r : Option Routine) (todo : List Todo) → Holding todo → LifeStepBy t few K P (quiet.call_unwritten_step r todo s)
  call_unwritten None todo h = go _ _ h
  call_unwritten (Some r) todo h = begun r _ false todo _ h

  -- coroutines

  pub set_up : (r : Option Routine) (todo : List Todo) → Holding todo → LifeStepBy t few K P (quiet.set_up_step r todo s)
  set_up None todo h = go _ _ h
  set_up (Some r) todo h =
      let q = quiet.home_at s.run.this s.env in
      let x = quiet.fresh r s.run.this in
      let k : Keeps t few K P rests s.env (sw.born q x s.env) = kept.born_keeps t few K P rests q x s.env (λ n. rests.begins n r s.run.this) st.env in
      go_in _ _ _ (kept.keeps_both t few K P rests k (kept.written_keeps t few K P rests s.run.this _ (sw.born q x s.env) k.env)) h

  pub live : (r : Option Routine) (todo : List Todo) → Holding todo → LifeStepBy t few K P (quiet.live_step r todo s)
  live None todo h = go _ _ h
  live (Some r) todo h = either (LifeStepBy t few K P) (sw.is_live (piece.exec_at (top (drop r.params s.run.operands)) s.env) s.env) _ _ (go todo _ h) (go todo _ h)

  pub land : (w : Option UnwindReason) (todo : List Todo) → Holding todo → LifeStepBy t few K P (quiet.land_step w todo s)
  land None todo h = go _ _ h
  land (Some why) todo h = go _ _ h

  -- mutex objects

  pub unless : (q : ℕ) (step : Step) (todo : List Todo) → Holding todo → LifeStepBy t few K P step → LifeStepBy t few K P (monitors.unless_held_up q step todo s)
  unless q step todo h k = either (LifeStepBy t few K P) (inside.is_held_up q s.env) _ step (go todo _ h) k

  enter_at : (d : Option ℕ) (q m : ℕ) (todo : List Todo) → Holding todo → LifeStepBy t few K P (monitors.enter_at d q m todo s)
  enter_at (Some d) q m todo h = go_in _ _ _ (same refl refl refl refl refl) h
  enter_at None q m todo h = go_in _ _ _ (same refl refl refl refl refl) h

  pub enter : (m : ℕ) (r : Option Routine) (todo : List Todo) → Holding todo → LifeStepBy t few K P (monitors.enter_step m r todo s)
  enter m None todo h = go _ _ h
  enter m (Some r) todo h =
      let q = piece.object_in (top (drop r.params s.run.operands)) in
      either (LifeStepBy t few K P) (monitors.may_call r.written s) _ _ (enter_at (find q s.env.depths) q m todo h) (go todo _ h)

  pub leave : (b : Bool) (q : ℕ) (todo : List Todo) → Holding todo → LifeStepBy t few K P (monitors.leave_at b q todo s)
  leave false q todo h = go_in _ _ _ (same refl refl refl refl refl) h
  leave true q todo h =
      unless q _ todo h (record { frames = st.frames; stack = (st.stack.0, polled t few K s.env.exec _ s.run.frame s.run.this s.callers s.run.raised todo h, st.stack.2); env = parked.like P st.env refl refl refl })

  pub make : (c n : ℕ) (r : Option Routine) (todo : List Todo) → Holding todo → LifeStepBy t few K P (monitors.make_step c n r todo s)
  make c n None todo h = go _ _ h
  make c n (Some r) todo h =
      either (LifeStepBy t few K P) (monitors.may_call r.written s) _ _ (go_in _ _ _ (same refl refl refl refl refl) h) (go todo _ h)

  pub bind : (r : Option Routine) (todo : List Todo) → Holding todo → LifeStepBy t few K P (monitors.bind_step r todo s)
  bind None todo h = go _ _ h
  bind (Some r) todo h = go_in _ _ _ (kept.written_keeps t few K P rests _ _ s.env st.env) h

  pub condition : (n : ℕ) (i : Option ℕ) (todo : List Todo) → Holding todo → LifeStepBy t few K P (monitors.condition_step n i todo s)
  condition n None todo h = go todo _ h
  condition n (Some i) todo h = go todo _ h

  pub accept_by : (mask q site : ℕ) (todo : List Todo) (vs : List Value) → Holding todo → LifeStepBy t few K P (monitors.accept_by mask q site todo vs s)
  accept_by zero q site todo vs h = go _ _ h
  accept_by (suc mask) q site todo vs h = unless q _ todo h (go _ _ h)

  pub failed : (b : Bool) (todo : List Todo) (vs : List Value) → Holding todo → LifeStepBy t few K P (monitors.failed_step b todo vs s)
  failed true todo vs h = go _ _ h
  failed false todo vs h = go _ _ h

  -- events

  pend : (n : Exec) (e : Event) (todo : List Todo) (vs : List Value) → Holding todo → LifeStepBy t few K P (polls.pend_step n e todo vs s)
  pend n e todo vs h =
      either (LifeStepBy t few K P) (nat_lt (length (inside.pending_at n s.env)) PENDING_EVENTS) _ _ (go_in _ _ _ (kept.links_keeps t few K P rests (λ l. record l { pending = l.pending ++ (record { event = e.number; x = e.x; y = e.y }) ∷ [] }) n s.env st.env) h) (go todo vs h)

  pend_at : (x : Option Exec) (e : Event) (todo : List Todo) (vs : List Value) → Holding todo → LifeStepBy t few K P (polls.pend_at x e todo vs s)
  pend_at None e todo vs h = go todo vs h
  pend_at (Some n) e todo vs h = either (LifeStepBy t few K P) (sw.is_live (Some n) s.env) _ _ (pend n e todo vs h) (go todo vs h)

  pub raise_at : (v : Value) (e : Event) (todo : List Todo) (vs : List Value) → Holding todo → LifeStepBy t few K P (polls.raise_at_step v e todo vs s)
  raise_at (Object q) e todo vs h = go todo vs h
  raise_at v e todo vs h = pend_at (piece.exec_at v s.env) e todo vs h

  pub enables : (events cell : ℕ) (todo : List Todo) → Holding todo → LifeStepBy t few K P (polls.enable_step events cell todo s)
  enables events cell todo h =
      let k : Keeps t few K P rests s.env (written (piece.variable_at cell s) (Number (signed_64 s.env.links.enabled)) s.env) = kept.written_keeps t few K P rests (piece.variable_at cell s) (Number (signed_64 s.env.links.enabled)) s.env st.env in
      go_in _ _ _ (kept.keeps_both t few K P rests k (kept.keeps_like t few K P rests k.env refl refl refl refl refl)) h

  quiet_poll : (x : Option Pending) (todo : List Todo) → Holding todo → LifeStepBy t few K P (polls.quiet_poll x todo s)
  quiet_poll None todo h = go _ _ h
  quiet_poll (Some p) todo h = go_in _ _ _ (same refl refl refl refl refl) h

  poll_by : (b : Bool) (todo : List Todo) → Holding todo → LifeStepBy t few K P (polls.poll_by b todo s)
  poll_by true todo h = go _ _ h
  poll_by false todo h = quiet_poll (inside.oldest_enabled s.env.links) todo h

  pub poll : (todo : List Todo) → Holding todo → LifeStepBy t few K P (polls.poll_step todo s)
  poll todo h = either (LifeStepBy t few K P) (nat_eq s.env.links.enabled 0) _ _ (go todo _ h) (poll_by (inside.is_own s.env) todo h)

  pub deliver : (v : Value) (todo : List Todo) → Holding todo → LifeStepBy t few K P (polls.deliver_step v todo s)
  deliver Nothing todo h = go _ _ h
  deliver v todo h = go _ _ h

  -- the running activation is told anew
  told : (b : Active) → b.frame ≡ s.run.frame → b.this ≡ s.run.this → Holding b.control → LifeStateBy t few K P (record s { run = b })
  told b e q h = record {
    frames = st.frames;
    stack = (subst (λ f. f ≤ length s.callers) (sym e) st.stack.0, subst (λ v. AllHoldBy t few K s.env.exec (frame_at b.frame s.env.frames) b.frame v s.callers b.control) (sym q) (subst (λ f. AllHoldBy t few K s.env.exec (frame_at f s.env.frames) f s.run.this s.callers b.control) (sym e) h), st.stack.2);
    env = st.env;
  }

  pub throws : (e : Event) (todo : List Todo) → Holding todo → LifeStepBy t few K P (raising.throw_step e todo s)
  throws e todo h = told _ refl refl h

  -- the handler of a resumption begins
  handles : (o : Option Found) (e : Event) (todo : List Todo) → FoundTo (suc (length s.callers)) o → Holding todo → LifeStepBy t few K P (raising.handle_step o e todo s)
  handles None e todo f h = throws e todo h
  handles (Some x) e todo f h =
      let n = st.frames in
      record {
        frames = ap suc st.frames;
        stack = (f, tt, stack_newer t few K s.env.exec [] s.env.frames (record s.run { control = piece.DropNow ∷ todo; operands = below (below (below s.run.operands)) } ∷ s.callers) (omega (arith, n)) (st.stack.0, h, st.stack.2));
        env = parked.like P st.env refl refl refl;
      }

  pub raises : (e : Event) (todo : List Todo) → Holding todo → LifeStepBy t few K P (raising.raise_step e todo s)
  raises e todo h =
      handles (raising.seek None e (record s.run { control = todo } ∷ s.callers)) e todo (seek_to t few K s.env.exec s.env.frames (suc (length s.callers)) None e (record s.run { control = todo } ∷ s.callers) (omega arith) (st.stack.0, h, st.stack.2)) h

  -- unwinding

  catches : (x : Option Handler) (e : Event) (todo : List Todo) → Holding todo → LifeStepBy t few K P (raising.catch_step x e todo s)
  catches None e todo h = go _ _ h
  catches (Some x) e todo h = told _ refl refl h

  guarded : (hs : Handlers) (w : Option UnwindReason) (todo : List Todo) → Holding todo → LifeStepBy t few K P (raising.guard_left hs w todo s)
  guarded hs (Some (reason.Event n y z)) todo h = catches (raising.handler_for false (record { number = n; x = y; y = z }) hs) (record { number = n; x = y; y = z }) todo h
  guarded hs w todo h = go _ _ h

  whole : (b : Bool) (todo : List Todo) → Holding todo → LifeStepBy t few K P (raising.whole_left b todo s)
  whole true todo h = told _ refl refl h
  whole false todo h = go _ _ h

  scope : (c : CleanUp) (b : Bool) (todo : List Todo) → Holding todo → LifeStepBy t few K P (raising.scope_left c b todo s)
  scope src.Leaves true todo h = told _ refl refl h
  scope c b todo h = go (raising.left_todo c (piece.Unwind ∷ todo)) [] (left_cleans t few K s.env.exec _ s.run.frame s.run.this s.callers c (piece.Unwind ∷ todo) h)

  main_left : (w : Option UnwindReason) (todo : List Todo) → Holding todo → LifeStepBy t few K P (raising.main_left w todo s)
  main_left (Some (reason.ReturnTo n)) todo h = told _ refl refl h
  main_left w todo h = go todo [] h

  coroutine_left : (w : Option UnwindReason) (todo : List Todo) → Returns w → Holding todo → LifeStepBy t few K P (raising.coroutine_left w todo s)
  coroutine_left (Some (reason.ReturnTo n)) todo calm h = told _ refl refl h
  coroutine_left (Some reason.Destroyed) todo calm h = absurd calm
  coroutine_left (Some (reason.Event n x y)) todo calm h = absurd calm
  coroutine_left None todo calm h = absurd calm

  unwind_past : (k : Sort) (todo : List Todo) → GoesPast k s.run.raised → MarkHoldsBy t few K s.env.exec (frame_at s.run.frame s.env.frames) s.run.frame s.run.this s.callers k todo (Holding todo) → LifeStepBy t few K P (raising.unwind_past k todo s)
  unwind_past piece.Simple todo calm h = go _ _ h
  unwind_past (piece.IsLoop order c e b) todo calm h = go _ _ h
  unwind_past piece.IsWhole todo calm h = whole _ todo h
  unwind_past (piece.IsClean x) todo calm h = scope x _ todo h.1
  unwind_past (piece.IsFill m b d) todo calm h = go _ _ h
  unwind_past (piece.IsSweep e) todo calm h = go _ _ h
  unwind_past (piece.IsPart x) todo calm h = go _ _ (cleans t few K s.env.exec _ s.run.frame s.run.this s.callers x _ h)
  unwind_past (piece.IsGuard hs) todo calm h = guarded hs s.run.raised todo h
  unwind_past piece.IsFinish todo calm h = main_left s.run.raised todo h
  unwind_past piece.IsFinishCoroutine todo calm h = coroutine_left s.run.raised todo calm h

  pub unwinds : (todo : List Todo) → GoesOn (piece.Unwind ∷ todo) s.run.raised → Holding todo → LifeStepBy t few K P (raising.unwind_step todo s)
  unwinds [] calm h = leaves s.callers st.frames st.stack.2
  unwinds (p ∷ ps) calm h = unwind_past (piece.sort p) ps calm h

  pub exits : (w : Way) (todo : List Todo) → Holding todo → LifeStepBy t few K P (quiet.exit_step w todo s)
  exits w [] h = end_step w
  exits w (p ∷ ps) h = go _ _ (left_behind t few K s.env.exec _ s.run.frame s.run.this s.callers w (piece.sort p) ps h)

  -- printing

  pub prints : (x : Option (List Piece)) (p : Piece) (todo : List Todo) (vs : List Value) → Holding todo → LifeStepBy t few K P (piece.print_step x p todo vs s)
  prints None p todo vs h = go _ _ h
  prints (Some ps) p todo vs h = go_in _ _ _ (same refl refl refl refl refl) h

  pub flushes : (x : Option (List Piece)) (todo : List Todo) (vs : List Value) → Holding todo → LifeStepBy t few K P (piece.flush_step x todo vs s)
  flushes None todo vs h = go _ _ h
  flushes (Some []) todo vs h = go_in _ _ _ (same refl refl refl refl refl) h
  flushes (Some (p ∷ ps)) todo vs h = go_in _ _ _ (same refl refl refl refl refl) h

-- where another execution may go on

module _ (t : Table) (few : Few) (s : State) (st : LifeState t few s) where
  abbrev Still : List Todo → Type 0
  Still todo = Holding t few OutwardsOnly (LifeEx t few) (life_kept t few OutwardsOnly) s st todo

  still : (todo : List Todo) (vs : List Value) → Still todo → LifeState t few (at todo vs s)
  still = go t few OutwardsOnly (LifeEx t few) (life_kept t few OutwardsOnly) s st

  moved : (m : Moved (List Todo) Value) (todo : List Todo) (vs : List Value) → Still todo → kept.LifeMoved t few m → LifeStep t few (piece.moves m (at todo vs s))
  moved (To u) todo vs h m = m
  moved (Stops f) todo vs h m = still todo vs h

  coroutine_stops : (w : Option UnwindReason) (todo : List Todo) → (Returns w → ⊥) → Still todo → LifeStep t few (raising.coroutine_left w todo s)
  coroutine_stops (Some (reason.ReturnTo n)) todo other h = absurd (other tt)
  coroutine_stops (Some reason.Destroyed) todo other h = moved _ todo _ h (kept.taken_down_rests t few (at todo [] s) (still todo [] h))
  coroutine_stops w todo other h = moved _ todo _ h (kept.escape_rests t few (at todo [] s) (still todo [] h))

  past_stops : (k : Sort) (todo : List Todo) → (GoesPast k s.run.raised → ⊥) → MarkHoldsBy t few OutwardsOnly s.env.exec (frame_at s.run.frame s.env.frames) s.run.frame s.run.this s.callers k todo (Still todo) → LifeStep t few (raising.unwind_past k todo s)
  past_stops piece.IsFinishCoroutine todo other h = coroutine_stops s.run.raised todo other h
  past_stops k todo other h = absurd (other tt)

  pub stops : (source : Source) (l : List Todo) → (GoesOn l s.run.raised → ⊥) → Still l → LifeStep t few (quiet.act_todo source l s)
  stops source [] other h = absurd (other tt)
  stops source (piece.TakeDownNow ∷ todo) other h = moved _ todo _ h (kept.take_down_rests t few (life_kept t few OutwardsOnly) (piece.own_exec s) (at todo s.run.operands s) (still _ _ h))
  stops source (piece.ResumeNow ∷ todo) other h = moved _ (piece.Land ∷ todo) _ h (kept.wake_rests t few (quiet.resumed s) (at (piece.Land ∷ todo) s.run.operands s) (still _ _ h))
  stops source (piece.SuspendNow ∷ todo) other h = moved _ (piece.Land ∷ todo) _ h (kept.suspend_rests t few (at (piece.Land ∷ todo) s.run.operands s) (still _ _ h))
  stops source (piece.FinishCoroutine ∷ todo) other h = moved _ todo _ h (kept.finish_rests t few (at todo s.run.operands s) (still _ _ h))
  stops source (piece.Unwind ∷ []) other h = absurd (other tt)
  stops source (piece.Unwind ∷ (p ∷ todo)) other h = past_stops (piece.sort p) todo other h
  stops source (p ∷ todo) other h = absurd (other tt)

-- A quiet step of a state in which parts are taken over leads to one.
use Rattle.std.proofs.Common.{◌≡◌, ℕ, ◌<◌, zero, suc, inl, inr, ◌++◌, Bool, true, false, ◌&&◌, List, [], ◌∷◌, length, drop, Option, Some, None, refl, arith}
use Rattle.std.specs.Prelude.{nat_eq, nat_lt}
use Rattle.std.proofs.lemmas.Bool.{ltb-true}
use Rattle.uc_tree.specs.declared.limits.TheConstants.{CALLS, PENDING_EVENTS}
use Rattle.uc_tree.specs.Source as src
use Rattle.uc_tree.specs.Source.{Shape, Expr, ObjectExpr, Stmt, Stmts, EventStmt, TaskStmt, Routine, Order, Way, CleanUp, Handlers, Clauses, Raised, Item}
use Rattle.uc_entry.specs.declared.fault.RunFault.{RunFault}
use Rattle.uc_entry.specs.declared.request.Piece.{Piece}
use Rattle.uc_entry.specs.Keyed.{find, signed_64}
use Rattle.uc_machine.specs.declared.exec.Exec.{Exec}
use Rattle.uc_machine.specs.declared.exec.Pending.{Pending}
use Rattle.uc_machine.specs.declared.exec.UnwindReason.{UnwindReason}
use Rattle.uc_machine.specs.declared.exec.UnwindReason.TheVariants as reason
use Rattle.uc_machine.specs.declared.exec.Visited.{Visited}
use Rattle.uc_machine.specs.Executions.{values_cleared}
use Rattle.uc_machine.specs.Switches as sw
use Rattle.uc_machine.specs.Switches.{Moved, To, Stops}
use Rattle.uc_machine.specs.Insides as inside
use Rattle.uc_machine.specs.Raising as raising
use Rattle.uc_machine.specs.Raising.{Handler, Found, Hit}
use Rattle.uc_machine.specs.Monitors as monitors
use Rattle.uc_machine.specs.Polls as polls
use Rattle.uc_machine.specs.Quiet as quiet
use Rattle.uc_machine.specs.Quiet.{MOST_ELEMENTS}
use Rattle.uc_machine.specs.Pieces as piece
use Rattle.uc_machine.specs.Pieces.{Value, Number, Place, Running, Object, Nothing, Todo, Sort, Active, State, Env, Step, Goes, Ticks, Asks, Outcome, Gives, Faults, at, in_env, fault, top, below, number, written}
use Rattle.uc_place_laws.specs.OlderResting.{AllWait, NamedEnv}
use Rattle.uc_place_laws.proofs.AsideKeeping as kept
use Rattle.uc_place_laws.proofs.AsideKeeping.{either}
use Rattle.uc_parts_laws.specs.Parts.{NoArray, InnerStmt, InnerStmts, InnerHandlers, InnerClauses, OpensAll, OpensRest, HeadStmt, PartsRoutine, IsFree, IsClear, CleansMark, AllParts, Parted, Heads, HeadDo, IsOrderly}
use Rattle.uc_parts_laws.specs.PartStates.{Setting, IsTaken, InParts, PartsState, PartsStep}
use Rattle.uc_parts_laws.proofs.PartTodos as todos
use Rattle.uc_parts_laws.proofs.PartTodos.{inner_more, inner_any, clear_free, BeginsBehind}

-- handlers

abbrev pub OfHandler : Option Handler → Type 0
OfHandler None = Unit {0}
OfHandler (Some x) = InnerStmts x.body

abbrev pub OfHit : Option Hit → Type 0
OfHit None = Unit {0}
OfHit (Some x) = InnerStmts x.handler.body

abbrev OfFound : Option Found → Type 0
OfFound None = Unit {0}
OfFound (Some x) = InnerStmts x.handler.body

pub handler_for : (kind : Bool) (e : raising.Event) (hs : Handlers) → InnerHandlers hs → OfHandler (raising.handler_for kind e hs)
handler_for kind e src.NoHandlers h = tt
handler_for kind e (src.MoreHandlers resumes event cell line body others) h =
    either OfHandler (raising.same_kind kind resumes && raising.takes event e) (Some (record { cell = cell; line = line; body = body })) (raising.handler_for kind e others) h.0 (handler_for kind e others h.1)

hit_or : (x : Option Handler) (n : ℕ) (other : Option Hit) → OfHandler x → OfHit other → OfHit (raising.hit_or x n other)
hit_or None n other h k = k
hit_or (Some x) n other h k = h

found_or : (x : Option Hit) (a : Active) (cs : List Active) (other : Option Found) → OfHit x → OfFound other → OfFound (raising.found_or x a cs other)
found_or None a cs other h k = k
found_or (Some x) a cs other h k = h

-- to-do lists of one activation

module _ (special : ℕ → Bool) (P : CleanUp → Type 0) (count : ℕ) where
  abbrev pub Ok : List Todo → Type 0
  Ok todo = IsOrderly special P count todo

  pub hit_in : (e : raising.Event) (todo : List Todo) → Ok todo → OfHit (raising.hit_in e todo)
  hit_in e [] h = tt
  hit_in e (piece.Guard hs ∷ ps) h = hit_or (raising.handler_for true e hs) (raising.count_round ps) (raising.hit_in e ps) (handler_for true e hs h.0) (hit_in e ps h.2)
  hit_in e (p ∷ ps) h = hit_in e ps (todos.tail special P count p ps h)

  pub within : (n : ℕ) (todo : List Todo) → Ok todo → Ok (raising.within n todo)
  within n [] h = tt
  within n (p ∷ ps) h =
      either Ok (nat_eq (raising.count_round (p ∷ ps)) n) (p ∷ ps) (raising.within n ps) h (within n ps (todos.tail special P count p ps h))

  -- a variable starts anew, where no array is built or destroyed
  pub starts : (cell : ℕ) (v : Option Expr) (todo : List Todo) → IsFree todo → Ok todo → IsFree (quiet.starting cell v todo) × Ok (quiet.starting cell v todo)
  starts cell None todo f h = (f, h)
  starts cell (Some e) todo f h = (f, h)

  converts : (k : Shape) (todo : List Todo) → Ok todo → Ok (quiet.converting k todo)
  converts src.Character todo h = h
  converts src.Truth todo h = h
  converts k todo h = h

  pub stepped : (e : Option Expr) (todo : List Todo) → Ok todo → Ok (quiet.step_todo e todo)
  stepped None todo h = h
  stepped (Some e) todo h = h

  pub turned : (o : Order) (t : Expr) (e : Option Expr) (b : Stmt) (todo : List Todo) → InnerStmt NoArray b → IsClear todo → Ok todo → Ok (quiet.test_todo o t e b todo)
  turned src.TestFirst t e b todo k l h = (k, l, h)
  turned src.BodyFirst t e b todo k l h = (k, l, h)
  turned src.NoTest t e b todo k l h = (k, l, h)

  looped : (o : Order) (t : Expr) (e : Option Expr) (b : Stmt) (todo : List Todo) → InnerStmt NoArray b → IsClear todo → Ok todo → Ok (quiet.loop_todo o t e b todo)
  looped src.TestFirst t e b todo k l h = (k, l, h)
  looped src.BodyFirst t e b todo k l h = (k, l, h)
  looped src.NoTest t e b todo k l h = (k, l, h)

  loop_left : (w : Way) (o : Order) (t : Expr) (e : Option Expr) (b : Stmt) (todo : List Todo) → InnerStmt NoArray b → IsClear todo → Ok todo → Ok (quiet.loop_left w o t e b todo)
  loop_left src.ToBreak o t e b todo k l h = h
  loop_left src.ToContinue o t e b todo k l h = (k, l, h)
  loop_left src.ToReturn o t e b todo k l h = (l, h)
  loop_left src.ToEnd o t e b todo k l h = (l, h)

  pub filled : (b : Bool) (n : ℕ) (e d : Expr) (todo : List Todo) → nat_lt count n ≡ b → Ok (piece.FillNow n e d ∷ todo) → Ok (quiet.fill_todo b n e d todo)
  filled false n e d todo l h = h.2
  filled true n e d todo l h = ((tt, below (todos.fits n d todo h.0)), h)
    where
      below : n < MOST_ELEMENTS → count < MOST_ELEMENTS
      below f = let k : count < n = ltb-true count n l in omega (arith, f, k)

  raised : (r : Raised) (todo : List Todo) → IsFree todo → Ok todo → Ok (raising.raised_todo r todo)
  raised (src.Plainly n) todo f h = h
  raised (src.BuiltAt n c e) todo f h = (f, h)
  raised (src.AgainFrom c) todo f h = h

  handled : (x : Handler) (todo : List Todo) → InnerStmts x.body → IsClear todo → Ok todo → Ok (raising.handler_todo x todo)
  handled x todo k l h = inl (k, l, h)

  pub cleans : (c : CleanUp) (todo : List Todo) → CleansMark special P c → BeginsBehind c todo → IsFree todo → Ok todo → Ok (piece.clean_todo c todo)
  cleans (src.Destroys e) todo n b f h = h
  cleans (src.DestroysAll m e) todo n b f h = (n, (f, h))
  cleans src.Unwinds todo n b f h = h
  cleans src.Forgets todo n b f h = h
  cleans src.Leaves todo n b f h = h
  cleans src.Ends todo n b f h = h
  cleans (src.Frees None) todo n b f h = ((n.1, b), h)
  cleans (src.Frees (Some r)) todo n b f h = ((n.0, n.1, b), h)
  cleans (src.Restores k) todo n b f h = h

  left_cleans : (c : CleanUp) (todo : List Todo) → CleansMark special P c → IsFree todo → Ok todo → Ok (raising.left_todo c todo)
  left_cleans (src.Frees r) todo n f h = h
  left_cleans c todo n f h = cleans c todo n tt f h

  pub branch : (k : ℕ) (cs : Clauses) (todo : List Todo) → InnerClauses cs → IsClear todo → Ok todo → Ok (monitors.branch_todo k cs todo)
  branch k src.NoClauses todo n l h = h
  branch k (src.Otherwise b) todo n l h = either Ok (nat_eq k 0) (piece.Do b ∷ todo) todo (inl (inner_any (OpensRest todo) b n, l, h)) h
  branch zero (src.MoreClauses guard b cs) todo n l h = branch zero cs todo n.1 l h
  branch (suc zero) (src.MoreClauses guard b cs) todo n l h = inl (inner_any (OpensRest todo) b n.0, l, h)
  branch (suc (suc k)) (src.MoreClauses guard b cs) todo n l h = branch (suc k) cs todo n.1 l h

  pub item : (i : Item) (todo : List Todo) → Ok todo → Ok (quiet.item_todo i todo)
  item (src.Show f e) todo h = h
  item (src.ShowText k) todo h = h

  pub item_value : (i : Item) (todo : List Todo) → Ok todo → Ok (quiet.item_value i todo)
  item_value (src.Show f e) todo h = h
  item_value (src.ShowText k) todo h = h

  pub item_piece : (i : Item) (todo : List Todo) → Ok todo → Ok (quiet.item_piece i ∷ todo)
  item_piece (src.Show f e) todo h = h
  item_piece (src.ShowText k) todo h = h

  polled : (o : Option UnwindReason) (todo : List Todo) → Ok todo → Ok (monitors.leave_todo o todo)
  polled None todo h = h
  polled (Some why) todo h = h

  -- a piece is left by an exit
  left_behind : (w : Way) (p : Todo) (todo : List Todo) → IsClear (p ∷ todo) → Ok (p ∷ todo) → Ok (quiet.left_behind w (piece.sort p) todo)
  left_behind w (piece.InLoop o t e b) todo l h = loop_left w o t e b todo h.0 h.1 h.2
  left_behind w piece.InWhole todo l h = h
  left_behind w (piece.Clean c) todo l h = ((h.0.0, todos.exit_behind special P c w todo l), h.1, (todos.clear_behind_mark special c todo l, h.2))
  left_behind w (piece.FillNow m b d) todo l h = absurd l
  left_behind w (piece.Sweep d) todo l h = absurd l
  left_behind w (piece.Part c) todo l h = absurd l
  left_behind w (piece.Guard hs) todo l h = (l, h.2)
  left_behind w piece.Finish todo l h = h
  left_behind w piece.FinishCoroutine todo l h = h
  left_behind w p todo l h = (l, todos.tail special P count p todo h)

module _ (g : Setting) where
  abbrev E : Env → Type 0
  E e = NamedEnv (InParts g) (InParts g) e

  abbrev W : Exec → List Active → Type 0
  W n cs = AllWait (InParts g) (InParts g) n cs

  pub calm : (n : Exec) (older : List Active) (a : Active) (w : Option UnwindReason) → InParts g n older a → InParts g n older (record a { raised = w })
  calm n older a w h = h

  abbrev K : Env → Env → Type 0
  K e f = kept.Keeps (InParts g) (InParts g) calm e f

  abbrev M : Moved (List Todo) Value → Type 0
  M m = kept.NamedMoved (InParts g) (InParts g) calm m

  pub likes : {e f : Env} → E e → f.hand ≡ e.hand → f.house ≡ e.house → f.own ≡ e.own → E f
  likes h k i o = kept.like (InParts g) (InParts g) calm h k i o

  -- handlers that are found

  seek : (n : Exec) (v : Option Visited) (e : raising.Event) (cs : List Active) → W n cs → OfFound (raising.seek v e cs)
  seek n None e [] h = tt
  seek n (Some v) e [] h = tt
  seek n None e (a ∷ cs) h = found_or (raising.hit_in e a.control) a cs (raising.seek a.handles e cs) (hit_in g.special (IsTaken g n cs a.frame a.this) a.elements e a.control h.0) (seek n a.handles e cs h.1)
  seek n (Some v) e (a ∷ cs) h =
      either OfFound (nat_eq (length cs) v.level) (raising.found_or (raising.hit_in e (raising.within v.rest a.control)) a cs (raising.seek a.handles e cs)) (raising.seek (Some v) e cs) (found_or (raising.hit_in e (raising.within v.rest a.control)) a cs (raising.seek a.handles e cs) (hit_in g.special (IsTaken g n cs a.frame a.this) a.elements e (raising.within v.rest a.control) (within g.special (IsTaken g n cs a.frame a.this) a.elements v.rest a.control h.0)) (seek n a.handles e cs h.1)) (seek n (Some v) e cs h.1)

  module _ (s : State) (callers : W s.env.exec s.callers) (env : E s.env) where
    -- what holds of parts of the object at hand
    abbrev pub Q : CleanUp → Type 0
    Q c = IsTaken g s.env.exec s.callers s.run.frame s.run.this c

    abbrev pub H : List Todo → Type 0
    H todo = IsOrderly g.special (IsTaken g s.env.exec s.callers s.run.frame s.run.this) s.run.elements todo

    -- with other operands and something else to do
    pub here : (todo : List Todo) (vs : List Value) → H todo → PartsState g (at todo vs s)
    here todo vs h = record { run = h; callers = callers; env = env }

    pub go : (todo : List Todo) (vs : List Value) → H todo → PartsStep g (Goes (at todo vs s))
    go todo vs h = here todo vs h

    -- and with something written
    pub go_in : (todo : List Todo) (vs : List Value) (e : Env) → H todo → K s.env e → PartsStep g (Goes (at todo vs (in_env e s)))
    go_in todo vs e h k = kept.with_env (InParts g) (InParts g) calm (at todo vs s) (here todo vs h) k

    pub same : {f : Env} → f.exec ≡ s.env.exec → f.hand ≡ s.env.hand → f.house ≡ s.env.house → f.own ≡ s.env.own → K s.env f
    same x h k o = kept.keeps_like (InParts g) (InParts g) calm env x h k o

    pub stop : (f : RunFault) (todo : List Todo) (vs : List Value) → H todo → PartsStep g (fault f todo vs s)
    stop f todo vs h = here todo vs h

    pub moved : (m : Moved (List Todo) Value) (todo : List Todo) (vs : List Value) → H todo → M m → PartsStep g (piece.moves m (at todo vs s))
    moved (To t) todo vs h m = m
    moved (Stops f) todo vs h m = here todo vs h

    pub write : (v w : Value) → K s.env (written v w s.env)
    write v w = kept.written_keeps (InParts g) (InParts g) calm v w s.env env

    pub outcome : (o : Outcome) (todo : List Todo) (vs : List Value) → H todo → PartsStep g (piece.outcome_step o todo vs s)
    outcome (Gives n) todo vs h = here todo _ h
    outcome (Faults f) todo vs h = here todo vs h

    pub element : (k : Shape) (i : Option ℕ) (todo : List Todo) (v : Value) (vs : List Value) → H todo → PartsStep g (piece.element_step k i todo v vs s)
    element k None todo v vs h = here todo vs h
    element k (Some i) todo v vs h = here todo _ h

    pub condition : (k : ℕ) (i : Option ℕ) (todo : List Todo) → H todo → PartsStep g (monitors.condition_step k i todo s)
    condition k None todo h = here todo _ h
    condition k (Some i) todo h = here todo _ h

    -- the end of an activation

    module _ (st : PartsState g s) where
      pub returned : (given : Value) (cs : List Active) → W s.env.exec cs → PartsStep g (piece.return_step given cs s)
      returned given [] c = st
      returned given (a ∷ cs) c = record { run = c.0; callers = c.1; env = likes env refl refl refl }

      past : (v : Visited) (given : Value) (cs : List Active) → W s.env.exec cs → PartsStep g (raising.return_past v given cs s)
      past v given [] c = st
      past v given (a ∷ cs) c = record { run = c.0; callers = c.1; env = likes env refl refl refl }

      end_by : (v : Option Visited) (given : Value) → PartsStep g (raising.end_by v given s)
      end_by None given = returned given s.callers callers
      end_by (Some v) given = past v given s.callers callers

      end_step : (w : Way) → PartsStep g (quiet.end_step w s)
      end_step src.ToReturn = end_by s.run.handles _
      end_step src.ToEnd = end_by s.run.handles _
      end_step src.ToBreak = returned _ s.callers callers
      end_step src.ToContinue = returned _ s.callers callers

      pub exits : (w : Way) (todo : List Todo) → IsClear todo → H todo → PartsStep g (quiet.exit_step w todo s)
      exits w [] l h = end_step w
      exits w (x ∷ xs) l h = go _ _ (left_behind g.special Q s.run.elements w x xs l h)

      pass_on : (o : Option UnwindReason) (c : Active) (cs : List Active) → W s.env.exec (c ∷ cs) → PartsStep g (raising.pass_on o c cs s)
      pass_on None c cs h = st
      pass_on (Some why) c cs h = record { run = h.0; callers = h.1; env = likes env refl refl refl }

      leave_for : (b : Bool) (c : Active) (cs : List Active) → W s.env.exec (c ∷ cs) → PartsStep g (raising.leave_for b c cs s)
      leave_for true c cs h = st
      leave_for false c cs h = pass_on s.run.raised c cs h

      leaves : (cs : List Active) → W s.env.exec cs → PartsStep g (raising.leave_step cs s)
      leaves [] h = st
      leaves (c ∷ cs) h = either (PartsStep g) (raising.arrives s.run.raised (length (c ∷ cs))) _ _ (returned s.run.result (c ∷ cs) h) (leave_for _ c cs h)

      -- unwinding

      catches : (o : Option Handler) (e : raising.Event) (todo : List Todo) → OfHandler o → IsClear todo → H todo → PartsStep g (raising.catch_step o e todo s)
      catches None e todo n l h = go _ _ h
      catches (Some x) e todo n l h = record { run = handled g.special Q s.run.elements x todo n l h; callers = callers; env = env }

      guarded : (hs : Handlers) (o : Option UnwindReason) (todo : List Todo) → InnerHandlers hs → IsClear todo → H todo → PartsStep g (raising.guard_left hs o todo s)
      guarded hs (Some (reason.Event n x y)) todo k l h =
          catches _ _ todo (handler_for false (record { number = n; x = x; y = y }) hs k) l h
      guarded hs o todo k l h = go _ _ h

      whole : (b : Bool) (todo : List Todo) → H todo → PartsStep g (raising.whole_left b todo s)
      whole true todo h = record { run = h; callers = callers; env = env }
      whole false todo h = go _ _ h

      scope : (c : CleanUp) (b : Bool) (todo : List Todo) → H (piece.Clean c ∷ todo) → PartsStep g (raising.scope_left c b todo s)
      scope src.Leaves true todo h = record { run = (h.0.1, h.2); callers = callers; env = env }
      scope c b todo h = go (raising.left_todo c (piece.Unwind ∷ todo)) [] (left_cleans g.special Q s.run.elements c (piece.Unwind ∷ todo) h.0.0 h.1 h.2)

      main_left : (o : Option UnwindReason) (todo : List Todo) → H todo → PartsStep g (raising.main_left o todo s)
      main_left (Some (reason.ReturnTo n)) todo h = record { run = h; callers = callers; env = env }
      main_left o todo h = here todo [] h

      coroutine_left : (o : Option UnwindReason) (todo : List Todo) → H todo → PartsStep g (raising.coroutine_left o todo s)
      coroutine_left (Some (reason.ReturnTo n)) todo h = record { run = h; callers = callers; env = env }
      coroutine_left (Some reason.Destroyed) todo h = moved _ todo _ h (kept.taken_down_rests (InParts g) (InParts g) calm (at todo [] s) (here todo [] h))
      coroutine_left o todo h = moved _ todo _ h (kept.escape_rests (InParts g) (InParts g) calm (at todo [] s) (here todo [] h))

      unwind_past : (p : Todo) (todo : List Todo) → H (p ∷ todo) → PartsStep g (raising.unwind_past (piece.sort p) todo s)
      unwind_past (piece.InLoop o t e b) todo h = go _ _ h.2
      unwind_past piece.InWhole todo h = whole _ todo h
      unwind_past (piece.Clean c) todo h = scope c _ todo h
      unwind_past (piece.FillNow m b d) todo h = go _ _ (h.1, h.2)
      unwind_past (piece.Sweep e) todo h = go _ _ h
      unwind_past (piece.Part c) todo h = go _ _ (cleans g.special Q s.run.elements c (piece.Unwind ∷ todo) (todos.mark_part g.special Q c h.0.1) (todos.begins_none g.special Q c (piece.Unwind ∷ todo) h.0.1) (todos.parted_free g.special Q todo h.1) (todos.parted_ok g.special Q s.run.elements todo h.1))
      unwind_past (piece.Guard hs) todo h = guarded hs s.run.raised todo h.0 h.1 h.2
      unwind_past piece.Finish todo h = main_left s.run.raised todo h
      unwind_past piece.FinishCoroutine todo h = coroutine_left s.run.raised todo h
      unwind_past p todo h = go _ _ (todos.tail g.special Q s.run.elements p todo h)

      pub unwinds : (todo : List Todo) → H todo → PartsStep g (raising.unwind_step todo s)
      unwinds [] h = leaves s.callers callers
      unwinds (x ∷ xs) h = unwind_past x xs h

    -- statements

    pub swept : (n : ℕ) (e : Expr) (todo : List Todo) → H (piece.Sweep e ∷ todo) → PartsStep g (quiet.sweep_step n e todo s)
    swept zero e todo h = go _ _ h.1
    swept (suc m) e todo h = record { run = (h.0, todos.recounted g.special Q s.run.elements m todo h.0 h.1); callers = callers; env = env }

    event_step : (a : EventStmt) (todo : List Todo) → InnerStmt NoArray (src.OfEvents a) → IsClear todo → H todo → PartsStep g (quiet.event_step a todo s)
    event_step (src.Throw line r) todo n l h = go _ _ (raised g.special Q s.run.elements r _ (clear_free todo l) h)
    event_step (src.Raise line r) todo n l h = go _ _ (raised g.special Q s.run.elements r _ (clear_free todo l) h)
    event_step (src.Try line body hs) todo n l h = go _ _ (inl (n.0, l, (n.1, l, h)))
    event_step (src.RaiseAt line r a) todo n l h = go _ _ (raised g.special Q s.run.elements r _ (clear_free todo l) h)
    event_step (src.Enable line events cell a) todo n l h = go _ _ (inl (inner_any (OpensRest (piece.Clean (src.Restores cell) ∷ (piece.Within line ∷ todo))) a n, l, ((tt, tt), clear_free todo l, h)))
    event_step (src.Disable line events cell a) todo n l h = go _ _ (inl (inner_any (OpensRest (piece.Clean (src.Restores cell) ∷ (piece.Within line ∷ todo))) a n, l, ((tt, tt), clear_free todo l, h)))

    task_step : (a : TaskStmt) (todo : List Todo) → InnerStmt NoArray (src.OfTasks a) → IsClear todo → H todo → PartsStep g (quiet.task_step a todo s)
    task_step (src.Resume line) todo n l h = go _ _ h
    task_step (src.Suspend line) todo n l h = go _ _ h
    task_step (src.SetUp r) todo n l h = absurd n
    task_step src.Enliven todo n l h = go _ _ h
    task_step src.TakeDown todo n l h = go _ _ h
    task_step (src.Yield line) todo n l h = go _ _ h
    task_step (src.Migrate line a) todo n l h = go _ _ h
    task_step (src.Accept line site cs) todo n l h = go _ _ (n, l, h)

    inner_stmt : (a : Stmt) (todo : List Todo) → InnerStmt (OpensRest todo) a → IsClear todo → H todo → PartsStep g (quiet.stmt_step a todo s)
    inner_stmt (src.Skip line) todo n l h = go _ _ h
    inner_stmt (src.Block line body) todo n l h = go _ _ (inl (n, l, h))
    inner_stmt (src.Whole line body) todo n l h = go _ _ (inl (n, clear_free todo l, h))
    inner_stmt (src.Evaluate line a) todo n l h = go _ _ h
    inner_stmt (src.Declare line ds) todo n l h = go _ _ (clear_free todo l, h)
    inner_stmt (src.Print line items) todo n l h = go _ _ h
    inner_stmt (src.PrintTogether line items) todo n l h = go _ _ h
    inner_stmt (src.Read line ts) todo n l h = go _ _ h
    inner_stmt (src.If line t a b) todo n l h = go _ _ (n, l, h)
    inner_stmt (src.Loop line o t e b) todo n l h = go _ _ (looped g.special Q s.run.elements o t e b _ n l h)
    inner_stmt (src.Break line) todo n l h = go _ _ (l, h)
    inner_stmt (src.Continue line) todo n l h = go _ _ (l, h)
    inner_stmt (src.Return line None) todo n l h = go _ _ (l, h)
    inner_stmt (src.Return line (Some e)) todo n l h = go _ _ (l, h)
    inner_stmt (src.Owes line) todo n l h = go _ _ h
    inner_stmt (src.Fill line m b d) todo n l h = go _ _ (tt, (n, clear_free todo l, h))
    inner_stmt (src.OfEvents a) todo n l h = event_step a todo n l h
    inner_stmt (src.OfTasks a) todo n l h = task_step a todo n l h

    head_task : (a : TaskStmt) (ss : Stmts) (todo : List Todo) → HeadStmt g.special ss (src.OfTasks a) → H (piece.Rest ss ∷ todo) → PartsStep g (quiet.task_step a (piece.Rest ss ∷ todo) s)
    head_task (src.SetUp r) ss todo n h = go _ _ (n, h)
    head_task src.Enliven ss todo n h = go _ _ h
    head_task a ss todo n h = absurd n

    head_stmt : (a : Stmt) (ss : Stmts) (todo : List Todo) → HeadStmt g.special ss a → Parted g.special Q todo → H (piece.Rest ss ∷ todo) → PartsStep g (quiet.stmt_step a (piece.Rest ss ∷ todo) s)
    head_stmt (src.Evaluate line e) ss todo n p h = go _ _ h
    head_stmt (src.Fill line m b d) ss todo n p h = go _ _ (tt, (n, todos.parted_free g.special Q todo p, h))
    head_stmt (src.Whole line body) ss todo n p h = go _ _ (inl (n, todos.parted_free g.special Q todo p, h))
    head_stmt (src.OfTasks a) ss todo n p h = head_task a ss todo n h
    head_stmt a ss todo n p h = absurd n

    heads_do : (a : Stmt) (todo : List Todo) → HeadDo g.special Q a todo → PartsStep g (quiet.stmt_step a todo s)
    heads_do a (piece.Rest ss ∷ todo) h = head_stmt a ss todo h.0 h.3 (inr (todos.heads_of g.special Q ss todo h.1 h.2 h.3))
    heads_do a todo h = absurd h

    pub stmt : (a : Stmt) (todo : List Todo) → H (piece.Do a ∷ todo) → PartsStep g (quiet.stmt_step a todo s)
    stmt a todo (inl h) = inner_stmt a todo h.0 h.1 h.2
    stmt a todo (inr h) = heads_do a todo h

    -- the statements that are left

    inner_rest : (ss : Stmts) (todo : List Todo) → InnerStmts ss → IsClear todo → H todo → PartsStep g (quiet.rest_step ss todo s)
    inner_rest src.Nil todo n l h = go _ _ h
    inner_rest (src.Then a rest) todo n l h =
        go _ _ (inl (inner_more (λ m d. OpensAll m d rest) (OpensRest (piece.Rest rest ∷ todo)) (λ m d x. x) a n.0, l, inl (n.1, l, h)))
    inner_rest (src.Scoped c rest) todo n l h =
        go _ _ (inl (n.1, todos.clear_inner g.special c todo n.0 l, ((todos.mark_inner g.special Q c n.0, todos.behind_inner g.special Q c todo n.0 l), clear_free todo l, h)))
    inner_rest (src.Built c rest) todo n l h = absurd n

    no_more : {A : Type 0} (p : Todo) (todo : List Todo) → p ∷ todo ≡ [] → A
    no_more p todo e = absurd (cc)

    freed : (r : Option ℕ) (rest : Stmts) (todo : List Todo) → Heads g.special Q (src.Scoped (src.Frees r) rest) todo → H (piece.Rest rest ∷ (piece.Clean (src.Frees r) ∷ todo))
    freed r rest [] h = inr (todos.heads_of g.special Q rest (piece.Clean (src.Frees r) ∷ []) h.2 h.3 h.1)
    freed r rest (p ∷ todo) h = no_more p todo h.0

    heads_rest : (ss : Stmts) (todo : List Todo) → Heads g.special Q ss todo → PartsStep g (quiet.rest_step ss todo s)
    heads_rest src.Nil todo h = go _ _ (todos.parted_ok g.special Q s.run.elements todo h.2)
    heads_rest (src.Then a rest) todo h = go _ _ (inr (h.0.0, h.0.1, h.1, h.2))
    heads_rest (src.Scoped (src.Frees r) rest) todo h = go _ _ (freed r rest todo h)
    heads_rest (src.Scoped c rest) todo h = absurd h.0
    heads_rest (src.Built c rest) todo h =
        go _ _ (inr (todos.heads_of g.special Q rest (piece.Part c ∷ todo) h.0.1 h.1.1 ((h.1.0, h.0.0), h.2)))

    pub rest_of : (ss : Stmts) (todo : List Todo) → H (piece.Rest ss ∷ todo) → PartsStep g (quiet.rest_step ss todo s)
    rest_of ss todo (inl h) = inner_rest ss todo h.0 h.1 h.2
    rest_of ss todo (inr h) = heads_rest ss todo h

    pub land : (o : Option UnwindReason) (todo : List Todo) → H todo → PartsStep g (quiet.land_step o todo s)
    land None todo h = go _ _ h
    land (Some why) todo h = go _ _ h

    -- events

    pub throws : (e : raising.Event) (todo : List Todo) → H todo → PartsStep g (raising.throw_step e todo s)
    throws e todo h = record { run = h; callers = callers; env = env }

    -- the activation that raised goes on without the event
    handles : (f : Option Found) (e : raising.Event) (todo : List Todo) → OfFound f → H todo → PartsStep g (raising.handle_step f e todo s)
    handles None e todo n h = throws e todo h
    handles (Some f) e todo n h = record { run = inl (n, tt, tt); callers = (h, callers); env = likes env refl refl refl }

    pub raises : (e : raising.Event) (todo : List Todo) → H todo → PartsStep g (raising.raise_step e todo s)
    raises e todo h =
        let round : List Active = (record s.run { control = todo }) ∷ s.callers in
        handles (raising.seek None e round) e todo (seek s.env.exec None e round (h, callers)) h

    -- printing

    pub prints : (o : Option (List Piece)) (p : Piece) (todo : List Todo) (vs : List Value) → H todo → PartsStep g (piece.print_step o p todo vs s)
    prints None p todo vs h = here todo vs h
    prints (Some ps) p todo vs h = go_in _ _ _ h (same refl refl refl refl)

    pub flushes : (o : Option (List Piece)) (todo : List Todo) (vs : List Value) → H todo → PartsStep g (piece.flush_step o todo vs s)
    flushes None todo vs h = go _ _ h
    flushes (Some []) todo vs h = go_in _ _ _ h (same refl refl refl refl)
    flushes (Some (p ∷ ps)) todo vs h = record { run = h; callers = callers; env = likes env refl refl refl }

    -- expressions

    object : (o : ObjectExpr) (todo : List Todo) → H todo → PartsStep g (quiet.object_step o todo s)
    object src.This todo h = go _ _ h
    object (src.OwnField k i) todo h = go _ _ h
    object (src.GetOwn k i) todo h = go _ _ h
    object (src.FieldOf k i a) todo h = go _ _ h
    object src.Counted todo h = go _ _ h
    object (src.CallOn r a args) todo h = go _ _ h
    object (src.CallLive r a args) todo h = go _ _ h
    object (src.CallUnwritten r a) todo h = go _ _ h
    object (src.EnterOn m r a args) todo h = go _ _ h
    object (src.EndOn r false a) todo h = go _ _ h
    object (src.EndOn r true a) todo h = go _ _ h
    object (src.Bind a b) todo h = go _ _ h
    object (src.MakeOn c r false a args) todo h = go _ _ h
    object (src.MakeOn c r true a args) todo h = go _ _ h
    object src.NewCluster todo h = go _ _ h
    object (src.NewProcessor a) todo h = go _ _ h
    object (src.EndCluster a) todo h = go _ _ h
    object (src.EndProcessor a) todo h = go _ _ h
    object (src.ConditionAt k m a) todo h = go _ _ h
    object (src.Wait a b) todo h = go _ _ h
    object (src.Signal a) todo h = go _ _ h
    object (src.SignalBlock a) todo h = go _ _ h
    object (src.IsEmpty a) todo h = go _ _ h
    object (src.FrontOf a) todo h = go _ _ h

    pub eval : (a : Expr) (todo : List Todo) → H todo → PartsStep g (quiet.eval_step a todo s)
    eval (src.Literal k) todo h = go _ _ h
    eval (src.Variable k) todo h = go _ _ h
    eval (src.Element m k a i) todo h = go _ _ h
    eval (src.Get k) todo h = go _ _ h
    eval (src.Load a) todo h = go _ _ h
    eval (src.Negated a) todo h = go _ _ h
    eval (src.Not a) todo h = go _ _ h
    eval (src.AsCharacter a) todo h = go _ _ h
    eval (src.AsTruth a) todo h = go _ _ h
    eval (src.Operate op a b) todo h = go _ _ h
    eval (src.And a b) todo h = go _ _ h
    eval (src.Or a b) todo h = go _ _ h
    eval (src.Set k a) todo h = go _ _ h
    eval (src.Assign p a) todo h = go _ _ h
    eval (src.First a b) todo h = go _ _ h
    eval (src.Update op k p a) todo h = go _ _ (converts g.special Q s.run.elements k (piece.KeepNow ∷ todo) h)
    eval (src.StepBehind op k p) todo h = go _ _ (converts g.special Q s.run.elements k (piece.StoreNow ∷ (piece.DropBelowNow ∷ todo)) h)
    eval src.Fail todo h = here todo _ h
    eval (src.Call r args) todo h = go _ _ h
    eval (src.OfObject o) todo h = object o todo h

    pub clears : (k m : ℕ) (todo : List Todo) → H todo → PartsStep g (quiet.turns todo (in_env (piece.cleared k m s) s))
    clears k m todo h = go_in _ _ _ h (kept.owned_keeps (InParts g) (InParts g) calm (piece.this_frame s) (values_cleared k m piece.nought) s.env env)

    -- calls

    -- each part that the routine is to build is taken over
    abbrev Takes : Value → List Todo → List Value → Routine → Type 0
    Takes this todo vs r = AllParts g.special (IsTaken g s.env.exec (record s.run { control = todo; operands = vs } ∷ s.callers) (length s.env.frames) this) r.body

    begun : (b : Bool) (r : Routine) (this : Value) (counts : Bool) (todo : List Todo) (vs : List Value) → PartsRoutine g.special b (Some r) → (b ≡ true → Takes this todo vs r) → H todo → PartsStep g (quiet.begun_step r this counts todo vs s)
    begun b r this counts todo vs n k h = record {
      run = todos.routine g.special (IsTaken g s.env.exec (record s.run { control = todo; operands = vs } ∷ s.callers) (length s.env.frames) this) 0 b r n k;
      callers = (h, callers);
      env = likes env refl refl refl;
    }

    pub call : (b : Bool) (r : Option Routine) (todo : List Todo) → PartsRoutine g.special b r → (b ≡ true → (x : Routine) → r ≡ Some x → Takes Nothing todo (drop x.params s.run.operands) x) → H todo → PartsStep g (quiet.call_step r todo s)
    call b None todo n k h = here todo _ h
    call b (Some r) todo n k h = either (PartsStep g) (nat_lt s.env.links.calls CALLS) _ _ (begun b r _ true todo _ n (λ i. k i r refl) h) (here todo _ h)

    pub call_on : (b : Bool) (r : Option Routine) (todo : List Todo) → PartsRoutine g.special b r → (b ≡ true → (x : Routine) → r ≡ Some x → Takes (top (drop x.params s.run.operands)) todo (below (drop x.params s.run.operands)) x) → H todo → PartsStep g (quiet.call_on_step r todo s)
    call_on b None todo n k h = here todo _ h
    call_on b (Some r) todo n k h = either (PartsStep g) (nat_lt s.env.links.calls CALLS) _ _ (begun b r _ true todo _ n (λ i. k i r refl) h) (here todo _ h)

    pub call_unwritten : (b : Bool) (r : Option Routine) (todo : List Todo) → PartsRoutine g.special b r → (b ≡ true → (x : Routine) → r ≡ Some x → Takes (top (drop x.params s.run.operands)) todo (below (drop x.params s.run.operands)) x) → H todo → PartsStep g (quiet.call_unwritten_step r todo s)
    call_unwritten b None todo n k h = here todo _ h
    call_unwritten b (Some r) todo n k h = begun b r _ false todo _ n (λ i. k i r refl) h

    pub live : (r : Option Routine) (todo : List Todo) → H todo → PartsStep g (quiet.live_step r todo s)
    live None todo h = here todo _ h
    live (Some r) todo h = either (PartsStep g) (sw.is_live (piece.exec_at (top (drop r.params s.run.operands)) s.env) s.env) _ _ (here todo _ h) (here todo _ h)

    pub set_up : (b : Bool) (r : Option Routine) (todo : List Todo) → b ≡ false → PartsRoutine g.special b r → H todo → PartsStep g (quiet.set_up_step r todo s)
    set_up b None todo e n h = go _ _ h
    set_up true (Some r) todo e n h = absurd (cc)
    set_up false (Some r) todo e n h =
        let at_home = quiet.home_at s.run.this s.env in
        let k : K s.env (sw.born at_home (quiet.fresh r s.run.this) s.env) = kept.born_keeps (InParts g) (InParts g) calm at_home (quiet.fresh r s.run.this) s.env (λ m. record { run = todos.inner_routine g.special (IsTaken g (kept.at_home at_home m) [] 0 s.run.this) 0 r n; callers = tt }) env in
        go_in _ _ _ h (kept.keeps_both (InParts g) (InParts g) calm k (kept.written_keeps (InParts g) (InParts g) calm s.run.this _ _ k.env))

    -- mutex objects

    pub unless : (o : ℕ) (step : Step) (todo : List Todo) → H todo → PartsStep g step → PartsStep g (monitors.unless_held_up o step todo s)
    unless o step todo h k = either (PartsStep g) (inside.is_held_up o s.env) _ step (here todo _ h) k

    enter_at : (d : Option ℕ) (o m : ℕ) (todo : List Todo) → H todo → PartsStep g (monitors.enter_at d o m todo s)
    enter_at (Some d) o m todo h = go_in _ _ _ h (same refl refl refl refl)
    enter_at None o m todo h = record { run = h; callers = callers; env = likes env refl refl refl }

    pub enter : (m : ℕ) (r : Option Routine) (todo : List Todo) → H todo → PartsStep g (monitors.enter_step m r todo s)
    enter m None todo h = here todo _ h
    enter m (Some r) todo h =
        let o = piece.object_in (top (drop r.params s.run.operands)) in
        either (PartsStep g) (monitors.may_call r.written s) _ _ (enter_at (find o s.env.depths) o m todo h) (here todo _ h)

    pub leave : (b : Bool) (o : ℕ) (todo : List Todo) → H todo → PartsStep g (monitors.leave_at b o todo s)
    leave false o todo h = go_in _ _ _ h (same refl refl refl refl)
    leave true o todo h =
        unless o _ todo h (record { run = polled g.special Q s.run.elements s.run.raised todo h; callers = callers; env = likes env refl refl refl })

    pub make : (c k : ℕ) (r : Option Routine) (todo : List Todo) → H todo → PartsStep g (monitors.make_step c k r todo s)
    make c k None todo h = here todo _ h
    make c k (Some r) todo h = either (PartsStep g) (monitors.may_call r.written s) _ _ (record { run = h; callers = callers; env = likes env refl refl refl }) (here todo _ h)

    pub bind : (r : Option Routine) (todo : List Todo) → H todo → PartsStep g (monitors.bind_step r todo s)
    bind None todo h = here todo _ h
    bind (Some r) todo h = go_in _ _ _ h (write _ _)

    pub accept : (mask o site : ℕ) (todo : List Todo) (vs : List Value) → H todo → PartsStep g (monitors.accept_by mask o site todo vs s)
    accept zero o site todo vs h = go _ _ h
    accept (suc mask) o site todo vs h = unless o _ todo h (record { run = h; callers = callers; env = env })

    pub failed : (b : Bool) (todo : List Todo) (vs : List Value) → H todo → PartsStep g (monitors.failed_step b todo vs s)
    failed true todo vs h = go _ _ h
    failed false todo vs h = go _ _ h

    -- events elsewhere

    pend : (n : Exec) (e : raising.Event) (todo : List Todo) (vs : List Value) → H todo → PartsStep g (polls.pend_step n e todo vs s)
    pend n e todo vs h =
        either (PartsStep g) (nat_lt (length (inside.pending_at n s.env)) PENDING_EVENTS) _ _ (go_in _ _ _ h (kept.links_keeps (InParts g) (InParts g) calm (λ l. record l { pending = l.pending ++ (record { event = e.number; x = e.x; y = e.y }) ∷ [] }) n s.env env)) (here todo vs h)

    pend_at : (o : Option Exec) (e : raising.Event) (todo : List Todo) (vs : List Value) → H todo → PartsStep g (polls.pend_at o e todo vs s)
    pend_at None e todo vs h = here todo vs h
    pend_at (Some n) e todo vs h = either (PartsStep g) (sw.is_live (Some n) s.env) _ _ (pend n e todo vs h) (here todo vs h)

    pub raise_at : (v : Value) (e : raising.Event) (todo : List Todo) (vs : List Value) → H todo → PartsStep g (polls.raise_at_step v e todo vs s)
    raise_at (Object o) e todo vs h = record { run = h; callers = callers; env = env }
    raise_at v e todo vs h = pend_at (piece.exec_at v s.env) e todo vs h

    enabled_in : {e f : Env} → K s.env e → f.exec ≡ e.exec → f.hand ≡ e.hand → f.house ≡ e.house → f.own ≡ e.own → K s.env f
    enabled_in k x h i o = kept.keeps_both (InParts g) (InParts g) calm k (kept.keeps_like (InParts g) (InParts g) calm k.env x h i o)

    pub enables : (events cell : ℕ) (todo : List Todo) → H todo → PartsStep g (polls.enable_step events cell todo s)
    enables events cell todo h = go_in _ _ _ h (enabled_in (write (piece.variable_at cell s) (Number (signed_64 s.env.links.enabled))) refl refl refl refl)

    quiet_poll : (o : Option Pending) (todo : List Todo) → H todo → PartsStep g (polls.quiet_poll o todo s)
    quiet_poll None todo h = go _ _ h
    quiet_poll (Some p) todo h = go_in _ _ _ h (same refl refl refl refl)

    poll_by : (b : Bool) (todo : List Todo) → H todo → PartsStep g (polls.poll_by b todo s)
    poll_by true todo h = record { run = h; callers = callers; env = env }
    poll_by false todo h = quiet_poll (inside.oldest_enabled s.env.links) todo h

    pub poll : (todo : List Todo) → H todo → PartsStep g (polls.poll_step todo s)
    poll todo h = either (PartsStep g) (nat_eq s.env.links.enabled 0) _ _ (go _ _ h) (poll_by (inside.is_own s.env) todo h)

    pub deliver : (v : Value) (todo : List Todo) → H todo → PartsStep g (polls.deliver_step v todo s)
    deliver Nothing todo h = go _ _ h
    deliver v todo h = go _ _ h

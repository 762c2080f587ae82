-- A quiet step of a task in which mutex objects are ended by clean-ups alone leads to one, where it comes to no such clean-up.
use Rattle.std.proofs.Common.{◌≡◌, ℕ, zero, suc, inl, ◌++◌, Bool, true, false, ◌&&◌, List, [], ◌∷◌, length, drop, Option, Some, None, refl}
use Rattle.std.specs.Prelude.{nat_eq, nat_lt}
use Rattle.uc_tree.specs.declared.limits.TheConstants.{CALLS, PENDING_EVENTS}
use Rattle.uc_tree.specs.Source as src
use Rattle.uc_tree.specs.Source.{Shape, Expr, ObjectExpr, Stmt, Stmts, EventStmt, TaskStmt, Routine, Purpose, Order, Way, CleanUp, Handlers, Clauses, Raised, Item}
use Rattle.uc_entry.specs.declared.fault.RunFault.{RunFault}
use Rattle.uc_entry.specs.declared.fault.RunFault.TheVariants.{Index, Depth, BlockedInside, TooManyPending, NotLive, Unhandled}
use Rattle.uc_entry.specs.declared.request.Piece.{Piece}
use Rattle.uc_entry.specs.declared.request.Request.TheVariants as ask
use Rattle.uc_entry.specs.Keyed.{find, signed_64}
use Rattle.uc_machine.specs.declared.exec.Exec.{Exec}
use Rattle.uc_machine.specs.declared.exec.Pending.{Pending}
use Rattle.uc_machine.specs.declared.exec.UnwindReason.{UnwindReason}
use Rattle.uc_machine.specs.declared.exec.UnwindReason.TheVariants as reason
use Rattle.uc_machine.specs.declared.exec.Visited.{Visited}
use Rattle.uc_machine.specs.Switches as sw
use Rattle.uc_machine.specs.Switches.{Moved, To, Stops}
use Rattle.uc_machine.specs.Insides as inside
use Rattle.uc_machine.specs.Raising as raising
use Rattle.uc_machine.specs.Raising.{Event, Handler, Found, Hit}
use Rattle.uc_machine.specs.Monitors as monitors
use Rattle.uc_machine.specs.Polls as polls
use Rattle.uc_machine.specs.Quiet as quiet
use Rattle.uc_machine.specs.Pieces as piece
use Rattle.uc_machine.specs.Pieces.{Value, Number, Object, Nothing, Todo, Sort, Active, State, Env, Step, Asks, Outcome, Gives, Faults, at, in_env, fault, top, number, written}
use Rattle.uc_typing.specs.Typing.{Table}
use Rattle.uc_site_laws.specs.Resting.{AllWait, RestsEnv}
use Rattle.uc_site_laws.proofs.Kept as kept
use Rattle.uc_site_laws.proofs.Kept.{either}
use Rattle.uc_homed_ends.specs.EndCode.{FreeExpr, FreeObject, FreeMaybe, FreeItem, FreeRaised, FreeSweep, FreeClean, FreeStmt, FreeStmts, FreeEvent, FreeTask, FreeHandlers, FreeClauses, FreeRoutine}
use Rattle.uc_homed_ends.specs.EndLists.{NoEnding, FreePiece, FreeList, FreeActive, FreeState, FreeStep}

module _ (tb : Table) where
  pub calm : (a : Active) (w : Option UnwindReason) → FreeActive tb a → FreeActive tb (record a { raised = w })
  calm a w h = h

  pub likes : {e f : Env} → RestsEnv (FreeActive tb) (FreeActive tb) e → f.hand ≡ e.hand → f.house ≡ e.house → RestsEnv (FreeActive tb) (FreeActive tb) f
  likes h g i = kept.like (FreeActive tb) (FreeActive tb) calm h g i

  abbrev pub Moves : Moved (List Todo) Value → Type 0
  Moves m = kept.RestsMoved (FreeActive tb) (FreeActive tb) calm m

  -- what is to do in a routine

  behind : (p : Purpose) (line : ℕ) → FreeList tb (quiet.behind_body p line)
  behind src.TaskMain line = (tt, (tt, tt))
  behind src.CoroutineMain line = (tt, (tt, tt))
  behind src.Procedure line = (tt, tt)
  behind src.Function line = (tt, (tt, tt))
  behind src.Builder line = tt

  pub routine : (r : Routine) → FreeStmts tb r.body → FreeList tb (quiet.routine_todo r)
  routine r h = (h, behind r.purpose r.line)

  -- what a piece is for one who leaves it

  abbrev pub FreeSort : Sort → Type 0
  FreeSort (piece.IsLoop o t e b) = FreeExpr tb t × FreeMaybe tb e × FreeStmt tb b
  FreeSort (piece.IsClean c) = FreeClean tb c
  FreeSort (piece.IsFill n b d) = FreeExpr tb b × FreeSweep tb d
  FreeSort (piece.IsSweep e) = FreeSweep tb e
  FreeSort (piece.IsPart c) = FreeClean tb c
  FreeSort (piece.IsGuard hs) = FreeHandlers tb hs
  FreeSort k = Unit {0}

  pub sorted : (p : Todo) (todo : List Todo) → FreePiece tb p todo → FreeSort (piece.sort p)
  sorted (piece.InLoop o e step b) todo h = h
  sorted (piece.Clean c) todo h = h
  sorted (piece.FillNow n b d) todo h = h
  sorted (piece.Sweep e) todo h = h
  sorted (piece.Part c) todo h = h
  sorted (piece.Guard hs) todo h = h
  sorted p todo h = tt

  -- handlers

  abbrev FreeHandler : Option Handler → Type 0
  FreeHandler None = Unit {0}
  FreeHandler (Some x) = FreeStmts tb x.body

  abbrev FreeHit : Option Hit → Type 0
  FreeHit None = Unit {0}
  FreeHit (Some x) = FreeStmts tb x.handler.body

  abbrev FreeFound : Option Found → Type 0
  FreeFound None = Unit {0}
  FreeFound (Some x) = FreeStmts tb x.handler.body

  handler_for : (kind : Bool) (e : Event) (hs : Handlers) → FreeHandlers tb hs → FreeHandler (raising.handler_for kind e hs)
  handler_for kind e src.NoHandlers h = tt
  handler_for kind e (src.MoreHandlers resumes event cell line body rest) h =
      either FreeHandler (raising.same_kind kind resumes && raising.takes event e) (Some (record { cell = cell; line = line; body = body })) (raising.handler_for kind e rest) h.0 (handler_for kind e rest h.1)

  hit_or : (x : Option Handler) (n : ℕ) (other : Option Hit) → FreeHandler x → FreeHit other → FreeHit (raising.hit_or x n other)
  hit_or None n other h k = k
  hit_or (Some x) n other h k = h

  hit_by : (k : Sort) (n : ℕ) (e : Event) (other : Option Hit) → FreeSort k → FreeHit other → FreeHit (raising.hit_by k n e other)
  hit_by (piece.IsGuard hs) n e other h k = hit_or (raising.handler_for true e hs) n other (handler_for true e hs h) k
  hit_by s n e other h k = k

  hit_in : (e : Event) (todo : List Todo) → FreeList tb todo → FreeHit (raising.hit_in e todo)
  hit_in e [] h = tt
  hit_in e (p ∷ ps) h = hit_by (piece.sort p) (raising.count_round ps) e (raising.hit_in e ps) (sorted p ps h.0) (hit_in e ps h.1)

  within : (n : ℕ) (todo : List Todo) → FreeList tb todo → FreeList tb (raising.within n todo)
  within n [] h = tt
  within n (p ∷ ps) h = either (FreeList tb) (nat_eq (raising.count_round (p ∷ ps)) n) (p ∷ ps) (raising.within n ps) h (within n ps h.1)

  found_or : (x : Option Hit) (a : Active) (cs : List Active) (other : Option Found) → FreeHit x → FreeFound other → FreeFound (raising.found_or x a cs other)
  found_or None a cs other h k = k
  found_or (Some x) a cs other h k = h

  seek : (v : Option Visited) (e : Event) (cs : List Active) → AllWait (FreeActive tb) (FreeActive tb) cs → FreeFound (raising.seek v e cs)
  seek None e [] h = tt
  seek (Some v) e [] h = tt
  seek None e (a ∷ cs) h = found_or (raising.hit_in e a.control) a cs (raising.seek a.handles e cs) (hit_in e a.control h.0) (seek a.handles e cs h.1)
  seek (Some v) e (a ∷ cs) h =
      either FreeFound (nat_eq (length cs) v.level) (raising.found_or (raising.hit_in e (raising.within v.rest a.control)) a cs (raising.seek a.handles e cs)) (raising.seek (Some v) e cs) (found_or (raising.hit_in e (raising.within v.rest a.control)) a cs (raising.seek a.handles e cs) (hit_in e (raising.within v.rest a.control) (within v.rest a.control h.0)) (seek a.handles e cs h.1)) (seek (Some v) e cs h.1)

  -- to-do lists

  pub starts : (cell : ℕ) (v : Option Expr) (todo : List Todo) → FreeMaybe tb v → FreeList tb todo → FreeList tb (quiet.starting cell v todo)
  starts cell None todo n h = h
  starts cell (Some e) todo n h = ((tt, tt), ((n, tt), (tt, h)))

  converts : (k : Shape) (todo : List Todo) → FreeList tb todo → FreeList tb (quiet.converting k todo)
  converts src.Character todo h = (tt, h)
  converts src.Truth todo h = (tt, h)
  converts k todo h = h

  pub stepped : (e : Option Expr) (todo : List Todo) → FreeMaybe tb e → FreeList tb todo → FreeList tb (quiet.step_todo e todo)
  stepped None todo n h = h
  stepped (Some e) todo n h = ((n, tt), (tt, h))

  pub tested : (o : Order) (t : Expr) (e : Option Expr) (b : Stmt) (todo : List Todo) → FreeExpr tb t → FreeMaybe tb e → FreeStmt tb b → FreeList tb todo → FreeList tb (quiet.test_todo o t e b todo)
  tested src.TestFirst t e b todo k l m h = ((k, tt), ((k, l, m), h))
  tested src.BodyFirst t e b todo k l m h = ((k, tt), ((k, l, m), h))
  tested src.NoTest t e b todo k l m h = ((k, l, m), h)

  looped : (o : Order) (t : Expr) (e : Option Expr) (b : Stmt) (todo : List Todo) → FreeExpr tb t → FreeMaybe tb e → FreeStmt tb b → FreeList tb todo → FreeList tb (quiet.loop_todo o t e b todo)
  looped src.TestFirst t e b todo k l m h = ((k, tt), ((k, l, m), h))
  looped src.BodyFirst t e b todo k l m h = ((k, l, m), h)
  looped src.NoTest t e b todo k l m h = ((k, l, m), h)

  loop_left : (w : Way) (o : Order) (t : Expr) (e : Option Expr) (b : Stmt) (todo : List Todo) → FreeExpr tb t × FreeMaybe tb e × FreeStmt tb b → FreeList tb todo → FreeList tb (quiet.loop_left w o t e b todo)
  loop_left src.ToBreak o t e b todo n h = h
  loop_left src.ToContinue o t e b todo n h = (n, h)
  loop_left src.ToReturn o t e b todo n h = (tt, h)
  loop_left src.ToEnd o t e b todo n h = (tt, h)

  left_behind : (w : Way) (k : Sort) (todo : List Todo) → FreeSort k → FreeList tb todo → FreeList tb (quiet.left_behind w k todo)
  left_behind w piece.Simple todo n h = (tt, h)
  left_behind w (piece.IsLoop o t e b) todo n h = loop_left w o t e b todo n h
  left_behind w piece.IsWhole todo n h = h
  left_behind w (piece.IsClean c) todo n h = (n, (tt, h))
  left_behind w (piece.IsFill m b d) todo n h = (tt, h)
  left_behind w (piece.IsSweep e) todo n h = (tt, h)
  left_behind w (piece.IsPart c) todo n h = (tt, h)
  left_behind w (piece.IsGuard hs) todo n h = (tt, h)
  left_behind w piece.IsFinish todo n h = (tt, h)
  left_behind w piece.IsFinishCoroutine todo n h = (tt, h)

  pub filled : (b : Bool) (n : ℕ) (e d : Expr) (todo : List Todo) → FreeExpr tb e × FreeSweep tb d → FreeList tb todo → FreeList tb (quiet.fill_todo b n e d todo)
  filled false n e d todo k h = h
  filled true n e d todo k h = ((k.0, tt), (tt, (tt, (k, h))))

  raised : (r : Raised) (todo : List Todo) → FreeRaised tb r → NoEnding todo → FreeList tb todo → FreeList tb (raising.raised_todo r todo)
  raised (src.Plainly n) todo k e h = ((tt, tt), ((tt, tt), ((tt, e), h)))
  raised (src.BuiltAt n c x) todo k e h = (tt, ((k, tt), (tt, ((tt, tt), ((tt, tt), ((tt, e), h))))))
  raised (src.AgainFrom c) todo k e h = ((tt, tt), ((tt, tt), ((tt, e), h)))

  handled : (x : Handler) (todo : List Todo) → FreeStmts tb x.body → FreeList tb todo → FreeList tb (raising.handler_todo x todo)
  handled x todo k h = (tt, (tt, (tt, (tt, (tt, (tt, (k, (tt, h))))))))

  -- a clean-up that ends no mutex object as a whole
  abbrev pub PlainClean : CleanUp → Type 0
  PlainClean (src.Destroys e) = FreeExpr tb e
  PlainClean (src.DestroysAll m e) = FreeSweep tb e
  PlainClean c = Unit {0}

  -- a mark at which none is ended so
  abbrev pub Unended : Sort → Type 0
  Unended (piece.IsClean c) = PlainClean c
  Unended (piece.IsPart c) = PlainClean c
  Unended k = Unit {0}

  pub cleans : (c : CleanUp) (todo : List Todo) → PlainClean c → FreeList tb todo → FreeList tb (piece.clean_todo c todo)
  cleans (src.Destroys e) todo n h = ((n, tt), (tt, h))
  cleans (src.DestroysAll m e) todo n h = (tt, (n, h))
  cleans src.Unwinds todo n h = (tt, h)
  cleans src.Forgets todo n h = (tt, h)
  cleans src.Leaves todo n h = (tt, h)
  cleans src.Ends todo n h = (tt, h)
  cleans (src.Frees None) todo n h = (tt, h)
  cleans (src.Frees (Some r)) todo n h = (tt, h)
  cleans (src.Restores k) todo n h = (tt, h)

  left_cleans : (c : CleanUp) (todo : List Todo) → PlainClean c → FreeList tb todo → FreeList tb (raising.left_todo c todo)
  left_cleans (src.Frees r) todo n h = (tt, h)
  left_cleans c todo n h = cleans c todo n h

  pub branch : (k : ℕ) (cs : Clauses) (todo : List Todo) → FreeClauses tb cs → FreeList tb todo → FreeList tb (monitors.branch_todo k cs todo)
  branch k src.NoClauses todo n h = h
  branch k (src.Otherwise b) todo n h = either (FreeList tb) (nat_eq k 0) (piece.Do b ∷ todo) todo (n, h) h
  branch zero (src.MoreClauses guard b cs) todo n h = branch zero cs todo n.2 h
  branch (suc zero) (src.MoreClauses guard b cs) todo n h = (n.1, h)
  branch (suc (suc k)) (src.MoreClauses guard b cs) todo n h = branch (suc k) cs todo n.2 h

  pub item : (i : Item) (todo : List Todo) → FreeItem tb i → FreeList tb todo → FreeList tb (quiet.item_todo i todo)
  item (src.Show f e) todo n h = ((n, tt), (tt, h))
  item (src.ShowText k) todo n h = (tt, h)

  pub item_value : (i : Item) (todo : List Todo) → FreeItem tb i → NoEnding todo → FreeList tb todo → FreeList tb (quiet.item_value i todo)
  item_value (src.Show f e) todo n a h = ((n, a), h)
  item_value (src.ShowText k) todo n a h = h

  pub item_piece : (i : Item) (todo : List Todo) → FreeList tb todo → FreeList tb (quiet.item_piece i ∷ todo)
  item_piece (src.Show f e) todo h = (tt, h)
  item_piece (src.ShowText k) todo h = (tt, h)

  polled : (o : Option UnwindReason) (todo : List Todo) → FreeList tb todo → FreeList tb (monitors.leave_todo o todo)
  polled None todo h = (tt, h)
  polled (Some why) todo h = h

  module _ (s : State) (callers : AllWait (FreeActive tb) (FreeActive tb) s.callers) (env : RestsEnv (FreeActive tb) (FreeActive tb) s.env) where
    -- with other operands and something else to do
    pub go : (todo : List Todo) (vs : List Value) → FreeList tb todo → FreeState tb (at todo vs s)
    go todo vs h = record { run = h; callers = callers; env = env }

    -- and with something written
    pub go_in : (todo : List Todo) (vs : List Value) (e : Env) → FreeList tb todo → RestsEnv (FreeActive tb) (FreeActive tb) e → FreeState tb (at todo vs (in_env e s))
    go_in todo vs e h i = record { run = h; callers = callers; env = i }

    pub stop : (f : RunFault) (todo : List Todo) (vs : List Value) → FreeList tb todo → FreeStep tb (fault f todo vs s)
    stop f todo vs h = go todo vs h

    pub moved : (m : Moved (List Todo) Value) (todo : List Todo) (vs : List Value) → FreeList tb todo → Moves m → FreeStep tb (piece.moves m (at todo vs s))
    moved (To t) todo vs h m = m
    moved (Stops f) todo vs h m = go todo vs h

    pub write : (p v : Value) → RestsEnv (FreeActive tb) (FreeActive tb) (written p v s.env)
    write p v = kept.written_rests (FreeActive tb) (FreeActive tb) calm p v s.env env

    pub outcome : (o : Outcome) (todo : List Todo) (vs : List Value) → FreeList tb todo → FreeStep tb (piece.outcome_step o todo vs s)
    outcome (Gives n) todo vs h = go todo _ h
    outcome (Faults f) todo vs h = stop f todo vs h

    pub element : (k : Shape) (i : Option ℕ) (todo : List Todo) (v : Value) (vs : List Value) → FreeList tb todo → FreeStep tb (piece.element_step k i todo v vs s)
    element k None todo v vs h = stop Index todo vs h
    element k (Some i) todo v vs h = go todo _ h

    -- expressions

    object : (o : ObjectExpr) (todo : List Todo) → FreeObject tb o → FreeList tb todo → FreeStep tb (quiet.object_step o todo s)
    object src.This todo n h = go _ _ h
    object (src.OwnField k i) todo n h = go _ _ h
    object (src.GetOwn k i) todo n h = go _ _ h
    object (src.FieldOf k i a) todo n h = go _ _ ((n, tt), (tt, h))
    object src.Counted todo n h = go _ _ h
    object (src.CallOn r a args) todo n h = go _ _ ((n.0, tt), (n.1, (tt, (tt, h))))
    object (src.CallLive r a args) todo n h = go _ _ ((n.0, tt), (n.1, (tt, (tt, (tt, h)))))
    object (src.CallUnwritten r a) todo n h = go _ _ ((n, tt), (tt, h))
    object (src.EnterOn m r a args) todo n h = go _ _ ((n.1, tt), (n.2, (tt, (n.0, (tt, h)))))
    object (src.EndOn r w a) todo n h = absurd n
    object (src.Bind a b) todo n h = go _ _ ((n.0, tt), ((n.1, tt), (tt, h)))
    object (src.MakeOn c r false a args) todo n h = go _ _ ((n.0, tt), (n.1, (tt, (tt, h))))
    object (src.MakeOn c r true a args) todo n h = go _ _ ((n.0, tt), (n.1, (tt, (tt, (tt, h)))))
    object src.NewCluster todo n h = go _ _ (tt, h)
    object (src.NewProcessor a) todo n h = go _ _ ((n, tt), (tt, h))
    object (src.EndCluster a) todo n h = go _ _ ((n, tt), (tt, h))
    object (src.EndProcessor a) todo n h = go _ _ ((n, tt), (tt, h))
    object (src.ConditionAt k m a) todo n h = go _ _ ((n, tt), (tt, h))
    object (src.Wait a b) todo n h = go _ _ ((n.0, tt), ((n.1, tt), (tt, (tt, h))))
    object (src.Signal a) todo n h = go _ _ ((n, tt), (tt, h))
    object (src.SignalBlock a) todo n h = go _ _ ((n, tt), (tt, h))
    object (src.IsEmpty a) todo n h = go _ _ ((n, tt), (tt, h))
    object (src.FrontOf a) todo n h = go _ _ ((n, tt), (tt, h))

    -- where no object is entered behind it
    pub eval : (a : Expr) (todo : List Todo) → FreeExpr tb a → NoEnding todo → FreeList tb todo → FreeStep tb (quiet.eval_step a todo s)
    eval (src.Literal k) todo n e h = go _ _ h
    eval (src.Variable k) todo n e h = go _ _ h
    eval (src.Element m k a i) todo n e h = go _ _ ((n.0, tt), ((n.1, tt), (tt, h)))
    eval (src.Get k) todo n e h = go _ _ h
    eval (src.Load a) todo n e h = go _ _ ((n, tt), (e, h))
    eval (src.Negated a) todo n e h = go _ _ ((n, tt), (tt, h))
    eval (src.Not a) todo n e h = go _ _ ((n, tt), (tt, h))
    eval (src.AsCharacter a) todo n e h = go _ _ ((n, tt), (tt, h))
    eval (src.AsTruth a) todo n e h = go _ _ ((n, tt), (tt, h))
    eval (src.Operate op a b) todo n e h = go _ _ ((n.0, tt), ((n.1, tt), (tt, h)))
    eval (src.And a b) todo n e h = go _ _ ((n.0, tt), ((n.1, tt, e), h))
    eval (src.Or a b) todo n e h = go _ _ ((n.0, tt), ((tt, n.1, e), h))
    eval (src.Set k a) todo n e h = go _ _ ((n, tt), (tt, h))
    eval (src.Assign p a) todo n e h = go _ _ ((n.0, tt), ((n.1, tt), (tt, h)))
    eval (src.First a b) todo n e h = go _ _ ((n.0, tt), ((n.1, tt), (tt, h)))
    eval (src.Update op k p a) todo n e h = go _ _ ((n.0, tt), (tt, (tt, ((n.1, tt), (tt, converts k _ (tt, h))))))
    eval (src.StepBehind op k p) todo n e h = go _ _ ((n, tt), (tt, (tt, (tt, (tt, ((tt, tt), (tt, converts k _ (tt, (tt, h)))))))))
    eval src.Fail todo n e h = go _ _ h
    eval (src.Call r args) todo n e h = go _ _ (n, (tt, (tt, h)))
    eval (src.OfObject o) todo n e h = object o todo n h

    -- exits

    -- the end of an activation
    pub returned : (given : Value) (cs : List Active) → AllWait (FreeActive tb) (FreeActive tb) cs → FreeList tb s.run.control → FreeStep tb (piece.return_step given cs s)
    returned given [] c h = record { run = h; callers = callers; env = env }
    returned given (a ∷ cs) c h = record { run = c.0; callers = c.1; env = likes env refl refl }

    past : (v : Visited) (given : Value) (cs : List Active) → AllWait (FreeActive tb) (FreeActive tb) cs → FreeList tb s.run.control → FreeStep tb (raising.return_past v given cs s)
    past v given [] c h = record { run = h; callers = callers; env = env }
    past v given (a ∷ cs) c h = record { run = (tt, c.0); callers = c.1; env = likes env refl refl }

    end_by : (v : Option Visited) (given : Value) → FreeList tb s.run.control → FreeStep tb (raising.end_by v given s)
    end_by None given h = returned given s.callers callers h
    end_by (Some v) given h = past v given s.callers callers h

    end_step : (w : Way) → FreeList tb s.run.control → FreeStep tb (quiet.end_step w s)
    end_step src.ToReturn h = end_by s.run.handles _ h
    end_step src.ToEnd h = end_by s.run.handles _ h
    end_step src.ToBreak h = returned _ s.callers callers h
    end_step src.ToContinue h = returned _ s.callers callers h

    pub exits : (w : Way) (todo : List Todo) → FreeList tb todo → FreeList tb s.run.control → FreeStep tb (quiet.exit_step w todo s)
    exits w [] h c = end_step w c
    exits w (p ∷ ps) h c = go _ _ (left_behind w (piece.sort p) ps (sorted p ps h.0) h.1)

    -- statements

    pub swept_free : (n : ℕ) (e : Expr) (todo : List Todo) → FreeExpr tb e → FreeList tb todo → FreeStep tb (quiet.sweep_step n e todo s)
    swept_free zero e todo n h = go _ _ h
    swept_free (suc m) e todo n h = record { run = ((n, tt), (tt, (inl n, h))); callers = callers; env = env }

    event_step : (a : EventStmt) (todo : List Todo) → FreeEvent tb a → FreeList tb todo → FreeStep tb (quiet.event_step a todo s)
    event_step (src.Throw line r) todo n h = go _ _ (raised r _ n tt (tt, (tt, h)))
    event_step (src.Raise line r) todo n h = go _ _ (raised r _ n tt (tt, (tt, h)))
    event_step (src.Try line body hs) todo n h = go _ _ (n.0, (n.1, (tt, h)))
    event_step (src.RaiseAt line r a) todo n h = go _ _ (raised r _ n.0 tt ((n.1, tt), (tt, (tt, h))))
    event_step (src.Enable line events cell a) todo n h = go _ _ (tt, (tt, (n, (tt, (tt, h)))))
    event_step (src.Disable line events cell a) todo n h = go _ _ (tt, (n, (tt, (tt, h))))

    task_step : (a : TaskStmt) (todo : List Todo) → FreeTask tb a → FreeList tb todo → FreeStep tb (quiet.task_step a todo s)
    task_step (src.Resume line) todo n h = go _ _ (tt, (tt, (tt, h)))
    task_step (src.Suspend line) todo n h = go _ _ (tt, (tt, (tt, h)))
    task_step (src.SetUp r) todo n h = go _ _ (tt, h)
    task_step src.Enliven todo n h = go _ _ (tt, h)
    task_step src.TakeDown todo n h = go _ _ (tt, h)
    task_step (src.Yield line) todo n h = go _ _ (tt, (tt, (tt, h)))
    task_step (src.Migrate line a) todo n h = go _ _ ((n, tt), (tt, (tt, h)))
    task_step (src.Accept line site cs) todo n h = go _ _ (n, (tt, (n, (tt, h))))

    pub stmt : (a : Stmt) (todo : List Todo) → FreeStmt tb a → FreeList tb todo → FreeStep tb (quiet.stmt_step a todo s)
    stmt (src.Skip line) todo n h = go _ _ h
    stmt (src.Block line body) todo n h = go _ _ (n, (tt, h))
    stmt (src.Whole line body) todo n h = go _ _ (n, (tt, (tt, h)))
    stmt (src.Evaluate line a) todo n h = go _ _ ((n, tt), (tt, (tt, h)))
    stmt (src.Declare line ds) todo n h = go _ _ (n, (tt, h))
    stmt (src.Print line items) todo n h = go _ _ (n, (tt, h))
    stmt (src.PrintTogether line items) todo n h = go _ _ (n, (tt, (n, (tt, (tt, h)))))
    stmt (src.Read line ts) todo n h = go _ _ (n, (tt, h))
    stmt (src.If line t a b) todo n h = go _ _ ((n.0, tt), ((n.1, n.2), (tt, h)))
    stmt (src.Loop line o t e b) todo n h = go _ _ (looped o t e b _ n.0 n.1 n.2 (tt, h))
    stmt (src.Break line) todo n h = go _ _ (tt, h)
    stmt (src.Continue line) todo n h = go _ _ (tt, h)
    stmt (src.Return line None) todo n h = go _ _ (tt, h)
    stmt (src.Return line (Some e)) todo n h = go _ _ ((n, tt), (tt, (tt, h)))
    stmt (src.Owes line) todo n h = go _ _ (tt, (tt, h))
    stmt (src.Fill line m b d) todo n h = go _ _ (tt, (n, (tt, h)))
    stmt (src.OfEvents a) todo n h = event_step a todo n h
    stmt (src.OfTasks a) todo n h = task_step a todo n h

    pub rest : (ss : Stmts) (todo : List Todo) → FreeStmts tb ss → FreeList tb todo → FreeStep tb (quiet.rest_step ss todo s)
    rest src.Nil todo n h = go _ _ h
    rest (src.Then a ss) todo n h = go _ _ (n.0, (n.1, h))
    rest (src.Scoped c ss) todo n h = go _ _ (n.1, (n.0, h))
    rest (src.Built c ss) todo n h = go _ _ (n.1, (n.0, h))

    -- calls

    begun : (r : Routine) (this : Value) (counts : Bool) (todo : List Todo) (vs : List Value) → FreeStmts tb r.body → FreeList tb todo → FreeStep tb (quiet.begun_step r this counts todo vs s)
    begun r this counts todo vs n h = record { run = routine r n; callers = (h, callers); env = likes env refl refl }

    ends : (todo : List Todo) (vs : List Value) → FreeList tb todo → FreeStep tb (Asks ask.End (at todo vs s))
    ends todo vs h = go todo vs h

    pub call : (r : Option Routine) (todo : List Todo) → FreeRoutine tb r → FreeList tb todo → FreeStep tb (quiet.call_step r todo s)
    call None todo n h = ends _ _ h
    call (Some r) todo n h = either (FreeStep tb) (nat_lt s.env.links.calls CALLS) _ _ (begun r _ true todo _ n h) (stop Depth todo _ h)

    pub call_on : (r : Option Routine) (todo : List Todo) → FreeRoutine tb r → FreeList tb todo → FreeStep tb (quiet.call_on_step r todo s)
    call_on None todo n h = ends _ _ h
    call_on (Some r) todo n h = either (FreeStep tb) (nat_lt s.env.links.calls CALLS) _ _ (begun r _ true todo _ n h) (stop Depth todo _ h)

    pub call_unwritten : (r : Option Routine) (todo : List Todo) → FreeRoutine tb r → FreeList tb todo → FreeStep tb (quiet.call_unwritten_step r todo s)
    call_unwritten None todo n h = ends _ _ h
    call_unwritten (Some r) todo n h = begun r _ false todo _ n h

    -- coroutines

    pub set_up : (r : Option Routine) (todo : List Todo) → FreeRoutine tb r → FreeList tb todo → FreeStep tb (quiet.set_up_step r todo s)
    set_up None todo n h = go _ _ h
    set_up (Some r) todo n h = go_in _ _ _ h (kept.written_rests (FreeActive tb) (FreeActive tb) calm s.run.this _ _ (kept.born_rests (FreeActive tb) (FreeActive tb) calm _ (quiet.fresh r s.run.this) s.env (record { run = routine r n; callers = tt }) env))

    pub live : (r : Option Routine) (todo : List Todo) → FreeList tb todo → FreeStep tb (quiet.live_step r todo s)
    live None todo h = ends _ _ h
    live (Some r) todo h = either (FreeStep tb) (sw.is_live (piece.exec_at (top (drop r.params s.run.operands)) s.env) s.env) _ _ (go _ _ h) (stop NotLive todo _ h)

    pub land : (o : Option UnwindReason) (todo : List Todo) → FreeList tb todo → FreeStep tb (quiet.land_step o todo s)
    land None todo h = go _ _ h
    land (Some why) todo h = go _ _ (tt, h)

    -- mutex objects

    pub unless : (o : ℕ) (step : Step) (todo : List Todo) → FreeList tb todo → FreeStep tb step → FreeStep tb (monitors.unless_held_up o step todo s)
    unless o step todo h k = either (FreeStep tb) (inside.is_held_up o s.env) _ step (stop BlockedInside todo _ h) k

    enter_at : (d : Option ℕ) (o m : ℕ) (todo : List Todo) → FreeList tb todo → FreeStep tb (monitors.enter_at d o m todo s)
    enter_at (Some d) o m todo h = go_in _ _ _ h (likes env refl refl)
    enter_at None o m todo h = go_in _ _ _ h (likes env refl refl)

    pub enter : (m : ℕ) (r : Option Routine) (todo : List Todo) → FreeList tb todo → FreeStep tb (monitors.enter_step m r todo s)
    enter m None todo h = ends _ _ h
    enter m (Some r) todo h =
        let o = piece.object_in (top (drop r.params s.run.operands)) in
        either (FreeStep tb) (monitors.may_call r.written s) _ _ (enter_at (find o s.env.depths) o m todo h) (stop Depth todo _ h)

    pub leave : (b : Bool) (o : ℕ) (todo : List Todo) → FreeList tb todo → FreeStep tb (monitors.leave_at b o todo s)
    leave false o todo h = go_in _ _ _ h (likes env refl refl)
    leave true o todo h =
        unless o _ todo h (record { run = polled s.run.raised todo h; callers = callers; env = likes env refl refl })

    pub make : (c k : ℕ) (r : Option Routine) (todo : List Todo) → FreeList tb todo → FreeStep tb (monitors.make_step c k r todo s)
    make c k None todo h = ends _ _ h
    make c k (Some r) todo h =
        either (FreeStep tb) (monitors.may_call r.written s) _ _ (go_in _ _ _ (tt, h) (likes env refl refl)) (stop Depth todo _ h)

    pub bind : (r : Option Routine) (todo : List Todo) → FreeList tb todo → FreeStep tb (monitors.bind_step r todo s)
    bind None todo h = ends _ _ h
    bind (Some r) todo h = go_in _ _ _ h (write _ _)

    pub condition : (k : ℕ) (i : Option ℕ) (todo : List Todo) → FreeList tb todo → FreeStep tb (monitors.condition_step k i todo s)
    condition k None todo h = stop Index todo _ h
    condition k (Some i) todo h = go _ _ h

    pub accept_by : (mask o site : ℕ) (todo : List Todo) (vs : List Value) → FreeList tb todo → FreeStep tb (monitors.accept_by mask o site todo vs s)
    accept_by zero o site todo vs h = go _ _ h
    accept_by (suc mask) o site todo vs h = unless o _ todo h (go _ _ (tt, (tt, h)))

    pub failed : (b : Bool) (todo : List Todo) (vs : List Value) → FreeList tb todo → FreeStep tb (monitors.failed_step b todo vs s)
    failed true todo vs h = go _ _ h
    failed false todo vs h = go _ _ (tt, h)

    -- events

    pend : (n : Exec) (e : Event) (todo : List Todo) (vs : List Value) → FreeList tb todo → FreeStep tb (polls.pend_step n e todo vs s)
    pend n e todo vs h =
        either (FreeStep tb) (nat_lt (length (inside.pending_at n s.env)) PENDING_EVENTS) _ _ (go_in _ _ _ h (kept.with_links_rests (FreeActive tb) (FreeActive tb) calm (λ l. record l { pending = l.pending ++ (record { event = e.number; x = e.x; y = e.y }) ∷ [] }) n s.env env)) (stop TooManyPending todo vs h)

    pend_at : (o : Option Exec) (e : Event) (todo : List Todo) (vs : List Value) → FreeList tb todo → FreeStep tb (polls.pend_at o e todo vs s)
    pend_at None e todo vs h = stop NotLive todo vs h
    pend_at (Some n) e todo vs h = either (FreeStep tb) (sw.is_live (Some n) s.env) _ _ (pend n e todo vs h) (stop NotLive todo vs h)

    pub raise_at : (v : Value) (e : Event) (todo : List Todo) (vs : List Value) → FreeList tb todo → FreeStep tb (polls.raise_at_step v e todo vs s)
    raise_at (Object o) e todo vs h = go _ _ h
    raise_at v e todo vs h = pend_at (piece.exec_at v s.env) e todo vs h

    pub enables : (events cell : ℕ) (todo : List Todo) → FreeList tb todo → FreeStep tb (polls.enable_step events cell todo s)
    enables events cell todo h = go_in _ _ _ h (likes (write (piece.variable_at cell s) (Number (signed_64 s.env.links.enabled))) refl refl)

    quiet_poll : (o : Option Pending) (todo : List Todo) → FreeList tb todo → FreeStep tb (polls.quiet_poll o todo s)
    quiet_poll None todo h = go _ _ h
    quiet_poll (Some p) todo h = go_in _ _ _ (tt, h) (likes env refl refl)

    poll_by : (b : Bool) (todo : List Todo) → FreeList tb todo → FreeStep tb (polls.poll_by b todo s)
    poll_by true todo h = go _ _ (tt, h)
    poll_by false todo h = quiet_poll (inside.oldest_enabled s.env.links) todo h

    pub poll : (todo : List Todo) → FreeList tb todo → FreeStep tb (polls.poll_step todo s)
    poll todo h = either (FreeStep tb) (nat_eq s.env.links.enabled 0) _ _ (go _ _ h) (poll_by (inside.is_own s.env) todo h)

    pub deliver : (v : Value) (todo : List Todo) → FreeList tb todo → FreeStep tb (polls.deliver_step v todo s)
    deliver Nothing todo h = go _ _ h
    deliver v todo h = go _ _ (tt, (tt, h))

    pub throws : (e : Event) (todo : List Todo) → FreeList tb todo → FreeStep tb (raising.throw_step e todo s)
    throws e todo h = record { run = (tt, h); callers = callers; env = env }

    handles : (f : Option Found) (e : Event) (todo : List Todo) → FreeFound f → FreeList tb todo → FreeStep tb (raising.handle_step f e todo s)
    handles None e todo n h = throws e todo h
    handles (Some f) e todo n h = record { run = handled f.handler [] n tt; callers = ((tt, h), callers); env = likes env refl refl }

    pub raises : (e : Event) (todo : List Todo) → FreeList tb todo → FreeStep tb (raising.raise_step e todo s)
    raises e todo h =
        let round : List Active = (record s.run { control = todo }) ∷ s.callers in
        handles (raising.seek None e round) e todo (seek None e round (h, callers)) h

    -- unwinding

    catches : (o : Option Handler) (e : Event) (todo : List Todo) → FreeHandler o → FreeList tb todo → FreeStep tb (raising.catch_step o e todo s)
    catches None e todo n h = go _ _ (tt, h)
    catches (Some x) e todo n h = record { run = handled x todo n h; callers = callers; env = env }

    guarded : (hs : Handlers) (o : Option UnwindReason) (todo : List Todo) → FreeHandlers tb hs → FreeList tb todo → FreeStep tb (raising.guard_left hs o todo s)
    guarded hs (Some (reason.Event n x y)) todo k h =
        catches _ _ todo (handler_for false (record { number = n; x = x; y = y }) hs k) h
    guarded hs o todo k h = go _ _ (tt, h)

    whole : (b : Bool) (todo : List Todo) → FreeList tb todo → FreeStep tb (raising.whole_left b todo s)
    whole true todo h = record { run = h; callers = callers; env = env }
    whole false todo h = go _ _ (tt, h)

    pub scope : (c : CleanUp) (b : Bool) (todo : List Todo) → PlainClean c → FreeList tb todo → FreeStep tb (raising.scope_left c b todo s)
    scope src.Leaves true todo n h = record { run = (tt, (tt, h)); callers = callers; env = env }
    scope c b todo n h = go (raising.left_todo c (piece.Unwind ∷ todo)) [] (left_cleans c (piece.Unwind ∷ todo) n (tt, h))

    main_left : (o : Option UnwindReason) (todo : List Todo) → FreeList tb todo → FreeStep tb (raising.main_left o todo s)
    main_left (Some (reason.ReturnTo n)) todo h = record { run = (tt, h); callers = callers; env = env }
    main_left o todo h = stop Unhandled todo [] h

    coroutine_left : (o : Option UnwindReason) (todo : List Todo) → FreeList tb todo → FreeStep tb (raising.coroutine_left o todo s)
    coroutine_left (Some (reason.ReturnTo n)) todo h = record { run = (tt, h); callers = callers; env = env }
    coroutine_left (Some reason.Destroyed) todo h = moved _ todo _ h (kept.taken_down_rests (FreeActive tb) (FreeActive tb) calm (at todo [] s) (go todo [] h))
    coroutine_left o todo h = moved _ todo _ h (kept.escape_rests (FreeActive tb) (FreeActive tb) calm (at todo [] s) (go todo [] h))

    pub unwind_past : (k : Sort) (todo : List Todo) → FreeSort k → Unended k → FreeList tb todo → FreeStep tb (raising.unwind_past k todo s)
    unwind_past piece.Simple todo n u h = go _ _ (tt, h)
    unwind_past (piece.IsLoop o t e b) todo n u h = go _ _ (tt, h)
    unwind_past piece.IsWhole todo n u h = whole _ todo h
    unwind_past (piece.IsClean c) todo n u h = scope c _ todo u h
    unwind_past (piece.IsFill m b d) todo n u h = go _ _ (n.1, (tt, h))
    unwind_past (piece.IsSweep e) todo n u h = go _ _ (n, (tt, h))
    unwind_past (piece.IsPart c) todo n u h = go _ _ (cleans c _ u (tt, h))
    unwind_past (piece.IsGuard hs) todo n u h = guarded hs s.run.raised todo n h
    unwind_past piece.IsFinish todo n u h = main_left s.run.raised todo h
    unwind_past piece.IsFinishCoroutine todo n u h = coroutine_left s.run.raised todo h

    pass_on : (o : Option UnwindReason) (c : Active) (cs : List Active) → FreeList tb c.control → AllWait (FreeActive tb) (FreeActive tb) cs → FreeList tb s.run.control → FreeStep tb (raising.pass_on o c cs s)
    pass_on None c cs a b h = record { run = h; callers = callers; env = env }
    pass_on (Some why) c cs a b h = record { run = (tt, a); callers = b; env = likes env refl refl }

    leave_for : (b : Bool) (c : Active) (cs : List Active) → FreeList tb c.control → AllWait (FreeActive tb) (FreeActive tb) cs → FreeList tb s.run.control → FreeStep tb (raising.leave_for b c cs s)
    leave_for true c cs a b h = record { run = h; callers = callers; env = env }
    leave_for false c cs a b h = pass_on s.run.raised c cs a b h

    leaves : (cs : List Active) → AllWait (FreeActive tb) (FreeActive tb) cs → FreeList tb s.run.control → FreeStep tb (raising.leave_step cs s)
    leaves [] c h = record { run = h; callers = callers; env = env }
    leaves (c ∷ cs) p h =
        either (FreeStep tb) (raising.arrives s.run.raised (length (c ∷ cs))) _ _ (returned s.run.result (c ∷ cs) p h) (leave_for _ c cs p.0 p.1 h)

    pub left_all : FreeList tb s.run.control → FreeStep tb (raising.unwind_step [] s)
    left_all c = leaves s.callers callers c

    -- printing

    pub prints : (o : Option (List Piece)) (p : Piece) (todo : List Todo) (vs : List Value) → FreeList tb todo → FreeStep tb (piece.print_step o p todo vs s)
    prints None p todo vs h = go _ _ h
    prints (Some ps) p todo vs h = go_in _ _ _ h (likes env refl refl)

    pub flushes : (o : Option (List Piece)) (todo : List Todo) (vs : List Value) → FreeList tb todo → FreeStep tb (piece.flush_step o todo vs s)
    flushes None todo vs h = go _ _ h
    flushes (Some []) todo vs h = go_in _ _ _ h (likes env refl refl)
    flushes (Some (p ∷ ps)) todo vs h = go_in _ _ _ h (likes env refl refl)

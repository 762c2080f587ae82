-- A quiet step of a state of which all names are known leads to one, or asks what names what is known.
use Rattle.std.proofs.Common.{◌≡◌, ℕ, zero, suc, ◌+◌, ◌^◌, ◌<◌, ◌≤◌, ◌++◌, Bool, true, false, ◌&&◌, List, [], ◌∷◌, length, drop, Option, Some, None, refl, sym, ◌∙◌, subst, arith}
use Rattle.std.specs.Prelude.{nat_eq, nat_lt, if◌then◌else◌}
use Rattle.std.proofs.Math.Nat.{pow-succ'}
use Rattle.uc_tree.specs.declared.limits.TheConstants.{CALLS, PENDING_EVENTS, MEMBERS}
use Rattle.uc_tree.specs.Programs.{Site}
use Rattle.uc_tree.specs.Source as src
use Rattle.uc_tree.specs.Source.{Shape, Expr, ObjectExpr, Stmt, Stmts, EventStmt, TaskStmt, Routine, Purpose, Order, Way, CleanUp, Handlers, Clauses, Raised, Item, Declared}
use Rattle.uc_entry.specs.declared.fault.RunFault.{RunFault}
use Rattle.uc_entry.specs.declared.fault.RunFault.TheVariants.{Index, Depth, BlockedInside, TooManyPending, NotLive, Unhandled}
use Rattle.uc_entry.specs.declared.request.Piece.{Piece}
use Rattle.uc_entry.specs.declared.request.Request.{Request}
use Rattle.uc_entry.specs.declared.request.Request.TheVariants as ask
use Rattle.uc_entry.specs.Keyed.{find, signed_64}
use Rattle.uc_acts.specs.Doors.{site_at}
use Rattle.uc_machine.specs.declared.exec.Exec.{Exec}
use Rattle.uc_machine.specs.declared.exec.Pending.{Pending}
use Rattle.uc_machine.specs.declared.exec.UnwindReason.{UnwindReason}
use Rattle.uc_machine.specs.declared.exec.UnwindReason.TheVariants as reason
use Rattle.uc_machine.specs.declared.exec.Visited.{Visited}
use Rattle.uc_machine.specs.Executions.{take_operands, others, first_or}
use Rattle.uc_machine.specs.Switches as sw
use Rattle.uc_machine.specs.Switches.{Moved, To, Stops}
use Rattle.uc_machine.specs.Insides as inside
use Rattle.uc_machine.specs.Raising as raising
use Rattle.uc_machine.specs.Raising.{Event, Handler, Found, Hit}
use Rattle.uc_machine.specs.Monitors as monitors
use Rattle.uc_machine.specs.Polls as polls
use Rattle.uc_machine.specs.Quiet as quiet
use Rattle.uc_machine.specs.Pieces as piece
use Rattle.uc_machine.specs.Pieces.{Value, Number, Place, Running, Object, Nothing, Todo, Sort, Active, State, Env, Members, Step, Goes, Ticks, Asks, Outcome, Gives, Faults, at, in_env, goes, fault, asks, turns, top, below, number, is_zero, written}
use Rattle.uc_site_laws.proofs.Kept.{either}
use Rattle.uc_site_laws.specs.Named.{IsSite, NamedExpr, NamedObject, NamedMaybe, NamedItem, NamedClean, NamedRaised, NamedAt, NamedStmt, NamedStmts, NamedEvent, NamedTask, NamedHandlers, NamedClauses, NamedRoutine}
use Rattle.uc_site_laws.specs.Naming.{NamedPiece, Named, NamedActive, NamedState, NamesKnown, NamedStep}
use Rattle.uc_site_laws.specs.Resting.{AllWait, RestsEnv}
use Rattle.uc_site_laws.proofs.Kept as kept

-- masks: each guard is a bit

taken_length : {X : Type 0} (d : X) (n : ℕ) (xs ys : List X) → length (take_operands d n xs ys) ≡ n + length ys
taken_length d zero xs ys = omega arith
taken_length d (suc n) xs ys = let h = taken_length d n (others xs) (first_or d xs ∷ ys) in h ∙ omega arith

bit_small : (b : Bool) → (if b then 0 else 1) ≤ 1
bit_small true = omega arith
bit_small false = omega arith

mask_small : (vs : List Value) → monitors.mask_of vs < 2 ^ length vs
mask_small [] = omega arith
mask_small (v ∷ vs) =
    let h = mask_small vs in
    let b = bit_small (is_zero (number v)) in
    let e = pow-succ' 2 (length vs) in
    omega (arith, h, b, e)

module _ (sites : List Site) where
  pub calm : (a : Active) (w : Option UnwindReason) → NamedActive sites a → NamedActive sites (record a { raised = w })
  calm a w h = h

  pub likes : {e f : Env} → RestsEnv (NamedActive sites) (NamedActive sites) e → f.hand ≡ e.hand → f.house ≡ e.house → RestsEnv (NamedActive sites) (NamedActive sites) f
  likes h g i = kept.like (NamedActive sites) (NamedActive sites) calm h g i

  abbrev pub Moves : Moved (List Todo) Value → Type 0
  Moves m = kept.RestsMoved (NamedActive sites) (NamedActive sites) calm m

  -- what is to do in a routine

  behind : (p : Purpose) (line : ℕ) → Named sites (quiet.behind_body p line)
  behind src.TaskMain line = (tt, (tt, tt))
  behind src.CoroutineMain line = (tt, (tt, tt))
  behind src.Procedure line = (tt, tt)
  behind src.Function line = (tt, (tt, tt))
  behind src.Builder line = tt

  pub routine : (r : Routine) → NamedStmts sites r.body → Named sites (quiet.routine_todo r)
  routine r h = (h, behind r.purpose r.line)

  -- what a piece is for one who leaves it

  abbrev NamedSort : Sort → Type 0
  NamedSort (piece.IsLoop o t e b) = NamedExpr t × NamedMaybe e × NamedStmt sites b
  NamedSort (piece.IsClean c) = NamedClean c
  NamedSort (piece.IsFill n b d) = NamedExpr b × NamedExpr d
  NamedSort (piece.IsSweep e) = NamedExpr e
  NamedSort (piece.IsPart c) = NamedClean c
  NamedSort (piece.IsGuard hs) = NamedHandlers sites hs
  NamedSort k = Unit {0}

  sorted : (p : Todo) → NamedPiece sites p → NamedSort (piece.sort p)
  sorted (piece.InLoop o t e b) h = h
  sorted (piece.Clean c) h = h
  sorted (piece.FillNow n b d) h = h
  sorted (piece.Sweep e) h = h
  sorted (piece.Part c) h = h
  sorted (piece.Guard hs) h = h
  sorted p h = tt

  -- handlers

  abbrev NamedHandler : Option Handler → Type 0
  NamedHandler None = Unit {0}
  NamedHandler (Some x) = NamedStmts sites x.body

  abbrev NamedHit : Option Hit → Type 0
  NamedHit None = Unit {0}
  NamedHit (Some x) = NamedStmts sites x.handler.body

  abbrev NamedFound : Option Found → Type 0
  NamedFound None = Unit {0}
  NamedFound (Some x) = NamedStmts sites x.handler.body

  handler_for : (kind : Bool) (e : Event) (hs : Handlers) → NamedHandlers sites hs → NamedHandler (raising.handler_for kind e hs)
  handler_for kind e src.NoHandlers h = tt
  handler_for kind e (src.MoreHandlers resumes event cell line body rest) h =
      either NamedHandler (raising.same_kind kind resumes && raising.takes event e) (Some (record { cell = cell; line = line; body = body })) (raising.handler_for kind e rest) h.0 (handler_for kind e rest h.1)

  hit_or : (x : Option Handler) (n : ℕ) (other : Option Hit) → NamedHandler x → NamedHit other → NamedHit (raising.hit_or x n other)
  hit_or None n other h k = k
  hit_or (Some x) n other h k = h

  hit_by : (k : Sort) (n : ℕ) (e : Event) (other : Option Hit) → NamedSort k → NamedHit other → NamedHit (raising.hit_by k n e other)
  hit_by (piece.IsGuard hs) n e other h k = hit_or (raising.handler_for true e hs) n other (handler_for true e hs h) k
  hit_by s n e other h k = k

  hit_in : (e : Event) (todo : List Todo) → Named sites todo → NamedHit (raising.hit_in e todo)
  hit_in e [] h = tt
  hit_in e (p ∷ ps) h = hit_by (piece.sort p) (raising.count_round ps) e (raising.hit_in e ps) (sorted p h.0) (hit_in e ps h.1)

  within : (n : ℕ) (todo : List Todo) → Named sites todo → Named sites (raising.within n todo)
  within n [] h = tt
  within n (p ∷ ps) h = either (Named sites) (nat_eq (raising.count_round (p ∷ ps)) n) (p ∷ ps) (raising.within n ps) h (within n ps h.1)

  found_or : (x : Option Hit) (a : Active) (cs : List Active) (other : Option Found) → NamedHit x → NamedFound other → NamedFound (raising.found_or x a cs other)
  found_or None a cs other h k = k
  found_or (Some x) a cs other h k = h

  seek : (v : Option Visited) (e : Event) (cs : List Active) → AllWait (NamedActive sites) (NamedActive sites) cs → NamedFound (raising.seek v e cs)
  seek None e [] h = tt
  seek (Some v) e [] h = tt
  seek None e (a ∷ cs) h = found_or (raising.hit_in e a.control) a cs (raising.seek a.handles e cs) (hit_in e a.control h.0) (seek a.handles e cs h.1)
  seek (Some v) e (a ∷ cs) h =
      either NamedFound (nat_eq (length cs) v.level) (raising.found_or (raising.hit_in e (raising.within v.rest a.control)) a cs (raising.seek a.handles e cs)) (raising.seek (Some v) e cs) (found_or (raising.hit_in e (raising.within v.rest a.control)) a cs (raising.seek a.handles e cs) (hit_in e (raising.within v.rest a.control) (within v.rest a.control h.0)) (seek a.handles e cs h.1)) (seek (Some v) e cs h.1)

  -- to-do lists

  pub starts : (cell : ℕ) (v : Option Expr) (todo : List Todo) → NamedMaybe v → Named sites todo → Named sites (quiet.starting cell v todo)
  starts cell None todo n h = h
  starts cell (Some e) todo n h = (tt, (n, (tt, h)))

  converts : (k : Shape) (todo : List Todo) → Named sites todo → Named sites (quiet.converting k todo)
  converts src.Character todo h = (tt, h)
  converts src.Truth todo h = (tt, h)
  converts k todo h = h

  pub stepped : (e : Option Expr) (todo : List Todo) → NamedMaybe e → Named sites todo → Named sites (quiet.step_todo e todo)
  stepped None todo n h = h
  stepped (Some e) todo n h = (n, (tt, h))

  pub tested : (o : Order) (t : Expr) (e : Option Expr) (b : Stmt) (todo : List Todo) → NamedExpr t → NamedMaybe e → NamedStmt sites b → Named sites todo → Named sites (quiet.test_todo o t e b todo)
  tested src.TestFirst t e b todo k l m h = (k, ((k, l, m), h))
  tested src.BodyFirst t e b todo k l m h = (k, ((k, l, m), h))
  tested src.NoTest t e b todo k l m h = ((k, l, m), h)

  looped : (o : Order) (t : Expr) (e : Option Expr) (b : Stmt) (todo : List Todo) → NamedExpr t → NamedMaybe e → NamedStmt sites b → Named sites todo → Named sites (quiet.loop_todo o t e b todo)
  looped src.TestFirst t e b todo k l m h = (k, ((k, l, m), h))
  looped src.BodyFirst t e b todo k l m h = ((k, l, m), h)
  looped src.NoTest t e b todo k l m h = ((k, l, m), h)

  loop_left : (w : Way) (o : Order) (t : Expr) (e : Option Expr) (b : Stmt) (todo : List Todo) → NamedExpr t × NamedMaybe e × NamedStmt sites b → Named sites todo → Named sites (quiet.loop_left w o t e b todo)
  loop_left src.ToBreak o t e b todo n h = h
  loop_left src.ToContinue o t e b todo n h = (n, h)
  loop_left src.ToReturn o t e b todo n h = (tt, h)
  loop_left src.ToEnd o t e b todo n h = (tt, h)

  left_behind : (w : Way) (k : Sort) (todo : List Todo) → NamedSort k → Named sites todo → Named sites (quiet.left_behind w k todo)
  left_behind w piece.Simple todo n h = (tt, h)
  left_behind w (piece.IsLoop o t e b) todo n h = loop_left w o t e b todo n h
  left_behind w piece.IsWhole todo n h = h
  left_behind w (piece.IsClean c) todo n h = (n, (tt, h))
  left_behind w (piece.IsFill m b d) todo n h = (tt, h)
  left_behind w (piece.IsSweep e) todo n h = (tt, h)
  left_behind w (piece.IsPart c) todo n h = (tt, h)
  left_behind w (piece.IsGuard hs) todo n h = (tt, h)
  left_behind w piece.IsFinish todo n h = (tt, h)
  left_behind w piece.IsFinishCoroutine todo n h = (tt, h)

  pub filled : (b : Bool) (n : ℕ) (e d : Expr) (todo : List Todo) → NamedExpr e × NamedExpr d → Named sites todo → Named sites (quiet.fill_todo b n e d todo)
  filled false n e d todo k h = h
  filled true n e d todo k h = (k.0, (tt, (tt, (k, h))))

  raised : (r : Raised) (todo : List Todo) → NamedRaised r → Named sites todo → Named sites (raising.raised_todo r todo)
  raised (src.Plainly n) todo k h = (tt, (tt, (tt, h)))
  raised (src.BuiltAt n c e) todo k h = (tt, (k, (tt, (tt, (tt, (tt, h))))))
  raised (src.AgainFrom c) todo k h = (tt, (tt, (tt, h)))

  named_at : (r : Raised) → NamedAt r → NamedRaised r
  named_at (src.Plainly n) h = tt
  named_at (src.BuiltAt n c e) h = h.1
  named_at (src.AgainFrom c) h = tt

  handled : (x : Handler) (todo : List Todo) → NamedStmts sites x.body → Named sites todo → Named sites (raising.handler_todo x todo)
  handled x todo k h = (tt, (tt, (tt, (tt, (tt, (tt, (k, (tt, h))))))))

  pub cleans : (c : CleanUp) (todo : List Todo) → NamedClean c → Named sites todo → Named sites (piece.clean_todo c todo)
  cleans (src.Destroys e) todo n h = (n, (tt, h))
  cleans (src.DestroysAll m e) todo n h = (tt, (n, h))
  cleans src.Unwinds todo n h = (tt, h)
  cleans src.Forgets todo n h = (tt, h)
  cleans src.Leaves todo n h = (tt, h)
  cleans src.Ends todo n h = (tt, h)
  cleans (src.Frees None) todo n h = (tt, h)
  cleans (src.Frees (Some r)) todo n h = (tt, h)
  cleans (src.Restores k) todo n h = (tt, h)

  left_cleans : (c : CleanUp) (todo : List Todo) → NamedClean c → Named sites todo → Named sites (raising.left_todo c todo)
  left_cleans (src.Frees r) todo n h = (tt, h)
  left_cleans c todo n h = cleans c todo n h

  pub branch : (k : ℕ) (cs : Clauses) (todo : List Todo) → NamedClauses sites cs → Named sites todo → Named sites (monitors.branch_todo k cs todo)
  branch k src.NoClauses todo n h = h
  branch k (src.Otherwise b) todo n h = either (Named sites) (nat_eq k 0) (piece.Do b ∷ todo) todo (n, h) h
  branch zero (src.MoreClauses guard b cs) todo n h = branch zero cs todo n.2 h
  branch (suc zero) (src.MoreClauses guard b cs) todo n h = (n.1, h)
  branch (suc (suc k)) (src.MoreClauses guard b cs) todo n h = branch (suc k) cs todo n.2 h

  pub item : (i : Item) (todo : List Todo) → NamedItem i → Named sites todo → Named sites (quiet.item_todo i todo)
  item (src.Show f e) todo n h = (n, (tt, h))
  item (src.ShowText k) todo n h = (tt, h)

  pub item_value : (i : Item) (todo : List Todo) → NamedItem i → Named sites todo → Named sites (quiet.item_value i todo)
  item_value (src.Show f e) todo n h = (n, h)
  item_value (src.ShowText k) todo n h = h

  pub item_piece : (i : Item) → NamedPiece sites (quiet.item_piece i)
  item_piece (src.Show f e) = tt
  item_piece (src.ShowText k) = tt

  polled : (o : Option UnwindReason) (todo : List Todo) → Named sites todo → Named sites (monitors.leave_todo o todo)
  polled None todo h = (tt, h)
  polled (Some why) todo h = h

  module _ (s : State) (callers : AllWait (NamedActive sites) (NamedActive sites) s.callers) (env : RestsEnv (NamedActive sites) (NamedActive sites) s.env) where
    -- with other operands and something else to do
    pub go : (todo : List Todo) (vs : List Value) → Named sites todo → NamedState sites (at todo vs s)
    go todo vs h = record { run = h; callers = callers; env = env }

    -- and with something written
    pub go_in : (todo : List Todo) (vs : List Value) (e : Env) → Named sites todo → RestsEnv (NamedActive sites) (NamedActive sites) e → NamedState sites (at todo vs (in_env e s))
    go_in todo vs e h i = record { run = h; callers = callers; env = i }

    -- with a request
    pub asked_in : (r : Request) (todo : List Todo) (vs : List Value) (e : Env) → NamesKnown sites r → Named sites todo → RestsEnv (NamedActive sites) (NamedActive sites) e → NamedStep sites (asks r todo vs (in_env e s))
    asked_in r todo vs e k h i = record { state = record { run = h; callers = callers; env = i }; names = k }

    pub asked : (r : Request) (todo : List Todo) (vs : List Value) → NamesKnown sites r → Named sites todo → NamedStep sites (asks r todo vs s)
    asked r todo vs k h = record { state = go todo vs h; names = k }

    pub stop : (f : RunFault) (todo : List Todo) (vs : List Value) → Named sites todo → NamedStep sites (fault f todo vs s)
    stop f todo vs h = record { state = go todo vs h; names = tt }

    pub moved : (m : Moved (List Todo) Value) (todo : List Todo) (vs : List Value) → Named sites todo → Moves m → NamedStep sites (piece.moves m (at todo vs s))
    moved (To t) todo vs h m = m
    moved (Stops f) todo vs h m = record { state = go todo vs h; names = tt }

    pub write : (p v : Value) → RestsEnv (NamedActive sites) (NamedActive sites) (written p v s.env)
    write p v = kept.written_rests (NamedActive sites) (NamedActive sites) calm p v s.env env

    pub outcome : (o : Outcome) (todo : List Todo) (vs : List Value) → Named sites todo → NamedStep sites (piece.outcome_step o todo vs s)
    outcome (Gives n) todo vs h = go todo _ h
    outcome (Faults f) todo vs h = stop f todo vs h

    pub element : (k : Shape) (i : Option ℕ) (todo : List Todo) (v : Value) (vs : List Value) → Named sites todo → NamedStep sites (piece.element_step k i todo v vs s)
    element k None todo v vs h = stop Index todo vs h
    element k (Some i) todo v vs h = go todo _ h

    -- expressions

    object : (o : ObjectExpr) (todo : List Todo) → NamedObject o → Named sites todo → NamedStep sites (quiet.object_step o todo s)
    object src.This todo n h = go _ _ h
    object (src.OwnField k i) todo n h = go _ _ h
    object (src.GetOwn k i) todo n h = go _ _ h
    object (src.FieldOf k i a) todo n h = go _ _ (n, (tt, h))
    object src.Counted todo n h = go _ _ h
    object (src.CallOn r a args) todo n h = go _ _ (n.0, (n.1, (tt, (tt, h))))
    object (src.CallLive r a args) todo n h = go _ _ (n.0, (n.1, (tt, (tt, (tt, h)))))
    object (src.CallUnwritten r a) todo n h = go _ _ (n, (tt, h))
    object (src.EnterOn m r a args) todo n h = go _ _ (n.1, (n.2, (tt, (n.0, (tt, h)))))
    object (src.EndOn r false a) todo n h = go _ _ (n, (omega arith, (tt, h)))
    object (src.EndOn r true a) todo n h = go _ _ (n, (tt, (omega arith, (tt, h))))
    object (src.Bind a b) todo n h = go _ _ (n.0, (n.1, (tt, h)))
    object (src.MakeOn c r false a args) todo n h = go _ _ (n.0, (n.1, (tt, (tt, h))))
    object (src.MakeOn c r true a args) todo n h = go _ _ (n.0, (n.1, (tt, (tt, (tt, h)))))
    object src.NewCluster todo n h = go _ _ (tt, h)
    object (src.NewProcessor a) todo n h = go _ _ (n, (tt, h))
    object (src.EndCluster a) todo n h = go _ _ (n, (tt, h))
    object (src.EndProcessor a) todo n h = go _ _ (n, (tt, h))
    object (src.ConditionAt k m a) todo n h = go _ _ (n, (tt, h))
    object (src.Wait a b) todo n h = go _ _ (n.0, (n.1, (tt, (tt, h))))
    object (src.Signal a) todo n h = go _ _ (n, (tt, h))
    object (src.SignalBlock a) todo n h = go _ _ (n, (tt, h))
    object (src.IsEmpty a) todo n h = go _ _ (n, (tt, h))
    object (src.FrontOf a) todo n h = go _ _ (n, (tt, h))

    pub eval : (a : Expr) (todo : List Todo) → NamedExpr a → Named sites todo → NamedStep sites (quiet.eval_step a todo s)
    eval (src.Literal k) todo n h = go _ _ h
    eval (src.Variable k) todo n h = go _ _ h
    eval (src.Element m k a i) todo n h = go _ _ (n.0, (n.1, (tt, h)))
    eval (src.Get k) todo n h = go _ _ h
    eval (src.Load a) todo n h = go _ _ (n, (tt, h))
    eval (src.Negated a) todo n h = go _ _ (n, (tt, h))
    eval (src.Not a) todo n h = go _ _ (n, (tt, h))
    eval (src.AsCharacter a) todo n h = go _ _ (n, (tt, h))
    eval (src.AsTruth a) todo n h = go _ _ (n, (tt, h))
    eval (src.Operate op a b) todo n h = go _ _ (n.0, (n.1, (tt, h)))
    eval (src.And a b) todo n h = go _ _ (n.0, ((n.1, tt), h))
    eval (src.Or a b) todo n h = go _ _ (n.0, ((tt, n.1), h))
    eval (src.Set k a) todo n h = go _ _ (n, (tt, h))
    eval (src.Assign p a) todo n h = go _ _ (n.0, (n.1, (tt, h)))
    eval (src.First a b) todo n h = go _ _ (n.0, (n.1, (tt, h)))
    eval (src.Update op k p a) todo n h = go _ _ (n.0, (tt, (tt, (n.1, (tt, converts k _ (tt, h))))))
    eval (src.StepBehind op k p) todo n h = go _ _ (n, (tt, (tt, (tt, (tt, (tt, (tt, converts k _ (tt, (tt, h)))))))))
    eval src.Fail todo n h = asked _ _ _ tt h
    eval (src.Call r args) todo n h = go _ _ (n, (tt, (tt, h)))
    eval (src.OfObject o) todo n h = object o todo n h

    -- exits

    -- the end of an activation
    pub returned : (given : Value) (cs : List Active) → AllWait (NamedActive sites) (NamedActive sites) cs → Named sites s.run.control → NamedStep sites (piece.return_step given cs s)
    returned given [] c h = record { state = record { run = h; callers = callers; env = env }; names = tt }
    returned given (a ∷ cs) c h = record { run = c.0; callers = c.1; env = likes env refl refl }

    past : (v : Visited) (given : Value) (cs : List Active) → AllWait (NamedActive sites) (NamedActive sites) cs → Named sites s.run.control → NamedStep sites (raising.return_past v given cs s)
    past v given [] c h = record { state = record { run = h; callers = callers; env = env }; names = tt }
    past v given (a ∷ cs) c h = record { run = (tt, c.0); callers = c.1; env = likes env refl refl }

    end_by : (v : Option Visited) (given : Value) → Named sites s.run.control → NamedStep sites (raising.end_by v given s)
    end_by None given h = returned given s.callers callers h
    end_by (Some v) given h = past v given s.callers callers h

    end_step : (w : Way) → Named sites s.run.control → NamedStep sites (quiet.end_step w s)
    end_step src.ToReturn h = end_by s.run.handles _ h
    end_step src.ToEnd h = end_by s.run.handles _ h
    end_step src.ToBreak h = returned _ s.callers callers h
    end_step src.ToContinue h = returned _ s.callers callers h

    pub exits : (w : Way) (todo : List Todo) → Named sites todo → Named sites s.run.control → NamedStep sites (quiet.exit_step w todo s)
    exits w [] h c = end_step w c
    exits w (p ∷ ps) h c = go _ _ (left_behind w (piece.sort p) ps (sorted p h.0) h.1)

    -- statements

    pub swept : (n : ℕ) (e : Expr) (todo : List Todo) → NamedExpr e → Named sites todo → NamedStep sites (quiet.sweep_step n e todo s)
    swept zero e todo n h = go _ _ h
    swept (suc m) e todo n h = record { run = (n, (tt, (n, h))); callers = callers; env = env }

    event_step : (a : EventStmt) (todo : List Todo) → NamedEvent sites a → Named sites todo → NamedStep sites (quiet.event_step a todo s)
    event_step (src.Throw line r) todo n h = go _ _ (raised r _ n (tt, (tt, h)))
    event_step (src.Raise line r) todo n h = go _ _ (raised r _ n (tt, (tt, h)))
    event_step (src.Try line body hs) todo n h = go _ _ (n.0, (n.1, (tt, h)))
    event_step (src.RaiseAt line r a) todo n h = go _ _ (raised r _ (named_at r n.0) (n.1, (tt, (tt, h))))
    event_step (src.Enable line events cell a) todo n h = go _ _ (tt, (tt, (n, (tt, (tt, h)))))
    event_step (src.Disable line events cell a) todo n h = go _ _ (tt, (n, (tt, (tt, h))))

    task_step : (a : TaskStmt) (todo : List Todo) → NamedTask sites a → Named sites todo → NamedStep sites (quiet.task_step a todo s)
    task_step (src.Resume line) todo n h = go _ _ (tt, (tt, (tt, h)))
    task_step (src.Suspend line) todo n h = go _ _ (tt, (tt, (tt, h)))
    task_step (src.SetUp r) todo n h = go _ _ (tt, h)
    task_step src.Enliven todo n h = go _ _ (tt, h)
    task_step src.TakeDown todo n h = go _ _ (tt, h)
    task_step (src.Yield line) todo n h = go _ _ (tt, (tt, (tt, h)))
    task_step (src.Migrate line a) todo n h = go _ _ (n, (tt, (tt, h)))
    task_step (src.Accept line site cs) todo n h = go _ _ (n.1, (n.0, (n.1, (tt, h))))

    pub stmt : (a : Stmt) (todo : List Todo) → NamedStmt sites a → Named sites todo → NamedStep sites (quiet.stmt_step a todo s)
    stmt (src.Skip line) todo n h = go _ _ h
    stmt (src.Block line body) todo n h = go _ _ (n, (tt, h))
    stmt (src.Whole line body) todo n h = go _ _ (n, (tt, (tt, h)))
    stmt (src.Evaluate line a) todo n h = go _ _ (n, (tt, (tt, h)))
    stmt (src.Declare line ds) todo n h = go _ _ (n, (tt, h))
    stmt (src.Print line items) todo n h = go _ _ (n, (tt, h))
    stmt (src.PrintTogether line items) todo n h = go _ _ (n, (tt, (n, (tt, (tt, h)))))
    stmt (src.Read line ts) todo n h = go _ _ (n, (tt, h))
    stmt (src.If line t a b) todo n h = go _ _ (n.0, ((n.1, n.2), (tt, h)))
    stmt (src.Loop line o t e b) todo n h = go _ _ (looped o t e b _ n.0 n.1 n.2 (tt, h))
    stmt (src.Break line) todo n h = go _ _ (tt, h)
    stmt (src.Continue line) todo n h = go _ _ (tt, h)
    stmt (src.Return line None) todo n h = go _ _ (tt, h)
    stmt (src.Return line (Some e)) todo n h = go _ _ (n, (tt, (tt, h)))
    stmt (src.Owes line) todo n h = go _ _ (tt, (tt, h))
    stmt (src.Fill line m b d) todo n h = go _ _ (tt, (n, (tt, h)))
    stmt (src.OfEvents a) todo n h = event_step a todo n h
    stmt (src.OfTasks a) todo n h = task_step a todo n h

    pub rest : (ss : Stmts) (todo : List Todo) → NamedStmts sites ss → Named sites todo → NamedStep sites (quiet.rest_step ss todo s)
    rest src.Nil todo n h = go _ _ h
    rest (src.Then a ss) todo n h = go _ _ (n.0, (n.1, h))
    rest (src.Scoped c ss) todo n h = go _ _ (n.1, (n.0, h))
    rest (src.Built c ss) todo n h = go _ _ (n.1, (n.0, h))

    -- calls

    begun : (r : Routine) (this : Value) (counts : Bool) (todo : List Todo) (vs : List Value) → NamedStmts sites r.body → Named sites todo → NamedStep sites (quiet.begun_step r this counts todo vs s)
    begun r this counts todo vs n h = record { run = routine r n; callers = (h, callers); env = likes env refl refl }

    ends : (todo : List Todo) (vs : List Value) → Named sites todo → NamedStep sites (Asks ask.End (at todo vs s))
    ends todo vs h = record { state = go todo vs h; names = tt }

    pub call : (r : Option Routine) (todo : List Todo) → NamedRoutine sites r → Named sites todo → NamedStep sites (quiet.call_step r todo s)
    call None todo n h = ends _ _ h
    call (Some r) todo n h = either (NamedStep sites) (nat_lt s.env.links.calls CALLS) _ _ (begun r _ true todo _ n h) (stop Depth todo _ h)

    pub call_on : (r : Option Routine) (todo : List Todo) → NamedRoutine sites r → Named sites todo → NamedStep sites (quiet.call_on_step r todo s)
    call_on None todo n h = ends _ _ h
    call_on (Some r) todo n h = either (NamedStep sites) (nat_lt s.env.links.calls CALLS) _ _ (begun r _ true todo _ n h) (stop Depth todo _ h)

    pub call_unwritten : (r : Option Routine) (todo : List Todo) → NamedRoutine sites r → Named sites todo → NamedStep sites (quiet.call_unwritten_step r todo s)
    call_unwritten None todo n h = ends _ _ h
    call_unwritten (Some r) todo n h = begun r _ false todo _ n h

    -- coroutines

    pub set_up : (r : Option Routine) (todo : List Todo) → NamedRoutine sites r → Named sites todo → NamedStep sites (quiet.set_up_step r todo s)
    set_up None todo n h = go _ _ h
    set_up (Some r) todo n h = go_in _ _ _ h (kept.written_rests (NamedActive sites) (NamedActive sites) calm s.run.this _ _ (kept.born_rests (NamedActive sites) (NamedActive sites) calm _ (quiet.fresh r s.run.this) s.env (record { run = routine r n; callers = tt }) env))

    pub live : (r : Option Routine) (todo : List Todo) → Named sites todo → NamedStep sites (quiet.live_step r todo s)
    live None todo h = ends _ _ h
    live (Some r) todo h = either (NamedStep sites) (sw.is_live (piece.exec_at (top (drop r.params s.run.operands)) s.env) s.env) _ _ (go _ _ h) (stop NotLive todo _ h)

    pub land : (o : Option UnwindReason) (todo : List Todo) → Named sites todo → NamedStep sites (quiet.land_step o todo s)
    land None todo h = go _ _ h
    land (Some why) todo h = go _ _ (tt, h)

    -- mutex objects

    pub unless : (o : ℕ) (step : Step) (todo : List Todo) → Named sites todo → NamedStep sites step → NamedStep sites (monitors.unless_held_up o step todo s)
    unless o step todo h k = either (NamedStep sites) (inside.is_held_up o s.env) _ step (stop BlockedInside todo _ h) k

    enter_at : (d : Option ℕ) (o m : ℕ) (todo : List Todo) → m ≤ MEMBERS → Named sites todo → NamedStep sites (monitors.enter_at d o m todo s)
    enter_at (Some d) o m todo n h = go_in _ _ _ h (likes env refl refl)
    enter_at None o m todo n h = asked_in _ _ _ _ n h (likes env refl refl)

    pub enter : (m : ℕ) (r : Option Routine) (todo : List Todo) → m ≤ MEMBERS → Named sites todo → NamedStep sites (monitors.enter_step m r todo s)
    enter m None todo n h = ends _ _ h
    enter m (Some r) todo n h =
        let o = piece.object_in (top (drop r.params s.run.operands)) in
        either (NamedStep sites) (monitors.may_call r.written s) _ _ (enter_at (find o s.env.depths) o m todo n h) (stop Depth todo _ h)

    pub leave : (b : Bool) (o : ℕ) (todo : List Todo) → Named sites todo → NamedStep sites (monitors.leave_at b o todo s)
    leave false o todo h = go_in _ _ _ h (likes env refl refl)
    leave true o todo h =
        unless o _ todo h (record { state = record { run = polled s.run.raised todo h; callers = callers; env = likes env refl refl }; names = tt })

    pub make : (c k : ℕ) (r : Option Routine) (todo : List Todo) → Named sites todo → NamedStep sites (monitors.make_step c k r todo s)
    make c k None todo h = ends _ _ h
    make c k (Some r) todo h =
        either (NamedStep sites) (monitors.may_call r.written s) _ _ (asked_in _ _ _ _ tt (tt, h) (likes env refl refl)) (stop Depth todo _ h)

    pub bind : (r : Option Routine) (todo : List Todo) → Named sites todo → NamedStep sites (monitors.bind_step r todo s)
    bind None todo h = ends _ _ h
    bind (Some r) todo h = go_in _ _ _ h (write _ _)

    pub condition : (k : ℕ) (i : Option ℕ) (todo : List Todo) → Named sites todo → NamedStep sites (monitors.condition_step k i todo s)
    condition k None todo h = stop Index todo _ h
    condition k (Some i) todo h = go _ _ h

    accept_by : (mask o site : ℕ) (todo : List Todo) (vs : List Value) → site < length sites → mask < 2 ^ length (site_at sites site).clauses → Named sites todo → NamedStep sites (monitors.accept_by mask o site todo vs s)
    accept_by zero o site todo vs k l h = go _ _ h
    accept_by (suc mask) o site todo vs k l h = unless o _ todo h (asked _ _ _ (k, l) (tt, (tt, h)))

    -- the mask has a bit for each guard, so for each clause
    pub accept : (o site n : ℕ) (todo : List Todo) → IsSite sites site n → Named sites todo → NamedStep sites (monitors.accept_step o site n todo s)
    accept o site n todo k h =
        let guards = take_operands Nothing n s.run.operands [] in
        let small : monitors.mask_of guards < 2 ^ length guards = mask_small guards in
        let many : length guards ≡ n = taken_length Nothing n s.run.operands [] ∙ omega arith in
        accept_by (monitors.mask_of guards) o site todo _ k.known (subst (λ l. monitors.mask_of guards < 2 ^ l) (many ∙ sym k.clauses_are) small) h

    pub failed : (b : Bool) (todo : List Todo) (vs : List Value) → Named sites todo → NamedStep sites (monitors.failed_step b todo vs s)
    failed true todo vs h = go _ _ h
    failed false todo vs h = go _ _ (tt, h)

    -- events

    pend : (n : Exec) (e : Event) (todo : List Todo) (vs : List Value) → Named sites todo → NamedStep sites (polls.pend_step n e todo vs s)
    pend n e todo vs h =
        either (NamedStep sites) (nat_lt (length (inside.pending_at n s.env)) PENDING_EVENTS) _ _ (go_in _ _ _ h (kept.with_links_rests (NamedActive sites) (NamedActive sites) calm (λ l. record l { pending = l.pending ++ (record { event = e.number; x = e.x; y = e.y }) ∷ [] }) n s.env env)) (stop TooManyPending todo vs h)

    pend_at : (o : Option Exec) (e : Event) (todo : List Todo) (vs : List Value) → Named sites todo → NamedStep sites (polls.pend_at o e todo vs s)
    pend_at None e todo vs h = stop NotLive todo vs h
    pend_at (Some n) e todo vs h = either (NamedStep sites) (sw.is_live (Some n) s.env) _ _ (pend n e todo vs h) (stop NotLive todo vs h)

    pub raise_at : (v : Value) (e : Event) (todo : List Todo) (vs : List Value) → Named sites todo → NamedStep sites (polls.raise_at_step v e todo vs s)
    raise_at (Object o) e todo vs h = asked _ _ _ tt h
    raise_at v e todo vs h = pend_at (piece.exec_at v s.env) e todo vs h

    pub enables : (events cell : ℕ) (todo : List Todo) → Named sites todo → NamedStep sites (polls.enable_step events cell todo s)
    enables events cell todo h = go_in _ _ _ h (likes (write (piece.variable_at cell s) (Number (signed_64 s.env.links.enabled))) refl refl)

    quiet_poll : (o : Option Pending) (todo : List Todo) → Named sites todo → NamedStep sites (polls.quiet_poll o todo s)
    quiet_poll None todo h = go _ _ h
    quiet_poll (Some p) todo h = go_in _ _ _ (tt, h) (likes env refl refl)

    poll_by : (b : Bool) (todo : List Todo) → Named sites todo → NamedStep sites (polls.poll_by b todo s)
    poll_by true todo h = asked _ _ _ tt (tt, h)
    poll_by false todo h = quiet_poll (inside.oldest_enabled s.env.links) todo h

    pub poll : (todo : List Todo) → Named sites todo → NamedStep sites (polls.poll_step todo s)
    poll todo h = either (NamedStep sites) (nat_eq s.env.links.enabled 0) _ _ (go _ _ h) (poll_by (inside.is_own s.env) todo h)

    pub deliver : (v : Value) (todo : List Todo) → Named sites todo → NamedStep sites (polls.deliver_step v todo s)
    deliver Nothing todo h = go _ _ h
    deliver v todo h = go _ _ (tt, (tt, h))

    pub throws : (e : Event) (todo : List Todo) → Named sites todo → NamedStep sites (raising.throw_step e todo s)
    throws e todo h = record { run = (tt, h); callers = callers; env = env }

    handles : (f : Option Found) (e : Event) (todo : List Todo) → NamedFound f → Named sites todo → NamedStep sites (raising.handle_step f e todo s)
    handles None e todo n h = throws e todo h
    handles (Some f) e todo n h = record { run = handled f.handler [] n tt; callers = ((tt, h), callers); env = likes env refl refl }

    pub raises : (e : Event) (todo : List Todo) → Named sites todo → NamedStep sites (raising.raise_step e todo s)
    raises e todo h =
        let round : List Active = (record s.run { control = todo }) ∷ s.callers in
        handles (raising.seek None e round) e todo (seek None e round (h, callers)) h

    -- unwinding

    catches : (o : Option Handler) (e : Event) (todo : List Todo) → NamedHandler o → Named sites todo → NamedStep sites (raising.catch_step o e todo s)
    catches None e todo n h = go _ _ (tt, h)
    catches (Some x) e todo n h = record { run = handled x todo n h; callers = callers; env = env }

    guarded : (hs : Handlers) (o : Option UnwindReason) (todo : List Todo) → NamedHandlers sites hs → Named sites todo → NamedStep sites (raising.guard_left hs o todo s)
    guarded hs (Some (reason.Event n x y)) todo k h =
        catches _ _ todo (handler_for false (record { number = n; x = x; y = y }) hs k) h
    guarded hs o todo k h = go _ _ (tt, h)

    whole : (b : Bool) (todo : List Todo) → Named sites todo → NamedStep sites (raising.whole_left b todo s)
    whole true todo h = record { run = h; callers = callers; env = env }
    whole false todo h = go _ _ (tt, h)

    scope : (c : CleanUp) (b : Bool) (todo : List Todo) → NamedClean c → Named sites todo → NamedStep sites (raising.scope_left c b todo s)
    scope src.Leaves true todo n h = record { run = (tt, (tt, h)); callers = callers; env = env }
    scope c b todo n h = go (raising.left_todo c (piece.Unwind ∷ todo)) [] (left_cleans c (piece.Unwind ∷ todo) n (tt, h))

    main_left : (o : Option UnwindReason) (todo : List Todo) → Named sites todo → NamedStep sites (raising.main_left o todo s)
    main_left (Some (reason.ReturnTo n)) todo h = record { run = (tt, h); callers = callers; env = env }
    main_left o todo h = stop Unhandled todo [] h

    coroutine_left : (o : Option UnwindReason) (todo : List Todo) → Named sites todo → NamedStep sites (raising.coroutine_left o todo s)
    coroutine_left (Some (reason.ReturnTo n)) todo h = record { run = (tt, h); callers = callers; env = env }
    coroutine_left (Some reason.Destroyed) todo h = moved _ todo _ h (kept.taken_down_rests (NamedActive sites) (NamedActive sites) calm (at todo [] s) (go todo [] h))
    coroutine_left o todo h = moved _ todo _ h (kept.escape_rests (NamedActive sites) (NamedActive sites) calm (at todo [] s) (go todo [] h))

    unwind_past : (k : Sort) (todo : List Todo) → NamedSort k → Named sites todo → NamedStep sites (raising.unwind_past k todo s)
    unwind_past piece.Simple todo n h = go _ _ (tt, h)
    unwind_past (piece.IsLoop o t e b) todo n h = go _ _ (tt, h)
    unwind_past piece.IsWhole todo n h = whole _ todo h
    unwind_past (piece.IsClean c) todo n h = scope c _ todo n h
    unwind_past (piece.IsFill m b d) todo n h = go _ _ (n.1, (tt, h))
    unwind_past (piece.IsSweep e) todo n h = go _ _ (n, (tt, h))
    unwind_past (piece.IsPart c) todo n h = go _ _ (cleans c _ n (tt, h))
    unwind_past (piece.IsGuard hs) todo n h = guarded hs s.run.raised todo n h
    unwind_past piece.IsFinish todo n h = main_left s.run.raised todo h
    unwind_past piece.IsFinishCoroutine todo n h = coroutine_left s.run.raised todo h

    pass_on : (o : Option UnwindReason) (c : Active) (cs : List Active) → Named sites c.control → AllWait (NamedActive sites) (NamedActive sites) cs → Named sites s.run.control → NamedStep sites (raising.pass_on o c cs s)
    pass_on None c cs a b h = record { state = record { run = h; callers = callers; env = env }; names = tt }
    pass_on (Some why) c cs a b h = record { run = (tt, a); callers = b; env = likes env refl refl }

    leave_for : (b : Bool) (c : Active) (cs : List Active) → Named sites c.control → AllWait (NamedActive sites) (NamedActive sites) cs → Named sites s.run.control → NamedStep sites (raising.leave_for b c cs s)
    leave_for true c cs a b h = record { state = record { run = h; callers = callers; env = env }; names = tt }
    leave_for false c cs a b h = pass_on s.run.raised c cs a b h

    leaves : (cs : List Active) → AllWait (NamedActive sites) (NamedActive sites) cs → Named sites s.run.control → NamedStep sites (raising.leave_step cs s)
    leaves [] c h = record { state = record { run = h; callers = callers; env = env }; names = tt }
    leaves (c ∷ cs) p h =
        either (NamedStep sites) (raising.arrives s.run.raised (length (c ∷ cs))) _ _ (returned s.run.result (c ∷ cs) p h) (leave_for _ c cs p.0 p.1 h)

    pub unwinds : (todo : List Todo) → Named sites todo → Named sites s.run.control → NamedStep sites (raising.unwind_step todo s)
    unwinds [] h c = leaves s.callers callers c
    unwinds (p ∷ ps) h c = unwind_past (piece.sort p) ps (sorted p h.0) h.1

    -- printing

    pub prints : (o : Option (List Piece)) (p : Piece) (todo : List Todo) (vs : List Value) → Named sites todo → NamedStep sites (piece.print_step o p todo vs s)
    prints None p todo vs h = asked _ _ _ tt h
    prints (Some ps) p todo vs h = go_in _ _ _ h (likes env refl refl)

    pub flushes : (o : Option (List Piece)) (todo : List Todo) (vs : List Value) → Named sites todo → NamedStep sites (piece.flush_step o todo vs s)
    flushes None todo vs h = go _ _ h
    flushes (Some []) todo vs h = go_in _ _ _ h (likes env refl refl)
    flushes (Some (p ∷ ps)) todo vs h = asked_in _ _ _ _ tt h (likes env refl refl)

-- A quiet step of a state that keeps to its rooms leads to one.
use Rattle.std.proofs.Common.{◌≡◌, ℕ, zero, suc, ◌≤◌, inl, inr, ◌++◌, Bool, true, false, ◌&&◌, List, [], ◌∷◌, length, drop, Option, Some, None, refl, arith}
use Rattle.std.specs.Prelude.{nat_eq, nat_lt}
use Rattle.uc_tree.specs.declared.limits.TheConstants.{CALLS, PENDING_EVENTS}
use Rattle.uc_tree.specs.Source as src
use Rattle.uc_tree.specs.Source.{Shape, Expr, ObjectExpr, Stmt, Stmts, EventStmt, TaskStmt, Routine, Purpose, Order, Way, CleanUp, Handlers, Clauses, Raised, Item, Declared}
use Rattle.uc_entry.specs.declared.fault.RunFault.{RunFault}
use Rattle.uc_entry.specs.declared.fault.RunFault.TheVariants.{Index, Depth, BlockedInside, TooManyPending, NotLive, Unhandled}
use Rattle.uc_entry.specs.declared.request.Piece.{Piece}
use Rattle.uc_entry.specs.declared.request.Request.TheVariants as ask
use Rattle.uc_entry.specs.Keyed.{find, signed_64}
use Rattle.uc_machine.specs.declared.exec.Exec.{Exec}
use Rattle.uc_machine.specs.declared.exec.Pending.{Pending}
use Rattle.uc_machine.specs.declared.exec.UnwindReason.{UnwindReason}
use Rattle.uc_machine.specs.declared.exec.UnwindReason.TheVariants as reason
use Rattle.uc_machine.specs.declared.exec.Visited.{Visited}
use Rattle.uc_machine.specs.Switches as sw
use Rattle.uc_machine.specs.Switches.{Moved, To, Stops}
use Rattle.uc_machine.specs.Insides as inside
use Rattle.uc_machine.specs.Raising as raising
use Rattle.uc_machine.specs.Raising.{Event, Handler, Found, Hit}
use Rattle.uc_machine.specs.Monitors as monitors
use Rattle.uc_machine.specs.Polls as polls
use Rattle.uc_machine.specs.Quiet as quiet
use Rattle.uc_machine.specs.Pieces as piece
use Rattle.uc_machine.specs.Pieces.{Value, Number, Place, Running, Object, Nothing, Todo, Sort, Active, State, Env, Members, Step, Goes, Ticks, Asks, Outcome, Gives, Faults, at, in_env, goes, fault, asks, turns, top, below, number, is_zero, written}
use Rattle.uc_site_laws.proofs.Kept.{either}
use Rattle.uc_site_laws.proofs.Kept as kept
use Rattle.uc_site_laws.specs.Resting.{AllWait, RestsEnv}
use Rattle.uc_state_laws.specs.Ordinary.{Ordinary, OrdinaryMaybe, OrdinaryItem, Evaluated}
use Rattle.uc_state_laws.specs.Rooms.{Room, IsRoom, IsWithin, Clears, Holds, OwnPart, RaisedIn, StmtIn, StmtsIn, EventIn, TaskIn, HandlersIn, ClausesIn, RoutineIn, MaybeRoutineIn}
use Rattle.uc_state_laws.specs.RoomStates.{PieceIn, Reached, TodoIn, SomeRoom, RoomActive, RoomState, RoomStep, IsBefore, AllBefore}
use Rattle.uc_state_laws.proofs.RoomLemmas.{new_ordinary, ordinary_evaluated, given_evaluated, within_both, within_room, single_evaluated, counted_evaluated, own_evaluated, all_own_evaluated, lies_wider, stmts_wider}

module _ (Sized : ℕ → ℕ → Type 0) where
  abbrev pub A : Active → Type 0
  A a = RoomActive Sized a

  abbrev pub E : Env → Type 0
  E e = RestsEnv (RoomActive Sized) (RoomActive Sized) e

  abbrev pub W : List Active → Type 0
  W cs = AllWait (RoomActive Sized) (RoomActive Sized) cs

  pub calm : (a : Active) (w : Option UnwindReason) → RoomActive Sized a → RoomActive Sized (record a { raised = w })
  calm a w h = h

  pub likes : {e f : Env} → RestsEnv (RoomActive Sized) (RoomActive Sized) e → f.hand ≡ e.hand → f.house ≡ e.house → RestsEnv (RoomActive Sized) (RoomActive Sized) f
  likes h g i = kept.like (RoomActive Sized) (RoomActive Sized) calm h g i

  abbrev pub Moves : Moved (List Todo) Value → Type 0
  Moves m = kept.RestsMoved (RoomActive Sized) (RoomActive Sized) calm m

  -- what is to do behind a piece

  abbrev By : Room → Sort → Type 0 → List Todo → Type 0
  By o k x ps = Reached Sized o k x (λ m. TodoIn Sized m ps)

  tail_by : (k : Sort) (x : Type 0) (o : Room) (ps : List Todo) → By o k x ps → SomeRoom Sized ps
  tail_by piece.Simple x o ps h = (o, h.1)
  tail_by (piece.IsLoop order t e b) x o ps h = (o, h.1)
  tail_by piece.IsWhole x o ps h = (o, h)
  tail_by (piece.IsClean c) x o ps h = (h.0, h.3)
  tail_by (piece.IsFill n b d) x o ps h = (o, h.1)
  tail_by (piece.IsSweep e) x o ps h = (o, h.1)
  tail_by (piece.IsPart c) x o ps h = (o, h.1)
  tail_by (piece.IsGuard hs) x o ps h = (h.0, h.6)
  tail_by piece.IsFinish x o ps h = (o, h)
  tail_by piece.IsFinishCoroutine x o ps h = (o, h)

  tail : (o : Room) (p : Todo) (ps : List Todo) → TodoIn Sized o (p ∷ ps) → SomeRoom Sized ps
  tail o p ps h = tail_by (piece.sort p) (PieceIn Sized o p) o ps h

  room_by : (k : Sort) (x : Type 0) (o : Room) (ps : List Todo) → ((m : Room) → TodoIn Sized m ps → IsRoom m) → By o k x ps → IsRoom o
  room_by piece.Simple x o ps f h = f o h.1
  room_by (piece.IsLoop order t e b) x o ps f h = f o h.1
  room_by piece.IsWhole x o ps f h = f o h
  room_by (piece.IsClean c) x o ps f h = within_room h.0 o (f h.0 h.3) h.1
  room_by (piece.IsFill n b d) x o ps f h = f o h.1
  room_by (piece.IsSweep e) x o ps f h = f o h.1
  room_by (piece.IsPart c) x o ps f h = f o h.1
  room_by (piece.IsGuard hs) x o ps f h = within_room h.0 o (f h.0 h.6) h.2
  room_by piece.IsFinish x o ps f h = f o h
  room_by piece.IsFinishCoroutine x o ps f h = f o h

  pub is_room : (o : Room) (todo : List Todo) → TodoIn Sized o todo → IsRoom o
  is_room o [] h = h
  is_room o (p ∷ ps) h = room_by (piece.sort p) (PieceIn Sized o p) o ps (λ m k. is_room m ps k) h

  -- objects in scope lie before a room

  before_by : (k : Sort) (x : Type 0) (o : Room) (ps : List Todo) (cell : ℕ) → o.low ≤ cell → ((m : Room) → m.low ≤ cell → TodoIn Sized m ps → AllBefore Sized cell ps) → By o k x ps → IsBefore Sized cell k × AllBefore Sized cell ps
  before_by piece.Simple x o ps cell le f h = (tt, f o le h.1)
  before_by (piece.IsLoop order t e b) x o ps cell le f h = (tt, f o le h.1)
  before_by piece.IsWhole x o ps cell le f h = (tt, f o le h)
  before_by (piece.IsClean c) x o ps cell le f h =
      let m : Room = h.0 in
      let w : IsWithin m o = h.1 in
      let low = w.low in
      (lies_wider Sized m.low o.low 0 cell c (omega arith) le h.2.0, f m (omega (arith, low, le)) h.3)
  before_by (piece.IsFill n b d) x o ps cell le f h = (tt, f o le h.1)
  before_by (piece.IsSweep e) x o ps cell le f h = (tt, f o le h.1)
  before_by (piece.IsPart c) x o ps cell le f h = (tt, f o le h.1)
  before_by (piece.IsGuard hs) x o ps cell le f h =
      let m : Room = h.0 in
      let w : IsWithin m o = h.2 in
      let low = w.low in
      (tt, f m (omega (arith, low, le)) h.6)
  before_by piece.IsFinish x o ps cell le f h = (tt, f o le h)
  before_by piece.IsFinishCoroutine x o ps cell le f h = (tt, f o le h)

  pub all_before : (o : Room) (todo : List Todo) (cell : ℕ) → o.low ≤ cell → TodoIn Sized o todo → AllBefore Sized cell todo
  all_before o [] cell le h = tt
  all_before o (p ∷ ps) cell le h = before_by (piece.sort p) (PieceIn Sized o p) o ps cell le (λ m l k. all_before m ps cell l k) h

  clears_before : (o : Room) (todo : List Todo) (k n : ℕ) → Clears o k n → TodoIn Sized o todo → AllBefore Sized k todo
  clears_before o todo k n (inl c) h = all_before o todo k c.0 h
  clears_before o todo k n (inr c) h =
      let r = is_room o todo h in
      let a = r.cells in
      let b = r.apart in
      let d = c.0 in
      all_before o todo k (omega (arith, a, b, d)) h

  pub cleared : (o : Room) (k n : ℕ) (todo : List Todo) → TodoIn Sized o (piece.ClearNow k n ∷ todo) → AllBefore Sized k todo
  cleared o k n todo h = clears_before o todo k n h.0 h.1

  -- what is to do in a routine

  behind : (o : Room) (p : Purpose) (line : ℕ) → IsRoom o → TodoIn Sized o (quiet.behind_body p line)
  behind o src.TaskMain line h = (tt, h)
  behind o src.CoroutineMain line h = (tt, h)
  behind o src.Procedure line h = (tt, h)
  behind o src.Function line h = (tt, (tt, h))
  behind o src.Builder line h = h

  pub routine : (r : Routine) → RoutineIn Sized r → SomeRoom Sized (quiet.routine_todo r)
  routine r h = (h.room, (h.body, behind h.room r.purpose r.line h.sound))

  -- handlers

  abbrev HandlerIn : Room → Option Handler → Type 0
  HandlerIn o None = Unit {0}
  HandlerIn o (Some x) = (m : Room) × IsWithin o m × StmtsIn Sized m x.body

  abbrev HitIn : Option Hit → Type 0
  HitIn None = Unit {0}
  HitIn (Some x) = (m : Room) × IsRoom m × StmtsIn Sized m x.handler.body

  abbrev FoundIn : Option Found → Type 0
  FoundIn None = Unit {0}
  FoundIn (Some x) = (m : Room) × IsRoom m × StmtsIn Sized m x.handler.body

  handler_for : (o : Room) (kind : Bool) (e : Event) (hs : Handlers) → HandlersIn Sized o hs → HandlerIn o (raising.handler_for kind e hs)
  handler_for o kind e src.NoHandlers h = tt
  handler_for o kind e (src.MoreHandlers resumes event cell line body rest) h =
      either (HandlerIn o) (raising.same_kind kind resumes && raising.takes event e) (Some (record { cell = cell; line = line; body = body })) (raising.handler_for kind e rest) (h.0, h.1, h.4) (handler_for o kind e rest h.5)

  hit_or : (o : Room) (x : Option Handler) (n : ℕ) (other : Option Hit) → IsRoom o → HandlerIn o x → HitIn other → HitIn (raising.hit_or x n other)
  hit_or o None n other r h k = k
  hit_or o (Some x) n other r h k = (h.0, within_room o h.0 r h.1, h.2)

  hit_by : (k : Sort) (x : Type 0) (o : Room) (ps : List Todo) (n : ℕ) (e : Event) (other : Option Hit) → By o k x ps → HitIn other → HitIn (raising.hit_by k n e other)
  hit_by (piece.IsGuard hs) x o ps n e other h k =
      let m : Room = h.0 in
      let g : Room = h.1 in
      hit_or g (raising.handler_for true e hs) n other (within_room m g (is_room m ps h.6) h.3) (handler_for g true e hs h.5) k
  hit_by s x o ps n e other h k = k

  hit_in : (e : Event) (o : Room) (todo : List Todo) → TodoIn Sized o todo → HitIn (raising.hit_in e todo)
  hit_in e o [] h = tt
  hit_in e o (p ∷ ps) h =
      let t : SomeRoom Sized ps = tail o p ps h in
      hit_by (piece.sort p) (PieceIn Sized o p) o ps (raising.count_round ps) e (raising.hit_in e ps) h (hit_in e t.0 ps t.1)

  within : (n : ℕ) (o : Room) (todo : List Todo) → TodoIn Sized o todo → SomeRoom Sized (raising.within n todo)
  within n o [] h = (o, h)
  within n o (p ∷ ps) h =
      let t : SomeRoom Sized ps = tail o p ps h in
      either (SomeRoom Sized) (nat_eq (raising.count_round (p ∷ ps)) n) (p ∷ ps) (raising.within n ps) (o, h) (within n t.0 ps t.1)

  found_or : (x : Option Hit) (a : Active) (cs : List Active) (other : Option Found) → HitIn x → FoundIn other → FoundIn (raising.found_or x a cs other)
  found_or None a cs other h k = k
  found_or (Some x) a cs other h k = h

  some_hit : (e : Event) (todo : List Todo) → SomeRoom Sized todo → HitIn (raising.hit_in e todo)
  some_hit e todo h = hit_in e h.0 todo h.1

  some_within : (n : ℕ) (todo : List Todo) → SomeRoom Sized todo → SomeRoom Sized (raising.within n todo)
  some_within n todo h = within n h.0 todo h.1

  seek : (v : Option Visited) (e : Event) (cs : List Active) → AllWait (RoomActive Sized) (RoomActive Sized) cs → FoundIn (raising.seek v e cs)
  seek None e [] h = tt
  seek (Some v) e [] h = tt
  seek None e (a ∷ cs) h = found_or (raising.hit_in e a.control) a cs (raising.seek a.handles e cs) (some_hit e a.control h.0) (seek a.handles e cs h.1)
  seek (Some v) e (a ∷ cs) h =
      either FoundIn (nat_eq (length cs) v.level) (raising.found_or (raising.hit_in e (raising.within v.rest a.control)) a cs (raising.seek a.handles e cs)) (raising.seek (Some v) e cs) (found_or (raising.hit_in e (raising.within v.rest a.control)) a cs (raising.seek a.handles e cs) (some_hit e (raising.within v.rest a.control) (some_within v.rest a.control h.0)) (seek a.handles e cs h.1)) (seek (Some v) e cs h.1)

  -- to-do lists

  pub eva : (o : Room) (e : Expr) → Ordinary e → Evaluated o.low e
  eva o e h = ordinary_evaluated o.low e h

  pub starts : (o : Room) (cell : ℕ) (v : Option Expr) (todo : List Todo) → OrdinaryMaybe v → TodoIn Sized o todo → TodoIn Sized o (quiet.starting cell v todo)
  starts o cell None todo n h = h
  starts o cell (Some e) todo n h = (tt, (eva o e n, (tt, h)))

  converts : (o : Room) (k : Shape) (todo : List Todo) → TodoIn Sized o todo → TodoIn Sized o (quiet.converting k todo)
  converts o src.Character todo h = (tt, h)
  converts o src.Truth todo h = (tt, h)
  converts o k todo h = h

  pub stepped : (o : Room) (e : Option Expr) (todo : List Todo) → OrdinaryMaybe e → TodoIn Sized o todo → TodoIn Sized o (quiet.step_todo e todo)
  stepped o None todo n h = h
  stepped o (Some e) todo n h = (eva o e n, (tt, h))

  abbrev LoopIn : Room → Expr → Option Expr → Stmt → Type 0
  LoopIn o t e b = Ordinary t × OrdinaryMaybe e × StmtIn Sized o b

  pub tested : (o : Room) (order : Order) (t : Expr) (e : Option Expr) (b : Stmt) (todo : List Todo) → LoopIn o t e b → TodoIn Sized o todo → TodoIn Sized o (quiet.test_todo order t e b todo)
  tested o src.TestFirst t e b todo n h = (eva o t n.0, (n, h))
  tested o src.BodyFirst t e b todo n h = (eva o t n.0, (n, h))
  tested o src.NoTest t e b todo n h = (n, h)

  looped : (o : Room) (order : Order) (t : Expr) (e : Option Expr) (b : Stmt) (todo : List Todo) → LoopIn o t e b → TodoIn Sized o todo → TodoIn Sized o (quiet.loop_todo order t e b todo)
  looped o src.TestFirst t e b todo n h = (eva o t n.0, (n, h))
  looped o src.BodyFirst t e b todo n h = (n, h)
  looped o src.NoTest t e b todo n h = (n, h)

  loop_left : (w : Way) (o : Room) (order : Order) (t : Expr) (e : Option Expr) (b : Stmt) (todo : List Todo) → LoopIn o t e b → TodoIn Sized o todo → TodoIn Sized o (quiet.loop_left w order t e b todo)
  loop_left src.ToBreak o order t e b todo n h = h
  loop_left src.ToContinue o order t e b todo n h = (n, h)
  loop_left src.ToReturn o order t e b todo n h = (tt, h)
  loop_left src.ToEnd o order t e b todo n h = (tt, h)

  left_behind : (w : Way) (k : Sort) (x : Type 0) (o : Room) (todo : List Todo) → By o k x todo → SomeRoom Sized (quiet.left_behind w k todo)
  left_behind w piece.Simple x o todo h = (o, (tt, h.1))
  left_behind w (piece.IsLoop order t e b) x o todo h = (o, loop_left w o order t e b todo h.0 h.1)
  left_behind w piece.IsWhole x o todo h = (o, h)
  left_behind w (piece.IsClean c) x o todo h = (o, (h.0, h.1, h.2, (tt, h.3)))
  left_behind w (piece.IsFill m b d) x o todo h = (o, (tt, h.1))
  left_behind w (piece.IsSweep e) x o todo h = (o, (tt, h.1))
  left_behind w (piece.IsPart c) x o todo h = (o, (tt, h.1))
  left_behind w (piece.IsGuard hs) x o todo h = (h.0, (tt, h.6))
  left_behind w piece.IsFinish x o todo h = (o, h)
  left_behind w piece.IsFinishCoroutine x o todo h = (o, h)

  pub filled : (o : Room) (b : Bool) (n : ℕ) (e d : Expr) (todo : List Todo) → Evaluated o.low e × Evaluated o.low d → TodoIn Sized o todo → TodoIn Sized o (quiet.fill_todo b n e d todo)
  filled o false n e d todo k h = h
  filled o true n e d todo k h = (k.0, (tt, (tt, (k, h))))

  raised : (o : Room) (r : Raised) (todo : List Todo) → RaisedIn Sized o r → TodoIn Sized o todo → TodoIn Sized o (raising.raised_todo r todo)
  raised o (src.Plainly n) todo k h = (tt, (tt, (tt, h)))
  raised o (src.BuiltAt n c e) todo k h = (inr (k.0, k.1), (eva o e k.2, (tt, (tt, (tt, (tt, h))))))
  raised o (src.AgainFrom c) todo k h = (tt, (tt, (tt, h)))

  handled : (o : Room) (x : Handler) (todo : List Todo) → StmtsIn Sized o x.body → TodoIn Sized o todo → TodoIn Sized o (raising.handler_todo x todo)
  handled o x todo k h = (tt, (tt, (tt, (tt, (tt, (tt, (k, (tt, h))))))))

  pub cleans : (m o : Room) (c : CleanUp) (todo : List Todo) → Holds Sized m o c → TodoIn Sized m todo → TodoIn Sized m (piece.clean_todo c todo)
  cleans m o (src.Destroys e) todo n h = (single_evaluated Sized m.low o.low m.low e n.0, (tt, h))
  cleans m o (src.DestroysAll k e) todo n h = (tt, (counted_evaluated Sized m.low o.low k m.low e n.0, h))
  cleans m o src.Unwinds todo n h = (tt, h)
  cleans m o src.Forgets todo n h = (tt, h)
  cleans m o src.Leaves todo n h = (tt, h)
  cleans m o src.Ends todo n h = (tt, h)
  cleans m o (src.Frees None) todo n h = (tt, h)
  cleans m o (src.Frees (Some r)) todo n h = (tt, h)
  cleans m o (src.Restores k) todo n h = (tt, h)

  parts : (o : Room) (c : CleanUp) (todo : List Todo) → OwnPart Sized c → TodoIn Sized o todo → TodoIn Sized o (piece.clean_todo c todo)
  parts o (src.Destroys e) todo n h = (own_evaluated Sized o.low e n, (tt, h))
  parts o (src.DestroysAll k e) todo n h = (tt, (all_own_evaluated Sized k o.low e n, h))
  parts o src.Unwinds todo n h = (tt, h)
  parts o src.Forgets todo n h = (tt, h)
  parts o src.Leaves todo n h = (tt, h)
  parts o src.Ends todo n h = (tt, h)
  parts o (src.Frees None) todo n h = (tt, h)
  parts o (src.Frees (Some r)) todo n h = (tt, h)
  parts o (src.Restores k) todo n h = (tt, h)

  left_cleans : (m o : Room) (c : CleanUp) (todo : List Todo) → Holds Sized m o c → TodoIn Sized m todo → TodoIn Sized m (raising.left_todo c todo)
  left_cleans m o (src.Frees r) todo n h = (tt, h)
  left_cleans m o c todo n h = cleans m o c todo n h

  pub branch : (o : Room) (k : ℕ) (cs : Clauses) (todo : List Todo) → ClausesIn Sized o cs → TodoIn Sized o todo → TodoIn Sized o (monitors.branch_todo k cs todo)
  branch o k src.NoClauses todo n h = h
  branch o k (src.Otherwise b) todo n h = either (TodoIn Sized o) (nat_eq k 0) (piece.Do b ∷ todo) todo (n, h) h
  branch o zero (src.MoreClauses guard b cs) todo n h = branch o zero cs todo n.2 h
  branch o (suc zero) (src.MoreClauses guard b cs) todo n h = (n.1, h)
  branch o (suc (suc k)) (src.MoreClauses guard b cs) todo n h = branch o (suc k) cs todo n.2 h

  pub item : (o : Room) (i : Item) (todo : List Todo) → OrdinaryItem i → TodoIn Sized o todo → TodoIn Sized o (quiet.item_todo i todo)
  item o (src.Show f e) todo n h = (eva o e n, (tt, h))
  item o (src.ShowText k) todo n h = (tt, h)

  pub item_value : (o : Room) (i : Item) (todo : List Todo) → OrdinaryItem i → TodoIn Sized o todo → TodoIn Sized o (quiet.item_value i todo)
  item_value o (src.Show f e) todo n h = (eva o e n, h)
  item_value o (src.ShowText k) todo n h = h

  pub item_piece : (o : Room) (i : Item) (todo : List Todo) → TodoIn Sized o todo → TodoIn Sized o (quiet.item_piece i ∷ todo)
  item_piece o (src.Show f e) todo h = (tt, h)
  item_piece o (src.ShowText k) todo h = (tt, h)

  polled : (o : Room) (w : Option UnwindReason) (todo : List Todo) → TodoIn Sized o todo → TodoIn Sized o (monitors.leave_todo w todo)
  polled o None todo h = (tt, h)
  polled o (Some why) todo h = h

  module _ (s : State) (callers : AllWait (RoomActive Sized) (RoomActive Sized) s.callers) (env : RestsEnv (RoomActive Sized) (RoomActive Sized) s.env) where
    -- with other operands and something else to do
    pub some : (todo : List Todo) (vs : List Value) → SomeRoom Sized todo → RoomState Sized (at todo vs s)
    some todo vs h = record { run = h; callers = callers; env = env }

    pub write : (p v : Value) → RestsEnv (RoomActive Sized) (RoomActive Sized) (written p v s.env)
    write p v = kept.written_rests (RoomActive Sized) (RoomActive Sized) calm p v s.env env

    -- the end of an activation
    pub returned : (given : Value) (cs : List Active) → AllWait (RoomActive Sized) (RoomActive Sized) cs → SomeRoom Sized s.run.control → RoomStep Sized (piece.return_step given cs s)
    returned given [] c h = record { run = h; callers = callers; env = env }
    returned given (a ∷ cs) c h = record { run = c.0; callers = c.1; env = likes env refl refl }

    -- unwinding begins in one that waits
    onwards : (todo : List Todo) → SomeRoom Sized todo → SomeRoom Sized (piece.Unwind ∷ todo)
    onwards todo h = (h.0, (tt, h.1))

    past : (v : Visited) (given : Value) (cs : List Active) → AllWait (RoomActive Sized) (RoomActive Sized) cs → SomeRoom Sized s.run.control → RoomStep Sized (raising.return_past v given cs s)
    past v given [] c h = record { run = h; callers = callers; env = env }
    past v given (a ∷ cs) c h = record { run = onwards a.control c.0; callers = c.1; env = likes env refl refl }

    end_by : (v : Option Visited) (given : Value) → SomeRoom Sized s.run.control → RoomStep Sized (raising.end_by v given s)
    end_by None given h = returned given s.callers callers h
    end_by (Some v) given h = past v given s.callers callers h

    end_step : (w : Way) → SomeRoom Sized s.run.control → RoomStep Sized (quiet.end_step w s)
    end_step src.ToReturn h = end_by s.run.handles _ h
    end_step src.ToEnd h = end_by s.run.handles _ h
    end_step src.ToBreak h = returned _ s.callers callers h
    end_step src.ToContinue h = returned _ s.callers callers h

    pass_on : (o : Option UnwindReason) (c : Active) (cs : List Active) → SomeRoom Sized c.control → AllWait (RoomActive Sized) (RoomActive Sized) cs → SomeRoom Sized s.run.control → RoomStep Sized (raising.pass_on o c cs s)
    pass_on None c cs a b h = record { run = h; callers = callers; env = env }
    pass_on (Some why) c cs a b h = record { run = onwards c.control a; callers = b; env = likes env refl refl }

    leave_for : (b : Bool) (c : Active) (cs : List Active) → SomeRoom Sized c.control → AllWait (RoomActive Sized) (RoomActive Sized) cs → SomeRoom Sized s.run.control → RoomStep Sized (raising.leave_for b c cs s)
    leave_for true c cs a b h = record { run = h; callers = callers; env = env }
    leave_for false c cs a b h = pass_on s.run.raised c cs a b h

    leaves : (cs : List Active) → AllWait (RoomActive Sized) (RoomActive Sized) cs → SomeRoom Sized s.run.control → RoomStep Sized (raising.leave_step cs s)
    leaves [] c h = record { run = h; callers = callers; env = env }
    leaves (c ∷ cs) p h =
        either (RoomStep Sized) (raising.arrives s.run.raised (length (c ∷ cs))) _ _ (returned s.run.result (c ∷ cs) p h) (leave_for _ c cs p.0 p.1 h)

    -- what is to do keeps to this room
    module _ (o : Room) where
      pub go : (todo : List Todo) (vs : List Value) → TodoIn Sized o todo → RoomState Sized (at todo vs s)
      go todo vs h = some todo vs (o, h)

      -- and with something written
      pub go_in : (todo : List Todo) (vs : List Value) (e : Env) → TodoIn Sized o todo → RestsEnv (RoomActive Sized) (RoomActive Sized) e → RoomState Sized (at todo vs (in_env e s))
      go_in todo vs e h i = record { run = (o, h); callers = callers; env = i }

      pub stop : (f : RunFault) (todo : List Todo) (vs : List Value) → TodoIn Sized o todo → RoomStep Sized (fault f todo vs s)
      stop f todo vs h = go todo vs h

      pub moved : (m : Moved (List Todo) Value) (todo : List Todo) (vs : List Value) → TodoIn Sized o todo → Moves m → RoomStep Sized (piece.moves m (at todo vs s))
      moved (To t) todo vs h m = m
      moved (Stops f) todo vs h m = go todo vs h

      pub outcome : (x : Outcome) (todo : List Todo) (vs : List Value) → TodoIn Sized o todo → RoomStep Sized (piece.outcome_step x todo vs s)
      outcome (Gives n) todo vs h = go todo _ h
      outcome (Faults f) todo vs h = stop f todo vs h

      pub element : (k : Shape) (i : Option ℕ) (todo : List Todo) (v : Value) (vs : List Value) → TodoIn Sized o todo → RoomStep Sized (piece.element_step k i todo v vs s)
      element k None todo v vs h = stop Index todo vs h
      element k (Some i) todo v vs h = go todo _ h

      -- expressions

      object : (x : ObjectExpr) (todo : List Todo) → Evaluated o.low (src.OfObject x) → TodoIn Sized o todo → RoomStep Sized (quiet.object_step x todo s)
      object src.This todo n h = go _ _ h
      object (src.OwnField k i) todo n h = go _ _ h
      object (src.GetOwn k i) todo n h = go _ _ h
      object (src.FieldOf k i a) todo n h = go _ _ (eva o a n, (tt, h))
      object src.Counted todo n h = go _ _ h
      object (src.CallOn r a args) todo n h = go _ _ (eva o a n.0, (n.1, (tt, (tt, h))))
      object (src.CallLive r a args) todo n h = go _ _ (eva o a n.0, (n.1, (tt, (tt, (tt, h)))))
      object (src.CallUnwritten r a) todo n h = go _ _ (eva o a n, (tt, h))
      object (src.EnterOn m r a args) todo n h = go _ _ (eva o a n.0, (n.1, (tt, (tt, (tt, h)))))
      object (src.EndOn r false a) todo n h = go _ _ (eva o a n, (tt, (tt, h)))
      object (src.EndOn r true a) todo n h = go _ _ (eva o a n, (tt, (tt, (tt, h))))
      object (src.Bind a b) todo n h = go _ _ (eva o a (new_ordinary o.low a n.0), (given_evaluated o.low a b n.1, (tt, h)))
      object (src.MakeOn c r false a args) todo n h = go _ _ (eva o a (new_ordinary o.low a n.0), (n.1, (tt, (tt, h))))
      object (src.MakeOn c r true a args) todo n h = go _ _ (eva o a (new_ordinary o.low a n.0), (n.1, (tt, (tt, (tt, h)))))
      object src.NewCluster todo n h = go _ _ (tt, h)
      object (src.NewProcessor a) todo n h = go _ _ (eva o a n, (tt, h))
      object (src.EndCluster a) todo n h = go _ _ (eva o a n, (tt, h))
      object (src.EndProcessor a) todo n h = go _ _ (eva o a n, (tt, h))
      object (src.ConditionAt k m a) todo n h = go _ _ (eva o a n, (tt, h))
      object (src.Wait a b) todo n h = go _ _ (eva o a n.0, (eva o b n.1, (tt, (tt, h))))
      object (src.Signal a) todo n h = go _ _ (eva o a n, (tt, h))
      object (src.SignalBlock a) todo n h = go _ _ (eva o a n, (tt, h))
      object (src.IsEmpty a) todo n h = go _ _ (eva o a n, (tt, h))
      object (src.FrontOf a) todo n h = go _ _ (eva o a n, (tt, h))

      pub eval : (a : Expr) (todo : List Todo) → Evaluated o.low a → TodoIn Sized o todo → RoomStep Sized (quiet.eval_step a todo s)
      eval (src.Literal k) todo n h = go _ _ h
      eval (src.Variable k) todo n h = go _ _ h
      eval (src.Element m k a i) todo n h = go _ _ (eva o a n.0, (eva o i n.1, (tt, h)))
      eval (src.Get k) todo n h = go _ _ h
      eval (src.Load a) todo n h = go _ _ (eva o a n, (tt, h))
      eval (src.Negated a) todo n h = go _ _ (eva o a n, (tt, h))
      eval (src.Not a) todo n h = go _ _ (eva o a n, (tt, h))
      eval (src.AsCharacter a) todo n h = go _ _ (eva o a n, (tt, h))
      eval (src.AsTruth a) todo n h = go _ _ (eva o a n, (tt, h))
      eval (src.Operate op a b) todo n h = go _ _ (eva o a n.0, (eva o b n.1, (tt, h)))
      eval (src.And a b) todo n h = go _ _ (eva o a n.0, ((n.1, tt), h))
      eval (src.Or a b) todo n h = go _ _ (eva o a n.0, ((tt, n.1), h))
      eval (src.Set k a) todo n h = go _ _ (eva o a n, (tt, h))
      eval (src.Assign p a) todo n h = go _ _ (eva o p n.0, (eva o a n.1, (tt, h)))
      eval (src.First a b) todo n h = go _ _ (eva o a n.0, (eva o b n.1, (tt, h)))
      eval (src.Update op k p a) todo n h = go _ _ (eva o p n.0, (tt, (tt, (eva o a n.1, (tt, converts o k _ (tt, h))))))
      eval (src.StepBehind op k p) todo n h = go _ _ (eva o p n, (tt, (tt, (tt, (tt, (tt, (tt, converts o k _ (tt, (tt, h)))))))))
      eval src.Fail todo n h = go _ _ h
      eval (src.Call r args) todo n h = go _ _ (n, (tt, (tt, h)))
      eval (src.OfObject x) todo n h = object x todo n h

      -- statements

      pub swept : (n : ℕ) (e : Expr) (todo : List Todo) → Evaluated o.low e → TodoIn Sized o todo → RoomStep Sized (quiet.sweep_step n e todo s)
      swept zero e todo n h = go _ _ h
      swept (suc m) e todo n h = record { run = (o, (n, (tt, (n, h)))); callers = callers; env = env }

      raise_at_step : (r : Raised) (a : Expr) (line : ℕ) (todo : List Todo) → RaisedIn Sized o r → Ordinary a → TodoIn Sized o todo → TodoIn Sized o (raising.raised_todo r (piece.Eval a ∷ (piece.RaiseAtNow ∷ (piece.Within line ∷ todo))))
      raise_at_step r a line todo n k h = raised o r _ n (eva o a k, (tt, (tt, h)))

      event_step : (a : EventStmt) (todo : List Todo) → EventIn Sized o a → TodoIn Sized o todo → RoomStep Sized (quiet.event_step a todo s)
      event_step (src.Throw line r) todo n h = go _ _ (raised o r _ n (tt, (tt, h)))
      event_step (src.Raise line r) todo n h = go _ _ (raised o r _ n (tt, (tt, h)))
      event_step (src.Try line body hs) todo n h = some _ _ (n.0, (n.5, (o, n.1, n.2, n.3, n.4, n.6, (tt, h))))
      event_step (src.RaiseAt line r a) todo n h = go _ _ (raise_at_step r a line todo n.0 n.1 h)
      event_step (src.Enable line events cell a) todo n h = some _ _ (n.0, (tt, (tt, (n.3, (o, n.1, (tt, n.2), (tt, h))))))
      event_step (src.Disable line events cell a) todo n h = some _ _ (n.0, (tt, (n.3, (o, n.1, (tt, n.2), (tt, h)))))

      task_step : (a : TaskStmt) (todo : List Todo) → TaskIn Sized o a → TodoIn Sized o todo → RoomStep Sized (quiet.task_step a todo s)
      task_step (src.Resume line) todo n h = go _ _ (tt, (tt, (tt, h)))
      task_step (src.Suspend line) todo n h = go _ _ (tt, (tt, (tt, h)))
      task_step (src.SetUp r) todo n h = go _ _ (tt, h)
      task_step src.Enliven todo n h = go _ _ (tt, h)
      task_step src.TakeDown todo n h = go _ _ (tt, h)
      task_step (src.Yield line) todo n h = go _ _ (tt, (tt, (tt, h)))
      task_step (src.Migrate line a) todo n h = go _ _ (eva o a n, (tt, (tt, h)))
      task_step (src.Accept line site cs) todo n h = go _ _ (n, (tt, (n, (tt, h))))

      pub stmt : (a : Stmt) (todo : List Todo) → StmtIn Sized o a → TodoIn Sized o todo → RoomStep Sized (quiet.stmt_step a todo s)
      stmt (src.Skip line) todo n h = go _ _ h
      stmt (src.Block line body) todo n h = go _ _ (n.0, (tt, h))
      stmt (src.Whole line body) todo n h = go _ _ (n.0, (tt, h))
      stmt (src.Evaluate line a) todo n h = go _ _ (n, (tt, (tt, h)))
      stmt (src.Declare line ds) todo n h = go _ _ (n, (tt, h))
      stmt (src.Print line items) todo n h = go _ _ (n, (tt, h))
      stmt (src.PrintTogether line items) todo n h = go _ _ (n, (tt, (n, (tt, (tt, h)))))
      stmt (src.Read line ts) todo n h = go _ _ (n, (tt, h))
      stmt (src.If line t a b) todo n h = go _ _ (eva o t n.0, ((n.1, n.2), (tt, h)))
      stmt (src.Loop line order t e b) todo n h = go _ _ (looped o order t e b _ n (tt, h))
      stmt (src.Break line) todo n h = go _ _ (tt, h)
      stmt (src.Continue line) todo n h = go _ _ (tt, h)
      stmt (src.Return line None) todo n h = go _ _ (tt, h)
      stmt (src.Return line (Some e)) todo n h = go _ _ (eva o e n, (tt, (tt, h)))
      stmt (src.Owes line) todo n h = go _ _ (tt, (tt, h))
      stmt (src.Fill line m b d) todo n h = go _ _ (tt, (n, (tt, h)))
      stmt (src.OfEvents a) todo n h = event_step a todo n h
      stmt (src.OfTasks a) todo n h = task_step a todo n h

      pub rest : (ss : Stmts) (todo : List Todo) → StmtsIn Sized o ss → TodoIn Sized o todo → RoomStep Sized (quiet.rest_step ss todo s)
      rest src.Nil todo n h = go _ _ h
      rest (src.Then a ss) todo n h = go _ _ (n.0, (n.1, h))
      rest (src.Scoped c ss) todo n h = some _ _ (n.0, (n.3, (o, n.1, n.2, h)))
      rest (src.Built c ss) todo n h = go _ _ (n.1, (n.0, h))

      -- calls

      begun : (r : Routine) (this : Value) (counts : Bool) (todo : List Todo) (vs : List Value) → RoutineIn Sized r → TodoIn Sized o todo → RoomStep Sized (quiet.begun_step r this counts todo vs s)
      begun r this counts todo vs n h = record { run = routine r n; callers = ((o, h), callers); env = likes env refl refl }

      ends : (todo : List Todo) (vs : List Value) → TodoIn Sized o todo → RoomStep Sized (Asks ask.End (at todo vs s))
      ends todo vs h = go todo vs h

      pub call : (r : Option Routine) (todo : List Todo) → MaybeRoutineIn Sized r → TodoIn Sized o todo → RoomStep Sized (quiet.call_step r todo s)
      call None todo n h = ends _ _ h
      call (Some r) todo n h = either (RoomStep Sized) (nat_lt s.env.links.calls CALLS) _ _ (begun r _ true todo _ n h) (stop Depth todo _ h)

      pub call_on : (r : Option Routine) (todo : List Todo) → MaybeRoutineIn Sized r → TodoIn Sized o todo → RoomStep Sized (quiet.call_on_step r todo s)
      call_on None todo n h = ends _ _ h
      call_on (Some r) todo n h = either (RoomStep Sized) (nat_lt s.env.links.calls CALLS) _ _ (begun r _ true todo _ n h) (stop Depth todo _ h)

      pub call_unwritten : (r : Option Routine) (todo : List Todo) → MaybeRoutineIn Sized r → TodoIn Sized o todo → RoomStep Sized (quiet.call_unwritten_step r todo s)
      call_unwritten None todo n h = ends _ _ h
      call_unwritten (Some r) todo n h = begun r _ false todo _ n h

      -- coroutines

      pub set_up : (r : Option Routine) (todo : List Todo) → MaybeRoutineIn Sized r → TodoIn Sized o todo → RoomStep Sized (quiet.set_up_step r todo s)
      set_up None todo n h = go _ _ h
      set_up (Some r) todo n h = go_in _ _ _ h (kept.written_rests (RoomActive Sized) (RoomActive Sized) calm s.run.this _ _ (kept.born_rests (RoomActive Sized) (RoomActive Sized) calm _ (quiet.fresh r s.run.this) s.env (record { run = routine r n; callers = tt }) env))

      pub live : (r : Option Routine) (todo : List Todo) → TodoIn Sized o todo → RoomStep Sized (quiet.live_step r todo s)
      live None todo h = ends _ _ h
      live (Some r) todo h = either (RoomStep Sized) (sw.is_live (piece.exec_at (top (drop r.params s.run.operands)) s.env) s.env) _ _ (go _ _ h) (stop NotLive todo _ h)

      pub land : (w : Option UnwindReason) (todo : List Todo) → TodoIn Sized o todo → RoomStep Sized (quiet.land_step w todo s)
      land None todo h = go _ _ h
      land (Some why) todo h = go _ _ (tt, h)

      -- mutex objects

      pub unless : (q : ℕ) (step : Step) (todo : List Todo) → TodoIn Sized o todo → RoomStep Sized step → RoomStep Sized (monitors.unless_held_up q step todo s)
      unless q step todo h k = either (RoomStep Sized) (inside.is_held_up q s.env) _ step (stop BlockedInside todo _ h) k

      enter_at : (d : Option ℕ) (q m : ℕ) (todo : List Todo) → TodoIn Sized o todo → RoomStep Sized (monitors.enter_at d q m todo s)
      enter_at (Some d) q m todo h = go_in _ _ _ h (likes env refl refl)
      enter_at None q m todo h = go_in _ _ _ h (likes env refl refl)

      pub enter : (m : ℕ) (r : Option Routine) (todo : List Todo) → TodoIn Sized o todo → RoomStep Sized (monitors.enter_step m r todo s)
      enter m None todo h = ends _ _ h
      enter m (Some r) todo h =
          let q = piece.object_in (top (drop r.params s.run.operands)) in
          either (RoomStep Sized) (monitors.may_call r.written s) _ _ (enter_at (find q s.env.depths) q m todo h) (stop Depth todo _ h)

      pub leave : (b : Bool) (q : ℕ) (todo : List Todo) → TodoIn Sized o todo → RoomStep Sized (monitors.leave_at b q todo s)
      leave false q todo h = go_in _ _ _ h (likes env refl refl)
      leave true q todo h =
          unless q _ todo h (record { run = (o, polled o s.run.raised todo h); callers = callers; env = likes env refl refl })

      pub make : (c k : ℕ) (r : Option Routine) (todo : List Todo) → TodoIn Sized o todo → RoomStep Sized (monitors.make_step c k r todo s)
      make c k None todo h = ends _ _ h
      make c k (Some r) todo h =
          either (RoomStep Sized) (monitors.may_call r.written s) _ _ (go_in _ _ _ (tt, h) (likes env refl refl)) (stop Depth todo _ h)

      pub bind : (r : Option Routine) (todo : List Todo) → TodoIn Sized o todo → RoomStep Sized (monitors.bind_step r todo s)
      bind None todo h = ends _ _ h
      bind (Some r) todo h = go_in _ _ _ h (write _ _)

      pub condition : (k : ℕ) (i : Option ℕ) (todo : List Todo) → TodoIn Sized o todo → RoomStep Sized (monitors.condition_step k i todo s)
      condition k None todo h = stop Index todo _ h
      condition k (Some i) todo h = go _ _ h

      pub accept_by : (mask q site : ℕ) (todo : List Todo) (vs : List Value) → TodoIn Sized o todo → RoomStep Sized (monitors.accept_by mask q site todo vs s)
      accept_by zero q site todo vs h = go _ _ h
      accept_by (suc mask) q site todo vs h = unless q _ todo h (go _ _ (tt, (tt, h)))

      pub failed : (b : Bool) (todo : List Todo) (vs : List Value) → TodoIn Sized o todo → RoomStep Sized (monitors.failed_step b todo vs s)
      failed true todo vs h = go _ _ h
      failed false todo vs h = go _ _ (tt, h)

      -- events

      pend : (n : Exec) (e : Event) (todo : List Todo) (vs : List Value) → TodoIn Sized o todo → RoomStep Sized (polls.pend_step n e todo vs s)
      pend n e todo vs h =
          either (RoomStep Sized) (nat_lt (length (inside.pending_at n s.env)) PENDING_EVENTS) _ _ (go_in _ _ _ h (kept.with_links_rests (RoomActive Sized) (RoomActive Sized) calm (λ l. record l { pending = l.pending ++ (record { event = e.number; x = e.x; y = e.y }) ∷ [] }) n s.env env)) (stop TooManyPending todo vs h)

      pend_at : (x : Option Exec) (e : Event) (todo : List Todo) (vs : List Value) → TodoIn Sized o todo → RoomStep Sized (polls.pend_at x e todo vs s)
      pend_at None e todo vs h = stop NotLive todo vs h
      pend_at (Some n) e todo vs h = either (RoomStep Sized) (sw.is_live (Some n) s.env) _ _ (pend n e todo vs h) (stop NotLive todo vs h)

      pub raise_at : (v : Value) (e : Event) (todo : List Todo) (vs : List Value) → TodoIn Sized o todo → RoomStep Sized (polls.raise_at_step v e todo vs s)
      raise_at (Object q) e todo vs h = go _ _ h
      raise_at v e todo vs h = pend_at (piece.exec_at v s.env) e todo vs h

      pub enables : (events cell : ℕ) (todo : List Todo) → TodoIn Sized o todo → RoomStep Sized (polls.enable_step events cell todo s)
      enables events cell todo h = go_in _ _ _ h (likes (write (piece.variable_at cell s) (Number (signed_64 s.env.links.enabled))) refl refl)

      quiet_poll : (x : Option Pending) (todo : List Todo) → TodoIn Sized o todo → RoomStep Sized (polls.quiet_poll x todo s)
      quiet_poll None todo h = go _ _ h
      quiet_poll (Some p) todo h = go_in _ _ _ (tt, h) (likes env refl refl)

      poll_by : (b : Bool) (todo : List Todo) → TodoIn Sized o todo → RoomStep Sized (polls.poll_by b todo s)
      poll_by true todo h = go _ _ (tt, h)
      poll_by false todo h = quiet_poll (inside.oldest_enabled s.env.links) todo h

      pub poll : (todo : List Todo) → TodoIn Sized o todo → RoomStep Sized (polls.poll_step todo s)
      poll todo h = either (RoomStep Sized) (nat_eq s.env.links.enabled 0) _ _ (go _ _ h) (poll_by (inside.is_own s.env) todo h)

      pub deliver : (v : Value) (todo : List Todo) → TodoIn Sized o todo → RoomStep Sized (polls.deliver_step v todo s)
      deliver Nothing todo h = go _ _ h
      deliver v todo h = go _ _ (tt, (tt, h))

      pub throws : (e : Event) (todo : List Todo) → TodoIn Sized o todo → RoomStep Sized (raising.throw_step e todo s)
      throws e todo h = record { run = (o, (tt, h)); callers = callers; env = env }

      handles : (f : Option Found) (e : Event) (todo : List Todo) → FoundIn f → TodoIn Sized o todo → RoomStep Sized (raising.handle_step f e todo s)
      handles None e todo n h = throws e todo h
      handles (Some f) e todo n h = record { run = (n.0, handled n.0 f.handler [] n.2 n.1); callers = ((o, (tt, h)), callers); env = likes env refl refl }

      pub raises : (e : Event) (todo : List Todo) → TodoIn Sized o todo → RoomStep Sized (raising.raise_step e todo s)
      raises e todo h =
          let round : List Active = (record s.run { control = todo }) ∷ s.callers in
          handles (raising.seek None e round) e todo (seek None e round ((o, h), callers)) h

      -- unwinding

      catches : (x : Option Handler) (g : Room) (e : Event) (todo : List Todo) → IsWithin o g → HandlerIn g x → TodoIn Sized o todo → RoomStep Sized (raising.catch_step x e todo s)
      catches None g e todo w n h = go _ _ (tt, h)
      catches (Some x) g e todo w n h =
          record { run = (o, handled o x todo (stmts_wider Sized o n.0 x.body (within_both o g n.0 w n.1) n.2) h); callers = callers; env = env }

      guarded : (hs : Handlers) (g : Room) (w : Option UnwindReason) (todo : List Todo) → IsWithin o g → HandlersIn Sized g hs → TodoIn Sized o todo → RoomStep Sized (raising.guard_left hs w todo s)
      guarded hs g (Some (reason.Event n x y)) todo i k h =
          catches _ g _ todo i (handler_for g false (record { number = n; x = x; y = y }) hs k) h
      guarded hs g w todo i k h = go _ _ (tt, h)

      whole : (b : Bool) (todo : List Todo) → TodoIn Sized o todo → RoomStep Sized (raising.whole_left b todo s)
      whole true todo h = record { run = (o, h); callers = callers; env = env }
      whole false todo h = go _ _ (tt, h)

      -- outwards of a scope
      scope : (inner : Room) (c : CleanUp) (b : Bool) (todo : List Todo) → Holds Sized o inner c → TodoIn Sized o todo → RoomStep Sized (raising.scope_left c b todo s)
      scope inner src.Leaves true todo n h = record { run = (o, (tt, (tt, h))); callers = callers; env = env }
      scope inner c b todo n h = go (raising.left_todo c (piece.Unwind ∷ todo)) [] (left_cleans o inner c (piece.Unwind ∷ todo) n (tt, h))

      main_left : (w : Option UnwindReason) (todo : List Todo) → TodoIn Sized o todo → RoomStep Sized (raising.main_left w todo s)
      main_left (Some (reason.ReturnTo n)) todo h = record { run = (o, h); callers = callers; env = env }
      main_left w todo h = stop Unhandled todo [] h

      coroutine_left : (w : Option UnwindReason) (todo : List Todo) → TodoIn Sized o todo → RoomStep Sized (raising.coroutine_left w todo s)
      coroutine_left (Some (reason.ReturnTo n)) todo h = record { run = (o, h); callers = callers; env = env }
      coroutine_left (Some reason.Destroyed) todo h = moved _ todo _ h (kept.taken_down_rests (RoomActive Sized) (RoomActive Sized) calm (at todo [] s) (go todo [] h))
      coroutine_left w todo h = moved _ todo _ h (kept.escape_rests (RoomActive Sized) (RoomActive Sized) calm (at todo [] s) (go todo [] h))

      -- printing

      pub prints : (x : Option (List Piece)) (p : Piece) (todo : List Todo) (vs : List Value) → TodoIn Sized o todo → RoomStep Sized (piece.print_step x p todo vs s)
      prints None p todo vs h = go _ _ h
      prints (Some ps) p todo vs h = go_in _ _ _ h (likes env refl refl)

      pub flushes : (x : Option (List Piece)) (todo : List Todo) (vs : List Value) → TodoIn Sized o todo → RoomStep Sized (piece.flush_step x todo vs s)
      flushes None todo vs h = go _ _ h
      flushes (Some []) todo vs h = go_in _ _ _ h (likes env refl refl)
      flushes (Some (p ∷ ps)) todo vs h = go_in _ _ _ h (likes env refl refl)

    pub exits : (w : Way) (todo : List Todo) → SomeRoom Sized todo → SomeRoom Sized s.run.control → RoomStep Sized (quiet.exit_step w todo s)
    exits w [] h c = end_step w c
    exits w (p ∷ ps) h c = some _ _ (left_behind w (piece.sort p) (PieceIn Sized h.0 p) h.0 ps h.1)

    unwind_past : (k : Sort) (x : Type 0) (o : Room) (todo : List Todo) → By o k x todo → RoomStep Sized (raising.unwind_past k todo s)
    unwind_past piece.Simple x o todo h = go o _ _ (tt, h.1)
    unwind_past (piece.IsLoop order t e b) x o todo h = go o _ _ (tt, h.1)
    unwind_past piece.IsWhole x o todo h = whole o _ todo h
    unwind_past (piece.IsClean c) x o todo h = scope h.0 o c _ todo h.2 h.3
    unwind_past (piece.IsFill m b d) x o todo h = go o _ _ (h.0.1, (tt, h.1))
    unwind_past (piece.IsSweep e) x o todo h = go o _ _ (h.0, (tt, h.1))
    unwind_past (piece.IsPart c) x o todo h = go o _ _ (parts o c _ h.0 (tt, h.1))
    unwind_past (piece.IsGuard hs) x o todo h = guarded h.0 hs h.1 s.run.raised todo h.3 h.5 h.6
    unwind_past piece.IsFinish x o todo h = main_left o s.run.raised todo h
    unwind_past piece.IsFinishCoroutine x o todo h = coroutine_left o s.run.raised todo h

    pub unwinds : (todo : List Todo) → SomeRoom Sized todo → SomeRoom Sized s.run.control → RoomStep Sized (raising.unwind_step todo s)
    unwinds [] h c = leaves s.callers callers c
    unwinds (p ∷ ps) h c = unwind_past (piece.sort p) (PieceIn Sized h.0 p) h.0 ps h.1

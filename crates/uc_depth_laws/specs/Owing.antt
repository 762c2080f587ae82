-- What a task owes the objects in which it is: each piece that lets go of the object of its activation is one mark, of which the activation
-- still has to leave that object once.
use Rattle.std.specs.Prelude.{◌≡◌, ℕ, suc, ◌+◌, ◌≤◌, ◌<◌, ◌⊎◌, ◌&&◌, List, [], ◌∷◌, length, drop, Option, Some, None, Bool, true, false, nat_eq, is_some, if◌then◌else◌}
use Rattle.uc_tree.specs.Source.{CleanUp, Stmts, Source, routine_of}
use Rattle.uc_entry.specs.Keyed.{find}
use Rattle.uc_entry.specs.declared.request.Request.{Request}
use Rattle.uc_entry.specs.declared.request.Request.TheVariants as ask
use Rattle.uc_machine.specs.declared.exec.Home.{Home}
use Rattle.uc_machine.specs.declared.exec.Home.TheVariants as home
use Rattle.uc_machine.specs.declared.exec.Stage.{Stage}
use Rattle.uc_machine.specs.declared.exec.Stage.TheVariants.{Ended}
use Rattle.uc_machine.specs.Executions.{Links, Execution}
use Rattle.uc_machine.specs.Insides.{is_held_up}
use Rattle.uc_machine.specs.Switches.{without}
use Rattle.uc_machine.specs.Answering.{with_hand}
use Rattle.uc_machine.specs.Monitors.{this_object}
use Rattle.uc_machine.specs.Pieces as piece
use Rattle.uc_machine.specs.Pieces.{Value, Todo, Active, State, Env, Members, Step, Goes, Ticks, Asks, at, top, below, object_in}
use Rattle.uc_depth_laws.specs.Entering.{Aspect, New, Other, lets_go, asks, holds_object, asks_object, is_holding, is_building, is_ending, EnteredExpr, EnteredExprs, EnteredMaybe, EnteredItems, EnteredTargets, EnteredDeclared, EnteredClean, EnteredStmt, EnteredStmts, EnteredBody, EnteredHandlers, EnteredClauses}

abbrev pub Ex : Type 0
Ex = Execution (List Todo) Value

-- marks

-- whether a piece lets go of the object of its activation, or is a routine that begins and will
abbrev pub owes : Todo → Bool
owes (piece.Rest ss) = holds_object ss
owes (piece.Clean c) = lets_go c
owes piece.LeaveNow = true
owes piece.GoneNow = true
owes piece.MadeNow = true
owes (piece.SpawnNow r) = true
owes piece.GiveUpNow = true
owes p = false

abbrev pub more : Bool → ℕ → ℕ
more true n = suc n
more false n = n

-- how many of these pieces do
abbrev pub marks : List Todo → ℕ
marks [] = 0
marks (p ∷ todo) = more (owes p) (marks todo)

-- so many, where they are marks of object q
abbrev pub counted : ℕ → Value → ℕ → ℕ
counted q v n = if nat_eq (object_in v) q then n else 0

abbrev pub owed_by : ℕ → Active → ℕ
owed_by q a = counted q a.this (marks a.control)

-- activations that wait
abbrev pub marks_waiting : List Active → ℕ
marks_waiting [] = 0
marks_waiting (a ∷ rest) = marks a.control + marks_waiting rest

abbrev pub owed_waiting : ℕ → List Active → ℕ
owed_waiting q [] = 0
owed_waiting q (a ∷ rest) = owed_by q a + owed_waiting q rest

-- what may stand first in a list: any piece, but for a call of a routine that holds its object, and for what lets go of the object of the
-- activation; that too where it is done next; behind what leaves all pieces any call; behind what has entered an object the call of this routine
-- alone; or what binds a new object
pub data First : Type 0 where
  Any : First
  Done : First
  Skipped : First
  CallOf : ℕ → First
  Bound : First

abbrev pub next : Todo → First
next (piece.EnterNow m r) = CallOf r
next (piece.MakeNow c r) = CallOf r
next (piece.BindMadeNow c r) = CallOf r
next piece.Unwind = Skipped
next (piece.Exit w) = Skipped
next p = Any

-- which objects are new, and which are others, is told by tests for an execution that is at home here
abbrev pub Tests : Type 0
Tests = Home → Aspect → ℕ → Bool

-- to one that passes, the activations which wait for what builds or destroys it owe nothing
abbrev pub is_told : (Aspect → ℕ → Bool) → Value → List Active → Aspect → Bool
is_told tells v older k = tells k (object_in v) && nat_eq (owed_waiting (object_in v) older) 0

-- so it is for what an activation calls, which has this to do behind the call
abbrev pub is_told_for : (Aspect → ℕ → Bool) → Value → Value → List Todo → List Active → Aspect → Bool
is_told_for tells v this todo older k =
    tells k (object_in v) && nat_eq (counted (object_in v) this (marks todo) + owed_waiting (object_in v) older) 0

-- one is owed to the own object
abbrev pub owed_own : ℕ → ℕ → ℕ
owed_own q own = if nat_eq own q then 1 else 0

-- mutex calls that have not ended, and buildings
abbrev pub entries : Links → ℕ
entries l = l.mutex_calls + l.builds

-- what stands in to-do lists of an activation of whose object this is told
module _ (source : Source) (told : Aspect → Bool) where
  -- only what has a new object builds it, and only what has another destroys it: in a scope, and as a whole
  abbrev pub EnteredScope : CleanUp → Type 0
  EnteredScope c = EnteredClean source c × ((k : Aspect) → asks c k ≡ true → told k ≡ true)

  abbrev pub EnteredWhole : Stmts → Type 0
  EnteredWhole ss = EnteredBody source ss × ((k : Aspect) → asks_object ss k ≡ true → told k ≡ true)

  abbrev pub EnteredPiece : Todo → Type 0
  EnteredPiece (piece.Eval e) = EnteredExpr source e
  EnteredPiece (piece.Choose e f) = EnteredExpr source e × EnteredExpr source f
  EnteredPiece (piece.Branch a b) = EnteredStmt source a × EnteredStmt source b
  EnteredPiece (piece.Arguments es) = EnteredExprs source es
  EnteredPiece (piece.CallNow r) = is_holding source r ≡ false
  EnteredPiece (piece.CallOnNow r) = is_holding source r ≡ false
  EnteredPiece (piece.CallUnwrittenNow r) = is_holding source r ≡ false
  EnteredPiece (piece.FillNow n b d) = EnteredExpr source b × EnteredExpr source d
  EnteredPiece (piece.TurnNow o t e b) = EnteredExpr source t × EnteredMaybe source e × EnteredStmt source b
  EnteredPiece (piece.Again o t e b) = EnteredExpr source t × EnteredMaybe source e × EnteredStmt source b
  EnteredPiece (piece.Items is) = EnteredItems source is
  EnteredPiece (piece.Values is) = EnteredItems source is
  EnteredPiece (piece.Pieces is) = EnteredItems source is
  EnteredPiece (piece.Targets xs) = EnteredTargets source xs
  EnteredPiece (piece.Variables ds) = EnteredDeclared source ds
  EnteredPiece (piece.Do a) = EnteredStmt source a
  EnteredPiece (piece.Rest ss) = EnteredStmts source ss
  EnteredPiece (piece.InLoop o t e b) = EnteredExpr source t × EnteredMaybe source e × EnteredStmt source b
  EnteredPiece (piece.Clean c) = EnteredScope c
  EnteredPiece (piece.Sweep e) = EnteredExpr source e
  EnteredPiece (piece.Part c) = (lets_go c ≡ false) × EnteredClean source c
  EnteredPiece (piece.Guard hs) = EnteredHandlers source hs
  EnteredPiece (piece.SetUpNow r) = is_holding source r ≡ false
  EnteredPiece (piece.EnterNow m r) = is_building source r ≡ false
  EnteredPiece piece.LeaveNow = ⊥
  EnteredPiece piece.MadeNow = ⊥
  EnteredPiece (piece.SpawnNow r) = ⊥
  EnteredPiece piece.GoneNow = ⊥
  EnteredPiece piece.GiveUpNow = ⊥
  EnteredPiece (piece.ChildNow r) = is_holding source r ≡ false
  EnteredPiece (piece.BindMadeNow c r) = ⊥
  EnteredPiece (piece.Guards cs) = EnteredClauses source cs
  EnteredPiece (piece.ChooseNow cs) = EnteredClauses source cs
  EnteredPiece p = Unit {0}

  -- what is done next may be a routine that begins, or what lets go of the object
  abbrev pub EnteredNext : Todo → Type 0
  EnteredNext (piece.Rest ss) = EnteredWhole ss
  EnteredNext piece.LeaveNow = Unit {0}
  EnteredNext piece.MadeNow = told New ≡ true
  EnteredNext (piece.SpawnNow r) = (told New ≡ true) × (is_holding source r ≡ false)
  EnteredNext piece.GoneNow = told Other ≡ true
  EnteredNext piece.GiveUpNow = told New ≡ true
  EnteredNext p = EnteredPiece p

  abbrev pub Allowed : First → Todo → Type 0
  Allowed Any p = EnteredPiece p
  Allowed Done p = EnteredNext p
  Allowed Skipped (piece.CallOnNow k) = Unit {0}
  Allowed Skipped (piece.CallUnwrittenNow k) = Unit {0}
  Allowed Skipped p = EnteredPiece p
  Allowed (CallOf r) (piece.CallOnNow k) = k ≡ r
  Allowed (CallOf r) (piece.CallUnwrittenNow k) = k ≡ r
  Allowed (CallOf r) p = ⊥
  Allowed Bound (piece.BindMadeNow c r) = Unit {0}
  Allowed Bound p = ⊥

  -- a to-do list in which each call of a routine that holds its object stands right behind what enters that
  abbrev pub Entered : First → List Todo → Type 0
  Entered f [] = Unit {0}
  Entered f (p ∷ todo) = Allowed f p × Entered (next p) todo

module _ (source : Source) where
  -- an object that has been entered, or made, for the call that comes first is owed that already
  abbrev pub calling : ℕ → ℕ → Value → ℕ
  calling q r v = if is_holding source r then counted q v 1 else 0

  abbrev pub owed_first : ℕ → List Todo → List Value → ℕ
  owed_first q (piece.CallOnNow r ∷ todo) vs = calling q r (top (drop (routine_of source r).params vs))
  owed_first q (piece.CallUnwrittenNow r ∷ todo) vs = calling q r (top (drop (routine_of source r).params vs))
  owed_first q (piece.BindMadeNow c r ∷ todo) vs = calling q r (top vs)
  owed_first q todo vs = 0

  -- where this routine builds its object or destroys it, so it is told of the object
  abbrev pub IsToldFor : (Aspect → ℕ → Bool) → ℕ → Value → Value → List Todo → List Active → Type 0
  IsToldFor tells r v this todo older = (k : Aspect) → asks_object (routine_of source r).body k ≡ true → is_told_for tells v this todo older k ≡ true

  -- so it is of what is called first
  abbrev pub IsToldFirst : (Aspect → ℕ → Bool) → Value → List Active → List Todo → List Value → Type 0
  IsToldFirst tells this older (piece.CallOnNow r ∷ todo) vs = IsToldFor tells r (top (drop (routine_of source r).params vs)) this todo older
  IsToldFirst tells this older (piece.CallUnwrittenNow r ∷ todo) vs = IsToldFor tells r (top (drop (routine_of source r).params vs)) this todo older
  IsToldFirst tells this older (piece.BindMadeNow c r ∷ todo) vs = IsToldFor tells r (top vs) this todo older
  IsToldFirst tells this older todo vs = Unit {0}

  abbrev pub first_marks : List Todo → ℕ
  first_marks (piece.CallOnNow r ∷ todo) = more (is_holding source r) 0
  first_marks (piece.CallUnwrittenNow r ∷ todo) = more (is_holding source r) 0
  first_marks (piece.BindMadeNow c r ∷ todo) = more (is_holding source r) 0
  first_marks todo = 0

module _ (source : Source) (tells : Aspect → ℕ → Bool) where
  -- activations that wait, each with one mark at most
  abbrev pub AllEntered : List Active → Type 0
  AllEntered [] = Unit {0}
  AllEntered (a ∷ rest) = Entered source (is_told tells a.this rest) Any a.control × (marks a.control ≤ 1) × AllEntered rest

  -- an execution that does not run has as many mutex calls and buildings as marks, or more
  pub record Engaged (x : Ex) : Type 0 where
    pub run : Entered source (is_told tells x.run.this x.callers) Any x.run.control
    pub one : marks x.run.control ≤ 1
    pub callers : AllEntered x.callers
    pub engaged : marks x.run.control + marks_waiting x.callers ≤ entries x.links

  -- of one that has ended nothing is asked: it never goes on
  abbrev pub EngagedBy : Stage → Ex → Type 0
  EngagedBy Ended x = Unit {0}
  EngagedBy g x = Engaged x

  abbrev pub EngagedSlot : Option Ex → Type 0
  EngagedSlot None = Unit {0}
  EngagedSlot (Some x) = EngagedBy x.links.stage x

  abbrev pub EngagedParked : List (ℕ × Option Ex) → Type 0
  EngagedParked [] = Unit {0}
  EngagedParked (p ∷ ps) = EngagedSlot p.1 × EngagedParked ps

module _ (source : Source) (news : Tests) where
  abbrev pub EngagedHand : List (ℕ × Members) → Type 0
  EngagedHand [] = Unit {0}
  EngagedHand (p ∷ ps) = EngagedParked source (news (home.Object p.0)) p.1.parked × EngagedHand ps

  -- members of a home, if there are any
  abbrev pub EngagedMembers : Home → Option Members → Type 0
  EngagedMembers h None = Unit {0}
  EngagedMembers h (Some m) = EngagedParked source (news h) m.parked

  pub record EngagedEnv (e : Env) : Type 0 where
    pub house : EngagedParked source (news (home.Task e.own)) e.house.parked
    pub hand : EngagedHand e.hand

-- what is owed to q by the activations of an execution
abbrev pub owed_all : ℕ → Ex → ℕ
owed_all q x = owed_by q x.run + owed_waiting q x.callers

-- one that has ended owes nothing, since it never goes on
abbrev pub owed_at : Stage → ℕ → ℕ
owed_at Ended n = 0
owed_at g n = n

-- what is owed by an execution that does not run, by all in a list, in hand, and of a task

abbrev pub owed_ex : ℕ → Ex → ℕ
owed_ex q x = owed_at x.links.stage (owed_all q x)

abbrev pub owed_slot : ℕ → Option Ex → ℕ
owed_slot q None = 0
owed_slot q (Some x) = owed_ex q x

abbrev pub owed_parked : ℕ → List (ℕ × Option Ex) → ℕ
owed_parked q [] = 0
owed_parked q (p ∷ ps) = owed_slot q p.1 + owed_parked q ps

abbrev pub owed_hand : ℕ → List (ℕ × Members) → ℕ
owed_hand q [] = 0
owed_hand q (p ∷ ps) = owed_parked q p.1.parked + owed_hand q ps

-- a task has to leave its own object once more, at its end
abbrev pub owed_env : ℕ → Env → ℕ
owed_env q e = owed_own q e.own + (owed_parked q e.house.parked + owed_hand q e.hand)

-- of that, what executions owe that do not run, and are at home elsewhere than in the object
abbrev pub owed_elsewhere : ℕ → Env → ℕ
owed_elsewhere q e = owed_parked q e.house.parked + owed_hand q (without q e.hand)

-- what activations of the running execution owe, and what is owed to the own object
abbrev pub owed_here : ℕ → State → ℕ
owed_here q s = owed_by q s.run + owed_waiting q s.callers + owed_own q s.env.own

-- all but what has been entered for the call that comes first
abbrev pub owed_behind : ℕ → State → ℕ
owed_behind q s = owed_by q s.run + owed_waiting q s.callers + owed_env q s.env

module _ (source : Source) where
  abbrev pub owed : ℕ → State → ℕ
  owed q s = owed_first source q s.run.control s.run.operands + owed_behind q s

module _ (source : Source) where
  -- what is at home in an object and owes nothing
  pub record Free (m : Members) : Type 0 where
    pub parked : EngagedParked source (λ k o. false) m.parked
    pub nothing : (q : ℕ) → owed_parked q m.parked ≡ 0

  -- a hand that is drawn anew: what is in it is what was, or owes nothing
  abbrev pub Redrawn : List (ℕ × Members) → List (ℕ × Members) → Type 0
  Redrawn old [] = Unit {0}
  Redrawn old (p ∷ hand) = (Free p.1 ⊎ (find p.0 old ≡ Some p.1)) × (find p.0 hand ≡ None) × Redrawn old hand

-- the depth in an object, 0 where the task is not inside
abbrev pub depth_in : Option ℕ → ℕ
depth_in None = 0
depth_in (Some d) = d

abbrev pub depth_at : ℕ → Env → ℕ
depth_at q e = depth_in (find q e.depths)

-- the task is inside an object
abbrev pub IsInside : ℕ → Env → Type 0
IsInside o e = (d : ℕ) × (find o e.depths ≡ Some (suc d))

-- what binds a new object comes first
abbrev pub IsBinding : List Todo → Type 0
IsBinding (piece.BindMadeNow c r ∷ todo) = Unit {0}
IsBinding todo = ⊥

-- just before it asks to let go of an object, or to end, a task is inside that, or its own; what it takes out is new, or another
abbrev pub LetsGo : Tests → Request → State → Type 0
LetsGo news (ask.Made o) s = IsInside o s.env
LetsGo news (ask.Spawn o) s = IsInside o s.env
LetsGo news (ask.Leave o failed) s = IsInside o s.env
LetsGo news (ask.Gone o) s = IsInside o s.env × ((k : Aspect) × (news s.env.exec.home k o ≡ true))
LetsGo news ask.End s = IsInside s.env.own s.env
LetsGo news r s = Unit {0}

-- where it asks for what lets others into an object, no execution there holds it up
abbrev pub Unheld : Request → Env → Type 0
Unheld (ask.Made o) e = is_held_up o e ≡ false
Unheld (ask.Spawn o) e = is_held_up o e ≡ false
Unheld (ask.Leave o failed) e = is_held_up o e ≡ false
Unheld (ask.Accept o site mask) e = is_held_up o e ≡ false
Unheld (ask.Wait o c n) e = is_held_up o e ≡ false
Unheld (ask.SignalBlock o c) e = is_held_up o e ≡ false
Unheld r e = Unit {0}

module _ (source : Source) (news : Tests) where
  -- a task that goes on, or has asked for a new object and waits: each execution has as many mutex calls and buildings as marks, and the task
  -- is as deep in each object as it is owed, or deeper
  pub record Engages (owing : ℕ → ℕ) (New : Type 0) (s : State) : Type 0 where
    pub first : First
    pub run : Entered source (is_told (news s.env.exec.home) s.run.this s.callers) first s.run.control
    pub new : New
    pub one : marks s.run.control ≤ 1
    pub callers : AllEntered source (news s.env.exec.home) s.callers
    pub env : EngagedEnv source news s.env
    pub engaged : first_marks source s.run.control + marks s.run.control + marks_waiting s.callers ≤ entries s.env.links
    pub depths : (q : ℕ) → owing q ≤ depth_at q s.env

  abbrev pub Deep : State → Type 0
  Deep s = Engages (λ q. owed source q s) (IsToldFirst source (news s.env.exec.home) s.run.this s.callers s.run.control s.run.operands) s

  abbrev pub DeepBehind : State → Type 0
  DeepBehind s = Engages (λ q. owed_behind q s) (Unit {0}) s

  -- no call is about to begin
  pub record DeepAlone (s : State) : Type 0 where
    pub alone : Entered source (is_told (news s.env.exec.home) s.run.this s.callers) Any s.run.control
    pub deep : Deep s

  -- a task that has asked something, which the answer lets go on; what it calls is not where the running execution is at home; what it spawns is
  -- new until then, and nothing is owed to it any more;
  -- what goes takes out with it what is at home there;
  -- behind an end and a fault nothing goes on, but what a task has in hand at its end stays in order
  abbrev pub DeepAsk : Request → State → Type 0
  DeepAsk (ask.Call o m) s = (s.env.exec.home ≡ home.Object o → ⊥) → Deep s
  DeepAsk (ask.Make c) s = IsBinding s.run.control × DeepBehind s
  DeepAsk ask.Slice s = Deep s
  DeepAsk (ask.Spawn o) s = DeepAlone s × (news s.env.exec.home New o ≡ true) × (owed source o s ≡ 0)
  DeepAsk (ask.Gone o) s = DeepAlone (with_hand (without o s.env.hand) s) × EngagedHand source news s.env.hand
  DeepAsk ask.End s = EngagedEnv source news s.env
  DeepAsk (ask.Fault f) s = Unit {0}
  DeepAsk r s = DeepAlone s

  -- so it is of a request of a task that had this before
  pub record DeepAsking (before : State) (r : Request) (s : State) : Type 0 where
    pub state : DeepAsk r s
    pub inside : LetsGo news r before
    pub unheld : Unheld r s.env

  abbrev pub DeepStep : State → Step → Type 0
  DeepStep before (Goes s) = Deep s
  DeepStep before (Ticks s) = Deep s
  DeepStep before (Asks r s) = DeepAsking before r s

module _ (source : Source) where
  -- what is owed but by what is at home in the object
  abbrev pub owed_outside : ℕ → State → ℕ
  owed_outside q s = owed_first source q s.run.control s.run.operands + owed_by q s.run + owed_waiting q s.callers + owed_own q s.env.own + owed_elsewhere q s.env

  -- the object that is entered for this routine, and whether the task is there already
  abbrev pub entering : ℕ → State → ℕ
  entering r s = object_in (top (drop (routine_of source r).params s.run.operands))

  abbrev pub is_again : ℕ → State → Bool
  is_again r s = is_some (find (entering r s) s.env.depths)

  -- what a step is to find: where an object has been made, the place that is bound to it; where one in which the task is already is entered to be
  -- destroyed, that the running execution is not at home there, and that neither its activations owe anything there nor its task; where one is let
  -- go of however deep the task is, nothing else that is owed to it, but by what is at home there
  abbrev pub FairAt : List Todo → State → Type 0
  FairAt (piece.BindMadeNow c r ∷ todo) s = (routine_of source r).params < length (below s.run.operands)
  FairAt (piece.EnterNow m r ∷ todo) s =
      is_ending source r ≡ true → is_again r s ≡ true →
      (s.env.exec.home ≡ home.Object (entering r s) → ⊥) × (owed_here (entering r s) s ≡ 0)
  FairAt (piece.MadeNow ∷ todo) s = owed_outside (this_object s) (at todo s.run.operands s) ≡ 0
  FairAt (piece.SpawnNow r ∷ todo) s = owed_outside (this_object s) (at todo s.run.operands s) ≡ 0
  FairAt (piece.GoneNow ∷ todo) s = owed_outside (this_object s) (at todo s.run.operands s) ≡ 0
  FairAt (piece.GiveUpNow ∷ todo) s = owed_outside (this_object s) (at todo s.run.operands s) ≡ 0
  FairAt todo s = Unit {0}

  -- but for the first of these
  abbrev pub SoleAt : List Todo → State → Type 0
  SoleAt (piece.BindMadeNow c r ∷ todo) s = Unit {0}
  SoleAt todo s = FairAt todo s

  abbrev pub Sole : State → Type 0
  Sole s = SoleAt s.run.control s

  -- of that, what executions owe that do not run, and what a step is to find where one is entered
  abbrev pub AloneAt : List Todo → State → Type 0
  AloneAt (piece.EnterNow m r ∷ todo) s = FairAt (piece.EnterNow m r ∷ todo) s
  AloneAt (piece.MadeNow ∷ todo) s = owed_elsewhere (this_object s) s.env ≡ 0
  AloneAt (piece.SpawnNow r ∷ todo) s = owed_elsewhere (this_object s) s.env ≡ 0
  AloneAt (piece.GoneNow ∷ todo) s = owed_elsewhere (this_object s) s.env ≡ 0
  AloneAt (piece.GiveUpNow ∷ todo) s = owed_elsewhere (this_object s) s.env ≡ 0
  AloneAt todo s = Unit {0}

  abbrev pub Alone : State → Type 0
  Alone s = AloneAt s.run.control s

  abbrev pub Fair : State → Type 0
  Fair s = FairAt s.run.control s

-- Executions in which whoever waits, signals or accepts is inside the object of its activation: itself by a mark, or by that of an older
-- activation of the same object, or at home there; and in which the oldest activation ends as a main does.
use Rattle.std.specs.Prelude.{◌≡◌, ℕ, zero, suc, ◌<◌, ◌⊎◌, ◌++◌, List, [], ◌∷◌, Option, Some, None, Bool, true, false, is_some}
use Rattle.uc_tree.specs.Source as src
use Rattle.uc_tree.specs.Source.{Expr, Source}
use Rattle.uc_entry.specs.Keyed.{find}
use Rattle.uc_entry.specs.declared.request.Request.{Request}
use Rattle.uc_entry.specs.declared.request.Request.TheVariants as ask
use Rattle.uc_machine.specs.declared.exec.Home.{Home}
use Rattle.uc_machine.specs.declared.exec.Home.TheVariants as home
use Rattle.uc_machine.specs.declared.exec.Stage.{Stage}
use Rattle.uc_machine.specs.declared.exec.Stage.TheVariants.{Ended}
use Rattle.uc_machine.specs.Insides.{is_held_up}
use Rattle.uc_machine.specs.Pieces as piece
use Rattle.uc_machine.specs.Pieces.{Value, Object, Todo, Sort, sort, Active, State, Env, Members, Step, Goes, Ticks, Asks, object_in}
use Rattle.uc_depth_laws.specs.Owing.{Ex, marks}
use Rattle.uc_inner_laws.specs.Inner.{Part, Plain, Helper, Maker, Uncalled, Begun, Ground, under, count, params, Exists, SetsUp, InnerExpr, InnerExprs, InnerMaybe, InnerItems, InnerTargets, InnerDeclared, InnerClean, InnerStmt, InnerStmts, InnerHandlers, InnerClauses}
use Rattle.uc_depth_laws.specs.Entering.{IsMain}

-- operands

-- what is known of an operand: nothing, that it is the object of the activation, or that it is a new mutex object
pub data Mark : Type 0 where
  Any : Mark
  Own : Mark
  Thing : Mark

abbrev pub IsThing : Value → Type 0
IsThing v = v ≡ Object (object_in v)

-- a mutex object that was made for an execution which is at home here: elsewhere, since that was there before
abbrev pub IsNew : Home → Value → Type 0
IsNew h v = IsThing v × (h ≡ home.Object (object_in v) → ⊥)

abbrev pub Meets : Home → Value → Mark → Value → Type 0
Meets h this Any v = Unit {0}
Meets h this Own v = v ≡ this
Meets h this Thing v = IsNew h v

-- of the newest operands, which are there, the first mark for the newest; of what lies below nothing is known
abbrev pub Holds : Home → Value → List Mark → List Value → Type 0
Holds h this [] vs = Unit {0}
Holds h this (m ∷ ms) [] = ⊥
Holds h this (m ∷ ms) (v ∷ vs) = Meets h this m v × Holds h this ms vs

abbrev pub rest : List Mark → List Mark
rest [] = []
rest (m ∷ ms) = ms

-- behind so many operands
abbrev pub rests : ℕ → List Mark → List Mark
rests zero ms = ms
rests (suc n) ms = rest (rests n ms)

-- in front of these so many of which nothing is known
abbrev pub anys : ℕ → List Mark → List Mark
anys zero ms = ms
anys (suc n) ms = anys n (Any ∷ ms)

-- with a mutex object behind so many
abbrev pub bound : ℕ → List Mark → List Mark
bound n [] = []
bound zero (m ∷ ms) = Thing ∷ ms
bound (suc n) (m ∷ ms) = m ∷ bound n ms

abbrev pub IsThere : List Mark → Type 0
IsThere [] = ⊥
IsThere (m ∷ ms) = Unit {0}

abbrev pub IsOwn : List Mark → Type 0
IsOwn (Own ∷ ms) = Unit {0}
IsOwn ms = ⊥

abbrev pub IsObject : List Mark → Type 0
IsObject (Thing ∷ ms) = Unit {0}
IsObject ms = ⊥

-- what the object of the activation is known to be
abbrev pub Known : Expr → Type 0 → Type 0
Known (src.OfObject src.This) next = next
Known e next = ⊥

-- to-do lists

-- what is known within a piece, by what is known outwards of it
abbrev pub within_sort : Sort → Ground → Ground
within_sort (piece.IsClean c) g = under c g
within_sort k g = g

-- what is known before a list, by what is known behind the activation
abbrev pub ground : Ground → List Todo → Ground
ground g [] = g
ground g (p ∷ todo) = within_sort (sort p) (ground g todo)

-- what is known behind an activation: its ground; whether others wait for it, so that it may end; and whether it may be unwound
pub record Base : Type 0 where
  pub ground : Ground
  pub waited : Bool
  pub unwound : Bool

-- where statements stand nothing is being unwound
abbrev pub calm : Base → Base
calm b = record { ground = b.ground; waited = b.waited; unwound = false }

-- behind the end of a main nothing is done
abbrev pub over : Base → Base
over b = record { ground = b.ground; waited = true; unwound = false }

-- behind a piece: statements, and the marks that they leave, never stand before what is left to unwind
abbrev pub behind : Todo → Base → Base
behind (piece.Branch d e) b = calm b
behind (piece.TurnNow o t e d) b = calm b
behind (piece.Again o t e d) b = calm b
behind (piece.Do d) b = calm b
behind (piece.Rest ss) b = calm b
behind (piece.Within line) b = calm b
behind (piece.ChooseNow cs) b = calm b
behind (piece.InLoop o t e d) b = calm b
behind piece.InWhole b = calm b
behind (piece.Clean c) b = calm b
behind (piece.FillNow n e d) b = calm b
behind (piece.Part c) b = calm b
behind (piece.Guard hs) b = calm b
behind piece.Finish b = over b
behind piece.FinishCoroutine b = over b
behind p b = b

-- before a routine of this part is called, what is known of the operand below its arguments
abbrev pub Ready : Ground → Part → List Mark → Type 0
Ready g Plain ms = Unit {0}
Ready g Helper ms = (g.inside ≡ true) × IsOwn ms
Ready g Maker ms = IsObject ms
Ready g Uncalled ms = ⊥
Ready g Begun ms = ⊥

-- this routine is called first
abbrev pub Calls : ℕ → List Todo → Type 0
Calls r (piece.CallOnNow q ∷ todo) = q ≡ r
Calls r (piece.CallUnwrittenNow q ∷ todo) = q ≡ r
Calls r todo = ⊥

module _ (part : ℕ → Part) (source : Source) where
  -- the marks behind a piece; behind one of statements nothing is known
  abbrev pub after : Todo → List Mark → List Mark
  after piece.LoadNow ms = Any ∷ rest ms
  after (piece.ElementNow n k) ms = Any ∷ rest (rest ms)
  after (piece.FieldNow k i) ms = Any ∷ rest ms
  after piece.NegateNow ms = Any ∷ rest ms
  after piece.NotNow ms = Any ∷ rest ms
  after piece.CharacterNow ms = Any ∷ rest ms
  after piece.TruthNow ms = Any ∷ rest ms
  after (piece.OperateNow op) ms = Any ∷ rest (rest ms)
  after piece.CopyNow ms = Any ∷ ms
  after piece.CopyBelowNow ms = Any ∷ ms
  after piece.DropNow ms = rest ms
  after piece.DropBelowNow ms = Any ∷ rest (rest ms)
  after piece.StoreNow ms = rest (rest ms)
  after piece.KeepNow ms = Any ∷ rest (rest ms)
  after (piece.SetNow k) ms = ms
  after piece.BindNow ms = Any ∷ rest (rest ms)
  after (piece.Choose e f) ms = Any ∷ rest ms
  after (piece.Arguments es) ms = anys (count es) ms
  after piece.TickNow ms = ms
  after (piece.CallNow r) ms = Any ∷ rests (params part source r) ms
  after (piece.CallOnNow r) ms = Any ∷ rests (suc (params part source r)) ms
  after (piece.CallUnwrittenNow r) ms = Any ∷ rests (suc (params part source r)) ms
  after (piece.LiveNow r) ms = ms
  after (piece.EnterNow m r) ms = ms
  after (piece.MakeNow c r) ms = bound (params part source r) ms
  after (piece.BindMadeNow c r) ms = bound (params part source r) (rest ms)
  after piece.LeaveNow ms = ms
  after piece.ClusterNow ms = Any ∷ ms
  after piece.ProcessorNow ms = Any ∷ rest ms
  after piece.ClusterEndNow ms = Any ∷ rest ms
  after piece.ProcessorEndNow ms = Any ∷ rest ms
  after (piece.ConditionNow k n) ms = Any ∷ rest ms
  after piece.WaitNow ms = Any ∷ rest (rest ms)
  after piece.SignalNow ms = Any ∷ rest ms
  after piece.SignalBlockNow ms = Any ∷ rest ms
  after piece.EmptyNow ms = Any ∷ rest ms
  after piece.FrontNow ms = Any ∷ rest ms
  after (piece.ReadNow form) ms = Any ∷ ms
  after piece.RaiseNow ms = rests 3 ms
  after piece.DeliverNow ms = rests 3 ms
  after piece.PollNow ms = ms
  after (piece.ClearNow k n) ms = ms
  after piece.Land ms = ms
  after p ms = []

  -- what is asked of a piece, with what is known outwards of it and of the operands
  abbrev pub Allowed : Ground → List Mark → Todo → Type 0
  Allowed g ms (piece.Choose e f) = InnerExpr part source g e × InnerExpr part source g f
  Allowed g ms (piece.Branch a b) = InnerStmt part source g a × InnerStmt part source g b
  Allowed g ms (piece.Arguments es) = InnerExprs part source g es
  Allowed g ms (piece.CallNow r) = (part r ≡ Plain) × Exists part source r
  Allowed g ms (piece.CallOnNow r) = Ready g (part r) (rests (params part source r) ms) × Exists part source r
  Allowed g ms (piece.CallUnwrittenNow r) = Ready g (part r) (rests (params part source r) ms) × Exists part source r
  Allowed g ms (piece.LiveNow r) = Exists part source r
  Allowed g ms (piece.EnterNow m r) = Exists part source r
  Allowed g ms (piece.BindMadeNow c r) = IsObject ms × IsThere (rests (params part source r) (rest ms)) × Exists part source r
  Allowed g ms (piece.SetUpNow r) = SetsUp part source g (part r) × IsMain source r
  Allowed g ms (piece.SpawnNow r) = IsMain source r
  Allowed g ms (piece.ChildNow r) = IsMain source r
  Allowed g ms piece.GiveUpNow = g.made ≡ true
  Allowed g ms (piece.FillNow n b d) = InnerExpr part source g b × InnerExpr part source g d
  Allowed g ms (piece.TurnNow o t e b) = InnerExpr part source g t × InnerMaybe part source g e × InnerStmt part source g b
  Allowed g ms (piece.Again o t e b) = InnerExpr part source g t × InnerMaybe part source g e × InnerStmt part source g b
  Allowed g ms (piece.Items is) = InnerItems part source g is
  Allowed g ms (piece.Values is) = InnerItems part source g is
  Allowed g ms (piece.Pieces is) = InnerItems part source g is
  Allowed g ms (piece.Targets xs) = InnerTargets part source g xs
  Allowed g ms (piece.Variables ds) = InnerDeclared part source g ds
  Allowed g ms (piece.Do a) = InnerStmt part source g a
  Allowed g ms (piece.Rest ss) = InnerStmts part source g ss
  Allowed g ms (piece.InLoop o t e b) = InnerExpr part source g t × InnerMaybe part source g e × InnerStmt part source g b
  Allowed g ms (piece.Clean c) = InnerClean part source g c
  Allowed g ms (piece.Sweep e) = InnerExpr part source g e
  Allowed g ms (piece.Part c) = InnerClean part source g c
  Allowed g ms (piece.Guard hs) = InnerHandlers part source g hs
  Allowed g ms (piece.Guards cs) = InnerClauses part source g cs
  Allowed g ms (piece.ChooseNow cs) = InnerClauses part source g cs
  Allowed g ms piece.WaitNow = g.inside ≡ true
  Allowed g ms piece.SignalNow = g.inside ≡ true
  Allowed g ms piece.SignalBlockNow = g.inside ≡ true
  Allowed g ms piece.EmptyNow = g.inside ≡ true
  Allowed g ms piece.FrontNow = g.inside ≡ true
  Allowed g ms (piece.AcceptNow site n) = g.inside ≡ true
  Allowed g ms p = Unit {0}

  -- one who leaves a simple piece comes to what stands behind it; at a mark that may be done
  abbrev pub LeftBy : Ground → Sort → Type 0 → Type 0 → Type 0 → Type 0 → Type 0
  LeftBy g piece.Simple left ok still done = left
  LeftBy g (piece.IsLoop o t e b) left ok still done = (InnerExpr part source g t × InnerMaybe part source g e × InnerStmt part source g b) × still
  LeftBy g piece.IsWhole left ok still done = still
  LeftBy g (piece.IsClean c) left ok still done = InnerClean part source g c × still
  LeftBy g (piece.IsFill n b d) left ok still done = (InnerExpr part source g b × InnerExpr part source g d) × still
  LeftBy g (piece.IsSweep e) left ok still done = InnerExpr part source g e × ok
  LeftBy g (piece.IsPart c) left ok still done = InnerClean part source g c × still
  LeftBy g (piece.IsGuard hs) left ok still done = InnerHandlers part source g hs × still
  LeftBy g piece.IsFinish left ok still done = done
  LeftBy g piece.IsFinishCoroutine left ok still done = done

  abbrev mutual
    -- a to-do list is in order before operands of which this is known; what the object of the activation gives may be known or not. Nothing
    -- is behind an activation but one that waits, and nothing is unwound but for a reason. What is made is built next
    pub Ok : Base → List Mark → List Todo → Type 0
    Ok b ms [] = b.waited ≡ true
    Ok b ms (piece.Eval e ∷ todo) = InnerExpr part source (ground b.ground todo) e × (Ok b (Any ∷ ms) todo ⊎ Known e (Ok b (Own ∷ ms) todo))
    Ok b ms (piece.MakeNow c r ∷ todo) =
        (IsThere (rests (params part source r) ms) × Exists part source r × (part r ≡ Maker) × Calls r todo) × Ok b (bound (params part source r) ms) todo
    Ok b ms (piece.Exit w ∷ todo) = Left b todo
    Ok b ms (piece.Unwind ∷ todo) = (b.unwound ≡ true) × Left b todo
    Ok b ms (p ∷ todo) = Allowed (ground b.ground todo) ms p × Ok (behind p b) (after p ms) todo

    -- it is for one who leaves it
    pub Left : Base → List Todo → Type 0
    Left b [] = b.waited ≡ true
    Left b (p ∷ todo) = LeftBy (ground b.ground todo) (sort p) (Left b todo) (Ok b [] todo) (Ok (calm b) [] todo) (Ok (over b) [] todo)

  -- one who leaves a piece of this sort comes to these
  abbrev pub LeftAt : Base → Sort → List Todo → Type 0
  LeftAt b k todo = LeftBy (ground b.ground todo) k (Left b todo) (Ok b [] todo) (Ok (calm b) [] todo) (Ok (over b) [] todo)

-- executions

-- an execution is at home in an object, or in the task whose own object that is
abbrev pub IsHome : Home → ℕ → Type 0
IsHome (home.Task t) o = t ≡ o
IsHome (home.Object q) o = q ≡ o

-- some activation of these, of one execution, has a mark of an object; or the execution is at home there
abbrev pub Backs : Home → ℕ → List Active → Type 0
Backs h o [] = IsHome h o
Backs h o (a ∷ older) = ((object_in a.this ≡ o) × (0 < marks a.control)) ⊎ Backs h o older

-- one of these waits
abbrev pub IsOlder : List Active → Type 0
IsOlder [] = ⊥
IsOlder (a ∷ older) = Unit {0}

-- an execution is at home in the task with this own object, or in an object that it has in hand
abbrev pub IsHere : ℕ → List (ℕ × Members) → Home → Type 0
IsHere own hand (home.Task t) = t ≡ own
IsHere own hand (home.Object q) = is_some (find q hand) ≡ true

-- the operands that an answer brings, by the request
abbrev pub brings : Request → List Mark
brings (ask.Make c) = Thing ∷ []
brings ask.Cluster = Any ∷ []
brings (ask.Processor c) = Any ∷ []
brings (ask.Accept o site mask) = Any ∷ (Any ∷ [])
brings (ask.Empty o c) = Any ∷ []
brings (ask.Front o c) = Any ∷ []
brings ask.Fail = Any ∷ []
brings (ask.Read form) = Any ∷ []
brings (ask.Poll events) = Any ∷ (Any ∷ (Any ∷ []))
brings r = []

-- the building of an object is given up
abbrev pub GivesUp : List Todo → Type 0
GivesUp (piece.GiveUpNow ∷ todo) = Unit {0}
GivesUp todo = ⊥

-- what a task waits for, signals or accepts in, it has entered by a call that has not ended, or the running execution is at home there;
-- where it lets others in, nothing holds it up; and it is not at home in an object whose building it gives up
abbrev pub StandsIn : Request → State → Type 0
StandsIn (ask.Wait o c n) s = Backs s.env.exec.home o (s.run ∷ s.callers) × (is_held_up o s.env ≡ false)
StandsIn (ask.Signal o c) s = Backs s.env.exec.home o (s.run ∷ s.callers)
StandsIn (ask.SignalBlock o c) s = Backs s.env.exec.home o (s.run ∷ s.callers) × (is_held_up o s.env ≡ false)
StandsIn (ask.Empty o c) s = Backs s.env.exec.home o (s.run ∷ s.callers)
StandsIn (ask.Front o c) s = Backs s.env.exec.home o (s.run ∷ s.callers)
StandsIn (ask.Accept o site mask) s = Backs s.env.exec.home o (s.run ∷ s.callers) × (is_held_up o s.env ≡ false)
StandsIn (ask.Gone o) s = GivesUp s.run.control → s.env.exec.home ≡ home.Object o → ⊥
StandsIn r s = Unit {0}

module _ (part : ℕ → Part) (source : Source) where
  -- an activation before older ones, which is to find operands with these marks in front of its own
  pub record Stands (h : Home) (ns : List Mark) (a : Active) (older : List Active) : Type 0 where
    pub base : Base
    pub marks : List Mark
    pub holds : Holds h a.this marks a.operands
    pub ok : Ok part source base (ns ++ marks) a.control
    pub backed : base.ground.inside ≡ true → Backs h (object_in a.this) older
    pub thing : base.ground.made ≡ true → IsNew h a.this
    pub waited : base.waited ≡ true → IsOlder older
    pub reason : base.unwound ≡ true → is_some a.raised ≡ true

  -- those that wait for one, the newest first
  abbrev pub Waits : Home → List Active → Type 0
  Waits h [] = Unit {0}
  Waits h (a ∷ older) = Stands h (Any ∷ []) a older × Waits h older

  -- an execution that does not run, unless it has ended
  abbrev pub StandsBy : Stage → Home → Active → List Active → Type 0
  StandsBy Ended h a older = Unit {0}
  StandsBy g h a older = Stands h [] a older × Waits h older

  abbrev pub StandsEx : Home → Ex → Type 0
  StandsEx h x = StandsBy x.links.stage h x.run x.callers

  abbrev pub StandsSlot : Home → Option Ex → Type 0
  StandsSlot h None = Unit {0}
  StandsSlot h (Some x) = StandsEx h x

  abbrev pub StandsParked : Home → List (ℕ × Option Ex) → Type 0
  StandsParked h [] = Unit {0}
  StandsParked h (p ∷ ps) = StandsSlot h p.1 × StandsParked h ps

  abbrev pub StandsHand : List (ℕ × Members) → Type 0
  StandsHand [] = Unit {0}
  StandsHand (p ∷ ps) = StandsParked (home.Object p.0) p.1.parked × StandsHand ps

  -- what is at home somewhere, if there is anything
  abbrev pub StandsMembers : Home → Option Members → Type 0
  StandsMembers h None = Unit {0}
  StandsMembers h (Some m) = StandsParked h m.parked

  -- a task, but for its running execution
  pub record StandsEnv (e : Env) : Type 0 where
    pub house : StandsParked (home.Task e.own) e.house.parked
    pub hand : StandsHand e.hand

  -- with it, which is to find operands with these marks, and with this own object
  pub record StandsWith (mine : ℕ) (ns : List Mark) (s : State) : Type 0 where
    pub own : s.env.own ≡ mine
    pub run : Stands s.env.exec.home ns s.run s.callers
    pub callers : Waits s.env.exec.home s.callers
    pub env : StandsEnv s.env
    pub here : IsHere s.env.own s.env.hand s.env.exec.home

  abbrev pub StandsState : ℕ → State → Type 0
  StandsState mine s = StandsWith mine [] s

  -- a task that has asked something; behind an end and a fault nothing is done, and at its end nothing holds it up in its own object
  abbrev pub StandsAsk : ℕ → Request → State → Type 0
  StandsAsk mine ask.End s = StandsEnv s.env × (is_held_up mine s.env ≡ false)
  StandsAsk mine (ask.Fault f) s = StandsEnv s.env
  StandsAsk mine r s = StandsWith mine (brings r) s

  pub record StandsAsking (mine : ℕ) (before : State) (r : Request) (s : State) : Type 0 where
    pub state : StandsAsk mine r s
    pub inside : StandsIn r before
    pub exec : s.env.exec ≡ before.env.exec
    -- what was in hand is
    pub hand : (q : ℕ) → is_some (find q before.env.hand) ≡ true → is_some (find q s.env.hand) ≡ true

  abbrev pub StandsStep : ℕ → State → Step → Type 0
  StandsStep mine before (Goes s) = StandsState mine s
  StandsStep mine before (Ticks s) = StandsState mine s
  StandsStep mine before (Asks r s) = StandsAsking mine before r s

-- To-do lists before which the place that is bound lies among the operands, as deep as the piece that binds it expects it: a place that the
-- statement has named, behind all that is in scope.
use Rattle.std.specs.Prelude.{◌≡◌, ℕ, zero, suc, ◌<◌, ◌⊎◌, true, List, [], ◌∷◌, Option, Some, None}
use Rattle.uc_tree.specs.Source.{Expr, Source, Variable, Element, OfObject, OwnField, Bind, MakeOn, NewCluster, NewProcessor, CleanUp, Destroys, DestroysAll, Stmt, Stmts, Evaluate, Fill, Scoped, Built, Handlers, Clauses, Routine}
use Rattle.uc_entry.specs.declared.request.Request.{Request}
use Rattle.uc_entry.specs.declared.request.Request.TheVariants as ask
use Rattle.uc_machine.specs.declared.exec.Exec.{Exec}
use Rattle.uc_machine.specs.declared.exec.Home.{Home}
use Rattle.uc_machine.specs.declared.exec.Owner.{Owner}
use Rattle.uc_machine.specs.declared.exec.Owner.TheVariants.{Frame}
use Rattle.uc_machine.specs.Executions.{others}
use Rattle.uc_machine.specs.Pieces as piece
use Rattle.uc_machine.specs.Pieces.{Value, Place, Object, object_in, Slot, FieldAt, At, further, Todo, Sort, sort, Active, State, Members, Step, Goes, Ticks, Asks, top, below}
use Rattle.uc_answer_laws.specs.Suiting.{Form, AnObject, form_of_request}
use Rattle.uc_state_laws.specs.Ordinary.{IsOwn}
use Rattle.uc_state_laws.specs.RoomStates.{AllBefore}
use Rattle.uc_state_laws.specs.Opening.{Destroying, is_numbered, EndsField, EndsElement, OpenStmt, OpenStmts, OpenHandlers, OpenClauses}
use Rattle.uc_state_laws.specs.Counted.{params, count, CountedExpr, CountedExprs, CountedMaybe, CountedItems, CountedTargets, CountedDeclared, CountedClean, CountedStmt, CountedStmts, CountedHandlers, CountedClauses}
use Rattle.uc_state_laws.specs.Marked.{operands}
use Rattle.uc_place_laws.specs.NamedResting.{AllWait, NamedMembers, NamedEnv, NamedState}

-- a place as a statement names it where it binds that: a variable, a field of the object at hand, an element of one
abbrev pub IsPlace : Expr → Type 0
IsPlace (Variable k) = Unit {0}
IsPlace (OfObject (OwnField s i)) = Unit {0}
IsPlace (Element n s e i) = IsPlace e
IsPlace e = ⊥

-- what that is, in an activation with this frame and this object
abbrev pub Denotes : Owner → Value → Expr → Value → Type 0
Denotes o this (Variable k) v = v ≡ Place o (Slot k ∷ [])
Denotes o this (OfObject (OwnField s i)) v = v ≡ further (FieldAt s i) this
Denotes o this (Element n s e i) v = (w : Value) × (j : ℕ) × (j < n) × Denotes o this e w × (v ≡ further (At s j) w)
Denotes o this e v = ⊥

-- an object, a cluster or a processor, by its number
abbrev pub IsObject : Value → Type 0
IsObject v = v ≡ Object (object_in v)

-- what is known of an operand: nothing, that it is the place of this name, or that it is an object
pub data Mark : Type 0 where
  Any : Mark
  Named : Expr → Mark
  Thing : Mark

abbrev pub Meets : Owner → Value → Mark → Value → Type 0
Meets o this Any v = Unit {0}
Meets o this (Named e) v = Denotes o this e v
Meets o this Thing v = IsObject v

-- of the newest operands, the first mark for the newest; of what lies below nothing is known
abbrev pub Holds : Owner → Value → List Mark → List Value → Type 0
Holds o this [] vs = Unit {0}
Holds o this (m ∷ ms) vs = Meets o this m (top vs) × Holds o this ms (below vs)

abbrev pub rest : List Mark → List Mark
rest [] = []
rest (m ∷ ms) = ms

-- behind so many operands
abbrev pub rests : ℕ → List Mark → List Mark
rests zero ms = ms
rests (suc n) ms = rest (rests n ms)

-- in front of these so many of which nothing is known
abbrev pub anys : ℕ → List Mark → List Mark
anys zero ms = ms
anys (suc n) ms = anys n (Any ∷ ms)

-- the first is the place of a name of which this holds
abbrev pub OfNamed : List Mark → (Expr → Type 0) → Type 0
OfNamed [] next = ⊥
OfNamed (Any ∷ ms) next = ⊥
OfNamed (Named e ∷ ms) next = next e
OfNamed (Thing ∷ ms) next = ⊥

-- the first is an object
abbrev pub IsThing : List Mark → Type 0
IsThing (Thing ∷ ms) = Unit {0}
IsThing ms = ⊥

-- what may be known of the number of a new object that is told
abbrev pub IsTold : Mark → Type 0
IsTold Any = Unit {0}
IsTold (Named e) = ⊥
IsTold Thing = Unit {0}

-- a new cluster or a new processor
abbrev pub IsMaking : Expr → Type 0
IsMaking (OfObject NewCluster) = Unit {0}
IsMaking (OfObject (NewProcessor e)) = Unit {0}
IsMaking e = ⊥

-- where a scope opens behind the statement that binds a place, or a part of the object at hand: its clean-up ends what is known by its
-- number at that place, and that is given there; in a destructor it may be of a field
abbrev pub EndsIt : Type 0 → Expr → CleanUp → Type 0
EndsIt Given e (Destroys d) = (Destroying d e × (is_numbered d ≡ true) × Given) ⊎ EndsField d
EndsIt Given e c = Unit {0}

-- behind one that binds so many elements of an array it ends as many
abbrev pub EndsEach : Type 0 → ℕ → Expr → CleanUp → Type 0
EndsEach Given n e (DestroysAll m d) = ((n ≡ m) × Destroying d e × (is_numbered d ≡ true) × Given) ⊎ EndsElement d
EndsEach Given n e c = Unit {0}

abbrev pub OpensFor : (CleanUp → Type 0) → Stmts → Type 0
OpensFor P (Scoped c rest) = P c
OpensFor P (Built c rest) = P c
OpensFor P ss = Unit {0}

-- what holds of the place that is bound, if one is, and of what is to be given there
abbrev pub OfPlace : (Type 0 → Expr → Type 0) → Expr → Type 0
OfPlace P (OfObject (Bind p e)) = P (IsMaking e) p
OfPlace P (OfObject (MakeOn c r written p args)) = P (Unit {0}) p
OfPlace P e = Unit {0}

-- so it is behind an expression that is a statement, and behind one that builds so many elements
abbrev pub Opened : Expr → Stmts → Type 0
Opened e ss = OfPlace (λ Given p. OpensFor (EndsIt Given p) ss) e

abbrev pub OpenedEach : ℕ → Expr → Stmts → Type 0
OpenedEach n e ss = OfPlace (λ Given p. OpensFor (EndsEach Given n p) ss) e

abbrev pub OpenedBy : Stmt → Stmts → Type 0
OpenedBy (Evaluate line e) ss = Opened e ss
OpenedBy (Fill line n e d) ss = OpenedEach n e ss
OpenedBy a ss = Unit {0}

-- of the statements that come next, if such come next
abbrev pub Next : (Stmts → Type 0) → List Todo → Type 0
Next P (piece.Rest ss ∷ todo) = P ss
Next P todo = Unit {0}

abbrev pub NoneNext : List Todo → Type 0
NoneNext (piece.Rest ss ∷ todo) = ⊥
NoneNext todo = Unit {0}

abbrev pub Opening : Expr → List Todo → Type 0
Opening e (piece.DropNow ∷ (piece.Within line ∷ todo)) = Next (Opened e) todo
Opening e (piece.DropNow ∷ (piece.MoreNow ∷ (piece.FillNow n b d ∷ (piece.Within line ∷ todo)))) = Next (OpenedEach n e) todo
Opening e todo = Unit {0}

-- and behind the piece that binds the place in it
abbrev pub ScopeFor : Type 0 → Expr → List Todo → Type 0
ScopeFor Given p (piece.DropNow ∷ (piece.Within line ∷ todo)) = Next (OpensFor (EndsIt Given p)) todo
ScopeFor Given p (piece.DropNow ∷ (piece.MoreNow ∷ (piece.FillNow n b d ∷ (piece.Within line ∷ todo)))) = Next (OpensFor (EndsEach Given n p)) todo
ScopeFor Given p todo = Unit {0}

-- statements in which each scope opens behind what builds its object, behind some statement
abbrev pub SomeOpen : Stmts → Type 0
SomeOpen ss = (before : Option Stmt) × OpenStmts before ss

module _ (Sized : ℕ → ℕ → Type 0) where
  -- such a place where all objects in scope lie before its variable
  abbrev pub Behind : Expr → List Todo → Type 0
  Behind (Variable k) todo = AllBefore Sized k todo
  Behind (OfObject (OwnField s i)) todo = Unit {0}
  Behind (Element n s e i) todo = Behind e todo
  Behind e todo = ⊥

  -- with the scope that opens behind it, where this is what follows
  abbrev pub IsFor : Type 0 → List Todo → List Todo → Expr → Type 0
  IsFor Given todo next e = Behind e todo × ScopeFor Given e next

module _ (source : Source) where
  -- code in which arguments are counted and scopes open so
  abbrev pub CodeStmt : Stmt → Type 0
  CodeStmt a = CountedStmt source a × OpenStmt a

  abbrev pub CodeStmts : Stmts → Type 0
  CodeStmts ss = CountedStmts source ss × SomeOpen ss

  abbrev pub CodeHandlers : Handlers → Type 0
  CodeHandlers hs = CountedHandlers source hs × OpenHandlers hs

  abbrev pub CodeClauses : Clauses → Type 0
  CodeClauses cs = CountedClauses source cs × OpenClauses cs

  abbrev pub CodeRoutine : Option Routine → Type 0
  CodeRoutine None = Unit {0}
  CodeRoutine (Some r) = CodeStmts r.body

  -- the marks behind a piece; behind one of statements nothing is known
  abbrev pub after : Todo → List Mark → List Mark
  after piece.LoadNow ms = Any ∷ rest ms
  after (piece.FieldNow k i) ms = Any ∷ rest ms
  after piece.NegateNow ms = Any ∷ rest ms
  after piece.NotNow ms = Any ∷ rest ms
  after piece.CharacterNow ms = Any ∷ rest ms
  after piece.TruthNow ms = Any ∷ rest ms
  after (piece.OperateNow op) ms = Any ∷ rest (rest ms)
  after piece.CopyNow ms = Any ∷ ms
  after piece.CopyBelowNow ms = Any ∷ ms
  after piece.DropNow ms = rest ms
  after piece.DropBelowNow ms = Any ∷ rest (rest ms)
  after piece.StoreNow ms = rest (rest ms)
  after piece.KeepNow ms = Any ∷ rest (rest ms)
  after (piece.SetNow k) ms = ms
  after (piece.Choose e f) ms = Any ∷ rest ms
  after (piece.Arguments es) ms = anys (count es) ms
  after piece.TickNow ms = ms
  after (piece.CallNow r) ms = Any ∷ rests (params source r) ms
  after (piece.CallOnNow r) ms = Any ∷ rests (suc (params source r)) ms
  after (piece.CallUnwrittenNow r) ms = Any ∷ rests (suc (params source r)) ms
  after (piece.LiveNow r) ms = ms
  after (piece.EnterNow m r) ms = ms
  after piece.LeaveNow ms = ms
  after piece.ClusterEndNow ms = Any ∷ rest ms
  after piece.ProcessorEndNow ms = Any ∷ rest ms
  after (piece.ConditionNow k n) ms = Any ∷ rest ms
  after piece.WaitNow ms = Any ∷ rest (rest ms)
  after piece.SignalNow ms = Any ∷ rest ms
  after piece.SignalBlockNow ms = Any ∷ rest ms
  after piece.EmptyNow ms = Any ∷ rest ms
  after piece.FrontNow ms = Any ∷ rest ms
  after (piece.ReadNow form) ms = Any ∷ ms
  after piece.RaiseNow ms = rests 3 ms
  after piece.DeliverNow ms = rests 3 ms
  after piece.PollNow ms = ms
  after (piece.ClearNow k n) ms = ms
  after piece.Land ms = ms
  after p ms = []

  -- the code of a piece, but for those of which more is asked
  abbrev pub CountedPiece : Todo → Type 0
  CountedPiece (piece.Choose e f) = CountedExpr source e × CountedExpr source f
  CountedPiece (piece.Arguments es) = CountedExprs source es
  CountedPiece (piece.TurnNow o t e b) = CountedExpr source t × CountedMaybe source e × CodeStmt b
  CountedPiece (piece.Again o t e b) = CountedExpr source t × CountedMaybe source e × CodeStmt b
  CountedPiece (piece.Items is) = CountedItems source is
  CountedPiece (piece.Values is) = CountedItems source is
  CountedPiece (piece.Pieces is) = CountedItems source is
  CountedPiece (piece.Targets xs) = CountedTargets source xs
  CountedPiece (piece.Variables ds) = CountedDeclared source ds
  CountedPiece (piece.Rest ss) = CodeStmts ss
  CountedPiece (piece.InLoop o t e b) = CountedExpr source t × CountedMaybe source e × CodeStmt b
  CountedPiece (piece.Clean c) = CountedClean source c
  CountedPiece (piece.Sweep e) = CountedExpr source e
  CountedPiece (piece.Part c) = CountedClean source c
  CountedPiece (piece.Guard hs) = CodeHandlers hs
  CountedPiece (piece.Guards cs) = CountedClauses source cs
  CountedPiece p = Unit {0}

  -- one who leaves a simple piece comes to what stands behind it; at a mark that may be done
  abbrev pub LeftBy : Sort → Type 0 → Type 0 → Type 0
  LeftBy piece.Simple left ok = left
  LeftBy (piece.IsLoop o t e b) left ok = (CountedExpr source t × CountedMaybe source e × CodeStmt b) × ok
  LeftBy piece.IsWhole left ok = ok
  LeftBy (piece.IsClean c) left ok = CountedClean source c × ok
  LeftBy (piece.IsFill n b d) left ok = (CountedExpr source b × CountedExpr source d) × ok
  LeftBy (piece.IsSweep e) left ok = CountedExpr source e × ok
  LeftBy (piece.IsPart c) left ok = CountedClean source c × ok
  LeftBy (piece.IsGuard hs) left ok = CodeHandlers hs × ok
  LeftBy piece.IsFinish left ok = ok
  LeftBy piece.IsFinishCoroutine left ok = ok

module _ (Sized : ℕ → ℕ → Type 0) (source : Source) where
  abbrev mutual
    -- a to-do list is in order before operands of which this is known; a place that is found may be known by its name or not, and a
    -- new object to be one or not
    pub Ok : List Mark → List Todo → Type 0
    Ok ms [] = Unit {0}
    Ok ms (piece.Eval e ∷ todo) = CountedExpr source e × Opening e todo × (Ok (Any ∷ ms) todo ⊎ ((IsPlace e × Ok (Named e ∷ ms) todo) ⊎ (IsMaking e × Ok (Thing ∷ ms) todo)))
    Ok ms (piece.ElementNow n s ∷ todo) =
        Ok (Any ∷ rest (rest ms)) todo ⊎ OfNamed (rest ms) (λ e. (i : Expr) × IsPlace e × Ok (Named (Element n s e i) ∷ rest (rest ms)) todo)
    Ok ms (piece.BindNow ∷ todo) = OfNamed (rest ms) (IsFor Sized (IsThing ms) todo todo) × Ok (Any ∷ rest (rest ms)) todo × (OfNamed (rest ms) IsOwn ⊎ IsThing ms)
    Ok ms (piece.MakeNow c r ∷ todo) =
        OfNamed (rests (params source r) ms) (IsFor Sized (Unit {0}) todo (others todo)) × Ok (anys (suc (params source r)) (rests (suc (params source r)) ms)) todo
    Ok ms (piece.BindMadeNow c r ∷ todo) =
        OfNamed (rests (params source r) (rest ms)) (IsFor Sized (IsThing ms) todo (others todo)) × Ok (anys (suc (params source r)) (rests (suc (params source r)) (rest ms))) todo × IsThing ms
    Ok ms (piece.ClusterNow ∷ todo) = (m : Mark) × IsTold m × Ok (m ∷ ms) todo
    Ok ms (piece.ProcessorNow ∷ todo) = (m : Mark) × IsTold m × Ok (m ∷ rest ms) todo
    Ok ms (piece.FillNow n b d ∷ todo) =
        (CountedExpr source b × CountedExpr source d) × Opening b (piece.DropNow ∷ (piece.MoreNow ∷ (piece.FillNow n b d ∷ todo))) × Ok [] todo
    Ok ms (piece.Do a ∷ todo) = CodeStmt source a × Next (OpenedBy a) todo × Ok [] todo
    Ok ms (piece.Branch a b ∷ todo) = (CodeStmt source a × CodeStmt source b) × NoneNext todo × Ok [] todo
    Ok ms (piece.ChooseNow cs ∷ todo) = CodeClauses source cs × NoneNext todo × Ok [] todo
    Ok ms (piece.Exit w ∷ todo) = Left todo
    Ok ms (piece.Unwind ∷ todo) = Left todo
    Ok ms (p ∷ todo) = CountedPiece source p × Ok (after source p ms) todo

    -- it is for one who leaves it
    pub Left : List Todo → Type 0
    Left [] = Unit {0}
    Left (p ∷ todo) = LeftBy source (sort p) (Left todo) (Ok [] todo)

  -- an activation of the execution n that is to find so many operands in front of its own
  pub record Finds (many : ℕ) (n : Exec) (a : Active) : Type 0 where
    pub marks : List Mark
    pub holds : Holds (Frame n a.frame) a.this marks a.operands
    pub ok : Ok (anys many marks) a.control

  abbrev pub Runs : Exec → Active → Type 0
  Runs n a = Finds 0 n a

  abbrev pub Waits : Exec → Active → Type 0
  Waits n a = Finds 1 n a

  abbrev pub PlacedMembers : Home → Option Members → Type 0
  PlacedMembers h m = NamedMembers Runs Waits h m

  abbrev pub PlacedState : State → Type 0
  PlacedState s = NamedState Runs Waits s

  -- one that is to find a new object in front of them
  pub record FindsObject (n : Exec) (a : Active) : Type 0 where
    pub first : Mark
    pub told : IsTold first
    pub marks : List Mark
    pub holds : Holds (Frame n a.frame) a.this marks a.operands
    pub ok : Ok (first ∷ marks) a.control

  -- what comes with an answer of a form
  abbrev pub FindsFor : Form → Exec → Active → Type 0
  FindsFor AnObject n a = FindsObject n a
  FindsFor form n a = Finds (operands form) n a

  -- behind a request: so many operands come with the answer; behind an end and a fault nothing is done
  abbrev pub FindsBehind : Request → Exec → Active → Type 0
  FindsBehind ask.End n a = Unit {0}
  FindsBehind (ask.Fault f) n a = Unit {0}
  FindsBehind r n a = FindsFor (form_of_request r) n a

  pub record PlacedAsk (r : Request) (s : State) : Type 0 where
    pub run : FindsBehind r s.env.exec s.run
    pub callers : AllWait Runs Waits s.env.exec s.callers
    pub env : NamedEnv Runs Waits s.env

  abbrev pub PlacedStep : Step → Type 0
  PlacedStep (Goes s) = PlacedState s
  PlacedStep (Ticks s) = PlacedState s
  PlacedStep (Asks r s) = PlacedAsk r s

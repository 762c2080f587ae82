-- To-do lists before which the place that is bound, and the object of a constructor that is called, lie among the operands aside of the
-- variables that are still to be bound, and in what such constructors build that are called one by another.
use Rattle.std.specs.Prelude.{◌≡◌, ℕ, zero, suc, ◌<◌, ◌⊎◌, Bool, true, false, List, [], ◌∷◌, Option, Some, None}
use Rattle.uc_tree.specs.Source.{Expr, Exprs, Source, CleanUp, Stmt, Stmts, Handlers, Clauses, Item, Target, Declared, Routine}
use Rattle.uc_entry.specs.declared.request.Request.{Request}
use Rattle.uc_entry.specs.declared.request.Request.TheVariants as ask
use Rattle.uc_machine.specs.declared.exec.Exec.{Exec}
use Rattle.uc_machine.specs.declared.exec.Home.{Home}
use Rattle.uc_machine.specs.declared.exec.Owner.{Owner}
use Rattle.uc_machine.specs.declared.exec.Owner.TheVariants.{Frame, Fields}
use Rattle.uc_machine.specs.Executions.{exec_eq}
use Rattle.uc_machine.specs.Pieces as piece
use Rattle.uc_machine.specs.Pieces.{Link, Value, Place, LAST_ADDRESS, Slot, address, further, Todo, Sort, sort, Active, State, Members, Step, Goes, Ticks, Asks, top, below}
use Rattle.uc_answer_laws.specs.Suiting.{Form, AnObject, JustGo, form_of_request}
use Rattle.uc_state_laws.specs.There.{IsLoose, IsBefore, Pends, EachNext}
use Rattle.uc_state_laws.specs.Counted.{params, count, CountedExpr, CountedExprs, CountedMaybe, CountedItems, CountedTargets, CountedDeclared, CountedClean, CountedStmt, CountedStmts, CountedHandlers, CountedClauses}
use Rattle.uc_state_laws.specs.Marked.{operands}
use Rattle.uc_place_laws.specs.OlderResting.{AllWait, NamedMembers, NamedEnv, NamedState}
use Rattle.uc_place_laws.specs.OpeningLaws.{Awaited}
use Rattle.uc_place_laws.specs.Calling.{Calling, NoneCalled, NoneBehind, EndsBefore}
use Rattle.uc_place_laws.specs.Siting.{Nowhere, OpensAlone, PlainExpr, PlainExprs, PlainMaybe, PlainItems, PlainTargets, PlainDeclared, PlainNew, SitedAt, BuildsAt, Singly, PlainSingle, SitedClean, SitedStmt, SitedStmts, SitedHandlers, SitedClauses}

-- a place that has an address of its own lies before a cell
abbrev pub IsNearer : ℕ → List Link → Type 0
IsNearer cell p = address p < LAST_ADDRESS → IsBefore cell p

-- a variable, or an element of one
abbrev pub IsOfVariable : List Link → Type 0
IsOfVariable (Slot k ∷ []) = Unit {0}
IsOfVariable (piece.At s j ∷ p) = IsOfVariable p
IsOfVariable p = ⊥

-- what lies in an object, further than that
pub data IsIn (w : Value) : Value → Type 0 where
  first : (l : Link) → IsIn w (further l w)
  further_in : {v : Value} → IsIn w v → (l : Link) → IsIn w (further l v)

-- `Z d n`: what the routine d destroys has n cells
module _ (Z : ℕ → ℕ → Type 0) where
  -- the variables that activations have still to bind in the frame of a depth lie before a cell, and so do the elements of arrays that are
  -- being filled there, and the objects that are variables whose constructors are still to be called
  abbrev pub PendsBefore : ℕ → ℕ → List Active → Type 0
  PendsBefore cell d [] = Unit {0}
  PendsBefore cell d (c ∷ cs) =
      (c.frame ≡ d → Pends (IsBefore cell) c.control × EachNext (IsNearer cell) c.control × Calling (EndsBefore Z cell) c.control) ×
      PendsBefore cell d cs

  -- a place of the execution n lies aside before these older activations: in a mutex object, or in a frame of this execution, behind all that they
  -- have still to bind and to build there; so does what is no place
  abbrev pub OwnerAside : Exec → List Active → Owner → ℕ → Type 0
  OwnerAside n older (Frame m d) cell = (exec_eq m n ≡ true) × PendsBefore cell d older
  OwnerAside n older (Fields o) cell = Unit {0}

  abbrev pub LiesAside : Exec → List Active → Value → Type 0
  LiesAside n older (Place o p) = OwnerAside n older o (address p)
  LiesAside n older v = Unit {0}

  -- the objects for whose scopes these older activations wait end before a cell of the frame of a depth
  abbrev pub AwaitsBefore : ℕ → ℕ → List Active → Type 0
  AwaitsBefore cell d [] = Unit {0}
  AwaitsBefore cell d (c ∷ cs) = (c.frame ≡ d → Awaited (EndsBefore Z cell) c.control) × AwaitsBefore cell d cs

  -- a variable of the frame of a depth lies aside, and behind those too
  abbrev pub IsNear : ℕ → List Active → ℕ → Type 0
  IsNear d older k = PendsBefore (address (Slot k ∷ [])) d older × AwaitsBefore (address (Slot k ∷ [])) d older

  -- the place of a variable of this frame, or of an element of it, is so
  abbrev pub VariableAt : Exec → ℕ → List Active → Value → Type 0
  VariableAt n f older v = (p : List Link) × (v ≡ Place (Frame n f) p) × IsOfVariable p × AwaitsBefore (address p) f older

  -- an object that constructors may have at hand: none in a frame, or one that is such a variable of the first of these activations, or lies in the object at
  -- hand of that, which is such an object too
  abbrev pub Sits : Exec → List Active → Value → Type 0
  Sits n [] v = IsLoose v
  Sits n (b ∷ older) v = IsLoose v ⊎ (VariableAt n b.frame older v ⊎ (IsIn b.this v × Sits n older b.this))

  -- so it is of the place of one that such a constructor may be called for, by an activation with this frame and this object
  abbrev pub SitsAt : Exec → ℕ → Value → List Active → Value → Type 0
  SitsAt n f this older v = VariableAt n f older v ⊎ (IsIn this v × Sits n older this)

-- what is known of an operand: nothing, that it lies aside, or that it is no place and no execution
pub data Mark : Type 0 where
  Any : Mark
  Aside : Mark
  Loose : Mark

module _ (Z : ℕ → ℕ → Type 0) where
  -- in an activation with this frame and this object before older ones
  abbrev pub Meets : Exec → ℕ → Value → List Active → Mark → Value → Type 0
  Meets n f this older Any v = Unit {0}
  Meets n f this older Aside v = LiesAside Z n older v × SitsAt Z n f this older v
  Meets n f this older Loose v = IsLoose v

  -- of the newest operands, the first mark for the newest; of what lies below nothing is known
  abbrev pub Holds : Exec → ℕ → Value → List Active → List Mark → List Value → Type 0
  Holds n f this older [] vs = Unit {0}
  Holds n f this older (m ∷ ms) vs = Meets n f this older m (top vs) × Holds n f this older ms (below vs)

abbrev pub rest : List Mark → List Mark
rest [] = []
rest (m ∷ ms) = ms

-- behind so many operands
abbrev pub rests : ℕ → List Mark → List Mark
rests zero ms = ms
rests (suc n) ms = rest (rests n ms)

-- in front of these so many of which nothing is known
abbrev pub anys : ℕ → List Mark → List Mark
anys zero ms = ms
anys (suc n) ms = anys n (Any ∷ ms)

-- the first lies aside
abbrev pub FirstAside : List Mark → Type 0
FirstAside [] = ⊥
FirstAside (Any ∷ ms) = ⊥
FirstAside (Aside ∷ ms) = Unit {0}
FirstAside (Loose ∷ ms) = ⊥

-- the first is no place and no execution
abbrev pub FirstLoose : List Mark → Type 0
FirstLoose (Loose ∷ ms) = Unit {0}
FirstLoose ms = ⊥

-- what may be known of the number of a new object that is told
abbrev pub IsTold : Mark → Type 0
IsTold Any = Unit {0}
IsTold Aside = ⊥
IsTold Loose = Unit {0}

-- nothing is still to be bound
abbrev pub Free : List Todo → Type 0
Free todo = Pends (λ p. ⊥) todo

-- nothing is still to be evaluated, nothing is called at an object, and no statement is still to be done but those that are left of blocks
abbrev pub Calm : List Todo → Type 0
Calm [] = Unit {0}
Calm (piece.Eval e ∷ todo) = ⊥
Calm (piece.Do a ∷ todo) = ⊥
Calm (piece.BindNow ∷ todo) = ⊥
Calm (piece.MakeNow c r ∷ todo) = ⊥
Calm (piece.BindMadeNow c r ∷ todo) = ⊥
Calm (piece.CallOnNow r ∷ todo) = ⊥
Calm (piece.CallUnwrittenNow r ∷ todo) = ⊥
Calm (p ∷ todo) = Calm todo

-- no scope opens next of an array of what is known by its number
abbrev pub NextAlone : List Todo → Type 0
NextAlone (piece.Rest ss ∷ todo) = OpensAlone ss
NextAlone todo = Unit {0}

module _ (source : Source) where
  -- the marks behind a piece; behind one of statements nothing is known
  abbrev pub after : Todo → List Mark → List Mark
  after piece.LoadNow ms = Any ∷ rest ms
  after (piece.FieldNow k i) ms = Any ∷ rest ms
  after piece.NegateNow ms = Any ∷ rest ms
  after piece.NotNow ms = Any ∷ rest ms
  after piece.CharacterNow ms = Any ∷ rest ms
  after piece.TruthNow ms = Any ∷ rest ms
  after (piece.OperateNow op) ms = Any ∷ rest (rest ms)
  after piece.CopyNow ms = Any ∷ ms
  after piece.CopyBelowNow ms = Any ∷ ms
  after piece.DropNow ms = rest ms
  after piece.DropBelowNow ms = Any ∷ rest (rest ms)
  after piece.StoreNow ms = rest (rest ms)
  after piece.KeepNow ms = Any ∷ rest (rest ms)
  after (piece.SetNow k) ms = ms
  after (piece.Choose e f) ms = Any ∷ rest ms
  after (piece.Arguments es) ms = anys (count es) ms
  after piece.TickNow ms = ms
  after (piece.CallNow r) ms = Any ∷ rests (params source r) ms
  after (piece.CallOnNow r) ms = Any ∷ rests (suc (params source r)) ms
  after (piece.CallUnwrittenNow r) ms = Any ∷ rests (suc (params source r)) ms
  after (piece.LiveNow r) ms = ms
  after (piece.EnterNow m r) ms = ms
  after piece.LeaveNow ms = ms
  after piece.ClusterEndNow ms = Any ∷ rest ms
  after piece.ProcessorEndNow ms = Any ∷ rest ms
  after (piece.ConditionNow k n) ms = Any ∷ rest ms
  after piece.WaitNow ms = Any ∷ rest (rest ms)
  after piece.SignalNow ms = Any ∷ rest ms
  after piece.SignalBlockNow ms = Any ∷ rest ms
  after piece.EmptyNow ms = Any ∷ rest ms
  after piece.FrontNow ms = Any ∷ rest ms
  after (piece.ReadNow form) ms = Any ∷ ms
  after piece.RaiseNow ms = rests 3 ms
  after piece.DeliverNow ms = rests 3 ms
  after piece.PollNow ms = ms
  after (piece.ClearNow k n) ms = ms
  after piece.Land ms = ms
  after p ms = []

module _ (makes : ℕ → Bool) (source : Source) where
  -- code in which arguments are counted and objects are built where they may be
  abbrev pub CodeExpr : Expr → Type 0
  CodeExpr e = CountedExpr source e × PlainExpr makes e

  abbrev pub CodeExprs : Exprs → Type 0
  CodeExprs es = CountedExprs source es × PlainExprs makes es

  abbrev pub CodeMaybe : Option Expr → Type 0
  CodeMaybe e = CountedMaybe source e × PlainMaybe makes e

  abbrev pub CodeItems : List Item → Type 0
  CodeItems is = CountedItems source is × PlainItems makes is

  abbrev pub CodeTargets : List Target → Type 0
  CodeTargets xs = CountedTargets source xs × PlainTargets makes xs

  abbrev pub CodeDeclared : List Declared → Type 0
  CodeDeclared ds = CountedDeclared source ds × PlainDeclared makes ds

  abbrev pub CodeEnds : Expr → Type 0
  CodeEnds e = CountedExpr source e × PlainSingle makes false e

  abbrev pub CodeClean : CleanUp → Type 0
  CodeClean c = CountedClean source c × SitedClean makes c

  abbrev pub CodeStmt : (ℕ → Type 0) → Type 0 → Bool → Stmt → Type 0
  CodeStmt Near Alone made a = CountedStmt source a × SitedStmt makes Near Alone made a

  abbrev pub CodeStmts : Bool → Stmts → Type 0
  CodeStmts made ss = CountedStmts source ss × SitedStmts makes made ss

  abbrev pub CodeHandlers : Bool → Handlers → Type 0
  CodeHandlers made hs = CountedHandlers source hs × SitedHandlers makes made hs

  abbrev pub CodeClauses : Bool → Clauses → Type 0
  CodeClauses made cs = CountedClauses source cs × SitedClauses makes made cs

  abbrev pub CodeLoop : Bool → Expr → Option Expr → Stmt → Type 0
  CodeLoop made t e b = CodeExpr t × CodeMaybe e × CodeStmt Nowhere ⊥ made b

  abbrev pub CodeRoutine : Bool → Option Routine → Type 0
  CodeRoutine made None = Unit {0}
  CodeRoutine made (Some r) = CodeStmts made r.body

  -- a constructor is called at what is no place, or at what lies aside, while nothing behind that is still to be bound
  abbrev pub CallFits : ℕ → List Mark → List Todo → Type 0
  CallFits r ms todo =
      (makes r ≡ false) ⊎ (FirstLoose (rests (params source r) ms) ⊎ (FirstAside (rests (params source r) ms) × Free todo × EachNext (λ p. ⊥) todo × NoneCalled todo))

  -- the code of a piece, with what is to do behind it, but for those of which more is asked
  abbrev pub CodePiece : Bool → Todo → List Mark → List Todo → Type 0
  CodePiece made (piece.Choose e f) ms todo = CodeExpr e × CodeExpr f
  CodePiece made (piece.Arguments es) ms todo = CodeExprs es
  CodePiece made (piece.CallOnNow r) ms todo = CallFits r ms todo
  CodePiece made (piece.CallUnwrittenNow r) ms todo = CallFits r ms todo
  CodePiece made (piece.TurnNow o t e b) ms todo = CodeLoop made t e b × Calm todo
  CodePiece made (piece.Again o t e b) ms todo = CodeLoop made t e b × Calm todo
  CodePiece made (piece.Items is) ms todo = CodeItems is
  CodePiece made (piece.Values is) ms todo = CodeItems is
  CodePiece made (piece.Pieces is) ms todo = CodeItems is
  CodePiece made (piece.Targets xs) ms todo = CodeTargets xs
  CodePiece made (piece.Variables ds) ms todo = CodeDeclared ds
  CodePiece made (piece.Rest ss) ms todo = CodeStmts made ss × Calm todo
  CodePiece made (piece.InLoop o t e b) ms todo = CodeLoop made t e b × Calm todo
  CodePiece made (piece.Clean c) ms todo = CodeClean c × Calm todo
  CodePiece made (piece.Sweep e) ms todo = CodeEnds e × Calm todo
  CodePiece made (piece.Part c) ms todo = CodeClean c × Calm todo
  CodePiece made (piece.Guard hs) ms todo = CodeHandlers made hs × Calm todo
  CodePiece made (piece.Guards cs) ms todo = CodeClauses made cs
  -- an execution is given to the object at hand by what builds that
  CodePiece made (piece.SetUpNow r) ms todo = (made ≡ true) × (makes r ≡ false) × Free todo × NoneCalled todo
  CodePiece made p ms todo = Unit {0}

  -- elements are built at a place where no array follows of what is known by its number
  abbrev pub FillsBy : (ℕ → Type 0) → Bool → ℕ → Expr → Expr → List Todo → Type 0
  FillsBy Near made n b d todo =
      CountedExpr source b × (PlainSingle makes made b ⊎ (BuildsAt makes Near made b × EachNext (λ p. ⊥) (piece.DropNow ∷ (piece.MoreNow ∷ (piece.FillNow n b d ∷ todo)))))

  -- one who leaves a simple piece comes to what stands behind it; at a mark that may be done
  abbrev pub LeftBy : (ℕ → Type 0) → Bool → Sort → List Todo → Type 0 → Type 0 → Type 0
  LeftBy Near made piece.Simple todo left ok = left
  LeftBy Near made (piece.IsLoop o t e b) todo left ok = (CodeLoop made t e b × Calm todo) × ok
  LeftBy Near made piece.IsWhole todo left ok = ok
  LeftBy Near made (piece.IsClean c) todo left ok = (CodeClean c × Calm todo) × ok
  LeftBy Near made (piece.IsFill n b d) todo left ok = (FillsBy Near made n b d todo × CodeEnds d × Calm todo) × ok
  LeftBy Near made (piece.IsSweep e) todo left ok = (CodeEnds e × Calm todo) × ok
  LeftBy Near made (piece.IsPart c) todo left ok = (CodeClean c × Calm todo) × ok
  LeftBy Near made (piece.IsGuard hs) todo left ok = (CodeHandlers made hs × Calm todo) × ok
  LeftBy Near made piece.IsFinish todo left ok = ok
  LeftBy Near made piece.IsFinishCoroutine todo left ok = ok

  -- where objects at these variables lie aside, and the object at hand does if the activation builds it
  module _ (Near : ℕ → Type 0) (made : Bool) where
    abbrev mutual
      -- a to-do list is in order before operands of which this is known; a place that is found may be known to lie aside or not, and a new
      -- object to be one or not
      pub Ok : List Mark → List Todo → Type 0
      Ok ms [] = Unit {0}
      Ok ms (piece.Eval e ∷ todo) =
          CountedExpr source e × ((PlainExpr makes e × Ok (Any ∷ ms) todo) ⊎ ((Singly makes made e × Free todo × Ok (Any ∷ ms) todo × NoneCalled todo) ⊎ ((BuildsAt makes Near made e × Free todo × EachNext (λ p. ⊥) todo × Ok (Any ∷ ms) todo × NoneCalled todo) ⊎ ((SitedAt makes Near made e × Ok (Aside ∷ ms) todo) ⊎ (PlainNew makes e × Ok (Loose ∷ ms) todo)))))
      Ok ms (piece.ElementNow n s ∷ todo) = Ok (Any ∷ rest (rest ms)) todo ⊎ (FirstAside (rest ms) × Ok (Aside ∷ rest (rest ms)) todo)
      Ok ms (piece.BindNow ∷ todo) = (FirstAside (rest ms) × Free todo × NoneCalled todo) × Ok (Any ∷ rest (rest ms)) todo
      Ok ms (piece.MakeNow c r ∷ todo) =
          (FirstAside (rests (params source r) ms) × Free todo × NoneBehind todo) × Ok (anys (params source r) (Loose ∷ rests (suc (params source r)) ms)) todo
      Ok ms (piece.BindMadeNow c r ∷ todo) =
          (FirstLoose ms × FirstAside (rests (params source r) (rest ms)) × Free todo × NoneBehind todo) × Ok (anys (params source r) (Loose ∷ rests (suc (params source r)) (rest ms))) todo
      Ok ms (piece.ClusterNow ∷ todo) = (m : Mark) × IsTold m × Ok (m ∷ ms) todo
      Ok ms (piece.ProcessorNow ∷ todo) = (m : Mark) × IsTold m × Ok (m ∷ rest ms) todo
      Ok ms (piece.FillNow n b d ∷ todo) = (FillsBy Near made n b d todo × CodeEnds d × Calm todo) × Ok [] todo
      Ok ms (piece.Do a ∷ todo) = CodeStmt Near (NextAlone todo) made a × Calm todo × Ok [] todo
      Ok ms (piece.Branch a b ∷ todo) = (CodeStmt Nowhere ⊥ made a × CodeStmt Nowhere ⊥ made b) × Calm todo × Ok [] todo
      Ok ms (piece.ChooseNow cs ∷ todo) = CodeClauses made cs × Calm todo × Ok [] todo
      Ok ms (piece.Exit w ∷ todo) = Calm todo × Left todo
      Ok ms (piece.Unwind ∷ todo) = Calm todo × Left todo
      Ok ms (p ∷ todo) = CodePiece made p ms todo × Ok (after source p ms) todo

      -- it is for one who leaves it
      pub Left : List Todo → Type 0
      Left [] = Unit {0}
      Left (p ∷ todo) = LeftBy Near made (sort p) todo (Left todo) (Ok [] todo)

  -- one that runs may be unwound from anywhere
  abbrev pub OkNow : (ℕ → Type 0) → Bool → List Mark → List Todo → Type 0
  OkNow Near made ms (piece.Unwind ∷ todo) = Left Near made todo
  OkNow Near made ms todo = Ok Near made ms todo

module _ (Z : ℕ → ℕ → Type 0) (makes : ℕ → Bool) (source : Source) where
  -- an activation of the execution n, before these older ones, that is to find so many operands in front of its own
  pub record Finds (many : ℕ) (n : Exec) (older : List Active) (a : Active) : Type 0 where
    pub made : Bool
    pub this : made ≡ true → LiesAside Z n older a.this × Sits Z n older a.this
    pub marks : List Mark
    pub holds : Holds Z n a.frame a.this older marks a.operands
    pub ok : Ok makes source (IsNear Z a.frame older) made (anys many marks) a.control

  pub record Runs (n : Exec) (older : List Active) (a : Active) : Type 0 where
    pub made : Bool
    pub this : made ≡ true → LiesAside Z n older a.this × Sits Z n older a.this
    pub marks : List Mark
    pub holds : Holds Z n a.frame a.this older marks a.operands
    pub ok : OkNow makes source (IsNear Z a.frame older) made marks a.control

  abbrev pub Waits : Exec → List Active → Active → Type 0
  Waits n older a = Finds 1 n older a

  abbrev pub AsideMembers : Home → Option Members → Type 0
  AsideMembers h m = NamedMembers Runs Waits h m

  abbrev pub AsideState : State → Type 0
  AsideState s = NamedState Runs Waits s

  -- one that is to find a new object in front of them
  pub record FindsObject (n : Exec) (older : List Active) (a : Active) : Type 0 where
    pub made : Bool
    pub this : made ≡ true → LiesAside Z n older a.this × Sits Z n older a.this
    pub first : Mark
    pub told : IsTold first
    pub marks : List Mark
    pub holds : Holds Z n a.frame a.this older marks a.operands
    pub ok : Ok makes source (IsNear Z a.frame older) made (first ∷ marks) a.control

  -- what comes with an answer of a form
  abbrev pub FindsFor : Form → Exec → List Active → Active → Type 0
  FindsFor AnObject n older a = FindsObject n older a
  FindsFor JustGo n older a = Runs n older a
  FindsFor form n older a = Finds (operands form) n older a

  -- behind a request: so many operands come with the answer; behind an end and a fault nothing is done
  abbrev pub FindsBehind : Request → Exec → List Active → Active → Type 0
  FindsBehind ask.End n older a = Unit {0}
  FindsBehind (ask.Fault f) n older a = Unit {0}
  FindsBehind r n older a = FindsFor (form_of_request r) n older a

  pub record AsideAsk (r : Request) (s : State) : Type 0 where
    pub run : FindsBehind r s.env.exec s.callers s.run
    pub callers : AllWait Runs Waits s.env.exec s.callers
    pub env : NamedEnv Runs Waits s.env

  abbrev pub AsideStep : Step → Type 0
  AsideStep (Goes s) = AsideState s
  AsideStep (Ticks s) = AsideState s
  AsideStep (Asks r s) = AsideAsk r s

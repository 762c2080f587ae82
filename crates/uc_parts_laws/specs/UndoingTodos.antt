-- To-do lists in which constructors that build parts are called where what takes these over stands behind the call, at the place that lies among the operands.
use Rattle.std.specs.Prelude.{◌≡◌, ℕ, pos, zero, suc, ◌<◌, ◌⊎◌, List, [], ◌∷◌, Option, Some, None}
use Rattle.uc_tree.specs.Source.{Shape, Expr, Exprs, Variable, Element, OfObject, OwnField, Counted, Item, Target, Declared, CleanUp, Stmt, Stmts, Nil, Handlers, Clauses, Routine}
use Rattle.uc_machine.specs.declared.exec.Exec.{Exec}
use Rattle.uc_machine.specs.declared.exec.Owner.TheVariants.{Frame}
use Rattle.uc_machine.specs.Pieces as piece
use Rattle.uc_machine.specs.Pieces.{Slot, FieldAt, Value, Number, Place, Object, further, Todo, Sort, sort, Active, top, below}
use Rattle.uc_state_laws.specs.Counted.{params, count, CountedExpr, CountedExprs, CountedMaybe, CountedItems, CountedTargets, CountedDeclared, CountedClean, CountedStmt, CountedStmts, CountedHandlers, CountedClauses}
use Rattle.uc_parts_laws.specs.PartStates.{Setting}
use Rattle.uc_parts_laws.specs.Undoing.{BuildsNone, PlainExpr, PlainExprs, PlainMaybe, PlainItems, PlainTargets, PlainDeclared, PlainClean, IsUndoneAt, IsEndedAt, IsLocus, IsCounted, Opens, Constructs, BuildsEach, UndoingStmt, UndoingStmts, UndoingHandlers, UndoingClauses}

-- whose activation it is, with which frame and which object at hand, while so many elements stand
pub record Around : Type 0 where
  pub exec : Exec
  pub frame : ℕ
  pub this : Value
  pub elements : ℕ

abbrev pub around : Exec → Active → Around
around n a = record { exec = n; frame = a.frame; this = a.this; elements = a.elements }

-- what is known of an operand: nothing, that it counts the elements, that it is the place that an expression finds, or an object that is at home there
pub data Mark : Type 0 where
  Any : Mark
  Counts : Mark
  At : Expr → Mark
  Homed : Expr → Mark

abbrev pub rest : List Mark → List Mark
rest [] = []
rest (m ∷ ms) = ms

-- behind so many operands
abbrev pub rests : ℕ → List Mark → List Mark
rests zero ms = ms
rests (suc n) ms = rest (rests n ms)

-- in front of these so many of which nothing is known
abbrev pub anys : ℕ → List Mark → List Mark
anys zero ms = ms
anys (suc n) ms = anys n (Any ∷ ms)

-- the first is a place
abbrev pub FirstAt : List Mark → (Expr → Type 0) → Type 0
FirstAt (At p ∷ ms) next = next p
FirstAt ms next = ⊥

-- an expression finds a place, or counts the elements
abbrev pub Finding : Expr → (Mark → Type 0) → Type 0
Finding (Variable k) next = next (At (Variable k))
Finding (OfObject (OwnField h i)) next = next (At (OfObject (OwnField h i)))
Finding (OfObject Counted) next = next Counts
Finding (Element n k (Variable j) (OfObject Counted)) next = next (At (Element n k (Variable j) (OfObject Counted)))
Finding (Element n k (OfObject (OwnField h i)) (OfObject Counted)) next = next (At (Element n k (OfObject (OwnField h i)) (OfObject Counted)))
Finding e next = ⊥

-- that of the element that is counted, behind that of its array
abbrev pub Entering : ℕ → Shape → List Mark → (Mark → Type 0) → Type 0
Entering n k (Counts ∷ (At (Variable j) ∷ ms)) next = next (At (Element n k (Variable j) (OfObject Counted)))
Entering n k (Counts ∷ (At (OfObject (OwnField h i)) ∷ ms)) next = next (At (Element n k (OfObject (OwnField h i)) (OfObject Counted)))
Entering n k ms next = ⊥

-- the statements that are left next
abbrev pub left_next : List Todo → Stmts
left_next (piece.Rest ss ∷ todo) = ss
left_next todo = Nil

module _ (home : ℕ → Value) (A : Around) where
  -- a variable or a field of the object at hand is at this place
  abbrev pub StandsAt : Expr → Value → Type 0
  StandsAt (Variable k) v = v ≡ Place (Frame A.exec A.frame) (Slot k ∷ [])
  StandsAt (OfObject (OwnField h i)) v = v ≡ further (FieldAt h i) A.this
  StandsAt e v = ⊥

  -- so is the element that is counted
  abbrev pub IsPlaceOf : Expr → Value → Type 0
  IsPlaceOf (Element n k p i) v = (A.elements < n) × ((u : Value) × StandsAt p u × (v ≡ further (piece.At k A.elements) u))
  IsPlaceOf e v = StandsAt e v

  -- an object that is at home there
  abbrev pub IsHomeAt : Expr → Value → Type 0
  IsHomeAt e v = (place : Value) × IsPlaceOf e place × ((o : ℕ) × (v ≡ Object o) × (home o ≡ place))

  abbrev pub Meets : Mark → List Value → Type 0
  Meets Any vs = Unit {0}
  Meets Counts vs = top vs ≡ Number (pos A.elements)
  Meets (At e) [] = ⊥
  Meets (At e) (v ∷ vs) = IsPlaceOf e v
  Meets (Homed e) vs = IsHomeAt e (top vs)

  -- of the newest operands, the first mark for the newest; of what lies below nothing is known
  abbrev pub Holds : List Mark → List Value → Type 0
  Holds [] vs = Unit {0}
  Holds (m ∷ ms) vs = Meets m vs × Holds ms (below vs)

module _ (g : Setting) where
  abbrev pub CodeExpr : Expr → Type 0
  CodeExpr e = CountedExpr g.source e × PlainExpr g.source g.special e

  abbrev pub CodeExprs : Exprs → Type 0
  CodeExprs es = CountedExprs g.source es × PlainExprs g.source g.special es

  abbrev pub CodeMaybe : Option Expr → Type 0
  CodeMaybe e = CountedMaybe g.source e × PlainMaybe g.source g.special e

  abbrev pub CodeItems : List Item → Type 0
  CodeItems is = CountedItems g.source is × PlainItems g.source g.special is

  abbrev pub CodeTargets : List Target → Type 0
  CodeTargets xs = CountedTargets g.source xs × PlainTargets g.source g.special xs

  abbrev pub CodeDeclared : List Declared → Type 0
  CodeDeclared ds = CountedDeclared g.source ds × PlainDeclared g.source g.special ds

  abbrev pub CodeClean : CleanUp → Type 0
  CodeClean c = CountedClean g.source c × PlainClean g.source g.special c

  abbrev pub CodeStmt : Stmts → Stmt → Type 0
  CodeStmt ss a = CountedStmt g.source a × UndoingStmt g.source g.special ss a

  abbrev pub CodeStmts : Stmts → Type 0
  CodeStmts ss = CountedStmts g.source ss × UndoingStmts g.source g.special ss

  abbrev pub CodeHandlers : Handlers → Type 0
  CodeHandlers hs = CountedHandlers g.source hs × UndoingHandlers g.source g.special hs

  abbrev pub CodeClauses : Clauses → Type 0
  CodeClauses cs = CountedClauses g.source cs × UndoingClauses g.source g.special cs

  abbrev pub CodeLoop : Expr → Option Expr → Stmt → Type 0
  CodeLoop t e b = CodeExpr t × CodeMaybe e × CodeStmt Nil b

  -- what builds the elements of an array, and what destroys them
  abbrev pub CodeFill : Expr → Expr → Type 0
  CodeFill b d = (CountedExpr g.source b × (PlainExpr g.source g.special b ⊎ BuildsEach g.source g.special d b)) × CodeExpr d

  abbrev pub CodeRoutine : Option Routine → Type 0
  CodeRoutine None = Unit {0}
  CodeRoutine (Some r) = CodeStmts r.body

  -- where a call is to do before this, what it builds at a place is taken over: by what opens behind it, or by what destroys the elements of an array
  abbrev pub IsTakenBy : (Expr → Type 0) → Expr → List Todo → Type 0
  IsTakenBy U p (piece.DropNow ∷ (piece.Within line ∷ (piece.Rest ss ∷ todo))) = IsLocus p × Opens U ss
  IsTakenBy U p (piece.DropNow ∷ (piece.MoreNow ∷ (piece.FillNow m b d ∷ todo))) = IsCounted p × U d
  IsTakenBy U p todo = ⊥

  -- so it is of what an expression builds
  abbrev pub BuildsNow : List Todo → Expr → Type 0
  BuildsNow todo e =
      Constructs g.source g.special (λ r p. IsTakenBy (IsUndoneAt g.source g.special r p) p todo) (λ r p. IsTakenBy (IsEndedAt g.source g.special r p) p todo) e

  -- so it is of what is called
  abbrev pub CalledAt : ℕ → List Mark → List Todo → Type 0
  CalledAt r (At p ∷ ms) todo = IsTakenBy (IsUndoneAt g.source g.special r p) p todo
  CalledAt r (Homed p ∷ ms) todo = IsTakenBy (IsEndedAt g.source g.special r p) p todo
  CalledAt r ms todo = ⊥

  abbrev pub CallFits : ℕ → List Mark → List Todo → Type 0
  CallFits r ms todo = BuildsNone g.source g.special r ⊎ CalledAt r (rests (params g.source r) ms) todo

  -- the marks behind a piece; behind one of statements nothing is known
  abbrev pub after : Todo → List Mark → List Mark
  after piece.LoadNow ms = Any ∷ rest ms
  after (piece.FieldNow k i) ms = Any ∷ rest ms
  after piece.NegateNow ms = Any ∷ rest ms
  after piece.NotNow ms = Any ∷ rest ms
  after piece.CharacterNow ms = Any ∷ rest ms
  after piece.TruthNow ms = Any ∷ rest ms
  after (piece.OperateNow op) ms = Any ∷ rest (rest ms)
  after piece.CopyNow ms = Any ∷ ms
  after piece.CopyBelowNow ms = Any ∷ ms
  after piece.DropNow ms = rest ms
  after piece.DropBelowNow ms = Any ∷ rest (rest ms)
  after piece.StoreNow ms = rest (rest ms)
  after piece.KeepNow ms = Any ∷ rest (rest ms)
  after (piece.SetNow k) ms = ms
  after piece.BindNow ms = Any ∷ rest (rest ms)
  after (piece.Choose e f) ms = Any ∷ rest ms
  after (piece.Arguments es) ms = anys (count es) ms
  after piece.TickNow ms = ms
  after (piece.CallNow r) ms = Any ∷ rests (params g.source r) ms
  after (piece.CallOnNow r) ms = Any ∷ rests (suc (params g.source r)) ms
  after (piece.CallUnwrittenNow r) ms = Any ∷ rests (suc (params g.source r)) ms
  after (piece.LiveNow r) ms = ms
  after (piece.EnterNow m r) ms = ms
  after piece.LeaveNow ms = ms
  after piece.ClusterNow ms = Any ∷ ms
  after piece.ProcessorNow ms = Any ∷ rest ms
  after piece.ClusterEndNow ms = Any ∷ rest ms
  after piece.ProcessorEndNow ms = Any ∷ rest ms
  after (piece.ConditionNow k n) ms = Any ∷ rest ms
  after piece.WaitNow ms = Any ∷ rest (rest ms)
  after piece.SignalNow ms = Any ∷ rest ms
  after piece.SignalBlockNow ms = Any ∷ rest ms
  after piece.EmptyNow ms = Any ∷ rest ms
  after piece.FrontNow ms = Any ∷ rest ms
  after (piece.ReadNow form) ms = Any ∷ ms
  after piece.RaiseNow ms = rests 3 ms
  after piece.DeliverNow ms = rests 3 ms
  after piece.PollNow ms = ms
  after (piece.ClearNow k n) ms = ms
  after piece.Land ms = ms
  after p ms = []

  -- behind what made an object, or bound it: the object that is at home at a place, below the arguments of its constructor
  abbrev pub made_marks : ℕ → Mark → List Mark → List Mark
  made_marks r m ms = anys (params g.source r) (m ∷ rests (suc (params g.source r)) ms)

  -- the code of a piece, with what is to do behind it, but for those of which more is asked
  abbrev pub CodePiece : Todo → List Mark → List Todo → Type 0
  CodePiece (piece.Choose e f) ms todo = CodeExpr e × CodeExpr f
  CodePiece (piece.Branch a b) ms todo = CodeStmt Nil a × CodeStmt Nil b
  CodePiece (piece.Arguments es) ms todo = CodeExprs es
  CodePiece (piece.CallNow r) ms todo = BuildsNone g.source g.special r
  CodePiece (piece.CallOnNow r) ms todo = CallFits r ms todo
  CodePiece (piece.CallUnwrittenNow r) ms todo = CallFits r ms todo
  CodePiece (piece.FillNow n b d) ms todo = CodeFill b d
  CodePiece (piece.TurnNow o t e b) ms todo = CodeLoop t e b
  CodePiece (piece.Again o t e b) ms todo = CodeLoop t e b
  CodePiece (piece.Items is) ms todo = CodeItems is
  CodePiece (piece.Values is) ms todo = CodeItems is
  CodePiece (piece.Pieces is) ms todo = CodeItems is
  CodePiece (piece.Targets xs) ms todo = CodeTargets xs
  CodePiece (piece.Variables ds) ms todo = CodeDeclared ds
  CodePiece (piece.Do a) ms todo = CodeStmt (left_next todo) a
  CodePiece (piece.Rest ss) ms todo = CodeStmts ss
  CodePiece (piece.InLoop o t e b) ms todo = CodeLoop t e b
  CodePiece (piece.Clean c) ms todo = CodeClean c
  CodePiece (piece.Sweep e) ms todo = CodeExpr e
  CodePiece (piece.Part c) ms todo = CodeClean c
  CodePiece (piece.Guard hs) ms todo = CodeHandlers hs
  CodePiece (piece.Guards cs) ms todo = CodeClauses cs
  CodePiece (piece.ChooseNow cs) ms todo = CodeClauses cs
  CodePiece p ms todo = Unit {0}

  -- one who leaves a simple piece comes to what stands behind it; at a mark that may be done
  abbrev pub LeftBy : Sort → Type 0 → Type 0 → Type 0
  LeftBy piece.Simple left ok = left
  LeftBy (piece.IsLoop o t e b) left ok = CodeLoop t e b × ok
  LeftBy piece.IsWhole left ok = ok
  LeftBy (piece.IsClean c) left ok = CodeClean c × ok
  LeftBy (piece.IsFill n b d) left ok = CodeFill b d × ok
  LeftBy (piece.IsSweep e) left ok = CodeExpr e × ok
  LeftBy (piece.IsPart c) left ok = CodeClean c × ok
  LeftBy (piece.IsGuard hs) left ok = CodeHandlers hs × ok
  LeftBy piece.IsFinish left ok = ok
  LeftBy piece.IsFinishCoroutine left ok = ok

  abbrev mutual
    -- a to-do list is in order before operands of which this is known. Where a place is found something may be known of it or not
    pub Ok : List Mark → List Todo → Type 0
    Ok ms [] = Unit {0}
    Ok ms (piece.Eval e ∷ todo) = CountedExpr g.source e × ((PlainExpr g.source g.special e × Ok (Any ∷ ms) todo) ⊎
        ((BuildsNow todo e × Ok (Any ∷ ms) todo) ⊎ Finding e (λ m. Ok (m ∷ ms) todo)))
    Ok ms (piece.ElementNow n k ∷ todo) = Ok (Any ∷ rest (rest ms)) todo ⊎ Entering n k ms (λ m. Ok (m ∷ rest (rest ms)) todo)
    Ok ms (piece.MakeNow c r ∷ todo) = FirstAt (rests (params g.source r) ms) (λ p. Ok (made_marks r (Homed p) ms) todo)
    Ok ms (piece.BindMadeNow c r ∷ todo) = FirstAt (rests (params g.source r) (rest ms)) (λ p. Ok (made_marks r (Homed p) (rest ms)) todo)
    Ok ms (piece.Exit w ∷ todo) = Left todo
    Ok ms (piece.Unwind ∷ todo) = Left todo
    Ok ms (p ∷ todo) = CodePiece p ms todo × Ok (after p ms) todo

    -- it is for one who leaves it
    pub Left : List Todo → Type 0
    Left [] = Unit {0}
    Left (p ∷ todo) = LeftBy (sort p) (Left todo) (Ok [] todo)

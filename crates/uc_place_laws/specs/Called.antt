-- To-do lists in which the scope of an object that is a variable opens behind the call of its constructor, and an object that is a field is a part of the one
-- at hand behind the call of its own, before which the place of that variable or field lies among the operands.
use Rattle.std.specs.Prelude.{◌≡◌, ℕ, zero, suc, ◌⊎◌, List, [], ◌∷◌, Option, Some, None}
use Rattle.uc_tree.specs.Programs.{Program}
use Rattle.uc_tree.specs.Source as src
use Rattle.uc_tree.specs.Source.{Expr, Stmt, Stmts, Handlers, Clauses, Source, Routine}
use Rattle.uc_machine.specs.declared.exec.Exec.{Exec}
use Rattle.uc_machine.specs.declared.exec.Owner.TheVariants.{Frame}
use Rattle.uc_machine.specs.Pieces as piece
use Rattle.uc_machine.specs.Pieces.{Slot, FieldAt, Value, Place, Todo, Sort, sort, top, below, further}
use Rattle.uc_state_laws.specs.Counted.{params, count, CountedExpr, CountedExprs, CountedMaybe, CountedItems, CountedTargets, CountedDeclared, CountedClean, CountedStmt, CountedStmts, CountedHandlers, CountedClauses}
use Rattle.uc_place_laws.specs.Opened.{Spot, Var, Own, ArePaired, NextOf, NextNone, BuildsOf, BuildsNone, Spans, Declares, Builds, Before, OpenedStmt, OpenedStmts, OpenedHandlers, OpenedClauses}

-- what is known of an operand: nothing, or that it is the place of this variable or field
pub data Mark : Type 0 where
  Any : Mark
  At : Spot → Mark

-- the place of a variable in a frame of an execution
abbrev pub variable : Exec → ℕ → ℕ → Value
variable n f k = Place (Frame n f) (Slot k ∷ [])

-- in an activation with this frame and this object
abbrev pub Meets : Exec → ℕ → Value → Mark → Value → Type 0
Meets n f this Any v = Unit {0}
Meets n f this (At (Var k)) v = v ≡ variable n f k
Meets n f this (At (Own s i)) v = v ≡ further (FieldAt s i) this

-- of the object that opens its scope, or is a part, next where the value of a statement is to be dropped
abbrev pub NextAt : (ℕ → Spot → Type 0) → List Todo → Type 0
NextAt P (piece.DropNow ∷ (piece.Within line ∷ (piece.Rest ss ∷ todo))) = NextOf P ss
NextAt P todo = Unit {0}

-- of the newest operands, the first mark for the newest; of what lies below nothing is known
abbrev pub Holds : Exec → ℕ → Value → List Mark → List Value → Type 0
Holds n f this [] vs = Unit {0}
Holds n f this (m ∷ ms) vs = Meets n f this m (top vs) × Holds n f this ms (below vs)

abbrev pub rest : List Mark → List Mark
rest [] = []
rest (m ∷ ms) = ms

-- behind so many operands
abbrev pub rests : ℕ → List Mark → List Mark
rests zero ms = ms
rests (suc n) ms = rest (rests n ms)

-- in front of these so many of which nothing is known
abbrev pub anys : ℕ → List Mark → List Mark
anys zero ms = ms
anys (suc n) ms = anys n (Any ∷ ms)

-- the place of a variable or of a field of the object at hand is found
abbrev pub Placed : Expr → (Spot → Type 0) → Type 0
Placed (src.Variable k) next = next (Var k)
Placed (src.OfObject (src.OwnField s i)) next = next (Own s i)
Placed e next = ⊥

-- whatever the destructor is, and whatever it destroys
abbrev pub Every : ℕ → Spot → Type 0
Every d x = Unit {0}

abbrev pub AnyOne : ℕ → ℕ → Type 0
AnyOne d k = Unit {0}

-- the constructor r is called there, where a destructor of its class destroys
abbrev pub CalledAt : Program → ℕ → Spot → ℕ → Spot → Type 0
CalledAt p r y d x = (y ≡ x) × ArePaired p r d

-- it is called at the place of which this is known
abbrev pub CalledBy : Program → ℕ → List Mark → ℕ → Spot → Type 0
CalledBy p r [] d x = ⊥
CalledBy p r (Any ∷ ms) d x = ⊥
CalledBy p r (At y ∷ ms) d x = CalledAt p r y d x

module _ (source : Source) where
  -- the marks behind a piece; behind one of statements nothing is known
  abbrev pub after : Todo → List Mark → List Mark
  after piece.LoadNow ms = Any ∷ rest ms
  after (piece.ElementNow n k) ms = Any ∷ rest (rest ms)
  after (piece.FieldNow k i) ms = Any ∷ rest ms
  after piece.NegateNow ms = Any ∷ rest ms
  after piece.NotNow ms = Any ∷ rest ms
  after piece.CharacterNow ms = Any ∷ rest ms
  after piece.TruthNow ms = Any ∷ rest ms
  after (piece.OperateNow op) ms = Any ∷ rest (rest ms)
  after piece.CopyNow ms = Any ∷ ms
  after piece.CopyBelowNow ms = Any ∷ ms
  after piece.DropNow ms = rest ms
  after piece.DropBelowNow ms = Any ∷ rest (rest ms)
  after piece.StoreNow ms = rest (rest ms)
  after piece.KeepNow ms = Any ∷ rest (rest ms)
  after (piece.SetNow k) ms = ms
  after piece.BindNow ms = Any ∷ rest (rest ms)
  after (piece.Choose e f) ms = Any ∷ rest ms
  after (piece.Arguments es) ms = anys (count es) ms
  after piece.TickNow ms = ms
  after (piece.CallNow r) ms = Any ∷ rests (params source r) ms
  after (piece.LiveNow r) ms = ms
  after (piece.EnterNow m r) ms = ms
  after (piece.MakeNow c r) ms = anys (suc (params source r)) (rests (suc (params source r)) ms)
  after (piece.BindMadeNow c r) ms = anys (suc (params source r)) (rests (suc (params source r)) (rest ms))
  after piece.LeaveNow ms = ms
  after piece.ClusterNow ms = Any ∷ ms
  after piece.ProcessorNow ms = Any ∷ rest ms
  after piece.ClusterEndNow ms = Any ∷ rest ms
  after piece.ProcessorEndNow ms = Any ∷ rest ms
  after (piece.ConditionNow k n) ms = Any ∷ rest ms
  after piece.WaitNow ms = Any ∷ rest (rest ms)
  after piece.SignalNow ms = Any ∷ rest ms
  after piece.SignalBlockNow ms = Any ∷ rest ms
  after piece.EmptyNow ms = Any ∷ rest ms
  after piece.FrontNow ms = Any ∷ rest ms
  after (piece.ReadNow form) ms = Any ∷ ms
  after piece.RaiseNow ms = rests 3 ms
  after piece.DeliverNow ms = rests 3 ms
  after piece.PollNow ms = ms
  after (piece.ClearNow k n) ms = ms
  after piece.Land ms = ms
  after p ms = []

module _ (p : Program) (source : Source) where
  -- code in which arguments are counted and scopes open where they may
  abbrev pub CodeStmt : Stmt → Type 0
  CodeStmt a = CountedStmt source a × OpenedStmt p a

  abbrev pub CodeStmts : Stmts → Type 0
  CodeStmts ss = CountedStmts source ss × OpenedStmts p ss

  -- a block of which nothing is done yet
  abbrev pub CodeBlock : Stmts → Type 0
  CodeBlock ss = NextNone ss × CodeStmts ss × BuildsNone ss

  abbrev pub CodeHandlers : Handlers → Type 0
  CodeHandlers hs = CountedHandlers source hs × OpenedHandlers p hs

  abbrev pub CodeClauses : Clauses → Type 0
  CodeClauses cs = CountedClauses source cs × OpenedClauses p cs

  abbrev pub CodeLoop : Expr → Option Expr → Stmt → Type 0
  CodeLoop t e b = CountedExpr source t × CountedMaybe source e × CodeStmt b

  abbrev pub CodeRoutine : Option Routine → Type 0
  CodeRoutine None = Unit {0}
  CodeRoutine (Some r) = CodeBlock r.body

  -- the code of a piece, but for those of which more is asked
  abbrev pub CodePiece : Todo → Type 0
  CodePiece (piece.Choose e f) = CountedExpr source e × CountedExpr source f
  CodePiece (piece.Branch a b) = CodeStmt a × CodeStmt b
  CodePiece (piece.Arguments es) = CountedExprs source es
  CodePiece (piece.FillNow n b d) = CountedExpr source b × CountedExpr source d
  CodePiece (piece.TurnNow o t e b) = CodeLoop t e b
  CodePiece (piece.Again o t e b) = CodeLoop t e b
  CodePiece (piece.Items is) = CountedItems source is
  CodePiece (piece.Values is) = CountedItems source is
  CodePiece (piece.Pieces is) = CountedItems source is
  CodePiece (piece.Targets xs) = CountedTargets source xs
  CodePiece (piece.Variables ds) = CountedDeclared source ds
  CodePiece (piece.Rest ss) = CodeBlock ss
  CodePiece (piece.InLoop o t e b) = CodeLoop t e b
  CodePiece (piece.Clean c) = CountedClean source c
  CodePiece (piece.Sweep e) = CountedExpr source e
  CodePiece (piece.Part c) = CountedClean source c
  CodePiece (piece.Guard hs) = CodeHandlers hs
  CodePiece (piece.Guards cs) = CodeClauses cs
  CodePiece (piece.ChooseNow cs) = CodeClauses cs
  CodePiece x = Unit {0}

  -- one who leaves a simple piece comes to what stands behind it; at a mark that may be done
  abbrev pub LeftBy : Sort → Type 0 → Type 0 → Type 0
  LeftBy piece.Simple left ok = left
  LeftBy (piece.IsLoop o t e b) left ok = CodeLoop t e b × ok
  LeftBy piece.IsWhole left ok = ok
  LeftBy (piece.IsClean c) left ok = CountedClean source c × ok
  LeftBy (piece.IsFill n b d) left ok = (CountedExpr source b × CountedExpr source d) × ok
  LeftBy (piece.IsSweep e) left ok = CountedExpr source e × ok
  LeftBy (piece.IsPart c) left ok = CountedClean source c × ok
  LeftBy (piece.IsGuard hs) left ok = CodeHandlers hs × ok
  LeftBy piece.IsFinish left ok = ok
  LeftBy piece.IsFinishCoroutine left ok = ok

  abbrev mutual
    -- a to-do list is in order before operands of which this is known: no scope of such an object opens next in it, and none is a part next, but behind what
    -- builds the object, a statement, the expression in it, or the call of its constructor, with its place below the arguments. Where the place of a variable
    -- or of a field is found, it may be known or not
    pub Ok : List Mark → List Todo → Type 0
    Ok ms [] = Unit {0}
    Ok ms (piece.Eval e ∷ todo) = CountedExpr source e ×
        (Ok (Any ∷ ms) todo ⊎ (AtDrop (Builds p e) todo ⊎ Placed e (λ x. Ok (At x ∷ ms) todo)))
    Ok ms (piece.CallOnNow r ∷ todo) = Ok (Any ∷ rests (suc (params source r)) ms) todo ⊎
        AtDrop (CalledBy p r (rests (params source r) ms)) todo
    Ok ms (piece.CallUnwrittenNow r ∷ todo) = Ok (Any ∷ rests (suc (params source r)) ms) todo ⊎
        AtDrop (CalledBy p r (rests (params source r) ms)) todo
    Ok ms (piece.Do a ∷ todo) = CodeStmt a × (Ok [] todo ⊎ (AtRest (Before p a) todo ⊎ AtBuild (Declares p a) todo))
    Ok ms (piece.Exit w ∷ todo) = Left todo
    Ok ms (piece.Unwind ∷ todo) = Left todo
    Ok ms (x ∷ todo) = CodePiece x × Ok (after source x ms) todo

    -- such a scope may open next, and such an object be a part
    pub AtRest : (ℕ → Spot → Type 0) → List Todo → Type 0
    AtRest P (piece.Rest ss ∷ todo) = (NextOf P ss × CodeStmts ss × BuildsNone ss) × Ok [] todo
    AtRest P todo = ⊥

    -- such an object may be built next
    pub AtBuild : (ℕ → ℕ → Type 0) → List Todo → Type 0
    AtBuild P (piece.Rest ss ∷ todo) = (NextNone ss × CodeStmts ss × BuildsOf P ss) × Ok [] todo
    AtBuild P todo = ⊥

    pub AtDrop : (ℕ → Spot → Type 0) → List Todo → Type 0
    AtDrop P (piece.DropNow ∷ (piece.Within line ∷ todo)) = AtRest P todo
    AtDrop P todo = ⊥

    -- it is for one who leaves it
    pub Left : List Todo → Type 0
    Left [] = Unit {0}
    Left (x ∷ todo) = LeftBy (sort x) (Left todo) (Ok [] todo)

  -- such a scope may open next, now that its object is built
  abbrev pub Stands : List Todo → Type 0
  Stands (piece.Rest ss ∷ todo) = AtRest Every (piece.Rest ss ∷ todo)
  Stands (piece.Within line ∷ todo) = AtRest Every todo
  Stands (piece.DropNow ∷ todo) = AtDrop Every (piece.DropNow ∷ todo)
  Stands todo = ⊥

  -- such an object may be built next, once the cells of its variable start anew, or now that they have
  abbrev pub OnWay : List Todo → Type 0
  OnWay (piece.Variables (x ∷ []) ∷ (piece.Within line ∷ todo)) = (x.value ≡ None) × AtBuild (λ d k. (x.cell ≡ k) × Spans p d x.cells) todo
  OnWay (piece.ClearNow k n ∷ (piece.Variables [] ∷ (piece.Within line ∷ todo))) = AtBuild (λ d m. (k ≡ m) × Spans p d n) todo
  OnWay (piece.Variables [] ∷ (piece.Within line ∷ todo)) = AtBuild AnyOne todo
  OnWay (piece.Within line ∷ todo) = AtBuild AnyOne todo
  OnWay (piece.Rest ss ∷ todo) = AtBuild AnyOne (piece.Rest ss ∷ todo)
  OnWay todo = ⊥

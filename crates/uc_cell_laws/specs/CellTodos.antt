-- To-do lists of a routine in which the places of what is built, destroyed and bound lie among the operands, as the code has them.
use Rattle.std.specs.Prelude.{◌≡◌, ℕ, zero, suc, ◌⊎◌, true, false, List, [], ◌∷◌, Option, Some, None}
use Rattle.uc_tree.specs.Source.{Shape, Expr, Exprs, Load, Item, Target, Declared, CleanUp, Stmt, Stmts, Handlers, Clauses, Routine}
use Rattle.uc_machine.specs.declared.exec.Exec.{Exec}
use Rattle.uc_machine.specs.declared.exec.Owner.{Owner}
use Rattle.uc_machine.specs.declared.exec.Owner.TheVariants.{Frame}
use Rattle.uc_machine.specs.Pieces as piece
use Rattle.uc_machine.specs.Pieces.{Slot, FieldAt, Value, Place, Object, further, Todo, Sort, sort, Active, top, below}
use Rattle.uc_typing.specs.Typing.{Ty, Cell, Obj, Row, Table, element_shape, CleansAt}
use Rattle.uc_tree.specs.Source.{Variable, Source}
use Rattle.uc_state_laws.specs.Counted.{params, count, CountedExpr, CountedExprs, CountedMaybe, CountedItems, CountedTargets, CountedDeclared, CountedClean, CountedStmt, CountedStmts, CountedHandlers, CountedClauses}
use Rattle.uc_life_laws.specs.Things.{IsField, IsMutex}
use Rattle.uc_life_laws.specs.HomedStates.{Owns, Inside}
use Rattle.uc_cell_laws.specs.Scopes.{IsScopeOf}
use Rattle.uc_cell_laws.specs.Sites.{Telling, IsNoMaker, IsExecuting, HasPlace, IsLent, SitedExpr, SitedExprs, SitedMaybe, SitedItems, SitedTargets, SitedDeclared, SitedClean, SitedStmt, SitedStmts, SitedHandlers, SitedClauses}

-- something of a type is an own part of what a scope of the routine of this number is of, which stands at a variable of a frame
pub record IsOwnPart (t : Table) (owns : Owns) (source : Source) (r : ℕ) (o : Owner) (v : Value) (b : Ty) : Type 0 where
  pub clean : CleanUp
  pub scope : IsScopeOf source r clean
  pub cell : ℕ
  pub type : Ty
  pub cleans : CleansAt t type (Variable cell) clean
  pub inside : Inside t owns (Place o (Slot cell ∷ [])) type v b

-- whose activation it is, with which frame and which object at hand
pub record Around : Type 0 where
  pub exec : Exec
  pub frame : ℕ
  pub this : Value

abbrev pub around : Exec → Active → Around
around n a = record { exec = n; frame = a.frame; this = a.this }

-- what is known of an operand: nothing, that it is a place of this type of the activation, a field of its object that is a reference, or that it is a mutex
-- object of this class, if it is an object
pub data Mark : Type 0 where
  Any : Mark
  Sited : Ty → Mark
  Lent : Mark
  Classed : ℕ → Mark

-- of the object that is asked for: its class, which the constructor that comes next tells
abbrev pub asked_class : Table → List Todo → Option ℕ
asked_class t (piece.BindMadeNow c q ∷ todo) = (t.routine q).this
asked_class t todo = None

abbrev pub mark_of : Option ℕ → Mark
mark_of None = Any
mark_of (Some c) = Classed c

abbrev pub rest : List Mark → List Mark
rest [] = []
rest (m ∷ ms) = ms

-- behind so many operands
abbrev pub rests : ℕ → List Mark → List Mark
rests zero ms = ms
rests (suc n) ms = rest (rests n ms)

-- in front of these so many of which nothing is known
abbrev pub anys : ℕ → List Mark → List Mark
anys zero ms = ms
anys (suc n) ms = anys n (Any ∷ ms)

-- the first is an object of this class; the place of a mutex object, which is loaded
abbrev pub FirstClassed : ℕ → List Mark → Type 0
FirstClassed c (Classed d ∷ ms) = d ≡ c
FirstClassed c ms = ⊥

abbrev pub FirstCell : Table → List Mark → (Mark → Type 0) → Type 0
FirstCell t (Sited (Cell (Obj c)) ∷ ms) next = (t.mutex c ≡ true) × next (Classed c)
FirstCell t ms next = ⊥

-- it is a place of this type; of so many elements of a type, kept in this shape; what may be bound
abbrev pub FirstSited : Ty → List Mark → Type 0
FirstSited a (Sited b ∷ ms) = b ≡ a
FirstSited a ms = ⊥

abbrev pub FirstRow : ℕ → Shape → Table → List Mark → (Mark → Type 0) → Type 0
FirstRow n s t (Sited (Row m a) ∷ ms) next = (m ≡ n) × (s ≡ element_shape t a) × next (Sited a)
FirstRow n s t ms next = ⊥

abbrev pub FirstBound : Table → List Mark → Type 0
FirstBound t (Sited (Cell b) ∷ ms) = IsMutex t b → ⊥
FirstBound t (Lent ∷ ms) = Unit {0}
FirstBound t ms = ⊥

module _ (g : Telling) (r : ℕ) where
  module _ (A : Around) where
    -- an own part, of this type, of the object that the routine builds or destroys
    pub record IsOfThis (v : Value) (a : Ty) : Type 0 where
      pub special : g.special r ≡ true
      pub class : ℕ
      pub this : (g.table.routine r).this ≡ Some class
      pub inside : Inside g.table g.owns A.this (Obj class) v a

    -- a field of that which is a reference
    pub record IsOfLent (v : Value) : Type 0 where
      pub special : g.special r ≡ true
      pub class : ℕ
      pub this : (g.table.routine r).this ≡ Some class
      pub number : ℕ
      pub field : IsField g.table class number
      pub lent : g.owns class number ≡ false
      pub type : Ty
      pub binding : g.table.fields class number ≡ Cell type
      pub place : v ≡ further (FieldAt (g.table.shape class) number) A.this

    abbrev pub IsClassed : ℕ → Value → Type 0
    IsClassed c v = (o : ℕ) → v ≡ Object o → g.class o ≡ Some c

    abbrev pub Meets : Mark → Value → Type 0
    Meets Any v = Unit {0}
    Meets (Sited a) v = IsOwnPart g.table g.owns g.source r (Frame A.exec A.frame) v a ⊎ IsOfThis v a
    Meets Lent v = IsOfLent v
    Meets (Classed c) v = IsClassed c v

    -- of the newest operands, the first mark for the newest; of what lies below nothing is known
    abbrev pub Holds : List Mark → List Value → Type 0
    Holds [] vs = Unit {0}
    Holds (m ∷ ms) vs = Meets m (top vs) × Holds ms (below vs)

  -- what an expression finds
  abbrev pub Loading : Expr → (Mark → Type 0) → Type 0
  Loading (Load e) next = (c : ℕ) × (g.table.mutex c ≡ true) × HasPlace g r e (Cell (Obj c)) × next (Classed c)
  Loading e next = ⊥

  abbrev pub Finding : Expr → (Mark → Type 0) → Type 0
  Finding e next = ((a : Ty) × HasPlace g r e a × next (Sited a)) ⊎ ((IsLent g r e × next Lent) ⊎ Loading e next)

  -- code of the routine in which arguments are counted
  abbrev pub CodeExpr : Expr → Type 0
  CodeExpr e = CountedExpr g.source e × SitedExpr g r e

  abbrev pub CodeExprs : Exprs → Type 0
  CodeExprs es = CountedExprs g.source es × SitedExprs g r es

  abbrev pub CodeMaybe : Option Expr → Type 0
  CodeMaybe e = CountedMaybe g.source e × SitedMaybe g r e

  abbrev pub CodeItems : List Item → Type 0
  CodeItems is = CountedItems g.source is × SitedItems g r is

  abbrev pub CodeTargets : List Target → Type 0
  CodeTargets xs = CountedTargets g.source xs × SitedTargets g r xs

  abbrev pub CodeDeclared : List Declared → Type 0
  CodeDeclared ds = CountedDeclared g.source ds × SitedDeclared g r ds

  abbrev pub CodeClean : CleanUp → Type 0
  CodeClean c = CountedClean g.source c × SitedClean g r c

  abbrev pub CodeStmt : Stmt → Type 0
  CodeStmt a = CountedStmt g.source a × SitedStmt g r a

  abbrev pub CodeStmts : Stmts → Type 0
  CodeStmts ss = CountedStmts g.source ss × SitedStmts g r ss

  abbrev pub CodeHandlers : Handlers → Type 0
  CodeHandlers hs = CountedHandlers g.source hs × SitedHandlers g r hs

  abbrev pub CodeClauses : Clauses → Type 0
  CodeClauses cs = CountedClauses g.source cs × SitedClauses g r cs

  abbrev pub CodeLoop : Expr → Option Expr → Stmt → Type 0
  CodeLoop t e b = CodeExpr t × CodeMaybe e × CodeStmt b

  abbrev pub CodeRoutine : Option Routine → Type 0
  CodeRoutine None = Unit {0}
  CodeRoutine (Some q) = CodeStmts q.body

  -- what is called, if it is a constructor or a destructor, is so at a place of its class, or at a mutex object of it
  abbrev pub CallFits : ℕ → List Mark → Type 0
  CallFits q ms = IsNoMaker g q ⊎ ((c : ℕ) × ((g.table.routine q).this ≡ Some c) × (((g.table.mutex c ≡ true) × FirstClassed c (rests (params g.source q) ms)) ⊎ FirstSited (Obj c) (rests (params g.source q) ms)))

  -- a mutex object is made, and bound, at a place of one
  abbrev pub MakeFits : ℕ → List Mark → Type 0
  MakeFits q ms = (c : ℕ) × ((g.table.routine q).this ≡ Some c) × (g.table.mutex c ≡ true) × FirstSited (Cell (Obj c)) (rests (params g.source q) ms)

  abbrev pub BindFits : ℕ → List Mark → Type 0
  BindFits q ms = (c : ℕ) × ((g.table.routine q).this ≡ Some c) × (g.table.mutex c ≡ true) × FirstClassed c ms × FirstSited (Cell (Obj c)) (rests (params g.source q) (rest ms))

  -- the object that a constructor builds
  abbrev pub made_mark : ℕ → Mark
  made_mark q = mark_of (g.table.routine q).this

  -- the marks behind a piece; behind one of statements nothing is known
  abbrev pub after : Todo → List Mark → List Mark
  after (piece.FieldNow k i) ms = Any ∷ rest ms
  after piece.NegateNow ms = Any ∷ rest ms
  after piece.NotNow ms = Any ∷ rest ms
  after piece.CharacterNow ms = Any ∷ rest ms
  after piece.TruthNow ms = Any ∷ rest ms
  after (piece.OperateNow op) ms = Any ∷ rest (rest ms)
  after piece.CopyNow ms = Any ∷ ms
  after piece.CopyBelowNow ms = Any ∷ ms
  after piece.DropNow ms = rest ms
  after piece.DropBelowNow ms = Any ∷ rest (rest ms)
  after piece.StoreNow ms = rest (rest ms)
  after piece.KeepNow ms = Any ∷ rest (rest ms)
  after (piece.SetNow k) ms = ms
  after piece.BindNow ms = Any ∷ rest (rest ms)
  after (piece.MakeNow c q) ms = anys (params g.source q) (made_mark q ∷ rests (suc (params g.source q)) ms)
  after (piece.BindMadeNow c q) ms = anys (params g.source q) (made_mark q ∷ rests (suc (params g.source q)) (rest ms))
  after (piece.Choose e f) ms = Any ∷ rest ms
  after (piece.Arguments es) ms = anys (count es) ms
  after piece.TickNow ms = ms
  after (piece.CallNow q) ms = Any ∷ rests (params g.source q) ms
  after (piece.CallOnNow q) ms = Any ∷ rests (suc (params g.source q)) ms
  after (piece.CallUnwrittenNow q) ms = Any ∷ rests (suc (params g.source q)) ms
  after (piece.LiveNow q) ms = ms
  after (piece.EnterNow m q) ms = ms
  after piece.LeaveNow ms = ms
  after piece.ClusterNow ms = Any ∷ ms
  after piece.ProcessorNow ms = Any ∷ rest ms
  after piece.ClusterEndNow ms = Any ∷ rest ms
  after piece.ProcessorEndNow ms = Any ∷ rest ms
  after (piece.ConditionNow k n) ms = Any ∷ rest ms
  after piece.WaitNow ms = Any ∷ rest (rest ms)
  after piece.SignalNow ms = Any ∷ rest ms
  after piece.SignalBlockNow ms = Any ∷ rest ms
  after piece.EmptyNow ms = Any ∷ rest ms
  after piece.FrontNow ms = Any ∷ rest ms
  after (piece.ReadNow form) ms = Any ∷ ms
  after piece.RaiseNow ms = rests 3 ms
  after piece.DeliverNow ms = rests 3 ms
  after piece.PollNow ms = ms
  after (piece.ClearNow k n) ms = ms
  after piece.Land ms = ms
  after p ms = []

  -- the code of a piece, and what it is to find among the operands
  abbrev pub CodePiece : Todo → List Mark → Type 0
  CodePiece (piece.Choose e f) ms = CodeExpr e × CodeExpr f
  CodePiece (piece.Branch a b) ms = CodeStmt a × CodeStmt b
  CodePiece (piece.Arguments es) ms = CodeExprs es
  CodePiece (piece.CallOnNow q) ms = CallFits q ms
  CodePiece (piece.CallUnwrittenNow q) ms = CallFits q ms
  CodePiece (piece.MakeNow c q) ms = MakeFits q ms
  CodePiece (piece.BindMadeNow c q) ms = BindFits q ms
  CodePiece piece.BindNow ms = FirstBound g.table (rest ms)
  CodePiece (piece.FillNow n b d) ms = CodeExpr b × CodeExpr d
  CodePiece (piece.TurnNow o t e b) ms = CodeLoop t e b
  CodePiece (piece.Again o t e b) ms = CodeLoop t e b
  CodePiece (piece.Items is) ms = CodeItems is
  CodePiece (piece.Values is) ms = CodeItems is
  CodePiece (piece.Pieces is) ms = CodeItems is
  CodePiece (piece.Targets xs) ms = CodeTargets xs
  CodePiece (piece.Variables ds) ms = CodeDeclared ds
  CodePiece (piece.Do a) ms = CodeStmt a
  CodePiece (piece.Rest ss) ms = CodeStmts ss
  CodePiece (piece.InLoop o t e b) ms = CodeLoop t e b
  CodePiece (piece.Clean c) ms = CodeClean c
  CodePiece (piece.Sweep e) ms = CodeExpr e
  CodePiece (piece.Part c) ms = CodeClean c
  CodePiece (piece.Guard hs) ms = CodeHandlers hs
  CodePiece (piece.Guards cs) ms = CodeClauses cs
  CodePiece (piece.ChooseNow cs) ms = CodeClauses cs
  CodePiece (piece.SetUpNow q) ms = IsNoMaker g q
  CodePiece piece.ForgetNow ms = IsExecuting g r
  CodePiece (piece.SpawnNow q) ms = IsNoMaker g q
  CodePiece (piece.ChildNow q) ms = IsNoMaker g q
  CodePiece p ms = Unit {0}

  -- one who leaves a simple piece comes to what stands behind it; at a mark that may be done
  abbrev pub LeftBy : Sort → Type 0 → Type 0 → Type 0
  LeftBy piece.Simple left ok = left
  LeftBy (piece.IsLoop o t e b) left ok = CodeLoop t e b × ok
  LeftBy piece.IsWhole left ok = ok
  LeftBy (piece.IsClean c) left ok = CodeClean c × ok
  LeftBy (piece.IsFill n b d) left ok = (CodeExpr b × CodeExpr d) × ok
  LeftBy (piece.IsSweep e) left ok = CodeExpr e × ok
  LeftBy (piece.IsPart c) left ok = CodeClean c × ok
  LeftBy (piece.IsGuard hs) left ok = CodeHandlers hs × ok
  LeftBy piece.IsFinish left ok = ok
  LeftBy piece.IsFinishCoroutine left ok = ok

  abbrev mutual
    -- a to-do list is in order before operands of which this is known. Where a place is found, and where it is loaded, something may be known of it or not
    pub Ok : List Mark → List Todo → Type 0
    Ok ms [] = Unit {0}
    Ok ms (piece.Eval e ∷ todo) = CodeExpr e × (Ok (Any ∷ ms) todo ⊎ Finding e (λ m. Ok (m ∷ ms) todo))
    Ok ms (piece.LoadNow ∷ todo) = Ok (Any ∷ rest ms) todo ⊎ FirstCell g.table ms (λ m. Ok (m ∷ rest ms) todo)
    Ok ms (piece.ElementNow n s ∷ todo) = Ok (Any ∷ rest (rest ms)) todo ⊎ FirstRow n s g.table (rest ms) (λ m. Ok (m ∷ rest (rest ms)) todo)
    Ok ms (piece.Exit w ∷ todo) = Left todo
    Ok ms (piece.Unwind ∷ todo) = Left todo
    Ok ms (p ∷ todo) = CodePiece p ms × Ok (after p ms) todo

    -- it is for one who leaves it
    pub Left : List Todo → Type 0
    Left [] = Unit {0}
    Left (p ∷ todo) = LeftBy (sort p) (Left todo) (Ok [] todo)

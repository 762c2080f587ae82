-- To-do lists in which the scope, or the part, that is a mutex object opens behind the call of its constructor, before which its place lies among the
-- operands; and what they end with.
use Rattle.std.specs.Prelude.{◌≡◌, ℕ, zero, suc, ◌⊎◌, List, [], ◌∷◌, Option, Some, None}
use Rattle.uc_tree.specs.Programs.{Program}
use Rattle.uc_tree.specs.Source as src
use Rattle.uc_tree.specs.Source.{Expr, CleanUp, Stmt, Stmts, Handlers, Clauses, Source, Routine}
use Rattle.uc_machine.specs.declared.exec.Exec.{Exec}
use Rattle.uc_machine.specs.declared.exec.Owner.TheVariants.{Frame}
use Rattle.uc_machine.specs.Pieces as piece
use Rattle.uc_machine.specs.Pieces.{Slot, FieldAt, Value, Place, Nothing, Todo, Sort, sort, top, below, further}
use Rattle.uc_state_laws.specs.Counted.{params, count, CountedExpr, CountedExprs, CountedMaybe, CountedItems, CountedTargets, CountedDeclared, CountedClean, CountedStmt, CountedStmts, CountedHandlers, CountedClauses}
use Rattle.uc_tasked_laws.specs.Seated.{ArePaired, IsSpawning, IsTame, AreTame, Begins, OfScope, OfPart, OpensOf, OpensNone, Makes, Before, SeatedStmt, SeatedStmts, SeatedHandlers, SeatedClauses}

-- what is known of an operand: nothing, or that it is the place which this finds
pub data Mark : Type 0 where
  Any : Mark
  At : Expr → Mark

-- the seat of a mutex object that is made there, in an activation with this frame and this object: a variable, a field of the object at hand
abbrev pub seat : Exec → ℕ → Value → Expr → Value
seat n f this (src.Variable k) = Place (Frame n f) (Slot k ∷ [])
seat n f this (src.OfObject (src.OwnField s i)) = further (FieldAt s i) this
seat n f this e = Nothing

abbrev pub Meets : Exec → ℕ → Value → Mark → Value → Type 0
Meets n f this Any v = Unit {0}
Meets n f this (At e) v = v ≡ seat n f this e

-- of the newest operands, the first mark for the newest; of what lies below nothing is known
abbrev pub Holds : Exec → ℕ → Value → List Mark → List Value → Type 0
Holds n f this [] vs = Unit {0}
Holds n f this (m ∷ ms) vs = Meets n f this m (top vs) × Holds n f this ms (below vs)

abbrev pub rest : List Mark → List Mark
rest [] = []
rest (m ∷ ms) = ms

-- behind so many operands
abbrev pub rests : ℕ → List Mark → List Mark
rests zero ms = ms
rests (suc n) ms = rest (rests n ms)

-- in front of these so many of which nothing is known
abbrev pub anys : ℕ → List Mark → List Mark
anys zero ms = ms
anys (suc n) ms = anys n (Any ∷ ms)

-- the place of a seat is found
abbrev pub Placed : Expr → (Expr → Type 0) → Type 0
Placed (src.Variable k) next = next (src.Variable k)
Placed (src.OfObject (src.OwnField s i)) next = next (src.OfObject (src.OwnField s i))
Placed e next = ⊥

-- whatever the destructor and the place are
abbrev pub Every : ℕ → Expr → Type 0
Every d e = Unit {0}

-- the constructor r is called for what is made at the place m, which a destructor of its class destroys
abbrev pub CalledAt : Program → ℕ → Expr → ℕ → Expr → Type 0
CalledAt p r m d e = (m ≡ e) × ArePaired p r d

-- it is called at the place of which this is known
abbrev pub CalledBy : Program → ℕ → List Mark → ℕ → Expr → Type 0
CalledBy p r [] d e = ⊥
CalledBy p r (Any ∷ ms) d e = ⊥
CalledBy p r (At m ∷ ms) d e = CalledAt p r m d e

-- nothing is left
abbrev pub AtEnd : List Todo → Type 0
AtEnd [] = Unit {0}
AtEnd todo = ⊥

-- whoever exits leaves nothing outwards of what is left as a whole
abbrev pub QuitsBy : Sort → Type 0 → Type 0
QuitsBy piece.IsWhole rest = Unit {0}
QuitsBy k rest = rest

module _ (source : Source) where
  -- the marks behind a piece; behind one of statements nothing is known
  abbrev pub after : Todo → List Mark → List Mark
  after piece.LoadNow ms = Any ∷ rest ms
  after (piece.ElementNow n k) ms = Any ∷ rest (rest ms)
  after (piece.FieldNow k i) ms = Any ∷ rest ms
  after piece.NegateNow ms = Any ∷ rest ms
  after piece.NotNow ms = Any ∷ rest ms
  after piece.CharacterNow ms = Any ∷ rest ms
  after piece.TruthNow ms = Any ∷ rest ms
  after (piece.OperateNow op) ms = Any ∷ rest (rest ms)
  after piece.CopyNow ms = Any ∷ ms
  after piece.CopyBelowNow ms = Any ∷ ms
  after piece.DropNow ms = rest ms
  after piece.DropBelowNow ms = Any ∷ rest (rest ms)
  after piece.StoreNow ms = rest (rest ms)
  after piece.KeepNow ms = Any ∷ rest (rest ms)
  after (piece.SetNow k) ms = ms
  after piece.BindNow ms = Any ∷ rest (rest ms)
  after (piece.Choose e f) ms = Any ∷ rest ms
  after (piece.Arguments es) ms = anys (count es) ms
  after piece.TickNow ms = ms
  after (piece.CallNow r) ms = Any ∷ rests (params source r) ms
  after (piece.CallOnNow r) ms = Any ∷ rests (suc (params source r)) ms
  after (piece.CallUnwrittenNow r) ms = Any ∷ rests (suc (params source r)) ms
  after (piece.LiveNow r) ms = ms
  after (piece.EnterNow m r) ms = ms
  after piece.LeaveNow ms = ms
  after piece.ClusterNow ms = Any ∷ ms
  after piece.ProcessorNow ms = Any ∷ rest ms
  after piece.ClusterEndNow ms = Any ∷ rest ms
  after piece.ProcessorEndNow ms = Any ∷ rest ms
  after (piece.ConditionNow k n) ms = Any ∷ rest ms
  after piece.WaitNow ms = Any ∷ rest (rest ms)
  after piece.SignalNow ms = Any ∷ rest ms
  after piece.SignalBlockNow ms = Any ∷ rest ms
  after piece.EmptyNow ms = Any ∷ rest ms
  after piece.FrontNow ms = Any ∷ rest ms
  after (piece.ReadNow form) ms = Any ∷ ms
  after piece.RaiseNow ms = rests 3 ms
  after piece.DeliverNow ms = rests 3 ms
  after piece.PollNow ms = ms
  after (piece.ClearNow k n) ms = ms
  after piece.Land ms = ms
  after p ms = []

module _ (p : Program) (source : Source) where
  -- code in which arguments are counted and scopes open where they may
  abbrev pub CodeStmt : Stmt → Type 0
  CodeStmt a = CountedStmt source a × SeatedStmt p a

  abbrev pub CodeStmts : Stmts → Type 0
  CodeStmts ss = CountedStmts source ss × SeatedStmts p ss

  -- a block of which nothing is done yet
  abbrev pub CodeBlock : Stmts → Type 0
  CodeBlock ss = OpensNone ss × CodeStmts ss

  abbrev pub CodeHandlers : Handlers → Type 0
  CodeHandlers hs = CountedHandlers source hs × SeatedHandlers p hs

  abbrev pub CodeClauses : Clauses → Type 0
  CodeClauses cs = CountedClauses source cs × SeatedClauses p cs

  abbrev pub CodeLoop : Expr → Option Expr → Stmt → Type 0
  CodeLoop t e b = CountedExpr source t × CountedMaybe source e × CodeStmt b

  abbrev pub CodeRoutine : Option Routine → Type 0
  CodeRoutine None = Unit {0}
  CodeRoutine (Some r) = CodeBlock r.body

  -- the code of a piece, but for those of which more is asked
  abbrev pub CodePiece : Todo → Type 0
  CodePiece (piece.Choose e f) = CountedExpr source e × CountedExpr source f
  CodePiece (piece.Arguments es) = CountedExprs source es
  CodePiece (piece.FillNow n b d) = CountedExpr source b × CountedExpr source d
  CodePiece (piece.Items is) = CountedItems source is
  CodePiece (piece.Values is) = CountedItems source is
  CodePiece (piece.Pieces is) = CountedItems source is
  CodePiece (piece.Targets xs) = CountedTargets source xs
  CodePiece (piece.Variables ds) = CountedDeclared source ds
  CodePiece (piece.Sweep e) = CountedExpr source e
  CodePiece (piece.Guards cs) = CodeClauses cs
  CodePiece x = Unit {0}

  -- `Done`: what holds where an activation ends by its last piece; `Begun`: what holds of one that is still to let the task of its object begin, and has
  -- nothing to do behind that; `Kept d e`: what is told of a scope, or a part, that stands: the destructor, and the place
  module _ (Done Begun : Type 0) (Kept : ℕ → Expr → Type 0) where
    -- the clean-up of an object under construction lets its task begin, and nothing is to do behind it
    abbrev pub Spawns : CleanUp → List Todo → Type 0
    Spawns c todo = Begun × IsSpawning c × AtEnd todo

    -- an exit comes to what is left as a whole, or to where the activation may end
    abbrev pub Quits : List Todo → Type 0
    Quits [] = Done
    Quits (x ∷ todo) = QuitsBy (sort x) (Quits todo)

    -- a return of a mutex member is over as it leaves its object, and exits from there
    abbrev pub QuitsAt : CleanUp → List Todo → Type 0
    QuitsAt src.Leaves todo = Quits todo
    QuitsAt c todo = Unit {0}

    -- one who leaves a simple piece comes to what stands behind it; at a mark that may be done
    abbrev pub LeftBy : Sort → List Todo → Type 0 → Type 0 → Type 0
    LeftBy piece.Simple todo left ok = left
    LeftBy (piece.IsLoop o t e b) todo left ok = CodeLoop t e b × ok
    LeftBy piece.IsWhole todo left ok = ok
    LeftBy (piece.IsClean c) todo left ok = (CountedClean source c × OfScope Kept c) × (ok ⊎ Spawns c todo) × QuitsAt c todo
    LeftBy (piece.IsFill n b d) todo left ok = (CountedExpr source b × CountedExpr source d) × ok
    LeftBy (piece.IsSweep e) todo left ok = CountedExpr source e × ok
    LeftBy (piece.IsPart c) todo left ok = (CountedClean source c × OfPart Kept c) × ok
    LeftBy (piece.IsGuard hs) todo left ok = CodeHandlers hs × ok × Quits todo
    LeftBy piece.IsFinish todo left ok = Done × ok
    LeftBy piece.IsFinishCoroutine todo left ok = ok

    abbrev mutual
      -- a to-do list is in order before operands of which this is known: no scope of a mutex object opens next in it but behind what makes the object,
      -- a statement, the expression in it, what makes it, or the call of its constructor, with its place below the arguments. Where the place of a
      -- seat is found, it may be known or not
      pub Ok : List Mark → List Todo → Type 0
      Ok ms [] = Done
      Ok ms (piece.Eval e ∷ todo) = CountedExpr source e ×
          (Ok (Any ∷ ms) todo ⊎ (AtDrop (Makes p e) todo ⊎ Placed e (λ q. Ok (At q ∷ ms) todo)))
      Ok ms (piece.MakeNow c r ∷ todo) = Ok (anys (suc (params source r)) (rests (suc (params source r)) ms)) todo ⊎
          AtCall r (CalledBy p r (rests (params source r) ms)) todo
      Ok ms (piece.BindMadeNow c r ∷ todo) = Ok (anys (suc (params source r)) (rests (suc (params source r)) (rest ms))) todo ⊎
          AtCall r (CalledBy p r (rests (params source r) (rest ms))) todo
      Ok ms (piece.Do a ∷ todo) = CodeStmt a × (Ok [] todo ⊎ AtRest (Before p a) todo) × (IsTame a ⊎ Quits todo)
      Ok ms (piece.Rest ss ∷ todo) = CodeBlock ss × Ok [] todo × (AreTame ss ⊎ Quits todo)
      Ok ms (piece.Branch a b ∷ todo) = (CodeStmt a × CodeStmt b) × Ok [] todo × Quits todo
      Ok ms (piece.TurnNow o t e b ∷ todo) = CodeLoop t e b × Ok [] todo × Quits todo
      Ok ms (piece.Again o t e b ∷ todo) = CodeLoop t e b × Ok [] todo × Quits todo
      Ok ms (piece.InLoop o t e b ∷ todo) = CodeLoop t e b × Ok [] todo × Quits todo
      Ok ms (piece.ChooseNow cs ∷ todo) = CodeClauses cs × Ok [] todo × Quits todo
      Ok ms (piece.Guard hs ∷ todo) = CodeHandlers hs × Ok [] todo × Quits todo
      Ok ms (piece.Exit w ∷ todo) = Left todo × Quits todo
      Ok ms (piece.Unwind ∷ todo) = Left todo
      Ok ms (piece.Clean c ∷ todo) = (CountedClean source c × OfScope Kept c) × (Ok [] todo ⊎ Spawns c todo) × QuitsAt c todo
      Ok ms (piece.Part c ∷ todo) = (CountedClean source c × OfPart Kept c) × Ok [] todo
      Ok ms (piece.Finish ∷ todo) = Done × Ok [] todo
      Ok ms (x ∷ todo) = CodePiece x × Ok (after source x ms) todo

      -- such a scope may open next
      pub AtRest : (ℕ → Expr → Type 0) → List Todo → Type 0
      AtRest P (piece.Rest ss ∷ todo) = (OpensOf P ss × CodeStmts ss) × Ok [] todo × (AreTame ss ⊎ Quits todo)
      AtRest P todo = ⊥

      pub AtDrop : (ℕ → Expr → Type 0) → List Todo → Type 0
      AtDrop P (piece.DropNow ∷ (piece.Within line ∷ todo)) = AtRest P todo
      AtDrop P todo = ⊥

      -- behind the call of a constructor
      pub AtCall : ℕ → (ℕ → Expr → Type 0) → List Todo → Type 0
      AtCall r P (piece.CallOnNow q ∷ todo) = (q ≡ r) × AtDrop P todo
      AtCall r P (piece.CallUnwrittenNow q ∷ todo) = (q ≡ r) × AtDrop P todo
      AtCall r P todo = ⊥

      -- it is for one who leaves it
      pub Left : List Todo → Type 0
      Left [] = Unit {0}
      Left (x ∷ todo) = LeftBy (sort x) todo (Left todo) (Ok [] todo)

    -- such a scope may open next, now that its object is built
    abbrev pub Stands : (ℕ → Expr → Type 0) → List Todo → Type 0
    Stands P (piece.Rest ss ∷ todo) = AtRest P (piece.Rest ss ∷ todo)
    Stands P (piece.Within line ∷ todo) = AtRest P todo
    Stands P (piece.DropNow ∷ todo) = AtDrop P (piece.DropNow ∷ todo)
    Stands P todo = ⊥

    -- the building of an object begins that lets its task begin at its end; and that is now
    abbrev pub Starts : List Todo → Type 0
    Starts (piece.Rest ss ∷ todo) = CodeBlock ss × Begun × Begins ss × AtEnd todo
    Starts (piece.SpawnNow r ∷ todo) = Begun × AtEnd todo
    Starts todo = ⊥

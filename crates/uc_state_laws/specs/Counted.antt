-- Code in which each call has as many arguments as its routine has parameters, and in which what is raised at another execution is an event
-- by a number that there may be.
use Rattle.std.specs.Prelude.{◌≡◌, ℕ, suc, ◌<◌, List, [], ◌∷◌, Option, Some, None, slice_get}
use Rattle.uc_tree.specs.declared.limits.TheConstants.{EVENTS}
use Rattle.uc_tree.specs.Source.{Expr, Exprs, ObjectExpr, Literal, Variable, Element, Get, Load, Negated, Not, AsCharacter, AsTruth, Operate, And, Or, Set, Assign, First, Update, StepBehind, Fail, Call, OfObject, NoExprs, MoreExprs, This, OwnField, GetOwn, FieldOf, Counted, CallOn, CallLive, CallUnwritten, EnterOn, EndOn, Bind, MakeOn, NewCluster, NewProcessor, EndCluster, EndProcessor, ConditionAt, Wait, Signal, SignalBlock, IsEmpty, FrontOf, Item, Show, ShowText, Target, Declared, CleanUp, Destroys, DestroysAll, Stmt, Stmts, Skip, Block, Whole, Evaluate, Declare, Print, PrintTogether, Read, If, Loop, Break, Continue, Return, Owes, Fill, OfEvents, OfTasks, Nil, Then, Scoped, Built, Raised, Plainly, BuiltAt, AgainFrom, EventStmt, Throw, Raise, Try, RaiseAt, Enable, Disable, TaskStmt, Migrate, Accept, Handlers, NoHandlers, MoreHandlers, Clauses, NoClauses, Otherwise, MoreClauses, Routine, Source}

abbrev pub params_at : Option Routine → ℕ
params_at None = 0
params_at (Some r) = r.params

abbrev pub count : Exprs → ℕ
count NoExprs = 0
count (MoreExprs e es) = suc (count es)

module _ (source : Source) where
  -- how many parameters a routine has, by its number
  abbrev pub params : ℕ → ℕ
  params r = params_at (slice_get source.routines r)

  abbrev mutual
    pub CountedExpr : Expr → Type 0
    CountedExpr (Literal n) = Unit {0}
    CountedExpr (Variable k) = Unit {0}
    CountedExpr (Element n s e i) = CountedExpr e × CountedExpr i
    CountedExpr (Get k) = Unit {0}
    CountedExpr (Load e) = CountedExpr e
    CountedExpr (Negated e) = CountedExpr e
    CountedExpr (Not e) = CountedExpr e
    CountedExpr (AsCharacter e) = CountedExpr e
    CountedExpr (AsTruth e) = CountedExpr e
    CountedExpr (Operate op e f) = CountedExpr e × CountedExpr f
    CountedExpr (And e f) = CountedExpr e × CountedExpr f
    CountedExpr (Or e f) = CountedExpr e × CountedExpr f
    CountedExpr (Set k e) = CountedExpr e
    CountedExpr (Assign p e) = CountedExpr p × CountedExpr e
    CountedExpr (First e f) = CountedExpr e × CountedExpr f
    CountedExpr (Update op s p e) = CountedExpr p × CountedExpr e
    CountedExpr (StepBehind op s p) = CountedExpr p
    CountedExpr Fail = Unit {0}
    CountedExpr (Call r args) = CountedExprs args × (count args ≡ params r)
    CountedExpr (OfObject o) = CountedObject o

    pub CountedExprs : Exprs → Type 0
    CountedExprs NoExprs = Unit {0}
    CountedExprs (MoreExprs e es) = CountedExpr e × CountedExprs es

    pub CountedObject : ObjectExpr → Type 0
    CountedObject This = Unit {0}
    CountedObject (OwnField s i) = Unit {0}
    CountedObject (GetOwn s i) = Unit {0}
    CountedObject (FieldOf s i e) = CountedExpr e
    CountedObject Counted = Unit {0}
    CountedObject (CallOn r e args) = CountedExpr e × CountedExprs args × (count args ≡ params r)
    CountedObject (CallLive r e args) = CountedExpr e × CountedExprs args × (count args ≡ params r)
    CountedObject (CallUnwritten r e) = CountedExpr e × (0 ≡ params r)
    CountedObject (EnterOn m r e args) = CountedExpr e × CountedExprs args × (count args ≡ params r)
    CountedObject (EndOn r written e) = CountedExpr e × (0 ≡ params r)
    CountedObject (Bind p e) = CountedExpr p × CountedExpr e
    CountedObject (MakeOn c r written e args) = CountedExpr e × CountedExprs args × (count args ≡ params r)
    CountedObject NewCluster = Unit {0}
    CountedObject (NewProcessor e) = CountedExpr e
    CountedObject (EndCluster e) = CountedExpr e
    CountedObject (EndProcessor e) = CountedExpr e
    CountedObject (ConditionAt k n e) = CountedExpr e
    CountedObject (Wait e f) = CountedExpr e × CountedExpr f
    CountedObject (Signal e) = CountedExpr e
    CountedObject (SignalBlock e) = CountedExpr e
    CountedObject (IsEmpty e) = CountedExpr e
    CountedObject (FrontOf e) = CountedExpr e

  abbrev pub CountedMaybe : Option Expr → Type 0
  CountedMaybe None = Unit {0}
  CountedMaybe (Some e) = CountedExpr e

  abbrev pub CountedItem : Item → Type 0
  CountedItem (Show form e) = CountedExpr e
  CountedItem (ShowText k) = Unit {0}

  abbrev pub CountedItems : List Item → Type 0
  CountedItems [] = Unit {0}
  CountedItems (i ∷ is) = CountedItem i × CountedItems is

  abbrev pub CountedTargets : List Target → Type 0
  CountedTargets [] = Unit {0}
  CountedTargets (x ∷ xs) = CountedExpr x.place × CountedTargets xs

  abbrev pub CountedDeclared : List Declared → Type 0
  CountedDeclared [] = Unit {0}
  CountedDeclared (d ∷ ds) = CountedMaybe d.value × CountedDeclared ds

  abbrev pub CountedClean : CleanUp → Type 0
  CountedClean (Destroys e) = CountedExpr e
  CountedClean (DestroysAll n e) = CountedExpr e
  CountedClean c = Unit {0}

  abbrev pub CountedRaised : Raised → Type 0
  CountedRaised (Plainly n) = Unit {0}
  CountedRaised (BuiltAt n k e) = CountedExpr e
  CountedRaised (AgainFrom k) = Unit {0}

  -- what is raised at another execution is raised by its number
  abbrev pub CountedAt : Raised → Type 0
  CountedAt (Plainly n) = n < EVENTS
  CountedAt (BuiltAt n k e) = (n < EVENTS) × CountedExpr e
  CountedAt (AgainFrom k) = ⊥

  abbrev mutual
    pub CountedStmt : Stmt → Type 0
    CountedStmt (Skip line) = Unit {0}
    CountedStmt (Block line body) = CountedStmts body
    CountedStmt (Whole line body) = CountedStmts body
    CountedStmt (Evaluate line e) = CountedExpr e
    CountedStmt (Declare line ds) = CountedDeclared ds
    CountedStmt (Print line items) = CountedItems items
    CountedStmt (PrintTogether line items) = CountedItems items
    CountedStmt (Read line xs) = CountedTargets xs
    CountedStmt (If line e a b) = CountedExpr e × CountedStmt a × CountedStmt b
    CountedStmt (Loop line o e step b) = CountedExpr e × CountedMaybe step × CountedStmt b
    CountedStmt (Break line) = Unit {0}
    CountedStmt (Continue line) = Unit {0}
    CountedStmt (Return line e) = CountedMaybe e
    CountedStmt (Owes line) = Unit {0}
    CountedStmt (Fill line n b d) = CountedExpr b × CountedExpr d
    CountedStmt (OfEvents a) = CountedEvent a
    CountedStmt (OfTasks a) = CountedTask a

    pub CountedStmts : Stmts → Type 0
    CountedStmts Nil = Unit {0}
    CountedStmts (Then a rest) = CountedStmt a × CountedStmts rest
    CountedStmts (Scoped c rest) = CountedClean c × CountedStmts rest
    CountedStmts (Built c rest) = CountedClean c × CountedStmts rest

    pub CountedEvent : EventStmt → Type 0
    CountedEvent (Throw line r) = CountedRaised r
    CountedEvent (Raise line r) = CountedRaised r
    CountedEvent (Try line body hs) = CountedStmts body × CountedHandlers hs
    CountedEvent (RaiseAt line r e) = CountedAt r × CountedExpr e
    CountedEvent (Enable line events cell a) = CountedStmt a
    CountedEvent (Disable line events cell a) = CountedStmt a

    pub CountedHandlers : Handlers → Type 0
    CountedHandlers NoHandlers = Unit {0}
    CountedHandlers (MoreHandlers resumes event cell line body rest) = CountedStmts body × CountedHandlers rest

    pub CountedTask : TaskStmt → Type 0
    CountedTask (Migrate line e) = CountedExpr e
    CountedTask (Accept line site cs) = CountedClauses cs
    CountedTask a = Unit {0}

    pub CountedClauses : Clauses → Type 0
    CountedClauses NoClauses = Unit {0}
    CountedClauses (Otherwise b) = CountedStmt b
    CountedClauses (MoreClauses guard b cs) = CountedExpr guard × CountedStmt b × CountedClauses cs

  -- the body of a routine, if there is one
  abbrev pub CountedRoutine : Option Routine → Type 0
  CountedRoutine None = Unit {0}
  CountedRoutine (Some r) = CountedStmts r.body

  abbrev pub CountedSource : Type 0
  CountedSource = (n : ℕ) → CountedRoutine (slice_get source.routines n)

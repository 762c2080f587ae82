-- Code in which mutex objects are ended by clean-ups alone: by one for what is at a variable or at a field of the object at hand, or for the elements of an
-- array there.
use Rattle.std.specs.Prelude.{◌≡◌, ℕ, ◌⊎◌, Bool, true, false, List, [], ◌∷◌, Option, Some, None, slice_get}
use Rattle.uc_tree.specs.Source.{Binding, Expr, Exprs, ObjectExpr, Literal, Variable, Element, Get, Load, Negated, Not, AsCharacter, AsTruth, Operate, And, Or, Set, Assign, First, Update, StepBehind, Fail, Call, OfObject, NoExprs, MoreExprs, This, OwnField, GetOwn, FieldOf, Counted, CallOn, CallLive, CallUnwritten, EnterOn, EndOn, Bind, MakeOn, NewCluster, NewProcessor, EndCluster, EndProcessor, ConditionAt, Wait, Signal, SignalBlock, IsEmpty, FrontOf, Item, Show, ShowText, Target, Declared, CleanUp, Destroys, DestroysAll, Stmt, Stmts, Skip, Block, Whole, Evaluate, Declare, Print, PrintTogether, Read, If, Loop, Break, Continue, Return, Owes, Fill, OfEvents, OfTasks, Nil, Then, Scoped, Built, Raised, Plainly, BuiltAt, AgainFrom, EventStmt, Throw, Raise, Try, RaiseAt, Enable, Disable, TaskStmt, Migrate, Accept, Handlers, NoHandlers, MoreHandlers, Clauses, NoClauses, Otherwise, MoreClauses, Routine, Source}
use Rattle.uc_typing.specs.Typing.{Table}
use Rattle.uc_life_laws.specs.Ending.{Spot, naming}

module _ (t : Table) where
  -- no mutex object is ended in these, and members that are entered build and destroy none
  abbrev mutual
    pub FreeExpr : Expr → Type 0
    FreeExpr (Literal n) = Unit {0}
    FreeExpr (Variable k) = Unit {0}
    FreeExpr (Element n s e i) = FreeExpr e × FreeExpr i
    FreeExpr (Get k) = Unit {0}
    FreeExpr (Load e) = FreeExpr e
    FreeExpr (Negated e) = FreeExpr e
    FreeExpr (Not e) = FreeExpr e
    FreeExpr (AsCharacter e) = FreeExpr e
    FreeExpr (AsTruth e) = FreeExpr e
    FreeExpr (Operate op e f) = FreeExpr e × FreeExpr f
    FreeExpr (And e f) = FreeExpr e × FreeExpr f
    FreeExpr (Or e f) = FreeExpr e × FreeExpr f
    FreeExpr (Set k e) = FreeExpr e
    FreeExpr (Assign p e) = FreeExpr p × FreeExpr e
    FreeExpr (First e f) = FreeExpr e × FreeExpr f
    FreeExpr (Update op s p e) = FreeExpr p × FreeExpr e
    FreeExpr (StepBehind op s p) = FreeExpr p
    FreeExpr Fail = Unit {0}
    FreeExpr (Call r args) = FreeExprs args
    FreeExpr (OfObject o) = FreeObject o

    pub FreeExprs : Exprs → Type 0
    FreeExprs NoExprs = Unit {0}
    FreeExprs (MoreExprs e es) = FreeExpr e × FreeExprs es

    pub FreeObject : ObjectExpr → Type 0
    FreeObject This = Unit {0}
    FreeObject (OwnField s i) = Unit {0}
    FreeObject (GetOwn s i) = Unit {0}
    FreeObject (FieldOf s i e) = FreeExpr e
    FreeObject Counted = Unit {0}
    FreeObject (CallOn r e args) = FreeExpr e × FreeExprs args
    FreeObject (CallLive r e args) = FreeExpr e × FreeExprs args
    FreeObject (CallUnwritten r e) = FreeExpr e
    FreeObject (EnterOn m r e args) = ((t.routine r).whole ≡ false) × FreeExpr e × FreeExprs args
    FreeObject (EndOn r written e) = ⊥
    FreeObject (Bind p e) = FreeExpr p × FreeExpr e
    FreeObject (MakeOn c r written e args) = FreeExpr e × FreeExprs args
    FreeObject NewCluster = Unit {0}
    FreeObject (NewProcessor e) = FreeExpr e
    FreeObject (EndCluster e) = FreeExpr e
    FreeObject (EndProcessor e) = FreeExpr e
    FreeObject (ConditionAt k n e) = FreeExpr e
    FreeObject (Wait e f) = FreeExpr e × FreeExpr f
    FreeObject (Signal e) = FreeExpr e
    FreeObject (SignalBlock e) = FreeExpr e
    FreeObject (IsEmpty e) = FreeExpr e
    FreeObject (FrontOf e) = FreeExpr e

  abbrev pub FreeMaybe : Option Expr → Type 0
  FreeMaybe None = Unit {0}
  FreeMaybe (Some e) = FreeExpr e

  abbrev pub FreeItem : Item → Type 0
  FreeItem (Show form e) = FreeExpr e
  FreeItem (ShowText k) = Unit {0}

  abbrev pub FreeItems : List Item → Type 0
  FreeItems [] = Unit {0}
  FreeItems (i ∷ is) = FreeItem i × FreeItems is

  abbrev pub FreeTargets : List Target → Type 0
  FreeTargets [] = Unit {0}
  FreeTargets (x ∷ xs) = FreeExpr x.place × FreeTargets xs

  abbrev pub FreeDeclared : List Declared → Type 0
  FreeDeclared [] = Unit {0}
  FreeDeclared (d ∷ ds) = FreeMaybe d.value × FreeDeclared ds

  abbrev pub FreeRaised : Raised → Type 0
  FreeRaised (Plainly n) = Unit {0}
  FreeRaised (BuiltAt n k e) = FreeExpr e
  FreeRaised (AgainFrom k) = Unit {0}

-- where mutex objects end: at a spot, or as the elements of an array of so many there
pub data EndSite : Type 0 where
  AtSpot : Spot → EndSite
  AtElement : ℕ → Spot → EndSite

-- such a place, as code names it: of an element that of the one that is counted
abbrev pub named : EndSite → Expr
named (AtSpot p) = naming p
named (AtElement n p) = Element n Binding (naming p) (OfObject Counted)

-- an expression ends the mutex object that is at home at a site: by a destructor of a mutex class, which is called for the object as a whole
pub record EndOf (t : Table) (x : EndSite) (e : Expr) : Type 0 where
  pub routine : ℕ
  pub written : Bool
  pub class : ℕ
  pub is : e ≡ OfObject (EndOn routine written (Load (named x)))
  pub this : (t.routine routine).this ≡ Some class
  pub whole : (t.routine routine).whole ≡ true
  pub mutex : t.mutex class ≡ true
  pub params : [] ≡ (t.routine routine).params

-- one at a spot; one that is the counted element of an array there
abbrev pub EndsSpot : Table → Expr → Type 0
EndsSpot t e = (p : Spot) × EndOf t (AtSpot p) e

abbrev pub EndsElement : Table → Expr → Type 0
EndsElement t e = (n : ℕ) × (p : Spot) × EndOf t (AtElement n p) e

-- what a clean-up evaluates ends none, or that one
abbrev pub FreeSweep : Table → Expr → Type 0
FreeSweep t e = FreeExpr t e ⊎ EndsElement t e

abbrev pub FreeClean : Table → CleanUp → Type 0
FreeClean t (Destroys e) = FreeExpr t e ⊎ EndsSpot t e
FreeClean t (DestroysAll n e) = FreeSweep t e
FreeClean t c = Unit {0}

module _ (t : Table) where
  abbrev mutual
    pub FreeStmt : Stmt → Type 0
    FreeStmt (Skip line) = Unit {0}
    FreeStmt (Block line body) = FreeStmts body
    FreeStmt (Whole line body) = FreeStmts body
    FreeStmt (Evaluate line e) = FreeExpr t e
    FreeStmt (Declare line ds) = FreeDeclared t ds
    FreeStmt (Print line items) = FreeItems t items
    FreeStmt (PrintTogether line items) = FreeItems t items
    FreeStmt (Read line xs) = FreeTargets t xs
    FreeStmt (If line e a b) = FreeExpr t e × FreeStmt a × FreeStmt b
    FreeStmt (Loop line o e step b) = FreeExpr t e × FreeMaybe t step × FreeStmt b
    FreeStmt (Break line) = Unit {0}
    FreeStmt (Continue line) = Unit {0}
    FreeStmt (Return line e) = FreeMaybe t e
    FreeStmt (Owes line) = Unit {0}
    FreeStmt (Fill line n b d) = FreeExpr t b × FreeSweep t d
    FreeStmt (OfEvents a) = FreeEvent a
    FreeStmt (OfTasks a) = FreeTask a

    pub FreeStmts : Stmts → Type 0
    FreeStmts Nil = Unit {0}
    FreeStmts (Then a rest) = FreeStmt a × FreeStmts rest
    FreeStmts (Scoped c rest) = FreeClean t c × FreeStmts rest
    FreeStmts (Built c rest) = FreeClean t c × FreeStmts rest

    pub FreeEvent : EventStmt → Type 0
    FreeEvent (Throw line r) = FreeRaised t r
    FreeEvent (Raise line r) = FreeRaised t r
    FreeEvent (Try line body hs) = FreeStmts body × FreeHandlers hs
    FreeEvent (RaiseAt line r e) = FreeRaised t r × FreeExpr t e
    FreeEvent (Enable line events cell a) = FreeStmt a
    FreeEvent (Disable line events cell a) = FreeStmt a

    pub FreeHandlers : Handlers → Type 0
    FreeHandlers NoHandlers = Unit {0}
    FreeHandlers (MoreHandlers resumes event cell line body rest) = FreeStmts body × FreeHandlers rest

    pub FreeTask : TaskStmt → Type 0
    FreeTask (Migrate line e) = FreeExpr t e
    FreeTask (Accept line site cs) = FreeClauses cs
    FreeTask a = Unit {0}

    pub FreeClauses : Clauses → Type 0
    FreeClauses NoClauses = Unit {0}
    FreeClauses (Otherwise b) = FreeStmt b
    FreeClauses (MoreClauses guard b cs) = FreeExpr t guard × FreeStmt b × FreeClauses cs

  -- the body of a routine, if there is one
  abbrev pub FreeRoutine : Option Routine → Type 0
  FreeRoutine None = Unit {0}
  FreeRoutine (Some r) = FreeStmts r.body

  abbrev pub FreeSource : Source → Type 0
  FreeSource source = (n : ℕ) → FreeRoutine (slice_get source.routines n)

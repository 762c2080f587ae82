-- Code whose names are known: each member of a mutex class by a number that there may be, each event likewise, and each accept statement by
-- its number among those of the source, with as many clauses as stand there.
use Rattle.std.specs.Prelude.{◌≡◌, ℕ, ◌<◌, ◌≤◌, List, [], ◌∷◌, length, Option, Some, None, slice_get}
use Rattle.uc_tree.specs.declared.limits.TheConstants.{MEMBERS, EVENTS}
use Rattle.uc_tree.specs.Programs.{Site}
use Rattle.uc_tree.specs.Source.{Expr, Exprs, ObjectExpr, Literal, Variable, Element, Get, Load, Negated, Not, AsCharacter, AsTruth, Operate, And, Or, Set, Assign, First, Update, StepBehind, Fail, Call, OfObject, NoExprs, MoreExprs, This, OwnField, GetOwn, FieldOf, Counted, CallOn, CallLive, CallUnwritten, EnterOn, EndOn, Bind, MakeOn, NewCluster, NewProcessor, EndCluster, EndProcessor, ConditionAt, Wait, Signal, SignalBlock, IsEmpty, FrontOf, Item, Show, ShowText, Target, Declared, CleanUp, Destroys, DestroysAll, Stmt, Stmts, Skip, Block, Whole, Evaluate, Declare, Print, PrintTogether, Read, If, Loop, Break, Continue, Return, Owes, Fill, OfEvents, OfTasks, Nil, Then, Scoped, Built, Raised, Plainly, BuiltAt, AgainFrom, EventStmt, Throw, Raise, Try, RaiseAt, Enable, Disable, TaskStmt, Migrate, Accept, Handlers, NoHandlers, MoreHandlers, Clauses, NoClauses, Otherwise, MoreClauses, clause_count, Routine, Source}
use Rattle.uc_acts.specs.Doors.{site_at}

-- the accept statement of this number is one of these, and has so many clauses
pub record IsSite (sites : List Site) (site clauses : ℕ) : Type 0 where
  pub known : site < length sites
  pub clauses_are : length (site_at sites site).clauses ≡ clauses

abbrev mutual
  pub NamedExpr : Expr → Type 0
  NamedExpr (Literal n) = Unit {0}
  NamedExpr (Variable k) = Unit {0}
  NamedExpr (Element n s e i) = NamedExpr e × NamedExpr i
  NamedExpr (Get k) = Unit {0}
  NamedExpr (Load e) = NamedExpr e
  NamedExpr (Negated e) = NamedExpr e
  NamedExpr (Not e) = NamedExpr e
  NamedExpr (AsCharacter e) = NamedExpr e
  NamedExpr (AsTruth e) = NamedExpr e
  NamedExpr (Operate op e f) = NamedExpr e × NamedExpr f
  NamedExpr (And e f) = NamedExpr e × NamedExpr f
  NamedExpr (Or e f) = NamedExpr e × NamedExpr f
  NamedExpr (Set k e) = NamedExpr e
  NamedExpr (Assign p e) = NamedExpr p × NamedExpr e
  NamedExpr (First e f) = NamedExpr e × NamedExpr f
  NamedExpr (Update op s p e) = NamedExpr p × NamedExpr e
  NamedExpr (StepBehind op s p) = NamedExpr p
  NamedExpr Fail = Unit {0}
  NamedExpr (Call r args) = NamedExprs args
  NamedExpr (OfObject o) = NamedObject o

  pub NamedExprs : Exprs → Type 0
  NamedExprs NoExprs = Unit {0}
  NamedExprs (MoreExprs e es) = NamedExpr e × NamedExprs es

  pub NamedObject : ObjectExpr → Type 0
  NamedObject This = Unit {0}
  NamedObject (OwnField s i) = Unit {0}
  NamedObject (GetOwn s i) = Unit {0}
  NamedObject (FieldOf s i e) = NamedExpr e
  NamedObject Counted = Unit {0}
  NamedObject (CallOn r e args) = NamedExpr e × NamedExprs args
  NamedObject (CallLive r e args) = NamedExpr e × NamedExprs args
  NamedObject (CallUnwritten r e) = NamedExpr e
  -- a mutex member has a number
  NamedObject (EnterOn m r e args) = (m ≤ MEMBERS) × NamedExpr e × NamedExprs args
  NamedObject (EndOn r written e) = NamedExpr e
  NamedObject (Bind p e) = NamedExpr p × NamedExpr e
  NamedObject (MakeOn c r written e args) = NamedExpr e × NamedExprs args
  NamedObject NewCluster = Unit {0}
  NamedObject (NewProcessor e) = NamedExpr e
  NamedObject (EndCluster e) = NamedExpr e
  NamedObject (EndProcessor e) = NamedExpr e
  NamedObject (ConditionAt k n e) = NamedExpr e
  NamedObject (Wait e f) = NamedExpr e × NamedExpr f
  NamedObject (Signal e) = NamedExpr e
  NamedObject (SignalBlock e) = NamedExpr e
  NamedObject (IsEmpty e) = NamedExpr e
  NamedObject (FrontOf e) = NamedExpr e

abbrev pub NamedMaybe : Option Expr → Type 0
NamedMaybe None = Unit {0}
NamedMaybe (Some e) = NamedExpr e

abbrev pub NamedItem : Item → Type 0
NamedItem (Show form e) = NamedExpr e
NamedItem (ShowText k) = Unit {0}

abbrev pub NamedItems : List Item → Type 0
NamedItems [] = Unit {0}
NamedItems (i ∷ is) = NamedItem i × NamedItems is

abbrev pub NamedTargets : List Target → Type 0
NamedTargets [] = Unit {0}
NamedTargets (x ∷ xs) = NamedExpr x.place × NamedTargets xs

abbrev pub NamedDeclared : List Declared → Type 0
NamedDeclared [] = Unit {0}
NamedDeclared (d ∷ ds) = NamedMaybe d.value × NamedDeclared ds

abbrev pub NamedClean : CleanUp → Type 0
NamedClean (Destroys e) = NamedExpr e
NamedClean (DestroysAll n e) = NamedExpr e
NamedClean c = Unit {0}

abbrev pub NamedRaised : Raised → Type 0
NamedRaised (Plainly n) = Unit {0}
NamedRaised (BuiltAt n k e) = NamedExpr e
NamedRaised (AgainFrom k) = Unit {0}

-- what is raised at another execution is raised by its number
abbrev pub NamedAt : Raised → Type 0
NamedAt (Plainly n) = n < EVENTS
NamedAt (BuiltAt n k e) = (n < EVENTS) × NamedExpr e
NamedAt (AgainFrom k) = ⊥

module _ (sites : List Site) where
  abbrev mutual
    pub NamedStmt : Stmt → Type 0
    NamedStmt (Skip line) = Unit {0}
    NamedStmt (Block line body) = NamedStmts body
    NamedStmt (Whole line body) = NamedStmts body
    NamedStmt (Evaluate line e) = NamedExpr e
    NamedStmt (Declare line ds) = NamedDeclared ds
    NamedStmt (Print line items) = NamedItems items
    NamedStmt (PrintTogether line items) = NamedItems items
    NamedStmt (Read line xs) = NamedTargets xs
    NamedStmt (If line e a b) = NamedExpr e × NamedStmt a × NamedStmt b
    NamedStmt (Loop line o e step b) = NamedExpr e × NamedMaybe step × NamedStmt b
    NamedStmt (Break line) = Unit {0}
    NamedStmt (Continue line) = Unit {0}
    NamedStmt (Return line e) = NamedMaybe e
    NamedStmt (Owes line) = Unit {0}
    NamedStmt (Fill line n b d) = NamedExpr b × NamedExpr d
    NamedStmt (OfEvents a) = NamedEvent a
    NamedStmt (OfTasks a) = NamedTask a

    pub NamedStmts : Stmts → Type 0
    NamedStmts Nil = Unit {0}
    NamedStmts (Then a rest) = NamedStmt a × NamedStmts rest
    NamedStmts (Scoped c rest) = NamedClean c × NamedStmts rest
    NamedStmts (Built c rest) = NamedClean c × NamedStmts rest

    pub NamedEvent : EventStmt → Type 0
    NamedEvent (Throw line r) = NamedRaised r
    NamedEvent (Raise line r) = NamedRaised r
    NamedEvent (Try line body hs) = NamedStmts body × NamedHandlers hs
    NamedEvent (RaiseAt line r e) = NamedAt r × NamedExpr e
    NamedEvent (Enable line events cell a) = NamedStmt a
    NamedEvent (Disable line events cell a) = NamedStmt a

    pub NamedHandlers : Handlers → Type 0
    NamedHandlers NoHandlers = Unit {0}
    NamedHandlers (MoreHandlers resumes event cell line body rest) = NamedStmts body × NamedHandlers rest

    -- an accept statement is one of the source, with as many clauses
    pub NamedTask : TaskStmt → Type 0
    NamedTask (Migrate line e) = NamedExpr e
    NamedTask (Accept line site cs) = IsSite sites site (clause_count cs) × NamedClauses cs
    NamedTask a = Unit {0}

    pub NamedClauses : Clauses → Type 0
    NamedClauses NoClauses = Unit {0}
    NamedClauses (Otherwise b) = NamedStmt b
    NamedClauses (MoreClauses guard b cs) = NamedExpr guard × NamedStmt b × NamedClauses cs

  -- the body of a routine, if there is one
  abbrev pub NamedRoutine : Option Routine → Type 0
  NamedRoutine None = Unit {0}
  NamedRoutine (Some r) = NamedStmts r.body

  abbrev pub NamedSource : Source → Type 0
  NamedSource source = (n : ℕ) → NamedRoutine (slice_get source.routines n)

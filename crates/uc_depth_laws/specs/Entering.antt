-- Code in which what holds an object is called where that is entered: a routine whose statements are, as a whole, in a scope that lets
-- go of the object of its activation is called by a mutex call, by the making of an object or by its end, and by nothing else; one at whose
-- end the object has been built, by the making of an object alone; and no other statements stand in such a scope. Tasks and coroutines
-- begin with mains.
use Rattle.std.specs.Prelude.{◌≡◌, ℕ, List, [], ◌∷◌, Option, Some, None, Bool, true, false, slice_get}
use Rattle.uc_tree.specs.Source.{Expr, Exprs, ObjectExpr, Literal, Variable, Element, Get, Load, Negated, Not, AsCharacter, AsTruth, Operate, And, Or, Set, Assign, First, Update, StepBehind, Fail, Call, OfObject, NoExprs, MoreExprs, This, OwnField, GetOwn, FieldOf, Counted, CallOn, CallLive, CallUnwritten, EnterOn, EndOn, Bind, MakeOn, NewCluster, NewProcessor, EndCluster, EndProcessor, ConditionAt, Wait, Signal, SignalBlock, IsEmpty, FrontOf, Item, Show, ShowText, Target, Declared, CleanUp, Destroys, DestroysAll, Leaves, Ends, Frees, Stmt, Stmts, Skip, Block, Whole, Evaluate, Declare, Print, PrintTogether, Read, If, Loop, Break, Continue, Return, Owes, Fill, OfEvents, OfTasks, Nil, Then, Scoped, Built, Raised, Plainly, BuiltAt, AgainFrom, EventStmt, Throw, Raise, Try, RaiseAt, Enable, Disable, TaskStmt, SetUp, Migrate, Accept, Handlers, NoHandlers, MoreHandlers, Clauses, NoClauses, Otherwise, MoreClauses, Purpose, TaskMain, CoroutineMain, Routine, Source, routine_of}

-- whether a clean-up lets go of the object of its activation: by the end of a call, of its destruction or of its building
abbrev pub lets_go : CleanUp → Bool
lets_go Leaves = true
lets_go Ends = true
lets_go (Frees r) = true
lets_go c = false

-- what is told of an object: that it is new, and that it is another than the own object of the task and than that in which the execution is at
-- home
pub data Aspect : Type 0 where
  New : Aspect
  Other : Aspect

-- of what a clean-up lets go of that is told: what has been built is new, and what has been destroyed another
abbrev pub asks : CleanUp → Aspect → Bool
asks (Frees r) New = true
asks (Frees r) Other = false
asks Ends New = false
asks Ends Other = true
asks c k = false

-- whether statements are, as a whole, in a scope that does
abbrev pub holds_object : Stmts → Bool
holds_object (Scoped c rest) = lets_go c
holds_object body = false

-- whether this is told of the object of statements that are in such a scope
abbrev pub asks_object : Stmts → Aspect → Bool
asks_object (Scoped c rest) k = asks c k
asks_object body k = false

-- whether those of the routine of this number are
abbrev pub is_holding : Source → ℕ → Bool
is_holding source r = holds_object (routine_of source r).body

-- whether they are in one at whose end the object has been built, and in one at whose end it has been destroyed
abbrev pub is_building : Source → ℕ → Bool
is_building source r = asks_object (routine_of source r).body New

abbrev pub is_ending : Source → ℕ → Bool
is_ending source r = asks_object (routine_of source r).body Other

-- a main ends in its own way: by what asks for the end of its task, or by what ends the coroutine
abbrev pub EndsMain : Purpose → Type 0
EndsMain TaskMain = Unit {0}
EndsMain CoroutineMain = Unit {0}
EndsMain p = ⊥

abbrev pub IsMainRoutine : Option Routine → Type 0
IsMainRoutine None = ⊥
IsMainRoutine (Some r) = EndsMain r.purpose

-- the routine of this number is the main of a task or of a coroutine
abbrev pub IsMain : Source → ℕ → Type 0
IsMain source r = IsMainRoutine (slice_get source.routines r)

module _ (source : Source) where
  abbrev mutual
    pub EnteredExpr : Expr → Type 0
    EnteredExpr (Literal n) = Unit {0}
    EnteredExpr (Variable k) = Unit {0}
    EnteredExpr (Element n s e i) = EnteredExpr e × EnteredExpr i
    EnteredExpr (Get k) = Unit {0}
    EnteredExpr (Load e) = EnteredExpr e
    EnteredExpr (Negated e) = EnteredExpr e
    EnteredExpr (Not e) = EnteredExpr e
    EnteredExpr (AsCharacter e) = EnteredExpr e
    EnteredExpr (AsTruth e) = EnteredExpr e
    EnteredExpr (Operate op e f) = EnteredExpr e × EnteredExpr f
    EnteredExpr (And e f) = EnteredExpr e × EnteredExpr f
    EnteredExpr (Or e f) = EnteredExpr e × EnteredExpr f
    EnteredExpr (Set k e) = EnteredExpr e
    EnteredExpr (Assign p e) = EnteredExpr p × EnteredExpr e
    EnteredExpr (First e f) = EnteredExpr e × EnteredExpr f
    EnteredExpr (Update op s p e) = EnteredExpr p × EnteredExpr e
    EnteredExpr (StepBehind op s p) = EnteredExpr p
    EnteredExpr Fail = Unit {0}
    EnteredExpr (Call r args) = (is_holding source r ≡ false) × EnteredExprs args
    EnteredExpr (OfObject o) = EnteredObject o

    pub EnteredExprs : Exprs → Type 0
    EnteredExprs NoExprs = Unit {0}
    EnteredExprs (MoreExprs e es) = EnteredExpr e × EnteredExprs es

    pub EnteredObject : ObjectExpr → Type 0
    EnteredObject This = Unit {0}
    EnteredObject (OwnField s i) = Unit {0}
    EnteredObject (GetOwn s i) = Unit {0}
    EnteredObject (FieldOf s i e) = EnteredExpr e
    EnteredObject Counted = Unit {0}
    EnteredObject (CallOn r e args) = (is_holding source r ≡ false) × EnteredExpr e × EnteredExprs args
    EnteredObject (CallLive r e args) = (is_holding source r ≡ false) × EnteredExpr e × EnteredExprs args
    EnteredObject (CallUnwritten r e) = (is_holding source r ≡ false) × EnteredExpr e
    -- what builds an object is called by what makes it alone
    EnteredObject (EnterOn m r e args) = (is_building source r ≡ false) × EnteredExpr e × EnteredExprs args
    EnteredObject (EndOn r written e) = (is_building source r ≡ false) × EnteredExpr e
    EnteredObject (Bind p e) = EnteredExpr p × EnteredExpr e
    EnteredObject (MakeOn c r written e args) = EnteredExpr e × EnteredExprs args
    EnteredObject NewCluster = Unit {0}
    EnteredObject (NewProcessor e) = EnteredExpr e
    EnteredObject (EndCluster e) = EnteredExpr e
    EnteredObject (EndProcessor e) = EnteredExpr e
    EnteredObject (ConditionAt k n e) = EnteredExpr e
    EnteredObject (Wait e f) = EnteredExpr e × EnteredExpr f
    EnteredObject (Signal e) = EnteredExpr e
    EnteredObject (SignalBlock e) = EnteredExpr e
    EnteredObject (IsEmpty e) = EnteredExpr e
    EnteredObject (FrontOf e) = EnteredExpr e

  abbrev pub EnteredMaybe : Option Expr → Type 0
  EnteredMaybe None = Unit {0}
  EnteredMaybe (Some e) = EnteredExpr e

  abbrev pub EnteredItem : Item → Type 0
  EnteredItem (Show form e) = EnteredExpr e
  EnteredItem (ShowText k) = Unit {0}

  abbrev pub EnteredItems : List Item → Type 0
  EnteredItems [] = Unit {0}
  EnteredItems (i ∷ is) = EnteredItem i × EnteredItems is

  abbrev pub EnteredTargets : List Target → Type 0
  EnteredTargets [] = Unit {0}
  EnteredTargets (x ∷ xs) = EnteredExpr x.place × EnteredTargets xs

  abbrev pub EnteredDeclared : List Declared → Type 0
  EnteredDeclared [] = Unit {0}
  EnteredDeclared (d ∷ ds) = EnteredMaybe d.value × EnteredDeclared ds

  abbrev pub EnteredClean : CleanUp → Type 0
  EnteredClean (Destroys e) = EnteredExpr e
  EnteredClean (DestroysAll n e) = EnteredExpr e
  -- a task that begins where its object is free has a main, which holds no object
  EnteredClean (Frees (Some r)) = (is_holding source r ≡ false) × IsMain source r
  EnteredClean c = Unit {0}

  abbrev pub EnteredRaised : Raised → Type 0
  EnteredRaised (Plainly n) = Unit {0}
  EnteredRaised (BuiltAt n k e) = EnteredExpr e
  EnteredRaised (AgainFrom k) = Unit {0}

  abbrev mutual
    pub EnteredStmt : Stmt → Type 0
    EnteredStmt (Skip line) = Unit {0}
    EnteredStmt (Block line body) = EnteredStmts body
    EnteredStmt (Whole line body) = EnteredStmts body
    EnteredStmt (Evaluate line e) = EnteredExpr e
    EnteredStmt (Declare line ds) = EnteredDeclared ds
    EnteredStmt (Print line items) = EnteredItems items
    EnteredStmt (PrintTogether line items) = EnteredItems items
    EnteredStmt (Read line xs) = EnteredTargets xs
    EnteredStmt (If line e a b) = EnteredExpr e × EnteredStmt a × EnteredStmt b
    EnteredStmt (Loop line o e step b) = EnteredExpr e × EnteredMaybe step × EnteredStmt b
    EnteredStmt (Break line) = Unit {0}
    EnteredStmt (Continue line) = Unit {0}
    EnteredStmt (Return line e) = EnteredMaybe e
    EnteredStmt (Owes line) = Unit {0}
    EnteredStmt (Fill line n b d) = EnteredExpr b × EnteredExpr d
    EnteredStmt (OfEvents a) = EnteredEvent a
    EnteredStmt (OfTasks a) = EnteredTask a

    pub EnteredStmts : Stmts → Type 0
    EnteredStmts Nil = Unit {0}
    EnteredStmts (Then a rest) = EnteredStmt a × EnteredStmts rest
    EnteredStmts (Scoped c rest) = (lets_go c ≡ false) × EnteredClean c × EnteredStmts rest
    EnteredStmts (Built c rest) = (lets_go c ≡ false) × EnteredClean c × EnteredStmts rest

    pub EnteredEvent : EventStmt → Type 0
    EnteredEvent (Throw line r) = EnteredRaised r
    EnteredEvent (Raise line r) = EnteredRaised r
    EnteredEvent (Try line body hs) = EnteredStmts body × EnteredHandlers hs
    EnteredEvent (RaiseAt line r e) = EnteredRaised r × EnteredExpr e
    EnteredEvent (Enable line events cell a) = EnteredStmt a
    EnteredEvent (Disable line events cell a) = EnteredStmt a

    pub EnteredHandlers : Handlers → Type 0
    EnteredHandlers NoHandlers = Unit {0}
    EnteredHandlers (MoreHandlers resumes event cell line body rest) = EnteredStmts body × EnteredHandlers rest

    -- so has a coroutine
    pub EnteredTask : TaskStmt → Type 0
    EnteredTask (Migrate line e) = EnteredExpr e
    EnteredTask (Accept line site cs) = EnteredClauses cs
    EnteredTask (SetUp r) = (is_holding source r ≡ false) × IsMain source r
    EnteredTask a = Unit {0}

    pub EnteredClauses : Clauses → Type 0
    EnteredClauses NoClauses = Unit {0}
    EnteredClauses (Otherwise b) = EnteredStmt b
    EnteredClauses (MoreClauses guard b cs) = EnteredExpr guard × EnteredStmt b × EnteredClauses cs

  -- the statements of a routine, which may be the scope of a call that lets go of the object
  abbrev pub EnteredBody : Stmts → Type 0
  EnteredBody (Scoped c rest) = EnteredClean c × EnteredStmts rest
  EnteredBody body = EnteredStmts body

  abbrev pub EnteredRoutine : Option Routine → Type 0
  EnteredRoutine None = Unit {0}
  EnteredRoutine (Some r) = EnteredBody r.body

  pub record EnteredSource : Type 0 where
    pub routines : (n : ℕ) → EnteredRoutine (slice_get source.routines n)
    pub main : is_holding source source.main ≡ false
    pub ends : IsMain source source.main

-- Code in which an object is built where its scope opens right behind that, or as a field of the object at hand of a constructor, and in which
-- nothing else calls a constructor at an object: so what constructors bind can lie aside of the variables that are still to be bound.
use Rattle.std.specs.Prelude.{◌≡◌, ℕ, ◌⊎◌, List, [], ◌∷◌, Option, Some, None, Bool, true, false, slice_get}
use Rattle.uc_tree.specs.Source.{Expr, Exprs, ObjectExpr, Literal, Variable, Element, Get, Load, Negated, Not, AsCharacter, AsTruth, Operate, And, Or, Set, Assign, First, Update, StepBehind, Fail, Call, OfObject, NoExprs, MoreExprs, This, OwnField, GetOwn, FieldOf, Counted, CallOn, CallLive, CallUnwritten, EnterOn, EndOn, Bind, MakeOn, NewCluster, NewProcessor, EndCluster, EndProcessor, ConditionAt, Wait, Signal, SignalBlock, IsEmpty, FrontOf, Item, Show, ShowText, Target, Declared, CleanUp, Destroys, DestroysAll, Stmt, Stmts, Skip, Block, Whole, Evaluate, Declare, Print, PrintTogether, Read, If, Loop, Break, Continue, Return, Owes, Fill, OfEvents, OfTasks, Nil, Then, Scoped, Built, Raised, Plainly, BuiltAt, AgainFrom, EventStmt, Throw, Raise, Try, RaiseAt, Enable, Disable, TaskStmt, SetUp, Migrate, Accept, Handlers, NoHandlers, MoreHandlers, Clauses, NoClauses, Otherwise, MoreClauses, Routine, Source}
use Rattle.uc_state_laws.specs.There.{OfEach}

-- the object at a variable: what destroys it is this, of an object that is no mutex one; and of the elements of an array there
abbrev pub DestroysAt : Expr → ℕ → Type 0
DestroysAt (OfObject (CallOn r (Variable m) args)) k = m ≡ k
DestroysAt (OfObject (CallUnwritten r (Variable m))) k = m ≡ k
DestroysAt d k = ⊥

abbrev pub DestroysIn : Expr → ℕ → Type 0
DestroysIn (OfObject (CallOn r (Element n s (Variable m) (OfObject Counted)) args)) k = m ≡ k
DestroysIn (OfObject (CallUnwritten r (Element n s (Variable m) (OfObject Counted)))) k = m ≡ k
DestroysIn d k = ⊥

-- the scope of that, or of those, opens next
abbrev pub OpensAt : Stmts → ℕ → Type 0
OpensAt (Scoped (Destroys d) rest) k = DestroysAt d k
OpensAt (Scoped (DestroysAll n d) rest) k = DestroysIn d k
OpensAt ss k = ⊥

-- no scope of what is known by its number opens next
abbrev pub OpensAlone : Stmts → Type 0
OpensAlone (Scoped c rest) = OfEach (λ p. ⊥) c
OpensAlone ss = Unit {0}

-- an expression makes a mutex object; it does where what destroys what it builds ends one
abbrev pub MakesMutex : Expr → Type 0
MakesMutex (OfObject (MakeOn c r written p args)) = Unit {0}
MakesMutex e = ⊥

abbrev pub MakesFor : Expr → Expr → Type 0
MakesFor b (OfObject (EndOn r written e)) = MakesMutex b
MakesFor b d = Unit {0}

-- nothing is built at a variable; something may be at each
abbrev pub Nowhere : ℕ → Type 0
Nowhere k = ⊥

abbrev pub Everywhere : ℕ → Type 0
Everywhere k = Unit {0}

-- `makes r`: the routine of this number may bind fields of the object at hand
module _ (makes : ℕ → Bool) where
  -- an expression that calls no such routine at an object, and binds, makes and ends nothing
  abbrev mutual
    pub PlainExpr : Expr → Type 0
    PlainExpr (Literal n) = Unit {0}
    PlainExpr (Variable k) = Unit {0}
    PlainExpr (Element n s e i) = PlainExpr e × PlainExpr i
    PlainExpr (Get k) = Unit {0}
    PlainExpr (Load e) = PlainExpr e
    PlainExpr (Negated e) = PlainExpr e
    PlainExpr (Not e) = PlainExpr e
    PlainExpr (AsCharacter e) = PlainExpr e
    PlainExpr (AsTruth e) = PlainExpr e
    PlainExpr (Operate op e f) = PlainExpr e × PlainExpr f
    PlainExpr (And e f) = PlainExpr e × PlainExpr f
    PlainExpr (Or e f) = PlainExpr e × PlainExpr f
    PlainExpr (Set k e) = PlainExpr e
    PlainExpr (Assign p e) = PlainExpr p × PlainExpr e
    PlainExpr (First e f) = PlainExpr e × PlainExpr f
    PlainExpr (Update op s p e) = PlainExpr p × PlainExpr e
    PlainExpr (StepBehind op s p) = PlainExpr p
    PlainExpr Fail = Unit {0}
    PlainExpr (Call r args) = PlainExprs args
    PlainExpr (OfObject o) = PlainObject o

    pub PlainExprs : Exprs → Type 0
    PlainExprs NoExprs = Unit {0}
    PlainExprs (MoreExprs e es) = PlainExpr e × PlainExprs es

    pub PlainObject : ObjectExpr → Type 0
    PlainObject This = Unit {0}
    PlainObject (OwnField s i) = Unit {0}
    PlainObject (GetOwn s i) = Unit {0}
    PlainObject (FieldOf s i e) = PlainExpr e
    PlainObject Counted = Unit {0}
    PlainObject (CallOn r e args) = (makes r ≡ false) × PlainExpr e × PlainExprs args
    PlainObject (CallLive r e args) = (makes r ≡ false) × PlainExpr e × PlainExprs args
    PlainObject (CallUnwritten r e) = (makes r ≡ false) × PlainExpr e
    PlainObject (EnterOn m r e args) = (makes r ≡ false) × PlainExpr e × PlainExprs args
    PlainObject (EndOn r written e) = ⊥
    PlainObject (Bind p e) = ⊥
    PlainObject (MakeOn c r written p args) = ⊥
    PlainObject NewCluster = ⊥
    PlainObject (NewProcessor e) = ⊥
    PlainObject (EndCluster e) = ⊥
    PlainObject (EndProcessor e) = ⊥
    PlainObject (ConditionAt k n e) = PlainExpr e
    PlainObject (Wait e f) = PlainExpr e × PlainExpr f
    PlainObject (Signal e) = PlainExpr e
    PlainObject (SignalBlock e) = PlainExpr e
    PlainObject (IsEmpty e) = PlainExpr e
    PlainObject (FrontOf e) = PlainExpr e

  abbrev pub PlainMaybe : Option Expr → Type 0
  PlainMaybe None = Unit {0}
  PlainMaybe (Some e) = PlainExpr e

  abbrev pub PlainItem : Item → Type 0
  PlainItem (Show form e) = PlainExpr e
  PlainItem (ShowText k) = Unit {0}

  abbrev pub PlainItems : List Item → Type 0
  PlainItems [] = Unit {0}
  PlainItems (i ∷ is) = PlainItem i × PlainItems is

  abbrev pub PlainTargets : List Target → Type 0
  PlainTargets [] = Unit {0}
  PlainTargets (x ∷ xs) = PlainExpr x.place × PlainTargets xs

  abbrev pub PlainDeclared : List Declared → Type 0
  PlainDeclared [] = Unit {0}
  PlainDeclared (d ∷ ds) = PlainMaybe d.value × PlainDeclared ds

  -- what is new: a cluster, a processor
  abbrev pub PlainNew : Expr → Type 0
  PlainNew (OfObject NewCluster) = Unit {0}
  PlainNew (OfObject (NewProcessor e)) = PlainExpr e
  PlainNew e = ⊥

  -- what builds is `made`, or not: then it builds no field of the object at hand. A place where it may build: a variable where it may be,
  -- such a field, or an element of one of these
  abbrev pub SitedAt : (ℕ → Type 0) → Bool → Expr → Type 0
  SitedAt Near made (Variable k) = Near k
  SitedAt Near made (OfObject (OwnField s i)) = made ≡ true
  SitedAt Near made (Element n s e i) = SitedAt Near made e × PlainExpr i
  SitedAt Near made e = ⊥

  -- an expression that is evaluated by itself, and builds an object at such a place, or binds a field there
  abbrev pub BuildsAt : (ℕ → Type 0) → Bool → Expr → Type 0
  BuildsAt Near made (OfObject (CallOn r p args)) = SitedAt Near made p × PlainExprs args
  BuildsAt Near made (OfObject (CallUnwritten r p)) = SitedAt Near made p
  BuildsAt Near made (OfObject (Bind p e)) = SitedAt Near made p × PlainExpr e
  BuildsAt Near made e = ⊥

  -- one that does not: it binds a place to what is new, makes a mutex object, at a variable or at such a field, or ends what is known by its
  -- number
  abbrev pub Singly : Bool → Expr → Type 0
  Singly made (OfObject (Bind p e)) = SitedAt Everywhere made p × PlainNew e
  Singly made (OfObject (MakeOn c r written p args)) = SitedAt Everywhere made p × PlainExprs args
  Singly made (OfObject (EndOn r written e)) = (makes r ≡ false) × PlainExpr e
  Singly made (OfObject (EndCluster e)) = PlainExpr e
  Singly made (OfObject (EndProcessor e)) = PlainExpr e
  Singly made e = ⊥

  abbrev pub PlainSingle : Bool → Expr → Type 0
  PlainSingle made e = PlainExpr e ⊎ Singly made e

  abbrev pub SitedExpr : (ℕ → Type 0) → Bool → Expr → Type 0
  SitedExpr Near made e = PlainSingle made e ⊎ BuildsAt Near made e

  abbrev pub SitedClean : CleanUp → Type 0
  SitedClean (Destroys e) = PlainSingle false e
  SitedClean (DestroysAll n e) = PlainSingle false e
  SitedClean c = Unit {0}

  -- an event is built in the hidden cells of its statement
  abbrev pub SitedRaised : Bool → Raised → Type 0
  SitedRaised made (Plainly n) = Unit {0}
  SitedRaised made (BuiltAt n k e) = SitedExpr (λ m. m ≡ k) made e
  SitedRaised made (AgainFrom k) = Unit {0}

  -- a statement behind which the scope of an object at these variables opens; an array is built where no array opens of what is known by its
  -- number, and what ends mutex objects that are its elements stands beside what makes them
  abbrev mutual
    pub SitedStmt : (ℕ → Type 0) → Type 0 → Bool → Stmt → Type 0
    SitedStmt Near Alone made (Skip line) = Unit {0}
    SitedStmt Near Alone made (Block line body) = SitedStmts made body
    SitedStmt Near Alone made (Whole line body) = SitedStmts made body
    SitedStmt Near Alone made (Evaluate line e) = SitedExpr Near made e
    SitedStmt Near Alone made (Declare line ds) = PlainDeclared ds
    SitedStmt Near Alone made (Print line items) = PlainItems items
    SitedStmt Near Alone made (PrintTogether line items) = PlainItems items
    SitedStmt Near Alone made (Read line xs) = PlainTargets xs
    SitedStmt Near Alone made (If line e a b) = PlainExpr e × SitedStmt Nowhere ⊥ made a × SitedStmt Nowhere ⊥ made b
    SitedStmt Near Alone made (Loop line o e step b) = PlainExpr e × PlainMaybe step × SitedStmt Nowhere ⊥ made b
    SitedStmt Near Alone made (Break line) = Unit {0}
    SitedStmt Near Alone made (Continue line) = Unit {0}
    SitedStmt Near Alone made (Return line e) = PlainMaybe e
    SitedStmt Near Alone made (Owes line) = Unit {0}
    SitedStmt Near Alone made (Fill line n b d) = (PlainSingle made b ⊎ (BuildsAt Near made b × Alone)) × PlainSingle false d × MakesFor b d
    SitedStmt Near Alone made (OfEvents a) = SitedEvent made a
    SitedStmt Near Alone made (OfTasks a) = SitedTask made a

    pub SitedStmts : Bool → Stmts → Type 0
    SitedStmts made Nil = Unit {0}
    SitedStmts made (Then a rest) = SitedStmt (OpensAt rest) (OpensAlone rest) made a × SitedStmts made rest
    SitedStmts made (Scoped c rest) = SitedClean c × SitedStmts made rest
    SitedStmts made (Built c rest) = SitedClean c × SitedStmts made rest

    pub SitedEvent : Bool → EventStmt → Type 0
    SitedEvent made (Throw line r) = SitedRaised made r
    SitedEvent made (Raise line r) = SitedRaised made r
    SitedEvent made (Try line body hs) = SitedStmts made body × SitedHandlers made hs
    SitedEvent made (RaiseAt line r e) = SitedRaised made r × PlainExpr e
    SitedEvent made (Enable line events cell a) = SitedStmt Nowhere ⊥ made a
    SitedEvent made (Disable line events cell a) = SitedStmt Nowhere ⊥ made a

    -- a handler may run as an activation of its own, which builds no field
    pub SitedHandlers : Bool → Handlers → Type 0
    SitedHandlers made NoHandlers = Unit {0}
    SitedHandlers made (MoreHandlers resumes event cell line body rest) =
        SitedStmts made body × SitedHandlers made rest × SitedStmts false body

    -- an execution is given to the object at hand by what builds that, and begins with what builds none
    pub SitedTask : Bool → TaskStmt → Type 0
    SitedTask made (SetUp r) = (made ≡ true) × (makes r ≡ false)
    SitedTask made (Migrate line e) = PlainExpr e
    SitedTask made (Accept line site cs) = SitedClauses made cs
    SitedTask made a = Unit {0}

    pub SitedClauses : Bool → Clauses → Type 0
    SitedClauses made NoClauses = Unit {0}
    SitedClauses made (Otherwise b) = SitedStmt Nowhere ⊥ made b
    SitedClauses made (MoreClauses guard b cs) = PlainExpr guard × SitedStmt Nowhere ⊥ made b × SitedClauses made cs

  abbrev pub SitedRoutine : Bool → Option Routine → Type 0
  SitedRoutine made None = Unit {0}
  SitedRoutine made (Some r) = SitedStmts made r.body

  -- the routines of a source
  abbrev pub SitedSource : Source → Type 0
  SitedSource source = (n : ℕ) → SitedRoutine (makes n) (slice_get source.routines n)

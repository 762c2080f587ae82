-- A walk over the resolved tree, by what is asked of calls, of what asks for an object, of statements of tasks and of scopes. Something is known of a
-- place, which scopes of objects may change.
use Rattle.std.specs.Prelude.{ℕ, List, [], ◌∷◌, Option, Some, None}
use Rattle.uc_tree.specs.Source.{Expr, Exprs, ObjectExpr, Literal, Variable, Element, Get, Load, Negated, Not, AsCharacter, AsTruth, Operate, And, Or, Set, Assign, First, Update, StepBehind, Fail, Call, OfObject, NoExprs, MoreExprs, This, OwnField, GetOwn, FieldOf, Counted, CallOn, CallLive, CallUnwritten, EnterOn, EndOn, Bind, MakeOn, NewCluster, NewProcessor, EndCluster, EndProcessor, ConditionAt, Wait, Signal, SignalBlock, IsEmpty, FrontOf, Item, Show, ShowText, Target, Declared, CleanUp, Destroys, DestroysAll, Stmt, Stmts, Skip, Block, Whole, Evaluate, Declare, Print, PrintTogether, Read, If, Loop, Break, Continue, Return, Owes, Fill, OfEvents, OfTasks, Nil, Then, Scoped, Built, Raised, Plainly, BuiltAt, AgainFrom, EventStmt, Throw, Raise, Try, RaiseAt, Enable, Disable, TaskStmt, Migrate, Accept, Handlers, NoHandlers, MoreHandlers, Clauses, NoClauses, Otherwise, MoreClauses}

module _ (G : Type 0) (under : CleanUp → G → G) (AtCall : ℕ → Exprs → Type 0) (AtObject : G → ObjectExpr → Type 0) (AtTask : G → TaskStmt → Type 0) (AtClean : G → CleanUp → Type 0) where
  abbrev mutual
    pub InExpr : G → Expr → Type 0
    InExpr g (Literal n) = Unit {0}
    InExpr g (Variable k) = Unit {0}
    InExpr g (Element n s e i) = InExpr g e × InExpr g i
    InExpr g (Get k) = Unit {0}
    InExpr g (Load e) = InExpr g e
    InExpr g (Negated e) = InExpr g e
    InExpr g (Not e) = InExpr g e
    InExpr g (AsCharacter e) = InExpr g e
    InExpr g (AsTruth e) = InExpr g e
    InExpr g (Operate op e f) = InExpr g e × InExpr g f
    InExpr g (And e f) = InExpr g e × InExpr g f
    InExpr g (Or e f) = InExpr g e × InExpr g f
    InExpr g (Set k e) = InExpr g e
    InExpr g (Assign p e) = InExpr g p × InExpr g e
    InExpr g (First e f) = InExpr g e × InExpr g f
    InExpr g (Update op s p e) = InExpr g p × InExpr g e
    InExpr g (StepBehind op s p) = InExpr g p
    InExpr g Fail = Unit {0}
    InExpr g (Call r args) = AtCall r args × InExprs g args
    InExpr g (OfObject o) = AtObject g o × InObject g o

    pub InExprs : G → Exprs → Type 0
    InExprs g NoExprs = Unit {0}
    InExprs g (MoreExprs e es) = InExpr g e × InExprs g es

    -- the parts of what asks for an object
    pub InObject : G → ObjectExpr → Type 0
    InObject g This = Unit {0}
    InObject g (OwnField s i) = Unit {0}
    InObject g (GetOwn s i) = Unit {0}
    InObject g (FieldOf s i e) = InExpr g e
    InObject g Counted = Unit {0}
    InObject g (CallOn r e args) = InExpr g e × InExprs g args
    InObject g (CallLive r e args) = InExpr g e × InExprs g args
    InObject g (CallUnwritten r e) = InExpr g e
    InObject g (EnterOn m r e args) = InExpr g e × InExprs g args
    InObject g (EndOn r written e) = InExpr g e
    InObject g (Bind p e) = InExpr g p × InExpr g e
    InObject g (MakeOn c r written e args) = InExpr g e × InExprs g args
    InObject g NewCluster = Unit {0}
    InObject g (NewProcessor e) = InExpr g e
    InObject g (EndCluster e) = InExpr g e
    InObject g (EndProcessor e) = InExpr g e
    InObject g (ConditionAt k n e) = InExpr g e
    InObject g (Wait e f) = InExpr g e × InExpr g f
    InObject g (Signal e) = InExpr g e
    InObject g (SignalBlock e) = InExpr g e
    InObject g (IsEmpty e) = InExpr g e
    InObject g (FrontOf e) = InExpr g e

  abbrev pub InMaybe : G → Option Expr → Type 0
  InMaybe g None = Unit {0}
  InMaybe g (Some e) = InExpr g e

  abbrev pub InItem : G → Item → Type 0
  InItem g (Show form e) = InExpr g e
  InItem g (ShowText k) = Unit {0}

  abbrev pub InItems : G → List Item → Type 0
  InItems g [] = Unit {0}
  InItems g (i ∷ is) = InItem g i × InItems g is

  abbrev pub InTargets : G → List Target → Type 0
  InTargets g [] = Unit {0}
  InTargets g (x ∷ xs) = InExpr g x.place × InTargets g xs

  abbrev pub InDeclared : G → List Declared → Type 0
  InDeclared g [] = Unit {0}
  InDeclared g (d ∷ ds) = InMaybe g d.value × InDeclared g ds

  abbrev pub InClean : G → CleanUp → Type 0
  InClean g (Destroys e) = InExpr g e
  InClean g (DestroysAll n e) = InExpr g e
  InClean g c = AtClean g c

  abbrev pub InRaised : G → Raised → Type 0
  InRaised g (Plainly n) = Unit {0}
  InRaised g (BuiltAt n k e) = InExpr g e
  InRaised g (AgainFrom k) = Unit {0}

  abbrev mutual
    pub InStmt : G → Stmt → Type 0
    InStmt g (Skip line) = Unit {0}
    InStmt g (Block line body) = InStmts g body
    InStmt g (Whole line body) = InStmts g body
    InStmt g (Evaluate line e) = InExpr g e
    InStmt g (Declare line ds) = InDeclared g ds
    InStmt g (Print line items) = InItems g items
    InStmt g (PrintTogether line items) = InItems g items
    InStmt g (Read line xs) = InTargets g xs
    InStmt g (If line e a b) = InExpr g e × InStmt g a × InStmt g b
    InStmt g (Loop line o e step b) = InExpr g e × InMaybe g step × InStmt g b
    InStmt g (Break line) = Unit {0}
    InStmt g (Continue line) = Unit {0}
    InStmt g (Return line e) = InMaybe g e
    InStmt g (Owes line) = Unit {0}
    InStmt g (Fill line n b d) = InExpr g b × InExpr g d
    InStmt g (OfEvents a) = InEvent g a
    InStmt g (OfTasks a) = AtTask g a × InTask g a

    pub InStmts : G → Stmts → Type 0
    InStmts g Nil = Unit {0}
    InStmts g (Then a rest) = InStmt g a × InStmts g rest
    InStmts g (Scoped c rest) = InClean g c × InStmts (under c g) rest
    InStmts g (Built c rest) = InClean g c × InStmts g rest

    pub InEvent : G → EventStmt → Type 0
    InEvent g (Throw line r) = InRaised g r
    InEvent g (Raise line r) = InRaised g r
    InEvent g (Try line body hs) = InStmts g body × InHandlers g hs
    InEvent g (RaiseAt line r e) = InRaised g r × InExpr g e
    InEvent g (Enable line events cell a) = InStmt g a
    InEvent g (Disable line events cell a) = InStmt g a

    pub InHandlers : G → Handlers → Type 0
    InHandlers g NoHandlers = Unit {0}
    InHandlers g (MoreHandlers resumes event cell line body rest) = InStmts g body × InHandlers g rest

    pub InTask : G → TaskStmt → Type 0
    InTask g (Migrate line e) = InExpr g e
    InTask g (Accept line site cs) = InClauses g cs
    InTask g a = Unit {0}

    pub InClauses : G → Clauses → Type 0
    InClauses g NoClauses = Unit {0}
    InClauses g (Otherwise b) = InStmt g b
    InClauses g (MoreClauses guard b cs) = InExpr g guard × InStmt g b × InClauses g cs

-- Where a scope opens: right behind the statement that builds what it is of.
use Rattle.std.specs.Prelude.{◌≡◌, ℕ, ◌⊎◌, Bool, true, false, Option, Some, None, slice_get}
use Rattle.uc_tree.specs.Programs.{Program}
use Rattle.uc_tree.specs.Source.{Shape, Expr, Element, Load, OfObject, OwnField, Counted, CallOn, CallUnwritten, EndOn, Bind, MakeOn, NewCluster, NewProcessor, EndCluster, EndProcessor, CleanUp, Destroys, DestroysAll, Stmt, Stmts, Block, Whole, Evaluate, If, Loop, Fill, OfEvents, OfTasks, Nil, Then, Scoped, Built, EventStmt, Try, Enable, Disable, TaskStmt, Accept, Handlers, NoHandlers, MoreHandlers, Clauses, NoClauses, Otherwise, MoreClauses, Routine}
use Rattle.uc_resolve.specs.Resolve.{source_of}

-- an expression builds the object at a place, or binds that to the number of a new one; one destroys it
abbrev pub Builds : Expr → Expr → Type 0
Builds (OfObject (CallOn r p args)) q = p ≡ q
Builds (OfObject (CallUnwritten r p)) q = p ≡ q
Builds (OfObject (Bind p (OfObject NewCluster))) q = p ≡ q
Builds (OfObject (Bind p (OfObject (NewProcessor e)))) q = p ≡ q
Builds (OfObject (MakeOn c r written p args)) q = p ≡ q
Builds e q = ⊥

abbrev pub Destroying : Expr → Expr → Type 0
Destroying (OfObject (CallOn r p args)) q = p ≡ q
Destroying (OfObject (CallUnwritten r p)) q = p ≡ q
Destroying (OfObject (EndOn r written (Load p))) q = p ≡ q
Destroying (OfObject (EndCluster (Load p))) q = p ≡ q
Destroying (OfObject (EndProcessor (Load p))) q = p ≡ q
Destroying e q = ⊥

-- whether that is of an object known by its number: one of a mutex class, a cluster, a processor
abbrev pub is_numbered : Expr → Bool
is_numbered (OfObject (Bind p e)) = true
is_numbered (OfObject (MakeOn c r written p args)) = true
is_numbered (OfObject (EndOn r written e)) = true
is_numbered (OfObject (EndCluster e)) = true
is_numbered (OfObject (EndProcessor e)) = true
is_numbered e = false

-- what the first builds the second destroys
pub record IsEndOf (b d : Expr) : Type 0 where
  pub place : Expr
  pub built : Builds b place
  pub ended : Destroying d place
  pub alike : is_numbered b ≡ is_numbered d

-- a statement builds what is cleaned up: an object, or all elements of an array, those that stand being destroyed alike where an event
-- comes before all do
abbrev pub Opens : Option Stmt → CleanUp → Type 0
Opens (Some (Evaluate line b)) (Destroys d) = IsEndOf b d
Opens (Some (Fill line n b d)) (DestroysAll m e) = (n ≡ m) × (d ≡ e) × IsEndOf b d
Opens before c = ⊥

-- a field of the object at hand is destroyed, or an element of one
pub record EndsField (d : Expr) : Type 0 where
  pub shape : Shape
  pub number : ℕ
  pub field : Destroying d (OfObject (OwnField shape number))

pub record EndsElement (d : Expr) : Type 0 where
  pub shape : Shape
  pub number : ℕ
  pub count : ℕ
  pub of : Shape
  pub element : Destroying d (Element count of (OfObject (OwnField shape number)) (OfObject Counted))

-- a scope behind a statement: that of an object opens behind what builds it, but for fields, which a destructor destroys
abbrev pub ScopeOpens : Option Stmt → CleanUp → Type 0
ScopeOpens before (Destroys d) = Opens before (Destroys d) ⊎ EndsField d
ScopeOpens before (DestroysAll n d) = Opens before (DestroysAll n d) ⊎ EndsElement d
ScopeOpens before c = Unit {0}

-- a part of the object under construction is one from behind what builds it on
abbrev pub PartOpens : Option Stmt → CleanUp → Type 0
PartOpens before (Destroys d) = Opens before (Destroys d)
PartOpens before (DestroysAll n d) = Opens before (DestroysAll n d)
PartOpens before c = Unit {0}

abbrev mutual
  pub OpenStmt : Stmt → Type 0
  OpenStmt (Block line body) = OpenStmts None body
  OpenStmt (Whole line body) = OpenStmts None body
  OpenStmt (If line e a b) = OpenStmt a × OpenStmt b
  OpenStmt (Loop line order e step b) = OpenStmt b
  OpenStmt (OfEvents a) = OpenEvent a
  OpenStmt (OfTasks a) = OpenTask a
  OpenStmt a = Unit {0}

  -- statements behind one of the same block
  pub OpenStmts : Option Stmt → Stmts → Type 0
  OpenStmts before Nil = Unit {0}
  OpenStmts before (Then a rest) = OpenStmt a × OpenStmts (Some a) rest
  OpenStmts before (Scoped c rest) = ScopeOpens before c × OpenStmts None rest
  OpenStmts before (Built c rest) = PartOpens before c × OpenStmts None rest

  pub OpenEvent : EventStmt → Type 0
  OpenEvent (Try line body hs) = OpenStmts None body × OpenHandlers hs
  OpenEvent (Enable line events cell a) = OpenStmt a
  OpenEvent (Disable line events cell a) = OpenStmt a
  OpenEvent a = Unit {0}

  pub OpenHandlers : Handlers → Type 0
  OpenHandlers NoHandlers = Unit {0}
  OpenHandlers (MoreHandlers resumes event cell line body rest) = OpenStmts None body × OpenHandlers rest

  pub OpenTask : TaskStmt → Type 0
  OpenTask (Accept line site cs) = OpenClauses cs
  OpenTask a = Unit {0}

  pub OpenClauses : Clauses → Type 0
  OpenClauses NoClauses = Unit {0}
  OpenClauses (Otherwise b) = OpenStmt b
  OpenClauses (MoreClauses guard b cs) = OpenStmt b × OpenClauses cs

abbrev pub OpenRoutine : Option Routine → Type 0
OpenRoutine None = Unit {0}
OpenRoutine (Some r) = OpenStmts None r.body

-- in the source of every program each scope of an object opens behind the statement that builds it
abbrev pub LawOpening : Type 0
LawOpening = (p : Program) (n : ℕ) → OpenRoutine (slice_get (source_of p).routines n)

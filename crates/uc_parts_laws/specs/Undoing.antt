-- Constructors of which a destructor takes over what they build: each part has its clean-up among the scopes with which the destructor begins. And code in which
-- what builds parts is called where such a destructor stands next.
use Rattle.std.specs.Prelude.{◌≡◌, ℕ, ◌⊎◌, Bool, true, false, List, Option, Some, None, slice_get}
use Rattle.uc_tree.specs.Source.{Expr, Exprs, ObjectExpr, Variable, Element, Load, NoExprs, OfObject, OwnField, Counted, CallOn, CallLive, CallUnwritten, EnterOn, EndOn, MakeOn, Item, Target, Declared, CleanUp, Destroys, DestroysAll, Forgets, Ends, Stmt, Stmts, Block, Whole, Evaluate, Declare, Print, PrintTogether, Read, If, Loop, Return, Fill, OfEvents, OfTasks, Nil, Then, Scoped, Built, Raised, EventStmt, Throw, Raise, Try, RaiseAt, Enable, Disable, TaskStmt, Migrate, Accept, Handlers, NoHandlers, MoreHandlers, Clauses, NoClauses, Otherwise, MoreClauses, Routine, Source}
use Rattle.uc_inner_laws.specs.Walks as walk
use Rattle.uc_life_laws.specs.Destroying.{IsScoped}
use Rattle.uc_parts_laws.specs.Parts.{AllParts}

-- a field of the object at hand; and the element that is counted of an array of so many there
abbrev pub IsField : Expr → Type 0
IsField (OfObject (OwnField h i)) = Unit {0}
IsField e = ⊥

abbrev pub IsElement : ℕ → Expr → Type 0
IsElement m (Element n k (OfObject (OwnField h i)) (OfObject Counted)) = n ≡ m
IsElement m e = ⊥

-- so is the place of what is destroyed
abbrev pub DestroysAt : (Expr → Type 0) → Expr → Type 0
DestroysAt P (OfObject (CallOn d p args)) = P p
DestroysAt P (OfObject (CallUnwritten d p)) = P p
DestroysAt P (OfObject (EndOn d written (Load p))) = P p
DestroysAt P e = Unit {0}

-- the task that is a mutex object ends among these first scopes
abbrev pub IsEnded : Bool → Stmts → Type 0
IsEnded true ss = IsScoped Ends ss
IsEnded false ss = ⊥

-- the clean-up of a part of an object, of a mutex class or not, opens among these first scopes
abbrev pub IsUndone : Bool → Stmts → CleanUp → Type 0
IsUndone mutex ss (Destroys e) = IsScoped (Destroys e) ss × DestroysAt IsField e
IsUndone mutex ss (DestroysAll m e) = IsScoped (DestroysAll m e) ss × DestroysAt (IsElement m) e
IsUndone mutex ss Forgets = IsScoped Forgets ss
IsUndone mutex ss Ends = IsEnded mutex ss
IsUndone mutex ss c = Unit {0}

-- a variable, or a field of the object at hand; and the element that is counted of an array there
abbrev pub IsLocus : Expr → Type 0
IsLocus (Variable k) = Unit {0}
IsLocus (OfObject (OwnField h i)) = Unit {0}
IsLocus e = ⊥

abbrev pub IsCounted : Expr → Type 0
IsCounted (Element n k (Variable j) (OfObject Counted)) = Unit {0}
IsCounted (Element n k (OfObject (OwnField h i)) (OfObject Counted)) = Unit {0}
IsCounted e = ⊥

-- a scope that destroys so opens next, or a part that does
abbrev pub Opens : (Expr → Type 0) → Stmts → Type 0
Opens P (Scoped (Destroys e) rest) = P e
Opens P (Built (Destroys e) rest) = P e
Opens P ss = ⊥

module _ (source : Source) (special : ℕ → Bool) where
  -- the destructor d takes over all parts that the constructor r builds
  pub record Undoes (mutex : Bool) (r d : ℕ) : Type 0 where
    pub destructor : Routine
    pub known : slice_get source.routines d ≡ Some destructor
    pub params : destructor.params ≡ 0
    pub undone : (x : Routine) → slice_get source.routines r ≡ Some x →
        AllParts special (IsUndone mutex destructor.body) x.body

  -- a routine builds no parts
  abbrev pub BuildsNone : ℕ → Type 0
  BuildsNone r = special r ≡ true → (x : Routine) → slice_get source.routines r ≡ Some x → AllParts special (λ c. ⊥) x.body

  -- expressions that call no other, and make no mutex objects
  abbrev pub AtCall : ℕ → Exprs → Type 0
  AtCall r args = BuildsNone r

  abbrev pub AtObject : Unit {0} → ObjectExpr → Type 0
  AtObject u (CallOn r e args) = BuildsNone r
  AtObject u (CallLive r e args) = BuildsNone r
  AtObject u (CallUnwritten r e) = BuildsNone r
  AtObject u (EnterOn m r e args) = BuildsNone r
  AtObject u (EndOn r written e) = BuildsNone r
  AtObject u (MakeOn c r written e args) = ⊥
  AtObject u o = Unit {0}

  abbrev pub AtTask : Unit {0} → TaskStmt → Type 0
  AtTask u a = Unit {0}

  abbrev pub AtClean : Unit {0} → CleanUp → Type 0
  AtClean u c = Unit {0}

  abbrev pub same : CleanUp → Unit {0} → Unit {0}
  same c u = u

  abbrev pub PlainExpr : Expr → Type 0
  PlainExpr e = walk.InExpr (Unit {0}) same AtCall AtObject AtTask AtClean tt e

  abbrev pub PlainExprs : Exprs → Type 0
  PlainExprs es = walk.InExprs (Unit {0}) same AtCall AtObject AtTask AtClean tt es

  abbrev pub PlainMaybe : Option Expr → Type 0
  PlainMaybe e = walk.InMaybe (Unit {0}) same AtCall AtObject AtTask AtClean tt e

  abbrev pub PlainItems : List Item → Type 0
  PlainItems is = walk.InItems (Unit {0}) same AtCall AtObject AtTask AtClean tt is

  abbrev pub PlainTargets : List Target → Type 0
  PlainTargets xs = walk.InTargets (Unit {0}) same AtCall AtObject AtTask AtClean tt xs

  abbrev pub PlainDeclared : List Declared → Type 0
  PlainDeclared ds = walk.InDeclared (Unit {0}) same AtCall AtObject AtTask AtClean tt ds

  abbrev pub PlainClean : CleanUp → Type 0
  PlainClean c = walk.InClean (Unit {0}) same AtCall AtObject AtTask AtClean tt c

  abbrev pub PlainRaised : Raised → Type 0
  PlainRaised r = walk.InRaised (Unit {0}) same AtCall AtObject AtTask AtClean tt r

  -- what destroys the object that the constructor r builds at this place; and the mutex object that is made for it
  abbrev pub IsUndoneAt : ℕ → Expr → Expr → Type 0
  IsUndoneAt r p (OfObject (CallOn d q NoExprs)) = (q ≡ p) × Undoes false r d
  IsUndoneAt r p (OfObject (CallUnwritten d q)) = (q ≡ p) × Undoes false r d
  IsUndoneAt r p e = ⊥

  abbrev pub IsEndedAt : ℕ → Expr → Expr → Type 0
  IsEndedAt r p (OfObject (EndOn d written (Load q))) = (q ≡ p) × Undoes true r d
  IsEndedAt r p e = ⊥

  -- an expression builds an object, by a constructor at a place of which this holds
  abbrev pub Constructs : (ℕ → Expr → Type 0) → (ℕ → Expr → Type 0) → Expr → Type 0
  Constructs P M (OfObject (CallOn r p args)) = PlainExprs args × P r p
  Constructs P M (OfObject (CallUnwritten r p)) = P r p
  Constructs P M (OfObject (MakeOn c r written p args)) = PlainExprs args × M r p
  Constructs P M e = ⊥

  -- one that is destroyed by what opens next in these statements
  abbrev pub BuildsIn : Stmts → Expr → Type 0
  BuildsIn ss e = Constructs (λ r p. IsLocus p × Opens (IsUndoneAt r p) ss) (λ r p. IsLocus p × Opens (IsEndedAt r p) ss) e

  -- the elements of an array, each of which d destroys
  abbrev pub BuildsEach : Expr → Expr → Type 0
  BuildsEach d e = Constructs (λ r p. IsCounted p × IsUndoneAt r p d) (λ r p. IsCounted p × IsEndedAt r p d) e

  -- statements, before these others
  abbrev mutual
    pub UndoingStmt : Stmts → Stmt → Type 0
    UndoingStmt ss (Block line body) = UndoingStmts body
    UndoingStmt ss (Whole line body) = UndoingStmts body
    UndoingStmt ss (Evaluate line e) = PlainExpr e ⊎ BuildsIn ss e
    UndoingStmt ss (Declare line ds) = PlainDeclared ds
    UndoingStmt ss (Print line items) = PlainItems items
    UndoingStmt ss (PrintTogether line items) = PlainItems items
    UndoingStmt ss (Read line xs) = PlainTargets xs
    UndoingStmt ss (If line e a b) = PlainExpr e × UndoingStmt Nil a × UndoingStmt Nil b
    UndoingStmt ss (Loop line o e step b) = PlainExpr e × PlainMaybe step × UndoingStmt Nil b
    UndoingStmt ss (Return line e) = PlainMaybe e
    UndoingStmt ss (Fill line n b d) = (PlainExpr b ⊎ BuildsEach d b) × PlainExpr d
    UndoingStmt ss (OfEvents a) = UndoingEvent a
    UndoingStmt ss (OfTasks a) = UndoingTask a
    UndoingStmt ss a = Unit {0}

    pub UndoingStmts : Stmts → Type 0
    UndoingStmts Nil = Unit {0}
    UndoingStmts (Then a rest) = UndoingStmt rest a × UndoingStmts rest
    UndoingStmts (Scoped c rest) = PlainClean c × UndoingStmts rest
    UndoingStmts (Built c rest) = PlainClean c × UndoingStmts rest

    pub UndoingEvent : EventStmt → Type 0
    UndoingEvent (Throw line x) = PlainRaised x
    UndoingEvent (Raise line x) = PlainRaised x
    UndoingEvent (Try line body hs) = UndoingStmts body × UndoingHandlers hs
    UndoingEvent (RaiseAt line x e) = PlainRaised x × PlainExpr e
    UndoingEvent (Enable line events cell a) = UndoingStmt Nil a
    UndoingEvent (Disable line events cell a) = UndoingStmt Nil a

    pub UndoingHandlers : Handlers → Type 0
    UndoingHandlers NoHandlers = Unit {0}
    UndoingHandlers (MoreHandlers resumes event cell line body rest) = UndoingStmts body × UndoingHandlers rest

    pub UndoingTask : TaskStmt → Type 0
    UndoingTask (Migrate line e) = PlainExpr e
    UndoingTask (Accept line site cs) = UndoingClauses cs
    UndoingTask a = Unit {0}

    pub UndoingClauses : Clauses → Type 0
    UndoingClauses NoClauses = Unit {0}
    UndoingClauses (Otherwise b) = UndoingStmt Nil b
    UndoingClauses (MoreClauses guard b cs) = PlainExpr guard × UndoingStmt Nil b × UndoingClauses cs

  abbrev pub UndoingRoutine : Option Routine → Type 0
  UndoingRoutine None = Unit {0}
  UndoingRoutine (Some r) = UndoingStmts r.body

  -- the routines of a source
  abbrev pub UndoingSource : Type 0
  UndoingSource = (n : ℕ) → UndoingRoutine (slice_get source.routines n)

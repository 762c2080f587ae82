-- Code of a routine in which what is built, destroyed and bound stands where the routine has it: at a variable that is an object, or an array of such, at a
-- field of the object at hand, or at an element of one of these.
use Rattle.std.specs.Prelude.{◌≡◌, ℕ, ◌⊎◌, Bool, true, false, List, Option, Some, None, slice_get}
use Rattle.uc_tree.specs.Source.{Shape, Expr, Exprs, ObjectExpr, Variable, Element, Load, OfObject, OwnField, CallOn, CallLive, CallUnwritten, EnterOn, EndOn, Bind, MakeOn, Item, Target, Declared, CleanUp, Forgets, Frees, Stmt, Stmts, TaskStmt, SetUp, Handlers, Clauses, Raised, Routine, Source}
use Rattle.uc_typing.specs.Typing.{Ty, Cell, Obj, Row, Table, element_shape, CleansAt}
use Rattle.uc_inner_laws.specs.Walks as walk
use Rattle.uc_life_laws.specs.Things.{Few, IsField, IsMutex}
use Rattle.uc_life_laws.specs.HomedStates.{Owns}
use Rattle.uc_cell_laws.specs.Scopes.{IsScopeOf}

-- a source with the table of its types, which fields hold what is their own, which routines are constructors and destructors, what there is, of which class
-- each mutex object was made, by its number, and whether it is told too whom first cells of coroutines name
pub record Telling : Type 0 where
  pub table : Table
  pub source : Source
  pub owns : Owns
  pub special : ℕ → Bool
  pub few : Few
  pub class : ℕ → Option ℕ
  pub naming : Bool

-- a routine is no constructor and no destructor
abbrev pub IsNoMaker : Telling → ℕ → Type 0
IsNoMaker g r = g.special r ≡ true → ⊥

-- `r`: the number of the routine of which this is code
module _ (g : Telling) (r : ℕ) where
  -- a field of this type, of the object that the routine builds or destroys
  pub record IsAtField (h : Shape) (i : ℕ) (a : Ty) : Type 0 where
    pub special : g.special r ≡ true
    pub class : ℕ
    pub this : (g.table.routine r).this ≡ Some class
    pub shape : h ≡ g.table.shape class
    pub field : IsField g.table class i
    pub type : a ≡ g.table.fields class i

  -- the routine builds or destroys a coroutine, at the first cell of which its execution is found
  abbrev pub IsExecuting : Type 0
  IsExecuting = (g.special r ≡ true) × ((c : ℕ) × ((g.table.routine r).this ≡ Some c) × (g.table.executes c ≡ true))

  -- a place of this type: at a variable of which a scope of the routine is, at an own field of the object at hand, or at an element of one
  abbrev pub HasPlace : Expr → Ty → Type 0
  HasPlace (Variable k) a = (c : CleanUp) × IsScopeOf g.source r c × CleansAt g.table a (Variable k) c
  HasPlace (OfObject (OwnField h i)) a = (f : IsAtField h i a) × (g.owns f.class i ≡ true)
  HasPlace (Element n s e i) a = (s ≡ element_shape g.table a) × HasPlace e (Row n a)
  HasPlace e a = ⊥

  -- a field of the object at hand that is a reference
  abbrev pub IsLent : Expr → Type 0
  IsLent (OfObject (OwnField h i)) = (b : Ty) × (f : IsAtField h i (Cell b)) × (g.owns f.class i ≡ false)
  IsLent e = ⊥

  -- what is called, if it is a constructor or a destructor, is so at a place of its class
  abbrev pub CallsAt : ℕ → Expr → Type 0
  CallsAt q e = IsNoMaker g q ⊎ ((c : ℕ) × ((g.table.routine q).this ≡ Some c) × HasPlace e (Obj c))

  -- a mutex object is made, and ended, at a place of one, by what is of its class
  abbrev pub MakesAt : ℕ → Expr → Type 0
  MakesAt q e = (c : ℕ) × ((g.table.routine q).this ≡ Some c) × (g.table.mutex c ≡ true) × HasPlace e (Cell (Obj c))

  abbrev pub EndsAt : ℕ → Expr → Type 0
  EndsAt q (Load e) = MakesAt q e
  EndsAt q e = ⊥

  -- what is bound is a place of what is no mutex object, or a field that is a reference
  abbrev pub BindsAt : Expr → Type 0
  BindsAt e = ((b : Ty) × (IsMutex g.table b → ⊥) × HasPlace e (Cell b)) ⊎ IsLent e

  abbrev pub AtCall : ℕ → Exprs → Type 0
  AtCall q args = Unit {0}

  abbrev pub AtObject : Unit {0} → ObjectExpr → Type 0
  AtObject u (CallOn q e args) = CallsAt q e
  AtObject u (CallLive q e args) = IsNoMaker g q
  AtObject u (CallUnwritten q e) = CallsAt q e
  AtObject u (EnterOn m q e args) = IsNoMaker g q
  AtObject u (EndOn q written e) = EndsAt q e
  AtObject u (Bind e f) = BindsAt e
  AtObject u (MakeOn n q written e args) = MakesAt q e
  AtObject u o = Unit {0}

  -- executions and tasks begin with what is none of these
  abbrev pub AtTask : Unit {0} → TaskStmt → Type 0
  AtTask u (SetUp q) = IsNoMaker g q
  AtTask u a = Unit {0}

  abbrev pub AtClean : Unit {0} → CleanUp → Type 0
  AtClean u (Frees (Some q)) = IsNoMaker g q
  -- an execution is forgotten by what destroys its coroutine, or fails to build it
  AtClean u Forgets = IsExecuting
  AtClean u c = Unit {0}

  abbrev pub same : CleanUp → Unit {0} → Unit {0}
  same c u = u

  -- so is all code in these
  abbrev pub SitedExpr : Expr → Type 0
  SitedExpr e = walk.InExpr (Unit {0}) same AtCall AtObject AtTask AtClean tt e

  abbrev pub SitedExprs : Exprs → Type 0
  SitedExprs es = walk.InExprs (Unit {0}) same AtCall AtObject AtTask AtClean tt es

  abbrev pub SitedMaybe : Option Expr → Type 0
  SitedMaybe e = walk.InMaybe (Unit {0}) same AtCall AtObject AtTask AtClean tt e

  abbrev pub SitedItems : List Item → Type 0
  SitedItems is = walk.InItems (Unit {0}) same AtCall AtObject AtTask AtClean tt is

  abbrev pub SitedTargets : List Target → Type 0
  SitedTargets xs = walk.InTargets (Unit {0}) same AtCall AtObject AtTask AtClean tt xs

  abbrev pub SitedDeclared : List Declared → Type 0
  SitedDeclared ds = walk.InDeclared (Unit {0}) same AtCall AtObject AtTask AtClean tt ds

  abbrev pub SitedClean : CleanUp → Type 0
  SitedClean c = walk.InClean (Unit {0}) same AtCall AtObject AtTask AtClean tt c

  abbrev pub SitedRaised : Raised → Type 0
  SitedRaised x = walk.InRaised (Unit {0}) same AtCall AtObject AtTask AtClean tt x

  abbrev pub SitedStmt : Stmt → Type 0
  SitedStmt a = walk.InStmt (Unit {0}) same AtCall AtObject AtTask AtClean tt a

  abbrev pub SitedStmts : Stmts → Type 0
  SitedStmts ss = walk.InStmts (Unit {0}) same AtCall AtObject AtTask AtClean tt ss

  abbrev pub SitedHandlers : Handlers → Type 0
  SitedHandlers hs = walk.InHandlers (Unit {0}) same AtCall AtObject AtTask AtClean tt hs

  abbrev pub SitedClauses : Clauses → Type 0
  SitedClauses cs = walk.InClauses (Unit {0}) same AtCall AtObject AtTask AtClean tt cs

  abbrev pub SitedRoutine : Option Routine → Type 0
  SitedRoutine None = Unit {0}
  SitedRoutine (Some q) = SitedStmts q.body

-- each routine of the source is code of its own
abbrev pub SitedSource : Telling → Type 0
SitedSource g = (n : ℕ) → SitedRoutine g n (slice_get g.source.routines n)

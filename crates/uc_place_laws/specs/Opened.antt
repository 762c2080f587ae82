-- Code in which the scope of an object that is a variable, and no mutex object, opens right behind the statement that calls a constructor of its
-- class at that variable, and such an object that is a field of the object at hand is a part of it right behind the statement that calls one there.
use Rattle.std.specs.Prelude.{◌≡◌, ℕ, false, [], ◌∷◌, Option, Some, None, slice_get}
use Rattle.uc_tree.specs.declared.kinds.Base.{Base}
use Rattle.uc_tree.specs.declared.kinds.Role.{Role}
use Rattle.uc_tree.specs.declared.kinds.Role.TheVariants as role
use Rattle.uc_tree.specs.Cells.{declared_cells}
use Rattle.uc_tree.specs.Objects.{APlain, making, written_at, unwritten_number}
use Rattle.uc_tree.specs.Programs.{Program}
use Rattle.uc_tree.specs.Source.{Shape, Expr, Variable, OfObject, OwnField, CallOn, CallUnwritten, CleanUp, Destroys, Stmt, Stmts, Block, Whole, Evaluate, Declare, If, Loop, OfEvents, OfTasks, Nil, Then, Scoped, Built, EventStmt, Try, Enable, Disable, TaskStmt, Accept, Handlers, NoHandlers, MoreHandlers, Clauses, NoClauses, Otherwise, MoreClauses, Routine, Source}
use Rattle.uc_tree.specs.Statements.{Declarator}
use Rattle.uc_resolve.specs.Resolve.{length_of}
use Rattle.uc_state_laws.specs.Layout.{AreNoReferences}

-- the constructor or the destructor of a class, by its number: the one that is written, or that which stands for it where none is
abbrev pub role_number : Program → ℕ → Role → Option ℕ → ℕ
role_number p i wanted None = unwritten_number p i wanted
role_number p i wanted (Some r) = r

-- a constructor and a destructor, by their numbers, of one class, of which variables are declared, and which is no mutex class
pub record ArePaired (p : Program) (r d : ℕ) : Type 0 where
  pub class : ℕ
  pub base : Base
  pub made : making p base ≡ Some (APlain class)
  pub builds : r ≡ role_number p class role.Constructor (written_at p class role.Constructor)
  pub ends : d ≡ role_number p class role.Destructor (written_at p class role.Destructor)

-- where an object is built by itself: at a variable, by its first cell, or at a field of the object at hand
pub data Spot : Type 0 where
  Var : ℕ → Spot
  Own : Shape → ℕ → Spot

-- what an expression calls there: the routine, and where
abbrev pub CallsAt : (ℕ → Spot → Type 0) → Expr → Type 0
CallsAt P (OfObject (CallOn r (Variable k) args)) = P r (Var k)
CallsAt P (OfObject (CallOn r (OfObject (OwnField s i)) args)) = P r (Own s i)
CallsAt P (OfObject (CallUnwritten r (Variable k))) = P r (Var k)
CallsAt P (OfObject (CallUnwritten r (OfObject (OwnField s i)))) = P r (Own s i)
CallsAt P e = ⊥

-- so is it of what a clean-up calls there
abbrev pub OfPlain : (ℕ → ℕ → Type 0) → CleanUp → Type 0
OfPlain P (Destroys (OfObject (CallOn d (Variable k) args))) = P d k
OfPlain P (Destroys (OfObject (CallUnwritten d (Variable k)))) = P d k
OfPlain P c = Unit {0}

-- so is it of the scope that opens next in what is left of a block
abbrev pub OpensOf : (ℕ → ℕ → Type 0) → Stmts → Type 0
OpensOf P (Scoped c rest) = OfPlain P c
OpensOf P ss = Unit {0}

-- no such scope opens next
abbrev pub OpensNone : Stmts → Type 0
OpensNone ss = OpensOf (λ d k. ⊥) ss

-- so is it of what a clean-up calls at a field of the object at hand, and of the object that is a part of that from there on
abbrev pub OfPart : (ℕ → Shape → ℕ → Type 0) → CleanUp → Type 0
OfPart P (Destroys (OfObject (CallOn d (OfObject (OwnField s i)) args))) = P d s i
OfPart P (Destroys (OfObject (CallUnwritten d (OfObject (OwnField s i))))) = P d s i
OfPart P c = Unit {0}

abbrev pub PartOf : (ℕ → Shape → ℕ → Type 0) → Stmts → Type 0
PartOf P (Built c rest) = OfPart P c
PartOf P ss = Unit {0}

-- no such object is
abbrev pub PartNone : Stmts → Type 0
PartNone ss = PartOf (λ d s i. ⊥) ss

-- so is it of the one or of the other
abbrev pub NextOf : (ℕ → Spot → Type 0) → Stmts → Type 0
NextOf P (Scoped c rest) = OfPlain (λ d k. P d (Var k)) c
NextOf P (Built c rest) = OfPart (λ d s i. P d (Own s i)) c
NextOf P ss = Unit {0}

abbrev pub NextNone : Stmts → Type 0
NextNone ss = NextOf (λ d x. ⊥) ss

-- so is it of the object that the next statement builds, if its scope opens right behind that
abbrev pub BuildsOf : (ℕ → ℕ → Type 0) → Stmts → Type 0
BuildsOf P (Then a rest) = OpensOf P rest
BuildsOf P ss = Unit {0}

-- no such object is built next
abbrev pub BuildsNone : Stmts → Type 0
BuildsNone ss = BuildsOf (λ d k. ⊥) ss

-- so many cells are declared for one object of the class that this destroys, and for no reference to one, if the program declares no variable to be one
pub record Spans (p : Program) (d n : ℕ) : Type 0 where
  pub class : ℕ
  pub base : Base
  pub made : making p base ≡ Some (APlain class)
  pub ended : d ≡ role_number p class role.Destructor (written_at p class role.Destructor)
  pub declarator : Declarator
  pub single : length_of p declarator declarator.len ≡ None
  pub whole : AreNoReferences p → declarator.by_ref ≡ false
  pub cells : n ≡ declared_cells p base declarator

-- a statement declares the variable at which such an object is built, alone and without a value
abbrev pub Declares : Program → Stmt → ℕ → ℕ → Type 0
Declares p (Declare line (x ∷ [])) d k = (x.cell ≡ k) × (x.value ≡ None) × Spans p d x.cells
Declares p a d k = ⊥

module _ (p : Program) where
  -- an expression calls a constructor where a destructor of its class destroys
  abbrev pub Builds : Expr → ℕ → Spot → Type 0
  Builds e d x = CallsAt (λ r y. (y ≡ x) × ArePaired p r d) e

  -- a statement does
  abbrev pub Before : Stmt → ℕ → Spot → Type 0
  Before (Evaluate line e) d x = Builds e d x
  Before a d x = ⊥

  -- each scope of such an object stands behind a statement that does, and that behind one that declares its variable; and each such part stands behind one
  -- that does
  abbrev mutual
    pub OpenedStmt : Stmt → Type 0
    OpenedStmt (Block line body) = NextNone body × OpenedStmts body × BuildsNone body
    OpenedStmt (Whole line body) = NextNone body × OpenedStmts body × BuildsNone body
    OpenedStmt (If line e a b) = OpenedStmt a × OpenedStmt b
    OpenedStmt (Loop line order e step b) = OpenedStmt b
    OpenedStmt (OfEvents a) = OpenedEvent a
    OpenedStmt (OfTasks a) = OpenedTask a
    OpenedStmt a = Unit {0}

    pub OpenedStmts : Stmts → Type 0
    OpenedStmts Nil = Unit {0}
    OpenedStmts (Then a rest) = OpenedStmt a × NextOf (Before a) rest × OpenedStmts rest × BuildsOf (Declares p a) rest
    OpenedStmts (Scoped c rest) = NextNone rest × OpenedStmts rest × BuildsNone rest
    OpenedStmts (Built c rest) = NextNone rest × OpenedStmts rest × BuildsNone rest

    pub OpenedEvent : EventStmt → Type 0
    OpenedEvent (Try line body hs) = (NextNone body × OpenedStmts body × BuildsNone body) × OpenedHandlers hs
    OpenedEvent (Enable line events cell a) = OpenedStmt a
    OpenedEvent (Disable line events cell a) = OpenedStmt a
    OpenedEvent a = Unit {0}

    pub OpenedHandlers : Handlers → Type 0
    OpenedHandlers NoHandlers = Unit {0}
    OpenedHandlers (MoreHandlers resumes event cell line body rest) = (NextNone body × OpenedStmts body × BuildsNone body) × OpenedHandlers rest

    pub OpenedTask : TaskStmt → Type 0
    OpenedTask (Accept line site cs) = OpenedClauses cs
    OpenedTask a = Unit {0}

    pub OpenedClauses : Clauses → Type 0
    OpenedClauses NoClauses = Unit {0}
    OpenedClauses (Otherwise b) = OpenedStmt b
    OpenedClauses (MoreClauses guard b cs) = OpenedStmt b × OpenedClauses cs

  abbrev pub OpenedRoutine : Option Routine → Type 0
  OpenedRoutine None = Unit {0}
  OpenedRoutine (Some r) = NextNone r.body × OpenedStmts r.body × BuildsNone r.body

  -- the routines of a source
  abbrev pub OpenedSource : Source → Type 0
  OpenedSource source = (n : ℕ) → OpenedRoutine (slice_get source.routines n)

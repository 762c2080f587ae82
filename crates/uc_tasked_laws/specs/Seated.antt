-- Code in which the scope of a mutex object that is a variable, and the part of an object under construction that is a mutex object, opens right
-- behind the statement that makes it there by a constructor of its class.
use Rattle.std.specs.Prelude.{◌≡◌, ℕ, ◌⊎◌, Option, Some, None, slice_get, true}
use Rattle.uc_tree.specs.declared.kinds.Base.{Base}
use Rattle.uc_tree.specs.declared.kinds.Role.{Role}
use Rattle.uc_tree.specs.declared.kinds.Role.TheVariants as role
use Rattle.uc_tree.specs.Objects.{AMutex, making, written_at, unwritten_number}
use Rattle.uc_tree.specs.Programs.{Program}
use Rattle.uc_tree.specs.Source.{Expr, Variable, Load, OfObject, OwnField, EndOn, MakeOn, CleanUp, Destroys, Frees, Stmt, Stmts, Block, Whole, Evaluate, If, Loop, Fill, OfEvents, OfTasks, Nil, Then, Scoped, Built, EventStmt, Try, Enable, Disable, TaskStmt, SetUp, Enliven, Accept, Handlers, NoHandlers, MoreHandlers, Clauses, NoClauses, Otherwise, MoreClauses, Builder, Routine, Source}
use Rattle.uc_sound.specs.Tables.{table_of}

-- the constructor or the destructor of a class, by its number: the one that is written, or that which stands for it where none is
abbrev pub role_number : Program → ℕ → Role → Option ℕ → ℕ
role_number p i wanted None = unwritten_number p i wanted
role_number p i wanted (Some r) = r

abbrev pub number_of : Program → ℕ → Role → ℕ
number_of p i wanted = role_number p i wanted (written_at p i wanted)

-- a constructor and a destructor, by their numbers, of one class of mutex objects, of which variables or fields are declared
pub record ArePaired (p : Program) (r d : ℕ) : Type 0 where
  pub class : ℕ
  pub base : Base
  pub made : making p base ≡ Some (AMutex class)
  pub builds : r ≡ number_of p class role.Constructor
  pub ends : d ≡ number_of p class role.Destructor

-- a routine is of a class of tasks
pub record EndsTask (p : Program) (d : ℕ) : Type 0 where
  pub class : ℕ
  pub this : ((table_of p).routine d).this ≡ Some class
  pub tasks : (table_of p).tasks class ≡ true

-- a clean-up of an object under construction lets its task begin once that is built
abbrev pub IsSpawning : CleanUp → Type 0
IsSpawning (Frees (Some m)) = Unit {0}
IsSpawning c = ⊥

-- a statement by which nobody leaves what stands behind it, whatever stands in it: what builds a field, sets up an execution or makes it live, and
-- a block that is left as a whole
abbrev pub IsTame : Stmt → Type 0
IsTame (Evaluate line e) = Unit {0}
IsTame (Fill line n b d) = Unit {0}
IsTame (Whole line body) = Unit {0}
IsTame (OfTasks (SetUp r)) = Unit {0}
IsTame (OfTasks Enliven) = Unit {0}
IsTame a = ⊥

abbrev pub AreTame : Stmts → Type 0
AreTame Nil = Unit {0}
AreTame (Then a rest) = IsTame a × AreTame rest
AreTame (Scoped c rest) = ⊥
AreTame (Built c rest) = AreTame rest

-- the statements of a routine begin with its scope, and are such
abbrev pub Begins : Stmts → Type 0
Begins (Scoped c rest) = IsSpawning c × AreTame rest
Begins ss = ⊥

-- what is called for objects of a class of tasks begins so, and there is nothing to do behind its statements
abbrev pub SpawnsBy : Program → ℕ → Option Routine → Type 0
SpawnsBy p d None = Unit {0}
SpawnsBy p d (Some r) = (Begins r.body × (r.purpose ≡ Builder)) ⊎ (EndsTask p d → ⊥)

abbrev pub SpawnsSource : Program → Source → Type 0
SpawnsSource p source = (r d : ℕ) → ArePaired p r d → SpawnsBy p d (slice_get source.routines r)

-- what an expression makes at a seat, that is, at a variable or at a field of the object at hand: by which constructor, and where
abbrev pub MakesAt : (ℕ → Expr → Type 0) → Expr → Type 0
MakesAt P (OfObject (MakeOn c r written (Variable k) args)) = P r (Variable k)
MakesAt P (OfObject (MakeOn c r written (OfObject (OwnField s i)) args)) = P r (OfObject (OwnField s i))
MakesAt P e = ⊥

-- so is it of what a clean-up ends, of a scope at a variable, of a part at a field of the object at hand
abbrev pub OfScope : (ℕ → Expr → Type 0) → CleanUp → Type 0
OfScope P (Destroys (OfObject (EndOn d written (Load (Variable k))))) = P d (Variable k)
OfScope P c = Unit {0}

abbrev pub OfPart : (ℕ → Expr → Type 0) → CleanUp → Type 0
OfPart P (Destroys (OfObject (EndOn d written (Load (OfObject (OwnField s i)))))) = P d (OfObject (OwnField s i))
OfPart P c = Unit {0}

-- so is it of the scope, or the part, that opens next in what is left of a block
abbrev pub OpensOf : (ℕ → Expr → Type 0) → Stmts → Type 0
OpensOf P (Scoped c rest) = OfScope P c
OpensOf P (Built c rest) = OfPart P c
OpensOf P ss = Unit {0}

-- none opens next
abbrev pub OpensNone : Stmts → Type 0
OpensNone ss = OpensOf (λ d e. ⊥) ss

module _ (p : Program) where
  -- an expression makes an object at a place by a constructor of the class which a destructor destroys
  abbrev pub Makes : Expr → ℕ → Expr → Type 0
  Makes e d place = MakesAt (λ r q. (q ≡ place) × ArePaired p r d) e

  -- a statement does
  abbrev pub Before : Stmt → ℕ → Expr → Type 0
  Before (Evaluate line e) d place = Makes e d place
  Before a d place = ⊥

  -- each such scope and part stands behind a statement that does
  abbrev mutual
    pub SeatedStmt : Stmt → Type 0
    SeatedStmt (Block line body) = OpensNone body × SeatedStmts body
    SeatedStmt (Whole line body) = OpensNone body × SeatedStmts body
    SeatedStmt (If line e a b) = SeatedStmt a × SeatedStmt b
    SeatedStmt (Loop line order e step b) = SeatedStmt b
    SeatedStmt (OfEvents a) = SeatedEvent a
    SeatedStmt (OfTasks a) = SeatedTask a
    SeatedStmt a = Unit {0}

    pub SeatedStmts : Stmts → Type 0
    SeatedStmts Nil = Unit {0}
    SeatedStmts (Then a rest) = SeatedStmt a × OpensOf (Before a) rest × SeatedStmts rest
    SeatedStmts (Scoped c rest) = OpensNone rest × SeatedStmts rest
    SeatedStmts (Built c rest) = OpensNone rest × SeatedStmts rest

    pub SeatedEvent : EventStmt → Type 0
    SeatedEvent (Try line body hs) = (OpensNone body × SeatedStmts body) × SeatedHandlers hs
    SeatedEvent (Enable line events cell a) = SeatedStmt a
    SeatedEvent (Disable line events cell a) = SeatedStmt a
    SeatedEvent a = Unit {0}

    pub SeatedHandlers : Handlers → Type 0
    SeatedHandlers NoHandlers = Unit {0}
    SeatedHandlers (MoreHandlers resumes event cell line body rest) = (OpensNone body × SeatedStmts body) × SeatedHandlers rest

    pub SeatedTask : TaskStmt → Type 0
    SeatedTask (Accept line site cs) = SeatedClauses cs
    SeatedTask a = Unit {0}

    pub SeatedClauses : Clauses → Type 0
    SeatedClauses NoClauses = Unit {0}
    SeatedClauses (Otherwise b) = SeatedStmt b
    SeatedClauses (MoreClauses guard b cs) = SeatedStmt b × SeatedClauses cs

  abbrev pub SeatedRoutine : Option Routine → Type 0
  SeatedRoutine None = Unit {0}
  SeatedRoutine (Some r) = OpensNone r.body × SeatedStmts r.body

  -- the routines of a source
  abbrev pub SeatedSource : Source → Type 0
  SeatedSource source = (n : ℕ) → SeatedRoutine (slice_get source.routines n)

-- Who binds fields of the object at hand, and gives it an execution: constructors alone, and not in the statements that they are written with.
use Rattle.std.specs.Prelude.{◌≡◌, ℕ, ◌++◌, map, List, Bool, true, false, Some, slice_get}
use Rattle.uc_tree.specs.declared.kinds.Role.{Role}
use Rattle.uc_tree.specs.declared.kinds.Role.TheVariants as role
use Rattle.uc_tree.specs.Numbering.{routines_of}
use Rattle.uc_tree.specs.Objects.{unwritten_of}
use Rattle.uc_tree.specs.Programs.{Program}
use Rattle.uc_tree.specs.Source.{Expr, Element, OfObject, OwnField, Bind, MakeOn, Stmt, Stmts, Block, Whole, Evaluate, If, Loop, Fill, OfEvents, OfTasks, Nil, Then, Scoped, Built, EventStmt, Try, Enable, Disable, TaskStmt, SetUp, Enliven, Accept, Handlers, NoHandlers, MoreHandlers, Clauses, NoClauses, Otherwise, MoreClauses, Routine}
use Rattle.uc_resolve.specs.Resolve.{source_of}

-- a field of the object at hand, an element of one
abbrev pub is_own : Expr → Bool
is_own (OfObject (OwnField s i)) = true
is_own (Element n s e i) = is_own e
is_own e = false

-- whether an expression binds one
abbrev pub binds_own : Expr → Bool
binds_own (OfObject (Bind p e)) = is_own p
binds_own (OfObject (MakeOn c r written p args)) = is_own p
binds_own e = false

-- statements that bind none, build no part of the object, and give it no execution
abbrev mutual
  pub Unmaking : Stmt → Type 0
  Unmaking (Block line body) = UnmakingAll body
  Unmaking (Whole line body) = UnmakingAll body
  Unmaking (Evaluate line e) = binds_own e ≡ false
  Unmaking (If line e a b) = Unmaking a × Unmaking b
  Unmaking (Loop line order e step b) = Unmaking b
  Unmaking (Fill line n b d) = binds_own b ≡ false
  Unmaking (OfEvents a) = UnmakingEvent a
  Unmaking (OfTasks a) = UnmakingTask a
  Unmaking a = Unit {0}

  pub UnmakingAll : Stmts → Type 0
  UnmakingAll Nil = Unit {0}
  UnmakingAll (Then a rest) = Unmaking a × UnmakingAll rest
  UnmakingAll (Scoped c rest) = UnmakingAll rest
  UnmakingAll (Built c rest) = ⊥

  pub UnmakingEvent : EventStmt → Type 0
  UnmakingEvent (Try line body hs) = UnmakingAll body × UnmakingHandlers hs
  UnmakingEvent (Enable line events cell a) = Unmaking a
  UnmakingEvent (Disable line events cell a) = Unmaking a
  UnmakingEvent a = Unit {0}

  pub UnmakingHandlers : Handlers → Type 0
  UnmakingHandlers NoHandlers = Unit {0}
  UnmakingHandlers (MoreHandlers resumes event cell line body rest) = UnmakingAll body × UnmakingHandlers rest

  pub UnmakingTask : TaskStmt → Type 0
  UnmakingTask (SetUp r) = ⊥
  UnmakingTask Enliven = ⊥
  UnmakingTask (Accept line site cs) = UnmakingClauses cs
  UnmakingTask a = Unit {0}

  pub UnmakingClauses : Clauses → Type 0
  UnmakingClauses NoClauses = Unit {0}
  UnmakingClauses (Otherwise b) = Unmaking b
  UnmakingClauses (MoreClauses guard b cs) = Unmaking b × UnmakingClauses cs

-- the statements of a constructor, one by one: what builds fields stands among them, and in none of them
abbrev pub MakingStmt : Stmt → Type 0
MakingStmt (Evaluate line e) = Unit {0}
MakingStmt (Fill line n b d) = Unit {0}
MakingStmt (OfTasks (SetUp r)) = Unit {0}
MakingStmt (OfTasks Enliven) = Unit {0}
MakingStmt a = Unmaking a

abbrev pub Making : Stmts → Type 0
Making Nil = Unit {0}
Making (Then a rest) = MakingStmt a × Making rest
Making (Scoped c rest) = Making rest
Making (Built c rest) = Making rest

-- the roles of the routines of a program, those that nobody wrote behind the others
abbrev pub roles : Program → List Role
roles p = map (λ d. d.routine.sig.role) (routines_of p) ++ map (λ u. u.role) (unwritten_of p)

abbrev pub MakesBy : Role → Stmts → Type 0
MakesBy role.Plain body = UnmakingAll body
MakesBy role.Constructor body = Making body
MakesBy role.Destructor body = UnmakingAll body

-- so it is in the source of every program
abbrev pub LawMakers : Type 0
LawMakers =
    (p : Program) (n : ℕ) (x : Role) (r : Routine) → slice_get (roles p) n ≡ Some x →
    slice_get (source_of p).routines n ≡ Some r → MakesBy x r.body

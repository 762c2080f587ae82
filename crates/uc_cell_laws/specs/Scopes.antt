-- The scopes that stand in statements: of which clean-ups they are, and that each has cells of its own.
use Rattle.std.specs.Prelude.{◌≡◌, ℕ, ◌⊎◌, [], Option, Some, None, slice_get}
use Rattle.uc_tree.specs.Programs.{Program}
use Rattle.uc_tree.specs.Source.{CleanUp, Stmt, Stmts, Block, Whole, If, Loop, OfEvents, OfTasks, Nil, Then, Scoped, Built, EventStmt, Try, Enable, Disable, TaskStmt, Accept, Handlers, NoHandlers, MoreHandlers, Clauses, NoClauses, Otherwise, MoreClauses, Routine, Source}
use Rattle.uc_resolve.specs.Resolve.{source_of}
use Rattle.uc_rules.specs.Breaks.{breaks_of}
use Rattle.uc_state_laws.specs.Layout.{Sized}
use Rattle.uc_state_laws.specs.Rooms.{Lies}

-- a clean-up is that of a scope that stands in a statement, or among statements
module _ (c : CleanUp) where
  abbrev mutual
    pub InStmt : Stmt → Type 0
    InStmt (Block line body) = InStmts body
    InStmt (Whole line body) = InStmts body
    InStmt (If line e a b) = InStmt a ⊎ InStmt b
    InStmt (Loop line order e step b) = InStmt b
    InStmt (OfEvents a) = InEvent a
    InStmt (OfTasks a) = InTask a
    InStmt a = ⊥

    pub InStmts : Stmts → Type 0
    InStmts Nil = ⊥
    InStmts (Then a rest) = InStmt a ⊎ InStmts rest
    InStmts (Scoped d rest) = (c ≡ d) ⊎ InStmts rest
    InStmts (Built d rest) = InStmts rest

    pub InEvent : EventStmt → Type 0
    InEvent (Try line body hs) = InStmts body ⊎ InHandlers hs
    InEvent (Enable line events cell a) = InStmt a
    InEvent (Disable line events cell a) = InStmt a
    InEvent a = ⊥

    pub InHandlers : Handlers → Type 0
    InHandlers NoHandlers = ⊥
    InHandlers (MoreHandlers resumes event cell line body rest) = InStmts body ⊎ InHandlers rest

    pub InTask : TaskStmt → Type 0
    InTask (Accept line site cs) = InClauses cs
    InTask a = ⊥

    pub InClauses : Clauses → Type 0
    InClauses NoClauses = ⊥
    InClauses (Otherwise b) = InStmt b
    InClauses (MoreClauses guard b cs) = InStmt b ⊎ InClauses cs

  abbrev pub InRoutine : Option Routine → Type 0
  InRoutine None = ⊥
  InRoutine (Some r) = InStmts r.body

-- that of a scope of the routine of this number
abbrev pub IsScopeOf : Source → ℕ → CleanUp → Type 0
IsScopeOf source r c = InRoutine c (slice_get source.routines r)

-- what two clean-ups destroy, at variables of one frame, lies on different sides of a cell. `sized r n`: what the routine of number r destroys has n cells
module _ (sized : ℕ → ℕ → Type 0) where
  pub record Sides (c d : CleanUp) : Type 0 where
    pub low : ℕ
    pub cell : ℕ
    pub high : ℕ
    pub before : Lies sized low cell c
    pub behind : Lies sized cell high d

  abbrev pub LieApart : CleanUp → CleanUp → Type 0
  LieApart c d = Sides c d ⊎ Sides d c

-- in the source of each program that breaks no rule cells are used for one declaration alone: scopes of one routine are those of one clean-up, or what they
-- are of lies apart, also where neither stands in the other
abbrev pub LawScopes : Type 0
LawScopes = (p : Program) → breaks_of p ≡ [] → (r : ℕ) (c d : CleanUp) →
    IsScopeOf (source_of p) r c → IsScopeOf (source_of p) r d → (c ≡ d) ⊎ LieApart (Sized p) c d

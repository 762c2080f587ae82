-- The cells that code may take for what it declares. All objects that are in scope at a place lie before its room; a clean-up ends the
-- room of the statements of its scope, and the handlers of a guarded block have theirs behind that of the block, since they may run while
-- objects of the block are in scope.
use Rattle.std.specs.Prelude.{◌≡◌, ℕ, ◌+◌, ◌*◌, ◌≤◌, ◌<◌, ◌⊎◌, List, [], ◌∷◌, Option, Some, None, slice_get}
use Rattle.uc_tree.specs.Hidden.{EVENT_FIELDS, KEPT_CELLS}
use Rattle.uc_tree.specs.Source.{Expr, Variable, Element, Load, OfObject, OwnField, Counted, CallOn, CallUnwritten, EndOn, EndCluster, EndProcessor, Declared, CleanUp, Destroys, DestroysAll, Restores, Stmt, Stmts, Skip, Block, Whole, Evaluate, Declare, Print, PrintTogether, Read, If, Loop, Break, Continue, Return, Owes, Fill, OfEvents, OfTasks, Nil, Then, Scoped, Built, Raised, Plainly, BuiltAt, AgainFrom, EventStmt, Throw, Raise, Try, RaiseAt, Enable, Disable, TaskStmt, Migrate, Accept, Handlers, NoHandlers, MoreHandlers, Clauses, NoClauses, Otherwise, MoreClauses, Routine, Source}
use Rattle.uc_state_laws.specs.Clusters.{Follows, Begins, HandlersBegin}
use Rattle.uc_state_laws.specs.Ordinary.{Ordinary, OrdinaryAll, OrdinaryMaybe, OrdinaryItems, OrdinaryTargets, Evaluated}

-- the cells of variables from `low` to before `high`, and the hidden ones from `hidden` to before `last`
pub record Room : Type 0 where
  pub low : ℕ
  pub high : ℕ
  pub hidden : ℕ
  pub last : ℕ

-- hidden cells lie behind those of variables
pub record IsRoom (o : Room) : Type 0 where
  pub cells : o.low ≤ o.high
  pub apart : o.high ≤ o.hidden

-- the room of a place within another's
pub record IsWithin (outer inner : Room) : Type 0 where
  pub low : outer.low ≤ inner.low
  pub cells : inner.low ≤ inner.high
  pub high : inner.high ≤ outer.high
  pub hidden : outer.hidden ≤ inner.hidden
  pub last : inner.last ≤ outer.last

-- a room behind another one
pub record IsBehind (o behind : Room) : Type 0 where
  pub cells : o.high ≤ behind.low
  pub hidden : o.last ≤ behind.hidden

-- so many cells, from one on
abbrev pub Clears : Room → ℕ → ℕ → Type 0
Clears o k n = ((o.low ≤ k) × (k + n ≤ o.high)) ⊎ ((o.hidden ≤ k) × (k + n ≤ o.last))

-- `Sized r n`: what the routine of number r destroys has n cells
module _ (Sized : ℕ → ℕ → Type 0) where
  -- `count` objects of so many cells each at a place, between two cells: at a variable of the frame, or at a field of the object at hand
  abbrev pub LiesAt : (low high count : ℕ) → ℕ → Expr → Type 0
  LiesAt low high count n (Variable k) = (low ≤ k) × (k + count * n ≤ high)
  LiesAt low high count n (OfObject (OwnField s i)) = Unit {0}
  LiesAt low high count n e = ⊥

  -- the element that is counted of an array of so many there
  abbrev pub LiesIn : (low high count : ℕ) → ℕ → Expr → Type 0
  LiesIn low high count n (Element m s e (OfObject Counted)) = (m ≡ count) × LiesAt low high count n e
  LiesIn low high count n e = ⊥

  -- an object at such a place is destroyed; one of a mutex class, a cluster and a processor have one cell, which holds its number
  abbrev pub Destroyed : (ℕ → Expr → Type 0) → Expr → Type 0
  Destroyed lies (OfObject (CallOn r e args)) = (n : ℕ) × Sized r n × lies n e × OrdinaryAll args
  Destroyed lies (OfObject (CallUnwritten r e)) = (n : ℕ) × Sized r n × lies n e
  Destroyed lies (OfObject (EndOn r written (Load e))) = lies 1 e
  Destroyed lies (OfObject (EndCluster (Load e))) = lies 1 e
  Destroyed lies (OfObject (EndProcessor (Load e))) = lies 1 e
  Destroyed lies e = ⊥

  -- what a clean-up destroys lies between two cells
  abbrev pub Lies : ℕ → ℕ → CleanUp → Type 0
  Lies low high (Destroys e) = Destroyed (LiesAt low high 1) e
  Lies low high (DestroysAll n e) = Destroyed (LiesIn low high n) e
  Lies low high c = Unit {0}

  -- so does the hidden cell that one keeps
  abbrev pub Keeps : ℕ → ℕ → CleanUp → Type 0
  Keeps low high (Restores k) = (low ≤ k) × (k < high)
  Keeps low high c = Unit {0}

  -- what a clean-up is for lies before the room of its scope
  abbrev pub Holds : Room → Room → CleanUp → Type 0
  Holds outer inner c = Lies outer.low inner.low c × Keeps outer.hidden inner.hidden c

  -- a part of the object that is under construction: a field of it, an array of them, or what has no cells
  abbrev pub OwnAt : ℕ → Expr → Type 0
  OwnAt n (OfObject (OwnField s i)) = Unit {0}
  OwnAt n e = ⊥

  abbrev pub OwnIn : (count : ℕ) → ℕ → Expr → Type 0
  OwnIn count n (Element m s e (OfObject Counted)) = (m ≡ count) × OwnAt n e
  OwnIn count n e = ⊥

  abbrev pub OwnPart : CleanUp → Type 0
  OwnPart (Destroys e) = Destroyed OwnAt e
  OwnPart (DestroysAll n e) = Destroyed (OwnIn n) e
  OwnPart (Restores k) = ⊥
  OwnPart c = Unit {0}

  abbrev pub DeclaredIn : Room → List Declared → Type 0
  DeclaredIn o [] = Unit {0}
  DeclaredIn o (d ∷ ds) = (o.low ≤ d.cell) × (d.cell + d.cells ≤ o.high) × OrdinaryMaybe d.value ×
      DeclaredIn o ds

  -- an event is built in hidden cells
  abbrev pub RaisedIn : Room → Raised → Type 0
  RaisedIn o (Plainly n) = Unit {0}
  RaisedIn o (BuiltAt n k e) = (o.hidden ≤ k) × (k + EVENT_FIELDS ≤ o.last) × Ordinary e
  RaisedIn o (AgainFrom k) = Unit {0}

  abbrev mutual
    pub StmtIn : Room → Stmt → Type 0
    StmtIn o (Skip line) = Unit {0}
    StmtIn o (Block line body) = StmtsIn o body × Begins body
    StmtIn o (Whole line body) = StmtsIn o body × Begins body
    StmtIn o (Evaluate line e) = Evaluated o.low e
    StmtIn o (Declare line ds) = DeclaredIn o ds
    StmtIn o (Print line items) = OrdinaryItems items
    StmtIn o (PrintTogether line items) = OrdinaryItems items
    StmtIn o (Read line xs) = OrdinaryTargets xs
    StmtIn o (If line e a b) = Ordinary e × StmtIn o a × StmtIn o b
    StmtIn o (Loop line order e step b) = Ordinary e × OrdinaryMaybe step × StmtIn o b
    StmtIn o (Break line) = Unit {0}
    StmtIn o (Continue line) = Unit {0}
    StmtIn o (Return line e) = OrdinaryMaybe e
    StmtIn o (Owes line) = Unit {0}
    StmtIn o (Fill line n b d) = Evaluated o.low b × Evaluated o.low d
    StmtIn o (OfEvents a) = EventIn o a
    StmtIn o (OfTasks a) = TaskIn o a

    pub StmtsIn : Room → Stmts → Type 0
    StmtsIn o Nil = Unit {0}
    StmtsIn o (Then a rest) = StmtIn o a × StmtsIn o rest × Follows a rest
    StmtsIn o (Scoped c rest) = (m : Room) × IsWithin o m × Holds o m c × StmtsIn m rest × Begins rest
    StmtsIn o (Built c rest) = OwnPart c × StmtsIn o rest × Begins rest

    pub EventIn : Room → EventStmt → Type 0
    EventIn o (Throw line r) = RaisedIn o r
    EventIn o (Raise line r) = RaisedIn o r
    EventIn o (Try line body hs) = (m h : Room) × IsWithin o m × IsWithin o h × IsBehind m h ×
        StmtsIn m body × HandlersIn h hs × Begins body × HandlersBegin hs
    EventIn o (RaiseAt line r e) = RaisedIn o r × Ordinary e
    EventIn o (Enable line events cell a) = (m : Room) × IsWithin o m ×
        Keeps o.hidden m.hidden (Restores cell) × StmtIn m a
    EventIn o (Disable line events cell a) = (m : Room) × IsWithin o m ×
        Keeps o.hidden m.hidden (Restores cell) × StmtIn m a

    -- a handler keeps its event in hidden cells, before those of its body
    pub HandlersIn : Room → Handlers → Type 0
    HandlersIn o NoHandlers = Unit {0}
    HandlersIn o (MoreHandlers resumes event cell line body rest) =
        (m : Room) × IsWithin o m × (o.hidden ≤ cell) × (cell + KEPT_CELLS ≤ m.hidden) ×
        StmtsIn m body × HandlersIn o rest

    pub TaskIn : Room → TaskStmt → Type 0
    TaskIn o (Migrate line e) = Ordinary e
    TaskIn o (Accept line site cs) = ClausesIn o cs
    TaskIn o a = Unit {0}

    pub ClausesIn : Room → Clauses → Type 0
    ClausesIn o NoClauses = Unit {0}
    ClausesIn o (Otherwise b) = StmtIn o b
    ClausesIn o (MoreClauses guard b cs) = Ordinary guard × StmtIn o b × ClausesIn o cs

  -- a routine has a room, which lies in its frame
  pub record RoutineIn (r : Routine) : Type 0 where
    pub room : Room
    pub sound : IsRoom room
    pub variables : room.high ≤ r.cells
    pub frame : room.last ≤ r.cells
    pub body : StmtsIn room r.body
    pub begins : Begins r.body

  abbrev pub MaybeRoutineIn : Option Routine → Type 0
  MaybeRoutineIn None = Unit {0}
  MaybeRoutineIn (Some r) = RoutineIn r

  abbrev pub SourceIn : Source → Type 0
  SourceIn source = (n : ℕ) → MaybeRoutineIn (slice_get source.routines n)

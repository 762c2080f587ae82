-- Code in which parts of objects are built by constructors alone, outside all other statements, and to-do lists of such code.
use Rattle.std.specs.Prelude.{◌≡◌, ℕ, ◌<◌, ◌⊎◌, Bool, true, false, List, [], ◌∷◌, Option, Some, None, slice_get}
use Rattle.uc_tree.specs.Source.{Expr, Element, Load, OfObject, Counted, CallOn, CallUnwritten, EndOn, CleanUp, DestroysAll, Forgets, Leaves, Ends, Frees, Stmt, Stmts, Block, Whole, Evaluate, If, Loop, Fill, OfEvents, OfTasks, Nil, Then, Scoped, Built, EventStmt, Try, Enable, Disable, TaskStmt, SetUp, Enliven, Accept, Handlers, NoHandlers, MoreHandlers, Clauses, NoClauses, Otherwise, MoreClauses, Builder, Routine, Source}
use Rattle.uc_machine.specs.Pieces as piece
use Rattle.uc_machine.specs.Pieces.{Todo, Sort, sort}
use Rattle.uc_machine.specs.Quiet.{MOST_ELEMENTS}

-- statements

-- an element that is counted, of an array of so many
abbrev pub CountsPlace : ℕ → Expr → Type 0
CountsPlace m (Element n k p (OfObject Counted)) = n ≡ m
CountsPlace m e = ⊥

-- what destroys objects that may be coroutines, or in which such may lie, does so at the elements of an array of so many
abbrev pub Counts : ℕ → Expr → Type 0
Counts m (OfObject (CallOn d p args)) = CountsPlace m p
Counts m (OfObject (CallUnwritten d p)) = CountsPlace m p
Counts m (OfObject (EndOn d written (Load p))) = CountsPlace m p
Counts m e = Unit {0}

-- the clean-up of a scope within a routine, but for the end of the building of a mutex object
abbrev pub CleansInner : CleanUp → Type 0
CleansInner (DestroysAll m e) = Counts m e
CleansInner (Frees r) = ⊥
CleansInner c = Unit {0}

-- that of a part of an object
abbrev pub CleansPart : CleanUp → Type 0
CleansPart (DestroysAll m e) = Counts m e
CleansPart Ends = ⊥
CleansPart (Frees r) = ⊥
CleansPart c = Unit {0}

-- all elements of an array are cleaned up together by what opens next, or is a part next; an activation can count so many
abbrev pub OpensAll : ℕ → Expr → Stmts → Type 0
OpensAll m d (Scoped (DestroysAll k e) rest) = (k ≡ m) × (e ≡ d) × Counts m d × (m < MOST_ELEMENTS)
OpensAll m d (Built (DestroysAll k e) rest) = (k ≡ m) × (e ≡ d) × Counts m d × (m < MOST_ELEMENTS)
OpensAll m d ss = ⊥

abbrev pub NoArray : ℕ → Expr → Type 0
NoArray m d = ⊥

-- statements in which no part of an object is built, before which an array of so many elements, which this destroys, may be filled
abbrev mutual
  pub InnerStmt : (ℕ → Expr → Type 0) → Stmt → Type 0
  InnerStmt P (Block line body) = InnerStmts body
  InnerStmt P (Whole line body) = InnerStmts body
  InnerStmt P (If line e a b) = InnerStmt NoArray a × InnerStmt NoArray b
  InnerStmt P (Loop line o e step b) = InnerStmt NoArray b
  InnerStmt P (Fill line m b d) = P m d
  InnerStmt P (OfEvents a) = InnerEvent a
  InnerStmt P (OfTasks a) = InnerTask a
  InnerStmt P a = Unit {0}

  pub InnerStmts : Stmts → Type 0
  InnerStmts Nil = Unit {0}
  InnerStmts (Then a rest) = InnerStmt (λ m d. OpensAll m d rest) a × InnerStmts rest
  InnerStmts (Scoped c rest) = CleansInner c × InnerStmts rest
  InnerStmts (Built c rest) = ⊥

  pub InnerEvent : EventStmt → Type 0
  InnerEvent (Try line body hs) = InnerStmts body × InnerHandlers hs
  InnerEvent (Enable line events cell a) = InnerStmt NoArray a
  InnerEvent (Disable line events cell a) = InnerStmt NoArray a
  InnerEvent a = Unit {0}

  pub InnerHandlers : Handlers → Type 0
  InnerHandlers NoHandlers = Unit {0}
  InnerHandlers (MoreHandlers resumes event cell line body rest) = InnerStmts body × InnerHandlers rest

  pub InnerTask : TaskStmt → Type 0
  InnerTask (SetUp r) = ⊥
  InnerTask (Accept line site cs) = InnerClauses cs
  InnerTask a = Unit {0}

  pub InnerClauses : Clauses → Type 0
  InnerClauses NoClauses = Unit {0}
  InnerClauses (Otherwise b) = InnerStmt NoArray b
  InnerClauses (MoreClauses guard b cs) = InnerStmt NoArray b × InnerClauses cs

-- an execution is a part next
abbrev pub OpensForgets : Stmts → Type 0
OpensForgets (Built Forgets rest) = Unit {0}
OpensForgets ss = ⊥

-- `special r`: the routine of this number is a constructor or a destructor
module _ (special : ℕ → Bool) where
  -- the main of a task that begins is none
  abbrev pub Begins : Option ℕ → Type 0
  Begins None = Unit {0}
  Begins (Some r) = special r ≡ false

  -- those that build the parts of an object
  abbrev pub HeadStmt : Stmts → Stmt → Type 0
  HeadStmt rest (Evaluate line e) = Unit {0}
  HeadStmt rest (Fill line m b d) = OpensAll m d rest
  HeadStmt rest (Whole line body) = InnerStmts body
  HeadStmt rest (OfTasks (SetUp r)) = OpensForgets rest × (special r ≡ false)
  HeadStmt rest (OfTasks Enliven) = Unit {0}
  HeadStmt rest a = ⊥

  abbrev pub HeadStmts : Stmts → Type 0
  HeadStmts Nil = Unit {0}
  HeadStmts (Then a rest) = HeadStmt rest a × HeadStmts rest
  HeadStmts (Scoped c rest) = ⊥
  HeadStmts (Built c rest) = CleansPart c × HeadStmts rest

  -- a mutex object is free behind them
  abbrev pub BuildingStmts : Stmts → Type 0
  BuildingStmts (Scoped (Frees r) rest) = Begins r × HeadStmts rest
  BuildingStmts ss = HeadStmts ss

  abbrev pub PartsRoutine : Bool → Option Routine → Type 0
  PartsRoutine b None = Unit {0}
  PartsRoutine true (Some r) = InnerStmts r.body ⊎ ((r.purpose ≡ Builder) × BuildingStmts r.body)
  PartsRoutine false (Some r) = InnerStmts r.body

  -- the routines of a source
  pub record PartsSource (source : Source) : Type 0 where
    pub routines : (n : ℕ) → PartsRoutine (special n) (slice_get source.routines n)
    pub main : special source.main ≡ false

-- to-do lists

-- no array is being built or destroyed
abbrev pub FreeBy : Sort → Type 0 → Type 0
FreeBy (piece.IsFill m b d) rest = ⊥
FreeBy (piece.IsSweep d) rest = ⊥
FreeBy k rest = rest

abbrev pub IsFree : List Todo → Type 0
IsFree [] = Unit {0}
IsFree (p ∷ todo) = FreeBy (sort p) (IsFree todo)

-- nor is a part of an object left by an exit
abbrev pub ClearBy : Sort → Type 0 → Type 0 → Type 0
ClearBy (piece.IsFill m b d) rest free = ⊥
ClearBy (piece.IsSweep d) rest free = ⊥
ClearBy (piece.IsPart c) rest free = ⊥
ClearBy (piece.IsClean (Frees r)) rest free = ⊥
ClearBy piece.IsWhole rest free = free
ClearBy k rest free = rest

abbrev pub IsClear : List Todo → Type 0
IsClear [] = Unit {0}
IsClear (p ∷ todo) = ClearBy (sort p) (IsClear todo) (IsFree todo)

-- the statements that are left begin with what cleans up such an array
abbrev pub OpensRest : List Todo → ℕ → Expr → Type 0
OpensRest (piece.Rest ss ∷ todo) m d = OpensAll m d ss
OpensRest todo m d = ⊥

-- they do behind the statement that fills it
abbrev pub FillEnds : List Todo → ℕ → Expr → Type 0
FillEnds (piece.Within line ∷ todo) m d = OpensRest todo m d
FillEnds todo m d = ⊥

-- as many are counted as there are to destroy
abbrev pub CountsNext : ℕ → List Todo → Type 0
CountsNext m (piece.Sweep e ∷ todo) = Counts m e
CountsNext m (piece.FillNow n b d ∷ todo) = Unit {0}
CountsNext m todo = ⊥

-- an element stands where an array is being built
abbrev pub MoreFills : List Todo → Type 0
MoreFills (piece.FillNow n b d ∷ todo) = Unit {0}
MoreFills todo = ⊥

-- an execution is a part next
abbrev pub SetsUp : List Todo → Type 0
SetsUp (piece.Rest ss ∷ todo) = OpensForgets ss
SetsUp todo = ⊥

-- `P c`: what holds of a part of the object at hand, and by `Ends` of the mutex object that this is
module _ (special : ℕ → Bool) (P : CleanUp → Type 0) where
  -- a clean-up at a mark
  abbrev pub CleansMark : CleanUp → Type 0
  CleansMark (DestroysAll m e) = Counts m e
  CleansMark (Frees r) = Begins special r × P Ends
  CleansMark c = Unit {0}

  -- a return of a mutex member leaves what is behind the scope of its object, and nothing is behind the end of the building of one
  abbrev pub BehindMark : CleanUp → List Todo → Type 0
  BehindMark Leaves todo = IsClear todo
  BehindMark (Frees r) todo = todo ≡ []
  BehindMark c todo = Unit {0}

  -- of all parts that statements are still to build
  abbrev pub AllParts : Stmts → Type 0
  AllParts Nil = Unit {0}
  AllParts (Then a rest) = AllParts rest
  AllParts (Scoped (Frees r) rest) = P Ends × AllParts rest
  AllParts (Scoped c rest) = AllParts rest
  AllParts (Built c rest) = P c × AllParts rest

  -- parts alone, and the end of the building of a mutex object
  abbrev pub Parted : List Todo → Type 0
  Parted [] = Unit {0}
  Parted (piece.Part c ∷ todo) = (P c × CleansPart c) × Parted todo
  Parted (piece.Clean (Frees r) ∷ []) = Begins special r × P Ends
  Parted todo = ⊥

  -- statements that build parts
  abbrev pub Heads : Stmts → List Todo → Type 0
  Heads (Scoped (Frees r) rest) todo = (todo ≡ []) × (Begins special r × P Ends) × HeadStmts special rest × AllParts rest
  Heads ss todo = HeadStmts special ss × AllParts ss × Parted todo

  abbrev pub HeadDo : Stmt → List Todo → Type 0
  HeadDo a (piece.Rest ss ∷ todo) = HeadStmt special ss a × HeadStmts special ss × AllParts ss × Parted todo
  HeadDo a todo = ⊥

  module _ (count : ℕ) where
    -- a to-do list is in order, while so many elements stand: no exit leaves parts and arrays, one array at most is built or destroyed, and behind that its
    -- clean-up stands next; where one more is to stand there is one more to count; and where cells start anew none is being built or destroyed
    abbrev pub IsOrderly : List Todo → Type 0
    IsOrderly [] = Unit {0}
    IsOrderly (piece.Do a ∷ todo) = (InnerStmt (OpensRest todo) a × IsClear todo × IsOrderly todo) ⊎ HeadDo a todo
    IsOrderly (piece.Rest ss ∷ todo) = (InnerStmts ss × IsClear todo × IsOrderly todo) ⊎ Heads ss todo
    IsOrderly (piece.Branch a b ∷ todo) = (InnerStmt NoArray a × InnerStmt NoArray b) × IsClear todo × IsOrderly todo
    IsOrderly (piece.TurnNow o t e b ∷ todo) = InnerStmt NoArray b × IsClear todo × IsOrderly todo
    IsOrderly (piece.Again o t e b ∷ todo) = InnerStmt NoArray b × IsClear todo × IsOrderly todo
    IsOrderly (piece.InLoop o t e b ∷ todo) = InnerStmt NoArray b × IsClear todo × IsOrderly todo
    IsOrderly (piece.Guard hs ∷ todo) = InnerHandlers hs × IsClear todo × IsOrderly todo
    IsOrderly (piece.ChooseNow cs ∷ todo) = InnerClauses cs × IsClear todo × IsOrderly todo
    IsOrderly (piece.Exit w ∷ todo) = IsClear todo × IsOrderly todo
    IsOrderly (piece.FillNow m b d ∷ todo) = FillEnds todo m d × IsFree todo × IsOrderly todo
    IsOrderly (piece.Sweep d ∷ todo) = IsFree todo × IsOrderly todo
    IsOrderly (piece.CountNow m ∷ todo) = CountsNext m todo × IsOrderly todo
    IsOrderly (piece.MoreNow ∷ todo) = (MoreFills todo × (count < MOST_ELEMENTS)) × IsOrderly todo
    IsOrderly (piece.Clean c ∷ todo) = (CleansMark c × BehindMark c todo) × IsFree todo × IsOrderly todo
    IsOrderly (piece.Part c ∷ todo) = (P c × CleansPart c) × Parted todo
    IsOrderly (piece.SetUpNow r ∷ todo) = (SetsUp todo × (special r ≡ false)) × IsOrderly todo
    IsOrderly (piece.MadeNow ∷ todo) = (P Ends × (todo ≡ [])) × IsOrderly todo
    IsOrderly (piece.SpawnNow r ∷ todo) = ((special r ≡ false) × P Ends × (todo ≡ [])) × IsOrderly todo
    IsOrderly (piece.ChildNow r ∷ todo) = (special r ≡ false) × IsOrderly todo
    IsOrderly (piece.ClearNow k n ∷ todo) = IsFree todo × IsOrderly todo
    IsOrderly (piece.Variables ds ∷ todo) = IsFree todo × IsOrderly todo
    IsOrderly (p ∷ todo) = IsOrderly todo

-- Executions and tasks in which all that is known by its number and in scope is there, the newest activation first.
use Rattle.std.specs.Prelude.{◌≡◌, ℕ, suc, ◌≤◌, ◌<◌, ◌⊎◌, true, List, [], ◌∷◌, length, Option, Some, None, slice_get, Bool}
use Rattle.uc_tree.specs.Source.{Expr, Variable, Load, OfObject, NoExprs, MakeOn, EndCluster, Destroys, Stmt, Stmts, Block, Whole, OfEvents, Scoped, Try, Routine, Source}
use Rattle.uc_machine.specs.Quiet.{act}
use Rattle.uc_machine.specs.declared.exec.Owner.{Owner}
use Rattle.uc_machine.specs.declared.exec.Owner.TheVariants.{Frame, Fields}
use Rattle.uc_machine.specs.Executions.{Execution, exec_eq}
use Rattle.uc_machine.specs.Pieces.{Link, Value, Place, LAST_ADDRESS, address, top, below, Todo, BindNow, BindMadeNow, SetUpNow, DropNow, CallOnNow, CallUnwrittenNow, MoreNow, FillNow, Within, Do, Rest, ClearNow, Active, State, Env, Members, Step, Goes, Ticks, Asks}
use Rattle.uc_state_laws.specs.Clusters.{Begins, HandlersBegin, Joined}
use Rattle.uc_state_laws.specs.There.{IsLoose, HoldsLoose, HoldsObject, IsBefore, IsThere, IsGiven, NextDrop, NextCall, EachNext, EachCall, Pends, Held, Any, AllBefore, FrameBefore, frame_at}

module _ (Few : ℕ → Bool) where
  -- activations with these frames: each uses its own frame or that of an older one, in which all is there that it has still to clean up
  abbrev pub CountedStack : List (List Value) → List Active → Type 0
  CountedStack fs [] = Unit {0}
  CountedStack fs (a ∷ older) = (a.frame ≤ length older) ×
      Held Few (frame_at a.frame fs) a.elements a.control × CountedStack fs older

  -- an execution that does not run, with a frame for each activation
  pub record CountedEx (x : Execution (List Todo) Value) : Type 0 where
    pub frames : length x.frames ≡ suc (length x.callers)
    pub stack : CountedStack x.frames (x.run ∷ x.callers)

  abbrev pub CountedSlot : Option (Execution (List Todo) Value) → Type 0
  CountedSlot None = Unit {0}
  CountedSlot (Some x) = CountedEx x

  abbrev pub CountedParked : List (ℕ × Option (Execution (List Todo) Value)) → Type 0
  CountedParked [] = Unit {0}
  CountedParked (p ∷ ps) = CountedSlot p.1 × CountedParked ps

  abbrev pub CountedHand : List (ℕ × Members) → Type 0
  CountedHand [] = Unit {0}
  CountedHand (p ∷ ps) = CountedParked p.1.parked × CountedHand ps

  abbrev pub CountedMembers : Option Members → Type 0
  CountedMembers None = Unit {0}
  CountedMembers (Some m) = CountedParked m.parked

  -- a task, but for its running execution, and with it
  pub record CountedEnv (e : Env) : Type 0 where
    pub house : CountedParked e.house.parked
    pub hand : CountedHand e.hand

  pub record CountedState (s : State) : Type 0 where
    pub frames : length s.env.frames ≡ suc (length s.callers)
    pub stack : CountedStack s.env.frames (s.run ∷ s.callers)
    pub env : CountedEnv s.env

  abbrev pub CountedStep : Step → Type 0
  CountedStep (Goes s) = CountedState s
  CountedStep (Ticks s) = CountedState s
  CountedStep (Asks r s) = CountedState s

-- of any numbers
abbrev pub ThereStack : List (List Value) → List Active → Type 0
ThereStack fs cs = CountedStack Any fs cs

abbrev pub ThereMembers : Option Members → Type 0
ThereMembers m = CountedMembers Any m

abbrev pub ThereState : State → Type 0
ThereState s = CountedState Any s

-- the statements of a routine may stand behind any other; so it is of each routine of a source
abbrev pub RoutineBegins : Option Routine → Type 0
RoutineBegins None = Unit {0}
RoutineBegins (Some r) = Begins r.body

abbrev pub SourceBegins : Source → Type 0
SourceBegins source = (n : ℕ) → RoutineBegins (slice_get source.routines n)

-- so may those within a statement
abbrev pub BodiesBegin : Stmt → Type 0
BodiesBegin (Block line body) = Begins body
BodiesBegin (Whole line body) = Begins body
BodiesBegin (OfEvents (Try line body hs)) = Begins body × HandlersBegin hs
BodiesBegin a = Unit {0}

-- where a scope opens of a variable that is not given, that is there: its cells lie behind the last address
abbrev pub OpensThere : List Value → Stmts → Type 0
OpensThere vs (Scoped c rest) = (IsGiven c → ⊥) → IsThere vs c
OpensThere vs ss = Unit {0}

-- the cluster whose scope is opened behind a statement lies in a frame of so many cells
abbrev pub ScopeFits : ℕ → Stmts → Type 0
ScopeFits n (Scoped (Destroys (OfObject (EndCluster (Load (Variable k))))) rest) = k < n
ScopeFits n ss = Unit {0}

abbrev pub BoundFits : ℕ → List Todo → Type 0
BoundFits n (DropNow ∷ (Within line ∷ (Rest ss ∷ todo))) = ScopeFits n ss
BoundFits n todo = Unit {0}

-- so of the frame of a depth it is no cell that is still to be bound there, and none of an array that is being filled before the last address
abbrev pub StackAside : ℕ → ℕ → List Active → Type 0
StackAside cell d [] = Unit {0}
StackAside cell d (a ∷ older) = (a.frame ≡ d → Pends (λ p. address p ≡ cell → ⊥) a.control ×
    EachNext (λ p. address p < LAST_ADDRESS → address p ≡ cell → ⊥) a.control) ×
    StackAside cell d older

-- a place where something else than an object may be bound, by an activation with this frame and this to do behind that, before these older
-- ones: one of a mutex object, or of a frame of the running execution, but no variable that is still to be bound
abbrev pub InFrame : Owner → (cell frame : ℕ) → List Todo → List Active → Env → Type 0
InFrame (Frame n d) cell frame todo cs e = (exec_eq n e.exec ≡ true) ×
    (frame ≡ d → Pends (λ p. address p ≡ cell → ⊥) todo) × StackAside cell d cs
InFrame (Fields o) cell frame todo cs e = Unit {0}

abbrev pub Aside : Value → ℕ → List Todo → List Active → Env → Type 0
Aside (Place o p) frame todo cs e = InFrame o (address p) frame todo cs e
Aside v frame todo cs e = Unit {0}

abbrev pub IsAside : Value → List Todo → State → Type 0
IsAside v todo s = Aside v s.run.frame todo s.callers s.env

-- so it is with what `BindNow` binds, unless that is an object or a number
abbrev pub PutsAside : List Todo → State → Type 0
PutsAside todo s = IsLoose (top s.run.operands) ⊎ IsAside (top (below s.run.operands)) todo s

-- behind a step that binds in a frame of these values, the variable whose scope opens next holds an object, if it was loose
abbrev pub BoundBehind : ((List Link → Type 0) → Type 0) → List Value → Step → Type 0
BoundBehind next vs (Goes s) =
    next (λ p. HoldsLoose vs p → HoldsObject (frame_at s.run.frame s.env.frames) p)
BoundBehind next vs (Ticks s) = Unit {0}
BoundBehind next vs (Asks r s) = Unit {0}

-- what builds the elements of an array of mutex objects takes no arguments
abbrev pub BuildsBare : Source → Expr → Type 0
BuildsBare source (OfObject (MakeOn c r written p NoExprs)) = (q : Routine) →
    slice_get source.routines r ≡ Some q → q.params ≡ 0
BuildsBare source e = Unit {0}

abbrev pub FillsBare : Source → List Todo → Type 0
FillsBare source (CallOnNow q ∷ (DropNow ∷ (MoreNow ∷ (FillNow n b d ∷ todo)))) = BuildsBare source b
FillsBare source (CallUnwrittenNow q ∷ (DropNow ∷ (MoreNow ∷ (FillNow n b d ∷ todo)))) = BuildsBare source b
FillsBare source todo = Unit {0}

-- what a step is to find: where a scope opens, what it is of is there, if it is not given; what is bound is there behind the step, if it was
-- loose; what is no object is bound aside; what begins and what stands behind each other is as in the source; cells that start anew lie behind
-- all that is there; a cluster lies in the frame, and so does each element of an array that is being filled, which takes no arguments
module _ (source : Source) where
  abbrev pub FairAt : List Todo → State → Type 0
  FairAt (Rest ss ∷ todo) s = Joined ss × OpensThere (frame_at s.run.frame s.env.frames) ss
  FairAt (Do a ∷ todo) s = BodiesBegin a
  FairAt (ClearNow k n ∷ todo) s = AllBefore k todo × FrameBefore k s.run.frame s.callers
  FairAt (BindNow ∷ todo) s = BoundFits (length (frame_at s.run.frame s.env.frames)) todo ×
      BoundBehind (λ P. NextDrop P todo) (frame_at s.run.frame s.env.frames) (act source BindNow todo s) ×
      PutsAside todo s × EachNext (IsBefore (length (frame_at s.run.frame s.env.frames))) todo
  FairAt (BindMadeNow c r ∷ todo) s =
      BoundBehind (λ P. NextCall P todo) (frame_at s.run.frame s.env.frames) (act source (BindMadeNow c r) todo s) ×
      IsLoose (top s.run.operands) × EachCall (IsBefore (length (frame_at s.run.frame s.env.frames))) todo ×
      FillsBare source todo
  FairAt (SetUpNow r ∷ todo) s = IsAside s.run.this todo s
  FairAt todo s = Unit {0}

  abbrev pub Fair : State → Type 0
  Fair s = FairAt s.run.control s

-- To-do lists and tasks in which a variable that is a mutex object holds a number until it is bound, and from then on, up to its scope, the object
-- that is at home there, for which its constructor is called.
use Rattle.std.specs.Prelude.{◌≡◌, ℕ, suc, ◌≤◌, ◌<◌, ◌⊎◌, Bool, true, false, List, [], ◌∷◌, length, drop, slice_index_or, Option}
use Rattle.uc_tree.specs.Source.{Source, Expr, Variable, Load, OfObject, MakeOn, EndOn, CleanUp, Destroys, Stmt, Stmts, Evaluate, Scoped}
use Rattle.uc_entry.specs.declared.request.Request.{Request}
use Rattle.uc_entry.specs.declared.request.Request.TheVariants as ask
use Rattle.uc_machine.specs.declared.exec.Exec.{Exec}
use Rattle.uc_machine.specs.declared.exec.Home.{Home}
use Rattle.uc_machine.specs.declared.exec.Owner.TheVariants.{Frame}
use Rattle.uc_machine.specs.declared.exec.Stage.{Stage}
use Rattle.uc_machine.specs.declared.exec.Stage.TheVariants.{Fresh, Started, Ended}
use Rattle.uc_machine.specs.Executions.{Execution}
use Rattle.uc_machine.specs.Pieces as piece
use Rattle.uc_machine.specs.Pieces.{Slot, Value, Place, LAST_ADDRESS, address, nought, top, Todo, Sort, sort, Active, State, Env, Members, Step, Goes, Ticks, Asks}
use Rattle.uc_state_laws.specs.Clusters.{HandlersBegin}
use Rattle.uc_state_laws.specs.Counted.{params}
use Rattle.uc_state_laws.specs.Declaring.{IsCount}
use Rattle.uc_state_laws.specs.NewClusters.{IsLast}
use Rattle.uc_life_laws.specs.Things.{Few}
use Rattle.uc_life_laws.specs.LifeStates.{frame_at, MembersBy, EnvBy}
use Rattle.uc_putting_laws.specs.Putting.{IsHome}

-- the variable at which a clean-up ends a mutex object; of which the scope opens next in what is left of a block
abbrev pub OfMutex : (ℕ → Type 0) → CleanUp → Type 0
OfMutex P (Destroys (OfObject (EndOn r written (Load (Variable k))))) = P k
OfMutex P c = Unit {0}

abbrev pub OpensMutex : (ℕ → Type 0) → Stmts → Type 0
OpensMutex P (Scoped c rest) = OfMutex P c
OpensMutex P ss = Unit {0}

abbrev pub NoVariable : ℕ → Type 0
NoVariable k = ⊥

-- behind the value of a statement, and behind the call of a constructor before that
abbrev pub DropMutex : (ℕ → Type 0) → List Todo → Type 0
DropMutex P (piece.DropNow ∷ (piece.Within line ∷ (piece.Rest ss ∷ todo))) = OpensMutex P ss
DropMutex P todo = Unit {0}

abbrev pub CallMutex : (ℕ → Type 0) → List Todo → Type 0
CallMutex P (piece.CallOnNow r ∷ todo) = DropMutex P todo
CallMutex P (piece.CallUnwrittenNow r ∷ todo) = DropMutex P todo
CallMutex P todo = Unit {0}

-- an expression, and a statement, that make a mutex object
abbrev pub IsMaking : Expr → Type 0
IsMaking (OfObject (MakeOn c r written p args)) = Unit {0}
IsMaking e = ⊥

abbrev pub MakesBy : Stmt → Type 0
MakesBy (Evaluate line e) = IsMaking e
MakesBy a = ⊥

-- statements that are left of a block do not begin with such a scope, nor do handlers
abbrev pub PieceBegins : Todo → Type 0
PieceBegins (piece.Guard hs) = HandlersBegin hs
PieceBegins (piece.Rest ss) = OpensMutex NoVariable ss
PieceBegins p = Unit {0}

abbrev pub MarkBegins : Sort → Type 0
MarkBegins (piece.IsGuard hs) = HandlersBegin hs
MarkBegins k = Unit {0}

-- who leaves a simple piece, or what fills an array, comes to what stands behind it; at another mark that may be done
abbrev pub LeftBy : Sort → Type 0 → Type 0 → Type 0
LeftBy piece.Simple left all = left
LeftBy (piece.IsFill n b d) left all = left
LeftBy k left all = MarkBegins k × all

-- `Unbound k`: what holds of such a variable before it is bound
module _ (Unbound : ℕ → Type 0) where
  abbrev mutual
    -- such a scope stands behind what is still to make its object, and its variable is so
    pub AllUnbound : List Todo → Type 0
    AllUnbound [] = Unit {0}
    AllUnbound (piece.Eval e ∷ todo) = AllUnbound todo ⊎ (IsMaking e × AtDrop Unbound todo)
    AllUnbound (piece.Do a ∷ todo) = AllUnbound todo ⊎ (MakesBy a × AtRest Unbound todo)
    AllUnbound (piece.MakeNow c r ∷ todo) = AllUnbound todo ⊎ AtCall r Unbound todo
    AllUnbound (piece.BindMadeNow c r ∷ todo) = AllUnbound todo ⊎ AtCall r Unbound todo
    AllUnbound (piece.Exit w ∷ todo) = AllLeft todo
    AllUnbound (piece.Unwind ∷ todo) = AllLeft todo
    AllUnbound (p ∷ todo) = PieceBegins p × AllUnbound todo

    -- it opens next, and its variable is so
    pub AtRest : (ℕ → Type 0) → List Todo → Type 0
    AtRest P (piece.Rest ss ∷ todo) = OpensMutex P ss × AllUnbound todo
    AtRest P todo = ⊥

    pub AtDrop : (ℕ → Type 0) → List Todo → Type 0
    AtDrop P (piece.DropNow ∷ (piece.Within line ∷ todo)) = AtRest P todo
    AtDrop P todo = ⊥

    -- behind the call of this constructor
    pub AtCall : ℕ → (ℕ → Type 0) → List Todo → Type 0
    AtCall r P (piece.CallOnNow q ∷ todo) = (q ≡ r) × AtDrop P todo
    AtCall r P (piece.CallUnwrittenNow q ∷ todo) = (q ≡ r) × AtDrop P todo
    AtCall r P todo = ⊥

    pub AllLeft : List Todo → Type 0
    AllLeft [] = Unit {0}
    AllLeft (p ∷ todo) = LeftBy (sort p) (AllLeft todo) (AllUnbound todo)

  -- what is to do behind the step that binds one: `C r`: what holds of that as the constructor r is called, `P`: behind the call
  abbrev pub AtNow : (ℕ → Type 0) → (ℕ → ℕ → Type 0) → List Todo → Type 0
  AtNow P C (piece.Rest ss ∷ todo) = OpensMutex P ss × AllUnbound todo
  AtNow P C (piece.Within line ∷ todo) = AtRest P todo
  AtNow P C (piece.DropNow ∷ (piece.Within line ∷ todo)) = AtRest P todo
  AtNow P C (piece.CallOnNow r ∷ todo) = AtDrop (C r) todo
  AtNow P C (piece.CallUnwrittenNow r ∷ todo) = AtDrop (C r) todo
  AtNow P C todo = ⊥

-- a variable of a frame with these values, at a cell with an address of its own, holds a number
abbrev pub IsUnset : List Value → ℕ → Type 0
IsUnset vs k = k < LAST_ADDRESS → IsCount (slice_index_or vs (address (Slot k ∷ [])) nought)

module _ (few : Few) (n : Exec) where
  -- or the object that is at home there
  abbrev pub IsSet : List Value → ℕ → ℕ → Type 0
  IsSet vs f k = k < LAST_ADDRESS →
      IsHome few (slice_index_or vs (address (Slot k ∷ [])) nought) (Place (Frame n f) (Slot k ∷ []))

  -- and that is this value
  abbrev pub IsThat : Value → List Value → ℕ → ℕ → Type 0
  IsThat v vs f k = k < LAST_ADDRESS →
      IsHome few (slice_index_or vs (address (Slot k ∷ [])) nought) (Place (Frame n f) (Slot k ∷ [])) ×
      (slice_index_or vs (address (Slot k ∷ [])) nought ≡ v)

  -- an activation that waits for one with this object, which is that of the variable whose scope opens next
  abbrev pub WaitsFor : Value → List Value → ℕ → List Todo → Type 0
  WaitsFor v vs f todo = AllUnbound (IsUnset vs) todo ⊎ AtDrop (IsUnset vs) (IsThat v vs f) todo

  -- one that runs, with these operands: in a state at rest, or on its way, where it may call the constructor of that object for it
  abbrev pub RunsWith : Bool → Source → List Value → List Value → ℕ → List Todo → Type 0
  RunsWith false source operands vs f todo = AllUnbound (IsUnset vs) todo
  RunsWith true source operands vs f todo = AllUnbound (IsUnset vs) todo ⊎
      AtNow (IsUnset vs) (IsSet vs f) (λ r. IsThat (top (drop (params source r) operands)) vs f) todo

  -- activations with these frames that wait for one with this object, each for the next one: each uses its own frame or that of an older one
  abbrev pub BoundStack : List (List Value) → Value → List Active → Type 0
  BoundStack fs v [] = Unit {0}
  BoundStack fs v (a ∷ older) = (a.frame ≤ length older) ×
      WaitsFor v (frame_at a.frame fs) a.frame a.control × BoundStack fs a.this older

module _ (few : Few) where
  -- an execution of this name that does not run, with a frame for each activation
  pub record BoundThere (n : Exec) (x : Execution (List Todo) Value) : Type 0 where
    pub frames : length x.frames ≡ suc (length x.callers)
    pub frame : x.run.frame ≤ length x.callers
    pub run : AllUnbound (IsUnset (frame_at x.run.frame x.frames)) x.run.control
    pub callers : BoundStack few n x.frames x.run.this x.callers

  -- one that has ended never goes on
  abbrev pub BoundBy : Stage → Exec → Execution (List Todo) Value → Type 0
  BoundBy Fresh n x = BoundThere n x
  BoundBy Started n x = BoundThere n x
  BoundBy Ended n x = Unit {0}

  abbrev pub BoundEx : Exec → Execution (List Todo) Value → Type 0
  BoundEx n x = BoundBy x.links.stage n x

  abbrev pub BoundMembers : Home → Option Members → Type 0
  BoundMembers h m = MembersBy BoundEx h m

  abbrev pub BoundEnv : Env → Type 0
  BoundEnv e = EnvBy BoundEx e

-- behind the end of a task and a fault nothing is done
abbrev pub is_last : Request → Bool
is_last ask.End = true
is_last (ask.Fault f) = true
is_last r = false

module _ (few : Few) (source : Source) where
  -- a task on its way, or at rest
  pub record BoundState (goes : Bool) (s : State) : Type 0 where
    pub frames : length s.env.frames ≡ suc (length s.callers)
    pub frame : s.run.frame ≤ length s.callers
    pub run : RunsWith few s.env.exec goes source s.run.operands (frame_at s.run.frame s.env.frames) s.run.frame s.run.control
    pub callers : BoundStack few s.env.exec s.env.frames s.run.this s.callers
    pub env : BoundEnv few s.env

  abbrev pub BoundStep : Step → Type 0
  BoundStep (Goes s) = BoundState true s
  BoundStep (Ticks s) = BoundState false s
  BoundStep (Asks r s) = BoundState (is_last r) s

  abbrev pub GoodStep : Step → Type 0
  GoodStep (Goes s) = BoundState true s
  GoodStep (Ticks s) = BoundState false s
  GoodStep (Asks r s) = BoundState (is_last r) s ⊎ (IsLast r × BoundEnv few s.env)

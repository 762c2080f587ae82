-- Executions and tasks in which each constructor has bound what its statements do not bind any more, of an object whose scope opens behind it.
use Rattle.std.specs.Prelude.{◌≡◌, ℕ, suc, ◌⊎◌, Bool, true, List, [], ◌∷◌, length, slice_index_or}
use Rattle.uc_tree.specs.Source.{Variable, CleanUp, Scoped}
use Rattle.uc_entry.specs.declared.request.Request.{Request}
use Rattle.uc_entry.specs.declared.request.Request.TheVariants as ask
use Rattle.uc_machine.specs.declared.exec.Exec.{Exec}
use Rattle.uc_machine.specs.declared.exec.Owner.TheVariants.{Frame}
use Rattle.uc_machine.specs.Executions.{Execution}
use Rattle.uc_machine.specs.Switches.{stopped}
use Rattle.uc_machine.specs.Pieces as piece
use Rattle.uc_machine.specs.Pieces.{Slot, FieldAt, Value, Number, Place, Running, Object, Nothing, Todo, Active, State, Step, Goes, Ticks, Asks, address, further, nought}
use Rattle.uc_typing.specs.Typing.{Ty, Obj, Raw, Sig, Table, IsParam, CleansAt}
use Rattle.uc_life_laws.specs.Things.{Few, IsField, Within, AtField, IsFor, InTodo, Outer, Known, Holds}
use Rattle.uc_life_laws.specs.LifeStates.{frame_at}
use Rattle.uc_life_laws.specs.Knowing.{ClaimsState}
use Rattle.uc_life_laws.specs.Lives.{MakingAt, MakingIn, Lives}
use Rattle.uc_building_laws.specs.Building.{Now}
use Rattle.uc_building_laws.specs.Anew.{IsFree, OnWay, IsAnew, AllAnew}
use Rattle.uc_building_laws.specs.Pairs.{AllCalled}

-- a scope opens next, once the value of the statement before it is dropped
abbrev pub Awaits : (CleanUp → List Todo → Type 0) → List Todo → Type 0
Awaits P (piece.DropNow ∷ (piece.Within line ∷ (piece.Rest (Scoped c ss) ∷ todo))) = P c todo
Awaits P todo = Unit {0}

-- or then, or now
abbrev pub Nears : (CleanUp → List Todo → Type 0) → List Todo → Type 0
Nears P (piece.Rest (Scoped c ss) ∷ todo) = P c todo
Nears P (piece.Within line ∷ (piece.Rest (Scoped c ss) ∷ todo)) = P c todo
Nears P (piece.DropNow ∷ (piece.Within line ∷ (piece.Rest (Scoped c ss) ∷ todo))) = P c todo
Nears P todo = Unit {0}

-- what is left to bind to an activation that runs; to one that waits nothing is
abbrev pub of_run : Table → (ℕ → ℕ → Bool) → Active → List Ty → ℕ → ℕ → Value → (Ty → Value → Type 0) → Type 0
of_run t heads a ps c i w K = Now t heads ps c i w K a.control a.operands

abbrev pub of_wait : List Ty → ℕ → ℕ → Value → (Ty → Value → Type 0) → Type 0
of_wait ps c i w K = ⊥

-- the place of a variable in the frame of a depth
abbrev pub variable : Exec → ℕ → ℕ → Value
variable n g k = Place (Frame n g) (Slot k ∷ [])

-- an object that lies in what a scope is of, as one that is not whole
abbrev pub IsInScope : Table → Exec → ℕ → Value → CleanUp → Value → Ty → Type 0
IsInScope t n f this c w a = (d : ℕ) × (a ≡ Raw d) ×
    ((v : Value) × (b : Ty) × IsFor t (Frame n f) this c v b × Within t v b w (Obj d))

-- what is at hand outwards of a scope that is to open, in an activation with this frame and this object before older ones: what lies outwards of it,
-- what lies in what it is of, as what is not whole, and what the activation and older ones build and destroy by these kinds
abbrev pub AtScope : Table → Few → List Sig → Exec → ℕ → Value → List Active → CleanUp → List Todo → Value → Ty → Type 0
AtScope t few kinds n f this older c todo w a =
    ((IsInScope t n f this c w a ⊎ InTodo (IsFor t (Frame n f) this) (AtField t (Frame n f) this) todo w a) ⊎ Outer t few n older w a) ⊎
    (MakingAt kinds f this w a ⊎ MakingIn kinds older w a)

-- nothing is bound at a place in the frame of a depth
abbrev pub IsLoose : List (List Value) → ℕ → Value → Type 0
IsLoose fs g (Place o p) = IsFree (slice_index_or (frame_at g fs) (address p) nought)
IsLoose fs g v = Unit {0}

-- `heads`: of which fields of classes it is told, those that are bound in the heads of constructors
module _ (t : Table) (heads : ℕ → ℕ → Bool) (few : Few) (kinds : List Sig) (n : Exec) where
  -- these fields of the object of a class at a place in the frame of the depth g hold what is known
  abbrev pub IsBuilt : List (List Value) → ℕ → Value → ℕ → (Value → Ty → Type 0) → Type 0
  IsBuilt fs g w c K = (i : ℕ) → IsField t c i → heads c i ≡ true →
      Holds t few n K (Frame n g) (frame_at g fs) (further (FieldAt (t.shape c) i) w) (t.fields c i)

  -- a constructor with a frame f of its own, of this depth, builds it: its parameters are known, and so is what each field holds that is not
  -- still to be bound; nothing is bound yet in those that are. `L ps c i w K`: the field i of the class c is, by a constructor with parameters of these
  -- types
  pub record IsMaking (L : List Ty → ℕ → ℕ → Value → (Ty → Value → Type 0) → Type 0) (fs : List (List Value)) (f depth : ℕ) (this : Value) (g : ℕ) (w : Value) (c : ℕ) (K : Value → Ty → Type 0) : Type 0 where
    pub frame : f ≡ depth
    pub object : this ≡ w
    pub known_object : Known t few n K (Obj c) w
    pub params : List Ty
    pub known : (k : ℕ) (b : Ty) → IsParam params k b →
        Known t few n K b (slice_index_or (frame_at f fs) k nought)
    pub fields : (i : ℕ) → IsField t c i → heads c i ≡ true →
        Holds t few n K (Frame n g) (frame_at g fs) (further (FieldAt (t.shape c) i) w) (t.fields c i) ⊎
        (L params c i w (Known t few n K) × IsLoose fs g (further (FieldAt (t.shape c) i) w))

  -- an activation before those that wait: where the first of these waits for the scope of an object, that one builds it
  abbrev pub Builds : (List Ty → ℕ → ℕ → Value → (Ty → Value → Type 0) → Type 0) → List (List Value) → ℕ → Value → List Active → Type 0
  Builds L fs f this [] = Unit {0}
  Builds L fs f this (b ∷ older) =
      Awaits (λ c todo. (k i : ℕ) → CleansAt t (Obj i) (Variable k) c → IsBuilt fs b.frame (variable n b.frame k) i (AtScope t few kinds n b.frame b.this older c todo) ⊎ IsMaking L fs f (suc (length older)) this b.frame (variable n b.frame k) i (AtScope t few kinds n b.frame b.this older c todo)) b.control

  abbrev pub AllBuild : List (List Value) → List Active → Type 0
  AllBuild fs [] = Unit {0}
  AllBuild fs (a ∷ older) = Builds of_wait fs a.frame a.this older × AllBuild fs older

module _ (t : Table) (heads : ℕ → ℕ → Bool) (few : Few) where
  -- an execution of this name that does not run, by the kinds of its frames
  pub record BuildsEx (n : Exec) (kinds : List Sig) (x : Execution (List Todo) Value) : Type 0 where
    pub anew : AllAnew t heads x.frames (x.run ∷ x.callers)
    pub run : Builds t heads few kinds n of_wait x.frames x.run.frame x.run.this x.callers
    pub callers : AllBuild t heads few kinds n x.frames x.callers
    pub pairs : AllCalled t kinds (x.run ∷ x.callers)

module _ (t : Table) (heads : ℕ → ℕ → Bool) (few : Few) (kinds : List Sig) where
  -- a task whose running activation has this still to do
  pub record BuildsBy (L : List Ty → ℕ → ℕ → Value → (Ty → Value → Type 0) → Type 0) (s : State) : Type 0 where
    pub anew : AllAnew t heads s.env.frames (s.run ∷ s.callers)
    pub run : Builds t heads few kinds s.env.exec L s.env.frames s.run.frame s.run.this s.callers
    pub callers : AllBuild t heads few kinds s.env.exec s.env.frames s.callers

  -- where a scope of an object that is a variable opens next, behind what has built it, that holds what is known
  abbrev pub Stands : State → Type 0
  Stands s = Nears (λ c todo. (k i : ℕ) → CleansAt t (Obj i) (Variable k) c → IsBuilt t heads few kinds s.env.exec s.env.frames s.run.frame (variable s.env.exec s.run.frame k) i (AtScope t few kinds s.env.exec s.run.frame s.run.this s.callers c todo)) s.run.control

  -- and where the next statement builds such an object, behind its declaration, nothing is bound there
  abbrev pub Starts : State → Type 0
  Starts s = OnWay (IsAnew t heads s.env.frames s.run.frame) s.run.control

  pub record BuildsState (s : State) : Type 0 where
    pub builds : BuildsBy (of_run t heads s.run) s
    pub stands : Stands s
    pub starts : Starts s

  -- one that has asked, or may be sliced: nothing is being bound
  pub record BuildsRest (s : State) : Type 0 where
    pub builds : BuildsBy of_wait s
    pub stands : Stands s
    pub starts : Starts s

  -- nobody goes on behind an end and behind a fault
  abbrev pub StandsBehind : Request → State → Type 0
  StandsBehind ask.End s = Unit {0}
  StandsBehind (ask.Fault f) s = Unit {0}
  StandsBehind r s = Stands s

  abbrev pub StartsBehind : Request → State → Type 0
  StartsBehind ask.End s = Unit {0}
  StartsBehind (ask.Fault f) s = Unit {0}
  StartsBehind r s = Starts s

  abbrev pub BuildsBehind : Request → State → Type 0
  BuildsBehind (ask.Fault f) s = Unit {0}
  BuildsBehind r s = BuildsBy of_wait s

  -- one that has asked this
  pub record BuildsAsk (r : Request) (s : State) : Type 0 where
    pub builds : BuildsBehind r s
    pub stands : StandsBehind r s
    pub starts : StartsBehind r s

  abbrev pub BuildsStep : Step → Type 0
  BuildsStep (Goes s) = BuildsState s
  BuildsStep (Ticks s) = BuildsRest s
  BuildsStep (Asks r s) = BuildsAsk r s

-- what is left to bind to an activation that is to be given these operands
abbrev pub Left : Table → (ℕ → ℕ → Bool) → List Ty → Active → List Ty → ℕ → ℕ → Value → (Ty → Value → Type 0) → Type 0
Left t heads [] a = of_run t heads a
Left t heads (b ∷ given) a = of_wait

module _ (t : Table) (heads : ℕ → ℕ → Bool) (few : Few) where
  -- that is claimed of executions by their kinds, beside what variables in scope hold
  abbrev pub Built : Exec → List Sig → Execution (List Todo) Value → Type 0
  Built n kinds x = Lives t few n kinds x × BuildsEx t heads few n kinds x

  -- a state in which all is known, that is to be given these operands, by kinds by which variables in scope hold what is known, and so do objects that
  -- are built
  abbrev pub BuiltState : List Ty → State → Type 0
  BuiltState given s = (x : ClaimsState t few Built given s) ×
      (Lives t few s.env.exec x.sigs (stopped s) × BuildsBy t heads few x.sigs (Left t heads given s.run) s × Stands t heads few x.sigs s × Starts t heads few x.sigs s × AllCalled t x.sigs (s.run ∷ s.callers))

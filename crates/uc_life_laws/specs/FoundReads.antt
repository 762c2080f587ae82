-- What a step is still to find where numbers alone are told: that what it reads is known, where the state does not tell it.
use Rattle.std.specs.Prelude.{◌≡◌, ℕ, zero, suc, ◌⊎◌, Bool, List, [], ◌∷◌, slice_index_or}
use Rattle.uc_tree.specs.Source.{Source, CleanUp, Stmts, Scoped, Variable, OfObject, GetOwn}
use Rattle.uc_machine.specs.declared.exec.Exec.{Exec}
use Rattle.uc_machine.specs.declared.exec.Owner.{Owner}
use Rattle.uc_machine.specs.declared.exec.Owner.TheVariants.{Frame}
use Rattle.uc_machine.specs.Pieces.{Link, Slot, FieldAt, Value, Place, Todo, Eval, LoadNow, Rest, Active, State, address, further, loaded, nought, top}
use Rattle.uc_state_laws.specs.Opens as there
use Rattle.uc_typing.specs.States.{Is}
use Rattle.uc_typing.specs.Typing.{Ty, Num, Cell, Obj, Raw, Row, Clu, Pro, Name, Sig, Table, ObjectGives, CleansAt}
use Rattle.uc_life_laws.specs.Things.{Few, numbered, IsBinding, IsReference, IsResource, IsTracked, IsSited, IsLoosePlace, AtField, InStack, NoBase, Within, Held, IsFew}
use Rattle.uc_life_laws.specs.LifeStates.{Outwards, frame_at}
use Rattle.uc_life_laws.specs.Lives.{OutwardsOrMade, LivesState}
use Rattle.uc_life_laws.specs.Knowing.{NotWhole, IsOwn, Here}
use Rattle.uc_life_laws.specs.Opened.{any}

-- the fields of objects at hand that are to be cleaned up, of these activations of an execution
abbrev pub OwnMarks : Table → Exec → List Active → Value → Ty → Type 0
OwnMarks t n cs w a = InStack (AtField t) (AtField t) NoBase n cs w a

-- what an execution of this name, which has at hand what is of K, may come by
module _ (t : Table) (few : Few) (n : Exec) (K : Value → Ty → Type 0) where
  -- a value is of its type, and a number is such; and in a frame of its own, the place of an object in which something is bound lies in what is at hand
  pub record IsRight (a : Ty) (v : Value) : Type 0 where
    pub is : Is t a v
    pub passes : IsFew t few n a v
    pub lies : IsOwn n v → IsTracked t a ⊎ IsSited a → Held t few K a v

  -- so is what is no number
  abbrev pub IsRightAs : Ty → Value → Type 0
  IsRightAs Num v = Unit {0}
  IsRightAs (Cell a) v = IsRight (Cell a) v
  IsRightAs (Obj c) v = IsRight (Obj c) v
  IsRightAs (Raw c) v = IsRight (Raw c) v
  IsRightAs (Row m a) v = IsRight (Row m a) v
  IsRightAs Clu v = IsRight Clu v
  IsRightAs Pro v = IsRight Pro v

  -- and all to which a thing at a place of an owner with these values is bound
  abbrev pub HoldsRight : Owner → List Value → Value → Ty → Type 0
  HoldsRight o vs w a = (p : List Link) (b : Ty) → Within t w a (Place o p) (Cell b) → IsBinding b →
      IsRightAs b (slice_index_or vs (address p) nought)

-- so it is of what is at a variable of the running activation, by these kinds of frames
module _ (t : Table) (few : Few) (gs : List Sig) (c : CleanUp) (todo : List Todo) (s : State) where
  abbrev pub VariableRight : ℕ → Ty → Type 0
  VariableRight k a = HoldsRight t few s.env.exec (OutwardsOrMade gs (Outwards t few s.env.exec s.run.frame s.run.this s.callers c todo) s.env.exec s.run.frame s.run.this s.callers) (Frame s.env.exec s.run.frame) (frame_at s.run.frame s.env.frames) (Place (Frame s.env.exec s.run.frame) (Slot k ∷ [])) a

-- where a scope opens, it is so of what that is of
abbrev pub OpensRightAt : Table → Few → List Sig → List Todo → State → Type 0
OpensRightAt t few gs (Rest (Scoped c rest) ∷ todo) s = (k : ℕ) (a : Ty) → CleansAt t a (Variable k) c →
    VariableRight t few gs c todo s k a
OpensRightAt t few gs todo s = Unit {0}

-- an object that is a variable, and those of an array that is one
pub record ObjectsRight (t : Table) (gs : List Sig) (c : CleanUp) (todo : List Todo) (s : State) : Type 0 where
  pub object : (k i : ℕ) → CleansAt t (Obj i) (Variable k) c → VariableRight t any gs c todo s k (Obj i)
  pub array : (k m i : ℕ) → CleansAt t (Row m (Obj i)) (Variable k) c →
      VariableRight t any gs c todo s k (Row m (Obj i))

abbrev pub ObjectsOpenRight : Table → List Sig → State → Type 0
ObjectsOpenRight t gs s = (c : CleanUp) (rest : Stmts) (todo : List Todo) →
    s.run.control ≡ Rest (Scoped c rest) ∷ todo → ObjectsRight t gs c todo s

module _ (t : Table) (few : Few) (gs : List Sig) (s : State) where
  abbrev pub IsFound : Ty → Value → Type 0
  IsFound a v = IsRightAs t few s.env.exec (Here t few gs s) a (loaded v s.env)

  -- of what is read at a place: in a frame of another execution, or of a mutex object; and in a frame of its own, what is being destroyed; a cluster or
  -- a processor at a variable, or at an element of one; what stands in a field that is to be cleaned up, and in an object that an activation of
  -- this execution is building or destroying, or that lies in what one waits for
  pub record ReadsFound (a : Ty) (v : Value) : Type 0 where
    pub foreign : (IsOwn s.env.exec v → ⊥) → IsFound a v
    pub ending : IsOwn s.env.exec v → (IsReference a → ⊥) → (IsResource a → ⊥) → IsFound a v
    pub loose : IsOwn s.env.exec v → IsResource a → IsLoosePlace s.env.exec v → IsFound a v
    pub field : IsOwn s.env.exec v → (w : Value) (b : Ty) → OwnMarks t s.env.exec (s.run ∷ s.callers) w b →
        Within t w b v (Cell a) → IsFound a v
    pub making : IsOwn s.env.exec v → (w : Value) (c : ℕ) → NotWhole t s.env.exec gs (s.run ∷ s.callers) w (Raw c) →
        Within t w (Obj c) v (Cell a) → IsFound a v

  -- by what is next to do
  abbrev pub ReadsAt : Sig → List Name → List Todo → List Ty → Type 0
  ReadsAt g sc (Eval (OfObject (GetOwn k i)) ∷ todo) own = (a : Ty) → ObjectGives t g sc (GetOwn k i) a →
      ReadsFound a (further (FieldAt k i) s.run.this)
  ReadsAt g sc (LoadNow ∷ todo) (Cell a ∷ more) = ReadsFound a (top s.run.operands)
  ReadsAt g sc todo own = Unit {0}

-- by kinds by which variables in scope hold what is known, what the next step reads is right
abbrev pub Reads : (t : Table) (few : Few) (s : State) → LivesState t few s → Type 0
Reads t few s x = ReadsAt t few x.0.sigs s x.0.run.sig x.0.run.scope s.run.control x.0.run.own

-- so it is by some such kinds, and where a scope opens, what that is of is right too
abbrev pub Found : Table → Few → State → Type 0
Found t few s = LivesState t few s → (x : LivesState t few s) ×
    (Reads t few s x × OpensRightAt t few x.0.sigs s.run.control s)

-- but in the four states from which a clean-up comes to the variable that it ends, and reads it
abbrev pub FoundOutside : Table → (Ty → ℕ → Bool) → ℕ → State → Type 0
FoundOutside t numbers zero s = Found t (numbered numbers) s
FoundOutside t numbers (suc n) s = Unit {0}

-- so it is where numbers are not tested: what is bound is there behind the step that binds it, and of scopes those of plain objects are asked
pub record ObjectsFound (t : Table) (source : Source) (s : State) : Type 0 where
  pub opens : there.Opens source s
  pub reads : LivesState t any s → (x : LivesState t any s) × (Reads t any s x × ObjectsOpenRight t x.0.sigs s)

abbrev pub ObjectsFoundOutside : Table → Source → ℕ → State → Type 0
ObjectsFoundOutside t source zero s = ObjectsFound t source s
ObjectsFoundOutside t source (suc n) s = Unit {0}

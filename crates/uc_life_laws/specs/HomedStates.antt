-- Executions and tasks in which each mutex object that is an own part of a thing in scope is at home there.
use Rattle.std.specs.Prelude.{◌≡◌, ℕ, suc, ◌≤◌, ◌<◌, Bool, true, List, [], ◌∷◌, length, Option, slice_index_or}
use Rattle.uc_tree.specs.Source.{Variable, CleanUp, Scoped}
use Rattle.uc_machine.specs.declared.exec.Exec.{Exec}
use Rattle.uc_machine.specs.declared.exec.Home.{Home}
use Rattle.uc_machine.specs.declared.exec.Owner.{Owner}
use Rattle.uc_machine.specs.declared.exec.Owner.TheVariants.{Frame}
use Rattle.uc_machine.specs.Executions.{Execution}
use Rattle.uc_machine.specs.Pieces.{Link, Slot, FieldAt, At, Value, Place, Object, further, Todo, Rest, Sort, sort, IsClean, Active, State, Env, Members, Step, Goes, Ticks, Asks, address, nought}
use Rattle.uc_typing.specs.Typing.{Ty, Cell, Obj, Row, Table, element_shape, CleansAt}
use Rattle.uc_life_laws.specs.Things.{Few, IsField, IsMutex}
use Rattle.uc_life_laws.specs.LifeStates.{frame_at, MembersBy, EnvBy}

-- which fields of classes hold what is their own: a binding in one that does not is to what stands elsewhere
abbrev pub Owns : Type 0
Owns = ℕ → ℕ → Bool

-- the own parts of a thing of a type at a place: it itself, the own fields of an object, the elements of an array
pub data Inside (t : Table) (owns : Owns) (w : Value) (a : Ty) : Value → Ty → Type 0 where
  all_of_it : Inside t owns w a w a
  own_field : {v : Value} {c : ℕ} → Inside t owns w a v (Obj c) → (i : ℕ) → IsField t c i → owns c i ≡ true →
      Inside t owns w a (further (FieldAt (t.shape c) i) v) (t.fields c i)
  own_element : {v : Value} {m : ℕ} {b : Ty} → Inside t owns w a v (Row m b) → (j : ℕ) → j < m →
      Inside t owns w a (further (At (element_shape t b) j) v) b

module _ (t : Table) (owns : Owns) (few : Few) (n : Exec) where
  -- a value is a mutex object that is at home at this place
  abbrev pub IsAtHome : Value → Value → Type 0
  IsAtHome v place = (o : ℕ) × (v ≡ Object o) × (few.home o ≡ place)

  -- so is each to which an own part of a thing is bound, at a place of an owner with these values
  abbrev pub HoldsHome : Owner → List Value → Value → Ty → Type 0
  HoldsHome o vs w a = (p : List Link) (b : Ty) → Inside t owns w a (Place o p) (Cell b) → IsMutex t b →
      IsAtHome (slice_index_or vs (address p) nought) (Place o p)

  -- in a frame with these values, what a clean-up is for, at a variable, holds such
  abbrev pub CleanHomed : List Value → ℕ → Value → List Active → CleanUp → List Todo → Type 0
  CleanHomed vs f this older c todo = (k : ℕ) (a : Ty) → CleansAt t a (Variable k) c →
      HoldsHome (Frame n f) vs (Place (Frame n f) (Slot k ∷ [])) a

  -- a mark, before what lies outwards of it
  abbrev pub MarkHomed : List Value → ℕ → Value → List Active → Sort → List Todo → Type 0 → Type 0
  MarkHomed vs f this older (IsClean c) todo rest = CleanHomed vs f this older c todo × rest
  MarkHomed vs f this older k todo rest = rest

  abbrev pub AllAtHome : List Value → ℕ → Value → List Active → List Todo → Type 0
  AllAtHome vs f this older [] = Unit {0}
  AllAtHome vs f this older (p ∷ todo) = MarkHomed vs f this older (sort p) todo (AllAtHome vs f this older todo)

  -- activations with these frames: each uses its own frame or that of an older one
  abbrev pub HomedStack : List (List Value) → List Active → Type 0
  HomedStack fs [] = Unit {0}
  HomedStack fs (a ∷ older) = (a.frame ≤ length older) ×
      AllAtHome (frame_at a.frame fs) a.frame a.this older a.control × HomedStack fs older

module _ (t : Table) (owns : Owns) (few : Few) where
  -- an execution of this name that does not run, with a frame for each activation
  pub record HomedEx (n : Exec) (x : Execution (List Todo) Value) : Type 0 where
    pub frames : length x.frames ≡ suc (length x.callers)
    pub stack : HomedStack t owns few n x.frames (x.run ∷ x.callers)

  abbrev pub HomedMembers : Home → Option Members → Type 0
  HomedMembers h m = MembersBy HomedEx h m

  abbrev pub HomedEnv : Env → Type 0
  HomedEnv e = EnvBy HomedEx e

  pub record HomedState (s : State) : Type 0 where
    pub frames : length s.env.frames ≡ suc (length s.callers)
    pub stack : HomedStack t owns few s.env.exec s.env.frames (s.run ∷ s.callers)
    pub env : HomedEnv s.env

  abbrev pub HomedStep : Step → Type 0
  HomedStep (Goes s) = HomedState s
  HomedStep (Ticks s) = HomedState s
  HomedStep (Asks r s) = HomedState s

-- where a scope opens, what that is of holds such
abbrev pub OpensAt : Table → Owns → Few → List Todo → State → Type 0
OpensAt t owns few (Rest (Scoped c rest) ∷ todo) s = CleanHomed t owns few s.env.exec (frame_at s.run.frame s.env.frames) s.run.frame s.run.this s.callers c todo
OpensAt t owns few todo s = Unit {0}

abbrev pub Opens : Table → Owns → Few → State → Type 0
Opens t owns few s = OpensAt t owns few s.run.control s

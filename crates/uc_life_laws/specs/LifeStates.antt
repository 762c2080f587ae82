-- Executions and tasks in which all that stands in variables and is to be cleaned up holds what is known outwards of it: what was there before.
use Rattle.std.specs.Prelude.{◌≡◌, ℕ, suc, ◌≤◌, ◌⊎◌, List, [], ◌∷◌, length, Option, Some, None}
use Rattle.uc_tree.specs.Source.{Variable, CleanUp, Scoped}
use Rattle.uc_machine.specs.declared.exec.Exec.{Exec}
use Rattle.uc_machine.specs.declared.exec.Home.{Home}
use Rattle.uc_machine.specs.declared.exec.Home.TheVariants.{Task, Object}
use Rattle.uc_machine.specs.declared.exec.Owner.TheVariants.{Frame}
use Rattle.uc_machine.specs.Executions.{Execution, at_depth, list_in}
use Rattle.uc_machine.specs.Pieces.{Slot, Value, Place, Todo, Rest, ClearNow, Sort, sort, IsClean, Active, State, Env, Members, Step, Goes, Ticks, Asks}
use Rattle.uc_typing.specs.Typing.{Ty, Table, CleansAt}
use Rattle.uc_life_laws.specs.Things.{Few, AtField, IsFor, InTodo, Outer, Holds, LiesBefore}

-- the values of the frame of a depth
abbrev pub frame_at : ℕ → List (List Value) → List Value
frame_at d fs = list_in (at_depth fs d)

-- what holds of each execution that does not run, by its name
module _ (P : Exec → Execution (List Todo) Value → Type 0) where
  abbrev pub SlotBy : Exec → Option (Execution (List Todo) Value) → Type 0
  SlotBy n None = Unit {0}
  SlotBy n (Some x) = P n x

  abbrev pub ParkedBy : Home → List (ℕ × Option (Execution (List Todo) Value)) → Type 0
  ParkedBy h [] = Unit {0}
  ParkedBy h (p ∷ ps) = SlotBy (record { home = h; serial = p.0 }) p.1 × ParkedBy h ps

  abbrev pub HandBy : List (ℕ × Members) → Type 0
  HandBy [] = Unit {0}
  HandBy (p ∷ ps) = ParkedBy (Object p.0) p.1.parked × HandBy ps

  abbrev pub MembersBy : Home → Option Members → Type 0
  MembersBy h None = Unit {0}
  MembersBy h (Some m) = ParkedBy h m.parked

  -- a task, but for its running execution
  pub record EnvBy (e : Env) : Type 0 where
    pub house : ParkedBy (Task e.own) e.house.parked
    pub hand : HandBy e.hand

-- what holds of the state behind a step
abbrev pub StepIs : (State → Type 0) → Step → Type 0
StepIs P (Goes s) = P s
StepIs P (Ticks s) = P s
StepIs P (Asks r s) = P s

-- behind a mark, in an activation with this frame and this object before older ones, of an execution of this name: what the mark is for, and what lies
-- outwards of it, with what older activations wait for
abbrev pub Outwards : Table → Few → Exec → ℕ → Value → List Active → CleanUp → List Todo → Value → Ty → Type 0
Outwards t few n f this older c todo w a = (IsFor t (Frame n f) this c w a ⊎ InTodo (IsFor t (Frame n f) this) (AtField t (Frame n f) this) todo w a) ⊎
    Outer t few n older w a

-- what is known there, told by that and by the activation: that alone, or more
abbrev pub BehindMark : Type 1
BehindMark = (Value → Ty → Type 0) → Exec → ℕ → Value → List Active → Value → Ty → Type 0

abbrev pub OutwardsOnly : BehindMark
OutwardsOnly R n f this older w a = R w a

-- `K`: what is known behind marks
module _ (t : Table) (few : Few) (K : BehindMark) (n : Exec) where
  -- in a frame with these values, what a clean-up is for, at a variable, holds what is known so
  abbrev pub CleanHoldsBy : List Value → ℕ → Value → List Active → CleanUp → List Todo → Type 0
  CleanHoldsBy vs f this older c todo = (k : ℕ) (a : Ty) → CleansAt t a (Variable k) c →
      Holds t few n (K (Outwards t few n f this older c todo) n f this older) (Frame n f) vs (Place (Frame n f) (Slot k ∷ [])) a

  -- a mark, before what lies outwards of it
  abbrev pub MarkHoldsBy : List Value → ℕ → Value → List Active → Sort → List Todo → Type 0 → Type 0
  MarkHoldsBy vs f this older (IsClean c) todo rest = CleanHoldsBy vs f this older c todo × rest
  MarkHoldsBy vs f this older k todo rest = rest

  abbrev pub AllHoldBy : List Value → ℕ → Value → List Active → List Todo → Type 0
  AllHoldBy vs f this older [] = Unit {0}
  AllHoldBy vs f this older (p ∷ todo) = MarkHoldsBy vs f this older (sort p) todo (AllHoldBy vs f this older todo)

  -- activations with these frames: each uses its own frame or that of an older one
  abbrev pub LifeStackBy : List (List Value) → List Active → Type 0
  LifeStackBy fs [] = Unit {0}
  LifeStackBy fs (a ∷ older) = (a.frame ≤ length older) ×
      AllHoldBy (frame_at a.frame fs) a.frame a.this older a.control × LifeStackBy fs older

module _ (t : Table) (few : Few) (K : BehindMark) where
  -- an execution of this name that does not run, with a frame for each activation
  pub record LifeExBy (n : Exec) (x : Execution (List Todo) Value) : Type 0 where
    pub frames : length x.frames ≡ suc (length x.callers)
    pub stack : LifeStackBy t few K n x.frames (x.run ∷ x.callers)

  -- a state of whose executions that do not run this holds
  module _ (P : Exec → Execution (List Todo) Value → Type 0) where
    pub record LifeStateBy (s : State) : Type 0 where
      pub frames : length s.env.frames ≡ suc (length s.callers)
      pub stack : LifeStackBy t few K s.env.exec s.env.frames (s.run ∷ s.callers)
      pub env : EnvBy P s.env

    abbrev pub LifeStepBy : Step → Type 0
    LifeStepBy = StepIs LifeStateBy

module _ (t : Table) (few : Few) where
  abbrev pub CleanHolds : Exec → List Value → ℕ → Value → List Active → CleanUp → List Todo → Type 0
  CleanHolds n = CleanHoldsBy t few OutwardsOnly n

  abbrev pub MarkHolds : Exec → List Value → ℕ → Value → List Active → Sort → List Todo → Type 0 → Type 0
  MarkHolds n = MarkHoldsBy t few OutwardsOnly n

  abbrev pub AllHold : Exec → List Value → ℕ → Value → List Active → List Todo → Type 0
  AllHold n = AllHoldBy t few OutwardsOnly n

  abbrev pub LifeStack : Exec → List (List Value) → List Active → Type 0
  LifeStack n = LifeStackBy t few OutwardsOnly n

  abbrev pub LifeEx : Exec → Execution (List Todo) Value → Type 0
  LifeEx = LifeExBy t few OutwardsOnly

  abbrev pub LifeMembers : Home → Option Members → Type 0
  LifeMembers h m = MembersBy LifeEx h m

  abbrev pub LifeEnv : Env → Type 0
  LifeEnv e = EnvBy LifeEx e

  abbrev pub LifeState : State → Type 0
  LifeState = LifeStateBy t few OutwardsOnly LifeEx

  abbrev pub LifeStep : Step → Type 0
  LifeStep = LifeStepBy t few OutwardsOnly LifeEx

-- what a step is to find

-- all that a to-do list cleans up and that stands in variables of this frame lies before a cell
abbrev pub MarkBefore : Table → Exec → ℕ → ℕ → Sort → Type 0 → Type 0
MarkBefore t n cell f (IsClean c) rest =
    ((k : ℕ) (a : Ty) → CleansAt t a (Variable k) c → LiesBefore t cell (Frame n f) (Place (Frame n f) (Slot k ∷ [])) a) ×
    rest
MarkBefore t n cell f k rest = rest

abbrev pub AllBefore : Table → Exec → ℕ → ℕ → List Todo → Type 0
AllBefore t n cell f [] = Unit {0}
AllBefore t n cell f (p ∷ todo) = MarkBefore t n cell f (sort p) (AllBefore t n cell f todo)

abbrev pub FrameBefore : Table → Exec → ℕ → ℕ → List Active → Type 0
FrameBefore t n cell f [] = Unit {0}
FrameBefore t n cell f (a ∷ older) = (a.frame ≡ f → AllBefore t n cell f a.control) ×
    FrameBefore t n cell f older

-- where a scope opens, what it is of holds what is known so
abbrev pub OpensAtBy : Table → Few → BehindMark → List Todo → State → Type 0
OpensAtBy t few K (Rest (Scoped c rest) ∷ todo) s = CleanHoldsBy t few K s.env.exec (frame_at s.run.frame s.env.frames) s.run.frame s.run.this s.callers c todo
OpensAtBy t few K todo s = Unit {0}

abbrev pub OpensBy : Table → Few → BehindMark → State → Type 0
OpensBy t few K s = OpensAtBy t few K s.run.control s

abbrev pub OpensAt : Table → Few → List Todo → State → Type 0
OpensAt t few todo s = OpensAtBy t few OutwardsOnly todo s

-- cells that start anew lie behind all that is in scope in their frame
abbrev pub ClearsAt : Table → List Todo → State → Type 0
ClearsAt t (ClearNow k n ∷ todo) s = FrameBefore t s.env.exec k s.run.frame (s.run ∷ s.callers)
ClearsAt t todo s = Unit {0}

abbrev pub Opens : Table → Few → State → Type 0
Opens t few s = OpensAt t few s.run.control s

abbrev pub Clears : Table → State → Type 0
Clears t s = ClearsAt t s.run.control s

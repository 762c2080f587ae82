-- Executions that have not begun are as they were made, and those that have ended have no marks.
use Rattle.std.specs.Prelude.{◌≡◌, ℕ, List, [], ◌∷◌, Option, Some, None, drop, slice_get}
use Rattle.uc_tree.specs.Source.{Source, Routine}
use Rattle.uc_entry.specs.declared.request.Request.TheVariants as ask
use Rattle.uc_machine.specs.declared.exec.Exec.{Exec}
use Rattle.uc_machine.specs.declared.exec.Home.TheVariants as home
use Rattle.uc_machine.specs.declared.exec.Owner.TheVariants.{Frame}
use Rattle.uc_machine.specs.declared.exec.Stage.{Stage}
use Rattle.uc_machine.specs.declared.exec.Stage.TheVariants.{Fresh, Started, Ended}
use Rattle.uc_machine.specs.Executions.{Execution, parked_at}
use Rattle.uc_machine.specs.Switches.{born}
use Rattle.uc_machine.specs.Pieces.{Value, Place, Object, Todo, SetUpNow, BindNow, BindMadeNow, TakeDownNow, Unwind, FinishCoroutine, Sort, sort, IsFinishCoroutine, State, Env, Step, Goes, Ticks, Asks, top, below}
use Rattle.uc_machine.specs.Quiet.{quiet, fresh, home_at}
use Rattle.uc_life_laws.specs.LifeStates.{EnvBy}
use Rattle.uc_life_laws.specs.Fewer.{FramesNumbers}
use Rattle.uc_life_laws.specs.Placed.{placed, stacked}

-- it has begun; it may have ended
abbrev pub HasBegun : Stage → Type 0
HasBegun Fresh = ⊥
HasBegun Started = Unit {0}
HasBegun Ended = Unit {0}

-- it has begun and not ended
abbrev pub IsStarted : Stage → Type 0
IsStarted Fresh = ⊥
IsStarted Started = Unit {0}
IsStarted Ended = ⊥

-- an execution that has not begun: nobody waits in it, it has no operands and no marks, its frames hold numbers alone, and if its object is a mutex
-- object, it is at home there
pub record IsFresh (n : Exec) (x : Execution (List Todo) Value) : Type 0 where
  pub callers : x.callers ≡ []
  pub operands : x.run.operands ≡ []
  pub marks : placed x.run.frame x.run.this x.run.control [] ≡ []
  pub frames : FramesNumbers x.frames
  pub this : (o : ℕ) → x.run.this ≡ Object o → n.home ≡ home.Object o

abbrev pub FreshBy : Stage → Exec → Execution (List Todo) Value → Type 0
FreshBy Fresh n x = IsFresh n x
FreshBy Started n x = Unit {0}
FreshBy Ended n x = stacked (x.run ∷ x.callers) ≡ []

-- an execution that does not run is so, if it has not begun; if it has ended, it has no marks
abbrev pub FreshEx : Exec → Execution (List Todo) Value → Type 0
FreshEx n x = FreshBy x.links.stage n x

-- all of a task and its hand; and the running one has begun and not ended
pub record FreshEnv (e : Env) : Type 0 where
  pub running : IsStarted e.links.stage
  pub slots : EnvBy FreshEx e

abbrev pub FreshStep : Step → Type 0
FreshStep (Goes s) = FreshEnv s.env
FreshStep (Ticks s) = FreshEnv s.env
FreshStep (Asks r s) = FreshEnv s.env

-- a place is in no frame of an execution in hand that has not begun
abbrev pub SlotBegun : Option (Execution (List Todo) Value) → Type 0
SlotBegun None = Unit {0}
SlotBegun (Some x) = HasBegun x.links.stage

abbrev pub IsBegun : Value → Env → Type 0
IsBegun (Place (Frame n d) p) e = SlotBegun (parked_at n e)
IsBegun v e = Unit {0}

-- so is each that is bound: by a binding, to a new mutex object, and to a new execution
abbrev pub BindsBegunBy : Source → List Todo → State → Type 0
BindsBegunBy source (BindNow ∷ todo) s = IsBegun (top (below s.run.operands)) s.env
BindsBegunBy source (BindMadeNow c r ∷ todo) s = (x : Routine) → slice_get source.routines r ≡ Some x →
    IsBegun (top (drop x.params (below s.run.operands))) s.env
BindsBegunBy source (SetUpNow r ∷ todo) s = (x : Routine) → slice_get source.routines r ≡ Some x →
    IsBegun s.run.this (born (home_at s.run.this s.env) (fresh x s.run.this) s.env)
BindsBegunBy source todo s = Unit {0}

abbrev pub BindsBegun : Source → State → Type 0
BindsBegun source s = BindsBegunBy source s.run.control s

-- no marks are left in the running execution behind what is to be done next
abbrev pub NoneBehind : List Todo → State → Type 0
NoneBehind todo s = placed s.run.frame s.run.this todo (stacked s.callers) ≡ []

abbrev pub LeavesNone : Sort → List Todo → State → Type 0
LeavesNone IsFinishCoroutine todo s = NoneBehind todo s
LeavesNone k todo s = Unit {0}

-- where the main of a coroutine ends, or is left by an unwinding, no marks are left
abbrev pub MainsBareBy : List Todo → State → Type 0
MainsBareBy (FinishCoroutine ∷ todo) s = NoneBehind todo s
MainsBareBy (Unwind ∷ (p ∷ todo)) s = LeavesNone (sort p) todo s
MainsBareBy todo s = Unit {0}

-- where an execution is taken down, none that does not run has the name of the running one
abbrev pub TakesOthersBy : List Todo → State → Type 0
TakesOthersBy (TakeDownNow ∷ todo) s = EnvBy (λ n x. n ≡ s.env.exec → ⊥) s.env
TakesOthersBy todo s = Unit {0}

-- where a task asks that it end, no marks are left
abbrev pub AsksBare : Source → State → Type 0
AsksBare source s = (u : State) → quiet source s ≡ Asks ask.End u → stacked (u.run ∷ u.callers) ≡ []

-- so it is
pub record EndsBare (source : Source) (s : State) : Type 0 where
  pub mains : MainsBareBy s.run.control s
  pub takes : TakesOthersBy s.run.control s
  pub asks : AsksBare source s

-- what each step is to keep to
pub record KeepsFresh (source : Source) (s : State) : Type 0 where
  pub binds : BindsBegun source s
  pub ends : EndsBare source s

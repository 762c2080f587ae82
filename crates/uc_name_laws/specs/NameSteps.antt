-- What the steps of a task keep of names of executions: a new name is none that is there.
use Rattle.std.specs.Prelude.{◌≡◌, ℕ, ◌≤◌, ◌⊎◌, List, ◌∷◌, Some, None, Bool, true, false, slice_get}
use Rattle.uc_tree.specs.Source.{Source, Routine}
use Rattle.uc_entry.specs.declared.request.Answer.{Answer}
use Rattle.uc_entry.specs.declared.request.Answer.TheVariants as answer
use Rattle.uc_entry.specs.declared.request.Request.{Request}
use Rattle.uc_entry.specs.declared.request.Request.TheVariants as ask
use Rattle.uc_machine.specs.declared.exec.Exec.{Exec}
use Rattle.uc_machine.specs.declared.exec.Home.{Home}
use Rattle.uc_machine.specs.declared.exec.Home.TheVariants.{Task, Object}
use Rattle.uc_machine.specs.Executions.{home_eq, members_at}
use Rattle.uc_machine.specs.Switches.{new_exec}
use Rattle.uc_machine.specs.Pieces.{Todo, SetUpNow, ForgetNow, State, Env, Members, Step, Goes, Ticks, Asks, own_exec}
use Rattle.uc_machine.specs.Quiet.{quiet, first_state, home_at}
use Rattle.uc_machine.specs.Answering.{answered, new_members}
use Rattle.uc_name_laws.specs.Below.{IsBelow, StateNamed, RunsAlone, slot_at}

-- a task: its names, and who runs
pub record Named (here : Home → Bool) (sure : Bool) (serials : Home → ℕ) (s : State) : Type 0 where
  pub names : StateNamed serials here s
  pub runs : RunsAlone sure s.env.exec s.env

-- what asks to let others into an object is not at home there
abbrev pub Outside : Request → Env → Type 0
Outside (ask.Made o) e = home_eq e.exec.home (Object o) ≡ false
Outside (ask.Spawn o) e = home_eq e.exec.home (Object o) ≡ false
Outside (ask.Leave o failed) e = home_eq e.exec.home (Object o) ≡ false
Outside (ask.Accept o site mask) e = home_eq e.exec.home (Object o) ≡ false
Outside (ask.Wait o c n) e = home_eq e.exec.home (Object o) ≡ false
Outside (ask.SignalBlock o c) e = home_eq e.exec.home (Object o) ≡ false
Outside r e = Unit {0}

abbrev pub StepNamed : (Home → Bool) → Bool → (Home → ℕ) → Step → Type 0
StepNamed here sure serials (Goes s) = Named here sure serials s
StepNamed here sure serials (Ticks s) = Named here sure serials s
StepNamed here sure serials (Asks r s) = Named here sure serials s × Outside r s.env

-- as many executions as before were made at each home, or more, but no more at homes that are not here
pub record Grows (here : Home → Bool) (before behind : Home → ℕ) : Type 0 where
  pub more : (h : Home) → before h ≤ behind h
  pub same : (h : Home) → here h ≡ false → behind h ≡ before h

-- an execution of this name is made next, at a home in hand
pub record IsBorn (source : Source) (s : State) (n : Exec) : Type 0 where
  pub main : ℕ
  pub todo : List Todo
  pub next : s.run.control ≡ SetUpNow main ∷ todo
  pub routine : Routine
  pub known : slice_get source.routines main ≡ Some routine
  pub members : Members
  pub in_hand : members_at n.home s.env ≡ Some members
  pub named : n ≡ new_exec (home_at s.run.this s.env) s.env

-- each that is made next is one of so many at its home
abbrev pub BornBelow : Source → (Home → ℕ) → State → Type 0
BornBelow source serials s = (n : Exec) → IsBorn source s n → IsBelow serials n

-- behind a step: among those that were made by now is the one that it makes
pub record NamedBehind (source : Source) (here : Home → Bool) (sure : Bool) (before : Home → ℕ) (s : State) : Type 0 where
  pub serials : Home → ℕ
  pub grows : Grows here before serials
  pub named : StepNamed here sure serials (quiet source s)
  pub born : BornBelow source serials s
  -- each of those was made before, or is made by it
  pub only : (n : Exec) → IsBelow serials n → IsBelow before n ⊎ IsBorn source s n

-- the execution that runs is not forgotten
abbrev pub SparesAt : List Todo → State → Type 0
SparesAt (ForgetNow ∷ todo) s = own_exec s ≡ Some s.env.exec → ⊥
SparesAt todo s = Unit {0}

abbrev pub Spares : State → Type 0
Spares s = SparesAt s.run.control s

-- no quiet step of a task whose names are of executions that were made brings another
pub record LawSteps : Type 0 where
  pub steps : (source : Source) (here : Home → Bool) (sure : Bool) (serials : Home → ℕ)
      (s : State) → Named here sure serials s → (sure ≡ true → Spares s) →
      NamedBehind source here sure serials s

-- the name of a new execution at a home that is here is none that is there
pub record LawNew : Type 0 where
  pub unnamed : (here : Home → Bool) (sure : Bool) (serials : Home → ℕ) (s : State) →
      Named here sure serials s → (h : Home) (m : Members) → members_at h s.env ≡ Some m →
      IsBelow serials (new_exec h s.env) → ⊥
  pub absent : (here : Home → Bool) (sure : Bool) (serials : Home → ℕ) (s : State) →
      Named here sure serials s → (h : Home) → slot_at (new_exec h s.env) s.env ≡ None

-- where an answer brings a mutex object, that comes to a home that is here and has made no execution
abbrev pub Brings : Source → (Home → Bool) → (Home → ℕ) → State → Answer → Type 0
Brings source here serials s (answer.Object o) =
    (new_members source s.run.control ≡ None) ⊎ ((serials (Object o) ≡ 0) × (here (Object o) ≡ true))
Brings source here serials s a = Unit {0}

-- no answer brings a name, and a task begins with that of its own execution alone
pub record LawTold : Type 0 where
  pub told : (source : Source) (here : Home → Bool) (sure : Bool) (serials : Home → ℕ)
      (given : Answer) (s : State) → Named here sure serials s →
      Brings source here serials s given → Named here sure serials (answered source given s)
  pub begins : (here : Home → Bool) (serials : Home → ℕ) (r : Routine) (o : ℕ) →
      serials (Task o) ≡ 1 → here (Task o) ≡ true → Named here true serials (first_state r o)

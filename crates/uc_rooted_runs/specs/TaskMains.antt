-- Executions of which the mains of tasks alone come to the end of a task: no other one has that to do.
use Rattle.std.specs.Prelude.{◌≡◌, ℕ, zero, suc, Bool, true, false, List, [], ◌∷◌, Option, Some, slice_get}
use Rattle.uc_tree.specs.Source.{Purpose, TaskMain, CoroutineMain, Procedure, Function, Builder, Routine, Source, routine_of}
use Rattle.uc_entry.specs.declared.entry.Options.{Options}
use Rattle.uc_entry.specs.declared.request.Answer.{Answer}
use Rattle.uc_acts.specs.Journal.{Journal}
use Rattle.uc_machine.specs.declared.exec.Exec.{Exec}
use Rattle.uc_machine.specs.declared.exec.Home.{Home}
use Rattle.uc_machine.specs.declared.exec.Home.TheVariants.{Task, Object}
use Rattle.uc_machine.specs.Executions.{Execution}
use Rattle.uc_machine.specs.Pieces.{Value, Todo, CallNow, CallOnNow, CallUnwrittenNow, SetUpNow, Sort, sort, IsFinish, Active, State, Members, Step, Goes, Ticks, Asks}
use Rattle.uc_machine.specs.Quiet.{first_state, quiet}
use Rattle.uc_machine.specs.Answering.{answered}
use Rattle.uc_meaning.specs.Runs.{World, Runs}
use Rattle.uc_state_laws.specs.Opens.{RunMeets}
use Rattle.uc_life_laws.specs.LifeStates.{MembersBy, EnvBy}

-- an execution by its name: the one with which a task begins
abbrev pub is_first : Home → ℕ → Bool
is_first (Task o) zero = true
is_first (Task o) (suc k) = false
is_first (Object q) k = false

abbrev pub is_task_main : Exec → Bool
is_task_main n = is_first n.home n.serial

-- the end of a task stands in what such a main has to do
abbrev pub AtEnd : Bool → Sort → Type 0 → Type 0
AtEnd main IsFinish rest = (main ≡ true) × rest
AtEnd main k rest = rest

abbrev pub EndsIn : Bool → List Todo → Type 0
EndsIn main [] = Unit {0}
EndsIn main (p ∷ todo) = AtEnd main (sort p) (EndsIn main todo)

abbrev pub EndsStack : Bool → List Active → Type 0
EndsStack main [] = Unit {0}
EndsStack main (a ∷ older) = EndsIn main a.control × EndsStack main older

-- of an execution that does not run
abbrev pub EndsEx : Exec → Execution (List Todo) Value → Type 0
EndsEx n x = EndsStack (is_task_main n) (x.run ∷ x.callers)

abbrev pub EndsMembers : Home → Option Members → Type 0
EndsMembers h m = MembersBy EndsEx h m

pub record EndsState (s : State) : Type 0 where
  pub stack : EndsStack (is_task_main s.env.exec) (s.run ∷ s.callers)
  pub env : EnvBy EndsEx s.env

abbrev pub EndsStep : Step → Type 0
EndsStep (Goes s) = EndsState s
EndsStep (Ticks s) = EndsState s
EndsStep (Asks r s) = EndsState s

-- what is called, and what coroutines begin with, is the main of no task
abbrev pub IsNoTaskMain : Purpose → Type 0
IsNoTaskMain TaskMain = ⊥
IsNoTaskMain CoroutineMain = Unit {0}
IsNoTaskMain Procedure = Unit {0}
IsNoTaskMain Function = Unit {0}
IsNoTaskMain Builder = Unit {0}

abbrev pub AreNoTaskMains : Option Routine → Type 0
AreNoTaskMains r = (x : Routine) → r ≡ Some x → IsNoTaskMain x.purpose

abbrev pub BeginsNoneBy : Source → List Todo → Type 0
BeginsNoneBy source (CallNow r ∷ todo) = AreNoTaskMains (slice_get source.routines r)
BeginsNoneBy source (CallOnNow r ∷ todo) = AreNoTaskMains (slice_get source.routines r)
BeginsNoneBy source (CallUnwrittenNow r ∷ todo) = AreNoTaskMains (slice_get source.routines r)
BeginsNoneBy source (SetUpNow r ∷ todo) = AreNoTaskMains (slice_get source.routines r)
BeginsNoneBy source todo = Unit {0}

abbrev pub BeginsNone : Source → State → Type 0
BeginsNone source s = BeginsNoneBy source s.run.control

-- a task begins so, each quiet step keeps it where the main of no task is called, or set up for a coroutine, and so does each answer; so it is in each
-- state of a run of whatever source in which none is
pub record LawTaskMains : Type 0 where
  pub begins : (source : Source) (r o : ℕ) → EndsState (first_state (routine_of source r) o)
  pub steps : (source : Source) (s : State) → EndsState s → BeginsNone source s → EndsStep (quiet source s)
  pub told : (source : Source) (given : Answer) (s : State) → EndsState s → EndsState (answered source given s)
  pub runs : (source : Source) (input : List ℕ) (opts : Options) (j : Journal) (w : World)
      (r : Runs source input opts j w) → RunMeets (BeginsNone source) source input opts j w r →
      RunMeets EndsState source input opts j w r

-- What stands between acts: what is at rest stands for the world, and so does what each running task was handed.
use Rattle.std.specs.Prelude.{◌≡◌, ℕ, ◌==◌, ◌⊎◌, Bool, true, false, List, [], ◌∷◌, Option, Some, None}
use Rattle.uc_tree.specs.Source.{Source, Routine}
use Rattle.std.specs.Prelude.{slice_get}
use Rattle.uc_entry.specs.declared.request.Request.{Request}
use Rattle.uc_entry.specs.declared.request.Request.TheVariants as ask
use Rattle.uc_acts.specs.Journal.{Journal, held}
use Rattle.uc_acts.specs.Queues.{running}
use Rattle.uc_acts.specs.Known.{has, has_ended}
use Rattle.uc_acts.specs.Answers.{answer_to}
use Rattle.uc_acts.specs.Serves.{left}
use Rattle.uc_machine.specs.Quiet.{State, Members as Home}
use Rattle.uc_code.specs.Codes.{Code}
use Rattle.uc_code.specs.Layout.{laid_of}
use Rattle.uc_code.specs.Lowered.{Lowered}
use Rattle.uc_frames.specs.Machine.{Machine, Members, cell_of, with_hand}
use Rattle.uc_frames.specs.PaceInvariant.{IdlesAt}
use Rattle.uc_frames.specs.Stands.{Rests, RunStands, CallerStands}
use Rattle.uc_frames.specs.StandsByParts.{Alike, MembersStand}
use Rattle.uc_step.specs.WeightFalls.{Keeps}
use Rattle.uc_meaning.specs.Runs.{World, Runs, bare, drawn}
use Rattle.uc_state_laws.specs.Fitting.{RunFits}
use Rattle.uc_site_laws.specs.Named.{NamedSource}
use Rattle.uc_state_laws.specs.Counted.{CountedSource}
use Rattle.uc_kernel.specs.KernelState.{Kept}
use Rattle.uc_vproc.specs.Makers.{Log, Handed, handed_out}

-- this code is that of this source, whose main is the routine of this number
pub record IsSource (code : Code) (main : ℕ) (source : Source) : Type 0 where
  pub lowered : Lowered source code
  pub main_is : source.main ≡ main
  pub routine : Routine
  pub there : slice_get source.routines source.main ≡ Some routine

-- there is such a source, of which all names are known, and in which arguments are counted
pub record HasSource (code : Code) (main : ℕ) : Type 0 where
  pub source : Source
  pub is : IsSource code main source
  pub names : NamedSource source.sites source
  pub counted : CountedSource source

-- whether the task does not go on behind a request: its value is given up
abbrev pub stops : Request → Bool
stops ask.End = true
stops (ask.Fault n) = true
stops r = false

abbrev pub faults : Request → Bool
faults (ask.Fault n) = true
faults r = false

-- a task that is at rest without a value has ended
abbrev pub AreEnded : Kept (Option Machine) Members → Type 0
AreEnded k = (u : ℕ) → k.values u ≡ Some None → has_ended u k.journal ≡ true

-- object o is in the hand of a task that runs
pub record Out (j : Journal) (o : ℕ) : Type 0 where
  pub proc : ℕ
  pub task : ℕ
  pub runs : running proc j ≡ task ∷ []
  pub holds : has (held task j) o ≡ true

-- the same, of another processor than p
pub record OutElse (p : ℕ) (j : Journal) (o : ℕ) : Type 0 where
  pub out : Out j o
  pub other : (out.proc == p) ≡ false

-- what task t, which runs on p, was handed, is of what the journal tells
pub record WasHanded (k : Kept (Option Machine) Members) (log : Log) (p t : ℕ) : Type 0 where
  pub handed : Handed
  pub is : handed_out p log ≡ Some handed
  pub answer : answer_to k.sites t k.journal ≡ Some handed.answer
  pub left_is : handed.left ≡ left k.opts k.journal t

module _ (code : Code) where
  -- the members of an object stand for those at home in it
  abbrev pub IsHome : Members → Home → Type 0
  IsHome = MembersStand (RunStands (laid_of code)) (CallerStands (laid_of code)) cell_of

  -- a task value between two rides, whatever its hand
  abbrev pub IsTask : Machine → State → Type 0
  IsTask v s = Rests (laid_of code) (with_hand [] v) (bare s)

  -- a task with its hand, between two rides
  abbrev pub IsWork : Machine → List (ℕ × Members) → State → Type 0
  IsWork v ms s = Rests (laid_of code) (with_hand ms v) s

  -- of a task that has ended there is no value
  abbrev pub TasksStand : (ℕ → Option (Option Machine)) → World → Type 0
  TasksStand values w = (u : ℕ) (v : Machine) → values u ≡ Some (Some v) → IsTask v (w.tasks u)

  -- at rest, or in some hand
  abbrev pub HomesStand : (ℕ → Type 0) → (ℕ → Option Members) → World → Type 0
  HomesStand out members w = (o : ℕ) → Alike IsHome (members o) (w.homes o) ⊎ (out o × (members o ≡ None))

  -- what each running task was handed, stands for its part of the world
  abbrev pub HandsStand : Journal → Log → World → Type 0
  HandsStand j log w =
      (p t : ℕ) (h : Handed) → running p j ≡ t ∷ [] → handed_out p log ≡ Some h → IsWork h.task h.members.items (drawn j w t)

  -- the kernel between acts, for one source: all that was asked so far fits
  pub record AtRest (source : Source) (k : Kept (Option Machine) Members) (log : Log) : Type 0 where
    pub world : World
    pub runs : Runs source k.input k.opts k.journal world
    pub fitting : RunFits source k.input k.opts k.journal world runs
    pub values : TasksStand k.values world
    pub members : HomesStand (Out k.journal) k.members world
    pub hands : HandsStand k.journal log world

  -- what is at rest may be ridden on
  pub record RestKept (k : Kept (Option Machine) Members) : Type 0 where
    pub values : (u : ℕ) (v : Machine) → k.values u ≡ Some (Some v) → Keeps code (with_hand [] v)
    pub members : (o : ℕ) (m : Members) → k.members o ≡ Some m → IdlesAt (laid_of code) code.routines m

  -- while the run goes on, and was not abandoned
  pub record Steady (main : ℕ) (k : Kept (Option Machine) Members) (log : Log) : Type 0 where
    pub kept : RestKept k
    pub ended : AreEnded k
    pub out : (p t : ℕ) → running p k.journal ≡ t ∷ [] → WasHanded k log p t
    pub stands : (source : Source) → IsSource code main source → AtRest source k log

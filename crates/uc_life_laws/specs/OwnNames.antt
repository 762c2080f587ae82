-- Runs of programs in which who runs has a name of its own: no other execution has it, in the task or elsewhere.
use Rattle.std.specs.Prelude.{◌≡◌, ℕ, ◌<◌, ◌≤◌, ◌==◌, Bool, true, false, List}
use Rattle.uc_tree.specs.Source.{Source, routine_of}
use Rattle.uc_entry.specs.declared.entry.Entry.{Entry}
use Rattle.uc_entry.specs.declared.entry.Options.{Options}
use Rattle.uc_acts.specs.Journal.{Journal, held, is_over}
use Rattle.uc_acts.specs.Known.{has, task_count}
use Rattle.uc_acts.specs.KernelRuns.{InRange}
use Rattle.uc_acts.specs.Serves.{left}
use Rattle.uc_machine.specs.declared.exec.Home.{Home}
use Rattle.uc_machine.specs.declared.exec.Home.TheVariants.{Object}
use Rattle.uc_machine.specs.Pieces.{State, Env, Step, Goes, Ticks, Asks}
use Rattle.uc_machine.specs.Quiet.{quiet, first_state}
use Rattle.uc_machine.specs.Answering.{answered}
use Rattle.uc_meaning.specs.Runs.{World, May, Runs, drawn, gives, no_room, acts, begun, more}
use Rattle.uc_state_laws.specs.Fitting.{RunFits}
use Rattle.uc_state_laws.specs.RoomRuns.{Comes}
use Rattle.uc_state_laws.specs.Opens.{RideMeets, RunMeets, LeadsMeet}
use Rattle.uc_name_laws.specs.NameSteps.{Spares}
use Rattle.uc_life_laws.specs.NamedRuns.{is_here}
use Rattle.uc_life_laws.specs.RunningRuns.{RunLeaves}
use Rattle.uc_life_laws.specs.LifeStates.{EnvBy, MembersBy}

-- of the homes at which a task in a world has something at hand: its own, and those of the objects that it holds
abbrev pub at_hand : Journal → World → ℕ → Home → Bool
at_hand j w t h = is_here (w.tasks t).env.own (held t j) h

-- no execution that does not run has the name of the running one
abbrev pub IsAlone : Env → Type 0
IsAlone e = EnvBy (λ n x. n ≡ e.exec → ⊥) e

-- what runs in a task has a name of its own in a world: nothing else has it, of the tasks that were spawned and of what does not run
pub record HasOwnName (j : Journal) (w : World) (t : ℕ) : Type 0 where
  pub running : (v : ℕ) → v < task_count j → (w.tasks v).env.exec ≡ (w.tasks t).env.exec → v ≡ t
  pub tasks : (v : ℕ) → EnvBy (λ n x. n ≡ (w.tasks t).env.exec → ⊥) (w.tasks v).env
  pub homes : (o : ℕ) → MembersBy (λ n x. n ≡ (w.tasks t).env.exec → ⊥) (Object o) (w.homes o)

-- what other tasks and the objects that a task does not hold have is not at home where the task has something at hand
pub record IsElsewhere (j : Journal) (w : World) (t : ℕ) : Type 0 where
  pub running : (v : ℕ) → v < task_count j → (v == t) ≡ false → at_hand j w t (w.tasks v).env.exec.home ≡ false
  pub tasks : (v : ℕ) → (v == t) ≡ false → EnvBy (λ n x. at_hand j w t n.home ≡ false) (w.tasks v).env
  pub homes : (o : ℕ) → has (held t j) o ≡ false → MembersBy (λ n x. at_hand j w t n.home ≡ false) (Object o) (w.homes o)

-- in a state to which a task comes, what runs is at home where the task has something at hand, and nothing else in hand has its name
pub record IsOwn (j : Journal) (w : World) (t : ℕ) (s : State) : Type 0 where
  pub at_home : at_hand j w t s.env.exec.home ≡ true
  pub alone : IsAlone s.env

abbrev pub StepOwn : Journal → World → ℕ → Step → Type 0
StepOwn j w t (Goes s) = IsOwn j w t s
StepOwn j w t (Ticks s) = IsOwn j w t s
StepOwn j w t (Asks r s) = IsOwn j w t s

-- so it is in a state and behind the next step
pub record StaysOwn (source : Source) (j : Journal) (w : World) (t : ℕ) (s : State) : Type 0 where
  pub now : IsOwn j w t s
  pub next : StepOwn j w t (quiet source s)

module _ (source : Source) where
  -- in all states of the ride of an act
  abbrev pub MayOwn : (opts : Options) (input : List ℕ) (j : Journal) (w : World) (a : List Entry) (x : World) →
      May source opts input j w a x → Type 0
  MayOwn opts input j w _ _ (gives p t s h) = Unit {0}
  MayOwn opts input j w _ _ (no_room p t s h) = Unit {0}
  MayOwn opts input j w _ _ (acts p t n s asked d) =
      RideMeets (StaysOwn source j w t) source (answered source d.given (drawn j w t)) (left opts j t) s n asked d.rides ×
      IsOwn j w t s

  -- and of each act of a run
  abbrev pub RunOwns : (input : List ℕ) (opts : Options) (j : Journal) (w : World) →
      Runs source input opts j w → Type 0
  RunOwns input opts _ _ begun = Unit {0}
  RunOwns input opts _ _ (more {j} {w} {a} {w' = x} r o m) = RunOwns input opts j w r × MayOwn opts input j w a x m

-- in a run: who runs in each task that was spawned has a name of its own and lives apart from what other tasks have at hand, at rest and in all
-- states of rides; tasks that are not spawned yet are as task 0 began
pub record AllOwnNames (source : Source) (input : List ℕ) (opts : Options) (j : Journal) (w : World) (r : Runs source input opts j w) : Type 0 where
  pub rests : (t : ℕ) → t < task_count j → HasOwnName j w t
  pub elsewhere : (t : ℕ) → t < task_count j → IsElsewhere j w t
  pub later : (v : ℕ) → task_count j ≤ v → w.tasks v ≡ first_state (routine_of source source.main) 0
  pub comes : (t : ℕ) (s : State) (c : Comes source j w t s) →
      LeadsMeet Spares source (answered source c.given (drawn j w t)) s c.leads → IsOwn j w t s
  pub rides : RunOwns source input opts j w r

-- so it is in each run in which all that was asked so far fits, of whatever source, as long as no step forgets the running execution, and nobody
-- leaves its home for good
abbrev pub LawOwnNames : Type 0
LawOwnNames =
    (source : Source) (input : List ℕ) (opts : Options) (j : Journal) (w : World)
    (r : Runs source input opts j w) → InRange opts → RunFits source input opts j w r →
    is_over j ≡ false → RunLeaves source input opts j w r → RunMeets Spares source input opts j w r →
    AllOwnNames source input opts j w r

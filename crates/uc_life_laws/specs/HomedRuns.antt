-- What is in scope keeps the mutex objects that are at home in it, in steps and in runs.
use Rattle.std.specs.Prelude.{◌≡◌, ℕ, List, []}
use Rattle.uc_tree.specs.Programs.{Program}
use Rattle.uc_tree.specs.Source.{Source, routine_of}
use Rattle.uc_entry.specs.declared.entry.Options.{Options}
use Rattle.uc_entry.specs.declared.request.Answer.{Answer}
use Rattle.uc_acts.specs.Journal.{Journal}
use Rattle.uc_machine.specs.declared.exec.Home.TheVariants.{Object}
use Rattle.uc_machine.specs.Quiet.{State, quiet, first_state}
use Rattle.uc_machine.specs.Answering.{answered}
use Rattle.uc_meaning.specs.Runs.{World, Runs, drawn}
use Rattle.uc_resolve.specs.Resolve.{source_of}
use Rattle.uc_rules.specs.Breaks.{breaks_of}
use Rattle.uc_state_laws.specs.RoomRuns.{Comes}
use Rattle.uc_state_laws.specs.Opens.{RunMeets, LeadsMeet}
use Rattle.uc_typing.specs.Typing.{Table}
use Rattle.uc_sound.specs.SoundFormed.{IsFormed}
use Rattle.uc_sound.specs.Tables.{table_of}
use Rattle.uc_life_laws.specs.Things.{Few}
use Rattle.uc_life_laws.specs.LifeStates.{Clears}
use Rattle.uc_life_laws.specs.HomedStates.{Owns, HomedMembers, HomedState, HomedStep, Opens}

-- of any table and any source: a task begins so, and each step keeps it where scopes open so and cells that start anew lie behind what is in scope;
-- so does each answer
pub record LawSteps : Type 0 where
  pub begins : (t : Table) (owns : Owns) (few : Few) (source : Source) (r o : ℕ) →
      HomedState t owns few (first_state (routine_of source r) o)
  pub steps : (t : Table) (owns : Owns) (few : Few) (source : Source) (s : State) → HomedState t owns few s →
      Opens t owns few s → Clears t s → HomedStep t owns few (quiet source s)
  pub told : (t : Table) (owns : Owns) (few : Few) (source : Source) (given : Answer) (s : State) →
      HomedState t owns few s → HomedState t owns few (answered source given s)

-- of each task at rest, of what is at home in each object, and of whoever runs in each state to which it comes before it asks
pub record KeepsHomes (t : Table) (owns : Owns) (few : Few) (source : Source) (j : Journal) (w : World) : Type 0 where
  pub tasks : (n : ℕ) → HomedState t owns few (w.tasks n)
  pub homes : (o : ℕ) → HomedMembers t owns few (Object o) (w.homes o)
  pub comes : (n : ℕ) (s : State) (c : Comes source j w n s) →
      LeadsMeet (Opens t owns few) source (answered source c.given (drawn j w n)) s c.leads → HomedState t owns few s

-- so it is in each run of a program that breaks no rule in which each scope opens so
abbrev pub LawRuns : Type 0
LawRuns =
    (p : Program) → IsFormed p → breaks_of p ≡ [] → (owns : Owns) (few : Few) →
    (input : List ℕ) (opts : Options) (j : Journal) (w : World) (r : Runs (source_of p) input opts j w) →
    RunMeets (Opens (table_of p) owns few) (source_of p) input opts j w r →
    KeepsHomes (table_of p) owns few (source_of p) j w

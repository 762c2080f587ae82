-- Runs in which nobody waits for a main, so that where one ends nothing is left to clean up.
use Rattle.std.specs.Prelude.{◌≡◌, ℕ, List, ◌∷◌}
use Rattle.uc_tree.specs.Source.{Source, routine_of}
use Rattle.uc_entry.specs.declared.entry.Options.{Options}
use Rattle.uc_entry.specs.declared.request.Answer.{Answer}
use Rattle.uc_acts.specs.Journal.{Journal}
use Rattle.uc_machine.specs.Pieces.{Todo, Finish}
use Rattle.uc_machine.specs.Quiet.{State, first_state, quiet}
use Rattle.uc_machine.specs.Answering.{answered}
use Rattle.uc_meaning.specs.Runs.{World, Runs}
use Rattle.uc_state_laws.specs.Opens.{RunMeets}
use Rattle.uc_life_laws.specs.Held.{AreLines}
use Rattle.uc_rooted_runs.specs.FreshStates.{MainsBareBy, AsksBare}
use Rattle.uc_rooted_runs.specs.Mains.{MainState, MainStep, CallsNoMain, FindsAll}

-- where the main of a coroutine ends no marks are left; nor is anything but its line left behind the end of a main; and a task has no marks where it asks
-- its end, if the routines that it names are there, and unwindings have reasons
pub record EndsMains (source : Source) (s : State) : Type 0 where
  pub bare : MainsBareBy s.run.control s
  pub finish : (todo : List Todo) → s.run.control ≡ Finish ∷ todo → AreLines todo
  pub asks : FindsAll source s → AsksBare source s

-- a task begins so that nobody waits for a main, each quiet step keeps that as long as it calls none, and so does each answer; so it is in each state
-- of a run of whatever source in which none is called
pub record LawMains : Type 0 where
  pub begins : (source : Source) (r o : ℕ) → MainState (first_state (routine_of source r) o)
  pub steps : (source : Source) (s : State) → MainState s → CallsNoMain source s → MainStep (quiet source s)
  pub told : (source : Source) (given : Answer) (s : State) → MainState s → MainState (answered source given s)
  pub ends : (source : Source) (s : State) → MainState s → EndsMains source s
  pub runs : (source : Source) (input : List ℕ) (opts : Options) (j : Journal) (w : World)
      (r : Runs source input opts j w) → RunMeets (CallsNoMain source) source input opts j w r →
      RunMeets (EndsMains source) source input opts j w r

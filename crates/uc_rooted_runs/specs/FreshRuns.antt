-- Runs in which executions that have not begun are as they were made, and those that have ended have no marks.
use Rattle.std.specs.Prelude.{◌≡◌, ℕ, true, false, List, [], ◌∷◌}
use Rattle.uc_tree.specs.Source.{Source}
use Rattle.uc_entry.specs.declared.entry.Options.{Options}
use Rattle.uc_entry.specs.declared.request.Answer.{Answer}
use Rattle.uc_acts.specs.Journal.{Journal, is_over}
use Rattle.uc_acts.specs.Known.{has_ended}
use Rattle.uc_acts.specs.KernelRuns.{InRange}
use Rattle.uc_machine.specs.declared.exec.Home.TheVariants.{Object}
use Rattle.uc_machine.specs.Quiet.{State, quiet}
use Rattle.uc_machine.specs.Answering.{answered}
use Rattle.uc_meaning.specs.Runs.{World, Runs}
use Rattle.uc_state_laws.specs.Fitting.{RunFits}
use Rattle.uc_state_laws.specs.Opens.{RunMeets}
use Rattle.uc_life_laws.specs.LifeStates.{MembersBy}
use Rattle.uc_life_laws.specs.Placed.{stacked}
use Rattle.uc_rooted_runs.specs.FreshStates.{FreshEx, FreshEnv, FreshStep, KeepsFresh}

-- of each task at rest, which has nothing in hand, and of what is at home in each object; and a task that has ended has no marks
pub record FreshWorld (j : Journal) (w : World) : Type 0 where
  pub tasks : (n : ℕ) → FreshEnv (w.tasks n).env
  pub ended : (n : ℕ) → has_ended n j ≡ true → stacked ((w.tasks n).run ∷ (w.tasks n).callers) ≡ []
  pub bare : (n : ℕ) → (w.tasks n).env.hand ≡ []
  pub homes : (o : ℕ) → MembersBy FreshEx (Object o) (w.homes o)

-- so it is in each run of whatever source in which all that was asked so far fits, as long as no step binds what stands in a frame of one that has
-- not begun, and ends leave no marks; each such step keeps it, and so does each answer
pub record LawFresh : Type 0 where
  pub steps : (source : Source) (s : State) → FreshEnv s.env → KeepsFresh source s → FreshStep (quiet source s)
  pub told : (source : Source) (given : Answer) (s : State) → FreshEnv s.env → FreshEnv (answered source given s).env
  pub runs : (source : Source) (input : List ℕ) (opts : Options) (j : Journal) (w : World)
      (r : Runs source input opts j w) → InRange opts → RunFits source input opts j w r → is_over j ≡ false →
      RunMeets (KeepsFresh source) source input opts j w r → FreshWorld j w

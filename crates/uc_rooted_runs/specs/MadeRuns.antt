-- Runs in which each execution that is there was made, but for the main of task 0, and by one that was made before it.
use Rattle.std.specs.Prelude.{◌≡◌, ℕ, ◌<◌, ◌⊎◌, Bool, true, false, List}
use Rattle.uc_tree.specs.Source.{Source}
use Rattle.uc_entry.specs.declared.entry.Options.{Options}
use Rattle.uc_acts.specs.Journal.{Journal, is_over}
use Rattle.uc_acts.specs.Known.{has_ended, task_count}
use Rattle.uc_acts.specs.KernelRuns.{InRange}
use Rattle.uc_machine.specs.declared.exec.Exec.{Exec}
use Rattle.uc_machine.specs.declared.exec.Home.TheVariants.{Object}
use Rattle.uc_meaning.specs.Runs.{World, Runs}
use Rattle.uc_state_laws.specs.Fitting.{RunFits}
use Rattle.uc_life_laws.specs.Knowing.{main_of}
use Rattle.uc_life_laws.specs.LifeStates.{EnvBy, MembersBy}
use Rattle.uc_rooted_runs.specs.Births.{AllMadeLater}
use Rattle.uc_rooted_runs.specs.OutlastRuns.{run_made}

abbrev pub IsMade : (Exec → Bool) → Exec → Type 0
IsMade made n = (n ≡ main_of 0) ⊎ (made n ≡ true)

-- so it is of all in a world: what runs in tasks that were spawned and have not ended, and what does not run
pub record AllMade (made : Exec → Bool) (j : Journal) (x : World) : Type 0 where
  pub running : (u : ℕ) → u < task_count j → has_ended u j ≡ false → IsMade made (x.tasks u).env.exec
  pub tasks : (u : ℕ) → EnvBy (λ n y. IsMade made n) (x.tasks u).env
  pub homes : (o : ℕ) → MembersBy (λ n y. IsMade made n) (Object o) (x.homes o)

-- so it is in each run in which all that was asked so far fits, of whatever source, and each that was made is later than the one that made it
pub record LawMadeRuns : Type 0 where
  pub there : (source : Source) (input : List ℕ) (opts : Options) (j : Journal) (w : World)
      (r : Runs source input opts j w) → InRange opts → RunFits source input opts j w r → is_over j ≡ false →
      AllMade (run_made source input opts r) j w
  pub later : (source : Source) (input : List ℕ) (opts : Options) (j : Journal) (w : World)
      (r : Runs source input opts j w) (b : AllMadeLater source input opts j w r) (n : Exec) →
      run_made source input opts r n ≡ true → b.makers.rank (b.makers.parent n) < b.makers.rank n

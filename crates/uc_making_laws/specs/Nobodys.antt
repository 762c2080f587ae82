-- Runs in which no activation is of what has gone, but the one that let go of it, which only comes to its end.
use Rattle.std.specs.Prelude.{◌≡◌, ◌==◌, ℕ, ◌⊎◌, false, List, ◌∷◌, ◌++◌}
use Rattle.uc_tree.specs.Source.{Source}
use Rattle.uc_entry.specs.declared.entry.Entry.{Entry}
use Rattle.uc_entry.specs.declared.entry.Options.{Options}
use Rattle.uc_acts.specs.Journal.{Journal, is_over}
use Rattle.uc_acts.specs.Known.{has_ended}
use Rattle.uc_acts.specs.KernelRuns.{InRange}
use Rattle.uc_machine.specs.declared.exec.Exec.{Exec}
use Rattle.uc_machine.specs.declared.exec.Home.TheVariants as home
use Rattle.uc_machine.specs.declared.exec.Stage.{Stage}
use Rattle.uc_machine.specs.declared.exec.Stage.TheVariants.{Fresh, Started, Ended}
use Rattle.uc_machine.specs.Executions.{Execution}
use Rattle.uc_machine.specs.Pieces.{Value, Object, Todo}
use Rattle.uc_meaning.specs.Runs.{World, Runs}
use Rattle.uc_state_laws.specs.Fitting.{RunFits}
use Rattle.uc_state_laws.specs.Opens.{RunMeets}
use Rattle.uc_name_laws.specs.NameSteps as names
use Rattle.uc_typing.specs.Typing.{Table}
use Rattle.uc_life_laws.specs.RunningRuns.{RunLeaves}
use Rattle.uc_life_laws.specs.Things.{Few}
use Rattle.uc_life_laws.specs.LifeStates.{EnvBy, MembersBy}
use Rattle.uc_life_laws.specs.Belonging.{Belongs}
use Rattle.uc_life_laws.specs.Marks.{Puts}
use Rattle.uc_life_laws.specs.Silent.{AllSilent}
use Rattle.uc_rooted_runs.specs.Binds.{BindsOwn}
use Rattle.uc_rooted_runs.specs.Mains.{CallsNoMain, FindsAll}
use Rattle.uc_making_laws.specs.OwnThis.{FindsThis}
use Rattle.uc_making_laws.specs.NoOthers.{NoThis}
use Rattle.uc_making_laws.specs.LettingGo.{FindsTold}
use Rattle.uc_making_laws.specs.ForgetsThis.{RunGoes, IsLeftNowhere, IsOwedNothing}

-- an execution that does not run has no activation of the object; one that has ended never goes on
abbrev pub NoneBy : ℕ → Stage → Execution (List Todo) Value → Type 0
NoneBy o Fresh y = NoThis o (y.run ∷ y.callers)
NoneBy o Started y = NoThis o (y.run ∷ y.callers)
NoneBy o Ended y = Unit {0}

abbrev pub NoneEx : ℕ → Exec → Execution (List Todo) Value → Type 0
NoneEx o n y = NoneBy o y.links.stage y

-- behind an act by which an object goes, which is not object 0: of tasks that have not ended, no activation that waits is of it, nor the one that runs, but in
-- the task that acts, where that only comes to its end; and no execution that does not run has one
pub record IsNobodys (j : Journal) (a : List Entry) (x : World) (u o : ℕ) : Type 0 where
  pub number : o ≡ 0 → ⊥
  pub waiting : (v : ℕ) → has_ended v (j ++ a) ≡ false → NoThis o (x.tasks v).callers
  pub running : (v : ℕ) → has_ended v (j ++ a) ≡ false →
      ((x.tasks v).run.this ≡ Object o → ⊥) ⊎ AllSilent (x.tasks v).run.control
  pub elsewhere : (v : ℕ) → has_ended v (j ++ a) ≡ false → (v == u) ≡ false → (x.tasks v).run.this ≡ Object o → ⊥
  pub tasks : (v : ℕ) → EnvBy (NoneEx o) (x.tasks v).env
  pub homes : (q : ℕ) → MembersBy (NoneEx o) (home.Object q) (x.homes q)

-- so it is behind each such act of a run in which nobody has at hand what has gone (`LawForgetsThis`)
abbrev pub LawNobodys : Type 0
LawNobodys =
    (t : Table) (few : Few) (source : Source) (input : List ℕ) (opts : Options) (j : Journal) (w : World)
    (r : Runs source input opts j w) → InRange opts → RunFits source input opts j w r → is_over j ≡ false →
    ((n : Exec) → Belongs few n (few.home 0) → ⊥) →
    RunMeets (BindsOwn source) source input opts j w r →
    RunMeets (CallsNoMain source) source input opts j w r →
    RunMeets (FindsAll source) source input opts j w r →
    RunLeaves source input opts j w r → RunMeets names.Spares source input opts j w r →
    RunMeets (Puts t few) source input opts j w r →
    RunMeets (FindsThis t few source) source input opts j w r →
    RunMeets (FindsTold t few source) source input opts j w r →
    RunGoes (IsLeftNowhere t few) source input opts r → RunGoes IsOwedNothing source input opts r →
    RunGoes IsNobodys source input opts r

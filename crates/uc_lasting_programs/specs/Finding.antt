-- Runs of programs in which the routines that are named are there, no main is called, and what is bound is an execution's own.
use Rattle.std.specs.Prelude.{◌≡◌, ℕ, List, []}
use Rattle.uc_tree.specs.Programs.{Program}
use Rattle.uc_tree.specs.Source.{Source}
use Rattle.uc_entry.specs.declared.entry.Options.{Options}
use Rattle.uc_acts.specs.Journal.{Journal}
use Rattle.uc_acts.specs.KernelRuns.{InRange}
use Rattle.uc_machine.specs.Pieces.{State}
use Rattle.uc_meaning.specs.Runs.{World, Runs}
use Rattle.uc_state_laws.specs.Fitting.{RunFits}
use Rattle.uc_resolve.specs.Resolve.{source_of}
use Rattle.uc_rules.specs.Breaks.{breaks_of}
use Rattle.uc_sound.specs.SoundFormed.{IsFormed}
use Rattle.uc_state_laws.specs.Opens.{RunMeets}
use Rattle.uc_life_laws.specs.Things.{Few}
use Rattle.uc_depth_laws.specs.Entering.{IsMain}
use Rattle.uc_inner_laws.specs.Inner.{Part}
use Rattle.uc_inner_laws.specs.Standing.{StandsState}
use Rattle.uc_letting_laws.specs.AloneRuns.{RunAlone}
use Rattle.uc_calls_laws.specs.Calls.{IsUncalled}
use Rattle.uc_putting_laws.specs.PuttingLaws.{setting_of, Fair}
use Rattle.uc_putting_laws.specs.OwnPlaces.{OwnPlaces}
use Rattle.uc_rooted_runs.specs.Binds.{BindsOwn}
use Rattle.uc_rooted_runs.specs.Mains.{CallsNoMain, FindsAll}
use Rattle.uc_making_laws.specs.ForgetsThis.{RunGoes, IsOwedNothing}

-- at each state of a run
pub record IsFound (p : Program) (input : List ℕ) (opts : Options) (j : Journal) (w : World) (r : Runs (source_of p) input opts j w) : Type 0 where
  pub finds : RunMeets (FindsAll (source_of p)) (source_of p) input opts j w r
  pub calls : RunMeets (CallsNoMain (source_of p)) (source_of p) input opts j w r

-- in a state in which whoever waits, signals or accepts in an object is inside it, the routines that are named are there, and unwindings have reasons;
-- and where mains are parts that nobody calls, none is called. What is bound at a place of the execution's own is in no frame of another one. So it is
-- in each run of a program that breaks no rule, as long as all that was asked so far fits and nothing else is owed to what is let go of; and what is
-- bound, as far as each step finds what is left to find where objects are bound and marks are put. Behind each act by which an object goes no activation of
-- who acts that waits is to let go of it
pub record LawFinding : Type 0 where
  pub finds : (part : ℕ → Part) (source : Source) (mine : ℕ) (s : State) → StandsState part source mine s →
      FindsAll source s
  pub calls : (part : ℕ → Part) (source : Source) → ((r : ℕ) → IsMain source r → IsUncalled (part r)) →
      (mine : ℕ) (s : State) → StandsState part source mine s → CallsNoMain source s
  pub binds : (few : Few) (source : Source) (s : State) → OwnPlaces few source s → BindsOwn source s
  pub runs : (p : Program) → IsFormed p → breaks_of p ≡ [] → (input : List ℕ) (opts : Options) → InRange opts →
      (j : Journal) (w : World) (r : Runs (source_of p) input opts j w) →
      RunFits (source_of p) input opts j w r → RunAlone (source_of p) input opts j w r →
      IsFound p input opts j w r
  pub runs_bind : (p : Program) → IsFormed p → breaks_of p ≡ [] → (few : Few) →
      (input : List ℕ) (opts : Options) → InRange opts →
      (j : Journal) (w : World) (r : Runs (source_of p) input opts j w) →
      RunFits (source_of p) input opts j w r →
      RunMeets (Fair (setting_of p few)) (source_of p) input opts j w r →
      RunMeets (BindsOwn (source_of p)) (source_of p) input opts j w r
  pub owed : (p : Program) → IsFormed p → breaks_of p ≡ [] → (input : List ℕ) (opts : Options) → InRange opts →
      (j : Journal) (w : World) (r : Runs (source_of p) input opts j w) →
      RunFits (source_of p) input opts j w r →
      RunAlone (source_of p) input opts j w r →
      RunGoes IsOwedNothing (source_of p) input opts r

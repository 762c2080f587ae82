-- In programs that break no rule the running execution of each task is there, as long as nothing else is owed to what is let go of and no step
-- forgets the execution that runs.
use Rattle.std.specs.Prelude.{◌≡◌, ℕ, false, List, []}
use Rattle.uc_tree.specs.Programs.{Program}
use Rattle.uc_entry.specs.declared.entry.Options.{Options}
use Rattle.uc_acts.specs.Journal.{Journal, is_over}
use Rattle.uc_acts.specs.KernelRuns.{InRange}
use Rattle.uc_resolve.specs.Resolve.{source_of}
use Rattle.uc_rules.specs.Breaks.{breaks_of}
use Rattle.uc_sound.specs.SoundFormed.{IsFormed}
use Rattle.uc_meaning.specs.Runs.{World, Runs}
use Rattle.uc_state_laws.specs.Fitting.{RunFits}
use Rattle.uc_state_laws.specs.Opens.{RunMeets}
use Rattle.uc_name_laws.specs.NameSteps.{Spares}
use Rattle.uc_life_laws.specs.RunningRuns.{AllRunAlone}
use Rattle.uc_letting_laws.specs.AloneRuns.{RunAlone}

-- in each run in which all that was asked so far fits: who destroys an object is not at home there, and who ends not in its own object
abbrev pub LawRunning : Type 0
LawRunning =
    (p : Program) → IsFormed p → breaks_of p ≡ [] → (input : List ℕ) (opts : Options) → InRange opts →
    (j : Journal) (w : World) (r : Runs (source_of p) input opts j w) →
    RunFits (source_of p) input opts j w r → is_over j ≡ false →
    RunAlone (source_of p) input opts j w r → RunMeets Spares (source_of p) input opts j w r →
    AllRunAlone (source_of p) j w

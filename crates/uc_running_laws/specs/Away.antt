-- Who builds or destroys an object is not at home there.
use Rattle.std.specs.Prelude.{◌≡◌, ℕ, ◌⊎◌, true, List, [], ◌∷◌}
use Rattle.uc_tree.specs.Programs.{Program}
use Rattle.uc_entry.specs.declared.entry.Options.{Options}
use Rattle.uc_acts.specs.Journal.{Journal}
use Rattle.uc_acts.specs.KernelRuns.{InRange}
use Rattle.uc_machine.specs.declared.exec.Home.TheVariants as home
use Rattle.uc_machine.specs.Monitors.{this_object}
use Rattle.uc_machine.specs.Pieces.{Todo, Clean, State}
use Rattle.uc_resolve.specs.Resolve.{source_of}
use Rattle.uc_rules.specs.Breaks.{breaks_of}
use Rattle.uc_sound.specs.SoundFormed.{IsFormed}
use Rattle.uc_meaning.specs.Runs.{World, Runs}
use Rattle.uc_state_laws.specs.Fitting.{RunFits}
use Rattle.uc_state_laws.specs.Opens.{RunMeets}
use Rattle.uc_depth_laws.specs.Entering.{Aspect, asks}
use Rattle.uc_letting_laws.specs.AloneRuns.{RunAlone}

-- a scope is still to be left that lets go of the object of the activation, which that builds or destroys
abbrev pub IsUnder : List Todo → Type 0
IsUnder [] = ⊥
IsUnder (Clean c ∷ todo) = ((k : Aspect) × (asks c k ≡ true)) ⊎ IsUnder todo
IsUnder (p ∷ todo) = IsUnder todo

-- then the running execution is not at home there
abbrev pub Away : State → Type 0
Away s = IsUnder s.run.control → s.env.exec.home ≡ home.Object (this_object s) → ⊥

-- so it is in each run in which all that was asked so far fits
abbrev pub LawAway : Type 0
LawAway =
    (p : Program) → IsFormed p → breaks_of p ≡ [] → (input : List ℕ) (opts : Options) → InRange opts →
    (j : Journal) (w : World) (r : Runs (source_of p) input opts j w) →
    RunFits (source_of p) input opts j w r → RunAlone (source_of p) input opts j w r →
    RunMeets Away (source_of p) input opts j w r

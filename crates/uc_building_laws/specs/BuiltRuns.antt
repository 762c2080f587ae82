-- Runs of programs within their limits in which objects hold what is known where their scopes open: so all is known.
use Rattle.std.specs.Prelude.{◌≡◌, ℕ, Bool, false, List, []}
use Rattle.uc_tree.specs.Programs.{Program}
use Rattle.uc_tree.specs.Source.{Source}
use Rattle.uc_entry.specs.declared.entry.Options.{Options}
use Rattle.uc_acts.specs.Journal.{Journal, is_over}
use Rattle.uc_acts.specs.KernelRuns.{InRange}
use Rattle.uc_machine.specs.Pieces.{State}
use Rattle.uc_machine.specs.Answering.{answered}
use Rattle.uc_meaning.specs.Runs.{World, Runs, drawn}
use Rattle.uc_state_laws.specs.Fitting.{RunFits}
use Rattle.uc_resolve.specs.Resolve.{source_of}
use Rattle.uc_rules.specs.Breaks.{breaks_of}
use Rattle.uc_state_laws.specs.RoomRuns.{Comes}
use Rattle.uc_state_laws.specs.Opens.{Opens, RunMeets, LeadsMeet}
use Rattle.uc_state_laws.specs.Limits.{IsWithinLimits}
use Rattle.uc_typing.specs.Typing.{Table}
use Rattle.uc_typing.specs.Laws.{ReadsIn}
use Rattle.uc_sound.specs.SoundFormed.{IsFormed}
use Rattle.uc_sound.specs.Tables.{table_of}
use Rattle.uc_life_laws.specs.Lives.{LivesState}
use Rattle.uc_life_laws.specs.Knowing.{KnowsState}
use Rattle.uc_life_laws.specs.Opened.{any}
use Rattle.uc_building_laws.specs.Building.{heads_of}
use Rattle.uc_building_laws.specs.BuildingRuns.{MeetsBuilding}

-- a step finds what it is to find (`MeetsBuilding`), as far as what binds leaves what it is to leave, and scopes open where cells have addresses
abbrev pub FindsBuilding : Table → (ℕ → ℕ → Bool) → Source → State → Type 0
FindsBuilding t heads source s = Opens source s → MeetsBuilding t heads source s

-- all is known then of whoever runs in each state to which it comes before it asks, what is in scope holds what is, and what its next step reads
-- is of its type
pub record AreBuilt (t : Table) (heads : ℕ → ℕ → Bool) (source : Source) (j : Journal) (w : World) : Type 0 where
  pub comes : (n : ℕ) (s : State) (c : Comes source j w n s) →
      LeadsMeet (FindsBuilding t heads source) source (answered source c.given (drawn j w n)) s c.leads →
      KnowsState t any [] s
  pub lives : (n : ℕ) (s : State) (c : Comes source j w n s) →
      LeadsMeet (FindsBuilding t heads source) source (answered source c.given (drawn j w n)) s c.leads →
      LivesState t any s
  pub reads : (n : ℕ) (s : State) (c : Comes source j w n s) →
      LeadsMeet (FindsBuilding t heads source) source (answered source c.given (drawn j w n)) s c.leads →
      FindsBuilding t heads source s → ReadsIn t s

-- so it is in each run of a program that breaks no rule and is within its limits, as long as all that was asked so far fits
abbrev pub LawBuiltRuns : Type 0
LawBuiltRuns =
    (p : Program) → IsFormed p → breaks_of p ≡ [] → IsWithinLimits p →
    (input : List ℕ) (opts : Options) → InRange opts →
    (j : Journal) (w : World) (r : Runs (source_of p) input opts j w) →
    RunFits (source_of p) input opts j w r → is_over j ≡ false →
    RunMeets (FindsBuilding (table_of p) (heads_of p) (source_of p)) (source_of p) input opts j w r →
    AreBuilt (table_of p) (heads_of p) (source_of p) j w

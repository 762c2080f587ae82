-- Runs of programs in which objects are built, of which nothing is asked where a clean-up reads the variable that it ends.
use Rattle.std.specs.Prelude.{◌≡◌, ℕ, zero, suc, Bool, false, List, []}
use Rattle.uc_tree.specs.Programs.{Program}
use Rattle.uc_tree.specs.Source.{Source}
use Rattle.uc_entry.specs.declared.entry.Options.{Options}
use Rattle.uc_acts.specs.Journal.{Journal, is_over}
use Rattle.uc_acts.specs.KernelRuns.{InRange}
use Rattle.uc_machine.specs.Quiet.{State}
use Rattle.uc_machine.specs.Answering.{answered}
use Rattle.uc_meaning.specs.Runs.{World, Runs, drawn}
use Rattle.uc_resolve.specs.Resolve.{source_of}
use Rattle.uc_rules.specs.Breaks.{breaks_of}
use Rattle.uc_state_laws.specs.Fitting.{RunFits}
use Rattle.uc_state_laws.specs.Limits.{IsWithinLimits}
use Rattle.uc_state_laws.specs.RoomRuns.{Comes}
use Rattle.uc_state_laws.specs.Endings.{RunHolds, LeadsHold}
use Rattle.uc_state_laws.specs.Opens.{RunMeets, LeadsMeet}
use Rattle.uc_typing.specs.Typing.{Table}
use Rattle.uc_sound.specs.SoundFormed.{IsFormed}
use Rattle.uc_sound.specs.Tables.{table_of}
use Rattle.uc_building_laws.specs.Building.{heads_of}
use Rattle.uc_building_laws.specs.BuildingRuns.{MeetsBuilding}
use Rattle.uc_building_laws.specs.BuildingLaws.{AreAddressed}
use Rattle.uc_building_laws.specs.BuiltLasting.{FindsBuilt}
use Rattle.uc_place_laws.specs.OpeningLaws.{IsCalled}
use Rattle.uc_life_laws.specs.Things.{Few}

-- a step finds what it is to find, but in the four states from which a clean-up comes to the variable that it ends, and reads it
abbrev pub BuildingOutside : Table → (ℕ → ℕ → Bool) → Source → ℕ → State → Type 0
BuildingOutside t heads source zero s = MeetsBuilding t heads source s
BuildingOutside t heads source (suc n) s = Unit {0}

-- it does so in them too: in the run so far, and on the way of whoever runs to each state
pub record BuildingIsMet (t : Table) (heads : ℕ → ℕ → Bool) (source : Source) (input : List ℕ) (opts : Options) (j : Journal) (w : World) (r : Runs source input opts j w) : Type 0 where
  pub runs : RunMeets (MeetsBuilding t heads source) source input opts j w r
  pub leads : (n : ℕ) (s : State) (c : Comes source j w n s) →
      LeadsHold (BuildingOutside t heads source) source 0 (answered source c.given (drawn j w n)) s c.leads →
      LeadsMeet (MeetsBuilding t heads source) source (answered source c.given (drawn j w n)) s c.leads

-- so it is in each run of a program that breaks no rule, as long as all that was asked before fits
abbrev pub LawBuiltEndings : Type 0
LawBuiltEndings =
    (p : Program) → IsFormed p → breaks_of p ≡ [] → IsWithinLimits p →
    (input : List ℕ) (opts : Options) → InRange opts →
    (j : Journal) (w : World) (r : Runs (source_of p) input opts j w) →
    RunFits (source_of p) input opts j w r → is_over j ≡ false →
    RunHolds (BuildingOutside (table_of p) (heads_of p) (source_of p)) (source_of p) input opts j w r →
    BuildingIsMet (table_of p) (heads_of p) (source_of p) input opts j w r

-- where other numbers are told: there a step finds what LawKept asks, and in those states what is called where the scope of an object opens next is its
-- constructor, and all cells of frames have addresses
abbrev pub BuiltOutside : Program → Few → ℕ → State → Type 0
BuiltOutside p few zero s = FindsBuilt p few s
BuiltOutside p few (suc n) s = IsCalled p (source_of p) s × AreAddressed s

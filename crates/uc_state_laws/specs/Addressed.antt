-- Runs in which scopes open where all cells of the frame have addresses.
use Rattle.std.specs.Prelude.{ℕ, List, ◌∷◌}
use Rattle.uc_tree.specs.Programs.{Program}
use Rattle.uc_tree.specs.Source.{Source, Scoped}
use Rattle.uc_entry.specs.declared.entry.Options.{Options}
use Rattle.uc_acts.specs.Journal.{Journal}
use Rattle.uc_machine.specs.Pieces.{Todo, Rest, State}
use Rattle.uc_machine.specs.Answering.{answered}
use Rattle.uc_meaning.specs.Runs.{World, Runs, drawn}
use Rattle.uc_resolve.specs.Resolve.{source_of}
use Rattle.uc_state_laws.specs.RoomRuns.{Leads, Comes}
use Rattle.uc_state_laws.specs.Opens.{HasAddresses, RunMeets, LeadsMeet}
use Rattle.uc_state_laws.specs.Limits.{IsWithinLimits}

-- where a scope opens, all cells of the frame have addresses
abbrev pub AddressedAt : List Todo → State → Type 0
AddressedAt (Rest (Scoped c rest) ∷ todo) s = HasAddresses s
AddressedAt todo s = Unit {0}

abbrev pub Addressed : State → Type 0
Addressed s = AddressedAt s.run.control s

abbrev pub RunAddressed : (source : Source) (input : List ℕ) (opts : Options) (j : Journal) (w : World) →
    Runs source input opts j w → Type 0
RunAddressed source input opts j w r = RunMeets Addressed source input opts j w r

abbrev pub LeadsAddressed : (source : Source) (s u : State) → Leads source s u → Type 0
LeadsAddressed source s u l = LeadsMeet Addressed source s u l

-- so it is in each run of a program within its limits, and on the way to each state to which whoever runs comes before it asks, and there
pub record LawAddressed : Type 0 where
  pub runs : (p : Program) → IsWithinLimits p → (input : List ℕ) (opts : Options) →
      (j : Journal) (w : World) (r : Runs (source_of p) input opts j w) →
      RunAddressed (source_of p) input opts j w r
  pub leads : (p : Program) → IsWithinLimits p → (input : List ℕ) (opts : Options) →
      (j : Journal) (w : World) → Runs (source_of p) input opts j w →
      (t : ℕ) (s : State) (c : Comes (source_of p) j w t s) →
      LeadsAddressed (source_of p) (answered (source_of p) c.given (drawn j w t)) s c.leads
  pub comes : (p : Program) → IsWithinLimits p → (input : List ℕ) (opts : Options) →
      (j : Journal) (w : World) → Runs (source_of p) input opts j w →
      (t : ℕ) (s : State) → Comes (source_of p) j w t s → Addressed s

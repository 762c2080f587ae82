-- Runs of programs within their limits, in which all cells of the frames of whoever runs have addresses.
use Rattle.std.specs.Prelude.{ℕ, ◌≤◌, List, length}
use Rattle.uc_tree.specs.Programs.{Program}
use Rattle.uc_entry.specs.declared.entry.Options.{Options}
use Rattle.uc_acts.specs.Journal.{Journal}
use Rattle.uc_machine.specs.Pieces.{State, LAST_ADDRESS}
use Rattle.uc_machine.specs.Answering.{answered}
use Rattle.uc_meaning.specs.Runs.{World, Runs, drawn}
use Rattle.uc_resolve.specs.Resolve.{source_of}
use Rattle.uc_state_laws.specs.RoomRuns.{Comes}
use Rattle.uc_state_laws.specs.There.{frame_at}
use Rattle.uc_state_laws.specs.Opens.{RunMeets, LeadsMeet}
use Rattle.uc_state_laws.specs.Limits.{IsWithinLimits}

-- all cells of frames have addresses
abbrev pub AreAddressed : State → Type 0
AreAddressed s = (d : ℕ) → length (frame_at d s.env.frames) ≤ LAST_ADDRESS

-- so it is in each run of a program within its limits, in each state of each ride, and on the way to each state to which whoever runs comes before it
-- asks, and there
pub record LawAddresses : Type 0 where
  pub runs : (p : Program) → IsWithinLimits p → (input : List ℕ) (opts : Options) →
      (j : Journal) (w : World) (r : Runs (source_of p) input opts j w) →
      RunMeets AreAddressed (source_of p) input opts j w r
  pub leads : (p : Program) → IsWithinLimits p → (input : List ℕ) (opts : Options) →
      (j : Journal) (w : World) → Runs (source_of p) input opts j w →
      (t : ℕ) (s : State) (c : Comes (source_of p) j w t s) →
      LeadsMeet AreAddressed (source_of p) (answered (source_of p) c.given (drawn j w t)) s c.leads
  pub comes : (p : Program) → IsWithinLimits p → (input : List ℕ) (opts : Options) →
      (j : Journal) (w : World) → Runs (source_of p) input opts j w →
      (t : ℕ) (s : State) → Comes (source_of p) j w t s → AreAddressed s

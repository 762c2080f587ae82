-- Runs in which variables that are known by their numbers are there from the step that binds them on.
use Rattle.std.specs.Prelude.{◌≡◌, ℕ, ◌<◌, false, List, [], nat_lt}
use Rattle.uc_tree.specs.Programs.{Program}
use Rattle.uc_entry.specs.declared.entry.Options.{Options}
use Rattle.uc_acts.specs.Journal.{Journal, is_over}
use Rattle.uc_acts.specs.KernelRuns.{InRange}
use Rattle.uc_acts.specs.Queues.{cluster_count}
use Rattle.uc_machine.specs.Pieces.{Todo, State, LAST_ADDRESS}
use Rattle.uc_machine.specs.Answering.{answered}
use Rattle.uc_meaning.specs.Runs.{World, Runs, drawn}
use Rattle.uc_state_laws.specs.Fitting.{RunFits}
use Rattle.uc_resolve.specs.Resolve.{source_of}
use Rattle.uc_rules.specs.Breaks.{breaks_of}
use Rattle.uc_sound.specs.SoundFormed.{IsFormed}
use Rattle.uc_state_laws.specs.RoomRuns.{Comes}
use Rattle.uc_state_laws.specs.NewClusters.{GoodBy}
use Rattle.uc_state_laws.specs.Opens.{Opens, RunOpens, LeadsOpen, LeavesCluster, EndsCluster}
use Rattle.uc_state_laws.specs.Limits.{IsWithinLimits}

-- what is bound is there behind the step that binds it, in each run of a program that breaks no rule and is within its limits, as long as all
-- that was asked before fits, on the way to each state to which whoever runs comes before it asks, and there
pub record LawOpens : Type 0 where
  pub runs : (p : Program) → IsFormed p → breaks_of p ≡ [] → IsWithinLimits p →
      (input : List ℕ) (opts : Options) → InRange opts → (j : Journal) (w : World) →
      (r : Runs (source_of p) input opts j w) → RunFits (source_of p) input opts j w r →
      RunOpens (source_of p) input opts j w r
  pub leads : (p : Program) → IsFormed p → breaks_of p ≡ [] → IsWithinLimits p →
      (input : List ℕ) (opts : Options) → InRange opts → (j : Journal) (w : World) →
      (r : Runs (source_of p) input opts j w) → RunFits (source_of p) input opts j w r →
      is_over j ≡ false → (t : ℕ) (s : State) (c : Comes (source_of p) j w t s) →
      LeadsOpen (source_of p) (answered (source_of p) c.given (drawn j w t)) s c.leads
  pub comes : (p : Program) → IsFormed p → breaks_of p ≡ [] → IsWithinLimits p →
      (input : List ℕ) (opts : Options) → InRange opts → (j : Journal) (w : World) →
      (r : Runs (source_of p) input opts j w) → RunFits (source_of p) input opts j w r →
      is_over j ≡ false → (t : ℕ) (s : State) → Comes (source_of p) j w t s → Opens (source_of p) s

-- so all is there that is in scope and known by its number, and clusters that are variables have numbers below their count, in each such state;
-- and who leaves the scope of such a one, at a cell before the last address, asks for the end of a cluster that there is
pub record LawThere : Type 0 where
  pub comes : (p : Program) → IsFormed p → breaks_of p ≡ [] → IsWithinLimits p →
      (input : List ℕ) (opts : Options) → InRange opts → (j : Journal) (w : World) →
      (r : Runs (source_of p) input opts j w) → RunFits (source_of p) input opts j w r →
      is_over j ≡ false → (t : ℕ) (s : State) → Comes (source_of p) j w t s →
      GoodBy (λ n. nat_lt n (cluster_count j)) s
  pub ends : (p : Program) → IsFormed p → breaks_of p ≡ [] → IsWithinLimits p →
      (input : List ℕ) (opts : Options) → InRange opts → (j : Journal) (w : World) →
      (r : Runs (source_of p) input opts j w) → RunFits (source_of p) input opts j w r →
      is_over j ≡ false → (t : ℕ) (s : State) → Comes (source_of p) j w t s →
      (k : ℕ) (todo : List Todo) → k < LAST_ADDRESS → LeavesCluster k todo s.run.control →
      EndsCluster (source_of p) j s

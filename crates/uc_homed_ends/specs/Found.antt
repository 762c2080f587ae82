-- Of homes nothing is left to find for marks that are put, where all is known.
use Rattle.std.specs.Prelude.{◌≡◌, ℕ, false, List, []}
use Rattle.uc_tree.specs.Programs.{Program}
use Rattle.uc_entry.specs.declared.entry.Options.{Options}
use Rattle.uc_entry.specs.declared.request.Asked.{Asked}
use Rattle.uc_acts.specs.Journal.{Journal, is_over}
use Rattle.uc_acts.specs.Known.{object_count}
use Rattle.uc_acts.specs.KernelRuns.{InRange}
use Rattle.uc_acts.specs.Serves.{left}
use Rattle.uc_machine.specs.Pieces.{State}
use Rattle.uc_machine.specs.Answering.{answered}
use Rattle.uc_meaning.specs.Runs.{World, Runs, AsksIn, drawn}
use Rattle.uc_resolve.specs.Resolve.{source_of}
use Rattle.uc_rules.specs.Breaks.{breaks_of}
use Rattle.uc_sound.specs.SoundFormed.{IsFormed}
use Rattle.uc_sound.specs.Tables.{table_of}
use Rattle.uc_state_laws.specs.Fitting.{RunFits}
use Rattle.uc_state_laws.specs.Limits.{IsWithinLimits}
use Rattle.uc_state_laws.specs.Opens.{RideMeets, RunMeets}
use Rattle.uc_life_laws.specs.Things.{Few}
use Rattle.uc_life_laws.specs.Homes.{home_of}
use Rattle.uc_putting_laws.specs.PuttingLaws.{setting_of, Fair}
use Rattle.uc_homed_ends.specs.HomesLeft.{KnowsReads, Told}

-- of a program that breaks no rule and is within its limits, as long as all that was asked fits. With the homes that a run tells in the end that is told which is
-- told of homes, in the run and in what a task asks next, whether that fits or not; and where it is told, in whichever run, and all is known, all is found that
-- marks ask
pub record LawFound : Type 0 where
  pub told : (p : Program) → IsFormed p → breaks_of p ≡ [] → IsWithinLimits p → (few : Few) →
      (input : List ℕ) (opts : Options) → InRange opts → (j : Journal) (w : World) →
      (r : Runs (source_of p) input opts j w) → RunFits (source_of p) input opts j w r →
      ((o : ℕ) → few.home o ≡ home_of (source_of p) input opts j w r o) →
      RunMeets (Told p few (object_count j)) (source_of p) input opts j w r
  pub told_next : (p : Program) → IsFormed p → breaks_of p ≡ [] → IsWithinLimits p → (few : Few) →
      (input : List ℕ) (opts : Options) → InRange opts → (j : Journal) (w : World) →
      (r : Runs (source_of p) input opts j w) → RunFits (source_of p) input opts j w r →
      ((o : ℕ) → few.home o ≡ home_of (source_of p) input opts j w r o) →
      is_over j ≡ false → (q t n : ℕ) (s : State) (asked : Asked) (d : AsksIn (source_of p) opts j w q t n s asked) →
      RideMeets (Told p few (object_count j)) (source_of p) (answered (source_of p) d.given (drawn j w t)) (left opts j t) s n asked d.rides
  pub runs : (p : Program) → IsFormed p → breaks_of p ≡ [] → IsWithinLimits p → (few : Few) (many : ℕ) →
      (input : List ℕ) (opts : Options) → InRange opts → (j : Journal) (w : World) →
      (r : Runs (source_of p) input opts j w) → RunFits (source_of p) input opts j w r →
      RunMeets (Told p few many) (source_of p) input opts j w r →
      RunMeets (KnowsReads (table_of p) few) (source_of p) input opts j w r →
      RunMeets (Fair (setting_of p few)) (source_of p) input opts j w r
  pub rides : (p : Program) → IsFormed p → breaks_of p ≡ [] → IsWithinLimits p → (few : Few) (many : ℕ) →
      (input : List ℕ) (opts : Options) → InRange opts → (j : Journal) (w : World) →
      (r : Runs (source_of p) input opts j w) → RunFits (source_of p) input opts j w r →
      RunMeets (Told p few many) (source_of p) input opts j w r →
      RunMeets (KnowsReads (table_of p) few) (source_of p) input opts j w r →
      is_over j ≡ false → (q t n : ℕ) (s : State) (asked : Asked) (d : AsksIn (source_of p) opts j w q t n s asked) →
      RideMeets (Told p few many) (source_of p) (answered (source_of p) d.given (drawn j w t)) (left opts j t) s n asked d.rides →
      RideMeets (KnowsReads (table_of p) few) (source_of p) (answered (source_of p) d.given (drawn j w t)) (left opts j t) s n asked d.rides →
      RideMeets (Fair (setting_of p few)) (source_of p) (answered (source_of p) d.given (drawn j w t)) (left opts j t) s n asked d.rides

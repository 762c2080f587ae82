-- Runs of programs in which marks are put for what is an execution's own.
use Rattle.std.specs.Prelude.{◌≡◌, ℕ, false, List, []}
use Rattle.uc_tree.specs.Programs.{Program}
use Rattle.uc_entry.specs.declared.entry.Options.{Options}
use Rattle.uc_acts.specs.Journal.{Journal, is_over}
use Rattle.uc_acts.specs.KernelRuns.{InRange}
use Rattle.uc_machine.specs.Quiet.{State}
use Rattle.uc_machine.specs.Answering.{answered}
use Rattle.uc_meaning.specs.Runs.{World, Runs, drawn}
use Rattle.uc_state_laws.specs.Fitting.{RunFits}
use Rattle.uc_resolve.specs.Resolve.{source_of}
use Rattle.uc_rules.specs.Breaks.{breaks_of}
use Rattle.uc_sound.specs.SoundFormed.{IsFormed}
use Rattle.uc_sound.specs.Tables.{table_of}
use Rattle.uc_state_laws.specs.RoomRuns.{Comes}
use Rattle.uc_state_laws.specs.Opens.{RunMeets, LeadsMeet}
use Rattle.uc_life_laws.specs.Things.{Few}
use Rattle.uc_life_laws.specs.Marks.{Puts}
use Rattle.uc_life_laws.specs.Unmarked.{RunUnmarked}
use Rattle.uc_putting_laws.specs.PuttingLaws.{setting_of, Fair}

-- in each run of a program that breaks no rule, as long as all that was asked before fits and each step finds what is left to find, marks are put so
-- in each state of each ride, and on the way to each state to which whoever runs comes before it asks
pub record LawRuns : Type 0 where
  pub runs : (p : Program) → IsFormed p → breaks_of p ≡ [] → (few : Few) →
      (input : List ℕ) (opts : Options) → InRange opts → (j : Journal) (w : World) →
      (r : Runs (source_of p) input opts j w) → RunFits (source_of p) input opts j w r →
      RunMeets (Fair (setting_of p few)) (source_of p) input opts j w r →
      RunMeets (Puts (table_of p) few) (source_of p) input opts j w r
  pub leads : (p : Program) → IsFormed p → breaks_of p ≡ [] → (few : Few) →
      (input : List ℕ) (opts : Options) → InRange opts → (j : Journal) (w : World) →
      (r : Runs (source_of p) input opts j w) → RunFits (source_of p) input opts j w r →
      RunMeets (Fair (setting_of p few)) (source_of p) input opts j w r →
      is_over j ≡ false → (t : ℕ) (s : State) (c : Comes (source_of p) j w t s) →
      LeadsMeet (Fair (setting_of p few)) (source_of p) (answered (source_of p) c.given (drawn j w t)) s c.leads →
      LeadsMeet (Puts (table_of p) few) (source_of p) (answered (source_of p) c.given (drawn j w t)) s c.leads
  -- so behind each act by which an object goes nobody has a mark around it, if who acts has its name alone
  pub gone : (p : Program) → IsFormed p → breaks_of p ≡ [] → (few : Few) →
      (input : List ℕ) (opts : Options) → InRange opts → (j : Journal) (w : World) →
      (r : Runs (source_of p) input opts j w) → RunFits (source_of p) input opts j w r →
      RunMeets (Fair (setting_of p few)) (source_of p) input opts j w r →
      RunUnmarked (table_of p) few (source_of p) input opts j w r

-- Runs of programs in which what constructors bind lies aside of the variables that are still to be bound.
use Rattle.std.specs.Prelude.{◌≡◌, ℕ, false, List, []}
use Rattle.uc_tree.specs.Programs.{Program}
use Rattle.uc_entry.specs.declared.entry.Options.{Options}
use Rattle.uc_acts.specs.Journal.{Journal, is_over}
use Rattle.uc_acts.specs.KernelRuns.{InRange}
use Rattle.uc_machine.specs.Quiet.{State}
use Rattle.uc_machine.specs.Answering.{answered}
use Rattle.uc_meaning.specs.Runs.{World, Runs, drawn}
use Rattle.uc_state_laws.specs.Fitting.{RunFits}
use Rattle.uc_resolve.specs.Resolve.{source_of}
use Rattle.uc_rules.specs.Breaks.{breaks_of}
use Rattle.uc_sound.specs.SoundFormed.{IsFormed}
use Rattle.uc_state_laws.specs.RoomRuns.{Comes}
use Rattle.uc_state_laws.specs.Opens.{RunMeets, LeadsMeet}
use Rattle.uc_place_laws.specs.AsideLaws.{Puts}

-- in each run of a program that breaks no rule, as long as all that was asked before fits, whatever is bound lies aside in each state of each ride,
-- and on the way to each state to which whoever runs comes before it asks; so it does there
pub record LawRuns : Type 0 where
  pub runs : (p : Program) → IsFormed p → breaks_of p ≡ [] →
      (input : List ℕ) (opts : Options) → InRange opts → (j : Journal) (w : World) →
      (r : Runs (source_of p) input opts j w) → RunFits (source_of p) input opts j w r →
      RunMeets (Puts (source_of p)) (source_of p) input opts j w r
  pub leads : (p : Program) → IsFormed p → breaks_of p ≡ [] →
      (input : List ℕ) (opts : Options) → InRange opts → (j : Journal) (w : World) →
      (r : Runs (source_of p) input opts j w) → RunFits (source_of p) input opts j w r →
      is_over j ≡ false → (t : ℕ) (s : State) (c : Comes (source_of p) j w t s) →
      LeadsMeet (Puts (source_of p)) (source_of p) (answered (source_of p) c.given (drawn j w t)) s c.leads
  pub comes : (p : Program) → IsFormed p → breaks_of p ≡ [] →
      (input : List ℕ) (opts : Options) → InRange opts → (j : Journal) (w : World) →
      (r : Runs (source_of p) input opts j w) → RunFits (source_of p) input opts j w r →
      is_over j ≡ false → (t : ℕ) (s : State) → Comes (source_of p) j w t s → Puts (source_of p) s

-- Mutex objects are ended by clean-ups alone, in the source and in runs, and who is on the way to read what it ends was at such a clean-up.
use Rattle.std.specs.Prelude.{◌≡◌, ℕ, false, List, []}
use Rattle.uc_tree.specs.Programs.{Program}
use Rattle.uc_entry.specs.declared.entry.Options.{Options}
use Rattle.uc_acts.specs.Journal.{Journal, is_over}
use Rattle.uc_acts.specs.KernelRuns.{InRange}
use Rattle.uc_machine.specs.Pieces.{State}
use Rattle.uc_machine.specs.Answering.{answered}
use Rattle.uc_meaning.specs.Runs.{World, Runs, drawn}
use Rattle.uc_state_laws.specs.Fitting.{RunFits}
use Rattle.uc_resolve.specs.Resolve.{source_of}
use Rattle.uc_rules.specs.Breaks.{breaks_of}
use Rattle.uc_state_laws.specs.Layout.{Sized}
use Rattle.uc_state_laws.specs.RoomStacks.{StackState}
use Rattle.uc_state_laws.specs.RoomRuns.{Comes}
use Rattle.uc_sound.specs.SoundFormed.{IsFormed}
use Rattle.uc_sound.specs.Tables.{table_of}
use Rattle.uc_state_laws.specs.Opens.{RunMeets, LeadsMeet}
use Rattle.uc_life_laws.specs.Things.{Few}
use Rattle.uc_life_laws.specs.HomedStates.{Owns, HomedState, Opens}
use Rattle.uc_homed_ends.specs.EndCode.{FreeSource}
use Rattle.uc_homed_ends.specs.EndWays.{NowState}

-- so it is in the source of every program that breaks no rule
abbrev pub LawCode : Type 0
LawCode = (p : Program) → IsFormed p → breaks_of p ≡ [] → FreeSource (table_of p) (source_of p)

-- what is in scope is at home, and the task keeps to its rooms
abbrev pub InOrder : Program → Owns → Few → State → Type 0
InOrder p owns few s = HomedState (table_of p) owns few s × StackState (Sized p) s

-- and in each run of it in which each scope opens where the mutex objects that it is of are at home, as long as all that was asked fits: in each state
-- of each ride, and of whoever runs on the way to each state to which it comes before it asks, that is on no such way, or was at the clean-up before
-- in a state in which what was in scope was at home, and which kept to its rooms, with the same memory
pub record LawWays : Type 0 where
  pub runs : (p : Program) → IsFormed p → breaks_of p ≡ [] → (owns : Owns) (few : Few) →
      (input : List ℕ) (opts : Options) → InRange opts → (j : Journal) (w : World) →
      (r : Runs (source_of p) input opts j w) → RunFits (source_of p) input opts j w r →
      RunMeets (Opens (table_of p) owns few) (source_of p) input opts j w r →
      RunMeets (NowState (table_of p) (InOrder p owns few)) (source_of p) input opts j w r
  pub leads : (p : Program) → IsFormed p → breaks_of p ≡ [] → (owns : Owns) (few : Few) →
      (input : List ℕ) (opts : Options) → InRange opts → (j : Journal) (w : World) →
      (r : Runs (source_of p) input opts j w) → RunFits (source_of p) input opts j w r →
      RunMeets (Opens (table_of p) owns few) (source_of p) input opts j w r →
      is_over j ≡ false → (t : ℕ) (s : State) (c : Comes (source_of p) j w t s) →
      LeadsMeet (Opens (table_of p) owns few) (source_of p) (answered (source_of p) c.given (drawn j w t)) s c.leads →
      LeadsMeet (NowState (table_of p) (InOrder p owns few)) (source_of p) (answered (source_of p) c.given (drawn j w t)) s c.leads

-- The first cell of a coroutine, at which its execution is found, names no execution of which the coroutine is the own.
use Rattle.std.specs.Prelude.{◌≡◌, ℕ, true, false, List, [], ◌∷◌, Option, Some}
use Rattle.uc_tree.specs.Programs.{Program}
use Rattle.uc_entry.specs.declared.entry.Options.{Options}
use Rattle.uc_acts.specs.Journal.{Journal, is_over}
use Rattle.uc_acts.specs.KernelRuns.{InRange}
use Rattle.uc_machine.specs.Pieces.{Todo, ForgetNow, State, own_exec}
use Rattle.uc_machine.specs.Answering.{answered}
use Rattle.uc_meaning.specs.Runs.{World, Runs, drawn}
use Rattle.uc_resolve.specs.Resolve.{source_of}
use Rattle.uc_rules.specs.Breaks.{breaks_of}
use Rattle.uc_sound.specs.SoundFormed.{IsFormed}
use Rattle.uc_sound.specs.Tables.{table_of}
use Rattle.uc_state_laws.specs.Fitting.{RunFits}
use Rattle.uc_state_laws.specs.Limits.{IsWithinLimits}
use Rattle.uc_state_laws.specs.RoomRuns.{Comes}
use Rattle.uc_state_laws.specs.Opens.{RunMeets, LeadsMeet}
use Rattle.uc_life_laws.specs.Things.{Few}
use Rattle.uc_life_laws.specs.Belonging.{Belongs}
use Rattle.uc_cell_laws.specs.Sites.{Telling, SitedSource}
use Rattle.uc_cell_laws.specs.CellStates.{CellState, CellFinds}
use Rattle.uc_cell_laws.specs.Classes.{class_of}
use Rattle.uc_cell_laws.specs.OwnCells.{telling_by}

-- it is told too whom first cells name
abbrev pub naming_of : Program → Few → (ℕ → Option ℕ) → Telling
naming_of p few class = telling_by p few class true

-- so, in each run of a program that breaks no rule and is within its limits, as long as no coroutine that is set up is the own of its new execution: in each state of
-- each ride, and on the way to each state to which whoever runs comes before it asks, and there. And in such a state the execution that is forgotten is another one,
-- where its coroutine is the running one's own
pub record LawCoroutines : Type 0 where
  pub runs : (p : Program) → IsFormed p → breaks_of p ≡ [] → IsWithinLimits p → (few : Few) (input : List ℕ) (opts : Options) → InRange opts →
      (j : Journal) (w : World) (r : Runs (source_of p) input opts j w) → RunFits (source_of p) input opts j w r →
      SitedSource (naming_of p few (class_of (table_of p) (source_of p) input opts j w r)) →
      RunMeets (CellFinds (naming_of p few (class_of (table_of p) (source_of p) input opts j w r))) (source_of p) input opts j w r →
      RunMeets (CellState (naming_of p few (class_of (table_of p) (source_of p) input opts j w r))) (source_of p) input opts j w r
  pub leads : (p : Program) → IsFormed p → breaks_of p ≡ [] → IsWithinLimits p → (few : Few) (input : List ℕ) (opts : Options) → InRange opts →
      (j : Journal) (w : World) (r : Runs (source_of p) input opts j w) → RunFits (source_of p) input opts j w r →
      SitedSource (naming_of p few (class_of (table_of p) (source_of p) input opts j w r)) →
      RunMeets (CellFinds (naming_of p few (class_of (table_of p) (source_of p) input opts j w r))) (source_of p) input opts j w r →
      is_over j ≡ false → (t : ℕ) (s : State) (c : Comes (source_of p) j w t s) →
      LeadsMeet (CellFinds (naming_of p few (class_of (table_of p) (source_of p) input opts j w r))) (source_of p) (answered (source_of p) c.given (drawn j w t)) s c.leads →
      CellState (naming_of p few (class_of (table_of p) (source_of p) input opts j w r)) s
  pub forgets : (p : Program) → IsFormed p → breaks_of p ≡ [] → IsWithinLimits p → (few : Few) (class : ℕ → Option ℕ) (s : State) →
      CellState (naming_of p few class) s → (todo : List Todo) → s.run.control ≡ ForgetNow ∷ todo →
      Belongs few s.env.exec s.run.this → own_exec s ≡ Some s.env.exec → ⊥

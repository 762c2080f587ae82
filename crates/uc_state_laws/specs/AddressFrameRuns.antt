-- Runs of sources of which no routine takes more cells than a number: no frame does.
use Rattle.std.specs.Prelude.{ℕ, List}
use Rattle.uc_tree.specs.Source.{Source}
use Rattle.uc_entry.specs.declared.entry.Options.{Options}
use Rattle.uc_acts.specs.Journal.{Journal}
use Rattle.uc_machine.specs.Pieces.{State}
use Rattle.uc_meaning.specs.Runs.{World, Runs}
use Rattle.uc_state_laws.specs.RoomRuns.{Comes}
use Rattle.uc_state_laws.specs.FrameSizes.{SourceFits, StateFits, MembersFit}

-- so it is of each task at rest, of what is at home in each object, and in all states to which whoever runs comes before it asks
pub record KeepsSizes (most : ℕ) (source : Source) (j : Journal) (w : World) : Type 0 where
  pub tasks : (t : ℕ) → StateFits most (w.tasks t)
  pub homes : (o : ℕ) → MembersFit most (w.homes o)
  pub comes : (t : ℕ) (s : State) → Comes source j w t s → StateFits most s

abbrev pub LawRuns : Type 0
LawRuns = (most : ℕ) (source : Source) → SourceFits most source → (input : List ℕ) (opts : Options) →
    (j : Journal) (w : World) → Runs source input opts j w → KeepsSizes most source j w

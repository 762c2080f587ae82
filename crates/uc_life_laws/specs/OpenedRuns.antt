-- Runs of programs in which of scopes only those of plain objects are asked: what is known by its number is there once its variable is bound.
use Rattle.std.specs.Prelude.{◌≡◌, ℕ, false, List, []}
use Rattle.uc_tree.specs.Programs.{Program}
use Rattle.uc_tree.specs.Source.{Source}
use Rattle.uc_entry.specs.declared.entry.Options.{Options}
use Rattle.uc_acts.specs.Journal.{Journal, is_over}
use Rattle.uc_acts.specs.KernelRuns.{InRange}
use Rattle.uc_machine.specs.Quiet.{State}
use Rattle.uc_machine.specs.Answering.{answered}
use Rattle.uc_meaning.specs.Runs.{World, Runs, drawn}
use Rattle.uc_state_laws.specs.Fitting.{RunFits}
use Rattle.uc_resolve.specs.Resolve.{source_of}
use Rattle.uc_rules.specs.Breaks.{breaks_of}
use Rattle.uc_state_laws.specs.RoomRuns.{Comes}
use Rattle.uc_state_laws.specs.Opens as there
use Rattle.uc_state_laws.specs.Opens.{RunMeets, LeadsMeet}
use Rattle.uc_typing.specs.Typing.{Table}
use Rattle.uc_typing.specs.Laws.{ReadsIn}
use Rattle.uc_sound.specs.SoundFormed.{IsFormed}
use Rattle.uc_sound.specs.Tables.{table_of}
use Rattle.uc_life_laws.specs.Lives.{LivesState}
use Rattle.uc_life_laws.specs.Knowing.{KnowsState, Finds}
use Rattle.uc_life_laws.specs.Opened.{any, ObjectsOpen}

-- a step finds what it is to find: what is bound is there behind the step, and scopes open in frames of which all cells have addresses; and by some
-- typing the step finds the rest, and where a scope of plain objects opens, they hold what is known
pub record MeetsObjects (t : Table) (source : Source) (s : State) : Type 0 where
  pub opens : there.Opens source s
  pub finds : LivesState t any s → (x : LivesState t any s) ×
      (Finds t any x.0.sigs x.0.run.sig x.0.run.scope s s.run.control x.0.run.own × ObjectsOpen t x.0.sigs s)

-- all is known then of whoever runs in each state to which it comes before it asks, what is in scope holds what is, and what its next step reads
-- is of its type
pub record IsFollowed (t : Table) (source : Source) (j : Journal) (w : World) : Type 0 where
  pub comes : (n : ℕ) (s : State) (c : Comes source j w n s) →
      LeadsMeet (MeetsObjects t source) source (answered source c.given (drawn j w n)) s c.leads →
      KnowsState t any [] s
  pub lives : (n : ℕ) (s : State) (c : Comes source j w n s) →
      LeadsMeet (MeetsObjects t source) source (answered source c.given (drawn j w n)) s c.leads →
      LivesState t any s
  pub reads : (n : ℕ) (s : State) (c : Comes source j w n s) →
      LeadsMeet (MeetsObjects t source) source (answered source c.given (drawn j w n)) s c.leads →
      MeetsObjects t source s → ReadsIn t s

-- so it is in each run of a program that breaks no rule, as long as all that was asked so far fits
abbrev pub LawOpenedRuns : Type 0
LawOpenedRuns =
    (p : Program) → IsFormed p → breaks_of p ≡ [] →
    (input : List ℕ) (opts : Options) → InRange opts →
    (j : Journal) (w : World) (r : Runs (source_of p) input opts j w) →
    RunFits (source_of p) input opts j w r → is_over j ≡ false →
    RunMeets (MeetsObjects (table_of p) (source_of p)) (source_of p) input opts j w r →
    IsFollowed (table_of p) (source_of p) j w

-- Runs of programs in which nobody else has at hand what a task lets go of: nothing else is owed to that.
use Rattle.std.specs.Prelude.{◌≡◌, ℕ, false, List, []}
use Rattle.uc_tree.specs.Programs.{Program}
use Rattle.uc_tree.specs.Source.{Source}
use Rattle.uc_entry.specs.declared.entry.Options.{Options}
use Rattle.uc_entry.specs.declared.request.Asked.{Asked}
use Rattle.uc_acts.specs.Journal.{Journal, is_over}
use Rattle.uc_acts.specs.Serves.{left}
use Rattle.uc_acts.specs.KernelRuns.{InRange}
use Rattle.uc_machine.specs.Quiet.{State}
use Rattle.uc_machine.specs.Answering.{answered}
use Rattle.uc_resolve.specs.Resolve.{source_of}
use Rattle.uc_rules.specs.Breaks.{breaks_of}
use Rattle.uc_meaning.specs.Runs.{World, Runs, AsksIn, drawn}
use Rattle.uc_state_laws.specs.Fitting.{RunFits}
use Rattle.uc_state_laws.specs.Opens.{RideMeets, RunMeets}
use Rattle.uc_typing.specs.Typing.{Table}
use Rattle.uc_sound.specs.SoundFormed.{IsFormed}
use Rattle.uc_sound.specs.Tables.{table_of}
use Rattle.uc_life_laws.specs.Things.{Few}
use Rattle.uc_life_laws.specs.Knowing.{KnowsState}
use Rattle.uc_life_laws.specs.KnownAnswers.{MainPasses}
use Rattle.uc_life_laws.specs.KnownRuns.{PassesBelow, Meets}
use Rattle.uc_letting_laws.specs.AloneRuns.{RideAlone, RunAlone}
use Rattle.uc_life_laws.specs.AtHand.{IsApart}

-- at a step: where all is known, nobody else has at hand what is let go of, nor what is entered again to be destroyed
abbrev pub StepApart : Table → Few → Source → State → Type 0
StepApart t few source s = (k : KnowsState t few [] s) → IsApart t few source s k

-- so in each run of a program that breaks no rule, as long as all that was asked so far fits and each step found what it was to find, and on the
-- way to what is asked next
pub record LawApartRuns : Type 0 where
  pub runs : (p : Program) → IsFormed p → breaks_of p ≡ [] → (few : Few) →
      (input : List ℕ) (opts : Options) → InRange opts →
      (j : Journal) (w : World) (r : Runs (source_of p) input opts j w) →
      RunFits (source_of p) input opts j w r → PassesBelow few opts j →
      MainPasses (table_of p) few ((table_of p).routine (source_of p).main).this 0 →
      RunMeets (Meets (table_of p) few) (source_of p) input opts j w r →
      RunMeets (StepApart (table_of p) few (source_of p)) (source_of p) input opts j w r →
      RunAlone (source_of p) input opts j w r
  pub rides : (p : Program) → IsFormed p → breaks_of p ≡ [] → (few : Few) →
      (input : List ℕ) (opts : Options) → InRange opts →
      (j : Journal) (w : World) (r : Runs (source_of p) input opts j w) →
      RunFits (source_of p) input opts j w r → is_over j ≡ false → PassesBelow few opts j →
      MainPasses (table_of p) few ((table_of p).routine (source_of p).main).this 0 →
      RunMeets (Meets (table_of p) few) (source_of p) input opts j w r →
      RunMeets (StepApart (table_of p) few (source_of p)) (source_of p) input opts j w r →
      (q t n : ℕ) (s : State) (asked : Asked) (d : AsksIn (source_of p) opts j w q t n s asked) →
      RideMeets (Meets (table_of p) few) (source_of p) (answered (source_of p) d.given (drawn j w t)) (left opts j t) s n asked d.rides →
      RideMeets (StepApart (table_of p) few (source_of p)) (source_of p) (answered (source_of p) d.given (drawn j w t)) (left opts j t) s n asked d.rides →
      RideAlone (source_of p) (answered (source_of p) d.given (drawn j w t)) (left opts j t) s n asked d.rides

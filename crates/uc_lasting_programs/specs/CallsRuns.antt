-- Runs of programs that break no rule: each activation has its object, as long as steps find what they are to find.
use Rattle.std.specs.Prelude.{◌≡◌, ℕ, false, List, []}
use Rattle.uc_tree.specs.Programs.{Program}
use Rattle.uc_entry.specs.declared.entry.Options.{Options}
use Rattle.uc_entry.specs.declared.request.Asked.{Asked}
use Rattle.uc_acts.specs.Journal.{Journal, is_over}
use Rattle.uc_acts.specs.Serves.{left}
use Rattle.uc_acts.specs.KernelRuns.{InRange}
use Rattle.uc_machine.specs.declared.exec.Exec.{Exec}
use Rattle.uc_machine.specs.Pieces.{Value}
use Rattle.uc_machine.specs.Quiet.{State}
use Rattle.uc_machine.specs.Answering.{answered}
use Rattle.uc_meaning.specs.Runs.{World, Runs, AsksIn, drawn}
use Rattle.uc_state_laws.specs.Fitting.{RunFits}
use Rattle.uc_resolve.specs.Resolve.{source_of}
use Rattle.uc_rules.specs.Breaks.{breaks_of}
use Rattle.uc_state_laws.specs.Opens.{RideMeets, RunMeets}
use Rattle.uc_typing.specs.Typing.{Ty}
use Rattle.uc_sound.specs.SoundFormed.{IsFormed}
use Rattle.uc_sound.specs.Tables.{table_of}
use Rattle.uc_life_laws.specs.Things.{Few, Base}
use Rattle.uc_life_laws.specs.Lives.{LivesState}
use Rattle.uc_life_laws.specs.Knowing.{KnowsState}
use Rattle.uc_life_laws.specs.KnownAnswers.{MainPasses}
use Rattle.uc_life_laws.specs.KnownRuns.{PassesBelow, Meets}
use Rattle.uc_life_laws.specs.Rooted.{IsBase}
use Rattle.uc_putting_laws.specs.Putting.{PutState}
use Rattle.uc_putting_laws.specs.PuttingLaws.{special_of, setting_of, Fair}
use Rattle.uc_making_laws.specs.OwnThis.{FindsThis}
use Rattle.uc_making_laws.specs.ThisRuns.{KeepsThis}
use Rattle.uc_making_laws.specs.LettingGo.{FindsTold}

-- what is left as a whole is a constructor or a destructor. A step finds what is called, made and spawned had where all is known, what is in scope holds
-- what is known, and of operands it is known what is the execution's own (`PutState` of uc_putting_laws), where executions have places alone of others, and objects that are not whole. So
-- it is in each run in which all that was asked so far fits, and on the way to what is asked next; and in runs what is called on an object is told of
-- it, or lets go of it
pub record LawCallsRuns : Type 0 where
  pub special : (p : Program) (r : ℕ) → special_of p r ≡ false → ((table_of p).routine r).whole ≡ false
  pub state : (p : Program) → IsFormed p → breaks_of p ≡ [] → (few : Few) →
      ((n : Exec) (w : Value) (b : Ty) → Base few n w b → IsBase w b) →
      (s : State) → PutState (setting_of p few) s → LivesState (table_of p) few s → KnowsState (table_of p) few [] s →
      Meets (table_of p) few s → FindsThis (table_of p) few (source_of p) s
  pub runs : (p : Program) → IsFormed p → breaks_of p ≡ [] → (few : Few) →
      ((n : Exec) (w : Value) (b : Ty) → Base few n w b → IsBase w b) →
      (input : List ℕ) (opts : Options) → InRange opts → (j : Journal) (w : World) →
      (r : Runs (source_of p) input opts j w) → RunFits (source_of p) input opts j w r → PassesBelow few opts j →
      MainPasses (table_of p) few ((table_of p).routine (source_of p).main).this 0 →
      RunMeets (Meets (table_of p) few) (source_of p) input opts j w r →
      RunMeets (Fair (setting_of p few)) (source_of p) input opts j w r →
      RunMeets (FindsThis (table_of p) few (source_of p)) (source_of p) input opts j w r ×
      KeepsThis (table_of p) few (source_of p) input opts j w r ×
      RunMeets (FindsTold (table_of p) few (source_of p)) (source_of p) input opts j w r
  pub rides : (p : Program) → IsFormed p → breaks_of p ≡ [] → (few : Few) →
      ((n : Exec) (w : Value) (b : Ty) → Base few n w b → IsBase w b) →
      (input : List ℕ) (opts : Options) → InRange opts → (j : Journal) (w : World) →
      (r : Runs (source_of p) input opts j w) → RunFits (source_of p) input opts j w r → is_over j ≡ false →
      PassesBelow few opts j → MainPasses (table_of p) few ((table_of p).routine (source_of p).main).this 0 →
      RunMeets (Meets (table_of p) few) (source_of p) input opts j w r →
      RunMeets (Fair (setting_of p few)) (source_of p) input opts j w r →
      (q t n : ℕ) (s : State) (asked : Asked) (d : AsksIn (source_of p) opts j w q t n s asked) →
      RideMeets (Meets (table_of p) few) (source_of p) (answered (source_of p) d.given (drawn j w t)) (left opts j t) s n asked d.rides →
      RideMeets (Fair (setting_of p few)) (source_of p) (answered (source_of p) d.given (drawn j w t)) (left opts j t) s n asked d.rides →
      RideMeets (FindsThis (table_of p) few (source_of p)) (source_of p) (answered (source_of p) d.given (drawn j w t)) (left opts j t) s n asked d.rides ×
      RideMeets (FindsTold (table_of p) few (source_of p)) (source_of p) (answered (source_of p) d.given (drawn j w t)) (left opts j t) s n asked d.rides

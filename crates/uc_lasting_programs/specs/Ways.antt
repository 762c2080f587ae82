-- Runs of programs in which nobody else has at hand what is let go of, on the way to that and behind the act by which it goes.
use Rattle.std.specs.Prelude.{◌≡◌, ℕ, false, List, [], ◌++◌}
use Rattle.uc_tree.specs.Programs.{Program}
use Rattle.uc_entry.specs.declared.entry.Entry.{Entry}
use Rattle.uc_entry.specs.declared.entry.Options.{Options}
use Rattle.uc_entry.specs.declared.request.Asked.{Asked}
use Rattle.uc_acts.specs.Journal.{Journal, is_over}
use Rattle.uc_acts.specs.Serves.{left}
use Rattle.uc_acts.specs.KernelRuns.{InRange}
use Rattle.uc_machine.specs.declared.exec.Exec.{Exec}
use Rattle.uc_machine.specs.Pieces.{Value, Active, State}
use Rattle.uc_machine.specs.Answering.{answered}
use Rattle.uc_meaning.specs.Runs.{World, Runs, AsksIn, drawn}
use Rattle.uc_state_laws.specs.Fitting.{RunFits}
use Rattle.uc_resolve.specs.Resolve.{source_of}
use Rattle.uc_rules.specs.Breaks.{breaks_of}
use Rattle.uc_sound.specs.SoundFormed.{IsFormed}
use Rattle.uc_sound.specs.Tables.{table_of}
use Rattle.uc_state_laws.specs.Limits.{IsWithinLimits}
use Rattle.uc_state_laws.specs.Opens.{RideMeets, RunMeets}
use Rattle.uc_typing.specs.Typing.{Ty, Table}
use Rattle.uc_life_laws.specs.Things.{Few, Base}
use Rattle.uc_life_laws.specs.KnownAnswers.{MainPasses}
use Rattle.uc_life_laws.specs.KnownRuns.{PassesBelow, Meets}
use Rattle.uc_life_laws.specs.Belonging.{Belongs}
use Rattle.uc_life_laws.specs.Rooted.{IsBase, Lives}
use Rattle.uc_putting_laws.specs.PuttingLaws.{setting_of, Fair}
use Rattle.uc_request_laws.specs.ApartRuns.{StepApart}
use Rattle.uc_apart_laws.specs.Clear.{IsNoHome}
use Rattle.uc_making_laws.specs.BeforeRides.{ElsewhereOnWay}
use Rattle.uc_making_laws.specs.ForgetsThis.{RunGoes, IsLeftNowhere}
use Rattle.uc_lasting_programs.specs.Sparing.{KnowsHomes}

-- behind an act of this task by which an object goes that is at home in what is the own of who runs there, nobody who lives has of others that in which it is at
-- home, or it as one that is not whole
pub record IsBareBehind (t : Table) (few : Few) (j : Journal) (a : List Entry) (x : World) (u o : ℕ) : Type 0 where
  pub bare : Belongs few (x.tasks u).env.exec (few.home o) → (n : Exec) (cs : List Active) → Lives (j ++ a) x n cs → IsNoHome t few o (Base few n)

-- then at each step nobody else has at hand what is let go of, in each run in which all that was asked so far fits, where executions have places alone of
-- others, and objects that are not whole, object 0 is at home in nobody's own, steps find what they are to find, homes are told and all is known, and what
-- executions have of others that do not run in the task is elsewhere where an object is let go of; and so it is on the way to what is asked next. Behind each act
-- by which an object goes nobody has at hand that in which it was at home, if nobody has it of others
pub record LawWays : Type 0 where
  pub runs : (p : Program) → IsFormed p → breaks_of p ≡ [] → IsWithinLimits p → (few : Few) (many : ℕ) → ((n : Exec) (w : Value) (b : Ty) → Base few n w b → IsBase w b) →
      ((n : Exec) → Belongs few n (few.home 0) → ⊥) →
      (input : List ℕ) (opts : Options) → InRange opts →
      (j : Journal) (w : World) (r : Runs (source_of p) input opts j w) →
      RunFits (source_of p) input opts j w r → is_over j ≡ false → PassesBelow few opts j →
      MainPasses (table_of p) few ((table_of p).routine (source_of p).main).this 0 →
      RunMeets (Meets (table_of p) few) (source_of p) input opts j w r →
      RunMeets (Fair (setting_of p few)) (source_of p) input opts j w r →
      RunMeets (KnowsHomes p few many) (source_of p) input opts j w r →
      RunMeets (λ v. ElsewhereOnWay (table_of p) few v (source_of p)) (source_of p) input opts j w r →
      RunMeets (StepApart (table_of p) few (source_of p)) (source_of p) input opts j w r
  pub goes : (p : Program) → IsFormed p → breaks_of p ≡ [] → IsWithinLimits p → (few : Few) (many : ℕ) → ((n : Exec) (w : Value) (b : Ty) → Base few n w b → IsBase w b) →
      ((n : Exec) → Belongs few n (few.home 0) → ⊥) →
      (input : List ℕ) (opts : Options) → InRange opts →
      (j : Journal) (w : World) (r : Runs (source_of p) input opts j w) →
      RunFits (source_of p) input opts j w r → is_over j ≡ false → PassesBelow few opts j →
      MainPasses (table_of p) few ((table_of p).routine (source_of p).main).this 0 →
      RunMeets (Meets (table_of p) few) (source_of p) input opts j w r →
      RunMeets (Fair (setting_of p few)) (source_of p) input opts j w r →
      RunMeets (KnowsHomes p few many) (source_of p) input opts j w r →
      RunMeets (λ v. ElsewhereOnWay (table_of p) few v (source_of p)) (source_of p) input opts j w r →
      RunGoes (IsBareBehind (table_of p) few) (source_of p) input opts r →
      RunGoes (IsLeftNowhere (table_of p) few) (source_of p) input opts r
  pub rides : (p : Program) → IsFormed p → breaks_of p ≡ [] → IsWithinLimits p → (few : Few) (many : ℕ) → ((n : Exec) (w : Value) (b : Ty) → Base few n w b → IsBase w b) →
      ((n : Exec) → Belongs few n (few.home 0) → ⊥) →
      (input : List ℕ) (opts : Options) → InRange opts →
      (j : Journal) (w : World) (r : Runs (source_of p) input opts j w) →
      RunFits (source_of p) input opts j w r → is_over j ≡ false → PassesBelow few opts j →
      MainPasses (table_of p) few ((table_of p).routine (source_of p).main).this 0 →
      RunMeets (Meets (table_of p) few) (source_of p) input opts j w r →
      RunMeets (Fair (setting_of p few)) (source_of p) input opts j w r →
      RunMeets (KnowsHomes p few many) (source_of p) input opts j w r →
      RunMeets (λ v. ElsewhereOnWay (table_of p) few v (source_of p)) (source_of p) input opts j w r →
      (q t n : ℕ) (s : State) (asked : Asked) (d : AsksIn (source_of p) opts j w q t n s asked) →
      RideMeets (Meets (table_of p) few) (source_of p) (answered (source_of p) d.given (drawn j w t)) (left opts j t) s n asked d.rides →
      RideMeets (Fair (setting_of p few)) (source_of p) (answered (source_of p) d.given (drawn j w t)) (left opts j t) s n asked d.rides →
      RideMeets (KnowsHomes p few many) (source_of p) (answered (source_of p) d.given (drawn j w t)) (left opts j t) s n asked d.rides →
      RideMeets (λ v. ElsewhereOnWay (table_of p) few v (source_of p)) (source_of p) (answered (source_of p) d.given (drawn j w t)) (left opts j t) s n asked d.rides →
      RideMeets (StepApart (table_of p) few (source_of p)) (source_of p) (answered (source_of p) d.given (drawn j w t)) (left opts j t) s n asked d.rides

-- All that is left to show of the runs of a program that breaks no rule, so that all that it asks fits.
use Rattle.std.specs.Prelude.{◌≡◌, ℕ, ◌<◌, ℤ, false, List, [], ◌∷◌, true, Option}
use Rattle.uc_tree.specs.Programs.{Program}
use Rattle.uc_entry.specs.declared.entry.Options.{Options}
use Rattle.uc_entry.specs.declared.request.Asked.{Asked}
use Rattle.uc_entry.specs.declared.request.Request.TheVariants as ask
use Rattle.uc_acts.specs.Journal.{Journal, is_over}
use Rattle.uc_acts.specs.Known.{object_count, is_gone, owner}
use Rattle.uc_acts.specs.Serves.{left}
use Rattle.uc_acts.specs.KernelRuns.{InRange}
use Rattle.uc_machine.specs.Pieces.{Value, Todo, EnterNow, State}
use Rattle.uc_machine.specs.Quiet.{quiet, Asks}
use Rattle.uc_machine.specs.Answering.{answered}
use Rattle.uc_resolve.specs.Resolve.{source_of}
use Rattle.uc_rules.specs.Breaks.{breaks_of}
use Rattle.uc_sound.specs.SoundFormed.{IsFormed}
use Rattle.uc_sound.specs.Tables.{table_of}
use Rattle.uc_meaning.specs.Runs.{World, Runs, AsksIn, drawn}
use Rattle.uc_meaning.specs.Cuts.{Reentry}
use Rattle.uc_state_laws.specs.Fitting.{RunFits}
use Rattle.uc_state_laws.specs.Limits.{IsWithinLimits}
use Rattle.uc_state_laws.specs.Endings.{RideHolds}
use Rattle.uc_state_laws.specs.Opens.{RideMeets}
use Rattle.uc_typing.specs.Typing.{Cell, Obj}
use Rattle.uc_life_laws.specs.Things.{Few, Stands}
use Rattle.uc_life_laws.specs.Marks.{Marked}
use Rattle.uc_life_laws.specs.Belonging.{Belongs}
use Rattle.uc_life_laws.specs.Homes.{home_of}
use Rattle.uc_life_laws.specs.Lasting.{lasting}
use Rattle.uc_homed_ends.specs.Ended.{is_variable}
use Rattle.uc_building_laws.specs.Building.{heads_of}
use Rattle.uc_cell_laws.specs.Classes.{class_of}
use Rattle.uc_cell_laws.specs.OwnCells.{owns_of}
use Rattle.uc_making_laws.specs.NoOthers.{NoThis}
use Rattle.uc_lasting_programs.specs.Lent.{AreTold, IsOutlived, has_read}
use Rattle.uc_lasting_programs.specs.Meeting.{RunHoldsAt}
use Rattle.uc_lasting_programs.specs.Remaining.{LeftOutside}
use Rattle.uc_lasting_programs.specs.Telling.{few_of}
use Rattle.uc_lasting_programs.specs.UnderWay.{OfTasks}
use Rattle.uc_lasting_programs.specs.Bases.{based, RunHoldsOnWay, ReadsOpen}

-- where an event is raised at an object: none of the activations of who raises it is of the object; and where that is at home in what they are to clean up, as one
-- of a class of tasks, it was made of such a class
pub record IsRaised (p : Program) (input : List ℕ) (opts : Options) (j : Journal) (w : World) (r : Runs (source_of p) input opts j w) (few : Few) (s : State) (o : ℕ) : Type 0 where
  pub unbuilt : NoThis o (s.run ∷ s.callers)
  pub tasks : (i : ℕ) → (table_of p).tasks i ≡ true → Stands (table_of p) few (Marked (table_of p) s.env.exec (s.run ∷ s.callers)) (Cell (Obj i)) (few.home o) →
      OfTasks (table_of p) (class_of (table_of p) (source_of p) input opts j w r) o

-- of a run, and of what task t asks in it, by what the run tells: so what executions have of others too
pub record IsLeftFor (p : Program) (input : List ℕ) (opts : Options) (j : Journal) (w : World) (r : Runs (source_of p) input opts j w) (q t n : ℕ) (s : State) (asked : Asked) (d : AsksIn (source_of p) opts j w q t n s asked) : Type 0 where
  -- each step finds what it is to find where what is gone has no number any more, but where a clean-up finds and reads the variable that it ends
  pub met : RunHoldsAt (λ i. LeftOutside (table_of p) (owns_of p) (heads_of p) (class_of (table_of p) (source_of p) input opts j w r) (lasting (few_of p input opts j w r (based p input opts r d)) i)) (source_of p) input opts j w r
  pub met_now : RideHolds (LeftOutside (table_of p) (owns_of p) (heads_of p) (class_of (table_of p) (source_of p) input opts j w r) (lasting (few_of p input opts j w r (based p input opts r d)) j)) (source_of p) 0 (answered (source_of p) d.given (drawn j w t)) (left opts j t) s n asked d.rides
  -- around the homes of mutex objects that executions read in references of mutex objects, if these are not their own, nothing goes, is given up or is built while
  -- they live
  pub clear : RunHoldsOnWay (λ i x u v. ReadsOpen (few_of p input opts j w r (based p input opts r d)) (source_of p) (has_read p input opts r d) i x u v) (source_of p) input opts r
  pub clear_now : RideMeets (λ v. ReadsOpen (few_of p input opts j w r (based p input opts r d)) (source_of p) (has_read p input opts r d) j w t v) (source_of p) (answered (source_of p) d.given (drawn j w t)) (left opts j t) s n asked d.rides
  -- what is bound to a reference of a mutex object is not gone as long as the object is not that has the reference
  pub outlived : (homes : ℕ → Value) → AreTold (object_count j) (λ o. home_of (source_of p) input opts j w r o) homes →
      (class : ℕ → Option ℕ) → AreTold (object_count j) (λ o. class_of (table_of p) (source_of p) input opts j w r o) class →
      IsOutlived p homes class input opts j w r q t n s asked d
  -- what is entered next to be destroyed is not gone, where it is at home in what is the own of who enters it, but at no variable
  pub ended : (v : State) (k i : ℕ) (todo : List Todo) → v.run.control ≡ EnterNow k i ∷ todo → ((table_of p).routine i).whole ≡ true → (o m : ℕ) → quiet (source_of p) v ≡ Asks (ask.Call o m) s →
      Belongs (few_of p input opts j w r (based p input opts r d)) v.env.exec ((few_of p input opts j w r (based p input opts r d)).home o) → is_variable ((few_of p input opts j w r (based p input opts r d)).home o) ≡ false → is_gone o j ≡ false
  -- where an event is raised at what was made, is not gone and is of no task yet
  pub raised : (v : State) (o event : ℕ) (x y : ℤ) → quiet (source_of p) v ≡ Asks (ask.Raise o event x y) s → owner o j ≡ [] → o < object_count j → is_gone o j ≡ false → IsRaised p input opts j w r (few_of p input opts j w r (based p input opts r d)) v o

-- then all that a program which breaks no rule and is within its limits asks fits, if that is so of each run in which all that was asked so far fits, and of what is asked next
abbrev pub LawLastingPrograms : Type 0
LawLastingPrograms =
    (p : Program) → IsFormed p → breaks_of p ≡ [] → IsWithinLimits p → (input : List ℕ) (opts : Options) → InRange opts →
    ((j : Journal) (w : World) (r : Runs (source_of p) input opts j w) → RunFits (source_of p) input opts j w r →
    is_over j ≡ false → (q t n : ℕ) (s : State) (asked : Asked) (d : AsksIn (source_of p) opts j w q t n s asked) →
    IsLeftFor p input opts j w r q t n s asked d) → Reentry (source_of p) input opts

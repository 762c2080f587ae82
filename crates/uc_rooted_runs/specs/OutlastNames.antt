-- What names alone tell of runs in which what executions were to clean up as they made others stays with them: each new name is none that was there.
use Rattle.std.specs.Prelude.{◌≡◌, ℕ, Bool, true, false, List, ◌∷◌, Some}
use Rattle.uc_tree.specs.Source.{Source}
use Rattle.uc_entry.specs.declared.entry.Entry.{Entry}
use Rattle.uc_entry.specs.declared.entry.Options.{Options}
use Rattle.uc_entry.specs.declared.request.Asked.{Asked}
use Rattle.uc_entry.specs.declared.request.Request.{Request}
use Rattle.uc_entry.specs.declared.request.Request.TheVariants as ask
use Rattle.uc_acts.specs.Journal.{Journal, is_over}
use Rattle.uc_acts.specs.KernelRuns.{InRange}
use Rattle.uc_machine.specs.declared.exec.Exec.{Exec}
use Rattle.uc_machine.specs.Executions.{members_at}
use Rattle.uc_machine.specs.Switches.{new_exec}
use Rattle.uc_machine.specs.Pieces.{Value, Todo, SetUpNow, State, Members, Goes}
use Rattle.uc_machine.specs.Quiet.{quiet, home_at}
use Rattle.uc_machine.specs.Rides.{Rides, slices, goes_on, ticks, asks}
use Rattle.uc_meaning.specs.Runs.{World, May, Runs, gives, no_room, acts, begun, more}
use Rattle.uc_state_laws.specs.Fitting.{RunFits}
use Rattle.uc_state_laws.specs.Opens.{RunMeets}
use Rattle.uc_name_laws.specs.NameSteps as names
use Rattle.uc_name_laws.specs.NameSteps.{IsBorn}
use Rattle.uc_life_laws.specs.RunningRuns.{RunLeaves}
use Rattle.uc_life_laws.specs.Knowing.{main_of}
use Rattle.uc_rooted_runs.specs.Makers.{Makers}
use Rattle.uc_rooted_runs.specs.Births.{AllMadeLater}
use Rattle.uc_rooted_runs.specs.Outlasting.{IsAlone}
use Rattle.uc_rooted_runs.specs.OutlastRuns.{with_homes, made_behind, ride_made, made_asked, run_made, now, NoneElsewhere}

module _ (makers : Makers) (asked : Exec → Bool) where
  -- at a state that makes an execution: none of those that were made by now was made by that, and behind it no other has the name of the running one
  pub record NamesAt (source : Source) (made : Exec → Bool) (s : State) : Type 0 where
    pub new : (r : ℕ) (todo : List Todo) → s.run.control ≡ SetUpNow r ∷ todo → (m : Members) →
        members_at (home_at s.run.this s.env) s.env ≡ Some m → (x : Exec) → now makers asked made x ≡ true →
        makers.parent x ≡ new_exec (home_at s.run.this s.env) s.env → ⊥
    pub alone : (n : Exec) → IsBorn source s n → (u : State) → quiet source s ≡ Goes u → IsAlone u.env

  abbrev pub RideNames : (source : Source) → (Exec → Bool) → {s u : State} {q k : ℕ} {a : Asked} → Rides source s q u k a → Type 0
  RideNames source made slices = Unit {0}
  RideNames source made (goes_on {s} e r) = NamesAt source made s × RideNames source (made_behind source s made) r
  RideNames source made (ticks {s} e r) = NamesAt source made s × RideNames source (made_behind source s made) r
  RideNames source made (asks {s} e) = NamesAt source made s

  -- as a task is spawned, no other has the name of who asks that, and its main has made none
  abbrev pub SpawnsNew : (Exec → Bool) → Request → State → Type 0
  SpawnsNew made (ask.Spawn o) s = IsAlone s.env ×
      ((x : Exec) → now makers asked (made_asked (ask.Spawn o) made) x ≡ true → makers.parent x ≡ main_of o → ⊥)
  SpawnsNew made r s = Unit {0}

  module _ (source : Source) (input : List ℕ) (opts : Options) where
    -- and at the end of an act nobody elsewhere has made any of those that were made meanwhile
    abbrev pub MayName : (Exec → Bool) → {j : Journal} {w : World} {a : List Entry} {x : World} → May source opts input j w a x → Type 0
    MayName made (gives p t s h) = Unit {0}
    MayName made (no_room p t s h) = Unit {0}
    MayName made {j} {w} (acts p t k s q d) = RideNames source made d.rides ×
        SpawnsNew (ride_made source made d.rides) q.request s ×
        NoneElsewhere makers asked made (made_asked q.request (ride_made source made d.rides)) j w t s

    -- at each state and each act of a run
    abbrev pub RunNames : {j : Journal} {w : World} → Runs source input opts j w → Type 0
    RunNames begun = Unit {0}
    RunNames (more r o m) = RunNames r × MayName (run_made source input opts r) m

-- so it is in each run in which all that was asked so far fits, of whatever source, as long as no step forgets the running execution, and nobody
-- leaves its home for good
abbrev pub LawOutlastNames : Type 0
LawOutlastNames =
    (asked : Exec → Bool) (homes : ℕ → Value) (source : Source) (input : List ℕ) (opts : Options) (j : Journal) (w : World)
    (r : Runs source input opts j w) → InRange opts → RunFits source input opts j w r → is_over j ≡ false →
    RunLeaves source input opts j w r → RunMeets names.Spares source input opts j w r →
    (b : AllMadeLater source input opts j w r) →
    RunNames (with_homes homes b.makers) asked source input opts r

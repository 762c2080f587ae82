-- Runs of programs in which parts of objects under construction are taken over, so that executions are held soon, as far as their coroutines are forgotten and
-- mutex objects are destroyed as is to be found.
use Rattle.std.specs.Prelude.{◌≡◌, ℕ, Bool, false, List, []}
use Rattle.uc_tree.specs.Programs.{Program}
use Rattle.uc_tree.specs.Source.{Source}
use Rattle.uc_entry.specs.declared.entry.Entry.{Entry}
use Rattle.uc_entry.specs.declared.entry.Options.{Options}
use Rattle.uc_entry.specs.declared.request.Asked.{Asked}
use Rattle.uc_acts.specs.Journal.{Journal, is_over}
use Rattle.uc_acts.specs.KernelRuns.{InRange}
use Rattle.uc_acts.specs.Serves.{left}
use Rattle.uc_machine.specs.declared.exec.Exec.{Exec}
use Rattle.uc_machine.specs.Pieces.{Value, State}
use Rattle.uc_machine.specs.Rides.{Rides, slices, goes_on, ticks, asks}
use Rattle.uc_machine.specs.Answering.{answered}
use Rattle.uc_meaning.specs.Runs.{World, May, Runs, AsksIn, drawn, gives, no_room, acts, begun, more}
use Rattle.uc_resolve.specs.Resolve.{source_of}
use Rattle.uc_rules.specs.Breaks.{breaks_of}
use Rattle.uc_sound.specs.SoundFormed.{IsFormed}
use Rattle.uc_state_laws.specs.Fitting.{RunFits}
use Rattle.uc_state_laws.specs.Opens.{RideMeets, RunMeets}
use Rattle.uc_life_laws.specs.Homes.{home_of}
use Rattle.uc_putting_laws.specs.PuttingLaws.{special_of}
use Rattle.uc_rooted_runs.specs.Makers.{Makers, seating}
use Rattle.uc_rooted_runs.specs.Births.{MakesLater, RunSpawnsLater}
use Rattle.uc_rooted_runs.specs.OutlastRuns.{with_homes, made_behind, run_made, now}
use Rattle.uc_rooted_runs.specs.KeptRuns.{RideKeeps, RunKeeps}
use Rattle.uc_parts_laws.specs.PartStates.{Setting, PartsState}
use Rattle.uc_parts_laws.specs.Leaving.{GoesNow}

-- of a program, with the homes of mutex objects
abbrev pub parts_of : Program → (ℕ → Value) → Setting
parts_of p home = record { source = source_of p; special = special_of p; home = home }

-- in each run of a program that breaks no rule, with the homes of mutex objects that it tells, parts are taken over in each state, as long as all that was
-- asked before fits; and so it is on the way to what is asked next, whether that fits or not
pub record LawPartsRuns : Type 0 where
  pub runs : (p : Program) → IsFormed p → breaks_of p ≡ [] → (home : ℕ → Value) (input : List ℕ) (opts : Options) → InRange opts →
      (j : Journal) (w : World) (r : Runs (source_of p) input opts j w) → RunFits (source_of p) input opts j w r →
      ((o : ℕ) → home o ≡ home_of (source_of p) input opts j w r o) →
      RunMeets (PartsState (parts_of p home)) (source_of p) input opts j w r
  pub rides : (p : Program) → IsFormed p → breaks_of p ≡ [] → (home : ℕ → Value) (input : List ℕ) (opts : Options) → InRange opts →
      (j : Journal) (w : World) (r : Runs (source_of p) input opts j w) → RunFits (source_of p) input opts j w r →
      ((o : ℕ) → home o ≡ home_of (source_of p) input opts j w r o) → is_over j ≡ false →
      (q t n : ℕ) (s : State) (asked : Asked) (d : AsksIn (source_of p) opts j w q t n s asked) →
      RideMeets (PartsState (parts_of p home)) (source_of p) (answered (source_of p) d.given (drawn j w t)) (left opts j t) s n asked d.rides

module _ (makers : Makers) (asked : Exec → Bool) where
  abbrev pub RideKeepsBeside : (source : Source) → (Exec → Bool) → {s u : State} {q k : ℕ} {a : Asked} → Rides source s q u k a → Type 0
  RideKeepsBeside source made slices = Unit {0}
  RideKeepsBeside source made (goes_on {s} e r) = GoesNow source (seating makers) (now makers asked made) s × RideKeepsBeside source (made_behind source s made) r
  RideKeepsBeside source made (ticks {s} e r) = GoesNow source (seating makers) (now makers asked made) s × RideKeepsBeside source (made_behind source s made) r
  RideKeepsBeside source made (asks {s} e) = GoesNow source (seating makers) (now makers asked made) s

  module _ (source : Source) (input : List ℕ) (opts : Options) where
    abbrev pub MayKeepBeside : (Exec → Bool) → {j : Journal} {w : World} {a : List Entry} {x : World} → May source opts input j w a x → Type 0
    MayKeepBeside made (gives p t s h) = Unit {0}
    MayKeepBeside made (no_room p t s h) = Unit {0}
    MayKeepBeside made (acts p t k s q d) = RideKeepsBeside source made d.rides

    -- what is left to find at each state of a run
    abbrev pub RunKeepsBeside : {j : Journal} {w : World} → Runs source input opts j w → Type 0
    RunKeepsBeside begun = Unit {0}
    RunKeepsBeside (more r o m) = RunKeepsBeside r × MayKeepBeside (run_made source input opts r) m

-- then executions are held soon behind each step that takes their marks away, behind those that make them, and as they are spawned
pub record LawKeptParts : Type 0 where
  pub ride : (source : Source) (special : ℕ → Bool) (makers : Makers) (homes : ℕ → Value) (asked made : Exec → Bool) {s u : State} {q k : ℕ} {a : Asked}
      (r : Rides source s q u k a) → RideMeets (PartsState (record { source = source; special = special; home = homes })) source s q u k a r →
      RideMeets (MakesLater source makers) source s q u k a r →
      RideKeepsBeside (with_homes homes makers) asked source made r → RideKeeps (with_homes homes makers) asked source made r
  pub runs : (source : Source) (special : ℕ → Bool) (makers : Makers) (homes : ℕ → Value) (asked : Exec → Bool) (input : List ℕ) (opts : Options)
      (j : Journal) (w : World) (r : Runs source input opts j w) →
      RunMeets (PartsState (record { source = source; special = special; home = homes })) source input opts j w r →
      RunMeets (MakesLater source makers) source input opts j w r → RunSpawnsLater makers source input opts j w r →
      RunKeepsBeside (with_homes homes makers) asked source input opts r → RunKeeps (with_homes homes makers) asked source input opts r

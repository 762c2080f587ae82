-- Runs in which what executions were to clean up as they made others stays with them, as far as names alone do not tell it.
use Rattle.std.specs.Prelude.{◌≡◌, ℕ, ◌⊎◌, Bool, true, false, List, ◌∷◌}
use Rattle.uc_tree.specs.Source.{Source}
use Rattle.uc_entry.specs.declared.entry.Entry.{Entry}
use Rattle.uc_entry.specs.declared.entry.Options.{Options}
use Rattle.uc_entry.specs.declared.request.Asked.{Asked}
use Rattle.uc_entry.specs.declared.request.Request.{Request}
use Rattle.uc_entry.specs.declared.request.Request.TheVariants as ask
use Rattle.uc_acts.specs.Journal.{Journal, is_over}
use Rattle.uc_acts.specs.KernelRuns.{InRange}
use Rattle.uc_machine.specs.declared.exec.Exec.{Exec}
use Rattle.uc_machine.specs.Pieces.{Value, Todo, SetUpNow, Finish, GoneNow, Active, State, Goes, object_in}
use Rattle.uc_machine.specs.Quiet.{quiet}
use Rattle.uc_machine.specs.Rides.{Rides, slices, goes_on, ticks, asks}
use Rattle.uc_meaning.specs.Runs.{World, May, Runs, gives, no_room, acts, begun, more}
use Rattle.uc_state_laws.specs.Fitting.{RunFits}
use Rattle.uc_state_laws.specs.Opens.{RunMeets}
use Rattle.uc_name_laws.specs.NameSteps as names
use Rattle.uc_name_laws.specs.NameSteps.{IsBorn}
use Rattle.uc_life_laws.specs.RunningRuns.{RunLeaves}
use Rattle.uc_typing.specs.Typing.{Ty, Table}
use Rattle.uc_life_laws.specs.Things.{Few, Stands}
use Rattle.uc_life_laws.specs.Knowing.{main_of}
use Rattle.uc_life_laws.specs.Rooted.{Had}
use Rattle.uc_life_laws.specs.Held.{NamedAt, Soon, LetsGo}
use Rattle.uc_life_laws.specs.Ways.{LeavesAt}
use Rattle.uc_rooted_runs.specs.Makers.{Makers, seating}
use Rattle.uc_rooted_runs.specs.Births.{AllMadeLater}
use Rattle.uc_rooted_runs.specs.Mains.{CallsNoMain}
use Rattle.uc_rooted_runs.specs.Outlasting.{HadBefore}
use Rattle.uc_rooted_runs.specs.OutlastRuns.{with_homes, made_behind, ride_made, run_made, now}
use Rattle.uc_rooted_runs.specs.Upwards.{IsThere, OutlastWorld}

module _ (makers : Makers) (asked : Exec → Bool) where
  -- what is left to find of a state that makes no execution, and at which no object goes; where a main ends, that no first cell goes with its frame which
  -- names one
  abbrev pub KeepsAt : Source → (Exec → Bool) → List Todo → State → Type 0
  KeepsAt source up (SetUpNow r ∷ todo) s = Unit {0}
  KeepsAt source up (Finish ∷ todo) s = LetsGo source (seating makers) up s
  KeepsAt source up (GoneNow ∷ todo) s = Unit {0}
  KeepsAt source up todo s = LeavesAt source (seating makers) up todo s

  -- where marks are taken away, what is left to find of those that these held; and one that is made is held soon, and named
  pub record Keeps (source : Source) (made : Exec → Bool) (s : State) : Type 0 where
    pub leaves : KeepsAt source (now makers asked made) s.run.control s
    pub held : (n : Exec) → IsBorn source s n → asked n ≡ true → (u : State) → quiet source s ≡ Goes u →
        Soon source (makers.seat n) (makers.before n) u.env.exec u.run u.callers
    pub named : (n : Exec) → IsBorn source s n → asked n ≡ true → (u : State) → quiet source s ≡ Goes u →
        NamedAt u.env.exec u.callers u.env.frames n (makers.seat n).place

  abbrev pub RideKeeps : (source : Source) → (Exec → Bool) → {s u : State} {q k : ℕ} {a : Asked} → Rides source s q u k a → Type 0
  RideKeeps source made slices = Unit {0}
  RideKeeps source made (goes_on {s} e r) = Keeps source made s × RideKeeps source (made_behind source s made) r
  RideKeeps source made (ticks {s} e r) = Keeps source made s × RideKeeps source (made_behind source s made) r
  RideKeeps source made (asks {s} e) = Keeps source made s

  abbrev pub SpawnsKept : Source → Request → State → Type 0
  SpawnsKept source (ask.Spawn o) s = asked (main_of o) ≡ true →
      Soon source (makers.seat (main_of o)) (makers.before (main_of o)) s.env.exec s.run s.callers
  SpawnsKept source r s = Unit {0}

  module _ (source : Source) (input : List ℕ) (opts : Options) where
    abbrev pub MayKeep : (Exec → Bool) → {j : Journal} {w : World} {a : List Entry} {x : World} → May source opts input j w a x → Type 0
    MayKeep made (gives p t s h) = Unit {0}
    MayKeep made (no_room p t s h) = Unit {0}
    MayKeep made (acts p t k s q d) = RideKeeps source made d.rides × SpawnsKept source q.request s

    -- at each state and each act of a run
    abbrev pub RunKeeps : {j : Journal} {w : World} → Runs source input opts j w → Type 0
    RunKeeps begun = Unit {0}
    RunKeeps (more r o m) = RunKeeps r × MayKeep (run_made source input opts r) m

  -- no main is up of a task whose object goes
  abbrev pub NoMainOf : (Exec → Bool) → Request → Type 0
  NoMainOf up (ask.Gone o) = (x : Exec) → up x ≡ true → (makers.seat x).task ≡ true → object_in (makers.seat x).place ≡ o → ⊥
  NoMainOf up q = Unit {0}

  module _ (source : Source) (input : List ℕ) (opts : Options) where
    abbrev pub MayEnd : (Exec → Bool) → {j : Journal} {w : World} {a : List Entry} {x : World} → May source opts input j w a x → Type 0
    MayEnd made (gives p t s h) = Unit {0}
    MayEnd made (no_room p t s h) = Unit {0}
    MayEnd made (acts p t k s q d) = NoMainOf (now makers asked (ride_made source made d.rides)) q.request

    -- so it is at each act of a run
    abbrev pub RunEnds : {j : Journal} {w : World} → Runs source input opts j w → Type 0
    RunEnds begun = Unit {0}
    RunEnds (more r o m) = RunEnds r × MayEnd (run_made source input opts r) m

-- so it stays in each run in which all that was asked so far fits, as long as no step forgets the running execution or calls a main, nobody leaves its home
-- for good, and no main is up of a task whose object goes
abbrev pub LawKeptRuns : Type 0
LawKeptRuns =
    (asked : Exec → Bool) (homes : ℕ → Value) (source : Source) (input : List ℕ) (opts : Options) (j : Journal) (w : World)
    (r : Runs source input opts j w) → InRange opts → RunFits source input opts j w r → is_over j ≡ false →
    RunLeaves source input opts j w r → RunMeets names.Spares source input opts j w r →
    RunMeets (CallsNoMain source) source input opts j w r →
    (b : AllMadeLater source input opts j w r) →
    RunKeeps (with_homes homes b.makers) asked source input opts r →
    RunEnds (with_homes homes b.makers) asked source input opts r →
    OutlastWorld (with_homes homes b.makers) (now (with_homes homes b.makers) asked (run_made source input opts r)) j w

-- what one that lives has of others stood in what the one that made it was to clean up, or had of others, as it made this one, or stands in what that one
-- has now
pub record IsStood (t : Table) (few : Few) (makers : Makers) (yet : Exec → List Active → Value → Ty → Bool) (j : Journal) (x : World) (n : Exec) (w : Value) (b : Ty) : Type 0 where
  pub active : List Active
  pub lives : IsThere j x (makers.parent n) active
  pub stood : Stands t few (HadBefore t few makers n) b w ⊎
      Stands t few (Had t few yet (makers.parent n) active) b w

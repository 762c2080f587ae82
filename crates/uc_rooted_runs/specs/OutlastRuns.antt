-- Runs in which what executions were to clean up as they made others stays with them.
use Rattle.std.specs.Prelude.{◌≡◌, ℕ, ◌<◌, ◌==◌, Bool, true, false, if◌then◌else◌, List, ◌∷◌, Option, Some, None, slice_get}
use Rattle.uc_tree.specs.Source.{Source, Routine}
use Rattle.uc_entry.specs.declared.entry.Entry.{Entry}
use Rattle.uc_entry.specs.declared.entry.Options.{Options}
use Rattle.uc_entry.specs.declared.request.Asked.{Asked}
use Rattle.uc_entry.specs.declared.request.Request.{Request}
use Rattle.uc_entry.specs.declared.request.Request.TheVariants as ask
use Rattle.uc_entry.specs.Keyed.{find}
use Rattle.uc_acts.specs.Journal.{Journal, is_over}
use Rattle.uc_acts.specs.Known.{task_count}
use Rattle.uc_acts.specs.KernelRuns.{InRange}
use Rattle.uc_machine.specs.declared.exec.Exec.{Exec}
use Rattle.uc_machine.specs.declared.exec.Home.TheVariants.{Object}
use Rattle.uc_machine.specs.Executions.{exec_eq, members_at}
use Rattle.uc_machine.specs.Switches.{new_exec}
use Rattle.uc_machine.specs.Pieces.{Value, Todo, SetUpNow, State, Members, Goes}
use Rattle.uc_machine.specs.Quiet.{quiet, home_at}
use Rattle.uc_machine.specs.Rides.{Rides, slices, goes_on, ticks, asks}
use Rattle.uc_meaning.specs.Runs.{World, May, Runs, gives, no_room, acts, begun, more}
use Rattle.uc_state_laws.specs.Fitting.{RunFits}
use Rattle.uc_name_laws.specs.NameSteps.{IsBorn}
use Rattle.uc_life_laws.specs.Knowing.{main_of}
use Rattle.uc_life_laws.specs.LifeStates.{EnvBy, MembersBy}
use Rattle.uc_life_laws.specs.Held.{NamedAt, Soon, HeldState, TakesNow}
use Rattle.uc_rooted_runs.specs.Makers.{Makers, seating}
use Rattle.uc_rooted_runs.specs.Births.{AllMadeLater}
use Rattle.uc_rooted_runs.specs.Outlasting.{IsAlone}
use Rattle.uc_rooted_runs.specs.Upwards.{OutlastWorld}

-- who made whom, with the homes of mutex objects, of which births tell nothing
abbrev pub with_homes : (ℕ → Value) → Makers → Makers
with_homes homes makers = record {
  parent = makers.parent;
  seat = λ x. record { place = (makers.seat x).place; task = (makers.seat x).task; home = homes };
  before = makers.before;
  rank = makers.rank;
}

-- which executions were made by now: behind a state, behind a ride, with what was asked, and in a run

abbrev pub with_made : Option Routine → Option Members → Exec → (Exec → Bool) → Exec → Bool
with_made None m n made x = made x
with_made (Some r) None n made x = made x
with_made (Some r) (Some m) n made x = if exec_eq x n then true else made x

abbrev pub made_by : Source → List Todo → State → (Exec → Bool) → Exec → Bool
made_by source (SetUpNow r ∷ todo) s made x =
    with_made (slice_get source.routines r) (members_at (home_at s.run.this s.env) s.env) (new_exec (home_at s.run.this s.env) s.env) made x
made_by source todo s made x = made x

abbrev pub made_behind : Source → State → (Exec → Bool) → Exec → Bool
made_behind source s made x = made_by source s.run.control s made x

abbrev pub ride_made : (source : Source) → (Exec → Bool) → {s u : State} {q k : ℕ} {a : Asked} → Rides source s q u k a → Exec → Bool
ride_made source made slices x = made x
ride_made source made (goes_on {s} e r) x = ride_made source (made_behind source s made) r x
ride_made source made (ticks {s} e r) x = ride_made source (made_behind source s made) r x
ride_made source made (asks {s} e) x = made_behind source s made x

abbrev pub made_asked : Request → (Exec → Bool) → Exec → Bool
made_asked (ask.Spawn o) made x = if exec_eq x (main_of o) then true else made x
made_asked q made x = made x

module _ (source : Source) (input : List ℕ) (opts : Options) where
  abbrev pub may_made : (Exec → Bool) → {j : Journal} {w : World} {a : List Entry} {x : World} → May source opts input j w a x → Exec → Bool
  may_made made (gives p t s h) n = made n
  may_made made (no_room p t s h) n = made n
  may_made made (acts p t k s asked d) n = made_asked asked.request (ride_made source made d.rides) n

  abbrev pub run_made : {j : Journal} {w : World} → Runs source input opts j w → Exec → Bool
  run_made begun n = false
  run_made (more r o m) n = may_made (run_made r) m n

-- `asked x`: of this execution it is asked, from its making on
module _ (makers : Makers) (asked : Exec → Bool) where
  abbrev pub now : (Exec → Bool) → Exec → Bool
  now made x = if asked x then made x else false

  -- at a state in which those that were made by now are held: where marks are taken away, those that these held are held soon, and no first cell that names
  -- one goes or starts anew; and behind one that makes one, no other has the name of the running one, and that one is held soon, and named
  pub record OutlastsAt (source : Source) (made : Exec → Bool) (s : State) : Type 0 where
    pub takes : HeldState source (seating makers) (now made) s → TakesNow source (seating makers) (now made) s
    pub alone : (n : Exec) → IsBorn source s n → (u : State) → quiet source s ≡ Goes u → IsAlone u.env
    pub held : (n : Exec) → IsBorn source s n → asked n ≡ true → (u : State) → quiet source s ≡ Goes u →
        Soon source (makers.seat n) (makers.before n) u.env.exec u.run u.callers
    pub named : (n : Exec) → IsBorn source s n → asked n ≡ true → (u : State) → quiet source s ≡ Goes u →
        NamedAt u.env.exec u.callers u.env.frames n (makers.seat n).place

  abbrev pub RideOutlasts : (source : Source) → (Exec → Bool) → {s u : State} {q k : ℕ} {a : Asked} → Rides source s q u k a → Type 0
  RideOutlasts source made slices = Unit {0}
  RideOutlasts source made (goes_on {s} e r) = OutlastsAt source made s × RideOutlasts source (made_behind source s made) r
  RideOutlasts source made (ticks {s} e r) = OutlastsAt source made s × RideOutlasts source (made_behind source s made) r
  RideOutlasts source made (asks {s} e) = OutlastsAt source made s

  -- at the end of an act of task t: nobody elsewhere in the world before has made any of those that were made meanwhile
  abbrev pub MadeNone : (Exec → Bool) → (Exec → Bool) → Exec → Type 0
  MadeNone made behind n = (x : Exec) → now behind x ≡ true → now made x ≡ false → makers.parent x ≡ n → ⊥

  pub record NoneElsewhere (made behind : Exec → Bool) (j : Journal) (w : World) (t : ℕ) (s : State) : Type 0 where
    pub tasks : (v : ℕ) → v < task_count j → (v == t) ≡ false → MadeNone made behind (w.tasks v).env.exec
    pub slots : (v : ℕ) → (v == t) ≡ false → EnvBy (λ n y. MadeNone made behind n) (w.tasks v).env
    pub homes : (o : ℕ) → find o s.env.hand ≡ None → MembersBy (λ n y. MadeNone made behind n) (Object o) (w.homes o)

  -- as a task is spawned, no other has the name of who asks that, its main has made none, and it is held soon
  abbrev pub SpawnsAlone : Source → (Exec → Bool) → Request → State → Type 0
  SpawnsAlone source made (ask.Spawn o) s = IsAlone s.env ×
      ((x : Exec) → now (made_asked (ask.Spawn o) made) x ≡ true → makers.parent x ≡ main_of o → ⊥) ×
      (asked (main_of o) ≡ true → Soon source (makers.seat (main_of o)) (makers.before (main_of o)) s.env.exec s.run s.callers)
  SpawnsAlone source made r s = Unit {0}

  module _ (source : Source) (input : List ℕ) (opts : Options) where
    abbrev pub MayOutlast : (Exec → Bool) → {j : Journal} {w : World} {a : List Entry} {x : World} → May source opts input j w a x → Type 0
    MayOutlast made (gives p t s h) = Unit {0}
    MayOutlast made (no_room p t s h) = Unit {0}
    MayOutlast made {j} {w} (acts p t k s q d) = RideOutlasts source made d.rides ×
        SpawnsAlone source (ride_made source made d.rides) q.request s ×
        NoneElsewhere made (made_asked q.request (ride_made source made d.rides)) j w t s

    -- at each state and each act of a run
    abbrev pub RunOutlasts : {j : Journal} {w : World} → Runs source input opts j w → Type 0
    RunOutlasts begun = Unit {0}
    RunOutlasts (more r o m) = RunOutlasts r × MayOutlast (run_made source input opts r) m

-- so it is in each run in which all that was asked so far fits, as long as it is so at each state, with those by whom executions were made in it,
-- and any homes of mutex objects
abbrev pub LawOutlastRuns : Type 0
LawOutlastRuns =
    (asked : Exec → Bool) (homes : ℕ → Value) (source : Source) (input : List ℕ) (opts : Options) (j : Journal) (w : World)
    (r : Runs source input opts j w) → InRange opts → RunFits source input opts j w r → is_over j ≡ false →
    (b : AllMadeLater source input opts j w r) →
    RunOutlasts (with_homes homes b.makers) asked source input opts r →
    OutlastWorld (with_homes homes b.makers) (now (with_homes homes b.makers) asked (run_made source input opts r)) j w

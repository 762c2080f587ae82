-- Executions that are still there: they were not forgotten, were not at home in an object as that went, and are no main of a task that has ended.
use Rattle.std.specs.Prelude.{◌≡◌, ℕ, ◌<◌, Bool, true, false, List, ◌∷◌, Option, Some, None, if◌then◌else◌}
use Rattle.uc_tree.specs.Source.{Source}
use Rattle.uc_entry.specs.declared.entry.Entry.{Entry}
use Rattle.uc_entry.specs.declared.entry.Options.{Options}
use Rattle.uc_entry.specs.declared.request.Asked.{Asked}
use Rattle.uc_entry.specs.declared.request.Request.{Request}
use Rattle.uc_entry.specs.declared.request.Request.TheVariants as ask
use Rattle.uc_acts.specs.Journal.{Journal, is_over}
use Rattle.uc_acts.specs.Known.{has_ended, task_count}
use Rattle.uc_acts.specs.KernelRuns.{InRange}
use Rattle.uc_machine.specs.declared.exec.Exec.{Exec}
use Rattle.uc_machine.specs.declared.exec.Home.TheVariants.{Object}
use Rattle.uc_machine.specs.Executions.{home_eq, exec_eq, members_at}
use Rattle.uc_machine.specs.Pieces.{Todo, ForgetNow, State, Members, own_exec}
use Rattle.uc_machine.specs.Rides.{Rides, slices, goes_on, ticks, asks}
use Rattle.uc_meaning.specs.Runs.{World, May, Runs, AsksIn, gives, no_room, acts, begun, more}
use Rattle.uc_state_laws.specs.Fitting.{RunFits}
use Rattle.uc_state_laws.specs.Opens.{RunMeets}
use Rattle.uc_name_laws.specs.Below.{Ex, slot_at}
use Rattle.uc_name_laws.specs.NameSteps as names
use Rattle.uc_life_laws.specs.LifeStates.{EnvBy, MembersBy}
use Rattle.uc_life_laws.specs.RunningRuns.{RunLeaves}
use Rattle.uc_rooted_runs.specs.Mains.{CallsNoMain}

-- one that is in hand is forgotten, of those that were there
abbrev pub without_one : Option Members → Exec → (Exec → Bool) → Exec → Bool
without_one None n still x = still x
without_one (Some m) n still x = if exec_eq x n then false else still x

abbrev pub without_own : Option Exec → State → (Exec → Bool) → Exec → Bool
without_own None s still x = still x
without_own (Some n) s still x = without_one (members_at n.home s.env) n still x

-- which are there, of those that were: behind a state, behind a ride, with what was asked, and in a run
abbrev pub still_by : List Todo → State → (Exec → Bool) → Exec → Bool
still_by (ForgetNow ∷ todo) s still x = without_own (own_exec s) s still x
still_by todo s still x = still x

abbrev pub still_behind : State → (Exec → Bool) → Exec → Bool
still_behind s still x = still_by s.run.control s still x

abbrev pub ride_still : (source : Source) → (Exec → Bool) → {s u : State} {q k : ℕ} {a : Asked} → Rides source s q u k a → Exec → Bool
ride_still source still slices x = still x
ride_still source still (goes_on {s} e r) x = ride_still source (still_behind s still) r x
ride_still source still (ticks {s} e r) x = ride_still source (still_behind s still) r x
ride_still source still (asks {s} e) x = still_behind s still x

-- not if it is there, at home in what goes
abbrev pub unless_there : Option (Option Ex) → Bool → Bool
unless_there None b = b
unless_there (Some y) b = false

abbrev pub still_asked : Request → State → (Exec → Bool) → Exec → Bool
still_asked ask.End s still x = if exec_eq x s.env.exec then false else still x
still_asked (ask.Gone o) s still x = if home_eq x.home (Object o) then unless_there (slot_at x s.env) (still x) else still x
still_asked q s still x = still x

module _ (source : Source) (input : List ℕ) (opts : Options) where
  abbrev pub may_still : (Exec → Bool) → {j : Journal} {w : World} {a : List Entry} {x : World} → May source opts input j w a x → Exec → Bool
  may_still still (gives p t s h) n = still n
  may_still still (no_room p t s h) n = still n
  may_still still (acts p t k s asked d) n = still_asked asked.request s (ride_still source still d.rides) n

  abbrev pub run_still : {j : Journal} {w : World} → Runs source input opts j w → Exec → Bool
  run_still begun n = true
  run_still (more r o m) n = may_still (run_still r) m n

  -- and on the way to what a task asks next
  abbrev pub way_still : {j : Journal} {w : World} → Runs source input opts j w → {p u n : ℕ} {s : State} {q : Asked} → AsksIn source opts j w p u n s q → Exec → Bool
  way_still r d n = ride_still source (run_still r) d.rides n

-- so are all in a world: what runs in tasks that were spawned and have not ended, and what does not run
pub record AreStill (still : Exec → Bool) (j : Journal) (x : World) : Type 0 where
  pub running : (u : ℕ) → u < task_count j → has_ended u j ≡ false → still (x.tasks u).env.exec ≡ true
  pub tasks : (u : ℕ) → EnvBy (λ n y. still n ≡ true) (x.tasks u).env
  pub homes : (o : ℕ) → MembersBy (λ n y. still n ≡ true) (Object o) (x.homes o)

-- so it is in each run in which all that was asked so far fits, of whatever source, as long as no step forgets the running execution or calls a main,
-- and nobody leaves its home for good
abbrev pub LawStill : Type 0
LawStill =
    (source : Source) (input : List ℕ) (opts : Options) (j : Journal) (w : World)
    (r : Runs source input opts j w) → InRange opts → RunFits source input opts j w r → is_over j ≡ false →
    RunLeaves source input opts j w r → RunMeets names.Spares source input opts j w r →
    RunMeets (CallsNoMain source) source input opts j w r → AreStill (run_still source input opts r) j w

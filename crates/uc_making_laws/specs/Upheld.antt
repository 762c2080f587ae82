-- While a task is on its way, what executions were to clean up as they made others stays with them, in the world as it stands then.
use Rattle.std.specs.Prelude.{◌≡◌, ℕ, ◌<◌, Bool, true, false, List}
use Rattle.uc_tree.specs.Source.{Source}
use Rattle.uc_entry.specs.declared.entry.Options.{Options}
use Rattle.uc_entry.specs.declared.request.Asked.{Asked}
use Rattle.uc_entry.specs.declared.request.Request.{Request}
use Rattle.uc_acts.specs.Journal.{Journal, held, is_over}
use Rattle.uc_acts.specs.KernelRuns.{InRange}
use Rattle.uc_acts.specs.Serves.{left}
use Rattle.uc_machine.specs.declared.exec.Exec.{Exec}
use Rattle.uc_machine.specs.Pieces.{Value, State, Asks}
use Rattle.uc_machine.specs.Quiet.{quiet}
use Rattle.uc_machine.specs.Answering.{answered}
use Rattle.uc_meaning.specs.Runs.{World, Runs, AsksIn, drawn}
use Rattle.uc_step_laws.specs.Hands.{keys}
use Rattle.uc_state_laws.specs.Fitting.{RunFits}
use Rattle.uc_state_laws.specs.Opens.{RideMeets, RunMeets}
use Rattle.uc_name_laws.specs.NameSteps as names
use Rattle.uc_life_laws.specs.RunningRuns.{RunLeaves}
use Rattle.uc_life_laws.specs.OwnNames.{IsOwn}
use Rattle.uc_apart_laws.specs.Before.{world_at}
use Rattle.uc_rooted_runs.specs.Makers.{Makers}
use Rattle.uc_rooted_runs.specs.Births.{ride_makers, run_makers, MakesLater, RunSpawnsLater}
use Rattle.uc_rooted_runs.specs.Mains.{CallsNoMain}
use Rattle.uc_rooted_runs.specs.OutlastRuns.{with_homes, run_made, now}
use Rattle.uc_rooted_runs.specs.Upwards.{OutlastWorld}
use Rattle.uc_rooted_runs.specs.MadeRuns.{AllMade}
use Rattle.uc_rooted_runs.specs.KeptRuns.{RideKeeps, RunKeeps, RunEnds}
use Rattle.uc_rooted_runs.specs.Still.{AreStill, way_still}
use Rattle.uc_making_laws.specs.RideWhile.{RideWhile}

-- in a run, and on the way to what is asked next, each execution that is made in a state is made by the running one, and each that is spawned by who
-- asks that
pub record MadeLaterTo (source : Source) (input : List ℕ) (opts : Options) (j : Journal) (w : World) (r : Runs source input opts j w) (p u n : ℕ) (s : State) (q : Asked) (d : AsksIn source opts j w p u n s q) : Type 0 where
  pub makers : Makers
  pub made : RunMeets (MakesLater source makers) source input opts j w r
  pub spawned : RunSpawnsLater makers source input opts j w r
  pub rides : RideMeets (MakesLater source makers) source (answered source d.given (drawn j w u)) (left opts j u) s n q d.rides

-- by whom executions were made, as a run and the way to what is asked next tell it
abbrev pub way_makers : (source : Source) (input : List ℕ) (opts : Options) {j : Journal} {w : World} → Runs source input opts j w → {p u n : ℕ} {s : State} {q : Asked} → AsksIn source opts j w p u n s q → Makers
way_makers source input opts r d = ride_makers source (run_makers source input opts r) d.rides

-- while task u has come to a state: who runs has its name alone there, and what is in hand is held; those that were made by then are all that are there,
-- and later than those that made them; what those were to clean up then stays with them; and of all that are there it is asked, where the state asks
-- something
pub record UpheldAt (makers : Makers) (asked : Exec → Bool) (source : Source) (j : Journal) (w : World) (u : ℕ) (v : State) : Type 0 where
  pub own : IsOwn j w u v
  pub hand : keys v.env.hand ≡ held u j
  pub made : Exec → Bool
  pub outlasts : OutlastWorld makers (now makers asked made) j (world_at w u v)
  pub there : AllMade made j (world_at w u v)
  pub later : (n : Exec) → made n ≡ true → makers.rank (makers.parent n) < makers.rank n
  pub still : Exec → Bool
  pub are_still : AreStill still j (world_at w u v)
  pub last : (r : Request) (x : State) → quiet source v ≡ Asks r x → (n : Exec) → still n ≡ true → asked n ≡ true

-- of a run in which all that was asked so far fits, no step forgets the running execution or calls a main, and nobody leaves its home for good, and of the
-- way to what is asked next, on which no step calls a main: such are those that are told, and so it is in each state on the way before which no step forgot
-- it, where that is asked of those that are still there at the end of the way, and none of these is the main of a task whose object went in an act before
pub record LawUpheld : Type 0 where
  pub births : (source : Source) (input : List ℕ) (opts : Options) (j : Journal) (w : World)
      (r : Runs source input opts j w) → InRange opts → RunFits source input opts j w r → is_over j ≡ false →
      (p u n : ℕ) (s : State) (q : Asked) (d : AsksIn source opts j w p u n s q) →
      (b : MadeLaterTo source input opts j w r p u n s q d) × (b.makers ≡ way_makers source input opts r d)
  pub upheld : (homes : ℕ → Value) (source : Source) (input : List ℕ) (opts : Options)
      (j : Journal) (w : World) (r : Runs source input opts j w) → InRange opts → RunFits source input opts j w r →
      is_over j ≡ false → RunLeaves source input opts j w r → RunMeets names.Spares source input opts j w r →
      RunMeets (CallsNoMain source) source input opts j w r →
      (p u n : ℕ) (s : State) (q : Asked) (d : AsksIn source opts j w p u n s q) →
      RideMeets (CallsNoMain source) source (answered source d.given (drawn j w u)) (left opts j u) s n q d.rides →
      (b : MadeLaterTo source input opts j w r p u n s q d) →
      RunKeeps (with_homes homes b.makers) (way_still source input opts r d) source input opts r →
      RunEnds (with_homes homes b.makers) (way_still source input opts r d) source input opts r →
      RideKeeps (with_homes homes b.makers) (way_still source input opts r d) source (run_made source input opts r) d.rides →
      RideWhile names.Spares (UpheldAt (with_homes homes b.makers) (way_still source input opts r d) source j w u) source (answered source d.given (drawn j w u)) (left opts j u) s n q d.rides

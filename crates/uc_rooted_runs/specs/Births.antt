-- Runs of programs: each execution is made by one that was made before.
use Rattle.std.specs.Prelude.{◌≡◌, ℕ, suc, Bool, true, false, if◌then◌else◌, List, [], ◌∷◌, Option, Some, None, slice_get}
use Rattle.uc_tree.specs.Source.{Source, Routine}
use Rattle.uc_entry.specs.declared.entry.Entry.{Entry}
use Rattle.uc_entry.specs.declared.entry.Options.{Options}
use Rattle.uc_entry.specs.declared.request.Asked.{Asked}
use Rattle.uc_entry.specs.declared.request.Request.{Request}
use Rattle.uc_entry.specs.declared.request.Request.TheVariants as ask
use Rattle.uc_acts.specs.Journal.{Journal, is_over}
use Rattle.uc_acts.specs.KernelRuns.{InRange}
use Rattle.uc_machine.specs.declared.exec.Exec.{Exec}
use Rattle.uc_machine.specs.Executions.{exec_eq, members_at}
use Rattle.uc_machine.specs.Switches.{new_exec}
use Rattle.uc_machine.specs.Quiet.{State, home_at}
use Rattle.uc_machine.specs.Rides.{Rides, slices, goes_on, ticks, asks}
use Rattle.uc_meaning.specs.Runs.{World, May, Runs, gives, no_room, acts, begun, more}
use Rattle.uc_state_laws.specs.Fitting.{RunFits}
use Rattle.uc_state_laws.specs.Opens.{RunMeets}
use Rattle.uc_name_laws.specs.NameSteps.{IsBorn}
use Rattle.uc_life_laws.specs.Knowing.{main_of}
use Rattle.uc_machine.specs.Pieces.{Value, Object, Nothing, Todo, SetUpNow, Members}
use Rattle.uc_life_laws.specs.Placed.{Placed}
use Rattle.uc_life_laws.specs.Outermost.{outermost}
use Rattle.uc_rooted_runs.specs.Makers.{Makers, MadeBy}

-- one more is made by another
abbrev pub made_now : Makers → Exec → Exec → Value → Bool → List Placed → Makers
made_now b n by v main ps = record {
  parent = λ m. if exec_eq m n then by else b.parent m;
  seat = λ m. record { place = if exec_eq m n then v else (b.seat m).place; task = if exec_eq m n then main else (b.seat m).task; home = λ o. Nothing };
  before = λ m. if exec_eq m n then ps else b.before m;
  rank = λ m. if exec_eq m n then suc (b.rank by) else b.rank m;
}

-- by whom executions were made, as a run tells it: behind a state, which may make one next; behind a ride; with what was asked; and behind acts
abbrev pub with_birth : Option Routine → Option Members → State → Makers → Makers
with_birth None m s b = b
with_birth (Some r) None s b = b
with_birth (Some r) (Some m) s b = made_now b (new_exec (home_at s.run.this s.env) s.env) s.env.exec s.run.this false (outermost s.callers)

abbrev pub makers_by : Source → List Todo → State → Makers → Makers
makers_by source (SetUpNow r ∷ todo) s b = with_birth (slice_get source.routines r) (members_at (home_at s.run.this s.env) s.env) s b
makers_by source todo s b = b

abbrev pub makers_behind : Source → State → Makers → Makers
makers_behind source s b = makers_by source s.run.control s b

abbrev pub ride_makers : (source : Source) → Makers → {s u : State} {q k : ℕ} {a : Asked} → Rides source s q u k a → Makers
ride_makers source b slices = b
ride_makers source b (goes_on {s} e r) = ride_makers source (makers_behind source s b) r
ride_makers source b (ticks {s} e r) = ride_makers source (makers_behind source s b) r
ride_makers source b (asks {s} e) = makers_behind source s b

abbrev pub makers_asked : Request → State → Makers → Makers
makers_asked (ask.Spawn o) s b = made_now b (main_of o) s.env.exec (Object o) true (outermost s.callers)
makers_asked r s b = b

module _ (source : Source) (input : List ℕ) (opts : Options) where
  abbrev pub may_makers : Makers → {j : Journal} {w : World} {a : List Entry} {x : World} → May source opts input j w a x → Makers
  may_makers b (gives p t s h) = b
  may_makers b (no_room p t s h) = b
  may_makers b (acts p t n s asked d) = makers_asked asked.request s (ride_makers source b d.rides)

  abbrev pub run_makers : {j : Journal} {w : World} → Runs source input opts j w → Makers
  run_makers begun = record { parent = λ m. m; seat = λ m. record { place = Nothing; task = false; home = λ o. Nothing }; before = λ m. []; rank = λ m. 0 }
  run_makers (more r o m) = may_makers (run_makers r) m

-- each that a state makes next is made by the running one
abbrev pub MakesLater : Source → Makers → State → Type 0
MakesLater source makers s = (n : Exec) → IsBorn source s n → MadeBy makers n s.env.exec s.run.this false (outermost s.callers)

-- so is the main of a task, by who asks that it be spawned
abbrev pub SpawnsLater : Makers → Request → State → Type 0
SpawnsLater makers (ask.Spawn o) s = MadeBy makers (main_of o) s.env.exec (Object o) true (outermost s.callers)
SpawnsLater makers r s = Unit {0}

module _ (makers : Makers) (source : Source) where
  abbrev pub MaySpawnLater : (opts : Options) (input : List ℕ) (j : Journal) (w : World) (a : List Entry) (x : World) →
      May source opts input j w a x → Type 0
  MaySpawnLater opts input j w _ _ (gives p n s h) = Unit {0}
  MaySpawnLater opts input j w _ _ (no_room p n s h) = Unit {0}
  MaySpawnLater opts input j w _ _ (acts p n k s asked d) = SpawnsLater makers asked.request s

  abbrev pub RunSpawnsLater : (input : List ℕ) (opts : Options) (j : Journal) (w : World) →
      Runs source input opts j w → Type 0
  RunSpawnsLater input opts _ _ begun = Unit {0}
  RunSpawnsLater input opts _ _ (more {j} {w} {a} {w' = x} r o m) = RunSpawnsLater input opts j w r ×
      MaySpawnLater opts input j w a x m

-- in a run each that is made in its states is made by the running one, and each that is spawned by who asks that
pub record AllMadeLater (source : Source) (input : List ℕ) (opts : Options) (j : Journal) (w : World) (r : Runs source input opts j w) : Type 0 where
  pub makers : Makers
  pub made : RunMeets (MakesLater source makers) source input opts j w r
  pub spawned : RunSpawnsLater makers source input opts j w r

-- so it is of those whom a run tells, in each in which all that was asked so far fits, of whatever source
abbrev pub LawBirths : Type 0
LawBirths =
    (source : Source) (input : List ℕ) (opts : Options) (j : Journal) (w : World)
    (r : Runs source input opts j w) → InRange opts → RunFits source input opts j w r →
    is_over j ≡ false → (b : AllMadeLater source input opts j w r) × (b.makers ≡ run_makers source input opts r)

-- What is left to find of steps that take marks away, where the first cell of a coroutine names its execution as that is made: so of those that are still
-- there at the end of a way no coroutine is forgotten, where no handler of a resumption has such a cell start anew while it names one, and mutex objects in
-- which coroutines lie are in hand as these are forgotten.
use Rattle.std.specs.Prelude.{◌≡◌, ℕ, ◌<◌, Bool, false, List, ◌∷◌, length, Some}
use Rattle.uc_tree.specs.Programs.{Program}
use Rattle.uc_tree.specs.Source.{Source, CleanUp, Forgets}
use Rattle.uc_entry.specs.declared.entry.Entry.{Entry}
use Rattle.uc_entry.specs.declared.entry.Options.{Options}
use Rattle.uc_entry.specs.declared.request.Asked.{Asked}
use Rattle.uc_acts.specs.Journal.{Journal, is_over}
use Rattle.uc_acts.specs.KernelRuns.{InRange}
use Rattle.uc_acts.specs.Serves.{left}
use Rattle.uc_machine.specs.declared.exec.Exec.{Exec}
use Rattle.uc_machine.specs.declared.exec.Owner.TheVariants.{Frame}
use Rattle.uc_machine.specs.Executions.{members_at}
use Rattle.uc_machine.specs.Pieces as piece
use Rattle.uc_machine.specs.Pieces.{Value, Place, Todo, Sort, State, Members, Goes, sort, own_exec}
use Rattle.uc_machine.specs.Quiet.{quiet}
use Rattle.uc_machine.specs.Answering.{answered}
use Rattle.uc_machine.specs.Rides.{Rides, slices, goes_on, ticks, asks}
use Rattle.uc_meaning.specs.Runs.{World, May, Runs, AsksIn, drawn, gives, no_room, acts, begun, more}
use Rattle.uc_state_laws.specs.Fitting.{RunFits}
use Rattle.uc_state_laws.specs.Layout.{Sized}
use Rattle.uc_state_laws.specs.Opens.{RideMeets, RunMeets}
use Rattle.uc_state_laws.specs.RoomStacks.{StackState}
use Rattle.uc_name_laws.specs.NameSteps.{IsBorn}
use Rattle.uc_life_laws.specs.Held.{Seating, IsOwn, ClearsBehind}
use Rattle.uc_life_laws.specs.Ways.{ReadsLast, ForgetsBy}
use Rattle.uc_putting_laws.specs.Putting.{Setting, PutState}
use Rattle.uc_rooted_runs.specs.Births.{MakesLater, RunSpawnsLater}
use Rattle.uc_rooted_runs.specs.MainRuns.{EndsMains}
use Rattle.uc_rooted_runs.specs.Makers.{Makers, seating}
use Rattle.uc_rooted_runs.specs.OutlastRuns.{with_homes, made_behind, run_made, now}
use Rattle.uc_rooted_runs.specs.Still.{way_still}
use Rattle.uc_parts_laws.specs.ClearedFrames.{IsLaid}
use Rattle.uc_parts_laws.specs.PartStates.{PartsState}
use Rattle.uc_parts_laws.specs.PartsRuns.{RideKeepsBeside, RunKeepsBeside}

-- what else is known of states: what of operands lies where, that activations which use one frame stay behind one another, that nothing is left behind the
-- end of a main, and that who runs is at home in hand
pub record StandsAt (p : Program) (g : Setting) (s : State) : Type 0 where
  pub put : PutState g s
  pub stack : StackState (Sized p) s
  pub ends : EndsMains g.source s
  pub members : Members
  pub homed : members_at s.env.exec.home s.env ≡ Some members

-- an execution that is made is named behind the step by the first cell of the object at hand
abbrev pub NamesFirst : Source → State → Type 0
NamesFirst source s = (x : Exec) → IsBorn source s x → (u : State) → quiet source s ≡ Goes u → own_exec u ≡ Some x

module _ (source : Source) (seats : Seating) (up : Exec → Bool) where
  -- where the coroutine at hand is of an execution that is up, and lies in no frame, what is at home where that is is in hand
  abbrev pub FindsHome : State → Value → Type 0
  FindsHome s (Place (Frame n d) p) = Unit {0}
  FindsHome s v = (x : Exec) → IsOwn source seats up s x → (seats.seat x).task ≡ false → s.run.this ≡ (seats.seat x).place →
      (m : Members) × (members_at x.home s.env ≡ Some m)

  -- a clean-up is reached: so it is where the coroutine at hand is forgotten
  abbrev pub NamesBy : CleanUp → State → Type 0
  NamesBy Forgets s = FindsHome s s.run.this
  NamesBy c s = ForgetsBy source seats up c s

  -- it is done behind an event
  abbrev pub NamesPast : Sort → State → Type 0
  NamesPast (piece.IsClean c) s = NamesBy c s
  NamesPast (piece.IsPart c) s = NamesBy c s
  NamesPast k s = Unit {0}

  -- what is to hold of a step: cells that start anew are asked of where an activation that waits uses the newest frame, too, as that of a handler of a
  -- resumption does
  abbrev pub NamesAt : List Todo → State → Type 0
  NamesAt (piece.ClearNow k m ∷ todo) s = s.run.frame < length s.callers → ClearsBehind source seats up s k
  NamesAt (piece.SetUpNow r ∷ todo) s = NamesFirst source s
  NamesAt (piece.Clean c ∷ todo) s = NamesBy c s
  NamesAt (piece.Sweep d ∷ todo) s = (x : Exec) → IsOwn source seats up s x → ReadsLast source seats up x d s
  NamesAt (piece.Unwind ∷ (p ∷ todo)) s = NamesPast (sort p) s
  NamesAt todo s = Unit {0}

  abbrev pub NamesNow : State → Type 0
  NamesNow s = NamesAt s.run.control s

module _ (makers : Makers) (asked : Exec → Bool) where
  abbrev pub RideNamesOwn : (source : Source) → (Exec → Bool) → {s u : State} {q k : ℕ} {a : Asked} → Rides source s q u k a → Type 0
  RideNamesOwn source made slices = Unit {0}
  RideNamesOwn source made (goes_on {s} e r) = NamesNow source (seating makers) (now makers asked made) s × RideNamesOwn source (made_behind source s made) r
  RideNamesOwn source made (ticks {s} e r) = NamesNow source (seating makers) (now makers asked made) s × RideNamesOwn source (made_behind source s made) r
  RideNamesOwn source made (asks {s} e) = NamesNow source (seating makers) (now makers asked made) s

  module _ (source : Source) (input : List ℕ) (opts : Options) where
    abbrev pub MayNameOwn : (Exec → Bool) → {j : Journal} {w : World} {a : List Entry} {x : World} → May source opts input j w a x → Type 0
    MayNameOwn made (gives p t s h) = Unit {0}
    MayNameOwn made (no_room p t s h) = Unit {0}
    MayNameOwn made (acts p t k s q d) = RideNamesOwn source made d.rides

    -- at each state of a run
    abbrev pub RunNamesOwn : {j : Journal} {w : World} → Runs source input opts j w → Type 0
    RunNamesOwn begun = Unit {0}
    RunNamesOwn (more r o m) = RunNamesOwn r × MayNameOwn (run_made source input opts r) m

-- parts of objects are taken over, by the homes of mutex objects
abbrev pub InParts : Setting → (ℕ → Value) → State → Type 0
InParts g homes s = PartsState (record { source = g.source; special = g.special; home = homes }) s

-- so it is in a run in which all that was asked so far fits, and on the way to what a task asks next, of those that are still there at the end of that way,
-- where all that is known of each state
pub record LawNaming : Type 0 where
  pub runs : (program : Program) (g : Setting) (makers : Makers) (homes : ℕ → Value) (input : List ℕ) (opts : Options) (j : Journal) (w : World)
      (r : Runs g.source input opts j w) (p u n : ℕ) (s : State) (q : Asked) (d : AsksIn g.source opts j w p u n s q) →
      InRange opts → RunFits g.source input opts j w r → IsLaid program g → RunMeets (InParts g homes) g.source input opts j w r →
      RunMeets (StandsAt program g) g.source input opts j w r → RunMeets (MakesLater g.source makers) g.source input opts j w r →
      RunSpawnsLater makers g.source input opts j w r →
      RunNamesOwn (with_homes homes makers) (way_still g.source input opts r d) g.source input opts r →
      RunKeepsBeside (with_homes homes makers) (way_still g.source input opts r d) g.source input opts r
  pub ride : (program : Program) (g : Setting) (makers : Makers) (homes : ℕ → Value) (input : List ℕ) (opts : Options) (j : Journal) (w : World)
      (r : Runs g.source input opts j w) (p u n : ℕ) (s : State) (q : Asked) (d : AsksIn g.source opts j w p u n s q) →
      InRange opts → RunFits g.source input opts j w r → is_over j ≡ false → IsLaid program g → RunMeets (InParts g homes) g.source input opts j w r →
      RideMeets (InParts g homes) g.source (answered g.source d.given (drawn j w u)) (left opts j u) s n q d.rides →
      RideMeets (StandsAt program g) g.source (answered g.source d.given (drawn j w u)) (left opts j u) s n q d.rides →
      RunMeets (MakesLater g.source makers) g.source input opts j w r → RunSpawnsLater makers g.source input opts j w r →
      RideMeets (MakesLater g.source makers) g.source (answered g.source d.given (drawn j w u)) (left opts j u) s n q d.rides →
      RunNamesOwn (with_homes homes makers) (way_still g.source input opts r d) g.source input opts r →
      RideNamesOwn (with_homes homes makers) (way_still g.source input opts r d) g.source (run_made g.source input opts r) d.rides →
      RideKeepsBeside (with_homes homes makers) (way_still g.source input opts r d) g.source (run_made g.source input opts r) d.rides

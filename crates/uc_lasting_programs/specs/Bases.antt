-- What executions have of others as a run tells it: each its seat, and each place around which nothing goes, is given up, is built or is entered to be destroyed
-- as long as it lives; and what is left to show of ways where that is told, of seats alone.
use Rattle.std.specs.Prelude.{◌≡◌, ℕ, zero, suc, ◌+◌, ◌&&◌, ◌||◌, Bool, true, false, not, List, [], ◌∷◌, Option, Some, None, nat_eq, nat_lt}
use Rattle.uc_tree.specs.Programs.{Program}
use Rattle.uc_tree.specs.Source.{Source}
use Rattle.uc_entry.specs.declared.entry.Options.{Options}
use Rattle.uc_entry.specs.declared.entry.Entry.{Entry}
use Rattle.uc_entry.specs.declared.request.Asked.{Asked}
use Rattle.uc_acts.specs.Journal.{Journal}
use Rattle.uc_acts.specs.Serves.{left}
use Rattle.uc_acts.specs.Known.{has_ended, is_gone, object_count, owner, task_count}
use Rattle.uc_machine.specs.declared.exec.Exec.{Exec}
use Rattle.uc_machine.specs.declared.exec.Home.{Home}
use Rattle.uc_machine.specs.declared.exec.Home.TheVariants.{Task, Object}
use Rattle.uc_machine.specs.declared.exec.Owner.TheVariants.{Frame, Fields}
use Rattle.uc_machine.specs.declared.exec.Stage.{Stage}
use Rattle.uc_machine.specs.declared.exec.Stage.TheVariants.{Fresh, Started, Ended}
use Rattle.uc_machine.specs.Executions.{exec_eq}
use Rattle.uc_machine.specs.Monitors.{this_object}
use Rattle.uc_machine.specs.Switches.{without}
use Rattle.uc_machine.specs.Pieces as piece
use Rattle.uc_machine.specs.Pieces.{Link, Value, Place, Todo, EnterNow, MadeNow, SpawnNow, GoneNow, GiveUpNow, RaiseAtNow, State, Env, Members, object_in, top}
use Rattle.uc_machine.specs.Answering.{answered}
use Rattle.uc_machine.specs.Rides.{Rides, slices, goes_on, ticks, asks}
use Rattle.uc_meaning.specs.Runs.{World, May, Runs, AsksIn, drawn, gives, no_room, acts, begun, more}
use Rattle.uc_resolve.specs.Resolve.{source_of}
use Rattle.uc_state_laws.specs.Opens.{RideMeets}
use Rattle.uc_typing.specs.Typing.{Ty, Num, Cell, Obj, Raw, Row, Clu, Pro}
use Rattle.uc_depth_laws.specs.Entering.{is_ending}
use Rattle.uc_depth_laws.specs.Owing.{Ex, entering, is_again}
use Rattle.uc_life_laws.specs.Homes.{home_of}
use Rattle.uc_life_laws.specs.Belonging.{Belongs}
use Rattle.uc_life_laws.specs.Knowing.{main_of}
use Rattle.uc_life_laws.specs.Things.{Few}
use Rattle.uc_apart_laws.specs.Before.{world_at}
use Rattle.uc_lasting_programs.specs.Lent.{has_read}
use Rattle.uc_lasting_programs.specs.Seats.{same_path, same_owner, seated}

-- a place lies at another, or in what is there

abbrev pub ends_in : List Link → List Link → Bool
ends_in [] q = same_path [] q
ends_in (l ∷ p) q = same_path (l ∷ p) q || ends_in p q

abbrev pub lies_under : Value → Value → Bool
lies_under (Place o p) (Place u q) = same_owner o u && ends_in p q
lies_under v w = false

-- what is told of the mutex object in which a value lies; until a home is told it is a place of the object's own
abbrev pub in_object : (ℕ → Bool) → Value → Bool
in_object f (Place (Fields q) (l ∷ p)) = f q
in_object f (piece.Object q) = f q
in_object f v = false

-- who lives: what runs in a task that has not ended, and what does not run, but has begun and not ended

abbrev pub is_started : Stage → Bool
is_started Fresh = false
is_started Started = true
is_started Ended = false

module _ (n : Exec) where
  abbrev pub slot_has : Exec → Option Ex → Bool
  slot_has m None = false
  slot_has m (Some y) = exec_eq n m && is_started y.links.stage

  abbrev pub parked_has : Home → List (ℕ × Option Ex) → Bool
  parked_has h [] = false
  parked_has h (p ∷ ps) = slot_has (record { home = h; serial = p.0 }) p.1 || parked_has h ps

  abbrev pub hand_has : List (ℕ × Members) → Bool
  hand_has [] = false
  hand_has (p ∷ ps) = parked_has (Object p.0) p.1.parked || hand_has ps

  -- it does not run, in a task
  abbrev pub env_has : Env → Bool
  env_has e = parked_has (Task e.own) e.house.parked || hand_has e.hand

  abbrev pub members_have : Home → Option Members → Bool
  members_have h None = false
  members_have h (Some m) = parked_has h m.parked

  abbrev pub home_has : (ℕ → Option Members) → Home → Bool
  home_has homes (Task o) = false
  home_has homes (Object q) = members_have (Object q) (homes q)

  module _ (j : Journal) (x : World) where
    abbrev pub task_has : ℕ → Bool
    task_has u = (exec_eq n (x.tasks u).env.exec && not (has_ended u j)) || env_has (x.tasks u).env

    -- one of the first so many tasks
    abbrev pub tasks_have : ℕ → Bool
    tasks_have zero = false
    tasks_have (suc k) = task_has k || tasks_have k

    -- and the main of task 0, as long as another may be spawned
    abbrev pub lives_in : ℕ → Bool
    lives_in k = exec_eq n (main_of 0) || (tasks_have k || home_has x.homes n.home)

abbrev pub is_none : List ℕ → Bool
is_none [] = true
is_none (k ∷ ks) = false

-- an object was made, is not gone and is of no task yet
abbrev pub is_no_task : Journal → ℕ → Bool
is_no_task j o = nat_lt o (object_count j) && (is_none (owner o j) && not (is_gone o j))

-- `homes`: where mutex objects are at home
module _ (homes : ℕ → Value) where
  -- a value lies at a place or in what is there: in that itself, or in a mutex object, of so many, that is at home there; behind more it is taken to
  abbrev pub stands_at : ℕ → Value → Value → Bool
  stands_at zero v z = true
  stands_at (suc k) v z = lies_under v z || in_object (λ q. stands_at k (homes q) z) v

  -- so an object is at home there: those in which it lies have lower numbers
  abbrev pub is_around : ℕ → Value → Bool
  is_around o z = stands_at (suc (suc o)) (homes o) z

  module _ (source : Source) (j : Journal) (w : World) (u : ℕ) where
    -- while task u has come to a state something is not to be had of others: around what goes or is given up there by nobody that lives; around what has been
    -- built by none of those that do not run in the task, but of those at home in it; around what is entered again to be destroyed, and around what an event is
    -- raised at and is of no task yet, not by who runs; and where a task enters its own object so, all is barred to everybody
    abbrev pub bars_by : List Todo → State → Exec → Value → Bool
    bars_by (GoneNow ∷ todo) v n z = lives_in n j (world_at w u v) (task_count j + suc u) && is_around (this_object v) z
    bars_by (GiveUpNow ∷ todo) v n z = lives_in n j (world_at w u v) (task_count j + suc u) && is_around (this_object v) z
    bars_by (MadeNow ∷ todo) v n z = env_has n (record v.env { hand = without (this_object v) v.env.hand }) && is_around (this_object v) z
    bars_by (SpawnNow r ∷ todo) v n z = env_has n (record v.env { hand = without (this_object v) v.env.hand }) && is_around (this_object v) z
    bars_by (EnterNow m r ∷ todo) v n z =
        ((exec_eq n v.env.exec && (is_ending source r && is_again source r v)) && is_around (entering source r v) z) ||
        ((is_ending source r && is_again source r v) && nat_eq v.env.own (entering source r v))
    bars_by (RaiseAtNow ∷ todo) v n z =
        (exec_eq n v.env.exec && is_no_task j (object_in (top v.run.operands))) && is_around (object_in (top v.run.operands)) z
    bars_by todo v n z = false

    -- on a ride, and in a run
    abbrev pub ride_bars : {s x : State} {q k : ℕ} {a : Asked} → Rides source s q x k a → Exec → Value → Bool
    ride_bars slices n z = false
    ride_bars (goes_on {s} e r) n z = bars_by s.run.control s n z || ride_bars r n z
    ride_bars (ticks {s} e r) n z = bars_by s.run.control s n z || ride_bars r n z
    ride_bars (asks {s} e) n z = bars_by s.run.control s n z

  module _ (source : Source) (input : List ℕ) (opts : Options) where
    abbrev pub may_bars : {j : Journal} {w : World} {a : List Entry} {x : World} → May source opts input j w a x → Exec → Value → Bool
    may_bars (gives p u s h) n z = false
    may_bars (no_room p u s h) n z = false
    may_bars {j} {w} (acts p u k s asked d) n z = ride_bars source j w u d.rides n z

    abbrev pub run_bars : {j : Journal} {w : World} → Runs source input opts j w → Exec → Value → Bool
    run_bars begun n z = false
    run_bars (more r o m) n z = run_bars r n z || may_bars m n z

    abbrev pub way_bars : {j : Journal} {w : World} → Runs source input opts j w → {p u k : ℕ} {s : State} {a : Asked} → AsksIn source opts j w p u k s a → Exec → Value → Bool
    way_bars {j} {w} r {p} {u} d n z = run_bars r n z || ride_bars source j w u d.rides n z

-- no mutex object is at home in what is of this type
abbrev pub is_object : Ty → Bool
is_object Num = false
is_object (Cell a) = false
is_object (Obj c) = true
is_object (Raw c) = false
is_object (Row n a) = false
is_object Clu = false
is_object Pro = false

abbrev pub is_bare : Ty → Bool
is_bare Num = true
is_bare (Cell a) = not (is_object a)
is_bare (Obj c) = false
is_bare (Raw c) = true
is_bare (Row n a) = is_bare a
is_bare Clu = true
is_bare Pro = true

-- the place of a scalar
abbrev pub is_scalar : Ty → Bool
is_scalar (Cell Num) = true
is_scalar a = false

abbrev pub is_place : Value → Bool
is_place (Place o p) = true
is_place v = false

-- a place is another's: it lies in a frame of another execution, or in a mutex object
abbrev pub of_others : Exec → Value → Bool
of_others n (Place (Frame m d) p) = not (exec_eq m n)
of_others n (Place (Fields o) p) = true
of_others n v = false

-- what is told of a run and of the way to what is asked next: seats, each place that nothing bars, and each at which what it reads is at home; each place that is
-- another's, as what no mutex object is at home in; and each, as that of a scalar
abbrev pub open_to : (p : Program) (input : List ℕ) (opts : Options) {j : Journal} {w : World} → Runs (source_of p) input opts j w → {q t k : ℕ} {s : State} {a : Asked} →
    AsksIn (source_of p) opts j w q t k s a → Exec → Value → Bool
open_to p input opts {j} {w} r d n z = is_place z &&
    (not (way_bars (λ o. home_of (source_of p) input opts j w r o) (source_of p) input opts r d n z) || has_read p input opts r d n z)

abbrev pub based : (p : Program) (input : List ℕ) (opts : Options) {j : Journal} {w : World} → Runs (source_of p) input opts j w → {q t k : ℕ} {s : State} {a : Asked} →
    AsksIn (source_of p) opts j w q t k s a → Exec → Value → Ty → Bool
based p input opts {j} {w} r d n z b = seated p input opts r d n z b ||
    (open_to p input opts r d n z || ((of_others n z && is_bare b) || is_scalar b))

-- what holds in the states of the way to each act of a run, by the journal and the world before that and the task that acts
module _ (P : Journal → World → ℕ → State → Type 0) (source : Source) (input : List ℕ) (opts : Options) where
  abbrev pub MayHoldOnWay : {j : Journal} {w : World} {a : List Entry} {x : World} → May source opts input j w a x → Type 0
  MayHoldOnWay (gives p u s h) = Unit {0}
  MayHoldOnWay (no_room p u s h) = Unit {0}
  MayHoldOnWay {j} {w} (acts p u n s q d) = RideMeets (P j w u) source (answered source d.given (drawn j w u)) (left opts j u) s n q d.rides

  abbrev pub RunHoldsOnWay : {j : Journal} {w : World} → Runs source input opts j w → Type 0
  RunHoldsOnWay begun = Unit {0}
  RunHoldsOnWay (more r o m) = RunHoldsOnWay r × MayHoldOnWay m

-- where an object goes, is given up or has been built this is asked of what is the own of who runs alone
abbrev pub AsksOpen : Few → State → List Todo → Value → Type 0 → Type 0
AsksOpen few v (GoneNow ∷ todo) z A = Belongs few v.env.exec z → A
AsksOpen few v (GiveUpNow ∷ todo) z A = Belongs few v.env.exec z → A
AsksOpen few v (MadeNow ∷ todo) z A = Belongs few v.env.exec z → A
AsksOpen few v (SpawnNow r ∷ todo) z A = Belongs few v.env.exec z → A
AsksOpen few v todo z A = A

-- in a state nothing bars what executions read
abbrev pub ReadsOpen : Few → (source : Source) (read : Exec → Value → Bool) (j : Journal) (w : World) (u : ℕ) (v : State) → Type 0
ReadsOpen few source read j w u v = (n : Exec) (z : Value) → read n z ≡ true → AsksOpen few v v.run.control z (bars_by few.home source j w u v.run.control v n z ≡ false)

-- What executions have of others as a run tells it: each the object for which it was made, as one that is not whole.
use Rattle.std.specs.Prelude.{ℕ, ◌&&◌, ◌||◌, Bool, true, false, List, [], ◌∷◌, Option, Some, None, nat_eq}
use Rattle.uc_tree.specs.Programs.{Program}
use Rattle.uc_tree.specs.Source.{Shape, Integer, Character, Truth, Binding, Last, Field, Array, Source}
use Rattle.uc_entry.specs.declared.entry.Options.{Options}
use Rattle.uc_entry.specs.declared.entry.Entry.{Entry}
use Rattle.uc_entry.specs.declared.request.Asked.{Asked}
use Rattle.uc_acts.specs.Journal.{Journal}
use Rattle.uc_machine.specs.declared.exec.Exec.{Exec}
use Rattle.uc_machine.specs.declared.exec.Owner.{Owner}
use Rattle.uc_machine.specs.declared.exec.Owner.TheVariants.{Frame, Fields}
use Rattle.uc_machine.specs.Executions.{exec_eq}
use Rattle.uc_machine.specs.Switches.{new_exec}
use Rattle.uc_machine.specs.Monitors.{this_object}
use Rattle.uc_machine.specs.Pieces.{Link, Slot, FieldAt, At, Value, Place, Object, Todo, SetUpNow, SpawnNow, State}
use Rattle.uc_machine.specs.Quiet.{home_at}
use Rattle.uc_machine.specs.Rides.{Rides, slices, goes_on, ticks, asks}
use Rattle.uc_meaning.specs.Runs.{World, May, Runs, AsksIn, gives, no_room, acts, begun, more}
use Rattle.uc_resolve.specs.Resolve.{source_of}
use Rattle.uc_sound.specs.Tables.{table_of}
use Rattle.uc_typing.specs.Typing.{Ty, Raw, Table}
use Rattle.uc_life_laws.specs.Knowing.{main_of}

-- whether two places are the same

abbrev pub same_shape : Shape → Shape → Bool
same_shape Integer Integer = true
same_shape Character Character = true
same_shape Truth Truth = true
same_shape Binding Binding = true
same_shape Last Last = true
same_shape (Field a b) (Field c d) = same_shape a c && same_shape b d
same_shape (Array n a) (Array m b) = nat_eq n m && same_shape a b
same_shape a b = false

abbrev pub same_link : Link → Link → Bool
same_link (Slot k) (Slot m) = nat_eq k m
same_link (FieldAt s i) (FieldAt r j) = nat_eq i j && same_shape s r
same_link (At s i) (At r j) = nat_eq i j && same_shape s r
same_link k l = false

abbrev pub same_path : List Link → List Link → Bool
same_path [] [] = true
same_path (k ∷ p) (l ∷ q) = same_link k l && same_path p q
same_path p q = false

abbrev pub same_owner : Owner → Owner → Bool
same_owner (Frame n d) (Frame m e) = exec_eq n m && nat_eq d e
same_owner (Fields o) (Fields u) = nat_eq o u
same_owner o u = false

abbrev pub is_same : Value → Value → Bool
is_same (Place o p) (Place u q) = same_owner o u && same_path p q
is_same (Object o) (Object u) = nat_eq o u
is_same v w = false

-- what has this object of this class has it at hand as one that is not whole, so that nothing is had which stands in it
abbrev pub is_seat : ℕ → Value → Value → Ty → Bool
is_seat c v w (Raw d) = nat_eq c d && is_same v w
is_seat c v w a = false

abbrev pub of_class : Option ℕ → (ℕ → Bool) → Bool
of_class None f = false
of_class (Some c) f = f c

module _ (t : Table) where
  -- what a state makes next: an execution for the object at hand, or the main of a task
  abbrev pub seat_by : List Todo → State → Exec → Value → Ty → Bool
  seat_by (SetUpNow r ∷ todo) s n w a = exec_eq n (new_exec (home_at s.run.this s.env) s.env) &&
      of_class (t.routine r).this (λ c. t.executes c && is_seat c s.run.this w a)
  seat_by (SpawnNow r ∷ todo) s n w a = exec_eq n (main_of (this_object s)) &&
      of_class (t.routine r).this (λ c. is_seat c (Object (this_object s)) w a)
  seat_by todo s n w a = false

  -- what a ride makes, and a run
  abbrev pub ride_seats : {source : Source} {s u : State} {q k : ℕ} {a : Asked} → Rides source s q u k a → Exec → Value → Ty → Bool
  ride_seats slices n w a = false
  ride_seats (goes_on {s} e r) n w a = seat_by s.run.control s n w a || ride_seats r n w a
  ride_seats (ticks {s} e r) n w a = seat_by s.run.control s n w a || ride_seats r n w a
  ride_seats (asks {s} e) n w a = seat_by s.run.control s n w a

  module _ (source : Source) (input : List ℕ) (opts : Options) where
    abbrev pub may_seats : {j : Journal} {w : World} {a : List Entry} {x : World} → May source opts input j w a x → Exec → Value → Ty → Bool
    may_seats (gives p t s h) n w a = false
    may_seats (no_room p t s h) n w a = false
    may_seats (acts p t k s asked d) n w a = ride_seats d.rides n w a

    abbrev pub run_seats : {j : Journal} {w : World} → Runs source input opts j w → Exec → Value → Ty → Bool
    run_seats begun n w a = false
    run_seats (more r o m) n w a = run_seats r n w a || may_seats m n w a

-- so it is in a run and on the way to what is asked next
abbrev pub seated : (p : Program) (input : List ℕ) (opts : Options) {j : Journal} {w : World} → Runs (source_of p) input opts j w → {q t k : ℕ} {s : State} {a : Asked} →
    AsksIn (source_of p) opts j w q t k s a → Exec → Value → Ty → Bool
seated p input opts {j} {w} r d n v b =
    run_seats (table_of p) (source_of p) input opts r n v b || ride_seats (table_of p) d.rides n v b

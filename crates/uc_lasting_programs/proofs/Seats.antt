-- An execution that is made, and a task that begins, has its object at hand, as the run tells it.
use Rattle.std.proofs.Common.{inl, inr, ◌≡◌, ℕ, ◌&&◌, ◌||◌, Bool, true, false, List, [], ◌∷◌, Option, Some, refl, sym, ap, ◌∙◌, subst}
use Rattle.std.specs.Prelude.{nat_eq}
use Rattle.std.proofs.lemmas.Bool.{eq-eqb}
use Rattle.uc_tree.specs.Source.{Shape, Integer, Character, Truth, Binding, Last, Field, Array, Source}
use Rattle.uc_entry.specs.declared.entry.Options.{Options}
use Rattle.uc_entry.specs.declared.request.Asked.{Asked}
use Rattle.uc_acts.specs.Journal.{Journal}
use Rattle.uc_machine.specs.declared.exec.Exec.{Exec}
use Rattle.uc_machine.specs.declared.exec.Owner.{Owner}
use Rattle.uc_machine.specs.declared.exec.Owner.TheVariants.{Frame, Fields}
use Rattle.uc_machine.specs.Executions.{exec_eq}
use Rattle.uc_machine.specs.Switches.{new_exec}
use Rattle.uc_machine.specs.Monitors.{this_object}
use Rattle.uc_machine.specs.Pieces as piece
use Rattle.uc_machine.specs.Pieces.{Link, Slot, FieldAt, At, Value, Number, Place, Running, Object, Nothing, Todo, State}
use Rattle.uc_machine.specs.Quiet.{home_at}
use Rattle.uc_machine.specs.Rides.{Rides, slices, goes_on, ticks, asks}
use Rattle.uc_meaning.specs.Runs.{World, Runs, gives, no_room, acts, begun, more}
use Rattle.uc_name_laws.proofs.Homes.{exec_self}
use Rattle.uc_state_laws.specs.Opens.{RideMeets, RunMeets}
use Rattle.uc_typing.specs.Typing.{Ty, Raw, Table}
use Rattle.uc_life_laws.specs.Knowing.{main_of}
use Rattle.uc_life_laws.specs.Rooted.{IsPlace, IsBase}
use Rattle.uc_lasting_programs.specs.Seats.{same_shape, same_link, same_path, same_owner, is_same, is_seat, of_class, seat_by, ride_seats, run_seats}

-- truth values

pub both_true : (a b : Bool) → a ≡ true → b ≡ true → (a && b) ≡ true
both_true a b h k = ap (λ c. c && b) h ∙ k

pub left_true : (a b : Bool) → a ≡ true → (a || b) ≡ true
left_true a b h = ap (λ c. c || b) h

pub right_true : (a b : Bool) → b ≡ true → (a || b) ≡ true
right_true true b h = refl
right_true false b h = h

-- a place is the same as itself

shape_self : (s : Shape) → same_shape s s ≡ true
shape_self Integer = refl
shape_self Character = refl
shape_self Truth = refl
shape_self Binding = refl
shape_self Last = refl
shape_self (Field a b) = both_true (same_shape a a) (same_shape b b) (shape_self a) (shape_self b)
shape_self (Array n a) = both_true (nat_eq n n) (same_shape a a) (eq-eqb n n refl) (shape_self a)

link_self : (l : Link) → same_link l l ≡ true
link_self (Slot k) = eq-eqb k k refl
link_self (FieldAt s i) = both_true (nat_eq i i) (same_shape s s) (eq-eqb i i refl) (shape_self s)
link_self (At s i) = both_true (nat_eq i i) (same_shape s s) (eq-eqb i i refl) (shape_self s)

pub path_self : (p : List Link) → same_path p p ≡ true
path_self [] = refl
path_self (l ∷ p) = both_true (same_link l l) (same_path p p) (link_self l) (path_self p)

pub owner_self : (o : Owner) → same_owner o o ≡ true
owner_self (Frame n d) = both_true (exec_eq n n) (nat_eq d d) (exec_self n) (eq-eqb d d refl)
owner_self (Fields o) = eq-eqb o o refl

pub place_self : (v : Value) → IsPlace v → is_same v v ≡ true
place_self (Number z) h = absurd h
place_self (Place o p) h = both_true (same_owner o o) (same_path p p) (owner_self o) (path_self p)
place_self (Running x) h = absurd h
place_self (Object o) h = absurd h
place_self Nothing h = absurd h

-- `B`: what is at hand of others, by execution
module _ (t : Table) (B : Exec → Value → Ty → Type 0) where
  -- an execution has an object of this class at hand, as one that is not whole
  abbrev pub HasSeat : Exec → ℕ → Value → Type 0
  HasSeat n c (Number z) = Unit {0}
  HasSeat n c (Place o p) = B n (Place o p) (Raw c)
  HasSeat n c (Running x) = Unit {0}
  HasSeat n c (Object o) = B n (Object o) (Raw c)
  HasSeat n c Nothing = Unit {0}

  -- so has what a state makes next
  abbrev pub SeatsAt : List Todo → State → Type 0
  SeatsAt (piece.SetUpNow r ∷ todo) s = (c : ℕ) → (t.routine r).this ≡ Some c → t.executes c ≡ true → HasSeat (new_exec (home_at s.run.this s.env) s.env) c s.run.this
  SeatsAt (piece.SpawnNow r ∷ todo) s = (c : ℕ) → (t.routine r).this ≡ Some c → HasSeat (main_of (this_object s)) c (Object (this_object s))
  SeatsAt todo s = Unit {0}

  abbrev pub Seats : State → Type 0
  Seats s = SeatsAt s.run.control s

  class_self : (x : Option ℕ) (f : ℕ → Bool) (c : ℕ) → x ≡ Some c → f c ≡ true → of_class x f ≡ true
  class_self x f c e h = subst (λ y. of_class y f ≡ true) (sym e) h

  -- `ok`: of which classes it is told
  seat_has : (ok : ℕ → Bool) (n : Exec) (x : Option ℕ) (c : ℕ) → x ≡ Some c → ok c ≡ true → (v : Value) → ((w : Value) (a : Ty) → IsBase w a → of_class x (λ d. ok d && is_seat d v w a) ≡ true → B n w a) → HasSeat n c v
  seat_has ok n x c e k (Number z) f = tt
  seat_has ok n x c e k (Place o p) f =
      f (Place o p) (Raw c) (inl tt) (class_self x (λ d. ok d && is_seat d (Place o p) (Place o p) (Raw c)) c e (both_true (ok c) _ k (both_true (nat_eq c c) (is_same (Place o p) (Place o p)) (eq-eqb c c refl) (place_self (Place o p) tt))))
  seat_has ok n x c e k (Running m) f = tt
  seat_has ok n x c e k (Object o) f =
      f (Object o) (Raw c) (inr (o, c, refl, refl)) (class_self x (λ d. ok d && is_seat d (Object o) (Object o) (Raw c)) c e (both_true (ok c) _ k (both_true (nat_eq c c) (nat_eq o o) (eq-eqb c c refl) (eq-eqb o o refl))))
  seat_has ok n x c e k Nothing f = tt

  seats_at : (l : List Todo) (s : State) → ((n : Exec) (w : Value) (a : Ty) → IsBase w a → seat_by t l s n w a ≡ true → B n w a) → SeatsAt l s
  seats_at (piece.SetUpNow r ∷ todo) s f = λ c e k.
      let n = new_exec (home_at s.run.this s.env) s.env in
      seat_has t.executes n (t.routine r).this c e k s.run.this (λ w a i h. f n w a i (both_true (exec_eq n n) (of_class (t.routine r).this (λ d. t.executes d && is_seat d s.run.this w a)) (exec_self n) h))
  seats_at (piece.SpawnNow r ∷ todo) s f = λ c e.
      let n = main_of (this_object s) in
      seat_has (λ d. true) n (t.routine r).this c e refl (Object (this_object s)) (λ w a i h. f n w a i (both_true (exec_eq n n) (of_class (t.routine r).this (λ d. is_seat d (Object (this_object s)) w a)) (exec_self n) h))
  seats_at l s f = tt

  -- of a ride, and of a run
  pub ride_has : {source : Source} {s u : State} {q k : ℕ} {a : Asked} (r : Rides source s q u k a) → ((n : Exec) (w : Value) (b : Ty) → IsBase w b → ride_seats t r n w b ≡ true → B n w b) → RideMeets Seats source s q u k a r
  ride_has slices f = tt
  ride_has (goes_on {s} e r) f = (
    seats_at s.run.control s (λ n w b i h. f n w b i (left_true (seat_by t s.run.control s n w b) (ride_seats t r n w b) h)),
    ride_has r (λ n w b i h. f n w b i (right_true (seat_by t s.run.control s n w b) (ride_seats t r n w b) h)),
  )
  ride_has (ticks {s} e r) f = (
    seats_at s.run.control s (λ n w b i h. f n w b i (left_true (seat_by t s.run.control s n w b) (ride_seats t r n w b) h)),
    ride_has r (λ n w b i h. f n w b i (right_true (seat_by t s.run.control s n w b) (ride_seats t r n w b) h)),
  )
  ride_has (asks {s} e) f = seats_at s.run.control s (λ n w b i h. f n w b i h)

  pub run_has : (source : Source) (input : List ℕ) (opts : Options) {j : Journal} {w : World} (r : Runs source input opts j w) → ((n : Exec) (v : Value) (b : Ty) → IsBase v b → run_seats t source input opts r n v b ≡ true → B n v b) → RunMeets Seats source input opts j w r
  run_has source input opts begun f = tt
  run_has source input opts (more r o (gives p n s le)) f = (run_has source input opts r (λ n v b i h. f n v b i (left_true (run_seats t source input opts r n v b) false h)), tt)
  run_has source input opts (more r o (no_room p n s le)) f = (run_has source input opts r (λ n v b i h. f n v b i (left_true (run_seats t source input opts r n v b) false h)), tt)
  run_has source input opts (more r o (acts p n k s asked d)) f = (
    run_has source input opts r (λ n v b i h. f n v b i (left_true (run_seats t source input opts r n v b) (ride_seats t d.rides n v b) h)),
    ride_has d.rides (λ n v b i h. f n v b i (right_true (run_seats t source input opts r n v b) (ride_seats t d.rides n v b) h)),
  )

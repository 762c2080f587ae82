-- What an execution is told as its seat is not whole; and where it is a mutex object, the execution is at home there, or the main of its task.
use Rattle.std.proofs.Common.{sym, ◌≡◌, ℕ, ◌⊎◌, inl, inr, ⊎_elim, ◌&&◌, ◌||◌, Bool, true, false, List, ◌∷◌, Option, Some, None, refl, ap, ◌∙◌}
use Rattle.std.specs.Prelude.{nat_eq}
use Rattle.std.proofs.lemmas.Bool.{eqb-true}
use Rattle.uc_tree.specs.Source.{Source}
use Rattle.uc_entry.specs.declared.entry.Options.{Options}
use Rattle.uc_entry.specs.declared.request.Asked.{Asked}
use Rattle.uc_acts.specs.Journal.{Journal}
use Rattle.uc_machine.specs.declared.exec.Exec.{Exec}
use Rattle.uc_machine.specs.declared.exec.Home.TheVariants as home
use Rattle.uc_machine.specs.Executions.{exec_eq}
use Rattle.uc_machine.specs.Switches.{new_exec}
use Rattle.uc_machine.specs.Monitors.{this_object}
use Rattle.uc_machine.specs.Pieces as piece
use Rattle.uc_machine.specs.Pieces.{Value, Object, Todo, State, object_in}
use Rattle.uc_machine.specs.Quiet.{home_at}
use Rattle.uc_machine.specs.Rides.{Rides, slices, goes_on, ticks, asks}
use Rattle.uc_meaning.specs.Runs.{World, Runs, gives, no_room, acts, begun, more}
use Rattle.uc_name_laws.proofs.Homes.{same_exec}
use Rattle.uc_typing.specs.Typing.{Ty, Raw, Table}
use Rattle.uc_life_laws.specs.Things.{Few}
use Rattle.uc_life_laws.specs.Belonging.{Belongs}
use Rattle.uc_life_laws.specs.Knowing.{main_of}
use Rattle.uc_lasting_programs.specs.Seats.{is_same, is_seat, of_class, seat_by, ride_seats, run_seats}
use Rattle.uc_lasting_programs.specs.Bases.{is_bare}

-- truth values

pub one_true : (a b : Bool) → (a || b) ≡ true → (a ≡ true) ⊎ (b ≡ true)
one_true true b h = inl refl
one_true false b h = inr h

pub no_true : {A : Type 0} → false ≡ true → A
no_true h = absurd (cc)

pub left_both : (a b : Bool) → (a && b) ≡ true → a ≡ true
left_both true b h = refl
left_both false b h = no_true h

pub right_both : (a b : Bool) → (a && b) ≡ true → b ≡ true
right_both true b h = h
right_both false b h = no_true h

-- an execution was made for a mutex object: it is at home there, or it is the main of the task of which that is the own one
abbrev pub IsMadeFor : Exec → ℕ → Type 0
IsMadeFor n o = (n.home ≡ home.Object o) ⊎ (n ≡ main_of o)

-- it was so for no object that is at home in what is its own
abbrev pub IsForeign : Few → Exec → Type 0
IsForeign few n = (o : ℕ) → IsMadeFor n o → Belongs few n (few.home o) → ⊥

-- an object is a mutex object by its number
same_object : (v : Value) (o : ℕ) → is_same v (Object o) ≡ true → v ≡ Object o
same_object (Object q) o h = ap Object (eqb-true q o h)
same_object v o h = no_true h

module _ (t : Table) where
  at_seat : (c : ℕ) (v : Value) (o : ℕ) (b : Ty) → is_seat c v (Object o) b ≡ true → v ≡ Object o
  at_seat c v o (Raw d) h = same_object v o (right_both (nat_eq c d) (is_same v (Object o)) h)
  at_seat c v o b h = no_true h

  at_class : (x : Option ℕ) (v : Value) (o : ℕ) (b : Ty) → of_class x (λ c. is_seat c v (Object o) b) ≡ true → v ≡ Object o
  at_class None v o b h = no_true h
  at_class (Some c) v o b h = at_seat c v o b h

  set_seat : (c : ℕ) (v : Value) (o : ℕ) (b : Ty) → (t.executes c && is_seat c v (Object o) b) ≡ true → v ≡ Object o
  set_seat c v o b h = at_seat c v o b (right_both (t.executes c) (is_seat c v (Object o) b) h)

  set_class : (x : Option ℕ) (v : Value) (o : ℕ) (b : Ty) → of_class x (λ c. t.executes c && is_seat c v (Object o) b) ≡ true → v ≡ Object o
  set_class None v o b h = no_true h
  set_class (Some c) v o b h = set_seat c v o b h

  -- one that is set up is of a class that has executions
  executed_seat : (c d : ℕ) (v w : Value) → (t.executes c && is_seat c v w (Raw d)) ≡ true → t.executes d ≡ true
  executed_seat c d v w h =
      let same : c ≡ d = eqb-true c d (left_both (nat_eq c d) (is_same v w) (right_both (t.executes c) (is_seat c v w (Raw d)) h)) in
      ap t.executes (sym same) ∙ left_both (t.executes c) (is_seat c v w (Raw d)) h

  executed_class : (x : Option ℕ) (d : ℕ) (v w : Value) → of_class x (λ c. t.executes c && is_seat c v w (Raw d)) ≡ true → t.executes d ≡ true
  executed_class None d v w h = no_true h
  executed_class (Some c) d v w h = executed_seat c d v w h

  -- so where one is told as one of this class, that has executions, or it is the main of a task
  executed_by : (l : List Todo) (s : State) (n : Exec) (o d : ℕ) → seat_by t l s n (Object o) (Raw d) ≡ true → (t.executes d ≡ true) ⊎ (n ≡ main_of o)
  executed_by (piece.SetUpNow r ∷ todo) s n o d h =
      inl (executed_class (t.routine r).this d s.run.this (Object o) (right_both (exec_eq n (new_exec (home_at s.run.this s.env) s.env)) _ h))
  executed_by (piece.SpawnNow r ∷ todo) s n o d h =
      let this : Object (this_object s) ≡ Object o = at_class (t.routine r).this (Object (this_object s)) o (Raw d) (right_both (exec_eq n (main_of (this_object s))) _ h) in
      let same : n ≡ main_of (this_object s) = same_exec n (main_of (this_object s)) (left_both _ (of_class (t.routine r).this (λ c. is_seat c (Object (this_object s)) (Object o) (Raw d))) h) in
      inr (same ∙ ap (λ v. main_of (object_in v)) this)
  executed_by l s n o d h = no_true h

  told_by : (l : List Todo) (s : State) (n : Exec) (o : ℕ) (b : Ty) → seat_by t l s n (Object o) b ≡ true → IsMadeFor n o
  told_by (piece.SetUpNow r ∷ todo) s n o b h =
      let this : s.run.this ≡ Object o = set_class (t.routine r).this s.run.this o b (right_both (exec_eq n (new_exec (home_at s.run.this s.env) s.env)) _ h) in
      let same : n ≡ new_exec (home_at s.run.this s.env) s.env = same_exec n (new_exec (home_at s.run.this s.env) s.env) (left_both _ (of_class (t.routine r).this (λ c. t.executes c && is_seat c s.run.this (Object o) b)) h) in
      inl (ap (λ (m : Exec). m.home) same ∙ ap (λ v. home_at v s.env) this)
  told_by (piece.SpawnNow r ∷ todo) s n o b h =
      let this : Object (this_object s) ≡ Object o = at_class (t.routine r).this (Object (this_object s)) o b (right_both (exec_eq n (main_of (this_object s))) _ h) in
      let same : n ≡ main_of (this_object s) = same_exec n (main_of (this_object s)) (left_both _ (of_class (t.routine r).this (λ c. is_seat c (Object (this_object s)) (Object o) b)) h) in
      inr (same ∙ ap (λ v. main_of (object_in v)) this)
  told_by l s n o b h = no_true h

  -- on a ride, and in a run
  pub ride_told : {source : Source} {s u : State} {q k : ℕ} {a : Asked} (r : Rides source s q u k a) (n : Exec) (o : ℕ) (b : Ty) → ride_seats t r n (Object o) b ≡ true → IsMadeFor n o
  ride_told slices n o b h = no_true h
  ride_told (goes_on {s} e r) n o b h =
      ⊎_elim (told_by s.run.control s n o b) (ride_told r n o b) (one_true (seat_by t s.run.control s n (Object o) b) (ride_seats t r n (Object o) b) h)
  ride_told (ticks {s} e r) n o b h =
      ⊎_elim (told_by s.run.control s n o b) (ride_told r n o b) (one_true (seat_by t s.run.control s n (Object o) b) (ride_seats t r n (Object o) b) h)
  ride_told (asks {s} e) n o b h = told_by s.run.control s n o b h

  pub run_told : (source : Source) (input : List ℕ) (opts : Options) {j : Journal} {w : World} (r : Runs source input opts j w) (n : Exec) (o : ℕ) (b : Ty) → run_seats t source input opts r n (Object o) b ≡ true → IsMadeFor n o
  run_told source input opts begun n o b h = no_true h
  run_told source input opts (more r e (gives p q s le)) n o b h =
      ⊎_elim (run_told source input opts r n o b) no_true (one_true (run_seats t source input opts r n (Object o) b) false h)
  run_told source input opts (more r e (no_room p q s le)) n o b h =
      ⊎_elim (run_told source input opts r n o b) no_true (one_true (run_seats t source input opts r n (Object o) b) false h)
  run_told source input opts (more r e (acts p q k s asked d)) n o b h =
      ⊎_elim (run_told source input opts r n o b) (ride_told d.rides n o b) (one_true (run_seats t source input opts r n (Object o) b) (ride_seats t d.rides n (Object o) b) h)

-- of which classes that is told
module _ (t : Table) where
  pub ride_executed : {source : Source} {s u : State} {q k : ℕ} {a : Asked} (r : Rides source s q u k a) (n : Exec) (o d : ℕ) → ride_seats t r n (Object o) (Raw d) ≡ true → (t.executes d ≡ true) ⊎ (n ≡ main_of o)
  ride_executed slices n o d h = no_true h
  ride_executed (goes_on {s} e r) n o d h =
      ⊎_elim (executed_by t s.run.control s n o d) (ride_executed r n o d) (one_true (seat_by t s.run.control s n (Object o) (Raw d)) (ride_seats t r n (Object o) (Raw d)) h)
  ride_executed (ticks {s} e r) n o d h =
      ⊎_elim (executed_by t s.run.control s n o d) (ride_executed r n o d) (one_true (seat_by t s.run.control s n (Object o) (Raw d)) (ride_seats t r n (Object o) (Raw d)) h)
  ride_executed (asks {s} e) n o d h = executed_by t s.run.control s n o d h

  pub run_executed : (source : Source) (input : List ℕ) (opts : Options) {j : Journal} {w : World} (r : Runs source input opts j w) (n : Exec) (o d : ℕ) → run_seats t source input opts r n (Object o) (Raw d) ≡ true → (t.executes d ≡ true) ⊎ (n ≡ main_of o)
  run_executed source input opts begun n o d h = no_true h
  run_executed source input opts (more r e (gives p q s le)) n o d h =
      ⊎_elim (run_executed source input opts r n o d) no_true (one_true (run_seats t source input opts r n (Object o) (Raw d)) false h)
  run_executed source input opts (more r e (no_room p q s le)) n o d h =
      ⊎_elim (run_executed source input opts r n o d) no_true (one_true (run_seats t source input opts r n (Object o) (Raw d)) false h)
  run_executed source input opts (more r e (acts p q k s asked x)) n o d h =
      ⊎_elim (run_executed source input opts r n o d) (ride_executed x.rides n o d) (one_true (run_seats t source input opts r n (Object o) (Raw d)) (ride_seats t x.rides n (Object o) (Raw d)) h)

-- what is told so is of what is not whole
module _ (t : Table) where
  raw_seat : (c : ℕ) (v w : Value) (b : Ty) → is_seat c v w b ≡ true → is_bare b ≡ true
  raw_seat c v w (Raw d) h = refl
  raw_seat c v w b h = no_true h

  raw_class : (x : Option ℕ) (v w : Value) (b : Ty) → of_class x (λ c. is_seat c v w b) ≡ true → is_bare b ≡ true
  raw_class None v w b h = no_true h
  raw_class (Some c) v w b h = raw_seat c v w b h

  raw_set : (x : Option ℕ) (v w : Value) (b : Ty) → of_class x (λ c. t.executes c && is_seat c v w b) ≡ true → is_bare b ≡ true
  raw_set None v w b h = no_true h
  raw_set (Some c) v w b h = raw_seat c v w b (right_both (t.executes c) (is_seat c v w b) h)

  raw_by : (l : List Todo) (s : State) (n : Exec) (w : Value) (b : Ty) → seat_by t l s n w b ≡ true → is_bare b ≡ true
  raw_by (piece.SetUpNow r ∷ todo) s n w b h = raw_set (t.routine r).this s.run.this w b (right_both (exec_eq n (new_exec (home_at s.run.this s.env) s.env)) _ h)
  raw_by (piece.SpawnNow r ∷ todo) s n w b h = raw_class (t.routine r).this (Object (this_object s)) w b (right_both (exec_eq n (main_of (this_object s))) _ h)
  raw_by l s n w b h = no_true h

  pub ride_raw : {source : Source} {s u : State} {q k : ℕ} {a : Asked} (r : Rides source s q u k a) (n : Exec) (w : Value) (b : Ty) → ride_seats t r n w b ≡ true → is_bare b ≡ true
  ride_raw slices n w b h = no_true h
  ride_raw (goes_on {s} e r) n w b h = ⊎_elim (raw_by s.run.control s n w b) (ride_raw r n w b) (one_true (seat_by t s.run.control s n w b) (ride_seats t r n w b) h)
  ride_raw (ticks {s} e r) n w b h = ⊎_elim (raw_by s.run.control s n w b) (ride_raw r n w b) (one_true (seat_by t s.run.control s n w b) (ride_seats t r n w b) h)
  ride_raw (asks {s} e) n w b h = raw_by s.run.control s n w b h

  pub run_raw : (source : Source) (input : List ℕ) (opts : Options) {j : Journal} {w : World} (r : Runs source input opts j w) (n : Exec) (v : Value) (b : Ty) → run_seats t source input opts r n v b ≡ true → is_bare b ≡ true
  run_raw source input opts begun n v b h = no_true h
  run_raw source input opts (more r e (gives p q s le)) n v b h = ⊎_elim (run_raw source input opts r n v b) no_true (one_true (run_seats t source input opts r n v b) false h)
  run_raw source input opts (more r e (no_room p q s le)) n v b h = ⊎_elim (run_raw source input opts r n v b) no_true (one_true (run_seats t source input opts r n v b) false h)
  run_raw source input opts (more r e (acts p q k s asked d)) n v b h =
      ⊎_elim (run_raw source input opts r n v b) (ride_raw d.rides n v b) (one_true (run_seats t source input opts r n v b) (ride_seats t d.rides n v b) h)

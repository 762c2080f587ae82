-- What is another's, and no mutex object, is at hand of each execution by what is told of others, and so is the place of each scalar.
use Rattle.std.proofs.Common.{◌≡◌, ℕ, inl, inr, ◌&&◌, ◌||◌, true, false, List, refl}
use Rattle.uc_tree.specs.Programs.{Program}
use Rattle.uc_entry.specs.declared.entry.Options.{Options}
use Rattle.uc_entry.specs.declared.request.Asked.{Asked}
use Rattle.uc_acts.specs.Journal.{Journal}
use Rattle.uc_machine.specs.declared.exec.Exec.{Exec}
use Rattle.uc_machine.specs.declared.exec.Owner.{Owner}
use Rattle.uc_machine.specs.Pieces.{Link, Value, Number, Place, Running, Object, Nothing, State}
use Rattle.uc_meaning.specs.Runs.{World, Runs, AsksIn}
use Rattle.uc_resolve.specs.Resolve.{source_of}
use Rattle.uc_name_laws.proofs.Homes.{no_both}
use Rattle.uc_typing.specs.Typing.{Ty, Num, Cell, Obj, Raw, Row, Clu, Pro, Table}
use Rattle.uc_typing.specs.States.{Is}
use Rattle.uc_life_laws.specs.Things.{Few, Base, itself, lies, LiesIn, Known}
use Rattle.uc_life_laws.specs.Rooted.{IsPlace}
use Rattle.uc_lasting_programs.specs.Bases.{is_bare, is_scalar, of_others, open_to, based}
use Rattle.uc_lasting_programs.specs.OfOthers.{IsHad, IsOfOthers}
use Rattle.uc_lasting_programs.specs.Seats.{seated}
use Rattle.uc_lasting_programs.specs.Telling.{main_class, is_main_home, few_of}
use Rattle.uc_lasting_programs.proofs.Seats.{left_true, right_true, both_true}

-- each place that is another's is had as what no mutex object is at home in, and each as that of a scalar
abbrev pub HasOthers : Few → Type 0
HasOthers few = ((n : Exec) (v : Value) (b : Ty) → of_others n v ≡ true → is_bare b ≡ true → Base few n v b) ×
    ((n : Exec) (v : Value) → IsPlace v → Base few n v (Cell Num))

module _ (t : Table) (few : Few) (had : HasOthers few) (n : Exec) (K : Value → Ty → Type 0) (more : (v : Value) (b : Ty) → Base few n v b → K v b) where
  -- it lies in what is at hand
  scalar_lies : (v : Value) → IsPlace v → LiesIn t few n K (Cell Num) v
  scalar_lies (Number z) h = tt
  scalar_lies (Place o p) h = inl (lies (more (Place o p) (Cell Num) (had.1 n (Place o p) h)) itself)
  scalar_lies (Running x) h = tt
  scalar_lies (Object o) h = absurd h
  scalar_lies Nothing h = tt

  object_lies : (c : ℕ) (v : Value) → of_others n v ≡ true → LiesIn t few n K (Obj c) v
  object_lies c (Number z) h = tt
  object_lies c (Place o p) h = inr (Place o p, c, more (Place o p) (Raw c) (had.0 n (Place o p) (Raw c) h refl), itself)
  object_lies c (Running x) h = tt
  object_lies c (Object o) h = no_both false h refl
  object_lies c Nothing h = tt

  -- what is no object has each number
  scalar_known : (v : Value) → Is t (Cell Num) v → IsPlace v → Known t few n K (Cell Num) v
  scalar_known (Number z) i h = absurd i
  scalar_known (Place o p) i h = record { is = i; passes = tt; rooted = λ r. scalar_lies (Place o p) h; held = λ m. absurd m; seated = λ s. absurd s }
  scalar_known (Running x) i h = absurd i
  scalar_known (Object o) i h = absurd i
  scalar_known Nothing i h = absurd i

  object_known : (c : ℕ) (v : Value) → t.mutex c ≡ false → Is t (Obj c) v → of_others n v ≡ true → Known t few n K (Obj c) v
  object_known c (Number z) plain i h = no_both false h refl
  object_known c (Place o p) plain i h = record { is = i; passes = tt; rooted = λ r. object_lies c (Place o p) h; held = λ m. no_both (t.mutex c) m plain; seated = λ s. absurd s }
  object_known c (Running x) plain i h = no_both false h refl
  object_known c (Object o) plain i h = no_both false h refl
  object_known c Nothing plain i h = no_both false h refl

  pub lies_of_others : (a : Ty) (v : Value) → IsHad t n a v → LiesIn t few n K a v
  lies_of_others Num v h = absurd h
  lies_of_others (Cell Num) v h = scalar_lies v h
  lies_of_others (Cell (Cell a)) v h = absurd h
  lies_of_others (Cell (Obj c)) v h = absurd h
  lies_of_others (Cell (Raw c)) v h = absurd h
  lies_of_others (Cell (Row m a)) v h = absurd h
  lies_of_others (Cell Clu) v h = absurd h
  lies_of_others (Cell Pro) v h = absurd h
  lies_of_others (Obj c) v h = object_lies c v h.1
  lies_of_others (Raw c) v h = absurd h
  lies_of_others (Row m a) v h = absurd h
  lies_of_others Clu v h = absurd h
  lies_of_others Pro v h = absurd h

  pub known_of_others : (a : Ty) (v : Value) → IsOfOthers t n a v → Known t few n K a v
  known_of_others Num v h = absurd h.1
  known_of_others (Cell Num) v h = scalar_known v h.0 h.1
  known_of_others (Cell (Cell a)) v h = absurd h.1
  known_of_others (Cell (Obj c)) v h = absurd h.1
  known_of_others (Cell (Raw c)) v h = absurd h.1
  known_of_others (Cell (Row m a)) v h = absurd h.1
  known_of_others (Cell Clu) v h = absurd h.1
  known_of_others (Cell Pro) v h = absurd h.1
  known_of_others (Obj c) v h = object_known c v h.1.0 h.0 h.1.1
  known_of_others (Raw c) v h = absurd h.1
  known_of_others (Row m a) v h = absurd h.1
  known_of_others Clu v h = absurd h.1
  known_of_others Pro v h = absurd h.1

-- so it is by what a run tells of others
module _ (p : Program) (input : List ℕ) (opts : Options) (j : Journal) (w : World) (r : Runs (source_of p) input opts j w) (q u k : ℕ) (s : State) (a : Asked) (d : AsksIn (source_of p) opts j w q u k s a) where
  -- what is told beside seats, and what nothing bars
  beside : (n : Exec) (o : Owner) (l : List Link) (b : Ty) → ((of_others n (Place o l) && is_bare b) || is_scalar b) ≡ true → Base (few_of p input opts j w r (based p input opts r d)) n (Place o l) b
  beside n o l b h =
      right_true (is_main_home (main_class p) n o l b) (based p input opts r d n (Place o l) b) (right_true (seated p input opts r d n (Place o l) b) _ (right_true (open_to p input opts r d n (Place o l)) _ h))

  of_each : (n : Exec) (v : Value) (b : Ty) → of_others n v ≡ true → is_bare b ≡ true → Base (few_of p input opts j w r (based p input opts r d)) n v b
  of_each n (Number z) b h i = no_both false h refl
  of_each n (Place o l) b h i =
      beside n o l b (left_true (of_others n (Place o l) && is_bare b) (is_scalar b) (both_true (of_others n (Place o l)) (is_bare b) h i))
  of_each n (Running x) b h i = no_both false h refl
  of_each n (Object o) b h i = no_both false h refl
  of_each n Nothing b h i = no_both false h refl

  of_scalars : (n : Exec) (v : Value) → IsPlace v → Base (few_of p input opts j w r (based p input opts r d)) n v (Cell Num)
  of_scalars n (Number z) i = absurd i
  of_scalars n (Place o l) i = beside n o l (Cell Num) (right_true (of_others n (Place o l) && true) true refl)
  of_scalars n (Running x) i = absurd i
  of_scalars n (Object o) i = absurd i
  of_scalars n Nothing i = absurd i

  pub others_had : HasOthers (few_of p input opts j w r (based p input opts r d))
  others_had = (of_each, of_scalars)

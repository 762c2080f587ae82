-- What holds of arrays of mutex objects, whose elements are still to be bound or are bound, where cells are written and start anew.
use Rattle.std.proofs.Common.{◌≡◌, ℕ, ℤ, zero, suc, ◌+◌, ◌*◌, ◌≤◌, ◌<◌, ◌⊎◌, inl, inr, List, [], ◌∷◌, length, refl, ap, subst, arith}
use Rattle.std.specs.Prelude.{slice_index_or, min}
use Rattle.std.proofs.lemmas.Bool.{cases_lt}
use Rattle.std.proofs.Math.Nat.{min-eq_left, le-min}
use Rattle.uc_tree.specs.Source as src
use Rattle.uc_tree.specs.Source.{CleanUp, Stmts}
use Rattle.uc_machine.specs.declared.exec.Exec.{Exec}
use Rattle.uc_machine.specs.declared.exec.Owner.TheVariants.{Frame}
use Rattle.uc_machine.specs.Executions.{frame_changed, others, value_changed, values_cleared}
use Rattle.uc_machine.specs.Pieces as piece
use Rattle.uc_machine.specs.Pieces.{Value, Number, Place, Running, Object, Nothing, Todo, Sort, Active, stored, nought, address, LAST_ADDRESS}
use Rattle.uc_state_laws.specs.Clusters.{Begins}
use Rattle.uc_state_laws.specs.Filling.{element_at}
use Rattle.uc_life_laws.specs.Things.{Few}
use Rattle.uc_life_laws.specs.LifeStates.{frame_at}
use Rattle.uc_state_laws.proofs.Cells.{cell_stored, set_at}
use Rattle.uc_state_laws.proofs.Filling.{address_of}
use Rattle.uc_putting_laws.specs.Putting.{IsHome}
use Rattle.uc_homed_ends.specs.BoundHomes.{LeftBy}
use Rattle.uc_homed_ends.specs.ArrayHomes.{OfArray, OpensArray, NextArray, SkipBy, ArrayPiece, Arrays, ArraysLeft, Each, EachLeft, EachOrBinds, IsFree, AreFree, ArrayStack, Spares, StackSpares}
use Rattle.uc_homed_ends.proofs.BoundCells.{count_number, home_stored, newer_at, older_at}

-- cells

free_number : (few : Few) (n : Exec) (q : Value) (z : ℤ) (x : Value) → IsFree few n q x → IsFree few n q (stored (Number z) x)
free_number few n q z x (inl h) = inl (count_number z x h)
free_number few n q z x (inr h) = inr (home_stored few (Number z) x q h)

-- what is at home there
free_home : (few : Few) (n : Exec) (q w x : Value) → IsHome few w q → IsFree few n q x → IsFree few n q (stored w x)
free_home few n q w (Number z) g h = inr g
free_home few n q w (Place o p) g (inl h) = absurd h
free_home few n q w (Running e) g (inl h) = absurd h
free_home few n q w (Object o) g (inl h) = absurd h
free_home few n q w Nothing g (inl h) = absurd h
free_home few n q w x g (inr h) = inr (home_stored few w x q h)

-- of a cell that is written, and of all others
cell_tested : (P : Value → Type 0) (f : Value → Value) (vs : List Value) (j k : ℕ) → (j ≡ k → P (slice_index_or vs j nought) → P (f (slice_index_or vs j nought))) → P (slice_index_or vs j nought) → P (slice_index_or (value_changed k f nought vs) j nought)
cell_tested P f [] j k g h = h
cell_tested P f (x ∷ vs) zero zero g h = g refl h
cell_tested P f (x ∷ vs) zero (suc k) g h = h
cell_tested P f (x ∷ vs) (suc j) zero g h = h
cell_tested P f (x ∷ vs) (suc j) (suc k) g h = cell_tested P f vs j k (λ e. g (ap suc e)) h

-- of what a cell holds that starts anew
front_anew : (P : Value → Type 0) → P nought → (vs : List Value) (j n : ℕ) → P (slice_index_or vs j nought) → P (slice_index_or (values_cleared 0 n nought vs) j nought)
front_anew P z [] j zero h = h
front_anew P z [] j (suc n) h = h
front_anew P z (x ∷ vs) j zero h = h
front_anew P z (x ∷ vs) zero (suc n) h = z
front_anew P z (x ∷ vs) (suc j) (suc n) h = front_anew P z vs j n h

cell_anew : (P : Value → Type 0) → P nought → (vs : List Value) (j k n : ℕ) → P (slice_index_or vs j nought) → P (slice_index_or (values_cleared k n nought vs) j nought)
cell_anew P z vs j zero n h = front_anew P z vs j n h
cell_anew P z [] j (suc k) zero h = h
cell_anew P z [] j (suc k) (suc n) h = h
cell_anew P z (x ∷ vs) zero (suc k) n h = h
cell_anew P z (x ∷ vs) (suc j) (suc k) n h = cell_anew P z vs j k n h

-- two elements of one array lie at one address only if they are the same
pub same_index : (k n j i : ℕ) → k + n ≤ LAST_ADDRESS → j < n → address (element_at k j) ≡ address (element_at k i) → i ≡ j
same_index k n j i near l e = by (cases_lt i n)
  where
    one : address (element_at k j) ≡ k + j
    one = address_of k n j near l

    by : (i < n) ⊎ (n ≤ i) → i ≡ j
    by (inl less) = let two : address (element_at k i) ≡ k + i = address_of k n i near less in omega (arith, one, two, e)
    by (inr more) =
        let first : min (0 + k) LAST_ADDRESS ≡ 0 + k = min-eq_left (omega (arith, near)) in
        let far : k + n ≤ min (min (0 + k) LAST_ADDRESS + i * 1) LAST_ADDRESS = le-min (omega (arith, first, more)) near in
        let n : ⊥ = omega (arith, one, e, far, l) in
        absurd n

-- statements

none_clean : (P : ℕ → ℕ → Type 0) (c : CleanUp) (rest : Stmts) → Begins (src.Scoped c rest) → OfArray P c
none_clean P (src.DestroysAll n (src.OfObject (src.EndOn r written (src.Load (src.Element m src.Binding (src.Variable k) i))))) rest h = absurd h
none_clean P c rest h = tt

-- those that may stand behind any others begin with no such scope
pub begins_none : (P : ℕ → ℕ → Type 0) (ss : Stmts) → Begins ss → OpensArray P ss
begins_none P (src.Scoped c rest) h = none_clean P c rest h
begins_none P ss h = tt

module _ (P Q : ℕ → ℕ → Type 0) (f : (k n : ℕ) → P k n → Q k n) where
  of_more : (c : CleanUp) → OfArray P c → OfArray Q c
  of_more (src.DestroysAll n (src.OfObject (src.EndOn r written (src.Load (src.Element m src.Binding (src.Variable k) i))))) h = f k n h
  of_more c h = tt

  pub opens_more : (ss : Stmts) → OpensArray P ss → OpensArray Q ss
  opens_more (src.Scoped c rest) h = of_more c h
  opens_more ss h = tt

  pub next_more : (todo : List Todo) → NextArray P todo → NextArray Q todo
  next_more (piece.Rest ss ∷ todo) h = opens_more ss h
  next_more todo h = tt

module _ (P S Q : ℕ → ℕ → Type 0) (f : (k n : ℕ) → P k n → S k n → Q k n) where
  of_zip : (c : CleanUp) → OfArray P c → OfArray S c → OfArray Q c
  of_zip (src.DestroysAll n (src.OfObject (src.EndOn r written (src.Load (src.Element m src.Binding (src.Variable k) i))))) h g = f k n h g
  of_zip c h g = tt

  opens_zip : (ss : Stmts) → OpensArray P ss → OpensArray S ss → OpensArray Q ss
  opens_zip (src.Scoped c rest) h g = of_zip c h g
  opens_zip ss h g = tt

-- who leaves what is to do

module _ (P : ℕ → ℕ → Type 0) where
  left_by : (k : Sort) (left all : Type 0) → (all → left) → LeftBy k left all → left
  left_by piece.Simple left all f h = h
  left_by (piece.IsLoop order t e b) left all f h = f h.1
  left_by piece.IsWhole left all f h = f h.1
  left_by (piece.IsClean c) left all f h = f h.1
  left_by (piece.IsFill m b d) left all f h = h
  left_by (piece.IsSweep e) left all f h = f h.1
  left_by (piece.IsPart c) left all f h = f h.1
  left_by (piece.IsGuard hs) left all f h = f h.1
  left_by piece.IsFinish left all f h = f h.1
  left_by piece.IsFinishCoroutine left all f h = f h.1

  left_piece : (p : Todo) (todo : List Todo) (left all : Type 0) → (all → left) → ArrayPiece P p todo → all → LeftBy (piece.sort p) left all
  left_piece (piece.Clean c) todo left all f h k = (tt, k)
  left_piece (piece.Guard hs) todo left all f h k = (h, k)
  left_piece (piece.InLoop order t e b) todo left all f h k = (tt, k)
  left_piece piece.InWhole todo left all f h k = (tt, k)
  left_piece (piece.FillNow m b d) todo left all f h k = f k
  left_piece (piece.Sweep e) todo left all f h k = (tt, k)
  left_piece (piece.Part c) todo left all f h k = (tt, k)
  left_piece piece.Finish todo left all f h k = (tt, k)
  left_piece piece.FinishCoroutine todo left all f h k = (tt, k)
  left_piece p todo left all f h k = f k

  pub all_left : (todo : List Todo) → Arrays P todo → ArraysLeft P todo
  all_left [] h = tt
  all_left (piece.Exit w ∷ todo) h = h
  all_left (piece.Unwind ∷ todo) h = h
  all_left (p ∷ todo) h = left_piece p todo (ArraysLeft P todo) (Arrays P todo) (all_left todo) h.0 h.1

  pub left_on : (k : Sort) (todo : List Todo) → LeftBy k (ArraysLeft P todo) (Arrays P todo) → ArraysLeft P todo
  left_on k todo h = left_by k (ArraysLeft P todo) (Arrays P todo) (all_left todo) h

-- a frame has other values

module _ (P S Q : ℕ → ℕ → Type 0) (f : (k n : ℕ) → P k n → S k n → Q k n) where
  zip_by : (k : Sort) (left all skipped each more every : Type 0) → (left → skipped → more) → (all → each → every) → LeftBy k left all → SkipBy k skipped each → LeftBy k more every
  zip_by piece.Simple left all skipped each more every g i h e = g h e
  zip_by (piece.IsLoop order t x b) left all skipped each more every g i h e = (tt, i h.1 e)
  zip_by piece.IsWhole left all skipped each more every g i h e = (tt, i h.1 e)
  zip_by (piece.IsClean c) left all skipped each more every g i h e = (tt, i h.1 e)
  zip_by (piece.IsFill m b d) left all skipped each more every g i h e = g h e
  zip_by (piece.IsSweep x) left all skipped each more every g i h e = (tt, i h.1 e)
  zip_by (piece.IsPart c) left all skipped each more every g i h e = (tt, i h.1 e)
  zip_by (piece.IsGuard hs) left all skipped each more every g i h e = (h.0, i h.1 e)
  zip_by piece.IsFinish left all skipped each more every g i h e = (tt, i h.1 e)
  zip_by piece.IsFinishCoroutine left all skipped each more every g i h e = (tt, i h.1 e)

  mutual
    pub arrays_zip : (todo : List Todo) → Arrays P todo → Each S todo → Arrays Q todo
    arrays_zip [] h e = tt
    arrays_zip (piece.Rest ss ∷ todo) h e = (opens_zip P S Q f ss h.0 e.0, arrays_zip todo h.1 e.1)
    arrays_zip (piece.Exit w ∷ todo) h e = left_zip todo h e
    arrays_zip (piece.Unwind ∷ todo) h e = left_zip todo h e
    arrays_zip (p ∷ todo) h e = (h.0, arrays_zip todo h.1 e)

    left_zip : (todo : List Todo) → ArraysLeft P todo → EachLeft S todo → ArraysLeft Q todo
    left_zip [] h e = tt
    left_zip (p ∷ todo) h e = zip_by (piece.sort p) (ArraysLeft P todo) (Arrays P todo) (EachLeft S todo) (Each S todo) (ArraysLeft Q todo) (Arrays Q todo) (left_zip todo) (arrays_zip todo) h e

-- of all such arrays, by what holds of any
module _ (S : ℕ → ℕ → Type 0) (f : (k n : ℕ) → S k n) where
  any_clean : (c : CleanUp) → OfArray S c
  any_clean (src.DestroysAll n (src.OfObject (src.EndOn r written (src.Load (src.Element m src.Binding (src.Variable k) i))))) = f k n
  any_clean c = tt

  any_opens : (ss : Stmts) → OpensArray S ss
  any_opens (src.Scoped c rest) = any_clean c
  any_opens ss = tt

  any_skip : (k : Sort) (left all : Type 0) → left → all → SkipBy k left all
  any_skip piece.Simple left all h g = h
  any_skip (piece.IsFill n b d) left all h g = h
  any_skip k left all h g = g

  mutual
    any_each : (todo : List Todo) → Each S todo
    any_each [] = tt
    any_each (piece.Rest ss ∷ todo) = (any_opens ss, any_each todo)
    any_each (piece.Exit w ∷ todo) = any_left todo
    any_each (piece.Unwind ∷ todo) = any_left todo
    any_each (p ∷ todo) = any_each todo

    any_left : (todo : List Todo) → EachLeft S todo
    any_left [] = tt
    any_left (p ∷ todo) = any_skip (piece.sort p) (EachLeft S todo) (Each S todo) (any_left todo) (any_each todo)

-- elements are bound to what is no mutex object only where there are none
pub own_each : (P S : ℕ → ℕ → Type 0) (todo : List Todo) → Arrays P todo → EachOrBinds S todo → Each S todo
own_each P S todo h (inl e) = e
own_each P S (piece.DropNow ∷ (piece.MoreNow ∷ (piece.FillNow n (src.OfObject (src.Bind p e)) d ∷ (piece.Within line ∷ (piece.Rest ss ∷ todo))))) h (inr b) =
    (opens_more (λ k m. ⊥) S (λ k m x. absurd x) ss h.1.1.0, b)
own_each P S todo h (inr b) = absurd b

abbrev Anyhow : ℕ → ℕ → Type 0
Anyhow k n = Unit {0}

module _ (few : Few) (n : Exec) where
  -- the elements of an array stay so

  number_free : (f cell : ℕ) (z : ℤ) (vs : List Value) (k m : ℕ) → AreFree few n vs f k m → Anyhow k m → AreFree few n (value_changed cell (stored (Number z)) nought vs) f k m
  number_free f cell z vs k m h u = λ near j l.
      cell_stored (IsFree few n (Place (Frame n f) (element_at k j))) (Number z) (λ x y. free_number few n (Place (Frame n f) (element_at k j)) z x y) vs (address (element_at k j)) cell (h near j l)

  spared_free : (f cell : ℕ) (w : Value) (vs : List Value) (k m : ℕ) → AreFree few n vs f k m → Spares few n w cell f k m → AreFree few n (value_changed cell (stored w) nought vs) f k m
  spared_free f cell w vs k m h u = λ near j l.
      let q : Value = Place (Frame n f) (element_at k j) in
      cell_tested (IsFree few n q) (stored w) vs (address (element_at k j)) cell (λ e x. free_home few n q w (slice_index_or vs (address (element_at k j)) nought) (u near j l e) x) (h near j l)

  cleared_free : (f cell c : ℕ) (vs : List Value) (k m : ℕ) → AreFree few n vs f k m → Anyhow k m → AreFree few n (values_cleared cell c nought vs) f k m
  cleared_free f cell c vs k m h u = λ near j l. cell_anew (IsFree few n (Place (Frame n f) (element_at k j))) (inl tt) vs (address (element_at k j)) cell c (h near j l)

  arrays_number : (f cell : ℕ) (z : ℤ) (todo : List Todo) (vs : List Value) → Arrays (AreFree few n vs f) todo → Arrays (AreFree few n (value_changed cell (stored (Number z)) nought vs) f) todo
  arrays_number f cell z todo vs h = arrays_zip (AreFree few n vs f) Anyhow (AreFree few n (value_changed cell (stored (Number z)) nought vs) f) (number_free f cell z vs) todo h (any_each Anyhow (λ k m. tt) todo)

  arrays_spared : (f cell : ℕ) (w : Value) (todo : List Todo) (vs : List Value) → Each (Spares few n w cell f) todo → Arrays (AreFree few n vs f) todo → Arrays (AreFree few n (value_changed cell (stored w) nought vs) f) todo
  arrays_spared f cell w todo vs e h = arrays_zip (AreFree few n vs f) (Spares few n w cell f) (AreFree few n (value_changed cell (stored w) nought vs) f) (spared_free f cell w vs) todo h e

  arrays_cleared : (f cell c : ℕ) (todo : List Todo) (vs : List Value) → Arrays (AreFree few n vs f) todo → Arrays (AreFree few n (values_cleared cell c nought vs) f) todo
  arrays_cleared f cell c todo vs h = arrays_zip (AreFree few n vs f) Anyhow (AreFree few n (values_cleared cell c nought vs) f) (cleared_free f cell c vs) todo h (any_each Anyhow (λ k m. tt) todo)

  -- in frames of an execution, of which one is changed

  pub list_spared : (d cell : ℕ) (w : Value) (fs : List (List Value)) (f : ℕ) (todo : List Todo) → (f ≡ d → Each (Spares few n w cell f) todo) → Arrays (AreFree few n (frame_at f fs) f) todo → Arrays (AreFree few n (frame_at f (frame_changed d (value_changed cell (stored w) nought) fs)) f) todo
  list_spared d cell w fs f todo q h =
      set_at (λ vs. Arrays (AreFree few n vs f) todo) fs d f _ (λ e. arrays_spared f cell w todo (frame_at d fs) (q e) (subst (λ g. Arrays (AreFree few n (frame_at g fs) f) todo) e h)) h

  pub list_cleared : (d cell c : ℕ) (fs : List (List Value)) (f : ℕ) (todo : List Todo) → Arrays (AreFree few n (frame_at f fs) f) todo → Arrays (AreFree few n (frame_at f (frame_changed d (values_cleared cell c nought) fs)) f) todo
  list_cleared d cell c fs f todo h =
      set_at (λ vs. Arrays (AreFree few n vs f) todo) fs d f _ (λ e. arrays_cleared f cell c todo (frame_at d fs) (subst (λ g. Arrays (AreFree few n (frame_at g fs) f) todo) e h)) h

  pub stack_number : (d cell : ℕ) (z : ℤ) (fs : List (List Value)) (cs : List Active) → ArrayStack few n fs cs → ArrayStack few n (frame_changed d (value_changed cell (stored (Number z)) nought) fs) cs
  stack_number d cell z fs [] h = tt
  stack_number d cell z fs (a ∷ older) h =
      (h.0, set_at (λ vs. Arrays (AreFree few n vs a.frame) a.control) fs d a.frame _ (λ e. arrays_number a.frame cell z a.control (frame_at d fs) (subst (λ f. Arrays (AreFree few n (frame_at f fs) a.frame) a.control) e h.1)) h.1, stack_number d cell z fs older h.2)

  pub stack_spared : (d cell : ℕ) (w : Value) (fs : List (List Value)) (cs : List Active) → StackSpares few n w cell d cs → ArrayStack few n fs cs → ArrayStack few n (frame_changed d (value_changed cell (stored w) nought) fs) cs
  stack_spared d cell w fs [] q h = tt
  stack_spared d cell w fs (a ∷ older) q h = (h.0, list_spared d cell w fs a.frame a.control q.0 h.1, stack_spared d cell w fs older q.1 h.2)

  pub stack_cleared : (d cell c : ℕ) (fs : List (List Value)) (cs : List Active) → ArrayStack few n fs cs → ArrayStack few n (frame_changed d (values_cleared cell c nought) fs) cs
  stack_cleared d cell c fs [] h = tt
  stack_cleared d cell c fs (a ∷ older) h = (h.0, list_cleared d cell c fs a.frame a.control h.1, stack_cleared d cell c fs older h.2)

  pub stack_newer : (x : List Value) (fs : List (List Value)) (cs : List Active) → length cs ≤ length fs → ArrayStack few n fs cs → ArrayStack few n (x ∷ fs) cs
  stack_newer x fs [] l h = tt
  stack_newer x fs (a ∷ older) l h =
      let le = h.0 in
      (h.0, newer_at (λ vs. Arrays (AreFree few n vs a.frame) a.control) x fs a.frame (omega (arith, le, l)) h.1, stack_newer x fs older (omega (arith, l)) h.2)

  pub stack_older : (fs : List (List Value)) (cs : List Active) → length cs ≤ length (others fs) → ArrayStack few n fs cs → ArrayStack few n (others fs) cs
  stack_older fs [] l h = tt
  stack_older fs (a ∷ older) l h =
      let le = h.0 in
      (h.0, older_at (λ vs. Arrays (AreFree few n vs a.frame) a.control) fs a.frame (omega (arith, le, l)) h.1, stack_older fs older (omega (arith, l)) h.2)

-- What a frame is changed to: what is bound stays so, and cells that start anew are told.
use Rattle.std.proofs.Common.{◌≡◌, ℕ, zero, suc, ◌+◌, ◌≤◌, ◌<◌, ℤ, ◌⊎◌, inl, inr, Bool, true, false, List, [], ◌∷◌, ◌++◌, length, take, Some, refl, sym, ap, ◌∙◌, subst, arith}
use Rattle.std.specs.Prelude.{nat_eq, if◌then◌else◌, slice_index_or}
use Rattle.std.proofs.lemmas.Bool.{eqb-true}
use Rattle.uc_machine.specs.declared.exec.Exec.{Exec}
use Rattle.uc_machine.specs.declared.exec.Owner.{Owner}
use Rattle.uc_machine.specs.Executions.{at_depth, set_depth, frame_changed, list_in, others, value_changed, values_cleared}
use Rattle.uc_machine.specs.Pieces.{Value, Number, Place, Running, Object, Nothing, stored, nought, address}
use Rattle.uc_typing.specs.Typing.{Ty, Num, Cell, Obj, Raw, Row, Clu, Pro, Table}
use Rattle.uc_typing.specs.States.{whole, IsAt, IsNumbered, IsObjectBy}
use Rattle.uc_life_laws.specs.Things.{Few, Known, Holds, LiesBefore}
use Rattle.uc_life_laws.specs.LifeStates.{frame_at}
use Rattle.uc_building_laws.specs.Anew.{IsFree}
use Rattle.uc_life_laws.proofs.Cells.{tested, set_length}

abbrev pub Kept : Value → Value → Type 0
Kept v u = IsFree v ⊎ (u ≡ v)

pub kept_both : (v u w : Value) → Kept v u → Kept u w → Kept v w
kept_both v u w (inl f) k = inl f
kept_both v u w (inr e) (inl f) = inl (subst IsFree e f)
kept_both v u w (inr e) (inr q) = inr (q ∙ e)

abbrev pub CellsKeep : List Value → List Value → Type 0
CellsKeep vs us = (k : ℕ) → Kept (slice_index_or vs k nought) (slice_index_or us k nought)

-- the frame of a depth keeps what is bound
abbrev pub FrameKeeps : List (List Value) → List (List Value) → ℕ → Type 0
FrameKeeps fs gs d = CellsKeep (frame_at d fs) (frame_at d gs)

stored_kept : (v x : Value) → Kept x (stored v x)
stored_kept v (Number n) = inl tt
stored_kept v (Place o p) = inr refl
stored_kept v (Running e) = inr refl
stored_kept v (Object o) = inr refl
stored_kept v Nothing = inl tt

cells_stored : (v : Value) (vs : List Value) (j : ℕ) → CellsKeep vs (value_changed j (stored v) nought vs)
cells_stored v [] j k = inr refl
cells_stored v (x ∷ vs) zero zero = stored_kept v x
cells_stored v (x ∷ vs) zero (suc k) = inr refl
cells_stored v (x ∷ vs) (suc j) zero = inr refl
cells_stored v (x ∷ vs) (suc j) (suc k) = cells_stored v vs j k

-- before a cell
cells_taken : (vs ws : List Value) (j k : ℕ) → k < j → Kept (slice_index_or vs k nought) (slice_index_or (take j vs ++ ws) k nought)
cells_taken [] ws j k l = inl tt
cells_taken (x ∷ vs) ws zero k l = let n : ⊥ = omega (arith, l) in absurd n
cells_taken (x ∷ vs) ws (suc j) zero l = inr refl
cells_taken (x ∷ vs) ws (suc j) (suc k) l = cells_taken vs ws j k (omega (arith, l))

pub cells_cleared : (vs : List Value) (j m k : ℕ) → k < j → Kept (slice_index_or vs k nought) (slice_index_or (values_cleared j m nought vs) k nought)
cells_cleared vs j m k l = cells_taken vs _ j k l

-- a frame is changed: what held of another one holds on, and what holds of its new values
pub set_at : (P : List Value → Type 0) (fs : List (List Value)) (d f : ℕ) (y : List Value) → (f ≡ d → P y) → P (frame_at f fs) → P (frame_at f (set_depth fs d y))
set_at P [] d f y h k = k
set_at P (x ∷ xs) d f y h k = by (set_at P xs d f y h) (nat_eq d (length xs)) refl (nat_eq f (length xs)) refl k
  where
    by : (P (frame_at f xs) → P (frame_at f (set_depth xs d y))) → (b : Bool) → nat_eq d (length xs) ≡ b → (c : Bool) → nat_eq f (length xs) ≡ c → P (list_in (if c then Some x else at_depth xs f)) → P (list_in (at_depth (if b then y ∷ xs else x ∷ set_depth xs d y) f))
    by more true e true g k =
        let same : f ≡ d = eqb-true f (length xs) g ∙ sym (eqb-true d (length xs) e) in
        subst (λ (c : Bool). P (list_in (if c then Some y else at_depth xs f))) (sym g) (h same)
    by more true e false g k = subst (λ (c : Bool). P (list_in (if c then Some y else at_depth xs f))) (sym g) k
    by more false e true g k =
        let l : nat_eq f (length (set_depth xs d y)) ≡ true = ap (nat_eq f) (set_length xs d y) ∙ g in
        subst (λ (c : Bool). P (list_in (if c then Some x else at_depth (set_depth xs d y) f))) (sym l) k
    by more false e false g k =
        let l : nat_eq f (length (set_depth xs d y)) ≡ false = ap (nat_eq f) (set_length xs d y) ∙ g in
        subst (λ (c : Bool). P (list_in (if c then Some x else at_depth (set_depth xs d y) f))) (sym l) (more k)

-- what is there is changed
pub set_there : (P : List Value → Type 0) (fs : List (List Value)) (d k : ℕ) (y : List Value) → k < length (frame_at d fs) → P y → P (frame_at d (set_depth fs d y))
set_there P [] d k y l h = let f : ⊥ = omega (arith, l) in absurd f
set_there P (x ∷ xs) d k y l h = by (nat_eq d (length xs)) refl l (λ m. set_there P xs d k y m h)
  where
    by : (b : Bool) → nat_eq d (length xs) ≡ b → k < length (list_in (if b then Some x else at_depth xs d)) → (k < length (frame_at d xs) → P (frame_at d (set_depth xs d y))) → P (list_in (at_depth (if b then y ∷ xs else x ∷ set_depth xs d y) d))
    by true e m f = subst (λ (c : Bool). P (list_in (if c then Some y else at_depth xs d))) (sym e) h
    by false e m f =
        let q : nat_eq d (length (set_depth xs d y)) ≡ false = ap (nat_eq d) (set_length xs d y) ∙ e in
        subst (λ (c : Bool). P (list_in (if c then Some x else at_depth (set_depth xs d y) d))) (sym q) (f m)

free_stored : (v x : Value) → IsFree x → stored v x ≡ v
free_stored v (Number n) f = refl
free_stored v (Place o p) f = absurd f
free_stored v (Running e) f = absurd f
free_stored v (Object o) f = absurd f
free_stored v Nothing f = refl

cell_stored : (v : Value) (vs : List Value) (j : ℕ) → j < length vs → IsFree (slice_index_or vs j nought) → slice_index_or (value_changed j (stored v) nought vs) j nought ≡ v
cell_stored v [] j l f = let n : ⊥ = omega (arith, l) in absurd n
cell_stored v (x ∷ vs) zero l f = free_stored v x f
cell_stored v (x ∷ vs) (suc j) l f = cell_stored v vs j (omega (arith, l)) f

-- a cell in which nothing is bound holds what is written there
pub stored_there : (fs : List (List Value)) (d k : ℕ) (v : Value) → k < length (frame_at d fs) → IsFree (slice_index_or (frame_at d fs) k nought) → slice_index_or (frame_at d (frame_changed d (value_changed k (stored v) nought) fs)) k nought ≡ v
stored_there fs d k v l f = set_there (λ vs. slice_index_or vs k nought ≡ v) fs d k _ l (cell_stored v (frame_at d fs) k l f)

pub same_frame : (fs : List (List Value)) (d : ℕ) → FrameKeeps fs fs d
same_frame fs d k = inr refl

pub frame_stored : (fs : List (List Value)) (d k f : ℕ) (v : Value) → FrameKeeps fs (frame_changed d (value_changed k (stored v) nought) fs) f
frame_stored fs d k f v =
    set_at (CellsKeep (frame_at f fs)) fs d f (value_changed k (stored v) nought (frame_at d fs)) (λ e. subst (λ d. CellsKeep (frame_at f fs) (value_changed k (stored v) nought (frame_at d fs))) e (cells_stored v (frame_at f fs) k)) (same_frame fs f)

-- a frame more, for those that have theirs already
pub frame_newer : (x : List Value) (xs : List (List Value)) (f : ℕ) → f < length xs → FrameKeeps xs (x ∷ xs) f
frame_newer x xs f l =
    tested (λ o. CellsKeep (frame_at f xs) (list_in o)) (nat_eq f (length xs)) (Some x) (at_depth xs f) (λ e. let q : f ≡ length xs = eqb-true f (length xs) e in let n : ⊥ = omega (arith, q, l) in absurd n) (λ e. same_frame xs f)

-- a frame less, for those that do not use it
pub frame_older : (fs : List (List Value)) (f : ℕ) → f < length (others fs) → FrameKeeps fs (others fs) f
frame_older [] f l = same_frame [] f
frame_older (x ∷ xs) f l =
    tested (λ o. CellsKeep (list_in o) (frame_at f xs)) (nat_eq f (length xs)) (Some x) (at_depth xs f) (λ e. let q : f ≡ length xs = eqb-true f (length xs) e in let n : ⊥ = omega (arith, q, l) in absurd n) (λ e. same_frame xs f)

-- what is free stays free

abbrev pub Loosens : List Value → List Value → Type 0
Loosens vs us = (k : ℕ) → IsFree (slice_index_or vs k nought) → IsFree (slice_index_or us k nought)

-- the frame of a depth keeps free what is
abbrev pub FrameLoosens : List (List Value) → List (List Value) → ℕ → Type 0
FrameLoosens fs gs d = Loosens (frame_at d fs) (frame_at d gs)

pub same_loose : (fs : List (List Value)) (d : ℕ) → FrameLoosens fs fs d
same_loose fs d k h = h

number_stored : (z : ℤ) (x : Value) → IsFree x → IsFree (stored (Number z) x)
number_stored z (Number n) h = tt
number_stored z (Place o p) h = h
number_stored z (Running e) h = h
number_stored z (Object o) h = h
number_stored z Nothing h = tt

cells_number : (z : ℤ) (vs : List Value) (j : ℕ) → Loosens vs (value_changed j (stored (Number z)) nought vs)
cells_number z [] j k h = h
cells_number z (x ∷ vs) zero zero h = number_stored z x h
cells_number z (x ∷ vs) zero (suc k) h = h
cells_number z (x ∷ vs) (suc j) zero h = h
cells_number z (x ∷ vs) (suc j) (suc k) h = cells_number z vs j k h

pub frame_number : (fs : List (List Value)) (d k f : ℕ) (z : ℤ) → FrameLoosens fs (frame_changed d (value_changed k (stored (Number z)) nought) fs) f
frame_number fs d k f z =
    set_at (Loosens (frame_at f fs)) fs d f (value_changed k (stored (Number z)) nought (frame_at d fs)) (λ e. subst (λ d. Loosens (frame_at f fs) (value_changed k (stored (Number z)) nought (frame_at d fs))) e (cells_number z (frame_at f fs) k)) (same_loose fs f)

-- but where something is bound in another cell
cell_beside : (v : Value) (vs : List Value) (j k : ℕ) → (k ≡ j → ⊥) → IsFree (slice_index_or vs k nought) → IsFree (slice_index_or (value_changed j (stored v) nought vs) k nought)
cell_beside v [] j k other h = h
cell_beside v (x ∷ vs) zero zero other h = absurd (other refl)
cell_beside v (x ∷ vs) zero (suc k) other h = h
cell_beside v (x ∷ vs) (suc j) zero other h = h
cell_beside v (x ∷ vs) (suc j) (suc k) other h = cell_beside v vs j k (λ e. other (ap suc e)) h

pub frame_beside : (fs : List (List Value)) (d j f k : ℕ) (v : Value) → (f ≡ d → k ≡ j → ⊥) → IsFree (slice_index_or (frame_at f fs) k nought) → IsFree (slice_index_or (frame_at f (frame_changed d (value_changed j (stored v) nought) fs)) k nought)
frame_beside fs d j f k v other h =
    set_at (λ vs. IsFree (slice_index_or vs k nought)) fs d f (value_changed j (stored v) nought (frame_at d fs)) (λ e. subst (λ d. IsFree (slice_index_or (value_changed j (stored v) nought (frame_at d fs)) k nought)) e (cell_beside v (frame_at f fs) j k (other e) h)) h

-- no cell is bound behind a frame
pub cell_past : (vs : List Value) (k : ℕ) → length vs ≤ k → IsFree (slice_index_or vs k nought)
cell_past [] k l = tt
cell_past (x ∷ vs) zero l = let n : ⊥ = omega (arith, l) in absurd n
cell_past (x ∷ vs) (suc k) l = cell_past vs k (omega (arith, l))

stored_length : (v : Value) (vs : List Value) (j : ℕ) → length (value_changed j (stored v) nought vs) ≡ length vs
stored_length v [] j = refl
stored_length v (x ∷ vs) zero = refl
stored_length v (x ∷ vs) (suc j) = ap suc (stored_length v vs j)

pub past_stored : (fs : List (List Value)) (d j f k : ℕ) (v : Value) → length (frame_at f fs) ≤ k → IsFree (slice_index_or (frame_at f (frame_changed d (value_changed j (stored v) nought) fs)) k nought)
past_stored fs d j f k v l =
    set_at (λ vs. IsFree (slice_index_or vs k nought)) fs d f (value_changed j (stored v) nought (frame_at d fs)) (λ e. subst (λ d. IsFree (slice_index_or (value_changed j (stored v) nought (frame_at d fs)) k nought)) e (cell_past (value_changed j (stored v) nought (frame_at f fs)) k (let n = stored_length v (frame_at f fs) j in omega (arith, n, l)))) (cell_past (frame_at f fs) k l)

pub loose_newer : (x : List Value) (xs : List (List Value)) (f : ℕ) → f < length xs → FrameLoosens xs (x ∷ xs) f
loose_newer x xs f l =
    tested (λ o. Loosens (frame_at f xs) (list_in o)) (nat_eq f (length xs)) (Some x) (at_depth xs f) (λ e. let q : f ≡ length xs = eqb-true f (length xs) e in let n : ⊥ = omega (arith, q, l) in absurd n) (λ e. same_loose xs f)

pub loose_older : (fs : List (List Value)) (f : ℕ) → f < length (others fs) → FrameLoosens fs (others fs) f
loose_older [] f l = same_loose [] f
loose_older (x ∷ xs) f l =
    tested (λ o. Loosens (list_in o) (frame_at f xs)) (nat_eq f (length xs)) (Some x) (at_depth xs f) (λ e. let q : f ≡ length xs = eqb-true f (length xs) e in let n : ⊥ = omega (arith, q, l) in absurd n) (λ e. same_loose xs f)

-- cells that start anew are free

cells_naught : (vs : List Value) (n j : ℕ) → IsFree (slice_index_or vs j nought) → IsFree (slice_index_or (values_cleared 0 n nought vs) j nought)
cells_naught [] zero j h = tt
cells_naught [] (suc n) j h = tt
cells_naught (x ∷ vs) zero j h = h
cells_naught (x ∷ vs) (suc n) zero h = tt
cells_naught (x ∷ vs) (suc n) (suc j) h = cells_naught vs n j h

cells_loose : (vs : List Value) (k n : ℕ) → Loosens vs (values_cleared k n nought vs)
cells_loose vs zero n j h = cells_naught vs n j h
cells_loose [] (suc k) zero j h = tt
cells_loose [] (suc k) (suc n) j h = tt
cells_loose (x ∷ vs) (suc k) n zero h = h
cells_loose (x ∷ vs) (suc k) n (suc j) h = cells_loose vs k n j h

pub frame_loose : (fs : List (List Value)) (d k n f : ℕ) → FrameLoosens fs (frame_changed d (values_cleared k n nought) fs) f
frame_loose fs d k n f =
    set_at (Loosens (frame_at f fs)) fs d f (values_cleared k n nought (frame_at d fs)) (λ e. subst (λ d. Loosens (frame_at f fs) (values_cleared k n nought (frame_at d fs))) e (cells_loose (frame_at f fs) k n)) (same_loose fs f)

first_anew : (vs : List Value) (n j : ℕ) → j < n → IsFree (slice_index_or (values_cleared 0 n nought vs) j nought)
first_anew vs zero j l = let n : ⊥ = omega (arith, l) in absurd n
first_anew [] (suc n) j l = tt
first_anew (x ∷ vs) (suc n) zero l = tt
first_anew (x ∷ vs) (suc n) (suc j) l = first_anew vs n j (omega (arith, l))

pub cells_anew : (vs : List Value) (k n j : ℕ) → k ≤ j → j < k + n → IsFree (slice_index_or (values_cleared k n nought vs) j nought)
cells_anew vs zero n j l m = first_anew vs n j (omega (arith, m))
cells_anew [] (suc k) zero j l m = tt
cells_anew [] (suc k) (suc n) j l m = tt
cells_anew (x ∷ vs) (suc k) n zero l m = let n : ⊥ = omega (arith, l) in absurd n
cells_anew (x ∷ vs) (suc k) n (suc j) l m = cells_anew vs k n j (omega (arith, l)) (omega (arith, m))

-- what is bound is no number

module _ (t : Table) where
  placed_bound : (a : Ty) (v : Value) → IsFree v → IsAt t a v → ⊥
  placed_bound a (Number n) f h = h
  placed_bound a (Place o p) f h = f
  placed_bound a (Running e) f h = f
  placed_bound a (Object o) f h = f
  placed_bound a Nothing f h = h

  numbered_bound : (v : Value) → IsFree v → IsNumbered v → ⊥
  numbered_bound (Number n) f h = h
  numbered_bound (Place o p) f h = f
  numbered_bound (Running e) f h = f
  numbered_bound (Object o) f h = f
  numbered_bound Nothing f h = h

  object_bound : (b : Bool) (c : ℕ) (v : Value) → IsFree v → IsObjectBy t b c v → ⊥
  object_bound true c v f h = numbered_bound v f h
  object_bound false c v f h = placed_bound (Obj c) v f h

module _ (t : Table) (few : Few) (n : Exec) (K : Value → Ty → Type 0) where
  known_free : (b : Ty) (v u : Value) → IsFree v → Known t few n K b v → Known t few n K b u
  known_free Num v u f h = tt
  known_free (Cell a) v u f h = absurd (placed_bound t (Cell (whole a)) v f h.is)
  known_free (Obj c) v u f h = absurd (object_bound t (t.mutex c) c v f h.is)
  known_free (Raw c) v u f h = absurd (object_bound t (t.mutex c) c v f h.is)
  known_free (Row m a) v u f h = absurd (placed_bound t (Row m (whole a)) v f h.is)
  known_free Clu v u f h = absurd (numbered_bound t v f h.is)
  known_free Pro v u f h = absurd (numbered_bound t v f h.is)

  pub known_kept : (b : Ty) (v u : Value) → Kept v u → Known t few n K b v → Known t few n K b u
  known_kept b v u (inl f) h = known_free b v u f h
  known_kept b v u (inr e) h = subst (Known t few n K b) (sym e) h

  pub holds_kept : (o : Owner) (vs us : List Value) (w : Value) (a : Ty) → CellsKeep vs us → Holds t few n K o vs w a → Holds t few n K o us w a
  holds_kept o vs us w a k h p b i binds = known_kept b _ _ (k (address p)) (h p b i binds)

  -- what lies before a cell keeps what it holds where cells from there on start anew
  pub holds_cleared : (o : Owner) (vs : List Value) (j m : ℕ) (w : Value) (a : Ty) → LiesBefore t j o w a → Holds t few n K o vs w a → Holds t few n K o (values_cleared j m nought vs) w a
  holds_cleared o vs j m w a l h p b i binds = known_kept b _ _ (cells_cleared vs j m (address p) (l p b i)) (h p b i binds)

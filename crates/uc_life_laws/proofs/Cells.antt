-- What a thing in scope holds stays, whatever is written, and where cells behind it start anew.
use Rattle.std.proofs.Common.{◌≡◌, ℕ, zero, suc, ◌≤◌, ◌<◌, Bool, true, false, List, [], ◌∷◌, ◌++◌, length, take, Some, refl, sym, ap, ◌∙◌, subst, arith}
use Rattle.std.specs.Prelude.{nat_eq, if◌then◌else◌, slice_index_or}
use Rattle.std.proofs.lemmas.Bool.{eqb-true}
use Rattle.uc_machine.specs.declared.exec.Exec.{Exec}
use Rattle.uc_machine.specs.declared.exec.Owner.{Owner}
use Rattle.uc_machine.specs.Executions.{at_depth, set_depth, frame_changed, list_in, others, value_changed, values_cleared}
use Rattle.uc_machine.specs.Pieces as piece
use Rattle.uc_machine.specs.Pieces.{Value, Number, Place, Running, Object, Nothing, Todo, Sort, Active, stored, nought, address}
use Rattle.uc_typing.specs.Typing.{Ty, Num, Cell, Obj, Raw, Row, Clu, Pro, Table}
use Rattle.uc_typing.specs.States.{whole, IsAt, IsNumbered, IsObjectBy}
use Rattle.uc_life_laws.specs.Things.{Few, IsBinding, IsKnown, IsMade, Known, Holds, LiesBefore}
use Rattle.uc_life_laws.specs.LifeStates.{BehindMark, frame_at, MarkHoldsBy, AllHoldBy, LifeStackBy, MarkBefore, AllBefore, FrameBefore}

-- the first of two by a test
pub either : {A : Type 0} (P : A → Type 0) (b : Bool) (x y : A) → P x → P y → P (if b then x else y)
either P true x y h k = h
either P false x y h k = k

-- by what the test says
pub tested : {A : Type 0} (P : A → Type 0) (b : Bool) (x y : A) → (b ≡ true → P x) → (b ≡ false → P y) → P (if b then x else y)
tested P true x y h k = h refl
tested P false x y h k = k refl

-- cells

-- of any property that a binding keeps
pub cell_stored : (P : Value → Type 0) (v : Value) → ((x : Value) → P x → P (stored v x)) → (vs : List Value) (j k : ℕ) → P (slice_index_or vs j nought) → P (slice_index_or (value_changed k (stored v) nought vs) j nought)
cell_stored P v f [] j k h = h
cell_stored P v f (x ∷ vs) zero zero h = f x h
cell_stored P v f (x ∷ vs) zero (suc k) h = h
cell_stored P v f (x ∷ vs) (suc j) zero h = h
cell_stored P v f (x ∷ vs) (suc j) (suc k) h = cell_stored P v f vs j k h

cell_taken : (P : Value → Type 0) → (P nought → ⊥) → (vs ws : List Value) (j k : ℕ) → j < k → P (slice_index_or vs j nought) → P (slice_index_or (take k vs ++ ws) j nought)
cell_taken P f [] ws j k l h = absurd (f h)
cell_taken P f (x ∷ vs) ws j zero l h = let n : ⊥ = omega arith in absurd n
cell_taken P f (x ∷ vs) ws zero (suc k) l h = h
cell_taken P f (x ∷ vs) ws (suc j) (suc k) l h = cell_taken P f vs ws j k (omega arith) h

module _ (t : Table) where
  placed_stored : (a : Ty) (v x : Value) → IsAt t a x → stored v x ≡ x
  placed_stored a v (Number n) h = absurd h
  placed_stored a v (Place o p) h = refl
  placed_stored a v (Running e) h = absurd h
  placed_stored a v (Object o) h = absurd h
  placed_stored a v Nothing h = absurd h

  numbered_stored : (v x : Value) → IsNumbered x → stored v x ≡ x
  numbered_stored v (Number n) h = absurd h
  numbered_stored v (Place o p) h = absurd h
  numbered_stored v (Running e) h = absurd h
  numbered_stored v (Object o) h = refl
  numbered_stored v Nothing h = absurd h

  object_stored : (b : Bool) (c : ℕ) (v x : Value) → IsObjectBy t b c x → stored v x ≡ x
  object_stored true c v x h = numbered_stored v x h
  object_stored false c v x h = placed_stored (Obj c) v x h

  object_nought : (b : Bool) (c : ℕ) → IsObjectBy t b c nought → ⊥
  object_nought true c h = h
  object_nought false c h = h

module _ (t : Table) (few : Few) (n : Exec) (K : Value → Ty → Type 0) where
  -- what is bound stays so
  pub known_stored : (b : Ty) (v x : Value) → Known t few n K b x → Known t few n K b (stored v x)
  known_stored Num v x h = tt
  known_stored (Cell a) v x h = subst (IsKnown t few n K (Cell a)) (sym (placed_stored t (Cell (whole a)) v x h.is)) h
  known_stored (Obj c) v x h = subst (IsKnown t few n K (Obj c)) (sym (object_stored t (t.mutex c) c v x h.is)) h
  known_stored (Raw c) v x h = subst (IsMade t few n c) (sym (object_stored t (t.mutex c) c v x h.is)) h
  known_stored (Row m a) v x h = subst (IsKnown t few n K (Row m a)) (sym (placed_stored t (Row m (whole a)) v x h.is)) h
  known_stored Clu v x h = subst (IsKnown t few n K Clu) (sym (numbered_stored t v x h.is)) h
  known_stored Pro v x h = subst (IsKnown t few n K Pro) (sym (numbered_stored t v x h.is)) h

  -- a number is no binding
  known_nought : (b : Ty) → IsBinding b → Known t few n K b nought → ⊥
  known_nought Num i h = i
  known_nought (Cell a) i h = h.is
  known_nought (Obj c) i h = object_nought t (t.mutex c) c h.is
  known_nought (Raw c) i h = i
  known_nought (Row m a) i h = i
  known_nought Clu i h = h.is
  known_nought Pro i h = h.is

-- frames

pub set_length : {X : Type 0} (xs : List X) (d : ℕ) (y : X) → length (set_depth xs d y) ≡ length xs
set_length [] d y = refl
set_length (x ∷ xs) d y =
    let h = set_length xs d y in
    either (λ l. length l ≡ suc (length xs)) (nat_eq d (length xs)) (y ∷ xs) (x ∷ set_depth xs d y) refl (ap suc h)

-- a frame is changed: what held of another one holds on, and what holds of its new values
pub set_at : (P : List Value → Type 0) (fs : List (List Value)) (d f : ℕ) (y : List Value) → (f ≡ d → P y) → P (frame_at f fs) → P (frame_at f (set_depth fs d y))
set_at P [] d f y h k = k
set_at P (x ∷ xs) d f y h k = by (set_at P xs d f y h) (nat_eq d (length xs)) refl (nat_eq f (length xs)) refl k
  where
    by : (P (frame_at f xs) → P (frame_at f (set_depth xs d y))) → (b : Bool) → nat_eq d (length xs) ≡ b → (c : Bool) → nat_eq f (length xs) ≡ c → P (list_in (if c then Some x else at_depth xs f)) → P (list_in (at_depth (if b then y ∷ xs else x ∷ set_depth xs d y) f))
    by more true e true g k =
        let same : f ≡ d = eqb-true f (length xs) g ∙ sym (eqb-true d (length xs) e) in
        subst (λ (c : Bool). P (list_in (if c then Some y else at_depth xs f))) (sym g) (h same)
    by more true e false g k = subst (λ (c : Bool). P (list_in (if c then Some y else at_depth xs f))) (sym g) k
    by more false e true g k =
        let l : nat_eq f (length (set_depth xs d y)) ≡ true = ap (nat_eq f) (set_length xs d y) ∙ g in
        subst (λ (c : Bool). P (list_in (if c then Some x else at_depth (set_depth xs d y) f))) (sym l) k
    by more false e false g k =
        let l : nat_eq f (length (set_depth xs d y)) ≡ false = ap (nat_eq f) (set_length xs d y) ∙ g in
        subst (λ (c : Bool). P (list_in (if c then Some x else at_depth (set_depth xs d y) f))) (sym l) (more k)

-- a frame more, for those that have theirs already
pub newer_at : (P : List Value → Type 0) (x : List Value) (xs : List (List Value)) (f : ℕ) → f < length xs → P (frame_at f xs) → P (frame_at f (x ∷ xs))
newer_at P x xs f l h = tested (λ o. P (list_in o)) (nat_eq f (length xs)) (Some x) (at_depth xs f) (λ e. let q : f ≡ length xs = eqb-true f (length xs) e in let n : ⊥ = omega (arith, q, l) in absurd n) (λ e. h)

-- a frame less, for those that do not use it
pub older_at : (P : List Value → Type 0) (fs : List (List Value)) (f : ℕ) → f < length (others fs) → P (frame_at f fs) → P (frame_at f (others fs))
older_at P [] f l h = h
older_at P (x ∷ xs) f l h = by (nat_eq f (length xs)) refl h
  where
    by : (b : Bool) → nat_eq f (length xs) ≡ b → P (list_in (if b then Some x else at_depth xs f)) → P (frame_at f xs)
    by true e h = let q : f ≡ length xs = eqb-true f (length xs) e in let n : ⊥ = omega (arith, q, l) in absurd n
    by false e h = h

pub others_length : {X : Type 0} (xs : List X) (n : ℕ) → length xs ≡ suc (suc n) → length (others xs) ≡ suc n
others_length [] n h = absurd (cc)
others_length (x ∷ xs) n h = omega (arith, h)

-- to-do lists and activations

module _ (t : Table) (few : Few) (K : BehindMark) (n : Exec) where
  holds_stored : (R : Value → Ty → Type 0) (o : Owner) (vs : List Value) (k : ℕ) (v w : Value) (a : Ty) → Holds t few n R o vs w a → Holds t few n R o (value_changed k (stored v) nought vs) w a
  holds_stored R o vs k v w a h p b i binds =
      cell_stored (Known t few n R b) v (λ x y. known_stored t few n R b v x y) vs (address p) k (h p b i binds)

  holds_cleared : (R : Value → Ty → Type 0) (o : Owner) (vs : List Value) (k m : ℕ) (w : Value) (a : Ty) → LiesBefore t k o w a → Holds t few n R o vs w a → Holds t few n R o (values_cleared k m nought vs) w a
  holds_cleared R o vs k m w a l h p b i binds =
      cell_taken (Known t few n R b) (λ y. known_nought t few n R b binds y) vs _ (address p) k (l p b i) (h p b i binds)

  module _ (f : ℕ) (this : Value) (older : List Active) where
    mark_stored : (vs : List Value) (k : ℕ) (v : Value) (s : Sort) (todo : List Todo) (R Q : Type 0) → (R → Q) → MarkHoldsBy t few K n vs f this older s todo R → MarkHoldsBy t few K n (value_changed k (stored v) nought vs) f this older s todo Q
    mark_stored vs k v (piece.IsClean c) todo R Q more h = ((λ j a x. holds_stored _ _ vs k v _ a (h.0 j a x)), more h.1)
    mark_stored vs k v piece.Simple todo R Q more h = more h
    mark_stored vs k v (piece.IsLoop o e s b) todo R Q more h = more h
    mark_stored vs k v piece.IsWhole todo R Q more h = more h
    mark_stored vs k v (piece.IsFill m b d) todo R Q more h = more h
    mark_stored vs k v (piece.IsSweep e) todo R Q more h = more h
    mark_stored vs k v (piece.IsPart c) todo R Q more h = more h
    mark_stored vs k v (piece.IsGuard hs) todo R Q more h = more h
    mark_stored vs k v piece.IsFinish todo R Q more h = more h
    mark_stored vs k v piece.IsFinishCoroutine todo R Q more h = more h

    all_stored : (k : ℕ) (v : Value) (todo : List Todo) (vs : List Value) → AllHoldBy t few K n vs f this older todo → AllHoldBy t few K n (value_changed k (stored v) nought vs) f this older todo
    all_stored k v [] vs h = tt
    all_stored k v (p ∷ todo) vs h = mark_stored vs k v (piece.sort p) todo _ _ (all_stored k v todo vs) h

    mark_cleared : (vs : List Value) (k m : ℕ) (s : Sort) (todo : List Todo) (B R Q : Type 0) → (B → R → Q) → MarkBefore t n k f s B → MarkHoldsBy t few K n vs f this older s todo R → MarkHoldsBy t few K n (values_cleared k m nought vs) f this older s todo Q
    mark_cleared vs k m (piece.IsClean c) todo B R Q more b h = ((λ j a x. holds_cleared _ _ vs k m _ a (b.0 j a x) (h.0 j a x)), more b.1 h.1)
    mark_cleared vs k m piece.Simple todo B R Q more b h = more b h
    mark_cleared vs k m (piece.IsLoop o e s x) todo B R Q more b h = more b h
    mark_cleared vs k m piece.IsWhole todo B R Q more b h = more b h
    mark_cleared vs k m (piece.IsFill j x d) todo B R Q more b h = more b h
    mark_cleared vs k m (piece.IsSweep e) todo B R Q more b h = more b h
    mark_cleared vs k m (piece.IsPart c) todo B R Q more b h = more b h
    mark_cleared vs k m (piece.IsGuard hs) todo B R Q more b h = more b h
    mark_cleared vs k m piece.IsFinish todo B R Q more b h = more b h
    mark_cleared vs k m piece.IsFinishCoroutine todo B R Q more b h = more b h

    all_cleared : (k m : ℕ) (todo : List Todo) (vs : List Value) → AllBefore t n k f todo → AllHoldBy t few K n vs f this older todo → AllHoldBy t few K n (values_cleared k m nought vs) f this older todo
    all_cleared k m [] vs b h = tt
    all_cleared k m (p ∷ todo) vs b h = mark_cleared vs k m (piece.sort p) todo _ _ _ (λ b h. all_cleared k m todo vs b h) b h

  pub stack_stored : (d k : ℕ) (v : Value) (fs : List (List Value)) (cs : List Active) → LifeStackBy t few K n fs cs → LifeStackBy t few K n (frame_changed d (value_changed k (stored v) nought) fs) cs
  stack_stored d k v fs [] h = tt
  stack_stored d k v fs (a ∷ older) h =
      (h.0, set_at (λ vs. AllHoldBy t few K n vs a.frame a.this older a.control) fs d a.frame _ (λ e. all_stored a.frame a.this older k v a.control (frame_at d fs) (subst (λ f. AllHoldBy t few K n (frame_at f fs) a.frame a.this older a.control) e h.1)) h.1, stack_stored d k v fs older h.2)

  pub stack_cleared : (d k m : ℕ) (fs : List (List Value)) (cs : List Active) → FrameBefore t n k d cs → LifeStackBy t few K n fs cs → LifeStackBy t few K n (frame_changed d (values_cleared k m nought) fs) cs
  stack_cleared d k m fs [] b h = tt
  stack_cleared d k m fs (a ∷ older) b h =
      (h.0, set_at (λ vs. AllHoldBy t few K n vs a.frame a.this older a.control) fs d a.frame _ (λ e. all_cleared a.frame a.this older k m a.control (frame_at d fs) (subst (λ f. AllBefore t n k f a.control) (sym e) (b.0 e)) (subst (λ f. AllHoldBy t few K n (frame_at f fs) a.frame a.this older a.control) e h.1)) h.1, stack_cleared d k m fs older b.1 h.2)

  pub stack_newer : (x : List Value) (fs : List (List Value)) (cs : List Active) → length cs ≤ length fs → LifeStackBy t few K n fs cs → LifeStackBy t few K n (x ∷ fs) cs
  stack_newer x fs [] l h = tt
  stack_newer x fs (a ∷ older) l h =
      let le = h.0 in
      (h.0, newer_at (λ vs. AllHoldBy t few K n vs a.frame a.this older a.control) x fs a.frame (omega (arith, le, l)) h.1, stack_newer x fs older (omega (arith, l)) h.2)

  pub stack_older : (fs : List (List Value)) (cs : List Active) → length cs ≤ length (others fs) → LifeStackBy t few K n fs cs → LifeStackBy t few K n (others fs) cs
  stack_older fs [] l h = tt
  stack_older fs (a ∷ older) l h =
      let le = h.0 in
      (h.0, older_at (λ vs. AllHoldBy t few K n vs a.frame a.this older a.control) fs a.frame (omega (arith, le, l)) h.1, stack_older fs older (omega (arith, l)) h.2)

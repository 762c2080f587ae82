-- The mutex objects that a thing in scope holds stay, whatever is written, and where cells behind it start anew.
use Rattle.std.proofs.Common.{◌≡◌, ℕ, zero, suc, ◌≤◌, ◌<◌, Bool, true, false, List, [], ◌∷◌, ◌++◌, length, take, Some, refl, sym, ap, ◌∙◌, subst, arith}
use Rattle.std.specs.Prelude.{nat_eq, if◌then◌else◌, slice_index_or}
use Rattle.std.proofs.lemmas.Bool.{eqb-true}
use Rattle.uc_machine.specs.declared.exec.Exec.{Exec}
use Rattle.uc_machine.specs.declared.exec.Owner.{Owner}
use Rattle.uc_machine.specs.Executions.{at_depth, set_depth, frame_changed, list_in, others, value_changed, values_cleared}
use Rattle.uc_machine.specs.Pieces as piece
use Rattle.uc_machine.specs.Pieces.{Value, Place, Object, Todo, Sort, Active, stored, nought, address}
use Rattle.uc_typing.specs.Typing.{Ty, Cell, Obj, Row, Table}
use Rattle.uc_life_laws.specs.Things.{Few, Within, itself, field, element, LiesBefore}
use Rattle.uc_life_laws.specs.LifeStates.{frame_at, MarkBefore, AllBefore, FrameBefore}
use Rattle.uc_life_laws.specs.HomedStates.{Owns, Inside, all_of_it, own_field, own_element, IsAtHome, HoldsHome, MarkHomed, AllAtHome, HomedStack}

-- the first of two by a test
pub either : {A : Type 0} (P : A → Type 0) (b : Bool) (x y : A) → P x → P y → P (if b then x else y)
either P true x y h k = h
either P false x y h k = k

-- by what the test says
pub tested : {A : Type 0} (P : A → Type 0) (b : Bool) (x y : A) → (b ≡ true → P x) → (b ≡ false → P y) → P (if b then x else y)
tested P true x y h k = h refl
tested P false x y h k = k refl

-- cells

-- of any property that a binding keeps
cell_stored : (P : Value → Type 0) (v : Value) → ((x : Value) → P x → P (stored v x)) → (vs : List Value) (j k : ℕ) → P (slice_index_or vs j nought) → P (slice_index_or (value_changed k (stored v) nought vs) j nought)
cell_stored P v f [] j k h = h
cell_stored P v f (x ∷ vs) zero zero h = f x h
cell_stored P v f (x ∷ vs) zero (suc k) h = h
cell_stored P v f (x ∷ vs) (suc j) zero h = h
cell_stored P v f (x ∷ vs) (suc j) (suc k) h = cell_stored P v f vs j k h

cell_taken : (P : Value → Type 0) → (P nought → ⊥) → (vs ws : List Value) (j k : ℕ) → j < k → P (slice_index_or vs j nought) → P (slice_index_or (take k vs ++ ws) j nought)
cell_taken P f [] ws j k l h = absurd (f h)
cell_taken P f (x ∷ vs) ws j zero l h = let n : ⊥ = omega arith in absurd n
cell_taken P f (x ∷ vs) ws zero (suc k) l h = h
cell_taken P f (x ∷ vs) ws (suc j) (suc k) l h = cell_taken P f vs ws j k (omega arith) h

module _ (t : Table) (owns : Owns) (few : Few) (n : Exec) where
  -- what is bound stays so
  home_stored : (v x q : Value) → IsAtHome t owns few n x q → IsAtHome t owns few n (stored v x) q
  home_stored v x q h = (h.0, ap (λ (y : Value). stored v y) h.1, h.2)

  -- a number is no object
  home_nought : (q : Value) → IsAtHome t owns few n nought q → ⊥
  home_nought q h = let e : nought ≡ Object h.0 = h.1 in absurd (cc)

-- frames

pub set_length : {X : Type 0} (xs : List X) (d : ℕ) (y : X) → length (set_depth xs d y) ≡ length xs
set_length [] d y = refl
set_length (x ∷ xs) d y =
    let h = set_length xs d y in
    either (λ l. length l ≡ suc (length xs)) (nat_eq d (length xs)) (y ∷ xs) (x ∷ set_depth xs d y) refl (ap suc h)

-- a frame is changed: what held of another one holds on, and what holds of its new values
set_at : (P : List Value → Type 0) (fs : List (List Value)) (d f : ℕ) (y : List Value) → (f ≡ d → P y) → P (frame_at f fs) → P (frame_at f (set_depth fs d y))
set_at P [] d f y h k = k
set_at P (x ∷ xs) d f y h k = by (set_at P xs d f y h) (nat_eq d (length xs)) refl (nat_eq f (length xs)) refl k
  where
    by : (P (frame_at f xs) → P (frame_at f (set_depth xs d y))) → (b : Bool) → nat_eq d (length xs) ≡ b → (c : Bool) → nat_eq f (length xs) ≡ c → P (list_in (if c then Some x else at_depth xs f)) → P (list_in (at_depth (if b then y ∷ xs else x ∷ set_depth xs d y) f))
    by more true e true g k =
        let same : f ≡ d = eqb-true f (length xs) g ∙ sym (eqb-true d (length xs) e) in
        subst (λ (c : Bool). P (list_in (if c then Some y else at_depth xs f))) (sym g) (h same)
    by more true e false g k = subst (λ (c : Bool). P (list_in (if c then Some y else at_depth xs f))) (sym g) k
    by more false e true g k =
        let l : nat_eq f (length (set_depth xs d y)) ≡ true = ap (nat_eq f) (set_length xs d y) ∙ g in
        subst (λ (c : Bool). P (list_in (if c then Some x else at_depth (set_depth xs d y) f))) (sym l) k
    by more false e false g k =
        let l : nat_eq f (length (set_depth xs d y)) ≡ false = ap (nat_eq f) (set_length xs d y) ∙ g in
        subst (λ (c : Bool). P (list_in (if c then Some x else at_depth (set_depth xs d y) f))) (sym l) (more k)

-- a frame more, for those that have theirs already
newer_at : (P : List Value → Type 0) (x : List Value) (xs : List (List Value)) (f : ℕ) → f < length xs → P (frame_at f xs) → P (frame_at f (x ∷ xs))
newer_at P x xs f l h = tested (λ o. P (list_in o)) (nat_eq f (length xs)) (Some x) (at_depth xs f) (λ e. let q : f ≡ length xs = eqb-true f (length xs) e in let n : ⊥ = omega (arith, q, l) in absurd n) (λ e. h)

-- a frame less, for those that do not use it
older_at : (P : List Value → Type 0) (fs : List (List Value)) (f : ℕ) → f < length (others fs) → P (frame_at f fs) → P (frame_at f (others fs))
older_at P [] f l h = h
older_at P (x ∷ xs) f l h = by (nat_eq f (length xs)) refl h
  where
    by : (b : Bool) → nat_eq f (length xs) ≡ b → P (list_in (if b then Some x else at_depth xs f)) → P (frame_at f xs)
    by true e h = let q : f ≡ length xs = eqb-true f (length xs) e in let n : ⊥ = omega (arith, q, l) in absurd n
    by false e h = h

pub others_length : {X : Type 0} (xs : List X) (n : ℕ) → length xs ≡ suc (suc n) → length (others xs) ≡ suc n
others_length [] n h = absurd (cc)
others_length (x ∷ xs) n h = omega (arith, h)

-- own parts of a thing lie within it
pub is_within : (t : Table) (owns : Owns) (w : Value) (a : Ty) (v : Value) (b : Ty) → Inside t owns w a v b → Within t w a v b
is_within t owns w a v b all_of_it = itself
is_within t owns w a v b (own_field {v = u} {c} h i f o) = field (is_within t owns w a u (Obj c) h) i f
is_within t owns w a v b (own_element {v = u} {m} {b = d} h j l) = element (is_within t owns w a u (Row m d) h) j l

-- to-do lists and activations

module _ (t : Table) (owns : Owns) (few : Few) (n : Exec) where
  holds_stored : (o : Owner) (vs : List Value) (k : ℕ) (v w : Value) (a : Ty) → HoldsHome t owns few n o vs w a → HoldsHome t owns few n o (value_changed k (stored v) nought vs) w a
  holds_stored o vs k v w a h p b i binds =
      cell_stored (λ x. IsAtHome t owns few n x (Place o p)) v (λ x y. home_stored t owns few n v x (Place o p) y) vs (address p) k (h p b i binds)

  holds_cleared : (o : Owner) (vs : List Value) (k m : ℕ) (w : Value) (a : Ty) → LiesBefore t k o w a → HoldsHome t owns few n o vs w a → HoldsHome t owns few n o (values_cleared k m nought vs) w a
  holds_cleared o vs k m w a l h p b i binds =
      cell_taken (λ x. IsAtHome t owns few n x (Place o p)) (λ y. home_nought t owns few n (Place o p) y) vs _ (address p) k (l p b (is_within t owns w a (Place o p) (Cell b) i)) (h p b i binds)

  module _ (f : ℕ) (this : Value) (older : List Active) where
    mark_stored : (vs : List Value) (k : ℕ) (v : Value) (s : Sort) (todo : List Todo) (R Q : Type 0) → (R → Q) → MarkHomed t owns few n vs f this older s todo R → MarkHomed t owns few n (value_changed k (stored v) nought vs) f this older s todo Q
    mark_stored vs k v (piece.IsClean c) todo R Q more h = ((λ j a x. holds_stored _ vs k v _ a (h.0 j a x)), more h.1)
    mark_stored vs k v piece.Simple todo R Q more h = more h
    mark_stored vs k v (piece.IsLoop o e s b) todo R Q more h = more h
    mark_stored vs k v piece.IsWhole todo R Q more h = more h
    mark_stored vs k v (piece.IsFill m b d) todo R Q more h = more h
    mark_stored vs k v (piece.IsSweep e) todo R Q more h = more h
    mark_stored vs k v (piece.IsPart c) todo R Q more h = more h
    mark_stored vs k v (piece.IsGuard hs) todo R Q more h = more h
    mark_stored vs k v piece.IsFinish todo R Q more h = more h
    mark_stored vs k v piece.IsFinishCoroutine todo R Q more h = more h

    all_stored : (k : ℕ) (v : Value) (todo : List Todo) (vs : List Value) → AllAtHome t owns few n vs f this older todo → AllAtHome t owns few n (value_changed k (stored v) nought vs) f this older todo
    all_stored k v [] vs h = tt
    all_stored k v (p ∷ todo) vs h = mark_stored vs k v (piece.sort p) todo _ _ (all_stored k v todo vs) h

    mark_cleared : (vs : List Value) (k m : ℕ) (s : Sort) (todo : List Todo) (B R Q : Type 0) → (B → R → Q) → MarkBefore t n k f s B → MarkHomed t owns few n vs f this older s todo R → MarkHomed t owns few n (values_cleared k m nought vs) f this older s todo Q
    mark_cleared vs k m (piece.IsClean c) todo B R Q more b h = ((λ j a x. holds_cleared _ vs k m _ a (b.0 j a x) (h.0 j a x)), more b.1 h.1)
    mark_cleared vs k m piece.Simple todo B R Q more b h = more b h
    mark_cleared vs k m (piece.IsLoop o e s x) todo B R Q more b h = more b h
    mark_cleared vs k m piece.IsWhole todo B R Q more b h = more b h
    mark_cleared vs k m (piece.IsFill j x d) todo B R Q more b h = more b h
    mark_cleared vs k m (piece.IsSweep e) todo B R Q more b h = more b h
    mark_cleared vs k m (piece.IsPart c) todo B R Q more b h = more b h
    mark_cleared vs k m (piece.IsGuard hs) todo B R Q more b h = more b h
    mark_cleared vs k m piece.IsFinish todo B R Q more b h = more b h
    mark_cleared vs k m piece.IsFinishCoroutine todo B R Q more b h = more b h

    all_cleared : (k m : ℕ) (todo : List Todo) (vs : List Value) → AllBefore t n k f todo → AllAtHome t owns few n vs f this older todo → AllAtHome t owns few n (values_cleared k m nought vs) f this older todo
    all_cleared k m [] vs b h = tt
    all_cleared k m (p ∷ todo) vs b h = mark_cleared vs k m (piece.sort p) todo _ _ _ (λ b h. all_cleared k m todo vs b h) b h

  pub stack_stored : (d k : ℕ) (v : Value) (fs : List (List Value)) (cs : List Active) → HomedStack t owns few n fs cs → HomedStack t owns few n (frame_changed d (value_changed k (stored v) nought) fs) cs
  stack_stored d k v fs [] h = tt
  stack_stored d k v fs (a ∷ older) h =
      (h.0, set_at (λ vs. AllAtHome t owns few n vs a.frame a.this older a.control) fs d a.frame _ (λ e. all_stored a.frame a.this older k v a.control (frame_at d fs) (subst (λ f. AllAtHome t owns few n (frame_at f fs) a.frame a.this older a.control) e h.1)) h.1, stack_stored d k v fs older h.2)

  pub stack_cleared : (d k m : ℕ) (fs : List (List Value)) (cs : List Active) → FrameBefore t n k d cs → HomedStack t owns few n fs cs → HomedStack t owns few n (frame_changed d (values_cleared k m nought) fs) cs
  stack_cleared d k m fs [] b h = tt
  stack_cleared d k m fs (a ∷ older) b h =
      (h.0, set_at (λ vs. AllAtHome t owns few n vs a.frame a.this older a.control) fs d a.frame _ (λ e. all_cleared a.frame a.this older k m a.control (frame_at d fs) (subst (λ f. AllBefore t n k f a.control) (sym e) (b.0 e)) (subst (λ f. AllAtHome t owns few n (frame_at f fs) a.frame a.this older a.control) e h.1)) h.1, stack_cleared d k m fs older b.1 h.2)

  pub stack_newer : (x : List Value) (fs : List (List Value)) (cs : List Active) → length cs ≤ length fs → HomedStack t owns few n fs cs → HomedStack t owns few n (x ∷ fs) cs
  stack_newer x fs [] l h = tt
  stack_newer x fs (a ∷ older) l h =
      let le = h.0 in
      (h.0, newer_at (λ vs. AllAtHome t owns few n vs a.frame a.this older a.control) x fs a.frame (omega (arith, le, l)) h.1, stack_newer x fs older (omega (arith, l)) h.2)

  pub stack_older : (fs : List (List Value)) (cs : List Active) → length cs ≤ length (others fs) → HomedStack t owns few n fs cs → HomedStack t owns few n (others fs) cs
  stack_older fs [] l h = tt
  stack_older fs (a ∷ older) l h =
      let le = h.0 in
      (h.0, older_at (λ vs. AllAtHome t owns few n vs a.frame a.this older a.control) fs a.frame (omega (arith, le, l)) h.1, stack_older fs older (omega (arith, l)) h.2)

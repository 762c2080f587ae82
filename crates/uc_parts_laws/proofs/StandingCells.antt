-- What is told of elements that stand is so whatever is written that is not gone, and where cells start anew.
use Rattle.std.proofs.Common.{◌≡◌, ℕ, zero, suc, ◌≤◌, ◌<◌, Bool, true, false, List, [], ◌∷◌, ◌++◌, length, take, drop, Option, Some, None, refl, sym, ap, ◌∙◌, subst, arith}
use Rattle.std.specs.Prelude.{nat_eq, if◌then◌else◌, slice_index_or, replicate}
use Rattle.std.proofs.lemmas.Bool.{eqb-true}
use Rattle.uc_tree.specs.Source.{Shape}
use Rattle.uc_machine.specs.declared.exec.Exec.{Exec}
use Rattle.uc_machine.specs.Executions.{at_depth, set_depth, frame_changed, list_in, others, value_changed, values_cleared}
use Rattle.uc_machine.specs.Pieces as piece
use Rattle.uc_machine.specs.Pieces.{Value, Number, Place, Running, Object, Nothing, Todo, Active, stored, nought}
use Rattle.uc_life_laws.specs.LifeStates.{frame_at}
use Rattle.uc_life_laws.proofs.Cells.{either, tested}
use Rattle.uc_putting_laws.specs.Filling.{is_filling}
use Rattle.uc_parts_laws.specs.Standing.{Going, IsLasting, IsStill, array_of, NotIn, Aside, AllAside, Unless, AllStill, Standing, StandingFirst, StandingStack, StandingFrom}

-- cells

-- of any property that a write keeps
cell_stored : (P : Value → Type 0) (v : Value) → ((x : Value) → P x → P (stored v x)) → (vs : List Value) (j k : ℕ) → P (slice_index_or vs j nought) → P (slice_index_or (value_changed k (stored v) nought vs) j nought)
cell_stored P v f [] j k h = h
cell_stored P v f (x ∷ vs) zero zero h = f x h
cell_stored P v f (x ∷ vs) zero (suc k) h = h
cell_stored P v f (x ∷ vs) (suc j) zero h = h
cell_stored P v f (x ∷ vs) (suc j) (suc k) h = cell_stored P v f vs j k h

-- of one that a number has
-- another one
cell_other : (P : Value → Type 0) (g : Value → Value) (vs : List Value) (j k : ℕ) → (j ≡ k → ⊥) → P (slice_index_or vs j nought) → P (slice_index_or (value_changed k g nought vs) j nought)
cell_other P g [] j k f h = h
cell_other P g (x ∷ vs) zero zero f h = absurd (f refl)
cell_other P g (x ∷ vs) zero (suc k) f h = h
cell_other P g (x ∷ vs) (suc j) zero f h = h
cell_other P g (x ∷ vs) (suc j) (suc k) f h = cell_other P g vs j k (λ e. f (ap suc e)) h

cell_replaced : (P : Value → Type 0) → P nought → (vs : List Value) (n j : ℕ) → P (slice_index_or vs j nought) → P (slice_index_or (replicate (length (take n vs)) nought ++ drop n vs) j nought)
cell_replaced P f [] zero j h = h
cell_replaced P f [] (suc n) j h = h
cell_replaced P f (x ∷ vs) zero j h = h
cell_replaced P f (x ∷ vs) (suc n) zero h = f
cell_replaced P f (x ∷ vs) (suc n) (suc j) h = cell_replaced P f vs n j h

cell_cleared : (P : Value → Type 0) → P nought → (vs : List Value) (k n j : ℕ) → P (slice_index_or vs j nought) → P (slice_index_or (values_cleared k n nought vs) j nought)
cell_cleared P f vs zero n j h = cell_replaced P f vs n j h
cell_cleared P f [] (suc k) zero j h = h
cell_cleared P f [] (suc k) (suc n) j h = h
cell_cleared P f (x ∷ vs) (suc k) n zero h = h
cell_cleared P f (x ∷ vs) (suc k) n (suc j) h = cell_cleared P f vs k n j h

-- frames

pub set_length : {X : Type 0} (xs : List X) (d : ℕ) (y : X) → length (set_depth xs d y) ≡ length xs
set_length [] d y = refl
set_length (x ∷ xs) d y =
    let h = set_length xs d y in
    either (λ l. length l ≡ suc (length xs)) (nat_eq d (length xs)) (y ∷ xs) (x ∷ set_depth xs d y) refl (ap suc h)

-- a frame is changed: what held of another one holds on, and what holds of its new values
set_at : (P : List Value → Type 0) (fs : List (List Value)) (d f : ℕ) (y : List Value) → (f ≡ d → P y) → P (frame_at f fs) → P (frame_at f (set_depth fs d y))
set_at P [] d f y h k = k
set_at P (x ∷ xs) d f y h k = by (set_at P xs d f y h) (nat_eq d (length xs)) refl (nat_eq f (length xs)) refl k
  where
    by : (P (frame_at f xs) → P (frame_at f (set_depth xs d y))) → (b : Bool) → nat_eq d (length xs) ≡ b → (c : Bool) → nat_eq f (length xs) ≡ c → P (list_in (if c then Some x else at_depth xs f)) → P (list_in (at_depth (if b then y ∷ xs else x ∷ set_depth xs d y) f))
    by more true e true g k =
        let same : f ≡ d = eqb-true f (length xs) g ∙ sym (eqb-true d (length xs) e) in
        subst (λ (c : Bool). P (list_in (if c then Some y else at_depth xs f))) (sym g) (h same)
    by more true e false g k = subst (λ (c : Bool). P (list_in (if c then Some y else at_depth xs f))) (sym g) k
    by more false e true g k =
        let l : nat_eq f (length (set_depth xs d y)) ≡ true = ap (nat_eq f) (set_length xs d y) ∙ g in
        subst (λ (c : Bool). P (list_in (if c then Some x else at_depth (set_depth xs d y) f))) (sym l) k
    by more false e false g k =
        let l : nat_eq f (length (set_depth xs d y)) ≡ false = ap (nat_eq f) (set_length xs d y) ∙ g in
        subst (λ (c : Bool). P (list_in (if c then Some x else at_depth (set_depth xs d y) f))) (sym l) (more k)

-- a frame more, for those that have theirs already
newer_at : (P : List Value → Type 0) (x : List Value) (xs : List (List Value)) (f : ℕ) → f < length xs → P (frame_at f xs) → P (frame_at f (x ∷ xs))
newer_at P x xs f l h = tested (λ o. P (list_in o)) (nat_eq f (length xs)) (Some x) (at_depth xs f) (λ e. let q : f ≡ length xs = eqb-true f (length xs) e in let n : ⊥ = omega (arith, q, l) in absurd n) (λ e. h)

-- a frame less, for those that do not use it
older_at : (P : List Value → Type 0) (fs : List (List Value)) (f : ℕ) → f < length (others fs) → P (frame_at f fs) → P (frame_at f (others fs))
older_at P [] f l h = h
older_at P (x ∷ xs) f l h = by (nat_eq f (length xs)) refl h
  where
    by : (b : Bool) → nat_eq f (length xs) ≡ b → P (list_in (if b then Some x else at_depth xs f)) → P (frame_at f xs)
    by true e h = let q : f ≡ length xs = eqb-true f (length xs) e in let n : ⊥ = omega (arith, q, l) in absurd n
    by false e h = h

pub others_length : {X : Type 0} (xs : List X) (n : ℕ) → length xs ≡ suc (suc n) → length (others xs) ≡ suc n
others_length [] n h = absurd (cc)
others_length (x ∷ xs) n h = omega (arith, h)

-- what is asked but in one case
pub unless_map : (b : Bool) (A B : Type 0) → (A → B) → Unless b A → Unless b B
unless_map true A B f h = tt
unless_map false A B f h = f h

pub unless_any : (b : Bool) (A : Type 0) → A → Unless b A
unless_any true A h = tt
unless_any false A h = h

module _ (told : Going) where
  still_stored : (place v x : Value) → IsLasting told v → IsStill told place x → IsStill told place (stored v x)
  still_stored place v (Number n) l h = λ o e q. l o e
  still_stored place v (Place o p) l h = h
  still_stored place v (Running n) l h = h
  still_stored place v (Object o) l h = h
  still_stored place v Nothing l h = λ o e q. l o e

  still_nought : (place : Value) → IsStill told place nought
  still_nought place o e q = absurd (cc)

  -- a number, a place and an execution are no objects that are gone
  pub number_lasts : (v : Value) → ((o : ℕ) → v ≡ Object o → ⊥) → IsLasting told v
  number_lasts v f o e = absurd (f o e)

  module _ (n : Exec) (f : ℕ) where
    -- a change of a frame that keeps each element that stands
    abbrev pub KeepsStill : List Value → List Value → Type 0
    KeepsStill vs ws = (place : Value) (j : ℕ) → IsStill told place (slice_index_or vs j nought) → IsStill told place (slice_index_or ws j nought)

    module _ (vs ws : List Value) (keeps : KeepsStill vs ws) where
      all_kept : (count : ℕ) (a : Option (Shape × ℕ × ℕ)) → AllStill told n vs f count a → AllStill told n ws f count a
      all_kept count None h = tt
      all_kept count (Some a) h = λ j l m. keeps _ _ (h j l m)

      pub standing_kept : (count : ℕ) (todo : List Todo) → Standing told n vs f count todo → Standing told n ws f count todo
      standing_kept count [] h = tt
      standing_kept count (piece.CountNow m ∷ todo) h = absurd h
      standing_kept count (piece.Sweep e ∷ todo) h = (unless_map (is_filling todo) _ _ (all_kept count (array_of e)) h.0, standing_kept count todo h.1)
      standing_kept count (p ∷ todo) h = standing_kept count todo h

      pub first_kept : (count : ℕ) (todo : List Todo) → StandingFirst told n vs f count todo → StandingFirst told n ws f count todo
      first_kept count (piece.CountNow m ∷ todo) h = standing_kept m todo h
      first_kept count todo h = standing_kept count todo h

  -- activations

  module _ (n : Exec) where
    stack_changed : (d : ℕ) (g : List Value → List Value) (fs : List (List Value)) → ((f : ℕ) (vs : List Value) → KeepsStill n f vs (g vs)) → (cs : List Active) → StandingStack told n fs cs → StandingStack told n (frame_changed d g fs) cs
    stack_changed d g fs k [] h = tt
    stack_changed d g fs k (a ∷ older) h =
        (h.0, set_at (λ vs. Standing told n vs a.frame a.elements a.control) fs d a.frame _ (λ e. standing_kept n a.frame (frame_at d fs) (g (frame_at d fs)) (k a.frame (frame_at d fs)) a.elements a.control (subst (λ f. Standing told n (frame_at f fs) a.frame a.elements a.control) e h.1)) h.1, stack_changed d g fs k older h.2)

    from_changed : (d : ℕ) (g : List Value → List Value) (fs : List (List Value)) → ((f : ℕ) (vs : List Value) → KeepsStill n f vs (g vs)) → (a : Active) (cs : List Active) → StandingFrom told n fs a cs → StandingFrom told n (frame_changed d g fs) a cs
    from_changed d g fs k a cs h =
        (h.0, set_at (λ vs. StandingFirst told n vs a.frame a.elements a.control) fs d a.frame _ (λ e. first_kept n a.frame (frame_at d fs) (g (frame_at d fs)) (k a.frame (frame_at d fs)) a.elements a.control (subst (λ f. StandingFirst told n (frame_at f fs) a.frame a.elements a.control) e h.1)) h.1, stack_changed d g fs k cs h.2)

    pub from_stored : (d k : ℕ) (v : Value) (fs : List (List Value)) (a : Active) (cs : List Active) → IsLasting told v → StandingFrom told n fs a cs → StandingFrom told n (frame_changed d (value_changed k (stored v) nought) fs) a cs
    from_stored d k v fs a cs l h =
        from_changed d (value_changed k (stored v) nought) fs (λ f vs place j x. cell_stored (IsStill told place) v (λ y z. still_stored place v y l z) vs j k x) a cs h

    pub from_cleared : (d k m : ℕ) (fs : List (List Value)) (a : Active) (cs : List Active) → StandingFrom told n fs a cs → StandingFrom told n (frame_changed d (values_cleared k m nought) fs) a cs
    from_cleared d k m fs a cs h =
        from_changed d (values_cleared k m nought) fs (λ f vs place j x. cell_cleared (IsStill told place) (still_nought place) vs k m j x) a cs h

    -- a cell aside is written
    module _ (d x : ℕ) (g : Value → Value) where
      all_aside : (f : ℕ) (vs : List Value) (count : ℕ) (a : Option (Shape × ℕ × ℕ)) → NotIn x a → AllStill told n vs f count a → AllStill told n (value_changed x g nought vs) f count a
      all_aside f vs count None b h = tt
      all_aside f vs count (Some a) b h = λ j l m. cell_other (IsStill told _) g vs _ x (b j m) (h j l m)

      list_aside : (f : ℕ) (vs : List Value) (count : ℕ) (todo : List Todo) → Aside x todo → Standing told n vs f count todo → Standing told n (value_changed x g nought vs) f count todo
      list_aside f vs count [] b h = tt
      list_aside f vs count (piece.CountNow m ∷ todo) b h = absurd h
      list_aside f vs count (piece.Sweep e ∷ todo) b h = (unless_map (is_filling todo) _ _ (all_aside f vs count (array_of e) b.0) h.0, list_aside f vs count todo b.1 h.1)
      list_aside f vs count (p ∷ todo) b h = list_aside f vs count todo b h

      first_aside : (f : ℕ) (vs : List Value) (count : ℕ) (todo : List Todo) → Aside x todo → StandingFirst told n vs f count todo → StandingFirst told n (value_changed x g nought vs) f count todo
      first_aside f vs count (piece.CountNow m ∷ todo) b h = list_aside f vs m todo b h
      first_aside f vs count todo b h = list_aside f vs count todo b h

      stack_aside : (fs : List (List Value)) (cs : List Active) → AllAside d x cs → StandingStack told n fs cs → StandingStack told n (frame_changed d (value_changed x g nought) fs) cs
      stack_aside fs [] b h = tt
      stack_aside fs (a ∷ older) b h =
          (h.0, set_at (λ vs. Standing told n vs a.frame a.elements a.control) fs d a.frame _ (λ e. list_aside a.frame (frame_at d fs) a.elements a.control (b.0 e) (subst (λ f. Standing told n (frame_at f fs) a.frame a.elements a.control) e h.1)) h.1, stack_aside fs older b.1 h.2)

      pub from_aside : (fs : List (List Value)) (a : Active) (cs : List Active) → AllAside d x (a ∷ cs) → StandingFrom told n fs a cs → StandingFrom told n (frame_changed d (value_changed x g nought) fs) a cs
      from_aside fs a cs b h =
          (h.0, set_at (λ vs. StandingFirst told n vs a.frame a.elements a.control) fs d a.frame _ (λ e. first_aside a.frame (frame_at d fs) a.elements a.control (b.0 e) (subst (λ f. StandingFirst told n (frame_at f fs) a.frame a.elements a.control) e h.1)) h.1, stack_aside fs cs b.1 h.2)

    pub stack_stored : (d k : ℕ) (v : Value) (fs : List (List Value)) (cs : List Active) → IsLasting told v → StandingStack told n fs cs → StandingStack told n (frame_changed d (value_changed k (stored v) nought) fs) cs
    stack_stored d k v fs cs l h =
        stack_changed d (value_changed k (stored v) nought) fs (λ f vs place j x. cell_stored (IsStill told place) v (λ y z. still_stored place v y l z) vs j k x) cs h

    pub stack_cleared : (d k m : ℕ) (fs : List (List Value)) (cs : List Active) → StandingStack told n fs cs → StandingStack told n (frame_changed d (values_cleared k m nought) fs) cs
    stack_cleared d k m fs cs h =
        stack_changed d (values_cleared k m nought) fs (λ f vs place j x. cell_cleared (IsStill told place) (still_nought place) vs k m j x) cs h

    pub stack_newer : (x : List Value) (fs : List (List Value)) (cs : List Active) → length cs ≤ length fs → StandingStack told n fs cs → StandingStack told n (x ∷ fs) cs
    stack_newer x fs [] l h = tt
    stack_newer x fs (a ∷ older) l h =
        let le = h.0 in
        (h.0, newer_at (λ vs. Standing told n vs a.frame a.elements a.control) x fs a.frame (omega (arith, le, l)) h.1, stack_newer x fs older (omega (arith, l)) h.2)

    pub stack_older : (fs : List (List Value)) (cs : List Active) → length cs ≤ length (others fs) → StandingStack told n fs cs → StandingStack told n (others fs) cs
    stack_older fs [] l h = tt
    stack_older fs (a ∷ older) l h =
        let le = h.0 in
        (h.0, older_at (λ vs. Standing told n vs a.frame a.elements a.control) fs a.frame (omega (arith, le, l)) h.1, stack_older fs older (omega (arith, l)) h.2)

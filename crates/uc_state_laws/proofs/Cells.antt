-- What is there stays there, whatever is written, and where cells behind it start anew.
use Rattle.std.proofs.Common.{◌≡◌, ℕ, zero, suc, ◌+◌, ◌*◌, ◌≤◌, ◌<◌, inl, inr, Bool, true, false, List, [], ◌∷◌, ◌++◌, length, take, Some, refl, sym, ap, ◌∙◌, subst, arith}
use Rattle.std.specs.Prelude.{min, nat_eq, if◌then◌else◌, slice_index_or}
use Rattle.std.proofs.Math.Nat.{min-le_left}
use Rattle.std.proofs.lemmas.Bool.{eqb-true}
use Rattle.uc_tree.specs.Source as src
use Rattle.uc_tree.specs.Source.{Expr, CleanUp, Stmts}
use Rattle.uc_machine.specs.Executions.{at_depth, set_depth, frame_changed, list_in, others, value_changed, values_cleared}
use Rattle.uc_machine.specs.Pieces as piece
use Rattle.uc_machine.specs.Pieces.{Link, Value, Number, Place, Running, Object, Nothing, Todo, Sort, Active, stored, nought, address, LAST_ADDRESS}
use Rattle.uc_typing.specs.States.{IsNumbered}
use Rattle.uc_state_laws.specs.Filling.{Array, element_at, turn_todo}
use Rattle.uc_state_laws.specs.There.{EndsAt, OfVariable, OfElements, OfEach, HoldsObject, IsBefore, IsThere, CleanBy, AllCleans, AllThere, OfBound, IsLoose, HoldsLoose, OpensBound, NextBound, NextRest, NextDrop, NextCall, EachNext, EndsArray, Pends, IsFew, IsCounted, MarkCounted, PieceCounted, LeftBy, AllCounted, AtRest, AtDrop, AtCall, AllLeft, AtBound, FilledBy, Held, AllBefore, FrameBefore, frame_at}
use Rattle.uc_state_laws.specs.ThereStates.{CountedStack, StackAside}

-- the first of two by a test
pub either : {A : Type 0} (P : A → Type 0) (b : Bool) (x y : A) → P x → P y → P (if b then x else y)
either P true x y h k = h
either P false x y h k = k

-- by what the test says
pub tested : {A : Type 0} (P : A → Type 0) (b : Bool) (x y : A) → (b ≡ true → P x) → (b ≡ false → P y) → P (if b then x else y)
tested P true x y h k = h refl
tested P false x y h k = k refl

-- places

module _ (P Q R : List Link → Type 0) (f : (p : List Link) → P p → Q p → R p) where
  single : (e : Expr) → OfVariable P e → OfVariable Q e → OfVariable R e
  single (src.Variable k) h g = f (piece.Slot k ∷ []) h g
  single e h g = tt

  element : (n : ℕ) (e : Expr) → OfElements n P e → OfElements n Q e → OfElements n R e
  element n (src.Element m src.Binding (src.Variable k) i) h g = λ j l. f (piece.At src.Binding j ∷ (piece.Slot k ∷ [])) (h j l) (g j l)
  element n e h g = tt

  ends : (p q r : Expr → Type 0) (e : Expr) → ((x : Expr) → p x → q x → r x) → EndsAt p e → EndsAt q e → EndsAt r e
  ends p q r (src.OfObject (src.EndOn n written (src.Load e))) k h g = k e h g
  ends p q r (src.OfObject (src.EndCluster (src.Load e))) k h g = k e h g
  ends p q r (src.OfObject (src.EndProcessor (src.Load e))) k h g = k e h g
  ends p q r e k h g = tt

  -- of each place the third follows from the first two
  pub each : (c : CleanUp) → OfEach P c → OfEach Q c → OfEach R c
  each (src.Destroys e) h g = ends (OfVariable P) (OfVariable Q) (OfVariable R) e single h g
  each (src.DestroysAll n e) h g = ends (OfElements n P) (OfElements n Q) (OfElements n R) e (element n) h g
  each c h g = tt

  bound : (c : CleanUp) → OfBound P c → OfBound Q c → OfBound R c
  bound (src.Destroys (src.OfObject (src.EndProcessor (src.Load (src.Variable k))))) h g = λ l. f (piece.Slot k ∷ []) (h l) (g l)
  bound (src.Destroys (src.OfObject (src.EndOn n written (src.Load (src.Variable k))))) h g = λ l. f (piece.Slot k ∷ []) (h l) (g l)
  bound c h g = tt

  opens : (ss : Stmts) → OpensBound P ss → OpensBound Q ss → OpensBound R ss
  opens (src.Scoped c rest) h g = bound c h g
  opens ss h g = tt

  -- of the one whose scope opens next
  pub next : (todo : List Todo) → NextBound P todo → NextBound Q todo → NextBound R todo
  next (piece.Rest ss ∷ todo) h g = opens ss h g
  next (piece.Within line ∷ (piece.Rest ss ∷ todo)) h g = opens ss h g
  next (piece.DropNow ∷ (piece.Within line ∷ (piece.Rest ss ∷ todo))) h g = opens ss h g
  next (piece.CallOnNow r ∷ (piece.DropNow ∷ (piece.Within line ∷ (piece.Rest ss ∷ todo)))) h g = opens ss h g
  next (piece.CallUnwrittenNow r ∷ (piece.DropNow ∷ (piece.Within line ∷ (piece.Rest ss ∷ todo)))) h g = opens ss h g
  next todo h g = tt

  pub next_rest : (todo : List Todo) → NextRest P todo → NextRest Q todo → NextRest R todo
  next_rest (piece.Rest ss ∷ todo) h g = opens ss h g
  next_rest todo h g = tt

  pub next_drop : (todo : List Todo) → NextDrop P todo → NextDrop Q todo → NextDrop R todo
  next_drop (piece.DropNow ∷ (piece.Within line ∷ (piece.Rest ss ∷ todo))) h g = opens ss h g
  next_drop todo h g = tt

  pub next_call : (todo : List Todo) → NextCall P todo → NextCall Q todo → NextCall R todo
  next_call (piece.CallOnNow r ∷ todo) h g = next_drop todo h g
  next_call (piece.CallUnwrittenNow r ∷ todo) h g = next_drop todo h g
  next_call todo h g = tt

-- of each variable that is still to be bound, by what holds of any
module _ (P : List Link → Type 0) (f : (p : List Link) → P p) where
  any_bound : (c : CleanUp) → OfBound P c
  any_bound (src.Destroys (src.OfObject (src.EndProcessor (src.Load (src.Variable k))))) = λ l. f (piece.Slot k ∷ [])
  any_bound (src.Destroys (src.OfObject (src.EndOn n written (src.Load (src.Variable k))))) = λ l. f (piece.Slot k ∷ [])
  any_bound c = tt

  any_opens : (ss : Stmts) → OpensBound P ss
  any_opens (src.Scoped c rest) = any_bound c
  any_opens ss = tt

  any_rest : (todo : List Todo) → NextRest P todo
  any_rest (piece.Rest ss ∷ todo) = any_opens ss
  any_rest todo = tt

  any_drop : (todo : List Todo) → NextDrop P todo
  any_drop (piece.DropNow ∷ (piece.Within line ∷ (piece.Rest ss ∷ todo))) = any_opens ss
  any_drop todo = tt

  any_call : (todo : List Todo) → NextCall P todo
  any_call (piece.CallOnNow r ∷ todo) = any_drop todo
  any_call (piece.CallUnwrittenNow r ∷ todo) = any_drop todo
  any_call todo = tt

  any_pends : (todo : List Todo) → Pends P todo
  any_pends [] = tt
  any_pends (piece.Eval e ∷ todo) = (any_drop todo, any_pends todo)
  any_pends (piece.Do a ∷ todo) = (any_rest todo, any_pends todo)
  any_pends (piece.BindNow ∷ todo) = (any_drop todo, any_pends todo)
  any_pends (piece.MakeNow c r ∷ todo) = (any_call todo, any_pends todo)
  any_pends (piece.BindMadeNow c r ∷ todo) = (any_call todo, any_pends todo)
  any_pends (p ∷ todo) = any_pends todo

-- of each element of an array that is being filled
any_ends : (P : Expr → Type 0) → ((x : Expr) → P x) → (e : Expr) → EndsAt P e
any_ends P f (src.OfObject (src.EndOn n written (src.Load e))) = f e
any_ends P f (src.OfObject (src.EndCluster (src.Load e))) = f e
any_ends P f (src.OfObject (src.EndProcessor (src.Load e))) = f e
any_ends P f e = tt

any_variable : (e : Expr) → OfVariable (λ p. Unit {0}) e
any_variable (src.Variable k) = tt
any_variable e = tt

any_elements : (n : ℕ) (e : Expr) → OfElements n (λ p. Unit {0}) e
any_elements n (src.Element m src.Binding (src.Variable k) i) = λ j l. tt
any_elements n e = tt

any_each : (c : CleanUp) → OfEach (λ p. Unit {0}) c
any_each (src.Destroys e) = any_ends (OfVariable (λ p. Unit {0})) any_variable e
any_each (src.DestroysAll n e) = any_ends (OfElements n (λ p. Unit {0})) (any_elements n) e
any_each c = tt

any_array : (todo : List Todo) → EachNext (λ p. Unit {0}) todo
any_array (piece.DropNow ∷ (piece.MoreNow ∷ (piece.FillNow n b d ∷ (piece.Within line ∷ (piece.Rest (src.Scoped c rest) ∷ todo))))) = any_each c
any_array todo = tt

-- what holds of the place of each element that ends
pub each_of : (R : List Link → Type 0) (k n : ℕ) (e : Expr) → EndsArray k e → OfEach R (src.DestroysAll n e) → (j : ℕ) → j < n → R (element_at k j)
each_of R k n (src.OfObject (src.EndCluster (src.Load (src.Element m src.Binding (src.Variable c) i)))) q h j l = subst (λ (c : ℕ). R (element_at c j)) q (h j l)
each_of R k n (src.OfObject (src.EndProcessor (src.Load (src.Element m src.Binding (src.Variable c) i)))) q h j l = subst (λ (c : ℕ). R (element_at c j)) q (h j l)
each_of R k n (src.OfObject (src.EndOn r written (src.Load (src.Element m src.Binding (src.Variable c) i)))) q h j l = subst (λ (c : ℕ). R (element_at c j)) q (h j l)
each_of R k n e q h j l = absurd q

-- such an element has an address before the last one, if the array ends there or before
element_low : (k n j : ℕ) → k + n ≤ LAST_ADDRESS → j < n → address (element_at k j) < LAST_ADDRESS
element_low k n j near l =
    let a : min (0 + k) LAST_ADDRESS ≤ 0 + k = min-le_left (0 + k) LAST_ADDRESS in
    let b : min (min (0 + k) LAST_ADDRESS + j * 1) LAST_ADDRESS ≤ min (0 + k) LAST_ADDRESS + j * 1 = min-le_left (min (0 + k) LAST_ADDRESS + j * 1) LAST_ADDRESS in
    omega (arith, a, b, near, l)

pub of_each : (R : List Link → Type 0) (k n : ℕ) (e : Expr) → EndsArray k e → ((j : ℕ) → j < n → R (element_at k j)) → OfEach R (src.DestroysAll n e)
of_each R k n (src.OfObject (src.EndCluster (src.Load (src.Element m src.Binding (src.Variable c) i)))) q h = λ j l. subst (λ (c : ℕ). R (element_at c j)) (sym q) (h j l)
of_each R k n (src.OfObject (src.EndProcessor (src.Load (src.Element m src.Binding (src.Variable c) i)))) q h = λ j l. subst (λ (c : ℕ). R (element_at c j)) (sym q) (h j l)
of_each R k n (src.OfObject (src.EndOn r written (src.Load (src.Element m src.Binding (src.Variable c) i)))) q h = λ j l. subst (λ (c : ℕ). R (element_at c j)) (sym q) (h j l)
of_each R k n e q h = absurd q

pends_tail : (P : List Link → Type 0) (p : Todo) (todo : List Todo) → Pends P (p ∷ todo) → Pends P todo
pends_tail P (piece.Eval e) todo h = h.1
pends_tail P (piece.Do a) todo h = h.1
pends_tail P piece.BindNow todo h = h.1
pends_tail P (piece.MakeNow c r) todo h = h.1
pends_tail P (piece.BindMadeNow c r) todo h = h.1
pends_tail P p todo h = h

-- cells

pub loose_stored : (v x : Value) → IsLoose v → IsLoose x → IsLoose (stored v x)
loose_stored v (Number n) l h = l
loose_stored v (Place o p) l h = absurd h
loose_stored v (Running e) l h = absurd h
loose_stored v (Object o) l h = h
loose_stored v Nothing l h = l

-- another cell is not written
cell_other : (P : Value → Type 0) (f : Value → Value) (vs : List Value) (j k : ℕ) → (j ≡ k → ⊥) → P (slice_index_or vs j nought) → P (slice_index_or (value_changed k f nought vs) j nought)
cell_other P f [] j k n h = h
cell_other P f (x ∷ vs) zero zero n h = absurd (n refl)
cell_other P f (x ∷ vs) zero (suc k) n h = h
cell_other P f (x ∷ vs) (suc j) zero n h = h
cell_other P f (x ∷ vs) (suc j) (suc k) n h = cell_other P f vs j k (λ e. n (ap suc e)) h

-- what is cleared is loose
front_cleared : (vs : List Value) (j n : ℕ) → IsLoose (slice_index_or vs j nought) → IsLoose (slice_index_or (values_cleared 0 n nought vs) j nought)
front_cleared [] j zero h = h
front_cleared [] j (suc n) h = h
front_cleared (x ∷ vs) j zero h = h
front_cleared (x ∷ vs) zero (suc n) h = tt
front_cleared (x ∷ vs) (suc j) (suc n) h = front_cleared vs j n h

loose_cleared : (vs : List Value) (j k n : ℕ) → IsLoose (slice_index_or vs j nought) → IsLoose (slice_index_or (values_cleared k n nought vs) j nought)
loose_cleared vs j zero n h = front_cleared vs j n h
loose_cleared [] j (suc k) zero h = h
loose_cleared [] j (suc k) (suc n) h = h
loose_cleared (x ∷ vs) zero (suc k) n h = h
loose_cleared (x ∷ vs) (suc j) (suc k) n h = loose_cleared vs j k n h

pub numbered_stored : (v x : Value) → IsNumbered x → IsNumbered (stored v x)
numbered_stored v (Number n) h = absurd h
numbered_stored v (Place o p) h = absurd h
numbered_stored v (Running e) h = absurd h
numbered_stored v (Object o) h = h
numbered_stored v Nothing h = absurd h

-- of any property that a binding keeps
pub cell_stored : (P : Value → Type 0) (v : Value) → ((x : Value) → P x → P (stored v x)) → (vs : List Value) (j k : ℕ) → P (slice_index_or vs j nought) → P (slice_index_or (value_changed k (stored v) nought vs) j nought)
cell_stored P v f [] j k h = h
cell_stored P v f (x ∷ vs) zero zero h = f x h
cell_stored P v f (x ∷ vs) zero (suc k) h = h
cell_stored P v f (x ∷ vs) (suc j) zero h = h
cell_stored P v f (x ∷ vs) (suc j) (suc k) h = cell_stored P v f vs j k h

cell_taken : (P : Value → Type 0) → (P nought → ⊥) → (vs ws : List Value) (j k : ℕ) → j < k → P (slice_index_or vs j nought) → P (slice_index_or (take k vs ++ ws) j nought)
cell_taken P f [] ws j k l h = absurd (f h)
cell_taken P f (x ∷ vs) ws j zero l h = let n : ⊥ = omega arith in absurd n
cell_taken P f (x ∷ vs) ws zero (suc k) l h = h
cell_taken P f (x ∷ vs) ws (suc j) (suc k) l h = cell_taken P f vs ws j k (omega arith) h

there_stored : (vs : List Value) (k : ℕ) (v : Value) (c : CleanUp) → IsThere vs c → IsThere (value_changed k (stored v) nought vs) c
there_stored vs k v c h =
    each (HoldsObject vs) (HoldsObject vs) (HoldsObject (value_changed k (stored v) nought vs)) (λ p x y. cell_stored IsNumbered v (numbered_stored v) vs (address p) k x) c h h

there_cleared : (vs : List Value) (k n : ℕ) (c : CleanUp) → OfEach (IsBefore k) c → IsThere vs c → IsThere (values_cleared k n nought vs) c
there_cleared vs k n c b h =
    each (HoldsObject vs) (IsBefore k) (HoldsObject (values_cleared k n nought vs)) (λ p x l. cell_taken IsNumbered (λ n. n) vs _ (address p) k l x) c h b

-- frames

pub set_length : {X : Type 0} (xs : List X) (d : ℕ) (y : X) → length (set_depth xs d y) ≡ length xs
set_length [] d y = refl
set_length (x ∷ xs) d y =
    let h = set_length xs d y in
    either (λ l. length l ≡ suc (length xs)) (nat_eq d (length xs)) (y ∷ xs) (x ∷ set_depth xs d y) refl (ap suc h)

-- a frame is changed: what held of another one holds on, and what holds of its new values
pub set_at : (P : List Value → Type 0) (fs : List (List Value)) (d f : ℕ) (y : List Value) → (f ≡ d → P y) → P (frame_at f fs) → P (frame_at f (set_depth fs d y))
set_at P [] d f y h k = k
set_at P (x ∷ xs) d f y h k = by (set_at P xs d f y h) (nat_eq d (length xs)) refl (nat_eq f (length xs)) refl k
  where
    by : (P (frame_at f xs) → P (frame_at f (set_depth xs d y))) → (b : Bool) → nat_eq d (length xs) ≡ b → (c : Bool) → nat_eq f (length xs) ≡ c → P (list_in (if c then Some x else at_depth xs f)) → P (list_in (at_depth (if b then y ∷ xs else x ∷ set_depth xs d y) f))
    by more true e true g k =
        let same : f ≡ d = eqb-true f (length xs) g ∙ sym (eqb-true d (length xs) e) in
        subst (λ (c : Bool). P (list_in (if c then Some y else at_depth xs f))) (sym g) (h same)
    by more true e false g k = subst (λ (c : Bool). P (list_in (if c then Some y else at_depth xs f))) (sym g) k
    by more false e true g k =
        let l : nat_eq f (length (set_depth xs d y)) ≡ true = ap (nat_eq f) (set_length xs d y) ∙ g in
        subst (λ (c : Bool). P (list_in (if c then Some x else at_depth (set_depth xs d y) f))) (sym l) k
    by more false e false g k =
        let l : nat_eq f (length (set_depth xs d y)) ≡ false = ap (nat_eq f) (set_length xs d y) ∙ g in
        subst (λ (c : Bool). P (list_in (if c then Some x else at_depth (set_depth xs d y) f))) (sym l) (more k)

-- a frame more, for those that have theirs already
newer_at : (P : List Value → Type 0) (x : List Value) (xs : List (List Value)) (f : ℕ) → f < length xs → P (frame_at f xs) → P (frame_at f (x ∷ xs))
newer_at P x xs f l h = tested (λ o. P (list_in o)) (nat_eq f (length xs)) (Some x) (at_depth xs f) (λ e. let q : f ≡ length xs = eqb-true f (length xs) e in let n : ⊥ = omega (arith, q, l) in absurd n) (λ e. h)

-- a frame less, for those that do not use it
older_at : (P : List Value → Type 0) (fs : List (List Value)) (f : ℕ) → f < length (others fs) → P (frame_at f fs) → P (frame_at f (others fs))
older_at P [] f l h = h
older_at P (x ∷ xs) f l h = by (nat_eq f (length xs)) refl h
  where
    by : (b : Bool) → nat_eq f (length xs) ≡ b → P (list_in (if b then Some x else at_depth xs f)) → P (frame_at f xs)
    by true e h = let q : f ≡ length xs = eqb-true f (length xs) e in let n : ⊥ = omega (arith, q, l) in absurd n
    by false e h = h

pub others_length : {X : Type 0} (xs : List X) (n : ℕ) → length xs ≡ suc (suc n) → length (others xs) ≡ suc n
others_length [] n h = absurd (cc)
others_length (x ∷ xs) n h = omega (arith, h)

-- to-do lists and activations

any_cleans : (todo : List Todo) → AllCleans (λ c. Unit {0}) todo
any_cleans [] = tt
any_cleans (p ∷ todo) = (by (piece.sort p), any_cleans todo)
  where
    by : (k : Sort) → CleanBy (λ c. Unit {0}) k
    by (piece.IsClean c) = tt
    by k = tt

module _ (Few : ℕ → Bool) where
  few_stored : (v x : Value) → IsFew Few x → IsFew Few (stored v x)
  few_stored v (Number n) h = absurd h
  few_stored v (Place o p) h = absurd h
  few_stored v (Running e) h = absurd h
  few_stored v (Object o) h = h
  few_stored v Nothing h = absurd h

  counted_stored : (vs : List Value) (k : ℕ) (v : Value) (c : CleanUp) → IsCounted Few vs c → IsCounted Few (value_changed k (stored v) nought vs) c
  counted_stored vs k v (src.Destroys (src.OfObject (src.EndCluster (src.Load (src.Variable m))))) h =
      λ l. cell_stored (IsFew Few) v (few_stored v) vs (address (piece.Slot m ∷ [])) k (h l)
  counted_stored vs k v c h = tt

  counted_cleared : (vs : List Value) (k n : ℕ) (c : CleanUp) → OfEach (IsBefore k) c → IsCounted Few vs c → IsCounted Few (values_cleared k n nought vs) c
  counted_cleared vs k n (src.Destroys (src.OfObject (src.EndCluster (src.Load (src.Variable m))))) b h =
      λ l. cell_taken (IsFew Few) (λ x. x) vs _ (address (piece.Slot m ∷ [])) k b (h l)
  counted_cleared vs k n c b h = tt

  -- who leaves what is to do comes to what it has to clean up

  left_by : (vs : List Value) (k : Sort) (left all : Type 0) → (all → left) → LeftBy Few vs k left all → left
  left_by vs piece.Simple left all f h = h
  left_by vs (piece.IsLoop order t e b) left all f h = f h.1
  left_by vs piece.IsWhole left all f h = f h.1
  left_by vs (piece.IsClean c) left all f h = f h.1
  left_by vs (piece.IsFill m b d) left all f h = h
  left_by vs (piece.IsSweep e) left all f h = f h.1
  left_by vs (piece.IsPart c) left all f h = f h.1
  left_by vs (piece.IsGuard hs) left all f h = f h.1
  left_by vs piece.IsFinish left all f h = f h.1
  left_by vs piece.IsFinishCoroutine left all f h = f h.1

  mark_there : (vs : List Value) (k : Sort) (left all rest : Type 0) → (left → rest) → (all → rest) → LeftBy Few vs k left all → CleanBy (IsThere vs) k × rest
  mark_there vs piece.Simple left all rest f g h = (tt, f h)
  mark_there vs (piece.IsLoop order t e b) left all rest f g h = (tt, g h.1)
  mark_there vs piece.IsWhole left all rest f g h = (tt, g h.1)
  mark_there vs (piece.IsClean c) left all rest f g h = (h.0.0, g h.1)
  mark_there vs (piece.IsFill m b d) left all rest f g h = (tt, f h)
  mark_there vs (piece.IsSweep e) left all rest f g h = (tt, g h.1)
  mark_there vs (piece.IsPart c) left all rest f g h = (tt, g h.1)
  mark_there vs (piece.IsGuard hs) left all rest f g h = (tt, g h.1)
  mark_there vs piece.IsFinish left all rest f g h = (tt, g h.1)
  mark_there vs piece.IsFinishCoroutine left all rest f g h = (tt, g h.1)

  -- what a piece and what is behind it tell one who leaves it
  left_piece : (vs : List Value) (p : Todo) (left all : Type 0) → (all → left) → PieceCounted Few vs p → all → LeftBy Few vs (piece.sort p) left all
  left_piece vs (piece.Clean c) left all f h k = (h, k)
  left_piece vs (piece.Guard hs) left all f h k = (h, k)
  left_piece vs (piece.InLoop order t e b) left all f h k = (tt, k)
  left_piece vs piece.InWhole left all f h k = (tt, k)
  left_piece vs (piece.FillNow m b d) left all f h k = f k
  left_piece vs (piece.Sweep e) left all f h k = (tt, k)
  left_piece vs (piece.Part c) left all f h k = (tt, k)
  left_piece vs piece.Finish left all f h k = (tt, k)
  left_piece vs piece.FinishCoroutine left all f h k = (tt, k)
  left_piece vs p left all f h k = f k

  mutual
    pub all_left : (vs : List Value) (todo : List Todo) → AllCounted Few vs todo → AllLeft Few vs todo
    all_left vs [] h = tt
    all_left vs (piece.Eval e ∷ todo) (inl h) = all_left vs todo h
    all_left vs (piece.Eval e ∷ todo) (inr h) = drop_left vs todo h.1
    all_left vs (piece.Do a ∷ todo) (inl h) = all_left vs todo h
    all_left vs (piece.Do a ∷ todo) (inr h) = rest_left vs todo h.1
    all_left vs (piece.BindNow ∷ todo) (inl h) = all_left vs todo h
    all_left vs (piece.BindNow ∷ todo) (inr h) = drop_left vs todo h.0
    all_left vs (piece.MakeNow c r ∷ todo) (inl h) = all_left vs todo h
    all_left vs (piece.MakeNow c r ∷ todo) (inr h) = call_left vs todo h.0
    all_left vs (piece.BindMadeNow c r ∷ todo) (inl h) = all_left vs todo h
    all_left vs (piece.BindMadeNow c r ∷ todo) (inr h) = call_left vs todo h.0
    all_left vs (piece.Exit w ∷ todo) h = h
    all_left vs (piece.Unwind ∷ todo) h = h
    all_left vs (p ∷ todo) h = left_piece vs p (AllLeft Few vs todo) (AllCounted Few vs todo) (all_left vs todo) h.0 h.1

    rest_left : (vs : List Value) (todo : List Todo) → AtRest Few vs todo → AllLeft Few vs todo
    rest_left vs (piece.Rest ss ∷ todo) h = all_left vs todo h.1
    rest_left vs todo h = absurd h

    drop_left : (vs : List Value) (todo : List Todo) → AtDrop Few vs todo → AllLeft Few vs todo
    drop_left vs (piece.DropNow ∷ (piece.Within line ∷ todo)) h = rest_left vs todo h
    drop_left vs todo h = absurd h

    call_left : (vs : List Value) (todo : List Todo) → AtCall Few vs todo → AllLeft Few vs todo
    call_left vs (piece.CallOnNow r ∷ todo) h = drop_left vs todo h
    call_left vs (piece.CallUnwrittenNow r ∷ todo) h = drop_left vs todo h
    call_left vs todo h = absurd h

  bound_left : (vs : List Value) (todo : List Todo) → AtBound Few vs todo → AllLeft Few vs todo
  bound_left vs (piece.Rest ss ∷ todo) h = all_left vs todo h.1
  bound_left vs (piece.Within line ∷ todo) h = rest_left vs todo h
  bound_left vs (piece.DropNow ∷ (piece.Within line ∷ todo)) h = rest_left vs todo h
  bound_left vs (piece.CallOnNow r ∷ todo) h = drop_left vs todo h
  bound_left vs (piece.CallUnwrittenNow r ∷ todo) h = drop_left vs todo h
  bound_left vs todo h = absurd h

  -- an array that is being filled is left as it is
  filled_left : (vs : List Value) (m : ℕ) (todo : List Todo) → FilledBy Few vs m todo → AllLeft Few vs todo
  filled_left vs m todo h = subst (AllLeft Few vs) (sym h.turns) (all_left vs h.array.todo h.behind)

  pub held_left : (vs : List Value) (m : ℕ) (todo : List Todo) → Held Few vs m todo → AllLeft Few vs todo
  held_left vs m todo (inl h) = all_left vs todo h
  held_left vs m todo (inr (inl h)) = bound_left vs todo h.0
  held_left vs m todo (inr (inr h)) = filled_left vs m todo h

  pub left_on : (vs : List Value) (k : Sort) (todo : List Todo) → LeftBy Few vs k (AllLeft Few vs todo) (AllCounted Few vs todo) → AllLeft Few vs todo
  left_on vs k todo h = left_by vs k (AllLeft Few vs todo) (AllCounted Few vs todo) (all_left vs todo) h

  -- of all that is left the variables are there
  pub left_there : (vs : List Value) (todo : List Todo) → AllLeft Few vs todo → AllThere vs todo
  left_there vs [] h = tt
  left_there vs (p ∷ todo) h =
      mark_there vs (piece.sort p) (AllLeft Few vs todo) (AllCounted Few vs todo) (AllThere vs todo) (left_there vs todo) (λ x. left_there vs todo (all_left vs todo x)) h

  pub held_there : (vs : List Value) (m : ℕ) (todo : List Todo) → Held Few vs m todo → AllThere vs todo
  held_there vs m todo h = left_there vs todo (held_left vs m todo h)

  -- once it is bound, the scope behind opens next
  pub drop_bound : (vs : List Value) (todo : List Todo) → AtDrop Few vs todo → AtBound Few vs todo
  drop_bound vs (piece.DropNow ∷ (piece.Within line ∷ todo)) h = h
  drop_bound vs todo h = absurd h

  pub call_bound : (vs : List Value) (todo : List Todo) → AtCall Few vs todo → AtBound Few vs todo
  call_bound vs (piece.CallOnNow r ∷ todo) h = h
  call_bound vs (piece.CallUnwrittenNow r ∷ todo) h = h
  call_bound vs todo h = absurd h

  module _ (vs ws : List Value) (f : (todo : List Todo) → AllCounted Few vs todo → AllCounted Few ws todo) where
    rest_kept : (todo : List Todo) → AtRest Few vs todo → AtRest Few ws todo
    rest_kept (piece.Rest ss ∷ todo) h = (h.0, f todo h.1)
    rest_kept todo h = absurd h

    pub drop_kept : (todo : List Todo) → AtDrop Few vs todo → AtDrop Few ws todo
    drop_kept (piece.DropNow ∷ (piece.Within line ∷ todo)) h = rest_kept todo h
    drop_kept todo h = absurd h

    pub call_kept : (todo : List Todo) → AtCall Few vs todo → AtCall Few ws todo
    call_kept (piece.CallOnNow r ∷ todo) h = drop_kept todo h
    call_kept (piece.CallUnwrittenNow r ∷ todo) h = drop_kept todo h
    call_kept todo h = absurd h

  -- and what holds of that
  pub drop_next : (P : List Link → Type 0) (vs : List Value) (todo : List Todo) → AtDrop Few vs todo → NextDrop P todo → NextBound P todo
  drop_next P vs (piece.DropNow ∷ (piece.Within line ∷ (piece.Rest ss ∷ todo))) h b = b
  drop_next P vs todo h b = absurd h

  pub call_next : (P : List Link → Type 0) (vs : List Value) (todo : List Todo) → AtCall Few vs todo → NextCall P todo → NextBound P todo
  call_next P vs (piece.CallOnNow r ∷ (piece.DropNow ∷ (piece.Within line ∷ (piece.Rest ss ∷ todo)))) h b = b
  call_next P vs (piece.CallUnwrittenNow r ∷ (piece.DropNow ∷ (piece.Within line ∷ (piece.Rest ss ∷ todo)))) h b = b
  call_next P vs todo h b = absurd h

  -- a frame has other values, and each clean-up keeps what is told of it

  module _ (vs ws : List Value) (B : CleanUp → Type 0) (Q : List Link → Type 0) (f : (c : CleanUp) → B c → IsThere vs c × IsCounted Few vs c → IsThere ws c × IsCounted Few ws c) (g : (p : List Link) → HoldsLoose vs p → Q p → HoldsLoose ws p) where
    mark_changed : (k : Sort) → CleanBy B k → MarkCounted Few vs k → MarkCounted Few ws k
    mark_changed (piece.IsClean c) b h = f c b h
    mark_changed (piece.IsGuard hs) b h = h
    mark_changed k b h = tt

    piece_changed : (p : Todo) → CleanBy B (piece.sort p) → PieceCounted Few vs p → PieceCounted Few ws p
    piece_changed (piece.Clean c) b h = f c b h
    piece_changed (piece.Guard hs) b h = h
    piece_changed (piece.Rest ss) b h = h
    piece_changed p b h = tt

    left_changed_by : (k : Sort) (left all more every : Type 0) → CleanBy B k → (left → more) → (all → every) → LeftBy Few vs k left all → LeftBy Few ws k more every
    left_changed_by piece.Simple left all more every b g i h = g h
    left_changed_by (piece.IsLoop order t e x) left all more every b g i h = (tt, i h.1)
    left_changed_by piece.IsWhole left all more every b g i h = (tt, i h.1)
    left_changed_by (piece.IsClean c) left all more every b g i h = (f c b h.0, i h.1)
    left_changed_by (piece.IsFill m x d) left all more every b g i h = g h
    left_changed_by (piece.IsSweep e) left all more every b g i h = (tt, i h.1)
    left_changed_by (piece.IsPart c) left all more every b g i h = (tt, i h.1)
    left_changed_by (piece.IsGuard hs) left all more every b g i h = (h.0, i h.1)
    left_changed_by piece.IsFinish left all more every b g i h = (tt, i h.1)
    left_changed_by piece.IsFinishCoroutine left all more every b g i h = (tt, i h.1)

    mutual
      pub all_changed : (todo : List Todo) → AllCleans B todo → Pends Q todo → AllCounted Few vs todo → AllCounted Few ws todo
      all_changed [] b q h = tt
      all_changed (piece.Eval e ∷ todo) b q (inl h) = inl (all_changed todo b.1 q.1 h)
      all_changed (piece.Eval e ∷ todo) b q (inr h) = inr (h.0, drop_changed todo b.1 q.1 h.1, next_drop (HoldsLoose vs) Q (HoldsLoose ws) g todo h.2 q.0)
      all_changed (piece.Do a ∷ todo) b q (inl h) = inl (all_changed todo b.1 q.1 h)
      all_changed (piece.Do a ∷ todo) b q (inr h) = inr (h.0, rest_changed todo b.1 q.1 h.1, next_rest (HoldsLoose vs) Q (HoldsLoose ws) g todo h.2 q.0)
      all_changed (piece.BindNow ∷ todo) b q (inl h) = inl (all_changed todo b.1 q.1 h)
      all_changed (piece.BindNow ∷ todo) b q (inr h) = inr (drop_changed todo b.1 q.1 h.0, next_drop (HoldsLoose vs) Q (HoldsLoose ws) g todo h.1 q.0)
      all_changed (piece.MakeNow c r ∷ todo) b q (inl h) = inl (all_changed todo b.1 q.1 h)
      all_changed (piece.MakeNow c r ∷ todo) b q (inr h) = inr (call_changed todo b.1 q.1 h.0, next_call (HoldsLoose vs) Q (HoldsLoose ws) g todo h.1 q.0)
      all_changed (piece.BindMadeNow c r ∷ todo) b q (inl h) = inl (all_changed todo b.1 q.1 h)
      all_changed (piece.BindMadeNow c r ∷ todo) b q (inr h) = inr (call_changed todo b.1 q.1 h.0, next_call (HoldsLoose vs) Q (HoldsLoose ws) g todo h.1 q.0)
      all_changed (piece.Exit w ∷ todo) b q h = left_changed todo b.1 q h
      all_changed (piece.Unwind ∷ todo) b q h = left_changed todo b.1 q h
      all_changed (p ∷ todo) b q h = (piece_changed p b.0 h.0, all_changed todo b.1 (pends_tail Q p todo q) h.1)

      rest_changed : (todo : List Todo) → AllCleans B todo → Pends Q todo → AtRest Few vs todo → AtRest Few ws todo
      rest_changed (piece.Rest ss ∷ todo) b q h = (h.0, all_changed todo b.1 q h.1)
      rest_changed todo b q h = absurd h

      drop_changed : (todo : List Todo) → AllCleans B todo → Pends Q todo → AtDrop Few vs todo → AtDrop Few ws todo
      drop_changed (piece.DropNow ∷ (piece.Within line ∷ todo)) b q h = rest_changed todo b.1.1 q h
      drop_changed todo b q h = absurd h

      call_changed : (todo : List Todo) → AllCleans B todo → Pends Q todo → AtCall Few vs todo → AtCall Few ws todo
      call_changed (piece.CallOnNow r ∷ todo) b q h = drop_changed todo b.1 q h
      call_changed (piece.CallUnwrittenNow r ∷ todo) b q h = drop_changed todo b.1 q h
      call_changed todo b q h = absurd h

      left_changed : (todo : List Todo) → AllCleans B todo → Pends Q todo → AllLeft Few vs todo → AllLeft Few ws todo
      left_changed [] b q h = tt
      left_changed (p ∷ todo) b q h =
          left_changed_by (piece.sort p) (AllLeft Few vs todo) (AllCounted Few vs todo) (AllLeft Few ws todo) (AllCounted Few ws todo) b.0 (left_changed todo b.1 (pends_tail Q p todo q)) (all_changed todo b.1 (pends_tail Q p todo q)) h

    bound_changed : (todo : List Todo) → AllCleans B todo → Pends Q todo → AtBound Few vs todo → AtBound Few ws todo
    bound_changed (piece.Rest ss ∷ todo) b q h = (h.0, all_changed todo b.1 q h.1)
    bound_changed (piece.Within line ∷ todo) b q h = rest_changed todo b.1 q h
    bound_changed (piece.DropNow ∷ (piece.Within line ∷ todo)) b q h = rest_changed todo b.1.1 q h
    bound_changed (piece.CallOnNow r ∷ todo) b q h = drop_changed todo b.1 q h
    bound_changed (piece.CallUnwrittenNow r ∷ todo) b q h = drop_changed todo b.1 q h
    bound_changed todo b q h = absurd h

    module _ (R : List Link → Type 0) (o : (p : List Link) → HoldsObject vs p → R p → HoldsObject ws p) (l : (p : List Link) → address p < LAST_ADDRESS → HoldsLoose vs p → R p → HoldsLoose ws p) where
      filled_changed : (m : ℕ) (todo : List Todo) → AllCleans B todo → Pends Q todo → EachNext R todo → FilledBy Few vs m todo → FilledBy Few ws m todo
      filled_changed m todo b q r h =
          let x : Array = h.array in
          let clean : AllCleans B (turn_todo x) = subst (AllCleans B) h.turns b in
          let pends : Pends Q (turn_todo x) = subst (Pends Q) h.turns q in
          let each : (j : ℕ) → j < x.count → R (element_at x.cell j) = each_of R x.cell x.count x.ended h.ends (subst (EachNext R) h.turns r) in
          record {
            array = x;
            turns = h.turns;
            ends = h.ends;
            begins = h.begins;
            loose = λ near j k. l (element_at x.cell j) (element_low x.cell x.count j near k) (h.loose near j k) (each j k);
            there = λ near j k f. o (element_at x.cell j) (h.there near j k f) (each j k);
            behind = all_changed x.todo clean.1.1.1.1.1 pends h.behind;
          }

      held_changed : (m : ℕ) (todo : List Todo) → AllCleans B todo → Pends Q todo → EachNext R todo → (NextBound (HoldsObject vs) todo → NextBound (HoldsObject ws) todo) → Held Few vs m todo → Held Few ws m todo
      held_changed m todo b q r i (inl h) = inl (all_changed todo b q h)
      held_changed m todo b q r i (inr (inl h)) = inr (inl (bound_changed todo b q h.0, i h.1))
      held_changed m todo b q r i (inr (inr h)) = inr (inr (filled_changed m todo b q r h))

  -- a value is written to a cell: an object or a number to any, a place or an execution to none that is still to be bound

  marks_stored : (vs : List Value) (k : ℕ) (v : Value) (c : CleanUp) → Unit {0} → IsThere vs c × IsCounted Few vs c → IsThere (value_changed k (stored v) nought vs) c × IsCounted Few (value_changed k (stored v) nought vs) c
  marks_stored vs k v c b x = (there_stored vs k v c x.0, counted_stored vs k v c x.1)

  next_stored : (vs : List Value) (k : ℕ) (v : Value) (todo : List Todo) → NextBound (HoldsObject vs) todo → NextBound (HoldsObject (value_changed k (stored v) nought vs)) todo
  next_stored vs k v todo x = next (HoldsObject vs) (HoldsObject vs) (HoldsObject (value_changed k (stored v) nought vs)) (λ p x y. cell_stored IsNumbered v (numbered_stored v) vs (address p) k x) todo x x

  loose_kept : (vs : List Value) (k : ℕ) (v : Value) → IsLoose v → (p : List Link) → HoldsLoose vs p → Unit {0} → HoldsLoose (value_changed k (stored v) nought vs) p
  loose_kept vs k v l p h u = cell_stored IsLoose v (λ x. loose_stored v x l) vs (address p) k h

  loose_aside : (vs : List Value) (k : ℕ) (v : Value) (p : List Link) → HoldsLoose vs p → (address p ≡ k → ⊥) → HoldsLoose (value_changed k (stored v) nought vs) p
  loose_aside vs k v p h n = cell_other IsLoose (stored v) vs (address p) k n h

  all_stored : (k : ℕ) (v : Value) → IsLoose v → (todo : List Todo) (vs : List Value) → AllCounted Few vs todo → AllCounted Few (value_changed k (stored v) nought vs) todo
  all_stored k v l todo vs h =
      all_changed vs (value_changed k (stored v) nought vs) (λ c. Unit {0}) (λ p. Unit {0}) (marks_stored vs k v) (loose_kept vs k v l) todo (any_cleans todo) (any_pends (λ p. Unit {0}) (λ p. tt) todo) h

  object_stored : (R : List Link → Type 0) (vs : List Value) (k : ℕ) (v : Value) (p : List Link) → HoldsObject vs p → R p → HoldsObject (value_changed k (stored v) nought vs) p
  object_stored R vs k v p x r = cell_stored IsNumbered v (numbered_stored v) vs (address p) k x

  held_stored : (k : ℕ) (v : Value) → IsLoose v → (m : ℕ) (todo : List Todo) (vs : List Value) → Held Few vs m todo → Held Few (value_changed k (stored v) nought vs) m todo
  held_stored k v l m todo vs h =
      held_changed vs (value_changed k (stored v) nought vs) (λ c. Unit {0}) (λ p. Unit {0}) (marks_stored vs k v) (loose_kept vs k v l) (λ p. Unit {0}) (object_stored (λ p. Unit {0}) vs k v) (λ p g. loose_kept vs k v l p) m todo (any_cleans todo) (any_pends (λ p. Unit {0}) (λ p. tt) todo) (any_array todo) (next_stored vs k v todo) h

  all_aside : (k : ℕ) (v : Value) (todo : List Todo) (vs : List Value) → Pends (λ p. address p ≡ k → ⊥) todo → AllCounted Few vs todo → AllCounted Few (value_changed k (stored v) nought vs) todo
  all_aside k v todo vs q h =
      all_changed vs (value_changed k (stored v) nought vs) (λ c. Unit {0}) (λ p. address p ≡ k → ⊥) (marks_stored vs k v) (loose_aside vs k v) todo (any_cleans todo) q h

  held_aside : (k : ℕ) (v : Value) (m : ℕ) (todo : List Todo) (vs : List Value) → Pends (λ p. address p ≡ k → ⊥) todo → EachNext (λ p. address p < LAST_ADDRESS → address p ≡ k → ⊥) todo → Held Few vs m todo → Held Few (value_changed k (stored v) nought vs) m todo
  held_aside k v m todo vs q r h =
      held_changed vs (value_changed k (stored v) nought vs) (λ c. Unit {0}) (λ p. address p ≡ k → ⊥) (marks_stored vs k v) (loose_aside vs k v) (λ p. address p < LAST_ADDRESS → address p ≡ k → ⊥) (object_stored (λ p. address p < LAST_ADDRESS → address p ≡ k → ⊥) vs k v) (λ p g x r. loose_aside vs k v p x (r g)) m todo (any_cleans todo) q r (next_stored vs k v todo) h

  -- cells start anew

  marks_cleared : (vs : List Value) (k n : ℕ) (c : CleanUp) → OfEach (IsBefore k) c → IsThere vs c × IsCounted Few vs c → IsThere (values_cleared k n nought vs) c × IsCounted Few (values_cleared k n nought vs) c
  marks_cleared vs k n c b x = (there_cleared vs k n c b x.0, counted_cleared vs k n c b x.1)

  all_cleared : (k n : ℕ) (todo : List Todo) (vs : List Value) → AllBefore k todo → AllCounted Few vs todo → AllCounted Few (values_cleared k n nought vs) todo
  all_cleared k n todo vs b h =
      all_changed vs (values_cleared k n nought vs) (OfEach (IsBefore k)) (λ p. Unit {0}) (marks_cleared vs k n) (λ p x u. loose_cleared vs (address p) k n x) todo b (any_pends (λ p. Unit {0}) (λ p. tt) todo) h

  held_cleared : (k n m : ℕ) (todo : List Todo) (vs : List Value) → AllBefore k todo → NextBound (IsBefore k) todo → EachNext (IsBefore k) todo → Held Few vs m todo → Held Few (values_cleared k n nought vs) m todo
  held_cleared k n m todo vs b l r h =
      held_changed vs (values_cleared k n nought vs) (OfEach (IsBefore k)) (λ p. Unit {0}) (marks_cleared vs k n) (λ p x u. loose_cleared vs (address p) k n x) (IsBefore k) (λ p x l. cell_taken IsNumbered (λ n. n) vs _ (address p) k l x) (λ p g x u. loose_cleared vs (address p) k n x) m todo b (any_pends (λ p. Unit {0}) (λ p. tt) todo) r (λ x. next (HoldsObject vs) (IsBefore k) (HoldsObject (values_cleared k n nought vs)) (λ p x l. cell_taken IsNumbered (λ n. n) vs _ (address p) k l x) todo x l) h

  -- in a frame of an execution, of which one is written
  pub list_stored : (d k : ℕ) (v : Value) → IsLoose v → (fs : List (List Value)) (f : ℕ) (todo : List Todo) → AllCounted Few (frame_at f fs) todo → AllCounted Few (frame_at f (frame_changed d (value_changed k (stored v) nought) fs)) todo
  list_stored d k v l fs f todo h =
      set_at (λ vs. AllCounted Few vs todo) fs d f _ (λ e. all_stored k v l todo (frame_at d fs) (subst (λ n. AllCounted Few (frame_at n fs) todo) e h)) h

  pub list_aside : (d k : ℕ) (v : Value) (fs : List (List Value)) (f : ℕ) (todo : List Todo) → (f ≡ d → Pends (λ p. address p ≡ k → ⊥) todo) → AllCounted Few (frame_at f fs) todo → AllCounted Few (frame_at f (frame_changed d (value_changed k (stored v) nought) fs)) todo
  list_aside d k v fs f todo q h =
      set_at (λ vs. AllCounted Few vs todo) fs d f _ (λ e. all_aside k v todo (frame_at d fs) (q e) (subst (λ n. AllCounted Few (frame_at n fs) todo) e h)) h

  pub drop_aside : (d k : ℕ) (v : Value) (fs : List (List Value)) (f : ℕ) (todo : List Todo) → (f ≡ d → Pends (λ p. address p ≡ k → ⊥) todo) → AtDrop Few (frame_at f fs) todo → AtDrop Few (frame_at f (frame_changed d (value_changed k (stored v) nought) fs)) todo
  drop_aside d k v fs f todo q h =
      set_at (λ vs. AtDrop Few vs todo) fs d f _ (λ e. drop_changed (frame_at d fs) (value_changed k (stored v) nought (frame_at d fs)) (λ c. Unit {0}) (λ p. address p ≡ k → ⊥) (marks_stored (frame_at d fs) k v) (loose_aside (frame_at d fs) k v) todo (any_cleans todo) (q e) (subst (λ n. AtDrop Few (frame_at n fs) todo) e h)) h

  pub list_cleared : (d k n : ℕ) (fs : List (List Value)) (todo : List Todo) → AllBefore k todo → AllCounted Few (frame_at d fs) todo → AllCounted Few (frame_at d (frame_changed d (values_cleared k n nought) fs)) todo
  list_cleared d k n fs todo b h = set_at (λ vs. AllCounted Few vs todo) fs d d _ (λ e. all_cleared k n todo (frame_at d fs) b h) h

  pub stack_stored : (d k : ℕ) (v : Value) → IsLoose v → (fs : List (List Value)) (cs : List Active) → CountedStack Few fs cs → CountedStack Few (frame_changed d (value_changed k (stored v) nought) fs) cs
  stack_stored d k v l fs [] h = tt
  stack_stored d k v l fs (a ∷ older) h =
      let there : Held Few (frame_at a.frame fs) a.elements a.control = h.1 in
      (h.0, set_at (λ vs. Held Few vs a.elements a.control) fs d a.frame _ (λ e. held_stored k v l a.elements a.control (frame_at d fs) (subst (λ f. Held Few (frame_at f fs) a.elements a.control) e there)) there, stack_stored d k v l fs older h.2)

  pub stack_aside : (d k : ℕ) (v : Value) (fs : List (List Value)) (cs : List Active) → StackAside k d cs → CountedStack Few fs cs → CountedStack Few (frame_changed d (value_changed k (stored v) nought) fs) cs
  stack_aside d k v fs [] q h = tt
  stack_aside d k v fs (a ∷ older) q h =
      let there : Held Few (frame_at a.frame fs) a.elements a.control = h.1 in
      (h.0, set_at (λ vs. Held Few vs a.elements a.control) fs d a.frame _ (λ e. held_aside k v a.elements a.control (frame_at d fs) (q.0 e).0 (q.0 e).1 (subst (λ f. Held Few (frame_at f fs) a.elements a.control) e there)) there, stack_aside d k v fs older q.1 h.2)

  pub stack_cleared : (d k n : ℕ) (fs : List (List Value)) (cs : List Active) → FrameBefore k d cs → CountedStack Few fs cs → CountedStack Few (frame_changed d (values_cleared k n nought) fs) cs
  stack_cleared d k n fs [] b h = tt
  stack_cleared d k n fs (a ∷ older) b h =
      let there : Held Few (frame_at a.frame fs) a.elements a.control = h.1 in
      (h.0, set_at (λ vs. Held Few vs a.elements a.control) fs d a.frame _ (λ e. held_cleared k n a.elements a.control (frame_at d fs) (b.0 e).0 (b.0 e).1 (b.0 e).2 (subst (λ f. Held Few (frame_at f fs) a.elements a.control) e there)) there, stack_cleared d k n fs older b.1 h.2)

  pub stack_newer : (x : List Value) (fs : List (List Value)) (cs : List Active) → length cs ≤ length fs → CountedStack Few fs cs → CountedStack Few (x ∷ fs) cs
  stack_newer x fs [] l h = tt
  stack_newer x fs (a ∷ older) l h =
      let le = h.0 in
      (h.0, newer_at (λ vs. Held Few vs a.elements a.control) x fs a.frame (omega (arith, le, l)) h.1, stack_newer x fs older (omega (arith, l)) h.2)

  pub stack_older : (fs : List (List Value)) (cs : List Active) → length cs ≤ length (others fs) → CountedStack Few fs cs → CountedStack Few (others fs) cs
  stack_older fs [] l h = tt
  stack_older fs (a ∷ older) l h =
      let le = h.0 in
      (h.0, older_at (λ vs. Held Few vs a.elements a.control) fs a.frame (omega (arith, le, l)) h.1, stack_older fs older (omega (arith, l)) h.2)

-- What is known stays so, to whoever knows more; and what is known of places further on.
use Rattle.std.proofs.Common.{◌≡◌, ℕ, zero, suc, ◌<◌, ◌≤◌, ◌⊎◌, inl, inr, ⊎_elim, List, [], ◌∷◌, ◌++◌, length, take, drop, Option, Some, None, Bool, true, false, refl, sym, ap, ◌∙◌, subst, arith}
use Rattle.std.specs.Prelude.{nat_eq, if◌then◌else◌, slice_index_or, slice_set}
use Rattle.uc_tree.specs.Source.{Shape, Integer, Character, Truth, Binding, Last, Field, Array, CleanUp, Scoped}
use Rattle.uc_machine.specs.declared.exec.Exec.{Exec}
use Rattle.uc_machine.specs.declared.exec.Owner.TheVariants.{Frame, Fields}
use Rattle.uc_machine.specs.Executions.{at_depth, first_or, others, take_operands, list_in, set_depth, frame_changed, value_changed, values_cleared}
use Rattle.uc_machine.specs.Pieces as piece
use Rattle.uc_machine.specs.Pieces.{Link, FieldAt, At, Value, Number, Place, Running, Object, Nothing, Todo, Active, further, nought, stored, top, below}
use Rattle.uc_typing.specs.Typing.{Ty, Num, Cell, Obj, Raw, Row, Clu, Pro, Sig, Table, IsPlaced, IsScalarPlace, IsBare, IsKept, IsParam, raw, element_shape, object_ty}
use Rattle.uc_typing.specs.Pieces.{onto}
use Rattle.uc_typing.specs.States.{Is}
use Rattle.uc_typing.proofs.Operands as operands
use Rattle.uc_typing.proofs.Frames.{drop_onto}
use Rattle.uc_life_laws.proofs.Cells.{known_stored}
use Rattle.uc_life_laws.specs.Things.{Few, IsField, IsScalar, IsBinding, IsReference, IsUnbound, IsTracked, IsResource, IsSited, IsLoosePlace, IsSeated, Within, itself, field, element, Things, AwaitsScope, Unmade, UnmadeBehind, Outer, Around, IsFew, LiesIn, IsKnown, Known, Held, lies, inside, Stands}
use Rattle.uc_life_laws.specs.Knowing.{AtHand, KnownAll, KnownParams, KnownFrames, KnownThis}

-- lists, as uc_typing has them

drop_others : {X : Type 0} (n : ℕ) (xs : List X) → drop n (others xs) ≡ drop (suc n) xs
drop_others zero [] = refl
drop_others (suc n) [] = refl
drop_others n (x ∷ xs) = refl

taken_more : {X : Type 0} (d : X) (n : ℕ) (xs ys : List X) → take_operands d (suc n) xs ys ≡ first_or d (drop n xs) ∷ take_operands d n xs ys
taken_more d zero xs ys = refl
taken_more d (suc n) xs ys =
    taken_more d n (others xs) (first_or d xs ∷ ys) ∙ ap (λ zs. first_or d zs ∷ take_operands d (suc n) xs ys) (drop_others n xs)

either_way : (b : Bool) → b ≡ true → b ≡ false → ⊥
either_way true e f = absurd (cc)
either_way false e f = absurd (cc)

module _ (t : Table) where
  -- a part of a part
  within_both : (w : Value) (a : Ty) (v : Value) (b : Ty) (u : Value) (d : Ty) → Within t w a v b → Within t v b u d → Within t w a u d
  within_both w a v b u d h itself = h
  within_both w a v b u d h (field {v = x} {c} k i f) = field (within_both w a v b x (Obj c) h k) i f
  within_both w a v b u d h (element {v = x} {m} {b = e} k j l) = element (within_both w a v b x (Row m e) h k) j l

  -- the same part of another thing of the type
  moved : (w : Value) (a : Ty) (v : Value) (b : Ty) (x : Value) → Within t w a v b → (u : Value) × Within t x a u b
  moved w a v b x itself = (x, itself)
  moved w a v b x (field {v = y} {c} k i f) = let h = moved w a y (Obj c) x k in (further (FieldAt (t.shape c) i) h.0, field h.1 i f)
  moved w a v b x (element {v = y} {m} {b = e} k j l) = let h = moved w a y (Row m e) x k in (further (At (element_shape t e) j) h.0, element h.1 j l)

  referred : (a : Ty) → IsReference a → IsBinding a
  referred Num i = absurd i
  referred (Cell a) i = i
  referred (Obj c) i = tt
  referred (Raw c) i = absurd i
  referred (Row m a) i = absurd i
  referred Clu i = absurd i
  referred Pro i = absurd i

  -- what is tracked lies in no object in which nothing is bound
  untracked : (c : ℕ) → IsUnbound t (Obj c) → (a : Ty) (w v : Value) → Within t w (Obj c) v a → IsTracked t a → ⊥
  untracked c u Num w v h i = i
  untracked c u (Cell a) w v h i = u w v a h (referred a i)
  untracked c u (Obj d) w v h i =
      i (λ x y b k bound. let m = moved x (Obj d) y (Cell b) v k in u w m.0 b (within_both w (Obj c) v (Obj d) m.0 (Cell b) h m.1) bound)
  untracked c u (Raw d) w v h i = i
  untracked c u (Row m a) w v h i = untracked c u a w (further (At (element_shape t a) 0) v) (element h 0 i.1) i.0
  untracked c u Clu w v h i = i
  untracked c u Pro w v h i = i

  -- what is told by its place, or is the place of a cluster or a processor
  abbrev pub IsTold : Ty → Type 0
  IsTold a = IsTracked t a ⊎ IsSited a

  bound_resource : (a : Ty) → IsResource a → IsBinding a
  bound_resource Num i = absurd i
  bound_resource (Cell a) i = absurd i
  bound_resource (Obj c) i = absurd i
  bound_resource (Raw c) i = absurd i
  bound_resource (Row m a) i = absurd i
  bound_resource Clu i = tt
  bound_resource Pro i = tt

  unsited : (c : ℕ) → IsUnbound t (Obj c) → (a : Ty) (w v : Value) → Within t w (Obj c) v a → IsSited a → ⊥
  unsited c u Num w v h i = i
  unsited c u (Cell a) w v h i = u w v a h (bound_resource a i)
  unsited c u (Obj d) w v h i = i
  unsited c u (Raw d) w v h i = i
  unsited c u (Row m a) w v h i = unsited c u a w (further (At (element_shape t a) 0) v) (element h 0 i.1) i.0
  unsited c u Clu w v h i = i
  unsited c u Pro w v h i = i

  -- what is told lies in no object in which nothing is bound
  untold : (c : ℕ) → IsUnbound t (Obj c) → (a : Ty) (w v : Value) → Within t w (Obj c) v a → IsTold a → ⊥
  untold c u a w v h (inl i) = untracked c u a w v h i
  untold c u a w v h (inr i) = unsited c u a w v h i

-- nothing is bound in an object that has scalars alone
within_bare : (t : Table) (c : ℕ) → ((i : ℕ) → IsScalarPlace (t.fields c i)) → {w v : Value} {a : Ty} → Within t w (Obj c) v a → (a ≡ Obj c) ⊎ IsScalarPlace a
within_bare t c f itself = inl refl
within_bare t c f (field h i l) = by (within_bare t c f h)
  where
    by : {d : ℕ} → (Obj d ≡ Obj c) ⊎ IsScalarPlace (Obj d) → (t.fields d i ≡ Obj c) ⊎ IsScalarPlace (t.fields d i)
    by {d} (inl e) = let q : d ≡ c = cc in inr (subst (λ d. IsScalarPlace (t.fields d i)) (sym q) (f i))
    by (inr s) = absurd s
within_bare t c f (element h j l) = by (within_bare t c f h)
  where
    by : {m : ℕ} {b : Ty} → (Row m b ≡ Obj c) ⊎ IsScalarPlace (Row m b) → (b ≡ Obj c) ⊎ IsScalarPlace b
    by (inl e) = absurd (cc)
    by (inr s) = absurd s

unbound_bare : (t : Table) (c : ℕ) → ((i : ℕ) → IsScalarPlace (t.fields c i)) → IsUnbound t (Obj c)
unbound_bare t c f w v b h k = by b (within_bare t c f h) k
  where
    by : (b : Ty) → (Cell b ≡ Obj c) ⊎ IsScalarPlace (Cell b) → IsBinding b → ⊥
    by b (inl e) k = absurd (cc)
    by Num (inr s) k = k
    by (Cell a) (inr s) k = s
    by (Obj d) (inr s) k = s
    by (Raw d) (inr s) k = s
    by (Row m a) (inr s) k = s
    by Clu (inr s) k = s
    by Pro (inr s) k = s

pub bare_untracked : (t : Table) (a : Ty) → IsBare t a → IsTracked t a → ⊥
bare_untracked t Num b i = i
bare_untracked t (Cell Num) b i = i
bare_untracked t (Cell (Raw c)) b i = i
bare_untracked t (Cell Clu) b i = i
bare_untracked t (Cell Pro) b i = i
bare_untracked t (Cell (Cell a)) b i = b
bare_untracked t (Cell (Obj c)) b i = b
bare_untracked t (Cell (Row n a)) b i = b
bare_untracked t (Obj c) b i = i (unbound_bare t c b)
bare_untracked t (Raw c) b i = i
bare_untracked t (Row n a) b i = bare_untracked t a b i.0
bare_untracked t Clu b i = i
bare_untracked t Pro b i = i

-- an element that is tracked is kept as its type is
pub kept_tracked : (t : Table) (s : Shape) (a : Ty) → IsKept t s a → IsTracked t a → s ≡ element_shape t a
kept_tracked t s a (inl e) i = e
kept_tracked t s a (inr b) i = absurd (bare_untracked t a b i)

-- a field that is told is one that somebody declared
pub told_declared : (t : Table) → ((c : ℕ) → t.executes c ≡ true → t.fields c 0 ≡ Num) → (c i : ℕ) → IsTold t (t.fields c i) → IsField t c i
told_declared t l c zero (inl i) e = absurd (subst (IsTracked t) (l c e) i)
told_declared t l c zero (inr i) e = absurd (subst IsSited (l c e) i)
told_declared t l c (suc n) i e = omega arith

-- an element is kept as a binding, or it is stray
kept_or_stray : (s : Shape) → (s ≡ Binding) ⊎ (s ≡ Binding → ⊥)
kept_or_stray Integer = inr (λ e. absurd (cc))
kept_or_stray Character = inr (λ e. absurd (cc))
kept_or_stray Truth = inr (λ e. absurd (cc))
kept_or_stray Binding = inl refl
kept_or_stray Last = inr (λ e. absurd (cc))
kept_or_stray (Field a b) = inr (λ e. absurd (cc))
kept_or_stray (Array m a) = inr (λ e. absurd (cc))

-- the elements of an array of them are kept as bindings
sited_shape : (t : Table) (a : Ty) → IsSited a → element_shape t a ≡ Binding
sited_shape t Num i = absurd i
sited_shape t (Cell a) i = refl
sited_shape t (Obj c) i = absurd i
sited_shape t (Raw c) i = absurd i
sited_shape t (Row m a) i = refl
sited_shape t Clu i = absurd i
sited_shape t Pro i = absurd i

loose_element : (n : Exec) (s : Shape) (j : ℕ) (v : Value) → IsLoosePlace n v → IsLoosePlace n (further (At s j) v)
loose_element n s j (Number z) h = absurd h
loose_element n s j (Place (Frame x d) p) (inl h) = inl h
loose_element n s j (Place (Frame x d) p) (inr h) = inr (inr h)
loose_element n s j (Place (Fields o) p) h = inr h
loose_element n s j (Running x) h = absurd h
loose_element n s j (Object o) h = absurd h
loose_element n s j Nothing h = absurd h

stray_element : (t : Table) (n : Exec) (m : ℕ) (a : Ty) (s : Shape) (j : ℕ) (v : Value) → Is t (Row m a) v → (s ≡ Binding → ⊥) → IsLoosePlace n (further (At s j) v)
stray_element t n m a s j (Place (Frame x d) p) i f = inr (inl f)
stray_element t n m a s j (Place (Fields o) p) i f = inl f
stray_element t n m a s j (Number z) i f = absurd i
stray_element t n m a s j (Running x) i f = absurd i
stray_element t n m a s j (Object o) i f = absurd i
stray_element t n m a s j Nothing i f = absurd i

-- the scope that opens next
pub awaits_some : (P : CleanUp → Type 0) (todo : List Todo) → AwaitsScope P todo → (c : CleanUp) × P c
awaits_some P (piece.DropNow ∷ (piece.Within line ∷ (piece.Rest (Scoped c ss) ∷ todo))) h = (c, h)
awaits_some P (piece.DropNow ∷ (piece.MoreNow ∷ (piece.FillNow n b d ∷ (piece.Within line ∷ (piece.Rest (Scoped c ss) ∷ todo))))) h = (c, h)
awaits_some P todo h = absurd h

module _ (t : Table) (few : Few) (n : Exec) where
  -- what one knows, one who knows more does
  abbrev pub Less : (Value → Ty → Type 0) → (Value → Ty → Type 0) → Type 0
  Less K L = (w : Value) (a : Ty) → K w a → L w a

  module _ (K L : Value → Ty → Type 0) (more : Less K L) where
    stands_more : (b : Ty) (v : Value) → Stands t few K b v → Stands t few L b v
    stands_more b v (lies {w = w} {a} k h) = lies (more w a k) h
    stands_more b v (inside {o = o} {c} m k h) = inside m (stands_more (Cell (Obj c)) (few.home o) k) h

    pub held_more : (b : Ty) (v : Value) → Held t few K b v → Held t few L b v
    held_more b v (inl h) = inl (stands_more b v h)
    held_more b v (inr h) = inr (h.0, h.1, more h.0 (Raw h.1) h.2, h.3)

    pub lies_more : (b : Ty) (v : Value) → LiesIn t few n K b v → LiesIn t few n L b v
    lies_more b (Number z) h = tt
    lies_more b (Place o p) h = held_more b (Place o p) h
    lies_more b (Running x) h = tt
    lies_more b (Object o) h = held_more b (Object o) h
    lies_more b Nothing h = tt

    is_more : (a : Ty) (v : Value) → IsKnown t few n K a v → IsKnown t few n L a v
    is_more a v h = record { is = h.is; passes = h.passes; rooted = λ i. lies_more a v (h.rooted i); held = λ m. lies_more a v (h.held m); seated = λ i. ⊎_elim (λ l. inl (lies_more a v l)) (λ l. inr l) (h.seated i) }

    pub known_more : (a : Ty) (v : Value) → Known t few n K a v → Known t few n L a v
    known_more Num v h = tt
    known_more (Cell a) v h = is_more (Cell a) v h
    known_more (Obj c) v h = is_more (Obj c) v h
    known_more (Raw c) v h = record { is = h.is; passes = h.passes }
    known_more (Row m a) v h = is_more (Row m a) v h
    known_more Clu v h = is_more Clu v h
    known_more Pro v h = is_more Pro v h

    pub all_more : (tys : List Ty) (vs : List Value) → KnownAll t few n K tys vs → KnownAll t few n L tys vs
    all_more [] [] h = tt
    all_more [] (v ∷ vs) h = absurd h
    all_more (a ∷ tys) [] h = absurd h
    all_more (a ∷ tys) (v ∷ vs) h = (known_more a v h.0, all_more tys vs h.1)

    pub params_more : (tys : List Ty) (vs : List Value) → KnownParams t few n K tys vs → KnownParams t few n L tys vs
    params_more [] vs h = tt
    params_more (a ∷ tys) [] h = absurd h
    params_more (a ∷ tys) (v ∷ vs) h = (known_more a v h.0, params_more tys vs h.1)

    pub this_more : (g : Sig) (o : Option ℕ) (v : Value) → KnownThis t few n K g o v → KnownThis t few n L g o v
    this_more g None v h = tt
    this_more g (Some c) v h = known_more (object_ty g.whole c) v h

  -- what those wait for that are not the newest, they all do
  pub behind_unmade : (cs : List Active) → Less (UnmadeBehind t n cs) (Unmade t n cs)
  behind_unmade [] w a h = absurd h
  behind_unmade (c ∷ older) w a h = inr h

  pub around_outer : (cs : List Active) → Less (Around t few n cs) (Outer t few n cs)
  around_outer [] w a h = inl h
  around_outer (c ∷ older) w a (inl h) = inl (inl h)
  around_outer (c ∷ older) w a (inr (inl h)) = inl (inr h)
  around_outer (c ∷ older) w a (inr (inr h)) = inr (inr h)

  -- it is at hand
  pub around_hand : (gs : List Sig) (cs : List Active) → Less (Around t few n cs) (AtHand t few n gs cs)
  around_hand gs [] w a h = inl h
  around_hand gs (c ∷ older) w a (inl h) = inl (inl h)
  around_hand gs (c ∷ older) w a (inr (inl h)) = inl (inr h)
  around_hand gs (c ∷ older) w a (inr (inr h)) = inr (inr h)

  pub behind_around : (cs : List Active) → Less (UnmadeBehind t n cs) (Around t few n cs)
  behind_around [] w a h = absurd h
  behind_around (c ∷ older) w a h = inr (inr h)

  -- so are all things
  pub things_around : (cs : List Active) → Less (Things t few n cs) (Around t few n cs)
  things_around [] w a h = h
  things_around (c ∷ older) w a (inl h) = inl h
  things_around (c ∷ older) w a (inr h) = inr (inl h)

  -- those of older activations are at hand
  pub older_hand : (gs : List Sig) (c : Active) (cs : List Active) → Less (AtHand t few n (others gs) cs) (AtHand t few n gs (c ∷ cs))
  older_hand gs c cs w a (inl h) = inl (inr h)
  older_hand gs c cs w a (inr (inl h)) = inr (inl (inr h))
  older_hand gs c cs w a (inr (inr h)) = inr (inr (behind_unmade cs w a h))

  module _ (K : Value → Ty → Type 0) where
    pub known_is : (a : Ty) (v : Value) → Known t few n K a v → Is t a v
    known_is Num v h = tt
    known_is (Cell a) v h = h.is
    known_is (Obj c) v h = h.is
    known_is (Raw c) v h = h.is
    known_is (Row m a) v h = h.is
    known_is Clu v h = h.is
    known_is Pro v h = h.is

    -- what is no cluster and no processor is told by its place
    pub few_further : (a : Ty) (l : Link) (v : Value) → IsFew t few n a (further l v)
    few_further a l (Number z) = tt
    few_further a l (Place o p) = tt
    few_further a l (Running x) = tt
    few_further a l (Object o) = tt
    few_further a l Nothing = tt

    stands_field : (c i : ℕ) (v : Value) → IsField t c i → Stands t few K (Obj c) v → Stands t few K (t.fields c i) (further (FieldAt (t.shape c) i) v)
    stands_field c i v f (lies k h) = lies k (field h i f)
    stands_field c i v f (inside m k h) = inside m k (field h i f)

    held_field : (c i : ℕ) (v : Value) → IsField t c i → Held t few K (Obj c) v → Held t few K (t.fields c i) (further (FieldAt (t.shape c) i) v)
    held_field c i v f (inl h) = inl (stands_field c i v f h)
    held_field c i v f (inr h) = inr (h.0, h.1, h.2, field h.3 i f)

    lies_field : (c i : ℕ) (v : Value) → IsField t c i → LiesIn t few n K (Obj c) v → LiesIn t few n K (t.fields c i) (further (FieldAt (t.shape c) i) v)
    lies_field c i (Number z) f h = tt
    lies_field c i (Place o p) f h = held_field c i (Place o p) f h
    lies_field c i (Running x) f h = tt
    lies_field c i (Object o) f h = held_field c i (Object o) f h
    lies_field c i Nothing f h = tt

    stands_element : (m j : ℕ) (a : Ty) (v : Value) → j < m → Stands t few K (Row m a) v → Stands t few K a (further (At (element_shape t a) j) v)
    stands_element m j a v l (lies k h) = lies k (element h j l)
    stands_element m j a v l (inside e k h) = inside e k (element h j l)

    held_element : (m j : ℕ) (a : Ty) (v : Value) → j < m → Held t few K (Row m a) v → Held t few K a (further (At (element_shape t a) j) v)
    held_element m j a v l (inl h) = inl (stands_element m j a v l h)
    held_element m j a v l (inr h) = inr (h.0, h.1, h.2, element h.3 j l)

    lies_element : (m j : ℕ) (a : Ty) (v : Value) → j < m → LiesIn t few n K (Row m a) v → LiesIn t few n K a (further (At (element_shape t a) j) v)
    lies_element m j a (Number z) l h = tt
    lies_element m j a (Place o p) l h = held_element m j a (Place o p) l h
    lies_element m j a (Running x) l h = tt
    lies_element m j a (Object o) l h = held_element m j a (Object o) l h
    lies_element m j a Nothing l h = tt

    -- a place is known that lies in what is known
    pub known_place : (a : Ty) (v : Value) → IsPlaced t a → Is t a v → ((b : Ty) → IsFew t few n b v) → (IsTracked t a → LiesIn t few n K a v) → (IsSited a → IsSeated t few n K a v) → Known t few n K a v
    known_place Num v p i f h k = absurd p
    known_place (Cell a) v p i f h k = record { is = i; passes = f (Cell a); rooted = h; held = λ m. absurd m; seated = k }
    known_place (Obj c) v p i f h k = record { is = i; passes = f (Obj c); rooted = h; held = λ m. absurd (either_way (t.mutex c) m p); seated = λ i. absurd i }
    known_place (Raw c) v p i f h k = record { is = i; passes = f (Raw c) }
    known_place (Row m a) v p i f h k = record { is = i; passes = f (Row m a); rooted = h; held = λ m. absurd m; seated = k }
    known_place Clu v p i f h k = absurd p
    known_place Pro v p i f h k = absurd p

    -- an object of which a field is told lies in what is at hand
    object_lies : (b : Bool) (c i : ℕ) (v : Value) → t.mutex c ≡ b → IsField t c i → IsTold t (t.fields c i) → IsKnown t few n K (Obj c) v → LiesIn t few n K (Obj c) v
    object_lies true c i v m f k h = h.held m
    object_lies false c i v m f k h = h.rooted (λ u. untold t c u (t.fields c i) v (further (FieldAt (t.shape c) i) v) (field itself i f) k)

    pub further_placed : (c i : ℕ) (s : Shape) (v : Value) → s ≡ t.shape c → IsPlaced t (t.fields c i) → (IsTold t (t.fields c i) → IsField t c i) → Is t (Obj c) v → (IsTold t (t.fields c i) → LiesIn t few n K (Obj c) v) → Known t few n K (t.fields c i) (further (FieldAt s i) v)
    further_placed c i s v e w f h l = known_place (t.fields c i) (further (FieldAt s i) v) w (operands.further_field t c i s v e w h) (λ b. few_further b (FieldAt s i) v) (λ k. lies (inl k)) (λ k. inl (lies (inr k)))
      where
        lies : IsTold t (t.fields c i) → LiesIn t few n K (t.fields c i) (further (FieldAt s i) v)
        lies k = subst (λ s. LiesIn t few n K (t.fields c i) (further (FieldAt s i) v)) (sym e) (lies_field c i v (f k) (l k))

    pub further_field : (c i : ℕ) (s : Shape) (v : Value) → s ≡ t.shape c → IsPlaced t (t.fields c i) → (IsTold t (t.fields c i) → IsField t c i) → Known t few n K (Obj c) v → Known t few n K (t.fields c i) (further (FieldAt s i) v)
    further_field c i s v e w f h = further_placed c i s v e w f h.is (λ k. object_lies (t.mutex c) c i v refl (f k) k h)

    pub further_element : (m j : ℕ) (a : Ty) (s : Shape) (v : Value) → j < m → IsPlaced t a → (IsTracked t a → s ≡ element_shape t a) → Known t few n K (Row m a) v → Known t few n K a (further (At s j) v)
    further_element m j a s v l w f h =
        known_place a (further (At s j) v) w (operands.further_element t m j a s v l w h.is) (λ b. few_further b (At s j) v) (λ k. subst (λ s. LiesIn t few n K a (further (At s j) v)) (sym (f k)) (lies_element m j a v l (h.rooted (k, omega (arith, l))))) (λ k. ⊎_elim (kept k) (λ no. inr (stray_element t n m a s j v h.is no)) (kept_or_stray s))
      where
        kept : IsSited a → s ≡ Binding → IsSeated t few n K a (further (At s j) v)
        kept k e = ⊎_elim (λ lies. inl (subst (λ s. LiesIn t few n K a (further (At s j) v)) (sited_shape t a k ∙ sym e) (lies_element m j a v l lies))) (λ loose. inr (loose_element n s j v loose)) (h.seated (k, omega (arith, l)))

    -- what is whole may be taken for what is not
    raw_scalar : (a : Ty) → IsScalar (raw a) → raw a ≡ a
    raw_scalar Num i = refl
    raw_scalar (Cell a) i = absurd i
    raw_scalar (Obj c) i = absurd i
    raw_scalar (Raw c) i = absurd i
    raw_scalar (Row m a) i = absurd i
    raw_scalar Clu i = absurd i
    raw_scalar Pro i = absurd i

    raw_reference : (a : Ty) → IsReference (raw a) → raw a ≡ a
    raw_reference Num i = absurd i
    raw_reference (Cell a) i = ap Cell (raw_scalar a i)
    raw_reference (Obj c) i = absurd i
    raw_reference (Raw c) i = absurd i
    raw_reference (Row m a) i = absurd i
    raw_reference Clu i = absurd i
    raw_reference Pro i = absurd i

    raw_tracked : (a : Ty) → IsTracked t (raw a) → raw a ≡ a
    raw_tracked Num i = absurd i
    raw_tracked (Cell a) i = ap Cell (raw_reference a i)
    raw_tracked (Obj c) i = absurd i
    raw_tracked (Raw c) i = absurd i
    raw_tracked (Row m a) i = ap (Row m) (raw_tracked a i.0)
    raw_tracked Clu i = absurd i
    raw_tracked Pro i = absurd i

    raw_resource : (a : Ty) → IsResource (raw a) → raw a ≡ a
    raw_resource Num i = absurd i
    raw_resource (Cell a) i = absurd i
    raw_resource (Obj c) i = absurd i
    raw_resource (Raw c) i = absurd i
    raw_resource (Row m a) i = absurd i
    raw_resource Clu i = refl
    raw_resource Pro i = refl

    raw_sited : (a : Ty) → IsSited (raw a) → raw a ≡ a
    raw_sited Num i = absurd i
    raw_sited (Cell a) i = ap Cell (raw_resource a i)
    raw_sited (Obj c) i = absurd i
    raw_sited (Raw c) i = absurd i
    raw_sited (Row m a) i = ap (Row m) (raw_sited a i.0)
    raw_sited Clu i = absurd i
    raw_sited Pro i = absurd i

    raw_placed : (a : Ty) → IsPlaced t a → IsPlaced t (raw a)
    raw_placed Num p = absurd p
    raw_placed (Cell a) p = tt
    raw_placed (Obj c) p = p
    raw_placed (Raw c) p = p
    raw_placed (Row m a) p = tt
    raw_placed Clu p = absurd p
    raw_placed Pro p = absurd p

    pub known_raw : (a : Ty) (v : Value) → IsPlaced t a → ((b : Ty) → IsFew t few n b v) → Known t few n K a v → Known t few n K (raw a) v
    known_raw a v w f h =
        known_place (raw a) v (raw_placed a w) (operands.is_raw t a v (known_is a v h)) f (λ i. let e : raw a ≡ a = raw_tracked a i in subst (λ b. LiesIn t few n K b v) (sym e) (rooted a h (subst (IsTracked t) e i))) (λ i. let e : raw a ≡ a = raw_sited a i in subst (λ b. IsSeated t few n K b v) (sym e) (seated a h (subst IsSited e i)))
      where
        seated : (a : Ty) → Known t few n K a v → IsSited a → IsSeated t few n K a v
        seated Num h i = absurd i
        seated (Cell a) h i = h.seated i
        seated (Obj c) h i = absurd i
        seated (Raw c) h i = absurd i
        seated (Row m a) h i = h.seated i
        seated Clu h i = absurd i
        seated Pro h i = absurd i

        rooted : (a : Ty) → Known t few n K a v → IsTracked t a → LiesIn t few n K a v
        rooted Num h i = absurd i
        rooted (Cell a) h i = h.rooted i
        rooted (Obj c) h i = h.rooted i
        rooted (Raw c) h i = absurd i
        rooted (Row m a) h i = h.rooted i
        rooted Clu h i = absurd i
        rooted Pro h i = absurd i

    -- operands

    pub values_drop : (m : ℕ) (tys : List Ty) (vs : List Value) → KnownAll t few n K tys vs → KnownAll t few n K (drop m tys) (drop m vs)
    values_drop zero tys vs h = h
    values_drop (suc m) [] [] h = tt
    values_drop (suc m) [] (v ∷ vs) h = absurd h
    values_drop (suc m) (a ∷ more) [] h = absurd h
    values_drop (suc m) (a ∷ more) (v ∷ vs) h = values_drop m more vs h.1

    pub values_set : (m : ℕ) (tys : List Ty) (vs : List Value) (a : Ty) (v : Value) → KnownAll t few n K tys vs → Known t few n K a v → KnownAll t few n K (slice_set tys m a) (slice_set vs m v)
    values_set m [] [] a v h i = tt
    values_set m [] (w ∷ vs) a v h i = absurd h
    values_set m (b ∷ more) [] a v h i = absurd h
    values_set zero (b ∷ more) (w ∷ vs) a v h i = (i, h.1)
    values_set (suc m) (b ∷ more) (w ∷ vs) a v h i = (h.0, values_set m more vs a v h.1 i)

    pub newest : (a : Ty) (own : List Ty) (vs : List Value) → KnownAll t few n K (a ∷ own) vs → Known t few n K a (top vs)
    newest a own [] h = absurd h
    newest a own (v ∷ vs) h = h.0

    pub rest_of : (a : Ty) (own : List Ty) (vs : List Value) → KnownAll t few n K (a ∷ own) vs → KnownAll t few n K own (below vs)
    rest_of a own [] h = absurd h
    rest_of a own (v ∷ vs) h = h.1

    pub next : (a b : Ty) (own : List Ty) (vs : List Value) → KnownAll t few n K (a ∷ (b ∷ own)) vs → Known t few n K b (top (below vs))
    next a b own vs h = newest b own (below vs) (rest_of a (b ∷ own) vs h)

    pub rest_behind : (a b : Ty) (own : List Ty) (vs : List Value) → KnownAll t few n K (a ∷ (b ∷ own)) vs → KnownAll t few n K own (below (below vs))
    rest_behind a b own vs h = rest_of b own (below vs) (rest_of a (b ∷ own) vs h)

    -- a frame

    values_top : (a : Ty) (more : List Ty) (vs : List Value) → KnownAll t few n K (a ∷ more) vs → Known t few n K a (first_or Nothing vs)
    values_top a more [] h = absurd h
    values_top a more (v ∷ vs) h = h.0

    pub params_call : (ps more : List Ty) (vs ys : List Value) → KnownAll t few n K (onto ps more) vs → KnownParams t few n K ps (take_operands Nothing (length ps) vs ys)
    params_call [] more vs ys h = tt
    params_call (a ∷ rest) more vs ys h =
        let d : KnownAll t few n K (a ∷ more) (drop (length rest) vs) = subst (λ l. KnownAll t few n K l (drop (length rest) vs)) (drop_onto rest (a ∷ more)) (values_drop (length rest) (onto rest (a ∷ more)) vs h) in
        subst (KnownParams t few n K (a ∷ rest)) (sym (taken_more Nothing (length rest) vs ys)) (values_top a more (drop (length rest) vs) d, params_call rest (a ∷ more) vs ys h)

    pub held : (ps : List Ty) (vs : List Value) (k : ℕ) (a : Ty) → KnownParams t few n K ps vs → IsParam ps k a → Known t few n K a (slice_index_or vs k nought)
    held [] vs k a b h = absurd h
    held (p ∷ more) [] k a b h = absurd b
    held (p ∷ more) (v ∷ vs) zero a b h = subst (λ a. Known t few n K a v) (sym h) b.0
    held (p ∷ more) (v ∷ vs) (suc k) a b h = held more vs k a b.1 h

    params_stored : (ps : List Ty) (vs : List Value) (k : ℕ) (v : Value) → KnownParams t few n K ps vs → KnownParams t few n K ps (value_changed k (stored v) nought vs)
    params_stored [] vs k v h = tt
    params_stored (a ∷ more) [] k v h = absurd h
    params_stored (a ∷ more) (x ∷ vs) zero v h = (known_stored t few n K a v x h.0, h.1)
    params_stored (a ∷ more) (x ∷ vs) (suc k) v h = (h.0, params_stored more vs k v h.1)

    params_take : (ps : List Ty) (vs ws : List Value) (k : ℕ) → length ps ≤ k → KnownParams t few n K ps vs → KnownParams t few n K ps (take k vs ++ ws)
    params_take [] vs ws k l h = tt
    params_take (a ∷ more) [] ws k l h = absurd h
    params_take (a ∷ more) (x ∷ vs) ws zero l h = let f : ⊥ = omega arith in absurd f
    params_take (a ∷ more) (x ∷ vs) ws (suc k) l h = (h.0, params_take more vs ws k (omega arith) h.1)

    params_cleared : (ps : List Ty) (vs : List Value) (k m : ℕ) → length ps ≤ k → KnownParams t few n K ps vs → KnownParams t few n K ps (values_cleared k m nought vs)
    params_cleared ps vs k m l h = params_take ps vs _ k l h

  -- frames

  pub frames_length : (gs : List Sig) (fs : List (List Value)) (cs : List Active) → KnownFrames t few n gs fs cs → length fs ≡ length gs
  frames_length [] [] [] h = refl
  frames_length (g ∷ gs) (f ∷ fs) (c ∷ cs) h = ap suc (frames_length gs fs cs h.1)
  frames_length [] [] (c ∷ cs) h = absurd h
  frames_length [] (f ∷ fs) cs h = absurd h
  frames_length (g ∷ gs) [] cs h = absurd h
  frames_length (g ∷ gs) (f ∷ fs) [] h = absurd h

  frames_set : (d : ℕ) (g : Sig) (gs : List Sig) (f : List Value) (fs : List (List Value)) (c : Active) (cs : List Active) (change : List Value → List Value) (b : Bool) → KnownFrames t few n (g ∷ gs) (f ∷ fs) (c ∷ cs) → (b ≡ true → KnownParams t few n (AtHand t few n gs cs) g.params (change f)) → (b ≡ false → KnownFrames t few n gs (set_depth fs d (change (list_in (at_depth fs d)))) cs) → KnownFrames t few n (g ∷ gs) (if b then change (list_in (if b then Some f else at_depth fs d)) ∷ fs else f ∷ set_depth fs d (change (list_in (if b then Some f else at_depth fs d)))) (c ∷ cs)
  frames_set d g gs f fs c cs change true h k r = (k refl, h.1)
  frames_set d g gs f fs c cs change false h k r = (h.0, r refl)

  pub frames_stored : (d k : ℕ) (v : Value) (gs : List Sig) (fs : List (List Value)) (cs : List Active) → KnownFrames t few n gs fs cs → KnownFrames t few n gs (frame_changed d (value_changed k (stored v) nought) fs) cs
  frames_stored d k v [] [] [] h = tt
  frames_stored d k v (g ∷ gs) (f ∷ fs) (c ∷ cs) h =
      frames_set d g gs f fs c cs (value_changed k (stored v) nought) (nat_eq d (length fs)) h (λ e. params_stored (AtHand t few n gs cs) g.params f k v h.0) (λ e. frames_stored d k v gs fs cs h.1)
  frames_stored d k v [] [] (c ∷ cs) h = absurd h
  frames_stored d k v [] (f ∷ fs) cs h = absurd h
  frames_stored d k v (g ∷ gs) [] cs h = absurd h
  frames_stored d k v (g ∷ gs) (f ∷ fs) [] h = absurd h

  -- behind the parameters of a frame its cells start anew
  pub frames_cleared : (d k m : ℕ) (i : Sig) → length i.params ≤ k → (gs : List Sig) (fs : List (List Value)) (cs : List Active) → at_depth gs d ≡ Some i → KnownFrames t few n gs fs cs → KnownFrames t few n gs (frame_changed d (values_cleared k m nought) fs) cs
  frames_cleared d k m i l [] [] [] e h = tt
  frames_cleared d k m i l (g ∷ gs) (f ∷ fs) (c ∷ cs) e h =
      let q : nat_eq d (length gs) ≡ nat_eq d (length fs) = ap (nat_eq d) (sym (frames_length gs fs cs h.1)) in
      by (nat_eq d (length fs)) (subst (λ b. (if b then Some g else at_depth gs d) ≡ Some i) q e) (λ e. frames_cleared d k m i l gs fs cs e h.1)
    where
      by : (b : Bool) → (if b then Some g else at_depth gs d) ≡ Some i → (at_depth gs d ≡ Some i → KnownFrames t few n gs (set_depth fs d (values_cleared k m nought (list_in (at_depth fs d)))) cs) → KnownFrames t few n (g ∷ gs) (if b then values_cleared k m nought (list_in (if b then Some f else at_depth fs d)) ∷ fs else f ∷ set_depth fs d (values_cleared k m nought (list_in (if b then Some f else at_depth fs d)))) (c ∷ cs)
      by true e r = let s : g ≡ i = cc in (params_cleared (AtHand t few n gs cs) g.params f k m (subst (λ (i : Sig). length i.params ≤ k) (sym s) l) h.0, h.1)
      by false e r = (h.0, r e)
  frames_cleared d k m i l [] [] (c ∷ cs) e h = absurd h
  frames_cleared d k m i l [] (f ∷ fs) cs e h = absurd h
  frames_cleared d k m i l (g ∷ gs) [] cs e h = absurd h
  frames_cleared d k m i l (g ∷ gs) (f ∷ fs) [] e h = absurd h

  -- the parameters of the frame of a depth
  pub frames_at : (d : ℕ) (i : Sig) (gs : List Sig) (fs : List (List Value)) (cs : List Active) → KnownFrames t few n gs fs cs → at_depth gs d ≡ Some i → KnownParams t few n (AtHand t few n gs cs) i.params (list_in (at_depth fs d))
  frames_at d i [] [] [] h e = absurd (cc)
  frames_at d i (g ∷ gs) (f ∷ fs) (c ∷ cs) h e =
      let q : nat_eq d (length gs) ≡ nat_eq d (length fs) = ap (nat_eq d) (sym (frames_length gs fs cs h.1)) in
      by (nat_eq d (length fs)) (subst (λ b. (if b then Some g else at_depth gs d) ≡ Some i) q e) (λ e. frames_at d i gs fs cs h.1 e)
    where
      older : (j : Sig) (vs : List Value) → KnownParams t few n (AtHand t few n gs cs) j.params vs → KnownParams t few n (AtHand t few n (g ∷ gs) (c ∷ cs)) j.params vs
      older j vs p = params_more (AtHand t few n gs cs) (AtHand t few n (g ∷ gs) (c ∷ cs)) (older_hand (g ∷ gs) c cs) j.params vs p

      by : (b : Bool) → (if b then Some g else at_depth gs d) ≡ Some i → (at_depth gs d ≡ Some i → KnownParams t few n (AtHand t few n gs cs) i.params (list_in (at_depth fs d))) → KnownParams t few n (AtHand t few n (g ∷ gs) (c ∷ cs)) i.params (list_in (if b then Some f else at_depth fs d))
      by true e r = let s : g ≡ i = cc in older i f (subst (λ (j : Sig). KnownParams t few n (AtHand t few n gs cs) j.params f) s h.0)
      by false e r = older i (list_in (at_depth fs d)) (r e)
  frames_at d i [] [] (c ∷ cs) h e = absurd h
  frames_at d i [] (f ∷ fs) cs h e = absurd h
  frames_at d i (g ∷ gs) [] cs h e = absurd h
  frames_at d i (g ∷ gs) (f ∷ fs) [] h e = absurd h

-- Within one thing places that have one address are one place: what lies within it lies one behind the other.
use Rattle.std.proofs.Common.{◌≡◌, ℕ, zero, suc, ◌+◌, ◌*◌, ◌≤◌, ◌<◌, ◌⊎◌, inl, inr, ⊎_elim, true, List, [], ◌∷◌, length, refl, sym, ap, ◌∙◌, subst, arith}
use Rattle.std.specs.Prelude.{min}
use Rattle.std.proofs.Math.Nat.{min-eq_left, min-eq_right}
use Rattle.std.proofs.lemmas.Nat.{mul-le}
use Rattle.uc_tree.specs.Source.{shape_cells, field_cells}
use Rattle.uc_machine.specs.declared.exec.Owner.{Owner}
use Rattle.uc_machine.specs.declared.exec.Owner.TheVariants.{Fields}
use Rattle.uc_machine.specs.Pieces.{Link, FieldAt, At, Value, Number, Place, Running, Object, Nothing, LAST_ADDRESS, link_cells, address, further}
use Rattle.uc_typing.specs.Typing.{Ty, Num, Cell, Obj, Raw, Row, Clu, Pro, Table, element_shape}
use Rattle.uc_state_laws.specs.Layout.{Sized}
use Rattle.uc_life_laws.specs.Things.{Within, itself, field, element, IsField}
use Rattle.uc_life_laws.specs.LifeRuns.{span, IsFlat, IsLaidOut}
use Rattle.uc_cell_laws.specs.CellStates.{first_cell}
use Rattle.uc_cell_laws.specs.Places.{LawPlaces}
use Rattle.uc_cell_laws.proofs.Leading.{IsLed}

-- how many cells lie before a place, however many there are
abbrev pub offset : List Link → ℕ
offset [] = 0
offset (l ∷ p) = offset p + link_cells l

abbrev pub offset_of : Value → ℕ
offset_of (Number n) = 0
offset_of (Place o p) = offset p
offset_of (Running e) = 0
offset_of (Object o) = 0
offset_of Nothing = 0

order : (i j : ℕ) → (i ≡ j) ⊎ ((i < j) ⊎ (j < i))
order zero zero = inl refl
order zero (suc j) = inr (inl (omega arith))
order (suc i) zero = inr (inr (omega arith))
order (suc i) (suc j) = ⊎_elim (λ e. inl (ap suc e)) (λ x. inr (⊎_elim (λ l. inl (omega (arith, l))) (λ l. inr (omega (arith, l))) x)) (order i j)

-- an address below the last is no other number
capped : (n m : ℕ) → min n m < m → n < m
capped n m h = by (order n m)
  where
    by : (n ≡ m) ⊎ ((n < m) ⊎ (m < n)) → n < m
    by (inl e) = let q : min n m ≡ n = min-eq_left (omega (arith, e)) in omega (arith, h, q)
    by (inr (inl l)) = l
    by (inr (inr g)) = let q : min n m ≡ m = min-eq_right (omega (arith, g)) in omega (arith, h, q)

pub addressed : (p : List Link) → address p < LAST_ADDRESS → address p ≡ offset p
addressed [] h = refl
addressed (l ∷ p) h =
    let k : address p + link_cells l < LAST_ADDRESS = capped (address p + link_cells l) LAST_ADDRESS h in
    let ih : address p ≡ offset p = addressed p (omega (arith, k)) in
    let e : min (address p + link_cells l) LAST_ADDRESS ≡ address p + link_cells l = min-eq_left (omega (arith, k)) in
    omega (arith, e, ih)

-- and where less cells lie before a place, its address is no other number
pub has_address : (p : List Link) → offset p < LAST_ADDRESS → address p < LAST_ADDRESS
has_address [] h = h
has_address (l ∷ p) h =
    let n : offset p + link_cells l < LAST_ADDRESS = h in
    let k : address p < LAST_ADDRESS = has_address p (omega (arith, n)) in
    let ih : address p ≡ offset p = addressed p k in
    let e : min (address p + link_cells l) LAST_ADDRESS ≡ address p + link_cells l = min-eq_left (omega (arith, n, ih)) in
    omega (arith, e, ih, n)

-- a place, or a mutex object, in which fields are found from its first cell on
abbrev pub IsSpot : Value → Type 0
IsSpot (Number n) = ⊥
IsSpot (Place o p) = Unit {0}
IsSpot (Running e) = ⊥
IsSpot (Object o) = Unit {0}
IsSpot Nothing = ⊥

spot_further : (l : Link) (v : Value) → IsSpot v → IsSpot (further l v)
spot_further l (Number n) h = absurd h
spot_further l (Place o p) h = tt
spot_further l (Running e) h = absurd h
spot_further l (Object o) h = tt
spot_further l Nothing h = absurd h

spot_before : (l : Link) (v : Value) → IsSpot (further l v) → IsSpot v
spot_before l (Number n) h = absurd h
spot_before l (Place o p) h = tt
spot_before l (Running e) h = absurd h
spot_before l (Object o) h = tt
spot_before l Nothing h = absurd h

offset_further : (l : Link) (v : Value) → IsSpot v → offset_of (further l v) ≡ offset_of v + link_cells l
offset_further l (Number n) h = absurd h
offset_further l (Place o p) h = refl
offset_further l (Running e) h = absurd h
offset_further l (Object o) h = refl
offset_further l Nothing h = absurd h

-- how many steps of a path lead to a place
abbrev depth : Value → ℕ
depth (Number n) = 0
depth (Place o p) = length p
depth (Running e) = 0
depth (Object o) = 0
depth Nothing = 0

depth_further : (l : Link) (v : Value) → IsSpot v → depth (further l v) ≡ suc (depth v)
depth_further l (Number n) h = absurd h
depth_further l (Place o p) h = refl
depth_further l (Running e) h = absurd h
depth_further l (Object o) h = refl
depth_further l Nothing h = absurd h

module _ (t : Table) where
  pub spots : {w : Value} {a : Ty} {v : Value} {b : Ty} → Within t w a v b → IsSpot w → IsSpot v
  spots itself s = s
  spots (field {v} {c} h i f) s = spot_further (FieldAt (t.shape c) i) v (spots h s)
  spots (element {v} {m} {b} h j lt) s = spot_further (At (element_shape t b) j) v (spots h s)

  pub spot_root : {w : Value} {a : Ty} {v : Value} {b : Ty} → Within t w a v b → IsSpot v → IsSpot w
  spot_root itself s = s
  spot_root (field {v} {c} h i f) s = spot_root h (spot_before (FieldAt (t.shape c) i) v s)
  spot_root (element {v} {m} {b} h j lt) s = spot_root h (spot_before (At (element_shape t b) j) v s)

  -- one type each

  deeper : {w : Value} {a : Ty} {v : Value} {b : Ty} → Within t w a v b → IsSpot w → depth w ≤ depth v
  deeper itself s = omega arith
  deeper (field {v} {c} h i f) s =
      let ih = deeper h s in
      let e = depth_further (FieldAt (t.shape c) i) v (spots h s) in
      omega (arith, ih, e)
  deeper (element {v} {m} {b} h j lt) s =
      let ih = deeper h s in
      let e = depth_further (At (element_shape t b) j) v (spots h s) in
      omega (arith, ih, e)

  root_at : {w : Value} {a : Ty} {v : Value} {b : Ty} → Within t w a v b → IsSpot w → depth v ≤ depth w → v ≡ w
  root_at itself s l = refl
  root_at (field {v} {c} h i f) s l =
      let d = deeper h s in
      let e = depth_further (FieldAt (t.shape c) i) v (spots h s) in
      absurd (omega (arith, d, e, l))
  root_at (element {v} {m} {b} h j lt) s l =
      let d = deeper h s in
      let e = depth_further (At (element_shape t b) j) v (spots h s) in
      absurd (omega (arith, d, e, l))

  -- the last step of a path, and what lies before it
  pub last_links : (k l : Link) (v u : Value) → IsSpot v → IsSpot u → further k v ≡ further l u → k ≡ l
  last_links k l (Place o p) (Place q r) s z e = cc
  last_links k l (Place o p) (Object q) s z e = cc
  last_links k l (Object o) (Place q r) s z e = cc
  last_links k l (Object o) (Object q) s z e = cc
  last_links k l (Number n) u s z e = absurd s
  last_links k l (Running n) u s z e = absurd s
  last_links k l Nothing u s z e = absurd s
  last_links k l v (Number n) s z e = absurd z
  last_links k l v (Running n) s z e = absurd z
  last_links k l v Nothing s z e = absurd z

  shallow : (k l : Link) (o : Owner) (p : List Link) (q : ℕ) → Place o (k ∷ p) ≡ Place (Fields q) (l ∷ []) → length p ≡ 0
  shallow k l o p q e = let f : p ≡ [] = cc in ap length f

  pub before_last : {w : Value} {a : Ty} {v : Value} {b : Ty} {u : Value} {c : Ty} → Within t w a v b → Within t w a u c → IsSpot w → (k l : Link) → further k v ≡ further l u → v ≡ u
  before_last {w} {a} {v} {b} {u} {c} h g s k l e = by v u refl refl (spots h s) (spots g s) e
    where
      root : depth v ≡ 0 → depth u ≡ 0 → v ≡ u
      root x y = let d = deeper h s in let f = deeper g s in root_at h s (omega (arith, d, x)) ∙ sym (root_at g s (omega (arith, f, y, d, x)))

      by : (x y : Value) → v ≡ x → u ≡ y → IsSpot x → IsSpot y → further k v ≡ further l u → v ≡ u
      by (Place o p) (Place q r) i j m n e =
          let f : further k (Place o p) ≡ further l (Place q r) = sym (ap (further k) i) ∙ (e ∙ ap (further l) j) in
          let g : Place o p ≡ Place q r = cc in
          i ∙ (g ∙ sym j)
      by (Place o p) (Object q) i j m n e =
          let f : further k (Place o p) ≡ further l (Object q) = sym (ap (further k) i) ∙ (e ∙ ap (further l) j) in
          root (ap depth i ∙ shallow k l o p q f) (ap depth j)
      by (Object o) (Place q r) i j m n e =
          let f : further l (Place q r) ≡ further k (Object o) = sym (ap (further l) j) ∙ (sym e ∙ ap (further k) i) in
          root (ap depth i) (ap depth j ∙ shallow l k q r o f)
      by (Object o) (Object q) i j m n e = root (ap depth i) (ap depth j)
      by (Number n) y i j m z e = absurd m
      by (Running n) y i j m z e = absurd m
      by Nothing y i j m z e = absurd m
      by x (Number n) i j m z e = absurd z
      by x (Running n) i j m z e = absurd z
      by x Nothing i j m z e = absurd z

  pub not_root : {w : Value} {a : Ty} {v : Value} {b : Ty} → Within t w a v b → IsSpot w → (l : Link) → further l v ≡ w → ⊥
  not_root {w} {a} {v} {b} h s l e =
      let d = deeper h s in
      let f = depth_further l v (spots h s) in
      let g : depth (further l v) ≡ depth w = ap depth e in
      omega (arith, d, f, g)

  pub one_type : {w : Value} {a : Ty} {v : Value} {b : Ty} {u : Value} {c : Ty} → Within t w a v b → Within t w a u c → IsSpot w → v ≡ u → b ≡ c
  one_type itself itself s e = refl
  one_type itself (field {v = u} {c = d} g j f) s e = absurd (not_root g s (FieldAt (t.shape d) j) (sym e))
  one_type itself (element {v = u} {m = n} {b = c} g j f) s e = absurd (not_root g s (At (element_shape t c) j) (sym e))
  one_type (field {v} {c = d} h i f) itself s e = absurd (not_root h s (FieldAt (t.shape d) i) e)
  one_type (element {v} {m} {b} h i f) itself s e = absurd (not_root h s (At (element_shape t b) i) e)
  one_type (field {v} {c = d} h i f) (field {v = u} {c = q} g j k) s e =
      let x : FieldAt (t.shape d) i ≡ FieldAt (t.shape q) j = last_links (FieldAt (t.shape d) i) (FieldAt (t.shape q) j) v u (spots h s) (spots g s) e in
      let y : i ≡ j = cc in
      let z : Obj d ≡ Obj q = one_type h g s (before_last h g s (FieldAt (t.shape d) i) (FieldAt (t.shape q) j) e) in
      let r : d ≡ q = cc in
      ap (λ n. t.fields n i) r ∙ ap (t.fields q) y
  one_type (field {v} {c = d} h i f) (element {v = u} {m = n} {b = c} g j k) s e =
      let x : FieldAt (t.shape d) i ≡ At (element_shape t c) j = last_links (FieldAt (t.shape d) i) (At (element_shape t c) j) v u (spots h s) (spots g s) e in
      absurd (cc)
  one_type (element {v} {m} {b} h i f) (field {v = u} {c = q} g j k) s e =
      let x : At (element_shape t b) i ≡ FieldAt (t.shape q) j = last_links (At (element_shape t b) i) (FieldAt (t.shape q) j) v u (spots h s) (spots g s) e in
      absurd (cc)
  one_type (element {v} {m} {b} h i f) (element {v = u} {m = n} {b = c} g j k) s e =
      let z : Row m b ≡ Row n c = one_type h g s (before_last h g s (At (element_shape t b) i) (At (element_shape t c) j) e) in
      cc

  -- the first step of a path

  first_field : {w : Value} {c : ℕ} {v : Value} {b : Ty} → Within t w (Obj c) v b → ((v ≡ w) × (b ≡ Obj c)) ⊎ ((i : ℕ) × IsField t c i × Within t (further (FieldAt (t.shape c) i) w) (t.fields c i) v b)
  first_field itself = inl (refl, refl)
  first_field {w} {c} (field {v} {c = d} h i f) = by (first_field h)
    where
      by : ((v ≡ w) × (Obj d ≡ Obj c)) ⊎ ((j : ℕ) × IsField t c j × Within t (further (FieldAt (t.shape c) j) w) (t.fields c j) v (Obj d)) → ((further (FieldAt (t.shape d) i) v ≡ w) × (t.fields d i ≡ Obj c)) ⊎ ((j : ℕ) × IsField t c j × Within t (further (FieldAt (t.shape c) j) w) (t.fields c j) (further (FieldAt (t.shape d) i) v) (t.fields d i))
      by (inl e) =
          let q : d ≡ c = let x = e.1 in cc in
          inr (i, subst (λ n. IsField t n i) q f, subst (λ n. Within t (further (FieldAt (t.shape n) i) w) (t.fields n i) (further (FieldAt (t.shape d) i) v) (t.fields d i)) q (subst (λ u. Within t (further (FieldAt (t.shape d) i) u) (t.fields d i) (further (FieldAt (t.shape d) i) v) (t.fields d i)) e.0 itself))
      by (inr x) = inr (x.0, x.1, field x.2 i f)
  first_field {w} {c} (element {v} {m} {b = e} h j lt) = by (first_field h)
    where
      by : ((v ≡ w) × (Row m e ≡ Obj c)) ⊎ ((i : ℕ) × IsField t c i × Within t (further (FieldAt (t.shape c) i) w) (t.fields c i) v (Row m e)) → ((further (At (element_shape t e) j) v ≡ w) × (e ≡ Obj c)) ⊎ ((i : ℕ) × IsField t c i × Within t (further (FieldAt (t.shape c) i) w) (t.fields c i) (further (At (element_shape t e) j) v) e)
      by (inl x) = let y = x.1 in absurd (cc)
      by (inr x) = inr (x.0, x.1, element x.2 j lt)

  first_element : {w : Value} {n : ℕ} {a : Ty} {v : Value} {b : Ty} → Within t w (Row n a) v b → ((v ≡ w) × (b ≡ Row n a)) ⊎ ((i : ℕ) × (i < n) × Within t (further (At (element_shape t a) i) w) a v b)
  first_element itself = inl (refl, refl)
  first_element {w} {n} {a} (field {v} {c = d} h i f) = by (first_element h)
    where
      by : ((v ≡ w) × (Obj d ≡ Row n a)) ⊎ ((j : ℕ) × (j < n) × Within t (further (At (element_shape t a) j) w) a v (Obj d)) → ((further (FieldAt (t.shape d) i) v ≡ w) × (t.fields d i ≡ Row n a)) ⊎ ((j : ℕ) × (j < n) × Within t (further (At (element_shape t a) j) w) a (further (FieldAt (t.shape d) i) v) (t.fields d i))
      by (inl x) = let y = x.1 in absurd (cc)
      by (inr x) = inr (x.0, x.1, field x.2 i f)
  first_element {w} {n} {a} (element {v} {m} {b = e} h j lt) = by (first_element h)
    where
      by : ((v ≡ w) × (Row m e ≡ Row n a)) ⊎ ((i : ℕ) × (i < n) × Within t (further (At (element_shape t a) i) w) a v (Row m e)) → ((further (At (element_shape t e) j) v ≡ w) × (e ≡ Row n a)) ⊎ ((i : ℕ) × (i < n) × Within t (further (At (element_shape t a) i) w) a (further (At (element_shape t e) j) v) e)
      by (inl x) =
          let q : m ≡ n = let y = x.1 in cc in
          let r : e ≡ a = let y = x.1 in cc in
          inr (j, subst (λ k. j < k) q lt, subst (λ b. Within t (further (At (element_shape t b) j) w) b (further (At (element_shape t e) j) v) e) r (subst (λ u. Within t (further (At (element_shape t e) j) u) e (further (At (element_shape t e) j) v) e) x.0 itself))
      by (inr x) = inr (x.0, x.1, element x.2 j lt)

  -- nothing but itself lies within a binding
  only_cell : {w : Value} {a : Ty} {v : Value} {b : Ty} → Within t w (Cell a) v b → (v ≡ w) × (b ≡ Cell a)
  only_cell itself = (refl, refl)
  only_cell (field {v} {c = d} h i f) = let y = (only_cell h).1 in absurd (cc)
  only_cell (element {v} {m} {b = e} h j lt) = let y = (only_cell h).1 in absurd (cc)

  module _ (Z : ℕ → ℕ → Type 0) (l : IsLaidOut Z t) where
    element_span : (m : ℕ) (a : Ty) → IsFlat (Row m a) → span t a ≤ shape_cells (element_shape t a)
    element_span m Num f = omega arith
    element_span m (Cell a) f = omega arith
    element_span m (Obj c) f = omega arith
    element_span m (Raw c) f = omega arith
    element_span m (Row k a) f = absurd f
    element_span m Clu f = omega arith
    element_span m Pro f = omega arith

    element_flat : (m : ℕ) (a : Ty) → IsFlat (Row m a) → IsFlat a
    element_flat m Num f = tt
    element_flat m (Cell a) f = tt
    element_flat m (Obj c) f = tt
    element_flat m (Raw c) f = tt
    element_flat m (Row k a) f = absurd f
    element_flat m Clu f = tt
    element_flat m Pro f = tt

    pub flat : {w : Value} {a : Ty} {v : Value} {b : Ty} → IsFlat a → Within t w a v b → IsFlat b
    flat f itself = f
    flat f (field {v} {c} h i g) = l.flat c i g
    flat f (element {v} {m} {b} h j lt) = element_flat m b (flat f h)

    -- what lies within a thing lies between its first cell and its last
    pub record Bounds (w : Value) (a : Ty) (v : Value) (b : Ty) : Type 0 where
      pub low : offset_of w ≤ offset_of v
      pub high : offset_of v + span t b ≤ offset_of w + span t a

    pub bounds : {w : Value} {a : Ty} {v : Value} {b : Ty} → IsFlat a → IsSpot w → Within t w a v b → Bounds w a v b
    bounds f s itself = record { low = omega arith; high = omega arith }
    bounds f s (field {v} {c} h i g) =
        let ih = bounds f s h in
        let low = ih.low in
        let high = ih.high in
        let e = offset_further (FieldAt (t.shape c) i) v (spots h s) in
        let fits = l.fields c i g in
        record { low = omega (arith, low, e); high = omega (arith, high, e, fits) }
    bounds f s (element {v} {m} {b} h j lt) =
        let ih = bounds f s h in
        let low = ih.low in
        let high = ih.high in
        let n = shape_cells (element_shape t b) in
        let e : offset_of (further (At (element_shape t b) j) v) ≡ offset_of v + j * n = offset_further (At (element_shape t b) j) v (spots h s) in
        let z = element_span m b (flat f h) in
        let more : suc j * n ≤ m * n = mul-le (suc j) n m n (omega (arith, lt)) (omega arith) in
        record { low = omega (arith, low, e); high = omega (arith, high, e, z, more) }

    -- two things within one: one of them lies within the other, or they lie apart
    abbrev Apart : Value → Ty → Value → Ty → Type 0
    Apart v b u c = (offset_of v + span t b ≤ offset_of u) ⊎ (offset_of u + span t c ≤ offset_of v)

    abbrev Compared : Value → Ty → Value → Ty → Type 0
    Compared v b u c = Within t u c v b ⊎ (Within t v b u c ⊎ Apart v b u c)

    -- what lies in one of them does too
    inner_apart : (v' v u : Value) (a b c : Ty) → Bounds v' a v b → Apart v' a u c → Apart v b u c
    inner_apart v' v u a b c k (inl h) = let high = k.high in inl (omega (arith, h, high))
    inner_apart v' v u a b c k (inr h) = let low = k.low in inr (omega (arith, h, low))

    compare : {w : Value} {a : Ty} {v : Value} {b : Ty} {u : Value} {c : Ty} → IsFlat a → IsSpot w → Within t w a v b → Within t w a u c → Compared v b u c
    compare f s itself g = inr (inl g)
    compare {u} {c} f s (field {v} {c = d} h i fi) g = by (compare f s h g)
      where
        here : Within t v (Obj d) (further (FieldAt (t.shape d) i) v) (t.fields d i)
        here = field itself i fi

        z : IsSpot v
        z = spots h s

        next : (j : ℕ) → IsField t d j → Within t (further (FieldAt (t.shape d) j) v) (t.fields d j) u c → (i ≡ j) ⊎ ((i < j) ⊎ (j < i)) → Compared (further (FieldAt (t.shape d) i) v) (t.fields d i) u c
        next j fj x (inl e) = inr (inl (subst (λ n. Within t (further (FieldAt (t.shape d) n) v) (t.fields d n) u c) (sym e) x))
        next j fj x (inr (inl lt)) =
            let k = bounds (l.flat d j fj) (spot_further (FieldAt (t.shape d) j) v z) x in
            let low = k.low in
            let e = offset_further (FieldAt (t.shape d) i) v z in
            let q = offset_further (FieldAt (t.shape d) j) v z in
            let r = l.apart d i j fi lt in
            inr (inr (inl (omega (arith, low, e, q, r))))
        next j fj x (inr (inr gt)) =
            let k = bounds (l.flat d j fj) (spot_further (FieldAt (t.shape d) j) v z) x in
            let high = k.high in
            let e = offset_further (FieldAt (t.shape d) i) v z in
            let q = offset_further (FieldAt (t.shape d) j) v z in
            let r = l.apart d j i fj gt in
            inr (inr (inr (omega (arith, high, e, q, r))))

        inside : ((u ≡ v) × (c ≡ Obj d)) ⊎ ((j : ℕ) × IsField t d j × Within t (further (FieldAt (t.shape d) j) v) (t.fields d j) u c) → Compared (further (FieldAt (t.shape d) i) v) (t.fields d i) u c
        inside (inl e) = inl (subst (λ y. Within t y c (further (FieldAt (t.shape d) i) v) (t.fields d i)) (sym e.0) (subst (λ y. Within t v y (further (FieldAt (t.shape d) i) v) (t.fields d i)) (sym e.1) here))
        inside (inr x) = next x.0 x.1 x.2 (order i x.0)

        by : Compared v (Obj d) u c → Compared (further (FieldAt (t.shape d) i) v) (t.fields d i) u c
        by (inl x) = inl (field x i fi)
        by (inr (inl x)) = inside (first_field x)
        by (inr (inr x)) = inr (inr (inner_apart v (further (FieldAt (t.shape d) i) v) u (Obj d) (t.fields d i) c (bounds tt z here) x))
    compare {u} {c} f s (element {v} {m} {b} h i lt) g = by (compare f s h g)
      where
        here : Within t v (Row m b) (further (At (element_shape t b) i) v) b
        here = element itself i lt

        z : IsSpot v
        z = spots h s

        n : ℕ
        n = shape_cells (element_shape t b)

        next : (j : ℕ) → j < m → Within t (further (At (element_shape t b) j) v) b u c → (i ≡ j) ⊎ ((i < j) ⊎ (j < i)) → Compared (further (At (element_shape t b) i) v) b u c
        next j lj x (inl e) = inr (inl (subst (λ k. Within t (further (At (element_shape t b) k) v) b u c) (sym e) x))
        next j lj x (inr (inl less)) =
            let k = bounds (element_flat m b (flat f h)) (spot_further (At (element_shape t b) j) v z) x in
            let low = k.low in
            let e : offset_of (further (At (element_shape t b) i) v) ≡ offset_of v + i * n = offset_further (At (element_shape t b) i) v z in
            let q : offset_of (further (At (element_shape t b) j) v) ≡ offset_of v + j * n = offset_further (At (element_shape t b) j) v z in
            let own = element_span m b (flat f h) in
            let r : suc i * n ≤ j * n = mul-le (suc i) n j n (omega (arith, less)) (omega arith) in
            inr (inr (inl (omega (arith, low, e, q, own, r))))
        next j lj x (inr (inr more)) =
            let k = bounds (element_flat m b (flat f h)) (spot_further (At (element_shape t b) j) v z) x in
            let high = k.high in
            let e : offset_of (further (At (element_shape t b) i) v) ≡ offset_of v + i * n = offset_further (At (element_shape t b) i) v z in
            let q : offset_of (further (At (element_shape t b) j) v) ≡ offset_of v + j * n = offset_further (At (element_shape t b) j) v z in
            let own = element_span m b (flat f h) in
            let r : suc j * n ≤ i * n = mul-le (suc j) n i n (omega (arith, more)) (omega arith) in
            inr (inr (inr (omega (arith, high, e, q, own, r))))

        inside : ((u ≡ v) × (c ≡ Row m b)) ⊎ ((j : ℕ) × (j < m) × Within t (further (At (element_shape t b) j) v) b u c) → Compared (further (At (element_shape t b) i) v) b u c
        inside (inl e) = inl (subst (λ y. Within t y c (further (At (element_shape t b) i) v) b) (sym e.0) (subst (λ y. Within t v y (further (At (element_shape t b) i) v) b) (sym e.1) here))
        inside (inr x) = next x.0 x.1 x.2 (order i x.0)

        by : Compared v (Row m b) u c → Compared (further (At (element_shape t b) i) v) b u c
        by (inl x) = inl (element x i lt)
        by (inr (inl x)) = inside (first_element x)
        by (inr (inr x)) = inr (inr (inner_apart v (further (At (element_shape t b) i) v) u (Row m b) b c (bounds (flat f h) z here) x))

    -- bindings that lie behind as many cells are one
    one_place : {w : Value} {a : Ty} {v : Value} {b : Ty} {u : Value} {c : Ty} → IsFlat a → IsSpot w → Within t w a v (Cell b) → Within t w a u (Cell c) → offset_of v ≡ offset_of u → v ≡ u
    one_place {w} {a} {v} {b} {u} {c} f s h g e = by (compare f s h g)
      where
        by : Compared v (Cell b) u (Cell c) → v ≡ u
        by (inl x) = (only_cell x).0
        by (inr (inl x)) = sym (only_cell x).0
        by (inr (inr (inl x))) = let y : offset_of v + 1 ≤ offset_of u = x in absurd (omega (arith, y, e))
        by (inr (inr (inr x))) = let y : offset_of u + 1 ≤ offset_of v = x in absurd (omega (arith, y, e))

    -- and the cell of a binding is not the first one of an object that has one before its fields
    pub not_first : {w : Value} {a : Ty} {v : Value} {c : ℕ} {u : Value} {b : Ty} → IsFlat a → IsSpot w → t.executes c ≡ true → IsLed t c → Within t w a v (Obj c) → Within t w a u (Cell b) → offset_of v ≡ offset_of u → ⊥
    not_first {w} {a} {v} {c} {u} {b} f s x led h g e = by (compare f s h g)
      where
        inside : ((u ≡ v) × (Cell b ≡ Obj c)) ⊎ ((i : ℕ) × IsField t c i × Within t (further (FieldAt (t.shape c) i) v) (t.fields c i) u (Cell b)) → ⊥
        inside (inl y) = let z = y.1 in absurd (cc)
        inside (inr y) =
            let z = spots h s in
            let k = bounds (l.flat c y.0 y.1) (spot_further (FieldAt (t.shape c) y.0) v z) y.2 in
            let low = k.low in
            let q : offset_of (further (FieldAt (t.shape c) y.0) v) ≡ offset_of v + field_cells (t.shape c) y.0 = offset_further (FieldAt (t.shape c) y.0) v z in
            let behind = led.fields y.0 (y.1 x) in
            absurd (omega (arith, low, q, behind, e))

        by : Compared v (Obj c) u (Cell b) → ⊥
        by (inl y) = let z = (only_cell y).1 in absurd (cc)
        by (inr (inl y)) = inside (first_field y)
        by (inr (inr (inl y))) = let z : offset_of v + shape_cells (t.shape c) ≤ offset_of u = y in let one = led.cells in absurd (omega (arith, z, one, e))
        by (inr (inr (inr y))) = let z : offset_of u + 1 ≤ offset_of v = y in absurd (omega (arith, z, e))

path_of : (o : Owner) (x y : List Link) → Place o x ≡ Place o y → x ≡ y
path_of o x y e = cc

cell_of : (b c : Ty) → Cell b ≡ Cell c → b ≡ c
cell_of b c e = cc

pub places : (Z : ℕ → ℕ → Type 0) (t : Table) → IsLaidOut Z t → (w : Value) (a : Ty) → IsFlat a → (o : Owner) (x y : List Link) (b c : Ty) → Within t w a (Place o x) (Cell b) → Within t w a (Place o y) (Cell c) → address x < LAST_ADDRESS → address x ≡ address y → (x ≡ y) × (b ≡ c)
places Z t l w a f o x y b c h g lt e =
    let s : IsSpot w = spot_root t h tt in
    let i : address x ≡ offset x = addressed x lt in
    let j : address y ≡ offset y = addressed y (omega (arith, lt, e)) in
    let k : Place o x ≡ Place o y = one_place t Z l f s h g (sym i ∙ (e ∙ j)) in
    (path_of o x y k, cell_of b c (one_type t h g s k))

-- the cell of a thing, where it is below the last
pub first_addressed : (v : Value) → first_cell v < LAST_ADDRESS → first_cell v ≡ offset_of v
first_addressed (Number z) h = refl
first_addressed (Place o p) h = addressed p h
first_addressed (Running x) h = refl
first_addressed (Object o) h = refl
first_addressed Nothing h = refl

pub first_has : (v : Value) → offset_of v < LAST_ADDRESS → first_cell v < LAST_ADDRESS
first_has (Number z) h = h
first_has (Place o p) h = has_address p h
first_has (Running x) h = h
first_has (Object o) h = h
first_has Nothing h = h

-- so no binding within one thing has the address of the first cell of such an object
pub first_apart : (Z : ℕ → ℕ → Type 0) (t : Table) → IsLaidOut Z t → (w : Value) (a : Ty) → IsFlat a → (v : Value) (c : ℕ) (o : Owner) (x : List Link) (b : Ty) → t.executes c ≡ true → IsLed t c → Within t w a v (Obj c) → Within t w a (Place o x) (Cell b) → first_cell v < LAST_ADDRESS → first_cell v ≡ address x → ⊥
first_apart Z t l w a f v c o x b ex led h g lt e =
    let i = first_addressed v lt in
    let j : address x ≡ offset x = addressed x (omega (arith, lt, e)) in
    not_first t Z l f (spot_root t g tt) ex led h g (sym i ∙ (e ∙ j))

pub law_places : LawPlaces
law_places = record {
  places = λ p t l w a f o x y b c h g lt e. places (Sized p) t l w a f o x y b c h g lt e;
  types = λ t w a o x b c h g. one_type t h g (spot_root t h tt) refl;
}

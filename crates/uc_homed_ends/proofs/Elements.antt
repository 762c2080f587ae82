-- Where nothing is told of fields, what lies in a thing is that itself, or an element of an array.
use Rattle.std.proofs.Common.{◌≡◌, ℕ, ◌<◌, inl, inr, ◌⊎◌, true, List, [], ◌∷◌, refl, sym, ap, ◌∙◌, subst}
use Rattle.std.specs.Prelude.{slice_index_or}
use Rattle.uc_tree.specs.Source as src
use Rattle.uc_tree.specs.Source.{Binding, CleanUp}
use Rattle.uc_machine.specs.declared.exec.Exec.{Exec}
use Rattle.uc_machine.specs.declared.exec.Owner.{Owner}
use Rattle.uc_machine.specs.Pieces as piece
use Rattle.uc_machine.specs.Pieces.{Link, Slot, At, Value, Place, Todo, State, further, address, nought, this_frame, variable_at}
use Rattle.uc_typing.specs.Typing.{Ty, Num, Cell, Obj, Raw, Row, Clu, Pro, Table, element_shape, CleansAt}
use Rattle.uc_life_laws.specs.Things.{Few, IsMutex}
use Rattle.uc_life_laws.specs.LifeStates.{frame_at}
use Rattle.uc_life_laws.specs.HomedStates.{Inside, all_of_it, own_field, own_element, IsAtHome, HoldsHome}
use Rattle.uc_putting_laws.specs.Putting.{IsHome}
use Rattle.uc_homed_ends.specs.BoundLaws.{IsWhole, OpensWholeAt, OpensWhole}
use Rattle.uc_homed_ends.specs.Elements.{no_fields, OpensElementsAt, OpensElements}

-- a type is that of no array
abbrev IsOne : Ty → Type 0
IsOne a = (n : ℕ) (x : Ty) → Row n x ≡ a → ⊥

same_many : (m n : ℕ) (x y : Ty) → Row m x ≡ Row n y → m ≡ n
same_many m n x y e = cc

same_type : (m n : ℕ) (x y : Ty) → Row m x ≡ Row n y → x ≡ y
same_type m n x y e = cc

same_binding : (x y : Ty) → Cell x ≡ Cell y → x ≡ y
same_binding x y e = cc

same_path : (o : Owner) (p q : List Link) → Place o p ≡ Place o q → p ≡ q
same_path o p q e = cc

module _ (t : Table) where
  -- what is no array is all of it
  inside_one : {w : Value} {a : Ty} {v : Value} {b : Ty} → IsOne a → Inside t no_fields w a v b → b ≡ a
  inside_one plain all_of_it = refl
  inside_one plain (own_field h i f o) = absurd (cc)
  inside_one plain (own_element {v = u} {m = n} {b = x} h j l) = absurd (plain n x (inside_one plain h))

  -- of an array of what is none there are elements
  abbrev IsElement : Value → ℕ → Ty → Value → Ty → Type 0
  IsElement w m d v b = (j : ℕ) × (j < m) × (v ≡ further (At (element_shape t d) j) w) × (b ≡ d)

  in_row : (w : Value) (m : ℕ) (d : Ty) → IsOne d → (u : Value) (n : ℕ) (x : Ty) (j : ℕ) → j < n → ((u ≡ w) × (Row n x ≡ Row m d)) ⊎ IsElement w m d u (Row n x) → IsElement w m d (further (At (element_shape t x) j) u) x
  in_row w m d plain u n x j l (inl q) =
      let many : n ≡ m = same_many n m x d q.1 in
      let one : x ≡ d = same_type n m x d q.1 in
      (j, subst (λ k. j < k) many l, ap (λ y. further (At (element_shape t y) j) u) one ∙ ap (λ y. further (At (element_shape t d) j) y) q.0, one)
  in_row w m d plain u n x j l (inr q) = absurd (plain n x q.3)

  inside_row : {w : Value} {m : ℕ} {d : Ty} {v : Value} {b : Ty} → IsOne d → Inside t no_fields w (Row m d) v b → ((v ≡ w) × (b ≡ Row m d)) ⊎ IsElement w m d v b
  inside_row plain all_of_it = inl (refl, refl)
  inside_row plain (own_field h i f o) = absurd (cc)
  inside_row {w} {m} {d} {v} {b} plain (own_element {v = u} {m = n} {b = x} h j l) = inr (in_row w m d plain u n x j l (inside_row plain h))

  -- nothing cleans up arrays of arrays
  no_rows : (m n : ℕ) (x : Ty) (k : ℕ) (c : CleanUp) → CleansAt t (Row m (Row n x)) (src.Variable k) c → ⊥
  no_rows m n x k (src.DestroysAll l e) h = h.1
  no_rows m n x k c h = h

  module _ (few : Few) (n : Exec) (o : Owner) (vs : List Value) (k : ℕ) where
    abbrev Homed : Ty → Type 0
    Homed a = HoldsHome t no_fields few n o vs (Place o (Slot k ∷ [])) a

    -- in what is no binding and no array nothing is bound
    one_homed : (a : Ty) → IsOne a → ((b : Ty) → Cell b ≡ a → ⊥) → Homed a
    one_homed a plain f p b i m = absurd (f b (inside_one plain i))

    -- nor is a mutex object in an array of what is none
    row_homed : (m : ℕ) (d : Ty) → IsOne d → ((b : Ty) → Cell b ≡ d → IsMutex t b → ⊥) → Homed (Row m d)
    row_homed m d plain f p b i x = by (inside_row plain i)
      where
        by : ((Place o p ≡ Place o (Slot k ∷ [])) × (Cell b ≡ Row m d)) ⊎ IsElement (Place o (Slot k ∷ [])) m d (Place o p) (Cell b) → IsAtHome t no_fields few n (slice_index_or vs (address p) nought) (Place o p)
        by (inl q) = let y : Cell b ≡ Row m d = q.1 in absurd (cc)
        by (inr q) = absurd (f b q.3 x)

    no_mutexes : (m : ℕ) (a : Ty) → (IsMutex t a → ⊥) → Homed (Row m (Cell a))
    no_mutexes m a f = row_homed m (Cell a) (λ n y q. cc) (λ b q x. f (subst (IsMutex t) (same_binding b a q) x))

    -- one of mutex objects holds what is at home at each element
    elements_homed : (m e : ℕ) → (t.mutex e ≡ true → (j : ℕ) → j < m → IsHome few (slice_index_or vs (address (At Binding j ∷ (Slot k ∷ []))) nought) (Place o (At Binding j ∷ (Slot k ∷ [])))) → Homed (Row m (Cell (Obj e)))
    elements_homed m e f p b i x = by (inside_row (λ n y q. cc) i)
      where
        by : ((Place o p ≡ Place o (Slot k ∷ [])) × (Cell b ≡ Row m (Cell (Obj e)))) ⊎ IsElement (Place o (Slot k ∷ [])) m (Cell (Obj e)) (Place o p) (Cell b) → IsAtHome t no_fields few n (slice_index_or vs (address p) nought) (Place o p)
        by (inl q) = let y : Cell b ≡ Row m (Cell (Obj e)) = q.1 in absurd (cc)
        by (inr q) =
            let way : p ≡ At Binding q.0 ∷ (Slot k ∷ []) = same_path o p (At Binding q.0 ∷ (Slot k ∷ [])) q.2 in
            let it : b ≡ Obj e = same_binding b (Obj e) q.3 in
            let h = f (subst (IsMutex t) it x) q.0 q.1 in
            subst (λ l. IsAtHome t no_fields few n (slice_index_or vs (address l) nought) (Place o l)) (sym way) (h.number, h.object, h.home)

  module _ (few : Few) (s : State) (elements : OpensElements t few s) where
    abbrev here : List Value
    here = frame_at s.run.frame s.env.frames

    abbrev Held : ℕ → Ty → Type 0
    Held k a = HoldsHome t no_fields few s.env.exec (this_frame s) here (variable_at k s) a

    abbrev Elements : CleanUp → Type 0
    Elements c = (k m e : ℕ) → t.mutex e ≡ true → CleansAt t (Row m (Cell (Obj e))) (src.Variable k) c → (j : ℕ) → j < m → IsHome few (slice_index_or here (address (At Binding j ∷ (Slot k ∷ []))) nought) (further (At Binding j) (variable_at k s))

    row_held : (c : CleanUp) → Elements c → (k m : ℕ) (d : Ty) → CleansAt t (Row m d) (src.Variable k) c → Held k (Row m d)
    row_held c f k m Num q = row_homed few s.env.exec (this_frame s) here k m Num (λ n y e. cc) (λ b e x. cc)
    row_held c f k m (Obj e) q = row_homed few s.env.exec (this_frame s) here k m (Obj e) (λ n y e. cc) (λ b e x. cc)
    row_held c f k m (Raw e) q = row_homed few s.env.exec (this_frame s) here k m (Raw e) (λ n y e. cc) (λ b e x. cc)
    row_held c f k m Clu q = row_homed few s.env.exec (this_frame s) here k m Clu (λ n y e. cc) (λ b e x. cc)
    row_held c f k m Pro q = row_homed few s.env.exec (this_frame s) here k m Pro (λ n y e. cc) (λ b e x. cc)
    row_held c f k m (Row n y) q = absurd (no_rows m n y k c q)
    row_held c f k m (Cell (Obj e)) q = elements_homed few s.env.exec (this_frame s) here k m e (λ x. f k m e x q)
    row_held c f k m (Cell Num) q = no_mutexes few s.env.exec (this_frame s) here k m Num (λ x. x)
    row_held c f k m (Cell (Cell a)) q = no_mutexes few s.env.exec (this_frame s) here k m (Cell a) (λ x. x)
    row_held c f k m (Cell (Raw e)) q = no_mutexes few s.env.exec (this_frame s) here k m (Raw e) (λ x. x)
    row_held c f k m (Cell (Row n a)) q = no_mutexes few s.env.exec (this_frame s) here k m (Row n a) (λ x. x)
    row_held c f k m (Cell Clu) q = no_mutexes few s.env.exec (this_frame s) here k m Clu (λ x. x)
    row_held c f k m (Cell Pro) q = no_mutexes few s.env.exec (this_frame s) here k m Pro (λ x. x)

    clean_whole : (c : CleanUp) → Elements c → (k : ℕ) (a : Ty) → IsWhole a → CleansAt t a (src.Variable k) c → Held k a
    clean_whole c f k Num w q = one_homed few s.env.exec (this_frame s) here k Num (λ n y e. cc) (λ b e. cc)
    clean_whole c f k (Obj e) w q = one_homed few s.env.exec (this_frame s) here k (Obj e) (λ n y e. cc) (λ b e. cc)
    clean_whole c f k (Raw e) w q = one_homed few s.env.exec (this_frame s) here k (Raw e) (λ n y e. cc) (λ b e. cc)
    clean_whole c f k Clu w q = one_homed few s.env.exec (this_frame s) here k Clu (λ n y e. cc) (λ b e. cc)
    clean_whole c f k Pro w q = one_homed few s.env.exec (this_frame s) here k Pro (λ n y e. cc) (λ b e. cc)
    clean_whole c f k (Row m d) w q = row_held c f k m d q
    clean_whole c f k (Cell a) w q = absurd w

    -- so nothing else is asked of scopes
    pub opens_whole : OpensWhole t no_fields few s
    opens_whole = by s.run.control elements
      where
        by : (l : List Todo) → OpensElementsAt t few l s → OpensWholeAt t no_fields few l s
        by (piece.Rest (src.Scoped c rest) ∷ todo) f = clean_whole c f
        by l f = tt

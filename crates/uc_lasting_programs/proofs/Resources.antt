-- A processor that is a variable, and each element of an array of clusters or of processors, is known where it is in scope, if it has such a number: it is an
-- object there.
use Rattle.std.proofs.Common.{◌≡◌, ℕ, ◌<◌, ◌⊎◌, inl, inr, List, [], ◌∷◌, refl, sym, ap, subst}
use Rattle.std.specs.Prelude.{slice_index_or}
use Rattle.uc_tree.specs.Source as src
use Rattle.uc_tree.specs.Source.{CleanUp, Expr, Binding}
use Rattle.uc_machine.specs.declared.exec.Exec.{Exec}
use Rattle.uc_machine.specs.declared.exec.Owner.{Owner}
use Rattle.uc_machine.specs.Pieces.{Link, Slot, At, Value, Place, Object, nought, address, further}
use Rattle.uc_typing.specs.Typing.{Ty, Cell, Obj, Row, Clu, Pro, Table, element_shape, CleansAt}
use Rattle.uc_typing.specs.States.{IsNumbered}
use Rattle.uc_state_laws.specs.There.{OfVariable, OfElements, HoldsObject, IsThere}
use Rattle.uc_life_laws.specs.Things.{Few, IsResource, Within, itself, field, element, Holds, IsFew, Known}
use Rattle.uc_building_laws.specs.BuildingRuns.{IsByNumber}
use Rattle.uc_lasting_programs.proofs.Clusters.{within_cell}
use Rattle.uc_lasting_programs.proofs.MutexScopes.{IsMutexCells}

-- a variable that is known by its number, a mutex object, a cluster or a processor, or an array of such
abbrev pub IsNumberCells : Table → Ty → Type 0
IsNumberCells t (Cell b) = IsByNumber t b
IsNumberCells t (Row n (Cell b)) = IsByNumber t b
IsNumberCells t a = ⊥

-- a cluster or a processor, or an array of such
abbrev pub IsResourceCells : Ty → Type 0
IsResourceCells (Cell b) = IsResource b
IsResourceCells (Row n (Cell b)) = IsResource b
IsResourceCells a = ⊥

type_of : (b c : Ty) → Cell b ≡ Cell c → b ≡ c
type_of b c e = cc

row_type : (m n : ℕ) (a b : Ty) → Row m a ≡ Row n b → a ≡ b
row_type m n a b e = cc

row_count : (m n : ℕ) (a b : Ty) → Row m a ≡ Row n b → m ≡ n
row_count m n a b e = cc

module _ (t : Table) where
  -- what is known by its number is a mutex object or one of these
  pub number_kind : (a : Ty) → IsNumberCells t a → IsMutexCells t a ⊎ IsResourceCells a
  number_kind (Cell (Obj c)) h = inl h
  number_kind (Cell Clu) h = inr tt
  number_kind (Cell Pro) h = inr tt
  number_kind (Row n (Cell (Obj c))) h = inl h
  number_kind (Row n (Cell Clu)) h = inr tt
  number_kind (Row n (Cell Pro)) h = inr tt
  number_kind a h = absurd h

  -- within an array of bindings lie its elements
  abbrev AtElement : Value → ℕ → Value → Type 0
  AtElement w n v = (j : ℕ) × (j < n) × (v ≡ further (At Binding j) w)

  abbrev OfRow : Value → ℕ → Ty → Value → Ty → Type 0
  OfRow w n b v d = ((d ≡ Row n (Cell b)) × (v ≡ w)) ⊎ ((d ≡ Cell b) × AtElement w n v)

  row_element : (w : Value) (n : ℕ) (b : Ty) (u : Value) (m : ℕ) (x : Ty) (j : ℕ) → j < m → OfRow w n b u (Row m x) → OfRow w n b (further (At (element_shape t x) j) u) x
  row_element w n b u m x j l (inl e) =
      let type : x ≡ Cell b = row_type m n x (Cell b) e.0 in
      let many : m ≡ n = row_count m n x (Cell b) e.0 in
      let shape : element_shape t x ≡ Binding = ap (element_shape t) type in
      inr (type, (j, subst (λ k. j < k) many l, subst (λ s. further (At (element_shape t x) j) u ≡ further (At s j) w) shape (ap (further (At (element_shape t x) j)) e.1)))
  row_element w n b u m x j l (inr e) = let f = e.0 in absurd (cc)

  no_object : (w : Value) (n : ℕ) (b : Ty) (u : Value) (c : ℕ) → OfRow w n b u (Obj c) → ⊥
  no_object w n b u c (inl e) = let f = e.0 in cc
  no_object w n b u c (inr e) = let f = e.0 in cc

  within_row : {w : Value} {n : ℕ} {b : Ty} {v : Value} {d : Ty} → Within t w (Row n (Cell b)) v d → OfRow w n b v d
  within_row itself = inl (refl, refl)
  within_row {w} {n} {b} (field {v = u} {c} h i f) = absurd (no_object w n b u c (within_row h))
  within_row {w} {n} {b} (element {v = u} {m} {b = x} h j l) = row_element w n b u m x j l (within_row h)

  module _ (few : Few) (n : Exec) (K : Value → Ty → Type 0) where
    -- an object with such a number is known
    known : (b : Ty) (v : Value) → IsResource b → IsNumbered v → IsFew t few n b v → Known t few n K b v
    known Clu (Object o) i h f = record { is = tt; passes = f; rooted = λ i. absurd i; held = λ m. absurd m; seated = λ i. absurd i }
    known Pro (Object o) i h f = record { is = tt; passes = f; rooted = λ i. absurd i; held = λ m. absurd m; seated = λ i. absurd i }
    known Clu v i h f = absurd h
    known Pro v i h f = absurd h
    known b v i h f = absurd i

    module _ (o : Owner) (vs : List Value) (k : ℕ) where
      abbrev place : Value
      place = Place o (Slot k ∷ [])

      abbrev Passes : Ty → Type 0
      Passes a = (p : List Link) (b : Ty) → Within t place a (Place o p) (Cell b) → IsFew t few n b (slice_index_or vs (address p) nought)

      -- a variable
      one : (b : Ty) → IsResource b → HoldsObject vs (Slot k ∷ []) → Passes (Cell b) → Holds t few n K o vs place (Cell b)
      one b i h f p d w y =
          let x = within_cell t place b (Place o p) (Cell d) w in
          let at = x.0 in
          let path : p ≡ Slot k ∷ [] = cc in
          let type : d ≡ b = type_of d b x.1 in
          known d (slice_index_or vs (address p) nought) (subst IsResource (sym type) i) (subst (λ q. HoldsObject vs q) (sym path) h) (f p d w)

      -- an array
      each : (m : ℕ) (b : Ty) → IsResource b → ((j : ℕ) → j < m → HoldsObject vs (At Binding j ∷ (Slot k ∷ []))) → Passes (Row m (Cell b)) → Holds t few n K o vs place (Row m (Cell b))
      each m b i h f p d w y = by (within_row w)
        where
          by : OfRow place m b (Place o p) (Cell d) → Known t few n K d (slice_index_or vs (address p) nought)
          by (inl e) = let z = e.0 in absurd (cc)
          by (inr e) =
              let x = e.1 in
              let at = x.2 in
              let path : p ≡ At Binding x.0 ∷ (Slot k ∷ []) = cc in
              let type : d ≡ b = type_of d b e.0 in
              known d (slice_index_or vs (address p) nought) (subst IsResource (sym type) i) (subst (λ q. HoldsObject vs q) (sym path) (h x.0 x.1)) (f p d w)

      -- so each holds what is known
      pub resource_holds : (a : Ty) (c : CleanUp) → IsResourceCells a → CleansAt t a (src.Variable k) c → IsThere vs c → Passes a → Holds t few n K o vs place a
      resource_holds (Cell Clu) (src.Destroys (src.OfObject (src.EndCluster (src.Load e)))) i h there f = one Clu tt (subst (λ (e : Expr). OfVariable (HoldsObject vs) e) (sym h) there) f
      resource_holds (Cell Pro) (src.Destroys (src.OfObject (src.EndProcessor (src.Load e)))) i h there f = one Pro tt (subst (λ (e : Expr). OfVariable (HoldsObject vs) e) (sym h) there) f
      resource_holds (Row m (Cell Clu)) (src.DestroysAll l (src.OfObject (src.EndCluster (src.Load e)))) i h there f =
          each m Clu tt (subst (λ l. OfElements l (HoldsObject vs) (src.Element m Binding (src.Variable k) (src.OfObject src.Counted))) (sym h.0) (subst (λ (e : Expr). OfElements l (HoldsObject vs) e) (sym h.1) there)) f
      resource_holds (Row m (Cell Pro)) (src.DestroysAll l (src.OfObject (src.EndProcessor (src.Load e)))) i h there f =
          each m Pro tt (subst (λ l. OfElements l (HoldsObject vs) (src.Element m Binding (src.Variable k) (src.OfObject src.Counted))) (sym h.0) (subst (λ (e : Expr). OfElements l (HoldsObject vs) e) (sym h.1) there)) f
      resource_holds (Cell Clu) c i h there f = absurd h
      resource_holds (Cell Pro) c i h there f = absurd h
      resource_holds (Row m (Cell Clu)) (src.DestroysAll l e) i h there f = absurd h.1
      resource_holds (Row m (Cell Pro)) (src.DestroysAll l e) i h there f = absurd h.1
      resource_holds (Row m (Cell Clu)) c i h there f = absurd h
      resource_holds (Row m (Cell Pro)) c i h there f = absurd h
      resource_holds a c i h there f = absurd i

-- Where the scope of a mutex object that is a variable opens, or of an array of such, each holds what is known, if it is at home there and has such a number; and
-- so does an own mutex object of a thing.
use Rattle.std.proofs.Common.{◌≡◌, ℕ, ◌<◌, ◌⊎◌, inl, inr, Bool, true, List, refl, sym, ◌∙◌, subst}
use Rattle.std.specs.Prelude.{slice_index_or}
use Rattle.uc_machine.specs.declared.exec.Exec.{Exec}
use Rattle.uc_machine.specs.declared.exec.Owner.{Owner}
use Rattle.uc_machine.specs.Pieces.{Link, At, Value, Number, Place, Running, Object, Nothing, nought, address, further}
use Rattle.uc_typing.specs.Typing.{Ty, Cell, Obj, Row, Table, element_shape}
use Rattle.uc_typing.specs.States.{IsNumbered, IsObjectBy}
use Rattle.uc_life_laws.specs.Things.{Few, Base, IsMutex, Within, itself, field, element, Stands, lies, inside, Holds, IsFew, LiesIn, Known}
use Rattle.uc_life_laws.specs.HomedStates.{Owns, Inside, all_of_it, own_element, HoldsHome}
use Rattle.uc_homed_ends.specs.Elements.{no_fields}
use Rattle.uc_cell_laws.proofs.CellPlaces.{inside_within}
use Rattle.uc_lasting_programs.specs.OfOthers.{IsOfOthers}
use Rattle.uc_lasting_programs.specs.Remaining.{IsOne, HoldsLeft}
use Rattle.uc_lasting_programs.proofs.OfOthers.{HasOthers, known_of_others}

cell_of : (b c : Ty) → Cell b ≡ Cell c → b ≡ c
cell_of b c e = cc

many_of : (m n : ℕ) (a b : Ty) → Row m a ≡ Row n b → m ≡ n
many_of m n a b e = cc

type_of : (m n : ℕ) (a b : Ty) → Row m a ≡ Row n b → a ≡ b
type_of m n a b e = cc

numbered : (v : Value) → IsNumbered v → (o : ℕ) × (v ≡ Object o)
numbered (Number z) h = absurd h
numbered (Place o p) h = absurd h
numbered (Running e) h = absurd h
numbered (Object o) h = (o, refl)
numbered Nothing h = absurd h

-- a variable that is a mutex object, or an array of such
abbrev pub IsMutexCells : Table → Ty → Type 0
IsMutexCells t (Cell b) = IsMutex t b
IsMutexCells t (Row n (Cell b)) = IsMutex t b
IsMutexCells t a = ⊥

module _ (t : Table) where
  -- nothing but itself lies within a binding, and within an array of such nothing but itself and its elements

  abbrev One : Value → Ty → Value → Ty → Type 0
  One w b v d = (v ≡ w) × (d ≡ Cell b)

  one_cell : {w : Value} {b : Ty} {v : Value} {d : Ty} → Within t w (Cell b) v d → One w b v d
  one_cell itself = (refl, refl)
  one_cell (field {v = u} {c} h i f) = let e = (one_cell h).1 in absurd (cc)
  one_cell (element {v = u} {m} {b = x} h j l) = let e = (one_cell h).1 in absurd (cc)

  abbrev OneOfMany : Value → ℕ → Ty → Value → Ty → Type 0
  OneOfMany w n b v d = ((v ≡ w) × (d ≡ Row n (Cell b))) ⊎ ((d ≡ Cell b) × Inside t no_fields w (Row n (Cell b)) v (Cell b))

  element_of : (w : Value) (n : ℕ) (b : Ty) (u : Value) (m : ℕ) (x : Ty) (j : ℕ) → j < m → OneOfMany w n b u (Row m x) → OneOfMany w n b (further (At (element_shape t x) j) u) x
  element_of w n b u m x j l (inl e) =
      let many : m ≡ n = many_of m n x (Cell b) e.1 in
      let type : x ≡ Cell b = type_of m n x (Cell b) e.1 in
      let there : Inside t no_fields w (Row n (Cell b)) (further (At (element_shape t (Cell b)) j) w) (Cell b) = own_element all_of_it j (subst (λ k. j < k) many l) in
      inr (type, subst (λ z. Inside t no_fields w (Row n (Cell b)) (further (At (element_shape t z) j) u) (Cell b)) (sym type) (subst (λ z. Inside t no_fields w (Row n (Cell b)) (further (At (element_shape t (Cell b)) j) z) (Cell b)) (sym e.0) there))
  element_of w n b u m x j l (inr e) = let f = e.0 in absurd (cc)

  no_object : (w : Value) (n : ℕ) (b : Ty) (u : Value) (c : ℕ) → OneOfMany w n b u (Obj c) → ⊥
  no_object w n b u c (inl e) = let f = e.1 in cc
  no_object w n b u c (inr e) = let f = e.0 in cc

  one_of_many : {w : Value} {n : ℕ} {b : Ty} {v : Value} {d : Ty} → Within t w (Row n (Cell b)) v d → OneOfMany w n b v d
  one_of_many itself = inl (refl, refl)
  one_of_many {w} {n} {b} (field {v = u} {c} h i f) = absurd (no_object w n b u c (one_of_many h))
  one_of_many {w} {n} {b} (element {v = u} {m} {b = x} h j l) = element_of w n b u m x j l (one_of_many h)

  -- so what lies there is an own part that is a mutex object

  abbrev Part : Value → Ty → Value → Ty → Type 0
  Part w a v b = IsMutex t b × Inside t no_fields w a v (Cell b)

  of_many : (n : ℕ) (b d : Ty) (w v : Value) → IsMutex t b → OneOfMany w n b v (Cell d) → Part w (Row n (Cell b)) v d
  of_many n b d w v m (inl e) = let f = e.1 in absurd (cc)
  of_many n b d w v m (inr e) =
      let same : d ≡ b = cell_of d b e.0 in
      (subst (IsMutex t) (sym same) m, subst (λ z. Inside t no_fields w (Row n (Cell b)) v (Cell z)) (sym same) e.1)

  part : (a : Ty) → IsMutexCells t a → (w v : Value) (d : Ty) → Within t w a v (Cell d) → Part w a v d
  part (Cell b) m w v d h =
      let e = one_cell h in
      let same : d ≡ b = cell_of d b e.1 in
      (subst (IsMutex t) (sym same) m, subst (λ u. Inside t no_fields w (Cell b) u (Cell d)) (sym e.0) (subst (λ z. Inside t no_fields w (Cell b) w (Cell z)) (sym same) all_of_it))
  part (Row n (Cell b)) m w v d h = of_many n b d w v m (one_of_many h)
  part a m w v d h = absurd m

  -- what is at home at a place that stands in what is known is known, if it has such a number
  module _ (few : Few) (n : Exec) (K : Value → Ty → Type 0) where
    at_home : (b : Ty) (v place : Value) → IsMutex t b → Stands t few K (Cell b) place → (o : ℕ) → v ≡ Object o → few.home o ≡ place → IsFew t few n b v → Known t few n K b v
    at_home (Obj c) v place m stands o e home passes = subst (λ u. Known t few n K (Obj c) u) (sym e) (record {
      is = subst (λ (b : Bool). IsObjectBy t b c (Object o)) (sym m) tt;
      passes = subst (λ u. IsFew t few n (Obj c) u) e passes;
      rooted = λ i. held;
      held = λ i. held;
      seated = λ i. absurd i;
    })
      where
        held : LiesIn t few n K (Obj c) (Object o)
        held = inl (inside m (subst (Stands t few K (Cell (Obj c))) (sym home) stands) itself)
    at_home b v place m stands o e home passes = absurd m

    -- so each holds what is known
    pub mutex_holds : (o : Owner) (vs : List Value) (w : Value) (a : Ty) → IsMutexCells t a → K w a → (homes : Few) → ((i : ℕ) → few.home i ≡ homes.home i) → HoldsHome t no_fields homes n o vs w a → ((p : List Link) (b : Ty) → Within t w a (Place o p) (Cell b) → IsFew t few n b (slice_index_or vs (address p) nought)) → Holds t few n K o vs w a
    mutex_holds o vs w a m k homes same h f p b i y =
        let x = part a m w (Place o p) b i in
        let z = h p b x.1 x.0 in
        at_home b (slice_index_or vs (address p) nought) (Place o p) x.0 (lies k i) z.0 z.1 (same z.0 ∙ z.2) (f p b i)

    -- and so does each binding within a thing that holds what is left, where own mutex objects are at home in what the thing lies in, and what is
    -- another's is told
    module _ (had : HasOthers few) (more : (v : Value) (b : Ty) → Base few n v b → K v b) (owns : Owns) (o : Owner) (vs : List Value) (u : Value) (c : Ty) (k : K u c) (homed : (x : List Link) (d : ℕ) → t.mutex d ≡ true → Inside t owns u c (Place o x) (Cell (Obj d)) → (q : ℕ) → slice_index_or vs (address x) nought ≡ Object q → few.home q ≡ Place o x) where
      own : (b : Ty) (p : List Link) → IsMutex t b → Inside t owns u c (Place o p) (Cell b) → IsOne t owns few n K o vs b (slice_index_or vs (address p) nought) → Known t few n K b (slice_index_or vs (address p) nought)
      own (Obj d) p m i one =
          let q = numbered (slice_index_or vs (address p) nought) one.0 in
          at_home (Obj d) (slice_index_or vs (address p) nought) (Place o p) m (lies k (inside_within t owns i)) q.0 q.1 (homed p d m i q.0 q.1) one.1
      own b p m i one = absurd m

      pub left_holds : (w : Value) (a : Ty) → HoldsLeft t owns few n K o vs u c w a → Holds t few n K o vs w a
      left_holds w a h p b i y = by (h p b i y)
        where
          by : IsOfOthers t n b (slice_index_or vs (address p) nought) ⊎ (Known t few n K b (slice_index_or vs (address p) nought) ⊎ (IsMutex t b × Inside t owns u c (Place o p) (Cell b) × IsOne t owns few n K o vs b (slice_index_or vs (address p) nought))) → Known t few n K b (slice_index_or vs (address p) nought)
          by (inl z) = known_of_others t few had n K more b (slice_index_or vs (address p) nought) z
          by (inr (inl z)) = z
          by (inr (inr z)) = own b p z.0 z.1 z.2

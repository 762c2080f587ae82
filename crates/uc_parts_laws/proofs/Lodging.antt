-- A coroutine stands in what a destructor that comes to the end of it is called for: level by level, also in mutex objects that are at home there.
use Rattle.std.proofs.Common.{◌≡◌, ℕ, ◌<◌, Bool, true, false, List, [], Some, refl, sym, ◌∙◌, subst}
use Rattle.uc_tree.specs.Source as src
use Rattle.uc_tree.specs.Source.{Shape, Source, Expr, Stmts, CleanUp}
use Rattle.uc_machine.specs.Pieces as piece
use Rattle.uc_machine.specs.Pieces.{Link, FieldAt, At, Value, further}
use Rattle.uc_typing.specs.Typing.{Ty, Num, Cell, Obj, Row, Name, Var, Own, Kept, Sig, Table, element_shape, DestroysAt, DestroysEach, Cleans, FineClean}
use Rattle.uc_typing.specs.States.{Sound}
use Rattle.uc_life_laws.specs.Things.{Few, IsField, Within, Stands, lies, inside}
use Rattle.uc_life_laws.specs.Things as things
use Rattle.uc_name_laws.proofs.Homes.{no_both}
use Rattle.uc_life_laws.specs.Marks.{Marked}
use Rattle.uc_life_laws.specs.Destroying.{IsLast, calling_at, Seat, Destroying, itself, field, element, mutex, mutexes}
use Rattle.uc_parts_laws.specs.Lodging.{StandsAs, IsLodged, LawLodging}
use Rattle.uc_parts_laws.proofs.Extents.{within_on, scope_of, FieldOf, RowOf, field_of, row_of, is_field}

module _ (t : Table) (few : Few) (source : Source) (sound : Sound t source) where
  -- what ends mutex objects in a field

  abbrev ending : ℕ → Bool → Expr → Expr
  ending q b p = src.OfObject (src.EndOn q b (src.Load p))

  -- the routine ends one that is at home in a field of its object
  record CellOf (r q : ℕ) (h : Shape) (i : ℕ) : Type 0 where
    class : ℕ
    this : (t.routine r).this ≡ Some class
    shape : t.shape class ≡ h
    sub : ℕ
    type : t.fields class i ≡ Cell (Obj sub)
    callee : (t.routine q).this ≡ Some sub

  record CellsOf (r q m : ℕ) (k h : Shape) (i : ℕ) : Type 0 where
    class : ℕ
    this : (t.routine r).this ≡ Some class
    shape : t.shape class ≡ h
    sub : ℕ
    type : t.fields class i ≡ Row m (Cell (Obj sub))
    kind : src.Binding ≡ k
    callee : (t.routine q).this ≡ Some sub

  module _ (r q : ℕ) (h : Shape) (i : ℕ) (b : Bool) where
    abbrev spot : Expr
    spot = src.OfObject (src.OwnField h i)

    no_variable : (k : ℕ) (a : Ty) → DestroysAt t a (src.Variable k) (ending q b spot) → ⊥
    no_variable k (Cell (Obj c)) y = let e : src.Variable k ≡ spot = y.0 in cc
    no_variable k a y = absurd y

    own_cell : (c j : ℕ) → (t.routine r).this ≡ Some c → (a : Ty) → t.fields c j ≡ a → DestroysAt t a (src.OfObject (src.OwnField (t.shape c) j)) (ending q b spot) → CellOf r q h i
    own_cell c j f (Cell (Obj k)) g y =
        let e : src.OfObject (src.OwnField (t.shape c) j) ≡ spot = y.0 in
        let s : t.shape c ≡ h = cc in
        let x : j ≡ i = cc in
        record { class = c; this = f; shape = s; sub = k; type = subst (λ m. t.fields c m ≡ Cell (Obj k)) x g; callee = y.1 }
    own_cell c j f a g y = absurd y

    cell_of : (x : Name) → Cleans t (t.routine r) x (src.Destroys (ending q b spot)) → CellOf r q h i
    cell_of (Var k a) y = absurd (no_variable k a y)
    cell_of (Own j) y = own_cell y.0 j y.1 (t.fields y.0 j) refl y.2
    cell_of Kept y = absurd y

    module _ (m : ℕ) (z : Shape) where
      abbrev each_spot : Expr
      each_spot = src.Element m z spot (src.OfObject src.Counted)

      no_row : (k n : ℕ) (a : Ty) → DestroysAt t a (src.Element n (element_shape t a) (src.Variable k) (src.OfObject src.Counted)) (ending q b each_spot) → ⊥
      no_row k n (Cell (Obj c)) y = let e : src.Element n src.Binding (src.Variable k) (src.OfObject src.Counted) ≡ each_spot = y.0 in cc
      no_row k n a y = absurd y

      no_array : (k : ℕ) (a : Ty) → DestroysEach t a m (src.Variable k) (ending q b each_spot) → ⊥
      no_array k (Row n a) y = no_row k n a y.1
      no_array k a y = absurd y

      own_each : (c j n : ℕ) → (t.routine r).this ≡ Some c → (a : Ty) → t.fields c j ≡ Row n a → n ≡ m → DestroysAt t a (src.Element n (element_shape t a) (src.OfObject (src.OwnField (t.shape c) j)) (src.OfObject src.Counted)) (ending q b each_spot) → CellsOf r q m z h i
      own_each c j n f (Cell (Obj k)) g l y =
          let e : src.Element n src.Binding (src.OfObject (src.OwnField (t.shape c) j)) (src.OfObject src.Counted) ≡ each_spot = y.0 in
          let s : t.shape c ≡ h = cc in
          let x : j ≡ i = cc in
          let u : src.Binding ≡ z = cc in
          record { class = c; this = f; shape = s; sub = k; type = subst (λ o. t.fields c i ≡ Row o (Cell (Obj k))) l (subst (λ o. t.fields c o ≡ Row n (Cell (Obj k))) x g); kind = u; callee = y.1 }
      own_each c j n f a g l y = absurd y

      own_array : (c j : ℕ) → (t.routine r).this ≡ Some c → (a : Ty) → t.fields c j ≡ a → DestroysEach t a m (src.OfObject (src.OwnField (t.shape c) j)) (ending q b each_spot) → CellsOf r q m z h i
      own_array c j f (Row n a) g y = own_each c j n f a g y.0 y.1
      own_array c j f a g y = absurd y

      cells_of : (x : Name) → Cleans t (t.routine r) x (src.DestroysAll m (ending q b each_spot)) → CellsOf r q m z h i
      cells_of (Var k a) y = absurd (no_array k a y)
      cells_of (Own j) y = own_array y.0 j y.1 (t.fields y.0 j) refl y.2
      cells_of Kept y = absurd y

  -- what is ended so is of a mutex class
  ends_mutex : (g : Sig) (sc : List Name) (q k : ℕ) (b : Bool) (p : Expr) → (t.routine q).this ≡ Some k → FineClean t g sc (src.Destroys (ending q b p)) → t.mutex k ≡ true
  ends_mutex g sc q k b p e h =
      let both : Some h.1.1.0 ≡ Some k = sym h.1.1.2 ∙ e in
      let same : h.1.1.0 ≡ k = cc in
      subst (λ c. t.mutex c ≡ true) same h.1.1.4

  module _ (K : Value → Ty → Type 0) where
    -- what lies within what stands there does so
    on_stands : (a : Ty) (w : Value) (b : Ty) (v : Value) → Stands t few K a w → Within t w a v b → Stands t few K b v
    on_stands a w b v (lies {w = x} {a = d} k i) j = lies k (within_on t x d i j)
    on_stands a w b v (inside {o = x} {c = d} m k i) j = inside m k (within_on t (piece.Object x) (Obj d) i j)

    -- a field of an object, and what lies at an element of an array there
    in_field : (c i : ℕ) (v : Value) → IsField t c i → StandsAs t few K c v → Stands t few K (t.fields c i) (further (FieldAt (t.shape c) i) v)
    in_field c i (piece.Object o) f h = inside h.0 h.1 (things.field things.itself i f)
    in_field c i (piece.Number z) f h = on_stands (Obj c) (piece.Number z) (t.fields c i) (further (FieldAt (t.shape c) i) (piece.Number z)) h (things.field things.itself i f)
    in_field c i (piece.Place o p) f h = on_stands (Obj c) (piece.Place o p) (t.fields c i) (further (FieldAt (t.shape c) i) (piece.Place o p)) h (things.field things.itself i f)
    in_field c i (piece.Running x) f h = on_stands (Obj c) (piece.Running x) (t.fields c i) (further (FieldAt (t.shape c) i) (piece.Running x)) h (things.field things.itself i f)
    in_field c i piece.Nothing f h = on_stands (Obj c) piece.Nothing (t.fields c i) (further (FieldAt (t.shape c) i) piece.Nothing) h (things.field things.itself i f)

    -- a place is that of no mutex object
    placed : (c : ℕ) (l : Link) (v : Value) → Stands t few K (Obj c) (further l v) → StandsAs t few K c (further l v)
    placed c l (piece.Object o) h = h
    placed c l (piece.Number z) h = h
    placed c l (piece.Place o p) h = h
    placed c l (piece.Running x) h = h
    placed c l piece.Nothing h = h

    -- at a field of this shape and type
    at_field : (c i : ℕ) (v : Value) (h : Shape) (a : Ty) → t.shape c ≡ h → t.fields c i ≡ a → (a ≡ Num → ⊥) → StandsAs t few K c v → Stands t few K a (further (FieldAt h i) v)
    at_field c i v h a s e bare k =
        let is : IsField t c i = is_field t source sound c i (λ z. bare (sym e ∙ z)) in
        subst (λ z. Stands t few K a (further (FieldAt z i) v)) s (subst (λ b. Stands t few K b (further (FieldAt (t.shape c) i) v)) e (in_field c i v is k))

    same_this : (r a b : ℕ) → (t.routine r).this ≡ Some a → (t.routine r).this ≡ Some b → a ≡ b
    same_this r a b e f = let both : Some a ≡ Some b = sym e ∙ f in cc

    module _ (w : Seat) (homes : (o : ℕ) → w.home o ≡ few.home o) (coroutine : w.task ≡ false) where
      executing : (g : Sig) (sc : List Name) (c : CleanUp) → IsLast w.task c → FineClean t g sc c → (k : ℕ) × (g.this ≡ Some k) × (t.executes k ≡ true)
      executing g sc src.Forgets l h = h
      executing g sc src.Ends l h = absurd (no_both w.task l coroutine)
      executing g sc c l h = absurd l

      by_field : (c : ℕ) (r q : ℕ) (h : Shape) (i : ℕ) (v : Value) → (t.routine r).this ≡ Some c → StandsAs t few K c v → (f : FieldOf t source sound r q h i) → StandsAs t few K f.sub (further (FieldAt h i) v)
      by_field c r q h i v this k f =
          let same : c ≡ f.class = same_this r c f.class this f.this in
          let at : StandsAs t few K f.class v = subst (λ d. StandsAs t few K d v) same k in
          placed f.sub (FieldAt h i) v (at_field f.class i v h (Obj f.sub) f.shape f.type (λ e. cc) at)

      by_row : (c : ℕ) (r q m : ℕ) (k h : Shape) (i j : ℕ) (v : Value) → j < m → (t.routine r).this ≡ Some c → StandsAs t few K c v → (f : RowOf t source sound r q m k h i) → StandsAs t few K f.sub (further (At k j) (further (FieldAt h i) v))
      by_row c r q m k h i j v lt this a f =
          let same : c ≡ f.class = same_this r c f.class this f.this in
          let at : StandsAs t few K f.class v = subst (λ d. StandsAs t few K d v) same a in
          let row : Stands t few K (Row m (Obj f.sub)) (further (FieldAt h i) v) = at_field f.class i v h (Row m (Obj f.sub)) f.shape f.type (λ e. cc) at in
          let one : Stands t few K (Obj f.sub) (further (At (t.shape f.sub) j) (further (FieldAt h i) v)) = on_stands (Row m (Obj f.sub)) (further (FieldAt h i) v) (Obj f.sub) (further (At (t.shape f.sub) j) (further (FieldAt h i) v)) row (things.element things.itself j lt) in
          placed f.sub (At k j) (further (FieldAt h i) v) (subst (λ z. Stands t few K (Obj f.sub) (further (At z j) (further (FieldAt h i) v))) f.each one)

      by_cell : (c : ℕ) (r q : ℕ) (h : Shape) (i o : ℕ) (v : Value) → w.home o ≡ further (FieldAt h i) v → (t.routine r).this ≡ Some c → StandsAs t few K c v → (f : CellOf r q h i) → t.mutex f.sub ≡ true → StandsAs t few K f.sub (piece.Object o)
      by_cell c r q h i o v home this k f m =
          let same : c ≡ f.class = same_this r c f.class this f.this in
          let at : StandsAs t few K f.class v = subst (λ d. StandsAs t few K d v) same k in
          let cell : Stands t few K (Cell (Obj f.sub)) (further (FieldAt h i) v) = at_field f.class i v h (Cell (Obj f.sub)) f.shape f.type (λ e. cc) at in
          (m, subst (Stands t few K (Cell (Obj f.sub))) (sym home ∙ homes o) cell)

      by_cells : (c : ℕ) (r q m : ℕ) (k h : Shape) (i j o : ℕ) (v : Value) → j < m → w.home o ≡ further (At k j) (further (FieldAt h i) v) → (t.routine r).this ≡ Some c → StandsAs t few K c v → (f : CellsOf r q m k h i) → t.mutex f.sub ≡ true → StandsAs t few K f.sub (piece.Object o)
      by_cells c r q m k h i j o v lt home this a f is =
          let same : c ≡ f.class = same_this r c f.class this f.this in
          let at : StandsAs t few K f.class v = subst (λ d. StandsAs t few K d v) same a in
          let row : Stands t few K (Row m (Cell (Obj f.sub))) (further (FieldAt h i) v) = at_field f.class i v h (Row m (Cell (Obj f.sub))) f.shape f.type (λ e. cc) at in
          let one : Stands t few K (Cell (Obj f.sub)) (further (At src.Binding j) (further (FieldAt h i) v)) = on_stands (Row m (Cell (Obj f.sub))) (further (FieldAt h i) v) (Cell (Obj f.sub)) (further (At src.Binding j) (further (FieldAt h i) v)) row (things.element things.itself j lt) in
          let cell : Stands t few K (Cell (Obj f.sub)) (further (At k j) (further (FieldAt h i) v)) = subst (λ z. Stands t few K (Cell (Obj f.sub)) (further (At z j) (further (FieldAt h i) v))) f.kind one in
          (is, subst (Stands t few K (Cell (Obj f.sub))) (sym home ∙ homes o) cell)

      lodging : {r : ℕ} {v : Value} → Destroying source w r v → (c : ℕ) → (t.routine r).this ≡ Some c → StandsAs t few K c v → IsLodged t few K w.place
      lodging {r} (itself x e z c l s) k f h =
          let y = scope_of t (t.routine r) c [] x.body s (sound.routines r x e).body in
          let u = executing (t.routine r) y.names c l y.fine in
          let same : u.0 ≡ k = same_this r u.0 k u.1 f in
          record { class = k; executes = subst (λ c. t.executes c ≡ true) same u.2; stands = h }
      lodging {r} {v} (field {d = q} x e z h i b s k) c f st =
          let y = scope_of t (t.routine r) (src.Destroys (calling_at b q (src.OfObject (src.OwnField h i)))) [] x.body s (sound.routines r x e).body in
          let g = field_of t source sound r q h i b y.name y.cleans in
          lodging k g.sub g.callee (by_field c r q h i v f st g)
      lodging {r} {v} (element {d = q} x e z h i m j k b lt s u) c f st =
          let y = scope_of t (t.routine r) (src.DestroysAll m (calling_at b q (src.Element m k (src.OfObject (src.OwnField h i)) (src.OfObject src.Counted)))) [] x.body s (sound.routines r x e).body in
          let g = row_of t source sound r q h i m k b y.name y.cleans in
          lodging u g.sub g.callee (by_row c r q m k h i j v lt f st g)
      lodging {r} {v} (mutex {d = q} x e z h i o b s a k) c f st =
          let y = scope_of t (t.routine r) (src.Destroys (ending q b (src.OfObject (src.OwnField h i)))) [] x.body s (sound.routines r x e).body in
          let g = cell_of r q h i b y.name y.cleans in
          lodging k g.sub g.callee (by_cell c r q h i o v a f st g (ends_mutex (t.routine r) y.names q g.sub b (src.OfObject (src.OwnField h i)) g.callee y.fine))
      lodging {r} {v} (mutexes {d = q} x e z h i m j o k b lt s a u) c f st =
          let y = scope_of t (t.routine r) (src.DestroysAll m (ending q b (src.Element m k (src.OfObject (src.OwnField h i)) (src.OfObject src.Counted)))) [] x.body s (sound.routines r x e).body in
          let g = cells_of r q h i b m k y.name y.cleans in
          lodging u g.sub g.callee (by_cells c r q m k h i j o v lt a f st g (ends_mutex (t.routine r) y.names q g.sub b (src.Element m k (src.OfObject (src.OwnField h i)) (src.OfObject src.Counted)) g.callee y.fine))

pub law_lodging : LawLodging
law_lodging t few source sound w homes coroutine n cs r c v h f k = lodging t few source sound (Marked t n cs) w homes coroutine h c f k

-- A coroutine lies within what a destructor that comes to the end of it is called for: so where that stands at a variable, the first cell of the coroutine lies
-- before the cell at which the variable ends.
use Rattle.std.proofs.Common.{◌≡◌, ℕ, zero, suc, ◌+◌, ◌*◌, ◌≤◌, ◌<◌, inl, inr, Bool, true, false, List, [], ◌∷◌, Some, refl, sym, ap, ◌∙◌, subst, arith}
use Rattle.std.specs.Prelude.{min}
use Rattle.std.proofs.Math.Nat.{min-le_left}
use Rattle.std.proofs.lemmas.Nat.{mul-le}
use Rattle.uc_tree.specs.Source as src
use Rattle.uc_tree.specs.Source.{Shape, Source, Expr, CleanUp, Stmts, Routine, shape_cells, field_cells}
use Rattle.uc_machine.specs.declared.exec.Exec.{Exec}
use Rattle.uc_machine.specs.declared.exec.Owner.{Owner}
use Rattle.uc_machine.specs.declared.exec.Owner.TheVariants.{Frame}
use Rattle.uc_machine.specs.Pieces.{Link, Slot, FieldAt, At, Value, Place, LAST_ADDRESS, address, further}
use Rattle.uc_name_laws.proofs.Homes.{no_both}
use Rattle.uc_typing.specs.Typing.{Ty, Num, Cell, Obj, Raw, Row, Clu, Pro, Name, Var, Own, Kept, Sig, Table, element_shape, DestroysAt, DestroysEach, Cleans, FineClean, FineStmts}
use Rattle.uc_typing.specs.States.{Sound}
use Rattle.uc_life_laws.specs.Things.{IsField, Within}
use Rattle.uc_life_laws.specs.Things as things
use Rattle.uc_life_laws.specs.LifeRuns.{span, IsFlat, IsLaidOut}
use Rattle.uc_life_laws.specs.Destroying.{IsScoped, IsLast, calling_at, Seat, Destroying, itself, field, element, mutex, mutexes}
use Rattle.uc_parts_laws.proofs.FramesStay.{no_object, destroyed_in}

-- what lies within what lies within something does so
pub within_on : (t : Table) (w : Value) (a : Ty) {v : Value} {b : Ty} {u : Value} {c : Ty} → Within t w a v b → Within t v b u c → Within t w a u c
within_on t w a h things.itself = h
within_on t w a h (things.field k i f) = things.field (within_on t w a h k) i f
within_on t w a h (things.element k j l) = things.element (within_on t w a h k) j l

-- places within what stands at a variable

module _ (Z : ℕ → ℕ → Type 0) (t : Table) (l : IsLaidOut Z t) where
  element_span : (m : ℕ) (a : Ty) → IsFlat (Row m a) → span t a ≤ shape_cells (element_shape t a)
  element_span m Num f = omega arith
  element_span m (Cell a) f = omega arith
  element_span m (Obj c) f = omega arith
  element_span m (Raw c) f = omega arith
  element_span m (Row k a) f = absurd f
  element_span m Clu f = omega arith
  element_span m Pro f = omega arith

  element_flat : (m : ℕ) (a : Ty) → IsFlat (Row m a) → IsFlat a
  element_flat m Num f = tt
  element_flat m (Cell a) f = tt
  element_flat m (Obj c) f = tt
  element_flat m (Raw c) f = tt
  element_flat m (Row k a) f = absurd f
  element_flat m Clu f = tt
  element_flat m Pro f = tt

  module _ (o : Owner) (k : ℕ) (a : Ty) where
    -- so many cells of that lie before it
    record Placed (v : Value) (b : Ty) : Type 0 where
      path : List Link
      at : v ≡ Place o path
      before : ℕ
      low : address path ≤ k + before
      high : before + span t b ≤ span t a
      flat : IsFlat b

    placed : IsFlat a → {v : Value} {b : Ty} → Within t (Place o (Slot k ∷ [])) a v b → Placed v b
    placed flat things.itself = record {
      path = Slot k ∷ [];
      at = refl;
      before = 0;
      low = let m : min (0 + k) LAST_ADDRESS ≤ 0 + k = min-le_left (0 + k) LAST_ADDRESS in omega (arith, m);
      high = omega arith;
      flat = flat;
    }
    placed flat (things.field {v} {c} h i f) =
        let p = placed flat h in
        let w = field_cells (t.shape c) i in
        let fits = l.fields c i f in
        let m : min (address p.path + w) LAST_ADDRESS ≤ address p.path + w = min-le_left (address p.path + w) LAST_ADDRESS in
        let low = p.low in
        let high = p.high in
        record {
          path = FieldAt (t.shape c) i ∷ p.path;
          at = ap (further (FieldAt (t.shape c) i)) p.at;
          before = p.before + w;
          low = omega (arith, m, low);
          high = omega (arith, fits, high);
          flat = l.flat c i f;
        }
    placed flat (things.element {v} {m} {b} h j lt) =
        let p = placed flat h in
        let n = shape_cells (element_shape t b) in
        let s = element_span m b p.flat in
        let x : min (address p.path + j * n) LAST_ADDRESS ≤ address p.path + j * n = min-le_left (address p.path + j * n) LAST_ADDRESS in
        let low = p.low in
        let high = p.high in
        let more : suc j * n ≤ m * n = mul-le (suc j) n m n (omega (arith, lt)) (omega arith) in
        record {
          path = At (element_shape t b) j ∷ p.path;
          at = ap (further (At (element_shape t b) j)) p.at;
          before = p.before + j * n;
          low = omega (arith, x, low);
          high = omega (arith, s, high, more);
          flat = element_flat m b p.flat;
        }

    path_is : (p q : List Link) → Place o p ≡ Place o q → p ≡ q
    path_is p q e = cc

    -- one of at least one cell lies before the end
    pub ends_before : (e : ℕ) (p : List Link) (b : Ty) → k + span t a ≤ e → IsFlat a → 0 < span t b → Within t (Place o (Slot k ∷ [])) a (Place o p) b → address p < e
    ends_before e p b fits flat some i =
        let q = placed flat i in
        let same : address p ≡ address q.path = ap address (path_is p q.path q.at) in
        let low = q.low in
        let high = q.high in
        omega (arith, same, low, high, fits, some)

-- what a scope of a routine takes out of it
module _ (t : Table) (g : Sig) (c : CleanUp) where
  pub record Scope : Type 0 where
    pub name : Name
    pub cleans : Cleans t g name c
    pub names : List Name
    pub fine : FineClean t g names c

  pub scope_of : (sc : List Name) (ss : Stmts) → IsScoped c ss → FineStmts t g sc ss → Scope
  scope_of sc (src.Scoped d rest) (inl e) h = subst (λ x. Scope) e (record { name = h.0; cleans = subst (Cleans t g h.0) e h.1; names = sc; fine = subst (FineClean t g sc) e h.3 })
  scope_of sc (src.Scoped d rest) (inr k) h = scope_of (h.0 ∷ sc) rest k h.2
  scope_of sc ss k h = absurd k

module _ (t : Table) (source : Source) (sound : Sound t source) where
  -- the routine cleans up a field of its object, which this destroys
  pub record FieldOf (r q : ℕ) (h : Shape) (i : ℕ) : Type 0 where
    pub class : ℕ
    pub this : (t.routine r).this ≡ Some class
    pub shape : t.shape class ≡ h
    pub sub : ℕ
    pub type : t.fields class i ≡ Obj sub
    pub callee : (t.routine q).this ≡ Some sub

  -- an array of so many there
  pub record RowOf (r q m : ℕ) (k h : Shape) (i : ℕ) : Type 0 where
    pub class : ℕ
    pub this : (t.routine r).this ≡ Some class
    pub shape : t.shape class ≡ h
    pub sub : ℕ
    pub type : t.fields class i ≡ Row m (Obj sub)
    pub each : t.shape sub ≡ k
    pub callee : (t.routine q).this ≡ Some sub

  module _ (r q : ℕ) (h : Shape) (i : ℕ) where
    abbrev spot : Expr
    spot = src.OfObject (src.OwnField h i)

    -- what calls a destructor destroys nothing that is known by its number
    no_cell : (b : Bool) (a : Ty) (place e : Expr) → DestroysAt t (Cell a) place (calling_at b q e) → ⊥
    no_cell true (Obj k) place e y = absurd y
    no_cell true Clu place e y = absurd y
    no_cell true Pro place e y = absurd y
    no_cell true a place e y = absurd y
    no_cell false (Obj k) place e y = absurd y
    no_cell false Clu place e y = absurd y
    no_cell false Pro place e y = absurd y
    no_cell false a place e y = absurd y

    -- no variable is there
    no_variable : (b : Bool) (k : ℕ) (a : Ty) → DestroysAt t a (src.Variable k) (calling_at b q spot) → ⊥
    no_variable true k (Obj c) y = let e : src.Variable k ≡ spot = y.0 in cc
    no_variable false k (Obj c) y = let e : src.Variable k ≡ spot = y.0 in cc
    no_variable b k (Cell a) y = no_cell b a (src.Variable k) spot y
    no_variable true k a y = absurd y
    no_variable false k a y = absurd y

    own_field : (b : Bool) (c j : ℕ) → (t.routine r).this ≡ Some c → (a : Ty) → t.fields c j ≡ a → DestroysAt t a (src.OfObject (src.OwnField (t.shape c) j)) (calling_at b q spot) → FieldOf r q h i
    own_field true c j f (Obj k) g y =
        let e : src.OfObject (src.OwnField (t.shape c) j) ≡ spot = y.0 in
        let s : t.shape c ≡ h = cc in
        let x : j ≡ i = cc in
        record { class = c; this = f; shape = s; sub = k; type = subst (λ m. t.fields c m ≡ Obj k) x g; callee = y.1 }
    own_field false c j f (Obj k) g y =
        let e : src.OfObject (src.OwnField (t.shape c) j) ≡ spot = y.0 in
        let s : t.shape c ≡ h = cc in
        let x : j ≡ i = cc in
        record { class = c; this = f; shape = s; sub = k; type = subst (λ m. t.fields c m ≡ Obj k) x g; callee = y.1 }
    own_field b c j f (Cell a) g y = absurd (no_cell b a (src.OfObject (src.OwnField (t.shape c) j)) spot y)
    own_field true c j f a g y = absurd y
    own_field false c j f a g y = absurd y

    pub field_of : (b : Bool) (x : Name) → Cleans t (t.routine r) x (src.Destroys (calling_at b q spot)) → FieldOf r q h i
    field_of b (Var k a) y = absurd (no_variable b k a y)
    field_of b (Own j) y = own_field b y.0 j y.1 (t.fields y.0 j) refl y.2
    field_of b Kept y = absurd y

    -- of arrays
    module _ (m : ℕ) (z : Shape) where
      abbrev each_spot : Expr
      each_spot = src.Element m z spot (src.OfObject src.Counted)

      no_row : (b : Bool) (k n : ℕ) (a : Ty) → DestroysAt t a (src.Element n (element_shape t a) (src.Variable k) (src.OfObject src.Counted)) (calling_at b q each_spot) → ⊥
      no_row true k n (Obj c) y = let e : src.Element n (t.shape c) (src.Variable k) (src.OfObject src.Counted) ≡ each_spot = y.0 in cc
      no_row false k n (Obj c) y = let e : src.Element n (t.shape c) (src.Variable k) (src.OfObject src.Counted) ≡ each_spot = y.0 in cc
      no_row b k n (Cell a) y = no_cell b a (src.Element n src.Binding (src.Variable k) (src.OfObject src.Counted)) each_spot y
      no_row true k n a y = absurd y
      no_row false k n a y = absurd y

      no_array : (b : Bool) (k : ℕ) (a : Ty) → DestroysEach t a m (src.Variable k) (calling_at b q each_spot) → ⊥
      no_array b k (Row n a) y = no_row b k n a y.1
      no_array b k a y = absurd y

      own_each : (b : Bool) (c j n : ℕ) → (t.routine r).this ≡ Some c → (a : Ty) → t.fields c j ≡ Row n a → n ≡ m → DestroysAt t a (src.Element n (element_shape t a) (src.OfObject (src.OwnField (t.shape c) j)) (src.OfObject src.Counted)) (calling_at b q each_spot) → RowOf r q m z h i
      own_each true c j n f (Obj k) g l y =
          let e : src.Element n (t.shape k) (src.OfObject (src.OwnField (t.shape c) j)) (src.OfObject src.Counted) ≡ each_spot = y.0 in
          let s : t.shape c ≡ h = cc in
          let x : j ≡ i = cc in
          let u : t.shape k ≡ z = cc in
          record { class = c; this = f; shape = s; sub = k; type = subst (λ o. t.fields c i ≡ Row o (Obj k)) l (subst (λ o. t.fields c o ≡ Row n (Obj k)) x g); each = u; callee = y.1 }
      own_each false c j n f (Obj k) g l y =
          let e : src.Element n (t.shape k) (src.OfObject (src.OwnField (t.shape c) j)) (src.OfObject src.Counted) ≡ each_spot = y.0 in
          let s : t.shape c ≡ h = cc in
          let x : j ≡ i = cc in
          let u : t.shape k ≡ z = cc in
          record { class = c; this = f; shape = s; sub = k; type = subst (λ o. t.fields c i ≡ Row o (Obj k)) l (subst (λ o. t.fields c o ≡ Row n (Obj k)) x g); each = u; callee = y.1 }
      own_each b c j n f (Cell a) g l y = absurd (no_cell b a (src.Element n src.Binding (src.OfObject (src.OwnField (t.shape c) j)) (src.OfObject src.Counted)) each_spot y)
      own_each true c j n f a g l y = absurd y
      own_each false c j n f a g l y = absurd y

      own_array : (b : Bool) (c j : ℕ) → (t.routine r).this ≡ Some c → (a : Ty) → t.fields c j ≡ a → DestroysEach t a m (src.OfObject (src.OwnField (t.shape c) j)) (calling_at b q each_spot) → RowOf r q m z h i
      own_array b c j f (Row n a) g y = own_each b c j n f a g y.0 y.1
      own_array b c j f a g y = absurd y

      pub row_of : (b : Bool) (x : Name) → Cleans t (t.routine r) x (src.DestroysAll m (calling_at b q each_spot)) → RowOf r q m z h i
      row_of b (Var k a) y = absurd (no_array b k a y)
      row_of b (Own j) y = own_array b y.0 j y.1 (t.fields y.0 j) refl y.2
      row_of b Kept y = absurd y

  -- a field that holds no number is one that somebody declared
  pub is_field : (c i : ℕ) → (t.fields c i ≡ Num → ⊥) → IsField t c i
  is_field c zero f x = absurd (f (sound.leads c x))
  is_field c (suc i) f x = omega arith

  -- a coroutine in a frame
  module _ (w : Seat) (n : Exec) (d : ℕ) (p : List Link) (lies : w.place ≡ Place (Frame n d) p) (coroutine : w.task ≡ false) where
    -- it is an object that has an execution, within one of the class of the routine
    pub record Lodged (r : ℕ) (v : Value) : Type 0 where
      pub class : ℕ
      pub this : (t.routine r).this ≡ Some class
      pub last : ℕ
      pub executes : t.executes last ≡ true
      pub within : Within t v (Obj class) w.place (Obj last)

    executing : (g : Sig) (sc : List Name) (c : CleanUp) → IsLast w.task c → FineClean t g sc c → (k : ℕ) × (g.this ≡ Some k) × (t.executes k ≡ true)
    executing g sc src.Forgets l h = h
    executing g sc src.Ends l h = absurd (no_both w.task l coroutine)
    executing g sc c l h = absurd l

    same_class : (q a b : ℕ) → (t.routine q).this ≡ Some a → (t.routine q).this ≡ Some b → a ≡ b
    same_class q a b e f = let both : Some a ≡ Some b = sym e ∙ f in cc

    in_field : (r q : ℕ) (h : Shape) (i : ℕ) (v : Value) → FieldOf r q h i → Lodged q (further (FieldAt h i) v) → Lodged r v
    in_field r q h i v f y =
        let is : IsField t f.class i = is_field f.class i (λ e. let both : Num ≡ Obj f.sub = sym e ∙ f.type in cc) in
        let step : Within t v (Obj f.class) (further (FieldAt (t.shape f.class) i) v) (t.fields f.class i) = things.field things.itself i is in
        let there : Within t v (Obj f.class) (further (FieldAt h i) v) (t.fields f.class i) = subst (λ z. Within t v (Obj f.class) (further (FieldAt z i) v) (t.fields f.class i)) f.shape step in
        let typed : Within t v (Obj f.class) (further (FieldAt h i) v) (Obj f.sub) = subst (Within t v (Obj f.class) (further (FieldAt h i) v)) f.type there in
        let same : y.class ≡ f.sub = same_class q y.class f.sub y.this f.callee in
        let beyond : Within t (further (FieldAt h i) v) (Obj f.sub) w.place (Obj y.last) = subst (λ c. Within t (further (FieldAt h i) v) (Obj c) w.place (Obj y.last)) same y.within in
        record { class = f.class; this = f.this; last = y.last; executes = y.executes; within = within_on t v (Obj f.class) typed beyond }

    in_row : (r q m : ℕ) (k h : Shape) (i j : ℕ) (v : Value) → j < m → RowOf r q m k h i → Lodged q (further (At k j) (further (FieldAt h i) v)) → Lodged r v
    in_row r q m k h i j v lt f y =
        let is : IsField t f.class i = is_field f.class i (λ e. let both : Num ≡ Row m (Obj f.sub) = sym e ∙ f.type in cc) in
        let step : Within t v (Obj f.class) (further (FieldAt (t.shape f.class) i) v) (t.fields f.class i) = things.field things.itself i is in
        let there : Within t v (Obj f.class) (further (FieldAt h i) v) (t.fields f.class i) = subst (λ z. Within t v (Obj f.class) (further (FieldAt z i) v) (t.fields f.class i)) f.shape step in
        let typed : Within t v (Obj f.class) (further (FieldAt h i) v) (Row m (Obj f.sub)) = subst (Within t v (Obj f.class) (further (FieldAt h i) v)) f.type there in
        let each : Within t v (Obj f.class) (further (At (t.shape f.sub) j) (further (FieldAt h i) v)) (Obj f.sub) = things.element typed j lt in
        let kept : Within t v (Obj f.class) (further (At k j) (further (FieldAt h i) v)) (Obj f.sub) = subst (λ z. Within t v (Obj f.class) (further (At z j) (further (FieldAt h i) v)) (Obj f.sub)) f.each each in
        let same : y.class ≡ f.sub = same_class q y.class f.sub y.this f.callee in
        let beyond : Within t (further (At k j) (further (FieldAt h i) v)) (Obj f.sub) w.place (Obj y.last) = subst (λ c. Within t (further (At k j) (further (FieldAt h i) v)) (Obj c) w.place (Obj y.last)) same y.within in
        record { class = f.class; this = f.this; last = y.last; executes = y.executes; within = within_on t v (Obj f.class) kept beyond }

    pub lodged : {r : ℕ} {v : Value} → Destroying source w r v → Lodged r v
    lodged {r} (itself x e z c l s) =
        let y = scope_of t (t.routine r) c [] x.body s (sound.routines r x e).body in
        let k = executing (t.routine r) y.names c l y.fine in
        record { class = k.0; this = k.1; last = k.0; executes = k.2; within = things.itself }
    lodged {r} {v} (field {d = q} x e z h i b s k) =
        let y = scope_of t (t.routine r) (src.Destroys (calling_at b q (src.OfObject (src.OwnField h i)))) [] x.body s (sound.routines r x e).body in
        in_field r q h i v (field_of r q h i b y.name y.cleans) (lodged k)
    lodged {r} {v} (element {d = q} x e z h i m j k b lt s y) =
        let c = scope_of t (t.routine r) (src.DestroysAll m (calling_at b q (src.Element m k (src.OfObject (src.OwnField h i)) (src.OfObject src.Counted)))) [] x.body s (sound.routines r x e).body in
        in_row r q m k h i j v lt (row_of r q h i m k b c.name c.cleans) (lodged y)
    lodged (mutex x e z h i o b s y k) = absurd (no_object source w n d p lies o (destroyed_in source w n d p lies k))
    lodged (mutexes x e z h i m j o k b l s y u) = absurd (no_object source w n d p lies o (destroyed_in source w n d p lies u))

    module _ (Z : ℕ → ℕ → Type 0) (laid : IsLaidOut Z t) (cells : (c : ℕ) → t.executes c ≡ true → 0 < shape_cells (t.shape c)) where
      -- the frame is that of the variable
      frame_is : (f j : ℕ) (q : List Link) (v : Value) → v ≡ Place (Frame n f) q → (y : List Link) × (v ≡ Place (Frame n d) y) → d ≡ f
      frame_is f j q v e y = let both : Place (Frame n d) y.0 ≡ Place (Frame n f) q = sym y.1 ∙ e in cc

      -- what destroys objects of so many cells at a variable comes to the end of it
      pub at_variable : (f q j m e : ℕ) → Destroying source w q (Place (Frame n f) (Slot j ∷ [])) → Z q m → j + 1 * m ≤ e → address p < e
      at_variable f q j m e k z fits =
          let y = lodged k in
          let same : d ≡ f = frame_is f j (Slot j ∷ []) (Place (Frame n f) (Slot j ∷ [])) refl (destroyed_in source w n d p lies k) in
          let counted = laid.counted q m y.class z y.this in
          let there : Within t (Place (Frame n f) (Slot j ∷ [])) (Obj y.class) (Place (Frame n f) p) (Obj y.last) = subst (λ g. Within t (Place (Frame n f) (Slot j ∷ [])) (Obj y.class) (Place (Frame n g) p) (Obj y.last)) same (subst (λ x. Within t (Place (Frame n f) (Slot j ∷ [])) (Obj y.class) x (Obj y.last)) lies y.within) in
          ends_before Z t laid (Frame n f) j (Obj y.class) e p (Obj y.last) (omega (arith, fits, counted)) tt (cells y.last y.executes) there

      -- so it is at an element of an array of so many there
      pub at_element : (f q j m many i e : ℕ) (k : Shape) → Destroying source w q (further (At k i) (Place (Frame n f) (Slot j ∷ []))) → Z q m → j + many * m ≤ e → i < many → ((c : ℕ) → (t.routine q).this ≡ Some c → t.shape c ≡ k) → address p < e
      at_element f q j m many i e k h z fits lt kept =
          let y = lodged h in
          let same : d ≡ f = frame_is f j (At k i ∷ (Slot j ∷ [])) (Place (Frame n f) (At k i ∷ (Slot j ∷ []))) refl (destroyed_in source w n d p lies h) in
          let counted = laid.counted q m y.class z y.this in
          let all : many * shape_cells (t.shape y.class) ≤ many * m = mul-le many (shape_cells (t.shape y.class)) many m (omega arith) counted in
          let each : Within t (Place (Frame n f) (Slot j ∷ [])) (Row many (Obj y.class)) (further (At (t.shape y.class) i) (Place (Frame n f) (Slot j ∷ []))) (Obj y.class) = things.element things.itself i lt in
          let at : Within t (Place (Frame n f) (Slot j ∷ [])) (Row many (Obj y.class)) (further (At k i) (Place (Frame n f) (Slot j ∷ []))) (Obj y.class) = subst (λ x. Within t (Place (Frame n f) (Slot j ∷ [])) (Row many (Obj y.class)) (further (At x i) (Place (Frame n f) (Slot j ∷ []))) (Obj y.class)) (kept y.class y.this) each in
          let on : Within t (Place (Frame n f) (Slot j ∷ [])) (Row many (Obj y.class)) w.place (Obj y.last) = within_on t (Place (Frame n f) (Slot j ∷ [])) (Row many (Obj y.class)) at y.within in
          let there : Within t (Place (Frame n f) (Slot j ∷ [])) (Row many (Obj y.class)) (Place (Frame n f) p) (Obj y.last) = subst (λ g. Within t (Place (Frame n f) (Slot j ∷ [])) (Row many (Obj y.class)) (Place (Frame n g) p) (Obj y.last)) same (subst (λ x. Within t (Place (Frame n f) (Slot j ∷ [])) (Row many (Obj y.class)) x (Obj y.last)) lies on) in
          ends_before Z t laid (Frame n f) j (Row many (Obj y.class)) e p (Obj y.last) (omega (arith, fits, all)) tt (cells y.last y.executes) there

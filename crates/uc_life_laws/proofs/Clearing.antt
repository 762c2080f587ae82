-- Where fields lie within the cells of their classes, what starts anew lies behind all that is in scope.
use Rattle.std.proofs.Common.{◌≡◌, ℕ, suc, ◌+◌, ◌*◌, ◌≤◌, List, [], ◌∷◌, refl, sym, ap, subst, arith}
use Rattle.std.specs.Prelude.{min}
use Rattle.std.proofs.Math.Nat.{min-le_left}
use Rattle.std.proofs.lemmas.Nat.{mul-le}
use Rattle.uc_tree.specs.Source as src
use Rattle.uc_tree.specs.Source.{Expr, CleanUp, shape_cells, field_cells}
use Rattle.uc_machine.specs.declared.exec.Exec.{Exec}
use Rattle.uc_machine.specs.declared.exec.Owner.{Owner}
use Rattle.uc_machine.specs.declared.exec.Owner.TheVariants.{Frame}
use Rattle.uc_machine.specs.Pieces as piece
use Rattle.uc_machine.specs.Pieces.{Link, Slot, FieldAt, At, Value, Place, Todo, Sort, Active, State, LAST_ADDRESS, address, further}
use Rattle.uc_typing.specs.Typing.{Ty, Num, Cell, Obj, Raw, Row, Clu, Pro, Table, element_shape, DestroysAt, CleansAt}
use Rattle.uc_state_laws.specs.Rooms.{LiesAt, LiesIn, Destroyed, Lies}
use Rattle.uc_state_laws.specs.RoomStates as rooms
use Rattle.uc_state_laws.specs.RoomStacks as stacks
use Rattle.uc_state_laws.specs.RoomStacks.{StackState}
use Rattle.uc_state_laws.proofs.StackWalk.{cleared}
use Rattle.uc_life_laws.specs.Things.{Within, itself, field, element, LiesBefore}
use Rattle.uc_life_laws.specs.LifeStates.{MarkBefore, AllBefore, FrameBefore, ClearsAt, Clears}
use Rattle.uc_life_laws.specs.LifeRuns.{span, IsFlat, IsLaidOut}

module _ (Z : ℕ → ℕ → Type 0) (t : Table) (l : IsLaidOut Z t) where
  -- an element has the cells of its shape
  element_span : (m : ℕ) (a : Ty) → IsFlat (Row m a) → span t a ≤ shape_cells (element_shape t a)
  element_span m Num f = omega arith
  element_span m (Cell a) f = omega arith
  element_span m (Obj c) f = omega arith
  element_span m (Raw c) f = omega arith
  element_span m (Row k a) f = absurd f
  element_span m Clu f = omega arith
  element_span m Pro f = omega arith

  element_flat : (m : ℕ) (a : Ty) → IsFlat (Row m a) → IsFlat a
  element_flat m Num f = tt
  element_flat m (Cell a) f = tt
  element_flat m (Obj c) f = tt
  element_flat m (Raw c) f = tt
  element_flat m (Row k a) f = absurd f
  element_flat m Clu f = tt
  element_flat m Pro f = tt

  module _ (o : Owner) (k : ℕ) (a : Ty) where
    -- a place within what stands at a variable: so many cells of that lie before it
    record Placed (v : Value) (b : Ty) : Type 0 where
      pub path : List Link
      pub at : v ≡ Place o path
      pub before : ℕ
      pub low : address path ≤ k + before
      pub high : before + span t b ≤ span t a
      pub flat : IsFlat b

    placed : IsFlat a → {v : Value} {b : Ty} → Within t (Place o (Slot k ∷ [])) a v b → Placed v b
    placed flat itself = record {
      path = Slot k ∷ [];
      at = refl;
      before = 0;
      low = let m : min (0 + k) LAST_ADDRESS ≤ 0 + k = min-le_left (0 + k) LAST_ADDRESS in omega (arith, m);
      high = omega arith;
      flat = flat;
    }
    placed flat (field {v} {c} h i f) =
        let p = placed flat h in
        let w = field_cells (t.shape c) i in
        let fits = l.fields c i f in
        let m : min (address p.path + w) LAST_ADDRESS ≤ address p.path + w = min-le_left (address p.path + w) LAST_ADDRESS in
        let low = p.low in
        let high = p.high in
        record {
          path = FieldAt (t.shape c) i ∷ p.path;
          at = ap (further (FieldAt (t.shape c) i)) p.at;
          before = p.before + w;
          low = omega (arith, m, low);
          high = omega (arith, fits, high);
          flat = l.flat c i f;
        }
    placed flat (element {v} {m} {b} h j lt) =
        let p = placed flat h in
        let n = shape_cells (element_shape t b) in
        let s = element_span m b p.flat in
        let x : min (address p.path + j * n) LAST_ADDRESS ≤ address p.path + j * n = min-le_left (address p.path + j * n) LAST_ADDRESS in
        let low = p.low in
        let high = p.high in
        let more : suc j * n ≤ m * n = mul-le (suc j) n m n (omega (arith, lt)) (omega arith) in
        record {
          path = At (element_shape t b) j ∷ p.path;
          at = ap (further (At (element_shape t b) j)) p.at;
          before = p.before + j * n;
          low = omega (arith, x, low);
          high = omega (arith, s, high, more);
          flat = element_flat m b p.flat;
        }

    path_is : (p q : List Link) → Place o p ≡ Place o q → p ≡ q
    path_is p q e = cc

    lies_before : (cell : ℕ) → k + span t a ≤ cell → IsFlat a → LiesBefore t cell o (Place o (Slot k ∷ [])) a
    lies_before cell fits flat p b i =
        let q = placed flat i in
        let e : address p ≡ address q.path = ap address (path_is p q.path q.at) in
        let low = q.low in
        let high : q.before + 1 ≤ span t a = q.high in
        omega (arith, e, low, high, fits)

  -- what destroys an object at a place is counted with at least the cells of that
  record Counted (lies : ℕ → Expr → Type 0) (place : Expr) (a : Ty) : Type 0 where
    pub cells : ℕ
    pub lies_there : lies cells place
    pub own : span t a ≤ cells
    pub each : shape_cells (element_shape t a) ≤ cells
    pub flat : (m : ℕ) → IsFlat (Row m a)

  destroyed : (lies : ℕ → Expr → Type 0) (place : Expr) (a : Ty) (e : Expr) → DestroysAt t a place e → Destroyed Z lies e → Counted lies place a
  destroyed lies place (Obj c) (src.OfObject (src.CallOn r x args)) d h =
      let n = l.counted r h.0 c h.1 d.1 in
      record { cells = h.0; lies_there = subst (lies h.0) (sym d.0) h.2; own = n; each = n; flat = λ m. tt }
  destroyed lies place (Obj c) (src.OfObject (src.CallUnwritten r x)) d h =
      let n = l.counted r h.0 c h.1 d.1 in
      record { cells = h.0; lies_there = subst (lies h.0) (sym d.0) h.2; own = n; each = n; flat = λ m. tt }
  destroyed lies place (Cell (Obj c)) (src.OfObject (src.EndOn r written (src.Load x))) d h =
      record { cells = 1; lies_there = subst (lies 1) (sym d.0) h; own = omega arith; each = omega arith; flat = λ m. tt }
  destroyed lies place (Cell Clu) (src.OfObject (src.EndCluster (src.Load x))) d h =
      record { cells = 1; lies_there = subst (lies 1) (sym d) h; own = omega arith; each = omega arith; flat = λ m. tt }
  destroyed lies place (Cell Pro) (src.OfObject (src.EndProcessor (src.Load x))) d h =
      record { cells = 1; lies_there = subst (lies 1) (sym d) h; own = omega arith; each = omega arith; flat = λ m. tt }
  destroyed lies place a e d h = absurd d

  clean_before : (o : Owner) (cell k : ℕ) (a : Ty) (c : CleanUp) → Lies Z 0 cell c → CleansAt t a (src.Variable k) c → LiesBefore t cell o (Place o (Slot k ∷ [])) a
  clean_before o cell k a (src.Destroys e) h d =
      let n = destroyed (LiesAt Z 0 cell 1) (src.Variable k) a e d h in
      let own = n.own in
      let fits : k + 1 * n.cells ≤ cell = n.lies_there.1 in
      lies_before o k a cell (omega (arith, own, fits)) (element_flat 0 a (n.flat 0))
  clean_before o cell k (Row m a) (src.DestroysAll j e) h d =
      let n = destroyed (LiesIn Z 0 cell j) (src.Element m (element_shape t a) (src.Variable k) (src.OfObject src.Counted)) a e d.1 h in
      let each = n.each in
      let fits : k + j * n.cells ≤ cell = n.lies_there.1.1 in
      let same : m ≡ j = d.0 in
      let all : m * shape_cells (element_shape t a) ≤ j * n.cells = mul-le m (shape_cells (element_shape t a)) j n.cells (omega (arith, same)) each in
      lies_before o k (Row m a) cell (omega (arith, fits, all)) (n.flat m)
  clean_before o cell k a (src.DestroysAll j e) h d = absurd d
  clean_before o cell k a c h d = absurd d

  mark_before : (n : Exec) (cell f : ℕ) (s : Sort) (A B : Type 0) → (A → B) → rooms.IsBefore Z cell s → A → MarkBefore t n cell f s B
  mark_before n cell f (piece.IsClean c) A B g h k = ((λ j a d. clean_before (Frame n f) cell j a c h d), g k)
  mark_before n cell f s A B g h k = g k

  all_before : (n : Exec) (cell f : ℕ) (todo : List Todo) → rooms.AllBefore Z cell todo → AllBefore t n cell f todo
  all_before n cell f [] h = tt
  all_before n cell f (p ∷ todo) h = mark_before n cell f (piece.sort p) _ _ (all_before n cell f todo) h.0 h.1

  frame_before : (n : Exec) (cell f : ℕ) (cs : List Active) → stacks.FrameBefore Z cell f cs → FrameBefore t n cell f cs
  frame_before n cell f [] h = tt
  frame_before n cell f (c ∷ cs) h = ((λ e. all_before n cell f c.control (h.0 e)), frame_before n cell f cs h.1)

  pub clears : (s : State) → StackState Z s → Clears t s
  clears s st = by s.run.control refl
    where
      by : (todo : List Todo) → s.run.control ≡ todo → ClearsAt t todo s
      by (piece.ClearNow k m ∷ todo) e = frame_before s.env.exec k s.run.frame (s.run ∷ s.callers) (cleared Z s st k m todo e)
      by todo e = tt

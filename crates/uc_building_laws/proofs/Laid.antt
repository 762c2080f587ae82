-- Where fields lie within the cells of their classes, what starts anew lies behind what is being built.
use Rattle.std.proofs.Common.{◌≡◌, ℕ, suc, ◌+◌, ◌*◌, ◌≤◌, Bool, List, [], ◌∷◌, length, refl, sym, ap, subst, arith}
use Rattle.std.specs.Prelude.{min}
use Rattle.std.proofs.Math.Nat.{min-le_left}
use Rattle.std.proofs.lemmas.Nat.{mul-le}
use Rattle.uc_tree.specs.Source as src
use Rattle.uc_tree.specs.Source.{Expr, CleanUp, Variable, shape_cells, field_cells}
use Rattle.uc_machine.specs.declared.exec.Exec.{Exec}
use Rattle.uc_machine.specs.declared.exec.Owner.{Owner}
use Rattle.uc_machine.specs.declared.exec.Owner.TheVariants.{Frame}
use Rattle.uc_machine.specs.Pieces as piece
use Rattle.uc_machine.specs.Pieces.{Link, Slot, FieldAt, At, Value, Place, Todo, Sort, Active, State, LAST_ADDRESS, address, further}
use Rattle.uc_typing.specs.Typing.{Ty, Num, Cell, Obj, Raw, Row, Clu, Pro, Sig, Table, element_shape, DestroysAt, CleansAt}
use Rattle.uc_state_laws.specs.Layout.{Sized}
use Rattle.uc_state_laws.specs.Rooms.{Room, LiesAt, Destroyed, Lies}
use Rattle.uc_state_laws.specs.RoomStates.{Reached, PieceIn}
use Rattle.uc_state_laws.specs.RoomStacks.{UpTo, frame_cells, TodoTo, Beneath, Stack, FrameBeneath, StackState}
use Rattle.uc_state_laws.proofs.Stacks.{forget, some_up}
use Rattle.uc_state_laws.proofs.StackWalk.{beneath}
use Rattle.uc_life_laws.specs.LifeStates.{frame_at}
use Rattle.uc_life_laws.specs.Things.{Few, Within, itself, field, element, LiesBefore}
use Rattle.uc_life_laws.specs.LifeRuns.{span, IsFlat, IsLaidOut}
use Rattle.uc_building_laws.specs.BuildingStates.{variable, Awaits}
use Rattle.uc_building_laws.specs.BuildingLaws.{AwaitedBefore, ClearsAt, Clears, LawClears}
use Rattle.uc_building_laws.proofs.Building.{Lying}

module _ (Z : ℕ → ℕ → Type 0) (t : Table) (l : IsLaidOut Z t) where
  -- an element has the cells of its shape
  element_span : (m : ℕ) (a : Ty) → IsFlat (Row m a) → span t a ≤ shape_cells (element_shape t a)
  element_span m Num f = omega arith
  element_span m (Cell a) f = omega arith
  element_span m (Obj c) f = omega arith
  element_span m (Raw c) f = omega arith
  element_span m (Row k a) f = absurd f
  element_span m Clu f = omega arith
  element_span m Pro f = omega arith

  element_flat : (m : ℕ) (a : Ty) → IsFlat (Row m a) → IsFlat a
  element_flat m Num f = tt
  element_flat m (Cell a) f = tt
  element_flat m (Obj c) f = tt
  element_flat m (Raw c) f = tt
  element_flat m (Row k a) f = absurd f
  element_flat m Clu f = tt
  element_flat m Pro f = tt

  module _ (o : Owner) (k : ℕ) (a : Ty) where
    -- a place within what stands at a variable: so many cells of that lie before it
    record Placed (v : Value) (b : Ty) : Type 0 where
      pub path : List Link
      pub at : v ≡ Place o path
      pub before : ℕ
      pub low : address path ≤ k + before
      pub high : before + span t b ≤ span t a
      pub flat : IsFlat b

    placed : IsFlat a → {v : Value} {b : Ty} → Within t (Place o (Slot k ∷ [])) a v b → Placed v b
    placed flat itself = record {
      path = Slot k ∷ [];
      at = refl;
      before = 0;
      low = let m : min (0 + k) LAST_ADDRESS ≤ 0 + k = min-le_left (0 + k) LAST_ADDRESS in omega (arith, m);
      high = omega arith;
      flat = flat;
    }
    placed flat (field {v} {c} h i f) =
        let p = placed flat h in
        let w = field_cells (t.shape c) i in
        let fits = l.fields c i f in
        let m : min (address p.path + w) LAST_ADDRESS ≤ address p.path + w = min-le_left (address p.path + w) LAST_ADDRESS in
        let low = p.low in
        let high = p.high in
        record {
          path = FieldAt (t.shape c) i ∷ p.path;
          at = ap (further (FieldAt (t.shape c) i)) p.at;
          before = p.before + w;
          low = omega (arith, m, low);
          high = omega (arith, fits, high);
          flat = l.flat c i f;
        }
    placed flat (element {v} {m} {b} h j lt) =
        let p = placed flat h in
        let n = shape_cells (element_shape t b) in
        let s = element_span m b p.flat in
        let x : min (address p.path + j * n) LAST_ADDRESS ≤ address p.path + j * n = min-le_left (address p.path + j * n) LAST_ADDRESS in
        let low = p.low in
        let high = p.high in
        let more : suc j * n ≤ m * n = mul-le (suc j) n m n (omega (arith, lt)) (omega arith) in
        record {
          path = At (element_shape t b) j ∷ p.path;
          at = ap (further (At (element_shape t b) j)) p.at;
          before = p.before + j * n;
          low = omega (arith, x, low);
          high = omega (arith, s, high, more);
          flat = element_flat m b p.flat;
        }

    path_is : (p q : List Link) → Place o p ≡ Place o q → p ≡ q
    path_is p q e = cc

    lies_before : (cell : ℕ) → k + span t a ≤ cell → IsFlat a → LiesBefore t cell o (Place o (Slot k ∷ [])) a
    lies_before cell fits flat p b i =
        let q = placed flat i in
        let e : address p ≡ address q.path = ap address (path_is p q.path q.at) in
        let low = q.low in
        let high : q.before + 1 ≤ span t a = q.high in
        omega (arith, e, low, high, fits)

  -- an object that is destroyed at a variable
  destroyed : (o : Owner) (cell low high k i : ℕ) (e : Expr) → high ≤ cell → DestroysAt t (Obj i) (Variable k) e → Destroyed Z (LiesAt Z low high 1) e → LiesBefore t cell o (Place o (Slot k ∷ [])) (Obj i)
  destroyed o cell low high k i (src.OfObject (src.CallOn r x args)) le d h =
      let n = l.counted r h.0 i h.1 d.1 in
      let y : LiesAt Z low high 1 h.0 (Variable k) = subst (LiesAt Z low high 1 h.0) (sym d.0) h.2 in
      let fits : k + 1 * h.0 ≤ high = y.1 in
      lies_before o k (Obj i) cell (omega (arith, n, fits, le)) tt
  destroyed o cell low high k i (src.OfObject (src.CallUnwritten r x)) le d h =
      let n = l.counted r h.0 i h.1 d.1 in
      let y : LiesAt Z low high 1 h.0 (Variable k) = subst (LiesAt Z low high 1 h.0) (sym d.0) h.2 in
      let fits : k + 1 * h.0 ≤ high = y.1 in
      lies_before o k (Obj i) cell (omega (arith, n, fits, le)) tt
  destroyed o cell low high k i e le d h = absurd d

  cleaned : (o : Owner) (cell low high k i : ℕ) (c : CleanUp) → high ≤ cell → CleansAt t (Obj i) (Variable k) c → Lies Z low high c → LiesBefore t cell o (Place o (Slot k ∷ [])) (Obj i)
  cleaned o cell low high k i (src.Destroys e) le d h = destroyed o cell low high k i e le d h
  cleaned o cell low high k i (src.DestroysAll m e) le d h = absurd d
  cleaned o cell low high k i c le d h = absurd d

  -- where one waits for a scope, that begins behind what it is of
  awaited : (n : Exec) (f cell : ℕ) (todo : List Todo) → Beneath Z cell todo → Awaits (λ c rest. (k i : ℕ) → CleansAt t (Obj i) (Variable k) c → LiesBefore t cell (Frame n f) (variable n f k) (Obj i)) todo
  awaited n f cell (piece.DropNow ∷ (piece.Within line ∷ (piece.Rest (src.Scoped c ss) ∷ todo))) h = λ k i d.
      let o : Room = h.0 in
      let high = h.1 in
      let body = h.2.1.1.0 in
      let m : Room = body.0 in
      let w = body.1 in
      let cells = w.cells in
      let top = w.high in
      cleaned (Frame n f) cell o.low m.low k i c (omega (arith, high, cells, top)) d body.2.0
  awaited n f cell todo h = tt

  -- rooms that end before a cell, from the innermost on
  high_by : (cell : ℕ) (k : Sort) (simple : Type 0) (o : Room) (P : Room → Type 0) → ((m : Room) → P m → m.high ≤ cell) → Reached Z o k simple P → o.high ≤ cell
  high_by cell piece.Simple x o P f h = f o h.1
  high_by cell (piece.IsLoop order e step b) x o P f h = f o h.1
  high_by cell piece.IsWhole x o P f h = f o h
  high_by cell (piece.IsClean c) x o P f h =
      let n = f h.0 h.3 in
      let high = h.1.high in
      omega (arith, n, high)
  high_by cell (piece.IsFill n b d) x o P f h = f o h.1
  high_by cell (piece.IsSweep e) x o P f h = f o h.1
  high_by cell (piece.IsPart c) x o P f h = f o h.1
  high_by cell (piece.IsGuard hs) x o P f h =
      let n = f h.0 h.6 in
      let high = h.2.high in
      omega (arith, n, high)
  high_by cell piece.IsFinish x o P f h = f o h
  high_by cell piece.IsFinishCoroutine x o P f h = f o h

  high_at : (cell : ℕ) (o : Room) (todo : List Todo) → TodoTo Z (UpTo cell) o todo → o.high ≤ cell
  high_at cell o [] h = h.1
  high_at cell o (p ∷ todo) h = high_by cell (piece.sort p) (PieceIn Z o p) o (λ m. TodoTo Z (UpTo cell) m todo) (λ m k. high_at cell m todo k) h

  -- what is awaited lies within its frame
  pub lying : (heads : ℕ → ℕ → Bool) (few : Few) (kinds : List Sig) (n : Exec) (fs : List (List Value)) (cs : List Active) → Stack Z fs cs → Lying t heads few kinds n (λ g k i. LiesBefore t (length (frame_at g fs)) (Frame n g) (variable n g k) (Obj i)) cs
  lying heads few kinds n fs [] h = tt
  lying heads few kinds n fs (b ∷ older) h =
      let u = some_up Z h.0.top (frame_cells fs b.frame) b.control h.0.cells h.0.fits in
      awaited n b.frame (length (frame_at b.frame fs)) b.control (u.0, high_at (frame_cells fs b.frame) u.0 b.control u.1, forget Z (UpTo (frame_cells fs b.frame)) u.0 b.control u.1)

  all_awaited : (n : Exec) (cell f : ℕ) (cs : List Active) → FrameBeneath Z cell f cs → AwaitedBefore t n cell f cs
  all_awaited n cell f [] h = tt
  all_awaited n cell f (a ∷ older) h = ((λ e. awaited n a.frame cell a.control (h.0 e)), all_awaited n cell f older h.1)

  pub clears : (s : State) → StackState Z s → Clears t s
  clears s st = by s.run.control refl
    where
      by : (todo : List Todo) → s.run.control ≡ todo → ClearsAt t todo s
      by (piece.ClearNow k m ∷ todo) e = all_awaited s.env.exec k s.run.frame s.callers (beneath Z s st k m todo e)
      by todo e = tt

pub law_clears : LawClears
law_clears p t laid s st = clears (Sized p) t laid s st

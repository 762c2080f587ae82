-- Marks of variables that lie before a cell: none stands around a mutex object in what is at a variable there.
use Rattle.std.proofs.Common.{◌≡◌, ℕ, ◌+◌, ◌*◌, ◌≤◌, ◌<◌, inl, inr, List, [], ◌∷◌, refl, sym, subst, arith}
use Rattle.std.proofs.lemmas.Nat.{mul-le}
use Rattle.uc_tree.specs.Source as src
use Rattle.uc_tree.specs.Source.{Expr, CleanUp, shape_cells}
use Rattle.uc_machine.specs.declared.exec.Exec.{Exec}
use Rattle.uc_machine.specs.declared.exec.Owner.TheVariants.{Frame, Fields}
use Rattle.uc_machine.specs.Pieces as piece
use Rattle.uc_machine.specs.Pieces.{Slot, Value, Todo, Sort, Active}
use Rattle.uc_typing.specs.Typing.{Ty, Num, Cell, Obj, Raw, Row, Clu, Pro, Table, element_shape, DestroysAt, CleansAt}
use Rattle.uc_state_laws.specs.Rooms.{LiesAt, LiesIn, Destroyed, Lies}
use Rattle.uc_state_laws.specs.RoomStates as rooms
use Rattle.uc_state_laws.specs.RoomStacks as stacks
use Rattle.uc_life_laws.specs.Things.{Few, Within, itself, field, element, AtVariable, Nowhere, Marks, InTodo, Variables}
use Rattle.uc_life_laws.specs.LifeRuns.{span, IsFlat, IsLaidOut}
use Rattle.uc_putting_laws.specs.ObjectsAtHand as hand
use Rattle.uc_putting_laws.specs.ObjectsAtHand.{OwnedBy, LiesUnder, there, at_home, variable}
use Rattle.uc_putting_laws.proofs.ObjectsWithin.{owner_one, owned_under, one_object, no_frame, within_under}
use Rattle.uc_putting_laws.proofs.Fields.{one_tail, path_of, tail_under}

module _ (few : Few) (n : Exec) where
  frame_same : (g f : ℕ) → Frame n g ≡ Frame n f → g ≡ f
  frame_same g f e = cc

  slot_same : (j k : ℕ) → Slot j ≡ Slot k → j ≡ k
  slot_same j k e = cc

  -- two variables in which one place lies, or is at home further in, are one
  pub variable_one : (f k g j : ℕ) (v : Value) → hand.LiesIn few (variable n f k) v → hand.LiesIn few (variable n g j) v → (f ≡ g) × (k ≡ j)
  variable_one f k g j v (there h) (there i) =
      let a : OwnedBy (Frame n f) v = owned_under (Frame n f) (variable n f k) refl v h in
      let b : OwnedBy (Frame n g) v = owned_under (Frame n g) (variable n g j) refl v i in
      (frame_same f g (owner_one (Frame n f) (Frame n g) v a b), slot_same k j (one_tail (Slot k) (Slot j) [] [] (path_of v) refl (tail_under (Frame n f) (variable n f k) refl v h) (tail_under (Frame n g) (variable n g j) refl v i)))
  variable_one f k g j v (there h) (at_home {o = x} i q) =
      absurd (no_frame n f x (owner_one (Frame n f) (Fields x) v (owned_under (Frame n f) (variable n f k) refl v h) q))
  variable_one f k g j v (at_home {o = x} h q) (there i) =
      absurd (no_frame n g x (owner_one (Frame n g) (Fields x) v (owned_under (Frame n g) (variable n g j) refl v i) q))
  variable_one f k g j v (at_home {o = x} h q) (at_home {o = y} i r) =
      variable_one f k g j (few.home x) h (subst (λ z. hand.LiesIn few (variable n g j) (few.home z)) (one_object y x (owner_one (Fields y) (Fields x) v r q)) i)

module _ (Z : ℕ → ℕ → Type 0) (t : Table) (l : IsLaidOut Z t) where
  -- cells of what lies within

  element_span : (m : ℕ) (a : Ty) → IsFlat (Row m a) → span t a ≤ shape_cells (element_shape t a)
  element_span m Num f = omega arith
  element_span m (Cell a) f = omega arith
  element_span m (Obj c) f = omega arith
  element_span m (Raw c) f = omega arith
  element_span m (Row k a) f = absurd f
  element_span m Clu f = omega arith
  element_span m Pro f = omega arith

  element_flat : (m : ℕ) (a : Ty) → IsFlat (Row m a) → IsFlat a
  element_flat m Num f = tt
  element_flat m (Cell a) f = tt
  element_flat m (Obj c) f = tt
  element_flat m (Raw c) f = tt
  element_flat m (Row k a) f = absurd f
  element_flat m Clu f = tt
  element_flat m Pro f = tt

  record Spanned (a b : Ty) : Type 0 where
    cells : span t b ≤ span t a
    flat : IsFlat b

  spanned : (w : Value) (a : Ty) (v : Value) (b : Ty) → IsFlat a → Within t w a v b → Spanned a b
  spanned w a v b f itself = record { cells = omega arith; flat = f }
  spanned w a v b f (field {v = x} {c} h i k) =
      let s = spanned w a x (Obj c) f h in
      let cells : span t (Obj c) ≤ span t a = s.cells in
      let fits = l.fields c i k in
      record { cells = omega (arith, cells, fits); flat = l.flat c i k }
  spanned w a v b f (element {v = x} {m} {b = d} h j lt) =
      let s = spanned w a x (Row m d) f h in
      let cells : m * shape_cells (element_shape t d) ≤ span t a = s.cells in
      let one = element_span m d s.flat in
      let more : 1 * shape_cells (element_shape t d) ≤ m * shape_cells (element_shape t d) = mul-le 1 (shape_cells (element_shape t d)) m (shape_cells (element_shape t d)) (omega (arith, lt)) (omega arith) in
      record { cells = omega (arith, cells, one, more); flat = element_flat m d s.flat }

  -- what a clean-up destroys is counted with at least its cells
  record IsCounted (lies : ℕ → Expr → Type 0) (place : Expr) (a : Ty) : Type 0 where
    cells : ℕ
    lies_there : lies cells place
    own : span t a ≤ cells
    each : shape_cells (element_shape t a) ≤ cells
    flat : (m : ℕ) → IsFlat (Row m a)

  counted : (lies : ℕ → Expr → Type 0) (place : Expr) (a : Ty) (e : Expr) → DestroysAt t a place e → Destroyed Z lies e → IsCounted lies place a
  counted lies place (Obj c) (src.OfObject (src.CallOn r x args)) d h =
      let n = l.counted r h.0 c h.1 d.1 in
      record { cells = h.0; lies_there = subst (lies h.0) (sym d.0) h.2; own = n; each = n; flat = λ m. tt }
  counted lies place (Obj c) (src.OfObject (src.CallUnwritten r x)) d h =
      let n = l.counted r h.0 c h.1 d.1 in
      record { cells = h.0; lies_there = subst (lies h.0) (sym d.0) h.2; own = n; each = n; flat = λ m. tt }
  counted lies place (Cell (Obj c)) (src.OfObject (src.EndOn r written (src.Load x))) d h =
      record { cells = 1; lies_there = subst (lies 1) (sym d.0) h; own = omega arith; each = omega arith; flat = λ m. tt }
  counted lies place (Cell Clu) (src.OfObject (src.EndCluster (src.Load x))) d h =
      record { cells = 1; lies_there = subst (lies 1) (sym d) h; own = omega arith; each = omega arith; flat = λ m. tt }
  counted lies place (Cell Pro) (src.OfObject (src.EndProcessor (src.Load x))) d h =
      record { cells = 1; lies_there = subst (lies 1) (sym d) h; own = omega arith; each = omega arith; flat = λ m. tt }
  counted lies place a e d h = absurd d

  -- where a mutex object lies in it, it ends behind the cell at which it begins
  pub behind_cell : (low high k : ℕ) (a : Ty) (c : CleanUp) → Lies Z low high c → CleansAt t a (src.Variable k) c → (w v : Value) (e : ℕ) → Within t w a v (Cell (Obj e)) → k < high
  behind_cell low high k a (src.Destroys x) h d w v e i =
      let n = counted (LiesAt Z low high 1) (src.Variable k) a x d h in
      let s = spanned w a v (Cell (Obj e)) (element_flat 0 a (n.flat 0)) i in
      let cells : 1 ≤ span t a = s.cells in
      let own = n.own in
      let fits : k + 1 * n.cells ≤ high = n.lies_there.1 in
      omega (arith, cells, own, fits)
  behind_cell low high k (Row m a) (src.DestroysAll j x) h d w v e i =
      let n = counted (LiesIn Z low high j) (src.Element m (element_shape t a) (src.Variable k) (src.OfObject src.Counted)) a x d.1 h in
      let s = spanned w (Row m a) v (Cell (Obj e)) (n.flat m) i in
      let cells : 1 ≤ m * shape_cells (element_shape t a) = s.cells in
      let each = n.each in
      let fits : k + j * n.cells ≤ high = n.lies_there.1.1 in
      let same : m ≡ j = d.0 in
      let all : m * shape_cells (element_shape t a) ≤ j * n.cells = mul-le m (shape_cells (element_shape t a)) j n.cells (omega (arith, same)) each in
      omega (arith, cells, all, fits)
  behind_cell low high k a (src.DestroysAll j x) h d w v e i = absurd d
  behind_cell low high k a c h d w v e i = absurd d

  -- so none lies in what begins at a cell before which it ends
  ends_at_cell : (k : ℕ) (a : Ty) (c : CleanUp) → Lies Z 0 k c → CleansAt t a (src.Variable k) c → (w v : Value) (e : ℕ) → Within t w a v (Cell (Obj e)) → ⊥
  ends_at_cell k a c h d w v e i =
      let less : k < k = behind_cell 0 k k a c h d w v e i in
      omega (arith, less)

  module _ (few : Few) (n : Exec) (f k : ℕ) where
    -- two variables around one place are one
    frame_one : (g j : ℕ) → Frame n g ≡ Frame n f → g ≡ f
    frame_one g j e = cc

    slot_one : (j i : ℕ) → Slot j ≡ Slot i → j ≡ i
    slot_one j i e = cc

    same_variable : (g j : ℕ) (v : Value) → LiesUnder (variable n g j) v → LiesUnder (variable n f k) v → (g ≡ f) × (j ≡ k)
    same_variable g j v h i =
        let a : OwnedBy (Frame n g) v = owned_under (Frame n g) (variable n g j) refl v h in
        let b : OwnedBy (Frame n f) v = owned_under (Frame n f) (variable n f k) refl v i in
        (frame_one g j (owner_one (Frame n g) (Frame n f) v a b), slot_one j k (one_tail (Slot j) (Slot k) [] [] (path_of v) refl (tail_under (Frame n g) (variable n g j) refl v h) (tail_under (Frame n f) (variable n f k) refl v i)))

    -- a mark of a variable in the frame that ends before the cell

    at_variable : (g : ℕ) (this : Value) (c : CleanUp) (w : Value) (a : Ty) (v : Value) (e : ℕ) → (g ≡ f → Lies Z 0 k c) → AtVariable t (Frame n g) this c w a → Within t w a v (Cell (Obj e)) → hand.LiesIn few (variable n f k) v → ⊥
    at_variable g this c w a v e before m h (there u) =
        let same = same_variable g m.0 v (subst (λ x. LiesUnder x v) m.2 (within_under t w a v (Cell (Obj e)) h)) u in
        ends_at_cell k a c (before same.0) (subst (λ j. CleansAt t a (src.Variable j) c) same.1 m.1) w v e h
    at_variable g this c w a v e before m h (at_home {o = o} u q) =
        let mine : OwnedBy (Frame n g) v = owned_under (Frame n g) (variable n g m.0) refl v (subst (λ x. LiesUnder x v) m.2 (within_under t w a v (Cell (Obj e)) h)) in
        no_frame n g o (owner_one (Frame n g) (Fields o) v mine q)

    in_sort : (g : ℕ) (this : Value) (s : Sort) (w : Value) (a : Ty) (v : Value) (e : ℕ) (R : Type 0) → (g ≡ f → rooms.IsBefore Z k s) → (R → ⊥) → Marks (AtVariable t (Frame n g) this) (Nowhere (Frame n g) this) s w a R → Within t w a v (Cell (Obj e)) → hand.LiesIn few (variable n f k) v → ⊥
    in_sort g this (piece.IsClean c) w a v e R before next (inl m) h u = at_variable g this c w a v e before m h u
    in_sort g this (piece.IsClean c) w a v e R before next (inr m) h u = next m
    in_sort g this (piece.IsPart c) w a v e R before next (inl m) h u = absurd m
    in_sort g this (piece.IsPart c) w a v e R before next (inr m) h u = next m
    in_sort g this piece.Simple w a v e R before next m h u = next m
    in_sort g this (piece.IsLoop x y z q) w a v e R before next m h u = next m
    in_sort g this piece.IsWhole w a v e R before next m h u = next m
    in_sort g this (piece.IsFill x y z) w a v e R before next m h u = next m
    in_sort g this (piece.IsSweep x) w a v e R before next m h u = next m
    in_sort g this (piece.IsGuard x) w a v e R before next m h u = next m
    in_sort g this piece.IsFinish w a v e R before next m h u = next m
    in_sort g this piece.IsFinishCoroutine w a v e R before next m h u = next m

    in_todo : (g : ℕ) (this : Value) (todo : List Todo) (w : Value) (a : Ty) (v : Value) (e : ℕ) → (g ≡ f → rooms.AllBefore Z k todo) → InTodo (AtVariable t (Frame n g) this) (Nowhere (Frame n g) this) todo w a → Within t w a v (Cell (Obj e)) → hand.LiesIn few (variable n f k) v → ⊥
    in_todo g this [] w a v e before m h u = m
    in_todo g this (p ∷ todo) w a v e before m h u =
        in_sort g this (piece.sort p) w a v e _ (λ q. (before q).0) (λ r. in_todo g this todo w a v e (λ q. (before q).1) r h u) m h u

    pub no_variable : (cs : List Active) (w : Value) (a : Ty) (v : Value) (e : ℕ) → stacks.FrameBefore Z k f cs → Variables t n cs w a → Within t w a v (Cell (Obj e)) → hand.LiesIn few (variable n f k) v → ⊥
    no_variable [] w a v e before m h u = m
    no_variable (c ∷ older) w a v e before (inl m) h u = in_todo c.frame c.this c.control w a v e before.0 m h u
    no_variable (c ∷ older) w a v e before (inr m) h u = no_variable older w a v e before.1 m h u

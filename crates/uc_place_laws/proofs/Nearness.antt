-- What is built in a room lies behind all that older activations have still to bind in the frame.
use Rattle.std.proofs.Common.{◌≡◌, ℕ, suc, ◌+◌, ◌*◌, ◌≤◌, ◌<◌, inl, inr, Bool, List, [], ◌∷◌, Option, sym, arith}
use Rattle.std.specs.Prelude.{min}
use Rattle.std.proofs.Math.Nat.{min-le_left, min-le_right, le-min}
use Rattle.uc_tree.specs.Source as src
use Rattle.uc_tree.specs.Source.{Expr, CleanUp, Stmts, Stmt, Raised, Source}
use Rattle.uc_machine.specs.declared.exec.Exec.{Exec}
use Rattle.uc_machine.specs.declared.exec.Visited.{Visited}
use Rattle.uc_machine.specs.Pieces as piece
use Rattle.uc_machine.specs.Pieces.{Slot, At, LAST_ADDRESS, address, Todo, Sort, Active}
use Rattle.uc_state_laws.specs.Rooms.{Room, IsRoom, IsWithin, LiesAt, LiesIn, Lies, StmtsIn}
use Rattle.uc_state_laws.specs.RoomStates.{PieceIn, Reached, TodoIn}
use Rattle.uc_state_laws.specs.RoomStacks.{From, TodoTo, SomeTo, OverAll}
use Rattle.uc_state_laws.proofs.Stacks.{room_to}
use Rattle.uc_state_laws.specs.There.{OfVariable, OfElements, OfEach, EachNext, IsBefore, OfBound, OpensBound, NextRest, NextDrop, NextCall, Pends}
use Rattle.uc_state_laws.specs.Counted.{params}
use Rattle.uc_place_laws.specs.OlderResting.{AllWait}
use Rattle.uc_place_laws.specs.Opened.{OfPlain}
use Rattle.uc_place_laws.specs.OpeningLaws.{Awaited, AwaitedRest}
use Rattle.uc_place_laws.specs.Calling.{Calling, EndsBefore}
use Rattle.uc_place_laws.specs.Siting.{OpensAt}
use Rattle.uc_place_laws.specs.Asides.{IsNearer, IsNear, Mark, Any, Aside, Loose, rest, rests, anys, Calm, Ok, Runs, Waits, after}
use Rattle.uc_place_laws.proofs.AsideMarks.{calm_pends, calm_none, none_calling}

-- a variable before a cell, at an address of its own
slot_before : (m k : ℕ) → m < k → m < LAST_ADDRESS → IsBefore (address (Slot k ∷ [])) (Slot m ∷ [])
slot_before m k h g =
    let a : min (0 + m) LAST_ADDRESS ≤ 0 + m = min-le_left (0 + m) LAST_ADDRESS in
    let z : suc (min (0 + m) LAST_ADDRESS) ≤ min (0 + k) LAST_ADDRESS = le-min (omega (arith, a, h)) (omega (arith, a, g)) in
    omega (arith, z)

slot_nearer : (m k : ℕ) → m < k → IsNearer (address (Slot k ∷ [])) (Slot m ∷ [])
slot_nearer m k h near =
    let a : min (0 + m) LAST_ADDRESS ≤ 0 + m = min-le_left (0 + m) LAST_ADDRESS in
    let z : suc (min (0 + m) LAST_ADDRESS) ≤ min (0 + k) LAST_ADDRESS = le-min (omega (arith, a, h)) (omega (arith, near)) in
    omega (arith, z)

-- the cells from the last address on are told by that
min_more : (a k : ℕ) → a ≤ k → min a LAST_ADDRESS ≤ address (Slot k ∷ [])
min_more a k h =
    let x : min a LAST_ADDRESS ≤ a = min-le_left a LAST_ADDRESS in
    let y : min a LAST_ADDRESS ≤ LAST_ADDRESS = min-le_right a LAST_ADDRESS in
    le-min (omega (arith, x, h)) (omega (arith, y))

element_nearer : (m j k : ℕ) → m + j < k → IsNearer (address (Slot k ∷ [])) (At src.Binding j ∷ (Slot m ∷ []))
element_nearer m j k h near =
    let a : min (0 + m) LAST_ADDRESS ≤ 0 + m = min-le_left (0 + m) LAST_ADDRESS in
    let b : min (min (0 + m) LAST_ADDRESS + j * 1) LAST_ADDRESS ≤ min (0 + m) LAST_ADDRESS + j * 1 = min-le_left (min (0 + m) LAST_ADDRESS + j * 1) LAST_ADDRESS in
    let z : suc (min (min (0 + m) LAST_ADDRESS + j * 1) LAST_ADDRESS) ≤ min (0 + k) LAST_ADDRESS = le-min (omega (arith, a, b, h)) (omega (arith, near)) in
    omega (arith, z)

module _ (Z : ℕ → ℕ → Type 0) where
  -- rooms that begin behind a cell

  low_by : (s : Sort) (y : Type 0) (o : Room) (x : ℕ) (P : Room → Type 0) → ((m : Room) → P m → x ≤ m.low) → Reached Z o s y P → x ≤ o.low
  low_by piece.Simple y o x P f h = f o h.1
  low_by (piece.IsLoop order t e b) y o x P f h = f o h.1
  low_by piece.IsWhole y o x P f h = f o h
  low_by (piece.IsClean c) y o x P f h =
      let w : IsWithin h.0 o = h.1 in
      let low = w.low in
      let l = f h.0 h.3 in
      omega (arith, low, l)
  low_by (piece.IsFill n b d) y o x P f h = f o h.1
  low_by (piece.IsSweep e) y o x P f h = f o h.1
  low_by (piece.IsPart c) y o x P f h = f o h.1
  low_by (piece.IsGuard hs) y o x P f h =
      let w : IsWithin h.0 o = h.2 in
      let low = w.low in
      let l = f h.0 h.6 in
      omega (arith, low, l)
  low_by piece.IsFinish y o x P f h = f o h
  low_by piece.IsFinishCoroutine y o x P f h = f o h

  pub from_low : (x : ℕ) (o : Room) (todo : List Todo) → TodoTo Z (From x) o todo → x ≤ o.low
  from_low x o [] h = h.1
  from_low x o (p ∷ ps) h = low_by (piece.sort p) (PieceIn Z o p) o x (λ m. TodoTo Z (From x) m ps) (λ m k. from_low x m ps k) h

  -- an object whose scope opens next lies in the room
  at_low : (low high : ℕ) (d : Expr) (k : ℕ) → Lies Z low high (src.Destroys d) → OpensAt (src.Scoped (src.Destroys d) src.Nil) k → low ≤ k
  at_low low high (src.OfObject (src.CallOn r (src.Variable m) args)) k h e = let l = h.2.0 in omega (arith, l, e)
  at_low low high (src.OfObject (src.CallUnwritten r (src.Variable m))) k h e = let l = h.2.0 in omega (arith, l, e)
  at_low low high d k h e = absurd e

  in_low : (low high n : ℕ) (d : Expr) (k : ℕ) → Lies Z low high (src.DestroysAll n d) → OpensAt (src.Scoped (src.DestroysAll n d) src.Nil) k → low ≤ k
  in_low low high n (src.OfObject (src.CallOn r (src.Element i s (src.Variable m) (src.OfObject src.Counted)) args)) k h e = let l = h.2.1.0 in omega (arith, l, e)
  in_low low high n (src.OfObject (src.CallUnwritten r (src.Element i s (src.Variable m) (src.OfObject src.Counted)))) k h e = let l = h.2.1.0 in omega (arith, l, e)
  in_low low high n d k h e = absurd e

  pub scope_low : (o : Room) (ss : Stmts) (k : ℕ) → StmtsIn Z o ss → OpensAt ss k → o.low ≤ k
  scope_low o (src.Scoped (src.Destroys d) rest) k h e = at_low o.low h.0.low d k h.2.0 e
  scope_low o (src.Scoped (src.DestroysAll n d) rest) k h e = in_low o.low h.0.low n d k h.2.0 e
  scope_low o ss k h e = absurd e

  -- what is still to be bound in a room that ends before a variable lies before that

  module _ (k : ℕ) where
    ends_near : (m n : ℕ) → m + n ≤ k → min (m + n) LAST_ADDRESS ≤ address (Slot k ∷ [])
    ends_near m n h = min_more (m + n) k h

    bound_near : (low high : ℕ) (c : CleanUp) → high ≤ k → Lies Z low high c → OfBound (IsBefore (address (Slot k ∷ []))) c
    bound_near low high (src.Destroys (src.OfObject (src.EndProcessor (src.Load (src.Variable m))))) le h = λ near. let l = h.1 in slot_before m k (omega (arith, l, le)) near
    bound_near low high (src.Destroys (src.OfObject (src.EndOn r written (src.Load (src.Variable m))))) le h = λ near. let l = h.1 in slot_before m k (omega (arith, l, le)) near
    bound_near low high c le h = tt

    scope_high : (o m : Room) → IsWithin o m → o.high ≤ k → m.low ≤ k
    scope_high o m w le =
        let a = w.cells in
        let b = w.high in
        omega (arith, a, b, le)

    opens_near : (o : Room) (ss : Stmts) → o.high ≤ k → StmtsIn Z o ss → OpensBound (IsBefore (address (Slot k ∷ []))) ss
    opens_near o (src.Scoped c rest) le h = bound_near o.low h.0.low c (scope_high o h.0 h.1 le) h.2.0
    opens_near o ss le h = tt

    rest_near : (o : Room) (todo : List Todo) → o.high ≤ k → TodoIn Z o todo → NextRest (IsBefore (address (Slot k ∷ []))) todo
    rest_near o (piece.Rest ss ∷ todo) le h = opens_near o ss le h.0
    rest_near o todo le h = tt

    drop_near : (o : Room) (todo : List Todo) → o.high ≤ k → TodoIn Z o todo → NextDrop (IsBefore (address (Slot k ∷ []))) todo
    drop_near o (piece.DropNow ∷ (piece.Within line ∷ (piece.Rest ss ∷ todo))) le h = opens_near o ss le h.1.1.0
    drop_near o todo le h = tt

    call_near : (o : Room) (todo : List Todo) → o.high ≤ k → TodoIn Z o todo → NextCall (IsBefore (address (Slot k ∷ []))) todo
    call_near o (piece.CallOnNow r ∷ todo) le h = drop_near o todo le h.1
    call_near o (piece.CallUnwrittenNow r ∷ todo) le h = drop_near o todo le h.1
    call_near o todo le h = tt

    -- elements of an array that is being filled

    variable_nearer : (low high : ℕ) (e : Expr) → high ≤ k → LiesAt Z low high 1 1 e → OfVariable (IsNearer (address (Slot k ∷ []))) e
    variable_nearer low high (src.Variable m) le h = let l = h.1 in slot_nearer m k (omega (arith, l, le))
    variable_nearer low high e le h = tt

    elements_nearer : (low high n : ℕ) (e : Expr) → high ≤ k → LiesIn Z low high n 1 e → OfElements n (IsNearer (address (Slot k ∷ []))) e
    elements_nearer low high n (src.Element i src.Binding (src.Variable m) (src.OfObject src.Counted)) le h = λ j b. let l = h.1.1 in element_nearer m j k (omega (arith, l, le, b))
    elements_nearer low high n (src.Element i src.Binding (src.Variable m) x) le h = absurd h
    elements_nearer low high n e le h = tt

    each_nearer : (low high : ℕ) (c : CleanUp) → high ≤ k → Lies Z low high c → OfEach (IsNearer (address (Slot k ∷ []))) c
    each_nearer low high (src.Destroys (src.OfObject (src.EndOn r written (src.Load e)))) le h = variable_nearer low high e le h
    each_nearer low high (src.Destroys (src.OfObject (src.EndCluster (src.Load e)))) le h = variable_nearer low high e le h
    each_nearer low high (src.Destroys (src.OfObject (src.EndProcessor (src.Load e)))) le h = variable_nearer low high e le h
    each_nearer low high (src.DestroysAll n (src.OfObject (src.EndOn r written (src.Load e)))) le h = elements_nearer low high n e le h
    each_nearer low high (src.DestroysAll n (src.OfObject (src.EndCluster (src.Load e)))) le h = elements_nearer low high n e le h
    each_nearer low high (src.DestroysAll n (src.OfObject (src.EndProcessor (src.Load e)))) le h = elements_nearer low high n e le h
    each_nearer low high c le h = tt

    each_near : (o : Room) (todo : List Todo) → o.high ≤ k → TodoIn Z o todo → EachNext (IsNearer (address (Slot k ∷ []))) todo
    each_near o (piece.DropNow ∷ (piece.MoreNow ∷ (piece.FillNow n b d ∷ (piece.Within line ∷ (piece.Rest (src.Scoped c rest) ∷ todo))))) le h =
        let s : StmtsIn Z o (src.Scoped c rest) = h.1.1.1.1.0 in
        each_nearer o.low s.0.low c (scope_high o s.0 s.1 le) s.2.0
    each_near o todo le h = tt

    -- an object ends before that, and where nothing is to be called none is still to be built
    plain_near : (low high : ℕ) (c : CleanUp) → high ≤ k → Lies Z low high c → OfPlain (EndsBefore Z (address (Slot k ∷ []))) c
    plain_near low high (src.Destroys (src.OfObject (src.CallOn d (src.Variable m) args))) le h = (h.0, h.1, ends_near m h.0 (let l = h.2.1 in omega (arith, l, le)))
    plain_near low high (src.Destroys (src.OfObject (src.CallUnwritten d (src.Variable m)))) le h = (h.0, h.1, ends_near m h.0 (let l = h.2.1 in omega (arith, l, le)))
    plain_near low high c le h = tt

    called_near : (o : Room) (todo : List Todo) → o.high ≤ k → TodoIn Z o todo → Awaited (EndsBefore Z (address (Slot k ∷ []))) todo
    called_near o (piece.DropNow ∷ (piece.Within line ∷ (piece.Rest (src.Scoped c ss) ∷ todo))) le h =
        let s : StmtsIn Z o (src.Scoped c ss) = h.1.1.0 in
        plain_near o.low s.0.low c (scope_high o s.0 s.1 le) s.2.0
    called_near o todo le h = tt

    rest_called : (o : Room) (todo : List Todo) → o.high ≤ k → TodoIn Z o todo → AwaitedRest (EndsBefore Z (address (Slot k ∷ []))) todo
    rest_called o (piece.Rest (src.Scoped c ss) ∷ todo) le h =
        let s : StmtsIn Z o (src.Scoped c ss) = h.0 in
        plain_near o.low s.0.low c (scope_high o s.0 s.1 le) s.2.0
    rest_called o todo le h = tt

    calm_calling : (todo : List Todo) → Calm todo → Calling (EndsBefore Z (address (Slot k ∷ []))) todo
    calm_calling todo h = none_calling (EndsBefore Z (address (Slot k ∷ []))) todo (calm_none todo h)

    module _ (makes : ℕ → Bool) (source : Source) (Near : ℕ → Type 0) (made : Bool) where
      pends_near : (o : Room) (ms : List Mark) (todo : List Todo) → o.high ≤ k → TodoIn Z o todo → Ok makes source Near made ms todo → Pends (IsBefore (address (Slot k ∷ []))) todo
      pends_near o ms [] le r h = tt
      pends_near o ms (piece.Eval e ∷ todo) le r (n, inl h) = (drop_near o todo le r.1, pends_near o (Any ∷ ms) todo le r.1 h.1)
      pends_near o ms (piece.Eval e ∷ todo) le r (n, inr (inl h)) = (drop_near o todo le r.1, pends_near o (Any ∷ ms) todo le r.1 h.2)
      pends_near o ms (piece.Eval e ∷ todo) le r (n, inr (inr (inl h))) = (drop_near o todo le r.1, pends_near o (Any ∷ ms) todo le r.1 h.3)
      pends_near o ms (piece.Eval e ∷ todo) le r (n, inr (inr (inr (inl h)))) = (drop_near o todo le r.1, pends_near o (Aside ∷ ms) todo le r.1 h.1)
      pends_near o ms (piece.Eval e ∷ todo) le r (n, inr (inr (inr (inr h)))) = (drop_near o todo le r.1, pends_near o (Loose ∷ ms) todo le r.1 h.1)
      pends_near o ms (piece.Do a ∷ todo) le r h = (rest_near o todo le r.1, calm_pends (IsBefore (address (Slot k ∷ []))) todo h.1)
      pends_near o ms (piece.ElementNow n s ∷ todo) le r (inl h) = pends_near o (Any ∷ rest (rest ms)) todo le r.1 h
      pends_near o ms (piece.ElementNow n s ∷ todo) le r (inr h) = pends_near o (Aside ∷ rest (rest ms)) todo le r.1 h.1
      pends_near o ms (piece.BindNow ∷ todo) le r h = (drop_near o todo le r.1, pends_near o (Any ∷ rest (rest ms)) todo le r.1 h.1)
      pends_near o ms (piece.MakeNow c q ∷ todo) le r h = (call_near o todo le r.1, pends_near o (anys (params source q) (Loose ∷ rests (suc (params source q)) ms)) todo le r.1 h.1)
      pends_near o ms (piece.BindMadeNow c q ∷ todo) le r h = (call_near o todo le r.1, pends_near o (anys (params source q) (Loose ∷ rests (suc (params source q)) (rest ms))) todo le r.1 h.1)
      pends_near o ms (piece.ClusterNow ∷ todo) le r h = pends_near o (h.0 ∷ ms) todo le r.1 h.2
      pends_near o ms (piece.ProcessorNow ∷ todo) le r h = pends_near o (h.0 ∷ rest ms) todo le r.1 h.2
      pends_near o ms (piece.Branch a b ∷ todo) le r h = calm_pends (IsBefore (address (Slot k ∷ []))) todo h.1
      pends_near o ms (piece.ChooseNow cs ∷ todo) le r h = calm_pends (IsBefore (address (Slot k ∷ []))) todo h.1
      pends_near o ms (piece.Exit w ∷ todo) le r h = calm_pends (IsBefore (address (Slot k ∷ []))) todo h.0
      pends_near o ms (piece.Unwind ∷ todo) le r h = calm_pends (IsBefore (address (Slot k ∷ []))) todo h.0
      pends_near o ms (piece.Rest ss ∷ todo) le r h = calm_pends (IsBefore (address (Slot k ∷ []))) todo h.0.1
      pends_near o ms (piece.InLoop order t e b ∷ todo) le r h = calm_pends (IsBefore (address (Slot k ∷ []))) todo h.0.1
      pends_near o ms (piece.InWhole ∷ todo) le r h = pends_near o [] todo le r h.1
      pends_near o ms (piece.Clean c ∷ todo) le r h = calm_pends (IsBefore (address (Slot k ∷ []))) todo h.0.1
      pends_near o ms (piece.FillNow n b d ∷ todo) le r h = calm_pends (IsBefore (address (Slot k ∷ []))) todo h.0.2
      pends_near o ms (piece.Sweep e ∷ todo) le r h = calm_pends (IsBefore (address (Slot k ∷ []))) todo h.0.1
      pends_near o ms (piece.Part c ∷ todo) le r h = calm_pends (IsBefore (address (Slot k ∷ []))) todo h.0.1
      pends_near o ms (piece.Guard hs ∷ todo) le r h = calm_pends (IsBefore (address (Slot k ∷ []))) todo h.0.1
      pends_near o ms (piece.Finish ∷ todo) le r h = pends_near o [] todo le r h.1
      pends_near o ms (piece.FinishCoroutine ∷ todo) le r h = pends_near o [] todo le r h.1
      pends_near o ms (p ∷ todo) le r h = pends_near o (after source p ms) todo le r.1 h.1

      -- so do objects whose constructors are still to be called
      calling_near : (o : Room) (ms : List Mark) (todo : List Todo) → o.high ≤ k → TodoIn Z o todo → Ok makes source Near made ms todo → Calling (EndsBefore Z (address (Slot k ∷ []))) todo
      calling_near o ms [] le r h = tt
      calling_near o ms (piece.Eval e ∷ todo) le r (n, inl h) = (called_near o todo le r.1, calling_near o (Any ∷ ms) todo le r.1 h.1)
      calling_near o ms (piece.Eval e ∷ todo) le r (n, inr (inl h)) = (called_near o todo le r.1, calling_near o (Any ∷ ms) todo le r.1 h.2)
      calling_near o ms (piece.Eval e ∷ todo) le r (n, inr (inr (inl h))) = (called_near o todo le r.1, calling_near o (Any ∷ ms) todo le r.1 h.3)
      calling_near o ms (piece.Eval e ∷ todo) le r (n, inr (inr (inr (inl h)))) = (called_near o todo le r.1, calling_near o (Aside ∷ ms) todo le r.1 h.1)
      calling_near o ms (piece.Eval e ∷ todo) le r (n, inr (inr (inr (inr h)))) = (called_near o todo le r.1, calling_near o (Loose ∷ ms) todo le r.1 h.1)
      calling_near o ms (piece.Do a ∷ todo) le r h = (rest_called o todo le r.1, calm_calling todo h.1)
      calling_near o ms (piece.ElementNow n s ∷ todo) le r (inl h) = calling_near o (Any ∷ rest (rest ms)) todo le r.1 h
      calling_near o ms (piece.ElementNow n s ∷ todo) le r (inr h) = calling_near o (Aside ∷ rest (rest ms)) todo le r.1 h.1
      calling_near o ms (piece.BindNow ∷ todo) le r h = calling_near o (Any ∷ rest (rest ms)) todo le r.1 h.1
      calling_near o ms (piece.MakeNow c q ∷ todo) le r h = calling_near o (anys (params source q) (Loose ∷ rests (suc (params source q)) ms)) todo le r.1 h.1
      calling_near o ms (piece.BindMadeNow c q ∷ todo) le r h = calling_near o (anys (params source q) (Loose ∷ rests (suc (params source q)) (rest ms))) todo le r.1 h.1
      calling_near o ms (piece.ClusterNow ∷ todo) le r h = calling_near o (h.0 ∷ ms) todo le r.1 h.2
      calling_near o ms (piece.ProcessorNow ∷ todo) le r h = calling_near o (h.0 ∷ rest ms) todo le r.1 h.2
      calling_near o ms (piece.Branch a b ∷ todo) le r h = calm_calling todo h.1
      calling_near o ms (piece.ChooseNow cs ∷ todo) le r h = calm_calling todo h.1
      calling_near o ms (piece.Exit w ∷ todo) le r h = calm_calling todo h.0
      calling_near o ms (piece.Unwind ∷ todo) le r h = calm_calling todo h.0
      calling_near o ms (piece.Rest ss ∷ todo) le r h = calm_calling todo h.0.1
      calling_near o ms (piece.InLoop order t e b ∷ todo) le r h = calm_calling todo h.0.1
      calling_near o ms (piece.InWhole ∷ todo) le r h = calling_near o [] todo le r h.1
      calling_near o ms (piece.Clean c ∷ todo) le r h = calm_calling todo h.0.1
      calling_near o ms (piece.FillNow n b d ∷ todo) le r h = calm_calling todo h.0.2
      calling_near o ms (piece.Sweep e ∷ todo) le r h = calm_calling todo h.0.1
      calling_near o ms (piece.Part c ∷ todo) le r h = calm_calling todo h.0.1
      calling_near o ms (piece.Guard hs ∷ todo) le r h = calm_calling todo h.0.1
      calling_near o ms (piece.Finish ∷ todo) le r h = calling_near o [] todo le r h.1
      calling_near o ms (piece.FinishCoroutine ∷ todo) le r h = calling_near o [] todo le r h.1
      calling_near o ms (piece.CallOnNow q ∷ todo) le r h = (called_near o todo le r.1, calling_near o (after source (piece.CallOnNow q) ms) todo le r.1 h.1)
      calling_near o ms (piece.CallUnwrittenNow q ∷ todo) le r h = (called_near o todo le r.1, calling_near o (after source (piece.CallUnwrittenNow q) ms) todo le r.1 h.1)
      calling_near o ms (p ∷ todo) le r h = calling_near o (after source p ms) todo le r.1 h.1

  -- so it is of all activations that wait, before one that keeps to rooms behind theirs

  module _ (makes : ℕ → Bool) (source : Source) where
    pub near_all : (k frame : ℕ) (control : List Todo) (v : Option Visited) (older : List Active) (n : Exec) (cs : List Active) → ((x : ℕ) → SomeTo Z (From x) control → x ≤ k) → OverAll Z control frame v older cs → AllWait (Runs Z makes source) (Waits Z makes source) n cs → IsNear Z frame cs k
    near_all k frame control v older n [] f h w = (tt, tt)
    near_all k frame control v older n (c ∷ cs) f h w =
        let more : IsNear Z frame cs k = near_all k frame control v older n cs f h.1 w.1 in
        ((here, more.0), (waits, more.1))
      where
        waits : c.frame ≡ frame → Awaited (EndsBefore Z (address (Slot k ∷ []))) c.control
        waits e =
            let x : ℕ = h.0.0 in
            let room : Room = h.0.1.0 in
            let up : room.high ≤ x = h.0.1.1 in
            let le : x ≤ k = f x (h.0.2 (sym e)) in
            called_near k room c.control (omega (arith, up, le)) h.0.1.2

        here : c.frame ≡ frame → Pends (IsBefore (address (Slot k ∷ []))) c.control × EachNext (IsNearer (address (Slot k ∷ []))) c.control × Calling (EndsBefore Z (address (Slot k ∷ []))) c.control
        here e =
            let x : ℕ = h.0.0 in
            let room : Room = h.0.1.0 in
            let up : room.high ≤ x = h.0.1.1 in
            let le : x ≤ k = f x (h.0.2 (sym e)) in
            let high : room.high ≤ k = omega (arith, up, le) in
            (pends_near k makes source (IsNear Z c.frame cs) w.0.made room (Any ∷ w.0.marks) c.control high h.0.1.2 w.0.ok, each_near k room c.control high h.0.1.2, calling_near k makes source (IsNear Z c.frame cs) w.0.made room (Any ∷ w.0.marks) c.control high h.0.1.2 w.0.ok)

  -- in what is left of a block, and in hidden cells

  pub rest_from : (a : Stmt) (ss : Stmts) (todo : List Todo) (k : ℕ) → OpensAt ss k → (x : ℕ) → SomeTo Z (From x) (piece.Rest (src.Then a ss) ∷ todo) → x ≤ k
  rest_from a ss todo k e x h =
      let low = from_low x h.0 todo h.1.1 in
      let there = scope_low h.0 ss k h.1.0.1 e in
      omega (arith, low, there)

  pub hidden_from : (o : Room) (x k : ℕ) (todo : List Todo) → TodoTo Z (From x) o todo → o.hidden ≤ k → x ≤ k
  hidden_from o x k todo h l =
      let low = from_low x o todo h in
      let r : IsRoom o = room_to Z (From x) o todo h in
      let a = r.cells in
      let b = r.apart in
      omega (arith, low, a, b, l)

-- What holds the execution of a coroutine in the newest frame is a scope of a variable there, which lies before the cells that start anew.
use Rattle.std.proofs.Common.{◌≡◌, ℕ, ◌<◌, ◌⊎◌, inl, inr, Bool, true, false, List, [], ◌∷◌, length, Some, refl, sym, ap, ◌∙◌, subst, arith}
use Rattle.uc_tree.specs.Source as src
use Rattle.uc_tree.specs.Source.{Shape, Expr, CleanUp}
use Rattle.uc_tree.specs.Programs.{Program}
use Rattle.uc_machine.specs.declared.exec.Exec.{Exec}
use Rattle.uc_machine.specs.declared.exec.Owner.TheVariants.{Frame}
use Rattle.uc_machine.specs.Pieces as piece
use Rattle.uc_machine.specs.Pieces.{Link, Slot, FieldAt, At, Value, Place, Todo, Sort, Active, State, address, further}
use Rattle.uc_name_laws.proofs.Homes.{no_both}
use Rattle.uc_typing.specs.Typing.{Obj, Row, CleansAt}
use Rattle.uc_state_laws.specs.Layout.{Sized}
use Rattle.uc_state_laws.specs.Rooms.{Room, LiesAt, LiesIn, Destroyed, Lies, OwnAt, OwnIn, OwnPart}
use Rattle.uc_state_laws.specs.RoomStates.{PieceIn, Reached, IsBefore, AllBefore}
use Rattle.uc_state_laws.specs.RoomStacks.{UpTo, TodoTo, StackState}
use Rattle.uc_state_laws.proofs.Stacks.{next_by}
use Rattle.uc_state_laws.proofs.StackWalk.{cleared}
use Rattle.uc_sound.proofs.SoundLemmas.{law_sound}
use Rattle.uc_life_laws.specs.Placed.{Placed}
use Rattle.uc_life_laws.specs.Destroying.{Seat, Destroying, AtPlace, AtElement, EndsAt, EndsElement, CleansUp}
use Rattle.uc_life_laws.specs.Held.{Seating, HeldBy, HeldIn, Held, ClearsBehind}
use Rattle.uc_life_laws.proofs.Laying.{laid_out}
use Rattle.uc_putting_laws.specs.CleanedSpots.{Site, Under, IsOver, Reach}
use Rattle.uc_life_laws.specs.Ending.{Spot, OfVariable}
use Rattle.uc_putting_laws.specs.Calling as calling
use Rattle.uc_putting_laws.specs.Putting.{Setting, Around, around, CodeScope, LeftBy, Ok, Left, PutState}
use Rattle.uc_putting_laws.proofs.Marks.{left, left_tail, waits_left}
use Rattle.uc_parts_laws.specs.ClearedFrames.{IsLaid, LawClearedFrames}
use Rattle.uc_parts_laws.specs.Parts.{FreeBy, IsFree}
use Rattle.uc_parts_laws.proofs.FramesStay.{outward, destroyed_in, none_ends, none_numbers, each_ends, each_numbers, below_own, held_below}
use Rattle.uc_parts_laws.proofs.Extents.{at_variable, at_element}
use Rattle.uc_parts_laws.proofs.LeadingCells.{has_cells}

-- parts are of fields alone
module _ (Z : ℕ → ℕ → Type 0) where
  abbrev pub OwnSort : Sort → Type 0
  OwnSort (piece.IsPart c) = OwnPart Z c
  OwnSort k = Unit {0}

  abbrev pub AllOwn : List Todo → Type 0
  AllOwn [] = Unit {0}
  AllOwn (p ∷ todo) = OwnSort (piece.sort p) × AllOwn todo

  own_sort : (k : Sort) (x : Type 0) (o : Room) (P : Room → Type 0) → Reached Z o k x P → OwnSort k
  own_sort (piece.IsPart c) x o P h = h.0
  own_sort k x o P h = tt

  own_parts : (End : Room → Type 0) (o : Room) (todo : List Todo) → TodoTo Z End o todo → AllOwn todo
  own_parts End o [] h = tt
  own_parts End o (p ∷ ps) h =
      let r = next_by Z (piece.sort p) (PieceIn Z o p) o (λ m. TodoTo Z End m ps) h in
      (own_sort (piece.sort p) (PieceIn Z o p) o (λ m. TodoTo Z End m ps) h, own_parts End r.0 ps r.1)

-- a coroutine in a frame, and an activation with this frame and object
module _ (p : Program) (g : Setting) (x : IsLaid p g) (w : Seat) (n : Exec) (d : ℕ) (q : List Link) (lies : w.place ≡ Place (Frame n d) q) (coroutine : w.task ≡ false) (r : Reach) (f : ℕ) (this : Value) (cell : ℕ) where
  -- its first cell lies before this cell, or it lies in the object at hand, which the activation builds or destroys
  abbrev Near : Type 0
  Near = (address q < cell) ⊎ ((r.builds ≡ true) × ((y : List Link) × (this ≡ Place (Frame n d) y)))

  at_field : (y : ℕ) (h : Shape) (i : ℕ) → Destroying g.source w y (further (FieldAt h i) this) → r.builds ≡ true → Near
  at_field y h i k b = inr (b, outward g.source w n d q lies (FieldAt h i) this (destroyed_in g.source w n d q lies k))

  in_row : (y j m i : ℕ) (h k : Shape) → Destroying g.source w y (further (At k j) (further (FieldAt h i) this)) → r.builds ≡ true → Near
  in_row y j m i h k u b =
      inr (b, outward g.source w n d q lies (FieldAt h i) this (outward g.source w n d q lies (At k j) (further (FieldAt h i) this) (destroyed_in g.source w n d q lies u)))

  -- what destroys one object
  module _ (L : ℕ → Expr → Type 0) (before : (y j m : ℕ) → L m (src.Variable j) → Sized p y m → Destroying g.source w y (Place (Frame n f) (Slot j ∷ [])) → address q < cell) where
    called : (Q : ℕ → Spot → Type 0) (y m : ℕ) (a : Expr) → Sized p y m → L m a → AtPlace g.source w n f this (Destroying g.source w y) a → calling.PlaceAt g.table g.source g.special r Q a → Near
    called Q y m (src.Variable j) z l h i = inl (before y j m l z h)
    called Q y m (src.OfObject (src.OwnField k c)) z l h i = at_field y k c h i.0
    called Q y m a z l h i = absurd h

    calls : (P : Site → Type 0) (e : Expr) → Destroyed (Sized p) L e → EndsAt g.source w n f this e → calling.CallsAt g.table g.source g.special r P e → Near
    calls P (src.OfObject (src.CallOn y a src.NoExprs)) z h i = called _ y z.0 a z.1 z.2 h i.1
    calls P (src.OfObject (src.CallUnwritten y a)) z h i = called _ y z.0 a z.1 z.2 h i.1
    calls P (src.OfObject (src.EndOn y b (src.Load a))) z h i = absurd i
    calls P e z h i = absurd h

  -- an element of an array of so many
  module _ (many : ℕ) (L : ℕ → Expr → Type 0) (before : (y j m n1 i : ℕ) (k : Shape) → L m (src.Element n1 k (src.Variable j) (src.OfObject src.Counted)) → Sized p y m → Destroying g.source w y (further (At k i) (Place (Frame n f) (Slot j ∷ []))) → i < many → ((c : ℕ) → (g.table.routine y).this ≡ Some c → g.table.shape c ≡ k) → address q < cell) where
    -- it is kept as its class tells
    kept_by : (y j m c : ℕ) (k : Shape) (e : Expr) → (e ≡ src.OfObject (src.CallOn y (src.Element m k (src.Variable j) (src.OfObject src.Counted)) src.NoExprs)) ⊎ (e ≡ src.OfObject (src.CallUnwritten y (src.Element m k (src.Variable j) (src.OfObject src.Counted)))) → IsOver g.table (src.DestroysAll many e) (Under (Some c) m (OfVariable j)) → g.table.shape c ≡ k
    kept_by y j m c k e i (inl h) = absurd h
    kept_by y j m c k e (inl i) (inr h) =
        let u : CleansAt g.table (Row m (Obj c)) (src.Variable j) (src.DestroysAll many (src.OfObject (src.CallOn y (src.Element m k (src.Variable j) (src.OfObject src.Counted)) src.NoExprs))) = subst (λ e. CleansAt g.table (Row m (Obj c)) (src.Variable j) (src.DestroysAll many e)) i h in
        let same : src.Element m (g.table.shape c) (src.Variable j) (src.OfObject src.Counted) ≡ src.Element m k (src.Variable j) (src.OfObject src.Counted) = u.1.0 in
        cc
    kept_by y j m c k e (inr i) (inr h) =
        let u : CleansAt g.table (Row m (Obj c)) (src.Variable j) (src.DestroysAll many (src.OfObject (src.CallUnwritten y (src.Element m k (src.Variable j) (src.OfObject src.Counted))))) = subst (λ e. CleansAt g.table (Row m (Obj c)) (src.Variable j) (src.DestroysAll many e)) i h in
        let same : src.Element m (g.table.shape c) (src.Variable j) (src.OfObject src.Counted) ≡ src.Element m k (src.Variable j) (src.OfObject src.Counted) = u.1.0 in
        cc

    on_each : (Q : ℕ → Spot → Type 0) (y v j : ℕ) (a : Expr) → j < many → Sized p y v → L v a → ((m c : ℕ) (k : Shape) → a ≡ src.Element m k (src.Variable c) (src.OfObject src.Counted) → Q m (OfVariable c) → (b : ℕ) → (g.table.routine y).this ≡ Some b → g.table.shape b ≡ k) → AtElement g.source w n f this (Destroying g.source w y) j a → calling.PlaceAt g.table g.source g.special r Q a → Near
    on_each Q y v j (src.Element m k (src.Variable c) (src.OfObject src.Counted)) lt z l kept h i = inl (before y c v m j k l z h.1 lt (kept m c k refl i.0.1))
    on_each Q y v j (src.Element m k (src.OfObject (src.OwnField a b)) (src.OfObject src.Counted)) lt z l kept h i = in_row y j m b a k h.1 i.0.0
    on_each Q y v j (src.Element m k a (src.OfObject src.Counted)) lt z l kept h i = absurd h.1
    on_each Q y v j a lt z l kept h i = absurd h

    each : (j : ℕ) (e : Expr) → j < many → Destroyed (Sized p) L e → EndsElement g.source w n f this j e → calling.CallsAt g.table g.source g.special r (IsOver g.table (src.DestroysAll many e)) e → Near
    each j (src.OfObject (src.CallOn y a src.NoExprs)) lt z h i =
        on_each _ y z.0 j a lt z.1 z.2 (λ m c k e u b s. kept_by y c m b k (src.OfObject (src.CallOn y a src.NoExprs)) (inl (ap (λ o. src.OfObject (src.CallOn y o src.NoExprs)) e)) (subst (λ o. IsOver g.table (src.DestroysAll many (src.OfObject (src.CallOn y a src.NoExprs))) (Under o m (OfVariable c))) s u)) h i.1
    each j (src.OfObject (src.CallUnwritten y a)) lt z h i =
        on_each _ y z.0 j a lt z.1 z.2 (λ m c k e u b s. kept_by y c m b k (src.OfObject (src.CallUnwritten y a)) (inr (ap (λ o. src.OfObject (src.CallUnwritten y o)) e)) (subst (λ o. IsOver g.table (src.DestroysAll many (src.OfObject (src.CallUnwritten y a))) (Under o m (OfVariable c))) s u)) h i.1
    each j (src.OfObject (src.EndOn y b (src.Load a))) lt z h i = absurd i
    each j e lt z h i = absurd h

  -- at variables that end before the cell
  at_one : (y j m : ℕ) → LiesAt (Sized p) 0 cell 1 m (src.Variable j) → Sized p y m → Destroying g.source w y (Place (Frame n f) (Slot j ∷ [])) → address q < cell
  at_one y j m l z k = at_variable g.table g.source x.sound w n d q lies coroutine (Sized p) x.laid x.cells f y j m cell k z l.1

  at_each : (many y j m n1 i : ℕ) (k : Shape) → LiesIn (Sized p) 0 cell many m (src.Element n1 k (src.Variable j) (src.OfObject src.Counted)) → Sized p y m → Destroying g.source w y (further (At k i) (Place (Frame n f) (Slot j ∷ []))) → i < many → ((c : ℕ) → (g.table.routine y).this ≡ Some c → g.table.shape c ≡ k) → address q < cell
  at_each many y j m n1 i k l z h lt kept = at_element g.table g.source x.sound w n d q lies coroutine (Sized p) x.laid x.cells f y j m many i cell k h z l.1.1 lt kept

  -- a scope
  cleans : (c : CleanUp) → Lies (Sized p) 0 cell c → CleansUp g.source w n f this c → calling.CleansBy g.table g.source g.special r c → Near
  cleans src.Forgets l h i = inr (i, (q, h.1 ∙ lies))
  cleans src.Ends l h i = absurd i
  cleans (src.Destroys e) l h (inl i) = absurd (none_numbers g.source w n d q lies g r f this e h (IsOver g.table (src.Destroys e)) i)
  cleans (src.Destroys e) l h (inr (inl i)) = calls (LiesAt (Sized p) 0 cell 1) at_one (IsOver g.table (src.Destroys e)) e l h i
  cleans (src.Destroys e) l h (inr (inr i)) = absurd (none_ends g.source w n d q lies g r f this e h (IsOver g.table (src.Destroys e)) i)
  cleans (src.DestroysAll m e) l h (inl i) = absurd (each_numbers g.source w n d q lies g r f this h.0 e h.2 (IsOver g.table (src.DestroysAll m e)) i)
  cleans (src.DestroysAll m e) l h (inr (inl i)) = each m (LiesIn (Sized p) 0 cell m) (at_each m) h.0 e h.1 l h.2 i
  cleans (src.DestroysAll m e) l h (inr (inr i)) = absurd (each_ends g.source w n d q lies g r f this h.0 e h.2 (IsOver g.table (src.DestroysAll m e)) i)
  cleans c l h i = absurd h

  -- a part
  part : (c : CleanUp) → OwnPart (Sized p) c → CleansUp g.source w n f this c → calling.CleansBy g.table g.source g.special r c → Near
  part src.Forgets l h i = inr (i, (q, h.1 ∙ lies))
  part src.Ends l h i = absurd i
  part (src.Destroys e) l h (inl i) = absurd (none_numbers g.source w n d q lies g r f this e h (IsOver g.table (src.Destroys e)) i)
  part (src.Destroys e) l h (inr (inl i)) = calls (OwnAt (Sized p)) (λ y j m o z k. absurd o) (IsOver g.table (src.Destroys e)) e l h i
  part (src.Destroys e) l h (inr (inr i)) = absurd (none_ends g.source w n d q lies g r f this e h (IsOver g.table (src.Destroys e)) i)
  part (src.DestroysAll m e) l h (inl i) = absurd (each_numbers g.source w n d q lies g r f this h.0 e h.2 (IsOver g.table (src.DestroysAll m e)) i)
  part (src.DestroysAll m e) l h (inr (inl i)) = each m (OwnIn (Sized p) m) (λ y j c n1 k s o z u lt kept. absurd o.1) h.0 e h.1 l h.2 i
  part (src.DestroysAll m e) l h (inr (inr i)) = absurd (each_ends g.source w n d q lies g r f this h.0 e h.2 (IsOver g.table (src.DestroysAll m e)) i)
  part c l h i = absurd h

  module _ (ps : List Placed) (A : Around) (e : ℕ) (older : List Active) (R : Type 0) where
    scope : (c : CleanUp) (todo : List Todo) → Lies (Sized p) 0 cell c → CleansUp g.source w n f this c → CodeScope g A r c todo → Near
    scope src.Ends todo l h i = absurd (no_both w.task h.0 coroutine)
    scope (src.Frees m) todo l h i = absurd h
    scope src.Forgets todo l h i = cleans src.Forgets l h i.1
    scope (src.Destroys a) todo l h i = cleans (src.Destroys a) l h i.1
    scope (src.DestroysAll m a) todo l h i = cleans (src.DestroysAll m a) l h i.1
    scope c todo l h i = absurd h

    by_sort : (k : Sort) (todo : List Todo) (a b T F : Type 0) → LeftBy g A r k todo a b → IsBefore (Sized p) cell k → OwnSort (Sized p) k → FreeBy k F → (T → Near ⊎ R) → HeldBy g.source w ps n f this e k todo older T → Near ⊎ R
    by_sort (piece.IsClean c) todo a b T F i l o y k (inl h) = inl (scope c todo l h.0 i.0)
    by_sort (piece.IsClean c) todo a b T F i l o y k (inr h) = k h
    by_sort (piece.IsPart c) todo a b T F i l o y k (inl h) = inl (part c o h.0 i.0.1)
    by_sort (piece.IsPart c) todo a b T F i l o y k (inr h) = k h
    by_sort (piece.IsFill m c t) todo a b T F i l o y k h = absurd y
    by_sort (piece.IsSweep t) todo a b T F i l o y k h = absurd y
    by_sort piece.Simple todo a b T F i l o y k h = k h
    by_sort (piece.IsLoop c t z s) todo a b T F i l o y k h = k h
    by_sort piece.IsWhole todo a b T F i l o y k h = k h
    by_sort (piece.IsGuard t) todo a b T F i l o y k h = k h
    by_sort piece.IsFinish todo a b T F i l o y k h = k h
    by_sort piece.IsFinishCoroutine todo a b T F i l o y k h = k h

    free_tail : (k : Sort) (F : Type 0) → FreeBy k F → F
    free_tail (piece.IsFill m c t) F y = absurd y
    free_tail (piece.IsSweep t) F y = absurd y
    free_tail piece.Simple F y = y
    free_tail (piece.IsLoop c t z s) F y = y
    free_tail piece.IsWhole F y = y
    free_tail (piece.IsClean c) F y = y
    free_tail (piece.IsPart c) F y = y
    free_tail (piece.IsGuard t) F y = y
    free_tail piece.IsFinish F y = y
    free_tail piece.IsFinishCoroutine F y = y

    in_list : (todo : List Todo) → Left g A r todo → AllBefore (Sized p) cell todo → AllOwn (Sized p) todo → IsFree todo → HeldIn g.source w ps n f this e older R todo → Near ⊎ R
    in_list [] i l o y h = inr h
    in_list (piece.CountNow m ∷ (piece.FillNow k b c ∷ todo)) i l o y h = absurd y
    in_list (t ∷ todo) i l o y h =
        by_sort (piece.sort t) todo (Left g A r todo) (Ok g A r [] todo) (HeldIn g.source w ps n f this e older R todo) (IsFree todo) i l.0 o.0 y (λ k. in_list todo (left_tail g A r t todo i) l.1 o.1 (free_tail (piece.sort t) (IsFree todo) y) k) h

clears : (p : Program) (g : Setting) → IsLaid p g → (seats : Seating) (up : Exec → Bool) (s : State) → PutState g s → StackState (Sized p) s → (k m : ℕ) (todo : List Todo) → s.run.control ≡ piece.ClearNow k m ∷ todo → IsFree todo → (s.run.frame < length s.callers → ⊥) → ClearsBehind g.source seats up s k
clears p g x seats up s put stack k m todo e free old z own t h d q lies same =
    by (in_list p g x (seats.seat z) s.env.exec d q lies t put.run.made s.run.frame s.run.this k (seats.before z) A s.run.elements s.callers R s.run.control (left g A put.run.made put.run.marks s.run.control put.run.ok) ((cleared (Sized p) s stack k m todo e).0 refl) (own_parts (Sized p) (UpTo stack.stack.0.top) stack.stack.0.fits.0 s.run.control stack.stack.0.fits.1) (subst IsFree (sym e) free) h)
  where
    A : Around
    A = around s.env.exec s.run s.callers

    R : Type 0
    R = Held g.source (seats.seat z) (seats.before z) s.env.exec s.callers

    by : Near p g x (seats.seat z) s.env.exec d q lies t put.run.made s.run.frame s.run.this k ⊎ R → address q < k
    by (inl (inl lt)) = lt
    by (inl (inr y)) =
        let l : d < s.run.frame = below_own g.source (seats.seat z) s.env.exec d q lies g s.run.frame s.run.this (put.run.this.own y.0) y.1 in
        absurd (omega (arith, l, same))
    by (inr y) =
        let l : d < length s.callers = held_below g.source (seats.seat z) s.env.exec d q lies g (Sized p) s.env.frames (seats.before z) t s.callers (waits_left g s.env.exec s.callers put.callers) stack.stack.1 y in
        absurd (old (omega (arith, l, same)))

pub law_cleared_frames : LawClearedFrames
law_cleared_frames = record {
  laid = λ p formed ok few. record { sound = law_sound p formed ok; laid = laid_out p formed ok; cells = λ c h. has_cells p ok c h };
  clears = λ p g x seats up s put stack k m todo e free old. clears p g x seats up s put stack k m todo e free old;
}

-- Arrays of mutex objects of which activations that wait build or destroy elements: behind which variable they lie, and which elements they have.
use Rattle.std.proofs.Common.{◌≡◌, ℕ, ◌<◌, ◌≤◌, inl, inr, Bool, true, false, List, [], ◌∷◌, refl, sym, ◌∙◌, subst, arith}
use Rattle.std.specs.Prelude.{nat_eq}
use Rattle.std.proofs.lemmas.Bool.{eqb-true, eq-eqb}
use Rattle.uc_tree.specs.Source as src
use Rattle.uc_tree.specs.Source.{Shape, Expr, ObjectExpr}
use Rattle.uc_machine.specs.declared.exec.Exec.{Exec}
use Rattle.uc_machine.specs.declared.exec.Owner.TheVariants.{Frame}
use Rattle.uc_machine.specs.Pieces as piece
use Rattle.uc_machine.specs.Pieces.{Slot, FieldAt, At, Value, Number, Place, Running, Object, Nothing, Todo, Sort, Active, further}
use Rattle.uc_life_laws.specs.Things.{Few}
use Rattle.uc_life_laws.specs.Ending.{OfVariable, OfField}
use Rattle.uc_putting_laws.specs.CleanedSpots.{Site, One, Each, Under, Reach, IsIn}
use Rattle.uc_putting_laws.specs.Calling.{SweepsBy}
use Rattle.uc_putting_laws.specs.Seats.{OfArray, ArrayBy, AtArray, ArraysBefore, NotStanding, GuardBy, GuardsCode, Searched}
use Rattle.uc_putting_laws.specs.Putting.{Setting, Around, OfObjects, StandsAt, SeatAt, LeftBy, Ok, Left}
use Rattle.uc_putting_laws.proofs.Marks.{left_tail}
use Rattle.uc_putting_laws.proofs.Searches.{FramesBelow, guards_left}

-- of whatever array
module _ (P : ℕ → ℕ → Type 0) (f : (m k : ℕ) → P m k) where
  by_count : (r m k : ℕ) (written : Bool) (s : Shape) (o : ObjectExpr) → OfArray P (src.OfObject (src.EndOn r written (src.Load (src.Element m s (src.Variable k) (src.OfObject o)))))
  by_count r m k written s src.Counted = f m k
  by_count r m k written s o = tt

  by_index : (r m k : ℕ) (written : Bool) (s : Shape) (i : Expr) → OfArray P (src.OfObject (src.EndOn r written (src.Load (src.Element m s (src.Variable k) i))))
  by_index r m k written s (src.OfObject o) = by_count r m k written s o
  by_index r m k written s i = tt

  by_base : (r m : ℕ) (written : Bool) (s : Shape) (b i : Expr) → OfArray P (src.OfObject (src.EndOn r written (src.Load (src.Element m s b i))))
  by_base r m written s (src.Variable k) i = by_index r m k written s i
  by_base r m written s b i = tt

  by_place : (r : ℕ) (written : Bool) (e : Expr) → OfArray P (src.OfObject (src.EndOn r written (src.Load e)))
  by_place r written (src.Element m s b i) = by_base r m written s b i
  by_place r written e = tt

  by_load : (r : ℕ) (written : Bool) (e : Expr) → OfArray P (src.OfObject (src.EndOn r written e))
  by_load r written (src.Load e) = by_place r written e
  by_load r written e = tt

  by_object : (o : ObjectExpr) → OfArray P (src.OfObject o)
  by_object (src.EndOn r written e) = by_load r written e
  by_object o = tt

  pub any_array : (e : Expr) → OfArray P e
  any_array (src.OfObject o) = by_object o
  any_array e = tt

  any_sort : (k : Sort) (R : Type 0) → R → ArrayBy P k R
  any_sort (piece.IsSweep e) R h = any_array e
  any_sort (piece.IsFill n b d) R h = any_array d
  any_sort (piece.IsGuard hs) R h = tt
  any_sort piece.Simple R h = h
  any_sort (piece.IsLoop o t e b) R h = h
  any_sort piece.IsWhole R h = h
  any_sort (piece.IsClean c) R h = h
  any_sort (piece.IsPart c) R h = h
  any_sort piece.IsFinish R h = h
  any_sort piece.IsFinishCoroutine R h = h

  pub any_list : (l : List Todo) → AtArray P l
  any_list [] = tt
  any_list (p ∷ todo) = any_sort (piece.sort p) (AtArray P todo) (any_list todo)

-- from one claim to another
module _ (P Q : ℕ → ℕ → Type 0) (f : (m k : ℕ) → P m k → Q m k) where
  all_count : (r m k : ℕ) (written : Bool) (s : Shape) (o : ObjectExpr) → OfArray P (src.OfObject (src.EndOn r written (src.Load (src.Element m s (src.Variable k) (src.OfObject o))))) → OfArray Q (src.OfObject (src.EndOn r written (src.Load (src.Element m s (src.Variable k) (src.OfObject o)))))
  all_count r m k written s src.Counted h = f m k h
  all_count r m k written s o h = tt

  all_index : (r m k : ℕ) (written : Bool) (s : Shape) (i : Expr) → OfArray P (src.OfObject (src.EndOn r written (src.Load (src.Element m s (src.Variable k) i)))) → OfArray Q (src.OfObject (src.EndOn r written (src.Load (src.Element m s (src.Variable k) i))))
  all_index r m k written s (src.OfObject o) h = all_count r m k written s o h
  all_index r m k written s i h = tt

  all_base : (r m : ℕ) (written : Bool) (s : Shape) (b i : Expr) → OfArray P (src.OfObject (src.EndOn r written (src.Load (src.Element m s b i)))) → OfArray Q (src.OfObject (src.EndOn r written (src.Load (src.Element m s b i))))
  all_base r m written s (src.Variable k) i h = all_index r m k written s i h
  all_base r m written s b i h = tt

  all_place : (r : ℕ) (written : Bool) (e : Expr) → OfArray P (src.OfObject (src.EndOn r written (src.Load e))) → OfArray Q (src.OfObject (src.EndOn r written (src.Load e)))
  all_place r written (src.Element m s b i) h = all_base r m written s b i h
  all_place r written e h = tt

  all_load : (r : ℕ) (written : Bool) (e : Expr) → OfArray P (src.OfObject (src.EndOn r written e)) → OfArray Q (src.OfObject (src.EndOn r written e))
  all_load r written (src.Load e) h = all_place r written e h
  all_load r written e h = tt

  all_object : (o : ObjectExpr) → OfArray P (src.OfObject o) → OfArray Q (src.OfObject o)
  all_object (src.EndOn r written e) h = all_load r written e h
  all_object o h = tt

  pub all_array : (e : Expr) → OfArray P e → OfArray Q e
  all_array (src.OfObject o) h = all_object o h
  all_array e h = tt

  all_sort : (k : Sort) (R S : Type 0) → (R → S) → ArrayBy P k R → ArrayBy Q k S
  all_sort (piece.IsSweep e) R S g h = all_array e h
  all_sort (piece.IsFill n b d) R S g h = all_array d h
  all_sort (piece.IsGuard hs) R S g h = tt
  all_sort piece.Simple R S g h = g h
  all_sort (piece.IsLoop o t e b) R S g h = g h
  all_sort piece.IsWhole R S g h = g h
  all_sort (piece.IsClean c) R S g h = g h
  all_sort (piece.IsPart c) R S g h = g h
  all_sort piece.IsFinish R S g h = g h
  all_sort piece.IsFinishCoroutine R S g h = g h

  pub all_list : (l : List Todo) → AtArray P l → AtArray Q l
  all_list [] h = tt
  all_list (p ∷ todo) h = all_sort (piece.sort p) (AtArray P todo) (AtArray Q todo) (all_list todo) h

-- which variable they lie before

pub before_more : (x y f : ℕ) (cs : List Active) → x ≤ y → ArraysBefore x f cs → ArraysBefore y f cs
before_more x y f [] le h = tt
before_more x y f (a ∷ others) le h =
    ((λ e. all_list (λ m k. 0 < m → k < x) (λ m k. 0 < m → k < y) (λ m k g l. let b : k < x = g l in omega (arith, b, le)) a.control (h.0 e)), before_more x y f others le h.1)

-- in a frame that none of these activations uses there is none
pub before_fresh : (x f : ℕ) (cs : List Active) → FramesBelow f cs → ArraysBefore x f cs
before_fresh x f [] h = tt
before_fresh x f (a ∷ others) h = let l = h.0 in (λ e. let b : ⊥ = omega (arith, l, e) in absurd b, before_fresh x f others h.1)

-- behind one of an activation, by what it has to do: a variable from which on handlers name variables that a search finds which goes out from there, behind
-- those that the activation does not name
module _ (g : Setting) (A : Around) (made : Reach) (after : Searched g.table g.source g.special made.low A.handles A.frame A.older) where
  pub record PastArray (control : List Todo) : Type 0 where
    pub cell : ℕ
    pub low : made.low ≤ cell
    pub guards : GuardsCode g.table g.source g.special cell control
    pub searched : Searched g.table g.source g.special cell A.handles A.frame A.older
    pub array : AtArray (λ m k. 0 < m → k < cell) control

  abbrev Swept : List Todo → Expr → Type 0
  Swept todo e = (cell : ℕ) × (made.low ≤ cell) × GuardsCode g.table g.source g.special cell todo × Searched g.table g.source g.special cell A.handles A.frame A.older × OfArray (λ m k. 0 < m → k < cell) e

  module _ (todo : List Todo) (l : GuardsCode g.table g.source g.special made.low todo) where
    abbrev Sweeps : Expr → Type 0
    Sweeps e = SweepsBy g.table g.source g.special made (SeatAt g A made todo) e

    -- an expression that ends no element of a variable
    plain : (e : Expr) → OfArray (λ m k. ⊥) e → Swept todo e
    plain e h = (made.low, omega arith, l, after, all_array (λ m k. ⊥) (λ m k. 0 < m → k < made.low) (λ m k b. absurd b) e h)

    ends_element : (r m k : ℕ) (written : Bool) → Sweeps (src.OfObject (src.EndOn r written (src.Load (src.Element m src.Binding (src.Variable k) (src.OfObject src.Counted))))) → Swept todo (src.OfObject (src.EndOn r written (src.Load (src.Element m src.Binding (src.Variable k) (src.OfObject src.Counted)))))
    ends_element r m k written (inl h) = absurd h
    ends_element r m k written (inr (inl h)) = absurd h
    ends_element r m k written (inr (inr h)) = let y = h.0.1 in (y.0, y.1, y.2, y.3, λ some. y.4 tt some)

    swept_shape : (r m k : ℕ) (written : Bool) (s : Shape) → Sweeps (src.OfObject (src.EndOn r written (src.Load (src.Element m s (src.Variable k) (src.OfObject src.Counted))))) → Swept todo (src.OfObject (src.EndOn r written (src.Load (src.Element m s (src.Variable k) (src.OfObject src.Counted)))))
    swept_shape r m k written src.Binding h = ends_element r m k written h
    swept_shape r m k written s (inl h) = absurd h
    swept_shape r m k written s (inr (inl h)) = absurd h
    swept_shape r m k written s (inr (inr h)) = absurd h

    swept_count : (r m k : ℕ) (written : Bool) (s : Shape) (o : ObjectExpr) → Sweeps (src.OfObject (src.EndOn r written (src.Load (src.Element m s (src.Variable k) (src.OfObject o))))) → Swept todo (src.OfObject (src.EndOn r written (src.Load (src.Element m s (src.Variable k) (src.OfObject o)))))
    swept_count r m k written s src.Counted h = swept_shape r m k written s h
    swept_count r m k written s o h = plain (src.OfObject (src.EndOn r written (src.Load (src.Element m s (src.Variable k) (src.OfObject o))))) tt

    swept_index : (r m k : ℕ) (written : Bool) (s : Shape) (i : Expr) → Sweeps (src.OfObject (src.EndOn r written (src.Load (src.Element m s (src.Variable k) i)))) → Swept todo (src.OfObject (src.EndOn r written (src.Load (src.Element m s (src.Variable k) i))))
    swept_index r m k written s (src.OfObject o) h = swept_count r m k written s o h
    swept_index r m k written s i h = plain (src.OfObject (src.EndOn r written (src.Load (src.Element m s (src.Variable k) i)))) tt

    swept_base : (r m : ℕ) (written : Bool) (s : Shape) (b i : Expr) → Sweeps (src.OfObject (src.EndOn r written (src.Load (src.Element m s b i)))) → Swept todo (src.OfObject (src.EndOn r written (src.Load (src.Element m s b i))))
    swept_base r m written s (src.Variable k) i h = swept_index r m k written s i h
    swept_base r m written s b i h = plain (src.OfObject (src.EndOn r written (src.Load (src.Element m s b i)))) tt

    swept_place : (r : ℕ) (written : Bool) (e : Expr) → Sweeps (src.OfObject (src.EndOn r written (src.Load e))) → Swept todo (src.OfObject (src.EndOn r written (src.Load e)))
    swept_place r written (src.Element m s b i) h = swept_base r m written s b i h
    swept_place r written e h = plain (src.OfObject (src.EndOn r written (src.Load e))) tt

    swept_load : (r : ℕ) (written : Bool) (e : Expr) → Sweeps (src.OfObject (src.EndOn r written e)) → Swept todo (src.OfObject (src.EndOn r written e))
    swept_load r written (src.Load e) h = swept_place r written e h
    swept_load r written e h = plain (src.OfObject (src.EndOn r written e)) tt

    swept_object : (o : ObjectExpr) → Sweeps (src.OfObject o) → Swept todo (src.OfObject o)
    swept_object (src.EndOn r written e) h = swept_load r written e h
    swept_object o h = plain (src.OfObject o) tt

    swept : (e : Expr) → Sweeps e → Swept todo e
    swept (src.OfObject o) h = swept_object o h
    swept e h = plain e tt

  -- a mark, or a piece that is none, before what is so behind it
  pub record PastBy (k : Sort) (todo : List Todo) : Type 0 where
    pub cell : ℕ
    pub low : made.low ≤ cell
    pub guards : GuardBy g.table g.source g.special cell k (GuardsCode g.table g.source g.special cell todo)
    pub searched : Searched g.table g.source g.special cell A.handles A.frame A.older
    pub array : ArrayBy (λ m k. 0 < m → k < cell) k (AtArray (λ m k. 0 < m → k < cell) todo)

  past_by : (k : Sort) (todo : List Todo) → LeftBy g A made k todo (Left g A made todo) (Ok g A made [] todo) → GuardsCode g.table g.source g.special made.low todo → PastArray todo → PastBy k todo
  past_by (piece.IsSweep e) todo h l y = let z = swept todo l e h.0.1 in record { cell = z.0; low = z.1; guards = z.2; searched = z.3; array = z.4 }
  past_by (piece.IsFill n b d) todo h l y = let z = swept todo l d h.0.1.1 in record { cell = z.0; low = z.1; guards = z.2; searched = z.3; array = z.4 }
  past_by (piece.IsGuard hs) todo h l y = record { cell = made.low; low = omega arith; guards = (h.0.1, l); searched = after; array = tt }
  past_by piece.Simple todo h l y = record { cell = y.cell; low = y.low; guards = y.guards; searched = y.searched; array = y.array }
  past_by (piece.IsLoop o t e b) todo h l y = record { cell = y.cell; low = y.low; guards = y.guards; searched = y.searched; array = y.array }
  past_by piece.IsWhole todo h l y = record { cell = y.cell; low = y.low; guards = y.guards; searched = y.searched; array = y.array }
  past_by (piece.IsClean c) todo h l y = record { cell = y.cell; low = y.low; guards = y.guards; searched = y.searched; array = y.array }
  past_by (piece.IsPart c) todo h l y = record { cell = y.cell; low = y.low; guards = y.guards; searched = y.searched; array = y.array }
  past_by piece.IsFinish todo h l y = record { cell = y.cell; low = y.low; guards = y.guards; searched = y.searched; array = y.array }
  past_by piece.IsFinishCoroutine todo h l y = record { cell = y.cell; low = y.low; guards = y.guards; searched = y.searched; array = y.array }

  pub past_array : (control : List Todo) → Left g A made control → PastArray control
  past_array [] h = record { cell = made.low; low = omega arith; guards = tt; searched = after; array = tt }
  past_array (p ∷ todo) h =
      let behind = left_tail g A made p todo h in
      let y = past_by (piece.sort p) todo h (guards_left g A made todo behind) (past_array todo behind) in
      record { cell = y.cell; low = y.low; guards = y.guards; searched = y.searched; array = y.array }

-- which elements stand

-- what stands at a site is no other element, and none of another variable or in another frame
module _ (few : Few) (A : Around) (many : ℕ) where
  abbrev pub Element : Shape → ℕ → ℕ → ℕ → Exec → Value
  Element d f k j n = Place (Frame n f) (At d j ∷ (Slot k ∷ []))

  no_part : (d h : Shape) (i k j f : ℕ) (n : Exec) (v : Value) → further (FieldAt h i) v ≡ Element d f k j n → ⊥
  no_part d h i k j f n (Number z) e = absurd (cc)
  no_part d h i k j f n (Place o p) e = absurd (cc)
  no_part d h i k j f n (Running x) e = absurd (cc)
  no_part d h i k j f n (Object o) e = absurd (cc)
  no_part d h i k j f n Nothing e = absurd (cc)

  no_parts : (d h : Shape) (i m k j f : ℕ) (n : Exec) (v : Value) → further (At src.Binding m) (further (FieldAt h i) v) ≡ Element d f k j n → ⊥
  no_parts d h i m k j f n (Number z) e = absurd (cc)
  no_parts d h i m k j f n (Place o p) e = absurd (cc)
  no_parts d h i m k j f n (Running x) e = absurd (cc)
  no_parts d h i m k j f n (Object o) e = absurd (cc)
  no_parts d h i m k j f n Nothing e = absurd (cc)

  pub record IsCounted (x : Site) (f k j : ℕ) : Type 0 where
    pub frame : f ≡ A.frame
    pub index : j ≡ many
    pub variable : (made : Reach) → IsIn made x → made.low ≤ k

  pub is_counted : (d : Shape) (x : Site) (f k j : ℕ) (n : Exec) (v : Value) → OfObjects x → StandsAt few A many x v → v ≡ Element d f k j n → IsCounted x f k j
  is_counted d (One (OfVariable i)) f k j n v o h e = let q = sym h ∙ e in absurd (cc)
  is_counted d (One (OfField s i)) f k j n v o h e = absurd (no_part d s i k j f n A.this (sym h ∙ e))
  is_counted d (Each m (OfVariable i)) f k j n v o h e =
      let q : Place (Frame A.exec A.frame) (At src.Binding many ∷ (Slot i ∷ [])) ≡ Element d f k j n = sym h.1 ∙ e in
      let variable : i ≡ k = cc in
      record { frame = cc; index = cc; variable = λ made l. subst (λ (x : ℕ). made.low ≤ x) variable l }
  is_counted d (Each m (OfField s i)) f k j n v o h e = absurd (no_parts d s i many k j f n A.this (sym h.1 ∙ e))
  is_counted d (Under c m p) f k j n v o h e = absurd o

  -- so it is no element that stands, of older activations if it is one that is named there
  module _ (made : Reach) (x : Site) (place : Value) (o : OfObjects x) (at : StandsAt few A many x place) (i : IsIn made x) (n : Exec) where
    pub own_apart : (control : List Todo) → AtArray (λ m k. (d : Shape) (j : ℕ) → j < m → j < many → place ≡ Place (Frame n A.frame) (At d j ∷ (Slot k ∷ [])) → ⊥) control
    own_apart control = any_list (λ m k. (d : Shape) (j : ℕ) → j < m → j < many → place ≡ Place (Frame n A.frame) (At d j ∷ (Slot k ∷ [])) → ⊥) (λ m k d j l s e. let q : j ≡ many = (is_counted d x A.frame k j n place o at e).index in let b : ⊥ = omega (arith, s, q) in b) control

    abbrev Apart : Active → Type 0
    Apart a = AtArray (λ m k. (d : Shape) (j : ℕ) → j < m → j < a.elements → place ≡ Place (Frame n a.frame) (At d j ∷ (Slot k ∷ [])) → ⊥) a.control

    one_apart : (a : Active) → (a.frame ≡ A.frame → AtArray (λ m k. 0 < m → k < made.low) a.control) → Apart a
    one_apart a h = by (nat_eq a.frame A.frame) refl
      where
        by : (b : Bool) → nat_eq a.frame A.frame ≡ b → Apart a
        by true q =
            all_list (λ m k. 0 < m → k < made.low) (λ m k. (d : Shape) (j : ℕ) → j < m → j < a.elements → place ≡ Place (Frame n a.frame) (At d j ∷ (Slot k ∷ [])) → ⊥) (λ m k f d j l s e.
            let c : k < made.low = f (omega (arith, l)) in
            let d : made.low ≤ k = (is_counted d x a.frame k j n place o at e).variable made i in
            let b : ⊥ = omega (arith, c, d) in b) a.control (h (eqb-true a.frame A.frame q))
        by false q =
            any_list (λ m k. (d : Shape) (j : ℕ) → j < m → j < a.elements → place ≡ Place (Frame n a.frame) (At d j ∷ (Slot k ∷ [])) → ⊥) (λ m k d j l s e.
            let same : a.frame ≡ A.frame = (is_counted d x a.frame k j n place o at e).frame in
            let t : true ≡ false = sym (eq-eqb a.frame A.frame same) ∙ q in absurd (cc)) a.control

    pub older_apart : (cs : List Active) → ArraysBefore made.low A.frame cs → NotStanding n place cs
    older_apart [] h = tt
    older_apart (a ∷ others) h = (one_apart a h.0, older_apart others h.1)

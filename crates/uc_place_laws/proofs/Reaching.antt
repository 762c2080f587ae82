-- What is bound lies behind each object for whose scope an older activation of its frame waits, or in it.
use Rattle.std.proofs.Common.{◌≡◌, ℕ, ◌≤◌, ◌⊎◌, inl, inr, List, [], ◌∷◌, drop, refl, sym, ap, ◌∙◌, subst, arith}
use Rattle.uc_tree.specs.Source as src
use Rattle.uc_tree.specs.Source.{CleanUp, Stmts, Source}
use Rattle.uc_machine.specs.declared.exec.Exec.{Exec}
use Rattle.uc_machine.specs.declared.exec.Owner.{Owner}
use Rattle.uc_machine.specs.declared.exec.Owner.TheVariants.{Frame, Fields}
use Rattle.uc_machine.specs.Pieces as piece
use Rattle.uc_machine.specs.Pieces.{Link, Slot, Value, Number, Place, Running, Object, Nothing, Todo, Active, State, address, further, top, below}
use Rattle.uc_state_laws.specs.There.{IsLoose}
use Rattle.uc_state_laws.specs.Layout.{Sized}
use Rattle.uc_state_laws.specs.Counted.{params}
use Rattle.uc_resolve.specs.Resolve.{source_of}
use Rattle.uc_place_laws.specs.Opened.{OfPlain, OpensOf}
use Rattle.uc_place_laws.specs.OpeningLaws.{Awaited}
use Rattle.uc_place_laws.specs.Calling.{EndsBefore}
use Rattle.uc_place_laws.specs.Called.{variable, At, Meets, NextAt}
use Rattle.uc_place_laws.specs.CalledStates.{Seated, AllSeated}
use Rattle.uc_place_laws.specs.Asides.{IsOfVariable, IsIn, first, further_in, AwaitsBefore, Sits, SitsAt}
use Rattle.uc_place_laws.specs.Seating.{SeatsAt, Reaches, ReachesAt, LawReaches}
use Rattle.uc_place_laws.proofs.AsideMarks.{address_more}
use Rattle.uc_place_laws.proofs.OpeningMarks.{next_opens}

-- what lies in a place

in_more : {u w v : Value} → IsIn u w → IsIn w v → IsIn u v
in_more h (first l) = further_in h l
in_more h (further_in k l) = further_in (in_more h k) l

-- in the place of a frame, behind it
record Inner (o : Owner) (q : List Link) (v : Value) : Type 0 where
  path : List Link
  is : v ≡ Place o path
  behind : address q ≤ address path

inner : (o : Owner) (q : List Link) (v : Value) → IsIn (Place o q) v → Inner o q v
inner o q v (first l) = record { path = l ∷ q; is = refl; behind = address_more l q }
inner o q v (further_in {v = u} h l) =
    let x = inner o q u h in
    let a = x.behind in
    let b = address_more l x.path in
    record { path = l ∷ x.path; is = ap (further l) x.is; behind = omega (arith, a, b) }

-- what lies in what is in no frame is in none
in_none : (w v : Value) (n : Exec) (d : ℕ) (p : List Link) → IsLoose w → IsIn w v → v ≡ Place (Frame n d) p → ⊥
in_none w v n d p h k e = by w v h k e
  where
    loose : (l : Link) (u : Value) → ((o : Owner) (q : List Link) → u ≡ Place o q → (x : ℕ) × (o ≡ Fields x)) → further l u ≡ Place (Frame n d) p → ⊥
    loose l (Number z) f q = absurd (cc)
    loose l (Place o r) f q = let y = f o r refl in let z = y.1 in absurd (cc)
    loose l (Running x) f q = absurd (cc)
    loose l (Object o) f q = absurd (cc)
    loose l Nothing f q = absurd (cc)

    places : (w u : Value) → IsLoose w → IsIn w u → (o : Owner) (q : List Link) → u ≡ Place o q → (x : ℕ) × (o ≡ Fields x)
    places (Number z) u g (first l) o q i = absurd (cc)
    places (Place a b) u g x o q i = absurd g
    places (Running z) u g x o q i = absurd g
    places (Object z) u g (first l) o q i = (z, let y : Place (Fields z) (l ∷ []) ≡ Place o q = i in cc)
    places Nothing u g (first l) o q i = absurd (cc)
    places w u g (further_in {v = y} x l) o q i = step y (places w y g x) l o q i
      where
        step : (y : Value) → ((o : Owner) (q : List Link) → y ≡ Place o q → (x : ℕ) × (o ≡ Fields x)) → (l : Link) (o : Owner) (q : List Link) → further l y ≡ Place o q → (x : ℕ) × (o ≡ Fields x)
        step (Number z) f l o q i = absurd (cc)
        step (Place a b) f l o q i = let z = f a b refl in (z.0, let same : a ≡ o = cc in sym same ∙ z.1)
        step (Running z) f l o q i = absurd (cc)
        step (Object z) f l o q i = (z, let y : Place (Fields z) (l ∷ []) ≡ Place o q = i in cc)
        step Nothing f l o q i = absurd (cc)

    by : (w v : Value) → IsLoose w → IsIn w v → v ≡ Place (Frame n d) p → ⊥
    by w v g (first l) e = loose l w (λ o q i. absurd (subst IsLoose i g)) e
    by w v g (further_in {v = u} x l) e = loose l u (places w u g x) e

-- nothing lies in anything at the end of a path
no_end : (w v : Value) (o : Owner) → IsIn w v → v ≡ Place o [] → ⊥
no_end w v o (first l) e = by w e
  where
    by : (w : Value) → further l w ≡ Place o [] → ⊥
    by (Number z) e = absurd (cc)
    by (Place a b) e = absurd (cc)
    by (Running z) e = absurd (cc)
    by (Object z) e = absurd (cc)
    by Nothing e = absurd (cc)
no_end w v o (further_in {v = u} h l) e = by u e
  where
    by : (u : Value) → further l u ≡ Place o [] → ⊥
    by (Number z) e = absurd (cc)
    by (Place a b) e = absurd (cc)
    by (Running z) e = absurd (cc)
    by (Object z) e = absurd (cc)
    by Nothing e = absurd (cc)

-- of scopes

module _ (A : Type 0) (P Q : ℕ → ℕ → Type 0) (f : (d k : ℕ) → (A → P d k) → Q d k) where
  plain_by : (c : CleanUp) → (A → OfPlain P c) → OfPlain Q c
  plain_by (src.Destroys (src.OfObject (src.CallOn d (src.Variable k) args))) h = f d k h
  plain_by (src.Destroys (src.OfObject (src.CallUnwritten d (src.Variable k)))) h = f d k h
  plain_by c h = tt

  opens_by : (ss : Stmts) → (A → OpensOf P ss) → OpensOf Q ss
  opens_by (src.Scoped c ss) h = plain_by c h
  opens_by ss h = tt

  awaited_by : (l : List Todo) → (A → Awaited P l) → Awaited Q l
  awaited_by (piece.DropNow ∷ (piece.Within line ∷ (piece.Rest ss ∷ todo))) h = opens_by ss h
  awaited_by l h = tt

module _ (Z : ℕ → ℕ → Type 0) (n : Exec) where
  abbrev At_one : Value → ℕ → ℕ → ℕ → Type 0
  At_one v f d k = (p : List Link) → v ≡ Place (Frame n f) p → EndsBefore Z (address p) d k ⊎ IsIn (variable n f k) v

  -- what is in no frame
  nowhere : (v : Value) → ((f : ℕ) (p : List Link) → v ≡ Place (Frame n f) p → ⊥) → (cs : List Active) → Reaches Z n v cs
  nowhere v none [] = tt
  nowhere v none (c ∷ cs) =
      (awaited_by (Unit {0}) (λ d k. Unit {0}) (At_one v c.frame) (λ d k z p e. absurd (none c.frame p e)) c.control (λ u. any c.control), nowhere v none cs)
    where
      any_plain : (c : CleanUp) → OfPlain (λ d k. Unit {0}) c
      any_plain (src.Destroys (src.OfObject (src.CallOn d (src.Variable k) args))) = tt
      any_plain (src.Destroys (src.OfObject (src.CallUnwritten d (src.Variable k)))) = tt
      any_plain c = tt

      any_opens : (ss : Stmts) → OpensOf (λ d k. Unit {0}) ss
      any_opens (src.Scoped c ss) = any_plain c
      any_opens ss = tt

      any : (l : List Todo) → Awaited (λ d k. Unit {0}) l
      any (piece.DropNow ∷ (piece.Within line ∷ (piece.Rest ss ∷ todo))) = any_opens ss
      any l = tt

  -- what lies behind a cell of a frame before which all ends
  behind_all : (a d : ℕ) (v : Value) → ((f : ℕ) (p : List Link) → v ≡ Place (Frame n f) p → (f ≡ d) × (a ≤ address p)) → (cs : List Active) → AwaitsBefore Z a d cs → Reaches Z n v cs
  behind_all a d v there [] h = tt
  behind_all a d v there (c ∷ cs) h =
      (awaited_by (c.frame ≡ d) (EndsBefore Z a) (At_one v c.frame) (λ r k z p e. let x = there c.frame p e in let y = z x.0 in let q = y.2 in let l = x.1 in inl (y.0, y.1, omega (arith, q, l))) c.control h.0, behind_all a d v there cs h.1)

  -- a variable lies in nothing that is at hand
  no_empty : (cs : List Active) (o : Owner) → Sits Z n cs (Place o []) → ⊥
  no_empty [] o h = h
  no_empty (c ∷ cs) o (inl h) = h
  no_empty (c ∷ cs) o (inr (inl h)) = let e = h.1 in let q : h.0 ≡ [] = cc in subst IsOfVariable q h.2
  no_empty (c ∷ cs) o (inr (inr h)) = no_end c.this (Place o []) o h.0 refl

  no_slot : (cs : List Active) (w v : Value) (f k : ℕ) → IsIn w v → v ≡ variable n f k → Sits Z n cs w → ⊥
  no_slot cs w v f k (first l) e s = by w s e
    where
      by : (w : Value) → Sits Z n cs w → further l w ≡ Place (Frame n f) (Slot k ∷ []) → ⊥
      by (Number z) s e = absurd (cc)
      by (Place a b) s e = let q : b ≡ [] = cc in no_empty cs a (subst (λ b. Sits Z n cs (Place a b)) q s)
      by (Running z) s e = absurd (cc)
      by (Object z) s e = absurd (cc)
      by Nothing s e = absurd (cc)
  no_slot cs w v f k (further_in {v = u} h l) e s = by u h e
    where
      by : (u : Value) → IsIn w u → further l u ≡ Place (Frame n f) (Slot k ∷ []) → ⊥
      by (Number z) h e = absurd (cc)
      by (Place a b) h e = let q : b ≡ [] = cc in no_end w (Place a b) a h (ap (Place a) q)
      by (Running z) h e = absurd (cc)
      by (Object z) h e = absurd (cc)
      by Nothing h e = absurd (cc)

  place_frame : (v : Value) (f d : ℕ) (p q : List Link) → v ≡ Place (Frame n f) p → v ≡ Place (Frame n d) q → (d ≡ f) × (p ≡ q)
  place_frame v f d p q e h = let x : Place (Frame n f) p ≡ Place (Frame n d) q = sym e ∙ h in (cc, cc)

  awaits_it : (this : Value) (f : ℕ) (w : Value) (l : List Todo) → NextAt (λ d x. Meets n f w (At x) this) l → Awaited (λ d k. this ≡ variable n f k) l
  awaits_it this f w (piece.DropNow ∷ (piece.Within line ∷ (piece.Rest ss ∷ todo))) h = next_opens (λ d x. Meets n f w (At x) this) ss h
  awaits_it this f w l h = tt

  pub reaches : (f : ℕ) (this : Value) (cs : List Active) (v : Value) → SitsAt Z n f this cs v → Seated n cs this → AllSeated n cs → Reaches Z n v cs
  reaches f this cs v (inl h) s all =
      behind_all (address h.0) f v (λ d p e. let x = place_frame v f d h.0 p h.1 e in (x.0, let y = ap address x.1 in omega (arith, y))) cs h.3
  reaches f this [] v (inr h) s all = tt
  reaches f this (c ∷ cs) v (inr (i, (inl loose))) s all = nowhere v (λ d p e. in_none this v n d p loose i e) (c ∷ cs)
  reaches f this (c ∷ cs) v (inr (i, (inr (inl h)))) s all =
      (awaited_by (Unit {0}) (λ d k. this ≡ variable n c.frame k) (At_one v c.frame) (λ d k z p e. inr (subst (λ w. IsIn w v) (z tt) i)) c.control (λ u. awaits_it this c.frame c.this c.control s), behind_all (address h.0) c.frame v there cs h.3)
    where
      there : (d : ℕ) (p : List Link) → v ≡ Place (Frame n d) p → (d ≡ c.frame) × (address h.0 ≤ address p)
      there d p e =
          let x = inner (Frame n c.frame) h.0 v (subst (λ w. IsIn w v) h.1 i) in
          let y = place_frame v c.frame d x.path p x.is e in
          let b = x.behind in
          let q = ap address y.1 in
          (y.0, omega (arith, b, q))
  reaches f this (c ∷ cs) v (inr (i, (inr (inr h)))) s all =
      (awaited_by (Unit {0}) (λ d k. this ≡ variable n c.frame k) (At_one v c.frame) (λ d k z p e. absurd (no_slot cs c.this this c.frame k h.0 (z tt) h.1)) c.control (λ u. awaits_it this c.frame c.this c.control s), reaches c.frame c.this cs v (inr (in_more h.0 i, h.1)) all.0 all.1)

module _ (Z : ℕ → ℕ → Type 0) (source : Source) (s : State) (all : AllSeated s.env.exec (s.run ∷ s.callers)) where
  reaches_at : (l : List Todo) → SeatsAt Z source l s → ReachesAt Z source l s
  reaches_at (piece.BindNow ∷ todo) h = reaches Z s.env.exec s.run.frame s.run.this s.callers (top (below s.run.operands)) h all.0 all.1
  reaches_at (piece.BindMadeNow c r ∷ todo) h = reaches Z s.env.exec s.run.frame s.run.this s.callers (top (drop (params source r) (below s.run.operands))) h all.0 all.1
  reaches_at l h = tt

pub law_reaches : LawReaches
law_reaches p s h all = reaches_at (Sized p) (source_of p) s all s.run.control h

-- Where a scope opens of what is known by its number, its variable holds what is known.
use Rattle.std.proofs.Common.{◌≡◌, ℕ, ◌<◌, ◌⊎◌, inl, inr, List, [], ◌∷◌, Bool, true, refl, sym, ap, ◌∙◌, subst}
use Rattle.std.specs.Prelude.{slice_index_or}
use Rattle.uc_tree.specs.Source as src
use Rattle.uc_tree.specs.Source.{Expr, CleanUp, Stmts}
use Rattle.uc_machine.specs.declared.exec.Exec.{Exec}
use Rattle.uc_machine.specs.declared.exec.Owner.TheVariants.{Frame}
use Rattle.uc_machine.specs.Pieces as piece
use Rattle.uc_machine.specs.Pieces.{Link, Slot, At, Value, Number, Place, Running, Object, Nothing, Todo, State, further, address, nought, Active}
use Rattle.uc_typing.specs.Typing.{Ty, Num, Cell, Obj, Raw, Row, Clu, Pro, Name, Sig, Table, element_shape, CleansAt, DestroysAt, Fine, FineClean}
use Rattle.uc_typing.specs.Pieces.{Ok}
use Rattle.uc_typing.specs.States.{IsNumbered, IsObjectBy, Typed}
use Rattle.uc_state_laws.specs.There.{IsThere, EndsAt, OfVariable, OfElements, HoldsObject}
use Rattle.uc_life_laws.specs.Things.{Within, itself, field, element, Known, Holds, Few, Base, Things, lies}
use Rattle.uc_life_laws.specs.LifeStates.{frame_at, Outwards, CleanHoldsBy, OpensAtBy, OpensBy}
use Rattle.uc_life_laws.specs.Lives.{OutwardsOrMade}
use Rattle.uc_life_laws.specs.Opened.{any, ObjectsHold, LawOpens}

-- a binding has no parts
within_cell : (t : Table) (w : Value) (b : Ty) (v : Value) (d : Ty) → Within t w (Cell b) v d → (v ≡ w) × (d ≡ Cell b)
within_cell t w b v d itself = (refl, refl)
within_cell t w b v d (field {v = u} {c} h i f) = let e = within_cell t w b u (Obj c) h in absurd (cc)
within_cell t w b v d (element {v = u} {m} {b = x} h j l) = let e = within_cell t w b u (Row m x) h in absurd (cc)

-- an array of bindings has its elements
abbrev IsElement : Value → ℕ → Ty → Value → Ty → Type 0
IsElement w m b v d = ((v ≡ w) × (d ≡ Row m (Cell b))) ⊎ ((j : ℕ) × (j < m) × (v ≡ further (At src.Binding j) w) × (d ≡ Cell b))

within_row : (t : Table) (w : Value) (m : ℕ) (b : Ty) (v : Value) (d : Ty) → Within t w (Row m (Cell b)) v d → IsElement w m b v d
within_row t w m b v d itself = inl (refl, refl)
within_row t w m b v d (field {v = u} {c} h i f) = by (within_row t w m b u (Obj c) h)
  where
    by : IsElement w m b u (Obj c) → IsElement w m b v d
    by (inl e) = let q = e.1 in absurd (cc)
    by (inr e) = let q = e.3 in absurd (cc)
within_row t w m b v d (element {v = u} {m = i} {b = x} h j l) = by (within_row t w m b u (Row i x) h)
  where
    by : IsElement w m b u (Row i x) → IsElement w m b v d
    by (inl e) =
        let q = e.1 in
        let k : i ≡ m = cc in
        let c : x ≡ Cell b = cc in
        inr (j, subst (λ (k : ℕ). j < k) k l, ap (λ y. further (At (element_shape t y) j) u) c ∙ ap (further (At src.Binding j)) e.0, c)
    by (inr e) = let q = e.3 in absurd (cc)

-- what lies outside is at hand
outside : (t : Table) (few : Few) (n : Exec) (cs : List Active) (w : Value) (a : Ty) → Base few n w a → Things t few n cs w a
outside t few n [] w a b = b
outside t few n (c ∷ older) w a b = inr (outside t few n older w a b)

module _ (t : Table) (n : Exec) (K : Value → Ty → Type 0) (objects : (c o : ℕ) → K (Object o) (Obj c)) where
  cluster : (v : Value) → IsNumbered v → Known t any n K Clu v
  cluster (Number z) h = absurd h
  cluster (Place o p) h = absurd h
  cluster (Running x) h = absurd h
  cluster (Object o) h = record { is = tt; passes = refl; rooted = λ i. absurd i; held = λ m. absurd m; seated = λ i. absurd i }
  cluster Nothing h = absurd h

  processor : (v : Value) → IsNumbered v → Known t any n K Pro v
  processor (Number z) h = absurd h
  processor (Place o p) h = absurd h
  processor (Running x) h = absurd h
  processor (Object o) h = record { is = tt; passes = refl; rooted = λ i. absurd i; held = λ m. absurd m; seated = λ i. absurd i }
  processor Nothing h = absurd h

  object : (c : ℕ) (v : Value) → t.mutex c ≡ true → IsNumbered v → Known t any n K (Obj c) v
  object c (Number z) m h = absurd h
  object c (Place o p) m h = absurd h
  object c (Running x) m h = absurd h
  object c (Object o) m h = record { is = subst (λ (b : Bool). IsObjectBy t b c (Object o)) (sym m) tt; passes = refl; rooted = λ i. inl (lies (objects c o) itself); held = λ i. inl (lies (objects c o) itself); seated = λ i. absurd i }
  object c Nothing m h = absurd h

  -- what ends at a place, of the numbers that it holds
  ended : (g : Sig) (sc : List Name) (place : Expr) (P : Expr → Type 0) (v : Value) (a : Ty) (e : Expr) → DestroysAt t (Cell a) place e → Fine t g sc e → EndsAt P e → (P place → IsNumbered v) → Known t any n K a v
  ended g sc place P v (Obj c) (src.OfObject (src.EndOn r written (src.Load x))) h f p q =
      let y = f.1.1.2 in
      let z = h.1 in
      let same : f.1.1.0 ≡ c = cc in
      object c v (subst (λ i. t.mutex i ≡ true) same f.1.1.4) (q (subst P (sym h.0) p))
  ended g sc place P v Clu (src.OfObject (src.EndCluster (src.Load x))) h f p q = cluster v (q (subst P (sym h) p))
  ended g sc place P v Pro (src.OfObject (src.EndProcessor (src.Load x))) h f p q = processor v (q (subst P (sym h) p))
  ended g sc place P v a e h f p q = absurd h

module _ (t : Table) (s : State) (g : Sig) (sc : List Name) (c : CleanUp) (todo : List Todo) (gs : List Sig) (hold : ObjectsHold t gs c todo s) where
  abbrev K : Value → Ty → Type 0
  K w a = OutwardsOrMade gs (Outwards t any s.env.exec s.run.frame s.run.this s.callers c todo) s.env.exec s.run.frame s.run.this s.callers w a

  objects : (i o : ℕ) → K (Object o) (Obj i)
  objects i o = inl (inr (inl (outside t any s.env.exec s.callers (Object o) (Obj i) refl)))

  abbrev vs : List Value
  vs = frame_at s.run.frame s.env.frames

  abbrev here : ℕ → Value
  here k = Place (Frame s.env.exec s.run.frame) (Slot k ∷ [])

  single : (k : ℕ) (b : Ty) (e : Expr) → DestroysAt t (Cell b) (src.Variable k) e → Fine t g sc e → EndsAt (OfVariable (HoldsObject vs)) e → Known t any s.env.exec K b (slice_index_or vs (address (Slot k ∷ [])) nought)
  single k b e h f p = ended t s.env.exec K objects g sc (src.Variable k) (OfVariable (HoldsObject vs)) (slice_index_or vs (address (Slot k ∷ [])) nought) b e h f p (λ x. x)

  one : (k : ℕ) (b : Ty) (e : Expr) → DestroysAt t (Cell b) (src.Variable k) e → Fine t g sc e → EndsAt (OfVariable (HoldsObject vs)) e → Holds t any s.env.exec K (Frame s.env.exec s.run.frame) vs (here k) (Cell b)
  one k b e h f p q d w i =
      let x = within_cell t (here k) b (Place (Frame s.env.exec s.run.frame) q) (Cell d) w in
      let y = x.0 in
      let z = x.1 in
      let r : q ≡ Slot k ∷ [] = cc in
      let u : d ≡ b = cc in
      subst (λ d. Known t any s.env.exec K d (slice_index_or vs (address q) nought)) (sym u) (subst (λ q. Known t any s.env.exec K b (slice_index_or vs (address q) nought)) (sym r) (single k b e h f p))

  element_of : (k m : ℕ) (b : Ty) (e : Expr) (j : ℕ) → j < m → DestroysAt t (Cell b) (src.Element m src.Binding (src.Variable k) (src.OfObject src.Counted)) e → Fine t g sc e → EndsAt (OfElements m (HoldsObject vs)) e → Known t any s.env.exec K b (slice_index_or vs (address (At src.Binding j ∷ (Slot k ∷ []))) nought)
  element_of k m b e j l h f p =
      ended t s.env.exec K objects g sc (src.Element m src.Binding (src.Variable k) (src.OfObject src.Counted)) (OfElements m (HoldsObject vs)) (slice_index_or vs (address (At src.Binding j ∷ (Slot k ∷ []))) nought) b e h f p (λ x. x j l)

  many : (k m : ℕ) (b : Ty) (e : Expr) → DestroysAt t (Cell b) (src.Element m src.Binding (src.Variable k) (src.OfObject src.Counted)) e → Fine t g sc e → EndsAt (OfElements m (HoldsObject vs)) e → Holds t any s.env.exec K (Frame s.env.exec s.run.frame) vs (here k) (Row m (Cell b))
  many k m b e h f p q d w i = by (within_row t (here k) m b (Place (Frame s.env.exec s.run.frame) q) (Cell d) w)
    where
      by : IsElement (here k) m b (Place (Frame s.env.exec s.run.frame) q) (Cell d) → Known t any s.env.exec K d (slice_index_or vs (address q) nought)
      by (inl x) = let z = x.1 in absurd (cc)
      by (inr x) =
          let y = x.2 in
          let z = x.3 in
          let r : q ≡ At src.Binding x.0 ∷ (Slot k ∷ []) = cc in
          let u : d ≡ b = cc in
          subst (λ d. Known t any s.env.exec K d (slice_index_or vs (address q) nought)) (sym u) (subst (λ q. Known t any s.env.exec K b (slice_index_or vs (address q) nought)) (sym r) (element_of k m b e x.0 x.1 h f p))

  at_variable : (k : ℕ) (a : Ty) (c : CleanUp) → CleansAt t a (src.Variable k) c → FineClean t g sc c → IsThere vs c → ((i : ℕ) → a ≡ Obj i → Holds t any s.env.exec K (Frame s.env.exec s.run.frame) vs (here k) a) → ((m i : ℕ) → a ≡ Row m (Obj i) → Holds t any s.env.exec K (Frame s.env.exec s.run.frame) vs (here k) a) → Holds t any s.env.exec K (Frame s.env.exec s.run.frame) vs (here k) a
  at_variable k (Cell b) (src.Destroys e) h f p object array = one k b e h f p
  at_variable k (Obj i) (src.Destroys e) h f p object array = object i refl
  at_variable k Num (src.Destroys e) h f p object array = absurd h
  at_variable k (Raw i) (src.Destroys e) h f p object array = absurd h
  at_variable k (Row m b) (src.Destroys e) h f p object array = absurd h
  at_variable k Clu (src.Destroys e) h f p object array = absurd h
  at_variable k Pro (src.Destroys e) h f p object array = absurd h
  at_variable k (Row m (Cell b)) (src.DestroysAll n e) h f p object array =
      many k m b e h.1 f (subst (λ (n : ℕ). EndsAt (OfElements n (HoldsObject vs)) e) (sym h.0) p)
  at_variable k (Row m (Obj i)) (src.DestroysAll n e) h f p object array = array m i refl
  at_variable k (Row m Num) (src.DestroysAll n e) h f p object array = absurd h.1
  at_variable k (Row m (Raw i)) (src.DestroysAll n e) h f p object array = absurd h.1
  at_variable k (Row m (Row i b)) (src.DestroysAll n e) h f p object array = absurd h.1
  at_variable k (Row m Clu) (src.DestroysAll n e) h f p object array = absurd h.1
  at_variable k (Row m Pro) (src.DestroysAll n e) h f p object array = absurd h.1
  at_variable k Num (src.DestroysAll n e) h f p object array = absurd h
  at_variable k (Cell b) (src.DestroysAll n e) h f p object array = absurd h
  at_variable k (Obj i) (src.DestroysAll n e) h f p object array = absurd h
  at_variable k (Raw i) (src.DestroysAll n e) h f p object array = absurd h
  at_variable k Clu (src.DestroysAll n e) h f p object array = absurd h
  at_variable k Pro (src.DestroysAll n e) h f p object array = absurd h
  at_variable k a src.Unwinds h f p object array = absurd h
  at_variable k a src.Forgets h f p object array = absurd h
  at_variable k a src.Leaves h f p object array = absurd h
  at_variable k a src.Ends h f p object array = absurd h
  at_variable k a (src.Frees r) h f p object array = absurd h
  at_variable k a (src.Restores m) h f p object array = absurd h

  clean : FineClean t g sc c → IsThere vs c → CleanHoldsBy t any (OutwardsOrMade gs) s.env.exec vs s.run.frame s.run.this s.callers c todo
  clean f p k a h =
      at_variable k a c h f p (λ i e. subst (λ a. Holds t any s.env.exec K (Frame s.env.exec s.run.frame) vs (here k) a) (sym e) (hold.object k i (subst (λ a. CleansAt t a (src.Variable k) c) e h))) (λ m i e. subst (λ a. Holds t any s.env.exec K (Frame s.env.exec s.run.frame) vs (here k) a) (sym e) (hold.array k m i (subst (λ a. CleansAt t a (src.Variable k) c) e h)))

opened : (t : Table) (s : State) (x : Typed t [] s) (gs : List Sig) (c : CleanUp) (rest : Stmts) (todo : List Todo) → s.run.control ≡ piece.Rest (src.Scoped c rest) ∷ todo → IsThere (frame_at s.run.frame s.env.frames) c → ObjectsHold t gs c todo s → OpensBy t any (OutwardsOrMade gs) s
opened t s x gs c rest todo e p hold =
    let o : Ok t x.run.sig x.run.base x.run.scope (piece.Rest (src.Scoped c rest) ∷ todo) x.run.own = subst (λ l. Ok t x.run.sig x.run.base x.run.scope l x.run.own) e x.run.ok in
    subst (λ l. OpensAtBy t any (OutwardsOrMade gs) l s) (sym e) (clean t s x.run.sig x.run.scope c todo gs hold o.1.3 p)

pub law_opens : LawOpens
law_opens = record {
  opens = λ t s x gs c rest todo e p hold. opened t s x gs c rest todo e p hold;
  unbound = λ t few s c todo w a none p b h i. absurd (none w (Place (Frame s.env.exec s.run.frame) p) b h i);
}

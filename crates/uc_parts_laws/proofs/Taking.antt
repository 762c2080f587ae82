-- Where a constructor is called, each part that it is to build is taken over by what stands behind the call.
use Rattle.std.proofs.Common.{◌≡◌, ℕ, inl, inr, Bool, true, false, List, [], ◌∷◌, length, drop, Some, refl, sym, subst}
use Rattle.std.specs.Prelude.{slice_get}
use Rattle.uc_tree.specs.Source as src
use Rattle.uc_tree.specs.Source.{Expr, CleanUp, Stmts, Routine, Source}
use Rattle.uc_machine.specs.declared.exec.Exec.{Exec}
use Rattle.uc_machine.specs.Pieces as piece
use Rattle.uc_machine.specs.Pieces.{Value, Object, Todo, Active, State, top, below, further}
use Rattle.uc_state_laws.specs.Counted.{params_at}
use Rattle.uc_life_laws.specs.Destroying.{IsScoped, Seat, Destroying, DestroyingAt, itself, field, element, mutex, mutexes, AtPlace, EndsAt, AtElement, EndsElement, EndsBelow, CleansUp}
use Rattle.uc_parts_laws.specs.Parts.{AllParts}
use Rattle.uc_parts_laws.specs.PartStates.{Setting, Spot, seat_at, OverIn, IsTaken, TakenOn, CallsTakenBy, CallsTaken}
use Rattle.uc_parts_laws.specs.Undoing.{IsField, IsElement, DestroysAt, IsUndone, Undoes, IsUndoneAt, IsEndedAt, IsLocus, IsCounted, Opens}
use Rattle.uc_parts_laws.specs.UndoingTodos.{Around, around, Mark, Any, Counts, At, Homed, rests, IsPlaceOf, Holds, IsTakenBy, CalledAt, CallFits, Ok}
use Rattle.uc_parts_laws.specs.UndoingStates.{UndoingState}
use Rattle.uc_parts_laws.proofs.UndoingMarks.{holds_drop, at_top}

-- what a destructor begins with takes over what is cleaned up so
module _ (source : Source) (w : Seat) (n : Exec) (f : ℕ) (this : Value) (d : ℕ) (y : Routine) (known : slice_get source.routines d ≡ Some y) (params : y.params ≡ 0) where
  ends_field : (e : Expr) → DestroysAt IsField e → IsScoped (src.Destroys e) y.body → EndsAt source w n f this e → Destroying source w d this
  ends_field (src.OfObject (src.CallOn q (src.OfObject (src.OwnField h i)) src.NoExprs)) u s k = field y known params h i true s k
  ends_field (src.OfObject (src.CallOn q (src.OfObject (src.OwnField h i)) (src.MoreExprs x xs))) u s k = absurd k
  ends_field (src.OfObject (src.CallOn q p args)) u s k = absurd u
  ends_field (src.OfObject (src.CallUnwritten q (src.OfObject (src.OwnField h i)))) u s k = field y known params h i false s k
  ends_field (src.OfObject (src.CallUnwritten q p)) u s k = absurd u
  ends_field (src.OfObject (src.EndOn q b (src.Load (src.OfObject (src.OwnField h i))))) u s k = mutex y known params h i k.0 b s k.1 k.2
  ends_field (src.OfObject (src.EndOn q b (src.Load p))) u s k = absurd u
  ends_field e u s k = absurd k

  ends_element : (m : ℕ) (e : Expr) → DestroysAt (IsElement m) e → IsScoped (src.DestroysAll m e) y.body → EndsBelow source w n f this m e → Destroying source w d this
  ends_element m (src.OfObject (src.CallOn q (src.Element c z (src.OfObject (src.OwnField h i)) (src.OfObject src.Counted)) src.NoExprs)) u s k =
      element y known params h i c k.0 z true k.2.0 (subst (λ x. IsScoped (src.DestroysAll x (src.OfObject (src.CallOn q (src.Element c z (src.OfObject (src.OwnField h i)) (src.OfObject src.Counted)) src.NoExprs))) y.body) (sym u) s) k.2.1
  ends_element m (src.OfObject (src.CallOn q (src.Element c z (src.OfObject (src.OwnField h i)) (src.OfObject src.Counted)) (src.MoreExprs x xs))) u s k = absurd k.2
  ends_element m (src.OfObject (src.CallOn q p args)) u s k = absurd u
  ends_element m (src.OfObject (src.CallUnwritten q (src.Element c z (src.OfObject (src.OwnField h i)) (src.OfObject src.Counted)))) u s k =
      element y known params h i c k.0 z false k.2.0 (subst (λ x. IsScoped (src.DestroysAll x (src.OfObject (src.CallUnwritten q (src.Element c z (src.OfObject (src.OwnField h i)) (src.OfObject src.Counted))))) y.body) (sym u) s) k.2.1
  ends_element m (src.OfObject (src.CallUnwritten q p)) u s k = absurd u
  ends_element m (src.OfObject (src.EndOn q b (src.Load (src.Element c z (src.OfObject (src.OwnField h i)) (src.OfObject src.Counted))))) u s k =
      mutexes y known params h i c k.0 k.2.1.0 z b k.2.0 (subst (λ x. IsScoped (src.DestroysAll x (src.OfObject (src.EndOn q b (src.Load (src.Element c z (src.OfObject (src.OwnField h i)) (src.OfObject src.Counted)))))) y.body) (sym u) s) k.2.1.1 k.2.1.2
  ends_element m (src.OfObject (src.EndOn q b (src.Load p))) u s k = absurd u
  ends_element m e u s k = absurd k.2

  pub undone_by : (b : Bool) (c : CleanUp) → IsUndone b y.body c → CleansUp source w n f this c → Destroying source w d this
  undone_by b (src.Destroys e) u k = ends_field e u.1 u.0 k
  undone_by b (src.DestroysAll m e) u k = ends_element m e u.1 u.0 k
  undone_by b src.Forgets u k = subst (Destroying source w d) (sym k.1) (itself y known params src.Forgets k.0 u)
  undone_by true src.Ends u k = subst (Destroying source w d) (sym k.1) (itself y known params src.Ends k.0 u)
  undone_by false src.Ends u k = absurd u
  undone_by b c u k = absurd k

-- what holds of all parts
pub all_more : (special : ℕ → Bool) (P Q : CleanUp → Type 0) → ((c : CleanUp) → P c → Q c) → (ss : Stmts) → AllParts special P ss → AllParts special Q ss
all_more special P Q f src.Nil h = tt
all_more special P Q f (src.Then a rest) h = all_more special P Q f rest h
all_more special P Q f (src.Scoped (src.Frees r) rest) h = (f src.Ends h.0, all_more special P Q f rest h.1)
all_more special P Q f (src.Scoped c rest) h = all_more special P Q f rest h
all_more special P Q f (src.Built c rest) h = (f c h.0, all_more special P Q f rest h.1)

-- of an activation like this one, which waits
module _ (g : Setting) (n : Exec) (a : Active) where
  abbrev A : Around
  A = around n a

  at_place : (w : Seat) (P : Value → Type 0) (p : Expr) (v : Value) → IsLocus p → IsPlaceOf g.home A p v → P v → AtPlace g.source w n a.frame a.this P p
  at_place w P (src.Variable k) v l h x = subst P h x
  at_place w P (src.OfObject (src.OwnField z i)) v l h x = subst P h x
  at_place w P p v l h x = absurd l

  at_element : (w : Seat) (P : Value → Type 0) (p : Expr) (v : Value) → IsCounted p → IsPlaceOf g.home A p v → P v → AtElement g.source w n a.frame a.this P a.elements p
  at_element w P (src.Element m k (src.Variable j) (src.OfObject src.Counted)) v l h x = (h.0, subst (λ u. P (further (piece.At k a.elements) u)) h.1.1 (subst P h.1.2 x))
  at_element w P (src.Element m k (src.OfObject (src.OwnField z i)) (src.OfObject src.Counted)) v l h x = (h.0, subst (λ u. P (further (piece.At k a.elements) u)) h.1.1 (subst P h.1.2 x))
  at_element w P p v l h x = absurd l

  -- what an expression destroys at a place by the destructor d, of which `W u d` holds there, where the end of what is at u is looked for
  record Destroys (mutex : Bool) (r : ℕ) (p : Expr) (W : Spot → ℕ → Value → Type 0) (e : Expr) : Type 0 where
    d : ℕ
    undoes : Undoes g.source g.special mutex r d
    whole : (u : Spot) → AtPlace g.source (seat_at g u) n a.frame a.this (W u d) p → EndsAt g.source (seat_at g u) n a.frame a.this e
    each : (u : Spot) → AtElement g.source (seat_at g u) n a.frame a.this (W u d) a.elements p → EndsElement g.source (seat_at g u) n a.frame a.this a.elements e

  abbrev Plain : Spot → ℕ → Value → Type 0
  Plain u d v = Destroying g.source (seat_at g u) d v

  abbrev Mutex : Spot → ℕ → Value → Type 0
  Mutex u d v = DestroyingAt g.source (seat_at g u) d v

  undone : (r : ℕ) (p e : Expr) → IsUndoneAt g.source g.special r p e → Destroys false r p Plain e
  undone r p (src.OfObject (src.CallOn d q src.NoExprs)) h = record {
    d = d;
    undoes = h.1;
    whole = λ u x. subst (AtPlace g.source (seat_at g u) n a.frame a.this (Plain u d)) (sym h.0) x;
    each = λ u x. subst (AtElement g.source (seat_at g u) n a.frame a.this (Plain u d) a.elements) (sym h.0) x;
  }
  undone r p (src.OfObject (src.CallUnwritten d q)) h = record {
    d = d;
    undoes = h.1;
    whole = λ u x. subst (AtPlace g.source (seat_at g u) n a.frame a.this (Plain u d)) (sym h.0) x;
    each = λ u x. subst (AtElement g.source (seat_at g u) n a.frame a.this (Plain u d) a.elements) (sym h.0) x;
  }
  undone r p e h = absurd h

  ended : (r : ℕ) (p e : Expr) → IsEndedAt g.source g.special r p e → Destroys true r p Mutex e
  ended r p (src.OfObject (src.EndOn d b (src.Load q))) h = record {
    d = d;
    undoes = h.1;
    whole = λ u x. subst (AtPlace g.source (seat_at g u) n a.frame a.this (Mutex u d)) (sym h.0) x;
    each = λ u x. subst (AtElement g.source (seat_at g u) n a.frame a.this (Mutex u d) a.elements) (sym h.0) x;
  }
  ended r p e h = absurd h

  -- a destructor that undoes what is built of this object stands next
  record Hands (mutex : Bool) (r : ℕ) (v : Value) (todo : List Todo) : Type 0 where
    d : ℕ
    undoes : Undoes g.source g.special mutex r d
    over : (u : Spot) → Plain u d v → OverIn g u n a todo

  module _ (mutex : Bool) (r : ℕ) (p : Expr) (W : Spot → ℕ → Value → Type 0) (U : Expr → Type 0) (f : (e : Expr) → U e → Destroys mutex r p W e) (place v : Value) (h : IsPlaceOf g.home A p place) (there : (u : Spot) (d : ℕ) → Plain u d v → W u d place) where
    in_rest : (line : ℕ) (ss : Stmts) (todo : List Todo) → IsLocus p → Opens U ss → Hands mutex r v (piece.DropNow ∷ (piece.Within line ∷ (piece.Rest ss ∷ todo)))
    in_rest line (src.Scoped (src.Destroys e) rest) todo l t = let z = f e t in record { d = z.d; undoes = z.undoes; over = λ u x. z.whole u (at_place (seat_at g u) (W u z.d) p place l h (there u z.d x)) }
    in_rest line (src.Built (src.Destroys e) rest) todo l t = let z = f e t in record { d = z.d; undoes = z.undoes; over = λ u x. z.whole u (at_place (seat_at g u) (W u z.d) p place l h (there u z.d x)) }
    in_rest line ss todo l t = absurd t

    hands : (todo : List Todo) → IsTakenBy g U p todo → Hands mutex r v todo
    hands (piece.DropNow ∷ (piece.Within line ∷ (piece.Rest ss ∷ todo))) t = in_rest line ss todo t.0 t.1
    hands (piece.DropNow ∷ (piece.MoreNow ∷ (piece.FillNow m b e ∷ todo))) t =
        let z = f e t.1 in
        record { d = z.d; undoes = z.undoes; over = λ u x. z.each u (at_element (seat_at g u) (W u z.d) p place t.0 h (there u z.d x)) }
    hands todo t = absurd t

  -- so the parts of the object are taken over, and so is the task that it is
  module _ (older : List Active) (frame r : ℕ) (v : Value) (x : Routine) (is : slice_get g.source.routines r ≡ Some x) where
    plain_taken : Hands false r v a.control → AllParts g.special (IsTaken g n (a ∷ older) frame v) x.body
    plain_taken z = all_more g.special (IsUndone false z.undoes.destructor.body) (IsTaken g n (a ∷ older) frame v) each x.body (z.undoes.undone x is)
      where
        each : (c : CleanUp) → IsUndone false z.undoes.destructor.body c → IsTaken g n (a ∷ older) frame v c
        each src.Ends u = absurd u
        each c u = λ w k. z.over w (undone_by g.source (seat_at g w) n frame v z.d z.undoes.destructor z.undoes.known z.undoes.params false c u k)

    mutex_taken : (o : ℕ) → v ≡ Object o → Hands true r v a.control → AllParts g.special (IsTaken g n (a ∷ older) frame v) x.body
    mutex_taken o e z = all_more g.special (IsUndone true z.undoes.destructor.body) (IsTaken g n (a ∷ older) frame v) each x.body (z.undoes.undone x is)
      where
        each : (c : CleanUp) → IsUndone true z.undoes.destructor.body c → IsTaken g n (a ∷ older) frame v c
        each src.Ends u = z.over (record { place = Object (piece.object_in v); task = true }) (subst (λ q. Destroying g.source (seat_at g (record { place = Object (piece.object_in q); task = true })) z.d q) (sym e) (itself z.undoes.destructor z.undoes.known z.undoes.params src.Ends refl u))
        each c u = λ w k. z.over w (undone_by g.source (seat_at g w) n frame v z.d z.undoes.destructor z.undoes.known z.undoes.params true c u k)

-- where a constructor is called

module _ (g : Setting) (s : State) where
  abbrev Waiting : List Todo → List Value → Active
  Waiting todo vs = record s.run { control = todo; operands = vs }

  called : (r : ℕ) (todo : List Todo) (x : Routine) → slice_get g.source.routines r ≡ Some x → (ns : List Mark) (vs : List Value) → Holds g.home (around s.env.exec s.run) ns vs → CalledAt g r ns todo → AllParts g.special (IsTaken g s.env.exec (Waiting todo (below vs) ∷ s.callers) (length s.env.frames) (top vs)) x.body
  called r todo x e (At p ∷ ns) vs h t =
      let a = Waiting todo (below vs) in
      plain_taken g s.env.exec a s.callers (length s.env.frames) r (top vs) x e (hands g s.env.exec a false r p (Plain g s.env.exec a) (IsUndoneAt g.source g.special r p) (λ q i. undone g s.env.exec a r p q i) (top vs) (top vs) (at_top g.home (around s.env.exec s.run) p vs h.0) (λ u d k. k) todo t)
  called r todo x e (Homed p ∷ ns) vs h t =
      let a = Waiting todo (below vs) in
      let k = h.0 in
      mutex_taken g s.env.exec a s.callers (length s.env.frames) r (top vs) x e k.2.0 k.2.1 (hands g s.env.exec a true r p (Mutex g s.env.exec a) (IsEndedAt g.source g.special r p) (λ q i. ended g s.env.exec a r p q i) k.0 (top vs) k.1 (λ u d m. (k.2.0, k.2.2, subst (Destroying g.source (seat_at g u) d) k.2.1 m)) todo t)
  called r todo x e [] vs h t = absurd t
  called r todo x e (Any ∷ ns) vs h t = absurd t
  called r todo x e (Counts ∷ ns) vs h t = absurd t

  module _ (ms : List Mark) (holds : Holds g.home (around s.env.exec s.run) ms s.run.operands) where
    on : (r : ℕ) (todo : List Todo) → CallFits g r ms todo → TakenOn g r s todo
    on r todo (inl none) q x e = all_more g.special (λ c. ⊥) (IsTaken g s.env.exec (Waiting todo (below (drop x.params s.run.operands)) ∷ s.callers) (length s.env.frames) (top (drop x.params s.run.operands))) (λ c z. absurd z) x.body (none q x e)
    on r todo (inr c) q x e =
        called r todo x e (rests x.params ms) (drop x.params s.run.operands) (holds_drop g.home (around s.env.exec s.run) x.params ms s.run.operands holds) (subst (λ o. CalledAt g r (rests (params_at o) ms) todo) e c)

    calls : (l : List Todo) → Ok g ms l → CallsTakenBy g l s
    calls (piece.CallNow r ∷ todo) h = λ q x e. all_more g.special (λ c. ⊥) (IsTaken g s.env.exec (Waiting todo (drop x.params s.run.operands) ∷ s.callers) (length s.env.frames) piece.Nothing) (λ c z. absurd z) x.body (h.0 q x e)
    calls (piece.CallOnNow r ∷ todo) h = on r todo h.0
    calls (piece.CallUnwrittenNow r ∷ todo) h = on r todo h.0
    calls l h = tt

pub calls_taken : (g : Setting) (s : State) → UndoingState g s → CallsTaken g s
calls_taken g s h = calls g s h.run.marks h.run.holds s.run.control h.run.ok

-- What destroys a coroutine in a frame is called for a variable of that, or at a field of what a constructor or a destructor has at hand, which lies in an
-- older frame.
use Rattle.std.proofs.Common.{◌≡◌, ℕ, suc, ◌<◌, ◌⊎◌, inl, inr, ⊎_elim, true, false, List, [], ◌∷◌, length, sym, ap, ◌∙◌, subst, arith}
use Rattle.uc_tree.specs.Source as src
use Rattle.uc_tree.specs.Source.{Source, Expr, CleanUp, Stmts}
use Rattle.uc_machine.specs.declared.exec.Exec.{Exec}
use Rattle.uc_machine.specs.declared.exec.Owner.TheVariants.{Frame, Fields}
use Rattle.uc_machine.specs.Pieces as piece
use Rattle.uc_machine.specs.Pieces.{Link, Slot, FieldAt, At, Value, Number, Place, Running, Object, Nothing, Todo, Sort, Active, State, further}
use Rattle.uc_name_laws.proofs.Homes.{no_both}
use Rattle.uc_state_laws.specs.Layout.{Sized}
use Rattle.uc_state_laws.specs.RoomStacks.{Stack}
use Rattle.uc_life_laws.specs.Placed.{Placed}
use Rattle.uc_life_laws.specs.Destroying.{Seat, Destroying, itself, field, element, mutex, mutexes, DestroyingAt, AtPlace, AtElement, EndsAt, EndsElement, CleansUp}
use Rattle.uc_life_laws.specs.Held.{AreLines, HeldBy, HeldIn, Held, Opens, WaitsBy, Waits, IsHeld, IsWaitedFor}
use Rattle.uc_life_laws.specs.Ending.{Spot}
use Rattle.uc_putting_laws.specs.CleanedSpots.{Site, IsOver, Reach, apart}
use Rattle.uc_putting_laws.specs.ObjectsAtHand.{BelongsBelow, in_frame, in_fields, in_object}
use Rattle.uc_putting_laws.specs.Calling as calling
use Rattle.uc_putting_laws.specs.Putting.{Setting, Around, around, Mark, Any, SeatAt, CodeScope, CodeRest, LeftBy, Ok, Left, Waits as PutWaits, Runs as PutRuns}
use Rattle.uc_putting_laws.proofs.Marks.{left_tail, AllLeft, waits_left}
use Rattle.uc_place_laws.specs.OlderResting.{AllWait}
use Rattle.uc_parts_laws.specs.FramesStay.{IsEnd, LawFramesStay}

-- a coroutine that lies in a frame of this execution
module _ (source : Source) (w : Seat) (n : Exec) (d : ℕ) (p : List Link) (lies : w.place ≡ Place (Frame n d) p) where
  -- in what it lies does so
  abbrev pub InFrame : Value → Type 0
  InFrame v = (q : List Link) × (v ≡ Place (Frame n d) q)

  pub outward : (l : Link) (v : Value) → InFrame (further l v) → InFrame v
  outward l (Place (Frame m e) q) h = let same : Place (Frame m e) (l ∷ q) ≡ Place (Frame n d) h.0 = h.1 in let o : Frame m e ≡ Frame n d = cc in (q, ap (λ z. Place z q) o)
  outward l (Place (Fields o) q) h = let same : Place (Fields o) (l ∷ q) ≡ Place (Frame n d) h.0 = h.1 in absurd (cc)
  outward l (Object o) h = let same : Place (Fields o) (l ∷ []) ≡ Place (Frame n d) h.0 = h.1 in absurd (cc)
  outward l (Number z) h = let same : Nothing ≡ Place (Frame n d) h.0 = h.1 in absurd (cc)
  outward l (Running y) h = let same : Nothing ≡ Place (Frame n d) h.0 = h.1 in absurd (cc)
  outward l Nothing h = let same : Nothing ≡ Place (Frame n d) h.0 = h.1 in absurd (cc)

  pub no_object : (o : ℕ) → InFrame (Object o) → ⊥
  no_object o h = let same : Object o ≡ Place (Frame n d) h.0 = h.1 in absurd (cc)

  pub destroyed_in : {r : ℕ} {v : Value} → Destroying source w r v → InFrame v
  destroyed_in (itself x e q c l h) = (p, lies)
  destroyed_in {r} {v} (field x e q h i b s k) = outward (FieldAt h i) v (destroyed_in k)
  destroyed_in {r} {v} (element x e q h i m j z b l s k) = outward (FieldAt h i) v (outward (At z j) (further (FieldAt h i) v) (destroyed_in k))
  destroyed_in (mutex {d = r} x e q h i o b s y k) = absurd (no_object o (destroyed_in k))
  destroyed_in (mutexes {d = r} x e q h i m j o z b l s y k) = absurd (no_object o (destroyed_in k))

  -- in an activation of this frame and object, the code of which names these spots
  module _ (g : Setting) (r : Reach) (f : ℕ) (this : Value) where
    -- it lies in the frame of the activation, or the object at hand does so, which that builds or destroys
    abbrev pub Deep : Type 0
    Deep = (d ≡ f) ⊎ ((r.builds ≡ true) × ((q : List Link) × (this ≡ Place (Frame n d) q)))

    at_place : (P : Value → Type 0) → ((v : Value) → P v → InFrame v) → (Q : ℕ → Spot → Type 0) (e : Expr) → AtPlace source w n f this P e → calling.PlaceAt g.table g.source g.special r Q e → Deep
    at_place P k Q (src.Variable c) h i =
        let y : InFrame (Place (Frame n f) (Slot c ∷ [])) = k (Place (Frame n f) (Slot c ∷ [])) h in
        let same : Place (Frame n f) (Slot c ∷ []) ≡ Place (Frame n d) y.0 = y.1 in
        let o : f ≡ d = cc in inl (sym o)
    at_place P k Q (src.OfObject (src.OwnField z j)) h i = inr (i.0, outward (FieldAt z j) this (k (further (FieldAt z j) this) h))
    at_place P k Q e h i = absurd h

    no_mutex : (q : ℕ) (v : Value) → DestroyingAt source w q v → ⊥
    no_mutex q v h = no_object h.0 (destroyed_in h.2)

    no_place : (P : Value → Type 0) → ((v : Value) → P v → ⊥) → (e : Expr) → AtPlace source w n f this P e → ⊥
    no_place P k (src.Variable c) h = k (Place (Frame n f) (Slot c ∷ [])) h
    no_place P k (src.OfObject (src.OwnField z j)) h = k (further (FieldAt z j) this) h
    no_place P k e h = h

    -- what destroys one object
    by_calls : (P : Site → Type 0) (e : Expr) → EndsAt source w n f this e → calling.CallsAt g.table g.source g.special r P e → Deep
    by_calls P (src.OfObject (src.CallOn q x src.NoExprs)) h i = at_place (Destroying source w q) (λ v k. destroyed_in k) _ x h i.1
    by_calls P (src.OfObject (src.CallUnwritten q x)) h i = at_place (Destroying source w q) (λ v k. destroyed_in k) _ x h i.1
    by_calls P (src.OfObject (src.EndOn q b (src.Load x))) h i = absurd (no_place (DestroyingAt source w q) (no_mutex q) x h)
    by_calls P e h i = absurd h

    pub none_ends : (e : Expr) → EndsAt source w n f this e → (P : Site → Type 0) → calling.EndsAt g.table g.source g.special r P e → ⊥
    none_ends (src.OfObject (src.EndOn q b (src.Load x))) h P i = no_place (DestroyingAt source w q) (no_mutex q) x h
    none_ends (src.OfObject (src.CallOn q x src.NoExprs)) h P i = i
    none_ends (src.OfObject (src.CallUnwritten q x)) h P i = i
    none_ends e h P i = absurd h

    pub none_numbers : (e : Expr) → EndsAt source w n f this e → (P : Site → Type 0) → calling.EndsNumber g.table g.source g.special r P e → ⊥
    none_numbers (src.OfObject (src.EndOn q b (src.Load x))) h P i = i
    none_numbers (src.OfObject (src.CallOn q x src.NoExprs)) h P i = i
    none_numbers (src.OfObject (src.CallUnwritten q x)) h P i = i
    none_numbers e h P i = absurd h

    -- at an element
    pub at_element : (P : Value → Type 0) → ((v : Value) → P v → InFrame v) → (Q : ℕ → Spot → Type 0) (j : ℕ) (e : Expr) → AtElement source w n f this P j e → calling.PlaceAt g.table g.source g.special r Q e → Deep
    at_element P k Q j (src.Element m z x (src.OfObject src.Counted)) h i = at_place (λ v. P (further (At z j) v)) (λ v y. outward (At z j) v (k (further (At z j) v) y)) _ x h.1 i.0
    at_element P k Q j e h i = absurd h

    no_element : (P : Value → Type 0) → ((v : Value) → P v → ⊥) → (j : ℕ) (e : Expr) → AtElement source w n f this P j e → ⊥
    no_element P k j (src.Element m z x (src.OfObject src.Counted)) h = no_place (λ v. P (further (At z j) v)) (λ v y. k (further (At z j) v) y) x h.1
    no_element P k j e h = h

    each_calls : (P : Site → Type 0) (j : ℕ) (e : Expr) → EndsElement source w n f this j e → calling.CallsAt g.table g.source g.special r P e → Deep
    each_calls P j (src.OfObject (src.CallOn q x src.NoExprs)) h i = at_element (Destroying source w q) (λ v k. destroyed_in k) _ j x h i.1
    each_calls P j (src.OfObject (src.CallUnwritten q x)) h i = at_element (Destroying source w q) (λ v k. destroyed_in k) _ j x h i.1
    each_calls P j (src.OfObject (src.EndOn q b (src.Load x))) h i = absurd (no_element (DestroyingAt source w q) (no_mutex q) j x h)
    each_calls P j e h i = absurd h

    pub each_ends : (j : ℕ) (e : Expr) → EndsElement source w n f this j e → (P : Site → Type 0) → calling.EndsEach g.table g.source g.special r P e → ⊥
    each_ends j (src.OfObject (src.EndOn q b (src.Load x))) h P i = no_element (DestroyingAt source w q) (no_mutex q) j x h
    each_ends j (src.OfObject (src.CallOn q x src.NoExprs)) h P i = i
    each_ends j (src.OfObject (src.CallUnwritten q x)) h P i = i
    each_ends j e h P i = absurd h

    pub each_numbers : (j : ℕ) (e : Expr) → EndsElement source w n f this j e → (P : Site → Type 0) → calling.EndsNumber g.table g.source g.special r P e → ⊥
    each_numbers j (src.OfObject (src.EndOn q b (src.Load x))) h P i = i
    each_numbers j (src.OfObject (src.CallOn q x src.NoExprs)) h P i = i
    each_numbers j (src.OfObject (src.CallUnwritten q x)) h P i = i
    each_numbers j e h P i = absurd h

    pub by_sweeps : (P : Site → Type 0) (j : ℕ) (e : Expr) → EndsElement source w n f this j e → calling.SweepsBy g.table g.source g.special r P e → Deep
    by_sweeps P j e h (inl i) = absurd (each_numbers j e h P i)
    by_sweeps P j e h (inr (inl i)) = each_calls P j e h i
    by_sweeps P j e h (inr (inr i)) = absurd (each_ends j e h P i)

    -- a clean-up
    pub by_cleans : w.task ≡ false → (c : CleanUp) → CleansUp source w n f this c → calling.CleansBy g.table g.source g.special r c → Deep
    by_cleans t src.Forgets h i = inr (i, (p, h.1 ∙ lies))
    by_cleans t src.Ends h i = absurd i
    by_cleans t (src.Destroys e) h (inl i) = absurd (none_numbers e h (IsOver g.table (src.Destroys e)) i)
    by_cleans t (src.Destroys e) h (inr (inl i)) = by_calls (IsOver g.table (src.Destroys e)) e h i
    by_cleans t (src.Destroys e) h (inr (inr i)) = absurd (none_ends e h (IsOver g.table (src.Destroys e)) i)
    by_cleans t (src.DestroysAll m e) h i = by_sweeps (IsOver g.table (src.DestroysAll m e)) h.0 e h.2 i
    by_cleans t c h i = absurd h

    -- a scope, and a part
    by_scope : (A : Around) → w.task ≡ false → (c : CleanUp) (todo : List Todo) → CleansUp source w n f this c → CodeScope g A r c todo → Deep
    by_scope A t src.Forgets todo h i = by_cleans t src.Forgets h i.1
    by_scope A t src.Ends todo h i = absurd (no_both w.task h.0 t)
    by_scope A t (src.Destroys e) todo h i = by_cleans t (src.Destroys e) h i.1
    by_scope A t (src.DestroysAll m e) todo h i = by_cleans t (src.DestroysAll m e) h i.1
    by_scope A t c todo h i = absurd h

  -- what holds it in what is to do
  module _ (g : Setting) (ps : List Placed) (t : w.task ≡ false) (A : Around) (r : Reach) (f : ℕ) (this : Value) (e : ℕ) (older : List Active) (R : Type 0) where
    by_sort : (k : Sort) (todo : List Todo) (l o T : Type 0) → LeftBy g A r k todo l o → (T → Deep g r f this ⊎ R) → HeldBy source w ps n f this e k todo older T → Deep g r f this ⊎ R
    by_sort (piece.IsClean c) todo l o T i k (inl h) = inl (by_scope g r f this A t c todo h.0 i.0)
    by_sort (piece.IsClean c) todo l o T i k (inr h) = k h
    by_sort (piece.IsPart c) todo l o T i k (inl h) = inl (by_cleans g r f this t c h.0 i.0.1)
    by_sort (piece.IsPart c) todo l o T i k (inr h) = k h
    by_sort (piece.IsFill m b x) todo l o T i k (inl h) = inl (by_sweeps g r f this (SeatAt g A r todo) h.0.0 x h.0.2 i.0.1.1)
    by_sort (piece.IsFill m b x) todo l o T i k (inr h) = k h
    by_sort (piece.IsSweep x) todo l o T i k (inl h) = inl (by_sweeps g r f this (SeatAt g A r todo) h.0.0 x h.0.2 i.0.1)
    by_sort (piece.IsSweep x) todo l o T i k (inr h) = k h
    by_sort piece.Simple todo l o T i k h = k h
    by_sort (piece.IsLoop x y z q) todo l o T i k h = k h
    by_sort piece.IsWhole todo l o T i k h = k h
    by_sort (piece.IsGuard x) todo l o T i k h = k h
    by_sort piece.IsFinish todo l o T i k h = k h
    by_sort piece.IsFinishCoroutine todo l o T i k h = k h

    in_list : (todo : List Todo) → Left g A r todo → HeldIn source w ps n f this e older R todo → Deep g r f this ⊎ R
    in_list [] i h = inr h
    in_list (piece.CountNow m ∷ (piece.FillNow k b x ∷ todo)) i h =
        in_list todo (left_tail g A r (piece.FillNow k b x) todo (left_tail g A r (piece.CountNow m) (piece.FillNow k b x ∷ todo) i)) h
    in_list (q ∷ todo) i h =
        by_sort (piece.sort q) todo (Left g A r todo) (Ok g A r [] todo) (HeldIn source w ps n f this e older R todo) i (λ k. in_list todo (left_tail g A r q todo i) k) h

  -- the object at hand lies in an older frame
  pub below_own : (g : Setting) (f : ℕ) (this : Value) → BelongsBelow g.few n f this → InFrame this → d < f
  below_own g f _ (in_frame {x} {e} {p = q} own l) h = let same : Place (Frame x e) q ≡ Place (Frame n d) h.0 = h.1 in let o : e ≡ d = cc in subst (λ k. k < f) o l
  below_own g f _ (in_fields {o} {p = q} b) h = let same : Place (Fields o) q ≡ Place (Frame n d) h.0 = h.1 in absurd (cc)
  below_own g f _ (in_object {o} b) h = absurd (no_object o h)

  deep_below : (g : Setting) (r : Reach) (f : ℕ) (this : Value) (k : ℕ) → f < k → (r.builds ≡ true → BelongsBelow g.few n f this) → Deep g r f this → d < k
  deep_below g r f this k l own (inl e) = subst (λ z. z < k) (sym e) l
  deep_below g r f this k l own (inr h) = let m = below_own g f this (own h.0) h.1 in omega (arith, l, m)

  -- of activations that wait
  pub held_below : (g : Setting) (Z : ℕ → ℕ → Type 0) (fs : List (List Value)) (ps : List Placed) → w.task ≡ false → (cs : List Active) → AllLeft g n cs → Stack Z fs cs → Held source w ps n cs → d < length cs
  held_below g Z fs ps t [] i k h = absurd h
  held_below g Z fs ps t (c ∷ older) i k h =
      let le = k.0.frame in
      ⊎_elim (λ x. deep_below g i.0.made c.frame c.this (suc (length older)) (omega (arith, le)) i.0.seat.own x) (λ x. let l = held_below g Z fs ps t older i.1 k.1 x in omega (arith, l)) (in_list g ps t (around n c older) i.0.made c.frame c.this c.elements older (Held source w ps n older) c.control i.0.rest h)

  -- who waits first
  rest_opens : (g : Setting) (A : Around) (r : Reach) (f : ℕ) (this : Value) (ps : List Placed) → w.task ≡ false → (ss : Stmts) (todo : List Todo) → CodeRest g A r ss todo → Opens source w ps n f this ss → Deep g r f this
  rest_opens g A r f this ps t (src.Scoped c rest) todo (inl i) h = weaker g r f this (by_cleans g (apart r) f this t c h i.1.0)
    where
      weaker : (g : Setting) (r : Reach) (f : ℕ) (this : Value) → Deep g (apart r) f this → Deep g r f this
      weaker g r f this (inl e) = inl e
      weaker g r f this (inr k) = let e : false ≡ true = k.0 in absurd (cc)
  rest_opens g A r f this ps t (src.Built c rest) todo (inl i) h = weaker g r f this (by_cleans g (apart r) f this t c h i.1.0)
    where
      weaker : (g : Setting) (r : Reach) (f : ℕ) (this : Value) → Deep g (apart r) f this → Deep g r f this
      weaker g r f this (inl e) = inl e
      weaker g r f this (inr k) = let e : false ≡ true = k.0 in absurd (cc)
  rest_opens g A r f this ps t (src.Scoped c rest) todo (inr (inl i)) h = by_cleans g r f this t c h i.0.1.0
  rest_opens g A r f this ps t (src.Built c rest) todo (inr (inl i)) h = by_cleans g r f this t c h i.0.1.0
  rest_opens g A r f this ps t (src.Scoped c rest) todo (inr (inr i)) h = opening c i.2 h
    where
      opening : (c : CleanUp) → calling.Opening g.table g.source g.special r (src.Scoped c rest) → CleansUp source w n f this c → Deep g r f this
      opening src.Ends k m = absurd (no_both w.task m.0 t)
      opening (src.Frees q) k m = absurd m
      opening c k m = absurd k
  rest_opens g A r f this ps t (src.Built c rest) todo (inr (inr i)) h = absurd i.2
  rest_opens g A r f this ps t ss todo i h = absurd h

  waits_deep : (g : Setting) (ps : List Placed) → w.task ≡ false → (older : List Active) (a : Active) (i : PutWaits g n older a) (l : List Todo) → (ms : List Mark) → Ok g (around n a older) i.made ms l → WaitsBy source w ps n a.frame a.this a.elements l → Deep g i.made a.frame a.this
  waits_deep g ps t older a i (piece.DropNow ∷ (piece.Within line ∷ (piece.Rest ss ∷ todo))) ms k h = rest_opens g (around n a older) i.made a.frame a.this ps t ss todo k.1.1.0 h
  waits_deep g ps t older a i (piece.DropNow ∷ (piece.MoreNow ∷ (piece.FillNow m b x ∷ todo))) ms k h = by_sweeps g i.made a.frame a.this (SeatAt g (around n a older) i.made todo) a.elements x h k.1.1.0.1.1
  waits_deep g ps t older a i l ms k h = absurd h

  waits_below : (g : Setting) (Z : ℕ → ℕ → Type 0) (fs : List (List Value)) (ps : List Placed) → w.task ≡ false → (cs : List Active) → AllWait (PutRuns g) (PutWaits g) n cs → Stack Z fs cs → Waits source w ps n cs → d < length cs
  waits_below g Z fs ps t [] i k h = absurd h
  waits_below g Z fs ps t (c ∷ older) i k h =
      let le = k.0.frame in
      deep_below g i.0.made c.frame c.this (suc (length older)) (omega (arith, le)) i.0.this.own (waits_deep g ps t older c i.0 c.control (Any ∷ i.0.marks) i.0.ok h)

-- an end holds none
module _ (source : Source) (w : Seat) (ps : List Placed) (n : Exec) (f : ℕ) (this : Value) (e : ℕ) (older : List Active) (R : Type 0) where
  lines_hold : (todo : List Todo) → AreLines todo → HeldIn source w ps n f this e older R todo → R
  lines_hold [] l h = h
  lines_hold (piece.Within line ∷ todo) l h = lines_hold todo l h
  lines_hold (p ∷ todo) l h = absurd l

  pub end_holds : (todo : List Todo) → IsEnd todo → HeldIn source w ps n f this e older R todo → R
  end_holds [] l h = h
  end_holds (piece.Exit way ∷ []) l h = h
  end_holds (piece.Unwind ∷ []) l h = h
  end_holds (piece.Finish ∷ todo) l h = lines_hold todo l h
  end_holds todo l h = absurd l

pub law_frames_stay : LawFramesStay
law_frames_stay p g seats up s put stack end x own t k d q e = inr (by k)
  where
    by : IsHeld g.source seats up s x ⊎ IsWaitedFor g.source seats up s x → d < length s.callers
    by (inl h) =
        held_below g.source (seats.seat x) s.env.exec d q e g (Sized p) s.env.frames (seats.before x) t s.callers (waits_left g s.env.exec s.callers put.callers) stack.stack.1 (end_holds g.source (seats.seat x) (seats.before x) s.env.exec s.run.frame s.run.this s.run.elements s.callers (Held g.source (seats.seat x) (seats.before x) s.env.exec s.callers) s.run.control end h)
    by (inr h) = waits_below g.source (seats.seat x) s.env.exec d q e g (Sized p) s.env.frames (seats.before x) t s.callers put.callers stack.stack.1 h

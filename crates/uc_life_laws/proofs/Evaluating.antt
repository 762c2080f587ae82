-- An expression is taken apart, or what it finds is known.
use Rattle.std.proofs.Common.{◌≡◌, ℕ, ◌≤◌, List, [], ◌∷◌, ◌⊎◌, inl, inr, Some, Bool, true, false, refl, sym, ap, subst, arith}
use Rattle.std.specs.Prelude.{if◌then◌else◌, slice_index_or}
use Rattle.uc_tree.specs.Source.{Shape, Character, Truth, Expr, ObjectExpr, Literal, Variable, Element, Get, Load, Negated, Not, AsCharacter, AsTruth, Operate, And, Or, Set, Assign, First, Update, StepBehind, Fail, Call, OfObject, This, OwnField, GetOwn, FieldOf, Counted, CallOn, CallLive, CallUnwritten, EnterOn, EndOn, Bind, MakeOn, NewCluster, NewProcessor, EndCluster, EndProcessor, ConditionAt, Wait, Signal, SignalBlock, IsEmpty, FrontOf, Source}
use Rattle.uc_machine.specs.declared.exec.Exec.{Exec}
use Rattle.uc_machine.specs.Executions.{at_depth, list_in, others, frames_of, frames_in, parked_at}
use Rattle.uc_machine.specs.Quiet.{Value, Number, Place, Object, Slot, FieldAt, State, Todo, at, loaded, further, address, variable_at, nought, LAST_ADDRESS, eval_step, object_step}
use Rattle.uc_machine.specs.Pieces as pc
use Rattle.uc_machine.specs.Quiet as q
use Rattle.uc_typing.specs.Typing.{Ty, Num, Cell, Obj, Raw, Row, Clu, Pro, Name, Sig, Table, object_ty, raw, IsPlaced, InScope, IsHeld, IsVariable, Yields, ObjectGives}
use Rattle.uc_typing.specs.Pieces.{onto, Ok}
use Rattle.uc_typing.specs.States.{IsObjectBy, Is, IsBase, Sound}
use Rattle.uc_typing.proofs.Control.{converted_ok}
use Rattle.uc_life_laws.specs.Things.{Few, IsTracked, itself, LiesIn, Variables, Known, lies, IsFew}
use Rattle.uc_life_laws.specs.Knowing.{AtHand, KnownAll, KnownParams, KnownFrames, KnownThis, KnowsWaits, ClaimsEnv, StepBy, Here, ReadsKnown, VariablesKnown, FindsObject, FindsExpr}
use Rattle.uc_life_laws.specs.Kinds.{IsKept, FollowsOn}
use Rattle.uc_life_laws.proofs.Parked.{Ex}
use Rattle.uc_life_laws.proofs.Knowns as known
use Rattle.uc_life_laws.proofs.Knowns.{known_more, older_hand, frames_at, held}
use Rattle.uc_life_laws.proofs.Reading as reading
use Rattle.uc_life_laws.proofs.LifeSteps.{exec_same}
use Rattle.uc_life_laws.proofs.Going as going
use Rattle.uc_life_laws.proofs.Going.{With}

cell_min : (k : ℕ) → k ≤ LAST_ADDRESS → address (Slot k ∷ []) ≡ k
cell_min k l = omega (arith, l)

-- what a clean-up takes out of scope at a variable is no binding of what is being built
module _ (t : Table) (few : Few) (Q : Exec → List Sig → Ex → Type 0) (kept : IsKept Q) (source : Source) (sound : Sound t source) (s : State) (sigs : List Sig) (st : VariablesKnown t few sigs s) (g : Sig) (base sc : List Name) (frames : KnownFrames t few s.env.exec sigs s.env.frames (s.run ∷ s.callers)) (frame : at_depth sigs s.run.frame ≡ Some g) (this : KnownThis t few s.env.exec (AtHand t few s.env.exec (others sigs) s.callers) g g.this s.run.this) (callers : KnowsWaits t few s.env.exec (others sigs) s.callers) (env : ClaimsEnv t few Q s.env) (ends : IsBase t g s.run.handles base s.run.frame s.callers) where
  go : (inner : List Name) (own : List Ty) (todo : List Todo) (vs : List Value) → Ok t g base inner todo own → KnownAll t few s.env.exec (With t few s sigs todo) own vs → FollowsOn Q t few source s sigs [] (at todo vs s)
  go = going.go t few Q kept source s sigs g base frames frame this callers env ends

  asks : (inner : List Name) (own : List Ty) (todo : List Todo) (vs : List Value) → Ok t g base inner todo (Num ∷ own) → KnownAll t few s.env.exec (With t few s sigs todo) own vs → FollowsOn Q t few source s sigs (Num ∷ []) (at todo vs s)
  asks = going.asks t few Q kept source s sigs g base frames frame this callers env ends

  -- the object at hand
  this_is : (c : ℕ) → g.this ≡ Some c → Known t few s.env.exec (AtHand t few s.env.exec (others sigs) s.callers) (object_ty g.whole c) s.run.this
  this_is c e = subst (λ o. KnownThis t few s.env.exec (AtHand t few s.env.exec (others sigs) s.callers) g o s.run.this) e this

  -- what is at hand before a list is so behind its first piece, where that is no mark
  pub to : (l : List Todo) → s.run.control ≡ l → known.Less t few s.env.exec (Here t few sigs s) (With t few s sigs l)
  to l q = subst (λ l. known.Less t few s.env.exec (Here t few sigs s) (With t few s sigs l)) q (λ w a h. h)

  pub from : (l : List Todo) → s.run.control ≡ l → known.Less t few s.env.exec (With t few s sigs l) (Here t few sigs s)
  from l q = subst (λ l. known.Less t few s.env.exec (With t few s sigs l) (Here t few sigs s)) q (λ w a h. h)

  same : (l : List Todo) → s.run.control ≡ l → known.Less t few s.env.exec (Variables t s.env.exec (record s.run { control = l } ∷ s.callers)) (Variables t s.env.exec (s.run ∷ s.callers))
  same l q = subst (λ l. known.Less t few s.env.exec (Variables t s.env.exec (record s.run { control = l } ∷ s.callers)) (Variables t s.env.exec (s.run ∷ s.callers))) q (λ w a h. h)

  lies_itself : (K : Value → Ty → Type 0) (a : Ty) (v : Value) → K v a → LiesIn t few s.env.exec K a v
  lies_itself K a (Number z) h = tt
  lies_itself K a (Place o p) h = inl (lies h itself)
  lies_itself K a (pc.Running x) h = tt
  lies_itself K a (Object o) h = inl (lies h itself)
  lies_itself K a pc.Nothing h = tt

  made_itself : (K : Value → Ty → Type 0) (c : ℕ) (v : Value) → K v (Raw c) → LiesIn t few s.env.exec K (Obj c) v
  made_itself K c (Number z) h = tt
  made_itself K c (Place o p) h = inr (Place o p, c, h, itself)
  made_itself K c (pc.Running x) h = tt
  made_itself K c (Object o) h = inr (Object o, c, h, itself)
  made_itself K c pc.Nothing h = tt

  module _ (todo : List Todo) where
    -- the object at hand is, whole or not
    this_made : (c : ℕ) → g.this ≡ Some c → (IsFew t few s.env.exec (Raw c) s.run.this → IsFew t few s.env.exec (Obj c) s.run.this) → Known t few s.env.exec (With t few s sigs todo) (Obj c) s.run.this
    this_made c e still = by g.whole refl (this_is c e)
      where
        by : (b : Bool) → g.whole ≡ b → Known t few s.env.exec (AtHand t few s.env.exec (others sigs) s.callers) (object_ty b c) s.run.this → Known t few s.env.exec (With t few s sigs todo) (Obj c) s.run.this
        by true w h =
            let lies : LiesIn t few s.env.exec (With t few s sigs todo) (Obj c) s.run.this = made_itself (With t few s sigs todo) c s.run.this (inr (inl (inl (g, frame, (w, (c, e, refl, refl)))))) in
            record { is = h.is; passes = still h.passes; rooted = λ i. lies; held = λ m. lies; seated = λ i. absurd i }
        by false w h =
            known_more t few s.env.exec (AtHand t few s.env.exec (others sigs) s.callers) (With t few s sigs todo) (older_hand t few s.env.exec sigs (record s.run { control = todo }) s.callers) (Obj c) s.run.this h

    pub own_field : (c : ℕ) (k : Shape) (i : ℕ) → g.this ≡ Some c → k ≡ t.shape c → IsPlaced t (t.fields c i) → Known t few s.env.exec (With t few s sigs todo) (t.fields c i) (further (FieldAt k i) s.run.this)
    own_field c k i n e w = by g.whole refl (this_is c n)
      where
        by : (b : Bool) → g.whole ≡ b → Known t few s.env.exec (AtHand t few s.env.exec (others sigs) s.callers) (object_ty b c) s.run.this → Known t few s.env.exec (With t few s sigs todo) (t.fields c i) (further (FieldAt k i) s.run.this)
        by true m h =
            known.further_placed t few s.env.exec (With t few s sigs todo) c i k s.run.this e w (known.told_declared t sound.leads c i) h.is (λ r. made_itself (With t few s sigs todo) c s.run.this (inr (inl (inl (g, frame, (m, (c, n, refl, refl)))))))
        by false m h =
            known.further_field t few s.env.exec (With t few s sigs todo) c i k s.run.this e w (known.told_declared t sound.leads c i) (known_more t few s.env.exec (AtHand t few s.env.exec (others sigs) s.callers) (With t few s sigs todo) (older_hand t few s.env.exec sigs (record s.run { control = todo }) s.callers) (Obj c) s.run.this h)

    pub read_at : known.Less t few s.env.exec (Here t few sigs s) (With t few s sigs todo) → known.Less t few s.env.exec (With t few s sigs todo) (Here t few sigs s) → (a : Ty) (v : Value) → Known t few s.env.exec (With t few s sigs todo) (Cell a) v → ReadsKnown t few sigs s a v → Known t few s.env.exec (With t few s sigs todo) a (loaded v s.env)
    read_at more back a v h r =
        known_more t few s.env.exec (Here t few sigs s) (With t few s sigs todo) more a (loaded v s.env) (reading.load_known t few s sigs st a v (known_more t few s.env.exec (With t few s sigs todo) (Here t few sigs s) back (Cell a) v h) r)

    -- a variable

    slot_is : (a : Ty) (k : ℕ) → IsPlaced t a → Is t a (variable_at k s)
    slot_is Num k w = absurd w
    slot_is (Cell a) k w = tt
    slot_is (Obj c) k w = subst (λ b. IsObjectBy t b c (variable_at k s)) (sym w) tt
    slot_is (Raw c) k w = subst (λ b. IsObjectBy t b c (variable_at k s)) (sym w) tt
    slot_is (Row n a) k w = tt
    slot_is Clu k w = absurd w
    slot_is Pro k w = absurd w

    -- one in scope is a thing
    scoped : (k : ℕ) (a : Ty) (tys : List Ty) → Ok t g base sc todo tys → InScope sc k a → Variables t s.env.exec (record s.run { control = todo } ∷ s.callers) (variable_at k s) a
    scoped k a tys o i = reading.scope_at t s.env.exec g k a (record s.run { control = todo }) s.callers base sc tys o ends i

    pub slot_known : (a : Ty) (k : ℕ) (tys : List Ty) → Ok t g base sc todo tys → IsPlaced t a → IsVariable t g sc k a → Known t few s.env.exec (With t few s sigs todo) a (variable_at k s)
    slot_known a k tys o w v =
        known.known_place t few s.env.exec (With t few s sigs todo) a (variable_at k s) w (slot_is a k w) (λ b. tt) (λ i. by v i) (λ i. inr (inl (refl, refl)))
      where
        by : IsVariable t g sc k a → IsTracked t a → LiesIn t few s.env.exec (With t few s sigs todo) a (variable_at k s)
        by (inl h) i = lies_itself (With t few s sigs todo) a (variable_at k s) (inl (reading.variable_thing t s.env.exec few (record s.run { control = todo } ∷ s.callers) (variable_at k s) a (scoped k a tys o h)))
        by (inr (inl h)) i = absurd (subst (IsTracked t) h.1 i)
        by (inr (inr h)) i = absurd (known.bare_untracked t a h.1 i)

    -- what one holds

    held_known : (k : ℕ) (a : Ty) (tys : List Ty) → Ok t g base sc todo tys → known.Less t few s.env.exec (Here t few sigs s) (With t few s sigs todo) → known.Less t few s.env.exec (Variables t s.env.exec (record s.run { control = todo } ∷ s.callers)) (Variables t s.env.exec (s.run ∷ s.callers)) → IsHeld t g sc k a → Known t few s.env.exec (With t few s sigs todo) a (loaded (variable_at k s) s.env)
    held_known k a tys o more back (inl h) = known_more t few s.env.exec (Here t few sigs s) (With t few s sigs todo) more a (loaded (variable_at k s) s.env) (subst (λ m. Known t few s.env.exec (Here t few sigs s) a (slice_index_or (list_in (at_depth (frames_of s.env.exec s.env) s.run.frame)) m nought)) (sym (cell_min k h.1)) (held t few s.env.exec (Here t few sigs s) g.params _ k a c h.0))
      where
        f : frames_of s.env.exec s.env ≡ s.env.frames
        f = ap (λ (c : Bool). if c then s.env.frames else frames_in (parked_at s.env.exec s.env)) (exec_same s.env.exec)

        c : KnownParams t few s.env.exec (Here t few sigs s) g.params (list_in (at_depth (frames_of s.env.exec s.env) s.run.frame))
        c = subst (λ fs. KnownParams t few s.env.exec (Here t few sigs s) g.params (list_in (at_depth fs s.run.frame))) (sym f) (frames_at t few s.env.exec s.run.frame g sigs s.env.frames (s.run ∷ s.callers) frames frame)
    held_known k a tys o more back (inr (inl h)) = subst (λ a. Known t few s.env.exec (With t few s sigs todo) a (loaded (variable_at k s) s.env)) (sym h) tt
    held_known k a tys o more back (inr (inr h)) =
        let m : Variables t s.env.exec (s.run ∷ s.callers) (variable_at k s) (Cell a) = back (variable_at k s) (Cell a) (scoped k (Cell a) tys o h.0) in
        known_more t few s.env.exec (Here t few sigs s) (With t few s sigs todo) more a (loaded (variable_at k s) s.env) (st (variable_at k s) (Cell a) s.run.frame (Slot k ∷ []) a (reading.is_binding t s.env.exec (variable_at k s) a (s.run ∷ s.callers) m) m itself)

  -- the same to do for a number
  num : (todo : List Todo) (own : List Ty) (a : Ty) → a ≡ Num → Ok t g base sc todo (a ∷ own) → Ok t g base sc todo (Num ∷ own)
  num todo own a e o = subst (λ a. Ok t g base sc todo (a ∷ own)) e o

  -- arguments with the object below them, of a constructor that builds it
  raw_below : (ps own : List Ty) (b : Bool) (c : ℕ) → b ≡ true → onto ps (Raw c ∷ own) ≡ onto ps (object_ty b c ∷ own)
  raw_below ps own b c e = sym (ap (λ b. onto ps (object_ty b c ∷ own)) e)

  none_onto : (ps own : List Ty) → [] ≡ ps → own ≡ onto ps own
  none_onto ps own e = ap (λ l. onto l own) e

  object : (o : ObjectExpr) (a : Ty) (todo : List Todo) (own : List Ty) → s.run.control ≡ pc.Eval (OfObject o) ∷ todo → FindsObject t few sigs g sc s o a → ObjectGives t g sc o a → Ok t g base sc todo (a ∷ own) → KnownAll t few s.env.exec (With t few s sigs todo) own s.run.operands → StepBy t few (FollowsOn Q t few source s sigs) (ClaimsEnv t few Q) source (object_step o todo s)
  object This a todo own q l f o h =
      go sc (a ∷ own) todo _ o (subst (λ a. Known t few s.env.exec (With t few s sigs todo) a s.run.this) (sym f.2) (this_made todo f.0 f.1 (l f.0 f.1).0), h)
  object (OwnField k i) a todo own q l f o h = go sc (a ∷ own) todo _ o (found f.4, h)
    where
      here : Known t few s.env.exec (With t few s sigs todo) (t.fields f.0 i) (further (FieldAt k i) s.run.this)
      here = own_field todo f.0 k i f.1 f.2 f.3

      found : ((a ≡ t.fields f.0 i) ⊎ (a ≡ raw (t.fields f.0 i))) → Known t few s.env.exec (With t few s sigs todo) a (further (FieldAt k i) s.run.this)
      found (inl e) = subst (λ a. Known t few s.env.exec (With t few s sigs todo) a (further (FieldAt k i) s.run.this)) (sym e) here
      found (inr e) =
          subst (λ a. Known t few s.env.exec (With t few s sigs todo) a (further (FieldAt k i) s.run.this)) (sym e) (known.known_raw t few s.env.exec (With t few s sigs todo) (t.fields f.0 i) (further (FieldAt k i) s.run.this) f.3 (λ b. known.few_further t few s.env.exec (With t few s sigs todo) b (FieldAt k i) s.run.this) here)
  object (GetOwn k i) a todo own q l f o h =
      let placed : IsPlaced t (t.fields f.0 i) = subst (IsPlaced t) f.3 tt in
      let place : Known t few s.env.exec (With t few s sigs todo) (Cell a) (further (FieldAt k i) s.run.this) = subst (λ b. Known t few s.env.exec (With t few s sigs todo) b (further (FieldAt k i) s.run.this)) (sym f.3) (own_field todo f.0 k i f.1 f.2 placed) in
      go sc (a ∷ own) todo _ o (read_at todo (to (pc.Eval (OfObject (GetOwn k i)) ∷ todo) q) (from (pc.Eval (OfObject (GetOwn k i)) ∷ todo) q) a (further (FieldAt k i) s.run.this) place l, h)
  object Counted a todo own q l f o h = go sc (Num ∷ own) todo _ (num todo own a f o) (tt, h)
  object (FieldOf k i e) a todo own q l f o h =
      go sc own _ _ (Obj f.0, f.1, (f.2, f.4, subst (λ a. Ok t g base sc todo (a ∷ own)) f.3 o)) h
  object (CallOn r e args) a todo own q l f o h =
      go sc own _ _ (object_ty (t.routine r).whole f.1.0, f.1.1, ((t.routine r).params, f.2, (own, f.1.0, (refl, f.1.2, f.1.3), num todo own a f.0 o))) h
  object (CallUnwritten r e) a todo own q l f o h =
      go sc own _ _ (object_ty (t.routine r).whole f.1.0, f.1.1, (own, f.1.0, (none_onto (t.routine r).params (object_ty (t.routine r).whole f.1.0 ∷ own) f.2, f.1.2, f.1.3), num todo own a f.0 o)) h
  object (CallLive r e args) a todo own q l f o h =
      go sc own _ _ (object_ty (t.routine r).whole f.1.0, f.1.1, ((t.routine r).params, f.2, (own, f.1.0, (refl, f.1.2, f.1.3), (own, f.1.0, (refl, f.1.2, f.1.3), num todo own a f.0 o)))) h
  object (EnterOn m r e args) a todo own q l f o h =
      go sc own _ _ (object_ty (t.routine r).whole f.1.0, f.1.1, ((t.routine r).params, f.2, (own, f.1.0, (refl, f.1.2, f.1.3), f.1.4, (own, f.1.0, (refl, f.1.2, f.1.3), num todo own a f.0 o)))) h
  object (EndOn r false e) a todo own q l f o h =
      let u : object_ty (t.routine r).whole f.1.0 ∷ own ≡ onto (t.routine r).params (object_ty (t.routine r).whole f.1.0 ∷ own) = none_onto (t.routine r).params (object_ty (t.routine r).whole f.1.0 ∷ own) f.2 in
      go sc own _ _ (object_ty (t.routine r).whole f.1.0, f.1.1, (own, f.1.0, (u, f.1.2, f.1.3), f.1.4, (own, f.1.0, (u, f.1.2, f.1.3), num todo own a f.0 o))) h
  object (EndOn r true e) a todo own q l f o h =
      let u : object_ty (t.routine r).whole f.1.0 ∷ own ≡ onto (t.routine r).params (object_ty (t.routine r).whole f.1.0 ∷ own) = none_onto (t.routine r).params (object_ty (t.routine r).whole f.1.0 ∷ own) f.2 in
      go sc own _ _ (object_ty (t.routine r).whole f.1.0, f.1.1, (own, f.1.0, (u, f.1.2, f.1.3), f.1.4, (own, f.1.0, (u, f.1.2, f.1.3), num todo own a f.0 o))) h
  object (Bind p e) a todo own q l f o h = go sc own _ _ (Cell a, f.0, (a, f.1, (refl, o))) h
  object (MakeOn n r false e args) a todo own q l f o h =
      go sc own _ _ (Cell (Raw f.1.0), f.1.1, ((t.routine r).params, f.2, (own, f.1.0, (refl, f.1.3, f.1.5, f.1.6), (own, f.1.0, (raw_below (t.routine r).params own (t.routine r).whole f.1.0 f.1.4, f.1.2, f.1.3), num todo own a f.0 o)))) h
  object (MakeOn n r true e args) a todo own q l f o h =
      go sc own _ _ (Cell (Raw f.1.0), f.1.1, ((t.routine r).params, f.2, (own, f.1.0, (refl, f.1.3, f.1.5, f.1.6), (own, f.1.0, (raw_below (t.routine r).params own (t.routine r).whole f.1.0 f.1.4, f.1.2, f.1.3), num todo own a f.0 o)))) h
  object NewCluster a todo own q l f o h = go sc own _ _ (subst (λ a. Ok t g base sc todo (a ∷ own)) f o) h
  object (NewProcessor e) a todo own q l f o h = go sc own _ _ (Clu, f.1, subst (λ a. Ok t g base sc todo (a ∷ own)) f.0 o) h
  object (EndCluster e) a todo own q l f o h = go sc own _ _ (Clu, f.1, num todo own a f.0 o) h
  object (EndProcessor e) a todo own q l f o h = go sc own _ _ (Pro, f.1, num todo own a f.0 o) h
  object (ConditionAt k n e) a todo own q l f o h = go sc own _ _ (Num, f.1, num todo own a f.0 o) h
  object (Wait e i) a todo own q l f o h = go sc own _ _ (Num, f.2, (Num, f.3, (f.1, num todo own a f.0 o))) h
  object (Signal e) a todo own q l f o h = go sc own _ _ (Num, f.2, (f.1, num todo own a f.0 o)) h
  object (SignalBlock e) a todo own q l f o h = go sc own _ _ (Num, f.2, (f.1, num todo own a f.0 o)) h
  object (IsEmpty e) a todo own q l f o h = go sc own _ _ (Num, f.2, (f.1, num todo own a f.0 o)) h
  object (FrontOf e) a todo own q l f o h = go sc own _ _ (Num, f.2, (f.1, num todo own a f.0 o)) h

  converted : (k : Shape) (todo : List Todo) (own : List Ty) → KnownAll t few s.env.exec (With t few s sigs todo) own s.run.operands → KnownAll t few s.env.exec (With t few s sigs (q.converting k todo)) own s.run.operands
  converted Character todo own h = h
  converted Truth todo own h = h
  converted k todo own h = h

  pub eval : (e : Expr) (a : Ty) (todo : List Todo) (own : List Ty) → s.run.control ≡ pc.Eval e ∷ todo → FindsExpr t few sigs g sc s e a → Yields t g sc e a → Ok t g base sc todo (a ∷ own) → KnownAll t few s.env.exec (With t few s sigs todo) own s.run.operands → StepBy t few (FollowsOn Q t few source s sigs) (ClaimsEnv t few Q) source (eval_step e todo s)
  eval (Literal n) a todo own q l f o h = go sc (Num ∷ own) todo _ (num todo own a f o) (tt, h)
  eval (Variable k) a todo own q l f o h = go sc (a ∷ own) todo _ o (slot_known todo a k (a ∷ own) o f.1 f.0, h)
  eval (Element n k e i) a todo own q l f o h = go sc own _ _ (Row n a, f.1, (Num, f.2, (refl, f.0, o, f.3))) h
  eval (Get k) a todo own q l f o h = go sc (a ∷ own) todo _ o (held_known todo k a (a ∷ own) o (to (pc.Eval (Get k) ∷ todo) q) (same (pc.Eval (Get k) ∷ todo) q) f, h)
  eval (Load e) a todo own q l f o h = go sc own _ _ (Cell a, f.1, (f.0, o)) h
  eval (Negated e) a todo own q l f o h = go sc own _ _ (Num, f.1, num todo own a f.0 o) h
  eval (Not e) a todo own q l f o h = go sc own _ _ (Num, f.1, num todo own a f.0 o) h
  eval (AsCharacter e) a todo own q l f o h = go sc own _ _ (Num, f.1, num todo own a f.0 o) h
  eval (AsTruth e) a todo own q l f o h = go sc own _ _ (Num, f.1, num todo own a f.0 o) h
  eval (Operate op e i) a todo own q l f o h = go sc own _ _ (Num, f.1, (Num, f.2, num todo own a f.0 o)) h
  eval (And e i) a todo own q l f o h = go sc own _ _ (Num, f.1, ((refl, f.2), refl, num todo own a f.0 o)) h
  eval (Or e i) a todo own q l f o h = go sc own _ _ (Num, f.1, (refl, (refl, f.2), num todo own a f.0 o)) h
  eval (Assign p e) a todo own q l f o h = go sc own _ _ (Cell Num, f.1, (Num, f.2, num todo own a f.0 o)) h
  eval (Update op k p e) a todo own q l f o h =
      go sc own _ _ (Cell Num, f.1, (inl refl, (Num, f.2, converted_ok t g base sc k (pc.KeepNow ∷ todo) (Cell Num ∷ own) (num todo own a f.0 o)))) (converted k (pc.KeepNow ∷ todo) own h)
  eval (StepBehind op k p) a todo own q l f o h =
      go sc own _ _ (Cell Num, f.1, (inl refl, (Num, refl, converted_ok t g base sc k (pc.StoreNow ∷ (pc.DropBelowNow ∷ todo)) (Cell Num ∷ (Num ∷ (Cell Num ∷ own))) (num todo own a f.0 o)))) (converted k (pc.StoreNow ∷ (pc.DropBelowNow ∷ todo)) own h)
  eval Fail a todo own q l f o h = (tt, asks sc own todo _ (num todo own a f o) h)
  eval (Set k e) a todo own q l f o h = go sc own _ _ (Num, f.1, num todo own a f.0 o) h
  eval (First e i) a todo own q l f o h = go sc own _ _ (a, f.0, (f.1.0, f.1.1, o)) h
  eval (Call r args) a todo own q l f o h =
      go sc own _ _ ((t.routine r).params, f.1, (own, refl, f.2, f.3, num todo own a f.0 o)) h
  eval (OfObject x) a todo own q l f o h = object x a todo own q l f o h

-- An expression is taken apart, or found.
use Rattle.std.proofs.Common.{◌≡◌, ℕ, ◌≤◌, List, [], ◌∷◌, ◌⊎◌, inl, inr, Some, Bool, true, false, refl, sym, ap, subst, arith}
use Rattle.std.specs.Prelude.{if◌then◌else◌, slice_index_or}
use Rattle.uc_tree.specs.Source.{Shape, Expr, ObjectExpr, Literal, Variable, Element, Get, Load, Negated, Not, AsCharacter, AsTruth, Operate, And, Or, Set, Assign, First, Update, StepBehind, Fail, Call, OfObject, This, OwnField, GetOwn, FieldOf, Counted, CallOn, CallLive, CallUnwritten, EnterOn, EndOn, Bind, MakeOn, NewCluster, NewProcessor, EndCluster, EndProcessor, ConditionAt, Wait, Signal, SignalBlock, IsEmpty, FrontOf, Source}
use Rattle.uc_machine.specs.Executions.{at_depth, list_in, others, frames_of, frames_in, parked_at}
use Rattle.uc_machine.specs.Quiet.{Value, Slot, FieldAt, Env, State, Todo, at, in_env, loaded, further, address, variable_at, nought, LAST_ADDRESS, eval_step, object_step, with_elements}
use Rattle.uc_machine.specs.Pieces as pc
use Rattle.uc_typing.specs.Typing.{Ty, Num, Cell, Obj, Raw, Row, Clu, Pro, Name, Sig, Table, object_ty, raw, IsPlaced, InScope, IsRead, IsHeld, Yields, ObjectGives}
use Rattle.uc_typing.specs.Pieces.{onto, Ok}
use Rattle.uc_typing.specs.States.{IsObjectBy, IsObject, Is, Values, Bound, Framed, IsThis, IsBase, Waits, Typed, After, Reads, Idle, Sound}
use Rattle.uc_typing.proofs.Frames.{held, framed_at, exec_same}
use Rattle.uc_typing.proofs.Operands.{further_field, is_raw}
use Rattle.uc_typing.proofs.Control.{converted_ok}

cell_min : (k : ℕ) → k ≤ LAST_ADDRESS → address (Slot k ∷ []) ≡ k
cell_min k l = omega (arith, l)

module _ (t : Table) (source : Source) (sound : Sound t source) (s : State) (sigs : List Sig) (g : Sig) (base sc : List Name) (frames : Framed t sigs s.env.frames) (frame : at_depth sigs s.run.frame ≡ Some g) (this : IsThis t g.this s.run.this) (callers : Waits t (others sigs) s.callers) (idle : Idle t s.env) (ends : IsBase t g s.run.handles base s.run.frame s.callers) where
  -- the running activation goes on with this to do
  pub put_in : (inner : List Name) (given own : List Ty) (todo : List Todo) (vs : List Value) (e : Env) (n : ℕ) → Idle t e → Framed t sigs e.frames → Ok t g base inner todo (onto given own) → Values t own vs → Typed t given (at todo vs (in_env e (with_elements n s)))
  put_in inner given own todo vs e n i f o h = record {
    sigs = sigs;
    frames = f;
    run = record { sig = g; own = own; scope = inner; base = base; frame = frame; values = h; this = this; ok = o; ends = ends };
    callers = callers;
    idle = i;
  }

  pub goes : (inner : List Name) (own : List Ty) (todo : List Todo) (vs : List Value) → Ok t g base inner todo own → Values t own vs → Typed t [] (at todo vs s)
  goes inner own todo vs o h = put_in inner [] own todo vs s.env s.run.elements idle frames o h

  pub asks : (inner : List Name) (own : List Ty) (todo : List Todo) (vs : List Value) → Ok t g base inner todo (Num ∷ own) → Values t own vs → Typed t (Num ∷ []) (at todo vs s)
  asks inner own todo vs o h = put_in inner (Num ∷ []) own todo vs s.env s.run.elements idle frames o h

  -- the object at hand
  this_is : (c : ℕ) → g.this ≡ Some c → IsObject t c s.run.this
  this_is c e = subst (λ o. IsThis t o s.run.this) e this

  own_field : (c : ℕ) (k : Shape) (i : ℕ) → g.this ≡ Some c → k ≡ t.shape c → IsPlaced t (t.fields c i) → Is t (t.fields c i) (further (FieldAt k i) s.run.this)
  own_field c k i n e w = further_field t c i k s.run.this e w (this_is c n)

  slot_is : (a : Ty) (k : ℕ) → IsPlaced t a → Is t a (variable_at k s)
  slot_is Num k w = absurd w
  slot_is (Cell a) k w = tt
  slot_is (Obj c) k w = subst (λ b. IsObjectBy t b c (variable_at k s)) (sym w) tt
  slot_is (Raw c) k w = subst (λ b. IsObjectBy t b c (variable_at k s)) (sym w) tt
  slot_is (Row n a) k w = tt
  slot_is Clu k w = absurd w
  slot_is Pro k w = absurd w

  -- what a variable holds
  held_is : (k : ℕ) (a : Ty) → (t.refers ≡ true → (a : Ty) → InScope sc k (Cell a) → Is t a (loaded (variable_at k s) s.env)) → IsHeld t g sc k a → Is t a (loaded (variable_at k s) s.env)
  held_is k a l (inl h) =
      let b : Bound t g.params (list_in (at_depth s.env.frames s.run.frame)) = framed_at t s.run.frame g sigs s.env.frames frames frame in
      let f : frames_of s.env.exec s.env ≡ s.env.frames = ap (λ (c : Bool). if c then s.env.frames else frames_in (parked_at s.env.exec s.env)) (exec_same t s.env.exec) in
      let c : Bound t g.params (list_in (at_depth (frames_of s.env.exec s.env) s.run.frame)) = subst (λ fs. Bound t g.params (list_in (at_depth fs s.run.frame))) (sym f) b in
      subst (λ n. Is t a (slice_index_or (list_in (at_depth (frames_of s.env.exec s.env) s.run.frame)) n nought)) (sym (cell_min k h.1)) (held t g.params _ k a c h.0)
  held_is k a l (inr (inl h)) = subst (λ a. Is t a (loaded (variable_at k s) s.env)) (sym h) tt
  held_is k a l (inr (inr h)) = l h.1 a h.0

  -- the same to do for a number
  num : (todo : List Todo) (own : List Ty) (a : Ty) → a ≡ Num → Ok t g base sc todo (a ∷ own) → Ok t g base sc todo (Num ∷ own)
  num todo own a e o = subst (λ a. Ok t g base sc todo (a ∷ own)) e o

  -- arguments with the object below them, of a constructor that builds it
  raw_below : (ps own : List Ty) (b : Bool) (c : ℕ) → b ≡ true → onto ps (Raw c ∷ own) ≡ onto ps (object_ty b c ∷ own)
  raw_below ps own b c e = sym (ap (λ b. onto ps (object_ty b c ∷ own)) e)

  none_onto : (ps own : List Ty) → [] ≡ ps → own ≡ onto ps own
  none_onto ps own e = ap (λ l. onto l own) e

  object : (o : ObjectExpr) (a : Ty) (todo : List Todo) (own : List Ty) → Reads t g sc s (pc.Eval (OfObject o) ∷ todo) own → ObjectGives t g sc o a → Ok t g base sc todo (a ∷ own) → Values t own s.run.operands → After t source (object_step o todo s)
  object This a todo own l f o h = goes sc (a ∷ own) todo _ o (subst (λ a. Is t a s.run.this) (sym f.2) (this_is f.0 f.1), h)
  object (OwnField k i) a todo own l f o h = goes sc (a ∷ own) todo _ o (field f.4, h)
    where
      field : ((a ≡ t.fields f.0 i) ⊎ (a ≡ raw (t.fields f.0 i))) → Is t a (further (FieldAt k i) s.run.this)
      field (inl e) = subst (λ a. Is t a (further (FieldAt k i) s.run.this)) (sym e) (own_field f.0 k i f.1 f.2 f.3)
      field (inr e) =
          subst (λ a. Is t a (further (FieldAt k i) s.run.this)) (sym e) (is_raw t (t.fields f.0 i) (further (FieldAt k i) s.run.this) (own_field f.0 k i f.1 f.2 f.3))
  object (GetOwn k i) a todo own l f o h = goes sc (a ∷ own) todo _ o (read f.4, h)
    where
      read : IsRead t a → Is t a (loaded (further (FieldAt k i) s.run.this) s.env)
      read (inl e) = subst (λ a. Is t a (loaded (further (FieldAt k i) s.run.this) s.env)) (sym e) tt
      read (inr r) = l.1 r f.0 a f.1 f.3
  object Counted a todo own l f o h = goes sc (Num ∷ own) todo _ (num todo own a f o) (tt, h)
  object (FieldOf k i e) a todo own l f o h =
      goes sc own _ _ (Obj f.0, f.1, (f.2, f.4, subst (λ a. Ok t g base sc todo (a ∷ own)) f.3 o)) h
  object (CallOn r e args) a todo own l f o h =
      goes sc own _ _ (object_ty (t.routine r).whole f.1.0, f.1.1, ((t.routine r).params, f.2, (own, f.1.0, (refl, f.1.2, f.1.3), num todo own a f.0 o))) h
  object (CallUnwritten r e) a todo own l f o h =
      goes sc own _ _ (object_ty (t.routine r).whole f.1.0, f.1.1, (own, f.1.0, (none_onto (t.routine r).params (object_ty (t.routine r).whole f.1.0 ∷ own) f.2, f.1.2, f.1.3), num todo own a f.0 o)) h
  object (CallLive r e args) a todo own l f o h =
      goes sc own _ _ (object_ty (t.routine r).whole f.1.0, f.1.1, ((t.routine r).params, f.2, (own, f.1.0, (refl, f.1.2, f.1.3), (own, f.1.0, (refl, f.1.2, f.1.3), num todo own a f.0 o)))) h
  object (EnterOn m r e args) a todo own l f o h =
      goes sc own _ _ (object_ty (t.routine r).whole f.1.0, f.1.1, ((t.routine r).params, f.2, (own, f.1.0, (refl, f.1.2, f.1.3), f.1.4, (own, f.1.0, (refl, f.1.2, f.1.3), num todo own a f.0 o)))) h
  object (EndOn r false e) a todo own l f o h =
      let u : object_ty (t.routine r).whole f.1.0 ∷ own ≡ onto (t.routine r).params (object_ty (t.routine r).whole f.1.0 ∷ own) = none_onto (t.routine r).params (object_ty (t.routine r).whole f.1.0 ∷ own) f.2 in
      goes sc own _ _ (object_ty (t.routine r).whole f.1.0, f.1.1, (own, f.1.0, (u, f.1.2, f.1.3), f.1.4, (own, f.1.0, (u, f.1.2, f.1.3), num todo own a f.0 o))) h
  object (EndOn r true e) a todo own l f o h =
      let u : object_ty (t.routine r).whole f.1.0 ∷ own ≡ onto (t.routine r).params (object_ty (t.routine r).whole f.1.0 ∷ own) = none_onto (t.routine r).params (object_ty (t.routine r).whole f.1.0 ∷ own) f.2 in
      goes sc own _ _ (object_ty (t.routine r).whole f.1.0, f.1.1, (own, f.1.0, (u, f.1.2, f.1.3), f.1.4, (own, f.1.0, (u, f.1.2, f.1.3), num todo own a f.0 o))) h
  object (Bind p e) a todo own l f o h = goes sc own _ _ (Cell a, f.0, (a, f.1, (refl, o))) h
  object (MakeOn n r false e args) a todo own l f o h =
      goes sc own _ _ (Cell (Raw f.1.0), f.1.1, ((t.routine r).params, f.2, (own, f.1.0, (refl, f.1.3, f.1.5, f.1.6), (own, f.1.0, (raw_below (t.routine r).params own (t.routine r).whole f.1.0 f.1.4, f.1.2, f.1.3), num todo own a f.0 o)))) h
  object (MakeOn n r true e args) a todo own l f o h =
      goes sc own _ _ (Cell (Raw f.1.0), f.1.1, ((t.routine r).params, f.2, (own, f.1.0, (refl, f.1.3, f.1.5, f.1.6), (own, f.1.0, (raw_below (t.routine r).params own (t.routine r).whole f.1.0 f.1.4, f.1.2, f.1.3), num todo own a f.0 o)))) h
  object NewCluster a todo own l f o h = goes sc own _ _ (subst (λ a. Ok t g base sc todo (a ∷ own)) f o) h
  object (NewProcessor e) a todo own l f o h = goes sc own _ _ (Clu, f.1, subst (λ a. Ok t g base sc todo (a ∷ own)) f.0 o) h
  object (EndCluster e) a todo own l f o h = goes sc own _ _ (Clu, f.1, num todo own a f.0 o) h
  object (EndProcessor e) a todo own l f o h = goes sc own _ _ (Pro, f.1, num todo own a f.0 o) h
  object (ConditionAt k n e) a todo own l f o h = goes sc own _ _ (Num, f.1, num todo own a f.0 o) h
  object (Wait e i) a todo own l f o h = goes sc own _ _ (Num, f.2, (Num, f.3, (f.1, num todo own a f.0 o))) h
  object (Signal e) a todo own l f o h = goes sc own _ _ (Num, f.2, (f.1, num todo own a f.0 o)) h
  object (SignalBlock e) a todo own l f o h = goes sc own _ _ (Num, f.2, (f.1, num todo own a f.0 o)) h
  object (IsEmpty e) a todo own l f o h = goes sc own _ _ (Num, f.2, (f.1, num todo own a f.0 o)) h
  object (FrontOf e) a todo own l f o h = goes sc own _ _ (Num, f.2, (f.1, num todo own a f.0 o)) h

  pub eval : (e : Expr) (a : Ty) (todo : List Todo) (own : List Ty) → Reads t g sc s (pc.Eval e ∷ todo) own → Yields t g sc e a → Ok t g base sc todo (a ∷ own) → Values t own s.run.operands → After t source (eval_step e todo s)
  eval (Literal n) a todo own l f o h = goes sc (Num ∷ own) todo _ (num todo own a f o) (tt, h)
  eval (Variable k) a todo own l f o h = goes sc (a ∷ own) todo _ o (slot_is a k f.1, h)
  eval (Element n k e i) a todo own l f o h = goes sc own _ _ (Row n a, f.1, (Num, f.2, (refl, f.0, o, f.3))) h
  eval (Get k) a todo own l f o h = goes sc (a ∷ own) todo _ o (held_is k a l.0 f, h)
  eval (Load e) a todo own l f o h = goes sc own _ _ (Cell a, f.1, (f.0, o)) h
  eval (Negated e) a todo own l f o h = goes sc own _ _ (Num, f.1, num todo own a f.0 o) h
  eval (Not e) a todo own l f o h = goes sc own _ _ (Num, f.1, num todo own a f.0 o) h
  eval (AsCharacter e) a todo own l f o h = goes sc own _ _ (Num, f.1, num todo own a f.0 o) h
  eval (AsTruth e) a todo own l f o h = goes sc own _ _ (Num, f.1, num todo own a f.0 o) h
  eval (Operate op e i) a todo own l f o h = goes sc own _ _ (Num, f.1, (Num, f.2, num todo own a f.0 o)) h
  eval (And e i) a todo own l f o h = goes sc own _ _ (Num, f.1, ((refl, f.2), refl, num todo own a f.0 o)) h
  eval (Or e i) a todo own l f o h = goes sc own _ _ (Num, f.1, (refl, (refl, f.2), num todo own a f.0 o)) h
  eval (Assign p e) a todo own l f o h = goes sc own _ _ (Cell Num, f.1, (Num, f.2, num todo own a f.0 o)) h
  eval (Update op k p e) a todo own l f o h =
      goes sc own _ _ (Cell Num, f.1, (inl refl, (Num, f.2, converted_ok t g base sc k (pc.KeepNow ∷ todo) (Cell Num ∷ own) (num todo own a f.0 o)))) h
  eval (StepBehind op k p) a todo own l f o h =
      goes sc own _ _ (Cell Num, f.1, (inl refl, (Num, refl, converted_ok t g base sc k (pc.StoreNow ∷ (pc.DropBelowNow ∷ todo)) (Cell Num ∷ (Num ∷ (Cell Num ∷ own))) (num todo own a f.0 o)))) h
  eval Fail a todo own l f o h = asks sc own todo _ (num todo own a f o) h
  eval (Set k e) a todo own l f o h = goes sc own _ _ (Num, f.1, num todo own a f.0 o) h
  eval (First e i) a todo own l f o h = goes sc own _ _ (a, f.0, (f.1.0, f.1.1, o)) h
  eval (Call r args) a todo own l f o h =
      goes sc own _ _ ((t.routine r).params, f.1, (own, refl, f.2, f.3, num todo own a f.0 o)) h
  eval (OfObject x) a todo own l f o h = object x a todo own l f o h

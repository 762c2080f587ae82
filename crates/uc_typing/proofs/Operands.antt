-- The newest operands, and places further on.
use Rattle.std.proofs.Common.{◌≡◌, ℕ, ◌<◌, List, [], ◌∷◌, Bool, true, false, refl, sym, ap, subst}
use Rattle.std.specs.Prelude.{if◌then◌else◌}
use Rattle.uc_tree.specs.Source.{Shape}
use Rattle.uc_machine.specs.declared.exec.Owner.{Owner}
use Rattle.uc_machine.specs.declared.exec.Owner.TheVariants.{Fields}
use Rattle.uc_machine.specs.Quiet.{Value, Number, Place, Running, Object, Nothing, Link, FieldAt, At, top, below, further}
use Rattle.uc_typing.specs.Typing.{Ty, Num, Cell, Obj, Raw, Row, Clu, Pro, Table, IsPlaced, raw}
use Rattle.uc_typing.specs.States.{whole, Leads, IsAt, IsObjectBy, IsObject, Is, Values}

pub either : {A : Type 0} (P : A → Type 0) (b : Bool) (x y : A) → P x → P y → P (if b then x else y)
either P true x y h k = h
either P false x y h k = k

module _ (t : Table) where
  pub newest : (a : Ty) (own : List Ty) (vs : List Value) → Values t (a ∷ own) vs → Is t a (top vs)
  newest a own [] h = absurd h
  newest a own (v ∷ vs) h = h.0

  pub rest_of : (a : Ty) (own : List Ty) (vs : List Value) → Values t (a ∷ own) vs → Values t own (below vs)
  rest_of a own [] h = absurd h
  rest_of a own (v ∷ vs) h = h.1

  pub next : (a b : Ty) (own : List Ty) (vs : List Value) → Values t (a ∷ (b ∷ own)) vs → Is t b (top (below vs))
  next a b own vs h = newest b own (below vs) (rest_of a (b ∷ own) vs h)

  pub rest_behind : (a b : Ty) (own : List Ty) (vs : List Value) → Values t (a ∷ (b ∷ own)) vs → Values t own (below (below vs))
  rest_behind a b own vs h = rest_of b own (below vs) (rest_of a (b ∷ own) vs h)

  -- places

  pub is_whole : (a : Ty) (o : Owner) (p : List Link) → IsPlaced t a → Leads t p (whole a) → Is t a (Place o p)
  is_whole Num o p n h = absurd n
  is_whole (Cell a) o p n h = h
  is_whole (Obj c) o p n h = subst (λ b. IsObjectBy t b c (Place o p)) (sym n) h
  is_whole (Raw c) o p n h = subst (λ b. IsObjectBy t b c (Place o p)) (sym n) h
  is_whole (Row n1 a) o p n h = h
  is_whole Clu o p n h = absurd n
  is_whole Pro o p n h = absurd n

  pub whole_raw : (a : Ty) → whole (raw a) ≡ whole a
  whole_raw Num = refl
  whole_raw (Cell a) = ap Cell (whole_raw a)
  whole_raw (Obj c) = refl
  whole_raw (Raw c) = refl
  whole_raw (Row n a) = ap (Row n) (whole_raw a)
  whole_raw Clu = refl
  whole_raw Pro = refl

  pub is_raw : (a : Ty) (v : Value) → Is t a v → Is t (raw a) v
  is_raw Num v h = tt
  is_raw (Cell a) v h = subst (λ b. IsAt t (Cell b) v) (sym (whole_raw a)) h
  is_raw (Obj c) v h = h
  is_raw (Raw c) v h = h
  is_raw (Row n a) v h = subst (λ b. IsAt t (Row n b) v) (sym (whole_raw a)) h
  is_raw Clu v h = h
  is_raw Pro v h = h

  field_by : (b : Bool) (c i : ℕ) (s : Shape) (v : Value) → t.mutex c ≡ b → s ≡ t.shape c → IsPlaced t (t.fields c i) → IsObjectBy t b c v → Is t (t.fields c i) (further (FieldAt s i) v)
  field_by true c i s (Number n) m e w h = absurd h
  field_by true c i s (Place o p) m e w h = absurd h
  field_by true c i s (Running x) m e w h = absurd h
  field_by true c i s (Object o) m e w h = is_whole (t.fields c i) (Fields o) (FieldAt s i ∷ []) w (c, m, e, refl)
  field_by true c i s Nothing m e w h = absurd h
  field_by false c i s (Number n) m e w h = absurd h
  field_by false c i s (Place o p) m e w h = is_whole (t.fields c i) o (FieldAt s i ∷ p) w (c, h, e, refl)
  field_by false c i s (Running x) m e w h = absurd h
  field_by false c i s (Object o) m e w h = absurd h
  field_by false c i s Nothing m e w h = absurd h

  pub further_field : (c i : ℕ) (s : Shape) (v : Value) → s ≡ t.shape c → IsPlaced t (t.fields c i) → IsObject t c v → Is t (t.fields c i) (further (FieldAt s i) v)
  further_field c i s v e w h = field_by (t.mutex c) c i s v refl e w h

  pub further_element : (n i : ℕ) (a : Ty) (s : Shape) (v : Value) → i < n → IsPlaced t a → IsAt t (Row n (whole a)) v → Is t a (further (At s i) v)
  further_element n i a s (Number z) l w h = absurd h
  further_element n i a s (Place o p) l w h = is_whole a o (At s i ∷ p) w (n, h, l)
  further_element n i a s (Running x) l w h = absurd h
  further_element n i a s (Object o) l w h = absurd h
  further_element n i a s Nothing l w h = absurd h

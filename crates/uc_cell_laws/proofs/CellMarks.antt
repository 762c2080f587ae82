-- Marks and operands, and to-do lists that are left, where places lie among the operands as the code has them.
use Rattle.std.proofs.Common.{◌≡◌, ℕ, zero, suc, inl, inr, List, [], ◌∷◌, drop, refl, sym, ap, ◌∙◌, subst}
use Rattle.std.specs.Prelude.{slice_set}
use Rattle.uc_tree.specs.Source as src
use Rattle.uc_tree.specs.Source.{Shape, Expr}
use Rattle.uc_machine.specs.Pieces as piece
use Rattle.uc_machine.specs.Pieces.{Value, Todo, top, below}
use Rattle.uc_typing.specs.Typing.{Cell, Obj, Row, Table}
use Rattle.uc_cell_laws.specs.Sites.{Telling}
use Rattle.uc_cell_laws.specs.CellTodos.{Around, Mark, Any, Sited, Lent, Classed, rest, rests, anys, FirstRow, FirstCell, Meets, Holds, Loading, Finding, after, Ok, Left}

-- operands

drop_below : (n : ℕ) (vs : List Value) → drop (suc n) vs ≡ below (drop n vs)
drop_below zero [] = refl
drop_below zero (v ∷ vs) = refl
drop_below (suc n) [] = refl
drop_below (suc n) (v ∷ vs) = drop_below n vs

pub rests_anys : (n : ℕ) (ms : List Mark) → rests n (anys n ms) ≡ ms
rests_anys zero ms = refl
rests_anys (suc n) ms = ap rest (rests_anys n (Any ∷ ms))

-- what is written to an operand leaves those below
pub drop_set : (n : ℕ) (v : Value) (vs : List Value) → drop (suc n) (slice_set vs n v) ≡ drop (suc n) vs
drop_set n v [] = refl
drop_set zero v (w ∷ vs) = refl
drop_set (suc n) v (w ∷ vs) = drop_set n v vs

set_none : (P : Value → Type 0) (n : ℕ) → P (top []) → P (top (drop n []))
set_none P zero k = k
set_none P (suc n) k = k

-- what holds of it holds there, if so many lie above it
pub set_operand : (P : Value → Type 0) (n : ℕ) (v : Value) (vs : List Value) → P v → P (top []) → P (top (drop n (slice_set vs n v)))
set_operand P n v [] h k = set_none P n k
set_operand P zero v (w ∷ vs) h k = h
set_operand P (suc n) v (w ∷ vs) h k = set_operand P n v vs h k

module _ (g : Telling) (r : ℕ) where
  module _ (A : Around) where
    abbrev H : List Mark → List Value → Type 0
    H ms vs = Holds g r A ms vs

    pub holds_below : (ms : List Mark) (vs : List Value) → H ms vs → H (rest ms) (below vs)
    holds_below [] vs h = tt
    holds_below (m ∷ ms) vs h = h.1

    pub holds_drop : (k : ℕ) (ms : List Mark) (vs : List Value) → H ms vs → H (rests k ms) (drop k vs)
    holds_drop zero ms [] h = h
    holds_drop zero ms (v ∷ vs) h = h
    holds_drop (suc k) ms vs h = subst (H (rest (rests k ms))) (sym (drop_below k vs)) (holds_below (rests k ms) (drop k vs) (holds_drop k ms vs h))

    -- so many operands of which nothing is known
    pub holds_anys : (k : ℕ) (ms : List Mark) (vs : List Value) → H ms (drop k vs) → H (anys k ms) vs
    holds_anys zero ms [] h = h
    holds_anys zero ms (v ∷ vs) h = h
    holds_anys (suc k) ms vs h = holds_anys k (Any ∷ ms) vs (tt, subst (H ms) (drop_below k vs) h)

    -- behind an operand that is bound below so many
    pub bound_under : (n : ℕ) (m : Mark) (v : Value) (ms : List Mark) (vs : List Value) → Meets g r A m (top (drop n (slice_set vs n v))) → H ms vs → H (anys n (m ∷ rests (suc n) ms)) (slice_set vs n v)
    bound_under n m v ms vs x h =
        holds_anys n (m ∷ rests (suc n) ms) (slice_set vs n v) (x, subst (H (rests (suc n) ms)) (sym (drop_set n v vs) ∙ drop_below n (slice_set vs n v)) (holds_drop (suc n) ms vs h))

  -- to-do lists that are left

  loading : (e : Expr) (F : Mark → Type 0) (C : Type 0) → ((m : Mark) → F m → C) → Loading g r e F → C
  loading (src.Load e) F C next h = next (Classed h.0) h.3
  loading e F C next h = absurd h

  first_cell : (t : Table) (ms : List Mark) (F : Mark → Type 0) (C : Type 0) → ((m : Mark) → F m → C) → FirstCell t ms F → C
  first_cell t (Sited (Cell (Obj c)) ∷ ms) F C next h = next (Classed c) h.1
  first_cell t ms F C next h = absurd h

  finding : (e : Expr) (F : Mark → Type 0) (C : Type 0) → ((m : Mark) → F m → C) → Finding g r e F → C
  finding e F C next (inl h) = next (Sited h.0) h.2
  finding e F C next (inr (inl h)) = next Lent h.1
  finding e F C next (inr (inr h)) = loading e F C next h

  first_row : (n : ℕ) (s : Shape) (t : Table) (ms : List Mark) (F : Mark → Type 0) (C : Type 0) → ((m : Mark) → F m → C) → FirstRow n s t ms F → C
  first_row n s t (Sited (Row m a) ∷ ms) F C next h = next (Sited a) h.2
  first_row n s t ms F C next h = absurd h

  pub left : (ms : List Mark) (todo : List Todo) → Ok g r ms todo → Left g r todo
  left ms [] h = tt
  left ms (piece.Eval e ∷ todo) (n, inl h) = left (Any ∷ ms) todo h
  left ms (piece.Eval e ∷ todo) (n, inr h) = finding e (λ m. Ok g r (m ∷ ms) todo) (Left g r todo) (λ m k. left (m ∷ ms) todo k) h
  left ms (piece.LoadNow ∷ todo) (inl h) = left (Any ∷ rest ms) todo h
  left ms (piece.LoadNow ∷ todo) (inr h) = first_cell g.table ms (λ m. Ok g r (m ∷ rest ms) todo) (Left g r todo) (λ m l. left (m ∷ rest ms) todo l) h
  left ms (piece.ElementNow n k ∷ todo) (inl h) = left (Any ∷ rest (rest ms)) todo h
  left ms (piece.ElementNow n k ∷ todo) (inr h) =
      first_row n k g.table (rest ms) (λ m. Ok g r (m ∷ rest (rest ms)) todo) (Left g r todo) (λ m l. left (m ∷ rest (rest ms)) todo l) h
  left ms (piece.Exit w ∷ todo) h = h
  left ms (piece.Unwind ∷ todo) h = h
  left ms (piece.InLoop o t e b ∷ todo) h = h
  left ms (piece.InWhole ∷ todo) h = h.1
  left ms (piece.Clean c ∷ todo) h = h
  left ms (piece.FillNow n b d ∷ todo) h = h
  left ms (piece.Sweep e ∷ todo) h = h
  left ms (piece.Part c ∷ todo) h = h
  left ms (piece.Guard hs ∷ todo) h = h
  left ms (piece.Finish ∷ todo) h = h.1
  left ms (piece.FinishCoroutine ∷ todo) h = h.1
  left ms (p ∷ todo) h = left (after g r p ms) todo h.1

  -- what stands behind the first piece
  pub left_tail : (p : Todo) (todo : List Todo) → Left g r (p ∷ todo) → Left g r todo
  left_tail (piece.InLoop o t e b) todo h = left [] todo h.1
  left_tail piece.InWhole todo h = left [] todo h
  left_tail (piece.Clean c) todo h = left [] todo h.1
  left_tail (piece.FillNow n b d) todo h = left [] todo h.1
  left_tail (piece.Sweep e) todo h = left [] todo h.1
  left_tail (piece.Part c) todo h = left [] todo h.1
  left_tail (piece.Guard hs) todo h = left [] todo h.1
  left_tail piece.Finish todo h = left [] todo h
  left_tail piece.FinishCoroutine todo h = left [] todo h
  left_tail p todo h = h

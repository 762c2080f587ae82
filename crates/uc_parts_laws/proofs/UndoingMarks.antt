-- Marks and operands, and to-do lists that are left, where constructors are called at places that lie among the operands.
use Rattle.std.proofs.Common.{◌≡◌, ℕ, zero, suc, inl, inr, List, [], ◌∷◌, drop, refl, sym, ap, subst}
use Rattle.std.specs.Prelude.{slice_set}
use Rattle.uc_tree.specs.Source as src
use Rattle.uc_tree.specs.Source.{Shape, Expr}
use Rattle.uc_machine.specs.declared.exec.Exec.{Exec}
use Rattle.uc_machine.specs.Pieces as piece
use Rattle.uc_machine.specs.Pieces.{Value, Todo, Active, top, below}
use Rattle.uc_place_laws.specs.OlderResting.{AllWait}
use Rattle.uc_state_laws.specs.Counted.{params}
use Rattle.uc_parts_laws.specs.PartStates.{Setting}
use Rattle.uc_parts_laws.specs.UndoingTodos.{Around, Mark, Any, Counts, At, Homed, rest, rests, anys, FirstAt, Finding, Entering, IsPlaceOf, Meets, Holds, after, made_marks, Ok, Left}
use Rattle.uc_parts_laws.specs.UndoingStates.{Runs, Waits}

-- operands

drop_below : (n : ℕ) (vs : List Value) → drop (suc n) vs ≡ below (drop n vs)
drop_below zero [] = refl
drop_below zero (v ∷ vs) = refl
drop_below (suc n) [] = refl
drop_below (suc n) (v ∷ vs) = drop_below n vs

module _ (home : ℕ → Value) (A : Around) where
  pub holds_below : (ms : List Mark) (vs : List Value) → Holds home A ms vs → Holds home A (rest ms) (below vs)
  holds_below [] vs h = tt
  holds_below (m ∷ ms) vs h = h.1

  pub holds_drop : (k : ℕ) (ms : List Mark) (vs : List Value) → Holds home A ms vs → Holds home A (rests k ms) (drop k vs)
  holds_drop zero ms [] h = h
  holds_drop zero ms (v ∷ vs) h = h
  holds_drop (suc k) ms vs h = subst (Holds home A (rest (rests k ms))) (sym (drop_below k vs)) (holds_below (rests k ms) (drop k vs) (holds_drop k ms vs h))

  -- so many operands of which nothing is known
  pub holds_anys : (k : ℕ) (ms : List Mark) (vs : List Value) → Holds home A ms (drop k vs) → Holds home A (anys k ms) vs
  holds_anys zero ms [] h = h
  holds_anys zero ms (v ∷ vs) h = h
  holds_anys (suc k) ms vs h = holds_anys k (Any ∷ ms) vs (tt, subst (Holds home A ms) (drop_below k vs) h)

  spread_mark : (m : Mark) → Meets home A m [] → Meets home A m (piece.Nothing ∷ [])
  spread_mark Any h = tt
  spread_mark Counts h = h
  spread_mark (At e) h = absurd h
  spread_mark (Homed e) h = h

  holds_spread : (ms : List Mark) (vs : List Value) → Holds home A ms vs → Holds home A ms (top vs ∷ below vs)
  holds_spread [] vs h = tt
  holds_spread (m ∷ ms) [] h = (spread_mark m h.0, h.1)
  holds_spread (m ∷ ms) (v ∷ vs) h = h

  same_top : (m : Mark) (v : Value) (us vs : List Value) → Meets home A m (v ∷ us) → Meets home A m (v ∷ vs)
  same_top Any v us vs h = tt
  same_top Counts v us vs h = h
  same_top (At e) v us vs h = h
  same_top (Homed e) v us vs h = h

  -- the two newest operands, whether they are there or not
  pub holds_two : (ms : List Mark) (vs : List Value) → Holds home A ms vs → Holds home A ms (top vs ∷ (top (below vs) ∷ below (below vs)))
  holds_two [] vs h = tt
  holds_two (m ∷ ms) vs h =
      let k = holds_spread (m ∷ ms) vs h in
      (same_top m (top vs) (below vs) (top (below vs) ∷ below (below vs)) k.0, holds_spread ms (below vs) k.1)

  -- a place that is known of an operand is there
  pub at_top : (e : Expr) (vs : List Value) → Meets home A (At e) vs → IsPlaceOf home A e (top vs)
  at_top e [] h = absurd h
  at_top e (v ∷ vs) h = h

  pub at_there : (e : Expr) (vs : List Value) → Meets home A (At e) vs → vs ≡ [] → ⊥
  at_there e [] h q = h
  at_there e (v ∷ vs) h q = absurd (cc)

  -- of the first, where it is one
  pub at_of : (ms : List Mark) (vs : List Value) → Holds home A ms vs → (F : Expr → Type 0) → FirstAt ms F → (p : Expr) × Meets home A (At p) vs × F p
  at_of (At p ∷ ms) vs h F k = (p, h.0, k)
  at_of [] vs h F k = absurd k
  at_of (Any ∷ ms) vs h F k = absurd k
  at_of (Counts ∷ ms) vs h F k = absurd k
  at_of (Homed p ∷ ms) vs h F k = absurd k

pub rests_anys : (n : ℕ) (ms : List Mark) → rests n (anys n ms) ≡ ms
rests_anys zero ms = refl
rests_anys (suc n) ms = ap rest (rests_anys n (Any ∷ ms))

-- what is written to an operand leaves those below
pub drop_set : (n : ℕ) (v : Value) (vs : List Value) → drop (suc n) (slice_set vs n v) ≡ drop (suc n) vs
drop_set n v [] = refl
drop_set zero v (w ∷ vs) = refl
drop_set (suc n) v (w ∷ vs) = drop_set n v vs

pub drop_one : (n : ℕ) (vs : List Value) → below (drop n vs) ≡ drop (suc n) vs
drop_one n vs = sym (drop_below n vs)

-- an operand that is there has what is written to it
pub set_top : (n : ℕ) (v : Value) (vs : List Value) → (drop n vs ≡ [] → ⊥) → top (drop n (slice_set vs n v)) ≡ v
set_top zero v [] h = absurd (h refl)
set_top (suc n) v [] h = absurd (h refl)
set_top zero v (w ∷ vs) h = refl
set_top (suc n) v (w ∷ vs) h = set_top n v vs h

-- to-do lists that are left

module _ (g : Setting) where
  finding : (e : Expr) (F : Mark → Type 0) (C : Type 0) → ((m : Mark) → F m → C) → Finding e F → C
  finding (src.Variable k) F C next h = next (At (src.Variable k)) h
  finding (src.OfObject (src.OwnField z i)) F C next h = next (At (src.OfObject (src.OwnField z i))) h
  finding (src.OfObject src.Counted) F C next h = next Counts h
  finding (src.Element n k (src.Variable j) (src.OfObject src.Counted)) F C next h = next (At (src.Element n k (src.Variable j) (src.OfObject src.Counted))) h
  finding (src.Element n k (src.OfObject (src.OwnField z i)) (src.OfObject src.Counted)) F C next h = next (At (src.Element n k (src.OfObject (src.OwnField z i)) (src.OfObject src.Counted))) h
  finding e F C next h = absurd h

  entering : (n : ℕ) (k : Shape) (ms : List Mark) (F : Mark → Type 0) (C : Type 0) → ((m : Mark) → F m → C) → Entering n k ms F → C
  entering n k (Counts ∷ (At (src.Variable j) ∷ ms)) F C next h = next (At (src.Element n k (src.Variable j) (src.OfObject src.Counted))) h
  entering n k (Counts ∷ (At (src.OfObject (src.OwnField z i)) ∷ ms)) F C next h = next (At (src.Element n k (src.OfObject (src.OwnField z i)) (src.OfObject src.Counted))) h
  entering n k ms F C next h = absurd h

  first_at : (ns : List Mark) (F : Expr → Type 0) (C : Type 0) → ((p : Expr) → F p → C) → FirstAt ns F → C
  first_at (At p ∷ ns) F C next h = next p h
  first_at [] F C next h = absurd h
  first_at (Any ∷ ns) F C next h = absurd h
  first_at (Counts ∷ ns) F C next h = absurd h
  first_at (Homed p ∷ ns) F C next h = absurd h

  pub left : (ms : List Mark) (todo : List Todo) → Ok g ms todo → Left g todo
  left ms [] h = tt
  left ms (piece.Eval e ∷ todo) (n, inl h) = left (Any ∷ ms) todo h.1
  left ms (piece.Eval e ∷ todo) (n, inr (inl h)) = left (Any ∷ ms) todo h.1
  left ms (piece.Eval e ∷ todo) (n, inr (inr h)) = finding e (λ m. Ok g (m ∷ ms) todo) (Left g todo) (λ m k. left (m ∷ ms) todo k) h
  left ms (piece.ElementNow n k ∷ todo) (inl h) = left (Any ∷ rest (rest ms)) todo h
  left ms (piece.ElementNow n k ∷ todo) (inr h) = entering n k ms (λ m. Ok g (m ∷ rest (rest ms)) todo) (Left g todo) (λ m l. left (m ∷ rest (rest ms)) todo l) h
  left ms (piece.MakeNow c r ∷ todo) h = first_at (rests (params g.source r) ms) (λ p. Ok g (made_marks g r (Homed p) ms) todo) (Left g todo) (λ p k. left (made_marks g r (Homed p) ms) todo k) h
  left ms (piece.BindMadeNow c r ∷ todo) h = first_at (rests (params g.source r) (rest ms)) (λ p. Ok g (made_marks g r (Homed p) (rest ms)) todo) (Left g todo) (λ p k. left (made_marks g r (Homed p) (rest ms)) todo k) h
  left ms (piece.Exit w ∷ todo) h = h
  left ms (piece.Unwind ∷ todo) h = h
  left ms (piece.InLoop o t e b ∷ todo) h = h
  left ms (piece.InWhole ∷ todo) h = h.1
  left ms (piece.Clean c ∷ todo) h = h
  left ms (piece.FillNow n b d ∷ todo) h = h
  left ms (piece.Sweep e ∷ todo) h = h
  left ms (piece.Part c ∷ todo) h = h
  left ms (piece.Guard hs ∷ todo) h = h
  left ms (piece.Finish ∷ todo) h = h.1
  left ms (piece.FinishCoroutine ∷ todo) h = h.1
  left ms (p ∷ todo) h = left (after g p ms) todo h.1

  -- what stands behind the first piece
  pub left_tail : (p : Todo) (todo : List Todo) → Left g (p ∷ todo) → Left g todo
  left_tail (piece.InLoop o t e b) todo h = left [] todo h.1
  left_tail piece.InWhole todo h = left [] todo h
  left_tail (piece.Clean c) todo h = left [] todo h.1
  left_tail (piece.FillNow n b d) todo h = left [] todo h.1
  left_tail (piece.Sweep e) todo h = left [] todo h.1
  left_tail (piece.Part c) todo h = left [] todo h.1
  left_tail (piece.Guard hs) todo h = left [] todo h.1
  left_tail piece.Finish todo h = left [] todo h
  left_tail piece.FinishCoroutine todo h = left [] todo h
  left_tail p todo h = h

  -- of activations that wait
  abbrev pub AllLeft : List Active → Type 0
  AllLeft [] = Unit {0}
  AllLeft (a ∷ cs) = Left g a.control × AllLeft cs

  pub waits_left : (n : Exec) (cs : List Active) → AllWait (Runs g) (Waits g) n cs → AllLeft cs
  waits_left n [] h = tt
  waits_left n (a ∷ cs) h = (left (Any ∷ h.0.marks) a.control h.0.ok, waits_left n cs h.1)

-- Marks and operands, and to-do lists that are left.
use Rattle.std.proofs.Common.{◌≡◌, ℕ, zero, suc, ◌⊎◌, inl, inr, List, [], ◌∷◌, drop, refl, sym, ap, subst}
use Rattle.std.specs.Prelude.{pos, slice_set}
use Rattle.uc_tree.specs.Source as src
use Rattle.uc_tree.specs.Source.{Expr, Source}
use Rattle.uc_machine.specs.Pieces as piece
use Rattle.uc_machine.specs.Pieces.{Value, Nothing, Todo, Active, top, below}
use Rattle.uc_site_laws.specs.Resting.{AllWait}
use Rattle.uc_state_laws.specs.Marked.{Mark, Any, Event, Holds, rest, rests, anys, Known, after, Ok, Left, Runs, Waits}

-- operands

pub holds_below : (ms : List Mark) (vs : List Value) → Holds ms vs → Holds (rest ms) (below vs)
holds_below [] vs h = tt
holds_below (m ∷ ms) vs h = h.1

drop_below : (n : ℕ) (vs : List Value) → drop (suc n) vs ≡ below (drop n vs)
drop_below zero [] = refl
drop_below zero (v ∷ vs) = refl
drop_below (suc n) [] = refl
drop_below (suc n) (v ∷ vs) = drop_below n vs

pub holds_drop : (n : ℕ) (ms : List Mark) (vs : List Value) → Holds ms vs → Holds (rests n ms) (drop n vs)
holds_drop zero ms [] h = h
holds_drop zero ms (v ∷ vs) h = h
holds_drop (suc n) ms vs h = subst (Holds (rest (rests n ms))) (sym (drop_below n vs)) (holds_below (rests n ms) (drop n vs) (holds_drop n ms vs h))

-- so many operands of which nothing is known
pub holds_anys : (n : ℕ) (ms : List Mark) (vs : List Value) → Holds ms (drop n vs) → Holds (anys n ms) vs
holds_anys zero ms [] h = h
holds_anys zero ms (v ∷ vs) h = h
holds_anys (suc n) ms vs h = holds_anys n (Any ∷ ms) vs (tt, subst (Holds ms) (drop_below n vs) h)

pub rests_anys : (n : ℕ) (ms : List Mark) → rests n (anys n ms) ≡ ms
rests_anys zero ms = refl
rests_anys (suc n) ms = ap rest (rests_anys n (Any ∷ ms))

-- what is written to an operand leaves those below
pub drop_set : (n : ℕ) (v : Value) (vs : List Value) → drop (suc n) (slice_set vs n v) ≡ drop (suc n) vs
drop_set n v [] = refl
drop_set zero v (w ∷ vs) = refl
drop_set (suc n) v (w ∷ vs) = drop_set n v vs

-- to-do lists that are left

module _ (source : Source) where
  -- what a literal gives is known or not
  either_way : (e : Expr) (A Q : Type 0) (P : ℕ → Type 0) → (A → Q) → ((k : ℕ) → P k → Q) → A ⊎ Known e P → Q
  either_way e A Q P f g (inl x) = f x
  either_way (src.Literal (pos k)) A Q P f g (inr y) = g k y
  either_way e A Q P f g (inr y) = absurd y

  pub left : (ms : List Mark) (todo : List Todo) → Ok source ms todo → Left source todo
  left ms [] h = tt
  left ms (piece.Eval e ∷ todo) h =
      either_way e (Ok source (Any ∷ ms) todo) (Left source todo) (λ k. Ok source (Event k ∷ ms) todo) (λ x. left (Any ∷ ms) todo x) (λ k x. left (Event k ∷ ms) todo x) h.1
  left ms (piece.Exit w ∷ todo) h = h
  left ms (piece.Unwind ∷ todo) h = h
  left ms (piece.RaiseAtNow ∷ todo) h = left [] todo h.1
  left ms (piece.InLoop o t e b ∷ todo) h = h
  left ms (piece.InWhole ∷ todo) h = h.1
  left ms (piece.Clean c ∷ todo) h = h
  left ms (piece.FillNow n b d ∷ todo) h = h
  left ms (piece.Sweep e ∷ todo) h = h
  left ms (piece.Part c ∷ todo) h = h
  left ms (piece.Guard hs ∷ todo) h = h
  left ms (piece.Finish ∷ todo) h = h.1
  left ms (piece.FinishCoroutine ∷ todo) h = h.1
  left ms (p ∷ todo) h = left (after source p ms) todo h.1

  -- what stands behind the first piece
  pub left_tail : (p : Todo) (todo : List Todo) → Left source (p ∷ todo) → Left source todo
  left_tail (piece.InLoop o t e b) todo h = left [] todo h.1
  left_tail piece.InWhole todo h = left [] todo h
  left_tail (piece.Clean c) todo h = left [] todo h.1
  left_tail (piece.FillNow n b d) todo h = left [] todo h.1
  left_tail (piece.Sweep e) todo h = left [] todo h.1
  left_tail (piece.Part c) todo h = left [] todo h.1
  left_tail (piece.Guard hs) todo h = left [] todo h.1
  left_tail piece.Finish todo h = left [] todo h
  left_tail piece.FinishCoroutine todo h = left [] todo h
  left_tail p todo h = h

  -- of activations that wait
  abbrev pub AllLeft : List Active → Type 0
  AllLeft [] = Unit {0}
  AllLeft (a ∷ cs) = Left source a.control × AllLeft cs

  pub waits_left : (cs : List Active) → AllWait (Runs source) (Waits source) cs → AllLeft cs
  waits_left [] h = tt
  waits_left (a ∷ cs) h = (left (Any ∷ h.0.marks) a.control h.0.ok, waits_left cs h.1)

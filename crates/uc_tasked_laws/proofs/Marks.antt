-- Marks and operands, scopes that open next, and to-do lists that are left.
use Rattle.std.proofs.Common.{◌≡◌, ℕ, zero, suc, ◌⊎◌, inl, inr, List, [], ◌∷◌, drop, refl, sym, ap, subst}
use Rattle.std.specs.Prelude.{slice_set}
use Rattle.uc_tree.specs.Programs.{Program}
use Rattle.uc_tree.specs.Source as src
use Rattle.uc_tree.specs.Source.{Expr, CleanUp, Stmts, Source}
use Rattle.uc_machine.specs.declared.exec.Exec.{Exec}
use Rattle.uc_machine.specs.Pieces as piece
use Rattle.uc_machine.specs.Pieces.{Value, Todo, Active, below}
use Rattle.uc_state_laws.specs.Counted.{params}
use Rattle.uc_tasked_laws.specs.Seated.{IsSpawning, OfScope, OfPart, OpensOf, OpensNone, Makes, Before}
use Rattle.uc_tasked_laws.specs.Seats.{Mark, Any, At, Holds, rest, rests, anys, Placed, Every, AtEnd, CalledBy, after, Ok, AtRest, AtDrop, AtCall, Left}

-- operands

drop_below : (n : ℕ) (vs : List Value) → drop (suc n) vs ≡ below (drop n vs)
drop_below zero [] = refl
drop_below zero (v ∷ vs) = refl
drop_below (suc n) [] = refl
drop_below (suc n) (v ∷ vs) = drop_below n vs

module _ (n : Exec) (f : ℕ) (this : Value) where
  pub holds_below : (ms : List Mark) (vs : List Value) → Holds n f this ms vs → Holds n f this (rest ms) (below vs)
  holds_below [] vs h = tt
  holds_below (m ∷ ms) vs h = h.1

  pub holds_drop : (k : ℕ) (ms : List Mark) (vs : List Value) → Holds n f this ms vs → Holds n f this (rests k ms) (drop k vs)
  holds_drop zero ms [] h = h
  holds_drop zero ms (v ∷ vs) h = h
  holds_drop (suc k) ms vs h = subst (Holds n f this (rest (rests k ms))) (sym (drop_below k vs)) (holds_below (rests k ms) (drop k vs) (holds_drop k ms vs h))

  -- so many operands of which nothing is known
  pub holds_anys : (k : ℕ) (ms : List Mark) (vs : List Value) → Holds n f this ms (drop k vs) → Holds n f this (anys k ms) vs
  holds_anys zero ms [] h = h
  holds_anys zero ms (v ∷ vs) h = h
  holds_anys (suc k) ms vs h = holds_anys k (Any ∷ ms) vs (tt, subst (Holds n f this ms) (drop_below k vs) h)

pub rests_anys : (n : ℕ) (ms : List Mark) → rests n (anys n ms) ≡ ms
rests_anys zero ms = refl
rests_anys (suc n) ms = ap rest (rests_anys n (Any ∷ ms))

-- what is written to an operand leaves those below
pub drop_set : (n : ℕ) (v : Value) (vs : List Value) → drop (suc n) (slice_set vs n v) ≡ drop (suc n) vs
drop_set n v [] = refl
drop_set zero v (w ∷ vs) = refl
drop_set (suc n) v (w ∷ vs) = drop_set n v vs

-- scopes that open next

module _ (P Q : ℕ → Expr → Type 0) (f : (d : ℕ) (e : Expr) → P d e → Q d e) where
  pub scope_more : (c : CleanUp) → OfScope P c → OfScope Q c
  scope_more (src.Destroys (src.OfObject (src.EndOn d written (src.Load (src.Variable k))))) h = f d (src.Variable k) h
  scope_more c h = tt

  pub part_more : (c : CleanUp) → OfPart P c → OfPart Q c
  part_more (src.Destroys (src.OfObject (src.EndOn d written (src.Load (src.OfObject (src.OwnField s i)))))) h = f d (src.OfObject (src.OwnField s i)) h
  part_more c h = tt

  pub opens_more : (ss : Stmts) → OpensOf P ss → OpensOf Q ss
  opens_more (src.Scoped c ss) h = scope_more c h
  opens_more (src.Built c ss) h = part_more c h
  opens_more ss h = tt

-- none opens next, so whatever opens next is so
pub opens_any : (P : ℕ → Expr → Type 0) (ss : Stmts) → OpensNone ss → OpensOf P ss
opens_any P ss h = opens_more (λ d e. ⊥) P (λ d e x. absurd x) ss h

-- both are so of it
module _ (P Q R : ℕ → Expr → Type 0) (f : (d : ℕ) (e : Expr) → P d e → Q d e → R d e) where
  pub scope_both : (c : CleanUp) → OfScope P c → OfScope Q c → OfScope R c
  scope_both (src.Destroys (src.OfObject (src.EndOn d written (src.Load (src.Variable k))))) h i = f d (src.Variable k) h i
  scope_both c h i = tt

  pub part_both : (c : CleanUp) → OfPart P c → OfPart Q c → OfPart R c
  part_both (src.Destroys (src.OfObject (src.EndOn d written (src.Load (src.OfObject (src.OwnField s n)))))) h i = f d (src.OfObject (src.OwnField s n)) h i
  part_both c h i = tt

  pub opens_both : (ss : Stmts) → OpensOf P ss → OpensOf Q ss → OpensOf R ss
  opens_both (src.Scoped c ss) h i = scope_both c h i
  opens_both (src.Built c ss) h i = part_both c h i
  opens_both ss h i = tt

module _ (p : Program) (source : Source) (D B : Type 0) (K : ℕ → Expr → Type 0) where
  pub rest_more : (P Q : ℕ → Expr → Type 0) → ((d : ℕ) (e : Expr) → P d e → Q d e) → (todo : List Todo) → AtRest p source D B K P todo → AtRest p source D B K Q todo
  rest_more P Q f (piece.Rest ss ∷ todo) h = ((opens_more P Q f ss h.0.0, h.0.1), h.1, h.2)
  rest_more P Q f todo h = absurd h

  pub drop_more : (P Q : ℕ → Expr → Type 0) → ((d : ℕ) (e : Expr) → P d e → Q d e) → (todo : List Todo) → AtDrop p source D B K P todo → AtDrop p source D B K Q todo
  drop_more P Q f (piece.DropNow ∷ (piece.Within line ∷ todo)) h = rest_more P Q f todo h
  drop_more P Q f todo h = absurd h

  pub call_more : (r : ℕ) (P Q : ℕ → Expr → Type 0) → ((d : ℕ) (e : Expr) → P d e → Q d e) → (todo : List Todo) → AtCall p source D B K r P todo → AtCall p source D B K r Q todo
  call_more r P Q f (piece.CallOnNow q ∷ todo) h = (h.0, drop_more P Q f todo h.1)
  call_more r P Q f (piece.CallUnwrittenNow q ∷ todo) h = (h.0, drop_more P Q f todo h.1)
  call_more r P Q f todo h = absurd h

  -- where none does, nothing more is asked
  pub rest_none : (todo : List Todo) → AtRest p source D B K (λ d e. ⊥) todo → Ok p source D B K [] todo
  rest_none (piece.Rest ss ∷ todo) h = h
  rest_none todo h = absurd h

  pub drop_none : (ms : List Mark) (todo : List Todo) → AtDrop p source D B K (λ d e. ⊥) todo → Ok p source D B K ms todo
  drop_none ms (piece.DropNow ∷ (piece.Within line ∷ todo)) h = (tt, (tt, rest_none todo h))
  drop_none ms todo h = absurd h

  -- to-do lists that are left

  -- what is evaluated, and what is called, may build or not
  either_eval : (e : Expr) (A C Q : Type 0) (P : Expr → Type 0) → (A → Q) → (C → Q) → ((q : Expr) → P q → Q) → A ⊎ (C ⊎ Placed e P) → Q
  either_eval e A C Q P f g h (inl x) = f x
  either_eval e A C Q P f g h (inr (inl x)) = g x
  either_eval (src.Variable k) A C Q P f g h (inr (inr x)) = h (src.Variable k) x
  either_eval (src.OfObject (src.OwnField s i)) A C Q P f g h (inr (inr x)) = h (src.OfObject (src.OwnField s i)) x
  either_eval e A C Q P f g h (inr (inr x)) = absurd x

  either_call : (A C Q : Type 0) → (A → Q) → (C → Q) → A ⊎ C → Q
  either_call A C Q f g (inl x) = f x
  either_call A C Q f g (inr x) = g x

  -- who leaves all comes to its end
  pub end_left : (todo : List Todo) → AtEnd todo → Left p source D B K todo
  end_left [] h = tt
  end_left todo h = absurd h

  pub end_ok : (ms : List Mark) (todo : List Todo) → AtEnd todo → D → Ok p source D B K ms todo
  end_ok ms [] h d = d
  end_ok ms todo h d = absurd h

  mutual
    pub left : (ms : List Mark) (todo : List Todo) → Ok p source D B K ms todo → Left p source D B K todo
    left ms [] h = tt
    left ms (piece.Eval e ∷ todo) h =
        either_eval e (Ok p source D B K (Any ∷ ms) todo) (AtDrop p source D B K (Makes p e) todo) (Left p source D B K todo) (λ q. Ok p source D B K (At q ∷ ms) todo) (λ x. left (Any ∷ ms) todo x) (λ x. left_drop todo (drop_more (Makes p e) Every (λ d e y. tt) todo x)) (λ q x. left (At q ∷ ms) todo x) h.1
    left ms (piece.MakeNow c r ∷ todo) h =
        either_call (Ok p source D B K (anys (suc (params source r)) (rests (suc (params source r)) ms)) todo) (AtCall p source D B K r (CalledBy p r (rests (params source r) ms)) todo) (Left p source D B K todo) (λ x. left (anys (suc (params source r)) (rests (suc (params source r)) ms)) todo x) (λ x. left_call r todo (call_more r (CalledBy p r (rests (params source r) ms)) Every (λ d e y. tt) todo x)) h
    left ms (piece.BindMadeNow c r ∷ todo) h =
        either_call (Ok p source D B K (anys (suc (params source r)) (rests (suc (params source r)) (rest ms))) todo) (AtCall p source D B K r (CalledBy p r (rests (params source r) (rest ms))) todo) (Left p source D B K todo) (λ x. left (anys (suc (params source r)) (rests (suc (params source r)) (rest ms))) todo x) (λ x. left_call r todo (call_more r (CalledBy p r (rests (params source r) (rest ms))) Every (λ d e y. tt) todo x)) h
    left ms (piece.Do a ∷ todo) h =
        either_call (Ok p source D B K [] todo) (AtRest p source D B K (Before p a) todo) (Left p source D B K todo) (λ x. left [] todo x) (λ x. left_rest todo (rest_more (Before p a) Every (λ d e y. tt) todo x)) h.1
    left ms (piece.Exit w ∷ todo) h = h.0
    left ms (piece.Unwind ∷ todo) h = h
    left ms (piece.InLoop o t e b ∷ todo) h = (h.0, h.1)
    left ms (piece.InWhole ∷ todo) h = h.1
    left ms (piece.Clean c ∷ todo) h = h
    left ms (piece.FillNow n b d ∷ todo) h = h
    left ms (piece.Sweep e ∷ todo) h = h
    left ms (piece.Part c ∷ todo) h = h
    left ms (piece.Guard hs ∷ todo) h = h
    left ms (piece.Finish ∷ todo) h = h
    left ms (piece.FinishCoroutine ∷ todo) h = h.1
    left ms (x ∷ todo) h = left (after source x ms) todo h.1

    left_rest : (todo : List Todo) → AtRest p source D B K Every todo → Left p source D B K todo
    left_rest (piece.Rest ss ∷ todo) h = left [] todo h.1
    left_rest todo h = absurd h

    pub left_drop : (todo : List Todo) → AtDrop p source D B K Every todo → Left p source D B K todo
    left_drop (piece.DropNow ∷ (piece.Within line ∷ todo)) h = left_rest todo h
    left_drop todo h = absurd h

    left_call : (r : ℕ) (todo : List Todo) → AtCall p source D B K r Every todo → Left p source D B K todo
    left_call r (piece.CallOnNow q ∷ todo) h = left_drop todo h.1
    left_call r (piece.CallUnwrittenNow q ∷ todo) h = left_drop todo h.1
    left_call r todo h = absurd h

  pub clean_tail : (c : CleanUp) (todo : List Todo) → Ok p source D B K [] todo ⊎ (B × IsSpawning c × AtEnd todo) → Left p source D B K todo
  clean_tail c todo (inl h) = left [] todo h
  clean_tail c todo (inr h) = end_left todo h.2

  -- what stands behind the first piece
  pub left_tail : (x : Todo) (todo : List Todo) → Left p source D B K (x ∷ todo) → Left p source D B K todo
  left_tail (piece.InLoop o t e b) todo h = left [] todo h.1
  left_tail piece.InWhole todo h = left [] todo h
  left_tail (piece.Clean c) todo h = clean_tail c todo h.1
  left_tail (piece.FillNow n b d) todo h = left [] todo h.1
  left_tail (piece.Sweep e) todo h = left [] todo h.1
  left_tail (piece.Part c) todo h = left [] todo h.1
  left_tail (piece.Guard hs) todo h = left [] todo h.1
  left_tail piece.Finish todo h = left [] todo h.1
  left_tail piece.FinishCoroutine todo h = left [] todo h
  left_tail x todo h = h

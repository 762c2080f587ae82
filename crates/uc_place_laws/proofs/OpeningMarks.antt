-- Marks and operands, scopes that open next, and to-do lists that are left.
use Rattle.std.proofs.Common.{◌≡◌, ℕ, zero, suc, ◌⊎◌, inl, inr, List, [], ◌∷◌, drop, refl, sym, ap, subst}
use Rattle.std.specs.Prelude.{slice_set}
use Rattle.uc_tree.specs.Programs.{Program}
use Rattle.uc_tree.specs.Source as src
use Rattle.uc_tree.specs.Source.{Shape, Expr, CleanUp, Stmts, Source}
use Rattle.uc_machine.specs.declared.exec.Exec.{Exec}
use Rattle.uc_machine.specs.Pieces as piece
use Rattle.uc_machine.specs.Pieces.{Value, Todo, Active, top, below}
use Rattle.uc_place_laws.specs.OlderResting.{AllWait}
use Rattle.uc_state_laws.specs.Counted.{params}
use Rattle.uc_place_laws.specs.Opened.{Spot, Var, Own, OfPlain, OpensOf, OpensNone, OfPart, PartOf, PartNone, NextOf, NextNone, BuildsOf, BuildsNone, Declares, Builds, Before}
use Rattle.uc_place_laws.specs.Called.{Mark, Any, At, Holds, rest, rests, anys, Placed, Every, AnyOne, Meets, NextAt, CalledBy, after, Ok, AtRest, AtBuild, AtDrop, Left}
use Rattle.uc_place_laws.specs.CalledStates.{Runs, Waits}

-- operands

drop_below : (n : ℕ) (vs : List Value) → drop (suc n) vs ≡ below (drop n vs)
drop_below zero [] = refl
drop_below zero (v ∷ vs) = refl
drop_below (suc n) [] = refl
drop_below (suc n) (v ∷ vs) = drop_below n vs

module _ (n : Exec) (f : ℕ) (this : Value) where
  pub holds_below : (ms : List Mark) (vs : List Value) → Holds n f this ms vs → Holds n f this (rest ms) (below vs)
  holds_below [] vs h = tt
  holds_below (m ∷ ms) vs h = h.1

  pub holds_drop : (k : ℕ) (ms : List Mark) (vs : List Value) → Holds n f this ms vs → Holds n f this (rests k ms) (drop k vs)
  holds_drop zero ms [] h = h
  holds_drop zero ms (v ∷ vs) h = h
  holds_drop (suc k) ms vs h = subst (Holds n f this (rest (rests k ms))) (sym (drop_below k vs)) (holds_below (rests k ms) (drop k vs) (holds_drop k ms vs h))

  -- so many operands of which nothing is known
  pub holds_anys : (k : ℕ) (ms : List Mark) (vs : List Value) → Holds n f this ms (drop k vs) → Holds n f this (anys k ms) vs
  holds_anys zero ms [] h = h
  holds_anys zero ms (v ∷ vs) h = h
  holds_anys (suc k) ms vs h = holds_anys k (Any ∷ ms) vs (tt, subst (Holds n f this ms) (drop_below k vs) h)

pub rests_anys : (n : ℕ) (ms : List Mark) → rests n (anys n ms) ≡ ms
rests_anys zero ms = refl
rests_anys (suc n) ms = ap rest (rests_anys n (Any ∷ ms))

-- what is written to an operand leaves those below
pub drop_set : (n : ℕ) (v : Value) (vs : List Value) → drop (suc n) (slice_set vs n v) ≡ drop (suc n) vs
drop_set n v [] = refl
drop_set zero v (w ∷ vs) = refl
drop_set (suc n) v (w ∷ vs) = drop_set n v vs

-- scopes that open next

module _ (P Q : ℕ → ℕ → Type 0) (f : (d k : ℕ) → P d k → Q d k) where
  plain_more : (c : CleanUp) → OfPlain P c → OfPlain Q c
  plain_more (src.Destroys (src.OfObject (src.CallOn d (src.Variable k) args))) h = f d k h
  plain_more (src.Destroys (src.OfObject (src.CallUnwritten d (src.Variable k)))) h = f d k h
  plain_more c h = tt

  pub opens_more : (ss : Stmts) → OpensOf P ss → OpensOf Q ss
  opens_more (src.Scoped c ss) h = plain_more c h
  opens_more ss h = tt

  pub builds_more : (ss : Stmts) → BuildsOf P ss → BuildsOf Q ss
  builds_more (src.Then a ss) h = opens_more ss h
  builds_more ss h = tt

module _ (P Q : ℕ → Shape → ℕ → Type 0) (f : (d : ℕ) (k : Shape) (i : ℕ) → P d k i → Q d k i) where
  part_by : (c : CleanUp) → OfPart P c → OfPart Q c
  part_by (src.Destroys (src.OfObject (src.CallOn d (src.OfObject (src.OwnField k i)) args))) h = f d k i h
  part_by (src.Destroys (src.OfObject (src.CallUnwritten d (src.OfObject (src.OwnField k i))))) h = f d k i h
  part_by c h = tt

  pub part_more : (ss : Stmts) → PartOf P ss → PartOf Q ss
  part_more (src.Built c ss) h = part_by c h
  part_more ss h = tt

-- and of both
pub next_more : (P Q : ℕ → Spot → Type 0) → ((d : ℕ) (x : Spot) → P d x → Q d x) → (ss : Stmts) → NextOf P ss → NextOf Q ss
next_more P Q f (src.Scoped c ss) h = plain_more (λ d k. P d (Var k)) (λ d k. Q d (Var k)) (λ d k x. f d (Var k) x) c h
next_more P Q f (src.Built c ss) h = part_by (λ d k i. P d (Own k i)) (λ d k i. Q d (Own k i)) (λ d k i x. f d (Own k i) x) c h
next_more P Q f ss h = tt

pub next_opens : (P : ℕ → Spot → Type 0) (ss : Stmts) → NextOf P ss → OpensOf (λ d k. P d (Var k)) ss
next_opens P (src.Scoped c ss) h = h
next_opens P ss h = tt

pub next_part : (P : ℕ → Spot → Type 0) (ss : Stmts) → NextOf P ss → PartOf (λ d k i. P d (Own k i)) ss
next_part P (src.Built c ss) h = h
next_part P ss h = tt

pub next_any : (P : ℕ → Spot → Type 0) (ss : Stmts) → NextNone ss → NextOf P ss
next_any P ss h = next_more (λ d x. ⊥) P (λ d x y. absurd y) ss h

pub part_any : (P : ℕ → Shape → ℕ → Type 0) (ss : Stmts) → PartNone ss → PartOf P ss
part_any P ss h = part_more (λ d k i. ⊥) P (λ d k i y. absurd y) ss h

-- none opens next, so whatever opens next is so
pub opens_any : (P : ℕ → ℕ → Type 0) (ss : Stmts) → OpensNone ss → OpensOf P ss
opens_any P ss h = opens_more (λ d k. ⊥) P (λ d k x. absurd x) ss h

pub builds_any : (P : ℕ → ℕ → Type 0) (ss : Stmts) → BuildsNone ss → BuildsOf P ss
builds_any P ss h = builds_more (λ d k. ⊥) P (λ d k x. absurd x) ss h

-- none is built next, or one is of which that holds
plain_or : (P : ℕ → ℕ → Type 0) (c : CleanUp) → OfPlain P c → OfPlain (λ d k. ⊥) c ⊎ ((d : ℕ) × (k : ℕ) × P d k)
plain_or P (src.Destroys (src.OfObject (src.CallOn d (src.Variable k) args))) h = inr (d, k, h)
plain_or P (src.Destroys (src.OfObject (src.CallUnwritten d (src.Variable k)))) h = inr (d, k, h)
plain_or P c h = inl tt

opens_or : (P : ℕ → ℕ → Type 0) (ss : Stmts) → OpensOf P ss → OpensNone ss ⊎ ((d : ℕ) × (k : ℕ) × P d k)
opens_or P (src.Scoped c ss) h = plain_or P c h
opens_or P ss h = inl tt

pub builds_or : (P : ℕ → ℕ → Type 0) (ss : Stmts) → BuildsOf P ss → BuildsNone ss ⊎ ((d : ℕ) × (k : ℕ) × P d k)
builds_or P (src.Then a ss) h = opens_or P ss h
builds_or P ss h = inl tt

module _ (p : Program) (source : Source) where
  pub rest_more : (P Q : ℕ → Spot → Type 0) → ((d : ℕ) (x : Spot) → P d x → Q d x) → (todo : List Todo) → AtRest p source P todo → AtRest p source Q todo
  rest_more P Q f (piece.Rest ss ∷ todo) h = ((next_more P Q f ss h.0.0, h.0.1, h.0.2), h.1)
  rest_more P Q f todo h = absurd h

  pub drop_more : (P Q : ℕ → Spot → Type 0) → ((d : ℕ) (x : Spot) → P d x → Q d x) → (todo : List Todo) → AtDrop p source P todo → AtDrop p source Q todo
  drop_more P Q f (piece.DropNow ∷ (piece.Within line ∷ todo)) h = rest_more P Q f todo h
  drop_more P Q f todo h = absurd h

  -- where none does, nothing more is asked
  pub rest_none : (todo : List Todo) → AtRest p source (λ d x. ⊥) todo → Ok p source [] todo
  rest_none (piece.Rest ss ∷ todo) h = h
  rest_none todo h = absurd h

  pub build_more : (P Q : ℕ → ℕ → Type 0) → ((d k : ℕ) → P d k → Q d k) → (todo : List Todo) → AtBuild p source P todo → AtBuild p source Q todo
  build_more P Q f (piece.Rest ss ∷ todo) h = ((h.0.0, h.0.1, builds_more P Q f ss h.0.2), h.1)
  build_more P Q f todo h = absurd h

  pub build_none : (todo : List Todo) → AtBuild p source (λ d k. ⊥) todo → Ok p source [] todo
  build_none (piece.Rest ss ∷ todo) h = h
  build_none todo h = absurd h

  pub drop_none : (ms : List Mark) (todo : List Todo) → AtDrop p source (λ d x. ⊥) todo → Ok p source ms todo
  drop_none ms (piece.DropNow ∷ (piece.Within line ∷ todo)) h = (tt, (tt, rest_none todo h))
  drop_none ms todo h = absurd h

  -- to-do lists that are left

  -- what is evaluated, and what is called, may build or not
  either_eval : (e : Expr) (A B Q : Type 0) (P : Spot → Type 0) → (A → Q) → (B → Q) → ((x : Spot) → P x → Q) → A ⊎ (B ⊎ Placed e P) → Q
  either_eval e A B Q P f g h (inl x) = f x
  either_eval e A B Q P f g h (inr (inl x)) = g x
  either_eval (src.Variable k) A B Q P f g h (inr (inr x)) = h (Var k) x
  either_eval (src.OfObject (src.OwnField s i)) A B Q P f g h (inr (inr x)) = h (Own s i) x
  either_eval e A B Q P f g h (inr (inr x)) = absurd x

  either_call : (A B Q : Type 0) → (A → Q) → (B → Q) → A ⊎ B → Q
  either_call A B Q f g (inl x) = f x
  either_call A B Q f g (inr x) = g x

  mutual
    pub left : (ms : List Mark) (todo : List Todo) → Ok p source ms todo → Left p source todo
    left ms [] h = tt
    left ms (piece.Eval e ∷ todo) h =
        either_eval e (Ok p source (Any ∷ ms) todo) (AtDrop p source (Builds p e) todo) (Left p source todo) (λ y. Ok p source (At y ∷ ms) todo) (λ x. left (Any ∷ ms) todo x) (λ x. left_drop todo (drop_more (Builds p e) Every (λ d x y. tt) todo x)) (λ y x. left (At y ∷ ms) todo x) h.1
    left ms (piece.CallOnNow r ∷ todo) h =
        either_call (Ok p source (Any ∷ rests (suc (params source r)) ms) todo) (AtDrop p source (CalledBy p r (rests (params source r) ms)) todo) (Left p source todo) (λ x. left (Any ∷ rests (suc (params source r)) ms) todo x) (λ x. left_drop todo (drop_more (CalledBy p r (rests (params source r) ms)) Every (λ d x y. tt) todo x)) h
    left ms (piece.CallUnwrittenNow r ∷ todo) h =
        either_call (Ok p source (Any ∷ rests (suc (params source r)) ms) todo) (AtDrop p source (CalledBy p r (rests (params source r) ms)) todo) (Left p source todo) (λ x. left (Any ∷ rests (suc (params source r)) ms) todo x) (λ x. left_drop todo (drop_more (CalledBy p r (rests (params source r) ms)) Every (λ d x y. tt) todo x)) h
    left ms (piece.Do a ∷ todo) h =
        either_call (Ok p source [] todo) (AtRest p source (Before p a) todo ⊎ AtBuild p source (Declares p a) todo) (Left p source todo) (λ x. left [] todo x) (λ z. either_call (AtRest p source (Before p a) todo) (AtBuild p source (Declares p a) todo) (Left p source todo) (λ x. left_rest todo (rest_more (Before p a) Every (λ d x y. tt) todo x)) (λ x. left_build todo (build_more (Declares p a) AnyOne (λ d x y. tt) todo x)) z) h.1
    left ms (piece.Exit w ∷ todo) h = h
    left ms (piece.Unwind ∷ todo) h = h
    left ms (piece.InLoop o t e b ∷ todo) h = h
    left ms (piece.InWhole ∷ todo) h = h.1
    left ms (piece.Clean c ∷ todo) h = h
    left ms (piece.FillNow n b d ∷ todo) h = h
    left ms (piece.Sweep e ∷ todo) h = h
    left ms (piece.Part c ∷ todo) h = h
    left ms (piece.Guard hs ∷ todo) h = h
    left ms (piece.Finish ∷ todo) h = h.1
    left ms (piece.FinishCoroutine ∷ todo) h = h.1
    left ms (x ∷ todo) h = left (after source x ms) todo h.1

    left_rest : (todo : List Todo) → AtRest p source Every todo → Left p source todo
    left_rest (piece.Rest ss ∷ todo) h = left [] todo h.1
    left_rest todo h = absurd h

    left_build : (todo : List Todo) → AtBuild p source AnyOne todo → Left p source todo
    left_build (piece.Rest ss ∷ todo) h = left [] todo h.1
    left_build todo h = absurd h

    left_drop : (todo : List Todo) → AtDrop p source Every todo → Left p source todo
    left_drop (piece.DropNow ∷ (piece.Within line ∷ todo)) h = left_rest todo h
    left_drop todo h = absurd h

  -- what stands behind the first piece
  pub left_tail : (x : Todo) (todo : List Todo) → Left p source (x ∷ todo) → Left p source todo
  left_tail (piece.InLoop o t e b) todo h = left [] todo h.1
  left_tail piece.InWhole todo h = left [] todo h
  left_tail (piece.Clean c) todo h = left [] todo h.1
  left_tail (piece.FillNow n b d) todo h = left [] todo h.1
  left_tail (piece.Sweep e) todo h = left [] todo h.1
  left_tail (piece.Part c) todo h = left [] todo h.1
  left_tail (piece.Guard hs) todo h = left [] todo h.1
  left_tail piece.Finish todo h = left [] todo h
  left_tail piece.FinishCoroutine todo h = left [] todo h
  left_tail x todo h = h

  -- in a list that is in order none opens, and none is a part, next
  pub next_none : (P : ℕ → Spot → Type 0) (ms : List Mark) (todo : List Todo) → Ok p source ms todo → NextAt P todo
  next_none P ms (piece.DropNow ∷ (piece.Within line ∷ (piece.Rest ss ∷ todo))) h = next_any P ss h.1.1.0.0
  next_none P ms todo h = tt

  pub next_behind : (P : ℕ → Spot → Type 0) (ms : List Mark) (todo : List Todo) → Ok p source ms todo → NextAt P (piece.DropNow ∷ todo)
  next_behind P ms (piece.Within line ∷ (piece.Rest ss ∷ todo)) h = next_any P ss h.1.0.0
  next_behind P ms todo h = tt

  -- what is called lies where that does
  pub next_called : (n : Exec) (f : ℕ) (this : Value) (r : ℕ) (ms : List Mark) (vs : List Value) → Holds n f this ms vs → (todo : List Todo) → AtDrop p source (CalledBy p r ms) todo → NextAt (λ d x. Meets n f this (At x) (top vs)) todo
  next_called n f this r ms vs k (piece.DropNow ∷ (piece.Within line ∷ (piece.Rest ss ∷ todo))) h = next_more (CalledBy p r ms) (λ d x. Meets n f this (At x) (top vs)) (λ d x y. by d x ms k y) ss h.0.0
    where
      by : (d : ℕ) (x : Spot) (ms : List Mark) → Holds n f this ms vs → CalledBy p r ms d x → Meets n f this (At x) (top vs)
      by d x (At y ∷ ms) k z = subst (λ u. Meets n f this (At u) (top vs)) z.0 k.0
      by d x (Any ∷ ms) k z = absurd z
      by d x [] k z = absurd z
  next_called n f this r ms vs k todo h = tt

  -- of activations that wait
  abbrev pub AllLeft : List Active → Type 0
  AllLeft [] = Unit {0}
  AllLeft (a ∷ cs) = Left p source a.control × AllLeft cs

  pub wait_left : (n : Exec) (older : List Active) (a : Active) → Waits p source n older a → Left p source a.control
  wait_left n older a ((inl h), z) = left (Any ∷ h.marks) a.control h.ok
  wait_left n older a ((inr h), z) = left_drop a.control h

  pub waits_left : (n : Exec) (cs : List Active) → AllWait (Runs p source) (Waits p source) n cs → AllLeft cs
  waits_left n [] h = tt
  waits_left n (a ∷ cs) h = (wait_left n cs a h.0, waits_left n cs h.1)

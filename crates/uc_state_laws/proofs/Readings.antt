-- A variable in scope that holds what is known by its number holds that.
use Rattle.std.proofs.Common.{◌≡◌, ℕ, ◌<◌, inl, inr, Bool, true, false, List, [], ◌∷◌, length, Option, Some, None, sym, ap, ◌∙◌, subst}
use Rattle.std.specs.Prelude.{if◌then◌else◌, nat_eq, slice_index_or}
use Rattle.uc_tree.specs.Source as src
use Rattle.uc_tree.specs.Source.{Expr, CleanUp}
use Rattle.uc_machine.specs.declared.exec.Visited.{Visited}
use Rattle.uc_machine.specs.Raising.{count_round, within}
use Rattle.uc_machine.specs.Executions.{at_depth, list_in, frames_in, parked_at}
use Rattle.uc_machine.specs.Pieces as piece
use Rattle.uc_machine.specs.Pieces.{Link, Slot, At, Value, Todo, Sort, State, nought, address, loaded, further, variable_at, Active}
use Rattle.uc_typing.specs.Typing as typing
use Rattle.uc_typing.specs.Typing.{Ty, Cell, Obj, Row, Clu, Pro, Name, Sig, Table, InScope, DestroysAt, Cleans, Fine, FineClean}
use Rattle.uc_typing.specs.Pieces.{Ok, Left, Met, onto}
use Rattle.uc_typing.specs.States.{IsNumbered, IsObjectBy, Is, Either, IsBase, Typed, ReadsVariable, ReadsPlace}
use Rattle.uc_typing.proofs.Control as control
use Rattle.uc_state_laws.specs.There.{OfVariable, OfElements, EndsAt, HoldsObject, IsThere, CleanBy, AllThere, Any, frame_at}
use Rattle.uc_state_laws.specs.ThereStates.{ThereStack, ThereState}
use Rattle.uc_state_laws.specs.Reading.{ReadsElement, LawReading}
use Rattle.uc_state_laws.proofs.Cells.{held_there}
use Rattle.uc_state_laws.proofs.ValueSteps.{exec_same, here}

module _ (t : Table) (g : Sig) where
  object : (c d : ℕ) (v : Value) (o : ℕ) → (t.routine o).this ≡ Some c → (t.routine o).this ≡ Some d → t.mutex d ≡ true → IsNumbered v → Is t (Obj c) v
  object c d v o e f m n =
      let same : d ≡ c = cc in
      let q : t.mutex c ≡ true = ap (λ x. t.mutex x) (sym same) ∙ m in
      subst (λ (b : Bool). IsObjectBy t b c v) (sym q) n

  -- what ends at a place, of the numbers that it holds
  ended : (sc : List Name) (place : Expr) (P : Expr → Type 0) (v : Value) (a : Ty) (e : Expr) → DestroysAt t (Cell a) place e → Fine t g sc e → EndsAt P e → (P place → IsNumbered v) → Is t a v
  ended sc place P v (Obj c) (src.OfObject (src.EndOn r written (src.Load x))) h f p n =
      object c f.1.1.0 v r h.1 f.1.1.2 f.1.1.4 (n (subst P (sym h.0) p))
  ended sc place P v Clu (src.OfObject (src.EndCluster (src.Load x))) h f p n = n (subst P (sym h) p)
  ended sc place P v Pro (src.OfObject (src.EndProcessor (src.Load x))) h f p n = n (subst P (sym h) p)
  ended sc place P v a e h f p n = absurd h

  single : (sc : List Name) (vs : List Value) (k : ℕ) (a : Ty) (c : CleanUp) → Cleans t g (typing.Var k (Cell a)) c → FineClean t g sc c → IsThere vs c → Is t a (slice_index_or vs (address (Slot k ∷ [])) nought)
  single sc vs k a (src.Destroys e) h f p =
      ended sc (src.Variable k) (OfVariable (HoldsObject vs)) (slice_index_or vs (address (Slot k ∷ [])) nought) a e h f p (λ x. x)
  single sc vs k a c h f p = absurd h

  element : (sc : List Name) (vs : List Value) (k n : ℕ) (a : Ty) (i : ℕ) → i < n → (c : CleanUp) → Cleans t g (typing.Var k (Row n (Cell a))) c → FineClean t g sc c → IsThere vs c → Is t a (slice_index_or vs (address (At src.Binding i ∷ (Slot k ∷ []))) nought)
  element sc vs k n a i l (src.DestroysAll m e) h f p =
      ended sc (src.Element n src.Binding (src.Variable k) (src.OfObject src.Counted)) (OfElements m (HoldsObject vs)) (slice_index_or vs (address (At src.Binding i ∷ (Slot k ∷ []))) nought) a e h.1 f p (λ x. x i (subst (λ (m : ℕ). i < m) h.0 l))
  element sc vs k n a i l c h f p = absurd h

  -- of each name that a mark takes out of scope, or that is in scope outwards of them all
  module _ (base : List Name) (vs : List Value) (k : ℕ) (a : Ty) (R : Type 0) (f : (sc : List Name) (c : CleanUp) → Cleans t g (typing.Var k a) c → FineClean t g sc c → IsThere vs c → R) where
    named : (x : Name) (more : List Name) (sc : List Name) (c : CleanUp) → Cleans t g x c → FineClean t g sc c → IsThere vs c → InScope (x ∷ more) k a → (InScope more k a → R) → R
    named (typing.Var l b) more sc c h i p (inl e) k =
        f sc c (subst (λ (n : ℕ). Cleans t g (typing.Var n a) c) e.0 (subst (λ (b : Ty). Cleans t g (typing.Var l b) c) e.1 h)) i p
    named (typing.Var l b) more sc c h i p (inr e) k = k e
    named (typing.Own j) more sc c h i p e k = k e
    named typing.Kept more sc c h i p e k = k e

    marked : (s : Sort) (sc : List Name) (todo : List Todo) → Met t g sc s (λ sc. Left t g base sc todo) (λ sc. Ok t g base sc todo) → CleanBy (IsThere vs) s → ((sc : List Name) → Left t g base sc todo → InScope sc k a → R) → InScope sc k a → R
    marked piece.Simple sc todo h p next e = next sc h e
    marked (piece.IsLoop o x y b) sc todo h p next e = next sc h.2 e
    marked piece.IsWhole sc todo h p next e = next sc (control.left t g base sc todo [] h.1) e
    marked (piece.IsClean c) [] todo h p next e = absurd h
    marked (piece.IsClean c) (x ∷ sc) todo h p next e = named x sc sc c h.0 h.1 p e (next sc h.2)
    marked (piece.IsFill n b d) sc todo h p next e = next sc h.1 e
    marked (piece.IsSweep b) sc todo h p next e = next sc h.1 e
    marked (piece.IsPart c) sc todo h p next e = next sc h.1 e
    marked (piece.IsGuard hs) sc todo h p next e = next sc h.2 e
    marked piece.IsFinish sc todo h p next e = next sc (control.left t g base sc todo [] h) e
    marked piece.IsFinishCoroutine sc todo h p next e = next sc (control.left t g base sc todo [] h) e

    in_scope : (todo : List Todo) (sc : List Name) → Left t g base sc todo → AllThere vs todo → (InScope base k a → R) → InScope sc k a → R
    in_scope [] sc h p out e = out (subst (λ names. InScope names k a) h e)
    in_scope (x ∷ todo) sc h p out e = marked (piece.sort x) sc todo h p.0 (λ sc l i. in_scope todo sc l p.1 out i) e

-- what stands within so many is there too
within_by : (vs : List Value) (b : Bool) (xs ys : List Todo) → AllThere vs xs → AllThere vs ys → AllThere vs (if b then xs else ys)
within_by vs true xs ys h i = h
within_by vs false xs ys h i = i

all_within : (vs : List Value) (n : ℕ) (todo : List Todo) → AllThere vs todo → AllThere vs (within n todo)
all_within vs n [] h = tt
all_within vs n (p ∷ ps) h = within_by vs (nat_eq (count_round (p ∷ ps)) n) (p ∷ ps) (within n ps) h (all_within vs n ps h.1)

one_of : (b : Bool) (A B R : Type 0) → Either b A B → (A → R) → (B → R) → R
one_of true A B R h f k = f h
one_of false A B R h f k = k h

-- of all names that are in scope in an activation with the frame of this depth, its own and those of the routine whose handler it is
module _ (t : Table) (g : Sig) (fs : List (List Value)) (d k : ℕ) (a : Ty) (R : Type 0) (f : (sc : List Name) (c : CleanUp) → Cleans t g (typing.Var k a) c → FineClean t g sc c → IsThere (frame_at d fs) c → R) where
  in_base : (o : Option Visited) (base : List Name) (older : List Active) → ThereStack fs older → IsBase t g o base d older → InScope base k a → R
  in_base None base older h e i = absurd (subst (λ names. InScope names k a) e i)
  in_base (Some v) base [] h e i = absurd e
  in_base (Some v) base (c ∷ older) h e i =
      one_of (nat_eq (length older) v.level) _ (IsBase t g (Some v) base d older) R e
      (λ x. in_scope t g x.0 (frame_at d fs) k a R f (within v.rest c.control) base x.2 (all_within (frame_at d fs) v.rest c.control (subst (λ n. AllThere (frame_at n fs) c.control) x.1 (held_there Any (frame_at c.frame fs) c.elements c.control h.1))) (λ j. in_base c.handles x.0 older h.2 x.3 j) i)
      (λ y. in_base (Some v) base older h.2 y i)

-- what a place of the running frame holds
pub running : (P : Value → Type 0) (s : State) (p : List Link) → P (slice_index_or (here s) (address p) nought) → P (loaded (piece.Place (piece.this_frame s) p) s.env)
running P s p h =
    subst (λ (b : Bool). P (slice_index_or (list_in (at_depth (if b then s.env.frames else frames_in (parked_at s.env.exec s.env)) s.run.frame)) (address p) nought)) (sym (exec_same s.env.exec)) h

module _ (t : Table) (given : List Ty) (s : State) (x : Typed t given s) (h : ThereState s) where
  scope : (k : ℕ) (a : Ty) (R : Type 0) → ((sc : List Name) (c : CleanUp) → Cleans t x.run.sig (typing.Var k a) c → FineClean t x.run.sig sc c → IsThere (here s) c → R) → InScope x.run.scope k a → R
  scope k a R f i =
      in_scope t x.run.sig x.run.base (here s) k a R f s.run.control x.run.scope (control.left t x.run.sig x.run.base x.run.scope s.run.control (onto given x.run.own) x.run.ok) (held_there Any (here s) s.run.elements s.run.control h.stack.1) (λ j. in_base t x.run.sig s.env.frames s.run.frame k a R f s.run.handles x.run.base s.callers h.stack.2 x.run.ends j) i

  variable : (k : ℕ) (a : Ty) → InScope x.run.scope k (Cell a) → Is t a (loaded (variable_at k s) s.env)
  variable k a i =
      running (Is t a) s (Slot k ∷ []) (scope k (Cell a) (Is t a (slice_index_or (here s) (address (Slot k ∷ [])) nought)) (λ sc c. single t x.run.sig sc (here s) k a c) i)

  element_of : (k m : ℕ) (a : Ty) → InScope x.run.scope k (Row m (Cell a)) → (i : ℕ) → i < m → Is t a (loaded (further (At src.Binding i) (variable_at k s)) s.env)
  element_of k m a j i l =
      running (Is t a) s (At src.Binding i ∷ (Slot k ∷ [])) (scope k (Row m (Cell a)) (Is t a (slice_index_or (here s) (address (At src.Binding i ∷ (Slot k ∷ []))) nought)) (λ sc c. element t x.run.sig sc (here s) k m a i l c) j)

  by_name : (todo : List Todo) → ReadsVariable t x.run.scope s todo
  by_name [] = tt
  by_name (piece.Eval (src.Get k) ∷ todo) = λ q a i. variable k a i
  by_name (piece.Eval e ∷ todo) = tt
  by_name (_ ∷ todo) = tt

  at_element : (todo : List Todo) (own : List Ty) → ReadsElement x.run.scope s todo own → ReadsPlace t x.run.sig s todo own
  at_element (piece.LoadNow ∷ todo) (Cell a ∷ more) e =
      λ q. subst (λ v. Is t a (loaded v s.env)) (sym e.5) (element_of e.0 e.1 a e.3 e.2 e.4)
  at_element _ own e = absurd e

pub law_reading : LawReading
law_reading = record {
  variables = variable;
  elements = element_of;
  reads = λ t s x h. by_name t [] s x h s.run.control;
  reads_element = λ t s x h. at_element t [] s x h s.run.control x.run.own;
}

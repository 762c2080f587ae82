-- What is bound leaves objects alone whose constructors are still to be called.
use Rattle.std.proofs.Common.{◌≡◌, ℕ, inl, inr, Bool, true, false, List, [], ◌∷◌, drop, refl}
use Rattle.uc_tree.specs.Programs.{Program}
use Rattle.uc_tree.specs.Source as src
use Rattle.uc_tree.specs.Source.{Expr, CleanUp, Stmts, Source}
use Rattle.uc_machine.specs.declared.exec.Owner.TheVariants.{Frame, Fields}
use Rattle.uc_machine.specs.Executions.{others}
use Rattle.uc_machine.specs.Pieces as piece
use Rattle.uc_machine.specs.Pieces.{Value, Number, Place, Running, Object, Nothing, address, Todo, Active, State, top, below}
use Rattle.uc_resolve.specs.Resolve.{source_of}
use Rattle.uc_state_laws.specs.Layout.{Sized}
use Rattle.uc_state_laws.specs.Counted.{params}
use Rattle.uc_place_laws.specs.Opened.{OfPlain, OpensOf}
use Rattle.uc_place_laws.specs.OpeningLaws.{NoneAwaited}
use Rattle.uc_place_laws.specs.Calling.{Calling, NoneBehind, EndsBefore}
use Rattle.uc_place_laws.specs.Asides.{PendsBefore, LiesAside, IsNear, Sits, Mark, Holds, rest, rests, OkNow}
use Rattle.uc_place_laws.specs.Placed.{EndsIt, OpensFor, IsObject, ScopeFor, PlacedState}
use Rattle.uc_place_laws.specs.BindingLaws.{IsNamedPlace}
use Rattle.uc_place_laws.specs.Sparing.{CalledBefore, Spares, SparesAt, LawSpares}
use Rattle.uc_place_laws.proofs.AsideMarks.{holds_below, holds_aside, holds_drop, awaited_more, none_calling}
use Rattle.uc_place_laws.proofs.BindingWalk.{law_bound}

no_both : {A : Type 0} (b : Bool) → b ≡ true → b ≡ false → A
no_both b h k = absurd (cc)

-- the scope that opens behind what makes and binds an object ends that by its number
plain_none : (given : Type 0) (name : Expr) (c : CleanUp) → EndsIt given name c → OfPlain (λ d k. ⊥) c
plain_none given name (src.Destroys (src.OfObject (src.CallOn d (src.Variable k) args))) (inl h) = no_both false h.1 refl
plain_none given name (src.Destroys (src.OfObject (src.CallOn d (src.Variable k) args))) (inr f) = let e = f.field in absurd (cc)
plain_none given name (src.Destroys (src.OfObject (src.CallUnwritten d (src.Variable k)))) (inl h) = no_both false h.1 refl
plain_none given name (src.Destroys (src.OfObject (src.CallUnwritten d (src.Variable k)))) (inr f) = let e = f.field in absurd (cc)
plain_none given name c h = tt

opens_none : (given : Type 0) (name : Expr) (ss : Stmts) → OpensFor (EndsIt given name) ss → OpensOf (λ d k. ⊥) ss
opens_none given name (src.Scoped c rest) h = plain_none given name c h
opens_none given name ss h = tt

none_made : (given : Type 0) (name : Expr) (todo : List Todo) → ScopeFor given name todo → NoneAwaited todo
none_made given name (piece.DropNow ∷ (piece.Within line ∷ (piece.Rest ss ∷ todo))) h = opens_none given name ss h
none_made given name todo h = tt

module _ (Z : ℕ → ℕ → Type 0) where
  called_before : (cell d : ℕ) (cs : List Active) → PendsBefore Z cell d cs → CalledBefore Z cell d cs
  called_before cell d [] h = tt
  called_before cell d (c ∷ cs) h = ((λ e. let k = h.0 e in k.2), called_before cell d cs h.1)

  made_calling : (given : Type 0) (name : Expr) (todo : List Todo) → ScopeFor given name (others todo) → NoneBehind todo → (cell : ℕ) → Calling (EndsBefore Z cell) todo
  made_calling given name (piece.CallOnNow q ∷ todo) h u cell =
      (awaited_more (λ d k. ⊥) (EndsBefore Z cell) (λ d k z. absurd z) todo (none_made given name todo h), none_calling (EndsBefore Z cell) todo u)
  made_calling given name (piece.CallUnwrittenNow q ∷ todo) h u cell =
      (awaited_more (λ d k. ⊥) (EndsBefore Z cell) (λ d k z. absurd z) todo (none_made given name todo h), none_calling (EndsBefore Z cell) todo u)
  made_calling given name todo h u cell = absurd u

  module _ (s : State) (todo : List Todo) (calls : (cell : ℕ) → Calling (EndsBefore Z cell) todo) where
    spares : (v : Value) → LiesAside Z s.env.exec s.callers v → Spares Z s.env.exec (record s.run { control = todo } ∷ s.callers) v
    spares (Number z) h = tt
    spares (Place (Frame m d) p) h = (h.0, ((λ e. calls (address p)), called_before (address p) d s.callers h.1))
    spares (Place (Fields o) p) h = tt
    spares (Running e) h = tt
    spares (Object o) h = tt
    spares Nothing h = tt

module _ (p : Program) (makes : ℕ → Bool) (s : State) (placed : PlacedState (Sized p) (source_of p) s) (made : Bool) (this : made ≡ true → LiesAside (Sized p) s.env.exec s.callers s.run.this × Sits (Sized p) s.env.exec s.callers s.run.this) (ms : List Mark) (holds : Holds (Sized p) s.env.exec s.run.frame s.run.this s.callers ms s.run.operands) where
  one : Holds (Sized p) s.env.exec s.run.frame s.run.this s.callers (rest ms) (below s.run.operands)
  one = holds_below (Sized p) s.env.exec s.run.frame s.run.this s.callers ms s.run.operands holds

  spares_at : (l : List Todo) → s.run.control ≡ l → OkNow makes (source_of p) (IsNear (Sized p) s.run.frame s.callers) made ms l → SparesAt (Sized p) (source_of p) l s
  spares_at (piece.BindNow ∷ todo) e h =
      spares (Sized p) s todo (λ cell. none_calling (EndsBefore (Sized p) cell) todo h.0.2) (top (below s.run.operands)) (holds_aside (Sized p) s.env.exec s.run.frame s.run.this s.callers (rest ms) (below s.run.operands) one h.0.0).0
  spares_at (piece.BindMadeNow c r ∷ todo) e h =
      let n = params (source_of p) r in
      let x : IsNamedPlace p s todo (others todo) (top (drop n (below s.run.operands))) = law_bound.made (source_of p) p s placed c r todo e in
      spares (Sized p) s todo (made_calling (Sized p) (IsObject (top s.run.operands)) x.name todo x.scope h.0.3) (top (drop n (below s.run.operands))) (holds_aside (Sized p) s.env.exec s.run.frame s.run.this s.callers (rests n (rest ms)) (drop n (below s.run.operands)) (holds_drop (Sized p) s.env.exec s.run.frame s.run.this s.callers n (rest ms) (below s.run.operands) one) h.0.1).0
  spares_at (piece.SetUpNow r ∷ todo) e h = spares (Sized p) s todo (λ cell. none_calling (EndsBefore (Sized p) cell) todo h.0.3) s.run.this (this h.0.0).0
  spares_at l e h = tt

pub law_spares : LawSpares
law_spares p makes s h placed = spares_at p makes s placed h.run.made h.run.this h.run.marks h.run.holds s.run.control refl h.run.ok

-- What is bound, and the object at hand that gets an execution, lies aside.
use Rattle.std.proofs.Common.{◌≡◌, ℕ, ◌<◌, Bool, true, List, [], ◌∷◌, drop, arith}
use Rattle.uc_tree.specs.Source.{Source}
use Rattle.uc_machine.specs.declared.exec.Owner.{Owner}
use Rattle.uc_machine.specs.declared.exec.Owner.TheVariants.{Frame, Fields}
use Rattle.uc_machine.specs.Pieces as piece
use Rattle.uc_machine.specs.Pieces.{Link, Value, Number, Place, Running, Object, Nothing, LAST_ADDRESS, address, Todo, Active, State, top, below}
use Rattle.uc_state_laws.specs.Layout.{Sized}
use Rattle.uc_state_laws.specs.There.{IsBefore, Pends, EachNext}
use Rattle.uc_state_laws.specs.ThereStates.{StackAside, InFrame, IsAside}
use Rattle.uc_state_laws.specs.Counted.{params}
use Rattle.uc_place_laws.specs.Asides.{IsNearer, PendsBefore, OwnerAside, LiesAside, IsNear, Sits, Mark, Holds, rest, rests, Free, OkNow}
use Rattle.uc_place_laws.specs.AsideLaws.{PutsAt, LawPuts}
use Rattle.uc_place_laws.proofs.AsideMarks.{holds_below, holds_aside, holds_drop, pends_more, each_next_more, free_pends}

-- what lies before a cell is not at that
apart : (cell : ℕ) (p : List Link) → IsBefore cell p → address p ≡ cell → ⊥
apart cell p h e = omega (arith, h, e)

stack_aside : (Z : ℕ → ℕ → Type 0) (cell d : ℕ) (cs : List Active) → PendsBefore Z cell d cs → StackAside cell d cs
stack_aside Z cell d [] h = tt
stack_aside Z cell d (c ∷ cs) h = (here, stack_aside Z cell d cs h.1)
  where
    here : c.frame ≡ d → Pends (λ p. address p ≡ cell → ⊥) c.control × EachNext (λ p. address p < LAST_ADDRESS → address p ≡ cell → ⊥) c.control
    here e =
        let k = h.0 e in
        (pends_more (IsBefore cell) (λ p. address p ≡ cell → ⊥) (apart cell) c.control k.0, each_next_more (IsNearer cell) (λ p. address p < LAST_ADDRESS → address p ≡ cell → ⊥) (λ p z near. apart cell p (z near)) c.control k.1)

module _ (Z : ℕ → ℕ → Type 0) (s : State) (todo : List Todo) (free : Free todo) where
  in_frame : (o : Owner) (cell : ℕ) → OwnerAside Z s.env.exec s.callers o cell → InFrame o cell s.run.frame todo s.callers s.env
  in_frame (Frame n d) cell h = (h.0, (λ e. free_pends (λ p. address p ≡ cell → ⊥) todo free), stack_aside Z cell d s.callers h.1)
  in_frame (Fields o) cell h = tt

  is_aside : (v : Value) → LiesAside Z s.env.exec s.callers v → IsAside v todo s
  is_aside (Number z) h = tt
  is_aside (Place o p) h = in_frame o (address p) h
  is_aside (Running e) h = tt
  is_aside (Object o) h = tt
  is_aside Nothing h = tt

module _ (Z : ℕ → ℕ → Type 0) (makes : ℕ → Bool) (source : Source) (s : State) (made : Bool) (this : made ≡ true → LiesAside Z s.env.exec s.callers s.run.this × Sits Z s.env.exec s.callers s.run.this) (ms : List Mark) (holds : Holds Z s.env.exec s.run.frame s.run.this s.callers ms s.run.operands) where
  one : Holds Z s.env.exec s.run.frame s.run.this s.callers (rest ms) (below s.run.operands)
  one = holds_below Z s.env.exec s.run.frame s.run.this s.callers ms s.run.operands holds

  puts_at : (l : List Todo) → OkNow makes source (IsNear Z s.run.frame s.callers) made ms l → PutsAt source l s
  puts_at (piece.BindNow ∷ todo) h = is_aside Z s todo h.0.1 (top (below s.run.operands)) (holds_aside Z s.env.exec s.run.frame s.run.this s.callers (rest ms) (below s.run.operands) one h.0.0).0
  puts_at (piece.BindMadeNow c r ∷ todo) h =
      let n = params source r in
      is_aside Z s todo h.0.2 (top (drop n (below s.run.operands))) (holds_aside Z s.env.exec s.run.frame s.run.this s.callers (rests n (rest ms)) (drop n (below s.run.operands)) (holds_drop Z s.env.exec s.run.frame s.run.this s.callers n (rest ms) (below s.run.operands) one) h.0.1).0
  puts_at (piece.SetUpNow r ∷ todo) h = is_aside Z s todo h.0.2 s.run.this (this h.0.0).0
  puts_at l h = tt

pub law_puts : LawPuts
law_puts p makes source s h = puts_at (Sized p) makes source s h.run.made h.run.this h.run.marks h.run.holds s.run.control h.run.ok

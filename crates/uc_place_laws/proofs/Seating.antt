-- What is bound lies in what those build who were called one by another.
use Rattle.std.proofs.Common.{◌≡◌, ℕ, Bool, true, List, ◌∷◌, drop}
use Rattle.uc_tree.specs.Source.{Source}
use Rattle.uc_machine.specs.Pieces as piece
use Rattle.uc_machine.specs.Pieces.{Todo, State, top, below}
use Rattle.uc_state_laws.specs.Layout.{Sized}
use Rattle.uc_resolve.specs.Resolve.{source_of}
use Rattle.uc_state_laws.specs.Counted.{params}
use Rattle.uc_place_laws.specs.Asides.{LiesAside, IsNear, Sits, Mark, Holds, rest, rests, OkNow}
use Rattle.uc_place_laws.specs.Seating.{SeatsAt, LawSeats}
use Rattle.uc_place_laws.proofs.AsideMarks.{holds_below, holds_aside, holds_drop}

module _ (Z : ℕ → ℕ → Type 0) (makes : ℕ → Bool) (source : Source) (s : State) (made : Bool) (this : made ≡ true → LiesAside Z s.env.exec s.callers s.run.this × Sits Z s.env.exec s.callers s.run.this) (ms : List Mark) (holds : Holds Z s.env.exec s.run.frame s.run.this s.callers ms s.run.operands) where
  one : Holds Z s.env.exec s.run.frame s.run.this s.callers (rest ms) (below s.run.operands)
  one = holds_below Z s.env.exec s.run.frame s.run.this s.callers ms s.run.operands holds

  seats_at : (l : List Todo) → OkNow makes source (IsNear Z s.run.frame s.callers) made ms l → SeatsAt Z source l s
  seats_at (piece.BindNow ∷ todo) h = (holds_aside Z s.env.exec s.run.frame s.run.this s.callers (rest ms) (below s.run.operands) one h.0.0).1
  seats_at (piece.BindMadeNow c r ∷ todo) h =
      let n = params source r in
      (holds_aside Z s.env.exec s.run.frame s.run.this s.callers (rests n (rest ms)) (drop n (below s.run.operands)) (holds_drop Z s.env.exec s.run.frame s.run.this s.callers n (rest ms) (below s.run.operands) one) h.0.1).1
  seats_at (piece.SetUpNow r ∷ todo) h = (this h.0.0).1
  seats_at l h = tt

pub law_seats : LawSeats
law_seats p makes s h = seats_at (Sized p) makes (source_of p) s h.run.made h.run.this h.run.marks h.run.holds s.run.control h.run.ok

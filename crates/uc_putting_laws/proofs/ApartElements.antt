-- What an activation builds or destroys is not at home in its own frame, and in no element that stands of arrays of which older ones build or destroy others.
use Rattle.std.proofs.Common.{◌≡◌, true, List, ◌∷◌, sym, subst, arith}
use Rattle.uc_machine.specs.declared.exec.Owner.TheVariants.{Frame}
use Rattle.uc_machine.specs.Pieces as piece
use Rattle.uc_machine.specs.Pieces.{Place, Object, Todo, State}
use Rattle.uc_putting_laws.specs.ObjectsAtHand.{same_place, LiesIn, there, BelongsBelow}
use Rattle.uc_putting_laws.specs.Putting.{Setting, Mark, around, Ok, PutState}
use Rattle.uc_putting_laws.specs.ApartElements.{IsApart, GoesApartAt, LawApartElements}
use Rattle.uc_putting_laws.proofs.ObjectsWithin.{not_below}
use Rattle.uc_putting_laws.proofs.OwnMarks.{home_below}

module _ (g : Setting) (s : State) (put : PutState g s) where
  apart : put.run.made.builds ≡ true → IsApart g.few s
  apart b o e = (
    (λ p q. not_below g.few s.env.exec s.run.frame s.run.frame p (omega arith) (g.few.home o) (subst (LiesIn g.few (Place (Frame s.env.exec s.run.frame) p)) (sym q) (there same_place)) home),
    put.run.this.apart b o e,
  )
    where
      home : BelongsBelow g.few s.env.exec s.run.frame (g.few.home o)
      home = home_below g.few s.env.exec s.run.frame o (subst (BelongsBelow g.few s.env.exec s.run.frame) e (put.run.this.own b))

  goes_apart : (ms : List Mark) (l : List Todo) → Ok g (around s.env.exec s.run s.callers) put.run.made ms l → GoesApartAt g.few l s
  goes_apart ms (piece.GoneNow ∷ todo) h = apart h.0
  goes_apart ms (piece.GiveUpNow ∷ todo) h = apart h.0
  goes_apart ms l h = tt

pub law_apart_elements : LawApartElements
law_apart_elements g s put = goes_apart g s put put.run.marks s.run.control put.run.ok

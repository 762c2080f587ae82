-- Where an object goes, it is not at home in the frame of the activation that lets go of it, and in no element that still stands of an array of mutex objects, a
-- variable, of which older ones build or destroy others.
use Rattle.std.specs.Prelude.{◌≡◌, ℕ, List, ◌∷◌}
use Rattle.uc_machine.specs.declared.exec.Owner.TheVariants.{Frame}
use Rattle.uc_machine.specs.Pieces.{Link, Place, Object, Todo, GoneNow, GiveUpNow, State}
use Rattle.uc_life_laws.specs.Things.{Few}
use Rattle.uc_putting_laws.specs.Seats.{NotStanding}
use Rattle.uc_putting_laws.specs.Putting.{Setting, PutState}

module _ (few : Few) where
  abbrev pub IsApart : State → Type 0
  IsApart s = (o : ℕ) → s.run.this ≡ Object o →
      ((p : List Link) → few.home o ≡ Place (Frame s.env.exec s.run.frame) p → ⊥) × NotStanding s.env.exec (few.home o) s.callers

  abbrev pub GoesApartAt : List Todo → State → Type 0
  GoesApartAt (GoneNow ∷ todo) s = IsApart s
  GoesApartAt (GiveUpNow ∷ todo) s = IsApart s
  GoesApartAt todo s = Unit {0}

  abbrev pub GoesApart : State → Type 0
  GoesApart s = GoesApartAt s.run.control s

-- so it is in each state in which this is known of operands, of whatever source
abbrev pub LawApartElements : Type 0
LawApartElements = (g : Setting) (s : State) → PutState g s → GoesApart g.few s

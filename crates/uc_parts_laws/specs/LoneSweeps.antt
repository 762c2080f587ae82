-- Where an activation destroys the elements of an array of mutex objects that is a variable, older activations build and destroy nothing in that.
use Rattle.std.specs.Prelude.{ℕ, List, [], ◌∷◌, Option, Some, None}
use Rattle.uc_tree.specs.Source.{Shape}
use Rattle.uc_machine.specs.declared.exec.Exec.{Exec}
use Rattle.uc_machine.specs.Pieces as piece
use Rattle.uc_machine.specs.Pieces.{Todo, Active, State}
use Rattle.uc_life_laws.specs.Things.{Few}
use Rattle.uc_putting_laws.specs.ObjectsAtHand.{LiesIn, IsBuilt, variable}
use Rattle.uc_putting_laws.specs.Putting.{Setting, PutState}
use Rattle.uc_parts_laws.specs.Standing.{array_of}

-- of the array, by its variable
abbrev pub OfArray : (ℕ → Type 0) → Option (Shape × ℕ × ℕ) → Type 0
OfArray P None = Unit {0}
OfArray P (Some a) = P a.1

-- its elements are destroyed next, or behind the one that is being destroyed
abbrev pub SweepsNext : (ℕ → Type 0) → List Todo → Type 0
SweepsNext P (piece.Sweep e ∷ todo) = OfArray P (array_of e)
SweepsNext P (piece.DropNow ∷ (piece.Sweep e ∷ todo)) = OfArray P (array_of e)
SweepsNext P todo = Unit {0}

module _ (few : Few) (n : Exec) where
  -- of these activations none builds or destroys a mutex object that is at home in what is at this variable
  abbrev pub BuildsNoneAt : List Active → ℕ → ℕ → Type 0
  BuildsNoneAt older f k = (o : ℕ) → IsBuilt older o → LiesIn few (variable n f k) (few.home o) → ⊥

  abbrev pub SweepsAlone : List Active → Type 0
  SweepsAlone [] = Unit {0}
  SweepsAlone (a ∷ older) = SweepsNext (λ k. BuildsNoneAt older a.frame k) a.control × SweepsAlone older

-- so it is in each state in which it is known of operands what of them lies where, of whatever source
abbrev pub LawLoneSweeps : Type 0
LawLoneSweeps = (g : Setting) (s : State) → PutState g s → SweepsAlone g.few s.env.exec (s.run ∷ s.callers)

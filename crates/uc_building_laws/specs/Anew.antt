-- Activations that have still to call constructors of objects that are variables: nothing is bound yet in the fields of these.
use Rattle.std.specs.Prelude.{◌≡◌, ℕ, Bool, true, List, [], ◌∷◌, Some, slice_index_or}
use Rattle.uc_machine.specs.Pieces as piece
use Rattle.uc_machine.specs.Pieces.{Slot, FieldAt, Value, Number, Place, Running, Object, Nothing, Todo, Active, address, nought}
use Rattle.uc_typing.specs.Typing.{Ty, Cell, Table}
use Rattle.uc_place_laws.specs.Opened.{BuildsOf}
use Rattle.uc_place_laws.specs.Calling.{Calling}
use Rattle.uc_life_laws.specs.Things.{IsField}
use Rattle.uc_life_laws.specs.LifeStates.{frame_at}

-- nothing is bound there
abbrev pub IsFree : Value → Type 0
IsFree (Number n) = Unit {0}
IsFree (Place o p) = ⊥
IsFree (Running e) = ⊥
IsFree (Object o) = ⊥
IsFree Nothing = Unit {0}

-- of the object whose scope opens behind the next statement, where that is next, or once the line of a declaration is left whose cells have just
-- started anew
abbrev pub OnWay : (ℕ → ℕ → Type 0) → List Todo → Type 0
OnWay P (piece.Rest ss ∷ todo) = BuildsOf P ss
OnWay P (piece.Within line ∷ (piece.Rest ss ∷ todo)) = BuildsOf P ss
OnWay P (piece.Variables [] ∷ (piece.Within line ∷ (piece.Rest ss ∷ todo))) = BuildsOf P ss
OnWay P todo = Unit {0}

-- of an object that the routine d destroys at the variable k of the frame of a depth: nothing is bound in the fields of its class of which `heads`
-- tells
abbrev pub IsAnew : Table → (ℕ → ℕ → Bool) → List (List Value) → ℕ → ℕ → ℕ → Type 0
IsAnew t heads fs g d k = (i : ℕ) → (t.routine d).this ≡ Some i → (m : ℕ) → IsField t i m → heads i m ≡ true →
    (b : Ty) → t.fields i m ≡ Cell b → IsFree (slice_index_or (frame_at g fs) (address (FieldAt (t.shape i) m ∷ (Slot k ∷ []))) nought)

-- so it is of each of which these activations have still to call the constructor
abbrev pub AllAnew : Table → (ℕ → ℕ → Bool) → List (List Value) → List Active → Type 0
AllAnew t heads fs [] = Unit {0}
AllAnew t heads fs (a ∷ older) = Calling (IsAnew t heads fs a.frame) a.control × AllAnew t heads fs older

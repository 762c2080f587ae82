-- What is taken from a reader, where it tells the bytes that it has left.
use Rattle.std.specs.Prelude.{◌≡◌, ℕ, ◌<◌, ◌≤◌, Bool, true, List, ◌++◌, length, Option, Some}
use Rattle.std.specs.Io.KnownBytes.{Consumes}
use Rattle.uc_outside.specs.declared.faults.StoreFault.{StoreFault}
use Rattle.uc_outside.specs.declared.faults.StoreFault.TheVariants.{Failed, TooLong, NoMemory}

-- at most this many bytes were taken, from the front
pub record TakesAtMost (before after : Option (List ℕ)) (most : ℕ) : Type 0 where
  pub taken : List ℕ
  pub consumed : Consumes before after taken
  pub few : length taken ≤ most

-- these were all the bytes
abbrev pub GaveAll : Option (List ℕ) → List ℕ → Type 0
GaveAll before bytes = (left : List ℕ) → before ≡ Some left → bytes ≡ left

-- there were more bytes than the limit, where that is the fault
abbrev pub GaveFault : Option (List ℕ) → ℕ → StoreFault → Type 0
GaveFault before limit Failed = Unit {0}
GaveFault before limit TooLong = (left : List ℕ) → before ≡ Some left → limit < length left
GaveFault before limit NoMemory = Unit {0}

-- at most this many bytes were taken, and all of them appended unless the reading failed
pub record AppendsPiece (before after : Option (List ℕ)) (most : ℕ) (old new : List ℕ) (went_well : Bool) : Type 0 where
  pub taken : List ℕ
  pub consumed : Consumes before after taken
  pub few : length taken ≤ most
  pub appended : went_well ≡ true → new ≡ old ++ taken

-- The entries that are made, beside those of a journal.
use Rattle.std.specs.Prelude.{◌≡◌, ℕ, Bool, List, ◌∷◌, ◌++◌, Option, Some, None, length}
use Rattle.uc_entry.specs.declared.entry.Entry.{Entry}
use Rattle.uc_judge.specs.Runs.{written}

-- entries that go on as these do, as they are written
pub record GoesAs (lines : Bool) (a z : List Entry) : Type 0 where
  pub rest : List Entry
  pub is : z ≡ written lines a ++ rest

-- entries that do so for n entries, and then end or have another one
pub record TurnsOff (lines : Bool) (a z : List Entry) (n : ℕ) : Type 0 where
  pub before : List Entry
  pub here : Entry
  pub later : List Entry
  pub made : written lines a ≡ before ++ here ∷ later
  pub rest : List Entry
  pub is : z ≡ before ++ rest
  pub off : (y : List Entry) → rest ≡ here ∷ y → ⊥
  pub place : length before ≡ n

abbrev pub Compares : Bool → List Entry → List Entry → Option ℕ → Type 0
Compares lines a z None = GoesAs lines a z
Compares lines a z (Some n) = TurnsOff lines a z n

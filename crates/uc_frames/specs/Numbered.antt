-- Where a numbered thing stands in a list, and lists in the order of their numbers.
use Rattle.std.specs.Prelude.{◌≡◌, ℕ, ◌<◌, ◌≤◌, List, [], ◌∷◌, length, reverse, Some, slice_get, slice_set, remove}
use Rattle.uc_machine.specs.Executions.{update}
use Rattle.uc_entry.specs.Keyed.{find}
use Rattle.uc_machine.specs.Switches.{without}

pub record IsAt {X : Type 0} (k : ℕ) (ps : List (ℕ × X)) (i : ℕ) : Type 0 where
  pub within : i < length ps
  pub item : X
  pub is : slice_get ps i ≡ Some (k, item)
  pub finds : find k ps ≡ Some item
  pub updates : (x : X) → update k x ps ≡ slice_set ps i (k, x)
  pub removes : without k ps ≡ remove ps i

-- the last thing with that number stands here; so it is the first one of the list that begins at its other end
pub record IsNewest {X : Type 0} (k : ℕ) (ps : List (ℕ × X)) (i : ℕ) : Type 0 where
  pub within : i < length ps
  pub item : X
  pub is : slice_get ps i ≡ Some (k, item)
  pub finds : find k (reverse ps) ≡ Some item
  pub updates : (x : X) → update k x (reverse ps) ≡ reverse (slice_set ps i (k, x))
  pub removes : without k (reverse ps) ≡ reverse (remove ps i)

-- numbers that do not fall, none below the first of these, none above the second
abbrev pub Ascends : {X : Type 0} → ℕ → List (ℕ × X) → ℕ → Type 0
Ascends low [] high = low ≤ high
Ascends low (p ∷ ps) high = (low ≤ p.0) × Ascends p.0 ps high

-- so many stand first whose numbers are below this one
pub record IsBound {X : Type 0} (k : ℕ) (ps : List (ℕ × X)) (i : ℕ) : Type 0 where
  pub near : i ≤ length ps
  pub before : (j : ℕ) (q : ℕ × X) → j < i → slice_get ps j ≡ Some q → q.0 < k
  pub behind : (j : ℕ) (q : ℕ × X) → i ≤ j → slice_get ps j ≡ Some q → k ≤ q.0

-- How far a table of values has come.
use Rattle.std.specs.Prelude.{◌≡◌, ℕ, zero, suc, ℤ, ◌+◌, ◌<◌, List, [], ◌∷◌, Option, Some, None, get_or, slice_get}
use Rattle.uc_tree.specs.Programs.{Constant}
use Rattle.uc_tree.specs.Constants.{own_value, constant_value}
use Rattle.uc_layout.specs.Values.{value_at}

-- an option that has a value wherever another has one, and the same
pub record Under (a b : Option ℤ) : Type 0 where
  pub kept : (z : ℤ) → a ≡ Some z → b ≡ Some z

-- the value of a constant that names others less than so many deep
abbrev pub own_at : ℕ → List Constant → Constant → Option ℤ
own_at zero cs c = None
own_at (suc k) cs c = own_value (constant_value k cs) c

-- how many values a table has
abbrev pub known : List (Option ℤ) → ℕ
known [] = 0
known (None ∷ vs) = known vs
known (Some z ∷ vs) = 1 + known vs

-- a table in which so many values were reckoned, one after another
pub record Sound (cs : List Constant) (vs : List (Option ℤ)) : Type 0 where
  pub at : (j : ℕ) (c : Constant) → slice_get cs j ≡ Some c → Under (get_or vs j None) (own_at (known vs) cs c)

-- the first n constants have what can be reckoned of them by the table
pub record Reckoned (cs : List Constant) (vs : List (Option ℤ)) (n : ℕ) : Type 0 where
  pub at : (j : ℕ) (c : Constant) → j < n → slice_get cs j ≡ Some c → Under (own_value (value_at cs vs) c) (get_or vs j None)

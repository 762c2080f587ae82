-- Which classes have a class in their fields: how far a table of flags has come.
use Rattle.std.specs.Prelude.{◌≡◌, ℕ, ◌+◌, ◌<◌, List, [], ◌∷◌, Bool, true, false, get_or, length}
use Rattle.std.specs.List.{list_any}
use Rattle.uc_tree.specs.Rows.{ClassLayout, row_at, leads, reaches, has_itself}

abbrev pub flag_at : List Bool → ℕ → Bool
flag_at flags i = get_or flags i false

-- how many flags stand
abbrev pub flagged : List Bool → ℕ
flagged [] = 0
flagged (false ∷ fs) = flagged fs
flagged (true ∷ fs) = 1 + flagged fs

-- whether the class i has the class `to` in its fields, where the flags tell it of the classes of its fields
abbrev pub row_leads : List ClassLayout → List Bool → ℕ → ℕ → Bool
row_leads rows flags to i = list_any (leads (flag_at flags) to) (row_at rows i).held

-- flags that were set one after another
pub record Led (rows : List ClassLayout) (to : ℕ) (flags : List Bool) : Type 0 where
  pub at : (j : ℕ) → flag_at flags j ≡ true → reaches (flagged flags) rows to j ≡ true

-- of the first n classes each that leads to `to` by the flags has its flag
pub record Told (rows : List ClassLayout) (to : ℕ) (flags : List Bool) (n : ℕ) : Type 0 where
  pub at : (j : ℕ) → j < n → row_leads rows flags to j ≡ true → flag_at flags j ≡ true

-- whether a class has itself in its fields; of one that has not no way comes back, however long
pub record IsCircle (rows : List ClassLayout) (class : ℕ) (flag : Bool) : Type 0 where
  pub itself : flag ≡ has_itself rows class
  pub never : flag ≡ false → (steps : ℕ) → reaches steps rows class class ≡ false

-- which classes have themselves in their fields
pub record AreCircles (rows : List ClassLayout) (flags : List Bool) (n : ℕ) : Type 0 where
  pub at : (j : ℕ) → j < n → IsCircle rows j (flag_at flags j)

-- which classes have the class `to` in their fields
pub record Reaching (rows : List ClassLayout) (to : ℕ) (flags : List Bool) : Type 0 where
  pub at : (j : ℕ) → flag_at flags j ≡ reaches (length rows) rows to j

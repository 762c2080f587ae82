-- Tables of the cells of classes, capped.
use Rattle.std.specs.Prelude.{◌≡◌, ℕ, ◌<◌, List, Bool, get_or, if◌then◌else◌}
use Rattle.uc_tree.specs.Capped.{capped}
use Rattle.uc_tree.specs.Rows.{ClassLayout, row_at, row_cells, cells_within}
use Rattle.uc_layout.specs.ContainmentProgress.{flag_at}

abbrev pub cell_at : List ℕ → ℕ → ℕ
cell_at cells i = get_or cells i 0

-- a class that has itself in its fields has no cells, and any other the sum over its fields
abbrev pub next_at : List ClassLayout → List Bool → List ℕ → ℕ → ℕ
next_at rows circles cells i = if flag_at circles i then 0 else capped (row_cells (cell_at cells) (row_at rows i))

-- a table reckoned of another, for the first n classes
pub record Follows (rows : List ClassLayout) (circles : List Bool) (cells next : List ℕ) (n : ℕ) : Type 0 where
  pub at : (i : ℕ) → i < n → cell_at next i ≡ next_at rows circles cells i

-- the cells of classes, counted so many classes deep
pub record Counted (k : ℕ) (rows : List ClassLayout) (cells : List ℕ) : Type 0 where
  pub at : (i : ℕ) → cell_at cells i ≡ capped (cells_within k rows i)

-- What holds of every program.
use Rattle.std.specs.Prelude.{◌≡◌, ◌<◌, ℕ, List, Some}
use Rattle.uc_tree.specs.Source.{Shape, shape_cells}
use Rattle.uc_tree.specs.Paths.{PathStep, offset_of}
use Rattle.uc_tree.specs.Programs.{Program}
use Rattle.uc_tree.specs.Cells.{class_cells}
use Rattle.uc_tree.specs.Objects.{class_shape}

-- an object takes as many cells as are counted for its class
pub record LawCells : Type 0 where
  pub cells : (p : Program) (i : ℕ) → shape_cells (class_shape p i) ≡ class_cells p i

-- what a path leads to stands within the cells of its shape, and two paths lead to different cells
pub record LawPaths : Type 0 where
  pub below : (s : Shape) (xs : List PathStep) (k : ℕ) → offset_of s xs ≡ Some k → k < shape_cells s
  pub apart : (s : Shape) (xs ys : List PathStep) (k : ℕ) → offset_of s xs ≡ Some k → offset_of s ys ≡ Some k → xs ≡ ys

-- What is known of a program whose cells are counted.
use Rattle.std.specs.Prelude.{◌≡◌, ℕ, ℤ, List, Option, Bool}
use Rattle.uc_tree.specs.Capped.{capped}
use Rattle.uc_tree.specs.Programs.{Class, Constant, Program}
use Rattle.uc_tree.specs.Constants.{constants_of, value_of_name}
use Rattle.uc_tree.specs.Rows.{ClassLayout}
use Rattle.uc_tree.specs.Cells.{classes_of, rows_of, class_cells}
use Rattle.uc_layout.specs.Values.{value_at}
use Rattle.uc_layout.specs.ContainmentProgress.{flag_at, IsCircle}
use Rattle.uc_layout.specs.CellTables.{cell_at}

pub record IsSized (p : Program) (classes : List Class) (constants : List Constant) (values : List (Option ℤ)) (rows : List ClassLayout) (circles : List Bool) (cells : List ℕ) : Type 0 where
  pub classes_are : classes ≡ classes_of p.items
  pub constants_are : constants ≡ constants_of p.items
  pub values_are : value_at constants values ≡ value_of_name constants
  pub rows_are : rows ≡ rows_of p
  pub circles_are : (i : ℕ) → IsCircle (rows_of p) i (flag_at circles i)
  pub cells_are : (i : ℕ) → cell_at cells i ≡ capped (class_cells p i)

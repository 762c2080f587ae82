-- Classes that are settled one after another, each behind those of its fields: none of them has itself in its fields, and their
-- cells are known.
use Rattle.std.specs.Prelude.{◌≡◌, ℕ, ◌≤◌, List, Bool, true, false, Option, Some, None}
use Rattle.std.specs.List.{list_all}
use Rattle.uc_tree.specs.declared.rows.FieldClass.{FieldClass}
use Rattle.uc_tree.specs.declared.rows.FieldLayout.{FieldLayout}
use Rattle.uc_tree.specs.Capped.{capped}
use Rattle.uc_tree.specs.Rows.{ClassLayout, row_at, reaches, cells_within}
use Rattle.uc_layout.specs.ContainmentProgress.{flag_at, flagged}
use Rattle.uc_layout.specs.CellTables.{cell_at}

-- whether a field holds no class, or one that is settled
abbrev pub object_settled : (ℕ → Bool) → Option FieldClass → Bool
object_settled settled None = true
object_settled settled (Some o) = settled o.class

abbrev pub held_settled : (ℕ → Bool) → FieldLayout → Bool
held_settled settled h = object_settled settled h.object

pub record Settled (rows : List ClassLayout) (flags : List Bool) (cells : List ℕ) : Type 0 where
  pub behind : (j : ℕ) → flag_at flags j ≡ true → list_all (held_settled (flag_at flags)) (row_at rows j).held ≡ true
  pub never : (j : ℕ) → flag_at flags j ≡ true → (steps : ℕ) → reaches steps rows j j ≡ false
  pub cells_are : (j : ℕ) → flag_at flags j ≡ true → (k : ℕ) → flagged flags ≤ k → cell_at cells j ≡ capped (cells_within k rows j)

-- What holds of each handler row of code, also of one that covers no op from which an event may come, so that what code is laid out
-- does not tell of it.
use Rattle.std.specs.Prelude.{◌≡◌, ℕ, ◌≤◌, ◌<◌, length, Some, slice_get}
use Rattle.uc_code.specs.Codes.{Code}
use Rattle.uc_code.specs.declared.rows.HandlerRow.{HandlerRow}

-- the row of this number, where there are so many ops: it lies among them, its handler begins at one of them, and the row around it
-- is older
pub record IsRowOf (ops number : ℕ) (row : HandlerRow) : Type 0 where
  pub range : row.from ≤ row.to
  pub within : row.to ≤ ops
  pub entry : row.entry < ops
  pub outer : row.outer ≤ number

-- there are no more rows than ops, and each is such a one
pub record HasRows (code : Code) : Type 0 where
  pub few : length code.rows ≤ length code.ops
  pub each : (number : ℕ) (row : HandlerRow) → slice_get code.rows number ≡ Some row → IsRowOf (length code.ops) number row

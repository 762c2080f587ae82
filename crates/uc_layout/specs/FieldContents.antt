-- What classes hold, by a table of values.
use Rattle.std.specs.Prelude.{ℕ, ℤ, List, Option, None, map}
use Rattle.uc_tree.specs.declared.kinds.Base.{Base}
use Rattle.uc_tree.specs.declared.kinds.Base.TheVariants as base
use Rattle.uc_tree.specs.Programs.{Class, Constant}
use Rattle.uc_tree.specs.Cells.{leading_cells, members_held}
use Rattle.uc_tree.specs.Rows.{ClassLayout}
use Rattle.uc_tree.specs.Objects.{event_from}
use Rattle.uc_layout.specs.Values.{seen_at}

abbrev pub row_by : List Class → List Constant → List (Option ℤ) → Class → ClassLayout
row_by cs constants vs c = record { leading = leading_cells c.kind; held = members_held cs (seen_at constants vs c.members) c.members }

abbrev pub rows_by : List Class → List Constant → List (Option ℤ) → List ClassLayout
rows_by cs constants vs = map (row_by cs constants vs) cs

-- the event that a base names, by its place
abbrev pub event_in : List Class → Base → Option ℕ
event_in cs (base.Named name) = event_from cs 0 name
event_in cs _ = None

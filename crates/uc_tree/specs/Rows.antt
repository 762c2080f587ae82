-- What the classes of a program hold, as numbers, and how many cells that takes.
use Rattle.std.specs.Prelude.{ℕ, zero, suc, ◌+◌, ◌*◌, List, [], ◌∷◌, Bool, false, ◌||◌, Option, Some, None, if◌then◌else◌, nat_eq, length, refl}
use Rattle.std.specs.List.{list_any}
use base.Stored.{Coded}
use Rattle.uc_tree.specs.declared.rows.FieldClass.{FieldClass}
use Rattle.uc_tree.specs.declared.rows.FieldLayout.{FieldLayout}
use Rattle.uc_tree.specs.Codes.{Codec, coded_by, via, nat_codec, flag_codec, list_codec, option_codec, pair_codec}

-- what a class holds: the cells before its fields, and the fields
pub record ClassLayout : Type 0 where
  pub leading : ℕ
  pub held : List FieldLayout

abbrev object_codec : Codec FieldClass
object_codec = via (pair_codec nat_codec flag_codec) (λ o. (o.class, o.plain)) (λ p. record { class = p.0; plain = p.1 }) (λ o. refl)

abbrev held_codec : Codec FieldLayout
held_codec = via (pair_codec nat_codec (option_codec object_codec)) (λ h. (h.count, h.object)) (λ p. record { count = p.0; object = p.1 }) (λ h. refl)

abbrev pub row_coded : Coded ClassLayout
row_coded = coded_by (via (pair_codec nat_codec (list_codec held_codec)) (λ r. (r.leading, r.held)) (λ p. record { leading = p.0; held = p.1 }) (λ r. refl))

-- the row of a class; beyond the last a class holds nothing
abbrev pub row_at : List ClassLayout → ℕ → ClassLayout
row_at [] i = record { leading = 0; held = [] }
row_at (r ∷ rs) zero = r
row_at (r ∷ rs) (suc i) = row_at rs i

-- whether a class has the class `to` in its fields, where `further` tells it of the classes of its fields
abbrev pub object_leads : (ℕ → Bool) → ℕ → Option FieldClass → Bool
object_leads further to None = false
object_leads further to (Some o) = nat_eq o.class to || further o.class

abbrev pub leads : (ℕ → Bool) → ℕ → FieldLayout → Bool
leads further to h = object_leads further to h.object

-- whether a class has the class `to` in its fields, directly or through others, in at most so many steps
unfoldable pub reaches : ℕ → List ClassLayout → ℕ → ℕ → Bool
reaches zero rows to from = false
reaches (suc steps) rows to from = list_any (leads (reaches steps rows to) to) (row_at rows from).held

-- no way without a repeated class is longer than there are classes
abbrev pub has_itself : List ClassLayout → ℕ → Bool
has_itself rows i = reaches (length rows) rows i i

-- one element: a plain object has the cells of its class, anything else one
abbrev pub element_cells : (ℕ → ℕ) → Option FieldClass → ℕ
element_cells cells None = 1
element_cells cells (Some o) = if o.plain then cells o.class else 1

-- an array has its length times one element
abbrev pub held_cells : (ℕ → ℕ) → FieldLayout → ℕ
held_cells cells h = h.count * element_cells cells h.object

abbrev pub all_held_cells : (ℕ → ℕ) → List FieldLayout → ℕ
all_held_cells cells [] = 0
all_held_cells cells (h ∷ hs) = held_cells cells h + all_held_cells cells hs

abbrev pub row_cells : (ℕ → ℕ) → ClassLayout → ℕ
row_cells cells r = r.leading + all_held_cells cells r.held

-- the cells of a class, counted so many classes deep: the sum over its fields; none where it has itself in them
unfoldable pub cells_within : ℕ → List ClassLayout → ℕ → ℕ
cells_within zero rows i = 0
cells_within (suc depth) rows i = if has_itself rows i then 0 else row_cells (cells_within depth rows) (row_at rows i)

abbrev pub cells_of : List ClassLayout → ℕ → ℕ
cells_of rows = cells_within (length rows) rows

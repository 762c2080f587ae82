-- Paths from an object, or from an element of an array, to the scalars and bindings in it: by the numbers of fields and elements, the
-- outermost first.
use Rattle.std.specs.Prelude.{ℕ, zero, suc, ◌+◌, ◌*◌, List, [], ◌∷◌, Option, Some, None, nat_lt, if◌then◌else◌}
use Rattle.uc_tree.specs.Source.{Shape, Integer, Character, Truth, Binding, Last, Field, Array, shape_cells}

pub data PathStep : Type 0 where
  ToField : ℕ → PathStep
  ToElement : ℕ → PathStep

abbrev pub behind_cells : ℕ → Option ℕ → Option ℕ
behind_cells n None = None
behind_cells n (Some k) = Some (n + k)

-- how many cells stand before the scalar or binding to which a path leads; other paths lead to none
abbrev pub offset_of : Shape → List PathStep → Option ℕ
offset_of Integer [] = Some 0
offset_of Character [] = Some 0
offset_of Truth [] = Some 0
offset_of Binding [] = Some 0
offset_of (Field s t) (ToField zero ∷ xs) = offset_of s xs
offset_of (Field s t) (ToField (suc i) ∷ xs) = behind_cells (shape_cells s) (offset_of t (ToField i ∷ xs))
offset_of (Array n s) (ToElement i ∷ xs) = if nat_lt i n then behind_cells (i * shape_cells s) (offset_of s xs) else None
offset_of _ _ = None

-- What classes hold, field by field.
use Rattle.std.specs.Prelude.{◌≡◌, List, ◌∷◌, Some}
use Rattle.uc_tree.specs.declared.rows.FieldClass.{FieldClass}
use Rattle.uc_tree.specs.declared.rows.FieldLayout.{FieldLayout}

-- an object of a class is among these fields
pub data Holds : List FieldLayout → FieldClass → Type 0 where
  First : (h : FieldLayout) (hs : List FieldLayout) (o : FieldClass) → h.object ≡ Some o → Holds (h ∷ hs) o
  Later : (h : FieldLayout) (hs : List FieldLayout) (o : FieldClass) → Holds hs o → Holds (h ∷ hs) o

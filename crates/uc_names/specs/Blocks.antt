-- What open blocks declare: names with their ids, the innermost block first, and in a block the newest declaration first.
use Rattle.std.specs.Prelude.{ℕ, List, [], ◌∷◌, Bool, false, Option, Some, None, nat_eq, is_some, if◌then◌else◌}
use Rattle.std.specs.Cmp.Lexicographic.{pointwise}

abbrev pub Block : Type 0
Block = List (List ℕ × ℕ)

-- the id that a block gives a name
abbrev pub id_in : Block → List ℕ → Option ℕ
id_in [] name = None
id_in (d ∷ ds) name = if pointwise nat_eq d.0 name then Some d.1 else id_in ds name

abbrev pub id_or : Option ℕ → Option ℕ → Option ℕ
id_or None outer = outer
id_or (Some id) outer = Some id

-- the id of the innermost declaration of a name
abbrev pub found : List Block → List ℕ → Option ℕ
found [] name = None
found (b ∷ bs) name = id_or (id_in b name) (found bs name)

-- whether the innermost block declares a name
abbrev pub is_declared : List Block → List ℕ → Bool
is_declared [] name = false
is_declared (b ∷ bs) name = is_some (id_in b name)

-- the blocks with one more declaration in the innermost
abbrev pub declared : List Block → List ℕ → ℕ → List Block
declared [] name id = []
declared (b ∷ bs) name id = ((name, id) ∷ b) ∷ bs

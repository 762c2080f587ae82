-- The names that were seen, each with the place of its newest declaration.
use Rattle.std.specs.Prelude.{◌≡◌, ℕ, ◌+◌, List, [], ◌∷◌, ◌++◌, Option, Some, None, nat_eq, is_some, option_map, option_and_then, slice_get, get_or, if◌then◌else◌}
use Rattle.std.specs.Cmp.Lexicographic.{pointwise}
use Rattle.std.specs.declared.alloc.Global.{Global}
use Rattle.std.specs.declared.vec.Vec.{Vec}

pub record Seen : Type 0 where
  pub names : List (List ℕ)
  pub places : List (Option ℕ)

abbrev pub bytes_of : Vec ℕ Global × Option ℕ → List ℕ
bytes_of e = e.0.items

abbrev pub no_names : Seen
no_names = record { names = []; places = [] }

-- the number of a name: how many others come before it
abbrev pub number_in : List (List ℕ) → List ℕ → Option ℕ
number_in [] name = None
number_in (n ∷ ns) name = if pointwise nat_eq n name then Some 0 else option_map (λ i. i + 1) (number_in ns name)

-- each name stands once
pub record Distinct (names : List (List ℕ)) : Type 0 where
  pub own : (i : ℕ) (name : List ℕ) → slice_get names i ≡ Some name → number_in names name ≡ Some i

-- the place of the newest declaration of a name
abbrev pub place_in : Seen → List ℕ → Option ℕ
place_in s name = option_and_then (λ i. get_or s.places i None) (number_in s.names name)

-- with this name among them
abbrev pub with_name : Seen → List ℕ → Seen
with_name s name = if is_some (number_in s.names name) then s else record { names = s.names ++ name ∷ []; places = s.places ++ None ∷ [] }
